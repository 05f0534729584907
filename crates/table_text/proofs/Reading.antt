-- The agent of a word.
use Rattle.std.proofs.Common.{◌≡◌, ℕ, List, Some, None, Option, sym, refl, ap, ◌∙◌}
use Rattle.std.specs.Option.{unwrap_or}
use Rattle.syntax.specs.Grammar.{name}
use Rattle.syntax.specs.Words.{of_word}
use Rattle.names.specs.Names.{agent_from}
use Rattle.table_text.specs.Calls.{Known, agent_in, agent_number}
use Rattle.table_text.proofs.Tokens.{word_of_name}

-- the word that was found has the agent of the name
pub agent_of_word : (ds : Known) (w v : List ℕ) → name w ≡ of_word v → agent_number (agent_from 1 ds v) ≡ agent_in ds w
agent_of_word ds w v e = ap (agent_in ds) (sym (word_of_name w v e))

agent_or : (o : Option ℕ) → unwrap_or o 0 ≡ agent_number o
agent_or None = refl
agent_or (Some p) = refl

pub agent_found : (ds : Known) (w v : List ℕ) (o : Option ℕ) (n : ℕ) → name w ≡ of_word v → o ≡ agent_from 1 ds v → n ≡ unwrap_or o 0 → n ≡ agent_in ds w
agent_found ds w v o n e f g = g ∙ agent_or o ∙ ap agent_number f ∙ agent_of_word ds w v e
