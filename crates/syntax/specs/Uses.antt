-- What a name in a line is for.
use Rattle.std.specs.Prelude.{List, [], ◌∷◌}
use Rattle.syntax.specs.declared.mode.NameUse.{NameUse}
use Rattle.syntax.specs.declared.mode.NameUse.TheVariants.{Declared, Agent, Part}
use Rattle.syntax.specs.declared.sign.Keyword.{Keyword}
use Rattle.syntax.specs.declared.sign.Keyword.TheVariants.{Kind, Own, Line}
use Rattle.syntax.specs.Grammar.{Tok, name, keyword, opens, closes, tick, end, stray}

-- of a name that stands after a keyword and the tokens ts
abbrev pub use_under : Keyword → List Tok → NameUse
use_under (Kind k) ts = Declared
use_under Own [] = Agent
use_under Own (t ∷ ts) = Part
use_under Line [] = Agent
use_under Line (t ∷ []) = Agent
use_under Line (t ∷ u ∷ ts) = Part

-- of a name that stands after the tokens ts of its line
abbrev pub use_after : List Tok → NameUse
use_after [] = Part
use_after (keyword k ∷ ts) = use_under k ts
use_after (name w ∷ ts) = Part
use_after (opens s ∷ ts) = Part
use_after (closes s ∷ ts) = Part
use_after (tick ∷ ts) = Part
use_after (end ∷ ts) = Part
use_after (stray ∷ ts) = Part
