-- What a line's first token is, and what its calls are by it.
use Rattle.std.proofs.Common.{◌≡◌, ℕ, List, [], ◌∷◌, Some, None, Option, Ok, Result, OnOk, sym, refl, ap, ◌∙◌, subst}
use Rattle.terms.specs.declared.node.Kind.{Kind}
use Rattle.rules.specs.State.{State}
use Rattle.syntax.specs.declared.sign.Keyword.{Keyword}
use Rattle.syntax.specs.declared.sign.Keyword.TheVariants as words
use Rattle.syntax.specs.declared.sign.Sign.{Sign}
use Rattle.syntax.specs.Grammar.{Tok, sign, name, keyword, end, Term, Line, blank, declares, owns, sends, term_tokens, name_tokens, line_tokens}
use Rattle.syntax.specs.Check.{Come}
use Rattle.line_check.specs.Check.{Grants}
use Rattle.protocol.specs.declared.refusal.Refusal.{Refusal}
use Rattle.table_text.specs.Ahead.{Ahead}
use Rattle.table_text.specs.Calls.{Known, AllNamed, Owns, Sends, LineMade}
use Rattle.table_text.specs.Lines.{keyword_in}
use Rattle.table_text.specs.Tables.{IsLineAt}
use Rattle.table_text.proofs.Calling.{on_ok}

-- the tokens of a line that come in a text come next in it
pub come_ahead : (text : List ℕ) (p : ℕ) (ts : List Tok) (q : ℕ) → Come text p ts q → Ahead text p ts
come_ahead text p [] q h = tt
come_ahead text p (t ∷ ts) q (a, m, h, k) = (a, m, h, come_ahead text m ts q k)

-- the line that the check granted
pub record Granted (ds : Known) (text : List ℕ) (p q : ℕ) : Type 0 where
  pub line : Line
  pub is : IsLineAt ds text p line q
  pub ahead : Ahead text p (line_tokens line)

pub granted_line : (ds : Known) (text : List ℕ) (p q : ℕ) → Grants ds text p q → Granted ds text p q
granted_line ds text p q g =
    let l = g.line.0 in
    let e : g.tokens ≡ line_tokens l = sym g.line.1 in
    let come = subst (λ z. Come text p z q) e g.come in
    record { line = l; is = record { come = come; shallow = rw (g.line.1) g.shallow; faultless = rw (g.line.1) g.faultless }; ahead = come_ahead text p (line_tokens l) q come }

-- the keyword k stands at the line's front, and the others come next at q
abbrev pub Head : Line → Option Keyword → List ℕ → ℕ → Type 0
Head blank k text q = k ≡ None
Head (declares j n ns) k text q = (k ≡ Some (words.Kind j)) × Ahead text q (name_tokens (n ∷ ns) (end ∷ []))
Head (owns a t) k text q = (k ≡ Some words.Own) × Ahead text q (name a ∷ term_tokens t (end ∷ []))
Head (sends a b t) k text q = (k ≡ Some words.Line) × Ahead text q (name a ∷ name b ∷ term_tokens t (end ∷ []))

module _ (text : List ℕ) (p q : ℕ) (s : Sign) (k : Option Keyword) (next : (t : Tok) (ts : List Tok) → Ahead text p (t ∷ ts) → (sign t ≡ s) × Ahead text q ts) (is : k ≡ keyword_in s) where
  pub headed : (l : Line) → Ahead text p (line_tokens l) → Head l k text q
  headed blank h = is ∙ sym (ap keyword_in (next end [] h).0)
  headed (declares j n ns) h = let g = next (keyword (words.Kind j)) (name_tokens (n ∷ ns) (end ∷ [])) h in (is ∙ sym (ap keyword_in g.0), g.1)
  headed (owns a t) h = let g = next (keyword words.Own) (name a ∷ term_tokens t (end ∷ [])) h in (is ∙ sym (ap keyword_in g.0), g.1)
  headed (sends a b t) h = let g = next (keyword words.Line) (name a ∷ name b ∷ term_tokens t (end ∷ [])) h in (is ∙ sym (ap keyword_in g.0), g.1)

module _ (text : List ℕ) (q : ℕ) (ds : Known) (st : State) (r : Result (Unit {0}) Refusal) (st' : State) (P : Type 0) where
  pub declared : (j : Kind) (ds' : Known) → ((ws : List (List ℕ)) → Ahead text q (name_tokens ws (end ∷ [])) → AllNamed j ws ds st r ds' st') → P
      → (l : Line) → Head l (Some (words.Kind j)) text q → LineMade l ds st r ds' st' × OnOk r P
  declared j ds' f p blank h = cc
  declared j ds' f p (declares i n ns) h =
      let e : j ≡ i = let g = h.0 in cc in
      (subst (λ z. AllNamed z (n ∷ ns) ds st r ds' st') e (f (n ∷ ns) h.1), on_ok r p)
  declared j ds' f p (owns a t) h = let g = h.0 in cc
  declared j ds' f p (sends a b t) h = let g = h.0 in cc

  pub owned : ((a : List ℕ) (t : Term) → Ahead text q (name a ∷ term_tokens t (end ∷ [])) → Owns ds a t st r st' × OnOk r P)
      → (l : Line) → Head l (Some words.Own) text q → LineMade l ds st r ds st' × OnOk r P
  owned f blank h = cc
  owned f (declares i n ns) h = let g = h.0 in cc
  owned f (owns a t) h = let m = f a t h.1 in ((m.0, refl), m.1)
  owned f (sends a b t) h = let g = h.0 in cc

  pub sent : ((a b : List ℕ) (t : Term) → Ahead text q (name a ∷ name b ∷ term_tokens t (end ∷ [])) → Sends ds a b t st r st' × OnOk r P)
      → (l : Line) → Head l (Some words.Line) text q → LineMade l ds st r ds st' × OnOk r P
  sent f blank h = cc
  sent f (declares i n ns) h = let g = h.0 in cc
  sent f (owns a t) h = let g = h.0 in cc
  sent f (sends a b t) h = let m = f a b t h.1 in ((m.0, refl), m.1)

pub nothing : (text : List ℕ) (q : ℕ) (ds : Known) (st : State) (P : Type 0) → P → (l : Line) → Head l None text q → LineMade l ds st (Ok tt) ds st × P
nothing text q ds st P p blank h = ((refl, refl, refl), p)
nothing text q ds st P p (declares i n ns) h = let g = h.0 in cc
nothing text q ds st P p (owns a t) h = let g = h.0 in cc
nothing text q ds st P p (sends a b t) h = let g = h.0 in cc
