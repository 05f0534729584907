-- Walking writes lines that fit, and the walked term is composable afterwards. By recursion on the term.
use Rattle.std.proofs.Common.{◌≡◌, ℕ, ◌⊎◌, [], ◌∷◌, length, Some, None, Option, refl, ◌∙◌, inl, inr, append_assoc}
use Rattle.deduction.specs.Term.{Form, pair, sealed, digest, entry, Term, name, built, mate, opener, In, among}
use Rattle.deduction.specs.Compose.{Composable}
use Rattle.deduction.proofs.Compose.{held_composable, composable_map}
use Rattle.rules.specs.Script.{Op, LEFT, RIGHT, OPEN, SAME, Script, line, ◌then◌, held}
use Rattle.rules.specs.Compose.{Composed, compose}
use Rattle.rules.specs.Walk.{compared, walked, unlocked, apart, walk}
use Rattle.rules.specs.Grows.{Holds, Grows, stays, adds, Builds, Brings, BroughtAt, takes_left, takes_right, opens, Fits, bringing, repeating}
use Rattle.rules.specs.Grows.{comparing, Closed}
use Rattle.rules.proofs.Find.{some_none, holds_held, holds_last, held_append, held_last, held_then}
use Rattle.rules.proofs.Grows.{grows_join, grows_one, grows_begins, grows_holds, grows_composable, builds_composable, builds_fit, closed_within}
use Rattle.rules.proofs.Grows.{opener_within}
use Rattle.rules.proofs.Compose.{Makes, composed_makes, composed_none}

-- a line that holds nothing leaves the held terms as they were
pub held_none : (s : Script) (op : Op) (t : Term) → In t (held (s then line op None)) → In t (held s)
held_none s op t h = go (held_then s (line op None) t h)
  where
    go : In t (held s) ⊎ (None ≡ Some t) → In t (held s)
    go (inl x) = x
    go (inr e) = absurd (some_none None e refl)

-- the script grew by lines that fit, and the term is composable
pub record Brought (P : Term → Type 0) (G : Op → Term → Type 0) (s : Script) (t : Term) (s' : Script) : Type 0 where
  pub grows : Grows (Fits P G) s s'
  pub made : Composable (held s') t

module _ (P : Term → Type 0) (c : Closed P) (G : Op → Term → Type 0) where
  -- compared, or held and then taken apart as `next` does it
  pub walked_right : (s : Script) (op : Op) (t : Term) → Brings G s op t → P t → (next : Script → Script)
      → Grows (Fits P G) (s then line op (Some t)) (next (s then line op (Some t)))
      → (o : Option Composed) → compose (s then line op None) t ≡ o → Brought P G s t (walked s op t next o)
  walked_right s op t b p next g None e =
      record {
        grows = grows_join (Fits P G) (grows_one (Fits P G) (bringing b new p)) g;
        made = grows_composable (Fits P G) g t (held_composable (among (held (s then line op (Some t)))) t (held_last s op t));
      }
    where
      new : In t (held s) → ⊥
      new i = composed_none (s then line op None) t e (held_composable (among (held (s then line op None))) t (held_append s (line op None ∷ []) t i))
  walked_right s op t b p next g (Some x) e =
      record {
        grows = adds whole (comparing brought m.holds);
        made = held_composable (among (held (compared (length s) x))) t (held_append x.script (line (SAME (length s) x.slot) None ∷ []) t now);
      }
    where
      m : Makes P (s then line op None) t x
      m = composed_makes P (s then line op None) t (closed_within P c t p) x e

      now : In t (held x.script)
      now = holds_held x.script x.slot t m.holds

      before : Composable (held s) t
      before =
          composable_map (among (held (s then line op None))) (among (held s)) (held_none s op) t
          (builds_composable P m.grows t (held_composable (among (held x.script)) t now))

      whole : Grows (Fits P G) s x.script
      whole = grows_join (Fits P G) (grows_one (Fits P G) (repeating b before)) (builds_fit P G m.grows)

      brought : BroughtAt G x.script (length s) t
      brought =
          let w = grows_begins (Builds P) m.grows in
          (s, line op None, w.0, w.1 ∙ append_assoc s (line op None ∷ []) w.0, refl, b)

  pub walk_right : (t : Term) (s : Script) (op : Op) → Brings G s op t → P t → Brought P G s t (walk s op t)
  walk_right (name k i) s op b p = walked_right s op (name k i) b p (λ s1. s1) stays (compose (s then line op None) (name k i)) refl
  walk_right (built f x y) s op b p =
      walked_right s op (built f x y) b p (apart f (length s) y (λ s1 o. walk s1 o x) (λ s1 o. walk s1 o y))
      (go f p (holds_last s op (built f x y)) (walk_right x) (walk_right y))
      (compose (s then line op None) (built f x y)) refl
    where
      open_right : (s1 : Script) (n : ℕ) → Holds s1 n (built sealed x y) → P (built sealed x y)
          → ((s2 : Script) (o : Op) → Brings G s2 o x → P x → Brought P G s2 x (walk s2 o x))
          → (o : Option Composed) → compose s1 (opener y) ≡ o → Grows (Fits P G) s1 (unlocked s1 o (λ s2 i. walk s2 (OPEN n i) x))
      open_right s1 n h q rx None e = stays
      open_right s1 n h q rx (Some o) e =
          let m = composed_makes P s1 (opener y) (opener_within P c y (c.seconds sealed x y q)) o e in
          grows_join (Fits P G) (builds_fit P G m.grows)
          (rx o.script (OPEN n o.slot) (opens (grows_holds (Builds P) m.grows n (built sealed x y) h) m.holds) (c.firsts sealed x y q)).grows

      go : (g : Form) → P (built g x y) → Holds (s then line op (Some (built f x y))) (length s) (built g x y)
          → ((s1 : Script) (o : Op) → Brings G s1 o x → P x → Brought P G s1 x (walk s1 o x))
          → ((s1 : Script) (o : Op) → Brings G s1 o y → P y → Brought P G s1 y (walk s1 o y))
          → Grows (Fits P G) (s then line op (Some (built f x y))) (apart g (length s) y (λ s1 o. walk s1 o x) (λ s1 o. walk s1 o y) (s then line op (Some (built f x y))))
      go pair q h rx ry =
          let s1 : Script = s then line op (Some (built f x y)) in
          let l = (rx s1 (LEFT (length s)) (takes_left h) (c.firsts pair x y q)).grows in
          grows_join (Fits P G) l
          (ry (walk s1 (LEFT (length s)) x) (RIGHT (length s)) (takes_right (grows_holds (Fits P G) l (length s) (built pair x y) h)) (c.seconds pair x y q)).grows
      go sealed q h rx ry =
          let s1 : Script = s then line op (Some (built f x y)) in open_right s1 (length s) h q rx (compose s1 (opener y)) refl
      go digest q h rx ry = stays
      go entry q h rx ry = stays
  walk_right (mate k) s op b p = walked_right s op (mate k) b p (λ s1. s1) stays (compose (s then line op None) (mate k)) refl
