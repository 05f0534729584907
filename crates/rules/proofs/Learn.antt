-- Initial knowledge keeps what holds of a state.
use Rattle.std.proofs.Common.{◌≡◌, ℕ, ◌<◌, Bool, true, ◌||◌, ◌⊎◌, ◌∷◌, length, set, Some, Decides, sym, refl, ap, ◌∙◌, subst, inl, inr, arith, length-set}
use Rattle.std.proofs.lemmas.Bool.Decides.{Decides-like, Decides-at, Decides-or}
use Rattle.deduction.specs.Term.{Kind, Term, Occurs, In, among}
use Rattle.deduction.specs.Compose.{Composable}
use Rattle.deduction.proofs.Derive.{derives_names}
use Rattle.deduction.proofs.Compose.{composable_derivable}
use Rattle.rules.specs.Script.{Op, Script, held}
use Rattle.rules.specs.Compose.{composes}
use Rattle.rules.specs.Effects.{knows}
use Rattle.rules.specs.State.{State, Told, known, nth, occurs, used_in, used_in_some, used_in_steps, used}
use Rattle.rules.specs.History.{History, Stands, Shows, Shown, Used, FreshKind, Given}
use Rattle.rules.specs.Grows.{Proper}
use Rattle.rules.specs.Invariant.{Agent, Stable}
use Rattle.rules.proofs.Nth.{nth_in, nth_below, nth_set}
use Rattle.rules.proofs.Numbers.{numbered_same}
use Rattle.rules.proofs.Built.{stands_one}
use Rattle.rules.proofs.Saturate.{composes_true}
use Rattle.rules.proofs.Effects.{knows_right, knows_saturated}
use Rattle.rules.proofs.Used.{or_swap, occurs_decides, used_older, given_used, knows_used, used_set, used_set_same}
use Rattle.rules.proofs.Invariant.{written_held, agent_same, agent_grows, used_still}

-- what an agent can compose has only used names
pub composable_used : (past : History) (st : State) (v : Stable past st) (p : ℕ) (s : Script) → nth st.scripts p ≡ Some s
    → (t : Term) → In t st.terms → Composable (held s) t → (k : Kind) (i : ℕ) → Occurs k i t → Used past k i
composable_used past st v p s es t h c k i o =
    let d = composable_derivable (Given past p) (among (held s)) (v.agent p s es).represents.sound t (v.numbers.formed t h) c in
    let g = derives_names (Given past p) k i t d o in
    given_used past p g.0 k i g.1 g.2

-- used names after a call that shows one term
pub used_shown : (past : History) (d : Told) (t : Term) → Shows (Stands past) d t → ((u : Term) → Shows (Stands past) d u → u ≡ t)
    → (k : Kind) (i : ℕ) (b : Bool) → Decides b (Used past k i) → Decides (b || occurs k i t) (Used (d ∷ past) k i)
used_shown past d t here only k i b r = Decides-like (b || occurs k i t) out back (Decides-or b (occurs k i t) r (occurs_decides k i t))
  where
    out : Used past k i ⊎ Occurs k i t → Used (d ∷ past) k i
    out (inl u) = used_older d past k i u
    out (inr o) = inr (t, inr here, o)

    back : Used (d ∷ past) k i → Used past k i ⊎ Occurs k i t
    back (inl e) = inl (inl e)
    back (inr w) = go w.1
      where
        go : Shown past w.0 ⊎ Shows (Stands past) d w.0 → Used past k i ⊎ Occurs k i t
        go (inl x) = inl (inr (w.0, x, w.2))
        go (inr x) = inr (subst (Occurs k i) (only w.0 x) w.2)

module _ (past : History) (st : State) (v : Stable past st) (p n : ℕ) (s : Script) (t : Term) (es : nth st.scripts p ≡ Some s) (et : nth st.terms n ≡ Some t) where
  abbrev d : Told
  d = known p n

  abbrev P : Term → Type 0
  P u = In u st.terms

  abbrev G : Op → Term → Type 0
  G op u = Proper op u × ((p ≡ p) × Stands past n u)

  only : (u : Term) → Stands past n u → u ≡ t
  only u = stands_one past st.terms v.numbers n t u et

  here : Stands past n t
  here = v.numbers.stands_from n t et

  knower : Agent (d ∷ past) st.terms p (knows s t)
  knower =
      let a = v.agent p s es in
      let w = knows_right P v.numbers.closed G s t (written_held st.terms s a.written) (nth_in st.terms n t et) (tt, (refl, here)) in
      agent_grows past d st.terms v.numbers.formed p s (knows s t) a G (λ op u g. g.0) (λ op u g. g.1) w.grows
      (λ u g. subst (Composable (held (knows s t))) (sym (only u g.1)) w.made) (knows_saturated s t a.represents.saturated)

  knows_decides : (k : Kind) (i : ℕ) → FreshKind k
      → Decides (used_in_some k i (set st.scripts p (knows s t)) || used_in_steps k i st.steps) (Used (d ∷ past) k i)
  knows_decides k i f = go (knows_used k i s t)
    where
      go : ((composes s t ≡ true) × (used_in k i (knows s t) ≡ used_in k i s)) ⊎ (used_in k i (knows s t) ≡ (used_in k i s || occurs k i t))
          → Decides (used_in_some k i (set st.scripts p (knows s t)) || used_in_steps k i st.steps) (Used (d ∷ past) k i)
      go (inl w) =
          Decides-at (used_in_some k i (set st.scripts p (knows s t)) || used_in_steps k i st.steps) (used st k i)
          (ap (λ x. x || used_in_steps k i st.steps) (used_set_same k i st.scripts p s (knows s t) es w.1))
          (used_still past d k i (used st k i)
          (λ u x o. composable_used past st v p s es t (nth_in st.terms n t et) (composes_true s t w.0) k i (subst (Occurs k i) (only u x) o))
          (v.used_right k i f))
      go (inr e) =
          Decides-at (used_in_some k i (set st.scripts p (knows s t)) || used_in_steps k i st.steps) (used st k i || occurs k i t)
          (ap (λ x. x || used_in_steps k i st.steps) (used_set k i st.scripts p s (knows s t) (occurs k i t) es e)
          ∙ or_swap (used_in_some k i st.scripts) (occurs k i t) (used_in_steps k i st.steps))
          (used_shown past d t here only k i (used st k i) (v.used_right k i f))

  pub stable_knows : Stable (known p n ∷ past) (record { terms = st.terms; scripts = set st.scripts p (knows s t); steps = st.steps })
  stable_knows =
      record {
        numbers = numbered_same past st.terms v.numbers d (λ m u a. absurd a) (λ q u o. o) refl;
        count = (let a = length-set st.scripts p (knows s t) in let c = v.count in omega arith);
        agent = λ q x e. agents q x (nth_set st.scripts p (knows s t) q x e);
        given_known = givens;
        used_right = knows_decides;
      }
    where
      agents : (q : ℕ) (x : Script) → ((q ≡ p) × (x ≡ knows s t)) ⊎ ((q ≡ p → ⊥) × (nth st.scripts q ≡ Some x)) → Agent (d ∷ past) st.terms q x
      agents q x (inl w) = subst (λ y. Agent (d ∷ past) st.terms y x) (sym w.0) (subst (Agent (d ∷ past) st.terms p) (sym w.1) knower)
      agents q x (inr w) = agent_same past d q x (λ u g. w.0 g.0) st.terms (v.agent q x w.1)

      givens : (q : ℕ) (u : Term) → Given (d ∷ past) q u → q < length (set st.scripts p (knows s t))
      givens q u (inl g) = let a = length-set st.scripts p (knows s t) in let b = v.given_known q u g in omega arith
      givens q u (inr g) = let a = length-set st.scripts p (knows s t) in let b = nth_below st.scripts p s es in let c = g.0 in omega arith
