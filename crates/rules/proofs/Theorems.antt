-- The statements that the contracts name, each from the lemmas on its rule.
use Rattle.std.proofs.Common.{◌≡◌, ℕ, ◌⊎◌, [], ◌∷◌, Some, None, Option, sym, refl, subst, inl, inr}
use Rattle.deduction.specs.Term.{Term, name, built, mate, Formed, In, among}
use Rattle.deduction.specs.Compose.{Composable}
use Rattle.deduction.proofs.Compose.{held_composable}
use Rattle.deduction.proofs.Derive.{derives_given}
use Rattle.rules.specs.Script.{RECV, SEND, Script, line, ◌then◌, find, held}
use Rattle.rules.specs.Compose.{Composed, compose, missing}
use Rattle.rules.specs.Saturate.{saturate}
use Rattle.rules.specs.Walk.{walk}
use Rattle.rules.specs.Effects.{knows, freshens, sends, received, overheard}
use Rattle.rules.specs.State.{perform}
use Rattle.rules.specs.Grows.{Grows, adds, Builds, gives, Fits, sending, Closed, Gains, FreshTerm, IsName}
use Rattle.rules.specs.Theorems.{FindingFinds, ComposingDecides, ComposingMakes, MissingMisses, SaturationEndsSaturated, WalkingGains, KnowingGains}
use Rattle.rules.specs.Theorems.{ReceivingGains, OverhearingGains, SendingGains, ScriptsRepresent, LinesFit, NoTermTwice, EveryCallHasOneOutcome}
use Rattle.rules.proofs.Find.{some_none, find_holds, find_lowest, held_find, unfound_unheld, find_append, holds_below, holds_held, held_append}
use Rattle.rules.proofs.Grows.{grows_join, grows_begins, grows_holds, grows_held, grows_composable, grows_apart, grows_derived, builds_composable}
use Rattle.rules.proofs.Grows.{builds_fit, closed_within}
use Rattle.rules.proofs.Compose.{composed_makes, Any, any_within, composes_decides, MissingRight, missing_right}
use Rattle.rules.proofs.Saturate.{saturate_saturates, saturates_one, taken_saturated, saturate_ends, saturate_grows}
use Rattle.rules.proofs.Walk.{walk_right}
use Rattle.rules.proofs.Effects.{knows_right, knows_saturated, received_right, overheard_right, Freshening, freshens_grows, freshens_made}
use Rattle.rules.proofs.Invariant.{written_apart}
use Rattle.rules.proofs.Law.{came_stable}

pub finding_finds : FindingFinds
finding_finds s t =
    record {
      holds = find_holds s t;
      lowest = find_lowest s t;
      found = held_find s t;
      unfound = (unfound_unheld s t, λ n. back n (find s t) refl);
    }
  where
    back : (In t (held s) → ⊥) → (o : Option ℕ) → find s t ≡ o → find s t ≡ None
    back n None e = e
    back n (Some m) e = absurd (n (holds_held s m t (find_holds s t m e)))

pub composing_decides : ComposingDecides
composing_decides = composes_decides

pub composing_makes : ComposingMakes
composing_makes s t c e =
    let m = composed_makes Any s t (any_within t) c e in
    let w = grows_begins (Builds Any) m.grows in
    record {
      begins = w;
      inside = holds_below c.script c.slot t m.holds;
      holds = m.holds;
      same = λ u. (builds_composable Any m.grows u, grows_composable (Builds Any) m.grows u);
      kept = λ u n f. subst (λ x. find x u ≡ Some n) (sym w.1) (find_append s w.0 u n f);
    }

pub missing_misses : MissingMisses
missing_misses s t =
    record {
      none = (λ e. subst (MissingRight s t) e (missing_right s t), λ c. back c (missing s t) refl);
      leaf = λ u e. (subst (MissingRight s t) e (missing_right s t)).1;
      unheld = λ u e. (subst (MissingRight s t) e (missing_right s t)).2;
      part = λ u e. (subst (MissingRight s t) e (missing_right s t)).3;
    }
  where
    back : Composable (held s) t → (o : Option Term) → missing s t ≡ o → missing s t ≡ None
    back c None e = e
    back c (Some u) e = absurd ((subst (MissingRight s t) e (missing_right s t)).0 c)

formed_closed : Closed Formed
formed_closed = record { firsts = λ f a b w. w.0; seconds = λ f a b w. w.1; keys = λ k w. w.0 }

-- what a script gains by lines that fit
gained : (s : Script) (New : Term → Type 0) (s' : Script) → Grows (Fits Formed (λ op t. New t)) s s' → ((t : Term) → New t → Composable (held s') t)
    → Gains s New s'
gained s New s' g made =
    record {
      begins = grows_begins (Fits Formed (λ op t. New t)) g;
      covers = made;
      sound =
          grows_derived Formed (λ op t. New t) (λ t f. f) (λ u. In u (held s) ⊎ New u) (λ op t x. derives_given (λ u. In u (held s) ⊎ New u) t (inr x)) g
          (λ t h. derives_given (λ u. In u (held s) ⊎ New u) t (inl h));
      apart = grows_apart Formed (λ op t. New t) g;
    }

pub saturation_ends_saturated_lem : SaturationEndsSaturated
saturation_ends_saturated_lem s =
    record {
      steps = saturate_saturates s;
      only = λ s' w. saturates_one w (saturate_saturates s);
      over = taken_saturated s;
      saturated = saturate_ends s;
      gains = λ f. gained s (λ t. ⊥) (saturate s) (saturate_grows Formed formed_closed (λ op t. ⊥) s f) (λ t x. absurd x);
    }

pub walking_gains : WalkingGains
walking_gains s t f =
    let w = walk_right Formed formed_closed (λ op u. In u (t ∷ [])) t s (RECV t) (gives refl (inl refl)) (f t (inl refl)) in
    gained s (among (t ∷ [])) (walk s (RECV t) t) w.grows (λ u h. one u h w.made)
  where
    one : (u : Term) → In u (t ∷ []) → Composable (held (walk s (RECV t) t)) t → Composable (held (walk s (RECV t) t)) u
    one u (inl e) m = subst (Composable (held (walk s (RECV t) t))) e m
    one u (inr h) m = absurd h

pub knowing_gains : KnowingGains
knowing_gains s t f y =
    let w = knows_right Formed formed_closed (λ op u. In u (t ∷ [])) s t (λ u h. f u (inr h)) (f t (inl refl)) (inl refl) in
    (gained s (among (t ∷ [])) (knows s t) w.grows (λ u h. one u h w.made), knows_saturated s t y)
  where
    one : (u : Term) → In u (t ∷ []) → Composable (held (knows s t)) t → Composable (held (knows s t)) u
    one u (inl e) m = subst (Composable (held (knows s t))) e m
    one u (inr h) m = absurd h

pub receiving_gains : ReceivingGains
receiving_gains s who m f =
    let w = received_right Formed formed_closed (λ op u. In u (who ∷ m ∷ [])) s who m (λ u h. f u (inr (inr h)))
    (f who (inl refl)) (f m (inr (inl refl))) (inl refl) (inr (inl refl)) in
    (gained s (among (who ∷ m ∷ [])) (received s who m) w.grows (λ u h. one u h w.who_made w.message_made), w.saturated)
  where
    one : (u : Term) → In u (who ∷ m ∷ []) → Composable (held (received s who m)) who → Composable (held (received s who m)) m
        → Composable (held (received s who m)) u
    one u (inl e) a b = subst (Composable (held (received s who m))) e a
    one u (inr (inl e)) a b = subst (Composable (held (received s who m))) e b
    one u (inr (inr h)) a b = absurd h

pub overhearing_gains : OverhearingGains
overhearing_gains s from to m f =
    let w = overheard_right Formed formed_closed (λ op u. In u (from ∷ to ∷ m ∷ [])) s from to m (λ u h. f u (inr (inr (inr h))))
    (f from (inl refl)) (f to (inr (inl refl))) (f m (inr (inr (inl refl)))) (inl refl) (inr (inl refl)) (inr (inr (inl refl))) in
    (gained s (among (from ∷ to ∷ m ∷ [])) (overheard s from to m) w.grows (λ u h. one u h w.from_made w.to_made w.message_made), w.saturated)
  where
    one : (u : Term) → In u (from ∷ to ∷ m ∷ []) → Composable (held (overheard s from to m)) from → Composable (held (overheard s from to m)) to
        → Composable (held (overheard s from to m)) m → Composable (held (overheard s from to m)) u
    one u (inl e) a b c = subst (Composable (held (overheard s from to m))) e a
    one u (inr (inl e)) a b c = subst (Composable (held (overheard s from to m))) e b
    one u (inr (inr (inl e))) a b c = subst (Composable (held (overheard s from to m))) e c
    one u (inr (inr (inr h))) a b c = absurd h

pub sending_gains : SendingGains
sending_gains s fresh m address who s' e at are once unheld f = go (compose (freshens s fresh) m) refl e
  where
    well : (u : Term) → FreshTerm fresh u → Formed u
    well u (inl h) = named u (are u h)
      where
        named : (x : Term) → IsName x → Formed x
        named (name k i) y = tt
        named (built g a b) y = absurd y
        named (mate k) y = absurd y
    well u (inr w) = subst Formed (sym w.1) (tt, refl)

    ready : Freshening Formed (λ op t. FreshTerm fresh t) fresh
    ready = record { are_names = are; once = once; within = well; fresh = λ t h. inl h; mated = λ n i h. inr (i, refl, h) }

    go : (o : Option Composed) → compose (freshens s fresh) m ≡ o → sends address o ≡ Some s' → Gains s (FreshTerm fresh) s' × Composable (held s') m
    go None q x = absurd (some_none None x refl)
    go (Some c) q x =
        let F = Fits Formed (λ op t. FreshTerm fresh t) in
        let g = freshens_grows Formed (λ op t. FreshTerm fresh t) fresh s ready unheld in
        let k = composed_makes Formed (freshens s fresh) m (closed_within Formed formed_closed m (f m (inl refl))) c q in
        let h = builds_fit Formed (λ op t. FreshTerm fresh t) k.grows in
        let z = grows_join F g h in
        let l = grows_holds F z address who at in
        let y : c.script then line (SEND c.slot address) None ≡ s' = cc in
        subst (λ r. Gains s (FreshTerm fresh) r × Composable (held r) m) y (
          gained s (FreshTerm fresh) (c.script then line (SEND c.slot address) None) (adds z (sending k.holds l))
              (λ u w. held_composable (among (held (c.script then line (SEND c.slot address) None))) u
              (held_append c.script (line (SEND c.slot address) None ∷ []) u
              (grows_held F h u (freshens_made Formed (λ op t. FreshTerm fresh t) fresh s ready unheld u w)))),
          held_composable (among (held (c.script then line (SEND c.slot address) None))) m
              (held_append c.script (line (SEND c.slot address) None ∷ []) m (holds_held c.script c.slot m k.holds)),
        )

pub scripts_represent : ScriptsRepresent
scripts_represent past st w p s e = ((came_stable past st w).agent p s e).represents

pub lines_fit : LinesFit
lines_fit past st w p s e = ((came_stable past st w).agent p s e).written

pub no_term_twice : NoTermTwice
no_term_twice past st w p s e = written_apart st.terms s (lines_fit past st w p s e)

pub every_call_has_one_outcome_lem : EveryCallHasOneOutcome
every_call_has_one_outcome_lem past st w c =
    record {
      told = (perform st c).told;
      after = (perform st c).state;
      follows = (refl, refl);
      came = (st, w, (c, refl, refl));
      only = λ d st' f. (sym f.0, sym f.1);
    }
