-- What is composable from saturated held terms is closed under the seven ways, so it contains what is derivable; the converse by recursion on terms.
use Rattle.std.proofs.Common.{◌↔◌, inl, inr}
use Rattle.deduction.specs.Term.{pair, sealed, Term, name, built, mate, opener, Formed, among}
use Rattle.deduction.specs.Derive.{Way, left_half, right_half, pairing, sealing, opening, digesting, looking_up, DerivesFrom}
use Rattle.deduction.specs.Compose.{ComposableFrom, SaturatedBy, Represents}
use Rattle.deduction.specs.Theorems.{ComposableIffDerivable}
use Rattle.deduction.proofs.Derive.{derives_ind, derives_built, derives_grow}

pub held_composable : (H : Term → Type 0) (t : Term) → H t → ComposableFrom H t
held_composable H (name k i) h = h
held_composable H (built f a b) h = inl h
held_composable H (mate k) h = h

pub composable_map : (H H' : Term → Type 0) → ((t : Term) → H t → H' t) → (t : Term) → ComposableFrom H t → ComposableFrom H' t
composable_map H H' m (name k i) h = m (name k i) h
composable_map H H' m (built f a b) (inl h) = inl (m (built f a b) h)
composable_map H H' m (built f a b) (inr c) = inr (composable_map H H' m a c.0, composable_map H H' m b c.1)
composable_map H H' m (mate k) h = m (mate k) h

-- everything derivable is composable
module _ (G H : Term → Type 0) (covers : (t : Term) → G t → ComposableFrom H t) (saturated : SaturatedBy H) where
  left_composable : (a b : Term) → ComposableFrom H (built pair a b) → ComposableFrom H a
  left_composable a b (inl h) = saturated.lefts a b h
  left_composable a b (inr c) = c.0

  right_composable : (a b : Term) → ComposableFrom H (built pair a b) → ComposableFrom H b
  right_composable a b (inl h) = saturated.rights a b h
  right_composable a b (inr c) = c.1

  content_composable : (c k : Term) → ComposableFrom H (built sealed c k) → ComposableFrom H (opener k) → ComposableFrom H c
  content_composable c k (inl h) o = saturated.contents c k h o
  content_composable c k (inr m) o = m.0

  composable_way : {t : Term} → Way (ComposableFrom H) t → ComposableFrom H t
  composable_way (left_half {a} {b} d) = left_composable a b d
  composable_way (right_half {a} {b} d) = right_composable a b d
  composable_way (pairing d e) = inr (d, e)
  composable_way (sealing d e n) = inr (d, e)
  composable_way (opening {c} {k} d e) = content_composable c k d e
  composable_way (digesting d e n) = inr (d, e)
  composable_way (looking_up d e n m) = inr (d, e)

  pub derivable_composable : (t : Term) → DerivesFrom G t → ComposableFrom H t
  derivable_composable = derives_ind G (ComposableFrom H) covers (λ t w. composable_way w)

-- everything composable is derivable
module _ (G H : Term → Type 0) (sound : (t : Term) → H t → DerivesFrom G t) where
  pub composable_derivable : (t : Term) → Formed t → ComposableFrom H t → DerivesFrom G t
  composable_derivable (name k i) f h = sound (name k i) h
  composable_derivable (built g a b) f (inl h) = sound (built g a b) h
  composable_derivable (built g a b) f (inr c) =
      derives_built G g a b f.2 (composable_derivable a f.0 c.0) (composable_derivable b f.1 c.1)
  composable_derivable (mate k) f h = sound (mate k) h

pub represents_equivalent : (H G : Term → Type 0) → Represents H G → (t : Term) → Formed t → ComposableFrom H t ↔ DerivesFrom G t
represents_equivalent H G r t f =
    (composable_derivable G H r.sound t f, derivable_composable G H r.covers r.saturated t)

-- representing depends only on which terms are held and which are given
module _ (H H' G G' : Term → Type 0) (held : (t : Term) → H t ↔ H' t) (given : (t : Term) → G t ↔ G' t) where
  up : (t : Term) → ComposableFrom H t → ComposableFrom H' t
  up = composable_map H H' (λ t. (held t).0)

  down : (t : Term) → ComposableFrom H' t → ComposableFrom H t
  down = composable_map H' H (λ t. (held t).1)

  pub represents_same : Represents H G → Represents H' G'
  represents_same r =
      record {
        covers = λ t g. up t (r.covers t ((given t).1 g));
        sound = λ t h. derives_grow G G' (λ s. (given s).0) t (r.sound t ((held t).1 h));
        saturated =
            record {
              lefts = λ a b h. up a (r.saturated.lefts a b ((held (built pair a b)).1 h));
              rights = λ a b h. up b (r.saturated.rights a b ((held (built pair a b)).1 h));
              contents = λ c k h o. up c (r.saturated.contents c k ((held (built sealed c k)).1 h) (down (opener k) o));
            };
      }

pub composable_iff_derivable_lem : ComposableIffDerivable
composable_iff_derivable_lem givens held covers sound saturated =
    represents_equivalent (among held) (among givens) (record { covers = covers; sound = sound; saturated = saturated })
