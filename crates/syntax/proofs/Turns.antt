-- Steps of the machine in the code, and what they tell of the tokens that were read.
use Rattle.std.proofs.Common.{◌≡◌, ◌<◌, ◌≤◌, Bool, true, false, cond, List, [], ◌∷◌, ◌++◌, Ok, Err, Result, sym, refl, ap, ◌∙◌, subst, arith}
use Rattle.syntax.specs.declared.mode.Frame.{Frame}
use Rattle.syntax.specs.declared.mode.Mode.{Mode}
use Rattle.syntax.specs.declared.mode.Mode.TheVariants.{Fresh, Kinded, Listing, Owner, Sender, Receiver, Start, AfterName, AfterSealer, AfterKey, After, Sealer, Party, EntryEnd, Done}
use Rattle.syntax.specs.declared.machine.TokenFault.{TokenFault}
use Rattle.syntax.specs.declared.machine.TokenFault.TheVariants.{Outside, TooDeep}
use Rattle.syntax.specs.declared.sign.Sign.{Sign}
use Rattle.syntax.specs.declared.machine.Machine.{Machine}
use Rattle.syntax.specs.Grammar.{Tok, end, IsLine}
use Rattle.syntax.specs.Machine.{State, at, stuck, follows, step, depth, is_done}
use Rattle.syntax.specs.States.{stack_of, state_of, Takes, HasRead, Steps, Tells}
use Rattle.std.specs.Result.{IsErrAnd}
use Rattle.bounded.specs.Items.{items}
use Rattle.std.proofs.lemmas.List.{length-reverse}
use Rattle.syntax.proofs.Finishing.{Live}
use Rattle.syntax.proofs.Tied.{done_line, runs_begins}
use Rattle.syntax.proofs.Judging.{begun, outside, too_deep, onward}

module _ {r : Result (Unit {0}) TokenFault} {m : Machine} where
  pub on_top : (s : Sign) {z fs : List Frame} {f : Frame} → z ≡ f ∷ fs → Takes (follows (f ∷ fs) s) r m → Takes (follows z s) r m
  on_top s {z} {fs} {f} e t = subst (λ z. Takes (follows z s) r m) (sym e) t

  pub if_not : (b : Bool) (x : State) {y : State} → b ≡ false → Takes y r m → Takes (cond b x y) r m
  if_not b x {y} e h = subst (λ c. Takes (cond c x y) r m) (sym e) h

told_line : (m : Machine) (ts : List Tok) → m.mode ≡ Done → HasRead m ts → IsLine ts
told_line m ts e h = done_line ts (stack_of m) (h.reached ∙ ap (λ z. at z (stack_of m)) e)

live_unless : (m : Mode) → is_done m ≡ false → Live m
live_unless Fresh h = tt
live_unless Kinded h = tt
live_unless Listing h = tt
live_unless Owner h = tt
live_unless Sender h = tt
live_unless Receiver h = tt
live_unless Start h = tt
live_unless AfterName h = tt
live_unless AfterSealer h = tt
live_unless AfterKey h = tt
live_unless After h = tt
live_unless Sealer h = tt
live_unless Party h = tt
live_unless EntryEnd h = tt
live_unless Done h = cc

done_only : (m : Mode) → is_done m ≡ true → m ≡ Done
done_only Fresh h = cc
done_only Kinded h = cc
done_only Listing h = cc
done_only Owner h = cc
done_only Sender h = cc
done_only Receiver h = cc
done_only Start h = cc
done_only AfterName h = cc
done_only AfterSealer h = cc
done_only AfterKey h = cc
done_only After h = cc
done_only Sealer h = cc
done_only Party h = cc
done_only EntryEnd h = cc
done_only Done h = refl

pub told : (m : Machine) (b : Bool) → b ≡ is_done m.mode → Tells m b
told m true e = λ ts h. told_line m ts (done_only m.mode (sym e)) h
told m false e = λ ts h. begun ts m.mode (stack_of m) h.reached end (live_unless m.mode (sym e))

pub stepped : (m n : Machine) (s : Sign) (x : Unit {0}) → Takes (step m.mode (stack_of m) s) (Ok x) n → Steps m s (Ok x) n
stepped m n s x t ts u h e =
    let k = (subst (λ z. Takes (step m.mode (stack_of m) z) (Ok x) n) e t).taken in
    let o = onward ts m.mode (stack_of m) h.reached u n.mode (stack_of n) k.0 k.1 h.shallow in
    record { reached = o.0; begins = runs_begins (ts ++ u ∷ []) (n.mode, stack_of n, o.0); shallow = o.1 }

pub refused : (m n k : Machine) (s : Sign) (e : TokenFault) → depth (state_of m) ≤ 64 → Takes (step m.mode (stack_of m) s) (Err e) n → Steps m s (Err e) k
refused m n k s Outside low t ts u h e =
    outside ts m.mode (stack_of m) h.reached u (subst (λ z. step m.mode (stack_of m) z ≡ stuck) e t.taken)
refused m n k s TooDeep low t ts u h e =
    too_deep ts m.mode (stack_of m) h.reached u low (subst (λ z. 64 < depth (step m.mode (stack_of m) z)) e t.taken)

-- a fault that is handed on
pub handed_on : (m n k : Machine) (s : Sign) (e : TokenFault) (r : Result (Unit {0}) TokenFault) → Takes (step m.mode (stack_of m) s) (Err e) n → IsErrAnd r (λ d. d ≡ e) → Steps m s r k
handed_on m n k s e (Ok x) t h = absurd h
handed_on m n k s e (Err d) t h =
    let l = m.shallow in
    let low : depth (state_of m) ≤ 64 = omega (arith, length-reverse (items m.frames)) in
    subst (λ z. Steps m s (Err z) k) (sym h) (refused m n k s e low t)
