-- What one turn of the check keeps.
use Rattle.std.proofs.Common.{◌≡◌, ℕ, ◌+◌, ◌-◌, ◌<◌, ◌≤◌, false, List, [], ◌∷◌, ◌++◌, length, Ok, Err, sym, refl, ap, ◌∙◌, subst, inl, inr, arith}
use Rattle.scan.specs.Tokens.{Lexeme, word, bracket, tick as a_tick, line_end, stray as a_stray, Next, Stands}
use Rattle.syntax.specs.declared.mode.Mode.{Mode}
use Rattle.syntax.specs.declared.mode.Mode.TheVariants.{Fresh, Kinded, Listing, Owner, Sender, Receiver, Start, AfterName, AfterSealer, AfterKey, After, Sealer, Party, EntryEnd, Done}
use Rattle.syntax.specs.declared.machine.TokenFault.{TokenFault}
use Rattle.syntax.specs.declared.sign.Sign.{Sign}
use Rattle.syntax.specs.declared.machine.Machine.{Machine}
use Rattle.syntax.specs.Grammar.{sign, Tok, end}
use Rattle.syntax.specs.Machine.{at, step, run}
use Rattle.syntax.specs.States.{stack_of, state_of, HasRead, Steps, Tells}
use Rattle.syntax.specs.Words.{tok}
use Rattle.syntax.specs.Check.{Comes, Come, Signs, Refuses}
use Rattle.syntax.proofs.Judging.{step_end}
use Rattle.syntax.proofs.Reading.{run_append}
use Rattle.syntax.proofs.Tied.{over}

pub come_more : (text : List ℕ) (p : ℕ) (ts : List Tok) (q : ℕ) (t : Tok) (a r : ℕ) → Come text p ts q → Comes text q t a r → Come text p (ts ++ t ∷ []) r
come_more text p [] q t a r e h = (a, r, subst (λ z. Comes text z t a r) (sym e) h, refl)
come_more text p (u ∷ ts) q t a r (b, m, h, k) g = (b, m, h, come_more text m ts q t a r k g)

-- the tokens read so far
pub record Sofar (text : List ℕ) (p q : ℕ) (m : Machine) : Type 0 where
  pub tokens : List Tok
  pub come : Come text p tokens q
  pub read : HasRead m tokens

-- a token is still due
abbrev pub left : Mode → ℕ
left Fresh = 1
left Kinded = 1
left Listing = 1
left Owner = 1
left Sender = 1
left Receiver = 1
left Start = 1
left AfterName = 1
left AfterSealer = 1
left AfterKey = 1
left After = 1
left Sealer = 1
left Party = 1
left EntryEnd = 1
left Done = 0

left_some : (m : Mode) → left m ≤ 1
left_some Fresh = omega arith
left_some Kinded = omega arith
left_some Listing = omega arith
left_some Owner = omega arith
left_some Sender = omega arith
left_some Receiver = omega arith
left_some Start = omega arith
left_some AfterName = omega arith
left_some AfterSealer = omega arith
left_some AfterKey = omega arith
left_some After = omega arith
left_some Sealer = omega arith
left_some Party = omega arith
left_some EntryEnd = omega arith
left_some Done = omega arith

module _ (text : List ℕ) (p q : ℕ) (m : Machine) (so : Sofar text p q m) (s : Sign) (a n : ℕ) (g : Signs text q s a n) (k : Machine) where
  pub refuses : (f : TokenFault) → Tells m false → Steps m s (Err f) k → Refuses text p (record { fault = f; place = a }) n
  refuses f told steps = record {
    tokens = so.tokens;
    end = q;
    come = so.come;
    goes_on = told so.tokens so.read;
    shallow = so.read.shallow;
    token = g.token;
    comes = g.comes;
    judged = steps so.tokens g.token so.read g.is;
  }

  pub one_more : (x : Unit {0}) → Steps m s (Ok x) k → Sofar text p n k
  one_more x steps = record {
    tokens = so.tokens ++ g.token ∷ [];
    come = come_more text p so.tokens q g.token a n so.come g.comes;
    read = steps so.tokens g.token so.read g.is;
  }

  -- a line that goes on is not over
  pub due : Tells m false → left m.mode ≡ 1
  due told = go m.mode refl
    where
      go : (mode : Mode) → m.mode ≡ mode → left m.mode ≡ 1
      go Fresh e = ap left e
      go Kinded e = ap left e
      go Listing e = ap left e
      go Owner e = ap left e
      go Sender e = ap left e
      go Receiver e = ap left e
      go Start e = ap left e
      go AfterName e = ap left e
      go AfterSealer e = ap left e
      go AfterKey e = ap left e
      go After e = ap left e
      go Sealer e = ap left e
      go Party e = ap left e
      go EntryEnd e = ap left e
      go Done e = absurd (over so.tokens (stack_of m) (so.read.reached ∙ ap (λ z. at z (stack_of m)) e) (told so.tokens so.read))

  -- the end of a line ends it
  pub ended : (x : Unit {0}) → Steps m s (Ok x) k → g.token ≡ end → left k.mode ≡ 0
  ended x steps e =
      let read = steps so.tokens g.token so.read g.is in
      let a : state_of k ≡ step m.mode (stack_of m) (sign end) =
      sym read.reached ∙ run_append (at Fresh []) so.tokens (g.token ∷ []) ∙ ap (λ z. run z (g.token ∷ [])) so.read.reached ∙ ap (λ z. step m.mode (stack_of m) (sign z)) e in
      let b = step_end m.mode (stack_of m) k.mode (stack_of k) (sym a) in
      let c : state_of k ≡ at Done [] = a ∙ b in
      let d : k.mode ≡ Done = cc in
      ap left d

  -- every other token takes a byte
  pub smaller : (x : Unit {0}) → Tells m false → Steps m s (Ok x) k → length text - n + left k.mode < length text - q + left m.mode
  smaller x told steps = go g.comes.lexeme refl
    where
      go : (l : Lexeme) → g.comes.lexeme ≡ l → length text - n + left k.mode < length text - q + left m.mode
      go (word w) e =
          let h = subst (λ z. Next text q z a n) e g.comes.next in
          omega (arith, due told, left_some k.mode, h.skips.low, h.stands.some, h.stands.within)
      go (bracket b) e =
          let h = subst (λ z. Next text q z a n) e g.comes.next in
          omega (arith, due told, left_some k.mode, h.skips.low, h.stands.next, h.stands.within)
      go a_tick e =
          let h = subst (λ z. Next text q z a n) e g.comes.next in
          omega (arith, due told, left_some k.mode, h.skips.low, h.stands.next, h.stands.within)
      go line_end e =
          let h = subst (λ z. Next text q z a n) e g.comes.next in
          let z = ended x steps (g.comes.is ∙ ap tok e) in
          at_end h.stands z h.skips.low
        where
          at_end : Stands text line_end a n → left k.mode ≡ 0 → q ≤ a → length text - n + left k.mode < length text - q + left m.mode
          at_end (inl i) z low = omega (arith, due told, i.next)
          at_end (inr (i, j)) z low = omega (arith, due told, i, j)
      go a_stray e =
          let h = subst (λ z. Next text q z a n) e g.comes.next in
          omega (arith, due told, left_some k.mode, h.skips.low, h.stands.next, h.stands.within)
