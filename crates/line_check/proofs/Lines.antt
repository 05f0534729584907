-- What one turn of the check keeps.
use Rattle.std.proofs.Common.{◌≡◌, ℕ, ◌+◌, ◌-◌, ◌<◌, true, false, List, [], ◌∷◌, ◌++◌, length, Some, None, Option, Ok, Err, Result, sym, refl, ◌∙◌, subst}
use Rattle.names.specs.declared.names.Named.{Named}
use Rattle.syntax.specs.declared.machine.TokenFault.{TokenFault}
use Rattle.syntax.specs.declared.machine.TokenFault.TheVariants as tokens
use Rattle.syntax.specs.declared.machine.Machine.{Machine}
use Rattle.syntax.specs.declared.mode.NameUse.{NameUse}
use Rattle.syntax.specs.declared.sign.Sign.{Sign}
use Rattle.syntax.specs.Grammar.{sign, Tok, GoesOn}
use Rattle.syntax.specs.States.{HasRead, Steps, Tells, Judged}
use Rattle.syntax.specs.Check.{Comes, Come, Signs}
use Rattle.syntax.specs.Uses.{use_after}
use Rattle.syntax.proofs.Lines.{come_more, left, Sofar as Reads, smaller as reads_smaller}
use Rattle.line_check.specs.declared.fault.LineFault.{LineFault}
use Rattle.line_check.specs.declared.fault.LineFault.TheVariants.{Outside, Undeclared, DeclaredTwice, TooDeep}
use Rattle.line_check.specs.Faults.{fault_after, first_fault, Faultless, of_token}
use Rattle.line_check.specs.Check.{Grants, IsWrong, Refuses}
use Rattle.line_check.proofs.Naming.{IsOfName, faults_of_names}
use Rattle.line_check.proofs.Determined.{faultless_more}

-- the tokens read so far
pub record Sofar (ds : List (List ℕ × Named)) (text : List ℕ) (p q : ℕ) (m : Machine) : Type 0 where
  pub tokens : List Tok
  pub come : Come text p tokens q
  pub read : HasRead m tokens
  pub faultless : Faultless ds [] tokens

wrong_token : (ds : List (List ℕ × Named)) (ts : List Tok) (t : Tok) (f : TokenFault) → Judged ts t (Err f) → IsWrong ds ts t (of_token f)
wrong_token ds ts t tokens.Outside h = h
wrong_token ds ts t tokens.TooDeep h = h

wrong_name : (ds : List (List ℕ × Named)) (ts : List Tok) (t : Tok) (f : LineFault) → Judged ts t (Ok tt) → fault_after ds ts t ≡ Some f → IsWrong ds ts t f
wrong_name ds ts t Outside h e = absurd (subst IsOfName e (faults_of_names ds ts t))
wrong_name ds ts t Undeclared h e = (h, e)
wrong_name ds ts t DeclaredTwice h e = (h, e)
wrong_name ds ts t TooDeep h e = absurd (subst IsOfName e (faults_of_names ds ts t))

pub none_yet : (ds : List (List ℕ × Named)) (text : List ℕ) (p : ℕ) (m : Machine) → HasRead m [] → Sofar ds text p p m
none_yet ds text p m h = record { tokens = []; come = refl; read = h; faultless = tt }

pub grants : (ds : List (List ℕ × Named)) (text : List ℕ) (p q : ℕ) (m : Machine) → Sofar ds text p q m → Tells m true → Grants ds text p q
grants ds text p q m so told = record { tokens = so.tokens; come = so.come; line = told so.tokens so.read; shallow = so.read.shallow; faultless = so.faultless }

module _ (ds : List (List ℕ × Named)) (text : List ℕ) (p q : ℕ) (m : Machine) (so : Sofar ds text p q m) (told : Tells m false) (t : Tok) (a n : ℕ) (comes : Comes text q t a n) (s : Sign) (signed : s ≡ sign t) (k : Machine) where
  pub outside : (f : TokenFault) (g : LineFault) → g ≡ of_token f → Steps m s (Err f) k → Refuses ds text p (record { fault = g; place = a }) n
  outside f g e steps = record {
    tokens = so.tokens;
    end = q;
    come = so.come;
    goes_on = told so.tokens so.read;
    shallow = so.read.shallow;
    faultless = so.faultless;
    token = t;
    comes = comes;
    wrong = subst (IsWrong ds so.tokens t) (sym e) (wrong_token ds so.tokens t f (steps so.tokens t so.read signed));
  }

  module _ (x : Unit {0}) (steps : Steps m s (Ok x) k) (u : NameUse) (used : (ts : List Tok) → HasRead m ts → GoesOn ts → u ≡ use_after ts) (r : Option LineFault) (faulty : (ts : List Tok) → Come text p ts q → u ≡ use_after ts → r ≡ fault_after ds ts t) where
    here : r ≡ fault_after ds so.tokens t
    here = faulty so.tokens so.come (used so.tokens so.read (told so.tokens so.read))

    pub misnamed : (f : LineFault) → r ≡ Some f → Refuses ds text p (record { fault = f; place = a }) n
    misnamed f e =
        let read = steps so.tokens t so.read signed in
        record {
          tokens = so.tokens;
          end = q;
          come = so.come;
          goes_on = told so.tokens so.read;
          shallow = so.read.shallow;
          faultless = so.faultless;
          token = t;
          comes = comes;
          wrong = wrong_name ds so.tokens t f (read.begins, read.shallow) (sym here ∙ e);
        }

    pub one_more : r ≡ None → Sofar ds text p n k
    one_more e = record {
      tokens = so.tokens ++ t ∷ [];
      come = come_more text p so.tokens q t a n so.come comes;
      read = steps so.tokens t so.read signed;
      faultless = faultless_more ds [] so.tokens t so.faultless (sym here ∙ e);
    }

  pub smaller : (x : Unit {0}) → Steps m s (Ok x) k → length text - n + left k.mode < length text - q + left m.mode
  smaller x steps =
      let reads : Reads text p q m = record { tokens = so.tokens; come = so.come; read = so.read } in
      let signs : Signs text q s a n = record { token = t; comes = comes; is = signed } in
      reads_smaller text p q m reads s a n signs k x told steps

  -- the first thing that is wrong with the token, and the next token where nothing is
  module _ (j : Result (Unit {0}) TokenFault) (steps : Steps m s j k) (u : NameUse) (used : (ts : List Tok) → HasRead m ts → GoesOn ts → u ≡ use_after ts) (r : Option LineFault)
      (faulty : (ts : List Tok) → Come text p ts q → u ≡ use_after ts → r ≡ fault_after ds ts t) where
    pub wrong : (f : LineFault) → first_fault j r ≡ Some f → Refuses ds text p (record { fault = f; place = a }) n
    wrong f e = go j steps e
      where
        go : (j : Result (Unit {0}) TokenFault) → Steps m s j k → first_fault j r ≡ Some f → Refuses ds text p (record { fault = f; place = a }) n
        go (Ok x) h e = misnamed x h u used r faulty f e
        go (Err g) h e = outside g f (cc) h

    pub right : first_fault j r ≡ None → Sofar ds text p n k × (length text - n + left k.mode < length text - q + left m.mode)
    right e = go j steps e
      where
        go : (j : Result (Unit {0}) TokenFault) → Steps m s j k → first_fault j r ≡ None → Sofar ds text p n k × (length text - n + left k.mode < length text - q + left m.mode)
        go (Ok x) h e = (one_more x h u used r faulty e, smaller x h)
        go (Err g) h e = cc
