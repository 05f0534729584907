-- The call that a line writes, by its words.
use Rattle.std.specs.Prelude.{ℕ, cond, List, [], ◌∷◌, Some, None, codes, Option}
use Rattle.std.specs.Str.{bytes_eq}
use Rattle.provider.specs.Meaning.{on}
use Rattle.provider.specs.declared.Making.{Making}
use Rattle.provider.specs.declared.Making.TheVariants.{Atom, Join, Left, Right, Seal, Open, Digest, Entry, Mate}
use Rattle.protocol.specs.declared.call.Call.TheVariants.{Name, Build, Know, Step, CanBuild}
use Rattle.console_calls.specs.declared.call.Act.TheVariants.{Load, Session, Run}
use Rattle.console_calls.specs.declared.call.Call.{Call}
use Rattle.console_calls.specs.declared.call.Call.TheVariants.{Blank, Protocol, List as Listed, ChooseBytes, ChooseSymbolic, Make, Fits, Same, Show, Memory, NewSession, Act}
use Rattle.console_calls.specs.declared.call.Turn.TheVariants.{Start, Send, Receive}
use Rattle.console_calls.specs.Words.{number_of}

abbrev pub making_one : List ℕ → ℕ → Option Making
making_one w a =
    cond (bytes_eq w (codes "left")) (Some (Left a))
    (cond (bytes_eq w (codes "right")) (Some (Right a))
    (cond (bytes_eq w (codes "mate")) (Some (Mate a)) None))

abbrev pub making_two : List ℕ → ℕ → ℕ → Option Making
making_two w a b =
    cond (bytes_eq w (codes "atom")) (Some (Atom a b))
    (cond (bytes_eq w (codes "join")) (Some (Join a b))
    (cond (bytes_eq w (codes "seal")) (Some (Seal a b))
    (cond (bytes_eq w (codes "open")) (Some (Open a b))
    (cond (bytes_eq w (codes "digest")) (Some (Digest a b))
    (cond (bytes_eq w (codes "entry")) (Some (Entry a b)) None)))))

abbrev pub make : Option Making → Option Call
make m = on m (λ x. Some (Make x))

abbrev pub fits : Option Making → Option Call
fits m = on m (λ x. Some (Fits x))

-- the choice of the provider that a word names
abbrev pub choice : List ℕ → Option Call
choice a =
    cond (bytes_eq a (codes "bytes")) (Some ChooseBytes)
    (cond (bytes_eq a (codes "symbolic")) (Some ChooseSymbolic) None)

-- the calls of a word with one number, with two and with three
abbrev pub with_one : List ℕ → ℕ → Option Call
with_one w a =
    cond (bytes_eq w (codes "name")) (Some (Protocol (Name a)))
    (cond (bytes_eq w (codes "list")) (Some (Listed a))
    (cond (bytes_eq w (codes "show")) (Some (Show a))
    (cond (bytes_eq w (codes "seat")) (Some (NewSession a))
    (cond (bytes_eq w (codes "start")) (Some (Act (Session a Start)))
    (cond (bytes_eq w (codes "send")) (Some (Act (Session a Send)))
    (make (making_one w a)))))))

abbrev pub with_two : List ℕ → ℕ → ℕ → Option Call
with_two w a b =
    cond (bytes_eq w (codes "own")) (Some (Protocol (Know a b)))
    (cond (bytes_eq w (codes "probe")) (Some (Protocol (CanBuild a b)))
    (cond (bytes_eq w (codes "same")) (Some (Same a b))
    (cond (bytes_eq w (codes "memory")) (Some (Memory a b))
    (make (making_two w a b)))))

abbrev pub with_three : List ℕ → ℕ → ℕ → ℕ → Option Call
with_three w a b c =
    cond (bytes_eq w (codes "build")) (Some (Protocol (Build a b c)))
    (cond (bytes_eq w (codes "line")) (Some (Protocol (Step a b c)))
    (cond (bytes_eq w (codes "take")) (Some (Act (Session a (Receive b c)))) None))

abbrev pub call_one : List ℕ → Option Call
call_one w =
    cond (bytes_eq w (codes "blank")) (Some Blank)
    (cond (bytes_eq w (codes "deal")) (Some (Act Load))
    (cond (bytes_eq w (codes "play")) (Some (Act Run)) None))

abbrev pub call_two : List ℕ → List ℕ → Option Call
call_two w a = cond (bytes_eq w (codes "provider")) (choice a) (on (number_of a) (λ x. with_one w x))

abbrev pub call_three : List ℕ → List ℕ → List ℕ → Option Call
call_three w a b =
    cond (bytes_eq w (codes "fits")) (on (number_of b) (λ y. fits (making_one a y)))
    (on (number_of a) (λ x. on (number_of b) (λ y. with_two w x y)))

abbrev pub call_four : List ℕ → List ℕ → List ℕ → List ℕ → Option Call
call_four w a b c =
    cond (bytes_eq w (codes "fits")) (on (number_of b) (λ y. on (number_of c) (λ z. fits (making_two a y z))))
    (on (number_of a) (λ x. on (number_of b) (λ y. on (number_of c) (λ z. with_three w x y z))))

-- the call of a line's words; no call has more than four
abbrev pub call_of : List (List ℕ) → Option Call
call_of [] = None
call_of (w ∷ []) = call_one w
call_of (w ∷ a ∷ []) = call_two w a
call_of (w ∷ a ∷ b ∷ []) = call_three w a b
call_of (w ∷ a ∷ b ∷ c ∷ []) = call_four w a b c
call_of (w ∷ a ∷ b ∷ c ∷ d ∷ ws) = None
