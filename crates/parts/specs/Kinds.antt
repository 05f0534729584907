-- Which instructions stand in which part of a party's script.
use Rattle.std.specs.Prelude.{◌≡◌}
use Rattle.deduction.specs.Term.{Term}
use Rattle.rules.specs.Script.{Op, GIVEN, FRESH, FROM, TO, RECV, MATE, LEFT, RIGHT, JOIN, SEAL, DIGEST, ENTRY, OPEN, SAME, SEND}

-- before the first step: what is given, what is taken from it, and what is built to open it
abbrev pub Starts : Op → Type 0
Starts (GIVEN t) = Unit {0}
Starts (FRESH t) = ⊥
Starts (FROM t) = ⊥
Starts (TO t) = ⊥
Starts (RECV t) = ⊥
Starts (MATE i) = ⊥
Starts (LEFT i) = Unit {0}
Starts (RIGHT i) = Unit {0}
Starts (JOIN i j) = Unit {0}
Starts (SEAL i j) = Unit {0}
Starts (DIGEST i j) = Unit {0}
Starts (ENTRY i j) = Unit {0}
Starts (OPEN i j) = Unit {0}
Starts (SAME i j) = ⊥
Starts (SEND i j) = ⊥

-- before a SEND: fresh names with the mates of fresh public keys, and what is built
abbrev pub Prepares : Op → Type 0
Prepares (GIVEN t) = ⊥
Prepares (FRESH t) = Unit {0}
Prepares (FROM t) = ⊥
Prepares (TO t) = ⊥
Prepares (RECV t) = ⊥
Prepares (MATE i) = Unit {0}
Prepares (LEFT i) = ⊥
Prepares (RIGHT i) = ⊥
Prepares (JOIN i j) = Unit {0}
Prepares (SEAL i j) = Unit {0}
Prepares (DIGEST i j) = Unit {0}
Prepares (ENTRY i j) = Unit {0}
Prepares (OPEN i j) = ⊥
Prepares (SAME i j) = ⊥
Prepares (SEND i j) = ⊥

-- in what a receiver does: the sender's name and the message come in, and are compared and taken apart
abbrev pub Takes : Term → Term → Op → Type 0
Takes who m (GIVEN t) = ⊥
Takes who m (FRESH t) = ⊥
Takes who m (FROM t) = t ≡ who
Takes who m (TO t) = ⊥
Takes who m (RECV t) = t ≡ m
Takes who m (MATE i) = ⊥
Takes who m (LEFT i) = Unit {0}
Takes who m (RIGHT i) = Unit {0}
Takes who m (JOIN i j) = Unit {0}
Takes who m (SEAL i j) = Unit {0}
Takes who m (DIGEST i j) = Unit {0}
Takes who m (ENTRY i j) = Unit {0}
Takes who m (OPEN i j) = Unit {0}
Takes who m (SAME i j) = Unit {0}
Takes who m (SEND i j) = ⊥
