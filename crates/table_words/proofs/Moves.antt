-- How far a token takes a scanner.
use Rattle.std.proofs.Common.{ℕ, ◌<◌, List, arith}
use Rattle.scan.specs.declared.byte.Bracket.{Bracket}
use Rattle.scan.specs.Tokens.{word, bracket, tick as a_tick, Next}

pub moved_word : (text : List ℕ) (p : ℕ) (w : List ℕ) (a q : ℕ) → Next text p (word w) a q → p < q
moved_word text p w a q h = omega (arith, h.skips.low, h.stands.some)

pub moved_bracket : (text : List ℕ) (p : ℕ) (b : Bracket) (a q : ℕ) → Next text p (bracket b) a q → p < q
moved_bracket text p b a q h = omega (arith, h.skips.low, h.stands.next)

pub moved_tick : (text : List ℕ) (p a q : ℕ) → Next text p a_tick a q → p < q
moved_tick text p a q h = omega (arith, h.skips.low, h.stands.next)
