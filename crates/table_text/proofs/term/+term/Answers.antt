use Rattle.std.proofs.Common.{◌<◌, ◌∷◌, ◌++◌, refl, sym, ap, ◌∙◌, arith}
use Rattle.std.proofs.lemmas.Result.{err_from_is_err_and}
use Rattle.bounded.specs.Items.{items}
use Rattle.scan.specs.Tokens.{lexeme, pos_of, text_of}
use Rattle.scan.specs.declared.byte.Shape.TheVariants.{Curly, Angle}
use Rattle.syntax.specs.Grammar.{closes, key_tokens}
use Rattle.names.specs.Names.{known}
use Rattle.protocol.specs.View.{view_of}
use Rattle.table_text.specs.Ahead.{each_tokens}
use Rattle.table_text.specs.Calls.{on, ended, number_in}
use Rattle.table_text.proofs.Terms.{closed, key_named, roomy_on, held, begins, each_apart, word_begins, round_term, curly_term, key_term, digest_term}
use Rattle.table_text.proofs.Collecting.{turn, refused, pushed, room, next_part, at_end, paired, unpaired}
use Rattle.table_text.proofs.term.+term.Goals as goal

pub collect-returns-in_err-part-clause-made : goal.collect-returns-in_err-part-clause-made
collect-returns-in_err-part-clause-made t c = λ us ts a m.
    let q = err_from_is_err_and c.from_residual.result c.from_residual.ensures.1 in
    let k = c.loop-first.invariant.left us ts a m in
    let v = turn k (text_of c.loop-first.scanner) c.in-Some.first (pos_of c.read_opening.new.scanner)
    c.loop-first.invariant.text c.in-Some.ensures.opens in
    let r = rw (c.read_opening.ensures.text, c.loop-first.invariant.text) at c.in_err-part.ensures.made in
    let d = r v.part v.head v.tail (each_tokens v.left ts) (each_apart v.left ts)
    v.is v.opened v.ahead (roomy_on _ _ _ _ k.roomy c.read_opening.ensures.low) in
    rw (q.1, q.2) (refused v _ _ d.0.made)

pub collect-loop-first-preserved : goal.collect-loop-first-preserved
collect-loop-first-preserved t c = record {
  text = c.term_from.ensures.text ∙ c.read_opening.ensures.text ∙ c.loop-first.invariant.text;
  low = omega (arith, c.term_from.ensures.low, c.read_opening.ensures.low, c.loop-first.invariant.low);
  left = λ us ts a m.
      let k = c.loop-first.invariant.left us ts a m in
      let v = turn k (text_of c.loop-first.scanner) c.in-Some.first (pos_of c.read_opening.new.scanner)
      c.loop-first.invariant.text c.in-Some.ensures.opens in
      let r = rw (c.read_opening.ensures.text, c.loop-first.invariant.text) at c.in_ok-part.ensures.made in
      let d = r v.part v.head v.tail (each_tokens v.left ts) (each_apart v.left ts)
      v.is v.opened v.ahead (roomy_on _ _ _ _ k.roomy c.read_opening.ensures.low) in
      let l : pos_of c.loop-first.scanner < pos_of c.read_opening.new.scanner = c.in-Some.ensures.advances in
      let e = room (text_of c.args.scanner.now) (text_of c.read_opening.new.scanner) (items c.loop-first.parts) (items c.term_from.new.parts) _ _
      k.roomy (c.read_opening.ensures.text ∙ c.loop-first.invariant.text) d.1 l c.read_opening.new.scanner.within in
      let p = pushed c.push-place.result _ _ c.in_ok-part.part c.push-place.ensures.ok c.push-place.ensures.full e in
      next_part v (items c.args.parts.now) (items c.term_from.new.parts) (items c.push-place.new.self) c.in_ok-part.part (pos_of c.loop-first.scanner) (pos_of c.term_from.new.scanner)
      (view_of c.term_from.new.protocol) d.0.made d.0.left (d.1 ∙ k.stand) p
      (rw d.1 k.roomy) (omega (arith, l, c.term_from.ensures.low));
}

pub collect-returns-clause-made : goal.collect-returns-clause-made
collect-returns-clause-made t c = λ us ts a m.
    let k = c.loop-first.invariant.left us ts a m in
    let e = at_end k (text_of c.loop-first.scanner) (pos_of c.read_opening.new.scanner)
    c.loop-first.invariant.text c.in_default.ensures.opens in
    (e.numbers, e.made, e.stand, e.ahead)

pub tuple-returns-in_err-collect-clause-made : goal.tuple-returns-in_err-collect-clause-made
tuple-returns-in_err-collect-clause-made t c = λ u us ts a m.
    let q = err_from_is_err_and c.from_residual.result c.from_residual.ensures.1 in
    let d = c.in_err-collect.ensures.made (u ∷ us) ts a m in
    rw (q.1, q.2) (record { made = unpaired (known c.args.names.now) u us _ _ _ d; left = tt }, tt)

pub tuple-returns-clause-made : goal.tuple-returns-clause-made
tuple-returns-clause-made t c = λ u us ts a m.
    let d = c.in_ok-collect.ensures.made (u ∷ us) ts a m in
    let v = paired (known c.args.names.now) u us (view_of c.args.protocol.now) d.0 (view_of c.collect.new.protocol) d.1 in
    let w = c.pair_up.ensures (items c.args.parts.now) v.first v.others (d.2 ∙ ap (λ z. items c.args.parts.now ++ z) v.is) (sym c.len-from.ensures.is) in
    (record { made = v.whole _ _ w.0; left = held c.pair_up.result d.3 }, w.1)

pub sealed-returns-in_err-content-clause-made : goal.sealed-returns-in_err-content-clause-made
sealed-returns-in_err-content-clause-made t c = λ u k ts m a f.
    let q = err_from_is_err_and c.from_residual.result c.from_residual.ensures.1 in
    let d = c.in_err-content.ensures.made u (closes Curly ∷ key_tokens k ts) tt a f in
    rw (q.1, q.2) (record { made = ended _ d.0.made refl; left = tt }, tt)

pub sealed-returns-in_err-sealer-clause-made : goal.sealed-returns-in_err-sealer-clause-made
sealed-returns-in_err-sealer-clause-made t c = λ u k ts m a f.
    let q = err_from_is_err_and c.from_residual-in_err-sealer.result c.from_residual-in_err-sealer.ensures.1 in
    let d = c.in_ok-content.ensures.made u (closes Curly ∷ key_tokens k ts) tt a f in
    let n = closed (text_of c.args.scanner.now) (text_of c.term.new.scanner) (pos_of c.term.new.scanner) (pos_of c.next-close.new.scanner)
    (lexeme c.next-close.result) (closes Curly) (key_tokens k ts) c.term.ensures.text c.next-close.ensures.next d.0.left in
    let w = key_named (known c.args.names.now) (text_of c.args.scanner.now) (text_of c.next-close.new.scanner) (pos_of c.next-close.new.scanner) (pos_of c.name-sealer.new.scanner)
    c.name-sealer.result k ts (c.next-close.ensures.text ∙ c.term.ensures.text) c.name-sealer.ensures.name n in
    let sealer = rw (c.name-sealer.ensures.text, c.next-close.ensures.text, c.term.ensures.text) at c.in_err-sealer.ensures.made in
    let e = sealer k ts m w.1 w.0 in
    rw (q.1, q.2) (record { made = on _ _ d.0.made (ended _ e.made refl); left = tt }, tt)

pub sealed-returns-clause-made : goal.sealed-returns-clause-made
sealed-returns-clause-made t c = λ u k ts m a f.
    let d = c.in_ok-content.ensures.made u (closes Curly ∷ key_tokens k ts) tt a f in
    let n = closed (text_of c.args.scanner.now) (text_of c.term.new.scanner) (pos_of c.term.new.scanner) (pos_of c.next-close.new.scanner)
    (lexeme c.next-close.result) (closes Curly) (key_tokens k ts) c.term.ensures.text c.next-close.ensures.next d.0.left in
    let w = key_named (known c.args.names.now) (text_of c.args.scanner.now) (text_of c.next-close.new.scanner) (pos_of c.next-close.new.scanner) (pos_of c.name-sealer.new.scanner)
    c.name-sealer.result k ts (c.next-close.ensures.text ∙ c.term.ensures.text) c.name-sealer.ensures.name n in
    let sealer = rw (c.name-sealer.ensures.text, c.next-close.ensures.text, c.term.ensures.text) at c.in_ok-sealer.ensures.made in
    let e = sealer k ts m w.1 w.0 in
    (record { made = on _ _ d.0.made (on _ _ e.made c.seal.ensures); left = held c.seal.result e.left }, held c.seal.result d.1)

pub named-returns-then-not-passes-clause-made : goal.named-returns-then-not-passes-clause-made
named-returns-then-not-passes-clause-made t c = λ u w rest ts m e g a f.
    let k = key_term (known c.args.names.now) (text_of c.args.scanner.now) (pos_of c.args.scanner.now) (pos_of c.passes.new.scanner) u w rest ts
    c.if-not-passes.ensures.passes m e a in
    let r = rw c.passes.ensures.text at c.key.ensures.made in
    let d = r k.is_key ts m k.ahead (g ∙ ap (number_in (known c.args.names.now)) k.named) in
    (record { made = k.whole _ _ _ d.made; left = d.left }, held c.key.result refl)

pub named-returns-in_err-content-clause-made : goal.named-returns-in_err-content-clause-made
named-returns-in_err-content-clause-made t c = λ u w rest ts m e g a f.
    let q = err_from_is_err_and c.from_residual.result c.from_residual.ensures.1 in
    let k = digest_term (known c.args.names.now) (text_of c.args.scanner.now) (pos_of c.args.scanner.now) (pos_of c.passes.new.scanner) u w rest ts
    c.if-not-passes.ensures.passes m e a in
    let r = rw c.passes.ensures.text at c.in_err-content.ensures.made in
    let d = r k.content (closes Angle ∷ ts) tt k.ahead (roomy_on _ _ _ _ f c.passes.ensures.low) in
    rw (q.1, q.2) (record { made = k.whole _ _ _ (ended _ d.0.made refl); left = tt }, tt)

pub named-returns-clause-made : goal.named-returns-clause-made
named-returns-clause-made t c = λ u w rest ts m e g a f.
    let k = digest_term (known c.args.names.now) (text_of c.args.scanner.now) (pos_of c.args.scanner.now) (pos_of c.passes.new.scanner) u w rest ts
    c.if-not-passes.ensures.passes m e a in
    let r = rw c.passes.ensures.text at c.in_ok-content.ensures.made in
    let d = r k.content (closes Angle ∷ ts) tt k.ahead (roomy_on _ _ _ _ f c.passes.ensures.low) in
    let n = closed (text_of c.args.scanner.now) (text_of c.term.new.scanner) (pos_of c.term.new.scanner) (pos_of c.next-close.new.scanner)
    (lexeme c.next-close.result) (closes Angle) ts (c.term.ensures.text ∙ c.passes.ensures.text) c.next-close.ensures.next d.0.left in
    let b = rw g at c.digest.ensures in
    (record { made = k.whole _ _ _ (on _ _ d.0.made b); left = held c.digest.result n }, held c.digest.result d.1)

pub term_from-returns-in-Tuple-clause-made : goal.term_from-returns-in-Tuple-clause-made
term_from-returns-in-Tuple-clause-made t c = λ u x rest ts m e o a f.
    let first = rw c.in-Tuple.is at o in
    let k = round_term (known c.args.names.now) u rest ts (rw first at e) in
    let d = c.tuple.ensures.made k.first k.others ts (rw k.is at a) f in
    (record { made = k.whole _ _ _ d.0.made; left = d.0.left }, d.1)

pub term_from-returns-in-Sealed-clause-made : goal.term_from-returns-in-Sealed-clause-made
term_from-returns-in-Sealed-clause-made t c = λ u x rest ts m e o a f.
    let first = rw c.in-Sealed.is at o in
    let k = curly_term (known c.args.names.now) u rest ts (rw first at e) in
    let d = c.sealed.ensures.made k.content k.sealer ts m (rw k.is at a) f in
    (record { made = k.whole _ _ _ d.0.made; left = d.0.left }, d.1)

pub term_from-returns-in-Name-clause-made : goal.term_from-returns-in-Name-clause-made
term_from-returns-in-Name-clause-made t c = λ u x rest ts m e o a f.
    let first = rw c.in-Name.is at o in
    c.named.ensures.made u c.in-Name.word.now rest ts m (word_begins c.in-Name.word.now u rest ts (rw first at e)) c.number_in.ensures a f

pub term-returns-in-Some-clause-made : goal.term-returns-in-Some-clause-made
term-returns-in-Some-clause-made t c = λ u ts m a f.
    let b = begins u ts in
    let n = c.in-Some.ensures.opens b.head b.tail (rw b.is at a) in
    let r = rw c.read_opening.ensures.text at c.term_from.ensures.made in
    r u b.head b.tail ts m (sym b.is) n.0 n.1 (roomy_on _ _ _ _ f c.read_opening.ensures.low)

pub term-returns-in-None-clause-made : goal.term-returns-in-None-clause-made
term-returns-in-None-clause-made t c = λ u ts m a f.
    let b = begins u ts in
    absurd ((c.in-None.ensures.opens b.head b.tail (rw b.is at a)).0 b.starts)
