use Rattle.std.proofs.Common.{◌≡◌, ◌+◌, ◌%◌, ◌<◌, [], ◌∷◌, ◌++◌, length, take, sym, ap, ◌∙◌, ap₂, arith, rules}
use native.Mathlib.Nat.{mod-add-mod}
use Rattle.byte_provider.specs.Held.{held, part}
use Rattle.byte_provider.specs.Values.{shift, shifted}
use Rattle.byte_provider.specs.Parts.{part_done, length_part}
use Rattle.byte_provider.proofs.Loops.{shift_more, length_shifted}
use Rattle.byte_provider.proofs.Writing.{front, wrote_more}
use Rattle.byte_provider.proofs.table.Table.shift.Goals as goal

pub loop-i-preserved : goal.loop-i-preserved
loop-i-preserved c =
    let t = c.args.self.now in
    let bs = c.loop-i.self.bytes in
    let i = c.loop-i.i in
    let k = c.loop-i.k in
    let p = c.args.content in
    let q = c.args.body in
    let w = c.args.way in
    let v = c.loop-i.invariant in
    let done = shifted w (part (held t) q) 0 (take i (part (held t) p)) in
    let room : t.used + i < length bs = search rules in
    let lp : p.start + i < length (held t) = omega (arith, c.requires.content_inside) in
    let lq : q.start + k < length (held t) = omega (arith, c.requires.body_inside, v.3) in
    let fp = front t.bytes bs done t.used i v.0 (p.start + i) lp in
    let fq = front t.bytes bs done t.used i v.0 (q.start + k) lq in (
      wrote_more t.bytes bs done t.used i v.0 c.apply.result room
          ∙ ap (λ l. held t ++ l)
          (ap (λ b. done ++ (b ∷ [])) (c.apply.ensures ∙ ap₂ (shift w) fp fq)
          ∙ shift_more w (held t) p q i k c.requires.content_inside c.requires.body_inside c.loop-i-test.true v.2 v.3),
      v.1,
      c.after-k.ensures.0 ∙ ap (λ n. (n + 1) % q.len) v.2 ∙ mod-add-mod i q.len 1,
      c.after-k.ensures.1,
    )

pub returns : goal.returns
returns c =
    let t = c.args.self.now in
    let p = c.args.content in
    let body = part (held t) c.args.body in
    let w = c.args.way in
    let i = c.loop-i.i in
    let e : i ≡ p.len = omega arith in
    record {
      bytes =
          ap (λ n. take (t.used + n) c.loop-i.self.bytes) (sym e)
          ∙ c.loop-i.invariant.0
          ∙ ap (λ v. held t ++ shifted w body 0 v) (part_done (held t) p i c.requires.content_inside c.loop-i.auto.i-end c.loop-i-test.false);
      used = ap (λ n. t.used + n) (sym (length_shifted w body 0 (part (held t) p) ∙ length_part (held t) p c.requires.content_inside));
    }
