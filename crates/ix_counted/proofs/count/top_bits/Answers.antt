use Rattle.std.proofs.Common.{◌≡◌, ◌+◌, ◌^◌, min, slice_get, sym, ap, ◌∙◌, arith}
use Rattle.ix_counted.specs.Counts.{bits_at, bits_of, bits_to}
use Rattle.ix_counted.proofs.Sums.{sum_next, sum_none}
use Rattle.ix_counted.proofs.count.top_bits.Goals as goal

pub loop-place-init : goal.loop-place-init
loop-place-init c =
    let none : bits_to c.args.rec.now c.at-top.result.now.ports 0 ≡ 0 = sum_none _ in
    omega (arith, none)

pub loop-place-preserved : goal.loop-place-preserved
loop-place-preserved c =
    let next : bits_to c.args.rec.now c.at-top.result.now.ports (c.loop-place.place + 1)
    ≡ bits_to c.args.rec.now c.at-top.result.now.ports c.loop-place.place
    + bits_at c.args.rec.now (slice_get c.at-top.result.now.ports c.loop-place.place) =
    sum_next (λ place. bits_at c.args.rec.now (slice_get c.at-top.result.now.ports place))
    c.loop-place.place in
    let bits : bits_at c.args.rec.now (slice_get c.at-top.result.now.ports c.loop-place.place)
    ≡ c.width.result =
    ap (λ o. bits_at c.args.rec.now o) c.at.ensures
    ∙ ap (λ o. bits_of o) c.at-port.ensures ∙ sym c.width.ensures.width in
    let count : c.loop-place.count
    ≡ min (bits_to c.args.rec.now c.at-top.result.now.ports c.loop-place.place) (2 ^ 22 + 1) =
    c.loop-place.invariant in
    c.limited-count.ensures ∙ omega (arith, next, bits, count)
