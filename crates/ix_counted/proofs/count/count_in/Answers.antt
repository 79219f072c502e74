use Rattle.std.proofs.Common.{rules, ◌≡◌, ◌+◌, ◌<◌, ◌≤◌, ◌^◌, min, length, get_or, sym, ap, ◌∙◌}
use Rattle.std.proofs.Common.{arith}
use Rattle.std.proofs.lemmas.Option.{none-some}
use Rattle.ix_hierarchy.specs.Hierarchy.{child_of}
use Rattle.ix_counted.specs.Counts.{sum_to, with_instance}
use Rattle.ix_counted.proofs.Counting.{instance_is, within_counts}
use Rattle.ix_counted.proofs.Instances.{child_some}
use Rattle.ix_counted.proofs.Sums.{sum_next, sum_none}
use Rattle.ix_counted.proofs.Whole.{few_get}
use Rattle.ix_counted.proofs.count.count_in.Goals as goal

pub loop-place-init : goal.loop-place-init
loop-place-init c =
    let none : sum_to (λ place. with_instance (λ d. get_or c.args.counts.now d 0)
    (child_of c.args.rec.now c.args.cell.now place)) 0 ≡ 0 = sum_none _ in
    c.limited-count.ensures ∙ ap (λ n. min n (2 ^ 22 + 1)) (c.len.ensures ∙ omega (arith, none))

pub declaration_at-requires : goal.declaration_at-requires
declaration_at-requires c =
    let lt : c.loop-place.place < c.len-place-end.result = c.loop-place-test.true in
    let len : c.len-place-end.result ≡ length c.args.cell.now.insts = c.len-place-end.ensures in
    let x : _ = child_some c.args.rec.now c.requires.there.0 c.loop-place.place c.args.cell.now
    c.requires.fits c.requires.there.1 (omega arith) in
    record { there = λ e. none-some x.0 (sym e ∙ x.1) }

pub overflow_add-count-in-loop-place : goal.overflow_add-count-in-loop-place
overflow_add-count-in-loop-place c =
    let lt : c.loop-place.place < c.len-place-end.result = c.loop-place-test.true in
    let len : c.len-place-end.result ≡ length c.args.cell.now.insts = c.len-place-end.ensures in
    let within : c.declaration_at.result < length c.args.counts.now =
    within_counts c.args.rec.now c.args.counts.now c.requires.there.0 c.loop-place.place
    c.args.cell.now c.declaration_at.result c.requires.fits c.requires.many
    c.requires.there.1 (omega arith) c.declaration_at.ensures in
    let few : get_or c.args.counts.now c.declaration_at.result 0 ≤ 2 ^ 22 + 1 =
    few_get c.args.counts.now c.declaration_at.result c.requires.few within in
    let count : c.loop-place.count ≡ min (length c.args.cell.now.nets
    + sum_to (λ place. with_instance (λ d. get_or c.args.counts.now d 0)
    (child_of c.args.rec.now c.args.cell.now place)) c.loop-place.place) (2 ^ 22 + 1) =
    c.loop-place.invariant in
    let most : c.loop-place.count ≤ 2 ^ 22 + 1 = omega arith in
    search rules

pub loop-place-preserved : goal.loop-place-preserved
loop-place-preserved c =
    let count : c.loop-place.count ≡ min (length c.args.cell.now.nets
    + sum_to (λ place. with_instance (λ d. get_or c.args.counts.now d 0)
    (child_of c.args.rec.now c.args.cell.now place)) c.loop-place.place) (2 ^ 22 + 1) =
    c.loop-place.invariant in
    let next : sum_to (λ place. with_instance (λ d. get_or c.args.counts.now d 0)
    (child_of c.args.rec.now c.args.cell.now place)) (c.loop-place.place + 1)
    ≡ sum_to (λ place. with_instance (λ d. get_or c.args.counts.now d 0)
    (child_of c.args.rec.now c.args.cell.now place)) c.loop-place.place
    + with_instance (λ d. get_or c.args.counts.now d 0)
    (child_of c.args.rec.now c.args.cell.now c.loop-place.place) =
    sum_next (λ place. with_instance (λ d. get_or c.args.counts.now d 0)
    (child_of c.args.rec.now c.args.cell.now place)) c.loop-place.place in
    let one : with_instance (λ d. get_or c.args.counts.now d 0)
    (child_of c.args.rec.now c.args.cell.now c.loop-place.place)
    ≡ 1 + get_or c.args.counts.now c.declaration_at.result 0 =
    instance_is (λ d. get_or c.args.counts.now d 0)
    (child_of c.args.rec.now c.args.cell.now c.loop-place.place) c.declaration_at.result
    c.declaration_at.ensures in
    c.limited-count-in-loop-place.ensures ∙ omega (arith, count, next, one)
