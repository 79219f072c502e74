use Rattle.std.proofs.Common.{◌≡◌, ◌-◌, length, Some, sym, ◌∙◌, subst, slice_get}
use Rattle.ix_reach.proofs.Parts.{part_gone}
use Rattle.ix_reach.proofs.search.merge.Goals as goal

pub loop-part-preserved : goal.loop-part-preserved
loop-part-preserved c =
    let last : slice_get c.as_slice.result.now (length c.as_slice.result.now - 1)
    ≡ Some c.in-Some.part =
    sym c.last.ensures.value ∙ sym c.copied.ensures ∙ c.in-Some.is in
    part_gone c.args.parts.now.items c.loop-part.parts.items c.pop.new.self.items c.pop.result
    c.args.place c.in-Some.part c.loop-part.invariant c.pop.ensures.items
    (subst (λ s. slice_get s (length s - 1) ≡ Some c.in-Some.part) c.as_slice.ensures.value last)
    c.if-part-place.false
