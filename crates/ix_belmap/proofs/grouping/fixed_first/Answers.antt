use Rattle.std.proofs.Common.{ap, sym, ◌∙◌, is_some}
use Rattle.ix_belmap.specs.Groups.{is_fixed}
use Rattle.ix_belmap.proofs.Grouped.{fixed_told, parted_end, parted_no, parted_start, parted_yes}
use Rattle.ix_belmap.proofs.grouping.fixed_first.Goals as goal

pub loop-group-init : goal.loop-group-init
loop-group-init c =
    parted_start (is_fixed c.args.flat.now) c.args.groups c.new-first.result.items
    c.new-others.result.items
    c.into_iter-group-iterator.result.rest.items
    (c.into_iter-group-iterator.ensures.into_iter_gives.0 ∙ c.into_vec-group-items.ensures)
    c.new-first.ensures.items c.new-others.ensures.items

pub loop-group-preserved-in-Continue-1 : goal.loop-group-preserved-in-Continue-1
loop-group-preserved-in-Continue-1 c =
    parted_yes (is_fixed c.args.flat.now) c.args.groups c.loop-group.first.items
    c.loop-group.others.items
    c.loop-group.group-iterator.rest.items c.next.new.self.rest.items c.push.new.self.items
    c.in-Some.group
    c.loop-group.invariant c.in-Some.ensures.steps.0
    (fixed_told c.args.flat.now c.in-Some.group c.at.result.now c.at.ensures
    ∙ ap is_some (sym c.get.ensures) ∙ sym c.is_some.ensures ∙ c.if-is_some.true)
    c.in_ok-push.ensures.items

pub loop-group-preserved : goal.loop-group-preserved
loop-group-preserved c =
    parted_no (is_fixed c.args.flat.now) c.args.groups c.loop-group.first.items
    c.loop-group.others.items
    c.loop-group.group-iterator.rest.items c.next.new.self.rest.items
    c.push-else-is_some.new.self.items c.in-Some.group
    c.loop-group.invariant c.in-Some.ensures.steps.0
    (fixed_told c.args.flat.now c.in-Some.group c.at.result.now c.at.ensures
    ∙ ap is_some (sym c.get.ensures) ∙ sym c.is_some.ensures ∙ c.if-is_some.false)
    c.in_ok-push-2.ensures.items

pub returns : goal.returns
returns c =
    c.from_vec.ensures ∙ c.in_ok-append.ensures.items
    ∙ parted_end (is_fixed c.args.flat.now) c.args.groups c.loop-group.first.items
    c.loop-group.others.items
    c.loop-group.group-iterator.rest.items c.loop-group.invariant
    (sym c.loop-group.group-iterator.rest.ok.0 ∙ c.in-None.ensures.steps.0)
