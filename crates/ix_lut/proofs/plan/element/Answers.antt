use Rattle.std.proofs.Common.{ℕ, ◌<◌, ◌≤◌, ◌^◌, List, length, take, slice_index, inl, refl, arith}
use Rattle.std.proofs.lemmas.List.{get_or-take, length-take}
use Rattle.ix_lut.specs.declared.uses.Item.{Item}
use Rattle.ix_lut.proofs.Bits.{small_from_bits}
use Rattle.ix_lut.proofs.Assigning.{assigned, unassigned}
use Rattle.ix_lut.proofs.Planning.{all_give}
use Rattle.ix_lut.proofs.plan.element.Goals as goal

pub least_lines-requires-clause-small : goal.least_lines-requires-clause-small
least_lines-requires-clause-small c = λ i h.
    let masks = c.masks_of-masks.result in
    let n : ℕ = length (take c.find_items-found.result.count c.find_items-found.result.items) in
    let below : i < n = omega (arith, h, length-take n masks) in
    let small : slice_index masks i < 2 ^ 12 = small_from_bits 12 (slice_index masks i)
    (λ l one. omega (arith, c.masks_of-masks.ensures.are.on_lines i l one, c.requires.shape.lines)) in
    omega (arith, get_or-take n masks i 0 below, small)

pub plan_with-requires-clause-lines : goal.plan_with-requires-clause-lines
plan_with-requires-clause-lines c =
    let items : List Item = take c.find_items-found.result.count c.find_items-found.result.items in
    let room : length items ≤ 48 = omega (
      arith,
      length-take c.find_items-found.result.count c.find_items-found.result.items,
      c.find_items-found.ensures.count,
    ) in
    assigned c.args.shape.now c.args.uses.now (length items) items c.masks_of-masks.result c.in-Some.lines
    c.requires.shape.lines c.find_items-found.ensures.items refl room
    c.masks_of-masks.ensures.long c.masks_of-masks.ensures.are c.in-Some.ensures.found

pub returns-in-None-clause-none : goal.returns-in-None-clause-none
returns-in-None-clause-none c =
    let items : List Item = take c.find_items-found.result.count c.find_items-found.result.items in
    let room : length items ≤ 48 = omega (
      arith,
      length-take c.find_items-found.result.count c.find_items-found.result.items,
      c.find_items-found.ensures.count,
    ) in
    inl (unassigned c.args.shape.now c.args.uses.now (length items) items c.masks_of-masks.result
    c.requires.shape.lines c.find_items-found.ensures.items refl room
    c.masks_of-masks.ensures.long c.masks_of-masks.ensures.are c.in-None.ensures.none)

pub returns-in-Some-clause-functions : goal.returns-in-Some-clause-functions
returns-in-Some-clause-functions c = all_give c.args.shape.now c.args.uses.now c.plan_with.result
