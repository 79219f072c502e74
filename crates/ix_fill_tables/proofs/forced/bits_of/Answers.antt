use Rattle.std.proofs.Common.{◌∙◌, sym, subst, ℕ, List, arith}
use Rattle.ix_placed_luts.specs.Placed.{IsPlaced}
use Rattle.ix_placed_luts.proofs.Placing.{type_inside, all_lines_there, bel_usable, places_inside}
use Rattle.ix_fill_tables.specs.Forced.{TellsForced}
use Rattle.ix_fill_tables.proofs.Forces.{none_placed, none_told, none_held, are_forced}
use Rattle.ix_fill_tables.proofs.forced.bits_of.Goals as goal

pub returns-in_err-at : goal.returns-in_err-at
returns-in_err-at c =
    let rec = c.args.on.now.device.now in let phys = c.args.on.now.phys.now in
    let flat = c.args.on.now.flat.now in
    subst (TellsForced rec phys flat c.args.placement.now) (sym c.from_residual.ensures)
    (none_placed rec phys flat c.args.placement.now c.in_err-at.ensures.none)

pub returns-in_err-table : goal.returns-in_err-table
returns-in_err-table c =
    let rec = c.args.on.now.device.now in let phys = c.args.on.now.phys.now in
    let flat = c.args.on.now.flat.now in let at = c.in_ok-at.at in
    subst (TellsForced rec phys flat c.args.placement.now)
    (sym c.from_residual-in_err-table.ensures)
    (none_told rec c.args.placement.now at.site at.ty at.bel at.lut_bel.now at.shape at.place
    c.as_slice-used.result.now
    (subst (λ (ps : List ℕ). IsPlaced rec c.args.placement.now at.site at.ty at.bel at.lut_bel.now
    at.shape at.place ps) (sym c.as_slice-used.ensures.places) c.in_ok-at.ensures.placed)
    phys flat c.places_are_one.ensures.law (sym c.told_to.ensures ∙ c.in_err-table.was))

pub ties_of-requires-clause-ty : goal.ties_of-requires-clause-ty
ties_of-requires-clause-ty c = let at = c.in_ok-at.at in
    type_inside c.args.on.now.device.now c.args.placement.now at.site at.ty at.bel at.lut_bel.now
    at.shape at.place at.inputs c.in_ok-at.ensures.placed

pub ties_of-requires-clause-usable : goal.ties_of-requires-clause-usable
ties_of-requires-clause-usable c = let at = c.in_ok-at.at in
    bel_usable c.args.on.now.device.now c.args.placement.now at.site at.ty at.bel at.lut_bel.now
    at.shape at.place at.inputs c.in_ok-at.ensures.placed

pub ties_of-requires-clause-all : goal.ties_of-requires-clause-all
ties_of-requires-clause-all c = let at = c.in_ok-at.at in
    all_lines_there c.args.on.now.device.now c.args.placement.now at.site at.ty at.bel
    at.lut_bel.now at.shape at.place at.inputs c.in_ok-at.ensures.placed

pub returns-in_err-ties : goal.returns-in_err-ties
returns-in_err-ties c =
    let rec = c.args.on.now.device.now in let phys = c.args.on.now.phys.now in
    let flat = c.args.on.now.flat.now in let at = c.in_ok-at.at in
    subst (TellsForced rec phys flat c.args.placement.now)
    (sym c.from_residual-in_err-ties.ensures)
    (none_held rec c.args.placement.now at.site at.ty at.bel at.lut_bel.now at.shape at.place
    c.as_slice-used.result.now
    (subst (λ (ps : List ℕ). IsPlaced rec c.args.placement.now at.site at.ty at.bel at.lut_bel.now
    at.shape at.place ps) (sym c.as_slice-used.ensures.places) c.in_ok-at.ensures.placed)
    phys flat c.places_are_one.ensures.law c.in_err-ties.ensures)

pub forced_bits-requires-clause-bel : goal.forced_bits-requires-clause-bel
forced_bits-requires-clause-bel c = let at = c.in_ok-at.at in
    bel_usable c.args.on.now.device.now c.args.placement.now at.site at.ty at.bel at.lut_bel.now
    at.shape at.place at.inputs c.in_ok-at.ensures.placed

pub forced_bits-requires-clause-within : goal.forced_bits-requires-clause-within
forced_bits-requires-clause-within c = let at = c.in_ok-at.at in
    let rec = c.args.on.now.device.now in
    let is = subst (λ (ps : List ℕ). IsPlaced rec c.args.placement.now at.site at.ty at.bel
    at.lut_bel.now at.shape at.place ps) (sym c.as_slice-used.ensures.places)
    c.in_ok-at.ensures.placed in
    let inside = places_inside rec c.args.placement.now at.site at.ty at.bel at.lut_bel.now at.shape
    at.place c.as_slice-used.result.now is in
    let few = (bel_usable rec c.args.placement.now at.site at.ty at.bel at.lut_bel.now at.shape
    at.place c.as_slice-used.result.now is).few in
    λ i less. let below = inside.within i less in omega (arith, below, few)

pub returns : goal.returns
returns c =
    let rec = c.args.on.now.device.now in let phys = c.args.on.now.phys.now in
    let flat = c.args.on.now.flat.now in let at = c.in_ok-at.at in
    are_forced rec c.args.placement.now at.site at.ty at.bel at.lut_bel.now at.shape at.place
    c.as_slice-used.result.now
    (subst (λ (ps : List ℕ). IsPlaced rec c.args.placement.now at.site at.ty at.bel at.lut_bel.now
    at.shape at.place ps) (sym c.as_slice-used.ensures.places) c.in_ok-at.ensures.placed)
    phys flat c.places_are_one.ensures.law c.in_ok-ties.ties c.in_ok-ties.ensures
    c.in_ok-table.table (sym c.told_to.ensures ∙ c.in_ok-table.was) c.forced_bits.result
    c.forced_bits.ensures
