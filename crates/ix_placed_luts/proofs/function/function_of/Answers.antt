use Rattle.std.proofs.Common.{sym, subst, IfNone, ℕ, List}
use Rattle.ix_legal.specs.LutTables.{IsFunction}
use Rattle.ix_placed_luts.specs.Placed.{IsPlaced}
use Rattle.ix_placed_luts.proofs.Holding.{have_one_holder}
use Rattle.ix_placed_luts.proofs.Placing.{type_inside, place_inside, all_lines_there, bel_usable}
use Rattle.ix_placed_luts.proofs.Placing.{places_inside, functions, no_functions}
use Rattle.ix_placed_luts.proofs.function.function_of.Goals as goal

pub returns-in_err-at-clause-none : goal.returns-in_err-at-clause-none
returns-in_err-at-clause-none c =
    subst (λ o. IfNone o ((function : ℕ) → IsFunction c.args.device.now c.args.phys.now
    c.args.placement.now c.args.bits function → ⊥)) (sym c.from_residual.ensures)
    (λ function has.
    c.in_err-at.ensures.none has.lut has.element has.place has.on has.is_on)

pub ties_of-ties-requires-clause-one_holder : goal.ties_of-ties-requires-clause-one_holder
ties_of-ties-requires-clause-one_holder c =
    have_one_holder c.requires.unshared.0 c.args.device.now c.args.phys.now c.requires.unshared.1
    c.holders_are_one.ensures.law

pub ties_of-ties-requires-clause-inside : goal.ties_of-ties-requires-clause-inside
ties_of-ties-requires-clause-inside c = let at = c.in_ok-at.at in
    type_inside c.args.device.now c.args.placement.now at.site at.ty at.bel at.lut_bel.now at.shape
    at.place at.inputs c.in_ok-at.ensures.placed

pub ties_of-ties-requires-clause-usable : goal.ties_of-ties-requires-clause-usable
ties_of-ties-requires-clause-usable c = let at = c.in_ok-at.at in
    bel_usable c.args.device.now c.args.placement.now at.site at.ty at.bel at.lut_bel.now at.shape
    at.place at.inputs c.in_ok-at.ensures.placed

pub ties_of-ties-requires-clause-all : goal.ties_of-ties-requires-clause-all
ties_of-ties-requires-clause-all c = let at = c.in_ok-at.at in
    all_lines_there c.args.device.now c.args.placement.now at.site at.ty at.bel at.lut_bel.now
    at.shape at.place at.inputs c.in_ok-at.ensures.placed

pub function_at-requires-clause-bel : goal.function_at-requires-clause-bel
function_at-requires-clause-bel c = let at = c.in_ok-at.at in
    place_inside c.args.device.now c.args.placement.now at.site at.ty at.bel at.lut_bel.now
    at.shape at.place at.inputs c.in_ok-at.ensures.placed

pub function_at-requires-clause-inputs : goal.function_at-requires-clause-inputs
function_at-requires-clause-inputs c = let at = c.in_ok-at.at in
    places_inside c.args.device.now c.args.placement.now at.site at.ty at.bel at.lut_bel.now
    at.shape at.place c.as_slice.result.now
    (subst (λ (ps : List ℕ). IsPlaced c.args.device.now c.args.placement.now at.site at.ty at.bel
    at.lut_bel.now at.shape at.place ps) (sym c.as_slice.ensures.places) c.in_ok-at.ensures.placed)

pub returns-clause-function : goal.returns-clause-function
returns-clause-function c = let at = c.in_ok-at.at in
    functions c.args.device.now c.args.placement.now at.site at.ty at.bel at.lut_bel.now
    at.shape at.place c.as_slice.result.now
    (subst (λ (ps : List ℕ). IsPlaced c.args.device.now c.args.placement.now at.site at.ty at.bel
    at.lut_bel.now at.shape at.place ps) (sym c.as_slice.ensures.places) c.in_ok-at.ensures.placed)
    c.args.phys.now c.ties_of-ties.result c.ties_of-ties.ensures c.args.bits c.function_at.result
    c.function_at.ensures.inputs c.function_at.ensures.table c.function_at.ensures.function

pub returns-clause-none : goal.returns-clause-none
returns-clause-none c = let at = c.in_ok-at.at in
    no_functions c.args.device.now c.args.placement.now at.site at.ty at.bel at.lut_bel.now
    at.shape at.place c.as_slice.result.now
    (subst (λ (ps : List ℕ). IsPlaced c.args.device.now c.args.placement.now at.site at.ty at.bel
    at.lut_bel.now at.shape at.place ps) (sym c.as_slice.ensures.places) c.in_ok-at.ensures.placed)
    c.args.phys.now c.ties_of-ties.result c.ties_of-ties.ensures c.places_are_one.ensures.law
    c.args.bits c.function_at.result c.function_at.ensures.none
