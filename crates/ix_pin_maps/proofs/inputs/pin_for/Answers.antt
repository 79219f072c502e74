use Rattle.std.proofs.Common.{◌∙◌, sym, ap}
use Rattle.ix_pin_maps.specs.Inputs.{listed}
use Rattle.ix_pin_maps.proofs.InputLemmas.{met, met_again, passed}
use Rattle.ix_pin_maps.proofs.inputs.pin_for.Goals.{then-eq+else-is_some, else-eq}
use Rattle.ix_pin_maps.proofs.inputs.pin_for.Goals as goal

pub returns-then-is_some : goal.returns-then-is_some
returns-then-is_some c =
    met_again c.args.placement.now.pin_map c.loop-i.i c.at-entry.result.now c.at-entry.ensures
    c.args.cell_pin c.loop-i.found (sym c.eq.ensures ∙ c.if-eq.true)
    (sym c.is_some.ensures ∙ c.if-is_some.true) c.loop-i.invariant

pub loop-i-preserved : goal.loop-i-preserved
loop-i-preserved c =
    let entries = c.args.placement.now.pin_map in let e = c.at-entry.result.now in
    elim c.if-eq.branch [
      | then-eq+else-is_some w ↦
          met entries c.loop-i.i e c.at-entry.ensures c.args.cell_pin c.loop-i.found
          (sym c.eq.ensures ∙ w.if-eq.true) (sym w.is_some.ensures ∙ w.if-is_some.false)
          c.loop-i.invariant ∙ ap listed (sym w.found-is)
      | else-eq w ↦
          passed entries c.loop-i.i e c.at-entry.ensures c.args.cell_pin c.loop-i.found
          (sym c.eq.ensures ∙ w.if-eq.false) c.loop-i.invariant ∙ ap listed (sym w.found-is)
    ]
