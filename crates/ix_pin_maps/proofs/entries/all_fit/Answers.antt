use Rattle.std.proofs.Common.{◌≡◌, ◌∙◌, sym, ap, take, length, option_map, arith}
use Rattle.std.specs.List.{list_all}
use Rattle.std.proofs.Math.Seq.{take-length}
use Rattle.ix_device.proofs.Walks.{all_fails, all_next}
use Rattle.ix_pin_maps.specs.Entries.{entry_fits}
use Rattle.ix_pin_maps.proofs.entries.all_fit.Goals as goal

pub returns-then-not-entry_fits : goal.returns-then-not-entry_fits
returns-then-not-entry_fits c = let on = c.args.on.now in
    sym (all_fails (entry_fits on.device.now on.ty on.bel on.turn on.marks.now
    (option_map (λ l. l.now) c.args.lut) c.args.placement.now.bel) c.args.placement.now.pin_map
    c.loop-i.i c.at.result.now c.at.ensures (sym c.entry_fits.ensures ∙ c.if-not-entry_fits.true))

pub loop-i-preserved : goal.loop-i-preserved
loop-i-preserved c = let on = c.args.on.now in
    all_next (entry_fits on.device.now on.ty on.bel on.turn on.marks.now
    (option_map (λ l. l.now) c.args.lut) c.args.placement.now.bel) c.args.placement.now.pin_map
    c.loop-i.i c.at.result.now c.at.ensures c.loop-i.invariant
    (sym c.entry_fits.ensures ∙ c.if-not-entry_fits.false)

pub returns : goal.returns
returns c =
    let entries = c.args.placement.now.pin_map in let on = c.args.on.now in
    let end : c.loop-i.i ≡ length entries =
    omega (arith, c.loop-i-test.false, c.loop-i.auto.i-end, c.len-i-end.ensures) in
    sym (sym (ap (list_all (entry_fits on.device.now on.ty on.bel on.turn on.marks.now
    (option_map (λ l. l.now) c.args.lut) c.args.placement.now.bel))
    (ap (λ n. take n entries) end ∙ take-length entries)) ∙ c.loop-i.invariant)
