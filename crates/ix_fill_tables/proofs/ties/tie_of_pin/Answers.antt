use Rattle.std.proofs.Common.{◌∙◌, ap, sym, option_and_then, ℕ}
use Rattle.ix_device.specs.Lookups.{in_type, wire_in}
use Rattle.ix_fill_tables.proofs.Unused.{tells_pin}
use Rattle.ix_fill_tables.proofs.ties.tie_of_pin.Goals as goal

pub returns-in-Some-wire_of : goal.returns-in-Some-wire_of
returns-in-Some-wire_of c =
    let rec = c.args.on.now.device.now in
    let nets = c.args.on.now.phys.now.nets in
    tells_pin rec nets c.args.site c.args.ty c.args.bel c.args.name c.in-Some-wire_of.wire
    c.tie.result
    (ap (option_and_then (λ (pin : ℕ). in_type (wire_in pin) rec c.args.ty))
    (sym c.in-Some.ensures.pin) ∙ sym c.in-Some-wire_of.ensures)
    (c.tie.ensures rec nets c.requires.holdings)
