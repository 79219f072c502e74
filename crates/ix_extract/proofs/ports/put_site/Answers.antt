use Rattle.std.proofs.Common.{◌≡◌, ◌∙◌, ap, sym, true≢false}
use Rattle.std.specs.FinMap.{get}
use Rattle.ix_extract.proofs.Fixing.{on_no_site, other_type, port_next}
use Rattle.ix_extract.proofs.ports.put_site.Goals as goal

pub returns-in_ok-insert : goal.returns-in_ok-insert
returns-in_ok-insert c =
    let id : c.new.result ≡ c.args.cell = c.new.ensures in
    port_next c.args.on.now.names.now c.args.on.now.device.now c.args.on.now.phys.now c.args.cell
    c.at-placement.result.now c.at-placement.ensures c.args.fixed.now c.requires.fixed
    (c.is_port.ensures.0 c.if-is_port.true) c.in-Some.site (sym c.in-Some.ensures.site)
    c.insert.new.self (ap (get c.insert.new.self) (sym id) ∙ c.in_ok-insert.ensures.value)
    (λ q apart. c.insert.ensures.others q (λ e. apart (e ∙ id)))

pub returns-in_default : goal.returns-in_default
returns-in_default c = on_no_site c.args.on.now.names.now c.args.on.now.device.now
    c.args.on.now.phys.now c.args.cell c.at-placement.result.now c.at-placement.ensures
    c.args.fixed.now c.requires.fixed (sym c.in_default.ensures.site)

pub returns-else-is_port : goal.returns-else-is_port
returns-else-is_port c = other_type c.args.on.now.names.now c.args.on.now.device.now
    c.args.on.now.phys.now c.args.cell c.at-placement.result.now c.at-placement.ensures
    c.args.fixed.now c.requires.fixed
    (λ port. true≢false (sym (c.is_port.ensures.1 port) ∙ c.if-is_port.false))
