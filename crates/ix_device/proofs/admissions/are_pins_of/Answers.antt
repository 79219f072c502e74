use Rattle.std.proofs.Common.{sym}
use Rattle.ix_device_rules.specs.Rules.{has_pin}
use Rattle.ix_device.proofs.Walks.{all_fails, all_next}
use Rattle.ix_device.proofs.admissions.are_pins_of.Goals as goal

pub returns-then-not-has_pin : goal.returns-then-not-has_pin
returns-then-not-has_pin c = sym (all_fails (λ p. has_pin c.args.t.now c.args.bel p.bel_pin) c.args.pins.now c.loop-i.i c.at.result.now c.at.ensures (sym c.if-not-has_pin.ensures))

pub loop-i-preserved : goal.loop-i-preserved
loop-i-preserved c = all_next (λ p. has_pin c.args.t.now c.args.bel p.bel_pin) c.args.pins.now c.loop-i.i c.at.result.now c.at.ensures c.loop-i.invariant (sym c.if-not-has_pin.ensures)
