use Rattle.std.proofs.Common.{◌∙◌, ap}
use Rattle.ix_keys.specs.Keys.{key, with_key}
use Rattle.ix_device_rules.proofs.TableLemmas.{same_begin, same_on}
use Rattle.ix_device_rules.proofs.lut_elements.see_bels.Goals as goal

pub loop-i-init : goal.loop-i-init
loop-i-init c = same_begin c.args.seen.now

pub loop-i-preserved : goal.loop-i-preserved
loop-i-preserved c = same_on (λ b. key c.args.parts.now.name 0 b.name) c.args.seen.now c.args.element.now.bels c.loop-i.i c.at.result.now c.loop-i.seen c.add.new.self c.at.ensures c.loop-i.invariant (c.in-Ok.ensures.keys ∙ ap (with_key c.loop-i.seen) c.element_key-key.ensures)
