use Rattle.std.proofs.Common.{◌∙◌, ap}
use Rattle.ix_keys.specs.Keys.{key, with_key}
use Rattle.ix_device_rules.proofs.TableLemmas.{same_begin, same_on}
use Rattle.ix_device_rules.proofs.tables.add_parts.Goals as goal

pub loop-i-init : goal.loop-i-init
loop-i-init g c = same_begin c.args.table.now

pub loop-i-preserved : goal.loop-i-preserved
loop-i-preserved g c =
    same_on (λ p. key c.args.number (g.T.Part.part_of p) (g.T.Part.name_of p)) c.args.table.now c.args.parts.now c.loop-i.i c.at.result.now c.loop-i.table c.add.new.self c.at.ensures c.loop-i.invariant (c.in-Ok.ensures.keys ∙ ap (with_key c.loop-i.table) c.key-key.ensures)
