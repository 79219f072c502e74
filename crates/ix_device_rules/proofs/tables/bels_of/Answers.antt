use Rattle.std.proofs.Common.{◌++◌, map, subst, arith}
use Rattle.ix_keys.specs.Keys.{key}
use Rattle.ix_device_rules.specs.Tables.{SameKeys}
use Rattle.ix_device_rules.proofs.PartLemmas.{filled_none, filled_more, bel_part, bel_name, knows_bels}
use Rattle.ix_device_rules.proofs.tables.bels_of.Goals as goal

pub loop-i-init : goal.loop-i-init
loop-i-init c = filled_none (λ t. t.bels) bel_part bel_name _ c.args.types.now c.new-table.ensures

pub loop-i-preserved : goal.loop-i-preserved
loop-i-preserved c =
    let x = c.at.result.now in
    let more = subst (λ n. SameKeys c.add_parts.new.table (c.loop-i.table ++ map (λ p. key n (bel_part p) (bel_name p)) x.bels)) c.in_ok-number.ensures c.in-Ok.ensures in
    filled_more (λ t. t.bels) bel_part bel_name c.loop-i.table c.add_parts.new.table c.args.types.now c.loop-i.i x c.at.ensures c.loop-i.invariant more

pub returns : goal.returns
returns c = knows_bels c.loop-i.table c.args.types.now c.loop-i.i (omega arith) c.loop-i.invariant
