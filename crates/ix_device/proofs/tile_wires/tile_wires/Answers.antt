use Rattle.std.proofs.Common.{ap, ◌∙◌}
use Rattle.ix_first.specs.First.{value_at, or_found}
use Rattle.ix_device.specs.Lookups.{wire_of_type}
use Rattle.ix_device.specs.TileWires.{of_type}
use Rattle.ix_device.proofs.TileWireLemmas.{one_more_type}
use Rattle.ix_device.proofs.tile_wires.tile_wires.Goals as goal

pub loop-i-preserved : goal.loop-i-preserved
loop-i-preserved c =
    one_more_type c.args.types.now c.loop-i.i c.at.result.now (value_at c.loop-i.table) (value_at c.put_wires.new.table) c.at.ensures c.loop-i.invariant
    (λ q. c.in_ok-put_wires.ensures q ∙ ap (λ n. or_found (value_at c.loop-i.table q) (of_type n q) (wire_of_type q.name c.at.result.now)) c.in_ok-number_of.ensures)
