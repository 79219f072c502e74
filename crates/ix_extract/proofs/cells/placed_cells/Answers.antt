use Rattle.std.proofs.Common.{◌∙◌}
use Rattle.ix_extract.specs.Extracted.{cell_of}
use Rattle.ix_extract.proofs.Counting.{map_next}
use Rattle.ix_extract.proofs.cells.placed_cells.Goals as goal

pub loop-i-preserved : goal.loop-i-preserved
loop-i-preserved c = c.in_ok-push.ensures.ok ∙ map_next cell_of c.args.phys.now.placements
    c.loop-i.i c.at-placement.result.now c.loop-i.cells c.at-placement.ensures c.loop-i.invariant
