use Rattle.std.proofs.Common.{◌*◌, drop, sym}
use Rattle.ix_frame.specs.Segments.{segment_at}
use Rattle.ix_frame.specs.Views.{all_of}
use Rattle.ix_frame.proofs.Parts.{length-numbers_of_four}
use Rattle.ix_frame.proofs.list.Numbers.len.Goals as goal

pub returns-clause-exact : goal.returns-clause-exact
returns-clause-exact c = let l = c.args.self.now in sym (length-numbers_of_four l.count (drop (8 * l.start) (segment_at (all_of l.segment) l.segment.number)))
