use Rattle.std.proofs.Common.{[], ◌∷◌, refl, length-set, true}
use Rattle.ix_belmap.proofs.Marking.{mark_alone, marks_stay}
use Rattle.ix_belmap.proofs.marks.Marks.group_alone.Goals as goal

pub returns-clause-marks : goal.returns-clause-marks
returns-clause-marks c rec flat rows are =
    marks_stay rec flat rows c.args.self.now _ (c.args.port ∷ [])
    (length-set c.args.self.now.taken.items c.get.result true) refl refl
    (mark_alone c.args.self.now.taken.items c.get.result c.args.port c.get.ensures c.requires) are
