use Rattle.std.proofs.Common.{◌≡◌, ◌<◌, ◌≤◌, Some, length, slice_get, take, refl, subst}
use Rattle.std.proofs.lemmas.Option.{slice_get_read}
use Rattle.ix_rec.specs.Forest.{next_limit}
use Rattle.ix_rec.proofs.ForestLemmas.{depth-next_limit}
use Rattle.ix_rec.proofs.forest.Forest.at.Goals as goal

pub returns-clause-steps : goal.returns-clause-steps
returns-clause-steps g c =
    let within : c.args.i < length c.self.inside.branches.items = rw c.self.view_is c.requires in
    let at : slice_get c.self.inside.branches.items c.args.i ≡ Some c.index.result.now = slice_get_read _ _ _ _ refl within c.index.ensures in
    subst (λ bs. c.index.result.now.depth ≤ next_limit (take c.args.i bs)) c.self.view_is (depth-next_limit _ _ _ c.self.invariant at)
