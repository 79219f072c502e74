use Rattle.std.proofs.Common.{◌≡◌, List, length, slice_get, Some, refl, subst}
use Rattle.std.proofs.lemmas.Option.{slice_get_read}
use Rattle.ix_hierarchy.specs.declared.instance.Instance.{Instance}
use Rattle.ix_instances.specs.Walked.{IsBehind}
use Rattle.ix_instances.proofs.Walking.{walk_behind, walk_within}
use Rattle.ix_instances.proofs.instances.Instances.step.Goals as goal

pub returns-in-None-clause-walk : goal.returns-in-None-clause-walk
returns-in-None-clause-walk c =
    let all : List Instance = c.args.self.now.all.items in
    let is : slice_get all c.args.step.instance ≡ Some c.index.result.now =
    slice_get_read all (length all) c.args.step.instance c.index.result.now refl
    (walk_within c.args.rec.now all c.args.self.now.nets c.args.step.instance c.args.step.place
    c.requires.walk) c.index.ensures in
    let next : IsBehind all c.args.step.instance c.behind.result =
    subst (λ (l : List Instance). IsBehind l c.args.step.instance c.behind.result)
    c.deref.ensures.value c.behind.ensures in
    (walk_behind c.args.rec.now all c.args.self.now.nets c.args.step.instance c.args.step.place
    c.index.result.now c.behind.result c.requires.walk is c.in-None.ensures next).0

pub returns-in-None-clause-less : goal.returns-in-None-clause-less
returns-in-None-clause-less c =
    let all : List Instance = c.args.self.now.all.items in
    let is : slice_get all c.args.step.instance ≡ Some c.index.result.now =
    slice_get_read all (length all) c.args.step.instance c.index.result.now refl
    (walk_within c.args.rec.now all c.args.self.now.nets c.args.step.instance c.args.step.place
    c.requires.walk) c.index.ensures in
    let next : IsBehind all c.args.step.instance c.behind.result =
    subst (λ (l : List Instance). IsBehind l c.args.step.instance c.behind.result)
    c.deref.ensures.value c.behind.ensures in
    (walk_behind c.args.rec.now all c.args.self.now.nets c.args.step.instance c.args.step.place
    c.index.result.now c.behind.result c.requires.walk is c.in-None.ensures next).1
