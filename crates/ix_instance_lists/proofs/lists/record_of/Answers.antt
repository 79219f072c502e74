use Rattle.std.proofs.Common.{arith}
use Rattle.std.proofs.lemmas.Option.{slice_get-get_or}
use Rattle.ix_instance_lists.proofs.Records.{top_record, record_at, record_there}
use Rattle.ix_instance_lists.proofs.lists.record_of.Goals as goal

pub at-requires : goal.at-requires
at-requires c =
    let A = c.requires.listed.2 in
    record_there c.args.rec.now c.args.instances.now c.requires.listed.0 c.requires.listed.1 A
    c.args.instance (omega arith) _
    (slice_get-get_or c.args.instances.now c.args.instance _ c.requires.inside)

pub returns-then-instance-eq0 : goal.returns-then-instance-eq0
returns-then-instance-eq0 c = λ paths nets A path is.
    top_record c.args.rec.now c.args.instances.now paths nets A c.args.instance path
    c.if-instance-eq0.true is

pub returns-else-instance-eq0 : goal.returns-else-instance-eq0
returns-else-instance-eq0 c = λ paths nets A path is.
    record_at c.args.rec.now c.args.instances.now paths nets A c.args.instance (omega arith) _
    (slice_get-get_or c.args.instances.now c.args.instance _ c.requires.inside) path is
    c.at.result.now c.at.ensures
