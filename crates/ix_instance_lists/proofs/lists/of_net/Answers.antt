use Rattle.std.proofs.Common.{leb, rules}
use Rattle.std.proofs.lemmas.List.Sorted.{IsPartitionPoint-from_clause, IsPartitionedBy-leb}
use Rattle.ix_hierarchy.specs.declared.instance.Instance.{Instance}
use Rattle.ix_instance_lists.proofs.Points.{firsts_sorted, HasPoint, point_some, point_has}
use Rattle.ix_instance_lists.proofs.lists.of_net.Goals as goal

pub overflow_sub-result : goal.overflow_sub-result
overflow_sub-result c =
    let A = c.requires.among.3 in
    let parted = IsPartitionedBy-leb (λ (one : Instance). one.first_net) c.args.instances.now
    c.args.occurrence (firsts_sorted _ c.args.instances.now _ _ A) in
    let point : HasPoint c.args.instances.now c.args.occurrence c.partition_point-behind.result =
    IsPartitionPoint-from_clause (λ (one : Instance). leb one.first_net c.args.occurrence) _ _
    c.partition_point-behind.ensures.partitioned parted (λ a r q k. search rules) in
    point_some _ c.args.instances.now _ _ A c.args.occurrence c.partition_point-behind.result point

pub returns : goal.returns
returns c = λ design paths nets A few.
    let parted = IsPartitionedBy-leb (λ (one : Instance). one.first_net) c.args.instances.now
    c.args.occurrence (firsts_sorted design c.args.instances.now paths nets A) in
    let point : HasPoint c.args.instances.now c.args.occurrence c.partition_point-behind.result =
    IsPartitionPoint-from_clause (λ (one : Instance). leb one.first_net c.args.occurrence) _ _
    c.partition_point-behind.ensures.partitioned parted (λ a r q k. search rules) in
    point_has design c.args.instances.now paths nets A c.args.occurrence
    c.partition_point-behind.result few c.partition_point-behind.ensures.bound point
