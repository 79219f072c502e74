use Rattle.std.proofs.Common.{subst, sym, ◌<◌, ◌≤◌, leb, leb-true, rules}
use Rattle.std.specs.List.Sorted.{IsPartitionPoint}
use Rattle.std.proofs.lemmas.Bool.{leb-false}
use Rattle.std.proofs.lemmas.List.Sorted.{IsPartitionPoint-from_clause, IsPartitionedBy-leb}
use Rattle.ix_graph.proofs.StartLemmas.{rising}
use Rattle.ix_graph.specs.Tables.{AreStarts}
use Rattle.ix_graph.proofs.pips.Pips.begun.Goals as goal

pub returns-clause-point : goal.returns-clause-point
returns-clause-point c =
    let p = c.args.self.now in
    let starts = c.as_slice-starts.result.now in
    let are = subst (AreStarts p.types p.kinds) (sym c.as_slice-starts.ensures) c.requires.starts in
    let parted = IsPartitionedBy-leb (λ s. s) starts c.args.number (rising p.types p.kinds starts are) in
    let point = IsPartitionPoint-from_clause (λ s. leb s c.args.number) starts c.partition_point.result c.partition_point.ensures.partitioned parted (λ a r q k. search rules) in
    subst (λ xs. IsPartitionPoint (λ s. s ≤ c.args.number) (λ s. c.args.number < s) xs c.partition_point.result) c.as_slice-starts.ensures
    (λ k d low high. leb-true _ _ (point.0 k d low high), λ k d low high. leb-false _ _ (point.1 k d low high))
