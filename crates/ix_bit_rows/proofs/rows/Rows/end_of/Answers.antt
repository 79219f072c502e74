use Rattle.std.proofs.Common.{◌≡◌, ◌+◌, ◌<◌, Bool, leb, rules, arith, sym, subst, length}
use Rattle.std.proofs.lemmas.List.Sorted.{IsPartitionPoint-from_clause}
use Rattle.std.specs.Prelude.{ℕ}
use Rattle.ix_hierarchy.specs.declared.row.Row.{Row}
use Rattle.ix_bit_rows.specs.Table.{RowTable, IsCut, IsStartOf, start_in, end_in}
use Rattle.ix_bit_rows.proofs.Cuts.{cell_cut, read_at, instance_passes_to, end_cut}
use Rattle.ix_bit_rows.proofs.rows.Rows.end_of.Goals as goal

pub returns : goal.returns
returns c =
    let t : RowTable = record { rows = c.self.inside.rows.items; starts = c.self.inside.starts.items; ends = c.self.inside.ends.items } in
    let is : t ≡ c.args.self.now = c.self.view_is in
    let s : ℕ = c.args.start in
    let e : ℕ = c.index.result.now in
    let p : Row → Bool = λ row. leb row.instance c.args.instance in
    let small : c.args.cell < length t.starts = subst (λ (t : RowTable). c.args.cell < length t.starts) (sym is) c.requires.cell in
    let started : IsStartOf t c.args.cell c.args.instance s = subst (λ (t : RowTable). IsStartOf t c.args.cell c.args.instance s) (sym is) c.requires.start in
    let at_end : e ≡ end_in t c.args.cell = read_at t.ends c.args.cell e (omega (arith, c.self.invariant.many)) c.index.ensures in
    let cut = cell_cut p t.rows _ t.starts t.ends c.args.cell s e c.partition_point.result c.self.invariant (instance_passes_to c.args.instance) small
    c.deref.ensures.value started.from (omega (arith, started.to)) (omega arith) c.partition_point.ensures.bound
    (λ in_part. IsPartitionPoint-from_clause p _ c.partition_point.result c.partition_point.ensures.partitioned in_part (λ a r q k. search rules)) in
    subst (λ (t : RowTable). IsCut (λ row. row.instance ≡ c.args.instance) (λ row. c.args.instance < row.instance) t.rows s (end_in t c.args.cell) (s + c.partition_point.result)) is
    (subst (λ (n : ℕ). IsCut (λ row. row.instance ≡ c.args.instance) (λ row. c.args.instance < row.instance) t.rows s n (s + c.partition_point.result)) at_end
    (end_cut t.rows (start_in t c.args.cell) (end_in t c.args.cell) c.args.instance s e (s + c.partition_point.result) started at_end cut))
