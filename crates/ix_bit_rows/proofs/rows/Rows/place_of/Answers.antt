use Rattle.std.proofs.Common.{◌≡◌, ◌+◌, ◌<◌, Bool, true, false, rules, arith, sym, subst, length}
use Rattle.std.proofs.lemmas.List.Sorted.{IsPartitionPoint-from_clause}
use Rattle.std.specs.Prelude.{ℕ, List, slice_index}
use Rattle.ix_hierarchy.specs.declared.row.Row.{Row}
use Rattle.ix_bit_rows.specs.Table.{RowTable, IsCut, start_in, end_in}
use Rattle.ix_bit_rows.specs.Tests.{is_before}
use Rattle.ix_bit_rows.proofs.Cuts.{cell_cut, cut_as, read_at, bit_passes}
use Rattle.ix_bit_rows.proofs.rows.Rows.place_of.Goals as goal

pub returns : goal.returns
returns c =
    let rows : List Row = c.self.inside.rows.items in
    let starts : List ℕ = c.self.inside.starts.items in
    let ends : List ℕ = c.self.inside.ends.items in
    let s : ℕ = c.index-start.result.now in
    let e : ℕ = c.index.result.now in
    let p : Row → Bool = is_before c.args.port c.args.index in
    let P : Row → Type 0 = λ row. is_before c.args.port c.args.index row ≡ true in
    let Q : Row → Type 0 = λ row. is_before c.args.port c.args.index row ≡ false in
    let small : c.args.cell < length starts =
    subst (λ (t : RowTable). c.args.cell < length t.starts) (sym c.self.view_is) c.requires in
    let at_start : s ≡ slice_index starts c.args.cell = read_at starts c.args.cell s small c.index-start.ensures in
    let at_end : e ≡ slice_index ends c.args.cell = read_at ends c.args.cell e (omega (arith, c.self.invariant.many)) c.index.ensures in
    let order = c.self.invariant.ordered c.args.cell small in
    let cut = cell_cut p rows _ starts ends c.args.cell s e c.partition_point.result c.self.invariant (bit_passes c.args.port c.args.index) small
    c.deref.ensures.value (omega arith) (omega (arith, order.0)) (omega arith) c.partition_point.ensures.bound
    (λ in_part. IsPartitionPoint-from_clause p _ c.partition_point.result c.partition_point.ensures.partitioned in_part (λ a r q k. search rules)) in
    let told = cut_as (λ row. p row ≡ true) (λ row. p row ≡ false) P Q rows s e (s + c.partition_point.result) (λ row h. h) (λ row h. h) cut in
    subst (λ (t : RowTable). IsCut P Q t.rows (start_in t c.args.cell) (end_in t c.args.cell) (s + c.partition_point.result)) c.self.view_is
    (subst (λ (n : ℕ). IsCut P Q rows n (slice_index ends c.args.cell) (s + c.partition_point.result)) at_start
    (subst (λ (n : ℕ). IsCut P Q rows s n (s + c.partition_point.result)) at_end told))
