use Rattle.std.proofs.Common.{◌≡◌, ◌+◌, ◌<◌, ◌≤◌, Bool, true, false, ltb, ltb-true, rules, arith, sym, subst}
use Rattle.std.proofs.lemmas.Bool.{ltb-false}
use Rattle.std.proofs.lemmas.List.Sorted.{IsPartitionPoint-from_clause}
use Rattle.std.specs.Prelude.{ℕ}
use Rattle.ix_hierarchy.specs.declared.row.Row.{Row}
use Rattle.ix_bit_rows.specs.Table.{RowTable, IsCut, AreOfInstance}
use Rattle.ix_bit_rows.proofs.Cuts.{part_cut, cut_as, port_falls}
use Rattle.ix_bit_rows.proofs.rows.Rows.from_port.Goals as goal

pub returns : goal.returns
returns c =
    let t : RowTable = record { rows = c.self.inside.rows.items; starts = c.self.inside.starts.items; ends = c.self.inside.ends.items } in
    let is : t ≡ c.args.self.now = c.self.view_is in
    let s : ℕ = c.args.start in
    let e : ℕ = c.args.end in
    let p : Row → Bool = λ row. ltb row.port c.args.port in
    let P : Row → Type 0 = λ row. row.port < c.args.port in
    let Q : Row → Type 0 = λ row. c.args.port ≤ row.port in
    let part : AreOfInstance t s e = subst (λ (t : RowTable). AreOfInstance t s e) (sym is) c.requires in
    let order = c.self.invariant.ordered part.cell part.is_cell in
    let cut = part_cut p t.rows _ s e c.partition_point.result (port_falls t s e c.args.port c.self.invariant part)
    c.deref.ensures.value part.some (omega (arith, order.1, part.to)) c.partition_point.ensures.bound
    (λ in_part. IsPartitionPoint-from_clause p _ c.partition_point.result c.partition_point.ensures.partitioned in_part (λ a r q k. search rules)) in
    let told = cut_as (λ row. p row ≡ true) (λ row. p row ≡ false) P Q t.rows s e (s + c.partition_point.result)
    (λ row h. ltb-true row.port c.args.port h) (λ row h. ltb-false row.port c.args.port h) cut in
    subst (λ (t : RowTable). IsCut P Q t.rows s e (s + c.partition_point.result)) is told
