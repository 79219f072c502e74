-- The tables of the first leaves.
use Rattle.std.proofs.Common.{◌≡◌, ◌<◌, ◌≤◌, ◌+◌, ap, refl, sym, subst, ◌∙◌, ℕ, List, length}
use Rattle.std.proofs.Common.{slice_get, Option, Some, None, arith, inl, inr, get_or}
use Rattle.std.specs.FinMap.{FinMap, get}
use Rattle.std.specs.Ordering.{nat_cmp}
use Rattle.std.specs.Option.{option_and_then}
use Rattle.std.proofs.lemmas.Bool.{cases_lt}
use Rattle.std.proofs.lemmas.Option.{same_Some, slice_get-get_or, slice_get_read}
use Rattle.std.proofs.lemmas.Option.{slice_get_within}
use Rattle.ix_rec.specs.declared.flow.TruthTable.{TruthTable}
use Rattle.ix_hierarchy.specs.declared.instance.Instance.{Instance}
use Rattle.ix_joined.specs.declared.joined.Joined.{Joined}
use Rattle.ix_flatten.specs.Stages.{AreCellTables, AreLeafTables, IsWithTable, leaf_table}

-- the instance of a leaf is there
pub instance_there : (joined : Joined) (leaves : List ℕ) (count k : ℕ)
    → AreLeafTables joined leaves count → k < length leaves
    → get_or leaves k 0 < length joined.instances.items
instance_there joined leaves count k there less =
    let at = there k (get_or leaves k 0) (slice_get-get_or leaves k 0 less) in
    slice_get_within joined.instances.items (get_or leaves k 0) at.0 at.1

-- what is read there
pub instance_is : (joined : Joined) (leaves : List ℕ) (count k : ℕ) (one : Instance)
    → AreLeafTables joined leaves count → k < length leaves
    → one ≡ get_or joined.instances.items (get_or leaves k 0) one
    → slice_get joined.instances.items (get_or leaves k 0) ≡ Some one
instance_is joined leaves count k one there less is =
    slice_get_read joined.instances.items (length joined.instances.items) (get_or leaves k 0) one
    refl (instance_there joined leaves count k there less) is

pub number_less : (joined : Joined) (leaves : List ℕ) (count k : ℕ) (one : Instance)
    → AreLeafTables joined leaves count → k < length leaves
    → one ≡ get_or joined.instances.items (get_or leaves k 0) one → one.number < count
number_less joined leaves count k one there less is =
    let at = there k (get_or leaves k 0) (slice_get-get_or leaves k 0 less) in
    let same : at.0 ≡ one = same_Some at.0 one (sym at.1
    ∙ instance_is joined leaves count k one there less is) in
    subst (λ (o : Instance). o.number < count) same at.2

-- those of the first so many, and of no other cell
pub record AreTablesTo (joined : Joined) (ports : ℕ) (leaves : List ℕ)
    (tables : List (Option TruthTable)) (count : ℕ) (of_cells : FinMap nat_cmp TruthTable) : Type 0
  where
    pub none : (cell : ℕ) → cell < ports → get of_cells cell ≡ None
    pub each : (k : ℕ) → k < count → get of_cells (ports + k)
        ≡ option_and_then (leaf_table joined tables) (slice_get leaves k)
    pub above : (cell : ℕ) → ports + count ≤ cell → get of_cells cell ≡ None

pub tables_first : (joined : Joined) (ports : ℕ) (leaves : List ℕ)
    (tables : List (Option TruthTable)) (of_cells : FinMap nat_cmp TruthTable)
    → ((cell : ℕ) → get of_cells cell ≡ None)
    → AreTablesTo joined ports leaves tables 0 of_cells
tables_first joined ports leaves tables of_cells none = record {
  none = λ cell less. none cell;
  each = λ k less. absurd (omega arith);
  above = λ cell more. none cell;
}

-- the table of an instance
leaf_table_is : (joined : Joined) (tables : List (Option TruthTable)) (instance : ℕ)
    (one : Instance) (table : Option TruthTable)
    → slice_get joined.instances.items instance ≡ Some one
    → slice_get tables one.number ≡ Some table → leaf_table joined tables instance ≡ table
leaf_table_is joined tables instance one table is at =
    ap (option_and_then (λ (o : Instance).
    option_and_then (λ (t : Option TruthTable). t) (slice_get tables o.number))) is
    ∙ ap (option_and_then (λ (t : Option TruthTable). t)) at

-- one more
pub tables_next : (joined : Joined) (ports : ℕ) (leaves : List ℕ)
    (tables : List (Option TruthTable)) (count instance : ℕ) (one : Instance)
    (table : Option TruthTable) (old new : FinMap nat_cmp TruthTable)
    → AreTablesTo joined ports leaves tables count old
    → slice_get leaves count ≡ Some instance
    → slice_get joined.instances.items instance ≡ Some one
    → slice_get tables one.number ≡ Some table → IsWithTable old (ports + count) table new
    → AreTablesTo joined ports leaves tables (count + 1) new
tables_next joined ports leaves tables count instance one table old new are at is there with =
    record {
      none = λ cell less. with.others cell (λ e. let same : cell ≡ ports + count = e in
          omega arith) ∙ are.none cell less;
      each = λ k less. elim (cases_lt k count) [
        | inl before ↦ with.others (ports + k) (λ e. let same : ports + k ≡ ports + count = e in
            omega arith) ∙ are.each k before
        | inr after ↦
            let same : count ≡ k = omega arith in
            subst (λ n. get new (ports + n)
            ≡ option_and_then (leaf_table joined tables) (slice_get leaves n)) same
            (with.here (are.above (ports + count) (omega arith))
            ∙ sym (ap (option_and_then (leaf_table joined tables)) at
            ∙ leaf_table_is joined tables instance one table is there))
      ];
      above = λ cell more. with.others cell (λ e. let same : cell ≡ ports + count = e in
          omega arith) ∙ are.above cell (omega arith);
    }

-- all
pub tables_all : (joined : Joined) (ports : ℕ) (leaves : List ℕ)
    (tables : List (Option TruthTable)) (count : ℕ) (of_cells : FinMap nat_cmp TruthTable)
    → length leaves ≤ count → AreTablesTo joined ports leaves tables count of_cells
    → AreCellTables joined ports leaves tables of_cells
tables_all joined ports leaves tables count of_cells whole are = record {
  none = are.none;
  each = λ k. elim (cases_lt k count) [
    | inl less ↦ are.each k less
    | inr more ↦ by k more (slice_get leaves k) refl
  ];
}
  where
    by : (k : ℕ) → count ≤ k → (o : Option ℕ) → slice_get leaves k ≡ o
        → get of_cells (ports + k)
        ≡ option_and_then (leaf_table joined tables) (slice_get leaves k)
    by k more None e = are.above (ports + k) (omega arith)
        ∙ sym (ap (option_and_then (leaf_table joined tables)) e)
    by k more (Some instance) e =
        let less : k < length leaves = slice_get_within leaves k instance e in
        absurd (omega arith)
