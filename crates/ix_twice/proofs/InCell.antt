-- The first net of a cell that breaks the rule.
use Rattle.std.proofs.Common.{ℕ, List, length, Option, arith, inl, inr}
use Rattle.std.specs.Prelude.{◌⊎◌}
use Rattle.ix_message.specs.Shape.{Text}
use Rattle.ix_rec.specs.declared.netlist.Cell.{Cell}
use Rattle.ix_rec.specs.declared.netlist.NetlistRec.{NetlistRec}
use Rattle.ix_hierarchy.specs.Lists.{IsOwnRow, IsOuterRow}
use Rattle.ix_bit_rows.specs.Table.{RowTable, start_in, end_in}
use Rattle.ix_twice.specs.Repeats.{IsLeast, IsRepeat, least_of}
use Rattle.ix_twice.specs.Entries.{IsLeastWritten, IsEntryRepeat}
use Rattle.ix_twice.specs.Facts.{AreRowsOfCell}
use Rattle.ix_twice.specs.Turns.{IsTwice}
use Rattle.ix_twice.proofs.Least.{least_join, least_as}
use Rattle.ix_twice.proofs.Meaning.{in_range, own_repeat, outer_repeat, on_two_repeats}
use Rattle.ix_twice.proofs.Both.{repeats_twins, twins_repeat}

pub least_in_cell : (names : List Text) (design : NetlistRec) (its : Cell) (own outer : RowTable) (written : List ℕ)
    (cell : ℕ) (a b c : Option ℕ) → AreRowsOfCell names design its own outer written cell
    → IsLeast (IsRepeat own.rows (start_in own cell) (end_in own cell)) a
    → IsLeast (IsRepeat outer.rows (start_in outer cell) (end_in outer cell)) b
    → IsLeastWritten outer.rows written (start_in outer cell) (end_in outer cell) c
    → IsLeast (IsTwice names design its) (least_of (least_of a b) c)
least_in_cell names design its own outer written cell a b c are one two three =
    let R : ℕ → Type 0 = IsRepeat own.rows (start_in own cell) (end_in own cell) in
    let S : ℕ → Type 0 = IsRepeat outer.rows (start_in outer cell) (end_in outer cell) in
    let entries = three.0 in
    let T : ℕ → Type 0 = IsEntryRepeat entries (length entries) in
    let own_range = in_range (IsOwnRow its) own.rows (start_in own cell) (end_in own cell) are.own_high are.own_rows in
    let outer_range = in_range (IsOuterRow its) outer.rows (start_in outer cell) (end_in outer cell) are.outer_high are.outer_rows in
    let RS : ℕ → Type 0 = λ n. R n ⊎ S n in
    let all = least_join RS T (λ n. RS n ⊎ T n) (least_of a b) c (λ n h. h) (λ n h. inl h) (λ n h. inr h)
    (least_join R S RS a b (λ n h. h) (λ n h. inl h) (λ n h. inr h) one two) three.2 in
    least_as (λ n. RS n ⊎ T n) (IsTwice names design its) (least_of (least_of a b) c)
    (λ n h. elim h [
      | inl rs ↦ elim rs [
        | inl r ↦ inl (own_repeat its own.rows (start_in own cell) (end_in own cell) n own_range r)
        | inr s ↦ inl (outer_repeat its outer.rows (start_in outer cell) (end_in outer cell) n outer_range s)
      ]
      | inr t ↦ inr (repeats_twins names design its outer.rows written (start_in outer cell) (end_in outer cell) n entries outer_range are.written_is three.1 t)
    ])
    (λ n h. elim h [
      | inl two ↦ (n, inl (on_two_repeats its own.rows outer.rows (start_in own cell) (end_in own cell) (start_in outer cell) (end_in outer cell) n own_range outer_range two), omega arith)
      | inr twice ↦
          let r = twins_repeat names design its outer.rows written (start_in outer cell) (end_in outer cell) n entries are.differ outer_range are.written_is three.1 twice in
          (r.0, inr r.1, r.2)
    ])
    all
