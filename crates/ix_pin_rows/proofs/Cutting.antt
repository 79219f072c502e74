-- The rows of an instance, between two cuts.
use Rattle.std.proofs.Common.{◌≡◌, ◌<◌, ◌≤◌, ◌+◌, ◌-◌, ap, sym, ◌∙◌, ℕ, List, slice_get}
use Rattle.std.proofs.Common.{Some, arith, take, drop, length, inl, inr}
use Rattle.std.proofs.lemmas.Bool.{cases_lt}
use Rattle.ix_rec.specs.declared.netlist.Cell.{Cell}
use Rattle.ix_hierarchy.specs.declared.row.Row.{Row}
use Rattle.ix_hierarchy.specs.Lists.{AreAllRows, IsOuterRow}
use Rattle.ix_bit_rows.specs.Table.{RowTable, IsEndOf, IsStartOf, end_in, start_in}
use Rattle.ix_pin_rows.specs.PinRows.{ArePinRows}
use Rattle.ix_pin_rows.proofs.Slices.{slice_drop, slice_take, within_take}

-- a row of a part of the list
pub in_part : (rows : List Row) (start end k : ℕ) (row : Row) → start ≤ k → k < end
    → slice_get rows k ≡ Some row → slice_get (take (end - start) (drop start rows)) (k - start) ≡ Some row
in_part rows start end k row from to at =
    let again : start + (k - start) ≡ k = omega arith in
    let less : k - start < end - start = omega arith in
    slice_take (end - start) (drop start rows) (k - start) less
    ∙ slice_drop start rows (k - start) ∙ ap (slice_get rows) again ∙ at

pub from_part : (rows : List Row) (start end k : ℕ) (row : Row)
    → slice_get (take (end - start) (drop start rows)) k ≡ Some row
    → (start + k < end) × (slice_get rows (start + k) ≡ Some row)
from_part rows start end k row at =
    let less : k < end - start = within_take (end - start) (drop start rows) k row at in (
      omega arith,
      sym (slice_drop start rows k) ∙ sym (slice_take (end - start) (drop start rows) k less) ∙ at,
    )

pub between : (outer : RowTable) (place : ℕ) (cell : Cell) (instance start end : ℕ)
    → end_in outer place ≤ length outer.rows
    → AreAllRows (IsOuterRow cell)
    (take (end_in outer place - start_in outer place) (drop (start_in outer place) outer.rows))
    → IsStartOf outer place instance start → IsEndOf outer place instance start end
    → ArePinRows outer cell instance start end
between outer place cell instance start end bound are s e =
    let first = start_in outer place in
    let last = end_in outer place in
    let part = take (last - first) (drop first outer.rows) in
    record {
      some = e.from;
      to = let h : end ≤ last = e.to in omega arith;
      each = λ k row from to at.
          let f : first ≤ start = s.from in
          let l : end ≤ last = e.to in (
            e.before k row from to at,
            are.each (k - first) row (in_part outer.rows first last k row (omega arith) (omega arith) at),
          );
      all = λ row of is.
          let there = are.all row is in
          let at = from_part outer.rows first last there.0 row there.1 in
          let k = first + there.0 in
          let low : start ≤ k = elim (cases_lt k start) [
            | inl less ↦ let h : row.instance < instance =
                s.before k row (omega arith) less at.1 in absurd (omega arith)
            | inr more ↦ more
          ] in
          let high : k < end = elim (cases_lt k end) [
            | inl less ↦ less
            | inr more ↦ let h : instance < row.instance =
                e.behind k row more at.0 at.1 in absurd (omega arith)
          ] in
          (k, low, high, at.1);
      rise = λ j k a b from less to at_j at_k.
          let f : first ≤ start = s.from in
          let l : end ≤ last = e.to in
          are.rise (j - first) (k - first) a b (omega arith)
          (in_part outer.rows first last j a (omega arith) (omega arith) at_j)
          (in_part outer.rows first last k b (omega arith) (omega arith) at_k);
    }
