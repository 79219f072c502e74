-- The cells of declarations, and parts of rows.
use Rattle.std.proofs.Common.{◌≡◌, ◌<◌, ◌≤◌, ◌+◌, ◌-◌, ap, refl, sym, ◌∙◌, ℕ, List}
use Rattle.std.proofs.Common.{Option, Some, None, slice_get, arith, nat_eq, length}
use Rattle.std.proofs.Common.{cond, nat_lt, take, drop}
use Rattle.std.specs.List.{position_or_len}
use Rattle.std.proofs.lemmas.Bool.{eqb-true}
use Rattle.std.proofs.lemmas.Bool.Decides.{nat_tests}
use Rattle.std.proofs.lemmas.List.Folds.{find_at}
use Rattle.std.proofs.lemmas.List.Quantifiers.{position-Some}
use Rattle.std.proofs.lemmas.Option.{none-some, slice_get_past, cond_some, get_or_from_slice_get}
use Rattle.ix_rec.specs.declared.device.DeviceRec.{DeviceRec}
use Rattle.ix_rec.specs.declared.netlist.Cell.{Cell}
use Rattle.ix_rec.specs.declared.netlist.NetlistRec.{NetlistRec}
use Rattle.ix_hierarchy.specs.declared.kind.Kind.{Kind}
use Rattle.ix_hierarchy.specs.declared.kind.Kind.TheVariants.{Inside, Constant, Plain, Unknown}
use Rattle.ix_hierarchy.specs.declared.row.Row.{Row}
use Rattle.ix_hierarchy.specs.Hierarchy.{inside}
use Rattle.ix_hierarchy.specs.Lists.{IsKind, first_cell}
use Rattle.ix_top_bits.proofs.Slices.{slice_drop, slice_take, within_take}

-- the inside of a declaration is its first cell
pub first_some : (design : NetlistRec) (declaration place : ℕ)
    → first_cell design declaration ≡ Some place
    → inside design declaration ≡ slice_get design.cell_list place
first_some design declaration place h =
    find_at (λ cell. nat_eq cell.index declaration) design.cell_list
    ∙ ap (slice_get design.cell_list) (cond_some _ _ _ h).1

not_below : (k n : ℕ) → cond (nat_lt k n) (Some k) None ≡ None → n ≤ k
not_below k n e = grind (arith, nat_tests)

pub first_none : (design : NetlistRec) (declaration : ℕ) → first_cell design declaration ≡ None
    → inside design declaration ≡ None
first_none design declaration h =
    find_at (λ cell. nat_eq cell.index declaration) design.cell_list
    ∙ slice_get_past design.cell_list _
    (not_below (position_or_len (λ cell. nat_eq cell.index declaration) design.cell_list)
    (length design.cell_list) h)

-- where an inside stands
pub record IsInside (design : NetlistRec) (declaration : ℕ) (cell : Cell) : Type 0 where
  pub place : ℕ
  pub first : first_cell design declaration ≡ Some place
  pub cell_is : slice_get design.cell_list place ≡ Some cell
  pub of_it : cell.index ≡ declaration

pub is_inside : (design : NetlistRec) (declaration : ℕ) (cell : Cell)
    → inside design declaration ≡ Some cell → IsInside design declaration cell
is_inside design declaration cell h = by (first_cell design declaration) refl
  where
    by : (o : Option ℕ) → first_cell design declaration ≡ o → IsInside design declaration cell
    by None e = absurd (none-some cell (sym (first_none design declaration e) ∙ h))
    by (Some place) e =
        let at : slice_get design.cell_list place ≡ Some cell =
        sym (first_some design declaration place e) ∙ h in
        let passes = position-Some (λ (c : Cell). nat_eq c.index declaration) design.cell_list place
        cell e in
        record {
          place = place;
          first = e;
          cell_is = at;
          of_it = eqb-true cell.index declaration
              (ap (λ (c : Cell). nat_eq c.index declaration)
              (sym (get_or_from_slice_get design.cell_list place cell cell at)) ∙ passes.1);
        }

-- what has an inside is of that kind
pub must_be_inside : (device : DeviceRec) (design : NetlistRec) (declaration : ℕ) (kind : Kind)
    (cell : Cell) → IsKind device design declaration kind → inside design declaration ≡ Some cell
    → (place : ℕ) × (kind ≡ Inside place)
must_be_inside device design declaration (Inside place) cell is h = (place, refl)
must_be_inside device design declaration (Constant constant) cell is h =
    absurd (none-some cell (sym (first_none design declaration is.1.0) ∙ h))
must_be_inside device design declaration Plain cell is h =
    absurd (none-some cell (sym (first_none design declaration is.1.0) ∙ h))
must_be_inside device design declaration Unknown cell is h =
    absurd (none-some cell (sym (first_none design declaration is.1.0) ∙ h))

-- a row of a part of the list
pub in_part : (rows : List Row) (start end k : ℕ) (row : Row) → start ≤ k → k < end
    → slice_get rows k ≡ Some row → slice_get (take (end - start) (drop start rows)) (k - start) ≡ Some row
in_part rows start end k row from to at =
    let again : start + (k - start) ≡ k = omega arith in
    let less : k - start < end - start = omega arith in
    slice_take (end - start) (drop start rows) (k - start) less
    ∙ slice_drop start rows (k - start) ∙ ap (slice_get rows) again ∙ at

pub from_part : (rows : List Row) (start end k : ℕ) (row : Row)
    → slice_get (take (end - start) (drop start rows)) k ≡ Some row
    → (start + k < end) × (slice_get rows (start + k) ≡ Some row)
from_part rows start end k row at =
    let less : k < end - start = within_take (end - start) (drop start rows) k row at in (
      omega arith,
      sym (slice_drop start rows k) ∙ sym (slice_take (end - start) (drop start rows) k less) ∙ at,
    )
