-- How many inputs LUT types have.
use Rattle.std.proofs.Common.{◌≡◌, refl, ℕ, Bool, true, false, ◌&&◌, List, [], ◌∷◌}
use Rattle.std.proofs.Common.{length, IfSome, nat_le, nat_eq, cond, find, Some}
use Rattle.std.proofs.lemmas.Bool.{leb-true}
use Rattle.ix_rec.specs.declared.device.LutCell.{LutCell}
use Rattle.ix_device.specs.Elements.{is_lut_cell, is_by_parameter}
use Rattle.ix_lut_tables.specs.Tables.{HasFewInputs}

left : (a b : Bool) → (a && b) ≡ true → a ≡ true
left true b h = refl
left false b h = h

right : (a b : Bool) → (a && b) ≡ true → b ≡ true
right true b h = h
right false true h = refl
right false false h = h

passing : (ty : ℕ) (lut : LutCell) → is_lut_cell ty lut ≡ true → HasFewInputs lut
passing ty lut h =
    let counts = right (nat_eq lut.cell ty) _ h in
    let sizes = right (is_by_parameter lut.equation) _ counts in
    let most = right (nat_le 1 (length lut.input_pins)) _ sizes in record {
      some = leb-true 1 (length lut.input_pins) (left _ _ sizes);
      few = leb-true (length lut.input_pins) 6 (left _ _ most);
    }

pub lut_sizes : (ty : ℕ) (cells : List LutCell)
    → IfSome (find (is_lut_cell ty) cells) HasFewInputs
lut_sizes ty [] = tt
lut_sizes ty (lut ∷ cells) = by (is_lut_cell ty lut) refl (lut_sizes ty cells)
  where
    by : (b : Bool) → is_lut_cell ty lut ≡ b → IfSome (find (is_lut_cell ty) cells) HasFewInputs
        → IfSome (cond b (Some lut) (find (is_lut_cell ty) cells)) HasFewInputs
    by true h rest = passing ty lut h
    by false h rest = rest
