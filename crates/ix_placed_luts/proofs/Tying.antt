-- What holds the lines of a BEL, input by input.
use Rattle.std.proofs.Common.{◌≡◌, ◌≢◌, ◌<◌, ◌≤◌, ◌+◌, ◌∙◌, ap, sym, subst, ℕ, List}
use Rattle.std.proofs.Common.{length, set, slice_get, slice_index, Some, arith, inl, inr}
use Rattle.std.proofs.Common.{take, min}
use Rattle.std.proofs.lemmas.Bool.{cases_lt}
use Rattle.std.proofs.lemmas.List.{get_or-set_same, get_or-set_other, get_or-take}
use Rattle.std.proofs.lemmas.List.{length-take}
use Rattle.std.proofs.Math.Nat.{min-le_left}
use Rattle.std.proofs.lemmas.Option.{same_Some, slice_get_within, get_or_from_slice_get}
use Rattle.std.proofs.lemmas.Option.{slice_get-get_or}
use Rattle.ix_rec.specs.declared.device.DeviceRec.{DeviceRec}
use Rattle.ix_rec.specs.declared.phys.PhysNet.{PhysNet}
use Rattle.ix_lut.specs.Shapes.{held_by, input_lines}
use Rattle.ix_lut.specs.Tables.{AllDiffer}
use Rattle.ix_lut.specs.declared.shape.BelShape.{BelShape}
use Rattle.ix_lut.specs.declared.shape.Tie.{Tie}
use Rattle.ix_lut.specs.declared.shape.Tie.TheVariants.{Free}
use Rattle.ix_placed_luts.specs.Tied.{AreTied, IsTied}

module _ (rec : DeviceRec) (nets : List PhysNet) (site t bel : ℕ) (names lines : List ℕ) where
  pub one_more_tied : AllDiffer lines → (count name line : ℕ) (tie : Tie) (ties : List Tie)
      → line < length ties → slice_get names count ≡ Some name
      → slice_get lines count ≡ Some line → IsTied rec nets site t bel name tie
      → AreTied rec nets site t bel names lines count ties
      → AreTied rec nets site t bel names lines (count + 1) (set ties line tie)
  one_more_tied differ count name line tie ties below name_is line_is tied are = record {
    each = each;
  }
    where
      each : (j other at : ℕ) → j < count + 1 → slice_get names j ≡ Some other
          → slice_get lines j ≡ Some at
          → IsTied rec nets site t bel other (held_by (set ties line tie) at)
      each j other at less other_is at_is = elim (cases_lt j count) [
        | inl before ↦
            let apart : at ≢ line = λ same. differ j count before
            (slice_get_within lines count line line_is)
            (get_or_from_slice_get lines j at 0 at_is ∙ same
            ∙ sym (get_or_from_slice_get lines count line 0 line_is)) in
            subst (IsTied rec nets site t bel other)
            (sym (get_or-set_other ties line at tie Free apart))
            (are.each j other at before other_is at_is)
        | inr past ↦
            let here : j ≡ count = omega (arith, less, past) in
            let name_same : name ≡ other =
            same_Some name other (sym name_is ∙ ap (slice_get names) (sym here) ∙ other_is) in
            let line_same : at ≡ line =
            same_Some at line (sym at_is ∙ ap (slice_get lines) here ∙ line_is) in
            subst (λ l. IsTied rec nets site t bel other (held_by (set ties line tie) l))
            (sym line_same) (subst (IsTied rec nets site t bel other)
            (sym (get_or-set_same ties line tie Free below))
            (subst (λ m. IsTied rec nets site t bel m tie) name_same tied))
      ]

-- the line of an input
pub line_of : (shape : BelShape) (j : ℕ) → j < length (input_lines shape) → j < shape.inputs
    → slice_get (input_lines shape) j ≡ Some (slice_index shape.lines j)
line_of shape j below few = slice_get-get_or (input_lines shape) j 0 below
    ∙ ap Some (get_or-take shape.inputs shape.lines j 0 few)

pub taken_within : {A : Type 0} (n : ℕ) (xs : List A) → length (take n xs) ≤ n
taken_within n xs =
    let long : length (take n xs) ≡ min n (length xs) = length-take n xs in
    let least : min n (length xs) ≤ n = min-le_left n (length xs) in
    omega (arith, long, least)
