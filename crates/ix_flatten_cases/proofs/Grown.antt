-- Inputs of LUT types are names also where more names were added.
use Rattle.std.proofs.Common.{◌<◌, ◌≤◌, ℕ, List, [], ◌∷◌, arith}
use Rattle.std.proofs.Common.{length, get_or}
use Rattle.std.specs.List.{AllByRecursion}
use Rattle.std.proofs.lemmas.Option.{slice_get-get_or, slice_get_within}
use Rattle.ix_message.specs.Shape.{Text}
use Rattle.ix_rec.specs.declared.device.DeviceRec.{DeviceRec}
use Rattle.ix_rec.specs.declared.device.LutCell.{LutCell}
use Rattle.ix_strings.specs.Names.{KeepsNumbers}
use Rattle.ix_hierarchy.specs.Fits.{AreInputsNamed}

all_more : {A : Type 0} (P Q : A → Type 0) (xs : List A) → ((x : A) → P x → Q x)
    → AllByRecursion P xs → AllByRecursion Q xs
all_more P Q [] f all = all
all_more P Q (x ∷ xs) f all = (f x all.0, all_more P Q xs f all.1)

longer : (old new : List Text) → KeepsNumbers old new → length old ≤ length new
longer [] new keeps = omega arith
longer (text ∷ old) new keeps =
    let last : length old < length (text ∷ old) = omega arith in
    let is = slice_get-get_or (text ∷ old) (length old) text last in
    let there : length old < length new = slice_get_within new (length old)
    (get_or (text ∷ old) (length old) text)
    (keeps (length old) (get_or (text ∷ old) (length old) text) is) in
    omega arith

below_more : (m n : ℕ) → m ≤ n → (pin : ℕ) → pin < m → pin < n
below_more m n le pin below = omega arith

abbrev inputs_below : ℕ → LutCell → Type 0
inputs_below n lut = AllByRecursion (λ pin. pin < n) lut.input_pins

pub inputs_stay : (old new : List Text) (device : DeviceRec) → KeepsNumbers old new
    → AreInputsNamed (length old) device → AreInputsNamed (length new) device
inputs_stay old new device keeps named =
    all_more (inputs_below (length old)) (inputs_below (length new))
    device.lut_definitions.lut_cells
    (λ lut is. all_more (λ pin. pin < length old) (λ pin. pin < length new) lut.input_pins
    (below_more (length old) (length new) (longer old new keeps)) is) named
