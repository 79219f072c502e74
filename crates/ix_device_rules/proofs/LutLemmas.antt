-- LUT elements, asked by tables.
use Rattle.std.proofs.Common.{◌≡◌, ◌++◌, ◌∷◌, ◌+◌, ◌^◌, ◌<◌, ◌≤◌, ◌&&◌, [], ℕ, false, not, nat_eq, nat_lt, nat_le, List, ap, refl, arith}
use Rattle.std.specs.List.{flat_map}
use Rattle.std.proofs.Math.Nat.{pow-le-pow_right}
use Rattle.std.proofs.lemmas.Bool.Decides.{nat_tests}
use Rattle.ix_message.specs.Indexes.{Step, begun, asked}
use Rattle.ix_rec.specs.declared.device.LutBel.{LutBel}
use Rattle.ix_rec.specs.declared.device.LutElement.{LutElement}
use Rattle.ix_keys.specs.declared.key.Key.{Key}
use Rattle.ix_keys.specs.Keys.{key}
use Rattle.ix_device_rules.specs.Tables.{SameKeys}
use Rattle.ix_device_rules.specs.Luts.{Parts, has_bel_by, has_pin_by, input_by, lut_bel_by, element_by}
use Rattle.ix_device_rules.specs.Rules.{bits_fit}

-- numbers of 32 bits lie below 2 ^ 33
pub far_power : (last n : ℕ) → last < 2 ^ 32 → 32 < n → false ≡ nat_eq (last + 1) (2 ^ n)
far_power last n small far =
    let two : 0 < 2 = omega arith in
    let most : 2 ^ 33 ≤ 2 ^ n = pow-le-pow_right {n = 2} two {i = 33} {j = n} far in
    grind (arith, nat_tests)

-- what an element asks depends on which keys were seen, and not on their order
pub flat_map-same : {A B : Type 0} (f g : A → List B) → ((x : A) → f x ≡ g x) → (xs : List A) → flat_map f xs ≡ flat_map g xs
flat_map-same f g same [] = refl
flat_map-same f g same (x ∷ xs) = (λ i. same x i ++ flat_map-same f g same xs i)

pub element_same : (k : Parts) (seen others : List Key) → SameKeys seen others → (e : LutElement) → element_by k seen e ≡ element_by k others e
element_same k seen others h e =
    ap (λ (l : List Step). begun "LutElement" ∷ asked "LutElement" "width" (nat_lt 0 e.width && nat_le e.width 64) ∷ l)
    (flat_map-same (lut_bel_by k seen e.width) (lut_bel_by k others e.width) (λ b. same b) e.bels)
  where
    same : (b : LutBel) → lut_bel_by k seen e.width b ≡ lut_bel_by k others e.width b
    same b = ap (λ x. begun "LutBel" ∷ asked "LutBel" "highBit" (bits_fit e.width b) ∷ asked "LutBel" "name" (has_bel_by k b.name && not x) ∷ (flat_map (input_by k b.name) b.input_pins ++ asked "LutBel" "outputPin" (has_pin_by k b.name b.output_pin) ∷ [])) (h.same (key k.site 0 b.name))
