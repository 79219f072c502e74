-- How much tiles hold.
use Rattle.std.proofs.Common.{◌≡◌, ◌∙◌, ◌++◌, ◌∷◌, ◌+◌, ◌-◌, ◌^◌, ◌≤◌, ◌&&◌, [], ℕ, true, List, map, min, length, nat_le, slice_get, Option, Some, None, option_map, unwrap_or, ap, refl, sym, arith}
use Rattle.std.specs.List.{sum_by}
use Rattle.std.proofs.lemmas.Bool.Decides.{nat_tests}
use Rattle.std.proofs.lemmas.List.Sums.{sum_by-append}
use Rattle.std.proofs.lemmas.Option.{slice_get-map}
use Rattle.ix_rec.specs.declared.device.DeviceRec.{DeviceRec}
use Rattle.ix_rec.specs.declared.device.TileType.{TileType}
use Rattle.ix_rec.specs.declared.device.Tile.{Tile}
use Rattle.ix_device_rules.specs.declared.size.Size.{Size}
use Rattle.ix_device_rules.specs.Sizes.{size_of, no_size}
use Rattle.ix_device_rules.specs.Rules.{directed_pips, count_in_tile, at_most, most_tile_wires, most_directed_pips}

wires_at : (o : Option TileType) → (unwrap_or (option_map size_of o) no_size).wires ≡ unwrap_or (option_map (λ ty. length ty.wires) o) 0
wires_at (Some t) = refl
wires_at None = refl

pips_at : (o : Option TileType) → (unwrap_or (option_map size_of o) no_size).pips ≡ min (unwrap_or (option_map directed_pips o) 0) (2 ^ 64 - 1)
pips_at (Some t) = refl
pips_at None = refl

pub sum_more : {A : Type 0} (f : A → ℕ) (xs : List A) (x : A) → sum_by f (xs ++ x ∷ []) ≡ sum_by f xs + f x
sum_more f xs x = sum_by-append f xs (x ∷ []) ∙ ap (λ n. sum_by f xs + n) (one f x)
  where
    one : {A : Type 0} (f : A → ℕ) (x : A) → sum_by f (x ∷ []) ≡ f x
    one f x = omega arith

capped : (s p : ℕ) → s ≤ 2 ^ 29 → nat_le (s + min p (2 ^ 64 - 1)) (2 ^ 29) ≡ nat_le (s + p) (2 ^ 29)
capped s p few = grind (arith, nat_tests)

module _ (rec : DeviceRec) (before : List Tile) (t : Tile) (size : Size) (is : size ≡ unwrap_or (slice_get (map size_of rec.tile_type_list) t.ty) no_size) where
  size_is : size ≡ unwrap_or (option_map size_of (slice_get rec.tile_type_list t.ty)) no_size
  size_is = is ∙ ap (λ o. unwrap_or o no_size) (slice_get-map size_of rec.tile_type_list t.ty)

  pub wires_is : size.wires ≡ count_in_tile (λ ty. length ty.wires) rec t
  wires_is = ap (λ s. s.wires) size_is ∙ wires_at (slice_get rec.tile_type_list t.ty)

  pub pips_is : size.pips ≡ min (count_in_tile directed_pips rec t) (2 ^ 64 - 1)
  pips_is = ap (λ s. s.pips) size_is ∙ pips_at (slice_get rec.tile_type_list t.ty)

  pub wires_fit : (wires : ℕ) → wires ≡ sum_by (count_in_tile (λ ty. length ty.wires) rec) before → nat_le (wires + size.wires) (2 ^ 28) ≡ at_most most_tile_wires (count_in_tile (λ ty. length ty.wires) rec) before t
  wires_fit wires so_far = (λ i. nat_le (so_far i + wires_is i) (2 ^ 28)) ∙ ap (λ n. nat_le n (2 ^ 28)) (sym (sum_more (count_in_tile (λ ty. length ty.wires) rec) before t))

  pub pips_fit : (pips : ℕ) → pips ≡ sum_by (count_in_tile directed_pips rec) before → pips ≤ 2 ^ 29 → nat_le (pips + size.pips) (2 ^ 29) ≡ at_most most_directed_pips (count_in_tile directed_pips rec) before t
  pips_fit pips so_far few =
      ap (λ n. nat_le (pips + n) (2 ^ 29)) pips_is ∙ capped pips (count_in_tile directed_pips rec t) few
      ∙ ap (λ n. nat_le (n + count_in_tile directed_pips rec t) (2 ^ 29)) so_far ∙ ap (λ n. nat_le n (2 ^ 29)) (sym (sum_more (count_in_tile directed_pips rec) before t))

pub both_few : (a b m n : ℕ) → (nat_le a m && nat_le b n) ≡ true → (a ≤ m) × (b ≤ n)
both_few a b m n h = (grind (arith, nat_tests), grind (arith, nat_tests))

-- a count that is within the limit wasn't capped
pub uncapped : (s p q : ℕ) → q ≡ min p (2 ^ 64 - 1) → s + q ≤ 2 ^ 29 → q ≡ p
uncapped s p q is few = grind (arith, nat_tests)
