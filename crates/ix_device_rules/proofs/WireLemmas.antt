-- Wires of tile types, told by a table.
use Rattle.std.proofs.Common.{◌≡◌, ◌∙◌, ◌++◌, ◌∷◌, [], ℕ, List, map, length, nat_eq, ap, refl}
use Rattle.std.specs.List.{flat_map, list_any}
use Rattle.std.proofs.lemmas.List.Concat.{flat_map_single}
use Rattle.ix_rec.specs.declared.device.DeviceRec.{DeviceRec}
use Rattle.ix_rec.specs.declared.device.TileType.{TileType}
use Rattle.ix_rec.specs.declared.device.SiteTypeInTileType.{SiteTypeInTileType}
use Rattle.ix_message.specs.Indexes.{Step, begun, asked}
use Rattle.ix_keys.specs.declared.key.Key.{Key}
use Rattle.ix_keys.specs.Keys.{key, has_key}
use Rattle.ix_device_rules.specs.Rules.{pin_count, site_pins_stand}
use Rattle.ix_device_rules.specs.Tables.{KnowsWires, wire_is_there}

pub map-same : {A B : Type 0} (f g : A → B) → ((x : A) → f x ≡ g x) → (xs : List A) → map f xs ≡ map g xs
map-same f g same [] = refl
map-same f g same (x ∷ xs) = (λ i. same x i ∷ map-same f g same xs i)

pub wires_there : (rec : DeviceRec) (t : TileType) (table : List Key) (number : ℕ) → KnowsWires table number t → (s : SiteTypeInTileType)
    → (begun "SiteTypeInTileType" ∷ asked "SiteTypeInTileType" "primaryPinsToTileWires" (nat_eq (length s.primary_pins_to_tile_wires) (pin_count rec s.primary_type)) ∷ []) ++ flat_map (wire_is_there table number) s.primary_pins_to_tile_wires
    ≡ site_pins_stand rec t s
wires_there rec t table number knows s =
    ap (λ (l : List Step). begun "SiteTypeInTileType" ∷ asked "SiteTypeInTileType" "primaryPinsToTileWires" (nat_eq (length s.primary_pins_to_tile_wires) (pin_count rec s.primary_type)) ∷ l)
    (flat_map_single (λ w. asked "SiteTypeInTileType" "primaryPinsToTileWires" (has_key table (key number 0 w))) s.primary_pins_to_tile_wires
    ∙ map-same (λ w. asked "SiteTypeInTileType" "primaryPinsToTileWires" (has_key table (key number 0 w))) (λ w. asked "SiteTypeInTileType" "primaryPinsToTileWires" (list_any (nat_eq w) t.wires)) (λ w. ap (λ b. asked "SiteTypeInTileType" "primaryPinsToTileWires" b) (knows w)) s.primary_pins_to_tile_wires)
