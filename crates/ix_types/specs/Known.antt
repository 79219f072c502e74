-- The types of a device's cell-to-BEL map.
use Rattle.std.specs.Prelude.{◌≡◌, ℕ, List, Bool, nat_eq, is_some, Some, None}
use Rattle.std.specs.List.{list_any}
use Rattle.ix_keys.specs.Keys.{name_key}
use Rattle.ix_first.specs.First.{value_at}
use Rattle.ix_first.specs.declared.by_key.FirstByKey.{FirstByKey}
use Rattle.ix_rec.specs.declared.device.DeviceRec.{DeviceRec}
use Rattle.ix_rec.specs.declared.device.CellBelMapping.{CellBelMapping}
use Rattle.ix_hierarchy.specs.declared.kind.Kind.{Kind}
use Rattle.ix_hierarchy.specs.declared.kind.Kind.TheVariants.{Inside, Constant, Plain, Unknown}
use Rattle.ix_hierarchy.specs.Pins.{constant_of_type}
use Rattle.ix_hierarchy.specs.Broken.{IsUnknownType}
use Rattle.ix_hierarchy.specs.Lists.{IsMapped}

-- whether one of these maps has the type
abbrev pub is_among : List CellBelMapping → (ty : ℕ) → Bool
is_among maps ty = list_any (λ m. nat_eq m.cell ty) maps

-- the table has just the types of these maps
abbrev pub HasTypes : FirstByKey (Unit {0}) → List CellBelMapping → Type 0
HasTypes known maps = (ty : ℕ) → is_some (value_at known (name_key ty)) ≡ is_among maps ty

-- what a leaf of this type is
abbrev pub IsLeafKind : DeviceRec → (ty : ℕ) → Kind → Type 0
IsLeafKind rec ty (Inside cell) = ⊥
IsLeafKind rec ty (Constant constant) = constant_of_type rec ty ≡ Some constant
IsLeafKind rec ty Plain = (constant_of_type rec ty ≡ None) × IsMapped rec ty
IsLeafKind rec ty Unknown = IsUnknownType rec ty
