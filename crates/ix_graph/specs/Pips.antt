-- The conventional PIPs of a device, and the directed PIPs that they give. They are counted by tile
-- and by place in the tile's type; one that needs pseudo cells isn't counted, and no net goes by
-- it.
use Rattle.std.specs.Prelude.{ℕ, ◌+◌, ◌*◌, List, [], ◌∷◌, ◌++◌, length, slice_get, Bool, true}
use Rattle.std.specs.Prelude.{false, unwrap_or, if◌then◌else◌}
use Rattle.ix_num.specs.Numbers.{TileNumber, WireNumber, PipNumber}
use Rattle.ix_rec.specs.declared.device.Pip.{Pip}
use Rattle.ix_rec.specs.declared.device.PipKind.{PipKind}
use Rattle.ix_rec.specs.declared.device.PipKind.TheVariants.{Conventional, PseudoCells}
use Rattle.ix_graph.specs.declared.type_pips.TilePip.{TilePip}

-- a PIP doesn't need pseudo cells
abbrev pub is_conventional : PipKind → Bool
is_conventional Conventional = true
is_conventional PseudoCells = false

-- a PIP with its place in the list of its tile type, where those that need pseudo cells count too
abbrev pub tile_pip : ℕ → Pip → TilePip
tile_pip place p = record {
  place = place;
  wire0 = p.wire0;
  wire1 = p.wire1;
  directional = p.directional;
}

-- the conventional ones of these PIPs, of which the first has this place
unfoldable pub conventional_from : ℕ → List Pip → List TilePip
conventional_from place [] = []
conventional_from place (p ∷ ps) = if is_conventional p.kind
    then tile_pip place p ∷ conventional_from (place + 1) ps else conventional_from (place + 1) ps

-- the conventional ones of a tile type's
abbrev pub conventional : List Pip → List TilePip
conventional ps = conventional_from 0 ps

-- A directed PIP: its number, its tile, the PIP of the tile's type, and whether it goes forward,
-- from `wire0` to `wire1`.
pub record DirectedPip : Type 0 where
  pub number : PipNumber
  pub tile : TileNumber
  pub pip : TilePip
  pub forward : Bool

-- the wires of the tile at which a signal enters and leaves
abbrev pub enters_at : DirectedPip → WireNumber
enters_at e = if e.forward then e.pip.wire0 else e.pip.wire1

abbrev pub leaves_at : DirectedPip → WireNumber
leaves_at e = if e.forward then e.pip.wire1 else e.pip.wire0

-- the directed PIP of this number
abbrev pub directed_pip : PipNumber → TileNumber → TilePip → Bool → DirectedPip
directed_pip number tile pip forward = record {
  number = number;
  tile = tile;
  pip = pip;
  forward = forward;
}

-- PIP p gives the directed PIP 2p, and 2p + 1 backwards where it isn't directional.
abbrev pub ways : TileNumber → (p : ℕ) → TilePip → List DirectedPip
ways tile p x = directed_pip (2 * p) tile x true
    ∷ (if x.directional then [] else directed_pip (2 * p + 1) tile x false ∷ [])

-- what these PIPs of a tile give, of which the first has number p
unfoldable pub ways_in : TileNumber → (p : ℕ) → List TilePip → List DirectedPip
ways_in tile p [] = []
ways_in tile p (x ∷ xs) = ways tile p x ++ ways_in tile (p + 1) xs

-- the PIPs of a tile of this type
abbrev pub pips_of_type : List (List TilePip) → ℕ → List TilePip
pips_of_type types ty = unwrap_or (slice_get types ty) []

-- what tiles of these types give, of which the first has this number and its first PIP number p
unfoldable pub ways_from : List (List TilePip) → TileNumber → (p : ℕ) → List ℕ → List DirectedPip
ways_from types tile p [] = []
ways_from types tile p (ty ∷ tys) = ways_in tile p (pips_of_type types ty)
    ++ ways_from types (tile + 1) (p + length (pips_of_type types ty)) tys
