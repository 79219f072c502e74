-- What the tables of a graph say.
use Rattle.std.specs.Prelude.{◌≡◌, ◌<◌, ◌+◌, ◌*◌, ◌^◌, ℕ, List, length, take, slice_get, Bool, true}
use Rattle.std.specs.Prelude.{false, not, ◌&&◌, nat_eq, Some}
use Rattle.std.specs.List.{position, sum_by}
use Rattle.ix_keys.specs.declared.key.Key.{Key}
use Rattle.ix_first.specs.First.{value_at}
use Rattle.ix_first.specs.declared.by_key.FirstByKey.{FirstByKey}
use Rattle.ix_graph.specs.declared.type_pips.TilePip.{TilePip}
use Rattle.ix_graph.specs.declared.pips.Pips.{Pips}
use Rattle.ix_graph.specs.Pips.{pips_of_type, DirectedPip}

-- how many PIPs tiles of these types have
abbrev pub pip_count : List (List TilePip) → List ℕ → ℕ
pip_count types tys = sum_by (λ ty. length (pips_of_type types ty)) tys

-- a PIP goes forward from one wire to the other, or backward from the other to the one
abbrev pub joins : (wire0 wire1 : ℕ) → TilePip → Bool
joins wire0 wire1 x = nat_eq x.wire0 wire0 && nat_eq x.wire1 wire1

abbrev pub joins_back : (wire0 wire1 : ℕ) → TilePip → Bool
joins_back wire0 wire1 x = joins wire0 wire1 x && not x.directional

-- a PIP joins these wires and goes this way: forward from the first to the second, or backward from
-- the second to the first
abbrev pub goes : (wire0 wire1 : ℕ) → Bool → TilePip → Bool
goes wire0 wire1 true x = joins wire0 wire1 x
goes wire0 wire1 false x = joins_back wire0 wire1 x

-- the same way: both forward or both backward
abbrev pub is_way : Bool → Bool → Bool
is_way true way = way
is_way false way = not way

-- a directed PIP of this tile between these wires, this way
abbrev pub joins_at : (tile wire0 wire1 : ℕ) → Bool → DirectedPip → Bool
joins_at tile wire0 wire1 forward e = nat_eq e.tile tile
    && (is_way e.forward forward && joins wire0 wire1 e.pip)

-- The directed PIPs of PIP p are 2p forward and 2p + 1 backward.
abbrev pub way_number : ℕ → Bool → ℕ
way_number p true = 2 * p
way_number p false = 2 * p + 1

-- where the PIPs of each tile begin; their directed PIPs and the tiles have numbers of 32 bits
pub record AreStarts (types : List (List TilePip)) (kinds starts : List ℕ) : Type 0 where
  pub same_length : length starts ≡ length kinds
  pub each : (tile : ℕ) → tile < length kinds
      → slice_get starts tile ≡ Some (pip_count types (take tile kinds))
  pub few : 2 * pip_count types kinds < 2 ^ 32
  pub few_tiles : length kinds < 2 ^ 32

-- A key is a tile type's number and two wires: the first PIP of the type that goes from the one to
-- the other.
abbrev pub AreForward : List (List TilePip) → FirstByKey ℕ → Type 0
AreForward types table = (q : Key) → value_at table q
    ≡ position (joins q.part q.name) (pips_of_type types q.owner)

-- the same of those that aren't directional
abbrev pub AreBackward : List (List TilePip) → FirstByKey ℕ → Type 0
AreBackward types table = (q : Key) → value_at table q
    ≡ position (joins_back q.part q.name) (pips_of_type types q.owner)

-- where PIPs begin, and the first of each tile type between two wires
pub record ArePips (p : Pips) : Type 0 where
  pub starts : AreStarts p.types p.kinds p.starts
  pub forward : AreForward p.types p.forward
  pub backward : AreBackward p.types p.backward
