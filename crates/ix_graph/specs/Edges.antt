-- The rows of edges, as they are counted and filled.
use Rattle.std.specs.Prelude.{◌≡◌, ◌<◌, ◌+◌, ℕ, List, length, map, slice_get, Bool, Option, Some}
use Rattle.std.specs.Prelude.{option_map, if◌then◌else◌}
use Rattle.std.specs.List.{filter, AllByRecursion, sum_by}
use Rattle.ix_rows.specs.Rows.{rows, row_of}
use Rattle.ix_rows.specs.declared.rows.Rows.{Rows}
use Rattle.ix_graph.specs.declared.type_pips.TilePip.{TilePip}
use Rattle.ix_graph.specs.declared.edges.Edge.{Edge}
use Rattle.ix_graph.specs.Nodes.{AreBelow}
use Rattle.ix_graph.specs.Pips.{DirectedPip, enters_at, leaves_at, pips_of_type}
use Rattle.ix_graph.specs.Graph.{is_node, goes_from, edge}

-- an edge as it is told
abbrev pub told : Edge → Option (ℕ × ℕ)
told x = Some (x.pip, x.node)

-- PIPs lead between these many wires
abbrev pub AreWithin : ℕ → List TilePip → Type 0
AreWithin wires xs = AllByRecursion (λ x. (x.wire0 < wires) × (x.wire1 < wires)) xs

-- each tile has the wires that its PIPs join, and these have nodes below a count
pub record HaveNodes (wires : List (List ℕ)) (types : List (List TilePip)) (kinds : List ℕ)
    (count : ℕ) : Type 0 where
  pub tiles : length wires ≡ length kinds
  pub kinds_stand : AreBelow (length types) kinds
  pub within : (tile ty : ℕ) (ws : List ℕ) → slice_get kinds tile ≡ Some ty
      → slice_get wires tile ≡ Some ws → AreWithin (length ws) (pips_of_type types ty)
  pub below : AllByRecursion (AreBelow count) wires

-- Within a tile, whose wires have these nodes.

-- one where a wire is of this node
abbrev pub one_at : List ℕ → (n wire : ℕ) → ℕ
one_at ns n wire = if is_node n (slice_get ns wire) then 1 else 0

-- how many ways of a PIP go out of this node
abbrev pub outs : List ℕ → ℕ → TilePip → ℕ
outs ns n x = one_at ns n x.wire0 + (if x.directional then 0 else one_at ns n x.wire1)

abbrev pub all_outs : List ℕ → ℕ → List TilePip → ℕ
all_outs ns n xs = sum_by (outs ns n) xs

abbrev pub goes_out : List ℕ → ℕ → DirectedPip → Bool
goes_out ns n e = is_node n (slice_get ns (enters_at e))

abbrev pub edge_in : List ℕ → DirectedPip → Option (ℕ × ℕ)
edge_in ns e = option_map (λ m. (e.number, m)) (slice_get ns (leaves_at e))

-- the edges out of this node, among these directed PIPs
abbrev pub edges_out : List ℕ → ℕ → List DirectedPip → List (Option (ℕ × ℕ))
edges_out ns n es = map (edge_in ns) (filter (goes_out ns n) es)

-- Over all tiles.

-- the rows have the edges of these directed PIPs, each in the row of the node from which it goes,
-- for so many nodes
pub record AreRows (wires : List (List ℕ)) (pips : List DirectedPip) (count : ℕ) (table : Rows Edge)
    : Type 0 where
  pub nodes : rows table ≡ count
  pub edges : (n : ℕ) → map told (row_of table n)
      ≡ map (edge wires) (filter (goes_from wires n) pips)
