-- A design that keeps N10 is small.
use Rattle.std.proofs.Common.{◌≡◌, ◌<◌, ◌≤◌, ◌+◌, ◌^◌, ap, refl, sym, subst, ◌∙◌, ℕ, suc}
use Rattle.std.proofs.Common.{List, [], ◌∷◌, ◌++◌, slice_get, Some, arith, inl, inr, map}
use Rattle.std.proofs.Common.{length, length-append, is_some}
use Rattle.std.specs.List.{AllByRecursion}
use Rattle.std.proofs.lemmas.Bool.{cases_lt}
use Rattle.std.proofs.lemmas.List.{length-map}
use Rattle.std.proofs.lemmas.List.Sums.{count_by-le-length}
use Rattle.ix_message.specs.Shape.{Text}
use Rattle.ix_rec.specs.declared.device.DeviceRec.{DeviceRec}
use Rattle.ix_rec.specs.declared.netlist.CellInstance.{CellInstance}
use Rattle.ix_rec.specs.declared.netlist.NetlistRec.{NetlistRec}
use Rattle.ix_hierarchy.specs.Hierarchy.{Path, instance_at}
use Rattle.ix_hierarchy.specs.Walk.{Spot, TopBit, NetAt, InstanceAt, IsBefore, IsLess, key}
use Rattle.ix_hierarchy.specs.Nets.{Occurrence, spot_of}
use Rattle.ix_hierarchy.specs.Broken.{AllDiffer, IsCounted, Keeps10}
use Rattle.ix_hierarchy.specs.FlatDesign.{AreLeafCells, AreSignals, LeafCell, port_cells}
use Rattle.ix_joined.specs.Joining.{ArePlaces, TopPlace, top_places}
use Rattle.ix_pin_laws.specs.Laws.{IsSmall, has_type}
use Rattle.ix_pin_laws.proofs.Items.{in_either, mapped, none_last}
use Rattle.ix_pin_laws.proofs.Counting.{counted}

none_less_itself : (xs : List ℕ) → IsLess xs xs → ⊥
none_less_itself [] h = h
none_less_itself (x ∷ xs) h = elim h [
  | inl a ↦ omega arith
  | inr b ↦ none_less_itself xs b.1
]

-- places that rise
abbrev Rise : List Spot → Type 0
Rise spots = (j k : ℕ) (a b : Spot) → j < k → slice_get spots j ≡ Some a
    → slice_get spots k ≡ Some b → IsBefore a b

differ : (spots : List Spot) → Rise spots → AllDiffer spots
differ spots rise i j spot x y = elim (cases_lt i j) [
  | inl less ↦ absurd (none_less_itself (key spot) (rise i j spot spot less x y))
  | inr more ↦ elim (cases_lt j i) [
    | inl less ↦ absurd (none_less_itself (key spot) (rise j i spot spot less y x))
    | inr le ↦ omega arith
  ]
]

both_differ : (xs ys : List Spot) → AllDiffer xs → AllDiffer ys
    → ((i j : ℕ) (spot : Spot) → slice_get xs i ≡ Some spot → slice_get ys j ≡ Some spot → ⊥)
    → AllDiffer (xs ++ ys)
both_differ xs ys one other apart i j spot x y = elim (in_either xs ys i spot x) [
  | inl a ↦ elim (in_either xs ys j spot y) [
    | inl b ↦ one i j spot a b
    | inr b ↦ absurd (apart i b.0 spot a b.2)
  ]
  | inr a ↦ elim (in_either xs ys j spot y) [
    | inl b ↦ absurd (apart j a.0 spot b a.2)
    | inr b ↦
        let e : a.0 ≡ b.0 = other a.0 b.0 spot a.2 b.2 in
        let f : i ≡ length xs + a.0 = a.1 in
        let g : j ≡ length xs + b.0 = b.1 in omega arith
  ]
]

all_by : (P : Spot → Type 0) (spots : List Spot)
    → ((k : ℕ) (spot : Spot) → slice_get spots k ≡ Some spot → P spot) → AllByRecursion P spots
all_by P [] h = tt
all_by P (s ∷ spots) h = (h 0 s refl, all_by P spots (λ k spot at. h (suc k) spot at))

both_all : (P : Spot → Type 0) (xs ys : List Spot) → AllByRecursion P xs → AllByRecursion P ys
    → AllByRecursion P (xs ++ ys)
both_all P [] ys a b = b
both_all P (x ∷ xs) ys a b = (a.0, both_all P xs ys a.1 b)

-- The spots.

abbrev bit_spot : TopPlace → Spot
bit_spot at = TopBit at.place at.index

abbrev leaf_spot : LeafCell → Spot
leaf_spot leaf = InstanceAt leaf.path

bits_rise : (design : NetlistRec) → ArePlaces design (top_places design)
    → Rise (map bit_spot (top_places design))
bits_rise design places j k a b less x y =
    let p = mapped bit_spot (top_places design) j a x in
    let q = mapped bit_spot (top_places design) k b y in
    subst (λ s. IsBefore s b) p.2 (subst (IsBefore (bit_spot p.0)) q.2
    (places.rise j k p.0 q.0 less p.1 q.1))

leaves_rise : (rec : DeviceRec) (design : NetlistRec) (leaves : List LeafCell)
    → AreLeafCells rec design leaves → Rise (map leaf_spot leaves)
leaves_rise rec design leaves are j k a b less x y =
    let p = mapped leaf_spot leaves j a x in
    let q = mapped leaf_spot leaves k b y in
    subst (λ s. IsBefore s b) p.2 (subst (IsBefore (leaf_spot p.0)) q.2
    (are.rise j k p.0 q.0 less p.1 q.1))

nets_rise : (names : List Text) (rec : DeviceRec) (design : NetlistRec)
    (signals : List Occurrence) → AreSignals names rec design signals
    → Rise (map spot_of signals)
nets_rise names rec design signals are j k a b less x y =
    let p = mapped spot_of signals j a x in
    let q = mapped spot_of signals k b y in
    subst (λ s. IsBefore s b) p.2 (subst (IsBefore (spot_of p.0)) q.2
    (are.rise j k p.0 q.0 less p.1 q.1))

bits_counted : (design : NetlistRec) → ArePlaces design (top_places design)
    → AllByRecursion (IsCounted design) (map bit_spot (top_places design))
bits_counted design places = all_by (IsCounted design) (map bit_spot (top_places design))
    (λ k spot at.
    let p = mapped bit_spot (top_places design) k spot at in
    let is = places.each k p.0 p.1 in
    subst (IsCounted design) p.2 (p.0.number, is.0, is.1))

-- an instance below the top
below_top : (design : NetlistRec) (path : Path) (parent : Path) (place : ℕ) (inst : CellInstance)
    → path ≡ parent ++ place ∷ [] → instance_at design path ≡ Some inst
    → IsCounted design (InstanceAt path)
below_top design [] parent place inst below is = absurd (none_last parent place below)
below_top design (p ∷ path) parent place inst below is = ap is_some is

leaves_counted : (rec : DeviceRec) (design : NetlistRec) (leaves : List LeafCell)
    → AreLeafCells rec design leaves → AllByRecursion (IsCounted design) (map leaf_spot leaves)
leaves_counted rec design leaves are = all_by (IsCounted design) (map leaf_spot leaves)
    (λ k spot at.
    let p = mapped leaf_spot leaves k spot at in
    let is = (are.each k p.0 p.1).leaf.leaf in
    subst (IsCounted design) p.2
    (below_top design p.0.path is.parent is.place p.0.inst is.below is.is))

nets_counted : (names : List Text) (rec : DeviceRec) (design : NetlistRec)
    (signals : List Occurrence) → AreSignals names rec design signals
    → AllByRecursion (IsCounted design) (map spot_of signals)
nets_counted names rec design signals are = all_by (IsCounted design) (map spot_of signals)
    (λ k spot at.
    let p = mapped spot_of signals k spot at in
    let is = (are.each k p.0 p.1).first in
    subst (IsCounted design) p.2 (is.cell, is.net, is.occurs))

bit_no_leaf : (p i : ℕ) (path : Path) → TopBit p i ≡ InstanceAt path → ⊥
bit_no_leaf p i path e = absurd (cc)

bit_no_net : (p i : ℕ) (path : Path) (net : ℕ) → TopBit p i ≡ NetAt path net → ⊥
bit_no_net p i path net e = absurd (cc)

leaf_no_net : (way path : Path) (net : ℕ) → InstanceAt way ≡ NetAt path net → ⊥
leaf_no_net way path net e = absurd (cc)

abbrev all_spots : NetlistRec → List LeafCell → List Occurrence → List Spot
all_spots design leaves signals =
    map bit_spot (top_places design) ++ (map leaf_spot leaves ++ map spot_of signals)

all_differ : (names : List Text) (rec : DeviceRec) (design : NetlistRec) (leaves : List LeafCell)
    (signals : List Occurrence) → ArePlaces design (top_places design)
    → AreLeafCells rec design leaves → AreSignals names rec design signals
    → AllDiffer (all_spots design leaves signals)
all_differ names rec design leaves signals places are nets =
    both_differ (map bit_spot (top_places design)) (map leaf_spot leaves ++ map spot_of signals)
    (differ (map bit_spot (top_places design)) (bits_rise design places))
    (both_differ (map leaf_spot leaves) (map spot_of signals)
    (differ (map leaf_spot leaves) (leaves_rise rec design leaves are))
    (differ (map spot_of signals) (nets_rise names rec design signals nets))
    (λ i j spot x y.
    let p = mapped leaf_spot leaves i spot x in
    let q = mapped spot_of signals j spot y in
    leaf_no_net p.0.path q.0.path q.0.net (p.2 ∙ sym q.2)))
    (λ i j spot x y.
    let p = mapped bit_spot (top_places design) i spot x in
    elim (in_either (map leaf_spot leaves) (map spot_of signals) j spot y) [
      | inl a ↦
          let q = mapped leaf_spot leaves j spot a in
          bit_no_leaf p.0.place p.0.index q.0.path (p.2 ∙ sym q.2)
      | inr a ↦
          let q = mapped spot_of signals a.0 spot a.2 in
          bit_no_net p.0.place p.0.index q.0.path q.0.net (p.2 ∙ sym q.2)
    ])

all_long : (design : NetlistRec) (leaves : List LeafCell) (signals : List Occurrence)
    → length (all_spots design leaves signals)
    ≡ length (top_places design) + length leaves + length signals
all_long design leaves signals =
    let a : length (all_spots design leaves signals) ≡ length (map bit_spot (top_places design))
    + length (map leaf_spot leaves ++ map spot_of signals) =
    length-append (map bit_spot (top_places design))
    (map leaf_spot leaves ++ map spot_of signals) in
    let b : length (map leaf_spot leaves ++ map spot_of signals)
    ≡ length (map leaf_spot leaves) + length (map spot_of signals) =
    length-append (map leaf_spot leaves) (map spot_of signals) in
    let c : length (map bit_spot (top_places design)) ≡ length (top_places design) =
    length-map (top_places design) bit_spot in
    let d : length (map leaf_spot leaves) ≡ length leaves = length-map leaves leaf_spot in
    let e : length (map spot_of signals) ≡ length signals = length-map signals spot_of in omega arith

not_more : (n : ℕ) → (2 ^ 22 < n → ⊥) → n ≤ 2 ^ 22
not_more n h = elim (cases_lt (2 ^ 22) n) [
  | inl less ↦ absurd (h less)
  | inr le ↦ le
]

pub small : (names : List Text) (rec : DeviceRec) (design : NetlistRec) (leaves : List LeafCell)
    (signals : List Occurrence) → Keeps10 names rec design → ArePlaces design (top_places design)
    → AreLeafCells rec design leaves → AreSignals names rec design signals
    → IsSmall names design leaves signals
small names rec design leaves signals keeps places are nets =
    let spots = all_spots design leaves signals in
    let long : length spots ≡ length (top_places design) + length leaves + length signals =
    all_long design leaves signals in
    let few : length spots ≤ 2 ^ 22 = not_more (length spots) (λ more. keeps.1 (
      spots,
      all_differ names rec design leaves signals places are nets,
      both_all (IsCounted design) (map bit_spot (top_places design))
          (map leaf_spot leaves ++ map spot_of signals) (bits_counted design places)
          (both_all (IsCounted design) (map leaf_spot leaves) (map spot_of signals)
          (leaves_counted rec design leaves are)
          (nets_counted names rec design signals nets)),
      more,
    )) in
    let ports : length (port_cells names design) ≤ length (top_places design) =
    subst (λ n. n ≤ length (top_places design)) (sym (counted names design).all)
    (count_by-le-length has_type (top_places design)) in
    record {
      together = omega arith;
      places = omega arith;
      ports = ports;
      cells = omega arith;
      nets = omega arith;
    }
