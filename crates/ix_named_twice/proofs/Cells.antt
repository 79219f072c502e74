-- The cells of a design by their places and names.
use Rattle.std.proofs.Common.{◌≡◌, ◌<◌, ◌+◌, ◌∙◌, ap, refl, sym, subst, ℕ, List, [], ◌∷◌, ◌++◌}
use Rattle.std.proofs.Common.{length, map, slice_get, Option, Some, None, codes, is_some, true}
use Rattle.std.proofs.Common.{inl, inr, arith}
use Rattle.std.specs.List.{filter}
use Rattle.std.specs.Option.{IsSome, option_map}
use Rattle.std.proofs.lemmas.Bool.{false≢true}
use Rattle.std.proofs.lemmas.List.{length-append, length-map}
use Rattle.std.proofs.lemmas.Option.{none-some, same_Some, option_and_then_some, slice_get_within}
use Rattle.ix_message.specs.Shape.{Text}
use Rattle.ix_rec.specs.declared.device.DeviceRec.{DeviceRec}
use Rattle.ix_rec.specs.declared.flow.FlatCell.{FlatCell}
use Rattle.ix_rec.specs.declared.netlist.CellInstance.{CellInstance}
use Rattle.ix_rec.specs.declared.netlist.NetlistRec.{NetlistRec}
use Rattle.ix_rec.specs.declared.netlist.Port.{Port}
use Rattle.ix_hierarchy.specs.Hierarchy.{Path, IsLeaf, written}
use Rattle.ix_hierarchy.specs.Walk.{IsBefore, Spot, TopBit, NetAt, InstanceAt, PinAt}
use Rattle.ix_hierarchy.specs.FlatDesign.{AreLeafCells, LeafCell, cell_texts, leaf_texts}
use Rattle.ix_hierarchy.specs.FlatDesign.{port_type}
use Rattle.ix_hierarchy.specs.Pins.{IsTopBit}
use Rattle.ix_hierarchy.specs.Broken.{IsCellNamed, IsCounted}
use Rattle.ix_joined.specs.declared.joined.Joined.{Joined}
use Rattle.ix_joined.specs.Joining.{ArePlaces, Known, TopPlace, top_places}
use Rattle.ix_flat_lists.specs.declared.named.Named.{Named}
use Rattle.ix_flat_lists.specs.Naming.{IsNamed}
use Rattle.ix_named_twice.specs.Spots.{cell_spots, has_cell, names_of, spot_at, spot_in}
use Rattle.ix_named_twice.proofs.Indexed.{filter_order, from_both, from_filter, from_map}
use Rattle.ix_named_twice.proofs.Indexed.{into_filter, into_first, into_map, into_second, mapped}
use Rattle.ix_named_twice.proofs.Order.{bit_before_leaf}
use Rattle.ix_named_twice.proofs.Ports.{bit_in, place_text, ports_are}
use Rattle.ix_named_twice.proofs.Seconds.{AreSpots}

-- the places of the top that have a cell
abbrev pub bits_of : NetlistRec → List TopPlace
bits_of design = filter has_cell (top_places design)

-- A place has one name.

one_port : (design : NetlistRec) (place index m n : ℕ) (p q : Port)
    → IsTopBit design place index m p → IsTopBit design place index n q → p ≡ q
one_port design place index m n p q x y =
    let numbers : m ≡ n = same_Some m n (sym x.which ∙ y.which) in
    same_Some p q (sym x.port_is ∙ ap (slice_get design.port_list) numbers ∙ y.port_is)

same_text : (names : List Text) (rec : DeviceRec) (design : NetlistRec) (spot : Spot)
    (s t : Text) → IsCellNamed names rec design spot s → IsCellNamed names rec design spot t
    → s ≡ t
same_text names rec design (TopBit place index) s t x y =
    x.4
    ∙ ap (λ (p : Port). codes "$port/" ++ written names p index)
    (one_port design place index x.0 y.0 x.1 y.1 x.2 y.2)
    ∙ sym y.4
same_text names rec design (InstanceAt path) s t x y = x.3 ∙ sym y.3
same_text names rec design (NetAt path net) s t x y = absurd x
same_text names rec design (PinAt path place index) s t x y = absurd x

-- All have a place.

is_typed : (o : Option Text) → ¬ (o ≡ None) → is_some o ≡ true
is_typed None h = absurd (h refl)
is_typed (Some ty) h = refl

not_none : (o : Option Text) → is_some o ≡ true → ¬ (o ≡ None)
not_none None h e = false≢true h
not_none (Some ty) h e = none-some ty (sym e)

all_cells : (names : List Text) (rec : DeviceRec) (design : NetlistRec) (leaves : List LeafCell)
    → ArePlaces design (top_places design) → AreLeafCells rec design leaves → (spot : Spot)
    (text : Text) → IsCellNamed names rec design spot text
    → (k : ℕ) × (slice_get (cell_spots design leaves) k ≡ Some spot)
all_cells names rec design leaves places are (TopBit place index) text x =
    let at : TopPlace = record { place = place; index = index; number = x.0; dir = x.1.dir } in
    let i = places.all place index x.0 x.1 x.2 in
    let k = into_filter has_cell (top_places design) i.0 at i.1
    (is_typed (port_type x.1.dir) x.3) in (
      k.0,
      into_first (map spot_at (bits_of design)) (map spot_in leaves) k.0 (spot_at at)
          (into_map spot_at (bits_of design) k.0 at k.1),
    )
all_cells names rec design leaves places are (InstanceAt path) text x =
    let leaf : LeafCell = record { path = path; inst = x.0; ty = x.1 } in
    let j = are.all path x.0 x.1 x.2 in
    let first : List Spot = map spot_at (bits_of design) in (
      length first + j.0,
      into_second first (map spot_in leaves) (length first + j.0) j.0 (spot_in leaf) refl
          (into_map spot_in leaves j.0 leaf j.1),
    )
all_cells names rec design leaves places are (NetAt path net) text x = absurd x
all_cells names rec design leaves places are (PinAt path place index) text x = absurd x

-- They are in the walk's order.

bits_rise : (design : NetlistRec) (j k : ℕ) (a b : Spot) → ArePlaces design (top_places design)
    → j < k → slice_get (map spot_at (bits_of design)) j ≡ Some a
    → slice_get (map spot_at (bits_of design)) k ≡ Some b → IsBefore a b
bits_rise design j k a b places lt x y =
    let p = from_map spot_at (bits_of design) j a x in
    let q = from_map spot_at (bits_of design) k b y in
    let o = filter_order has_cell (top_places design) j k p.0 q.0 lt p.1 q.1 in
    subst (λ (s : Spot). IsBefore s b) p.2
    (subst (λ (s : Spot). IsBefore (spot_at p.0) s) q.2
    (places.rise o.first o.second p.0 q.0 o.less o.first_is o.second_is))

leaves_rise : (rec : DeviceRec) (design : NetlistRec) (leaves : List LeafCell) (j k : ℕ)
    (a b : Spot) → AreLeafCells rec design leaves → j < k
    → slice_get (map spot_in leaves) j ≡ Some a → slice_get (map spot_in leaves) k ≡ Some b
    → IsBefore a b
leaves_rise rec design leaves j k a b are lt x y =
    let p = from_map spot_in leaves j a x in
    let q = from_map spot_in leaves k b y in
    subst (λ (s : Spot). IsBefore s b) p.2
    (subst (λ (s : Spot). IsBefore (spot_in p.0) s) q.2 (are.rise j k p.0 q.0 lt p.1 q.1))

bit_leaf : (design : NetlistRec) (leaves : List LeafCell) (j k : ℕ) (a b : Spot)
    → slice_get (map spot_at (bits_of design)) j ≡ Some a
    → slice_get (map spot_in leaves) k ≡ Some b → IsBefore a b
bit_leaf design leaves j k a b x y =
    let p = from_map spot_at (bits_of design) j a x in
    let q = from_map spot_in leaves k b y in
    subst (λ (s : Spot). IsBefore s b) p.2
    (subst (λ (s : Spot). IsBefore (spot_at p.0) s) q.2
    (bit_before_leaf p.0.place p.0.index q.0.path))

cells_rise : (rec : DeviceRec) (design : NetlistRec) (leaves : List LeafCell) (j k : ℕ)
    (a b : Spot) → ArePlaces design (top_places design) → AreLeafCells rec design leaves → j < k
    → slice_get (cell_spots design leaves) j ≡ Some a
    → slice_get (cell_spots design leaves) k ≡ Some b → IsBefore a b
cells_rise rec design leaves j k a b places are lt x y =
    let first : List Spot = map spot_at (bits_of design) in
    let second : List Spot = map spot_in leaves in
    elim (from_both first second j a x) [
      | inl p ↦ elim (from_both first second k b y) [
        | inl q ↦ bits_rise design j k a b places lt p q
        | inr q ↦ bit_leaf design leaves j q.0 a b p q.2
      ]
      | inr p ↦
          let more : j ≡ length first + p.0 = p.1 in
          elim (from_both first second k b y) [
            | inl q ↦
                let within : k < length first = slice_get_within first k b q in
                absurd (omega arith)
            | inr q ↦
                let next : k ≡ length first + q.0 = q.1 in
                leaves_rise rec design leaves p.0 q.0 a b are (omega arith) p.2 q.2
          ]
    ]

-- Each has its name.

-- the name of a cell with these texts
cell_named : (names : List Text) (cell : FlatCell) (texts : Text × Text)
    → cell_texts names cell ≡ Some texts → slice_get names cell.name ≡ Some texts.0
cell_named names cell texts h =
    option_and_then_some (λ name. option_map (λ ty. (name, ty)) (slice_get names cell.ty))
    (slice_get names cell.name) texts h (λ name n t.
    let m = mapped (λ (ty : Text). (name, ty)) (slice_get names cell.ty) texts t in
    n ∙ ap (λ (u : Text × Text). Some u.0) m.2)

-- the text of a cell, from the texts of all
id_named : (names : List Text) (cells : List FlatCell) (texts : List (Text × Text)) (k id : ℕ)
    (t : Text × Text) → map (cell_texts names) cells ≡ map (λ u. Some u) texts
    → slice_get (names_of cells) k ≡ Some id → slice_get texts k ≡ Some t
    → slice_get names id ≡ Some t.0
id_named names cells texts k id t are x y =
    let cell = from_map (λ (c : FlatCell). c.name) cells k id x in
    let told : slice_get (map (cell_texts names) cells) k ≡ Some (Some t) =
    ap (λ (l : List (Option (Text × Text))). slice_get l k) are
    ∙ into_map (λ (u : Text × Text). Some u) texts k t y in
    let same : cell_texts names cell.0 ≡ Some t = same_Some (cell_texts names cell.0) (Some t)
    (sym (into_map (cell_texts names) cells k cell.0 cell.1) ∙ told) in
    ap (slice_get names) (sym cell.2) ∙ cell_named names cell.0 t same

-- the texts, place by place
abbrev texts_of : List Text → NetlistRec → List LeafCell → List (Text × Text)
texts_of names design leaves =
    map (place_text names design) (bits_of design) ++ map (leaf_texts names design) leaves

each_cell : (names : List Text) (rec : DeviceRec) (design : NetlistRec) (leaves : List LeafCell)
    (cells : List FlatCell) (k id : ℕ) (spot : Spot) → ArePlaces design (top_places design)
    → AreLeafCells rec design leaves
    → map (cell_texts names) cells ≡ map (λ u. Some u) (texts_of names design leaves)
    → slice_get (names_of cells) k ≡ Some id → slice_get (cell_spots design leaves) k ≡ Some spot
    → (text : Text) × (slice_get names id ≡ Some text) × IsCellNamed names rec design spot text
each_cell names rec design leaves cells k id spot places are texts x y =
    elim (from_both (map spot_at (bits_of design)) (map spot_in leaves) k spot y) [
      | inl p ↦
          let at = from_map spot_at (bits_of design) k spot p in
          let t : Text × Text = place_text names design at.0 in
          let passed = from_filter has_cell (top_places design) k at.0 at.1 in
          let bit = places.each passed.place at.0 passed.is in (
            t.0,
            id_named names cells (texts_of names design leaves) k id t texts x
                (into_first (map (place_text names design) (bits_of design))
                (map (leaf_texts names design) leaves) k t
                (into_map (place_text names design) (bits_of design) k at.0 at.1)),
            subst (λ (s : Spot). IsCellNamed names rec design s t.0) at.2 (
              at.0.number,
              bit.0,
              bit.1,
              λ none. not_none (port_type at.0.dir) passed.passes
                  (ap port_type (sym bit.2) ∙ none),
              ap (λ o. codes "$port/" ++ bit_in names at.0.index o) bit.1.port_is,
            ),
          )
      | inr p ↦
          let leaf = from_map spot_in leaves p.0 spot p.2 in
          let t : Text × Text = leaf_texts names design leaf.0 in
          let many : length (map spot_at (bits_of design))
          ≡ length (map (place_text names design) (bits_of design)) =
          length-map (bits_of design) spot_at
          ∙ sym (length-map (bits_of design) (place_text names design)) in (
            t.0,
            id_named names cells (texts_of names design leaves) k id t texts x
                (into_second (map (place_text names design) (bits_of design))
                (map (leaf_texts names design) leaves) k p.0 t (p.1 ∙ ap (λ n. n + p.0) many)
                (into_map (leaf_texts names design) leaves p.0 leaf.0 leaf.1)),
            subst (λ (s : Spot). IsCellNamed names rec design s t.0) leaf.2
                (leaf.0.inst, leaf.0.ty, are.each p.0 leaf.0 leaf.1, refl),
          )
    ]

-- They are counted.

below_top : (design : NetlistRec) (path : Path) (inst : CellInstance) → IsLeaf design path inst
    → IsCounted design (InstanceAt path)
below_top design [] inst leaf = absurd (no_path leaf.parent leaf.place leaf.below)
  where
    no_path : (parent : Path) (place : ℕ) → [] ≡ parent ++ place ∷ [] → ⊥
    no_path [] place e = cc
    no_path (x ∷ parent) place e = cc
below_top design (place ∷ path) inst leaf =
    subst (λ (o : Option CellInstance). IsSome o) (sym leaf.is) refl

pub cell_counted : (names : List Text) (rec : DeviceRec) (design : NetlistRec) (spot : Spot)
    (text : Text) → IsCellNamed names rec design spot text → IsCounted design spot
cell_counted names rec design (TopBit place index) text x = (x.0, x.1, x.2)
cell_counted names rec design (InstanceAt path) text x =
    below_top design path x.0 x.2.leaf.leaf
cell_counted names rec design (NetAt path net) text x = absurd x
cell_counted names rec design (PinAt path place index) text x = absurd x

-- All of it.

pub texts_are : (known : Known) (design : NetlistRec) (joined : Joined) (named : Named)
    (is : IsNamed known design joined named)
    → map (cell_texts known.names) named.cells.items
    ≡ map (λ u. Some u) (texts_of known.names design is.leaves)
texts_are known design joined named is =
    is.cells ∙ ap (λ (l : List (Text × Text)). map (λ u. Some u)
    (l ++ map (leaf_texts known.names design) is.leaves)) (sym (ports_are known.names design))

-- how many are port cells, and how many cells there are
pub ports_many : (known : Known) (design : NetlistRec) (joined : Joined) (named : Named)
    → IsNamed known design joined named → named.ports ≡ length (map spot_at (bits_of design))
ports_many known design joined named is =
    is.ports ∙ ap length (sym (ports_are known.names design))
    ∙ length-map (bits_of design) (place_text known.names design)
    ∙ sym (length-map (bits_of design) spot_at)

pub cells_many : (known : Known) (design : NetlistRec) (joined : Joined) (named : Named)
    (is : IsNamed known design joined named)
    → length named.cells.items ≡ length (cell_spots design is.leaves)
cells_many known design joined named is =
    let names = known.names in
    let one : length (map (cell_texts names) named.cells.items) ≡ length named.cells.items =
    length-map named.cells.items (cell_texts names) in
    let two : length (map (cell_texts names) named.cells.items)
    ≡ length (texts_of names design is.leaves) =
    ap length (texts_are known design joined named is)
    ∙ length-map (texts_of names design is.leaves) (λ u. Some u) in
    let three : length (texts_of names design is.leaves)
    ≡ length (map (place_text names design) (bits_of design))
    + length (map (leaf_texts names design) is.leaves) =
    length-append (map (place_text names design) (bits_of design))
    (map (leaf_texts names design) is.leaves) in
    let four : length (cell_spots design is.leaves)
    ≡ length (map spot_at (bits_of design)) + length (map spot_in is.leaves) =
    length-append (map spot_at (bits_of design)) (map spot_in is.leaves) in
    let five : length (map (place_text names design) (bits_of design))
    ≡ length (map spot_at (bits_of design)) =
    length-map (bits_of design) (place_text names design)
    ∙ sym (length-map (bits_of design) spot_at) in
    let six : length (map (leaf_texts names design) is.leaves)
    ≡ length (map spot_in is.leaves) =
    length-map is.leaves (leaf_texts names design) ∙ sym (length-map is.leaves spot_in) in
    omega arith

pub cells_are : (known : Known) (design : NetlistRec) (joined : Joined) (named : Named)
    (is : IsNamed known design joined named) → ArePlaces design (top_places design)
    → AreSpots (IsCellNamed known.names known.device design) known.names
    (names_of named.cells.items) (cell_spots design is.leaves)
cells_are known design joined named is places = record {
  many = length-map named.cells.items (λ (c : FlatCell). c.name)
      ∙ cells_many known design joined named is;
  each = λ k id spot x y. each_cell known.names known.device design is.leaves named.cells.items k
      id spot places is.are_leaves.are (texts_are known design joined named is) x y;
  all = all_cells known.names known.device design is.leaves places is.are_leaves.are;
  rise = λ j k a b lt x y.
      cells_rise known.device design is.leaves j k a b places is.are_leaves.are lt x y;
  same = same_text known.names known.device design;
}
