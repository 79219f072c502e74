-- The cells of a flat design, each with its place in the walk.
use Rattle.std.proofs.Common.{◌≡◌, ◌⊎◌, ◌<◌, ◌≤◌, ◌+◌, ◌-◌, ◌∙◌, ap, sym, subst, refl, ℕ, List, []}
use Rattle.std.proofs.Common.{◌++◌, length, map, slice_get, Option, Some}
use Rattle.std.proofs.Common.{None, option_map, option_and_then, inl, inr, arith}
use Rattle.std.specs.Prelude.{codes}
use Rattle.std.specs.List.{flat_map, range_with_len}
use Rattle.std.proofs.lemmas.Bool.{cases_lt}
use Rattle.std.proofs.lemmas.Option.{same_Some, none-some, slice_get_within, slice_get-map}
use Rattle.std.proofs.lemmas.Option.{get_or_from_slice_get}
use Rattle.std.proofs.lemmas.List.FromFn.{get_or-range_with_len, length-range_with_len}
use Rattle.ix_message.specs.Shape.{Text}
use Rattle.ix_rec.specs.declared.device.DeviceRec.{DeviceRec}
use Rattle.ix_rec.specs.declared.flow.FlatCell.{FlatCell}
use Rattle.ix_rec.specs.declared.netlist.NetlistRec.{NetlistRec}
use Rattle.ix_rec.specs.declared.netlist.Port.{Port}
use Rattle.ix_hierarchy.specs.Hierarchy.{PortNumber, ports_of, width, written}
use Rattle.ix_hierarchy.specs.Walk.{Spot, TopBit, InstanceAt, IsBefore}
use Rattle.ix_hierarchy.specs.Pins.{IsTopBit}
use Rattle.ix_hierarchy.specs.FlatDesign.{port_type, port_cells_of, port_cells, LeafCell}
use Rattle.ix_hierarchy.specs.FlatDesign.{AreLeafCells, leaf_texts, cell_texts}
use Rattle.ix_hierarchy.specs.Broken.{BreaksN5, IsCellNamed, NoneBreaks}
use Rattle.ix_flat_laws.proofs.FlatMaps.{IsIn, found_in, get_left, get_right, places_rise}
use Rattle.ix_flat_laws.proofs.Orders.{bits_rise, bit_first}

-- the cells of a port by its number
abbrev pub cells_at : List Text → NetlistRec → PortNumber → List (Text × Text)
cells_at names design number = of (slice_get design.port_list number)
  where
    of : Option Port → List (Text × Text)
    of None = []
    of (Some port) = port_cells_of names port

pub cells_are : (names : List Text) (design : NetlistRec)
    → port_cells names design
    ≡ flat_map (cells_at names design) (ports_of design design.top_inst.cell)
cells_are names design = refl

-- a port cell: its bit, and its texts
pub record IsPortCell (names : List Text) (design : NetlistRec) (texts : Text × Text)
    (place index : ℕ) : Type 0 where
  pub number : PortNumber
  pub port : Port
  pub bit : IsTopBit design place index number port
  pub ty : Text
  pub type_is : port_type port.dir ≡ Some ty
  pub texts_are : texts ≡ (codes "$port/" ++ written names port index, ty)

range_at : (n k x : ℕ) → slice_get (range_with_len 0 n) k ≡ Some x → (k < n) × (x ≡ k)
range_at n k x at =
    let lt : k < n = omega (
      arith,
      slice_get_within (range_with_len 0 n) k x at,
      length-range_with_len 0 n,
    ) in
    let is : x ≡ 0 + k = sym (get_or_from_slice_get (range_with_len 0 n) k x 0 at)
    ∙ get_or-range_with_len 0 n k 0 lt in
    (lt, omega (arith, is))

-- the cells of a port, by its type of cells
abbrev pub typed : List Text → Port → Option Text → List (Text × Text)
typed names port None = []
typed names port (Some ty) =
    map (λ index. (codes "$port/" ++ written names port index, ty)) (range_with_len 0 (width port))

typed_at : (names : List Text) (port : Port) (o : Option Text) (index : ℕ) (texts : Text × Text)
    → slice_get (typed names port o) index ≡ Some texts
    → (ty : Text) × (o ≡ Some ty) × (index < width port)
    × (texts ≡ (codes "$port/" ++ written names port index, ty))
typed_at names port None index texts at = absurd (none-some texts at)
typed_at names port (Some ty) index texts at = by (slice_get (range_with_len 0 (width port)) index)
    refl (sym (slice_get-map (λ i. (codes "$port/" ++ written names port i, ty))
    (range_with_len 0 (width port)) index) ∙ at)
  where
    by : (o : Option ℕ) → slice_get (range_with_len 0 (width port)) index ≡ o
        → option_map (λ i. (codes "$port/" ++ written names port i, ty)) o ≡ Some texts
        → (kind : Text) × (Some ty ≡ Some kind) × (index < width port)
        × (texts ≡ (codes "$port/" ++ written names port index, kind))
    by None is h = absurd (none-some texts h)
    by (Some x) is h = let r = range_at (width port) index x is in (
      ty,
      refl,
      r.0,
      sym (same_Some _ texts h)
          ∙ ap (λ i. (codes "$port/" ++ written names port i, ty)) r.1,
    )

pub port_cell : (names : List Text) (design : NetlistRec) (k : ℕ) (texts : Text × Text)
    (found : IsIn (cells_at names design) (ports_of design design.top_inst.cell) k texts)
    → IsPortCell names design texts found.place found.index
port_cell names design k texts found =
    by (slice_get design.port_list found.outer) refl found.inner
  where
    of : Option Port → List (Text × Text)
    of None = []
    of (Some port) = port_cells_of names port

    by : (o : Option Port) → slice_get design.port_list found.outer ≡ o
        → slice_get (of o) found.index ≡ Some texts
        → IsPortCell names design texts found.place found.index
    by None is h = absurd (none-some texts h)
    by (Some port) is h = let t = typed_at names port (port_type port.dir) found.index texts h in
        record {
          number = found.outer;
          port = port;
          bit = record { which = found.at; port_is = is; within = t.2 };
          ty = t.0;
          type_is = t.1;
          texts_are = t.3;
        }

pub leaf_named : (names : List Text) (rec : DeviceRec) (design : NetlistRec)
    (leaves : List LeafCell) → AreLeafCells rec design leaves → (k : ℕ) (leaf : LeafCell)
    → slice_get leaves k ≡ Some leaf
    → IsCellNamed names rec design (InstanceAt leaf.path) (leaf_texts names design leaf).0
leaf_named names rec design leaves are k leaf at = (leaf.inst, leaf.ty, are.each k leaf at, refl)

pub bit_named : (names : List Text) (rec : DeviceRec) (design : NetlistRec) (texts : Text × Text)
    (place index : ℕ) → IsPortCell names design texts place index
    → IsCellNamed names rec design (TopBit place index) texts.0
bit_named names rec design texts place index cell = (
  cell.number,
  cell.port,
  cell.bit,
  λ none. none-some cell.ty (sym none ∙ cell.type_is),
  ap (λ t. t.0) cell.texts_are,
)

-- the texts of a cell, by its number
pub record HasTexts (names : List Text) (texts : List (Text × Text)) (k : ℕ) (cell : FlatCell)
    : Type 0 where
  pub both : Text × Text
  pub at : slice_get texts k ≡ Some both
  pub name : slice_get names cell.name ≡ Some both.0
  pub type_is : slice_get names cell.ty ≡ Some both.1

both_are : (names : List Text) (cell : FlatCell) (t : Text × Text)
    → cell_texts names cell ≡ Some t
    → (slice_get names cell.name ≡ Some t.0) × (slice_get names cell.ty ≡ Some t.1)
both_are names cell t is =
    by (slice_get names cell.name) (slice_get names cell.ty) refl refl is
  where
    by : (n k : Option Text) → slice_get names cell.name ≡ n → slice_get names cell.ty ≡ k
        → option_and_then (λ name. option_map (λ ty. (name, ty)) k) n ≡ Some t
        → (slice_get names cell.name ≡ Some t.0) × (slice_get names cell.ty ≡ Some t.1)
    by None k a b h = absurd (none-some t h)
    by (Some name) None a b h = absurd (none-some t h)
    by (Some name) (Some ty) a b h = let e : (name, ty) ≡ t = same_Some (name, ty) t h in
        (a ∙ ap (λ p. Some p.0) e, b ∙ ap (λ p. Some p.1) e)

pub texts_at : (names : List Text) (cells : List FlatCell) (texts : List (Text × Text)) (k : ℕ)
    (cell : FlatCell) → map (cell_texts names) cells ≡ map (λ t. Some t) texts
    → slice_get cells k ≡ Some cell → HasTexts names texts k cell
texts_at names cells texts k cell are at =
    by (slice_get texts k) refl (sym (slice_get-map (λ t. Some t) texts k)
    ∙ ap (λ xs. slice_get xs k) (sym are) ∙ slice_get-map (cell_texts names) cells k
    ∙ ap (option_map (cell_texts names)) at)
  where
    by : (o : Option (Text × Text)) → slice_get texts k ≡ o
        → option_map (λ t. Some t) o ≡ Some (cell_texts names cell)
        → HasTexts names texts k cell
    by None is h = absurd (none-some (cell_texts names cell) h)
    by (Some t) is h = let e = both_are names cell t
        (sym (same_Some (Some t) (cell_texts names cell) h)) in
        record { both = t; at = is; name = e.0; type_is = e.1 }

cell_named : (cells : List FlatCell) (k x : ℕ)
    → slice_get (map (λ (cell : FlatCell). cell.name) cells) k ≡ Some x
    → (cell : FlatCell) × (slice_get cells k ≡ Some cell) × (cell.name ≡ x)
cell_named cells k x at = by (slice_get cells k) refl
    (sym (slice_get-map (λ (cell : FlatCell). cell.name) cells k) ∙ at)
  where
    by : (o : Option FlatCell) → slice_get cells k ≡ o
        → option_map (λ (cell : FlatCell). cell.name) o ≡ Some x
        → (cell : FlatCell) × (slice_get cells k ≡ Some cell) × (cell.name ≡ x)
    by None is h = absurd (none-some x h)
    by (Some cell) is h = (cell, is, same_Some cell.name x h)

-- the leaf at a number behind the port cells
pub leaf_at : (names : List Text) (design : NetlistRec) (leaves : List LeafCell)
    (ports : List (Text × Text)) (k : ℕ) (t : Text × Text) → length ports ≤ k
    → slice_get (ports ++ map (leaf_texts names design) leaves) k ≡ Some t
    → (leaf : LeafCell) × (slice_get leaves (k - length ports) ≡ Some leaf)
    × (t ≡ leaf_texts names design leaf)
leaf_at names design leaves ports k t le at =
    let e : k ≡ length ports + (k - length ports) = omega (arith, le) in
    by (slice_get leaves (k - length ports)) refl
    (sym (slice_get-map (leaf_texts names design) leaves (k - length ports))
    ∙ sym (get_right ports (map (leaf_texts names design) leaves) (k - length ports))
    ∙ ap (slice_get (ports ++ map (leaf_texts names design) leaves)) (sym e) ∙ at)
  where
    by : (o : Option LeafCell) → slice_get leaves (k - length ports) ≡ o
        → option_map (leaf_texts names design) o ≡ Some t
        → (leaf : LeafCell) × (slice_get leaves (k - length ports) ≡ Some leaf)
        × (t ≡ leaf_texts names design leaf)
    by None is h = absurd (none-some t h)
    by (Some leaf) is h = (leaf, is, sym (same_Some (leaf_texts names design leaf) t h))

-- of two cells the lesser number stands first in the walk; so two of one name break N5
apart : (names : List Text) (rec : DeviceRec) (design : NetlistRec) (leaves : List LeafCell)
    → AreLeafCells rec design leaves
    → NoneBreaks (λ s. (text : Text) × BreaksN5 names rec design s text) → (i j : ℕ) → i < j
    → (a b : Text × Text)
    → slice_get (port_cells names design ++ map (leaf_texts names design) leaves) i ≡ Some a
    → slice_get (port_cells names design ++ map (leaf_texts names design) leaves) j ≡ Some b
    → a.0 ≡ b.0 → ⊥
apart names rec design leaves are keeps i j lt a b at_i at_j same =
    by (cases_lt i (length ports)) (cases_lt j (length ports))
  where
    ports : List (Text × Text)
    ports = port_cells names design

    rest : List (Text × Text)
    rest = map (leaf_texts names design) leaves

    second : (one other : Spot) → IsCellNamed names rec design one a.0
        → IsCellNamed names rec design other b.0 → IsBefore one other → ⊥
    second one other p q before = keeps other (
      b.0,
      inl record {
        here = q;
        other = one;
        before = before;
        there = subst (IsCellNamed names rec design one) same p;
      },
    )

    by : (i < length ports) ⊎ (length ports ≤ i) → (j < length ports) ⊎ (length ports ≤ j) → ⊥
    by (inl x) (inl y) =
        let one = found_in (cells_at names design) (ports_of design design.top_inst.cell) i a
        (sym (get_left ports rest i x) ∙ at_i) in
        let other = found_in (cells_at names design) (ports_of design design.top_inst.cell) j b
        (sym (get_left ports rest j y) ∙ at_j) in
        second (TopBit one.place one.index) (TopBit other.place other.index)
        (bit_named names rec design a one.place one.index (port_cell names design i a one))
        (bit_named names rec design b other.place other.index (port_cell names design j b other))
        (bits_rise one.place one.index other.place other.index (places_rise
        (cells_at names design) (ports_of design design.top_inst.cell) i j a b one other lt))
    by (inl x) (inr y) =
        let one = found_in (cells_at names design) (ports_of design design.top_inst.cell) i a
        (sym (get_left ports rest i x) ∙ at_i) in
        let other = leaf_at names design leaves ports j b y at_j in
        second (TopBit one.place one.index) (InstanceAt other.0.path)
        (bit_named names rec design a one.place one.index (port_cell names design i a one))
        (subst (IsCellNamed names rec design (InstanceAt other.0.path)) (sym (ap
        (λ t. t.0) other.2))
        (leaf_named names rec design leaves are (j - length ports) other.0 other.1))
        (bit_first one.place one.index other.0.path)
    by (inr x) (inl y) = omega (arith, x, y, lt)
    by (inr x) (inr y) =
        let one = leaf_at names design leaves ports i a x at_i in
        let other = leaf_at names design leaves ports j b y at_j in
        second (InstanceAt one.0.path) (InstanceAt other.0.path)
        (subst (IsCellNamed names rec design (InstanceAt one.0.path)) (sym (ap (λ t. t.0) one.2))
        (leaf_named names rec design leaves are (i - length ports) one.0 one.1))
        (subst (IsCellNamed names rec design (InstanceAt other.0.path)) (sym (ap
        (λ t. t.0) other.2))
        (leaf_named names rec design leaves are (j - length ports) other.0 other.1))
        (are.rise (i - length ports) (j - length ports) one.0 other.0 (omega (arith, x, y, lt))
        one.1 other.1)

pub cells_differ : (names : List Text) (rec : DeviceRec) (design : NetlistRec)
    (leaves : List LeafCell) (cells : List FlatCell) → AreLeafCells rec design leaves
    → NoneBreaks (λ s. (text : Text) × BreaksN5 names rec design s text)
    → map (cell_texts names) cells ≡ map (λ t. Some t)
    (port_cells names design ++ map (leaf_texts names design) leaves)
    → (i j x : ℕ) → slice_get (map (λ (cell : FlatCell). cell.name) cells) i ≡ Some x
    → slice_get (map (λ (cell : FlatCell). cell.name) cells) j ≡ Some x → i ≡ j
cells_differ names rec design leaves cells are keeps texts i j x at_i at_j =
    by (cases_lt i j) (cases_lt j i)
  where
    all : List (Text × Text)
    all = port_cells names design ++ map (leaf_texts names design) leaves

    never : (p q : ℕ) → p < q
        → slice_get (map (λ (cell : FlatCell). cell.name) cells) p ≡ Some x
        → slice_get (map (λ (cell : FlatCell). cell.name) cells) q ≡ Some x → ⊥
    never p q lt at_p at_q =
        let c = cell_named cells p x at_p in let d = cell_named cells q x at_q in
        let s = texts_at names cells all p c.0 texts c.1 in
        let t = texts_at names cells all q d.0 texts d.1 in
        apart names rec design leaves are keeps p q lt s.both t.both s.at t.at
        (same_Some s.both.0 t.both.0 (sym s.name ∙ ap (slice_get names) (c.2 ∙ sym d.2) ∙ t.name))

    by : (i < j) ⊎ (j ≤ i) → (j < i) ⊎ (i ≤ j) → i ≡ j
    by (inl lt) c = absurd (never i j lt at_i at_j)
    by (inr le) (inl lt) = absurd (never j i lt at_j at_i)
    by (inr le) (inr ge) = omega (arith, le, ge)
