-- The truth tables of a flat design.
use Rattle.std.proofs.Common.{◌≡◌, ◌⊎◌, ◌<◌, ◌≤◌, ◌+◌, ◌-◌, ◌^◌, ◌∙◌, ap, sym, subst, refl, ℕ}
use Rattle.std.proofs.Common.{List, [], ◌∷◌, ◌++◌, length, map, slice_get, slice_index_or, Option}
use Rattle.std.proofs.Common.{Some, None, IsSome, option_map, option_and_then, inl, inr, arith}
use Rattle.std.proofs.Common.{suc, zero}
use Rattle.std.proofs.Common.{Bool, true, false, cond, nat_lt}
use Rattle.std.specs.FinMap.{get}
use Rattle.std.specs.List.{AllByRecursion, find}
use Rattle.std.proofs.lemmas.Bool.{cases_lt, ltb-true}
use Rattle.std.proofs.lemmas.Option.{same_Some, none-some, slice_get-get_or}
use Rattle.ix_message.specs.Shape.{Text}
use Rattle.ix_strings.specs.Names.{AllDiffer}
use Rattle.ix_num.specs.declared.resource.NetRef.{NetRef}
use Rattle.ix_rec.specs.declared.device.DeviceRec.{DeviceRec}
use Rattle.ix_rec.specs.declared.device.LutCell.{LutCell}
use Rattle.ix_rec.specs.declared.flow.Flat.{Flat}
use Rattle.ix_rec.specs.declared.flow.FlatCell.{FlatCell}
use Rattle.ix_rec.specs.declared.flow.TruthTable.{TruthTable}
use Rattle.ix_rec.specs.declared.device.Direction.{Direction}
use Rattle.ix_rec.specs.declared.device.Direction.TheVariants.{Input, Output, Inout}
use Rattle.ix_rec.specs.declared.netlist.CellDeclaration.{CellDeclaration}
use Rattle.ix_rec.specs.declared.netlist.CellInstance.{CellInstance}
use Rattle.ix_rec.specs.declared.netlist.NetlistRec.{NetlistRec}
use Rattle.ix_rec.specs.declared.netlist.PropertyValue.{PropertyValue}
use Rattle.ix_rec.specs.declared.netlist.PropertyValue.TheVariants as values
use Rattle.ix_lut.specs.Init.{number_below, text_number}
use Rattle.ix_device.specs.Elements.{is_lut_cell}
use Rattle.ix_flat.specs.Whole.{HasItsTable, IsLut, IsPortType, lut_of_type}
use Rattle.ix_hierarchy.specs.Pins.{IsPlainLeaf, LeafPin, type_of}
use Rattle.ix_hierarchy.specs.Walk.{InstanceAt, TopBit}
use Rattle.ix_hierarchy.specs.FlatDesign.{init_number, init_value, table_of, table_of_leaf}
use Rattle.ix_hierarchy.specs.FlatDesign.{LeafCell}
use Rattle.ix_hierarchy.specs.FlatDesign.{IsFlatOf, IsOfNet, leaf_texts}
use Rattle.ix_hierarchy.specs.FlatDesign.{port_cells, port_type}
use Rattle.ix_hierarchy.specs.Fits.{AreInputsNamed, DeclarationFits, NetlistFits}
use Rattle.ix_hierarchy.specs.Hierarchy.{ports_of}
use Rattle.ix_hierarchy.specs.Broken.{BreaksN6, IsJoined, NoneBreaks}
use Rattle.ix_flat_laws.specs.Laws.{AreJoined}
use Rattle.ix_flat_laws.proofs.FlatMaps.{IsIn, found_in, get_left}
use Rattle.ix_flat_laws.proofs.Cells.{HasTexts, IsPortCell, cells_at, leaf_at, port_cell}
use Rattle.ix_flat_laws.proofs.Cells.{texts_at}

below : (limit n : ℕ) (found : ℕ) → number_below limit n ≡ Some found → found < limit
below limit n found is = by (nat_lt n limit) refl is
  where
    by : (b : Bool) → nat_lt n limit ≡ b → cond b (Some n) None ≡ Some found → found < limit
    by true lt h = let same : n ≡ found = same_Some n found h in
        let less : n < limit = ltb-true n limit lt in omega (arith, same, less)
    by false lt h = absurd (none-some found h)

bounded : (names : List Text) (inputs : ℕ) (value : PropertyValue) (bits : ℕ)
    → init_number names inputs value ≡ Some bits → bits < 2 ^ (2 ^ inputs)
bounded names inputs (values.Text text) bits is =
    by (text_number inputs (slice_index_or names text [])) is
  where
    by : (o : Option ℕ) → option_and_then (number_below (2 ^ (2 ^ inputs))) o ≡ Some bits
        → bits < 2 ^ (2 ^ inputs)
    by None h = absurd (none-some bits h)
    by (Some n) h = below (2 ^ (2 ^ inputs)) n bits h
bounded names inputs (values.Int n) bits is = below (2 ^ (2 ^ inputs)) n bits is
bounded names inputs (values.Bool b) bits is = absurd (none-some bits is)

-- a table has as many inputs as its type, and fits them
pub table_fits : (names : List Text) (lut : LutCell) (inst : CellInstance) (table : TruthTable)
    → table_of names lut inst ≡ Some table
    → (table.inputs ≡ length lut.input_pins) × (table.bits < 2 ^ (2 ^ table.inputs))
table_fits names lut inst table is =
    by (init_value inst.prop_map.entries lut.init_param) is
  where
    made : ℕ → TruthTable
    made bits = record { bits = bits; inputs = length lut.input_pins }

    with_number : (value : PropertyValue) (o : Option ℕ)
        → init_number names (length lut.input_pins) value ≡ o
        → option_map made o ≡ Some table
        → (table.inputs ≡ length lut.input_pins) × (table.bits < 2 ^ (2 ^ table.inputs))
    with_number value None e h = absurd (none-some table h)
    with_number value (Some bits) e h = let same : made bits ≡ table = same_Some (made bits) table h
        in (
          sym (ap (λ (t : TruthTable). t.inputs) same),
          subst (λ (t : TruthTable). t.bits < 2 ^ (2 ^ t.inputs)) same
              (bounded names (length lut.input_pins) value bits e),
        )

    by : (v : Option PropertyValue)
        → option_map made (option_and_then (init_number names (length lut.input_pins)) v)
        ≡ Some table
        → (table.inputs ≡ length lut.input_pins) × (table.bits < 2 ^ (2 ^ table.inputs))
    by None h = absurd (none-some table h)
    by (Some value) h =
        with_number value (init_number names (length lut.input_pins) value) refl h

-- an input of a LUT cell is a pin of the flat design
input_on : (names : List Text) (rec : DeviceRec) (design : NetlistRec) (flat : Flat)
    (is : IsFlatOf rec names design flat) → AllDiffer names → (k : ℕ) (leaf : LeafCell)
    → slice_get is.leaves k ≡ Some leaf → (pin : ℕ) (text : Text)
    → slice_get names pin ≡ Some text → IsJoined rec names design leaf.path text
    → IsSome (get flat.pins (flat.ports + k, pin))
input_on names rec design flat is differ k leaf at pin text named joined =
    subst IsSome (sym (ap (λ p. get flat.pins (flat.ports + k, p))
    (differ pin on.0 text named on.1) ∙ on.2)) refl
  where
    net : (n : NetRef) × IsOfNet names rec design is.signals
        joined.at n
    net = is.all_nets joined.at joined.has_sink

    on : (p : ℕ) × (slice_get names p ≡ Some text)
        × (get flat.pins (flat.ports + k, p) ≡ Some net.0)
    on = is.all_pins (flat.ports + k) text net.0 (record {
      pin = LeafPin leaf.path joined.bit;
      is = (k, leaf, at, refl, refl, joined.written_is);
      at = joined.at;
      on = joined.on;
      of_net = net.1;
    })

-- what holds at all places holds of all
all_from : {A : Type 0} (P : A → Type 0) (xs : List A)
    → ((i : ℕ) (x : A) → slice_get xs i ≡ Some x → P x) → AllByRecursion P xs
all_from P [] at = tt
all_from P (x ∷ xs) at = (at 0 x refl, all_from P xs (λ i y is. at (suc i) y is))

pub at_place : {A : Type 0} (P : A → Type 0) (xs : List A) (i : ℕ) (x : A)
    → AllByRecursion P xs → slice_get xs i ≡ Some x → P x
at_place P [] i x all h = absurd (none-some x h)
at_place P (y ∷ ys) zero x all h = subst P (same_Some y x h) all.0
at_place P (y ∷ ys) (suc i) x all h = at_place P ys i x all.1 h

-- what holds of all holds of what is found
found_holds : {A : Type 0} (P : A → Type 0) (p : A → Bool) (xs : List A) (x : A)
    → AllByRecursion P xs → find p xs ≡ Some x → P x
found_holds P p [] x all h = absurd (none-some x h)
found_holds {A} P p (y ∷ ys) x all h = by (p y) h (λ k. found_holds P p ys x all.1 k)
  where
    by : (b : Bool) → cond b (Some y) (find p ys) ≡ Some x → (find p ys ≡ Some x → P x) → P x
    by true k rest = subst P (same_Some y x k) all.0
    by false k rest = rest k

-- the type of a leaf is a name
type_named : (names : List Text) (design : NetlistRec) → NetlistFits (length names) design
    → (inst : CellInstance) (ty : ℕ) → type_of design inst ≡ Some ty → ty < length names
type_named names design fits inst ty is = by (slice_get design.cell_decls inst.cell) refl is
  where
    by : (o : Option CellDeclaration) → slice_get design.cell_decls inst.cell ≡ o
        → option_map (λ (declared : CellDeclaration). declared.name) o ≡ Some ty
        → ty < length names
    by None e h = absurd (none-some ty h)
    by (Some declared) e h = subst (λ n. n < length names) (same_Some declared.name ty h)
        (at_place (DeclarationFits (length names) design) design.cell_decls inst.cell declared
        fits.declarations e).name

-- a port cell has no table
port_table : (names : List Text) (rec : DeviceRec) (design : NetlistRec) (flat : Flat)
    (is : IsFlatOf rec names design flat) → NoneBreaks (BreaksN6 names rec design) → (q : ℕ)
    (cell : FlatCell) → q < length (port_cells names design)
    → HasTexts names (port_cells names design ++ map (leaf_texts names design) is.leaves) q cell
    → HasItsTable flat q (lut_of_type rec cell.ty)
port_table names rec design flat is keeps q cell lt texts =
    by (lut_of_type rec cell.ty) refl
  where
    found : IsIn (cells_at names design) (ports_of design design.top_inst.cell) q texts.both
    found = found_in (cells_at names design) (ports_of design design.top_inst.cell) q texts.both
        (sym (get_left (port_cells names design) (map (leaf_texts names design) is.leaves) q lt)
        ∙ texts.at)

    port : IsPortCell names design texts.both found.place found.index
    port = port_cell names design q texts.both found

    by : (o : Option LutCell) → lut_of_type rec cell.ty ≡ o → HasItsTable flat q o
    by None e = is.no_port_tables q (omega (arith, lt, is.ports))
    by (Some lut) e = absurd (keeps (TopBit found.place found.index) (
      port.number,
      port.port,
      cell.ty,
      lut,
      port.ty,
      port.bit,
      port.type_is,
      texts.type_is ∙ ap (λ t. Some t.1) port.texts_are,
      e,
    ))

-- a leaf of a LUT type has its table, another has none
leaf_table : (names : List Text) (rec : DeviceRec) (design : NetlistRec) (flat : Flat)
    (is : IsFlatOf rec names design flat) → AllDiffer names → AreInputsNamed (length names) rec
    → NoneBreaks (BreaksN6 names rec design) → AreJoined names rec design → (k : ℕ)
    (leaf : LeafCell) → slice_get is.leaves k ≡ Some leaf
    → HasItsTable flat (flat.ports + k) (lut_of_type rec leaf.ty)
leaf_table names rec design flat is differ inputs keeps joined k leaf at =
    by (lut_of_type rec leaf.ty) refl
  where
    plain : IsPlainLeaf rec design leaf.path leaf.inst leaf.ty
    plain = is.are_leaves.each k leaf at

    told : get flat.tables (flat.ports + k) ≡ table_of_leaf rec names leaf
    told = is.tables k ∙ ap (option_and_then (table_of_leaf rec names)) at

    with_lut : (lut : LutCell) → lut_of_type rec leaf.ty ≡ Some lut → (o : Option TruthTable)
        → table_of names lut leaf.inst ≡ o → IsLut flat (flat.ports + k) lut
    with_lut lut e None none = absurd (keeps (InstanceAt leaf.path) (
      leaf.inst,
      leaf.ty,
      plain,
      (lut, e, none),
    ))
    with_lut lut e (Some table) some = let fits = table_fits names lut leaf.inst table some in
        record {
          table = table;
          has = told ∙ ap (option_and_then (λ l. table_of names l leaf.inst)) e ∙ some;
          inputs = fits.0;
          bits = fits.1;
          on_nets = all_from (λ pin. IsSome (get flat.pins (flat.ports + k, pin))) lut.input_pins
              (λ input pin pin_at.
              let inside : pin < length names = at_place (λ p. p < length names) lut.input_pins
              input pin (found_holds (λ (l : LutCell). AllByRecursion (λ p. p < length names)
              l.input_pins) (is_lut_cell leaf.ty) rec.lut_definitions.lut_cells lut inputs e)
              pin_at in
              let named = slice_get-get_or names pin [] inside in
              input_on names rec design flat is differ k leaf at pin (slice_index_or names pin [])
              named (joined leaf.path leaf.inst leaf.ty input pin (slice_index_or names pin [])
              plain (lut, e, pin_at) named));
        }

    by : (o : Option LutCell) → lut_of_type rec leaf.ty ≡ o
        → HasItsTable flat (flat.ports + k) o
    by None e = told ∙ ap (option_and_then (λ l. table_of names l leaf.inst)) e
    by (Some lut) e = with_lut lut e (table_of names lut leaf.inst) refl

pub has_its_table : (names : List Text) (rec : DeviceRec) (design : NetlistRec) (flat : Flat)
    (is : IsFlatOf rec names design flat) → AllDiffer names → NetlistFits (length names) design
    → AreInputsNamed (length names) rec → NoneBreaks (BreaksN6 names rec design)
    → AreJoined names rec design → (q : ℕ) (cell : FlatCell) → slice_get flat.cells q ≡ Some cell
    → HasItsTable flat q (lut_of_type rec cell.ty)
has_its_table names rec design flat is differ fits inputs keeps joined q cell at =
    by (cases_lt q (length (port_cells names design)))
  where
    texts : HasTexts names (port_cells names design ++ map (leaf_texts names design) is.leaves) q
        cell
    texts = texts_at names flat.cells
        (port_cells names design ++ map (leaf_texts names design) is.leaves) q cell is.cells at

    by : (q < length (port_cells names design)) ⊎ (length (port_cells names design) ≤ q)
        → HasItsTable flat q (lut_of_type rec cell.ty)
    by (inl lt) = port_table names rec design flat is keeps q cell lt texts
    by (inr le) =
        let l = leaf_at names design is.leaves (port_cells names design) q texts.both le texts.at in
        let k = q - length (port_cells names design) in
        let inside : l.0.ty < length names = type_named names design fits l.0.inst l.0.ty
        (is.are_leaves.each k l.0 l.1).leaf.type_is in
        let same : l.0.ty ≡ cell.ty = differ l.0.ty cell.ty texts.both.1
        (slice_get-get_or names l.0.ty [] inside ∙ ap (λ t. Some t.1) (sym l.2))
        texts.type_is in
        let here : flat.ports + k ≡ q = omega (arith, is.ports, le) in
        subst (λ n. HasItsTable flat n (lut_of_type rec cell.ty)) here
        (subst (λ t. HasItsTable flat (flat.ports + k) (lut_of_type rec t)) same
        (leaf_table names rec design flat is differ inputs keeps joined k l.0 l.1))

pub is_port_type : (names : List Text) (rec : DeviceRec) (design : NetlistRec) (flat : Flat)
    (is : IsFlatOf rec names design flat) → (q : ℕ) (cell : FlatCell) → q < flat.ports
    → slice_get flat.cells q ≡ Some cell → IsPortType names cell.ty
is_port_type names rec design flat is q cell lt at = by port.port.dir port.type_is
    (texts.type_is ∙ ap (λ t. Some t.1) port.texts_are)
  where
    inside : q < length (port_cells names design)
    inside = omega (arith, lt, is.ports)

    texts : HasTexts names (port_cells names design ++ map (leaf_texts names design) is.leaves) q
        cell
    texts = texts_at names flat.cells
        (port_cells names design ++ map (leaf_texts names design) is.leaves) q cell is.cells at

    found : IsIn (cells_at names design) (ports_of design design.top_inst.cell) q texts.both
    found = found_in (cells_at names design) (ports_of design design.top_inst.cell) q texts.both
        (sym (get_left (port_cells names design) (map (leaf_texts names design) is.leaves) q inside)
        ∙ texts.at)

    port : IsPortCell names design texts.both found.place found.index
    port = port_cell names design q texts.both found

    by : (dir : Direction) → port_type dir ≡ Some port.ty
        → slice_get names cell.ty ≡ Some port.ty → IsPortType names cell.ty
    by Input e named = inl (named ∙ sym e)
    by Output e named = inr (named ∙ sym e)
    by Inout e named = absurd (none-some port.ty e)
