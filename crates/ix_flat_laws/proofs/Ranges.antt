-- The numbers of a flat design are in range.
use Rattle.std.proofs.Common.{◌≡◌, ◌⊎◌, ◌<◌, ◌≤◌, ◌+◌, ◌-◌, ◌∙◌, ap, sym, subst, refl, ℕ, List}
use Rattle.std.proofs.Common.{[], ◌∷◌}
use Rattle.std.proofs.Common.{◌++◌, length, map, take, slice_get, Option, Some, None}
use Rattle.std.proofs.Common.{option_and_then, inl, inr, arith}
use Rattle.std.specs.FinMap.{get}
use Rattle.std.specs.Prelude.{is_some, if◌then◌else◌}
use Rattle.std.specs.List.{flat_map, range_with_len, sum_by}
use Rattle.std.proofs.lemmas.Bool.{cases_lt}
use Rattle.std.proofs.lemmas.List.{length-map, length-append}
use Rattle.std.proofs.lemmas.List.FromFn.{length-range_with_len}
use Rattle.std.proofs.lemmas.List.Sums.{sum_by-cons}
use Rattle.std.proofs.lemmas.Option.{none-some, slice_get_within}
use Rattle.ix_num.specs.declared.resource.NetRef.{NetRef}
use Rattle.ix_num.specs.declared.resource.NetRef.TheVariants.{Gnd, Vcc, Signal}
use Rattle.ix_message.specs.Shape.{Text}
use Rattle.ix_rec.specs.Maps.{pin_order, pin_order_total}
use Rattle.ix_rec.specs.declared.device.DeviceRec.{DeviceRec}
use Rattle.ix_rec.specs.declared.flow.Flat.{Flat}
use Rattle.ix_rec.specs.declared.flow.FlatNet.{FlatNet}
use Rattle.ix_rec.specs.declared.flow.TruthTable.{TruthTable}
use Rattle.ix_rec.specs.declared.netlist.NetlistRec.{NetlistRec}
use Rattle.ix_rec.specs.declared.netlist.Port.{Port}
use Rattle.ix_flat.specs.Range.{IsCellOf, IsDriverNamed, IsDriverOf as IsDriverIn, IsInRange}
use Rattle.ix_flat.specs.Range.{IsNamed, IsNetOf, NumbersFit}
use Rattle.ix_hierarchy.specs.Hierarchy.{PortNumber, ports_of, width}
use Rattle.ix_hierarchy.specs.Nets.{Occurrence}
use Rattle.ix_hierarchy.specs.Pins.{LeafPin, Pin, TopPin}
use Rattle.ix_hierarchy.specs.FlatDesign.{IsFlatOf, IsFlatPin, IsOfNet, LeafCell}
use Rattle.ix_hierarchy.specs.FlatDesign.{cell_texts, cells_of_port, leaf_texts}
use Rattle.ix_hierarchy.specs.FlatDesign.{port_cells, port_cells_of, port_type, table_of_leaf}
use Rattle.ix_flat_laws.proofs.Cells.{cells_at, texts_at, typed}
use Rattle.ix_flat_laws.proofs.FlatMaps.{sum_more}
use Rattle.ix_flat_laws.proofs.Maps.{every_entry}
use Rattle.ix_flat_laws.proofs.Nets.{item_at}

length_flat : {A B : Type 0} (f : A → List B) (xs : List A)
    → length (flat_map f xs) ≡ sum_by (λ x. length (f x)) xs
length_flat f [] = refl
length_flat f (x ∷ xs) = length-append (f x) (flat_map f xs)
    ∙ ap (λ n. length (f x) + n) (length_flat f xs) ∙ sym (sum_by-cons (λ y. length (f y)) x xs)

same_sum : {A : Type 0} (f g : A → ℕ) (xs : List A) → ((x : A) → f x ≡ g x)
    → sum_by f xs ≡ sum_by g xs
same_sum f g [] same = refl
same_sum f g (x ∷ xs) same = sum_by-cons f x xs ∙ ap (λ n. n + sum_by f xs) (same x)
    ∙ ap (λ n. g x + n) (same_sum f g xs same) ∙ sym (sum_by-cons g x xs)

-- how many cells a port has
typed_many : (names : List Text) (port : Port) (o : Option Text)
    → length (typed names port o) ≡ (if is_some o then width port else 0)
typed_many names port None = refl
typed_many names port (Some ty) = length-map (range_with_len 0 (width port)) _
    ∙ length-range_with_len 0 (width port)

many_cells : (names : List Text) (design : NetlistRec) (number : PortNumber)
    → length (cells_at names design number) ≡ cells_of_port (slice_get design.port_list number)
many_cells names design number = by (slice_get design.port_list number)
  where
    of : Option Port → List (Text × Text)
    of None = []
    of (Some port) = port_cells_of names port

    by : (o : Option Port) → length (of o) ≡ cells_of_port o
    by None = refl
    by (Some port) = typed_many names port (port_type port.dir)

total_cells : (names : List Text) (design : NetlistRec) → length (port_cells names design)
    ≡ sum_by (λ number. cells_of_port (slice_get design.port_list number))
    (ports_of design design.top_inst.cell)
total_cells names design =
    length_flat (cells_at names design) (ports_of design design.top_inst.cell)
    ∙ same_sum (λ number. length (cells_at names design number))
    (λ number. cells_of_port (slice_get design.port_list number))
    (ports_of design design.top_inst.cell) (many_cells names design)

take_whole : {A : Type 0} (xs : List A) → take (length xs) xs ≡ xs
take_whole [] = refl
take_whole (x ∷ xs) = ap (λ ys. x ∷ ys) (take_whole xs)

module _ (names : List Text) (rec : DeviceRec) (design : NetlistRec) (flat : Flat)
    (is : IsFlatOf rec names design flat) where
  many : length flat.cells ≡ flat.ports + length is.leaves
  many = let n = length-map flat.cells (cell_texts names) in
      let m = length-map (port_cells names design ++ map (leaf_texts names design) is.leaves)
      (λ t. Some t) in
      let l = length-append (port_cells names design) (map (leaf_texts names design) is.leaves) in
      let k = length-map is.leaves (leaf_texts names design) in
      let c = ap length is.cells in
      omega (arith, n, m, l, k, c, is.ports)

  -- a pin's cell is there
  cell_inside : (pin : Pin) (cell : ℕ) (text : Text)
      → IsFlatPin names design flat.ports is.leaves pin cell text → IsCellOf flat cell
  cell_inside (LeafPin path bit) cell text p =
      omega (arith, many, p.4, slice_get_within is.leaves p.0 p.1 p.2)
  cell_inside (TopPin place index) cell text p =
      let ports = ports_of design design.top_inst.cell in
      let cells = λ (number : PortNumber). cells_of_port (slice_get design.port_list number) in
      let before : sum_by cells (take place ports) + cells p.0
      ≤ sum_by cells (take (length ports) ports)
      = sum_more cells ports place (length ports) p.0
      (slice_get_within ports place p.0 p.3.which) p.3.which in
      let own : cells p.0 ≡ width p.1 = ap cells_of_port p.3.port_is
      ∙ ap (λ o. if is_some o then width p.1 else 0) p.4 in
      let whole : sum_by cells (take (length ports) ports) ≡ sum_by cells ports =
      ap (sum_by cells) (take_whole ports) in
      let total : length (port_cells names design) ≡ sum_by cells ports
      = total_cells names design in
      let here : cell ≡ sum_by cells (take place ports) + index = p.5 in
      omega (arith, before, own, whole, total, here, p.3.within, many, is.ports)

  net_inside : (net : NetRef) (at : Occurrence) → IsOfNet names rec design is.signals at net
      → IsNetOf flat net
  net_inside Gnd at of = tt
  net_inside Vcc at of = tt
  net_inside (Signal n) at of =
      omega (arith, is.nets_count, slice_get_within is.signals n of.0 of.1)

  driver_inside : (n : ℕ) (net : FlatNet) → slice_get flat.nets n ≡ Some net
      → IsDriverIn flat net.driver
  driver_inside n net at =
      let s = item_at flat.nets is.signals n net (sym is.nets_count) at in
      let d = is.drivers n net s.0 at s.1 in
      subst (IsDriverIn flat) (sym d.1) (cell_inside d.2.pin d.0.cell d.2.text d.2.is)

  table_inside : (cell : ℕ) (table : TruthTable) → get flat.tables cell ≡ Some table
      → IsCellOf flat cell
  table_inside cell table has = by (cases_lt cell flat.ports)
    where
      leaf : (k : ℕ) (o : Option LeafCell) → slice_get is.leaves k ≡ o
          → option_and_then (table_of_leaf rec names) o ≡ Some table → k < length is.leaves
      leaf k None e h = absurd (none-some table h)
      leaf k (Some l) e h = slice_get_within is.leaves k l e

      by : (cell < flat.ports) ⊎ (flat.ports ≤ cell) → IsCellOf flat cell
      by (inl lt) = omega (arith, lt, many)
      by (inr le) =
          let here : cell ≡ flat.ports + (cell - flat.ports) = omega (arith, le) in
          let k = leaf (cell - flat.ports) (slice_get is.leaves (cell - flat.ports)) refl
          (sym (is.tables (cell - flat.ports)) ∙ ap (get flat.tables) (sym here) ∙ has) in
          omega (arith, le, k, many)

  numbers_fit : NumbersFit flat
  numbers_fit = record {
    ports = omega (arith, many);
    drivers = driver_inside;
    pins = every_entry pin_order pin_order_total
        (λ entry. IsCellOf flat entry.0.0 × IsNetOf flat entry.1) flat.pins
        (λ key net has. let p = is.pins key.0 key.1 net has in (
          cell_inside p.2.pin key.0 p.0 p.2.is,
          net_inside net p.2.at p.2.of_net,
        ));
    tables = table_inside;
    fixed = λ cell site has. absurd (none-some site (sym (is.none_fixed cell) ∙ has));
  }

  pub in_range : IsInRange rec flat
  in_range = record {
    numbers = numbers_fit;
    sites = λ cell site has. absurd (none-some site (sym (is.none_fixed cell) ∙ has));
  }

  pub all_named : IsNamed (length names) flat
  all_named = record {
    cells = λ q cell at. let t = texts_at names flat.cells
        (port_cells names design ++ map (leaf_texts names design) is.leaves) q cell is.cells at in
        slice_get_within names cell.name t.both.0 t.name;
    types = λ q cell at. let t = texts_at names flat.cells
        (port_cells names design ++ map (leaf_texts names design) is.leaves) q cell is.cells at in
        slice_get_within names cell.ty t.both.1 t.type_is;
    nets = λ n net at. let s = item_at flat.nets is.signals n net (sym is.nets_count) at in
        let t = is.net_names n net s.0 at s.1 in slice_get_within names net.name t.0 t.1;
    pins = every_entry pin_order pin_order_total (λ entry. entry.0.1 < length names) flat.pins
        (λ key net has. let p = is.pins key.0 key.1 net has in
        slice_get_within names key.1 p.0 p.1);
    drivers = λ n net at. let s = item_at flat.nets is.signals n net (sym is.nets_count) at in
        let d = is.drivers n net s.0 at s.1 in
        subst (IsDriverNamed (length names)) (sym d.1)
        (slice_get_within names d.0.pin d.2.text d.2.named);
  }
