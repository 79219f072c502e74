-- The pins of cells as the list of pins tells them, and as the flat design does.
use Rattle.std.proofs.Common.{◌≡◌, ◌<◌, ◌+◌, ap, refl, sym, subst, ◌∙◌, ℕ, zero, suc, List, [], ◌∷◌}
use Rattle.std.proofs.Common.{slice_get, Option, Some, None, arith, take, length, inl, inr, Bool, true}
use Rattle.std.proofs.Common.{false, is_some, codes, cond}
use Rattle.std.specs.List.{count_by}
use Rattle.std.proofs.lemmas.Bool.{false≢true}
use Rattle.std.proofs.lemmas.List.Sums.{sum_by-cons}
use Rattle.std.proofs.lemmas.Option.{same_Some, slice_get_within}
use Rattle.ix_message.specs.Shape.{Text}
use Rattle.ix_rec.specs.declared.device.Direction.{Direction}
use Rattle.ix_rec.specs.declared.device.Direction.TheVariants.{Input, Output, Inout}
use Rattle.ix_rec.specs.declared.netlist.NetlistRec.{NetlistRec}
use Rattle.ix_hierarchy.specs.Nets.{Occurrence}
use Rattle.ix_hierarchy.specs.Pins.{Pin, LeafPin, TopPin, IsDriver, IsOnNet}
use Rattle.ix_hierarchy.specs.Broken.{BreaksN4, NoneBreaks}
use Rattle.ix_hierarchy.specs.FlatDesign.{AreLeafCells, AreSignals, IsFlatPin, IsSignal, LeafCell}
use Rattle.ix_hierarchy.specs.FlatDesign.{cells_before, port_pin, port_type}
use Rattle.ix_joined.specs.declared.top_bit.TopBit.{TopBit}
use Rattle.ix_joined.specs.Joining.{ArePlaces, Known, TopPlace, top_places}
use Rattle.ix_flat_lists.specs.declared.port_names.PortNames.{PortNames}
use Rattle.ix_flat_lists.specs.Listed.{type_towards}
use Rattle.ix_flat_laws.specs.Laws.{AreApart}
use Rattle.ix_flat_pins.specs.Items.{AreItems, IsFlat, IsNamed, Parts}
use Rattle.ix_flat_pins.specs.Items.{is_typed}
use Rattle.ix_pin_laws.specs.Laws.{ArePortCellsCounted, has_type}
use Rattle.ix_wiring.specs.declared.flat_pin.FlatPin.{FlatPin}

-- what is known of a design whose pins are listed
pub record AreListed (known : Known) (design : NetlistRec) (types : PortNames)
    (bits : List TopBit) (parts : Parts) (ports : ℕ) (items : List FlatPin) : Type 0 where
  pub places : ArePlaces design (top_places design)
  pub many : length bits ≡ length (top_places design)
  pub directions : (k : ℕ) (at : TopPlace) (bit : TopBit)
      → slice_get (top_places design) k ≡ Some at → slice_get bits k ≡ Some bit
      → bit.dir ≡ at.dir
  pub counted : ArePortCellsCounted known.names design
  pub leaves : AreLeafCells known.device design parts.cells
  pub signals : AreSignals known.names known.device design parts.nets
  pub pins : AreItems known design parts
      (IsFlat design types bits parts.cells ports (length parts.cells)) items
  pub apart : AreApart known.names design ports parts.cells
  pub driven : NoneBreaks (BreaksN4 known.names known.device design)

abbrev pub Flat : NetlistRec → PortNames → List TopBit → Parts → (ports : ℕ) → Pin → ℕ → Type 0
Flat design types bits parts ports pin cell =
    IsFlat design types bits parts.cells ports (length parts.cells) pin cell

abbrev pub FlatNamed : Known → NetlistRec → Parts → (ports : ℕ) → Pin → ℕ → Text → Type 0
FlatNamed known design parts ports pin cell text =
    IsFlatPin known.names design ports parts.cells pin cell text

directions_alike : (types : PortNames) (dir : Direction)
    → is_some (type_towards types dir) ≡ is_some (port_type dir)
directions_alike types Input = refl
directions_alike types Output = refl
directions_alike types Inout = refl

abbrev one_if : Bool → ℕ
one_if true = 1
one_if false = 0

count_cons : {A : Type 0} (p : A → Bool) (x : A) (xs : List A)
    → count_by p (x ∷ xs) ≡ one_if (p x) + count_by p xs
count_cons {A} p x xs = sum_by-cons (λ y. cond (p y) 1 0) x xs ∙ by (p x)
  where
    by : (b : Bool) → cond b 1 0 + count_by p xs ≡ one_if b + count_by p xs
    by true = refl
    by false = refl

-- two tests that pass at the same places
count_alike : {A B : Type 0} (p : A → Bool) (q : B → Bool) (xs : List A) (ys : List B) (k : ℕ)
    → length xs ≡ length ys
    → ((i : ℕ) (x : A) (y : B) → slice_get xs i ≡ Some x → slice_get ys i ≡ Some y → p x ≡ q y)
    → count_by p (take k xs) ≡ count_by q (take k ys)
count_alike p q xs ys zero e h = refl
count_alike p q [] [] (suc k) e h = refl
count_alike p q [] (y ∷ ys) (suc k) e h = absurd (omega (arith, e))
count_alike p q (x ∷ xs) [] (suc k) e h = absurd (omega (arith, e))
count_alike p q (x ∷ xs) (y ∷ ys) (suc k) e h =
    let many : length xs ≡ length ys = let f : suc (length xs) ≡ suc (length ys) = e in omega arith in
    count_cons p x (take k xs)
    ∙ ap (λ b. one_if b + count_by p (take k xs)) (h 0 x y refl refl)
    ∙ ap (λ n. one_if (q y) + n)
    (count_alike p q xs ys k many (λ i a b at there. h (suc i) a b at there))
    ∙ sym (count_cons q y (take k ys))

get_within : {X : Type 0} (xs : List X) (i : ℕ) → i < length xs
    → (x : X) × (slice_get xs i ≡ Some x)
get_within [] i lt = absurd (omega arith)
get_within (x ∷ xs) zero lt = (x, refl)
get_within (x ∷ xs) (suc i) lt = get_within xs i (omega arith)

some_there : {X : Type 0} (o : Option X) → is_some o ≡ true → (x : X) × (o ≡ Some x)
some_there None h = absurd (false≢true h)
some_there (Some x) h = (x, refl)

-- the number of bits with a type before one
before_alike : (known : Known) (design : NetlistRec) (types : PortNames) (bits : List TopBit)
    (parts : Parts) (ports : ℕ) (items : List FlatPin)
    → AreListed known design types bits parts ports items → (k : ℕ)
    → count_by (is_typed types) (take k bits) ≡ count_by has_type (take k (top_places design))
before_alike known design types bits parts ports items are k =
    count_alike (is_typed types) has_type bits (top_places design) k are.many
    (λ i bit at x y. directions_alike types bit.dir
    ∙ ap (λ d. is_some (port_type d)) (are.directions i at bit y x))

-- A pin of the list is one of the flat design.
pub is_flat_pin : (known : Known) (design : NetlistRec) (types : PortNames) (bits : List TopBit)
    (parts : Parts) (ports : ℕ) (items : List FlatPin)
    → AreListed known design types bits parts ports items → (pin : Pin) (cell : ℕ) (text : Text)
    → Flat design types bits parts ports pin cell → IsNamed known design pin text
    → FlatNamed known design parts ports pin cell text
is_flat_pin known design types bits parts ports items are pin cell text (inl p) named =
    let port = are.places.each p.k p.place p.place_is in
    let typed : is_some (port_type p.place.dir) ≡ true =
    sym (directions_alike types p.bit.dir
    ∙ ap (λ d. is_some (port_type d)) (are.directions p.k p.place p.bit p.place_is p.bit_is))
    ∙ p.typed in
    let ty = some_there (port_type p.place.dir) typed in
    let cell_is : cell ≡ cells_before design p.place.place + p.place.index =
    p.cell_is ∙ before_alike known design types bits parts ports items are p.k
    ∙ are.counted.before p.k p.place p.place_is typed in
    let text_is : text ≡ port_pin = subst (λ q. IsNamed known design q text) p.pin_is named in
    subst (λ q. FlatNamed known design parts ports q cell text) (sym p.pin_is)
    (p.place.number, port.0, ty.0, port.1, ap port_type port.2 ∙ ty.1, cell_is, text_is)
is_flat_pin known design types bits parts ports items are pin cell text (inr p) named =
    let written = subst (λ q. IsNamed known design q text) p.its.pin_is named in
    subst (λ q. FlatNamed known design parts ports q cell text) (sym p.its.pin_is)
    (p.k, p.leaf, p.leaf_is, refl, p.its.cell_is, written)

-- And the other way round.
pub flat_is : (known : Known) (design : NetlistRec) (types : PortNames) (bits : List TopBit)
    (parts : Parts) (ports : ℕ) (items : List FlatPin)
    → AreListed known design types bits parts ports items → (pin : Pin) (cell : ℕ) (text : Text)
    → FlatNamed known design parts ports pin cell text
    → Flat design types bits parts ports pin cell
flat_is known design types bits parts ports items are (TopPin place index) cell text is =
    let number = is.0 in
    let port = is.1 in
    let at : TopPlace =
    record { place = place; index = index; number = number; dir = port.dir } in
    let there = are.places.all place index number port is.3 in
    let low : there.0 < length (top_places design) =
    slice_get_within (top_places design) there.0 at there.1 in
    let many : length bits ≡ length (top_places design) = are.many in
    let bit = get_within bits there.0 (omega arith) in
    let typed : has_type at ≡ true = ap is_some is.4 in
    inl record {
      k = there.0;
      low = omega arith;
      bit = bit.0;
      bit_is = bit.1;
      typed = directions_alike types bit.0.dir
          ∙ ap (λ d. is_some (port_type d)) (are.directions there.0 at bit.0 there.1 bit.1)
          ∙ typed;
      place = at;
      place_is = there.1;
      pin_is = refl;
      cell_is = is.5 ∙ sym (before_alike known design types bits parts ports items are there.0
          ∙ are.counted.before there.0 at there.1 typed);
    }
flat_is known design types bits parts ports items are (LeafPin path bit) cell text is =
    inr record {
      k = is.0;
      leaf = is.1;
      low = slice_get_within parts.cells is.0 is.1 is.2;
      leaf_is = is.2;
      its = record {
        bit = bit;
        pin_is = ap (λ p. LeafPin p bit) (sym is.3);
        cell_is = is.4;
      };
    }

pub named_of : (known : Known) (design : NetlistRec) (parts : Parts) (ports : ℕ) (pin : Pin)
    (cell : ℕ) (text : Text) → FlatNamed known design parts ports pin cell text
    → IsNamed known design pin text
named_of known design parts ports (TopPin place index) cell text is = is.6
named_of known design parts ports (LeafPin path bit) cell text is = is.5

pub one_text : (known : Known) (design : NetlistRec) (pin : Pin) (a b : Text)
    → IsNamed known design pin a → IsNamed known design pin b → a ≡ b
one_text known design (TopPin place index) a b x y = x ∙ sym y
one_text known design (LeafPin path bit) a b x y = same_Some a b (sym x ∙ y)

-- a pin that drives a signal net is one of a cell
pub has_cell : (known : Known) (design : NetlistRec) (types : PortNames) (bits : List TopBit)
    (parts : Parts) (ports : ℕ) (items : List FlatPin)
    → AreListed known design types bits parts ports items → (pin : Pin) (at : Occurrence)
    → IsSignal known.names known.device design at
    → IsDriver known.names known.device design pin → IsOnNet design pin at
    → (cell : ℕ) × Flat design types bits parts ports pin cell
has_cell known design types bits parts ports items are (TopPin place index) at signal drives on =
    let cell = cells_before design place + index in (
      cell,
      flat_is known design types bits parts ports items are (TopPin place index) cell port_pin (
        drives.number,
        drives.port,
        codes "$PORT_IN",
        drives.bit,
        ap port_type drives.towards,
        refl,
        refl,
      ),
    )
has_cell known design types bits parts ports items are (LeafPin path bit) at signal (inl plain) on =
    let there = are.leaves.all path plain.inst plain.ty plain.leaf in
    let leaf : LeafCell = record { path = path; inst = plain.inst; ty = plain.ty } in (
      ports + there.0,
      inr record {
        k = there.0;
        leaf = leaf;
        low = slice_get_within parts.cells there.0 leaf there.1;
        leaf_is = there.1;
        its = record { bit = bit; pin_is = refl; cell_is = refl };
      },
    )
has_cell known design types bits parts ports items are (LeafPin path bit) at signal (inr own) on =
    absurd (signal.no_constant own.0 record { path = path; bit = bit; drives = own.1; on = on })
