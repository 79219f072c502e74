-- Two pins that are on nets and have one cell and one written name are one pin.
use Rattle.std.proofs.Common.{◌≡◌, ◌≢◌, ◌⊎◌, ◌<◌, ◌≤◌, ◌+◌, ap, refl, sym, subst, ◌∙◌, ℕ, zero, suc}
use Rattle.std.proofs.Common.{List, slice_get, Some, arith, true, false, Bool}
use Rattle.std.proofs.Common.{◌&&◌, inl, inr, length, take}
use Rattle.std.specs.Prelude.{nat_eq}
use Rattle.std.specs.List.{sum_by}
use Rattle.std.proofs.lemmas.Bool.{cases_lt, eqb-true, eq-eqb, false≢true}
use Rattle.std.proofs.lemmas.List.{take_all}
use Rattle.std.proofs.lemmas.Option.{same_Some}
use Rattle.ix_message.specs.Shape.{Text}
use Rattle.ix_rec.specs.declared.device.DeviceRec.{DeviceRec}
use Rattle.ix_rec.specs.declared.netlist.Cell.{Cell}
use Rattle.ix_rec.specs.declared.netlist.Net.{Net}
use Rattle.ix_rec.specs.declared.netlist.NetlistRec.{NetlistRec}
use Rattle.ix_rec.specs.declared.netlist.Port.{Port}
use Rattle.ix_rec.specs.declared.netlist.PortInstance.{PortInstance}
use Rattle.ix_rec.specs.declared.netlist.PortOwner.{PortOwner}
use Rattle.ix_rec.specs.declared.netlist.PortOwner.TheVariants.{ExtPort, Inst}
use Rattle.ix_hierarchy.specs.Hierarchy.{Path, PortBit, PortNumber, inside_at, ports_of, width}
use Rattle.ix_hierarchy.specs.Hierarchy.{written_bit}
use Rattle.ix_hierarchy.specs.Walk.{NetAt}
use Rattle.ix_hierarchy.specs.Nets.{Occurrence, bit_of, is_of, same_bit, names_of}
use Rattle.ix_hierarchy.specs.Pins.{LeafPin, TopPin, IsLeafPinOn, IsTopBit}
use Rattle.ix_hierarchy.specs.Broken.{IsInstanceOf, IsWrittenTwice, Keeps2, Names, same_owner}
use Rattle.ix_hierarchy.specs.FlatDesign.{AreLeafCells, IsFlatPin, LeafCell, cells_before}
use Rattle.ix_hierarchy.specs.FlatDesign.{cells_of_port, port_cells, port_type}
use Rattle.ix_flat_laws.specs.Laws.{AreApart}
use Rattle.ix_pin_laws.proofs.Items.{any_there, both_true, same_last, sum_before}
use Rattle.ix_pin_laws.proofs.Counting.{cells_in, cells_sum}

bits_same : (a b : PortBit) → same_bit a b ≡ true → (a.port ≡ b.port) × (a.index ≡ b.index)
bits_same a b h =
    let both = both_true (nat_eq a.port b.port) (nat_eq a.index b.index) h in
    (eqb-true a.port b.port both.0, eqb-true a.index b.index both.1)

one_bit : (a b : PortBit) → a.port ≡ b.port → a.index ≡ b.index → a ≡ b
one_bit a b p n = ap (λ q. record { port = q; index = a.index }) p
    ∙ ap (λ m. record { port = b.port; index = m }) n

same_bit_is : (a b : PortBit) → same_bit a b ≡ true → a ≡ b
same_bit_is a b h = let both = bits_same a b h in one_bit a b both.0 both.1

is_same_bit : (a b : PortBit) → a ≡ b → same_bit a b ≡ true
is_same_bit a b h = ap (λ t. t && nat_eq a.index b.index) (eq-eqb a.port b.port
    (ap (λ (x : PortBit). x.port) h)) ∙ eq-eqb a.index b.index (ap (λ (x : PortBit). x.index) h)

owners : (number : ℕ) (a b : PortOwner) → is_of number a ≡ true → is_of number b ≡ true
    → same_owner a b
owners number ExtPort b x y = absurd (false≢true x)
owners number (Inst a) ExtPort x y = absurd (false≢true y)
owners number (Inst a) (Inst b) x y = eqb-true a number x ∙ sym (eqb-true b number y)

owner_of : (number : ℕ) (a b : PortOwner) → same_owner a b → is_of number b ≡ true
    → is_of number a ≡ true
owner_of number ExtPort ExtPort same h = h
owner_of number ExtPort (Inst b) same h = absurd same
owner_of number (Inst a) ExtPort same h = absurd same
owner_of number (Inst a) (Inst b) same h = ap (λ n. nat_eq n number) same ∙ h

of_instance : (number : ℕ) (o : PortOwner) → is_of number o ≡ true → IsInstanceOf o
of_instance number ExtPort h = absurd (false≢true h)
of_instance number (Inst a) h = tt

-- A net of the cell names this bit of an instance in it, at this place.
record IsAt (cell : Cell) (instance : ℕ) (bit : PortBit) (net place : ℕ) : Type 0 where
  named : PortInstance
  here : Names cell net place named
  by : is_of instance named.owner ≡ true
  same : bit_of named ≡ bit

at_net : (cell : Cell) (instance : ℕ) (bit : PortBit) (net : ℕ) (of_net : Net)
    → slice_get cell.nets net ≡ Some of_net → names_of instance of_net bit ≡ true
    → (place : ℕ) × IsAt cell instance bit net place
at_net cell instance bit net of_net is named =
    let x = any_there (λ (n : PortInstance). is_of instance n.owner && same_bit (bit_of n) bit)
    of_net.port_insts named in
    let both = both_true (is_of instance x.1.owner) (same_bit (bit_of x.1) bit) x.3 in (
      x.0,
      record {
        named = x.1;
        here = record { of_net = of_net; net_is = is; named_is = x.2 };
        by = both.0;
        same = same_bit_is (bit_of x.1) bit both.1;
      },
    )

abbrev IsEarlier : (m i n j : ℕ) → Type 0
IsEarlier m i n j = (m < n) ⊎ ((m ≡ n) × (i < j))

-- two bits with one written name, in a cell that has no two
record AreTwo (names : List Text) (design : NetlistRec) (cell : Cell) (a b : PortBit) : Type 0
  where
    apart : a ≢ b
    text : Text
    text_is : written_bit names design a ≡ Some text
    other_text_is : written_bit names design b ≡ Some text
    none : (net : ℕ) → IsWrittenTwice names design cell net → ⊥

turned : (names : List Text) (design : NetlistRec) (cell : Cell) (a b : PortBit)
    → AreTwo names design cell a b → AreTwo names design cell b a
turned names design cell a b two = record {
  apart = λ e. two.apart (sym e);
  text = two.text;
  text_is = two.other_text_is;
  other_text_is = two.text_is;
  none = two.none;
}

-- the later of both is no first place of its bit
later : (names : List Text) (design : NetlistRec) (cell : Cell) (instance : ℕ) (a b : PortBit)
    (m i n j : ℕ) → AreTwo names design cell a b → IsAt cell instance a m i
    → (at : IsAt cell instance b n j) → IsEarlier m i n j
    → ((k l : ℕ) → IsEarlier k l n j → IsAt cell instance b k l → ⊥) → ⊥
later names design cell instance a b m i n j two x at less again = two.none n record {
  place = j;
  named = at.named;
  here = at.here;
  of_instance = of_instance instance at.named.owner at.by;
  met = λ k l other before there owner same. again k l before record {
    named = other;
    here = there;
    by = owner_of instance other.owner at.named.owner owner at.by;
    same = same_bit_is (bit_of other) (bit_of at.named) same ∙ at.same;
  };
  earlier = m;
  other_place = i;
  other = x.named;
  there = x.here;
  before = less;
  owner = owners instance x.named.owner at.named.owner x.by at.by;
  apart = λ h. two.apart (sym x.same ∙ same_bit_is (bit_of x.named) (bit_of at.named) h ∙ at.same);
  text = two.text;
  text_is = ap (written_bit names design) at.same ∙ two.other_text_is;
  other_text_is = ap (written_bit names design) x.same ∙ two.text_is;
}

-- one place names one bit
not_one : (names : List Text) (design : NetlistRec) (cell : Cell) (instance : ℕ) (a b : PortBit)
    (m i n j : ℕ) → AreTwo names design cell a b → IsAt cell instance a m i
    → IsAt cell instance b n j → m ≡ n → i ≡ j → ⊥
not_one names design cell instance a b m i n j two x y nets places =
    let net : x.here.of_net ≡ y.here.of_net = same_Some x.here.of_net y.here.of_net
    (sym x.here.net_is ∙ ap (slice_get cell.nets) nets ∙ y.here.net_is) in
    let named : x.named ≡ y.named = same_Some x.named y.named (sym x.here.named_is
    ∙ ap (λ (t : Net). slice_get t.port_insts i) net
    ∙ ap (slice_get y.here.of_net.port_insts) places ∙ y.here.named_is) in
    two.apart (sym x.same ∙ ap bit_of named ∙ y.same)

order : (m i n j : ℕ) → IsEarlier m i n j ⊎ (IsEarlier n j m i ⊎ ((m ≡ n) × (i ≡ j)))
order m i n j = elim (cases_lt m n) [
  | inl less ↦ inl (inl less)
  | inr more ↦ elim (cases_lt n m) [
    | inl less ↦ inr (inl (inl less))
    | inr le ↦
        let same : m ≡ n = omega arith in
        elim (cases_lt i j) [
          | inl less ↦ inl (inr (same, less))
          | inr past ↦ elim (cases_lt j i) [
            | inl less ↦ inr (inl (inr (sym same, less)))
            | inr low ↦ let place : i ≡ j = omega arith in inr (inr (same, place))
          ]
        ]
  ]
]

-- no two places, where nets are earlier ones or places in them are
abbrev Never : Cell → (instance : ℕ) → (a b : PortBit) → (m i n j : ℕ) → Type 0
Never cell instance a b m i n j =
    IsAt cell instance a m i → IsAt cell instance b n j → ⊥

step : (names : List Text) (design : NetlistRec) (cell : Cell) (instance : ℕ) (a b : PortBit)
    → AreTwo names design cell a b → (m i n j : ℕ)
    → ((k l p q : ℕ) → k + p < m + n → Never cell instance a b k l p q)
    → ((k l p q : ℕ) → k + p ≡ m + n → l + q < i + j → Never cell instance a b k l p q)
    → Never cell instance a b m i n j
step names design cell instance a b two m i n j nets places x y = elim (order m i n j) [
  | inl less ↦ later names design cell instance a b m i n j two x y less
      (λ k l before at. elim before [
        | inl low ↦ nets m i k l (omega arith) x at
        | inr both ↦
            let e : k ≡ n = both.0 in
            let lt : l < j = both.1 in places m i k l (omega arith) (omega arith) x at
      ])
  | inr others ↦ elim others [
    | inl less ↦ later names design cell instance b a n j m i
        (turned names design cell a b two) y x less
        (λ k l before at. elim before [
          | inl low ↦ nets k l n j (omega arith) at y
          | inr both ↦
              let e : k ≡ m = both.0 in
              let lt : l < i = both.1 in places k l n j (omega arith) (omega arith) at y
        ])
    | inr same ↦ not_one names design cell instance a b m i n j two x y same.0 same.1
  ]
]

never_places : (names : List Text) (design : NetlistRec) (cell : Cell) (instance : ℕ)
    (a b : PortBit) → AreTwo names design cell a b → (f : ℕ)
    → ((k l p q : ℕ) → k + p < f → Never cell instance a b k l p q) → (g : ℕ) → (m i n j : ℕ)
    → m + n ≡ f → i + j < g → Never cell instance a b m i n j
never_places names design cell instance a b two f nets zero m i n j e lt =
    absurd (omega arith)
never_places names design cell instance a b two f nets (suc g) m i n j e lt =
    step names design cell instance a b two m i n j
    (λ k l p q less. nets k l p q (omega arith))
    (λ k l p q same less.
    never_places names design cell instance a b two f nets g k l p q (omega arith) (omega arith))

never_nets : (names : List Text) (design : NetlistRec) (cell : Cell) (instance : ℕ)
    (a b : PortBit) → AreTwo names design cell a b → (f : ℕ) → (m i n j : ℕ) → m + n < f
    → Never cell instance a b m i n j
never_nets names design cell instance a b two zero m i n j lt = absurd (omega arith)
never_nets names design cell instance a b two (suc f) m i n j lt =
    let nets : (k l p q : ℕ) → k + p < f → Never cell instance a b k l p q =
    never_nets names design cell instance a b two f in
    never_places names design cell instance a b two (m + n)
    (λ k l p q less. nets k l p q (omega arith)) (suc (i + j)) m i n j refl (omega arith)

-- two bits of one instance that are written alike are one
one_written : (names : List Text) (design : NetlistRec) (cell : Cell) (instance : ℕ)
    (a b : PortBit) (net other : ℕ) (of_net of_other : Net) (text : Text)
    → ((n : ℕ) → IsWrittenTwice names design cell n → ⊥)
    → slice_get cell.nets net ≡ Some of_net → slice_get cell.nets other ≡ Some of_other
    → names_of instance of_net a ≡ true → names_of instance of_other b ≡ true
    → written_bit names design a ≡ Some text → written_bit names design b ≡ Some text → a ≡ b
one_written names design cell instance a b net other of_net of_other text none x y p q s t =
    by (same_bit a b) refl
  where
    by : (o : Bool) → same_bit a b ≡ o → a ≡ b
    by true e = same_bit_is a b e
    by false e =
        let one = at_net cell instance a net of_net x p in
        let two = at_net cell instance b other of_other y q in
        absurd (never_nets names design cell instance a b record {
          apart = λ same. false≢true (sym e ∙ is_same_bit a b same);
          text = text;
          text_is = s;
          other_text_is = t;
          none = none;
        } (suc (net + other)) net one.0 other two.0 (omega arith) one.1 two.1)

-- two pins of one leaf
one_leaf : (names : List Text) (design : NetlistRec) (path : Path) (a b : PortBit) (text : Text)
    (at there : Occurrence) → Keeps2 names design → IsLeafPinOn design path a at
    → IsLeafPinOn design path b there → written_bit names design a ≡ Some text
    → written_bit names design b ≡ Some text → a ≡ b
one_leaf names design path a b text at there keeps x y s t =
    let last = same_last at.path there.path x.place y.place (sym x.below ∙ y.below) in
    let cells : x.cell ≡ y.cell = same_Some x.cell y.cell (sym x.occurs.inside
    ∙ ap (inside_at design) last.0 ∙ y.occurs.inside) in
    let instances : x.instance ≡ y.instance = same_Some x.instance y.instance (sym x.which
    ∙ ap (λ (c : Cell). slice_get c.insts x.place) cells
    ∙ ap (slice_get y.cell.insts) last.1 ∙ y.which) in
    let net_x : slice_get y.cell.nets at.net ≡ Some x.net =
    ap (λ (c : Cell). slice_get c.nets at.net) (sym cells) ∙ x.occurs.net_is in
    let named_x : names_of y.instance x.net a ≡ true =
    ap (λ n. names_of n x.net a) (sym instances) ∙ x.named in
    one_written names design y.cell y.instance a b at.net there.net x.net y.net text
    (λ n twice. keeps.1 (NetAt there.path n) (y.cell, y.occurs.inside, inr twice))
    net_x y.occurs.net_is named_x y.named s t

-- Bits of the top's ports.

abbrev ports_in : NetlistRec → List PortNumber
ports_in design = ports_of design design.top_inst.cell

typed_cells : (port : Port) (ty : Text) → port_type port.dir ≡ Some ty
    → cells_of_port (Some port) ≡ width port
typed_cells port ty e = rw e refl

-- what is known of the cell of a bit
record HasCell (design : NetlistRec) (place index : ℕ) (cell : ℕ) : Type 0 where
  number : PortNumber
  which : slice_get (ports_in design) place ≡ Some number
  within : index < cells_in design number
  cell_is : cell ≡ cells_before design place + index

has_cell : (names : List Text) (design : NetlistRec) (ports : ℕ) (leaves : List LeafCell)
    (place index cell : ℕ) (text : Text)
    → IsFlatPin names design ports leaves (TopPin place index) cell text
    → HasCell design place index cell
has_cell names design ports leaves place index cell text is =
    let number = is.0 in
    let port = is.1 in
    let bit : IsTopBit design place index number port = is.3 in
    let wide : cells_in design number ≡ width port =
    ap cells_of_port bit.port_is ∙ typed_cells port is.2 is.4 in
    record {
      number = number;
      which = bit.which;
      within = subst (λ n. index < n) (sym wide) bit.within;
      cell_is = is.5;
    }

-- bits of an earlier port have earlier cells
cells_apart : (design : NetlistRec) (p i q j cell : ℕ) → HasCell design p i cell
    → HasCell design q j cell → p < q → ⊥
cells_apart design p i q j cell x y less =
    let low : cells_before design p + cells_in design x.number ≤ cells_before design q =
    sum_before (cells_in design) (ports_in design) p q x.number x.which less in
    let a : i < cells_in design x.number = x.within in
    let b : cell ≡ cells_before design p + i = x.cell_is in
    let c : cell ≡ cells_before design q + j = y.cell_is in omega arith

one_cell : (design : NetlistRec) (p i q j cell : ℕ) → HasCell design p i cell
    → HasCell design q j cell → TopPin p i ≡ TopPin q j
one_cell design p i q j cell x y = elim (cases_lt p q) [
  | inl less ↦ absurd (cells_apart design p i q j cell x y less)
  | inr more ↦ elim (cases_lt q p) [
    | inl less ↦ absurd (cells_apart design q j p i cell y x less)
    | inr le ↦
        let same : p ≡ q = omega arith in
        let before : cells_before design p ≡ cells_before design q =
        ap (cells_before design) same in
        let a : cell ≡ cells_before design p + i = x.cell_is in
        let b : cell ≡ cells_before design q + j = y.cell_is in
        let index : i ≡ j = omega arith in
        ap (λ n. TopPin n i) same ∙ ap (TopPin q) index
  ]
]

-- port cells come before leaves
below_ports : (names : List Text) (design : NetlistRec) (place index cell : ℕ)
    → HasCell design place index cell → cell < length (port_cells names design)
below_ports names design place index cell x =
    let ports = ports_in design in
    let past = suc place + length ports in
    let low : cells_before design place + cells_in design x.number
    ≤ sum_by (cells_in design) (take past ports) =
    sum_before (cells_in design) ports place past x.number x.which (omega arith) in
    let whole : sum_by (cells_in design) (take past ports) ≡ sum_by (cells_in design) ports =
    ap (sum_by (cells_in design)) (take_all past ports (omega arith)) in
    let all : length (port_cells names design) ≡ sum_by (cells_in design) ports =
    cells_sum names design in
    let a : index < cells_in design x.number = x.within in
    let b : cell ≡ cells_before design place + index = x.cell_is in omega arith

pub apart : (names : List Text) (rec : DeviceRec) (design : NetlistRec) (leaves : List LeafCell)
    → Keeps2 names design → AreLeafCells rec design leaves
    → AreApart names design (length (port_cells names design)) leaves
apart names rec design leaves keeps are (TopPin p i) (TopPin q j) cell text at there x y on other =
    one_cell design p i q j cell
    (has_cell names design (length (port_cells names design)) leaves p i cell text x)
    (has_cell names design (length (port_cells names design)) leaves q j cell text y)
apart names rec design leaves keeps are (TopPin p i) (LeafPin path bit) cell text at there x y on
    other =
    let ports = length (port_cells names design) in
    let low : cell < ports = below_ports names design p i cell
    (has_cell names design ports leaves p i cell text x) in
    let high : cell ≡ ports + y.0 = y.4 in absurd (omega arith)
apart names rec design leaves keeps are (LeafPin path bit) (TopPin p i) cell text at there x y on
    other =
    let ports = length (port_cells names design) in
    let low : cell < ports = below_ports names design p i cell
    (has_cell names design ports leaves p i cell text y) in
    let high : cell ≡ ports + x.0 = x.4 in absurd (omega arith)
apart names rec design leaves keeps are (LeafPin path a) (LeafPin way b) cell text at there x y on
    other =
    let ports = length (port_cells names design) in
    let first : cell ≡ ports + x.0 = x.4 in
    let second : cell ≡ ports + y.0 = y.4 in
    let k : x.0 ≡ y.0 = omega arith in
    let leaf : x.1 ≡ y.1 = same_Some x.1 y.1 (sym x.2 ∙ ap (slice_get leaves) k ∙ y.2) in
    let paths : path ≡ way = sym x.3 ∙ ap (λ (l : LeafCell). l.path) leaf ∙ y.3 in
    let on_way : IsLeafPinOn design way a on.where_at =
    subst (λ p. IsLeafPinOn design p a on.where_at) paths on.on in
    let bits : a ≡ b = one_leaf names design way a b text on.where_at other.where_at keeps on_way
    other.on x.5 y.5 in
    ap (λ p. LeafPin p a) paths ∙ ap (LeafPin way) bits
