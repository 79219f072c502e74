-- The pins of a leaf that go both ways and are on nets.
use Rattle.std.proofs.Common.{◌≡◌, ◌<◌, ◌≤◌, ◌+◌, ◌∙◌, ℕ, length}
use Rattle.std.proofs.Common.{Some, slice_get, sym, ap, subst, inl, inr, arith}
use Rattle.std.proofs.lemmas.Bool.{cases_lt}
use Rattle.std.proofs.lemmas.Option.{same_Some, slice_get_within}
use Rattle.ix_rec.specs.declared.device.Direction.TheVariants.{Inout}
use Rattle.ix_rec.specs.declared.netlist.NetlistRec.{NetlistRec}
use Rattle.ix_rec.specs.declared.netlist.Port.{Port}
use Rattle.ix_hierarchy.specs.declared.row.Row.{Row}
use Rattle.ix_hierarchy.specs.Hierarchy.{Path, PortBit}
use Rattle.ix_hierarchy.specs.Nets.{Occurrence}
use Rattle.ix_hierarchy.specs.Pins.{LeafPin, IsLeafPinOn}
use Rattle.ix_hierarchy.specs.Lists.{bit_in}
use Rattle.ix_bit_rows.specs.Table.{IsCut}
use Rattle.ix_joined.specs.declared.joined.Joined.{Joined}
use Rattle.ix_joined.specs.declared.pin.LeafPin.{LeafPin as LeafPinFound}
use Rattle.ix_joined.specs.Joining.{Known, IsJoined, IsPinOf}
use Rattle.ix_pins.specs.Places.{ArePins, IsPinPlace, IsFoundAt}
use Rattle.ix_inout.specs.Leaf.{IsAtLeaf, HasInout, NoneOfPort, IsFirstOfPort}
use Rattle.ix_inout.proofs.Parts.{gets_at}
use Rattle.ix_inout.proofs.Ports.{port_there}

abbrev pub ports_before : Joined → (number : ℕ) → (start end place : ℕ) → Type 0
ports_before joined number start end place = IsCut (λ row. row.port < number)
    (λ row. number ≤ row.port) joined.outer.rows start end place

-- the pin of a row
pub pin_on : (known : Known) (design : NetlistRec) (joined : Joined) (instance : ℕ)
    (path : Path) (start end k : ℕ) (row : Row) → IsAtLeaf known design joined instance path
    → ArePins known design joined instance path start end → start ≤ k → k < end
    → slice_get joined.outer.rows k ≡ Some row
    → (at : Occurrence) × IsLeafPinOn design path (bit_in row) at
pin_on known design joined instance path start end k row A P from to is =
    let at : IsPinPlace known design joined instance k = P.each k A.inst from to A.leaf in
    let same_path : at.path ≡ path = same_Some at.path path (sym at.path_is ∙ A.path_is) in
    let same_row : at.row ≡ row = same_Some at.row row (sym at.row_is ∙ is) in (
      record { path = at.parent; net = at.row.net },
      subst (λ (p : Path). IsLeafPinOn design p (bit_in row)
          record { path = at.parent; net = at.row.net }) same_path
          (subst (λ (r : Row). IsLeafPinOn design at.path (bit_in r)
          record { path = at.parent; net = at.row.net }) same_row at.on),
    )

pub row_port : (known : Known) (design : NetlistRec) (joined : Joined) (instance : ℕ)
    (path : Path) (start end k : ℕ) (row : Row) → IsAtLeaf known design joined instance path
    → ArePins known design joined instance path start end → start ≤ k → k < end
    → slice_get joined.outer.rows k ≡ Some row → row.port < length design.port_list
row_port known design joined instance path start end k row A P from to is =
    let on = pin_on known design joined instance path start end k row A P from to is in
    (port_there (length known.names) design path (bit_in row) on.0 A.is_joined.fits on.1).0

pub rises : (known : Known) (design : NetlistRec) (joined : Joined) (instance : ℕ)
    (path : Path) (start end : ℕ) → ArePins known design joined instance path start end
    → (j k : ℕ) (a b : Row) → start ≤ j → j < k → k < end
    → slice_get joined.outer.rows j ≡ Some a → slice_get joined.outer.rows k ≡ Some b
    → a.port ≤ b.port
rises known design joined instance path start end P j k a b from less to h g =
    elim (P.rise j k a b from less to h g) [
      | inl w ↦ omega arith
      | inr w ↦ let e = w.0 in omega arith
    ]

pub pin_place : (known : Known) (design : NetlistRec) (joined : Joined) (instance : ℕ)
    (path : Path) (start end k : ℕ) → IsAtLeaf known design joined instance path
    → ArePins known design joined instance path start end → start ≤ k → k < end
    → (other : Known) × IsJoined other design joined × IsPinPlace other design joined instance k
pin_place known design joined instance path start end k A P from to =
    (known, A.is_joined, P.each k A.inst from to A.leaf)

-- at the first row of a port
pub port_first : (known : Known) (design : NetlistRec) (joined : Joined) (instance : ℕ)
    (path : Path) (start end place number : ℕ) (row : Row) (port : Port) (pin : LeafPinFound)
    → IsAtLeaf known design joined instance path
    → ArePins known design joined instance path start end
    → ports_before joined number start end place → place < end
    → slice_get joined.outer.rows place ≡ Some row → row.port ≡ number
    → slice_get design.port_list number ≡ Some port → port.dir ≡ Inout
    → IsFoundAt known design joined instance place pin
    → IsFirstOfPort known design joined path number pin.net
port_first known design joined instance path start end place number row port pin A P cut to row_is
    of_port port_is inout F =
    let on = pin_on known design joined instance path start end place row A P cut.from to row_is in
    let same_path : F.at.path ≡ path = same_Some F.at.path path (sym F.at.path_is ∙ A.path_is) in
    let same_row : F.at.row ≡ row = same_Some F.at.row row (sym F.at.row_is ∙ row_is) in
    record {
      bit = bit_in row;
      of_port = of_port;
      pin = record {
        port = port;
        port_is = ap (slice_get design.port_list) of_port ∙ port_is;
        inout = inout;
        at = on.0;
        on = on.1;
      };
      first = λ other of_it I.
          let k = P.all other I.at I.on in
          let port_k : k.1.port ≡ other.port = ap (λ (b : PortBit). b.port) k.5 in
          let index_k : k.1.index ≡ other.index = ap (λ (b : PortBit). b.index) k.5 in
          elim (cases_lt k.0 place) [
            | inl before ↦
                let l : k.1.port < number = cut.before k.0 k.1 k.2 before k.4 in
                absurd (omega arith)
            | inr behind ↦ elim (cases_lt place k.0) [
              | inl later ↦ elim (P.rise place k.0 row k.1 cut.from later k.3 row_is k.4) [
                | inl w ↦ absurd (omega arith)
                | inr w ↦ let l = w.1 in omega arith
              ]
              | inr here ↦
                  let e : place ≡ k.0 = omega arith in
                  let s : row ≡ k.1 = same_Some row k.1
                  (sym row_is ∙ ap (slice_get joined.outer.rows) e ∙ k.4) in
                  let i : row.index ≡ k.1.index = ap (λ (r : Row). r.index) s in
                  omega arith
            ]
          ];
      net_is = subst (λ (p : Path). IsPinOf design joined.instances.items known.paths
          joined.firsts.items (LeafPin p (bit_in row)) pin.net) same_path
          (subst (λ (r : Row). IsPinOf design joined.instances.items known.paths
          joined.firsts.items (LeafPin F.at.path (bit_in r)) pin.net) same_row F.net_is);
    }

-- no row of a port
pub port_none : (known : Known) (design : NetlistRec) (joined : Joined) (instance : ℕ)
    (path : Path) (start end place number : ℕ)
    → ArePins known design joined instance path start end
    → ports_before joined number start end place
    → ((row : Row) → place < end → slice_get joined.outer.rows place ≡ Some row
    → row.port ≡ number → ⊥)
    → NoneOfPort design path number
port_none known design joined instance path start end place number P cut none = λ bit of_it I.
    let k = P.all bit I.at I.on in
    let port_k : k.1.port ≡ bit.port = ap (λ (b : PortBit). b.port) k.5 in
    elim (cases_lt k.0 place) [
      | inl before ↦
          let l : k.1.port < number = cut.before k.0 k.1 k.2 before k.4 in
          omega arith
      | inr behind ↦
          let few : k.0 < length joined.outer.rows =
          slice_get_within joined.outer.rows k.0 k.1 k.4 in
          let less = k.3 in
          let row = first_row (omega arith) in
          let at_place : place < end = omega arith in
          elim (cases_lt place k.0) [
            | inl later ↦
                let l : number ≤ row.0.port = cut.behind place row.0 (omega arith) at_place row.1 in
                elim (P.rise place k.0 row.0 k.1 cut.from later k.3 row.1 k.4) [
                  | inl w ↦ omega arith
                  | inr w ↦
                      let e : row.0.port ≡ number = let f = w.0 in omega arith in
                      none row.0 at_place row.1 e
                ]
            | inr here ↦
                let e : k.0 ≡ place = omega arith in
                none k.1 at_place (ap (slice_get joined.outer.rows) (sym e) ∙ k.4) (omega arith)
          ]
    ]
  where
    first_row : place < length joined.outer.rows
        → (row : Row) × (slice_get joined.outer.rows place ≡ Some row)
    first_row few = gets_at joined.outer.rows place few

-- a port that goes another way
pub port_other : (design : NetlistRec) (path : Path) (number : ℕ) (port : Port)
    → slice_get design.port_list number ≡ Some port → (port.dir ≡ Inout → ⊥)
    → NoneOfPort design path number
port_other design path number port is other = λ bit of_it I.
    let same : I.port ≡ port = same_Some I.port port
    (sym I.port_is ∙ ap (slice_get design.port_list) of_it ∙ is) in
    other (ap (λ (p : Port). p.dir) (sym same) ∙ I.inout)

-- Rows that were gone through.
abbrev pub NoneBefore : NetlistRec → Joined → (start place : ℕ) → Type 0
NoneBefore design joined start place = (k : ℕ) (row : Row) (port : Port) → start ≤ k → k < place
    → slice_get joined.outer.rows k ≡ Some row
    → slice_get design.port_list row.port ≡ Some port → port.dir ≡ Inout → ⊥

pub none_more : (design : NetlistRec) (joined : Joined) (start place : ℕ) (row : Row)
    (port : Port) → NoneBefore design joined start place
    → slice_get joined.outer.rows place ≡ Some row
    → slice_get design.port_list row.port ≡ Some port → (port.dir ≡ Inout → ⊥)
    → NoneBefore design joined start (place + 1)
none_more design joined start place row port none row_is port_is other = λ k r p from to a b c.
    elim (cases_lt k place) [
      | inl before ↦ none k r p from before a b c
      | inr last ↦
          let e : k ≡ place = omega arith in
          let s : r ≡ row = same_Some r row (sym a ∙ ap (slice_get joined.outer.rows) e ∙ row_is) in
          let t : p ≡ port = same_Some p port
          (sym b ∙ ap (λ (x : Row). slice_get design.port_list x.port) s ∙ port_is) in
          other (ap (λ (x : Port). x.dir) (sym t) ∙ c)
    ]

pub has_none : (known : Known) (design : NetlistRec) (joined : Joined) (instance : ℕ)
    (path : Path) (start end place : ℕ) → ArePins known design joined instance path start end
    → NoneBefore design joined start place → end ≤ place → HasInout design path → ⊥
has_none known design joined instance path start end place P none past (bit, I) =
    let k = P.all bit I.at I.on in
    let less = k.3 in
    none k.0 k.1 I.port k.2 (omega arith) k.4
    (ap (λ (b : PortBit). slice_get design.port_list b.port) k.5 ∙ I.port_is) I.inout

pub has_one : (known : Known) (design : NetlistRec) (joined : Joined) (instance : ℕ)
    (path : Path) (start end k : ℕ) (row : Row) (port : Port)
    → IsAtLeaf known design joined instance path
    → ArePins known design joined instance path start end → start ≤ k → k < end
    → slice_get joined.outer.rows k ≡ Some row → slice_get design.port_list row.port ≡ Some port
    → port.dir ≡ Inout → HasInout design path
has_one known design joined instance path start end k row port A P from to row_is port_is inout =
    let on = pin_on known design joined instance path start end k row A P from to row_is in (
      bit_in row,
      record {
        port = port;
        port_is = port_is;
        inout = inout;
        at = on.0;
        on = on.1;
      },
    )
