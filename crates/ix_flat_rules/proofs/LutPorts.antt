-- Port cells of LUT types.
use Rattle.std.proofs.Common.{◌≡◌, ◌<◌, ◌+◌, ◌++◌, ap, refl, sym, subst, ◌∙◌, ℕ, List}
use Rattle.std.proofs.Common.{slice_get, Option, Some, None, arith, length, inl, inr, ◌↔◌, false}
use Rattle.std.specs.Prelude.{codes, is_some, IsTrue, MatchOption}
use Rattle.std.proofs.lemmas.Bool.{cases_lt, false≢true}
use Rattle.std.proofs.lemmas.Option.{none-some, same_Some, slice_get_within}
use Rattle.ix_message.specs.Shape.{Text}
use Rattle.ix_strings.specs.Names.{AllDiffer}
use Rattle.ix_rec.specs.declared.device.DeviceRec.{DeviceRec}
use Rattle.ix_rec.specs.declared.device.Direction.{Direction}
use Rattle.ix_rec.specs.declared.device.Direction.TheVariants.{Input, Output, Inout}
use Rattle.ix_rec.specs.declared.device.LutCell.{LutCell}
use Rattle.ix_rec.specs.declared.netlist.NetlistRec.{NetlistRec}
use Rattle.ix_hierarchy.specs.Hierarchy.{written}
use Rattle.ix_hierarchy.specs.Walk.{IsBefore, TopBit as TopSpot, key}
use Rattle.ix_hierarchy.specs.FlatDesign.{lut_of_type, port_type}
use Rattle.ix_hierarchy.specs.Broken.{BreaksN6, IsCellText}
use Rattle.ix_joined.specs.declared.joined.Joined.{Joined}
use Rattle.ix_joined.specs.declared.top_bit.TopBit.{TopBit}
use Rattle.ix_joined.specs.Joining.{AreTopBits, Known, TopPlace, top_places}
use Rattle.ix_flat_lists.specs.declared.port_names.PortNames.{PortNames}
use Rattle.ix_flat_lists.specs.Listed.{ArePortNames, type_towards}
use Rattle.ix_flat_rules.specs.Lacking.{IsFirstLutPort, IsLutPort, IsPortText, NoLutPort}
use Rattle.ix_flat_rules.proofs.Finds.{item_at}
use Rattle.ix_flat_rules.proofs.Orders.{less_asym}

-- the bits of the top, as they are listed
abbrev pub AreBits : Known → NetlistRec → Joined → List TopBit → Type 0
AreBits known design joined bits =
    AreTopBits design joined.instances.items known.paths joined.firsts.items bits

-- a type by its name

abbrev pub HasText : List Text → Direction → (ty : ℕ) → Type 0
HasText names dir ty =
    (text : Text) × (port_type dir ≡ Some text) × (slice_get names ty ≡ Some text)

type_text : (names : List Text) (types : PortNames) (dir : Direction) (ty : ℕ)
    → ArePortNames names types → type_towards types dir ≡ Some ty → HasText names dir ty
type_text names types Input ty are h =
    let same : types.input ≡ ty = same_Some types.input ty h in
    (codes "$PORT_IN", refl, ap (slice_get names) (sym same) ∙ are.input)
type_text names types Output ty are h =
    let same : types.output ≡ ty = same_Some types.output ty h in
    (codes "$PORT_OUT", refl, ap (slice_get names) (sym same) ∙ are.output)
type_text names types Inout ty are h = absurd (none-some ty h)

text_type : (names : List Text) (types : PortNames) (dir : Direction) (ty : ℕ) (text : Text)
    → ArePortNames names types → AllDiffer names → port_type dir ≡ Some text
    → slice_get names ty ≡ Some text → type_towards types dir ≡ Some ty
text_type names types Input ty text are differ p h =
    ap Some (differ types.input ty text (are.input ∙ p) h)
text_type names types Output ty text are differ p h =
    ap Some (differ types.output ty text (are.output ∙ p) h)
text_type names types Inout ty text are differ p h = absurd (none-some text p)

-- the place of a bit
pub place_of : (known : Known) (design : NetlistRec) (joined : Joined) (bits : List TopBit) (k : ℕ)
    (bit : TopBit) → AreBits known design joined bits → slice_get bits k ≡ Some bit
    → (at : TopPlace) × (slice_get (top_places design) k ≡ Some at)
place_of known design joined bits k bit are h =
    let less : k < length bits = slice_get_within bits k bit h in
    let many : length bits ≡ length (top_places design) = are.many in
    item_at (top_places design) k (omega arith)

-- such a port cell breaks N6
port_breaks : (known : Known) (design : NetlistRec) (joined : Joined) (types : PortNames)
    (bits : List TopBit) (k : ℕ) (at : TopPlace) (bit : TopBit)
    → AreBits known design joined bits → ArePortNames known.names types
    → slice_get (top_places design) k ≡ Some at → slice_get bits k ≡ Some bit
    → IsLutPort known.device types bit
    → BreaksN6 known.names known.device design (TopSpot at.place at.index)
port_breaks known design joined types bits k at bit are named h b is =
    let port = are.places.each k at h in
    let of_bit = are.each k at bit h b in
    let dirs : bit.dir ≡ port.0.dir = of_bit.dir_is ∙ sym port.2 in
    let text = type_text known.names types port.0.dir is.0 named
    (ap (type_towards types) (sym dirs) ∙ is.2) in
    (at.number, port.0, is.0, is.1, text.0, port.1, text.1, text.2, is.3)

-- and what breaks it there is one
breaks_port : (known : Known) (design : NetlistRec) (joined : Joined) (types : PortNames)
    (bits : List TopBit) (place index : ℕ) → AreBits known design joined bits
    → ArePortNames known.names types → AllDiffer known.names
    → BreaksN6 known.names known.device design (TopSpot place index)
    → (k : ℕ) × (at : TopPlace) × (bit : TopBit) × (slice_get (top_places design) k ≡ Some at)
    × (at.place ≡ place) × (at.index ≡ index) × (slice_get bits k ≡ Some bit)
    × IsLutPort known.device types bit
breaks_port known design joined types bits place index are named differ broken =
    let port = broken.1 in
    let there = are.places.all place index broken.0 port broken.5 in
    let at : TopPlace =
    record { place = place; index = index; number = broken.0; dir = port.dir } in
    let less : there.0 < length (top_places design) =
    slice_get_within (top_places design) there.0 at there.1 in
    let many : length bits ≡ length (top_places design) = are.many in
    let bit = item_at bits there.0 (omega arith) in
    let of_bit = are.each there.0 at bit.0 there.1 bit.1 in (
      there.0,
      at,
      bit.0,
      there.1,
      refl,
      refl,
      bit.1,
      (
        broken.2,
        broken.3,
        ap (type_towards types) of_bit.dir_is
            ∙ text_type known.names types port.dir broken.2 broken.4 named differ broken.6 broken.7,
        broken.8,
      ),
    )

-- where the bits have none, the top has none
pub no_port : (known : Known) (design : NetlistRec) (joined : Joined) (types : PortNames)
    (bits : List TopBit) → AreBits known design joined bits → ArePortNames known.names types
    → AllDiffer known.names → NoLutPort known.device types bits (length bits)
    → (place index : ℕ) → ¬ BreaksN6 known.names known.device design (TopSpot place index)
no_port known design joined types bits are named differ none place index broken =
    let found = breaks_port known design joined types bits place index are named differ broken in
    none found.0 found.2 (slice_get_within bits found.0 found.2 found.6) found.6 found.7

-- none before the first one
pub no_port_before : (known : Known) (design : NetlistRec) (joined : Joined) (types : PortNames)
    (bits : List TopBit) (k : ℕ) (at : TopPlace) → AreBits known design joined bits
    → ArePortNames known.names types → AllDiffer known.names
    → slice_get (top_places design) k ≡ Some at → NoLutPort known.device types bits k
    → (place index : ℕ) → IsBefore (TopSpot place index) (TopSpot at.place at.index)
    → ¬ BreaksN6 known.names known.device design (TopSpot place index)
no_port_before known design joined types bits k at are named differ h none place index before
    broken =
    let found = breaks_port known design joined types bits place index are named differ broken in
    let earlier : IsBefore (TopSpot found.1.place found.1.index) (TopSpot at.place at.index) =
    subst (λ p. IsBefore (TopSpot p found.1.index) (TopSpot at.place at.index)) (sym found.4)
    (subst (λ i. IsBefore (TopSpot place i) (TopSpot at.place at.index)) (sym found.5) before) in
    let keys = key (TopSpot found.1.place found.1.index) in
    let key_at = key (TopSpot at.place at.index) in
    elim (cases_lt found.0 k) [
      | inl less ↦ none found.0 found.2 less found.6 found.7
      | inr le ↦ elim (cases_lt k found.0) [
        | inl more ↦ less_asym keys key_at earlier
            (are.places.rise k found.0 at found.1 more h found.3)
        | inr ge ↦
            let same : k ≡ found.0 = omega arith in
            let ats : at ≡ found.1 = same_Some at found.1 (sym h
            ∙ ap (slice_get (top_places design)) same ∙ found.3) in
            let again : IsBefore (TopSpot at.place at.index) (TopSpot at.place at.index) =
            subst (λ (p : TopPlace). IsBefore (TopSpot p.place p.index)
            (TopSpot at.place at.index)) (sym ats) earlier in
            less_asym key_at key_at again again
      ]
    ]

-- the first one, and where it is
pub record IsPortBroken (known : Known) (design : NetlistRec) (at : TopPlace) : Type 0 where
  pub here : BreaksN6 known.names known.device design (TopSpot at.place at.index)
  pub first : (place index : ℕ) → IsBefore (TopSpot place index) (TopSpot at.place at.index)
      → ¬ BreaksN6 known.names known.device design (TopSpot place index)

pub port_broken : (known : Known) (design : NetlistRec) (joined : Joined) (types : PortNames)
    (bits : List TopBit) (k : ℕ) (at : TopPlace) → AreBits known design joined bits
    → ArePortNames known.names types → AllDiffer known.names
    → slice_get (top_places design) k ≡ Some at → IsFirstLutPort known.device types bits k
    → IsPortBroken known design at
port_broken known design joined types bits k at are named differ h is = record {
  here = port_breaks known design joined types bits k at is.bit are named h is.bit_is is.lut;
  first = no_port_before known design joined types bits k at are named differ h is.first;
}

-- the port of a bit is there
pub port_there : (known : Known) (design : NetlistRec) (joined : Joined) (bits : List TopBit)
    (k : ℕ) (bit : TopBit) → AreBits known design joined bits → slice_get bits k ≡ Some bit
    → bit.port < length design.port_list
port_there known design joined bits k bit are h =
    let at = place_of known design joined bits k bit are h in
    let port = are.places.each k at.0 at.1 in
    let of_bit = are.each k at.0 bit at.1 h in
    subst (λ p. p < length design.port_list) (sym of_bit.port_is)
    (slice_get_within design.port_list at.0.number port.0 port.1.port_is)

-- what is told of a bit is the text of its cell
pub cell_text : (known : Known) (design : NetlistRec) (joined : Joined) (bits : List TopBit)
    (k : ℕ) (at : TopPlace) (bit : TopBit) (word : Text) → AreBits known design joined bits
    → slice_get (top_places design) k ≡ Some at → slice_get bits k ≡ Some bit
    → IsPortText known.names design bit word
    → IsCellText known.names design (TopSpot at.place at.index) word
cell_text known design joined bits k at bit word are h b is =
    let port = are.places.each k at h in
    let of_bit = are.each k at bit h b in (
      at.number,
      port.0,
      port.1,
      is port.0 (ap (slice_get design.port_list) of_bit.port_is ∙ port.1.port_is)
          ∙ ap (λ i. codes "$port/" ++ written known.names port.0 i) of_bit.index_is,
    )

-- whether a type that was looked up is a LUT type
pub lut_port : {A : Type 0} (now : A → LutCell) (rec : DeviceRec) (types : PortNames)
    (bit : TopBit) (ty : ℕ) (lut : Option A) → type_towards types bit.dir ≡ Some ty
    → MatchOption lut (lut_of_type rec ty ≡ None) (λ x. lut_of_type rec ty ≡ Some (now x))
    → IsTrue (is_some lut) ↔ IsLutPort rec types bit
lut_port now rec types bit ty None towards h = (
  λ e. absurd (false≢true e),
  λ is.
      let same : ty ≡ is.0 = same_Some ty is.0 (sym towards ∙ is.2) in
      absurd (none-some is.1 (sym h ∙ ap (lut_of_type rec) same ∙ is.3)),
)
lut_port now rec types bit ty (Some x) towards h = (λ e. (ty, now x, towards, h), λ is. refl)

pub no_lut_port : (rec : DeviceRec) (types : PortNames) (bit : TopBit)
    → type_towards types bit.dir ≡ None → IsTrue false ↔ IsLutPort rec types bit
no_lut_port rec types bit none = (
  λ e. absurd (false≢true e),
  λ is. absurd (none-some is.0 (sym none ∙ is.2)),
)

-- none yet, and one bit more
pub ports_next : (rec : DeviceRec) (types : PortNames) (bits : List TopBit) (count : ℕ)
    (bit : TopBit) → NoLutPort rec types bits count → slice_get bits count ≡ Some bit
    → ¬ IsLutPort rec types bit → NoLutPort rec types bits (count + 1)
ports_next rec types bits count bit before at isnt = λ k other less there.
    elim (cases_lt k count) [
      | inl lt ↦ before k other lt there
      | inr le ↦
          let same : count ≡ k = omega arith in
          let bits_same : bit ≡ other = same_Some bit other (sym at ∙ ap (slice_get bits) same
          ∙ there) in
          subst (λ b. ¬ IsLutPort rec types b) bits_same isnt
    ]
