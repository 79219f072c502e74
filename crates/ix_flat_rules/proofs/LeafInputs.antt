-- The open inputs of one LUT cell.
use Rattle.std.proofs.Common.{◌≡◌, ◌<◌, ◌⊎◌, ap, refl, sym, subst, ◌∙◌, ℕ, List, slice_get, Some}
use Rattle.std.proofs.Common.{None, Option, Bool, true, false, not, length, inl, inr}
use Rattle.std.specs.Prelude.{IfOk, MatchOption, Result, Ok, Err}
use Rattle.std.proofs.lemmas.Option.{none-some, same_Some, slice_get_within}
use Rattle.ix_first.specs.declared.by_key.FirstByKey.{FirstByKey}
use Rattle.ix_message.specs.Shape.{Text}
use Rattle.ix_rec.specs.declared.device.DeviceRec.{DeviceRec}
use Rattle.ix_rec.specs.declared.device.LutCell.{LutCell}
use Rattle.ix_rec.specs.declared.netlist.CellInstance.{CellInstance}
use Rattle.ix_rec.specs.declared.netlist.NetlistRec.{NetlistRec}
use Rattle.ix_hierarchy.specs.Hierarchy.{Path, PortNumber, instance_at, ports_of}
use Rattle.ix_hierarchy.specs.FlatDesign.{lut_of_type}
use Rattle.ix_hierarchy.specs.Pins.{IsLeafOf, IsPlainLeaf}
use Rattle.ix_hierarchy.specs.Broken.{IsDeclared, IsJoined as IsPinJoined}
use Rattle.ix_hierarchy.specs.Broken.{IsLutInput}
use Rattle.ix_joined.specs.declared.joined.Joined.{Joined}
use Rattle.ix_joined.specs.declared.state.NetState.{NetState}
use Rattle.ix_joined.specs.Joining.{Known}
use Rattle.ix_open_inputs.specs.Joinings.{AreOpen, IsGiven, IsPin}
use Rattle.ix_open_inputs.specs.Standings.{AnswersOpen, IsFirstOpen, IsStanding, IsWrittenAt}
use Rattle.ix_flat_rules.specs.Givens.{AreSinksKnown}
use Rattle.ix_flat_rules.specs.Leaves.{IsPlainAt}
use Rattle.ix_flat_rules.specs.Opens.{AreAllJoined, IsFirstOpenOf}
use Rattle.ix_flat_rules.proofs.Listings.{below_top, same_leaf}

-- an input of a leaf's type is one of its LUT cell
input_of : (rec : DeviceRec) (design : NetlistRec) (path : Path) (inst other : CellInstance)
    (ty kind input pin : ℕ) (lut : LutCell) → IsPlainLeaf rec design path inst ty
    → IsPlainLeaf rec design path other kind → lut_of_type rec ty ≡ Some lut
    → IsLutInput rec kind input pin → slice_get lut.input_pins input ≡ Some pin
input_of rec design path inst other ty kind input pin lut here there is of_type =
    let same : kind ≡ ty =
    (same_leaf rec design path other inst kind ty there here).1 in
    let luts : of_type.0 ≡ lut = same_Some of_type.0 lut (sym of_type.1
    ∙ ap (lut_of_type rec) same ∙ is) in
    ap (λ (l : LutCell). slice_get l.input_pins input) (sym luts) ∙ of_type.2

-- a leaf that is no LUT cell has no inputs
pub no_lut : (names : List Text) (rec : DeviceRec) (design : NetlistRec) (path : Path)
    (inst : CellInstance) (ty : ℕ) → IsPlainLeaf rec design path inst ty
    → lut_of_type rec ty ≡ None → AreAllJoined names rec design path
no_lut names rec design path inst ty here none = λ other kind input pin text there of_type named.
    let same : kind ≡ ty = (same_leaf rec design path other inst kind ty there here).1 in
    absurd (none-some of_type.0 (sym none ∙ ap (lut_of_type rec) (sym same) ∙ of_type.1))

-- an input whose mark isn't set is joined
unmarked : (known : Known) (design : NetlistRec) (path : Path) (marks : List Bool) (input : ℕ)
    (text : Text) (mark : Bool) → (slice_get marks input ≡ Some true → ⊥)
    → slice_get marks input ≡ Some mark → IsPin known design path text (not mark)
    → IsPinJoined known.device known.names design path text
unmarked known design path marks input text true none at is = absurd (none at)
unmarked known design path marks input text false none at is = is

-- and one that isn't joined is marked
marked : (known : Known) (design : NetlistRec) (path : Path) (marks : List Bool) (input : ℕ)
    (text : Text) (mark : Bool) → (IsPinJoined known.device known.names design path text → ⊥)
    → slice_get marks input ≡ Some mark → IsPin known design path text (not mark)
    → slice_get marks input ≡ Some true
marked known design path marks input text true isnt at is = at
marked known design path marks input text false isnt at is = absurd (isnt is)

-- where none is open, all are joined
pub none_open : (known : Known) (design : NetlistRec) (path : Path) (inst : CellInstance) (ty : ℕ)
    (lut : LutCell) (marks : List Bool) → IsPlainLeaf known.device design path inst ty
    → lut_of_type known.device ty ≡ Some lut → AreOpen known design path lut.input_pins marks
    → ((input : ℕ) → input < length lut.input_pins → slice_get marks input ≡ Some true → ⊥)
    → AreAllJoined known.names known.device design path
none_open known design path inst ty lut marks here is are none =
    λ other kind input pin text there of_type named.
    let at : slice_get lut.input_pins input ≡ Some pin =
    input_of known.device design path inst other ty kind input pin lut here there is of_type in
    let mark = are input pin text at named in
    unmarked known design path marks input text mark.0
    (none input (slice_get_within lut.input_pins input pin at)) mark.1 mark.2

-- Where inputs stand.

declared_written : (names : List Text) (design : NetlistRec) (path : Path) (inst : CellInstance)
    (ports : List PortNumber) (place index : ℕ) (text : Text)
    → instance_at design path ≡ Some inst → ports_of design inst.cell ≡ ports
    → IsDeclared names design path place index text
    → IsWrittenAt names design ports place index text
declared_written names design path inst ports place index text at same is =
    let insts : is.pin.inst ≡ inst = same_Some is.pin.inst inst (sym is.pin.leaf.leaf.is ∙ at) in
    let all : ports ≡ ports_of design is.pin.inst.cell =
    sym same ∙ ap (λ (x : CellInstance). ports_of design x.cell) (sym insts) in
    record {
      number = is.bit.port;
      which = ap (λ ps. slice_get ps place) all ∙ is.pin.which;
      port = is.port;
      port_is = is.pin.port_is;
      within = is.within;
      text_is = is.text_is;
    }

written_declared : (names : List Text) (design : NetlistRec) (path : Path) (inst : CellInstance)
    (ty : ℕ) (ports : List PortNumber) (place index : ℕ) (text : Text)
    → IsLeafOf design path inst ty → ports_of design inst.cell ≡ ports
    → IsWrittenAt names design ports place index text
    → IsDeclared names design path place index text
written_declared names design path inst ty ports place index text leaf same is = record {
  bit = record { port = is.number; index = index };
  port = is.port;
  pin = record {
    inst = inst;
    ty = ty;
    leaf = leaf;
    which = ap (λ ps. slice_get ps place) same ∙ is.which;
    port_is = is.port_is;
    index_is = refl;
  };
  within = is.within;
  text_is = is.text_is;
}

-- where an input of a leaf stands, by the declaration
abbrev pub Stands : List Text → NetlistRec → Path → (place index input : ℕ) → Text → Type 0
Stands names design path place index input text = IsDeclared names design path place index text
    ⊎ (((p i : ℕ) → ¬ IsDeclared names design path p i text)
    × ((inst : CellInstance) × (instance_at design path ≡ Some inst)
    × (place ≡ length (ports_of design inst.cell)) × (index ≡ input)))

standing : (names : List Text) (design : NetlistRec) (path : Path) (inst : CellInstance)
    (ty : ℕ) (ports : List PortNumber) (input place index : ℕ) (text : Text)
    → IsLeafOf design path inst ty → ports_of design inst.cell ≡ ports
    → IsStanding names design ports input text place index
    → Stands names design path place index input text
standing names design path inst ty ports input place index text leaf same is = elim is [
  | inl here ↦ inl (written_declared names design path inst ty ports place index text leaf same
      here)
  | inr behind ↦ inr (
    λ p i d. behind.0 p i
        (declared_written names design path inst ports p i text leaf.leaf.is same d),
    (inst, leaf.leaf.is, behind.1 ∙ ap length (sym same), behind.2),
  )
]

stood : (names : List Text) (design : NetlistRec) (path : Path) (inst : CellInstance)
    (ty : ℕ) (ports : List PortNumber) (input place index : ℕ) (text : Text)
    → IsLeafOf design path inst ty → ports_of design inst.cell ≡ ports
    → Stands names design path place index input text
    → IsStanding names design ports input text place index
stood names design path inst ty ports input place index text leaf same is = elim is [
  | inl here ↦ inl
      (declared_written names design path inst ports place index text leaf.leaf.is same here)
  | inr behind ↦
      let insts : behind.1.0 ≡ inst =
      same_Some behind.1.0 inst (sym behind.1.1 ∙ leaf.leaf.is) in
      inr (
        λ p i w. behind.0 p i
            (written_declared names design path inst ty ports p i text leaf same w),
        behind.1.2 ∙ ap (λ (x : CellInstance). length (ports_of design x.cell)) insts ∙ ap length
            same,
        behind.1.3,
      )
]

-- the first that is open breaks the rule, and none before it
pub first_open : (known : Known) (design : NetlistRec) (path : Path) (inst : CellInstance)
    (ty : ℕ) (lut : LutCell) (ports : List PortNumber) (marks : List Bool) (name : ℕ)
    → IsPlainLeaf known.device design path inst ty → ports_of design inst.cell ≡ ports
    → lut_of_type known.device ty ≡ Some lut → AreOpen known design path lut.input_pins marks
    → IsFirstOpen known.names design ports lut.input_pins marks name
    → IsFirstOpenOf known.names known.device design path name
first_open known design path inst ty lut ports marks name plain same is are first =
    let here = first.here in
    let mark = are here.input name here.text here.pin here.named in
    let set : not mark.0 ≡ false =
    ap not (same_Some mark.0 true (sym mark.1 ∙ here.is_open)) in
    record {
      place = first.place;
      index = first.index;
      text = here.text;
      named = here.named;
      here = (
        here.input,
        record {
          inst = inst;
          ty = ty;
          leaf = plain;
          pin = name;
          of_type = (lut, is, here.pin);
          named = here.named;
          not_joined = subst (IsPin known design path here.text) set mark.2;
        },
        standing known.names design path inst ty ports here.input first.place first.index here.text
            plain.leaf same here.stands,
      );
      first = λ p i text broken earlier.
          let missing = broken.1 in
          let at : slice_get lut.input_pins broken.0 ≡ Some missing.pin =
          input_of known.device design path inst missing.inst ty missing.ty broken.0 missing.pin lut
          plain
          missing.leaf is missing.of_type in
          let found = are broken.0 missing.pin text at missing.named in
          first.first missing.pin p i record {
            input = broken.0;
            pin = at;
            is_open = marked known design path marks broken.0 text found.0 missing.not_joined
                found.1
                found.2;
            text = text;
            named = missing.named;
            stands = stood known.names design path inst ty ports broken.0 p i text plain.leaf same
                broken.2;
          } earlier;
    }

-- what is answered, whichever it is
pub answered : (known : Known) (design : NetlistRec) (path : Path) (inst : CellInstance)
    (ty : ℕ) (lut : LutCell) (ports : List PortNumber) (marks : List Bool) (found : Option ℕ)
    → IsPlainLeaf known.device design path inst ty → ports_of design inst.cell ≡ ports
    → lut_of_type known.device ty ≡ Some lut → AreOpen known design path lut.input_pins marks
    → AnswersOpen known.names design ports lut.input_pins marks found
    → MatchOption found (AreAllJoined known.names known.device design path)
    (IsFirstOpenOf known.names known.device design path)
answered known design path inst ty lut ports marks None plain same is are h =
    none_open known design path inst ty lut marks plain is are h
answered known design path inst ty lut ports marks (Some name) plain same is are h =
    first_open known design path inst ty lut ports marks name plain same is are h

-- what is known of an instance's nets
pub given : (known : Known) (names : List Text) (design : NetlistRec) (device : DeviceRec)
    (luts : FirstByKey ℕ) (joined : Joined) (states : List NetState) (instance : ℕ) (path : Path)
    (inst : CellInstance) (ty : ℕ)
    → AreSinksKnown known names design device luts joined states
    → IsPlainAt known design joined instance path inst ty
    → IsGiven known design device.constants joined states instance path
given known names design device luts joined states instance path inst ty sinks is = record {
  joined_is = is.joined_is;
  constants_are = ap (λ (d : DeviceRec). d.constants) sinks.device_is;
  many = sinks.many;
  are_states = sinks.states_are;
  below = below_top known design joined instance path inst ty is;
  path_is = is.path_is;
  inst = inst;
  leaf = is.plain.leaf.leaf;
}

-- an answer that is there says more
pub if_ok : {A E : Type 0} (P Q : A → Type 0) (r : Result A E) → ((x : A) → P x → Q x) → IfOk r P
    → IfOk r Q
if_ok P Q (Ok x) more h = more x h
if_ok P Q (Err e) more h = tt
