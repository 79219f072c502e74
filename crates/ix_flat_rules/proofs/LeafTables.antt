-- Leaves of LUT types that have no table, and N6 as a whole.
use Rattle.std.proofs.Common.{◌≡◌, ◌<◌, ◌≤◌, ◌+◌, ◌↔◌, ap, refl, sym, subst, ◌∙◌, ℕ, zero, suc}
use Rattle.std.proofs.Common.{List}
use Rattle.std.proofs.Common.{[], ◌∷◌, map, slice_get, Option, Some, None, arith, length, inl, inr}
use Rattle.std.proofs.Common.{◌&&◌, get_or, Bool, true, false, not}
use Rattle.std.specs.Prelude.{is_none, is_some, IsTrue, MatchOption}
use Rattle.std.specs.Option.{option_and_then}
use Rattle.std.proofs.lemmas.Bool.{cases_lt, false≢true}
use Rattle.std.proofs.lemmas.Option.{none-some, same_Some, slice_get-get_or, slice_get_within}
use Rattle.ix_message.specs.Shape.{Text}
use Rattle.ix_rec.specs.declared.device.DeviceRec.{DeviceRec}
use Rattle.ix_rec.specs.declared.device.LutCell.{LutCell}
use Rattle.ix_rec.specs.declared.flow.TruthTable.{TruthTable}
use Rattle.ix_rec.specs.declared.netlist.CellInstance.{CellInstance}
use Rattle.ix_rec.specs.declared.netlist.NetlistRec.{NetlistRec}
use Rattle.ix_rec.specs.declared.place.Rule.TheVariants.{N6}
use Rattle.ix_hierarchy.specs.Hierarchy.{flat_name}
use Rattle.ix_hierarchy.specs.Walk.{InstanceAt, IsBefore, NetAt, PinAt, Spot, TopBit}
use Rattle.ix_hierarchy.specs.Walk.{key}
use Rattle.ix_hierarchy.specs.FlatDesign.{LeafCell, lut_of_type, table_of}
use Rattle.ix_hierarchy.specs.Pins.{type_of}
use Rattle.ix_hierarchy.specs.Broken.{BreaksN6, HasNoTable, IsCellText, Keeps4, NoneBreaks}
use Rattle.ix_asked.specs.declared.fault.DesignFault.{DesignFault}
use Rattle.ix_asked.specs.Faults.{IsDesignFault}
use Rattle.ix_joined.specs.declared.joined.Joined.{Joined}
use Rattle.ix_joined.specs.Joining.{Known, TopPlace}
use Rattle.ix_flat_lists.specs.Listed.{AreLeaves}
use Rattle.ix_lut_tables.specs.Tables.{table_of_instance}
use Rattle.ix_flat_rules.specs.Lacking.{IsFirstLacking, NoneLacks}
use Rattle.ix_flat_rules.specs.Told.{IsToldAs}
use Rattle.ix_flat_rules.proofs.Listings.{IsLeafAt}
use Rattle.ix_flat_rules.proofs.LutPorts.{IsPortBroken}
use Rattle.ix_flat_rules.proofs.Orders.{less_asym, no_instance_before}
use Rattle.ix_flat_rules.proofs.Telling.{told_fault}

-- the table at an instance's number
table_at : {A B : Type 0} (f : A → B) (xs : List A) (i : ℕ) (x : A) → slice_get xs i ≡ Some x
    → slice_get (map f xs) i ≡ Some (f x)
table_at f [] i x h = absurd (none-some x h)
table_at f (y ∷ xs) zero x h = ap (λ z. Some (f z)) (same_Some y x h)
table_at f (y ∷ xs) (suc i) x h = table_at f xs i x h

pub table_read : {A B : Type 0} (f : A → B) (xs : List A) (tables : List B) (i : ℕ) (x : A)
    (none : B) → tables ≡ map f xs → slice_get xs i ≡ Some x → get_or tables i none ≡ f x
table_read f xs tables i x none are h =
    let there : slice_get tables i ≡ Some (f x) =
    ap (λ ts. slice_get ts i) are ∙ table_at f xs i x h in
    same_Some (get_or tables i none) (f x)
    (sym (slice_get-get_or tables i none (slice_get_within tables i (f x) there)) ∙ there)

-- tables by the names that are known
pub tables_known : (known : Known) (names : List Text) (rec : DeviceRec) (design : NetlistRec)
    (tables : List (Option TruthTable)) → known.names ≡ names
    → tables ≡ map (table_of_instance names rec design) design.inst_list
    → tables ≡ map (table_of_instance known.names rec design) design.inst_list
tables_known known names rec design tables same are =
    subst (λ (ns : List Text). tables ≡ map (table_of_instance ns rec design) design.inst_list)
    (sym same) are

-- as it is of a LUT cell's type
table_is : (names : List Text) (rec : DeviceRec) (design : NetlistRec) (inst : CellInstance)
    (ty : ℕ) (lut : LutCell) → type_of design inst ≡ Some ty → lut_of_type rec ty ≡ Some lut
    → table_of_instance names rec design inst ≡ table_of names lut inst
table_is names rec design inst ty lut t l =
    ap (option_and_then (λ kind. option_and_then (λ (x : LutCell). table_of names x inst)
    (lut_of_type rec kind))) t
    ∙ ap (option_and_then (λ (x : LutCell). table_of names x inst)) l

-- a LUT cell whose table is none lacks it
lacks : (names : List Text) (rec : DeviceRec) (design : NetlistRec) (inst : CellInstance)
    (ty : ℕ) (lut : LutCell) → type_of design inst ≡ Some ty → lut_of_type rec ty ≡ Some lut
    → table_of_instance names rec design inst ≡ None → HasNoTable names rec inst ty
lacks names rec design inst ty lut t l none =
    (lut, l, sym (table_is names rec design inst ty lut t l) ∙ none)

lacking_none : (names : List Text) (rec : DeviceRec) (design : NetlistRec)
    (inst : CellInstance) (ty : ℕ) → type_of design inst ≡ Some ty → HasNoTable names rec inst ty
    → table_of_instance names rec design inst ≡ None
lacking_none names rec design inst ty t is =
    table_is names rec design inst ty is.0 t is.1 ∙ is.2

pub none_of : {A : Type 0} (o : Option A) (b : Bool) → is_some o ≡ not b → is_none o ≡ b
none_of None true h = refl
none_of None false h = absurd (false≢true h)
none_of (Some x) true h = absurd (false≢true (sym h))
none_of (Some x) false h = refl

-- whether the table of a type that was looked up is there
pub lacks_both : {A : Type 0} (now : A → LutCell) (names : List Text) (rec : DeviceRec)
    (design : NetlistRec) (inst : CellInstance) (ty : ℕ) (lut : Option A)
    (table : Option TruthTable) → type_of design inst ≡ Some ty
    → MatchOption lut (lut_of_type rec ty ≡ None) (λ x. lut_of_type rec ty ≡ Some (now x))
    → table ≡ table_of_instance names rec design inst
    → IsTrue (is_some lut && is_none table) ↔ HasNoTable names rec inst ty
lacks_both now names rec design inst ty None table t h is = (
  λ e. absurd (false≢true e),
  λ has. absurd (none-some has.0 (sym h ∙ has.1)),
)
lacks_both now names rec design inst ty (Some x) None t h is = (
  λ e. lacks names rec design inst ty (now x) t h (sym is),
  λ has. refl,
)
lacks_both now names rec design inst ty (Some x) (Some table) t h is = (
  λ e. absurd (false≢true e),
  λ has. absurd (none-some table (sym (is ∙ lacking_none names rec design inst ty t has))),
)

-- none of the first so many leaves lacks its table
abbrev pub NoneLacksTo : Known → List LeafCell → (count : ℕ) → Type 0
NoneLacksTo known cells count = (k : ℕ) (leaf : LeafCell) → k < count
    → slice_get cells k ≡ Some leaf → ¬ HasNoTable known.names known.device leaf.inst leaf.ty

pub lacks_next : (known : Known) (cells : List LeafCell) (count : ℕ) (leaf : LeafCell)
    → NoneLacksTo known cells count → slice_get cells count ≡ Some leaf
    → ¬ HasNoTable known.names known.device leaf.inst leaf.ty
    → NoneLacksTo known cells (count + 1)
lacks_next known cells count leaf before at has = λ k other less there.
    elim (cases_lt k count) [
      | inl lt ↦ before k other lt there
      | inr le ↦
          let same : count ≡ k = omega arith in
          let leaves : leaf ≡ other = same_Some leaf other (sym at ∙ ap (slice_get cells) same
          ∙ there) in
          subst (λ (l : LeafCell). ¬ HasNoTable known.names known.device l.inst l.ty) leaves has
    ]

pub none_lacks : (known : Known) (design : NetlistRec) (leaves : List ℕ) (cells : List LeafCell)
    (count : ℕ) → AreLeaves known design leaves cells → length leaves ≤ count
    → NoneLacksTo known cells count → NoneLacks known design
none_lacks known design leaves cells count are whole none path broken =
    let found = are.are.all path broken.0 broken.1 broken.2 in
    let there : LeafCell = record { path = path; inst = broken.0; ty = broken.1 } in
    let many : length leaves ≡ length cells = are.many in
    let less : found.0 < length cells = slice_get_within cells found.0 there found.1 in
    none found.0 there (omega arith) found.1 broken.3

pub first_lacking : (known : Known) (design : NetlistRec) (joined : Joined) (leaves : List ℕ)
    (cells : List LeafCell) (k instance : ℕ) → AreLeaves known design leaves cells
    → NoneLacksTo known cells k → (at : IsLeafAt known design joined cells k instance)
    → HasNoTable known.names known.device at.leaf.inst at.leaf.ty
    → IsFirstLacking known design instance
first_lacking known design joined leaves cells k instance are none at has = record {
  path = at.leaf.path;
  path_is = at.plain.path_is;
  here = (at.leaf.inst, at.leaf.ty, at.plain.plain, has);
  first = λ other before broken.
      let found = are.are.all other broken.0 broken.1 broken.2 in
      let there : LeafCell = record { path = other; inst = broken.0; ty = broken.1 } in
      let keys = key (InstanceAt other) in
      let key_at = key (InstanceAt at.leaf.path) in
      elim (cases_lt found.0 k) [
        | inl less ↦ none found.0 there less found.1 broken.3
        | inr le ↦ elim (cases_lt k found.0) [
          | inl more ↦ less_asym keys key_at before
              (are.are.rise k found.0 at.leaf there more at.leaf_is found.1)
          | inr ge ↦
              let same : k ≡ found.0 = omega arith in
              let leaves_same : at.leaf ≡ there = same_Some at.leaf there (sym at.leaf_is
              ∙ ap (slice_get cells) same ∙ found.1) in
              let again : IsBefore (InstanceAt at.leaf.path) (InstanceAt at.leaf.path) =
              subst (λ (l : LeafCell). IsBefore (InstanceAt l.path) (InstanceAt at.leaf.path))
              (sym leaves_same) before in
              less_asym key_at key_at again again
        ]
      ];
}

-- N6 is kept where no port cell and no leaf breaks it
pub keeps_tables : (known : Known) (design : NetlistRec)
    → ((place index : ℕ) → ¬ BreaksN6 known.names known.device design (TopBit place index))
    → NoneLacks known design → NoneBreaks (BreaksN6 known.names known.device design)
keeps_tables known design ports leaves (TopBit place index) broken = ports place index broken
keeps_tables known design ports leaves (InstanceAt path) broken = leaves path broken
keeps_tables known design ports leaves (NetAt path net) broken = broken
keeps_tables known design ports leaves (PinAt path place index) broken = broken

-- a port cell is told
before_port : (known : Known) (design : NetlistRec) (at : TopPlace) → IsPortBroken known design at
    → (other : Spot) → IsBefore other (TopBit at.place at.index)
    → BreaksN6 known.names known.device design other → ⊥
before_port known design at is (TopBit place index) before broken =
    is.first place index before broken
before_port known design at is (InstanceAt path) before broken =
    no_instance_before path at.place at.index before
before_port known design at is (NetAt path net) before broken = broken
before_port known design at is (PinAt path place index) before broken = broken

pub port_told : (known : Known) (design : NetlistRec) (at : TopPlace) (Is : Text → Type 0)
    (fault : DesignFault) → Keeps4 known.names known.device design → IsPortBroken known design at
    → ((word : Text) → Is word
    → IsCellText known.names design (TopBit at.place at.index) word)
    → IsToldAs N6 Is fault → IsDesignFault known.names known.device design fault
port_told known design at Is fault keeps is text =
    told_fault known.names known.device design N6 Is fault
    (λ word w. (
      keeps,
      record {
        spot = TopBit at.place at.index;
        first = record { here = is.here; first = before_port known design at is };
        word_is = text word w;
      },
    ))

-- a leaf is told
before_leaf : (known : Known) (design : NetlistRec) (instance : ℕ)
    → ((place index : ℕ) → ¬ BreaksN6 known.names known.device design (TopBit place index))
    → (is : IsFirstLacking known design instance) → (other : Spot)
    → IsBefore other (InstanceAt is.path) → BreaksN6 known.names known.device design other → ⊥
before_leaf known design instance ports is (TopBit place index) before broken =
    ports place index broken
before_leaf known design instance ports is (InstanceAt path) before broken =
    is.first path before broken
before_leaf known design instance ports is (NetAt path net) before broken = broken
before_leaf known design instance ports is (PinAt path place index) before broken = broken

pub leaf_told : (known : Known) (design : NetlistRec) (instance : ℕ) (fault : DesignFault)
    → Keeps4 known.names known.device design
    → ((place index : ℕ) → ¬ BreaksN6 known.names known.device design (TopBit place index))
    → (is : IsFirstLacking known design instance)
    → IsToldAs N6 (λ word. word ≡ flat_name known.names design is.path []) fault
    → IsDesignFault known.names known.device design fault
leaf_told known design instance fault keeps ports is =
    told_fault known.names known.device design N6
    (λ word. word ≡ flat_name known.names design is.path []) fault
    (λ word w. (
      keeps,
      record {
        spot = InstanceAt is.path;
        first = record { here = is.here; first = before_leaf known design instance ports is };
        word_is = w;
      },
    ))
