-- Pins of leaves.
use Rattle.std.proofs.Common.{◌≡◌, ◌<◌, ◌≤◌, ◌+◌, ap, refl, sym, subst, ◌∙◌, ℕ, List, length, true, false, Some, None, arith, inl, inr, get_or}
use Rattle.std.specs.Prelude.{◌↔◌, slice_get, IsTrue}
use Rattle.std.proofs.lemmas.Bool.{cases_lt}
use Rattle.ix_num.specs.declared.resource.Constant.{Constant}
use Rattle.ix_rec.specs.declared.netlist.CellInstance.{CellInstance}
use Rattle.ix_rec.specs.declared.netlist.NetlistRec.{NetlistRec}
use Rattle.ix_hierarchy.specs.Hierarchy.{Path, PortBit, instance_at}
use Rattle.ix_hierarchy.specs.Pins.{Pin, LeafPin, IsConstantPin, IsDriver, IsOnNet, IsPlainLeaf, constant_of_type, type_of}
use Rattle.ix_hierarchy.specs.FlatDesign.{LeafCell}
use Rattle.ix_hierarchy.specs.declared.row.Row.{Row}
use Rattle.ix_hierarchy.specs.Lists.{bit_in}
use Rattle.ix_joined.specs.declared.joined.Joined.{Joined}
use Rattle.ix_joined.specs.declared.pin.Role.{Role}
use Rattle.ix_joined.specs.declared.pin.Role.TheVariants as roles
use Rattle.ix_joined.specs.Joining.{Known}
use Rattle.ix_pins.specs.Places.{ArePins, HasRole, IsPinPlace}
use Rattle.ix_wiring.specs.declared.flat_pin.FlatPin.{FlatPin}
use Rattle.ix_flat_pins.specs.Items.{Adds, IsJust, IsPinOfLeaf, IsPinOfLeaves, IsRowPin, Parts, is_driver}
use Rattle.ix_flat_pins.proofs.Adding.{adds_as, adds_more, adds_none, item_at}
use Rattle.std.proofs.lemmas.Option.{slice_get-get_or}
use Rattle.ix_flat_lists.specs.Listed.{AreLeaves}

some_in : {X : Type 0} (x y : X) → Some x ≡ Some y → x ≡ y
some_in x y e = cc

none_some : {X : Type 0} (x : X) → None ≡ Some x → ⊥
none_some x e = cc

-- a plain leaf has no constant pin
no_constant : (known : Known) (design : NetlistRec) (path : Path) (inst : CellInstance) (ty : ℕ) (constant : Constant)
    (p : Path) (bit b : PortBit) → IsPlainLeaf known.device design path inst ty → LeafPin path bit ≡ LeafPin p b
    → IsConstantPin known.names known.device design constant p b → ⊥
no_constant known design path inst ty constant p bit b plain e k =
    let paths : path ≡ p = cc in
    let insts : inst ≡ k.inst = some_in inst k.inst (sym plain.leaf.leaf.is ∙ ap (instance_at design) paths ∙ k.leaf.leaf.is) in
    let types : ty ≡ k.ty = some_in ty k.ty (sym plain.leaf.type_is ∙ ap (type_of design) insts ∙ k.leaf.type_is) in
    none_some constant (sym plain.plain ∙ ap (constant_of_type known.device) types ∙ k.constant_is)

no_true : false ≡ true → ⊥
no_true e = cc

pub plain_drives : (known : Known) (design : NetlistRec) (path : Path) (inst : CellInstance) (ty : ℕ) (bit : PortBit) (role : Role)
    → IsPlainLeaf known.device design path inst ty → HasRole known.names known.device design (LeafPin path bit) role
    → IsTrue (is_driver role) ↔ IsDriver known.names known.device design (LeafPin path bit)
plain_drives known design path inst ty bit roles.Driver plain has = has.driver
plain_drives known design path inst ty bit (roles.Constant c) plain has =
    let k = (has.constant c).0 refl in
    absurd (no_constant known design path inst ty c k.0 bit k.1 plain k.2 k.3)
plain_drives known design path inst ty bit roles.Sink plain has = has.driver
plain_drives known design path inst ty bit roles.Nothing plain has = has.driver

abbrev pub RowsSoFar : Known → NetlistRec → Parts → Joined → (path : Path) (start place cell : ℕ) → (old new : List FlatPin) → Type 0
RowsSoFar known design parts joined path start place cell old new =
    Adds known design parts (IsRowPin joined path start place cell) old new

pub rows_none : (known : Known) (design : NetlistRec) (parts : Parts) (joined : Joined) (path : Path) (start cell : ℕ)
    (items : List FlatPin) → RowsSoFar known design parts joined path start start cell items items
rows_none known design parts joined path start cell items =
    adds_none known design parts (IsRowPin joined path start start cell) items (λ pin c r. no_room r.from r.to)
  where
    no_room : {k : ℕ} → start ≤ k → k < start → ⊥
    no_room a b = omega arith

pub rows_more : (known : Known) (design : NetlistRec) (parts : Parts) (joined : Joined) (instance : ℕ) (path : Path) (start place cell : ℕ)
    (old mid new : List FlatPin) → start ≤ place → slice_get known.paths instance ≡ Some path
    → (at : IsPinPlace known design joined instance place)
    → RowsSoFar known design parts joined path start place cell old mid
    → Adds known design parts (IsJust (LeafPin at.path (bit_in at.row)) cell) mid new
    → RowsSoFar known design parts joined path start (place + 1) cell old new
rows_more known design parts joined instance path start place cell old mid new from path_is at so_far more =
    let same : at.path ≡ path = some_in at.path path (sym at.path_is ∙ path_is) in
    adds_more known design parts (IsRowPin joined path start place cell) (IsJust (LeafPin at.path (bit_in at.row)) cell)
    (IsRowPin joined path start (place + 1) cell) old mid new
    (λ pin c r. elim (cases_lt r.place place) [
      | inl less ↦ inl (record { place = r.place; from = r.from; to = less; row = r.row; row_is = r.row_is; pin_is = r.pin_is; cell_is = r.cell_is })
      | inr ge ↦
          let here : r.place ≡ place = omega (arith, r.to) in
          let row : r.row ≡ at.row = some_in r.row at.row (sym r.row_is ∙ ap (slice_get joined.outer.rows) here ∙ at.row_is) in
          inr (r.pin_is ∙ ap (λ (x : Row). LeafPin path (bit_in x)) row ∙ ap (λ (p : Path). LeafPin p (bit_in at.row)) (sym same), r.cell_is)
    ])
    (λ pin c r. record { place = r.place; from = r.from; to = omega (arith, r.to); row = r.row; row_is = r.row_is; pin_is = r.pin_is; cell_is = r.cell_is })
    (λ pin c j. record {
      place = place;
      from = from;
      to = omega arith;
      row = at.row;
      row_is = at.row_is;
      pin_is = j.0 ∙ ap (λ (p : Path). LeafPin p (bit_in at.row)) same;
      cell_is = j.1;
    })
    so_far more

pub rows_all : (known : Known) (design : NetlistRec) (parts : Parts) (joined : Joined) (instance : ℕ) (path : Path) (start end cell : ℕ)
    (old new : List FlatPin) → ArePins known design joined instance path start end
    → RowsSoFar known design parts joined path start end cell old new
    → Adds known design parts (IsPinOfLeaf path cell) old new
rows_all known design parts joined instance path start end cell old new are so_far =
    adds_as known design parts (IsRowPin joined path start end cell) (IsPinOfLeaf path cell) old new
    (λ pin c r. record { bit = bit_in r.row; pin_is = r.pin_is; cell_is = r.cell_is })
    (λ pin c at its on.
    let there = subst (λ (p : Pin). IsOnNet design p at) its.pin_is on in
    let r = are.all its.bit there.where_at there.on in
    record {
      place = r.0;
      from = r.2;
      to = r.3;
      row = r.1;
      row_is = r.4;
      pin_is = its.pin_is ∙ ap (LeafPin path) (sym r.5);
      cell_is = its.cell_is;
    })
    so_far

pub leaves_none : (known : Known) (design : NetlistRec) (parts : Parts) (ports : ℕ) (items : List FlatPin)
    → Adds known design parts (IsPinOfLeaves parts.cells ports 0) items items
leaves_none known design parts ports items =
    adds_none known design parts (IsPinOfLeaves parts.cells ports 0) items (λ pin c r. none r.low)
  where
    none : {k : ℕ} → k < 0 → ⊥
    none h = omega arith

pub leaves_more : (known : Known) (design : NetlistRec) (parts : Parts) (ports k : ℕ) (leaf : LeafCell)
    (old mid new : List FlatPin) → slice_get parts.cells k ≡ Some leaf
    → Adds known design parts (IsPinOfLeaves parts.cells ports k) old mid
    → Adds known design parts (IsPinOfLeaf leaf.path (ports + k)) mid new
    → Adds known design parts (IsPinOfLeaves parts.cells ports (k + 1)) old new
leaves_more known design parts ports k leaf old mid new leaf_is so_far more =
    adds_more known design parts (IsPinOfLeaves parts.cells ports k) (IsPinOfLeaf leaf.path (ports + k))
    (IsPinOfLeaves parts.cells ports (k + 1)) old mid new
    (λ pin c r. elim (cases_lt r.k k) [
      | inl less ↦ inl (record { k = r.k; leaf = r.leaf; low = less; leaf_is = r.leaf_is; its = r.its })
      | inr ge ↦
          let here : r.k ≡ k = omega (arith, r.low) in
          let same : r.leaf ≡ leaf = some_in r.leaf leaf (sym r.leaf_is ∙ ap (slice_get parts.cells) here ∙ leaf_is) in
          inr (subst (λ (x : LeafCell). IsPinOfLeaf x.path (ports + k) pin c) same
          (subst (λ (n : ℕ). IsPinOfLeaf r.leaf.path (ports + n) pin c) here r.its))
    ])
    (λ pin c r. record { k = r.k; leaf = r.leaf; low = omega (arith, r.low); leaf_is = r.leaf_is; its = r.its })
    (λ pin c r. record { k = k; leaf = leaf; low = omega arith; leaf_is = leaf_is; its = r })
    so_far more

-- a row's pin is one, however it is found
pub same_pin : (known : Known) (design : NetlistRec) (joined : Joined) (instance place : ℕ)
    (a b : IsPinPlace known design joined instance place) → LeafPin a.path (bit_in a.row) ≡ LeafPin b.path (bit_in b.row)
same_pin known design joined instance place a b =
    let paths : a.path ≡ b.path = some_in a.path b.path (sym a.path_is ∙ b.path_is) in
    let rows : a.row ≡ b.row = some_in a.row b.row (sym a.row_is ∙ b.row_is) in
    ap (λ (p : Path). LeafPin p (bit_in a.row)) paths ∙ ap (λ (r : Row). LeafPin b.path (bit_in r)) rows

pub same_path : (known : Known) (design : NetlistRec) (joined : Joined) (instance place : ℕ)
    (a b : IsPinPlace known design joined instance place) → a.path ≡ b.path
same_path known design joined instance place a b = some_in a.path b.path (sym a.path_is ∙ b.path_is)

pub path_at : (known : Known) (design : NetlistRec) (joined : Joined) (instance place : ℕ) (path : Path)
    → slice_get known.paths instance ≡ Some path → (at : IsPinPlace known design joined instance place) → path ≡ at.path
path_at known design joined instance place path path_is at = some_in path at.path (sym path_is ∙ at.path_is)

-- a leaf that is a cell, by its place
pub record IsLeafAt (known : Known) (design : NetlistRec) (parts : Parts) (leaves : List ℕ) (k : ℕ) : Type 0 where
  pub leaf : LeafCell
  pub leaf_is : slice_get parts.cells k ≡ Some leaf
  pub path_is : slice_get known.paths (get_or leaves k 0) ≡ Some leaf.path
  pub plain : IsPlainLeaf known.device design leaf.path leaf.inst leaf.ty

pub leaf_at : (known : Known) (design : NetlistRec) (parts : Parts) (leaves : List ℕ) (k : ℕ)
    → AreLeaves known design leaves parts.cells → k < length leaves → IsLeafAt known design parts leaves k
leaf_at known design parts leaves k are lt =
    let leaf = item_at parts.cells k (omega (arith, are.many)) in
    record {
      leaf = leaf.0;
      leaf_is = leaf.1;
      path_is = are.each k (get_or leaves k 0) leaf.0 (slice_get-get_or leaves k 0 lt) leaf.1;
      plain = are.are.each k leaf.0 leaf.1;
    }
