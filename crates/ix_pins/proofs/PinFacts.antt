-- What is known of the pin of a row.
use Rattle.std.proofs.Common.{◌≡◌, ◌<◌, ◌+◌, ap, refl, sym, subst, ◌∙◌, ℕ, zero, suc, [], ◌∷◌}
use Rattle.std.proofs.Common.{◌++◌, slice_get, Some, arith, length, ◌&&◌}
use Rattle.std.specs.List.{position}
use Rattle.std.proofs.Common.{nat_eq, get_or}
use Rattle.std.proofs.lemmas.Option.{same_Some, option_and_then_some, slice_get_within, slice_get_read}
use Rattle.ix_message.specs.Shape.{Text}
use Rattle.ix_rec.specs.declared.device.Direction.{Direction}
use Rattle.ix_rec.specs.declared.netlist.Cell.{Cell}
use Rattle.ix_rec.specs.declared.netlist.CellInstance.{CellInstance}
use Rattle.ix_rec.specs.declared.netlist.NetlistRec.{NetlistRec}
use Rattle.ix_hierarchy.specs.declared.instance.Instance.{Instance}
use Rattle.ix_hierarchy.specs.declared.kind.Kind.{Kind}
use Rattle.ix_hierarchy.specs.declared.kind.Kind.TheVariants.{Inside, Constant, Plain, Unknown}
use Rattle.ix_hierarchy.specs.declared.row.Row.{Row}
use Rattle.ix_hierarchy.specs.Hierarchy.{Path, PortBit, IsLeaf, inside, inside_at, written_bit}
use Rattle.ix_hierarchy.specs.Walk.{InstanceAt}
use Rattle.ix_hierarchy.specs.Nets.{bit_of, is_of, same_bit}
use Rattle.ix_hierarchy.specs.Fits.{CellFits, NetFits, PortInstanceFits}
use Rattle.ix_hierarchy.specs.Pins.{LeafPin, IsLeafOf, direction_of}
use Rattle.ix_hierarchy.specs.Lists.{IsKind, IsLeafType, IsNumber, bit_in}
use Rattle.ix_joined.specs.declared.joined.Joined.{Joined}
use Rattle.ix_joined.specs.Joining.{Known, IsJoined}
use Rattle.ix_joined.specs.Roles.{role_in}
use Rattle.ix_pins.specs.Places.{HasRole, IsPinPlace}
use Rattle.ix_pins.proofs.Apart.{bits_same}
use Rattle.ix_pins.proofs.Basics.{any_there, both_true, none_last, same_last}
use Rattle.ix_pins.proofs.Finds.{at_place, find_place, is_placed, IsPlaced}
use Rattle.ix_pins.proofs.Leaves.{is_leaf, no_leaf, type_told}
use Rattle.ix_pins.proofs.Parents.{IsWithin, is_within, row_number}
use Rattle.ix_pins.proofs.Roles.{constant_role, plain_role}

-- a leaf isn't the top
pub above_zero : (known : Known) (design : NetlistRec) (joined : Joined) (i place : ℕ)
    → IsJoined known design joined → IsPinPlace known design joined i place → 0 < i
above_zero known design joined zero place are at =
    absurd (none_last at.parent at.on.place (same_Some [] (at.parent ++ at.on.place ∷ [])
    (sym are.are_instances.top ∙ at.path_is ∙ ap Some at.on.below)))
above_zero known design joined (suc i) place are at = omega arith

pub record PinFacts (known : Known) (design : NetlistRec) (joined : Joined) (i : ℕ)
    (path : Path) (row : Row) (parent : Path) : Type 0 where
  pub within : IsWithin known design joined i path
  pub is_number : IsNumber design joined.instances.items known.paths
      record { path = parent; net = row.net } (within.above.first_net + row.net)
  pub less : within.above.first_net + row.net < length joined.firsts.items
  pub port : row.port < length design.port_list

-- a cell is in the list
cell_listed : (design : NetlistRec) (declaration : ℕ) (cell : Cell)
    → inside design declaration ≡ Some cell
    → (place : ℕ) × (slice_get design.cell_list place ≡ Some cell)
cell_listed design declaration cell h =
    option_and_then_some (slice_get design.cell_list)
    (position (λ (c : Cell). nat_eq c.index declaration) design.cell_list) cell
    (sym (find_place (λ (c : Cell). nat_eq c.index declaration) design.cell_list) ∙ h)
    (λ place p at. (place, at))

pub pin_facts : (known : Known) (design : NetlistRec) (joined : Joined) (i place : ℕ)
    → IsJoined known design joined → (at : IsPinPlace known design joined i place)
    → PinFacts known design joined i at.path at.row at.parent
pin_facts known design joined i place are at =
    let w = is_within known design joined i at.path are
    (above_zero known design joined i place are at) at.path_is in
    let number = row_number known design joined i at.row.net at.path (bit_in at.row) at.parent w at.on
    in
    let last = same_last at.parent w.parent at.on.place w.one.place (sym at.on.below ∙ w.below) in
    let cells : at.on.cell ≡ w.cell = same_Some at.on.cell w.cell (sym at.on.occurs.inside
    ∙ ap (inside_at design) last.0 ∙ w.inside_is) in
    let listed = cell_listed design w.above.declaration w.cell w.of_above in
    let net_is : slice_get w.cell.nets at.row.net ≡ Some at.on.net =
    ap (λ (c : Cell). slice_get c.nets at.row.net) (sym cells) ∙ at.on.occurs.net_is in
    let named = any_there (λ named. is_of at.on.instance named.owner
    && same_bit (bit_of named) (bit_in at.row)) at.on.net.port_insts at.on.named in
    let both = both_true (is_of at.on.instance named.1.owner)
    (same_bit (bit_of named.1) (bit_in at.row)) named.3 in
    let fits = at_place (PortInstanceFits design w.cell.index) at.on.net.port_insts named.0 named.1
    (at_place (NetFits (length known.names) design w.cell.index) w.cell.nets at.row.net at.on.net
    (at_place (CellFits (length known.names) design) design.cell_list listed.0 w.cell are.fits.cells
    listed.1).nets net_is).named named.2 in
    record {
      within = w;
      is_number = number;
      less = are.numbered.below record { path = at.parent; net = at.row.net }
          (w.above.first_net + at.row.net) number;
      port = subst (λ n. n < length design.port_list)
          (bits_same (bit_of named.1) (bit_in at.row) both.1).0 fits.0;
    }

-- its role, by the kind of the leaf
pub leaf_role : (known : Known) (design : NetlistRec) (joined : Joined) (i : ℕ) (path : Path)
    (one : Instance) (kind : Kind) (inst : CellInstance) (bit : PortBit) (dir : Direction)
    (name : ℕ) (text : Text) → IsJoined known design joined → 0 < i
    → slice_get known.paths i ≡ Some path → slice_get joined.instances.items i ≡ Some one
    → slice_get joined.kinds.items one.declaration ≡ Some kind → IsLeaf design path inst
    → direction_of design bit ≡ Some dir → slice_get known.names name ≡ Some text
    → written_bit known.names design bit ≡ Some text
    → HasRole known.names known.device design (LeafPin path bit)
    (role_in known.device.constants kind dir name)
leaf_role known design joined i path one kind inst bit dir name text are lt at is k leaf towards n w
    =
    by kind (are.are_kinds.each one.declaration kind k)
  where
    placed : IsPlaced design path one
    placed = is_placed design joined.instances.items known.paths (length joined.firsts.items) i path
        one are.are_instances at is

    leaf_of : (ty : ℕ) → IsLeafType design one.declaration ty → IsLeafOf design path placed.inst ty
    leaf_of ty of = record {
      leaf = is_leaf design joined.instances.items known.paths (length joined.firsts.items) i path one
          placed are.are_instances lt at is of.0;
      type_is = type_told design path one ty placed of;
    }

    by : (q : Kind) → IsKind known.device design one.declaration q
        → HasRole known.names known.device design (LeafPin path bit)
        (role_in known.device.constants q dir name)
    by (Inside cell) of = absurd (no_leaf design path one inst cell placed of leaf)
    by (Constant constant) of = constant_role known.names known.device design path placed.inst of.0
        bit constant name text are.differ (leaf_of of.0 of.1) of.2 n w
    by Plain of = plain_role known.names known.device design path placed.inst of.0 bit dir
        (record { leaf = leaf_of of.0 of.1; plain = of.2 }) towards
    by Unknown of = absurd (are.keeps.0.1 (InstanceAt path)
        (placed.inst, of.0, leaf_of of.0 of.1, of.2))

-- the number as it is read
pub number_read : (known : Known) (design : NetlistRec) (joined : Joined) (i place : ℕ)
    (are : IsJoined known design joined) (at : IsPinPlace known design joined i place)
    (here above : Instance) (row : Row) → here ≡ get_or joined.instances.items i here
    → above ≡ get_or joined.instances.items here.parent above
    → slice_get joined.outer.rows place ≡ Some row
    → (pin_facts known design joined i place are at).within.above.first_net + at.row.net
    ≡ above.first_net + row.net
number_read known design joined i place are at here above row x y r =
    let all = joined.instances.items in
    let facts = pin_facts known design joined i place are at in
    let one : Instance = facts.within.one in
    let there : i < length all = slice_get_within all i one facts.within.one_is in
    let same : here ≡ one = same_Some here one
    (sym (slice_get_read all (length all) i here refl there x) ∙ facts.within.one_is) in
    let parents : here.parent ≡ one.parent = ap (λ (o : Instance). o.parent) same in
    let above_is : slice_get all here.parent ≡ Some facts.within.above =
    ap (slice_get all) parents ∙ facts.within.above_is in
    let above_there : here.parent < length all =
    slice_get_within all here.parent facts.within.above above_is in
    let above_same : above ≡ facts.within.above = same_Some above facts.within.above
    (sym (slice_get_read all (length all) here.parent above refl above_there y) ∙ above_is) in
    let rows : at.row ≡ row = same_Some at.row row (sym at.row_is ∙ r) in
    ap (λ (o : Instance). o.first_net + at.row.net) (sym above_same)
    ∙ ap (λ (r : Row). above.first_net + r.net) rows
