-- An instance below the top, the one that it is in, and that one's cell.
use Rattle.std.proofs.Common.{◌≡◌, ◌<◌, ◌+◌, ap, refl, sym, ◌∙◌, ℕ, [], ◌∷◌, ◌++◌}
use Rattle.std.proofs.Common.{slice_get, Some, arith, length, get_or, inl, inr}
use Rattle.std.proofs.lemmas.Option.{same_Some, slice_get-get_or, slice_get_within}
use Rattle.ix_rec.specs.declared.netlist.Cell.{Cell}
use Rattle.ix_rec.specs.declared.netlist.CellInstance.{CellInstance}
use Rattle.ix_rec.specs.declared.netlist.NetlistRec.{NetlistRec}
use Rattle.ix_hierarchy.specs.declared.instance.Instance.{Instance}
use Rattle.ix_hierarchy.specs.declared.row.Row.{Row}
use Rattle.ix_hierarchy.specs.Hierarchy.{Path, PortBit, IsLeaf, inside, inside_at}
use Rattle.ix_hierarchy.specs.Nets.{Occurrence, names_of}
use Rattle.ix_hierarchy.specs.Pins.{IsLeafPinOn}
use Rattle.ix_hierarchy.specs.Lists.{IsNumber, IsOuterRow, bit_in}
use Rattle.ix_pin_rows.specs.PinRows.{AreListed}
use Rattle.ix_joined.specs.declared.joined.Joined.{Joined}
use Rattle.ix_joined.specs.Joining.{Known, IsJoined}
use Rattle.ix_pins.proofs.Basics.{same_last}
use Rattle.ix_pins.proofs.Finds.{is_placed, not_top}
use Rattle.ix_pins.proofs.Occurring.{inside_placed}

pub listed : (known : Known) (design : NetlistRec) (joined : Joined) → IsJoined known design joined
    → AreListed design known.device joined.kinds.items joined.outer joined.instances.items known.paths
    (length joined.firsts.items)
listed known design joined are = record {
  names = length known.names;
  fits = are.fits;
  are_kinds = are.are_kinds;
  rows = are.rows;
  instances = are.are_instances;
}

-- where an instance is
pub record IsWithin (known : Known) (design : NetlistRec) (joined : Joined) (i : ℕ)
    (path : Path) : Type 0 where
  pub one : Instance
  pub one_is : slice_get joined.instances.items i ≡ Some one
  pub parent : Path
  pub below : path ≡ parent ++ one.place ∷ []
  pub parent_is : slice_get known.paths one.parent ≡ Some parent
  pub above : Instance
  pub above_is : slice_get joined.instances.items one.parent ≡ Some above
  pub cell : Cell
  pub inside_is : inside_at design parent ≡ Some cell
  pub of_above : inside design above.declaration ≡ Some cell
  pub which : slice_get cell.insts one.place ≡ Some one.number

pub is_within : (known : Known) (design : NetlistRec) (joined : Joined) (i : ℕ) (path : Path)
    → IsJoined known design joined → 0 < i → slice_get known.paths i ≡ Some path
    → IsWithin known design joined i path
is_within known design joined i path are lt at =
    let all = joined.instances.items in
    let none : Instance =
    record { number = 0; declaration = 0; parent = 0; place = 0; first_net = 0 } in
    let nets = length joined.firsts.items in
    let many : length known.paths ≡ length all = are.are_instances.many in
    let there : i < length known.paths = slice_get_within known.paths i path at in
    let one : Instance = get_or all i none in
    let one_is : slice_get all i ≡ Some one = slice_get-get_or all i none (omega arith) in
    elim (are.are_instances.each i path one at one_is) [
      | inl top ↦ absurd (not_top design all known.paths nets i are.are_instances lt
          (at ∙ ap Some top.0))
      | inr below ↦
          let less : one.parent < length known.paths =
          slice_get_within known.paths one.parent below.0 below.3 in
          let above : Instance = get_or all one.parent none in
          let above_is : slice_get all one.parent ≡ Some above =
          slice_get-get_or all one.parent none (omega arith) in
          let placed = is_placed design all known.paths nets one.parent below.0 above
          are.are_instances below.3 above_is in
          record {
            one = one;
            one_is = one_is;
            parent = below.0;
            below = below.4;
            parent_is = below.3;
            above = above;
            above_is = above_is;
            cell = below.1;
            inside_is = below.5;
            of_above = sym (inside_placed design below.0 above placed) ∙ below.5;
            which = below.6;
          }
    ]

-- a row is a pin of the leaf
pub row_on : (known : Known) (design : NetlistRec) (joined : Joined) (i : ℕ) (path : Path)
    (inst : CellInstance) (row : Row) → (w : IsWithin known design joined i path)
    → IsLeaf design path inst → row.instance ≡ w.one.number → IsOuterRow w.cell row
    → IsLeafPinOn design path (bit_in row) record { path = w.parent; net = row.net }
row_on known design joined i path inst row w leaf of is = record {
  inst = inst;
  leaf = leaf;
  place = w.one.place;
  below = w.below;
  cell = w.cell;
  net = is.0;
  occurs = record { inside = w.inside_is; net_is = is.1 };
  instance = w.one.number;
  which = w.which;
  named = ap (λ n. names_of n is.0 (bit_in row)) (sym of) ∙ is.2;
}

-- the row that a pin has
abbrev pub row_of : (number : ℕ) → PortBit → Occurrence → Row
row_of number bit at =
    record { instance = number; port = bit.port; index = bit.index; net = at.net }

-- a pin of the leaf is a row
pub on_row : (known : Known) (design : NetlistRec) (joined : Joined) (i : ℕ) (path : Path)
    (bit : PortBit) (at : Occurrence) → (w : IsWithin known design joined i path)
    → IsLeafPinOn design path bit at
    → (at.path ≡ w.parent) × IsOuterRow w.cell (row_of w.one.number bit at)
on_row known design joined i path bit at w on =
    let last = same_last at.path w.parent on.place w.one.place (sym on.below ∙ w.below) in
    let cells : on.cell ≡ w.cell = same_Some on.cell w.cell (sym on.occurs.inside
    ∙ ap (inside_at design) last.0 ∙ w.inside_is) in
    let numbers : on.instance ≡ w.one.number = same_Some on.instance w.one.number (sym on.which
    ∙ ap (λ (c : Cell). slice_get c.insts on.place) cells
    ∙ ap (slice_get w.cell.insts) last.1 ∙ w.which) in (
      last.0,
      (
        on.net,
        ap (λ (c : Cell). slice_get c.nets at.net) (sym cells) ∙ on.occurs.net_is,
        ap (λ n. names_of n on.net bit) (sym numbers) ∙ on.named,
      ),
    )

-- the number of the occurrence of a row's net
pub row_number : (known : Known) (design : NetlistRec) (joined : Joined) (i net : ℕ)
    (path : Path) (bit : PortBit) (parent : Path) → (w : IsWithin known design joined i path)
    → IsLeafPinOn design path bit record { path = parent; net = net }
    → IsNumber design joined.instances.items known.paths record { path = parent; net = net }
    (w.above.first_net + net)
row_number known design joined i net path bit parent w on =
    let last = same_last parent w.parent on.place w.one.place (sym on.below ∙ w.below) in
    record {
      cell = on.cell;
      net = on.net;
      occurs = on.occurs;
      instance = w.one.parent;
      path_is = w.parent_is ∙ ap Some (sym last.0);
      one = w.above;
      one_is = w.above_is;
      number_is = refl;
    }
