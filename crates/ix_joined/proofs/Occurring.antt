-- The net of an occurrence, by its number.
use Rattle.std.proofs.Common.{◌≡◌, ◌<◌, ◌+◌, ap, refl, sym, ◌∙◌, ℕ, []}
use Rattle.std.proofs.Common.{slice_get, Some, arith, length, get_or}
use Rattle.std.specs.Option.{option_and_then}
use Rattle.std.proofs.lemmas.Option.{none-some, same_Some, slice_get-get_or, slice_get_within}
use Rattle.ix_rec.specs.declared.netlist.Cell.{Cell}
use Rattle.ix_rec.specs.declared.netlist.CellInstance.{CellInstance}
use Rattle.ix_rec.specs.declared.netlist.Net.{Net}
use Rattle.ix_rec.specs.declared.netlist.NetlistRec.{NetlistRec}
use Rattle.ix_hierarchy.specs.declared.instance.Instance.{Instance}
use Rattle.ix_rec.specs.declared.device.DeviceRec.{DeviceRec}
use Rattle.ix_hierarchy.specs.declared.kind.Kind.{Kind}
use Rattle.ix_hierarchy.specs.declared.kind.Kind.TheVariants.{Inside, Constant, Plain, Unknown}
use Rattle.ix_hierarchy.specs.Hierarchy.{Path, inside, inside_at}
use Rattle.ix_hierarchy.specs.Nets.{Occurrence, Occurs}
use Rattle.ix_hierarchy.specs.Fits.{CellFits, NetFits}
use Rattle.ix_hierarchy.specs.Lists.{IsKind, IsNumber, first_cell}
use Rattle.ix_instance_lists.specs.Listed.{HasNet}
use Rattle.ix_joined.specs.declared.joined.Joined.{Joined}
use Rattle.ix_joined.specs.Joining.{Known, IsJoined}
use Rattle.ix_joined.proofs.Finds.{at_place, inside_none, inside_there, is_placed, IsPlaced}
use Rattle.ix_joined.proofs.Leaves.{declared}

-- the kind of each instance is there
pub kind_there : (known : Known) (design : NetlistRec) (joined : Joined) (i : ℕ) (one : Instance)
    → IsJoined known design joined → slice_get joined.instances.items i ≡ Some one
    → one.declaration < length joined.kinds.items
kind_there known design joined i one are is =
    let all = joined.instances.items in
    let many : length known.paths ≡ length all = are.are_instances.many in
    let there : i < length all = slice_get_within all i one is in
    let path_is : slice_get known.paths i ≡ Some (get_or known.paths i []) =
    slice_get-get_or known.paths i [] (omega arith) in
    let few : one.declaration < length design.cell_decls =
    declared (length known.names) design all known.paths (length joined.firsts.items) i
    (get_or known.paths i []) one are.fits are.are_instances path_is is in
    let kinds : length joined.kinds.items ≡ length design.cell_decls = are.are_kinds.many in
    omega arith

-- where an instance is, its inside is that of its declaration
pub inside_placed : (design : NetlistRec) (path : Path) (one : Instance)
    → IsPlaced design path one → inside_at design path ≡ inside design one.declaration
inside_placed design path one placed =
    ap (option_and_then (λ (inst : CellInstance). inside design inst.cell)) placed.at_path
    ∙ ap (inside design) placed.of_it

-- the net of a number of an instance's
pub record IsNetThere (known : Known) (design : NetlistRec) (joined : Joined)
    (one : Instance) (occurrence : ℕ) : Type 0 where
  pub path : Path
  pub placed : IsPlaced design path one
  pub cell : Cell
  pub inside_is : inside design one.declaration ≡ Some cell
  pub net : ℕ
  pub of_net : Net
  pub net_is : slice_get cell.nets net ≡ Some of_net
  pub number_is : occurrence ≡ one.first_net + net
  pub is : IsNumber design joined.instances.items known.paths
      record { path = path; net = net } occurrence

pub net_there : (known : Known) (design : NetlistRec) (joined : Joined) (instance occurrence : ℕ)
    → IsJoined known design joined
    → (has : HasNet design joined.instances.items instance occurrence)
    → IsNetThere known design joined has.one occurrence
net_there known design joined instance occurrence are has =
    let all = joined.instances.items in
    let many : length known.paths ≡ length all = are.are_instances.many in
    let there : instance < length all = slice_get_within all instance has.one has.one_is in
    let path : Path = get_or known.paths instance [] in
    let path_is : slice_get known.paths instance ≡ Some path =
    slice_get-get_or known.paths instance [] (omega arith) in
    let placed = is_placed design all known.paths (length joined.firsts.items) instance path has.one
    are.are_instances path_is has.one_is in
    let of = are.numbered.of instance occurrence path has path_is in
    let same : of.1 ≡ has.one = same_Some of.1 has.one (sym of.2 ∙ has.one_is) in
    record {
      path = path;
      placed = placed;
      cell = of.4.cell;
      inside_is = sym (inside_placed design path has.one placed) ∙ of.4.occurs.inside;
      net = of.0;
      of_net = of.4.net;
      net_is = of.4.occurs.net_is;
      number_is = of.3 ∙ ap (λ (o : Instance). o.first_net + of.0) same;
      is = of.4;
    }

-- its cell by the place of the first one
pub cell_there : (design : NetlistRec) (declaration place : ℕ) (cell : Cell)
    → first_cell design declaration ≡ Some place → inside design declaration ≡ Some cell
    → slice_get design.cell_list place ≡ Some cell
cell_there design declaration place cell h is =
    let there = inside_there design declaration place h in
    there.1 ∙ ap Some (same_Some there.0 cell (sym there.2 ∙ is))

-- a net's name is one
pub net_named : (names : ℕ) (design : NetlistRec) (place net : ℕ) (cell : Cell) (of_net : Net)
    → (fits : Rattle.ix_hierarchy.specs.Fits.NetlistFits names design)
    → slice_get design.cell_list place ≡ Some cell → slice_get cell.nets net ≡ Some of_net
    → of_net.name < names
net_named names design place net cell of_net fits c n =
    (at_place (NetFits names design cell.index) cell.nets net of_net
    (at_place (CellFits names design) design.cell_list place cell fits.cells c).nets n).name

-- a number is of one net
pub same_net : (known : Known) (design : NetlistRec) (joined : Joined) (one : Instance)
    (occurrence : ℕ) (at : Occurrence) (cell : Cell) (net : Net) → IsJoined known design joined
    → (there : IsNetThere known design joined one occurrence)
    → IsNumber design joined.instances.items known.paths at occurrence
    → Occurs design at cell net → there.of_net ≡ net
same_net known design joined one occurrence at cell net are there is occurs =
    let same : at ≡ record { path = there.path; net = there.net } =
    are.numbered.one at record { path = there.path; net = there.net } occurrence is there.is in
    let inside_same : inside design one.declaration ≡ Some cell =
    sym (inside_placed design there.path one there.placed)
    ∙ ap (λ (o : Occurrence). inside_at design o.path) (sym same) ∙ occurs.inside in
    let cells : there.cell ≡ cell = same_Some there.cell cell (sym there.inside_is ∙ inside_same) in
    same_Some there.of_net net (sym there.net_is
    ∙ ap (λ (c : Cell). slice_get c.nets there.net) cells
    ∙ ap (λ (o : Occurrence). slice_get cell.nets o.net) (sym same) ∙ occurs.net_is)

-- what has nets has an inside
pub must_be_inside : (device : DeviceRec) (design : NetlistRec) (declaration : ℕ) (kind : Kind)
    (cell : Cell) → IsKind device design declaration kind → inside design declaration ≡ Some cell
    → (place : ℕ) × (kind ≡ Inside place)
must_be_inside device design declaration (Inside place) cell is h = (place, refl)
must_be_inside device design declaration (Constant constant) cell is h =
    absurd (none-some cell (sym (inside_none design declaration is.1.0) ∙ h))
must_be_inside device design declaration Plain cell is h =
    absurd (none-some cell (sym (inside_none design declaration is.1.0) ∙ h))
must_be_inside device design declaration Unknown cell is h =
    absurd (none-some cell (sym (inside_none design declaration is.1.0) ∙ h))
