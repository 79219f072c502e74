-- What is around a listed instance.
use Rattle.std.proofs.Common.{◌≡◌, ◌<◌, ◌∙◌, ℕ, List, [], ◌∷◌, ◌++◌, length}
use Rattle.std.proofs.Common.{Some, slice_get, sym, ap, refl, inl, inr, arith}
use Rattle.std.proofs.lemmas.Option.{slice_get_within, same_Some}
use Rattle.ix_rec.specs.declared.netlist.Cell.{Cell}
use Rattle.ix_rec.specs.declared.netlist.CellInstance.{CellInstance}
use Rattle.ix_rec.specs.declared.netlist.NetlistRec.{NetlistRec}
use Rattle.ix_hierarchy.specs.declared.instance.Instance.{Instance}
use Rattle.ix_hierarchy.specs.Hierarchy.{Path, inside, instance_at, inside_at, reached}
use Rattle.ix_hierarchy.specs.Walk.{IsBefore, InstanceAt}
use Rattle.ix_hierarchy.specs.Lists.{AreInstances, IsOf}
use Rattle.ix_one_net.proofs.Parts.{gets_at}
use Rattle.ix_one_net.proofs.Reached.{instance_below, child_at, inside_there}

pub record IsAround (design : NetlistRec) (all : List Instance) (paths : List Path) (instance : ℕ)
    : Type 0 where
  pub one : Instance
  pub one_is : slice_get all instance ≡ Some one
  pub path : Path
  pub path_is : slice_get paths instance ≡ Some path
  pub parent : Instance
  pub parent_is : slice_get all one.parent ≡ Some parent
  pub up : Path
  pub up_is : slice_get paths one.parent ≡ Some up
  pub below : path ≡ up ++ one.place ∷ []
  pub cell : Cell
  pub in_up : inside_at design up ≡ Some cell
  pub cell_is : inside design parent.declaration ≡ Some cell
  pub which : slice_get cell.insts one.place ≡ Some one.number
  pub inst : CellInstance
  pub in_list : slice_get design.inst_list one.number ≡ Some inst
  pub declared : inst.cell ≡ one.declaration
  pub at : instance_at design path ≡ Some inst

at_top : (design : NetlistRec) → instance_at design [] ≡ Some design.top_inst
unfolding reached
at_top design = refl

-- a listed instance is at its path
is_at : (design : NetlistRec) (paths : List Path) (path : Path) (one : Instance)
    → IsOf design paths path one
    → (inst : CellInstance) × (instance_at design path ≡ Some inst)
    × (inst.cell ≡ one.declaration)
is_at design paths path one (inl w) =
    (design.top_inst, ap (instance_at design) w.0 ∙ at_top design, sym w.4)
is_at design paths path one
    (inr (parent, cell, inst, at, below, in_cell, number, in_list, declared)) =
    let up = inside_there design parent cell in_cell in (
      inst,
      ap (instance_at design) below ∙ instance_below design parent one.place up.0 up.1
          ∙ child_at design up.0 cell one.place one.number inst up.2 number in_list,
      declared,
    )

no_path_before : (p : Path) → IsBefore (InstanceAt []) (InstanceAt p) → p ≡ [] → ⊥
no_path_before [] (inl h) e = omega arith
no_path_before [] (inr h) e = h.1
no_path_before (x ∷ p) h e = cc

pub around : (design : NetlistRec) (all : List Instance) (paths : List Path) (nets : ℕ)
    (instance : ℕ) → AreInstances design all paths nets → 0 < instance → instance < length all
    → IsAround design all paths instance
around design all paths nets instance A some within =
    let m = A.many in
    let one = gets_at all instance within in
    let path = gets_at paths instance (omega arith) in
    by one.0 one.1 path.0 path.1 (A.each instance path.0 one.0 path.1 one.1)
  where
    by : (one : Instance) → slice_get all instance ≡ Some one → (path : Path)
        → slice_get paths instance ≡ Some path → IsOf design paths path one
        → IsAround design all paths instance
    by one one_is path path_is (inl w) =
        absurd (no_path_before path (A.rise 0 instance [] path some A.top path_is) w.0)
    by one one_is path path_is
        (inr (up, cell, inst, at, below, in_cell, number, in_list, declared)) =
        let m = A.many in
        let few : one.parent < length paths = slice_get_within paths one.parent up at in
        let parent = gets_at all one.parent (omega arith) in
        let there = inside_there design up cell in_cell in
        let is = is_at design paths up parent.0 (A.each one.parent up parent.0 at parent.1) in
        let same : there.0 ≡ is.0 = same_Some there.0 is.0 (sym there.1 ∙ is.1) in
        record {
          one = one;
          one_is = one_is;
          path = path;
          path_is = path_is;
          parent = parent.0;
          parent_is = parent.1;
          up = up;
          up_is = at;
          below = below;
          cell = cell;
          in_up = in_cell;
          cell_is = ap (inside design)
              (sym (ap (λ (i : CellInstance). i.cell) same ∙ is.2)) ∙ there.2;
          which = number;
          inst = inst;
          in_list = in_list;
          declared = declared;
          at = ap (instance_at design) below ∙ instance_below design up one.place there.0 there.1
              ∙ child_at design there.0 cell one.place one.number inst there.2 number in_list;
        }
