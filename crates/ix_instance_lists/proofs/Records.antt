-- The records of listed instances.
use Rattle.std.proofs.Common.{◌≡◌, ◌<◌, ◌∙◌, ℕ, List, [], length, Some, slice_get}
use Rattle.std.proofs.Common.{sym, ap, subst, inl, inr, arith}
use Rattle.std.proofs.lemmas.Option.{slice_get_within, same_Some}
use Rattle.ix_rec.specs.declared.netlist.CellInstance.{CellInstance}
use Rattle.ix_rec.specs.declared.netlist.NetlistRec.{NetlistRec}
use Rattle.ix_hierarchy.specs.declared.instance.Instance.{Instance}
use Rattle.ix_hierarchy.specs.Hierarchy.{Path, instance_at}
use Rattle.ix_hierarchy.specs.Walk.{IsLess}
use Rattle.ix_hierarchy.specs.Lists.{AreInstances, IsOf}
use Rattle.ix_instance_lists.proofs.Gets.{gets_at}
use Rattle.ix_instance_lists.proofs.Ways.{less_irrefl, instances_before}
use Rattle.ix_instance_lists.proofs.Reached.{at_top, instance_below, inside_there, child_at}

pub top_record : (design : NetlistRec) (all : List Instance) (paths : List Path) (nets : ℕ)
    → AreInstances design all paths nets → (i : ℕ) (path : Path) → i ≡ 0
    → slice_get paths i ≡ Some path → instance_at design path ≡ Some design.top_inst
top_record design all paths nets A i path zero_is is =
    let e : path ≡ [] = same_Some path [] (sym is ∙ ap (slice_get paths) zero_is ∙ A.top) in
    ap (instance_at design) e ∙ at_top design

-- behind the top the path isn't empty
not_top : (design : NetlistRec) (all : List Instance) (paths : List Path) (nets : ℕ)
    → AreInstances design all paths nets → (i : ℕ) (path : Path) → 0 < i
    → slice_get paths i ≡ Some path → path ≡ [] → ⊥
not_top design all paths nets A i path some is e =
    less_irrefl [] (subst (λ (p : Path). IsLess [] p) e
    (instances_before [] path (A.rise 0 i [] path some A.top is)))

record_in : (design : NetlistRec) (all : List Instance) (paths : List Path) (nets : ℕ)
    → AreInstances design all paths nets → (i : ℕ) (path : Path) (one : Instance) → 0 < i
    → slice_get paths i ≡ Some path → IsOf design paths path one
    → (inst : CellInstance) × (slice_get design.inst_list one.number ≡ Some inst)
    × (instance_at design path ≡ Some inst)
record_in design all paths nets A i path one some is (inl w) =
    absurd (not_top design all paths nets A i path some is w.0)
record_in design all paths nets A i path one some is
    (inr (parent, cell, inst, at, below, in_cell, number, in_list, declared)) =
    let up = inside_there design parent cell in_cell in (
      inst,
      in_list,
      ap (instance_at design) below ∙ instance_below design parent one.place up.0 up.1
          ∙ child_at design up.0 cell one.place one.number inst up.2 number in_list,
    )

pub record_there : (design : NetlistRec) (all : List Instance) (paths : List Path) (nets : ℕ)
    → AreInstances design all paths nets → (i : ℕ) → 0 < i → (one : Instance)
    → slice_get all i ≡ Some one → one.number < length design.inst_list
record_there design all paths nets A i some one is =
    let m = A.many in
    let w : i < length all = slice_get_within all i one is in
    let path = gets_at paths i (omega arith) in
    let there =
    record_in design all paths nets A i path.0 one some path.1 (A.each i path.0 one path.1 is) in
    slice_get_within design.inst_list one.number there.0 there.1

pub record_at : (design : NetlistRec) (all : List Instance) (paths : List Path) (nets : ℕ)
    → AreInstances design all paths nets → (i : ℕ) → 0 < i → (one : Instance)
    → slice_get all i ≡ Some one → (path : Path) → slice_get paths i ≡ Some path
    → (inst : CellInstance) → slice_get design.inst_list one.number ≡ Some inst
    → instance_at design path ≡ Some inst
record_at design all paths nets A i some one is path path_is inst inst_is =
    let there =
    record_in design all paths nets A i path one some path_is (A.each i path one path_is is) in
    there.2 ∙ sym there.1 ∙ inst_is
