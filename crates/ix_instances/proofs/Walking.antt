-- The steps of the walk.
use Rattle.std.proofs.Common.{◌≡◌, ◌<◌, ◌≤◌, ◌+◌, ◌-◌, ◌^◌, ◌∙◌, ℕ, List, [], ◌∷◌, ◌++◌, length}
use Rattle.std.proofs.Common.{Option, Some, None, slice_get, get_or, sym, ap, subst, refl, arith}
use Rattle.std.proofs.lemmas.List.{length_push}
use Rattle.std.proofs.lemmas.Option.{slice_get_within, same_Some, get_or_from_slice_get}
use Rattle.ix_rec.specs.declared.netlist.Cell.{Cell}
use Rattle.ix_rec.specs.declared.netlist.CellInstance.{CellInstance}
use Rattle.ix_rec.specs.declared.netlist.NetlistRec.{NetlistRec}
use Rattle.ix_hierarchy.specs.declared.instance.Instance.{Instance}
use Rattle.ix_hierarchy.specs.Hierarchy.{Path, inside, inside_at}
use Rattle.ix_hierarchy.specs.Broken.{BreaksN10}
use Rattle.ix_hierarchy.specs.Lists.{nets_in}
use Rattle.ix_instances.specs.declared.instances.Step.{Step}
use Rattle.ix_instances.specs.Walked.{AreListed, IsPoint, IsWalk, IsUnderWay, IsBehind, HasPlace}
use Rattle.ix_instances.specs.Walked.{HasNoPlace, paths_of, work, work_left}
use Rattle.ix_instances.proofs.Gets.{gets_last, gets_at}
use Rattle.ix_instances.proofs.Paths.{paths_more, paths_top}
use Rattle.ix_instances.proofs.Reached.{is_at, there_inside, first_some}
use Rattle.ix_instances.proofs.Listing.{listed_more, listed_top}
use Rattle.ix_instances.proofs.Turning.{point_in, point_top, point_behind, all_listed, parent_of}

-- the instance at a place of another
abbrev pub listed_one : (number declaration instance place nets : ℕ) → Instance
listed_one number declaration instance place nets = record {
  number = number;
  declaration = declaration;
  parent = instance;
  place = place;
  first_net = nets;
}

paths_in : (all : List Instance) (nets instance place number declaration : ℕ)
    (design : NetlistRec) → (L : AreListed design all (paths_of all) nets)
    → (P : IsPoint design (paths_of all) instance place)
    → paths_of (all ++ listed_one number declaration instance place nets ∷ [])
    ≡ paths_of all ++ (P.at ++ place ∷ []) ∷ []
paths_in all nets instance place number declaration design L P =
    paths_more all (listed_one number declaration instance place nets) [] P.at L.top P.at_is

pub listed_in : (design : NetlistRec) (all : List Instance) (nets instance place k number : ℕ)
    (cell : Cell) (inst : CellInstance) → ¬ BreaksN10 design
    → IsWalk design all nets instance place
    → ((one : Instance) → slice_get all instance ≡ Some one
    → HasPlace design one.declaration place k)
    → slice_get design.cell_list k ≡ Some cell → slice_get cell.insts place ≡ Some number
    → slice_get design.inst_list number ≡ Some inst
    → AreListed design (all ++ listed_one number inst.cell instance place nets ∷ [])
    (paths_of (all ++ listed_one number inst.cell instance place nets ∷ []))
    (nets + nets_in design inst.cell)
listed_in design all nets instance place k number cell inst keeps W has cell_is has_number in_list =
    let L : AreListed design all (paths_of all) nets = W.listed in
    let P : IsPoint design (paths_of all) instance place = W.point in
    let m = L.many in
    let few = P.few in
    let w : instance < length (paths_of all) =
    slice_get_within (paths_of all) instance P.at P.at_is in
    let one = gets_at all instance (omega arith) in
    let H : HasPlace design one.0.declaration place k = has one.0 one.1 in
    let is = is_at design (paths_of all) P.at one.0 (L.each instance P.at one.0 P.at_is one.1) in
    let in_cell : inside_at design P.at ≡ Some cell =
    there_inside design P.at is.0 cell is.1
    (ap (inside design) is.2 ∙ first_some design one.0.declaration k H.first ∙ cell_is) in
    let new : Instance = listed_one number inst.cell instance place nets in
    subst (λ (paths : List Path). AreListed design (all ++ new ∷ []) paths
    (nets + nets_in design inst.cell))
    (sym (paths_in all nets instance place number inst.cell design L P))
    (listed_more design all (paths_of all) nets new P.at cell inst keeps L P.at_is in_cell
    has_number in_list refl refl (omega arith) P.before)

pub walk_in : (design : NetlistRec) (all : List Instance) (nets instance place k number : ℕ)
    (cell : Cell) (inst : CellInstance) → ¬ BreaksN10 design
    → IsWalk design all nets instance place
    → ((one : Instance) → slice_get all instance ≡ Some one
    → HasPlace design one.declaration place k)
    → slice_get design.cell_list k ≡ Some cell → slice_get cell.insts place ≡ Some number
    → slice_get design.inst_list number ≡ Some inst
    → IsWalk design (all ++ listed_one number inst.cell instance place nets ∷ [])
    (nets + nets_in design inst.cell) (length all) 0
walk_in design all nets instance place k number cell inst keeps W has cell_is has_number in_list =
    let L : AreListed design all (paths_of all) nets = W.listed in
    let P : IsPoint design (paths_of all) instance place = W.point in
    record {
      listed = listed_in design all nets instance place k number cell inst keeps W has cell_is
          has_number in_list;
      point = subst (λ (paths : List Path). IsPoint design paths (length all) 0)
          (sym (paths_in all nets instance place number inst.cell design L P))
          (point_in design (paths_of all) instance place (length all) L.many P);
    }

pub work_in : (design : NetlistRec) (all : List Instance)
    (nets instance place number declaration : ℕ)
    → IsWalk design all nets instance place → length all ≤ 2 ^ 22
    → work (all ++ listed_one number declaration instance place nets ∷ []) (length all)
    < work all instance
work_in design all nets instance place number declaration W few =
    let L : AreListed design all (paths_of all) nets = W.listed in
    let P : IsPoint design (paths_of all) instance place = W.point in
    let new : Instance = listed_one number declaration instance place nets in
    let q : Path = P.at ++ place ∷ [] in
    let m : length (all ++ new ∷ []) ≡ length all + 1 = length_push all new in
    let here : get_or (paths_of all) instance [] ≡ P.at =
    get_or_from_slice_get (paths_of all) instance P.at [] P.at_is in
    let there : get_or (paths_of (all ++ new ∷ [])) (length all) [] ≡ q =
    ap (λ (ps : List Path). get_or ps (length all) [])
    (paths_in all nets instance place number declaration design L P)
    ∙ get_or_from_slice_get (paths_of all ++ q ∷ []) (length all) q []
    (ap (slice_get (paths_of all ++ q ∷ [])) (sym L.many) ∙ gets_last (paths_of all) q) in
    let a : length (get_or (paths_of all) instance []) ≡ length P.at = ap length here in
    let b : length (get_or (paths_of (all ++ new ∷ [])) (length all) []) ≡ length P.at + 1 =
    ap length there ∙ length_push P.at place in
    omega arith

pub walk_top : (design : NetlistRec) (nets : ℕ) → ¬ BreaksN10 design
    → nets ≡ nets_in design design.top_inst.cell
    → IsWalk design (listed_one 0 design.top_inst.cell 0 0 0 ∷ []) nets 0 0
walk_top design nets keeps are =
    let top : Instance = listed_one 0 design.top_inst.cell 0 0 0 in
    record {
      listed = subst (λ (paths : List Path). AreListed design (top ∷ []) paths nets)
          (sym (paths_top top))
          (subst (λ (n : ℕ). AreListed design (top ∷ []) ([] ∷ []) n) (sym are)
          (listed_top design top keeps refl refl refl refl refl));
      point = subst (λ (paths : List Path). IsPoint design paths 0 0) (sym (paths_top top))
          (point_top design);
    }

pub walk_behind : (design : NetlistRec) (all : List Instance) (nets instance place : ℕ)
    (one : Instance) (next : Option Step) → IsWalk design all nets instance place
    → slice_get all instance ≡ Some one → HasNoPlace design one.declaration place
    → IsBehind all instance next
    → IsUnderWay design all nets next × (work_left all next < 1 + work all instance)
walk_behind design all nets instance place one None W is none top_is =
    let few = W.listed.few in (
      (
        (
          paths_of all,
          all_listed design all (paths_of all) nets instance place one W.listed W.point
              top_is is none,
        ),
        few,
      ),
      omega arith,
    )
walk_behind design all nets instance place one (Some next) W is none
    (some, (other, other_is, parent, behind)) =
    let L : AreListed design all (paths_of all) nets = W.listed in
    let P : IsPoint design (paths_of all) instance place = W.point in
    let same : one ≡ other = same_Some one other (sym is ∙ other_is) in
    let up = parent_of design all (paths_of all) nets instance P.at one L some P.at_is is in
    let p : one.parent ≡ next.instance = ap (λ (o : Instance). o.parent) same ∙ sym parent in
    let b : one.place + 1 ≡ next.place =
    ap (λ (o : Instance). o.place + 1) same ∙ sym behind in
    let point : IsPoint design (paths_of all) next.instance next.place =
    subst (λ (n : ℕ). IsPoint design (paths_of all) next.instance n) b
    (subst (λ (n : ℕ). IsPoint design (paths_of all) n (one.place + 1)) p
    (point_behind design all (paths_of all) nets instance place one L P some is none)) in
    let here : get_or (paths_of all) instance [] ≡ P.at =
    get_or_from_slice_get (paths_of all) instance P.at [] P.at_is in
    let there : get_or (paths_of all) next.instance [] ≡ up.0 =
    get_or_from_slice_get (paths_of all) next.instance up.0 []
    (ap (slice_get (paths_of all)) (sym p) ∙ up.1) in
    let e : length (get_or (paths_of all) instance [])
    ≡ length (get_or (paths_of all) next.instance []) + 1 =
    ap length here ∙ ap length up.2 ∙ length_push up.0 one.place
    ∙ ap (λ (l : Path). length l + 1) (sym there) in
    (record { listed = L; point = point }, omega arith)

-- the places of listed instances are few
pub place_few : (design : NetlistRec) (all : List Instance) (nets instance place : ℕ)
    → IsWalk design all nets instance place → (i : ℕ) (one : Instance)
    → slice_get all i ≡ Some one → 0 < i → one.place < 2 ^ 32 - 1
place_few design all nets instance place W i one is some =
    let few = W.listed.few in
    let h : i < length all = slice_get_within all i one is in
    let p = (W.listed.parents i one some is).1 in
    omega arith

pub walk_within : (design : NetlistRec) (all : List Instance) (nets instance place : ℕ)
    → IsWalk design all nets instance place → instance < length all
walk_within design all nets instance place W =
    let m = W.listed.many in
    let w : instance < length (paths_of all) =
    slice_get_within (paths_of all) instance W.point.at W.point.at_is in
    omega arith
