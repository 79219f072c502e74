-- Flat names of instances by their numbers.
use Rattle.std.proofs.Common.{◌≡◌, ◌<◌, ◌+◌, ap, refl, sym, subst, ◌∙◌, ℕ, zero, suc, List, []}
use Rattle.std.proofs.Common.{◌∷◌, ◌++◌, inl, inr, slice_get, slice_index_or, Some, codes, arith}
use Rattle.std.proofs.Common.{drop, length, true, nat_eq, append-nil}
use Rattle.std.proofs.Common.{Bool, ◌-◌, length-drop, drop-cons}
use Rattle.std.proofs.Math.Dec.{eqb-suc-zero}
use Rattle.std.proofs.lemmas.Bool.Decides.{eqb_tells}
use Rattle.std.proofs.lemmas.Option.{none-some, same_Some, slice_get_within, slice_get-get_or}
use Rattle.std.proofs.lemmas.Option.{get_or_from_slice_get}
use Rattle.ix_message.specs.Shape.{Text}
use Rattle.ix_rec.specs.declared.netlist.CellInstance.{CellInstance}
use Rattle.ix_rec.specs.declared.netlist.NetlistRec.{NetlistRec}
use Rattle.ix_hierarchy.specs.declared.instance.Instance.{Instance}
use Rattle.ix_hierarchy.specs.Hierarchy.{Path, along, flat_name, joined, names_along}
use Rattle.ix_hierarchy.specs.Lists.{AreInstances}
use Rattle.ix_flat_texts.specs.Ways.{IsUp, behind}
use Rattle.ix_flat_texts.proofs.Joins.{joined_behind}
use Rattle.ix_flat_texts.proofs.Along.{names_next}

-- what an instance below the top adds to its parent's names
pub record IsUnder (names : List Text) (design : NetlistRec) (paths : List Path) (path : Path)
    (one : Instance) : Type 0 where
  pub parent : Path
  pub parent_is : slice_get paths one.parent ≡ Some parent
  pub inst : CellInstance
  pub inst_is : slice_get design.inst_list one.number ≡ Some inst
  pub names_are : names_along names design path
      ≡ names_along names design parent ++ slice_index_or names inst.name [] ∷ []

-- only the top is at the empty path
pub not_top : (design : NetlistRec) (all : List Instance) (paths : List Path) (nets i : ℕ)
    → AreInstances design all paths nets → 0 < i → slice_get paths i ≡ Some [] → ⊥
not_top design all paths nets i are lt at =
    elim (are.rise 0 i [] [] lt are.top at) [
      | inl h ↦ absurd (omega arith)
      | inr h ↦ absurd h.1
    ]

pub is_under : (names : List Text) (design : NetlistRec) (all : List Instance)
    (paths : List Path) (nets i : ℕ) (path : Path) (one : Instance)
    → AreInstances design all paths nets → 0 < i → slice_get paths i ≡ Some path
    → slice_get all i ≡ Some one → IsUnder names design paths path one
is_under names design all paths nets i path one are lt at is =
    elim (are.each i path one at is) [
      | inl top ↦ absurd (not_top design all paths nets i are lt (at ∙ ap Some top.0))
      | inr below ↦ record {
        parent = below.0;
        parent_is = below.3;
        inst = below.2;
        inst_is = below.7;
        names_are = ap (names_along names design) below.4
            ∙ names_next names design below.0 one.place below.1 one.number below.2 below.5
            below.6 below.7;
      }
    ]

-- a name behind an instance's own
pub named_behind : (names : List Text) (design : NetlistRec) (all : List Instance)
    (paths : List Path) (nets i : ℕ) (path : Path) (one : Instance) (name : Text)
    → AreInstances design all paths nets → slice_get paths i ≡ Some path
    → slice_get all i ≡ Some one
    → flat_name names design path (name ∷ [])
    ≡ behind (nat_eq i 0) (flat_name names design path []) name
unfolding along
named_behind names design all paths nets zero path one name are at is =
    let top : [] ≡ path = same_Some [] path (sym are.top ∙ at) in
    subst (λ (p : Path). flat_name names design p (name ∷ [])
    ≡ behind true (flat_name names design p []) name) top refl
named_behind names design all paths nets (suc i) path one name are at is =
    let lt : 0 < suc i = omega arith in
    let under = is_under names design all paths nets (suc i) path one are lt at is in
    let last = slice_index_or names under.inst.name [] in
    let front = names_along names design under.parent in
    ap (λ ns. joined (ns ++ name ∷ [])) under.names_are ∙ joined_behind front last name
    ∙ ap (λ ns. joined ns ++ codes "/" ++ name)
    (sym under.names_are ∙ sym (append-nil (names_along names design path)))
    ∙ ap (λ b. behind b (flat_name names design path []) name) (sym (eqb-suc-zero i))

-- the parent's name with one more
pub named_under : (names : List Text) (design : NetlistRec) (paths : List Path) (path : Path)
    (one : Instance) (under : IsUnder names design paths path one)
    → flat_name names design path []
    ≡ flat_name names design under.parent (slice_index_or names under.inst.name [] ∷ [])
named_under names design paths path one under =
    ap joined (append-nil (names_along names design path) ∙ under.names_are)

-- what stands at no place
abbrev pub zero_instance : Instance
zero_instance = record { number = 0; declaration = 0; parent = 0; place = 0; first_net = 0 }

-- Ways up.

-- where a way begins
abbrev pub head_of : List ℕ → ℕ
head_of [] = 0
head_of (at ∷ way) = at

pub up_head : (all : List Instance) (from : ℕ) (way : List ℕ) → IsUp all from way 0
    → from ≡ head_of way
up_head all from [] up = up
up_head all from (at ∷ way) up = sym up.1

pub up_next : (all : List Instance) (from : ℕ) (way : List ℕ) (at : ℕ) (one : Instance)
    → IsUp all from way at → 0 < at → slice_get all at ≡ Some one
    → IsUp all from (way ++ at ∷ []) one.parent
up_next all from [] at one up lt is =
    (one, sym up, subst (λ n. 0 < n) (sym up) lt, ap (slice_get all) up ∙ is, refl)
up_next all from (here ∷ way) at one up lt is =
    (up.0, up.1, up.2, up.3, up_next all up.0.parent way at one up.4 lt is)

-- an instance on the way
pub record IsStep (all : List Instance) (at : ℕ) (rest : List ℕ) : Type 0 where
  pub one : Instance
  pub below : 0 < at
  pub one_is : slice_get all at ≡ Some one
  pub up : IsUp all one.parent rest 0

pub up_at : (all : List Instance) (from : ℕ) (way : List ℕ) (i at : ℕ) → IsUp all from way 0
    → slice_get way i ≡ Some at → IsStep all at (drop (suc i) way)
up_at all from [] i at up h = absurd (none-some at h)
up_at all from (here ∷ way) zero at up h =
    let same : from ≡ at = sym up.1 ∙ same_Some here at h in
    record {
      one = up.0;
      below = subst (λ n. 0 < n) same up.2;
      one_is = ap (slice_get all) (sym same) ∙ up.3;
      up = up.4;
    }
up_at all from (here ∷ way) (suc i) at up h = up_at all up.0.parent way i at up.4 h

-- The text so far.

-- of the instance at which the rest of the way begins
abbrev pub IsTold : List Text → NetlistRec → List Instance → (rest : List ℕ) → Text → Type 0
IsTold names design all rest text = (paths : List Path) (nets : ℕ) (path : Path)
    → AreInstances design all paths nets → slice_get paths (head_of rest) ≡ Some path
    → text ≡ flat_name names design path []

pub told_top : (names : List Text) (design : NetlistRec) (all : List Instance)
    → IsTold names design all [] []
unfolding along
told_top names design all paths nets path are at =
    let top : [] ≡ path = same_Some [] path (sym are.top ∙ at) in
    ap (λ (p : Path). flat_name names design p []) top

same_tests : (a b p : ℕ) → (a ≡ b → p ≡ 0) → (p ≡ 0 → a ≡ b) → nat_eq a b ≡ nat_eq p 0
same_tests a b p there back = elim (eqb_tells a b) [
  | inl same ↦ elim (eqb_tells p 0) [
    | inl both ↦ same.0 ∙ sym both.0
    | inr differ ↦ absurd (differ.1 (there same.1))
  ]
  | inr differ ↦ elim (eqb_tells p 0) [
    | inl same ↦ absurd (differ.1 (back same.1))
    | inr both ↦ differ.0 ∙ sym both.0
  ]
]

-- whether the way ends here
ends_here : (all : List Instance) (p i long : ℕ) (rest : List ℕ) → IsUp all p rest 0 → i < long
    → length rest ≡ long - suc i → nat_eq (i + 1) long ≡ nat_eq p 0
ends_here all p i long [] up lt e = same_tests (i + 1) long p (λ _. up) (λ _. omega arith)
ends_here all p i long (at ∷ rest) up lt e =
    let below : 0 < p = up.2 in
    let more : suc (length rest) ≡ long - suc i = e in
    same_tests (i + 1) long p (λ h. absurd (omega arith)) (λ h. absurd (omega arith))

pub told_next : (names : List Text) (design : NetlistRec) (all : List Instance) (from : ℕ)
    (way : List ℕ) (i at : ℕ) (one : Instance) (inst : CellInstance) (flag : Bool)
    (text new : Text) → IsUp all from way 0 → slice_get way i ≡ Some at
    → slice_get all at ≡ Some one → slice_get design.inst_list one.number ≡ Some inst
    → flag ≡ nat_eq (i + 1) (length way) → IsTold names design all (drop (suc i) way) text
    → new ≡ behind flag text (slice_index_or names inst.name [])
    → IsTold names design all (drop i way) new
told_next names design all from way i at one inst flag text new up h is here f told e =
    λ paths nets path are p.
    let lt : i < length way = slice_get_within way i at h in
    let step = up_at all from way i at up h in
    let same : step.one ≡ one = same_Some step.one one (sym step.one_is ∙ is) in
    let up_rest : IsUp all one.parent (drop (suc i) way) 0 =
    subst (λ (o : Instance). IsUp all o.parent (drop (suc i) way) 0) same step.up in
    let begins : drop i way ≡ at ∷ drop (suc i) way = drop-cons way i at lt
    ∙ ap (λ n. n ∷ drop (suc i) way) (get_or_from_slice_get way i at at h) in
    let path_at : slice_get paths at ≡ Some path =
    ap (λ (w : List ℕ). slice_get paths (head_of w)) (sym begins) ∙ p in
    let under = is_under names design all paths nets at path one are step.below path_at is in
    let above : slice_get paths (head_of (drop (suc i) way)) ≡ Some under.parent =
    ap (slice_get paths) (sym (up_head all one.parent (drop (suc i) way) up_rest))
    ∙ under.parent_is in
    let name = slice_index_or names under.inst.name [] in
    let same_inst : inst ≡ under.inst = same_Some inst under.inst (sym here ∙ under.inst_is) in
    let within : one.parent < length paths =
    slice_get_within paths one.parent under.parent under.parent_is in
    let many : length paths ≡ length all = are.many in
    let there : one.parent < length all = omega arith in
    let flags : nat_eq (i + 1) (length way) ≡ nat_eq one.parent 0 =
    ends_here all one.parent i (length way) (drop (suc i) way) up_rest lt
    (length-drop (suc i) way) in
    e ∙ ap (λ (t : CellInstance). behind flag text (slice_index_or names t.name [])) same_inst
    ∙ ap (λ t. behind flag t name) (told paths nets under.parent are above)
    ∙ ap (λ b. behind b (flat_name names design under.parent []) name) (f ∙ flags)
    ∙ sym (named_behind names design all paths nets one.parent under.parent _ name are
    under.parent_is (slice_get-get_or all one.parent one there))
    ∙ sym (named_under names design paths path one under)
