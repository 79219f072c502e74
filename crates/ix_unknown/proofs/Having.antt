-- What a declaration has, by its kind.
use Rattle.std.proofs.Common.{◌≡◌, ◌<◌, ◌∙◌, ℕ, List, [], ◌∷◌, length, ◌↔◌, get_or}
use Rattle.std.proofs.Common.{Option, Some, None, slice_get, Bool, IsTrue, Contains, take, ◌++◌}
use Rattle.std.proofs.Common.{refl, sym, ap, subst, arith, inl, inr}
use Rattle.std.specs.Prelude.{MatchOption, is_some}
use Rattle.std.proofs.lemmas.Option.{same_Some, none-some, slice_get_within, slice_get-get_or}
use Rattle.ix_rec.specs.declared.device.DeviceRec.{DeviceRec}
use Rattle.ix_rec.specs.declared.netlist.Cell.{Cell}
use Rattle.ix_rec.specs.declared.netlist.NetlistRec.{NetlistRec}
use Rattle.ix_hierarchy.specs.declared.kind.Kind.{Kind}
use Rattle.ix_hierarchy.specs.declared.kind.Kind.TheVariants.{Inside, Unknown}
use Rattle.ix_hierarchy.specs.Fits.{NetlistFits, InstanceFits}
use Rattle.ix_hierarchy.specs.Broken.{Contains as IsIn, IsDescent}
use Rattle.ix_hierarchy.specs.Lists.{AreClosed, AreKinds}
use Rattle.ix_unknown.specs.Marked.{IsMarked, HasMarked, NoneMarked}
use Rattle.ix_unknown.proofs.Parts.{all_at}
use Rattle.ix_unknown.proofs.Found.{first_some, kind_leaf}

pub read_kind : (kinds : List Kind) (declaration : ℕ) (kind d : Kind)
    → declaration < length kinds → get_or kinds declaration d ≡ kind
    → slice_get kinds declaration ≡ Some kind
read_kind kinds declaration kind d few is = slice_get-get_or kinds declaration d few ∙ ap Some is

pub some_marked : (device : DeviceRec) (design : NetlistRec) (kinds : List Kind)
    (marks : List Bool) (declaration k : ℕ) (cell : Cell) (found : Option ℕ)
    → AreKinds device design kinds → slice_get kinds declaration ≡ Some (Inside k)
    → slice_get design.cell_list k ≡ Some cell
    → MatchOption found (NoneMarked design marks cell (length cell.insts))
    (λ place. IsMarked design marks cell place × NoneMarked design marks cell place)
    → IsTrue (is_some found) ↔ HasMarked design kinds marks declaration
some_marked device design kinds marks declaration k cell (Some place) K kind is found = (
  λ t. inr (
    cell,
    place,
    first_some design declaration k (K.each declaration (Inside k) kind) ∙ is,
    found.0,
  ),
  λ h. refl,
)
some_marked device design kinds marks declaration k cell None K kind is found = (
  λ t. absurd cc,
  λ h. elim h [
    | inl u ↦
        let s : ◌≡◌ {A = Kind} (Inside k) Unknown = same_Some _ _ (sym kind ∙ u) in
        absurd cc
    | inr w ↦
        let e : w.0 ≡ cell = same_Some w.0 cell
        (sym w.2 ∙ first_some design declaration k (K.each declaration (Inside k) kind) ∙ is) in
        let M : IsMarked design marks cell w.1 =
        subst (λ (x : Cell). IsMarked design marks x w.1) e w.3 in
        absurd (found w.1 (slice_get_within cell.insts w.1 M.placed.number M.placed.which) M)
  ],
)

pub leaf_marked : (device : DeviceRec) (design : NetlistRec) (kinds : List Kind)
    (marks : List Bool) (declaration : ℕ) (kind : Kind) → AreKinds device design kinds
    → slice_get kinds declaration ≡ Some kind → (kind ≡ Unknown → ⊥)
    → ((cell : ℕ) → kind ≡ Inside cell → ⊥)
    → HasMarked design kinds marks declaration → ⊥
leaf_marked device design kinds marks declaration kind K is known leaf (inl u) =
    known (same_Some kind Unknown (sym is ∙ u))
leaf_marked device design kinds marks declaration kind K is known leaf
    (inr (cell, place, e, M)) =
    none-some cell (sym (kind_leaf device design kinds declaration kind K is leaf) ∙ e)

descent_few : (names : ℕ) (design : NetlistRec) (from : ℕ) (way : List ℕ) (to : ℕ)
    → NetlistFits names design → from < length design.cell_decls → IsDescent design from way to
    → to < length design.cell_decls
descent_few names design from [] to F few h =
    subst (λ (d : ℕ). d < length design.cell_decls) h few
descent_few names design from (next ∷ way) to F few h =
    let I : IsIn design from next = h.0 in
    descent_few names design next way to F
    (subst (λ (d : ℕ). d < length design.cell_decls) I.of_inner
    (all_at (InstanceFits names design) design.inst_list I.instance I.inst F.insts I.inst_is).cell)
    h.1

pub closed_few : (names : ℕ) (device : DeviceRec) (design : NetlistRec) (kinds : List Kind)
    (closed : List ℕ) (declaration : ℕ) → NetlistFits names design
    → AreKinds device design kinds → AreClosed design closed → Contains closed declaration
    → declaration < length kinds
closed_few names device design kinds closed declaration F K C has =
    let R = (C.reached declaration).0 has in
    let few : declaration < length design.cell_decls =
    descent_few names design design.top_inst.cell R.0 declaration F F.top.cell R.1 in
    let many = K.many in
    omega arith

take_all : (s t : List Bool) → take (length s) (s ++ t) ≡ s
take_all [] t = refl
take_all (x ∷ s) t = ap (λ (l : List Bool). x ∷ l) (take_all s t)

pub take_whole : (s t : List Bool) (n : ℕ) → length s ≡ n → take n (s ++ t) ≡ s
take_whole s t n e = subst (λ (k : ℕ). take k (s ++ t) ≡ s) e (take_all s t)

none_of : (o : Option ℕ) → ((x : ℕ) → o ≡ Some x → ⊥) → o ≡ None
none_of None h = refl
none_of (Some x) h = absurd (h x refl)

-- what is told of a look-up that found nothing
pub told_none : (o : Option ℕ) (P : Type 0) (Q : ℕ → Type 0) → ((x : ℕ) → o ≡ Some x → ⊥)
    → MatchOption o P Q → P
told_none None P Q h m = m
told_none (Some x) P Q h m = absurd (h x refl)

-- and of one that found a place
pub told_some : (o : Option ℕ) (P : Type 0) (Q : ℕ → Type 0) (x : ℕ) → o ≡ Some x
    → MatchOption o P Q → Q x
told_some None P Q x h m = absurd (none-some x h)
told_some (Some y) P Q x h m = subst Q (same_Some y x h) m
