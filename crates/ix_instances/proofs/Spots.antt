-- Counted places of listed instances: an instance and its nets are so many more.
use Rattle.std.proofs.Common.{◌≡◌, ◌⊎◌, ◌<◌, ◌≤◌, ◌+◌, ◌^◌, ◌∙◌, ℕ, suc, zero, List, [], ◌∷◌, ◌++◌}
use Rattle.std.proofs.Common.{length}
use Rattle.std.proofs.Common.{Option, Some, slice_get, sym, ap, subst, refl, inl, inr, arith}
use Rattle.std.proofs.Common.{Contains}
use Rattle.std.proofs.Common.{length-append}
use Rattle.std.specs.Prelude.{IsSome}
use Rattle.std.specs.List.{AllByRecursion}
use Rattle.std.proofs.lemmas.Bool.{cases_lt}
use Rattle.std.proofs.lemmas.List.Elements.{Contains-append_left, Contains-push}
use Rattle.std.proofs.lemmas.Option.{same_Some}
use Rattle.ix_rec.specs.declared.netlist.Cell.{Cell}
use Rattle.ix_rec.specs.declared.netlist.CellInstance.{CellInstance}
use Rattle.ix_rec.specs.declared.netlist.NetlistRec.{NetlistRec}
use Rattle.ix_hierarchy.specs.Hierarchy.{Path, instance_at, inside_at}
use Rattle.ix_hierarchy.specs.Walk.{Spot, NetAt, InstanceAt}
use Rattle.ix_hierarchy.specs.Broken.{IsCounted, AllDiffer, BreaksN10}
use Rattle.ix_instances.specs.Walked.{HasSpots, path_at}
use Rattle.ix_instances.proofs.Gets.{gets_at}

-- the nets of an instance from a place on
pub nets_from : Path → (place count : ℕ) → List Spot
nets_from path place zero = []
nets_from path place (suc count) = NetAt path place ∷ nets_from path (place + 1) count

net_at : (path : Path) (place count k : ℕ) (spot : Spot)
    → slice_get (nets_from path place count) k ≡ Some spot
    → (spot ≡ NetAt path (place + k)) × (k < count)
unfolding nets_from
net_at path place zero k spot h = absurd cc
net_at path place (suc count) zero spot h =
    let e : place + 0 ≡ place = omega arith in
    (sym (same_Some _ _ h) ∙ ap (NetAt path) (sym e), omega arith)
net_at path place (suc count) (suc k) spot h =
    let w = net_at path (place + 1) count k spot h in
    let e : place + 1 + k ≡ place + suc k = omega arith in
    let few = w.1 in
    (w.0 ∙ ap (NetAt path) e, omega arith)

nets_many : (path : Path) (place count : ℕ) → length (nets_from path place count) ≡ count
unfolding nets_from
nets_many path place zero = refl
nets_many path place (suc count) = ap suc (nets_many path (place + 1) count)

nets_counted : (design : NetlistRec) (path : Path) (cell : Cell)
    → inside_at design path ≡ Some cell → (place count : ℕ) → place + count ≤ length cell.nets
    → AllByRecursion (IsCounted design) (nets_from path place count)
unfolding nets_from
nets_counted design path cell inside place zero few = tt
nets_counted design path cell inside place (suc count) few =
    let net = gets_at cell.nets place (omega arith) in (
      (cell, net.0, record { inside = inside; net_is = net.1 }),
      nets_counted design path cell inside (place + 1) count (omega arith),
    )

all_both : {X : Type 0} (P : X → Type 0) → (xs ys : List X) → AllByRecursion P xs
    → AllByRecursion P ys → AllByRecursion P (xs ++ ys)
all_both P [] ys a b = b
all_both P (x ∷ xs) ys a b = (a.0, all_both P xs ys a.1 b)

-- an element of a joined list
both_cases : {X : Type 0} → (xs ys : List X) (i : ℕ) (x : X) → slice_get (xs ++ ys) i ≡ Some x
    → (slice_get xs i ≡ Some x)
    ⊎ ((j : ℕ) × (i ≡ length xs + j) × (slice_get ys j ≡ Some x))
both_cases [] ys i x h = inr (i, omega arith, h)
both_cases (y ∷ xs) ys zero x h = inl h
both_cases (y ∷ xs) ys (suc i) x h = elim (both_cases xs ys i x h) [
  | inl w ↦ inl w
  | inr w ↦
      let e = w.1 in
      let s : suc i ≡ suc (length xs) + w.0 = omega arith in
      inr (w.0, s, w.2)
]

differ_both : (xs ys : List Spot) → AllDiffer xs → AllDiffer ys
    → ((i j : ℕ) (spot : Spot) → slice_get xs i ≡ Some spot → slice_get ys j ≡ Some spot → ⊥)
    → AllDiffer (xs ++ ys)
differ_both xs ys a b apart i j spot h k = elim (both_cases xs ys i spot h) [
  | inl w ↦ elim (both_cases xs ys j spot k) [
    | inl v ↦ a i j spot w v
    | inr v ↦ absurd (apart i v.0 spot w v.2)
  ]
  | inr w ↦ elim (both_cases xs ys j spot k) [
    | inl v ↦ absurd (apart j w.0 spot v w.2)
    | inr v ↦
        let e : w.0 ≡ v.0 = b w.0 v.0 spot w.2 v.2 in
        let f = w.1 in
        let g = v.1 in
        omega arith
  ]
]

-- the spots of one instance
pub record AreOwn (design : NetlistRec) (path : Path) (own : List Spot) (count : ℕ) : Type 0 where
  pub differ : AllDiffer own
  pub counted : AllByRecursion (IsCounted design) own
  pub at : (k : ℕ) (spot : Spot) → slice_get own k ≡ Some spot → path_at spot ≡ path
  pub many : length own ≡ count

-- the nets of an instance with an inside
pub own_nets : (design : NetlistRec) (path : Path) (cell : Cell)
    → inside_at design path ≡ Some cell
    → AreOwn design path (nets_from path 0 (length cell.nets)) (length cell.nets)
own_nets design path cell inside = record {
  differ = λ i j spot h k.
      let a = net_at path 0 (length cell.nets) i spot h in
      let b = net_at path 0 (length cell.nets) j spot k in
      let e : NetAt path (0 + i) ≡ NetAt path (0 + j) = sym a.0 ∙ b.0 in
      let f : 0 + i ≡ 0 + j = cc in
      omega arith;
  counted = nets_counted design path cell inside 0 (length cell.nets) (omega arith);
  at = λ k spot h. ap path_at (net_at path 0 (length cell.nets) k spot h).0;
  many = nets_many path 0 (length cell.nets);
}

pub own_none : (design : NetlistRec) (path : Path) → AreOwn design path [] 0
own_none design path = record {
  differ = λ i j spot h k. absurd cc;
  counted = tt;
  at = λ k spot h. absurd cc;
  many = refl;
}

counted_below : (design : NetlistRec) (path parent : Path) (place : ℕ) (inst : CellInstance)
    → path ≡ parent ++ place ∷ [] → instance_at design path ≡ Some inst
    → IsCounted design (InstanceAt path)
counted_below design [] [] place inst e h = absurd cc
counted_below design [] (x ∷ parent) place inst e h = absurd cc
counted_below design (k ∷ path) parent place inst e h =
    subst (λ (o : Option CellInstance). IsSome o) (sym h) refl

-- with an instance below the top
pub own_instance : (design : NetlistRec) (path parent : Path) (place : ℕ) (inst : CellInstance)
    (own : List Spot) (count : ℕ) → path ≡ parent ++ place ∷ []
    → instance_at design path ≡ Some inst → AreOwn design path own count
    → ((k : ℕ) (spot : Spot) → slice_get own k ≡ Some spot → spot ≡ InstanceAt path → ⊥)
    → AreOwn design path (InstanceAt path ∷ own) (count + 1)
own_instance design path parent place inst own count e h O apart = record {
  differ = λ i j spot a b. differ_one i j spot a b;
  counted = (counted_below design path parent place inst e h, O.counted);
  at = λ k spot a. at_one k spot a;
  many = let m = O.many in omega arith;
}
  where
    differ_one : (i j : ℕ) (spot : Spot) → slice_get (InstanceAt path ∷ own) i ≡ Some spot
        → slice_get (InstanceAt path ∷ own) j ≡ Some spot → i ≡ j
    differ_one zero zero spot a b = refl
    differ_one zero (suc j) spot a b = absurd (apart j spot b (sym (same_Some _ _ a)))
    differ_one (suc i) zero spot a b = absurd (apart i spot a (sym (same_Some _ _ b)))
    differ_one (suc i) (suc j) spot a b = ap suc (O.differ i j spot a b)

    at_one : (k : ℕ) (spot : Spot) → slice_get (InstanceAt path ∷ own) k ≡ Some spot
        → path_at spot ≡ path
    at_one zero spot a = ap path_at (sym (same_Some _ _ a))
    at_one (suc k) spot a = O.at k spot a

pub net_apart : (path : Path) (count k : ℕ) (spot : Spot)
    → slice_get (nets_from path 0 count) k ≡ Some spot → spot ≡ InstanceAt path → ⊥
net_apart path count k spot h e =
    let f : NetAt path (0 + k) ≡ InstanceAt path = sym (net_at path 0 count k spot h).0 ∙ e in
    cc

-- those of a new instance come to those of the others
pub more_spots : (design : NetlistRec) (paths : List Path) (path : Path) (count more : ℕ)
    (own : List Spot) → HasSpots design paths count → AreOwn design path own more
    → (Contains paths path → ⊥) → HasSpots design (paths ++ path ∷ []) (count + more)
more_spots design paths path count more own H O new = record {
  spots = H.spots ++ own;
  differ = differ_both H.spots own H.differ O.differ
      (λ i j spot a b. new (subst (λ (p : Path). Contains paths p) (O.at j spot b)
      (H.inside i spot a)));
  counted = all_both (IsCounted design) H.spots own H.counted O.counted;
  inside = λ k spot h. elim (both_cases H.spots own k spot h) [
    | inl w ↦ Contains-append_left paths (path ∷ []) (path_at spot) (H.inside k spot w)
    | inr w ↦ subst (λ (p : Path). Contains (paths ++ path ∷ []) p) (sym (O.at w.0 spot w.2))
        (Contains-push paths path)
  ];
  many =
      let a = H.many in
      let b = O.many in
      length-append H.spots own ∙ omega arith;
}

-- where N10 isn't broken they are few
pub few_spots : (design : NetlistRec) (paths : List Path) (count : ℕ) → ¬ BreaksN10 design
    → HasSpots design paths count → count ≤ 2 ^ 22
few_spots design paths count keeps H = elim (cases_lt (2 ^ 22) count) [
  | inl w ↦
      let m = H.many in
      absurd (keeps (H.spots, H.differ, H.counted, omega arith))
  | inr w ↦ w
]
