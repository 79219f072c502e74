-- Second names among places, from numbers that stand a second time.
use Rattle.std.proofs.Common.{◌≡◌, ◌<◌, ◌≤◌, ◌^◌, ◌∙◌, ap, refl, sym, subst, ℕ, suc, List, []}
use Rattle.std.proofs.Common.{◌∷◌, slice_get, Some, length, get_or, inl, inr, arith}
use Rattle.std.specs.List.{AllByRecursion}
use Rattle.std.proofs.lemmas.Bool.{cases_lt}
use Rattle.std.proofs.lemmas.Option.{same_Some, slice_get-get_or, slice_get_within}
use Rattle.ix_message.specs.Shape.{Text}
use Rattle.ix_rec.specs.declared.netlist.NetlistRec.{NetlistRec}
use Rattle.ix_strings.specs.Names.{AllDiffer}
use Rattle.ix_hierarchy.specs.Walk.{IsBefore, Spot, InstanceAt}
use Rattle.ix_hierarchy.specs.Broken.{BreaksN10, IsCounted, IsSecondNamed}
use Rattle.ix_second_names.specs.Seconds.{IsFirstSecond, IsSecond, NoneSecond}
use Rattle.ix_named_twice.proofs.Order.{before_trans, not_before}

-- Numbers of names stand for what has a name, place by place in the walk's order: all of it, and
-- each place has one name.
pub record AreSpots (Is : Spot → Text → Type 0) (names : List Text) (ids : List ℕ)
    (spots : List Spot) : Type 0 where
  pub many : length ids ≡ length spots
  pub each : (k id : ℕ) (spot : Spot) → slice_get ids k ≡ Some id → slice_get spots k ≡ Some spot
      → (text : Text) × (slice_get names id ≡ Some text) × Is spot text
  pub all : (spot : Spot) (text : Text) → Is spot text → (k : ℕ) × (slice_get spots k ≡ Some spot)
  pub rise : (j k : ℕ) (a b : Spot) → j < k → slice_get spots j ≡ Some a
      → slice_get spots k ≡ Some b → IsBefore a b
  pub same : (spot : Spot) (s t : Text) → Is spot s → Is spot t → s ≡ t

-- places in the walk's order have numbers in this order
ordered : (Is : Spot → Text → Type 0) (names : List Text) (ids : List ℕ) (spots : List Spot)
    (j k : ℕ) (a b : Spot) → AreSpots Is names ids spots → slice_get spots j ≡ Some a
    → slice_get spots k ≡ Some b → IsBefore a b → j < k
ordered Is names ids spots j k a b are x y before = elim (cases_lt j k) [
  | inl less ↦ less
  | inr more ↦ elim (cases_lt k j) [
    | inl less ↦ absurd (not_before a (before_trans a b a before (are.rise k j b a less y x)))
    | inr none ↦
        let e : j ≡ k = omega arith in
        let same : a ≡ b = same_Some a b (sym x ∙ ap (slice_get spots) e ∙ y) in
        absurd (not_before b (subst (λ s. IsBefore s b) same before))
  ]
]

-- the number at the place of what has a name is that of the name
named_at : (Is : Spot → Text → Type 0) (names : List Text) (ids : List ℕ) (spots : List Spot)
    (k : ℕ) (spot : Spot) (text : Text) → AreSpots Is names ids spots
    → slice_get spots k ≡ Some spot → Is spot text
    → (id : ℕ) × (slice_get ids k ≡ Some id) × (slice_get names id ≡ Some text)
named_at Is names ids spots k spot text are at is =
    let lt : k < length spots = slice_get_within spots k spot at in
    let many : length ids ≡ length spots = are.many in
    let id_is : slice_get ids k ≡ Some (get_or ids k 0) = slice_get-get_or ids k 0 (omega arith) in
    let t = are.each k (get_or ids k 0) spot id_is at in
    (get_or ids k 0, id_is, t.1 ∙ ap Some (are.same spot t.0 text t.2 is))

-- what has the name of an earlier one has a number that stands before
second_at : (Is : Spot → Text → Type 0) (names : List Text) (ids : List ℕ) (spots : List Spot)
    (spot : Spot) (text : Text) → AreSpots Is names ids spots → AllDiffer names
    → IsSecondNamed Is spot text → (k : ℕ) × (slice_get spots k ≡ Some spot) × IsSecond ids k
second_at Is names ids spots spot text are differ second =
    let k = are.all spot text second.here in
    let j = are.all second.other text second.there in
    let x = named_at Is names ids spots k.0 spot text are k.1 second.here in
    let y = named_at Is names ids spots j.0 second.other text are j.1 second.there in (
      k.0,
      k.1,
      record {
        name = x.0;
        is = x.1;
        earlier = j.0;
        before = ordered Is names ids spots j.0 k.0 second.other spot are j.1 k.1 second.before;
        there = y.1 ∙ ap Some (differ y.0 x.0 text y.2 x.2);
      },
    )

-- where no number stands before, none has the name of an earlier one
pub none_named : (Is : Spot → Text → Type 0) (names : List Text) (ids : List ℕ)
    (spots : List Spot) → AreSpots Is names ids spots → AllDiffer names
    → NoneSecond ids (length ids) → (spot : Spot) (text : Text) → ¬ IsSecondNamed Is spot text
none_named Is names ids spots are differ none spot text second =
    let at = second_at Is names ids spots spot text are differ second in
    none at.0 (slice_get_within ids at.0 at.2.name at.2.is) at.2

-- the first place whose number stands before
pub record IsToldAt (Is : Spot → Text → Type 0) (names : List Text) (ids : List ℕ)
    (spots : List Spot) (place : ℕ) : Type 0 where
  pub spot : Spot
  pub at : slice_get spots place ≡ Some spot
  pub id : ℕ
  pub id_is : slice_get ids place ≡ Some id
  pub text : Text
  pub named : slice_get names id ≡ Some text
  pub second : IsSecondNamed Is spot text
  pub first : (other : Spot) (t : Text) → IsBefore other spot → ¬ IsSecondNamed Is other t

pub told_at : (Is : Spot → Text → Type 0) (names : List Text) (ids : List ℕ) (spots : List Spot)
    (place : ℕ) → AreSpots Is names ids spots → AllDiffer names → IsFirstSecond ids place
    → IsToldAt Is names ids spots place
told_at Is names ids spots place are differ first =
    let none : Spot = InstanceAt [] in
    let s = first.second in
    let before : s.earlier < place = s.before in
    let within : place < length ids = slice_get_within ids place s.name s.is in
    let many : length ids ≡ length spots = are.many in
    let spot : Spot = get_or spots place none in
    let other : Spot = get_or spots s.earlier none in
    let at : slice_get spots place ≡ Some spot =
    slice_get-get_or spots place none (omega arith) in
    let other_at : slice_get spots s.earlier ≡ Some other =
    slice_get-get_or spots s.earlier none (omega arith) in
    let t = are.each place s.name spot s.is at in
    let u = are.each s.earlier s.name other s.there other_at in
    record {
      spot = spot;
      at = at;
      id = s.name;
      id_is = s.is;
      text = t.0;
      named = t.1;
      second = record {
        here = t.2;
        other = other;
        before = are.rise s.earlier place other spot before other_at at;
        there = subst (λ (w : Text). Is other w) (same_Some u.0 t.0 (sym u.1 ∙ t.1)) u.2;
      };
      first = λ earlier text less second.
          let k = second_at Is names ids spots earlier text are differ second in
          first.first k.0 (ordered Is names ids spots k.0 place earlier spot are k.1 at less) k.2;
    }

-- The places are few where N10 is kept.

all_of : (P : Spot → Type 0) (spots : List Spot)
    → ((k : ℕ) (spot : Spot) → slice_get spots k ≡ Some spot → P spot) → AllByRecursion P spots
all_of P [] each = tt
all_of P (spot ∷ spots) each = (each 0 spot refl, all_of P spots (λ k s h. each (suc k) s h))

pub few : (Is : Spot → Text → Type 0) (names : List Text) (ids : List ℕ) (spots : List Spot)
    (design : NetlistRec) → AreSpots Is names ids spots
    → ((spot : Spot) (text : Text) → Is spot text → IsCounted design spot) → ¬ BreaksN10 design
    → length ids ≤ 2 ^ 22
few Is names ids spots design are counted keeps =
    let many : length ids ≡ length spots = are.many in
    elim (cases_lt (2 ^ 22) (length spots)) [
      | inl more ↦ absurd (keeps (
        spots,
        λ i j spot x y. elim (cases_lt i j) [
          | inl less ↦ absurd (not_before spot (are.rise i j spot spot less x y))
          | inr more ↦ elim (cases_lt j i) [
            | inl less ↦ absurd (not_before spot (are.rise j i spot spot less y x))
            | inr none ↦ omega arith
          ]
        ],
        all_of (IsCounted design) spots (λ k spot h.
            let lt : k < length spots = slice_get_within spots k spot h in
            let t = are.each k (get_or ids k 0) spot (slice_get-get_or ids k 0 (omega arith)) h in
            counted spot t.0 t.2),
        more,
      ))
      | inr less ↦ omega arith
    ]

-- a number is that of a name
pub id_below : (Is : Spot → Text → Type 0) (names : List Text) (ids : List ℕ)
    (spots : List Spot) (k id : ℕ) → AreSpots Is names ids spots → slice_get ids k ≡ Some id
    → id < length names
id_below Is names ids spots k id are h =
    let none : Spot = InstanceAt [] in
    let lt : k < length ids = slice_get_within ids k id h in
    let many : length ids ≡ length spots = are.many in
    let t = are.each k id (get_or spots k none) h (slice_get-get_or spots k none (omega arith)) in
    slice_get_within names id t.0 t.1
