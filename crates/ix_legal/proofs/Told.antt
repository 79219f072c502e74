-- One answer can be given of a netlist: none where it is legal, else the least rule that it breaks
-- with the first place.
use Rattle.std.proofs.Common.{◌≡◌, ◌↔◌, ◌<◌, ◌∙◌, ap, refl, sym, subst, ℕ, zero, suc, inl, inr}
use Rattle.std.proofs.Common.{List}
use Rattle.std.specs.Prelude.{Option, Some, None, slice_get}
use Rattle.std.proofs.lemmas.Bool.{cases_order}
use Rattle.std.proofs.lemmas.Option.{same_Some}
use Rattle.ix_message.specs.Shape.{Text}
use Rattle.ix_rec.specs.declared.device.DeviceRec.{DeviceRec}
use Rattle.ix_rec.specs.declared.phys.Phys.{Phys}
use Rattle.ix_rec.specs.declared.phys.CellPlacement.{CellPlacement}
use Rattle.ix_rec.specs.declared.phys.PhysNet.{PhysNet}
use Rattle.ix_rec.specs.declared.phys.Property.{Property}
use Rattle.ix_rec.specs.declared.phys.SiteInstance.{SiteInstance}
use Rattle.ix_rec.specs.declared.place.Place.{Place}
use Rattle.ix_rec.specs.declared.place.Place.TheVariants as places
use Rattle.ix_rec.specs.declared.place.Rule.{Rule}
use Rattle.ix_rec.specs.declared.place.Rule.TheVariants.{L1, L2, L3, L4, L5, L6, L7, L8, L9, L10}
use Rattle.ix_legal.specs.declared.level.Level.{Level}
use Rattle.ix_legal.specs.Spots.{Spot, InstanceAt, PlacementAt, NetAt, SegmentAt, PropertyAt}
use Rattle.ix_legal.specs.Spots.{ElementAt}
use Rattle.ix_legal.specs.Legal.{Asks, IsAnswer, IsFirstBroken, IsPlaceOf, Legal, order}
use Rattle.ix_legal.proofs.Orders.{spots_in_order}

-- a legal netlist keeps what every rule asks, also those that ask nothing of it
asks : (level : Level) (names : List Text) (rec : DeviceRec) (phys : Phys)
    → Legal level names rec phys → (rule : Rule) (spot : Spot) → Asks level names rec phys rule spot
asks level names rec phys legal L1 spot = legal.l1 spot
asks level names rec phys legal L2 spot = legal.l2 spot
asks level names rec phys legal L3 spot = legal.l3 spot
asks level names rec phys legal L4 spot = legal.l4 spot
asks level names rec phys legal L5 spot = legal.l5 spot
asks level names rec phys legal L6 spot = legal.l6 spot
asks level names rec phys legal L7 spot = legal.l7 spot
asks level names rec phys legal L8 spot = legal.l8 spot
asks level names rec phys legal L9 spot = legal.l9 spot
asks level names rec phys legal L10 spot = legal.l10 spot
asks level names rec phys legal rule spot = tt

-- a rule that is broken is told by its place among the rules
abbrev rule_of : ℕ → Rule
rule_of (suc zero) = L1
rule_of (suc (suc zero)) = L2
rule_of (suc (suc (suc zero))) = L3
rule_of (suc (suc (suc (suc zero)))) = L4
rule_of (suc (suc (suc (suc (suc zero))))) = L5
rule_of (suc (suc (suc (suc (suc (suc zero)))))) = L6
rule_of (suc (suc (suc (suc (suc (suc (suc zero))))))) = L7
rule_of (suc (suc (suc (suc (suc (suc (suc (suc zero)))))))) = L8
rule_of (suc (suc (suc (suc (suc (suc (suc (suc (suc zero))))))))) = L9
rule_of n = L10

rule_back : (level : Level) (names : List Text) (rec : DeviceRec) (phys : Phys) (rule : Rule)
    (spot : Spot) → (Asks level names rec phys rule spot → ⊥) → rule_of (order rule) ≡ rule
rule_back level names rec phys L1 spot broken = refl
rule_back level names rec phys L2 spot broken = refl
rule_back level names rec phys L3 spot broken = refl
rule_back level names rec phys L4 spot broken = refl
rule_back level names rec phys L5 spot broken = refl
rule_back level names rec phys L6 spot broken = refl
rule_back level names rec phys L7 spot broken = refl
rule_back level names rec phys L8 spot broken = refl
rule_back level names rec phys L9 spot broken = refl
rule_back level names rec phys L10 spot broken = refl
rule_back level names rec phys rule spot broken = absurd (broken tt)

-- one place is printed of each place of the walk
one_place : (names : List Text) (phys : Phys) (spot : Spot) (a b : Place)
    → IsPlaceOf names phys spot a → IsPlaceOf names phys spot b → a ≡ b
one_place names phys (InstanceAt i) a b x y =
    let same = same_Some x.0 y.0 (sym x.2 ∙ y.2) in
    let name = same_Some x.1 y.1 (sym x.3 ∙ (ap (λ (t : SiteInstance). slice_get names t.site) same ∙ y.3)) in
    x.4 ∙ (ap (λ (t : Text). places.Site t) name ∙ sym y.4)
one_place names phys (PlacementAt i) a b x y =
    let same = same_Some x.0 y.0 (sym x.2 ∙ y.2) in
    let name = same_Some x.1 y.1 (sym x.3 ∙ (ap (λ (t : CellPlacement). slice_get names t.cell_name) same ∙ y.3)) in
    x.4 ∙ (ap (λ (t : Text). places.Cell t) name ∙ sym y.4)
one_place names phys (NetAt n) a b x y =
    let same = same_Some x.0 y.0 (sym x.2 ∙ y.2) in
    let name = same_Some x.1 y.1 (sym x.3 ∙ (ap (λ (t : PhysNet). slice_get names t.name) same ∙ y.3)) in
    x.4 ∙ (ap (λ (t : Text). places.Segment t 0) name ∙ sym y.4)
one_place names phys (SegmentAt n k) a b x y =
    let same = same_Some x.0 y.0 (sym x.2 ∙ y.2) in
    let name = same_Some x.1 y.1 (sym x.3 ∙ (ap (λ (t : PhysNet). slice_get names t.name) same ∙ y.3)) in
    x.4 ∙ (ap (λ (t : Text). places.Segment t k) name ∙ sym y.4)
one_place names phys (PropertyAt i) a b x y =
    let same = same_Some x.0 y.0 (sym x.2 ∙ y.2) in
    let name = same_Some x.1 y.1 (sym x.3 ∙ (ap (λ (t : Property). slice_get names t.key) same ∙ y.3)) in
    x.4 ∙ (ap (λ (t : Text). places.Key t) name ∙ sym y.4)
one_place names phys (ElementAt i element) a b x y =
    let same = same_Some x.0 y.0 (sym x.2 ∙ y.2) in
    let name = same_Some x.1 y.1 (sym x.3 ∙ (ap (λ (t : SiteInstance). slice_get names t.site) same ∙ y.3)) in
    x.4 ∙ (ap (λ (t : Text). places.Element t element) name ∙ sym y.4)

abbrev told : Rule → Place → Option (Rule × Place)
told rule place = Some (rule, place)

module _ (level : Level) (names : List Text) (rec : DeviceRec) (phys : Phys) where
  not_both : (answer : Rule × Place) → Legal level names rec phys
      → IsFirstBroken level names rec phys answer.0 answer.1 → ⊥
  not_both answer legal broken =
      broken.first.broken (asks level names rec phys legal answer.0 broken.spot)

  -- no other broken rule is less
  none_less : (a b : Rule) (p q : Place) → IsFirstBroken level names rec phys a p
      → IsFirstBroken level names rec phys b q → order a < order b → ⊥
  none_less a b p q x y lt = x.first.broken (y.earlier a lt x.spot)

  one_rule : (a b : Rule) (p q : Place) → IsFirstBroken level names rec phys a p
      → IsFirstBroken level names rec phys b q → a ≡ b
  one_rule a b p q x y = elim (cases_order (order a) (order b)) [
    | inl same ↦ sym (rule_back level names rec phys a x.spot x.first.broken)
        ∙ (ap rule_of same ∙ rule_back level names rec phys b y.spot y.first.broken)
    | inr (inl lt) ↦ absurd (none_less a b p q x y lt)
    | inr (inr lt) ↦ absurd (none_less b a q p y x lt)
  ]

  -- of one rule there is one first place
  one_first : (rule : Rule) (p q : Place) → IsFirstBroken level names rec phys rule p
      → IsFirstBroken level names rec phys rule q → p ≡ q
  one_first rule p q x y = elim (spots_in_order x.spot y.spot) [
    | inl same ↦ one_place names phys x.spot p q x.told
        (subst (λ spot. IsPlaceOf names phys spot q) (sym same) y.told)
    | inr (inl less) ↦ absurd (x.first.broken (y.first.kept_before x.spot less))
    | inr (inr less) ↦ absurd (y.first.broken (x.first.kept_before y.spot less))
  ]

  one_broken : (a b : Rule) (p q : Place) → IsFirstBroken level names rec phys a p
      → IsFirstBroken level names rec phys b q → told a p ≡ told b q
  one_broken a b p q x y =
      let rules = one_rule a b p q x y in
      let y_too = subst (λ rule. IsFirstBroken level names rec phys rule q) (sym rules) y in
      ap (λ rule. told rule p) rules ∙ ap (told b) (one_first a p q x y_too)

  pub answers : (one other : Option (Rule × Place)) → IsAnswer level names rec phys one
      → IsAnswer level names rec phys other → one ≡ other
  answers None None x y = refl
  answers None (Some b) x y = absurd (not_both b x y)
  answers (Some a) None x y = absurd (not_both a y x)
  answers (Some a) (Some b) x y = one_broken a.0 b.0 a.1 b.1 x y

  pub legal_is_none : (answer : Option (Rule × Place)) → IsAnswer level names rec phys answer
      → Legal level names rec phys ↔ (answer ≡ None)
  legal_is_none answer is = (
    λ legal. answers answer None is legal,
    λ none. subst (IsAnswer level names rec phys) none is,
  )
