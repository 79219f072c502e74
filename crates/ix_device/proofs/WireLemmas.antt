-- The site wires of BEL pins, wire by wire and pin by pin.
use Rattle.std.proofs.Common.{◌≡◌, refl, ap, sym, ◌∙◌, ℕ, ◌+◌, Bool, true, false, ◌||◌, nat_eq, List, [], ◌∷◌, take, slice_get, Option, Some, None, option_map, arith}
use Rattle.std.specs.List.{list_any, position}
use Rattle.std.proofs.Math.Bool.{or-false}
use Rattle.std.proofs.lemmas.Bool.Decides.{nat_tests}
use Rattle.std.proofs.lemmas.List.Folds.{list_any-append}
use Rattle.ix_first.specs.First.{or_later}
use Rattle.ix_device.proofs.Walks.{take_next}
use Rattle.ix_device.proofs.FirstPlaces.{one_more_place}

pub nat_eq-swap : (a b : ℕ) → nat_eq a b ≡ nat_eq b a
nat_eq-swap a b = grind (arith, nat_tests)

pub list_any_next : {X : Type 0} (p : X → Bool) (xs : List X) (i : ℕ) (x : X) → slice_get xs i ≡ Some x → list_any p (take (i + 1) xs) ≡ (list_any p (take i xs) || p x)
list_any_next p xs i x at = ap (list_any p) (take_next xs i x at) ∙ list_any-append p (take i xs) (x ∷ []) ∙ ap (λ b. list_any p (take i xs) || b) (or-false (p x))

-- a value put twice is put where one of the tests passes
later_twice : {V : Type 0} (a b : Bool) (later : V) (o : Option (Option V)) → option_map (λ v. or_later v b later) (option_map (λ v. or_later v a later) o) ≡ option_map (λ v. or_later v (a || b) later) o
later_twice a b later None = refl
later_twice a b later (Some (Some v)) = refl
later_twice true b later (Some None) = refl
later_twice false b later (Some None) = refl

-- the wire was put under one pin more
pub one_more_pin : {V : Type 0} (pin p : ℕ) (pins : List ℕ) (i : ℕ) (wire : V) (old now new : Option (Option V))
    → slice_get pins i ≡ Some p → now ≡ option_map (λ v. or_later v (list_any (nat_eq pin) (take i pins)) wire) old → new ≡ option_map (λ v. or_later v (nat_eq p pin) wire) now
    → new ≡ option_map (λ v. or_later v (list_any (nat_eq pin) (take (i + 1) pins)) wire) old
one_more_pin pin p pins i wire old now new at before step =
    step
    ∙ ap (option_map (λ v. or_later v (nat_eq p pin) wire)) before
    ∙ later_twice (list_any (nat_eq pin) (take i pins)) (nat_eq p pin) wire old
    ∙ ap (λ b. option_map (λ v. or_later v (list_any (nat_eq pin) (take i pins) || b) wire) old) (nat_eq-swap p pin)
    ∙ ap (λ b. option_map (λ v. or_later v b wire) old) (sym (list_any_next (nat_eq pin) pins i p at))

-- one wire more was put under its pins
pub one_more_wire : {W : Type 0} (test : W → Bool) (wires : List W) (i : ℕ) (w : W) (now new : Option (Option ℕ))
    → slice_get wires i ≡ Some w → now ≡ Some (position test (take i wires)) → new ≡ option_map (λ v. or_later v (test w) i) now
    → new ≡ Some (position test (take (i + 1) wires))
one_more_wire test wires i w now new at before step =
    step ∙ ap (option_map (λ v. or_later v (test w) i)) before ∙ ap Some (one_more_place test wires i w (position test (take i wires)) at refl)
