-- The labels that slots hold.
use Rattle.std.proofs.Common.{◌≡◌, ◌≢◌, inl, inr, ℕ, ◌-◌, ◌++◌, take, drop, ◌<◌, true, false, List}
use Rattle.std.proofs.Common.{[], ◌∷◌, Option, Some, None, length, map, replicate, refl, sym, ◌∙◌}
use Rattle.std.proofs.Common.{ap, subst, arith, All, zero, suc, slice_get}
use Rattle.std.specs.List.{slice_index_or, slice_set}
use Rattle.std.specs.Option.{option_map}
use Rattle.std.proofs.lemmas.Grind.{common_steps}
use Rattle.std.proofs.lemmas.Bool.Decides.{nat_tests}
use Rattle.std.proofs.lemmas.Option.{slice_get-map, slice_get-get_or, slice_get_within}
use Rattle.ix_least.proofs.Marks.{same_or_not}
use Rattle.std.proofs.lemmas.List.{map-set, length-map, length-replicate, get_or-replicate}
use Rattle.ix_least.specs.declared.labels.Label.{Label}
use Rattle.ix_least.specs.declared.labels.Slot.{Slot}
use Rattle.ix_least.specs.Labels.{label_in, IsKnown, Settles}

-- the label that a slot holds
abbrev pub label_of : Slot → Label
label_of slot = record {
  dist = slot.dist;
  edge = slot.edge;
  from = slot.from;
  settled =
      slot.settled;
}

-- a slot of this search tells its label
pub label_in-same : (search : ℕ) (slot : Slot) → slot.search ≡ search →
    label_in search slot ≡ Some (label_of slot)
unfolding label_in
label_in-same search slot e = grind (arith, nat_tests)

-- a slot of another search tells none
pub label_in-other : (search : ℕ) (slot : Slot) → slot.search ≢ search → label_in search slot ≡ None
unfolding label_in
label_in-other search slot e = grind (arith, nat_tests)

-- what the labels are at a point
pub label_at : (search : ℕ) (slots : List Slot) (p : ℕ) (slot : Slot) → p < length slots →
    slot ≡ slice_index_or slots p slot → slice_get (map (label_in search) slots) p ≡ Some
    (label_in search slot)
label_at search slots p slot below is = slice_get-map (label_in search) slots p
    ∙ ap (option_map (label_in search)) (slice_get-get_or slots p slot below ∙ ap Some (sym is))

-- slots of other searches tell no labels
pub labels_of_others : (search : ℕ) (slots : List Slot) → All (λ slot. slot.search ≢ search) slots →
    map (label_in search) slots ≡ replicate (length slots) None
labels_of_others search [] others = refl
labels_of_others search (slot ∷ slots) others =
    let here : label_in search slot ≡ None = label_in-other search slot
    (others 0 slot (omega arith)) in
    let there : map (label_in search) slots ≡ replicate (length slots) None =
    labels_of_others search slots (λ k d below. others (suc k) d (omega arith)) in
    cc

-- no labels but none
pub map_none : {X : Type 0} (labels : List (Option X)) → map {B = Option X}
    (λ x. None) labels ≡ replicate (length labels) None
map_none [] = refl
map_none (label ∷ labels) = ap (λ rest. None ∷ rest) (map_none labels)

-- the labels after a slot was written
pub put_label : (search : ℕ) (slots : List Slot) (labels : List (Option Label)) (p : ℕ)
    (slot : Slot) → map (label_in search) slots ≡ labels → slot.search ≡ search →
    map (label_in search) (slice_set slots p slot) ≡ slice_set labels p (Some (label_of slot))
put_label search slots labels p slot view here = map-set (label_in search) slots p slot
    ∙ (ap (λ (label : Option Label). slice_set (map (label_in search) slots) p label)
    (label_in-same search slot here) ∙ ap (λ (l : List (Option Label)). slice_set l p
    (Some (label_of slot))) view)

-- the label read in a slot of this search
pub read_label : (search : ℕ) (slots : List Slot) (labels : List (Option Label)) (p : ℕ)
    (slot : Slot) → map (label_in search) slots ≡ labels → p < length labels →
    slot ≡ slice_index_or slots p slot → slot.search ≡ search →
    slice_get labels p ≡ Some (Some (label_of slot))
read_label search slots labels p slot view below is here =
    let few : length labels ≡ length slots = ap length (sym view)
    ∙ length-map slots (label_in search) in
    ap (λ (l : List (Option Label)). slice_get l p) (sym view)
    ∙ (label_at search slots p slot (omega arith) is ∙ ap Some (label_in-same search slot here))

-- a slot of another search has none
pub read_none : (search : ℕ) (slots : List Slot) (labels : List (Option Label)) (p : ℕ)
    (slot : Slot) → map (label_in search) slots ≡ labels → p < length labels →
    slot ≡ slice_index_or slots p slot → slot.search ≢ search → slice_get labels p ≡ Some None
read_none search slots labels p slot view below is there =
    let few : length labels ≡ length slots = ap length (sym view)
    ∙ length-map slots (label_in search) in
    ap (λ (l : List (Option Label)). slice_get l p) (sym view)
    ∙ (label_at search slots p slot (omega arith) is ∙ ap Some
    (label_in-other search slot there))

-- a slot of this search is settled
pub settle_slot : (search : ℕ) (slots : List Slot) (labels : List (Option Label)) (p : ℕ)
    (slot : Slot) → map (label_in search) slots ≡ labels → p < length labels →
    slot ≡ slice_index_or slots p slot → slot.search ≡ search → slot.settled ≡ false →
    Settles p slot.dist labels (map (label_in search)
    (slice_set slots p (record slot { settled = true })))
settle_slot search slots labels p slot view below is here unsettled = record {
  label = label_of slot;
  known = read_label search slots labels p slot view below is here;
  unsettled = unsettled;
  dist_is = refl;
  new_is = put_label search slots labels p (record slot { settled = true }) view here;
}

-- a slot of another search holds no label, and a settled one none that isn't settled
pub no_label : (search : ℕ) (slots : List Slot) (labels : List (Option Label)) (p : ℕ)
    (slot : Slot) → map (label_in search) slots ≡ labels → p < length labels →
    slot ≡ slice_index_or slots p slot → slot.search ≢ search →
    (label : Label) → IsKnown labels p label → label.settled ≡ true
no_label search slots labels p slot view below is there label known =
    let none : slice_get labels p ≡ Some None = read_none search slots labels p slot view below is
    there in
    cc

pub settled_label : (search : ℕ) (slots : List Slot) (labels : List (Option Label)) (p : ℕ)
    (slot : Slot) → map (label_in search) slots ≡ labels → p < length labels →
    slot ≡ slice_index_or slots p slot → slot.search ≡ search → slot.settled ≡ true →
    (label : Label) → IsKnown labels p label → label.settled ≡ true
settled_label search slots labels p slot view below is here settled label known =
    let this : slice_get labels p ≡ Some (Some (label_of slot)) =
    read_label search slots labels p slot view below is here in
    let same : Some (Some label) ≡ Some (Some (label_of slot)) = sym known ∙ this in
    let same_label : label ≡ label_of slot = cc in
    ap (λ (l : Label). l.settled) same_label ∙ settled

-- the labels once the search has another number
pub begin_labels : (before now : ℕ) (old slots : List Slot) (labels : List (Option Label)) →
    map (label_in before) old ≡ labels → length slots ≡ length old →
    All (λ slot. slot.search ≢ now) slots → map (label_in now) slots ≡ map {B = Option Label}
    (λ x. None) labels
begin_labels before now old slots labels view few others =
    let all : length slots ≡ length labels = few ∙ (sym (length-map old (label_in before))
    ∙ ap length view) in
    labels_of_others now slots others ∙ (ap (λ n. replicate n None) all ∙ sym (map_none labels))

-- slots that hold no label, all the same
pub map_blank : (search : ℕ) (slot : Slot) → slot.search ≢ search →
    (n : ℕ) → map (label_in search) (replicate n slot) ≡ replicate n None
map_blank search slot other n =
    let others : All (λ (s : Slot). s.search ≢ search) (replicate n slot) =
    λ k d below. subst (λ (s : Slot). s.search ≢ search)
    (sym (get_or-replicate n k slot d (omega (arith, length-replicate n slot)))) other in
    labels_of_others search (replicate n slot) others ∙ ap (λ (m : ℕ). replicate m None)
    (length-replicate n slot)

-- an empty vector, made longer
take_nil : {X : Type 0} (n : ℕ) → take {A = X} n [] ≡ []
take_nil zero = refl
take_nil (suc n) = refl

pub resized : {X : Type 0} (n count : ℕ) (x : X) (old items : List X) → old ≡ [] → count ≡ 0 →
    items ≡ take n old ++ replicate (n - count) x → items ≡ replicate n x
resized n count x old items empty none is =
    is ∙ (ap (λ l. take n l ++ replicate (n - count) x) empty
    ∙ (ap (λ l. l ++ replicate (n - count) x) (take_nil n) ∙ ap (λ m. replicate m x) (omega arith)))

-- a vector's items, written over by as many
pub refilled : {X : Type 0} (count : ℕ) (new old : List X) → count ≡ length old →
    length new ≡ length old → take count (new ++ drop (length new) old) ≡ new
refilled count new old a b = grind (arith, common_steps)

-- the slot of a point that was reached holds its label
pub known_label : (search : ℕ) (slots : List Slot) (labels : List (Option Label)) (p : ℕ)
    (slot : Slot) → map (label_in search) slots ≡ labels → slot ≡ slice_index_or slots p slot →
    (label : Label) → IsKnown labels p label → IsKnown labels p (label_of slot)
known_label search slots labels p slot view is label known =
    let below : p < length labels = slice_get_within labels p (Some label) known in
    elim (same_or_not slot.search search) [
      | inl here ↦ read_label search slots labels p slot view below is here
      | inr there ↦ let none : slice_get labels p ≡ Some None =
          read_none search slots labels p slot view below is there in cc
    ]
