-- Assignments of lines to items.
use Rattle.std.proofs.Common.{◌≡◌, ◌≢◌, ℕ, zero, suc, ◌<◌, ◌≤◌, Bool, true, false, cond, eqb, ◌&&◌, inl, inr, List, [], ◌∷◌, ◌++◌, length, take, slice_index, Contains, sym, ap, ◌∙◌, refl, subst, arith, w32}
use Rattle.std.specs.Int.{bit_at}
use Rattle.std.proofs.lemmas.Bool.{cases_lt, eqb-false, eq-eqb}
use Rattle.std.proofs.lemmas.List.{get_or-take, get_or_past, length-take}
use Rattle.std.proofs.lemmas.Nat.Bits.{bit_at-zero, bit_at_set_same, bit_at_set_other}
use Rattle.ix_num.specs.declared.resource.NetRef.{NetRef}
use Rattle.ix_num.specs.declared.resource.NetRef.TheVariants.{Gnd, Vcc, Signal}
use Rattle.ix_lut.specs.Tables.{AllDiffer}
use Rattle.ix_lut.specs.Shapes.{input_lines, bel_at}
use Rattle.ix_lut.specs.Items.{use_at, same_net, same_item, item_at, number_in, with_item, with_items, items_of, all_items, IsAssignment, IsLeastAssignment}
use Rattle.ix_lut.specs.Fillings.{Fills, IsLeastFilling, with_line}
use Rattle.ix_lut.specs.Masks.{AreMasks}
use Rattle.ix_lut.specs.declared.shape.ElementShape.{ElementShape}
use Rattle.ix_lut.specs.declared.uses.LutUse.{LutUse}
use Rattle.ix_lut.specs.declared.uses.Item.{Item}

same_net_self : (net : NetRef) → same_net net net ≡ true
same_net_self Gnd = refl
same_net_self Vcc = refl
same_net_self (Signal n) = eq-eqb n n refl

same_item_self : (item : Item) → same_item item item ≡ true
same_item_self item = both (same_net item.net item.net) (eqb item.nth item.nth) (same_net_self item.net) (eq-eqb item.nth item.nth refl)
  where
    both : (a b : Bool) → a ≡ true → b ≡ true → (a && b) ≡ true
    both true b e f = f
    both false b e f = e

-- an item is in a list
abbrev Here : List Item → Item → Type 0
Here items item = number_in items item < length items

number_within : (items : List Item) (item : Item) → number_in items item ≤ length items
number_within [] item = omega arith
number_within (first ∷ items) item = test (same_item first item) (number_within items item)
  where
    test : (b : Bool) → number_in items item ≤ length items → cond b 0 (suc (number_in items item)) ≤ suc (length items)
    test true h = omega arith
    test false h = omega (arith, h)

append_keeps : (items : List Item) (item more : Item) → Here items item → Here (items ++ more ∷ []) item
append_keeps [] item more here = absurd (omega (arith, here))
append_keeps (first ∷ items) item more here = test (same_item first item) here (append_keeps items item more)
  where
    test : (b : Bool) → cond b 0 (suc (number_in items item)) < suc (length items) → (Here items item → Here (items ++ more ∷ []) item) →
        cond b 0 (suc (number_in (items ++ more ∷ []) item)) < suc (length (items ++ more ∷ []))
    test true h rest = omega arith
    test false h rest = let later : Here (items ++ more ∷ []) item = rest (omega (arith, h)) in omega (arith, later)

append_here : (items : List Item) (item : Item) → Here (items ++ item ∷ []) item
append_here [] item = rw (same_item_self item) (omega arith)
append_here (first ∷ items) item = test (same_item first item) (append_here items item)
  where
    test : (b : Bool) → Here (items ++ item ∷ []) item →
        cond b 0 (suc (number_in (items ++ item ∷ []) item)) < suc (length (items ++ item ∷ []))
    test true h = omega arith
    test false h = omega (arith, h)

with_item_keeps : (items : List Item) (item more : Item) → Here items item → Here (with_item items more) item
with_item_keeps items item more here = test (eqb (number_in items more) (length items))
  where
    test : (b : Bool) → Here (cond b (items ++ more ∷ []) items) item
    test true = append_keeps items item more here
    test false = here

with_item_here : (items : List Item) (item : Item) → Here (with_item items item) item
with_item_here items item = test (eqb (number_in items item) (length items)) refl
  where
    test : (b : Bool) → eqb (number_in items item) (length items) ≡ b → Here (cond b (items ++ item ∷ []) items) item
    test true e = append_here items item
    test false e = below (number_within items item) (eqb-false (number_in items item) (length items) e)
      where
        below : {a b : ℕ} → a ≤ b → (a ≡ b → ⊥) → a < b
        below h never = omega (arith, h, never)

with_items_keeps : (items : List Item) (nets : List NetRef) (item : Item) (n : ℕ) → Here items item → Here (with_items items nets n) item
with_items_keeps items nets item zero here = here
with_items_keeps items nets item (suc n) here =
    with_item_keeps (with_items items nets n) item (item_at nets n) (with_items_keeps items nets item n here)

with_items_here : (items : List Item) (nets : List NetRef) (n i : ℕ) → i < n → Here (with_items items nets n) (item_at nets i)
with_items_here items nets zero i h = absurd (omega (arith, h))
with_items_here items nets (suc n) i h = elim (cases_lt i n) [
  | inl under ↦ with_item_keeps (with_items items nets n) (item_at nets i) (item_at nets n) (with_items_here items nets n i under)
  | inr over ↦
      let same : n ≡ i = omega (arith, h, over) in
      subst (λ (k : ℕ). Here (with_items items nets (suc n)) (item_at nets k)) same (with_item_here (with_items items nets n) (item_at nets n))
]

-- each item of a cell is in the list
pub items_here : (uses : List LutUse) (m u i : ℕ) → u < m → i < (use_at uses u).table.inputs →
    number_in (items_of uses m) (item_at (use_at uses u).nets i) < length (items_of uses m)
items_here uses zero u i h few = absurd (omega (arith, h))
items_here uses (suc m) u i h few = elim (cases_lt u m) [
  | inl under ↦ with_items_keeps (items_of uses m) (use_at uses m).nets (item_at (use_at uses u).nets i) (use_at uses m).table.inputs
      (items_here uses m u i under few)
  | inr over ↦
      let same : m ≡ u = omega (arith, h, over) in
      let P : ℕ → Type 0 = λ v. i < (use_at uses v).table.inputs → Here (items_of uses (suc m)) (item_at (use_at uses v).nets i) in
      subst P same (λ inputs. with_items_here (items_of uses m) (use_at uses m).nets (use_at uses m).table.inputs i inputs) few
]

-- lines by item
pub record IsFilled (masks : List ℕ) (used : ℕ) (lines : List ℕ) : Type 0 where
  pub long : length lines ≡ length masks
  pub allowed : (x : ℕ) → x < length lines → bit_at (slice_index masks x) (slice_index lines x) ≡ 1
  pub unused : (x : ℕ) → x < length lines → bit_at used (slice_index lines x) ≡ 0
  pub differ : AllDiffer lines

abbrev Small : List ℕ → Type 0
Small masks = (x l : ℕ) → bit_at (slice_index masks x) l ≡ 1 → l < 32

is_unused : (used l k : ℕ) → l < 32 → bit_at (with_line used l) k ≡ 0 → (k ≢ l) × (bit_at used k ≡ 0)
is_unused used l k small zero_bit =
    let differs : k ≢ l = λ same. (let e = ap (bit_at (with_line used l)) same in
    omega (arith, e, zero_bit, bit_at_set_same w32 used l small)) in
    (differs, sym (bit_at_set_other w32 used l small k differs) ∙ zero_bit)

pub filled_from : (masks : List ℕ) (used : ℕ) (lines : List ℕ) → Small masks → Fills masks used lines → IsFilled masks used lines
filled_from [] used [] small fills = record {
  long = refl;
  allowed = λ x h. absurd (omega (arith, h));
  unused = λ x h. absurd (omega (arith, h));
  differ = λ a b h l. absurd (omega (arith, l));
}
filled_from [] used (l ∷ ls) small fills = absurd fills
filled_from (m ∷ ms) used [] small fills = absurd fills
filled_from (m ∷ ms) used (l ∷ ls) small fills =
    let rest = filled_from ms (with_line used l) ls (λ x k one. small (suc x) k one) fills.2 in
    let here : l < 32 = small 0 l fills.0 in
    record {
      long = omega (arith, rest.long);
      allowed = all_allowed rest;
      unused = all_unused rest here;
      differ = all_differ rest here;
    }
  where
    all_allowed : IsFilled ms (with_line used l) ls → (x : ℕ) → x < suc (length ls) → bit_at (slice_index (m ∷ ms) x) (slice_index (l ∷ ls) x) ≡ 1
    all_allowed rest zero h = fills.0
    all_allowed rest (suc x) h = rest.allowed x (omega (arith, h))

    all_unused : IsFilled ms (with_line used l) ls → l < 32 → (x : ℕ) → x < suc (length ls) → bit_at used (slice_index (l ∷ ls) x) ≡ 0
    all_unused rest here zero h = fills.1
    all_unused rest here (suc x) h = (is_unused used l (slice_index ls x) here (rest.unused x (omega (arith, h)))).1

    all_differ : IsFilled ms (with_line used l) ls → l < 32 → AllDiffer (l ∷ ls)
    all_differ rest here a zero h k = absurd (omega (arith, h))
    all_differ rest here zero (suc b) h k = λ same. (is_unused used l (slice_index ls b) here (rest.unused b (omega (arith, k)))).0 (sym same)
    all_differ rest here (suc a) (suc b) h k = rest.differ a b (omega (arith, h)) (omega (arith, k))

pub fills_from : (masks : List ℕ) (used : ℕ) (lines : List ℕ) → Small masks → IsFilled masks used lines → Fills masks used lines
fills_from [] used [] small is = tt
fills_from [] used (l ∷ ls) small is = absurd (omega (arith, is.long))
fills_from (m ∷ ms) used [] small is = absurd (omega (arith, is.long))
fills_from (m ∷ ms) used (l ∷ ls) small is = (
  is.allowed 0 (omega arith),
  is.unused 0 (omega arith),
  fills_from ms (with_line used l) ls (λ x k one. small (suc x) k one) record {
    long = omega (arith, is.long);
    allowed = λ x h. is.allowed (suc x) (omega (arith, h));
    unused = λ x h.
        let other : slice_index ls x ≢ l = λ same. is.differ 0 (suc x) (omega arith) (omega (arith, h)) (sym same) in
        bit_at_set_other w32 used l (small 0 l (is.allowed 0 (omega arith))) (slice_index ls x) other ∙ is.unused (suc x) (omega (arith, h));
    differ = λ a b h k. is.differ (suc a) (suc b) (omega (arith, h)) (omega (arith, k));
  },
)

-- the lists of lines that fill the items' sets are the assignments
module _ (shape : ElementShape) (uses : List LutUse) (masks : List ℕ) (few : shape.lines ≤ 12)
    (room : length (all_items uses) ≤ 48) (long : length masks ≡ 48)
    (are : AreMasks shape uses (all_items uses) (length uses) masks) where
  abbrev count : ℕ
  count = length (all_items uses)

  small : Small (take count masks)
  small x l one = elim (cases_lt x count) [
    | inl inside ↦
        let at : bit_at (slice_index masks x) l ≡ 1 = sym (ap (λ w. bit_at w l) (get_or-take count masks x 0 inside)) ∙ one in
        omega (arith, are.on_lines x l at, few)
    | inr past ↦
        let none : slice_index (take count masks) x ≡ 0 = get_or_past (take count masks) x 0 (omega (arith, past, length-take count masks)) in
        absurd (omega (arith, one, ap (λ w. bit_at w l) none, bit_at-zero l))
  ]

  as_many : length (take count masks) ≡ count
  as_many = omega (arith, length-take count masks, long, room)

  pub assignment_from : (lines : List ℕ) → Fills (take count masks) 0 lines → IsAssignment shape uses lines
  assignment_from lines fills =
      let is = filled_from (take count masks) 0 lines small fills in
      let all : length lines ≡ count = is.long ∙ as_many in
      record {
        every = all;
        on_lines = λ x h. are.on_lines x (slice_index lines x) (allowed is all x h);
        own = is.differ;
        reached = λ u i h inputs.
            let x : ℕ = number_in (all_items uses) (item_at (use_at uses u).nets i) in
            let here : x < count = items_here uses (length uses) u i h inputs in
            are.only x (slice_index lines x) (allowed is all x (omega (arith, here, all))) u i h inputs refl;
      }
    where
      allowed : IsFilled (take count masks) 0 lines → length lines ≡ count → (x : ℕ) → x < length lines →
          bit_at (slice_index masks x) (slice_index lines x) ≡ 1
      allowed is all x h =
          let inside : x < count = omega (arith, h, all) in
          sym (ap (λ w. bit_at w (slice_index lines x)) (get_or-take count masks x 0 inside)) ∙ is.allowed x h

  pub fills_assignment : (lines : List ℕ) → IsAssignment shape uses lines → Fills (take count masks) 0 lines
  fills_assignment lines is = fills_from (take count masks) 0 lines small record {
    long = is.every ∙ sym as_many;
    allowed = λ x h.
        let inside : x < count = omega (arith, h, is.every) in
        let all = are.every x (slice_index lines x) (omega (arith, inside, room)) (is.on_lines x h)
        (λ u i below inputs at. subst (λ (k : ℕ). Contains (input_lines (bel_at shape (use_at uses u).bel)) (slice_index lines k)) at
        (is.reached u i below inputs)) in
        ap (λ w. bit_at w (slice_index lines x)) (get_or-take count masks x 0 inside) ∙ all;
    unused = λ x h. bit_at-zero (slice_index lines x);
    differ = is.own;
  }

  pub least_assignment : (lines : List ℕ) → IsLeastFilling (take count masks) 0 lines → IsLeastAssignment shape uses lines
  least_assignment lines is = record {
    assigns = assignment_from lines is.fills;
    least = λ other assigns before. is.least other (fills_assignment other assigns) before;
  }

  pub no_assignment : ((lines : List ℕ) → Fills (take count masks) 0 lines → ⊥) → (lines : List ℕ) → IsAssignment shape uses lines → ⊥
  no_assignment none lines assigns = none lines (fills_assignment lines assigns)

-- the same, with the items as they were found
module _ (shape : ElementShape) (uses : List LutUse) (n : ℕ) (items : List Item) (masks : List ℕ) where
  pub assigned : (raw : List ℕ) → shape.lines ≤ 12 → items ≡ all_items uses → length items ≡ n → n ≤ 48 → length masks ≡ 48 →
      AreMasks shape uses items (length uses) masks →
      IsLeastFilling (take n masks) 0 (take (length (take n masks)) raw) → IsLeastAssignment shape uses (take (length items) raw)
  assigned raw few same many room long are is =
      let all : length (all_items uses) ≡ n = sym (ap (λ (xs : List Item). length xs) same) ∙ many in
      let taken : length (take n masks) ≡ length items = omega (arith, length-take n masks, long, room, many) in
      least_assignment shape uses masks few (omega (arith, all, room)) long
      (subst (λ (xs : List Item). AreMasks shape uses xs (length uses) masks) same are) (take (length items) raw)
      (subst (λ (k : ℕ). IsLeastFilling (take k masks) 0 (take (length items) raw)) (sym all)
      (subst (λ (k : ℕ). IsLeastFilling (take n masks) 0 (take k raw)) taken is))

  pub unassigned : shape.lines ≤ 12 → items ≡ all_items uses → length items ≡ n → n ≤ 48 → length masks ≡ 48 →
      AreMasks shape uses items (length uses) masks → ((lines : List ℕ) → Fills (take n masks) 0 lines → ⊥) →
      (lines : List ℕ) → IsAssignment shape uses lines → ⊥
  unassigned few same many room long are none =
      let all : length (all_items uses) ≡ n = sym (ap (λ (xs : List Item). length xs) same) ∙ many in
      no_assignment shape uses masks few (omega (arith, all, room)) long
      (subst (λ (xs : List Item). AreMasks shape uses xs (length uses) masks) same are)
      (subst (λ (k : ℕ). (lines : List ℕ) → Fills (take k masks) 0 lines → ⊥) (sym all) none)
