-- Sets of lines.
use Rattle.std.proofs.Common.{◌≡◌, ◌≢◌, ℕ, ◌+◌, ◌-◌, ◌*◌, ◌%◌, ◌^◌, ◌<◌, ◌≤◌, inl, inr, List, length, take, set, replicate, slice_index, Contains, bit_and, bit_or, min, sym, ap, ◌∙◌, subst, arith, w32}
use Rattle.std.specs.Int.{bit_at}
use Rattle.std.proofs.lemmas.Bool.{cases_lt, cases_eq}
use Rattle.std.proofs.lemmas.List.{get_or_past, get_or_default, get_or-take, length-take, get_or-set_same, get_or-set_other, get_or-replicate}
use Rattle.std.proofs.lemmas.Nat.Bits.{bit_at-lt, bit_at_and, bit_at-zero, bit_at_set_same, bit_at_set_other, bit_at_ones}
use Rattle.std.proofs.Math.Nat.{mod-eq_of_lt, one-le-pow}
use Rattle.std.proofs.Math.Pow.{pow_mono}
use Rattle.ix_num.specs.declared.resource.NetRef.{NetRef}
use Rattle.ix_lut.specs.Shapes.{input_lines, bel_at}
use Rattle.ix_lut.specs.Items.{use_at, item_at, number_in}
use Rattle.ix_lut.specs.Masks.{Narrows, AreMasks}
use Rattle.ix_lut.specs.declared.shape.ElementShape.{ElementShape}
use Rattle.ix_lut.specs.declared.uses.LutUse.{LutUse}
use Rattle.ix_lut.specs.declared.uses.Item.{Item}
use Rattle.ix_lut.proofs.Words.{bit_within}

-- an element of the first `n`, by its place
pub contained_at : (xs : List ℕ) (n k l : ℕ) → n ≤ length xs → k < n → slice_index xs k ≡ l → Contains (take n xs) l
contained_at xs n k l room h e =
    let long : k < length (take n xs) = omega (arith, length-take n xs, room, h) in
    (k, long, get_or-take n xs k l h ∙ get_or_default xs k l 0 (omega (arith, room, h)) ∙ e)

pub place_of_contained : (xs : List ℕ) (n l : ℕ) → Contains (take n xs) l → (k : ℕ) × (k < n) × (slice_index xs k ≡ l)
place_of_contained xs n l at =
    let below : at.0 < n = omega (arith, length-take n xs, at.1) in
    let inside : at.0 < length xs = omega (arith, length-take n xs, at.1) in
    (at.0, below, get_or_default xs at.0 0 l inside ∙ sym (get_or-take n xs at.0 l below) ∙ at.2)

-- a set of the first numbers of a list
pub record HasFirst (numbers : List ℕ) (n mask : ℕ) : Type 0 where
  pub only : (l : ℕ) → bit_at mask l ≡ 1 → (k : ℕ) × (k < n) × (slice_index numbers k ≡ l)
  pub every : (k : ℕ) → k < n → bit_at mask (slice_index numbers k) ≡ 1

module _ (numbers : List ℕ) where
  pub has_none : HasFirst numbers 0 0
  has_none = record {
    only = λ l one. absurd (omega (arith, one, bit_at-zero l));
    every = λ k h. absurd (omega (arith, h));
  }

  pub has_next : (n mask : ℕ) → slice_index numbers n < 32 → HasFirst numbers n mask →
      HasFirst numbers (n + 1) (bit_or mask (1 * 2 ^ slice_index numbers n % 2 ^ 32))
  has_next n mask small has = record {
    only = λ l one. elim (cases_eq l (slice_index numbers n)) [
      | inl same ↦ (n, omega arith, sym same)
      | inr other ↦
          let old = has.only l (sym (bit_at_set_other w32 mask (slice_index numbers n) small l other) ∙ one) in
          (old.0, omega (arith, old.1), old.2)
    ];
    every = λ k h. elim (cases_eq (slice_index numbers k) (slice_index numbers n)) [
      | inl same ↦ ap (bit_at (bit_or mask (1 * 2 ^ slice_index numbers n % 2 ^ 32))) same ∙
          bit_at_set_same w32 mask (slice_index numbers n) small
      | inr other ↦ bit_at_set_other w32 mask (slice_index numbers n) small (slice_index numbers k) other ∙
          has.every k (earlier k h other)
    ];
  }
    where
      earlier : (k : ℕ) → k < n + 1 → slice_index numbers k ≢ slice_index numbers n → k < n
      earlier k h other = elim (cases_lt k n) [
        | inl under ↦ under
        | inr over ↦ let same : k ≡ n = omega (arith, h, over) in absurd (other (ap (slice_index numbers) same))
      ]

  -- the set of all of so many
  pub has_only : (n mask : ℕ) → n ≤ length numbers → HasFirst numbers n mask → (l : ℕ) → bit_at mask l ≡ 1 → Contains (take n numbers) l
  has_only n mask room has l one = let at = has.only l one in contained_at numbers n at.0 l room at.1 at.2

  pub has_every : (n mask : ℕ) → HasFirst numbers n mask → (l : ℕ) → Contains (take n numbers) l → bit_at mask l ≡ 1
  has_every n mask has l at =
      let k = place_of_contained numbers n l at in
      ap (bit_at mask) (sym k.2) ∙ has.every k.0 k.1

module _ (items : List Item) (nets : List NetRef) (mask : ℕ) (before : List ℕ) where
  pub narrow_first : Narrows items nets 0 mask before before
  narrow_first = record {
    only = λ x l one. one;
    narrowed = λ x l one k h. absurd (omega (arith, h));
    every = λ x l one all. one;
  }

  -- an input more, whose item has a set
  pub narrow_next : (n number : ℕ) (now : List ℕ) → number_in items (item_at nets n) ≡ number → number < length now →
      Narrows items nets n mask before now →
      Narrows items nets (n + 1) mask before (set now number (bit_and (slice_index now number) mask))
  narrow_next n number now is inside has = record {
    only = λ x l one. has.only x l (old x l one);
    narrowed = λ x l one k h at. elim (cases_lt k n) [
      | inl under ↦ has.narrowed x l (old x l one) k under at
      | inr over ↦
          let same : k ≡ n = omega (arith, h, over) in
          let here : x ≡ number = sym at ∙ ap (λ (m : ℕ). number_in items (item_at nets m)) same ∙ is in
          let both : min (bit_at (slice_index now number) l) (bit_at mask l) ≡ 1 =
          sym (bit_at_and (slice_index now number) mask l) ∙ sym (ap (λ w. bit_at w l) (at_here x here)) ∙ one in
          omega (arith, both, bit_at-lt (slice_index now number) l, bit_at-lt mask l)
    ];
    every = λ x l one all.
        let was = has.every x l one (λ k h at. all k (omega (arith, h)) at) in
        elim (cases_eq x number) [
          | inl here ↦
              let in_mask = all n (omega arith) (is ∙ sym here) in
              let there : bit_at (slice_index now number) l ≡ 1 = subst (λ (m : ℕ). bit_at (slice_index now m) l ≡ 1) here was in
              ap (λ w. bit_at w l) (at_here x here) ∙ bit_at_and (slice_index now number) mask l ∙ omega (arith, there, in_mask)
          | inr other ↦ ap (λ w. bit_at w l) (get_or-set_other now number x (bit_and (slice_index now number) mask) 0 other) ∙ was
        ];
  }
    where
      at_here : (x : ℕ) → x ≡ number → slice_index (set now number (bit_and (slice_index now number) mask)) x ≡ bit_and (slice_index now number) mask
      at_here x here = ap (slice_index (set now number (bit_and (slice_index now number) mask))) here ∙
          get_or-set_same now number (bit_and (slice_index now number) mask) 0 inside

      old : (x l : ℕ) → bit_at (slice_index (set now number (bit_and (slice_index now number) mask)) x) l ≡ 1 → bit_at (slice_index now x) l ≡ 1
      old x l one = elim (cases_eq x number) [
        | inl here ↦
            let both : min (bit_at (slice_index now number) l) (bit_at mask l) ≡ 1 =
            sym (bit_at_and (slice_index now number) mask l) ∙ sym (ap (λ w. bit_at w l) (at_here x here)) ∙ one in
            let there : bit_at (slice_index now number) l ≡ 1 = omega (arith, both, bit_at-lt (slice_index now number) l, bit_at-lt mask l) in
            subst (λ (m : ℕ). bit_at (slice_index now m) l ≡ 1) (sym here) there
        | inr other ↦ sym (ap (λ w. bit_at w l) (get_or-set_other now number x (bit_and (slice_index now number) mask) 0 other)) ∙ one
      ]

  -- or has none
  pub narrow_past : (n number : ℕ) (now : List ℕ) → number_in items (item_at nets n) ≡ number → length now ≤ number →
      Narrows items nets n mask before now → Narrows items nets (n + 1) mask before now
  narrow_past n number now is past has = record {
    only = has.only;
    narrowed = λ x l one k h at. elim (cases_lt k n) [
      | inl under ↦ has.narrowed x l one k under at
      | inr over ↦
          let same : k ≡ n = omega (arith, h, over) in
          let here : x ≡ number = sym at ∙ ap (λ (m : ℕ). number_in items (item_at nets m)) same ∙ is in
          let none : slice_index now x ≡ 0 = get_or_past now x 0 (omega (arith, here, past)) in
          absurd (omega (arith, one, ap (λ w. bit_at w l) none, bit_at-zero l))
    ];
    every = λ x l one all. has.every x l one (λ k h at. all k (omega (arith, h)) at);
  }

-- the sets by the first cells
module _ (shape : ElementShape) (uses : List LutUse) (items : List Item) (few : shape.lines ≤ 12) where
  whole : 1 * 2 ^ shape.lines % 2 ^ 32 - 1 ≡ 2 ^ shape.lines - 1
  whole =
      let top : 2 ^ shape.lines ≤ 2 ^ 12 = pow_mono few in
      let one : 1 * 2 ^ shape.lines ≡ 2 ^ shape.lines = omega arith in
      ap (λ n. n - 1) (rw one (mod-eq_of_lt (omega (arith, top))))

  word_small : 1 * 2 ^ shape.lines % 2 ^ 32 - 1 < 2 ^ shape.lines
  word_small = omega (arith, whole, one-le-pow shape.lines 2 (omega arith))

  pub masks_first : AreMasks shape uses items 0 (replicate 48 (1 * 2 ^ shape.lines % 2 ^ 32 - 1))
  masks_first = record {
    on_lines = λ x l one. elim (cases_lt x 48) [
      | inl inside ↦ bit_within shape.lines (1 * 2 ^ shape.lines % 2 ^ 32 - 1) l word_small
          (sym (ap (λ w. bit_at w l) (get_or-replicate {A = ℕ} 48 x (1 * 2 ^ shape.lines % 2 ^ 32 - 1) 0 inside)) ∙ one)
      | inr past ↦
          let none : slice_index (replicate 48 (1 * 2 ^ shape.lines % 2 ^ 32 - 1)) x ≡ 0 =
          get_or_past {X = ℕ} (replicate 48 (1 * 2 ^ shape.lines % 2 ^ 32 - 1)) x 0 past in
          absurd (omega (arith, one, ap (λ w. bit_at w l) none, bit_at-zero l))
    ];
    only = λ x l one u i h. absurd (omega (arith, h));
    every = λ x l inside below all.
        ap (λ w. bit_at w l) (get_or-replicate {A = ℕ} 48 x (1 * 2 ^ shape.lines % 2 ^ 32 - 1) 0 inside) ∙
        ap (λ w. bit_at w l) whole ∙ bit_at_ones shape.lines l below;
  }

  pub masks_next : (u mask : ℕ) (masks new : List ℕ) →
      ((l : ℕ) → bit_at mask l ≡ 1 → Contains (input_lines (bel_at shape (use_at uses u).bel)) l) →
      ((l : ℕ) → Contains (input_lines (bel_at shape (use_at uses u).bel)) l → bit_at mask l ≡ 1) →
      Narrows items (use_at uses u).nets (use_at uses u).table.inputs mask masks new →
      AreMasks shape uses items u masks → AreMasks shape uses items (u + 1) new
  masks_next u mask masks new of_bel all_of_bel narrows are = record {
    on_lines = λ x l one. are.on_lines x l (narrows.only x l one);
    only = λ x l one w i h inputs at. elim (cases_lt w u) [
      | inl under ↦ are.only x l (narrows.only x l one) w i under inputs at
      | inr over ↦
          let same : u ≡ w = omega (arith, h, over) in
          let P : ℕ → Type 0 = λ v. i < (use_at uses v).table.inputs → number_in items (item_at (use_at uses v).nets i) ≡ x →
          Contains (input_lines (bel_at shape (use_at uses v).bel)) l in
          subst P same (λ few_inputs here. of_bel l (narrows.narrowed x l one i few_inputs here)) inputs at
    ];
    every = λ x l inside below all. narrows.every x l
        (are.every x l inside below (λ w i h inputs at. all w i (omega (arith, h)) inputs at))
        (λ i inputs at. all_of_bel l (all u i (omega arith) inputs at));
  }
