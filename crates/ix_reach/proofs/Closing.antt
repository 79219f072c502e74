-- The open ones of a part are closed, the last first.
use Rattle.std.proofs.Common.{◌≡◌, ◌≢◌, ℕ, zero, suc, ◌+◌, ◌<◌, ◌≤◌, ◌⊎◌, inl, inr, List, []}
use Rattle.std.proofs.Common.{◌∷◌, ◌++◌, length, take, slice_get, Option, Some, None, refl, sym}
use Rattle.std.proofs.Common.{min}
use Rattle.std.proofs.Common.{ap, ◌∙◌, subst, arith, Bool, true, false, append_assoc}
use Rattle.std.specs.List.{slice_set}
use Rattle.std.proofs.lemmas.Option.{none-some, same_Some, slice_get_within}
use Rattle.std.proofs.lemmas.List.{append-nil}
use Rattle.ix_reach.specs.declared.search.Mark.TheVariants.{Closed}
use Rattle.ix_reach.specs.State.{Closing, IsLooped, IsClosedFrom, lesser_of, next_looped}
use Rattle.ix_reach.specs.Searching.{AreDifferent}
use Rattle.ix_reach.proofs.Places.{same_or_not, get_push, push_cases, length_push, take_all}
use Rattle.ix_reach.proofs.Places.{get_set_same, get_set_other, length_set, one_item, taken_get}
use Rattle.ix_reach.proofs.Places.{take_pushed}

pub looped_still : (looped : Option ℕ) (x d : ℕ) → IsLooped looped d
    → IsLooped (Some (lesser_of looped x)) d
looped_still None x d h = absurd (none-some h.0 h.1)
looped_still (Some a) x d h =
    let e : a ≡ h.0 = same_Some a h.0 h.1 in let le : h.0 ≤ d = h.2 in
    (min a x, refl, omega arith)

pub looped_here : (looped : Option ℕ) (d : ℕ) → IsLooped (Some (lesser_of looped d)) d
looped_here None d = (d, refl, omega arith)
looped_here (Some a) d = (min a d, refl, omega arith)

pub looped_was : (looped : Option ℕ) (d least : ℕ) → Some (lesser_of looped d) ≡ Some least
    → (looped ≡ Some least) ⊎ (d ≡ least)
looped_was None d least e = inr (same_Some d least e)
looped_was (Some a) d least e = elim (by a d) [
  | inl h ↦ inl (ap Some (sym h ∙ same_Some (min a d) least e))
  | inr h ↦ inr (sym h ∙ same_Some (min a d) least e)
]
  where
    by : (a b : ℕ) → (min a b ≡ a) ⊎ (min a b ≡ b)
    by a b = elim (same_or_not (min a b) a) [
      | inl e ↦ inl e
      | inr n ↦ inr (omega arith)
    ]

pub next_still : (several : Bool) (looped : Option ℕ) (x d : ℕ) → IsLooped looped d
    → IsLooped (next_looped several looped x) d
next_still true looped x d h = looped_still looped x d h
next_still false looped x d h = h

pub closing_none : (s : Closing) (place n : ℕ) → n ≡ length s.open_ones → IsClosedFrom s place n s
closing_none s place n e = record {
  open_ones = sym (take_all n s.open_ones (omega arith));
  rest = [];
  closed = sym (append-nil s.closed);
  rest_many = omega (arith, e);
  rest_is = λ i j d at. absurd (none-some d at);
  marks_many = refl;
  closing = λ i d le at. let lt : i < length s.open_ones = slice_get_within s.open_ones i d at in
      absurd (omega arith);
  others = λ d h. refl;
  looped_from = λ least h. inl h;
  looped_more = λ d h. h;
  looped_each = λ i d more le at.
      let lt : i < length s.open_ones = slice_get_within s.open_ones i d at in
      absurd (omega arith);
}

pub closing_turn : (s after : Closing) (place f d : ℕ) (several : Bool)
    → IsClosedFrom s place (f + 1) after → f < length s.open_ones
    → slice_get s.open_ones f ≡ Some d → d < length after.marks → AreDifferent s.open_ones
    → (several ≡ true → place + 1 < length s.open_ones)
    → (several ≡ false → length s.open_ones ≤ place + 1)
    → IsClosedFrom s place f (record {
      marks = slice_set after.marks d Closed;
      open_ones = take f s.open_ones;
      closed = after.closed ++ d ∷ [];
      looped = next_looped several after.looped d;
    })
closing_turn s after place f d several h lt at few differ sure not = record {
  open_ones = refl;
  rest = h.rest ++ d ∷ [];
  closed = ap (λ l. l ++ d ∷ []) h.closed ∙ append_assoc s.closed h.rest (d ∷ []);
  rest_many = let e : _ = length_push h.rest d in let g : _ = h.rest_many in omega (arith, e, g);
  rest_is = λ i j x is many. elim (push_cases h.rest d i x is) [
    | inl old ↦ h.rest_is i j x old many
    | inr new ↦
        let g : _ = h.rest_many in let i_is : i ≡ length h.rest = new.0 in
        let same : f ≡ j = omega (arith, g, i_is) in
        subst (λ k. slice_get s.open_ones k ≡ Some x) same (at ∙ ap Some new.1)
  ];
  marks_many = length_set after.marks d Closed ∙ h.marks_many;
  closing = λ i x le is. elim (same_or_not x d) [
    | inl same ↦ subst (λ y. slice_get (slice_set after.marks d Closed) y ≡ Some Closed) (sym same)
        (get_set_same after.marks d Closed few)
    | inr other ↦ get_set_other after.marks d x Closed other
        ∙ h.closing i x (above i x le is other) is
  ];
  others = λ x none. get_set_other after.marks d x Closed
      (λ same. none f (omega arith) (at ∙ ap Some (sym same)))
      ∙ h.others x (λ i le is. none i (omega arith) is);
  looped_from = λ least e. from several sure least e;
  looped_more = λ x l. next_still several after.looped d x (h.looped_more x l);
  looped_each = λ i x more le is. each several not i x more le is;
}
  where
    above : (i x : ℕ) → f ≤ i → slice_get s.open_ones i ≡ Some x → x ≢ d → f + 1 ≤ i
    above i x le is other = elim (same_or_not i f) [
      | inl same ↦ absurd (other (one_item (slice_get s.open_ones f) x d
          (subst (λ k. slice_get s.open_ones k ≡ Some x) same is) at))
      | inr n ↦ omega arith
    ]

    from : (b : Bool) → (b ≡ true → place + 1 < length s.open_ones) → (least : ℕ)
        → next_looped b after.looped d ≡ Some least → (s.looped ≡ Some least)
        ⊎ ((place + 1 < length s.open_ones)
        × ((i : ℕ) × (f ≤ i) × (slice_get s.open_ones i ≡ Some least)))
    from true sure least e = elim (looped_was after.looped d least e) [
      | inl was ↦ elim (h.looped_from least was) [
        | inl w ↦ inl w
        | inr w ↦ inr (w.0, (w.1.0, (let le : f + 1 ≤ w.1.0 = w.1.1 in omega arith), w.1.2))
      ]
      | inr same ↦ inr (sure refl, (f, omega arith, at ∙ ap Some same))
    ]
    from false sure least e = elim (h.looped_from least e) [
      | inl w ↦ inl w
      | inr w ↦ inr (w.0, (w.1.0, (let le : f + 1 ≤ w.1.0 = w.1.1 in omega arith), w.1.2))
    ]

    each : (b : Bool) → (b ≡ false → length s.open_ones ≤ place + 1) → (i x : ℕ)
        → place + 1 < length s.open_ones → f ≤ i → slice_get s.open_ones i ≡ Some x
        → IsLooped (next_looped b after.looped d) x
    each true not i x more le is = elim (same_or_not i f) [
      | inl same ↦ subst (λ y. IsLooped (Some (lesser_of after.looped d)) y)
          (one_item (slice_get s.open_ones f) d x at
          (subst (λ k. slice_get s.open_ones k ≡ Some x) same is)) (looped_here after.looped d)
      | inr n ↦ looped_still after.looped d x (h.looped_each i x more (omega arith) is)
    ]
    each false not i x more le is = let le : length s.open_ones ≤ place + 1 = not refl in
        absurd (omega arith)

take_take : {X : Type 0} (n m : ℕ) (xs : List X) → n ≤ m → take n (take m xs) ≡ take n xs
take_take zero m xs le = refl
take_take (suc n) zero xs le = absurd (omega arith)
take_take (suc n) (suc m) [] le = refl
take_take (suc n) (suc m) (x ∷ xs) le = ap (λ l. x ∷ l) (take_take n m xs (omega arith))

-- where the one that was taken off stood
pub popped_at : (s after : Closing) (place : ℕ) (now : List ℕ) (d : ℕ)
    → IsClosedFrom s place (length after.open_ones) after → after.open_ones ≡ now ++ d ∷ []
    → slice_get s.open_ones (length now) ≡ Some d
popped_at s after place now d h e =
    (taken_get (length after.open_ones) s.open_ones (length now) d
    (subst (λ l. slice_get l (length now) ≡ Some d) (sym e ∙ h.open_ones)
    (get_push now d (length now) refl))).1

pub popped_within : (s after : Closing) (place : ℕ) (now : List ℕ) (d : ℕ)
    → IsClosedFrom s place (length after.open_ones) after → after.open_ones ≡ now ++ d ∷ []
    → ((i x : ℕ) → slice_get s.open_ones i ≡ Some x → x < length s.marks)
    → d < length after.marks
popped_within s after place now d h e marked =
    let lt : d < length s.marks = marked (length now) d (popped_at s after place now d h e) in
    let many : length after.marks ≡ length s.marks = h.marks_many in omega arith

pub closing_popped : (s after : Closing) (place : ℕ) (now closed : List ℕ) (least : Option ℕ)
    (d : ℕ) (several : Bool)
    → IsClosedFrom s place (length after.open_ones) after → after.open_ones ≡ now ++ d ∷ []
    → closed ≡ after.closed ++ d ∷ [] → least ≡ next_looped several after.looped d
    → ((i x : ℕ) → slice_get s.open_ones i ≡ Some x → x < length s.marks)
    → AreDifferent s.open_ones
    → (several ≡ true → place + 1 < length s.open_ones)
    → (several ≡ false → length s.open_ones ≤ place + 1)
    → IsClosedFrom s place (length now) (record {
      marks = slice_set after.marks d Closed;
      open_ones = now;
      closed = closed;
      looped = least;
    })
closing_popped s after place now closed least d several h e closed_is least_is marked differ sure
    not =
    let at : slice_get s.open_ones (length now) ≡ Some d = popped_at s after place now d h e in
    let many : length after.open_ones ≡ length now + 1 = ap length e ∙ length_push now d in
    let now_is : now ≡ take (length now) s.open_ones =
    sym (take_pushed now d (length now) refl)
    ∙ ap (λ l. take (length now) l) (sym e ∙ h.open_ones)
    ∙ take_take (length now) (length after.open_ones) s.open_ones (omega arith) in
    subst (λ n. IsClosedFrom s place (length now) (record {
      marks = slice_set after.marks d Closed;
      open_ones = n;
      closed = closed;
      looped = least;
    })) (sym now_is)
    (subst (λ c. IsClosedFrom s place (length now) (record {
      marks = slice_set after.marks d Closed;
      open_ones = take (length now) s.open_ones;
      closed = c;
      looped = least;
    })) (sym closed_is)
    (subst (λ o. IsClosedFrom s place (length now) (record {
      marks = slice_set after.marks d Closed;
      open_ones = take (length now) s.open_ones;
      closed = after.closed ++ d ∷ [];
      looped = o;
    })) (sym least_is)
    (closing_turn s after place (length now) d several
    (subst (λ n. IsClosedFrom s place n after) many h)
    (slice_get_within s.open_ones (length now) d at) at
    (popped_within s after place now d h e marked) differ sure not)))
