-- Cells on their BELs.
use Rattle.std.proofs.Common.{◌≡◌, ◌≢◌, ℕ, zero, suc, ◌+◌, ◌<◌, ◌≤◌, Bool, true, false, cond, eqb, inl, inr, List, [], ◌∷◌, ◌++◌, length, take, drop, set, replicate, slice_index, slice_index_or, Contains, sym, ap, ◌∙◌, refl, subst, arith, add-one, length-append}
use Rattle.std.proofs.lemmas.Bool.{cases_lt, cases_eq, eqb-true, eqb-false, eq-eqb}
use Rattle.std.proofs.lemmas.List.{get_or_default, get_or-set_same, get_or-set_other, take_more_set, get_or_append_left, get_or-replicate, get_or_past, drop_all}
use Rattle.std.proofs.Math.Seq.{drop-cons}
use Rattle.ix_lut.specs.Places.{LineNumber}
use Rattle.ix_lut.specs.Shapes.{held_by}
use Rattle.ix_lut.specs.Plans.{place_in, places_on, constant_on}
use Rattle.ix_lut.specs.Ties.{constant_of}
use Rattle.ix_lut.specs.declared.shape.Tie.{Tie}
use Rattle.ix_lut.specs.declared.shape.Tie.TheVariants.{Free}
use Rattle.ix_lut.specs.declared.uses.Item.{Item}
use Rattle.ix_lut.proofs.Filling.{drop_one}
use Rattle.ix_lut.proofs.Tying.{held_set_same, held_set_other}

-- a line that is there has its place
pub place_inside : (lines : List ℕ) (l k : ℕ) → k < length lines → slice_index lines k ≡ l → place_in lines l < length lines
place_inside [] l k h e = absurd (omega (arith, h))
place_inside (x ∷ xs) l zero h e = rw (eq-eqb x l e) (omega arith)
place_inside (x ∷ xs) l (suc k) h e = first (eqb x l) (place_inside xs l k (omega (arith, h)) e)
  where
    first : (b : Bool) → place_in xs l < length xs → cond b 0 (suc (place_in xs l)) < suc (length xs)
    first true h = omega arith
    first false h = omega (arith, h)

pub place_contained : (lines : List ℕ) (l : ℕ) → Contains lines l → place_in lines l < length lines
place_contained lines l at = place_inside lines l at.0 at.1 (get_or_default lines at.0 0 l at.1 ∙ at.2)

pub length-places_on : (lines chosen : List ℕ) (n : ℕ) → length (places_on lines chosen n) ≡ n
length-places_on lines chosen zero = refl
length-places_on lines chosen (suc n) =
    length-append (places_on lines chosen n) (place_in lines (slice_index chosen n) ∷ []) ∙
    omega (arith, length-places_on lines chosen n)

pub places_on_at : (lines chosen : List ℕ) (n i : ℕ) → i < n → slice_index (places_on lines chosen n) i ≡ place_in lines (slice_index chosen i)
places_on_at lines chosen zero i h = absurd (omega (arith, h))
places_on_at lines chosen (suc n) i h = elim (cases_lt i n) [
  | inl under ↦
      get_or_append_left (places_on lines chosen n) (place_in lines (slice_index chosen n) ∷ []) 0 i
      (omega (arith, under, length-places_on lines chosen n)) ∙ places_on_at lines chosen n i under
  | inr over ↦
      let same : n ≡ i = omega (arith, h, over) in
      let P : ℕ → Type 0 = λ m. slice_index (places_on lines chosen (suc n)) m ≡ place_in lines (slice_index chosen m) in
      subst P same (last (places_on lines chosen n) n (place_in lines (slice_index chosen n)) (length-places_on lines chosen n))
]
  where
    last : (xs : List ℕ) (k x : ℕ) → length xs ≡ k → slice_index (xs ++ x ∷ []) k ≡ x
    last [] zero x e = refl
    last [] (suc k) x e = absurd (omega (arith, e))
    last (y ∷ ys) zero x e = absurd (omega (arith, e))
    last (y ∷ ys) (suc k) x e = last ys k x (omega (arith, e))

pub places_next : (lines chosen places : List ℕ) (n p : ℕ) → n < length places → p ≡ place_in lines (slice_index chosen n) →
    take n places ≡ places_on lines chosen n → take (n + 1) (set places n p) ≡ places_on lines chosen (n + 1)
places_next lines chosen places n p inside is so_far =
    take_more_set places n p inside ∙ ap (λ xs. xs ++ p ∷ []) so_far ∙
    ap (λ x. places_on lines chosen n ++ x ∷ []) is ∙ sym (ap (places_on lines chosen) (more n))
  where
    more : (m : ℕ) → m + 1 ≡ suc m
    more m = add-one m

-- what the items from `x` on hold, and which lines they leave
pub record HoldsFrom (items : List Item) (lines : List ℕ) (count x : ℕ) (held : List Tie) (tieable : List Bool) : Type 0 where
  pub ties : (line : LineNumber) → held_by held line ≡ constant_on (drop x items) (drop x lines) Free line
  pub inside : (line : LineNumber) → slice_index_or tieable line false ≡ true → line < count
  pub no_item : (line : LineNumber) → slice_index_or tieable line false ≡ true → (k : ℕ) → x ≤ k → k < length items → slice_index lines k ≢ line
  pub every : (line : LineNumber) → line < count → ((k : ℕ) → x ≤ k → k < length items → slice_index lines k ≢ line) →
      slice_index_or tieable line false ≡ true

module _ (items : List Item) (lines : List ℕ) (count : ℕ) (as_long : length lines ≡ length items)
    (y : ℕ) (item : Item) (held : List Tie) (tieable : List Bool) (here : y < length items)
    (is : item ≡ slice_index_or items y item) (line_here : ℕ) (is_line : slice_index lines y ≡ line_here)
    (in_held : line_here < length held) (in_tieable : line_here < length tieable)
    (holds : HoldsFrom items lines count (y + 1) held tieable) where
  items_split : drop y items ≡ item ∷ drop (y + 1) items
  items_split = drop-cons items y item here ∙ ap (λ x. x ∷ drop (suc y) items) (sym is) ∙
      ap (λ n. item ∷ drop n items) (sym (add-one y))

  lines_split : drop y lines ≡ line_here ∷ drop (y + 1) lines
  lines_split = drop_one lines y (omega (arith, here, as_long)) ∙ ap (λ x. x ∷ drop (y + 1) lines) is_line

  tie_step : (line : ℕ) (b : Bool) → eqb line_here line ≡ b → held_by (set held line_here (constant_of item.net)) line
      ≡ cond b (constant_of item.net) (constant_on (drop (y + 1) items) (drop (y + 1) lines) Free line)
  tie_step line true e =
      let same : line_here ≡ line = eqb-true line_here line e in
      subst (λ (l : ℕ). held_by (set held line_here (constant_of item.net)) l ≡ constant_of item.net) same
      (held_set_same held line_here (constant_of item.net) in_held)
  tie_step line false e =
      held_set_other held line_here (constant_of item.net) line (λ same. eqb-false line_here line e (sym same)) ∙ holds.ties line

  not_here : (line : ℕ) → slice_index_or (set tieable line_here false) line false ≡ true → line ≢ line_here
  not_here line may same =
      let shut : slice_index_or (set tieable line_here false) line false ≡ false =
      ap (λ l. slice_index_or (set tieable line_here false) l false) same ∙ get_or-set_same tieable line_here false false in_tieable in
      absurd (cc)

  was_open : (line : ℕ) → slice_index_or (set tieable line_here false) line false ≡ true → slice_index_or tieable line false ≡ true
  was_open line may = sym (get_or-set_other tieable line_here line false false (not_here line may)) ∙ may

  pub holds_next : HoldsFrom items lines count y (set held line_here (constant_of item.net)) (set tieable line_here false)
  holds_next = record {
    ties = λ line. tie_step line (eqb line_here line) refl ∙
        sym (ap (λ xs. constant_on xs (drop y lines) Free line) items_split ∙
        ap (λ ls. constant_on (item ∷ drop (y + 1) items) ls Free line) lines_split);
    inside = λ line may. holds.inside line (was_open line may);
    no_item = λ line may k from below at. elim (cases_eq k y) [
      | inl same ↦ not_here line may (sym at ∙ ap (slice_index lines) same ∙ is_line)
      | inr other ↦ holds.no_item line (was_open line may) k (omega (arith, from, other)) below at
    ];
    every = λ line few none.
        get_or-set_other tieable line_here line false false (λ same. none y (omega arith) here (is_line ∙ sym same)) ∙
        holds.every line few (λ k from below. none k (omega (arith, from)) below);
  }

pub holds_none : (items : List Item) (lines : List ℕ) (count : ℕ) (tieable : List Bool) → length lines ≡ length items →
    ((line : ℕ) → slice_index_or tieable line false ≡ true → line < count) →
    ((line : ℕ) → line < count → slice_index_or tieable line false ≡ true) →
    HoldsFrom items lines count (length items) (replicate 12 Free) tieable
holds_none items lines count tieable as_long only every = record {
  ties = λ line. all_free line ∙ sym (ap (λ xs. constant_on xs (drop (length items) lines) Free line) (drop_all (length items) items (omega arith)));
  inside = only;
  no_item = λ line may k from below at. omega (arith, from, below);
  every = λ line few none. every line few;
}
  where
    all_free : (line : ℕ) → held_by (replicate 12 Free) line ≡ Free
    all_free line = elim (cases_lt line 12) [
      | inl inside ↦ get_or-replicate {A = Tie} 12 line Free Free inside
      | inr past ↦ get_or_past {X = Tie} (replicate 12 Free) line Free past
    ]

under_of : (line n : ℕ) → line < n + 1 → line ≢ n → line < n
under_of line n h other = elim (cases_lt line n) [
  | inl below ↦ below
  | inr over ↦ absurd (other (omega (arith, h, over)))
]

-- one more of the first lines
pub marked_only : (lines : List Bool) (n : ℕ) → ((line : ℕ) → slice_index_or lines line false ≡ true → line < n) →
    (line : ℕ) → slice_index_or (set lines n true) line false ≡ true → line < n + 1
marked_only lines n only line may = elim (cases_eq line n) [
  | inl same ↦ omega (arith, same)
  | inr other ↦ omega (arith, only line (sym (get_or-set_other lines n line true false other) ∙ may))
]

pub marked_every : (lines : List Bool) (n : ℕ) → n < length lines → ((line : ℕ) → line < n → slice_index_or lines line false ≡ true) →
    (line : ℕ) → line < n + 1 → slice_index_or (set lines n true) line false ≡ true
marked_every lines n inside every line h = elim (cases_eq line n) [
  | inl same ↦ ap (λ l. slice_index_or (set lines n true) l false) same ∙ get_or-set_same lines n true false inside
  | inr other ↦ get_or-set_other lines n line true false other ∙ every line (under_of line n h other)
]

-- one more entry of a list that follows a function
pub chosen_next : (f : ℕ → ℕ) (xs : List ℕ) (n x : ℕ) → n < length xs → x ≡ f n → ((i : ℕ) → i < n → slice_index xs i ≡ f i) →
    (i : ℕ) → i < n + 1 → slice_index (set xs n x) i ≡ f i
chosen_next f xs n x inside is so_far i h = elim (cases_eq i n) [
  | inl same ↦ ap (slice_index (set xs n x)) same ∙ get_or-set_same xs n x 0 inside ∙ is ∙ ap f (sym same)
  | inr other ↦ get_or-set_other xs n i x 0 other ∙ so_far i (under_of i n h other)
]
