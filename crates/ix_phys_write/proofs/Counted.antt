-- The widths of a forest, counted from its end.
use Rattle.std.proofs.Common.{◌≡◌, ◌≢◌, ◌<◌, ◌≤◌, ◌+◌, ◌-◌, ◌∙◌, ℕ, List, [], ◌∷◌, length, drop, get_or, set, replicate, ap, arith, sym, subst, refl, inl, inr, ◌⊎◌, get_or-set_same, get_or-set_other}
use Rattle.std.specs.Prelude.{Some, slice_get}
use Rattle.std.proofs.lemmas.Bool.{cases_lt, cases_eq}
use Rattle.std.proofs.lemmas.List.{drop_all, length-set, length-replicate, get_or-replicate}
use Rattle.std.proofs.lemmas.Option.{get_or_from_slice_get}
use Rattle.ix_message_write.proofs.Turns.{left}
use Rattle.ix_rec.specs.declared.forest.Branch.{Branch}
use Rattle.ix_rec.specs.Forest.{StepsWithin, depths, IsPreorder}
use Rattle.ix_phys_write.specs.Trees.{trees_at, width, AreWidths}
use Rattle.ix_phys_write.proofs.Levels.{trees_above, trees_below, trees_here, steps_behind}

width_above : {A : Type 0} (k : ℕ) (b : Branch A) (bs : List (Branch A)) → b.depth < k → width (trees_at k (b ∷ bs)) ≡ 0
width_above k b bs lt = ap width (trees_above k b bs lt)

width_deep : {A : Type 0} (limit k : ℕ) (bs : List (Branch A)) → StepsWithin limit (depths bs) → limit < k → width (trees_at k bs) ≡ 0
width_deep limit k [] h lt = refl
width_deep limit k (c ∷ cs) h lt = width_above k c cs (omega (arith, h.0))

pub record CountedSoFar {A : Type 0} (bs : List (Branch A)) (done : ℕ) (below beside : List ℕ) : Type 0 where
  pub beside_are : (k : ℕ) → k < length bs + 2 → get_or beside k 0 ≡ width (trees_at k (drop (length bs - done) bs))
  pub beside_long : length beside ≡ length bs + 2
  pub below_long : length below ≡ length bs
  pub below_are : (m : ℕ) (b : Branch A) → length bs - done ≤ m → m < length bs → slice_get bs m ≡ Some b → get_or below m 0 ≡ width (trees_at (b.depth + 1) (drop (m + 1) bs))

pub counted_none : {A : Type 0} (bs : List (Branch A)) (below beside : List ℕ) → length below ≡ length bs → beside ≡ replicate (length bs + 2) 0 → CountedSoFar bs 0 below beside
counted_none {A} bs below beside long zeros = record {
  beside_are = λ k lt.
      let none : drop (length bs - 0) bs ≡ [] = drop_all (length bs - 0) bs (omega arith) in
      ap (λ (l : List ℕ). get_or l k 0) zeros ∙ get_or-replicate (length bs + 2) k 0 0 lt ∙ sym (ap (λ (l : List (Branch A)). width (trees_at k l)) none);
  beside_long = ap length zeros ∙ length-replicate {A = ℕ} (length bs + 2) 0;
  below_long = long;
  below_are = λ m b le lt is. absurd (omega arith);
}

pub width_turn : {A : Type 0} (b : Branch A) (bs : List (Branch A)) (beside : List ℕ) (k n : ℕ) → StepsWithin (b.depth + 1) (depths bs) → k < n → b.depth + 1 < n → length beside ≡ n
    → ((j : ℕ) → j < n → get_or beside j 0 ≡ width (trees_at j bs))
    → get_or (set (set beside (b.depth + 1) 0) b.depth (get_or beside b.depth 0 + 1)) k 0 ≡ width (trees_at k (b ∷ bs))
width_turn {A} b bs beside k n steps lt inside long are = go (cases_eq k b.depth)
  where
    deeper : k ≢ b.depth → (k ≡ b.depth + 1) ⊎ (k ≢ b.depth + 1) → get_or (set beside (b.depth + 1) 0) k 0 ≡ width (trees_at k (b ∷ bs))
    deeper ne (inl e) =
        let same : get_or (set beside (b.depth + 1) 0) (b.depth + 1) 0 ≡ 0 = get_or-set_same beside (b.depth + 1) 0 0 (omega arith) in
        ap (λ (j : ℕ). get_or (set beside (b.depth + 1) 0) j 0) e ∙ same ∙ sym (width_above k b bs (omega arith))
    deeper ne (inr other) = get_or-set_other beside (b.depth + 1) k 0 0 other ∙ are k lt ∙ rest (cases_lt k b.depth)
      where
        rest : (k < b.depth) ⊎ (b.depth ≤ k) → width (trees_at k bs) ≡ width (trees_at k (b ∷ bs))
        rest (inl less) = sym (ap width (trees_below k b bs less))
        rest (inr le) =
            let above : b.depth < k = omega arith in
            width_deep (b.depth + 1) k bs steps (omega arith) ∙ sym (width_above k b bs above)

    go : (k ≡ b.depth) ⊎ (k ≢ b.depth) → get_or (set (set beside (b.depth + 1) 0) b.depth (get_or beside b.depth 0 + 1)) k 0 ≡ width (trees_at k (b ∷ bs))
    go (inl e) =
        let there : b.depth < length (set beside (b.depth + 1) 0) = omega (arith, length-set beside (b.depth + 1) 0) in
        let here : get_or (set (set beside (b.depth + 1) 0) b.depth (get_or beside b.depth 0 + 1)) b.depth 0 ≡ width (trees_at b.depth (b ∷ bs)) =
        get_or-set_same (set beside (b.depth + 1) 0) b.depth (get_or beside b.depth 0 + 1) 0 there ∙ ap (λ (w : ℕ). w + 1) (are b.depth (omega arith)) ∙ sym (ap width (trees_here b bs)) in
        subst (λ (j : ℕ). get_or (set (set beside (b.depth + 1) 0) b.depth (get_or beside b.depth 0 + 1)) j 0 ≡ width (trees_at j (b ∷ bs))) (sym e) here
    go (inr ne) = get_or-set_other (set beside (b.depth + 1) 0) b.depth k (get_or beside b.depth 0 + 1) 0 ne ∙ deeper ne (cases_eq k (b.depth + 1))

pub counted_turn : {A : Type 0} (bs : List (Branch A)) (done i : ℕ) (b : Branch A) (below beside below' beside' : List ℕ) → IsPreorder bs → done < length bs → i ≡ length bs - 1 - done → slice_get bs i ≡ Some b
    → b.depth + 1 < length bs + 2 → CountedSoFar bs done below beside → below' ≡ set below i (get_or beside (b.depth + 1) 0)
    → beside' ≡ set (set beside (b.depth + 1) 0) b.depth (get_or beside b.depth 0 + 1) → CountedSoFar bs (done + 1) below' beside'
counted_turn {A} bs done i b below beside below' beside' preorder lt i_is is inside so_far below_is beside_is =
    let i_lt : i < length bs = omega arith in
    let n = length bs in
    let before : n - done ≡ i + 1 = omega arith in
    let after : n - (done + 1) ≡ i = omega arith in
    let steps = steps_behind bs i b preorder i_lt is in
    let are : (j : ℕ) → j < n + 2 → get_or beside j 0 ≡ width (trees_at j (drop (i + 1) bs)) = λ j l. so_far.beside_are j l ∙ ap (λ (k : ℕ). width (trees_at j (drop k bs))) before in
    record {
      beside_are = λ k l.
          ap (λ (s : List ℕ). get_or s k 0) beside_is
          ∙ width_turn b (drop (i + 1) bs) beside k (n + 2) steps l inside so_far.beside_long are
          ∙ sym (ap (λ (s : List (Branch A)). width (trees_at k s)) (ap (λ (k : ℕ). drop k bs) after ∙ left bs i b i_lt is));
      beside_long = ap length beside_is ∙ length-set (set beside (b.depth + 1) 0) b.depth (get_or beside b.depth 0 + 1) ∙ length-set beside (b.depth + 1) 0 ∙ so_far.beside_long;
      below_long = ap length below_is ∙ length-set below i (get_or beside (b.depth + 1) 0) ∙ so_far.below_long;
      below_are = λ m c le l c_is. ap (λ (s : List ℕ). get_or s m 0) below_is ∙ at m c (omega arith) l c_is i_lt before are (cases_eq m i);
    }
  where
    at : (m : ℕ) (c : Branch A) → i ≤ m → m < length bs → slice_get bs m ≡ Some c → i < length bs → length bs - done ≡ i + 1
        → ((j : ℕ) → j < length bs + 2 → get_or beside j 0 ≡ width (trees_at j (drop (i + 1) bs))) → (m ≡ i) ⊎ (m ≢ i)
        → get_or (set below i (get_or beside (b.depth + 1) 0)) m 0 ≡ width (trees_at (c.depth + 1) (drop (m + 1) bs))
    at m c le l c_is i_lt before are (inl e) =
        let same : c ≡ b = sym (get_or_from_slice_get bs m c c c_is) ∙ ap (λ (k : ℕ). get_or bs k c) e ∙ get_or_from_slice_get bs i b c is in
        let there : i < length below = omega (arith, so_far.below_long) in
        let here : get_or (set below i (get_or beside (b.depth + 1) 0)) i 0 ≡ width (trees_at (b.depth + 1) (drop (i + 1) bs)) = get_or-set_same below i (get_or beside (b.depth + 1) 0) 0 there ∙ are (b.depth + 1) inside in
        ap (λ (k : ℕ). get_or (set below i (get_or beside (b.depth + 1) 0)) k 0) e ∙ here
        ∙ sym (ap (λ (k : ℕ). width (trees_at (b.depth + 1) (drop (k + 1) bs))) e) ∙ sym (ap (λ (x : Branch A). width (trees_at (x.depth + 1) (drop (m + 1) bs))) same)
    at m c le l c_is i_lt before are (inr ne) = get_or-set_other below i m (get_or beside (b.depth + 1) 0) 0 ne ∙ so_far.below_are m c (omega arith) l c_is

pub counted_all : {A : Type 0} (bs : List (Branch A)) (done : ℕ) (below beside : List ℕ) (roots : ℕ) → length bs ≤ done → CountedSoFar bs done below beside → roots ≡ get_or beside 0 0 → AreWidths bs roots below
counted_all {A} bs done below beside roots le so_far is =
    let all : length bs - done ≡ 0 = omega arith in
    record {
      roots_are = is ∙ so_far.beside_are 0 (omega arith) ∙ ap (λ (k : ℕ). width (trees_at 0 (drop k bs))) all;
      long = so_far.below_long;
      below_are = λ i b lt b_is. so_far.below_are i b (omega arith) lt b_is;
    }

pub width_le : {A : Type 0} (k : ℕ) (bs : List (Branch A)) → width (trees_at k bs) ≤ length bs
width_le k [] = omega arith
width_le {A} k (b ∷ bs) = go (cases_lt b.depth k) (width_le k bs)
  where
    below : (k < b.depth) ⊎ (b.depth ≤ k) → k ≤ b.depth → width (trees_at k bs) ≤ length bs → width (trees_at k (b ∷ bs)) ≤ length (b ∷ bs)
    below (inl less) le h = omega (arith, ap width (trees_below k b bs less))
    below (inr ge) le h =
        let same : b.depth ≡ k = omega arith in
        let here : width (trees_at k (b ∷ bs)) ≡ width (trees_at k bs) + 1 = subst (λ (j : ℕ). width (trees_at j (b ∷ bs)) ≡ width (trees_at j bs) + 1) same (ap width (trees_here b bs)) in
        omega (arith, here)

    go : (b.depth < k) ⊎ (k ≤ b.depth) → width (trees_at k bs) ≤ length bs → width (trees_at k (b ∷ bs)) ≤ length (b ∷ bs)
    go (inl less) h = omega (arith, width_above k b bs less)
    go (inr le) h = below (cases_lt k b.depth) le h
