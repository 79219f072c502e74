-- The lines of LUT BELs, input by input and BEL by BEL.
use Rattle.std.proofs.Common.{◌≡◌, ◌≤◌, ◌<◌, refl, ap, sym, ◌∙◌, ℕ, zero, suc, ◌+◌, ◌&&◌, ◌||◌, not, Bool, true, false, true≢false, cond, nat_eq, nat_le, if◌then◌else◌, inl, inr, List, [], ◌∷◌, ◌++◌, append_assoc, length, take, drop, slice_get, Option, Some, None, is_some, option_map, arith}
use Rattle.std.specs.List.{list_any, list_all, flat_map}
use Rattle.std.proofs.Math.Bool.{and-false, or-false, or-true}
use Rattle.std.proofs.Math.Seq.{take-length}
use Rattle.std.proofs.lemmas.Bool.{eqb-true, le-leb, lt-leb}
use Rattle.std.proofs.lemmas.List.{append-nil, length-append, take-append-drop}
use Rattle.std.proofs.lemmas.Option.{none-some, same_Some, slice_get-map}
use Rattle.std.proofs.lemmas.List.Folds.{list_any-append, list_all-append}
use Rattle.std.proofs.lemmas.Grind.{flat_map-append}
use Rattle.ix_rec.specs.declared.device.SiteType.{SiteType}
use Rattle.ix_rec.specs.declared.device.LutBel.{LutBel}
use Rattle.ix_rec.specs.declared.device.LutElement.{LutElement}
use Rattle.ix_device.specs.Elements.{differ, distinct, present, input_lines, has_own_lines, is_usable}
use Rattle.ix_device.specs.Pins.{line_in, AreOwnLines}
use Rattle.ix_device.specs.Shapes.{with_line, with_lines}
use Rattle.ix_device.proofs.Walks.{take_next}
use Rattle.ix_device.proofs.WireLemmas.{nat_eq-swap}

-- the lines of the first inputs, each on a line of its own
pub record AreFirstLines (t : SiteType) (b : LutBel) (i : ℕ) (lines : List ℕ) : Type 0 where
  pub there : list_all is_some (take i (input_lines t b)) ≡ true
  pub are : present (take i (input_lines t b)) ≡ lines
  pub differ : differ lines ≡ true
  pub alone : with_lines [] lines ≡ lines

-- the lines of the first BELs, each with lines of its own
pub record AreAllLines (t : SiteType) (bels : List LutBel) (i : ℕ) (all : List ℕ) : Type 0 where
  pub own : list_all (has_own_lines t) (take i bels) ≡ true
  pub are : all ≡ with_lines [] (flat_map (λ b. present (input_lines t b)) (take i bels))
  pub few : length all ≤ 12

abbrev has : List ℕ → ℕ → Bool
has lines x = list_any (nat_eq x) lines

-- What has the lines and one more.

pub has-with_line : (lines : List ℕ) (x y : ℕ) → has (with_line lines x) y ≡ (has lines y || nat_eq y x)
has-with_line lines x y = by (has lines x) refl
  where
    known : has lines x ≡ true → (b : Bool) → nat_eq y x ≡ b → has lines y ≡ (has lines y || b)
    known h true e = ap (has lines) (eqb-true y x e) ∙ h ∙ sym (or-true (has lines y))
    known h false e = sym (or-false (has lines y))

    by : (b : Bool) → has lines x ≡ b → has (if not b then lines ++ x ∷ [] else lines) y ≡ (has lines y || nat_eq y x)
    by true h = known h (nat_eq y x) refl
    by false h = list_any-append (nat_eq y) lines (x ∷ []) ∙ ap (λ b. has lines y || b) (or-false (nat_eq y x))

length-with_line : (lines : List ℕ) (x : ℕ) → length (with_line lines x) ≡ length lines + cond (has lines x) 0 1
length-with_line lines x = by (has lines x)
  where
    by : (b : Bool) → length (if not b then lines ++ x ∷ [] else lines) ≡ length lines + cond b 0 1
    by true = omega arith
    by false = length-append lines (x ∷ [])

-- How many differ.

one_counted : (n : ℕ) (d x same : Bool) → (same ≡ true → d ≡ x) → cond (not (d || same)) 1 0 + (n + cond x 0 1) ≡ cond (not d) 1 0 + n + cond (same || x) 0 1
one_counted n true true true like = omega arith
one_counted n true false true like = absurd (true≢false (like refl))
one_counted n false true true like = absurd (true≢false (sym (like refl)))
one_counted n false false true like = omega arith
one_counted n true true false like = omega arith
one_counted n true false false like = omega arith
one_counted n false true false like = omega arith
one_counted n false false false like = omega arith

length-kept : (b : Bool) (x : ℕ) (xs : List ℕ) → length (if b then x ∷ xs else xs) ≡ cond b 1 0 + length xs
length-kept true x xs = omega arith
length-kept false x xs = omega arith

length-distinct-push : (xs : List ℕ) (x : ℕ) → length (distinct (xs ++ x ∷ [])) ≡ length (distinct xs) + cond (has xs x) 0 1
length-distinct-push [] x = refl
length-distinct-push (d ∷ ds) x =
    length-kept (not (has (ds ++ x ∷ []) d)) d (distinct (ds ++ x ∷ []))
    ∙ ap (λ b. cond (not b) 1 0 + length (distinct (ds ++ x ∷ []))) (list_any-append (nat_eq d) ds (x ∷ []) ∙ ap (λ b. has ds d || b) (or-false (nat_eq d x)))
    ∙ ap (λ n. cond (not (has ds d || nat_eq d x)) 1 0 + n) (length-distinct-push ds x)
    ∙ one_counted (length (distinct ds)) (has ds d) (has ds x) (nat_eq d x) (λ same. ap (has ds) (eqb-true d x same))
    ∙ ap (λ b. cond (not (has ds d)) 1 0 + length (distinct ds) + cond (b || has ds x) 0 1) (nat_eq-swap d x)
    ∙ ap (λ n. n + cond (has (d ∷ ds) x) 0 1) (sym (length-kept (not (has ds d)) d (distinct ds)))

counted_from : (rest have done : List ℕ) → length have ≡ length (distinct done) → ((y : ℕ) → has have y ≡ has done y) → length (with_lines have rest) ≡ length (distinct (done ++ rest))
counted_from [] have done h same = h ∙ ap (λ l. length (distinct l)) (sym (append-nil done))
counted_from (x ∷ rest) have done h same =
    counted_from rest (with_line have x) (done ++ x ∷ [])
    (length-with_line have x ∙ ap (λ n. n + cond (has have x) 0 1) h ∙ ap (λ b. length (distinct done) + cond b 0 1) (same x) ∙ sym (length-distinct-push done x))
    (λ y. has-with_line have x y ∙ ap (λ b. b || nat_eq y x) (same y) ∙ ap (λ b. has done y || b) (sym (or-false (nat_eq y x))) ∙ sym (list_any-append (nat_eq y) done (x ∷ [])))
    ∙ ap (λ l. length (distinct l)) (append_assoc done (x ∷ []) rest)

pub counted : (xs : List ℕ) → length (with_lines [] xs) ≡ length (distinct xs)
counted xs = counted_from xs [] [] refl (λ y. refl)

pub with_lines-append : (lines xs ys : List ℕ) → with_lines lines (xs ++ ys) ≡ with_lines (with_lines lines xs) ys
with_lines-append lines [] ys = refl
with_lines-append lines (x ∷ xs) ys = with_lines-append (with_line lines x) xs ys

pub grows : (lines xs : List ℕ) → length lines ≤ length (with_lines lines xs)
grows lines [] = omega arith
grows lines (x ∷ xs) =
    let one = length-with_line lines x in
    let rest = grows (with_line lines x) xs in
    omega (arith, one, rest)

pub more_after : (xs ys : List ℕ) → length (distinct xs) ≤ length (distinct (xs ++ ys))
more_after xs ys =
    let before = counted xs in
    let all = counted (xs ++ ys) in
    let same = ap length (with_lines-append [] xs ys) in
    let more = grows (with_lines [] xs) ys in
    omega (arith, before, all, same, more)

more_before : (xs ys : List ℕ) → length (distinct ys) ≤ length (distinct (xs ++ ys))
more_before [] ys = omega arith
more_before (x ∷ xs) ys =
    let rest = more_before xs ys in
    let kept = length-kept (not (has (xs ++ ys) x)) x (distinct (xs ++ ys)) in
    omega (arith, rest, kept)

-- Lines that differ.

twice : (lines : List ℕ) (x : ℕ) (rest : List ℕ) → has lines x ≡ true → differ (lines ++ x ∷ rest) ≡ false
twice [] x rest h = absurd (true≢false (sym h))
twice (l ∷ ls) x rest h = by (nat_eq x l) refl h (twice ls x rest)
  where
    by : (b : Bool) → nat_eq x l ≡ b → (b || has ls x) ≡ true → (has ls x ≡ true → differ (ls ++ x ∷ rest) ≡ false) → (not (has (ls ++ x ∷ rest) l) && differ (ls ++ x ∷ rest)) ≡ false
    by true e h more =
        ap (λ b. not b && differ (ls ++ x ∷ rest)) (list_any-append (nat_eq l) ls (x ∷ rest) ∙ ap (λ b. has ls l || (b || has rest l)) (nat_eq-swap l x ∙ e) ∙ or-true (has ls l))
    by false e h more = ap (λ b. not (has (ls ++ x ∷ rest) l) && b) (more h) ∙ and-false (not (has (ls ++ x ∷ rest) l))

differ-push : (lines : List ℕ) (x : ℕ) → differ lines ≡ true → has lines x ≡ false → differ (lines ++ x ∷ []) ≡ true
differ-push [] x h new = refl
differ-push (l ∷ ls) x h new = by (has ls l) refl (nat_eq x l) refl h new (differ-push ls x)
  where
    by : (d : Bool) → has ls l ≡ d → (e : Bool) → nat_eq x l ≡ e → (not d && differ ls) ≡ true → (e || has ls x) ≡ false → (differ ls ≡ true → has ls x ≡ false → differ (ls ++ x ∷ []) ≡ true) → (not (has (ls ++ x ∷ []) l) && differ (ls ++ x ∷ [])) ≡ true
    by true at_d e at_e h new more = absurd (true≢false (sym h))
    by false at_d true at_e h new more = absurd (true≢false new)
    by false at_d false at_e h new more =
        ap (λ b. not b && differ (ls ++ x ∷ [])) (list_any-append (nat_eq l) ls (x ∷ []) ∙ ap (λ b. b || (nat_eq l x || false)) at_d ∙ or-false (nat_eq l x) ∙ nat_eq-swap l x ∙ at_e) ∙ more h new

present-append : (xs ys : List (Option ℕ)) → present (xs ++ ys) ≡ present xs ++ present ys
present-append [] ys = refl
present-append (Some x ∷ xs) ys = ap (λ l. x ∷ l) (present-append xs ys)
present-append (None ∷ xs) ys = present-append xs ys

one_fails : {X : Type 0} (p : X → Bool) (xs : List X) (i : ℕ) (x : X) → slice_get xs i ≡ Some x → p x ≡ false → list_all p xs ≡ false
one_fails p [] i x at fails = absurd (none-some x at)
one_fails p (y ∷ ys) zero x at fails = ap (λ b. b && list_all p ys) (ap p (same_Some y x at) ∙ fails)
one_fails p (y ∷ ys) (suc i) x at fails = ap (λ b. p y && b) (one_fails p ys i x at fails) ∙ and-false (p y)

parted : {X : Type 0} (xs : List X) (i : ℕ) (x : X) → slice_get xs i ≡ Some x → xs ≡ take i xs ++ x ∷ drop (i + 1) xs
parted xs i x at = sym (take-append-drop (i + 1) xs) ∙ ap (λ l. l ++ drop (i + 1) xs) (take_next xs i x at) ∙ append_assoc (take i xs) (x ∷ []) (drop (i + 1) xs)

-- The inputs of one BEL.

module _ (t : SiteType) (b : LutBel) (i : ℕ) where
  pub input_at : (pin : ℕ) → slice_get b.input_pins i ≡ Some pin → slice_get (input_lines t b) i ≡ Some (line_in b.name pin t)
  input_at pin at = slice_get-map (λ q. line_in b.name q t) b.input_pins i ∙ ap (option_map (λ q. line_in b.name q t)) at

  pub on_no_line : slice_get (input_lines t b) i ≡ Some None → has_own_lines t b ≡ false
  on_no_line at = ap (λ a. a && differ (present (input_lines t b))) (one_fails is_some (input_lines t b) i None at refl)

  module _ (lines : List ℕ) (line : ℕ) (first : AreFirstLines t b i lines) (at : slice_get (input_lines t b) i ≡ Some (Some line)) where
    all_lines : present (input_lines t b) ≡ lines ++ line ∷ present (drop (i + 1) (input_lines t b))
    all_lines =
        ap present (parted (input_lines t b) i (Some line) at)
        ∙ present-append (take i (input_lines t b)) (Some line ∷ drop (i + 1) (input_lines t b))
        ∙ ap (λ l. l ++ line ∷ present (drop (i + 1) (input_lines t b))) first.are

    pub on_one_line : has lines line ≡ true → has_own_lines t b ≡ false
    on_one_line known =
        ap (λ d. list_all is_some (input_lines t b) && d) (ap differ all_lines ∙ twice lines line (present (drop (i + 1) (input_lines t b))) known) ∙ and-false (list_all is_some (input_lines t b))

    pub on_many_lines : has lines line ≡ false → 12 ≤ length lines → 12 < length (distinct (present (input_lines t b)))
    on_many_lines new many =
        let one = length-distinct-push lines line ∙ ap (λ h. length (distinct lines) + cond h 0 1) new in
        let same = sym (counted lines) ∙ ap length first.alone in
        let more = more_after (lines ++ line ∷ []) (present (drop (i + 1) (input_lines t b))) in
        let whole = ap (λ l. length (distinct l)) (all_lines ∙ sym (append_assoc lines (line ∷ []) (present (drop (i + 1) (input_lines t b))))) in
        omega (arith, one, same, more, whole, many)

    pub one_more_input : has lines line ≡ false → AreFirstLines t b (i + 1) (lines ++ line ∷ [])
    one_more_input new = record {
      there = ap (list_all is_some) (take_next (input_lines t b) i (Some line) at) ∙ list_all-append is_some (take i (input_lines t b)) (Some line ∷ []) ∙ ap (λ a. a && true) first.there;
      are = ap present (take_next (input_lines t b) i (Some line) at) ∙ present-append (take i (input_lines t b)) (Some line ∷ []) ∙ ap (λ l. l ++ line ∷ []) first.are;
      differ = differ-push lines line first.differ new;
      alone = with_lines-append [] lines (line ∷ []) ∙ ap (λ l. with_line l line) first.alone ∙ ap (λ h. if not h then lines ++ line ∷ [] else lines) new;
    }

-- The BELs of one element.

module _ (t : SiteType) (e : LutElement) where
  abbrev lines_in : List LutBel → List ℕ
  lines_in bels = flat_map (λ b. present (input_lines t b)) bels

  pub unusable_own : list_all (has_own_lines t) e.bels ≡ false → false ≡ is_usable t e
  unusable_own h =
      sym (ap (λ o. nat_le (length e.bels) 8 && o && nat_le (length (distinct (lines_in e.bels))) 12) h ∙ ap (λ a. a && nat_le (length (distinct (lines_in e.bels))) 12) (and-false (nat_le (length e.bels) 8)))

  pub unusable_many : 12 < length (distinct (lines_in e.bels)) → false ≡ is_usable t e
  unusable_many many =
      sym (ap (λ l. nat_le (length e.bels) 8 && list_all (has_own_lines t) e.bels && l) (lt-leb (length (distinct (lines_in e.bels))) 12 many) ∙ and-false (nat_le (length e.bels) 8 && list_all (has_own_lines t) e.bels))

  module _ (i : ℕ) (b : LutBel) (at : slice_get e.bels i ≡ Some b) where
    pub unusable_bel : AreOwnLines t b None → false ≡ is_usable t e
    unusable_bel (inl none) = unusable_own (one_fails (has_own_lines t) e.bels i b at none)
    unusable_bel (inr many) =
        let whole : lines_in e.bels ≡ lines_in (take i e.bels) ++ (present (input_lines t b) ++ lines_in (drop (i + 1) e.bels)) =
        ap lines_in (parted e.bels i b at) ∙ flat_map-append (λ c. present (input_lines t c)) (take i e.bels) (b ∷ drop (i + 1) e.bels) in
        let after = more_after (present (input_lines t b)) (lines_in (drop (i + 1) e.bels)) in
        let before = more_before (lines_in (take i e.bels)) (present (input_lines t b) ++ lines_in (drop (i + 1) e.bels)) in
        let same = ap (λ l. length (distinct l)) whole in
        unusable_many (omega (arith, after, before, same, many))

    module _ (all new lines : List ℕ) (first : AreAllLines t e.bels i all) (own : AreOwnLines t b (Some lines)) (added : new ≡ with_lines all lines) where
      next_lines : new ≡ with_lines [] (lines_in (take (i + 1) e.bels))
      next_lines =
          added ∙ ap (λ l. with_lines l lines) first.are
          ∙ sym (with_lines-append [] (lines_in (take i e.bels)) lines)
          ∙ ap (λ l. with_lines [] (lines_in (take i e.bels) ++ l)) (sym own.1 ∙ sym (append-nil (present (input_lines t b))))
          ∙ ap (with_lines []) (sym (ap lines_in (take_next e.bels i b at) ∙ flat_map-append (λ c. present (input_lines t c)) (take i e.bels) (b ∷ [])))

      pub unusable_after : 12 < length new → false ≡ is_usable t e
      unusable_after many =
          let same = ap length next_lines ∙ counted (lines_in (take (i + 1) e.bels)) in
          let more = more_after (lines_in (take (i + 1) e.bels)) (lines_in (drop (i + 1) e.bels)) in
          let whole = ap (λ l. length (distinct l)) (ap lines_in (sym (take-append-drop (i + 1) e.bels)) ∙ flat_map-append (λ c. present (input_lines t c)) (take (i + 1) e.bels) (drop (i + 1) e.bels)) in
          unusable_many (omega (arith, same, more, whole, many))

      pub one_more_lut_bel : length new ≤ 12 → AreAllLines t e.bels (i + 1) new
      one_more_lut_bel few = record {
        own = ap (list_all (has_own_lines t)) (take_next e.bels i b at) ∙ list_all-append (has_own_lines t) (take i e.bels) (b ∷ []) ∙ ap (λ o. o && (has_own_lines t b && true)) first.own ∙ ap (λ o. o && true) own.0;
        are = next_lines;
        few = few;
      }

  pub usable_whole : (i : ℕ) (all : List ℕ) → i ≡ length e.bels → length e.bels ≤ 8 → AreAllLines t e.bels i all → true ≡ is_usable t e
  usable_whole i all end few are =
      let whole : take i e.bels ≡ e.bels = ap (λ n. take n e.bels) end ∙ take-length e.bels in
      let own : list_all (has_own_lines t) e.bels ≡ true = ap (list_all (has_own_lines t)) (sym whole) ∙ are.own in
      let lines : length (distinct (lines_in e.bels)) ≡ length all = ap (λ l. length (distinct (lines_in l))) (sym whole) ∙ sym (counted (lines_in (take i e.bels))) ∙ ap length (sym are.are) in
      let within : length (distinct (lines_in e.bels)) ≤ 12 = omega (arith, lines, are.few) in
      sym (ap (λ a. a && list_all (has_own_lines t) e.bels && nat_le (length (distinct (lines_in e.bels))) 12) (le-leb (length e.bels) 8 few) ∙ ap (λ o. o && nat_le (length (distinct (lines_in e.bels))) 12) own ∙ le-leb (length (distinct (lines_in e.bels))) 12 within)
