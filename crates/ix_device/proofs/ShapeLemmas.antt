-- The shapes of LUT elements, BEL by BEL.
use Rattle.std.proofs.Common.{◌≡◌, ◌≤◌, ◌<◌, refl, ap, sym, subst, ◌∙◌, ℕ, ◌+◌, ◌^◌, ◌&&◌, Bool, true, false, nat_eq, nat_le, if◌then◌else◌, ◌⊎◌, inl, inr, List, [], ◌∷◌, ◌++◌, append_assoc, length, map, take, drop, set, slice_get, slice_index_or, get_or, get_or-set_other, get_or-set_same, Option, Some, None, arith, ◌≢◌}
use Rattle.std.specs.List.{list_all, flat_map}
use Rattle.std.proofs.Math.Seq.{take-length}
use Rattle.std.proofs.lemmas.Bool.{eqb-true, eqb-false, lt-leb}
use Rattle.std.proofs.lemmas.List.{append-nil, length-set, map-append, take-append-drop, take_more_set}
use Rattle.std.proofs.lemmas.List.Folds.{list_all-append}
use Rattle.std.proofs.lemmas.Grind.{flat_map-append}
use Rattle.ix_rec.specs.declared.device.SiteType.{SiteType}
use Rattle.ix_rec.specs.declared.device.LutBel.{LutBel}
use Rattle.ix_rec.specs.declared.device.LutElement.{LutElement}
use Rattle.ix_lut.specs.declared.shape.BelShape.{BelShape}
use Rattle.ix_lut.specs.declared.shape.ElementShape.{ElementShape}
use Rattle.ix_lut.specs.Shapes.{IsUsable, IsUsableBel, bel_at}
use Rattle.ix_device.specs.Elements.{differ, distinct, present, input_lines, has_own_lines, is_usable}
use Rattle.ix_device.specs.Premises.{BelFits}
use Rattle.ix_device.specs.Shapes.{with_lines, lines_of, line_number, BelSeen, bel_with, bel_seen, ShapeSeen, shape_of, usable_shape, shape_seen}
use Rattle.ix_device.proofs.LineLemmas.{AreAllLines, with_lines-append, grows, counted, more_after, unusable_own, unusable_many, usable_whole}
use Rattle.ix_device.proofs.Numbering.{lines_grown, usable_bel}
use Rattle.ix_device.proofs.Valid.{and_right}
use Rattle.ix_device.proofs.Walks.{take_next, map_take_next, all_fails}

-- One BEL, whose inputs have these lines.
module _ (t : SiteType) (b : LutBel) (start now wires : List ℕ) (shape : BelShape) (own : has_own_lines t b ≡ true) (lines : present (input_lines t b) ≡ wires) (low : shape.low ≡ b.low_bit)
    (count : length wires ≡ shape.inputs) (inputs : shape.inputs ≡ length b.input_pins) (added : now ≡ with_lines start wires)
    (numbers : (more : List ℕ) → map (line_number (now ++ more)) wires ≡ take (length wires) shape.lines) where
  pub bel_added : now ≡ with_lines start (present (input_lines t b))
  bel_added = added ∙ ap (with_lines start) (sym lines)

  pub bel_is_seen : (more : List ℕ) → bel_with t (now ++ more) b ≡ bel_seen shape
  bel_is_seen more =
      ap (λ n. record { low = n; lines = map (line_number (now ++ more)) (present (input_lines t b)) }) (sym low)
      ∙ ap (λ l. record { low = shape.low; lines = l }) (ap (map (line_number (now ++ more))) lines ∙ numbers more ∙ ap (λ n. take n shape.lines) count)

  pub bel_is_usable : BelFits b → IsUsableBel (length now) shape
  bel_is_usable fits =
      let few : shape.inputs ≤ 6 = subst (λ n. n ≤ 6) (sym inputs) fits.few in
      let within : shape.low + 2 ^ shape.inputs ≤ 64 = subst (λ n. n + 2 ^ shape.inputs ≤ 64) (sym low) (subst (λ n. b.low_bit + 2 ^ n ≤ 64) (sym inputs) fits.within) in
      usable_bel start now wires shape added (ap differ (sym lines) ∙ and_right _ (differ (present (input_lines t b))) own) (sym count) numbers few within

abbrev lines_in : SiteType → List LutBel → List ℕ
lines_in t bels = flat_map (λ b. present (input_lines t b)) bels

-- a BEL's shape when nothing was read
abbrev nothing : BelShape
nothing = record { low = 0; inputs = 0; lines = [] }

-- the shapes of an element's first BELs
pub record AreShapes (t : SiteType) (e : LutElement) (i : ℕ) (lines : List ℕ) (bels : List BelShape) : Type 0 where
  pub own : list_all (has_own_lines t) (take i e.bels) ≡ true
  pub are : lines ≡ with_lines [] (flat_map (λ b. present (input_lines t b)) (take i e.bels))
  pub seen : (more : List ℕ) → map (bel_with t (lines ++ more)) (take i e.bels) ≡ map bel_seen (take i bels)
  pub each : (place : ℕ) → place < i → IsUsableBel (length lines) (get_or bels place nothing)
  pub room : length bels ≡ 8

more_lines : (m n : ℕ) (b : BelShape) → m ≤ n → IsUsableBel m b → IsUsableBel n b
more_lines m n b more usable = record {
  few = usable.few;
  within = usable.within;
  on_lines = λ j below. let on = usable.on_lines j below in omega (arith, on, more);
  differ = usable.differ;
}

module _ (t : SiteType) (e : LutElement) (i : ℕ) (lines : List ℕ) (bels : List BelShape) (first : AreShapes t e i lines bels) where
  all_lines : length lines ≤ 12 → AreAllLines t e.bels i lines
  all_lines few = record { own = first.own; are = first.are; few = few }

  next_lines : (b : LutBel) → slice_get e.bels i ≡ Some b → with_lines lines (present (input_lines t b)) ≡ with_lines [] (lines_in t (take (i + 1) e.bels))
  next_lines b at =
      ap (λ l. with_lines l (present (input_lines t b))) first.are
      ∙ sym (with_lines-append [] (lines_in t (take i e.bels)) (present (input_lines t b)))
      ∙ ap (λ l. with_lines [] (lines_in t (take i e.bels) ++ l)) (sym (append-nil (present (input_lines t b))))
      ∙ ap (with_lines []) (sym (ap (lines_in t) (take_next e.bels i b at) ∙ flat_map-append (λ c. present (input_lines t c)) (take i e.bels) (b ∷ [])))

  pub shapeless : (b : LutBel) → slice_get e.bels i ≡ Some b → (has_own_lines t b ≡ false) ⊎ (12 < length (with_lines lines (present (input_lines t b)))) → None ≡ usable_shape t e
  shapeless b at why = ap (λ u. if u then Some (shape_of t e) else None) (unusable why)
    where
      alien : has_own_lines t b ≡ false → false ≡ is_usable t e
      alien h = unusable_own t e (all_fails (has_own_lines t) e.bels i b at h)

      many : 12 < length (with_lines lines (present (input_lines t b))) → false ≡ is_usable t e
      many h =
          let same = ap length (next_lines b at) ∙ counted (lines_in t (take (i + 1) e.bels)) in
          let more = more_after (lines_in t (take (i + 1) e.bels)) (lines_in t (drop (i + 1) e.bels)) in
          let whole = ap (λ l. length (distinct l)) (ap (lines_in t) (sym (take-append-drop (i + 1) e.bels)) ∙ flat_map-append (λ c. present (input_lines t c)) (take (i + 1) e.bels) (drop (i + 1) e.bels)) in
          unusable_many t e (omega (arith, same, more, whole, h))

      unusable : (has_own_lines t b ≡ false) ⊎ (12 < length (with_lines lines (present (input_lines t b)))) → false ≡ is_usable t e
      unusable (inl h) = alien h
      unusable (inr h) = many h

  pub shape_whole : i ≡ length e.bels → length e.bels ≤ 8 → length lines ≤ 12 → (s : ElementShape) → s.lines ≡ length lines → s.bel_count ≡ i → s.bels ≡ bels → Some (shape_seen s) ≡ usable_shape t e
  shape_whole end small few s at_lines at_count at_bels =
      let whole : take i e.bels ≡ e.bels = ap (λ n. take n e.bels) end ∙ take-length e.bels in
      let all : lines ≡ lines_of t e = first.are ∙ ap (λ l. with_lines [] (flat_map (λ b. present (input_lines t b)) l)) whole in
      let seen : map bel_seen (take s.bel_count s.bels) ≡ map (bel_with t (lines_of t e)) e.bels =
      ap (λ n. map bel_seen (take n s.bels)) at_count ∙ ap (λ l. map bel_seen (take i l)) at_bels ∙ sym (first.seen []) ∙ ap (λ l. map (bel_with t l) (take i e.bels)) (append-nil lines ∙ all) ∙ ap (map (bel_with t (lines_of t e))) whole in
      ap Some (ap (λ n. record { lines = n; bels = map bel_seen (take s.bel_count s.bels) }) (at_lines ∙ ap length all) ∙ ap (λ l. record { lines = length (lines_of t e); bels = l }) seen)
      ∙ ap (λ u. if u then Some (shape_of t e) else None) (usable_whole t e i lines end small (all_lines few))

  pub shape_usable : i ≤ 8 → length lines ≤ 12 → (s : ElementShape) → s.lines ≡ length lines → s.bel_count ≡ i → s.bels ≡ bels → IsUsable s
  shape_usable small few s at_lines at_count at_bels = record {
    lines = subst (λ n. n ≤ 12) (sym at_lines) few;
    bels = subst (λ n. n ≤ 8) (sym at_count) small;
    each = λ place below.
        subst (λ n. IsUsableBel n (bel_at s place)) (sym at_lines)
        (subst (λ l. IsUsableBel (length lines) (get_or l place nothing)) (sym at_bels) (first.each place (subst (λ n. place < n) at_count below)));
  }

  -- one BEL more
  module _ (b : LutBel) (at : slice_get e.bels i ≡ Some b) (now : List ℕ) (shape : BelShape) (own : has_own_lines t b ≡ true) (added : now ≡ with_lines lines (present (input_lines t b)))
      (seen : (more : List ℕ) → bel_with t (now ++ more) b ≡ bel_seen shape) (usable : IsUsableBel (length now) shape) (within : i < 8) where
    pub one_more_shape : AreShapes t e (i + 1) now (set bels i shape)
    one_more_shape = record {
      own = ap (list_all (has_own_lines t)) (take_next e.bels i b at) ∙ list_all-append (has_own_lines t) (take i e.bels) (b ∷ []) ∙ ap (λ o. o && (has_own_lines t b && true)) first.own ∙ ap (λ o. o && true) own;
      are = added ∙ next_lines b at;
      seen = λ more.
          map_take_next (bel_with t (now ++ more)) e.bels i b at
          ∙ ap (λ l. map (bel_with t l) (take i e.bels) ++ bel_with t (now ++ more) b ∷ []) (same more)
          ∙ ap (λ l. l ++ bel_with t (now ++ more) b ∷ []) (first.seen (grown.0 ++ more))
          ∙ ap (λ s. map bel_seen (take i bels) ++ s ∷ []) (seen more)
          ∙ sym (map-append bel_seen (take i bels) (shape ∷ []))
          ∙ ap (map bel_seen) (sym (take_more_set bels i shape room));
      each = λ place below. by place below (nat_eq place i) refl;
      room = length-set bels i shape ∙ first.room;
    }
      where
        grown : (rest : List ℕ) × (with_lines lines (present (input_lines t b)) ≡ lines ++ rest)
        grown = lines_grown lines (present (input_lines t b))

        same : (more : List ℕ) → now ++ more ≡ lines ++ (grown.0 ++ more)
        same more = ap (λ l. l ++ more) (added ∙ grown.1) ∙ append_assoc lines grown.0 more

        room : i < length bels
        room = let all = first.room in omega (arith, all, within)

        longer : length lines ≤ length now
        longer = let more = grows lines (present (input_lines t b)) in let all = ap length added in omega (arith, more, all)

        by : (place : ℕ) → place < i + 1 → (same_place : Bool) → nat_eq place i ≡ same_place → IsUsableBel (length now) (get_or (set bels i shape) place nothing)
        by place below true h =
            subst (λ p. IsUsableBel (length now) (get_or (set bels i shape) p nothing)) (sym (eqb-true place i h))
            (subst (IsUsableBel (length now)) (sym (get_or-set_same bels i shape nothing room)) usable)
        by place below false h =
            let other : place ≢ i = eqb-false place i h in
            let earlier : place < i = omega (arith, below, other) in
            subst (IsUsableBel (length now)) (sym (get_or-set_other bels i place shape nothing other)) (more_lines (length lines) (length now) (get_or bels place nothing) longer (first.each place earlier))

-- an element of too many BELs has no shape
pub too_many_bels : (t : SiteType) (e : LutElement) → 8 < length e.bels → None ≡ usable_shape t e
too_many_bels t e many = ap (λ u. if u then Some (shape_of t e) else None) (sym (ap (λ a. a && list_all (has_own_lines t) e.bels && nat_le (length (distinct (flat_map (λ b. present (input_lines t b)) e.bels))) 12) (lt-leb (length e.bels) 8 many)))
