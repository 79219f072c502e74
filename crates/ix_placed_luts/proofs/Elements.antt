-- The inputs of a BEL of a usable element, and the element's lines.
use Rattle.std.proofs.Common.{◌≡◌, ◌<◌, ◌∙◌, refl, ap, sym, ℕ, zero, suc, List, [], ◌∷◌}
use Rattle.std.proofs.Common.{◌++◌, ◌+◌, cond, length, slice_get, Option, Some, None, is_some, Bool}
use Rattle.std.proofs.Common.{true, false, true≢false, ◌&&◌, ◌||◌, not, nat_eq, nat_le, arith}
use Rattle.std.proofs.Common.{option_map, option_and_then}
use Rattle.std.specs.List.{list_all, list_any, flat_map, position_or_len}
use Rattle.std.proofs.lemmas.Bool.{eqb-true, eq-eqb}
use Rattle.std.proofs.lemmas.List.{length-map}
use Rattle.std.proofs.lemmas.Option.{none-some, same_Some, get_or_from_slice_get, slice_get-map}
use Rattle.std.proofs.lemmas.Option.{slice_get_within}
use Rattle.ix_rec.specs.declared.device.LutBel.{LutBel}
use Rattle.ix_rec.specs.declared.device.LutElement.{LutElement}
use Rattle.ix_rec.specs.declared.device.SiteType.{SiteType}
use Rattle.ix_device_rules.specs.Rules.{is_new}
use Rattle.ix_device.specs.Lookups.{pin_of_bel, wire_in}
use Rattle.ix_device.specs.Elements.{differ, distinct, has_own_lines, input_lines, is_usable}
use Rattle.ix_device.specs.Elements.{present}
use Rattle.ix_device.specs.Shapes.{bel_with, line_number, lines_of, with_line, with_lines}
use Rattle.ix_device.proofs.LineLemmas.{has-with_line}
use Rattle.ix_device.proofs.NumberedLemmas.{there_is}
use Rattle.ix_device.proofs.Walks.{any_at}
use Rattle.ix_lut.specs.Tables.{AllDiffer}

left : (a b : Bool) → (a && b) ≡ true → a ≡ true
left true b h = refl
left false b h = h

right : (a b : Bool) → (a && b) ≡ true → b ≡ true
right true b h = h
right false true h = refl
right false false h = h

either_left : (a b : Bool) → a ≡ true → (a || b) ≡ true
either_left true b h = refl
either_left false b h = absurd (true≢false (sym h))

either_right : (a b : Bool) → b ≡ true → (a || b) ≡ true
either_right true b h = refl
either_right false b h = h

passes : {A : Type 0} (p : A → Bool) (xs : List A) (i : ℕ) (x : A) → slice_get xs i ≡ Some x
    → list_all p xs ≡ true → p x ≡ true
passes p [] i x at all = absurd (none-some x at)
passes p (y ∷ ys) zero x at all =
    ap p (sym (same_Some y x at)) ∙ left (p y) (list_all p ys) all
passes p (y ∷ ys) (suc i) x at all = passes p ys i x at (right (p y) (list_all p ys) all)

-- Lists of what may be there, and is.

all_present : (os : List (Option ℕ)) → list_all is_some os ≡ true
    → length (present os) ≡ length os
all_present [] all = refl
all_present (None ∷ os) all = absurd (true≢false (sym all))
all_present (Some x ∷ os) all = ap suc (all_present os all)

present_at : (os : List (Option ℕ)) (j : ℕ) (o : Option ℕ) → list_all is_some os ≡ true
    → slice_get os j ≡ Some o → (x : ℕ) × (o ≡ Some x) × (slice_get (present os) j ≡ Some x)
present_at [] j o all at = absurd (none-some o at)
present_at (None ∷ os) j o all at = absurd (true≢false (sym all))
present_at (Some x ∷ os) zero o all at = (x, sym (same_Some (Some x) o at), refl)
present_at (Some x ∷ os) (suc j) o all at = present_at os j o all at

-- items of lists without twins
all_differ : (xs : List ℕ) → differ xs ≡ true → AllDiffer xs
all_differ [] h a b less within same = let no : b < 0 = within in omega (arith, no)
all_differ (x ∷ xs) h zero zero less within same = omega (arith, less)
all_differ (x ∷ xs) h zero (suc b) less within same =
    let at = there_is xs b (omega (arith, within)) in
    let equal : x ≡ at.0 = same ∙ get_or_from_slice_get xs b at.0 0 at.1 in
    let has = any_at (nat_eq x) xs b at.0 at.1 (eq-eqb x at.0 equal) in
    true≢false (sym (left (is_new xs x) (differ xs) h) ∙ ap not has)
all_differ (x ∷ xs) h (suc a) zero less within same = omega (arith, less)
all_differ (x ∷ xs) h (suc a) (suc b) less within same =
    all_differ xs (right (is_new xs x) (differ xs) h) a b (omega (arith, less))
    (omega (arith, within)) same

-- Lists of lines.

has_more : (xs lines : List ℕ) (y : ℕ) → list_any (nat_eq y) lines ≡ true
    → list_any (nat_eq y) (with_lines lines xs) ≡ true
has_more [] lines y has = has
has_more (x ∷ xs) lines y has = has_more xs (with_line lines x) y
    (has-with_line lines x y ∙ either_left (list_any (nat_eq y) lines) (nat_eq y x) has)

has_new : (xs lines : List ℕ) (j y : ℕ) → slice_get xs j ≡ Some y
    → list_any (nat_eq y) (with_lines lines xs) ≡ true
has_new [] lines j y at = absurd (none-some y at)
has_new (x ∷ xs) lines zero y at = has_more xs (with_line lines x) y
    (has-with_line lines x y
    ∙ either_right (list_any (nat_eq y) lines) (nat_eq y x) (eq-eqb y x (sym (same_Some x y at))))
has_new (x ∷ xs) lines (suc j) y at = has_new xs (with_line lines x) j y at

-- an item of a list of lists is in the list of all of them
before_all : (xs ys : List ℕ) (j y : ℕ) → slice_get xs j ≡ Some y
    → slice_get (xs ++ ys) j ≡ Some y
before_all [] ys j y at = absurd (none-some y at)
before_all (x ∷ xs) ys zero y at = at
before_all (x ∷ xs) ys (suc j) y at = before_all xs ys j y at

after_all : (xs ys : List ℕ) (j y : ℕ) → slice_get ys j ≡ Some y
    → (k : ℕ) × (slice_get (xs ++ ys) k ≡ Some y)
after_all [] ys j y at = (j, at)
after_all (x ∷ xs) ys j y at = let k = after_all xs ys j y at in (suc k.0, k.1)

in_all : {A : Type 0} (f : A → List ℕ) (xs : List A) (i : ℕ) (x : A) (j y : ℕ)
    → slice_get xs i ≡ Some x → slice_get (f x) j ≡ Some y
    → (k : ℕ) × (slice_get (flat_map f xs) k ≡ Some y)
in_all f [] i x j y at_x at_y = absurd (none-some x at_x)
in_all f (z ∷ zs) zero x j y at_x at_y = (
  j,
  before_all (f z) (flat_map f zs) j y
      (ap (λ w. slice_get (f w) j) (same_Some z x at_x) ∙ at_y),
)
in_all f (z ∷ zs) (suc i) x j y at_x at_y = let k = in_all f zs i x j y at_x at_y in
    after_all (f z) (flat_map f zs) k.0 y k.1

-- a number that is in a list stands at its place
at_place : (xs : List ℕ) (y : ℕ) → list_any (nat_eq y) xs ≡ true
    → slice_get xs (position_or_len (nat_eq y) xs) ≡ Some y
at_place [] y has = absurd (true≢false (sym has))
at_place (x ∷ xs) y has = by (nat_eq y x) refl has (at_place xs y)
  where
    by : (b : Bool) → nat_eq y x ≡ b → (b || list_any (nat_eq y) xs) ≡ true
        → (list_any (nat_eq y) xs ≡ true → slice_get xs (position_or_len (nat_eq y) xs) ≡ Some y)
        → slice_get (x ∷ xs) (cond (not b) (1 + position_or_len (nat_eq y) xs) 0) ≡ Some y
    by true same h rest = ap Some (sym (eqb-true y x same))
    by false same h rest =
        let next : 1 + position_or_len (nat_eq y) xs ≡ suc (position_or_len (nat_eq y) xs) =
        omega arith in
        ap (slice_get (x ∷ xs)) next ∙ rest h

-- The inputs of a BEL of a usable element.

-- the site wire of a pin of a LUT BEL
abbrev pub wire_named : SiteType → LutBel → (name : ℕ) → Option ℕ
wire_named ty bel name = option_and_then (λ p. wire_in p ty) (pin_of_bel bel.name name ty)

-- an input of a BEL: its name, its wire, and the wire as a line of the element
pub record IsInput (ty : SiteType) (e : LutElement) (bel : LutBel) (j line : ℕ) : Type 0 where
  pub name : ℕ
  pub name_is : slice_get bel.input_pins j ≡ Some name
  pub wire : ℕ
  pub wire_is : wire_named ty bel name ≡ Some wire
  pub line_is : slice_get (lines_of ty e) line ≡ Some wire

module _ (ty : SiteType) (e : LutElement) (usable : is_usable ty e ≡ true) (place : ℕ)
    (bel : LutBel) (at : slice_get e.bels place ≡ Some bel) where
  abbrev wires : List ℕ
  wires = present (input_lines ty bel)

  own : has_own_lines ty bel ≡ true
  own = passes (has_own_lines ty) e.bels place bel at
      (right (nat_le (length e.bels) 8) _ (left _ (nat_le (length (distinct
      (flat_map (λ l. present (input_lines ty l)) e.bels))) 12) usable))

  on_wires : list_all is_some (input_lines ty bel) ≡ true
  on_wires = left _ _ own

  apart : differ wires ≡ true
  apart = right (list_all is_some (input_lines ty bel)) _ own

  pub inputs_counted : length (bel_with ty (lines_of ty e) bel).lines ≡ length bel.input_pins
  inputs_counted = length-map wires (line_number (lines_of ty e))
      ∙ all_present (input_lines ty bel) on_wires
      ∙ length-map bel.input_pins (wire_named ty bel)

  wire_at : (j name : ℕ) → slice_get bel.input_pins j ≡ Some name
      → (wire : ℕ) × (wire_named ty bel name ≡ Some wire) × (slice_get wires j ≡ Some wire)
  wire_at j name is = present_at (input_lines ty bel) j (wire_named ty bel name) on_wires
      (slice_get-map (wire_named ty bel) bel.input_pins j
      ∙ ap (option_map (wire_named ty bel)) is)

  -- the names of the inputs differ, as their wires do
  pub names_differ : AllDiffer bel.input_pins
  names_differ a b less within same =
      let first = there_is bel.input_pins a (omega (arith, less, within)) in
      let second = there_is bel.input_pins b within in
      let names : first.0 ≡ second.0 =
      sym (get_or_from_slice_get bel.input_pins a first.0 0 first.1) ∙ same
      ∙ get_or_from_slice_get bel.input_pins b second.0 0 second.1 in
      let one = wire_at a first.0 first.1 in
      let two = wire_at b second.0 second.1 in
      let equal : one.0 ≡ two.0 = same_Some one.0 two.0
      (sym one.1 ∙ ap (wire_named ty bel) names ∙ two.1) in
      all_differ wires apart a b less (slice_get_within wires b two.0 two.2)
      (get_or_from_slice_get wires a one.0 0 one.2 ∙ equal
      ∙ sym (get_or_from_slice_get wires b two.0 0 two.2))

  pub input_at : (j line : ℕ) → slice_get (bel_with ty (lines_of ty e) bel).lines j ≡ Some line
      → IsInput ty e bel j line
  input_at j line is =
      let counted = inputs_counted in
      let name = there_is bel.input_pins j (omega (
        arith,
        counted,
        slice_get_within (bel_with ty (lines_of ty e) bel).lines j line is,
      )) in
      let wire = wire_at j name.0 name.1 in
      let all = in_all (λ l. present (input_lines ty l)) e.bels place bel j wire.0 at wire.2 in
      let same : line_number (lines_of ty e) wire.0 ≡ line =
      same_Some (line_number (lines_of ty e) wire.0) line
      (ap (option_map (line_number (lines_of ty e))) (sym wire.2)
      ∙ sym (slice_get-map (line_number (lines_of ty e)) wires j) ∙ is) in
      record {
        name = name.0;
        name_is = name.1;
        wire = wire.0;
        wire_is = wire.1;
        line_is = ap (slice_get (lines_of ty e)) (sym same) ∙ at_place (lines_of ty e) wire.0
            (has_new (flat_map (λ l. present (input_lines ty l)) e.bels) [] all.0 wire.0 all.1);
      }
