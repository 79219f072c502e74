-- The numbers of lines among those of an element.
use Rattle.std.proofs.Common.{◌≡◌, ◌<◌, ◌≤◌, refl, ap, sym, subst, ◌∙◌, ℕ, zero, suc, ◌+◌, ◌^◌, ◌&&◌, ◌||◌, not, Bool, true, false, true≢false, cond, nat_eq, nat_lt, if◌then◌else◌, List, [], ◌∷◌, ◌++◌, append_assoc, length, map, take, set, slice_get, get_or, Option, Some, None, is_some, IfSome, IfNone, arith}
use Rattle.std.specs.List.{list_any, position, position_or_len}
use Rattle.std.proofs.lemmas.Bool.{eqb-true, eq-eqb}
use Rattle.std.proofs.lemmas.List.{append-nil, length-append, length-map, take_more_set, get_or-map, get_or-take}
use Rattle.std.proofs.lemmas.Option.{none-some, same_Some, slice_get_within, slice_get-get_or}
use Rattle.ix_lut.specs.Tables.{AllDiffer}
use Rattle.ix_lut.specs.Shapes.{IsUsableBel}
use Rattle.ix_lut.specs.declared.shape.BelShape.{BelShape}
use Rattle.ix_device_rules.specs.Rules.{is_new}
use Rattle.ix_first.specs.First.{or_later}
use Rattle.ix_device.specs.Elements.{differ}
use Rattle.ix_device.specs.Shapes.{line_number, with_line, with_lines}
use Rattle.ix_device.proofs.FirstPlaces.{position-push, is_some_position, none-place}
use Rattle.ix_device.proofs.OptionLemmas.{position-at}
use Rattle.ix_device.proofs.Valid.{place_stays}
use Rattle.ix_device.proofs.Walks.{take_next, map_take_next}
use Rattle.ix_device.proofs.LineLemmas.{has-with_line, with_lines-append, grows}

abbrev has : List ℕ → ℕ → Bool
has lines x = list_any (nat_eq x) lines

place_is : {X : Type 0} (p : X → Bool) (xs : List X) (k : ℕ) → position p xs ≡ Some k → position_or_len p xs ≡ k
place_is p xs k h = by (nat_lt (position_or_len p xs) (length xs)) h
  where
    by : (b : Bool) → cond b (Some (position_or_len p xs)) None ≡ Some k → position_or_len p xs ≡ k
    by true e = same_Some (position_or_len p xs) k e
    by false e = absurd (none-some k e)

if_some : {A : Type 0} (o : Option A) (P Q : A → Type 0) → ((x : A) → P x → Q x) → IfSome o P → IfSome o Q
if_some None P Q f h = tt
if_some (Some x) P Q f h = f x h

if_none : {A : Type 0} (o : Option A) (P Q : Type 0) → (P → Q) → IfNone o P → IfNone o Q
if_none None P Q f h = f h
if_none (Some x) P Q f h = tt

-- One line.

pub with_known : (lines : List ℕ) (x k : ℕ) → position (nat_eq x) lines ≡ Some k → with_line lines x ≡ lines
with_known lines x k h = ap (λ b. if not b then lines ++ x ∷ [] else lines) (sym (is_some_position (nat_eq x) lines) ∙ ap is_some h)

pub with_new : (lines : List ℕ) (x : ℕ) → position (nat_eq x) lines ≡ None → with_line lines x ≡ lines ++ x ∷ []
with_new lines x h = ap (λ b. if not b then lines ++ x ∷ [] else lines) (none-place (nat_eq x) lines h)

pub number_new : (lines : List ℕ) (x : ℕ) → position (nat_eq x) lines ≡ None → position (nat_eq x) (lines ++ x ∷ []) ≡ Some (length lines)
number_new lines x h = position-push (nat_eq x) lines x ∙ ap (λ o. or_later o (nat_eq x x) (length lines)) h ∙ ap (λ b. or_later None b (length lines)) (eq-eqb x x refl)

-- a new line was added, or didn't fit
module _ (lines now : List ℕ) (x : ℕ) (pushed : Option ℕ) (new : position (nat_eq x) lines ≡ None) where
  pub push_adds : IfSome pushed (λ n. (n ≡ length lines) × (now ≡ lines ++ x ∷ [])) → IfSome pushed (λ n. now ≡ with_line lines x)
  push_adds h = if_some pushed _ _ (λ n p. p.1 ∙ sym (with_new lines x new)) h

  pub push_numbers : IfSome pushed (λ n. (n ≡ length lines) × (now ≡ lines ++ x ∷ [])) → IfSome pushed (λ n. position (nat_eq x) now ≡ Some n)
  push_numbers h = if_some pushed _ _ (λ n p. ap (position (nat_eq x)) p.1 ∙ number_new lines x new ∙ ap Some (sym p.0)) h

  pub push_fails : IfNone pushed (length lines ≡ 12) → IfNone pushed (12 < length (with_line lines x))
  push_fails h = if_none pushed _ _ (λ full. let more = ap length (with_new lines x new) ∙ length-append lines (x ∷ []) in omega (arith, full, more)) h

-- Lines only follow.

line_grown : (lines : List ℕ) (x : ℕ) → (rest : List ℕ) × (with_line lines x ≡ lines ++ rest)
line_grown lines x = by (is_new lines x)
  where
    by : (b : Bool) → (rest : List ℕ) × ((if b then lines ++ x ∷ [] else lines) ≡ lines ++ rest)
    by true = (x ∷ [], refl)
    by false = ([], sym (append-nil lines))

pub lines_grown : (lines xs : List ℕ) → (rest : List ℕ) × (with_lines lines xs ≡ lines ++ rest)
lines_grown lines [] = ([], sym (append-nil lines))
lines_grown lines (x ∷ xs) =
    let one = line_grown lines x in
    let all = lines_grown (with_line lines x) xs in
    (one.0 ++ all.0, all.1 ∙ ap (λ l. l ++ all.0) one.1 ∙ append_assoc lines one.0 all.0)

-- one line more was numbered
module _ (start lines now wires numbers : List ℕ) (j w n : ℕ) (at : slice_get wires j ≡ Some w) (added : now ≡ with_line lines w) where
  pub lines_next : lines ≡ with_lines start (take j wires) → now ≡ with_lines start (take (j + 1) wires)
  lines_next before = added ∙ ap (λ l. with_line l w) before ∙ sym (with_lines-append start (take j wires) (w ∷ [])) ∙ ap (with_lines start) (sym (take_next wires j w at))

  pub numbers_next : position (nat_eq w) now ≡ Some n → j < length numbers → ((more : List ℕ) → map (line_number (lines ++ more)) (take j wires) ≡ take j numbers)
      → (more : List ℕ) → map (line_number (now ++ more)) (take (j + 1) wires) ≡ take (j + 1) (set numbers j n)
  numbers_next number room before more =
      let grown = line_grown lines w in
      let same : now ++ more ≡ lines ++ (grown.0 ++ more) = ap (λ l. l ++ more) (added ∙ grown.1) ∙ append_assoc lines grown.0 more in
      map_take_next (line_number (now ++ more)) wires j w at
      ∙ ap (λ l. map (line_number l) (take j wires) ++ line_number (now ++ more) w ∷ []) same
      ∙ ap (λ l. l ++ line_number (now ++ more) w ∷ []) (before (grown.0 ++ more))
      ∙ ap (λ m. take j numbers ++ m ∷ []) (place_is (nat_eq w) (now ++ more) n (place_stays (nat_eq w) now more n number))
      ∙ sym (take_more_set numbers j n room)

-- too many lines stay too many
pub still_many : (start lines wires : List ℕ) (j w : ℕ) → slice_get wires j ≡ Some w → lines ≡ with_lines start (take j wires) → 12 < length (with_line lines w) → (rest : List ℕ) → wires ≡ take (j + 1) wires ++ rest
    → 12 < length (with_lines start wires)
still_many start lines wires j w at before many rest parts =
    let now = lines_next start lines (with_line lines w) wires [] j w 0 at refl before in
    let whole = ap length (ap (with_lines start) parts ∙ with_lines-append start (take (j + 1) wires) rest ∙ ap (λ l. with_lines l rest) (sym now)) in
    let more = grows (with_line lines w) rest in
    omega (arith, many, whole, more)

-- The lines of one BEL.

pub has-with_lines : (lines xs : List ℕ) (y : ℕ) → has (with_lines lines xs) y ≡ (has lines y || has xs y)
has-with_lines lines [] y = by (has lines y)
  where
    by : (b : Bool) → b ≡ (b || false)
    by true = refl
    by false = refl
has-with_lines lines (x ∷ xs) y = has-with_lines (with_line lines x) xs y ∙ ap (λ b. b || has xs y) (has-with_line lines x y) ∙ by (has lines y)
  where
    by : (b : Bool) → ((b || nat_eq y x) || has xs y) ≡ (b || (nat_eq y x || has xs y))
    by true = refl
    by false = refl

number_at : (lines : List ℕ) (x : ℕ) → has lines x ≡ true → slice_get lines (line_number lines x) ≡ Some x
number_at lines x h =
    let at = position-at (nat_eq x) lines (line_number lines x) place in
    at.1 ∙ ap Some (sym (eqb-true x at.0 at.2))
  where
    by : (b : Bool) → is_some (cond b (Some (line_number lines x)) None) ≡ true → cond b (Some (line_number lines x)) None ≡ Some (line_number lines x)
    by true e = refl
    by false e = absurd (true≢false (sym e))

    place : position (nat_eq x) lines ≡ Some (line_number lines x)
    place = by (nat_lt (line_number lines x) (length lines)) (is_some_position (nat_eq x) lines ∙ h)

number_within : (lines : List ℕ) (x : ℕ) → has lines x ≡ true → line_number lines x < length lines
number_within lines x h = slice_get_within lines (line_number lines x) x (number_at lines x h)

same_number : (lines : List ℕ) (x y : ℕ) → has lines x ≡ true → has lines y ≡ true → line_number lines x ≡ line_number lines y → x ≡ y
same_number lines x y hx hy e = same_Some x y (sym (number_at lines x hx) ∙ ap (slice_get lines) e ∙ number_at lines y hy)

has_own : (xs : List ℕ) (i : ℕ) → i < length xs → has xs (get_or xs i 0) ≡ true
has_own [] i within = absurd (let no : i < 0 = within in omega (arith, no))
has_own (x ∷ xs) zero within = ap (λ b. b || has xs x) (eq-eqb x x refl)
has_own (x ∷ xs) (suc i) within = by (nat_eq (get_or xs i 0) x) (has_own xs i (omega (arith, within)))
  where
    by : (b : Bool) → has xs (get_or xs i 0) ≡ true → (b || has xs (get_or xs i 0)) ≡ true
    by true h = refl
    by false h = h

all_differ : (xs : List ℕ) → differ xs ≡ true → AllDiffer xs
all_differ [] h a b before within e = omega (arith, before, within)
all_differ (x ∷ xs) h zero zero before within e = omega (arith, before)
all_differ (x ∷ xs) h zero (suc b) before within e =
    let known : has xs x ≡ true = ap (has xs) e ∙ has_own xs b (omega (arith, within)) in
    true≢false (sym (ap (λ t. not t && differ xs) (sym known) ∙ h))
all_differ (x ∷ xs) h (suc a) zero before within e = omega (arith, before)
all_differ (x ∷ xs) h (suc a) (suc b) before within e = all_differ xs (rest (is_new xs x) h) a b (omega (arith, before)) (omega (arith, within)) e
  where
    rest : (t : Bool) → (t && differ xs) ≡ true → differ xs ≡ true
    rest true g = g
    rest false g = absurd (true≢false (sym g))

-- The shape of a BEL whose inputs have these lines, which differ.
module _ (start lines wires : List ℕ) (shape : BelShape) (added : lines ≡ with_lines start wires) (own : differ wires ≡ true) (inputs : shape.inputs ≡ length wires)
    (numbers : (more : List ℕ) → map (line_number (lines ++ more)) wires ≡ take (length wires) shape.lines) where
  known : (j : ℕ) → j < length wires → has lines (get_or wires j 0) ≡ true
  known j within = ap (λ l. has l (get_or wires j 0)) added ∙ has-with_lines start wires (get_or wires j 0) ∙ by (has start (get_or wires j 0))
    where
      by : (b : Bool) → (b || has wires (get_or wires j 0)) ≡ true
      by true = refl
      by false = has_own wires j within

  here : map (line_number lines) wires ≡ take shape.inputs shape.lines
  here = ap (λ l. map (line_number l) wires) (sym (append-nil lines)) ∙ numbers [] ∙ ap (λ n. take n shape.lines) (sym inputs)

  number_of : (j : ℕ) → j < length wires → get_or (map (line_number lines) wires) j 0 ≡ line_number lines (get_or wires j 0)
  number_of j within = get_or-map (line_number lines) wires j 0 0 within

  pub usable_bel : shape.inputs ≤ 6 → shape.low + 2 ^ shape.inputs ≤ 64 → IsUsableBel (length lines) shape
  usable_bel few within = record {
    few = few;
    within = within;
    on_lines = λ j below.
        subst (λ n. n < length lines) (sym (number_of j (omega (arith, below, inputs))) ∙ ap (λ l. get_or l j 0) here ∙ get_or-take shape.inputs shape.lines j 0 below)
        (number_within lines (get_or wires j 0) (known j (omega (arith, below, inputs))));
    differ = subst AllDiffer here (λ a b before last e.
        let last' : b < length wires = omega (arith, last, length-map wires (line_number lines)) in
        let first : a < length wires = omega (arith, before, last') in
        all_differ wires own a b before last' (same_number lines (get_or wires a 0) (get_or wires b 0) (known a first) (known b last') (sym (number_of a first) ∙ e ∙ number_of b last')));
  }
