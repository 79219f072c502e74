-- Lists that are walked one after the other.
use Rattle.std.proofs.Common.{◌≡◌, ◌<◌, ◌≤◌, ◌+◌, ◌*◌, ◌%◌, ◌^◌, ◌∙◌, [], ◌∷◌, ℕ, List, Bool, true, false, length, drop, map, ap, sym, refl, subst, arith, length-append, inl, inr, ◌⊎◌}
use Rattle.std.specs.Prelude.{Some, Err, slice_get, ◌&&◌}
use Rattle.std.specs.List.{All, flat_map, AllByRecursion}
use Rattle.std.proofs.lemmas.List.{drop_more, drop_all, length-map}
use Rattle.std.proofs.lemmas.Option.{get_or_from_slice_get}
use Rattle.ix_message.specs.Shape.{Text}
use Rattle.ix_message.specs.Names.{first_uses}
use Rattle.ix_message.specs.Layout.{Section, objects, all_fit, element_objects, elements_fit, structs_laid, text_laid, texts_laid}
use Rattle.ix_message.proofs.Whole.{IsWide}
use Rattle.ix_capw.specs.Frame.{words_in}
use Rattle.ix_capw.specs.Growth.{with_object, too_long, blank_structs, blank_texts, IsSegment}
use Rattle.ix_capw.specs.declared.builder.BuildFault.{BuildFault}
use Rattle.ix_capw.specs.declared.builder.BuildFault.TheVariants.{TooLong, Memory}
use Rattle.ix_message_write.specs.declared.string_table.Strings.{Strings}
use Rattle.ix_message_write.specs.Table.{table_in, IsTableOf}
use Rattle.ix_message_write.specs.Growth.{with_objects, with_sections, NoRoom}
use Rattle.ix_message_write.specs.Says.{HasNoted, HasWritten, HasPut, Notes, Writes, Puts}
use Rattle.ix_message_write.proofs.FirstUses.{first_uses-append, first_uses-longer}
use Rattle.ix_message_write.proofs.Laid.{length-with_section, length-with_object, list_refused, elements_refused, list_fits, list_laid, whole_before, texts_refused, text_list_refused, texts_fit, whole_before_texts, texts_are_laid}

-- what is left of a list begins with the next item
pub left : {X : Type 0} (xs : List X) (i : ℕ) (x : X) → i < length xs → slice_get xs i ≡ Some x → drop i xs ≡ x ∷ drop (i + 1) xs
left {X} xs i x lt is = drop_more xs i x lt ∙ ap (λ (y : X). y ∷ drop (i + 1) xs) (get_or_from_slice_get xs i x x is)

-- ---- names are noted

pub record NotedSoFar {X : Type 0} (names : List Text) (use_of : X → List Text) (xs : List X) (i : ℕ) (first now : Strings) : Type 0 where
  pub texts : first_uses (table_in names now) (flat_map use_of (drop i xs)) ≡ first_uses (table_in names first) (flat_map use_of xs)
  pub table : IsTableOf names now

pub noted_turn : {X : Type 0} (names : List Text) (use_of : X → List Text) (xs : List X) (i : ℕ) (x : X) (first now after : Strings) → i < length xs → slice_get xs i ≡ Some x
    → NotedSoFar names use_of xs i first now → HasNoted names now after (use_of x) → NotedSoFar names use_of xs (i + 1) first after
noted_turn {X} names use_of xs i x first now after lt is so_far one =
    let rest = flat_map use_of (drop (i + 1) xs) in
    record {
      texts = ap (λ (t : List Text). first_uses t rest) one.texts ∙ sym (first_uses-append (table_in names now) (use_of x) rest)
          ∙ sym (ap (λ (l : List X). first_uses (table_in names now) (flat_map use_of l)) (left xs i x lt is)) ∙ so_far.texts;
      table = one.table;
    }

pub noted_too_many : {X : Type 0} (names : List Text) (use_of : X → List Text) (xs : List X) (i : ℕ) (x : X) (first now : Strings) → i < length xs → slice_get xs i ≡ Some x
    → NotedSoFar names use_of xs i first now → 2 ^ 27 ≤ length (first_uses (table_in names now) (use_of x)) → 2 ^ 27 ≤ length (first_uses (table_in names first) (flat_map use_of xs))
noted_too_many {X} names use_of xs i x first now lt is so_far many =
    let rest = flat_map use_of (drop (i + 1) xs) in
    let whole : first_uses (first_uses (table_in names now) (use_of x)) rest ≡ first_uses (table_in names first) (flat_map use_of xs) =
    sym (first_uses-append (table_in names now) (use_of x) rest) ∙ sym (ap (λ (l : List X). first_uses (table_in names now) (flat_map use_of l)) (left xs i x lt is)) ∙ so_far.texts in
    omega (arith, ap length whole, first_uses-longer (first_uses (table_in names now) (use_of x)) rest)

pub noted_all : {X : Type 0} (names : List Text) (use_of : X → List Text) (xs : List X) (i : ℕ) (first now : Strings) → length xs ≤ i
    → NotedSoFar names use_of xs i first now → HasNoted names first now (flat_map use_of xs)
unfolding first_uses
noted_all {X} names use_of xs i first now le so_far = record {
  texts = sym (ap (λ (l : List X). first_uses (table_in names now) (flat_map use_of l)) (drop_all i xs le)) ∙ so_far.texts;
  table = so_far.table;
}

-- ---- structs are written

pub record WrittenSoFar {X : Type 0} (start size : ℕ) (section : X → Section) (xs : List X) (i : ℕ) (first now : List ℕ) : Type 0 where
  pub made : with_sections (start + i * size) size (map section (drop i xs)) now ≡ with_sections start size (map section xs) first
  pub long : length now + length (element_objects (map section (drop i xs))) ≡ length first + length (element_objects (map section xs))
  pub fits : elements_fit (map section xs) ≡ elements_fit (map section (drop i xs))
  pub grown : length first ≤ length now
  pub segment : IsSegment now

pub written_turn : {X : Type 0} (d n start : ℕ) (section : X → Section) (xs : List X) (i : ℕ) (x : X) (first now after : List ℕ) → IsWide d n (section x) → i < length xs → slice_get xs i ≡ Some x
    → 8 * (start + i * (d + n) + d + n) ≤ length first → WrittenSoFar start (d + n) section xs i first now → HasWritten (start + i * (d + n)) (section x) now after
    → WrittenSoFar start (d + n) section xs (i + 1) first after
written_turn {X} d n start section xs i x first now after wide lt is inside so_far one =
    let p = start + i * (d + n) in
    let rest = map section (drop (i + 1) xs) in
    let here = left xs i x lt is in
    let next : start + (i + 1) * (d + n) ≡ p + (d + n) = omega arith in
    let long : length after ≡ length now + length (objects (section x).behind) = ap length one.made ∙ length-with_section p d n (section x) now wide (omega (arith, so_far.grown)) in
    let split : length (element_objects (map section (drop i xs))) ≡ length (objects (section x).behind) + length (element_objects rest) =
    ap (λ (l : List X). length (element_objects (map section l))) here ∙ length-append (objects (section x).behind) (element_objects rest) in
    record {
      made = ap (λ (k : ℕ). with_sections k (d + n) rest after) next ∙ ap (with_sections (p + (d + n)) (d + n) rest) one.made
          ∙ sym (ap (λ (l : List X). with_sections p (d + n) (map section l) now) here) ∙ so_far.made;
      long = omega (arith, long, split, so_far.long);
      fits = so_far.fits ∙ ap (λ (l : List X). elements_fit (map section l)) here ∙ ap (λ (b : Bool). b && elements_fit rest) one.fits;
      grown = omega (arith, long, so_far.grown);
      segment = one.segment;
    }

-- the list's objects are too long, where those of an element are
abbrev pub AreTooLong : List Section → List ℕ → Type 0
AreTooLong es segment = (2 ^ 30 ≤ length segment + length (element_objects es)) ⊎ (elements_fit es ≡ false)

pub element_refused : {X : Type 0} (start size : ℕ) (section : X → Section) (xs : List X) (i : ℕ) (x : X) (first now : List ℕ) → i < length xs → slice_get xs i ≡ Some x
    → WrittenSoFar start size section xs i first now → NoRoom (section x).behind now → AreTooLong (map section xs) first
element_refused {X} start size section xs i x first now lt is so_far (inl many) =
    let rest = map section (drop (i + 1) xs) in
    let split : length (element_objects (map section (drop i xs))) ≡ length (objects (section x).behind) + length (element_objects rest) =
    ap (λ (l : List X). length (element_objects (map section l))) (left xs i x lt is) ∙ length-append (objects (section x).behind) (element_objects rest) in
    inl (omega (arith, split, so_far.long))
element_refused {X} start size section xs i x first now lt is so_far (inr unfit) =
    let rest = map section (drop (i + 1) xs) in
    inr (so_far.fits ∙ ap (λ (l : List X). elements_fit (map section l)) (left xs i x lt is) ∙ ap (λ (b : Bool). b && elements_fit rest) unfit)

pub written_all : {X : Type 0} (start size : ℕ) (section : X → Section) (xs : List X) (i : ℕ) (first now : List ℕ) → length xs ≤ i
    → WrittenSoFar start size section xs i first now → (now ≡ with_sections start size (map section xs) first) × (elements_fit (map section xs) ≡ true)
written_all {X} start size section xs i first now le so_far =
    let none = drop_all i xs le in (
      sym (ap (λ (l : List X). with_sections (start + i * size) size (map section l) now) none) ∙ so_far.made,
      so_far.fits ∙ ap (λ (l : List X). elements_fit (map section l)) none,
    )

-- ---- texts are written

pub record TextsSoFar (start : ℕ) (ts : List Text) (i : ℕ) (first now : List ℕ) : Type 0 where
  pub made : with_objects (start + i) (map text_laid (drop i ts)) now ≡ with_objects start (map text_laid ts) first
  pub long : length now + length (objects (map text_laid (drop i ts))) ≡ length first + length (objects (map text_laid ts))
  pub fits : all_fit (map text_laid ts) ≡ all_fit (map text_laid (drop i ts))
  pub grown : length first ≤ length now
  pub segment : IsSegment now

pub text_turn : (start : ℕ) (ts : List Text) (i : ℕ) (t : Text) (first now after : List ℕ) → i < length ts → slice_get ts i ≡ Some t
    → 8 * (start + i + 1) ≤ length first → TextsSoFar start ts i first now → HasPut (start + i) (text_laid t) now after → TextsSoFar start ts (i + 1) first after
text_turn start ts i t first now after lt is inside so_far one =
    let rest = map text_laid (drop (i + 1) ts) in
    let here = left ts i t lt is in
    let long : length after ≡ length now + length (text_laid t).object = ap length one.made ∙ length-with_object (start + i) (text_laid t) now (omega (arith, so_far.grown)) in
    let split : length (objects (map text_laid (drop i ts))) ≡ length (text_laid t).object + length (objects rest) =
    ap (λ (l : List Text). length (objects (map text_laid l))) here ∙ length-append (text_laid t).object (objects rest) in
    let next : start + (i + 1) ≡ start + i + 1 = omega arith in
    record {
      made = ap (λ (k : ℕ). with_objects k rest after) next ∙ ap (with_objects (start + i + 1) rest) one.made
          ∙ sym (ap (λ (l : List Text). with_objects (start + i) (map text_laid l) now) here) ∙ so_far.made;
      long = omega (arith, long, split, so_far.long);
      fits = so_far.fits ∙ ap (λ (l : List Text). all_fit (map text_laid l)) here ∙ ap (λ (b : Bool). b && all_fit rest) one.fits;
      grown = omega (arith, long, so_far.grown);
      segment = one.segment;
    }

pub text_refused : (start : ℕ) (ts : List Text) (i : ℕ) (t : Text) (first now : List ℕ) → i < length ts → slice_get ts i ≡ Some t
    → TextsSoFar start ts i first now → NoRoom (text_laid t ∷ []) now → NoRoom (map text_laid ts) first
text_refused start ts i t first now lt is so_far (inl many) =
    let rest = map text_laid (drop (i + 1) ts) in
    let split : length (objects (map text_laid (drop i ts))) ≡ length (text_laid t).object + length (objects rest) =
    ap (λ (l : List Text). length (objects (map text_laid l))) (left ts i t lt is) ∙ length-append (text_laid t).object (objects rest) in
    inl (omega (arith, split, so_far.long, length-append (text_laid t).object []))
text_refused start ts i t first now lt is so_far (inr unfit) =
    let rest = map text_laid (drop (i + 1) ts) in
    inr (so_far.fits ∙ ap (λ (l : List Text). all_fit (map text_laid l)) (left ts i t lt is) ∙ go (text_laid t).fits unfit (all_fit rest))
  where
    go : (b : Bool) → (b && true) ≡ false → (c : Bool) → (b && c) ≡ false
    go true e c = absurd cc
    go false e c = refl

pub texts_all : (start : ℕ) (ts : List Text) (i : ℕ) (first now : List ℕ) → length ts ≤ i
    → TextsSoFar start ts i first now → (now ≡ with_objects start (map text_laid ts) first) × (all_fit (map text_laid ts) ≡ true)
texts_all start ts i first now le so_far =
    let none = drop_all i ts le in (
      sym (ap (λ (l : List Text). with_objects (start + i) (map text_laid l) now) none) ∙ so_far.made,
      so_far.fits ∙ ap (λ (l : List Text). all_fit (map text_laid l)) none,
    )

-- ---- maps

pub map_twice : {A B C : Type 0} (f : B → C) (g : A → B) (xs : List A) → map f (map g xs) ≡ map (λ x. f (g x)) xs
map_twice f g [] = refl
map_twice f g (x ∷ xs) = ap (λ l. f (g x) ∷ l) (map_twice f g xs)

pub all_of : {X : Type 0} (section : X → Section) (d n : ℕ) → ((x : X) → IsWide d n (section x)) → (xs : List X) → AllByRecursion (IsWide d n) (map section xs)
all_of section d n wide [] = tt
all_of section d n wide (x ∷ xs) = (wide x, all_of section d n wide xs)

pub map_thrice : {A B C D : Type 0} (f : C → D) (g : B → C) (h : A → B) (xs : List A) → map f (map g (map h xs)) ≡ map (λ x. f (g (h x))) xs
map_thrice {A} {B} {C} {D} f g h xs = ap (map f) (map_twice g h xs) ∙ map_twice f (λ (x : A). g (h x)) xs

pub all_at : {X : Type 0} (P : X → Type 0) (xs : List X) (i : ℕ) (x : X) → All P xs → i < length xs → slice_get xs i ≡ Some x → P x
all_at P xs i x all lt is = subst P (get_or_from_slice_get xs i x x is) (all i x lt)

-- ---- refusals

pub note_stops : {X : Type 0} (names : List Text) (use_of : X → List Text) (xs : List X) (i : ℕ) (x : X) (first now after : Strings) (f : BuildFault) → i < length xs → slice_get xs i ≡ Some x
    → NotedSoFar names use_of xs i first now → Notes {X = Unit {0}} names now after (use_of x) (Err f) → Notes {X = Unit {0}} names first after (flat_map use_of xs) (Err f)
note_stops names use_of xs i x first now after TooLong lt is so_far many = noted_too_many names use_of xs i x first now lt is so_far many
note_stops names use_of xs i x first now after Memory lt is so_far h = tt

pub list_stops : (d n q : ℕ) (es : List Section) (S after : List ℕ) (f : BuildFault) → AllByRecursion (IsWide d n) es → (f ≡ TooLong → too_long (blank_structs (length es) d n) S ≡ true)
    → Puts {X = Unit {0}} q (structs_laid es) S after (Err f)
list_stops d n q es S after TooLong wide long = list_refused d n es S wide (long refl)
list_stops d n q es S after Memory wide long = tt

pub element_stops : {X : Type 0} (d n q start k : ℕ) (section : X → Section) (xs : List X) (i : ℕ) (x : X) (S first now after : List ℕ) (f : BuildFault) → k ≡ length xs → ((x : X) → IsWide d n (section x))
    → 8 * (q + 1) ≤ length S → too_long (blank_structs k d n) S ≡ false → first ≡ with_object q (blank_structs k d n) S → i < length xs → slice_get xs i ≡ Some x
    → WrittenSoFar start (d + n) section xs i first now → Writes {X = Unit {0}} (start + i * (d + n)) (section x) now after (Err f) → Puts {X = Unit {0}} q (structs_laid (map section xs)) S after (Err f)
element_stops {X} d n q start k section xs i x S first now after TooLong count wide inside short made lt is so_far refused =
    let es = map section xs in
    let same : k ≡ length es = count ∙ sym (length-map xs section) in
    let short2 : too_long (blank_structs (length es) d n) S ≡ false = ap (λ (m : ℕ). too_long (blank_structs m d n) S) (sym same) ∙ short in
    let made2 : first ≡ with_object q (blank_structs (length es) d n) S = made ∙ ap (λ (m : ℕ). with_object q (blank_structs m d n) S) same in
    elements_refused d n q es S (all_of section d n wide xs) inside short2 (subst (λ (t : List ℕ). AreTooLong es t) made2 (element_refused start (d + n) section xs i x first now lt is so_far refused))
element_stops d n q start k section xs i x S first now after Memory count wide inside short made lt is so_far refused = tt

pub list_done : {X : Type 0} (d n q k : ℕ) (section : X → Section) (xs : List X) (i : ℕ) (S first now : List ℕ) → k ≡ length xs → ((x : X) → IsWide d n (section x))
    → 8 * (q + 1) ≤ length S → too_long (blank_structs k d n) S ≡ false → first ≡ with_object q (blank_structs k d n) S → length first % 8 ≡ 0 → k ≤ i
    → WrittenSoFar (words_in S + 1) (d + n) section xs i first now → HasPut q (structs_laid (map section xs)) S now
list_done {X} d n q k section xs i S first now count wide inside short made whole done so_far =
    let es = map section xs in
    let same : k ≡ length es = count ∙ sym (length-map xs section) in
    let short2 : too_long (blank_structs (length es) d n) S ≡ false = ap (λ (m : ℕ). too_long (blank_structs m d n) S) (sym same) ∙ short in
    let made2 : first ≡ with_object q (blank_structs (length es) d n) S = made ∙ ap (λ (m : ℕ). with_object q (blank_structs m d n) S) same in
    let all = written_all (words_in S + 1) (d + n) section xs i first now (omega arith) so_far in
    record {
      made = all.0 ∙ ap (with_sections (words_in S + 1) (d + n) es) made2 ∙ list_laid d n q es S (all_of section d n wide xs) (whole_before d n q k S first made inside whole) inside;
      fits = list_fits d n es S short2 all.1;
      segment = so_far.segment;
    }

pub written_none : {X : Type 0} (start size : ℕ) (section : X → Section) (xs : List X) (first : List ℕ) → IsSegment first → WrittenSoFar start size section xs 0 first first
written_none start size section xs first segment =
    record { made = (let e : start + 0 * size ≡ start = omega arith in ap (λ (k : ℕ). with_sections k size (map section xs) first) e); long = refl; fits = refl; grown = omega arith; segment = segment }

pub same_blank : (a a' b b' c c' : ℕ) → a ≡ a' → b ≡ b' → c ≡ c' → blank_structs a b c ≡ blank_structs a' b' c'
same_blank a a' b b' c c' x y z = ap (λ (k : ℕ). blank_structs k b c) x ∙ ap (λ (k : ℕ). blank_structs a' k c) y ∙ ap (λ (k : ℕ). blank_structs a' b' k) z

pub not_true : (b : Bool) → (b ≡ true → ⊥) → b ≡ false
not_true true h = absurd (h refl)
not_true false h = refl

-- ---- the string table

pub texts_none : (start : ℕ) (ts : List Text) (first : List ℕ) → IsSegment first → TextsSoFar start ts 0 first first
texts_none start ts first segment =
    record { made = (let e : start + 0 ≡ start = omega arith in ap (λ (k : ℕ). with_objects k (map text_laid ts) first) e); long = refl; fits = refl; grown = omega arith; segment = segment }

pub texts_stop : (q : ℕ) (ts : List Text) (S after : List ℕ) (f : BuildFault) → (f ≡ TooLong → too_long (blank_texts (length ts)) S ≡ true) → Puts {X = Unit {0}} q (texts_laid ts) S after (Err f)
texts_stop q ts S after TooLong long = texts_refused ts S (long refl)
texts_stop q ts S after Memory long = tt

pub text_stops : (q start : ℕ) (ts : List Text) (i : ℕ) (t : Text) (S first now after : List ℕ) (f : BuildFault) → 8 * (q + 1) ≤ length S → first ≡ with_object q (blank_texts (length ts)) S
    → i < length ts → slice_get ts i ≡ Some t → TextsSoFar start ts i first now → Puts {X = Unit {0}} (start + i) (text_laid t) now after (Err f) → Puts {X = Unit {0}} q (texts_laid ts) S after (Err f)
text_stops q start ts i t S first now after TooLong inside made lt is so_far refused =
    text_list_refused q ts S inside (subst (λ (s : List ℕ). NoRoom (map text_laid ts) s) made (text_refused start ts i t first now lt is so_far refused))
text_stops q start ts i t S first now after Memory inside made lt is so_far refused = tt

pub texts_done : (q : ℕ) (ts : List Text) (i : ℕ) (S first now : List ℕ) → 8 * (q + 1) ≤ length S → first ≡ with_object q (blank_texts (length ts)) S → length first % 8 ≡ 0 → length ts ≤ i
    → TextsSoFar (words_in S) ts i first now → HasPut q (texts_laid ts) S now
texts_done q ts i S first now inside made whole done so_far =
    let all = texts_all (words_in S) ts i first now done so_far in
    record {
      made = all.0 ∙ ap (with_objects (words_in S) (map text_laid ts)) made ∙ texts_are_laid q ts S (whole_before_texts q (length ts) S first made inside whole) inside;
      fits = texts_fit ts all.1;
      segment = so_far.segment;
    }
