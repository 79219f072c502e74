-- Walking the table of a file's segments.
use Rattle.std.proofs.Common.{◌≡◌, ℕ, zero, suc, ◌/◌, map, ◌+◌, ◌-◌, ◌*◌, ◌^◌, ◌<◌, ◌≤◌, List, [], ◌∷◌, length, sum, take, drop, get_or, refl, sym, ap, ◌∙◌, arith}
use Rattle.std.proofs.lemmas.List.Sums.{sum_by-cons}
use Rattle.std.proofs.lemmas.List.{length-drop, length-take, drop-drop}
use Rattle.byteorder.specs.Endian.{little_number}
use Rattle.ix_frame.specs.Segments.{numbers_of_four, cut, cut_out, segment_count, segment_words, table_length, IsFrame, IsSegment}
use Rattle.ix_frame.specs.Objects.{whole_budget}

-- the numbers that are left at place i
pub numbers_from : (count i : ℕ) (rest : List ℕ) → i < count → numbers_of_four (count - i) rest ≡ little_number 4 rest ∷ numbers_of_four (count - (i + 1)) (drop 4 rest)
unfolding numbers_of_four
numbers_from count i rest lt = let k : count - i ≡ suc (count - (i + 1)) = omega arith in rw k refl

pub sum_from : (count i : ℕ) (rest : List ℕ) → i < count → sum (numbers_of_four (count - i) rest) ≡ little_number 4 rest + sum (numbers_of_four (count - (i + 1)) (drop 4 rest))
sum_from count i rest lt = ap (λ (ns : List ℕ). sum ns) (numbers_from count i rest lt) ∙ sum_by-cons (λ x. x) (little_number 4 rest) (numbers_of_four (count - (i + 1)) (drop 4 rest))

pub sum_none : (count i : ℕ) (rest : List ℕ) → count ≤ i → sum (numbers_of_four (count - i) rest) ≡ 0
unfolding numbers_of_four
sum_none count i rest le = let k : count - i ≡ 0 = omega arith in rw k refl

-- the words so far and those of the numbers that are left are all
pub record IsSummed (table : List ℕ) (count i words : ℕ) (rest : List ℕ) : Type 0 where
  pub room : 4 * (count - i) ≤ length rest
  pub below : words ≤ i * 2 ^ 32
  pub so_far : words + sum (numbers_of_four (count - i) rest) ≡ sum (numbers_of_four count table)

-- the part that is sought is the one at number - i of those that are left
pub record IsAhead (table bytes : List ℕ) (count number i : ℕ) (ahead rest : List ℕ) : Type 0 where
  pub room : 4 * (count - i) ≤ length ahead
  pub inside : 8 * sum (numbers_of_four (count - i) ahead) ≤ length rest
  pub short : length rest ≤ length bytes
  pub same : get_or (cut (numbers_of_four (count - i) ahead) rest) (number - i) [] ≡ get_or (cut (numbers_of_four count table) bytes) number []

first_room : (count i : ℕ) (rest : List ℕ) → i < count → 4 * (count - i) ≤ length rest → 4 * (count - (i + 1)) ≤ length (drop 4 rest)
first_room count i rest lt h = omega (arith, length-drop 4 rest)

pub cut_from : (count i : ℕ) (ahead rest : List ℕ) → i < count → cut (numbers_of_four (count - i) ahead) rest ≡ take (8 * little_number 4 ahead) rest ∷ cut (numbers_of_four (count - (i + 1)) (drop 4 ahead)) (drop (8 * little_number 4 ahead) rest)
unfolding cut
cut_from count i ahead rest lt = rw (numbers_from count i ahead lt) refl

pub ahead_next : (table bytes : List ℕ) (count number i : ℕ) (ahead rest : List ℕ) (words : ℕ) (ahead' rest' : List ℕ) → i < number → number < count → words ≡ little_number 4 ahead → ahead' ≡ drop 4 ahead → rest' ≡ drop (8 * words) rest
    → IsAhead table bytes count number i ahead rest → IsAhead table bytes count number (i + 1) ahead' rest'
ahead_next table bytes count number i ahead rest words ahead' rest' lt there w a r h =
    let lt2 : i < count = omega arith in
    let k : number - i ≡ suc (number - (i + 1)) = omega arith in
    let e = cut_from count i ahead rest lt2 in
    let r' : rest' ≡ drop (8 * little_number 4 ahead) rest = r ∙ ap (λ (n : ℕ). drop (8 * n) rest) w in
    let step : get_or (cut (numbers_of_four (count - i) ahead) rest) (number - i) [] ≡ get_or (cut (numbers_of_four (count - (i + 1)) (drop 4 ahead)) (drop (8 * little_number 4 ahead) rest)) (number - (i + 1)) [] = rw (e, k) refl in
    rw (a, r') (record {
      room = first_room count i ahead lt2 h.room;
      inside = omega (arith, h.inside, sum_from count i ahead lt2, length-drop (8 * little_number 4 ahead) rest);
      short = omega (arith, h.short, length-drop (8 * little_number 4 ahead) rest);
      same = sym step ∙ h.same;
    })

pub head_room : (table bytes : List ℕ) (count number i : ℕ) (ahead rest : List ℕ) (words : ℕ) → i < count → words ≡ little_number 4 ahead → IsAhead table bytes count number i ahead rest → 8 * words ≤ length rest
head_room table bytes count number i ahead rest words lt w h = rw w (omega (arith, h.inside, sum_from count i ahead lt))

pub ahead_first : (table bytes : List ℕ) (count number : ℕ) → 4 * count ≤ length table → 8 * sum (numbers_of_four count table) ≤ length bytes → IsAhead table bytes count number 0 table bytes
ahead_first table bytes count number room inside =
    let a : count - 0 ≡ count = omega arith in
    let b : number - 0 ≡ number = omega arith in
    record { room = rw a room; inside = rw a inside; short = omega arith; same = rw (a, b) refl }

pub ahead_last : (table bytes : List ℕ) (count number i : ℕ) (ahead rest : List ℕ) (words : ℕ) (found : List ℕ) → i ≡ number → number < count → words ≡ little_number 4 ahead → found ≡ take (8 * words) rest → IsAhead table bytes count number i ahead rest
    → found ≡ get_or (cut (numbers_of_four count table) bytes) number []
ahead_last table bytes count number i ahead rest words found e there w f h =
    let lt2 : i < count = omega arith in
    let k : number - i ≡ 0 = omega arith in
    let step : get_or (cut (numbers_of_four (count - i) ahead) rest) (number - i) [] ≡ take (8 * little_number 4 ahead) rest = rw (cut_from count i ahead rest lt2, k) refl in
    f ∙ ap (λ (n : ℕ). take (8 * n) rest) w ∙ sym step ∙ h.same

pub summed_first : (table : List ℕ) (count : ℕ) → 4 * count ≤ length table → IsSummed table count 0 0 table
summed_first table count room =
    let a : count - 0 ≡ count = omega arith in
    record { room = rw a room; below = omega arith; so_far = rw a (omega arith) }

pub summed_next : (table : List ℕ) (count i words : ℕ) (rest : List ℕ) (n : ℕ) (rest' : List ℕ) → i < count → n < 2 ^ 32 → n ≡ little_number 4 rest → rest' ≡ drop 4 rest → IsSummed table count i words rest
    → IsSummed table count (i + 1) (words + n) rest'
summed_next table count i words rest n rest' lt fits e r h = rw r (record {
  room = first_room count i rest lt h.room;
  below = omega (arith, h.below);
  so_far = omega (arith, h.so_far, sum_from count i rest lt, e);
})

pub summed_last : (table : List ℕ) (count i words : ℕ) (rest : List ℕ) → count ≤ i → IsSummed table count i words rest → words ≡ sum (numbers_of_four count table)
summed_last table count i words rest le h = omega (arith, h.so_far, sum_none count i rest le)

-- ---- the parts of a file

pub length-numbers_of_four : (n : ℕ) (bytes : List ℕ) → length (numbers_of_four n bytes) ≡ n
unfolding numbers_of_four
length-numbers_of_four zero bytes = refl
length-numbers_of_four (suc n) bytes = ap suc (length-numbers_of_four n (drop 4 bytes))

length-cut : (ns bytes : List ℕ) → length (cut ns bytes) ≡ length ns
unfolding cut
length-cut [] bytes = refl
length-cut (n ∷ ns) bytes = ap suc (length-cut ns (drop (8 * n) bytes))

pub length-cut_out : (bytes : List ℕ) → length (cut_out bytes) ≡ segment_count bytes
unfolding cut_out
length-cut_out bytes = length-cut (segment_words bytes) (drop (table_length (segment_count bytes)) bytes) ∙ length-numbers_of_four (segment_count bytes) (drop 4 bytes)

words-cut : (ns bytes : List ℕ) → 8 * sum ns ≤ length bytes → sum (map length (cut ns bytes)) ≡ 8 * sum ns
unfolding cut
words-cut [] bytes h = refl
words-cut (n ∷ ns) bytes h =
    let all = sum_by-cons (λ x. x) n ns in
    let rest = words-cut ns (drop (8 * n) bytes) (omega (arith, all, h, length-drop (8 * n) bytes)) in
    sum_by-cons (λ x. x) (length (take (8 * n) bytes)) (map length (cut ns (drop (8 * n) bytes)))
    ∙ omega (arith, all, rest, h, length-take (8 * n) bytes)

pub words-cut_out : (bytes : List ℕ) → IsFrame bytes → sum (map length (cut_out bytes)) ≡ length bytes - table_length (segment_count bytes)
unfolding cut_out
words-cut_out bytes h =
    let table = table_length (segment_count bytes) in
    let room : 8 * sum (segment_words bytes) ≤ length (drop table bytes) = omega (arith, h.whole, length-drop table bytes) in
    words-cut (segment_words bytes) (drop table bytes) room ∙ omega (arith, h.whole)

pub budget_of : (bytes : List ℕ) (n : ℕ) → IsFrame bytes → n ≡ little_number 4 bytes → 2 * ((length bytes - 8 * ((n + 1) / 2 + 1)) / 8) + 64 ≡ whole_budget (cut_out bytes)
budget_of bytes n h e = rw (e, words-cut_out bytes h) refl

pub budget_short : (bytes n : ℕ) → bytes ≤ 2 ^ 30 → 2 * ((bytes - 8 * ((n + 1) / 2 + 1)) / 8) + 64 ≤ 2 ^ 28 + 64
budget_short bytes n h = omega arith

pub past_all : (bytes : List ℕ) (last number : ℕ) → last ≡ little_number 4 bytes → last < number → length (cut_out bytes) ≤ number
past_all bytes last number e lt = rw (length-cut_out bytes, ← e) (omega arith)

pub is_segment : (bytes : List ℕ) (last number : ℕ) (table rest found : List ℕ) → IsFrame bytes → last ≡ little_number 4 bytes → number ≤ last → table ≡ drop 4 bytes → rest ≡ drop (8 * ((last + 1) / 2 + 1)) bytes
    → found ≡ get_or (cut (numbers_of_four (last + 1) table) rest) number [] → length found ≤ length rest → IsSegment bytes number found
unfolding cut_out
is_segment bytes last number table rest found h e le t r f short =
    let behind : rest ≡ drop (table_length (segment_count bytes)) bytes = r ∙ ap (λ (n : ℕ). drop (table_length (n + 1)) bytes) e in
    record {
      there = omega (arith, length-cut_out bytes);
      is = f ∙ ap (λ (n : ℕ). get_or (cut (numbers_of_four (n + 1) table) rest) number []) e
          ∙ ap (λ (xs : List ℕ). get_or (cut (numbers_of_four (segment_count bytes) xs) rest) number []) t
          ∙ ap (λ (xs : List ℕ). get_or (cut (segment_words bytes) xs) number []) behind;
      short = omega (arith, h.short, ap (λ (xs : List ℕ). length xs) r, length-drop (8 * ((last + 1) / 2 + 1)) bytes);
    }

-- ---- a list of numbers

pub below_count : (n i : ℕ) (bytes : List ℕ) → i < length (numbers_of_four n bytes) → i < n
below_count n i bytes h = rw length-numbers_of_four at h

get_or-numbers_of_four : (n i : ℕ) (bytes : List ℕ) → i < n → get_or (numbers_of_four n bytes) i 0 ≡ little_number 4 (drop (4 * i) bytes)
unfolding numbers_of_four
get_or-numbers_of_four zero i bytes lt = absurd (omega arith)
get_or-numbers_of_four (suc n) zero bytes lt = refl
get_or-numbers_of_four (suc n) (suc i) bytes lt =
    let k : 4 + 4 * i ≡ 4 * suc i = omega arith in
    get_or-numbers_of_four n i (drop 4 bytes) (omega arith)
    ∙ ap (λ (xs : List ℕ). little_number 4 xs) (drop-drop (4 * i) 4 bytes ∙ ap (λ (m : ℕ). drop m bytes) k)

pub number_is : (segment bytes rest : List ℕ) (start count i n : ℕ) → bytes ≡ segment → rest ≡ drop (8 * start + 4 * i) bytes → n ≡ little_number 4 rest → i < length (numbers_of_four count (drop (8 * start) segment))
    → n ≡ get_or (numbers_of_four count (drop (8 * start) segment)) i 0
number_is segment bytes rest start count i n b r e lt =
    e ∙ ap (λ (xs : List ℕ). little_number 4 xs) (r ∙ ap (λ (xs : List ℕ). drop (8 * start + 4 * i) xs) b ∙ sym (drop-drop (4 * i) (8 * start) segment))
    ∙ sym (get_or-numbers_of_four count i (drop (8 * start) segment) (below_count count i (drop (8 * start) segment) lt))
