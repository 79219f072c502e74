-- No list of a reading is longer than its file allows: a list of structs or texts costs no less than its entries, and a
-- list of numbers lies in its segment.
use Rattle.std.proofs.Common.{◌≡◌, ◌≤◌, ◌+◌, ◌*◌, ◌^◌, ℕ, zero, suc, List, [], ◌∷◌, length, map, drop, Result, Ok, Err, refl, ap, arith}
use Rattle.std.specs.Prelude.{Option, Some, None, IfOk, if◌then◌else◌, nat_le, nat_lt, ◌==◌}
use Rattle.std.specs.List.{AllByRecursion}
use Rattle.std.proofs.lemmas.Bool.{leb-true}
use Rattle.std.proofs.lemmas.List.{length-map, length-take, length-drop}
use Rattle.ix_frame.specs.Result.{◌>>=◌, unless}
use Rattle.ix_frame.specs.Segments.{Segments, word_at, segment_at, segment_words, segment_count, table_length, has_words, cut, cut_out}
use Rattle.ix_frame.specs.Target.{Pointed, Object, Elements, target, placed, struct_target, list_target, composite_target, list_words, kind_of, element_size_of, element_count_of, offset_of, data_words_of, pointer_words_of}
use Rattle.ix_frame.specs.Objects.{charged, plain_cost, composite_cost, struct_found, struct_behind, elements_found, elements_behind, list_found, list_behind, struct_at, elements_at, list_at, text_at, text_in, has_pointer, element_of, root_of, whole_budget}
use Rattle.ix_frame.specs.declared.frame.Frame.{Frame}
use Rattle.ix_frame.specs.Views.{segments_of}
use Rattle.ix_frame.proofs.Parts.{length-numbers_of_four}
use Rattle.ix_message.specs.Device.{device}
use Rattle.ix_message.specs.Message.{numbers_in_segments}
use Rattle.ix_message.specs.Names.{Datum, record_of, parts_of, datum_of, data_of, option_with, branches_map}
use Rattle.ix_message.specs.Records.{IfThere}
use Rattle.ix_message.specs.Shape.{Text, Struct, Pointers, Branches, Value, Parts, struct_of, no_more, text, texts, numbers, struct, struct_or_none, boxed, structs, branches, string_table, unread, ends, branch}
use Rattle.ix_message.specs.Reading.{Reads, each_from, texts_from, texts_at, branches_from, some_of, value_at, parts_at, root_at, table_slot, pointers_of}
use Rattle.ix_device_read.specs.Long.{ListsWithin, PartListsWithin}
use Rattle.ix_device_read.specs.Loose.{paid_text}
use Rattle.ix_device_read.specs.Premises.{branches_in}
use Rattle.ix_device_read.proofs.Bound.{both, and_then, and_next, weaker, when_blamed, by_test, charged_left, struct_at_left, struct_behind_left, elements_at_left, list_at_left, text_at_left, text_behind_left, branches_left}

-- The segments are short, as those of a file of 2^30 bytes are.
pub record IsShort (all : Segments) : Type 0 where
  pub short : (s : ℕ) → length (segment_at all s) ≤ 2 ^ 30

both_ok : {A E : Type 0} (P Q : A → Type 0) (r : Result A E) → IfOk r P → IfOk r Q → IfOk r (λ x. P x × Q x)
both_ok P Q (Ok x) h k = (h, k)
both_ok P Q (Err e) h k = tt

-- Objects that are found stand in the segments that were searched.

struct_in : (all : Segments) (budget : ℕ) (p : Option Pointed) → IsShort all → IfOk (struct_found all budget p) (λ x. IsShort x.0.segments)
unfolding struct_found struct_target
struct_in all budget None short = short
struct_in all budget (Some p) short =
    let P : (Object × ℕ) → Type 0 = λ x. IsShort x.0.segments in
    and_then P P (struct_target all p) _
    (and_next P (unless (kind_of p.described == 0) _) _ (λ fitting. and_next P (placed all p (data_words_of p.described + pointer_words_of p.described)) _ (λ start. short)))
    (λ found h. and_next P (charged (plain_cost found.1) budget) _ (λ left. h))

struct_short : (o : Object) (slot budget : ℕ) → IsShort o.segments → IfOk (struct_at o slot budget) (λ x. IsShort x.0.segments × (x.1 ≤ budget))
unfolding struct_at struct_behind
struct_short o slot budget short =
    let P : (Object × ℕ) → Type 0 = λ x. IsShort x.0.segments in
    both_ok P (λ x. x.1 ≤ budget) (struct_at o slot budget)
    (by_test P (nat_lt slot o.pointer_words) _ _ (λ e. when_blamed P _ _ _ (and_next P (target o.segments o.segment _) _ (λ p. struct_in o.segments budget p short))) (λ e. short))
    (struct_at_left o slot budget)

elements_in : (all : Segments) (budget : ℕ) (p : Option Pointed) → IsShort all → IfOk (elements_found all budget p) (λ x. IsShort x.0.first.segments)
unfolding elements_found composite_target
elements_in all budget None short = short
elements_in all budget (Some p) short =
    let P : (Elements × ℕ) → Type 0 = λ x. IsShort x.0.first.segments in
    and_then P P (composite_target all p) _
    (and_next P (unless (kind_of p.described == 1) _) _ (λ list. and_next P (unless (element_size_of p.described == 7) _) _ (λ fitting. and_next P (placed all p (element_count_of p.described + 1)) _ (λ start.
    let tag = word_at (segment_at all p.segment) start in
    and_next P (unless (kind_of tag == 0) _) _ (λ struct. and_next P (unless (nat_le (offset_of tag * (data_words_of tag + pointer_words_of tag)) (element_count_of p.described)) _) _ (λ inside. short))))))
    (λ found h. and_next P (charged (composite_cost found.0 found.1) budget) _ (λ left. h))

elements_short : (o : Object) (slot budget : ℕ) → IsShort o.segments → IfOk (elements_at o slot budget) (λ x. IsShort x.0.first.segments × (x.0.count + x.1 ≤ budget))
unfolding elements_at elements_behind
elements_short o slot budget short =
    let P : (Elements × ℕ) → Type 0 = λ x. IsShort x.0.first.segments in
    both_ok P (λ x. x.0.count + x.1 ≤ budget) (elements_at o slot budget)
    (by_test P (nat_lt slot o.pointer_words) _ _ (λ e. when_blamed P _ _ _ (and_next P (target o.segments o.segment _) _ (λ p. elements_in o.segments budget p short))) (λ e. short))
    (elements_at_left o slot budget)

-- Lists of numbers and of texts.

placed_within : (all : Segments) (described segment : ℕ) (start : Option ℕ) (n : ℕ) → IsShort all
    → IfOk (placed all (record { described = described; segment = segment; start = start }) n) (λ _. 8 * n ≤ 2 ^ 30)
unfolding placed
placed_within all described segment None n short = tt
placed_within all described segment (Some start) n short =
    by_test (λ _. 8 * n ≤ 2 ^ 30) (has_words all segment start n) (Ok start) _
    (λ e. let le = leb-true (8 * (start + n)) (length (segment_at all segment)) (both (nat_lt segment (length all)) (nat_le (8 * (start + n)) (length (segment_at all segment))) e).1 in let s = short.short segment in omega arith)
    (λ e. tt)

numbers_count : (all : Segments) (budget : ℕ) (p : Option Pointed) → IsShort all → IfOk (list_found 4 all budget p) (λ x. x.0.count ≤ 2 ^ 28)
unfolding list_found list_target
numbers_count all budget None short = omega arith
numbers_count all budget (Some p) short =
    let P : (Elements × ℕ) → Type 0 = λ x. x.0.count ≤ 2 ^ 28 in
    let n = element_count_of p.described in
    and_then P P (list_target 4 all p) _
    (and_next P (unless (kind_of p.described == 1) _) _ (λ list. and_next P (unless (element_size_of p.described == 4) _) _ (λ fitting.
    and_then (λ _. 8 * list_words 4 n ≤ 2 ^ 30) P (placed all p (list_words 4 n)) _ (placed_within all p.described p.segment p.start (list_words 4 n) short) (λ start h. omega arith))))
    (λ found h. and_next P (charged (plain_cost found.1) budget) _ (λ left. h))

numbers_short : (o : Object) (slot budget : ℕ) → IsShort o.segments → IfOk (list_at 4 o slot budget) (λ x. (x.0.count ≤ 2 ^ 28) × (x.1 ≤ budget))
unfolding list_at list_behind
numbers_short o slot budget short =
    let P : (Elements × ℕ) → Type 0 = λ x. x.0.count ≤ 2 ^ 28 in
    both_ok P (λ x. x.1 ≤ budget) (list_at 4 o slot budget)
    (by_test P (nat_lt slot o.pointer_words) _ _ (λ e. when_blamed P _ _ _ (and_next P (target o.segments o.segment _) _ (λ p. numbers_count o.segments budget p short))) (λ e. omega arith))
    (list_at_left 4 o slot budget)

texts_count : (all : Segments) (budget : ℕ) (p : Option Pointed) → IfOk (list_found 6 all budget p) (λ x. x.0.count + x.1 ≤ budget)
unfolding list_found list_target
texts_count all budget None = omega arith
texts_count all budget (Some p) =
    let P : (Elements × ℕ) → Type 0 = λ x. x.0.count + x.1 ≤ budget in
    and_then (λ x. x.0.count ≤ x.1) P (list_target 6 all p) _
    (and_next (λ x. x.0.count ≤ x.1) (unless (kind_of p.described == 1) _) _ (λ list. and_next (λ x. x.0.count ≤ x.1) (unless (element_size_of p.described == 6) _) _ (λ fitting. and_next (λ x. x.0.count ≤ x.1) (placed all p (list_words 6 (element_count_of p.described))) _ (λ start. omega arith))))
    (λ found h. and_then (λ left. left + plain_cost found.1 ≤ budget) P (charged (plain_cost found.1) budget) _ (charged_left (plain_cost found.1) budget) (λ left k. omega arith))

texts_list : (o : Object) (slot budget : ℕ) → IfOk (list_at 6 o slot budget) (λ x. x.0.count + x.1 ≤ budget)
unfolding list_at list_behind
texts_list o slot budget =
    let P : (Elements × ℕ) → Type 0 = λ x. x.0.count + x.1 ≤ budget in
    by_test P (nat_lt slot o.pointer_words) _ _ (λ e. when_blamed P _ _ _ (and_next P (target o.segments o.segment _) _ (texts_count o.segments budget))) (λ e. omega arith)

length-texts_from : (n : ℕ) (l : Elements) (i budget : ℕ) → IfOk (texts_from n l i budget) (λ x. (length x.0 ≡ n) × (x.1 ≤ budget))
unfolding texts_from
length-texts_from zero l i budget = (refl, omega arith)
length-texts_from (suc n) l i budget =
    let P : (List Text × ℕ) → Type 0 = λ x. (length x.0 ≡ suc n) × (x.1 ≤ budget) in
    and_then (λ x. paid_text x.0 + x.1 ≤ budget) P (text_in l i budget) _ (text_behind_left l.first.segments l.first.segment _ budget) (λ first h.
    and_then (λ x. (length x.0 ≡ n) × (x.1 ≤ first.1)) P (texts_from n l (i + 1) first.1) _ (length-texts_from n l (i + 1) first.1) (λ others k. (ap suc k.0, omega (arith, k.1))))

texts_short : (o : Object) (slot budget : ℕ) → IfOk (texts_at o slot budget) (λ x. (length x.0 ≤ budget) × (x.1 ≤ budget))
unfolding texts_at
texts_short o slot budget =
    let P : (List Text × ℕ) → Type 0 = λ x. (length x.0 ≤ budget) × (x.1 ≤ budget) in
    and_then (λ l. l.0.count + l.1 ≤ budget) P (list_at 6 o slot budget) _ (texts_list o slot budget) (λ l h.
    weaker (λ x. (length x.0 ≡ l.0.count) × (x.1 ≤ l.1)) P (texts_from l.0.count l.0 0 l.1) (length-texts_from l.0.count l.0 0 l.1) (λ x k. (omega (arith, k.0), omega (arith, k.1))))

-- Lists of structs.

each_short : {A : Type 0} (most : ℕ) (P : A → Type 0) (read : Object → ℕ → Reads A)
    → ((o : Object) (b : ℕ) → IsShort o.segments → b ≤ most → IfOk (read o b) (λ x. (x.1 ≤ b) × P x.0))
    → (n : ℕ) (l : Elements) (i budget : ℕ) → IsShort l.first.segments → budget ≤ most
    → IfOk (each_from read n l i budget) (λ x. (length x.0 ≡ n) × (x.1 ≤ budget) × AllByRecursion P x.0)
unfolding each_from
each_short most P read one zero l i budget short few = (refl, omega arith, tt)
each_short {A} most P read one (suc n) l i budget short few =
    let Q : (List A × ℕ) → Type 0 = λ x. (length x.0 ≡ suc n) × (x.1 ≤ budget) × AllByRecursion P x.0 in
    and_then (λ x. (x.1 ≤ budget) × P x.0) Q (read (element_of l i) budget) _ (one (element_of l i) budget short few) (λ first h.
    and_then (λ x. (length x.0 ≡ n) × (x.1 ≤ first.1) × AllByRecursion P x.0) Q (each_from read n l (i + 1) first.1) _ (each_short most P read one n l (i + 1) first.1 short (omega (arith, h.0))) (λ others k. (ap suc k.0, omega (arith, h.0, k.1), (h.1, k.2))))

mutual
  unfolding value_at parts_at ListsWithin PartListsWithin

  value_lists : (most : ℕ) → 2 ^ 28 ≤ most → (s : Struct) (o : Object) (budget : ℕ) → IsShort o.segments → budget ≤ most
      → IfOk (value_at s o budget) (λ x. (x.1 ≤ budget) × ListsWithin most ℕ s x.0)
  value_lists most room (struct_of c fields ps) o budget short few =
      and_then (λ x. (x.1 ≤ budget) × PartListsWithin most ℕ ps x.0) _ (parts_at ps 0 o budget) _ (parts_lists most room ps 0 o budget short few) (λ parts h. h)

  parts_lists : (most : ℕ) → 2 ^ 28 ≤ most → (ps : Pointers) (slot : ℕ) (o : Object) (budget : ℕ) → IsShort o.segments → budget ≤ most
      → IfOk (parts_at ps slot o budget) (λ x. (x.1 ≤ budget) × PartListsWithin most ℕ ps x.0)
  parts_lists most room no_more slot o budget short few = (omega arith, tt)
  parts_lists most room (text c ps) slot o budget short few =
      and_then (λ x. paid_text x.0 + x.1 ≤ budget) _ (text_at o slot budget) _ (text_at_left o slot budget) (λ here h.
      and_then (λ x. (x.1 ≤ here.1) × PartListsWithin most ℕ ps x.0) _ (parts_at ps (slot + 1) o here.1) _ (parts_lists most room ps (slot + 1) o here.1 short (omega arith)) (λ rest k. (omega (arith, k.0), k.1)))
  parts_lists most room (texts c ps) slot o budget short few =
      and_then (λ x. (length x.0 ≤ budget) × (x.1 ≤ budget)) _ (texts_at o slot budget) _ (texts_short o slot budget) (λ here h.
      and_then (λ x. (x.1 ≤ here.1) × PartListsWithin most ℕ ps x.0) _ (parts_at ps (slot + 1) o here.1) _ (parts_lists most room ps (slot + 1) o here.1 short (omega (arith, h.1))) (λ rest k. (omega (arith, h.1, k.0), (omega (arith, h.0), k.1))))
  parts_lists most room (numbers c target kind ps) slot o budget short few =
      and_then (λ x. (x.0.count ≤ 2 ^ 28) × (x.1 ≤ budget)) _ (list_at 4 o slot budget) _ (numbers_short o slot budget short) (λ l h.
      and_then (λ x. (x.1 ≤ l.1) × PartListsWithin most ℕ ps x.0) _ (parts_at ps (slot + 1) o l.1) _ (parts_lists most room ps (slot + 1) o l.1 short (omega (arith, h.1))) (λ rest k.
      (omega (arith, h.1, k.0), (omega (arith, h.0, length-numbers_of_four l.0.count (drop (8 * l.0.first.start) (segment_at l.0.first.segments l.0.first.segment))), k.1))))
  parts_lists most room (struct c s ps) slot o budget short few =
      and_then (λ x. IsShort x.0.segments × (x.1 ≤ budget)) _ (struct_at o slot budget) _ (struct_short o slot budget short) (λ inner h.
      and_then (λ x. (x.1 ≤ inner.1) × ListsWithin most ℕ s x.0) _ (value_at s inner.0 inner.1) _ (value_lists most room s inner.0 inner.1 h.0 (omega (arith, h.1))) (λ here j.
      and_then (λ x. (x.1 ≤ here.1) × PartListsWithin most ℕ ps x.0) _ (parts_at ps (slot + 1) o here.1) _ (parts_lists most room ps (slot + 1) o here.1 short (omega (arith, h.1, j.0))) (λ rest k. (omega (arith, h.1, j.0, k.0), (j.1, k.1)))))
  parts_lists most room (struct_or_none c s ps) slot o budget short few =
      let H : (Option (Value ℕ s) × ℕ) → Type 0 = λ x. (x.1 ≤ budget) × IfThere (ListsWithin most ℕ s) x.0 in
      let behind : IfOk (some_of (struct_at o slot budget >>= λ inner. value_at s inner.0 inner.1)) H =
      and_then (λ x. (x.1 ≤ budget) × ListsWithin most ℕ s x.0) H (struct_at o slot budget >>= λ inner. value_at s inner.0 inner.1) _
      (and_then (λ x. IsShort x.0.segments × (x.1 ≤ budget)) _ (struct_at o slot budget) _ (struct_short o slot budget short) (λ inner h.
      weaker (λ x. (x.1 ≤ inner.1) × ListsWithin most ℕ s x.0) _ (value_at s inner.0 inner.1) (value_lists most room s inner.0 inner.1 h.0 (omega (arith, h.1))) (λ x k. (omega (arith, h.1, k.0), k.1))))
      (λ x k. k) in
      and_then H _ (if has_pointer o slot then some_of (struct_at o slot budget >>= λ inner. value_at s inner.0 inner.1) else Ok (None, budget)) _
      (by_test H (has_pointer o slot) _ _ (λ _. behind) (λ _. (omega arith, tt))) (λ here j.
      and_then (λ x. (x.1 ≤ here.1) × PartListsWithin most ℕ ps x.0) _ (parts_at ps (slot + 1) o here.1) _ (parts_lists most room ps (slot + 1) o here.1 short (omega (arith, j.0))) (λ rest k. (omega (arith, j.0, k.0), (j.1, k.1))))
  parts_lists most room (boxed c kind inner s ps) slot o budget short few =
      and_then (λ x. IsShort x.0.segments × (x.1 ≤ budget)) _ (struct_at o slot budget) _ (struct_short o slot budget short) (λ box h.
      and_then (λ x. IsShort x.0.first.segments × (x.0.count + x.1 ≤ box.1)) _ (elements_at box.0 0 box.1) _ (elements_short box.0 0 box.1 h.0) (λ l m.
      and_then (λ x. (length x.0 ≡ l.0.count) × (x.1 ≤ l.1) × AllByRecursion (ListsWithin most ℕ s) x.0) _ (each_from (value_at s) l.0.count l.0 0 l.1) _ (each_short most (ListsWithin most ℕ s) (value_at s) (value_lists most room s) l.0.count l.0 0 l.1 m.0 (omega (arith, h.1, m.1))) (λ here j.
      and_then (λ x. (x.1 ≤ here.1) × PartListsWithin most ℕ ps x.0) _ (parts_at ps (slot + 1) o here.1) _ (parts_lists most room ps (slot + 1) o here.1 short (omega (arith, h.1, m.1, j.1))) (λ rest k. (omega (arith, h.1, m.1, j.1, k.0), (omega (arith, h.1, m.1, j.0), j.2, k.1))))))
  parts_lists most room (structs c target s ps) slot o budget short few =
      and_then (λ x. IsShort x.0.first.segments × (x.0.count + x.1 ≤ budget)) _ (elements_at o slot budget) _ (elements_short o slot budget short) (λ l m.
      and_then (λ x. (length x.0 ≡ l.0.count) × (x.1 ≤ l.1) × AllByRecursion (ListsWithin most ℕ s) x.0) _ (each_from (value_at s) l.0.count l.0 0 l.1) _ (each_short most (ListsWithin most ℕ s) (value_at s) (value_lists most room s) l.0.count l.0 0 l.1 m.0 (omega (arith, m.1))) (λ here j.
      and_then (λ x. (x.1 ≤ here.1) × PartListsWithin most ℕ ps x.0) _ (parts_at ps (slot + 1) o here.1) _ (parts_lists most room ps (slot + 1) o here.1 short (omega (arith, m.1, j.1))) (λ rest k. (omega (arith, m.1, j.1, k.0), (omega (arith, m.1, j.0), j.2, k.1)))))
  parts_lists most room (branches c kind fields ps) slot o budget short few =
      and_then (λ x. x.0.count + x.1 ≤ budget) _ (elements_at o slot budget) _ (elements_at_left o slot budget) (λ l m.
      and_then (λ x. branches_in x.0 + x.1 ≤ l.1 + l.0.count) _ (branches_from (budget + 1) fields l.0.count l.0 0 l.1) _ (branches_left (budget + 1) fields l.0.count l.0 0 l.1) (λ here j.
      and_then (λ x. (x.1 ≤ here.1) × PartListsWithin most ℕ ps x.0) _ (parts_at ps (slot + 1) o here.1) _ (parts_lists most room ps (slot + 1) o here.1 short (omega arith)) (λ rest k. (omega (arith, k.0), (omega arith, k.1)))))
  parts_lists most room (string_table c ps) slot o budget short few = parts_lists most room ps (slot + 1) o budget short few
  parts_lists most room (unread c ps) slot o budget short few = parts_lists most room ps (slot + 1) o budget short few

-- The lists of a record are as long as those of its numbers.

all_mapped : {A B : Type 0} (f : A → B) (P : A → Type 0) (Q : B → Type 0) → ((x : A) → P x → Q (f x)) → (xs : List A) → AllByRecursion P xs → AllByRecursion Q (map f xs)
all_mapped f P Q one [] h = tt
all_mapped f P Q one (x ∷ xs) h = (one x h.0, all_mapped f P Q one xs h.1)

there_mapped : {A B : Type 0} (f : A → B) (P : A → Type 0) (Q : B → Type 0) → ((x : A) → P x → Q (f x)) → (o : Option A) → IfThere P o → IfThere Q (option_with f o)
there_mapped f P Q one None h = tt
there_mapped f P Q one (Some x) h = one x h

branches_mapped : {A B : Type 0} (f : A → B) (b : Branches A) → branches_in (branches_map f b) ≡ branches_in b
branches_mapped f ends = refl
branches_mapped f (branch x below beside) = let l = branches_mapped f below in let r = branches_mapped f beside in omega arith

mutual
  unfolding record_of parts_of ListsWithin PartListsWithin

  pub record_lists : (most : ℕ) (table : List Text) (s : Struct) (v : Value ℕ s) → ListsWithin most ℕ s v → ListsWithin most Datum s (record_of table s v)
  record_lists most table (struct_of c fields ps) v h = part_record_lists most table ps v.1 h

  part_record_lists : (most : ℕ) (table : List Text) (ps : Pointers) (v : Parts ℕ ps) → PartListsWithin most ℕ ps v → PartListsWithin most Datum ps (parts_of table ps v)
  part_record_lists most table no_more v h = tt
  part_record_lists most table (text c ps) v h = part_record_lists most table ps v.1 h
  part_record_lists most table (texts c ps) v h = (h.0, part_record_lists most table ps v.1 h.1)
  part_record_lists most table (numbers c target kind ps) v h = (omega (arith, h.0, length-map v.0 (datum_of table kind)), part_record_lists most table ps v.1 h.1)
  part_record_lists most table (struct c s ps) v h = (record_lists most table s v.0 h.0, part_record_lists most table ps v.1 h.1)
  part_record_lists most table (struct_or_none c s ps) v h = (there_mapped (record_of table s) (ListsWithin most ℕ s) (ListsWithin most Datum s) (record_lists most table s) v.0 h.0, part_record_lists most table ps v.1 h.1)
  part_record_lists most table (boxed c kind inner s ps) v h = (omega (arith, h.0, length-map v.0 (record_of table s)), all_mapped (record_of table s) (ListsWithin most ℕ s) (ListsWithin most Datum s) (record_lists most table s) v.0 h.1, part_record_lists most table ps v.1 h.2)
  part_record_lists most table (structs c target s ps) v h = (omega (arith, h.0, length-map v.0 (record_of table s)), all_mapped (record_of table s) (ListsWithin most ℕ s) (ListsWithin most Datum s) (record_lists most table s) v.0 h.1, part_record_lists most table ps v.1 h.2)
  part_record_lists most table (branches c kind fields ps) v h = (omega (arith, h.0, branches_mapped (λ row. data_of table row fields row) v.0), part_record_lists most table ps v.1 h.1)
  part_record_lists most table (string_table c ps) v h = part_record_lists most table ps v h
  part_record_lists most table (unread c ps) v h = part_record_lists most table ps v h

root_of_short : (all : Segments) (budget : ℕ) → IsShort all → IfOk (root_of all budget) (λ x. IsShort x.0.segments × (x.1 ≤ budget))
unfolding root_of struct_behind
root_of_short all budget short =
    let P : (Object × ℕ) → Type 0 = λ x. IsShort x.0.segments × (x.1 ≤ budget) in
    by_test P (has_words all 0 0 1) _ _
    (λ e. both_ok (λ x. IsShort x.0.segments) (λ x. x.1 ≤ budget) (struct_behind all 0 0 budget) (when_blamed (λ x. IsShort x.0.segments) 0 0 _ (and_next (λ x. IsShort x.0.segments) (target all 0 0) _ (λ p. struct_in all budget p short))) (struct_behind_left all 0 0 budget))
    (λ e. tt)

-- the lists of a message
pub message_lists : (s : Struct) (most : ℕ) (all : Segments) → IsShort all → 2 ^ 28 ≤ most → whole_budget all ≤ most → IfOk (numbers_in_segments s all) (λ x. ListsWithin most ℕ s x.1)
unfolding numbers_in_segments root_at
message_lists s most all short room few =
    let budget = whole_budget all in
    and_then (λ x. IsShort x.0.segments × (x.1 ≤ budget)) _ (root_of all budget) _ (root_of_short all budget short) (λ root h.
    and_then (λ x. ListsWithin most ℕ s x.0.1) _ (root_at s root.0 root.1) _
    (and_then (λ x. (length x.0 ≤ root.1) × (x.1 ≤ root.1)) _ (texts_at root.0 (table_slot (pointers_of s)) root.1) _ (texts_short root.0 (table_slot (pointers_of s)) root.1) (λ table t.
    and_then (λ x. (x.1 ≤ table.1) × ListsWithin most ℕ s x.0) _ (value_at s root.0 table.1) _ (value_lists most room s root.0 table.1 h.0 (omega (arith, h.1, t.1))) (λ v k. k.1)))
    (λ found k. k))

-- a segment is no longer than its file
cut_short : (ns bytes : List ℕ) (s : ℕ) → length (segment_at (cut ns bytes) s) ≤ length bytes
unfolding cut
cut_short [] bytes s = omega arith
cut_short (n ∷ ns) bytes zero = omega (arith, length-take (8 * n) bytes)
cut_short (n ∷ ns) bytes (suc s) = omega (arith, cut_short ns (drop (8 * n) bytes) s, length-drop (8 * n) bytes)

cut_out_short : (bytes : List ℕ) (s : ℕ) → length (segment_at (cut_out bytes) s) ≤ length bytes
unfolding cut_out
cut_out_short bytes s =
    let skipped = table_length (segment_count bytes) in
    omega (arith, cut_short (segment_words bytes) (drop skipped bytes) s, length-drop skipped bytes)

pub frame_short : (f : Frame) → IsShort (segments_of f)
frame_short f = record { short = λ s. let h = cut_out_short f.bytes.now s in let k = f.whole.short in omega arith }

-- What was read from a frame has short lists.
pub device_lists : (f : Frame) (most : ℕ) (table : List Text) (v : Value ℕ device) → 2 ^ 28 ≤ most → whole_budget (segments_of f) ≤ most → numbers_in_segments device (segments_of f) ≡ Ok (table, v) → ListsWithin most Datum device (record_of table device v)
device_lists f most table v room few is =
    let h = message_lists device most (segments_of f) (frame_short f) room few in
    let k : ListsWithin most ℕ device v = rw is at h in
    record_lists most table device v k
