-- What is laid out in a segment is read again.
use Rattle.std.proofs.Common.{◌≡◌, ◌<◌, ◌≤◌, ◌+◌, ◌-◌, ◌*◌, ◌/◌, ◌%◌, ◌^◌, ℕ, zero, suc, List, [], ◌∷◌, ◌++◌, length, map, drop, replicate, false, refl, sym, ap, ◌∙◌, subst, arith, length-append, mul_comm, append_assoc, eqb}
use Rattle.std.specs.Prelude.{Option, Some, None, Ok, Err, if◌then◌else◌}
use Rattle.std.specs.List.{AllByRecursion}
use Rattle.std.proofs.lemmas.Bool.{lt-ltb}
use Rattle.std.proofs.lemmas.List.{length-map, drop_at}
use Rattle.byteorder.specs.Endian.{little_number}
use Rattle.byteorder.specs.Numbers.{little_number-reads_back, length-bytes_low_first}
use Rattle.ix_frame.specs.Segments.{numbers_of_four, word_at}
use Rattle.byteorder.specs.Endian.{little_bytes}
use Rattle.ix_frame.specs.Result.{◌>>=◌}
use Rattle.ix_frame.specs.Target.{Object, Elements}
use Rattle.ix_frame.specs.Objects.{struct_at, elements_at, list_at, text_at, struct_behind, struct_found, elements_behind, elements_found, list_behind, list_found, text_behind, text_found, numbers_in, no_elements, no_struct, has_pointer}
use Rattle.ix_message.specs.Shape.{Text, Field, Struct, Pointers, Branches, Value, Parts, struct_of, no_more, text, texts, numbers, struct, struct_or_none, boxed, structs, branches, string_table, unread, ends, branch}
use Rattle.ix_message.specs.Reading.{Reads, some_of, row_at, each_from, texts_from, texts_at, branches_from, value_at, parts_at}
use Rattle.ix_message.specs.Layout.{Section, padded, number_bytes, data_section, pointer_section, objects, section_bytes, section_words, element_sections, element_objects, struct_pointer, text_laid, texts_laid, numbers_laid, struct_laid, structs_laid, branch_sections, boxed_laid, option_laid, section_of, all_laid, nothing_laid}
use Rattle.ix_message.specs.Records.{IfThere}
use Rattle.ix_message.proofs.Pointer.{struct_parts}
use Rattle.ix_message.proofs.Stands.{Stands, word_stands, stands_front, stands_behind, length-padded, length-number_bytes}
use Rattle.ix_message.proofs.Rows.{struct_here, row_again}
use Rattle.ix_message.proofs.Behind.{not_zero, target_none, elements_here, elements_here_again, struct_here_again, list_here_again, text_here_again}
use Rattle.ix_message.proofs.Whole.{words, words-append, whole-objects, HasPointers, HasPointer, first_pointer, other_pointers, HasSection, HasSections, first_section, other_sections, IsWide, length-pointer_section, length-section_bytes, whole-element_objects, length-structs_laid, whole-structs_laid, list_sections}
use Rattle.ix_message.proofs.Wide.{data_slots, slots_of, struct_data, struct_slots, AreSections, IsRawText, AreRawBranches, IsRaw, AreRaw, tables, all_texts, nothing_whole, length-row, all_map, whole-text, whole-texts, whole-numbers, whole-struct, whole-boxed, whole-option, box_wide, branches_wide, section_wide, parts_whole}

-- An element is read wherever its section stands, and costs the objects behind it.
abbrev pub IsReadAgain : {A : Type 0} → (List ℕ) → (Object → ℕ → Reads A) → (d p : ℕ) → Section → A → Type 0
IsReadAgain S read d p e x =
    (at ahead budget left : ℕ) → HasSection S at ahead e → budget ≡ words (objects e.behind) + left → read (struct_here S at d p) budget ≡ Ok (x, left)

pub each_read : {A : Type 0} (S : List ℕ) (read : Object → ℕ → Reads A) (section : A → Section) (d p w : ℕ) (P : A → Type 0) → w ≡ d + p
    → ((x : A) → P x → IsReadAgain S read d p (section x) x) → ((x : A) → P x → IsWide d p (section x))
    → (xs : List A) → AllByRecursion P xs → (start n i at ahead budget left : ℕ) → at ≡ start + i * (d + p) → HasSections S w at ahead (map section xs)
    → budget ≡ words (element_objects (map section xs)) + left → each_from read (length xs) (elements_here S start n d p) i budget ≡ Ok (xs, left)
unfolding each_from
each_read S read section d p w P w-is again wide [] h start n i at ahead budget left at-is stands cost = ap (λ (k : ℕ). Ok ([], k)) (omega (arith, cost))
each_read S read section d p w P w-is again wide (x ∷ xs) h start n i at ahead budget left at-is stands cost =
    let e = section x in
    let rest = element_objects (map section xs) in
    let e-wide = wide x h.0 in
    let rest-whole = whole-element_objects d p (map section xs) (all_map section P (IsWide d p) wide xs h.1) in
    let sum = words-append (objects e.behind) rest (whole-objects e.behind e-wide.behind) rest-whole in
    let middle : ℕ = words rest + left in
    let here : HasSection S (start + i * (d + p)) (w * length (map section xs) + ahead) e = subst (λ (k : ℕ). HasSection S k (w * length (map section xs) + ahead) e) at-is (first_section S d p w at ahead e (map section xs) w-is e-wide stands) in
    let first : read (struct_here S (start + i * (d + p)) d p) budget ≡ Ok (x, middle) = again x h.0 (start + i * (d + p)) (w * length (map section xs) + ahead) budget middle here (omega (arith, sum, cost)) in
    let others = each_read S read section d p w P w-is again wide xs h.1 start n (i + 1) (at + w) (ahead + words (objects e.behind)) middle left (omega (arith, at-is, w-is)) (other_sections S d p w at ahead e (map section xs) w-is e-wide stands) refl in
    rw (first, others) refl

times_more : (w n : ℕ) → 0 < w → n ≤ w * n
times_more zero n h = absurd (omega arith)
times_more (suc k) n h = omega arith

-- A list of structs behind the pointer in a slot, which is read as its elements are.
pub list_at_again : (S : List ℕ) (d p q gap start dw total slot budget left : ℕ) (e : Section) (es : List Section) → AreSections d p → AllByRecursion (IsWide d p) (e ∷ es)
    → length S < 2 ^ 30 → slot < total → q ≡ start + dw + slot → HasPointer S q gap (structs_laid (e ∷ es)) → budget ≡ words (structs_laid (e ∷ es)).object + left
    → elements_at (struct_here S start dw total) slot budget ≡ Ok (elements_here S (q + 1 + gap + 1) (length (e ∷ es)) d p, words (element_objects (e ∷ es)) + left)
unfolding elements_at structs_laid
list_at_again S d p q gap start dw total slot budget left e es sections wide small in_slots q-is h cost =
    let n = length (e ∷ es) in
    let long = length-structs_laid d p e es wide in
    let w = section_words e in
    let w-is : w ≡ d + p = omega (arith, wide.0.words_is, wide.0.pointers_is) in
    let product : n * w ≡ (d + p) * n = ap (λ (k : ℕ). n * k) w-is ∙ mul_comm n (d + p) in
    let more : n ≤ (d + p) * n = times_more (d + p) n sections.some in
    let tag = little_bytes 8 (struct_pointer (words e.data_bytes) (length e.behind) n) in
    let elements = element_sections w 0 (e ∷ es) in
    let tagged : Stands S (q + 1 + gap) tag = stands_front S (q + 1 + gap) tag elements (stands_front S (q + 1 + gap) (tag ++ elements) (element_objects (e ∷ es)) h.object) in
    let inner = elements_here_again S q gap (n * w) n (words e.data_bytes) (length e.behind) budget
    (omega (arith, wide.0.words_is, sections.few_words)) (omega (arith, wide.0.pointers_is, sections.few_pointers)) (omega (arith, h.object.inside, small)) (omega (arith, product, long, h.object.inside, small))
    (omega (arith, more, long, h.object.inside, small)) (omega (arith, wide.0.words_is, wide.0.pointers_is, sections.some)) (omega arith)
    (omega (arith, product, long, h.object.inside)) (omega (arith, product, long, cost)) h.word tagged in
    let spent : budget - (1 + n * w) ≡ words (element_objects (e ∷ es)) + left = omega (arith, product, long, cost) in
    let found : ℕ → ℕ → ℕ → Reads Elements = λ a b k. Ok (elements_here S (q + 1 + gap + 1) n a b, k) in
    let same : found (words e.data_bytes) (length e.behind) (budget - (1 + n * w)) ≡ found d p (words (element_objects (e ∷ es)) + left) =
    λ i. found (wide.0.words_is i) (wide.0.pointers_is i) (spent i) in
    let at_q : elements_behind (S ∷ []) 0 (start + dw + slot) budget ≡ Ok (elements_here S (q + 1 + gap + 1) n d p, words (element_objects (e ∷ es)) + left) =
    subst (λ (k : ℕ). elements_behind (S ∷ []) 0 k budget ≡ Ok (elements_here S (q + 1 + gap + 1) n d p, words (element_objects (e ∷ es)) + left)) q-is (inner ∙ same) in
    rw (lt-ltb slot total in_slots) at_q

-- an empty list
pub no_list_again : (S : List ℕ) (q gap start dw total slot budget : ℕ) → slot < total → q ≡ start + dw + slot → HasPointer S q gap (structs_laid [])
    → elements_at (struct_here S start dw total) slot budget ≡ Ok (no_elements (S ∷ []), budget)
unfolding elements_at structs_laid elements_behind elements_found
no_list_again S q gap start dw total slot budget in_slots q-is h =
    let none = target_none S (start + dw + slot) (subst (λ (k : ℕ). Stands S k (little_bytes 8 0)) q-is h.word) in
    rw (lt-ltb slot total in_slots, none) refl

-- A list of structs that are read again is read again.
pub structs_again : {A : Type 0} (S : List ℕ) (read : Object → ℕ → Reads A) (section : A → Section) (d p : ℕ) (P : A → Type 0)
    → ((x : A) → P x → IsReadAgain S read d p (section x) x) → ((x : A) → P x → IsWide d p (section x)) → ((x : A) → P x → AreSections d p)
    → (xs : List A) → AllByRecursion P xs → (q gap start dw total slot budget left : ℕ) → length S < 2 ^ 30 → slot < total → q ≡ start + dw + slot
    → HasPointer S q gap (structs_laid (map section xs)) → budget ≡ words (structs_laid (map section xs)).object + left
    → (elements_at (struct_here S start dw total) slot budget >>= λ l. each_from read l.0.count l.0 0 l.1) ≡ Ok (xs, left)
unfolding each_from structs_laid
structs_again S read section d p P again wide sized [] h q gap start dw total slot budget left small in_slots q-is stands cost =
    rw (no_list_again S q gap start dw total slot budget in_slots q-is stands) (ap (λ (k : ℕ). Ok ([], k)) (omega (arith, cost)))
structs_again {A} S read section d p P again wide sized (x ∷ xs) h q gap start dw total slot budget left small in_slots q-is stands cost =
    let all = all_map section P (IsWide d p) wide (x ∷ xs) h in
    let e = section x in
    let w-is : section_words e ≡ d + p = omega (arith, all.0.words_is, all.0.pointers_is) in
    let found = list_at_again S d p q gap start dw total slot budget left e (map section xs) (sized x h.0) all small in_slots q-is stands cost in
    let elements = list_sections S d p (q + 1 + gap) e (map section xs) all stands.object in
    let each = each_read S read section d p (section_words e) P w-is again wide (x ∷ xs) h (q + 1 + gap + 1) (length (e ∷ map section xs)) 0 (q + 1 + gap + 1) 0 (words (element_objects (e ∷ map section xs)) + left) left (omega arith) elements refl in
    let n = length (e ∷ map section xs) in
    let count : length (x ∷ xs) ≡ n = sym (ap suc (length-map xs section)) in
    let l = elements_here S (q + 1 + gap + 1) n d p in
    let cheap : ℕ = words (element_objects (e ∷ map section xs)) + left in
    let next : Reads Elements → Reads (List A) = λ r. r >>= λ l. each_from read l.0.count l.0 0 l.1 in
    ap next found ∙ subst (λ (k : ℕ). each_from read k l 0 cheap ≡ Ok (x ∷ xs, left)) count each

-- one step and the others after it
then_again : {X A : Type 0} (m : Reads X) (f : X × ℕ → Reads A) (B : Type 0) (g : A × ℕ → Reads B) (y : A × ℕ) → (m >>= f) ≡ Ok y → (m >>= λ l. f l >>= g) ≡ g y
then_again (Ok z) f B g y e = rw e refl
then_again (Err z) f B g y e = absurd cc

abbrev pub paired : {A B : Type 0} → A → Reads B → Reads (A × B)
paired a rest = rest >>= λ y. Ok ((a, y.0), y.1)

pair_again : {A B : Type 0} (head : Reads A) (rest : ℕ → Reads B) (v : A × B) (middle left : ℕ) → head ≡ Ok (v.0, middle) → rest middle ≡ Ok (v.1, left)
    → (head >>= λ x. paired x.0 (rest x.1)) ≡ Ok (v, left)
pair_again head rest v middle left first others = rw (first, others) refl

-- ---- texts

pub text_again : (S : List ℕ) (t : Text) (q gap budget left : ℕ) → IsRawText t → length S < 2 ^ 30 → HasPointer S q gap (text_laid t) → budget ≡ words (text_laid t).object + left
    → text_behind (S ∷ []) 0 q budget ≡ Ok (t, left)
unfolding text_behind text_found
text_again S [] q gap budget left raw small h cost = rw (target_none S q h.word) (ap (λ (k : ℕ). Ok ([], k)) (omega (arith, cost)))
text_again S (b ∷ bs) q gap budget left raw small h cost =
    let t = b ∷ bs in
    let long : length (text_laid t).object ≡ 8 * ((length t + 8) / 8) = length-padded (t ++ 0 ∷ []) ∙ ap (λ (k : ℕ). 8 * (k / 8)) (omega (arith, length-append t (0 ∷ []))) in
    let bytes : Stands S (q + 1 + gap) (t ++ 0 ∷ []) = stands_front S (q + 1 + gap) (t ++ 0 ∷ []) (replicate ((8 - length (t ++ 0 ∷ []) % 8) % 8) 0) h.object in
    let read = text_here_again S q gap t budget raw.utf8 (omega (arith, h.object.inside, small)) raw.short (omega (arith, long, h.object.inside)) (omega (arith, long, cost)) h.word bytes in
    read ∙ ap (λ (k : ℕ). Ok (t, k)) (omega (arith, long, cost))

pub text_at_again : (S : List ℕ) (t : Text) (q gap start dw total slot budget left : ℕ) → IsRawText t → length S < 2 ^ 30 → slot < total → q ≡ start + dw + slot
    → HasPointer S q gap (text_laid t) → budget ≡ words (text_laid t).object + left → text_at (struct_here S start dw total) slot budget ≡ Ok (t, left)
unfolding text_at
text_at_again S t q gap start dw total slot budget left raw small in_slots q-is h cost =
    rw (lt-ltb slot total in_slots) (subst (λ (k : ℕ). text_behind (S ∷ []) 0 k budget ≡ Ok (t, left)) q-is (text_again S t q gap budget left raw small h cost))

-- ---- a struct

pub struct_pointer_again : (S : List ℕ) (d p q gap start dw total slot budget left : ℕ) (e : Section) → AreSections d p → IsWide d p e → length S < 2 ^ 30 → slot < total → q ≡ start + dw + slot
    → HasPointer S q gap (struct_laid e) → budget ≡ words (struct_laid e).object + left
    → struct_at (struct_here S start dw total) slot budget ≡ Ok (struct_here S (q + 1 + gap) d p, words (objects e.behind) + left)
unfolding struct_at
struct_pointer_again S d p q gap start dw total slot budget left e sections wide small in_slots q-is h cost =
    let long = length-section_bytes 0 d p e wide in
    let behind = whole-objects e.behind wide.behind in
    let all : length (struct_laid e).object ≡ 8 * (d + p + words (objects e.behind)) = omega (arith, long, behind.long, length-append (section_bytes 0 e) (objects e.behind)) in
    let read = struct_here_again S q gap (words e.data_bytes) (length e.behind) budget (omega (arith, wide.words_is, sections.few_words)) (omega (arith, wide.pointers_is, sections.few_pointers))
    (omega (arith, h.object.inside, small)) (omega (arith, wide.words_is, wide.pointers_is, sections.some)) (omega (arith, all, h.object.inside, wide.words_is, wide.pointers_is)) (omega (arith, all, cost, wide.words_is, wide.pointers_is)) h.word in
    let spent : budget - (words e.data_bytes + length e.behind) ≡ words (objects e.behind) + left = omega (arith, all, cost, wide.words_is, wide.pointers_is) in
    let found : ℕ → ℕ → ℕ → Reads Object = λ a b k. Ok (struct_here S (q + 1 + gap) a b, k) in
    let same : found (words e.data_bytes) (length e.behind) (budget - (words e.data_bytes + length e.behind)) ≡ found d p (words (objects e.behind) + left) =
    λ i. found (wide.words_is i) (wide.pointers_is i) (spent i) in
    rw (lt-ltb slot total in_slots) (subst (λ (k : ℕ). struct_behind (S ∷ []) 0 k budget ≡ found d p (words (objects e.behind) + left)) q-is (read ∙ same))

pub struct_section : (S : List ℕ) (d p at : ℕ) (e : Section) → IsWide d p e → Stands S at (struct_laid e).object → HasSection S at 0 e
struct_section S d p at e wide h = record {
  section = stands_front S at (section_bytes 0 e) (objects e.behind) h;
  behind =
      let k : at + (d + p) ≡ at + section_words e + 0 = omega (arith, wide.words_is, wide.pointers_is) in
      subst (λ (m : ℕ). Stands S m (objects e.behind)) k (stands_behind S at (d + p) (section_bytes 0 e) (objects e.behind) (length-section_bytes 0 d p e wide) h);
}

-- ---- branches

abbrev pub nodes : {A : Type 0} → Branches A → ℕ
nodes ends = 0
nodes (branch x below beside) = suc (nodes below + nodes beside)

-- ---- lists of numbers

pub numbers_back : (ns back : List ℕ) → AllByRecursion (λ n. n < 256 ^ 4) ns → numbers_of_four (length ns) (number_bytes ns ++ back) ≡ ns
unfolding numbers_of_four
numbers_back [] back h = refl
numbers_back (n ∷ ns) back h =
    let split = append_assoc (little_bytes 4 n) (number_bytes ns) back in
    let first : little_number 4 (number_bytes (n ∷ ns) ++ back) ≡ n = ap (little_number 4) split ∙ little_number-reads_back 4 n (number_bytes ns ++ back) h.0 in
    let rest : drop 4 (number_bytes (n ∷ ns) ++ back) ≡ number_bytes ns ++ back = ap (drop 4) split ∙ drop_at (little_bytes 4 n) (number_bytes ns ++ back) 4 (length-bytes_low_first 0 4 n) in
    let others : numbers_of_four (length ns) (drop 4 (number_bytes (n ∷ ns) ++ back)) ≡ ns = ap (numbers_of_four (length ns)) rest ∙ numbers_back ns back h.1 in
    λ i. first i ∷ others i

abbrev pub numbers_read : Elements × ℕ → Reads (List ℕ)
numbers_read l = Ok (numbers_in l.0, l.1)

some_numbers_again : (S : List ℕ) (n : ℕ) (ns : List ℕ) (q gap start dw total slot budget left : ℕ) → AllByRecursion (λ n. n < 256 ^ 4) (n ∷ ns) → length S < 2 ^ 30 → slot < total → q ≡ start + dw + slot
    → HasPointer S q gap (numbers_laid (n ∷ ns)) → budget ≡ words (numbers_laid (n ∷ ns)).object + left → (list_at 4 (struct_here S start dw total) slot budget >>= numbers_read) ≡ Ok (n ∷ ns, left)
unfolding list_at numbers_laid
some_numbers_again S n ns q gap start dw total slot budget left h small in_slots q-is stands cost =
    let len = length (n ∷ ns) in
    let half : ℕ = (len + 1) / 2 in
    let long : length (padded (number_bytes (n ∷ ns))) ≡ 8 * half = length-padded (number_bytes (n ∷ ns)) ∙ ap (λ (k : ℕ). 8 * k) (omega (arith, length-number_bytes (n ∷ ns))) in
    let inner = list_here_again S 4 q gap len half budget (omega arith) (omega (arith, stands.object.inside, small)) (omega (arith, long, stands.object.inside, small)) refl (omega arith) (omega (arith, long, stands.object.inside)) (omega (arith, long, cost)) stands.word in
    let at_slot = subst (λ (k : ℕ). list_behind 4 (S ∷ []) 0 k budget ≡ Ok (elements_here S (q + 1 + gap) len 0 0, budget - half)) q-is inner in
    let bytes = stands_front S (q + 1 + gap) (number_bytes (n ∷ ns)) (replicate ((8 - length (number_bytes (n ∷ ns)) % 8) % 8) 0) stands.object in
    let found : numbers_of_four len (drop (8 * (q + 1 + gap)) S) ≡ n ∷ ns = ap (numbers_of_four len) bytes.here ∙ numbers_back (n ∷ ns) bytes.back h in
    let spent : budget - half ≡ left = omega (arith, long, cost) in
    rw (lt-ltb slot total in_slots, at_slot) (λ i. Ok (found i, spent i))

pub numbers_at_again : (S ns : List ℕ) (q gap start dw total slot budget left : ℕ) → AllByRecursion (λ n. n < 256 ^ 4) ns → length S < 2 ^ 30 → slot < total → q ≡ start + dw + slot
    → HasPointer S q gap (numbers_laid ns) → budget ≡ words (numbers_laid ns).object + left → (list_at 4 (struct_here S start dw total) slot budget >>= numbers_read) ≡ Ok (ns, left)
unfolding list_at numbers_laid list_behind list_found numbers_of_four
numbers_at_again S [] q gap start dw total slot budget left h small in_slots q-is stands cost =
    let none = target_none S (start + dw + slot) (subst (λ (k : ℕ). Stands S k (little_bytes 8 0)) q-is stands.word) in
    rw (lt-ltb slot total in_slots, none) (ap (λ (k : ℕ). Ok ([], k)) (omega (arith, cost)))
numbers_at_again S (n ∷ ns) q gap start dw total slot budget left h small in_slots q-is stands cost = some_numbers_again S n ns q gap start dw total slot budget left h small in_slots q-is stands cost

-- ---- lists of texts

pub texts_read : (S : List ℕ) (ts : List Text) (start n i q ahead budget left : ℕ) → AllByRecursion IsRawText ts → length S < 2 ^ 30 → q ≡ start + i → HasPointers S q ahead (map text_laid ts)
    → budget ≡ words (objects (map text_laid ts)) + left → texts_from (length ts) (elements_here S start n 0 0) i budget ≡ Ok (ts, left)
unfolding texts_from
texts_read S [] start n i q ahead budget left raw small q-is h cost = ap (λ (k : ℕ). Ok ([], k)) (omega (arith, cost))
texts_read S (t ∷ ts) start n i q ahead budget left raw small q-is h cost =
    let x = text_laid t in
    let xs = map text_laid ts in
    let sum = words-append x.object (objects xs) (whole-text t) (whole-objects xs (all_texts ts)) in
    let middle : ℕ = words (objects xs) + left in
    let first = subst (λ (k : ℕ). text_behind (S ∷ []) 0 k budget ≡ Ok (t, middle)) q-is (text_again S t q (length xs + ahead) budget middle raw.0 small (first_pointer S q ahead x xs h) (omega (arith, sum, cost))) in
    let others = texts_read S ts start n (i + 1) (q + 1) (ahead + words x.object) middle left raw.1 small (omega (arith, q-is)) (other_pointers S q ahead x xs (whole-text t) h) refl in
    rw (first, others) refl

some_texts_again : (S : List ℕ) (t : Text) (ts : List Text) (q gap start dw total slot budget left : ℕ) → AllByRecursion IsRawText (t ∷ ts) → length S < 2 ^ 30 → slot < total → q ≡ start + dw + slot
    → HasPointer S q gap (texts_laid (t ∷ ts)) → budget ≡ words (texts_laid (t ∷ ts)).object + left → texts_at (struct_here S start dw total) slot budget ≡ Ok (t ∷ ts, left)
unfolding texts_at texts_laid list_at
some_texts_again S t ts q gap start dw total slot budget left raw small in_slots q-is h cost =
    let n = length (t ∷ ts) in
    let all = map text_laid (t ∷ ts) in
    let n-is : length all ≡ n = length-map (t ∷ ts) text_laid in
    let behind = whole-objects all (all_texts (t ∷ ts)) in
    let pointers_long = length-pointer_section 0 all in
    let long : length (pointer_section 0 all ++ objects all) ≡ 8 * (n + words (objects all)) = omega (arith, n-is, pointers_long, behind.long, length-append (pointer_section 0 all) (objects all)) in
    let inner = list_here_again S 6 q gap n n budget (omega arith) (omega (arith, h.object.inside, small)) (omega (arith, long, h.object.inside, small)) refl (omega arith) (omega (arith, long, h.object.inside)) (omega (arith, long, cost)) h.word in
    let at_slot = subst (λ (k : ℕ). list_behind 6 (S ∷ []) 0 k budget ≡ Ok (elements_here S (q + 1 + gap) n 0 0, budget - n)) q-is inner in
    let middle : ℕ = words (objects all) + left in
    let spent : budget - n ≡ middle = omega (arith, long, cost) in
    let pointers : HasPointers S (q + 1 + gap) 0 all = record {
      pointers = stands_front S (q + 1 + gap) (pointer_section 0 all) (objects all) h.object;
      behind = let k : q + 1 + gap + length all ≡ q + 1 + gap + length all + 0 = omega arith in
          subst (λ (m : ℕ). Stands S m (objects all)) k (stands_behind S (q + 1 + gap) (length all) (pointer_section 0 all) (objects all) pointers_long h.object);
    } in
    let read = texts_read S (t ∷ ts) (q + 1 + gap) n 0 (q + 1 + gap) 0 middle left raw small (omega arith) pointers refl in
    rw (lt-ltb slot total in_slots, at_slot, spent) read

pub texts_at_again : (S : List ℕ) (ts : List Text) (q gap start dw total slot budget left : ℕ) → AllByRecursion IsRawText ts → length S < 2 ^ 30 → slot < total → q ≡ start + dw + slot
    → HasPointer S q gap (texts_laid ts) → budget ≡ words (texts_laid ts).object + left → texts_at (struct_here S start dw total) slot budget ≡ Ok (ts, left)
unfolding texts_at texts_laid list_at list_behind list_found texts_from
texts_at_again S [] q gap start dw total slot budget left raw small in_slots q-is h cost =
    let none = target_none S (start + dw + slot) (subst (λ (k : ℕ). Stands S k (little_bytes 8 0)) q-is h.word) in
    rw (lt-ltb slot total in_slots, none) (ap (λ (k : ℕ). Ok ([], k)) (omega (arith, cost)))
texts_at_again S (t ∷ ts) q gap start dw total slot budget left raw small in_slots q-is h cost = some_texts_again S t ts q gap start dw total slot budget left raw small in_slots q-is h cost

-- ---- trees

-- A tree is read where its sections stand, with a bound that isn't below the number of its nodes.
abbrev pub IsTreeRead : List ℕ → List Field → Branches (List ℕ) → Type 0
IsTreeRead S fields b =
    (bound start n i at ahead budget left : ℕ) → nodes b ≤ bound → at ≡ start + i * (data_slots fields + 1) → HasSections S (data_slots fields + 1) at ahead (branch_sections b)
    → budget ≡ words (element_objects (branch_sections b)) + left → branches_from bound fields (length (branch_sections b)) (elements_here S start n (data_slots fields) 1) i budget ≡ Ok (b, left)

no_branches : (bound : ℕ) (fields : List Field) (l : Elements) (i budget left : ℕ) → budget ≡ left → branches_from bound fields 0 l i budget ≡ Ok (ends, left)
unfolding branches_from
no_branches zero fields l i budget left e = ap (λ (k : ℕ). Ok (ends, k)) e
no_branches (suc bound) fields l i budget left e = ap (λ (k : ℕ). Ok (ends, k)) e

pub tree_again : (S : List ℕ) (fields : List Field) (b : Branches (List ℕ)) → IsTreeRead S fields b → AreSections (data_slots fields) 1 → AreRawBranches fields b → (bound q gap start dw total slot budget left : ℕ) → nodes b ≤ bound
    → length S < 2 ^ 30 → slot < total → q ≡ start + dw + slot → HasPointer S q gap (structs_laid (branch_sections b)) → budget ≡ words (structs_laid (branch_sections b)).object + left
    → (elements_at (struct_here S start dw total) slot budget >>= λ l. branches_from bound fields l.0.count l.0 0 l.1) ≡ Ok (b, left)
unfolding branch_sections structs_laid
tree_again S fields ends read sections raw bound q gap start dw total slot budget left enough small in_slots q-is h cost =
    rw (no_list_again S q gap start dw total slot budget in_slots q-is h) (no_branches bound fields (no_elements (S ∷ [])) 0 budget left (omega (arith, cost)))
tree_again S fields (branch row below beside) read sections raw bound q gap start dw total slot budget left enough small in_slots q-is h cost =
    let d = data_slots fields in
    let b = branch row below beside in
    let e : Section = record { data_bytes = data_section row; behind = structs_laid (branch_sections below) ∷ [] } in
    let es = branch_sections beside in
    let wide = branches_wide fields b raw in
    let w-is : section_words e ≡ d + 1 = omega (arith, wide.0.words_is) in
    let found = list_at_again S d 1 q gap start dw total slot budget left e es sections wide small in_slots q-is h cost in
    let elements = list_sections S d 1 (q + 1 + gap) e es wide h.object in
    let there = subst (λ (k : ℕ). HasSections S k (q + 1 + gap + 1) 0 (e ∷ es)) w-is elements in
    let each = read bound (q + 1 + gap + 1) (length (e ∷ es)) 0 (q + 1 + gap + 1) 0 (words (element_objects (e ∷ es)) + left) left enough (omega arith) there refl in
    let next : Reads Elements → Reads (Branches (List ℕ)) = λ r. r >>= λ l. branches_from bound fields l.0.count l.0 0 l.1 in
    ap next found ∙ each

abbrev pub grown : List ℕ → Branches (List ℕ) → Reads (Branches (List ℕ)) → Reads (Branches (List ℕ))
grown row below beside = beside >>= λ y. Ok (branch row below y.0, y.1)

pub tree_read : (S : List ℕ) (fields : List Field) → AreSections (data_slots fields) 1 → length S < 2 ^ 30 → (b : Branches (List ℕ)) → AreRawBranches fields b → IsTreeRead S fields b
unfolding branch_sections branches_from
tree_read S fields sections small ends raw bound start n i at ahead budget left enough at-is h cost = no_branches bound fields (elements_here S start n (data_slots fields) 1) i budget left (omega (arith, cost))
tree_read S fields sections small (branch row below beside) raw zero start n i at ahead budget left enough at-is h cost = absurd (omega (arith, enough))
tree_read S fields sections small (branch row below beside) raw (suc bound) start n i at ahead budget left enough at-is h cost =
    let d = data_slots fields in
    let x = structs_laid (branch_sections below) in
    let e : Section = record { data_bytes = data_section row; behind = x ∷ [] } in
    let es = branch_sections beside in
    let wide = branches_wide fields (branch row below beside) raw in
    let x-whole = wide.0.behind.0 in
    let rest = element_objects es in
    let sum = words-append (objects e.behind) rest (whole-objects e.behind wide.0.behind) (whole-element_objects d 1 es wide.1) in
    let one = words-append x.object [] x-whole nothing_whole in
    let middle : ℕ = words rest + left in
    let place : ℕ = start + i * (d + 1) in
    let here = subst (λ (k : ℕ). HasSection S k ((d + 1) * length es + ahead) e) at-is (first_section S d 1 (d + 1) at ahead e es refl wide.0 h) in
    let bytes = stands_front S place (data_section row) (pointer_section ((d + 1) * length es + ahead) (x ∷ [])) here.section in
    let numbers_here = stands_front S place (number_bytes row) (replicate ((8 - length (number_bytes row) % 8) % 8) 0) bytes in
    let start_is : drop (8 * place + 4 * 0) S ≡ number_bytes row ++ numbers_here.back = ap (λ (k : ℕ). drop k S) (omega arith) ∙ numbers_here.here in
    let row_is : row_at fields 0 (struct_here S place d 1) ≡ row = row_again fields row S place d 1 0 numbers_here.back raw.0 start_is (omega (arith, length-row fields row raw.0)) in
    let pointers : HasPointers S (place + d) ((d + 1) * length es + ahead) (x ∷ []) = record {
      pointers = stands_behind S place d (data_section row) (pointer_section ((d + 1) * length es + ahead) (x ∷ [])) (wide.0.row.long ∙ ap (λ (k : ℕ). 8 * k) wide.0.words_is) here.section;
      behind = subst (λ (k : ℕ). Stands S k (objects (x ∷ []))) (omega (arith, wide.0.words_is)) here.behind;
    } in
    let inner = tree_again S fields below (tree_read S fields sections small below raw.1) sections raw.1 bound (place + d) (0 + ((d + 1) * length es + ahead)) place d 1 0 budget middle (omega (arith, enough)) small (omega arith) (omega arith)
    (first_pointer S (place + d) ((d + 1) * length es + ahead) x [] pointers) (omega (arith, sum, one, cost)) in
    let others = tree_read S fields sections small beside raw.2 bound start n (i + 1) (at + (d + 1)) (ahead + words (objects e.behind)) middle left (omega (arith, enough)) (omega (arith, at-is)) (other_sections S d 1 (d + 1) at ahead e es refl wide.0 h) refl in
    then_again (elements_at (struct_here S place d 1) 0 budget) (λ l. branches_from bound fields l.0.count l.0 0 l.1) _
    (λ x. grown (row_at fields 0 (struct_here S place d 1)) x.0 (branches_from bound fields (length es) (elements_here S start n d 1) (i + 1) x.1)) (below, middle) inner ∙ rw (others, row_is) refl

list_cost : (d p : ℕ) (es : List Section) → AllByRecursion (IsWide d p) es → 0 < d + p → length es + words (element_objects es) ≤ words (structs_laid es).object
unfolding structs_laid
list_cost d p [] wide some = omega arith
list_cost d p (e ∷ es) wide some = omega (arith, length-structs_laid d p e es wide, times_more (d + p) (length (e ∷ es)) some)

nodes_words : (fields : List Field) (b : Branches (List ℕ)) → AreRawBranches fields b → nodes b ≤ length (branch_sections b) + words (element_objects (branch_sections b))
unfolding branch_sections
nodes_words fields ends raw = omega arith
nodes_words fields (branch row below beside) raw =
    let d = data_slots fields in
    let x = structs_laid (branch_sections below) in
    let wide = branches_wide fields (branch row below beside) raw in
    let rest = element_objects (branch_sections beside) in
    let sum = words-append (x.object ++ []) rest (whole-objects (x ∷ []) wide.0.behind) (whole-element_objects d 1 (branch_sections beside) wide.1) in
    let one = words-append x.object [] wide.0.behind.0 nothing_whole in
    let under = list_cost d 1 (branch_sections below) (branches_wide fields below raw.1) (omega arith) in
    omega (arith, sum, one, under, nodes_words fields below raw.1, nodes_words fields beside raw.2)

-- each node takes a word
pub nodes_cost : (fields : List Field) (b : Branches (List ℕ)) → AreSections (data_slots fields) 1 → AreRawBranches fields b → nodes b ≤ words (structs_laid (branch_sections b)).object
nodes_cost fields b sections raw = omega (arith, nodes_words fields b raw, list_cost (data_slots fields) 1 (branch_sections b) (branches_wide fields b raw) sections.some)

-- ---- a struct that may not be there, and a list within a struct

pub option_again : {A : Type 0} (S : List ℕ) (read : Object → ℕ → Reads A) (section : A → Section) (d p : ℕ) (P : A → Type 0)
    → ((x : A) → P x → IsReadAgain S read d p (section x) x) → ((x : A) → P x → IsWide d p (section x)) → ((x : A) → P x → AreSections d p)
    → (o : Option A) → IfThere P o → (q gap start dw total slot budget left : ℕ) → length S < 2 ^ 30 → slot < total → q ≡ start + dw + slot
    → HasPointer S q gap (option_laid section o) → budget ≡ words (option_laid section o).object + left
    → (if has_pointer (struct_here S start dw total) slot then some_of (struct_at (struct_here S start dw total) slot budget >>= λ inner. read inner.0 inner.1) else Ok (None, budget)) ≡ Ok (o, left)
unfolding has_pointer
option_again S read section d p P again wide sized None h q gap start dw total slot budget left small in_slots q-is stands cost =
    let word : word_at S (start + dw + slot) ≡ 0 = ap (word_at S) (sym q-is) ∙ word_stands S q 0 (omega arith) stands.word in
    rw (lt-ltb slot total in_slots, word) (ap (λ (k : ℕ). Ok (None, k)) (omega (arith, cost)))
option_again S read section d p P again wide sized (Some x) h q gap start dw total slot budget left small in_slots q-is stands cost =
    let e = section x in
    let x-wide = wide x h in
    let parts = sized x h in
    let w = struct_pointer (words e.data_bytes) (length e.behind) gap in
    let facts = struct_parts (words e.data_bytes) (length e.behind) gap (omega (arith, x-wide.words_is, parts.few_words)) (omega (arith, x-wide.pointers_is, parts.few_pointers)) (omega (arith, stands.object.inside, small)) in
    let word : word_at S (start + dw + slot) ≡ w = ap (word_at S) (sym q-is) ∙ word_stands S q w facts.below stands.word in
    let nonzero : eqb w 0 ≡ false = not_zero w (omega (arith, x-wide.words_is, x-wide.pointers_is, parts.some)) in
    let found = struct_pointer_again S d p q gap start dw total slot budget left e parts x-wide small in_slots q-is stands cost in
    let first = again x h (q + 1 + gap) 0 (words (objects e.behind) + left) left (struct_section S d p (q + 1 + gap) e x-wide stands.object) refl in
    rw (lt-ltb slot total in_slots, word, nonzero, found, first) refl

no_struct_again : (S : List ℕ) (q gap start dw total slot budget : ℕ) → slot < total → q ≡ start + dw + slot → HasPointer S q gap nothing_laid
    → struct_at (struct_here S start dw total) slot budget ≡ Ok (no_struct (S ∷ []), budget)
unfolding struct_at struct_behind struct_found
no_struct_again S q gap start dw total slot budget in_slots q-is h =
    let none = target_none S (start + dw + slot) (subst (λ (k : ℕ). Stands S k (little_bytes 8 0)) q-is h.word) in
    rw (lt-ltb slot total in_slots, none) refl

no_elements_in : (S : List ℕ) (budget : ℕ) → elements_at (no_struct (S ∷ [])) 0 budget ≡ Ok (no_elements (S ∷ []), budget)
unfolding elements_at
no_elements_in S budget = refl

none_each : {A : Type 0} (read : Object → ℕ → Reads A) (l : Elements) (i budget : ℕ) → each_from read 0 l i budget ≡ Ok ([], budget)
unfolding each_from
none_each read l i budget = refl

pub boxed_again : {A B : Type 0} (S : List ℕ) (read : Object → ℕ → Reads A) (section : A → Section) (d p : ℕ) (P : A → Type 0)
    → ((x : A) → P x → IsReadAgain S read d p (section x) x) → ((x : A) → P x → IsWide d p (section x)) → ((x : A) → P x → AreSections d p)
    → (xs : List A) → AllByRecursion P xs → (q gap start dw total slot budget left : ℕ) → length S < 2 ^ 30 → slot < total → q ≡ start + dw + slot
    → HasPointer S q gap (boxed_laid (map section xs)) → budget ≡ words (boxed_laid (map section xs)).object + left → (g : List A × ℕ → Reads B)
    → (struct_at (struct_here S start dw total) slot budget >>= λ box. elements_at box.0 0 box.1 >>= λ l. each_from read l.0.count l.0 0 l.1 >>= g) ≡ g (xs, left)
boxed_again S read section d p P again wide sized [] h q gap start dw total slot budget left small in_slots q-is stands cost g =
    rw (no_struct_again S q gap start dw total slot budget in_slots q-is stands, no_elements_in S budget, none_each read (no_elements (S ∷ [])) 0 budget) (ap (λ (k : ℕ). g ([], k)) (omega (arith, cost)))
boxed_again {A} {B} S read section d p P again wide sized (x ∷ xs) h q gap start dw total slot budget left small in_slots q-is stands cost g =
    let es = map section (x ∷ xs) in
    let all = all_map section P (IsWide d p) wide (x ∷ xs) h in
    let e : Section = record { data_bytes = []; behind = structs_laid es ∷ [] } in
    let e-wide = box_wide es d p all in
    let box : AreSections 0 1 = record { some = omega arith; few_words = omega arith; few_pointers = omega arith } in
    let found = struct_pointer_again S 0 1 q gap start dw total slot budget left e box e-wide small in_slots q-is stands cost in
    let inside = struct_section S 0 1 (q + 1 + gap) e e-wide stands.object in
    let one = words-append (structs_laid es).object [] (whole-structs_laid d p es all) nothing_whole in
    let pointers : HasPointers S (q + 1 + gap) 0 (structs_laid es ∷ []) = record { pointers = inside.section; behind = inside.behind } in
    let first = structs_again S read section d p P again wide sized (x ∷ xs) h (q + 1 + gap) 0 (q + 1 + gap) 0 1 0 (words (objects e.behind) + left) left small (omega arith) (omega arith) (first_pointer S (q + 1 + gap) 0 (structs_laid es) [] pointers) (omega (arith, one)) in
    rw found (then_again (elements_at (struct_here S (q + 1 + gap) 0 1) 0 (words (objects e.behind) + left)) (λ l. each_from read l.0.count l.0 0 l.1) B g (x ∷ xs, left) first)

-- ---- values

-- The string table is read, and paid, before the pointers of its struct.
abbrev pub table_words : List Text → ℕ
table_words table = words (texts_laid table).object

raw_sections : (s : Struct) (v : Value ℕ s) → IsRaw s v → AreSections (struct_data s) (struct_slots s)
raw_sections (struct_of c fields ps) v h = h.0

mutual
  unfolding value_at parts_at section_of all_laid

  pub value_again : (S : List ℕ) (table : List Text) (s : Struct) → length S < 2 ^ 30 → (v : Value ℕ s) → IsRaw s v → IsReadAgain S (value_at s) (struct_data s) (struct_slots s) (section_of table s v) v
  value_again S table (struct_of c fields ps) small v raw at ahead budget left h cost =
      let d = data_slots fields in
      let p = slots_of ps in
      let wide = section_wide table (struct_of c fields ps) v raw in
      let row_long = length-row fields v.0 raw.1 in
      let bytes = stands_front S at (data_section v.0) (pointer_section ahead (all_laid table ps v.1)) h.section in
      let numbers_here = stands_front S at (number_bytes v.0) (replicate ((8 - length (number_bytes v.0) % 8) % 8) 0) bytes in
      let start_is : drop (8 * at + 4 * 0) S ≡ number_bytes v.0 ++ numbers_here.back = ap (λ (k : ℕ). drop k S) (omega arith) ∙ numbers_here.here in
      let row : row_at fields 0 (struct_here S at d p) ≡ v.0 = row_again fields v.0 S at d p 0 numbers_here.back raw.1 start_is (omega (arith, row_long)) in
      let pointers : HasPointers S (at + d) ahead (all_laid table ps v.1) = record {
        pointers = stands_behind S at d (data_section v.0) (pointer_section ahead (all_laid table ps v.1)) (wide.row.long ∙ ap (λ (k : ℕ). 8 * k) wide.words_is) h.section;
        behind = subst (λ (k : ℕ). Stands S k (objects (all_laid table ps v.1))) (omega (arith, wide.words_is)) h.behind;
      } in
      let parts = parts_again S table ps small v.1 raw.2 at d p 0 (at + d) ahead budget left (omega arith) (omega arith) pointers cost in
      let none : tables ps * table_words table + left ≡ left = rw raw.3 (omega arith) in
      rw (parts, row) (ap (λ (k : ℕ). Ok (v, k)) none)

  pub parts_again : (S : List ℕ) (table : List Text) (ps : Pointers) → length S < 2 ^ 30 → (v : Parts ℕ ps) → AreRaw ps v → (start dw total slot q ahead budget left : ℕ) → slot + slots_of ps ≡ total → q ≡ start + dw + slot
      → HasPointers S q ahead (all_laid table ps v) → budget ≡ words (objects (all_laid table ps v)) + left → parts_at ps slot (struct_here S start dw total) budget ≡ Ok (v, tables ps * table_words table + left)
  parts_again S table no_more small v raw start dw total slot q ahead budget left total-is q-is h cost = ap (λ (k : ℕ). Ok (tt, k)) (omega (arith, cost))
  parts_again S table (text c ps) small v raw start dw total slot q ahead budget left total-is q-is h cost =
      let x = text_laid v.0 in
      let xs = all_laid table ps v.1 in
      let x-whole = whole-text v.0 in
      let sum = words-append x.object (objects xs) x-whole (whole-objects xs (parts_whole table ps v.1 raw.1)) in
      let middle : ℕ = words (objects xs) + left in
      let first = text_at_again S v.0 q (length xs + ahead) start dw total slot budget middle raw.0 small (omega (arith, total-is)) q-is (first_pointer S q ahead x xs h) (omega (arith, sum, cost)) in
      let others = parts_again S table ps small v.1 raw.1 start dw total (slot + 1) (q + 1) (ahead + words x.object) middle left (omega (arith, total-is)) (omega (arith, q-is)) (other_pointers S q ahead x xs x-whole h) refl in
      pair_again (text_at (struct_here S start dw total) slot budget) (parts_at ps (slot + 1) (struct_here S start dw total)) v middle (tables ps * table_words table + left) first others
  parts_again S table (texts c ps) small v raw start dw total slot q ahead budget left total-is q-is h cost =
      let x = texts_laid v.0 in
      let xs = all_laid table ps v.1 in
      let x-whole = whole-texts v.0 in
      let sum = words-append x.object (objects xs) x-whole (whole-objects xs (parts_whole table ps v.1 raw.1)) in
      let middle : ℕ = words (objects xs) + left in
      let here = first_pointer S q ahead x xs h in
      let others = parts_again S table ps small v.1 raw.1 start dw total (slot + 1) (q + 1) (ahead + words x.object) middle left (omega (arith, total-is)) (omega (arith, q-is)) (other_pointers S q ahead x xs x-whole h) refl in
      let o = struct_here S start dw total in
      let cheap : budget ≡ words x.object + middle = omega (arith, sum, cost) in
      let in_slots : slot < total = omega (arith, total-is) in
      let gap = length xs + ahead in
      let first = texts_at_again S v.0 q gap start dw total slot budget middle raw.0 small in_slots q-is here cheap in
      pair_again (texts_at o slot budget) (parts_at ps (slot + 1) o) v middle (tables ps * table_words table + left) first others
  parts_again S table (numbers c target kind ps) small v raw start dw total slot q ahead budget left total-is q-is h cost =
      let x = numbers_laid v.0 in
      let xs = all_laid table ps v.1 in
      let x-whole = whole-numbers v.0 in
      let sum = words-append x.object (objects xs) x-whole (whole-objects xs (parts_whole table ps v.1 raw.1)) in
      let middle : ℕ = words (objects xs) + left in
      let here = first_pointer S q ahead x xs h in
      let others = parts_again S table ps small v.1 raw.1 start dw total (slot + 1) (q + 1) (ahead + words x.object) middle left (omega (arith, total-is)) (omega (arith, q-is)) (other_pointers S q ahead x xs x-whole h) refl in
      let o = struct_here S start dw total in
      let cheap : budget ≡ words x.object + middle = omega (arith, sum, cost) in
      let in_slots : slot < total = omega (arith, total-is) in
      let gap = length xs + ahead in
      let first = numbers_at_again S v.0 q gap start dw total slot budget middle raw.0 small in_slots q-is here cheap in
      then_again (list_at 4 o slot budget) numbers_read _ (λ x. paired x.0 (parts_at ps (slot + 1) o x.1)) (v.0, middle) first ∙ rw others refl
  parts_again S table (struct c s ps) small v raw start dw total slot q ahead budget left total-is q-is h cost =
      let x = struct_laid (section_of table s v.0) in
      let xs = all_laid table ps v.1 in
      let x-whole = whole-struct (struct_data s) (struct_slots s) (section_of table s v.0) (section_wide table s v.0 raw.0) in
      let sum = words-append x.object (objects xs) x-whole (whole-objects xs (parts_whole table ps v.1 raw.1)) in
      let middle : ℕ = words (objects xs) + left in
      let here = first_pointer S q ahead x xs h in
      let others = parts_again S table ps small v.1 raw.1 start dw total (slot + 1) (q + 1) (ahead + words x.object) middle left (omega (arith, total-is)) (omega (arith, q-is)) (other_pointers S q ahead x xs x-whole h) refl in
      let o = struct_here S start dw total in
      let cheap : budget ≡ words x.object + middle = omega (arith, sum, cost) in
      let in_slots : slot < total = omega (arith, total-is) in
      let gap = length xs + ahead in
      let e = section_of table s v.0 in
      let wide = section_wide table s v.0 raw.0 in
      let found = struct_pointer_again S (struct_data s) (struct_slots s) q gap start dw total slot budget middle e (raw_sections s v.0 raw.0) wide small in_slots q-is here cheap in
      let first = value_again S table s small v.0 raw.0 (q + 1 + gap) 0 (words (objects e.behind) + middle) middle (struct_section S (struct_data s) (struct_slots s) (q + 1 + gap) e wide here.object) refl in
      rw (found, first, others) refl
  parts_again S table (struct_or_none c s ps) small v raw start dw total slot q ahead budget left total-is q-is h cost =
      let x = option_laid (section_of table s) v.0 in
      let xs = all_laid table ps v.1 in
      let x-whole = whole-option (struct_data s) (struct_slots s) (section_of table s) (IsRaw s) (section_wide table s) v.0 raw.0 in
      let sum = words-append x.object (objects xs) x-whole (whole-objects xs (parts_whole table ps v.1 raw.1)) in
      let middle : ℕ = words (objects xs) + left in
      let here = first_pointer S q ahead x xs h in
      let others = parts_again S table ps small v.1 raw.1 start dw total (slot + 1) (q + 1) (ahead + words x.object) middle left (omega (arith, total-is)) (omega (arith, q-is)) (other_pointers S q ahead x xs x-whole h) refl in
      let o = struct_here S start dw total in
      let cheap : budget ≡ words x.object + middle = omega (arith, sum, cost) in
      let in_slots : slot < total = omega (arith, total-is) in
      let gap = length xs + ahead in
      let first = option_again S (value_at s) (section_of table s) (struct_data s) (struct_slots s) (IsRaw s) (value_again S table s small) (section_wide table s) (raw_sections s) v.0 raw.0 q gap start dw total slot budget middle small in_slots q-is here cheap in
      rw (first, others) refl
  parts_again S table (boxed c kind inner s ps) small v raw start dw total slot q ahead budget left total-is q-is h cost =
      let x = boxed_laid (map (section_of table s) v.0) in
      let xs = all_laid table ps v.1 in
      let x-whole = whole-boxed (struct_data s) (struct_slots s) (map (section_of table s) v.0) (all_map (section_of table s) (IsRaw s) (IsWide (struct_data s) (struct_slots s)) (section_wide table s) v.0 raw.0) in
      let sum = words-append x.object (objects xs) x-whole (whole-objects xs (parts_whole table ps v.1 raw.1)) in
      let middle : ℕ = words (objects xs) + left in
      let here = first_pointer S q ahead x xs h in
      let others = parts_again S table ps small v.1 raw.1 start dw total (slot + 1) (q + 1) (ahead + words x.object) middle left (omega (arith, total-is)) (omega (arith, q-is)) (other_pointers S q ahead x xs x-whole h) refl in
      let o = struct_here S start dw total in
      let cheap : budget ≡ words x.object + middle = omega (arith, sum, cost) in
      let in_slots : slot < total = omega (arith, total-is) in
      let gap = length xs + ahead in
      boxed_again S (value_at s) (section_of table s) (struct_data s) (struct_slots s) (IsRaw s) (value_again S table s small) (section_wide table s) (raw_sections s) v.0 raw.0 q gap start dw total slot budget middle small in_slots q-is here cheap (λ x. paired x.0 (parts_at ps (slot + 1) o x.1)) ∙ rw others refl
  parts_again S table (structs c target s ps) small v raw start dw total slot q ahead budget left total-is q-is h cost =
      let x = structs_laid (map (section_of table s) v.0) in
      let xs = all_laid table ps v.1 in
      let x-whole = whole-structs_laid (struct_data s) (struct_slots s) (map (section_of table s) v.0) (all_map (section_of table s) (IsRaw s) (IsWide (struct_data s) (struct_slots s)) (section_wide table s) v.0 raw.0) in
      let sum = words-append x.object (objects xs) x-whole (whole-objects xs (parts_whole table ps v.1 raw.1)) in
      let middle : ℕ = words (objects xs) + left in
      let here = first_pointer S q ahead x xs h in
      let others = parts_again S table ps small v.1 raw.1 start dw total (slot + 1) (q + 1) (ahead + words x.object) middle left (omega (arith, total-is)) (omega (arith, q-is)) (other_pointers S q ahead x xs x-whole h) refl in
      let o = struct_here S start dw total in
      let cheap : budget ≡ words x.object + middle = omega (arith, sum, cost) in
      let in_slots : slot < total = omega (arith, total-is) in
      let gap = length xs + ahead in
      let first = structs_again S (value_at s) (section_of table s) (struct_data s) (struct_slots s) (IsRaw s) (value_again S table s small) (section_wide table s) (raw_sections s) v.0 raw.0 q gap start dw total slot budget middle small in_slots q-is here cheap in
      then_again (elements_at o slot budget) (λ l. each_from (value_at s) l.0.count l.0 0 l.1) _ (λ x. paired x.0 (parts_at ps (slot + 1) o x.1)) (v.0, middle) first ∙ rw others refl
  parts_again S table (branches c kind fields ps) small v raw start dw total slot q ahead budget left total-is q-is h cost =
      let x = structs_laid (branch_sections v.0) in
      let xs = all_laid table ps v.1 in
      let x-whole = whole-structs_laid (data_slots fields) 1 (branch_sections v.0) (branches_wide fields v.0 raw.1) in
      let sum = words-append x.object (objects xs) x-whole (whole-objects xs (parts_whole table ps v.1 raw.2)) in
      let middle : ℕ = words (objects xs) + left in
      let here = first_pointer S q ahead x xs h in
      let others = parts_again S table ps small v.1 raw.2 start dw total (slot + 1) (q + 1) (ahead + words x.object) middle left (omega (arith, total-is)) (omega (arith, q-is)) (other_pointers S q ahead x xs x-whole h) refl in
      let o = struct_here S start dw total in
      let cheap : budget ≡ words x.object + middle = omega (arith, sum, cost) in
      let in_slots : slot < total = omega (arith, total-is) in
      let gap = length xs + ahead in
      let first = tree_again S fields v.0 (tree_read S fields raw.0 small v.0 raw.1) raw.0 raw.1 (budget + 1) q gap start dw total slot budget middle (omega (arith, nodes_cost fields v.0 raw.0 raw.1, cheap)) small in_slots q-is here cheap in
      then_again (elements_at o slot budget) (λ l. branches_from (budget + 1) fields l.0.count l.0 0 l.1) _ (λ x. paired x.0 (parts_at ps (slot + 1) o x.1)) (v.0, middle) first ∙ rw others refl
  parts_again S table (string_table c ps) small v raw start dw total slot q ahead budget left total-is q-is h cost =
      let x = texts_laid table in
      let xs = all_laid table ps v in
      let sum = words-append x.object (objects xs) (whole-texts table) (whole-objects xs (parts_whole table ps v raw)) in
      let others = parts_again S table ps small v raw start dw total (slot + 1) (q + 1) (ahead + words x.object) budget (table_words table + left) (omega (arith, total-is)) (omega (arith, q-is)) (other_pointers S q ahead x xs (whole-texts table) h) (omega (arith, sum, cost)) in
      others ∙ ap (λ (k : ℕ). Ok (v, k)) (omega arith)
  parts_again S table (unread c ps) small v raw start dw total slot q ahead budget left total-is q-is h cost =
      let xs = all_laid table ps v in
      parts_again S table ps small v raw start dw total (slot + 1) (q + 1) (ahead + 0) budget left (omega (arith, total-is)) (omega (arith, q-is)) (other_pointers S q ahead nothing_laid xs nothing_whole h) cost
