-- What was written pointer by pointer is what the layout says.
use Rattle.std.proofs.Common.{◌≡◌, ◌<◌, ◌≤◌, ◌+◌, ◌-◌, ◌*◌, ◌/◌, ◌%◌, ◌^◌, ◌++◌, ◌∙◌, [], ◌∷◌, ℕ, suc, List, Bool, true, false, cond, length, take, drop, map, replicate, ap, sym, refl, arith, append_assoc, length-append, length-drop, inl, inr, ◌⊎◌}
use Rattle.std.specs.Prelude.{nat_le, nat_lt, not, ◌==◌, ◌||◌, ◌&&◌}
use Rattle.std.specs.List.{AllByRecursion}
use Rattle.std.proofs.lemmas.Bool.{leb-true, le-ltb}
use Rattle.std.proofs.lemmas.List.{take_at, drop_at, drop-drop, length-take, length-replicate, length-map, append-nil, take-append-drop, nil_from_length}
use Rattle.std.proofs.Math.Nat.{mul_comm, mul-le-mul_right}
use Rattle.byteorder.specs.Endian.{little_bytes}
use Rattle.byteorder.specs.Numbers.{length-bytes_low_first}
use Rattle.ix_message.specs.Shape.{Text}
use Rattle.ix_message.specs.Layout.{Laid, Section, nothing_laid, struct_pointer, list_pointer, pointer_section, objects, all_fit, section_bytes, section_words, element_sections, element_objects, elements_fit, text_laid, texts_laid, struct_laid, structs_laid}
use Rattle.ix_message.proofs.Whole.{Whole, whole_by, whole-append, words, words-append, AllWhole, IsWide, whole-objects, length-pointer_section, length-section_bytes, length-structs_laid, whole-element_objects}
use Rattle.ix_message.proofs.Wide.{all_texts}
use Rattle.ix_capw.specs.Frame.{words_in, too_many_words, root_segment, root_pointer}
use Rattle.ix_capw.specs.Growth.{written, with_object, too_long, blank_structs, blank_texts, some_structs, some_texts}
use Rattle.ix_message_write.specs.Growth.{with_objects, with_section, with_sections, NoRoom}

-- ---- lists in parts

cut : (Z : List ℕ) (n : ℕ) → take n Z ++ drop n Z ≡ Z
cut Z n = take-append-drop n Z

-- bytes written over others
pub written_over : (A Z B bytes : List ℕ) (p n : ℕ) → length A ≡ p → length Z ≡ n → written p n bytes (A ++ (Z ++ B)) ≡ A ++ (bytes ++ B)
written_over A Z B bytes p n at long =
    let front : take p (A ++ (Z ++ B)) ≡ A = take_at A (Z ++ B) p at in
    let back : drop (p + n) (A ++ (Z ++ B)) ≡ B = sym (drop-drop n p (A ++ (Z ++ B))) ∙ ap (drop n) (drop_at A (Z ++ B) p at) ∙ drop_at Z B n long in
    ap (λ (t : List ℕ). t ++ (bytes ++ drop (p + n) (A ++ (Z ++ B)))) front ∙ ap (λ (t : List ℕ). A ++ (bytes ++ t)) back

pub length-written : (place n : ℕ) (bytes S : List ℕ) → length bytes ≡ n → place + n ≤ length S → length (written place n bytes S) ≡ length S
length-written place n bytes S len inside =
    omega (arith, length-append (take place S) (bytes ++ drop (place + n) S), length-append bytes (drop (place + n) S), length-take place S, length-drop (place + n) S)

pub length-with_object : (q : ℕ) (x : Laid) (S : List ℕ) → 8 * (q + 1) ≤ length S → length (with_object q x S) ≡ length S + length x.object
length-with_object q x S inside =
    let bytes = little_bytes 8 (x.pointer (words_in S - (q + 1))) in
    let same : length (written (8 * q) 8 bytes S) ≡ length S = length-written (8 * q) 8 bytes S (length-bytes_low_first 0 8 (x.pointer (words_in S - (q + 1)))) (omega arith) in
    omega (arith, same, length-append (written (8 * q) 8 bytes S) x.object)

pub length-with_objects : (q : ℕ) (xs : List Laid) (S : List ℕ) → 8 * (q + length xs) ≤ length S → length (with_objects q xs S) ≡ length S + length (objects xs)
length-with_objects q [] S inside = omega arith
length-with_objects q (x ∷ xs) S inside =
    let one = length-with_object q x S (omega arith) in
    omega (arith, one, length-with_objects (q + 1) xs (with_object q x S) (omega (arith, one)), length-append x.object (objects xs))

pub length-with_section : (p d n : ℕ) (e : Section) (S : List ℕ) → IsWide d n e → 8 * (p + d + n) ≤ length S → length (with_section p e S) ≡ length S + length (objects e.behind)
length-with_section p d n e S wide inside =
    let data_long = length e.data_bytes in
    let W = written (8 * p) data_long e.data_bytes S in
    let same : length W ≡ length S = length-written (8 * p) data_long e.data_bytes S refl (omega (arith, wide.row.long, wide.words_is)) in
    omega (arith, same, length-with_objects (p + data_long / 8) e.behind W (omega (arith, same, wide.words_is, wide.pointers_is)))

-- ---- pointers and objects

pub objects_laid : (q : ℕ) (xs : List Laid) (A Z B : List ℕ) → length A ≡ 8 * q → length Z ≡ 8 * length xs → Whole B → AllWhole xs
    → with_objects q xs (A ++ (Z ++ B)) ≡ A ++ (pointer_section (words B) xs ++ (B ++ objects xs))
unfolding pointer_section
objects_laid q [] A Z B at long whole all =
    let none : Z ≡ [] = nil_from_length Z long in
    ap (λ (z : List ℕ). A ++ (z ++ B)) none ∙ ap (λ (b : List ℕ). A ++ b) (sym (append-nil B))
objects_laid q (x ∷ xs) A Z B at long whole all =
    let Z1 = take 8 Z in
    let Z2 = drop 8 Z in
    let S = A ++ (Z ++ B) in
    let parts : S ≡ A ++ (Z1 ++ (Z2 ++ B)) = ap (λ (z : List ℕ). A ++ (z ++ B)) (sym (cut Z 8)) ∙ ap (λ (z : List ℕ). A ++ z) (append_assoc Z1 Z2 B) in
    let long1 : length Z1 ≡ 8 = omega (arith, length-take 8 Z) in
    let long2 : length Z2 ≡ 8 * length xs = omega (arith, length-drop 8 Z) in
    let gap : words_in S - (q + 1) ≡ length xs + words B = omega (arith, length-append A (Z ++ B), length-append Z B, whole.long) in
    let word = little_bytes 8 (x.pointer (length xs + words B)) in
    let set_word : written (8 * q) 8 word S ≡ A ++ (word ++ (Z2 ++ B)) = ap (written (8 * q) 8 word) parts ∙ written_over A Z1 (Z2 ++ B) word (8 * q) 8 at long1 in
    let put : with_object q x S ≡ (A ++ word) ++ (Z2 ++ (B ++ x.object)) =
    ap (λ (k : ℕ). written (8 * q) 8 (little_bytes 8 (x.pointer k)) S ++ x.object) gap ∙ ap (λ (t : List ℕ). t ++ x.object) set_word ∙ simp append_assoc in
    let at2 : length (A ++ word) ≡ 8 * (q + 1) = omega (arith, length-append A word, length-bytes_low_first 0 8 (x.pointer (length xs + words B))) in
    let more : words (B ++ x.object) ≡ words B + words x.object = words-append B x.object whole all.0 in
    ap (with_objects (q + 1) xs) put
    ∙ objects_laid (q + 1) xs (A ++ word) Z2 (B ++ x.object) at2 long2 (whole-append B x.object whole all.0) all.1
    ∙ ap (λ (k : ℕ). (A ++ word) ++ (pointer_section k xs ++ ((B ++ x.object) ++ objects xs))) more
    ∙ simp append_assoc

pub section_laid : (p d n : ℕ) (e : Section) (A Z B : List ℕ) → IsWide d n e → length A ≡ 8 * p → length Z ≡ 8 * (d + n) → Whole B
    → with_section p e (A ++ (Z ++ B)) ≡ A ++ (section_bytes (words B) e ++ (B ++ objects e.behind))
section_laid p d n e A Z B wide at long whole =
    let row = e.data_bytes in
    let Z1 = take (length row) Z in
    let Z2 = drop (length row) Z in
    let parts : A ++ (Z ++ B) ≡ A ++ (Z1 ++ (Z2 ++ B)) = ap (λ (z : List ℕ). A ++ (z ++ B)) (sym (cut Z (length row))) ∙ ap (λ (z : List ℕ). A ++ z) (append_assoc Z1 Z2 B) in
    let long1 : length Z1 ≡ length row = omega (arith, length-take (length row) Z, wide.row.long, wide.words_is) in
    let long2 : length Z2 ≡ 8 * length e.behind = omega (arith, length-drop (length row) Z, wide.row.long, wide.words_is, wide.pointers_is) in
    let set_row : written (8 * p) (length row) row (A ++ (Z ++ B)) ≡ (A ++ row) ++ (Z2 ++ B) =
    ap (written (8 * p) (length row) row) parts ∙ written_over A Z1 (Z2 ++ B) row (8 * p) (length row) at long1 ∙ sym (append_assoc A row (Z2 ++ B)) in
    let at2 : length (A ++ row) ≡ 8 * (p + length row / 8) = omega (arith, length-append A row, wide.row.long) in
    ap (with_objects (p + length row / 8) e.behind) set_row ∙ objects_laid (p + length row / 8) e.behind (A ++ row) Z2 B at2 long2 whole wide.behind ∙ simp append_assoc

pub sections_laid : (d n w p : ℕ) (es : List Section) (A Z B : List ℕ) → w ≡ d + n → AllByRecursion (IsWide d n) es → length A ≡ 8 * p → length Z ≡ 8 * (w * length es) → Whole B
    → with_sections p w es (A ++ (Z ++ B)) ≡ A ++ (element_sections w (words B) es ++ (B ++ element_objects es))
unfolding element_sections
sections_laid d n w p [] A Z B w-is all at long whole =
    let none : Z ≡ [] = nil_from_length Z (omega arith) in
    ap (λ (z : List ℕ). A ++ (z ++ B)) none ∙ ap (λ (b : List ℕ). A ++ b) (sym (append-nil B))
sections_laid d n w p (e ∷ es) A Z B w-is all at long whole =
    let Z1 = take (8 * w) Z in
    let Z2 = drop (8 * w) Z in
    let parts : A ++ (Z ++ B) ≡ A ++ (Z1 ++ (Z2 ++ B)) = ap (λ (z : List ℕ). A ++ (z ++ B)) (sym (cut Z (8 * w))) ∙ ap (λ (z : List ℕ). A ++ z) (append_assoc Z1 Z2 B) in
    let long1 : length Z1 ≡ 8 * (d + n) = omega (arith, length-take (8 * w) Z) in
    let long2 : length Z2 ≡ 8 * (w * length es) = omega (arith, length-drop (8 * w) Z) in
    let whole2 : Whole (Z2 ++ B) = whole-append Z2 B (whole_by Z2 (w * length es) long2) whole in
    let behind : words (Z2 ++ B) ≡ w * length es + words B = omega (arith, length-append Z2 B, whole.long) in
    let sec = section_bytes (w * length es + words B) e in
    let objs = objects e.behind in
    let one : with_section p e (A ++ (Z ++ B)) ≡ (A ++ sec) ++ (Z2 ++ (B ++ objs)) =
    ap (with_section p e) parts ∙ section_laid p d n e A Z1 (Z2 ++ B) all.0 at long1 whole2
    ∙ ap (λ (k : ℕ). A ++ (section_bytes k e ++ ((Z2 ++ B) ++ objs))) behind ∙ simp append_assoc in
    let at2 : length (A ++ sec) ≡ 8 * (p + w) = omega (arith, length-append A sec, length-section_bytes (w * length es + words B) d n e all.0) in
    let whole_objs = whole-objects e.behind all.0.behind in
    let more : words (B ++ objs) ≡ words B + words objs = words-append B objs whole whole_objs in
    ap (with_sections (p + w) w es) one
    ∙ sections_laid d n w (p + w) es (A ++ sec) Z2 (B ++ objs) w-is all.1 at2 long2 (whole-append B objs whole whole_objs)
    ∙ ap (λ (k : ℕ). (A ++ sec) ++ (element_sections w k es ++ ((B ++ objs) ++ element_objects es))) more
    ∙ simp append_assoc

-- ---- lists

pos-nonzero : (n : ℕ) → 0 < n → (n == 0) ≡ false
pos-nonzero n lt = grind (arith, lt)

nonzero-pos : (n : ℕ) → (n == 0) ≡ false → 0 < n
nonzero-pos n e = grind (arith, e)

count-nonzero : {A : Type 0} (x : A) (xs : List A) → (length (x ∷ xs) == 0) ≡ false
count-nonzero x xs = pos-nonzero (length (x ∷ xs)) (omega arith)

blank_structs-some : (n d p : ℕ) → (n == 0) ≡ false → blank_structs n d p ≡ some_structs n d p
blank_structs-some n d p e = rw e refl

blank_texts-some : (n : ℕ) → (n == 0) ≡ false → blank_texts n ≡ some_texts n
blank_texts-some n e = rw e refl

-- the elements are written into the list that was made for them
pub list_laid : (d n q : ℕ) (es : List Section) (S : List ℕ) → AllByRecursion (IsWide d n) es → Whole S → 8 * (q + 1) ≤ length S
    → with_sections (words_in S + 1) (d + n) es (with_object q (blank_structs (length es) d n) S) ≡ with_object q (structs_laid es) S
unfolding structs_laid
list_laid d n q [] S wide whole inside = refl
list_laid d n q (e ∷ es) S wide whole inside =
    let all = e ∷ es in
    let k = length all in
    let w = d + n in
    let gap = words_in S - (q + 1) in
    let pointer = little_bytes 8 (list_pointer 7 (k * w) gap) in
    let led = written (8 * q) 8 pointer S in
    let tag = little_bytes 8 (struct_pointer d n k) in
    let Z : List ℕ = replicate (8 * (k * w)) 0 in
    let blank : blank_structs k d n ≡ some_structs k d n = blank_structs-some k d n (count-nonzero e es) in
    let made : with_object q (blank_structs k d n) S ≡ (led ++ tag) ++ (Z ++ []) =
    ap (λ (x : Laid). with_object q x S) blank ∙ sym (append_assoc led tag Z) ∙ ap (λ (z : List ℕ). (led ++ tag) ++ z) (sym (append-nil Z)) in
    let led_long : length led ≡ length S = length-written (8 * q) 8 pointer S (length-bytes_low_first 0 8 (list_pointer 7 (k * w) gap)) (omega arith) in
    let at : length (led ++ tag) ≡ 8 * (words_in S + 1) = omega (arith, length-append led tag, length-bytes_low_first 0 8 (struct_pointer d n k), led_long, whole.long) in
    let long : length Z ≡ 8 * (w * k) = length-replicate (8 * (k * w)) 0 ∙ (let m : k * w ≡ w * k = mul_comm k w in ap (λ (t : ℕ). 8 * t) m) in
    let size : section_words e ≡ w = omega (arith, wide.0.words_is, wide.0.pointers_is) in
    let rows : length e.data_bytes / 8 ≡ d = wide.0.words_is in
    let pointers : length e.behind ≡ n = wide.0.pointers_is in
    ap (with_sections (words_in S + 1) w all) made
    ∙ sections_laid d n w (words_in S + 1) all (led ++ tag) Z [] refl wide at long (whole_by [] 0 refl)
    ∙ ap (λ (b : List ℕ). (led ++ tag) ++ b) refl
    ∙ regroup led tag (element_sections w 0 all) (element_objects all)
    ∙ ap (λ (t : ℕ). written (8 * q) 8 (little_bytes 8 (list_pointer 7 (k * t) gap)) S ++ (little_bytes 8 (struct_pointer d n k) ++ element_sections t 0 all ++ element_objects all)) (sym size)
    ∙ ap (λ (t : ℕ). written (8 * q) 8 (little_bytes 8 (list_pointer 7 (k * section_words e) gap)) S ++ (little_bytes 8 (struct_pointer t n k) ++ element_sections (section_words e) 0 all ++ element_objects all)) (sym rows)
    ∙ ap (λ (t : ℕ). written (8 * q) 8 (little_bytes 8 (list_pointer 7 (k * section_words e) gap)) S ++ (little_bytes 8 (struct_pointer (length e.data_bytes / 8) t k) ++ element_sections (section_words e) 0 all ++ element_objects all)) (sym pointers)
  where
    regroup : (a b c d : List ℕ) → (a ++ b) ++ (c ++ ([] ++ d)) ≡ a ++ (b ++ c ++ d)
    regroup a b c d = simp append_assoc

pub texts_are_laid : (q : ℕ) (ts : List Text) (S : List ℕ) → Whole S → 8 * (q + 1) ≤ length S
    → with_objects (words_in S) (map text_laid ts) (with_object q (blank_texts (length ts)) S) ≡ with_object q (texts_laid ts) S
unfolding texts_laid
texts_are_laid q [] S whole inside = refl
texts_are_laid q (t ∷ ts) S whole inside =
    let all = map text_laid (t ∷ ts) in
    let k = length (t ∷ ts) in
    let gap = words_in S - (q + 1) in
    let pointer = little_bytes 8 (list_pointer 6 k gap) in
    let led = written (8 * q) 8 pointer S in
    let Z : List ℕ = replicate (8 * k) 0 in
    let blank : blank_texts k ≡ some_texts k = blank_texts-some k (count-nonzero t ts) in
    let made : with_object q (blank_texts k) S ≡ led ++ (Z ++ []) = ap (λ (x : Laid). with_object q x S) blank ∙ ap (λ (z : List ℕ). led ++ z) (sym (append-nil Z)) in
    let at : length led ≡ 8 * words_in S = length-written (8 * q) 8 pointer S (length-bytes_low_first 0 8 (list_pointer 6 k gap)) (omega arith) ∙ whole.long in
    let count : length all ≡ k = length-map (t ∷ ts) text_laid in
    let long : length Z ≡ 8 * length all = length-replicate (8 * k) 0 ∙ ap (λ (n : ℕ). 8 * n) (sym count) in
    ap (with_objects (words_in S) all) made ∙ objects_laid (words_in S) all led Z [] at long (whole_by [] 0 refl) (all_texts (t ∷ ts))

-- the root
pub root_laid : (d n : ℕ) (e : Section) → IsWide d n e → with_section 1 e (root_segment d n) ≡ little_bytes 8 ((struct_laid e).pointer 0) ++ (struct_laid e).object
root_laid d n e wide =
    let word = little_bytes 8 (root_pointer d n) in
    let Z : List ℕ = replicate (8 * (d + n)) 0 in
    let number : root_pointer d n ≡ struct_pointer (length e.data_bytes / 8) (length e.behind) 0 = omega (arith, wide.words_is, wide.pointers_is) in
    ap (λ (z : List ℕ). with_section 1 e (word ++ z)) (sym (append-nil Z))
    ∙ section_laid 1 d n e word Z [] wide (length-bytes_low_first 0 8 (root_pointer d n)) (length-replicate (8 * (d + n)) 0) (whole_by [] 0 refl)
    ∙ ap (λ (k : ℕ). little_bytes 8 k ++ (section_bytes 0 e ++ objects e.behind)) number

-- ---- what is too long

pub refused_here : (x : Laid) (S : List ℕ) → too_long x S ≡ true → NoRoom (x ∷ []) S
refused_here x S e = go (nat_le too_many_words (words_in S + words_in x.object)) x.fits refl refl e
  where
    go : (b f : Bool) → nat_le too_many_words (words_in S + words_in x.object) ≡ b → x.fits ≡ f → (b || not f) ≡ true → NoRoom (x ∷ []) S
    go true f many fits t = inl (omega (arith, leb-true too_many_words (words_in S + words_in x.object) many, length-append x.object []))
    go false false many fits t = inr (rw fits refl)
    go false true many fits t = absurd cc

-- a list that is too long before its elements are written is too long
pub list_refused : (d n : ℕ) (es : List Section) (S : List ℕ) → AllByRecursion (IsWide d n) es → too_long (blank_structs (length es) d n) S ≡ true → NoRoom (structs_laid es ∷ []) S
unfolding structs_laid
list_refused d n [] S wide e = refused_here nothing_laid S e
list_refused d n (e ∷ es) S wide long =
    let all = e ∷ es in
    let k = length all in
    let blank = blank_structs-some k d n (count-nonzero e es) in
    go (refused_here (some_structs k d n) S (sym (ap (λ (x : Laid). too_long x S) blank) ∙ long))
  where
    go : NoRoom (some_structs (length (e ∷ es)) d n ∷ []) S → NoRoom (structs_laid (e ∷ es) ∷ []) S
    go (inl many) =
        let k = length (e ∷ es) in
        let tag = little_bytes 8 (struct_pointer d n k) in
        let Z : List ℕ = replicate (8 * (k * (d + n))) 0 in
        let blank_long : length (tag ++ Z ++ []) ≡ 8 + 8 * (k * (d + n)) = omega (arith, length-append (tag ++ Z) [], length-append tag Z, length-bytes_low_first 0 8 (struct_pointer d n k), length-replicate {A = ℕ} (8 * (k * (d + n))) 0) in
        let product : k * (d + n) ≡ (d + n) * k = mul_comm k (d + n) in
        inl (omega (arith, blank_long, product, length-structs_laid d n e es wide, length-append (structs_laid (e ∷ es)).object []))
    go (inr unfit) = inr (both (nat_lt (length (e ∷ es)) (2 ^ 30)) unfit (elements_fit (e ∷ es)))
      where
        both : (b : Bool) → (b && true) ≡ false → (c : Bool) → (b && c && true) ≡ false
        both true h c = absurd cc
        both false h c = refl

-- a list whose elements are too long is too long
pub elements_refused : (d n q : ℕ) (es : List Section) (S : List ℕ) → AllByRecursion (IsWide d n) es → 8 * (q + 1) ≤ length S → too_long (blank_structs (length es) d n) S ≡ false
    → (2 ^ 30 ≤ length (with_object q (blank_structs (length es) d n) S) + length (element_objects es)) ⊎ (elements_fit es ≡ false) → NoRoom (structs_laid es ∷ []) S
unfolding structs_laid
elements_refused d n q [] S wide inside short (inl many) = inl (omega (arith, length-with_object q nothing_laid S inside))
elements_refused d n q [] S wide inside short (inr unfit) = absurd cc
elements_refused d n q (e ∷ es) S wide inside short (inl many) =
    let k = length (e ∷ es) in
    let blank = blank_structs-some k d n (count-nonzero e es) in
    let tag = little_bytes 8 (struct_pointer d n k) in
    let Z : List ℕ = replicate (8 * (k * (d + n))) 0 in
    let blank_long : length (blank_structs k d n).object ≡ 8 + 8 * (k * (d + n)) =
    ap (λ (x : Laid). length x.object) blank ∙ omega (arith, length-append tag Z, length-bytes_low_first 0 8 (struct_pointer d n k), length-replicate {A = ℕ} (8 * (k * (d + n))) 0) in
    let product : k * (d + n) ≡ (d + n) * k = mul_comm k (d + n) in
    inl (omega (arith, blank_long, product, length-with_object q (blank_structs k d n) S inside, length-structs_laid d n e es wide, length-append (structs_laid (e ∷ es)).object [], (whole-element_objects d n (e ∷ es) wide).long))
elements_refused d n q (e ∷ es) S wide inside short (inr unfit) = inr (both (nat_lt (length (e ∷ es)) (2 ^ 30)) (elements_fit (e ∷ es)) unfit)
  where
    both : (b c : Bool) → c ≡ false → (b && c && true) ≡ false
    both b true h = absurd cc
    both true false h = refl
    both false false h = refl

-- a list fits where its count and its elements do
pub list_fits : (d n : ℕ) (es : List Section) (S : List ℕ) → too_long (blank_structs (length es) d n) S ≡ false → elements_fit es ≡ true → (structs_laid es).fits ≡ true
unfolding structs_laid
list_fits d n [] S short fit = refl
list_fits d n (e ∷ es) S short fit =
    let k = length (e ∷ es) in
    let blank = blank_structs-some k d n (count-nonzero e es) in
    go (nat_le too_many_words (words_in S + words_in (some_structs k d n).object)) (nat_lt k (2 ^ 30)) (elements_fit (e ∷ es)) (sym (ap (λ (x : Laid). too_long x S) blank) ∙ short) fit
  where
    go : (a b c : Bool) → (a || not b) ≡ false → c ≡ true → (b && c) ≡ true
    go true b c h f = absurd cc
    go false true c h f = f
    go false false c h f = absurd cc

-- a list of too many structs doesn't fit
pub many_refused : (es : List Section) (S : List ℕ) → 2 ^ 30 ≤ length es → NoRoom (structs_laid es ∷ []) S
unfolding structs_laid
many_refused [] S many = absurd (omega arith)
many_refused (e ∷ es) S many =
    let unfit : nat_lt (length (e ∷ es)) (2 ^ 30) ≡ false = le-ltb (length (e ∷ es)) (2 ^ 30) many in
    inr (ap (λ (b : Bool). b && elements_fit (e ∷ es) && true) unfit)

-- how long the segment is with a list that isn't empty
pub list_long : (d n q k : ℕ) (S : List ℕ) → 8 * (q + 1) ≤ length S → 0 < k → length (with_object q (blank_structs k d n) S) ≡ length S + 8 + 8 * (k * (d + n))
list_long d n q k S inside some =
    let tag = little_bytes 8 (struct_pointer d n k) in
    let Z : List ℕ = replicate (8 * (k * (d + n))) 0 in
    let blank_long : length (blank_structs k d n).object ≡ 8 + 8 * (k * (d + n)) =
    ap (λ (x : Laid). length x.object) (blank_structs-some k d n (pos-nonzero k some)) ∙ omega (arith, length-append tag Z, length-bytes_low_first 0 8 (struct_pointer d n k), length-replicate {A = ℕ} (8 * (k * (d + n))) 0) in
    omega (arith, blank_long, length-with_object q (blank_structs k d n) S inside)

pub element_inside : (d n q k i : ℕ) (S first now : List ℕ) → first ≡ with_object q (blank_structs k d n) S → 8 * (q + 1) ≤ length S → length first % 8 ≡ 0 → i < k → length first ≤ length now
    → 8 * (words_in S + 1 + i * (d + n) + d + n) ≤ length now
element_inside d n q k i S first now made inside whole lt grown =
    let long = ap length made ∙ list_long d n q k S inside (omega arith) in
    let product : suc i * (d + n) ≤ k * (d + n) = mul-le-mul_right (d + n) lt in
    omega (arith, long, product)

pub list_inside : (d n q k : ℕ) (S first : List ℕ) → first ≡ with_object q (blank_structs k d n) S → 8 * (q + 1) ≤ length S → length first % 8 ≡ 0 → 0 < k
    → 8 * (words_in S + 1 + k * (d + n)) ≤ length first
list_inside d n q k S first made inside whole some =
    let long = ap length made ∙ list_long d n q k S inside some in
    omega (arith, long)

-- the segment before a list was made has whole words
pub whole_before : (d n q k : ℕ) (S first : List ℕ) → first ≡ with_object q (blank_structs k d n) S → 8 * (q + 1) ≤ length S → length first % 8 ≡ 0 → Whole S
whole_before d n q k S first made inside whole = go (k == 0) refl
  where
    go : (b : Bool) → (k == 0) ≡ b → Whole S
    go true e =
        let long : length first ≡ length S + 0 = ap length (made ∙ ap (λ (b : Bool). with_object q (cond b nothing_laid (some_structs k d n)) S) e) ∙ length-with_object q nothing_laid S inside in
        whole_by S (words_in S) (omega (arith, long))
    go false e =
        let long = ap length made ∙ list_long d n q k S inside (nonzero-pos k e) in
        whole_by S (words_in S) (omega (arith, long))

-- ---- lists of texts

texts_long : (k : ℕ) → 0 < k → length (blank_texts k).object ≡ 8 * k
texts_long k some = ap (λ (x : Laid). length x.object) (blank_texts-some k (pos-nonzero k some)) ∙ length-replicate {A = ℕ} (8 * k) 0

pub text_inside : (q k i : ℕ) (S first now : List ℕ) → first ≡ with_object q (blank_texts k) S → 8 * (q + 1) ≤ length S → i < k → length first ≤ length now
    → 8 * (words_in S + i + 1) ≤ length now
text_inside q k i S first now made inside lt grown =
    let long = ap length made ∙ length-with_object q (blank_texts k) S inside in
    omega (arith, long, texts_long k (omega arith))

-- the list is too long before its texts are put
pub texts_refused : (ts : List Text) (S : List ℕ) → too_long (blank_texts (length ts)) S ≡ true → NoRoom (texts_laid ts ∷ []) S
unfolding texts_laid
texts_refused [] S long = refused_here nothing_laid S long
texts_refused (t ∷ ts) S long =
    let all = map text_laid (t ∷ ts) in
    let k = length (t ∷ ts) in
    let blank = blank_texts-some k (count-nonzero t ts) in
    go (refused_here (some_texts k) S (sym (ap (λ (x : Laid). too_long x S) blank) ∙ long))
  where
    go : NoRoom (some_texts (length (t ∷ ts)) ∷ []) S → NoRoom (texts_laid (t ∷ ts) ∷ []) S
    go (inl many) =
        let all = map text_laid (t ∷ ts) in
        let k = length (t ∷ ts) in
        let Z : List ℕ = replicate (8 * k) 0 in
        let object = pointer_section 0 all ++ objects all in
        inl (omega (arith, length-append Z [], length-replicate {A = ℕ} (8 * k) 0, length-append object [], length-append (pointer_section 0 all) (objects all), length-pointer_section 0 all, length-map (t ∷ ts) text_laid))
    go (inr unfit) = absurd cc

pub text_list_refused : (q : ℕ) (ts : List Text) (S : List ℕ) → 8 * (q + 1) ≤ length S → NoRoom (map text_laid ts) (with_object q (blank_texts (length ts)) S) → NoRoom (texts_laid ts ∷ []) S
unfolding texts_laid
text_list_refused q [] S inside (inl many) = inl (omega (arith, length-with_object q nothing_laid S inside))
text_list_refused q [] S inside (inr unfit) = absurd cc
text_list_refused q (t ∷ ts) S inside (inl many) =
    let all = map text_laid (t ∷ ts) in
    let k = length (t ∷ ts) in
    let object = pointer_section 0 all ++ objects all in
    inl (omega (arith, length-with_object q (blank_texts k) S inside, texts_long k (omega arith), length-append object [], length-append (pointer_section 0 all) (objects all), length-pointer_section 0 all, length-map (t ∷ ts) text_laid))
text_list_refused q (t ∷ ts) S inside (inr unfit) = inr (ap (λ (b : Bool). b && true) unfit)

pub texts_fit : (ts : List Text) → all_fit (map text_laid ts) ≡ true → (texts_laid ts).fits ≡ true
unfolding texts_laid
texts_fit [] fit = refl
texts_fit (t ∷ ts) fit = fit

pub whole_before_texts : (q k : ℕ) (S first : List ℕ) → first ≡ with_object q (blank_texts k) S → 8 * (q + 1) ≤ length S → length first % 8 ≡ 0 → Whole S
whole_before_texts q k S first made inside whole = go (k == 0) refl
  where
    go : (b : Bool) → (k == 0) ≡ b → Whole S
    go true e =
        let long : length first ≡ length S + 0 = ap length (made ∙ ap (λ (b : Bool). with_object q (cond b nothing_laid (some_texts k)) S) e) ∙ length-with_object q nothing_laid S inside in
        whole_by S (words_in S) (omega (arith, long))
    go false e =
        let long = ap length made ∙ length-with_object q (blank_texts k) S inside in
        whole_by S (words_in S) (omega (arith, long, texts_long k (nonzero-pos k e)))
