-- What is laid out takes whole words.
use Rattle.std.proofs.Common.{◌≡◌, ◌+◌, ◌*◌, ◌/◌, ℕ, List, [], ◌∷◌, ◌++◌, length, refl, ap, ◌∙◌, subst, arith, length-append}
use Rattle.std.specs.List.{AllByRecursion}
use Rattle.byteorder.specs.Endian.{little_bytes}
use Rattle.byteorder.specs.Numbers.{length-bytes_low_first}
use Rattle.ix_message.specs.Layout.{Laid, Section, padded, number_bytes, data_section, pointer_section, objects, section_bytes, section_words, element_sections, element_objects, struct_pointer, structs_laid}
use Rattle.ix_message.proofs.Stands.{Stands, stands_front, stands_behind, length-padded, length-number_bytes}

-- the words of bytes
abbrev pub words : List ℕ → ℕ
words B = length B / 8

pub record Whole (B : List ℕ) : Type 0 where
  pub long : length B ≡ 8 * words B

pub whole_by : (B : List ℕ) (n : ℕ) → length B ≡ 8 * n → Whole B
whole_by B n e = record { long = omega (arith, e) }

pub whole-append : (A B : List ℕ) → Whole A → Whole B → Whole (A ++ B)
whole-append A B a b = whole_by (A ++ B) (words A + words B) (omega (arith, length-append A B, a.long, b.long))

pub words-append : (A B : List ℕ) → Whole A → Whole B → words (A ++ B) ≡ words A + words B
words-append A B a b = let both = whole-append A B a b in omega (arith, length-append A B, a.long, b.long, both.long)

pub whole-padded : (B : List ℕ) → Whole (padded B)
whole-padded B = whole_by (padded B) ((length B + 7) / 8) (length-padded B)

abbrev pub AllWhole : List Laid → Type 0
AllWhole xs = AllByRecursion (λ x. Whole x.object) xs

pub whole-objects : (xs : List Laid) → AllWhole xs → Whole (objects xs)
whole-objects [] h = whole_by [] 0 refl
whole-objects (x ∷ xs) h = whole-append x.object (objects xs) h.0 (whole-objects xs h.1)

pub length-pointer_section : (ahead : ℕ) (xs : List Laid) → length (pointer_section ahead xs) ≡ 8 * length xs
unfolding pointer_section
length-pointer_section ahead [] = refl
length-pointer_section ahead (x ∷ xs) =
    let w = little_bytes 8 (x.pointer (length xs + ahead)) in
    let rest = pointer_section (ahead + words x.object) xs in
    omega (arith, length-append w rest, length-bytes_low_first 0 8 (x.pointer (length xs + ahead)), length-pointer_section (ahead + words x.object) xs)

pub words-data_section : (row : List ℕ) → words (data_section row) ≡ (length row + 1) / 2
words-data_section row = omega (arith, length-padded (number_bytes row), length-number_bytes row)

-- ---- pointers and the objects behind them

pub record HasPointers (S : List ℕ) (q ahead : ℕ) (xs : List Laid) : Type 0 where
  pub pointers : Stands S q (pointer_section ahead xs)
  pub behind : Stands S (q + length xs + ahead) (objects xs)

pub record HasPointer (S : List ℕ) (q gap : ℕ) (x : Laid) : Type 0 where
  pub word : Stands S q (little_bytes 8 (x.pointer gap))
  pub object : Stands S (q + 1 + gap) x.object

pub first_pointer : (S : List ℕ) (q ahead : ℕ) (x : Laid) (xs : List Laid) → HasPointers S q ahead (x ∷ xs) → HasPointer S q (length xs + ahead) x
unfolding pointer_section
first_pointer S q ahead x xs h = record {
  word = stands_front S q (little_bytes 8 (x.pointer (length xs + ahead))) (pointer_section (ahead + words x.object) xs) h.pointers;
  object = let e : q + length (x ∷ xs) + ahead ≡ q + 1 + (length xs + ahead) = omega arith in
      subst (λ (k : ℕ). Stands S k x.object) e (stands_front S (q + length (x ∷ xs) + ahead) x.object (objects xs) h.behind);
}

pub other_pointers : (S : List ℕ) (q ahead : ℕ) (x : Laid) (xs : List Laid) → Whole x.object → HasPointers S q ahead (x ∷ xs) → HasPointers S (q + 1) (ahead + words x.object) xs
unfolding pointer_section
other_pointers S q ahead x xs whole h = record {
  pointers = stands_behind S q 1 (little_bytes 8 (x.pointer (length xs + ahead))) (pointer_section (ahead + words x.object) xs) (length-bytes_low_first 0 8 (x.pointer (length xs + ahead))) h.pointers;
  behind = let e : q + length (x ∷ xs) + ahead + words x.object ≡ q + 1 + length xs + (ahead + words x.object) = omega arith in
      subst (λ (k : ℕ). Stands S k (objects xs)) e (stands_behind S (q + length (x ∷ xs) + ahead) (words x.object) x.object (objects xs) whole.long h.behind);
}

-- ---- sections one after another

pub record HasSection (S : List ℕ) (p ahead : ℕ) (e : Section) : Type 0 where
  pub section : Stands S p (section_bytes ahead e)
  pub behind : Stands S (p + section_words e + ahead) (objects e.behind)

pub record HasSections (S : List ℕ) (w p ahead : ℕ) (es : List Section) : Type 0 where
  pub sections : Stands S p (element_sections w ahead es)
  pub behind : Stands S (p + w * length es + ahead) (element_objects es)

pub record IsWide (d p : ℕ) (e : Section) : Type 0 where
  pub row : Whole e.data_bytes
  pub words_is : words e.data_bytes ≡ d
  pub pointers_is : length e.behind ≡ p
  pub behind : AllWhole e.behind

pub length-section_bytes : (ahead d p : ℕ) (e : Section) → IsWide d p e → length (section_bytes ahead e) ≡ 8 * (d + p)
length-section_bytes ahead d p e h =
    omega (arith, length-append e.data_bytes (pointer_section ahead e.behind), length-pointer_section ahead e.behind, h.row.long, h.words_is, h.pointers_is)

pub first_section : (S : List ℕ) (d n w p ahead : ℕ) (e : Section) (es : List Section) → w ≡ d + n → IsWide d n e → HasSections S w p ahead (e ∷ es) → HasSection S p (w * length es + ahead) e
unfolding element_sections
first_section S d n w p ahead e es w-is wide h = record {
  section = stands_front S p (section_bytes (w * length es + ahead) e) (element_sections w (ahead + words (objects e.behind)) es) h.sections;
  behind = let k : p + w * length (e ∷ es) + ahead ≡ p + section_words e + (w * length es + ahead) = omega (arith, wide.words_is, wide.pointers_is, w-is) in
      subst (λ (m : ℕ). Stands S m (objects e.behind)) k (stands_front S (p + w * length (e ∷ es) + ahead) (objects e.behind) (element_objects es) h.behind);
}

pub other_sections : (S : List ℕ) (d n w p ahead : ℕ) (e : Section) (es : List Section) → w ≡ d + n → IsWide d n e → HasSections S w p ahead (e ∷ es) → HasSections S w (p + w) (ahead + words (objects e.behind)) es
unfolding element_sections
other_sections S d n w p ahead e es w-is wide h = record {
  sections = stands_behind S p w (section_bytes (w * length es + ahead) e) (element_sections w (ahead + words (objects e.behind)) es) (let m : d + n ≡ w = omega arith in length-section_bytes (w * length es + ahead) d n e wide ∙ ap (λ (k : ℕ). 8 * k) m) h.sections;
  behind = let k : p + w * length (e ∷ es) + ahead + words (objects e.behind) ≡ p + w + w * length es + (ahead + words (objects e.behind)) = omega arith in
      subst (λ (m : ℕ). Stands S m (element_objects es)) k (stands_behind S (p + w * length (e ∷ es) + ahead) (words (objects e.behind)) (objects e.behind) (element_objects es) (whole-objects e.behind wide.behind).long h.behind);
}

-- ---- lists of structs

pub length-element_sections : (d p w ahead : ℕ) (es : List Section) → w ≡ d + p → AllByRecursion (IsWide d p) es → length (element_sections w ahead es) ≡ 8 * (w * length es)
unfolding element_sections
length-element_sections d p w ahead [] w-is h = omega arith
length-element_sections d p w ahead (e ∷ es) w-is h =
    let first = section_bytes (w * length es + ahead) e in
    let rest = element_sections w (ahead + words (objects e.behind)) es in
    omega (arith, w-is, length-append first rest, length-section_bytes (w * length es + ahead) d p e h.0, length-element_sections d p w (ahead + words (objects e.behind)) es w-is h.1)

pub whole-element_objects : (d p : ℕ) (es : List Section) → AllByRecursion (IsWide d p) es → Whole (element_objects es)
whole-element_objects d p [] h = whole_by [] 0 refl
whole-element_objects d p (e ∷ es) h = whole-append (objects e.behind) (element_objects es) (whole-objects e.behind h.0.behind) (whole-element_objects d p es h.1)

-- the list's object: its tag, its elements, their objects
pub length-structs_laid : (d p : ℕ) (e : Section) (es : List Section) → AllByRecursion (IsWide d p) (e ∷ es)
    → length (structs_laid (e ∷ es)).object ≡ 8 * (1 + (d + p) * length (e ∷ es) + words (element_objects (e ∷ es)))
unfolding structs_laid
length-structs_laid d p e es h =
    let n = length (e ∷ es) in
    let w-is : section_words e ≡ d + p = omega (arith, h.0.words_is, h.0.pointers_is) in
    let tag = little_bytes 8 (struct_pointer (words e.data_bytes) (length e.behind) n) in
    let elements = element_sections (section_words e) 0 (e ∷ es) in
    let long : length elements ≡ 8 * (section_words e * n) = length-element_sections d p (section_words e) 0 (e ∷ es) w-is h in
    let product : section_words e * n ≡ (d + p) * n = ap (λ (k : ℕ). k * n) w-is in
    omega (arith, product, length-append (tag ++ elements) (element_objects (e ∷ es)), length-append tag elements, length-bytes_low_first 0 8 (struct_pointer (words e.data_bytes) (length e.behind) n), long, (whole-element_objects d p (e ∷ es) h).long)

pub whole-structs_laid : (d p : ℕ) (es : List Section) → AllByRecursion (IsWide d p) es → Whole (structs_laid es).object
unfolding structs_laid
whole-structs_laid d p [] h = whole_by [] 0 refl
whole-structs_laid d p (e ∷ es) h = whole_by (structs_laid (e ∷ es)).object _ (length-structs_laid d p e es h)

-- the sections of the elements stand behind the tag
pub list_sections : (S : List ℕ) (d p at : ℕ) (e : Section) (es : List Section) → AllByRecursion (IsWide d p) (e ∷ es) → Stands S at (structs_laid (e ∷ es)).object
    → HasSections S (section_words e) (at + 1) 0 (e ∷ es)
unfolding structs_laid
list_sections S d p at e es h stands =
    let n = length (e ∷ es) in
    let w-is : section_words e ≡ d + p = omega (arith, h.0.words_is, h.0.pointers_is) in
    let tag = little_bytes 8 (struct_pointer (words e.data_bytes) (length e.behind) n) in
    let elements = element_sections (section_words e) 0 (e ∷ es) in
    let long : length elements ≡ 8 * (section_words e * n) = length-element_sections d p (section_words e) 0 (e ∷ es) w-is h in
    let tag_long = length-bytes_low_first 0 8 (struct_pointer (words e.data_bytes) (length e.behind) n) in
    record {
      sections = stands_behind S at 1 tag elements tag_long (stands_front S at (tag ++ elements) (element_objects (e ∷ es)) stands);
      behind =
          let both : length (tag ++ elements) ≡ 8 * (1 + section_words e * n) = omega (arith, length-append tag elements, tag_long, long) in
          let k : at + (1 + section_words e * n) ≡ at + 1 + section_words e * n + 0 = omega arith in
          subst (λ (m : ℕ). Stands S m (element_objects (e ∷ es))) k (stands_behind S at (1 + section_words e * n) (tag ++ elements) (element_objects (e ∷ es)) both stands);
    }
