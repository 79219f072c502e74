-- What is behind a pointer that stands in a segment.
use Rattle.std.proofs.Common.{◌≡◌, ◌<◌, ◌≤◌, ◌+◌, ◌-◌, ◌*◌, ◌/◌, ◌^◌, ℕ, List, [], ◌∷◌, ◌++◌, length, drop, true, false, refl, ap, ◌∙◌, arith, length-append, eqb, ltb, eq-eqb, take}
use Rattle.std.specs.Prelude.{Some, None, Ok, Bool, max, slice_index}
use Rattle.std.proofs.lemmas.List.{take_at}
use Rattle.std.proofs.Math.Seq.{get_or-append_seam}
use Rattle.std.specs.Str.{is_utf8}
use Rattle.std.proofs.lemmas.Bool.{lt-ltb, le-leb, eqb-true}
use Rattle.byteorder.specs.Endian.{little_bytes}
use Rattle.ix_frame.specs.Segments.{word_at}
use Rattle.ix_frame.specs.Target.{Elements, Pointed, target, placed, struct_target, list_target, composite_target, kind_of, offset_of, data_words_of, pointer_words_of, element_size_of, element_count_of, list_words}
use Rattle.ix_frame.specs.Objects.{struct_found, struct_behind, elements_found, elements_behind, list_found, list_behind, text_of, text_found, text_behind, charged, plain_cost, composite_cost}
use Rattle.ix_message.specs.Layout.{struct_pointer, list_pointer}
use Rattle.ix_message.proofs.Pointer.{StructParts, struct_parts, list_parts}
use Rattle.ix_message.proofs.Stands.{Stands, word_stands, words_inside}
use Rattle.ix_message.proofs.Rows.{struct_here}

abbrev pub pointed_here : ℕ → ℕ → Pointed
pointed_here word start = record { described = word; segment = 0; start = Some start }

pub not_zero : (w : ℕ) → 0 < w → eqb w 0 ≡ false
not_zero w h = go (eqb w 0) refl
  where
    go : (b : Bool) → eqb w 0 ≡ b → b ≡ false
    go true e = absurd (omega (arith, eqb-true w 0 e))
    go false e = refl

pub target_here : (S : List ℕ) (q w gap : ℕ) → w < 256 ^ 8 → 0 < w → kind_of w < 2 → offset_of w ≡ gap → gap < 2 ^ 29
    → Stands S q (little_bytes 8 w) → target (S ∷ []) 0 q ≡ Ok (Some (pointed_here w (q + 1 + gap)))
unfolding target
target_here S q w gap below some kind offset small h =
    let word : word_at S q ≡ w = word_stands S q w below h in
    let nonzero : eqb w 0 ≡ false = not_zero w some in
    rw (word, nonzero, lt-ltb (kind_of w) 2 kind, offset, lt-ltb gap (2 ^ 29) small) refl

-- the object's cost fits the budget
pub charged_here : (cost budget : ℕ) → cost ≤ budget → charged cost budget ≡ Ok (budget - cost)
charged_here cost budget le = rw (le-leb cost budget le) refl

pub struct_target_here : (S : List ℕ) (w start d p : ℕ) → kind_of w ≡ 0 → data_words_of w ≡ d → pointer_words_of w ≡ p → 8 * (start + (d + p)) ≤ length S
    → struct_target (S ∷ []) (pointed_here w start) ≡ Ok (struct_here S start d p, d + p)
unfolding struct_target placed
struct_target_here S w start d p kind dw pw inside = rw (kind, dw, pw, words_inside S start (d + p) inside) refl

pub struct_here_again : (S : List ℕ) (q gap d p budget : ℕ) → d < 2 ^ 16 → p < 2 ^ 16 → gap < 2 ^ 29 → 0 < d + p → 8 * (q + 1 + gap + (d + p)) ≤ length S → d + p ≤ budget
    → Stands S q (little_bytes 8 (struct_pointer d p gap)) → struct_behind (S ∷ []) 0 q budget ≡ Ok (struct_here S (q + 1 + gap) d p, budget - (d + p))
unfolding struct_behind struct_found
struct_here_again S q gap d p budget hd hp hg some inside cheap h =
    let parts = struct_parts d p gap hd hp (omega arith) in
    let w = struct_pointer d p gap in
    let found = target_here S q w gap parts.below (omega arith) (omega (arith, parts.kind)) parts.offset hg h in
    let meant = struct_target_here S w (q + 1 + gap) d p parts.kind parts.data_words parts.pointer_words inside in
    let plain : max 1 (d + p) ≡ d + p = omega arith in
    let paid : charged (plain_cost (d + p)) budget ≡ Ok (budget - (d + p)) = rw plain (charged_here (d + p) budget cheap) in
    rw (found, meant, paid) refl

-- a zero word is the default
pub target_none : (S : List ℕ) (q : ℕ) → Stands S q (little_bytes 8 0) → target (S ∷ []) 0 q ≡ Ok None
unfolding target
target_none S q h = let word : word_at S q ≡ 0 = word_stands S q 0 (omega arith) h in rw word refl

abbrev pub elements_here : List ℕ → ℕ → ℕ → ℕ → ℕ → Elements
elements_here S start n d p = record { count = n; first = struct_here S start d p }

pub composite_target_here : (S : List ℕ) (w start words n d p : ℕ) → kind_of w ≡ 1 → element_size_of w ≡ 7 → element_count_of w ≡ words → 8 * (start + (words + 1)) ≤ length S
    → StructParts d p n → Stands S start (little_bytes 8 (struct_pointer d p n)) → n * (d + p) ≤ words
    → composite_target (S ∷ []) (pointed_here w start) ≡ Ok (elements_here S (start + 1) n d p, words)
unfolding composite_target placed
composite_target_here S w start words n d p kind size count inside parts h fit =
    let tag : word_at S start ≡ struct_pointer d p n = word_stands S start (struct_pointer d p n) parts.below h in
    rw (kind, size, count, words_inside S start (words + 1) inside, tag, parts.kind, parts.offset, parts.data_words, parts.pointer_words, le-leb (n * (d + p)) words fit) refl

pub elements_here_again : (S : List ℕ) (q gap words n d p budget : ℕ) → d < 2 ^ 16 → p < 2 ^ 16 → gap < 2 ^ 29 → words < 2 ^ 29 → n < 2 ^ 30 → 0 < d + p → n * (d + p) ≤ words
    → 8 * (q + 1 + gap + (words + 1)) ≤ length S → 1 + words ≤ budget
    → Stands S q (little_bytes 8 (list_pointer 7 words gap)) → Stands S (q + 1 + gap) (little_bytes 8 (struct_pointer d p n))
    → elements_behind (S ∷ []) 0 q budget ≡ Ok (elements_here S (q + 1 + gap + 1) n d p, budget - (1 + words))
unfolding elements_behind elements_found
elements_here_again S q gap words n d p budget hd hp hg hw hn some fit inside cheap h tagged =
    let parts = list_parts 7 words gap (omega arith) hw (omega arith) in
    let w = list_pointer 7 words gap in
    let found = target_here S q w gap parts.below (omega arith) (omega (arith, parts.kind)) parts.offset hg h in
    let meant = composite_target_here S w (q + 1 + gap) words n d p parts.kind parts.size_is parts.count_is inside (struct_parts d p n hd hp hn) tagged fit in
    let nonzero : eqb (d + p) 0 ≡ false = not_zero (d + p) some in
    let cost : composite_cost (elements_here S (q + 1 + gap + 1) n d p) words ≡ 1 + words = rw nonzero (omega arith) in
    let paid : charged (composite_cost (elements_here S (q + 1 + gap + 1) n d p) words) budget ≡ Ok (budget - (1 + words)) = rw cost (charged_here (1 + words) budget cheap) in
    rw (found, meant, paid) refl

pub list_target_here : (S : List ℕ) (size w start n words : ℕ) → kind_of w ≡ 1 → element_size_of w ≡ size → element_count_of w ≡ n → list_words size n ≡ words → 8 * (start + words) ≤ length S
    → list_target size (S ∷ []) (pointed_here w start) ≡ Ok (elements_here S start n 0 0, words)
unfolding list_target placed
list_target_here S size w start n words kind sized count long inside =
    rw (kind, sized, eq-eqb size size refl, count, long, words_inside S start words inside) refl

pub list_found_here : (S : List ℕ) (size w start n words budget : ℕ) → kind_of w ≡ 1 → element_size_of w ≡ size → element_count_of w ≡ n → list_words size n ≡ words → 0 < words
    → 8 * (start + words) ≤ length S → words ≤ budget → list_found size (S ∷ []) budget (Some (pointed_here w start)) ≡ Ok (elements_here S start n 0 0, budget - words)
unfolding list_found
list_found_here S size w start n words budget kind sized count long some inside cheap =
    let meant = list_target_here S size w start n words kind sized count long inside in
    let plain : max 1 words ≡ words = omega arith in
    let paid : charged (plain_cost words) budget ≡ Ok (budget - words) = rw plain (charged_here words budget cheap) in
    rw (meant, paid) refl

pub list_here_again : (S : List ℕ) (size q gap n words budget : ℕ) → size < 7 → gap < 2 ^ 29 → n < 2 ^ 29 → list_words size n ≡ words → 0 < words → 8 * (q + 1 + gap + words) ≤ length S → words ≤ budget
    → Stands S q (little_bytes 8 (list_pointer size n gap)) → list_behind size (S ∷ []) 0 q budget ≡ Ok (elements_here S (q + 1 + gap) n 0 0, budget - words)
unfolding list_behind
list_here_again S size q gap n words budget hs hg hn long some inside cheap h =
    let parts = list_parts size n gap (omega arith) hn (omega arith) in
    let w = list_pointer size n gap in
    let found = target_here S q w gap parts.below (omega arith) (omega (arith, parts.kind)) parts.offset hg h in
    let meant = list_found_here S size w (q + 1 + gap) n words budget parts.kind parts.size_is parts.count_is long some inside cheap in
    rw (found, meant) refl

-- the bytes of a text and its NUL
pub text_of_again : (t : List ℕ) → is_utf8 t ≡ true → text_of (t ++ 0 ∷ []) ≡ Ok t
unfolding text_of
text_of_again t utf8 =
    let len : length (t ++ 0 ∷ []) ≡ length t + 1 = omega (arith, length-append t (0 ∷ [])) in
    let front : length (t ++ 0 ∷ []) - 1 ≡ length t = omega (arith, len) in
    let filled : ltb 0 (length (t ++ 0 ∷ [])) ≡ true = lt-ltb 0 (length (t ++ 0 ∷ [])) (omega (arith, len)) in
    let taken : take (length t) (t ++ 0 ∷ []) ≡ t = take_at t (0 ∷ []) (length t) refl in
    let last : slice_index (t ++ 0 ∷ []) (length t) ≡ 0 = get_or-append_seam t 0 [] 0 in
    rw (filled, front, taken, last, utf8) refl

pub text_here_again : (S : List ℕ) (q gap : ℕ) (t : List ℕ) (budget : ℕ) → is_utf8 t ≡ true → gap < 2 ^ 29 → length t < 2 ^ 29 - 1 → 8 * (q + 1 + gap + (length t + 8) / 8) ≤ length S → (length t + 8) / 8 ≤ budget
    → Stands S q (little_bytes 8 (list_pointer 2 (length t + 1) gap)) → Stands S (q + 1 + gap) (t ++ 0 ∷ []) → text_behind (S ∷ []) 0 q budget ≡ Ok (t, budget - (length t + 8) / 8)
unfolding text_behind text_found
text_here_again S q gap t budget utf8 hg short inside cheap h here =
    let n = length t + 1 in
    let parts = list_parts 2 n gap (omega arith) (omega arith) (omega arith) in
    let w = list_pointer 2 n gap in
    let found = target_here S q w gap parts.below (omega arith) (omega (arith, parts.kind)) parts.offset hg h in
    let long : list_words 2 n ≡ (length t + 8) / 8 = ap (λ (k : ℕ). k / 8) (omega arith) in
    let meant = list_found_here S 2 w (q + 1 + gap) n ((length t + 8) / 8) budget parts.kind parts.size_is parts.count_is long (omega arith) inside cheap in
    let len : length (t ++ 0 ∷ []) ≡ n = length-append t (0 ∷ []) in
    let bytes : take n (drop (8 * (q + 1 + gap)) S) ≡ t ++ 0 ∷ [] = ap (take n) here.here ∙ take_at (t ++ 0 ∷ []) here.back n len in
    rw (found, meant, bytes, text_of_again t utf8) refl
