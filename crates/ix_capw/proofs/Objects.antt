-- Objects at the end of a segment, and the pointers that lead to them.
use Rattle.std.proofs.Common.{◌≡◌, ◌<◌, ◌≤◌, ◌+◌, ◌-◌, ◌*◌, ◌/◌, ◌%◌, ◌++◌, ◌∙◌, [], ◌∷◌, ℕ, List, Bool, true, false, length, take, drop, replicate, ap, sym, refl, arith, append_assoc, length-append, IsTrue, inl, inr, suc, length-drop}
use Rattle.std.specs.Prelude.{nat_le, not, ◌||◌, ◌==◌}
use Rattle.std.proofs.lemmas.Bool.{le-leb, lt-leb, cases_lt, eqb-true}
use Rattle.std.proofs.lemmas.List.{take_at, drop_at, drop-drop, drop-replicate, length-take, drop-append-le, drop-take}
use Rattle.byteorder.specs.Endian.{little_bytes}
use Rattle.byteorder.specs.Numbers.{length-bytes_low_first}
use Rattle.ix_message.specs.Layout.{Laid, padded, number_bytes, nothing_laid, numbers_laid}
use Rattle.ix_message.proofs.Stands.{length-padded, length-number_bytes}
use Rattle.ix_capw.specs.Frame.{words_in, too_many_words}
use Rattle.ix_capw.specs.Growth.{written, too_long, some_numbers}

-- ---- too long

pub refused_words : (x : Laid) (S : List ℕ) → too_many_words ≤ words_in S + words_in x.object → IsTrue (too_long x S)
refused_words x S le = let e : nat_le too_many_words (words_in S + words_in x.object) ≡ true = le-leb _ _ le in rw e refl

pub refused_count : (x : Laid) (S : List ℕ) → x.fits ≡ false → IsTrue (too_long x S)
refused_count x S e = go (nat_le too_many_words (words_in S + words_in x.object)) x.fits e
  where
    go : (b f : Bool) → f ≡ false → IsTrue (b || not f)
    go true f e = refl
    go false true e = absurd cc
    go false false e = refl

pub taken : (x : Laid) (S : List ℕ) → words_in S + words_in x.object < too_many_words → x.fits ≡ true → too_long x S ≡ false
taken x S lt e = let few : nat_le too_many_words (words_in S + words_in x.object) ≡ false = lt-leb _ _ lt in rw (few, e) refl

-- ---- pointers

length-written : (place n : ℕ) (bytes S : List ℕ) → length bytes ≡ n → place + n ≤ length S → length (written place n bytes S) ≡ length S
length-written place n bytes S len inside =
    omega (arith, length-append (take place S) (bytes ++ drop (place + n) S), length-append bytes (drop (place + n) S), length-take place S, length-drop (place + n) S)

-- zero bytes at the end become others
written_behind : (A bytes : List ℕ) (n m place : ℕ) → length A ≡ place → length bytes ≡ n → n ≤ m
    → written place n bytes (A ++ replicate m 0) ≡ A ++ (bytes ++ replicate (m - n) 0)
written_behind A bytes n m place at len le =
    let front : take place (A ++ replicate m 0) ≡ A = take_at A (replicate m 0) place at in
    let back : drop (place + n) (A ++ replicate m 0) ≡ replicate (m - n) 0 =
    sym (drop-drop n place (A ++ replicate m 0)) ∙ ap (drop n) (drop_at A (replicate m 0) place at) ∙ drop-replicate n m 0 in
    ap (λ (t : List ℕ). t ++ (bytes ++ drop (place + n) (A ++ replicate m 0))) front ∙ ap (λ (t : List ℕ). A ++ (bytes ++ t)) back

-- An object whose first bytes are written over zeros, behind a segment in which its pointer is set.
pub put_behind : (S S1 S2 bytes : List ℕ) (w n1 n2 k m place : ℕ) → length S % 8 ≡ 0 → 8 * (w + 1) ≤ length S → place ≡ 8 * words_in S
    → n1 ≡ n2 → length bytes ≡ k → k ≤ m
    → S1 ≡ written (8 * w) 8 (little_bytes 8 n1) S ++ replicate m 0 → S2 ≡ written place k bytes S1
    → S2 ≡ written (8 * w) 8 (little_bytes 8 n2) S ++ (bytes ++ replicate (m - k) 0)
put_behind S S1 S2 bytes w n1 n2 k m place whole inside at same long le one two =
    let A = written (8 * w) 8 (little_bytes 8 n1) S in
    let len : length A ≡ length S = length-written (8 * w) 8 (little_bytes 8 n1) S (length-bytes_low_first 0 8 n1) (omega arith) in
    let where_is : length A ≡ place = omega (arith, len) in
    two ∙ ap (written place k bytes) one ∙ written_behind A bytes k m place where_is long le
    ∙ ap (λ (n : ℕ). written (8 * w) 8 (little_bytes 8 n) S ++ (bytes ++ replicate (m - k) 0)) same

-- ---- texts and numbers

pub text_rest : (t : List ℕ) → t ++ replicate (8 * (length t / 8 + 1) - length t) 0 ≡ padded (t ++ 0 ∷ [])
text_rest t =
    let n = length (t ++ 0 ∷ []) in
    let long : n ≡ length t + 1 = length-append t (0 ∷ []) in
    let count : 8 * (length t / 8 + 1) - length t ≡ suc ((8 - n % 8) % 8) = omega (arith, long) in
    ap (λ (k : ℕ). t ++ replicate k 0) count ∙ sym (append_assoc t (0 ∷ []) (replicate ((8 - n % 8) % 8) 0))

pub numbers_rest : (v : List ℕ) → number_bytes v ++ replicate (8 * (length v / 2 + length v % 2) - 4 * length v) 0 ≡ padded (number_bytes v)
numbers_rest v =
    let long : length (number_bytes v) ≡ 4 * length v = length-number_bytes v in
    let count : 8 * (length v / 2 + length v % 2) - 4 * length v ≡ (8 - length (number_bytes v) % 8) % 8 = omega (arith, long) in
    ap (λ (k : ℕ). number_bytes v ++ replicate k 0) count

pub none_of : (v : List ℕ) → (length v == 0) ≡ true → length v ≡ 0
none_of v e = eqb-true (length v) 0 e

pub some_of : (v : List ℕ) → (length v == 0) ≡ false → 0 < length v
some_of [] e = absurd cc
some_of (n ∷ ns) e = omega arith

-- what a test that failed says
pub not_below : (r : Bool) (a b : ℕ) → (a < b → r ≡ true) → r ≡ false → b ≤ a
not_below r a b h e = elim (cases_lt a b) [ inl lt ↦ (let t : r ≡ true = h lt in absurd cc) | inr le ↦ le ]

pub numbers_laid_none : (v : List ℕ) → length v ≡ 0 → numbers_laid v ≡ nothing_laid
unfolding numbers_laid
numbers_laid_none [] e = refl
numbers_laid_none (n ∷ ns) e = absurd (omega arith)

pub numbers_laid_some : (v : List ℕ) → 0 < length v → numbers_laid v ≡ some_numbers v
unfolding numbers_laid
numbers_laid_some [] lt = absurd (omega arith)
numbers_laid_some (n ∷ ns) lt = refl

pub words-some_numbers : (v : List ℕ) → words_in (some_numbers v).object ≡ length v / 2 + length v % 2
words-some_numbers v = omega (arith, length-padded (number_bytes v), length-number_bytes v)

-- ---- the segment behind the header of 8 bytes

pub view_written : (items bytes : List ℕ) (place n : ℕ) → 8 + place ≤ length items → drop 8 (written (8 + place) n bytes items) ≡ written place n bytes (drop 8 items)
view_written items bytes place n le =
    let rest = bytes ++ drop (8 + place + n) items in
    let long : 8 ≤ length (take (8 + place) items) = omega (arith, length-take (8 + place) items) in
    let back : drop (8 + place + n) items ≡ drop (place + n) (drop 8 items) = (let e : 8 + place + n ≡ 8 + (place + n) = omega arith in ap (λ (k : ℕ). drop k items) e) ∙ sym (drop-drop (place + n) 8 items) in
    drop-append-le 8 (take (8 + place) items) rest long
    ∙ ap (λ (t : List ℕ). t ++ rest) (drop-take 8 place items)
    ∙ ap (λ (t : List ℕ). take place (drop 8 items) ++ (bytes ++ t)) back
