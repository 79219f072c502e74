-- Bytes that stand at a word of a segment.
use Rattle.std.proofs.Common.{◌≡◌, ◌<◌, ◌≤◌, ◌+◌, ◌-◌, ◌*◌, ◌/◌, ◌%◌, ◌^◌, ℕ, List, [], ◌∷◌, ◌++◌, length, drop, replicate, true, refl, sym, ap, ◌∙◌, arith, append_assoc, length-append}
use Rattle.std.proofs.lemmas.List.{drop_at, drop-drop, length-replicate}
use Rattle.std.proofs.lemmas.Bool.{le-leb}
use Rattle.byteorder.specs.Endian.{little_bytes, little_number}
use Rattle.byteorder.specs.Numbers.{little_number-reads_back, length-bytes_low_first}
use Rattle.ix_frame.specs.Segments.{word_at, has_words}
use Rattle.ix_message.specs.Layout.{padded, number_bytes}

pub record Stands (S : List ℕ) (p : ℕ) (B : List ℕ) : Type 0 where
  pub back : List ℕ
  pub here : drop (8 * p) S ≡ B ++ back
  pub inside : 8 * p + length B ≤ length S

pub drop_twice : (a b : ℕ) (xs : List ℕ) → drop (a + b) xs ≡ drop b (drop a xs)
drop_twice a b xs = sym (drop-drop b a xs)

pub stands_front : (S : List ℕ) (p : ℕ) (A B : List ℕ) → Stands S p (A ++ B) → Stands S p A
stands_front S p A B h = record {
  back = B ++ h.back;
  here = h.here ∙ append_assoc A B h.back;
  inside = omega (arith, h.inside, length-append A B);
}

pub stands_behind : (S : List ℕ) (p a : ℕ) (A B : List ℕ) → length A ≡ 8 * a → Stands S p (A ++ B) → Stands S (p + a) B
stands_behind S p a A B len h = record {
  back = h.back;
  here =
      let e : 8 * (p + a) ≡ 8 * p + 8 * a = omega arith in
      ap (λ (n : ℕ). drop n S) e ∙ drop_twice (8 * p) (8 * a) S ∙ ap (drop (8 * a)) (h.here ∙ append_assoc A B h.back) ∙ drop_at A (B ++ h.back) (8 * a) len;
  inside = omega (arith, h.inside, length-append A B);
}

pub word_stands : (S : List ℕ) (p w : ℕ) → w < 256 ^ 8 → Stands S p (little_bytes 8 w) → word_at S p ≡ w
word_stands S p w lt h = ap (little_number 8) h.here ∙ little_number-reads_back 8 w h.back lt

pub words_inside : (S : List ℕ) (p n : ℕ) → 8 * (p + n) ≤ length S → has_words (S ∷ []) 0 p n ≡ true
words_inside S p n le = le-leb (8 * (p + n)) (length S) le

pub length-padded : (bytes : List ℕ) → length (padded bytes) ≡ 8 * ((length bytes + 7) / 8)
length-padded bytes = let k = (8 - length bytes % 8) % 8 in omega (arith, length-append bytes (replicate k 0), length-replicate {A = ℕ} k 0)

pub length-number_bytes : (ns : List ℕ) → length (number_bytes ns) ≡ 4 * length ns
length-number_bytes [] = refl
length-number_bytes (n ∷ ns) = omega (arith, length-append (little_bytes 4 n) (number_bytes ns), length-bytes_low_first 0 4 n, length-number_bytes ns)
