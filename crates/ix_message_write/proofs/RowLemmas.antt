-- Numbers written one after another.
use Rattle.std.proofs.Common.{◌≡◌, ◌<◌, ◌≤◌, ◌+◌, ◌-◌, ◌*◌, ◌%◌, ◌++◌, ◌∙◌, [], ◌∷◌, ℕ, List, length, take, drop, get_or, replicate, ap, sym, refl, arith, append_assoc, length-append, length-drop}
use Rattle.std.proofs.lemmas.List.{drop-drop, length-take, take-append-drop, take_more, append-nil, take_all}
use Rattle.byteorder.specs.Endian.{little_bytes}
use Rattle.byteorder.specs.Numbers.{length-bytes_low_first}
use Rattle.ix_message.specs.Layout.{number_bytes, data_section}
use Rattle.ix_message.proofs.Stands.{length-number_bytes}
use Rattle.ix_capw.specs.Growth.{written, IsSegment}
use Rattle.ix_message_write.proofs.Laid.{written_over, length-written}

-- bytes written behind those written just before
pub written_next : (S a b : List ℕ) (p n k : ℕ) → length a ≡ n → p + n + k ≤ length S → written (p + n) k b (written p n a S) ≡ written p (n + k) (a ++ b) S
written_next S a b p n k long inside =
    let rest = drop (p + n) S in
    let Z = take k rest in
    let B = drop k rest in
    let front = take p S ++ a in
    let parts : written p n a S ≡ front ++ (Z ++ B) = sym (append_assoc (take p S) a rest) ∙ ap (λ (r : List ℕ). front ++ r) (sym (take-append-drop k rest)) in
    let at : length front ≡ p + n = omega (arith, length-append (take p S) a, length-take p S) in
    let Z_long : length Z ≡ k = omega (arith, length-take k rest, length-drop (p + n) S) in
    let end : B ≡ drop (p + (n + k)) S = drop-drop k (p + n) S ∙ (let e : p + n + k ≡ p + (n + k) = omega arith in ap (λ (m : ℕ). drop m S) e) in
    ap (written (p + n) k b) parts ∙ written_over front Z B b (p + n) k at Z_long ∙ ap (λ (r : List ℕ). front ++ (b ++ r)) end ∙ simp append_assoc

number_bytes-push : (ns : List ℕ) (n : ℕ) → number_bytes (ns ++ n ∷ []) ≡ number_bytes ns ++ little_bytes 4 n
number_bytes-push [] n = append-nil (little_bytes 4 n)
number_bytes-push (m ∷ ns) n = ap (λ (b : List ℕ). little_bytes 4 m ++ b) (number_bytes-push ns n) ∙ sym (append_assoc (little_bytes 4 m) (number_bytes ns) (little_bytes 4 n))

pub record RowSoFar (p i : ℕ) (row first now : List ℕ) : Type 0 where
  pub made : now ≡ written p (4 * i) (number_bytes (take i row)) first
  pub len : length now ≡ length first
  pub segment : IsSegment now

pub row_none : (p : ℕ) (row S : List ℕ) → IsSegment S → RowSoFar p 0 row S S
row_none p row S segment = record { made = sym (ap (λ (k : ℕ). take p S ++ drop k S) (let e : p + 0 ≡ p = omega arith in e) ∙ take-append-drop p S); len = refl; segment = segment }

pub row_turn : (p i n : ℕ) (row first now after : List ℕ) → i < length row → p + 4 * length row ≤ length first → n ≡ get_or row i 0 → RowSoFar p i row first now
    → after ≡ written (p + 4 * i) 4 (little_bytes 4 n) now → IsSegment after → RowSoFar p (i + 1) row first after
row_turn p i n row first now after lt inside is so_far wrote segment =
    let front = number_bytes (take i row) in
    let long : length front ≡ 4 * i = omega (arith, length-number_bytes (take i row), length-take i row) in
    let more : take (i + 1) row ≡ take i row ++ n ∷ [] = take_more row i 0 lt ∙ ap (λ (k : ℕ). take i row ++ k ∷ []) (sym is) in
    let count : 4 * i + 4 ≡ 4 * (i + 1) = omega arith in
    record {
      made = wrote ∙ ap (written (p + 4 * i) 4 (little_bytes 4 n)) so_far.made ∙ written_next first front (little_bytes 4 n) p (4 * i) 4 long (omega arith)
          ∙ ap (λ (b : List ℕ). written p (4 * i + 4) b first) (sym (ap number_bytes more ∙ number_bytes-push (take i row) n))
          ∙ ap (λ (k : ℕ). written p k (number_bytes (take (i + 1) row)) first) count;
      len = ap length wrote ∙ length-written (p + 4 * i) 4 (little_bytes 4 n) now (length-bytes_low_first 0 4 n) (omega (arith, so_far.len)) ∙ so_far.len;
      segment = segment;
    }

pub row_done : (p i : ℕ) (row first now : List ℕ) → length row ≤ i → i ≤ length row → RowSoFar p i row first now → now ≡ written p (4 * length row) (number_bytes row) first
row_done p i row first now le ge so_far =
    let same : i ≡ length row = omega arith in
    so_far.made ∙ ap (λ (k : ℕ). written p (4 * k) (number_bytes (take k row)) first) same ∙ ap (λ (r : List ℕ). written p (4 * length row) (number_bytes r) first) (take_all (length row) row (omega arith))

-- the whole data section, whose last half word is zero
pub section_even : (row : List ℕ) → length row % 2 ≡ 0 → number_bytes row ≡ data_section row
section_even row even =
    let none : (8 - length (number_bytes row) % 8) % 8 ≡ 0 = omega (arith, length-number_bytes row) in
    sym (ap (λ (k : ℕ). number_bytes row ++ replicate k 0) none ∙ append-nil (number_bytes row))

pub section_odd : (row : List ℕ) → length row % 2 ≡ 1 → number_bytes row ++ little_bytes 4 0 ≡ data_section row
section_odd row odd =
    let four : (8 - length (number_bytes row) % 8) % 8 ≡ 4 = omega (arith, length-number_bytes row) in
    sym (ap (λ (k : ℕ). number_bytes row ++ replicate k 0) four)
