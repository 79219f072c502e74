-- The numbers of a data section.
use Rattle.std.proofs.Common.{◌≡◌, ◌<◌, ◌≤◌, ◌+◌, ◌*◌, ◌^◌, ℕ, List, [], ◌∷◌, ◌++◌, length, drop, refl, ap, ◌∙◌, arith, append_assoc}
use Rattle.std.proofs.lemmas.List.{drop_at}
use Rattle.std.proofs.lemmas.Bool.{lt-ltb}
use Rattle.byteorder.specs.Endian.{little_bytes, little_number}
use Rattle.byteorder.specs.Numbers.{little_number-reads_back, length-bytes_low_first}
use Rattle.ix_frame.specs.Target.{Object}
use Rattle.ix_frame.specs.Objects.{u32_in}
use Rattle.ix_message.specs.Shape.{Field}
use Rattle.ix_message.specs.Reading.{number_of, row_at}
use Rattle.ix_message.specs.Layout.{number_bytes}
use Rattle.ix_message.proofs.Stands.{drop_twice}

-- numbers as they stand in a data section of these fields
abbrev pub AreNumbers : List Field → List ℕ → Type 0
AreNumbers [] [] = Unit {0}
AreNumbers [] (n ∷ ns) = ⊥
AreNumbers (f ∷ fs) [] = ⊥
AreNumbers (f ∷ fs) (n ∷ ns) = (n < 256 ^ 4) × (number_of f.kind n ≡ n) × AreNumbers fs ns

abbrev pub struct_here : List ℕ → ℕ → ℕ → ℕ → Object
struct_here S start data_words pointer_words = record { segments = S ∷ []; segment = 0; start = start; data_words = data_words; pointer_words = pointer_words }

pub row_again : (fields : List Field) (row : List ℕ) (S : List ℕ) (start dw pw slot : ℕ) (back : List ℕ) → AreNumbers fields row
    → drop (8 * start + 4 * slot) S ≡ number_bytes row ++ back → slot + length row ≤ 2 * dw → row_at fields slot (struct_here S start dw pw) ≡ row
unfolding row_at u32_in
row_again [] [] S start dw pw slot back h here le = refl
row_again [] (n ∷ ns) S start dw pw slot back h here le = absurd h
row_again (f ∷ fs) [] S start dw pw slot back h here le = absurd h
row_again (f ∷ fs) (n ∷ ns) S start dw pw slot back h here le =
    let inside : slot < 2 * dw = omega arith in
    let at : drop (8 * start + 4 * slot) S ≡ little_bytes 4 n ++ (number_bytes ns ++ back) = here ∙ append_assoc (little_bytes 4 n) (number_bytes ns) back in
    let first : u32_in (struct_here S start dw pw) slot ≡ n = rw (lt-ltb slot (2 * dw) inside) (ap (little_number 4) at ∙ little_number-reads_back 4 n (number_bytes ns ++ back) h.0) in
    let e : 8 * start + 4 * (slot + 1) ≡ (8 * start + 4 * slot) + 4 = omega arith in
    let next : drop (8 * start + 4 * (slot + 1)) S ≡ number_bytes ns ++ back = ap (λ (k : ℕ). drop k S) e ∙ drop_twice (8 * start + 4 * slot) 4 S ∙ ap (drop 4) at ∙ drop_at (little_bytes 4 n) (number_bytes ns ++ back) 4 (length-bytes_low_first 0 4 n) in
    let rest = row_again fs ns S start dw pw (slot + 1) back h.2 next (omega arith) in
    let head : number_of f.kind (u32_in (struct_here S start dw pw) slot) ≡ n = ap (number_of f.kind) first ∙ h.1 in
    λ i. head i ∷ rest i
