-- Texts of bus bits, taken apart.
use Rattle.std.proofs.Common.{◌≡◌, ◌≢◌, ◌<◌, ◌≤◌, ◌^◌, ◌∙◌, ap, sym, ℕ, List, [], ◌∷◌, ◌++◌, Option}
use Rattle.std.proofs.Common.{Some, None, MatchOption, Bor, arith}
use Rattle.std.proofs.lemmas.List.{append_cancel_left, append_cancel_right}
use Rattle.std.proofs.lemmas.Fmt.{decimal_injective}
use Rattle.std.specs.Fmt.{decimal}
use Rattle.ix_open_inputs.specs.Spelling.{bit_written, IsNumberOf}

pub digits_same : (name one other : List ℕ) → bit_written name one ≡ bit_written name other
    → one ≡ other
digits_same name one other same = append_cancel_right one other (93 ∷ [])
    (append_cancel_left (91 ∷ []) (one ++ 93 ∷ []) (other ++ 93 ∷ [])
    (append_cancel_left name (91 ∷ (one ++ (93 ∷ []))) (91 ∷ (other ++ (93 ∷ []))) same))

pub no_bracket : (text name behind : List ℕ) → text ≡ name ++ behind
    → ((rest : List ℕ) → behind ≢ 91 ∷ rest) → (digits : List ℕ)
    → text ≡ bit_written name digits → ⊥
no_bracket text name behind is none digits same = none (digits ++ 93 ∷ [])
    (append_cancel_left name behind (91 ∷ (digits ++ (93 ∷ []))) (sym is ∙ same))

pub bracketed : (text name behind inner : List ℕ) (r : Option (Bor (List ℕ)))
    → text ≡ name ++ behind → behind ≡ 91 ∷ inner
    → MatchOption r ((front : List ℕ) → inner ≢ front ++ 93 ∷ [])
    (λ front. inner ≡ front.now ++ 93 ∷ [])
    → MatchOption r ((digits : List ℕ) → text ≢ bit_written name digits)
    (λ digits. text ≡ bit_written name digits.now)
bracketed text name behind inner None is then none = λ digits same. none digits
    (append_cancel_left (91 ∷ []) inner (digits ++ 93 ∷ []) (sym then
    ∙ append_cancel_left name behind (91 ∷ (digits ++ (93 ∷ []))) (sym is ∙ same)))
bracketed text name behind inner (Some front) is then some =
    is ∙ ap (λ b. name ++ b) (then ∙ ap (λ i. 91 ∷ i) some)

-- no other number is written so
pub not_another : (text name digits : List ℕ) (found : Option ℕ) (bound index : ℕ)
    → text ≡ bit_written name digits → IsNumberOf digits found → bound ≤ 2 ^ 32 → index < bound
    → ((n : ℕ) → found ≡ Some n → (bound ≤ n) × (n < 2 ^ 64))
    → text ≡ bit_written name (decimal index) → ⊥
not_another text name digits None bound index is none most below far same =
    none index (omega (arith, most, below)) (digits_same name digits (decimal index) (sym is
    ∙ same))
not_another text name digits (Some n) bound index is written most below far same =
    let past = far n (λ i. Some n) in
    let equal : n ≡ index = decimal_injective n index (omega (arith, past.1))
    (omega (arith, most, below))
    (sym written ∙ digits_same name digits (decimal index) (sym is ∙ same)) in
    omega (arith, past.0, below, equal)
