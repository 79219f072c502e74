-- INIT properties: the beginnings of texts, and numbers that digits spell.
use Rattle.std.proofs.Common.{◌≡◌, ◌≢◌, ℕ, ◌+◌, ◌*◌, ◌<◌, ◌≤◌, List, [], ◌∷◌, ◌++◌, length, Option}
use Rattle.std.proofs.Common.{Some, None, Bool, true, false, MatchOption, Bor, sym, ap, ◌∙◌}
use Rattle.std.proofs.Common.{refl, arith, option_and_then, drop, eqb, inl, inr, ◌⊎◌}
use Rattle.std.proofs.Common.{if◌then◌else◌, nat_lt, suc, unwrap_or, slice_index_or}
use Rattle.std.proofs.lemmas.Bool.{eq-eqb}
use Rattle.std.proofs.lemmas.Bool.Decides.{eqb_tells, leb_tells}
use Rattle.std.proofs.lemmas.Option.{none-some}
use Rattle.std.proofs.Math.Dec.{leb}
use Rattle.std.proofs.Math.Nat.{le-mul_of_pos_right}
use Rattle.std.proofs.Math.Seq.{drop-cons}
use Rattle.std.specs.Fmt.{digits}
use Rattle.ix_lut.specs.Init.{behind, digit, digit_behind, digits_behind, spelled_number}
use Rattle.ix_lut.specs.Init.{number_below, width_text}

-- the widths in decimal
pub width_1 : width_text 1 ≡ 50 ∷ []
unfolding digits
width_1 = refl

pub width_2 : width_text 2 ≡ 52 ∷ []
unfolding digits
width_2 = refl

pub width_3 : width_text 3 ≡ 56 ∷ []
unfolding digits
width_3 = refl

pub width_4 : width_text 4 ≡ 49 ∷ 54 ∷ []
unfolding digits
width_4 = refl

pub width_5 : width_text 5 ≡ 51 ∷ 50 ∷ []
unfolding digits
width_5 = refl

pub width_6 : width_text 6 ≡ 54 ∷ 52 ∷ []
unfolding digits
width_6 = refl

-- a front with the width of so many inputs
pub width_is : (k : ℕ) (back : List ℕ) {inputs : ℕ} {width : List ℕ} → width_text k ≡ width
    → inputs ≡ k → width ++ back ≡ width_text inputs ++ back
width_is k back h e = ap (λ w. w ++ back) (sym h ∙ ap width_text (sym e))

-- a text that begins so
pub begins : (front rest : List ℕ) → behind front (front ++ rest) ≡ Some rest
begins [] rest = refl
begins (f ∷ front) rest = ap (λ b. if b then behind front (front ++ rest)
    else None) (eq-eqb f f refl) ∙ begins front rest

-- one byte more of a beginning and of a text
not_further : (f byte : ℕ) (front text : List ℕ)
    → ((rest : List ℕ) → byte ∷ text ≢ f ∷ (front ++ rest))
    → (((rest : List ℕ) → text ≢ front ++ rest) → behind front text ≡ None)
    → ((eqb f byte ≡ true) × (f ≡ byte)) ⊎ ((eqb f byte ≡ false) × (f ≢ byte))
    → behind (f ∷ front) (byte ∷ text) ≡ None
not_further f byte front text h further (inl (e, same))
    = ap (λ b. if b then behind front text else None) e ∙ further (λ rest k.
    h rest (ap (λ t. byte ∷ t) k ∙ ap (λ x. x ∷ (front ++ rest)) (sym same)))
not_further f byte front text h further (inr (e, differ))
    = ap (λ b. if b then behind front text else None) e

pub begins_not : (front text : List ℕ) → ((rest : List ℕ) → text ≢ front ++ rest)
    → behind front text ≡ None
begins_not [] text h = absurd (h text refl)
begins_not (f ∷ front) [] h = refl
begins_not (f ∷ front) (byte ∷ text) h = not_further f byte front text h (begins_not front text)
    (eqb_tells f byte)

-- what `strip_prefix` answers
pub stripped : (text front : List ℕ) (r : Option (Bor (List ℕ)))
    → MatchOption r ((rest : List ℕ) → text ≢ front ++ rest) (λ x. text ≡ front ++ x.now)
    → MatchOption r (behind front text ≡ None) (λ rest. behind front text ≡ Some rest.now)
stripped text front None h = begins_not front text h
stripped text front (Some x) h = ap (behind front) h ∙ begins front x.now

-- a digit makes a number no smaller
grown : (base value v : ℕ) (d : Option ℕ) → 1 ≤ base
    → option_and_then (λ d. if nat_lt d base then Some (value * base + d) else None) d ≡ Some v
    → value ≤ v
grown base value v None some h = absurd (none-some v h)
grown base value v (Some d) some h = by_digit (nat_lt d base) h
  where
    by_digit : (b : Bool) → (if b then Some (value * base + d) else None) ≡ Some v → value ≤ v
    by_digit true h = let e = ap (λ o. unwrap_or o 0) h in let more
        = le-mul_of_pos_right {m = base} value some in omega (arith, e, more)
    by_digit false h = absurd (none-some v h)

pub digits_grow : (base value : ℕ) (bytes : List ℕ) (m : ℕ) → 1 ≤ base
    → digits_behind base value bytes ≡ Some m → value ≤ m
digits_grow base value [] m some h = let e = ap (λ o. unwrap_or o 0) h in omega (arith, e)
digits_grow base value (byte ∷ bytes) m some h
    = further (digit_behind base value byte) (λ v. grown base value v (digit byte) some) (λ v.
    digits_grow base v bytes m some) h
  where
    further : (o : Option ℕ) → ((v : ℕ) → o ≡ Some v → value ≤ v)
        → ((v : ℕ) → digits_behind base v bytes ≡ Some m → v ≤ m)
        → option_and_then (λ v. digits_behind base v bytes) o ≡ Some m → value ≤ m
    further None one more h = absurd (none-some m h)
    further (Some v) one more h = let a = one v refl in let b = more v h in omega (arith, a, b)

-- a number that isn't below the limit stays so
none_below : (limit v : ℕ) (r : Option ℕ) → ((m : ℕ) → r ≡ Some m → v ≤ m)
    → number_below limit v ≡ None → option_and_then (number_below limit) r ≡ None
none_below limit v None grows h = refl
none_below limit v (Some m) grows h = tried (leb_tells (suc m) limit) (leb_tells (suc v) limit)
  where
    tried : ((leb (suc m) limit ≡ true) × (suc m ≤ limit))
        ⊎ ((leb (suc m) limit ≡ false) × (limit < suc m))
        → ((leb (suc v) limit ≡ true) × (suc v ≤ limit))
        ⊎ ((leb (suc v) limit ≡ false) × (limit < suc v)) → number_below limit m ≡ None
    tried (inr (e, _)) _ = ap (λ b. if b then Some m else None) e
    tried (inl (e, a)) (inl (f, b)) = absurd
        (none-some v (sym (sym (ap (λ b. if b then Some v else None) f) ∙ h)))
    tried (inl (e, a)) (inr (f, b)) = let c = grows m refl in absurd (omega (arith, a, b, c))

-- a number that has reached the limit is past it with all digits
pub past : (base value byte limit : ℕ) (rest : List ℕ) → 1 ≤ base
    → option_and_then (number_below limit) (digit_behind base value byte) ≡ None
    → option_and_then (number_below limit) (digits_behind base value (byte ∷ rest)) ≡ None
past base value byte limit rest some h = all_past (digit_behind base value byte) h
  where
    all_past : (o : Option ℕ) → option_and_then (number_below limit) o ≡ None
        → option_and_then (number_below limit) (option_and_then (λ v. digits_behind base v rest) o)
        ≡ None
    all_past None h = refl
    all_past (Some v) h = none_below limit v (digits_behind base v rest) (λ m.
        digits_grow base v rest m some) h

-- digits are refused where the next one goes past the limit or is none
pub refused : (base value limit i : ℕ) (bytes : List ℕ) → 1 ≤ base → i < length bytes
    → digits_behind base 0 bytes ≡ digits_behind base value (drop i bytes)
    → None ≡ option_and_then (number_below limit)
    (digit_behind base value (slice_index_or bytes i 0))
    → None ≡ option_and_then (number_below limit) (spelled_number base bytes)
refused base value limit i [] some inside so_far none = absurd (omega (arith, inside))
refused base value limit i (byte ∷ bytes) some inside so_far none
    = sym (ap (option_and_then (number_below limit))
    (so_far ∙ ap (digits_behind base value) (drop-cons (byte ∷ bytes) i 0 inside)) ∙ past base value
    (slice_index_or (byte ∷ bytes) i 0) limit (drop (suc i) (byte ∷ bytes)) some (sym none))
