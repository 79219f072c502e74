-- The least of two.
use Rattle.std.proofs.Common.{◌≡◌, ℕ, ◌+◌, ◌<◌, ◌≤◌, Bool, true, false, List, refl, subst, Option, Some, None, arith, inl, inr, leb-true}
use Rattle.std.specs.Prelude.{◌⊎◌, nat_le, if◌then◌else◌}
use Rattle.std.proofs.lemmas.Bool.{leb-false, cases_lt}
use Rattle.ix_hierarchy.specs.declared.row.Row.{Row}
use Rattle.ix_twice.specs.Repeats.{IsLeast, least_of, IsRepeat, IsRepeatAt}

choose : (P : ℕ → Type 0) (x y : ℕ) (c : Bool) → (c ≡ true → x ≤ y) → (c ≡ false → y < x)
    → P x → P y → ((m : ℕ) → P m → (x ≤ m) ⊎ (y ≤ m)) → IsLeast P (if c then Some x else Some y)
choose P x y true le gt px py low = (px, λ m p. elim (low m p) [ inl a ↦ a | inr b ↦ omega (arith, le refl) ])
choose P x y false le gt px py low = (py, λ m p. elim (low m p) [ inl a ↦ omega (arith, gt refl) | inr b ↦ b ])

pub least_join : (P Q R : ℕ → Type 0) (a b : Option ℕ) → ((n : ℕ) → R n → P n ⊎ Q n)
    → ((n : ℕ) → P n → R n) → ((n : ℕ) → Q n → R n) → IsLeast P a → IsLeast Q b
    → IsLeast R (least_of a b)
least_join P Q R None None split left right a b = λ n r. elim (split n r) [ inl p ↦ a n p | inr q ↦ b n q ]
least_join P Q R None (Some y) split left right a b =
    (right y b.0, λ m r. elim (split m r) [ inl p ↦ absurd (a m p) | inr q ↦ b.1 m q ])
least_join P Q R (Some x) None split left right a b =
    (left x a.0, λ m r. elim (split m r) [ inl p ↦ a.1 m p | inr q ↦ absurd (b m q) ])
least_join P Q R (Some x) (Some y) split left right a b =
    choose R x y (nat_le x y) (λ h. leb-true x y h) (λ h. leb-false x y h) (left x a.0) (right y b.0)
    (λ m r. elim (split m r) [ inl p ↦ inl (a.1 m p) | inr q ↦ inr (b.1 m q) ])

-- what has the one property has the other, and for what has the other something no larger has the one
pub least_as : (P Q : ℕ → Type 0) (o : Option ℕ) → ((n : ℕ) → P n → Q n)
    → ((n : ℕ) → Q n → (m : ℕ) × P m × (m ≤ n)) → IsLeast P o → IsLeast Q o
least_as P Q None f g h = λ n q. h (g n q).0 (g n q).1
least_as P Q (Some x) f g h = (f x h.0, λ m q. omega (arith, h.1 (g m q).0 (g m q).1, (g m q).2))

pub repeats_none : (rows : List Row) (start end : ℕ) → end ≤ start + 1 → IsLeast (IsRepeat rows start end) None
repeats_none rows start end few n r =
    let a = r.from in
    let b = r.to in
    absurd (omega arith)

pub repeats_more : (rows : List Row) (start place : ℕ) (found here : Option ℕ) → start < place
    → IsLeast (IsRepeat rows start place) found → IsLeast (IsRepeatAt rows place) here
    → IsLeast (IsRepeat rows start (place + 1)) (least_of found here)
repeats_more rows start place found here lt kept at =
    least_join (IsRepeat rows start place) (IsRepeatAt rows place) (IsRepeat rows start (place + 1)) found here
    (λ n r. elim (cases_lt r.place place) [
      | inl less ↦ inl (record { place = r.place; from = r.from; to = less; repeat = r.repeat })
      | inr more ↦ let same : r.place ≡ place = omega (arith, r.to) in
          inr (subst (λ (k : ℕ). IsRepeatAt rows k n) same r.repeat)
    ])
    (λ n r. record { place = r.place; from = r.from; to = omega (arith, r.to); repeat = r.repeat })
    (λ n r. record { place = place; from = lt; to = omega arith; repeat = r })
    kept at
