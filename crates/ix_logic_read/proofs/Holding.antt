-- The ports of declarations, each as one number with its declaration.
use Rattle.std.proofs.Common.{◌≡◌, ℕ, ◌+◌, ◌<◌, ◌^◌, List, [], ◌∷◌, ◌++◌, map, Bool, true, false}
use Rattle.std.proofs.Common.{refl, ap, ◌∙◌, arith}
use Rattle.std.specs.Prelude.{nat_lt, ◌&&◌, ◌||◌, ◌==◌}
use Rattle.std.specs.List.{AllByRecursion}
use Rattle.std.proofs.lemmas.Bool.{eq-eqb, eqb-true, eqb-false as ne_from, ne_eqb}
use Rattle.std.proofs.lemmas.Bool.Decides.{nat_tests}
use Rattle.std.proofs.lemmas.List.Folds.{list_any-append}
use Rattle.ix_frame.specs.Target.{Elements}
use Rattle.ix_message.specs.Indexes.{has_number}
use Rattle.ix_logic_read.specs.Pins.{AreHeldUpTo, ports_at, pin_number}

-- of the same declaration
same_pin : (e d q p : ℕ) → e ≡ d → (pin_number e q == pin_number d p) ≡ (q == p)
same_pin e d q p is = go (q == p) refl
  where
    go : (b : Bool) → (q == p) ≡ b → (pin_number e q == pin_number d p) ≡ b
    go true h = let s : q ≡ p = eqb-true q p h in
        eq-eqb (pin_number e q) (pin_number d p) (omega (arith, is, s))
    go false h = ne_eqb (pin_number e q) (pin_number d p)
        (λ s. ne_from q p h (omega (arith, is, s)))

others_pin : (e d q p : ℕ) → q < 2 ^ 32 → p < 2 ^ 32 → (e ≡ d → ⊥)
    → (pin_number e q == pin_number d p) ≡ false
others_pin e d q p a b ne = ne_eqb (pin_number e q) (pin_number d p)
    (λ s. ne (omega (arith, a, b, s)))

pub own_ports : (e d p : ℕ) (qs : List ℕ) → e ≡ d
    → has_number (map (pin_number e) qs) (pin_number d p) ≡ has_number qs p
own_ports e d p [] is = refl
own_ports e d p (q ∷ qs) is = rw (same_pin e d q p is, own_ports e d p qs is) refl

pub other_ports : (e d p : ℕ) (qs : List ℕ) → AllByRecursion (λ q. q < 2 ^ 32) qs → p < 2 ^ 32
    → (e ≡ d → ⊥) → has_number (map (pin_number e) qs) (pin_number d p) ≡ false
other_ports e d p [] few lt ne = refl
other_ports e d p (q ∷ qs) few lt ne = rw
    (others_pin e d q p few.0 lt ne, other_ports e d p qs few.1 lt ne) refl

pub none_held : (l : Elements) → AreHeldUpTo 0 [] l
none_held l d p lt = let no : nat_lt d 0 ≡ false = grind (arith, nat_tests) in rw no refl

pub one_more_held : (n : ℕ) (held : List ℕ) (l : Elements)
    → AllByRecursion (λ q. q < 2 ^ 32) (ports_at l n) → AreHeldUpTo n held l
    → AreHeldUpTo (n + 1) (held ++ map (pin_number n) (ports_at l n)) l
one_more_held n held l few h d p lt =
    list_any-append (λ k. k == pin_number d p) held (map (pin_number n) (ports_at l n))
    ∙ rw (h d p lt) (go (n == d) refl)
  where
    last : (a b : Bool) → ((a && b) || false) ≡ (a && b)
    last true true = refl
    last true false = refl
    last false b = refl

    go : (b : Bool) → (n == d) ≡ b → ((nat_lt d n && has_number (ports_at l d) p) || has_number
        (map (pin_number n) (ports_at l n)) (pin_number d p)) ≡
        (nat_lt d (n + 1) && has_number (ports_at l d) p)
    go true h =
        let s : n ≡ d = eqb-true n d h in
        let no : nat_lt d n ≡ false = grind (arith, nat_tests) in
        let yes : nat_lt d (n + 1) ≡ true = grind (arith, nat_tests) in
        rw (no, yes, own_ports n d p (ports_at l n) s)
        (ap (λ (k : ℕ). has_number (ports_at l k) p) s)
    go false h =
        let ne : n ≡ d → ⊥ = ne_from n d h in
        let same : nat_lt d n ≡ nat_lt d (n + 1) = grind (arith, nat_tests) in
        rw (other_ports n d p (ports_at l n) few lt ne, same)
        (last (nat_lt d (n + 1)) (has_number (ports_at l d) p))
