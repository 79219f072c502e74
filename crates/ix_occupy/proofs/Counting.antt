-- How often a number stands in a list, and how many elements pass a test.
use Rattle.std.proofs.Common.{◌≡◌, ◌<◌, ◌≤◌, refl, ap, ℕ, ◌+◌, Bool, cond, nat_eq, List, [], ◌∷◌}
use Rattle.std.proofs.Common.{◌++◌, take, length, get_or, set, map, arith}
use Rattle.std.specs.List.{count_by}
use Rattle.std.proofs.lemmas.Bool.{eq-eqb, ne_eqb}
use Rattle.std.proofs.lemmas.List.Sums.{sum_by_push, sum_by_more, sum_by_more_le, get_or-le-sum_by}
use Rattle.std.proofs.lemmas.List.Sums.{sum_by-set}
use Rattle.std.proofs.lemmas.List.Folds.{fold-map}
use Rattle.ix_occupy.specs.Steps.{times}

-- what a number adds to the count of another
abbrev pub hit : ℕ → ℕ → ℕ
hit m n = cond (nat_eq m n) 1 0

pub one_self : (n : ℕ) → hit n n ≡ 1
one_self n = let as_count : Bool → ℕ = λ b. cond b 1 0 in ap as_count (eq-eqb n n refl)

pub none_other : (m n : ℕ) → (m ≡ n → ⊥) → hit m n ≡ 0
none_other m n h = let as_count : Bool → ℕ = λ b. cond b 1 0 in ap as_count (ne_eqb m n h)

-- one more at the end
pub times_push : (n m : ℕ) (ns : List ℕ) → times n (ns ++ m ∷ []) ≡ times n ns + hit m n
times_push n m ns = sum_by_push (λ other. hit other n) ns m

pub times_more : (n : ℕ) (ns : List ℕ) (i : ℕ) → i < length ns
    → times n (take (i + 1) ns) ≡ times n (take i ns) + hit (get_or ns i 0) n
times_more n ns i h = sum_by_more (λ other. hit other n) ns i 0 h

-- where a number stands at most once, it stands not before its place
pub none_before : (ns : List ℕ) (i : ℕ) → i < length ns → times (get_or ns i 0) ns ≤ 1
    → times (get_or ns i 0) (take i ns) ≡ 0
none_before ns i h few =
    let more : times (get_or ns i 0) (take i ns) + hit (get_or ns i 0) (get_or ns i 0) ≤ times
    (get_or ns i 0) ns =
    sum_by_more_le (λ other. hit other (get_or ns i 0)) ns i 0 h in
    let own : hit (get_or ns i 0) (get_or ns i 0) ≡ 1 = one_self (get_or ns i 0) in
    omega arith

-- what stands in a list stands there once or more
pub some_times : (ns : List ℕ) (i : ℕ) → i < length ns → 0 < times (get_or ns i 0) ns
some_times ns i h =
    let at : hit (get_or ns i 0) (get_or ns i 0) ≤ times (get_or ns i 0) ns =
    get_or-le-sum_by (λ other. hit other (get_or ns i 0)) ns i 0 h in
    let own : hit (get_or ns i 0) (get_or ns i 0) ≡ 1 = one_self (get_or ns i 0) in
    omega arith

-- a count after a write
pub count_set : {X : Type 0} (p : X → Bool) (xs : List X) (i : ℕ) (y d : X) → i < length xs
    → count_by p (set xs i y) + cond (p (get_or xs i d)) 1 0 ≡ count_by p xs + cond (p y) 1 0
count_set p xs i y d h = sum_by-set (λ x. cond (p x) 1 0) xs i y d h

-- a count over a list that was mapped
pub count_map : {X Y : Type 0} (p : Y → Bool) (f : X → Y) (xs : List X)
    → count_by p (map f xs) ≡ count_by (λ x. p (f x)) xs
count_map p f xs = fold-map (λ (a : ℕ) y. a + cond (p y) 1 0) f 0 xs
