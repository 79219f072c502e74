-- Passing over branches with a stack of the lists that aren't done, the last on top.
use Rattle.std.proofs.Common.{◌≡◌, ◌≤◌, ◌<◌, ◌+◌, ◌-◌, ◌*◌, ℕ, zero, suc, List, [], ◌∷◌, ◌++◌, length, length-append, Result, Ok, Err, refl, sym, ap, ◌∙◌, ◌⊎◌, inl, inr, arith}
use Rattle.std.specs.Prelude.{IfOk}
use Rattle.std.specs.List.{sum_by}
use Rattle.std.proofs.lemmas.List.Sums.{sum_by-cons, sum_by-append}
use Rattle.ix_num.specs.declared.fault.FrameFault.{FrameFault}
use Rattle.ix_frame.specs.Result.{◌>>=◌}
use Rattle.ix_frame.specs.Target.{Elements}
use Rattle.ix_frame.specs.Objects.{elements_at, element_of}
use Rattle.ix_frame.specs.Views.{elements_of}
use Rattle.ix_schema.specs.declared.branches.Open.{Open}
use Rattle.ix_schema.specs.Open.{Puts}
use Rattle.ix_schema.specs.Passed.{Left, branches_left}
use Rattle.ix_schema.proofs.BranchLemmas.{less_left, same_left, bind_same}

-- how many branches of a list are still to be passed
abbrev pub to_pass : Open → ℕ
to_pass x = (elements_of x.list).count - x.next

-- passing over the rest of a list
pub rest_left : Open → ℕ → Left
rest_left x b = branches_left (to_pass x + b + 1) (to_pass x) (elements_of x.list) x.next b

-- passing over the rest of each, the last first
pub stack_left : List Open → ℕ → Left
stack_left [] b = Ok b
stack_left (x ∷ xs) b = stack_left xs b >>= rest_left x

in_turn : {A B C E : Type 0} (r : Result A E) (f : A → Result B E) (g : B → Result C E) → ((r >>= f) >>= g) ≡ (r >>= λ x. f x >>= g)
in_turn (Ok x) f g = refl
in_turn (Err e) f g = refl

alone : {A E : Type 0} (r : Result A E) → (r >>= λ x. Ok x) ≡ r
alone (Ok x) = refl
alone (Err e) = refl

pub top_first : (xs : List Open) (x : Open) (b : ℕ) → stack_left (xs ++ x ∷ []) b ≡ (rest_left x b >>= stack_left xs)
unfolding stack_left
top_first [] x b = sym (alone (rest_left x b))
top_first (y ∷ xs) x b = ap (λ (r : Left). r >>= rest_left y) (top_first xs x b) ∙ in_turn (rest_left x b) (stack_left xs) (rest_left y)

-- the work that is left to do
pub work : List Open → ℕ
work xs = sum_by to_pass xs

-- Turns of the loop.

with_one : (xs ys : List Open) (x : Open) → xs ≡ ys ++ x ∷ [] → (b : ℕ) → stack_left xs b ≡ (rest_left x b >>= stack_left ys)
with_one xs ys x is b = rw is (top_first ys x b)

pub nothing_open : (xs : List Open) (b : ℕ) (total : Left) → xs ≡ [] → stack_left xs b ≡ total → total ≡ Ok b
unfolding stack_left
nothing_open xs b total is h = sym h ∙ rw is refl

-- the list on top is done
pub one_done : (xs ys : List Open) (x : Open) (b : ℕ) (total : Left) → xs ≡ ys ++ x ∷ [] → (elements_of x.list).count ≤ x.next → stack_left xs b ≡ total → stack_left ys b ≡ total
unfolding rest_left branches_left
one_done xs ys x b total is le h =
    let none : to_pass x ≡ 0 = omega arith in
    let e : rest_left x b ≡ Ok b = rw none (no_more_here (0 + b + 1) (elements_of x.list) x.next b) in
    sym (with_one xs ys x is b ∙ ap (λ (r : Left). r >>= stack_left ys) e) ∙ h
  where
    no_more_here : (bound : ℕ) (l : Elements) (i b : ℕ) → branches_left bound zero l i b ≡ Ok b
    no_more_here zero l i b = refl
    no_more_here (suc bound) l i b = refl

-- the next branch of the list on top, with what is behind its pointer
rest_of : (x : Open) (b k : ℕ) → to_pass x ≡ suc k
    → rest_left x b ≡ (elements_at (element_of (elements_of x.list) x.next) 0 b >>= λ inner. branches_left (suc k + b) inner.0.count inner.0 0 inner.1 >>= branches_left (suc k + b) k (elements_of x.list) (x.next + 1))
unfolding rest_left branches_left
rest_of x b k is = let e : suc k + b + 1 ≡ suc (suc k + b) = omega arith in rw (is, e) refl

pub one_stops : (xs ys : List Open) (x : Open) (b : ℕ) (f : FrameFault) (total : Left) → xs ≡ ys ++ x ∷ [] → x.next < (elements_of x.list).count
    → elements_at (element_of (elements_of x.list) x.next) 0 b ≡ Err f → stack_left xs b ≡ total → total ≡ Err f
one_stops xs ys x b f total is lt found h =
    let k : to_pass x ≡ suc (to_pass x - 1) = omega arith in
    let e : rest_left x b ≡ Err f = rest_of x b (to_pass x - 1) k ∙ rw found refl in
    sym h ∙ with_one xs ys x is b ∙ ap (λ (r : Left). r >>= stack_left ys) e

pub one_goes_on : (xs ys : List Open) (x after below : Open) (b left : ℕ) (total : Left) → xs ≡ ys ++ x ∷ [] → x.next < (elements_of x.list).count
    → after ≡ record { list = x.list; next = x.next + 1 } → below.next ≡ 0
    → elements_at (element_of (elements_of x.list) x.next) 0 b ≡ Ok (elements_of below.list, left) → (elements_of below.list).count + left ≤ b
    → stack_left xs b ≡ total → stack_left ((ys ++ after ∷ []) ++ below ∷ []) left ≡ total
unfolding rest_left
one_goes_on xs ys x after below b left total is lt next first found few h =
    let k = to_pass x - 1 in
    let inner = elements_of below.list in
    let one : to_pass x ≡ suc k = omega arith in
    let rest : to_pass after ≡ k = rw next (omega arith) in
    let whole : stack_left xs b ≡ ((branches_left (suc k + b) inner.count inner 0 left >>= branches_left (suc k + b) k (elements_of x.list) (x.next + 1)) >>= stack_left ys) =
    with_one xs ys x is b ∙ ap (λ (r : Left). r >>= stack_left ys) (rest_of x b k one ∙ rw found refl) in
    let inside : branches_left (suc k + b) inner.count inner 0 left ≡ rest_left below left =
    let all : to_pass below ≡ inner.count = omega arith in
    rw (all, first) (same_left (suc k + b) (inner.count + left + 1) inner.count inner 0 left (omega arith) (omega arith)) in
    let then_ : (branches_left (suc k + b) inner.count inner 0 left >>= branches_left (suc k + b) k (elements_of x.list) (x.next + 1)) ≡ (rest_left below left >>= rest_left after) =
    ap (λ (r : Left). r >>= branches_left (suc k + b) k (elements_of x.list) (x.next + 1)) inside
    ∙ bind_same (λ n. n ≤ left) (rest_left below left) (branches_left (suc k + b) k (elements_of x.list) (x.next + 1)) (rest_left after) (less_left (to_pass below + left + 1) (to_pass below) inner below.next left) (λ n le.
    rw (rest, next) (same_left (suc k + b) (k + n + 1) k (elements_of x.list) (x.next + 1) n (omega arith) (omega arith))) in
    top_first (ys ++ after ∷ []) below left
    ∙ bind_same (λ n. Unit {0}) (rest_left below left) (stack_left (ys ++ after ∷ [])) (λ n. rest_left after n >>= stack_left ys) (any (rest_left below left)) (λ n u. top_first ys after n)
    ∙ sym (in_turn (rest_left below left) (rest_left after) (stack_left ys)) ∙ sym (ap (λ (r : Left). r >>= stack_left ys) then_) ∙ sym whole ∙ h
  where
    any : (r : Left) → IfOk r (λ n. Unit {0})
    any (Ok n) = tt
    any (Err e) = tt

-- The work falls.

pub work_of : (xs ys : List Open) (x : Open) → xs ≡ ys ++ x ∷ [] → work xs ≡ work ys + to_pass x
unfolding work
work_of xs ys x is = let e = sum_by-append to_pass ys (x ∷ []) in let one = sum_by-cons to_pass x [] in rw is (omega (arith, e, one))

-- the whole, before the first turn
pub first_turn : (l : Open) (b bound : ℕ) → l.next ≡ 0 → (elements_of l.list).count + b < bound → stack_left (l ∷ []) b ≡ branches_left bound (elements_of l.list).count (elements_of l.list) 0 b
unfolding rest_left stack_left
first_turn l b bound first few =
    let all : to_pass l ≡ (elements_of l.list).count = omega arith in
    rw (all, first) (same_left ((elements_of l.list).count + b + 1) bound (elements_of l.list).count (elements_of l.list) 0 b (omega arith) few)

pub falls_on : (xs ys : List Open) (x after below : Open) (b left : ℕ) → xs ≡ ys ++ x ∷ [] → x.next < (elements_of x.list).count
    → after ≡ record { list = x.list; next = x.next + 1 } → below.next ≡ 0 → (elements_of below.list).count + left ≤ b
    → 2 * (left + work ((ys ++ after ∷ []) ++ below ∷ [])) + length ((ys ++ after ∷ []) ++ below ∷ []) < 2 * (b + work xs) + length xs
falls_on xs ys x after below b left is lt next first few =
    let old = work_of xs ys x is in
    let one = work_of (ys ++ after ∷ []) ys after refl in
    let two = work_of ((ys ++ after ∷ []) ++ below ∷ []) (ys ++ after ∷ []) below refl in
    let a : to_pass after ≡ to_pass x - 1 = rw next (omega arith) in
    let c : to_pass below ≡ (elements_of below.list).count = omega arith in
    let some : 0 < to_pass x = omega arith in
    let m : length xs ≡ length ys + 1 = rw is (length-append ys (x ∷ [])) in
    let m1 : length (ys ++ after ∷ []) ≡ length ys + 1 = length-append ys (after ∷ []) in
    let m2 : length ((ys ++ after ∷ []) ++ below ∷ []) ≡ length (ys ++ after ∷ []) + 1 = length-append (ys ++ after ∷ []) (below ∷ []) in
    omega arith

pub falls : (xs ys : List Open) (x : Open) (b : ℕ) → xs ≡ ys ++ x ∷ [] → 2 * (b + work ys) + length ys < 2 * (b + work xs) + length xs
falls xs ys x b is =
    let old = work_of xs ys x is in
    let m : length xs ≡ length ys + 1 = rw is (length-append ys (x ∷ [])) in
    omega arith

pub nothing_in : {A : Type 0} (xs : List A) → length xs ≡ 0 → xs ≡ []
nothing_in [] h = refl
nothing_in (x ∷ xs) h = absurd (omega arith)

-- Putting a list on the stack. One that is done isn't put there, and would change nothing.

pub put_left : (x : Open) (old new : List Open) → Puts x old new → (b : ℕ)
    → stack_left new b ≡ stack_left (old ++ x ∷ []) b
put_left x old new (inl is) b = ap (λ (xs : List Open). stack_left xs b) is
put_left x old new (inr done) b = ap (λ (xs : List Open). stack_left xs b) done.1
    ∙ one_done (old ++ x ∷ []) old x b (stack_left (old ++ x ∷ []) b) refl done.0 refl

put_work : (x : Open) (old new : List Open) → Puts x old new → work new ≡ work old + to_pass x
put_work x old new (inl is) = work_of new old x is
put_work x old new (inr done) =
    let same : work new ≡ work old = ap work done.1 in
    let none : to_pass x ≡ 0 = to_pass_none x done.0 in
    omega arith
  where
    to_pass_none : (x : Open) → (elements_of x.list).count ≤ x.next → to_pass x ≡ 0
    to_pass_none x le = omega arith

put_length : (x : Open) (old new : List Open) → Puts x old new → length new ≤ length old + 1
put_length x old new (inl is) =
    let m : length new ≡ length old + 1 = rw is (length-append old (x ∷ [])) in omega arith
put_length x old new (inr done) = let m : length new ≡ length old = ap length done.1 in omega arith

any_left : (r : Left) → IfOk r (λ n. Unit {0})
any_left (Ok n) = tt
any_left (Err e) = tt

-- a turn of the loop: the list on top goes on, and what is behind its branch comes first
pub one_put : (ys one two : List Open) (after below : Open) (left : ℕ) (total : Left)
    → Puts after ys one → Puts below one two
    → stack_left ((ys ++ after ∷ []) ++ below ∷ []) left ≡ total → stack_left two left ≡ total
one_put ys one two after below left total first second h =
    put_left below one two second left ∙ top_first one below left
    ∙ bind_same (λ n. Unit {0}) (rest_left below left) (stack_left one)
    (stack_left (ys ++ after ∷ [])) (any_left (rest_left below left))
    (λ n u. put_left after ys one first n)
    ∙ sym (top_first (ys ++ after ∷ []) below left) ∙ h

pub falls_put : (xs ys one two : List Open) (x after below : Open) (b left : ℕ)
    → xs ≡ ys ++ x ∷ [] → x.next < (elements_of x.list).count
    → after ≡ record { list = x.list; next = x.next + 1 } → below.next ≡ 0
    → (elements_of below.list).count + left ≤ b → Puts after ys one → Puts below one two
    → 2 * (left + work two) + length two < 2 * (b + work xs) + length xs
falls_put xs ys one two x after below b left is lt next first few p q =
    let whole = falls_on xs ys x after below b left is lt next first few in
    let a = put_work after ys one p in
    let c = put_work below one two q in
    let d = put_length after ys one p in
    let e = put_length below one two q in
    let w1 = work_of (ys ++ after ∷ []) ys after refl in
    let w2 = work_of ((ys ++ after ∷ []) ++ below ∷ []) (ys ++ after ∷ []) below refl in
    let m1 : length (ys ++ after ∷ []) ≡ length ys + 1 = length-append ys (after ∷ []) in
    let m2 : length ((ys ++ after ∷ []) ++ below ∷ []) ≡ length (ys ++ after ∷ []) + 1 =
    length-append (ys ++ after ∷ []) (below ∷ []) in
    omega arith
