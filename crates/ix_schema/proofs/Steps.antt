-- What holds after steps of which each may find a fault, and that a list of structs costs no less than they are.
use Rattle.std.proofs.Common.{◌≡◌, ◌≤◌, ◌<◌, ◌+◌, ◌-◌, ◌*◌, ℕ, zero, suc, Bool, true, false, Result, Ok, Err, refl, arith, mul-suc}
use Rattle.std.specs.Prelude.{Option, Some, None, IfOk, if◌then◌else◌, nat_le, nat_lt, ◌==◌}
use Rattle.std.proofs.lemmas.Bool.{leb-true}
use Rattle.std.proofs.lemmas.Bool.Decides.{nat_tests}
use Rattle.ix_num.specs.declared.fault.FrameRule.{FrameRule}
use Rattle.ix_frame.specs.Result.{◌>>=◌, unless}
use Rattle.ix_frame.specs.Segments.{Segments, word_at, segment_at}
use Rattle.ix_frame.specs.Target.{Pointed, Object, Elements, target, placed, composite_target, kind_of, element_size_of, element_count_of, offset_of, data_words_of, pointer_words_of}
use Rattle.ix_frame.specs.Objects.{charged, composite_cost, blamed, elements_found, elements_behind, elements_at}

pub and_then : {A B E : Type 0} (P : A → Type 0) (Q : B → Type 0) (r : Result A E) (f : A → Result B E) → IfOk r P → ((x : A) → P x → IfOk (f x) Q) → IfOk (r >>= f) Q
and_then P Q (Ok x) f h next = next x h
and_then P Q (Err e) f h next = tt

pub and_next : {A B E : Type 0} (Q : B → Type 0) (r : Result A E) (f : A → Result B E) → ((x : A) → IfOk (f x) Q) → IfOk (r >>= f) Q
and_next Q (Ok x) f next = next x
and_next Q (Err e) f next = tt

pub weaker : {A E : Type 0} (P Q : A → Type 0) (r : Result A E) → IfOk r P → ((x : A) → P x → Q x) → IfOk r Q
weaker P Q (Ok x) h next = next x h
weaker P Q (Err e) h next = tt

pub when_blamed : {A : Type 0} (P : A → Type 0) (s w : ℕ) (r : Result A FrameRule) → IfOk r P → IfOk (blamed s w r) P
when_blamed P s w (Ok x) h = h
when_blamed P s w (Err e) h = tt

pub by_test : {A E : Type 0} (P : A → Type 0) (b : Bool) (r q : Result A E) → (b ≡ true → IfOk r P) → (b ≡ false → IfOk q P) → IfOk (if b then r else q) P
by_test P true r q passes fails = passes refl
by_test P false r q passes fails = fails refl

pub tested : {E : Type 0} (b : Bool) (e : E) → IfOk (unless b e) (λ _. b ≡ true)
tested true e = refl
tested false e = tt

pub charged_left : (cost budget : ℕ) → IfOk (charged cost budget) (λ left. left + cost ≤ budget)
charged_left cost budget =
    by_test (λ left. left + cost ≤ budget) (nat_le cost budget) (Ok (budget - cost)) _ (λ e. let le = leb-true cost budget e in omega arith) (λ e. tt)

-- elements of a word or more take no fewer words than they are
each_takes : (n k words : ℕ) → n * k ≤ words → 0 < k → n ≤ words
each_takes n zero words h some = absurd (omega arith)
each_takes n (suc k) words h some = omega (arith, mul-suc n k)

-- a list of structs costs no less than they are
counted : (n k words : ℕ) → n * k ≤ words → n ≤ 1 + words + (if k == 0 then n else 0)
counted n k words h = go (k == 0) refl
  where
    go : (b : Bool) → k == 0 ≡ b → n ≤ 1 + words + (if b then n else 0)
    go true e = omega arith
    go false e = let some : 0 < k = grind (arith, nat_tests) in let le : n ≤ words = each_takes n k words h some in omega arith

elements_counted : (all : Segments) (p : Pointed) → IfOk (composite_target all p) (λ x. x.0.count ≤ composite_cost x.0 x.1)
unfolding composite_target
elements_counted all p =
    let P : (Elements × ℕ) → Type 0 = λ x. x.0.count ≤ composite_cost x.0 x.1 in
    and_next P (unless (kind_of p.described == 1) _) _ (λ list. and_next P (unless (element_size_of p.described == 7) _) _ (λ fitting. and_next P (placed all p (element_count_of p.described + 1)) _ (λ start.
    let tag = word_at (segment_at all p.segment) start in
    let n = offset_of tag in
    let k = data_words_of tag + pointer_words_of tag in
    let words = element_count_of p.described in
    and_next P (unless (kind_of tag == 0) _) _ (λ struct. and_then (λ _. nat_le (n * k) words ≡ true) P (unless (nat_le (n * k) words) _) _ (tested (nat_le (n * k) words) _) (λ inside h. counted n k words (leb-true (n * k) words h))))))

elements_left : (all : Segments) (budget : ℕ) (p : Option Pointed) → IfOk (elements_found all budget p) (λ x. x.0.count + x.1 ≤ budget)
unfolding elements_found
elements_left all budget None = omega arith
elements_left all budget (Some p) =
    and_then (λ x. x.0.count ≤ composite_cost x.0 x.1) (λ x. x.0.count + x.1 ≤ budget) (composite_target all p) _ (elements_counted all p) (λ found h.
    and_then (λ left. left + composite_cost found.0 found.1 ≤ budget) (λ x. x.0.count + x.1 ≤ budget) (charged (composite_cost found.0 found.1) budget) _ (charged_left (composite_cost found.0 found.1) budget) (λ left k. omega arith))

pub elements_at_left : (o : Object) (slot budget : ℕ) → IfOk (elements_at o slot budget) (λ x. x.0.count + x.1 ≤ budget)
unfolding elements_at elements_behind
elements_at_left o slot budget =
    let P : (Elements × ℕ) → Type 0 = λ x. x.0.count + x.1 ≤ budget in
    by_test P (nat_lt slot o.pointer_words) _ _ (λ e. when_blamed P _ _ _ (and_next P (target o.segments o.segment _) _ (elements_left o.segments budget))) (λ e. omega arith)
