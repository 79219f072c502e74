-- What a reading takes from its budget.
use Rattle.std.proofs.Common.{◌≡◌, ◌≤◌, ◌<◌, ◌+◌, ◌-◌, ◌*◌, ℕ, zero, suc, Bool, true, false, List}
use Rattle.std.proofs.Common.{[], ◌∷◌, Result, Ok, Err, refl, arith, mul-suc}
use Rattle.std.specs.Prelude.{Option, Some, None, IfOk, if◌then◌else◌, nat_le, nat_lt, ◌==◌}
use Rattle.std.proofs.lemmas.Bool.{leb-true}
use Rattle.std.proofs.lemmas.Bool.Decides.{nat_tests}
use Rattle.ix_num.specs.declared.fault.FrameRule.{FrameRule}
use Rattle.ix_frame.specs.Result.{◌>>=◌, unless}
use Rattle.ix_frame.specs.Segments.{Segments, word_at, segment_at}
use Rattle.ix_frame.specs.Target.{Pointed, Object, Elements, target, placed, list_target}
use Rattle.ix_frame.specs.Target.{list_words, composite_target, kind_of, element_size_of}
use Rattle.ix_frame.specs.Target.{element_count_of, offset_of, data_words_of, pointer_words_of}
use Rattle.ix_frame.specs.Objects.{charged, plain_cost, composite_cost, blamed, elements_found}
use Rattle.ix_frame.specs.Objects.{elements_behind, list_found, list_behind, text_of, text_found}
use Rattle.ix_frame.specs.Objects.{text_behind, elements_at, list_at, text_at, text_in, element_of}
use Rattle.ix_frame.specs.Objects.{bytes_of}
use Rattle.ix_message.specs.Phys.{segment}
use Rattle.ix_message.specs.Reading.{Reads, each_from, branches_from}
use Rattle.ix_message.specs.Shape.{Text, Branches, ends, branch}
use Rattle.ix_schema.specs.Passed.{texts_left, texts_passed}

-- What holds after steps of which each may find a fault.

pub and_then : {A B E : Type 0} (P : A → Type 0) (Q : B → Type 0) (r : Result A E) (f : A
    → Result B E) → IfOk r P → ((x : A) → P x → IfOk (f x) Q) → IfOk (r >>= f) Q
and_then P Q (Ok x) f h next = next x h
and_then P Q (Err e) f h next = tt

pub and_next : {A B E : Type 0} (Q : B → Type 0) (r : Result A E) (f : A → Result B E)
    → ((x : A) → IfOk (f x) Q) → IfOk (r >>= f) Q
and_next Q (Ok x) f next = next x
and_next Q (Err e) f next = tt

when_blamed : {A : Type 0} (P : A → Type 0) (s w : ℕ) (r : Result A FrameRule) → IfOk r P
    → IfOk (blamed s w r) P
when_blamed P s w (Ok x) h = h
when_blamed P s w (Err e) h = tt

by_test : {A E : Type 0} (P : A → Type 0) (b : Bool) (r q : Result A E) → (b ≡ true → IfOk r P)
    → (b ≡ false → IfOk q P) → IfOk (if b then r else q) P
by_test P true r q passes fails = passes refl
by_test P false r q passes fails = fails refl

tested : {E : Type 0} (b : Bool) (e : E) → IfOk (unless b e) (λ _. b ≡ true)
tested true e = refl
tested false e = tt

charged_left : (cost budget : ℕ) → IfOk (charged cost budget) (λ left. left + cost ≤ budget)
charged_left cost budget =
    by_test (λ left. left + cost ≤ budget) (nat_le cost budget) (Ok (budget - cost)) _
    (λ e. let le = leb-true cost budget e in omega arith) (λ e. tt)

-- Lists of structs cost no less than they are.

each_takes : (n k words : ℕ) → n * k ≤ words → 0 < k → n ≤ words
each_takes n zero words h some = absurd (omega arith)
each_takes n (suc k) words h some = omega (arith, mul-suc n k)

counted : (n k words : ℕ) → n * k ≤ words → n ≤ 1 + words + (if k == 0 then n else 0)
counted n k words h = go (k == 0) refl
  where
    go : (b : Bool) → k == 0 ≡ b → n ≤ 1 + words + (if b then n else 0)
    go true e = omega arith
    go false e = let some : 0 < k = grind (arith, nat_tests) in let le : n ≤ words =
        each_takes n k words h some in omega arith

elements_counted : (all : Segments) (p : Pointed)
    → IfOk (composite_target all p) (λ x. x.0.count ≤ composite_cost x.0 x.1)
unfolding composite_target
elements_counted all p =
    let P : (Elements × ℕ) → Type 0 = λ x. x.0.count ≤ composite_cost x.0 x.1 in
    and_next P (unless (kind_of p.described == 1) _) _
    (λ list. and_next P (unless (element_size_of p.described == 7) _) _
    (λ fitting. and_next P (placed all p (element_count_of p.described + 1)) _ (λ start.
    let tag = word_at (segment_at all p.segment) start in
    let n = offset_of tag in
    let k = data_words_of tag + pointer_words_of tag in
    let words = element_count_of p.described in
    and_next P (unless (kind_of tag == 0) _) _
    (λ struct. and_then (λ _. nat_le (n * k) words ≡ true) P (unless (nat_le (n * k) words) _) _
    (tested (nat_le (n * k) words) _)
    (λ inside h. counted n k words (leb-true (n * k) words h))))))

elements_left : (all : Segments) (budget : ℕ) (p : Option Pointed)
    → IfOk (elements_found all budget p) (λ x. x.0.count + x.1 ≤ budget)
unfolding elements_found
elements_left all budget None = omega arith
elements_left all budget (Some p) =
    and_then (λ x. x.0.count ≤ composite_cost x.0 x.1) (λ x. x.0.count + x.1 ≤ budget)
    (composite_target all p) _ (elements_counted all p) (λ found h.
    and_then (λ left. left + composite_cost found.0 found.1 ≤ budget)
    (λ x. x.0.count + x.1 ≤ budget) (charged (composite_cost found.0 found.1) budget) _
    (charged_left (composite_cost found.0 found.1) budget) (λ left k. omega arith))

pub elements_at_left : (o : Object) (slot budget : ℕ)
    → IfOk (elements_at o slot budget) (λ x. x.0.count + x.1 ≤ budget)
unfolding elements_at elements_behind
elements_at_left o slot budget =
    let P : (Elements × ℕ) → Type 0 = λ x. x.0.count + x.1 ≤ budget in
    by_test P (nat_lt slot o.pointer_words) _ _
    (λ e. when_blamed P _ _ _ (and_next P (target o.segments o.segment _) _
    (elements_left o.segments budget))) (λ e. omega arith)

-- So do lists of pointers, and no other list gives something back.

words_of_pointers : (all : Segments) (p : Pointed)
    → IfOk (list_target 6 all p) (λ x. x.0.count ≤ x.1)
unfolding list_target
words_of_pointers all p =
    let P : (Elements × ℕ) → Type 0 = λ x. x.0.count ≤ x.1 in
    and_next P (unless (kind_of p.described == 1) _) _
    (λ list. and_next P (unless (element_size_of p.described == 6) _) _
    (λ fitting. and_next P (placed all p (list_words 6 (element_count_of p.described))) _
    (λ start. omega arith)))

pointers_left : (all : Segments) (budget : ℕ) (p : Option Pointed)
    → IfOk (list_found 6 all budget p) (λ x. x.0.count + x.1 ≤ budget)
unfolding list_found
pointers_left all budget None = omega arith
pointers_left all budget (Some p) =
    and_then (λ x. x.0.count ≤ x.1) (λ x. x.0.count + x.1 ≤ budget) (list_target 6 all p) _
    (words_of_pointers all p) (λ found h.
    and_then (λ left. left + plain_cost found.1 ≤ budget) (λ x. x.0.count + x.1 ≤ budget)
    (charged (plain_cost found.1) budget) _ (charged_left (plain_cost found.1) budget)
    (λ left k. omega arith))

pub pointers_at_left : (o : Object) (slot budget : ℕ)
    → IfOk (list_at 6 o slot budget) (λ x. x.0.count + x.1 ≤ budget)
unfolding list_at list_behind
pointers_at_left o slot budget =
    let P : (Elements × ℕ) → Type 0 = λ x. x.0.count + x.1 ≤ budget in
    by_test P (nat_lt slot o.pointer_words) _ _
    (λ e. when_blamed P _ _ _ (and_next P (target o.segments o.segment _) _
    (pointers_left o.segments budget))) (λ e. omega arith)

bytes_left : (all : Segments) (budget : ℕ) (p : Option Pointed)
    → IfOk (list_found 2 all budget p) (λ x. x.1 ≤ budget)
unfolding list_found
bytes_left all budget None = omega arith
bytes_left all budget (Some p) =
    and_next (λ x. x.1 ≤ budget) (list_target 2 all p) _
    (λ found. and_then (λ left. left + plain_cost found.1 ≤ budget) (λ x. x.1 ≤ budget)
    (charged (plain_cost found.1) budget) _ (charged_left (plain_cost found.1) budget)
    (λ left h. omega arith))

text_left : (all : Segments) (budget : ℕ) (p : Option Pointed)
    → IfOk (text_found all budget p) (λ x. x.1 ≤ budget)
unfolding text_found
text_left all budget None = omega arith
text_left all budget (Some p) =
    and_then (λ x. x.1 ≤ budget) (λ x. x.1 ≤ budget) (list_found 2 all budget (Some p)) _
    (bytes_left all budget (Some p)) (λ found h. and_next (λ x. x.1 ≤ budget)
    (text_of (bytes_of found.0)) _ (λ t. h))

text_behind_left : (all : Segments) (s w budget : ℕ)
    → IfOk (text_behind all s w budget) (λ x. x.1 ≤ budget)
unfolding text_behind
text_behind_left all s w budget =
    let P : (Text × ℕ) → Type 0 = λ x. x.1 ≤ budget in
    when_blamed P s w _ (and_next P (target all s w) _ (text_left all budget))

pub text_at_left : (o : Object) (slot budget : ℕ) → IfOk (text_at o slot budget) (λ x. x.1 ≤ budget)
unfolding text_at
text_at_left o slot budget =
    let P : (Text × ℕ) → Type 0 = λ x. x.1 ≤ budget in
    by_test P (nat_lt slot o.pointer_words) _ _
    (λ e. text_behind_left o.segments o.segment _ budget) (λ e. omega arith)

pub weaker : {A E : Type 0} (P Q : A → Type 0) (r : Result A E) → IfOk r P → ((x : A) → P x → Q x)
    → IfOk r Q
weaker P Q (Ok x) h next = next x h
weaker P Q (Err e) h next = tt

texts_from_left : (n : ℕ) (l : Elements) (i budget : ℕ)
    → IfOk (texts_left n l i budget) (λ left. left ≤ budget)
unfolding texts_left
texts_from_left zero l i budget = omega arith
texts_from_left (suc n) l i budget =
    and_then (λ x. x.1 ≤ budget) (λ left. left ≤ budget) (text_in l i budget) _
    (text_behind_left l.first.segments l.first.segment _ budget) (λ first h.
    weaker (λ left. left ≤ first.1) (λ left. left ≤ budget) (texts_left n l (i + 1) first.1)
    (texts_from_left n l (i + 1) first.1) (λ left k. omega arith))

pub texts_passed_left : (o : Object) (slot budget : ℕ)
    → IfOk (texts_passed o slot budget) (λ left. left ≤ budget)
unfolding texts_passed
texts_passed_left o slot budget =
    and_then (λ x. x.0.count + x.1 ≤ budget) (λ left. left ≤ budget) (list_at 6 o slot budget) _
    (pointers_at_left o slot budget) (λ l h.
    weaker (λ left. left ≤ l.1) (λ left. left ≤ budget) (texts_left l.0.count l.0 0 l.1)
    (texts_from_left l.0.count l.0 0 l.1) (λ left k. omega arith))

-- Structs and branches, each of which is paid for with its list.

pub each_left : {A : Type 0} (many : A → ℕ) (read : Object → ℕ → Reads A)
    → ((o : Object) (b : ℕ) → IfOk (read o b) (λ x. (many x.0 + x.1 ≤ b + 1) × (x.1 ≤ b)))
    → (total : List A → ℕ) → total [] ≡ 0
    → ((x : A) (xs : List A) → total (x ∷ xs) ≡ many x + total xs)
    → (n : ℕ) (l : Elements) (i budget : ℕ)
    → IfOk (each_from read n l i budget) (λ x. (total x.0 + x.1 ≤ budget + n) × (x.1 ≤ budget))
unfolding each_from
each_left many read one total none more zero l i budget = (omega arith, omega arith)
each_left {A} many read one total none more (suc n) l i budget =
    let P : (List A × ℕ) → Type 0 = λ x. (total x.0 + x.1 ≤ budget + suc n) × (x.1 ≤ budget) in
    and_then (λ x. (many x.0 + x.1 ≤ budget + 1) × (x.1 ≤ budget)) P
    (read (element_of l i) budget) _ (one (element_of l i) budget) (λ first h.
    and_then (λ x. (total x.0 + x.1 ≤ first.1 + n) × (x.1 ≤ first.1)) P
    (each_from read n l (i + 1) first.1) _
    (each_left many read one total none more n l (i + 1) first.1) (λ others k.
    (omega (arith, h.0, k.0, more first.0 others.0), omega (arith, h.1, k.1))))

abbrev pub branches_in : Branches (List ℕ) → ℕ
branches_in ends = 0
branches_in (branch x below beside) = suc (branches_in below + branches_in beside)

pub branches_left : (bound n : ℕ) (l : Elements) (i budget : ℕ)
    → IfOk (branches_from bound segment n l i budget)
    (λ x. (branches_in x.0 + x.1 ≤ budget + n) × (x.1 ≤ budget))
unfolding branches_from
branches_left zero zero l i budget = (omega arith, omega arith)
branches_left zero (suc n) l i budget = (omega arith, omega arith)
branches_left (suc bound) zero l i budget = (omega arith, omega arith)
branches_left (suc bound) (suc n) l i budget =
    let P : (Branches (List ℕ) × ℕ) → Type 0 =
    λ x. (branches_in x.0 + x.1 ≤ budget + suc n) × (x.1 ≤ budget) in
    and_then (λ x. x.0.count + x.1 ≤ budget) P (elements_at (element_of l i) 0 budget) _
    (elements_at_left (element_of l i) 0 budget) (λ inner h.
    and_then (λ x. (branches_in x.0 + x.1 ≤ inner.1 + inner.0.count) × (x.1 ≤ inner.1)) P
    (branches_from bound segment inner.0.count inner.0 0 inner.1) _
    (branches_left bound inner.0.count inner.0 0 inner.1) (λ below k.
    and_then (λ x. (branches_in x.0 + x.1 ≤ below.1 + n) × (x.1 ≤ below.1)) P
    (branches_from bound segment n l (i + 1) below.1) _
    (branches_left bound n l (i + 1) below.1)
    (λ beside m. (omega (arith, h, k.0, m.0), omega (arith, h, k.1, m.1)))))
