-- What a reading takes from its budget: a word at least for each text that isn't empty, and one for each struct but those
-- behind a struct's own pointer, which may be the default.
use Rattle.std.proofs.Common.{◌≡◌, ◌≤◌, ◌<◌, ◌+◌, ◌-◌, ◌*◌, ℕ, zero, suc, Bool, true, false, ◌&&◌, List, [], ◌∷◌, ◌++◌, Result, Ok, Err, refl, arith, mul-suc}
use Rattle.std.specs.Prelude.{Option, Some, None, IfOk, if◌then◌else◌, nat_le, nat_lt, ◌==◌}
use Rattle.std.specs.List.{flat_map, sum_by}
use Rattle.std.proofs.lemmas.Bool.{leb-true, eqb-true}
use Rattle.std.proofs.lemmas.Bool.Decides.{nat_tests}
use Rattle.std.proofs.lemmas.List.Sums.{sum_by-cons, sum_by-append}
use Rattle.ix_num.specs.declared.fault.FrameRule.{FrameRule}
use Rattle.ix_frame.specs.Result.{◌>>=◌, unless}
use Rattle.ix_frame.specs.Segments.{Segments, word_at, segment_at, has_words}
use Rattle.ix_frame.specs.Target.{Pointed, Object, Elements, target, placed, struct_target, list_target, composite_target, kind_of, element_size_of, element_count_of, offset_of, data_words_of, pointer_words_of}
use Rattle.ix_frame.specs.Objects.{charged, plain_cost, composite_cost, blamed, struct_found, struct_behind, elements_found, elements_behind, list_found, list_behind, text_of, text_found, text_behind, struct_at, elements_at, list_at, text_at, text_in, has_pointer, element_of, bytes_of, root_of, whole_budget}
use Rattle.ix_message.specs.Shape.{Text, Field, Struct, Pointers, Branches, Value, struct_of, no_more, text, texts, numbers, struct, struct_or_none, boxed, structs, branches, string_table, unread}
use Rattle.ix_message.specs.Device.{device}
use Rattle.ix_message.specs.Message.{numbers_in_segments}
use Rattle.ix_message.specs.Names.{option_uses}
use Rattle.ix_message.specs.Reading.{Reads, each_from, texts_from, texts_at, branches_from, some_of, value_at, parts_at, root_at, table_slot, pointers_of}
use Rattle.ix_device_read.specs.Premises.{structs_in, parts_in, branches_in, if_there}
use Rattle.ix_device_read.specs.Loose.{loose_texts, loose_parts, paid_text, paid_texts}

-- What holds after steps of which each may find a fault.

pub and_then : {A B E : Type 0} (P : A → Type 0) (Q : B → Type 0) (r : Result A E) (f : A → Result B E) → IfOk r P → ((x : A) → P x → IfOk (f x) Q) → IfOk (r >>= f) Q
and_then P Q (Ok x) f h next = next x h
and_then P Q (Err e) f h next = tt

pub and_next : {A B E : Type 0} (Q : B → Type 0) (r : Result A E) (f : A → Result B E) → ((x : A) → IfOk (f x) Q) → IfOk (r >>= f) Q
and_next Q (Ok x) f next = next x
and_next Q (Err e) f next = tt

pub weaker : {A E : Type 0} (P Q : A → Type 0) (r : Result A E) → IfOk r P → ((x : A) → P x → Q x) → IfOk r Q
weaker P Q (Ok x) h next = next x h
weaker P Q (Err e) h next = tt

pub when_blamed : {A : Type 0} (P : A → Type 0) (s w : ℕ) (r : Result A FrameRule) → IfOk r P → IfOk (blamed s w r) P
when_blamed P s w (Ok x) h = h
when_blamed P s w (Err e) h = tt

pub by_test : {A E : Type 0} (P : A → Type 0) (b : Bool) (r q : Result A E) → (b ≡ true → IfOk r P) → (b ≡ false → IfOk q P) → IfOk (if b then r else q) P
by_test P true r q passes fails = passes refl
by_test P false r q passes fails = fails refl

pub tested : {E : Type 0} (b : Bool) (e : E) → IfOk (unless b e) (λ _. b ≡ true)
tested true e = refl
tested false e = tt

-- The cost of each kind of object.

pub charged_left : (cost budget : ℕ) → IfOk (charged cost budget) (λ left. left + cost ≤ budget)
charged_left cost budget =
    by_test (λ left. left + cost ≤ budget) (nat_le cost budget) (Ok (budget - cost)) _ (λ e. let le = leb-true cost budget e in omega arith) (λ e. tt)

struct_left : (all : Segments) (budget : ℕ) (p : Option Pointed) → IfOk (struct_found all budget p) (λ x. x.1 ≤ budget)
unfolding struct_found
struct_left all budget None = omega arith
struct_left all budget (Some p) =
    and_next (λ x. x.1 ≤ budget) (struct_target all p) _ (λ found. and_then (λ left. left + plain_cost found.1 ≤ budget) (λ x. x.1 ≤ budget) (charged (plain_cost found.1) budget) _ (charged_left (plain_cost found.1) budget) (λ left h. omega arith))

pub struct_behind_left : (all : Segments) (s w budget : ℕ) → IfOk (struct_behind all s w budget) (λ x. x.1 ≤ budget)
unfolding struct_behind
struct_behind_left all s w budget =
    when_blamed (λ x. x.1 ≤ budget) s w _ (and_next (λ x. x.1 ≤ budget) (target all s w) _ (struct_left all budget))

pub struct_at_left : (o : Object) (slot budget : ℕ) → IfOk (struct_at o slot budget) (λ x. x.1 ≤ budget)
unfolding struct_at
struct_at_left o slot budget =
    by_test (λ x. x.1 ≤ budget) (nat_lt slot o.pointer_words) _ _ (λ e. struct_behind_left o.segments o.segment _ budget) (λ e. omega arith)

-- elements of a word or more take no fewer words than they are
each_takes : (n k words : ℕ) → n * k ≤ words → 0 < k → n ≤ words
each_takes n zero words h some = absurd (omega arith)
each_takes n (suc k) words h some = omega (arith, mul-suc n k)

-- a list of structs costs no less than they are
counted : (n k words : ℕ) → n * k ≤ words → n ≤ 1 + words + (if k == 0 then n else 0)
counted n k words h = go (k == 0) refl
  where
    go : (b : Bool) → k == 0 ≡ b → n ≤ 1 + words + (if b then n else 0)
    go true e = omega arith
    go false e = let some : 0 < k = grind (arith, nat_tests) in let le : n ≤ words = each_takes n k words h some in omega arith

elements_counted : (all : Segments) (p : Pointed) → IfOk (composite_target all p) (λ x. x.0.count ≤ composite_cost x.0 x.1)
unfolding composite_target
elements_counted all p =
    let P : (Elements × ℕ) → Type 0 = λ x. x.0.count ≤ composite_cost x.0 x.1 in
    and_next P (unless (kind_of p.described == 1) _) _ (λ list. and_next P (unless (element_size_of p.described == 7) _) _ (λ fitting. and_next P (placed all p (element_count_of p.described + 1)) _ (λ start.
    let tag = word_at (segment_at all p.segment) start in
    let n = offset_of tag in
    let k = data_words_of tag + pointer_words_of tag in
    let words = element_count_of p.described in
    and_next P (unless (kind_of tag == 0) _) _ (λ struct. and_then (λ _. nat_le (n * k) words ≡ true) P (unless (nat_le (n * k) words) _) _ (tested (nat_le (n * k) words) _) (λ inside h. counted n k words (leb-true (n * k) words h))))))

elements_left : (all : Segments) (budget : ℕ) (p : Option Pointed) → IfOk (elements_found all budget p) (λ x. x.0.count + x.1 ≤ budget)
unfolding elements_found
elements_left all budget None = omega arith
elements_left all budget (Some p) =
    and_then (λ x. x.0.count ≤ composite_cost x.0 x.1) (λ x. x.0.count + x.1 ≤ budget) (composite_target all p) _ (elements_counted all p) (λ found h.
    and_then (λ left. left + composite_cost found.0 found.1 ≤ budget) (λ x. x.0.count + x.1 ≤ budget) (charged (composite_cost found.0 found.1) budget) _ (charged_left (composite_cost found.0 found.1) budget) (λ left k. omega arith))

pub elements_at_left : (o : Object) (slot budget : ℕ) → IfOk (elements_at o slot budget) (λ x. x.0.count + x.1 ≤ budget)
unfolding elements_at elements_behind
elements_at_left o slot budget =
    let P : (Elements × ℕ) → Type 0 = λ x. x.0.count + x.1 ≤ budget in
    by_test P (nat_lt slot o.pointer_words) _ _ (λ e. when_blamed P _ _ _ (and_next P (target o.segments o.segment _) _ (elements_left o.segments budget))) (λ e. omega arith)

list_left : (size : ℕ) (all : Segments) (budget : ℕ) (p : Option Pointed) → IfOk (list_found size all budget p) (λ x. x.1 ≤ budget)
unfolding list_found
list_left size all budget None = omega arith
list_left size all budget (Some p) =
    and_next (λ x. x.1 ≤ budget) (list_target size all p) _ (λ found. and_then (λ left. left + plain_cost found.1 ≤ budget) (λ x. x.1 ≤ budget) (charged (plain_cost found.1) budget) _ (charged_left (plain_cost found.1) budget) (λ left h. omega arith))

pub list_at_left : (size : ℕ) (o : Object) (slot budget : ℕ) → IfOk (list_at size o slot budget) (λ x. x.1 ≤ budget)
unfolding list_at list_behind
list_at_left size o slot budget =
    let P : (Elements × ℕ) → Type 0 = λ x. x.1 ≤ budget in
    by_test P (nat_lt slot o.pointer_words) _ _ (λ e. when_blamed P _ _ _ (and_next P (target o.segments o.segment _) _ (list_left size o.segments budget))) (λ e. omega arith)

-- a list of bytes that is there costs a word at least
some_left : (all : Segments) (budget : ℕ) (p : Pointed) → IfOk (list_found 2 all budget (Some p)) (λ x. x.1 + 1 ≤ budget)
unfolding list_found
some_left all budget p =
    and_next (λ x. x.1 + 1 ≤ budget) (list_target 2 all p) _ (λ found. and_then (λ left. left + plain_cost found.1 ≤ budget) (λ x. x.1 + 1 ≤ budget) (charged (plain_cost found.1) budget) _ (charged_left (plain_cost found.1) budget) (λ left h. omega arith))

one_at_most : (t : Text) → paid_text t ≤ 1
one_at_most [] = omega arith
one_at_most (b ∷ bs) = omega arith

text_left : (all : Segments) (budget : ℕ) (p : Option Pointed) → IfOk (text_found all budget p) (λ x. paid_text x.0 + x.1 ≤ budget)
unfolding text_found
text_left all budget None = omega arith
text_left all budget (Some p) =
    and_then (λ x. x.1 + 1 ≤ budget) (λ x. paid_text x.0 + x.1 ≤ budget) (list_found 2 all budget (Some p)) _ (some_left all budget p) (λ found h.
    and_next (λ x. paid_text x.0 + x.1 ≤ budget) (text_of (bytes_of found.0)) _ (λ t. let m = one_at_most t in omega arith))

pub text_behind_left : (all : Segments) (s w budget : ℕ) → IfOk (text_behind all s w budget) (λ x. paid_text x.0 + x.1 ≤ budget)
unfolding text_behind
text_behind_left all s w budget =
    let P : (Text × ℕ) → Type 0 = λ x. paid_text x.0 + x.1 ≤ budget in
    when_blamed P s w _ (and_next P (target all s w) _ (text_left all budget))

pub text_at_left : (o : Object) (slot budget : ℕ) → IfOk (text_at o slot budget) (λ x. paid_text x.0 + x.1 ≤ budget)
unfolding text_at
text_at_left o slot budget =
    let P : (Text × ℕ) → Type 0 = λ x. paid_text x.0 + x.1 ≤ budget in
    by_test P (nat_lt slot o.pointer_words) _ _ (λ e. text_behind_left o.segments o.segment _ budget) (λ e. omega arith)

-- Lists.

texts_from_left : (n : ℕ) (l : Elements) (i budget : ℕ) → IfOk (texts_from n l i budget) (λ x. paid_texts x.0 + x.1 ≤ budget)
unfolding texts_from
texts_from_left zero l i budget = omega arith
texts_from_left (suc n) l i budget =
    let P : (List Text × ℕ) → Type 0 = λ x. paid_texts x.0 + x.1 ≤ budget in
    and_then (λ x. paid_text x.0 + x.1 ≤ budget) P (text_in l i budget) _ (text_behind_left l.first.segments l.first.segment _ budget) (λ first h.
    and_then (λ x. paid_texts x.0 + x.1 ≤ first.1) P (texts_from n l (i + 1) first.1) _ (texts_from_left n l (i + 1) first.1) (λ others k. omega (arith, sum_by-cons paid_text first.0 others.0)))

pub texts_at_left : (o : Object) (slot budget : ℕ) → IfOk (texts_at o slot budget) (λ x. paid_texts x.0 + x.1 ≤ budget)
unfolding texts_at
texts_at_left o slot budget =
    let P : (List Text × ℕ) → Type 0 = λ x. paid_texts x.0 + x.1 ≤ budget in
    and_then (λ l. l.1 ≤ budget) P (list_at 6 o slot budget) _ (list_at_left 6 o slot budget) (λ l h.
    weaker (λ x. paid_texts x.0 + x.1 ≤ l.1) P (texts_from l.0.count l.0 0 l.1) (texts_from_left l.0.count l.0 0 l.1) (λ x k. omega arith))

-- each struct of a list is paid for with the list
each_left : {A : Type 0} (structs_of : A → ℕ) (texts_of : A → List Text) (read : Object → ℕ → Reads A)
    → ((o : Object) (b : ℕ) → IfOk (read o b) (λ x. (structs_of x.0 + x.1 ≤ b + 1) × (paid_texts (texts_of x.0) + x.1 ≤ b)))
    → (n : ℕ) (l : Elements) (i budget : ℕ)
    → IfOk (each_from read n l i budget) (λ x. (sum_by structs_of x.0 + x.1 ≤ budget + n) × (paid_texts (flat_map texts_of x.0) + x.1 ≤ budget))
unfolding each_from
each_left structs_of texts_of read one zero l i budget = (omega arith, omega arith)
each_left {A} structs_of texts_of read one (suc n) l i budget =
    let P : (List A × ℕ) → Type 0 = λ x. (sum_by structs_of x.0 + x.1 ≤ budget + suc n) × (paid_texts (flat_map texts_of x.0) + x.1 ≤ budget) in
    and_then (λ x. (structs_of x.0 + x.1 ≤ budget + 1) × (paid_texts (texts_of x.0) + x.1 ≤ budget)) P (read (element_of l i) budget) _ (one (element_of l i) budget) (λ first h.
    and_then (λ x. (sum_by structs_of x.0 + x.1 ≤ first.1 + n) × (paid_texts (flat_map texts_of x.0) + x.1 ≤ first.1)) P (each_from read n l (i + 1) first.1) _ (each_left structs_of texts_of read one n l (i + 1) first.1) (λ others k.
    (omega (arith, h.0, k.0, sum_by-cons structs_of first.0 others.0), omega (arith, h.1, k.1, sum_by-append paid_text (texts_of first.0) (flat_map texts_of others.0)))))

pub branches_left : (bound : ℕ) (fields : List Field) (n : ℕ) (l : Elements) (i budget : ℕ) → IfOk (branches_from bound fields n l i budget) (λ x. branches_in x.0 + x.1 ≤ budget + n)
unfolding branches_from
branches_left bound fields zero l i budget = omega arith
branches_left zero fields (suc n) l i budget = omega arith
branches_left (suc bound) fields (suc n) l i budget =
    let P : (Branches (List ℕ) × ℕ) → Type 0 = λ x. branches_in x.0 + x.1 ≤ budget + suc n in
    and_then (λ x. x.0.count + x.1 ≤ budget) P (elements_at (element_of l i) 0 budget) _ (elements_at_left (element_of l i) 0 budget) (λ inner h.
    and_then (λ x. branches_in x.0 + x.1 ≤ inner.1 + inner.0.count) P (branches_from bound fields inner.0.count inner.0 0 inner.1) _ (branches_left bound fields inner.0.count inner.0 0 inner.1) (λ below k.
    and_then (λ x. branches_in x.0 + x.1 ≤ below.1 + n) P (branches_from bound fields n l (i + 1) below.1) _ (branches_left bound fields n l (i + 1) below.1) (λ beside m. omega arith)))

-- Whole structs.

-- how many structs a struct has, at any depth, that stand in no list: a pointer to the default costs nothing
abbrev mutual
  pub defaults : Struct → ℕ
  defaults (struct_of c fields ps) = default_parts ps

  pub default_parts : Pointers → ℕ
  default_parts no_more = 0
  default_parts (text c ps) = default_parts ps
  default_parts (texts c ps) = default_parts ps
  default_parts (numbers c target kind ps) = default_parts ps
  default_parts (struct c s ps) = defaults s + 1 + default_parts ps
  default_parts (struct_or_none c s ps) = defaults s + 1 + default_parts ps
  default_parts (boxed c kind inner s ps) = default_parts ps
  default_parts (structs c target s ps) = default_parts ps
  default_parts (branches c kind fields ps) = default_parts ps
  default_parts (string_table c ps) = default_parts ps
  default_parts (unread c ps) = default_parts ps

-- the structs of lists have no such structs
abbrev mutual
  pub lists_paid : Struct → Bool
  lists_paid (struct_of c fields ps) = part_lists_paid ps

  pub part_lists_paid : Pointers → Bool
  part_lists_paid no_more = true
  part_lists_paid (text c ps) = part_lists_paid ps
  part_lists_paid (texts c ps) = part_lists_paid ps
  part_lists_paid (numbers c target kind ps) = part_lists_paid ps
  part_lists_paid (struct c s ps) = lists_paid s && part_lists_paid ps
  part_lists_paid (struct_or_none c s ps) = lists_paid s && part_lists_paid ps
  part_lists_paid (boxed c kind inner s ps) = (defaults s == 0) && (lists_paid s && part_lists_paid ps)
  part_lists_paid (structs c target s ps) = (defaults s == 0) && (lists_paid s && part_lists_paid ps)
  part_lists_paid (branches c kind fields ps) = part_lists_paid ps
  part_lists_paid (string_table c ps) = part_lists_paid ps
  part_lists_paid (unread c ps) = part_lists_paid ps

pub both : (a b : Bool) → (a && b) ≡ true → (a ≡ true) × (b ≡ true)
both true b h = (refl, h)
both false b h = absurd (cc)

mutual
  unfolding value_at parts_at structs_in parts_in loose_texts loose_parts

  pub value_left : (s : Struct) → lists_paid s ≡ true → (o : Object) (budget : ℕ)
      → IfOk (value_at s o budget) (λ x. (structs_in s x.0 + x.1 ≤ budget + 1 + defaults s) × (paid_texts (loose_texts s x.0) + x.1 ≤ budget))
  value_left (struct_of c fields ps) paid o budget =
      and_then (λ x. (parts_in ps x.0 + x.1 ≤ budget + default_parts ps) × (paid_texts (loose_parts ps x.0) + x.1 ≤ budget)) _ (parts_at ps 0 o budget) _ (parts_left ps paid 0 o budget) (λ parts h. (omega (arith, h.0), h.1))

  pub parts_left : (ps : Pointers) → part_lists_paid ps ≡ true → (slot : ℕ) (o : Object) (budget : ℕ)
      → IfOk (parts_at ps slot o budget) (λ x. (parts_in ps x.0 + x.1 ≤ budget + default_parts ps) × (paid_texts (loose_parts ps x.0) + x.1 ≤ budget))
  parts_left no_more paid slot o budget = (omega arith, omega arith)
  parts_left (text c ps) paid slot o budget =
      and_then (λ x. paid_text x.0 + x.1 ≤ budget) _ (text_at o slot budget) _ (text_at_left o slot budget) (λ here h.
      and_then (λ x. (parts_in ps x.0 + x.1 ≤ here.1 + default_parts ps) × (paid_texts (loose_parts ps x.0) + x.1 ≤ here.1)) _ (parts_at ps (slot + 1) o here.1) _ (parts_left ps paid (slot + 1) o here.1) (λ rest k.
      (omega (arith, k.0), omega (arith, k.1, sum_by-cons paid_text here.0 (loose_parts ps rest.0)))))
  parts_left (texts c ps) paid slot o budget =
      and_then (λ x. paid_texts x.0 + x.1 ≤ budget) _ (texts_at o slot budget) _ (texts_at_left o slot budget) (λ here h.
      and_then (λ x. (parts_in ps x.0 + x.1 ≤ here.1 + default_parts ps) × (paid_texts (loose_parts ps x.0) + x.1 ≤ here.1)) _ (parts_at ps (slot + 1) o here.1) _ (parts_left ps paid (slot + 1) o here.1) (λ rest k.
      (omega (arith, k.0), omega (arith, k.1, sum_by-append paid_text here.0 (loose_parts ps rest.0)))))
  parts_left (numbers c target kind ps) paid slot o budget =
      and_then (λ x. x.1 ≤ budget) _ (list_at 4 o slot budget) _ (list_at_left 4 o slot budget) (λ l h.
      and_then (λ x. (parts_in ps x.0 + x.1 ≤ l.1 + default_parts ps) × (paid_texts (loose_parts ps x.0) + x.1 ≤ l.1)) _ (parts_at ps (slot + 1) o l.1) _ (parts_left ps paid (slot + 1) o l.1) (λ rest k.
      (omega (arith, k.0), omega (arith, k.1))))
  parts_left (struct c s ps) paid slot o budget =
      let two = both (lists_paid s) (part_lists_paid ps) paid in
      and_then (λ x. x.1 ≤ budget) _ (struct_at o slot budget) _ (struct_at_left o slot budget) (λ inner h.
      and_then (λ x. (structs_in s x.0 + x.1 ≤ inner.1 + 1 + defaults s) × (paid_texts (loose_texts s x.0) + x.1 ≤ inner.1)) _ (value_at s inner.0 inner.1) _ (value_left s two.0 inner.0 inner.1) (λ here j.
      and_then (λ x. (parts_in ps x.0 + x.1 ≤ here.1 + default_parts ps) × (paid_texts (loose_parts ps x.0) + x.1 ≤ here.1)) _ (parts_at ps (slot + 1) o here.1) _ (parts_left ps two.1 (slot + 1) o here.1) (λ rest k.
      (omega (arith, j.0, k.0), omega (arith, j.1, k.1, sum_by-append paid_text (loose_texts s here.0) (loose_parts ps rest.0))))))
  parts_left (struct_or_none c s ps) paid slot o budget =
      let two = both (lists_paid s) (part_lists_paid ps) paid in
      let H : (Option (Value ℕ s) × ℕ) → Type 0 = λ x. (if_there (structs_in s) x.0 + x.1 ≤ budget + 1 + defaults s) × (paid_texts (option_uses (loose_texts s) x.0) + x.1 ≤ budget) in
      let behind : IfOk (some_of (struct_at o slot budget >>= λ inner. value_at s inner.0 inner.1)) H =
      and_then (λ x. (structs_in s x.0 + x.1 ≤ budget + 1 + defaults s) × (paid_texts (loose_texts s x.0) + x.1 ≤ budget)) H (struct_at o slot budget >>= λ inner. value_at s inner.0 inner.1) _
      (and_then (λ x. x.1 ≤ budget) _ (struct_at o slot budget) _ (struct_at_left o slot budget) (λ inner h. weaker (λ x. (structs_in s x.0 + x.1 ≤ inner.1 + 1 + defaults s) × (paid_texts (loose_texts s x.0) + x.1 ≤ inner.1)) _ (value_at s inner.0 inner.1) (value_left s two.0 inner.0 inner.1) (λ x k. (omega (arith, k.0), omega (arith, k.1)))))
      (λ x k. k) in
      and_then H _ (if has_pointer o slot then some_of (struct_at o slot budget >>= λ inner. value_at s inner.0 inner.1) else Ok (None, budget)) _
      (by_test H (has_pointer o slot) _ _ (λ _. behind) (λ _. (omega arith, omega arith))) (λ here j.
      and_then (λ x. (parts_in ps x.0 + x.1 ≤ here.1 + default_parts ps) × (paid_texts (loose_parts ps x.0) + x.1 ≤ here.1)) _ (parts_at ps (slot + 1) o here.1) _ (parts_left ps two.1 (slot + 1) o here.1) (λ rest k.
      (omega (arith, j.0, k.0), omega (arith, j.1, k.1, sum_by-append paid_text (option_uses (loose_texts s) here.0) (loose_parts ps rest.0)))))
  parts_left (boxed c kind inner s ps) paid slot o budget =
      let two = both (defaults s == 0) (lists_paid s && part_lists_paid ps) paid in
      let more = both (lists_paid s) (part_lists_paid ps) two.1 in
      let none : defaults s ≡ 0 = eqb-true (defaults s) 0 two.0 in
      and_then (λ x. x.1 ≤ budget) _ (struct_at o slot budget) _ (struct_at_left o slot budget) (λ box h.
      and_then (λ x. x.0.count + x.1 ≤ box.1) _ (elements_at box.0 0 box.1) _ (elements_at_left box.0 0 box.1) (λ l m.
      and_then (λ x. (sum_by (structs_in s) x.0 + x.1 ≤ l.1 + l.0.count) × (paid_texts (flat_map (loose_texts s) x.0) + x.1 ≤ l.1)) _ (each_from (value_at s) l.0.count l.0 0 l.1) _
      (each_left (structs_in s) (loose_texts s) (value_at s) (λ e b. weaker (λ x. (structs_in s x.0 + x.1 ≤ b + 1 + defaults s) × (paid_texts (loose_texts s x.0) + x.1 ≤ b)) _ (value_at s e b) (value_left s more.0 e b) (λ x k. (omega (arith, k.0), k.1))) l.0.count l.0 0 l.1) (λ here j.
      and_then (λ x. (parts_in ps x.0 + x.1 ≤ here.1 + default_parts ps) × (paid_texts (loose_parts ps x.0) + x.1 ≤ here.1)) _ (parts_at ps (slot + 1) o here.1) _ (parts_left ps more.1 (slot + 1) o here.1) (λ rest k.
      (omega (arith, j.0, k.0), omega (arith, j.1, k.1, sum_by-append paid_text (flat_map (loose_texts s) here.0) (loose_parts ps rest.0)))))))
  parts_left (structs c target s ps) paid slot o budget =
      let two = both (defaults s == 0) (lists_paid s && part_lists_paid ps) paid in
      let more = both (lists_paid s) (part_lists_paid ps) two.1 in
      let none : defaults s ≡ 0 = eqb-true (defaults s) 0 two.0 in
      and_then (λ x. x.0.count + x.1 ≤ budget) _ (elements_at o slot budget) _ (elements_at_left o slot budget) (λ l m.
      and_then (λ x. (sum_by (structs_in s) x.0 + x.1 ≤ l.1 + l.0.count) × (paid_texts (flat_map (loose_texts s) x.0) + x.1 ≤ l.1)) _ (each_from (value_at s) l.0.count l.0 0 l.1) _
      (each_left (structs_in s) (loose_texts s) (value_at s) (λ e b. weaker (λ x. (structs_in s x.0 + x.1 ≤ b + 1 + defaults s) × (paid_texts (loose_texts s x.0) + x.1 ≤ b)) _ (value_at s e b) (value_left s more.0 e b) (λ x k. (omega (arith, k.0), k.1))) l.0.count l.0 0 l.1) (λ here j.
      and_then (λ x. (parts_in ps x.0 + x.1 ≤ here.1 + default_parts ps) × (paid_texts (loose_parts ps x.0) + x.1 ≤ here.1)) _ (parts_at ps (slot + 1) o here.1) _ (parts_left ps more.1 (slot + 1) o here.1) (λ rest k.
      (omega (arith, j.0, k.0), omega (arith, j.1, k.1, sum_by-append paid_text (flat_map (loose_texts s) here.0) (loose_parts ps rest.0))))))
  parts_left (branches c kind fields ps) paid slot o budget =
      and_then (λ x. x.0.count + x.1 ≤ budget) _ (elements_at o slot budget) _ (elements_at_left o slot budget) (λ l m.
      and_then (λ x. branches_in x.0 + x.1 ≤ l.1 + l.0.count) _ (branches_from (budget + 1) fields l.0.count l.0 0 l.1) _ (branches_left (budget + 1) fields l.0.count l.0 0 l.1) (λ here j.
      and_then (λ x. (parts_in ps x.0 + x.1 ≤ here.1 + default_parts ps) × (paid_texts (loose_parts ps x.0) + x.1 ≤ here.1)) _ (parts_at ps (slot + 1) o here.1) _ (parts_left ps paid (slot + 1) o here.1) (λ rest k.
      (omega (arith, k.0), omega (arith, k.1)))))
  parts_left (string_table c ps) paid slot o budget = parts_left ps paid (slot + 1) o budget
  parts_left (unread c ps) paid slot o budget = parts_left ps paid (slot + 1) o budget

root_left : (s : Struct) → lists_paid s ≡ true → (o : Object) (budget : ℕ)
    → IfOk (root_at s o budget) (λ x. (structs_in s x.0.1 + x.1 ≤ budget + 1 + defaults s) × (paid_texts (x.0.0 ++ loose_texts s x.0.1) + x.1 ≤ budget))
unfolding root_at
root_left s paid o budget =
    and_then (λ x. paid_texts x.0 + x.1 ≤ budget) _ (texts_at o (table_slot (pointers_of s)) budget) _ (texts_at_left o (table_slot (pointers_of s)) budget) (λ table h.
    and_then (λ x. (structs_in s x.0 + x.1 ≤ table.1 + 1 + defaults s) × (paid_texts (loose_texts s x.0) + x.1 ≤ table.1)) _ (value_at s o table.1) _ (value_left s paid o table.1) (λ v k.
    (omega (arith, k.0), omega (arith, k.1, sum_by-append paid_text table.0 (loose_texts s v.0)))))

-- A message has no more structs and texts than its words allow.
pub message_bound : (s : Struct) → lists_paid s ≡ true → (all : Segments)
    → IfOk (numbers_in_segments s all) (λ x. (structs_in s x.1 ≤ whole_budget all + 1 + defaults s) × (paid_texts (x.0 ++ loose_texts s x.1) ≤ whole_budget all))
unfolding numbers_in_segments root_of
message_bound s paid all =
    let budget = whole_budget all in
    and_then (λ x. x.1 ≤ budget) _ (root_of all budget) _ (by_test (λ x. x.1 ≤ budget) (has_words all 0 0 1) _ _ (λ e. struct_behind_left all 0 0 budget) (λ e. tt)) (λ root h.
    and_then (λ x. (structs_in s x.0.1 + x.1 ≤ root.1 + 1 + defaults s) × (paid_texts (x.0.0 ++ loose_texts s x.0.1) + x.1 ≤ root.1)) _ (root_at s root.0 root.1) _ (root_left s paid root.0 root.1) (λ found k.
    (omega (arith, k.0), omega (arith, k.1))))

-- the same at device resources
pub device_bound : (all : Segments) (table : List Text) (v : Value ℕ device) → numbers_in_segments device all ≡ Ok (table, v)
    → (structs_in device v ≤ whole_budget all + 3) × (paid_texts (table ++ loose_texts device v) ≤ whole_budget all)
device_bound all table v is =
    let h = message_bound device refl all in
    let k : (structs_in device v ≤ whole_budget all + 1 + defaults device) × (paid_texts (table ++ loose_texts device v) ≤ whole_budget all) = rw is at h in
    (omega (arith, k.0), k.1)
