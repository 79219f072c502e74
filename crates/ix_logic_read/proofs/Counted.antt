-- How many structs the steps of a message begin: no more than its reading costs. All are of kinds
-- that are counted.
use Prim.Native.String.{String}
use Rattle.std.proofs.Common.{◌≡◌, ◌≤◌, ◌+◌, ◌++◌, ◌∙◌, ℕ, List, [], ◌∷◌, Bool, true, false, refl}
use Rattle.std.proofs.Common.{sym, arith}
use Rattle.std.specs.Prelude.{IfOk, ◌&&◌, ◌==◌}
use Rattle.std.specs.List.{flat_map, sum_by}
use Rattle.std.proofs.lemmas.Bool.{and_parts, eqb-true}
use Rattle.std.proofs.lemmas.List.Sums.{sum_by-cons}
use Rattle.ix_device_read.specs.Premises.{structs_in, parts_in}
use Rattle.ix_frame.specs.Objects.{elements_at, list_at, struct_at, text_at}
use Rattle.ix_frame.specs.Target.{Object, Elements}
use Rattle.ix_message.specs.Indexes.{Lists, Entry, Step, begun, asked, ask_row, ask_all, steps}
use Rattle.ix_message.specs.Indexes.{part_steps, lists_of, lengths_of, within}
use Rattle.ix_message.specs.Reading.{each_from, value_at, parts_at}
use Rattle.ix_message.specs.Shape.{Field, Kind, Struct, Pointers, Value, Parts, struct_of, no_more}
use Rattle.ix_message.specs.Shape.{text, texts, numbers, struct, struct_or_none, boxed, structs}
use Rattle.ix_message.specs.Shape.{branches, string_table, unread}
use Rattle.ix_take.specs.Walked.{kinds_of, begun_in}
use Rattle.ix_take.specs.Walks.{has_kind, AreOfKinds}
use Rattle.ix_logic_read.proofs.Costs.{and_then, each_left, elements_at_left, numbers_at_left}
use Rattle.ix_logic_read.proofs.Costs.{struct_at_left, text_at_left}

pub begun_on : (xs ys : List Step) → begun_in (xs ++ ys) ≡ begun_in xs + begun_in ys
begun_on [] ys = omega arith
begun_on (begun kind ∷ xs) ys = let later = begun_on xs ys in omega (arith, later)
begun_on (asked kind called fit ∷ xs) ys = begun_on xs ys

row_begins : (l : Lists) (a : List Entry) (kind : String) (row : List ℕ) (fields : List Field)
    (ns : List ℕ) → begun_in (ask_row l a kind row fields ns) ≡ 0
row_begins l a kind row [] ns = refl
row_begins l a kind row (f ∷ fs) [] = refl
row_begins l a kind row (f ∷ fs) (n ∷ ns) = row_begins l a kind row fs ns

all_begin : (l : Lists) (a : List Entry) (kind called : String) (k : Kind) (ns : List ℕ)
    → begun_in (ask_all l a kind called k ns) ≡ 0
all_begin l a kind called k [] = refl
all_begin l a kind called k (n ∷ ns) = all_begin l a kind called k ns

each_begins : {A : Type 0} (f : A → List Step) (many : A → ℕ) → ((x : A) → begun_in (f x) ≡ many x)
    → (xs : List A) → begun_in (flat_map f xs) ≡ sum_by many xs
each_begins f many one [] = refl
each_begins f many one (x ∷ xs) = begun_on (f x) (flat_map f xs)
    ∙ rw (one x, each_begins f many one xs) (sym (sum_by-cons many x xs))

-- A message of which no list has structs with others behind single pointers, and which has neither
-- trees nor structs that may be left out.

abbrev mutual
  -- how many structs a struct begins beside those of lists
  pub own_structs : Struct → ℕ
  own_structs (struct_of kind fields ps) = own_parts ps + 1

  pub own_parts : Pointers → ℕ
  own_parts (text c ps) = own_parts ps
  own_parts (numbers c target k ps) = own_parts ps
  own_parts (struct c s ps) = own_structs s + own_parts ps
  own_parts (boxed c box inner s ps) = own_parts ps
  own_parts (structs c target s ps) = own_parts ps
  own_parts (string_table c ps) = own_parts ps
  own_parts _ = 0

abbrev mutual
  pub is_flat : List String → Struct → Bool
  is_flat ks (struct_of kind fields ps) = has_kind ks kind && flat_parts ks ps

  pub flat_parts : List String → Pointers → Bool
  flat_parts ks no_more = true
  flat_parts ks (text c ps) = flat_parts ks ps
  flat_parts ks (numbers c target k ps) = flat_parts ks ps
  flat_parts ks (struct c s ps) = is_flat ks s && flat_parts ks ps
  flat_parts ks (boxed c box inner s ps) =
      ((own_structs s == 1) && is_flat ks s) && flat_parts ks ps
  flat_parts ks (structs c target s ps) = ((own_structs s == 1) && is_flat ks s) && flat_parts ks ps
  flat_parts ks (string_table c ps) = flat_parts ks ps
  flat_parts ks _ = false

mutual
  unfolding steps part_steps structs_in parts_in

  pub steps_begin : (ks : List String) (s : Struct) (l : Lists) (a : List Entry) (v : Value ℕ s)
      → is_flat ks s ≡ true → begun_in (steps s l a v) ≡ structs_in s v
  steps_begin ks (struct_of kind fields ps) l a v h =
      let here : Entry = record {
        row = v.0;
        lists = lists_of ps v.1;
        lengths =
            lengths_of ps v.1;
      } in
      let two = and_parts (has_kind ks kind) (flat_parts ks ps) h in
      let own = row_begins l (here ∷ a) kind v.0 fields v.0 in
      let rest = parts_begin ks ps kind (within ps v.1 l) (here ∷ a) v.1 two.1 in
      let all = begun_on (begun kind ∷ ask_row l (here ∷ a) kind v.0 fields v.0)
      (part_steps ps kind (within ps v.1 l) (here ∷ a) v.1) in
      omega (arith, own, rest, all)

  parts_begin : (ks : List String) (ps : Pointers) (kind : String) (l : Lists) (a : List Entry)
      (v : Parts ℕ ps) → flat_parts ks ps ≡ true
      → begun_in (part_steps ps kind l a v) ≡ parts_in ps v
  parts_begin ks no_more kind l a v h = refl
  parts_begin ks (text c ps) kind l a v h = parts_begin ks ps kind l a v.1 h
  parts_begin ks (numbers c target k ps) kind l a v h =
      let none = all_begin l a kind c k v.0 in
      let rest = parts_begin ks ps kind l a v.1 h in
      let all = begun_on (ask_all l a kind c k v.0) (part_steps ps kind l a v.1) in
      omega (arith, none, rest, all)
  parts_begin ks (struct c s ps) kind l a v h =
      let two = and_parts (is_flat ks s) (flat_parts ks ps) h in
      begun_on (steps s l a v.0) (part_steps ps kind l a v.1)
      ∙ rw (steps_begin ks s l a v.0 two.0, parts_begin ks ps kind l a v.1 two.1) refl
  parts_begin ks (boxed c box inner s ps) kind l a v h =
      let two = and_parts ((own_structs s == 1) && is_flat ks s) (flat_parts ks ps) h in
      let one = and_parts (own_structs s == 1) (is_flat ks s) two.0 in
      begun_on (flat_map (steps s l a) v.0) (part_steps ps kind l a v.1)
      ∙ rw (
        each_begins (steps s l a) (structs_in s) (λ x. steps_begin ks s l a x one.1) v.0,
        parts_begin ks ps kind l a v.1 two.1,
      ) refl
  parts_begin ks (structs c target s ps) kind l a v h =
      let two = and_parts ((own_structs s == 1) && is_flat ks s) (flat_parts ks ps) h in
      let one = and_parts (own_structs s == 1) (is_flat ks s) two.0 in
      begun_on (flat_map (steps s l a) v.0) (part_steps ps kind l a v.1)
      ∙ rw (
        each_begins (steps s l a) (structs_in s) (λ x. steps_begin ks s l a x one.1) v.0,
        parts_begin ks ps kind l a v.1 two.1,
      ) refl
  parts_begin ks (string_table c ps) kind l a v h = parts_begin ks ps kind l a v h
  parts_begin ks (texts c ps) kind l a v h = absurd cc
  parts_begin ks (struct_or_none c s ps) kind l a v h = absurd cc
  parts_begin ks (branches c k fields ps) kind l a v h = absurd cc
  parts_begin ks (unread c ps) kind l a v h = absurd cc

-- What a struct has, and what is left of the budget.
abbrev pub Paid : {A : Type 0} → (A → ℕ) → ℕ → ℕ → A × ℕ → Type 0
Paid many own b x = (many x.0 + x.1 ≤ b + own) × (x.1 ≤ b)

paid_each : (s : Struct) → own_structs s ≡ 1
    → ((o : Object) (b : ℕ) → IfOk (value_at s o b) (Paid (structs_in s) (own_structs s) b))
    → (e : Elements × ℕ)
    → IfOk (each_from (value_at s) e.0.count e.0 0 e.1)
    (λ x. (sum_by (structs_in s) x.0 + x.1 ≤ e.1 + e.0.count) × (x.1 ≤ e.1))
paid_each s single one e =
    each_left (structs_in s) (value_at s) (λ o b. rw single at one o b) (sum_by (structs_in s)) refl
    (λ v vs. sum_by-cons (structs_in s) v vs) e.0.count e.0 0 e.1

mutual
  unfolding value_at parts_at structs_in parts_in

  pub value_paid : (ks : List String) (s : Struct) (o : Object) (b : ℕ) → is_flat ks s ≡ true
      → IfOk (value_at s o b) (Paid (structs_in s) (own_structs s) b)
  value_paid ks (struct_of kind fields ps) o b h =
      let two = and_parts (has_kind ks kind) (flat_parts ks ps) h in
      and_then (Paid (parts_in ps) (own_parts ps) b)
      (Paid (structs_in (struct_of kind fields ps)) (own_structs (struct_of kind fields ps)) b)
      (parts_at ps 0 o b) _ (parts_paid ks ps 0 o b two.1) (λ x k. (omega (arith, k.0), k.1))

  parts_paid : (ks : List String) (ps : Pointers) (slot : ℕ) (o : Object) (b : ℕ)
      → flat_parts ks ps ≡ true → IfOk (parts_at ps slot o b) (Paid (parts_in ps) (own_parts ps) b)
  parts_paid ks no_more slot o b h = (omega arith, omega arith)
  parts_paid ks (text c ps) slot o b h =
      and_then (λ x. x.1 ≤ b) (Paid (parts_in (text c ps)) (own_parts ps) b) (text_at o slot b) _
      (text_at_left o slot b) (λ x k.
      and_then (Paid (parts_in ps) (own_parts ps) x.1)
      (Paid (parts_in (text c ps)) (own_parts ps) b) (parts_at ps (slot + 1) o x.1) _
      (parts_paid ks ps (slot + 1) o x.1 h)
      (λ y m. (omega (arith, k, m.0), omega (arith, k, m.1))))
  parts_paid ks (numbers c target kk ps) slot o b h =
      and_then (λ x. x.1 ≤ b) (Paid (parts_in (numbers c target kk ps)) (own_parts ps) b)
      (list_at 4 o slot b) _ (numbers_at_left o slot b) (λ x k.
      and_then (Paid (parts_in ps) (own_parts ps) x.1)
      (Paid (parts_in (numbers c target kk ps)) (own_parts ps) b)
      (parts_at ps (slot + 1) o x.1) _ (parts_paid ks ps (slot + 1) o x.1 h)
      (λ y m. (omega (arith, k, m.0), omega (arith, k, m.1))))
  parts_paid ks (struct c s ps) slot o b h =
      let two = and_parts (is_flat ks s) (flat_parts ks ps) h in
      let P = Paid (parts_in (struct c s ps)) (own_parts (struct c s ps)) b in
      and_then (λ x. x.1 ≤ b) P (struct_at o slot b) _ (struct_at_left o slot b) (λ i k.
      and_then (Paid (structs_in s) (own_structs s) i.1) P (value_at s i.0 i.1) _
      (value_paid ks s i.0 i.1 two.0) (λ x m.
      and_then (Paid (parts_in ps) (own_parts ps) x.1) P (parts_at ps (slot + 1) o x.1) _
      (parts_paid ks ps (slot + 1) o x.1 two.1)
      (λ y n. (omega (arith, k, m.0, n.0), omega (arith, k, m.1, n.1)))))
  parts_paid ks (boxed c box inner s ps) slot o b h =
      let two = and_parts ((own_structs s == 1) && is_flat ks s) (flat_parts ks ps) h in
      let one = and_parts (own_structs s == 1) (is_flat ks s) two.0 in
      let P = Paid (parts_in (boxed c box inner s ps)) (own_parts ps) b in
      and_then (λ x. x.1 ≤ b) P (struct_at o slot b) _ (struct_at_left o slot b) (λ i k.
      and_then (λ e. e.0.count + e.1 ≤ i.1) P (elements_at i.0 0 i.1) _ (elements_at_left i.0 0 i.1)
      (λ e j.
      and_then (λ x. (sum_by (structs_in s) x.0 + x.1 ≤ e.1 + e.0.count) × (x.1 ≤ e.1)) P
      (each_from (value_at s) e.0.count e.0 0 e.1) _
      (paid_each s (eqb-true (own_structs s) 1 one.0) (λ q d. value_paid ks s q d one.1) e)
      (λ x m.
      and_then (Paid (parts_in ps) (own_parts ps) x.1) P (parts_at ps (slot + 1) o x.1) _
      (parts_paid ks ps (slot + 1) o x.1 two.1)
      (λ y n. (omega (arith, k, j, m.0, n.0), omega (arith, k, j, m.1, n.1))))))
  parts_paid ks (structs c target s ps) slot o b h =
      let two = and_parts ((own_structs s == 1) && is_flat ks s) (flat_parts ks ps) h in
      let one = and_parts (own_structs s == 1) (is_flat ks s) two.0 in
      let P = Paid (parts_in (structs c target s ps)) (own_parts ps) b in
      and_then (λ e. e.0.count + e.1 ≤ b) P (elements_at o slot b) _ (elements_at_left o slot b)
      (λ e j.
      and_then (λ x. (sum_by (structs_in s) x.0 + x.1 ≤ e.1 + e.0.count) × (x.1 ≤ e.1)) P
      (each_from (value_at s) e.0.count e.0 0 e.1) _
      (paid_each s (eqb-true (own_structs s) 1 one.0) (λ q d. value_paid ks s q d one.1) e)
      (λ x m.
      and_then (Paid (parts_in ps) (own_parts ps) x.1) P (parts_at ps (slot + 1) o x.1) _
      (parts_paid ks ps (slot + 1) o x.1 two.1)
      (λ y n. (omega (arith, j, m.0, n.0), omega (arith, j, m.1, n.1)))))
  parts_paid ks (string_table c ps) slot o b h = parts_paid ks ps (slot + 1) o b h
  parts_paid ks (texts c ps) slot o b h = absurd cc
  parts_paid ks (struct_or_none c s ps) slot o b h = absurd cc
  parts_paid ks (branches c k fields ps) slot o b h = absurd cc
  parts_paid ks (unread c ps) slot o b h = absurd cc

-- The steps are of kinds that are counted.

kinds_on : (ss : List Struct) (xs ys : List Step) → AreOfKinds ss xs → AreOfKinds ss ys
    → AreOfKinds ss (xs ++ ys)
kinds_on ss [] ys h i = i
kinds_on ss (x ∷ xs) ys h i = (h.0, kinds_on ss xs ys h.1 i)

kinds_each : {A : Type 0} (ss : List Struct) (f : A → List Step) → ((x : A) → AreOfKinds ss (f x))
    → (xs : List A) → AreOfKinds ss (flat_map f xs)
kinds_each ss f one [] = tt
kinds_each ss f one (x ∷ xs) = kinds_on ss (f x) (flat_map f xs) (one x) (kinds_each ss f one xs)

row_kinds : (ss : List Struct) (l : Lists) (a : List Entry) (kind : String) (row : List ℕ)
    (fields : List Field) (ns : List ℕ) → has_kind (kinds_of ss) kind ≡ true
    → AreOfKinds ss (ask_row l a kind row fields ns)
row_kinds ss l a kind row [] ns h = tt
row_kinds ss l a kind row (f ∷ fs) [] h = tt
row_kinds ss l a kind row (f ∷ fs) (n ∷ ns) h = (h, row_kinds ss l a kind row fs ns h)

all_kinds : (ss : List Struct) (l : Lists) (a : List Entry) (kind called : String) (k : Kind)
    (ns : List ℕ) → has_kind (kinds_of ss) kind ≡ true
    → AreOfKinds ss (ask_all l a kind called k ns)
all_kinds ss l a kind called k [] h = tt
all_kinds ss l a kind called k (n ∷ ns) h = (h, all_kinds ss l a kind called k ns h)

mutual
  unfolding steps part_steps

  pub steps_kinds : (ss : List Struct) (s : Struct) (l : Lists) (a : List Entry) (v : Value ℕ s)
      → is_flat (kinds_of ss) s ≡ true → AreOfKinds ss (steps s l a v)
  steps_kinds ss (struct_of kind fields ps) l a v h =
      let here : Entry = record {
        row = v.0;
        lists = lists_of ps v.1;
        lengths =
            lengths_of ps v.1;
      } in
      let two = and_parts (has_kind (kinds_of ss) kind) (flat_parts (kinds_of ss) ps) h in
      kinds_on ss (begun kind ∷ ask_row l (here ∷ a) kind v.0 fields v.0)
      (part_steps ps kind (within ps v.1 l) (here ∷ a) v.1)
      (two.0, row_kinds ss l (here ∷ a) kind v.0 fields v.0 two.0)
      (parts_kinds ss ps kind (within ps v.1 l) (here ∷ a) v.1 two.0 two.1)

  parts_kinds : (ss : List Struct) (ps : Pointers) (kind : String) (l : Lists) (a : List Entry)
      (v : Parts ℕ ps) → has_kind (kinds_of ss) kind ≡ true → flat_parts (kinds_of ss) ps ≡ true
      → AreOfKinds ss (part_steps ps kind l a v)
  parts_kinds ss no_more kind l a v k h = tt
  parts_kinds ss (text c ps) kind l a v k h = parts_kinds ss ps kind l a v.1 k h
  parts_kinds ss (numbers c target kk ps) kind l a v k h =
      kinds_on ss (ask_all l a kind c kk v.0) (part_steps ps kind l a v.1)
      (all_kinds ss l a kind c kk v.0 k) (parts_kinds ss ps kind l a v.1 k h)
  parts_kinds ss (struct c s ps) kind l a v k h =
      let two = and_parts (is_flat (kinds_of ss) s) (flat_parts (kinds_of ss) ps) h in
      kinds_on ss (steps s l a v.0) (part_steps ps kind l a v.1) (steps_kinds ss s l a v.0 two.0)
      (parts_kinds ss ps kind l a v.1 k two.1)
  parts_kinds ss (boxed c box inner s ps) kind l a v k h =
      let two = and_parts ((own_structs s == 1) && is_flat (kinds_of ss) s)
      (flat_parts (kinds_of ss) ps) h in
      let one = and_parts (own_structs s == 1) (is_flat (kinds_of ss) s) two.0 in
      kinds_on ss (flat_map (steps s l a) v.0) (part_steps ps kind l a v.1)
      (kinds_each ss (steps s l a) (λ x. steps_kinds ss s l a x one.1) v.0)
      (parts_kinds ss ps kind l a v.1 k two.1)
  parts_kinds ss (structs c target s ps) kind l a v k h =
      let two = and_parts ((own_structs s == 1) && is_flat (kinds_of ss) s)
      (flat_parts (kinds_of ss) ps) h in
      let one = and_parts (own_structs s == 1) (is_flat (kinds_of ss) s) two.0 in
      kinds_on ss (flat_map (steps s l a) v.0) (part_steps ps kind l a v.1)
      (kinds_each ss (steps s l a) (λ x. steps_kinds ss s l a x one.1) v.0)
      (parts_kinds ss ps kind l a v.1 k two.1)
  parts_kinds ss (string_table c ps) kind l a v k h = parts_kinds ss ps kind l a v k h
  parts_kinds ss (texts c ps) kind l a v k h = absurd cc
  parts_kinds ss (struct_or_none c s ps) kind l a v k h = absurd cc
  parts_kinds ss (branches c kk fields ps) kind l a v k h = absurd cc
  parts_kinds ss (unread c ps) kind l a v k h = absurd cc
