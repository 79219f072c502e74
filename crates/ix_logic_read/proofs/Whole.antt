-- The first pass over a whole netlist, and the reading that it is part of.
use Rattle.std.proofs.Common.{◌≡◌, ◌≤◌, ◌+◌, ◌∙◌, ℕ, zero, suc, List, [], ◌∷◌, Result, Ok, Err}
use Rattle.std.proofs.Common.{length, refl, sym, ap, subst, arith}
use Rattle.std.specs.Prelude.{IfOk}
use Rattle.ix_device_read.specs.Premises.{structs_in}
use Rattle.ix_frame.specs.Objects.{list_at, text_in, root_of, whole_budget}
use Rattle.ix_frame.specs.Result.{◌>>=◌}
use Rattle.ix_frame.specs.Segments.{Segments}
use Rattle.ix_frame.specs.Sound.{endless}
use Rattle.ix_frame.specs.Target.{Object, Elements}
use Rattle.ix_message.specs.Message.{numbers_in_segments}
use Rattle.ix_message.specs.Netlist.{netlist}
use Rattle.ix_message.specs.Reading.{root_at, value_at, parts_at, row_at, texts_at, texts_from}
use Rattle.ix_message.specs.Shape.{Text, Struct, Value, struct_of, unread, texts, no_more}
use Rattle.ix_message_read.specs.Tells.{Fails}
use Rattle.ix_num.specs.declared.fault.FrameFault.{FrameFault}
use Rattle.ix_rec.specs.declared.fault.ReadFault.{ReadFault}
use Rattle.ix_rec.specs.declared.fault.ReadFault.TheVariants.{Frame, Index, Memory}
use Rattle.ix_schema.specs.Passed.{left_at, parts_left, texts_passed}
use Rattle.ix_schema.specs.Said.{said, parts_said, table_said}
use Rattle.ix_schema.specs.Splitting.{ReadingsSplit}
use Rattle.ix_take.specs.Walked.{kinds_of}
use Rattle.ix_logic_read.specs.Passed.{most_cost, IsPassed}
use Rattle.ix_logic_read.specs.Structs.{netlist_structs}
use Rattle.ix_logic_read.proofs.Costs.{pointers_at_left, texts_passed_left}
use Rattle.ix_logic_read.proofs.Counted.{Paid, steps_begin, value_paid}

-- What a step found that others went on with.
pub record Comes {A B E : Type 0} (r : Result A E) (f : A → Result B E) (y : B) : Type 0 where
  pub first : A
  pub is : r ≡ Ok first
  pub next : f first ≡ Ok y

pub comes : {A B E : Type 0} (r : Result A E) (f : A → Result B E) (y : B) → (r >>= f) ≡ Ok y
    → Comes r f y
comes (Ok x) f y h = record { first = x; is = refl; next = h }
comes (Err e) f y h = absurd cc

pub has_it : {A E : Type 0} (P : A → Type 0) (r : Result A E) (x : A) → r ≡ Ok x → IfOk r P → P x
has_it {A} {E} P r x is h = subst (λ (q : Result A E). IfOk q P) is h

-- The string table, as part of a struct that has it alone.

abbrev strings_alone : Struct
strings_alone = struct_of "" [] (unread "" (unread "" (unread "" (texts "" no_more))))

abbrev first_of : Result (Value ℕ strings_alone × ℕ) FrameFault → Result (List Text × ℕ) FrameFault
first_of r = r >>= λ x. Ok (x.0.1.0, x.1)

abbrev parts_alone : List Text × ℕ → Result ((List Text × Unit {0}) × ℕ) FrameFault
parts_alone x = Ok ((x.0, tt), x.1)

abbrev value_alone : (List Text × Unit {0}) × ℕ → Result (Value ℕ strings_alone × ℕ) FrameFault
value_alone p = Ok (([], p.0), p.1)

abbrev left_alone : ℕ → Result ℕ FrameFault
left_alone n = Ok n

abbrev said_alone : List Text → ℕ → Result (Value ℕ strings_alone × ℕ) FrameFault
said_alone table n = Ok (([], (table, tt)), n)

same_first : (r : Result (List Text × ℕ) FrameFault) (passed : Result ℕ FrameFault)
    (table : List Text)
    → ((r >>= parts_alone) >>= value_alone) ≡ ((passed >>= left_alone) >>= said_alone table)
    → r ≡ (passed >>= λ n. Ok (table, n))
same_first (Ok x) (Ok n) table h = ap first_of h
same_first (Ok x) (Err e) table h = absurd cc
same_first (Err f) (Ok n) table h = absurd cc
same_first (Err f) (Err e) table h = ap first_of h

table_split : ReadingsSplit → (o : Object) (b : ℕ) → b ≤ endless
    → texts_at o 3 b ≡ (texts_passed o 3 b >>= λ left. Ok (table_said netlist o, left))
unfolding value_at parts_at left_at parts_left said parts_said row_at
table_split split o b le = same_first (texts_at o 3 b) (texts_passed o 3 b) (table_said netlist o)
    (split strings_alone o b le)

texts_many : (n : ℕ) (l : Elements) (i b : ℕ) (x : List Text × ℕ) → texts_from n l i b ≡ Ok x
    → length x.0 ≡ n
unfolding texts_from
texts_many zero l i b x h = ap (λ (r : Result (List Text × ℕ) FrameFault). long x r) (sym h)
  where
    long : List Text × ℕ → Result (List Text × ℕ) FrameFault → ℕ
    long y (Ok z) = length z.0
    long y (Err e) = length y.0
texts_many (suc n) l i b x h =
    let one = comes (text_in l i b) (λ first. texts_from n l (i + 1) first.1 >>=
    λ others. Ok (first.0 ∷ others.0, others.1)) x h in
    let two = comes (texts_from n l (i + 1) one.first.1)
    (λ others. Ok (one.first.0 ∷ others.0, others.1)) x one.next in
    ap (λ (r : Result (List Text × ℕ) FrameFault). long x r) (sym two.next)
    ∙ ap suc (texts_many n l (i + 1) one.first.1 two.first two.is)
  where
    long : List Text × ℕ → Result (List Text × ℕ) FrameFault → ℕ
    long y (Ok z) = length z.0
    long y (Err e) = length y.0

table_few : (o : Object) (b left : ℕ) → b ≤ most_cost
    → texts_at o 3 b ≡ Ok (table_said netlist o, left) → length (table_said netlist o) ≤ most_cost
unfolding texts_at
table_few o b left few h =
    let one = comes (list_at 6 o 3 b) (λ l. texts_from l.0.count l.0 0 l.1)
    (table_said netlist o, left) h in
    let l = one.first in
    let paid : l.0.count + l.1 ≤ b = has_it (λ x. x.0.count + x.1 ≤ b) (list_at 6 o 3 b) l one.is
    (pointers_at_left o 3 b) in
    let many : length (table_said netlist o) ≡ l.0.count =
    texts_many l.0.count l.0 0 l.1 (table_said netlist o, left) one.next in
    omega arith

pub whole_passed : ReadingsSplit → (o : Object) (b after left : ℕ) → b ≤ most_cost
    → texts_passed o 3 b ≡ Ok after → left_at netlist o after ≡ Ok left → IsPassed o
whole_passed split o b after left few table rest =
    let less : after ≤ b = has_it (λ n. n ≤ b) (texts_passed o 3 b) after table
    (texts_passed_left o 3 b) in
    let read : value_at netlist o after ≡ Ok (said netlist o, left) =
    split netlist o after (omega arith) ∙ rw rest refl in
    let paid = has_it (Paid (structs_in netlist) 2 after) (value_at netlist o after)
    (said netlist o, left) read (value_paid (kinds_of netlist_structs) netlist o after refl) in
    record {
      structs = λ l around. let many = steps_begin (kinds_of netlist_structs) netlist l around
          (said netlist o) refl in omega (arith, many, paid.0, less, few);
      texts = table_few o b after few (table_split split o b (omega arith) ∙ rw table refl);
    }

-- A message whose root is known.

rooted : (all : Segments) (root : Object × ℕ) → root_of all (whole_budget all) ≡ Ok root
    → numbers_in_segments netlist all ≡ (root_at netlist root.0 root.1 >>= λ found. Ok found.0)
unfolding numbers_in_segments
rooted all root is = rw is refl

pub no_root : (all : Segments) (f : FrameFault) → root_of all (whole_budget all) ≡ Err f
    → numbers_in_segments netlist all ≡ Err f
unfolding numbers_in_segments
no_root all f is = rw is refl

pub no_table : ReadingsSplit → (all : Segments) (o : Object) (b : ℕ) (f : FrameFault) → b ≤ endless
    → root_of all (whole_budget all) ≡ Ok (o, b) → texts_passed o 3 b ≡ Err f
    → numbers_in_segments netlist all ≡ Err f
unfolding root_at
no_table split all o b f le is h = rooted all (o, b) is ∙ rw (table_split split o b le, h) refl

pub no_value : ReadingsSplit → (all : Segments) (o : Object) (b left : ℕ) (e : ReadFault)
    → b ≤ endless → root_of all (whole_budget all) ≡ Ok (o, b) → texts_passed o 3 b ≡ Ok left
    → Fails e (left_at netlist o left) → Fails e (numbers_in_segments netlist all)
unfolding root_at
no_value split all o b left Memory le is passed h = tt
no_value split all o b left (Index p) le is passed h = h
no_value split all o b left (Frame f) le is passed h =
    let less : left ≤ b = has_it (λ n. n ≤ b) (texts_passed o 3 b) left passed
    (texts_passed_left o 3 b) in
    rooted all (o, b) is ∙ rw (
      table_split split o b le,
      passed,
      split netlist o left (omega arith),
      h,
    ) refl

pub whole_read : ReadingsSplit → (all : Segments) (o : Object) (b left after : ℕ) → b ≤ endless
    → root_of all (whole_budget all) ≡ Ok (o, b) → texts_passed o 3 b ≡ Ok left
    → left_at netlist o left ≡ Ok after
    → numbers_in_segments netlist all ≡ Ok (table_said netlist o, said netlist o)
unfolding root_at
whole_read split all o b left after le is passed h =
    let less : left ≤ b = has_it (λ n. n ≤ b) (texts_passed o 3 b) left passed
    (texts_passed_left o 3 b) in
    rooted all (o, b) is ∙ rw (
      table_split split o b le,
      passed,
      split netlist o left (omega arith),
      h,
    ) refl
