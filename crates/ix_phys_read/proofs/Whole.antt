-- The whole reading: from the first pass to what is told.
use Rattle.std.proofs.Common.{◌≡◌, ◌≤◌, ◌<◌, ◌+◌, ◌++◌, ◌∙◌, ℕ, zero, suc, List, [], ◌∷◌, length}
use Rattle.std.proofs.Common.{Result, Ok, Err, refl, sym, ap, subst, arith}
use Rattle.std.specs.List.{flat_map}
use Rattle.ix_num.specs.declared.fault.FrameFault.{FrameFault}
use Rattle.ix_rec.specs.declared.fault.ReadFault.{ReadFault}
use Rattle.ix_rec.specs.declared.fault.ReadFault.TheVariants.{Frame, Index, Memory}
use Rattle.ix_frame.specs.Objects.{elements_at, element_of, list_at, text_at, text_in, root_of}
use Rattle.ix_frame.specs.Objects.{whole_budget}
use Rattle.ix_frame.specs.Result.{◌>>=◌}
use Rattle.ix_frame.specs.Segments.{Segments}
use Rattle.ix_frame.specs.Sound.{endless, sound_elements}
use Rattle.ix_frame.specs.Target.{Object, Elements}
use Rattle.ix_message.specs.Indexes.{Lists, only_table, steps}
use Rattle.ix_message.specs.Message.{numbers_in_segments}
use Rattle.ix_message.specs.Phys.{cell_placement, phys_net, site_instance, property, phys_netlist}
use Rattle.ix_message.specs.Reading.{Reads, row_at, each_from, texts_from, texts_at, value_at}
use Rattle.ix_message.specs.Reading.{parts_at, root_at}
use Rattle.ix_message.specs.Shape.{Text, Struct, Value, struct_of, unread, texts, no_more}
use Rattle.ix_message_read.specs.Tells.{Fails}
use Rattle.ix_schema.specs.Passed.{left_at, parts_left, texts_passed}
use Rattle.ix_schema.specs.Said.{said, parts_said, table_said}
use Rattle.ix_schema.specs.Splitting.{ReadingsSplit}
use Rattle.ix_phys_read.specs.Sound.{most_cost, IsSound, IsPassed}
use Rattle.ix_take.specs.Walked.{begun_in}
use Rattle.ix_phys_read.proofs.Costs.{text_at_left, texts_passed_left, pointers_at_left}
use Rattle.ix_phys_read.proofs.Costs.{elements_at_left}
use Rattle.ix_phys_read.proofs.Counted.{Paid, paid_each, placement_paid, net_paid, site_paid}
use Rattle.ix_phys_read.proofs.Counted.{property_paid}
use Rattle.ix_phys_read.proofs.Found.{elements_sound}
use Rattle.ix_phys_read.proofs.Opened.{comes, has_it}
use Rattle.ix_phys_read.proofs.Steps.{begun_on, root_steps}

-- The string table, as part of a struct that has it alone.

abbrev strings_alone : Struct
strings_alone = struct_of "" [] (unread "" (texts "" no_more))

abbrev first_of : Result (Value ℕ strings_alone × ℕ) FrameFault → Result (List Text × ℕ) FrameFault
first_of r = r >>= λ x. Ok (x.0.1.0, x.1)

abbrev parts_alone : List Text × ℕ → Result ((List Text × Unit {0}) × ℕ) FrameFault
parts_alone x = Ok ((x.0, tt), x.1)

abbrev value_alone : (List Text × Unit {0}) × ℕ → Result (Value ℕ strings_alone × ℕ) FrameFault
value_alone p = Ok (([], p.0), p.1)

abbrev left_alone : ℕ → Result ℕ FrameFault
left_alone n = Ok n

abbrev said_alone : List Text → ℕ → Result (Value ℕ strings_alone × ℕ) FrameFault
said_alone table n = Ok (([], (table, tt)), n)

same_first : (r : Result (List Text × ℕ) FrameFault) (passed : Result ℕ FrameFault)
    (table : List Text)
    → ((r >>= parts_alone) >>= value_alone) ≡ ((passed >>= left_alone) >>= said_alone table)
    → r ≡ (passed >>= λ n. Ok (table, n))
same_first (Ok x) (Ok n) table h = ap first_of h
same_first (Ok x) (Err e) table h = absurd cc
same_first (Err f) (Ok n) table h = absurd cc
same_first (Err f) (Err e) table h = ap first_of h

table_split : ReadingsSplit → (o : Object) (b : ℕ) → b ≤ endless
    → texts_at o 1 b ≡ (texts_passed o 1 b >>= λ left. Ok (table_said phys_netlist o, left))
unfolding value_at parts_at left_at parts_left said parts_said row_at
table_split split o b le = same_first (texts_at o 1 b) (texts_passed o 1 b)
    (table_said phys_netlist o) (split strings_alone o b le)

-- What was read of a struct is what it says.

said_same : ReadingsSplit → (s : Struct) (o : Object) (b : ℕ) (x : Value ℕ s × ℕ) → b ≤ endless
    → value_at s o b ≡ Ok x → x.0 ≡ said s o
said_same split s o b x le is = go (left_at s o b) (sym is ∙ split s o b le)
  where
    go : (r : Result ℕ FrameFault) → Ok x ≡ (r >>= λ left. Ok (said s o, left)) → x.0 ≡ said s o
    go (Ok left) h = ap value_of h
      where
        value_of : Result (Value ℕ s × ℕ) FrameFault → Value ℕ s
        value_of (Ok y) = y.0
        value_of (Err e) = x.0
    go (Err e) h = absurd cc

-- Each net of a list that was read is sound.
nets_sound : ReadingsSplit → (n : ℕ) (l : Elements) (i b : ℕ) (found : List (Value ℕ phys_net) × ℕ)
    → b ≤ most_cost → each_from (value_at phys_net) n l i b ≡ Ok found → (j : ℕ) → j < n
    → IsSound phys_net (element_of l (i + j))
unfolding each_from
nets_sound split zero l i b found few read j lt = absurd (omega arith)
nets_sound split (suc n) l i b found few read j lt =
    let one = comes (value_at phys_net (element_of l i) b)
    (λ first. each_from (value_at phys_net) n l (i + 1) first.1 >>=
    λ others. Ok (first.0 ∷ others.0, others.1)) found read in
    let first = one.first in
    let two = comes (each_from (value_at phys_net) n l (i + 1) first.1)
    (λ others. Ok (first.0 ∷ others.0, others.1)) found one.next in
    let no_lists = only_table 0 in
    let less : first.1 ≤ b = (has_it (Paid (steps phys_net no_lists []) b)
    (value_at phys_net (element_of l i) b) first one.is
    (net_paid no_lists (element_of l i) b)).1 in
    let same : first.0 ≡ said phys_net (element_of l i) =
    said_same split phys_net (element_of l i) b first (omega arith) one.is in
    go j lt (λ k more. nets_sound split n l (i + 1) first.1 two.first (omega arith) two.is k more)
    first same one.is
  where
    go : (j : ℕ) → j < suc n → ((k : ℕ) → k < n → IsSound phys_net (element_of l (i + 1 + k)))
        → (first : Value ℕ phys_net × ℕ) → first.0 ≡ said phys_net (element_of l i)
        → value_at phys_net (element_of l i) b ≡ Ok first → IsSound phys_net (element_of l (i + j))
    go zero lt later first same read =
        let here : IsSound phys_net (element_of l i) =
        record {
          budget = b;
          left = first.1;
          few = few;
          read =
              read ∙ ap (λ (v : Value ℕ phys_net). Ok (v, first.1)) same;
        } in
        let e : i ≡ i + 0 = omega arith in
        subst (λ (k : ℕ). IsSound phys_net (element_of l k)) e here
    go (suc j) lt later first same read =
        let e : i + 1 + j ≡ i + suc j = omega arith in
        subst (λ (k : ℕ). IsSound phys_net (element_of l k)) e (later j (omega arith))

-- The lists of the root, one after the other.

list_at_slot : (s : Struct) → Object → ℕ → ℕ → Reads (List (Value ℕ s))
list_at_slot s o slot b = elements_at o slot b >>= λ e. each_from (value_at s) e.0.count e.0 0 e.1

-- a list, and what was read after it
record Parted (s : Struct) (R : Type 0) (o : Object) (slot b : ℕ) (next : ℕ → Reads R)
    (x : (List (Value ℕ s) × R) × ℕ) : Type 0 where
  found : List (Value ℕ s) × ℕ
  read : list_at_slot s o slot b ≡ Ok found
  rest : R × ℕ
  rest_read : next found.1 ≡ Ok rest
  is : (found.0, rest.0) ≡ x.0

parted : {R : Type 0} (s : Struct) (o : Object) (slot b : ℕ) (next : ℕ → Reads R)
    (x : (List (Value ℕ s) × R) × ℕ)
    → (elements_at o slot b >>= λ e. each_from (value_at s) e.0.count e.0 0 e.1 >>=
    λ here. next here.1 >>= λ rest. Ok ((here.0, rest.0), rest.1)) ≡ Ok x
    → Parted s R o slot b next x
unfolding list_at_slot
parted {R} s o slot b next x h =
    let one = comes (elements_at o slot b) (λ e. each_from (value_at s) e.0.count e.0 0 e.1 >>=
    λ here. next here.1 >>= λ rest. Ok ((here.0, rest.0), rest.1)) x h in
    let e = one.first in
    let two = comes (each_from (value_at s) e.0.count e.0 0 e.1) (λ here. next here.1 >>=
    λ rest. Ok ((here.0, rest.0), rest.1)) x one.next in
    let here = two.first in
    let three = comes (next here.1) (λ rest. Ok ((here.0, rest.0), rest.1)) x two.next in
    record {
      found = here;
      read = ap (λ (r : Result (Elements × ℕ) FrameFault). r >>=
          λ e. each_from (value_at s) e.0.count e.0 0 e.1) one.is ∙ two.is;
      rest = three.first;
      rest_read = three.is;
      is = ap parts_of three.next;
    }
  where
    parts_of : Result ((List (Value ℕ s) × R) × ℕ) FrameFault → List (Value ℕ s) × R
    parts_of (Ok y) = y.0
    parts_of (Err f) = x.0

abbrev P5 : Type 0
P5 = List (Value ℕ property) × Unit {0}

abbrev P4 : Type 0
P4 = List (Value ℕ site_instance) × P5

abbrev P3 : Type 0
P3 = List (Value ℕ phys_net) × P4

abbrev P2 : Type 0
P2 = List (Value ℕ cell_placement) × P3

abbrev nothing_more : ℕ → Reads (Unit {0})
nothing_more b = Ok (tt, b)

abbrev from_5 : Object → ℕ → Reads P5
from_5 o b = elements_at o 5 b >>= λ e. each_from (value_at property) e.0.count e.0 0 e.1 >>=
    λ here. nothing_more here.1 >>= λ rest. Ok ((here.0, rest.0), rest.1)

abbrev from_4 : Object → ℕ → Reads P4
from_4 o b = elements_at o 4 b >>= λ e. each_from (value_at site_instance) e.0.count e.0 0 e.1 >>=
    λ here. from_5 o here.1 >>= λ rest. Ok ((here.0, rest.0), rest.1)

abbrev from_3 : Object → ℕ → Reads P3
from_3 o b = elements_at o 3 b >>= λ e. each_from (value_at phys_net) e.0.count e.0 0 e.1 >>=
    λ here. from_4 o here.1 >>= λ rest. Ok ((here.0, rest.0), rest.1)

abbrev from_2 : Object → ℕ → Reads P2
from_2 o b = elements_at o 2 b >>= λ e. each_from (value_at cell_placement) e.0.count e.0 0 e.1 >>=
    λ here. from_3 o here.1 >>= λ rest. Ok ((here.0, rest.0), rest.1)

record RootRead (o : Object) (b : ℕ) : Type 0 where
  part : Text × ℕ
  part_read : text_at o 0 b ≡ Ok part
  placements : List (Value ℕ cell_placement) × ℕ
  placements_read : list_at_slot cell_placement o 2 part.1 ≡ Ok placements
  nets : List (Value ℕ phys_net) × ℕ
  nets_read : list_at_slot phys_net o 3 placements.1 ≡ Ok nets
  sites : List (Value ℕ site_instance) × ℕ
  sites_read : list_at_slot site_instance o 4 nets.1 ≡ Ok sites
  properties : List (Value ℕ property) × ℕ
  properties_read : list_at_slot property o 5 sites.1 ≡ Ok properties
  is : ([], (part.0, (placements.0, (nets.0, (sites.0, (properties.0, tt)))))) ≡ said phys_netlist o

root_read : (o : Object) (b left : ℕ) → value_at phys_netlist o b ≡ Ok (said phys_netlist o, left)
    → RootRead o b
unfolding value_at parts_at row_at
root_read o b left h =
    let v = said phys_netlist o in
    let whole = comes (text_at o 0 b >>= λ here. from_2 o here.1 >>=
    λ rest. Ok ((here.0, rest.0), rest.1)) (λ parts. Ok (([], parts.0), parts.1)) (v, left) h in
    let parts = whole.first in
    let one = comes (text_at o 0 b) (λ here. from_2 o here.1 >>=
    λ rest. Ok ((here.0, rest.0), rest.1)) parts whole.is in
    let part = one.first in
    let two = comes (from_2 o part.1) (λ rest. Ok ((part.0, rest.0), rest.1)) parts one.next in
    let a = parted cell_placement o 2 part.1 (from_3 o) two.first two.is in
    let n = parted phys_net o 3 a.found.1 (from_4 o) a.rest a.rest_read in
    let s = parted site_instance o 4 n.found.1 (from_5 o) n.rest n.rest_read in
    let p = parted property o 5 s.found.1 nothing_more s.rest s.rest_read in
    let whole_is : ([], parts.0) ≡ v = ap
    (λ (r : Result (Value ℕ phys_netlist × ℕ) FrameFault). value_or v r) whole.next in
    let parts_is : (part.0, two.first.0) ≡ parts.0 =
    ap (λ (r : Result ((Text × P2) × ℕ) FrameFault). part_or parts.0 r) two.next in
    record {
      part = part;
      part_read = one.is;
      placements = a.found;
      placements_read = a.read;
      nets = n.found;
      nets_read = n.read;
      sites = s.found;
      sites_read = s.read;
      properties = p.found;
      properties_read = p.read;
      is = ap (λ (q : P5). ([], (part.0, (a.found.0, (n.found.0, (s.found.0, q)))))) p.is
          ∙ ap (λ (q : P4). ([], (part.0, (a.found.0, (n.found.0, q))))) s.is
          ∙ ap (λ (q : P3). ([], (part.0, (a.found.0, q)))) n.is
          ∙ ap (λ (q : P2). ([], (part.0, q))) a.is
          ∙ ap (λ (q : Text × P2). ([], q)) parts_is ∙ whole_is;
    }
  where
    value_or : Value ℕ phys_netlist → Result (Value ℕ phys_netlist × ℕ) FrameFault
        → Value ℕ phys_netlist
    value_or v (Ok x) = x.0
    value_or v (Err e) = v

    part_or : Text × P2 → Result ((Text × P2) × ℕ) FrameFault → Text × P2
    part_or v (Ok x) = x.0
    part_or v (Err e) = v

root_nets : ReadingsSplit → (o : Object) (b : ℕ) → b ≤ most_cost → RootRead o b → (i : ℕ)
    → i < (sound_elements o 3).count → IsSound phys_net (element_of (sound_elements o 3) i)
unfolding list_at_slot
root_nets split o b few r i lt =
    let lists = only_table 0 in
    let text_less : r.part.1 ≤ b = has_it (λ x. x.1 ≤ b) (text_at o 0 b) r.part r.part_read
    (text_at_left o 0 b) in
    let less : r.placements.1 ≤ r.part.1 =
    (has_it _ (list_at_slot cell_placement o 2 r.part.1) r.placements r.placements_read
    (paid_each cell_placement lists (placement_paid lists) o 2 r.part.1)).1 in
    let one = comes (elements_at o 3 r.placements.1)
    (λ e. each_from (value_at phys_net) e.0.count e.0 0 e.1) r.nets r.nets_read in
    let e = one.first in
    let paid : e.0.count + e.1 ≤ r.placements.1 =
    has_it (λ x. x.0.count + x.1 ≤ r.placements.1) (elements_at o 3 r.placements.1) e one.is
    (elements_at_left o 3 r.placements.1) in
    let same : e.0 ≡ sound_elements o 3 =
    has_it (λ x. x.0 ≡ sound_elements o 3) (elements_at o 3 r.placements.1) e one.is
    (elements_sound o 3 r.placements.1 (omega arith)) in
    let all : (j : ℕ) → j < e.0.count → IsSound phys_net (element_of e.0 (0 + j)) =
    nets_sound split e.0.count e.0 0 e.1 r.nets (omega arith) one.next in
    let zero_first : 0 + i ≡ i = omega arith in
    (subst (λ (l : Elements). i < l.count → IsSound phys_net (element_of l i)) same
    (λ within. subst (λ (k : ℕ). IsSound phys_net (element_of e.0 k)) zero_first
    (all i within))) lt

root_structs : (o : Object) (b : ℕ) → RootRead o b → (l : Lists)
    → begun_in (steps phys_netlist l [] (said phys_netlist o)) ≤ b + 1
unfolding list_at_slot
root_structs o b r l =
    let p = flat_map (steps cell_placement l []) r.placements.0 in
    let n = flat_map (steps phys_net l []) r.nets.0 in
    let i = flat_map (steps site_instance l []) r.sites.0 in
    let q = flat_map (steps property l []) r.properties.0 in
    let text_less : r.part.1 ≤ b = has_it (λ x. x.1 ≤ b) (text_at o 0 b) r.part r.part_read
    (text_at_left o 0 b) in
    let one = has_it _ (list_at_slot cell_placement o 2 r.part.1) r.placements r.placements_read
    (paid_each cell_placement l (placement_paid l) o 2 r.part.1) in
    let two = has_it _ (list_at_slot phys_net o 3 r.placements.1) r.nets r.nets_read
    (paid_each phys_net l (net_paid l) o 3 r.placements.1) in
    let three = has_it _ (list_at_slot site_instance o 4 r.nets.1) r.sites r.sites_read
    (paid_each site_instance l (site_paid l) o 4 r.nets.1) in
    let four = has_it _ (list_at_slot property o 5 r.sites.1) r.properties r.properties_read
    (paid_each property l (property_paid l) o 5 r.sites.1) in
    let all : begun_in (steps phys_netlist l [] (said phys_netlist o)) ≡ begun_in
    (p ++ (n ++ (i ++ q))) + 1 = ap (λ (v : Value ℕ phys_netlist). begun_in
    (steps phys_netlist l [] v)) (sym r.is)
    ∙ ap begun_in (root_steps l r.part.0 r.placements.0 r.nets.0 r.sites.0 r.properties.0) in
    omega (
      arith,
      one.0,
      two.0,
      three.0,
      four.0,
      all,
      begun_on p (n ++ (i ++ q)),
      begun_on n (i ++ q),
      begun_on i q,
    )

-- The first pass over a whole netlist.

texts_many : (n : ℕ) (l : Elements) (i b : ℕ) (x : List Text × ℕ) → texts_from n l i b ≡ Ok x
    → length x.0 ≡ n
unfolding texts_from
texts_many zero l i b x h = ap (λ (r : Result (List Text × ℕ) FrameFault). long x r) (sym h)
  where
    long : List Text × ℕ → Result (List Text × ℕ) FrameFault → ℕ
    long y (Ok z) = length z.0
    long y (Err e) = length y.0
texts_many (suc n) l i b x h =
    let one = comes (text_in l i b) (λ first. texts_from n l (i + 1) first.1 >>=
    λ others. Ok (first.0 ∷ others.0, others.1)) x h in
    let two = comes (texts_from n l (i + 1) one.first.1)
    (λ others. Ok (one.first.0 ∷ others.0, others.1)) x one.next in
    ap (λ (r : Result (List Text × ℕ) FrameFault). long x r) (sym two.next)
    ∙ ap suc (texts_many n l (i + 1) one.first.1 two.first two.is)
  where
    long : List Text × ℕ → Result (List Text × ℕ) FrameFault → ℕ
    long y (Ok z) = length z.0
    long y (Err e) = length y.0

table_few : (o : Object) (b left : ℕ) → b ≤ most_cost
    → texts_at o 1 b ≡ Ok (table_said phys_netlist o, left)
    → length (table_said phys_netlist o) ≤ most_cost
unfolding texts_at
table_few o b left few h =
    let one = comes (list_at 6 o 1 b) (λ l. texts_from l.0.count l.0 0 l.1)
    (table_said phys_netlist o, left) h in
    let l = one.first in
    let paid : l.0.count + l.1 ≤ b = has_it (λ x. x.0.count + x.1 ≤ b) (list_at 6 o 1 b) l one.is
    (pointers_at_left o 1 b) in
    let many : length (table_said phys_netlist o) ≡ l.0.count =
    texts_many l.0.count l.0 0 l.1 (table_said phys_netlist o, left) one.next in
    omega arith

pub whole_passed : ReadingsSplit → (o : Object) (b after left : ℕ) → b ≤ most_cost
    → texts_passed o 1 b ≡ Ok after → left_at phys_netlist o after ≡ Ok left → IsPassed o
whole_passed split o b after left few table rest =
    let less : after ≤ b = has_it (λ n. n ≤ b) (texts_passed o 1 b) after table
    (texts_passed_left o 1 b) in
    let read : value_at phys_netlist o after ≡ Ok (said phys_netlist o, left) =
    split phys_netlist o after (omega arith) ∙ rw rest refl in
    let r = root_read o after left read in
    record {
      nets = root_nets split o after (omega arith) r;
      structs = λ l. let h = root_structs o after r l in omega arith;
      texts = table_few o b after few (table_split split o b (omega arith) ∙ rw table refl);
    }

-- A message whose root is known.

rooted : (all : Segments) (root : Object × ℕ) → root_of all (whole_budget all) ≡ Ok root
    → numbers_in_segments phys_netlist all ≡ (root_at phys_netlist root.0 root.1 >>=
    λ found. Ok found.0)
unfolding numbers_in_segments
rooted all root is = rw is refl

pub no_root : (all : Segments) (f : FrameFault) → root_of all (whole_budget all) ≡ Err f
    → numbers_in_segments phys_netlist all ≡ Err f
unfolding numbers_in_segments
no_root all f is = rw is refl

pub no_table : ReadingsSplit → (all : Segments) (o : Object) (b : ℕ) (f : FrameFault) → b ≤ endless
    → root_of all (whole_budget all) ≡ Ok (o, b) → texts_passed o 1 b ≡ Err f
    → numbers_in_segments phys_netlist all ≡ Err f
unfolding root_at
no_table split all o b f le is h = rooted all (o, b) is ∙ rw (table_split split o b le, h) refl

pub no_value : ReadingsSplit → (all : Segments) (o : Object) (b left : ℕ) (e : ReadFault)
    → b ≤ endless → root_of all (whole_budget all) ≡ Ok (o, b) → texts_passed o 1 b ≡ Ok left
    → Fails e (left_at phys_netlist o left) → Fails e (numbers_in_segments phys_netlist all)
unfolding root_at
no_value split all o b left Memory le is passed h = tt
no_value split all o b left (Index p) le is passed h = h
no_value split all o b left (Frame f) le is passed h =
    let less : left ≤ b = has_it (λ n. n ≤ b) (texts_passed o 1 b) left passed
    (texts_passed_left o 1 b) in
    rooted all (o, b) is ∙ rw (
      table_split split o b le,
      passed,
      split phys_netlist o left (omega arith),
      h,
    ) refl

pub whole_read : ReadingsSplit → (all : Segments) (o : Object) (b left after : ℕ) → b ≤ endless
    → root_of all (whole_budget all) ≡ Ok (o, b) → texts_passed o 1 b ≡ Ok left
    → left_at phys_netlist o left ≡ Ok after
    → numbers_in_segments phys_netlist all ≡ Ok (table_said phys_netlist o, said phys_netlist o)
unfolding root_at
whole_read split all o b left after le is passed h =
    let less : left ≤ b = has_it (λ n. n ≤ b) (texts_passed o 1 b) left passed
    (texts_passed_left o 1 b) in
    rooted all (o, b) is ∙ rw (
      table_split split o b le,
      passed,
      split phys_netlist o left (omega arith),
      h,
    ) refl
