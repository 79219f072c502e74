-- Groups, port cell by port cell, and their order.
use Rattle.std.proofs.Common.{◌≡◌, ◌≢◌, refl, ap, sym, subst, ◌∙◌, ℕ, zero, suc, ◌+◌, ◌-◌, ◌<◌, ◌≤◌}
use Rattle.std.proofs.Common.{List, [], ◌∷◌}
use Rattle.std.proofs.Common.{◌++◌, length, map, take, slice_get, Bool, true, false, cond, not}
use Rattle.std.proofs.Common.{◌&&◌, ◌||◌, nat_eq}
use Rattle.std.proofs.Common.{Option, Some, None, is_some, append-nil, arith}
use Rattle.std.specs.FinMap.{entries, get}
use Rattle.std.specs.List.{AllByRecursion, cons_option, filter, filter_map, list_any}
use Rattle.std.specs.List.{range_with_len}
use Rattle.std.proofs.lemmas.Bool.{eqb-true, eqb-false}
use Rattle.std.proofs.lemmas.List.{append_assoc, length_push, map-append}
use Rattle.std.proofs.lemmas.List.Elements.{filter-append}
use Rattle.std.proofs.lemmas.List.Folds.{list_any-append}
use Rattle.std.proofs.lemmas.Option.{none-some, same_Some, slice_get_within}
use Rattle.ix_num.specs.declared.resource.NetRef.{NetRef}
use Rattle.ix_num.specs.declared.resource.NetRef.TheVariants.{Gnd, Vcc, Signal}
use Rattle.ix_rec.specs.declared.device.DeviceRec.{DeviceRec}
use Rattle.ix_rec.specs.declared.flow.Flat.{Flat}
use Rattle.ix_flat.specs.Range.{IsCellOf, IsNetOf, NumbersFit}
use Rattle.ix_belmap.specs.declared.marks.Marks.{Marks}
use Rattle.ix_belmap.specs.Groups.{AreGroups, AreOfPorts, HaveEachOnce, group_of_port, has_cell}
use Rattle.ix_belmap.specs.Groups.{inner_cells, is_fixed, is_on_net_of, may_join, net_of_port}
use Rattle.ix_belmap.specs.Groups.{signal, signal_at, signals_of, times_in, types_go}
use Rattle.ix_belmap.specs.Marks.{AddsMarks, AreMarks, group_by_marks, is_marked}
use Rattle.ix_belmap.proofs.Lists.{all_places, filter_same}
use Rattle.ix_belmap.proofs.Once.{each_once}
use Rattle.ix_belmap.proofs.Rows.{range_next}

-- Port cells' nets are there.

signal_in : (flat : Flat) (net : NetRef) (n : ℕ) → signal net ≡ Some n → IsNetOf flat net
    → n < length flat.nets
signal_in flat Gnd n h fits = absurd (none-some n h)
signal_in flat Vcc n h fits = absurd (none-some n h)
signal_in flat (Signal m) n h fits = subst (λ k. k < length flat.nets) (same_Some m n h) fits

first_in : (flat : Flat) (cell : ℕ) (pins : List ((ℕ × ℕ) × NetRef)) (net : ℕ)
    → AllByRecursion (λ entry. IsCellOf flat entry.0.0 × IsNetOf flat entry.1) pins
    → slice_get (filter_map (signal_at cell) pins) 0 ≡ Some net → net < length flat.nets
first_in flat cell [] net all h = absurd (none-some net h)
first_in flat cell (pin ∷ pins) net all h =
    by (first_in flat cell pins net all.1) (nat_eq pin.0.0 cell) (signal pin.1) refl h
  where
    by : (slice_get (filter_map (signal_at cell) pins) 0 ≡ Some net → net < length flat.nets)
        → (b : Bool) → (o : Option ℕ) → signal pin.1 ≡ o
        → slice_get (cons_option (cond b o None) (filter_map (signal_at cell) pins)) 0 ≡ Some net
        → net < length flat.nets
    by rest true None e g = rest g
    by rest true (Some n) e g = signal_in flat pin.1 net (e ∙ g) all.0.1
    by rest false o e g = rest g

pub net_there : (flat : Flat) (port net : ℕ) → NumbersFit flat → net_of_port flat port ≡ Some net
    → net < length flat.nets
unfolding net_of_port signals_of
net_there flat port net fits h = first_in flat port (entries flat.pins) net fits.pins h

-- The groups of port cells so far.

pub record AreSoFar (rec : DeviceRec) (flat : Flat) (rows groups : List (List ℕ)) (marks : Marks)
    (port : ℕ)
    : Type 0 where
  pub count : length groups ≡ port
  pub each : (p : ℕ) → p < port → slice_get groups p ≡ Some
      (group_of_port rec flat (take p groups) p)
  pub marked : (cell : ℕ) → is_marked marks.taken.items cell ≡ has_cell groups cell
  pub are : AreMarks rec flat rows marks

pub so_far_start : (rec : DeviceRec) (flat : Flat) (rows groups : List (List ℕ)) (marks : Marks)
    → groups ≡ []
    → ((cell : ℕ) → is_marked marks.taken.items cell ≡ false) → AreMarks rec flat rows marks
    → AreSoFar rec flat rows groups marks 0
so_far_start rec flat rows groups marks none unmarked are = record {
  count = ap length none;
  each = λ p lt. absurd (omega arith);
  marked = λ cell. unmarked cell ∙ sym (ap (λ l. has_cell l cell) none);
  are = are;
}

pushed_before : (xs : List (List ℕ)) (x : List ℕ) (i : ℕ) → i < length xs
    → slice_get (xs ++ x ∷ []) i ≡ slice_get xs i
pushed_before [] x i lt = absurd (omega arith)
pushed_before (y ∷ ys) x zero lt = refl
pushed_before (y ∷ ys) x (suc i) lt = pushed_before ys x i (omega arith)

pushed_at : (xs : List (List ℕ)) (x : List ℕ) (i : ℕ) → length xs ≡ i
    → slice_get (xs ++ x ∷ []) i ≡ Some x
pushed_at [] x zero is = refl
pushed_at [] x (suc i) is = absurd (omega arith)
pushed_at (y ∷ ys) x zero is = absurd (omega arith)
pushed_at (y ∷ ys) x (suc i) is = pushed_at ys x i (omega arith)

taken_before : (xs : List (List ℕ)) (x : List ℕ) (i : ℕ) → i ≤ length xs
    → take i (xs ++ x ∷ []) ≡ take i xs
taken_before [] x zero le = refl
taken_before [] x (suc i) le = absurd (omega arith)
taken_before (y ∷ ys) x zero le = refl
taken_before (y ∷ ys) x (suc i) le = ap (λ l. y ∷ l) (taken_before ys x i (omega arith))

taken_exact : (xs : List (List ℕ)) (i : ℕ) → length xs ≡ i → take i xs ≡ xs
taken_exact [] zero is = refl
taken_exact [] (suc i) is = refl
taken_exact (y ∷ ys) zero is = absurd (omega arith)
taken_exact (y ∷ ys) (suc i) is = ap (λ l. y ∷ l) (taken_exact ys i (omega arith))

or_false : (b : Bool) → (b || false) ≡ b
or_false true = refl
or_false false = refl

by_groups : (rec : DeviceRec) (flat : Flat) (marks : List Bool) (groups : List (List ℕ)) (port : ℕ)
    → ((cell : ℕ) → is_marked marks cell ≡ has_cell groups cell)
    → group_by_marks rec flat marks port ≡ group_of_port rec flat groups port
by_groups rec flat marks groups port marked =
    ap (λ l. port ∷ take 8 l)
    (filter_same (λ cell. is_on_net_of flat port cell && types_go rec flat port cell && not
    (is_marked marks cell))
    (may_join rec flat groups port) (inner_cells flat)
    (λ cell. ap (λ b. is_on_net_of flat port cell && types_go rec flat port cell && not b)
    (marked cell)))

-- one group more
pub so_far_next : (rec : DeviceRec) (flat : Flat) (rows groups now : List (List ℕ))
    (old new : Marks) (port : ℕ)
    (group : List ℕ) → AreSoFar rec flat rows groups old port → now ≡ groups ++ group ∷ []
    → group ≡ group_by_marks rec flat old.taken.items port
    → AddsMarks group old.taken.items new.taken.items → AreMarks rec flat rows new
    → AreSoFar rec flat rows now new (port + 1)
so_far_next rec flat rows groups now old new port group before pushed is adds are =
    subst (λ l. AreSoFar rec flat rows l new (port + 1)) (sym pushed) (record {
      count = length_push groups group ∙ ap (λ n. n + 1) before.count;
      each = λ p lt. by p (nat_eq p port) refl lt;
      marked = λ cell. adds cell ∙ ap (λ b. b || list_any (nat_eq cell) group) (before.marked cell)
          ∙ sym (list_any-append (list_any (nat_eq cell)) groups (group ∷ [])
          ∙ ap (λ b. has_cell groups cell || b) (or_false (list_any (nat_eq cell) group)));
      are = are;
    })
  where
    by : (p : ℕ) (b : Bool) → nat_eq p port ≡ b → p < port + 1
        → slice_get (groups ++ group ∷ []) p ≡ Some
        (group_of_port rec flat (take p (groups ++ group ∷ [])) p)
    by p true e lt = let p_is : p ≡ port = eqb-true p port e in
        pushed_at groups group p (before.count ∙ sym p_is)
        ∙ ap Some (is ∙ by_groups rec flat old.taken.items groups port before.marked
        ∙ sym (ap (λ l. group_of_port rec flat l port)
        (taken_before groups group port (let c = before.count in omega arith)
        ∙ taken_exact groups port before.count))
        ∙ ap (λ k. group_of_port rec flat (take k (groups ++ group ∷ [])) k) (sym p_is))
    by p false e lt =
        let ne : p ≢ port = eqb-false p port e in
        let low : p < port = omega arith in
        let c = before.count in
        pushed_before groups group p (omega arith) ∙ before.each p low
        ∙ ap (λ l. Some (group_of_port rec flat l p))
        (sym (taken_before groups group p (omega arith)))

pub so_far_end : (rec : DeviceRec) (flat : Flat) (rows groups : List (List ℕ)) (marks : Marks)
    (port : ℕ)
    → AreSoFar rec flat rows groups marks port → port ≡ flat.ports → AreOfPorts rec flat groups
so_far_end rec flat rows groups marks port told end = record {
  count = told.count ∙ end;
  each = λ p lt. told.each p (omega arith);
}

-- Parting a list.

pub record IsParted (p : List ℕ → Bool) (all first others rest : List (List ℕ)) : Type 0 where
  pub done : List (List ℕ)
  pub whole : all ≡ done ++ rest
  pub passing : first ≡ filter p done
  pub failing : others ≡ filter (λ g. not (p g)) done

pub parted_start : (p : List ℕ → Bool) (all first others rest : List (List ℕ)) → rest ≡ all
    → first ≡ [] → others ≡ []
    → IsParted p all first others rest
parted_start p all first others rest is a b =
    record { done = []; whole = sym is; passing = a; failing = b }

shift : (all done rest now : List (List ℕ)) (g : List ℕ) → all ≡ done ++ rest → rest ≡ g ∷ now
    → all ≡ (done ++ g ∷ []) ++ now
shift all done rest now g is step = is ∙ ap (λ l. done ++ l) step
    ∙ sym (append_assoc done (g ∷ []) now)

pub parted_yes : (p : List ℕ → Bool) (all first others rest now first_now : List (List ℕ))
    (g : List ℕ)
    → IsParted p all first others rest → rest ≡ g ∷ now → p g ≡ true → first_now ≡ first ++ g ∷ []
    → IsParted p all first_now others now
parted_yes p all first others rest now first_now g before step is pushed = record {
  done = before.done ++ g ∷ [];
  whole = shift all before.done rest now g before.whole step;
  passing = pushed ∙ ap (λ l. l ++ g ∷ []) before.passing
      ∙ sym (filter-append p before.done (g ∷ [])
      ∙ ap (λ b. filter p before.done ++ cond b (g ∷ []) []) is);
  failing = before.failing ∙ sym (filter-append (λ h. not (p h)) before.done (g ∷ [])
      ∙ ap (λ b. filter (λ h. not (p h)) before.done ++ cond (not b) (g ∷ []) []) is
      ∙ append-nil (filter (λ h. not (p h)) before.done));
}

pub parted_no : (p : List ℕ → Bool) (all first others rest now others_now : List (List ℕ))
    (g : List ℕ)
    → IsParted p all first others rest → rest ≡ g ∷ now → p g ≡ false
    → others_now ≡ others ++ g ∷ []
    → IsParted p all first others_now now
parted_no p all first others rest now others_now g before step is pushed = record {
  done = before.done ++ g ∷ [];
  whole = shift all before.done rest now g before.whole step;
  passing = before.passing ∙ sym (filter-append p before.done (g ∷ [])
      ∙ ap (λ b. filter p before.done ++ cond b (g ∷ []) []) is
      ∙ append-nil (filter p before.done));
  failing = pushed ∙ ap (λ l. l ++ g ∷ []) before.failing
      ∙ sym (filter-append (λ h. not (p h)) before.done (g ∷ [])
      ∙ ap (λ b. filter (λ h. not (p h)) before.done ++ cond (not b) (g ∷ []) []) is);
}

nothing : (xs : List (List ℕ)) → length xs ≡ 0 → xs ≡ []
nothing [] h = refl
nothing (x ∷ xs) h = absurd (omega arith)

pub parted_end : (p : List ℕ → Bool) (all first others rest : List (List ℕ))
    → IsParted p all first others rest
    → length rest ≡ 0 → first ++ others ≡ filter p all ++ filter (λ g. not (p g)) all
parted_end p all first others rest told end =
    let whole : told.done ≡ all = sym (told.whole ∙ ap (λ l. told.done ++ l) (nothing rest end)
    ∙ append-nil told.done) in
    ap (λ l. l ++ others) told.passing ∙ ap (λ l. filter p told.done ++ l) told.failing
    ∙ ap (λ l. filter p l ++ filter (λ g. not (p g)) l) whole

-- whether a group's first cell is fixed tells whether the group is
pub fixed_told : (flat : Flat) (group : List ℕ) (cell : ℕ) → slice_get group 0 ≡ Some cell
    → is_fixed flat group ≡ is_some (get flat.fixed cell)
fixed_told flat [] cell at = absurd (none-some cell at)
fixed_told flat (port ∷ members) cell at =
    ap (λ k. is_some (get flat.fixed k)) (same_Some port cell at)

-- Cells alone.

-- one cell more
pub alone_next : (test : ℕ → Bool) (before now first : List (List ℕ)) (ports cell : ℕ)
    → ports ≤ cell
    → before ≡ first ++ map (λ q. q ∷ []) (filter test (range_with_len ports (cell - ports)))
    → now ≡ before ++ cond (test cell) ((cell ∷ []) ∷ []) []
    → now ≡ first ++ map (λ q. q ∷ []) (filter test (range_with_len ports (cell + 1 - ports)))
alone_next test before now first ports cell le is grown =
    grown ∙ ap (λ l. l ++ cond (test cell) ((cell ∷ []) ∷ []) []) is
    ∙ append_assoc first (singles (range_with_len ports (cell - ports)))
    (cond (test cell) ((cell ∷ []) ∷ []) [])
    ∙ ap (λ l. first ++ l) (ap (λ l. singles (range_with_len ports (cell - ports)) ++ l)
    (sym (single (test cell)))
    ∙ sym (ap singles long ∙ ap (map (λ q. q ∷ []))
    (filter-append test (range_with_len ports (cell - ports)) (cell ∷ []))
    ∙ map-append (λ q. q ∷ []) (filter test (range_with_len ports (cell - ports)))
    (cond (test cell) (cell ∷ []) [])))
  where
    singles : List ℕ → List (List ℕ)
    singles xs = map (λ q. q ∷ []) (filter test xs)

    single : (b : Bool) → map (λ q. q ∷ []) (cond b (cell ∷ []) []) ≡ cond b ((cell ∷ []) ∷ []) []
    single true = refl
    single false = refl

    long : range_with_len ports (cell + 1 - ports) ≡ range_with_len ports
        (cell - ports) ++ cell ∷ []
    long = let more : cell + 1 - ports ≡ suc (cell - ports) = omega arith in
        ap (range_with_len ports) more ∙ range_next ports (cell - ports) cell (omega arith)

-- The groups in order.

pub all_groups : (rec : DeviceRec) (flat : Flat) (of_ports groups first : List (List ℕ))
    (marks : List Bool)
    → AreOfPorts rec flat of_ports
    → ((cell : ℕ) → is_marked marks cell ≡ has_cell of_ports cell)
    → first ≡ filter (is_fixed flat) of_ports ++ filter
    (λ group. not (is_fixed flat group)) of_ports
    → groups ≡ first ++ map (λ q. q ∷ []) (filter (λ q. not (is_marked marks q)) (inner_cells flat))
    → AreGroups rec flat groups
all_groups rec flat of_ports groups first marks are marked sorted told = record {
  of_ports = of_ports;
  are_of_ports = are;
  order = told ∙ ap (λ l. l ++ map (λ q. q ∷ [])
      (filter (λ q. not (is_marked marks q)) (inner_cells flat))) sorted
      ∙ ap (λ l. filter (is_fixed flat) of_ports ++ filter
      (λ group. not (is_fixed flat group)) of_ports
      ++ map (λ q. q ∷ []) l)
      (filter_same (λ q. not (is_marked marks q)) (λ q. not (has_cell of_ports q))
      (inner_cells flat)
      (λ q. ap not (marked q)));
}

and_false : (b : Bool) → (b && false) ≡ false
and_false true = refl
and_false false = refl

pub once : (rec : DeviceRec) (flat : Flat) (groups : List (List ℕ)) → flat.ports ≤ length flat.cells
    → AreGroups rec flat groups → HaveEachOnce flat groups
once rec flat groups le are cell =
    ap (λ l. times_in l cell) are.order
    ∙ each_once (is_fixed flat) are.of_ports flat.ports
    (length flat.cells) le are.are_of_ports.count
    (λ port lt. record {
      most = 8;
      test = may_join rec flat (take port are.of_ports) port;
      is = are.are_of_ports.each port lt;
      apart = λ q h. ap (λ b. is_on_net_of flat port q && types_go rec flat port q && not b) h
          ∙ and_false (is_on_net_of flat port q && types_go rec flat port q);
    }) cell

-- each group of a port cell has the port cell
pub not_empty : (rec : DeviceRec) (flat : Flat) (groups : List (List ℕ))
    → AreOfPorts rec flat groups
    → AllByRecursion (λ group. 0 < length group) groups
not_empty rec flat groups are =
    all_places (λ group. 0 < length group) groups (λ i group at. some group i
    (same_Some group (group_of_port rec flat (take i groups) i)
    (sym at ∙ are.each i (let lt = slice_get_within groups i group at in let c = are.count in
    omega arith))))
  where
    some : (group : List ℕ) (i : ℕ) → group ≡ group_of_port rec flat (take i groups) i
        → 0 < length group
    some group i is = let long = ap length is in omega arith
