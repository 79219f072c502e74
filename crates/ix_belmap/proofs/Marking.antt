-- Marks: which cells are in a group, and how far rows were passed over.
use Rattle.std.proofs.Common.{◌≡◌, refl, ap, sym, subst, ◌∙◌, ℕ, zero, suc, ◌+◌, ◌-◌, ◌<◌, ◌≤◌}
use Rattle.std.proofs.Common.{List, [], ◌∷◌}
use Rattle.std.proofs.Common.{◌++◌, length, take, drop, set, slice_get, slice_index_or, Bool, true}
use Rattle.std.proofs.Common.{false, cond}
use Rattle.std.proofs.Common.{not, ◌&&◌, ◌||◌, nat_eq, nat_lt, Option, Some, None, option_and_then}
use Rattle.std.proofs.Common.{option_map, unwrap_or}
use Rattle.std.proofs.Common.{take-append-drop, length-set, Vec, arith}
use Rattle.std.specs.Global.{Global}
use Rattle.std.specs.List.{AllByRecursion, filter, list_any, range_with_len}
use Rattle.std.proofs.lemmas.Bool.{eqb-true, eqb-false, eq-eqb, true≢false, ltb-true, ltb-false}
use Rattle.std.proofs.lemmas.List.{get_or-set_other, get_or-set_same, length-map}
use Rattle.std.proofs.lemmas.List.Elements.{filter-append}
use Rattle.std.proofs.lemmas.Option.{same_Some, slice_get-map, slice_get_read, slice_get_within}
use Rattle.ix_rec.specs.declared.device.DeviceRec.{DeviceRec}
use Rattle.ix_rec.specs.declared.flow.Flat.{Flat}
use Rattle.ix_rec.specs.declared.flow.FlatCell.{FlatCell}
use Rattle.ix_belmap.specs.declared.marks.Marks.{Marks}
use Rattle.ix_belmap.specs.declared.marks.Passed.{Passed}
use Rattle.ix_belmap.specs.Groups.{inner_cells, is_on, is_on_net_of, net_of_port, stays_with}
use Rattle.ix_belmap.specs.Groups.{type_of, types_go}
use Rattle.ix_belmap.specs.Marks.{AddsMarks, AreCells, AreMarks, AreRows, IsPassed, IsPassedAt}
use Rattle.ix_belmap.specs.Marks.{Knows, free_of, group_by_marks, is_free_for, is_marked, lists_of}
use Rattle.ix_belmap.proofs.Lists.{all_in_range, all_passing, all_taken, any_more, filter_less}
use Rattle.ix_belmap.proofs.Lists.{filter_more, filter_same, filter_twice, set_here, set_other}

or_true : (b : Bool) → (b || true) ≡ true
or_true true = refl
or_true false = refl

or_false : (b : Bool) → (b || false) ≡ b
or_false true = refl
or_false false = refl

-- one cell more
pub mark_one : (marks : List Bool) (cell q : ℕ) → cell < length marks
    → is_marked (set marks cell true) q ≡ (is_marked marks q || nat_eq q cell)
mark_one marks cell q lt = by (nat_eq q cell) refl
  where
    by : (b : Bool) → nat_eq q cell ≡ b → is_marked (set marks cell true) q ≡
        (is_marked marks q || b)
    by true e = ap (is_marked (set marks cell true)) (eqb-true q cell e)
        ∙ get_or-set_same marks cell true false lt ∙ sym (or_true (is_marked marks q))
    by false e = get_or-set_other marks cell q true false (eqb-false q cell e)
        ∙ sym (or_false (is_marked marks q))

or_assoc : (a b c : Bool) → ((a || b) || c) ≡ (a || (b || c))
or_assoc true b c = refl
or_assoc false b c = refl

-- the first of a list of cells, with one more
pub marks_more : (cells : List ℕ) (before now : List Bool) (i cell : ℕ)
    → slice_get cells i ≡ Some cell
    → AddsMarks (take i cells) before now → cell < length now
    → AddsMarks (take (i + 1) cells) before (set now cell true)
marks_more cells before now i cell at adds lt q =
    mark_one now cell q lt ∙ ap (λ b. b || nat_eq q cell) (adds q)
    ∙ or_assoc (is_marked before q) (list_any (nat_eq q) (take i cells)) (nat_eq q cell)
    ∙ ap (λ b. is_marked before q || b) (sym (any_more (nat_eq q) cells i cell at))

pub marks_none : (before : List Bool) (cells : List ℕ) → AddsMarks (take 0 cells) before before
marks_none before cells q = sym (or_false (is_marked before q))

-- Rows passed over.

and_false : (b : Bool) → (b && false) ≡ false
and_false true = refl
and_false false = refl

no_longer_free : (rec : DeviceRec) (flat : Flat) (more : List ℕ) (before now : List Bool)
    (port_type cell : ℕ)
    → AddsMarks more before now → is_free_for rec flat before port_type cell ≡ false
    → is_free_for rec flat now port_type cell ≡ false
no_longer_free rec flat more before now port_type cell adds h =
    by (unwrap_or (option_map (stays_with rec port_type) (type_of flat cell)) false)
    (is_marked before cell) refl h
  where
    by : (a b : Bool) → is_marked before cell ≡ b → (a && not b) ≡ false
        → (a && not (is_marked now cell)) ≡ false
    by true true e g = ap not (adds cell ∙ ap (λ b. b || list_any (nat_eq cell) more) e)
    by true false e g = absurd (true≢false g)
    by false b e g = refl

pub passed_stays : (rec : DeviceRec) (flat : Flat) (more : List ℕ) (before now : List Bool)
    (port_type : ℕ)
    (row : List ℕ) → AddsMarks more before now → free_of rec flat before port_type row ≡ []
    → free_of rec flat now port_type row ≡ []
passed_stays rec flat more before now port_type row adds =
    filter_less (is_free_for rec flat before port_type) (is_free_for rec flat now port_type) row
    (λ cell. no_longer_free rec flat more before now port_type cell adds)

passed_at_stays : (rec : DeviceRec) (flat : Flat) (more : List ℕ) (before now : List Bool)
    (row : List ℕ)
    (at : Option Passed) → AddsMarks more before now → IsPassedAt rec flat before row at
    → IsPassedAt rec flat now row at
passed_at_stays rec flat more before now row None adds h = tt
passed_at_stays rec flat more before now row (Some passed) adds h =
    (h.0, passed_stays rec flat more before now passed.port_type (take passed.count row) adds h.1)

-- marks with more cells marked
pub marks_stay : (rec : DeviceRec) (flat : Flat) (rows : List (List ℕ)) (old new : Marks)
    (more : List ℕ)
    → length new.taken.items ≡ length old.taken.items → new.passed ≡ old.passed
    → new.known ≡ old.known
    → AddsMarks more old.taken.items new.taken.items → AreMarks rec flat rows old
    → AreMarks rec flat rows new
marks_stay rec flat rows old new more as_many same_passed same_known adds was = record {
  cells = as_many ∙ was.cells;
  nets = ap (λ p. length p.items) same_passed ∙ was.nets;
  passed = λ net row at here there.
      passed_at_stays rec flat more old.taken.items new.taken.items row at adds
      (was.passed net row at here (sym (ap (λ p. slice_get p.items net) same_passed) ∙ there));
  known = subst (Knows rec) (sym same_known) was.known;
}

-- how far a row was passed over
pub passed_from : (rec : DeviceRec) (flat : Flat) (rows : List (List ℕ)) (row : List ℕ)
    (marks : Marks) (net port_type : ℕ)
    (passed : Passed) → AreMarks rec flat rows marks → slice_get rows net ≡ Some row
    → slice_get marks.passed.items net ≡ Some (Some passed) → passed.port_type ≡ port_type
    → (passed.count ≤ length row) × IsPassed rec flat marks.taken.items port_type row passed.count
passed_from rec flat rows row marks net port_type passed are here at is =
    let told = are.passed net row (Some passed) here at in
    (told.0, subst (λ ty. IsPassed rec flat marks.taken.items ty row passed.count) is told.1)

-- The cells of a row that are free.

-- none is free before, so what is free of a row is behind
pub free_more : (rec : DeviceRec) (flat : Flat) (marks : List Bool) (port_type : ℕ) (row : List ℕ)
    (i cell port : ℕ)
    (group : List ℕ) (free : Bool) → slice_get row i ≡ Some cell
    → group ≡ port ∷ free_of rec flat marks port_type (take i row)
    → free ≡ is_free_for rec flat marks port_type cell
    → group ++ cond free (cell ∷ []) [] ≡ port ∷ free_of rec flat marks port_type (take (i + 1) row)
free_more rec flat marks port_type row i cell port group free at is told =
    ap (λ g. g ++ cond free (cell ∷ []) []) is
    ∙ ap (λ b. port ∷ (free_of rec flat marks port_type (take i row) ++ cond b (cell ∷ []) [])) told
    ∙ ap (λ l. port ∷ l) (sym (filter_more (is_free_for rec flat marks port_type) row i cell at))

-- the first eight, where eight were found
take_front : (xs ys : List ℕ) (n : ℕ) → length xs ≡ n → take n (xs ++ ys) ≡ xs
take_front [] ys zero h = take_none ys
  where
    take_none : (ys : List ℕ) → take 0 ys ≡ []
    take_none [] = refl
    take_none (y ∷ ys) = refl
take_front [] ys (suc n) h = absurd (omega arith)
take_front (x ∷ xs) ys zero h = absurd (omega arith)
take_front (x ∷ xs) ys (suc n) h = ap (λ l. x ∷ l) (take_front xs ys n (omega arith))

pub full : (rec : DeviceRec) (flat : Flat) (marks : List Bool) (port_type : ℕ) (row : List ℕ)
    (i port : ℕ)
    (group : List ℕ) → group ≡ port ∷ free_of rec flat marks port_type (take i row)
    → length group ≡ 9
    → group ≡ port ∷ take 8 (free_of rec flat marks port_type row)
full rec flat marks port_type row i port group is long =
    is ∙ ap (λ l. port ∷ l) (sym (ap (take 8)
    (ap (free_of rec flat marks port_type) (sym (take-append-drop i row))
    ∙ filter-append (is_free_for rec flat marks port_type) (take i row) (drop i row))
    ∙ take_front (free_of rec flat marks port_type (take i row))
    (free_of rec flat marks port_type (drop i row)) 8
    (let l : suc (length (free_of rec flat marks port_type (take i row))) ≡ 9 =
    sym (ap length is) ∙ long in omega arith)))

take_short : (xs : List ℕ) (n : ℕ) → length xs ≤ n → take n xs ≡ xs
take_short [] zero h = refl
take_short [] (suc n) h = refl
take_short (x ∷ xs) zero h = absurd (omega arith)
take_short (x ∷ xs) (suc n) h = ap (λ l. x ∷ l) (take_short xs n (omega arith))

pub all_looked : (rec : DeviceRec) (flat : Flat) (marks : List Bool) (port_type : ℕ) (row : List ℕ)
    (i port : ℕ)
    (group : List ℕ) → group ≡ port ∷ free_of rec flat marks port_type (take i row)
    → length group ≤ 9
    → length row ≤ i → group ≡ port ∷ take 8 (free_of rec flat marks port_type row)
all_looked rec flat marks port_type row i port group is short end =
    let whole = ap (λ l. port ∷ free_of rec flat marks port_type l) (take_short row i end) in
    is ∙ whole ∙ ap (λ l. port ∷ l) (sym (take_short (free_of rec flat marks port_type row) 8
    (let l : suc (length (free_of rec flat marks port_type row)) ≡ length group =
    sym (ap length (is ∙ whole)) in omega arith)))

-- where each item that passes one test is among those that pass, and so fails another, as do those
-- that fail the one, none passes the other
none_left : (p q : ℕ → Bool) (xs : List ℕ)
    → ((x : ℕ) → p x ≡ true → list_any (nat_eq x) (filter p xs) ≡ true → q x ≡ false)
    → ((x : ℕ) → p x ≡ false → q x ≡ false) → filter q xs ≡ []
none_left p q [] taken others = refl
none_left p q (x ∷ xs) taken others = by (none_left p q xs) (p x) refl taken
  where
    by : (((y : ℕ) → p y ≡ true → list_any (nat_eq y) (filter p xs) ≡ true → q y ≡ false)
        → ((y : ℕ) → p y ≡ false → q y ≡ false) → filter q xs ≡ [])
        → (b : Bool) → p x ≡ b
        → ((y : ℕ) → p y ≡ true → list_any (nat_eq y)
        (cond b (x ∷ filter p xs) (filter p xs)) ≡ true → q y ≡ false)
        → filter q (x ∷ xs) ≡ []
    by rest true e h =
        ap (λ b. cond b (x ∷ filter q xs) (filter q xs))
        (h x e (ap (λ b. b || list_any (nat_eq x) (filter p xs)) (eq-eqb x x refl)))
        ∙ rest (λ y pass here. h y pass (ap (λ b. nat_eq y x || b) here ∙ or_true (nat_eq y x)))
        others
    by rest false e h =
        ap (λ b. cond b (x ∷ filter q xs) (filter q xs)) (others x e) ∙ rest h others

-- what is free of a row, once it is taken
pub taken_now : (rec : DeviceRec) (flat : Flat) (before now : List Bool) (port_type : ℕ)
    (row : List ℕ) (port : ℕ)
    (group : List ℕ) → group ≡ port ∷ free_of rec flat before port_type row
    → AddsMarks group before now
    → free_of rec flat now port_type row ≡ []
taken_now rec flat before now port_type row port group is adds =
    none_left (is_free_for rec flat before port_type) (is_free_for rec flat now port_type) row
    (λ cell free here. all_marked cell here)
    (λ cell. no_longer_free rec flat group before now port_type cell adds)
  where
    all_marked : (cell : ℕ) → list_any (nat_eq cell) (free_of rec flat before port_type row) ≡ true
        → is_free_for rec flat now port_type cell ≡ false
    all_marked cell here =
        ap (λ b. unwrap_or (option_map (stays_with rec port_type) (type_of flat cell)) false && not
        b)
        (adds cell ∙ ap (λ l. is_marked before cell || list_any (nat_eq cell) l) is
        ∙ ap (λ b. is_marked before cell || (nat_eq cell port || b)) here
        ∙ ap (λ b. is_marked before cell || b) (or_true (nat_eq cell port))
        ∙ or_true (is_marked before cell))
        ∙ and_false (unwrap_or (option_map (stays_with rec port_type) (type_of flat cell)) false)

-- The group of a port cell on a net.

and_assoc : (a b c : Bool) → ((a && b) && c) ≡ (a && (b && c))
and_assoc true b c = refl
and_assoc false b c = refl

-- the free cells of a net's row are those of the design that may join
pub group_told : (rec : DeviceRec) (flat : Flat) (marks : List Bool) (port net : ℕ)
    (cell : FlatCell) (row : List ℕ)
    (group : List ℕ) → slice_get flat.cells port ≡ Some cell → net_of_port flat port ≡ Some net
    → row ≡ filter (λ q. is_on flat q net) (inner_cells flat)
    → group ≡ port ∷ take 8 (free_of rec flat marks cell.ty row)
    → group ≡ group_by_marks rec flat marks port
group_told rec flat marks port net cell row group at on is told =
    told ∙ ap (λ l. port ∷ take 8 (free_of rec flat marks cell.ty l)) is
    ∙ ap (λ l. port ∷ take 8 l)
    (filter_twice (is_free_for rec flat marks cell.ty) (λ q. is_on flat q net) (inner_cells flat)
    ∙ filter_same (λ q. is_on flat q net && is_free_for rec flat marks cell.ty q)
    (λ q. is_on_net_of flat port q && types_go rec flat port q && not (is_marked marks q))
    (inner_cells flat) same)
  where
    same : (q : ℕ) → (is_on flat q net && is_free_for rec flat marks cell.ty q)
        ≡ (is_on_net_of flat port q && types_go rec flat port q && not (is_marked marks q))
    same q =
        sym (ap (λ o. unwrap_or (option_map (is_on flat q) o) false && types_go rec flat port q &&
        not (is_marked marks q)) on
        ∙ ap (λ b. is_on flat q net && b && not (is_marked marks q)) stays
        ∙ and_assoc (is_on flat q net) (unwrap_or
        (option_map (stays_with rec cell.ty) (type_of flat q)) false)
        (not (is_marked marks q)))
      where
        stays : types_go rec flat port q ≡ unwrap_or
            (option_map (stays_with rec cell.ty) (type_of flat q)) false
        stays = ap (λ o. unwrap_or (option_and_then
            (λ p. option_map (λ c. stays_with rec p c) (type_of flat q))
            (option_map (λ c. c.ty) o)) false) at

-- marks where a row was passed over
pub marks_next : (rec : DeviceRec) (flat : Flat) (rows : List (List ℕ)) (old new : Marks)
    (group : List ℕ)
    (net : ℕ) (passed : Passed) (row : List ℕ)
    → length new.taken.items ≡ length old.taken.items
    → new.passed.items ≡ set old.passed.items net (Some passed)
    → Knows rec new.known → AddsMarks group old.taken.items new.taken.items
    → slice_get rows net ≡ Some row → passed.count ≤ length row
    → IsPassed rec flat new.taken.items passed.port_type row passed.count
    → AreMarks rec flat rows old → AreMarks rec flat rows new
marks_next rec flat rows old new group net passed row as_many put knows adds at within is was =
    record {
      cells = as_many ∙ was.cells;
      nets = ap length put ∙ length-set old.passed.items net (Some passed) ∙ was.nets;
      passed = λ n r o here there. by n r o (nat_eq net n) refl here
          (sym (ap (λ l. slice_get l n) put) ∙ there);
      known = knows;
    }
  where
    by : (n : ℕ) (r : List ℕ) (o : Option Passed) (b : Bool) → nat_eq net n ≡ b
        → slice_get rows n ≡ Some r
        → slice_get (set old.passed.items net (Some passed)) n ≡ Some o
        → IsPassedAt rec flat new.taken.items r o
    by n r o true e here there =
        let is_n : net ≡ n = eqb-true net n e in
        let lt : n < length old.passed.items =
        (let l = slice_get_within (set old.passed.items net (Some passed)) n o there in
        let s = length-set old.passed.items net (Some passed) in omega arith) in
        let same : Some passed ≡ o = same_Some (Some passed) o
        (sym (set_here old.passed.items net (Some passed) (omega arith))
        ∙ ap (slice_get (set old.passed.items net (Some passed))) is_n ∙ there) in
        let rows_same : row ≡ r = same_Some row r (sym at ∙ ap (slice_get rows) is_n ∙ here) in
        subst (λ p. IsPassedAt rec flat new.taken.items r p) same
        (subst (λ l. (passed.count ≤ length l)
        × IsPassed rec flat new.taken.items passed.port_type l passed.count)
        rows_same (within, is))
    by n r o false e here there =
        passed_at_stays rec flat group old.taken.items new.taken.items r o adds
        (was.passed n r o here (sym (set_other old.passed.items net n (Some passed)
        (eqb-false net n e)) ∙ there))

-- a port cell on no net is alone
pub alone_told : (rec : DeviceRec) (flat : Flat) (marks : List Bool) (port : ℕ)
    → net_of_port flat port ≡ None
    → port ∷ [] ≡ group_by_marks rec flat marks port
alone_told rec flat marks port none = sym (ap (λ l. port ∷ take 8 l)
    (filter_none_at (inner_cells flat)))
  where
    fails : (q : ℕ) → (is_on_net_of flat port q && types_go rec flat port q && not
        (is_marked marks q)) ≡ false
    fails q = ap (λ o. unwrap_or (option_map (is_on flat q) o) false && types_go rec flat port q &&
        not (is_marked marks q)) none

    filter_none_at : (xs : List ℕ) → filter
        (λ q. is_on_net_of flat port q && types_go rec flat port q && not (is_marked marks q)) xs ≡
        []
    filter_none_at xs = filter_same (λ q. is_on_net_of flat port q && types_go rec flat port q &&
        not (is_marked marks q)) (λ q. false) xs fails
        ∙ all_fail xs
      where
        all_fail : (ys : List ℕ) → filter (λ q. false) ys ≡ []
        all_fail [] = refl
        all_fail (y ∷ ys) = all_fail ys

-- one cell marked
pub mark_alone : (marks : List Bool) (place cell : ℕ) → place ≡ cell → cell < length marks
    → AddsMarks (cell ∷ []) marks (set marks place true)
mark_alone marks place cell is lt q =
    ap (λ k. is_marked (set marks k true) q) is ∙ mark_one marks cell q lt
    ∙ ap (λ b. is_marked marks q || b) (sym (or_false (nat_eq q cell)))

-- the cells of a row, and of a group, are cells of the design
pub row_cells : (flat : Flat) (row : List ℕ) (test : ℕ → Bool)
    → row ≡ filter test (inner_cells flat)
    → AreCells flat row
row_cells flat row test is =
    subst (AreCells flat) (sym is)
    (all_passing (λ cell. cell < length flat.cells) test (inner_cells flat)
    (by (nat_lt (length flat.cells) flat.ports) refl))
  where
    by : (b : Bool) → nat_lt (length flat.cells) flat.ports ≡ b → AreCells flat (inner_cells flat)
    by true e =
        let lt : length flat.cells < flat.ports = ltb-true (length flat.cells) flat.ports e in
        let none : length flat.cells - flat.ports ≡ 0 = omega arith in
        subst (λ n. AreCells flat (range_with_len flat.ports n)) (sym none) tt
    by false e =
        let le : flat.ports ≤ length flat.cells = ltb-false (length flat.cells) flat.ports e in
        all_in_range flat.ports (length flat.cells - flat.ports) (length flat.cells) (omega arith)

pub group_cells : (rec : DeviceRec) (flat : Flat) (marks : List Bool) (port_type : ℕ) (row : List ℕ)
    (count port : ℕ)
    (group : List ℕ) → AreCells flat row → port < length flat.cells
    → length marks ≡ length flat.cells
    → group ≡ port ∷ free_of rec flat marks port_type (take count row)
    → AllByRecursion (λ cell. cell < length marks) group
group_cells rec flat marks port_type row count port group cells lt many is =
    subst (AllByRecursion (λ cell. cell < length marks)) (sym is)
    (subst (λ n. AllByRecursion (λ cell. cell < n)
    (port ∷ free_of rec flat marks port_type (take count row))) (sym many) (
      lt,
      all_passing (λ cell. cell < length flat.cells) (is_free_for rec flat marks port_type)
          (take count row)
          (all_taken (λ cell. cell < length flat.cells) row count cells),
    ))

-- the row of a net, as it is kept
pub record IsRowOf (flat : Flat) (rows : List (List ℕ)) (net : ℕ) (row : List ℕ) : Type 0 where
  pub at : slice_get rows net ≡ Some row
  pub is : row ≡ filter (λ cell. is_on flat cell net) (inner_cells flat)

pub row_of : (flat : Flat) (rows : List (Vec ℕ Global)) (net i : ℕ) (row : Vec ℕ Global)
    → AreRows flat (lists_of rows) → net < length flat.nets → i ≡ net
    → row ≡ slice_index_or rows i row
    → IsRowOf flat (lists_of rows) net row.items
row_of flat rows net i row are lt place told = record {
  at = at;
  is = same_Some row.items (filter (λ cell. is_on flat cell net) (inner_cells flat))
      (sym at ∙ are.each net lt);
}
  where
    within : i < length rows
    within = let many = sym (length-map rows (λ v. v.items)) ∙ are.count in omega arith

    at : slice_get (lists_of rows) net ≡ Some row.items
    at = ap (slice_get (lists_of rows)) (sym place) ∙ slice_get-map (λ v. v.items) rows i
        ∙ ap (option_map (λ v. v.items)) (slice_get_read rows (length rows) i row refl within told)
