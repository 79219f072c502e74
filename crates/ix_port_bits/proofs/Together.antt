-- Rows put together cell by cell.
use Rattle.std.proofs.Common.{◌≡◌, ℕ, ◌+◌, ◌-◌, ◌<◌, ◌≤◌, Bool, true, List, [], ◌∷◌, ◌++◌, length, refl, sym, ap, ◌∙◌, subst, Some, None, arith, inl, inr, set, take, drop}
use Rattle.std.specs.Prelude.{nat_eq, slice_get, slice_index}
use Rattle.std.specs.List.{slice_range, position}
use Rattle.std.proofs.lemmas.Bool.{cases_lt, cases_eq}
use Rattle.std.proofs.lemmas.Bool.Decides.{nat_tests}
use Rattle.std.proofs.lemmas.List.{get_or-set_same, get_or-set_other, get_or_append_left, get_or-append_right, take-append-le, drop-append-le, length-drop, length-append, length-set}
use Rattle.std.proofs.lemmas.List.Quantifiers.{position-Some}
use Rattle.std.proofs.lemmas.Option.{slice_get_within, get_or_from_slice_get, slice_get-get_or}
use Rattle.std.proofs.Math.Seq.{drop-append_seam, take-length}
use Rattle.ix_rec.specs.declared.netlist.Cell.{Cell}
use Rattle.ix_rec.specs.declared.netlist.NetlistRec.{NetlistRec}
use Rattle.ix_hierarchy.specs.declared.row.Row.{Row}
use Rattle.ix_hierarchy.specs.Lists.{AreAllRows, AreMet, AreRowsOf, first_cell}
use Rattle.ix_port_bits.specs.Listed.{IsRow}
use Rattle.ix_port_bits.specs.Filled.{AreFilled}
use Rattle.ix_port_bits.proofs.Reached.{met_contains, index_to, to_index, contains_at}

pub get_left : {X : Type 0} (xs ys : List X) (k : ℕ) (x : X) → k < length xs
    → slice_get (xs ++ ys) k ≡ Some x → slice_get xs k ≡ Some x
get_left xs ys k x lt is = slice_get-get_or xs k x lt
    ∙ ap Some (sym (get_or_append_left xs ys x k lt) ∙ get_or_from_slice_get (xs ++ ys) k x x is)

pub get_right : {X : Type 0} (xs ys : List X) (k : ℕ) (x : X) → length xs ≤ k
    → slice_get (xs ++ ys) k ≡ Some x → slice_get ys (k - length xs) ≡ Some x
get_right xs ys k x le is =
    let within : k < length (xs ++ ys) = slice_get_within (xs ++ ys) k x is in
    let many = length-append xs ys in
    slice_get-get_or ys (k - length xs) x (omega arith)
    ∙ ap Some (sym (get_or-append_right xs ys (length xs) k x refl le) ∙ get_or_from_slice_get (xs ++ ys) k x x is)

pub part_left : {X : Type 0} (xs ys : List X) (s e : ℕ) → s ≤ e → e ≤ length xs
    → slice_range (xs ++ ys) s e ≡ slice_range xs s e
part_left xs ys s e le high =
    ap (take (e - s)) (drop-append-le s xs ys (omega arith))
    ∙ take-append-le (e - s) (drop s xs) ys (simp length-drop (omega arith))

pub part_right : {X : Type 0} (xs ys : List X)
    → slice_range (xs ++ ys) (length xs) (length xs + length ys) ≡ ys
part_right xs ys = ap (take (length xs + length ys - length xs)) (drop-append_seam xs ys)
    ∙ ap (λ (n : ℕ). take n ys) (minus (length xs) (length ys)) ∙ take-length ys
  where
    minus : (m n : ℕ) → m + n - m ≡ n
    minus m n = omega arith

-- a declaration's first cell is its own
pub cell_index : (design : NetlistRec) (declaration place : ℕ) (cell : Cell)
    → first_cell design declaration ≡ Some place → slice_get design.cell_list place ≡ Some cell
    → cell.index ≡ declaration
cell_index design declaration place cell first is =
    let found = position-Some (λ (c : Cell). nat_eq c.index declaration) design.cell_list place cell first in
    let passes : nat_eq cell.index declaration ≡ true =
    subst (λ (c : Cell). nat_eq c.index declaration ≡ true) (get_or_from_slice_get design.cell_list place cell cell is) found.1 in
    eq_of cell.index declaration passes
  where
    eq_of : (m n : ℕ) → nat_eq m n ≡ true → m ≡ n
    eq_of m n h = grind (arith, nat_tests)

pub position_below : {X : Type 0} (p : X → Bool) (xs : List X) (i : ℕ) → position p xs ≡ Some i
    → i < length xs
position_below p [] i is = absurd (no i is)
  where
    no : (n : ℕ) → None ≡ Some n → ⊥
    no n e = cc
position_below p (x ∷ xs) i is = (position-Some p (x ∷ xs) i x is).0

pub cell_within : (design : NetlistRec) (declaration place : ℕ)
    → first_cell design declaration ≡ Some place → place < length design.cell_list
cell_within design declaration place first =
    position_below (λ (c : Cell). nat_eq c.index declaration) design.cell_list place first

-- cells of different turns are different cells
abbrev pub Differ : List ℕ → Type 0
Differ met = (i j declaration : ℕ) → slice_get met i ≡ Some declaration
    → slice_get met j ≡ Some declaration → i ≡ j

pub places_differ : (design : NetlistRec) (met : List ℕ) (i j d e place other : ℕ) (cell : Cell) → Differ met
    → slice_get met i ≡ Some d → slice_get met j ≡ Some e → first_cell design d ≡ Some other
    → first_cell design e ≡ Some place → slice_get design.cell_list place ≡ Some cell
    → i < j → other ≡ place → ⊥
places_differ design met i j d e place other cell differ is_i is_j of_d of_e is lt same =
    let one = cell_index design d place cell (of_d ∙ ap Some same) is in
    let two = cell_index design e place cell of_e is in
    let turn : i ≡ j = differ i j e (is_i ∙ ap Some (sym one ∙ two)) is_j in
    omega arith

pub filled_more : (own : Bool) (design : NetlistRec) (met : List ℕ) (turns : ℕ) (rows more : List Row)
    (starts ends : List ℕ) (declaration place : ℕ) (cell : Cell) → Differ met
    → AreFilled own design met turns rows starts ends
    → slice_get met turns ≡ Some declaration → first_cell design declaration ≡ Some place
    → slice_get design.cell_list place ≡ Some cell → AreAllRows (IsRow own cell) more
    → AreFilled own design met (turns + 1) (rows ++ more) (set starts place (length rows))
    (set ends place (length rows + length more))
filled_more own design met turns rows more starts ends declaration place cell differ filled met_is first_is cell_is whole =
    let small : place < length design.cell_list = slice_get_within design.cell_list place cell cell_is in
    let starts_small : place < length starts = omega (arith, filled.starts_many) in
    let ends_small : place < length ends = omega (arith, filled.ends_many) in
    let start_here : slice_index (set starts place (length rows)) place ≡ length rows =
    get_or-set_same starts place (length rows) 0 starts_small in
    let end_here : slice_index (set ends place (length rows + length more)) place ≡ length rows + length more =
    get_or-set_same ends place (length rows + length more) 0 ends_small in
    let start_there : (c : ℕ) → (c ≡ place → ⊥) → slice_index (set starts place (length rows)) c ≡ slice_index starts c =
    λ c ne. get_or-set_other starts place c (length rows) 0 ne in
    let end_there : (c : ℕ) → (c ≡ place → ⊥) → slice_index (set ends place (length rows + length more)) c ≡ slice_index ends c =
    λ c ne. get_or-set_other ends place c (length rows + length more) 0 ne in
    let many : length (rows ++ more) ≡ length rows + length more = length-append rows more in
    let starts_set : length (set starts place (length rows)) ≡ length starts = length-set starts place (length rows) in
    let ends_set : length (set ends place (length rows + length more)) ≡ length ends = length-set ends place (length rows + length more) in
    let apart : (turn d other : ℕ) → turn < turns → slice_get met turn ≡ Some d
    → first_cell design d ≡ Some other → other ≡ place → ⊥ =
    λ turn d other lt is first same. places_differ design met turn turns d declaration place other cell differ is met_is first first_is cell_is lt same in
    record {
      starts_many = starts_set ∙ filled.starts_many;
      ends_many = ends_set ∙ filled.ends_many;
      table = record {
        many = starts_set ∙ filled.table.many ∙ sym ends_set;
        ordered = λ c lt. elim (cases_eq c place) [
          | inl e ↦
              let a : slice_index (set starts place (length rows)) c ≡ length rows = ap (slice_index (set starts place (length rows))) e ∙ start_here in
              let b : slice_index (set ends place (length rows + length more)) c ≡ length rows + length more = ap (slice_index (set ends place (length rows + length more))) e ∙ end_here in
              (omega arith, omega arith)
          | inr ne ↦
              let old = filled.table.ordered c (omega arith) in
              let a = start_there c ne in
              let b = end_there c ne in
              (omega (arith, old.0), omega (arith, old.1))
        ];
        rise = λ c j k a b lt from less to is_a is_b. elim (cases_eq c place) [
          | inl e ↦
              let s : slice_index (set starts place (length rows)) c ≡ length rows = ap (slice_index (set starts place (length rows))) e ∙ start_here in
              let low : length rows ≤ j = omega arith in
              whole.rise (j - length rows) (k - length rows) a b (omega arith)
              (get_right rows more j a low is_a) (get_right rows more k b (omega arith) is_b)
          | inr ne ↦
              let old = filled.table.ordered c (omega arith) in
              let s = start_there c ne in
              let t = end_there c ne in
              let high : k < length rows = omega (arith, old.1) in
              filled.table.rise c j k a b (omega arith) (omega arith) less (omega arith)
              (get_left rows more j a (omega arith) is_a) (get_left rows more k b high is_b)
        ];
      };
      each = λ turn d other one lt is first one_is. elim (cases_eq turn turns) [
        | inl e ↦
            let d_is : declaration ≡ d = same_of declaration d (sym met_is ∙ ap (slice_get met) (sym e) ∙ is) in
            let place_is : place ≡ other = same_of place other (sym first_is ∙ ap (first_cell design) d_is ∙ first) in
            let one_cell : cell ≡ one = same_cell cell one (sym cell_is ∙ ap (slice_get design.cell_list) place_is ∙ one_is) in
            subst (λ (n : ℕ). AreAllRows (IsRow own one) (slice_range (rows ++ more) (slice_index (set starts place (length rows)) n) (slice_index (set ends place (length rows + length more)) n))) place_is
            (subst (λ (n : ℕ). AreAllRows (IsRow own one) (slice_range (rows ++ more) n (slice_index (set ends place (length rows + length more)) place))) (sym start_here)
            (subst (λ (n : ℕ). AreAllRows (IsRow own one) (slice_range (rows ++ more) (length rows) n)) (sym end_here)
            (subst (λ (xs : List Row). AreAllRows (IsRow own one) xs) (sym (part_right rows more))
            (subst (λ (x : Cell). AreAllRows (IsRow own x) more) one_cell whole))))
        | inr ne ↦
            let before : turn < turns = omega arith in
            let ne_place = apart turn d other before is first in
            let old = filled.table.ordered other (omega (arith, filled.starts_many, slice_get_within design.cell_list other one one_is)) in
            subst (λ (n : ℕ). AreAllRows (IsRow own one) (slice_range (rows ++ more) n (slice_index (set ends place (length rows + length more)) other))) (sym (start_there other ne_place))
            (subst (λ (n : ℕ). AreAllRows (IsRow own one) (slice_range (rows ++ more) (slice_index starts other) n)) (sym (end_there other ne_place))
            (subst (λ (xs : List Row). AreAllRows (IsRow own one) xs) (sym (part_left rows more (slice_index starts other) (slice_index ends other) old.0 old.1))
            (filled.each turn d other one before is first one_is)))
      ];
      some_cell = λ k lt. elim (cases_lt k (length rows)) [
        | inl less ↦
            let r = filled.some_cell k less in
            let ne = apart r.turn r.declaration r.place r.passed r.met_is r.cell_is in
            record {
              turn = r.turn;
              passed = omega (arith, r.passed);
              declaration = r.declaration;
              met_is = r.met_is;
              place = r.place;
              cell_is = r.cell_is;
              within = r.within;
              from = subst (λ (n : ℕ). n ≤ k) (sym (start_there r.place ne)) r.from;
              to = subst (λ (n : ℕ). k < n) (sym (end_there r.place ne)) r.to;
            }
        | inr ge ↦
            record {
              turn = turns;
              passed = omega arith;
              declaration = declaration;
              met_is = met_is;
              place = place;
              cell_is = first_is;
              within = small;
              from = subst (λ (n : ℕ). n ≤ k) (sym start_here) ge;
              to = subst (λ (n : ℕ). k < n) (sym end_here) (omega arith);
            }
      ];
    }
  where
    same_of : (m n : ℕ) → Some m ≡ Some n → m ≡ n
    same_of m n e = cc

    same_cell : (m n : Cell) → Some m ≡ Some n → m ≡ n
    same_cell m n e = cc

pub filled_same : (own : Bool) (design : NetlistRec) (met : List ℕ) (turns : ℕ) (rows : List Row)
    (starts ends : List ℕ) (declaration : ℕ)
    → AreFilled own design met turns rows starts ends
    → slice_get met turns ≡ Some declaration → first_cell design declaration ≡ None
    → AreFilled own design met (turns + 1) rows starts ends
filled_same own design met turns rows starts ends declaration filled met_is first_is = record {
  starts_many = filled.starts_many;
  ends_many = filled.ends_many;
  table = filled.table;
  each = λ turn d other one lt is first one_is. elim (cases_eq turn turns) [
    | inl e ↦
        let d_is : declaration ≡ d = same_of declaration d (sym met_is ∙ ap (slice_get met) (sym e) ∙ is) in
        absurd (no other (sym first_is ∙ ap (first_cell design) d_is ∙ first))
    | inr ne ↦ filled.each turn d other one (omega arith) is first one_is
  ];
  some_cell = λ k lt.
      let r = filled.some_cell k lt in
      record {
        turn = r.turn;
        passed = omega (arith, r.passed);
        declaration = r.declaration;
        met_is = r.met_is;
        place = r.place;
        cell_is = r.cell_is;
        within = r.within;
        from = r.from;
        to = r.to;
      };
}
  where
    same_of : (m n : ℕ) → Some m ≡ Some n → m ≡ n
    same_of m n e = cc

    no : (n : ℕ) → None ≡ Some n → ⊥
    no n e = cc

-- when all declarations had their turns
pub all_filled : (own : Bool) (design : NetlistRec) (met : List ℕ) (rows : List Row)
    (starts ends : List ℕ) → AreMet design met
    → AreFilled own design met (length met) rows starts ends
    → AreRowsOf design (IsRow own) rows starts ends
all_filled own design met rows starts ends are filled = record {
  starts_many = filled.starts_many;
  ends_many = filled.ends_many;
  ordered = λ place start end start_is end_is.
      let order = filled.table.ordered place (slice_get_within starts place start start_is) in
      subst (λ (n : ℕ). (n ≤ end) × (end ≤ length rows)) (index_to starts place start start_is)
      (subst (λ (n : ℕ). (slice_index starts place ≤ n) × (n ≤ length rows)) (index_to ends place end end_is) order);
  each = λ declaration place start end cell reaches first is start_is end_is.
      let turn = met_contains met declaration ((are.reached declaration).1 reaches) in
      subst (λ (n : ℕ). AreAllRows (IsRow own cell) (slice_range rows n end)) (index_to starts place start start_is)
      (subst (λ (n : ℕ). AreAllRows (IsRow own cell) (slice_range rows (slice_index starts place) n)) (index_to ends place end end_is)
      (filled.each turn.0 declaration place cell turn.1 turn.2 first is));
  some_cell = λ k lt.
      let r = filled.some_cell k lt in (
        r.declaration,
        r.place,
        slice_index starts r.place,
        slice_index ends r.place,
        (are.reached r.declaration).0 (contains_at met r.turn r.declaration r.met_is),
        r.cell_is,
        to_index starts r.place (omega (arith, r.within, filled.starts_many)),
        to_index ends r.place (omega (arith, r.within, filled.ends_many)),
        r.from,
        r.to,
      );
}
