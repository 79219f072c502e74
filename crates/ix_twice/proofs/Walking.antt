-- The first cell in the order of declarations has the first net in the walk.
use Rattle.std.proofs.Common.{◌≡◌, ℕ, ◌+◌, ◌-◌, ◌<◌, ◌≤◌, Bool, true, cond, List, [], ◌∷◌, ◌++◌, length, refl, sym, ap, ◌∙◌, subst, Option, Some, None, arith, inl, inr, get_or, drop}
use Rattle.std.specs.Prelude.{nat_eq, nat_lt, slice_get, option_and_then, Contains, MatchOption}
use Rattle.std.specs.List.{position, position_or_len, find}
use Rattle.std.proofs.lemmas.List.Folds.{find_at}
use Rattle.std.proofs.lemmas.List.Quantifiers.{position-Some}
use Rattle.std.proofs.lemmas.Bool.Decides.{nat_tests}
use Rattle.std.proofs.lemmas.Bool.{cases_lt, lt-ltb}
use Rattle.std.proofs.lemmas.List.{get_or-drop, length-drop}
use Rattle.std.proofs.lemmas.Option.{slice_get_within, get_or_from_slice_get, cond_some, option_and_then_some}
use Rattle.ix_message.specs.Shape.{Text}
use Rattle.ix_rec.specs.declared.netlist.Cell.{Cell}
use Rattle.ix_rec.specs.declared.netlist.CellInstance.{CellInstance}
use Rattle.ix_rec.specs.declared.netlist.Net.{Net}
use Rattle.ix_rec.specs.declared.netlist.NetlistRec.{NetlistRec}
use Rattle.ix_hierarchy.specs.Hierarchy.{Path, child, child_of, inside, inside_at, instance_at, reached}
use Rattle.ix_hierarchy.specs.Walk.{Spot, TopBit, NetAt, InstanceAt, PinAt, IsBefore, IsLess, steps}
use Rattle.ix_hierarchy.specs.Broken.{BreaksN2, IsDescent}
use Rattle.ix_hierarchy.specs.Lists.{AreMet, IsFirstOfThese, first_cell}
use Rattle.ix_twice.specs.Turns.{IsTwice, IsTwiceAt, IsFirstTwice, NoneTwice}
use Rattle.ix_twice.specs.Twice.{IsFirstBroken, NoneBroken}
use Rattle.ix_twice.proofs.Reached.{met_contains}

no_order : (p q : Path) (m n : ℕ) → IsLess (steps p) (steps q)
    → IsLess (steps q ++ 0 ∷ m ∷ []) (steps p ++ 0 ∷ n ∷ []) → ⊥
no_order [] [] m n a b = a
no_order [] (y ∷ q) m n a b = elim b [ inl h ↦ omega arith | inr h ↦ omega (arith, h.0) ]
no_order (x ∷ p) [] m n a b = a
no_order (x ∷ p) (y ∷ q) m n a b = elim a [
  | inl h ↦ omega arith
  | inr h ↦ elim b [
    | inl k ↦ omega arith
    | inr k ↦ elim h.1 [
      | inl less ↦ elim k.1 [ inl more ↦ omega arith | inr same ↦ omega (arith, same.0) ]
      | inr same ↦ elim k.1 [ inl more ↦ omega (arith, same.0) | inr again ↦ no_order p q m n same.1 again.1 ]
    ]
  ]
]

net_order : (p : Path) (m n : ℕ) → IsLess (steps p ++ 0 ∷ m ∷ []) (steps p ++ 0 ∷ n ∷ []) → m < n
net_order [] m n b = elim b [
  | inl h ↦ absurd (omega arith)
  | inr h ↦ elim h.1 [ inl less ↦ less | inr same ↦ absurd same.1 ]
]
net_order (x ∷ p) m n b = elim b [
  | inl h ↦ absurd (omega arith)
  | inr h ↦ elim h.1 [ inl less ↦ absurd (omega arith) | inr same ↦ net_order p m n same.1 ]
]

none_some : {X : Type 0} (x : X) → None ≡ Some x → ⊥
none_some x e = cc

-- what is found, and its place
find_from : {X : Type 0} (p : X → Bool) (xs : List X) (k : ℕ) (x : X) → position p xs ≡ Some k
    → slice_get xs k ≡ Some x → find p xs ≡ Some x
find_from p xs k x at is =
    find_at p xs ∙ ap (slice_get xs) (cond_some (nat_lt (position_or_len p xs) (length xs)) (position_or_len p xs) k at).1 ∙ is

found_from : {X : Type 0} (p : X → Bool) (xs : List X) (x : X) → find p xs ≡ Some x
    → (k : ℕ) × (position p xs ≡ Some k) × (slice_get xs k ≡ Some x) × (p x ≡ true)
found_from p xs x is =
    let k : ℕ = position_or_len p xs in
    let here : slice_get xs k ≡ Some x = sym (find_at p xs) ∙ is in
    let within : k < length xs = slice_get_within xs k x here in
    let at : position p xs ≡ Some k = ap (λ (b : Bool). cond b (Some k) None) (lt-ltb k (length xs) within) in
    let passes = (position-Some p xs k x at).1 in
    (k, at, here, subst (λ y. p y ≡ true) (get_or_from_slice_get xs k x x here) passes)

eq_of : (m n : ℕ) → nat_eq m n ≡ true → m ≡ n
eq_of m n h = grind (arith, nat_tests)

-- an instance is of a declaration that is reached
reached_reaches : (design : NetlistRec) (from : CellInstance) (path : Path) (one : CellInstance)
    → reached design from path ≡ Some one → (way : List ℕ) × IsDescent design from.cell way one.cell
unfolding reached
reached_reaches design from [] one is = ([], ap (λ (x : CellInstance). x.cell) (same from one is))
  where
    same : (a b : CellInstance) → Some a ≡ Some b → a ≡ b
    same a b e = cc
reached_reaches design from (place ∷ path) one is =
    option_and_then_some (λ inst. reached design inst path) (child design from place) one is (λ inst child_is rest.
    option_and_then_some (λ cell. child_of design cell place) (inside design from.cell) inst child_is (λ cell inside_is which.
    option_and_then_some (slice_get design.inst_list) (slice_get cell.insts place) inst which (λ number has inst_is.
    let f = found_from (λ (c : Cell). nat_eq c.index from.cell) design.cell_list cell inside_is in
    let below = reached_reaches design inst path one rest in (
      inst.cell ∷ below.0,
      (
        record {
          place = f.0;
          cell = cell;
          cell_is = f.2;
          of_outer = eq_of cell.index from.cell f.3;
          position = place;
          instance = number;
          has = has;
          inst = inst;
          inst_is = inst_is;
          of_inner = refl;
        },
        below.1,
      ),
    ))))

-- a net that breaks the rule, by its cell's turn
pub record Turn (names : List Text) (design : NetlistRec) (met : List ℕ) (path : Path) (net : ℕ) : Type 0 where
  pub one : CellInstance
  pub one_is : instance_at design path ≡ Some one
  pub turn : ℕ
  pub within : turn < length met
  pub met_is : slice_get met turn ≡ Some one.cell
  pub place : ℕ
  pub first : first_cell design one.cell ≡ Some place
  pub twice : IsTwiceAt names design place net

turn_of : (names : List Text) (design : NetlistRec) (met : List ℕ) (path : Path) (net : ℕ) → AreMet design met
    → BreaksN2 names design (NetAt path net) → Turn names design met path net
turn_of names design met path net are (cell, inside_is, breaks) =
    option_and_then_some (λ inst. inside design inst.cell) (instance_at design path) cell inside_is (λ one one_is its.
    let f = found_from (λ (c : Cell). nat_eq c.index one.cell) design.cell_list cell its in
    let t = met_contains met one.cell ((are.reached one.cell).1 (reached_reaches design design.top_inst path one one_is)) in
    record {
      one = one;
      one_is = one_is;
      turn = t.0;
      within = t.1;
      met_is = t.2;
      place = f.0;
      first = f.1;
      twice = (cell, f.2, breaks);
    })

pub none_broken : (names : List Text) (design : NetlistRec) (met : List ℕ) → AreMet design met
    → NoneTwice names design met (length met) → NoneBroken names design
none_broken names design met are none (TopBit place index) broken = broken
none_broken names design met are none (NetAt path net) broken =
    let t = turn_of names design met path net are broken in
    none t.turn t.one.cell t.place net t.within t.met_is t.first t.twice
none_broken names design met are none (InstanceAt path) broken = broken
none_broken names design met are none (PinAt path place index) broken = broken

drop_contains : (xs : List ℕ) (n k x : ℕ) → n ≤ k → slice_get xs k ≡ Some x → Contains (drop n xs) x
drop_contains xs n k x le is =
    let within : k < length xs = slice_get_within xs k x is in (
      k - n,
      simp length-drop (omega arith),
      get_or-drop n xs (k - n) x ∙ ap (λ (m : ℕ). get_or xs m x) (plus_minus n k le) ∙ get_or_from_slice_get xs k x x is,
    )
  where
    plus_minus : (n k : ℕ) → n ≤ k → n + (k - n) ≡ k
    plus_minus n k h = omega arith

net_there : (names : List Text) (design : NetlistRec) (cell : Cell) (net : ℕ) → IsTwice names design cell net
    → (of_net : Net) × (slice_get cell.nets net ≡ Some of_net)
net_there names design cell net (inl two) = (two.here.of_net, two.here.net_is)
net_there names design cell net (inr twice) = (twice.here.of_net, twice.here.net_is)

pub first_broken : (names : List Text) (design : NetlistRec) (met : List ℕ) (place net : ℕ) → AreMet design met
    → IsFirstTwice names design met place net → IsFirstBroken names design place net
first_broken names design met place net are f =
    let way = are.first f.turn f.declaration f.met_is in
    let path : Path = way.0 in
    let w = way.1 in
    let cell : Cell = f.twice.0 in
    let found : inside design f.declaration ≡ Some cell =
    find_from (λ (c : Cell). nat_eq c.index f.declaration) design.cell_list place cell f.cell_is f.twice.1 in
    let inside_is : inside_at design path ≡ Some cell =
    ap (option_and_then (λ (inst : CellInstance). inside design inst.cell)) w.is ∙ ap (inside design) w.of_it ∙ found in
    let there = net_there names design cell net f.twice.2 in
    record {
      path = path;
      cell = cell;
      cell_is = f.twice.1;
      inside = inside_is;
      of_net = there.0;
      net_is = there.1;
      first = record { here = (cell, inside_is, f.twice.2); first = none_before path w cell inside_is };
    }
  where
    none_before : (path : Path) (w : IsFirstOfThese design (drop f.turn met) f.declaration path) (cell : Cell)
        → inside_at design path ≡ Some cell → (other : Spot) → IsBefore other (NetAt path net)
        → BreaksN2 names design other → ⊥
    none_before path w cell inside_is (TopBit a b) before broken = broken
    none_before path w cell inside_is (InstanceAt q) before broken = broken
    none_before path w cell inside_is (PinAt q a b) before broken = broken
    none_before path w cell inside_is (NetAt q m) before broken =
        let t = turn_of names design met q m are broken in
        elim (cases_lt t.turn f.turn) [
          | inl less ↦ f.earlier t.turn t.one.cell t.place m less t.met_is t.first t.twice
          | inr ge ↦ elim (w.first q t.one t.one_is (drop_contains met f.turn t.turn t.one.cell ge t.met_is)) [
            | inl same ↦
                let lower : m < net = net_order path m net (after_one _ _ (subst (λ (r : Path). IsBefore (NetAt r m) (NetAt path net)) (sym same) before)) in
                let one_same : w.inst ≡ t.one = same_instance w.inst t.one (sym w.is ∙ ap (instance_at design) same ∙ t.one_is) in
                let cell_same : f.declaration ≡ t.one.cell = sym w.of_it ∙ ap (λ (x : CellInstance). x.cell) one_same in
                let place_same : place ≡ t.place = same_number place t.place (sym f.cell_is ∙ ap (first_cell design) cell_same ∙ t.first) in
                f.first m lower (subst (λ (n : ℕ). IsTwiceAt names design n m) (sym place_same) t.twice)
            | inr later ↦ no_order path q m net (after_one _ _ later) (after_one _ _ before)
          ]
        ]
      where
        after_one : (xs ys : List ℕ) → IsLess (1 ∷ xs) (1 ∷ ys) → IsLess xs ys
        after_one xs ys h = elim h [ inl a ↦ absurd (omega arith) | inr b ↦ b.1 ]

        same_instance : (a b : CellInstance) → Some a ≡ Some b → a ≡ b
        same_instance a b e = cc

        same_number : (a b : ℕ) → Some a ≡ Some b → a ≡ b
        same_number a b e = cc

-- the first cell's net, told in the walk
pub told : (names : List Text) (design : NetlistRec) (met : List ℕ) → AreMet design met
    → (found : Option (ℕ × ℕ))
    → MatchOption found (NoneTwice names design met (length met)) (λ at. IsFirstTwice names design met at.0 at.1)
    → MatchOption found (NoneBroken names design) (λ at. IsFirstBroken names design at.0 at.1)
told names design met are None h = none_broken names design met are h
told names design met are (Some at) h = first_broken names design met at.0 at.1 are h
