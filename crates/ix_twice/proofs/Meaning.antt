-- What repeats among rows and entries say of a cell.
use Rattle.std.proofs.Common.{◌≡◌, ℕ, ◌+◌, ◌-◌, ◌<◌, ◌≤◌, Bool, true, false, List, [], ◌∷◌, length, refl, sym, ap, ◌∙◌, subst, Some, arith, inl, inr, zero, suc, get_or, drop}
use Rattle.std.specs.Prelude.{◌⊎◌, ◌&&◌, ◌||◌, nat_eq, slice_get}
use Rattle.std.specs.List.{list_any, slice_range}
use Rattle.std.proofs.lemmas.Bool.{cases_lt}
use Rattle.std.proofs.lemmas.Bool.Decides.{nat_tests}
use Rattle.std.proofs.lemmas.List.{length-take, length-drop, get_or-take, get_or-drop}
use Rattle.std.proofs.lemmas.List.Folds.{list_any_at}
use Rattle.std.proofs.lemmas.Option.{slice_get_within, get_or_from_slice_get, slice_get-get_or}
use Rattle.ix_rec.specs.declared.netlist.Cell.{Cell}
use Rattle.ix_rec.specs.declared.netlist.Net.{Net}
use Rattle.ix_rec.specs.declared.netlist.PortInstance.{PortInstance}
use Rattle.ix_rec.specs.declared.netlist.PortOwner.{PortOwner}
use Rattle.ix_rec.specs.declared.netlist.PortOwner.TheVariants.{ExtPort, Inst}
use Rattle.ix_hierarchy.specs.declared.row.Row.{Row}
use Rattle.ix_hierarchy.specs.Hierarchy.{PortBit}
use Rattle.ix_hierarchy.specs.Nets.{is_own, is_of, same_bit, bit_of, index_of}
use Rattle.ix_hierarchy.specs.Broken.{Names, IsOnTwo, same_owner}
use Rattle.ix_hierarchy.specs.Lists.{IsOwnRow, IsOuterRow, AreAllRows, bit_in, row_key}
use Rattle.ix_hierarchy.specs.Walk.{IsLess}
use Rattle.ix_twice.specs.Repeats.{is_same_bit, IsRepeat}

-- the first item that passes
pub record IsFirstAmong {X : Type 0} (p : X → Bool) (xs : List X) : Type 0 where
  pub k : ℕ
  pub item : X
  pub item_is : slice_get xs k ≡ Some item
  pub passes : p item ≡ true
  pub first : (j : ℕ) (y : X) → j < k → slice_get xs j ≡ Some y → p y ≡ false

first_later : {X : Type 0} (p : X → Bool) (x : X) (xs : List X) → p x ≡ false → (r : IsFirstAmong p xs)
    → (j : ℕ) (y : X) → j < suc r.k → slice_get (x ∷ xs) j ≡ Some y → p y ≡ false
first_later p x xs e r zero y lt is = subst (λ z. p z ≡ false) (same x y is) e
  where
    same : {X : Type 0} (a b : X) → Some a ≡ Some b → a ≡ b
    same a b h = cc
first_later p x xs e r (suc j) y lt is = r.first j y (omega arith) is

first_step : {X : Type 0} (p : X → Bool) (x : X) (xs : List X) (b : Bool) → p x ≡ b
    → (list_any p xs ≡ true → IsFirstAmong p xs) → b || list_any p xs ≡ true → IsFirstAmong p (x ∷ xs)
first_step p x xs true e rest h = record {
  k = 0;
  item = x;
  item_is = refl;
  passes = e;
  first = λ j y lt is. absurd (omega arith);
}
first_step p x xs false e rest h =
    let r = rest h in
    record { k = suc r.k; item = r.item; item_is = r.item_is; passes = r.passes; first = first_later p x xs e r }

pub first_among : {X : Type 0} (p : X → Bool) (xs : List X) → list_any p xs ≡ true → IsFirstAmong p xs
first_among p [] h = absurd (no h)
  where
    no : false ≡ true → ⊥
    no e = cc
first_among p (x ∷ xs) h = first_step p x xs (p x) refl (first_among p xs) h

-- order of rows
pub record Goes (a b : Row) : Type 0 where
  pub instance : a.instance ≤ b.instance
  pub port : a.instance ≡ b.instance → a.port ≤ b.port
  pub index : a.instance ≡ b.instance → a.port ≡ b.port → a.index ≤ b.index
  pub net : a.instance ≡ b.instance → a.port ≡ b.port → a.index ≡ b.index → a.net < b.net

pub goes : (a b : Row) → IsLess (row_key a) (row_key b) → Goes a b
goes a b less = elim less [
  | inl x ↦ record { instance = omega arith; port = λ e. omega arith; index = λ e f. omega arith; net = λ e f g. omega arith }
  | inr x ↦ elim x.1 [
    | inl y ↦ record { instance = omega arith; port = λ e. omega arith; index = λ e f. omega arith; net = λ e f g. omega arith }
    | inr y ↦ elim y.1 [
      | inl z ↦ record { instance = omega arith; port = λ e. omega arith; index = λ e f. omega arith; net = λ e f g. omega arith }
      | inr z ↦ elim z.1 [
        | inl w ↦ record { instance = omega arith; port = λ e. omega arith; index = λ e f. omega arith; net = λ e f g. omega arith }
        | inr w ↦ absurd w.1
      ]
    ]
  ]
]

pub same_parts : (a b : Row) → is_same_bit a b ≡ true
    → (a.instance ≡ b.instance) × (a.port ≡ b.port) × (a.index ≡ b.index)
same_parts a b h = parts a.instance a.port a.index b.instance b.port b.index h
  where
    parts : (i p x j q y : ℕ) → nat_eq i j && (nat_eq p q && nat_eq x y) ≡ true → (i ≡ j) × (p ≡ q) × (x ≡ y)
    parts i p x j q y h = grind (arith, nat_tests)

pub same_from_parts : (a b : Row) → a.instance ≡ b.instance → a.port ≡ b.port → a.index ≡ b.index
    → is_same_bit a b ≡ true
same_from_parts a b e f g = parts a.instance a.port a.index b.instance b.port b.index e f g
  where
    parts : (i p x j q y : ℕ) → i ≡ j → p ≡ q → x ≡ y → nat_eq i j && (nat_eq p q && nat_eq x y) ≡ true
    parts i p x j q y e f g = grind (arith, nat_tests)

same_row : (x y : Row) → Some x ≡ Some y → x ≡ y
same_row x y e = cc

abbrev pub Rises : List Row → (start end : ℕ) → Type 0
Rises rows start end = (m n : ℕ) (x y : Row) → start ≤ m → m < n → n < end
    → slice_get rows m ≡ Some x → slice_get rows n ≡ Some y → IsLess (row_key x) (row_key y)

-- rows of one bit are next to each other: one behind another has one of its bit right before it
pub previous_same : (rows : List Row) (start end j k : ℕ) (a b : Row) → Rises rows start end
    → start ≤ j → j < k → k < end → end ≤ length rows → slice_get rows j ≡ Some a → slice_get rows k ≡ Some b
    → is_same_bit a b ≡ true
    → (mid : Row) × (slice_get rows (k - 1) ≡ Some mid) × (is_same_bit mid b ≡ true)
previous_same rows start end j k a b rise from lt to high is_a is_b same =
    let mid : Row = get_or rows (k - 1) b in
    let is_mid : slice_get rows (k - 1) ≡ Some mid = slice_get-get_or rows (k - 1) b (omega arith) in
    let up = goes mid b (rise (k - 1) k mid b (omega arith) (omega arith) to is_mid is_b) in
    let s = same_parts a b same in (
      mid,
      is_mid,
      elim (cases_lt j (k - 1)) [
        | inl less ↦
            let low = goes a mid (rise j (k - 1) a mid from less (omega arith) is_a is_mid) in
            let e : mid.instance ≡ b.instance = omega (arith, low.instance, up.instance, s.0) in
            let f : mid.port ≡ b.port = omega (arith, low.port (omega (arith, s.0)), up.port e, s.1) in
            same_from_parts mid b e f (omega (arith, low.index (omega (arith, s.0)) (omega (arith, s.1)), up.index e f, s.2))
        | inr more ↦
            let at : j ≡ k - 1 = omega arith in
            let it : a ≡ mid = same_row a mid (sym is_a ∙ ap (slice_get rows) at ∙ is_mid) in
            subst (λ (x : Row). is_same_bit x b ≡ true) it same
      ],
    )

pub next_repeats : (rows : List Row) (start end j k : ℕ) (a b : Row) → Rises rows start end
    → start ≤ j → j < k → k < end → end ≤ length rows → slice_get rows j ≡ Some a → slice_get rows k ≡ Some b
    → is_same_bit a b ≡ true → IsRepeat rows start end b.net
next_repeats rows start end j k a b rise from lt to high is_a is_b same =
    let r = previous_same rows start end j k a b rise from lt to high is_a is_b same in
    record {
      place = k;
      from = omega arith;
      to = to;
      repeat = record { row = b; row_is = is_b; other = r.0; other_is = r.1; same = r.2; net_is = refl };
    }

-- the rows of a cell, where they stand among all
pub record InRange (Is : Row → Type 0) (rows : List Row) (start end : ℕ) : Type 0 where
  pub high : end ≤ length rows
  pub each : (k : ℕ) (row : Row) → start ≤ k → k < end → slice_get rows k ≡ Some row → Is row
  pub all : (row : Row) → Is row → (k : ℕ) × (start ≤ k) × (k < end) × (slice_get rows k ≡ Some row)
  pub rise : Rises rows start end

part_get : (rows : List Row) (s e i : ℕ) (row : Row) → e ≤ length rows → s + i < e
    → slice_get (slice_range rows s e) i ≡ slice_get rows (s + i)
part_get rows s e i row high low =
    slice_get-get_or (slice_range rows s e) i row (simp (length-take, length-drop) (omega arith))
    ∙ ap Some (get_or-take (e - s) (drop s rows) i row (omega arith) ∙ get_or-drop s rows i row)
    ∙ sym (slice_get-get_or rows (s + i) row (omega arith))

pub in_range : (Is : Row → Type 0) (rows : List Row) (s e : ℕ) → e ≤ length rows
    → AreAllRows Is (slice_range rows s e) → InRange Is rows s e
in_range Is rows s e high whole =
    let at : (k : ℕ) (row : Row) → s ≤ k → k < e → slice_get rows k ≡ Some row
    → slice_get (slice_range rows s e) (k - s) ≡ Some row =
    λ k row from to is. part_get rows s e (k - s) row high (omega arith)
    ∙ ap (slice_get rows) (plus_minus s k from) ∙ is in
    record {
      high = high;
      each = λ k row from to is. whole.each (k - s) row (at k row from to is);
      all = λ row h.
          let r = whole.all row h in
          let low : r.0 < length (slice_range rows s e) = slice_get_within (slice_range rows s e) r.0 row r.1 in
          let many : length (slice_range rows s e) ≡ e - s = simp (length-take, length-drop) (omega arith) in
          (s + r.0, omega arith, omega arith, sym (part_get rows s e r.0 row high (omega arith)) ∙ r.1);
      rise = λ m n x y from lt to is_x is_y. whole.rise (m - s) (n - s) x y (omega arith)
          (at m x from (omega arith) is_x) (at n y (omega arith) to is_y);
    }
  where
    plus_minus : (s k : ℕ) → s ≤ k → s + (k - s) ≡ k
    plus_minus s k h = omega arith

-- where a row's net names its bit, first
pub record NamedAt (its : Cell) (T : PortOwner → Bool) (row : Row) : Type 0 where
  pub place : ℕ
  pub named : PortInstance
  pub net : Net
  pub net_is : slice_get its.nets row.net ≡ Some net
  pub named_is : slice_get net.port_insts place ≡ Some named
  pub by : T named.owner ≡ true
  pub same : same_bit (bit_of named) (bit_in row) ≡ true
  pub first : (j : ℕ) (y : PortInstance) → j < place → slice_get net.port_insts j ≡ Some y
      → T y.owner && same_bit (bit_of y) (bit_in row) ≡ false

and_parts : (a b : Bool) → a && b ≡ true → (a ≡ true) × (b ≡ true)
and_parts true b h = (refl, h)
and_parts false b h = absurd (no h)
  where
    no : false ≡ true → ⊥
    no e = cc

and_of : (a b : Bool) → a ≡ true → b ≡ true → a && b ≡ true
and_of a b e f = subst (λ (x : Bool). x && b ≡ true) (sym e) f

named_in : (its : Cell) (T : PortOwner → Bool) (row : Row) (net : Net) → slice_get its.nets row.net ≡ Some net
    → list_any (λ named. T named.owner && same_bit (bit_of named) (bit_in row)) net.port_insts ≡ true
    → NamedAt its T row
named_in its T row net net_is h =
    let r = first_among (λ (named : PortInstance). T named.owner && same_bit (bit_of named) (bit_in row)) net.port_insts h in
    let p = and_parts (T r.item.owner) (same_bit (bit_of r.item) (bit_in row)) r.passes in
    record { place = r.k; named = r.item; net = net; net_is = net_is; named_is = r.item_is; by = p.0; same = p.1; first = r.first }

pub named_own : (its : Cell) (row : Row) → IsOwnRow its row → NamedAt its is_own row
named_own its row h = named_in its is_own row h.1.0 h.1.1 h.1.2

pub named_outer : (its : Cell) (row : Row) → IsOuterRow its row → NamedAt its (is_of row.instance) row
named_outer its row h = named_in its (is_of row.instance) row h.0 h.1 h.2

pub bit_parts : (a b : PortBit) → same_bit a b ≡ true → (a.port ≡ b.port) × (a.index ≡ b.index)
bit_parts a b h = parts a.port a.index b.port b.index h
  where
    parts : (p x q y : ℕ) → nat_eq p q && nat_eq x y ≡ true → (p ≡ q) × (x ≡ y)
    parts p x q y h = grind (arith, nat_tests)

pub bit_from : (a b : PortBit) → a.port ≡ b.port → a.index ≡ b.index → same_bit a b ≡ true
bit_from a b e f = parts a.port a.index b.port b.index e f
  where
    parts : (p x q y : ℕ) → p ≡ q → x ≡ y → nat_eq p q && nat_eq x y ≡ true
    parts p x q y e f = grind (arith, nat_tests)

pub own_owners : (a b : PortOwner) → is_own a ≡ true → is_own b ≡ true → same_owner a b
own_owners ExtPort ExtPort e f = tt
own_owners ExtPort (Inst b) e f = absurd (no f)
  where
    no : false ≡ true → ⊥
    no e = cc
own_owners (Inst a) b e f = absurd (no e)
  where
    no : false ≡ true → ⊥
    no e = cc

eq_of : (m n : ℕ) → nat_eq m n ≡ true → m ≡ n
eq_of m n h = grind (arith, nat_tests)

of_eq : (m n : ℕ) → m ≡ n → nat_eq m n ≡ true
of_eq m n h = grind (arith, nat_tests)

pub outer_owners : (i : ℕ) (a b : PortOwner) → is_of i a ≡ true → is_of i b ≡ true → same_owner a b
outer_owners i (Inst a) (Inst b) e f = eq_of a i e ∙ sym (eq_of b i f)
outer_owners i ExtPort b e f = absurd (no e)
  where
    no : false ≡ true → ⊥
    no e = cc
outer_owners i (Inst a) ExtPort e f = absurd (no f)
  where
    no : false ≡ true → ⊥
    no e = cc

-- two nets name one bit
pub two_named : (its : Cell) (T : PortOwner → Bool) (row other : Row)
    → ((a b : PortOwner) → T a ≡ true → T b ≡ true → same_owner a b)
    → NamedAt its T row → NamedAt its T other → is_same_bit other row ≡ true → other.net < row.net
    → IsOnTwo its row.net
two_named its T row other owners n m same less =
    let s = same_parts other row same in
    let a = bit_parts (bit_of n.named) (bit_in row) n.same in
    let b = bit_parts (bit_of m.named) (bit_in other) m.same in
    record {
      place = n.place;
      named = n.named;
      here = record { of_net = n.net; net_is = n.net_is; named_is = n.named_is };
      earlier = other.net;
      before = less;
      other_place = m.place;
      other = m.named;
      there = record { of_net = m.net; net_is = m.net_is; named_is = m.named_is };
      owner = owners m.named.owner n.named.owner m.by n.by;
      same = bit_from (bit_of m.named) (bit_of n.named) (b.0 ∙ s.1 ∙ sym a.0) (b.1 ∙ s.2 ∙ sym a.1);
    }

pub own_repeat : (its : Cell) (rows : List Row) (s e net : ℕ) → InRange (IsOwnRow its) rows s e
    → IsRepeat rows s e net → IsOnTwo its net
own_repeat its rows s e net range r =
    let row = r.repeat.row in
    let other = r.repeat.other in
    let less = goes other row (range.rise (r.place - 1) r.place other row (omega (arith, r.from)) (omega (arith, r.from)) r.to r.repeat.other_is r.repeat.row_is) in
    let p = same_parts other row r.repeat.same in
    subst (λ (n : ℕ). IsOnTwo its n) r.repeat.net_is
    (two_named its is_own row other own_owners
    (named_own its row (range.each r.place row (omega (arith, r.from)) r.to r.repeat.row_is))
    (named_own its other (range.each (r.place - 1) other (omega (arith, r.from)) (omega (arith, r.to)) r.repeat.other_is))
    r.repeat.same (less.net p.0 p.1 p.2))

pub outer_repeat : (its : Cell) (rows : List Row) (s e net : ℕ) → InRange (IsOuterRow its) rows s e
    → IsRepeat rows s e net → IsOnTwo its net
outer_repeat its rows s e net range r =
    let row = r.repeat.row in
    let other = r.repeat.other in
    let less = goes other row (range.rise (r.place - 1) r.place other row (omega (arith, r.from)) (omega (arith, r.from)) r.to r.repeat.other_is r.repeat.row_is) in
    let p = same_parts other row r.repeat.same in
    let other_named : NamedAt its (is_of row.instance) other =
    subst (λ (i : ℕ). NamedAt its (is_of i) other) p.0
    (named_outer its other (range.each (r.place - 1) other (omega (arith, r.from)) (omega (arith, r.to)) r.repeat.other_is)) in
    subst (λ (n : ℕ). IsOnTwo its n) r.repeat.net_is
    (two_named its (is_of row.instance) row other (outer_owners row.instance)
    (named_outer its row (range.each r.place row (omega (arith, r.from)) r.to r.repeat.row_is))
    other_named r.repeat.same (less.net p.0 p.1 p.2))

-- the rows of bits that are named
abbrev pub own_row : PortInstance → (net : ℕ) → Row
own_row named net = record { instance = 0; port = named.port; index = index_of named.bus named.idx; net = net }

abbrev pub outer_row : (instance : ℕ) → PortInstance → (net : ℕ) → Row
outer_row instance named net = record { instance = instance; port = named.port; index = index_of named.bus named.idx; net = net }

any_named : (T : PortOwner → Bool) (bit : PortBit) (xs : List PortInstance) (k : ℕ) (x : PortInstance)
    → slice_get xs k ≡ Some x → T x.owner ≡ true → same_bit (bit_of x) bit ≡ true
    → list_any (λ named. T named.owner && same_bit (bit_of named) bit) xs ≡ true
any_named T bit xs k x is by same =
    list_any_at (λ named. T named.owner && same_bit (bit_of named) bit) xs k x (slice_get_within xs k x is)
    (subst (λ (y : PortInstance). T y.owner && same_bit (bit_of y) bit ≡ true) (sym (get_or_from_slice_get xs k x x is))
    (and_of (T x.owner) (same_bit (bit_of x) bit) by same))

pub is_own_row : (its : Cell) (net place : ℕ) (named : PortInstance) → Names its net place named
    → is_own named.owner ≡ true → IsOwnRow its (own_row named net)
is_own_row its net place named n by =
    (refl, (n.of_net, n.net_is, any_named is_own (bit_of named) n.of_net.port_insts place named n.named_is by (bit_from (bit_of named) (bit_of named) refl refl)))

pub is_outer_row : (its : Cell) (instance net place : ℕ) (named : PortInstance) → Names its net place named
    → is_of instance named.owner ≡ true → IsOuterRow its (outer_row instance named net)
is_outer_row its instance net place named n by =
    (n.of_net, n.net_is, any_named (is_of instance) (bit_of named) n.of_net.port_insts place named n.named_is by (bit_from (bit_of named) (bit_of named) refl refl))

-- two rows of one bit in a range: that of the earlier net is before the other
pub net_order : (rows : List Row) (s e j k : ℕ) (a b : Row) → Rises rows s e → s ≤ j → j < e → s ≤ k → k < e
    → slice_get rows j ≡ Some a → slice_get rows k ≡ Some b → is_same_bit a b ≡ true → a.net < b.net → j < k
net_order rows s e j k a b rise from_j to_j from_k to_k is_a is_b same less =
    let p = same_parts a b same in
    elim (cases_lt j k) [
      | inl lt ↦ lt
      | inr ge ↦ elim (cases_lt k j) [
        | inl gt ↦ let g = goes b a (rise k j b a from_k gt to_j is_b is_a) in
            absurd (omega (arith, g.net (sym p.0) (sym p.1) (sym p.2)))
        | inr le ↦
            let at : j ≡ k = omega arith in
            let it : a ≡ b = same_row a b (sym is_a ∙ ap (slice_get rows) at ∙ is_b) in
            let nets : a.net ≡ b.net = ap (λ (r : Row). r.net) it in
            absurd (omega arith)
      ]
    ]

-- a net that is the second of a bit is the net of a repeated row
pub on_two_repeats : (its : Cell) (own outer : List Row) (s e t u net : ℕ) → InRange (IsOwnRow its) own s e
    → InRange (IsOuterRow its) outer t u → IsOnTwo its net → IsRepeat own s e net ⊎ IsRepeat outer t u net
on_two_repeats its own outer s e t u net range range_outer two =
    by_owner two.named.owner two.other.owner refl refl two.owner
  where
    by_owner : (o p : PortOwner) → two.named.owner ≡ o → two.other.owner ≡ p → same_owner p o
        → IsRepeat own s e net ⊎ IsRepeat outer t u net
    by_owner ExtPort ExtPort is_o is_p same =
        let a = own_row two.other two.earlier in
        let b = own_row two.named net in
        let bits = bit_parts (bit_of two.other) (bit_of two.named) two.same in
        let at_a = range.all a (is_own_row its two.earlier two.other_place two.other two.there (ap is_own is_p)) in
        let at_b = range.all b (is_own_row its net two.place two.named two.here (ap is_own is_o)) in
        let one : is_same_bit a b ≡ true = same_from_parts a b refl bits.0 bits.1 in
        let lt = net_order own s e at_a.0 at_b.0 a b range.rise at_a.1 at_a.2 at_b.1 at_b.2 at_a.3 at_b.3 one two.before in
        inl (next_repeats own s e at_a.0 at_b.0 a b range.rise at_a.1 lt at_b.2 range.high at_a.3 at_b.3 one)
    by_owner (Inst i) (Inst j) is_o is_p same =
        let a = outer_row i two.other two.earlier in
        let b = outer_row i two.named net in
        let bits = bit_parts (bit_of two.other) (bit_of two.named) two.same in
        let at_a = range_outer.all a (is_outer_row its i two.earlier two.other_place two.other two.there (ap (is_of i) is_p ∙ of_eq j i same)) in
        let at_b = range_outer.all b (is_outer_row its i net two.place two.named two.here (ap (is_of i) is_o ∙ of_eq i i refl)) in
        let one : is_same_bit a b ≡ true = same_from_parts a b refl bits.0 bits.1 in
        let lt = net_order outer t u at_a.0 at_b.0 a b range_outer.rise at_a.1 at_a.2 at_b.1 at_b.2 at_a.3 at_b.3 one two.before in
        inr (next_repeats outer t u at_a.0 at_b.0 a b range_outer.rise at_a.1 lt at_b.2 range_outer.high at_a.3 at_b.3 one)
    by_owner ExtPort (Inst j) is_o is_p same = absurd same
    by_owner (Inst i) ExtPort is_o is_p same = absurd same
