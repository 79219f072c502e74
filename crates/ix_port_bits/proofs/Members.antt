-- Which rows are among those of nets.
use Rattle.std.proofs.Common.{◌≡◌, ℕ, ◌+◌, Bool, true, false, cond, List, [], ◌∷◌, map, refl, sym, ap, ◌∙◌, subst, Some, None, arith, inl, inr, zero, suc}
use Rattle.std.specs.Prelude.{◌⊎◌, ◌&&◌, ◌||◌, nat_eq, slice_get, not}
use Rattle.std.specs.List.{filter, list_any, dedup, Contains}
use Rattle.std.specs.List.Sorted.{IsPermutation, IsSorted}
use Rattle.std.proofs.lemmas.Bool.Decides.{nat_tests}
use Rattle.std.proofs.lemmas.List.Folds.{Any-from_list_any, list_any_at, list_any-append}
use Rattle.std.proofs.lemmas.List.Sorted.{Contains-permutation, IsPermutation-sym}
use Rattle.std.proofs.lemmas.List.Kept.{Contains-dedup, Contains-from_dedup}
use Rattle.std.proofs.lemmas.Option.{slice_get_within, get_or_from_slice_get, slice_get-get_or}
use Rattle.ix_rec.specs.declared.netlist.Cell.{Cell}
use Rattle.ix_rec.specs.declared.netlist.Net.{Net}
use Rattle.ix_rec.specs.declared.netlist.PortInstance.{PortInstance}
use Rattle.ix_rec.specs.declared.netlist.PortOwner.{PortOwner}
use Rattle.ix_rec.specs.declared.netlist.PortOwner.TheVariants.{ExtPort, Inst}
use Rattle.ix_hierarchy.specs.declared.row.Row.{Row}
use Rattle.ix_hierarchy.specs.Lists.{AreAllRows, bit_in}
use Rattle.ix_hierarchy.specs.Nets.{is_own, is_of, same_bit, bit_of, index_of}
use Rattle.ix_port_bits.specs.Listed.{is_wanted, row_of, named_rows, net_rows, IsRow, owner_number}
use Rattle.ix_port_bits.proofs.Order.{row_eq, row_cmp, row_equiv, rows_rise}

-- a row stands somewhere in the list
abbrev pub Has : List Row → Row → Type 0
Has rows row = (k : ℕ) × (slice_get rows k ≡ Some row)

abbrev pub has : Row → List Row → Bool
has row rows = list_any (row_eq row) rows

pub same_from_eq : (a b : Row) → row_eq a b ≡ true → a ≡ b
same_from_eq a b h =
    let p = parts a.instance a.port a.index a.net b.instance b.port b.index b.net h in
    λ i. record { instance = p.0 i; port = p.1 i; index = p.2 i; net = p.3 i }
  where
    parts : (i p x n j q y m : ℕ) → nat_eq i j && (nat_eq p q && (nat_eq x y && nat_eq n m)) ≡ true
        → (i ≡ j) × (p ≡ q) × (x ≡ y) × (n ≡ m)
    parts i p x n j q y m h = grind (arith, nat_tests)

pub eq_itself : (a : Row) → row_eq a a ≡ true
eq_itself a = row_equiv.refl a

pub has_it : (row : Row) (rows : List Row) → Has rows row → has row rows ≡ true
has_it row rows (k, is) = list_any_at (row_eq row) rows k row (slice_get_within rows k row is)
    (subst (λ (x : Row). row_eq row x ≡ true) (sym (get_or_from_slice_get rows k row row is)) (eq_itself row))

pub it_has : (row : Row) (rows : List Row) → has row rows ≡ true → Has rows row
it_has row rows h =
    let any = Any-from_list_any (row_eq row) rows h in
    (any.0, slice_get-get_or rows any.0 any.1 any.2 ∙ ap Some (any.3 ∙ sym (same_from_eq row any.1 any.4)))

contains_it : (row : Row) (rows : List Row) → Has rows row → Contains rows row
contains_it row rows (k, is) = (k, slice_get_within rows k row is, get_or_from_slice_get rows k row row is)

it_contains : (row : Row) (rows : List Row) → Contains rows row → Has rows row
it_contains row rows (k, within, is) = (k, slice_get-get_or rows k row within ∙ ap Some is)

-- what is left after a sort and once repeats are out
pub kept_has : (listed sorted : List Row) (row : Row) → IsPermutation listed sorted → Has listed row
    → Has (dedup row_eq sorted) row
kept_has listed sorted row moved h = it_contains row (dedup row_eq sorted)
    (Contains-dedup row_equiv same_from_eq sorted row (Contains-permutation listed sorted row moved (contains_it row listed h)))

pub has_kept : (listed sorted : List Row) (row : Row) → IsPermutation listed sorted
    → Has (dedup row_eq sorted) row → Has listed row
has_kept listed sorted row moved h = it_contains row listed
    (Contains-permutation sorted listed row (IsPermutation-sym listed sorted moved) (Contains-from_dedup row_eq sorted row (contains_it row (dedup row_eq sorted) h)))

-- of a filtered list of which each is made into a row
any_made : (p : Row → Bool) (w : PortInstance → Bool) (f : PortInstance → Row) (xs : List PortInstance)
    → list_any p (map f (filter w xs)) ≡ list_any (λ x. w x && p (f x)) xs
any_made p w f [] = refl
any_made p w f (x ∷ xs) =
    elim (w x) as (λ b. list_any p (map f (cond b (x ∷ filter w xs) (filter w xs))) ≡ ((b && p (f x)) || list_any (λ x. w x && p (f x)) xs)) [
      | true ↦ ap (λ r. p (f x) || r) (any_made p w f xs)
      | false ↦ any_made p w f xs
    ]

any_implies : {X : Type 0} (p q : X → Bool) (xs : List X) → ((x : X) → p x ≡ true → q x ≡ true)
    → list_any p xs ≡ true → list_any q xs ≡ true
any_implies p q xs f h =
    let any = Any-from_list_any p xs h in
    list_any_at q xs any.0 any.1 any.2 (subst (λ x. q x ≡ true) (sym any.3) (f any.1 any.4))

and_parts : (a b : Bool) → a && b ≡ true → (a ≡ true) × (b ≡ true)
and_parts true b h = (refl, h)
and_parts false b h = absurd (no h)
  where
    no : false ≡ true → ⊥
    no e = cc

or_parts : (a b : Bool) → a || b ≡ true → (a ≡ true) ⊎ (b ≡ true)
or_parts true b h = inl refl
or_parts false b h = inr h

or_left : (a b : Bool) → a ≡ true → a || b ≡ true
or_left a b h = subst (λ (x : Bool). x || b ≡ true) (sym h) refl

or_right : (a b : Bool) → b ≡ true → a || b ≡ true
or_right true b h = refl
or_right false b h = h

-- the row's net is the net of all rows that one net has
pub named_net : (own : Bool) (net : ℕ) (xs : List PortInstance) (row : Row)
    → has row (named_rows own net xs) ≡ true → row.net ≡ net
named_net own net xs row h =
    let any = Any-from_list_any (λ x. is_wanted own x && row_eq row (row_of net x)) xs
    (sym (any_made (row_eq row) (is_wanted own) (row_of net) xs) ∙ h) in
    ap (λ (r : Row). r.net) (same_from_eq row (row_of net any.1)
    (and_parts (is_wanted own any.1) (row_eq row (row_of net any.1)) any.4).1)

-- a row that nets have is one of its own net
pub record IsNamedBy (own : Bool) (first : ℕ) (nets : List Net) (row : Row) : Type 0 where
  pub k : ℕ
  pub net : Net
  pub net_is : slice_get nets k ≡ Some net
  pub number_is : row.net ≡ first + k
  pub named : has row (named_rows own (first + k) net.port_insts) ≡ true

pub named_by : (own : Bool) (first : ℕ) (nets : List Net) (row : Row)
    → has row (net_rows own first nets) ≡ true → IsNamedBy own first nets row
named_by own first [] row h = absurd (no h)
  where
    no : false ≡ true → ⊥
    no e = cc
named_by own first (x ∷ xs) row h =
    elim (or_parts (has row (named_rows own first x.port_insts)) (has row (net_rows own (first + 1) xs))
    (sym (list_any-append (row_eq row) (named_rows own first x.port_insts) (net_rows own (first + 1) xs)) ∙ h)) [
      | inl here ↦ record {
        k = 0;
        net = x;
        net_is = refl;
        number_is = named_net own first x.port_insts row here ∙ plus_none first;
        named = subst (λ (n : ℕ). has row (named_rows own n x.port_insts) ≡ true) (plus_none first) here;
      }
      | inr later ↦ let r = named_by own (first + 1) xs row later in
          record {
            k = suc r.k;
            net = r.net;
            net_is = r.net_is;
            number_is = r.number_is ∙ plus_one first r.k;
            named = subst (λ (n : ℕ). has row (named_rows own n r.net.port_insts) ≡ true) (plus_one first r.k) r.named;
          }
    ]
  where
    plus_none : (n : ℕ) → n ≡ n + 0
    plus_none n = omega arith

    plus_one : (n m : ℕ) → n + 1 + m ≡ n + suc m
    plus_one n m = omega arith

pub by_named : (own : Bool) (first : ℕ) (nets : List Net) (row : Row) (k : ℕ) (net : Net)
    → slice_get nets k ≡ Some net → has row (named_rows own (first + k) net.port_insts) ≡ true
    → has row (net_rows own first nets) ≡ true
by_named own first [] row k net is h = absurd (no is)
  where
    no : None ≡ Some net → ⊥
    no e = cc
by_named own first (x ∷ xs) row zero net is h =
    list_any-append (row_eq row) (named_rows own first x.port_insts) (net_rows own (first + 1) xs)
    ∙ or_left _ _ (subst (λ (y : Net). has row (named_rows own first y.port_insts) ≡ true) (sym (same_net x net is))
    (subst (λ (n : ℕ). has row (named_rows own n net.port_insts) ≡ true) (plus_none first) h))
  where
    plus_none : (n : ℕ) → n + 0 ≡ n
    plus_none n = omega arith

    same_net : (x y : Net) → Some x ≡ Some y → x ≡ y
    same_net x y e = cc
by_named own first (x ∷ xs) row (suc k) net is h =
    list_any-append (row_eq row) (named_rows own first x.port_insts) (net_rows own (first + 1) xs)
    ∙ or_right _ _ (by_named own (first + 1) xs row k net is
    (subst (λ (n : ℕ). has row (named_rows own n net.port_insts) ≡ true) (plus_one first k) h))
  where
    plus_one : (n m : ℕ) → n + suc m ≡ n + 1 + m
    plus_one n m = omega arith

-- The tests of bits, and those of rows.
own_to : (i p x n net : ℕ) (owner : PortOwner) (port index : ℕ) → i ≡ 0 → n ≡ net
    → is_own owner && (nat_eq port p && nat_eq index x) ≡ true
    → is_own owner && (nat_eq i (owner_number owner) && (nat_eq p port && (nat_eq x index && nat_eq n net))) ≡ true
own_to i p x n net ExtPort port index e f h = own_to_at i p x n net port index e f h
  where
    own_to_at : (i p x n net port index : ℕ) → i ≡ 0 → n ≡ net
        → nat_eq port p && nat_eq index x ≡ true
        → nat_eq i 0 && (nat_eq p port && (nat_eq x index && nat_eq n net)) ≡ true
    own_to_at i p x n net port index e f h = grind (arith, nat_tests)
own_to i p x n net (Inst other) port index e f h = absurd (no h)
  where
    no : false ≡ true → ⊥
    no e = cc

own_from : (i p x n net : ℕ) (owner : PortOwner) (port index : ℕ)
    → is_own owner && (nat_eq i (owner_number owner) && (nat_eq p port && (nat_eq x index && nat_eq n net))) ≡ true
    → (i ≡ 0) × (is_own owner && (nat_eq port p && nat_eq index x) ≡ true)
own_from i p x n net ExtPort port index h = own_from_at i p x n net port index h
  where
    own_from_at : (i p x n net port index : ℕ)
        → nat_eq i 0 && (nat_eq p port && (nat_eq x index && nat_eq n net)) ≡ true
        → (i ≡ 0) × (nat_eq port p && nat_eq index x ≡ true)
    own_from_at i p x n net port index h = grind (arith, nat_tests)
own_from i p x n net (Inst other) port index h = absurd (no h)
  where
    no : false ≡ true → ⊥
    no e = cc

outer_to : (i p x n net : ℕ) (owner : PortOwner) (port index : ℕ) → n ≡ net
    → is_of i owner && (nat_eq port p && nat_eq index x) ≡ true
    → not (is_own owner) && (nat_eq i (owner_number owner) && (nat_eq p port && (nat_eq x index && nat_eq n net))) ≡ true
outer_to i p x n net (Inst o) port index f h = outer_to_at i p x n net o port index f h
  where
    outer_to_at : (i p x n net o port index : ℕ) → n ≡ net
        → nat_eq o i && (nat_eq port p && nat_eq index x) ≡ true
        → nat_eq i o && (nat_eq p port && (nat_eq x index && nat_eq n net)) ≡ true
    outer_to_at i p x n net o port index f h = grind (arith, nat_tests)
outer_to i p x n net ExtPort port index f h = absurd (no h)
  where
    no : false ≡ true → ⊥
    no e = cc

outer_from : (i p x n net : ℕ) (owner : PortOwner) (port index : ℕ)
    → not (is_own owner) && (nat_eq i (owner_number owner) && (nat_eq p port && (nat_eq x index && nat_eq n net))) ≡ true
    → is_of i owner && (nat_eq port p && nat_eq index x) ≡ true
outer_from i p x n net (Inst o) port index h = outer_from_at i p x n net o port index h
  where
    outer_from_at : (i p x n net o port index : ℕ)
        → nat_eq i o && (nat_eq p port && (nat_eq x index && nat_eq n net)) ≡ true
        → nat_eq o i && (nat_eq port p && nat_eq index x) ≡ true
    outer_from_at i p x n net o port index h = grind (arith, nat_tests)
outer_from i p x n net ExtPort port index h = absurd (no h)
  where
    no : false ≡ true → ⊥
    no e = cc

zero_more : (n : ℕ) → 0 + n ≡ n
zero_more n = omega arith

pub told : (own : Bool) (cell : Cell) (row : Row) → Has (net_rows own 0 cell.nets) row → IsRow own cell row
told true cell row h =
    let by = named_by true 0 cell.nets row (has_it row (net_rows true 0 cell.nets) h) in
    let at : by.k ≡ row.net = sym (by.number_is ∙ zero_more by.k) in
    let p : PortInstance → Bool = λ x. is_wanted true x && row_eq row (row_of (0 + by.k) x) in
    let found = sym (any_made (row_eq row) (is_wanted true) (row_of (0 + by.k)) by.net.port_insts) ∙ by.named in
    let any = Any-from_list_any p by.net.port_insts found in (
      (own_from row.instance row.port row.index row.net (0 + by.k) any.1.owner any.1.port (index_of any.1.bus any.1.idx) any.4).0,
      (
        by.net,
        subst (λ (k : ℕ). slice_get cell.nets k ≡ Some by.net) at by.net_is,
        any_implies p (λ named. is_own named.owner && same_bit (bit_of named) (bit_in row)) by.net.port_insts
            (λ x hx. (own_from row.instance row.port row.index row.net (0 + by.k) x.owner x.port (index_of x.bus x.idx) hx).1) found,
      ),
    )
told false cell row h =
    let by = named_by false 0 cell.nets row (has_it row (net_rows false 0 cell.nets) h) in
    let at : by.k ≡ row.net = sym (by.number_is ∙ zero_more by.k) in
    let p : PortInstance → Bool = λ x. is_wanted false x && row_eq row (row_of (0 + by.k) x) in
    let found = sym (any_made (row_eq row) (is_wanted false) (row_of (0 + by.k)) by.net.port_insts) ∙ by.named in (
      by.net,
      subst (λ (k : ℕ). slice_get cell.nets k ≡ Some by.net) at by.net_is,
      any_implies p (λ named. is_of row.instance named.owner && same_bit (bit_of named) (bit_in row)) by.net.port_insts
          (λ x hx. outer_from row.instance row.port row.index row.net (0 + by.k) x.owner x.port (index_of x.bus x.idx) hx) found,
    )

pub listed : (own : Bool) (cell : Cell) (row : Row) → IsRow own cell row → Has (net_rows own 0 cell.nets) row
listed true cell row h =
    let net : Net = h.1.0 in
    let p : PortInstance → Bool = λ named. is_own named.owner && same_bit (bit_of named) (bit_in row) in
    it_has row (net_rows true 0 cell.nets) (by_named true 0 cell.nets row row.net net h.1.1
    (any_made (row_eq row) (is_wanted true) (row_of (0 + row.net)) net.port_insts
    ∙ any_implies p (λ x. is_wanted true x && row_eq row (row_of (0 + row.net) x)) net.port_insts
    (λ x hx. own_to row.instance row.port row.index row.net (0 + row.net) x.owner x.port (index_of x.bus x.idx) h.0 (sym (zero_more row.net)) hx) h.1.2))
listed false cell row h =
    let net : Net = h.0 in
    let p : PortInstance → Bool = λ named. is_of row.instance named.owner && same_bit (bit_of named) (bit_in row) in
    it_has row (net_rows false 0 cell.nets) (by_named false 0 cell.nets row row.net net h.1
    (any_made (row_eq row) (is_wanted false) (row_of (0 + row.net)) net.port_insts
    ∙ any_implies p (λ x. is_wanted false x && row_eq row (row_of (0 + row.net) x)) net.port_insts
    (λ x hx. outer_to row.instance row.port row.index row.net (0 + row.net) x.owner x.port (index_of x.bus x.idx) (sym (zero_more row.net)) hx) h.2))

-- the rows of a cell, sorted and without repeats
pub all_of_cell : (own : Bool) (cell : Cell) (listing sorted rows : List Row)
    → listing ≡ net_rows own 0 cell.nets → IsPermutation listing sorted → IsSorted row_cmp sorted
    → rows ≡ dedup row_eq sorted → AreAllRows (IsRow own cell) rows
all_of_cell own cell listing sorted rows is moved rises kept =
    subst (λ (xs : List Row). AreAllRows (IsRow own cell) xs) (sym kept) (record {
      each = λ k row is_row. told own cell row (subst (λ (xs : List Row). Has xs row) is (has_kept listing sorted row moved (k, is_row)));
      all = λ row h. kept_has listing sorted row moved (subst (λ (xs : List Row). Has xs row) (sym is) (listed own cell row h));
      rise = λ j k a b lt is_a is_b. rows_rise sorted rises j k a b lt is_a is_b;
    })
