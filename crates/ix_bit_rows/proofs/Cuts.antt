-- Where rows are cut by a test.
use Rattle.std.proofs.Common.{◌≡◌, ℕ, ◌+◌, ◌-◌, ◌<◌, ◌≤◌, Bool, true, false, List, length, sym, ap, ◌∙◌, subst, get_or, drop, Some, arith, inl, inr, ltb, leb, ltb-true, leb-true}
use Rattle.std.specs.Prelude.{◌&&◌, ◌||◌, nat_eq, nat_lt, slice_get, slice_index, slice_range}
use Rattle.std.specs.List.Sorted.{IsPartitionedBy, IsPartitionPoint}
use Rattle.std.proofs.lemmas.Bool.{cases_lt, lt-ltb, le-leb, leb-false}
use Rattle.std.proofs.lemmas.Bool.Decides.{nat_tests}
use Rattle.std.proofs.lemmas.List.{length-take, length-drop, get_or-take, get_or-drop}
use Rattle.std.proofs.lemmas.Option.{slice_get-get_or, get_or_from_slice_get}
use Rattle.ix_hierarchy.specs.declared.row.Row.{Row}
use Rattle.ix_hierarchy.specs.Lists.{row_key}
use Rattle.ix_hierarchy.specs.Walk.{IsLess}
use Rattle.ix_bit_rows.specs.Table.{IsCut, IsTable, RowTable, AreOfInstance}
use Rattle.ix_bit_rows.specs.Tests.{is_before}

pub part_length : (rows : List Row) (s e : ℕ) → e ≤ length rows
    → length (slice_range rows s e) ≡ e - s
part_length rows s e high = simp (length-take, length-drop) (omega arith)

-- an item of a part
pub part_get : (rows : List Row) (s e i : ℕ) (d : Row) → s + i < e
    → get_or (slice_range rows s e) i d ≡ get_or rows (s + i) d
part_get rows s e i d low = get_or-take (e - s) (drop s rows) i d (omega arith) ∙ get_or-drop s rows i d

-- a row that passes has only rows that pass before it
abbrev pub PassesDown : (Row → Bool) → List Row → (s e : ℕ) → Type 0
PassesDown p rows s e = (j k : ℕ) (a b : Row) → s ≤ j → j < k → k < e
    → slice_get rows j ≡ Some a → slice_get rows k ≡ Some b → p b ≡ true → p a ≡ true

pub passes_before : (p : Row → Bool) (rows : List Row) (s e : ℕ) → e ≤ length rows
    → PassesDown p rows s e → (i j : ℕ) (d : Row) → i ≤ j → s + j < e
    → p (get_or rows (s + j) d) ≡ true → p (get_or rows (s + i) d) ≡ true
passes_before p rows s e high down i j d le lt here =
    elim (cases_lt i j) [
      | inl less ↦ down (s + i) (s + j) (get_or rows (s + i) d) (get_or rows (s + j) d) (omega arith) (omega arith) lt
          (slice_get-get_or rows (s + i) d (omega arith)) (slice_get-get_or rows (s + j) d (omega arith)) here
      | inr more ↦ let same : i ≡ j = omega arith in subst (λ k. p (get_or rows (s + k) d) ≡ true) (sym same) here
    ]

pub parted : (p : Row → Bool) (rows : List Row) (s e : ℕ) → e ≤ length rows
    → PassesDown p rows s e → IsPartitionedBy p (slice_range rows s e)
parted p rows s e high down i j d le lt passes =
    let many : length (slice_range rows s e) ≡ e - s = part_length rows s e high in
    let below : s + j < e = omega arith in
    let here : p (get_or rows (s + j) d) ≡ true = subst (λ row. p row ≡ true) (part_get rows s e j d below) passes in
    subst (λ row. p row ≡ true) (sym (part_get rows s e i d (omega arith))) (passes_before p rows s e high down i j d le below here)

-- where a part is cut
pub cut_at : (p : Row → Bool) (rows : List Row) (s e i : ℕ) → s ≤ e → e ≤ length rows
    → i ≤ length (slice_range rows s e)
    → IsPartitionPoint (λ row. p row ≡ true) (λ row. p row ≡ false) (slice_range rows s e) i
    → IsCut (λ row. p row ≡ true) (λ row. p row ≡ false) rows s e (s + i)
cut_at p rows s e i le high most point =
    let many : length (slice_range rows s e) ≡ e - s = part_length rows s e high in
    record {
      from = omega arith;
      to = omega arith;
      before = λ k row low lt is.
          let at : s + (k - s) ≡ k = omega arith in
          let got : get_or (slice_range rows s e) (k - s) row ≡ row =
          part_get rows s e (k - s) row (omega arith) ∙ ap (λ m. get_or rows m row) at ∙ get_or_from_slice_get rows k row row is in
          subst (λ x. p x ≡ true) got (point.0 (k - s) row (omega arith) (omega arith));
      behind = λ k row low lt is.
          let at : s + (k - s) ≡ k = omega arith in
          let got : get_or (slice_range rows s e) (k - s) row ≡ row =
          part_get rows s e (k - s) row (omega arith) ∙ ap (λ m. get_or rows m row) at ∙ get_or_from_slice_get rows k row row is in
          subst (λ x. p x ≡ false) got (point.1 (k - s) row (omega arith) (omega arith));
    }

-- what passes and fails, told in other words
pub cut_as : (P Q R S : Row → Type 0) (rows : List Row) (s e i : ℕ) → ((row : Row) → P row → R row)
    → ((row : Row) → Q row → S row) → IsCut P Q rows s e i → IsCut R S rows s e i
cut_as P Q R S rows s e i f g cut = record {
  from = cut.from;
  to = cut.to;
  before = λ k row low lt is. f row (cut.before k row low lt is);
  behind = λ k row low lt is. g row (cut.behind k row low lt is);
}

pub read_at : (xs : List ℕ) (i x : ℕ) → i < length xs → x ≡ get_or xs i x → x ≡ slice_index xs i
read_at xs i x lt is = is ∙ sym (get_or_from_slice_get xs i (get_or xs i x) x (slice_get-get_or xs i x lt))
    ∙ sym (get_or_from_slice_get xs i (get_or xs i x) 0 (slice_get-get_or xs i x lt))

-- a row that passes has only rows that pass among those that are less
abbrev pub PassesLess : (Row → Bool) → Type 0
PassesLess p = (a b : Row) → IsLess (row_key a) (row_key b) → p b ≡ true → p a ≡ true

pub falls_in_cell : (p : Row → Bool) (rows : List Row) (starts ends : List ℕ) (cell s e : ℕ)
    → IsTable rows starts ends → PassesLess p → cell < length starts
    → slice_index starts cell ≤ s → e ≤ slice_index ends cell → PassesDown p rows s e
falls_in_cell p rows starts ends cell s e table less small low high j k a b from lt to is_a is_b here =
    less a b (table.rise cell j k a b small (omega arith) lt (omega arith) is_a is_b) here

-- what the order of rows says of their parts
pub record Goes (a b : Row) : Type 0 where
  pub instance : a.instance ≤ b.instance
  pub port : a.instance ≡ b.instance → a.port ≤ b.port
  pub index : a.instance ≡ b.instance → a.port ≡ b.port → a.index ≤ b.index
  pub net : a.instance ≡ b.instance → a.port ≡ b.port → a.index ≡ b.index → a.net < b.net

pub goes : (a b : Row) → IsLess (row_key a) (row_key b) → Goes a b
goes a b less = elim less [
  | inl x ↦ record { instance = omega arith; port = λ e. omega arith; index = λ e f. omega arith; net = λ e f g. omega arith }
  | inr x ↦ elim x.1 [
    | inl y ↦ record { instance = omega arith; port = λ e. omega arith; index = λ e f. omega arith; net = λ e f g. omega arith }
    | inr y ↦ elim y.1 [
      | inl z ↦ record { instance = omega arith; port = λ e. omega arith; index = λ e f. omega arith; net = λ e f g. omega arith }
      | inr z ↦ elim z.1 [
        | inl w ↦ record { instance = omega arith; port = λ e. omega arith; index = λ e f. omega arith; net = λ e f g. omega arith }
        | inr w ↦ absurd w.1
      ]
    ]
  ]
]

pub instance_passes : (instance : ℕ) → PassesLess (λ row. ltb row.instance instance)
instance_passes instance a b less here =
    let g = goes a b less in
    lt-ltb a.instance instance (omega (arith, ltb-true b.instance instance here, g.instance))

pub instance_passes_to : (instance : ℕ) → PassesLess (λ row. leb row.instance instance)
instance_passes_to instance a b less here =
    let g = goes a b less in
    le-leb a.instance instance (omega (arith, leb-true b.instance instance here, g.instance))

pub bit_passes : (port index : ℕ) → PassesLess (is_before port index)
bit_passes port index a b less here =
    bit_passes_parts port index a.instance a.port a.index b.instance b.port b.index
    (goes a b less).instance (goes a b less).port (goes a b less).index here
  where
    bit_passes_parts : (port index i p x j q y : ℕ) → i ≤ j → (i ≡ j → p ≤ q) → (i ≡ j → p ≡ q → x ≤ y)
        → nat_eq j 0 && (nat_lt q port || (nat_eq q port && nat_lt y index)) ≡ true
        → nat_eq i 0 && (nat_lt p port || (nat_eq p port && nat_lt x index)) ≡ true
    bit_passes_parts port index i p x j q y a b c h = grind (arith, nat_tests)

-- a part of the rows cut by a test that falls
pub part_cut : (p : Row → Bool) (rows part : List Row) (s e i : ℕ)
    → PassesDown p rows s e → part ≡ rows → s ≤ e → e ≤ length rows
    → i ≤ length (slice_range part s e)
    → (IsPartitionedBy p (slice_range part s e)
    → IsPartitionPoint (λ row. p row ≡ true) (λ row. p row ≡ false) (slice_range part s e) i)
    → IsCut (λ row. p row ≡ true) (λ row. p row ≡ false) rows s e (s + i)
part_cut p rows part s e i falls same le within most point =
    let in_part = subst (λ (xs : List Row). IsPartitionedBy p (slice_range xs s e)) (sym same)
    (parted p rows s e within falls) in
    cut_at p rows s e i le within (subst (λ (xs : List Row). i ≤ length (slice_range xs s e)) same most)
    (subst (λ (xs : List Row). IsPartitionPoint (λ row. p row ≡ true) (λ row. p row ≡ false) (slice_range xs s e) i) same (point in_part))

pub cell_cut : (p : Row → Bool) (rows part : List Row) (starts ends : List ℕ) (cell s e i : ℕ)
    → IsTable rows starts ends → PassesLess p → cell < length starts → part ≡ rows
    → slice_index starts cell ≤ s → s ≤ e → e ≤ slice_index ends cell
    → i ≤ length (slice_range part s e)
    → (IsPartitionedBy p (slice_range part s e)
    → IsPartitionPoint (λ row. p row ≡ true) (λ row. p row ≡ false) (slice_range part s e) i)
    → IsCut (λ row. p row ≡ true) (λ row. p row ≡ false) rows s e (s + i)
cell_cut p rows part starts ends cell s e i table less small same low le high most point =
    let order = table.ordered cell small in
    part_cut p rows part s e i (falls_in_cell p rows starts ends cell s e table less small low high) same le
    (omega (arith, order.1)) most point

-- ports rise among the rows of one instance
pub port_falls : (table : RowTable) (s e port : ℕ) → IsTable table.rows table.starts table.ends
    → AreOfInstance table s e → PassesDown (λ row. ltb row.port port) table.rows s e
port_falls table s e port table_is part j k a b from lt to is_a is_b here =
    let g = goes a b (table_is.rise part.cell j k a b part.is_cell (omega (arith, part.from)) lt (omega (arith, part.to)) is_a is_b) in
    let one = part.of_it j a from (omega arith) is_a in
    let other = part.of_it k b (omega arith) to is_b in
    lt-ltb a.port port (omega (arith, ltb-true b.port port here, g.port (one ∙ sym other)))

-- behind the start of an instance, the rows up to it are its own
pub end_cut : (rows : List Row) (low high instance s e i : ℕ)
    → IsCut (λ row. row.instance < instance) (λ row. instance ≤ row.instance) rows low high s → e ≡ high
    → IsCut (λ row. leb row.instance instance ≡ true) (λ row. leb row.instance instance ≡ false) rows s e i
    → IsCut (λ row. row.instance ≡ instance) (λ row. instance < row.instance) rows s e i
end_cut rows low high instance s e i started same cut = record {
  from = cut.from;
  to = cut.to;
  before = λ k row from lt is.
      let most = leb-true row.instance instance (cut.before k row from lt is) in
      let least = started.behind k row from (omega (arith, cut.to)) is in
      omega arith;
  behind = λ k row from lt is. leb-false row.instance instance (cut.behind k row from lt is);
}
