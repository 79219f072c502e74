-- The table of cells: each cell more, from the last on, and what it tells.
use Rattle.std.proofs.Common.{◌≡◌, ◌≢◌, ℕ, ◌+◌, ◌<◌, ◌≤◌, inl, inr, List, length, slice_get}
use Rattle.std.proofs.Common.{Option, Some, None, refl, sym, ap, ◌∙◌, subst, arith, true, false}
use Rattle.std.proofs.Common.{get_or}
use Rattle.std.specs.List.{slice_set}
use Rattle.std.specs.Option.{is_some}
use Rattle.std.proofs.lemmas.Option.{slice_get_within, slice_get_read}
use Rattle.std.proofs.lemmas.Bool.{false≢true}
use Rattle.ix_rec.specs.declared.netlist.Cell.{Cell}
use Rattle.ix_rec.specs.declared.netlist.NetlistRec.{NetlistRec}
use Rattle.ix_hierarchy.specs.Broken.{HasTwoCells}
use Rattle.ix_reach.specs.Cells.{AreCells, AreCellsFrom, CellsFit, IsCellAt, IsFirstFrom}
use Rattle.ix_reach.proofs.Places.{same_or_not, below_or_not, one_item, set_cases, length_set}

first_back : (design : NetlistRec) (k d : ℕ) (o : Option ℕ) → ¬ IsCellAt design d k
    → IsFirstFrom design (k + 1) d o → IsFirstFrom design k d o
first_back design k d None not h = λ j le is. elim (same_or_not j k) [
  | inl e ↦ not (subst (λ i. IsCellAt design d i) e is)
  | inr n ↦ h j (omega arith) is
]
first_back design k d (Some place) not h =
    let lt : k + 1 ≤ place = h.0 in (
      omega arith,
      h.1,
      λ j le below is. elim (same_or_not j k) [
        | inl e ↦ not (subst (λ i. IsCellAt design d i) e is)
        | inr n ↦ h.2 j (omega arith) below is
      ],
    )

pub cells_turn : (design : NetlistRec) (from k : ℕ) (cell : Cell) (first next : List (Option ℕ))
    (o : Option ℕ) → from ≡ k + 1 → AreCellsFrom design from first next
    → slice_get design.cell_list k ≡ Some cell
    → slice_get first cell.index ≡ Some o
    → AreCellsFrom design k (slice_set first cell.index (Some k)) (slice_set next k o)
cells_turn design from k cell first next o e h at before = record {
  first_many = length_set first cell.index (Some k) ∙ h.first_many;
  next_many = length_set next k o ∙ h.next_many;
  first_is = λ d place is. elim (set_cases first cell.index d (Some k) place is) [
    | inl new ↦ subst (λ p. IsFirstFrom design k d p) new.1
        (omega arith, (cell, at, sym new.0), λ j le below is. absurd (omega arith))
    | inr old ↦ first_back design k d place (λ has. old.0 (sym has.2 ∙ ap (λ (c : Cell). c.index)
        (one_item (slice_get design.cell_list k) has.0 cell has.1 at)))
        (subst (λ n. IsFirstFrom design n d place) e (h.first_is d place old.1))
  ];
  next_is = λ j d place le has is. elim (set_cases next k j o place is) [
    | inl new ↦
        let here : slice_get design.cell_list k ≡ Some has.0 =
        subst (λ n. slice_get design.cell_list n ≡ Some has.0) new.0 has.1 in
        let same : cell.index ≡ d = ap (λ (c : Cell). c.index)
        (one_item (slice_get design.cell_list k) cell has.0 at here) ∙ has.2 in
        subst (λ p. IsFirstFrom design (j + 1) d p) new.1
        (subst (λ n. IsFirstFrom design (n + 1) d o) (sym new.0)
        (subst (λ n. IsFirstFrom design n d o) e
        (h.first_is d o (subst (λ n. slice_get first n ≡ Some o) same before))))
    | inr old ↦ h.next_is j d place (let apart : j ≢ k = old.0 in omega arith) has old.1
  ];
}

pub cells_end : (design : NetlistRec) (first next : List (Option ℕ)) (d c : ℕ)
    → AreCells design first next → slice_get first d ≡ Some (Some c) → c < length next
cells_end design first next d c h at =
    let has : IsCellAt design d c = (h.first_is d (Some c) at).1 in
    let lt : c < length design.cell_list = slice_get_within design.cell_list c has.0 has.1 in
    let many : length next ≡ length design.cell_list = h.next_many in omega arith

-- the first cell is before each
at_least : (design : NetlistRec) (first next : List (Option ℕ)) (d c k : ℕ)
    → AreCells design first next → slice_get first d ≡ Some (Some c) → IsCellAt design d k → c ≤ k
at_least design first next d c k h at has = elim (below_or_not k c) [
  | inl lt ↦ absurd ((h.first_is d (Some c) at).2 k (omega arith) lt has)
  | inr le ↦ le
]

pub two_yes : (design : NetlistRec) (first next : List (Option ℕ)) (d c n : ℕ)
    → AreCells design first next → slice_get first d ≡ Some (Some c)
    → slice_get next c ≡ Some (Some n) → HasTwoCells design d
two_yes design first next d c n h at behind =
    let has : IsCellAt design d c = (h.first_is d (Some c) at).1 in
    let then_is : IsFirstFrom design (c + 1) d (Some n) = h.next_is c d (Some n) (omega arith) has
    behind in
    let lt : c + 1 ≤ n = then_is.0 in
    record {
      first = c;
      second = n;
      apart = λ e. omega (arith, e, lt);
      cell = has.0;
      other = then_is.1.0;
      is = has.1;
      other_is = then_is.1.1;
      of_it = has.2;
      other_of_it = then_is.1.2;
    }

pub two_no : (design : NetlistRec) (first next : List (Option ℕ)) (d c : ℕ)
    → AreCells design first next → slice_get first d ≡ Some (Some c)
    → slice_get next c ≡ Some None → HasTwoCells design d → ⊥
two_no design first next d c h at behind two =
    let has : IsCellAt design d c = (h.first_is d (Some c) at).1 in
    let none : IsFirstFrom design (c + 1) d None = h.next_is c d None (omega arith) has behind in
    let one_at : IsCellAt design d two.first = (two.cell, two.is, two.of_it) in
    let other_at : IsCellAt design d two.second = (two.other, two.other_is, two.other_of_it) in
    let one_le : c ≤ two.first = at_least design first next d c two.first h at one_at in
    let other_le : c ≤ two.second = at_least design first next d c two.second h at other_at in
    elim (below_or_not c two.first) [
      | inl lt ↦ none two.first (omega arith) one_at
      | inr le ↦ elim (below_or_not c two.second) [
        | inl lt ↦ none two.second (omega arith) other_at
        | inr other ↦ let apart : two.first ≢ two.second = two.apart in omega arith
      ]
    ]

pub none_no : (design : NetlistRec) (first next : List (Option ℕ)) (d : ℕ)
    → AreCells design first next → slice_get first d ≡ Some None → HasTwoCells design d → ⊥
none_no design first next d h at two =
    h.first_is d None at two.first (omega arith) (two.cell, two.is, two.of_it)

-- by what is read from the table
behind_at : (design : NetlistRec) (first next : List (Option ℕ)) (d c : ℕ) (o : Option ℕ)
    → AreCells design first next → slice_get first d ≡ Some (Some c) → o ≡ get_or next c o
    → slice_get next c ≡ Some o
behind_at design first next d c o h at is = slice_get_read next (length next) c o refl
    (cells_end design first next d c h at) is

pub behind_some : (design : NetlistRec) (first next : List (Option ℕ)) (d c : ℕ) (o : Option ℕ)
    → AreCells design first next → slice_get first d ≡ Some (Some c) → o ≡ get_or next c o
    → is_some o ≡ true → HasTwoCells design d
behind_some design first next d c None h at is some = absurd (false≢true some)
behind_some design first next d c (Some n) h at is some =
    two_yes design first next d c n h at (behind_at design first next d c (Some n) h at is)

pub behind_none : (design : NetlistRec) (first next : List (Option ℕ)) (d c : ℕ) (o : Option ℕ)
    → AreCells design first next → slice_get first d ≡ Some (Some c) → o ≡ get_or next c o
    → is_some o ≡ false → HasTwoCells design d → ⊥
behind_none design first next d c None h at is none =
    two_no design first next d c h at (behind_at design first next d c None h at is)
behind_none design first next d c (Some n) h at is none = absurd (false≢true (sym none))

pub two_within : (design : NetlistRec) (d : ℕ) → CellsFit design → HasTwoCells design d
    → d < length design.cell_decls
two_within design d fits two = subst (λ n. n < length design.cell_decls) two.of_it
    (fits.within two.first two.cell two.is)
