-- A declaration is left: where it is the first of the last part, that part is closed.
use Rattle.std.proofs.Common.{◌≡◌, ◌≢◌, ℕ, ◌+◌, ◌-◌, ◌<◌, ◌≤◌, ◌⊎◌, inl, inr, List, [], ◌∷◌, ◌++◌}
use Rattle.std.proofs.Common.{length, take, slice_get, Option, Some, None, refl, sym, ap, ◌∙◌}
use Rattle.std.proofs.Common.{subst}
use Rattle.std.proofs.Common.{arith}
use Rattle.std.proofs.lemmas.Option.{none-some, same_Some, slice_get_within}
use Rattle.ix_rec.specs.declared.netlist.NetlistRec.{NetlistRec}
use Rattle.ix_hierarchy.specs.Broken.{ContainsItself, Reaches}
use Rattle.ix_reach.specs.declared.search.Mark.{Mark}
use Rattle.ix_reach.specs.declared.search.Mark.TheVariants.{New, Open, Closed}
use Rattle.ix_reach.specs.declared.search.Visit.{Visit}
use Rattle.ix_reach.specs.State.{State, Closing, IsLooped, IsClosedFrom, closing_of, last_of}
use Rattle.ix_reach.specs.State.{with_closed}
use Rattle.ix_reach.specs.Searching.{AreDifferent, AreMarked, AreStacked, IsSearching, IsAt}
use Rattle.ix_reach.specs.Searching.{IsIn, IsStraight, IsStillToCome, IsToCome, IsWhole}
use Rattle.ix_reach.proofs.Places.{get_left, get_right, get_push, length_push, one_item}
use Rattle.ix_reach.proofs.Places.{append_cases, below_or_not, same_or_not, get_within, get_taken}
use Rattle.ix_reach.proofs.Places.{taken_get, length_take, take_left, take_all}
use Rattle.ix_reach.proofs.Shapes.{under_top, visit_cases, part_last}
use Rattle.ix_reach.proofs.Entering.{open_new, closed_new, open_closed, open_same}
use Rattle.ix_reach.proofs.Ways.{loops_apart}

never : (o : Option ℕ) (place k q : ℕ) → o ≡ None → IsToCome o place k q → ⊥
never o place k q e h = subst (λ x. IsToCome x place k q) e h

-- what is still to come is so under the last visit, where that has ended
still_under : (design : NetlistRec) (s : State) (under : List Visit) (v : Visit)
    → IsSearching design s → s.visits ≡ under ++ v ∷ [] → v.cell ≡ None → (i k q : ℕ)
    → IsStillToCome s i k q → (i < v.opened) × IsStillToCome (record s { visits = under }) i k q
still_under design s under v h visits none i k q still =
    elim (visit_cases design s.open_ones s.parts under v
    (subst (λ l. AreStacked design s.open_ones s.parts l) visits h.stacked) still.0 still.1
    (subst (λ l. slice_get l still.0 ≡ Some still.1) visits still.2)) [
      | inl old ↦ let lt : still.1.opened < v.opened = old.1 in
          let e : still.1.opened ≡ i = still.3 in
          (omega arith, (still.0, still.1, old.0, still.3, still.4))
      | inr same ↦ absurd (never v.cell v.place k q none
          (subst (λ (y : Visit). IsToCome y.cell y.place k q) (sym same.1) still.4))
    ]

understacked : (design : NetlistRec) (open_ones parts : List ℕ) (under : List Visit) (v : Visit)
    → AreStacked design open_ones parts (under ++ v ∷ []) → last_of parts ≢ Some v.opened
    → AreStacked design open_ones parts under
understacked design open_ones parts under v h other = record {
  parts_rise = h.parts_rise;
  parts_open = h.parts_open;
  parts_first = h.parts_first;
  parts_visited = λ a p at. let x : _ = h.parts_visited a p at in
      elim (visit_cases design open_ones parts under v h x.0 x.1 x.2) [
        | inl old ↦ (x.0, x.1, old.0, x.3)
        | inr same ↦
            let e : p ≡ v.opened = sym x.3 ∙ sym (ap (λ (y : Visit). y.opened) same.1) in
            absurd (other (part_last design open_ones parts under v h a (at ∙ ap Some e)))
      ];
  visits_rise = λ a b x y lt ax bx. h.visits_rise a b x y lt (get_left under _ a x ax)
      (get_left under _ b y bx);
  visits_open = λ a x ax. h.visits_open a x (get_left under _ a x ax);
  visits_cell = λ a x number ax cell. h.visits_cell a x number (get_left under _ a x ax) cell;
}

-- while none contains itself, the last visit is of the last open one
pub straight_top : (design : NetlistRec) (s : State) (under : List Visit) (v : Visit)
    → s.visits ≡ under ++ v ∷ [] → IsStraight design s
    → (v.opened ≡ length under) × (length s.open_ones ≡ length under + 1)
straight_top design s under v visits st = (
  st.visit_is (length under) v (subst (λ l. slice_get l (length under) ≡ Some v) (sym visits)
      (get_push under v (length under) refl)),
  sym st.many ∙ ap length visits ∙ length_push under v,
)

pub left_open : (design : NetlistRec) (s : State) (under : List Visit) (v : Visit)
    → IsSearching design s → s.visits ≡ under ++ v ∷ [] → v.cell ≡ None
    → last_of s.parts ≢ Some v.opened → IsSearching design (record s { visits = under })
left_open design s under v h visits none other = record {
  marked = h.marked;
  stacked = understacked design s.open_ones s.parts under v stacked other;
  joined = h.joined;
  found = λ i d number place inner at is. elim (h.found i d number place inner at is) [
    | inl f ↦ inl f
    | inr still ↦ inr (still_under design s under v h visits none i number place still).1
  ];
  whole = h.whole;
  behind = h.behind;
  looped_is = h.looped_is;
  straight = λ e. let st : IsStraight design s = h.straight e in
      let top : _ = straight_top design s under v visits st in
      let part : IsIn s.parts v.opened = st.each v.opened
      (let a : v.opened ≡ length under = top.0 in
      let b : length s.open_ones ≡ length under + 1 = top.1 in omega arith) in
      absurd (other (part_last design s.open_ones s.parts under v stacked part.0 part.1));
}
  where
    stacked : AreStacked design s.open_ones s.parts (under ++ v ∷ [])
    stacked = subst (λ l. AreStacked design s.open_ones s.parts l) visits h.stacked

pub looped_or_not : (o : Option ℕ) (d : ℕ) → IsLooped o d ⊎ (IsLooped o d → ⊥)
looped_or_not None d = inr (λ h. none-some h.0 h.1)
looped_or_not (Some l) d = elim (below_or_not d l) [
  | inl lt ↦ inr (λ h. let e : l ≡ h.0 = same_Some l h.0 h.1 in let le : h.0 ≤ d = h.2 in
      omega arith)
  | inr le ↦ inl (l, refl, le)
]

none_before : (o p : Option ℕ) → ((d : ℕ) → IsLooped o d → IsLooped p d) → p ≡ None → o ≡ None
none_before None p more e = refl
none_before (Some l) p more e =
    let h : IsLooped p l = more l (l, refl, omega arith) in
    absurd (none-some h.0 (sym e ∙ h.1))

-- the last part, that is closed
module _ (design : NetlistRec) (s : State) (under : List Visit) (v : Visit) (c : Closing)
    (h : IsSearching design s) (visits : s.visits ≡ under ++ v ∷ []) (none : v.cell ≡ None)
    (last : last_of s.parts ≡ Some v.opened)
    (closing : IsClosedFrom (closing_of s) v.opened v.opened c) where
  stacked_now : AreStacked design s.open_ones s.parts (under ++ v ∷ [])
  stacked_now = subst (λ l. AreStacked design s.open_ones s.parts l) visits h.stacked

  differ : AreDifferent s.open_ones
  differ i j d at other = open_same i j (sym (h.marked.open_is i d at) ∙ h.marked.open_is j d other)

  inside : v.opened < length s.open_ones
  inside = stacked_now.visits_open (length under) v (get_push under v (length under) refl)

  down : (i d : ℕ) → slice_get c.open_ones i ≡ Some d
      → (i < v.opened) × (slice_get s.open_ones i ≡ Some d)
  down i d at = taken_get v.opened s.open_ones i d
      (subst (λ l. slice_get l i ≡ Some d) closing.open_ones at)

  up : (i d : ℕ) → i < v.opened → slice_get s.open_ones i ≡ Some d
      → slice_get c.open_ones i ≡ Some d
  up i d lt at = subst (λ l. slice_get l i ≡ Some d) (sym closing.open_ones)
      (get_taken v.opened s.open_ones i d lt at)

  now_many : length c.open_ones ≡ v.opened
  now_many = ap length closing.open_ones ∙ length_take v.opened s.open_ones
      (let lt : v.opened < length s.open_ones = inside in omega arith)

  part_down : (a p : ℕ) → slice_get (take (length s.parts - 1) s.parts) a ≡ Some p
      → (p < v.opened) × (slice_get s.parts a ≡ Some p)
  part_down a p at =
      let x : _ = taken_get (length s.parts - 1) s.parts a p at in
      (stacked_now.parts_rise a (length s.parts - 1) p v.opened x.0 x.1 last, x.1)

  part_up : (a p : ℕ) → p < v.opened → slice_get s.parts a ≡ Some p
      → slice_get (take (length s.parts - 1) s.parts) a ≡ Some p
  part_up a p less at =
      let lt : a < length s.parts = slice_get_within s.parts a p at in
      elim (same_or_not a (length s.parts - 1)) [
        | inl e ↦
            let same : p ≡ v.opened = one_item (slice_get s.parts (length s.parts - 1)) p v.opened
            (subst (λ n. slice_get s.parts n ≡ Some p) e at) last in
            absurd (omega arith)
        | inr n ↦ get_taken (length s.parts - 1) s.parts a p (omega arith) at
      ]

  rest_down : (i d : ℕ) → slice_get closing.rest i ≡ Some d
      → (k : ℕ) × (v.opened ≤ k) × (slice_get s.open_ones k ≡ Some d)
      × (i + k + 1 ≡ length s.open_ones)
  rest_down i d at =
      let lt : i < length closing.rest = slice_get_within closing.rest i d at in
      let many : length closing.rest + v.opened ≡ length s.open_ones = closing.rest_many in
      let e : i + (length s.open_ones - 1 - i) + 1 ≡ length s.open_ones = omega arith in (
        length s.open_ones - 1 - i,
        omega arith,
        closing.rest_is i (length s.open_ones - 1 - i) d at e,
        e,
      )

  rest_up : (k d : ℕ) → v.opened ≤ k → slice_get s.open_ones k ≡ Some d → IsIn c.closed d
  rest_up k d le at =
      let lt : k < length s.open_ones = slice_get_within s.open_ones k d at in
      let many : length closing.rest + v.opened ≡ length s.open_ones = closing.rest_many in
      let i : ℕ = length s.open_ones - 1 - k in
      let x : _ = get_within closing.rest (length s.open_ones - 1 - k) (omega arith) in
      let same : x.0 ≡ d = one_item (slice_get s.open_ones k) x.0 d
      (closing.rest_is (length s.open_ones - 1 - k) k x.0 x.1 (omega arith)) at in (
        length s.closed + (length s.open_ones - 1 - k),
        subst (λ l. slice_get l (length s.closed + (length s.open_ones - 1 - k)) ≡ Some d)
            (sym closing.closed)
            (get_right s.closed closing.rest (length s.closed + (length s.open_ones - 1 - k))
            (length s.open_ones - 1 - k) d refl (x.1 ∙ ap Some same)),
      )

  closed_up : (d : ℕ) → IsIn s.closed d → IsIn c.closed d
  closed_up d is = (
    is.0,
    subst (λ l. slice_get l is.0 ≡ Some d) (sym closing.closed)
        (get_left s.closed closing.rest is.0 d is.1),
  )

  closed_cases : (i d : ℕ) → slice_get c.closed i ≡ Some d → (slice_get s.closed i ≡ Some d)
      ⊎ ((j : ℕ) × (i ≡ length s.closed + j) × (slice_get closing.rest j ≡ Some d))
  closed_cases i d at = append_cases s.closed closing.rest i d
      (subst (λ l. slice_get l i ≡ Some d) closing.closed at)

  mark_cases : (d : ℕ) (m : Mark) → slice_get c.marks d ≡ Some m
      → ((slice_get s.marks d ≡ Some m)
      × ((j : ℕ) → v.opened ≤ j → slice_get s.open_ones j ≢ Some d))
      ⊎ ((Some m ≡ Some Closed) × ((j : ℕ) × (v.opened ≤ j) × (slice_get s.open_ones j ≡ Some d)))
  mark_cases d m at =
      let lt : d < length c.marks = slice_get_within c.marks d m at in
      let many : length c.marks ≡ length s.marks = closing.marks_many in
      let was : _ = get_within s.marks d (omega arith) in
      by was.0 was.1
    where
      same : ((j : ℕ) → v.opened ≤ j → slice_get s.open_ones j ≢ Some d)
          → slice_get s.marks d ≡ Some m
      same apart = sym (closing.others d apart) ∙ at

      by : (x : Mark) → slice_get s.marks d ≡ Some x → ((slice_get s.marks d ≡ Some m)
          × ((j : ℕ) → v.opened ≤ j → slice_get s.open_ones j ≢ Some d))
          ⊎ ((Some m ≡ Some Closed)
          × ((j : ℕ) × (v.opened ≤ j) × (slice_get s.open_ones j ≡ Some d)))
      by New is = let apart : (j : ℕ) → v.opened ≤ j → slice_get s.open_ones j ≢ Some d =
          λ j le e. open_new j (sym (h.marked.open_is j d e) ∙ is) in inl (same apart, apart)
      by Closed is = let apart : (j : ℕ) → v.opened ≤ j → slice_get s.open_ones j ≢ Some d =
          λ j le e. open_closed j (sym (h.marked.open_is j d e) ∙ is) in inl (same apart, apart)
      by (Open i) is = elim (below_or_not i v.opened) [
        | inl less ↦
            let apart : (j : ℕ) → v.opened ≤ j → slice_get s.open_ones j ≢ Some d = λ j le e.
            let one : i ≡ j = open_same i j (sym is ∙ h.marked.open_is j d e) in omega arith in
            inl (same apart, apart)
        | inr le ↦ inr (
          sym at ∙ closing.closing i d le (h.marked.is_open i d is),
          (i, le, h.marked.is_open i d is),
        )
      ]

  pub new_before : (d : ℕ) → slice_get c.marks d ≡ Some New → slice_get s.marks d ≡ Some New
  new_before d at = elim (mark_cases d New at) [
    | inl was ↦ was.0
    | inr new ↦ absurd (closed_new (sym new.0))
  ]

  marked_now : AreMarked design c.marks c.open_ones s.met c.closed
  marked_now = record {
    many = closing.marks_many ∙ h.marked.many;
    open_is = λ i d at. let x : _ = down i d at in
        closing.others d (λ j le e. let one : i ≡ j = differ i j d x.1 e in
        let lt : i < v.opened = x.0 in omega arith) ∙ h.marked.open_is i d x.1;
    is_open = λ i d e. elim (mark_cases d (Open i) e) [
      | inl was ↦ let at : slice_get s.open_ones i ≡ Some d = h.marked.is_open i d was.0 in
          elim (below_or_not i v.opened) [
            | inl lt ↦ up i d lt at
            | inr le ↦ absurd (was.1 i le at)
          ]
      | inr new ↦ absurd (open_closed i new.0)
    ];
    closed_is = λ i d at. elim (closed_cases i d at) [
      | inl old ↦ let is : slice_get s.marks d ≡ Some Closed = h.marked.closed_is i d old in
          closing.others d (λ j le e. open_closed j (sym (h.marked.open_is j d e) ∙ is)) ∙ is
      | inr new ↦ let x : _ = rest_down new.0 d new.2 in closing.closing x.0 d x.1 x.2
    ];
    is_closed = λ d e. elim (mark_cases d Closed e) [
      | inl was ↦ closed_up d (h.marked.is_closed d was.0)
      | inr new ↦ rest_up new.1.0 d new.1.1 new.1.2
    ];
    met_not_new = λ i d at e. elim (mark_cases d New e) [
      | inl was ↦ h.marked.met_not_new i d at was.0
      | inr new ↦ closed_new (sym new.0)
    ];
    open_met = λ i d e. elim (mark_cases d (Open i) e) [
      | inl was ↦ h.marked.open_met i d was.0
      | inr new ↦ absurd (open_closed i new.0)
    ];
    closed_met = λ d e. elim (mark_cases d Closed e) [
      | inl was ↦ h.marked.closed_met d was.0
      | inr new ↦ h.marked.open_met new.1.0 d (h.marked.open_is new.1.0 d new.1.2)
    ];
    reached = h.marked.reached;
    met_differ = h.marked.met_differ;
    closed_differ = λ i j d ai aj. elim (closed_cases i d ai) [
      | inl x ↦ elim (closed_cases j d aj) [
        | inl y ↦ h.marked.closed_differ i j d x y
        | inr y ↦ absurd (apart i d x y.0 y.2)
      ]
      | inr x ↦ elim (closed_cases j d aj) [
        | inl y ↦ absurd (apart j d y x.0 x.2)
        | inr y ↦
            let a : _ = rest_down x.0 d x.2 in let b : _ = rest_down y.0 d y.2 in
            let same : a.0 ≡ b.0 = differ a.0 b.0 d a.2 b.2 in
            let e : x.0 + a.0 + 1 ≡ length s.open_ones = a.3 in
            let f : y.0 + b.0 + 1 ≡ length s.open_ones = b.3 in
            let p : i ≡ length s.closed + x.0 = x.1 in
            let q : j ≡ length s.closed + y.0 = y.1 in omega arith
      ]
    ];
  }
    where
      apart : (i d : ℕ) → slice_get s.closed i ≡ Some d → (j : ℕ)
          → slice_get closing.rest j ≡ Some d → ⊥
      apart i d at j new = let x : _ = rest_down j d new in
          open_closed x.0 (sym (h.marked.open_is x.0 d x.2) ∙ h.marked.closed_is i d at)

  stacked_after : AreStacked design c.open_ones (take (length s.parts - 1) s.parts) under
  stacked_after = record {
    parts_rise = λ a b p q lt ap_is bq. stacked_now.parts_rise a b p q lt (part_down a p ap_is).1
        (part_down b q bq).1;
    parts_open = λ a p at. let lt : p < v.opened = (part_down a p at).0 in
        let m : length c.open_ones ≡ v.opened = now_many in omega arith;
    parts_first = λ some. let m : length c.open_ones ≡ v.opened = now_many in
        let lt : v.opened < length s.open_ones = inside in
        let first : _ = stacked_now.parts_first (omega arith) in
        (first.0, part_up first.0 0 (omega arith) first.1);
    parts_visited = λ a p at. let d : _ = part_down a p at in
        let x : _ = stacked_now.parts_visited a p d.1 in
        elim (visit_cases design s.open_ones s.parts under v stacked_now x.0 x.1 x.2) [
          | inl old ↦ (x.0, x.1, old.0, x.3)
          | inr same ↦ let e : p ≡ v.opened =
              sym x.3 ∙ sym (ap (λ (y : Visit). y.opened) same.1) in
              let lt : p < v.opened = d.0 in absurd (omega arith)
        ];
    visits_rise = λ a b x y lt ax bx. stacked_now.visits_rise a b x y lt (get_left under _ a x ax)
        (get_left under _ b y bx);
    visits_open = λ a x ax. let lt : x.opened < v.opened = before a x ax in
        let m : length c.open_ones ≡ v.opened = now_many in omega arith;
    visits_cell = λ a x number ax cell.
        let w : _ = stacked_now.visits_cell a x number (get_left under _ a x ax) cell in
        (w.0, w.1, up x.opened w.0.index (before a x ax) w.2, w.3);
  }
    where
      before : (a : ℕ) (x : Visit) → slice_get under a ≡ Some x → x.opened < v.opened
      before a x ax = stacked_now.visits_rise a (length under) x v
          (slice_get_within under a x ax) (get_left under _ a x ax)
          (get_push under v (length under) refl)

  -- what a closed one contains was found
  found_closing : (k d number place inner : ℕ) → v.opened ≤ k → slice_get s.open_ones k ≡ Some d
      → IsAt design d number place inner → IsIn s.closed inner ⊎ ((j : ℕ) × (v.opened ≤ j)
      × (slice_get s.open_ones j ≡ Some inner) × ((k < j) ⊎ IsLooped s.looped inner))
  found_closing k d number place inner le at is = elim (h.found k d number place inner at is) [
    | inl f ↦ elim f [
      | inl closed ↦ inl closed
      | inr j ↦ elim j.2 [
        | inl lt ↦ inr (j.0, omega arith, j.1, inl lt)
        | inr back ↦ inr (j.0, back.1 (length s.parts - 1) v.opened last le, j.1, inr back.0)
      ]
    ]
    | inr still ↦
        let lt : k < v.opened = (still_under design s under v h visits none k number place still).0
        in absurd (omega arith)
  ]

  whole_now : IsWhole design c.closed
  whole_now outer number place inner has at = elim (closed_cases has.0 outer has.1) [
    | inl old ↦ closed_up inner (h.whole outer number place inner (has.0, old) at)
    | inr new ↦ let x : _ = rest_down new.0 outer new.2 in
        elim (found_closing x.0 outer number place inner x.1 x.2 at) [
          | inl closed ↦ closed_up inner closed
          | inr j ↦ rest_up j.0 inner j.1 j.2
        ]
  ]

  behind_now : (i d : ℕ) → slice_get c.closed i ≡ Some d → IsLooped c.looped d
      ⊎ (IsWhole design (take i c.closed) × ((number place inner : ℕ)
      → IsAt design d number place inner → IsIn (take i c.closed) inner))
  behind_now i d at = elim (closed_cases i d at) [
    | inl old ↦ elim (h.behind i d old) [
      | inl l ↦ inl (closing.looped_more d l)
      | inr rest ↦
          let lt : i < length s.closed = slice_get_within s.closed i d old in
          inr (subst (λ l. IsWhole design l × ((number place inner : ℕ)
          → IsAt design d number place inner → IsIn l inner))
          (sym (ap (λ l. take i l) closing.closed
          ∙ take_left i s.closed closing.rest (omega arith))) rest)
    ]
    | inr new ↦ elim (looped_or_not c.looped d) [
      | inl l ↦ inl l
      | inr not ↦ inr (single new.0 new.1 new.2 not)
    ]
  ]
    where
      single : (j : ℕ) → i ≡ length s.closed + j → slice_get closing.rest j ≡ Some d
          → (IsLooped c.looped d → ⊥) → IsWhole design (take i c.closed)
          × ((number place inner : ℕ) → IsAt design d number place inner
          → IsIn (take i c.closed) inner)
      single j e is not =
          let x : _ = rest_down j d is in let le : v.opened ≤ x.0 = x.1 in
          let sum : j + x.0 + 1 ≡ length s.open_ones = x.3 in
          let few : length s.open_ones ≤ v.opened + 1 =
          elim (below_or_not (v.opened + 1) (length s.open_ones)) [
            | inl more ↦ absurd (not (closing.looped_each x.0 d more le x.2))
            | inr fine ↦ fine
          ] in
          let here : i ≡ length s.closed = omega arith in
          let same : take i c.closed ≡ s.closed = ap (λ l. take i l) closing.closed
          ∙ take_left i s.closed closing.rest (omega arith)
          ∙ take_all i s.closed (omega arith) in
          subst (λ l. IsWhole design l × ((number place inner : ℕ)
          → IsAt design d number place inner → IsIn l inner)) (sym same) (
            h.whole,
            λ number place inner at_inner.
                elim (found_closing x.0 d number place inner le x.2 at_inner) [
                  | inl closed ↦ closed
                  | inr y ↦
                      let less : y.0 < length s.open_ones =
                      slice_get_within s.open_ones y.0 inner y.2 in
                      let y_le : v.opened ≤ y.0 = y.1 in
                      elim y.3 [
                        | inl lt ↦ absurd (omega arith)
                        | inr looped ↦
                            let one : inner ≡ d = one_item (slice_get s.open_ones x.0) inner d
                            (subst (λ n. slice_get s.open_ones n ≡ Some inner)
                            (let z : y.0 ≡ x.0 = omega arith in z) y.2) x.2 in
                            absurd (not (subst (λ z. IsLooped c.looped z) one
                            (closing.looped_more inner looped)))
                      ]
                ],
          )

  looped_now : (d : ℕ) → c.looped ≡ Some d → ContainsItself design d
  looped_now d e = elim (closing.looped_from d e) [
    | inl was ↦ h.looped_is d was
    | inr new ↦ apart new.1.0 new.1.1 new.1.2 new.0
  ]
    where
      joined_part : (i j a b : ℕ) → v.opened ≤ j → slice_get s.open_ones i ≡ Some a
          → slice_get s.open_ones j ≡ Some b → Reaches design a b
      joined_part i j a b le ai bj = h.joined i j a b ai bj (λ x p at less.
          let top : p ≤ v.opened = under_top design s.open_ones s.parts under v stacked_now x p at
          in omega arith)

      met_one : (i : ℕ) → slice_get s.open_ones i ≡ Some d
          → Reaches design design.top_inst.cell d
      met_one i at = let m : _ = h.marked.open_met i d (h.marked.open_is i d at) in
          h.marked.reached m.0 d m.1

      by : (i j : ℕ) → v.opened ≤ i → v.opened ≤ j → i ≢ j → j < length s.open_ones
          → slice_get s.open_ones i ≡ Some d → ContainsItself design d
      by i j le_i le_j n lt at = let b : _ = get_within s.open_ones j lt in
          loops_apart design d b.0 (met_one i at)
          (λ e. n (differ i j d at (b.1 ∙ ap Some (sym e))))
          (joined_part i j d b.0 le_j at b.1) (joined_part j i b.0 d le_i b.1 at)

      apart : (i : ℕ) → v.opened ≤ i → slice_get s.open_ones i ≡ Some d
          → v.opened + 1 < length s.open_ones → ContainsItself design d
      apart i le at more = elim (same_or_not i v.opened) [
        | inl e ↦ by i (v.opened + 1) le (omega arith) (λ f. omega (arith, e, f)) more at
        | inr n ↦ by i v.opened le (omega arith) n (omega arith) at
      ]

  pub left_closed : IsSearching design (with_closed (record s { visits = under }) c)
  left_closed = record {
    marked = marked_now;
    stacked = stacked_after;
    joined = λ i j a b ai bj not. let x : _ = down i a ai in let y : _ = down j b bj in
        h.joined i j a b x.1 y.1 (λ k p at le.
        not k p (part_up k p (let lt : i < v.opened = x.0 in omega arith) at) le);
    found = λ i d number place inner at is. let x : _ = down i d at in
        elim (h.found i d number place inner x.1 is) [
          | inl f ↦ elim f [
            | inl closed ↦ inl (inl (closed_up inner closed))
            | inr j ↦ elim (below_or_not j.0 v.opened) [
              | inl lt ↦ inl (inr (
                j.0,
                up j.0 inner lt j.1,
                elim j.2 [
                  | inl less ↦ inl less
                  | inr back ↦ inr (
                    closing.looped_more inner back.0,
                    λ a p ap_is le. back.1 a p (part_down a p ap_is).1 le,
                  )
                ],
              ))
              | inr le ↦ inl (inl (rest_up j.0 inner le j.1))
            ]
          ]
          | inr still ↦
              inr (still_under design s under v h visits none i number place still).1
        ];
    whole = whole_now;
    behind = behind_now;
    looped_is = looped_now;
    straight = λ e.
        let st : IsStraight design s =
        h.straight (none_before s.looped c.looped closing.looped_more e) in
        let top : _ = straight_top design s under v visits st in record {
          many = sym top.0 ∙ sym now_many;
          visit_is = λ m w at. st.visit_is m w (subst (λ l. slice_get l m ≡ Some w) (sym visits)
              (get_left under _ m w at));
          each = λ i lt.
              let m : length c.open_ones ≡ v.opened = now_many in
              let less : v.opened < length s.open_ones = inside in
              let p : _ = st.each i (omega arith) in
              (p.0, part_up p.0 i (omega arith) p.1);
          met_is = st.met_is;
        };
  }
