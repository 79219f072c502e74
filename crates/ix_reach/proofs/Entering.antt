-- A declaration that wasn't met is opened.
use Rattle.std.proofs.Common.{◌≡◌, ◌≢◌, ℕ, ◌+◌, ◌<◌, ◌≤◌, ◌⊎◌, inl, inr, List, [], ◌∷◌, ◌++◌}
use Rattle.std.proofs.Common.{length, slice_get, Option, Some, None, refl, sym, ap, ◌∙◌, subst}
use Rattle.std.proofs.Common.{arith}
use Rattle.std.specs.List.{slice_set}
use Rattle.std.proofs.lemmas.Option.{none-some, same_Some, slice_get_within}
use Rattle.ix_rec.specs.declared.netlist.Cell.{Cell}
use Rattle.ix_rec.specs.declared.netlist.NetlistRec.{NetlistRec}
use Rattle.ix_hierarchy.specs.Broken.{Reaches}
use Rattle.ix_reach.specs.declared.search.Mark.{Mark}
use Rattle.ix_reach.specs.declared.search.Mark.TheVariants.{New, Open, Closed}
use Rattle.ix_reach.specs.declared.search.Visit.{Visit}
use Rattle.ix_reach.specs.Cells.{IsCellAt, IsFirstFrom}
use Rattle.ix_reach.specs.State.{State, entered}
use Rattle.ix_reach.specs.Searching.{AreDifferent, AreMarked, AreStacked, IsSearching, IsAt}
use Rattle.ix_reach.specs.Searching.{IsIn, IsStraight, IsToCome, IsMet}
use Rattle.ix_reach.proofs.Places.{get_left, get_push, push_cases, length_push, set_cases}
use Rattle.ix_reach.proofs.Places.{get_set_same, get_set_other, length_set, below_or_not}
use Rattle.ix_reach.proofs.Places.{take_left, take_all}
use Rattle.ix_reach.proofs.Shapes.{under_top, visit_cases}
use Rattle.ix_reach.proofs.Ways.{in_of_at, goes_one, stays}

mark_apart : (marks : List Mark) (d w : ℕ) (m : Mark) → slice_get marks w ≡ Some New
    → slice_get marks d ≡ Some m → (Some m ≡ Some New → ⊥) → d ≢ w
mark_apart marks d w m new at apart same =
    apart (sym at ∙ ap (λ n. slice_get marks n) same ∙ new)

pub open_new : (i : ℕ) → Some (Open i) ≡ Some New → ⊥
open_new i e = cc

pub closed_new : Some Closed ≡ Some New → ⊥
closed_new e = cc

pub open_closed : (i : ℕ) → Some (Open i) ≡ Some Closed → ⊥
open_closed i e = cc

pub open_same : (i j : ℕ) → Some (Open i) ≡ Some (Open j) → i ≡ j
open_same i j e = cc

different_push : (xs : List ℕ) (w : ℕ) → AreDifferent xs → (IsIn xs w → ⊥)
    → AreDifferent (xs ++ w ∷ [])
different_push xs w h new i j x ix jx = elim (push_cases xs w i x ix) [
  | inl a ↦ elim (push_cases xs w j x jx) [
    | inl b ↦ h i j x a b
    | inr b ↦ absurd (new (i, a ∙ ap Some (sym b.1)))
  ]
  | inr a ↦ elim (push_cases xs w j x jx) [
    | inl b ↦ absurd (new (j, b ∙ ap Some (sym a.1)))
    | inr b ↦ a.0 ∙ sym b.0
  ]
]

remarked : (design : NetlistRec) (marks : List Mark) (open_ones met closed : List ℕ) (w : ℕ)
    → AreMarked design marks open_ones met closed → slice_get marks w ≡ Some New
    → Reaches design design.top_inst.cell w
    → AreMarked design (slice_set marks w (Open (length open_ones))) (open_ones ++ w ∷ [])
    (met ++ w ∷ []) closed
remarked design marks open_ones met closed w h new reached = record {
  many = length_set marks w (Open n) ∙ h.many;
  open_is = λ i d at. elim (push_cases open_ones w i d at) [
    | inl old ↦ get_set_other marks w d (Open n)
        (mark_apart marks d w (Open i) new (h.open_is i d old) (open_new i)) ∙ h.open_is i d old
    | inr here ↦ subst (λ x. slice_get (slice_set marks w (Open n)) x ≡ Some (Open i)) here.1
        (get_set_same marks w (Open n) within ∙ ap (λ k. Some (Open k)) (sym here.0))
  ];
  is_open = λ i d e. elim (set_cases marks w d (Open n) (Open i) e) [
    | inl here ↦ subst (λ x. slice_get (open_ones ++ w ∷ []) i ≡ Some x) (sym here.0)
        (get_push open_ones w i (sym (open_same n i (ap Some here.1))))
    | inr old ↦ get_left open_ones (w ∷ []) i d (h.is_open i d old.1)
  ];
  closed_is = λ i d at. get_set_other marks w d (Open n)
      (mark_apart marks d w Closed new (h.closed_is i d at) closed_new) ∙ h.closed_is i d at;
  is_closed = λ d e. elim (set_cases marks w d (Open n) Closed e) [
    | inl here ↦ absurd (open_closed n (ap Some here.1))
    | inr old ↦ h.is_closed d old.1
  ];
  met_not_new = λ i d at e. elim (set_cases marks w d (Open n) New e) [
    | inl here ↦ open_new n (ap Some here.1)
    | inr old ↦ elim (push_cases met w i d at) [
      | inl before ↦ h.met_not_new i d before old.1
      | inr here ↦ old.0 (sym here.1)
    ]
  ];
  open_met = λ i d e. elim (set_cases marks w d (Open n) (Open i) e) [
    | inl here ↦ subst (λ x. IsIn (met ++ w ∷ []) x) (sym here.0)
        (length met, get_push met w (length met) refl)
    | inr old ↦ let m : _ = h.open_met i d old.1 in
        (m.0, get_left met (w ∷ []) m.0 d m.1)
  ];
  closed_met = λ d e. elim (set_cases marks w d (Open n) Closed e) [
    | inl here ↦ absurd (open_closed n (ap Some here.1))
    | inr old ↦ let m : _ = h.closed_met d old.1 in
        (m.0, get_left met (w ∷ []) m.0 d m.1)
  ];
  reached = λ i d at. elim (push_cases met w i d at) [
    | inl old ↦ h.reached i d old
    | inr here ↦ subst (λ x. Reaches design design.top_inst.cell x) here.1 reached
  ];
  met_differ = different_push met w h.met_differ (λ m. h.met_not_new m.0 w m.1 new);
  closed_differ = h.closed_differ;
}
  where
    n : ℕ
    n = length open_ones

    within : w < length marks
    within = slice_get_within marks w New new

entering : (n : ℕ) → (o : Option ℕ) → Visit
entering n o = record { opened = n; cell = o; place = 0 }

visit_new : (design : NetlistRec) (w : ℕ) (o : Option ℕ) → IsFirstFrom design 0 w o
    → (number : ℕ) → o ≡ Some number → (cell : Cell)
    × (slice_get design.cell_list number ≡ Some cell) × (cell.index ≡ w)
visit_new design w None first number e = absurd (none-some number e)
visit_new design w (Some c) first number e =
    subst (λ k. IsCellAt design w k) (same_Some c number e) first.1

restacked : (design : NetlistRec) (open_ones parts : List ℕ) (visits : List Visit) (w : ℕ)
    (o : Option ℕ) → AreStacked design open_ones parts visits → IsFirstFrom design 0 w o
    → AreStacked design (open_ones ++ w ∷ []) (parts ++ length open_ones ∷ [])
    (visits ++ record { opened = length open_ones; cell = o; place = 0 } ∷ [])
restacked design open_ones parts visits w o h first = record {
  parts_rise = λ a b p q lt ap bq. elim (push_cases parts (length open_ones) a p ap) [
    | inl x ↦ elim (push_cases parts (length open_ones) b q bq) [
      | inl y ↦ h.parts_rise a b p q lt x y
      | inr y ↦ let less : p < length open_ones = h.parts_open a p x in
          let e : length open_ones ≡ q = y.1 in omega arith
    ]
    | inr x ↦ elim (push_cases parts (length open_ones) b q bq) [
      | inl y ↦ let less : b < length parts = slice_get_within parts b q y in
          let e : a ≡ length parts = x.0 in absurd (omega arith)
      | inr y ↦ let e : a ≡ length parts = x.0 in let f : b ≡ length parts = y.0 in
          absurd (omega arith)
    ]
  ];
  parts_open = λ a p at. elim (push_cases parts (length open_ones) a p at) [
    | inl old ↦ let less : p < length open_ones = h.parts_open a p old in
        let m : _ = many in omega (arith, m)
    | inr new ↦ let e : length open_ones ≡ p = new.1 in let m : _ = many in omega (arith, m)
  ];
  parts_first = λ some. elim (below_or_not 0 (length open_ones)) [
    | inl lt ↦ let p : _ = h.parts_first lt in
        (p.0, get_left parts (length open_ones ∷ []) p.0 0 p.1)
    | inr le ↦ (
      length parts,
      get_push parts (length open_ones) (length parts) refl
          ∙ ap Some (omega arith),
    )
  ];
  parts_visited = λ a p at. elim (push_cases parts (length open_ones) a p at) [
    | inl old ↦ let x : _ = h.parts_visited a p old in
        (x.0, x.1, get_left visits _ x.0 x.1 x.2, x.3)
    | inr new ↦ (
      length visits,
      record { opened = length open_ones; cell = o; place = 0 },
      get_push visits _ (length visits) refl,
      new.1,
    )
  ];
  visits_rise = λ a b x y lt ax bx. elim (push_cases visits _ a x ax) [
    | inl u ↦ elim (push_cases visits _ b y bx) [
      | inl v ↦ h.visits_rise a b x y lt u v
      | inr v ↦ let less : x.opened < length open_ones = h.visits_open a x u in
          let e : length open_ones ≡ y.opened = ap (λ (z : Visit). z.opened) v.1 in omega arith
    ]
    | inr u ↦ elim (push_cases visits _ b y bx) [
      | inl v ↦ let less : b < length visits = slice_get_within visits b y v in
          let e : a ≡ length visits = u.0 in absurd (omega arith)
      | inr v ↦ let e : a ≡ length visits = u.0 in let f : b ≡ length visits = v.0 in
          absurd (omega arith)
    ]
  ];
  visits_open = λ a x ax. elim (push_cases visits _ a x ax) [
    | inl u ↦ let less : x.opened < length open_ones = h.visits_open a x u in
        let m : _ = many in omega (arith, m)
    | inr u ↦ let e : length open_ones ≡ x.opened = ap (λ (z : Visit). z.opened) u.1 in
        let m : _ = many in omega (arith, m)
  ];
  visits_cell = λ a x number ax cell. elim (push_cases visits _ a x ax) [
    | inl u ↦ let v : _ = h.visits_cell a x number u cell in
        (v.0, v.1, get_left open_ones (w ∷ []) x.opened v.0.index v.2, v.3)
    | inr u ↦ let v : _ = visit_new design w o first number
        (ap (λ (z : Visit). z.cell) u.1 ∙ cell) in
        let e : length open_ones ≡ x.opened = ap (λ (z : Visit). z.opened) u.1 in
        let f : 0 ≡ x.place = ap (λ (z : Visit). z.place) u.1 in
        (v.0, v.1, get_push open_ones w x.opened (sym e) ∙ ap Some (sym v.2), omega arith)
  ];
}
  where
    many : length (open_ones ++ w ∷ []) ≡ length open_ones + 1
    many = length_push open_ones w

pub comes_from : (design : NetlistRec) (from w : ℕ) (o : Option ℕ) (number place inner : ℕ)
    → IsFirstFrom design from w o → from ≤ number → IsAt design w number place inner
    → IsToCome o 0 number place
comes_from design from w None number place inner first le at =
    absurd (first number le (at.cell, at.cell_is, at.of_outer))
comes_from design from w (Some c) number place inner first le at = elim (below_or_not c number) [
  | inl lt ↦ inl lt
  | inr more ↦ elim (below_or_not number c) [
    | inl lt ↦ absurd (first.2 number le lt (at.cell, at.cell_is, at.of_outer))
    | inr ge ↦ inr (omega arith, omega arith)
  ]
]

comes : (design : NetlistRec) (w : ℕ) (o : Option ℕ) (number place inner : ℕ)
    → IsFirstFrom design 0 w o → IsAt design w number place inner → IsToCome o 0 number place
comes design w o number place inner first at =
    comes_from design 0 w o number place inner first (omega arith) at

met_more : (design : NetlistRec) (met : List ℕ) (w n d : ℕ) → n < length met
    → IsMet design met n d → IsMet design (met ++ w ∷ []) n d
met_more design met w n d lt (inl top) = inl top
met_more design met w n d lt (inr h) = inr (record {
  m = h.m;
  before = h.before;
  outer = h.outer;
  outer_is = get_left met (w ∷ []) h.m h.outer h.outer_is;
  number = h.number;
  place = h.place;
  at = h.at;
  done = h.done;
  whole = h.whole;
  earlier = λ x is. subst (λ l. IsIn l x) (sym (take_left n met (w ∷ []) (omega arith)))
      (h.earlier x is);
  sides = h.sides;
})

pub entered_search : (design : NetlistRec) (s : State) (w : ℕ) (o : Option ℕ)
    → IsSearching design s → slice_get s.marks w ≡ Some New
    → Reaches design design.top_inst.cell w
    → ((i a : ℕ) → slice_get s.open_ones i ≡ Some a → Reaches design a w)
    → (s.looped ≡ None → IsMet design (s.met ++ w ∷ []) (length s.met) w)
    → IsFirstFrom design 0 w o → IsSearching design (entered s w o)
entered_search design s w o h new reached from_all met first = record {
  marked = remarked design s.marks s.open_ones s.met s.closed w h.marked new reached;
  stacked = restacked design s.open_ones s.parts s.visits w o h.stacked first;
  joined = λ i j a b ai bj not. elim (push_cases s.open_ones w i a ai) [
    | inl x ↦ elim (push_cases s.open_ones w j b bj) [
      | inl y ↦ h.joined i j a b x y (λ k p at le. not k p (get_left s.parts _ k p at) le)
      | inr y ↦ subst (λ z. Reaches design a z) y.1 (from_all i a x)
    ]
    | inr x ↦ elim (push_cases s.open_ones w j b bj) [
      | inl y ↦ let lt : j < length s.open_ones = slice_get_within s.open_ones j b y in
          let e : i ≡ length s.open_ones = x.0 in
          let le : length s.open_ones ≤ j = not (length s.parts) (length s.open_ones)
          (get_push s.parts (length s.open_ones) (length s.parts) refl) (omega arith) in
          absurd (omega arith)
      | inr y ↦ subst (λ z. Reaches design a z) (sym x.1 ∙ y.1) (stays design a)
    ]
  ];
  found = λ i d number place inner at is. elim (push_cases s.open_ones w i d at) [
    | inl old ↦ elim (h.found i d number place inner old is) [
      | inl f ↦ elim f [
        | inl closed ↦ inl (inl closed)
        | inr j ↦ inl (inr (
          j.0,
          get_left s.open_ones (w ∷ []) j.0 inner j.1,
          elim j.2 [
            | inl lt ↦ inl lt
            | inr back ↦ inr (
              back.0,
              λ a p ap less.
                  elim (push_cases s.parts (length s.open_ones) a p ap) [
                    | inl x ↦ back.1 a p x less
                    | inr x ↦
                        let lt : i < length s.open_ones = slice_get_within s.open_ones i d old in
                        let e : length s.open_ones ≡ p = x.1 in absurd (omega arith)
                  ],
            )
          ],
        ))
      ]
      | inr still ↦ inr (
        still.0,
        still.1,
        get_left s.visits _ still.0 still.1 still.2,
        still.3,
        still.4,
      )
    ]
    | inr here ↦ inr (
      length s.visits,
      record { opened = length s.open_ones; cell = o; place = 0 },
      get_push s.visits _ (length s.visits) refl,
      sym here.0,
      comes design w o number place inner first
          (subst (λ z. IsAt design z number place inner) (sym here.1) is),
    )
  ];
  whole = h.whole;
  behind = h.behind;
  looped_is = h.looped_is;
  straight = λ none. let st : IsStraight design s = h.straight none in
      let many : length s.visits ≡ length s.open_ones = st.many in record {
        many = length_push s.visits _ ∙ ap (λ k. k + 1) st.many
            ∙ sym (length_push s.open_ones w);
        visit_is = λ m v at. elim (push_cases s.visits _ m v at) [
          | inl old ↦ st.visit_is m v old
          | inr here ↦ sym (ap (λ (z : Visit). z.opened) here.1) ∙ sym many ∙ sym here.0
        ];
        each = λ i lt. elim (below_or_not i (length s.open_ones)) [
          | inl less ↦ let p : _ = st.each i less in (p.0, get_left s.parts _ p.0 i p.1)
          | inr le ↦ let all : _ = length_push s.open_ones w in
              let e : length s.open_ones ≡ i = omega (arith, all, lt, le) in (
                length s.parts,
                get_push s.parts (length s.open_ones) (length s.parts) refl ∙ ap Some e,
              )
        ];
        met_is = λ k d at. elim (push_cases s.met w k d at) [
          | inl old ↦ met_more design s.met w k d (slice_get_within s.met k d old)
              (st.met_is k d old)
          | inr here ↦ subst (λ z. IsMet design (s.met ++ w ∷ []) k z) here.1
              (subst (λ z. IsMet design (s.met ++ w ∷ []) z w) (sym here.0) (met none))
        ];
      };
}

-- where what is opened stands in the open one that was visited last
met_here : (design : NetlistRec) (s : State) (under : List Visit) (v : Visit)
    (outer number position inner : ℕ) → IsSearching design s → s.visits ≡ under ++ v ∷ []
    → slice_get s.open_ones v.opened ≡ Some outer → v.cell ≡ Some number → v.place ≡ position
    → IsAt design outer number position inner → s.looped ≡ None
    → IsMet design (s.met ++ inner ∷ []) (length s.met) inner
met_here design s under v outer number position inner h visits here cell place at none = inr
    (record {
      m = m.0;
      before = slice_get_within s.met m.0 outer m.1;
      outer = outer;
      outer_is = get_left s.met (inner ∷ []) m.0 outer m.1;
      number = number;
      place = position;
      at = at;
      done = s.closed;
      whole = h.whole;
      earlier = λ x is. let k : _ = h.marked.closed_met x (h.marked.closed_is is.0 x is.1) in
          subst (λ l. IsIn l x) (sym (take_left (length s.met) s.met (inner ∷ []) (omega arith)
          ∙ take_all (length s.met) s.met (omega arith))) k;
      sides = λ k q x has before. elim (h.found v.opened outer k q x here has) [
        | inl f ↦ elim f [
          | inl closed ↦ closed
          | inr j ↦ elim j.2 [
            | inl lt ↦
                let less : j.0 < length s.open_ones = slice_get_within s.open_ones j.0 x j.1 in
                let all : length s.visits ≡ length s.open_ones = st.many in
                let top : v.opened ≡ length under = st.visit_is (length under) v
                (subst (λ l. slice_get l (length under) ≡ Some v) (sym visits)
                (get_push under v (length under) refl)) in
                let many : length s.visits ≡ length under + 1 = ap length visits
                ∙ length_push under v in
                absurd (omega arith)
            | inr back ↦ absurd (none-some back.0.0 (sym none ∙ back.0.1))
          ]
        ]
        | inr still ↦ elim (visit_cases design s.open_ones s.parts under v stacked still.0 still.1
            (subst (λ l. slice_get l still.0 ≡ Some still.1) visits still.2)) [
              | inl old ↦ let lt : still.1.opened < v.opened = old.1 in
                  let e : still.1.opened ≡ v.opened = still.3 in absurd (omega arith)
              | inr same ↦ absurd (passed k q before
                  (subst (λ (y : Visit). IsToCome y.cell y.place k q) (sym same.1) still.4))
            ]
      ];
    })
  where
    m : IsIn s.met outer
    m = h.marked.open_met v.opened outer (h.marked.open_is v.opened outer here)

    st : IsStraight design s
    st = h.straight none

    stacked : AreStacked design s.open_ones s.parts (under ++ v ∷ [])
    stacked = subst (λ l. AreStacked design s.open_ones s.parts l) visits h.stacked

    passed : (k q : ℕ) → (k < number) ⊎ ((k ≡ number) × (q < position))
        → IsToCome v.cell v.place k q → ⊥
    passed k q before comes_still = by (subst (λ o. IsToCome o v.place k q) cell comes_still)
      where
        by : IsToCome (Some number) v.place k q → ⊥
        by (inl lt) = elim before [
          | inl less ↦ omega arith
          | inr same ↦ let e : k ≡ number = same.0 in omega arith
        ]
        by (inr on) = let e : number ≡ k = on.0 in let le : v.place ≤ q = on.1 in
            let p : v.place ≡ position = place in elim before [
              | inl less ↦ omega arith
              | inr same ↦ let less : q < position = same.1 in omega arith
            ]

-- from the open one that was visited last
pub entered_from : (design : NetlistRec) (s : State) (under : List Visit) (v : Visit)
    (outer number position inner : ℕ) (o : Option ℕ) → IsSearching design s
    → s.visits ≡ under ++ v ∷ [] → slice_get s.open_ones v.opened ≡ Some outer
    → v.cell ≡ Some number → v.place ≡ position → IsAt design outer number position inner
    → slice_get s.marks inner ≡ Some New → IsFirstFrom design 0 inner o
    → IsSearching design (entered s inner o)
entered_from design s under v outer number position inner o h visits here cell place at new first =
    entered_search design s inner o h new
    (goes_one design design.top_inst.cell outer inner
    (let m : IsIn s.met outer = h.marked.open_met v.opened outer (h.marked.open_is v.opened outer
    here) in
    h.marked.reached m.0 outer m.1) (in_of_at design outer number position inner at))
    (λ i a is. goes_one design a outer inner (h.joined i v.opened a outer is here
    (λ x p xp le. under_top design s.open_ones s.parts under v
    (subst (λ l. AreStacked design s.open_ones s.parts l) visits h.stacked) x p xp))
    (in_of_at design outer number position inner at))
    (met_here design s under v outer number position inner h visits here cell place at) first
