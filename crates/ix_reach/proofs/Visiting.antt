-- A visit goes on in its declaration.
use Rattle.std.proofs.Common.{◌≡◌, ℕ, ◌<◌, ◌≤◌, ◌⊎◌, inl, inr, List}
use Rattle.std.proofs.Common.{length, slice_get, Some, refl, sym, ap, ◌∙◌, subst, arith}
use Rattle.std.specs.List.{slice_set}
use Rattle.std.proofs.lemmas.Option.{slice_get_within}
use Rattle.ix_rec.specs.declared.netlist.Cell.{Cell}
use Rattle.ix_rec.specs.declared.netlist.NetlistRec.{NetlistRec}
use Rattle.ix_reach.specs.declared.search.Visit.{Visit}
use Rattle.ix_reach.specs.State.{State}
use Rattle.ix_reach.specs.Searching.{AreStacked, IsStraight, IsSearching, IsAt, IsToCome, IsFound}
use Rattle.ix_reach.proofs.Places.{set_cases, get_set_same, get_set_other, length_set, same_or_not}
use Rattle.ix_reach.proofs.Places.{one_item}

old_at : (visits : List Visit) (m : ℕ) (v w : Visit) → slice_get visits m ≡ Some v
    → w.opened ≡ v.opened → (a : ℕ) (x : Visit) → slice_get (slice_set visits m w) a ≡ Some x
    → (u : Visit) × (slice_get visits a ≡ Some u) × (u.opened ≡ x.opened)
old_at visits m v w at same a x is = elim (set_cases visits m a w x is) [
  | inl new ↦ (
    v,
    subst (λ n. slice_get visits n ≡ Some v) (sym new.0) at,
    sym same ∙ ap (λ (y : Visit). y.opened) new.1,
  )
  | inr old ↦ (x, old.1, refl)
]

-- where a visit may stand
abbrev pub IsVisitAt : NetlistRec → List ℕ → Visit → Type 0
IsVisitAt design open_ones v = (number : ℕ) → v.cell ≡ Some number → (cell : Cell)
    × (slice_get design.cell_list number ≡ Some cell)
    × (slice_get open_ones v.opened ≡ Some cell.index) × (v.place ≤ length cell.insts)

restacked : (design : NetlistRec) (open_ones parts : List ℕ) (visits : List Visit) (m : ℕ)
    (v w : Visit) → AreStacked design open_ones parts visits → slice_get visits m ≡ Some v
    → w.opened ≡ v.opened → IsVisitAt design open_ones w
    → AreStacked design open_ones parts (slice_set visits m w)
restacked design open_ones parts visits m v w h at same valid = record {
  parts_rise = h.parts_rise;
  parts_open = h.parts_open;
  parts_first = h.parts_first;
  parts_visited = λ a p is. let x : _ = h.parts_visited a p is in elim (same_or_not x.0 m) [
    | inl e ↦ (
      m,
      w,
      get_set_same visits m w (slice_get_within visits m v at),
      same ∙ ap (λ (y : Visit). y.opened) (one_item (slice_get visits m) v x.1 at
          (subst (λ n. slice_get visits n ≡ Some x.1) e x.2)) ∙ x.3,
    )
    | inr n ↦ (x.0, x.1, get_set_other visits m x.0 w n ∙ x.2, x.3)
  ];
  visits_rise = λ a b x y lt ax bx.
      let u : _ = old_at visits m v w at same a x ax in
      let z : _ = old_at visits m v w at same b y bx in
      let less : u.0.opened < z.0.opened = h.visits_rise a b u.0 z.0 lt u.1 z.1 in
      let e : u.0.opened ≡ x.opened = u.2 in let f : z.0.opened ≡ y.opened = z.2 in omega arith;
  visits_open = λ a x ax. let u : _ = old_at visits m v w at same a x ax in
      let less : u.0.opened < length open_ones = h.visits_open a u.0 u.1 in
      let e : u.0.opened ≡ x.opened = u.2 in omega arith;
  visits_cell = λ a x number ax cell. elim (set_cases visits m a w x ax) [
    | inl new ↦ subst (λ y. IsVisitAt design open_ones y) new.1 valid number cell
    | inr old ↦ h.visits_cell a x number old.1 cell
  ];
}

pub revisited : (design : NetlistRec) (s : State) (m : ℕ) (v w : Visit) → IsSearching design s
    → slice_get s.visits m ≡ Some v → w.opened ≡ v.opened → IsVisitAt design s.open_ones w
    → ((d number place inner : ℕ) → slice_get s.open_ones v.opened ≡ Some d
    → IsAt design d number place inner → IsToCome v.cell v.place number place
    → IsToCome w.cell w.place number place ⊎ IsFound s v.opened inner)
    → IsSearching design (record s { visits = slice_set s.visits m w })
revisited design s m v w h at same valid goes = record {
  marked = h.marked;
  stacked = restacked design s.open_ones s.parts s.visits m v w h.stacked at same valid;
  joined = h.joined;
  found = λ i d number place inner here is. elim (h.found i d number place inner here is) [
    | inl f ↦ inl f
    | inr still ↦ elim (same_or_not still.0 m) [
      | inl e ↦
          let one : v ≡ still.1 = one_item (slice_get s.visits m) v still.1 at
          (subst (λ n. slice_get s.visits n ≡ Some still.1) e still.2) in
          let opened : v.opened ≡ i = ap (λ (y : Visit). y.opened) one ∙ still.3 in
          elim (goes d number place inner
          (subst (λ n. slice_get s.open_ones n ≡ Some d) (sym opened) here) is
          (subst (λ (y : Visit). IsToCome y.cell y.place number place) (sym one) still.4)) [
            | inl comes ↦ inr (
              m,
              w,
              get_set_same s.visits m w (slice_get_within s.visits m v at),
              same ∙ opened,
              comes,
            )
            | inr f ↦ inl (subst (λ n. IsFound s n inner) opened f)
          ]
      | inr n ↦ inr (
        still.0,
        still.1,
        get_set_other s.visits m still.0 w n ∙ still.2,
        still.3,
        still.4,
      )
    ]
  ];
  whole = h.whole;
  behind = h.behind;
  looped_is = h.looped_is;
  straight = λ e. let st : IsStraight design s = h.straight e in record {
    many = length_set s.visits m w ∙ st.many;
    visit_is = λ a x ax. let u : _ = old_at s.visits m v w at same a x ax in
        sym u.2 ∙ st.visit_is a u.0 u.1;
    each = st.each;
    met_is = st.met_is;
  };
}
