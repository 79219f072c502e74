-- A declaration that is open is found again: the parts from its own on become one.
use Rattle.std.proofs.Common.{◌≡◌, ℕ, ◌-◌, ◌<◌, ◌≤◌, inl, inr, List, [], ◌∷◌, ◌++◌}
use Rattle.std.proofs.Common.{length, slice_get, Some, sym, subst, arith}
use Rattle.std.proofs.lemmas.Option.{none-some, slice_get_within}
use Rattle.ix_rec.specs.declared.netlist.NetlistRec.{NetlistRec}
use Rattle.ix_hierarchy.specs.Broken.{Reaches}
use Rattle.ix_reach.specs.declared.search.Mark.TheVariants.{Open}
use Rattle.ix_reach.specs.declared.search.Visit.{Visit}
use Rattle.ix_reach.specs.State.{State, IsKept, lesser_of}
use Rattle.ix_reach.specs.Searching.{AreStacked, IsSearching, IsAt, IsFound}
use Rattle.ix_reach.proofs.Places.{get_left, append_cases, below_or_not, same_or_not, get_within}
use Rattle.ix_reach.proofs.Closing.{looped_still, looped_here, looped_was}
use Rattle.ix_reach.proofs.Shapes.{under_top}
use Rattle.ix_reach.proofs.Ways.{in_of_at, goes_on, goes_one, loops_by}

kept_up : (all : List ℕ) (place : ℕ) (kept : List ℕ) → IsKept all place kept → (a p : ℕ)
    → slice_get kept a ≡ Some p → slice_get all a ≡ Some p
kept_up all place kept h a p at = subst (λ l. slice_get l a ≡ Some p) (sym h.are.is)
    (get_left kept h.are.rest a p at)

kept_down : (all : List ℕ) (place : ℕ) (kept : List ℕ) → IsKept all place kept → (a p : ℕ)
    → slice_get all a ≡ Some p → p ≤ place → slice_get kept a ≡ Some p
kept_down all place kept h a p at le = elim (append_cases kept h.are.rest a p
    (subst (λ l. slice_get l a ≡ Some p) h.are.is at)) [
      | inl left ↦ left
      | inr right ↦ let lt : place < p = h.are.gone right.0 p right.2 in absurd (omega arith)
    ]

kept_le : (design : NetlistRec) (open_ones all : List ℕ) (visits : List Visit) (place : ℕ)
    (kept : List ℕ) → AreStacked design open_ones all visits → IsKept all place kept → (a p : ℕ)
    → slice_get kept a ≡ Some p → p ≤ place
kept_le design open_ones all visits place kept st h a p at =
    let lt : a < length kept = slice_get_within kept a p at in
    elim (same_or_not a (length kept - 1)) [
      | inl e ↦ h.last p (subst (λ n. slice_get kept n ≡ Some p) e at)
      | inr n ↦
          let last : _ = get_within kept (length kept - 1) (omega arith) in
          let le : last.0 ≤ place = h.last last.0 last.1 in
          let less : p < last.0 = st.parts_rise a (length kept - 1) p last.0 (omega arith)
          (kept_up all place kept h a p at)
          (kept_up all place kept h (length kept - 1) last.0 last.1) in
          omega arith
    ]

pub merged : (design : NetlistRec) (s : State) (under : List Visit) (v : Visit)
    (outer number position inner place : ℕ) (parts : List ℕ) → IsSearching design s
    → s.visits ≡ under ++ v ∷ [] → slice_get s.open_ones v.opened ≡ Some outer
    → IsAt design outer number position inner → slice_get s.marks inner ≡ Some (Open place)
    → IsKept s.parts place parts
    → IsSearching design
    (record s { parts = parts; looped = Some (lesser_of s.looped inner) })
merged design s under v outer number position inner place parts h visits here at mark
    kept = record {
      marked = h.marked;
      stacked = record {
        parts_rise = λ a b p q lt ap bq. st.parts_rise a b p q lt (up a p ap) (up b q bq);
        parts_open = λ a p ap. st.parts_open a p (up a p ap);
        parts_first = λ some. let first : _ = st.parts_first some in
            (first.0, kept_down s.parts place parts kept first.0 0 first.1 (omega arith));
        parts_visited = λ a p ap. st.parts_visited a p (up a p ap);
        visits_rise = st.visits_rise;
        visits_open = st.visits_open;
        visits_cell = st.visits_cell;
      };
      joined = λ i j a b ai bj not. elim (below_or_not place i) [
        | inr le ↦ h.joined i j a b ai bj (λ x p is less.
            not x p (kept_down s.parts place parts kept x p is (omega arith)) less)
        | inl lt ↦ goes_on design a inner b
            (goes_one design a outer inner (h.joined i v.opened a outer ai here
            (λ x p is less. top x p is)) (in_of_at design outer number position inner at))
            (h.joined place j inner b found bj (λ x p is less.
            not x p (kept_down s.parts place parts kept x p is less) (omega arith)))
      ];
      found = λ i d n q x is has. elim (h.found i d n q x is has) [
        | inl f ↦ elim f [
          | inl closed ↦ inl (inl closed)
          | inr open_one ↦ inl (inr (
            open_one.0,
            open_one.1,
            elim open_one.2 [
              | inl lt ↦ inl lt
              | inr back ↦ inr (
                looped_still s.looped inner x back.0,
                λ a p ap less. back.1 a p (up a p ap) less,
              )
            ],
          ))
        ]
        | inr still ↦ inr still
      ];
      whole = h.whole;
      behind = λ i d is. elim (h.behind i d is) [
        | inl l ↦ inl (looped_still s.looped inner d l)
        | inr rest ↦ inr rest
      ];
      looped_is = λ d e. elim (looped_was s.looped inner d e) [
        | inl was ↦ h.looped_is d was
        | inr same ↦ subst (λ x. Rattle.ix_hierarchy.specs.Broken.ContainsItself design x) same
            (loops_by design inner outer reached
            (h.joined place v.opened inner outer found here (λ x p is less. top x p is))
            (in_of_at design outer number position inner at))
      ];
      straight = λ e. absurd (none-some (lesser_of s.looped inner) (sym e));
    }
  where
    st : AreStacked design s.open_ones s.parts s.visits
    st = h.stacked

    up : (a p : ℕ) → slice_get parts a ≡ Some p → slice_get s.parts a ≡ Some p
    up a p is = kept_up s.parts place parts kept a p is

    top : (a p : ℕ) → slice_get s.parts a ≡ Some p → p ≤ v.opened
    top a p is = under_top design s.open_ones s.parts under v
        (subst (λ l. AreStacked design s.open_ones s.parts l) visits h.stacked) a p is

    found : slice_get s.open_ones place ≡ Some inner
    found = h.marked.is_open place inner mark

    reached : Reaches design design.top_inst.cell inner
    reached = let m : _ = h.marked.open_met place inner mark in h.marked.reached m.0 inner m.1

-- the one that was found is then in no earlier part
pub merged_found : (design : NetlistRec) (s : State) (v : Visit) (inner place : ℕ)
    (parts : List ℕ) → IsSearching design s → slice_get s.marks inner ≡ Some (Open place)
    → IsKept s.parts place parts
    → IsFound (record s { parts = parts; looped = Some (lesser_of s.looped inner) }) v.opened inner
merged_found design s v inner place parts h mark kept =
    inr (
      place,
      h.marked.is_open place inner mark,
      inr (
        looped_here s.looped inner,
        λ a p is less. kept_le design s.open_ones s.parts s.visits place parts h.stacked kept a p
            is,
      ),
    )
