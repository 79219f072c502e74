-- What the search knows at its end.
use Rattle.std.proofs.Common.{◌≡◌, ◌≢◌, ℕ, ◌+◌, ◌-◌, ◌<◌, ◌≤◌, ◌⊎◌, inl, inr, List, [], ◌∷◌, ◌++◌}
use Rattle.std.proofs.Common.{length, take, drop, slice_get, slice_index_or, Option, Some, None}
use Rattle.std.proofs.Common.{refl}
use Rattle.std.proofs.Common.{sym, ap, ◌∙◌, subst, arith}
use Rattle.std.specs.List.{Contains}
use Rattle.std.proofs.lemmas.Option.{none-some, same_Some, slice_get_within, slice_get-get_or}
use Rattle.std.proofs.lemmas.Option.{get_or_from_slice_get}
use Rattle.ix_rec.specs.declared.netlist.NetlistRec.{NetlistRec}
use Rattle.ix_hierarchy.specs.Broken.{ContainsItself, Reaches}
use Rattle.ix_hierarchy.specs.Broken.{BreaksN1, None1}
use Rattle.ix_hierarchy.specs.Lists.{AreClosed}
use Rattle.ix_reach.specs.declared.search.Mark.{Mark}
use Rattle.ix_reach.specs.declared.search.Mark.TheVariants.{New, Open, Closed}
use Rattle.ix_reach.specs.Cells.{IsLeastWithTwo}
use Rattle.ix_reach.specs.State.{State, IsLooped, first_of_two, lesser_of}
use Rattle.ix_reach.specs.Searching.{IsIn, IsSearched}
use Rattle.ix_reach.proofs.Places.{get_within, one_item, taken_get, below_or_not}
use Rattle.ix_reach.proofs.Ways.{at_of_in, whole_reached}

pub listed : (xs : List ℕ) (x : ℕ) → IsIn xs x → Contains xs x
listed xs x is = (is.0, slice_get_within xs is.0 x is.1, get_or_from_slice_get xs is.0 x x is.1)

pub placed : (xs : List ℕ) (x : ℕ) → Contains xs x → IsIn xs x
placed xs x h = (h.0, slice_get-get_or xs h.0 x h.1 ∙ ap Some h.2)

module _ (design : NetlistRec) (s : State) (h : IsSearched design s) where
  no_open : (i d : ℕ) → slice_get s.open_ones i ≡ Some d → ⊥
  no_open i d at =
      let lt : i < length s.open_ones = slice_get_within s.open_ones i d at in
      let part : IsIn s.parts 0 = h.search.is.stacked.parts_first (omega arith) in
      let x : _ = h.search.is.stacked.parts_visited part.0 0 part.1 in
      none-some x.1 (subst (λ l. slice_get l x.0 ≡ Some x.1) h.visits x.2)

  pub met_closed : (d : ℕ) → IsIn s.met d → d < length design.cell_decls → IsIn s.closed d
  met_closed d met lt = by mark.0 mark.1
    where
      many : length s.marks ≡ length design.cell_decls
      many = h.search.is.marked.many

      mark : (m : Mark) × (slice_get s.marks d ≡ Some m)
      mark = get_within s.marks d (omega arith)

      by : (m : Mark) → slice_get s.marks d ≡ Some m → IsIn s.closed d
      by New at = absurd (h.search.is.marked.met_not_new met.0 d met.1 at)
      by (Open i) at = absurd (no_open i d (h.search.is.marked.is_open i d at))
      by Closed at = h.search.is.marked.is_closed d at

  pub reached_closed : design.top_inst.cell < length design.cell_decls → (d : ℕ)
      → Reaches design design.top_inst.cell d → IsIn s.closed d
  reached_closed top d reached = whole_reached design s.closed design.top_inst.cell d
      h.search.is.whole (met_closed design.top_inst.cell h.search.top_met top) reached

  pub closed_met : (d : ℕ) → IsIn s.closed d → IsIn s.met d
  closed_met d is = h.search.is.marked.closed_met d (h.search.is.marked.closed_is is.0 d is.1)

  pub met_reached : (d : ℕ) → IsIn s.met d → Reaches design design.top_inst.cell d
  met_reached d is = h.search.is.marked.reached is.0 d is.1

  -- what contains itself is not before the least that was found
  pub looped_all : design.top_inst.cell < length design.cell_decls → (d : ℕ)
      → ContainsItself design d → IsLooped s.looped d
  looped_all top d loop =
      let is : IsIn s.closed d = reached_closed top d loop.reached in
      elim (h.search.is.behind is.0 d is.1) [
        | inl l ↦ l
        | inr rest ↦
            let at : _ = at_of_in design d loop.next loop.goes_in in
            let next : IsIn (take is.0 s.closed) loop.next = rest.1 at.0 at.1 loop.next at.2 in
            let back : IsIn (take is.0 s.closed) d =
            whole_reached design (take is.0 s.closed) loop.next d rest.0 next loop.comes_back in
            let x : _ = taken_get is.0 s.closed back.0 d back.1 in
            let lt : back.0 < is.0 = x.0 in
            let same : back.0 ≡ is.0 = h.search.is.marked.closed_differ back.0 is.0 d x.1 is.1 in
            absurd (omega arith)
      ]

  pub are_closed : design.top_inst.cell < length design.cell_decls → s.looped ≡ None
      → AreClosed design s.closed
  are_closed top none = record {
    reached = λ d. (
      λ has. met_reached d (closed_met d (placed s.closed d has)),
      λ reached. listed s.closed d (reached_closed top d reached),
    );
    differ = h.search.is.marked.closed_differ;
    behind = λ i outer inner at is. elim (h.search.is.behind i outer at) [
      | inl l ↦ absurd (none-some l.0 (sym none ∙ l.1))
      | inr rest ↦ let x : _ = at_of_in design outer inner is in
          listed (take i s.closed) inner (rest.1 x.0 x.1 inner x.2)
    ];
  }

  pub none_breaks : design.top_inst.cell < length design.cell_decls → (two : Option ℕ)
      → IsLeastWithTwo design two → first_of_two s.looped two ≡ None → None1 design
  none_breaks top None least none d (inl loop) =
      let l : IsLooped s.looped d = looped_all top d loop in none-some l.0 (sym none ∙ l.1)
  none_breaks top None least none d (inr two) = least d two
  none_breaks top (Some n) least none d breaks =
      none-some (lesser_of s.looped n) (sym none)

  -- the least of both breaks the rule, and none before it
  pub first_breaks : design.top_inst.cell < length design.cell_decls → (two : Option ℕ)
      → IsLeastWithTwo design two → (first : ℕ) → first_of_two s.looped two ≡ Some first
      → BreaksN1 design first
      × ((other : ℕ) → other < first → ¬ BreaksN1 design other)
  first_breaks top None least first is = (
    inl (h.search.is.looped_is first is),
    λ other lt breaks. elim breaks [
      | inl loop ↦ let l : IsLooped s.looped other = looped_all top other loop in
          let same : first ≡ l.0 = one_item s.looped first l.0 is l.1 in
          let le : l.0 ≤ other = l.2 in omega arith
      | inr two ↦ least other two
    ],
  )
  first_breaks top (Some n) least first is = by s.looped refl is
    where
      by : (o : Option ℕ) → s.looped ≡ o → Some (lesser_of o n) ≡ Some first
          → BreaksN1 design first
          × ((other : ℕ) → other < first → ¬ BreaksN1 design other)
      by None none e =
          let same : n ≡ first = same_Some n first e in (
            subst (λ x. BreaksN1 design x) same (inr least.0),
            λ other lt breaks. elim breaks [
              | inl loop ↦ let l : IsLooped s.looped other = looped_all top other loop in
                  none-some l.0 (sym none ∙ l.1)
              | inr two ↦ least.1 other (omega arith) two
            ],
          )
      by (Some l) some e =
          let same : Rattle.std.proofs.Common.min l n ≡ first = same_Some _ first e in (
            elim (below_or_not n l) [
              | inl lt ↦ subst (λ x. BreaksN1 design x) (omega (arith, same, lt)) (inr least.0)
              | inr le ↦ subst (λ x. BreaksN1 design x) (omega (arith, same, le))
                  (inl (h.search.is.looped_is l some))
            ],
            λ other lt breaks. elim breaks [
              | inl loop ↦ let x : IsLooped s.looped other = looped_all top other loop in
                  let one : l ≡ x.0 = one_item s.looped l x.0 some x.1 in
                  let le : x.0 ≤ other = x.2 in omega (arith, same)
              | inr two ↦ least.1 other (omega (arith, same)) two
            ],
          )
