-- One step of the search.
use Rattle.std.proofs.Common.{◌≡◌, ◌≢◌, ℕ, ◌+◌, ◌<◌, ◌≤◌, ◌⊎◌, inl, inr, List, []}
use Rattle.std.proofs.Common.{◌∷◌, ◌++◌, length, slice_get, Option, Some, None, refl, sym, ap}
use Rattle.std.proofs.Common.{◌∙◌, subst, arith, count_by, option_map, option_and_then}
use Rattle.std.proofs.Common.{Result, Ok, Err}
use Rattle.std.specs.List.{slice_set}
use Rattle.std.specs.Result.{OnOk}
use Rattle.std.proofs.lemmas.Option.{none-some, same_Some, slice_get_within}
use Rattle.ix_rec.specs.declared.netlist.Cell.{Cell}
use Rattle.ix_rec.specs.declared.netlist.CellInstance.{CellInstance}
use Rattle.ix_rec.specs.declared.netlist.NetlistRec.{NetlistRec}
use Rattle.ix_reach.specs.declared.search.Mark.{Mark}
use Rattle.ix_reach.specs.declared.search.Mark.TheVariants.{New, Open, Closed}
use Rattle.ix_reach.specs.declared.search.Visit.{Visit}
use Rattle.ix_hierarchy.specs.Hierarchy.{child_of}
use Rattle.ix_reach.specs.Cells.{AreCells, DesignFits, IsCellAt, IsFirstFrom}
use Rattle.ix_reach.specs.State.{State, IsGone, IsLeft, entered, with_visit}
use Rattle.ix_reach.specs.State.{lesser_of}
use Rattle.ix_reach.specs.Searching.{AreDifferent, IsAt, IsFound, IsSearch, IsSearching, IsToCome}
use Rattle.ix_reach.specs.Searching.{is_new}
use Rattle.ix_reach.specs.Searching.{work_at, work_behind, work_of}
use Rattle.ix_reach.proofs.Places.{get_left, get_push, get_within, one_item, below_or_not}
use Rattle.ix_reach.proofs.Visiting.{IsVisitAt, revisited}
use Rattle.ix_reach.proofs.Merging.{merged, merged_found}
use Rattle.ix_reach.proofs.Entering.{entered_from, comes_from, open_same}
use Rattle.ix_reach.proofs.Leaving.{left_open, left_closed, new_before}
use Rattle.ix_reach.proofs.Working.{count_le, count_set, work_drop, work_first, less_last}
use Rattle.ix_reach.proofs.Working.{less_popped, less_entered, product_le}

set_last : {X : Type 0} (xs : List X) (x y : X)
    → slice_set (xs ++ x ∷ []) (length xs) y ≡ xs ++ y ∷ []
set_last [] x y = refl
set_last (z ∷ xs) x y = ap (λ l. z ∷ l) (set_last xs x y)

set_under : {X : Type 0} (xs ys : List X) (x y : X)
    → slice_set ((xs ++ x ∷ []) ++ ys) (length xs) y ≡ (xs ++ y ∷ []) ++ ys
set_under [] ys x y = refl
set_under (z ∷ xs) ys x y = ap (λ l. z ∷ l) (set_under xs ys x y)

pub step_left : (design : NetlistRec) (s after : State) (v : Visit)
    → IsSearch design (with_visit s v) → v.cell ≡ None → IsLeft s v.opened after
    → IsSearch design after × (work_of design after < work_of design (with_visit s v))
step_left design s after v h none (inl left) =
    subst (λ t. IsSearch design t × (work_of design t < work_of design (with_visit s v)))
    (sym left.1) (
      record {
        is = left_open design (with_visit s v) s.visits v h.is refl none left.0;
        top_met = h.top_met;
      },
      less_popped design s.visits v _ _ (some v none) (omega arith),
    )
  where
    some : (w : Visit) → w.cell ≡ None → 0 < work_at design w.cell w.place
    some w e = subst (λ o. 0 < work_at design o w.place) (sym e) (omega arith)
step_left design s after v h none (inr left) =
    subst (λ t. IsSearch design t × (work_of design t < work_of design (with_visit s v)))
    (sym left.1.2) (
      record {
        is = left_closed design (with_visit s v) s.visits v left.1.0 h.is refl none left.0 left.1.1;
        top_met = h.top_met;
      },
      less_popped design s.visits v _ _ (some v none)
          (product_le (count_by is_new left.1.0.marks) (count_by is_new s.marks)
          (work_behind design.cell_list + 2)
          (count_le left.1.0.marks s.marks left.1.1.marks_many
          (new_before design (with_visit s v) s.visits v left.1.0 h.is refl none left.0 left.1.1))),
    )
  where
    some : (w : Visit) → w.cell ≡ None → 0 < work_at design w.cell w.place
    some w e = subst (λ o. 0 < work_at design o w.place) (sym e) (omega arith)

-- the cell of a visit
cell_here : (design : NetlistRec) (s : State) (m : ℕ) (v : Visit) (number : ℕ) (cell : Cell)
    → IsSearching design s → slice_get s.visits m ≡ Some v → v.cell ≡ Some number
    → slice_get design.cell_list number ≡ Some cell
    → (slice_get s.open_ones v.opened ≡ Some cell.index) × (v.place ≤ length cell.insts)
cell_here design s m v number cell h at is cell_is =
    let x : _ = h.stacked.visits_cell m v number at is in
    let same : x.0 ≡ cell = one_item (slice_get design.cell_list number) x.0 cell x.1 cell_is in
    subst (λ (c : Cell). (slice_get s.open_ones v.opened ≡ Some c.index)
    × (v.place ≤ length c.insts)) same (x.2, x.3)

pub step_cell : (design : NetlistRec) (s : State) (v w : Visit) (number : ℕ) (cell : Cell)
    (first next : List (Option ℕ)) (o : Option ℕ) → AreCells design first next
    → IsSearch design (with_visit s v) → v.cell ≡ Some number
    → slice_get design.cell_list number ≡ Some cell → length cell.insts ≤ v.place
    → slice_get next number ≡ Some o → w ≡ record { opened = v.opened; cell = o; place = 0 }
    → IsSearch design (with_visit s w)
    × (work_of design (with_visit s w) < work_of design (with_visit s v))
step_cell design s v w number cell first next o cells h is cell_is past at same =
    subst (λ x. IsSearch design (with_visit s x)
    × (work_of design (with_visit s x) < work_of design (with_visit s v))) (sym same) (
      record {
        is = subst (λ l. IsSearching design (record s { visits = l })) (set_last s.visits v now)
            (revisited design (with_visit s v) (length s.visits) v now h.is top refl valid goes);
        top_met = h.top_met;
      },
      less_last design s.visits v now _ _ less (omega arith),
    )
  where
    now : Visit
    now = record { opened = v.opened; cell = o; place = 0 }

    top : slice_get (s.visits ++ v ∷ []) (length s.visits) ≡ Some v
    top = get_push s.visits v (length s.visits) refl

    here : (slice_get s.open_ones v.opened ≡ Some cell.index) × (v.place ≤ length cell.insts)
    here = cell_here design (with_visit s v) (length s.visits) v number cell h.is top is cell_is

    behind : IsFirstFrom design (number + 1) cell.index o
    behind = cells.next_is number cell.index o (omega arith) (cell, cell_is, refl) at

    later : (p : Option ℕ) → IsFirstFrom design (number + 1) cell.index p → (k : ℕ)
        → p ≡ Some k → (number + 1 ≤ k) × IsCellAt design cell.index k
    later None first_is k e = absurd (none-some k e)
    later (Some j) first_is k e = subst (λ n. (number + 1 ≤ n) × IsCellAt design cell.index n)
        (same_Some j k e) (first_is.0, first_is.1)

    valid : IsVisitAt design s.open_ones (record { opened = v.opened; cell = o; place = 0 })
    valid k e = let x : _ = later o behind k e in
        (x.1.0, x.1.1, here.0 ∙ ap Some (sym x.1.2), omega arith)

    goes : (d k q inner : ℕ) → slice_get s.open_ones v.opened ≡ Some d → IsAt design d k q inner
        → IsToCome v.cell v.place k q
        → IsToCome o 0 k q ⊎ IsFound (with_visit s v) v.opened inner
    goes d k q inner open_is has comes =
        let d_is : d ≡ cell.index =
        one_item (slice_get s.open_ones v.opened) d cell.index open_is here.0 in
        let at_cell : IsAt design cell.index k q inner =
        subst (λ x. IsAt design x k q inner) d_is has in
        inl (by at_cell (subst (λ x. IsToCome x v.place k q) is comes))
      where
        by : IsAt design cell.index k q inner → IsToCome (Some number) v.place k q
            → IsToCome o 0 k q
        by has_it (inl lt) = comes_from design (number + 1) cell.index o k q inner behind
            (omega arith) has_it
        by has_it (inr on) =
            let e : number ≡ k = on.0 in let le : v.place ≤ q = on.1 in
            let one : has_it.cell ≡ cell = one_item (slice_get design.cell_list number) has_it.cell
            cell (subst (λ n. slice_get design.cell_list n ≡ Some has_it.cell) (sym e)
            has_it.cell_is) cell_is in
            let lt : q < length has_it.cell.insts =
            slice_get_within has_it.cell.insts q has_it.instance has_it.has in
            let many : length has_it.cell.insts ≡ length cell.insts =
            ap (λ (c : Cell). length c.insts) one in absurd (omega arith)

    less : work_at design o 0 < work_at design v.cell v.place
    less = subst (λ x. work_at design o 0 < work_at design x v.place) (sym is)
        (let a : _ = work_first design o (number + 1) (λ k e. (later o behind k e).0) in
        let b : _ = work_drop design.cell_list number cell cell_is in
        let le : v.place ≤ length cell.insts = here.1 in
        omega (arith, a, b))

at_once : (design : NetlistRec) (a b k q x y : ℕ) → IsAt design a k q x → IsAt design b k q y
    → x ≡ y
at_once design a b k q x y h g =
    let cell : h.cell ≡ g.cell = one_item (slice_get design.cell_list k) h.cell g.cell h.cell_is
    g.cell_is in
    let instance : h.instance ≡ g.instance = one_item (slice_get g.cell.insts q) h.instance
    g.instance (subst (λ (c : Cell). slice_get c.insts q ≡ Some h.instance) cell h.has) g.has in
    let inst : h.inst ≡ g.inst = one_item (slice_get design.inst_list g.instance) h.inst g.inst
    (subst (λ n. slice_get design.inst_list n ≡ Some h.inst) instance h.inst_is) g.inst_is in
    sym h.of_inner ∙ ap (λ (i : CellInstance). i.cell) inst ∙ g.of_inner

-- a visit goes on behind a place whose declaration was found
advanced : (design : NetlistRec) (s : State) (m : ℕ) (v : Visit) (number : ℕ) (cell : Cell)
    (inner : ℕ) → IsSearching design s → slice_get s.visits m ≡ Some v → v.cell ≡ Some number
    → slice_get design.cell_list number ≡ Some cell → v.place < length cell.insts
    → IsAt design cell.index number v.place inner → IsFound s v.opened inner
    → IsSearching design (record s {
      visits = slice_set s.visits m
          (record { opened = v.opened; cell = v.cell; place = v.place + 1 });
    })
advanced design s m v number cell inner h at is cell_is within has found =
    revisited design s m v _ h at refl valid goes
  where
    here : (slice_get s.open_ones v.opened ≡ Some cell.index) × (v.place ≤ length cell.insts)
    here = cell_here design s m v number cell h at is cell_is

    valid : IsVisitAt design s.open_ones
        (record { opened = v.opened; cell = v.cell; place = v.place + 1 })
    valid k e =
        let same : number ≡ k = same_Some number k (sym is ∙ e) in (
          cell,
          subst (λ n. slice_get design.cell_list n ≡ Some cell) same cell_is,
          here.0,
          (let lt : v.place < length cell.insts = within in omega arith),
        )

    goes : (d k q x : ℕ) → slice_get s.open_ones v.opened ≡ Some d → IsAt design d k q x
        → IsToCome v.cell v.place k q
        → IsToCome v.cell (v.place + 1) k q ⊎ IsFound s v.opened x
    goes d k q x open_is there comes =
        elim (by (subst (λ o. IsToCome o v.place k q) is comes)) [
          | inl on ↦ inl (subst (λ o. IsToCome o (v.place + 1) k q) (sym is) on)
          | inr same ↦ inr (subst (λ y. IsFound s v.opened y)
              (at_once design cell.index d number v.place inner x has
              (subst (λ n. IsAt design d n v.place x) (sym same.0)
              (subst (λ n. IsAt design d k n x) (sym same.1) there))) found)
        ]
      where
        by : IsToCome (Some number) v.place k q → IsToCome (Some number) (v.place + 1) k q
            ⊎ ((number ≡ k) × (v.place ≡ q))
        by (inl lt) = inl (inl lt)
        by (inr on) = let le : v.place ≤ q = on.1 in elim (below_or_not v.place q) [
          | inl lt ↦ inl (inr (on.0, omega arith))
          | inr ge ↦ inr (on.0, omega arith)
        ]

pub step_in : (design : NetlistRec) (s after : State) (v w : Visit) (number : ℕ) (cell : Cell)
    (first next : List (Option ℕ)) (inner : ℕ) (o : Option ℕ) → AreCells design first next
    → IsSearch design (with_visit s v) → v.cell ≡ Some number
    → slice_get design.cell_list number ≡ Some cell → v.place < length cell.insts
    → IsAt design cell.index number v.place inner → slice_get first inner ≡ Some o
    → w ≡ record { opened = v.opened; cell = v.cell; place = v.place + 1 }
    → IsGone (with_visit s w) inner o (slice_get s.marks inner) after
    → IsSearch design after × (work_of design after < work_of design (with_visit s v))
step_in design s after v w number cell first next inner o cells h is cell_is within has at same
    gone =
    by (slice_get s.marks inner) refl
    (subst (λ x. IsGone (with_visit s x) inner o (slice_get s.marks inner) after) same gone)
  where
    now : Visit
    now = record { opened = v.opened; cell = v.cell; place = v.place + 1 }

    top : slice_get (s.visits ++ v ∷ []) (length s.visits) ≡ Some v
    top = get_push s.visits v (length s.visits) refl

    here : (slice_get s.open_ones v.opened ≡ Some cell.index) × (v.place ≤ length cell.insts)
    here = cell_here design (with_visit s v) (length s.visits) v number cell h.is top is cell_is

    entering : Visit
    entering = record { opened = length s.open_ones; cell = o; place = 0 }

    less : work_at design v.cell (v.place + 1) < work_at design v.cell v.place
    less = subst (λ x. work_at design x (v.place + 1) < work_at design x v.place) (sym is)
        (let b : _ = work_drop design.cell_list number cell cell_is in
        let lt : v.place < length cell.insts = within in omega (arith, b))

    first_is : IsFirstFrom design 0 inner o
    first_is = cells.first_is inner o at

    by : (m : Option Mark) → slice_get s.marks inner ≡ m
        → IsGone (with_visit s (record { opened = v.opened; cell = v.cell; place = v.place + 1 }))
        inner o m after
        → IsSearch design after × (work_of design after < work_of design (with_visit s v))
    by None e g = absurd g
    by (Some New) e g =
        subst (λ t. IsSearch design t × (work_of design t < work_of design (with_visit s v)))
        (sym g) (
          record {
            is = subst (λ l. IsSearching design
                (record (entered (with_visit s v) inner o) { visits = l }))
                (set_under s.visits (record { opened = length s.open_ones; cell = o; place = 0 } ∷
                []) v
                (record { opened = v.opened; cell = v.cell; place = v.place + 1 }))
                (advanced design (entered (with_visit s v) inner o) (length s.visits) v number cell
                inner
                (entered_from design (with_visit s v) s.visits v cell.index number v.place inner o
                h.is refl here.0 is refl has e first_is)
                (get_left (s.visits ++ v ∷ []) _ (length s.visits) v top) is cell_is within has
                (inr (
                  length s.open_ones,
                  get_push s.open_ones inner (length s.open_ones) refl,
                  inl (slice_get_within s.open_ones v.opened cell.index here.0),
                )));
            top_met = (
              h.top_met.0,
              get_left s.met (inner ∷ []) h.top_met.0 design.top_inst.cell h.top_met.1,
            );
          },
          less_entered design s.visits v
              (record { opened = v.opened; cell = v.cell; place = v.place + 1 })
              (record { opened = length s.open_ones; cell = o; place = 0 }) _ _ _ less
              (let a : _ = work_first design o 0 (λ k z. omega arith) in omega (arith, a))
              (count_set s.marks inner (length s.open_ones) e),
        )
    by (Some (Open place)) e g =
        subst (λ t. IsSearch design t × (work_of design t < work_of design (with_visit s v)))
        (sym g.2) (
          record {
            is = subst (λ l. IsSearching design (record s {
              parts = g.0;
              looped = Some (lesser_of s.looped inner);
              visits = l;
            }))
                (set_last s.visits v (record {
                  opened = v.opened;
                  cell = v.cell;
                  place = v.place +
                      1;
                }))
                (advanced design (record (with_visit s v) {
                  parts = g.0;
                  looped = Some (lesser_of s.looped inner);
                }) (length s.visits) v number
                cell inner
                (merged design (with_visit s v) s.visits v cell.index number v.place inner place g.0
                h.is refl here.0 has e g.1)
                top is cell_is within has
                (merged_found design (with_visit s v) v inner place g.0 h.is e g.1));
            top_met = h.top_met;
          },
          less_last design s.visits v
              (record { opened = v.opened; cell = v.cell; place = v.place + 1 }) _ _ less (omega
              arith),
        )
    by (Some Closed) e g =
        subst (λ t. IsSearch design t × (work_of design t < work_of design (with_visit s v)))
        (sym g) (
          record {
            is = subst (λ l. IsSearching design (record s { visits = l }))
                (set_last s.visits v (record {
                  opened = v.opened;
                  cell = v.cell;
                  place = v.place +
                      1;
                }))
                (advanced design (with_visit s v) (length s.visits) v number cell inner h.is
                top is cell_is within has (inl (h.is.marked.is_closed inner e)));
            top_met = h.top_met;
          },
          less_last design s.visits v
              (record { opened = v.opened; cell = v.cell; place = v.place + 1 }) _ _ less (omega
              arith),
        )

-- What a step needs of the last visit.

pub inside_of : (design : NetlistRec) (s : State) (v : Visit) → IsSearch design (with_visit s v)
    → v.opened < length s.open_ones
inside_of design s v h = h.is.stacked.visits_open (length s.visits) v
    (get_push s.visits v (length s.visits) refl)

pub marked_of : (design : NetlistRec) (s : State) (v : Visit) → IsSearch design (with_visit s v)
    → (i d : ℕ) → slice_get s.open_ones i ≡ Some d → d < length s.marks
marked_of design s v h i d at =
    slice_get_within s.marks d (Open i) (h.is.marked.open_is i d at)

pub differ_of : (design : NetlistRec) (s : State) (v : Visit) → IsSearch design (with_visit s v)
    → AreDifferent s.open_ones
differ_of design s v h i j d at other =
    open_same i j (sym (h.is.marked.open_is i d at) ∙ h.is.marked.open_is j d other)

pub cell_of : (design : NetlistRec) (s : State) (v : Visit) (number : ℕ)
    → IsSearch design (with_visit s v) → v.cell ≡ Some number
    → number < length design.cell_list
cell_of design s v number h is =
    let x : _ = h.is.stacked.visits_cell (length s.visits) v number
    (get_push s.visits v (length s.visits) refl) is in
    slice_get_within design.cell_list number x.0 x.1

-- the instance at a place of a cell
pub place_of : (design : NetlistRec) (number place : ℕ) (cell : Cell) → DesignFits design
    → slice_get design.cell_list number ≡ Some cell → place < length cell.insts
    → (inner : ℕ) × IsAt design cell.index number place inner
    × (child_of design cell place ≢ None)
    × (option_map (λ (inst : CellInstance). inst.cell) (child_of design cell place) ≡ Some inner)
place_of design number place cell fits cell_is lt =
    let i : _ = get_within cell.insts place lt in
    let x : _ = get_within design.inst_list i.0 (fits.has number place i.0 cell cell_is i.1) in
    let child : child_of design cell place ≡ Some x.0 =
    ap (λ o. option_and_then (slice_get design.inst_list) o) i.1 ∙ x.1 in (
      x.0.cell,
      record {
        cell = cell;
        cell_is = cell_is;
        of_outer = refl;
        instance = i.0;
        has = i.1;
        inst = x.0;
        inst_is = x.1;
        of_inner = refl;
      },
      λ e. none-some x.0 (sym e ∙ child),
      ap (λ o. option_map (λ (inst : CellInstance). inst.cell) o) child,
    )

-- the same, by the declaration that was read
pub place_is : (design : NetlistRec) (number place inner : ℕ) (cell : Cell) → DesignFits design
    → slice_get design.cell_list number ≡ Some cell → place < length cell.insts
    → Some inner ≡ option_map (λ (inst : CellInstance). inst.cell) (child_of design cell place)
    → IsAt design cell.index number place inner
place_is design number place inner cell fits cell_is lt e =
    let x : _ = place_of design number place cell fits cell_is lt in
    subst (λ n. IsAt design cell.index number place n)
    (sym (same_Some inner x.0 (e ∙ x.3))) x.1

pub on_ok : {A E : Type 0} (r : Result A E) {P Q : Type 0} → OnOk r P → (P → Q) → OnOk r Q
on_ok (Ok x) h f = f h
on_ok (Err e) h f = tt
