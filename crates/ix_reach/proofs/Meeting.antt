-- The walk meets declarations in the order in which the search does.
use Rattle.std.proofs.Common.{◌≡◌, ℕ, zero, suc, ◌+◌, ◌<◌, ◌≤◌, ◌⊎◌, inl, inr, List, []}
use Rattle.std.proofs.Common.{◌∷◌, ◌++◌, take, drop, slice_get, Option, Some, None, refl, sym}
use Rattle.std.proofs.Common.{ap, ◌∙◌, subst, arith, Bool, true, false, nat_eq, cond}
use Rattle.std.proofs.Common.{option_and_then, append_assoc}
use Rattle.std.specs.List.{Contains, find}
use Rattle.std.proofs.lemmas.Bool.{eqb-true, eqb-false}
use Rattle.std.proofs.lemmas.Option.{none-some, same_Some}
use Rattle.ix_rec.specs.declared.netlist.Cell.{Cell}
use Rattle.ix_rec.specs.declared.netlist.CellInstance.{CellInstance}
use Rattle.ix_rec.specs.declared.netlist.NetlistRec.{NetlistRec}
use Rattle.ix_hierarchy.specs.Hierarchy.{Path, child, child_of, inside, instance_at, reached}
use Rattle.ix_hierarchy.specs.Walk.{InstanceAt, IsBefore, IsLess, steps}
use Rattle.ix_hierarchy.specs.Broken.{HasTwoCells, Reaches}
use Rattle.ix_hierarchy.specs.Lists.{IsFirstOfThese}
use Rattle.ix_reach.specs.Searching.{AreDifferent, IsAt, IsIn, IsMet, IsMetFrom, IsWhole}
use Rattle.ix_reach.proofs.Places.{one_item, same_or_not, below_or_not, taken_get}
use Rattle.ix_reach.proofs.Ways.{goes_in, in_of_at, stays, whole_reached}
use Rattle.ix_reach.proofs.Ending.{listed, placed}

-- Paths.

-- a path that stands before another one is the beginning of it, or so is each path that goes on
before_cases : (p q : Path) → IsLess (steps p) (steps q)
    → ((k : ℕ) × (rest : Path) × (q ≡ p ++ k ∷ rest))
    ⊎ ((t : Path) → IsLess (steps (p ++ t)) (steps q))
before_cases [] [] h = absurd h
before_cases [] (k ∷ rest) h = inl (k, rest, refl)
before_cases (a ∷ p) [] h = absurd h
before_cases (a ∷ p) (b ∷ q) (inl lt) = absurd (omega arith)
before_cases (a ∷ p) (b ∷ q) (inr on) = elim on.1 [
  | inl lt ↦ inr (λ t. inr (refl, inl lt))
  | inr same ↦ elim (before_cases p q same.1) [
    | inl rest ↦ inl (
      rest.0,
      rest.1,
      ap (λ x. x ∷ q) (sym same.0) ∙ ap (λ l. a ∷ l) rest.2,
    )
    | inr f ↦ inr (λ t. inr (refl, inr (same.0, f t)))
  ]
]

goes_behind : (p : Path) (k : ℕ) (rest : Path) → IsLess (steps p) (steps (p ++ k ∷ rest))
goes_behind [] k rest = tt
goes_behind (a ∷ p) k rest = inr (refl, inr (refl, goes_behind p k rest))

turns_behind : (p : Path) (a b : ℕ) (rest : Path) → a < b
    → IsLess (steps (p ++ a ∷ [])) (steps (p ++ b ∷ rest))
turns_behind [] a b rest lt = inr (refl, inl lt)
turns_behind (x ∷ p) a b rest lt = inr (refl, inr (refl, turns_behind p a b rest lt))

-- Instances.

found_where : (cells : List Cell) (d : ℕ) (c : Cell)
    → find (λ (cell : Cell). nat_eq cell.index d) cells ≡ Some c
    → (k : ℕ) × (slice_get cells k ≡ Some c) × (c.index ≡ d)
found_where [] d c e = absurd (none-some c e)
found_where (x ∷ xs) d c e = by (found_where xs d c) (nat_eq x.index d) refl
  where
    by : (find (λ (cell : Cell). nat_eq cell.index d) xs ≡ Some c
        → (k : ℕ) × (slice_get xs k ≡ Some c) × (c.index ≡ d)) → (b : Bool)
        → nat_eq x.index d ≡ b
        → (k : ℕ) × (slice_get (x ∷ xs) k ≡ Some c) × (c.index ≡ d)
    by more true is =
        let same : Some x ≡ Some c =
        ap (λ v. cond v (Some x) (find (λ (y : Cell). nat_eq y.index d) xs)) (sym is) ∙ e in (
          0,
          same,
          subst (λ (y : Cell). y.index ≡ d) (same_Some x c same)
              (eqb-true x.index d is),
        )
    by more false is =
        let rest : _ = more
        (ap (λ v. cond v (Some x) (find (λ (y : Cell). nat_eq y.index d) xs)) (sym is) ∙ e) in
        (suc rest.0, rest.1, rest.2)

found_some : (cells : List Cell) (d k : ℕ) (cell : Cell) → slice_get cells k ≡ Some cell
    → cell.index ≡ d
    → (c : Cell) × (find (λ (x : Cell). nat_eq x.index d) cells ≡ Some c)
found_some [] d k cell at is = absurd (none-some cell at)
found_some (x ∷ xs) d k cell at is =
    by (λ j here. found_some xs d j cell here is) (nat_eq x.index d) refl
  where
    later : ((j : ℕ) → slice_get xs j ≡ Some cell
        → (c : Cell) × (find (λ (y : Cell). nat_eq y.index d) xs ≡ Some c)) → (j : ℕ)
        → slice_get (x ∷ xs) j ≡ Some cell → nat_eq x.index d ≡ false
        → (c : Cell) × (find (λ (y : Cell). nat_eq y.index d) xs ≡ Some c)
    later more zero here other = absurd (eqb-false x.index d other
        (ap (λ (y : Cell). y.index) (same_Some x cell here) ∙ is))
    later more (suc j) here other = more j here

    by : ((j : ℕ) → slice_get xs j ≡ Some cell
        → (c : Cell) × (find (λ (y : Cell). nat_eq y.index d) xs ≡ Some c)) → (b : Bool)
        → nat_eq x.index d ≡ b → (c : Cell) × (cond (nat_eq x.index d) (Some x)
        (find (λ (y : Cell). nat_eq y.index d) xs) ≡ Some c)
    by more true is_b =
        (x, ap (λ v. cond v (Some x) (find (λ (y : Cell). nat_eq y.index d) xs)) is_b)
    by more false is_b = let rest : _ = later more k at is_b in (
      rest.0,
      ap (λ v. cond v (Some x) (find (λ (y : Cell). nat_eq y.index d) xs)) is_b
          ∙ rest.1,
    )

-- the instance at a place of an instance
child_at : (design : NetlistRec) (parent : CellInstance) (place : ℕ) (x : CellInstance)
    → child design parent place ≡ Some x
    → (number : ℕ) × IsAt design parent.cell number place x.cell
child_at design parent place x e = by (inside design parent.cell) refl
  where
    by : (o : Option Cell) → inside design parent.cell ≡ o
        → (number : ℕ) × IsAt design parent.cell number place x.cell
    by None none = absurd (none-some x (ap (λ o. option_and_then
        (λ cell. child_of design cell place) o) (sym none) ∙ e))
    by (Some cell) some =
        let at : _ = found_where design.cell_list parent.cell cell some in (
          at.0,
          inst (slice_get cell.insts place) refl at.0 at.1 at.2
              (ap (λ o. option_and_then (λ c. child_of design c place) o) (sym some) ∙ e),
        )
      where
        inst : (i : Option ℕ) → slice_get cell.insts place ≡ i → (number : ℕ)
            → slice_get design.cell_list number ≡ Some cell → cell.index ≡ parent.cell
            → child_of design cell place ≡ Some x
            → IsAt design parent.cell number place x.cell
        inst None none number at index is = absurd (none-some x
            (ap (λ o. option_and_then (slice_get design.inst_list) o) (sym none) ∙ is))
        inst (Some instance) has number at index is = record {
          cell = cell;
          cell_is = at;
          of_outer = index;
          instance = instance;
          has = has;
          inst = x;
          inst_is = ap (λ o. option_and_then (slice_get design.inst_list) o) (sym has) ∙ is;
          of_inner = refl;
        }

-- where no declaration has two cells, the cells of one are one
one_cell : (design : NetlistRec) → ((d : ℕ) → HasTwoCells design d → ⊥) → (d j k : ℕ)
    (a b : Cell) → slice_get design.cell_list j ≡ Some a → slice_get design.cell_list k ≡ Some b
    → a.index ≡ d → b.index ≡ d → j ≡ k
one_cell design none d j k a b at other a_is b_is = elim (same_or_not j k) [
  | inl e ↦ e
  | inr n ↦ absurd (none d (record {
    first = j;
    second = k;
    apart = n;
    cell = a;
    other = b;
    is = at;
    other_is = other;
    of_it = a_is;
    other_of_it = b_is;
  }))
]

child_there : (design : NetlistRec) → ((d : ℕ) → HasTwoCells design d → ⊥)
    → (parent : CellInstance) (number place inner : ℕ)
    → IsAt design parent.cell number place inner
    → (x : CellInstance) × (child design parent place ≡ Some x) × (x.cell ≡ inner)
child_there design none parent number place inner h =
    let c : _ = found_some design.cell_list parent.cell number h.cell h.cell_is h.of_outer in
    let at : _ = found_where design.cell_list parent.cell c.0 c.1 in
    let same : at.0 ≡ number = one_cell design none parent.cell at.0 number c.0 h.cell at.1
    h.cell_is at.2 h.of_outer in
    let cell : c.0 ≡ h.cell = one_item (slice_get design.cell_list number) c.0 h.cell
    (subst (λ n. slice_get design.cell_list n ≡ Some c.0) same at.1) h.cell_is in (
      h.inst,
      ap (λ o. option_and_then (λ (x : Cell). child_of design x place) o)
          (c.1 ∙ ap Some cell)
          ∙ ap (λ o. option_and_then (slice_get design.inst_list) o) h.has ∙ h.inst_is,
      h.of_inner,
    )

reached_more : (design : NetlistRec) (from : CellInstance) (p q : Path) (x : CellInstance)
    → reached design from p ≡ Some x → reached design from (p ++ q) ≡ reached design x q
unfolding reached
reached_more design from [] q x e = ap (λ i. reached design i q) (same_Some from x e)
reached_more design from (place ∷ p) q x e =
    by (λ i is. reached_more design i p q x is) (child design from place) e
  where
    by : ((i : CellInstance) → reached design i p ≡ Some x
        → reached design i (p ++ q) ≡ reached design x q) → (o : Option CellInstance)
        → option_and_then (λ inst. reached design inst p) o ≡ Some x
        → option_and_then (λ inst. reached design inst (p ++ q)) o ≡ reached design x q
    by more None is = absurd (none-some x is)
    by more (Some i) is = more i is

reached_one : (design : NetlistRec) (from : CellInstance) (place : ℕ) (x : CellInstance)
    → child design from place ≡ Some x → reached design from (place ∷ []) ≡ Some x
unfolding reached
reached_one design from place x e =
    ap (λ o. option_and_then (λ inst. reached design inst []) o) e

reached_first : (design : NetlistRec) (from : CellInstance) (place : ℕ) (rest : Path)
    (x : CellInstance) → reached design from (place ∷ rest) ≡ Some x
    → (i : CellInstance) × (child design from place ≡ Some i) × (reached design i rest ≡ Some x)
unfolding reached
reached_first design from place rest x e = by (child design from place) refl e
  where
    by : (o : Option CellInstance) → child design from place ≡ o
        → option_and_then (λ inst. reached design inst rest) o ≡ Some x
        → (i : CellInstance) × (child design from place ≡ Some i)
        × (reached design i rest ≡ Some x)
    by None none is = absurd (none-some x is)
    by (Some i) some is = (i, some, is)

reached_none : (design : NetlistRec) (from : CellInstance) → reached design from [] ≡ Some from
unfolding reached
reached_none design from = refl

-- what an instance is in reaches its declaration
reaches_end : (design : NetlistRec) (from : CellInstance) (path : Path) (x : CellInstance)
    → reached design from path ≡ Some x → Reaches design from.cell x.cell
reaches_end design from [] x e =
    subst (λ (y : CellInstance). Reaches design from.cell y.cell)
    (same_Some from x (sym (reached_none design from) ∙ e)) (stays design from.cell)
reaches_end design from (place ∷ rest) x e =
    let i : _ = reached_first design from place rest x e in
    let at : _ = child_at design from place i.0 i.1 in
    goes_in design from.cell i.0.cell x.cell
    (in_of_at design from.cell at.0 place i.0.cell at.1) (reaches_end design i.0 rest x i.2)

drop_get : (n : ℕ) (xs : List ℕ) (i : ℕ) (x : ℕ) → slice_get (drop n xs) i ≡ Some x
    → slice_get xs (n + i) ≡ Some x
drop_get zero xs i x e = subst (λ k. slice_get xs k ≡ Some x) (omega arith) e
drop_get (suc n) [] i x e = absurd (none-some x e)
drop_get (suc n) (y ∷ xs) i x e =
    subst (λ k. slice_get (y ∷ xs) k ≡ Some x) (let z : suc (n + i) ≡ suc n + i = omega arith in z)
    (drop_get n xs i x e)

get_drop : (n k : ℕ) (xs : List ℕ) (x : ℕ) → n ≤ k → slice_get xs k ≡ Some x
    → IsIn (drop n xs) x
get_drop zero k xs x le e = (k, e)
get_drop (suc n) k [] x le e = absurd (none-some x e)
get_drop (suc n) zero (y ∷ xs) x le e = absurd (omega arith)
get_drop (suc n) (suc k) (y ∷ xs) x le e = get_drop n k xs x (omega arith) e

module _ (design : NetlistRec) (met : List ℕ) (differ : AreDifferent met)
    (each : (n d : ℕ) → slice_get met n ≡ Some d → IsMet design met n d)
    (single : (d : ℕ) → HasTwoCells design d → ⊥) where
  -- no instance of one from the n-th on is inside what was done before it
  not_done : (n : ℕ) (done : List ℕ) → IsWhole design done
      → ((x : ℕ) → IsIn done x → IsIn (take n met) x) → (from one : CellInstance) (rest : Path)
      → IsIn done from.cell → reached design from rest ≡ Some one → (k : ℕ) → n ≤ k
      → slice_get met k ≡ Some one.cell → ⊥
  not_done n done whole earlier from one rest has e k le at =
      let is : IsIn (take n met) one.cell = earlier one.cell
      (whole_reached design done from.cell one.cell whole has
      (reaches_end design from rest one e)) in
      let x : _ = taken_get n met is.0 one.cell is.1 in
      let lt : is.0 < n = x.0 in
      let same : is.0 ≡ k = differ is.0 k one.cell x.1 at in omega arith

  first_top : (d : ℕ) → d ≡ design.top_inst.cell → (these : List ℕ)
      → IsFirstOfThese design these d []
  first_top d is these = record {
    inst = design.top_inst;
    is = reached_none design design.top_inst;
    of_it = sym is;
    first = by;
  }
    where
      by : (other : Path) (one : CellInstance) → instance_at design other ≡ Some one
          → Contains these one.cell → ([] ≡ other) ⊎ IsBefore (InstanceAt []) (InstanceAt other)
      by [] one e has = inl refl
      by (k ∷ rest) one e has = inr (inr (refl, tt))

  first_next : (n d : ℕ) → slice_get met n ≡ Some d → (r : IsMetFrom design met n d)
      → (p : Path) → IsFirstOfThese design (drop r.m met) r.outer p
      → (path : Path) × IsFirstOfThese design (drop n met) d path
  first_next n d at r p h =
      let outer : h.inst.cell ≡ r.outer = h.of_it in
      let is_at : IsAt design h.inst.cell r.number r.place d =
      subst (λ o. IsAt design o r.number r.place d) (sym outer) r.at in
      let x : _ = child_there design single h.inst r.number r.place d is_at in (
        p ++ r.place ∷ [],
        record {
          inst = x.0;
          is = reached_more design design.top_inst p (r.place ∷ []) h.inst h.is
              ∙ reached_one design h.inst r.place x.0 x.1;
          of_it = x.2;
          first = by;
        },
      )
    where
      turned : (other : Path) (one : CellInstance) → instance_at design other ≡ Some one
          → (j : ℕ) → n ≤ j → slice_get met j ≡ Some one.cell → (k : ℕ) (rest : Path)
          → other ≡ p ++ k ∷ rest → (p ++ r.place ∷ [] ≡ other)
          ⊎ IsBefore (InstanceAt (p ++ r.place ∷ [])) (InstanceAt other)
      turned other one e j le there k rest is =
          elim (below_or_not r.place k) [
            | inl lt ↦ inr (inr (
              refl,
              subst (λ l. IsLess (steps (p ++ r.place ∷ [])) (steps l))
                  (sym is) (turns_behind p r.place k rest lt),
            ))
            | inr ge ↦ elim (same_or_not k r.place) [
              | inl same ↦ beyond rest (is ∙ ap (λ y. p ++ y ∷ rest) same)
              | inr n_same ↦ absurd (early (let lt : k < r.place = omega arith in lt))
            ]
          ]
        where
          beyond : (q : Path) → other ≡ p ++ r.place ∷ q → (p ++ r.place ∷ [] ≡ other)
              ⊎ IsBefore (InstanceAt (p ++ r.place ∷ [])) (InstanceAt other)
          beyond [] same = inl (sym same)
          beyond (y ∷ q) same = inr (inr (
            refl,
            subst (λ l. IsLess (steps (p ++ r.place ∷ [])) (steps l))
                (append_assoc p (r.place ∷ []) (y ∷ q) ∙ sym same)
                (goes_behind (p ++ r.place ∷ []) y q),
          ))

          early : k < r.place → ⊥
          early lt =
              let inner : reached design h.inst (k ∷ rest) ≡ Some one =
              sym (reached_more design design.top_inst p (k ∷ rest) h.inst h.is)
              ∙ ap (λ l. reached design design.top_inst l) (sym is) ∙ e in
              let i : _ = reached_first design h.inst k rest one inner in
              let c : _ = child_at design h.inst k i.0 i.1 in
              let c_at : IsAt design r.outer c.0 k i.0.cell =
              subst (λ o. IsAt design o c.0 k i.0.cell) h.of_it c.1 in
              let same : c.0 ≡ r.number = one_cell design single r.outer c.0 r.number c_at.cell
              r.at.cell c_at.cell_is r.at.cell_is c_at.of_outer r.at.of_outer in
              not_done n r.done r.whole r.earlier i.0 one rest
              (r.sides c.0 k i.0.cell c_at (inr (same, lt))) i.2 j le there

      by : (other : Path) (one : CellInstance) → instance_at design other ≡ Some one
          → Contains (drop n met) one.cell → (p ++ r.place ∷ [] ≡ other)
          ⊎ IsBefore (InstanceAt (p ++ r.place ∷ [])) (InstanceAt other)
      by other one e has =
          let there : IsIn (drop n met) one.cell = placed (drop n met) one.cell has in
          let at_j : slice_get met (n + there.0) ≡ Some one.cell =
          drop_get n met there.0 one.cell there.1 in
          let before : r.m < n = r.before in
          elim (h.first other one e (listed (drop r.m met) one.cell
          (get_drop r.m (n + there.0) met one.cell (omega arith) at_j))) [
            | inl same ↦
                let inst : h.inst ≡ one = same_Some h.inst one
                (sym h.is ∙ ap (λ l. instance_at design l) same ∙ e) in
                let at_m : slice_get met r.m ≡ Some one.cell =
                r.outer_is ∙ ap Some (sym h.of_it ∙ ap (λ (y : CellInstance). y.cell) inst) in
                let equal : r.m ≡ n + there.0 = differ r.m (n + there.0) one.cell at_m at_j in
                absurd (omega arith)
            | inr less ↦ elim less [
              | inl lt ↦ absurd (omega arith)
              | inr on ↦ elim (before_cases p other on.1) [
                | inl rest ↦ turned other one e (n + there.0) (omega arith) at_j rest.0 rest.1
                    rest.2
                | inr f ↦ inr (inr (refl, f (r.place ∷ [])))
              ]
            ]
          ]

  firsts : (bound n d : ℕ) → n < bound → slice_get met n ≡ Some d
      → (path : Path) × IsFirstOfThese design (drop n met) d path
  firsts zero n d lt at = absurd (omega arith)
  firsts (suc bound) n d lt at = elim (each n d at) [
    | inl top ↦ ([], first_top d top.1 (drop n met))
    | inr r ↦
        let before : r.m < n = r.before in
        let h : _ = firsts bound r.m r.outer (omega arith) r.outer_is in
        first_next n d at r h.0 h.1
  ]

  pub met_firsts : (n d : ℕ) → slice_get met n ≡ Some d
      → (path : Path) × IsFirstOfThese design (drop n met) d path
  met_firsts n d at = firsts (n + 1) n d (omega arith) at
