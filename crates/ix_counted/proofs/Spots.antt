-- All counted places in a list, each once.
use Rattle.std.proofs.Common.{◌≡◌, ℕ, zero, suc, ◌+◌, ◌<◌, ◌⊎◌, inl, inr, List}
use Rattle.std.proofs.Common.{[], ◌∷◌, ◌++◌, length, take, slice_get, Option, Some, None, refl}
use Rattle.std.proofs.Common.{sym, ap, ◌∙◌, subst, arith, length-append, append_assoc}
use Rattle.std.proofs.Common.{option_and_then}
use Rattle.std.specs.List.{AllByRecursion}
use Rattle.std.proofs.lemmas.List.{append-nil}
use Rattle.std.proofs.lemmas.Option.{none-some, same_Some}
use Rattle.ix_rec.specs.declared.netlist.Cell.{Cell}
use Rattle.ix_rec.specs.declared.netlist.CellInstance.{CellInstance}
use Rattle.ix_rec.specs.declared.netlist.NetlistRec.{NetlistRec}
use Rattle.ix_hierarchy.specs.Hierarchy.{Path, IsInstance, child_of, inside, instance_at}
use Rattle.ix_hierarchy.specs.Hierarchy.{reached}
use Rattle.ix_hierarchy.specs.Walk.{Spot, TopBit, NetAt, InstanceAt, PinAt}
use Rattle.ix_hierarchy.specs.Broken.{IsCounted}
use Rattle.ix_hierarchy.specs.Lists.{AreClosed}
use Rattle.ix_counted.specs.Counts.{count_down, in_inside, sum_to}
use Rattle.ix_counted.specs.Counts.{with_instance}
use Rattle.ix_counted.proofs.Places.{IsItem, Differ, item_left, item_right, item_cases, differ_append}
use Rattle.ix_counted.proofs.Places.{differ_cons, get_within, taken_get}
use Rattle.ix_counted.proofs.Sums.{join_to, join_differ, join_item, join_length, join_where, sum_ones}
use Rattle.ix_counted.proofs.Sums.{sum_same}
use Rattle.ix_counted.proofs.Instances.{child_from, child_inside, child_place, contained, placed}
use Rattle.ix_counted.proofs.Instances.{reached_first, reached_more, reached_none, reached_one}
use Rattle.ix_counted.proofs.Counting.{count_suc}

-- The places below an instance at a path, down to a depth.

abbrev pub net_spots : Path → (nets : ℕ) → List Spot
net_spots path nets = join_to (λ net. NetAt path net ∷ []) nets

abbrev pub with_spot : (ℕ → Path → List Spot) → Path → Option CellInstance → List Spot
with_spot below path None = []
with_spot below path (Some x) = InstanceAt path ∷ below x.cell path

abbrev pub cell_spots : NetlistRec → (ℕ → Path → List Spot) → Path → Cell → List Spot
cell_spots design below path cell = net_spots path (length cell.nets)
    ++ join_to (λ k. with_spot below (path ++ k ∷ []) (child_of design cell k))
    (length cell.insts)

abbrev pub inside_spots : NetlistRec → (ℕ → Path → List Spot) → Path → Option Cell → List Spot
inside_spots design below path None = []
inside_spots design below path (Some cell) = cell_spots design below path cell

unfoldable pub spots_down : NetlistRec → (depth declaration : ℕ) → Path → List Spot
spots_down design zero d path = []
spots_down design (suc depth) d path =
    inside_spots design (spots_down design depth) path (inside design d)

spots_none : (design : NetlistRec) (d : ℕ) (path : Path) → spots_down design 0 d path ≡ []
unfolding spots_down
spots_none design d path = refl

spots_suc : (design : NetlistRec) (depth d : ℕ) (path : Path) → spots_down design (suc depth) d path
    ≡ inside_spots design (spots_down design depth) path (inside design d)
unfolding spots_down
spots_suc design depth d path = refl

count_none : (design : NetlistRec) (d : ℕ) → count_down design 0 d ≡ 0
unfolding count_down
count_none design d = refl

-- How many they are.

nets_length : (path : Path) (n : ℕ) → length (net_spots path n) ≡ n
nets_length path n = join_length (λ net. NetAt path net ∷ []) n
    ∙ sum_ones (λ k. length (NetAt path k ∷ [])) n (λ k. refl)

pub spots_length : (design : NetlistRec) (depth d : ℕ) (path : Path)
    → length (spots_down design depth d path) ≡ count_down design depth d
spots_length design zero d path = ap length (spots_none design d path) ∙ sym (count_none design d)
spots_length design (suc depth) d path =
    ap length (spots_suc design depth d path)
    ∙ by (λ e q. spots_length design depth e q) (inside design d) ∙ sym (count_suc design depth d)
  where
    one : ((e : ℕ) (q : Path) → length (spots_down design depth e q) ≡ count_down design depth e)
        → (q : Path) (o : Option CellInstance)
        → length (with_spot (spots_down design depth) q o)
        ≡ with_instance (count_down design depth) o
    one each q None = refl
    one each q (Some x) = let e : length (spots_down design depth x.cell q)
        ≡ count_down design depth x.cell = each x.cell q in omega (arith, e)

    by : ((e : ℕ) (q : Path) → length (spots_down design depth e q) ≡ count_down design depth e)
        → (o : Option Cell) → length (inside_spots design (spots_down design depth) path o)
        ≡ in_inside design (count_down design depth) o
    by each None = refl
    by each (Some cell) =
        let a : _ = length-append (net_spots path (length cell.nets))
        (join_to (λ k. with_spot (spots_down design depth) (path ++ k ∷ [])
        (child_of design cell k)) (length cell.insts)) in
        let b : length (net_spots path (length cell.nets)) ≡ length cell.nets =
        nets_length path (length cell.nets) in
        let c : length (join_to (λ k. with_spot (spots_down design depth) (path ++ k ∷ [])
        (child_of design cell k)) (length cell.insts))
        ≡ sum_to (λ k. with_instance (count_down design depth) (child_of design cell k))
        (length cell.insts) =
        join_length (λ k. with_spot (spots_down design depth) (path ++ k ∷ [])
        (child_of design cell k)) (length cell.insts)
        ∙ sum_same (λ k. length (with_spot (spots_down design depth) (path ++ k ∷ [])
        (child_of design cell k)))
        (λ k. with_instance (count_down design depth) (child_of design cell k))
        (length cell.insts) (λ k. one each (path ++ k ∷ []) (child_of design cell k)) in
        a ∙ omega (arith, b, c)

-- Where they are.

abbrev pub path_of : Spot → Option Path
path_of (TopBit place index) = None
path_of (NetAt path net) = Some path
path_of (InstanceAt path) = Some path
path_of (PinAt path place index) = None

abbrev pub IsUnder : Path → Spot → Type 0
IsUnder path spot = (rest : Path) × (path_of spot ≡ Some (path ++ rest))

net_where : (path : Path) (n : ℕ) (spot : Spot) → IsItem (net_spots path n) spot
    → (net : ℕ) × (net < n) × (NetAt path net ≡ spot)
net_where path n spot h =
    let x : _ = join_where (λ net. NetAt path net ∷ []) n spot h in
    (x.0, x.1, only x.0 x.2)
  where
    only : (k : ℕ) → IsItem (NetAt path k ∷ []) spot → NetAt path k ≡ spot
    only k (zero, e) = same_Some (NetAt path k) spot e
    only k (suc i, e) = absurd (none-some spot e)

-- a place below is a net at the path, or under a step from it
below_where : (design : NetlistRec) (depth d : ℕ) (path : Path) (spot : Spot)
    → IsItem (spots_down design depth d path) spot
    → ((net : ℕ) × (NetAt path net ≡ spot)) ⊎ ((k : ℕ) × IsUnder (path ++ k ∷ []) spot)
below_where design zero d path spot h =
    absurd (none-some spot (subst (λ l. slice_get l h.0 ≡ Some spot) (spots_none design d path)
    h.1))
below_where design (suc depth) d path spot h =
    by (λ e q x. below_where design depth e q spot x) (inside design d)
    (subst (λ l. IsItem l spot) (spots_suc design depth d path) h)
  where
    under : ((e : ℕ) (q : Path) → IsItem (spots_down design depth e q) spot
        → ((net : ℕ) × (NetAt q net ≡ spot)) ⊎ ((k : ℕ) × IsUnder (q ++ k ∷ []) spot))
        → (q : Path) (o : Option CellInstance)
        → IsItem (with_spot (spots_down design depth) q o) spot → IsUnder q spot
    under each q None x = absurd (none-some spot x.1)
    under each q (Some y) (zero, e) =
        ([], ap path_of (sym (same_Some (InstanceAt q) spot e)) ∙ ap Some (sym (append-nil q)))
    under each q (Some y) (suc i, e) = elim (each y.cell q (i, e)) [
      | inl net ↦ ([], ap path_of (sym net.1) ∙ ap Some (sym (append-nil q)))
      | inr step ↦ (
        step.0 ∷ step.1.0,
        step.1.1 ∙ ap Some (append_assoc q (step.0 ∷ []) step.1.0),
      )
    ]

    by : ((e : ℕ) (q : Path) → IsItem (spots_down design depth e q) spot
        → ((net : ℕ) × (NetAt q net ≡ spot)) ⊎ ((k : ℕ) × IsUnder (q ++ k ∷ []) spot))
        → (o : Option Cell) → IsItem (inside_spots design (spots_down design depth) path o) spot
        → ((net : ℕ) × (NetAt path net ≡ spot)) ⊎ ((k : ℕ) × IsUnder (path ++ k ∷ []) spot)
    by each None x = absurd (none-some spot x.1)
    by each (Some cell) x = elim (item_cases (net_spots path (length cell.nets))
        (join_to (λ k. with_spot (spots_down design depth) (path ++ k ∷ [])
        (child_of design cell k)) (length cell.insts)) spot x) [
          | inl net ↦ let n : _ = net_where path (length cell.nets) spot net in
              inl (n.0, n.2)
          | inr step ↦ let k : _ = join_where (λ k. with_spot (spots_down design depth)
              (path ++ k ∷ []) (child_of design cell k)) (length cell.insts) spot step in
              inr (k.0, under each (path ++ k.0 ∷ []) (child_of design cell k.0) k.2)
        ]

pub below_under : (design : NetlistRec) (depth d : ℕ) (path : Path) (spot : Spot)
    → IsItem (spots_down design depth d path) spot → IsUnder path spot
below_under design depth d path spot h = elim (below_where design depth d path spot h) [
  | inl net ↦ ([], ap path_of (sym net.1) ∙ ap Some (sym (append-nil path)))
  | inr step ↦ (
    step.0 ∷ step.1.0,
    step.1.1 ∙ ap Some (append_assoc path (step.0 ∷ []) step.1.0),
  )
]

-- Paths that part.

same_step : (p : Path) (j k : ℕ) (a b : Path) → p ++ j ∷ a ≡ p ++ k ∷ b → j ≡ k
same_step [] j k a b e = same_Some j k (ap (λ l. slice_get l 0) e)
same_step (x ∷ p) j k a b e = same_step p j k a b (ap (λ l. drop_one l) e)
  where
    drop_one : Path → Path
    drop_one [] = []
    drop_one (y ∷ ys) = ys

not_behind : (p : Path) (k : ℕ) (rest : Path) → p ≡ p ++ k ∷ rest → ⊥
not_behind p k rest e =
    let a : length p ≡ length (p ++ k ∷ rest) = ap length e in
    let b : length (p ++ k ∷ rest) ≡ length p + length (k ∷ rest) = length-append p (k ∷ rest) in
    omega arith

under_parts : (p : Path) (j k : ℕ) (spot : Spot) → IsUnder (p ++ j ∷ []) spot
    → IsUnder (p ++ k ∷ []) spot → j ≡ k
under_parts p j k spot a b = same_step p j k a.0 b.0
    (sym (append_assoc p (j ∷ []) a.0) ∙ same_Some _ _ (sym a.1 ∙ b.1)
    ∙ append_assoc p (k ∷ []) b.0)

under_not : (p : Path) (k : ℕ) (spot : Spot) → path_of spot ≡ Some p
    → IsUnder (p ++ k ∷ []) spot → ⊥
under_not p k spot here u = not_behind p k u.0
    (same_Some _ _ (sym here ∙ u.1) ∙ append_assoc p (k ∷ []) u.0)

-- They differ.

pub one_differs : {A : Type 0} (x : A) → Differ (x ∷ [])
one_differs x = differ_cons x [] (λ i j y a b. absurd (none-some y a))
    (λ h. none-some x h.1)

pub one_item_is : {A : Type 0} (x y : A) → IsItem (x ∷ []) y → x ≡ y
one_item_is x y (zero, e) = same_Some x y e
one_item_is x y (suc i, e) = absurd (none-some y e)

nets_differ : (path : Path) (n : ℕ) → Differ (net_spots path n)
nets_differ path n = join_differ (λ net. NetAt path net ∷ []) n
    (λ k. one_differs (NetAt path k))
    (λ j k spot lt a b.
    let e : NetAt path j ≡ NetAt path k =
    one_item_is (NetAt path j) spot a ∙ sym (one_item_is (NetAt path k) spot b) in
    let same : j ≡ k = by j k e in omega arith)
  where
    by : (j k : ℕ) → NetAt path j ≡ NetAt path k → j ≡ k
    by j k e = cc

spot_apart : (p q : Path) (net : ℕ) → NetAt p net ≡ InstanceAt q → ⊥
spot_apart p q net e = cc

pub spots_differ : (design : NetlistRec) (depth d : ℕ) (path : Path)
    → Differ (spots_down design depth d path)
spots_differ design zero d path = subst (λ l. Differ l) (sym (spots_none design d path))
    (λ i j x a b. absurd (none-some x a))
spots_differ design (suc depth) d path = subst (λ l. Differ l) (sym (spots_suc design depth d path))
    (by (λ e q. spots_differ design depth e q) (inside design d))
  where
    under : (q : Path) (o : Option CellInstance) (spot : Spot)
        → IsItem (with_spot (spots_down design depth) q o) spot → IsUnder q spot
    under q None spot x = absurd (none-some spot x.1)
    under q (Some y) spot (zero, e) =
        ([], ap path_of (sym (same_Some (InstanceAt q) spot e)) ∙ ap Some (sym (append-nil q)))
    under q (Some y) spot (suc i, e) = below_under design depth y.cell q spot (i, e)

    one : ((e : ℕ) (q : Path) → Differ (spots_down design depth e q)) → (q : Path)
        → (o : Option CellInstance) → Differ (with_spot (spots_down design depth) q o)
    one each q None = λ i j x a b. absurd (none-some x a)
    one each q (Some y) = differ_cons (InstanceAt q) (spots_down design depth y.cell q)
        (each y.cell q)
        (λ h. elim (below_where design depth y.cell q (InstanceAt q) h) [
          | inl net ↦ spot_apart q q net.0 net.1
          | inr step ↦ under_not q step.0 (InstanceAt q) refl step.1
        ])

    by : ((e : ℕ) (q : Path) → Differ (spots_down design depth e q)) → (o : Option Cell)
        → Differ (inside_spots design (spots_down design depth) path o)
    by each None = λ i j x a b. absurd (none-some x a)
    by each (Some cell) = differ_append (net_spots path (length cell.nets))
        (join_to (λ k. with_spot (spots_down design depth) (path ++ k ∷ [])
        (child_of design cell k)) (length cell.insts))
        (nets_differ path (length cell.nets))
        (join_differ (λ k. with_spot (spots_down design depth) (path ++ k ∷ [])
        (child_of design cell k)) (length cell.insts)
        (λ k. one each (path ++ k ∷ []) (child_of design cell k))
        (λ j k spot lt a b.
        let same : j ≡ k = under_parts path j k spot
        (under (path ++ j ∷ []) (child_of design cell j) spot a)
        (under (path ++ k ∷ []) (child_of design cell k) spot b) in omega arith))
        (λ spot net step.
        let n : _ = net_where path (length cell.nets) spot net in
        let k : _ = join_where (λ k. with_spot (spots_down design depth) (path ++ k ∷ [])
        (child_of design cell k)) (length cell.insts) spot step in
        under_not path k.0 spot (ap path_of (sym n.2))
        (under (path ++ k.0 ∷ []) (child_of design cell k.0) spot k.2))

-- All of them are counted.

instance_counted : (design : NetlistRec) (p : Path) (k : ℕ) → IsInstance design (p ++ k ∷ [])
    → IsCounted design (InstanceAt (p ++ k ∷ []))
instance_counted design [] k h = h
instance_counted design (x ∷ p) k h = h

pub spots_counted : (design : NetlistRec) (depth d : ℕ) (path : Path) (inst : CellInstance)
    (spot : Spot) → instance_at design path ≡ Some inst → inst.cell ≡ d
    → IsItem (spots_down design depth d path) spot → IsCounted design spot
spots_counted design zero d path inst spot at is h =
    absurd (none-some spot (subst (λ l. slice_get l h.0 ≡ Some spot) (spots_none design d path)
    h.1))
spots_counted design (suc depth) d path inst spot at is h =
    by (λ y q y_at x. spots_counted design depth y.cell q y spot y_at refl x) (inside design d)
    refl (subst (λ l. IsItem l spot) (spots_suc design depth d path) h)
  where
    below : ((y : CellInstance) (q : Path) → instance_at design q ≡ Some y
        → IsItem (spots_down design depth y.cell q) spot → IsCounted design spot)
        → (cell : Cell) → inside design d ≡ Some cell → (k : ℕ) (o : Option CellInstance)
        → child_of design cell k ≡ o
        → IsItem (with_spot (spots_down design depth) (path ++ k ∷ []) o) spot
        → IsCounted design spot
    below each cell in_d k None e x = absurd (none-some spot x.1)
    below each cell in_d k (Some y) e x = go x
      where
        there : instance_at design (path ++ k ∷ []) ≡ Some y
        there = reached_more design design.top_inst path (k ∷ []) inst at
            ∙ reached_one design inst k y (child_from design inst k cell y
            (ap (λ n. inside design n) is ∙ in_d) e)

        go : IsItem (InstanceAt (path ++ k ∷ []) ∷ spots_down design depth y.cell (path ++ k ∷ []))
            spot → IsCounted design spot
        go (zero, is_it) = subst (λ s. IsCounted design s)
            (same_Some (InstanceAt (path ++ k ∷ [])) spot is_it)
            (instance_counted design path k (ap Rattle.std.specs.Option.is_some there))
        go (suc i, is_it) = each y (path ++ k ∷ []) there (i, is_it)

    net : (cell : Cell) → inside design d ≡ Some cell → IsItem (net_spots path (length cell.nets))
        spot
        → IsCounted design spot
    net cell in_d x = let n : _ = net_where path (length cell.nets) spot x in
        let of_net : _ = get_within cell.nets n.0 n.1 in
        subst (λ s. IsCounted design s) n.2 (
          cell,
          of_net.0,
          record {
            inside = ap (λ o. option_and_then (λ (i : CellInstance). inside design i.cell) o) at
                ∙ ap (λ e. inside design e) is ∙ in_d;
            net_is = of_net.1;
          },
        )

    by : ((y : CellInstance) (q : Path) → instance_at design q ≡ Some y
        → IsItem (spots_down design depth y.cell q) spot → IsCounted design spot)
        → (o : Option Cell) → inside design d ≡ o
        → IsItem (inside_spots design (spots_down design depth) path o) spot
        → IsCounted design spot
    by each None e x = absurd (none-some spot x.1)
    by each (Some cell) e x = elim (item_cases (net_spots path (length cell.nets))
        (join_to (λ k. with_spot (spots_down design depth) (path ++ k ∷ [])
        (child_of design cell k)) (length cell.insts)) spot x) [
          | inl here ↦ net cell e here
          | inr step ↦ let k : _ = join_where (λ k. with_spot (spots_down design depth)
              (path ++ k ∷ []) (child_of design cell k)) (length cell.insts) spot step in
              below each cell e k.0 (child_of design cell k.0) refl k.2
        ]

-- Each counted one is among them, where the depth is enough.

module _ (design : NetlistRec) (closed : List ℕ) (closing : AreClosed design closed) where
  -- the places of one step down
  step_item : (depth : ℕ) (inst x : CellInstance) (path : Path) (k : ℕ) (cell : Cell) (spot : Spot)
      → inside design inst.cell ≡ Some cell → child_of design cell k ≡ Some x
      → IsItem (InstanceAt (path ++ k ∷ []) ∷ spots_down design depth x.cell (path ++ k ∷ [])) spot
      → IsItem (spots_down design (suc depth) inst.cell path) spot
  step_item depth inst x path k cell spot in_it e h =
      subst (λ l. IsItem l spot) (sym (spots_suc design depth inst.cell path
      ∙ ap (λ o. inside_spots design (spots_down design depth) path o) in_it))
      (item_right (net_spots path (length cell.nets))
      (join_to (λ j. with_spot (spots_down design depth) (path ++ j ∷ [])
      (child_of design cell j)) (length cell.insts)) spot
      (join_item (λ j. with_spot (spots_down design depth) (path ++ j ∷ [])
      (child_of design cell j)) (length cell.insts) k spot (child_place design cell k x e)
      (subst (λ o. IsItem (with_spot (spots_down design depth) (path ++ k ∷ []) o) spot) (sym e)
      h)))

  -- a child was closed before
  child_closed : (i : ℕ) (inst x : CellInstance) (k : ℕ) (cell : Cell)
      → slice_get closed i ≡ Some inst.cell → inside design inst.cell ≡ Some cell
      → child_of design cell k ≡ Some x → (j : ℕ) × (j < i) × (slice_get closed j ≡ Some x.cell)
  child_closed i inst x k cell at in_it e =
      let there : _ = placed (take i closed) x.cell (closing.behind i inst.cell x.cell at
      (contained design inst.cell k cell x in_it e)) in
      let y : _ = taken_get i closed there.0 x.cell there.1 in (there.0, y.0, y.1)

  pub net_there : (rest : Path) (depth i : ℕ) (inst end : CellInstance) (path : Path) (cell : Cell)
      (net : ℕ) → slice_get closed i ≡ Some inst.cell → i < depth
      → reached design inst rest ≡ Some end → inside design end.cell ≡ Some cell
      → net < length cell.nets
      → IsItem (spots_down design depth inst.cell path) (NetAt (path ++ rest) net)
  net_there rest zero i inst end path cell net at lt e in_it few = absurd (omega arith)
  net_there [] (suc depth) i inst end path cell net at lt e in_it few =
      let same : inst ≡ end = same_Some inst end (sym (reached_none design inst) ∙ e) in
      let in_here : inside design inst.cell ≡ Some cell =
      ap (λ (y : CellInstance). inside design y.cell) same ∙ in_it in
      subst (λ l. IsItem l (NetAt (path ++ []) net)) (sym (spots_suc design depth inst.cell path
      ∙ ap (λ o. inside_spots design (spots_down design depth) path o) in_here))
      (subst (λ p. IsItem (cell_spots design (spots_down design depth) path cell) (NetAt p net))
      (sym (append-nil path))
      (item_left (net_spots path (length cell.nets)) _ (NetAt path net)
      (join_item (λ n. NetAt path n ∷ []) (length cell.nets) net (NetAt path net) few (0, refl))))
  net_there (k ∷ rest) (suc depth) i inst end path cell net at lt e in_it few =
      let x : _ = reached_first design inst k rest end e in
      let c : _ = child_inside design inst k x.0 x.1 in
      let j : _ = child_closed i inst x.0 k c.0 at c.1 c.2 in
      let less : j.0 < i = j.1 in
      let h : IsItem (spots_down design depth x.0.cell (path ++ k ∷ []))
      (NetAt ((path ++ k ∷ []) ++ rest) net) =
      net_there rest depth j.0 x.0 end (path ++ k ∷ []) cell net j.2 (omega arith) x.2 in_it few in
      step_item depth inst x.0 path k c.0 (NetAt (path ++ k ∷ rest) net) c.1 c.2
      (suc h.0, h.1 ∙ ap (λ p. Some (NetAt p net)) (append_assoc path (k ∷ []) rest))

  pub instance_there : (rest : Path) (k depth i : ℕ) (inst end : CellInstance) (path : Path)
      → slice_get closed i ≡ Some inst.cell → i < depth
      → reached design inst (k ∷ rest) ≡ Some end
      → IsItem (spots_down design depth inst.cell path) (InstanceAt (path ++ k ∷ rest))
  instance_there rest k zero i inst end path at lt e = absurd (omega arith)
  instance_there [] k (suc depth) i inst end path at lt e =
      let x : _ = reached_first design inst k [] end e in
      let c : _ = child_inside design inst k x.0 x.1 in
      step_item depth inst x.0 path k c.0 (InstanceAt (path ++ k ∷ [])) c.1 c.2 (0, refl)
  instance_there (m ∷ rest) k (suc depth) i inst end path at lt e =
      let x : _ = reached_first design inst k (m ∷ rest) end e in
      let c : _ = child_inside design inst k x.0 x.1 in
      let j : _ = child_closed i inst x.0 k c.0 at c.1 c.2 in
      let less : j.0 < i = j.1 in
      let h : IsItem (spots_down design depth x.0.cell (path ++ k ∷ []))
      (InstanceAt ((path ++ k ∷ []) ++ m ∷ rest)) =
      instance_there rest m depth j.0 x.0 end (path ++ k ∷ []) j.2 (omega arith) x.2 in
      step_item depth inst x.0 path k c.0 (InstanceAt (path ++ k ∷ m ∷ rest)) c.1 c.2
      (suc h.0, h.1 ∙ ap (λ p. Some (InstanceAt p)) (append_assoc path (k ∷ []) (m ∷ rest)))
