-- Row after row is joined.
use Rattle.std.proofs.Common.{◌≡◌, ◌<◌, ◌≤◌, ◌+◌, ◌∙◌, ℕ, List, length}
use Rattle.std.proofs.Common.{Option, Some, None, slice_get, sym, ap, subst, refl, inl, inr, arith}
use Rattle.std.proofs.lemmas.Bool.{cases_lt}
use Rattle.std.proofs.lemmas.Option.{same_Some, none-some}
use Rattle.ix_rec.specs.declared.device.DeviceRec.{DeviceRec}
use Rattle.ix_rec.specs.declared.netlist.Cell.{Cell}
use Rattle.ix_rec.specs.declared.netlist.CellInstance.{CellInstance}
use Rattle.ix_rec.specs.declared.netlist.NetlistRec.{NetlistRec}
use Rattle.ix_hierarchy.specs.declared.instance.Instance.{Instance}
use Rattle.ix_hierarchy.specs.declared.kind.Kind.{Kind}
use Rattle.ix_hierarchy.specs.declared.row.Row.{Row}
use Rattle.ix_hierarchy.specs.Hierarchy.{Path, inside, instance_at}
use Rattle.ix_hierarchy.specs.Lists.{IsNumber}
use Rattle.ix_bit_rows.specs.Table.{RowTable}
use Rattle.ix_pin_rows.specs.PinRows.{AreListed, ArePinRows}
use Rattle.ix_roots.specs.Forest.{AreUp, IsForest, Joins}
use Rattle.ix_one_net.specs.Joining.{AreKnown, IsKnown, AreRoots, AreKept, ArePaired, CrossesInto}
use Rattle.ix_one_net.proofs.Around.{IsAround, around}
use Rattle.ix_one_net.proofs.Reached.{inside_there}
use Rattle.ix_hierarchy.specs.Fits.{InstanceFits}
use Rattle.ix_one_net.proofs.Parts.{all_at}
use Rattle.ix_one_net.proofs.Chains.{sound_joined}
use Rattle.ix_one_net.proofs.Pairs.{IsPair, pair_at, covered}

-- the rows that are gone through are the instance's
abbrev pub AreFound : List Kind → RowTable → List Instance → (nets instance : ℕ)
    → (start end first : ℕ) → Type 0
AreFound kinds outer all nets instance start end first =
    (design : NetlistRec) (device : DeviceRec) (paths : List Path) (total : ℕ)
    (one parent : Instance) (cell : Cell)
    → AreListed design device kinds outer all paths total
    → slice_get all instance ≡ Some one → slice_get all one.parent ≡ Some parent
    → inside design parent.declaration ≡ Some cell
    → ArePinRows outer cell one.number start end × (first ≡ parent.first_net)

-- the rows before a place are joined
pub record IsCrossing (kinds : List Kind) (outer : RowTable) (inner : List (Option ℕ))
    (all : List Instance) (nets : ℕ) (before now : List ℕ) (instance start place : ℕ)
    (outer_first inner_first : ℕ) : Type 0 where
  pub many : length now ≡ length before
  pub up : AreUp now
  pub from : start ≤ place
  pub each : (design : NetlistRec) (device : DeviceRec) (paths : List Path)
      → AreKnown design device kinds outer inner all paths nets
      → (root : ℕ → ℕ) → AreRoots design all paths before root
      → (next : ℕ → ℕ) × AreRoots design all paths now next × AreKept root next
      × ArePaired outer.rows inner start place outer_first inner_first next

pub crossing_none : (kinds : List Kind) (outer : RowTable) (inner : List (Option ℕ))
    (all : List Instance) (nets : ℕ) (before : List ℕ) (instance start : ℕ)
    (outer_first inner_first : ℕ) → AreUp before
    → IsCrossing kinds outer inner all nets before before instance start start outer_first
    inner_first
crossing_none kinds outer inner all nets before instance start outer_first inner_first up = record {
  many = refl;
  up = up;
  from = omega arith;
  each = λ design device paths K root R. (
    root,
    R,
    λ x y e. e,
    λ k row net from to a b. absurd (omega arith),
  );
}

-- what is found of an instance at a known design
found_around : (design : NetlistRec) (device : DeviceRec) (kinds : List Kind) (outer : RowTable)
    (inner : List (Option ℕ)) (all : List Instance) (paths : List Path) (nets instance : ℕ)
    (start end first : ℕ) → AreKnown design device kinds outer inner all paths nets
    → (A : IsAround design all paths instance)
    → AreFound kinds outer all nets instance start end first
    → ArePinRows outer A.cell A.one.number start end × (first ≡ A.parent.first_net)
found_around design device kinds outer inner all paths nets instance start end first K A found =
    found design device paths nets A.one A.parent A.cell K.joinable.listed A.one_is A.parent_is
    A.cell_is

pub known_around : (design : NetlistRec) (device : DeviceRec) (kinds : List Kind)
    (outer : RowTable) (inner : List (Option ℕ)) (all : List Instance) (paths : List Path)
    (nets instance : ℕ) → AreKnown design device kinds outer inner all paths nets
    → 0 < instance → instance < length all → IsAround design all paths instance
known_around design device kinds outer inner all paths nets instance K some within =
    around design all paths nets instance K.joinable.listed.instances some within

-- the rows end within the table
pub ends_within : (kinds : List Kind) (outer : RowTable) (inner : List (Option ℕ))
    (all : List Instance) (nets instance start end first : ℕ)
    → IsKnown kinds outer inner all nets → 0 < instance → instance < length all
    → AreFound kinds outer all nets instance start end first
    → (end ≤ length outer.rows) × (end ≤ length inner)
ends_within kinds outer inner all nets instance start end first (design, device, paths, K) some
    within found =
    let A = known_around design device kinds outer inner all paths nets instance K some within in
    let P = found_around design device kinds outer inner all paths nets instance start end first K A
    found in
    let few = P.0.to in
    let many = K.joinable.inner_nets.many in
    (few, omega arith)

-- the numbers of a row's pair are below the count of all
pub pair_within : (kinds : List Kind) (outer : RowTable) (inner : List (Option ℕ))
    (all : List Instance) (nets instance start end first k : ℕ) (row : Row) (net : ℕ)
    (one : Instance) → IsKnown kinds outer inner all nets → 0 < instance → instance < length all
    → AreFound kinds outer all nets instance start end first → start ≤ k → k < end
    → slice_get outer.rows k ≡ Some row → slice_get inner k ≡ Some (Some net)
    → slice_get all instance ≡ Some one
    → (first + row.net < nets) × (one.first_net + net < nets)
pair_within kinds outer inner all nets instance start end first k row net one
    (design, device, paths, K) some within found from to row_is net_is one_is =
    let A = known_around design device kinds outer inner all paths nets instance K some within in
    let P = found_around design device kinds outer inner all paths nets instance start end first K A
    found in
    let pair : IsPair design all paths (A.parent.first_net + row.net) (A.one.first_net + net) =
    pair_at design device kinds outer inner all paths nets instance start end k row net K A P.0 from
    to row_is net_is in
    let same : A.one.first_net ≡ one.first_net =
    ap (λ (o : Instance). o.first_net) (same_Some A.one one (sym A.one_is ∙ one_is)) in
    let upper : A.parent.first_net + row.net < nets =
    K.numbered.below pair.upper (A.parent.first_net + row.net) pair.upper_is in
    let lower : A.one.first_net + net < nets =
    K.numbered.below pair.lower (A.one.first_net + net) pair.lower_is in
    let e = P.1 in
    (omega arith, omega arith)

-- a row without a net inside
pub crossing_skip : (kinds : List Kind) (outer : RowTable) (inner : List (Option ℕ))
    (all : List Instance) (nets : ℕ) (before now : List ℕ) (instance start place : ℕ)
    (outer_first inner_first : ℕ)
    → IsCrossing kinds outer inner all nets before now instance start place outer_first inner_first
    → slice_get inner place ≡ Some None
    → IsCrossing kinds outer inner all nets before now instance start (place + 1) outer_first
    inner_first
crossing_skip kinds outer inner all nets before now instance start place outer_first inner_first C
    none = record {
      many = C.many;
      up = C.up;
      from = let f = C.from in omega arith;
      each = λ design device paths K root R.
          let w = C.each design device paths K root R in (
            w.0,
            w.1,
            w.2,
            λ k row net from to a b. elim (cases_lt k place) [
              | inl less ↦ w.3 k row net from less a b
              | inr past ↦
                  let e : k ≡ place = omega arith in
                  let s : ◌≡◌ {A = Option ℕ} None (Some net) =
                  same_Some None (Some net) (sym none ∙ ap (slice_get inner) (sym e) ∙ b) in
                  absurd (none-some net s)
            ],
          );
    }

-- a row with one
pub crossing_join : (kinds : List Kind) (outer : RowTable) (inner : List (Option ℕ))
    (all : List Instance) (nets : ℕ) (before middle now : List ℕ)
    (instance start end place first : ℕ) (one : Instance) (row : Row) (net : ℕ)
    → 0 < instance → instance < length all → slice_get all instance ≡ Some one
    → AreFound kinds outer all nets instance start end first
    → IsCrossing kinds outer inner all nets before middle instance start place first one.first_net
    → place < end → slice_get outer.rows place ≡ Some row
    → slice_get inner place ≡ Some (Some net) → length now ≡ length middle → AreUp now
    → ((root : ℕ → ℕ) → IsForest middle root → (next : ℕ → ℕ) × IsForest now next
    × Joins root next (first + row.net) (one.first_net + net))
    → IsCrossing kinds outer inner all nets before now instance start (place + 1) first
    one.first_net
crossing_join kinds outer inner all nets before middle now instance start end place first one row
    net
    some within one_is found C to row_is net_is same up joins = record {
      many = same ∙ C.many;
      up = up;
      from = let f = C.from in omega arith;
      each = λ design device paths K root R.
          let w = C.each design device paths K root R in
          let n = joins w.0 w.1.forest in
          let A : IsAround design all paths instance =
          known_around design device kinds outer inner all paths nets instance K some within in
          let P =
          found_around design device kinds outer inner all paths nets instance start end first K
          A found in
          let pair : IsPair design all paths (A.parent.first_net + row.net) (A.one.first_net + net)
          =
          pair_at design device kinds outer inner all paths nets instance start end place row net K
          A
          P.0 C.from to row_is net_is in
          let first_is : A.parent.first_net + row.net ≡ first + row.net =
          ap (λ (k : ℕ). k + row.net) (sym P.1) in
          let one_same : A.one.first_net + net ≡ one.first_net + net =
          ap (λ (o : Instance). o.first_net + net) (same_Some A.one one (sym A.one_is ∙ one_is)) in (
            n.0,
            record {
              forest = n.1;
              sound = sound_joined design all paths w.0 n.0 (first + row.net) (one.first_net + net)
                  pair.upper pair.lower w.1.sound n.2
                  (subst (λ (x : ℕ). IsNumber design all paths pair.upper x) first_is pair.upper_is)
                  (subst (λ (x : ℕ). IsNumber design all paths pair.lower x) one_same pair.lower_is)
                  pair.enters;
            },
            λ x y e. n.2.keeps x y (w.2 x y e),
            λ k other o from less a b. elim (cases_lt k place) [
              | inl before ↦ n.2.keeps (first + other.net) (one.first_net + o)
                  (w.3 k other o from before a b)
              | inr past ↦
                  let e : k ≡ place = omega arith in
                  let r : row ≡ other = same_Some row other
                  (sym row_is ∙ ap (slice_get outer.rows) (sym e) ∙ a) in
                  let s : ◌≡◌ {A = Option ℕ} (Some net) (Some o) = same_Some (Some net) (Some o)
                  (sym net_is ∙ ap (slice_get inner) (sym e) ∙ b) in
                  let m : net ≡ o = same_Some net o s in
                  ap (λ (x : Row). n.0 (first + x.net)) (sym r) ∙ n.2.joined
                  ∙ ap (λ (x : ℕ). n.0 (one.first_net + x)) m
            ],
          );
    }

-- behind the last row
pub crossing_all : (kinds : List Kind) (outer : RowTable) (inner : List (Option ℕ))
    (all : List Instance) (nets : ℕ) (before now : List ℕ)
    (instance start end place first : ℕ) (one : Instance)
    → 0 < instance → instance < length all → slice_get all instance ≡ Some one
    → AreFound kinds outer all nets instance start end first
    → IsCrossing kinds outer inner all nets before now instance start place first one.first_net
    → end ≤ place → CrossesInto kinds outer inner all nets before now instance
crossing_all kinds outer inner all nets before now instance start end place first one some within
    one_is found C past = λ design device paths K root R.
    let w = C.each design device paths K root R in
    let A : IsAround design all paths instance =
    known_around design device kinds outer inner all paths nets instance K some within in
    let P = found_around design device kinds outer inner all paths nets instance start end first K
    A found in
    let same : one.first_net ≡ A.one.first_net =
    ap (λ (o : Instance). o.first_net) (same_Some one A.one (sym one_is ∙ A.one_is)) in (
      w.0,
      w.1,
      w.2,
      covered design device kinds outer inner all paths nets instance start end w.0 K A P.0
          (λ k row net from to a b.
          ap (λ (f : ℕ). w.0 (f + row.net)) (sym P.1) ∙ w.3 k row net from (omega arith) a b
          ∙ ap (λ (f : ℕ). w.0 (f + net)) same),
    )

-- nothing crosses into a leaf
pub leaf_crosses : (kinds : List Kind) (outer : RowTable) (inner : List (Option ℕ))
    (all : List Instance) (nets : ℕ) (before : List ℕ) (instance : ℕ) (one : Instance)
    → 0 < instance → instance < length all → slice_get all instance ≡ Some one
    → ((design : NetlistRec) (device : DeviceRec) (paths : List Path)
    → AreKnown design device kinds outer inner all paths nets
    → inside design one.declaration ≡ None)
    → CrossesInto kinds outer inner all nets before before instance
leaf_crosses kinds outer inner all nets before instance one some within one_is leaf =
    λ design device paths K root R. (
      root,
      R,
      λ x y e. e,
      λ upper lower x y E at N M.
          let A : IsAround design all paths instance =
          known_around design device kinds outer inner all paths nets instance K some within in
          let there = inside_there design lower.path E.inner_cell E.there.inside in
          let at_path : A.path ≡ lower.path = same_Some A.path lower.path (sym A.path_is ∙ at) in
          let same : A.inst ≡ there.0 = same_Some A.inst there.0
          (sym A.at ∙ ap (instance_at design) at_path ∙ there.1) in
          let d : one.declaration ≡ there.0.cell =
          ap (λ (o : Instance). o.declaration) (same_Some one A.one (sym one_is ∙ A.one_is))
          ∙ sym A.declared ∙ ap (λ (i : CellInstance). i.cell) same in
          absurd (none-some E.inner_cell
          (sym (leaf design device paths K) ∙ ap (inside design) d ∙ there.2)),
    )

-- the declaration of an instance has a kind
pub one_declared : (kinds : List Kind) (outer : RowTable) (inner : List (Option ℕ))
    (all : List Instance) (nets instance : ℕ) (one : Instance)
    → IsKnown kinds outer inner all nets → 0 < instance → instance < length all
    → slice_get all instance ≡ Some one → one.declaration < length kinds
one_declared kinds outer inner all nets instance one (design, device, paths, K) some within one_is =
    let A : IsAround design all paths instance =
    known_around design device kinds outer inner all paths nets instance K some within in
    let F : InstanceFits K.joinable.listed.names design A.inst =
    all_at (InstanceFits K.joinable.listed.names design) design.inst_list A.one.number A.inst
    K.joinable.listed.fits.insts A.in_list in
    let few : A.inst.cell < length design.cell_decls = F.cell in
    let same : one.declaration ≡ A.one.declaration =
    ap (λ (o : Instance). o.declaration) (same_Some one A.one (sym one_is ∙ A.one_is)) in
    let e = A.declared in
    let many = K.joinable.listed.are_kinds.many in
    omega arith
