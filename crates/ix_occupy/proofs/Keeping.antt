-- What contracts see of a write to one node, and that the counts still fit.
use Rattle.std.proofs.Common.{◌≡◌, ◌≢◌, ◌<◌, ◌≤◌, refl, ap, sym, subst, ◌∙◌, ℕ, ◌+◌, ◌^◌, Bool}
use Rattle.std.proofs.Common.{true, false, cond, nat_le, List, length, set, map, get_or-set_other}
use Rattle.std.proofs.Common.{get_or-set_same, ◌⊎◌, inl, inr, arith}
use mir.Val.{bool_byte}
use Rattle.std.specs.List.{count_by}
use Rattle.std.proofs.lemmas.Bool.{cases_eq, cases_lt, le-leb, lt-leb}
use Rattle.std.proofs.lemmas.List.{length-set, length-map}
use Rattle.std.proofs.lemmas.List.Sums.{count_by-le-length}
use Rattle.ix_occupy.specs.declared.loads.NodeLoad.{NodeLoad}
use Rattle.ix_occupy.specs.Loads.{Load, Recounts}
use Rattle.ix_occupy.specs.Kept.{load_of, kept_at, blank, IsKept}
use Rattle.ix_occupy.proofs.Counting.{hit, one_self, none_other, count_set}
use Rattle.ix_occupy.proofs.Views.{holder_count-view, hist_at-view, holders_seen, hist_seen}
use Rattle.ix_occupy.proofs.Views.{length_seen}

-- what a node that was touched adds to their number
abbrev pub touching_of : NodeLoad → ℕ
touching_of load = cond load.touched 1 0

-- what a node with so many holders adds to the number of shared nodes
abbrev pub sharing_of : ℕ → ℕ
sharing_of holders = cond (nat_le 2 holders) 1 0

pub sharing_of-few : (n : ℕ) → n < 2 → sharing_of n ≡ 0
sharing_of-few n h = let as_count : Bool → ℕ = λ b. cond b 1 0 in ap as_count (lt-leb 2 n h)

pub sharing_of-many : (n : ℕ) → 2 ≤ n → sharing_of n ≡ 1
sharing_of-many n h = let as_count : Bool → ℕ = λ b. cond b 1 0 in ap as_count (le-leb 2 n h)

-- one holder more makes a node shared exactly where it had one
pub sharing_of-add-one : (n : ℕ) → sharing_of (n + 1) ≡ sharing_of n + hit n 1
sharing_of-add-one n = by (cases_eq n 1) (cases_lt n 2)
  where
    by : (n ≡ 1) ⊎ (n ≡ 1 → ⊥) → (n < 2) ⊎ (2 ≤ n) → sharing_of (n + 1) ≡ sharing_of n + hit n 1
    by (inl e) (inl few) =
        let own : hit n 1 ≡ 1 = subst (λ (m : ℕ). hit m 1 ≡ 1) (sym e) (one_self 1) in
        omega (arith, own, sharing_of-few n few, sharing_of-many (n + 1) (omega arith))
    by (inl e) (inr many) = absurd (omega arith)
    by (inr ne) (inl few) =
        let none : hit n 1 ≡ 0 = none_other n 1 ne in
        let lower : n + 1 < 2 = omega (arith, ne) in
        omega (arith, sharing_of-few n few, sharing_of-few (n + 1) lower)
    by (inr ne) (inr many) =
        let none : hit n 1 ≡ 0 = none_other n 1 ne in
        let more : 2 ≤ n + 1 = omega arith in
        omega (arith, sharing_of-many n many, sharing_of-many (n + 1) more)

-- what contracts see of a write to one node that leaves its history
pub recounts : (view : List Load) (loads : List NodeLoad) (node place count : ℕ) (new : NodeLoad)
    → map load_of loads ≡ view
    → node < length view → place ≡ node → new.holders ≡ count → new.hist ≡ (kept_at loads node).hist
    → Recounts view (map load_of (set loads place new)) node count
recounts view loads node place count new e inside at is same = record {
  nodes = length-map (set loads place new) load_of
      ∙ (length-set loads place new ∙ sym (length_seen view loads e));
  changed = holder_count-view (set loads place new) node
      ∙ (ap (λ (l : NodeLoad). l.holders) here ∙ is);
  others = λ other ne. holder_count-view (set loads place new) other
      ∙ (ap (λ (l : NodeLoad). l.holders) (there other ne) ∙ sym (holders_seen view loads other e));
  hist = λ other. hist_at-view (set loads place new) other
      ∙ (hist other (cases_eq other node) ∙ sym (hist_seen view loads other e));
}
  where
    here : kept_at (set loads place new) node ≡ new
    here = subst (λ (n : ℕ). kept_at (set loads place new) n ≡ new) at
        (get_or-set_same loads place new blank (omega (arith, length_seen view loads e)))

    there : (other : ℕ) → other ≢ node → kept_at (set loads place new) other ≡ kept_at loads other
    there other ne = get_or-set_other loads place other new blank (λ is'. ne (is' ∙ at))

    hist : (other : ℕ) → (other ≡ node) ⊎ (other ≡ node → ⊥)
        → (kept_at (set loads place new) other).hist ≡ (kept_at loads other).hist
    hist other (inl is') =
        subst (λ (n : ℕ). (kept_at (set loads place new) n).hist ≡ (kept_at loads n).hist) (sym is')
        (ap (λ (l : NodeLoad). l.hist)
        (subst (λ (n : ℕ). kept_at (set loads place new) n ≡ new) at
        (get_or-set_same loads place new blank (omega (arith, length_seen view loads e))))
        ∙ same)
    hist other (inr ne) = ap (λ (l : NodeLoad). l.hist)
        (get_or-set_other loads place other new blank (λ is'. ne (is' ∙ at)))

-- after one claim more the number of shared nodes still fits
pub few_shared : (loads : List NodeLoad) (touched : List ℕ) (capacity sharing place : ℕ)
    (load : NodeLoad)
    → IsKept loads touched capacity sharing → place < length loads → load ≡ kept_at loads place
    → sharing + hit load.holders 1 < 2 ^ 32
few_shared loads touched capacity sharing place load kept inside is =
    let e : count_by (λ l. nat_le 2 l.holders) (set loads place
    (record load { holders = load.holders + 1 })) + sharing_of (kept_at loads place).holders
    ≡ count_by (λ l. nat_le 2 l.holders) loads + sharing_of (load.holders + 1) =
    count_set (λ (l : NodeLoad). nat_le 2 l.holders) loads place
    (record load { holders = load.holders + 1 }) blank inside in
    let was : sharing_of load.holders ≡ sharing_of (kept_at loads place).holders =
    ap (λ (l : NodeLoad). sharing_of l.holders) is in
    let step : sharing_of (load.holders + 1) ≡ sharing_of load.holders + hit load.holders 1 =
    sharing_of-add-one load.holders in
    let all : count_by (λ l. nat_le 2 l.holders)
    (set loads place (record load { holders = load.holders + 1 })) ≤ length
    (set loads place (record load { holders = load.holders + 1 })) =
    count_by-le-length (λ (l : NodeLoad). nat_le 2 l.holders)
    (set loads place (record load { holders = load.holders + 1 })) in
    omega (
      arith,
      kept.shared,
      kept.few,
      length-set loads place
          (record load { holders = load.holders + 1 }),
    )

-- where a node was never touched there is room for it among the touched
pub room_for : (loads : List NodeLoad) (touched : List ℕ) (capacity sharing place : ℕ)
    (load : NodeLoad)
    → IsKept loads touched capacity sharing → place < length loads → load ≡ kept_at loads place
    → load.touched ≡ false → length touched < capacity
room_for loads touched capacity sharing place load kept inside is fresh =
    let e : count_by (λ l. l.touched) (set loads place (record load { touched = true })) +
    touching_of (kept_at loads place) ≡ count_by (λ l. l.touched) loads + 1 =
    count_set (λ (l : NodeLoad). l.touched) loads place
    (record load { touched = true }) blank inside in
    let was : touching_of load ≡ touching_of (kept_at loads place) = ap touching_of is in
    let none : touching_of load ≡ 0 = as_zero fresh in
    let all : count_by (λ l. l.touched) (set loads place (record load { touched = true })) ≤ length
    (set loads place (record load { touched = true })) =
    count_by-le-length (λ (l : NodeLoad). l.touched)
    (set loads place (record load { touched = true })) in
    omega (arith, kept.counted, kept.room, length-set loads place (record load { touched = true }))
  where
    as_zero : load.touched ≡ false → touching_of load ≡ 0
    as_zero h = let as_count : Bool → ℕ = λ b. cond b 1 0 in ap as_count h

-- a test as a number
pub byte_is : (b : Bool) → bool_byte b ≡ cond b 1 0
byte_is true = refl
byte_is false = refl
