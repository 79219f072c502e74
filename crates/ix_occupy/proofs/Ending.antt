-- The end of a round.
use Rattle.std.proofs.Common.{◌≡◌, ◌<◌, ◌≤◌, refl, ap, sym, subst, ◌∙◌, ℕ, ◌+◌, min, Bool, true}
use Rattle.std.proofs.Common.{false, cond, nat_le, List, length, map, ◌⊎◌, inl, inr, arith}
use Rattle.std.specs.List.{count_by}
use Rattle.std.proofs.lemmas.Bool.{cases_lt, le-leb, lt-leb}
use Rattle.std.proofs.lemmas.List.{length-map, get_or-map, ext_get_or}
use Rattle.ix_occupy.specs.declared.loads.NodeLoad.{NodeLoad}
use Rattle.ix_occupy.specs.Steps.{times, most_hist}
use Rattle.ix_occupy.specs.Loads.{Load, EndsRound}
use Rattle.ix_occupy.specs.Kept.{load_of, kept_at, blank, at_end, EndsAt, IsKept}
use Rattle.ix_occupy.proofs.Counting.{count_map}
use Rattle.ix_occupy.proofs.Views.{holder_count-view, hist_at-view, holders_seen, hist_seen}
use Rattle.ix_occupy.proofs.Views.{length_seen}
use Rattle.ix_occupy.proofs.Sharing.{held_touched}

-- the end of a round leaves the holders of a node, and whether it was touched
pub at_end-holders : (l : NodeLoad) → (at_end l).holders ≡ l.holders
at_end-holders l = by (nat_le 2 l.holders)
  where
    by : (b : Bool)
        → (let m : NodeLoad = cond b (record l { hist = min (l.hist + 1) most_hist }) l in
        m.holders) ≡ l.holders
    by true = refl
    by false = refl

pub at_end-touched : (l : NodeLoad) → (at_end l).touched ≡ l.touched
at_end-touched l = by (nat_le 2 l.holders)
  where
    by : (b : Bool)
        → (let m : NodeLoad = cond b (record l { hist = min (l.hist + 1) most_hist }) l in
        m.touched) ≡ l.touched
    by true = refl
    by false = refl

pub at_end-many : (l : NodeLoad) → 2 ≤ l.holders → (at_end l).hist ≡ min (l.hist + 1) most_hist
at_end-many l many =
    ap (λ (b : Bool). (let m : NodeLoad = cond b
    (record l { hist = min (l.hist + 1) most_hist }) l in m.hist)) (le-leb 2 l.holders many)

pub at_end-few : (l : NodeLoad) → l.holders < 2 → at_end l ≡ l
at_end-few l few =
    ap (λ (b : Bool). (let m : NodeLoad = cond b
    (record l { hist = min (l.hist + 1) most_hist }) l in m)) (lt-leb 2 l.holders few)

-- a node that was not touched is as at the end of a round too, so the walk over the touched serves
-- all
pub ends_all : (before now : List NodeLoad) (touched : List ℕ) (capacity sharing : ℕ)
    → IsKept before touched capacity sharing → EndsAt before now touched
    → (node : ℕ) → kept_at now node ≡ at_end (kept_at before node)
ends_all before now touched capacity sharing kept ends node =
    by (cases_lt 0 (times node touched)) (cases_lt (kept_at before node).holders 2)
  where
    by : (0 < times node touched) ⊎ (times node touched ≤ 0)
        → ((kept_at before node).holders < 2) ⊎ (2 ≤ (kept_at before node).holders)
        → kept_at now node ≡ at_end (kept_at before node)
    by (inl some) _ = ends.here node some
    by (inr none) (inl few) = ends.others node (omega arith)
        ∙ sym (at_end-few (kept_at before node) few)
    by (inr none) (inr many) =
        let some : 0 < times node touched = held_touched before touched capacity sharing kept node
        (omega arith) in
        absurd (omega arith)

-- two lists that agree in a test have as many elements that pass it
pub count_same : (p : NodeLoad → Bool) (xs ys : List NodeLoad) → length xs ≡ length ys
    → ((node : ℕ) → p (kept_at xs node) ≡ p (kept_at ys node)) → count_by p xs ≡ count_by p ys
count_same p xs ys same each =
    let lists : map p xs ≡ map p ys =
    ext_get_or false (map p xs) (map p ys) (length-map xs p ∙ (same ∙ sym (length-map ys p)))
    (λ i inside.
    let in_xs : i < length xs = omega (arith, length-map xs p) in
    let in_ys : i < length ys = omega (arith, same) in
    get_or-map p xs i blank false in_xs ∙ (each i ∙ sym (get_or-map p ys i blank false in_ys))) in
    sym (count_map (λ (b : Bool). b) p xs) ∙ (ap (count_by (λ (b : Bool). b)) lists
    ∙ count_map (λ (b : Bool). b) p ys)

pub kept_end : (before now : List NodeLoad) (touched : List ℕ) (capacity sharing : ℕ)
    → IsKept before touched capacity sharing → EndsAt before now touched
    → IsKept now touched capacity sharing
kept_end before now touched capacity sharing kept ends = record {
  few = omega (arith, kept.few, ends.nodes);
  room = omega (arith, kept.room, ends.nodes);
  counted = kept.counted ∙ count_same (λ l. l.touched) before now (sym ends.nodes)
      (λ n. sym (marks n));
  once = λ n. kept.once n ∙ ap touching_of-Bool (sym (marks n));
  held = λ n some. marks n ∙ kept.held n (subst (λ (m : ℕ). 0 < m) (holds n) some);
  shared = kept.shared ∙ count_same (λ l. nat_le 2 l.holders) before now (sym ends.nodes)
      (λ n. sym (ap (λ (m : ℕ). nat_le 2 m) (holds n)));
}
  where
    touching_of-Bool : Bool → ℕ
    touching_of-Bool b = cond b 1 0

    marks : (n : ℕ) → (kept_at now n).touched ≡ (kept_at before n).touched
    marks n =
        ap (λ (l : NodeLoad). l.touched) (ends_all before now touched capacity sharing kept ends n)
        ∙ at_end-touched (kept_at before n)

    holds : (n : ℕ) → (kept_at now n).holders ≡ (kept_at before n).holders
    holds n =
        ap (λ (l : NodeLoad). l.holders) (ends_all before now touched capacity sharing kept ends n)
        ∙ at_end-holders (kept_at before n)

pub ends_round : (view : List Load) (before now : List NodeLoad) (touched : List ℕ)
    (capacity sharing : ℕ) → map load_of before ≡ view
    → IsKept before touched capacity sharing → EndsAt before now touched
    → EndsRound view (map load_of now)
ends_round view before now touched capacity sharing e kept ends = record {
  nodes = length-map now load_of ∙ (ends.nodes ∙ sym (length_seen view before e));
  holders = λ n. holder_count-view now n ∙ (ap (λ (l : NodeLoad). l.holders) (all n)
      ∙ (at_end-holders (kept_at before n) ∙ sym (holders_seen view before n e)));
  shared = λ n many.
      let held : 2 ≤ (kept_at before n).holders = omega (arith, holders_seen view before n e) in
      hist_at-view now n ∙ (ap (λ (l : NodeLoad). l.hist) (all n)
      ∙ (at_end-many (kept_at before n) held ∙ ap (λ (h : ℕ). min (h + 1) most_hist)
      (sym (hist_seen view before n e))));
  others = λ n few.
      let held : (kept_at before n).holders < 2 = omega (arith, holders_seen view before n e) in
      hist_at-view now n
      ∙ (ap (λ (l : NodeLoad). l.hist) (all n ∙ at_end-few (kept_at before n) held)
      ∙ sym (hist_seen view before n e));
}
  where
    all : (n : ℕ) → kept_at now n ≡ at_end (kept_at before n)
    all n = ends_all before now touched capacity sharing kept ends n
