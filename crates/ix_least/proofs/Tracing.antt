-- How the path is traced back from the target.
use Rattle.std.proofs.Common.{◌≡◌, ℕ, ◌+◌, ◌<◌, ◌≤◌, List, [], ◌∷◌, Option, length, refl, sym, ◌∙◌}
use Rattle.std.proofs.Common.{ap, subst, arith}
use Rattle.ix_least.specs.declared.labels.Label.{Label}
use Rattle.ix_least.specs.Labels.{IsKnown, count_above}
use Rattle.ix_least.specs.Settling.{IsEntered, IsFinal, IsFound}
use Rattle.ix_least.specs.Walks.{Question, IsWalk, IsDist, IsTraced, IsLeastPath, IsLeastWalk}
use Rattle.ix_least.proofs.Marks.{known_once, count_above_le, count_above-less}

-- the path was traced back to a point: these edges lead from it to the target
pub record IsTracing (q : Question) (target : ℕ) (labels : List (Option Label)) (point : ℕ)
    (label : Label) (edges : List (ℕ × ℕ)) : Type 0 where
  pub final : IsFinal q labels point label
  pub traced : IsTraced q point edges target
  pub cost : ℕ
  pub walk : IsWalk q point edges target cost
  pub dist : IsDist q target (label.dist + cost)
  pub fewer : length edges ≤ count_above label.dist labels

-- at the target
pub tracing_start : (q : Question) (target : ℕ) (labels : List (Option Label)) (label : Label) →
    IsKnown labels target label → IsFound q target labels →
    IsTracing q target labels target label []
unfolding IsTraced IsWalk
tracing_start q target labels label known f =
    let same : f.label ≡ label = known_once labels target f.label label f.known known in
    let final : IsFinal q labels target label = subst (λ (l : Label). IsFinal q labels target l)
    same f.target_final in
    record {
      final = final;
      traced = refl;
      cost = 0;
      walk = (refl, refl);
      dist = subst (λ (n : ℕ). IsDist q target n) (omega arith) final.dist;
      fewer = omega arith;
    }

-- one edge back
pub tracing_back : (q : Question) (target : ℕ) (labels : List (Option Label)) (point : ℕ)
    (label next : Label) (edges : List (ℕ × ℕ)) → IsFound q target labels →
    IsKnown labels point label → 0 < label.dist → IsKnown labels label.from next →
    IsTracing q target labels point label edges → IsTracing q target labels label.from next
    ((label.edge, point) ∷ edges)
unfolding IsTraced IsWalk
tracing_back q target labels point label next edges f known some known_next t =
    let e : IsEntered q labels point label = t.final.last some in
    let same : e.last ≡ next = known_once labels label.from e.last next e.known known_next in
    let dist_is : next.dist + e.cost ≡ label.dist = ap (λ (l : Label). l.dist + e.cost) (sym same)
    ∙ sym e.dist in
    record {
      final = subst (λ (l : Label). IsFinal q labels label.from l) same
          (f.final label.from e.last e.known e.settled);
      traced = (t.final.last_edge some, t.traced);
      cost = e.cost + t.cost;
      walk = (e.cost, t.cost, e.step, t.walk, refl);
      dist = subst (λ (n : ℕ). IsDist q target n) (omega (arith, dist_is)) t.dist;
      fewer = omega (
        arith,
        t.fewer,
        count_above-less next.dist labels point label known
            (omega (arith, dist_is, e.some)),
      );
    }

-- the edge before was known to be entered
pub known_before : (q : Question) (target : ℕ) (labels : List (Option Label)) (point : ℕ)
    (label : Label) (edges : List (ℕ × ℕ)) → IsTracing q target labels point label edges →
    0 < label.dist → (next : Label) × IsKnown labels label.from next
known_before q target labels point label edges t some = let e : IsEntered q labels point label =
    t.final.last some in (e.last, e.known)

-- the label before costs less
pub less_before : (q : Question) (target : ℕ) (labels : List (Option Label)) (point : ℕ)
    (label next : Label) (edges : List (ℕ × ℕ)) → IsTracing q target labels point label edges →
    0 < label.dist → IsKnown labels label.from next → next.dist < label.dist
less_before q target labels point label next edges t some known =
    let e : IsEntered q labels point label = t.final.last some in
    omega (
      arith,
      e.dist,
      e.some,
      ap (λ (l : Label). l.dist)
          (known_once labels label.from e.last next e.known known),
    )

-- at a source
pub traced_path : (q : Question) (target : ℕ) (labels : List (Option Label)) (point : ℕ)
    (label : Label) (edges : List (ℕ × ℕ)) → label.dist ≡ 0 →
    IsTracing q target labels point label edges → IsLeastPath q target
    (record { source = point; edges = edges })
traced_path q target labels point label edges none t =
    record { source = t.final.source none; traced = t.traced }

pub traced_walk : (q : Question) (target : ℕ) (labels : List (Option Label)) (point : ℕ)
    (label : Label) (edges : List (ℕ × ℕ)) → label.dist ≡ 0 →
    IsTracing q target labels point label edges → IsLeastWalk q target
    (record { source = point; edges = edges })
traced_walk q target labels point label edges none t = record {
  cost = t.cost;
  walk = t.walk;
  dist = subst (λ (n : ℕ). IsDist q target n) (omega (arith, none)) t.dist;
}

-- the path has fewer edges than there are points
pub traced_few : (q : Question) (target : ℕ) (labels : List (Option Label)) (point : ℕ)
    (label : Label) (edges : List (ℕ × ℕ)) → IsTracing q target labels point label edges →
    length edges ≤ length labels
traced_few q target labels point label edges t =
    omega (arith, t.fewer, count_above_le label.dist labels)
