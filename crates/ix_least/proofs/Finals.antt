-- What is settled is final: each walk leads to a settled point or is ahead of the queue.
use Rattle.std.proofs.Common.{◌≡◌, ℕ, ◌+◌, ◌≤◌, ◌⊎◌, inl, inr, true, false, List, [], ◌∷◌, Option}
use Rattle.std.proofs.Common.{Some, refl, sym, ◌∙◌, ap, subst, arith, Contains}
use Rattle.ix_least.specs.declared.labels.Label.{Label}
use Rattle.ix_least.specs.declared.queue.Entry.{Entry}
use Rattle.ix_least.specs.Labels.{IsKnown}
use Rattle.ix_least.specs.Queue.{Takes, Precedes}
use Rattle.ix_least.specs.Settling.{IsNoWorse, IsEntered, all_edges, IsQueued, HasEntry, IsSettling}
use Rattle.ix_least.specs.Settling.{HasSources, IsRising, IsFinal, IsFound}
use Rattle.ix_least.specs.Walks.{Question, IsStep, IsWalk, HasWalk, IsDist, IsTied, IsLastEdge}
use Rattle.ix_least.proofs.Marks.{known_once}
use Rattle.ix_least.proofs.Leaves.{lt_or_le, bool_cases}
use Rattle.ix_least.proofs.Steps.{comes_first}

-- an entry of the queue comes no later than the point at this cost
record IsAhead (key : ℕ → ℕ → ℕ) (queue : List Entry) (point cost : ℕ) : Type 0 where
  entry : Entry
  queued : Contains queue entry
  key_le : entry.key ≤ key point cost
  dist_le : entry.dist ≤ cost

module _ (q : Question) (key : ℕ → ℕ → ℕ) (target : ℕ) (labels : List (Option Label))
    (queue : List Entry) (rising : IsRising q key) (s : IsSettling q key target
    (all_edges q) labels queue) (sources : HasSources q.sources labels) where
  -- the point is settled at no more than this cost, or an entry comes before it
  abbrev IsCovered : ℕ → ℕ → Type 0
  IsCovered point cost = ((l : Label) × IsKnown labels point l × (l.settled ≡ true)
      × (l.dist ≤ cost)) ⊎ IsAhead key queue point cost

  known_covered : (point cost : ℕ) (l : Label) → IsKnown labels point l → l.dist ≤ cost →
      IsCovered point cost
  known_covered point cost l known le =
      elim (bool_cases l.settled) [
        | inl settled ↦ inl (l, known, settled, le)
        | inr not ↦
            let had : HasEntry queue point l.dist = s.unsettled point l known not in
            let key_is : had.entry.key ≡ key point l.dist =
            (s.entries had.entry had.queued).key_is
            ∙ (ap (λ (j : ℕ). key j had.entry.dist) had.point_is ∙ ap (key point) had.dist_is)
            in
            let up : key point l.dist ≤ key point cost = rising.with_cost point l.dist cost le in
            inr (record {
              entry = had.entry;
              queued = had.queued;
              key_le = omega arith;
              dist_le =
                  omega (arith, had.dist_is);
            })
      ]

  step_covered : (from edge to cost more : ℕ) → IsCovered from cost → IsStep q from edge to more →
      IsCovered to (cost + more)
  step_covered from edge to cost more (inl at) step =
      let over : (1 ≤ more) × ((l : Label) × IsKnown labels to l
      × IsNoWorse l (at.0.dist + more) edge) =
      (s.left from at.0 at.1 at.2).gone_over edge to step.leads more step.costs in
      known_covered to (cost + more) over.1.0 over.1.1
      (elim over.1.2 [
        | inl less ↦ omega (arith, at.3)
        | inr same ↦
            omega (arith, at.3, same.0)
      ])
  step_covered from edge to cost more (inr ahead) step =
      let up : key from cost ≤ key to (cost + more) =
      rising.with_step from edge to more cost step in
      inr (record {
        entry = ahead.entry;
        queued = ahead.queued;
        key_le =
            omega (arith, ahead.key_le);
        dist_le = omega (arith, ahead.dist_le);
      })

  walk_covered : (from : ℕ) (edges : List (ℕ × ℕ)) (to cost start : ℕ) → IsCovered from start →
      IsWalk q from edges to cost → IsCovered to (start + cost)
  unfolding IsWalk
  walk_covered from [] to cost start covered (here, none) =
      let same : start ≡ start + cost = omega (arith, none) in
      subst (λ (j : ℕ). IsCovered j (start + cost)) here
      (subst (λ (n : ℕ). IsCovered from n) same covered)
  walk_covered from (e ∷ edges) to cost start covered (first, others, step, rest, is) =
      let same : start + first + others ≡ start + cost = omega (arith, is) in
      subst (λ (n : ℕ). IsCovered to n) same (walk_covered e.1 edges to others (start + first)
      (step_covered from e.0 e.1 start first covered step) rest)

  covered : (point cost : ℕ) → HasWalk q point cost → IsCovered point cost
  covered point cost w =
      let start : (l : Label) × IsKnown labels w.source l × (l.dist ≡ 0) =
      sources w.source w.starts in
      subst (λ (n : ℕ). IsCovered point n) (omega arith) (walk_covered w.source w.edges point cost 0
      (known_covered w.source 0 start.0 start.1 (omega (arith, start.2))) w.walk)

  module _ (point : ℕ) (l : Label) (known : IsKnown labels point l)
      (first : (e : Entry) → Contains queue e → Precedes (key point l.dist) l.dist e) where
    -- of a point before which no entry comes each walk costs as much or more
    first_least : (cost : ℕ) → HasWalk q point cost → l.dist ≤ cost
    first_least cost w =
        elim (lt_or_le cost l.dist) [
          | inr le ↦ le
          | inl less ↦ elim (covered point cost w) [
            | inl at ↦ omega (
              arith,
              at.3,
              ap (λ (x : Label). x.dist)
                  (known_once labels point l at.0 known at.1),
            )
            | inr ahead ↦
                let up : key point cost ≤ key point l.dist =
                rising.with_cost point cost l.dist (omega arith) in
                elim (first ahead.entry ahead.queued) [
                  | inl before ↦ absurd (omega (arith, before, ahead.key_le, up))
                  | inr same ↦ omega (arith, same.1, ahead.dist_le)
                ]
          ]
        ]

    first_dist : IsDist q point l.dist
    first_dist = record { walk = s.walks point l known; least = first_least }

  -- the costs of settled points are least
  settled_dist : (point : ℕ) (l : Label) → IsKnown labels point l → l.settled ≡ true →
      IsDist q point l.dist
  settled_dist point l known settled = first_dist point l known (s.left point l known settled).first

  module _ (point : ℕ) (l : Label) (known : IsKnown labels point l)
      (first : (e : Entry) → Contains queue e → Precedes (key point l.dist) l.dist e) where
    -- of the edges that tie the label has the least
    first_edge : IsEntered q labels point l → (from edge : ℕ) → IsTied q from edge point →
        l.edge ≤ edge
    first_edge e from edge t =
        let least : l.dist ≤ t.dist + t.cost = first_least point l known first
        (t.dist + t.cost) t.to_dist.walk in
        let most : t.dist + t.cost ≤ l.dist = t.to_dist.least l.dist (s.walks point l known) in
        let costs : Some t.cost ≡ Some e.cost = sym t.step.costs ∙ e.step.costs in
        let cost : t.cost ≡ e.cost = cc in
        let some : 1 ≤ t.cost = omega (arith, e.some) in
        elim (covered from t.dist t.from_dist.walk) [
          | inl at ↦
              let from_least : t.dist ≤ at.0.dist = t.from_dist.least at.0.dist
              (s.walks from at.0 at.1) in
              let over : (1 ≤ t.cost) × ((m : Label) × IsKnown labels point m
              × IsNoWorse m (at.0.dist + t.cost) edge) =
              (s.left from at.0 at.1 at.2).gone_over edge point t.step.leads t.cost t.step.costs
              in
              let same : l ≡ over.1.0 = known_once labels point l over.1.0 known over.1.1 in
              let same_dist : l.dist ≡ over.1.0.dist = ap (λ (x : Label). x.dist) same in
              let same_edge : l.edge ≡ over.1.0.edge = ap (λ (x : Label). x.edge) same in
              elim over.1.2 [
                | inl less ↦ absurd (omega (arith, at.3))
                | inr tied ↦
                    omega (arith, tied.1)
              ]
          | inr ahead ↦
              let up : key from t.dist ≤ key point (t.dist + t.cost) =
              rising.with_step from edge point t.cost t.dist t.step in
              let dist_is : t.dist + t.cost ≡ l.dist = omega arith in
              let key_is : key point (t.dist + t.cost) ≡ key point l.dist =
              ap (key point) dist_is in
              elim (first ahead.entry ahead.queued) [
                | inl before ↦ absurd (omega (arith, ahead.key_le))
                | inr same ↦ absurd (omega (arith, same.1, ahead.dist_le))
              ]
        ]

    first_last_edge : IsEntered q labels point l → IsLastEdge q l.from l.edge point
    first_last_edge e = record {
      no_source = λ starts.
          let source : (m : Label) × IsKnown labels point m × (m.dist ≡ 0) = sources point starts in
          let same : l.dist ≡ source.0.dist = ap (λ (x : Label). x.dist)
          (known_once labels point l source.0 known source.1) in
          omega (arith, e.dist, e.some, source.2);
      tied = record {
        dist = e.last.dist;
        cost = e.cost;
        step = e.step;
        from_dist = settled_dist l.from e.last e.known e.settled;
        to_dist = subst (λ (n : ℕ). IsDist q point n) e.dist (first_dist point l known first);
      };
      least = first_edge e;
    }

    final : IsFinal q labels point l
    final = record {
      dist = first_dist point l known first;
      source = λ none. elim (s.reached point l known) [
        | inl source ↦ source.0
        | inr e ↦
            absurd (omega (arith, e.dist, e.some))
      ];
      last_edge = λ some. elim (s.reached point l known) [
        | inl source ↦
            absurd (omega (arith, source.1))
        | inr e ↦ first_last_edge e
      ];
      last = λ some. elim (s.reached point l known) [
        | inl source ↦
            absurd (omega (arith, source.1))
        | inr e ↦ e
      ];
    }

  -- the target is taken from the queue
  pub found : (entry : Entry) (now : List Entry) → Takes entry queue now → entry.point ≡ target →
      IsFound q target labels
  found entry now takes here =
      let had : IsQueued key labels entry = s.entries entry takes.had in
      let known : IsKnown labels target had.label = subst (λ (j : ℕ). IsKnown labels j had.label)
      here had.known in
      let fresh : had.label.settled ≡ false = elim (bool_cases had.label.settled) [
        | inl settled ↦
            absurd ((s.left target had.label known settled).no_target refl)
        | inr not ↦ not
      ] in
      record {
        label = had.label;
        known = known;
        target_final = final target had.label known
            (subst (λ (j : ℕ). (e : Entry) → Contains queue e →
            Precedes (key j had.label.dist) had.label.dist e) here
            (comes_first q key target labels queue now entry rising s takes had.label had.known
            fresh));
        final = λ point l is settled. final point l is (s.left point l is settled).first;
      }

  -- the queue is empty
  pub no_walk : queue ≡ [] → (cost : ℕ) → HasWalk q target cost → ⊥
  no_walk empty cost w =
      elim (covered target cost w) [
        | inl at ↦ (s.left target at.0 at.1 at.2).no_target refl
        | inr ahead ↦ let none : Contains {X = Entry} [] ahead.entry =
            subst (λ (l : List Entry). Contains l ahead.entry) empty ahead.queued in
            omega (arith, none.1)
      ]
