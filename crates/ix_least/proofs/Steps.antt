-- The steps of a search: an edge, an entry of the queue.
use Rattle.std.proofs.Common.{◌≡◌, ◌≢◌, ℕ, ◌+◌, ◌^◌, ◌<◌, ◌≤◌, ◌⊎◌, inl, inr, true, false, List}
use Rattle.std.proofs.Common.{Option, Some, None, length, take, refl, sym, ◌∙◌, ap, subst, arith}
use Rattle.std.proofs.Common.{Contains, slice_get}
use Rattle.std.specs.List.{slice_set}
use Rattle.std.proofs.lemmas.List.{length-set}
use Rattle.std.proofs.Math.Seq.{take-length}
use Rattle.ix_least.specs.declared.labels.Label.{Label}
use Rattle.ix_least.specs.declared.queue.Entry.{Entry}
use Rattle.ix_least.specs.Labels.{IsKnown, open_weight, Settles}
use Rattle.ix_least.specs.Queue.{Takes, Precedes}
use Rattle.ix_least.specs.Settling.{IsNoWorse, IsReached, IsOffered, IsGoneOver, all_edges}
use Rattle.ix_least.specs.Settling.{edges_but, IsLeft, IsQueued, HasEntry, open_count, IsSettling}
use Rattle.ix_least.specs.Settling.{HasSources, IsLeaving, IsRising}
use Rattle.ix_least.specs.Walks.{Question, IsStep, HasWalk}
use Rattle.ix_least.proofs.Marks.{same_or_not, known_within, known_once, known_set, known_other}
use Rattle.ix_least.proofs.Marks.{known_cases, open_weight-settle}
use Rattle.ix_least.proofs.Offers.{IsFair}
use Rattle.ix_least.proofs.Leaves.{lt_or_le, IsTaken, taken, edges_more, has_walk_step}

-- the label by which an edge enters a point
abbrev pub entering : ℕ → ℕ → ℕ → Label
entering at dist edge = record { dist = dist; edge = edge; from = at; settled = false }

module _ (q : Question) (key : ℕ → ℕ → ℕ) (target at dist count : ℕ) (labels : List (Option Label))
    (queue : List Entry) where
  -- the label by which an edge out of the point enters another may be offered
  fair : IsRising q key → IsLeaving q key target at dist count labels queue →
      (edge to cost : ℕ) → IsStep q at edge to cost → 1 ≤ cost → cost ≤ 2 ^ 32 →
      to < length labels → IsFair q key labels to (entering at (dist + cost) edge)
  fair rising l edge to cost step some small within =
      let up : key at dist ≤ key to (dist + cost) = rising.with_step at edge to cost dist step in
      record {
        within = within;
        unsettled = refl;
        walk = has_walk_step q at dist edge to cost (subst (λ (n : ℕ). HasWalk q at n) l.dist_is
            (l.settling.walks at l.label l.known)) step;
        reached = inr (record {
          cost = cost;
          last = l.label;
          known = l.known;
          settled =
              l.settled;
          step = step;
          some = some;
          dist = ap (λ (n : ℕ). n + cost) (sym l.dist_is);
        });
        bounded = omega (arith, l.room);
        behind = λ other held known settled. elim (l.latest other held known settled) [
          | inl less ↦ inl (omega arith)
          | inr same ↦ elim (lt_or_le (key other held.dist) (key to (dist + cost))) [
            | inl less ↦
                inl less
            | inr le ↦ inr (omega arith, omega arith)
          ]
        ];
        below = λ held known settled. elim (lt_or_le held.dist (dist + cost)) [
          | inl less ↦ less
          | inr le ↦
              let more : key to (dist + cost) ≤ key to held.dist =
              rising.with_cost to (dist + cost) held.dist le in
              elim (l.latest to held known settled) [
                | inl less ↦ absurd (omega arith)
                | inr same ↦
                    absurd (omega arith)
              ]
        ];
      }

  -- an edge out of the point is gone over
  pub leave_step : IsRising q key → IsLeaving q key target at dist count labels queue →
      (edge to cost : ℕ) → slice_get (q.edges at) count ≡ Some (edge, to) →
      IsStep q at edge to cost → 1 ≤ cost → cost ≤ 2 ^ 32 → to < length labels →
      (new : List (Option Label)) (now : List Entry) → IsOffered key to
      (entering at (dist + cost) edge) labels new queue now → IsLeaving q key target at dist
      (count + 1) new now × ((w : ℕ → ℕ) → open_weight w 0 new ≡ open_weight w 0 labels)
      × (length new ≡ length labels)
  leave_step rising l edge to cost is step some small within new now offered =
      let t : IsTaken q key target (edges_but q at count) to (entering at (dist + cost) edge) labels
      new now =
      taken q key target (edges_but q at count) labels queue now to (entering at (dist + cost) edge)
      new l.settling (fair rising l edge to cost step some small within) offered in
      let here : IsKnown new at l.label = t.stays at l.label l.known l.settled in (
        record {
          settling = record {
            walks = t.settling.walks;
            reached = t.settling.reached;
            bounded = t.settling.bounded;
            unsettled = t.settling.unsettled;
            left = λ point label known settled.
                let had : IsLeft q key target (edges_but q at count) new now point label =
                t.settling.left point label known settled in
                record {
                  no_target = had.no_target;
                  first = had.first;
                  gone_over = λ e end due. elim (edges_more q at count point edge to
                      (e, end) is due) [
                        | inl before ↦ had.gone_over e end before
                        | inr same ↦ λ c costs.
                            let edge_is : e ≡ edge = ap (λ (x : ℕ × ℕ). x.0) same.1 in
                            let end_is : end ≡ to = ap (λ (x : ℕ × ℕ). x.1) same.1 in
                            let label_is : label ≡ l.label = known_once new at label l.label
                            (subst (λ (j : ℕ). IsKnown new j label) same.0 known) here in
                            let dist_is : label.dist ≡ dist = ap (λ (x : Label). x.dist) label_is
                            ∙ l.dist_is in
                            let costs_to : q.costs to ≡ Some c =
                            subst (λ (j : ℕ). q.costs j ≡ Some c) end_is costs in
                            let cost_eq : Some c ≡ Some cost = sym costs_to ∙ step.costs in
                            let cost_is : c ≡ cost = cc in (
                              omega arith,
                              (
                                t.has,
                                subst (λ (j : ℕ). IsKnown new j t.has) (sym end_is) t.known,
                                subst (λ (n : ℕ). IsNoWorse t.has n e)
                                    (ap (λ (n : ℕ). n + cost) (sym dist_is)
                                    ∙ ap (λ (n : ℕ). label.dist + n) (sym cost_is))
                                    (subst (λ (n : ℕ). IsNoWorse t.has (dist + cost) n)
                                    (sym edge_is) t.no_worse),
                              ),
                            )
                      ];
                };
            entries = t.settling.entries;
          };
          sources = λ source starts. let had : (label : Label) × IsKnown labels source label
              × (label.dist ≡ 0) = l.sources source starts in t.free source had.0 had.1 had.2;
          label = l.label;
          known = here;
          settled = l.settled;
          dist_is = l.dist_is;
          latest = λ point other known settled. l.latest point other
              (t.was point other known settled) settled;
          room = rw (t.size, t.weights (λ _. 1)) l.room;
        },
        t.weights,
        t.size,
      )

  -- an edge to a point that may not be entered is passed over
  pub leave_closed : IsLeaving q key target at dist count labels queue →
      (edge to : ℕ) → slice_get (q.edges at) count ≡ Some (edge, to) → q.costs to ≡ None →
      IsLeaving q key target at dist (count + 1) labels queue
  leave_closed l edge to is closed = record {
    settling = record {
      walks = l.settling.walks;
      reached = l.settling.reached;
      bounded = l.settling.bounded;
      unsettled = l.settling.unsettled;
      left = λ point label known settled.
          let had : IsLeft q key target (edges_but q at count) labels queue point label =
          l.settling.left point label known settled in
          record {
            no_target = had.no_target;
            first = had.first;
            gone_over = λ e end due. elim (edges_more q at count point edge to (e, end) is due) [
              | inl before ↦ had.gone_over e end before
              | inr same ↦ λ c costs.
                  let end_is : end ≡ to = ap (λ (x : ℕ × ℕ). x.1) same.1 in
                  let none : Some c ≡ None = sym costs ∙ (ap q.costs end_is ∙ closed) in
                  cc
            ];
          };
      entries = l.settling.entries;
    };
    sources = l.sources;
    label = l.label;
    known = l.known;
    settled = l.settled;
    dist_is = l.dist_is;
    latest = l.latest;
    room = l.room;
  }

  -- all edges out of the point were gone over
  pub leave_end : IsLeaving q key target at dist count labels queue → count ≡ length (q.edges at) →
      IsSettling q key target (all_edges q) labels queue
  leave_end l all = record {
    walks = l.settling.walks;
    reached = l.settling.reached;
    bounded = l.settling.bounded;
    unsettled = l.settling.unsettled;
    left = λ point label known settled.
        let had : IsLeft q key target (edges_but q at count) labels queue point label =
        l.settling.left point label known settled in
        record {
          no_target = had.no_target;
          first = had.first;
          gone_over = λ e end due. had.gone_over e end (
            due,
            λ here.
                subst (λ (xs : List (ℕ × ℕ)). Contains xs (e, end))
                (sym (ap (λ (n : ℕ). take n (q.edges at)) all ∙ take-length (q.edges at)))
                (subst (λ (p : ℕ). Contains (q.edges p) (e, end)) here due),
          );
        };
    entries = l.settling.entries;
  }

module _ (q : Question) (key : ℕ → ℕ → ℕ) (target : ℕ) (labels : List (Option Label))
    (queue now : List Entry) (entry : Entry) where
  -- an entry of a point that was settled is taken from the queue
  pub stale : IsSettling q key target (all_edges q) labels queue → Takes entry queue now →
      ((label : Label) → IsKnown labels entry.point label → label.settled ≡ true) →
      IsSettling q key target (all_edges q) labels now
  stale s takes settled = record {
    walks = s.walks;
    reached = s.reached;
    bounded = s.bounded;
    unsettled = λ point label known is.
        let had : HasEntry queue point label.dist = s.unsettled point label known is in
        record {
          entry = had.entry;
          queued = elim (takes.keeps had.entry had.queued) [
            | inl same ↦
                let at : point ≡ entry.point = sym had.point_is
                ∙ ap (λ (x : Entry). x.point) same in
                let not : label.settled ≡ true = settled label
                (subst (λ (j : ℕ). IsKnown labels j label) at known) in
                cc
            | inr still ↦ still
          ];
          point_is = had.point_is;
          dist_is = had.dist_is;
        };
    left = λ point label known is.
        let had : IsLeft q key target (all_edges q) labels queue point label =
        s.left point label known is in
        record {
          no_target = had.no_target;
          first = λ e h. had.first e
              (takes.adds_none e h);
          gone_over = had.gone_over;
        };
    entries = λ e h. s.entries e (takes.adds_none e h);
  }

  -- the cost and key of the point that is taken come no later than those of any entry
  pub comes_first : IsRising q key → IsSettling q key target (all_edges q) labels queue →
      Takes entry queue now → (label : Label) → IsKnown labels entry.point label →
      label.settled ≡ false → (e : Entry) → Contains queue e →
      Precedes (key entry.point label.dist) label.dist e
  comes_first rising s takes label known is e h =
      let had : IsQueued key labels entry = s.entries entry takes.had in
      let label_is : had.label ≡ label = known_once labels entry.point had.label label had.known
      known in
      let less : label.dist ≤ entry.dist = omega (
        arith,
        had.no_less,
        ap
            (λ (x : Label). x.dist) label_is,
      ) in
      let up : key entry.point label.dist ≤ key entry.point entry.dist =
      rising.with_cost entry.point label.dist entry.dist less in
      let key_is : entry.key ≡ key entry.point entry.dist = had.key_is in
      elim (takes.first e h) [
        | inl lower ↦ inl (omega arith)
        | inr same ↦ elim (lt_or_le (key entry.point label.dist) e.key) [
          | inl l ↦ inl l
          | inr l ↦
              inr (omega arith, omega arith)
        ]
      ]

  module _ (label : Label) (known : IsKnown labels entry.point label)
      (fresh : label.settled ≡ false) where
    -- the label of the point that is settled, and the labels with it
    settled_label : Label
    settled_label = record label { settled = true }

    with_settled : List (Option Label)
    with_settled = slice_set labels entry.point (Some settled_label)

    -- it isn't as yet one of the settled points
    settled_other : (k : ℕ) (m : Label) → IsKnown labels k m → m.settled ≡ true → k ≢ entry.point
    settled_other k m has settled here =
        let same : m ≡ label = known_once labels entry.point m label
        (subst (λ (j : ℕ). IsKnown labels j m) here has) known in
        let not : m.settled ≡ false = ap (λ (x : Label). x.settled) same ∙ fresh in
        cc

    -- a point that was reached still is
    reached_settled : (k : ℕ) (m : Label) → IsReached q labels k m → IsReached q with_settled k m
    unfolding with_settled
    reached_settled k m (inl source) = inl source
    reached_settled k m (inr e) = inr (record {
      cost = e.cost;
      last = e.last;
      known = known_other labels entry.point m.from settled_label e.last
          (settled_other m.from e.last e.known e.settled) e.known;
      settled = e.settled;
      step = e.step;
      some = e.some;
      dist = e.dist;
    })

    -- the same walk reached the point before it was settled
    reached_as_before : IsReached q labels entry.point label →
        IsReached q labels entry.point settled_label
    unfolding settled_label
    reached_as_before (inl source) = inl source
    reached_as_before (inr e) = inr (record {
      cost = e.cost;
      last = e.last;
      known =
          e.known;
      settled = e.settled;
      step = e.step;
      some = e.some;
      dist = e.dist;
    })

    -- each point that was reached has a label of the same cost and edge
    relabelled : (k : ℕ) (m : Label) → IsKnown labels k m → (n : Label) × IsKnown with_settled k n
        × (n.dist ≡ m.dist) × (n.edge ≡ m.edge)
    unfolding settled_label with_settled
    relabelled k m has =
        elim (same_or_not k entry.point) [
          | inl here ↦
              let same : m ≡ label = known_once labels entry.point m label
              (subst (λ (j : ℕ). IsKnown labels j m) here has) known in (
                settled_label,
                subst (λ (j : ℕ). IsKnown with_settled j settled_label) (sym here)
                    (known_set labels entry.point settled_label
                    (known_within labels entry.point label known)),
                ap (λ (x : Label). x.dist) (sym same),
                ap (λ (x : Label). x.edge) (sym same),
              )
          | inr other ↦ (m, known_other labels entry.point k settled_label m other has, refl, refl)
        ]

    -- an edge that was gone over still is
    over_settled : (dist edge to : ℕ) → IsGoneOver q labels dist edge to →
        IsGoneOver q with_settled dist edge to
    over_settled dist edge to over cost costs =
        let had : (1 ≤ cost) × ((l : Label) × IsKnown labels to l
        × IsNoWorse l (dist + cost) edge) = over cost costs in
        let now_has : (n : Label) × IsKnown with_settled to n × (n.dist ≡ had.1.0.dist)
        × (n.edge ≡ had.1.0.edge) = relabelled to had.1.0 had.1.1 in (
          had.0,
          (
            now_has.0,
            now_has.1,
            elim had.1.2 [
              | inl less ↦
                  inl (omega (arith, now_has.2))
              | inr same ↦
                  inr (now_has.2 ∙ same.0, omega (arith, now_has.3, same.1))
            ],
          ),
        )

    open_less : open_count with_settled + 1 ≡ open_count labels
    unfolding settled_label with_settled
    open_less = open_weight-settle (λ _. 1) labels 0 entry.point label settled_label known fresh
        refl

    weights_less : (w : ℕ → ℕ) → open_weight w 0 with_settled + w entry.point ≡ open_weight w 0
        labels
    unfolding settled_label with_settled
    weights_less w =
        let at : w (0 + entry.point) ≡ w entry.point = ap w (omega arith) in
        ap (λ (n : ℕ). open_weight w 0 with_settled + n) (sym at)
        ∙ open_weight-settle w labels 0 entry.point label settled_label known fresh refl

    size : length with_settled ≡ length labels
    unfolding with_settled
    size = length-set labels entry.point (Some settled_label)

    cases : (k : ℕ) (m : Label) → IsKnown with_settled k m →
        ((k ≡ entry.point) × (m ≡ settled_label)) ⊎ ((k ≢ entry.point) × IsKnown labels k m)
    unfolding with_settled
    cases k m has = known_cases labels entry.point k settled_label m
        (known_within labels entry.point label known) has

    here_known : IsKnown with_settled entry.point settled_label
    unfolding with_settled
    here_known = known_set labels entry.point settled_label
        (known_within labels entry.point label known)

    -- the point is settled, and none of its edges was gone over
    settled_now : IsRising q key → IsSettling q key target (all_edges q) labels queue →
        Takes entry queue now → entry.point ≢ target → IsSettling q key target
        (edges_but q entry.point 0) with_settled now
    unfolding settled_label
    settled_now rising s takes other = record {
      walks = λ k m has. elim (cases k m has) [
        | inl e ↦ subst (λ (j : ℕ). HasWalk q j m.dist) (sym e.0)
            (subst (λ (x : Label). HasWalk q entry.point x.dist) (sym e.1)
            (s.walks entry.point label known))
        | inr n ↦ s.walks k m n.1
      ];
      reached = λ k m has. reached_settled k m (elim (cases k m has) [
        | inl e ↦ subst (λ (j : ℕ). IsReached q labels j m) (sym e.0)
            (subst (λ (x : Label). IsReached q labels entry.point x) (sym e.1)
            (reached_as_before (s.reached entry.point label known)))
        | inr n ↦ s.reached k m n.1
      ]);
      bounded = λ k m has. elim (cases k m has) [
        | inl e ↦ omega (
          arith,
          s.bounded entry.point label known,
          ap
              (λ (x : Label). x.dist) e.1,
          open_less,
          size,
        )
        | inr n ↦ omega (arith, s.bounded k m n.1, open_less, size)
      ];
      unsettled = λ k m has is. elim (cases k m has) [
        | inl e ↦ let not : m.settled ≡ true = ap (λ (x : Label). x.settled) e.1 in cc
        | inr n ↦
            let had : HasEntry queue k m.dist = s.unsettled k m n.1 is in
            record {
              entry = had.entry;
              queued = elim (takes.keeps had.entry had.queued) [
                | inl same ↦ absurd (n.0 (sym had.point_is ∙ ap (λ (x : Entry). x.point) same))
                | inr still ↦ still
              ];
              point_is = had.point_is;
              dist_is = had.dist_is;
            }
      ];
      left = λ k m has is. elim (cases k m has) [
        | inl e ↦ record {
          no_target = λ target_is. other (sym e.0 ∙ target_is);
          first = λ x h. subst (λ (j : ℕ). Precedes (key j m.dist) m.dist x) (sym e.0)
              (subst (λ (n : ℕ). Precedes (key entry.point n) n x)
              (sym (ap (λ (y : Label). y.dist) e.1)) (comes_first rising s takes label known fresh x
              (takes.adds_none x h)));
          gone_over = λ edge to due. let none : Contains (take 0 (q.edges entry.point)) (edge, to) =
              due.1 e.0 in absurd (omega (arith, none.1));
        }
        | inr n ↦
            let had : IsLeft q key target (all_edges q) labels queue k m = s.left k m n.1 is in
            record {
              no_target = had.no_target;
              first = λ x h. had.first x (takes.adds_none x h);
              gone_over = λ edge to due. over_settled m.dist edge to (had.gone_over edge to due.0);
            }
      ];
      entries = λ x h.
          let had : IsQueued key labels x = s.entries x (takes.adds_none x h) in
          let has : (n : Label) × IsKnown with_settled x.point n × (n.dist ≡ had.label.dist)
          × (n.edge ≡ had.label.edge) = relabelled x.point had.label had.known in
          record {
            key_is = had.key_is;
            label = has.0;
            known = has.1;
            no_less =
                omega (arith, has.2, had.no_less);
          };
    }

    -- no settled point comes later
    latest_now : IsSettling q key target (all_edges q) labels queue →
        (k : ℕ) (m : Label) → IsKnown with_settled k m → m.settled ≡ true →
        (key k m.dist < key entry.point label.dist) ⊎ ((key k m.dist ≡ key entry.point label.dist)
        × (m.dist ≤ label.dist))
    unfolding settled_label
    latest_now s k m has is = elim (cases k m has) [
      | inl e ↦
          let dist_is : m.dist ≡ label.dist = ap (λ (x : Label). x.dist) e.1 in
          inr (
            ap (λ (j : ℕ). key j m.dist) e.0 ∙ ap (key entry.point) dist_is,
            omega
                (arith, dist_is),
          )
      | inr n ↦
          let had : IsLeft q key target (all_edges q) labels queue k m = s.left k m n.1 is in
          let own : HasEntry queue entry.point label.dist =
          s.unsettled entry.point label known fresh in
          let own_key : own.entry.key ≡ key entry.point label.dist =
          (s.entries own.entry own.queued).key_is
          ∙ (ap (λ (j : ℕ). key j own.entry.dist) own.point_is
          ∙ ap (key entry.point) own.dist_is) in
          elim (had.first own.entry own.queued) [
            | inl less ↦ inl (omega (arith, own_key))
            | inr same ↦ inr (same.0 ∙ own_key, omega (arith, same.1, own.dist_is))
          ]
    ]

    settle_label : IsRising q key → IsSettling q key target (all_edges q) labels queue →
        HasSources q.sources labels → Takes entry queue now → entry.point ≢ target →
        IsLeaving q key target entry.point label.dist 0 with_settled now
        × ((w : ℕ → ℕ) → open_weight w 0 with_settled + w entry.point ≡ open_weight w 0 labels)
        × (length with_settled ≡ length labels)
    unfolding settled_label
    settle_label rising s sources takes other = (
      record {
        settling = settled_now rising s takes other;
        sources = λ source starts.
            let had : (m : Label) × IsKnown labels source m × (m.dist ≡ 0) =
            sources source starts in
            let has : (n : Label) × IsKnown with_settled source n × (n.dist ≡ had.0.dist)
            × (n.edge ≡ had.0.edge) = relabelled source had.0 had.1 in
            (has.0, has.1, has.2 ∙ had.2);
        label = settled_label;
        known = here_known;
        settled = refl;
        dist_is = refl;
        latest = latest_now s;
        room = omega (arith, s.bounded entry.point label known, open_less, size);
      },
      weights_less,
      size,
    )

  -- a point is settled
  pub settle_point : IsRising q key → IsSettling q key target (all_edges q) labels queue →
      HasSources q.sources labels → Takes entry queue now → entry.point ≢ target →
      (dist : ℕ) (new : List (Option Label)) → Settles entry.point dist labels new →
      IsLeaving q key target entry.point dist 0 new now
      × ((w : ℕ → ℕ) → open_weight w 0 new + w entry.point ≡ open_weight w 0 labels)
      × (length new ≡ length labels)
  unfolding settled_label with_settled
  settle_point rising s sources takes other dist new settles =
      subst (λ (n : ℕ). IsLeaving q key target entry.point n 0 new now
      × ((w : ℕ → ℕ) → open_weight w 0 new + w entry.point ≡ open_weight w 0 labels)
      × (length new ≡ length labels)) settles.dist_is
      (subst (λ (l : List (Option Label)). IsLeaving q key target entry.point settles.label.dist 0 l
      now × ((w : ℕ → ℕ) → open_weight w 0 l + w entry.point ≡ open_weight w 0 labels)
      × (length l ≡ length labels)) (sym settles.new_is)
      (settle_label settles.label settles.known settles.unsettled rising s sources takes other))
