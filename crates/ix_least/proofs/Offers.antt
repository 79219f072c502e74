-- What an offered label changes.
use Rattle.std.proofs.Common.{◌≡◌, ℕ, ◌+◌, ◌*◌, ◌^◌, ◌<◌, ◌≤◌, ◌⊎◌, inl, inr, true, false, List}
use Rattle.std.proofs.Common.{Option, Some, length, refl, sym, ◌∙◌, ap, subst, arith, Contains}
use Rattle.std.specs.List.{slice_set}
use Rattle.std.proofs.lemmas.List.{length-set}
use Rattle.ix_least.specs.declared.labels.Label.{Label}
use Rattle.ix_least.specs.declared.queue.Entry.{Entry}
use Rattle.ix_least.specs.Labels.{IsKnown}
use Rattle.ix_least.specs.Queue.{Precedes}
use Rattle.ix_least.specs.Settling.{IsNoWorse, IsReached, IsGoneOver, IsLeft, IsQueued, HasEntry}
use Rattle.ix_least.specs.Settling.{open_count, IsSettling}
use Rattle.ix_least.specs.Walks.{Question, HasWalk}
use Rattle.ix_least.proofs.Marks.{same_or_not, known_set, known_other, known_cases}
use Rattle.ix_least.proofs.Marks.{open_weight-same}

-- the label of a point that isn't settled was made better, and the point is in the queue for it
pub record IsImproved (key : ℕ → ℕ → ℕ) (point : ℕ) (label : Label) (old : List (Option Label))
    (before now : List Entry) : Type 0 where
  pub better : (held : Label) → IsKnown old point held → IsNoWorse label held.dist held.edge
  pub entry : HasEntry now point label.dist
  pub keeps : (e : Entry) → Contains before e → Contains now e
  pub others : (e : Entry) → Contains now e → ((e.key ≡ key point label.dist)
      × (e.dist ≡ label.dist) × (e.point ≡ point)) ⊎ Contains before e

-- what a label has to bring that is offered
pub record IsFair (q : Question) (key : ℕ → ℕ → ℕ) (labels : List (Option Label)) (point : ℕ)
    (label : Label) : Type 0 where
  pub within : point < length labels
  pub unsettled : label.settled ≡ false
  pub walk : HasWalk q point label.dist
  pub reached : IsReached q labels point label
  pub bounded : label.dist + 2 ^ 32 * open_count labels ≤ 2 ^ 32 * length labels
  pub behind : (other : ℕ) (held : Label) → IsKnown labels other held → held.settled ≡ true →
      (key other held.dist < key point label.dist) ⊎ ((key other held.dist ≡ key point label.dist)
      × (held.dist ≤ label.dist))
  pub below : (held : Label) → IsKnown labels point held → held.settled ≡ true →
      held.dist < label.dist

-- no worse than what is no worse
no_worse_trans : (a b : Label) (dist edge : ℕ) → IsNoWorse a b.dist b.edge → IsNoWorse b dist edge →
    IsNoWorse a dist edge
no_worse_trans a b dist edge (inl x) (inl y) = inl (omega arith)
no_worse_trans a b dist edge (inl x) (inr y) = inl (omega arith)
no_worse_trans a b dist edge (inr x) (inl y) = inl (omega arith)
no_worse_trans a b dist edge (inr x) (inr y) = inr (x.0 ∙ y.0, omega arith)

module _ (q : Question) (key : ℕ → ℕ → ℕ) (target : ℕ) (due : ℕ → ℕ × ℕ → Type 0)
    (labels : List (Option Label)) (before now : List Entry) (point : ℕ) (label : Label) where
  -- what was settled keeps its label
  settled_stays : IsSettling q key target due labels before →
      ((held : Label) → IsKnown labels point held → held.settled ≡ false) →
      (k : ℕ) (m : Label) → IsKnown labels k m → m.settled ≡ true →
      IsKnown (slice_set labels point (Some label)) k m
  settled_stays s fresh k m known settled =
      elim (same_or_not k point) [
        | inl e ↦ let here : m.settled ≡ false =
            fresh m (subst (λ (j : ℕ). IsKnown labels j m) e known) in cc
        | inr n ↦ known_other labels point k label m n known
      ]

  -- a point that was reached still is, by an edge from the same settled point
  still_reached : IsSettling q key target due labels before →
      ((held : Label) → IsKnown labels point held → held.settled ≡ false) →
      (k : ℕ) (m : Label) → IsReached q labels k m → IsReached q
      (slice_set labels point (Some label)) k m
  still_reached s fresh k m (inl source) = inl source
  still_reached s fresh k m (inr e) = inr (record {
    cost = e.cost;
    last = e.last;
    known = settled_stays s fresh m.from e.last e.known e.settled;
    settled = e.settled;
    step = e.step;
    some = e.some;
    dist = e.dist;
  })

  -- an edge that was gone over still is
  still_over : IsImproved key point label labels before now → point < length labels →
      (dist edge to : ℕ) → IsGoneOver q labels dist edge to →
      IsGoneOver q (slice_set labels point (Some label)) dist edge to
  still_over i within dist edge to over cost costs =
      let had : (1 ≤ cost) × ((l : Label) × IsKnown labels to l × IsNoWorse l (dist + cost) edge) =
      over cost costs in (
        had.0,
        elim (same_or_not to point) [
          | inl e ↦ (
            label,
            subst (λ (j : ℕ). IsKnown (slice_set labels point (Some label)) j label) (sym e)
                (known_set labels point label within),
            no_worse_trans label had.1.0 (dist + cost) edge
                (i.better had.1.0 (subst (λ (j : ℕ). IsKnown labels j had.1.0) e had.1.1)) had.1.2,
          )
          | inr n ↦ (had.1.0, known_other labels point to label had.1.0 n had.1.1, had.1.2)
        ],
      )

  -- a better label of a point that isn't settled leaves all in order
  pub improved : IsSettling q key target due labels before → IsFair q key labels point label →
      ((held : Label) → IsKnown labels point held → held.settled ≡ false) →
      IsImproved key point label labels before now → IsSettling q key target due
      (slice_set labels point (Some label)) now
  improved s f fresh i =
      let count : open_count (slice_set labels point (Some label)) ≡ open_count labels =
      open_weight-same (λ _. 1) labels 0 point label fresh f.unsettled in
      let size : length (slice_set labels point (Some label)) ≡ length labels =
      length-set labels point (Some label) in
      record {
        walks = λ k m known. elim (known_cases labels point k label m f.within known) [
          | inl e ↦ subst (λ (j : ℕ). HasWalk q j m.dist) (sym e.0)
              (subst (λ (x : Label). HasWalk q point x.dist) (sym e.1) f.walk)
          | inr n ↦ s.walks k m n.1
        ];
        reached = λ k m known. still_reached s fresh k m
            (elim (known_cases labels point k label m f.within known) [
              | inl e ↦ subst (λ (j : ℕ). IsReached q labels j m) (sym e.0)
                  (subst (λ (x : Label). IsReached q labels point x) (sym e.1) f.reached)
              | inr n ↦ s.reached k m n.1
            ]);
        bounded = λ k m known. elim (known_cases labels point k label m f.within known) [
          | inl e ↦ rw (count, size) (subst (λ (x : Label). x.dist + 2 ^ 32 * open_count labels ≤ 2
              ^ 32 * length labels) (sym e.1) f.bounded)
          | inr n ↦ rw (count, size) (s.bounded k m n.1)
        ];
        unsettled = λ k m known is. elim (known_cases labels point k label m f.within known) [
          | inl e ↦ subst (λ (j : ℕ). HasEntry now j m.dist) (sym e.0)
              (subst (λ (x : Label). HasEntry now point x.dist) (sym e.1) i.entry)
          | inr n ↦ let had : HasEntry before k m.dist = s.unsettled k m n.1 is in
              record {
                entry = had.entry;
                queued = i.keeps had.entry had.queued;
                point_is =
                    had.point_is;
                dist_is = had.dist_is;
              }
        ];
        left = λ k m known is. elim (known_cases labels point k label m f.within known) [
          | inl e ↦ let not : m.settled ≡ false = ap (λ (x : Label). x.settled) e.1 ∙ f.unsettled in
              cc
          | inr n ↦ let had : IsLeft q key target due labels before k m = s.left k m n.1 is in
              record {
                no_target = had.no_target;
                first = λ entry in_now. elim (i.others entry in_now) [
                  | inl is_new ↦ subst (λ (x : ℕ). Precedes (key k m.dist) m.dist
                      (record { key = x; dist = entry.dist; point = entry.point })) (sym is_new.0)
                      (subst (λ (x : ℕ). Precedes (key k m.dist) m.dist
                      (record { key = key point label.dist; dist = x; point = entry.point }))
                      (sym is_new.1) (f.behind k m n.1 is))
                  | inr was ↦ had.first entry was
                ];
                gone_over = λ edge to d. still_over i f.within m.dist edge to
                    (had.gone_over edge to d);
              }
        ];
        entries = λ entry in_now. elim (i.others entry in_now) [
          | inl is_new ↦ record {
            key_is = rw (is_new.0, is_new.1, is_new.2) refl;
            label = label;
            known = subst (λ (j : ℕ). IsKnown (slice_set labels point (Some label)) j label)
                (sym is_new.2) (known_set labels point label f.within);
            no_less = omega (arith, is_new.1);
          }
          | inr was ↦ let had : IsQueued key labels entry = s.entries entry was in
              elim (same_or_not entry.point point) [
                | inl e ↦ record {
                  key_is = had.key_is;
                  label = label;
                  known = subst (λ (j : ℕ). IsKnown (slice_set labels point (Some label)) j label)
                      (sym e) (known_set labels point label f.within);
                  no_less = elim (i.better had.label
                      (subst (λ (j : ℕ). IsKnown labels j had.label) e had.known)) [
                        | inl less ↦
                            omega arith
                        | inr same ↦ omega arith
                      ];
                }
                | inr n ↦ record {
                  key_is = had.key_is;
                  label = had.label;
                  known =
                      known_other labels point entry.point label had.label n had.known;
                  no_less =
                      had.no_less;
                }
              ]
        ];
      }
