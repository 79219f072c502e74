-- What the loops of a search keep.
use Rattle.std.proofs.Common.{◌≡◌, ℕ, ◌+◌, ◌^◌, ◌<◌, ◌≤◌, inl, inr, List, Option, Some, None}
use Rattle.std.proofs.Common.{length, sym, ◌∙◌, ap, arith, slice_get}
use Rattle.std.proofs.lemmas.Option.{slice_get_within, get_or_from_slice_get}
use Rattle.ix_least.specs.declared.labels.Label.{Label}
use Rattle.ix_least.specs.declared.queue.Entry.{Entry}
use Rattle.ix_least.specs.Queue.{Takes}
use Rattle.ix_least.specs.Settling.{IsOffered, all_edges, key_of, IsQueued, IsSettling, IsRising}
use Rattle.ix_least.specs.Settling.{LeavesUpTo}
use Rattle.ix_least.specs.Walks.{Question, IsStep, AreConsistent, asked}
use Rattle.ix_least.proofs.Marks.{known_within}
use Rattle.ix_least.proofs.Steps.{entering, leave_step, leave_closed}

-- keys by bounds that are consistent never fall
pub key_rises : (q : Question) (bounds : ℕ → ℕ) (target : ℕ) → AreConsistent q bounds target →
    IsRising q (key_of bounds)
key_rises q bounds target consistent = record {
  with_cost = λ point dist more le. omega arith;
  with_step = λ from edge to cost dist step. omega (arith, consistent.steps from edge to cost step);
}

-- an offer adds at most one entry
pub offer_length : (key : ℕ → ℕ → ℕ) (point : ℕ) (label : Label) (old new : List (Option Label))
    (before now : List Entry) → IsOffered key point label old new before now →
    length now ≤ length before + 1
offer_length key point label old new before now (inl kept) = omega (arith, ap length kept.queue)
offer_length key point label old new before now (inr (inl retied)) =
    omega (arith, ap length retied.queue)
offer_length key point label old new before now (inr (inr lowered)) =
    omega (arith, lowered.queue.grows)

module _ (points : ℕ) (edges : ℕ → List (ℕ × ℕ)) (costs : ℕ → Option ℕ) (key : ℕ → ℕ → ℕ)
    (at dist count : ℕ) (old labels : List (Option Label)) (before queue : List Entry) where
  -- one edge more is gone over
  pub leaves_more : at < points → LeavesUpTo points edges costs key at dist count old labels before
      queue → (edge to cost : ℕ) → slice_get (edges at) count ≡ Some (edge, to) →
      Some cost ≡ costs to → 1 ≤ cost → cost ≤ 2 ^ 32 → to < length labels →
      (new : List (Option Label)) (now : List Entry) → IsOffered key to
      (entering at (dist + cost) edge) labels new queue now →
      LeavesUpTo points edges costs key at dist (count + 1) old new before now
  leaves_more within_at u edge to cost is costs_is some small within new now offered =
      let step : (sources : List ℕ) → IsStep (asked points edges costs sources) at edge to cost =
      λ sources. record {
        inside = within_at;
        leads = (
          count,
          slice_get_within (edges at) count (edge, to) is,
          get_or_from_slice_get
              (edges at) count (edge, to) (edge, to) is,
        );
        costs = sym costs_is;
      } in
      record {
        leaving = λ sources target rising start. (leave_step (asked points edges costs sources) key
            target at dist count labels queue rising (u.leaving sources target rising start) edge to
            cost is (step sources) some small within new now offered).0;
        weights = λ sources target rising start w. (leave_step (asked points edges costs sources)
            key target at dist count labels queue rising (u.leaving sources target rising start)
            edge to cost is (step sources) some small within new now offered).1 w
            ∙ u.weights sources target rising start w;
      }

  -- an edge more is passed over
  pub leaves_closed : LeavesUpTo points edges costs key at dist count old labels before queue →
      (edge to : ℕ) → slice_get (edges at) count ≡ Some (edge, to) → None ≡ costs to →
      LeavesUpTo points edges costs key at dist (count + 1) old labels before queue
  leaves_closed u edge to is none = record {
    leaving = λ sources target rising start. leave_closed (asked points edges costs sources) key
        target at dist count labels queue (u.leaving sources target rising start) edge to is
        (sym none);
    weights = u.weights;
  }

-- an entry's point is one of the points
pub entry_within : (q : Question) (key : ℕ → ℕ → ℕ) (target : ℕ) (labels : List (Option Label))
    (queue now : List Entry) (entry : Entry) → IsSettling q key target (all_edges q) labels queue →
    Takes entry queue now → entry.point < length labels
entry_within q key target labels queue now entry s takes = let had : IsQueued key labels entry =
    s.entries entry takes.had in known_within labels entry.point had.label had.known
