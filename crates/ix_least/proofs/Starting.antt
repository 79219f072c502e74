-- How a search is started.
use Rattle.std.proofs.Common.{◌≡◌, ℕ, ◌+◌, ◌<◌, inl, inr, Bool, true, false, List, [], ◌∷◌, Option}
use Rattle.std.proofs.Common.{Some, None, length, take, map, refl, sym, ◌∙◌, ap, subst, arith}
use Rattle.std.proofs.Common.{Contains, zero, suc, slice_get, add-one}
use Rattle.std.proofs.lemmas.Option.{slice_get_within, get_or_from_slice_get}
use Rattle.std.proofs.Math.Seq.{take-length}
use Rattle.ix_least.specs.declared.labels.Label.{Label}
use Rattle.ix_least.specs.declared.queue.Entry.{Entry}
use Rattle.ix_least.specs.Labels.{IsKnown}
use Rattle.ix_least.specs.Settling.{IsOffered, all_edges, IsSettling, HasSources, IsStarted}
use Rattle.ix_least.specs.Walks.{Question, IsWalk, asked}
use Rattle.ix_least.proofs.Marks.{open_count_le}
use Rattle.ix_least.proofs.Offers.{IsFair}
use Rattle.ix_least.proofs.Leaves.{IsTaken, taken, take_cases, bool_cases}

-- so many of the sources were offered, and no point was settled
pub record IsStarting (sources : List ℕ) (count : ℕ) (key : ℕ → ℕ → ℕ)
    (labels : List (Option Label)) (queue : List Entry) : Type 0 where
  pub settling : (points : ℕ) (edges : ℕ → List (ℕ × ℕ)) (costs : ℕ → Option ℕ) (target : ℕ) →
      IsSettling (asked points edges costs sources) key target
      (all_edges (asked points edges costs sources)) labels queue
  pub sources_known : HasSources (take count sources) labels
  pub none_settled : (k : ℕ) (m : Label) → IsKnown labels k m → m.settled ≡ false

-- no point is known
none_known : {X : Type 0} (labels : List (Option X)) (k : ℕ) (m : X) →
    slice_get (map {B = Option X} (λ _. None) labels) k ≡ Some (Some m) → ⊥
none_known [] k m known = cc
none_known (l ∷ labels) zero m known = cc
none_known (l ∷ labels) (suc k) m known = none_known labels k m known

-- the start
pub starting_none : (sources : List ℕ) (key : ℕ → ℕ → ℕ) (before labels : List (Option Label))
    (queue : List Entry) → labels ≡ map {B = Option Label} (λ _. None) before → queue ≡ [] →
    IsStarting sources 0 key labels queue
starting_none sources key before labels queue none empty =
    let unknown : (k : ℕ) (m : Label) → IsKnown labels k m → ⊥ =
    λ k m known. none_known before k m (ap (λ (l : List (Option Label)). slice_get l k)
    (sym none) ∙ known) in
    let unqueued : (e : Entry) → Contains queue e → ⊥ = λ e h. let h' : Contains {X = Entry} [] e =
    subst (λ (l : List Entry). Contains l e) empty h in omega (arith, h'.1) in
    record {
      settling = λ points edges costs target. record {
        walks = λ k m known. absurd (unknown k m known);
        reached = λ k m known. absurd (unknown k m known);
        bounded = λ k m known. absurd (unknown k m known);
        unsettled = λ k m known _. absurd (unknown k m known);
        left = λ k m known _. absurd (unknown k m known);
        entries = λ e h. absurd (unqueued e h);
      };
      sources_known = λ source starts. absurd (omega (arith, starts.1));
      none_settled = λ k m known. absurd (unknown k m known);
    }

true_not_false : (b : Bool) → b ≡ true → b ≡ false → ⊥
true_not_false b is not = let e : true ≡ false = sym is ∙ not in cc

-- the label of a source is fair
source_fair : (q : Question) (key : ℕ → ℕ → ℕ) (labels : List (Option Label)) (source : ℕ) →
    Contains q.sources source → source < length labels →
    ((k : ℕ) (m : Label) → IsKnown labels k m → m.settled ≡ false) →
    IsFair q key labels source (record { dist = 0; edge = 0; from = source; settled = false })
unfolding IsWalk
source_fair q key labels source starts within none = record {
  within = within;
  unsettled = refl;
  walk = record { source = source; edges = []; starts = starts; walk = (refl, refl) };
  reached = inl (starts, refl);
  bounded = omega (arith, open_count_le labels 0);
  behind = λ other held known settled. let not : held.settled ≡ false = none other held known in cc;
  below = λ held known settled. let not : held.settled ≡ false = none source held known in
      absurd (true_not_false held.settled settled not);
}

-- one source more
pub starting_more : (sources : List ℕ) (count : ℕ) (key : ℕ → ℕ → ℕ)
    (labels new : List (Option Label)) (queue now : List Entry) (source : ℕ) →
    slice_get sources count ≡ Some source → source < length labels →
    IsStarting sources count key labels queue → IsOffered key source
    (record { dist = 0; edge = 0; from = source; settled = false }) labels new queue now →
    IsStarting sources (count + 1) key new now × (length new ≡ length labels)
starting_more sources count key labels new queue now source is within s offered =
    let starts : Contains sources source = (
      count,
      slice_get_within sources count source is,
      get_or_from_slice_get sources count source
          source is,
    ) in
    let fair : (points : ℕ) (edges : ℕ → List (ℕ × ℕ)) (costs : ℕ → Option ℕ) →
    IsFair (asked points edges costs sources) key labels source
    (record { dist = 0; edge = 0; from = source; settled = false }) =
    λ points edges costs. source_fair (asked points edges costs sources) key labels source
    starts within s.none_settled in
    let take_it : (points : ℕ) (edges : ℕ → List (ℕ × ℕ)) (costs : ℕ → Option ℕ) (target : ℕ) →
    IsTaken (asked points edges costs sources) key target
    (all_edges (asked points edges costs sources)) source
    (record { dist = 0; edge = 0; from = source; settled = false }) labels new now =
    λ points edges costs target. taken (asked points edges costs sources) key target
    (all_edges (asked points edges costs sources)) labels queue now source
    (record { dist = 0; edge = 0; from = source; settled = false }) new
    (s.settling points edges costs target) (fair points edges costs) offered in
    let t : IsTaken (asked 0 (λ _. []) (λ _. None) sources) key 0
    (all_edges (asked 0 (λ _. []) (λ _. None) sources)) source
    (record { dist = 0; edge = 0; from = source; settled = false }) labels new now =
    take_it 0 (λ _. []) (λ _. None) 0 in (
      record {
        settling = λ points edges costs target. (take_it points edges costs target).settling;
        sources_known = λ other among.
            elim (take_cases sources count source other is
            (subst (λ (n : ℕ). Contains (take n sources) other) (add-one count) among)) [
              | inl before ↦ let had : (l : Label) × IsKnown labels other l × (l.dist ≡ 0) =
                  s.sources_known other before in t.free other had.0 had.1 had.2
              | inr here ↦ (
                t.has,
                subst (λ (j : ℕ). IsKnown new j t.has)
                    (sym here) t.known,
                elim t.no_worse [
                  | inl less ↦ omega arith
                  | inr same ↦
                      same.0
                ],
              )
            ];
        none_settled = λ k m known.
            elim (bool_cases m.settled) [
              | inl settled ↦ let not : m.settled ≡ false =
                  s.none_settled k m (t.was k m known settled) in not
              | inr not ↦ not
            ];
      },
      t.size,
    )

-- all sources
pub started : (sources : List ℕ) (count : ℕ) (key : ℕ → ℕ → ℕ) (labels : List (Option Label))
    (queue : List Entry) → count ≡ length sources → IsStarting sources count key labels queue →
    IsStarted sources key labels queue
started sources count key labels queue all s = record {
  settling = s.settling;
  sources_known = subst (λ (l : List ℕ). HasSources l labels)
      (ap (λ (n : ℕ). take n sources) all ∙ take-length sources) s.sources_known;
}
