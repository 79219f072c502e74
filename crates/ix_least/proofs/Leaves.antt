-- How the edges out of a point are gone over.
use Rattle.std.proofs.Common.{◌≡◌, ℕ, ◌+◌, ◌<◌, ◌≤◌, ◌⊎◌, inl, inr, Bool, true, false, List, []}
use Rattle.std.proofs.Common.{◌∷◌, ◌++◌, Option, Some, length, take, refl, sym, ◌∙◌, ap, subst}
use Rattle.std.proofs.Common.{arith, Contains, zero, suc, slice_get, add-one}
use Rattle.std.specs.List.{slice_set}
use Rattle.std.proofs.lemmas.List.{length-set}
use Rattle.ix_least.specs.declared.labels.Label.{Label}
use Rattle.ix_least.specs.declared.queue.Entry.{Entry}
use Rattle.ix_least.specs.Labels.{IsKnown, open_weight}
use Rattle.ix_least.specs.Settling.{IsNoWorse, IsOffered, edges_but, HasEntry, IsSettling}
use Rattle.ix_least.specs.Walks.{Question, IsStep, IsWalk, HasWalk}
use Rattle.ix_least.proofs.Marks.{same_or_not, known_once, known_set, known_other, known_cases}
use Rattle.ix_least.proofs.Marks.{open_weight-same}
use Rattle.ix_least.proofs.Offers.{IsImproved, IsFair, improved}
use Rattle.ix_least.proofs.Queues.{cons_cases, in_cons}

pub lt_or_le : (a b : ℕ) → (a < b) ⊎ (b ≤ a)
lt_or_le a zero = inr (omega arith)
lt_or_le zero (suc b) = inl (omega arith)
lt_or_le (suc a) (suc b) = elim (lt_or_le a b) [
  | inl l ↦ inl (omega arith)
  | inr l ↦
      inr (omega arith)
]

pub bool_cases : (b : Bool) → (b ≡ true) ⊎ (b ≡ false)
bool_cases true = inl refl
bool_cases false = inr refl

-- a walk and a step after it
walk_step : (q : Question) (from : ℕ) (edges : List (ℕ × ℕ)) (mid cost edge to more : ℕ) →
    IsWalk q from edges mid cost → IsStep q mid edge to more →
    IsWalk q from (edges ++ (edge, to) ∷ []) to (cost + more)
unfolding IsWalk
walk_step q from [] mid cost edge to more (here, none) step =
    (more, 0, subst (λ (p : ℕ). IsStep q p edge to more) (sym here) step, (refl, refl), omega arith)
walk_step q from (e ∷ edges) mid cost edge to more (first, others, one, rest, is) step = (
  first,
  others + more,
  one,
  walk_step q e.1 edges mid others edge to more rest step,
  omega
      arith,
)

pub has_walk_step : (q : Question) (mid cost edge to more : ℕ) → HasWalk q mid cost →
    IsStep q mid edge to more → HasWalk q to (cost + more)
has_walk_step q mid cost edge to more w step = record {
  source = w.source;
  edges = w.edges ++ (edge, to) ∷ [];
  starts = w.starts;
  walk = walk_step q w.source w.edges mid cost edge to more w.walk step;
}

-- an element among one more
pub take_cases : {X : Type 0} (xs : List X) (n : ℕ) (x y : X) → slice_get xs n ≡ Some x →
    Contains (take (suc n) xs) y → Contains (take n xs) y ⊎ (y ≡ x)
take_cases [] n x y is has = cc
take_cases (z ∷ xs) zero x y is has =
    let same : z ≡ x = cc in
    elim (cons_cases z y [] has) [
      | inl e ↦ inr (e ∙ same)
      | inr none ↦
          absurd (omega (arith, none.1))
    ]
take_cases (z ∷ xs) (suc n) x y is has =
    elim (cons_cases z y (take (suc n) xs) has) [
      | inl e ↦ inl (zero, omega arith, sym e)
      | inr rest ↦ elim (take_cases xs n x y is rest) [
        | inl before ↦
            inl (in_cons z y (take n xs) before)
        | inr here ↦ inr here
      ]
    ]

-- what an offer leaves in order
pub record IsTaken (q : Question) (key : ℕ → ℕ → ℕ) (target : ℕ) (due : ℕ → ℕ × ℕ → Type 0)
    (point : ℕ) (label : Label) (old new : List (Option Label)) (now : List Entry) : Type 0 where
  pub settling : IsSettling q key target due new now
  pub has : Label
  pub known : IsKnown new point has
  pub no_worse : IsNoWorse has label.dist label.edge
  pub stays : (k : ℕ) (m : Label) → IsKnown old k m → m.settled ≡ true → IsKnown new k m
  pub was : (k : ℕ) (m : Label) → IsKnown new k m → m.settled ≡ true → IsKnown old k m
  pub free : (k : ℕ) (m : Label) → IsKnown old k m → m.dist ≡ 0 →
      (n : Label) × IsKnown new k n × (n.dist ≡ 0)
  pub weights : (w : ℕ → ℕ) → open_weight w 0 new ≡ open_weight w 0 old
  pub size : length new ≡ length old

module _ (q : Question) (key : ℕ → ℕ → ℕ) (target : ℕ) (due : ℕ → ℕ × ℕ → Type 0)
    (labels : List (Option Label)) (before now : List Entry) (point : ℕ) (label : Label) where
  -- the label is written
  written : IsSettling q key target due labels before → IsFair q key labels point label →
      ((held : Label) → IsKnown labels point held → held.settled ≡ false) →
      IsImproved key point label labels before now → IsTaken q key target due point label labels
      (slice_set labels point (Some label)) now
  written s f fresh i = record {
    settling = improved q key target due labels before now point label s f fresh i;
    has = label;
    known = known_set labels point label f.within;
    no_worse = inr (refl, omega arith);
    stays = λ k m known settled. elim (same_or_not k point) [
      | inl e ↦ let not : m.settled ≡ false =
          fresh m (subst (λ (j : ℕ). IsKnown labels j m) e known) in cc
      | inr n ↦ known_other labels point k label m n known
    ];
    was = λ k m known settled. elim (known_cases labels point k label m f.within known) [
      | inl e ↦ let not : m.settled ≡ false = ap (λ (x : Label). x.settled) e.1 ∙ f.unsettled in cc
      | inr n ↦ n.1
    ];
    free = λ k m known none. elim (same_or_not k point) [
      | inl e ↦ (
        label,
        subst (λ (j : ℕ). IsKnown (slice_set labels point (Some label)) j label) (sym e)
            (known_set labels point label f.within),
        elim (i.better m (subst (λ (j : ℕ). IsKnown labels j m) e known)) [
          | inl less ↦
              omega arith
          | inr same ↦ omega arith
        ],
      )
      | inr n ↦ (m, known_other labels point k label m n known, none)
    ];
    weights = λ w. open_weight-same w labels 0 point label fresh f.unsettled;
    size = length-set labels point (Some label);
  }

  -- the point isn't settled, since it would be below
  is_fresh : IsFair q key labels point label → ((held : Label) → IsKnown labels point held →
      label.dist ≤ held.dist) → (held : Label) → IsKnown labels point held → held.settled ≡ false
  is_fresh f above held known =
      elim (bool_cases held.settled) [
        | inl settled ↦ let less : held.dist < label.dist = f.below held known settled in
            absurd (omega (arith, above held known))
        | inr not ↦ not
      ]

  -- an offered label leaves all in order
  pub taken : (new : List (Option Label)) → IsSettling q key target due labels before →
      IsFair q key labels point label → IsOffered key point label labels new before now →
      IsTaken q key target due point label labels new now
  taken new s f (inl kept) =
      let P : List Entry → Type 0 = λ queue. IsTaken q key target due point label labels labels
      queue in
      subst (λ (l : List (Option Label)). IsTaken q key target due point label labels l now)
      (sym kept.labels)
      (subst P (sym kept.queue) (record {
        settling = s;
        has = kept.held;
        known = kept.known;
        no_worse = kept.no_worse;
        stays = λ k m known settled. known;
        was = λ k m known settled. known;
        free = λ k m known none. (m, known, none);
        weights = λ w. refl;
        size = refl;
      }))
  taken new s f (inr (inl retied)) =
      let fresh : (held : Label) → IsKnown labels point held → held.settled ≡ false =
      is_fresh f (λ held known. omega (
        arith,
        ap (λ (x : Label). x.dist)
            (known_once labels point held retied.held known retied.known),
        retied.tied,
      )) in
      let had : HasEntry before point retied.held.dist = s.unsettled point retied.held retied.known
      (fresh retied.held retied.known) in
      subst (λ (l : List (Option Label)). IsTaken q key target due point label labels l now)
      (sym retied.labels) (written s f fresh (record {
        better = λ held known. let same : held ≡ retied.held =
            known_once labels point held retied.held known retied.known in
            inr (
              retied.tied ∙ ap (λ (x : Label). x.dist) (sym same),
              omega
                  (arith, retied.lower, ap (λ (x : Label). x.edge) same),
            );
        entry = subst (λ (queue : List Entry). HasEntry queue point label.dist) (sym retied.queue)
            (record {
              entry = had.entry;
              queued = had.queued;
              point_is = had.point_is;
              dist_is =
                  had.dist_is ∙ sym retied.tied;
            });
        keeps = λ e in_before. subst (λ (queue : List Entry). Contains queue e)
            (sym retied.queue) in_before;
        others = λ e in_now. inr (subst (λ (queue : List Entry). Contains queue e) retied.queue
            in_now);
      }))
  taken new s f (inr (inr lowered)) =
      let fresh : (held : Label) → IsKnown labels point held → held.settled ≡ false =
      is_fresh f (λ held known. omega (arith, lowered.less held known)) in
      subst (λ (l : List (Option Label)). IsTaken q key target due point label labels l now)
      (sym lowered.labels) (written s f fresh (record {
        better = λ held known. inl (lowered.less held known);
        entry = record {
          entry = record {
            key = key point label.dist;
            dist = label.dist;
            point =
                point;
          };
          queued = lowered.queue.has;
          point_is = refl;
          dist_is = refl;
        };
        keeps = λ e in_before. lowered.queue.keeps e in_before;
        others = λ e in_now. elim (lowered.queue.adds_no_other e in_now) [
          | inl same ↦ inl (
            ap (λ (x : Entry). x.key) same,
            ap (λ (x : Entry). x.dist) same,
            ap
                (λ (x : Entry). x.point) same,
          )
          | inr was ↦ inr was
        ];
      }))

-- the edges to be gone over, with one more
pub edges_more : (q : Question) (at count point edge to : ℕ) (e : ℕ × ℕ) →
    slice_get (q.edges at) count ≡ Some (edge, to) → edges_but q at (count + 1) point e →
    edges_but q at count point e ⊎ ((point ≡ at) × (e ≡ (edge, to)))
edges_more q at count point edge to e is due =
    elim (same_or_not point at) [
      | inl here ↦
          let one : count + 1 ≡ suc count = add-one count in
          elim (take_cases (q.edges at) count (edge, to) e is
          (subst (λ (n : ℕ). Contains (take n (q.edges at)) e) one (due.1 here))) [
            | inl before ↦ inl (due.0, λ _. before)
            | inr same ↦ inr (here, same)
          ]
      | inr other ↦ inl (due.0, λ here. absurd (other here))
    ]
