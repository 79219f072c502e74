-- There is one least path.
use Rattle.std.proofs.Common.{◌≡◌, ℕ, List, [], ◌∷◌, ◌++◌, reverse, refl, sym, ◌∙◌, ap, subst}
use Rattle.std.proofs.Common.{arith, Contains}
use Rattle.std.proofs.lemmas.List.{reverse-append, reverse-reverse}
use Rattle.ix_least.specs.Walks.{Question, IsLastEdge, IsTraced, Way, NumbersDiffer}
use Rattle.ix_least.specs.Walks.{LeastPathsAreOne}

-- a path with a last edge: how the edge enters the target, and the path before it
record EndsBy (q : Question) (from : ℕ) (edges : List (ℕ × ℕ)) (edge : ℕ × ℕ)
    (target : ℕ) : Type 0 where
  before : ℕ
  enters : edge.1 ≡ target
  last : IsLastEdge q before edge.0 target
  traced : IsTraced q from edges before

traced_end : (q : Question) (from : ℕ) (edges : List (ℕ × ℕ)) (edge : ℕ × ℕ) (target : ℕ) →
    IsTraced q from (edges ++ edge ∷ []) target → EndsBy q from edges edge target
unfolding IsTraced
traced_end q from [] edge target t = record {
  before = from;
  enters = t.1;
  last =
      subst (λ (p : ℕ). IsLastEdge q from edge.0 p) t.1 t.0;
  traced = refl;
}
traced_end q from (e ∷ edges) edge target t =
    let rest : EndsBy q e.1 edges edge target = traced_end q e.1 edges edge target t.1 in
    record {
      before = rest.before;
      enters = rest.enters;
      last = rest.last;
      traced =
          (t.0, rest.traced);
    }

pair_is : (e f : ℕ × ℕ) → e.0 ≡ f.0 → e.1 ≡ f.1 → e ≡ f
pair_is e f first second = ap (λ (n : ℕ). let x : ℕ × ℕ = (n, e.1) in x) first
    ∙ ap (λ (n : ℕ). let x : ℕ × ℕ = (f.0, n) in x) second

-- two paths, seen from the target back
one_back : (q : Question) (differ : NumbersDiffer q) (back other_back : List (ℕ × ℕ))
    (from other target : ℕ) → Contains q.sources from → Contains q.sources other →
    IsTraced q from (reverse back) target → IsTraced q other (reverse other_back) target →
    (from ≡ other) × (back ≡ other_back)
unfolding IsTraced
one_back q differ [] [] from other target source other_source t u = (t ∙ sym u, refl)
one_back q differ [] (e ∷ back) from other target source other_source t u =
    let end : EndsBy q other (reverse back) e target = traced_end q other (reverse back) e target
    (subst (λ (es : List (ℕ × ℕ)). IsTraced q other es target) (reverse-append (e ∷ []) back) u)
    in
    absurd (end.last.no_source (subst (Contains q.sources) t source))
one_back q differ (e ∷ back) [] from other target source other_source t u =
    let end : EndsBy q from (reverse back) e target = traced_end q from (reverse back) e target
    (subst (λ (es : List (ℕ × ℕ)). IsTraced q from es target) (reverse-append (e ∷ []) back) t)
    in
    absurd (end.last.no_source (subst (Contains q.sources) u other_source))
one_back q differ (e ∷ back) (f ∷ other_back) from other target source other_source t u =
    let one : EndsBy q from (reverse back) e target = traced_end q from (reverse back) e target
    (subst (λ (es : List (ℕ × ℕ)). IsTraced q from es target) (reverse-append (e ∷ []) back) t)
    in
    let two : EndsBy q other (reverse other_back) f target =
    traced_end q other (reverse other_back) f target
    (subst (λ (es : List (ℕ × ℕ)). IsTraced q other es target)
    (reverse-append (f ∷ []) other_back) u) in
    let number : e.0 ≡ f.0 = omega (
      arith,
      one.last.least two.before f.0 two.last.tied,
      two.last.least one.before e.0 one.last.tied,
    ) in
    let same : (one.before ≡ two.before) × (target ≡ target) =
    differ one.before two.before e.0 target target one.last.tied.step.inside
    two.last.tied.step.inside one.last.tied.step.leads
    (subst (λ (n : ℕ). Contains (q.edges two.before) (n, target))
    (sym number) two.last.tied.step.leads) in
    let rest : (from ≡ other) × (back ≡ other_back) =
    one_back q differ back other_back from other two.before source other_source
    (subst (λ (p : ℕ). IsTraced q from (reverse back) p) same.0 one.traced) two.traced in
    let edge : e ≡ f = pair_is e f number (one.enters ∙ sym two.enters) in
    (rest.0, ap (λ (x : ℕ × ℕ). x ∷ back) edge ∙ ap (λ (l : List (ℕ × ℕ)). f ∷ l) rest.1)

pub least_paths_are_one : LeastPathsAreOne
least_paths_are_one q target path other differ p o =
    let back : (path.source ≡ other.source) × (reverse path.edges ≡ reverse other.edges) =
    one_back q differ (reverse path.edges) (reverse other.edges) path.source other.source target
    p.source o.source
    (subst (λ (es : List (ℕ × ℕ)). IsTraced q path.source es target)
    (sym (reverse-reverse path.edges)) p.traced)
    (subst (λ (es : List (ℕ × ℕ)). IsTraced q other.source es target)
    (sym (reverse-reverse other.edges)) o.traced) in
    let edges : path.edges ≡ other.edges = sym (reverse-reverse path.edges)
    ∙ (ap reverse back.1 ∙ reverse-reverse other.edges) in
    ap (λ (s : ℕ). let w : Way = record { source = s; edges = path.edges } in w) back.0
    ∙ ap (λ (es : List (ℕ × ℕ)). let w : Way = record { source = other.source; edges = es } in
    w) edges
