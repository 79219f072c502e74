use Rattle.std.proofs.Common.{◌∙◌, ap, length, reverse, subst, sym, arith, List, ℕ, [], ◌∷◌}
use Rattle.std.proofs.lemmas.List.{reverse-append}
use Rattle.ix_least.proofs.Tracing.{IsTracing, tracing_start, tracing_back, known_before}
use Rattle.ix_least.proofs.Tracing.{less_before, traced_path, traced_walk, traced_few}
use Rattle.ix_least.proofs.front.trace.Goals as goal

pub loop-label-init : goal.loop-label-init
loop-label-init c = record {
  known = c.known-label.ensures;
  tracing = λ q f. subst (λ (es : List (ℕ × ℕ)). IsTracing q c.args.target c.args.labels.now
      c.args.target c.known-label.result es) (sym (ap reverse c.new-edges.ensures.items))
      (tracing_start q c.args.target c.args.labels.now c.known-label.result c.known-label.ensures
      f);
}

pub known-label-requires-in-loop-label : goal.known-label-requires-in-loop-label
known-label-requires-in-loop-label c =
    known_before c.requires.found.0 c.args.target c.args.labels.now c.loop-label.point
    c.loop-label.label (reverse c.loop-label.edges.items)
    (c.loop-label.invariant.tracing c.requires.found.0 c.requires.found.1)
    c.loop-label-test.true

pub loop-label-smaller : goal.loop-label-smaller
loop-label-smaller c =
    less_before c.requires.found.0 c.args.target c.args.labels.now c.loop-label.point
    c.loop-label.label c.known-label-in-loop-label.result (reverse c.loop-label.edges.items)
    (c.loop-label.invariant.tracing c.requires.found.0 c.requires.found.1)
    c.loop-label-test.true c.known-label-in-loop-label.ensures

pub loop-label-preserved : goal.loop-label-preserved
loop-label-preserved c = record {
  known = c.known-label-in-loop-label.ensures;
  tracing = λ q f. subst (λ (es : List (ℕ × ℕ)). IsTracing q c.args.target c.args.labels.now
      c.loop-label.label.from c.known-label-in-loop-label.result es)
      (sym (ap reverse c.in_ok-push.ensures.items ∙ reverse-append c.loop-label.edges.items
      (_ ∷ [])))
      (tracing_back q c.args.target c.args.labels.now c.loop-label.point c.loop-label.label
      c.known-label-in-loop-label.result (reverse c.loop-label.edges.items) f
      c.loop-label.invariant.known c.loop-label-test.true c.known-label-in-loop-label.ensures
      (c.loop-label.invariant.tracing q f));
}

pub invariant_of-result : goal.invariant_of-result
invariant_of-result c =
    omega (
      arith,
      ap length c.reverse.ensures.items,
      c.requires.few,
      traced_few c.requires.found.0
          c.args.target c.args.labels.now c.loop-label.point c.loop-label.label
          (reverse c.loop-label.edges.items) (c.loop-label.invariant.tracing c.requires.found.0
          c.requires.found.1),
    )

pub returns-clause-path : goal.returns-clause-path
returns-clause-path c q f = rw c.reverse.ensures.items
    (traced_path q c.args.target c.args.labels.now c.loop-label.point c.loop-label.label
    (reverse c.loop-label.edges.items) (omega (arith, c.loop-label-test.false))
    (c.loop-label.invariant.tracing q f))

pub returns-clause-walk : goal.returns-clause-walk
returns-clause-walk c q f = rw c.reverse.ensures.items
    (traced_walk q c.args.target c.args.labels.now c.loop-label.point c.loop-label.label
    (reverse c.loop-label.edges.items) (omega (arith, c.loop-label-test.false))
    (c.loop-label.invariant.tracing q f))
