use Rattle.std.proofs.Common.{◌+◌, map, drop, string_bytes, subst, sym, Option, None}
use Rattle.ix_words.proofs.Walking.{SoFar, word_at, none_left, stopped, kept_token, kept_none}
use Rattle.ix_words.proofs.Walking.{unfinished, finished}
use Rattle.ix_words.specs.declared.arguments.Arguments.{Arguments}
use Rattle.ix_words.specs.Arguments.{AreArgumentsOf}
use Rattle.ix_words.specs.Words.{tokens}
use Rattle.ix_words.proofs.task.read_arguments.Goals as goal
use Rattle.ix_words.proofs.task.read_arguments.Goals.{in-Some, in_default}

pub returns-in_err-step : goal.returns-in_err-step
returns-in_err-step c =
    let words = map string_bytes c.args.words.now in
    let others = drop (c.loop-word.word-index + 1) words in
    let word = c.as_str.result.now in
    let here = word_at string_bytes c.args.words.now c.loop-word.word-index c.word-item.result word
    c.loop-word-test.true c.word-item.is c.as_str.ensures.value in
    let before = subst (λ ws. SoFar words ws c.loop-word.expected c.loop-word.arguments) here
    c.loop-word.invariant in
    subst (λ (r : Option Arguments). AreArgumentsOf (tokens None words) r)
    (sym c.from_residual.ensures) (stopped words word others c.loop-word.expected
    c.loop-word.arguments before c.in_err-step.ensures)

pub loop-word-preserved : goal.loop-word-preserved
loop-word-preserved c =
    let words = map string_bytes c.args.words.now in
    let others = drop (c.loop-word.word-index + 1) words in
    let word = c.as_str.result.now in
    let here = word_at string_bytes c.args.words.now c.loop-word.word-index c.word-item.result word
    c.loop-word-test.true c.word-item.is c.as_str.ensures.value in
    let before = subst (λ ws. SoFar words ws c.loop-word.expected c.loop-word.arguments) here
    c.loop-word.invariant in
    let then = c.in_ok-step.step.expected in
    elim c.match-step.branch [
      | in-Some w ↦ subst (λ (kept : Arguments). SoFar words others then kept)
          (sym w.arguments-is)
          (kept_token words word others c.loop-word.expected then c.loop-word.arguments
          w.add.new.self w.in-Some.token c.in_ok-step.step.token before c.in_ok-step.ensures
          w.in-Some.is w.add.ensures)
      | in_default w ↦ subst (λ (kept : Arguments). SoFar words others then kept)
          (sym w.arguments-is)
          (kept_none words word others c.loop-word.expected then c.loop-word.arguments
          c.in_ok-step.step.token before c.in_ok-step.ensures w.in_default.is)
    ]

pub returns-in-Value : goal.returns-in-Value
returns-in-Value c =
    let words = map string_bytes c.args.words.now in
    unfinished words c.loop-word.expected c.in-Value.field-0 c.loop-word.arguments
    (subst (λ ws. SoFar words ws c.loop-word.expected c.loop-word.arguments)
    (none_left string_bytes c.args.words.now c.loop-word.word-index c.loop-word-test.false)
    c.loop-word.invariant)
    c.in-Value.is

pub returns-in-Any : goal.returns-in-Any
returns-in-Any c =
    let words = map string_bytes c.args.words.now in
    finished words c.loop-word.expected c.loop-word.arguments
    (subst (λ ws. SoFar words ws c.loop-word.expected c.loop-word.arguments)
    (none_left string_bytes c.args.words.now c.loop-word.word-index c.loop-word-test.false)
    c.loop-word.invariant)
    c.in-Any.is
