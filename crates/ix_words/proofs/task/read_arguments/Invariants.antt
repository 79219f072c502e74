use Rattle.std.proofs.Common.{drop, map, string_bytes}
use Rattle.ix_words.proofs.Walking.{SoFar}
use Rattle.ix_words.proofs.task.read_arguments.Given as goal

abbrev pub invariant-loop-word : goal.invariant-loop-word
invariant-loop-word l =
    let words = map string_bytes l.words in
    SoFar words (drop l.word-index words) l.expected l.arguments
