use Rattle.std.proofs.Common.{◌+◌, slice_set}
use Rattle.ix_words.proofs.Keeping.{adds_operand, one_operand, past_operand}
use Rattle.ix_words.proofs.arguments.Arguments.add_operand.Goals as goal

pub returns-then-self-lt-MOST_OPERANDS : goal.returns-then-self-lt-MOST_OPERANDS
returns-then-self-lt-MOST_OPERANDS c =
    let kept = c.args.self.now in
    adds_operand kept (slice_set kept.operands kept.count c.args.operand) (kept.count + 1)
    c.args.operand.now (λ all h. one_operand kept.operands kept.count all c.args.operand h
    c.if-self-lt-MOST_OPERANDS.true)

pub returns-else-self-lt-MOST_OPERANDS : goal.returns-else-self-lt-MOST_OPERANDS
returns-else-self-lt-MOST_OPERANDS c =
    let kept = c.args.self.now in
    adds_operand kept kept.operands 5 c.args.operand.now (λ all h. past_operand kept.operands
    kept.count all c.args.operand.now h c.if-self-lt-MOST_OPERANDS.false)
