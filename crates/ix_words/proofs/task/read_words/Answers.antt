use Rattle.std.proofs.Common.{◌∙◌, ap, sym, subst, map, string_bytes, Bool}
use Rattle.ix_words.proofs.Asking.{answered, split_words}
use Rattle.ix_words.specs.Arguments.{TellsFit}
use Rattle.ix_words.specs.Tasks.{command_of}
use Rattle.ix_words.proofs.task.read_words.Goals as goal

pub returns : goal.returns
returns c =
    let others = map string_bytes c.in_ok-name.others.now in
    let word = c.as_str.result.now in
    answered word others c.in_ok-command.command c.in_ok-arguments.arguments c.ask.result
    c.in_ok-command.ensures c.in_ok-arguments.ensures
    (subst (λ (told : Bool). TellsFit c.in_ok-command.command c.in_ok-arguments.arguments told)
    c.if-not-fit.false c.fit.ensures)
    c.ask.ensures
    ∙ ap command_of (sym (split_words string_bytes c.args.words.now c.in_ok-name.name.now
    c.in_ok-name.others.now word c.in_ok-name.ensures.cases.0 c.as_str.ensures.value))
