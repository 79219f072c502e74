use Rattle.std.proofs.Common.{◌∙◌}
use Rattle.std.proofs.lemmas.Result.{IfOk-weaker}
use Rattle.ix_bit_names.proofs.Growing.{bit_added}
use Rattle.ix_bit_names.proofs.written.add_bit.Goals as goal

pub returns-clause-name : goal.returns-clause-name
returns-clause-name c =
    IfOk-weaker c.add_name.result _ _ (λ id is. bit_added c.args.names.now c.add_name.new.names c.args.rec.now c.args.port c.args.index c.at.result.now id
    c.as_str.result.now c.add_name.ensures.keeps c.requires.named c.at.ensures (c.as_str.ensures.value ∙ c.in_ok-text.ensures) is) c.add_name.ensures.text
