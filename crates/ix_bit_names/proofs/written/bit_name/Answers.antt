use Rattle.std.proofs.Common.{◌∙◌, ap, rules}
use Rattle.ix_keys.specs.Keys.{key_eq}
use Rattle.ix_keys.specs.declared.key.Key.{Key}
use Rattle.ix_first.specs.First.{value_at, or_later}
use Rattle.ix_bit_names.proofs.Growing.{bit_alone, numbers_more}
use Rattle.ix_bit_names.proofs.written.bit_name.Goals as goal

pub returns-then-eq-clause-name : goal.returns-then-eq-clause-name
returns-then-eq-clause-name c = bit_alone c.args.names.now c.args.rec.now c.args.port c.args.index c.at-its.result.now
    c.requires.named c.at-its.ensures (search rules)

pub returns-clause-table : goal.returns-clause-table
returns-clause-table c =
    numbers_more c.args.names.now c.add_bit.new.names c.args.rec.now c.args.table.now c.put.new.self c.args.port c.args.index c.in_ok-name.name
    c.in_ok-name.ensures.grows.keeps c.requires.named c.requires.table c.in_ok-name.ensures.name
    (λ q. c.in_ok-put.ensures.values q ∙ ap (λ (k : Key). or_later (value_at c.args.table.now q) (key_eq k q) c.in_ok-name.name) c.new-2.ensures)
