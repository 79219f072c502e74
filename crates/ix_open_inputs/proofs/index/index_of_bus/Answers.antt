use Rattle.std.proofs.Common.{◌≡◌, ◌∙◌, ap, sym, [], arith}
use Rattle.std.specs.Fmt.{decimal}
use Rattle.std.proofs.lemmas.Option.{same_Some, none-some, get_or_from_slice_get}
use Rattle.ix_open_inputs.specs.Spelling.{bit_written}
use Rattle.ix_open_inputs.proofs.BusBits.{not_another}
use Rattle.ix_open_inputs.proofs.index.index_of_bus.Goals as goal

pub returns-else-from-bits-clause-index : goal.returns-else-from-bits-clause-index
returns-else-from-bits-clause-index c index below same = not_another c.args.text.now c.name.result.now
    c.in-Some.digits.now c.in_ok-index.field-0 c.width-bits.result index c.in-Some.ensures
    c.in_ok-index.ensures c.width-bits.ensures.most (omega (
      arith,
      below,
      c.width-bits.ensures.width,
    ))
    (λ n is. let eq : c.in-Some-2.index ≡ n = same_Some c.in-Some-2.index n
    (sym c.in-Some-2.is ∙ is) in (
      omega (arith, eq, c.if-from-bits.false, c.from.ensures),
      omega (arith, eq, c.from.type_inv, c.from.ensures),
    ))
    (same ∙ ap (λ name. bit_written name (decimal index)) (get_or_from_slice_get c.args.names.now
    c.args.port.now.name c.name.result.now [] c.name.ensures.text))

pub returns-in-None-clause-index : goal.returns-in-None-clause-index
returns-in-None-clause-index c index below same = not_another c.args.text.now c.name.result.now
    c.in-Some.digits.now c.in_ok-index.field-0 c.width-bits.result index c.in-Some.ensures
    c.in_ok-index.ensures c.width-bits.ensures.most (omega (
      arith,
      below,
      c.width-bits.ensures.width,
    )) (λ n is. absurd (none-some n (sym c.in-None.is ∙ is)))
    (same ∙ ap (λ name. bit_written name (decimal index)) (get_or_from_slice_get c.args.names.now
    c.args.port.now.name c.name.result.now [] c.name.ensures.text))
