use Rattle.std.proofs.Common.{ap, sym, ◌∙◌, arith}
use Rattle.ix_keys.specs.Keys.{name_key, key_eq}
use Rattle.ix_first.specs.First.{value_at, or_later}
use Rattle.ix_belmap.specs.Pins.{value_of_key}
use Rattle.ix_belmap.proofs.Values.{value_next, value_start, take_end}
use Rattle.ix_belmap.proofs.properties.values_by_key.Goals as goal

pub loop-i-init : goal.loop-i-init
loop-i-init c key = c.new-values.ensures (name_key key) ∙ sym (value_start key)

pub loop-i-preserved : goal.loop-i-preserved
loop-i-preserved c key =
    c.in_ok-put.ensures.values (name_key key)
    ∙ ap (λ k. or_later (value_at c.loop-i.values (name_key key))
    (key_eq k (name_key key)) c.at-entry.result.now.value)
    (c.of_name.ensures ∙ ap name_key c.get.ensures)
    ∙ value_next c.args.properties.now c.loop-i.i c.at-entry.result.now
    (value_at c.loop-i.values (name_key key)) key c.at-entry.ensures (c.loop-i.invariant key)

pub returns : goal.returns
returns c key = c.loop-i.invariant key ∙ ap (λ l. value_of_key l key)
    (take_end c.args.properties.now c.loop-i.i (omega arith))
