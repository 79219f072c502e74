use Rattle.std.proofs.Common.{ap, ◌∙◌}
use Rattle.ix_keys.specs.Keys.{key, key_eq}
use Rattle.ix_first.specs.First.{value_at, or_later}
use Rattle.ix_device_rules.specs.Rules.{is_pin_of}
use Rattle.ix_device.proofs.FirstPlaces.{one_more_place}
use Rattle.ix_device.proofs.types.bel_pin_numbers.Goals as goal

pub loop-i-preserved : goal.loop-i-preserved
loop-i-preserved c =
    λ bel name. c.in_ok-put.ensures.values (key 0 bel name)
    ∙ ap (λ k. or_later (value_at c.loop-i.table (key 0 bel name)) (key_eq k (key 0 bel name)) c.new-number.result) (c.new.ensures ∙ ap (λ b. key 0 b c.get-in-loop-i.result) c.get.ensures ∙ ap (key 0 c.at-pin.result.now.bel) c.get-in-loop-i.ensures)
    ∙ ap (or_later (value_at c.loop-i.table (key 0 bel name)) (is_pin_of bel name c.at-pin.result.now)) (c.new-number.ensures ∙ c.in_ok-number_of.ensures)
    ∙ one_more_place (is_pin_of bel name) c.args.ty.now.bel_pins c.loop-i.i c.at-pin.result.now (value_at c.loop-i.table (key 0 bel name)) c.at-pin.ensures (c.loop-i.invariant bel name)
