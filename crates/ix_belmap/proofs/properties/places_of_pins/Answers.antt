use Rattle.std.proofs.Common.{ap, refl, sym, ◌∙◌, nat_eq, length, arith}
use Rattle.std.specs.List.{position}
use Rattle.std.proofs.lemmas.Option.{slice_get_read}
use Rattle.ix_keys.specs.Keys.{name_key, key_eq}
use Rattle.ix_first.specs.First.{value_at, or_later}
use Rattle.ix_device.proofs.FirstPlaces.{one_more_place}
use Rattle.ix_belmap.proofs.Values.{take_end}
use Rattle.ix_belmap.proofs.properties.places_of_pins.Goals as goal

pub loop-i-preserved : goal.loop-i-preserved
loop-i-preserved c =
    let at = slice_get_read c.args.pins.now
    (length c.args.pins.now) c.loop-i.i c.index-pins-i.result refl
    (omega arith) c.index-pins-i.is in
    λ name. c.in_ok-put.ensures.values (name_key name)
    ∙ ap (λ k. or_later (value_at c.loop-i.places (name_key name))
    (key_eq k (name_key name)) c.in_ok-number_of.field-0)
    (c.of_name.ensures ∙ ap name_key c.get.ensures)
    ∙ ap (λ p. or_later (value_at c.loop-i.places (name_key name))
    (nat_eq p.package_pin name) c.in_ok-number_of.field-0) (sym c.index-pins-i.is)
    ∙ ap (or_later (value_at c.loop-i.places (name_key name))
    (nat_eq c.index-pins-i.result.package_pin name)) c.in_ok-number_of.ensures
    ∙ one_more_place (λ p. nat_eq p.package_pin name) c.args.pins.now c.loop-i.i
    c.index-pins-i.result (value_at c.loop-i.places (name_key name)) at
    (c.loop-i.invariant name)

pub returns : goal.returns
returns c name = c.loop-i.invariant name ∙ ap (position (λ p. nat_eq p.package_pin name))
    (take_end c.args.pins.now c.loop-i.i (omega arith))
