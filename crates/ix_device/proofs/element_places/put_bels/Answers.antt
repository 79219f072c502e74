use Rattle.std.proofs.Common.{◌∙◌, ap, refl, ℕ, nat_eq, ◌&&◌, if◌then◌else◌, option_map, None, take}
use Rattle.std.specs.List.{position}
use Rattle.std.specs.Option.{option_or}
use Rattle.ix_keys.specs.Keys.{key, key_eq}
use Rattle.ix_first.specs.First.{value_at, or_later}
use Rattle.ix_device.specs.declared.element_places.ElementPlace.{ElementPlace}
use Rattle.ix_device.proofs.FirstPlaces.{one_more_place}
use Rattle.ix_device.proofs.PlaceLemmas.{one_more_bel}
use Rattle.ix_device.proofs.element_places.put_bels.Goals as goal

pub loop-j-preserved : goal.loop-j-preserved
loop-j-preserved c =
    λ ty bel. let placed : ℕ → ElementPlace = λ j. record c.args.at { place = j } in
    c.in_ok-put.ensures.values (key ty 0 bel)
    ∙ ap (λ k. or_later (value_at c.loop-j.table (key ty 0 bel)) (key_eq k (key ty 0 bel)) (placed c.in_ok-number_of.field-0)) (c.new-key.ensures ∙ ap (λ s. key s 0 c.get-in-loop-j.result) c.get.ensures ∙ ap (key c.args.site 0) c.get-in-loop-j.ensures)
    ∙ ap (λ n. or_later (value_at c.loop-j.table (key ty 0 bel)) (nat_eq c.args.site ty && nat_eq c.at.result.now.name bel) (placed n)) c.in_ok-number_of.ensures
    ∙ ap (λ o. or_later o (nat_eq c.args.site ty && nat_eq c.at.result.now.name bel) (placed c.loop-j.j)) (c.loop-j.invariant ty bel)
    ∙ one_more_bel (value_at c.args.table.now (key ty 0 bel)) (nat_eq c.args.site ty) (nat_eq c.at.result.now.name bel) placed (position (λ b. nat_eq b.name bel) (take c.loop-j.j c.args.bels.now)) c.loop-j.j
    ∙ ap (λ o. option_or (value_at c.args.table.now (key ty 0 bel)) (if nat_eq c.args.site ty then option_map placed o else None)) (one_more_place (λ b. nat_eq b.name bel) c.args.bels.now c.loop-j.j c.at.result.now _ c.at.ensures refl)
