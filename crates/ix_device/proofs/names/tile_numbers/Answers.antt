use Rattle.std.proofs.Common.{ap, ◌∙◌, nat_eq}
use Rattle.ix_keys.specs.Keys.{name_key, key_eq}
use Rattle.ix_first.specs.First.{value_at, or_later}
use Rattle.ix_device.proofs.FirstPlaces.{one_more_place}
use Rattle.ix_device.proofs.names.tile_numbers.Goals as goal

pub loop-i-preserved : goal.loop-i-preserved
loop-i-preserved c =
    λ name. c.in_ok-put.ensures.values (name_key name)
    ∙ ap (λ k. or_later (value_at c.loop-i.table (name_key name)) (key_eq k (name_key name)) c.new-tile.result) (c.of_name.ensures ∙ ap name_key c.get.ensures)
    ∙ ap (or_later (value_at c.loop-i.table (name_key name)) (nat_eq c.at.result.now.name name)) (c.new-tile.ensures ∙ c.in_ok-number_of.ensures)
    ∙ one_more_place (λ t. nat_eq t.name name) c.args.rec.now.tile_list c.loop-i.i c.at.result.now (value_at c.loop-i.table (name_key name)) c.at.ensures (c.loop-i.invariant name)
