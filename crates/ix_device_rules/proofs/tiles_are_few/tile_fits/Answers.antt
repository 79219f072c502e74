use Rattle.std.proofs.Common.{◌∷◌, []}
use Rattle.ix_message.specs.Indexes.{asked}
use Rattle.ix_device_rules.specs.Rules
use Rattle.ix_device_rules.proofs.Steps.{walks_then, stops_too}
use Rattle.std.proofs.Common.{nat_le}
use Rattle.ix_device_rules.proofs.tiles_are_few.tile_fits.Goals as goal

pub returns-in-Err : goal.returns-in-Err
returns-in-Err c = stops_too (asked "Tile" "row" (nat_le c.args.tile.now.row Rules.most_row) ∷ asked "Tile" "col" (nat_le c.args.tile.now.col Rules.most_row) ∷ []) c.in-Err.ensures

pub returns-in-Ok-ask : goal.returns-in-Ok-ask
returns-in-Ok-ask c = walks_then (walks_then c.in-Ok.ensures c.in-Ok-ask.ensures) c.ask-in-Ok-ask.ensures

pub returns-in-Err-ask : goal.returns-in-Err-ask
returns-in-Err-ask c = stops_too (asked "Tile" "col" (nat_le c.args.tile.now.col Rules.most_row) ∷ []) (walks_then c.in-Ok.ensures c.in-Err-ask.ensures)
