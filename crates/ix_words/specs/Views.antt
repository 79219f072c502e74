-- What the code holds, as the definitions speak of it.
use Rattle.ix_words.specs.declared.command.Command.{Command}
use Rattle.ix_words.specs.declared.command.Command.TheVariants as a_command
use Rattle.ix_words.specs.Tasks.{Task, pack, place, route, check, flow, demo}

abbrev pub command_view : Command → Task
command_view (a_command.Pack device design packed) = pack device.now design.now packed.now
command_view (a_command.Place device design packed placed seed moves) =
    place device.now design.now packed.now placed.now seed moves
command_view (a_command.Route device design placed routed rounds) =
    route device.now design.now placed.now routed.now rounds
command_view (a_command.Check device design physical is_placed) =
    check device.now design.now physical.now is_placed
command_view (a_command.Flow device design routed seed moves rounds trials) =
    flow device.now design.now routed.now seed moves rounds trials
command_view (a_command.Demo size device design) = demo size device.now design.now
