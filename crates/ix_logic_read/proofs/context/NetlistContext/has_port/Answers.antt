use Rattle.std.proofs.Common.{◌∙◌, ◌^◌, ◌<◌}
use Rattle.ix_frame.specs.Views.{elements_of}
use Rattle.ix_logic_read.specs.Asking.{lists_in}
use Rattle.ix_logic_read.proofs.Entries.{held_there}
use Rattle.ix_logic_read.proofs.context.NetlistContext.has_port.Goals as goal

pub returns : goal.returns
unfolding lists_in
returns c =
    let lt : c.args.port < 2 ^ 32 = c.ranges.port.fits in
    rw c.pin.ensures at c.has.ensures ∙ held_there c.args.self.now.held
    (elements_of c.args.self.now.decls) c.args.decl c.args.port c.args.self.now.held_are lt
