use Rattle.std.proofs.Common.{◌∙◌, sym}
use Rattle.ix_frame.specs.Views.{elements_of}
use Rattle.ix_message.specs.Netlist.{cell_instance}
use Rattle.ix_logic_read.specs.Asking.{lists_in}
use Rattle.ix_logic_read.proofs.Entries.{entries_length}
use Rattle.ix_logic_read.proofs.context.NetlistContext.inst_count.Goals as goal

pub returns : goal.returns
unfolding lists_in
returns c = c.len.ensures ∙ sym (entries_length cell_instance (elements_of c.args.self.now.insts))
