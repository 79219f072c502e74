-- The law of any message at the four tables.
use Rattle.std.proofs.Common.{refl}
use Rattle.ix_message.specs.Device.{device}
use Rattle.ix_message.specs.Netlist.{netlist}
use Rattle.ix_message.specs.Packed.{packed}
use Rattle.ix_message.specs.Phys.{phys_netlist}
use Rattle.ix_message.proofs.Proper.{are_sections, is_proper, is_root, message_again}
use Rattle.ix_message.proofs.laws.messages_read_again.Goals as goal

pub returns-clause-device : goal.returns-clause-device
unfolding is_root is_proper are_sections
returns-clause-device c = message_again device refl

pub returns-clause-netlist : goal.returns-clause-netlist
unfolding is_root is_proper are_sections
returns-clause-netlist c = message_again netlist refl

pub returns-clause-phys : goal.returns-clause-phys
unfolding is_root is_proper are_sections
returns-clause-phys c = message_again phys_netlist refl

pub returns-clause-packed : goal.returns-clause-packed
unfolding is_root is_proper are_sections
returns-clause-packed c = message_again packed refl
