-- Each is computed.
use Rattle.std.proofs.Common.{refl}
use Rattle.ix_message.specs.Indexes.{steps, first_unfit}
use Rattle.ix_message.proofs.worked.bad_fields.Goals as goal

pub returns-clause-fits : goal.returns-clause-fits
unfolding steps first_unfit
returns-clause-fits c = refl

pub returns-clause-bit_of_bus : goal.returns-clause-bit_of_bus
unfolding steps first_unfit
returns-clause-bit_of_bus c = refl

pub returns-clause-no_port : goal.returns-clause-no_port
unfolding steps first_unfit
returns-clause-no_port c = refl

pub returns-clause-lacked_port : goal.returns-clause-lacked_port
unfolding steps first_unfit
returns-clause-lacked_port c = refl

pub returns-clause-port_of_cell : goal.returns-clause-port_of_cell
unfolding steps first_unfit
returns-clause-port_of_cell c = refl

pub returns-clause-tag_of_bit : goal.returns-clause-tag_of_bit
unfolding steps first_unfit
returns-clause-tag_of_bit c = refl

pub returns-clause-past_bus : goal.returns-clause-past_bus
unfolding steps first_unfit
returns-clause-past_bus c = refl

pub returns-clause-no_owner : goal.returns-clause-no_owner
unfolding steps first_unfit
returns-clause-no_owner c = refl

pub returns-clause-not_of_cell : goal.returns-clause-not_of_cell
unfolding steps first_unfit
returns-clause-not_of_cell c = refl

pub returns-clause-no_instance : goal.returns-clause-no_instance
unfolding steps first_unfit
returns-clause-no_instance c = refl

pub returns-clause-lacked_first : goal.returns-clause-lacked_first
unfolding steps first_unfit
returns-clause-lacked_first c = refl

pub returns-clause-third_unasked : goal.returns-clause-third_unasked
unfolding steps first_unfit
returns-clause-third_unasked c = refl

pub returns-clause-third_below : goal.returns-clause-third_below
unfolding steps first_unfit
returns-clause-third_below c = refl

pub returns-clause-kind_below : goal.returns-clause-kind_below
unfolding steps first_unfit
returns-clause-kind_below c = refl
