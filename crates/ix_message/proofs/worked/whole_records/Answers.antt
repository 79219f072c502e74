-- Each is computed.
use Rattle.std.proofs.Common.{refl}
use Rattle.ix_message.specs.Indexes.{steps, first_unfit}
use Rattle.ix_message.specs.Names.{numbered, uses, first_uses, place_in}
use Rattle.ix_message.proofs.worked.whole_records.Goals as goal

pub returns-clause-tile : goal.returns-clause-tile
unfolding steps first_unfit numbered uses first_uses place_in
returns-clause-tile c = refl

pub returns-clause-whole : goal.returns-clause-whole
unfolding steps first_unfit numbered uses first_uses place_in
returns-clause-whole c = refl

pub returns-clause-pair : goal.returns-clause-pair
unfolding steps first_unfit numbered uses first_uses place_in
returns-clause-pair c = refl

pub returns-clause-bus : goal.returns-clause-bus
unfolding steps first_unfit numbered uses first_uses place_in
returns-clause-bus c = refl

pub returns-clause-routed : goal.returns-clause-routed
unfolding steps first_unfit numbered uses first_uses place_in
returns-clause-routed c = refl
