-- Each is computed.
use Rattle.std.proofs.Common.{refl}
use Rattle.ix_message.specs.Indexes.{steps, first_unfit}
use Rattle.ix_message.proofs.worked.device_places.Goals as goal

pub returns-clause-tile_type : goal.returns-clause-tile_type
unfolding steps first_unfit
returns-clause-tile_type c = refl

pub returns-clause-site_type : goal.returns-clause-site_type
unfolding steps first_unfit
returns-clause-site_type c = refl

pub returns-clause-no_site_types : goal.returns-clause-no_site_types
unfolding steps first_unfit
returns-clause-no_site_types c = refl

pub returns-clause-node : goal.returns-clause-node
unfolding steps first_unfit
returns-clause-node c = refl

pub returns-clause-site_pip : goal.returns-clause-site_pip
unfolding steps first_unfit
returns-clause-site_pip c = refl

pub returns-clause-site_wire : goal.returns-clause-site_wire
unfolding steps first_unfit
returns-clause-site_wire c = refl

pub returns-clause-pip : goal.returns-clause-pip
unfolding steps first_unfit
returns-clause-pip c = refl

pub returns-clause-pip_kind : goal.returns-clause-pip_kind
unfolding steps first_unfit
returns-clause-pip_kind c = refl

pub returns-clause-sources : goal.returns-clause-sources
unfolding steps first_unfit
returns-clause-sources c = refl
