-- Each is computed.
use Rattle.std.proofs.Common.{refl}
use Rattle.ix_message.specs.Indexes.{steps, first_unfit}
use Rattle.ix_message.proofs.worked.device_fields.Goals as goal

pub returns-clause-fits : goal.returns-clause-fits
unfolding steps first_unfit
returns-clause-fits c = refl

pub returns-clause-not_inverting : goal.returns-clause-not_inverting
unfolding steps first_unfit
returns-clause-not_inverting c = refl

pub returns-clause-inverting_pin : goal.returns-clause-inverting_pin
unfolding steps first_unfit
returns-clause-inverting_pin c = refl

pub returns-clause-non_inverting_pin : goal.returns-clause-non_inverting_pin
unfolding steps first_unfit
returns-clause-non_inverting_pin c = refl

pub returns-clause-inversion : goal.returns-clause-inversion
unfolding steps first_unfit
returns-clause-inversion c = refl

pub returns-clause-category : goal.returns-clause-category
unfolding steps first_unfit
returns-clause-category c = refl

pub returns-clause-package_site : goal.returns-clause-package_site
unfolding steps first_unfit
returns-clause-package_site c = refl

pub returns-clause-package_no_site : goal.returns-clause-package_no_site
unfolding steps first_unfit
returns-clause-package_no_site c = refl
