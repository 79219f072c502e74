use Rattle.ix_pin_maps.proofs.Admission.{inputs_differ}
use Rattle.ix_pin_maps.proofs.laws.inputs_differ.Goals as goal

pub returns : goal.returns
returns c = record { law = inputs_differ }
