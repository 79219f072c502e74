use Rattle.ix_flatten_cases.proofs.Grown.{inputs_stay}
use Rattle.ix_flatten_cases.proofs.reading.given_by.Goals as goal

pub returns-clause-inputs : goal.returns-clause-inputs
returns-clause-inputs c =
    inputs_stay c.device_of.new.names c.design_of.new.names c.in_ok-device.device
    c.in_ok-rec.ensures.keeps c.in_ok-device.ensures.inputs
