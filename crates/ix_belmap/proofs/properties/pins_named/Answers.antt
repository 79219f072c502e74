use Rattle.std.proofs.Common.{ap, sym, ◌∙◌, Some}
use Rattle.ix_belmap.specs.Pins.{pins_by, pins_of_package}
use Rattle.ix_belmap.proofs.properties.pins_named.Goals as goal

pub returns : goal.returns
returns c = c.pins_of_package.ensures ∙ ap
    (λ r. pins_of_package r c.in-Text.name) c.rec.ensures.same
    ∙ sym (ap (λ v. pins_by c.args.device.now (Some v)) c.in-Text.is)
