use Rattle.std.proofs.Common.{◌<◌, ◌^◌, ◌+◌, arith, rules}
use Rattle.ix_element_numbers.proofs.Numbered.{instance_there, in_element, in_count}
use Rattle.ix_element_numbers.proofs.numbers.ElementNumbers.find.Goals as goal

pub returns-in_err-instance-clause-none : goal.returns-in_err-instance-clause-none
returns-in_err-instance-clause-none c = absurd (instance_there c.args.device.now c.args.phys.now
    c.requires.placed c.args.self.now c.requires.numbers c.args.placement
    c.at-placement.result.now c.at-placement.ensures c.get.result c.get.ensures
    c.in_err-instance.ensures)

pub overflow_add-number : goal.overflow_add-number
overflow_add-number c =
    let within = in_count c.args.device.now c.args.phys.now c.requires.placed c.args.self.now
    c.requires.numbers c.args.placement c.at-placement.result.now c.at-placement.ensures
    c.get.result c.get.ensures c.in_ok-site.site c.type_of-ty.result c.in_ok-bel.bel
    c.in_ok-instance.instance c.index.result.now
    (c.in_ok-element.element, c.in_ok-element.field-0-1) c.in_ok-site.ensures.site
    c.type_of-ty.ensures.ty c.in_ok-bel.ensures.bel c.in_ok-element.ensures
    c.in_ok-instance.ensures c.index.ensures in
    let few = c.requires.numbers.few in
    let fits : c.index.result.now + c.in_ok-element.element < 2 ^ 64
    = omega (arith, within, few) in search rules

pub returns-clause-element : goal.returns-clause-element
returns-clause-element c =
    in_element c.args.device.now c.args.phys.now c.requires.placed c.args.self.now
    c.requires.numbers c.args.placement c.at-placement.result.now c.at-placement.ensures
    c.get.result c.get.ensures c.in_ok-site.site c.type_of-ty.result c.in_ok-bel.bel
    c.in_ok-instance.instance c.index.result.now
    (c.in_ok-element.element, c.in_ok-element.field-0-1) c.in_ok-site.ensures.site
    c.type_of-ty.ensures.ty c.in_ok-bel.ensures.bel c.in_ok-element.ensures
    c.in_ok-instance.ensures c.index.ensures

pub returns-clause-inside : goal.returns-clause-inside
returns-clause-inside c =
    in_count c.args.device.now c.args.phys.now c.requires.placed c.args.self.now
    c.requires.numbers c.args.placement c.at-placement.result.now c.at-placement.ensures
    c.get.result c.get.ensures c.in_ok-site.site c.type_of-ty.result c.in_ok-bel.bel
    c.in_ok-instance.instance c.index.result.now
    (c.in_ok-element.element, c.in_ok-element.field-0-1) c.in_ok-site.ensures.site
    c.type_of-ty.ensures.ty c.in_ok-bel.ensures.bel c.in_ok-element.ensures
    c.in_ok-instance.ensures c.index.ensures
