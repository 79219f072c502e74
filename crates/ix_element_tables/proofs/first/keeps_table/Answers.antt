use Rattle.std.proofs.Common.{◌∙◌, refl, ap, sym, subst}
use Rattle.std.specs.Prelude.{Some}
use Rattle.std.specs.Bool.{Decides}
use Rattle.std.proofs.lemmas.Bool.{false≢true}
use Rattle.ix_element_tables.specs.Kept.{KeepsTableAt}
use Rattle.ix_element_tables.proofs.Keeping.{none_keeps, tableless_breaks, function_decides}
use Rattle.ix_element_tables.proofs.first.keeps_table.Goals as goal

pub get-requires : goal.get-requires
get-requires c = c.requires.noted.room c.args.at.number c.requires.within

pub returns-in-None : goal.returns-in-None
returns-in-None c = (
  λ yes. none_keeps c.args.on.now.names.now c.args.on.now.device.now c.args.on.now.phys.now
      c.args.on.now.numbers.now c.args.tables.now c.requires.noted c.args.placement
      c.requires.element.placement c.requires.element.placement_is c.args.at c.requires.element
      c.requires.within (c.get.ensures ∙ ap Some c.in-None.is),
  λ keeps. refl,
)

pub returns-in-Some-None : goal.returns-in-Some-None
returns-in-Some-None c = (
  λ never. absurd (false≢true never),
  λ keeps. absurd (tableless_breaks c.args.on.now.names.now c.args.on.now.device.now
      c.args.on.now.phys.now c.args.on.now.numbers.now c.args.tables.now c.requires.noted
      c.args.placement c.requires.element.placement c.requires.element.placement_is c.args.at
      c.requires.element c.requires.within (c.get.ensures ∙ ap Some (c.in-Some-None.is
      ∙ ap Some c.in-Some-None.field-0-is)) keeps),
)

pub returns-in-Some-Some : goal.returns-in-Some-Some
returns-in-Some-Some c = subst (λ b. Decides b (KeepsTableAt c.args.on.now.names.now
    c.args.on.now.device.now c.args.on.now.phys.now c.args.placement c.args.at.element))
    (sym c.is_some.ensures) (function_decides c.args.on.now.names.now c.args.on.now.device.now
    c.args.on.now.phys.now c.args.on.now.numbers.now c.args.tables.now c.requires.noted
    c.args.placement c.at.result.now c.at.ensures c.args.at
    c.requires.element c.requires.within c.in-Some-Some.bits
    (c.get.ensures ∙ ap Some (c.in-Some-Some.is ∙ ap Some (c.in-Some-Some.field-0-is
    ∙ ap Some c.in-Some-Some.bits-is))) (λ t. t.bits) c.function_of.result
    c.function_of.ensures.function c.function_of.ensures.none)
