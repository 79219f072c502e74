use Rattle.std.proofs.Common.{◌∙◌, ap, sym}
use Rattle.std.specs.Prelude.{Some, option_map}
use Rattle.ix_element_tables.proofs.Noting.{plain_noted, outer_noted, known_noted, newly_noted}
use Rattle.ix_element_tables.proofs.Noting.{site_named, nothing, something}
use Rattle.ix_element_tables.proofs.noted.note.Goals as goal

pub returns-then-is_none : goal.returns-then-is_none
returns-then-is_none c = record {
  noted = plain_noted c.args.on.now.names.now c.args.on.now.device.now c.args.on.now.phys.now
      c.args.on.now.numbers.now c.args.placement c.at-its.result.now c.at-its.ensures
      c.args.tables.now c.requires.noted (sym c.cell.ensures.cell ∙ ap (option_map (λ x. x.now))
      (nothing c.cell.result c.is_none.result c.is_none.ensures c.if-is_none.true));
}

pub returns-in_default : goal.returns-in_default
returns-in_default c = record {
  noted = outer_noted c.args.on.now.names.now c.args.on.now.device.now c.args.on.now.phys.now
      c.args.on.now.numbers.now c.args.placement c.at-its.result.now c.at-its.ensures
      c.args.tables.now c.requires.noted c.in_default.ensures.none;
}

pub get-requires : goal.get-requires
get-requires c = c.requires.noted.room c.in-Some.at.number c.in-Some.ensures.inside

pub bits-requires-clause-site : goal.bits-requires-clause-site
bits-requires-clause-site c = site_named c.args.on.now.names.now c.args.on.now.phys.now
    c.requires.ready.sound c.args.placement c.at-its.result.now c.at-its.ensures

pub returns-in_ok-bits : goal.returns-in_ok-bits
returns-in_ok-bits c =
    let cell = something c.cell.result c.is_none.result c.is_none.ensures c.if-is_none.false in
    record {
      noted = newly_noted c.args.on.now.names.now c.args.on.now.device.now
          c.args.on.now.phys.now c.args.on.now.numbers.now c.args.placement c.at-its.result.now
          c.at-its.ensures c.args.tables.now c.requires.noted c.number_is_one.ensures.law
          c.requires.ready.placed c.in-Some.at c.in-Some.ensures.element
          c.element_is_one.ensures.law cell.0.now
          (sym c.cell.ensures.cell ∙ ap (option_map (λ x. x.now)) cell.1)
          (c.get.ensures ∙ ap Some (nothing c.get.result c.is_none-2.result c.is_none-2.ensures
          c.if-is_none-2.true)) c.in_ok-bits.bits c.in_ok-bits.ensures.table c.put.new.self
          c.put.ensures;
    }

pub returns-else-is_none-2 : goal.returns-else-is_none-2
returns-else-is_none-2 c =
    let bits = something c.get.result c.is_none-2.result c.is_none-2.ensures
    c.if-is_none-2.false in
    record {
      noted = known_noted c.args.on.now.names.now c.args.on.now.device.now
          c.args.on.now.phys.now c.args.on.now.numbers.now c.args.placement c.at-its.result.now
          c.at-its.ensures c.args.tables.now c.requires.noted c.number_is_one.ensures.law
          c.requires.ready.placed c.in-Some.at c.in-Some.ensures.element bits.0
          (c.get.ensures ∙ ap Some bits.1);
    }
