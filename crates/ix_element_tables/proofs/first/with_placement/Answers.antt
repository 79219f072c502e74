use Rattle.std.proofs.Common.{◌∙◌, sym}
use Rattle.std.proofs.lemmas.Bool.{false≢true}
use Rattle.ix_element_tables.proofs.Firsts.{later_stays, kept_stays, newly_broken}
use Rattle.ix_element_tables.proofs.first.with_placement.Goals.{else-is_earlier-via-then-is_earlier+else-not-keeps_table, else-is_earlier-via-else-is_earlier}
use Rattle.ix_element_tables.proofs.first.with_placement.Goals as goal

pub returns-then-not-keeps_table : goal.returns-then-not-keeps_table
returns-then-not-keeps_table c =
    let its = c.in-Some.ensures.element in
    newly_broken c.args.on.now.names.now c.args.on.now.device.now c.args.on.now.phys.now
    c.args.placement c.args.first c.requires.first its.placement its.placement_is
    c.instance_is_one.ensures.law c.requires.ready.placed c.in-Some.at its
    (c.is_earlier.ensures.0 c.if-is_earlier.true)
    (λ keeps. false≢true (sym c.if-not-keeps_table.true ∙ c.keeps_table.ensures.1 keeps))

pub returns : goal.returns
returns c =
    let its = c.in-Some.ensures.element in
    elim c.else-is_earlier.branch [
      | else-is_earlier-via-then-is_earlier+else-not-keeps_table w ↦
          kept_stays c.args.on.now.names.now c.args.on.now.device.now c.args.on.now.phys.now
          c.args.placement c.args.first c.requires.first its.placement its.placement_is
          c.instance_is_one.ensures.law c.requires.ready.placed c.in-Some.at its
          (w.keeps_table.ensures.0 w.if-not-keeps_table.false)
      | else-is_earlier-via-else-is_earlier w ↦
          later_stays c.args.on.now.names.now c.args.on.now.device.now c.args.on.now.phys.now
          c.args.placement c.args.first c.requires.first its.placement its.placement_is
          c.instance_is_one.ensures.law c.requires.ready.placed c.in-Some.at its
          (λ earlier. false≢true (sym w.if-is_earlier.false ∙ c.is_earlier.ensures.1 earlier))
    ]
