use Rattle.std.proofs.Common.{◌∙◌, sym}
use Rattle.ix_device.proofs.Numbering.{with_known, push_adds, push_numbers, push_fails}
use Rattle.ix_device.proofs.lines.number_of_line.Goals as goal

pub returns-in-Some-clause-added : goal.returns-in-Some-clause-added
returns-in-Some-clause-added c = sym (with_known c.args.lines.now c.args.wire c.in-Some.place (sym c.place_of.ensures.place ∙ c.in-Some.is))

pub returns-in-None-clause-added : goal.returns-in-None-clause-added
returns-in-None-clause-added c = push_adds c.args.lines.now c.push.new.self c.args.wire c.push.result (sym c.place_of.ensures.place ∙ c.in-None.is) c.push.ensures.some

pub returns-in-None-clause-number : goal.returns-in-None-clause-number
returns-in-None-clause-number c = push_numbers c.args.lines.now c.push.new.self c.args.wire c.push.result (sym c.place_of.ensures.place ∙ c.in-None.is) c.push.ensures.some

pub returns-in-None-clause-none : goal.returns-in-None-clause-none
returns-in-None-clause-none c = push_fails c.args.lines.now c.push.new.self c.args.wire c.push.result (sym c.place_of.ensures.place ∙ c.in-None.is) c.push.ensures.none
