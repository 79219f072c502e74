use Rattle.std.proofs.Common.{subst, sym}
use Rattle.ix_frame.specs.Views.{segments_of}
use Rattle.ix_strings.specs.Names.{KeepsNumbers}
use Rattle.ix_flow.proofs.Answering.{design_told, unread_design}
use Rattle.ix_flow.proofs.answer.read_design.Goals as goal

pub returns-in-Ok-clause-read : goal.returns-in-Ok-clause-read
returns-in-Ok-clause-read c d same =
    design_told d (segments_of c.args.frame.now) c.read_netlist.new.names c.in-Ok.rec
    (subst (λ names. KeepsNumbers names c.read_netlist.new.names) (sym same)
    c.read_netlist.ensures.keeps) c.len-count.ensures.differ c.in-Ok.ensures.reading
    c.in-Ok.ensures.named

pub returns-in-Err-clause-read : goal.returns-in-Err-clause-read
returns-in-Err-clause-read c d same = unread_design c.read_netlist.new.names d
    (segments_of c.args.frame.now) c.reading_fault.result
    (c.reading_fault.ensures _ (segments_of c.args.frame.now) c.in-Err.ensures.reading)
