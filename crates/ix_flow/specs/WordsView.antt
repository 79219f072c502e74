-- The words that the code holds.
use Rattle.ix_flow.specs.declared.words.CheckWords.{CheckWords}
use Rattle.ix_flow.specs.declared.words.FlowWords.{FlowWords}
use Rattle.ix_flow.specs.declared.words.Words.{Words}
use Rattle.ix_flow.specs.declared.words.Words.TheVariants as words
use Rattle.ix_flow.specs.Words.{Asked, Check, Flow, checking, flowing}

abbrev pub flow_view : FlowWords → Flow
flow_view w = record { device = w.device.now; design = w.design.now; routed = w.routed.now }

abbrev pub check_view : CheckWords → Check
check_view w = record {
  device = w.device.now;
  design = w.design.now;
  physical = w.physical.now;
  level = w.level;
}

abbrev pub asked_view : Words → Asked
asked_view (words.Flow w) = flowing (flow_view w)
asked_view (words.Check w) = checking (check_view w)
