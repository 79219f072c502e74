use Rattle.std.proofs.Common.{take, Ok}
use Rattle.ix_device_rules.specs.Rules
use Rattle.ix_device_rules.specs.Walks.{Walks}
use Rattle.ix_device_rules.proofs.EntryLemmas.{Seen}
use Rattle.ix_device_rules.proofs.lut_elements_stand.lut_elements_stand.Given as goal

abbrev pub invariant-loop-i : goal.invariant-loop-i
invariant-loop-i l =
    record {
      walked : Walks {X = Unit {0}} (Rules.each_by_earlier (Rules.elements_stand l.rec) (take l.i l.rec.lut_definitions.lut_elements)) l.fn.walk (Ok tt) l.walk;
      seen_are : Seen l.rec l.seen (take l.i l.rec.lut_definitions.lut_elements);
    }
