use Rattle.ix_report.proofs.lines.push_report.Goals as goal

pub returns-in-NotBuilt : goal.returns-in-NotBuilt
returns-in-NotBuilt c = rw (c.in-NotBuilt.is, ← c.word_of_file-in-NotBuilt.ensures) c.push_two.ensures

pub returns-in-ReadFault : goal.returns-in-ReadFault
returns-in-ReadFault c = rw (c.in-ReadFault.is, ← c.as_str-in-ReadFault.ensures) c.push_two-in-ReadFault.ensures

pub returns-in-Unpackable : goal.returns-in-Unpackable
returns-in-Unpackable c = rw (c.in-Unpackable.is, ← c.as_str-in-Unpackable.ensures) c.push_two-in-Unpackable.ensures
