use Rattle.ix_differences.proofs.found.first_found.Goals as goal

pub returns-in-Some-first_table : goal.returns-in-Some-first_table
returns-in-Some-first_table c = (
  λ cell. c.in-None.ensures cell tt,
  λ cell pin. c.in-None-first_pin.ensures (record { cell = cell; pin = pin }) tt,
  c.in-Some-first_table.ensures,
)

pub returns-in-None-first_table : goal.returns-in-None-first_table
returns-in-None-first_table c = record {
  cells = λ cell. c.in-None.ensures cell tt;
  pins = λ cell pin. c.in-None-first_pin.ensures (record { cell = cell; pin = pin }) tt;
  tables = λ cell. c.in-None-first_table.ensures cell tt;
}
