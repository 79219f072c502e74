use Rattle.std.proofs.lemmas.Nat.Bits.{bit_at_or}
use Rattle.ix_fill_tables.proofs.forcing.ForcedBits.and.Goals as goal

pub returns-clause-ones : goal.returns-clause-ones
returns-clause-ones c = bit_at_or c.args.self.ones c.args.other.ones

pub returns-clause-zeros : goal.returns-clause-zeros
returns-clause-zeros c = bit_at_or c.args.self.zeros c.args.other.zeros
