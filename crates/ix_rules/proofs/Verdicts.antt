-- Verdicts of stages: from rule to rule, and what they say at the end.
use Rattle.std.proofs.Common.{arith}
use Rattle.std.proofs.Common.{List}
use Rattle.ix_message.specs.Shape.{Text}
use Rattle.ix_rec.specs.declared.device.DeviceRec.{DeviceRec}
use Rattle.ix_rec.specs.declared.phys.Phys.{Phys}
use Rattle.ix_rec.specs.declared.place.Rule.TheVariants.{L1, L2, L3, L4, L5, L6, L7, L8, L9, L10}
use Rattle.ix_legal.specs.declared.level.Level.{Level}
use Rattle.ix_legal.specs.Legal.{IsSound, Legal}
use Rattle.ix_rules.specs.Stages.{KeepsUpTo}

module _ (level : Level) (names : List Text) (rec : DeviceRec) (phys : Phys) where
  pub keeps_none : KeepsUpTo level names rec phys 0
  keeps_none L1 few spot = absurd (omega (arith, few))
  keeps_none L2 few spot = absurd (omega (arith, few))
  keeps_none L3 few spot = absurd (omega (arith, few))
  keeps_none L4 few spot = absurd (omega (arith, few))
  keeps_none L5 few spot = absurd (omega (arith, few))
  keeps_none L6 few spot = absurd (omega (arith, few))
  keeps_none L7 few spot = absurd (omega (arith, few))
  keeps_none L8 few spot = absurd (omega (arith, few))
  keeps_none L9 few spot = absurd (omega (arith, few))
  keeps_none L10 few spot = absurd (omega (arith, few))
  keeps_none rule few spot = tt

  pub legal : IsSound names phys → KeepsUpTo level names rec phys 10 → Legal level names rec phys
  legal sound kept = record {
    sound = sound;
    l1 = kept L1 (omega arith);
    l2 = kept L2 (omega arith);
    l3 = kept L3 (omega arith);
    l4 = kept L4 (omega arith);
    l5 = kept L5 (omega arith);
    l6 = kept L6 (omega arith);
    l7 = kept L7 (omega arith);
    l8 = kept L8 (omega arith);
    l9 = kept L9 (omega arith);
    l10 = kept L10 (omega arith);
  }
