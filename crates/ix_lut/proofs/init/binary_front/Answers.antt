use Rattle.std.proofs.Common.{arith}
use Rattle.std.proofs.Common.{[], ◌∷◌}
use Rattle.ix_lut.proofs.Inits.{width_is, width_1, width_2, width_3, width_4, width_5, width_6}
use Rattle.ix_lut.proofs.init.binary_front.Goals as goal

-- src/init.rt:37:1
pub returns-in-1 : goal.returns-in-1
returns-in-1 c = width_is 1 (39 ∷ 98 ∷ []) width_1 c.in-1.is

-- src/init.rt:37:1
pub returns-in-2 : goal.returns-in-2
returns-in-2 c = width_is 2 (39 ∷ 98 ∷ []) width_2 c.in-2.is

-- src/init.rt:37:1
pub returns-in-3 : goal.returns-in-3
returns-in-3 c = width_is 3 (39 ∷ 98 ∷ []) width_3 c.in-3.is

-- src/init.rt:37:1
pub returns-in-4 : goal.returns-in-4
returns-in-4 c = width_is 4 (39 ∷ 98 ∷ []) width_4 c.in-4.is

-- src/init.rt:37:1
pub returns-in-5 : goal.returns-in-5
returns-in-5 c = width_is 5 (39 ∷ 98 ∷ []) width_5 c.in-5.is

-- src/init.rt:37:1
pub returns-in_default : goal.returns-in_default
returns-in_default c = width_is 6 (39 ∷ 98 ∷ []) width_6 (omega (arith, c))
