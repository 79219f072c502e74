-- The ports of declarations, each as one number with its declaration.
use Rattle.std.specs.Prelude.{◌≡◌, ℕ, ◌*◌, ◌+◌, ◌^◌, ◌<◌, ◌&&◌, List, nat_lt}
use Rattle.ix_frame.specs.Objects.{element_of, numbers_in}
use Rattle.ix_frame.specs.Sound.{sound_list}
use Rattle.ix_frame.specs.Target.{Elements}
use Rattle.ix_message.specs.Indexes.{has_number}

-- the ports of a declaration of a list
abbrev pub ports_at : Elements → ℕ → List ℕ
ports_at l d = numbers_in (sound_list 4 (element_of l d) 0)

-- a port of a declaration as one number
abbrev pub pin_number : ℕ → ℕ → ℕ
pin_number d p = d * 2 ^ 32 + p

-- the ports of the first so many declarations are these
abbrev pub AreHeldUpTo : ℕ → List ℕ → Elements → Type 0
AreHeldUpTo n held l = (d p : ℕ) → p < 2 ^ 32
    → has_number held (pin_number d p) ≡ (nat_lt d n && has_number (ports_at l d) p)

abbrev pub AreHeld : List ℕ → Elements → Type 0
AreHeld held l = AreHeldUpTo l.count held l
