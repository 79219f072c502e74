-- Bools as numbers.
use Rattle.std.proofs.Common.{◌≡◌, ◌%◌, Bool, true, false, refl}
use Rattle.ix_message_read.specs.Tells.{flag_number}

pub flag_again : (b : Bool) → flag_number b % 2 ≡ flag_number b
flag_again true = refl
flag_again false = refl
