-- Lists of branches that are made before they are written.
use Rattle.std.specs.Prelude.{◌≡◌, ℕ, ◌+◌, List, true, false, Result, Ok, Err}
use Rattle.ix_capw.specs.Frame.{words_in}
use Rattle.ix_capw.specs.Growth.{with_object, too_long, blank_structs, IsSegment}
use Rattle.ix_capw.specs.declared.builder.BuildFault.{BuildFault}
use Rattle.ix_capw.specs.declared.builder.BuildFault.TheVariants.{TooLong, Memory}

-- the list was made, and its first branch begins at this word
pub record HasMade (word count : ℕ) (before after : List ℕ) (start : ℕ) : Type 0 where
  pub made : after ≡ with_object word (blank_structs count 3 1) before
  pub start_is : start ≡ words_in before + 1
  pub short : too_long (blank_structs count 3 1) before ≡ false
  pub segment : IsSegment after

-- A list is made, or is too long for the message.
abbrev pub MakesList : ℕ → ℕ → List ℕ → List ℕ → Result ℕ BuildFault → Type 0
MakesList word count before after (Ok start) = HasMade word count before after start
MakesList word count before after (Err TooLong) = too_long (blank_structs count 3 1) before ≡ true
MakesList word count before after (Err Memory) = Unit {0}
