-- What the answers of the calls that write a message say.
use Rattle.std.specs.Prelude.{◌≡◌, ◌≤◌, ℕ, ◌^◌, List, [], ◌∷◌, length, true, Result, Ok, Err}
use Rattle.ix_message.specs.Shape.{Text}
use Rattle.ix_message.specs.Names.{first_uses}
use Rattle.ix_message.specs.Layout.{Laid, Section, all_fit}
use Rattle.ix_capw.specs.Growth.{with_object, IsSegment}
use Rattle.ix_capw.specs.declared.builder.BuildFault.{BuildFault}
use Rattle.ix_capw.specs.declared.builder.BuildFault.TheVariants.{TooLong, Memory}
use Rattle.ix_message_write.specs.declared.string_table.Strings.{Strings}
use Rattle.ix_message_write.specs.Table.{table_in, IsTableOf}
use Rattle.ix_message_write.specs.Growth.{with_section, NoRoom}

-- the table has these texts too, in the order of first use
pub record HasNoted (names : List Text) (before after : Strings) (uses : List Text) : Type 0 where
  pub texts : table_in names after ≡ first_uses (table_in names before) uses
  pub table : IsTableOf names after

-- A table takes note of texts that are used, or they are too many for a message.
abbrev pub Notes : {X : Type 0} → List Text → Strings → Strings → List Text → Result X BuildFault
    → Type 0
Notes names before after uses (Ok x) = HasNoted names before after uses
Notes names before after uses (Err TooLong)
    = 2 ^ 27 ≤ length (first_uses (table_in names before) uses)
Notes names before after uses (Err Memory) = Unit {0}

-- the struct at this word was written, with all that its pointers lead to
pub record HasWritten (word : ℕ) (e : Section) (before after : List ℕ) : Type 0 where
  pub made : after ≡ with_section word e before
  pub fits : all_fit e.behind ≡ true
  pub segment : IsSegment after

-- A struct is written, or is too long for the message.
abbrev pub Writes : {X : Type 0} → ℕ → Section → List ℕ → List ℕ → Result X BuildFault → Type 0
Writes word e before after (Ok x) = HasWritten word e before after
Writes word e before after (Err TooLong) = NoRoom e.behind before
Writes word e before after (Err Memory) = Unit {0}

-- an object was put at the end, and the pointer at this word leads to it
pub record HasPut (word : ℕ) (x : Laid) (before after : List ℕ) : Type 0 where
  pub made : after ≡ with_object word x before
  pub fits : x.fits ≡ true
  pub segment : IsSegment after

-- An object is put, or is too long for the message.
abbrev pub Puts : {X : Type 0} → ℕ → Laid → List ℕ → List ℕ → Result X BuildFault → Type 0
Puts word x before after (Ok y) = HasPut word x before after
Puts word x before after (Err TooLong) = NoRoom (x ∷ []) before
Puts word x before after (Err Memory) = Unit {0}
