-- Which name of two cells, or of two signal nets, is told.
use Rattle.std.specs.Prelude.{◌≡◌, ℕ, Option, Some, MatchOption, slice_get}
use Rattle.ix_message.specs.Shape.{Text}
use Rattle.ix_rec.specs.declared.netlist.NetlistRec.{NetlistRec}
use Rattle.ix_hierarchy.specs.Broken.{BreaksN5, NoneBreaks, TellsN5}
use Rattle.ix_joined.specs.Joining.{Known}

-- the name at the first place that breaks N5; none exactly where none does
abbrev pub TellsTwice : Known → NetlistRec → Option ℕ → Type 0
TellsTwice known design found = MatchOption found
    (NoneBreaks (λ s. (text : Text) × BreaksN5 known.names known.device design s text))
    (λ name. (text : Text) × (slice_get known.names name ≡ Some text)
    × TellsN5 known.names known.device design text)
