-- Which texts a reading adds to the names of a run.
use Rattle.std.specs.Prelude.{◌≡◌, ℕ, List, [], ◌++◌, Result, Ok, Err}
use Rattle.ix_num.specs.declared.fault.FrameFault.{FrameFault}
use Rattle.ix_rec.specs.declared.fault.ReadFault.{ReadFault}
use Rattle.ix_rec.specs.declared.fault.ReadFault.TheVariants.{Frame, Index, Memory}
use Rattle.ix_message.specs.Shape.{Text, Struct, Value}
use Rattle.ix_device_read.specs.Loose.{loose_texts, with_names}

-- the texts of a message, those of its string table first, then those behind pointers in reading
-- order; none where its frame is at fault
unfoldable pub texts_in : (s : Struct) → Result (List Text × Value ℕ s) FrameFault → List Text
texts_in s (Ok found) = found.0 ++ loose_texts s found.1
texts_in s (Err f) = []

-- These texts were added, in order. Where memory was wanting nothing is said.
unfoldable pub AddsExactly : {X : Type 0} → Result X ReadFault → List Text → List Text → List Text
    → Type 0
AddsExactly (Ok x) ts old new = new ≡ with_names old ts
AddsExactly (Err Memory) ts old new = Unit {0}
AddsExactly (Err (Frame f)) ts old new = new ≡ with_names old ts
AddsExactly (Err (Index p)) ts old new = new ≡ with_names old ts
