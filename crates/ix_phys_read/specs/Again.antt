-- What is written, read again.
use Rattle.std.specs.Prelude.{◌≡◌, ℕ, List, Result, Ok, Err}
use Rattle.ix_device_read.specs.Reading.{reading_in_segments, IsReading}
use Rattle.ix_frame.specs.Segments.{Segments, segments}
use Rattle.ix_message.specs.Message.{reading}
use Rattle.ix_message.specs.Phys.{phys_netlist}
use Rattle.ix_message.specs.Shape.{Text}
use Rattle.ix_phys_write.specs.Record.{phys_record}
use Rattle.ix_rec.specs.declared.fault.ReadFault.{ReadFault}
use Rattle.ix_rec.specs.declared.fault.ReadFault.TheVariants.{Frame, Index, Memory}
use Rattle.ix_rec.specs.declared.phys.Phys.{Phys}

-- It is the same netlist, with names as texts and without the third name of a site pin, whatever
-- the names' numbers are now; or memory was wanting.
abbrev pub IsSame : List Text → Phys → List Text → Result Phys ReadFault → Type 0
IsSame names phys now (Ok found) = phys_record now found ≡ phys_record names phys
IsSame names phys now (Err Memory) = Unit {0}
IsSame names phys now (Err (Frame f)) = ⊥
IsSame names phys now (Err (Index p)) = ⊥

-- Where a file reads as a netlist, as each file does that is written of one, and is opened as these
-- segments, a reading of the segments gives that netlist.
abbrev pub WrittenReadsAgain : Type 0
WrittenReadsAgain =
    (names now : List Text) (phys : Phys) (file : List ℕ) (all : Segments)
    (result : Result Phys ReadFault) → reading phys_netlist file ≡ Ok (phys_record names phys)
    → segments file ≡ Ok all
    → IsReading (phys_record now) result (reading_in_segments phys_netlist all)
    → IsSame names phys now result
