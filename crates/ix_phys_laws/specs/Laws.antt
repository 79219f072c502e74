-- What the rules on legal netlists ask of a netlist holds of one that was read.
use Rattle.std.specs.Prelude.{◌≡◌, ◌≤◌, ◌+◌, ◌^◌, List, length, Ok}
use Rattle.std.specs.List.{All}
use Rattle.ix_device_read.specs.Reading.{reading_in_segments}
use Rattle.ix_frame.specs.Objects.{whole_budget}
use Rattle.ix_frame.specs.Segments.{Segments}
use Rattle.ix_legal.specs.Legal.{IsSound, most_entries}
use Rattle.ix_message.specs.Phys.{phys_netlist}
use Rattle.ix_message.specs.Shape.{Text}
use Rattle.ix_phys_read.specs.Forests.{HasForests}
use Rattle.ix_phys_write.specs.Record.{phys_record, IsPhysNamed}
use Rattle.ix_rec.specs.declared.phys.Phys.{Phys}
use Rattle.ix_strings.specs.Names.{AllDiffer}

-- Where segments whose reading costs no more than a file's can cost read as a netlist, and its
-- numbers are names, no two of them alike, and its trees are in preorder, it is sound.
abbrev pub ReadNetlistsAreSound : Type 0
ReadNetlistsAreSound =
    (names : List Text) (all : Segments) (phys : Phys) → whole_budget all ≤ 2 ^ 28 + 64
    → reading_in_segments phys_netlist all ≡ Ok (phys_record names phys)
    → IsPhysNamed names phys → All HasForests phys.nets → AllDiffer names → IsSound names phys

-- Its placements and its properties together are no more than one list may have, so that it may get
-- a property for each placement.
abbrev pub ReadNetlistsHaveRoom : Type 0
ReadNetlistsHaveRoom =
    (names : List Text) (all : Segments) (phys : Phys) → whole_budget all ≤ 2 ^ 28 + 64
    → reading_in_segments phys_netlist all ≡ Ok (phys_record names phys)
    → length phys.placements + length phys.properties ≤ most_entries
