-- A reader that gives up at an element of a list.
use Rattle.std.proofs.Common.{◌≡◌, ℕ, ◌-◌, ◌<◌, List}
use Rattle.ix_rec.specs.declared.fault.ReadFault.{ReadFault}
use Rattle.ix_rec.specs.declared.fault.ReadFault.TheVariants.{Frame, Index, Memory}
use Rattle.ix_frame.specs.Objects.{element_of}
use Rattle.ix_frame.specs.Target.{Object, Elements}
use Rattle.ix_message.specs.Reading.{Reads, each_from}
use Rattle.ix_message.proofs.Lists.{with_front, stops}
use Rattle.ix_message_read.specs.Tells.{Fails}

-- an element's reader gave up, and so does the list's, for the same reason
pub fails_on : {A : Type 0} (e : ReadFault) (read : Object → ℕ → Reads A) (l : Elements) (front : List A) (count i budget : ℕ) (total : Reads (List A)) → i < count
    → Fails e (read (element_of l i) budget) → with_front front (each_from read (count - i) l i budget) ≡ total → Fails e total
fails_on Memory read l front count i budget total lt h so_far = tt
fails_on (Frame f) read l front count i budget total lt h so_far = stops f read l front count i budget total lt h so_far
fails_on (Index p) read l front count i budget total lt h so_far = h
