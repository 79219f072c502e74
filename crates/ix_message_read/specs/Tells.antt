-- What a reader tells of a definition.
use Rattle.std.specs.Prelude.{◌≡◌, ℕ, Bool, Result, Ok, Err, if◌then◌else◌}
use Rattle.ix_num.specs.declared.fault.FrameFault.{FrameFault}
use Rattle.ix_rec.specs.declared.fault.ReadFault.{ReadFault}
use Rattle.ix_rec.specs.declared.fault.ReadFault.TheVariants.{Frame, Index, Memory}

-- A fault of the frame is the one that the definition finds. Want of memory may be told at any
-- time.
abbrev pub Fails : {Y : Type 0} → ReadFault → Result Y FrameFault → Type 0
Fails Memory given = Unit {0}
Fails (Frame f) given = given ≡ Err f
Fails (Index p) given = ⊥

-- What a reader returned, seen by view, is what the definition gives over the budget before the
-- call, or the first fault of the frame is that of the definition.
abbrev pub Tells : {X Y : Type 0} → (X → Y) → Result X ReadFault → ℕ → Result (Y × ℕ) FrameFault
    → Type 0
Tells view (Ok x) now given = given ≡ Ok (view x, now)
Tells view (Err e) now given = Fails e given

-- The same of a reading of a whole message.
abbrev pub Says : {X Y : Type 0} → (X → Y) → Result X ReadFault → Result Y FrameFault → Type 0
Says view (Ok x) given = given ≡ Ok (view x)
Says view (Err e) given = Fails e given

-- a Bool as the number of its slot
abbrev pub flag_number : Bool → ℕ
flag_number b = if b then 1 else 0
