-- The root struct, from what its pointers lead to.
use Rattle.std.proofs.Common.{◌≡◌, ℕ, List, [], Result, Ok, Err, refl}
use Rattle.ix_frame.specs.Result.{◌>>=◌}
use Rattle.ix_device_read.specs.declared.stop.Stop.{Stop}
use Rattle.ix_device_read.specs.Views.{Meets, MeetsWith}
use Rattle.ix_device_read.proofs.Each.{stops_first}
use Rattle.std.specs.Prelude.{Option}
use Rattle.ix_message.specs.Shape.{Text, Value}
use Rattle.ix_message.specs.Names.{Datum}
use Rattle.ix_message.specs.Device.{device, site_type, tile_type, tile, wire, node, cell_bel_mapping, package_of_pins, constant_cells, lut_definitions}
use Rattle.ix_device_read.specs.Finish.{Sizes, Stopped, begin, known, finish_at, finish_row, finish_each, finish_option}

pub root_done : (z : Sizes) (before : List ℕ) (name name2 : Text) (sts : List (Value ℕ site_type)) (tts : List (Value ℕ tile_type)) (tiles : List (Value ℕ tile)) (ws : List (Value ℕ wire)) (ns : List (Value ℕ node)) (cs : List (Value ℕ cell_bel_mapping)) (ps : List (Value ℕ package_of_pins)) (k : Option (Value ℕ constant_cells)) (lut : Value ℕ lut_definitions) (sts2 : List (Value Datum site_type)) (tts2 : List (Value Datum tile_type)) (tiles2 : List (Value Datum tile)) (ws2 : List (Value Datum wire)) (ns2 : List (Value Datum node)) (cs2 : List (Value Datum cell_bel_mapping)) (ps2 : List (Value Datum package_of_pins)) (k2 : Option (Value Datum constant_cells)) (lut2 : Value Datum lut_definitions) (c0 c1 c2 c3 c4 c5 c6 c7 c8 c9 : List ℕ)
    → c0 ≡ begin "Device" before
    → known (record z { tile_type = 0 }) name ≡ Ok name2
    → finish_each (finish_at site_type (record z { tile_type = 0 })) sts c0 ≡ Ok (sts2, c1)
    → finish_each (finish_at tile_type (record z { tile_type = 0 })) tts c1 ≡ Ok (tts2, c2)
    → finish_each (finish_at tile (record z { tile_type = 0 })) tiles c2 ≡ Ok (tiles2, c3)
    → finish_each (finish_at wire (record z { tile_type = 0 })) ws c3 ≡ Ok (ws2, c4)
    → finish_each (finish_at node (record z { tile_type = 0 })) ns c4 ≡ Ok (ns2, c5)
    → finish_each (finish_at cell_bel_mapping (record z { tile_type = 0 })) cs c5 ≡ Ok (cs2, c6)
    → finish_each (finish_at package_of_pins (record z { tile_type = 0 })) ps c6 ≡ Ok (ps2, c7)
    → finish_option (finish_at constant_cells (record z { tile_type = 0 })) k c7 ≡ Ok (k2, c8)
    → finish_at lut_definitions (record z { tile_type = 0 }) lut c8 ≡ Ok (lut2, c9)
    → finish_at device z ([], (name, (sts, (tts, (tiles, (ws, (ns, (cs, (ps, (k, (lut, tt))))))))))) before ≡ Ok (([], (name2, (sts2, (tts2, (tiles2, (ws2, (ns2, (cs2, (ps2, (k2, (lut2, tt))))))))))), c9)
unfolding finish_at finish_row
root_done z before name name2 sts tts tiles ws ns cs ps k lut sts2 tts2 tiles2 ws2 ns2 cs2 ps2 k2 lut2 c0 c1 c2 c3 c4 c5 c6 c7 c8 c9 h h0 h1 h2 h3 h4 h5 h6 h7 h8 h9 = rw (← h, h0, h1, h2, h3, h4, h5, h6, h7, h8, h9) refl

-- the record without the counts that are left
pub whole_done : {X Y : Type 0} (view : X → Y) (made : Result X Stop) (now : List ℕ) (given : Result (Y × List ℕ) Stopped) → MeetsWith view made now given → Meets view made (given >>= λ x. Ok x.0)
whole_done view (Ok x) now given h = rw h refl
whole_done view (Err e) now given h = stops_first e given _ h
