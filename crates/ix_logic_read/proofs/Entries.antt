-- The structs of a list, as indexes ask them.
use Rattle.std.proofs.Common.{◌≡◌, ℕ, zero, suc, ◌+◌, ◌<◌, ◌≤◌, List, [], length, map, Bool, true}
use Rattle.std.proofs.Common.{false, refl, sym, ap, ◌∙◌, ◌^◌, arith}
use Rattle.std.specs.Prelude.{nat_lt, slice_index_or, if◌then◌else◌, ◌&&◌}
use Rattle.std.proofs.lemmas.Bool.Decides.{nat_tests}
use Rattle.std.proofs.lemmas.List.{length-map, get_or_past}
use Rattle.ix_frame.specs.Objects.{element_of}
use Rattle.ix_frame.specs.Target.{Object, Elements}
use Rattle.ix_message.specs.Indexes.{Entry, entry_of, entry_at, no_entry, has_number}
use Rattle.ix_message.specs.Netlist.{cell_declaration}
use Rattle.ix_message.specs.Shape.{Struct}
use Rattle.ix_schema.specs.Said.{said, each_said}
use Rattle.ix_logic_read.specs.Asking.{entries_said}
use Rattle.ix_logic_read.specs.Pins.{AreHeld, ports_at, pin_number}

pub said_length : {A : Type 0} (say : Object → A) (n : ℕ) (l : Elements) (i : ℕ)
    → length (each_said say n l i) ≡ n
unfolding each_said
said_length say zero l i = refl
said_length say (suc n) l i = ap suc (said_length say n l (i + 1))

pub entries_length : (s : Struct) (l : Elements) → length (entries_said s l) ≡ l.count
unfolding entries_said
entries_length s l = length-map (each_said (said s) l.count l 0) (entry_of s)
    ∙ said_length (said s) l.count l 0

entry_on : (s : Struct) (n : ℕ) (l : Elements) (j i : ℕ) → i < n
    → entry_at (map (entry_of s) (each_said (said s) n l j)) i ≡ entry_of s
    (said s (element_of l (j + i)))
unfolding each_said
entry_on s zero l j i lt = absurd (omega arith)
entry_on s (suc n) l j zero lt = let e : j ≡ j + 0 = omega arith in
    ap (λ (k : ℕ). entry_of s (said s (element_of l k))) e
entry_on s (suc n) l j (suc i) lt = let e : j + 1 + i ≡ j + suc i = omega arith in
    entry_on s n l (j + 1) i (omega arith) ∙ ap (λ (k : ℕ). entry_of s (said s (element_of l k))) e

pub entry_there : (s : Struct) (l : Elements) (i : ℕ) → i < l.count
    → entry_at (entries_said s l) i ≡ entry_of s (said s (element_of l i))
unfolding entries_said
entry_there s l i lt = let e : 0 + i ≡ i = omega arith in
    entry_on s l.count l 0 i lt ∙ ap (λ (k : ℕ). entry_of s (said s (element_of l k))) e

pub entry_past : (s : Struct) (l : Elements) (i : ℕ) → l.count ≤ i
    → entry_at (entries_said s l) i ≡ no_entry
entry_past s l i le = get_or_past (entries_said s l) i no_entry (omega (arith, entries_length s l))

-- the ports of a declaration, if it is there
pub ports_there : (l : Elements) (d : ℕ) → slice_index_or
    (entry_at (entries_said cell_declaration l) d).lists 0 [] ≡
    (if nat_lt d l.count then ports_at l d else [])
unfolding said
ports_there l d = go (nat_lt d l.count) refl
  where
    go : (b : Bool) → nat_lt d l.count ≡ b
        → slice_index_or (entry_at (entries_said cell_declaration l) d).lists 0 [] ≡
        (if b then ports_at l d else [])
    go true is = let lt : d < l.count = grind (arith, nat_tests) in
        ap (λ (e : Entry). slice_index_or e.lists 0 []) (entry_there cell_declaration l d lt)
    go false is = let le : l.count ≤ d = grind (arith, nat_tests) in
        ap (λ (e : Entry). slice_index_or e.lists 0 []) (entry_past cell_declaration l d le)

-- a port that is held is one of the declaration's
pub held_there : (held : List ℕ) (l : Elements) (d p : ℕ) → AreHeld held l → p < 2 ^ 32
    → has_number held (pin_number d p) ≡ has_number
    (slice_index_or (entry_at (entries_said cell_declaration l) d).lists 0 []) p
held_there held l d p h lt = h d p lt ∙ go (nat_lt d l.count)
    ∙ ap (λ (ns : List ℕ). has_number ns p) (sym (ports_there l d))
  where
    go : (b : Bool) → (b && has_number (ports_at l d) p) ≡ has_number
        (if b then ports_at l d else []) p
    go true = refl
    go false = refl
