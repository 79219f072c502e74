-- Lists of a design, walked item by item.
use Rattle.std.proofs.Common.{◌≡◌, refl, ap, sym, subst, ◌∙◌, ℕ, zero, suc, ◌+◌, ◌<◌, ◌≤◌, List, []}
use Rattle.std.proofs.Common.{◌∷◌, ◌++◌, map, take, length, slice_get, Option, Some, None, IfSome}
use Rattle.std.proofs.Common.{option_map, unwrap_or, append-nil, arith}
use Rattle.std.specs.FinMap.{FinMap, entries, get, get-entries, len, len-entries}
use Rattle.std.specs.FinMap.Entries.{find}
use Rattle.std.specs.List.{AllByRecursion, cons_option, filter_map, flat_map}
use Rattle.std.specs.Ordering.{nat_cmp}
use Rattle.std.proofs.lemmas.Grind.{flat_map-append}
use Rattle.std.proofs.lemmas.List.{append_assoc, length-append, length-map}
use Rattle.std.proofs.lemmas.List.Concat.{flat_map-cons}
use Rattle.std.proofs.lemmas.List.Elements.{filter_map-append}
use Rattle.std.proofs.lemmas.List.FromFn.{length-range_with_len}
use Rattle.std.proofs.lemmas.Option.{none-some, same_Some}
use Rattle.ix_num.specs.declared.resource.NetRef.{NetRef}
use Rattle.ix_rec.specs.declared.device.DeviceRec.{DeviceRec}
use Rattle.ix_rec.specs.declared.flow.CellPin.{CellPin}
use Rattle.ix_rec.specs.declared.flow.Flat.{Flat}
use Rattle.ix_rec.specs.declared.flow.FlatCell.{FlatCell}
use Rattle.ix_rec.specs.declared.flow.FlatNet.{FlatNet}
use Rattle.ix_rec.specs.declared.netlist.CellDeclaration.{CellDeclaration}
use Rattle.ix_rec.specs.declared.netlist.NetlistRec.{NetlistRec}
use Rattle.ix_rec.specs.declared.netlist.Port.{Port}
use Rattle.ix_flat.specs.Range.{IsCellOf, IsDriverNamed, IsDriverOf, IsInRange, IsNamed, IsNetOf}
use Rattle.ix_belmap.specs.Pins.{TopFits, bits_of_kind, bits_of_port, cells_of_port, port_bits}
use Rattle.ix_belmap.specs.Pins.{top_ports}

-- what holds of the item at each place holds of all
pub all_places : {A : Type 0} (P : A → Type 0) (xs : List A)
    → ((i : ℕ) (x : A) → slice_get xs i ≡ Some x → P x) → AllByRecursion P xs
all_places P [] each = tt
all_places P (x ∷ xs) each = (each 0 x refl, all_places P xs (λ i y at. each (suc i) y at))

pub among : {A : Type 0} (P : A → Type 0) (xs : List A) (i : ℕ) (x : A) → AllByRecursion P xs
    → slice_get xs i ≡ Some x → P x
among P [] i x all at = absurd (none-some x at)
among P (y ∷ ys) zero x all at = subst P (same_Some y x at) all.0
among P (y ∷ ys) (suc i) x all at = among P ys i x all.1 at

pub each_of : {A : Type 0} (P Q : A → Type 0) (xs : List A) → ((x : A) → P x → Q x)
    → AllByRecursion P xs
    → AllByRecursion Q xs
each_of P Q [] f all = tt
each_of P Q (x ∷ xs) f all = (f x all.0, each_of P Q xs f all.1)

all_push : {A : Type 0} (P : A → Type 0) (xs : List A) (x : A) → AllByRecursion P xs → P x
    → AllByRecursion P (xs ++ x ∷ [])
all_push P [] x all here = (here, tt)
all_push P (y ∷ ys) x all here = (all.0, all_push P ys x all.1 here)

-- Pins.

abbrev pub Entry : Type 0
Entry = (ℕ × ℕ) × NetRef

abbrev pub PinFits : Flat → (names : ℕ) → Entry → Type 0
PinFits flat names entry = IsCellOf flat entry.0.0 × IsNetOf flat entry.1 × (entry.0.1 < names)

-- the pins before some of all fit
pub record Walked (flat : Flat) (names : ℕ) (all rest : List Entry) : Type 0 where
  pub done : List Entry
  pub whole : all ≡ done ++ rest
  pub fit : AllByRecursion (PinFits flat names) done

pub walked_start : (flat : Flat) (names : ℕ) (all rest : List Entry) → rest ≡ all
    → Walked flat names all rest
walked_start flat names all rest is = record { done = []; whole = sym is; fit = tt }

pub walked_next : (flat : Flat) (names : ℕ) (all rest now : List Entry) (entry : Entry)
    → Walked flat names all rest → rest ≡ entry ∷ now → PinFits flat names entry
    → Walked flat names all now
walked_next flat names all rest now entry before step fits = record {
  done = before.done ++ entry ∷ [];
  whole = before.whole ∙ ap (λ l. before.done ++ l) step
      ∙ sym (append_assoc before.done (entry ∷ []) now);
  fit = all_push (PinFits flat names) before.done entry before.fit fits;
}

pub walked_end : (flat : Flat) (names : ℕ) (all rest : List Entry) → Walked flat names all rest
    → rest ≡ []
    → AllByRecursion (PinFits flat names) all
walked_end flat names all rest told is =
    subst (AllByRecursion (PinFits flat names))
    (sym (told.whole ∙ ap (λ l. told.done ++ l) is ∙ append-nil told.done)) told.fit

-- Maps without entries.

nothing : {A : Type 0} (xs : List A) → length xs ≡ 0 → xs ≡ []
nothing [] h = refl
nothing (x ∷ xs) h = absurd (omega arith)

pub none_given : {V : Type 0} (m : FinMap nat_cmp V) (cell : ℕ) → len m ≡ 0 → get m cell ≡ None
none_given m cell h =
    get-entries m cell ∙ ap (find nat_cmp cell) (nothing (entries m) (sym (len-entries m) ∙ h))

-- Designs without drivers, tables and fixed cells.

no_driver : (flat : Flat) (driver : Option CellPin) → driver ≡ None → IsDriverOf flat driver
no_driver flat None is = tt
no_driver flat (Some pin) is = absurd (none-some pin (sym is))

unnamed_driver : (names : ℕ) (driver : Option CellPin) → driver ≡ None → IsDriverNamed names driver
unnamed_driver names None is = tt
unnamed_driver names (Some pin) is = absurd (none-some pin (sym is))

module _ (flat : Flat) (names : ℕ) (le : flat.ports ≤ length flat.cells)
    (tables : len flat.tables ≡ 0)
    (fixed : len flat.fixed ≡ 0)
    (cells : (q : ℕ) (cell : FlatCell) → slice_get flat.cells q ≡ Some cell
    → (cell.name < names) × (cell.ty < names))
    (nets : (n : ℕ) (net : FlatNet) → slice_get flat.nets n ≡ Some net
    → (net.name < names) × (net.driver ≡ None))
    (pins : AllByRecursion (PinFits flat names) (entries flat.pins)) where
  pub in_range : (rec : DeviceRec) → IsInRange rec flat
  in_range rec = record {
    numbers = record {
      ports = le;
      drivers = λ n net at. no_driver flat net.driver (nets n net at).1;
      pins = each_of (PinFits flat names) (λ entry. IsCellOf flat entry.0.0 × IsNetOf flat entry.1)
          (entries flat.pins)
          (λ entry fits. (fits.0, fits.1)) pins;
      tables = λ cell table given. absurd
          (none-some table (sym (none_given flat.tables cell tables) ∙ given));
      fixed = λ cell site given. absurd (none-some site
          (sym (none_given flat.fixed cell fixed) ∙ given));
    };
    sites = λ cell site given. absurd (none-some site
        (sym (none_given flat.fixed cell fixed) ∙ given));
  }

  pub named : IsNamed names flat
  named = record {
    cells = λ q cell at. (cells q cell at).0;
    types = λ q cell at. (cells q cell at).1;
    nets = λ n net at. (nets n net at).0;
    pins = each_of (PinFits flat names) (λ entry. entry.0.1 < names) (entries flat.pins)
        (λ entry fits. fits.2) pins;
    drivers = λ n net at. unnamed_driver names net.driver (nets n net at).1;
  }

-- Bits of ports.

abbrev pub bits_of : List Port → List (Port × ℕ)
bits_of ports = flat_map (λ port. map (λ index. (port, index)) (bits_of_port port)) ports

abbrev pub first_ports : NetlistRec → CellDeclaration → (count : ℕ) → List Port
first_ports design top count = filter_map (slice_get design.port_list) (take count top.ports)

take_more : {A : Type 0} (xs : List A) (i : ℕ) (x : A) → slice_get xs i ≡ Some x
    → take (i + 1) xs ≡ take i xs ++ x ∷ []
take_more xs i x at = let e : i + 1 ≡ suc i = omega arith in ap (λ n. take n xs) e ∙ by xs i at
  where
    by : (ys : List _) (k : ℕ) → slice_get ys k ≡ Some x → take (suc k) ys ≡ take k ys ++ x ∷ []
    by [] k h = absurd (none-some x h)
    by (y ∷ ys) zero h = ap (λ z. z ∷ []) (same_Some y x h)
    by (y ∷ ys) (suc k) h = ap (λ l. y ∷ l) (by ys k h)

take_all : {A : Type 0} (xs : List A) (n : ℕ) → n ≡ length xs → take n xs ≡ xs
take_all [] zero h = refl
take_all [] (suc n) h = refl
take_all (x ∷ xs) zero h = absurd (omega arith)
take_all (x ∷ xs) (suc n) h = ap (λ l. x ∷ l) (take_all xs n (omega arith))

abbrev pub cells_in : Port → ℕ
cells_in port = cells_of_port port.dir (bits_of_kind port.kind port.bus_start port.bus_end)

pub bits_next : (design : NetlistRec) (top : CellDeclaration) (i k : ℕ) (port : Port)
    → slice_get top.ports i ≡ Some k → slice_get design.port_list k ≡ Some port
    → length (bits_of (first_ports design top (i + 1))) ≡ length
    (bits_of (first_ports design top i)) + cells_in port
bits_next design top i k port at is =
    ap (λ l. length (bits_of l)) next ∙ ap length (flat_map-append bits ports (port ∷ []))
    ∙ length-append (bits_of ports) (flat_map bits (port ∷ []))
    ∙ ap (λ n. length (bits_of ports) + n)
    (ap length (flat_map-cons bits port [] ∙ append-nil (bits port))
    ∙ length-map (bits_of_port port) (λ index. (port, index))
    ∙ length-range_with_len 0 (cells_in port))
  where
    ports : List Port
    ports = first_ports design top i

    bits : Port → List (Port × ℕ)
    bits port = map (λ index. (port, index)) (bits_of_port port)

    next : first_ports design top (i + 1) ≡ ports ++ port ∷ []
    next = ap (filter_map (slice_get design.port_list)) (take_more top.ports i k at)
        ∙ filter_map-append (slice_get design.port_list) (take i top.ports) (k ∷ [])
        ∙ ap (λ o. ports ++ cons_option o []) is

pub bits_end : (design : NetlistRec) (top : CellDeclaration) (n : ℕ)
    → slice_get design.cell_decls design.top_inst.cell ≡ Some top → n ≡ length top.ports
    → bits_of (first_ports design top n) ≡ port_bits design
unfolding port_bits top_ports
bits_end design top n at end =
    ap (λ l. bits_of (filter_map (slice_get design.port_list) l)) (take_all top.ports n end)
    ∙ ap (λ o. bits_of (unwrap_or (option_map
    (λ t. filter_map (slice_get design.port_list) t.ports) o) [])) (sym at)

pub port_there : (design : NetlistRec) (top : CellDeclaration) (i k : ℕ) → TopFits design
    → slice_get design.cell_decls design.top_inst.cell ≡ Some top → slice_get top.ports i ≡ Some k
    → k < length design.port_list
port_there design top i k fits at here =
    among (λ port. port < length design.port_list) top.ports i k
    (subst (λ o. IfSome o (λ t. AllByRecursion (λ port. port < length design.port_list) t.ports)) at
    fits.ports)
    here
