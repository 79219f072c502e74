-- What is listed and judged is in range, named, whole and small.
use Rattle.std.proofs.Common.{◌≡◌, ◌<◌, ◌≤◌, ◌+◌, ◌^◌, ap, refl, sym, subst, ◌∙◌, ℕ, List, [], ◌∷◌}
use Rattle.std.proofs.Common.{◌++◌, Option, Some, arith, length, map, slice_get}
use Rattle.std.specs.List.{AllByRecursion}
use Rattle.std.proofs.lemmas.List.{length-append, length-map}
use Rattle.std.proofs.lemmas.Option.{slice_get_within}
use Rattle.ix_message.specs.Shape.{Text}
use Rattle.ix_rec.specs.declared.device.DeviceRec.{DeviceRec}
use Rattle.ix_rec.specs.declared.device.LutCell.{LutCell}
use Rattle.ix_rec.specs.declared.flow.Flat.{Flat}
use Rattle.ix_rec.specs.declared.flow.TruthTable.{TruthTable}
use Rattle.ix_rec.specs.declared.netlist.NetlistRec.{NetlistRec}
use Rattle.ix_strings.specs.Names.{KeepsNumbers}
use Rattle.ix_hierarchy.specs.Broken.{IsFlattened}
use Rattle.ix_hierarchy.specs.Fits.{AreInputsNamed}
use Rattle.ix_hierarchy.specs.FlatDesign.{IsFlatOf, cell_texts, leaf_texts, port_cells}
use Rattle.ix_joined.specs.Joining.{Known}
use Rattle.ix_flat_laws.specs.Laws.{AreApart, AreJoined, FlatDesignsAreWhole}
use Rattle.ix_flat_laws.specs.Laws.{IsSound}
use Rattle.ix_pin_laws.specs.Laws.{DesignsAreSmall, PinsAreApart}
use Rattle.ix_flatten.specs.declared.listing.Listed.{Listed}
use Rattle.ix_flatten.specs.Stages.{AreListed, IsBuilt, IsJudged}

pins_more : (n m : ℕ) (pins : List ℕ) → n ≤ m → AllByRecursion (λ pin. pin < n) pins
    → AllByRecursion (λ pin. pin < m) pins
pins_more n m [] more h = tt
pins_more n m (pin ∷ pins) more h =
    (let less : pin < n = h.0 in omega arith, pins_more n m pins more h.1)

luts_more : (n m : ℕ) (luts : List LutCell) → n ≤ m
    → AllByRecursion (λ (lut : LutCell). AllByRecursion (λ pin. pin < n) lut.input_pins) luts
    → AllByRecursion (λ (lut : LutCell). AllByRecursion (λ pin. pin < m) lut.input_pins) luts
luts_more n m [] more h = tt
luts_more n m (lut ∷ luts) more h =
    (pins_more n m lut.input_pins more h.0, luts_more n m luts more h.1)

-- inputs are among more names
pub inputs_more : (n m : ℕ) (rec : DeviceRec) → n ≤ m → AreInputsNamed n rec
    → AreInputsNamed m rec
inputs_more n m rec more h = luts_more n m rec.lut_definitions.lut_cells more h

last_item : {A : Type 0} (x : A) (xs : List A)
    → (y : A) × (slice_get (x ∷ xs) (length xs) ≡ Some y)
last_item x [] = (x, refl)
last_item x (z ∷ xs) = last_item z xs

-- kept names are no fewer
pub kept_more : (old new : List Text) → KeepsNumbers old new → length old ≤ length new
kept_more [] new h = omega arith
kept_more (x ∷ xs) new h =
    let last = last_item x xs in
    let less : length xs < length new =
    slice_get_within new (length xs) last.0 (h (length xs) last.0 last.1) in
    omega arith

-- the flat design of what was listed and judged, on the device that was read
pub flattened : (names : List Text) (device same : DeviceRec) (design : NetlistRec)
    (listed : Listed) (tables now : List (Option TruthTable)) (flat : Flat) → same ≡ device
    → now ≡ tables → AreListed names same design listed → IsJudged names same design tables
    → ((known : Known) → IsBuilt known same design listed now
    → IsFlatOf same known.names design flat) → IsFlattened names device design flat
flattened names device same design listed tables now flat same_device same_tables is judged made =
    let known : Known = record { names = names; device = same; paths = is.0 } in
    subst (λ (d : DeviceRec). IsFlattened names d design flat) same_device record {
      keeps = judged.keeps;
      is = made known record {
        device_is = refl;
        is_listed = is.1;
        is_judged = subst (λ ts. IsJudged names same design ts) (sym same_tables) judged;
      };
    }

pub sound : (names : List Text) (device same : DeviceRec) (design : NetlistRec)
    (listed : Listed) (tables : List (Option TruthTable)) (flat : Flat) → FlatDesignsAreWhole
    → PinsAreApart → same ≡ device → AreListed names same design listed
    → AreInputsNamed (length names) device → IsJudged names same design tables
    → IsFlattened names device design flat → IsSound names device flat
sound names device same design listed tables flat whole apart same_device is inputs judged made =
    whole names device design flat is.1.joined_is.differ is.1.joined_is.fits inputs made
    (subst (λ (d : DeviceRec). AreJoined names d design) same_device judged.joined)
    (subst (λ n. AreApart names design n made.is.leaves) (sym made.is.ports)
    (apart names device design made.is.leaves made.keeps.0.0.0.0.0.0.0.0 made.is.are_leaves))

pub few_cells : (names : List Text) (device same : DeviceRec) (design : NetlistRec)
    (listed : Listed) (flat : Flat) → DesignsAreSmall → AreListed names same design listed
    → IsFlattened names device design flat → length flat.cells ≤ 2 ^ 22
few_cells names device same design listed flat law is made =
    let leaves = made.is.leaves in
    let small = law names device design leaves made.is.signals made.keeps.0.0.0.0.0.0
    is.1.top.places made.is.are_leaves made.is.are_signals in
    let few : length (port_cells names design) + length leaves ≤ 2 ^ 22 = small.cells in
    let texts = port_cells names design ++ map (leaf_texts names design) leaves in
    let many : length flat.cells ≡ length (port_cells names design) + length leaves =
    sym (length-map flat.cells (cell_texts names)) ∙ ap length made.is.cells
    ∙ length-map texts (λ t. Some t)
    ∙ length-append (port_cells names design) (map (leaf_texts names design) leaves)
    ∙ ap (λ n. length (port_cells names design) + n) (length-map leaves (leaf_texts names design))
    in
    omega arith
