-- What was finished has each of its indexes in its list: first over any table, then for the record of a device.
use Prim.Native.String.{String}
use Rattle.std.proofs.Common.{◌≡◌, ℕ, ◌<◌, zero, suc, List, [], ◌∷◌, length, map, replicate, Bool, true, false, Result, Ok, Err, refl, sym, ap, ◌∙◌, subst, arith}
use Rattle.std.specs.Prelude.{IfOk, if◌then◌else◌, nat_lt, slice_get, slice_index}
use Rattle.std.specs.List.{AllByRecursion}
use Rattle.std.proofs.lemmas.Bool.{ltb-true}
use Rattle.std.proofs.lemmas.List.{length-map}
use Rattle.std.proofs.lemmas.Result.{IfOk-at_ok}
use Rattle.ix_frame.specs.Result.{◌>>=◌}
use Rattle.ix_rec.specs.Ranges.{InversionFits, SiteTypeFits, TileTypeFits, SitesFit, IndexesFit}
use Rattle.ix_rec.specs.declared.device.DeviceRec.{DeviceRec}
use Rattle.ix_rec.specs.declared.device.SitePin.{SitePin}
use Rattle.ix_rec.specs.declared.device.Bel.{Bel}
use Rattle.ix_rec.specs.declared.device.Inversion.{Inversion}
use Rattle.ix_rec.specs.declared.device.Inversion.TheVariants.{NonInverting, Inverting}
use Rattle.ix_rec.specs.declared.device.SitePip.{SitePip}
use Rattle.ix_rec.specs.declared.device.SiteWire.{SiteWire}
use Rattle.ix_rec.specs.declared.device.SiteType.{SiteType}
use Rattle.ix_rec.specs.declared.device.SiteTypeInTileType.{SiteTypeInTileType}
use Rattle.ix_rec.specs.declared.device.Pip.{Pip}
use Rattle.ix_rec.specs.declared.device.WireConstantSources.{WireConstantSources}
use Rattle.ix_rec.specs.declared.device.TileType.{TileType}
use Rattle.ix_rec.specs.declared.device.Site.{Site}
use Rattle.ix_rec.specs.declared.device.Tile.{Tile}
use Rattle.ix_rec.specs.declared.device.Node.{Node}
use Rattle.ix_message.specs.Device.{device, site_pin, bel, site_pip, site_wire, site_type, bel_pin, site_type_in_tile_type, pip, wire_constant_sources, tile_type, site, tile, wire, node}
use Rattle.ix_message.specs.Names.{Datum, the_number, the_text, kind_in, datum_of}
use Rattle.ix_message.specs.Shape.{Text, Kind, Field, field, Struct, Pointers, Value, Parts, wires, bel_pins, tile_wires, nothing, choice, index, by_tag, struct_of, no_more, text, texts, numbers, struct, struct_or_none, boxed, structs, branches, string_table, unread}
use Rattle.ix_device_read.specs.declared.stop.Stop.{Stop}
use Rattle.ix_device_read.specs.Finish.{Sizes, Stopped, is_in, begin, known, asked, finish_row, each_alone, finish_each, finish_option, inner_sizes, finish_at, finish_parts}
use Rattle.ix_device_read.specs.Numbers.{name_text, inversion_data}
use Rattle.ix_device_read.specs.Records.{site_pin_record, bel_pin_record, bel_record, site_pip_record, site_wire_record, site_type_record, site_type_in_tile_type_record, pip_record, wire_constant_sources_record, tile_type_record, site_record, tile_record, wire_record, node_record, device_record}
use Rattle.ix_device_read.specs.Sizes.{device_finished, device_sizes, site_type_count}
use Rattle.ix_device_read.specs.Views.{Meets}

-- ---- steps of which each that is passed tells something

bind_has : {A B E : Type 0} (P : A → Type 0) (Q : B → Type 0) (a : Result A E) (next : A → Result B E) → IfOk a P → ((x : A) → P x → IfOk (next x) Q) → IfOk (a >>= next) Q
bind_has P Q (Ok x) next h on = on x h
bind_has P Q (Err e) next h on = tt

bind_any : {A B E : Type 0} (Q : B → Type 0) (a : Result A E) (next : A → Result B E) → ((x : A) → IfOk (next x) Q) → IfOk (a >>= next) Q
bind_any Q (Ok x) next on = on x
bind_any Q (Err e) next on = tt

by_test : {A E : Type 0} (P : A → Type 0) (b : Bool) (x : A) (e : E) → (b ≡ true → P x) → IfOk (if b then Ok x else Err e) P
by_test P true x e on = on refl
by_test P false x e on = tt

-- ---- lists that agree item by item

abbrev Pairs : {A B : Type 0} → (A → B → Type 0) → List A → List B → Type 0
Pairs R [] [] = Unit {0}
Pairs R [] (y ∷ ys) = ⊥
Pairs R (x ∷ xs) [] = ⊥
Pairs R (x ∷ xs) (y ∷ ys) = R x y × Pairs R xs ys

pairs_all : {A B C : Type 0} (R : A → B → Type 0) (view : C → B) (P : C → Type 0) → ((x : A) (r : C) → R x (view r) → P r) → (xs : List A) (rs : List C) → Pairs R xs (map view rs) → AllByRecursion P rs
pairs_all R view P on [] [] h = tt
pairs_all R view P on [] (r ∷ rs) h = absurd h
pairs_all R view P on (x ∷ xs) [] h = absurd h
pairs_all R view P on (x ∷ xs) (r ∷ rs) h = (on x r h.0, pairs_all R view P on xs rs h.1)

pairs_same : {A B C D : Type 0} (R : A → B → Type 0) (view : C → B) (f : A → D) (g : C → D) → ((x : A) (r : C) → R x (view r) → f x ≡ g r) → (xs : List A) (rs : List C) → Pairs R xs (map view rs) → map f xs ≡ map g rs
pairs_same R view f g on [] [] h = refl
pairs_same R view f g on [] (r ∷ rs) h = absurd h
pairs_same R view f g on (x ∷ xs) [] h = absurd h
pairs_same R view f g on (x ∷ xs) (r ∷ rs) h = rw (on x r h.0, pairs_same R view f g on xs rs h.1) refl

pairs_length : {A B C : Type 0} (R : A → B → Type 0) (view : C → B) (xs : List A) (rs : List C) → Pairs R xs (map view rs) → length xs ≡ length rs
pairs_length R view [] [] h = refl
pairs_length R view [] (r ∷ rs) h = absurd h
pairs_length R view (x ∷ xs) [] h = absurd h
pairs_length R view (x ∷ xs) (r ∷ rs) h = let e = pairs_length R view xs rs h.1 in omega (arith, e)

-- ---- what is finished fits: over any table

-- the datum is that of a number which is in its list
abbrev DatumFits : Sizes → Kind → ℕ → Datum → Type 0
DatumFits z k n d = (is_in z k n ≡ true) × (d ≡ datum_of z.table k n)

-- the first number of a row, and the others
abbrev front_of : List ℕ → ℕ
front_of [] = 0
front_of (n ∷ ns) = n

abbrev rest_of : List ℕ → List ℕ
rest_of [] = []
rest_of (n ∷ ns) = ns

abbrev RowFits : Sizes → List ℕ → List Field → List ℕ → List Datum → Type 0
RowFits z row (f ∷ fs) ns (d ∷ ds) = DatumFits z (kind_in row f.kind) (front_of ns) d × RowFits z row fs (rest_of ns) ds
RowFits z row (f ∷ fs) ns [] = Unit {0}
RowFits z row [] ns ds = Unit {0}

unfoldable mutual
  Fits : (s : Struct) → Sizes → Value ℕ s → Value Datum s → Type 0
  Fits (struct_of kind fields ps) z v d = RowFits z v.0 fields v.0 d.0 × PartsFit ps (inner_sizes ps v.1 (record z { tile_type = slice_index v.0 1 })) v.1 d.1

  -- lists of numbers and of structs; no other part of a device has an index
  PartsFit : (ps : Pointers) → Sizes → Parts ℕ ps → Parts Datum ps → Type 0
  PartsFit no_more z v d = Unit {0}
  PartsFit (text c ps) z v d = PartsFit ps z v.1 d.1
  PartsFit (texts c ps) z v d = PartsFit ps z v.1 d.1
  PartsFit (numbers c target k ps) z v d = Pairs (DatumFits z k) v.0 d.0 × PartsFit ps z v.1 d.1
  PartsFit (struct c s ps) z v d = PartsFit ps z v.1 d.1
  PartsFit (struct_or_none c s ps) z v d = PartsFit ps z v.1 d.1
  PartsFit (boxed c kind inner s ps) z v d = PartsFit ps z v.1 d.1
  PartsFit (structs c target s ps) z v d = Pairs (Fits s z) v.0 d.0 × PartsFit ps z v.1 d.1
  PartsFit (branches c kind fields ps) z v d = PartsFit ps z v.1 d.1
  PartsFit (string_table c ps) z v d = PartsFit ps z v d
  PartsFit (unread c ps) z v d = PartsFit ps z v d

asked_fits : (z : Sizes) (counts : List ℕ) (kind called : String) (k : Kind) (n : ℕ) → IfOk (asked z counts kind called k n) (DatumFits z k n)
asked_fits z counts kind called k n = by_test (DatumFits z k n) (is_in z k n) (datum_of z.table k n) _ (λ e. (e, refl))

row_fits : (z : Sizes) (counts : List ℕ) (kind : String) (row : List ℕ) (fs : List Field) (ns : List ℕ) → IfOk (finish_row z counts kind row fs ns) (RowFits z row fs ns)
unfolding finish_row
row_fits z counts kind row (f ∷ fs) (n ∷ ns) =
    bind_has (DatumFits z (kind_in row f.kind) n) (RowFits z row (f ∷ fs) (n ∷ ns)) (asked z counts kind f.called (kind_in row f.kind) n) _ (asked_fits z counts kind f.called (kind_in row f.kind) n)
    (λ first h. bind_has (RowFits z row fs ns) (RowFits z row (f ∷ fs) (n ∷ ns)) (finish_row z counts kind row fs ns) _ (row_fits z counts kind row fs ns) (λ others hs. (h, hs)))
row_fits z counts kind row [] ns = tt
row_fits z counts kind row (f ∷ fs) [] = tt

alone_fits : {A B : Type 0} (R : A → B → Type 0) (ask : A → Result B Stopped) → ((x : A) → IfOk (ask x) (R x)) → (xs : List A) → IfOk (each_alone ask xs) (Pairs R xs)
unfolding each_alone
alone_fits R ask one [] = tt
alone_fits R ask one (x ∷ xs) =
    bind_has (R x) (Pairs R (x ∷ xs)) (ask x) _ (one x)
    (λ first h. bind_has (Pairs R xs) (Pairs R (x ∷ xs)) (each_alone ask xs) _ (alone_fits R ask one xs) (λ others hs. (h, hs)))

each_fits : {A B : Type 0} (R : A → B → Type 0) (finish : A → List ℕ → Result (B × List ℕ) Stopped) → ((x : A) (counts : List ℕ) → IfOk (finish x counts) (λ y. R x y.0)) → (xs : List A) (counts : List ℕ) → IfOk (finish_each finish xs counts) (λ ys. Pairs R xs ys.0)
unfolding finish_each
each_fits R finish one [] counts = tt
each_fits R finish one (x ∷ xs) counts =
    bind_has (λ y. R x y.0) (λ ys. Pairs R (x ∷ xs) ys.0) (finish x counts) _ (one x counts)
    (λ first h. bind_has (λ ys. Pairs R xs ys.0) (λ ys. Pairs R (x ∷ xs) ys.0) (finish_each finish xs first.1) _ (each_fits R finish one xs first.1) (λ others hs. (h, hs)))

mutual
  unfolding finish_at finish_parts Fits PartsFit

  struct_fits : (s : Struct) (z : Sizes) (v : Value ℕ s) (counts : List ℕ) → IfOk (finish_at s z v counts) (λ x. Fits s z v x.0)
  struct_fits (struct_of kind fields ps) z v counts =
      let inner = inner_sizes ps v.1 (record z { tile_type = slice_index v.0 1 }) in
      bind_has (RowFits z v.0 fields v.0) (λ x. Fits (struct_of kind fields ps) z v x.0) (finish_row z (begin kind counts) kind v.0 fields v.0) _ (row_fits z (begin kind counts) kind v.0 fields v.0)
      (λ row h. bind_has (λ x. PartsFit ps inner v.1 x.0) (λ x. Fits (struct_of kind fields ps) z v x.0) (finish_parts ps kind inner v.1 (begin kind counts)) _ (parts_fit ps kind inner v.1 (begin kind counts)) (λ parts hs. (h, hs)))

  parts_fit : (ps : Pointers) (kind : String) (z : Sizes) (v : Parts ℕ ps) (counts : List ℕ) → IfOk (finish_parts ps kind z v counts) (λ x. PartsFit ps z v x.0)
  parts_fit no_more kind z v counts = tt
  parts_fit (text c ps) kind z v counts =
      bind_any (λ x. PartsFit (text c ps) z v x.0) (known z v.0) _
      (λ here. bind_has (λ x. PartsFit ps z v.1 x.0) (λ x. PartsFit (text c ps) z v x.0) (finish_parts ps kind z v.1 counts) _ (parts_fit ps kind z v.1 counts) (λ rest hs. hs))
  parts_fit (texts c ps) kind z v counts =
      bind_any (λ x. PartsFit (texts c ps) z v x.0) (each_alone (known z) v.0) _
      (λ here. bind_has (λ x. PartsFit ps z v.1 x.0) (λ x. PartsFit (texts c ps) z v x.0) (finish_parts ps kind z v.1 counts) _ (parts_fit ps kind z v.1 counts) (λ rest hs. hs))
  parts_fit (numbers c target k ps) kind z v counts =
      bind_has (Pairs (DatumFits z k) v.0) (λ x. PartsFit (numbers c target k ps) z v x.0) (each_alone (asked z counts kind c k) v.0) _ (alone_fits (DatumFits z k) (asked z counts kind c k) (λ n. asked_fits z counts kind c k n) v.0)
      (λ here h. bind_has (λ x. PartsFit ps z v.1 x.0) (λ x. PartsFit (numbers c target k ps) z v x.0) (finish_parts ps kind z v.1 counts) _ (parts_fit ps kind z v.1 counts) (λ rest hs. (h, hs)))
  parts_fit (struct c s ps) kind z v counts =
      bind_any (λ x. PartsFit (struct c s ps) z v x.0) (finish_at s z v.0 counts) _
      (λ here. bind_has (λ x. PartsFit ps z v.1 x.0) (λ x. PartsFit (struct c s ps) z v x.0) (finish_parts ps kind z v.1 here.1) _ (parts_fit ps kind z v.1 here.1) (λ rest hs. hs))
  parts_fit (struct_or_none c s ps) kind z v counts =
      bind_any (λ x. PartsFit (struct_or_none c s ps) z v x.0) (finish_option (finish_at s z) v.0 counts) _
      (λ here. bind_has (λ x. PartsFit ps z v.1 x.0) (λ x. PartsFit (struct_or_none c s ps) z v x.0) (finish_parts ps kind z v.1 here.1) _ (parts_fit ps kind z v.1 here.1) (λ rest hs. hs))
  parts_fit (boxed c box inner s ps) kind z v counts =
      bind_any (λ x. PartsFit (boxed c box inner s ps) z v x.0) (finish_each (finish_at s z) v.0 counts) _
      (λ here. bind_has (λ x. PartsFit ps z v.1 x.0) (λ x. PartsFit (boxed c box inner s ps) z v x.0) (finish_parts ps kind z v.1 here.1) _ (parts_fit ps kind z v.1 here.1) (λ rest hs. hs))
  parts_fit (structs c target s ps) kind z v counts =
      bind_has (λ x. Pairs (Fits s z) v.0 x.0) (λ x. PartsFit (structs c target s ps) z v x.0) (finish_each (finish_at s z) v.0 counts) _ (each_fits (Fits s z) (finish_at s z) (λ x cs. struct_fits s z x cs) v.0 counts)
      (λ here h. bind_has (λ x. PartsFit ps z v.1 x.0) (λ x. PartsFit (structs c target s ps) z v x.0) (finish_parts ps kind z v.1 here.1) _ (parts_fit ps kind z v.1 here.1) (λ rest hs. (h, hs)))
  parts_fit (branches c k fields ps) kind z v counts =
      bind_has (λ x. PartsFit ps z v.1 x.0) (λ x. PartsFit (branches c k fields ps) z v x.0) (finish_parts ps kind z v.1 counts) _ (parts_fit ps kind z v.1 counts) (λ rest hs. hs)
  parts_fit (string_table c ps) kind z v counts = parts_fit ps kind z v counts
  parts_fit (unread c ps) kind z v counts = parts_fit ps kind z v counts

-- ---- the structs of a device that have indexes

datum_number : Datum → ℕ
datum_number (the_number n) = n
datum_number (the_text t) = 0

same_number : (m n : ℕ) → the_number m ≡ the_number n → m ≡ n
unfolding datum_number
same_number m n e = ap datum_number e

number_below : (limit n m : ℕ) → nat_lt n limit ≡ true → the_number m ≡ the_number n → m < limit
number_below limit n m within same = let lt = ltb-true n limit within in let e = same_number m n same in omega (arith, lt, e)

second_of : (row : List ℕ) → slice_index row 1 ≡ front_of (rest_of row)
second_of [] = refl
second_of (a ∷ []) = refl
second_of (a ∷ b ∷ row) = refl

third_of : (row : List ℕ) → slice_index row 2 ≡ front_of (rest_of (rest_of row))
third_of [] = refl
third_of (a ∷ []) = refl
third_of (a ∷ b ∷ []) = refl
third_of (a ∷ b ∷ c ∷ row) = refl

site_pin_fits : (names : List Text) (z : Sizes) (v : Value ℕ site_pin) (r : SitePin) → Fits site_pin z v (site_pin_record names r) → r.belpin < z.bel_pins
unfolding Fits
site_pin_fits names z v r h = number_below z.bel_pins (front_of (rest_of (rest_of v.0))) r.belpin h.0.1.1.0.0 h.0.1.1.0.1

inversion_fits : (z : Sizes) (row ns : List ℕ) (i : Inversion) → slice_index row 2 ≡ front_of ns
    → RowFits z row (field "inversion_tag" (choice 2) ∷ field "nonInvertingPin" (by_tag 2 1 (index bel_pins) nothing) ∷ field "invertingPin" (by_tag 2 1 (index bel_pins) nothing) ∷ []) ns (inversion_data i) → InversionFits z.bel_pins i
inversion_fits z row ns NonInverting tag h = tt
inversion_fits z row ns (Inverting a b) tag h =
    let one : slice_index row 2 ≡ 1 = tag ∙ sym (same_number 1 (front_of ns) h.0.1) in
    let kind : kind_in row (by_tag 2 1 (index bel_pins) nothing) ≡ index bel_pins = rw one refl in
    let first = subst (λ (k : Kind). DatumFits z k (front_of (rest_of ns)) (the_number a)) kind h.1.0 in
    let second = subst (λ (k : Kind). DatumFits z k (front_of (rest_of (rest_of ns))) (the_number b)) kind h.1.1.0 in
    (number_below z.bel_pins (front_of (rest_of ns)) a first.0 first.1, number_below z.bel_pins (front_of (rest_of (rest_of ns))) b second.0 second.1)

bel_fits : (names : List Text) (z : Sizes) (v : Value ℕ bel) (r : Bel) → Fits bel z v (bel_record names r) → InversionFits z.bel_pins r.inversion
unfolding Fits
bel_fits names z v r h = inversion_fits z v.0 (rest_of (rest_of v.0)) r.inversion (third_of v.0) h.0.1.1

site_pip_fits : (names : List Text) (z : Sizes) (v : Value ℕ site_pip) (r : SitePip) → Fits site_pip z v (site_pip_record names r) → (r.inpin < z.bel_pins) × (r.outpin < z.bel_pins)
unfolding Fits
site_pip_fits names z v r h = (number_below z.bel_pins (front_of v.0) r.inpin h.0.0.0 h.0.0.1, number_below z.bel_pins (front_of (rest_of v.0)) r.outpin h.0.1.0.0 h.0.1.0.1)

site_wire_fits : (names : List Text) (z : Sizes) (v : Value ℕ site_wire) (r : SiteWire) → Fits site_wire z v (site_wire_record names r) → AllByRecursion (λ p. p < z.bel_pins) r.pins
unfolding Fits PartsFit
site_wire_fits names z v r h = pairs_all (DatumFits (record z { tile_type = slice_index v.0 1 }) (index bel_pins)) the_number (λ p. p < z.bel_pins) (λ n p d. number_below z.bel_pins n p d.0 d.1) v.1.0 r.pins h.1.0

site_type_fits : (names : List Text) (z : Sizes) (v : Value ℕ site_type) (r : SiteType) → Fits site_type z v (site_type_record names r) → SiteTypeFits r
unfolding Fits PartsFit
site_type_fits names z v r h =
    let inner : Sizes = record z { tile_type = slice_index v.0 1; bel_pins = length v.1.0 } in
    let same : length v.1.0 ≡ length r.bel_pins = pairs_length (Fits bel_pin inner) (bel_pin_record names) v.1.0 r.bel_pins h.1.0 in
    record {
      pins = pairs_all (Fits site_pin inner) (site_pin_record names) (λ p. p.belpin < length r.bel_pins) (λ x p d. subst (λ (n : ℕ). p.belpin < n) same (site_pin_fits names inner x p d)) v.1.1.0 r.pins h.1.1.0;
      bels = pairs_all (Fits bel inner) (bel_record names) (λ b. InversionFits (length r.bel_pins) b.inversion) (λ x b d. subst (λ (n : ℕ). InversionFits n b.inversion) same (bel_fits names inner x b d)) v.1.1.1.0 r.bels h.1.1.1.0;
      pips = pairs_all (Fits site_pip inner) (site_pip_record names) (λ p. (p.inpin < length r.bel_pins) × (p.outpin < length r.bel_pins)) (λ x p d. subst (λ (n : ℕ). (p.inpin < n) × (p.outpin < n)) same (site_pip_fits names inner x p d)) v.1.1.1.1.0 r.site_pips h.1.1.1.1.0;
      wires = pairs_all (Fits site_wire inner) (site_wire_record names) (λ w. AllByRecursion (λ p. p < length r.bel_pins) w.pins) (λ x w d. subst (λ (n : ℕ). AllByRecursion (λ p. p < n) w.pins) same (site_wire_fits names inner x w d)) v.1.1.1.1.1.0 r.site_wires h.1.1.1.1.1.0;
    }

site_type_in_tile_type_fits : (names : List Text) (z : Sizes) (v : Value ℕ site_type_in_tile_type) (r : SiteTypeInTileType) → Fits site_type_in_tile_type z v (site_type_in_tile_type_record names r) → r.primary_type < z.site_types
unfolding Fits
site_type_in_tile_type_fits names z v r h = number_below z.site_types (front_of v.0) r.primary_type h.0.0.0 h.0.0.1

pip_fits : (names : List Text) (z : Sizes) (v : Value ℕ pip) (r : Pip) → Fits pip z v (pip_record names r) → (r.wire0 < z.tile_wires) × (r.wire1 < z.tile_wires)
unfolding Fits
pip_fits names z v r h = (number_below z.tile_wires (front_of v.0) r.wire0 h.0.0.0 h.0.0.1, number_below z.tile_wires (front_of (rest_of v.0)) r.wire1 h.0.1.0.0 h.0.1.0.1)

constants_fit : (names : List Text) (z : Sizes) (v : Value ℕ wire_constant_sources) (r : WireConstantSources) → Fits wire_constant_sources z v (wire_constant_sources_record names r) → AllByRecursion (λ w. w < z.tile_wires) r.wires
unfolding Fits PartsFit
constants_fit names z v r h = pairs_all (DatumFits (record z { tile_type = slice_index v.0 1 }) (index tile_wires)) the_number (λ w. w < z.tile_wires) (λ n w d. number_below z.tile_wires n w d.0 d.1) v.1.0 r.wires h.1.0

tile_type_fits : (names : List Text) (z : Sizes) (v : Value ℕ tile_type) (r : TileType) → Fits tile_type z v (tile_type_record names r) → TileTypeFits z.site_types r
unfolding Fits PartsFit
tile_type_fits names z v r h =
    let inner : Sizes = record z { tile_type = slice_index v.0 1; tile_wires = length v.1.1.0 } in
    let same : length v.1.1.0 ≡ length r.wires = pairs_length _ (λ id. the_text (name_text names id)) v.1.1.0 r.wires h.1.1.0 in
    record {
      sites = pairs_all (Fits site_type_in_tile_type inner) (site_type_in_tile_type_record names) (λ s. s.primary_type < z.site_types) (λ x s d. site_type_in_tile_type_fits names inner x s d) v.1.0 r.site_types h.1.0;
      pips = pairs_all (Fits pip inner) (pip_record names) (λ p. (p.wire0 < length r.wires) × (p.wire1 < length r.wires)) (λ x p d. subst (λ (n : ℕ). (p.wire0 < n) × (p.wire1 < n)) same (pip_fits names inner x p d)) v.1.1.1.0 r.pips h.1.1.1.0;
      constants = pairs_all (Fits wire_constant_sources inner) (wire_constant_sources_record names) (λ c. AllByRecursion (λ w. w < length r.wires) c.wires) (λ x c d. subst (λ (n : ℕ). AllByRecursion (λ w. w < n) c.wires) same (constants_fit names inner x c d)) v.1.1.1.1.0 r.constants h.1.1.1.1.0;
    }

-- a tile type has as many site types as its numbers
tile_type_counts : (names : List Text) (z : Sizes) (v : Value ℕ tile_type) (r : TileType) → Fits tile_type z v (tile_type_record names r) → site_type_count v ≡ length r.site_types
unfolding Fits PartsFit
tile_type_counts names z v r h = pairs_length _ (site_type_in_tile_type_record names) v.1.0 r.site_types h.1.0

site_fits : (names : List Text) (z : Sizes) (v : Value ℕ site) (r : Site) → Fits site z v (site_record names r) → r.ty < slice_index z.tile_types z.tile_type
unfolding Fits
site_fits names z v r h = number_below (slice_index z.tile_types z.tile_type) (front_of (rest_of v.0)) r.ty h.0.1.0.0 h.0.1.0.1

-- the sites of a tile are within the types of its own type
sites_fit : (types : List TileType) (ty : ℕ) (sites : List Site) → ty < length types → AllByRecursion (λ s. s.ty < slice_index (map (λ t. length t.site_types) types) ty) sites → SitesFit (slice_get types ty) sites
sites_fit [] ty sites lt h = absurd (omega (arith, lt))
sites_fit (t ∷ types) zero sites lt h = h
sites_fit (t ∷ types) (suc ty) sites lt h = sites_fit types ty sites (omega (arith, lt)) h

tile_fits : (names : List Text) (types : List TileType) (z : Sizes) (v : Value ℕ tile) (r : Tile) → z.tile_types ≡ map (λ t. length t.site_types) types → length z.tile_types ≡ length types → Fits tile z v (tile_record names r) → SitesFit (slice_get types r.ty) r.sites
unfolding Fits PartsFit
tile_fits names types z v r counts long h =
    let inner : Sizes = record z { tile_type = slice_index v.0 1 } in
    let lt : r.ty < length z.tile_types = number_below (length z.tile_types) (front_of (rest_of v.0)) r.ty h.0.1.0.0 h.0.1.0.1 in
    let ty : slice_index v.0 1 ≡ r.ty = second_of v.0 ∙ sym (same_number r.ty (front_of (rest_of v.0)) h.0.1.0.1) in
    let sites : AllByRecursion (λ s. s.ty < slice_index z.tile_types (slice_index v.0 1)) r.sites = pairs_all (Fits site inner) (site_record names) (λ s. s.ty < slice_index z.tile_types (slice_index v.0 1)) (λ x s d. site_fits names inner x s d) v.1.0 r.sites h.1.0 in
    sites_fit types r.ty r.sites (omega (arith, lt, long))
    (subst (λ (n : ℕ). AllByRecursion (λ s. s.ty < slice_index (map (λ t. length t.site_types) types) n) r.sites) ty
    (subst (λ (ns : List ℕ). AllByRecursion (λ s. s.ty < slice_index ns (slice_index v.0 1)) r.sites) counts sites))

node_fits : (names : List Text) (z : Sizes) (v : Value ℕ node) (r : Node) → Fits node z v (node_record names r) → AllByRecursion (λ w. w < z.wires) r.wires
unfolding Fits PartsFit
node_fits names z v r h = pairs_all (DatumFits (record z { tile_type = slice_index v.0 1 }) (index wires)) the_number (λ w. w < z.wires) (λ n w d. number_below z.wires n w d.0 d.1) v.1.0 r.wires h.1.0

device_fits : (names table : List Text) (v : Value ℕ device) (r : DeviceRec) → Fits device (device_sizes table names v) v (device_record names r) → IndexesFit r
unfolding Fits PartsFit
device_fits names table v r h =
    let z : Sizes = record (device_sizes table names v) { tile_type = slice_index v.0 1 } in
    let site_type_lists = h.1.0 in
    let tile_type_lists = h.1.1.0 in
    let tile_lists = h.1.1.1.0 in
    let wire_lists = h.1.1.1.1.0 in
    let node_lists = h.1.1.1.1.1.0 in
    let site_types_same : length v.1.1.0 ≡ length r.site_type_list = pairs_length (Fits site_type z) (site_type_record names) v.1.1.0 r.site_type_list site_type_lists in
    let wires_same : length v.1.1.1.1.1.0 ≡ length r.wires = pairs_length (Fits wire z) (wire_record names) v.1.1.1.1.1.0 r.wires wire_lists in
    let counts : z.tile_types ≡ map (λ t. length t.site_types) r.tile_type_list = pairs_same (Fits tile_type z) (tile_type_record names) site_type_count (λ t. length t.site_types) (λ x t d. tile_type_counts names z x t d) v.1.1.1.0 r.tile_type_list tile_type_lists in
    let long : length z.tile_types ≡ length r.tile_type_list = rw counts (length-map r.tile_type_list (λ t. length t.site_types)) in
    record {
      site_types = pairs_all (Fits site_type z) (site_type_record names) SiteTypeFits (λ x t d. site_type_fits names z x t d) v.1.1.0 r.site_type_list site_type_lists;
      tile_types = pairs_all (Fits tile_type z) (tile_type_record names) (TileTypeFits (length r.site_type_list)) (λ x t d. subst (λ (n : ℕ). TileTypeFits n t) site_types_same (tile_type_fits names z x t d)) v.1.1.1.0 r.tile_type_list tile_type_lists;
      tiles = pairs_all (Fits tile z) (tile_record names) (λ t. SitesFit (slice_get r.tile_type_list t.ty) t.sites) (λ x t d. tile_fits names r.tile_type_list z x t counts long d) v.1.1.1.1.0 r.tile_list tile_lists;
      nodes = pairs_all (Fits node z) (node_record names) (λ n. AllByRecursion (λ w. w < length r.wires) n.wires) (λ x n d. subst (λ (k : ℕ). AllByRecursion (λ w. w < k) n.wires) wires_same (node_fits names z x n d)) v.1.1.1.1.1.1.0 r.nodes node_lists;
    }

-- ---- the record that was made

pub indexes_fit : (names table : List Text) (v : Value ℕ device) (made : Result DeviceRec Stop) → Meets (device_record names) made (device_finished table names v) → IfOk made IndexesFit
indexes_fit names table v (Ok r) h =
    let z = device_sizes table names v in
    let fits : IfOk (device_finished table names v) (Fits device z v) = bind_has (λ x. Fits device z v x.0) (Fits device z v) (finish_at device z v (replicate 29 0)) _ (struct_fits device z v (replicate 29 0)) (λ x d. d) in
    device_fits names table v r (IfOk-at_ok (Fits device z v) h fits)
indexes_fit names table v (Err e) h = tt
