-- What the table of listings says of a cell type's first pin map.
use Rattle.std.proofs.Common.{◌≡◌, refl, ap, sym, ◌∙◌, ℕ, suc, ◌+◌, Bool, true, false, cond, nat_eq, List, [], ◌∷◌, slice_get, find, Some, None, option_and_then, if◌then◌else◌, arith}
use Rattle.std.proofs.lemmas.Option.{none-some, same_Some}
use Rattle.ix_rec.specs.declared.device.DeviceRec.{DeviceRec}
use Rattle.ix_rec.specs.declared.device.SiteType.{SiteType}
use Rattle.ix_rec.specs.declared.device.CellBelMapping.{CellBelMapping}
use Rattle.ix_rec.specs.declared.device.CommonCellBelPinMaps.{CommonCellBelPinMaps}
use Rattle.ix_device.specs.declared.admissions.Listing.{Listing}
use Rattle.ix_device.specs.Admission.{lists_bel, fits_bel}
use Rattle.ix_device.specs.Listed.{listing, listed_in, listed_from}

-- a listing names a map of these, its place counted from here
record IsListed (t : SiteType) (bel mapping place : ℕ) (ms : List CommonCellBelPinMaps) (a : Listing) : Type 0 where
  in_mapping : a.mapping ≡ mapping
  past : ℕ
  map : CommonCellBelPinMaps
  at : a.pin_map ≡ place + past
  stands : slice_get ms past ≡ Some map
  first : find (lists_bel t bel) ms ≡ Some map
  fits : a.fits ≡ fits_bel t bel map.pins

listed_in_is : (t : SiteType) (bel mapping place : ℕ) (ms : List CommonCellBelPinMaps) (a : Listing) → listed_in t bel mapping place ms ≡ Some a → IsListed t bel mapping place ms a
listed_in_is t bel mapping place [] a h = absurd (none-some a h)
listed_in_is t bel mapping place (m ∷ ms) a h = by (lists_bel t bel m) refl (listed_in_is t bel mapping (place + 1) ms a) h
  where
    by : (b : Bool) → lists_bel t bel m ≡ b → (listed_in t bel mapping (place + 1) ms ≡ Some a → IsListed t bel mapping (place + 1) ms a)
        → (if b then Some (listing mapping place (fits_bel t bel m.pins)) else listed_in t bel mapping (place + 1) ms) ≡ Some a → IsListed t bel mapping place (m ∷ ms) a
    by true e rest h = let same = sym (same_Some (listing mapping place (fits_bel t bel m.pins)) a h) in record {
      in_mapping = ap (λ x. x.mapping) same;
      past = 0;
      map = m;
      at = ap (λ x. x.pin_map) same ∙ omega arith;
      stands = refl;
      first = ap (λ b. cond b (Some m) (find (lists_bel t bel) ms)) e;
      fits = ap (λ x. x.fits) same;
    }
    by false e rest h = let r = rest h in record {
      in_mapping = r.in_mapping;
      past = suc r.past;
      map = r.map;
      at = r.at ∙ omega arith;
      stands = r.stands;
      first = ap (λ b. cond b (Some m) (find (lists_bel t bel) ms)) e ∙ r.first;
      fits = r.fits;
    }

listed_in_none : (t : SiteType) (bel mapping place : ℕ) (ms : List CommonCellBelPinMaps) → listed_in t bel mapping place ms ≡ None → find (lists_bel t bel) ms ≡ None
listed_in_none t bel mapping place [] h = refl
listed_in_none t bel mapping place (m ∷ ms) h = by (lists_bel t bel m) (listed_in_none t bel mapping (place + 1) ms) h
  where
    by : (b : Bool) → (listed_in t bel mapping (place + 1) ms ≡ None → find (lists_bel t bel) ms ≡ None)
        → (if b then Some (listing mapping place (fits_bel t bel m.pins)) else listed_in t bel mapping (place + 1) ms) ≡ None → cond b (Some m) (find (lists_bel t bel) ms) ≡ None
    by true rest h = absurd (none-some _ (sym h))
    by false rest h = rest h

-- a listing names a map of one of these mappings
pub record IsFirst (t : SiteType) (bel cell place : ℕ) (ms : List CellBelMapping) (a : Listing) : Type 0 where
  pub past : ℕ
  pub mapping : CellBelMapping
  pub map : CommonCellBelPinMaps
  pub at : a.mapping ≡ place + past
  pub stands : slice_get ms past ≡ Some mapping
  pub inside : slice_get mapping.common_pins a.pin_map ≡ Some map
  pub first : option_and_then (λ m. find (lists_bel t bel) m.common_pins) (find (λ m. nat_eq m.cell cell) ms) ≡ Some map
  pub fits : a.fits ≡ fits_bel t bel map.pins

pub listed_is : (t : SiteType) (bel cell place : ℕ) (ms : List CellBelMapping) (a : Listing) → listed_from t bel cell place ms ≡ Some a → IsFirst t bel cell place ms a
listed_is t bel cell place [] a h = absurd (none-some a h)
listed_is t bel cell place (m ∷ ms) a h = by (nat_eq m.cell cell) refl (listed_is t bel cell (place + 1) ms a) h
  where
    by : (b : Bool) → nat_eq m.cell cell ≡ b → (listed_from t bel cell (place + 1) ms ≡ Some a → IsFirst t bel cell (place + 1) ms a)
        → (if b then listed_in t bel place 0 m.common_pins else listed_from t bel cell (place + 1) ms) ≡ Some a → IsFirst t bel cell place (m ∷ ms) a
    by true e rest h = let r = listed_in_is t bel place 0 m.common_pins a h in record {
      past = 0;
      mapping = m;
      map = r.map;
      at = r.in_mapping ∙ omega arith;
      stands = refl;
      inside = ap (slice_get m.common_pins) (let at = r.at in omega arith) ∙ r.stands;
      first = ap (λ b. option_and_then (λ m. find (lists_bel t bel) m.common_pins) (cond b (Some m) (find (λ m. nat_eq m.cell cell) ms))) e ∙ r.first;
      fits = r.fits;
    }
    by false e rest h = let r = rest h in record {
      past = suc r.past;
      mapping = r.mapping;
      map = r.map;
      at = r.at ∙ omega arith;
      stands = r.stands;
      inside = r.inside;
      first = ap (λ b. option_and_then (λ m. find (lists_bel t bel) m.common_pins) (cond b (Some m) (find (λ m. nat_eq m.cell cell) ms))) e ∙ r.first;
      fits = r.fits;
    }

pub listed_none : (t : SiteType) (bel cell place : ℕ) (ms : List CellBelMapping) → listed_from t bel cell place ms ≡ None → option_and_then (λ m. find (lists_bel t bel) m.common_pins) (find (λ m. nat_eq m.cell cell) ms) ≡ None
listed_none t bel cell place [] h = refl
listed_none t bel cell place (m ∷ ms) h = by (nat_eq m.cell cell) (listed_none t bel cell (place + 1) ms) h
  where
    by : (b : Bool) → (listed_from t bel cell (place + 1) ms ≡ None → option_and_then (λ m. find (lists_bel t bel) m.common_pins) (find (λ m. nat_eq m.cell cell) ms) ≡ None)
        → (if b then listed_in t bel place 0 m.common_pins else listed_from t bel cell (place + 1) ms) ≡ None
        → option_and_then (λ m. find (lists_bel t bel) m.common_pins) (cond b (Some m) (find (λ m. nat_eq m.cell cell) ms)) ≡ None
    by true rest h = listed_in_none t bel place 0 m.common_pins h
    by false rest h = rest h

module _ (rec : DeviceRec) (cell : ℕ) (t : SiteType) (bel : ℕ) (a : Listing) (r : IsFirst t bel cell 0 rec.cell_bel_map a) where
  pub mapping_stands : slice_get rec.cell_bel_map a.mapping ≡ Some r.mapping
  mapping_stands = ap (slice_get rec.cell_bel_map) (let at = r.at in omega arith) ∙ r.stands

  -- the map that the places lead to
  pub map_is : (m : CellBelMapping) (p : CommonCellBelPinMaps) → slice_get rec.cell_bel_map a.mapping ≡ Some m → slice_get m.common_pins a.pin_map ≡ Some p → p ≡ r.map
  map_is m p at_m at_p =
      same_Some p r.map (sym at_p ∙ ap (λ x. slice_get x.common_pins a.pin_map) (same_Some m r.mapping (sym at_m ∙ mapping_stands)) ∙ r.inside)
