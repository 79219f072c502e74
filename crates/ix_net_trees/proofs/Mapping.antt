-- The table of mapped BEL pins, entry by entry.
use Rattle.std.proofs.Common.{◌≡◌, ◌⊎◌, ◌<◌, ◌≤◌, ◌+◌, ◌↔◌, ◌∙◌, ap, sym, subst, refl, ℕ, List, []}
use Rattle.std.proofs.Common.{inl, inr, Bool, true, false, ◌&&◌, ◌||◌, nat_eq, arith}
use Rattle.std.specs.Prelude.{length, slice_get, Some, Contains}
use Rattle.std.proofs.lemmas.Bool.{cases_lt, eqb-true, eq-eqb, false≢true}
use Rattle.std.proofs.lemmas.Option.{same_Some, slice_get_within, slice_get-get_or}
use Rattle.std.proofs.lemmas.Option.{get_or_from_slice_get}
use Rattle.ix_keys.specs.declared.key.Key.{Key}
use Rattle.ix_keys.specs.Keys.{has_key, key, key_eq, with_key}
use Rattle.ix_device_rules.proofs.TableLemmas.{has_key-with_key}
use Rattle.ix_rec.specs.declared.phys.Phys.{Phys}
use Rattle.ix_rec.specs.declared.phys.CellPlacement.{CellPlacement}
use Rattle.ix_rec.specs.declared.phys.PinMapping.{PinMapping}
use Rattle.ix_net_trees.specs.Mapped.{AreMapped, AddsPins, MapsPin}

-- an item at a place, and an item
at_place : {A : Type 0} (xs : List A) (x : A) → Contains xs x → (k : ℕ) × (slice_get xs k ≡ Some x)
at_place xs x h = (h.0, slice_get-get_or xs h.0 x h.1 ∙ ap Some h.2)

is_item : {A : Type 0} (xs : List A) (k : ℕ) (x : A) → slice_get xs k ≡ Some x → Contains xs x
is_item xs k x is = (k, slice_get_within xs k x is, get_or_from_slice_get xs k x x is)

both : (a b : Bool) → (a && b) ≡ true → (a ≡ true) × (b ≡ true)
both true b h = (refl, h)
both false b h = absurd (false≢true h)

join : (a b : Bool) → a ≡ true → b ≡ true → (a && b) ≡ true
join true b one other = other
join false b one other = absurd (false≢true one)

either_one : (a b : Bool) → (a || b) ≡ true → (a ≡ true) ⊎ (b ≡ true)
either_one true b h = inl refl
either_one false b h = inr h

left_one : (a b : Bool) → a ≡ true → (a || b) ≡ true
left_one true b h = refl
left_one false b h = absurd (false≢true h)

right_one : (a b : Bool) → b ≡ true → (a || b) ≡ true
right_one true b h = refl
right_one false b h = h

-- one key more
with_key_has : (keys : List Key) (k j : Key) → (has_key (with_key keys k) j ≡ true)
    ↔ ((has_key keys j ≡ true) ⊎ (key_eq j k ≡ true))
with_key_has keys k j = (
  λ h. either_one (has_key keys j) (key_eq j k) (sym (has_key-with_key keys k j) ∙ h),
  λ h. has_key-with_key keys k j ∙ elim h [
    | inl old ↦ left_one (has_key keys j) (key_eq j k) old
    | inr new ↦ right_one (has_key keys j) (key_eq j k) new
  ],
)

-- what the first so many entries of a pin map name
pub record MapsUpTo (placement : CellPlacement) (count site bel pin : ℕ) : Type 0 where
  pub site_is : placement.site ≡ site
  pub place : ℕ
  pub before : place < count
  pub entry : PinMapping
  pub entry_is : slice_get placement.pin_map place ≡ Some entry
  pub bel_is : entry.bel ≡ bel
  pub pin_is : entry.bel_pin ≡ pin

pub record AddsUpTo (placement : CellPlacement) (before now : List Key) (count : ℕ) : Type 0 where
  pub each : (site bel pin : ℕ) → (has_key now (key site bel pin) ≡ true)
      ↔ ((has_key before (key site bel pin) ≡ true) ⊎ MapsUpTo placement count site bel pin)

pub adds_none : (placement : CellPlacement) (keys : List Key) → AddsUpTo placement keys keys 0
adds_none placement keys = record {
  each = λ site bel pin. (
    λ h. inl h,
    λ h. elim h [
      | inl old ↦ old
      | inr w ↦ let lt : w.place < 0 = w.before in absurd (omega (arith, lt))
    ],
  );
}

pub adds_more : (placement : CellPlacement) (before now after : List Key) (k : ℕ)
    (entry : PinMapping) → AddsUpTo placement before now k
    → slice_get placement.pin_map k ≡ Some entry
    → after ≡ with_key now (key placement.site entry.bel entry.bel_pin)
    → AddsUpTo placement before after (k + 1)
adds_more placement before now after k entry A is added = record {
  each = λ site bel pin. (
    λ h. elim ((with_key_has now (key placement.site entry.bel entry.bel_pin)
        (key site bel pin)).0 (ap (λ keys. has_key keys (key site bel pin)) (sym added) ∙ h)) [
          | inl old ↦ elim ((A.each site bel pin).0 old) [
            | inl first ↦ inl first
            | inr w ↦ inr (let lt : w.place < k = w.before in record {
              site_is = w.site_is;
              place = w.place;
              before = omega (arith, lt);
              entry = w.entry;
              entry_is = w.entry_is;
              bel_is = w.bel_is;
              pin_is = w.pin_is;
            })
          ]
          | inr new ↦
              let s = both (nat_eq site placement.site)
              (nat_eq bel entry.bel && nat_eq pin entry.bel_pin) new in
              let t = both (nat_eq bel entry.bel) (nat_eq pin entry.bel_pin) s.1 in
              inr (record {
                site_is = sym (eqb-true site placement.site s.0);
                place = k;
                before = omega arith;
                entry = entry;
                entry_is = is;
                bel_is = sym (eqb-true bel entry.bel t.0);
                pin_is = sym (eqb-true pin entry.bel_pin t.1);
              })
        ],
    λ h. ap (λ keys. has_key keys (key site bel pin)) added
        ∙ (with_key_has now (key placement.site entry.bel entry.bel_pin)
        (key site bel pin)).1 (elim h [
          | inl first ↦ inl ((A.each site bel pin).1 (inl first))
          | inr w ↦ last site bel pin w (cases_lt w.place k)
        ]),
  );
}
  where
    last : (site bel pin : ℕ) (w : MapsUpTo placement (k + 1) site bel pin)
        → (w.place < k) ⊎ (k ≤ w.place) → (has_key now (key site bel pin) ≡ true)
        ⊎ (key_eq (key site bel pin) (key placement.site entry.bel entry.bel_pin) ≡ true)
    last site bel pin w (inl lt) = inl ((A.each site bel pin).1 (inr (record {
      site_is = w.site_is;
      place = w.place;
      before = lt;
      entry = w.entry;
      entry_is = w.entry_is;
      bel_is = w.bel_is;
      pin_is = w.pin_is;
    })))
    last site bel pin w (inr ge) =
        let before : w.place < k + 1 = w.before in
        let same : k ≡ w.place = omega (arith, before, ge) in
        let entry_same : w.entry ≡ entry = same_Some w.entry entry
        (sym w.entry_is ∙ (ap (slice_get placement.pin_map) (sym same) ∙ is)) in
        inr (join (nat_eq site placement.site)
        (nat_eq bel entry.bel && nat_eq pin entry.bel_pin)
        (eq-eqb site placement.site (sym w.site_is))
        (join (nat_eq bel entry.bel) (nat_eq pin entry.bel_pin)
        (eq-eqb bel entry.bel (sym w.bel_is ∙ ap (λ (e : PinMapping). e.bel) entry_same))
        (eq-eqb pin entry.bel_pin
        (sym w.pin_is ∙ ap (λ (e : PinMapping). e.bel_pin) entry_same))))

pub adds_all : (placement : CellPlacement) (before now : List Key) (count : ℕ)
    → count ≡ length placement.pin_map → AddsUpTo placement before now count
    → AddsPins placement before now
adds_all placement before now count all A = record {
  each = λ site bel pin. (
    λ h. elim ((A.each site bel pin).0 h) [
      | inl old ↦ inl old
      | inr w ↦ inr (record {
        site_is = w.site_is;
        entry = w.entry;
        maps = is_item placement.pin_map w.place w.entry w.entry_is;
        bel_is = w.bel_is;
        pin_is = w.pin_is;
      })
    ],
    λ h. (A.each site bel pin).1 (elim h [
      | inl old ↦ inl old
      | inr w ↦
          let at = at_place placement.pin_map w.entry w.maps in
          let few : at.0 < length placement.pin_map =
          slice_get_within placement.pin_map at.0 w.entry at.1 in
          inr (record {
            site_is = w.site_is;
            place = at.0;
            before = omega (arith, few, all);
            entry = w.entry;
            entry_is = at.1;
            bel_is = w.bel_is;
            pin_is = w.pin_is;
          })
    ]),
  );
}

-- what the first so many placements name
pub record IsMappedUpTo (phys : Phys) (count site bel pin : ℕ) : Type 0 where
  pub place : ℕ
  pub before : place < count
  pub placement : CellPlacement
  pub placement_is : slice_get phys.placements place ≡ Some placement
  pub maps : MapsPin placement site bel pin

pub record AreMappedUpTo (phys : Phys) (keys : List Key) (count : ℕ) : Type 0 where
  pub each : (site bel pin : ℕ) → (has_key keys (key site bel pin) ≡ true)
      ↔ IsMappedUpTo phys count site bel pin

pub mapped_none : (phys : Phys) → AreMappedUpTo phys [] 0
mapped_none phys = record {
  each = λ site bel pin. (
    λ h. absurd (false≢true h),
    λ w. let lt : w.place < 0 = w.before in absurd (omega (arith, lt)),
  );
}

pub mapped_more : (phys : Phys) (before now : List Key) (i : ℕ) (placement : CellPlacement)
    → AreMappedUpTo phys before i → slice_get phys.placements i ≡ Some placement
    → AddsPins placement before now → AreMappedUpTo phys now (i + 1)
mapped_more phys before now i placement M is A = record {
  each = λ site bel pin. (
    λ h. elim ((A.each site bel pin).0 h) [
      | inl old ↦
          let w = (M.each site bel pin).0 old in
          let lt : w.place < i = w.before in record {
            place = w.place;
            before = omega (arith, lt);
            placement = w.placement;
            placement_is = w.placement_is;
            maps = w.maps;
          }
      | inr new ↦ record {
        place = i;
        before = omega arith;
        placement = placement;
        placement_is = is;
        maps = new;
      }
    ],
    λ w. (A.each site bel pin).1 (last site bel pin w (cases_lt w.place i)),
  );
}
  where
    last : (site bel pin : ℕ) (w : IsMappedUpTo phys (i + 1) site bel pin)
        → (w.place < i) ⊎ (i ≤ w.place) → (has_key before (key site bel pin) ≡ true)
        ⊎ MapsPin placement site bel pin
    last site bel pin w (inl lt) = inl ((M.each site bel pin).1 (record {
      place = w.place;
      before = lt;
      placement = w.placement;
      placement_is = w.placement_is;
      maps = w.maps;
    }))
    last site bel pin w (inr ge) =
        let lt : w.place < i + 1 = w.before in
        let same : i ≡ w.place = omega (arith, lt, ge) in
        inr (subst (λ (m : CellPlacement). MapsPin m site bel pin)
        (same_Some w.placement placement
        (sym w.placement_is ∙ (ap (slice_get phys.placements) (sym same) ∙ is))) w.maps)

pub mapped_all : (phys : Phys) (keys : List Key) (count : ℕ) → count ≡ length phys.placements
    → AreMappedUpTo phys keys count → AreMapped phys keys
mapped_all phys keys count all M = record {
  each = λ site bel pin. (
    λ h. let w = (M.each site bel pin).0 h in record {
      placement = w.placement;
      placed = is_item phys.placements w.place w.placement w.placement_is;
      site_is = w.maps.site_is;
      entry = w.maps.entry;
      maps = w.maps.maps;
      bel_is = w.maps.bel_is;
      pin_is = w.maps.pin_is;
    },
    λ w.
        let at = at_place phys.placements w.placement w.placed in
        let few : at.0 < length phys.placements =
        slice_get_within phys.placements at.0 w.placement at.1 in
        (M.each site bel pin).1 (record {
          place = at.0;
          before = omega (arith, few, all);
          placement = w.placement;
          placement_is = at.1;
          maps = record {
            site_is = w.site_is;
            entry = w.entry;
            maps = w.maps;
            bel_is = w.bel_is;
            pin_is = w.pin_is;
          };
        }),
  );
}
