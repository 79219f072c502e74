-- The sites of port cells.
use Rattle.std.proofs.Common.{◌≡◌, ◌≢◌, ◌⊎◌, ◌<◌, ◌≤◌, ◌+◌, ◌∙◌, ap, sym, subst, ℕ}
use Rattle.std.proofs.Common.{arith, inl, inr, List, slice_get, length, Some, None}
use Rattle.std.specs.FinMap.{FinMap, get, empty, get-empty}
use Rattle.std.specs.Ordering.{nat_cmp}
use Rattle.std.proofs.lemmas.Bool.{cases_lt}
use Rattle.std.proofs.lemmas.Option.{none-some, same_Some}
use Rattle.ix_message.specs.Shape.{Text}
use Rattle.ix_rec.specs.declared.device.DeviceRec.{DeviceRec}
use Rattle.ix_rec.specs.declared.phys.CellPlacement.{CellPlacement}
use Rattle.ix_rec.specs.declared.phys.Phys.{Phys}
use Rattle.ix_device.specs.Lookups.{site_named}
use Rattle.ix_flat.specs.Whole.{IsPortType}
use Rattle.ix_extract.specs.Extracted.{IsPortOn}
use Rattle.ix_extract.specs.Taken.{AreFixed}

module _ (names : List Text) (rec : DeviceRec) (phys : Phys) where
  abbrev Sites : Type 0
  Sites = FinMap nat_cmp ℕ

  pub no_sites : (fixed : Sites) → fixed ≡ empty → AreFixed names rec phys 0 fixed
  no_sites fixed is cell site = (
    λ h. absurd (none-some site (sym (ap (λ m. get m cell) is ∙ get-empty nat_cmp cell) ∙ h)),
    λ h. let lt = h.0 in absurd (omega (arith, lt)),
  )

  module _ (cell : ℕ) (placement : CellPlacement)
      (stands : slice_get phys.placements cell ≡ Some placement) (before : Sites)
      (are : AreFixed names rec phys cell before) where
    its : (site : ℕ) (is : IsPortOn names rec phys cell site) → is.placement ≡ placement
    its site is = same_Some is.placement placement (sym is.placement_is ∙ stands)

    -- a cell that is no port
    pub plain_next : ((site : ℕ) → IsPortOn names rec phys cell site → ⊥)
        → AreFixed names rec phys (cell + 1) before
    plain_next none q site = (
      λ h. let e = (are q site).0 h in let lt = e.0 in (omega (arith, lt), e.1),
      λ h. back h.0 h.1 (cases_lt q cell),
    )
      where
        back : q < cell + 1 → IsPortOn names rec phys q site → (q < cell) ⊎ (cell ≤ q)
            → get before q ≡ Some site
        back lt is (inl less) = (are q site).1 (less, is)
        back lt is (inr le) =
            let same : q ≡ cell = omega (arith, lt, le) in
            absurd (none site (subst (λ n. IsPortOn names rec phys n site) same is))

    pub other_type : (IsPortType names placement.ty → ⊥)
        → AreFixed names rec phys (cell + 1) before
    other_type none = plain_next (λ site is. none
        (subst (λ (p : CellPlacement). IsPortType names p.ty) (its site is) is.port))

    pub on_no_site : site_named rec placement.site ≡ None
        → AreFixed names rec phys (cell + 1) before
    on_no_site none = plain_next (λ site is. none-some site (sym none
        ∙ ap (λ (p : CellPlacement). site_named rec p.site) (sym (its site is)) ∙ is.site_is))

    -- a port
    pub port_next : IsPortType names placement.ty → (site : ℕ)
        → site_named rec placement.site ≡ Some site → (after : Sites)
        → get after cell ≡ Some site → ((q : ℕ) → q ≢ cell → get after q ≡ get before q)
        → AreFixed names rec phys (cell + 1) after
    port_next port site site_is after here others q other = (
      λ h. forth h (cases_lt q cell) (cases_lt cell q),
      λ h. back h.0 h.1 (cases_lt q cell),
    )
      where
        forth : get after q ≡ Some other → (q < cell) ⊎ (cell ≤ q) → (cell < q) ⊎ (q ≤ cell)
            → (q < cell + 1) × IsPortOn names rec phys q other
        forth h (inl less) way = let e = (are q other).0 (sym (others q
            (λ same. let s : q ≡ cell = same in omega (arith, s, less))) ∙ h) in
            (omega (arith, less), e.1)
        forth h (inr le) (inl above) =
            let e = (are q other).0 (sym (others q
            (λ same. let s : q ≡ cell = same in omega (arith, s, above))) ∙ h) in
            let lt = e.0 in absurd (omega (arith, lt, above))
        forth h (inr le) (inr below) =
            let same : q ≡ cell = omega (arith, le, below) in (
              omega (arith, same),
              record {
                placement = placement;
                placement_is = ap (slice_get phys.placements) same ∙ stands;
                port = port;
                site_is = site_is ∙ sym here ∙ ap (get after) (sym same) ∙ h;
              },
            )

        back : q < cell + 1 → IsPortOn names rec phys q other → (q < cell) ⊎ (cell ≤ q)
            → get after q ≡ Some other
        back lt is (inl less) = others q (λ same. let s : q ≡ cell = same in omega (arith, s, less))
            ∙ (are q other).1 (less, is)
        back lt is (inr le) =
            let same : q ≡ cell = omega (arith, lt, le) in
            let so = subst (λ n. IsPortOn names rec phys n other) same is in
            ap (get after) same ∙ here ∙ sym site_is
            ∙ ap (λ (p : CellPlacement). site_named rec p.site) (sym (its other so)) ∙ so.site_is

  pub sites_end : (cell : ℕ) (fixed : Sites) → cell ≡ length phys.placements
      → AreFixed names rec phys cell fixed
      → AreFixed names rec phys (length phys.placements) fixed
  sites_end cell fixed end are = subst (λ n. AreFixed names rec phys n fixed) end are
