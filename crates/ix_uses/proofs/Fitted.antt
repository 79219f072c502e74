-- One instance or one placement more.
use Rattle.std.proofs.Common.{◌≡◌, ◌+◌, ◌∙◌, ap, sym, refl, subst, ℕ}
use Rattle.std.proofs.Common.{List, [], ◌∷◌, ◌++◌, length, take, Bool, true, false}
use Rattle.std.proofs.Common.{◌||◌, ◌&&◌}
use Rattle.std.specs.Prelude.{not, nat_eq, slice_get, Some, is_some, if◌then◌else◌}
use Rattle.std.proofs.lemmas.Bool.{and_parts, and_from, not-true}
use Rattle.std.proofs.lemmas.List.Folds.{list_any-append, list_any_more}
use Rattle.std.proofs.lemmas.Option.{slice_get_within, get_or_from_slice_get}
use Rattle.ix_num.specs.Numbers.{NameNumber}
use Rattle.ix_keys.specs.declared.key.Key.{Key}
use Rattle.ix_keys.specs.Keys.{has_key, with_key, key, key_eq}
use Rattle.ix_rec.specs.declared.device.DeviceRec.{DeviceRec}
use Rattle.ix_rec.specs.declared.phys.Phys.{Phys}
use Rattle.ix_rec.specs.declared.phys.CellPlacement.{CellPlacement}
use Rattle.ix_rec.specs.declared.phys.SiteInstance.{SiteInstance}
use Rattle.ix_device.specs.Lookups.{site_type_number}
use Rattle.ix_legal.specs.Sites.{type_at, pins_at}
use Rattle.ix_legal.specs.Placements.{has_cell, is_on}
use Rattle.ix_legal.specs.Placements.{IsPlaced}
use Rattle.ix_legal.specs.Spots.{Everywhere, IsFirstBreak}
use Rattle.ix_legal.specs.declared.spot.Spot.TheVariants.{InstanceAt, PlacementAt, NetAt}
use Rattle.ix_legal.specs.declared.spot.Spot.TheVariants.{SegmentAt, PropertyAt, ElementAt}
use Rattle.ix_walk.specs.Firsts.{AllFit, IsFirstMisfit}
use Rattle.ix_walk.specs.Places.{kept_all, kept_before, breaks, first_placement}
use Rattle.ix_walk.specs.Marks.{Marks, has_mark, AreNamesOf}
use Rattle.ix_walk.specs.Listed.{one_more_fits, one_more_named, new_among, named_among}
use Rattle.ix_walk.specs.Listed.{nat_eq_sym}
use Rattle.ix_uses.specs.Fitting.{AreUsed, ArePlaced, AreKeysOf, InstanceFitsAt, PlacementFitsAt}
use Rattle.ix_uses.specs.Fitting.{site_of, cell_of, AllInstancesFit}
use Rattle.ix_uses.specs.Uses.{AreUses, is_used, holds_cell}

pub one_more_used : (rec : DeviceRec) (instances : List SiteInstance) (room n : ℕ)
    (instance : SiteInstance) (before after : Marks) (new : Bool)
    → slice_get instances n ≡ Some instance → AreUsed rec instances room n before
    → new ≡ not (has_mark before instance.site) → new ≡ true
    → site_type_number rec instance.ty ≡ type_at rec instance.site
    → ((other : NameNumber)
    → has_mark after other ≡ (nat_eq other instance.site || has_mark before other))
    → length after ≡ length before → AreUsed rec instances room (n + 1) after
one_more_used rec instances room n instance before after new at was is_new_site met own marks many =
    record {
      fit = one_more_fits (InstanceFitsAt rec instances) instances n instance at was.fit (record {
        alone = new_among site_of (take n instances) before instance.site new was.marked is_new_site
            ∙ met;
        own_type = own;
      });
      marked = one_more_named site_of instances n instance before after at was.marked marks;
      many = many ∙ was.many;
    }

-- the key of a BEL more
noted_next : (placements : List CellPlacement) (n : ℕ) (placement : CellPlacement)
    (before : List Key) → slice_get placements n ≡ Some placement
    → AreKeysOf (take n placements) before
    → has_key before (key placement.site placement.bel 0) ≡ false
    → AreKeysOf (take (n + 1) placements)
    (with_key before (key placement.site placement.bel 0))
noted_next placements n placement before at were new site bel =
    ap (λ b. has_key (if b then before else before ++ key placement.site placement.bel 0 ∷ [])
    (key site bel 0)) new
    ∙ list_any-append (key_eq (key site bel 0)) before _
    ∙ ap (λ b. b || (key_eq (key site bel 0) (key placement.site placement.bel 0) || false))
    (were site bel)
    ∙ ap (λ b. has_cell (take n placements) site bel || b) (one_key site bel placement)
    ∙ sym (list_any_more (is_on site bel) placements n placement
    (slice_get_within placements n placement at)
    ∙ ap (λ p. has_cell (take n placements) site bel || is_on site bel p)
    (get_or_from_slice_get placements n placement placement at))
  where
    turned : (a b : Bool) → ((a && (b && true)) || false) ≡ (a && b)
    turned true true = refl
    turned true false = refl
    turned false b = refl

    one_key : (site bel : NameNumber) (placement : CellPlacement)
        → (key_eq (key site bel 0) (key placement.site placement.bel 0) || false)
        ≡ is_on site bel placement
    one_key site bel placement =
        turned (nat_eq site placement.site) (nat_eq bel placement.bel)
        ∙ ap (λ b. b && nat_eq bel placement.bel) (nat_eq_sym site placement.site)
        ∙ ap (λ b. nat_eq placement.site site && b) (nat_eq_sym bel placement.bel)

pub one_more_placed : (rec : DeviceRec) (phys : Phys) (room n : ℕ) (placement : CellPlacement)
    (sites cells cells_after : Marks) (bels bels_after : List Key) (alone : Bool)
    → slice_get phys.placements n ≡ Some placement → ArePlaced rec phys room n cells bels
    → AreNamesOf site_of phys.site_insts sites
    → alone ≡ (not (has_mark cells placement.cell_name)
    && not (has_key bels (key placement.site placement.bel 0)))
    → alone ≡ true → is_some (pins_at rec placement.ty placement.site placement.bel) ≡ true
    → has_mark sites placement.site ≡ true
    → ((other : NameNumber)
    → has_mark cells_after other ≡ (nat_eq other placement.cell_name || has_mark cells other))
    → length cells_after ≡ length cells
    → bels_after ≡ with_key bels (key placement.site placement.bel 0)
    → ArePlaced rec phys room (n + 1) cells_after bels_after
one_more_placed rec phys room n placement sites cells cells_after bels bels_after alone at was uses
    alone_is holds admits used marks many keys =
    let both : (not (has_mark cells placement.cell_name) ≡ true)
    × (not (has_key bels (key placement.site placement.bel 0)) ≡ true)
    = and_parts _ _ (sym alone_is ∙ holds) in
    let new : has_key bels (key placement.site placement.bel 0) ≡ false
    = not-true (has_key bels (key placement.site placement.bel 0)) both.1 in
    record {
      fit = one_more_fits (PlacementFitsAt rec phys) phys.placements n placement at was.fit
          (record {
            cell_alone = new_among cell_of (take n phys.placements) cells placement.cell_name _
                was.marked refl ∙ both.0;
            bel_alone = sym (was.noted placement.site placement.bel) ∙ new;
            admits = admits;
            in_use = sym (named_among site_of phys.site_insts placement.site)
                ∙ sym (uses placement.site) ∙ used;
          });
      marked = one_more_named cell_of phys.placements n placement cells cells_after at was.marked
          marks;
      noted = subst (AreKeysOf (take (n + 1) phys.placements)) (sym keys)
          (noted_next phys.placements n placement bels at was.noted new);
      many = many ∙ was.many;
    }

-- what the code looks at, of a placement that fits
pub record AreTrue (rec : DeviceRec) (placement : CellPlacement) (sites : Marks) (alone : Bool)
    : Type 0 where
  pub is_alone : alone ≡ true
  pub is_admitted : is_some (pins_at rec placement.ty placement.site placement.bel) ≡ true
  pub is_used : has_mark sites placement.site ≡ true

pub fits_so : (rec : DeviceRec) (phys : Phys) (room n : ℕ) (placement : CellPlacement)
    (sites cells : Marks) (bels : List Key) (alone : Bool)
    → ArePlaced rec phys room n cells bels → AreNamesOf site_of phys.site_insts sites
    → alone ≡ (not (has_mark cells placement.cell_name)
    && not (has_key bels (key placement.site placement.bel 0)))
    → PlacementFitsAt rec phys n placement → AreTrue rec placement sites alone
fits_so rec phys room n placement sites cells bels alone was uses alone_is fits = record {
  is_alone = alone_is ∙ and_from _ _
      (sym (new_among cell_of (take n phys.placements) cells placement.cell_name _ was.marked refl)
      ∙ fits.cell_alone)
      (ap not (was.noted placement.site placement.bel ∙ fits.bel_alone));
  is_admitted = fits.admits;
  is_used = uses placement.site ∙ named_among site_of phys.site_insts placement.site ∙ fits.in_use;
}

-- L2 is kept everywhere
pub all_placed : (rec : DeviceRec) (phys : Phys) → AllInstancesFit rec phys
    → AllFit (PlacementFitsAt rec phys) phys.placements (length phys.placements)
    → Everywhere (IsPlaced rec phys)
all_placed rec phys instances placements (InstanceAt i) =
    kept_all (InstanceFitsAt rec phys.site_insts) phys.site_insts instances i
all_placed rec phys instances placements (PlacementAt i) =
    kept_all (PlacementFitsAt rec phys) phys.placements placements i
all_placed rec phys instances placements (NetAt n) = tt
all_placed rec phys instances placements (SegmentAt n k) = tt
all_placed rec phys instances placements (PropertyAt i) = tt
all_placed rec phys instances placements (ElementAt i element) = tt

pub placement_breaks : (rec : DeviceRec) (phys : Phys) (i : ℕ) → AllInstancesFit rec phys
    → IsFirstMisfit (PlacementFitsAt rec phys) phys.placements i
    → IsFirstBreak (IsPlaced rec phys) (PlacementAt i)
placement_breaks rec phys i instances first = first_placement (IsPlaced rec phys) i
    (kept_all (InstanceFitsAt rec phys.site_insts) phys.site_insts instances)
    (kept_before (PlacementFitsAt rec phys) phys.placements i first)
    (breaks (PlacementFitsAt rec phys) phys.placements i first)

-- the sites and the BELs that were noted are those in use
pub uses_are : (phys : Phys) (sites : Marks) (bels : List Key)
    → AreNamesOf site_of phys.site_insts sites → AreKeysOf phys.placements bels
    → AreUses phys (record { sites = sites; bels = bels })
unfolding is_used holds_cell
uses_are phys sites bels marked noted = record {
  instances = λ site. marked site ∙ named_among site_of phys.site_insts site;
  cells = noted;
}
