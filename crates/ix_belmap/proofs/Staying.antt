-- Types that stay with others, site type by site type.
use Rattle.std.proofs.Common.{◌≡◌, refl, ap, sym, subst, ◌∙◌, IfSome, ℕ, zero, suc, ◌+◌, ◌<◌, List}
use Rattle.std.proofs.Common.{[], ◌∷◌, take, length, slice_get, Option, Some, None, Bool, true}
use Rattle.std.proofs.Common.{false, not, ◌||◌, arith}
use Rattle.std.specs.List.{list_all}
use Rattle.ix_rec.specs.declared.device.DeviceRec.{DeviceRec}
use Rattle.ix_rec.specs.declared.device.SiteType.{SiteType}
use Rattle.ix_belmap.proofs.Lists.{all_fails, all_next}
use Rattle.ix_belmap.specs.Groups.{is_home, stays_with}
use Rattle.ix_belmap.proofs.BelSums.{within}

abbrev pub test : DeviceRec → (port_type ty : ℕ) → SiteType → Bool
test rec port_type ty t = not (is_home rec ty t) || is_home rec port_type t

pub next_passes : (rec : DeviceRec) (port_type ty i : ℕ) → i < length rec.site_type_list
    → list_all (test rec port_type ty) (take i rec.site_type_list) ≡ true
    → ((t : SiteType) → slice_get rec.site_type_list i ≡ Some t → test rec port_type ty t ≡ true)
    → list_all (test rec port_type ty) (take (i + 1) rec.site_type_list) ≡ true
next_passes rec port_type ty i lt before here = by (slice_get rec.site_type_list i) refl
  where
    by : (o : Option SiteType) → slice_get rec.site_type_list i ≡ o
        → list_all (test rec port_type ty) (take (i + 1) rec.site_type_list) ≡ true
    by None e = absurd (within rec.site_type_list i lt e)
    by (Some t) e = all_next (test rec port_type ty) rec.site_type_list i t e before (here t e)

pub fails : (rec : DeviceRec) (port_type ty i : ℕ) → i < length rec.site_type_list
    → ((t : SiteType) → slice_get rec.site_type_list i ≡ Some t → test rec port_type ty t ≡ false)
    → stays_with rec port_type ty ≡ false
unfolding stays_with
fails rec port_type ty i lt here = by (slice_get rec.site_type_list i) refl
  where
    by : (o : Option SiteType) → slice_get rec.site_type_list i ≡ o
        → list_all (test rec port_type ty) rec.site_type_list ≡ false
    by None e = absurd (within rec.site_type_list i lt e)
    by (Some t) e = all_fails (test rec port_type ty) rec.site_type_list i t e (here t e)

take_whole : {A : Type 0} (xs : List A) (n : ℕ) → n ≡ length xs → take n xs ≡ xs
take_whole [] zero h = refl
take_whole [] (suc n) h = refl
take_whole (x ∷ xs) zero h = absurd (omega arith)
take_whole (x ∷ xs) (suc n) h = ap (λ l. x ∷ l) (take_whole xs n (omega arith))

pub all_pass : (rec : DeviceRec) (port_type ty i : ℕ) → i ≡ length rec.site_type_list
    → list_all (test rec port_type ty) (take i rec.site_type_list) ≡ true
    → stays_with rec port_type ty ≡ true
unfolding stays_with
all_pass rec port_type ty i end h = sym (ap (list_all (test rec port_type ty))
    (take_whole rec.site_type_list i end)) ∙ h

-- a site type that isn't the cell type's home passes
pub no_home : (rec : DeviceRec) (port_type ty i : ℕ) (a : Bool) (t : SiteType)
    → IfSome (slice_get rec.site_type_list i) (λ s. a ≡ is_home rec ty s) → a ≡ false
    → slice_get rec.site_type_list i ≡ Some t → test rec port_type ty t ≡ true
no_home rec port_type ty i a t told is at =
    ap (λ b. not b || is_home rec port_type t)
    (sym (subst (λ o. IfSome o (λ s. a ≡ is_home rec ty s)) at told) ∙ is)

or_true : (b : Bool) → (b || true) ≡ true
or_true true = refl
or_true false = refl

-- one that is the port type's passes
pub home_too : (rec : DeviceRec) (port_type ty i : ℕ) (b : Bool) (t : SiteType)
    → IfSome (slice_get rec.site_type_list i) (λ s. b ≡ is_home rec port_type s) → b ≡ true
    → slice_get rec.site_type_list i ≡ Some t → test rec port_type ty t ≡ true
home_too rec port_type ty i b t told is at =
    ap (λ d. not (is_home rec ty t) || d)
    (sym (subst (λ o. IfSome o (λ s. b ≡ is_home rec port_type s)) at told) ∙ is)
    ∙ or_true (not (is_home rec ty t))

-- one that is the cell type's home alone fails
pub home_alone : (rec : DeviceRec) (port_type ty i : ℕ) (a b : Bool) (t : SiteType)
    → IfSome (slice_get rec.site_type_list i) (λ s. a ≡ is_home rec ty s) → a ≡ true
    → IfSome (slice_get rec.site_type_list i) (λ s. b ≡ is_home rec port_type s) → b ≡ false
    → slice_get rec.site_type_list i ≡ Some t → test rec port_type ty t ≡ false
home_alone rec port_type ty i a b t told is other never at =
    ap (λ d. not d || is_home rec port_type t)
    (sym (subst (λ o. IfSome o (λ s. a ≡ is_home rec ty s)) at told) ∙ is)
    ∙ sym (subst (λ o. IfSome o (λ s. b ≡ is_home rec port_type s)) at other) ∙ never
