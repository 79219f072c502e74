-- Segments that are no PIPs are in a site.
use Rattle.std.proofs.Common.{◌≡◌, refl, ℕ, Bool}
use Rattle.ix_rec.specs.declared.device.DeviceRec.{DeviceRec}
use Rattle.ix_rec.specs.declared.phys.BranchKind.{BranchKind}
use Rattle.ix_rec.specs.declared.phys.BranchKind.TheVariants.{BelPin, SitePin, Pip, SitePip}
use Rattle.ix_graph.specs.Ends.{of_site, ends_in_site, ends_by}

pub ends_of_others : (kind : BranchKind) (rec : DeviceRec) (first second third : ℕ) (forward : Bool) → (kind ≡ Pip → ⊥) → ends_by kind rec first second third forward ≡ of_site rec first (ends_in_site kind rec second third)
ends_of_others BelPin rec first second third forward h = refl
ends_of_others SitePin rec first second third forward h = refl
ends_of_others SitePip rec first second third forward h = refl
ends_of_others Pip rec first second third forward h = absurd (h refl)
