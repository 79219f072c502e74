-- Roots of a net (L5).
use Rattle.std.proofs.Common.{◌≡◌, ◌<◌, ◌≤◌, ◌↔◌, ◌∙◌, ap, sym, subst, ℕ, List, []}
use Rattle.std.proofs.Common.{◌∷◌, ◌++◌, arith}
use Rattle.std.specs.Prelude.{length, slice_get, Some, option_map}
use Rattle.std.proofs.lemmas.Option.{none-some, same_Some}
use Rattle.ix_rec.specs.Forest.{IsPreorder}
use Rattle.ix_rec.specs.declared.device.DeviceRec.{DeviceRec}
use Rattle.ix_rec.specs.declared.forest.Branch.{Branch}
use Rattle.ix_rec.specs.declared.phys.Phys.{Phys}
use Rattle.ix_rec.specs.declared.phys.PhysNet.{PhysNet}
use Rattle.ix_rec.specs.declared.phys.Segment.{Segment}
use Rattle.ix_legal.specs.Segments.{segments, segment_at, depth_at, IsSourceRoot}
use Rattle.ix_legal.specs.Trees.{IsSource, IsFromNode, RootFits}
use Rattle.ix_net_trees.proofs.Numbers.{no_segment}

-- a net with sources has a source root, its first segment
first_is_root : (sources stubs : List (Branch Segment)) → IsPreorder sources
    → 0 < length sources
    → option_map (λ (b : Branch Segment). b.depth) (slice_get (sources ++ stubs) 0) ≡ Some 0
first_is_root [] stubs steps some = absurd (omega (arith, some))
first_is_root (b ∷ sources) stubs steps some =
    let le : b.depth ≤ 0 = steps.0 in
    let same : b.depth ≡ 0 = omega (arith, le) in ap Some same

pub source_root : (net : PhysNet) → IsPreorder net.sources → 0 < length net.sources
    → IsSourceRoot net 0
source_root net steps some = (some, first_is_root net.sources net.stubs steps some)

module _ (rec : DeviceRec) (phys : Phys) (net : PhysNet) (k : ℕ) (b : Branch Segment)
    (is : slice_get (segments net) k ≡ Some b) where
  segment_is : segment_at net k ≡ Some b.item
  segment_is = ap (option_map (λ (b : Branch Segment). b.item)) is

  depth_is : depth_at net k ≡ Some b.depth
  depth_is = ap (option_map (λ (b : Branch Segment). b.depth)) is

  -- a segment that is no root
  pub no_root : 0 < b.depth → RootFits rec phys net k
  no_root deep = record {
    source = λ s at root. let e : b.depth ≡ 0 = same_Some b.depth 0 (sym depth_is ∙ root.1) in
        absurd (omega (arith, deep, e));
    stub = λ s at root. let e : b.depth ≡ 0 = same_Some b.depth 0 (sym depth_is ∙ root.1) in
        absurd (omega (arith, deep, e));
  }

  module _ (shallow : b.depth ≤ 0) where
    is_root : depth_at net k ≡ Some 0
    is_root = depth_is ∙ ap Some (let e : b.depth ≡ 0 = omega (arith, shallow) in e)

    -- the root of a source tree
    pub of_source : k < length net.sources
        → IsSource net.ty rec phys k b.item ↔ RootFits rec phys net k
    of_source early = (
      λ h. record {
        source = λ s at root. subst (IsSource net.ty rec phys k)
            (same_Some b.item s (sym segment_is ∙ at)) h;
        stub = λ s at root. let late : length net.sources ≤ k = root.0 in
            absurd (omega (arith, early, late));
      },
      λ fits. fits.source b.item segment_is (early, is_root),
    )

    -- the root of a stub
    pub of_stub : length net.sources ≤ k → IsFromNode rec b.item ↔ RootFits rec phys net k
    of_stub late = (
      λ h. record {
        source = λ s at root. let early : k < length net.sources = root.0 in
            absurd (omega (arith, early, late));
        stub = λ s at root. subst (IsFromNode rec) (same_Some b.item s (sym segment_is ∙ at)) h;
      },
      λ fits. fits.stub b.item segment_is (late, is_root),
    )

-- what is past the last segment is no root
pub fits_past : (rec : DeviceRec) (phys : Phys) (net : PhysNet) (k : ℕ)
    → (k < length (segments net) → ⊥) → RootFits rec phys net k
fits_past rec phys net k past = record {
  source = λ s at root. absurd (none-some s (sym (no_segment net k past) ∙ at));
  stub = λ s at root. absurd (none-some s (sym (no_segment net k past) ∙ at));
}
