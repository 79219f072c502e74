-- The way up to a root.
use Rattle.std.proofs.Common.{◌≡◌, ◌≢◌, ◌<◌, ◌≤◌, ◌∙◌, ℕ, List, length, get_or, set, sym, arith}
use Rattle.std.proofs.Common.{refl}
use Rattle.std.proofs.Common.{length-set}
use Rattle.ix_roots.specs.Forest.{AreUp, IsForest, KeepsRoots}
use Rattle.ix_roots.proofs.Steps.{halved, up_set}

pub record IsFinding (before now : List ℕ) (number at : ℕ) : Type 0 where
  pub many : length now ≡ length before
  pub up : AreUp now
  pub inside : at < length now
  pub low : at ≤ number
  pub keeps : KeepsRoots before now
  pub same : (root : ℕ → ℕ) → IsForest before root → root at ≡ root number

pub finding_start : (before : List ℕ) (number : ℕ) → AreUp before → number < length before
    → IsFinding before before number number
finding_start before number up inside = record {
  many = refl;
  up = up;
  inside = inside;
  low = omega arith;
  keeps = λ root F. F;
  same = λ root F. refl;
}

pub finding_more : (before now : List ℕ) (number at : ℕ) → get_or now at 0 ≢ at
    → IsFinding before now number at
    → IsFinding before (set now at (get_or now (get_or now at 0) 0)) number
    (get_or now (get_or now at 0) 0)
finding_more before now number at apart f =
    let inside = f.inside in
    let below = f.low in
    let low : get_or now at 0 ≤ at = f.up at f.inside in
    let within : get_or now at 0 < length now = omega arith in
    let lower : get_or now (get_or now at 0) 0 ≤ get_or now at 0 = f.up (get_or now at 0) within in
    let same : length (set now at (get_or now (get_or now at 0) 0)) ≡ length now =
    length-set now at (get_or now (get_or now at 0) 0) in
    record {
      many = same ∙ f.many;
      up = up_set now at (get_or now (get_or now at 0) 0) f.inside (omega arith) f.up;
      inside = omega arith;
      low = omega arith;
      keeps = λ root F. halved now root at f.inside f.up apart (f.keeps root F);
      same = λ root F.
          let G : IsForest now root = f.keeps root F in
          G.up (get_or now at 0) within ∙ G.up at f.inside ∙ f.same root F;
    }

-- the end of the way is the root
pub found : (before now : List ℕ) (number at : ℕ) → get_or now at 0 ≡ at
    → IsFinding before now number at → (root : ℕ → ℕ) → IsForest before root → at ≡ root number
found before now number at top f root F = sym ((f.keeps root F).own at f.inside top) ∙ f.same root F
