-- Nets one after another.
use Rattle.std.proofs.Common.{◌≡◌, ◌<◌, ◌≤◌, ◌+◌, ◌^◌, subst, ℕ, List, zero, suc, [], ◌∷◌}
use Rattle.std.proofs.Common.{refl, sym, arith, length-append}
use Rattle.std.specs.Prelude.{length, slice_get, Option, Some, None, IfSome}
use Rattle.std.specs.List.{AllByRecursion}
use Rattle.std.proofs.lemmas.Option.{none-some, same_Some}
use Rattle.ix_rec.specs.declared.phys.Phys.{Phys}
use Rattle.ix_rec.specs.declared.phys.PhysNet.{PhysNet}
use Rattle.ix_legal.specs.Legal.{IsSmall, IsShort, most_entries}
use Rattle.ix_legal.specs.Breaks.{AreKept, one_more_kept, all_kept, broken_segment, asked_at}
use Rattle.ix_legal.specs.Segments.{NetNumber, SegmentNumber, segments}
use Rattle.ix_legal.specs.declared.spot.Spot.TheVariants.{SegmentAt}
use Rattle.ix_legal.specs.Spots.{AskedOf, OfSegments, Tells}
use Rattle.ix_net_trees.specs.Told.{TellsOfNet}

-- what holds of all of a list holds of what stands at a place
all_at : {A : Type 0} (P : A → Type 0) (xs : List A) (k : ℕ) (x : A) → AllByRecursion P xs
    → slice_get xs k ≡ Some x → P x
all_at P [] k x all is = absurd (none-some x is)
all_at P (y ∷ ys) zero x all is = subst P (same_Some y x is) all.0
all_at P (y ∷ ys) (suc k) x all is = all_at P ys k x all.1 is

-- there is something at each place of a list
pub item_at : {A : Type 0} (xs : List A) (k : ℕ) → k < length xs
    → (x : A) × (slice_get xs k ≡ Some x)
item_at [] k few = absurd (omega (arith, few))
item_at (x ∷ xs) zero few = (x, refl)
item_at (x ∷ xs) (suc k) few = item_at xs k (omega (arith, few))

-- a net has few segments
pub few_segments : (phys : Phys) (n : ℕ) (net : PhysNet) → IsSmall phys
    → slice_get phys.nets n ≡ Some net → length (segments net) < 2 ^ 32
few_segments phys n net small is =
    let both : IsShort net.sources × IsShort net.stubs =
    all_at (λ (t : PhysNet). IsShort t.sources × IsShort t.stubs) phys.nets n net small.segments is
    in
    let a : length net.sources ≤ most_entries = both.0 in
    let b : length net.stubs ≤ most_entries = both.1 in
    let sum = length-append net.sources net.stubs in
    omega (arith, a, b, sum)

-- What is told of a net of a list is told of the net at its place.
pub told_at : (nets : List PhysNet) (n : ℕ) (net : PhysNet)
    (Asked : PhysNet → SegmentNumber → Type 0) → slice_get nets n ≡ Some net
    → (found : Option SegmentNumber) → TellsOfNet (Asked net) found
    → TellsOfNet (λ k. AskedOf nets n (λ other. Asked other k)) found
told_at nets n net Asked is None told = λ k.
    subst (λ o. IfSome o (λ other. Asked other k)) (sym is) (told k)
told_at nets n net Asked is (Some k) told = (
  λ j lt. subst (λ o. IfSome o (λ other. Asked other j)) (sym is) (told.0 j lt),
  λ asked. told.1 (asked_at nets n (λ other. Asked other k) net is asked),
)

module _ (phys : Phys) (AskedAt : NetNumber → PhysNet → SegmentNumber → Type 0) where
  -- one net more
  pub net_kept : (n : ℕ) → n < length phys.nets → AreKept phys (λ m other. Unit {0}) AskedAt n
      → TellsOfNet (λ k. AskedOf phys.nets n (λ net. AskedAt n net k)) None
      → AreKept phys (λ m other. Unit {0}) AskedAt (n + 1)
  net_kept n few kept each =
      let net = item_at phys.nets n few in
      let e : suc n ≡ n + 1 = omega arith in
      subst (AreKept phys (λ m other. Unit {0}) AskedAt) e
      (one_more_kept phys (λ m other. Unit {0}) AskedAt n net.0 net.1 kept tt
      (λ k. asked_at phys.nets n (λ other. AskedAt n other k) net.0 net.1 (each k)))

  -- all nets
  pub nets_kept : (count : ℕ) → count ≡ length phys.nets
      → AreKept phys (λ m other. Unit {0}) AskedAt count
      → Tells (OfSegments phys AskedAt) None
  nets_kept count all kept = all_kept phys (λ m other. Unit {0}) AskedAt
      (subst (AreKept phys (λ m other. Unit {0}) AskedAt) all kept)

  -- a segment that doesn't keep the rule
  pub net_broken : (n : ℕ) (k : ℕ) → n < length phys.nets
      → AreKept phys (λ m other. Unit {0}) AskedAt n
      → TellsOfNet (λ j. AskedOf phys.nets n (λ net. AskedAt n net j)) (Some k)
      → Tells (OfSegments phys AskedAt) (Some (SegmentAt n k))
  net_broken n k few kept told =
      let net = item_at phys.nets n few in
      broken_segment phys (λ m other. Unit {0}) AskedAt n net.0 k net.1 kept tt
      (λ j lt. asked_at phys.nets n (λ other. AskedAt n other j) net.0 net.1 (told.0 j lt))
      (λ asked. told.1 (subst (λ o. IfSome o (λ other. AskedAt n other k)) (sym net.1) asked))
