-- Which net holds a wire.
use Rattle.std.proofs.Common.{◌≡◌, ◌∙◌, refl, ap, sym, subst, ℕ, arith, inl, inr}
use Rattle.std.proofs.Common.{List, slice_get, Option, Some, None, option_map}
use Rattle.std.proofs.Common.{option_and_then}
use Rattle.std.proofs.lemmas.Option.{none-some, same_Some, slice_get_within}
use Rattle.ix_num.specs.declared.resource.NetRef.{NetRef}
use Rattle.ix_num.specs.declared.resource.Res.{Res}
use Rattle.ix_num.specs.declared.resource.Res.TheVariants.{Wire}
use Rattle.ix_rec.specs.declared.device.DeviceRec.{DeviceRec}
use Rattle.ix_rec.specs.declared.phys.Phys.{Phys}
use Rattle.ix_rec.specs.declared.phys.PhysNet.{PhysNet}
use Rattle.ix_rec.specs.declared.phys.Segment.{Segment}
use Rattle.ix_device.proofs.NumberedLemmas.{there_is}
use Rattle.ix_graph.specs.Ends.{ends}
use Rattle.ix_legal.specs.Segments.{NetNumber, SegmentNumber, segments, segment_at, IsEnd}
use Rattle.ix_legal.specs.Segments.{in_end_of}
use Rattle.ix_legal.specs.Holders.{HasEnd, Holds, HoldsByWiring, as_holder}
use Rattle.ix_ends.specs.declared.pair.Pair.{Pair}
use Rattle.ix_ends.specs.Ends.{EndsSeen, ResNumber, IsNumbered, AreEnds, HasNumbers, number_of}
use Rattle.ix_ends.specs.Ends.{IsThere}
use Rattle.ix_ends.proofs.Items.{mapped, chained}
use Rattle.ix_holders.specs.Holders.{AreHolders, IsFirst}
use Rattle.ix_placed_luts.specs.Tied.{HaveOneHolder}
use Rattle.ix_placed_luts.proofs.Holding.{is_numbered}
use Rattle.ix_extract.specs.Taken.{TellsHolder}

module _ (rec : DeviceRec) (phys : Phys) (seen : EndsSeen) (are : AreEnds rec phys seen) where
  -- what a net has as an end has a number
  numbered : (n : NetNumber) (net : PhysNet) (r : Res) → slice_get phys.nets n ≡ Some net
      → HasEnd rec net r → (number : ResNumber) × IsNumbered rec seen r number
  numbered n net r is has = by has.1
    where
      of_segment : (k : SegmentNumber) (s : Segment) → segment_at net k ≡ Some s
          → (pair : Pair) × HasNumbers rec seen s pair
      of_segment k s at =
          let rows = are.all in
          let row = there_is seen.rows n
          (omega (arith, rows, slice_get_within phys.nets n net is)) in
          let row_is = are.each n net row.0 is row.1 in
          let branch = mapped (λ b. b.item) (slice_get (segments net) k) s at in
          let pairs = row_is.all in
          let pair = there_is row.0 k
          (omega (arith, pairs, slice_get_within (segments net) k branch.0 branch.1)) in
          (pair.0, row_is.each k s pair.0 at pair.1)

      by : IsEnd rec net has.0 r → (number : ResNumber) × IsNumbered rec seen r number
      by (inl h) =
          let segment = chained (in_end_of rec) (segment_at net has.0) r h in
          let pair = of_segment has.0 segment.0 segment.1 in
          let end : pair.1.from ≡ r = same_Some pair.1.from r
          (sym (ap (option_map (λ (e : Res × Res). e.0)) pair.1.ends_are) ∙ segment.2) in
          (pair.0.from, subst (λ x. IsNumbered rec seen x pair.0.from) end pair.1.from_is)
      by (inr h) =
          let both = mapped (λ (e : Res × Res). e.1)
          (option_and_then (ends rec) (segment_at net has.0)) r h in
          let segment = chained (ends rec) (segment_at net has.0) both.0 both.1 in
          let pair = of_segment has.0 segment.0 segment.1 in
          let end : pair.1.to ≡ r = same_Some pair.1.to r
          (sym (ap (option_map (λ (e : Res × Res). e.1)) pair.1.ends_are)
          ∙ ap (option_map (λ (e : Res × Res). e.1)) segment.2 ∙ ap Some both.2) in
          (pair.0.to, subst (λ x. IsNumbered rec seen x pair.0.to) end pair.1.to_is)

  module _ (site wire : ℕ) where
    abbrev here : Res
    here = Wire site wire

    by_wiring : (holder : NetRef) → Holds rec phys.nets here holder
        → HoldsByWiring rec phys.nets here holder
    by_wiring holder (inl h) = h
    by_wiring holder (inr h) = absurd (none-some holder h)

    -- a wire that no net has
    told_none : ((n : NetNumber) (net : PhysNet) → slice_get phys.nets n ≡ Some net
        → HasEnd rec net here → ⊥) → TellsHolder rec phys.nets site wire None
    told_none none = λ holder. (
      λ e. absurd (none-some holder e),
      λ h. let w = by_wiring holder h in absurd (none w.number w.net w.net_is w.has_end),
    )

    -- a wire without a number
    pub told_without_number : number_of seen here ≡ None → TellsHolder rec phys.nets site wire None
    told_without_number none = told_none (λ n net is has.
        let number = numbered n net here is has in
        none-some number.0 (sym none ∙ number.1.number_is))

    -- with one, by the table of holders
    module _ (firsts : List (Option NetNumber)) (holders_are : AreHolders rec phys seen firsts)
        (there : IsThere rec (Wire site wire)) (number : ResNumber)
        (number_is : number_of seen (Wire site wire) ≡ Some number) where
      first_is : (first : Option NetNumber) → slice_get firsts number ≡ Some first
          → IsFirst rec phys.nets (Wire site wire) first
      first_is first at = holders_are.each (Wire site wire) number first
          (is_numbered rec phys seen are site wire there number number_is) at

      pub told_without_first : slice_get firsts number ≡ Some None
          → TellsHolder rec phys.nets site wire None
      told_without_first at = told_none (first_is None at)

      pub told_by_first : HaveOneHolder rec phys.nets → (n : NetNumber)
          → slice_get firsts number ≡ Some (Some n) → (told : NetRef)
          → ((net : PhysNet) → slice_get phys.nets n ≡ Some net
          → told ≡ as_holder phys.nets n net.ty)
          → TellsHolder rec phys.nets site wire (Some told)
      told_by_first one_holder n at told is =
          let first = first_is (Some n) at in
          let own : Holds rec phys.nets here (as_holder phys.nets n first.net.ty) = inl record {
            number = n;
            net = first.net;
            net_is = first.net_is;
            holder_is = refl;
            has_end = first.has;
          } in
          let told_is : told ≡ as_holder phys.nets n first.net.ty = is first.net first.net_is in
          λ holder. (
            λ e. subst (Holds rec phys.nets here) (sym told_is ∙ same_Some told holder e) own,
            λ h. ap Some (told_is ∙ one_holder site wire (as_holder phys.nets n first.net.ty)
                holder own h),
          )
