-- What holds a wire of a site.
use Rattle.std.proofs.Common.{◌≡◌, ◌<◌, ◌+◌, ◌∙◌, refl, ap, sym, subst, ℕ, arith, inl, inr}
use Rattle.std.proofs.Common.{List, length, slice_get, Option, Some, None, option_map}
use Rattle.std.proofs.Common.{option_and_then, Bool, true, false, true≢false, IfSome}
use Rattle.std.proofs.lemmas.Option.{none-some, same_Some, slice_get_within}
use Rattle.ix_num.specs.declared.resource.NetRef.{NetRef}
use Rattle.ix_num.specs.declared.resource.NetRef.TheVariants as holders
use Rattle.ix_num.specs.declared.resource.Res.{Res}
use Rattle.ix_num.specs.declared.resource.Res.TheVariants.{Wire}
use Rattle.ix_rec.specs.declared.device.DeviceRec.{DeviceRec}
use Rattle.ix_rec.specs.declared.phys.Phys.{Phys}
use Rattle.ix_rec.specs.declared.phys.PhysNet.{PhysNet}
use Rattle.ix_rec.specs.declared.phys.NetType.{NetType}
use Rattle.ix_rec.specs.declared.phys.Segment.{Segment}
use Rattle.ix_rec.specs.declared.phys.NetType.TheVariants.{Signal, Gnd, Vcc}
use Rattle.ix_device.proofs.NumberedLemmas.{there_is}
use Rattle.ix_graph.specs.Ends.{ends}
use Rattle.ix_lut.specs.declared.shape.Tie.{Tie}
use Rattle.ix_lut.specs.declared.shape.Tie.TheVariants as ties
use Rattle.ix_legal.specs.declared.level.Level.{Level}
use Rattle.ix_legal.specs.declared.level.Level.TheVariants.{Placed, Routed}
use Rattle.ix_legal.specs.Segments.{NetNumber, SegmentNumber, segments, segment_at, IsEnd}
use Rattle.ix_legal.specs.Segments.{in_end_of}
use Rattle.ix_legal.specs.Holders.{HasEnd, Holds, HoldsByWiring, as_holder}
use Rattle.ix_legal.specs.LutTables.{IsHeld}
use Rattle.ix_legal.specs.Sharing.{Counts, IsUnshared}
use Rattle.ix_legal.specs.Spots.{Everywhere}
use Rattle.ix_legal.specs.Laws.{HoldersAreOne}
use Rattle.ix_ends.specs.declared.pair.Pair.{Pair}
use Rattle.ix_ends.specs.Ends.{EndsSeen, ResNumber, IsNumbered, AreEnds, HasNumbers, number_of}
use Rattle.ix_ends.specs.Ends.{IsThere}
use Rattle.ix_ends.proofs.Items.{mapped, chained}
use Rattle.ix_holders.specs.Holders.{AreHolders, IsFirst}
use Rattle.ix_placed_luts.specs.Tied.{tie_of_type, HaveOneHolder}

-- What tells a tie from another.

abbrev is_gnd : Tie → Bool
is_gnd ties.Gnd = true
is_gnd tie = false

abbrev is_vcc : Tie → Bool
is_vcc ties.Vcc = true
is_vcc tie = false

-- and a holder
abbrev is_signal : NetRef → Bool
is_signal (holders.Signal n) = true
is_signal holder = false

abbrev holds_gnd : NetRef → Bool
holds_gnd holders.Gnd = true
holds_gnd holder = false

-- One thing that is held so is held in one way.
pub one_tie : (rec : DeviceRec) (nets : List PhysNet) (wire : Res) (one other : Tie)
    → IsHeld rec nets wire one → IsHeld rec nets wire other → one ≡ other
one_tie rec nets wire ties.Gnd other held also = sym (also.gnd.1 (held.gnd.0 refl))
one_tie rec nets wire ties.Vcc other held also = sym (also.vcc.1 (held.vcc.0 refl))
one_tie rec nets wire ties.Free ties.Gnd held also = held.gnd.1 (also.gnd.0 refl)
one_tie rec nets wire ties.Free ties.Vcc held also = held.vcc.1 (also.vcc.0 refl)
one_tie rec nets wire ties.Free ties.Free held also = refl

-- Wires count at either level, so where nothing is shared no wire has two holders.
wires_count : (level : Level) (rec : DeviceRec) (phys : Phys) (site wire : ℕ)
    → Counts level rec phys (Wire site wire)
wires_count Placed rec phys site wire = tt
wires_count Routed rec phys site wire = tt

pub have_one_holder : (level : Level) (rec : DeviceRec) (phys : Phys)
    → Everywhere (IsUnshared level rec phys) → HoldersAreOne → HaveOneHolder rec phys.nets
have_one_holder level rec phys unshared law site wire =
    (law level rec phys unshared (Wire site wire) (wires_count level rec phys site wire)).one_holder

module _ (rec : DeviceRec) (phys : Phys) (seen : EndsSeen) (are : AreEnds rec phys seen) where
  -- what a net has as an end has a number
  numbered : (n : NetNumber) (net : PhysNet) (r : Res) → slice_get phys.nets n ≡ Some net
      → HasEnd rec net r → (number : ResNumber) × IsNumbered rec seen r number
  numbered n net r is has = by has.1
    where
      of_segment : (k : SegmentNumber) (s : Segment) → segment_at net k ≡ Some s
          → (pair : Pair) × HasNumbers rec seen s pair
      of_segment k s at =
          let rows = are.all in
          let row = there_is seen.rows n
          (omega (arith, rows, slice_get_within phys.nets n net is)) in
          let row_is = are.each n net row.0 is row.1 in
          let branch = mapped (λ b. b.item) (slice_get (segments net) k) s at in
          let pairs = row_is.all in
          let pair = there_is row.0 k
          (omega (arith, pairs, slice_get_within (segments net) k branch.0 branch.1)) in
          (pair.0, row_is.each k s pair.0 at pair.1)

      by : IsEnd rec net has.0 r → (number : ResNumber) × IsNumbered rec seen r number
      by (inl h) =
          let segment = chained (in_end_of rec) (segment_at net has.0) r h in
          let pair = of_segment has.0 segment.0 segment.1 in
          let end : pair.1.from ≡ r = same_Some pair.1.from r
          (sym (ap (option_map (λ (e : Res × Res). e.0)) pair.1.ends_are) ∙ segment.2) in
          (pair.0.from, subst (λ x. IsNumbered rec seen x pair.0.from) end pair.1.from_is)
      by (inr h) =
          let both = mapped (λ (e : Res × Res). e.1)
          (option_and_then (ends rec) (segment_at net has.0)) r h in
          let segment = chained (ends rec) (segment_at net has.0) both.0 both.1 in
          let pair = of_segment has.0 segment.0 segment.1 in
          let end : pair.1.to ≡ r = same_Some pair.1.to r
          (sym (ap (option_map (λ (e : Res × Res). e.1)) pair.1.ends_are)
          ∙ ap (option_map (λ (e : Res × Res). e.1)) segment.2 ∙ ap Some both.2) in
          (pair.0.to, subst (λ x. IsNumbered rec seen x pair.0.to) end pair.1.to_is)

  -- the number of a wire that is there
  module _ (site wire : ℕ) (there : IsThere rec (Wire site wire)) where
    number_below : (number : ResNumber) → number_of seen (Wire site wire) ≡ Some number
        → number < seen.count
    number_below number is =
        let base = mapped (λ base. base + wire)
        (option_and_then (λ base. base) (slice_get seen.bases site)) number is in
        let at = chained (λ (base : Option ℕ). base) (slice_get seen.bases site) base.0 base.1 in
        let below : base.0 + wire < seen.count = are.sites_are site base.0 wire
        (at.1 ∙ ap Some at.2) there in
        let same : base.0 + wire ≡ number = base.2 in
        omega (arith, below, same)

    pub number_within : IfSome (number_of seen (Wire site wire)) (λ i. i < seen.count)
    number_within = by (number_of seen (Wire site wire)) refl
      where
        by : (o : Option ResNumber) → number_of seen (Wire site wire) ≡ o
            → IfSome o (λ i. i < seen.count)
        by None is = tt
        by (Some number) is = number_below number is

    pub is_numbered : (number : ResNumber) → number_of seen (Wire site wire) ≡ Some number
        → IsNumbered rec seen (Wire site wire) number
    is_numbered number is =
        record { there = there; number_is = is; within = number_below number is }

  module _ (site wire : ℕ) where
    abbrev here : Res
    here = Wire site wire

    by_wiring : (holder : NetRef) → Holds rec phys.nets here holder
        → HoldsByWiring rec phys.nets here holder
    by_wiring holder (inl h) = h
    by_wiring holder (inr h) = absurd (none-some holder h)

    -- a wire that no net has
    pub held_by_none : ((n : NetNumber) (net : PhysNet) → slice_get phys.nets n ≡ Some net
        → HasEnd rec net here → ⊥) → IsHeld rec phys.nets here ties.Free
    held_by_none none = record {
      gnd = (λ e. absurd (true≢false (sym (ap is_gnd e))), λ h. absurd (refuted holders.Gnd h));
      vcc = (λ e. absurd (true≢false (sym (ap is_vcc e))), λ h. absurd (refuted holders.Vcc h));
    }
      where
        refuted : (holder : NetRef) → Holds rec phys.nets here holder → ⊥
        refuted holder h =
            let w = by_wiring holder h in none w.number w.net w.net_is w.has_end

    -- a wire without a number
    pub held_by_no_number : number_of seen here ≡ None → IsHeld rec phys.nets here ties.Free
    held_by_no_number none = held_by_none (λ n net is has.
        let number = numbered n net here is has in
        none-some number.0 (sym none ∙ number.1.number_is))

    -- a wire that a net has
    module _ (one_holder : HaveOneHolder rec phys.nets) (n : NetNumber) (net : PhysNet)
        (is : slice_get phys.nets n ≡ Some net) (has : HasEnd rec net here) where
      holder_is : (holder : NetRef) → Holds rec phys.nets here holder
          → as_holder phys.nets n net.ty ≡ holder
      holder_is holder h = one_holder site wire (as_holder phys.nets n net.ty) holder
          (inl record { number = n; net = net; net_is = is; holder_is = refl; has_end = has }) h

      held : (ty : NetType) → net.ty ≡ ty → IsHeld rec phys.nets here (tie_of_type ty)
      held ty of = by ty (λ u. inl record {
        number = n;
        net = net;
        net_is = is;
        holder_is = ap (as_holder phys.nets n) of;
        has_end = has;
      }) (λ holder h. ap (as_holder phys.nets n) (sym of) ∙ holder_is holder h)
        where
          by : (ty : NetType) → ((u : Unit {0}) → Holds rec phys.nets here (as_holder phys.nets n ty))
              → ((holder : NetRef) → Holds rec phys.nets here holder
              → as_holder phys.nets n ty ≡ holder) → IsHeld rec phys.nets here (tie_of_type ty)
          by Signal own one = record {
            gnd = (
              λ e. absurd (true≢false (sym (ap is_gnd e))),
              λ h. absurd (true≢false (ap is_signal (one holders.Gnd h))),
            );
            vcc = (
              λ e. absurd (true≢false (sym (ap is_vcc e))),
              λ h. absurd (true≢false (ap is_signal (one holders.Vcc h))),
            );
          }
          by Gnd own one = record {
            gnd = (λ e. own tt, λ h. refl);
            vcc = (
              λ e. absurd (true≢false (ap is_gnd e)),
              λ h. absurd (true≢false (ap holds_gnd (one holders.Vcc h))),
            );
          }
          by Vcc own one = record {
            gnd = (
              λ e. absurd (true≢false (ap is_vcc e)),
              λ h. absurd (true≢false (sym (ap holds_gnd (one holders.Gnd h)))),
            );
            vcc = (λ e. own tt, λ h. refl);
          }

      pub held_by_net : IsHeld rec phys.nets here (tie_of_type net.ty)
      held_by_net = held net.ty refl

-- Of the table of holders.
module _ (rec : DeviceRec) (phys : Phys) (seen : EndsSeen) (are : AreEnds rec phys seen)
    (firsts : List (Option NetNumber)) (holders_are : AreHolders rec phys seen firsts)
    (site wire : ℕ) (there : IsThere rec (Wire site wire)) (number : ResNumber)
    (number_is : number_of seen (Wire site wire) ≡ Some number) where
  pub number_listed : number < length firsts
  number_listed =
      let all = holders_are.all in
      let below = number_below rec phys seen are site wire there number number_is in
      omega (arith, all, below)

  first_is : (first : Option NetNumber) → slice_get firsts number ≡ Some first
      → IsFirst rec phys.nets (Wire site wire) first
  first_is first at = holders_are.each (Wire site wire) number first
      (is_numbered rec phys seen are site wire there number number_is) at

  pub net_listed : (n : NetNumber) → slice_get firsts number ≡ Some (Some n)
      → n < length phys.nets
  net_listed n at = let first = first_is (Some n) at in
      slice_get_within phys.nets n first.net first.net_is

  pub held_by_no_first : slice_get firsts number ≡ Some None
      → IsHeld rec phys.nets (Wire site wire) ties.Free
  held_by_no_first at = held_by_none rec phys seen are site wire (first_is None at)

  pub held_by_first : HaveOneHolder rec phys.nets → (n : NetNumber)
      → slice_get firsts number ≡ Some (Some n) → (net : PhysNet)
      → slice_get phys.nets n ≡ Some net
      → IsHeld rec phys.nets (Wire site wire) (tie_of_type net.ty)
  held_by_first one_holder n at net is =
      let first = first_is (Some n) at in
      held_by_net rec phys seen are site wire one_holder n net is
      (subst (λ (other : PhysNet). HasEnd rec other (Wire site wire))
      (same_Some first.net net (sym first.net_is ∙ is)) first.has)
