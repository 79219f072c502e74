-- One segment more of a net, and what it meets (L6).
use Rattle.std.proofs.Common.{◌≡◌, ◌≢◌, ◌⊎◌, ◌<◌, ◌≤◌, ◌+◌, ◌↔◌, ◌∙◌, ap, sym, subst, refl, ℕ, List}
use Rattle.std.proofs.Common.{inl, inr, Bool, true, false, ◌&&◌, arith}
use Rattle.std.specs.Prelude.{length, slice_index, Option, Some, None, if◌then◌else◌}
use Rattle.std.specs.Prelude.{not, option_and_then}
use Rattle.std.proofs.lemmas.Bool.{cases_lt, cases_eq, false≢true}
use Rattle.std.proofs.lemmas.Option.{none-some, same_Some}
use Rattle.ix_num.specs.declared.resource.Res.{Res}
use Rattle.ix_rec.specs.declared.device.DeviceRec.{DeviceRec}
use Rattle.ix_rec.specs.declared.forest.Branch.{Branch}
use Rattle.ix_rec.specs.declared.phys.Phys.{Phys}
use Rattle.ix_rec.specs.declared.phys.PhysNet.{PhysNet}
use Rattle.ix_rec.specs.declared.phys.Segment.{Segment}
use Rattle.ix_graph.specs.Graph.{graph_of}
use Rattle.ix_legal.specs.Holders.{constant_of_net, constant_of}
use Rattle.ix_legal.specs.Segments.{segments, segment_at, in_end, entered_by, Enters, entered}
use Rattle.ix_legal.specs.Segments.{IsSourceRoot, out_end, in_end_of}
use Rattle.ix_legal.specs.Trees.{EntersAlone}
use Rattle.ix_ends.specs.declared.pair.Pair.{Pair}
use Rattle.ix_ends.specs.Ends.{EndsSeen, AreEnds, IsNumbered}
use Rattle.ix_ends.specs.Laws.{GraphHasConstants}
use Rattle.ix_net_trees.specs.Constants.{IsOfConstant}
use Rattle.ix_net_trees.specs.declared.apart.Met.{Met}
use Rattle.ix_net_trees.specs.Seen.{AreMarked, IsEntered, IsBegun}
use Rattle.ix_net_trees.specs.Met.{IsMet, IsUnmet}
use Rattle.ix_net_trees.proofs.Numbers.{Stands, in_is, entered_is, one_number, no_segment}
use Rattle.ix_net_trees.proofs.Marking.{with_mark, with_mark_many, marked_more}
use Rattle.ix_net_trees.proofs.NodeConstants.{constant_at}

module _ (rec : DeviceRec) (phys : Phys) (seen : EndsSeen) (net : PhysNet) where
  -- a segment, whether it is a source root, and whether it enters what it ends at
  pub record IsStep (k : ℕ) (b : Branch Segment) (pair : Pair) (is_root enters : Bool) : Type 0
    where
      pub stands : Stands rec seen net k b pair
      pub root_is : (is_root ≡ true) ↔ IsSourceRoot net k
      pub enters_is : (r : Option Res) → entered_by b.item.kind r ≡ (if enters then r else None)

  module _ (E : AreEnds rec phys seen) (law : GraphHasConstants) (k : ℕ) (b : Branch Segment) (pair
      : Pair)
      (is_root enters : Bool) (S : IsStep k b pair is_root enters) where
    from : Res
    from = S.stands.numbers.from

    to : Res
    to = S.stands.numbers.to

    -- what the segment enters
    enters_to : enters ≡ true → Enters rec net k S.stands.numbers.to
    enters_to does = entered_is rec seen net k b pair S.stands
        ∙ (S.enters_is (Some S.stands.numbers.to)
        ∙ ap (λ (f : Bool). if f then Some S.stands.numbers.to else None) does)

    only_to : (r : Res) → Enters rec net k r → (enters ≡ true) × (S.stands.numbers.to ≡ r)
    only_to r h = by enters refl
      where
        is : (if enters then Some S.stands.numbers.to else None) ≡ Some r
        is = sym (entered_is rec seen net k b pair S.stands
            ∙ S.enters_is (Some S.stands.numbers.to)) ∙ h

        by : (f : Bool) → enters ≡ f → (enters ≡ true) × (S.stands.numbers.to ≡ r)
        by true e = (
          e,
          same_Some S.stands.numbers.to r
              (sym (ap (λ (f : Bool). if f then Some S.stands.numbers.to else None) e) ∙ is),
        )
        by false e = absurd (none-some r
            (sym (ap (λ (f : Bool). if f then Some S.stands.numbers.to else None) e) ∙ is))

    -- marks with this segment
    pub entered_more : (marks : List ℕ) (mark : ℕ) → pair.to < length marks
        → AreMarked marks mark (IsEntered rec seen net k)
        → AreMarked (with_mark enters marks pair.to mark) mark (IsEntered rec seen net (k + 1))
    entered_more marks mark few M = marked_more (IsEntered rec seen net k)
        (IsEntered rec seen net (k + 1)) enters marks pair.to mark M few
        (λ i h. let lt : h.place < k = h.before in record {
          resource = h.resource;
          number_is = h.number_is;
          place = h.place;
          before = omega (arith, lt);
          enters = h.enters;
        })
        (λ does. record {
          resource = S.stands.numbers.to;
          number_is = S.stands.numbers.to_is;
          place = k;
          before = omega arith;
          enters = enters_to does;
        })
        (λ i h. elim (cases_lt h.place k) [
          | inl lt ↦ inl (record {
            resource = h.resource;
            number_is = h.number_is;
            place = h.place;
            before = lt;
            enters = h.enters;
          })
          | inr ge ↦
              let before : h.place < k + 1 = h.before in
              let same : h.place ≡ k = omega (arith, before, ge) in
              let only = only_to h.resource
              (subst (λ j. Enters rec net j h.resource) same h.enters) in
              inr (
                only.0,
                one_number rec seen h.resource i pair.to h.number_is
                    (subst (λ r. IsNumbered rec seen r pair.to) only.1 S.stands.numbers.to_is),
              )
        ])

    pub begun_more : (marks : List ℕ) (mark : ℕ) → pair.from < length marks
        → AreMarked marks mark (IsBegun rec seen net k)
        → AreMarked (with_mark is_root marks pair.from mark) mark (IsBegun rec seen net (k + 1))
    begun_more marks mark few M = marked_more (IsBegun rec seen net k)
        (IsBegun rec seen net (k + 1)) is_root marks pair.from mark M few
        (λ i h. let lt : h.place < k = h.before in record {
          resource = h.resource;
          number_is = h.number_is;
          place = h.place;
          before = omega (arith, lt);
          is_root = h.is_root;
          in_is = h.in_is;
        })
        (λ does. record {
          resource = S.stands.numbers.from;
          number_is = S.stands.numbers.from_is;
          place = k;
          before = omega arith;
          is_root = S.root_is.0 does;
          in_is = in_is rec seen net k b pair S.stands;
        })
        (λ i h. elim (cases_lt h.place k) [
          | inl lt ↦ inl (record {
            resource = h.resource;
            number_is = h.number_is;
            place = h.place;
            before = lt;
            is_root = h.is_root;
            in_is = h.in_is;
          })
          | inr ge ↦
              let before : h.place < k + 1 = h.before in
              let same : h.place ≡ k = omega (arith, before, ge) in
              let r_is : S.stands.numbers.from ≡ h.resource =
              same_Some S.stands.numbers.from h.resource
              (sym (in_is rec seen net k b pair S.stands)
              ∙ (ap (in_end rec net) (sym same) ∙ h.in_is)) in
              inr (
                S.root_is.1 (subst (IsSourceRoot net) same h.is_root),
                one_number rec seen h.resource i pair.from h.number_is
                    (subst (λ r. IsNumbered rec seen r pair.from) r_is S.stands.numbers.from_is),
              )
        ])

    module _ (entered begun : List ℕ) (mark : ℕ)
        (M : AreMarked entered mark (IsEntered rec seen net k))
        (B : AreMarked begun mark (IsBegun rec seen net (k + 1))) where
      -- a segment that meets nothing keeps the rule
      pub keeps : (is_root ≡ true → slice_index entered pair.from ≢ mark)
          → (enters ≡ true → (slice_index entered pair.to ≢ mark)
          × (slice_index begun pair.to ≢ mark))
          → (enters ≡ true
          → IsOfConstant (graph_of rec) seen pair.to (constant_of_net net.ty) → ⊥)
          → EntersAlone rec net k
      keeps begins goes free = record {
        once = λ r earlier E1 lt E2.
            let only = only_to r E1 in
            (goes only.0).0 ((M.each pair.to).1 (record {
              resource = r;
              number_is = subst (λ t. IsNumbered rec seen t pair.to) only.1
                  S.stands.numbers.to_is;
              place = earlier;
              before = lt;
              enters = E2;
            }));
        no_root = λ r root E1 le is_root in_end_is.
            let only = only_to r E1 in
            (goes only.0).1 ((B.each pair.to).1 (record {
              resource = r;
              number_is = subst (λ t. IsNumbered rec seen t pair.to) only.1
                  S.stands.numbers.to_is;
              place = root;
              before = omega (arith, le);
              is_root = is_root;
              in_is = in_end_is;
            }));
        as_root = λ r earlier root in_end_is lt E2.
            begins (S.root_is.1 root) ((M.each pair.from).1 (record {
              resource = r;
              number_is = subst (λ t. IsNumbered rec seen t pair.from)
                  (same_Some S.stands.numbers.from r
                  (sym (in_is rec seen net k b pair S.stands) ∙ in_end_is))
                  S.stands.numbers.from_is;
              place = earlier;
              before = lt;
              enters = E2;
            }));
        no_constant = λ r c E1 of_net carries.
            let only = only_to r E1 in
            let at = (constant_at rec phys seen E law S.stands.numbers.to pair.to c
            S.stands.numbers.to_is).0 (ap (constant_of rec) only.1 ∙ carries) in
            free only.0 (record {
              constant = c;
              constant_is = of_net;
              of_it = at;
            });
      }

      -- and one that meets something breaks it
      pub begins_late : is_root ≡ true → slice_index entered pair.from ≡ mark
          → EntersAlone rec net k → ⊥
      begins_late does h A =
          let w = (M.each pair.from).0 h in
          let same = E.apart S.stands.numbers.from w.resource pair.from S.stands.numbers.from_is
          w.number_is in
          A.as_root w.resource w.place (S.root_is.0 does)
          (in_is rec seen net k b pair S.stands ∙ ap Some same) w.before w.enters

      pub enters_again : enters ≡ true → slice_index entered pair.to ≡ mark
          → EntersAlone rec net k → ⊥
      enters_again does h A =
          let w = (M.each pair.to).0 h in
          let same = E.apart S.stands.numbers.to w.resource pair.to S.stands.numbers.to_is
          w.number_is in
          A.once w.resource w.place (enters_to does ∙ ap Some same) w.before w.enters

      pub enters_root : enters ≡ true → slice_index begun pair.to ≡ mark
          → EntersAlone rec net k → ⊥
      enters_root does h A =
          let w = (B.each pair.to).0 h in
          let same = E.apart S.stands.numbers.to w.resource pair.to S.stands.numbers.to_is
          w.number_is in
          let lt : w.place < k + 1 = w.before in
          A.no_root w.resource w.place (enters_to does ∙ ap Some same) (omega (arith, lt)) w.is_root
          w.in_is

      pub enters_constant : enters ≡ true
          → IsOfConstant (graph_of rec) seen pair.to (constant_of_net net.ty)
          → EntersAlone rec net k → ⊥
      enters_constant does h A = A.no_constant S.stands.numbers.to h.constant (enters_to does)
          h.constant_is ((constant_at rec phys seen E law S.stands.numbers.to pair.to h.constant
          S.stands.numbers.to_is).1 h.of_it)

-- What a turn of the loop does with a segment, and what it tells.
pub record IsTurn (rec : DeviceRec) (seen : EndsSeen) (net : PhysNet) (pair : Pair)
    (is_root enters : Bool) (mark : ℕ) (before mid after : Met) (begins goes of_constant : Bool)
    : Type 0 where
  pub begins_is : (begins ≡ true) ↔ (is_root ≡ true → slice_index before.entered pair.from ≢ mark)
  pub mid_entered : mid.entered ≡ before.entered
  pub mid_begun : mid.begun ≡ with_mark is_root before.begun pair.from mark
  pub goes_is : (goes ≡ true) ↔ (enters ≡ true → (slice_index mid.entered pair.to ≢ mark)
      × (slice_index mid.begun pair.to ≢ mark))
  pub after_entered : after.entered ≡ with_mark enters mid.entered pair.to mark
  pub after_begun : after.begun ≡ mid.begun
  pub constant_is : (of_constant ≡ true) ↔ ((enters ≡ true)
      × IsOfConstant (graph_of rec) seen pair.to (constant_of_net net.ty))

module _ (rec : DeviceRec) (phys : Phys) (seen : EndsSeen) (net : PhysNet)
    (E : AreEnds rec phys seen) (law : GraphHasConstants) (k : ℕ) (b : Branch Segment) (pair : Pair)
    (is_root enters : Bool)
    (S : IsStep rec phys seen net k b pair is_root enters) (mark : ℕ) (before mid after : Met)
    (begins goes of_constant : Bool) (M : IsMet rec seen net mark k before)
    (T : IsTurn rec seen net pair is_root enters mark before mid after begins goes of_constant)
  where
    from_few : pair.from < length before.begun
    from_few = let few : pair.from < seen.count = S.stands.numbers.from_is.within in
        let many : length before.begun ≡ seen.count = M.whole.begun in omega (arith, few, many)

    to_few : pair.to < length before.entered
    to_few = let few : pair.to < seen.count = S.stands.numbers.to_is.within in
        let many : length before.entered ≡ seen.count = M.whole.entered in omega (arith, few, many)

    mid_begun : AreMarked mid.begun mark (IsBegun rec seen net (k + 1))
    mid_begun = subst (λ ms. AreMarked ms mark (IsBegun rec seen net (k + 1))) (sym T.mid_begun)
        (begun_more rec phys seen net E law k b pair is_root enters S before.begun mark from_few
        M.begun)

    mid_entered : AreMarked mid.entered mark (IsEntered rec seen net k)
    mid_entered = subst (λ ms. AreMarked ms mark (IsEntered rec seen net k)) (sym T.mid_entered)
        M.entered

    pub turn_met : IsMet rec seen net mark (k + 1) after
    turn_met = record {
      whole = record {
        entered = ap length T.after_entered ∙ (with_mark_many enters mid.entered pair.to mark
            ∙ (ap length T.mid_entered ∙ M.whole.entered));
        begun = ap length T.after_begun ∙ (ap length T.mid_begun
            ∙ (with_mark_many is_root before.begun pair.from mark ∙ M.whole.begun));
      };
      entered = subst (λ ms. AreMarked ms mark (IsEntered rec seen net (k + 1)))
          (sym (T.after_entered ∙ ap (λ ms. with_mark enters ms pair.to mark) T.mid_entered))
          (entered_more rec phys seen net E law k b pair is_root enters S before.entered mark to_few
          M.entered);
      begun = subst (λ ms. AreMarked ms mark (IsBegun rec seen net (k + 1))) (sym T.after_begun)
          mid_begun;
    }

    turn_keeps : begins ≡ true → goes ≡ true → of_constant ≡ false → EntersAlone rec net k
    turn_keeps begins_so goes_so free = keeps rec phys seen net E law k b pair is_root enters S
        mid.entered mid.begun mark mid_entered mid_begun
        (λ root. subst (λ ms. slice_index ms pair.from ≢ mark) (sym T.mid_entered)
        (T.begins_is.0 begins_so root))
        (T.goes_is.0 goes_so)
        (λ does h. false≢true (sym free ∙ T.constant_is.1 (does, h)))

    breaks_begins : begins ≡ false → EntersAlone rec net k → ⊥
    breaks_begins bad A = by is_root refl (cases_eq (slice_index before.entered pair.from) mark)
      where
        by : (f : Bool) → is_root ≡ f → (slice_index before.entered pair.from ≡ mark)
            ⊎ (slice_index before.entered pair.from ≢ mark) → ⊥
        by true e (inl h) = begins_late rec phys seen net E law k b pair is_root enters S
            before.entered
            mid.begun mark M.entered mid_begun e h A
        by true e (inr n) = false≢true (sym bad ∙ T.begins_is.1 (λ root. n))
        by false e h = false≢true (sym bad ∙ T.begins_is.1 (λ root. absurd (false≢true (sym e ∙
            root))))

    breaks_goes : goes ≡ false → EntersAlone rec net k → ⊥
    breaks_goes bad A = by enters refl (cases_eq (slice_index mid.entered pair.to) mark)
        (cases_eq (slice_index mid.begun pair.to) mark)
      where
        by : (f : Bool) → enters ≡ f → (slice_index mid.entered pair.to ≡ mark)
            ⊎ (slice_index mid.entered pair.to ≢ mark) → (slice_index mid.begun pair.to ≡ mark)
            ⊎ (slice_index mid.begun pair.to ≢ mark) → ⊥
        by true e (inl h) other = enters_again rec phys seen net E law k b pair is_root enters S
            mid.entered mid.begun mark mid_entered mid_begun e h A
        by true e (inr n) (inl h) = enters_root rec phys seen net E law k b pair is_root enters S
            mid.entered mid.begun mark mid_entered mid_begun e h A
        by true e (inr n) (inr m) = false≢true (sym bad ∙ T.goes_is.1 (λ does. (n, m)))
        by false e h other =
            false≢true (sym bad ∙ T.goes_is.1 (λ does. absurd (false≢true (sym e ∙ does))))

    breaks_constant : of_constant ≡ true → EntersAlone rec net k → ⊥
    breaks_constant is A = let w = T.constant_is.0 is in
        enters_constant rec phys seen net E law k b pair is_root enters S mid.entered mid.begun mark
        mid_entered mid_begun w.0 w.1 A

    -- so the three tests tell whether the segment keeps the rule
    pub turn_tells : (((begins && goes) && not of_constant) ≡ true) ↔ EntersAlone rec net k
    turn_tells = by begins goes of_constant refl refl refl
      where
        by : (x y z : Bool) → begins ≡ x → goes ≡ y → of_constant ≡ z
            → (((x && y) && not z) ≡ true) ↔ EntersAlone rec net k
        by true true false x y z = (λ h. turn_keeps x y z, λ A. refl)
        by true true true x y z = (λ h. absurd (false≢true h), λ A. absurd (breaks_constant z A))
        by true false c x y z = (λ h. absurd (false≢true h), λ A. absurd (breaks_goes y A))
        by false b c x y z = (λ h. absurd (false≢true h), λ A. absurd (breaks_begins x A))

-- no segment has met anything
pub none_met : (rec : DeviceRec) (seen : EndsSeen) (net : PhysNet) (n : ℕ) (met : Met)
    → IsUnmet seen.count n met → IsMet rec seen net (n + 1) 0 met
none_met rec seen net n met U = record {
  whole = U.whole;
  entered = record {
    low = λ i. let le : slice_index met.entered i ≤ n = U.entered i in omega (arith, le);
    each = λ i. let le : slice_index met.entered i ≤ n = U.entered i in (
      λ h. absurd (omega (arith, le, h)),
      λ h. let none : h.place < 0 = h.before in absurd (omega (arith, none)),
    );
  };
  begun = record {
    low = λ i. let le : slice_index met.begun i ≤ n = U.begun i in omega (arith, le);
    each = λ i. let le : slice_index met.begun i ≤ n = U.begun i in (
      λ h. absurd (omega (arith, le, h)),
      λ h. let none : h.place < 0 = h.before in absurd (omega (arith, none)),
    );
  };
}

-- what one net has met, the next hasn't
pub next_unmet : (rec : DeviceRec) (seen : EndsSeen) (net : PhysNet) (mark count : ℕ) (met : Met)
    → IsMet rec seen net mark count met → IsUnmet seen.count mark met
next_unmet rec seen net mark count met M = record {
  whole = M.whole;
  entered = M.entered.low;
  begun = M.begun.low;
}

-- what is past the last segment keeps the rule
pub keeps_past : (rec : DeviceRec) (net : PhysNet) (k : ℕ) → (k < length (segments net) → ⊥)
    → EntersAlone rec net k
keeps_past rec net k past = record {
  once = λ r earlier E1 lt E2. absurd (none-some r (sym nothing ∙ E1));
  no_root = λ r root E1 le is_root in_is. absurd (none-some r (sym nothing ∙ E1));
  as_root = λ r earlier root in_is lt E2.
      absurd (none-some r (sym (ap (option_and_then (in_end_of rec)) none) ∙ in_is));
  no_constant = λ r c E1 of_net carries. absurd (none-some r (sym nothing ∙ E1));
}
  where
    none : segment_at net k ≡ None
    none = no_segment net k past

    nothing : entered rec net k ≡ None
    nothing = ap (option_and_then (λ (s : Segment). entered_by s.kind (out_end rec net k))) none
