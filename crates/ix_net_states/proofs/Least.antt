-- The first nets that break N3 and N4.
use Rattle.std.proofs.Common.{◌≡◌, ◌<◌, ap, refl, sym, subst, ◌∙◌, ℕ, List, slice_get, Some, IsTrue, true}
use Rattle.std.proofs.Common.{Bool, false, ◌&&◌, not, length, arith, get_or}
use Rattle.std.proofs.Common.{◌+◌, ◌≤◌, inl, inr}
use Rattle.std.proofs.lemmas.Bool.{false≢true, cases_lt}
use Rattle.std.proofs.lemmas.Option.{slice_get-get_or, slice_get_within, same_Some}
use Rattle.ix_rec.specs.declared.netlist.NetlistRec.{NetlistRec}
use Rattle.ix_hierarchy.specs.Walk.{Spot, NetAt, TopBit, InstanceAt, PinAt, IsBefore}
use Rattle.ix_hierarchy.specs.Nets.{Occurrence, IsFirstOf, spot_of}
use Rattle.ix_hierarchy.specs.Broken.{BreaksN3, BreaksN4, NoneBreaks}
use Rattle.ix_hierarchy.specs.Lists.{IsNumber}
use Rattle.ix_joined.specs.declared.joined.Joined.{Joined}
use Rattle.ix_joined.specs.declared.state.NetState.{NetState}
use Rattle.ix_joined.specs.Joining.{Known, IsJoined}
use Rattle.ix_joined.specs.States.{AreStates}
use Rattle.ix_net_states.specs.Least.{IsFirstBroken, is_undriven}
use Rattle.ix_net_states.proofs.OneNet.{first_on, is_first, on_first}

-- the state of a number is there
pub state_there : (known : Known) (design : NetlistRec) (joined : Joined) (states : List NetState)
    (at : Occurrence) (net : ℕ) → IsJoined known design joined → AreStates known design joined states
    → IsNumber design joined.instances.items known.paths at net
    → (state : NetState) × (slice_get states net ≡ Some state)
state_there known design joined states at net are is number =
    let less : net < length joined.firsts.items = are.numbered.below at net number in
    let many : length states ≡ length joined.firsts.items = is.many in
    let none : NetState = Rattle.ix_joined.specs.Roles.nothing in
    (get_or states net none, slice_get-get_or states net none (omega arith))

-- N3 by numbers
pub twice_breaks : (known : Known) (design : NetlistRec) (joined : Joined) (states : List NetState)
    (net : ℕ) (state : NetState) → IsJoined known design joined
    → AreStates known design joined states → slice_get states net ≡ Some state
    → IsTrue state.driven_twice
    → (at : Occurrence) × IsNumber design joined.instances.items known.paths at net
    × BreaksN3 known.names known.device design (spot_of at)
twice_breaks known design joined states net state are is h holds =
    let two = (is.each net state h).driven_twice.0 holds in
    let first = is_first known design joined two.0 net are two.5 in (
      first.at,
      first.number_is,
      (
        first.first,
        record {
          one = two.0;
          other = two.1;
          apart = two.2;
          drives = two.3;
          other_drives = two.4;
          on = first_on known design joined two.0 first.at net are first.number_is two.5;
          other_on = first_on known design joined two.1 first.at net are first.number_is two.6;
        },
      ),
    )

pub breaks_twice : (known : Known) (design : NetlistRec) (joined : Joined) (states : List NetState)
    (at : Occurrence) (net : ℕ) (state : NetState) → IsJoined known design joined
    → AreStates known design joined states
    → IsNumber design joined.instances.items known.paths at net → slice_get states net ≡ Some state
    → BreaksN3 known.names known.device design (spot_of at) → IsTrue state.driven_twice
breaks_twice known design joined states at net state are is number h broken =
    (is.each net state h).driven_twice.1 (
      broken.1.one,
      broken.1.other,
      broken.1.apart,
      broken.1.drives,
      broken.1.other_drives,
      on_first known design joined broken.1.one at net are number broken.0 broken.1.on,
      on_first known design joined broken.1.other at net are number broken.0 broken.1.other_on,
    )

-- N4 by numbers
both_are : (a b : Bool) → (a && not b) ≡ true → (a ≡ true) × (b ≡ false)
both_are true true h = absurd (false≢true h)
both_are true false h = (refl, refl)
both_are false b h = absurd (false≢true h)

and_both : (a b : Bool) → a ≡ true → (b ≡ true → ⊥) → (a && not b) ≡ true
and_both true true h n = absurd (n refl)
and_both true false h n = refl
and_both false b h n = absurd (false≢true h)

pub undriven_breaks : (known : Known) (design : NetlistRec) (joined : Joined)
    (states : List NetState) (net : ℕ) (state : NetState) → IsJoined known design joined
    → AreStates known design joined states → slice_get states net ≡ Some state
    → is_undriven state ≡ true
    → (at : Occurrence) × IsNumber design joined.instances.items known.paths at net
    × BreaksN4 known.names known.device design (spot_of at)
undriven_breaks known design joined states net state are is h holds =
    let both = both_are state.has_sink state.driven holds in
    let sink = (is.each net state h).has_sink.0 both.0 in
    let first = is_first known design joined sink.0 net are sink.2 in (
      first.at,
      first.number_is,
      (
        first.first,
        (sink.0, sink.1, first_on known design joined sink.0 first.at net are first.number_is sink.2),
        λ pin drives on. false≢true (sym both.1 ∙ (is.each net state h).driven.1 (
          pin,
          drives,
          on_first known design joined pin first.at net are first.number_is first.first on,
        )),
      ),
    )

pub breaks_undriven : (known : Known) (design : NetlistRec) (joined : Joined)
    (states : List NetState) (at : Occurrence) (net : ℕ) (state : NetState)
    → IsJoined known design joined → AreStates known design joined states
    → IsNumber design joined.instances.items known.paths at net → slice_get states net ≡ Some state
    → BreaksN4 known.names known.device design (spot_of at) → is_undriven state ≡ true
breaks_undriven known design joined states at net state are is number h broken =
    and_both state.has_sink state.driven
    ((is.each net state h).has_sink.1 (
      broken.1.0,
      broken.1.1,
      on_first known design joined broken.1.0 at net are number broken.0 broken.1.2,
    ))
    (λ driven. let d = (is.each net state h).driven.0 driven in
    broken.2 d.0 d.1 (first_on known design joined d.0 at net are number d.2))

-- where they break
twice_at : (known : Known) (design : NetlistRec) (spot : Spot)
    → BreaksN3 known.names known.device design spot
    → (at : Occurrence) × (spot ≡ spot_of at) × IsFirstOf design at
twice_at known design (NetAt path net) broken = (record { path = path; net = net }, refl, broken.0)
twice_at known design (TopBit place index) broken = absurd broken
twice_at known design (InstanceAt path) broken = absurd broken
twice_at known design (PinAt path place index) broken = absurd broken

undriven_at : (known : Known) (design : NetlistRec) (spot : Spot)
    → BreaksN4 known.names known.device design spot
    → (at : Occurrence) × (spot ≡ spot_of at) × IsFirstOf design at
undriven_at known design (NetAt path net) broken =
    (record { path = path; net = net }, refl, broken.0)
undriven_at known design (TopBit place index) broken = absurd broken
undriven_at known design (InstanceAt path) broken = absurd broken
undriven_at known design (PinAt path place index) broken = absurd broken

-- none before a number passes
abbrev pub NoneBefore : (test : NetState → Bool) → List NetState → ℕ → Type 0
NoneBefore test states net = (k : ℕ) (state : NetState) → k < net → slice_get states k ≡ Some state
    → test state ≡ true → ⊥

pub none_next : (test : NetState → Bool) (states : List NetState) (net : ℕ) (state : NetState)
    → NoneBefore test states net → slice_get states net ≡ Some state → test state ≡ false
    → NoneBefore test states (net + 1)
none_next test states net state before h fails = λ k other lt at holds.
    elim (cases_lt k net) [
      | inl less ↦ before k other less at holds
      | inr more ↦
          let same : k ≡ net = omega arith in
          let states_same : other ≡ state = same_Some other state (sym at ∙ ap (slice_get states) same
          ∙ h) in
          false≢true (sym fails ∙ ap test (sym states_same) ∙ holds)
    ]

-- what breaks a rule, and the test that tells it
pub record IsTold (known : Known) (design : NetlistRec) (joined : Joined)
    (states : List NetState) (Breaks : Spot → Type 0) (test : NetState → Bool) : Type 0 where
  pub there : (net : ℕ) (state : NetState) → slice_get states net ≡ Some state
      → test state ≡ true → (at : Occurrence)
      × IsNumber design joined.instances.items known.paths at net × Breaks (spot_of at)
  pub back : (at : Occurrence) (net : ℕ) (state : NetState)
      → IsNumber design joined.instances.items known.paths at net
      → slice_get states net ≡ Some state → Breaks (spot_of at) → test state ≡ true
  pub only : (spot : Spot) → Breaks spot
      → (at : Occurrence) × (spot ≡ spot_of at) × IsFirstOf design at

pub twice_told : (known : Known) (design : NetlistRec) (joined : Joined) (states : List NetState)
    → IsJoined known design joined → AreStates known design joined states
    → IsTold known design joined states (BreaksN3 known.names known.device design)
    (λ state. state.driven_twice)
twice_told known design joined states are is = record {
  there = λ net state h holds. twice_breaks known design joined states net state are is h holds;
  back = λ at net state number h broken.
      breaks_twice known design joined states at net state are is number h broken;
  only = twice_at known design;
}

pub undriven_told : (known : Known) (design : NetlistRec) (joined : Joined)
    (states : List NetState) → IsJoined known design joined → AreStates known design joined states
    → IsTold known design joined states (BreaksN4 known.names known.device design) is_undriven
undriven_told known design joined states are is = record {
  there = λ net state h holds. undriven_breaks known design joined states net state are is h holds;
  back = λ at net state number h broken.
      breaks_undriven known design joined states at net state are is number h broken;
  only = undriven_at known design;
}

-- a place that breaks it has a state that passes
passes_at : (known : Known) (design : NetlistRec) (joined : Joined) (states : List NetState)
    (Breaks : Spot → Type 0) (test : NetState → Bool) (spot : Spot)
    → IsJoined known design joined → AreStates known design joined states
    → IsTold known design joined states Breaks test → Breaks spot
    → (at : Occurrence) × (spot ≡ spot_of at) × (net : ℕ)
    × IsNumber design joined.instances.items known.paths at net × (state : NetState)
    × (slice_get states net ≡ Some state) × (test state ≡ true)
passes_at known design joined states Breaks test spot are is told broken =
    let at = told.only spot broken in
    let number = are.numbered.some at.0 at.2.cell at.2.net at.2.occurs in
    let state = state_there known design joined states at.0 number.0 are is number.1 in (
      at.0,
      at.1,
      number.0,
      number.1,
      state.0,
      state.1,
      told.back at.0 number.0 state.0 number.1 state.1 (subst Breaks at.1 broken),
    )

pub found_first : (known : Known) (design : NetlistRec) (joined : Joined)
    (states : List NetState) (Breaks : Spot → Type 0) (test : NetState → Bool) (net : ℕ)
    (state : NetState) → IsJoined known design joined → AreStates known design joined states
    → IsTold known design joined states Breaks test → NoneBefore test states net
    → slice_get states net ≡ Some state → test state ≡ true
    → IsFirstBroken known design joined Breaks net
found_first known design joined states Breaks test net state are is told before h holds =
    let here = told.there net state h holds in
    record {
      at = here.0;
      number_is = here.1;
      first = record {
        here = here.2;
        first = λ spot earlier broken.
            let other = passes_at known design joined states Breaks test spot are is told broken in
            let less : other.2 < net = (are.numbered.rise other.0 here.0 other.2 net other.3 here.1).0
            (subst (λ s. IsBefore s (spot_of here.0)) other.1 earlier) in
            before other.2 other.4 less other.5 other.6;
      };
    }

pub found_none : (known : Known) (design : NetlistRec) (joined : Joined)
    (states : List NetState) (Breaks : Spot → Type 0) (test : NetState → Bool) (net : ℕ)
    → IsJoined known design joined → AreStates known design joined states
    → IsTold known design joined states Breaks test → NoneBefore test states net
    → length states ≤ net → NoneBreaks Breaks
found_none known design joined states Breaks test net are is told before all = λ spot broken.
    let other = passes_at known design joined states Breaks test spot are is told broken in
    let less : other.2 < length states = slice_get_within states other.2 other.4 other.5 in
    before other.2 other.4 (omega arith) other.5 other.6
