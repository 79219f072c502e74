-- What is told is the fault.
use Rattle.std.proofs.Common.{◌≡◌, ◌<◌, ◌≤◌, ◌+◌, ◌^◌, sym, subst, List, ℕ, Option, Some, None}
use Rattle.std.proofs.Common.{arith, length}
use Rattle.std.specs.Prelude.{MatchOption}
use Rattle.ix_message.specs.Shape.{Text}
use Rattle.ix_rec.specs.declared.device.DeviceRec.{DeviceRec}
use Rattle.ix_rec.specs.declared.netlist.NetlistRec.{NetlistRec}
use Rattle.ix_rec.specs.declared.place.Rule.{Rule}
use Rattle.ix_rec.specs.declared.place.Rule.TheVariants.{N3, N4, N8}
use Rattle.ix_hierarchy.specs.Nets.{Occurrence, IsFirstOf, net_text}
use Rattle.ix_hierarchy.specs.FlatDesign.{IsNetText}
use Rattle.ix_hierarchy.specs.Broken.{IsBroken, BreaksN3, BreaksN4, Keeps10, Keeps3, Keeps5}
use Rattle.ix_asked.specs.declared.fault.DesignFault.{DesignFault}
use Rattle.ix_asked.specs.declared.fault.DesignFault.TheVariants.{Broken, Memory}
use Rattle.ix_asked.specs.Faults.{IsDesignFault, IsTold}
use Rattle.ix_joined.specs.declared.joined.Joined.{Joined}
use Rattle.ix_joined.specs.declared.state.NetState.{NetState}
use Rattle.ix_joined.specs.Joining.{Known, IsJoined}
use Rattle.ix_joined.specs.States.{AreStates}
use Rattle.ix_inout.specs.Inout.{IsFirstInout}
use Rattle.ix_net_states.specs.Least.{IsFirstBroken}
use Rattle.ix_flat_rules.specs.Told.{IsToldAs}

-- where its text makes the rule broken
pub told_fault : (names : List Text) (rec : DeviceRec) (design : NetlistRec) (rule : Rule)
    (Is : Text → Type 0) (fault : DesignFault)
    → ((word : Text) → Is word → IsBroken names rec design rule word) → IsToldAs rule Is fault
    → IsDesignFault names rec design fault
told_fault names rec design rule Is (Broken told word) is h =
    subst (λ r. IsBroken names rec design r word) (sym h.0) (is word h.1)
told_fault names rec design rule Is Memory is h = tt

-- a text that is so
pub told_as : (rule : Rule) (Is : Text → Type 0) (text : Text) (fault : DesignFault) → Is text
    → IsTold rule text fault → IsToldAs rule Is fault
told_as rule Is text (Broken told word) is h = (h.0, subst Is (sym h.1) is)
told_as rule Is text Memory is h = tt

-- N8
pub inout_told : (known : Known) (design : NetlistRec) (joined : Joined) (net : ℕ)
    (fault : DesignFault) → Keeps10 known.names known.device design
    → (is : IsFirstInout known design joined net)
    → IsToldAs N8 (IsNetText known.names design is.at) fault
    → IsDesignFault known.names known.device design fault
inout_told known design joined net fault keeps is h =
    told_fault known.names known.device design N8 (IsNetText known.names design is.at) fault
    (λ word text. (
      keeps,
      record { spot = is.spot; first = is.first; at = is.at; on = is.on; word_is = text },
    )) h

-- N3
pub twice_told : (known : Known) (design : NetlistRec) (joined : Joined) (net : ℕ)
    (fault : DesignFault) → Keeps5 known.names known.device design
    → (is : IsFirstBroken known design joined (BreaksN3 known.names known.device design) net)
    → IsToldAs N3 (IsNetText known.names design is.at) fault
    → IsDesignFault known.names known.device design fault
twice_told known design joined net fault keeps is h =
    told_fault known.names known.device design N3 (IsNetText known.names design is.at) fault
    (λ word text. (
      keeps,
      record { path = is.at.path; net = is.at.net; first = is.first; word_is = text },
    )) h

-- N4
pub undriven_told : (known : Known) (design : NetlistRec) (joined : Joined) (net : ℕ)
    (fault : DesignFault) → Keeps3 known.names known.device design
    → (is : IsFirstBroken known design joined (BreaksN4 known.names known.device design) net)
    → IsToldAs N4 (IsNetText known.names design is.at) fault
    → IsDesignFault known.names known.device design fault
undriven_told known design joined net fault keeps is h =
    told_fault known.names known.device design N4 (IsNetText known.names design is.at) fault
    (λ word text. (
      keeps,
      record { path = is.at.path; net = is.at.net; first = is.first; word_is = text },
    )) h

-- what an answer says where it is there
pub match_some : {A : Type 0} (N : Type 0) (F : A → Type 0) (o : Option A) (x : A)
    → MatchOption o N F → o ≡ Some x → F x
match_some N F o x h is = subst (λ p. MatchOption p N F) is h

-- and where there is none
pub match_none : {A : Type 0} (N : Type 0) (F : A → Type 0) (o : Option A) → MatchOption o N F
    → o ≡ None → N
match_none N F o h is = subst (λ p. MatchOption p N F) is h

-- states are few
pub few_states : (known : Known) (design : NetlistRec) (joined : Joined) (states : List NetState)
    → IsJoined known design joined → AreStates known design joined states
    → length states < 2 ^ 32
few_states known design joined states are is =
    let many : length states ≡ length joined.firsts.items = is.many in
    let few : length joined.instances.items + length joined.firsts.items ≤ 2 ^ 22 + 1 = are.few in
    omega arith

-- the text of a net is one
pub text_of_net : (names : List Text) (design : NetlistRec) (at : Occurrence) (text : Text)
    → (first : IsFirstOf design at) → text ≡ net_text names design at.path first.net
    → IsNetText names design at text
text_of_net names design at text first is = record { first = first; text_is = is }
