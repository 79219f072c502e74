-- The net of the flat design by the state of its first occurrence.
use Rattle.std.proofs.Common.{◌≡◌, ◌<◌, ap, refl, sym, subst, ◌∙◌, ℕ, List, [], ◌∷◌, length, Bool, true, false, Option, Some, None, arith, inl, inr, get_or}
use Rattle.std.specs.Prelude.{slice_get}
use Rattle.std.proofs.lemmas.Bool.{cases_lt}
use Rattle.std.proofs.lemmas.Option.{slice_get_within, slice_get-get_or}
use Rattle.ix_num.specs.declared.resource.Constant.{Constant}
use Rattle.ix_num.specs.declared.resource.Constant.TheVariants as constants
use Rattle.ix_num.specs.declared.resource.NetRef.{NetRef}
use Rattle.ix_num.specs.declared.resource.NetRef.TheVariants as nets
use Rattle.ix_rec.specs.declared.netlist.NetlistRec.{NetlistRec}
use Rattle.ix_hierarchy.specs.Hierarchy.{Path, PortBit}
use Rattle.ix_hierarchy.specs.Walk.{IsLess, key}
use Rattle.ix_hierarchy.specs.Nets.{Occurrence, AreOneNet, IsFirstOf, spot_of}
use Rattle.ix_hierarchy.specs.Pins.{Pin, LeafPin, TopPin, IsConstantPin, IsConstantNet, IsDriver, IsOnNet, HasSink, constant_of_type}
use Rattle.ix_hierarchy.specs.Broken.{HasTwoDrivers}
use Rattle.ix_hierarchy.specs.FlatDesign.{AreSignals, IsSignal}
use Rattle.ix_hierarchy.specs.Lists.{IsNumber}
use Rattle.ix_rec.specs.declared.device.Constants.{Constants}
use Rattle.ix_joined.specs.declared.joined.Joined.{Joined}
use Rattle.ix_joined.specs.declared.state.NetState.{NetState}
use Rattle.ix_joined.specs.Joining.{IsJoined, Known}
use Rattle.ix_joined.specs.States.{IsConstantOf, IsState}
use Rattle.ix_flat_pins.specs.Items.{AreNumbersOf, IsListed, OfNet, Parts, net_if, net_of, net_with}
use Rattle.ix_flat_pins.proofs.OneNet.{OnNumber, first_on, on_first, joined_on, joined_back, one_first}

-- what is on a net is on it at each of its occurrences
pub on_moved : (design : NetlistRec) (pin : Pin) (a b : Occurrence) → AreOneNet design a b
    → IsOnNet design pin b → IsOnNet design pin a
on_moved design pin a b one on =
    record { where_at = on.where_at; one_net = joined_on design a b on.where_at one on.one_net; on = on.on }

sink_moved : (known : Known) (design : NetlistRec) (a b : Occurrence) → AreOneNet design a b
    → HasSink known.device design b → HasSink known.device design a
sink_moved known design a b one (pin, sinks, on) = (pin, sinks, on_moved design pin a b one on)

constant_moved : (known : Known) (design : NetlistRec) (constant : Constant) (a b : Occurrence) → AreOneNet design a b
    → IsConstantNet known.names known.device design constant b → IsConstantNet known.names known.device design constant a
constant_moved known design constant a b one c =
    record { path = c.path; bit = c.bit; drives = c.drives; on = on_moved design (LeafPin c.path c.bit) a b one c.on }

less_itself : (xs : List ℕ) → IsLess xs xs → ⊥
less_itself [] h = h
less_itself (x ∷ xs) h = elim h [ inl a ↦ omega arith | inr b ↦ less_itself xs b.1 ]

same_occurrence : (a b : Occurrence) → Some a ≡ Some b → a ≡ b
same_occurrence a b e = cc

same_number : (a b : ℕ) → Some a ≡ Some b → a ≡ b
same_number a b e = cc

-- a signal net has one place among the signal nets
pub signal_once : (known : Known) (design : NetlistRec) (signals : List Occurrence)
    → AreSignals known.names known.device design signals → (m n : ℕ) (at : Occurrence)
    → slice_get signals m ≡ Some at → slice_get signals n ≡ Some at → m ≡ n
signal_once known design signals are m n at x y = elim (cases_lt m n) [
  | inl less ↦ absurd (less_itself (key (spot_of at)) (are.rise m n at at less x y))
  | inr ge ↦ elim (cases_lt n m) [
    | inl more ↦ absurd (less_itself (key (spot_of at)) (are.rise n m at at more y x))
    | inr le ↦ omega arith
  ]
]

no_true : false ≡ true → ⊥
no_true e = cc

none_some : {X : Type 0} (x : X) → None ≡ Some x → ⊥
none_some x e = cc

some_in : {X : Type 0} (x y : X) → Some x ≡ Some y → x ≡ y
some_in x y e = cc

-- the first occurrence of a net, by its number, with its state
pub record IsAt (known : Known) (design : NetlistRec) (joined : Joined) (net : ℕ) (state : NetState)
    (at : Occurrence) : Type 0 where
  pub number_is : IsNumber design joined.instances.items known.paths at net
  pub first : IsFirstOf design at
  pub state_is : IsState known.names known.device design (λ pin. OnNumber known design joined pin net) state

no_two : (known : Known) (design : NetlistRec) (at : Occurrence)
    → (HasTwoDrivers known.names known.device design at → ⊥)
    → IsConstantNet known.names known.device design constants.Gnd at
    → IsConstantNet known.names known.device design constants.Vcc at → ⊥
no_two known design at one_driver a b = one_driver (record {
  one = LeafPin a.path a.bit;
  other = LeafPin b.path b.bit;
  apart = λ e. gnd_vcc (sym a.drives.constant_is ∙ same_type e ∙ b.drives.constant_is);
  drives = inr (constants.Gnd, a.drives);
  other_drives = inr (constants.Vcc, b.drives);
  on = a.on;
  other_on = b.on;
})
  where
    gnd_vcc : ◌≡◌ {A = Option Constant} (Some constants.Gnd) (Some constants.Vcc) → ⊥
    gnd_vcc e = cc

    same_type : LeafPin a.path a.bit ≡ LeafPin b.path b.bit
        → constant_of_type known.device a.drives.ty ≡ constant_of_type known.device b.drives.ty
    same_type e =
        let paths : a.path ≡ b.path = cc in
        let insts : a.drives.inst ≡ b.drives.inst = some_in a.drives.inst b.drives.inst
        (sym a.drives.leaf.leaf.is ∙ ap (Rattle.ix_hierarchy.specs.Hierarchy.instance_at design) paths ∙ b.drives.leaf.leaf.is) in
        let types : a.drives.ty ≡ b.drives.ty = some_in a.drives.ty b.drives.ty
        (sym a.drives.leaf.type_is ∙ ap (Rattle.ix_hierarchy.specs.Pins.type_of design) insts ∙ b.drives.leaf.type_is) in
        ap (constant_of_type known.device) types

-- what the state's constant says of the net
constant_told : (known : Known) (design : NetlistRec) (joined : Joined) (net : ℕ) (at : Occurrence) (o : Option Constant)
    (constant : Constant) → IsJoined known design joined → IsNumber design joined.instances.items known.paths at net
    → IsConstantOf known.names known.device design (λ pin. OnNumber known design joined pin net) o → o ≡ Some constant
    → IsConstantNet known.names known.device design constant at
constant_told known design joined net at None constant are number is e = absurd (none_some constant e)
constant_told known design joined net at (Some c) constant are number is e =
    let same : c ≡ constant = some_in c constant e in
    record {
      path = is.0;
      bit = is.1;
      drives = subst (λ (x : Constant). IsConstantPin known.names known.device design x is.0 is.1) same is.2;
      on = first_on known design joined (LeafPin is.0 is.1) at net are number is.3;
    }

constant_none : (known : Known) (design : NetlistRec) (joined : Joined) (net : ℕ) (at : Occurrence) (o : Option Constant)
    (constant : Constant) → IsJoined known design joined → IsNumber design joined.instances.items known.paths at net
    → IsFirstOf design at
    → IsConstantOf known.names known.device design (λ pin. OnNumber known design joined pin net) o → o ≡ None
    → IsConstantNet known.names known.device design constant at → ⊥
constant_none known design joined net at None constant are number first is e c =
    is constant c.path c.bit c.drives (on_first known design joined (LeafPin c.path c.bit) at net are number first c.on)
constant_none known design joined net at (Some d) constant are number first is e c = absurd (no e)
  where
    no : Some d ≡ None → ⊥
    no e = cc

sink_told : (known : Known) (design : NetlistRec) (joined : Joined) (net : ℕ) (state : NetState) (at : Occurrence)
    → IsJoined known design joined → IsAt known design joined net state at → state.has_sink ≡ true → HasSink known.device design at
sink_told known design joined net state at are is h =
    let s = is.state_is.has_sink.0 h in
    (s.0, s.1, first_on known design joined s.0 at net are is.number_is s.2)

sink_there : (known : Known) (design : NetlistRec) (joined : Joined) (net : ℕ) (state : NetState) (at : Occurrence)
    → IsJoined known design joined → IsAt known design joined net state at → HasSink known.device design at → state.has_sink ≡ true
sink_there known design joined net state at are is (pin, sinks, on) =
    is.state_is.has_sink.1 (pin, sinks, on_first known design joined pin at net are is.number_is is.first on)

signal_number : (known : Known) (design : NetlistRec) (joined : Joined) (o : Option Constants) (states : List NetState) (signals numbers : List ℕ) (parts : Parts)
    (net : ℕ) (at : Occurrence) → IsListed known design joined o states signals parts → AreNumbersOf signals numbers
    → IsNumber design joined.instances.items known.paths at net
    → IsSignal known.names known.device design at
    → (n : ℕ) × (slice_get parts.nets n ≡ Some at) × (slice_get numbers net ≡ Some n)
signal_number known design joined o states signals numbers parts net at listed are number signal =
    let n = listed.signals_are.are.all at signal in
    let low : n.0 < length signals = omega (arith, slice_get_within parts.nets n.0 at n.1, listed.signals_are.many) in
    let s : ℕ = get_or signals n.0 0 in
    let s_is : slice_get signals n.0 ≡ Some s = slice_get-get_or signals n.0 0 low in
    let its = listed.signals_are.each n.0 s at s_is n.1 in
    let same : s ≡ net = listed.joined_is.numbered.same at s net its number in
    (n.0, n.1, subst (λ (m : ℕ). slice_get numbers m ≡ Some n.0) same (are n.0 s s_is))

sound_at : (known : Known) (design : NetlistRec) (joined : Joined) (o : Option Constants) (states : List NetState) (signals numbers : List ℕ)
    (parts : Parts) (net number : ℕ) (state : NetState) (at : Occurrence) (r : NetRef)
    → IsListed known design joined o states signals parts → AreNumbersOf signals numbers
    → IsAt known design joined net state at → slice_get numbers net ≡ Some number
    → (b : Bool) (c : Option Constant) → state.has_sink ≡ b → state.constant ≡ c
    → net_if b c number ≡ Some r → OfNet known design parts at r
sound_at known design joined o states signals numbers parts net number state at r listed are is number_is false c es ec h = absurd (none_some r h)
sound_at known design joined o states signals numbers parts net number state at r listed are is number_is true None es ec h =
    let sink = sink_told known design joined net state at listed.joined_is is es in
    let signal : IsSignal known.names known.device design at = record {
      first = is.first;
      has_sink = sink;
      no_constant = λ constant k. constant_none known design joined net at state.constant constant listed.joined_is is.number_is is.first is.state_is.constant ec k;
    } in
    let n = signal_number known design joined o states signals numbers parts net at listed are is.number_is signal in
    let same : n.0 ≡ number = same_number n.0 number (sym n.2 ∙ number_is) in
    subst (λ (x : NetRef). OfNet known design parts at x) (some_in (nets.Signal number) r h)
    (at, subst (λ (m : ℕ). slice_get parts.nets m ≡ Some at) same n.1, ([], refl))
sound_at known design joined o states signals numbers parts net number state at r listed are is number_is true (Some constants.Gnd) es ec h =
    subst (λ (x : NetRef). OfNet known design parts at x) (some_in nets.Gnd r h) (
      sink_told known design joined net state at listed.joined_is is es,
      constant_told known design joined net at state.constant constants.Gnd listed.joined_is is.number_is is.state_is.constant ec,
    )
sound_at known design joined o states signals numbers parts net number state at r listed are is number_is true (Some constants.Vcc) es ec h =
    subst (λ (x : NetRef). OfNet known design parts at x) (some_in nets.Vcc r h) (
      sink_told known design joined net state at listed.joined_is is es,
      constant_told known design joined net at state.constant constants.Vcc listed.joined_is is.number_is is.state_is.constant ec,
    )

pub ref_sound : (known : Known) (design : NetlistRec) (joined : Joined) (o : Option Constants) (states : List NetState) (signals numbers : List ℕ)
    (parts : Parts) (net number : ℕ) (state : NetState) (at : Occurrence) (r : NetRef)
    → IsListed known design joined o states signals parts → AreNumbersOf signals numbers
    → IsAt known design joined net state at → slice_get numbers net ≡ Some number
    → net_of state number ≡ Some r → OfNet known design parts at r
ref_sound known design joined o states signals numbers parts net number state at r listed are is number_is h =
    sound_at known design joined o states signals numbers parts net number state at r listed are is number_is state.has_sink state.constant refl refl h

-- the net with a constant
with_constant : (known : Known) (design : NetlistRec) (joined : Joined) (net number : ℕ) (state : NetState) (at : Occurrence)
    (constant : Constant) → IsJoined known design joined → IsAt known design joined net state at
    → (HasTwoDrivers known.names known.device design at → ⊥)
    → IsConstantNet known.names known.device design constant at
    → (c : Option Constant) → state.constant ≡ c → c ≡ Some constant
with_constant known design joined net number state at constant are is one_driver k None e =
    absurd (constant_none known design joined net at state.constant constant are is.number_is is.first is.state_is.constant e k)
with_constant known design joined net number state at constants.Gnd are is one_driver k (Some constants.Gnd) e = refl
with_constant known design joined net number state at constants.Vcc are is one_driver k (Some constants.Vcc) e = refl
with_constant known design joined net number state at constants.Gnd are is one_driver k (Some constants.Vcc) e =
    absurd (no_two known design at one_driver k (constant_told known design joined net at state.constant constants.Vcc are is.number_is is.state_is.constant e))
with_constant known design joined net number state at constants.Vcc are is one_driver k (Some constants.Gnd) e =
    absurd (no_two known design at one_driver (constant_told known design joined net at state.constant constants.Gnd are is.number_is is.state_is.constant e) k)

without_constant : (known : Known) (design : NetlistRec) (joined : Joined) (net : ℕ) (state : NetState) (at : Occurrence)
    → IsJoined known design joined → IsAt known design joined net state at
    → ((constant : Constant) → IsConstantNet known.names known.device design constant at → ⊥)
    → (c : Option Constant) → state.constant ≡ c → c ≡ None
without_constant known design joined net state at are is none None e = refl
without_constant known design joined net state at are is none (Some d) e =
    absurd (none d (constant_told known design joined net at state.constant d are is.number_is is.state_is.constant e))

net_by : (state : NetState) (number : ℕ) (c : Option Constant) → state.has_sink ≡ true → state.constant ≡ c
    → net_of state number ≡ Some (net_with c number)
net_by state number c es ec = ap (λ (b : Bool). net_if b state.constant number) es ∙ ap (λ (x : Option Constant). Some (net_with x number)) ec

pub ref_complete : (known : Known) (design : NetlistRec) (joined : Joined) (o : Option Constants) (states : List NetState) (signals numbers : List ℕ)
    (parts : Parts) (net number : ℕ) (state : NetState) (at other : Occurrence) (r : NetRef)
    → IsListed known design joined o states signals parts → AreNumbersOf signals numbers
    → IsAt known design joined net state at → slice_get numbers net ≡ Some number
    → AreOneNet design at other → OfNet known design parts other r
    → net_of state number ≡ Some r
ref_complete known design joined o states signals numbers parts net number state at other nets.Gnd listed are is number_is one of =
    net_by state number (Some constants.Gnd)
    (sink_there known design joined net state at listed.joined_is is (sink_moved known design at other one of.0))
    (with_constant known design joined net number state at constants.Gnd listed.joined_is is (listed.one_driver at is.first)
    (constant_moved known design constants.Gnd at other one of.1) state.constant refl)
ref_complete known design joined o states signals numbers parts net number state at other nets.Vcc listed are is number_is one of =
    net_by state number (Some constants.Vcc)
    (sink_there known design joined net state at listed.joined_is is (sink_moved known design at other one of.0))
    (with_constant known design joined net number state at constants.Vcc listed.joined_is is (listed.one_driver at is.first)
    (constant_moved known design constants.Vcc at other one of.1) state.constant refl)
ref_complete known design joined o states signals numbers parts net number state at other (nets.Signal n) listed are is number_is one (first, first_is, joins) =
    let signal = listed.signals_are.are.each n first first_is in
    let low : n < length signals = omega (arith, slice_get_within parts.nets n first first_is, listed.signals_are.many) in
    let s : ℕ = get_or signals n 0 in
    let s_is : slice_get signals n ≡ Some s = slice_get-get_or signals n 0 low in
    let its = listed.signals_are.each n s first s_is first_is in
    let same = one_first known design joined at first net s listed.joined_is is.first signal.first
    (joined_on design at other first one (joined_back design first other joins)) is.number_is its in
    let at_signal : IsSignal known.names known.device design at = subst (λ (x : Occurrence). IsSignal known.names known.device design x) (sym same.0) signal in
    let m = signal_number known design joined o states signals numbers parts net at listed are is.number_is at_signal in
    let place : m.0 ≡ n = signal_once known design parts.nets listed.signals_are.are m.0 n at m.1 (first_is ∙ ap Some (sym same.0)) in
    let number_same : number ≡ n = same_number number m.0 (sym number_is ∙ m.2) ∙ place in
    net_by state number None
    (sink_there known design joined net state at listed.joined_is is at_signal.has_sink)
    (without_constant known design joined net state at listed.joined_is is at_signal.no_constant state.constant refl)
    ∙ ap (λ (k : ℕ). Some (nets.Signal k)) number_same
