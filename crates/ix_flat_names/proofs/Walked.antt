-- Signal nets, number by number.
use Rattle.std.proofs.Common.{◌≡◌, ◌<◌, ◌≤◌, ◌+◌, ap, refl, sym, subst, ◌∙◌, ℕ, zero, suc, List, [], ◌∷◌}
use Rattle.std.proofs.Common.{◌++◌, slice_get, Option, Some, None, arith, ◌⊎◌, inl, inr, Bool, true, false}
use Rattle.std.proofs.Common.{length, get_or, ◌&&◌, nat_eq}
use Rattle.std.specs.Option.{is_none}
use Rattle.std.proofs.lemmas.Bool.{cases_lt, eqb-true, eq-eqb, false≢true}
use Rattle.std.proofs.lemmas.Option.{none-some, same_Some, slice_get-get_or, slice_get_within}
use Rattle.ix_num.specs.declared.resource.Constant.{Constant as ConstantSeen}
use Rattle.ix_rec.specs.declared.netlist.NetlistRec.{NetlistRec}
use Rattle.ix_hierarchy.specs.Walk.{IsBefore}
use Rattle.ix_hierarchy.specs.Nets.{Occurrence, IsFirstOf, spot_of}
use Rattle.ix_hierarchy.specs.Pins.{IsConstantNet, IsOnNet}
use Rattle.ix_hierarchy.specs.FlatDesign.{IsSignal}
use Rattle.ix_hierarchy.specs.Lists.{IsNumber}
use Rattle.ix_joined.specs.declared.joined.Joined.{Joined}
use Rattle.ix_joined.specs.declared.state.NetState.{NetState}
use Rattle.ix_joined.specs.Joining.{Known, IsJoined}
use Rattle.ix_joined.specs.Roles.{nothing}
use Rattle.ix_joined.specs.States.{AreNetStates, IsConstantOf}
use Rattle.ix_flat_lists.specs.Listed.{AreSignalNets}
use Rattle.ix_flat_names.specs.Signals.{AreSignalsTo, is_first_signal}
use Rattle.ix_flat_names.proofs.OneFirst.{one_first}

both_true : (a b : Bool) → (a && b) ≡ true → (a ≡ true) × (b ≡ true)
both_true true b h = (refl, h)
both_true false b h = absurd (false≢true h)

and_true : (a b : Bool) → a ≡ true → b ≡ true → (a && b) ≡ true
and_true true b h g = g
and_true false b h g = absurd (false≢true h)

-- the state of a number
state_is : (known : Known) (design : NetlistRec) (joined : Joined) (states : List NetState)
    (net : ℕ) → length states ≡ length joined.firsts.items → net < length joined.firsts.items
    → slice_get states net ≡ Some (get_or states net nothing)
state_is known design joined states net long lt = slice_get-get_or states net nothing (omega arith)

-- a number that passes is a signal net's
pub passes_is : (known : Known) (design : NetlistRec) (joined : Joined) (states : List NetState)
    (net : ℕ) → IsJoined known design joined → AreNetStates known design joined states
    → length states ≡ length joined.firsts.items → net < length joined.firsts.items
    → is_first_signal joined.firsts.items states net ≡ true
    → (at : Occurrence) × IsNumber design joined.instances.items known.paths at net
    × IsSignal known.names known.device design at
passes_is known design joined states net are is long lt holds =
    let state : NetState = get_or states net nothing in
    let h = state_is known design joined states net long lt in
    let both = both_true (nat_eq (get_or joined.firsts.items net 0) net)
    (state.has_sink && is_none state.constant) holds in
    let more = both_true state.has_sink (is_none state.constant) both.1 in
    let at = are.numbered.every net lt in
    let f = are.are_firsts.each at.0 net at.1 in
    let first_is : slice_get joined.firsts.items net ≡ Some net =
    slice_get-get_or joined.firsts.items net 0 lt
    ∙ ap Some (eqb-true (get_or joined.firsts.items net 0) net both.0) in
    let least : f.1 ≡ net = same_Some f.1 net (sym f.2 ∙ first_is) in
    let same : f.0 ≡ at.0 = are.numbered.one f.0 at.0 net
    (subst (λ k. IsNumber design joined.instances.items known.paths f.0 k) least f.3) at.1 in
    let first : IsFirstOf design at.0 = subst (IsFirstOf design) same f.5 in
    let told = is.first at.0 net state at.1 first h in (
      at.0,
      at.1,
      record {
        first = first;
        has_sink = told.has_sink.0 more.0;
        no_constant = by at.0 state.constant told.constant more.1;
      },
    )
  where
    by : (at : Occurrence) (o : Option ConstantSeen)
        → IsConstantOf known.names known.device design (λ pin. IsOnNet design pin at) o
        → is_none o ≡ true
        → (constant : ConstantSeen) → ¬ IsConstantNet known.names known.device design constant at
    by at None none h = λ constant net. none constant net.path net.bit net.drives net.on
    by at (Some c) some h = absurd (false≢true h)

-- and the other way round
pub is_passes : (known : Known) (design : NetlistRec) (joined : Joined) (states : List NetState)
    (net : ℕ) (at : Occurrence) → IsJoined known design joined
    → AreNetStates known design joined states → length states ≡ length joined.firsts.items
    → IsNumber design joined.instances.items known.paths at net
    → IsSignal known.names known.device design at
    → is_first_signal joined.firsts.items states net ≡ true
is_passes known design joined states net at are is long number signal =
    let lt : net < length joined.firsts.items = are.numbered.below at net number in
    let state : NetState = get_or states net nothing in
    let h = state_is known design joined states net long lt in
    let told = is.first at net state number signal.first h in
    let f = are.are_firsts.each at net number in
    let same = one_first known design joined f.0 at f.1 net are f.5 signal.first f.4 f.3 number in
    let itself : get_or joined.firsts.items net 0 ≡ net =
    same_Some (get_or joined.firsts.items net 0) net
    (sym (slice_get-get_or joined.firsts.items net 0 lt) ∙ f.2 ∙ ap Some same.1) in
    and_true (nat_eq (get_or joined.firsts.items net 0) net)
    (state.has_sink && is_none state.constant)
    (eq-eqb (get_or joined.firsts.items net 0) net itself)
    (and_true state.has_sink (is_none state.constant) (told.has_sink.1 signal.has_sink)
    (by state.constant told.constant))
  where
    by : (o : Option ConstantSeen)
        → IsConstantOf known.names known.device design (λ pin. IsOnNet design pin at) o
        → is_none o ≡ true
    by None none = refl
    by (Some c) some = absurd (signal.no_constant c (record {
      path = some.0;
      bit = some.1;
      drives = some.2;
      on = some.3;
    }))

-- an item behind others
pushed : (xs : List ℕ) (y k x : ℕ) → slice_get (xs ++ y ∷ []) k ≡ Some x
    → (slice_get xs k ≡ Some x) ⊎ ((k ≡ length xs) × (y ≡ x))
pushed [] y zero x h = inr (refl, same_Some y x h)
pushed [] y (suc k) x h = absurd (none-some x h)
pushed (z ∷ xs) y zero x h = inl h
pushed (z ∷ xs) y (suc k) x h = elim (pushed xs y k x h) [
  | inl before ↦ inl before
  | inr last ↦ inr (ap suc last.0, last.1)
]

before_push : (xs : List ℕ) (y k x : ℕ) → slice_get xs k ≡ Some x
    → slice_get (xs ++ y ∷ []) k ≡ Some x
before_push [] y k x h = absurd (none-some x h)
before_push (z ∷ xs) y zero x h = h
before_push (z ∷ xs) y (suc k) x h = before_push xs y k x h

last_push : (xs : List ℕ) (y : ℕ) → slice_get (xs ++ y ∷ []) (length xs) ≡ Some y
last_push [] y = refl
last_push (z ∷ xs) y = last_push xs y

-- a signal net more
pub one_signal : (known : Known) (design : NetlistRec) (joined : Joined) (states : List NetState)
    (net : ℕ) (signals : List ℕ) → IsJoined known design joined
    → AreNetStates known design joined states → length states ≡ length joined.firsts.items
    → net < length joined.firsts.items → is_first_signal joined.firsts.items states net ≡ true
    → AreSignalsTo known design joined net signals
    → AreSignalsTo known design joined (net + 1) (signals ++ net ∷ [])
one_signal known design joined states net signals are is long lt holds to =
    let here = passes_is known design joined states net are is long lt holds in
    record {
      each = λ n number h. elim (pushed signals net n number h) [
        | inl before ↦ let e = to.each n number before in
            let less : number < net = e.0 in (omega arith, e.1)
        | inr last ↦ let less : number < net + 1 = omega arith in (
          less,
          (
            here.0,
            subst (λ k. IsNumber design joined.instances.items known.paths here.0 k)
                last.1 here.1,
            here.2,
          ),
        )
      ];
      rise = λ m n a b less x y. elim (pushed signals net n b y) [
        | inl second ↦ elim (pushed signals net m a x) [
          | inl first ↦ to.rise m n a b less first second
          | inr last ↦ let within : n < length signals = slice_get_within signals n b second in
              let e : m ≡ length signals = last.0 in absurd (omega arith)
        ]
        | inr last ↦ elim (pushed signals net m a x) [
          | inl first ↦ let below : a < net = (to.each m a first).0 in
              let e : net ≡ b = last.1 in omega arith
          | inr other ↦ let p : m ≡ length signals = other.0 in
              let q : n ≡ length signals = last.0 in absurd (omega arith)
        ]
      ];
      all = λ number at less n signal. elim (cases_lt number net) [
        | inl before ↦ let old = to.all number at before n signal in
            (old.0, before_push signals net old.0 number old.1)
        | inr more ↦ let same : net ≡ number = omega arith in
            (length signals, last_push signals net ∙ ap Some same)
      ];
    }

-- or none
pub no_signal : (known : Known) (design : NetlistRec) (joined : Joined) (states : List NetState)
    (net : ℕ) (signals : List ℕ) → IsJoined known design joined
    → AreNetStates known design joined states → length states ≡ length joined.firsts.items
    → is_first_signal joined.firsts.items states net ≡ false
    → AreSignalsTo known design joined net signals
    → AreSignalsTo known design joined (net + 1) signals
no_signal known design joined states net signals are is long fails to = record {
  each = λ n number h. let e = to.each n number h in
      let less : number < net = e.0 in (omega arith, e.1);
  rise = to.rise;
  all = λ number at less n signal. elim (cases_lt number net) [
    | inl before ↦ to.all number at before n signal
    | inr more ↦
        let same : number ≡ net = omega arith in
        absurd (false≢true (sym fails ∙ is_passes known design joined states net at are is long
        (subst (λ k. IsNumber design joined.instances.items known.paths at k) same n) signal))
  ];
}

pub none_yet : (known : Known) (design : NetlistRec) (joined : Joined)
    → AreSignalsTo known design joined 0 []
none_yet known design joined = record {
  each = λ n number h. absurd (none-some number h);
  rise = λ m n a b less x y. absurd (none-some a x);
  all = λ number at less n signal. absurd (omega arith);
}

-- The occurrences of all numbers.

occurrences : (known : Known) (design : NetlistRec) (joined : Joined) (signals : List ℕ)
    → ((n number : ℕ) → slice_get signals n ≡ Some number
    → (at : Occurrence) × IsNumber design joined.instances.items known.paths at number)
    → (nets : List Occurrence) × (length signals ≡ length nets)
    × ((n number : ℕ) (at : Occurrence) → slice_get signals n ≡ Some number
    → slice_get nets n ≡ Some at → IsNumber design joined.instances.items known.paths at number)
occurrences known design joined [] each =
    ([], refl, λ n number at h g. absurd (none-some number h))
occurrences known design joined (s ∷ signals) each =
    let first = each 0 s refl in
    let rest = occurrences known design joined signals (λ n number h. each (suc n) number h) in
    (first.0 ∷ rest.0, ap suc rest.1, by first rest.0 rest.2)
  where
    by : (first : (at : Occurrence) × IsNumber design joined.instances.items known.paths at s)
        (nets : List Occurrence)
        → ((n number : ℕ) (at : Occurrence) → slice_get signals n ≡ Some number
        → slice_get nets n ≡ Some at → IsNumber design joined.instances.items known.paths at number)
        → (n number : ℕ) (at : Occurrence) → slice_get (s ∷ signals) n ≡ Some number
        → slice_get (first.0 ∷ nets) n ≡ Some at
        → IsNumber design joined.instances.items known.paths at number
    by first nets rest zero number at h g =
        subst (λ (o : Occurrence). IsNumber design joined.instances.items known.paths o number)
        (same_Some first.0 at g)
        (subst (λ k. IsNumber design joined.instances.items known.paths first.0 k)
        (same_Some s number h) first.1)
    by first nets rest (suc n) number at h g = rest n number at h g

pub all_signals : (known : Known) (design : NetlistRec) (joined : Joined) (count : ℕ)
    (signals : List ℕ) → IsJoined known design joined → length joined.firsts.items ≤ count
    → AreSignalsTo known design joined count signals
    → (nets : List Occurrence) × AreSignalNets known design joined signals nets
all_signals known design joined count signals are whole to =
    let list = occurrences known design joined signals
    (λ n number h. let e = (to.each n number h).1 in (e.0, e.1)) in (
      list.0,
      record {
        are = record {
          each = λ n at h. signal_at list.0 list.1 list.2 n at h;
          rise = λ m n a b less x y. before list.0 list.1 list.2 m n a b less x y;
          all = λ at signal. has list.0 list.1 list.2 at signal;
        };
        many = list.1;
        each = list.2;
      },
    )
  where
    number_at : (nets : List Occurrence) → length signals ≡ length nets
        → ((n number : ℕ) (at : Occurrence) → slice_get signals n ≡ Some number
        → slice_get nets n ≡ Some at → IsNumber design joined.instances.items known.paths at number)
        → (n : ℕ) (at : Occurrence) → slice_get nets n ≡ Some at
        → (number : ℕ) × (slice_get signals n ≡ Some number)
        × IsNumber design joined.instances.items known.paths at number
    number_at nets long numbers n at h =
        let lt : n < length nets = slice_get_within nets n at h in
        let number : ℕ = get_or signals n 0 in
        let is : slice_get signals n ≡ Some number = slice_get-get_or signals n 0 (omega arith) in
        (number, is, numbers n number at is h)

    signal_at : (nets : List Occurrence) → length signals ≡ length nets
        → ((n number : ℕ) (at : Occurrence) → slice_get signals n ≡ Some number
        → slice_get nets n ≡ Some at → IsNumber design joined.instances.items known.paths at number)
        → (n : ℕ) (at : Occurrence) → slice_get nets n ≡ Some at
        → IsSignal known.names known.device design at
    signal_at nets long numbers n at h =
        let number = number_at nets long numbers n at h in
        let e = (to.each n number.0 number.1).1 in
        subst (IsSignal known.names known.device design)
        (are.numbered.one e.0 at number.0 e.1 number.2) e.2

    before : (nets : List Occurrence) → length signals ≡ length nets
        → ((n number : ℕ) (at : Occurrence) → slice_get signals n ≡ Some number
        → slice_get nets n ≡ Some at → IsNumber design joined.instances.items known.paths at number)
        → (m n : ℕ) (a b : Occurrence) → m < n → slice_get nets m ≡ Some a
        → slice_get nets n ≡ Some b → IsBefore (spot_of a) (spot_of b)
    before nets long numbers m n a b less x y =
        let p = number_at nets long numbers m a x in
        let q = number_at nets long numbers n b y in
        (are.numbered.rise a b p.0 q.0 p.2 q.2).1 (to.rise m n p.0 q.0 less p.1 q.1)

    has : (nets : List Occurrence) → length signals ≡ length nets
        → ((n number : ℕ) (at : Occurrence) → slice_get signals n ≡ Some number
        → slice_get nets n ≡ Some at → IsNumber design joined.instances.items known.paths at number)
        → (at : Occurrence) → IsSignal known.names known.device design at
        → (n : ℕ) × (slice_get nets n ≡ Some at)
    has nets long numbers at signal =
        let number = are.numbered.some at signal.first.cell signal.first.net signal.first.occurs in
        let below : number.0 < length joined.firsts.items =
        are.numbered.below at number.0 number.1 in
        let less : number.0 < count = omega arith in
        let found = to.all number.0 at less number.1 signal in
        let lt : found.0 < length signals = slice_get_within signals found.0 number.0 found.1 in
        let there : slice_get nets found.0 ≡ Some (get_or nets found.0 at) =
        slice_get-get_or nets found.0 at (omega arith) in
        let same = are.numbered.one (get_or nets found.0 at) at number.0
        (numbers found.0 number.0 (get_or nets found.0 at) found.1 there) number.1 in
        (found.0, there ∙ ap Some same)
