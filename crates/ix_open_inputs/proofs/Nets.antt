-- Chains of crossings, and pins on nets.
use Rattle.std.proofs.Common.{◌≡◌, ◌∙◌, ap, sym, subst, refl, ℕ, List, [], ◌∷◌, ◌++◌, inl, inr}
use Rattle.std.proofs.Common.{Some, slice_get, ◌<◌, ◌≤◌, length, true, arith, zero, suc}
use Rattle.std.proofs.lemmas.Option.{same_Some}
use Rattle.ix_message.specs.Shape.{Text}
use Rattle.ix_rec.specs.declared.device.DeviceRec.{DeviceRec}
use Rattle.ix_rec.specs.declared.netlist.NetlistRec.{NetlistRec}
use Rattle.ix_hierarchy.specs.declared.row.Row.{Row}
use Rattle.ix_hierarchy.specs.Hierarchy.{Path, PortBit, written_bit}
use Rattle.ix_hierarchy.specs.Nets.{AreOneNet, Cross, IsChain, IsFirstOf, Occurrence}
use Rattle.ix_hierarchy.specs.Pins.{HasSink, IsLeafPinOn, IsOnNet, Pin, LeafPin as LeafPinAt}
use Rattle.ix_hierarchy.specs.Broken.{IsJoined as IsPinJoined}
use Rattle.ix_hierarchy.specs.Lists.{IsNumber, bit_in}
use Rattle.ix_joined.specs.declared.joined.Joined.{Joined}
use Rattle.ix_joined.specs.declared.pin.LeafPin.{LeafPin}
use Rattle.ix_joined.specs.declared.state.NetState.{NetState}
use Rattle.ix_joined.specs.Joining.{Known, IsJoined, IsPinOf}
use Rattle.ix_joined.specs.States.{AreNetStates, IsNetState}
use Rattle.ix_pins.specs.Places.{ArePins, IsFoundAt}

join_chains : (design : NetlistRec) (a b c : Occurrence) (one other : List Occurrence)
    → IsChain design a one b → IsChain design b other c → IsChain design a (one ++ other) c
join_chains design a b c [] other x y = subst (λ o. IsChain design o other c) (sym x) y
join_chains design a b c (next ∷ one) other x y =
    (x.0, join_chains design next b c one other x.1 y)

turned : (design : NetlistRec) (a b : Occurrence) → Cross design a b → Cross design b a
turned design a b (inl x) = inr x
turned design a b (inr x) = inl x

pub one_net_trans : (design : NetlistRec) (a b c : Occurrence) → AreOneNet design a b
    → AreOneNet design b c → AreOneNet design a c
one_net_trans design a b c x y = (x.0 ++ y.0, join_chains design a b c x.0 y.0 x.1 y.1)

turn_chain : (design : NetlistRec) (a b : Occurrence) (chain : List Occurrence)
    → IsChain design a chain b → AreOneNet design b a
turn_chain design a b [] x = ([], sym x)
turn_chain design a b (next ∷ chain) x = one_net_trans design b next a
    (turn_chain design next b chain x.1) (a ∷ [], (turned design a next x.0, refl))

pub one_net_sym : (design : NetlistRec) (a b : Occurrence) → AreOneNet design a b
    → AreOneNet design b a
one_net_sym design a b x = turn_chain design a b x.0 x.1

-- a pin on a net is on each occurrence of it
pub on_net_of : (design : NetlistRec) (pin : Pin) (a b : Occurrence) → AreOneNet design b a
    → IsOnNet design pin a → IsOnNet design pin b
on_net_of design pin a b one on = record {
  where_at = on.where_at;
  one_net = one_net_trans design b a on.where_at one on.one_net;
  on = on.on;
}

pub has_sink_of : (rec : DeviceRec) (design : NetlistRec) (a b : Occurrence)
    → AreOneNet design b a → HasSink rec design a → HasSink rec design b
has_sink_of rec design a b one sink =
    (sink.0, sink.1, on_net_of design sink.0 a b one sink.2)

none_last : {A : Type 0} (xs : List A) (x : A) → [] ≡ xs ++ x ∷ [] → ⊥
none_last [] x e = absurd (cc)
none_last (y ∷ xs) x e = absurd (cc)

-- the last step, and what is before it
same_last : {A : Type 0} (xs ys : List A) (x y : A) → xs ++ x ∷ [] ≡ ys ++ y ∷ [] → xs ≡ ys
same_last [] [] x y e = refl
same_last [] (b ∷ ys) x y e = let h : [] ≡ ys ++ y ∷ [] = cc in absurd (none_last ys y h)
same_last (a ∷ xs) [] x y e = let h : [] ≡ xs ++ x ∷ [] = cc in absurd (none_last xs x h)
same_last (a ∷ xs) (b ∷ ys) x y e =
    let rest : xs ++ x ∷ [] ≡ ys ++ y ∷ [] = cc in
    let first : a ≡ b = cc in
    let h : xs ≡ ys = same_last xs ys x y rest in cc

pub item_there : {A : Type 0} (xs : List A) (k : ℕ) → k < length xs
    → (x : A) × (slice_get xs k ≡ Some x)
item_there [] k lt = absurd (omega (arith, lt))
item_there (x ∷ xs) zero lt = (x, refl)
item_there (x ∷ xs) (suc k) lt = item_there xs k (omega (arith, lt))

abbrev occurrence : Path → ℕ → Occurrence
occurrence path net = record { path = path; net = net }

-- a leaf's pin is on one occurrence
pub one_occurrence : (known : Known) (design : NetlistRec) (joined : Joined)
    (instance : ℕ) (path : Path) (start end : ℕ) (bit : PortBit) (a b : Occurrence)
    → ArePins known design joined instance path start end → IsLeafPinOn design path bit a
    → IsLeafPinOn design path bit b → a ≡ b
one_occurrence known design joined instance path start end bit a b pins x y =
    let p = pins.all bit a x in let q = pins.all bit b y in
    let k : p.0 ≡ q.0 = pins.once p.0 q.0 p.1 q.1 p.2 p.3 q.2 q.3 p.4 q.4 (p.5 ∙ sym q.5) in
    let row : p.1 ≡ q.1 = same_Some p.1 q.1 (sym p.4
    ∙ ap (slice_get joined.outer.rows) k ∙ q.4) in
    let net : a.net ≡ b.net = sym p.6 ∙ ap (λ (r : Row). r.net) row ∙ q.6 in
    let parent : a.path ≡ b.path = same_last a.path b.path x.place y.place
    (sym x.below ∙ y.below) in
    ap (λ t. occurrence t a.net) parent ∙ ap (occurrence b.path) net

-- the net of a pin by its number
pub record IsNetOf (known : Known) (design : NetlistRec) (joined : Joined) (at : Occurrence)
    (net : ℕ) : Type 0 where
  pub first : Occurrence
  pub number : IsNumber design joined.instances.items known.paths first net
  pub one_net : AreOneNet design first at
  pub is_first : IsFirstOf design first
  pub below : net < length joined.firsts.items

pub net_of_pin : (known : Known) (design : NetlistRec) (joined : Joined)
    → IsJoined known design joined → (pin : Pin) (net : ℕ)
    → (is : IsPinOf design joined.instances.items known.paths joined.firsts.items pin net)
    → IsNetOf known design joined is.at net
net_of_pin known design joined facts pin net is =
    let f = facts.are_firsts.each is.at is.number is.is_number in
    let same : f.1 ≡ net = same_Some f.1 net (sym f.2 ∙ is.first_is) in
    let number : IsNumber design joined.instances.items known.paths f.0 net =
    subst (IsNumber design joined.instances.items known.paths f.0) same f.3 in
    record {
      first = f.0;
      number = number;
      one_net = f.4;
      is_first = f.5;
      below = facts.numbered.below f.0 net number;
    }

-- the pin of a row is on a net with a sink: so an input of its name is joined
pub is_joined : (known : Known) (design : NetlistRec) (joined : Joined) (states : List NetState)
    (instance place : ℕ) (pin : LeafPin) (name : ℕ) (path : Path) (text : Text)
    (state : NetState) → IsJoined known design joined → AreNetStates known design joined states
    → slice_get known.paths instance ≡ Some path → IsFoundAt known design joined instance place pin
    → pin.name ≡ name → slice_get known.names name ≡ Some text
    → slice_get states pin.net ≡ Some state → state.has_sink ≡ true
    → IsPinJoined known.device known.names design path text
is_joined known design joined states instance place pin name path text state facts are path_is
    found named text_is state_is sink =
    let net = net_of_pin known design joined facts
    (LeafPinAt found.at.path (bit_in found.at.row)) pin.net found.net_is in
    let s = are.first net.first pin.net state net.number net.is_first state_is in
    let here : found.at.path ≡ path = same_Some found.at.path path
    (sym found.at.path_is ∙ path_is) in
    let same : found.text ≡ text = same_Some found.text text
    (sym found.name_is ∙ ap (slice_get known.names) named ∙ text_is) in
    subst (λ p. IsPinJoined known.device known.names design p text) here (record {
      bit = bit_in found.at.row;
      written_is = found.written_is ∙ ap (λ t. Some t) same;
      at = net.first;
      on = record {
        where_at = found.net_is.at;
        one_net = net.one_net;
        on = found.net_is.on;
      };
      has_sink = s.has_sink.0 sink;
    })

-- a row that was passed: its pin has another name, or its net has no sink
abbrev pub IsPassedRow : Known → NetlistRec → Joined → List NetState → (instance name place : ℕ)
    → Type 0
IsPassedRow known design joined states instance name place = (pin : LeafPin)
    × IsFoundAt known design joined instance place pin
    × (pin.name ≡ name → (state : NetState) → slice_get states pin.net ≡ Some state
    → state.has_sink ≡ true → ⊥)

pub not_joined : (known : Known) (design : NetlistRec) (joined : Joined)
    (states : List NetState) (instance start end name : ℕ) (path : Path) (text : Text)
    → IsJoined known design joined → AreNetStates known design joined states
    → length states ≡ length joined.firsts.items → slice_get known.paths instance ≡ Some path
    → ArePins known design joined instance path start end
    → slice_get known.names name ≡ Some text
    → ((k : ℕ) → start ≤ k → k < end → IsPassedRow known design joined states instance name k)
    → IsPinJoined known.device known.names design path text → ⊥
not_joined known design joined states instance start end name path text facts are many path_is
    pins text_is passed is =
    passing.2 same_name state.0 state.1 (s.has_sink.1 (has_sink_of known.device design is.at
    net.first (one_net_trans design net.first is.on.where_at is.at net_here
    (one_net_sym design is.at is.on.where_at is.on.one_net)) is.has_sink))
  where
    row : (k : ℕ) × (row : Row) × (start ≤ k) × (k < end)
        × (slice_get joined.outer.rows k ≡ Some row) × (bit_in row ≡ is.bit)
        × (row.net ≡ is.on.where_at.net)
    row = pins.all is.bit is.on.where_at is.on.on

    passing : IsPassedRow known design joined states instance name row.0
    passing = passed row.0 row.2 row.3

    found : IsFoundAt known design joined instance row.0 passing.0
    found = passing.1

    same_row : found.at.row ≡ row.1
    same_row = same_Some found.at.row row.1 (sym found.at.row_is ∙ row.4)

    same_bit : bit_in found.at.row ≡ is.bit
    same_bit = ap bit_in same_row ∙ row.5

    same_path : found.at.path ≡ path
    same_path = same_Some found.at.path path (sym found.at.path_is ∙ path_is)

    same_text : found.text ≡ text
    same_text = same_Some found.text text (sym found.written_is
        ∙ ap (written_bit known.names design) same_bit ∙ is.written_is)

    same_name : passing.0.name ≡ name
    same_name = facts.differ passing.0.name name text
        (found.name_is ∙ ap (λ t. Some t) same_text) text_is

    net : IsNetOf known design joined found.net_is.at passing.0.net
    net = net_of_pin known design joined facts
        (LeafPinAt found.at.path (bit_in found.at.row)) passing.0.net found.net_is

    on_here : IsLeafPinOn design path is.bit found.net_is.at
    on_here = subst (λ b. IsLeafPinOn design path b found.net_is.at) same_bit
        (subst (λ p. IsLeafPinOn design p (bit_in found.at.row) found.net_is.at) same_path
        found.net_is.on)

    there : found.net_is.at ≡ is.on.where_at
    there = one_occurrence known design joined instance path start end is.bit found.net_is.at
        is.on.where_at pins on_here is.on.on

    net_here : AreOneNet design net.first is.on.where_at
    net_here = subst (AreOneNet design net.first) there net.one_net

    state : (state : NetState) × (slice_get states passing.0.net ≡ Some state)
    state = item_there states passing.0.net (omega (arith, many, net.below))

    s : IsNetState known.names known.device design net.first state.0
    s = are.first net.first passing.0.net state.0 net.number net.is_first state.1
