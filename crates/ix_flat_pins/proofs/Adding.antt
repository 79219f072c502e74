-- Items that are added.
use Rattle.std.proofs.Common.{◌≡◌, ◌<◌, ap, refl, sym, subst, ◌∙◌, ℕ, List, [], ◌∷◌, ◌++◌, length, Bool, Option, Some, None, arith, inl, inr, get_or, zero, suc}
use Rattle.std.specs.Prelude.{◌⊎◌, ◌↔◌, slice_get, IsTrue}
use Rattle.std.proofs.lemmas.List.{append-nil}
use Rattle.std.proofs.Common.{append_assoc}
use Rattle.std.proofs.lemmas.Option.{slice_get-get_or}
use Rattle.ix_num.specs.declared.resource.NetRef.{NetRef}
use Rattle.ix_message.specs.Shape.{Text}
use Rattle.ix_rec.specs.declared.device.Constants.{Constants}
use Rattle.ix_rec.specs.declared.netlist.NetlistRec.{NetlistRec}
use Rattle.ix_hierarchy.specs.Nets.{Occurrence, AreOneNet}
use Rattle.ix_hierarchy.specs.Pins.{Pin, IsDriver, IsOnNet}
use Rattle.ix_joined.specs.declared.joined.Joined.{Joined}
use Rattle.ix_joined.specs.declared.state.NetState.{NetState}
use Rattle.ix_joined.specs.Joining.{IsJoined, Known}
use Rattle.ix_wiring.specs.declared.flat_pin.FlatPin.{FlatPin}
use Rattle.ix_flat_pins.specs.Items.{Adds, AreItems, IsItem, IsJust, IsNamed, IsReady, Parts, item_on, listed, net_of}
use Rattle.ix_flat_pins.proofs.OneNet.{OnNumber, is_first, first_on, joined_on, joined_back, one_place}
use Rattle.ix_flat_pins.proofs.Refs.{IsAt, ref_sound, ref_complete}

none_some : {X : Type 0} (x : X) → None ≡ Some x → ⊥
none_some x e = cc

some_in : {X : Type 0} (x y : X) → Some x ≡ Some y → x ≡ y
some_in x y e = cc

pub item_at : {X : Type 0} (xs : List X) (k : ℕ) → k < length xs → (x : X) × (slice_get xs k ≡ Some x)
item_at [] k lt = absurd (omega arith)
item_at (x ∷ xs) k lt = (get_or (x ∷ xs) k x, slice_get-get_or (x ∷ xs) k x lt)

has_left : {X : Type 0} (xs ys : List X) (k : ℕ) (x : X) → slice_get xs k ≡ Some x → slice_get (xs ++ ys) k ≡ Some x
has_left [] ys k x is = absurd (none_some x is)
has_left (y ∷ xs) ys zero x is = is
has_left (y ∷ xs) ys (suc k) x is = has_left xs ys k x is

has_right : {X : Type 0} (xs ys : List X) (k : ℕ) (x : X) → slice_get ys k ≡ Some x
    → (m : ℕ) × (slice_get (xs ++ ys) m ≡ Some x)
has_right [] ys k x is = (k, is)
has_right (y ∷ xs) ys k x is = let r = has_right xs ys k x is in (suc r.0, r.1)

has_split : {X : Type 0} (xs ys : List X) (k : ℕ) (x : X) → slice_get (xs ++ ys) k ≡ Some x
    → ((m : ℕ) × (slice_get xs m ≡ Some x)) ⊎ ((m : ℕ) × (slice_get ys m ≡ Some x))
has_split [] ys k x is = inr (k, is)
has_split (y ∷ xs) ys zero x is = inl (0, is)
has_split (y ∷ xs) ys (suc k) x is = elim (has_split xs ys k x is) [
  | inl h ↦ inl (suc h.0, h.1)
  | inr h ↦ inr h
]

pub adds_none : (known : Known) (design : NetlistRec) (parts : Parts) (R : Pin → ℕ → Type 0) (items : List FlatPin)
    → ((pin : Pin) (cell : ℕ) → R pin cell → ⊥) → Adds known design parts R items items
adds_none known design parts R items none = (
  [],
  sym (append-nil items),
  record {
    each = λ k one is. absurd (none_some one is);
    all = λ pin cell at net r on of. absurd (none pin cell r);
  },
)

pub adds_more : (known : Known) (design : NetlistRec) (parts : Parts) (P Q R : Pin → ℕ → Type 0)
    (old mid new : List FlatPin) → ((pin : Pin) (cell : ℕ) → R pin cell → P pin cell ⊎ Q pin cell)
    → ((pin : Pin) (cell : ℕ) → P pin cell → R pin cell) → ((pin : Pin) (cell : ℕ) → Q pin cell → R pin cell)
    → Adds known design parts P old mid → Adds known design parts Q mid new → Adds known design parts R old new
adds_more known design parts P Q R old mid new split left right a b = (
  a.0 ++ b.0,
  b.1 ∙ ap (λ (xs : List FlatPin). xs ++ b.0) a.1 ∙ append_assoc old a.0 b.0,
  record {
    each = λ k one is. elim (has_split a.0 b.0 k one is) [
      | inl h ↦ let e = a.2.each h.0 one h.1 in (e.0, e.1, left e.0 e.1 e.2, e.3)
      | inr h ↦ let e = b.2.each h.0 one h.1 in (e.0, e.1, right e.0 e.1 e.2, e.3)
    ];
    all = λ pin cell at net r on of. elim (split pin cell r) [
      | inl p ↦ let e = a.2.all pin cell at net p on of in (e.0, e.1, has_left a.0 b.0 e.0 e.1 e.2, e.3)
      | inr q ↦ let e = b.2.all pin cell at net q on of in
          let m = has_right a.0 b.0 e.0 e.1 e.2 in (m.0, e.1, m.1, e.3)
    ];
  },
)

pub adds_as : (known : Known) (design : NetlistRec) (parts : Parts) (P R : Pin → ℕ → Type 0) (old new : List FlatPin)
    → ((pin : Pin) (cell : ℕ) → P pin cell → R pin cell)
    → ((pin : Pin) (cell : ℕ) (at : Occurrence) → R pin cell → IsOnNet design pin at → P pin cell)
    → Adds known design parts P old new → Adds known design parts R old new
adds_as known design parts P R old new to from a = (
  a.0,
  a.1,
  record {
    each = λ k one is. let e = a.2.each k one is in (e.0, e.1, to e.0 e.1 e.2, e.3);
    all = λ pin cell at net r on of. a.2.all pin cell at net (from pin cell at r on) on of;
  },
)

-- two occurrences that a pin is on are of one net
one_net : (known : Known) (design : NetlistRec) (joined : Joined) (pin : Pin) (a b : Occurrence) → IsJoined known design joined
    → IsOnNet design pin a → IsOnNet design pin b → AreOneNet design a b
one_net known design joined pin a b are x y =
    let same = one_place known design joined pin x.where_at y.where_at are x.on y.on in
    joined_on design a x.where_at b x.one_net
    (joined_back design b x.where_at (subst (λ (o : Occurrence). AreOneNet design b o) (sym same) y.one_net))

just_at : (known : Known) (design : NetlistRec) (joined : Joined) (o : Option Constants) (states : List NetState) (numbers : List ℕ)
    (parts : Parts) (pin : Pin) (cell net name number : ℕ) (text : Text) (drives : Bool) (state : NetState)
    → IsReady known design joined o states numbers parts → OnNumber known design joined pin net
    → slice_get known.names name ≡ Some text → IsNamed known design pin text
    → (IsTrue drives ↔ IsDriver known.names known.device design pin)
    → slice_get states net ≡ Some state → slice_get numbers net ≡ Some number
    → (r : Option NetRef) → net_of state number ≡ r
    → AreItems known design parts (IsJust pin cell) (listed (item_on cell name drives r))
just_at known design joined o states numbers parts pin cell net name number text drives state ready on name_is named drive state_is number_is None none = record {
  each = λ k one is. absurd (none_some one is);
  all = λ p c at ref just on_net of.
      let f = is_first known design joined pin net ready.listed.joined_is on in
      let is : IsAt known design joined net state f.at = record {
        number_is = f.number_is;
        first = f.first;
        state_is = ready.listed.states_are.each net state state_is;
      } in
      let here = first_on known design joined pin f.at net ready.listed.joined_is f.number_is on in
      let there : IsOnNet design pin at = subst (λ (q : Pin). IsOnNet design q at) just.0 on_net in
      let it = ref_complete known design joined o states ready.signals numbers parts net number state f.at at ref ready.listed ready.numbers_are is number_is
      (one_net known design joined pin f.at at ready.listed.joined_is here there) of in
      absurd (none_some ref (sym none ∙ it));
}
just_at known design joined o states numbers parts pin cell net name number text drives state ready on name_is named drive state_is number_is (Some r) some =
    let f = is_first known design joined pin net ready.listed.joined_is on in
    let is : IsAt known design joined net state f.at = record {
      number_is = f.number_is;
      first = f.first;
      state_is = ready.listed.states_are.each net state state_is;
    } in
    let here = first_on known design joined pin f.at net ready.listed.joined_is f.number_is on in
    let one : FlatPin = record { cell = cell; pin = name; net = r; drives = drives } in
    let its : IsItem known design parts pin cell one = record {
      cell_is = refl;
      text = text;
      name_is = name_is;
      named = named;
      at = f.at;
      on = here;
      of_net = ref_sound known design joined o states ready.signals numbers parts net number state f.at r ready.listed ready.numbers_are is number_is some;
      only = λ other ref on_other of. some_in r ref (sym some ∙ ref_complete known design joined o states ready.signals numbers parts net number state f.at other ref
          ready.listed ready.numbers_are is number_is (one_net known design joined pin f.at other ready.listed.joined_is here on_other) of);
      drives = drive;
    } in
    record {
      each = λ k x is_x. (pin, cell, (refl, refl), by_place k x is_x its);
      all = λ p c at ref just on_net of. (
        0,
        one,
        refl,
        subst (λ (q : Pin). IsItem known design parts q c one) (sym just.0) (subst (λ (n : ℕ). IsItem known design parts pin n one) (sym just.1) its),
      );
    }
  where
    by_place : (k : ℕ) (x : FlatPin) → slice_get ((record { cell = cell; pin = name; net = r; drives = drives }) ∷ []) k ≡ Some x
        → IsItem known design parts pin cell (record { cell = cell; pin = name; net = r; drives = drives })
        → IsItem known design parts pin cell x
    by_place zero x is_x its = subst (λ (y : FlatPin). IsItem known design parts pin cell y) (some_in _ x is_x) its
    by_place (suc k) x is_x its = absurd (none_some x is_x)

pub just_adds : (known : Known) (design : NetlistRec) (joined : Joined) (o : Option Constants) (states : List NetState) (numbers : List ℕ)
    (parts : Parts) (pin : Pin) (cell net name : ℕ) (text : Text) (drives : Bool) (r : Option NetRef) (old new : List FlatPin)
    → IsReady known design joined o states numbers parts → OnNumber known design joined pin net
    → slice_get known.names name ≡ Some text → IsNamed known design pin text
    → (IsTrue drives ↔ IsDriver known.names known.device design pin)
    → ((state : NetState) (number : ℕ) → slice_get states net ≡ Some state → slice_get numbers net ≡ Some number
    → r ≡ net_of state number)
    → new ≡ old ++ listed (item_on cell name drives r)
    → Adds known design parts (IsJust pin cell) old new
just_adds known design joined o states numbers parts pin cell net name text drives r old new ready on name_is named drive ref new_is =
    let f = is_first known design joined pin net ready.listed.joined_is on in
    let low = ready.listed.joined_is.numbered.below f.at net f.number_is in
    let s = item_at states net (omega (arith, ready.listed.states_are.many)) in
    let n = item_at numbers net (omega (arith, ready.numbers_many)) in
    let is = ref s.0 n.0 s.1 n.1 in (
      listed (item_on cell name drives r),
      new_is,
      just_at known design joined o states numbers parts pin cell net name n.0 text drives s.0 ready on name_is named drive s.1 n.1 r (sym is),
    )

-- a pin's net is one of the states and of the numbers
pub net_low : (known : Known) (design : NetlistRec) (joined : Joined) (o : Option Constants) (states : List NetState) (numbers : List ℕ)
    (parts : Parts) (pin : Pin) (net : ℕ) → IsReady known design joined o states numbers parts → OnNumber known design joined pin net
    → (net < length states) × (net < length numbers)
net_low known design joined o states numbers parts pin net ready on =
    let f = is_first known design joined pin net ready.listed.joined_is on in
    let low = ready.listed.joined_is.numbered.below f.at net f.number_is in
    (omega (arith, ready.listed.states_are.many), omega (arith, ready.numbers_many))
