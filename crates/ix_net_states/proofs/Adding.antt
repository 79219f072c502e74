-- The state of a net with one more pin.
use Rattle.std.proofs.Common.{◌≡◌, ◌≢◌, refl, sym, subst, ◌∙◌, List, Option, Some}
use Rattle.std.proofs.Common.{None, Bool, true, false, IsTrue, ◌↔◌, ◌⊎◌, inl, inr, ◌||◌}
use Rattle.std.proofs.lemmas.Bool.{false≢true}
use Rattle.ix_num.specs.declared.resource.Constant.{Constant as ConstantSeen}
use Rattle.ix_message.specs.Shape.{Text}
use Rattle.ix_rec.specs.declared.device.DeviceRec.{DeviceRec}
use Rattle.ix_rec.specs.declared.netlist.NetlistRec.{NetlistRec}
use Rattle.ix_hierarchy.specs.Hierarchy.{Path, PortBit}
use Rattle.ix_hierarchy.specs.Pins.{Pin, LeafPin, IsDriver, IsSink, IsConstantPin}
use Rattle.ix_joined.specs.declared.pin.Role.{Role}
use Rattle.ix_joined.specs.declared.pin.Role.TheVariants as roles
use Rattle.ix_joined.specs.declared.state.NetState.{NetState}
use Rattle.ix_joined.specs.Roles.{with_role, nothing}
use Rattle.ix_joined.specs.States.{IsConstantOf, IsState}
use Rattle.ix_pins.specs.Places.{HasRole}

-- a pin of a set that is on a net
abbrev pub Among : (Done Q : Pin → Type 0) → Pin → Type 0
Among Done Q p = Done p × Q p

-- or this one
abbrev pub More : (Done : Pin → Type 0) → Pin → Pin → Type 0
More Done pin p = Done p ⊎ (p ≡ pin)

abbrev pub Some1 : (P On : Pin → Type 0) → Type 0
Some1 P On = (p : Pin) × P p × On p

abbrev pub Two : (P On : Pin → Type 0) → Type 0
Two P On = (one : Pin) × (other : Pin) × (one ≢ other) × P one × P other × On one × On other

-- the same pins, the same state
pub same_pins : (names : List Text) (rec : DeviceRec) (design : NetlistRec) (On On' : Pin → Type 0)
    (state : NetState) → ((p : Pin) → On p → On' p) → ((p : Pin) → On' p → On p)
    → IsState names rec design On state → IsState names rec design On' state
same_pins names rec design On On' state there back is = record {
  driven = (
    λ e. let d = is.driven.0 e in (d.0, d.1, there d.0 d.2),
    λ d. is.driven.1 (d.0, d.1, back d.0 d.2),
  );
  driven_twice = (
    λ e. let d = is.driven_twice.0 e in
        (d.0, d.1, d.2, d.3, d.4, there d.0 d.5, there d.1 d.6),
    λ d. is.driven_twice.1 (d.0, d.1, d.2, d.3, d.4, back d.0 d.5, back d.1 d.6),
  );
  has_sink = (
    λ e. let d = is.has_sink.0 e in (d.0, d.1, there d.0 d.2),
    λ d. is.has_sink.1 (d.0, d.1, back d.0 d.2),
  );
  constant = by state.constant is.constant;
}
  where
    by : (o : Option ConstantSeen) → IsConstantOf names rec design On o
        → IsConstantOf names rec design On' o
    by None h = λ constant path bit is on. h constant path bit is (back (LeafPin path bit) on)
    by (Some constant) h = (h.0, h.1, h.2, there (LeafPin h.0 h.1) h.3)

-- no pin, nothing
pub none_on : (names : List Text) (rec : DeviceRec) (design : NetlistRec) (On : Pin → Type 0)
    → ((p : Pin) → On p → ⊥) → IsState names rec design On nothing
none_on names rec design On none = record {
  driven = (λ e. absurd (false≢true e), λ d. absurd (none d.0 d.2));
  driven_twice = (λ e. absurd (false≢true e), λ d. absurd (none d.0 d.5));
  has_sink = (λ e. absurd (false≢true e), λ d. absurd (none d.0 d.2));
  constant = λ constant path bit is on. none (LeafPin path bit) on;
}

-- a pin that isn't such a one changes nothing
kept : (P Done Q : Pin → Type 0) (pin : Pin) (b : Bool) → (P pin → ⊥)
    → IsTrue b ↔ Some1 P (Among Done Q) → IsTrue b ↔ Some1 P (Among (More Done pin) Q)
kept P Done Q pin b isnt is = (
  λ e. let d = is.0 e in (d.0, d.1, (inl d.2.0, d.2.1)),
  λ d. elim d.2.0 [
    | inl old ↦ is.1 (d.0, d.1, (old, d.2.1))
    | inr new ↦ absurd (isnt (subst P new d.1))
  ],
)

gained : (P Done Q : Pin → Type 0) (pin : Pin) → P pin → Q pin
    → IsTrue true ↔ Some1 P (Among (More Done pin) Q)
gained P Done Q pin holds on = (λ e. (pin, holds, (inr refl, on)), λ d. refl)

twice_kept : (P Done Q : Pin → Type 0) (pin : Pin) (b : Bool) → (P pin → ⊥)
    → IsTrue b ↔ Two P (Among Done Q) → IsTrue b ↔ Two P (Among (More Done pin) Q)
twice_kept P Done Q pin b isnt is = (
  λ e. let d = is.0 e in
      (d.0, d.1, d.2, d.3, d.4, (inl d.5.0, d.5.1), (inl d.6.0, d.6.1)),
  λ d. elim d.5.0 [
    | inl one ↦ elim d.6.0 [
      | inl other ↦ is.1 (d.0, d.1, d.2, d.3, d.4, (one, d.5.1), (other, d.6.1))
      | inr new ↦ absurd (isnt (subst P new d.4))
    ]
    | inr new ↦ absurd (isnt (subst P new d.3))
  ],
)

either_true : (a b : Bool) → IsTrue (a || b) → IsTrue a ⊎ IsTrue b
either_true true b h = inl refl
either_true false b h = inr h

or_left : (a b : Bool) → IsTrue a → IsTrue (a || b)
or_left true b h = refl
or_left false b h = absurd (false≢true h)

or_right : (a b : Bool) → IsTrue b → IsTrue (a || b)
or_right true b h = refl
or_right false b h = h

twice_gained : (P Done Q : Pin → Type 0) (pin : Pin) (t d : Bool) → P pin → Q pin
    → (Done pin → ⊥) → IsTrue t ↔ Two P (Among Done Q) → IsTrue d ↔ Some1 P (Among Done Q)
    → IsTrue (t || d) ↔ Two P (Among (More Done pin) Q)
twice_gained P Done Q pin t d holds on new two one = (
  λ e. elim (either_true t d e) [
    | inl before ↦ let w = two.0 before in
        (w.0, w.1, w.2, w.3, w.4, (inl w.5.0, w.5.1), (inl w.6.0, w.6.1))
    | inr once ↦ let w = one.0 once in (
      w.0,
      pin,
      λ same. new (subst Done same w.2.0),
      w.1,
      holds,
      (inl w.2.0, w.2.1),
      (inr refl, on),
    )
  ],
  λ w. elim w.5.0 [
    | inl first ↦ elim w.6.0 [
      | inl second ↦ or_left t d (two.1 (
        w.0,
        w.1,
        w.2,
        w.3,
        w.4,
        (first, w.5.1),
        (second, w.6.1),
      ))
      | inr second ↦ or_right t d (one.1 (w.0, w.3, (first, w.5.1)))
    ]
    | inr first ↦ elim w.6.0 [
      | inl second ↦ or_right t d (one.1 (w.1, w.4, (second, w.6.1)))
      | inr second ↦ absurd (w.2 (first ∙ sym second))
    ]
  ],
)

-- the constant stays
constant_kept : (names : List Text) (rec : DeviceRec) (design : NetlistRec)
    (Done Q : Pin → Type 0) (pin : Pin) (o : Option ConstantSeen)
    → ((constant : ConstantSeen) (path : Path) (bit : PortBit) → LeafPin path bit ≡ pin
    → IsConstantPin names rec design constant path bit → ⊥)
    → IsConstantOf names rec design (Among Done Q) o
    → IsConstantOf names rec design (Among (More Done pin) Q) o
constant_kept names rec design Done Q pin None isnt h = λ constant path bit is on. elim on.0 [
  | inl old ↦ h constant path bit is (old, on.1)
  | inr new ↦ isnt constant path bit new is
]
constant_kept names rec design Done Q pin (Some constant) isnt h =
    (h.0, h.1, h.2, (inl h.3.0, h.3.1))

pub with_pin : (names : List Text) (rec : DeviceRec) (design : NetlistRec)
    (Done Q : Pin → Type 0) (pin : Pin) (role : Role) (state : NetState)
    → HasRole names rec design pin role → Q pin → (Done pin → ⊥)
    → IsState names rec design (Among Done Q) state
    → IsState names rec design (Among (More Done pin) Q) (with_role state role)
with_pin names rec design Done Q pin roles.Driver state is on new old =
    let drv : IsDriver names rec design pin = is.driver.0 refl in
    record {
      driven = gained (IsDriver names rec design) Done Q pin drv on;
      driven_twice = twice_gained (IsDriver names rec design) Done Q pin state.driven_twice
          state.driven drv on new old.driven_twice old.driven;
      has_sink = kept (IsSink rec design) Done Q pin state.has_sink
          (λ s. false≢true (is.sink.1 s)) old.has_sink;
      constant = constant_kept names rec design Done Q pin state.constant
          (λ c path bit same own. let h : roles.Driver ≡ roles.Constant c =
          (is.constant c).1 (path, bit, sym same, own) in absurd (cc)) old.constant;
    }
with_pin names rec design Done Q pin (roles.Constant constant) state is on new old =
    let drv : IsDriver names rec design pin = is.driver.0 refl in
    let own = (is.constant constant).0 refl in
    record {
      driven = gained (IsDriver names rec design) Done Q pin drv on;
      driven_twice = twice_gained (IsDriver names rec design) Done Q pin state.driven_twice
          state.driven drv on new old.driven_twice old.driven;
      has_sink = kept (IsSink rec design) Done Q pin state.has_sink
          (λ s. false≢true (is.sink.1 s)) old.has_sink;
      constant = (own.0, own.1, own.3, (inr (sym own.2), subst Q own.2 on));
    }
with_pin names rec design Done Q pin roles.Sink state is on new old =
    let snk : IsSink rec design pin = is.sink.0 refl in
    record {
      driven = kept (IsDriver names rec design) Done Q pin state.driven
          (λ d. false≢true (is.driver.1 d)) old.driven;
      driven_twice = twice_kept (IsDriver names rec design) Done Q pin state.driven_twice
          (λ d. false≢true (is.driver.1 d)) old.driven_twice;
      has_sink = gained (IsSink rec design) Done Q pin snk on;
      constant = constant_kept names rec design Done Q pin state.constant
          (λ c path bit same own. let h : roles.Sink ≡ roles.Constant c =
          (is.constant c).1 (path, bit, sym same, own) in absurd (cc)) old.constant;
    }
with_pin names rec design Done Q pin roles.Nothing state is on new old = record {
  driven = kept (IsDriver names rec design) Done Q pin state.driven
      (λ d. false≢true (is.driver.1 d)) old.driven;
  driven_twice = twice_kept (IsDriver names rec design) Done Q pin state.driven_twice
      (λ d. false≢true (is.driver.1 d)) old.driven_twice;
  has_sink = kept (IsSink rec design) Done Q pin state.has_sink
      (λ s. false≢true (is.sink.1 s)) old.has_sink;
  constant = constant_kept names rec design Done Q pin state.constant
      (λ c path bit same own. let h : roles.Nothing ≡ roles.Constant c =
      (is.constant c).1 (path, bit, sym same, own) in absurd (cc)) old.constant;
}
