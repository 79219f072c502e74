-- What a pin of a leaf does.
use Rattle.std.proofs.Common.{◌≡◌, ap, refl, sym, subst, ◌∙◌, ℕ, List, slice_get, Option, Some, None}
use Rattle.std.proofs.Common.{Bool, true, false, cond, nat_eq, inl, inr}
use Rattle.std.proofs.lemmas.Bool.{eqb-true, eq-eqb, false≢true}
use Rattle.std.proofs.lemmas.Option.{none-some, same_Some}
use Rattle.ix_num.specs.declared.resource.Constant.{Constant as ConstantSeen}
use Rattle.ix_message.specs.Shape.{Text}
use Rattle.ix_rec.specs.declared.device.Constants.{Constants}
use Rattle.ix_rec.specs.declared.device.DeviceRec.{DeviceRec}
use Rattle.ix_rec.specs.declared.device.Direction.{Direction}
use Rattle.ix_rec.specs.declared.device.Direction.TheVariants.{Input, Output, Inout}
use Rattle.ix_rec.specs.declared.netlist.CellInstance.{CellInstance}
use Rattle.ix_rec.specs.declared.netlist.NetlistRec.{NetlistRec}
use Rattle.ix_strings.specs.Names.{AllDiffer}
use Rattle.ix_hierarchy.specs.Hierarchy.{Path, PortBit, written_bit}
use Rattle.ix_hierarchy.specs.Pins.{Pin, LeafPin, IsLeafOf, IsPlainLeaf, IsPlainPin, IsConstantPin}
use Rattle.ix_hierarchy.specs.Pins.{IsDriver, IsSink, constant_of_type, constant_pin, direction_of}
use Rattle.ix_hierarchy.specs.Pins.{type_of}
use Rattle.ix_joined.specs.declared.pin.Role.TheVariants as roles
use Rattle.ix_joined.specs.Roles.{role_of_constant, role_of_plain}
use Rattle.ix_pins.specs.Places.{HasRole}

-- a leaf has one type
pub one_type : (design : NetlistRec) (path : Path) (inst other : CellInstance) (ty its : ℕ)
    → IsLeafOf design path inst ty → IsLeafOf design path other its → ty ≡ its
one_type design path inst other ty its a b =
    let same : inst ≡ other = same_Some inst other (sym a.leaf.is ∙ b.leaf.is) in
    same_Some ty its (sym a.type_is ∙ ap (type_of design) same ∙ b.type_is)

same_pin : (p q : Path) (a b : PortBit) → LeafPin p a ≡ LeafPin q b → (p ≡ q) × (a ≡ b)
same_pin p q a b e = let x : p ≡ q = cc in let y : a ≡ b = cc in (x, y)

-- a plain leaf has no constant pins
plain_none : (names : List Text) (rec : DeviceRec) (design : NetlistRec) (path : Path)
    (inst : CellInstance) (ty : ℕ) (bit : PortBit) (constant : ConstantSeen)
    → IsPlainLeaf rec design path inst ty → IsConstantPin names rec design constant path bit → ⊥
plain_none names rec design path inst ty bit constant plain is =
    none-some constant (sym plain.plain
    ∙ ap (constant_of_type rec) (one_type design path inst is.inst ty is.ty plain.leaf is.leaf)
    ∙ is.constant_is)

other_way : (design : NetlistRec) (bit : PortBit) (a b : Direction) → direction_of design bit ≡ Some a
    → direction_of design bit ≡ Some b → a ≡ b
other_way design bit a b x y = same_Some a b (sym x ∙ y)

pub plain_role : (names : List Text) (rec : DeviceRec) (design : NetlistRec) (path : Path)
    (inst : CellInstance) (ty : ℕ) (bit : PortBit) (dir : Direction)
    → IsPlainLeaf rec design path inst ty → direction_of design bit ≡ Some dir
    → HasRole names rec design (LeafPin path bit) (role_of_plain dir)
plain_role names rec design path inst ty bit Input plain towards = record {
  driver = (
    λ e. absurd (false≢true e),
    λ d. elim d [
      | inl out ↦ absurd (let h : Input ≡ Output =
          other_way design bit Input Output towards out.towards in cc)
      | inr own ↦ absurd (plain_none names rec design path inst ty bit own.0 plain own.1)
    ],
  );
  sink = (λ e. record { inst = inst; ty = ty; leaf = plain; towards = towards }, λ s. refl);
  constant = λ constant. (
    λ e. absurd (cc),
    λ is.
        let same = same_pin path is.0 bit is.1 is.2 in
        absurd (plain_none names rec design path inst ty is.1 constant plain
        (subst (λ (p : Path). IsConstantPin names rec design constant p is.1) (sym same.0) is.3)),
  );
}
plain_role names rec design path inst ty bit Output plain towards = record {
  driver = (λ e. inl (record { inst = inst; ty = ty; leaf = plain; towards = towards }), λ d. refl);
  sink = (
    λ e. absurd (false≢true e),
    λ s. absurd (let h : Output ≡ Input =
        other_way design bit Output Input towards s.towards in cc),
  );
  constant = λ constant. (
    λ e. absurd (cc),
    λ is.
        let same = same_pin path is.0 bit is.1 is.2 in
        absurd (plain_none names rec design path inst ty is.1 constant plain
        (subst (λ (p : Path). IsConstantPin names rec design constant p is.1) (sym same.0) is.3)),
  );
}
plain_role names rec design path inst ty bit Inout plain towards = record {
  driver = (
    λ e. absurd (false≢true e),
    λ d. elim d [
      | inl out ↦ absurd (let h : Inout ≡ Output =
          other_way design bit Inout Output towards out.towards in cc)
      | inr own ↦ absurd (plain_none names rec design path inst ty bit own.0 plain own.1)
    ],
  );
  sink = (
    λ e. absurd (false≢true e),
    λ s. absurd (let h : Inout ≡ Input =
        other_way design bit Inout Input towards s.towards in cc),
  );
  constant = λ constant. (
    λ e. absurd (cc),
    λ is.
        let same = same_pin path is.0 bit is.1 is.2 in
        absurd (plain_none names rec design path inst ty is.1 constant plain
        (subst (λ (p : Path). IsConstantPin names rec design constant p is.1) (sym same.0) is.3)),
  );
}

pub constant_role : (names : List Text) (rec : DeviceRec) (design : NetlistRec) (path : Path)
    (inst : CellInstance) (ty : ℕ) (bit : PortBit) (constant : ConstantSeen) (name : ℕ)
    (text : Text) → AllDiffer names → IsLeafOf design path inst ty
    → constant_of_type rec ty ≡ Some constant → slice_get names name ≡ Some text
    → written_bit names design bit ≡ Some text
    → HasRole names rec design (LeafPin path bit) (role_of_constant rec.constants constant name)
constant_role names rec design path inst ty bit constant name text differ leaf of n w =
    by rec.constants refl
  where
    not_plain : (dir : Direction) → IsPlainPin rec design dir path bit → ⊥
    not_plain dir pin = none-some constant (sym pin.leaf.plain
        ∙ ap (constant_of_type rec) (sym (one_type design path inst pin.inst ty pin.ty leaf
        pin.leaf.leaf)) ∙ of)

    same_constant : (other : ConstantSeen) (b : PortBit) → IsConstantPin names rec design other path b
        → constant ≡ other
    same_constant other b is = same_Some constant other (sym of
        ∙ ap (constant_of_type rec) (one_type design path inst is.inst ty is.ty leaf is.leaf)
        ∙ is.constant_is)

    -- its name is that of the pin
    own_name : (constants : Constants) (other : ConstantSeen) → rec.constants ≡ Some constants
        → IsConstantPin names rec design other path bit → constant_pin constants constant ≡ name
    own_name constants other has is =
        let cs : is.constants ≡ constants =
        same_Some is.constants constants (sym is.device_has ∙ has) in
        let texts : is.text ≡ text = same_Some is.text text (sym is.written_is ∙ w) in
        let own : slice_get names (constant_pin constants constant) ≡ Some text =
        ap (λ (c : Constants). slice_get names (constant_pin c constant)) (sym cs)
        ∙ ap (λ c. slice_get names (constant_pin is.constants c)) (same_constant other bit is)
        ∙ is.own_pin ∙ ap Some texts in
        differ (constant_pin constants constant) name text own n

    by : (o : Option Constants) → rec.constants ≡ o
        → HasRole names rec design (LeafPin path bit) (role_of_constant o constant name)
    by None e = absurd (none-some constant (sym (ap (λ o.
        Rattle.ix_hierarchy.specs.Pins.constant_among o ty) e) ∙ of))
    by (Some constants) e0 = test (nat_eq (constant_pin constants constant) name) refl
      where
        test : (b : Bool) → nat_eq (constant_pin constants constant) name ≡ b
            → HasRole names rec design (LeafPin path bit)
            (cond b (roles.Constant constant) roles.Nothing)
        test true h = record {
          driver = (
            λ e. inr (
              constant,
              record {
                inst = inst;
                ty = ty;
                leaf = leaf;
                constants = constants;
                device_has = e0;
                constant_is = of;
                text = text;
                own_pin = ap (slice_get names) (eqb-true (constant_pin constants constant) name h) ∙ n;
                written_is = w;
              },
            ),
            λ d. refl,
          );
          sink = (λ e. absurd (false≢true e), λ s. absurd (not_plain Input s));
          constant = λ other. (
            λ e.
                let same : constant ≡ other = cc in (
                  path,
                  bit,
                  refl,
                  subst (λ (o : ConstantSeen). IsConstantPin names rec design o path bit)
                      same (record {
                        inst = inst;
                        ty = ty;
                        leaf = leaf;
                        constants = constants;
                        device_has = e0;
                        constant_is = of;
                        text = text;
                        own_pin = ap (slice_get names) (eqb-true (constant_pin constants constant) name h)
                            ∙ n;
                        written_is = w;
                      }),
                ),
            λ is.
                let same = same_pin path is.0 bit is.1 is.2 in
                ap (λ o. roles.Constant o) (same_constant other is.1
                (subst (λ (p : Path). IsConstantPin names rec design other p is.1) (sym same.0) is.3)),
          );
        }
        test false h = record {
          driver = (
            λ e. absurd (false≢true e),
            λ d. elim d [
              | inl out ↦ absurd (not_plain Output out)
              | inr own ↦ absurd (false≢true (sym h ∙ eq-eqb (constant_pin constants constant) name
                  (own_name constants own.0 e0 own.1)))
            ],
          );
          sink = (λ e. absurd (false≢true e), λ s. absurd (not_plain Input s));
          constant = λ other. (
            λ e. absurd (cc),
            λ is.
                let same = same_pin path is.0 bit is.1 is.2 in
                let here : IsConstantPin names rec design other path bit =
                subst (λ (b : PortBit). IsConstantPin names rec design other path b) (sym same.1)
                (subst (λ (p : Path). IsConstantPin names rec design other p is.1) (sym same.0) is.3) in
                absurd (false≢true (sym h ∙ eq-eqb (constant_pin constants constant) name
                (own_name constants other e0 here))),
          );
        }
