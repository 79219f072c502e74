-- No resource has two holders.
use Rattle.std.proofs.Common.{◌≡◌, ◌<◌, ◌∙◌, ap, refl, sym, subst, ℕ, inl, inr}
use Rattle.std.proofs.Common.{List}
use Rattle.std.specs.Prelude.{slice_get, Option, Some, None, option_map, IfSome}
use Rattle.std.proofs.lemmas.Bool.{cases_order}
use Rattle.std.proofs.lemmas.Option.{none-some, same_Some}
use Rattle.ix_num.specs.declared.resource.Constant.{Constant}
use Rattle.ix_num.specs.declared.resource.Constant.TheVariants as constants
use Rattle.ix_num.specs.declared.resource.NetRef.{NetRef}
use Rattle.ix_num.specs.declared.resource.NetRef.TheVariants as holders
use Rattle.ix_num.specs.declared.resource.Res.{Res}
use Rattle.ix_rec.specs.declared.device.DeviceRec.{DeviceRec}
use Rattle.ix_rec.specs.declared.phys.Phys.{Phys}
use Rattle.ix_rec.specs.declared.phys.PhysNet.{PhysNet}
use Rattle.ix_rec.specs.declared.phys.NetType.{NetType}
use Rattle.ix_rec.specs.declared.phys.NetType.TheVariants.{Signal, Gnd, Vcc}
use Rattle.ix_legal.specs.declared.level.Level.{Level}
use Rattle.ix_legal.specs.Segments.{NetNumber, SegmentNumber}
use Rattle.ix_legal.specs.Holders.{HasEnd, Holds, HoldsByWiring, as_holder, constant_of}
use Rattle.ix_legal.specs.Holders.{constant_of_net, net_of_constant}
use Rattle.ix_legal.specs.Spots.{AskedOf, Everywhere, SegmentAt}
use Rattle.ix_legal.specs.Sharing.{Counts, IsUnshared, SharesNothing}

-- what is asked of the thing at a place is so of the thing that stands there
pub asked_of : {A : Type 0} (xs : List A) (i : ℕ) (P : A → Type 0) (x : A)
    → slice_get xs i ≡ Some x → AskedOf xs i P → P x
asked_of xs i P x is asked = subst (λ o. IfSome o P) is asked

-- the net of a constant is the holder that the constant has
as_constant : (nets : List PhysNet) (n : NetNumber) (ty : NetType) (c : Constant)
    → constant_of_net ty ≡ Some c → net_of_constant c ≡ as_holder nets n ty
as_constant nets n Signal c h = absurd (none-some c h)
as_constant nets n Gnd c h = ap net_of_constant (sym (same_Some constants.Gnd c h))
as_constant nets n Vcc c h = ap net_of_constant (sym (same_Some constants.Vcc c h))

module _ (level : Level) (rec : DeviceRec) (phys : Phys)
    (unshared : Everywhere (IsUnshared level rec phys)) (r : Res)
    (counts : Counts level rec phys r) where
  shares_nothing : (n : NetNumber) (net : PhysNet) (k : SegmentNumber)
      → slice_get phys.nets n ≡ Some net → SharesNothing level rec phys n net k
  shares_nothing n net k is = asked_of phys.nets n
      (λ t. SharesNothing level rec phys n t k) net is (unshared (SegmentAt n k))

  -- no net before another has what it has
  not_both : (n m : NetNumber) (net other : PhysNet) → n < m → slice_get phys.nets n ≡ Some net
      → slice_get phys.nets m ≡ Some other → HasEnd rec net r → HasEnd rec other r → ⊥
  not_both n m net other lt is other_is has other_has =
      (shares_nothing m other other_has.0 other_is).of_one_net r n net other_has.1 counts lt is has

  pub one_net : (n m : NetNumber) (net other : PhysNet) → slice_get phys.nets n ≡ Some net
      → slice_get phys.nets m ≡ Some other → HasEnd rec net r → HasEnd rec other r → n ≡ m
  one_net n m net other is other_is has other_has = elim (cases_order n m) [
    | inl same ↦ same
    | inr (inl lt) ↦ absurd (not_both n m net other lt is other_is has other_has)
    | inr (inr lt) ↦ absurd (not_both m n other net lt other_is is other_has has)
  ]

  one_by_wiring : (one other : NetRef) → HoldsByWiring rec phys.nets r one
      → HoldsByWiring rec phys.nets r other → one ≡ other
  one_by_wiring one other a b =
      let number = one_net a.number b.number a.net b.net a.net_is b.net_is a.has_end b.has_end in
      let net = same_Some a.net b.net (sym a.net_is ∙ ap (slice_get phys.nets) number ∙ b.net_is) in
      sym a.holder_is ∙ ap (λ (n : NetNumber). as_holder phys.nets n a.net.ty) number
      ∙ ap (λ (t : PhysNet). as_holder phys.nets b.number t.ty) net ∙ b.holder_is

  -- what the resource's constant says
  of_constant : (holder : NetRef) → option_map net_of_constant (constant_of rec r) ≡ Some holder
      → (c : Constant) × (constant_of rec r ≡ Some c) × (net_of_constant c ≡ holder)
  of_constant holder h = by (constant_of rec r) refl
    where
      by : (o : Option Constant) → constant_of rec r ≡ o
          → (c : Constant) × (constant_of rec r ≡ Some c) × (net_of_constant c ≡ holder)
      by None e = absurd (none-some holder (sym (ap (option_map net_of_constant) e) ∙ h))
      by (Some c) e =
          (c, e, same_Some (net_of_constant c) holder (sym (ap (option_map net_of_constant) e) ∙ h))

  -- a net that has a node of a constant is that constant's
  one_by_constant : (holder constant : NetRef) → HoldsByWiring rec phys.nets r holder
      → option_map net_of_constant (constant_of rec r) ≡ Some constant → constant ≡ holder
  one_by_constant holder constant h c =
      let is = of_constant constant c in
      sym is.2 ∙ as_constant phys.nets h.number h.net.ty is.0
      ((shares_nothing h.number h.net h.has_end.0 h.net_is).own_constant r is.0 h.has_end.1 counts is.1)
      ∙ h.holder_is

  pub one_holder : (one other : NetRef) → Holds rec phys.nets r one
      → Holds rec phys.nets r other → one ≡ other
  one_holder one other (inl a) (inl b) = one_by_wiring one other a b
  one_holder one other (inl a) (inr b) = sym (one_by_constant one other a b)
  one_holder one other (inr a) (inl b) = one_by_constant other one b a
  one_holder one other (inr a) (inr b) = same_Some one other (sym a ∙ b)
