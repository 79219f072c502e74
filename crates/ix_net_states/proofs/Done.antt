-- The states of all nets, for the pins that were gone through.
use Rattle.std.proofs.Common.{◌≡◌, ◌<◌, ap, sym, subst, ◌∙◌, ℕ, List, slice_get, Some}
use Rattle.std.proofs.Common.{length, inl, inr}
use Rattle.std.proofs.Math.ListN.{set}
use Rattle.std.proofs.lemmas.List.{length-set}
use Rattle.std.proofs.lemmas.Bool.Decides.{eqb_tells}
use Rattle.std.proofs.lemmas.Option.{same_Some, slice_get_within}
use Rattle.ix_rec.specs.declared.netlist.NetlistRec.{NetlistRec}
use Rattle.ix_hierarchy.specs.Pins.{Pin}
use Rattle.ix_joined.specs.declared.joined.Joined.{Joined}
use Rattle.ix_joined.specs.declared.pin.Role.{Role}
use Rattle.ix_joined.specs.declared.state.NetState.{NetState}
use Rattle.ix_joined.specs.Joining.{Known, IsJoined}
use Rattle.ix_joined.specs.Roles.{with_role}
use Rattle.ix_joined.specs.States.{IsState}
use Rattle.ix_pins.specs.Places.{HasRole}
use Rattle.ix_net_states.specs.Least.{AreStatesOf}
use Rattle.ix_net_states.proofs.Adding.{Among, More, same_pins, with_pin}
use Rattle.ix_net_states.proofs.OneNet.{OnNumber, one_number}
use Rattle.ix_net_states.proofs.Sets.{set_here, set_other}

-- other words for the pins
pub same_done : (known : Known) (design : NetlistRec) (joined : Joined) (Done Done' : Pin → Type 0)
    (states : List NetState) → ((p : Pin) (net : ℕ) → OnNumber known design joined p net → Done p
    → Done' p) → ((p : Pin) (net : ℕ) → OnNumber known design joined p net → Done' p → Done p)
    → AreStatesOf known design joined Done states → AreStatesOf known design joined Done' states
same_done known design joined Done Done' states there back are = record {
  many = are.many;
  each = λ net state h.
      same_pins known.names known.device design (Among Done (λ p. OnNumber known design joined p net))
      (Among Done' (λ p. OnNumber known design joined p net)) state
      (λ p on. (there p net on.1 on.0, on.1)) (λ p on. (back p net on.1 on.0, on.1))
      (are.each net state h);
}

-- one pin more
pub one_pin : (known : Known) (design : NetlistRec) (joined : Joined) (Done : Pin → Type 0)
    (states : List NetState) (pin : Pin) (net : ℕ) (role : Role) (state : NetState)
    → IsJoined known design joined → AreStatesOf known design joined Done states
    → OnNumber known design joined pin net → (Done pin → ⊥)
    → HasRole known.names known.device design pin role → slice_get states net ≡ Some state
    → AreStatesOf known design joined (More Done pin) (set states net (with_role state role))
one_pin known design joined Done states pin net role state known_are are on new has h =
    let lt : net < length states = slice_get_within states net state h in
    record {
      many = length-set states net (with_role state role) ∙ are.many;
      each = λ m other at.
          elim (eqb_tells net m) [
            | inl same ↦
                let here : slice_get (set states net (with_role state role)) m
                ≡ Some (with_role state role) =
                ap (slice_get (set states net (with_role state role))) (sym same.1)
                ∙ set_here states net (with_role state role) lt in
                let found : with_role state role ≡ other =
                same_Some (with_role state role) other (sym here ∙ at) in
                subst (λ (s : NetState). IsState known.names known.device design
                (Among (More Done pin) (λ p. OnNumber known design joined p m)) s) found
                (with_pin known.names known.device design Done (λ p. OnNumber known design joined p m)
                pin role state has (subst (OnNumber known design joined pin) same.1 on) new
                (subst (λ n. IsState known.names known.device design
                (Among Done (λ p. OnNumber known design joined p n)) state) same.1
                (are.each net state h)))
            | inr differ ↦
                let before : slice_get states m ≡ Some other =
                sym (set_other states net m (with_role state role) differ.1) ∙ at in
                same_pins known.names known.device design
                (Among Done (λ p. OnNumber known design joined p m))
                (Among (More Done pin) (λ p. OnNumber known design joined p m)) other
                (λ p o. (inl o.0, o.1))
                (λ p o. elim o.0 [
                  | inl old ↦ (old, o.1)
                  | inr same ↦ absurd (differ.1 (one_number known design joined pin net m known_are
                      on (subst (λ q. OnNumber known design joined q m) same o.1)))
                ])
                (are.each m other before)
          ];
    }
