-- What is known once the signal nets have their numbers.
use Rattle.std.proofs.Common.{◌≡◌, ◌<◌, ap, sym, subst, ◌∙◌, ℕ, List, [], ◌++◌, length, Option, Some, arith, inl, inr}
use Rattle.std.specs.Prelude.{◌⊎◌, slice_get}
use Rattle.std.proofs.lemmas.Option.{slice_get_within}
use Rattle.ix_rec.specs.declared.device.Constants.{Constants}
use Rattle.ix_rec.specs.declared.netlist.NetlistRec.{NetlistRec}
use Rattle.ix_hierarchy.specs.Pins.{Pin}
use Rattle.ix_joined.specs.declared.joined.Joined.{Joined}
use Rattle.ix_joined.specs.declared.state.NetState.{NetState}
use Rattle.ix_joined.specs.Joining.{Known}
use Rattle.ix_wiring.specs.declared.flat_pin.FlatPin.{FlatPin}
use Rattle.ix_flat_pins.specs.Items.{Adds, AreItems, AreNumbersOf, IsListed, IsReady, Parts}
use Rattle.ix_flat_pins.proofs.Adding.{adds_more, item_at}
use Rattle.ix_flat_pins.proofs.Refs.{signal_once}

pub signal_low : (known : Known) (design : NetlistRec) (joined : Joined) (o : Option Constants) (states : List NetState)
    (signals : List ℕ) (parts : Parts) → IsListed known design joined o states signals parts → (n number : ℕ)
    → slice_get signals n ≡ Some number → number < length joined.firsts.items
signal_low known design joined o states signals parts are n number is =
    let at = item_at parts.nets n (omega (arith, slice_get_within signals n number is, are.signals_are.many)) in
    are.joined_is.numbered.below at.0 number (are.signals_are.each n number at.0 is at.1)

pub signals_apart : (known : Known) (design : NetlistRec) (joined : Joined) (o : Option Constants) (states : List NetState)
    (signals : List ℕ) (parts : Parts) → IsListed known design joined o states signals parts → (m n number : ℕ)
    → slice_get signals m ≡ Some number → slice_get signals n ≡ Some number → m ≡ n
signals_apart known design joined o states signals parts are m n number is_m is_n =
    let a = item_at parts.nets m (omega (arith, slice_get_within signals m number is_m, are.signals_are.many)) in
    let b = item_at parts.nets n (omega (arith, slice_get_within signals n number is_n, are.signals_are.many)) in
    let same : a.0 ≡ b.0 = are.joined_is.numbered.one a.0 b.0 number (are.signals_are.each m number a.0 is_m a.1) (are.signals_are.each n number b.0 is_n b.1) in
    signal_once known design parts.nets are.signals_are.are m n a.0 a.1 (b.1 ∙ ap Some (sym same))

pub ready : (known : Known) (design : NetlistRec) (joined : Joined) (o : Option Constants) (states : List NetState)
    (signals numbers : List ℕ) (parts : Parts) → IsListed known design joined o states signals parts
    → AreNumbersOf signals numbers → length numbers ≡ length joined.firsts.items
    → IsReady known design joined o states numbers parts
ready known design joined o states signals numbers parts listed are many =
    record { signals = signals; listed = listed; numbers_are = are; numbers_many = many }

pub joined_items : (known : Known) (design : NetlistRec) (parts : Parts) (P Q : Pin → ℕ → Type 0) (old mid new : List FlatPin)
    → old ≡ [] → Adds known design parts P old mid → Adds known design parts Q mid new
    → AreItems known design parts (λ pin cell. P pin cell ⊎ Q pin cell) new
joined_items known design parts P Q old mid new none a b =
    let c = adds_more known design parts P Q (λ pin cell. P pin cell ⊎ Q pin cell) old mid new
    (λ pin cell h. h) (λ pin cell h. inl h) (λ pin cell h. inr h) a b in
    let all : new ≡ c.0 = c.1 ∙ ap (λ (xs : List FlatPin). xs ++ c.0) none in
    subst (λ (xs : List FlatPin). AreItems known design parts (λ pin cell. P pin cell ⊎ Q pin cell) xs) (sym all) c.2
