-- The nets of a flat design.
use Rattle.std.proofs.Common.{◌≡◌, ◌⊎◌, ◌<◌, ◌≤◌, ◌∙◌, ap, sym, subst, refl, ℕ, List}
use Rattle.std.proofs.Common.{length, map, slice_get, Option, Some, None, option_map, inl, inr}
use Rattle.std.proofs.Common.{get_or}
use Rattle.std.proofs.Common.{arith}
use Rattle.std.proofs.lemmas.Bool.{cases_lt}
use Rattle.std.proofs.lemmas.Option.{same_Some, none-some, slice_get_within, slice_get-map}
use Rattle.std.proofs.lemmas.Option.{slice_get_cases}
use Rattle.ix_message.specs.Shape.{Text}
use Rattle.ix_rec.specs.declared.device.DeviceRec.{DeviceRec}
use Rattle.ix_rec.specs.declared.flow.Flat.{Flat}
use Rattle.ix_rec.specs.declared.flow.FlatNet.{FlatNet}
use Rattle.ix_rec.specs.declared.netlist.NetlistRec.{NetlistRec}
use Rattle.ix_hierarchy.specs.Nets.{spot_of}
use Rattle.ix_hierarchy.specs.FlatDesign.{IsFlatOf}
use Rattle.ix_hierarchy.specs.FlatDesign.{IsNetText}
use Rattle.ix_hierarchy.specs.Broken.{BreaksN5, NoneBreaks}

-- a list of the same length has an item there too
pub item_at : {A B : Type 0} (xs : List A) (ys : List B) (k : ℕ) (x : A)
    → length ys ≡ length xs → slice_get xs k ≡ Some x → (y : B) × (slice_get ys k ≡ Some y)
item_at {B = B} xs ys k x same at = by ((slice_get_cases ys k).1)
  where
    by : ((y : B) × (k < length ys) × (slice_get ys k ≡ Some y) × (get_or ys k y ≡ y))
        ⊎ ((length ys ≤ k) × (slice_get ys k ≡ None)) → (y : B) × (slice_get ys k ≡ Some y)
    by (inl h) = (h.0, h.2)
    by (inr h) = absurd (omega (arith, h.0, same, slice_get_within xs k x at))

net_named : (nets : List FlatNet) (k x : ℕ)
    → slice_get (map (λ (net : FlatNet). net.name) nets) k ≡ Some x
    → (net : FlatNet) × (slice_get nets k ≡ Some net) × (net.name ≡ x)
net_named nets k x at = by (slice_get nets k) refl
    (sym (slice_get-map (λ (net : FlatNet). net.name) nets k) ∙ at)
  where
    by : (o : Option FlatNet) → slice_get nets k ≡ o
        → option_map (λ (net : FlatNet). net.name) o ≡ Some x
        → (net : FlatNet) × (slice_get nets k ≡ Some net) × (net.name ≡ x)
    by None is h = absurd (none-some x h)
    by (Some net) is h = (net, is, same_Some net.name x h)

pub nets_differ : (names : List Text) (rec : DeviceRec) (design : NetlistRec) (flat : Flat)
    (is : IsFlatOf rec names design flat)
    → NoneBreaks (λ s. (text : Text) × BreaksN5 names rec design s text) → (i j x : ℕ)
    → slice_get (map (λ (net : FlatNet). net.name) flat.nets) i ≡ Some x
    → slice_get (map (λ (net : FlatNet). net.name) flat.nets) j ≡ Some x → i ≡ j
nets_differ names rec design flat is keeps i j x at_i at_j = by (cases_lt i j) (cases_lt j i)
  where
    never : (p q : ℕ) → p < q
        → slice_get (map (λ (net : FlatNet). net.name) flat.nets) p ≡ Some x
        → slice_get (map (λ (net : FlatNet). net.name) flat.nets) q ≡ Some x → ⊥
    never p q lt at_p at_q =
        let c = net_named flat.nets p x at_p in let d = net_named flat.nets q x at_q in
        let s = item_at flat.nets is.signals p c.0 (sym is.nets_count) c.1 in
        let t = item_at flat.nets is.signals q d.0 (sym is.nets_count) d.1 in
        let u = is.net_names p c.0 s.0 c.1 s.1 in let v = is.net_names q d.0 t.0 d.1 t.1 in
        let same : u.0 ≡ v.0 = same_Some u.0 v.0
        (sym u.1 ∙ ap (slice_get names) (c.2 ∙ sym d.2) ∙ v.1) in
        keeps (spot_of t.0) (
          u.0,
          inr record {
            here = (
              is.are_signals.each q t.0 t.1,
              subst (λ text. IsNetText names design t.0 text)
                  (sym same) v.2,
            );
            other = spot_of s.0;
            before = is.are_signals.rise p q s.0 t.0 lt s.1 t.1;
            there = (is.are_signals.each p s.0 s.1, u.2);
          },
        )

    by : (i < j) ⊎ (j ≤ i) → (j < i) ⊎ (i ≤ j) → i ≡ j
    by (inl lt) c = absurd (never i j lt at_i at_j)
    by (inr le) (inl lt) = absurd (never j i lt at_j at_i)
    by (inr le) (inr ge) = omega (arith, le, ge)
