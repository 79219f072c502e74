-- Cells and signal nets, one more at a time.
use Rattle.std.proofs.Common.{◌≡◌, ◌<◌, ◌≤◌, ◌+◌, ◌∙◌, refl, ap, sym, subst, ℕ, arith, inl, inr}
use Rattle.std.proofs.Common.{List, [], ◌∷◌, ◌++◌, length, map, take, slice_get, Some}
use Rattle.std.proofs.Common.{Bool, true, false, suc, if◌then◌else◌}
use Rattle.std.specs.List.{filter}
use Rattle.std.proofs.lemmas.Bool.{cases_lt}
use Rattle.std.proofs.lemmas.List.{map_push, take_more, length-append, length-map, length-take-le}
use Rattle.std.proofs.lemmas.List.{take_all, append-nil}
use Rattle.std.proofs.lemmas.List.Elements.{filter-append}
use Rattle.std.proofs.lemmas.Option.{slice_get_within, get_or_from_slice_get}
use Rattle.ix_ends.proofs.Items.{into_first, into_second}
use Rattle.ix_rec.specs.declared.flow.FlatNet.{FlatNet}
use Rattle.ix_rec.specs.declared.phys.NetType.{NetType}
use Rattle.ix_rec.specs.declared.phys.NetType.TheVariants.{Signal, Gnd, Vcc}
use Rattle.ix_rec.specs.declared.phys.PhysNet.{PhysNet}
use Rattle.ix_legal.specs.Holders.{is_of_type, nets_of_type}
use Rattle.ix_extract.specs.Extracted.{net_of}
use Rattle.ix_extract.specs.Taken.{AreRanks, AreSignals}

pub take_next : {A : Type 0} (xs : List A) (n : ℕ) (x : A) → slice_get xs n ≡ Some x
    → take (n + 1) xs ≡ take n xs ++ x ∷ []
take_next xs n x is = take_more xs n x (slice_get_within xs n x is)
    ∙ ap (λ y. take n xs ++ y ∷ []) (get_or_from_slice_get xs n x x is)

-- one item more of a list that is mapped
pub map_next : {A B : Type 0} (f : A → B) (xs : List A) (n : ℕ) (x : A) (ys : List B)
    → slice_get xs n ≡ Some x → ys ≡ map f (take n xs)
    → ys ++ f x ∷ [] ≡ map f (take (n + 1) xs)
map_next f xs n x ys is was = ap (λ l. l ++ f x ∷ []) was ∙ sym (map_push f (take n xs) x)
    ∙ ap (map f) (sym (take_next xs n x is))

pub map_whole : {A B : Type 0} (f : A → B) (xs : List A) (n : ℕ) (ys : List B) → length xs ≤ n
    → ys ≡ map f (take n xs) → ys ≡ map f xs
map_whole f xs n ys end is = is ∙ ap (map f) (take_all n xs end)

-- of items that are told apart
filter_less : {A : Type 0} (p : A → Bool) (xs : List A) → length (filter p xs) ≤ length xs
filter_less p [] = omega arith
filter_less {A} p (x ∷ xs) = by (p x) (filter_less p xs)
  where
    by : (b : Bool) → length (filter p xs) ≤ length xs
        → length (if b then x ∷ filter p xs else filter p xs) ≤ suc (length xs)
    by true h = omega (arith, h)
    by false h = omega (arith, h)

-- Signal nets.
module _ (nets : List PhysNet) where
  abbrev signals_to : ℕ → List PhysNet
  signals_to n = nets_of_type Signal (take n nets)

  pub no_signals : AreSignals nets 0 [] []
  no_signals = record {
    ranks_are = record { all = refl; each = λ n lt. absurd (omega (arith, lt)) };
    signals_are = refl;
  }

  pub few_signals : (n : ℕ) (signals : List FlatNet) (ranks : List ℕ) → n ≤ length nets
      → AreSignals nets n signals ranks → length signals ≤ n
  few_signals n signals ranks le are =
      let same : length signals ≡ length (signals_to n) = ap length are.signals_are
      ∙ length-map (signals_to n) net_of in
      let less : length (signals_to n) ≤ length (take n nets) =
      filter_less (λ net. is_of_type Signal net.ty) (take n nets) in
      let taken : length (take n nets) ≡ n = length-take-le n nets le in
      omega (arith, same, less, taken)

  module _ (n : ℕ) (net : PhysNet) (signals : List FlatNet) (ranks : List ℕ)
      (is : slice_get nets n ≡ Some net) (are : AreSignals nets n signals ranks) where
    ranked : AreRanks nets (n + 1) (ranks ++ length signals ∷ [])
    ranked = record {
      all = length-append ranks (length signals ∷ []) ∙ ap (λ k. k + 1) are.ranks_are.all;
      each = each;
    }
      where
        each : (m : ℕ) → m < n + 1
            → slice_get (ranks ++ length signals ∷ []) m ≡ Some (length (signals_to m))
        each m lt = elim (cases_lt m n) [
          | inl less ↦ into_first ranks (length signals ∷ []) m (length (signals_to m))
              (are.ranks_are.each m less)
          | inr le ↦
              let all = are.ranks_are.all in
              let same : m ≡ n = omega (arith, lt, le) in
              into_second ranks (length signals ∷ []) m 0 (length (signals_to m))
              (omega (arith, all, same)) (ap Some (ap length are.signals_are
              ∙ length-map (signals_to n) net_of ∙ ap (λ k. length (signals_to k)) (sym same)))
        ]

    abbrev one : (b : Bool) → List PhysNet
    one b = if b then net ∷ [] else []

    signals_next : signals_to (n + 1) ≡ signals_to n ++ one (is_of_type Signal net.ty)
    signals_next = ap (nets_of_type Signal) (take_next nets n net is)
        ∙ filter-append (λ m. is_of_type Signal m.ty) (take n nets) (net ∷ [])

    pub signal_next : is_of_type Signal net.ty ≡ true
        → AreSignals nets (n + 1) (signals ++ net_of net ∷ []) (ranks ++ length signals ∷ [])
    signal_next signal = record {
      ranks_are = ranked;
      signals_are = ap (λ l. l ++ net_of net ∷ []) are.signals_are
          ∙ sym (map_push net_of (signals_to n) net)
          ∙ ap (map net_of) (sym (signals_next ∙ ap (λ b. signals_to n ++ one b) signal));
    }

    pub other_next : is_of_type Signal net.ty ≡ false
        → AreSignals nets (n + 1) signals (ranks ++ length signals ∷ [])
    other_next other = record {
      ranks_are = ranked;
      signals_are = are.signals_are
          ∙ ap (map net_of) (sym (signals_next ∙ ap (λ b. signals_to n ++ one b) other
          ∙ append-nil (signals_to n)));
    }

pub signals_so : (nets : List PhysNet) (n : ℕ) (a b : List FlatNet) (r s : List ℕ) → b ≡ a
    → s ≡ r → AreSignals nets n a r → AreSignals nets n b s
signals_so nets n a b r s nets_same ranks_same are =
    subst (λ l. AreSignals nets n l s) (sym nets_same)
    (subst (AreSignals nets n a) (sym ranks_same) are)

pub not_signal : (ty : NetType) → (ty ≡ Signal → ⊥) → is_of_type Signal ty ≡ false
not_signal Signal other = absurd (other refl)
not_signal Gnd other = refl
not_signal Vcc other = refl
