-- One item more.
use Rattle.std.proofs.Common.{◌≡◌, ◌⊎◌, ◌<◌, ◌≤◌, ◌+◌, ◌^◌, ◌∙◌, ap, sym, refl, subst, ℕ}
use Rattle.std.proofs.Common.{List, [], ◌∷◌, ◌++◌, length, take, map, get_or, Bool, true, false}
use Rattle.std.proofs.Common.{◌||◌, arith, inl, inr}
use Rattle.std.specs.Prelude.{not, nat_eq, slice_get, Some, if◌then◌else◌}
use Rattle.std.specs.Bool.{Decides}
use Rattle.std.specs.List.{list_any, filter, AllByRecursion}
use Rattle.std.proofs.Math.Nat.{pow-le-pow_right}
use Rattle.std.proofs.lemmas.Bool.{false≢true, ne_eqb}
use Rattle.std.proofs.lemmas.List.{append-nil}
use Rattle.std.proofs.lemmas.List.Elements.{filter_more, recursion_from_All}
use Rattle.std.proofs.lemmas.List.Folds.{list_any_more}
use Rattle.std.proofs.lemmas.Option.{slice_get_within, get_or_from_slice_get, slice_get-get_or}
use Rattle.ix_num.specs.Numbers.{NameNumber}
use Rattle.ix_rec.specs.declared.device.CellBelMapping.{CellBelMapping}
use Rattle.ix_rec.specs.declared.phys.Phys.{Phys}
use Rattle.ix_rec.specs.declared.phys.PhysNet.{PhysNet}
use Rattle.ix_rec.specs.declared.phys.NetType.{NetType}
use Rattle.ix_rec.specs.declared.phys.NetType.TheVariants.{Signal, Gnd, Vcc}
use Rattle.ix_device_rules.specs.Rules.{is_new}
use Rattle.ix_legal.specs.Holders.{is_of_type, nets_of_type}
use Rattle.ix_legal.specs.Names.{NetIsAlone, NetIsNamed}
use Rattle.ix_walk.specs.Marks.{Marks, has_mark, AreNamesOf}
use Rattle.ix_walk.specs.Listed.{nat_eq_sym, new_among, named_push}
use Rattle.ix_walk.specs.Firsts.{AllFit}
use Rattle.ix_named_there.specs.declared.nets.Met.{Met}
use Rattle.ix_named_there.specs.Met.{AreMet, MeetsNext, Meets}
use Rattle.ix_named_there.specs.Parts.{AreCellTypes, name_of}

-- fewer than 16 digits leave room for one more
pub few_digits : (bits i : ℕ) → bits < 16 ^ i → i < 16 → bits < 2 ^ 60
few_digits bits i below few =
    let most : 16 ^ i ≤ 2 ^ 60
    = pow-le-pow_right {n = 16} (omega arith) {i = i} {j = 15} (omega arith) in
    omega (arith, below, most)

any_next : {A : Type 0} (test : A → Bool) (xs : List A) (n : ℕ) (x : A) → slice_get xs n ≡ Some x
    → list_any test (take (n + 1) xs) ≡ (list_any test (take n xs) || test x)
any_next test xs n x at = list_any_more test xs n x (slice_get_within xs n x at)
    ∙ ap (λ y. list_any test (take n xs) || test y) (get_or_from_slice_get xs n x x at)

or_turned : (a b : Bool) → (a || b) ≡ (b || a)
or_turned true true = refl
or_turned true false = refl
or_turned false true = refl
or_turned false false = refl

or_false : (a : Bool) → (a || false) ≡ a
or_false true = refl
or_false false = refl

-- a cell type more
pub one_more_type : (listed : List CellBelMapping) (count n : ℕ) (m : CellBelMapping)
    (before after : Marks) → slice_get listed n ≡ Some m
    → AreCellTypes (take n listed) count before
    → ((other : NameNumber) → has_mark after other ≡ (nat_eq other m.cell || has_mark before other))
    → length after ≡ length before → AreCellTypes (take (n + 1) listed) count after
one_more_type listed count n m before after at was marks many = record {
  marked = λ name inside. marks name ∙ ap (λ b. nat_eq name m.cell || b) (was.marked name inside)
      ∙ or_turned (nat_eq name m.cell) (list_any (λ k. nat_eq k.cell name) (take n listed))
      ∙ ap (λ b. list_any (λ k. nat_eq k.cell name) (take n listed) || b) (nat_eq_sym name m.cell)
      ∙ sym (any_next (λ k. nat_eq k.cell name) listed n m at);
  many = many ∙ was.many;
}

pub type_past : (listed : List CellBelMapping) (count n : ℕ) (m : CellBelMapping)
    (types : Marks) → slice_get listed n ≡ Some m → count ≤ m.cell
    → AreCellTypes (take n listed) count types → AreCellTypes (take (n + 1) listed) count types
type_past listed count n m types at past was = record {
  marked = λ name inside. was.marked name inside
      ∙ sym (or_false (list_any (λ k. nat_eq k.cell name) (take n listed)))
      ∙ ap (λ b. list_any (λ k. nat_eq k.cell name) (take n listed) || b)
      (sym (ne_eqb m.cell name (λ same. omega (arith, past, inside, same))))
      ∙ sym (any_next (λ k. nat_eq k.cell name) listed n m at);
  many = was.many;
}

-- Nets.

-- none passes, or some do
filtered : {A : Type 0} (test : A → Bool) (xs : List A)
    → ((list_any test xs ≡ false) × (length (filter test xs) ≡ 0))
    ⊎ ((list_any test xs ≡ true) × (0 < length (filter test xs)))
filtered test [] = inl (refl, refl)
filtered {A} test (x ∷ xs) = by (test x) (filtered test xs)
  where
    by : (b : Bool) → ((list_any test xs ≡ false) × (length (filter test xs) ≡ 0))
        ⊎ ((list_any test xs ≡ true) × (0 < length (filter test xs)))
        → (((b || list_any test xs) ≡ false)
        × (length (if b then x ∷ filter test xs else filter test xs) ≡ 0))
        ⊎ (((b || list_any test xs) ≡ true)
        × (0 < length (if b then x ∷ filter test xs else filter test xs)))
    by true h = inr (refl, omega arith)
    by false h = h

-- a net of a constant is alone where none of that constant was met
alone_constant : (ty : NetType) (nets : List PhysNet) (met alone : Bool)
    → met ≡ list_any (λ net. is_of_type ty net.ty) nets → alone ≡ not met
    → Decides alone (length (nets_of_type ty nets) ≡ 0)
alone_constant ty nets met alone is alone_is = by (filtered (λ net. is_of_type ty net.ty) nets)
  where
    by : ((list_any (λ net. is_of_type ty net.ty) nets ≡ false)
        × (length (nets_of_type ty nets) ≡ 0))
        ⊎ ((list_any (λ net. is_of_type ty net.ty) nets ≡ true)
        × (0 < length (nets_of_type ty nets)))
        → Decides alone (length (nets_of_type ty nets) ≡ 0)
    by (inl h) = (λ yes_it. h.1, λ none. alone_is ∙ ap not (is ∙ h.0))
    by (inr h) = (
      λ yes_it. absurd (false≢true (sym (alone_is ∙ ap not (is ∙ h.0)) ∙ yes_it)),
      λ none. absurd (omega (arith, h.1, none)),
    )

pub alone_decides : (phys : Phys) (room n : ℕ) (net : PhysNet) (before after : Met) (alone : Bool)
    → AreMet (take n phys.nets) room before → MeetsNext before after net alone
    → Decides alone (NetIsNamed phys n net)
alone_decides phys room n net before after alone were meets = by net.ty meets
  where
    by : (ty : NetType) → Meets ty before after net.name alone
        → Decides alone (NetIsAlone ty net.name (nets_of_type ty (take n phys.nets)))
    by Signal m =
        let new : is_new (map name_of (nets_of_type Signal (take n phys.nets))) net.name ≡ alone
        = new_among name_of (nets_of_type Signal (take n phys.nets)) before.signals net.name alone
        were.signals m.0 in
        (λ yes_it. new ∙ yes_it, λ is. sym new ∙ is)
    by Gnd m = alone_constant Gnd (take n phys.nets) before.gnd alone were.gnd m.0
    by Vcc m = alone_constant Vcc (take n phys.nets) before.vcc alone were.vcc m.0

of_type_next : (ty : NetType) (nets : List PhysNet) (n : ℕ) (net : PhysNet)
    → slice_get nets n ≡ Some net → (b : Bool) → is_of_type ty net.ty ≡ b
    → nets_of_type ty (take (n + 1) nets)
    ≡ nets_of_type ty (take n nets) ++ (if b then net ∷ [] else [])
of_type_next ty nets n net at b is =
    filter_more (λ k. is_of_type ty k.ty) nets n net (slice_get_within nets n net at)
    ∙ ap (λ k. nets_of_type ty (take n nets) ++ (if is_of_type ty k.ty then k ∷ [] else []))
    (get_or_from_slice_get nets n net net at)
    ∙ ap (λ t. nets_of_type ty (take n nets) ++ (if t then net ∷ [] else [])) is

-- whether a net of a type was met, one net later
flag_next : (ty : NetType) (nets : List PhysNet) (n : ℕ) (net : PhysNet) (before after b : Bool)
    → slice_get nets n ≡ Some net → before ≡ list_any (λ k. is_of_type ty k.ty) (take n nets)
    → is_of_type ty net.ty ≡ b → after ≡ (before || b)
    → after ≡ list_any (λ k. is_of_type ty k.ty) (take (n + 1) nets)
flag_next ty nets n net before after b at was is after_is =
    after_is ∙ ap (λ t. t || b) was
    ∙ ap (λ t. list_any (λ k. is_of_type ty k.ty) (take n nets) || t) (sym is)
    ∙ sym (any_next (λ k. is_of_type ty k.ty) nets n net at)

or_true : (a : Bool) → (a || true) ≡ true
or_true true = refl
or_true false = refl

-- a net more was met
pub one_more_met : (phys : Phys) (room n : ℕ) (net : PhysNet) (before after : Met) (alone : Bool)
    → slice_get phys.nets n ≡ Some net → AreMet (take n phys.nets) room before
    → MeetsNext before after net alone → AreMet (take (n + 1) phys.nets) room after
one_more_met phys room n net before after alone at were meets = by net.ty refl meets
  where
    signals_stay : (ty : NetType) → net.ty ≡ ty → is_of_type Signal ty ≡ false
        → after.signals ≡ before.signals
        → AreNamesOf name_of (nets_of_type Signal (take (n + 1) phys.nets)) after.signals
    signals_stay ty ty_is other same name =
        ap (λ marks. has_mark marks name) same ∙ were.signals name
        ∙ ap (λ xs. list_any (nat_eq name) (map name_of xs))
        (sym (of_type_next Signal phys.nets n net at false (ap (is_of_type Signal) ty_is ∙ other)
        ∙ append-nil (nets_of_type Signal (take n phys.nets))))

    by : (ty : NetType) → net.ty ≡ ty → Meets ty before after net.name alone
        → AreMet (take (n + 1) phys.nets) room after
    by Signal is m = record {
      signals = subst (λ xs. AreNamesOf name_of xs after.signals)
          (sym (of_type_next Signal phys.nets n net at true (ap (is_of_type Signal) is)))
          (named_push name_of (nets_of_type Signal (take n phys.nets)) net before.signals
          after.signals were.signals m.1);
      gnd = flag_next Gnd phys.nets n net before.gnd after.gnd false at were.gnd
          (ap (is_of_type Gnd) is) (m.3 ∙ sym (or_false before.gnd));
      vcc = flag_next Vcc phys.nets n net before.vcc after.vcc false at were.vcc
          (ap (is_of_type Vcc) is) (m.4 ∙ sym (or_false before.vcc));
      many = m.2 ∙ were.many;
    }
    by Gnd is m = record {
      signals = signals_stay Gnd is refl m.3;
      gnd = flag_next Gnd phys.nets n net before.gnd after.gnd true at were.gnd
          (ap (is_of_type Gnd) is) (m.1 ∙ sym (or_true before.gnd));
      vcc = flag_next Vcc phys.nets n net before.vcc after.vcc false at were.vcc
          (ap (is_of_type Vcc) is) (m.2 ∙ sym (or_false before.vcc));
      many = ap length m.3 ∙ were.many;
    }
    by Vcc is m = record {
      signals = signals_stay Vcc is refl m.3;
      gnd = flag_next Gnd phys.nets n net before.gnd after.gnd false at were.gnd
          (ap (is_of_type Gnd) is) (m.2 ∙ sym (or_false before.gnd));
      vcc = flag_next Vcc phys.nets n net before.vcc after.vcc true at were.vcc
          (ap (is_of_type Vcc) is) (m.1 ∙ sym (or_true before.vcc));
      many = ap length m.3 ∙ were.many;
    }

-- what holds of all items by their places holds of all
pub by_recursion : {A : Type 0} (P : A → Type 0) (xs : List A) (n : ℕ) → length xs ≤ n
    → AllFit (λ i. P) xs n → AllByRecursion P xs
by_recursion P xs n end fit = recursion_from_All P xs
    (λ k d lt. fit k (get_or xs k d) (omega (arith, end, lt)) (slice_get-get_or xs k d lt))
