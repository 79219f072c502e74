-- A type more in the table of types.
use Rattle.std.proofs.Common.{◌≡◌, ℕ, ◌+◌, Bool, true, false, List, length, refl, sym, ap, ◌∙◌, subst, Option, Some, None, take, zero, suc, [], ◌∷◌, ◌++◌}
use Rattle.std.specs.Prelude.{◌||◌, nat_eq, is_some, slice_get}
use Rattle.std.proofs.lemmas.List.Folds.{list_any_more}
use Rattle.std.proofs.lemmas.Option.{slice_get_within, get_or_from_slice_get}
use Rattle.ix_keys.specs.Keys.{key_eq, name_key}
use Rattle.ix_keys.specs.declared.key.Key.{Key}
use Rattle.ix_first.specs.First.{value_at, or_later}
use Rattle.ix_first.specs.declared.by_key.FirstByKey.{FirstByKey}
use Rattle.ix_rec.specs.declared.device.CellBelMapping.{CellBelMapping}
use Rattle.ix_types.specs.Known.{HasTypes, is_among}

some_or : {V : Type 0} (o : Option V) (test : Bool) (v : V)
    → is_some (or_later o test v) ≡ (is_some o || test)
some_or (Some x) test v = refl
some_or None true v = refl
some_or None false v = refl

pub type_more : (old new : FirstByKey (Unit {0})) (maps : List CellBelMapping) (i : ℕ) (m : CellBelMapping)
    → slice_get maps i ≡ Some m → HasTypes old (take i maps)
    → ((q : Key) → value_at new q ≡ or_later (value_at old q) (key_eq (name_key m.cell) q) tt)
    → HasTypes new (take (i + 1) maps)
type_more old new maps i m is kept put ty =
    ap is_some (put (name_key ty))
    ∙ some_or (value_at old (name_key ty)) (nat_eq m.cell ty) tt
    ∙ ap (λ (b : Bool). b || nat_eq m.cell ty) (kept ty)
    ∙ ap (λ (x : CellBelMapping). is_among (take i maps) ty || nat_eq x.cell ty) (sym (get_or_from_slice_get maps i m m is))
    ∙ sym (list_any_more (λ (x : CellBelMapping). nat_eq x.cell ty) maps i m (slice_get_within maps i m is))

-- what holds of each item of a list and of one more
pub each_more : {X : Type 0} (P : ℕ → X → Type 0) (xs : List X) (x : X)
    → ((k : ℕ) (y : X) → slice_get xs k ≡ Some y → P k y) → P (length xs) x
    → (k : ℕ) (y : X) → slice_get (xs ++ x ∷ []) k ≡ Some y → P k y
each_more P [] x each here zero y is = subst (P 0) (same x y is) here
  where
    same : {X : Type 0} (x y : X) → Some x ≡ Some y → x ≡ y
    same x y e = cc
each_more P [] x each here (suc k) y is = absurd (no y is)
  where
    no : {X : Type 0} (y : X) → None ≡ Some y → ⊥
    no y e = cc
each_more P (z ∷ xs) x each here zero y is = each 0 y is
each_more P (z ∷ xs) x each here (suc k) y is =
    each_more (λ n. P (suc n)) xs x (λ m w e. each (suc m) w e) here k y is
