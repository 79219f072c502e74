-- Parts that are taken off.
use Rattle.std.proofs.Common.{◌≡◌, ℕ, zero, suc, ◌+◌, ◌-◌, ◌<◌, List, [], ◌∷◌, ◌++◌, length}
use Rattle.std.proofs.Common.{slice_get, Option, Some, None, sym, ap, ◌∙◌, subst, arith}
use Rattle.std.proofs.Common.{append_assoc}
use Rattle.std.specs.Option.{option_to_list}
use Rattle.std.proofs.lemmas.Option.{same_Some}
use Rattle.std.proofs.lemmas.List.{append-nil}
use Rattle.ix_reach.specs.State.{AreGone}
use Rattle.ix_reach.proofs.Places.{get_push, length_push, one_item}

pub last_pushed : {X : Type 0} (xs : List X) (x : X)
    → slice_get (xs ++ x ∷ []) (length (xs ++ x ∷ []) - 1) ≡ Some x
last_pushed xs x = let e : length (xs ++ x ∷ []) ≡ length xs + 1 = length_push xs x in
    get_push xs x (length (xs ++ x ∷ []) - 1) (omega arith)

pub part_gone : (all kept now : List ℕ) (o : Option ℕ) (place part : ℕ)
    → AreGone all place kept → kept ≡ now ++ option_to_list o
    → slice_get kept (length kept - 1) ≡ Some part → place < part → AreGone all place now
part_gone all kept now None place part h is last lt = record {
  rest = h.rest;
  is = h.is ∙ ap (λ l. l ++ h.rest) (is ∙ append-nil now);
  gone = h.gone;
}
part_gone all kept now (Some x) place part h is last lt = record {
  rest = x ∷ h.rest;
  is = h.is ∙ ap (λ l. l ++ h.rest) is ∙ append_assoc now (x ∷ []) h.rest;
  gone = by;
}
  where
    same : part ≡ x
    same = one_item (slice_get kept (length kept - 1)) part x last
        (subst (λ l. slice_get l (length l - 1) ≡ Some x) (sym is) (last_pushed now x))

    by : (i p : ℕ) → slice_get (x ∷ h.rest) i ≡ Some p → place < p
    by zero p e = let one : x ≡ p = same_Some x p e in let two : part ≡ x = same in omega arith
    by (suc i) p e = h.gone i p e
