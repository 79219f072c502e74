use Rattle.std.proofs.Common.{ℕ, ap, sym, subst, ◌∙◌, ◌++◌, ◌∷◌, [], rules}
use Rattle.std.proofs.lemmas.List.Sorted.{IsNonDecreasingBy-from_sort_by_key}
use Rattle.std.specs.List.Sorted.{IsNonDecreasingBy}
use Rattle.ix_device.specs.PinsListed.{pins_listed}
use Rattle.ix_first_fit.proofs.Walks.{take_next}
use Rattle.ix_first_fit.proofs.pin_map.sorted_pins.Goals as goal

pub loop-i-preserved : goal.loop-i-preserved
loop-i-preserved c = c.in_ok-push.ensures.items ∙ ap (λ l. l ++ c.at.result ∷ []) c.loop-i.invariant ∙ sym (take_next (pins_listed c.args.pins.now) c.loop-i.i c.at.result c.at.ensures)

pub returns-clause-rises : goal.returns-clause-rises
returns-clause-rises c = subst (λ l. IsNonDecreasingBy (λ (pin : ℕ × ℕ). pin.1) l) (sym c.from_vec.ensures) (IsNonDecreasingBy-from_sort_by_key (λ pin. pin.1) _ c.in_ok-sort_by_key.ensures.sorted (λ a r q k. search rules))
