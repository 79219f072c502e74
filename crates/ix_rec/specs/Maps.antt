-- The maps of a flat design.
use Rattle.std.specs.Prelude.{◌≡◌, ℕ, T, refl}
use Rattle.std.proofs.Common.{sym, subst}
use Rattle.std.specs.Ordering.{is_eq, ordering_then, nat_cmp}
use Rattle.std.specs.Cmp.{IsTotalOrder, nat_cmp_total, on_total, then_total}
use Rattle.std.specs.FinMap.{IsAntisymmetric, nat_cmp-IsAntisymmetric}
use Rattle.std.specs.declared.cmp.Ordering.{Ordering}
use Rattle.std.specs.declared.cmp.Ordering.TheVariants.{Less, Equal, Greater}

-- pins, each a cell and a name, in the order of their cells, and at one cell of their names
abbrev pub pin_order : ℕ × ℕ → ℕ × ℕ → Ordering
pin_order a b = ordering_then (nat_cmp a.0 b.0) (nat_cmp a.1 b.1)

-- the order's laws, by which a map from pins can be told by what it gives
pub pin_order_total : IsTotalOrder pin_order
pin_order_total = then_total (on_total (λ t. t.0) nat_cmp_total) (on_total (λ t. t.1) nat_cmp_total)

both_equal : (r s : Ordering) → ordering_then r s ≡ Equal → (r ≡ Equal) × (s ≡ Equal)
both_equal Less s e = absurd (subst (λ r. T (is_eq r)) (sym e) tt)
both_equal Equal s e = (refl, e)
both_equal Greater s e = absurd (subst (λ r. T (is_eq r)) (sym e) tt)

pub pin_order-IsAntisymmetric : IsAntisymmetric pin_order
pin_order-IsAntisymmetric a b tie =
    let ties = both_equal (nat_cmp a.0 b.0) (nat_cmp a.1 b.1) tie in
    λ i. (nat_cmp-IsAntisymmetric a.0 b.0 ties.0 i, nat_cmp-IsAntisymmetric a.1 b.1 ties.1 i)
