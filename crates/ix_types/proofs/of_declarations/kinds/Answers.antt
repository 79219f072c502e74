use Rattle.std.proofs.Common.{◌≡◌, sym, subst, ℕ, ◌++◌, [], ◌∷◌, length, Some, arith, List}
use Rattle.std.specs.Prelude.{slice_get}
use Rattle.ix_hierarchy.specs.declared.kind.Kind.{Kind}
use Rattle.ix_hierarchy.specs.Lists.{IsKind}
use Rattle.ix_types.proofs.Types.{each_more}
use Rattle.ix_types.proofs.of_declarations.kinds.Goals as goal

pub loop-declaration-preserved : goal.loop-declaration-preserved
loop-declaration-preserved c =
    let kinds : List Kind = c.loop-declaration.kinds.items in
    let pushed : c.push.new.self.items ≡ kinds ++ c.kind_of.result ∷ [] = c.in_ok-push.ensures.items in
    let here : IsKind c.args.device.now c.args.rec.now (length kinds) c.kind_of.result =
    subst (λ (n : ℕ). IsKind c.args.device.now c.args.rec.now n c.kind_of.result) (sym c.loop-declaration.invariant.many) c.kind_of.ensures in
    let more = each_more (λ d kind. IsKind c.args.device.now c.args.rec.now d kind) kinds c.kind_of.result c.loop-declaration.invariant.each here in
    record {
      many = omega (arith, c.in_ok-push.ensures.len, c.loop-declaration.invariant.many);
      each = λ d kind is. more d kind (subst (λ (xs : List Kind). slice_get xs d ≡ Some kind) pushed is);
    }
