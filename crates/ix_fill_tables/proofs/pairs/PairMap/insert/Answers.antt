use Rattle.std.proofs.Common.{◌∙◌, ◌+◌, ◌≤◌, ap, subst, sym, arith, ℕ, Bool, true, false, cond}
use Rattle.ix_rec.specs.Maps.{pin_order, pin_order_total, pin_order-IsAntisymmetric}
use Rattle.std.specs.FinMap as map
use Rattle.ix_rec.proofs.MapLemmas.{insert-tree, get-insert_same, get-insert_other}
use Rattle.ix_fill_tables.proofs.pairs.PairMap.insert.Goals as goal

pub returns-clause-ok : goal.returns-clause-ok
returns-clause-ok g c = insert-tree pin_order _ c.self.invariant pin_order_total
    (c.args.first, c.args.second) c.args.value _ c.insert.ensures.ordered
    c.in_ok-insert.ensures.entries
    ∙ ap (λ m. map.insert m (c.args.first, c.args.second) c.args.value) c.self.view_is

pub returns-clause-value : goal.returns-clause-value
returns-clause-value g c =
    ap (λ m. map.get m (c.args.first, c.args.second)) (returns-clause-ok g c)
    ∙ get-insert_same pin_order_total pin_order-IsAntisymmetric c.args.self.now
    (c.args.first, c.args.second) c.args.value

pub returns-clause-others : goal.returns-clause-others
returns-clause-others g c q other = ap (λ m. map.get m q) (returns-clause-ok g c)
    ∙ get-insert_other pin_order_total pin_order-IsAntisymmetric c.args.self.now
    (c.args.first, c.args.second) c.args.value q other

one_more : (b : Bool) (n : ℕ) → cond b n (n + 1) ≤ n + 1
one_more true n = omega arith
one_more false n = omega arith

pub returns-clause-few : goal.returns-clause-few
returns-clause-few g c =
    subst (λ n. n ≤ map.len c.args.self.now + 1) (sym (ap map.len (returns-clause-ok g c)
    ∙ map.len-insert pin_order_total c.args.self.now (c.args.first, c.args.second) c.args.value))
    (one_more (map.contains_key c.args.self.now (c.args.first, c.args.second))
    (map.len c.args.self.now))
