use Rattle.std.proofs.Common.{◌≡◌, ◌+◌, ◌++◌, ◌∷◌, ◌∙◌, [], List, length, refl, sym, subst, arith, Err}
use Rattle.ix_schema.specs.Open.{Puts}
use Rattle.std.proofs.lemmas.Result.{err_from_is_err_and}
use Rattle.ix_frame.specs.Objects.{elements_at, element_of}
use Rattle.ix_frame.specs.Views.{elements_of}
use Rattle.ix_schema.specs.declared.branches.Open.{Open}
use Rattle.ix_schema.proofs.Stacks.{nothing_in, nothing_open, one_done, one_stops, one_goes_on, first_turn, falls, falls_put, put_left, one_put}
use Rattle.ix_schema.proofs.branches.pass_branches.Goals as goal

pub loop-top-init : goal.loop-top-init
loop-top-init c bound few =
    let first : Open = record { list = c.args.l; next = 0 } in
    let put = subst (λ (xs : List Open). Puts first xs c.put.new.stack.items)
    c.new-stack.ensures.items c.in_ok-put.ensures in
    put_left first [] c.put.new.stack.items put c.args.budget.now
    ∙ first_turn first c.args.budget.now bound refl few

pub returns-in_err-inner : goal.returns-in_err-inner
returns-in_err-inner c bound few =
    let p = err_from_is_err_and c.from_residual-in_err-inner.result c.from_residual-in_err-inner.ensures.1 in
    let found : elements_at (element_of (elements_of c.in-Some.top.list) c.in-Some.top.next) 0 c.loop-top.budget ≡ Err c.in_err-inner.field-0.0 = rw c.at.ensures at c.in_err-inner.ensures.exact.0 in
    rw (p.1, p.2) (one_stops c.loop-top.stack.items c.pop.new.self.items c.in-Some.top c.loop-top.budget c.in_err-inner.field-0.0 _ c.in-Some.ensures.items (rw c.len.ensures at c.if-top-len.true) found (c.loop-top.invariant bound few))

pub loop-top-smaller-in-Continue-branch-4 : goal.loop-top-smaller-in-Continue-branch-4
loop-top-smaller-in-Continue-branch-4 c =
    let after : Open = record { list = c.in-Some.top.list; next = c.in-Some.top.next + 1 } in
    let below : Open = record { list = c.in_ok-inner.inner; next = 0 } in
    falls_put c.loop-top.stack.items c.pop.new.self.items c.put-then-top-len.new.stack.items
    c.put-then-top-len-2.new.stack.items c.in-Some.top after below c.loop-top.budget
    c.list.new.budget c.in-Some.ensures.items (rw c.len.ensures at c.if-top-len.true) refl refl
    c.in_ok-inner.ensures.count c.in_ok-put-2.ensures c.in_ok-put-3.ensures

pub loop-top-preserved-in-Continue-branch-4 : goal.loop-top-preserved-in-Continue-branch-4
loop-top-preserved-in-Continue-branch-4 c bound few =
    let after : Open = record { list = c.in-Some.top.list; next = c.in-Some.top.next + 1 } in
    let below : Open = record { list = c.in_ok-inner.inner; next = 0 } in
    one_put c.pop.new.self.items c.put-then-top-len.new.stack.items
    c.put-then-top-len-2.new.stack.items after below c.list.new.budget _ c.in_ok-put-2.ensures
    c.in_ok-put-3.ensures
    (one_goes_on c.loop-top.stack.items c.pop.new.self.items c.in-Some.top after below
    c.loop-top.budget c.list.new.budget _ c.in-Some.ensures.items
    (rw c.len.ensures at c.if-top-len.true) refl refl
    (rw c.at.ensures at c.in_ok-inner.ensures.exact) c.in_ok-inner.ensures.count
    (c.loop-top.invariant bound few))

pub loop-top-smaller : goal.loop-top-smaller
loop-top-smaller c = falls c.loop-top.stack.items c.pop.new.self.items c.in-Some.top c.loop-top.budget c.in-Some.ensures.items

pub loop-top-preserved : goal.loop-top-preserved
loop-top-preserved c bound few = one_done c.loop-top.stack.items c.pop.new.self.items c.in-Some.top c.loop-top.budget _ c.in-Some.ensures.items (omega arith) (c.loop-top.invariant bound few)

pub returns : goal.returns
returns c bound few =
    let none : length c.loop-top.stack.items ≡ 0 = sym c.loop-top.stack.ok.0 ∙ c.in_default.ensures.cases.0 in
    nothing_open c.loop-top.stack.items c.loop-top.budget _ (nothing_in c.loop-top.stack.items none) (c.loop-top.invariant bound few)
