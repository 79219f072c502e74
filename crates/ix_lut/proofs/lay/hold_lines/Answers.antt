use Rattle.std.proofs.Common.{◌≡◌, ℕ, ◌+◌, ◌-◌, ◌<◌, false, List, length, take, set, slice_index, sym, ap, ◌∙◌, refl, subst, arith}
use Rattle.std.proofs.lemmas.List.{length-set, length-take, get_or-take}
use Rattle.ix_lut.specs.Ties.{constant_of}
use Rattle.ix_lut.specs.declared.shape.Tie.{Tie}
use Rattle.ix_lut.specs.declared.uses.Item.{Item}
use Rattle.ix_lut.proofs.Laying.{HoldsFrom, holds_next, holds_none}
use Rattle.ix_lut.proofs.lay.hold_lines.Goals as goal

pub loop-x-init : goal.loop-x-init
loop-x-init c = record {
  few = omega arith;
  held_long = refl;
  tieable_long = c.first_lines-tieable.ensures.long;
  holds = holds_none c.args.items.now (take (length c.args.items.now) c.args.lines.now) c.args.count c.first_lines-tieable.result
      (omega (arith, length-take (length c.args.items.now) c.args.lines.now, c.told-lines, c.requires.few))
      c.first_lines-tieable.ensures.only c.first_lines-tieable.ensures.every;
}

pub loop-x-preserved : goal.loop-x-preserved
loop-x-preserved c =
    let items = c.args.items.now in
    let lines : List ℕ = take (length items) c.args.lines.now in
    let y : ℕ = c.loop-x.x - 1 in
    let item : Item = c.index-items-x.result in
    let line : ℕ = slice_index c.args.lines.now y in
    let here : y < length items = omega (arith, c.loop-x-test.true, c.loop-x.invariant.few) in
    let as_long : length lines ≡ length items = omega (arith, length-take (length items) c.args.lines.now, c.told-lines, c.requires.few) in
    let up : c.loop-x.x ≡ y + 1 = omega (arith, c.loop-x-test.true) in
    let few : line < 12 = c.requires.inside y here in
    let tie : c.tie_of.result ≡ constant_of item.net = c.tie_of.ensures ∙ sym (ap (λ (i : Item). constant_of i.net) c.index-items-x.is) in
    let next = holds_next items lines c.args.count as_long y item c.loop-x.held c.loop-x.tieable here c.index-items-x.is line
    (get_or-take (length items) c.args.lines.now y 0 here)
    (omega (arith, few, c.loop-x.invariant.held_long)) (omega (arith, few, c.loop-x.invariant.tieable_long))
    (subst (λ (n : ℕ). HoldsFrom items lines c.args.count n c.loop-x.held c.loop-x.tieable) up c.loop-x.invariant.holds) in
    record {
      few = omega (arith, here);
      held_long = length-set c.loop-x.held line c.tie_of.result ∙ c.loop-x.invariant.held_long;
      tieable_long = length-set c.loop-x.tieable line false ∙ c.loop-x.invariant.tieable_long;
      holds = subst (λ (t : Tie). HoldsFrom items lines c.args.count y (set c.loop-x.held line t) (set c.loop-x.tieable line false)) (sym tie) next;
    }

pub returns : goal.returns
returns c =
    let items = c.args.items.now in
    let lines : List ℕ = take (length items) c.args.lines.now in
    let done : c.loop-x.x ≡ 0 = omega (arith, c.loop-x-test.false) in
    let holds = subst (λ (n : ℕ). HoldsFrom items lines c.args.count n c.loop-x.held c.loop-x.tieable) done c.loop-x.invariant.holds in
    record {
      held = holds.ties;
      inside = holds.inside;
      no_item = λ line may k below at. holds.no_item line may k (omega arith) below (get_or-take (length items) c.args.lines.now k 0 below ∙ at);
      every = λ line few none. holds.every line few (λ k from below at. none k below (sym (get_or-take (length items) c.args.lines.now k 0 below) ∙ at));
    }
