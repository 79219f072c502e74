use Rattle.std.proofs.Common.{◌≡◌, ℕ, length, take, Contains, sym, subst, arith}
use Rattle.std.proofs.lemmas.List.{get_or-take, length-take}
use Rattle.ix_lut.specs.Shapes.{input_lines, bel_at}
use Rattle.ix_lut.specs.Items.{use_at}
use Rattle.ix_lut.proofs.Planning.{line_same, number_small, few_uses}
use Rattle.ix_lut.proofs.PlanMade.{ready, none_made, plan_made}
use Rattle.ix_lut.proofs.plan.plan_with.Goals as goal

pub hold_lines-holding-requires : goal.hold_lines-holding-requires
hold_lines-holding-requires c = record {
  few = c.requires.few;
  count = c.requires.shape.lines;
  inside = λ x h.
      let n : ℕ = length c.args.items.now in
      let long : length (take n c.args.lines.now) ≡ n = omega (arith, length-take n c.args.lines.now, c.told-lines, c.requires.few) in
      let on = c.requires.lines.assigns.on_lines x (omega (arith, h, long)) in
      omega (arith, on, get_or-take n c.args.lines.now x 0 h, c.requires.shape.lines);
}

pub lay_cells-laid-requires : goal.lay_cells-laid-requires
lay_cells-laid-requires c = record {
  shape = c.requires.shape;
  uses = few_uses c.args.shape.now c.args.uses.now c.requires.uses c.requires.shape.bels;
  on_bels = c.requires.uses.on_bels;
  few = c.requires.uses.few;
  here = number_small c.args.uses.now c.args.items.now c.requires.items c.requires.few;
  reached = λ u i h few.
      subst (λ (l : ℕ). Contains (input_lines (bel_at c.args.shape.now (use_at c.args.uses.now u).bel)) l)
      (sym (line_same c.args.uses.now c.args.items.now c.args.lines.now c.requires.items u i h few))
      (c.requires.lines.assigns.reached u i h few);
}

pub least_ties-requires : goal.least_ties-requires
least_ties-requires c =
    ready c.args.shape.now c.args.uses.now c.args.items.now c.args.lines.now c.lay_cells-laid.result.choice c.lay_cells-laid.result.luts
    c.hold_lines-holding.result.held c.hold_lines-holding.result.tieable c.requires.items c.requires.few c.told-lines c.requires.lines
    (few_uses c.args.shape.now c.args.uses.now c.requires.uses c.requires.shape.bels) c.lay_cells-laid.ensures.long c.lay_cells-laid.ensures.laid
    c.hold_lines-holding.ensures.held c.hold_lines-holding.ensures.inside c.hold_lines-holding.ensures.no_item c.hold_lines-holding.ensures.every

pub returns-in-None-clause-none : goal.returns-in-None-clause-none
returns-in-None-clause-none c =
    none_made c.args.shape.now c.args.uses.now c.args.items.now c.args.lines.now c.lay_cells-laid.result.choice c.lay_cells-laid.result.luts
    c.hold_lines-holding.result.held c.hold_lines-holding.result.tieable c.requires.items c.requires.few c.told-lines c.requires.lines
    (few_uses c.args.shape.now c.args.uses.now c.requires.uses c.requires.shape.bels) c.lay_cells-laid.ensures.long c.lay_cells-laid.ensures.laid
    c.hold_lines-holding.ensures.held c.hold_lines-holding.ensures.inside c.hold_lines-holding.ensures.no_item c.hold_lines-holding.ensures.every
    c.in-None.ensures.none

pub returns-in-Some-clause-plan : goal.returns-in-Some-clause-plan
returns-in-Some-clause-plan c =
    plan_made c.args.shape.now c.args.uses.now c.args.items.now c.args.lines.now c.lay_cells-laid.result.choice c.lay_cells-laid.result.luts
    c.hold_lines-holding.result.held c.hold_lines-holding.result.tieable c.requires.items c.requires.few c.told-lines c.requires.lines
    (few_uses c.args.shape.now c.args.uses.now c.requires.uses c.requires.shape.bels) c.lay_cells-laid.ensures.long c.lay_cells-laid.ensures.laid
    c.hold_lines-holding.ensures.held c.hold_lines-holding.ensures.inside c.hold_lines-holding.ensures.no_item c.hold_lines-holding.ensures.every
    c.in-Some.held c.shown_ties.result c.forced_bits-forced.result.ones c.in-Some.ensures.least c.forced_bits-forced.ensures.ones
    c.shown_ties.ensures.shown c.shown_ties.ensures.hidden
