use Rattle.std.proofs.Common.{◌≡◌, ℕ, ◌+◌, ◌-◌, ◌<◌, List, length, take, drop, slice_index, arith, sym, ap, ◌∙◌, subst, inl, inr}
use Rattle.std.specs.Int.{bit_at}
use Rattle.std.proofs.lemmas.Bool.{cases_lt}
use Rattle.ix_lut.specs.Fillings.{Fills, KnowsFailed, with_line}
use Rattle.ix_lut.proofs.Filling.{found_here, none_here, kept_here, one_failed, with_line_small}
use Rattle.ix_lut.proofs.assign.+fill.Goals as goal
use Rattle.ix_lut.proofs.assign.+fill.Goals.{then-may_take+else-fill, else-may_take}

pub fill-requires : goal.fill-requires
fill-requires t c =
    let inside : c.args.item < length c.args.masks.now = omega (arith, c.requires.item, c.if-item-masks.false) in
    let falls : length c.args.masks.now - (c.args.item + 1) < t = omega (arith, c.decreases, inside) in (
      falls,
      (
        c.requires.few,
        (
          c.requires.small,
          (
            omega (arith, inside),
            (with_line_small c.args.used c.loop-line.line c.requires.used c.loop-line-test.true, c.loop-line.invariant.knows),
          ),
        ),
      ),
    )

pub returns-then-fill-clause-kept : goal.returns-then-fill-clause-kept
returns-then-fill-clause-kept t c =
    kept_here c.args.item c.loop-line.line c.loop-line.lines c.fill.new.lines c.fill.ensures.kept ∙ c.loop-line.invariant.kept

pub returns-then-fill-clause-found : goal.returns-then-fill-clause-found
returns-then-fill-clause-found t c = λ e.
    let inside : c.args.item < length c.args.masks.now = omega (arith, c.requires.item, c.if-item-masks.false) in
    let long : length c.loop-line.lines ≡ 48 = omega arith in
    let new_long : length c.fill.new.lines ≡ 48 = c.fill.array_long in
    found_here c.args.masks.now c.args.item inside c.args.used c.loop-line.line c.loop-line.lines c.fill.new.lines
    (omega (arith, long, inside, c.requires.few)) (new_long ∙ sym long) (omega (arith, long, c.requires.few))
    (c.may_take.ensures.of_mask c.if-may_take.true) (c.may_take.ensures.unused c.if-may_take.true)
    c.fill.ensures.kept (c.fill.ensures.found c.if-fill.true) c.loop-line.invariant.none

pub loop-line-preserved : goal.loop-line-preserved
loop-line-preserved t c = elim c.if-may_take.branch [
  | then-may_take+else-fill w ↦ record {
    few = omega (arith, c.loop-line-test.true);
    knows = subst (λ (f : List ℕ). KnowsFailed c.args.masks.now f) (sym w.failed-is) w.fill.ensures.knows;
    kept = ap (take c.args.item) w.lines-is ∙
        kept_here c.args.item c.loop-line.line c.loop-line.lines w.fill.new.lines w.fill.ensures.kept ∙ c.loop-line.invariant.kept;
    none = λ l below may free. elim (cases_lt l c.loop-line.line) [
      | inl under ↦ c.loop-line.invariant.none l under may free
      | inr over ↦ let same : c.loop-line.line ≡ l = omega (arith, below, over) in
          subst (λ (k : ℕ). (rest : List ℕ) → Fills (drop (c.args.item + 1) c.args.masks.now) (with_line c.args.used k) rest → ⊥) same
          (w.fill.ensures.none w.if-fill.false)
    ];
  }
  | else-may_take w ↦ record {
    few = omega (arith, c.loop-line-test.true);
    knows = subst (λ (f : List ℕ). KnowsFailed c.args.masks.now f) (sym w.failed-is) c.loop-line.invariant.knows;
    kept = ap (take c.args.item) w.lines-is ∙ c.loop-line.invariant.kept;
    none = λ l below may free. elim (cases_lt l c.loop-line.line) [
      | inl under ↦ c.loop-line.invariant.none l under may free
      | inr over ↦ let same : l ≡ c.loop-line.line = omega (arith, below, over) in
          absurd (c.may_take.ensures.no w.if-may_take.false
          (subst (λ (k : ℕ). bit_at (slice_index c.args.masks.now c.args.item) k ≡ 1) same may)
          (subst (λ (k : ℕ). bit_at c.args.used k ≡ 0) same free))
    ];
  }
]

pub returns-clause-knows : goal.returns-clause-knows
returns-clause-knows t c =
    let inside : c.args.item < length c.args.masks.now = omega (arith, c.requires.item, c.if-item-masks.false) in
    let long : length c.loop-line.failed ≡ 4096 = omega arith in
    let done : c.loop-line.line ≡ 12 = omega (arith, c.loop-line-test.false, c.loop-line.invariant.few) in
    one_failed c.args.masks.now c.loop-line.failed c.args.used c.args.item (omega (arith, long, c.requires.used))
    (none_here c.args.masks.now c.args.item inside c.args.used (c.requires.small c.args.item inside)
    (λ l few. c.loop-line.invariant.none l (omega (arith, few, done)))) c.loop-line.invariant.knows

pub returns-clause-kept : goal.returns-clause-kept
returns-clause-kept t c = c.loop-line.invariant.kept

pub returns-clause-none : goal.returns-clause-none
returns-clause-none t c = λ e.
    let inside : c.args.item < length c.args.masks.now = omega (arith, c.requires.item, c.if-item-masks.false) in
    let done : c.loop-line.line ≡ 12 = omega (arith, c.loop-line-test.false, c.loop-line.invariant.few) in
    none_here c.args.masks.now c.args.item inside c.args.used (c.requires.small c.args.item inside)
    (λ l few. c.loop-line.invariant.none l (omega (arith, few, done)))
