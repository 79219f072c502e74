use Rattle.std.proofs.Common.{◌≡◌, sym, subst, Option, ℕ, ◌∙◌, ap}
use Rattle.ix_twice.specs.Repeats.{IsLeast, least_of}
use Rattle.ix_twice.specs.Turns.{IsTwice}
use Rattle.ix_twice.proofs.InCell.{least_in_cell}
use Rattle.ix_twice.proofs.first.first_in_cell.Goals as goal

pub returns : goal.returns
returns c names design its are =
    let same : c.least.result ≡ least_of (least_of c.first_on_two.result c.first_on_two-2.result) c.in_ok-twice.twice =
    c.least.ensures ∙ ap (λ (o : Option ℕ). least_of o c.in_ok-twice.twice) c.least-on_two.ensures in
    subst (λ (o : Option ℕ). IsLeast (IsTwice names design its) o) (sym same)
    (least_in_cell names design its c.args.own.now c.args.outer.now c.args.written.now c.args.cell c.first_on_two.result c.first_on_two-2.result
    c.in_ok-twice.twice are c.first_on_two.ensures c.first_on_two-2.ensures c.in_ok-twice.ensures)
