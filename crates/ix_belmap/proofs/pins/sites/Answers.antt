use Rattle.std.proofs.Common.{◌≡◌, ap, sym, ◌∙◌, Some, length, arith}
use Rattle.std.specs.FinMap.{get, get-empty}
use Rattle.std.specs.Ordering.{nat_cmp}
use Rattle.ix_belmap.proofs.Failures.{site_more, site_none, sites_end}
use Rattle.ix_belmap.proofs.pins.sites.Goals as goal
use Rattle.ix_belmap.proofs.pins.sites.Goals.{in-At+in_ok-insert, in_default}

pub loop-cell-init : goal.loop-cell-init
loop-cell-init c q = ap (λ m. get m q) c.new-fixed.ensures ∙ get-empty nat_cmp q

pub loop-cell-preserved : goal.loop-cell-preserved
loop-cell-preserved c = elim c.match-at.branch [
  | in-At+in_ok-insert w ↦
      site_more c.args.all.now (get c.loop-cell.fixed)
      (get c.match-at.fixed) c.loop-cell.cell w.in-At.pin w.in-At.site
      (c.at.ensures ∙ ap Some w.in-At.is) c.loop-cell.invariant
      (ap (get c.match-at.fixed) (sym w.new.ensures) ∙ ap (λ m. get m w.new.result) w.fixed-is
      ∙ w.in_ok-insert.ensures.value)
      (λ q differ. ap (λ m. get m q) w.fixed-is
      ∙ w.in_ok-insert.ensures.others q (λ e. differ (e ∙ w.new.ensures)))
  | in_default w ↦
      λ q. ap (λ m. get m q) w.fixed-is
      ∙ site_none c.args.all.now (get c.loop-cell.fixed) c.loop-cell.cell c.at.result.now
      c.at.ensures
      w.in_default.not-At c.loop-cell.invariant q
]

pub returns : goal.returns
returns c =
    let end : c.in_ok-cell-end.cell-end ≡ length c.args.all.now =
    c.in_ok-cell-end.ensures ∙ c.len.ensures in
    sites_end c.args.all.now (get c.loop-cell.fixed) c.loop-cell.cell
    (omega arith) c.loop-cell.invariant
