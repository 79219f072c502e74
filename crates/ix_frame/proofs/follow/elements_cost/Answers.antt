use Rattle.std.proofs.Common.{◌+◌, ◌*◌, ◌≤◌, ◌<◌, ℕ, zero, suc, arith, mul-suc}
use Rattle.ix_frame.proofs.follow.elements_cost.Goals as goal
use Rattle.ix_frame.proofs.follow.elements_cost.Goals.{then-list-eq0, else-list-eq0}

-- elements of a word or more take no fewer words than they are
each_takes : (n k words : ℕ) → n * k ≤ words → 0 < k → n ≤ words
each_takes n zero words h some = absurd (omega arith)
each_takes n (suc k) words h some = omega (arith, mul-suc n k)

pub returns-clause-each : goal.returns-clause-each
returns-clause-each c = elim c.if-list-eq0.branch [
  | then-list-eq0 w ↦ omega arith
  | else-list-eq0 w ↦
      let l = c.args.list.now in
      let all : l.count ≤ c.args.words = each_takes l.count (l.data_words + l.pointer_words) c.args.words c.requires (omega arith) in
      omega arith
]
