use Rattle.std.proofs.Common.{◌≡◌, arith}
use Rattle.ix_roots.specs.Forest.{IsForest}
use Rattle.ix_roots.proofs.Steps.{joins}
use Rattle.ix_roots.proofs.roots.join.Goals as goal

pub returns-then-one-other-clause-joins : goal.returns-then-one-other-clause-joins
returns-then-one-other-clause-joins c = λ root F.
    let G : IsForest c.find-one.new.above root = c.find-one.ensures.keeps root F in
    let H : IsForest c.find-other.new.above root = c.find-other.ensures.keeps root G in
    let a : c.find-one.result ≡ root c.args.one = c.find-one.ensures.found root F in
    let b : c.find-other.result ≡ root c.args.other = c.find-other.ensures.found root G in
    joins c.find-other.new.above root c.args.one c.args.other c.find-other.result c.find-one.result
    (omega arith) (omega arith) (omega arith) (omega arith) H

pub returns-else-one-other-clause-joins : goal.returns-else-one-other-clause-joins
returns-else-one-other-clause-joins c = λ root F.
    let G : IsForest c.find-one.new.above root = c.find-one.ensures.keeps root F in
    let H : IsForest c.find-other.new.above root = c.find-other.ensures.keeps root G in
    let a : c.find-one.result ≡ root c.args.one = c.find-one.ensures.found root F in
    let b : c.find-other.result ≡ root c.args.other = c.find-other.ensures.found root G in
    joins c.find-other.new.above root c.args.one c.args.other c.find-one.result c.find-other.result
    (omega arith) (omega arith) (omega arith) (omega arith) H
