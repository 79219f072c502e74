use Rattle.std.proofs.Common.{inl, arith}
use Rattle.ix_first_fit.proofs.Fitting.{admits_site}
use Rattle.ix_first_fit.proofs.fit.first_spot.Goals as goal

pub returns : goal.returns
returns c p adm = let lt = admits_site c.args.device.now c.args.ty p adm in c.loop-site.invariant p (inl (omega arith)) adm
