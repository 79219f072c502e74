use Rattle.std.proofs.Common.{◌≡◌, take, true}
use Rattle.std.specs.List.{list_all}
use Rattle.ix_belmap.proofs.Staying.{test}
use Rattle.ix_belmap.proofs.stays.stays_with.Given as goal

abbrev pub invariant-loop-place : goal.invariant-loop-place
invariant-loop-place l = list_all (test l.device l.fn.port_type l.fn.ty)
    (take l.place l.device.site_type_list) ≡ true
