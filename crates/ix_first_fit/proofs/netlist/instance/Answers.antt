use Rattle.ix_first_fit.proofs.Netlists.{type_told, instance_is}
use Rattle.ix_first_fit.proofs.netlist.instance.Goals as goal

pub returns : goal.returns
returns c =
    let e = type_told c.args.device.now c.rec.result.now c.get.result c.type_of-t.result c.at.result.now c.rec.ensures.same c.get.ensures c.at.ensures in
    instance_is c.args.device.now c.args.site c.type_of-t.result c.site_name.result c.at.result.now c.site_name.ensures c.type_of-t.ensures.ty e
