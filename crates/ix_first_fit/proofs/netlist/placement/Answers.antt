use Rattle.std.proofs.Common.{◌<◌, ap, refl, sym, subst, ◌∙◌, length, slice_get, arith}
use Rattle.ix_first_fit.proofs.Fitting.{admits_site}
use Rattle.ix_first_fit.proofs.Netlists.{type_told, bel_there, bel_named}
use Rattle.ix_first_fit.proofs.netlist.placement.Goals as goal

pub site_name-site-requires : goal.site_name-site-requires
site_name-site-requires c = admits_site c.args.device.now c.args.cell.now.ty c.args.spot.now c.requires

pub type_of-t-requires : goal.type_of-t-requires
type_of-t-requires c = admits_site c.args.device.now c.args.cell.now.ty c.args.spot.now c.requires

pub at-site_type-requires : goal.at-site_type-requires
at-site_type-requires c =
    let lt : c.type_of-t.result < length c.rec.result.now.site_type_list =
    subst (λ r. c.type_of-t.result < length r.site_type_list) (sym c.rec.ensures.same) c.type_of-t.ensures.inside in omega arith

pub at-requires : goal.at-requires
at-requires c =
    let e = type_told c.args.device.now c.rec.result.now c.get.result c.type_of-t.result c.at-site_type.result.now c.rec.ensures.same c.get.ensures c.at-site_type.ensures in
    let lt : c.args.spot.now.bel < length c.at-site_type.result.now.bels = bel_there c.args.device.now c.args.cell.now.ty c.type_of-t.result c.args.spot.now c.at-site_type.result.now c.type_of-t.ensures.ty e c.requires in omega arith

pub returns : goal.returns
returns c =
    let e = type_told c.args.device.now c.rec.result.now c.get.result c.type_of-t.result c.at-site_type.result.now c.rec.ensures.same c.get.ensures c.at-site_type.ensures in record {
      cell_name = refl;
      ty = refl;
      site = c.site_name-site.ensures;
      bel = bel_named c.args.device.now c.type_of-t.result c.args.spot.now c.at-site_type.result.now c.at.result.now c.type_of-t.ensures.ty e (ap (slice_get c.at-site_type.result.now.bels) (sym c.get-2.ensures) ∙ c.at.ensures);
      pins = c.in_ok-pin_map.ensures;
    }
