use Rattle.std.proofs.Common.{ap, sym}
use Rattle.ix_device_rules.specs.Kinds.{kinds, kind_name, number_of_kind}
use Rattle.ix_device_rules.proofs.kinds.Kind.place.Goals as goal

pub returns-in-BelPin-clause-exact : goal.returns-in-BelPin-clause-exact
returns-in-BelPin-clause-exact c = ap (λ k. number_of_kind kinds (kind_name k)) (sym c.in-BelPin.is)

pub returns-in-SitePin-clause-exact : goal.returns-in-SitePin-clause-exact
returns-in-SitePin-clause-exact c = ap (λ k. number_of_kind kinds (kind_name k)) (sym c.in-SitePin.is)

pub returns-in-Bel-clause-exact : goal.returns-in-Bel-clause-exact
returns-in-Bel-clause-exact c = ap (λ k. number_of_kind kinds (kind_name k)) (sym c.in-Bel.is)

pub returns-in-SitePip-clause-exact : goal.returns-in-SitePip-clause-exact
returns-in-SitePip-clause-exact c = ap (λ k. number_of_kind kinds (kind_name k)) (sym c.in-SitePip.is)

pub returns-in-SiteWire-clause-exact : goal.returns-in-SiteWire-clause-exact
returns-in-SiteWire-clause-exact c = ap (λ k. number_of_kind kinds (kind_name k)) (sym c.in-SiteWire.is)

pub returns-in-SiteType-clause-exact : goal.returns-in-SiteType-clause-exact
returns-in-SiteType-clause-exact c = ap (λ k. number_of_kind kinds (kind_name k)) (sym c.in-SiteType.is)

pub returns-in-SiteTypeInTileType-clause-exact : goal.returns-in-SiteTypeInTileType-clause-exact
returns-in-SiteTypeInTileType-clause-exact c = ap (λ k. number_of_kind kinds (kind_name k)) (sym c.in-SiteTypeInTileType.is)

pub returns-in-TileType-clause-exact : goal.returns-in-TileType-clause-exact
returns-in-TileType-clause-exact c = ap (λ k. number_of_kind kinds (kind_name k)) (sym c.in-TileType.is)

pub returns-in-Site-clause-exact : goal.returns-in-Site-clause-exact
returns-in-Site-clause-exact c = ap (λ k. number_of_kind kinds (kind_name k)) (sym c.in-Site.is)

pub returns-in-Tile-clause-exact : goal.returns-in-Tile-clause-exact
returns-in-Tile-clause-exact c = ap (λ k. number_of_kind kinds (kind_name k)) (sym c.in-Tile.is)

pub returns-in-Wire-clause-exact : goal.returns-in-Wire-clause-exact
returns-in-Wire-clause-exact c = ap (λ k. number_of_kind kinds (kind_name k)) (sym c.in-Wire.is)

pub returns-in-Node-clause-exact : goal.returns-in-Node-clause-exact
returns-in-Node-clause-exact c = ap (λ k. number_of_kind kinds (kind_name k)) (sym c.in-Node.is)

pub returns-in-CellBelMapping-clause-exact : goal.returns-in-CellBelMapping-clause-exact
returns-in-CellBelMapping-clause-exact c = ap (λ k. number_of_kind kinds (kind_name k)) (sym c.in-CellBelMapping.is)

pub returns-in-LutBel-clause-exact : goal.returns-in-LutBel-clause-exact
returns-in-LutBel-clause-exact c = ap (λ k. number_of_kind kinds (kind_name k)) (sym c.in-LutBel.is)

pub returns-in-LutElement-clause-exact : goal.returns-in-LutElement-clause-exact
returns-in-LutElement-clause-exact c = ap (λ k. number_of_kind kinds (kind_name k)) (sym c.in-LutElement.is)
