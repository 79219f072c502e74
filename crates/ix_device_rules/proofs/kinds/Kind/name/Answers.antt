use Rattle.std.proofs.Common.{codes, ap, sym}
use Rattle.ix_device_rules.specs.Kinds.{kind_name}
use Rattle.ix_device_rules.proofs.kinds.Kind.name.Goals as goal

pub returns-in-BelPin : goal.returns-in-BelPin
returns-in-BelPin c = ap (λ k. codes (kind_name k)) (sym c.in-BelPin.is)

pub returns-in-SitePin : goal.returns-in-SitePin
returns-in-SitePin c = ap (λ k. codes (kind_name k)) (sym c.in-SitePin.is)

pub returns-in-Bel : goal.returns-in-Bel
returns-in-Bel c = ap (λ k. codes (kind_name k)) (sym c.in-Bel.is)

pub returns-in-SitePip : goal.returns-in-SitePip
returns-in-SitePip c = ap (λ k. codes (kind_name k)) (sym c.in-SitePip.is)

pub returns-in-SiteWire : goal.returns-in-SiteWire
returns-in-SiteWire c = ap (λ k. codes (kind_name k)) (sym c.in-SiteWire.is)

pub returns-in-SiteType : goal.returns-in-SiteType
returns-in-SiteType c = ap (λ k. codes (kind_name k)) (sym c.in-SiteType.is)

pub returns-in-SiteTypeInTileType : goal.returns-in-SiteTypeInTileType
returns-in-SiteTypeInTileType c = ap (λ k. codes (kind_name k)) (sym c.in-SiteTypeInTileType.is)

pub returns-in-TileType : goal.returns-in-TileType
returns-in-TileType c = ap (λ k. codes (kind_name k)) (sym c.in-TileType.is)

pub returns-in-Site : goal.returns-in-Site
returns-in-Site c = ap (λ k. codes (kind_name k)) (sym c.in-Site.is)

pub returns-in-Tile : goal.returns-in-Tile
returns-in-Tile c = ap (λ k. codes (kind_name k)) (sym c.in-Tile.is)

pub returns-in-Wire : goal.returns-in-Wire
returns-in-Wire c = ap (λ k. codes (kind_name k)) (sym c.in-Wire.is)

pub returns-in-Node : goal.returns-in-Node
returns-in-Node c = ap (λ k. codes (kind_name k)) (sym c.in-Node.is)

pub returns-in-CellBelMapping : goal.returns-in-CellBelMapping
returns-in-CellBelMapping c = ap (λ k. codes (kind_name k)) (sym c.in-CellBelMapping.is)

pub returns-in-LutBel : goal.returns-in-LutBel
returns-in-LutBel c = ap (λ k. codes (kind_name k)) (sym c.in-LutBel.is)

pub returns-in-LutElement : goal.returns-in-LutElement
returns-in-LutElement c = ap (λ k. codes (kind_name k)) (sym c.in-LutElement.is)
