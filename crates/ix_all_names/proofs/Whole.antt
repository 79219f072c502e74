-- All cells and signal nets, over the names that there are in the end.
use Rattle.std.proofs.Common.{◌≡◌, ◌∙◌, ap, List, ◌++◌, map, length, Some}
use Rattle.ix_message.specs.Shape.{Text}
use Rattle.ix_rec.specs.declared.netlist.NetlistRec.{NetlistRec}
use Rattle.ix_strings.specs.Names.{KeepsNumbers}
use Rattle.ix_hierarchy.specs.Nets.{Occurrence}
use Rattle.ix_hierarchy.specs.FlatDesign.{LeafCell, leaf_texts, port_cells}
use Rattle.ix_joined.specs.declared.joined.Joined.{Joined}
use Rattle.ix_joined.specs.Joining.{Known}
use Rattle.ix_flat_lists.specs.declared.named.Named.{Named}
use Rattle.ix_flat_lists.specs.Listed.{AreLeaves, AreSignalNets}
use Rattle.ix_flat_lists.specs.Naming.{IsNamed}
use Rattle.ix_names_grow.specs.Grown.{IsGrown}
use Rattle.ix_net_names.specs.NetNames.{AreNetNames}
use Rattle.ix_port_cells.specs.CellTexts.{AreCells}
use Rattle.ix_all_names.proofs.Kept.{cells_keep, leaves_same, ports_same}

-- the cells over all names, from those over the names that there were once they were listed
cells_now : (known : Known) (design : NetlistRec) (first old : List Text) (named : Named)
    (list : List LeafCell) → IsGrown first known.names design → IsGrown old known.names design
    → KeepsNumbers old known.names → AreLeaves known design named.leaves.items list
    → AreCells old named.cells.items
    (port_cells first design ++ map (leaf_texts old design) list)
    → AreCells known.names named.cells.items
    (port_cells known.names design ++ map (leaf_texts known.names design) list)
cells_now known design first old named list grown more keeps leaves cells =
    cells_keep old known.names named.cells.items
    (port_cells first design ++ map (leaf_texts old design) list) keeps cells
    ∙ ap (λ (texts : List (Text × Text)). map (λ t. Some t)
    (texts ++ map (leaf_texts old design) list)) (ports_same first known.names design grown)
    ∙ ap (λ (texts : List (Text × Text)). map (λ t. Some t)
    (port_cells known.names design ++ texts))
    (leaves_same known design old known.names list more (λ k leaf h. leaves.are.each k leaf h))

pub all_named : (known : Known) (design : NetlistRec) (joined : Joined) (first old : List Text)
    (named : Named) (list : List LeafCell) (nets : List Occurrence)
    → IsGrown first known.names design → IsGrown old known.names design
    → KeepsNumbers old known.names → AreLeaves known design named.leaves.items list
    → AreCells old named.cells.items
    (port_cells first design ++ map (leaf_texts old design) list)
    → named.ports ≡ length (port_cells first design)
    → AreSignalNets known design joined named.signals.items nets
    → AreNetNames known.names design nets named.net_names.items
    → IsNamed known design joined named
all_named known design joined first old named list nets grown more keeps leaves cells ports signals
    names = record {
      leaves = list;
      are_leaves = leaves;
      nets = nets;
      are_nets = signals;
      cells = cells_now known design first old named list grown more keeps leaves cells;
      ports = ports ∙ ap length (ports_same first known.names design grown);
      many = names.many;
      net_names = names.each;
    }
