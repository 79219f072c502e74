-- The names of flat cells and of signal nets.
use Rattle.std.specs.Prelude.{◌≡◌, ◌++◌, ℕ, List, length, map, slice_get, Some}
use Rattle.ix_message.specs.Shape.{Text}
use Rattle.ix_rec.specs.declared.netlist.NetlistRec.{NetlistRec}
use Rattle.ix_hierarchy.specs.Nets.{Occurrence}
use Rattle.ix_hierarchy.specs.FlatDesign.{IsNetText, LeafCell, cell_texts, leaf_texts, port_cells}
use Rattle.ix_joined.specs.declared.joined.Joined.{Joined}
use Rattle.ix_joined.specs.Joining.{Known}
use Rattle.ix_flat_lists.specs.declared.named.Named.{Named}
use Rattle.ix_flat_lists.specs.Listed.{AreLeaves, AreSignalNets}

-- all cells and signal nets, by numbers and by names
pub record IsNamed (known : Known) (design : NetlistRec) (joined : Joined) (named : Named) : Type 0
  where
    pub leaves : List LeafCell
    pub are_leaves : AreLeaves known design named.leaves.items leaves
    pub nets : List Occurrence
    pub are_nets : AreSignalNets known design joined named.signals.items nets
    pub cells : map (cell_texts known.names) named.cells.items
        ≡ map (λ texts. Some texts) (port_cells known.names design
        ++ map (leaf_texts known.names design) leaves)
    pub ports : named.ports ≡ length (port_cells known.names design)
    pub many : length named.net_names.items ≡ length nets
    pub net_names : (n name : ℕ) (at : Occurrence) → slice_get named.net_names.items n ≡ Some name
        → slice_get nets n ≡ Some at → (text : Text) × (slice_get known.names name ≡ Some text)
        × IsNetText known.names design at text
