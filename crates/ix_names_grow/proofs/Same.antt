-- The same texts.
use Rattle.std.proofs.Common.{◌≡◌, ◌<◌, ap, refl, sym, ◌∙◌, ℕ, List, [], ◌∷◌, ◌++◌, map}
use Rattle.std.proofs.Common.{slice_get, slice_index_or, Option, Some, None, length, get_or, unwrap_or}
use Rattle.std.proofs.Common.{inl, inr}
use Rattle.std.specs.Option.{option_and_then, option_map}
use Rattle.std.proofs.lemmas.Option.{option_and_then_some, slice_get-get_or}
use Rattle.std.proofs.lemmas.Option.{get_or_from_slice_get}
use Rattle.ix_message.specs.Shape.{Text}
use Rattle.ix_rec.specs.declared.netlist.Cell.{Cell}
use Rattle.ix_rec.specs.declared.netlist.CellInstance.{CellInstance}
use Rattle.ix_rec.specs.declared.netlist.NetlistRec.{NetlistRec}
use Rattle.ix_rec.specs.declared.netlist.Port.{Port}
use Rattle.ix_strings.specs.Names.{KeepsNumbers}
use Rattle.ix_hierarchy.specs.Fits.{DeclarationFits, InstanceFits, NetlistFits}
use Rattle.ix_hierarchy.specs.Hierarchy.{Path, PortBit, along, bit_text, child, child_of}
use Rattle.ix_hierarchy.specs.Hierarchy.{inside, joined, written, written_bit}
use Rattle.ix_hierarchy.specs.Walk.{TopBit, NetAt, InstanceAt, PinAt}
use Rattle.ix_hierarchy.specs.Broken.{BreaksN2, NoneBreaks}
use Rattle.ix_hierarchy.specs.Nets.{bit_of}
use Rattle.ix_names_grow.specs.Grown.{IsGrown}
use Rattle.ix_names_grow.proofs.More.{at_place, fits_more, longer}

-- a name
text_same : (old new : List Text) (name : ℕ) → KeepsNumbers old new → name < length old
    → slice_index_or old name [] ≡ slice_index_or new name []
text_same old new name keeps lt =
    sym (get_or_from_slice_get new name (get_or old name []) []
    (keeps name (get_or old name []) (slice_get-get_or old name [] lt)))

abbrev name_of : List Text → CellInstance → Text
name_of names inst = slice_index_or names inst.name []

-- a child is in the list
child_fits : (names : ℕ) (design : NetlistRec) (from inst : CellInstance) (place : ℕ)
    → NetlistFits names design → child design from place ≡ Some inst → inst.name < names
child_fits names design from inst place fits h =
    option_and_then_some (λ (cell : Cell). child_of design cell place) (inside design from.cell) inst
    h (λ cell i c.
    option_and_then_some (slice_get design.inst_list) (slice_get cell.insts place) inst c
    (λ number n t.
    (at_place (InstanceFits names design) design.inst_list number inst fits.insts t).name))

-- names on a way
along_same : (old new : List Text) (design : NetlistRec) (from : CellInstance) (path : Path)
    → KeepsNumbers old new → NetlistFits (length old) design
    → map (name_of old) (unwrap_or (along design from path) [])
    ≡ map (name_of new) (unwrap_or (along design from path) [])
unfolding along
along_same old new design from [] keeps fits = refl
along_same old new design from (place ∷ path) keeps fits =
    by (child design from place) (λ inst h. child_fits (length old) design from inst place fits h)
    (λ inst. along_same old new design inst path keeps fits)
  where
    both : (inst : CellInstance) (o : Option (List CellInstance)) → name_of old inst ≡ name_of new inst
        → map (name_of old) (unwrap_or o []) ≡ map (name_of new) (unwrap_or o [])
        → map (name_of old) (unwrap_or (option_map (λ rest. inst ∷ rest) o) [])
        ≡ map (name_of new) (unwrap_or (option_map (λ rest. inst ∷ rest) o) [])
    both inst None e h = refl
    both inst (Some rest) e h = ap (λ t. t ∷ map (name_of old) rest) e
        ∙ ap (λ ts. name_of new inst ∷ ts) h

    by : (o : Option CellInstance) → ((inst : CellInstance) → o ≡ Some inst → inst.name < length old)
        → ((inst : CellInstance) → map (name_of old) (unwrap_or (along design inst path) [])
        ≡ map (name_of new) (unwrap_or (along design inst path) []))
        → map (name_of old) (unwrap_or (option_and_then
        (λ inst. option_map (λ rest. inst ∷ rest) (along design inst path)) o) [])
        ≡ map (name_of new) (unwrap_or (option_and_then
        (λ inst. option_map (λ rest. inst ∷ rest) (along design inst path)) o) [])
    by None small again = refl
    by (Some inst) small again = both inst (along design inst path)
        (text_same old new inst.name keeps (small inst refl)) (again inst)

port_same : (old new : List Text) (design : NetlistRec) (number index : ℕ) (port : Port)
    → KeepsNumbers old new → NetlistFits (length old) design
    → slice_get design.port_list number ≡ Some port → written old port index ≡ written new port index
port_same old new design number index port keeps fits h =
    ap (λ t. bit_text port.kind t index) (text_same old new port.name keeps
    (at_place (λ (p : Port). p.name < length old) design.port_list number port fits.ports h))

bit_same : (old new : List Text) (design : NetlistRec) (bit : PortBit) → KeepsNumbers old new
    → NetlistFits (length old) design → written_bit old design bit ≡ written_bit new design bit
bit_same old new design bit keeps fits = by (slice_get design.port_list bit.port) refl
  where
    by : (o : Option Port) → slice_get design.port_list bit.port ≡ o
        → option_map (λ port. written old port bit.index) o
        ≡ option_map (λ port. written new port bit.index) o
    by None e = refl
    by (Some port) e = ap Some (port_same old new design bit.port bit.index port keeps fits e)

-- N2 over the larger table
none_twice : (old new : List Text) (design : NetlistRec) → KeepsNumbers old new
    → NetlistFits (length old) design → NoneBreaks (BreaksN2 old design)
    → NoneBreaks (BreaksN2 new design)
none_twice old new design keeps fits none (NetAt path net) broken =
    none (NetAt path net) (
      broken.0,
      broken.1,
      elim broken.2 [
        | inl two ↦ inl two
        | inr twice ↦ inr (record {
          place = twice.place;
          named = twice.named;
          here = twice.here;
          of_instance = twice.of_instance;
          met = twice.met;
          earlier = twice.earlier;
          other_place = twice.other_place;
          other = twice.other;
          there = twice.there;
          before = twice.before;
          owner = twice.owner;
          apart = twice.apart;
          text = twice.text;
          text_is = bit_same old new design (bit_of twice.named) keeps fits ∙ twice.text_is;
          other_text_is = bit_same old new design (bit_of twice.other) keeps fits
              ∙ twice.other_text_is;
        })
      ],
    )
none_twice old new design keeps fits none (TopBit place index) broken = broken
none_twice old new design keeps fits none (InstanceAt path) broken = broken
none_twice old new design keeps fits none (PinAt path place index) broken = broken

pub is_grown : (old new : List Text) (design : NetlistRec) → KeepsNumbers old new
    → NetlistFits (length old) design → IsGrown old new design
is_grown old new design keeps fits = record {
  longer = longer old new keeps;
  fits = fits_more (length old) (length new) design (longer old new keeps) fits;
  flat = λ path inner. ap (λ ns. joined (ns ++ inner))
      (along_same old new design design.top_inst path keeps fits);
  of_port = λ number index port h. port_same old new design number index port keeps fits h;
  of_bit = λ bit. bit_same old new design bit keeps fits;
  of_type = λ declaration declared h. text_same old new declared.name keeps
      (at_place (DeclarationFits (length old) design) design.cell_decls declaration declared
      fits.declarations h).name;
  joined = λ device paths joined is differ. record {
    fits = fits_more (length old) (length new) design (longer old new keeps) fits;
    differ = differ;
    keeps = (
      (
        (is.keeps.0.0.0, none_twice old new design keeps fits is.keeps.0.0.1),
        is.keeps.0.1,
      ),
      is.keeps.1,
    );
    are_kinds = is.are_kinds;
    rows = is.rows;
    are_written = record {
      many = is.are_written.many;
      each = λ k row name r w. let e = is.are_written.each k row name r w in (
        e.0,
        keeps name e.0 e.1,
        sym (bit_same old new design (Rattle.ix_hierarchy.specs.Lists.bit_in row) keeps fits) ∙ e.2,
      );
    };
    are_instances = is.are_instances;
    numbered = is.numbered;
    few = is.few;
    are_firsts = is.are_firsts;
  };
}
