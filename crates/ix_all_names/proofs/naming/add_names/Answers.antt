use Rattle.std.proofs.Common.{◌≡◌, ◌≤◌, ◌<◌, ◌^◌, ◌∙◌, sym, subst, List, ℕ, length}
use Rattle.std.proofs.Common.{arith, rules}
use Rattle.ix_message.specs.Shape.{Text}
use Rattle.ix_strings.specs.Names.{KeepsNumbers}
use Rattle.ix_hierarchy.specs.Fits.{NetlistFits}
use Rattle.ix_hierarchy.specs.FlatDesign.{port_cells}
use Rattle.ix_flat_lists.specs.Listed.{AreSignalNets}
use Rattle.ix_names_grow.specs.Grown.{IsGrown}
use Rattle.ix_net_names.specs.NetNames.{AreNetNames}
use Rattle.ix_all_names.proofs.Few.{cells_many, ports_few}
use Rattle.ix_all_names.proofs.Whole.{all_named}
use Rattle.ix_all_names.proofs.naming.add_names.Goals as goal

pub overflow_cast-ports : goal.overflow_cast-ports
overflow_cast-ports c =
    let few : length c.put_port_cells.new.cells.items < 2 ^ 32 =
    ports_few c.put_port_cells.new.names c.args.rec.now c.put_port_cells.new.cells.items
    c.in_ok-put_port_cells.ensures.cells c.requires.bits.3.places c.requires.joined.1.keeps.1 in
    let is : c.len-ports.result < 2 ^ 32 =
    omega (arith, c.len-ports.ensures, c.put_port_cells.new.cells.ok.0) in
    search rules

pub put_net_names-requires-clause-fits : goal.put_net_names-requires-clause-fits
put_net_names-requires-clause-fits c =
    (c.names_grow.ensures c.args.names.now c.put_leaves.new.names c.args.rec.now
    (λ id text h. c.put_leaves.ensures.keeps id text (c.put_port_cells.ensures.keeps id text h))
    c.requires.fits).fits

pub put_net_names-requires-clause-signals : goal.put_net_names-requires-clause-signals
put_net_names-requires-clause-signals c =
    let given = c.requires.joined in
    let design = c.args.rec.now in
    let joined = c.args.joined.now in
    let nets = c.in_ok-signals.ensures given.0 design joined given.1 (sym c.deref.ensures.value)
    given.3 in
    let longer : length c.args.names.now ≤ length c.put_leaves.new.names =
    (c.names_grow.ensures c.args.names.now c.put_leaves.new.names design
    (λ id text h. c.put_leaves.ensures.keeps id text (c.put_port_cells.ensures.keeps id text h))
    c.requires.fits).longer in
    let few : length given.0.names ≤ length c.args.names.now = given.2 in (
      given.0,
      nets.0,
      given.1,
      omega arith,
      subst (λ (ids : List ℕ). AreSignalNets given.0 design joined ids nets.0)
          (sym c.deref-2.ensures.value) nets.1,
    )

pub returns-clause-named : goal.returns-clause-named
returns-clause-named c = λ known same are states.
    let design = c.args.rec.now in
    let joined = c.args.joined.now in
    let first = c.put_port_cells.new.names in
    let old = c.put_leaves.new.names in
    let now = c.put_net_names.new.names in
    let fits : NetlistFits (length first) design = (c.names_grow.ensures c.args.names.now first
    design c.put_port_cells.ensures.keeps c.requires.fits).fits in
    let fits_old : NetlistFits (length old) design =
    (c.names_grow.ensures first old design c.put_leaves.ensures.keeps fits).fits in
    let grown : IsGrown first known.names design =
    subst (λ (names : List Text). IsGrown first names design) (sym same)
    (c.names_grow.ensures first now design
    (λ id text h. c.put_net_names.ensures.keeps id text (c.put_leaves.ensures.keeps id text h))
    fits) in
    let more : IsGrown old known.names design =
    subst (λ (names : List Text). IsGrown old names design) (sym same)
    (c.names_grow.ensures old now design c.put_net_names.ensures.keeps fits_old) in
    let keeps : KeepsNumbers old known.names =
    subst (λ (names : List Text). KeepsNumbers old names) (sym same) c.put_net_names.ensures.keeps in
    let leaves = c.in_ok-leaves.ensures.leaves known (port_cells first design) are
    c.in_ok-put_port_cells.ensures.cells in
    let nets = c.in_ok-signals.ensures known design joined are (sym c.deref.ensures.value) states in
    let names : AreNetNames known.names design nets.0 c.in_ok-net_names.net_names.items =
    subst (λ (texts : List Text). AreNetNames texts design nets.0 c.in_ok-net_names.net_names.items)
    (sym same)
    (c.in_ok-net_names.ensures.named known nets.0 are
    (subst (λ (ids : List ℕ). AreSignalNets known design joined ids nets.0)
    (sym c.deref-2.ensures.value) nets.1)) in
    let ports : c.len-ports.result ≡ length c.put_port_cells.new.cells.items =
    omega (arith, c.len-ports.ensures, c.put_port_cells.new.cells.ok.0) in
    all_named known design joined first old _ leaves.0 nets.0 grown more keeps leaves.1 leaves.2
    (ports ∙ cells_many first design c.put_port_cells.new.cells.items
    c.in_ok-put_port_cells.ensures.cells) nets.1 names
