-- One instance more.
use Rattle.std.proofs.Common.{◌≡◌, ◌<◌, ◌≤◌, ◌+◌, ap, refl, sym, subst, ◌∙◌, ℕ, zero, suc, List, [], ◌∷◌}
use Rattle.std.proofs.Common.{◌++◌, map, slice_get, slice_index_or, Option, Some, None, arith, length}
use Rattle.std.proofs.Common.{◌⊎◌, inl, inr, get_or, append_assoc, append-nil}
use Rattle.std.specs.Option.{option_map}
use Rattle.std.proofs.lemmas.Bool.{cases_lt}
use Rattle.std.proofs.lemmas.List.{map-append, length_push}
use Rattle.std.proofs.lemmas.Option.{none-some, same_Some, slice_get-get_or, slice_get_within}
use Rattle.ix_message.specs.Shape.{Text}
use Rattle.ix_rec.specs.declared.flow.FlatCell.{FlatCell}
use Rattle.ix_rec.specs.declared.netlist.CellDeclaration.{CellDeclaration}
use Rattle.ix_rec.specs.declared.netlist.CellInstance.{CellInstance}
use Rattle.ix_rec.specs.declared.netlist.NetlistRec.{NetlistRec}
use Rattle.ix_strings.specs.Names.{KeepsNumbers}
use Rattle.ix_hierarchy.specs.Hierarchy.{Path, flat_name}
use Rattle.ix_hierarchy.specs.Walk.{InstanceAt, IsBefore, IsLess}
use Rattle.ix_hierarchy.specs.FlatDesign.{LeafCell, leaf_texts}
use Rattle.ix_hierarchy.specs.Pins.{IsPlainLeaf, type_of}
use Rattle.ix_joined.specs.declared.joined.Joined.{Joined}
use Rattle.ix_joined.specs.Joining.{Known, IsJoined}
use Rattle.ix_flat_lists.specs.Listed.{AreLeaves}
use Rattle.ix_names_grow.specs.Grown.{IsGrown}
use Rattle.ix_port_cells.specs.CellTexts.{AreCells}
use Rattle.ix_leaf_cells.specs.LeavesTo.{AreListedTo, AreTo, IsTypeOf}
use Rattle.ix_hierarchy.specs.declared.instance.Instance.{Instance}
use Rattle.ix_hierarchy.specs.Fits.{DeclarationFits, InstanceFits, NetlistFits}
use Rattle.ix_leaf_cells.proofs.Finds.{at_place, is_placed}
use Rattle.ix_leaf_cells.proofs.Texts.{cells_keep, push_cell}

-- an item behind others
pushed : {A : Type 0} (xs : List A) (y : A) (k : ℕ) (x : A) → slice_get (xs ++ y ∷ []) k ≡ Some x
    → (slice_get xs k ≡ Some x) ⊎ ((k ≡ length xs) × (y ≡ x))
pushed [] y zero x h = inr (refl, same_Some y x h)
pushed [] y (suc k) x h = absurd (none-some x h)
pushed (z ∷ xs) y zero x h = inl h
pushed (z ∷ xs) y (suc k) x h = elim (pushed xs y k x h) [
  | inl before ↦ inl before
  | inr last ↦ inr (ap suc last.0, last.1)
]

before_push : {A : Type 0} (xs : List A) (y : A) (k : ℕ) (x : A) → slice_get xs k ≡ Some x
    → slice_get (xs ++ y ∷ []) k ≡ Some x
before_push [] y k x h = absurd (none-some x h)
before_push (z ∷ xs) y zero x h = h
before_push (z ∷ xs) y (suc k) x h = before_push xs y k x h

last_push : {A : Type 0} (xs : List A) (y : A) → slice_get (xs ++ y ∷ []) (length xs) ≡ Some y
last_push [] y = refl
last_push (z ∷ xs) y = last_push xs y

-- the texts of leaves over the larger table
leaf_same : (known : Known) (design : NetlistRec) (old new : List Text) (leaf : LeafCell)
    → IsGrown old new design → IsPlainLeaf known.device design leaf.path leaf.inst leaf.ty
    → leaf_texts old design leaf ≡ leaf_texts new design leaf
leaf_same known design old new leaf grown plain =
    by (slice_get design.cell_decls leaf.inst.cell) refl plain.leaf.type_is
  where
    by : (o : Option CellDeclaration) → slice_get design.cell_decls leaf.inst.cell ≡ o
        → option_map (λ (d : CellDeclaration). d.name) o ≡ Some leaf.ty
        → leaf_texts old design leaf ≡ leaf_texts new design leaf
    by None e h = absurd (none-some leaf.ty h)
    by (Some declared) e h =
        let name : declared.name ≡ leaf.ty = same_Some declared.name leaf.ty h in
        ap (λ t. (t, slice_index_or old leaf.ty [])) (grown.flat leaf.path [])
        ∙ ap (λ t. (flat_name new design leaf.path [], t))
        (ap (λ n. slice_index_or old n []) (sym name) ∙ grown.of_type leaf.inst.cell declared e
        ∙ ap (λ n. slice_index_or new n []) name)

leaves_same : (known : Known) (design : NetlistRec) (old new : List Text) (list : List LeafCell)
    → IsGrown old new design
    → ((k : ℕ) (leaf : LeafCell) → slice_get list k ≡ Some leaf
    → IsPlainLeaf known.device design leaf.path leaf.inst leaf.ty)
    → map (leaf_texts old design) list ≡ map (leaf_texts new design) list
leaves_same known design old new [] grown each = refl
leaves_same known design old new (leaf ∷ list) grown each =
    ap (λ x. x ∷ map (leaf_texts old design) list)
    (leaf_same known design old new leaf grown (each 0 leaf refl))
    ∙ ap (λ xs. leaf_texts new design leaf ∷ xs)
    (leaves_same known design old new list grown (λ k l h. each (suc k) l h))

plain_at : (known : Known) (design : NetlistRec) (count : ℕ) (leaves : List ℕ)
    (list : List LeafCell) → AreListedTo known design count leaves list → (k : ℕ) (leaf : LeafCell)
    → slice_get list k ≡ Some leaf → IsPlainLeaf known.device design leaf.path leaf.inst leaf.ty
plain_at known design count leaves list to k leaf h =
    let lt : k < length list = slice_get_within list k leaf h in
    let many : length leaves ≡ length list = to.many in
    (to.each k (get_or leaves k 0) leaf (slice_get-get_or leaves k 0 (omega arith)) h).2

-- a path is of one instance
not_less : (xs : List ℕ) → IsLess xs xs → ⊥
not_less [] h = h
not_less (x ∷ xs) h = elim h [
  | inl less ↦ absurd (omega arith)
  | inr rest ↦ absurd (not_less xs rest.1)
]

-- a leaf has one record and one type
same_leaf : (known : Known) (design : NetlistRec) (path : Path) (a b : CellInstance) (s t : ℕ)
    → IsPlainLeaf known.device design path a s → IsPlainLeaf known.device design path b t
    → (a ≡ b) × (s ≡ t)
same_leaf known design path a b s t x y =
    let insts : a ≡ b = same_Some a b (sym x.leaf.leaf.is ∙ y.leaf.leaf.is) in
    (insts, same_Some s t (sym x.leaf.type_is ∙ ap (type_of design) insts ∙ y.leaf.type_is))

-- a leaf more
pub leaf_more : (known : Known) (design : NetlistRec) (joined : Joined) (instance : ℕ)
    (leaf : LeafCell) (leaves : List ℕ) (list : List LeafCell) → IsJoined known design joined
    → slice_get known.paths instance ≡ Some leaf.path
    → IsPlainLeaf known.device design leaf.path leaf.inst leaf.ty
    → AreListedTo known design instance leaves list
    → AreListedTo known design (instance + 1) (leaves ++ instance ∷ []) (list ++ leaf ∷ [])
leaf_more known design joined instance leaf leaves list are at plain to =
    let many : length leaves ≡ length list = to.many in
    record {
      many = length_push leaves instance ∙ ap (λ n. n + 1) many ∙ sym (length_push list leaf);
      each = λ k i l x y. elim (pushed leaves instance k i x) [
        | inl first ↦ elim (pushed list leaf k l y) [
          | inl second ↦ let e = to.each k i l first second in
              let less : i < instance = e.0 in (omega arith, e.1, e.2)
          | inr last ↦ let lt : k < length leaves = slice_get_within leaves k i first in
              let p : k ≡ length list = last.0 in absurd (omega arith)
        ]
        | inr first ↦ elim (pushed list leaf k l y) [
          | inl second ↦ let lt : k < length list = slice_get_within list k l second in
              let p : k ≡ length leaves = first.0 in absurd (omega arith)
          | inr last ↦ let e : instance ≡ i = first.1 in
              let less : i < instance + 1 = omega arith in (
                less,
                ap (slice_get known.paths) (sym e) ∙ at ∙ ap (λ (q : LeafCell). Some q.path)
                    last.1,
                subst (λ (q : LeafCell).
                    IsPlainLeaf known.device design q.path q.inst q.ty) last.1 plain,
              )
        ]
      ];
      rise = λ j k a b less x y. elim (pushed leaves instance k b y) [
        | inl second ↦ elim (pushed leaves instance j a x) [
          | inl first ↦ to.rise j k a b less first second
          | inr last ↦ let lt : k < length leaves = slice_get_within leaves k b second in
              let p : j ≡ length leaves = last.0 in absurd (omega arith)
        ]
        | inr last ↦ elim (pushed leaves instance j a x) [
          | inl first ↦
              let lt : j < length leaves = slice_get_within leaves j a first in
              let below : j < length list = omega arith in
              let e = to.each j a (get_or list j leaf) first (slice_get-get_or list j leaf below)
              in
              let small : a < instance = e.0 in let q : instance ≡ b = last.1 in omega arith
          | inr other ↦ let p : j ≡ length leaves = other.0 in
              let q : k ≡ length leaves = last.0 in absurd (omega arith)
        ]
      ];
      all = λ i path inst ty less p is. elim (cases_lt i instance) [
        | inl before ↦ let old = to.all i path inst ty before p is in (
          old.0,
          before_push leaves instance old.0 i old.1,
          before_push list leaf old.0 record { path = path; inst = inst; ty = ty } old.2,
        )
        | inr more ↦
            let same : instance ≡ i = omega arith in
            let paths : leaf.path ≡ path = same_Some leaf.path path (sym at
            ∙ ap (slice_get known.paths) same ∙ p) in
            let both = same_leaf known design path leaf.inst inst leaf.ty ty
            (subst (λ (q : Path). IsPlainLeaf known.device design q leaf.inst leaf.ty) paths plain)
            is in
            let leaf_is : leaf ≡ record { path = path; inst = inst; ty = ty } =
            ap (λ q. record { path = q; inst = leaf.inst; ty = leaf.ty }) paths
            ∙ ap (λ q. record { path = path; inst = q; ty = leaf.ty }) both.0
            ∙ ap (λ q. record { path = path; inst = inst; ty = q }) both.1 in (
              length leaves,
              last_push leaves instance ∙ ap Some same,
              ap (slice_get (list ++ leaf ∷ [])) many ∙ last_push list leaf ∙ ap Some leaf_is,
            )
      ];
    }

-- or none
pub leaf_none : (known : Known) (design : NetlistRec) (instance : ℕ) (path : Path)
    (leaves : List ℕ) (list : List LeafCell) → slice_get known.paths instance ≡ Some path
    → (((inst : CellInstance) × (ty : ℕ) × IsPlainLeaf known.device design path inst ty) → ⊥)
    → AreListedTo known design instance leaves list
    → AreListedTo known design (instance + 1) leaves list
leaf_none known design instance path leaves list at isnt to = record {
  many = to.many;
  each = λ k i l x y. let e = to.each k i l x y in let less : i < instance = e.0 in
      (omega arith, e.1, e.2);
  rise = to.rise;
  all = λ i q inst ty less p is. elim (cases_lt i instance) [
    | inl before ↦ to.all i q inst ty before p is
    | inr more ↦
        let same : instance ≡ i = omega arith in
        let paths : q ≡ path = same_Some q path (sym p ∙ ap (slice_get known.paths) (sym same)
        ∙ at) in
        absurd (isnt (
          inst,
          ty,
          subst (λ (x : Path). IsPlainLeaf known.device design x inst ty)
              paths is,
        ))
  ];
}

pub to_more : (known : Known) (design : NetlistRec) (joined : Joined) (old new : List Text)
    (texts : List (Text × Text)) (instance : ℕ) (leaf : LeafCell) (cell : FlatCell)
    (leaves : List ℕ) (cells : List FlatCell) → IsJoined known design joined
    → KeepsNumbers old new → IsGrown old new design
    → slice_get known.paths instance ≡ Some leaf.path
    → IsPlainLeaf known.device design leaf.path leaf.inst leaf.ty
    → slice_get new cell.name ≡ Some (flat_name new design leaf.path [])
    → slice_get new cell.ty ≡ Some (slice_index_or new leaf.ty [])
    → AreTo known design old texts instance leaves cells
    → AreTo known design new texts (instance + 1) (leaves ++ instance ∷ []) (cells ++ cell ∷ [])
to_more known design joined old new texts instance leaf cell leaves cells are keeps grown at plain n
    t to =
    let list = to.list in
    let same = leaves_same known design old new list grown
    (plain_at known design instance leaves list to.listed) in
    let kept : AreCells new cells (texts ++ map (leaf_texts new design) list) =
    subst (λ ts. AreCells new cells (texts ++ ts)) same
    (cells_keep old new cells (texts ++ map (leaf_texts old design) list) keeps to.cells_are) in
    record {
      list = list ++ leaf ∷ [];
      listed = leaf_more known design joined instance leaf leaves list are at plain to.listed;
      cells_are = subst (λ ts. AreCells new (cells ++ cell ∷ []) ts)
          (append_assoc texts (map (leaf_texts new design) list) (leaf_texts new design leaf ∷ [])
          ∙ ap (λ ts. texts ++ ts) (sym (map-append (leaf_texts new design) list (leaf ∷ []))))
          (push_cell new cells (texts ++ map (leaf_texts new design) list) cell
          (flat_name new design leaf.path []) (slice_index_or new leaf.ty []) kept n t);
    }

pub to_none : (known : Known) (design : NetlistRec) (names : List Text)
    (texts : List (Text × Text)) (instance : ℕ) (path : Path) (leaves : List ℕ)
    (cells : List FlatCell) → slice_get known.paths instance ≡ Some path
    → (((inst : CellInstance) × (ty : ℕ) × IsPlainLeaf known.device design path inst ty) → ⊥)
    → AreTo known design names texts instance leaves cells
    → AreTo known design names texts (instance + 1) leaves cells
to_none known design names texts instance path leaves cells at isnt to = record {
  list = to.list;
  listed = leaf_none known design instance path leaves to.list at isnt to.listed;
  cells_are = to.cells_are;
}

-- the path of an instance
pub path_of : (known : Known) (design : NetlistRec) (joined : Joined) (i : ℕ)
    → IsJoined known design joined → i < length joined.instances.items
    → (path : Path) × (slice_get known.paths i ≡ Some path)
path_of known design joined i are there =
    let many : length known.paths ≡ length joined.instances.items = are.are_instances.many in
    (get_or known.paths i [], slice_get-get_or known.paths i [] (omega arith))

-- the declaration of an instance is there
pub declared : (known : Known) (design : NetlistRec) (joined : Joined) (i : ℕ) (one : Instance)
    → IsJoined known design joined → slice_get joined.instances.items i ≡ Some one
    → one.declaration < length design.cell_decls
declared known design joined i one are is =
    let there : i < length joined.instances.items =
    slice_get_within joined.instances.items i one is in
    let path = path_of known design joined i are there in
    elim (are.are_instances.each i path.0 one path.1 is) [
      | inl top ↦ subst (λ d. d < length design.cell_decls) (sym top.4) are.fits.top.cell
      | inr below ↦ subst (λ d. d < length design.cell_decls) below.8
          (at_place (InstanceFits (length known.names) design) design.inst_list one.number below.2
          are.fits.insts below.7).cell
    ]

-- the type that is told is the leaf's
pub same_type : (known : Known) (design : NetlistRec) (joined : Joined) (i ty : ℕ)
    (leaf : LeafCell) → IsJoined known design joined
    → slice_get known.paths i ≡ Some leaf.path
    → IsPlainLeaf known.device design leaf.path leaf.inst leaf.ty
    → IsTypeOf design joined i ty → ty ≡ leaf.ty
same_type known design joined i ty leaf are at plain is =
    let placed = is_placed design joined.instances.items known.paths (length joined.firsts.items) i
    leaf.path is.one are.are_instances at is.one_is in
    let insts : placed.inst ≡ leaf.inst = same_Some placed.inst leaf.inst (sym placed.at_path
    ∙ plain.leaf.leaf.is) in
    let cells : leaf.inst.cell ≡ is.one.declaration =
    ap (λ (x : CellInstance). x.cell) (sym insts) ∙ placed.of_it in
    is.type_is ∙ same_Some is.declared.name leaf.ty
    (ap (option_map (λ (d : CellDeclaration). d.name)) (sym (ap (slice_get design.cell_decls) cells
    ∙ is.declared_is)) ∙ plain.leaf.type_is)

-- and is a name
pub type_named : (names : ℕ) (design : NetlistRec) (joined : Joined) (i ty : ℕ)
    → NetlistFits names design → IsTypeOf design joined i ty → ty < names
type_named names design joined i ty fits is =
    subst (λ n. n < names) (sym is.type_is)
    (at_place (DeclarationFits names design) design.cell_decls is.one.declaration is.declared
    fits.declarations is.declared_is).name

none_last : (xs : List ℕ) (x : ℕ) → [] ≡ xs ++ x ∷ [] → ⊥
none_last [] x e = absurd (cc)
none_last (y ∷ xs) x e = absurd (cc)

-- at the start
pub to_start : (known : Known) (design : NetlistRec) (joined : Joined) (names : List Text)
    (texts : List (Text × Text)) (cells : List FlatCell) → IsJoined known design joined
    → AreCells names cells texts → AreTo known design names texts 1 [] cells
to_start known design joined names texts cells are h = record {
  list = [];
  listed = record {
    many = refl;
    each = λ k i l x y. absurd (none-some i x);
    rise = λ j k a b less x y. absurd (none-some a x);
    all = λ i path inst ty less p is.
        let first : i ≡ 0 = omega arith in
        let top : [] ≡ path = same_Some [] path (sym are.are_instances.top
        ∙ ap (slice_get known.paths) (sym first) ∙ p) in
        absurd (none_last is.leaf.leaf.parent is.leaf.leaf.place (top ∙ is.leaf.leaf.below));
  };
  cells_are = subst (λ ts. AreCells names cells ts) (sym (append-nil texts)) h;
}

-- at the end
pub to_all : (known : Known) (design : NetlistRec) (joined : Joined) (names : List Text)
    (texts : List (Text × Text)) (count : ℕ) (leaves : List ℕ) (cells : List FlatCell)
    → IsJoined known design joined → length joined.instances.items ≤ count
    → AreTo known design names texts count leaves cells
    → (list : List LeafCell) × AreLeaves known design leaves list
    × AreCells names cells (texts ++ map (leaf_texts names design) list)
to_all known design joined names texts count leaves cells are whole to = (
  to.list,
  record {
    are = record {
      each = plain_at known design count leaves to.list to.listed;
      rise = λ j k a b less x y. before j k a b less x y;
      all = λ path inst ty is. every path inst ty is;
    };
    many = to.listed.many;
    each = λ k i leaf x y. (to.listed.each k i leaf x y).1;
  },
  to.cells_are,
)
  where
    number : (k : ℕ) (leaf : LeafCell) → slice_get to.list k ≡ Some leaf
        → (i : ℕ) × (slice_get leaves k ≡ Some i)
    number k leaf h =
        let lt : k < length to.list = slice_get_within to.list k leaf h in
        let many : length leaves ≡ length to.list = to.listed.many in
        (get_or leaves k 0, slice_get-get_or leaves k 0 (omega arith))

    before : (j k : ℕ) (a b : LeafCell) → j < k → slice_get to.list j ≡ Some a
        → slice_get to.list k ≡ Some b → IsBefore (InstanceAt a.path) (InstanceAt b.path)
    before j k a b less x y =
        let m = number j a x in
        let n = number k b y in
        are.are_instances.rise m.0 n.0 a.path b.path (to.listed.rise j k m.0 n.0 less m.1 n.1)
        (to.listed.each j m.0 a m.1 x).1 (to.listed.each k n.0 b n.1 y).1

    every : (path : Path) (inst : CellInstance) (ty : ℕ)
        → IsPlainLeaf known.device design path inst ty
        → (k : ℕ) × (slice_get to.list k ≡ Some record { path = path; inst = inst; ty = ty })
    every path inst ty is =
        let there = are.are_instances.every path inst is.leaf.leaf.is in
        let many : length known.paths ≡ length joined.instances.items = are.are_instances.many in
        let less : there.0 < length known.paths = there.1 in
        let at : slice_get known.paths there.0 ≡ Some path =
        slice_get-get_or known.paths there.0 path there.1 ∙ ap Some there.2 in
        let found = to.listed.all there.0 path inst ty (omega arith) at is in
        (found.0, found.2)
