-- The way down to the first leaf of unknown type.
use Rattle.std.proofs.Common.{◌≡◌, ◌⊎◌, ◌<◌, ◌≤◌, ◌+◌, ◌∙◌, ℕ, List, [], ◌∷◌, ◌++◌, length, map}
use Rattle.std.proofs.Common.{Option, Some, None, slice_get, Contains, Bool, true, ◌↔◌}
use Rattle.std.proofs.Common.{refl, sym, ap, subst, arith, inl, inr}
use Rattle.std.specs.Prelude.{option_and_then, option_map}
use Rattle.std.proofs.lemmas.Bool.{cases_lt}
use Rattle.std.proofs.lemmas.List.{map_push, length_push}
use Rattle.std.proofs.lemmas.Option.{same_Some, none-some, slice_get_within, get_or_from_slice_get}
use Rattle.ix_rec.specs.declared.device.DeviceRec.{DeviceRec}
use Rattle.ix_rec.specs.declared.netlist.Cell.{Cell}
use Rattle.ix_rec.specs.declared.netlist.CellInstance.{CellInstance}
use Rattle.ix_rec.specs.declared.netlist.NetlistRec.{NetlistRec}
use Rattle.ix_hierarchy.specs.declared.kind.Kind.{Kind}
use Rattle.ix_hierarchy.specs.declared.kind.Kind.TheVariants.{Inside, Unknown}
use Rattle.ix_hierarchy.specs.Hierarchy.{Path, inside, child, along, reached, instance_at}
use Rattle.ix_hierarchy.specs.Fits.{NetlistFits}
use Rattle.ix_hierarchy.specs.Walk.{Spot, TopBit, NetAt, InstanceAt, PinAt, IsBefore}
use Rattle.ix_hierarchy.specs.Broken.{BreaksN9, NoneBreaks, Contains as IsIn}
use Rattle.ix_hierarchy.specs.Lists.{AreClosed, AreKinds, first_cell}
use Rattle.ix_flat_texts.specs.Ways.{IsWayTo}
use Rattle.ix_unknown.specs.FirstUnknown.{IsFirstUnknown}
use Rattle.ix_unknown.specs.Marked.{IsPlaced, IsMarked, IsUnknownAt, HasUnknown, AreMarked}
use Rattle.ix_unknown.specs.Marked.{NoneMarked, place_of}
use Rattle.ix_unknown.proofs.Parts.{among, contained, place_below, place_at}
use Rattle.ix_unknown.proofs.Past.{IsPast, past_cases, past_on, not_before, last_step}
use Rattle.ix_unknown.proofs.Found.{first_some, placed_child, placed_in, unknown_below}
use Rattle.ix_unknown.proofs.Found.{unknown_breaks, breaks_unknown}

-- where the way stands: at an instance that has such a leaf in it or is one, or at the top, and no
-- such leaf is before all that is in it
pub record IsGoing (design : NetlistRec) (kinds : List Kind) (closed : List ℕ) (way : List ℕ)
    (declaration : ℕ) : Type 0 where
  pub path : Path
  pub inst : CellInstance
  pub at : instance_at design path ≡ Some inst
  pub of_it : inst.cell ≡ declaration
  pub way_is : IsWayTo design path way
  pub same : length way ≡ length path
  pub in_closed : Contains closed declaration
  pub past : (other : Path) → IsUnknownAt design kinds design.top_inst.cell other
      → IsPast path other
  pub some : (path ≡ []) ⊎ HasUnknown design kinds declaration

-- one instance more on a way
along_on : (design : NetlistRec) (from inst next : CellInstance) (path : Path) (place : ℕ)
    (insts : List CellInstance) → along design from path ≡ Some insts
    → reached design from path ≡ Some inst → child design inst place ≡ Some next
    → along design from (path ++ place ∷ []) ≡ Some (insts ++ next ∷ [])
unfolding along reached
along_on design from inst next [] place insts a r c =
    let e : from ≡ inst = same_Some from inst r in
    let n : [] ≡ insts = same_Some [] insts a in
    ap (option_and_then (λ i. option_map (λ rest. i ∷ rest) (along design i [])))
    (ap (λ (i : CellInstance). child design i place) e ∙ c)
    ∙ ap (λ (l : List CellInstance). Some (l ++ next ∷ [])) n
along_on design from inst next (k ∷ path) place insts a r c =
    by (child design from k) refl a r (λ i l x y. along_on design i inst next path place l x y c)
  where
    parts : (i : CellInstance) (o : Option (List CellInstance)) → along design i path ≡ o
        → option_map (λ rest. i ∷ rest) o ≡ Some insts
        → (rest : List CellInstance) × (along design i path ≡ Some rest) × (insts ≡ i ∷ rest)
    parts i None e f = absurd cc
    parts i (Some rest) e f = (rest, e, sym (same_Some _ _ f))

    by : (o : Option CellInstance) → child design from k ≡ o
        → option_and_then (λ i. option_map (λ rest. i ∷ rest) (along design i path)) o
        ≡ Some insts
        → option_and_then (λ i. reached design i path) o ≡ Some inst
        → ((i : CellInstance) (l : List CellInstance) → along design i path ≡ Some l
        → reached design i path ≡ Some inst
        → along design i (path ++ place ∷ []) ≡ Some (l ++ next ∷ []))
        → along design from ((k ∷ path) ++ place ∷ []) ≡ Some (insts ++ next ∷ [])
    by None e f g rest = absurd cc
    by (Some i) e f g rest =
        let w = parts i (along design i path) refl f in
        ap (option_and_then (λ i. option_map (λ rest. i ∷ rest)
        (along design i (path ++ place ∷ []))))
        e
        ∙ ap (option_map (λ rest. i ∷ rest)) (rest i w.0 w.1 g)
        ∙ ap (λ (l : List CellInstance). Some (l ++ next ∷ [])) (sym w.2)

reached_on : (design : NetlistRec) (from inst next : CellInstance) (path : Path) (place : ℕ)
    → reached design from path ≡ Some inst → child design inst place ≡ Some next
    → reached design from (path ++ place ∷ []) ≡ Some next
unfolding reached
reached_on design from inst next [] place r c =
    let e : from ≡ inst = same_Some from inst r in
    ap (option_and_then (λ i. Some i)) (ap (λ (i : CellInstance). child design i place) e ∙ c)
reached_on design from inst next (k ∷ path) place r c =
    by (child design from k) refl r (λ i y. reached_on design i inst next path place y c)
  where
    by : (o : Option CellInstance) → child design from k ≡ o
        → option_and_then (λ i. reached design i path) o ≡ Some inst
        → ((i : CellInstance) → reached design i path ≡ Some inst
        → reached design i (path ++ place ∷ []) ≡ Some next)
        → reached design from ((k ∷ path) ++ place ∷ []) ≡ Some next
    by None e g rest = absurd cc
    by (Some i) e g rest =
        ap (option_and_then (λ i. reached design i (path ++ place ∷ []))) e ∙ rest i g

way_on : (design : NetlistRec) (path : Path) (way : List ℕ) (inst next : CellInstance)
    (place number : ℕ) → IsWayTo design path way → instance_at design path ≡ Some inst
    → child design inst place ≡ Some next → slice_get design.inst_list number ≡ Some next
    → IsWayTo design (path ++ place ∷ []) (way ++ number ∷ [])
way_on design path way inst next place number W at c is = record {
  insts = W.insts ++ next ∷ [];
  are_along = along_on design design.top_inst inst next path place W.insts W.are_along at c;
  numbers = map_push (slice_get design.inst_list) way number
      ∙ ap (λ (l : List (Option CellInstance)). l ++ slice_get design.inst_list number ∷ [])
      W.numbers
      ∙ ap (λ (o : Option CellInstance). map (λ inst. Some inst) W.insts ++ o ∷ []) is
      ∙ sym (map_push (λ (inst : CellInstance). Some inst) W.insts next);
}

pub going_top : (design : NetlistRec) (kinds : List Kind) (closed : List ℕ)
    → AreClosed design closed → IsGoing design kinds closed [] design.top_inst.cell
unfolding along reached
going_top design kinds closed C = record {
  path = [];
  inst = design.top_inst;
  at = refl;
  of_it = refl;
  way_is = record { insts = []; are_along = refl; numbers = refl };
  same = refl;
  in_closed = (C.reached design.top_inst.cell).1 ([], refl);
  past = λ other u. tt;
  some = inl refl;
}

-- all marks of what is in a closed declaration
marked_in : (design : NetlistRec) (kinds : List Kind) (closed : List ℕ) (marks : List Bool)
    (declaration : ℕ) → AreMarked design kinds closed marks (length closed)
    → Contains closed declaration
    → (slice_get marks declaration ≡ Some true) ↔ HasUnknown design kinds declaration
marked_in design kinds closed marks declaration A (i, few, is) =
    let at = contained closed declaration (i, few, is) in
    A.each at.0 declaration (within at.0 at.1) at.1
  where
    within : (k : ℕ) → slice_get closed k ≡ Some declaration → k < length closed
    within k h = slice_get_within closed k declaration h

pub child_closed : (design : NetlistRec) (closed : List ℕ) (outer inner : ℕ)
    → AreClosed design closed → Contains closed outer → IsIn design outer inner
    → Contains closed inner × (place_of inner closed < place_of outer closed)
child_closed design closed outer inner C has into =
    let at = contained closed outer has in
    let first : slice_get closed (place_of outer closed) ≡ Some outer =
    place_at outer closed at.0 at.1 in
    let j = among (place_of outer closed) closed inner
    (C.behind (place_of outer closed) outer inner first into) in
    let below : place_of inner closed ≤ j.0 = place_below inner closed j.0 j.2 in
    let less = j.1 in
    (at_contains j.0 j.2, omega arith)
  where
    at_contains : (k : ℕ) → slice_get closed k ≡ Some inner → Contains closed inner
    at_contains k h = (
      k,
      slice_get_within closed k inner h,
      get_or_from_slice_get closed k inner inner h,
    )

-- an unknown leaf below a declaration with a cell is at one of its places, and that is marked
place_marked : (design : NetlistRec) (kinds : List Kind) (closed : List ℕ) (marks : List Bool)
    (declaration k : ℕ) (cell : Cell) (path : Path) → AreClosed design closed
    → AreMarked design kinds closed marks (length closed) → Contains closed declaration
    → slice_get kinds declaration ≡ Some (Inside k) → inside design declaration ≡ Some cell
    → IsUnknownAt design kinds declaration path
    → (c : ℕ) × (rest : Path) × (path ≡ c ∷ rest) × IsMarked design marks cell c
place_marked design kinds closed marks declaration k cell [] C A has kind e u =
    let s : ◌≡◌ {A = Kind} (Inside k) Unknown = same_Some _ _ (sym kind ∙ u) in
    absurd cc
place_marked design kinds closed marks declaration k cell (c ∷ rest) C A has kind e
    (other, inst, f, P, u) =
    let same : other ≡ cell = same_Some other cell (sym f ∙ e) in
    let in_it = child_closed design closed declaration inst.cell C has
    (placed_in design declaration c other inst f P) in (
      c,
      rest,
      refl,
      record {
        inst = inst;
        placed = subst (λ (x : Cell). IsPlaced design x c inst) same P;
        marked = (marked_in design kinds closed marks inst.cell A in_it.0).1 (rest, u);
      },
    )

pub going_on : (device : DeviceRec) (design : NetlistRec) (kinds : List Kind)
    (closed : List ℕ) (marks : List Bool) (way : List ℕ) (declaration k place number : ℕ)
    (cell : Cell) (next : CellInstance) → AreClosed design closed → AreKinds device design kinds
    → AreMarked design kinds closed marks (length closed)
    → IsGoing design kinds closed way declaration
    → slice_get kinds declaration ≡ Some (Inside k) → slice_get design.cell_list k ≡ Some cell
    → IsMarked design marks cell place → NoneMarked design marks cell place
    → slice_get cell.insts place ≡ Some number → slice_get design.inst_list number ≡ Some next
    → IsGoing design kinds closed (way ++ number ∷ []) next.cell
    × (place_of next.cell closed < place_of declaration closed)
going_on device design kinds closed marks way declaration k place number cell next C K A G kind
    cell_is M none which in_list =
    let first : first_cell design declaration ≡ Some k = K.each declaration (Inside k) kind in
    let in_it : inside design declaration ≡ Some cell =
    first_some design declaration k first ∙ cell_is in
    let number_is : M.placed.number ≡ number =
    same_Some M.placed.number number (sym M.placed.which ∙ which) in
    let inst_is : M.inst ≡ next = same_Some M.inst next
    (sym M.placed.in_list ∙ ap (slice_get design.inst_list) number_is ∙ in_list) in
    let P : IsPlaced design cell place next =
    record { number = number; which = which; in_list = in_list } in
    let c : child design G.inst place ≡ Some next =
    placed_child design G.inst next cell place (ap (inside design) G.of_it ∙ in_it) P in
    let closed_next = child_closed design closed declaration next.cell C G.in_closed
    (placed_in design declaration place cell next in_it P) in
    let m : length (way ++ number ∷ []) ≡ length way + 1 = length_push way number in
    let n : length (G.path ++ place ∷ []) ≡ length G.path + 1 = length_push G.path place in
    let s = G.same in (
      record {
        path = G.path ++ place ∷ [];
        inst = next;
        at = reached_on design design.top_inst G.inst next G.path place G.at c;
        of_it = refl;
        way_is = way_on design G.path way G.inst next place number G.way_is G.at c in_list;
        same = omega arith;
        in_closed = closed_next.0;
        past = λ other u. elim (past_cases G.path other (place ∷ []) (G.past other u)) [
          | inl w ↦ w
          | inr w ↦
              let below : IsUnknownAt design kinds declaration w.0 =
              subst (λ (d : ℕ). IsUnknownAt design kinds d w.0) G.of_it
              (unknown_below design kinds design.top_inst G.inst G.path w.0 G.at
              (subst (λ (q : Path). IsUnknownAt design kinds design.top_inst.cell q) w.1 u)) in
              let at = place_marked design kinds closed marks declaration k cell w.0 C A G.in_closed
              kind in_it below in
              let later : place ≤ at.0 = elim (cases_lt at.0 place) [
                | inl h ↦ absurd (none at.0 h at.3)
                | inr h ↦ h
              ] in
              subst (λ (q : Path). IsPast (G.path ++ place ∷ []) q)
              (sym (w.1 ∙ ap (λ (q : Path). G.path ++ q) at.2))
              (past_on G.path place at.0 at.1 later)
        ];
        some = inr ((marked_in design kinds closed marks next.cell A closed_next.0).0
            (subst (λ (i : CellInstance). slice_get marks i.cell ≡ Some true) inst_is M.marked));
      },
      closed_next.1,
    )

none_at : (device : DeviceRec) (design : NetlistRec)
    → ((path : Path) → BreaksN9 device design (InstanceAt path) → ⊥)
    → NoneBreaks (BreaksN9 device design)
none_at device design h (TopBit place index) b = b
none_at device design h (NetAt path net) b = b
none_at device design h (InstanceAt path) b = h path b
none_at device design h (PinAt path place index) b = b

-- no place of the cell is marked: then it is the top's, and there is no such leaf
pub going_none : (names : ℕ) (device : DeviceRec) (design : NetlistRec) (kinds : List Kind)
    (closed : List ℕ) (marks : List Bool) (way : List ℕ) (declaration k : ℕ) (cell : Cell)
    → NetlistFits names design → AreClosed design closed → AreKinds device design kinds
    → AreMarked design kinds closed marks (length closed)
    → IsGoing design kinds closed way declaration
    → slice_get kinds declaration ≡ Some (Inside k) → slice_get design.cell_list k ≡ Some cell
    → NoneMarked design marks cell (length cell.insts) → NoneBreaks (BreaksN9 device design)
going_none names device design kinds closed marks way declaration k cell F C K A G kind cell_is
    none = none_at device design (λ path b.
    let first : first_cell design declaration ≡ Some k = K.each declaration (Inside k) kind in
    let in_it : inside design declaration ≡ Some cell =
    first_some design declaration k first ∙ cell_is in
    let nothing : HasUnknown design kinds declaration → ⊥ = λ u.
    let at = place_marked design kinds closed marks declaration k cell u.0 C A G.in_closed kind
    in_it u.1 in
    none at.0 (slice_get_within cell.insts at.0
    at.3.placed.number at.3.placed.which) at.3 in
    elim G.some [
      | inl top ↦
          let u = (breaks_unknown names device design kinds path F K b).0 in
          nothing (
            path,
            subst (λ (d : ℕ). IsUnknownAt design kinds d path) G.of_it
                (unknown_below design kinds design.top_inst G.inst G.path path G.at
                (subst (λ (q : Path). IsUnknownAt design kinds design.top_inst.cell (q ++ path))
                (sym top) u)),
          )
      | inr u ↦ nothing u
    ])

not_in : (design : NetlistRec) (kinds : List Kind) (declaration : ℕ) (path : Path)
    → inside design declaration ≡ None → IsUnknownAt design kinds declaration path → path ≡ []
not_in design kinds declaration [] none u = refl
not_in design kinds declaration (c ∷ path) none (cell, inst, e, P, u) =
    absurd (none-some cell (sym none ∙ e))

-- at the end the way is empty: the top has nothing inside
pub going_empty : (names : ℕ) (device : DeviceRec) (design : NetlistRec) (kinds : List Kind)
    (closed way : List ℕ) (declaration : ℕ) → NetlistFits names design
    → AreKinds device design kinds → IsGoing design kinds closed way declaration
    → inside design declaration ≡ None → length way ≡ 0 → NoneBreaks (BreaksN9 device design)
going_empty names device design kinds closed way declaration F K G none empty =
    none_at device design (λ path b.
    let w = breaks_unknown names device design kinds path F K b in
    let s = G.same in
    let top : G.path ≡ [] = nothing G.path (omega arith) in
    let u : IsUnknownAt design kinds declaration path =
    subst (λ (d : ℕ). IsUnknownAt design kinds d path) G.of_it
    (unknown_below design kinds design.top_inst G.inst G.path path G.at
    (subst (λ (q : Path). IsUnknownAt design kinds design.top_inst.cell (q ++ path))
    (sym top) w.0)) in
    w.1 (not_in design kinds declaration path none u))
  where
    nothing : (p : Path) → length p ≡ 0 → p ≡ []
    nothing [] h = refl
    nothing (x ∷ p) h = absurd (omega arith)

-- or it is at the first such leaf
pub going_found : (names : ℕ) (device : DeviceRec) (design : NetlistRec) (kinds : List Kind)
    (closed way : List ℕ) (declaration : ℕ) → NetlistFits names design
    → AreKinds device design kinds → IsGoing design kinds closed way declaration
    → inside design declaration ≡ None → 0 < length way → IsFirstUnknown device design way
going_found names device design kinds closed way declaration F K G none some =
    let s = G.same in
    let u : slice_get kinds declaration ≡ Some Unknown = elim G.some [
      | inl top ↦
          let l : length G.path ≡ 0 = ap length top in
          absurd (omega arith)
      | inr w ↦ subst (λ (q : Path). IsUnknownAt design kinds declaration q)
          (not_in design kinds declaration w.0 none w.1) w.1
    ] in
    elim (last_step G.path) [
      | inl e ↦
          let l : length G.path ≡ 0 = ap length e in
          absurd (omega arith)
      | inr w ↦ record {
        path = G.path;
        first = record {
          here = unknown_breaks device design kinds G.path w.0 w.1 G.inst K G.at w.2
              (ap (slice_get kinds) G.of_it ∙ u);
          first = λ other before b. not_first other before b;
        };
        way_is = G.way_is;
      }
    ]
  where
    not_first : (other : Spot) → IsBefore other (InstanceAt G.path) → BreaksN9 device design other
        → ⊥
    not_first (TopBit place index) before b = b
    not_first (NetAt path net) before b = b
    not_first (InstanceAt path) before b = not_before G.path path
        (G.past path (breaks_unknown names device design kinds path F K b).0) before
    not_first (PinAt path place index) before b = b
