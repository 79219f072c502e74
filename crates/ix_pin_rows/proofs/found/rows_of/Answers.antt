use Rattle.std.proofs.Common.{◌≡◌, get_or, ap, sym, subst, ◌∙◌, slice_get, Some}
use Rattle.std.proofs.lemmas.Option.{slice_get-get_or, same_Some}
use Rattle.ix_hierarchy.specs.Hierarchy.{inside}
use Rattle.ix_hierarchy.specs.declared.instance.Instance.{Instance}
use Rattle.ix_hierarchy.specs.declared.kind.Kind.{Kind}
use Rattle.ix_hierarchy.specs.declared.kind.Kind.TheVariants.{Inside}
use Rattle.ix_pin_rows.specs.PinRows.{ArePinRows}
use Rattle.ix_pin_rows.proofs.Parents.{kind_there, parent_there, zero_instance, start_there}
use Rattle.ix_pin_rows.proofs.Parents.{must_be_inside, rows_found}
use Rattle.ix_pin_rows.proofs.found.rows_of.Goals as goal

pub bounds : goal.bounds
bounds c =
    let all = c.args.instances.now in
    let r = c.requires.listed in
    let parent = (get_or all c.args.instance zero_instance).parent in
    kind_there r.0 r.1 c.args.kinds.now c.args.outer.now all r.2 r.3 parent
    (get_or all parent zero_instance) r.4 (slice_get-get_or all parent zero_instance
    (parent_there r.0 r.1 c.args.kinds.now c.args.outer.now all r.2 r.3 c.args.instance r.4
    c.requires.below c.requires.there))

pub bounds-kinds-parent : goal.bounds-kinds-parent
bounds-kinds-parent c =
    let all = c.args.instances.now in
    let r = c.requires.listed in
    let parent = (get_or all c.args.instance zero_instance).parent in
    kind_there r.0 r.1 c.args.kinds.now c.args.outer.now all r.2 r.3 parent
    (get_or all parent zero_instance) r.4 (slice_get-get_or all parent zero_instance
    (parent_there r.0 r.1 c.args.kinds.now c.args.outer.now all r.2 r.3 c.args.instance r.4
    c.requires.below c.requires.there))

pub start_of-start-requires : goal.start_of-start-requires
start_of-start-requires c =
    let all = c.args.instances.now in
    let r = c.requires.listed in
    let i = (get_or all c.args.instance zero_instance).parent in
    let declaration = (get_or all i zero_instance).declaration in
    start_there r.0 r.1 c.args.kinds.now c.args.outer.now all r.2 r.3 declaration c.in-Inside.cell
    r.4
    (slice_get-get_or c.args.kinds.now declaration (Inside 0) (kind_there r.0 r.1 c.args.kinds.now
    c.args.outer.now all r.2 r.3 i (get_or all i zero_instance) r.4
    (slice_get-get_or all i zero_instance (parent_there r.0 r.1 c.args.kinds.now c.args.outer.now
    all r.2 r.3 c.args.instance r.4 c.requires.below c.requires.there)))
    ∙ ap Some c.in-Inside.is)

pub end_of-requires-clause-cell : goal.end_of-requires-clause-cell
end_of-requires-clause-cell c =
    let all = c.args.instances.now in
    let r = c.requires.listed in
    let i = (get_or all c.args.instance zero_instance).parent in
    let declaration = (get_or all i zero_instance).declaration in
    start_there r.0 r.1 c.args.kinds.now c.args.outer.now all r.2 r.3 declaration c.in-Inside.cell
    r.4
    (slice_get-get_or c.args.kinds.now declaration (Inside 0) (kind_there r.0 r.1 c.args.kinds.now
    c.args.outer.now all r.2 r.3 i (get_or all i zero_instance) r.4
    (slice_get-get_or all i zero_instance (parent_there r.0 r.1 c.args.kinds.now c.args.outer.now
    all r.2 r.3 c.args.instance r.4 c.requires.below c.requires.there)))
    ∙ ap Some c.in-Inside.is)

pub returns-in-Inside : goal.returns-in-Inside
returns-in-Inside c = λ design device paths nets one parent cell are is up within.
    let all = c.args.instances.now in
    let kinds = c.args.kinds.now in
    let outer = c.args.outer.now in
    let here : Instance = get_or all c.args.instance zero_instance in
    let here_is : slice_get all c.args.instance ≡ Some here =
    slice_get-get_or all c.args.instance zero_instance c.requires.there in
    let same : here ≡ one = same_Some here one (sym here_is ∙ is) in
    let above : Instance = get_or all here.parent zero_instance in
    let above_is : slice_get all here.parent ≡ Some above =
    slice_get-get_or all here.parent zero_instance (parent_there design device kinds outer all paths
    nets c.args.instance are c.requires.below c.requires.there) in
    let same_above : above ≡ parent = same_Some above parent (sym above_is
    ∙ ap (λ (o : Instance). slice_get all o.parent) same ∙ up) in
    let inner : inside design above.declaration ≡ Some cell =
    ap (λ (o : Instance). inside design o.declaration) same_above ∙ within in
    let kind : slice_get kinds above.declaration ≡ Some (Inside c.in-Inside.cell) =
    slice_get-get_or kinds above.declaration (Inside 0) (kind_there design device kinds outer all
    paths nets here.parent above are above_is) ∙ ap Some c.in-Inside.is in (
      subst (λ (o : Instance). ArePinRows outer cell o.number c.start_of-start.result c.end_of.result)
          same
          (rows_found design device kinds outer all paths nets c.args.instance here above cell
          c.in-Inside.cell c.start_of-start.result c.end_of.result are here_is above_is inner kind
          c.start_of-start.ensures.start c.end_of.ensures),
      ap (λ (o : Instance). o.first_net) same_above,
    )

pub returns-in_default : goal.returns-in_default
returns-in_default c = λ design device paths nets one parent cell are is up within.
    let all = c.args.instances.now in
    let kinds = c.args.kinds.now in
    let outer = c.args.outer.now in
    let here : Instance = get_or all c.args.instance zero_instance in
    let here_is : slice_get all c.args.instance ≡ Some here =
    slice_get-get_or all c.args.instance zero_instance c.requires.there in
    let same : here ≡ one = same_Some here one (sym here_is ∙ is) in
    let above : Instance = get_or all here.parent zero_instance in
    let above_is : slice_get all here.parent ≡ Some above =
    slice_get-get_or all here.parent zero_instance (parent_there design device kinds outer all paths
    nets c.args.instance are c.requires.below c.requires.there) in
    let same_above : above ≡ parent = same_Some above parent (sym above_is
    ∙ ap (λ (o : Instance). slice_get all o.parent) same ∙ up) in
    let inner : inside design above.declaration ≡ Some cell =
    ap (λ (o : Instance). inside design o.declaration) same_above ∙ within in
    let kind : Kind = get_or kinds above.declaration (Inside 0) in
    let kind_is : slice_get kinds above.declaration ≡ Some kind =
    slice_get-get_or kinds above.declaration (Inside 0) (kind_there design device kinds outer all
    paths nets here.parent above are above_is) in
    let found = must_be_inside device design above.declaration kind cell
    (are.are_kinds.each above.declaration kind kind_is) inner in
    absurd (c.in_default.not-Inside found.0 found.1)
