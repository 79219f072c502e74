use Rattle.std.proofs.Common.{◌≡◌, ◌<◌, ◌∙◌, ℕ, List, Bool, length, sym, subst, refl, arith, true}
use Rattle.std.proofs.Common.{false, ◌==◌, vec_len}
use Rattle.std.proofs.lemmas.Bool.Decides.{nat_tests}
use Rattle.std.proofs.lemmas.Option.{same_Some, slice_get_within}
use Rattle.ix_unknown.specs.Marked.{IsMarked, NoneMarked}
use Rattle.ix_unknown.proofs.Found.{first_within, kind_leaf}
use Rattle.ix_unknown.proofs.Parts.{gets_at}
use Rattle.ix_unknown.proofs.Having.{read_kind, closed_few, told_none, told_some}
use Rattle.ix_unknown.proofs.Going.{IsGoing, going_top, going_on, going_none, going_empty}
use Rattle.ix_unknown.proofs.Going.{going_found}
use Rattle.ix_unknown.proofs.way.way_to_unknown.Goals as goal

is_none : (n : ℕ) → (n == 0) ≡ true → n ≡ 0
is_none n h = grind (arith, nat_tests)

is_some : (n : ℕ) → (n == 0) ≡ false → 0 < n
is_some n h = grind (arith, nat_tests)

pub loop-declaration-init : goal.loop-declaration-init
loop-declaration-init c =
    subst (λ (l : List ℕ). IsGoing c.args.rec.now c.args.kinds.now c.args.closed.now l
    c.args.rec.now.top_inst.cell) (sym c.new-way.ensures.items)
    (going_top c.args.rec.now c.args.kinds.now c.args.closed.now c.requires.closed)

pub bounds : goal.bounds
bounds c =
    closed_few c.requires.fits.0 c.requires.kinds.0 c.args.rec.now c.args.kinds.now
    c.args.closed.now c.loop-declaration.declaration c.requires.fits.1 c.requires.kinds.1
    c.requires.closed c.loop-declaration.invariant.in_closed

pub bounds-kinds-declaration : goal.bounds-kinds-declaration
bounds-kinds-declaration c =
    closed_few c.requires.fits.0 c.requires.kinds.0 c.args.rec.now c.args.kinds.now
    c.args.closed.now c.loop-declaration.declaration c.requires.fits.1 c.requires.kinds.1
    c.requires.closed c.loop-declaration.invariant.in_closed

pub first_marked-requires-clause-there : goal.first_marked-requires-clause-there
first_marked-requires-clause-there c =
    let few = closed_few c.requires.fits.0 c.requires.kinds.0 c.args.rec.now c.args.kinds.now
    c.args.closed.now c.loop-declaration.declaration c.requires.fits.1 c.requires.kinds.1
    c.requires.closed c.loop-declaration.invariant.in_closed in
    first_within c.args.rec.now c.loop-declaration.declaration c.in-Inside.cell
    (c.requires.kinds.1.each c.loop-declaration.declaration _
    (read_kind c.args.kinds.now c.loop-declaration.declaration _ _ few c.in-Inside.is))

pub returns-in_default-first_marked : goal.returns-in_default-first_marked
returns-in_default-first_marked c = λ device K.
    let few = closed_few c.requires.fits.0 c.requires.kinds.0 c.args.rec.now c.args.kinds.now
    c.args.closed.now c.loop-declaration.declaration c.requires.fits.1 c.requires.kinds.1
    c.requires.closed c.loop-declaration.invariant.in_closed in
    let kind = read_kind c.args.kinds.now c.loop-declaration.declaration _ _ few c.in-Inside.is in
    let cell = gets_at c.args.rec.now.cell_list c.in-Inside.cell
    (first_within c.args.rec.now c.loop-declaration.declaration c.in-Inside.cell
    (K.each c.loop-declaration.declaration _ kind)) in
    going_none c.requires.fits.0 device c.args.rec.now c.args.kinds.now c.args.closed.now
    c.in_ok-marks.marks.items c.loop-declaration.way.items c.loop-declaration.declaration
    c.in-Inside.cell cell.0 c.requires.fits.1 c.requires.closed K c.in_ok-marks.ensures
    c.loop-declaration.invariant kind cell.1
    (subst (λ (l : List Bool). NoneMarked c.args.rec.now l cell.0 (length cell.0.insts))
    c.deref.ensures.value
    (told_none c.first_marked.result _ _ c.in_default-first_marked.not-Some
    (c.first_marked.ensures cell.0 cell.1)))

pub at-requires : goal.at-requires
at-requires c =
    let few = closed_few c.requires.fits.0 c.requires.kinds.0 c.args.rec.now c.args.kinds.now
    c.args.closed.now c.loop-declaration.declaration c.requires.fits.1 c.requires.kinds.1
    c.requires.closed c.loop-declaration.invariant.in_closed in
    first_within c.args.rec.now c.loop-declaration.declaration c.in-Inside.cell
    (c.requires.kinds.1.each c.loop-declaration.declaration _
    (read_kind c.args.kinds.now c.loop-declaration.declaration _ _ few c.in-Inside.is))

pub at-instance-requires : goal.at-instance-requires
at-instance-requires c =
    let told = told_some c.first_marked.result _ _ c.in-Some.place c.in-Some.is
    (c.first_marked.ensures c.at.result.now c.at.ensures) in
    slice_get_within c.at.result.now.insts c.in-Some.place told.0.placed.number
    told.0.placed.which

pub at-requires-in-Inside : goal.at-requires-in-Inside
at-requires-in-Inside c =
    let told = told_some c.first_marked.result _ _ c.in-Some.place c.in-Some.is
    (c.first_marked.ensures c.at.result.now c.at.ensures) in
    let same : told.0.placed.number ≡ c.at-instance.result.now =
    same_Some told.0.placed.number c.at-instance.result.now
    (sym told.0.placed.which ∙ c.at-instance.ensures) in
    let there : told.0.placed.number < length c.args.rec.now.inst_list =
    slice_get_within c.args.rec.now.inst_list told.0.placed.number told.0.inst
    told.0.placed.in_list in
    omega arith

pub loop-declaration-smaller : goal.loop-declaration-smaller
loop-declaration-smaller c =
    let few = closed_few c.requires.fits.0 c.requires.kinds.0 c.args.rec.now c.args.kinds.now
    c.args.closed.now c.loop-declaration.declaration c.requires.fits.1 c.requires.kinds.1
    c.requires.closed c.loop-declaration.invariant.in_closed in
    let told = told_some c.first_marked.result _ _ c.in-Some.place c.in-Some.is
    (c.first_marked.ensures c.at.result.now c.at.ensures) in
    (going_on c.requires.kinds.0 c.args.rec.now c.args.kinds.now c.args.closed.now
    c.in_ok-marks.marks.items c.loop-declaration.way.items c.loop-declaration.declaration
    c.in-Inside.cell c.in-Some.place c.at-instance.result.now c.at.result.now
    c.at-in-Inside.result.now c.requires.closed c.requires.kinds.1 c.in_ok-marks.ensures
    c.loop-declaration.invariant
    (read_kind c.args.kinds.now c.loop-declaration.declaration _ _ few c.in-Inside.is) c.at.ensures
    (subst (λ (l : List Bool). IsMarked c.args.rec.now l c.at.result.now c.in-Some.place)
    c.deref.ensures.value told.0)
    (subst (λ (l : List Bool). NoneMarked c.args.rec.now l c.at.result.now c.in-Some.place)
    c.deref.ensures.value told.1)
    c.at-instance.ensures c.at-in-Inside.ensures).1

pub loop-declaration-preserved : goal.loop-declaration-preserved
loop-declaration-preserved c =
    let few = closed_few c.requires.fits.0 c.requires.kinds.0 c.args.rec.now c.args.kinds.now
    c.args.closed.now c.loop-declaration.declaration c.requires.fits.1 c.requires.kinds.1
    c.requires.closed c.loop-declaration.invariant.in_closed in
    let told = told_some c.first_marked.result _ _ c.in-Some.place c.in-Some.is
    (c.first_marked.ensures c.at.result.now c.at.ensures) in
    subst (λ (l : List ℕ). IsGoing c.args.rec.now c.args.kinds.now c.args.closed.now l
    c.at-in-Inside.result.now.cell) (sym c.in_ok-push.ensures.items)
    (going_on c.requires.kinds.0 c.args.rec.now c.args.kinds.now c.args.closed.now
    c.in_ok-marks.marks.items c.loop-declaration.way.items c.loop-declaration.declaration
    c.in-Inside.cell c.in-Some.place c.at-instance.result.now c.at.result.now
    c.at-in-Inside.result.now c.requires.closed c.requires.kinds.1 c.in_ok-marks.ensures
    c.loop-declaration.invariant
    (read_kind c.args.kinds.now c.loop-declaration.declaration _ _ few c.in-Inside.is) c.at.ensures
    (subst (λ (l : List Bool). IsMarked c.args.rec.now l c.at.result.now c.in-Some.place)
    c.deref.ensures.value told.0)
    (subst (λ (l : List Bool). NoneMarked c.args.rec.now l c.at.result.now c.in-Some.place)
    c.deref.ensures.value told.1)
    c.at-instance.ensures c.at-in-Inside.ensures).0

pub returns-then-is_empty : goal.returns-then-is_empty
returns-then-is_empty c = λ device K.
    let few = closed_few c.requires.fits.0 c.requires.kinds.0 c.args.rec.now c.args.kinds.now
    c.args.closed.now c.loop-declaration.declaration c.requires.fits.1 c.requires.kinds.1
    c.requires.closed c.loop-declaration.invariant.in_closed in
    let empty : vec_len c.loop-declaration.way ≡ 0 =
    is_none (vec_len c.loop-declaration.way) (sym c.is_empty.ensures ∙ c.if-is_empty.true) in
    going_empty c.requires.fits.0 device c.args.rec.now c.args.kinds.now c.args.closed.now
    c.loop-declaration.way.items c.loop-declaration.declaration c.requires.fits.1 K
    c.loop-declaration.invariant
    (kind_leaf device c.args.rec.now c.args.kinds.now c.loop-declaration.declaration _ K
    (read_kind c.args.kinds.now c.loop-declaration.declaration _ _ few refl)
    c.in_default.not-Inside)
    (sym c.loop-declaration.way.ok.0 ∙ empty)

pub returns : goal.returns
returns c = λ device K.
    let few = closed_few c.requires.fits.0 c.requires.kinds.0 c.args.rec.now c.args.kinds.now
    c.args.closed.now c.loop-declaration.declaration c.requires.fits.1 c.requires.kinds.1
    c.requires.closed c.loop-declaration.invariant.in_closed in
    let some : 0 < vec_len c.loop-declaration.way =
    is_some (vec_len c.loop-declaration.way) (sym c.is_empty.ensures ∙ c.if-is_empty.false) in
    let many = c.loop-declaration.way.ok.0 in
    going_found c.requires.fits.0 device c.args.rec.now c.args.kinds.now c.args.closed.now
    c.loop-declaration.way.items c.loop-declaration.declaration c.requires.fits.1 K
    c.loop-declaration.invariant
    (kind_leaf device c.args.rec.now c.args.kinds.now c.loop-declaration.declaration _ K
    (read_kind c.args.kinds.now c.loop-declaration.declaration _ _ few refl)
    c.in_default.not-Inside)
    (omega (arith, some, many))
