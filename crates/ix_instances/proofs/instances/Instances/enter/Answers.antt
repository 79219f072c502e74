use Rattle.std.proofs.Common.{◌≡◌, ◌<◌, ◌+◌, ◌^◌, ◌∙◌, ℕ, List, [], ◌∷◌, ◌++◌, length}
use Rattle.std.proofs.Common.{sym, ap, subst, arith, rules}
use Rattle.std.proofs.lemmas.List.{length_push}
use Rattle.std.proofs.lemmas.Option.{same_Some}
use Rattle.ix_rec.specs.declared.netlist.Cell.{Cell}
use Rattle.ix_hierarchy.specs.declared.instance.Instance.{Instance}
use Rattle.ix_hierarchy.specs.Lists.{nets_in}
use Rattle.ix_instances.specs.Walked.{IsWalk, HasPlace, work}
use Rattle.ix_instances.proofs.Gets.{gets_at}
use Rattle.ix_instances.proofs.Declared.{first_within, number_there, declared_there}
use Rattle.ix_instances.proofs.Walking.{listed_one, listed_in, walk_in, work_in, walk_within}
use Rattle.ix_instances.proofs.instances.Instances.enter.Goals as goal

pub at-requires : goal.at-requires
at-requires c =
    let within = walk_within c.args.rec.now c.args.self.now.all.items c.args.self.now.nets
    c.args.step.instance c.args.step.place c.requires.walk in
    let one = gets_at c.args.self.now.all.items c.args.step.instance within in
    first_within c.args.rec.now one.0.declaration c.args.cell (c.requires.has one.0 one.1).first

pub at-number-requires : goal.at-number-requires
at-number-requires c =
    let within = walk_within c.args.rec.now c.args.self.now.all.items c.args.self.now.nets
    c.args.step.instance c.args.step.place c.requires.walk in
    let one = gets_at c.args.self.now.all.items c.args.step.instance within in
    let H : HasPlace c.args.rec.now one.0.declaration c.args.step.place c.args.cell =
    c.requires.has one.0 one.1 in
    let same : H.cell ≡ c.at.result.now =
    same_Some H.cell c.at.result.now (sym H.cell_is ∙ c.at.ensures) in
    let has = H.has in
    let many : length H.cell.insts ≡ length c.at.result.now.insts =
    ap (λ (cell : Cell). length cell.insts) same in
    omega arith

pub at-requires-2 : goal.at-requires-2
at-requires-2 c =
    number_there c.args.rec.now c.args.cell c.args.step.place c.at-number.result.now
    c.at.result.now c.requires.fits c.at.ensures c.at-number.ensures

pub nets_in-nets-requires-clause-inside : goal.nets_in-nets-requires-clause-inside
nets_in-nets-requires-clause-inside c =
    let h : c.at-2.result.now.cell < length c.args.rec.now.cell_decls =
    declared_there c.args.rec.now c.at-number.result.now c.at-2.result.now c.requires.fits
    c.at-2.ensures in
    let m : length c.args.kinds.now ≡ length c.args.rec.now.cell_decls = c.requires.kinds.1.many in
    omega arith

pub nets_in-nets-requires-clause-few : goal.nets_in-nets-requires-clause-few
nets_in-nets-requires-clause-few c =
    let few = (listed_in c.args.rec.now c.args.self.now.all.items c.args.self.now.nets
    c.args.step.instance c.args.step.place c.args.cell c.at-number.result.now c.at.result.now
    c.at-2.result.now c.requires.few c.requires.walk c.requires.has c.at.ensures
    c.at-number.ensures c.at-2.ensures).few in
    omega arith

pub overflow_add-self : goal.overflow_add-self
overflow_add-self c =
    let few = (listed_in c.args.rec.now c.args.self.now.all.items c.args.self.now.nets
    c.args.step.instance c.args.step.place c.args.cell c.at-number.result.now c.at.result.now
    c.at-2.result.now c.requires.few c.requires.walk c.requires.has c.at.ensures
    c.at-number.ensures c.at-2.ensures).few in
    let is = c.nets_in-nets.ensures in
    let sum : c.args.self.now.nets + c.nets_in-nets.result < 2 ^ 32 = omega arith in
    search rules

pub returns-clause-walk : goal.returns-clause-walk
returns-clause-walk c =
    let all : List Instance = c.args.self.now.all.items in
    let new : Instance = listed_one c.at-number.result.now c.at-2.result.now.cell
    c.args.step.instance c.args.step.place c.args.self.now.nets in
    let W : IsWalk c.args.rec.now (all ++ new ∷ [])
    (c.args.self.now.nets + nets_in c.args.rec.now c.at-2.result.now.cell) (length all) 0 =
    walk_in c.args.rec.now all c.args.self.now.nets
    c.args.step.instance c.args.step.place c.args.cell c.at-number.result.now c.at.result.now
    c.at-2.result.now c.requires.few c.requires.walk c.requires.has c.at.ensures
    c.at-number.ensures c.at-2.ensures in
    let last : c.len-instance.result ≡ length all =
    omega (arith, c.len-instance.ensures, c.args.self.now.all.ok.0) in
    subst (λ (n : ℕ). IsWalk c.args.rec.now c.push.new.self.items
    (c.args.self.now.nets + c.nets_in-nets.result) n 0) (sym last)
    (subst (λ (n : ℕ). IsWalk c.args.rec.now c.push.new.self.items
    (c.args.self.now.nets + n) (length all) 0) (sym c.nets_in-nets.ensures)
    (subst (λ (l : List Instance). IsWalk c.args.rec.now l
    (c.args.self.now.nets + nets_in c.args.rec.now c.at-2.result.now.cell) (length all) 0)
    (sym c.in_ok-push.ensures.items) W))

pub returns-clause-less : goal.returns-clause-less
returns-clause-less c =
    let all : List Instance = c.args.self.now.all.items in
    let new : Instance = listed_one c.at-number.result.now c.at-2.result.now.cell
    c.args.step.instance c.args.step.place c.args.self.now.nets in
    let few = (listed_in c.args.rec.now all c.args.self.now.nets
    c.args.step.instance c.args.step.place c.args.cell c.at-number.result.now c.at.result.now
    c.at-2.result.now c.requires.few c.requires.walk c.requires.has c.at.ensures
    c.at-number.ensures c.at-2.ensures).few in
    let m : length (all ++ new ∷ []) ≡ length all + 1 = length_push all new in
    let less : work (all ++ new ∷ []) (length all) < work all c.args.step.instance =
    work_in c.args.rec.now all c.args.self.now.nets c.args.step.instance c.args.step.place
    c.at-number.result.now c.at-2.result.now.cell c.requires.walk (omega arith) in
    let last : c.len-instance.result ≡ length all =
    omega (arith, c.len-instance.ensures, c.args.self.now.all.ok.0) in
    subst (λ (n : ℕ). work c.push.new.self.items n < work all c.args.step.instance) (sym last)
    (subst (λ (l : List Instance). work l (length all) < work all c.args.step.instance)
    (sym c.in_ok-push.ensures.items) less)
