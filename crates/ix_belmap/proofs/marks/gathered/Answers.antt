use Rattle.std.proofs.Common.{◌≡◌, ◌+◌, ◌++◌, [], ◌∷◌, refl, ap, sym, ◌∙◌, cond, length, take}
use Rattle.std.proofs.Common.{append-nil, arith}
use Rattle.std.proofs.lemmas.List.{length_push}
use Rattle.std.proofs.lemmas.Option.{slice_get_read}
use Rattle.ix_belmap.specs.Marks.{free_of}
use Rattle.ix_belmap.proofs.Marking.{all_looked, free_more, full}
use Rattle.ix_belmap.proofs.marks.gathered.Goals as goal
use Rattle.ix_belmap.proofs.marks.gathered.Goals.{then-branch+in_ok-push-2, else-branch}

pub loop-i-init : goal.loop-i-init
loop-i-init c =
    let one : c.push.new.self.items ≡ c.args.port ∷ [] = c.in_ok-push.ensures.items
    ∙ ap (λ l. l ++ c.args.port ∷ []) c.new-group.ensures.items in
    let short : length c.push.new.self.items ≡ 1 = ap length one in
    (one ∙ ap (λ l. c.args.port ∷ l) (sym c.requires.passed), omega arith, c.requires.known)

pub returns-then-len-gt-MOST-clause-group : goal.returns-then-len-gt-MOST-clause-group
returns-then-len-gt-MOST-clause-group c =
    let short = c.loop-i.invariant.1 in
    full c.args.device.now c.args.flat.now c.args.taken.now.items c.args.port_type
    c.args.row.now.items c.loop-i.i
    c.args.port c.loop-i.group.items c.loop-i.invariant.0 (omega arith)

pub returns-then-len-gt-MOST-clause-looked : goal.returns-then-len-gt-MOST-clause-looked
returns-then-len-gt-MOST-clause-looked c = c.loop-i.invariant.0

pub returns-then-len-gt-MOST-clause-known : goal.returns-then-len-gt-MOST-clause-known
returns-then-len-gt-MOST-clause-known c = c.loop-i.invariant.2

pub is_free-requires-clause-known : goal.is_free-requires-clause-known
is_free-requires-clause-known c = c.loop-i.invariant.2

pub loop-i-preserved : goal.loop-i-preserved
loop-i-preserved c =
    let row = c.args.row.now.items in
    let group = c.loop-i.group.items in
    let at = slice_get_read row (length row) c.loop-i.i c.index-cell.result.now refl
    (omega arith) c.index-cell.ensures in
    let grown = free_more c.args.device.now c.args.flat.now c.args.taken.now.items c.args.port_type
    row c.loop-i.i
    c.index-cell.result.now c.args.port group c.in_ok-is_free.field-0 at c.loop-i.invariant.0
    c.in_ok-is_free.ensures.free in
    elim c.if-branch.branch [
      | then-branch+in_ok-push-2 w ↦
          let pushed : c.if-branch.group.items ≡ group ++ c.index-cell.result.now ∷ []
          = ap (λ v. v.items) w.group-is ∙ w.in_ok-push-2.ensures.items in
          let long : length c.if-branch.group.items ≡ length group + 1
          = ap length pushed ∙ length_push group c.index-cell.result.now in
          let few = c.if-len-gt-MOST.false in (
            pushed ∙ ap (λ b. group ++ cond b (c.index-cell.result.now ∷ []) [])
                (sym w.if-branch.true) ∙ grown,
            omega arith,
            c.in_ok-is_free.ensures.known,
          )
      | else-branch w ↦
          let kept : c.if-branch.group.items ≡ group = ap (λ v. v.items) w.group-is in
          let long : length c.if-branch.group.items ≡ length group = ap length kept in
          let few = c.loop-i.invariant.1 in (
            kept ∙ sym (append-nil group)
                ∙ ap (λ b. group ++ cond b (c.index-cell.result.now ∷ []) [])
                (sym w.if-branch.false) ∙ grown,
            omega arith,
            c.in_ok-is_free.ensures.known,
          )
    ]

pub returns-clause-group : goal.returns-clause-group
returns-clause-group c =
    all_looked c.args.device.now c.args.flat.now c.args.taken.now.items c.args.port_type
    c.args.row.now.items c.loop-i.i
    c.args.port c.loop-i.group.items c.loop-i.invariant.0 c.loop-i.invariant.1 (omega arith)

pub returns-clause-looked : goal.returns-clause-looked
returns-clause-looked c =
    let le = c.loop-i.auto.i-end (let r = c.requires.from in omega arith) in
    let end : c.loop-i.i ≡ c.len-2.result = omega arith in
    c.loop-i.invariant.0
    ∙ ap (λ n. c.args.port ∷ free_of c.args.device.now c.args.flat.now c.args.taken.now.items
    c.args.port_type
    (take n c.args.row.now.items)) end

pub returns-clause-known : goal.returns-clause-known
returns-clause-known c = c.loop-i.invariant.2
