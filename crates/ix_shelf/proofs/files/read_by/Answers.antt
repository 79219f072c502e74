use Rattle.std.proofs.Common.{◌∙◌, length, ℕ, List, Option, subst, arith, rules}
use Rattle.std.proofs.lemmas.List.{length-take}
use Rattle.ix_shelf.specs.Shelf.{Files, ReadsFile}
use Rattle.ix_shelf.proofs.Fronts.{IsFront-end, read_more}
use Rattle.ix_shelf.proofs.files.read_by.Goals as goal

pub returns-then-given-eq0-clause-whole : goal.returns-then-given-eq0-clause-whole
returns-then-given-eq0-clause-whole g c =
    let told : Option Files = g.S.Shelf.files c.args.shelf.now in
    let bytes : List ℕ = c.loop-given.bytes.items in
    let read = subst (λ (t : Option Files). ReadsFile t c.args.name.now c.len.result (length c.loop-given.buffer) c.read_at.new.into c.in-Ok.given) c.loop-given.invariant.files c.in-Ok.ensures.bytes in
    IsFront-end told c.args.name.now bytes c.read_at.new.into c.len.result (length c.loop-given.buffer) c.in-Ok.given (c.len.ensures ∙ c.loop-given.bytes.ok.0) c.loop-given.invariant.front read c.if-given-eq0.true c.loop-given.invariant.room

pub loop-given-preserved : goal.loop-given-preserved
loop-given-preserved g c =
    let told : Option Files = g.S.Shelf.files c.args.shelf.now in
    let bytes : List ℕ = c.loop-given.bytes.items in
    let read = subst (λ (t : Option Files). ReadsFile t c.args.name.now c.len.result (length c.loop-given.buffer) c.read_at.new.into c.in-Ok.given) c.loop-given.invariant.files c.in-Ok.ensures.bytes in
    record {
      files = search rules;
      write_faults = search rules;
      read_faults = search rules;
      room = omega (arith, c.read_at.auto.into);
      small = omega (arith, c.in-Ok-extend_from_slice.ensures.len, c.if-given-len.false, c.len-in-loop-given.ensures, length-take {A = ℕ});
      front = read_more told c.args.name.now bytes c.read_at.new.into c.extend_from_slice.new.self.items c.len.result (length c.loop-given.buffer) c.in-Ok.given (c.len.ensures ∙ c.loop-given.bytes.ok.0) c.loop-given.invariant.front read (omega (arith, c.in-Ok.ensures.room, c.read_at.auto.into)) (search (rules, c.in-Ok-extend_from_slice.ensures.items));
    }
