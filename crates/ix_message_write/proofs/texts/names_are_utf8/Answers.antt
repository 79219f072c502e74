use Rattle.std.proofs.Common.{◌≡◌, ℕ, [], get_or, arith, sym, subst}
use Rattle.std.specs.Prelude.{Some, slice_get}
use Rattle.std.specs.List.{All}
use Rattle.std.proofs.lemmas.List.Elements.{All-more}
use Rattle.std.proofs.lemmas.Option.{get_or_from_slice_get, slice_get_within}
use Rattle.std.proofs.lemmas.List.{take_all}
use Rattle.std.proofs.lemmas.Str.{is_utf8-from_IsUtf8}
use Rattle.ix_message.specs.Records.{IsText}
use Rattle.ix_message_write.proofs.texts.names_are_utf8.Goals as goal

pub loop-i-preserved : goal.loop-i-preserved
loop-i-preserved c =
    let names = c.args.names.now in
    let i = c.loop-i.i in
    let t = c.name-text.result.now in
    let is : slice_get names i ≡ Some t = subst (λ (k : ℕ). slice_get names k ≡ Some t) c.new.ensures c.name-text.ensures.text in
    let here : IsText (get_or names i []) = subst IsText (sym (get_or_from_slice_get names i t [] is)) (is_utf8-from_IsUtf8 t c.name-text.utf8) in
    All-more IsText names i [] (slice_get_within names i t is) c.loop-i.invariant here

pub returns : goal.returns
returns c = subst (All IsText) (take_all c.loop-i.i c.args.names.now (omega (arith, c.loop-i-test.false, c.len-i-end.ensures.count))) c.loop-i.invariant
