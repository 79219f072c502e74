use Rattle.std.proofs.Common.{◌∙◌, ◌++◌, ap, subst, true, string_bytes, List, ℕ}
use Rattle.std.specs.Fmt.{AppendsText}
use Rattle.std.proofs.lemmas.Fmt.{hex_one_digit}
use Rattle.ix_fill_tables.proofs.properties.write_digit.Goals as goal

pub returns : goal.returns
returns c =
    let written = subst (AppendsText (string_bytes c.args.text.now)
    (string_bytes c.write.new.self)) c.in_radix.ensures c.in_ok-write.ensures.bytes in
    written ∙ ap (λ (l : List ℕ). string_bytes c.args.text.now ++ l)
    (hex_one_digit true c.args.digit c.requires)
