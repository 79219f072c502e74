use Rattle.std.proofs.Common.{◌≡◌, ◌<◌, ◌%◌, ◌^◌, ◌∙◌, [], ◌∷◌, List, ℕ, Ok, ap, length, drop, arith, length-drop}
use Rattle.ix_frame.specs.Segments.{segments}
use Rattle.ix_capw.proofs.Opens.{frame_opens}
use Rattle.ix_capw.proofs.builder.Builder.finish.Goals as goal

pub returns-clause-reads : goal.returns-clause-reads
returns-clause-reads c =
    let items = c.self.inside.bytes.items in
    let few = c.self.invariant.few in
    let words = c.self.invariant.words in
    let short : length (drop 8 items) < 2 ^ 30 = omega (arith, length-drop 8 items) in
    let whole : length (drop 8 items) % 8 ≡ 0 = omega (arith, length-drop 8 items) in
    ap segments c.in_ok-fill_header.ensures ∙ frame_opens (drop 8 items) whole short ∙ ap (λ (s : List ℕ). Ok (s ∷ [])) c.self.view_is
