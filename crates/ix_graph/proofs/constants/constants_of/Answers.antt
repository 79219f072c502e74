use Rattle.std.proofs.Common.{◌≡◌, ap, sym, subst, ◌∙◌, map, length, take, drop, ◌++◌, IfOk}
use Rattle.std.proofs.Math.Seq.{take-append_seam}
use Rattle.ix_graph.specs.Constants.{only_constant}
use Rattle.ix_graph.specs.Marks.{is_marked}
use Rattle.ix_graph.proofs.MarkLemmas.{all_constants}
use Rattle.ix_graph.proofs.constants.constants_of.Goals as goal

pub returns : goal.returns
returns c =
    let before : c.deref_mut.result.now ≡ c.in_ok-marks.marks.items = c.deref_mut.ensures.value in
    let size : c.in_ok-marks.marks.len ≡ length c.mark_all.new.marks = c.in_ok-marks.marks.ok.0 ∙ sym (c.mark_all.ensures.count ∙ ap length before) in
    let all : c.deref.result.now ≡ c.mark_all.new.marks =
    c.deref.ensures.value ∙ ap (λ n. take n (c.mark_all.new.marks ++ drop (length c.mark_all.new.marks) c.in_ok-marks.marks.items)) size ∙ take-append_seam c.mark_all.new.marks (drop (length c.mark_all.new.marks) c.in_ok-marks.marks.items) in
    let same =
    ap (map (λ m. only_constant m.gnd m.vcc)) all
    ∙ all_constants c.args.device.now c.args.count c.deref_mut.result.now c.mark_all.new.marks (ap length before ∙ c.in_ok-marks.ensures.count) (λ k n. ap (λ ms. is_marked k ms n) before ∙ c.in_ok-marks.ensures.none k n) c.mark_all.ensures in
    subst (λ l. IfOk c.only_constants.result (λ constants. constants ≡ l)) same c.only_constants.ensures
