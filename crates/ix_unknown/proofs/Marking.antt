-- One declaration more is marked.
use Rattle.std.proofs.Common.{◌≡◌, ◌≢◌, ◌⊎◌, ◌<◌, ◌+◌, ◌∙◌, ℕ, List, [], ◌∷◌, length, set, get_or}
use Rattle.std.proofs.Common.{◌↔◌}
use Rattle.std.proofs.Common.{Some, slice_get, Bool, true, IsTrue}
use Rattle.std.proofs.Common.{sym, ap, subst, arith, inl, inr, length-set}
use Rattle.std.proofs.Common.{get_or-set_same, get_or-set_other}
use Rattle.std.proofs.lemmas.Bool.{cases_lt, cases_eq}
use Rattle.std.proofs.lemmas.Option.{same_Some, slice_get_within, slice_get-get_or}
use Rattle.std.proofs.lemmas.Option.{get_or_from_slice_get}
use Rattle.ix_rec.specs.declared.netlist.NetlistRec.{NetlistRec}
use Rattle.ix_hierarchy.specs.declared.kind.Kind.{Kind}
use Rattle.ix_hierarchy.specs.Hierarchy.{Path}
use Rattle.ix_hierarchy.specs.Lists.{AreClosed}
use Rattle.ix_unknown.specs.Marked.{IsUnknownAt, HasUnknown, HasMarked, AreMarked}
use Rattle.ix_unknown.proofs.Parts.{among}
use Rattle.ix_unknown.proofs.Found.{placed_in}

-- what a declaration has is marked, where all before it in the list are marked
marked_one : (design : NetlistRec) (kinds : List Kind) (closed : List ℕ) (marks : List Bool)
    (i declaration : ℕ) → AreClosed design closed → AreMarked design kinds closed marks i
    → slice_get closed i ≡ Some declaration → HasMarked design kinds marks declaration
    → HasUnknown design kinds declaration
marked_one design kinds closed marks i declaration C A is (inl u) = ([], u)
marked_one design kinds closed marks i declaration C A is (inr (cell, place, e, M)) =
    let at = among i closed M.inst.cell (C.behind i declaration M.inst.cell is
    (placed_in design declaration place cell M.inst e M.placed)) in
    let has = (A.each at.0 M.inst.cell at.1 at.2).0 M.marked in
    (place ∷ has.0, (cell, M.inst, e, M.placed, has.1))

one_marked : (design : NetlistRec) (kinds : List Kind) (closed : List ℕ) (marks : List Bool)
    (i declaration : ℕ) (path : Path) → AreClosed design closed
    → AreMarked design kinds closed marks i → slice_get closed i ≡ Some declaration
    → IsUnknownAt design kinds declaration path → HasMarked design kinds marks declaration
one_marked design kinds closed marks i declaration [] C A is u = inl u
one_marked design kinds closed marks i declaration (place ∷ path) C A is (cell, inst, e, P, u) =
    let at = among i closed inst.cell (C.behind i declaration inst.cell is
    (placed_in design declaration place cell inst e P)) in
    inr (
      cell,
      place,
      e,
      record {
        inst = inst;
        placed = P;
        marked = (A.each at.0 inst.cell at.1 at.2).1 (path, u);
      },
    )

pub marked_none : (design : NetlistRec) (kinds : List Kind) (closed : List ℕ)
    (marks : List Bool) → length marks ≡ length kinds → AreMarked design kinds closed marks 0
marked_none design kinds closed marks many = record {
  many = many;
  each = λ j other few is. absurd (omega arith);
}

set_cases : (marks : List Bool) (i k : ℕ) (mark : Bool) → i < length marks
    → ((k ≡ i) × (slice_get (set marks i mark) k ≡ Some mark))
    ⊎ ((k ≢ i) × ((b : Bool) → (slice_get (set marks i mark) k ≡ Some b)
    ↔ (slice_get marks k ≡ Some b)))
set_cases marks i k mark few =
    let same : length (set marks i mark) ≡ length marks = length-set marks i mark in
    elim (cases_eq k i) [
      | inl e ↦ inl (
        e,
        slice_get-get_or (set marks i mark) k true (omega arith)
            ∙ ap Some (ap (λ n. get_or (set marks i mark) n true) e
            ∙ get_or-set_same marks i mark true few),
      )
      | inr n ↦ inr (
        n,
        λ b. (
          λ h.
              let w : k < length (set marks i mark) = slice_get_within (set marks i mark) k b h in
              slice_get-get_or marks k true (omega arith)
              ∙ ap Some (sym (get_or-set_other marks i k mark true n)
              ∙ get_or_from_slice_get (set marks i mark) k b true h),
          λ h.
              let w : k < length marks = slice_get_within marks k b h in
              slice_get-get_or (set marks i mark) k true (omega arith)
              ∙ ap Some (get_or-set_other marks i k mark true n
              ∙ get_or_from_slice_get marks k b true h),
        ),
      )
    ]

pub marked_more : (design : NetlistRec) (kinds : List Kind) (closed : List ℕ)
    (marks : List Bool) (i declaration : ℕ) (mark : Bool) → AreClosed design closed
    → AreMarked design kinds closed marks i → slice_get closed i ≡ Some declaration
    → declaration < length marks → IsTrue mark ↔ HasMarked design kinds marks declaration
    → AreMarked design kinds closed (set marks declaration mark) (i + 1)
marked_more design kinds closed marks i declaration mark C A is few told = record {
  many = length-set marks declaration mark ∙ A.many;
  each = λ j other less at. elim (set_cases marks declaration other mark few) [
    | inl w ↦ (
      λ h.
          let t : mark ≡ true = same_Some mark true (sym w.1 ∙ h) in
          subst (λ (d : ℕ). HasUnknown design kinds d) (sym w.0)
          (marked_one design kinds closed marks i declaration C A is (told.0 t)),
      λ u.
          let v : HasUnknown design kinds declaration =
          subst (λ (d : ℕ). HasUnknown design kinds d) w.0 u in
          w.1 ∙ ap Some (told.1 (one_marked design kinds closed marks i declaration v.0 C A is
          v.1)),
    )
    | inr w ↦ elim (cases_lt j i) [
      | inl before ↦
          let e = A.each j other before at in
          (λ h. e.0 ((w.1 true).0 h), λ u. (w.1 true).1 (e.1 u))
      | inr last ↦
          let e : j ≡ i = omega arith in
          let s : other ≡ declaration =
          same_Some other declaration (sym at ∙ ap (slice_get closed) e ∙ is) in
          absurd (w.0 s)
    ]
  ];
}
