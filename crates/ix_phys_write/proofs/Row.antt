-- A struct without a data section.
use Rattle.std.proofs.Common.{◌≡◌, ◌+◌, ◌++◌, ◌∙◌, [], ℕ, List, take, drop, ap, sym, arith}
use Rattle.std.proofs.lemmas.List.{take-append-drop}
use Rattle.ix_capw.specs.Growth.{written}

pub no_row : (p : ℕ) (S : List ℕ) → S ≡ written p 0 [] S
no_row p S = sym (ap (λ (k : ℕ). take p S ++ drop k S) (let e : p + 0 ≡ p = omega arith in e) ∙ take-append-drop p S)
