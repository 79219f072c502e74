-- Numbers in a row, and those of them that pass a test.
use Rattle.std.proofs.Common.{◌≡◌, ◌<◌, ◌≤◌, ℕ, zero, suc, ◌+◌, Bool, cond, [], ◌∷◌, ◌++◌, All}
use Rattle.std.proofs.Common.{ap, ◌∙◌, sym, arith}
use Rattle.std.specs.List.{filter, range_with_len}
use Rattle.std.proofs.lemmas.List.{map-id}
use Rattle.std.proofs.lemmas.List.Elements.{All-cons, All-nil}
use Rattle.std.proofs.lemmas.List.FromFn.{filter_of_map_range_with_len_more}

-- the numbers below one more that pass a test
pub one_tried : (p : ℕ → Bool) (n : ℕ) → filter p (range_with_len 0 (n + 1))
    ≡ filter p (range_with_len 0 n) ++ filter p (n ∷ [])
one_tried p n =
    ap (filter p) (sym (map-id (range_with_len 0 (n + 1))))
    ∙ (filter_of_map_range_with_len_more p (λ k. k) 0 n n (omega arith)
    ∙ ap (λ xs. filter p xs ++ cond (p n) (n ∷ []) []) (map-id (range_with_len 0 n)))

-- numbers in a row are below the end of the row
pub below_end : (a n end : ℕ) → a + n ≤ end → All (λ k. k < end) (range_with_len a n)
below_end a zero end few = All-nil (λ k. k < end)
below_end a (suc n) end few =
    All-cons (λ k. k < end) a (range_with_len (a + 1) n) (omega (arith, few))
    (below_end (a + 1) n end (omega (arith, few)))
