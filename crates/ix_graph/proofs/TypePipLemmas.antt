-- The conventional PIPs of a tile type, PIP by PIP.
use Rattle.std.proofs.Common.{◌≡◌, ap, sym, ◌∙◌, ℕ, suc, ◌+◌, Bool, true, false, if◌then◌else◌, List, [], ◌∷◌, ◌++◌, length, take, slice_get, Some, arith}
use Rattle.std.proofs.lemmas.List.{append-nil}
use Rattle.ix_rec.specs.declared.device.Pip.{Pip}
use Rattle.ix_graph.specs.declared.type_pips.TilePip.{TilePip}
use Rattle.ix_graph.specs.Pips.{is_conventional, tile_pip, conventional_from, conventional}
use Rattle.ix_device.proofs.Walks.{take_next, length_take}

-- what one PIP at this place gives
abbrev pub kept : ℕ → Pip → List TilePip
kept place p = if is_conventional p.kind then tile_pip place p ∷ [] else []

conventional_from-push : (place : ℕ) (ps : List Pip) (p : Pip) → conventional_from place (ps ++ p ∷ []) ≡ conventional_from place ps ++ kept (place + length ps) p
unfolding conventional_from
conventional_from-push place [] p = ap (λ n. kept n p) zero_more
  where
    zero_more : place ≡ place + 0
    zero_more = omega arith
conventional_from-push place (q ∷ ps) p =
    by (is_conventional q.kind) (conventional_from-push (place + 1) ps p)
    ∙ ap (λ n. (if is_conventional q.kind then tile_pip place q ∷ conventional_from (place + 1) ps else conventional_from (place + 1) ps) ++ kept n p) one_on
  where
    one_on : place + 1 + length ps ≡ place + suc (length ps)
    one_on = omega arith

    by : (b : Bool) → conventional_from (place + 1) (ps ++ p ∷ []) ≡ conventional_from (place + 1) ps ++ kept (place + 1 + length ps) p
        → (if b then tile_pip place q ∷ conventional_from (place + 1) (ps ++ p ∷ []) else conventional_from (place + 1) (ps ++ p ∷ []))
        ≡ (if b then tile_pip place q ∷ conventional_from (place + 1) ps else conventional_from (place + 1) ps) ++ kept (place + 1 + length ps) p
    by true rest = ap (λ xs. tile_pip place q ∷ xs) rest
    by false rest = rest

module _ (ps : List Pip) (i : ℕ) (p : Pip) (at : slice_get ps i ≡ Some p) where
  one_more_pip : conventional (take (i + 1) ps) ≡ conventional (take i ps) ++ kept i p
  one_more_pip =
      ap conventional (take_next ps i p at) ∙ conventional_from-push 0 (take i ps) p ∙ ap (λ n. conventional (take i ps) ++ kept n p) (ap (λ n. 0 + n) (length_take ps i p at) ∙ no_more)
    where
      no_more : 0 + i ≡ i
      no_more = omega arith

  -- one PIP more is conventional
  pub one_is_kept : (place : ℕ) (found new : List TilePip) → is_conventional p.kind ≡ true → place ≡ i → found ≡ conventional (take i ps) → new ≡ found ++ tile_pip place p ∷ [] → new ≡ conventional (take (i + 1) ps)
  one_is_kept place found new h number before step =
      step ∙ ap (λ xs. xs ++ tile_pip place p ∷ []) before ∙ ap (λ n. conventional (take i ps) ++ tile_pip n p ∷ []) number
      ∙ sym (one_more_pip ∙ ap (λ b. conventional (take i ps) ++ (if b then tile_pip i p ∷ [] else [])) h)

  -- one PIP more isn't
  pub one_is_passed : (found new : List TilePip) → is_conventional p.kind ≡ false → found ≡ conventional (take i ps) → new ≡ found → new ≡ conventional (take (i + 1) ps)
  one_is_passed found new h before step =
      step ∙ before ∙ sym (one_more_pip ∙ ap (λ b. conventional (take i ps) ++ (if b then tile_pip i p ∷ [] else [])) h ∙ append-nil (conventional (take i ps)))
