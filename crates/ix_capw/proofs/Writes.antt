-- What a write into the tail of a slice leaves.
use Rattle.std.proofs.Common.{◌≡◌, ◌+◌, ◌-◌, ◌++◌, ◌∙◌, [], List, ℕ, length, take, drop, ap, arith, length-drop}
use Rattle.std.proofs.lemmas.List.{take_all, drop_all, drop-drop, append-nil}
use borrow.Rule.Slice.PartMut.{put_mid, mid_of, post_of}

-- The front of the tail from a on is overwritten.
pub put_tail : (a n : ℕ) (xs w ys : List ℕ) → ys ≡ w ++ drop n (mid_of a (length xs - a) xs)
    → put_mid a (length xs - a) xs ys ≡ take a xs ++ (w ++ drop (a + n) xs)
put_tail a n xs w ys written =
    let tail : mid_of a (length xs - a) xs ≡ drop a xs = take_all _ (drop a xs) (omega (arith, length-drop a xs)) in
    let past : post_of a (length xs - a) xs ≡ [] = drop_all _ (drop a xs) (omega (arith, length-drop a xs)) in
    let rest : ys ≡ w ++ drop (a + n) xs = written ∙ ap (λ (t : List ℕ). w ++ drop n t) tail ∙ ap (λ (t : List ℕ). w ++ t) (drop-drop n a xs) in
    ap (λ (p : List ℕ). take a xs ++ (ys ++ p)) past ∙ ap (λ (q : List ℕ). take a xs ++ q) (append-nil ys ∙ rest)
