-- What is found behind a pointer with some budget is found without one.
use Rattle.std.proofs.Common.{◌≡◌, ◌≤◌, ◌+◌, ◌-◌, ℕ, Bool, true, false, Result, Ok, Err, refl}
use Rattle.std.proofs.Common.{subst, arith}
use Rattle.std.specs.Prelude.{Option, Some, None, IfOk, if◌then◌else◌, nat_le, nat_lt}
use Rattle.std.proofs.lemmas.Bool.{leb-true}
use Rattle.std.proofs.lemmas.Bool.Decides.{nat_tests}
use Rattle.ix_num.specs.declared.fault.FrameRule.{FrameRule}
use Rattle.ix_num.specs.declared.fault.FrameFault.{FrameFault}
use Rattle.ix_frame.specs.Result.{◌>>=◌}
use Rattle.ix_frame.specs.Segments.{Segments}
use Rattle.ix_frame.specs.Target.{Pointed, Object, Elements, target, composite_target}
use Rattle.ix_frame.specs.Objects.{charged, composite_cost, blamed, no_elements, elements_found}
use Rattle.ix_frame.specs.Objects.{elements_behind, elements_at, pointer_word}
use Rattle.ix_frame.specs.Sound.{endless, found_or, sound_elements}

-- What was found with a budget, more or richer: r with b, and q with e more.
abbrev Richer : {A E : Type 0} → ℕ → ℕ → Result (A × ℕ) E → Result (A × ℕ) E → Type 0
Richer b e r q = IfOk r (λ x. (x.1 ≤ b) × (q ≡ Ok (x.0, x.1 + e)))

costs : (b e cost : ℕ) (x : Elements)
    → Richer {A = Elements} {E = FrameRule} b e (charged cost b >>= λ left. Ok (x, left))
    (charged cost (b + e) >>= λ left. Ok (x, left))
costs b e cost x = go (nat_le cost b) refl
  where
    go : (test : Bool) → nat_le cost b ≡ test
        → Richer {A = Elements} {E = FrameRule} b e (charged cost b >>= λ left. Ok (x, left))
        (charged cost (b + e) >>= λ left. Ok (x, left))
    go true is =
        let le : cost ≤ b = leb-true cost b is in
        let more : nat_le cost (b + e) ≡ true = grind (arith, nat_tests) in
        let rest : (b + e) - cost ≡ (b - cost) + e = omega arith in
        rw is (omega arith, rw (more, rest) refl)
    go false is = rw is tt

in_blame : {A : Type 0} (s w b e : ℕ) (r q : Result (A × ℕ) FrameRule) → Richer b e r q
    → Richer b e (blamed s w r) (blamed s w q)
in_blame s w b e (Ok x) q h = (h.0, rw h.1 refl)
in_blame s w b e (Err f) q h = tt

here_or_default : {A E : Type 0} (there : Bool) (b e : ℕ) (default : A) (r q : Result (A × ℕ) E)
    → Richer b e r q → Richer b e (if there then r else Ok (default, b))
    (if there then q else Ok (default, b + e))
here_or_default true b e default r q h = h
here_or_default false b e default r q h = (omega arith, refl)

aimed : {A B : Type 0} (b e : ℕ) (t : Result B FrameRule) (f g : B → Result (A × ℕ) FrameRule)
    → ((p : B) → Richer b e (f p) (g p)) → Richer b e (t >>= f) (t >>= g)
aimed b e (Ok p) f g h = h p
aimed b e (Err fault) f g h = tt

found_richer : (all : Segments) (b e : ℕ) (p : Option Pointed)
    → Richer b e (elements_found all b p) (elements_found all (b + e) p)
unfolding elements_found
found_richer all b e None = (omega arith, refl)
found_richer all b e (Some p) = aimed b e (composite_target all p) _ _
    (λ found. costs b e (composite_cost found.0 found.1) found.0)

elements_richer : (o : Object) (slot b e : ℕ)
    → Richer b e (elements_at o slot b) (elements_at o slot (b + e))
unfolding elements_at elements_behind
elements_richer o slot b e =
    let w = pointer_word o slot in
    here_or_default (nat_lt slot o.pointer_words) b e _ _ _
    (in_blame o.segment w b e _ _ (aimed b e (target o.segments o.segment w)
    (elements_found o.segments b) (elements_found o.segments (b + e))
    (found_richer o.segments b e)))

is_found : (default : Elements) (b : ℕ) (r q : Result (Elements × ℕ) FrameFault)
    → Richer b (endless - b) r q → IfOk r (λ x. x.0 ≡ found_or default q)
is_found default b (Ok x) q h = rw h.1 refl
is_found default b (Err e) q h = tt

pub elements_sound : (o : Object) (slot b : ℕ) → b ≤ endless
    → IfOk (elements_at o slot b) (λ x. x.0 ≡ sound_elements o slot)
unfolding sound_elements
elements_sound o slot b le =
    let whole : b + (endless - b) ≡ endless = omega arith in
    is_found (no_elements o.segments) b (elements_at o slot b) (elements_at o slot endless)
    (subst (λ n. Richer b (endless - b) (elements_at o slot b) (elements_at o slot n)) whole
    (elements_richer o slot b (endless - b)))
