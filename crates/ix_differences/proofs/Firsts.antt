-- The first of keys in an order.
use Rattle.std.proofs.Common.{◌≡◌, ◌∙◌, ap, sym, refl, subst, List, T, inl, inr}
use Rattle.std.specs.Prelude.{◌⊎◌, slice_get, Option, Some, None, if◌then◌else◌}
use Rattle.std.specs.Cmp.{IsTotalOrder}
use Rattle.std.specs.Cmp.Lexicographic.{options_total}
use Rattle.std.specs.Ordering.{is_eq, is_lt, ordering_reverse}
use Rattle.std.specs.declared.cmp.Ordering.{Ordering}
use Rattle.std.specs.declared.cmp.Ordering.TheVariants.{Less, Equal, Greater}
use Rattle.std.proofs.lemmas.Cmp.{alike_right, nat_list_cmp_total, on_total, then_total}
use Rattle.std.proofs.lemmas.Cmp.{tied_itself}
use Rattle.ix_message.specs.Shape.{Text}
use Rattle.ix_differences.specs.Earliest.{IsEarliest, IsFirst, name_order, earlier, pin_name_order}

pub name_order_total : (names : List Text) → IsTotalOrder (name_order names)
name_order_total names = on_total (slice_get names) (options_total nat_list_cmp_total)

pub pin_name_order_total : (names : List Text) → IsTotalOrder (pin_name_order names)
pin_name_order_total names = then_total (on_total (λ p. p.cell) (name_order_total names))
    (on_total (λ p. p.pin) (name_order_total names))

module _ {K : Type 0} (R : K → K → Ordering) (Named Agrees : K → Type 0) where
  -- at what is seen more they agree
  pub wider : (Seen Wide : K → Type 0) (first : Option K)
      → ((k : K) → Wide k → Seen k ⊎ Agrees k) → IsEarliest R Named Agrees Seen first
      → IsEarliest R Named Agrees Wide first
  wider Seen Wide None back h = λ k wide. elim (back k wide) [
    | inl seen ↦ h k seen
    | inr agrees ↦ agrees
  ]
  wider Seen Wide (Some key) back h = record {
    named = h.named;
    differs = h.differs;
    agrees_before = λ k wide less. elim (back k wide) [
      | inl seen ↦ h.agrees_before k seen less
      | inr agrees ↦ agrees
    ];
  }

  -- where they agree by another word
  pub by_word : (Other Seen : K → Type 0) (first : Option K) → ((k : K) → Agrees k → Other k)
      → ((k : K) → Other k → Agrees k) → IsEarliest R Named Agrees Seen first
      → IsEarliest R Named Other Seen first
  by_word Other Seen None to from h = λ k seen. to k (h k seen)
  by_word Other Seen (Some key) to from h = record {
    named = h.named;
    differs = λ other. h.differs (from key other);
    agrees_before = λ k seen less. to k (h.agrees_before k seen less);
  }

  module _ (o : IsTotalOrder R) where
    never_less : (k : K) → R k k ≡ Less → ⊥
    never_less k less = subst (λ r. T (is_eq r)) (sym (tied_itself o k) ∙ less) tt

    -- a key by itself
    pub alone : (key : K) → Named key → ¬ Agrees key
        → IsEarliest R Named Agrees (λ k. k ≡ key) (Some key)
    alone key named differs = record {
      named = named;
      differs = differs;
      agrees_before = λ k same less. absurd (never_less key
          (subst (λ x. R x key ≡ Less) same less));
    }

    -- the earlier one of two
    pub joined : (P Q : K → Type 0) (x y : Option K) → IsEarliest R Named Agrees P x
        → IsEarliest R Named Agrees Q y
        → IsEarliest R Named Agrees (λ k. P k ⊎ Q k) (earlier R x y)
    joined P Q None None p q = λ k seen. elim seen [ inl h ↦ p k h | inr h ↦ q k h ]
    joined P Q None (Some y) p q = record {
      named = q.named;
      differs = q.differs;
      agrees_before = λ k seen less. elim seen [
        | inl h ↦ p k h
        | inr h ↦ q.agrees_before k h less
      ];
    }
    joined P Q (Some x) None p q = record {
      named = p.named;
      differs = p.differs;
      agrees_before = λ k seen less. elim seen [
        | inl h ↦ p.agrees_before k h less
        | inr h ↦ q k h
      ];
    }
    joined P Q (Some x) (Some y) p q = by (R y x) refl
      where
        first_is_less : ((k : K) → R k x ≡ Less → R k y ≡ Less)
            → IsFirst R Named Agrees (λ k. P k ⊎ Q k) x
        first_is_less less_too = record {
          named = p.named;
          differs = p.differs;
          agrees_before = λ k seen less. elim seen [
            | inl h ↦ p.agrees_before k h less
            | inr h ↦ q.agrees_before k h (less_too k less)
          ];
        }

        by : (r : Ordering) → R y x ≡ r
            → IsEarliest R Named Agrees (λ k. P k ⊎ Q k) (if is_lt r then Some y else Some x)
        by Less is = record {
          named = q.named;
          differs = q.differs;
          agrees_before = λ k seen less. elim seen [
            | inl h ↦ p.agrees_before k h (o.trans k y x less is)
            | inr h ↦ q.agrees_before k h less
          ];
        }
        by Equal is = first_is_less (λ k less. alike_right o y x k is ∙ less)
        by Greater is = first_is_less (λ k less. o.trans k x y less
            (o.antisymm x y ∙ ap ordering_reverse is))

    -- one key more, at which they differ
    pub one_more : (Seen Wide : K → Type 0) (first : Option K) (key : K) → Named key
        → ¬ Agrees key → ((k : K) → Wide k → Seen k ⊎ (k ≡ key))
        → IsEarliest R Named Agrees Seen first
        → IsEarliest R Named Agrees Wide (earlier R first (Some key))
    one_more Seen Wide first key named differs back h =
        wider (λ k. Seen k ⊎ (k ≡ key)) Wide (earlier R first (Some key))
        (λ k wide. inl (back k wide))
        (joined Seen (λ k. k ≡ key) first (Some key) h (alone key named differs))

  -- one key more, at which they agree
  pub none_more : (Seen Wide : K → Type 0) (first : Option K) (key : K) → Agrees key
      → ((k : K) → Wide k → Seen k ⊎ (k ≡ key)) → IsEarliest R Named Agrees Seen first
      → IsEarliest R Named Agrees Wide first
  none_more Seen Wide first key agrees back h = wider Seen Wide first
      (λ k wide. elim (back k wide) [
        | inl seen ↦ inl seen
        | inr same ↦ inr (subst Agrees (sym same) agrees)
      ]) h
