-- The greatest gap, found from a bound down over gaps in which nothing changes.
use Rattle.std.proofs.Common.{ℕ, ◌≡◌, ◌<◌, ◌≤◌, ◌-◌, inl, inr, List, arith}
use Rattle.std.proofs.lemmas.Bool.{cases_lt}
use Rattle.value_choices.specs.Choices.{IsFirst}
use Rattle.node_conditions.specs.Looks.{HoldsNever, IsStand}

module _ (At : ℕ → List ℕ → Type 0) (most : ℕ) where
  -- it holds in no gap above this one
  pub record IsDown (gap : ℕ) : Type 0 where
    pub within : gap ≤ most
    pub above : (i : ℕ) → gap < i → i ≤ most → (values : List ℕ) → At i values → ⊥

  pub down_first : IsDown most
  down_first = record { within = omega arith; above = λ i l m. absurd (omega arith) }

  module _ (gap : ℕ) (d : IsDown gap) where
    pub down_found : (values : List ℕ) → IsFirst (At gap) values → IsStand At most (record { gap = gap; values = values })
    down_found values f = record { within = d.within; first = f; greatest = greatest }
      where
        greatest : (i : ℕ) → i ≤ most → (others : List ℕ) → At i others → i ≤ gap
        greatest i m others a = elim (cases_lt gap i) [ inl l ↦ absurd (d.above i l m others a) | inr l ↦ l ]

    module _ (since : ℕ) (n : HoldsNever At since gap) where
      none_from : (i : ℕ) → since ≤ i → i ≤ most → (values : List ℕ) → At i values → ⊥
      none_from i l m values a = elim (cases_lt gap i) [ inl b ↦ d.above i b m values a | inr b ↦ n.never i l b values a ]

      pub down_more : (since ≡ 0 → ⊥) → IsDown (since - 1)
      down_more some = record {
        within = (let a = n.since_is in let b = d.within in omega arith);
        above = λ i l m values a. none_from i (let s : since ≡ 0 → ⊥ = some in omega arith) m values a;
      }

      pub down_never : since ≡ 0 → (i : ℕ) → i ≤ most → (values : List ℕ) → At i values → ⊥
      down_never e i m values a = none_from i (omega arith) m values a
