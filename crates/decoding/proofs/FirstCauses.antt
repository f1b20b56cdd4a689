-- The first cause of which something holds, in the order of the causes.
use Rattle.std.proofs.Common.{ℕ, zero, suc, ◌≡◌, ◌<◌, ◌⊎◌, inl, inr, refl, ap, sym, subst, ◌∙◌, arith}
use Rattle.std.proofs.Math.Decide.{ℕ_discrete, dec_lt}
use Rattle.decoding.specs.declared.causes.Why.{Why}
use Rattle.decoding.specs.declared.causes.Why.TheVariants.{UnknownAction, Arguments, SlotHolds, Waiting, SlotTaken, Constraint, Precondition, Unfinished, GoalFalse}
use Rattle.decoding.specs.FailingAct.{place}

cause_at : ℕ → Why
cause_at zero = UnknownAction
cause_at (suc zero) = Arguments
cause_at (suc (suc zero)) = SlotHolds
cause_at (suc (suc (suc zero))) = Waiting
cause_at (suc (suc (suc (suc zero)))) = SlotTaken
cause_at (suc (suc (suc (suc (suc zero))))) = Constraint
cause_at (suc (suc (suc (suc (suc (suc zero)))))) = Precondition
cause_at (suc (suc (suc (suc (suc (suc (suc zero))))))) = Unfinished
cause_at (suc (suc (suc (suc (suc (suc (suc (suc n)))))))) = GoalFalse

at_place : (c : Why) → cause_at (place c) ≡ c
unfolding cause_at
at_place UnknownAction = refl
at_place Arguments = refl
at_place SlotHolds = refl
at_place Waiting = refl
at_place SlotTaken = refl
at_place Constraint = refl
at_place Precondition = refl
at_place Unfinished = refl
at_place GoalFalse = refl

-- causes with one place are one
by_place : (c d : Why) → place c ≡ place d → c ≡ d
by_place c d e = sym (at_place c) ∙ ap cause_at e ∙ at_place d

-- what holds of no cause before d, nor of d, holds of none up to d
pub extend : (P : Why → Type 0) (d : Why) → ((c : Why) → place c < place d → P c → ⊥) → (P d → ⊥) → (c : Why) → place c < suc (place d) → P c → ⊥
extend P d h n c l p = elim (ℕ_discrete (place c) (place d)) [ yes e ↦ n (subst P (by_place c d e) p) | no m ↦ h c (omega arith) p ]

pub none_first : (P : Why → Type 0) (c : Why) → place c < 0 → P c → ⊥
none_first P c l p = absurd (omega arith)

-- the first of which something holds is one
pub first_is_one : (P : Why → Type 0) (c d : Why) → P c → ((e : Why) → place e < place c → P e → ⊥) → P d → ((e : Why) → place e < place d → P e → ⊥) → c ≡ d
first_is_one P c d p h q k = elim (ℕ_discrete (place c) (place d)) [
  | yes e ↦ by_place c d e
  | no n ↦ elim (less (place c) (place d) n) [ inl l ↦ absurd (k c l p) | inr l ↦ absurd (h d l q) ]
]
  where
    less : (x y : ℕ) → (x ≡ y → ⊥) → (x < y) ⊎ (y < x)
    less x y n = elim (dec_lt x y) [ yes l ↦ inl l | no m ↦ inr (omega arith) ]
