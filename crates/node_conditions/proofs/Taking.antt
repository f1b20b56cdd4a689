-- The values that a method can take are those that agree with what is known.
use Rattle.std.proofs.Common.{ℕ, zero, suc, ◌≡◌, ◌<◌, ◌↔◌, List, [], ◌∷◌, length, get_or, Option, Some, None, Contains, refl, ap, sym}
use Rattle.std.proofs.Common.{subst, ◌∙◌, arith}
use Rattle.std.specs.Borrow.{Bor}
use Rattle.plan_model.specs.declared.formulas.Formula.{Formula}
use Rattle.plan_model.specs.declared.terms.Param.{Param}
use Rattle.plan_model.specs.declared.terms.Term.TheVariants.{Var}
use Rattle.plan_model.specs.declared.schemas.MethodPlan.{MethodPlan}
use Rattle.plan_model.specs.plan_meaning.Truth.{State, AreTyped}
use Rattle.value_choices.specs.Choices.{Agrees, Agree}
use Rattle.node_conditions.specs.Taken.{said, CanTake, IsKnownAt, IsKnown}
use Rattle.node_conditions.specs.Demands.{IsAsked, Suit}

pub typed-length : (InType : ℕ → ℕ → Type 0) (ps : List Param) (os : List ℕ) → AreTyped InType ps os → length os ≡ length ps
typed-length InType [] [] t = refl
typed-length InType [] (o ∷ os) t = absurd t
typed-length InType (p ∷ ps) [] t = absurd t
typed-length InType (p ∷ ps) (o ∷ os) t = ap suc (typed-length InType ps os t.1)

-- values agree with what is known exactly where they are as it is known at each place
pub agree_each : (known : List (Option ℕ)) (values : List ℕ) → length values ≡ length known
    → ((k x : ℕ) → k < length known → get_or known k None ≡ Some x → get_or values k 0 ≡ x) → Agree known values
agree_each [] [] e h = tt
agree_each [] (x ∷ xs) e h = absurd (omega arith)
agree_each (o ∷ known) [] e h = absurd (omega arith)
agree_each (None ∷ known) (x ∷ xs) e h = (tt, agree_each known xs (omega arith) (λ k y l. h (suc k) y (omega arith)))
agree_each (Some y ∷ known) (x ∷ xs) e h = (
  sym (h 0 y (omega arith) refl),
  agree_each known xs (omega arith) (λ k z l. h (suc k) z
      (omega arith)),
)

pub agree_at : (known : List (Option ℕ)) (values : List ℕ) → Agree known values → (k x : ℕ) → get_or known k None ≡ Some x
    → get_or values k 0 ≡ x
agree_at [] values a k x e = absurd cc
agree_at (o ∷ known) [] a k x e = absurd a
agree_at (o ∷ known) (y ∷ ys) a zero x e = sym (subst (λ z. Agrees z y) e a.0)
agree_at (o ∷ known) (y ∷ ys) a (suc k) x e = agree_at known ys a.1 k x e

module _ (InType : ℕ → ℕ → Type 0) (plan : MethodPlan) (old : List ℕ) (known : List (Option ℕ))
    (many : length known ≡ length plan.schema.params)
    (is : IsKnown old (said plan) known) where
  agrees : (values : List ℕ) → CanTake InType plan old values → Agree known values
  agrees values t =
      let n = typed-length InType plan.schema.params values t.typed in
      agree_each known values (n ∙ sym many) each
    where
      each : (k x : ℕ) → k < length known → get_or known k None ≡ Some x → get_or values k 0 ≡ x
      each k x l e = let h = subst (IsKnownAt old (said plan) k) e (is k l) in t.same k (omega arith) h.1 ∙ sym h.0

  keeps : (values : List ℕ) → Agree known values → (k : ℕ) → k < length plan.schema.params → Contains (said plan) (Var k)
      → get_or values k 0 ≡ get_or old k 0
  keeps values a k l s = go (get_or known k None) refl (is k (omega arith))
    where
      go : (o : Option ℕ) → get_or known k None ≡ o → IsKnownAt old (said plan) k o → get_or values k 0 ≡ get_or old k 0
      go None e h = absurd (h s)
      go (Some x) e h = agree_at known values a k x e ∙ h.0

  pub takes_suits : (S : State) (condition : Option (Bor Formula)) (values : List ℕ)
      → (CanTake InType plan old values × IsAsked InType S condition values) ↔ Suit InType S plan known condition values
  takes_suits S condition values = (
    λ x. record { can = record { typed = x.0.typed; agree = agrees values x.0 }; by = record { met = x.0.met; asked = x.1 } },
    λ s. (record { typed = s.can.typed; met = s.by.met; same = keeps values s.can.agree }, s.by.asked),
  )
