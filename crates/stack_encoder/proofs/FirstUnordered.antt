-- The methods before a place are totally ordered, and what follows for all of them.
use Rattle.std.proofs.Common.{ℕ, ◌≡◌, ◌+◌, ◌<◌, ◌≤◌, List, ◌∷◌, length, slice_get, Some, Contains, ap, sym, subst, ◌∙◌, arith}
use Rattle.std.proofs.Math.Decide.{ℕ_discrete}
use Rattle.std.proofs.lemmas.Option.{slice_get-get_or}
use Rattle.plan_model.specs.declared.schemas.MethodPlan.{MethodPlan}
use Rattle.plan_model.specs.declared.values.Compiled.{Compiled}
use Rattle.plan_model.specs.Pairs.{Pairs}
use Rattle.plan_model.specs.task_networks.Order.{IsLine}
use Rattle.plan_model.proofs.plan_meaning.CompiledNetworks.{plan_of}
use Rattle.stack_encoding.specs.TotalOrder.{IsOneAfterAnother, IsTotallyOrdered, IsFirstUnordered}
use Rattle.problem_texts.specs.ArePrinted.{IsCompiledProblem}

abbrev pub AreOrderedTo : List MethodPlan → ℕ → Type 0
AreOrderedTo methods m = (k : ℕ) (other : MethodPlan) → k < m → slice_get methods k ≡ Some other → IsOneAfterAnother other

pub ordered_more : (methods : List MethodPlan) (m : ℕ) (plan : MethodPlan) → slice_get methods m ≡ Some plan → IsOneAfterAnother plan → AreOrderedTo methods m → AreOrderedTo methods (m + 1)
ordered_more methods m plan e is before k other l f = elim (ℕ_discrete k m) [
  | yes same ↦ (let one : plan ≡ other = (let g = ap (slice_get methods) same in cc) in subst IsOneAfterAnother one is)
  | no less ↦ before k other (omega (arith, l, less)) f
]

module _ (c : Compiled) (methods : List MethodPlan) (own : methods ≡ c.methods) (m : ℕ) where
  pub ordered_all : length methods ≤ m → AreOrderedTo methods m → IsTotallyOrdered c
  ordered_all end all plan among =
      let (k, l, e) = subst (λ ps. Contains ps plan) (sym own) among in
      all k plan (omega (arith, l, end)) (slice_get-get_or methods k plan l ∙ ap Some e)

  pub first_unordered : (plan : MethodPlan) → slice_get methods m ≡ Some plan → (IsOneAfterAnother plan → ⊥) → AreOrderedTo methods m → IsFirstUnordered c m
  first_unordered plan e not before =
      let there = subst (λ ps. slice_get ps m ≡ Some plan) own e in
      let ordered = subst (λ ps. AreOrderedTo ps m) own before in
      record { plan = plan; is = there; unordered = not; first = λ k other l f. ordered k other l f }

  pub lined : (plan : MethodPlan) → slice_get methods m ≡ Some plan → IsCompiledProblem c → IsLine (Pairs plan.schema.pairs) (length plan.schema.children) plan.line
  lined plan e (h, mode, is) =
      let (s, among, made) = plan_of h mode (h.top ∷ h.methods) c.methods m plan is.methods (subst (λ ps. slice_get ps m ≡ Some plan) own e) in
      made.line
