-- Of a compiled problem: equal tasks and preceding children are decided; walks over one list of all edges and another.
use Rattle.std.proofs.Common.{ℕ, ◌≡◌, ◌⊎◌, inl, inr, List, [], ◌∷◌, Option, Some, None, refl, ap, arith}
use Rattle.plan_model.specs.declared.networks.Pair.{Pair}
use Rattle.plan_model.specs.declared.schemas.MethodPlan.{MethodPlan}
use Rattle.plan_model.specs.declared.values.Compiled.{Compiled}
use Rattle.plan_model.specs.task_networks.Order.{Precedes, direct, through}
use Rattle.plan_model.specs.task_networks.Strata as Walks
use Rattle.plan_model.specs.plan_meaning.Schemas.{Schema, task, action, check}
use Rattle.plan_model.specs.plan_meaning.Strata.{Edge, AreEdges, source, target}
use Rattle.plan_model.proofs.plan_meaning.MethodParts.{IsPairBy}
use Rattle.slot_machine.proofs.bound_laws.Decided.{Or_not, AreTold, same_or_not}
use Rattle.slot_machine.proofs.bound_laws.Blocks.{precedes_or_not}

kind : Schema → ℕ
kind (action a) = 0
kind (check m) = 1
kind (task t) = 2

number_in : Schema → ℕ
number_in (action a) = a
number_in (check m) = m
number_in (task t) = t

made_of : (s t : Schema) → kind s ≡ kind t → number_in s ≡ number_in t → s ≡ t
unfolding kind number_in
made_of (action a) (action b) k e = ap action e
made_of (action a) (check b) k e = absurd (omega arith)
made_of (action a) (task b) k e = absurd (omega arith)
made_of (check a) (action b) k e = absurd (omega arith)
made_of (check a) (check b) k e = ap check e
made_of (check a) (task b) k e = absurd (omega arith)
made_of (task a) (action b) k e = absurd (omega arith)
made_of (task a) (check b) k e = absurd (omega arith)
made_of (task a) (task b) k e = ap task e

pub schema_told : AreTold Schema
schema_told s t = go (same_or_not (kind s) (kind t)) (same_or_not (number_in s) (number_in t))
  where
    go : (kind s ≡ kind t) ⊎ (kind s ≡ kind t → ⊥) → (number_in s ≡ number_in t) ⊎ (number_in s ≡ number_in t → ⊥) → (s ≡ t) ⊎ (s ≡ t → ⊥)
    go (inl k) (inl e) = inl (made_of s t k e)
    go (inl k) (inr n) = inr (λ f. n (ap number_in f))
    go (inr n) d = inr (λ f. n (ap kind f))

pub plan_told : (o : Option MethodPlan) (i j : ℕ) → Or_not (Precedes (IsPairBy o) i j)
plan_told None i j = inr (λ p. none i j p)
  where
    none : (i j : ℕ) → Precedes (IsPairBy None) i j → ⊥
    none i j (direct h) = h
    none i j (through c h) = h
plan_told (Some plan) i j = precedes_or_not (λ i j. record { first = i; then = j }) (λ (p : Pair). p.first) (λ (p : Pair). p.then) (λ p. refl) (λ i j. refl) (λ i j. refl) plan.schema.pairs i j

-- a walk over one list of all edges is one over each such list
pub over : (c : Compiled) (list edges : List Edge) → AreEdges c list → AreEdges c edges → (x y : Schema) (walk : List Edge)
    → Walks.IsWalk (source c) (target c) list x walk y → Walks.IsWalk (source c) (target c) edges x walk y
over c list edges l are x y [] e = e
over c list edges l are x y (d ∷ walk) v = (v.0, (are.all d).1 ((l.all d).0 v.1), over c list edges l are (target c d) y walk v.2)
