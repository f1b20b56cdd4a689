-- Networks in whose methods no two pairs meet: their chains are their pairs, so that worked rows can be tested by computation.
use Rattle.std.proofs.Common.{ℕ, zero, suc, ◌≡◌, ◌<◌, ◌↔◌, Bool, true, false, not, ◌&&◌, ◌==◌, List, [], ◌∷◌, length, Option, Some, None, slice_get, refl, ap, sym, subst, ◌∙◌, Contains, arith, nat_lt, eq-eqb}
use Rattle.std.specs.List.{list_any, list_all}
use Rattle.std.proofs.lemmas.List.{length-map}
use Rattle.plan_model.specs.task_networks.Order.{Precedes, direct, through, ArePairsOf}
use Rattle.plan_model.proofs.task_networks.Lists.{Contains-later}
use Rattle.plan_model.proofs.task_networks.PendingNodes.{both, not_to}
use Rattle.plan_model.proofs.task_networks.Tests.{Decides, all_to, any_to, to_any}
use Rattle.plan_model.proofs.task_networks.examples.Nets.{no_chain}
use Rattle.plan_model.specs.declared.networks.Pair.{Pair}
use Rattle.plan_model.specs.declared.schemas.MethodPlan.{MethodPlan}
use Rattle.plan_model.specs.declared.values.Compiled.{Compiled}
use Rattle.plan_model.specs.Pairs.{Pairs}
use Rattle.plan_model.specs.plan_meaning.Network.{GroundMethod, network, child_of}
use Rattle.plan_model.proofs.plan_meaning.MethodParts.{works_by, IsPairBy}
use Rattle.plan_model.specs.plan_meaning.Compilation.{same_pair}
use Rattle.plan_model.specs.Pairs.{pair}
use Rattle.plan_model.proofs.plan_meaning.examples.Unequal.{lt_to}

abbrev pub is_pair_by : Option MethodPlan → ℕ → ℕ → Bool
is_pair_by None i j = false
is_pair_by (Some plan) i j = list_any (same_pair (pair i j)) plan.schema.pairs

abbrev pub is_flat_pair : MethodPlan → Pair → Bool
is_flat_pair plan p = nat_lt p.first (length plan.schema.children) && (nat_lt p.then (length plan.schema.children) && list_all (λ (q : Pair). not (p.then == q.first)) plan.schema.pairs)

abbrev pub is_flat : MethodPlan → Bool
is_flat plan = list_all (is_flat_pair plan) plan.schema.pairs

same_to : (p q : Pair) → same_pair p q ≡ true → p ≡ q
same_to p q e =
    let h = both (p.first == q.first) (p.then == q.then) e in
    let a : p.first ≡ q.first = grind (arith, h.0) in
    let b : p.then ≡ q.then = grind (arith, h.1) in
    λ i. record { first = a i; then = b i }

same_itself : (p : Pair) → same_pair p p ≡ true
same_itself p = let a : (p.first == p.first) ≡ true = eq-eqb p.first p.first refl in ap (λ b. b && (p.then == p.then)) a ∙ eq-eqb p.then p.then refl

got : {A : Type 0} (xs : List A) (n : ℕ) (x : A) → slice_get xs n ≡ Some x → Contains xs x
got [] n x e = absurd cc
got (y ∷ xs) zero x e = let f : y ≡ x = cc in (0, omega arith, f)
got (y ∷ xs) (suc n) x e = Contains-later y xs x (got xs n x e)

pub record Flat (g : GroundMethod) (o : Option MethodPlan) : Type 0 where
  pub within : ArePairsOf (IsPairBy o) (length (works_by g o))
  pub order : (i j : ℕ) → (is_pair_by o i j ≡ true) ↔ Precedes (IsPairBy o) i j

pub flat_none : (g : GroundMethod) → Flat g None
flat_none g = record { within = λ i j x. absurd x; order = λ i j. (λ e. absurd cc, λ x. absurd (none i j x)) }
  where
    none : (i j : ℕ) → Precedes (IsPairBy None) i j → ⊥
    none i j (direct x) = x
    none i j (through x y) = y

pub flat_some : (g : GroundMethod) (plan : MethodPlan) → is_flat plan ≡ true → Flat g (Some plan)
flat_some g plan e = record {
  within = λ i j c. (let h = tests (pair i j) c in let a = h.0 in let b = h.1.0 in (omega (arith, many), omega (arith, many)));
  order = λ i j. (λ t. direct (to i j t), λ c. to_any (same_pair (pair i j)) plan.schema.pairs (pair i j) (no_chain never_meet i j c) (same_itself (pair i j)));
}
  where
    many : length (works_by g (Some plan)) ≡ length plan.schema.children
    many = length-map plan.schema.children (child_of g)

    tests : (p : Pair) → Contains plan.schema.pairs p → (p.first < length plan.schema.children) × ((p.then < length plan.schema.children) × (list_all (λ (q : Pair). not (p.then == q.first)) plan.schema.pairs ≡ true))
    tests p c =
        let h = both (nat_lt p.first (length plan.schema.children)) (nat_lt p.then (length plan.schema.children) && list_all (λ (q : Pair). not (p.then == q.first)) plan.schema.pairs) (all_to (is_flat_pair plan) plan.schema.pairs e p c) in
        let k = both (nat_lt p.then (length plan.schema.children)) (list_all (λ (q : Pair). not (p.then == q.first)) plan.schema.pairs) h.1 in
        (lt_to p.first (length plan.schema.children) h.0, (lt_to p.then (length plan.schema.children) k.0, k.1))

    never_meet : (i j k : ℕ) → Pairs plan.schema.pairs i j → Pairs plan.schema.pairs j k → ⊥
    never_meet i j k a b = not_to (j == j) (all_to (λ (q : Pair). not (j == q.first)) plan.schema.pairs (tests (pair i j) a).1.1 (pair j k) b) (eq-eqb j j refl)

    to : (i j : ℕ) → list_any (same_pair (pair i j)) plan.schema.pairs ≡ true → Contains plan.schema.pairs (pair i j)
    to i j t = let (p, c, f) = any_to (same_pair (pair i j)) plan.schema.pairs t in subst (Contains plan.schema.pairs) (sym (same_to (pair i j) p f)) c

pub flat_decides : (c : Compiled) → list_all is_flat c.methods ≡ true → Decides (network c) (λ g. is_pair_by (slice_get c.methods g.number))
flat_decides c e = record { within = λ g. (flat g).within; order = λ g. (flat g).order }
  where
    flat : (g : GroundMethod) → Flat g (slice_get c.methods g.number)
    flat g = go (slice_get c.methods g.number) (λ plan f. all_to is_flat c.methods e plan (got c.methods g.number plan f))
      where
        go : (o : Option MethodPlan) → ((plan : MethodPlan) → o ≡ Some plan → is_flat plan ≡ true) → Flat g o
        go None f = flat_none g
        go (Some plan) f = flat_some g plan (f plan refl)
