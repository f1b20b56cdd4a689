-- Two compiled values of the same texts have one ground network, but for which methods are ground.
use Rattle.std.proofs.Common.{ℕ, ◌≡◌, MatchOption, List, [], Option, Some, None, slice_get, refl, ap, subst, Contains}
use Rattle.std.specs.Option.{option_and_then}
use Rattle.plan_model.specs.Pairs.{Pairs}
use Rattle.plan_model.specs.declared.schemas.MethodPlan.{MethodPlan}
use Rattle.plan_model.specs.declared.values.Compiled.{Compiled}
use Rattle.plan_model.specs.task_networks.Net.{Net}
use Rattle.plan_model.specs.task_networks.Bound.{IsReached}
use Rattle.plan_model.specs.plan_meaning.Network.{Work, task, GroundMethod, IsPrimitive, network}
use Rattle.plan_model.specs.plan_meaning.Solution.{top_work}
use Rattle.plan_texts.specs.Alike.{task_said}
use Rattle.plan_texts.specs.SpellsHddl.{hddl_words}
use Rattle.plan_texts.proofs.Together.{maps-length}
use Rattle.decode_answers.proofs.AlikeValues.{StandTogether, SamePlan, AreTwins, plan_place}
use Rattle.decode_answers.proofs.AlikeReaders.{head_same, works_same}
use Rattle.slot_machine.specs.bound_laws.NetworkEdges.{Edge, IsNamedCycle}
use Rattle.slot_machine.specs.bound_laws.NetworkBound.{IsBoundOf}
use Rattle.reached_parts.specs.Reached.{over, IsReachedBy}
use Rattle.reached_parts.specs.MethodOrder.{IsBefore}

-- what is said of ground methods, and the top work
abbrev About : Type 1
About = (GroundMethod → Work) → (GroundMethod → List Work) → (GroundMethod → ℕ → ℕ → Type 0) → (GroundMethod → Option ℕ) → (GroundMethod → ℕ → Type 0) → Work → Type 0

-- the network of this, with these methods alone
abbrev made_of : List GroundMethod → (GroundMethod → Work) → (GroundMethod → List Work) → (GroundMethod → ℕ → ℕ → Type 0) → (GroundMethod → Option ℕ) → (GroundMethod → ℕ → Type 0) → Net
made_of methods head works Pair heir IsCopier = record {
  Work = Work;
  Method = GroundMethod;
  head = head;
  works = works;
  IsSimple = IsPrimitive;
  IsGround = Contains methods;
  Pair = Pair;
  heir = heir;
  IsCopier = IsCopier;
}

module _ (c d : Compiled) (t : AreTwins c d) where
  pair_same : (g : GroundMethod) (i j : ℕ) → (network c).Pair g i j ≡ (network d).Pair g i j
  pair_same g i j = go (slice_get c.methods g.number) (slice_get d.methods g.number) (plan_place c d t g.number)
    where
      go : (o u : Option MethodPlan) → StandTogether (SamePlan c d) o u
          → MatchOption o ⊥ (λ (plan : MethodPlan). Pairs plan.schema.pairs i j) ≡ MatchOption u ⊥ (λ (plan : MethodPlan). Pairs plan.schema.pairs i j)
      go None None r = refl
      go (Some p) (Some q) r = ap (λ z. Pairs z.4.2 i j) r.0.schema
      go None (Some q) r = absurd r
      go (Some p) None r = absurd r

  heir_same : (g : GroundMethod) → (network c).heir g ≡ (network d).heir g
  heir_same g = go (slice_get c.methods g.number) (slice_get d.methods g.number) (plan_place c d t g.number)
    where
      go : (o u : Option MethodPlan) → StandTogether (SamePlan c d) o u
          → option_and_then (λ (plan : MethodPlan). plan.heir) o ≡ option_and_then (λ (plan : MethodPlan). plan.heir) u
      go None None r = refl
      go (Some p) (Some q) r = r.0.heir
      go None (Some q) r = absurd r
      go (Some p) None r = absurd r

  copier_same : (g : GroundMethod) (i : ℕ) → (network c).IsCopier g i ≡ (network d).IsCopier g i
  copier_same g i = go (slice_get c.methods g.number) (slice_get d.methods g.number) (plan_place c d t g.number)
    where
      go : (o u : Option MethodPlan) → StandTogether (SamePlan c d) o u
          → MatchOption o ⊥ (λ (plan : MethodPlan). Contains plan.copiers i) ≡ MatchOption u ⊥ (λ (plan : MethodPlan). Contains plan.copiers i)
      go None None r = refl
      go (Some p) (Some q) r = ap (λ z. Contains z i) r.0.copiers
      go None (Some q) r = absurd r
      go (Some p) None r = absurd r

  top_same : top_work c ≡ top_work d
  top_same = ap (λ n. task n []) (maps-length (task_said (hddl_words c.hddl)) (task_said (hddl_words d.hddl)) c.hddl.tasks d.hddl.tasks t.same.alike.tasks)

  -- so what is said of the one network is said of the other
  moved : (P : About) → P (network c).head (network c).works (network c).Pair (network c).heir (network c).IsCopier (top_work c)
      → P (network d).head (network d).works (network d).Pair (network d).heir (network d).IsCopier (top_work d)
  moved P x = subst (λ (z : Type 0). z) (λ i. P (λ g. head_same c d t g i) (λ g. works_same c d t g i) (λ g j k. pair_same g j k i) (λ g. heir_same g i) (λ g j. copier_same g j i) (top_same i)) x

  pub reached_to : (methods : List GroundMethod) (w : Work) → IsReachedBy c methods w → IsReachedBy d methods w
  reached_to methods w r = moved (λ head works Pair heir IsCopier top. IsReached (made_of methods head works Pair heir IsCopier) top w) r

  pub bound_to : (methods : List GroundMethod) (n : ℕ) → IsBoundOf (over c methods) IsBefore (top_work c) n → IsBoundOf (over d methods) IsBefore (top_work d) n
  bound_to methods n b = moved (λ head works Pair heir IsCopier top. IsBoundOf (made_of methods head works Pair heir IsCopier) IsBefore top n) b

  pub cycle_to : (methods : List GroundMethod) (e : Edge GroundMethod) (walk : List (Edge GroundMethod)) → IsNamedCycle (over c methods) IsBefore (top_work c) e walk
      → IsNamedCycle (over d methods) IsBefore (top_work d) e walk
  cycle_to methods e walk b = moved (λ head works Pair heir IsCopier top. IsNamedCycle (made_of methods head works Pair heir IsCopier) IsBefore top e walk) b
