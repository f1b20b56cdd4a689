-- The network of a totally ordered problem is total.
use Rattle.std.proofs.Common.{ℕ, ◌≡◌, ◌<◌, List, [], ◌∷◌, ◌++◌, length, Option, Some, None, slice_get, sym, subst, refl, arith}
use Rattle.std.proofs.lemmas.List.{length-map}
use Rattle.plan_model.specs.declared.schemas.MethodPlan.{MethodPlan}
use Rattle.plan_model.specs.declared.values.Compiled.{Compiled}
use Rattle.plan_model.specs.Pairs.{Pairs}
use Rattle.plan_model.specs.task_networks.Lawful.{IsLawful}
use Rattle.plan_model.specs.task_networks.Order.{IsLine, IsCut, IsNext}
use Rattle.plan_model.specs.task_networks.Prepared.{IsPrepared}
use Rattle.plan_model.specs.plan_meaning.Network.{GroundMethod, child_of, network}
use Rattle.plan_model.proofs.plan_meaning.CompiledNetworks.{plan_of, prepared}
use Rattle.plan_model.proofs.plan_meaning.MethodParts.{works_by, IsPairBy}
use Rattle.plan_model.proofs.task_networks.ScheduleLaws.{prepared_is_lawful}
use Rattle.plan_texts.specs.SoundlyCompiled.{IsSoundlyCompiled}
use Rattle.schedules.proofs.latest.Counts.{found}
use Rattle.stack_machine.specs.Stack.{IsTotal}
use Rattle.stack_machine.proofs.StackPlans.{prepared_is_total}
use Rattle.stack_encoding.specs.TotalOrder.{IsTotallyOrdered}

-- the line of a method, by its plan, is cut at every place
abbrev IsCutBy : GroundMethod → Option MethodPlan → Type 0
IsCutBy g o = (line : List ℕ) × IsLine (IsPairBy o) (length (works_by g o)) line × ((k : ℕ) → k < length line → IsCut (IsPairBy o) line k)

no_line : (g : GroundMethod) → IsCutBy g None
no_line g = ([], record { whole = λ i l. absurd (omega arith); each = each }, λ k l. absurd (omega arith))
  where
    each : (listed rest : List ℕ) (i : ℕ) → [] ≡ listed ++ i ∷ rest → IsNext (IsPairBy None) 0 listed i
    each [] rest i e = absurd cc
    each (x ∷ listed) rest i e = absurd cc

module _ (c : Compiled) (sound : IsSoundlyCompiled c) where
  is_prepared : IsPrepared (network c)
  is_prepared = prepared sound.problem sound.checks c sound.ordered sound.compiled

  pub law : IsLawful (network c)
  law = prepared_is_lawful (network c) is_prepared

  module _ (ordered : IsTotallyOrdered c) where
    is_cut : (g : GroundMethod) → IsCutBy g (slice_get c.methods g.number)
    is_cut g = by_plan (slice_get c.methods g.number) refl
      where
        by_plan : (o : Option MethodPlan) → slice_get c.methods g.number ≡ o → IsCutBy g o
        by_plan None e = no_line g
        by_plan (Some plan) e =
            let (s, k, is) = plan_of sound.problem sound.checks (sound.problem.top ∷ sound.problem.methods) c.methods g.number plan sound.compiled.methods e in (
              plan.line,
              subst (λ n. IsLine (Pairs plan.schema.pairs) n plan.line) (sym (length-map plan.schema.children (child_of g))) is.line,
              ordered plan (found c.methods g.number plan e),
            )

    pub total : IsTotal (network c)
    total = prepared_is_total (network c) is_prepared is_cut
