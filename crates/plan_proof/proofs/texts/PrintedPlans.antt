-- The plans and the executable lists of the two printed texts are those of the value.
use Rattle.std.proofs.Common.{◌↔◌, List}
use Rattle.plan_model.specs.declared.steps.GroundAction.{GroundAction}
use Rattle.plan_model.specs.declared.values.Pddl.{Pddl}
use Rattle.plan_texts.specs.PrintableValue.{IsPrintable}
use Rattle.plan_texts.specs.PrintedTexts.{domain_text, problem_text}
use Rattle.plan_texts.proofs.PrintedSpells.{printed_spells}
use Rattle.plan_model.specs.plan_meaning.ClassicalPlan.{IsExecutable, IsPlan}
use Rattle.plan_proof.specs.Headline.{IsExecutableOf}
use Rattle.plan_proof.specs.TextPlans.{IsPlanOf}
use Rattle.plan_proof.proofs.texts.SamePlans.{spelled-executables, spelled-plans}

module _ (p : Pddl) (printable : IsPrintable p) (steps : List GroundAction) where
  pub printed-plans : IsPlanOf (domain_text p) (problem_text p) steps ↔ IsPlan p steps
  printed-plans = (
    λ e. (spelled-plans e.0 p (domain_text p) (problem_text p) e.1 (printed_spells p printable) steps).0 e.2,
    λ e. (p, printed_spells p printable, e),
  )

  pub printed-executables : IsExecutableOf (domain_text p) (problem_text p) steps ↔ IsExecutable p steps
  printed-executables = (
    λ e. spelled-executables e.0 p (domain_text p) (problem_text p) e.1 (printed_spells p printable) steps e.2,
    λ e. (p, printed_spells p printable, e),
  )
