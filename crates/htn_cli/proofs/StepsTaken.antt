-- A plan that is checked step by step.
use Rattle.std.proofs.Common.{◌≡◌, ◌∙◌, ℕ, ◌+◌, ◌≤◌, true, false, Some, None, Result, Ok, Err, IfOk, List, [], ◌∷◌, ◌++◌, length, sym, ap, subst, append_assoc, arith}
use Rattle.std.proofs.lemmas.List.{append-nil, length-append}
use Rattle.plan_model.specs.declared.steps.GroundAction.{GroundAction}
use Rattle.plan_model.specs.declared.values.Pddl.{Pddl}
use Rattle.plan_model.specs.plan_meaning.ClassicalPlan.{IsPlan}
use Rattle.plan_model.specs.plan_meaning.FailingStep.{Fails}
use Rattle.ground_state.specs.declared.run.Run.{Run}
use Rattle.plan_model.specs.declared.causes.FailWhy.{FailWhy}
use Rattle.plan_model.specs.declared.causes.FailWhy.TheVariants.{GoalFalse}
use Rattle.plan_model.specs.declared.causes.FailWhy.TheVariants as why
use Rattle.ground_state.specs.Runs.{HasTaken, Takes, Reaches}
use Rattle.htn_cli.specs.declared.checked.Checked.{Checked}
use Rattle.htn_cli.specs.declared.checked.Checked.TheVariants as checked
use Rattle.htn_cli.specs.Checks.{Judges}

-- what a list is among lists of its own length, it is among those of at most so many steps
pub judges-within : (p : Pddl) (most : ℕ) (plan : List GroundAction) → length plan ≤ most → {E : Type 0} (r : Result Checked E)
    → IfOk r (Judges p (length plan) plan) → IfOk r (Judges p most plan)
judges-within p most plan few (Ok checked.Plan) judges = (few, judges.1)
judges-within p most plan few (Ok (checked.TooMany n)) judges = absurd (omega (arith, judges.0, judges.1))
judges-within p most plan few (Ok (checked.Fails n w)) judges = (few, judges.1)
judges-within p most plan few (Err e) judges = judges

module _ (p : Pddl) (most : ℕ) (plan : List GroundAction) where
  -- The steps in front of these are taken, and the next has the number.
  pub record IsCheckedTo (steps : List GroundAction) (number : ℕ) (run : Run) : Type 0 where
    pub few : length plan ≤ most
    pub taken : List GroundAction
    pub whole : plan ≡ taken ++ steps
    pub next : number ≡ length taken + 1
    pub run_is : HasTaken p taken run

  module _ (steps more : List GroundAction) (step : GroundAction) (number : ℕ) (old new : Run) (c : IsCheckedTo steps number old) (e : steps ≡ step ∷ more) where
    pub one-taken : Takes step old new None → IsCheckedTo more (number + 1) new
    one-taken t =
        let b = c.next in
        let d = length-append c.taken (step ∷ []) in
        record {
          few = c.few;
          taken = c.taken ++ step ∷ [];
          whole = c.whole ∙ ap (λ s. c.taken ++ s) e ∙ sym (append_assoc c.taken (step ∷ []) more);
          next = omega arith;
          run_is = t p c.taken c.run_is;
        }

    pub one-fails : (w : FailWhy) → Takes step old new (Some w) → Judges p most plan (checked.Fails number w)
    one-fails w t = (c.few, subst (λ n. Fails p plan n w) (sym c.next) (subst (λ s. Fails p s (length c.taken + 1) w) (sym (c.whole ∙ ap (λ s. c.taken ++ s) e)) (t p c.taken c.run_is more)))

  module _ (steps : List GroundAction) (number : ℕ) (run : Run) (c : IsCheckedTo steps number run) (e : steps ≡ []) where
    all-taken : c.taken ≡ plan
    all-taken = sym (c.whole ∙ ap (λ s. c.taken ++ s) e ∙ append-nil c.taken)

    pub goal-holds : Reaches run true → Judges p most plan checked.Plan
    goal-holds r = (c.few, subst (IsPlan p) all-taken (r p c.taken c.run_is))

    pub goal-fails : Reaches run false → Judges p most plan (checked.Fails number why.GoalFalse)
    goal-fails r = (c.few, subst (λ n. Fails p plan n GoalFalse) (sym c.next) (subst (λ s. Fails p s (length c.taken + 1) GoalFalse) all-taken (r p c.taken c.run_is)))
