-- How the parts of a placement meet: the lines, the tree and the history of its primitives.
use Rattle.std.proofs.Common.{◌≡◌, List, Option, Result, sym, subst}
use Rattle.std.specs.Result.{IfErr, IsErrAnd}
use Rattle.std.proofs.lemmas.Result.{err_from_is_err_and}
use Rattle.plan_texts.specs.SoundlyCompiled.{IsSoundlyCompiled}
use Rattle.plan_model.specs.declared.values.Compiled.{Compiled}
use Rattle.hplan_text.specs.declared.values.HPlan.{HPlan}
use Rattle.plan_encoder.specs.Laws.{HasTree}
use Rattle.state_history.specs.declared.history.History.{History}
use Rattle.numbered_lines.specs.declared.lines.Said.{Said}
use Rattle.numbered_lines.specs.declared.lines.Lines.{Lines}
use Rattle.numbered_lines.specs.Numbered.{AreNumbered}
use Rattle.plan_trees.specs.declared.plan_tree.PlanTree.{PlanTree}
use Rattle.plan_trees.specs.PlanTrees.{IsPlanTree}
use Rattle.plan_placer.specs.declared.place_error.PlaceError.{PlaceError}
use Rattle.plan_placer.specs.Executed.{Reach, AreStopped}
use Rattle.plan_placer.specs.Scheduling.{IsReached}
use Rattle.plan_placer.specs.Placing.{RefusesPlace}
use Rattle.plan_placer.proofs.StepLabels.{AreAll, step_labels}
use Rattle.plan_placer.proofs.Refusals.{refused}

-- an error that is passed on
pub passed_on : {T E : Type 0} (r : Result T E) (P : E → Type 0) (e : E) → IsErrAnd r (λ y. y ≡ e) → P e → IfErr r P
passed_on r P e is h =
    let (y, at, same) = err_from_is_err_and r is in
    subst (λ z. IfErr z P) (sym at) (subst P (sym same) h)

module _ (c : Compiled) (s : IsSoundlyCompiled c) (plan : HPlan) (lines : Lines) (n : AreNumbered c plan lines) (made : PlanTree)
    (t : IsPlanTree c plan made) (steps : List (Option Said)) (are : steps ≡ lines.steps) where
  all : AreAll c s plan t.tree t.node t.of_plan plan.primitives lines.steps
  all = step_labels c s plan t.tree t.node t.of_plan lines.steps n.steps_are

  has : HasTree c plan t.tree t.node all.all
  has = record { of_plan = t.of_plan; are_labels = all.at }

  pub is_reached : (history : History) → Reach c steps history → IsReached c made history plan
  is_reached history r = record {
    tree = t.tree;
    node = t.node;
    done = all.all;
    has = has;
    rows = t.rows;
    places = t.actions_are;
    reached = (subst (λ (z : List (Option Said)). Reach c z history) are r) all.all all.are;
  }

  pub is_refused : (error : PlaceError) → AreStopped c plan steps error → RefusesPlace c plan error
  is_refused error r = refused c plan t.tree t.node all.all has error
      ((subst (λ (z : List (Option Said)). AreStopped c plan z error) are r) all.all all.are)
