-- What the actions of a plan come to, which have these numbers, as they are executed one after another.
-- Source: this project's; truth and the state after an action as in plan_meaning.
use Rattle.std.specs.Prelude.{ℕ, ◌≡◌, ◌≤◌, Bool, true, false, List, [], ◌∷◌, ◌++◌, length, take, slice_get, Option, Some, None}
use Rattle.plan_texts.specs.Together.{Together}
use Rattle.plan_model.specs.declared.values.Compiled.{Compiled}
use Rattle.plan_model.specs.task_networks.Tree.{Label, ran}
use Rattle.plan_model.specs.plan_meaning.Network.{action, network}
use Rattle.plan_model.specs.plan_meaning.Solution.{Allows}
use Rattle.hplan_text.specs.declared.values.HLine.{HLine}
use Rattle.hplan_text.specs.declared.values.HPlan.{HPlan}
use Rattle.state_history.specs.declared.history.History.{History}
use Rattle.state_history.specs.Histories.{last, state_in, AreSame}
use Rattle.numbered_lines.specs.declared.lines.Said.{Said}
use Rattle.plan_encoder.specs.Laws.{GoalAfter}
use Rattle.placements.specs.Placement.{AreExecutable, state_after}
use Rattle.plan_placer.specs.declared.place_error.PlaceError.{PlaceError}
use Rattle.plan_placer.specs.declared.place_error.PlaceError.TheVariants.{NoMatch, NotExecutable, GoalFalse, NoPlacement, Memory}

module _ (c : Compiled) where
  -- the label of the action with these numbers
  abbrev pub IsLabelOf : Option Said → Label (network c) → Type 0
  IsLabelOf None l = ⊥
  IsLabelOf (Some s) l = l ≡ ran (action s.number s.objects)

  abbrev pub AreLabelsOf : List (Option Said) → List (Label (network c)) → Type 0
  AreLabelsOf = Together IsLabelOf

  -- the history has the states in the gaps between these, each of which can be executed
  pub record HasStates (labels : List (Label (network c))) (history : History) : Type 0 where
    pub last : last history ≡ length labels
    pub states : (j : ℕ) → j ≤ length labels → AreSame (state_in history j) (state_after c (take j labels))
    pub executable : AreExecutable c labels

  -- it is executed behind these, or its condition is false
  abbrev pub IsExecuted : List (Label (network c)) → Label (network c) → Bool → History → Type 0
  IsExecuted labels label true history = HasStates (labels ++ label ∷ []) history
  IsExecuted labels label false history = Allows c (state_after c labels) label → ⊥

  -- the goal is true after all
  pub record HasReached (labels : List (Label (network c))) (history : History) : Type 0 where
    pub has : HasStates labels history
    pub goal : GoalAfter c labels

  -- all are executed, and the goal is false
  pub record HasMissed (labels : List (Label (network c))) : Type 0 where
    pub executable : AreExecutable c labels
    pub goal : GoalAfter c labels → ⊥

  -- of all labels that the steps have
  abbrev pub Reach : List (Option Said) → History → Type 0
  Reach steps history = (labels : List (Label (network c))) → AreLabelsOf steps labels → HasReached labels history

  module _ (plan : HPlan) where
    -- the line with this id is that of the first whose condition is false
    pub record IsStoppedAt (labels : List (Label (network c))) (id : ℕ) : Type 0 where
      pub before : List (Label (network c))
      pub label : Label (network c)
      pub rest : List (Label (network c))
      pub parts : labels ≡ before ++ label ∷ rest
      pub executable : AreExecutable c before
      pub fails : Allows c (state_after c before) label → ⊥
      pub line : HLine
      pub line_is : slice_get plan.primitives (length before) ≡ Some line
      pub id_is : line.id ≡ id

    -- why the goal is not reached
    abbrev pub IsStopped : List (Label (network c)) → PlaceError → Type 0
    IsStopped labels (NoMatch id) = ⊥
    IsStopped labels (NotExecutable id) = IsStoppedAt labels id
    IsStopped labels GoalFalse = HasMissed labels
    IsStopped labels NoPlacement = ⊥
    IsStopped labels Memory = Unit {0}

    abbrev pub AreStopped : List (Option Said) → PlaceError → Type 0
    AreStopped steps error = (labels : List (Label (network c))) → AreLabelsOf steps labels → IsStopped labels error
