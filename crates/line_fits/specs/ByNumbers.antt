-- Which ground methods fit the lines of a plan, by the numbers of the lines.
-- Source: this project's.
use Rattle.std.specs.Prelude.{ℕ, ◌≡◌, ◌++◌, map, MatchBool, MatchOption, Bool, List, Option, Some, None, slice_get, take}
use Rattle.std.specs.Option.{option_map}
use Rattle.plan_texts.specs.Together.{Together}
use Rattle.plan_model.specs.declared.values.Compiled.{Compiled}
use Rattle.plan_model.specs.plan_meaning.Network.{Work, action, task, GroundMethod}
use Rattle.method_fits.specs.declared.subtask.Subtask.{Subtask}
use Rattle.method_fits.specs.Subtasks.{said_work}
use Rattle.method_fits.specs.Fits.{Decomposes}
use Rattle.numbered_lines.specs.declared.lines.Said.{Said}
use Rattle.numbered_lines.specs.declared.lines.Split.{Split}
use Rattle.numbered_lines.specs.declared.lines.Lines.{Lines}
use Rattle.line_fits.specs.declared.fitted.FitError.{FitError}
use Rattle.line_fits.specs.declared.fitted.FitError.TheVariants.{NoMatch, Memory}
use Rattle.line_fits.specs.declared.fitted.MethodFit.{MethodFit}
use Rattle.line_fits.specs.declared.wanted.Wanted.{Wanted}
use Rattle.line_fits.specs.Fitted.{method_of}

abbrev pub step_work : Option Said → Option Work
step_work = option_map (λ (s : Said). action s.number s.objects)

abbrev pub split_work : Split → Option Work
split_work split = option_map (λ (s : Said). task s.number s.objects) split.task

-- a ground method that does it, or none does
abbrev pub IsTheFit : (GroundMethod → Type 0) → Option MethodFit → Type 0
IsTheFit Does found = MatchOption found ((g : GroundMethod) → Does g → ⊥) (λ fit. Does (method_of fit))

module _ (lines : Lines) where
  -- the work that each line says, where it says one
  abbrev pub all_works : List (Option Work)
  all_works = map step_work lines.steps ++ map split_work lines.splits

  abbrev pub IsWorkAt : ℕ → Work → Type 0
  IsWorkAt place w = slice_get all_works place ≡ Some (Some w)

  abbrev pub AreWorksAt : List ℕ → List Work → Type 0
  AreWorksAt = Together IsWorkAt

  -- the subtask that the line at the place says, or it says none
  abbrev pub IsTheSubtask : ℕ → Option Subtask → Type 0
  IsTheSubtask place found = MatchOption found ((w : Work) → IsWorkAt place w → ⊥) (λ subtask. IsWorkAt place (said_work subtask))

  -- the works that the lines at these places say, or one of them says none
  abbrev pub AreTheWorks : List ℕ → Bool → List Work → Type 0
  AreTheWorks places all works = MatchBool all (AreWorksAt places works) ((others : List Work) → AreWorksAt places others → ⊥)

  module _ (c : Compiled) where
    -- the ground method is one of method m, and decomposes the task into what the lines at these places say
    pub record Splits (m t : ℕ) (objects places : List ℕ) (g : GroundMethod) : Type 0 where
      pub number : g.number ≡ m
      pub works : List Work
      pub said : AreWorksAt places works
      pub decomposes : Decomposes c g (task t objects) works

    abbrev pub IsWanted : Wanted → GroundMethod → Type 0
    IsWanted wanted = Splits wanted.method wanted.task wanted.objects.now wanted.children.now

    -- it is one of the line's method, and decomposes the line's task so
    abbrev pub FitsSplit : Split → GroundMethod → Type 0
    FitsSplit split g = (m : ℕ) × (split.method ≡ Some m) × (s : Said) × (split.task ≡ Some s)
        × Splits m s.number s.objects split.children g

    abbrev pub AreSplitFits : List Split → List MethodFit → Type 0
    AreSplitFits = Together (λ split fit. FitsSplit split (method_of fit))

    -- the lines before this place are fitted, and no ground method fits the line there
    pub record IsFirstUnfit (place : ℕ) : Type 0 where
      pub fits : List MethodFit
      pub before : AreSplitFits (take place lines.splits) fits
      pub split : Split
      pub here : slice_get lines.splits place ≡ Some split
      pub unfit : (g : GroundMethod) → FitsSplit split g → ⊥

    abbrev pub RefusesSplits : FitError → Type 0
    RefusesSplits (NoMatch None) = ⊥
    RefusesSplits (NoMatch (Some place)) = IsFirstUnfit place
    RefusesSplits Memory = Unit {0}
