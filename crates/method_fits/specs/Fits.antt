-- A ground method that decomposes a task into subtasks, with the first values with which its method does so.
-- Source: Höller et al., "HDDL", AAAI 2020: methods and their instances; the order of the values is this project's.
use Rattle.std.specs.Prelude.{ℕ, ◌≡◌, ◌↔◌, MatchOption, List, length, Option}
use Rattle.plan_model.specs.declared.values.Compiled.{Compiled}
use Rattle.plan_model.specs.plan_meaning.Network.{Work, GroundMethod, network, IsGroundMethod}
use Rattle.value_choices.specs.Choices.{Agree, Precedes}
use Rattle.method_fits.specs.declared.fit.Fit.{Fit}
use Rattle.plan_encoder.specs.Calls.{subtasks}
use Rattle.method_fits.specs.Subtasks.{with_values}

module _ (c : Compiled) where
  -- the ground method decomposes the task into these subtasks
  pub record Decomposes (g : GroundMethod) (w : Work) (works : List Work) : Type 0 where
    pub ground : IsGroundMethod c g
    pub head : (network c).head g ≡ w
    pub children : subtasks c g ≡ works

  -- with these values the method decomposes the same task into the same subtasks
  pub record SaysTheSame (g : GroundMethod) (values : List ℕ) : Type 0 where
    pub head : (network c).head (with_values g.number values) ≡ (network c).head g
    pub children : subtasks c (with_values g.number values) ≡ subtasks c g

  -- The method of number m decomposes the task so with these values, and with no values before them. What is known of the values is
  -- what the task and the subtasks tell.
  pub record IsFit (m : ℕ) (w : Work) (works : List Work) (fit : Fit) : Type 0 where
    pub fits : Decomposes (with_values m fit.values) w works
    pub first : (values : List ℕ) → Decomposes (with_values m values) w works → Precedes values fit.values → ⊥
    pub known : (values : List ℕ) → length values ≡ length fit.values → Agree fit.known.items values ↔ SaysTheSame
        (with_values m fit.values) values

  -- the fit, or the method decomposes the task so with no values
  abbrev pub IsTheFit : ℕ → Work → List Work → Option Fit → Type 0
  IsTheFit m w works found = MatchOption found ((values : List ℕ) → Decomposes (with_values m values) w works → ⊥) (IsFit m w works)
