-- What is proved of printed steps.
use Rattle.std.specs.Prelude.{ℕ, ◌≡◌, ◌≤◌, ◌<◌, ◌^◌, ◌↔◌, List, slice_get, Some}
use Rattle.plan_model.specs.declared.steps.GroundAction.{GroundAction}
use Rattle.plan_model.specs.declared.schemas.MethodPlan.{MethodPlan}
use Rattle.plan_model.specs.declared.values.Compiled.{Compiled}
use Rattle.plan_model.specs.task_networks.Tree.{Tree, Address}
use Rattle.plan_model.specs.task_networks.Spelling.{Act, apply, Spells}
use Rattle.plan_model.specs.plan_meaning.Truth.{State}
use Rattle.plan_model.specs.plan_meaning.Network.{GroundMethod, network, IsMet, IsGroundMethod}
use Rattle.plan_model.specs.plan_meaning.Solution.{top_work, Allows, next}
use Rattle.plan_model.specs.plan_meaning.SpelledPlan.{IsSpelling}
use Rattle.decoding.specs.declared.causes.Why.{Why}
use Rattle.decoding.specs.FailingAct.{AreRead}
use Rattle.decoding.specs.PrintedSteps.{IsNamed, IsReadAs, AreNamedApart, HasSoundChecks, HasSoundSteps, FailsAt, SpellsSolution}

-- a spelling's steps are read as its acts
abbrev pub SpellingsAreRead : Compiled → Type 0
SpellingsAreRead c = (b : ℕ) (steps : List GroundAction) (tree : Tree (network c)) (order : List Address) (slot : Address → ℕ)
    → HasSoundSteps c b
    → IsSpelling c b steps tree order slot
    ↔ ((acts : List (Act (network c))) × AreRead (network c) State (Allows c) (next c) GroundAction (IsNamed c) (IsReadAs c) b steps acts
    × Spells (network c) b (top_work c) acts tree order slot)

-- a list spells a solution, or it fails at one step for one first cause, and not both
pub record IsSolutionOrFails (c : Compiled) (b : ℕ) (steps : List GroundAction) : Type 0 where
  pub one_of : (SpellsSolution c b steps → ⊥) → ((n : ℕ) (why : Why) → FailsAt c b steps n why → ⊥) → ⊥
  pub not_both : (n : ℕ) (why : Why) → SpellsSolution c b steps → FailsAt c b steps n why → ⊥
  pub step : (n m : ℕ) (why because : Why) → FailsAt c b steps n why → FailsAt c b steps m because → n ≡ m
  pub cause : (n m : ℕ) (why because : Why) → FailsAt c b steps n why → FailsAt c b steps m because → why ≡ because

abbrev pub EachIsSolutionOrFails : Compiled → Type 0
EachIsSolutionOrFails c = (b : ℕ) (steps : List GroundAction) → 1 ≤ b → HasSoundSteps c b → IsSolutionOrFails c b steps

-- so steps are read in one way at most where words are apart; a slot is a number of 32 bits
abbrev pub WordsApartAreSound : Compiled → Type 0
WordsApartAreSound c = (b : ℕ) → b < 2 ^ 32 → AreNamedApart c → HasSoundChecks c → HasSoundSteps c b

-- a method that is read has values of its types, so it is ground exactly where its constraints are true and its children's arguments are of
-- the declared types
abbrev pub ReadIsGround : Compiled → Type 0
ReadIsGround c = (b : ℕ) (step : GroundAction) (h : ℕ) (new : List ℕ) (g : GroundMethod) (plan : MethodPlan)
    → IsReadAs c b step (apply h new g)
    → slice_get c.methods g.number ≡ Some plan → IsGroundMethod c g ↔ IsMet c g plan
