-- The hierarchical plan that a list of steps of a stack shows: that of the solution that it spells with its cells.
-- Source: this project's. A stack of tasks, as in LL parsing.
use Rattle.std.specs.Prelude.{ℕ, ◌≡◌, List}
use Rattle.plan_model.specs.declared.steps.GroundAction.{GroundAction}
use Rattle.plan_model.specs.declared.values.Compiled.{Compiled}
use Rattle.plan_model.specs.task_networks.Tree.{Tree, Address}
use Rattle.plan_model.specs.plan_meaning.Network.{network}
use Rattle.plan_model.specs.plan_meaning.Solution.{IsSolution}
use Rattle.stack_encoding.specs.StackSpelling.{IsStackSpelling}
use Rattle.hplan_text.specs.declared.values.HPlan.{HPlan}
use Rattle.hplan_text.specs.HPlanText.{hplan_text}
use Rattle.hplan_text.specs.ShownPlan.{ShowsHPlan}

module _ (c : Compiled) (b : ℕ) (steps : List GroundAction) where
  -- the steps spell, with cells 1 to b, the schedule of a solution tree, and these show the plan
  pub record StackShown (shown : HPlan) : Type 0 where
    pub tree : Tree (network c)
    pub order : List Address
    pub cell : Address → ℕ
    pub spelled : IsStackSpelling c b steps tree order cell
    pub solution : IsSolution c tree order
    pub shows : ShowsHPlan c tree order shown

  -- the plan has this text
  abbrev pub HaveStackText : List ℕ → Type 0
  HaveStackText text = (shown : HPlan) × StackShown shown × (text ≡ hplan_text shown)
