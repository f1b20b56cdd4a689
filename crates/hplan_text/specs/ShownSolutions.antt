-- The hierarchical plan that a list of steps shows: that of the solution whose schedule it spells.
-- Source: this project's, after the translation of Alford et al., "Bound to Plan", ICAPS 2016.
use Rattle.std.specs.Prelude.{ℕ, ◌≡◌, List}
use Rattle.plan_model.specs.declared.steps.GroundAction.{GroundAction}
use Rattle.plan_model.specs.declared.values.Compiled.{Compiled}
use Rattle.plan_model.specs.task_networks.Tree.{Tree, Address}
use Rattle.plan_model.specs.plan_meaning.Network.{network}
use Rattle.plan_model.specs.plan_meaning.Solution.{IsSolution}
use Rattle.plan_model.specs.plan_meaning.SpelledPlan.{IsSpelling}
use Rattle.hplan_text.specs.declared.values.HPlan.{HPlan}
use Rattle.hplan_text.specs.HPlanText.{hplan_text}
use Rattle.hplan_text.specs.ShownPlan.{ShowsHPlan}

module _ (c : Compiled) (b : ℕ) (steps : List GroundAction) where
  -- the steps spell, with b slots, a schedule of a solution tree, and these show the plan
  pub record SpellShown (shown : HPlan) : Type 0 where
    pub tree : Tree (network c)
    pub order : List Address
    pub slot : Address → ℕ
    pub spelled : IsSpelling c b steps tree order slot
    pub solution : IsSolution c tree order
    pub shows : ShowsHPlan c tree order shown

  -- the plan has this text
  abbrev pub HaveText : List ℕ → Type 0
  HaveText text = (shown : HPlan) × SpellShown shown × (text ≡ hplan_text shown)
