-- Which ground methods fit the lines of a plan, and the first line that none fits.
-- Source: this project's.
use Rattle.std.specs.Prelude.{ℕ, ◌≡◌, List, ◌∷◌, ◌++◌, Option, Some, None}
use Rattle.plan_texts.specs.Types.{EachIs}
use Rattle.plan_model.specs.declared.values.Compiled.{Compiled}
use Rattle.plan_model.specs.plan_meaning.Network.{GroundMethod}
use Rattle.hplan_text.specs.declared.values.HNode.{HNode}
use Rattle.hplan_text.specs.declared.values.HPlan.{HPlan}
use Rattle.plan_encoder.specs.Calls.{split_of, lines_of}
use Rattle.plan_encoder.specs.Records as records

module _ (c : Compiled) (plan : HPlan) where
  abbrev pub FitsRoot : GroundMethod → Type 0
  FitsRoot = records.FitsRoot c (lines_of plan)

  abbrev pub FitsNode : HNode → GroundMethod → Type 0
  FitsNode node = records.Fits c (lines_of plan) (split_of node)

  abbrev pub IsFitted : HNode → Type 0
  IsFitted node = (g : GroundMethod) × FitsNode node g

  -- the node behind these is the first that no ground method fits, where one fits the root
  pub record IsFirstUnfitted (before : List HNode) (node : HNode) : Type 0 where
    pub root : (g : GroundMethod) × FitsRoot g
    pub rest : List HNode
    pub parts : plan.nodes ≡ before ++ node ∷ rest
    pub fitted : EachIs IsFitted before
    pub unfitted : (g : GroundMethod) → FitsNode node g → ⊥

  -- none fits the root; or the line with this id is the first that none fits
  abbrev pub IsUnmatched : Option ℕ → Type 0
  IsUnmatched None = (g : GroundMethod) → FitsRoot g → ⊥
  IsUnmatched (Some id) = (before : List HNode) × (node : HNode) × IsFirstUnfitted before node × (node.line.id ≡ id)
