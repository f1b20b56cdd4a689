-- The lines of a hierarchical plan by numbers, or that their words are of nothing in the problem.
-- Source: this project's; the format of plans is that of the hierarchical track of the International Planning Competition 2020 (Behnke, Höller
-- and Bercher).
use Rattle.std.specs.Prelude.{ℕ, suc, ◌≡◌, MatchOption, List, slice_get, Option, Some}
use Rattle.plan_texts.specs.Together.{Together}
use Rattle.plan_model.specs.declared.schemas.MethodPlan.{MethodPlan}
use Rattle.plan_model.specs.declared.values.Compiled.{Compiled}
use Rattle.plan_model.specs.plan_meaning.Network.{Work, action, task}
use Rattle.hplan_text.specs.declared.values.HLine.{HLine}
use Rattle.hplan_text.specs.declared.values.HNode.{HNode}
use Rattle.hplan_text.specs.declared.values.HPlan.{HPlan}
use Rattle.hplan_text.specs.Printable.{task_ids}
use Rattle.hplan_text.specs.ShownPlan.{source_word}
use Rattle.plan_encoder.specs.Calls.{IsKnown, call, call_of}
use Rattle.numbered_lines.specs.declared.lines.Said.{Said}
use Rattle.numbered_lines.specs.declared.lines.Split.{Split}
use Rattle.numbered_lines.specs.declared.lines.Lines.{Lines}

-- the line with the id stands at the place, among these ids
abbrev pub IsAtPlace : List ℕ → ℕ → ℕ → Type 0
IsAtPlace ids place id = slice_get ids place ≡ Some id

module _ (c : Compiled) where
  -- a work of the problem that the line says
  pub record IsSaid (line : HLine) (w : Work) : Type 0 where
    pub known : IsKnown c w
    pub says : call c w ≡ call_of line

  -- it is that of this kind with this number and these objects, or the line says none of this kind
  abbrev pub AreSaid : (ℕ → List ℕ → Work) → HLine → Option Said → Type 0
  AreSaid work line found = MatchOption found
      ((n : ℕ) (objects : List ℕ) → IsSaid line (work n objects) → ⊥)
      (λ s. IsSaid line (work s.number s.objects))

  -- the method of this number, other than the top one, has the name
  abbrev pub IsMethodOf : List ℕ → ℕ → Type 0
  IsMethodOf word m = (k : ℕ) × (m ≡ suc k) × ((plan : MethodPlan) × (slice_get c.methods m ≡ Some plan)
      × (source_word c plan.schema.name.number ≡ word))

  abbrev pub IsTheMethod : List ℕ → Option ℕ → Type 0
  IsTheMethod word found = MatchOption found ((m : ℕ) → IsMethodOf word m → ⊥) (IsMethodOf word)

  -- among lines with these ids
  pub record IsSplitOf (ids : List ℕ) (node : HNode) (split : Split) : Type 0 where
    pub task_is : AreSaid task node.line split.task
    pub method_is : IsTheMethod node.method split.method
    pub children_are : Together (IsAtPlace ids) split.children node.ids

  pub record AreNumbered (plan : HPlan) (lines : Lines) : Type 0 where
    pub steps_are : Together (AreSaid action) plan.primitives lines.steps
    pub root_is : Together (IsAtPlace (task_ids plan)) lines.root plan.root
    pub splits_are : Together (IsSplitOf (task_ids plan)) plan.nodes lines.splits
