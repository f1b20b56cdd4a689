-- A placed plan has one list of steps as a stack, whatever number of cells, and is as wide as with slots.
use Rattle.std.proofs.Common.{ℕ, ◌≡◌, ◌+◌, ◌≤◌, ◌∙◌, List, map, ap, sym, subst, arith}
use Rattle.plan_model.specs.declared.options.Checks.{Checks}
use Rattle.plan_model.specs.declared.steps.GroundAction.{GroundAction}
use Rattle.plan_model.specs.declared.values.Hddl.{Hddl}
use Rattle.plan_model.specs.declared.values.Compiled.{Compiled}
use Rattle.plan_model.specs.plan_meaning.Network.{network}
use Rattle.plan_model.specs.plan_meaning.Solution.{top_work}
use Rattle.plan_model.specs.task_networks.Tree.{Tree, Address}
use Rattle.plan_texts.specs.SoundlyCompiled.{IsSoundlyCompiled}
use Rattle.hplan_text.specs.declared.values.HPlan.{HPlan}
use Rattle.plan_encoder.specs.Laws.{IsOf}
use Rattle.stack_machine.proofs.StackPlans.{one_cells_list}
use Rattle.stack_encoding.specs.StackSpelling.{IsStackSpelling, stack_step}
use Rattle.stack_encoding.specs.TotalOrder.{IsTotallyOrdered}
use Rattle.stack_speller.proofs.Totals.{law, total}
use Rattle.step_texts.specs.StepTexts.{HasWidth, IsSpelled}
use Rattle.step_texts.specs.StackTexts.{IsStackSpelled}
use Rattle.step_texts.proofs.StackTexts.{with_more}
use Rattle.encode_answers.proofs.OnceSpelled.{one_width, its_width}
use Rattle.encode_answers.proofs.OncePlaced.{placed_once}
use Rattle.stack_encode_answers.specs.StackEncodeLaws.{EachIsOneStack, WidthIsThatOfSlots}

pub soundly : (h : Hddl) (mode : Checks) (c : Compiled) → IsOf h mode c → IsSoundlyCompiled c
soundly h mode c of = record { problem = h; checks = mode; sound = of.sound; ordered = of.ordered; compiled = of.compiled }

pub stack_width : (c : Compiled) (plan : HPlan) (cells width : ℕ) (steps : List GroundAction) → IsStackSpelled c plan cells width steps
    → HasWidth c plan width
stack_width c plan cells width steps x = record { tree = x.tree; order = x.order; placed = x.placed; width_is = x.width_is }

module _ (h : Hddl) (mode : Checks) (c : Compiled) (of : IsOf h mode c) (ordered : IsTotallyOrdered c) where
  one_spelling : (b : ℕ) (tree : Tree (network c)) (order following : List Address) (cell second : Address → ℕ) (steps others : List GroundAction)
      → IsStackSpelling c b steps tree order cell → IsStackSpelling c b others tree following second → steps ≡ others
  one_spelling b tree order following cell second steps others (acts, s, e) (acts', s', e') =
      let same = (one_cells_list (network c) (law c (soundly h mode c of)) (total c (soundly h mode c of) ordered) b (top_work c) tree order following
      acts acts' cell second s s').0 in
      e ∙ ap (map (stack_step c)) same ∙ sym e'

  pub one_stack : (plan : HPlan) (cells more w v : ℕ) (steps others : List GroundAction) → IsStackSpelled c plan cells w steps
      → IsStackSpelled c plan more v others → (w ≡ v) × (steps ≡ others)
  one_stack plan cells more w v steps others x y =
      let f = (placed_once h mode c of plan x.tree y.tree x.order y.order x.placed y.placed).0 in
      let a = with_more c x.tree x.order x.cell (cells + more) cells steps (omega arith) x.spelling in
      let b = with_more c y.tree y.order y.cell (cells + more) more others (omega arith) y.spelling in
      let here = subst (λ z. IsStackSpelling c (cells + more) others z y.order y.cell) (sym f) b in (
        one_width h mode c of plan w v (stack_width c plan cells w steps x) (stack_width c plan more v others y),
        one_spelling (cells + more) x.tree x.order y.order x.cell y.cell steps others a here,
      )

pub each_is_one_stack : EachIsOneStack
each_is_one_stack h mode c of ordered plan cells more w v steps others x y = one_stack h mode c of ordered plan cells more w v steps others x y

pub width_is_that_of_slots : WidthIsThatOfSlots
width_is_that_of_slots h mode c of plan cells slots w v steps others x y =
    one_width h mode c of plan w v (stack_width c plan cells w steps x) (its_width h mode c of plan slots v others y)
