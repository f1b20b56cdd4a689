-- The steps that spell a run as a stack are those of the plan, with the given number of cells, or as many as the width.
use Rattle.std.proofs.Common.{ℕ, ◌≤◌, List, Result, Ok, Err, IfOk, IfSome, Option, Some, None, refl, sym, subst, arith}
use Rattle.htn_base.specs.Limits.{most_slots}
use Rattle.htn_base.specs.declared.memory.Memory.{Memory}
use Rattle.plan_model.specs.declared.steps.GroundAction.{GroundAction}
use Rattle.plan_model.specs.declared.values.Compiled.{Compiled}
use Rattle.plan_model.specs.task_networks.Tree.{Tree, Address}
use Rattle.plan_model.specs.plan_meaning.Network.{network}
use Rattle.plan_texts.specs.SoundlyCompiled.{IsSoundlyCompiled}
use Rattle.hplan_text.specs.declared.values.HPlan.{HPlan}
use Rattle.tree_core.specs.declared.growth.Scheduled.{Scheduled}
use Rattle.plan_placer.specs.Placing.{IsPlacedRun}
use Rattle.stack_encoding.specs.StackSpelling.{IsStackSpelling}
use Rattle.stack_speller.specs.StackSpelled.{IsSpelledBy}
use Rattle.stack_speller.specs.StackSpelled as spelled
use Rattle.step_texts.specs.declared.text.StepText.{StepText}
use Rattle.step_texts.specs.declared.text.StepText.TheVariants.{Whole, TooLong, NoMatch, NotExecutable, GoalFalse, NoPlacement}
use Rattle.step_texts.specs.declared.text.StepText.TheVariants.{NeedsBound, TooWide}
use Rattle.step_texts.specs.StepTexts.{steps_text, slots_for, slots_tried, IsTextOfSteps}
use Rattle.step_texts.specs.StackTexts.{IsStackSpelled, IsStackTextOf, IsStackText, IsStackRunText}
use Rattle.step_texts.proofs.Texts.{is_finished, has_width}

-- more cells spell it too
pub with_more : (c : Compiled) (tree : Tree (network c)) (order : List Address) (cell : Address → ℕ) (n w : ℕ) (steps : List GroundAction)
    → w ≤ n → IsStackSpelling c w steps tree order cell → IsStackSpelling c n steps tree order cell
with_more c tree order cell n w steps l (acts, s, e) = (
  acts,
  record {
    spells = record {
      front = s.spells.front;
      root = s.spells.root;
      range = λ p a. ((s.spells.range p a).0, (let m = (s.spells.range p a).1 in omega arith));
      heirs = s.spells.heirs;
      apart = s.spells.apart;
      spelled = s.spells.spelled;
    };
    cells = s.cells;
  },
  e,
)

module _ (c : Compiled) (sound : IsSoundlyCompiled c) (plan : HPlan) (run : Scheduled) (placed : IsPlacedRun c plan run) where
  module _ (w : ℕ) (steps : List GroundAction) where
    with_cells : (cells n : ℕ) → n ≤ most_slots → w ≤ n → IsSpelledBy c cells w steps placed.0 placed.1 → IsStackSpelled c plan n w steps
    with_cells cells n few l by = record {
      tree = placed.0;
      order = placed.1;
      placed = placed.2;
      width_is = by.width_is;
      within = l;
      few = few;
      cell = by.cell;
      spelling = with_more c placed.0 placed.1 by.cell n w steps l by.spelling;
    }

    is_spelled : (g : Option ℕ) → IfSome g (λ n. n ≤ most_slots) → IsSpelledBy c (slots_tried g) w steps placed.0 placed.1
        → IsStackSpelled c plan (slots_for g w) w steps
    is_spelled (Some n) f by = with_cells n n f by.within by
    is_spelled None f by = with_cells most_slots w by.within (omega arith) by

  module _ (given : Option ℕ) (few : IfSome given (λ n. n ≤ most_slots)) where
    is_text : (w : ℕ) (steps : List GroundAction) → spelled.IsSpelled c run (slots_tried given) w steps
        → IsStackTextOf c plan given (steps_text w steps)
    is_text w steps is = (w, steps, is_spelled w steps given few (is placed.0 placed.1 (is_finished c sound plan run placed)), refl)

    pub is_stack_text : (most : ℕ) (r : Result StepText Memory) → IfOk r (IsStackRunText c run given most)
        → IfOk r (IsStackText c plan given most)
    is_stack_text most (Ok (Whole text)) (w, steps, is, h) = (subst (IsStackTextOf c plan given) (sym h.0) (is_text w steps is), h.1)
    is_stack_text most (Ok (TooLong n)) (w, steps, is, h) = (steps_text w steps, is_text w steps is, h.0, h.1)
    is_stack_text most (Ok (NoMatch id)) h = absurd h
    is_stack_text most (Ok (NotExecutable id)) h = absurd h
    is_stack_text most (Ok GoalFalse) h = absurd h
    is_stack_text most (Ok NoPlacement) h = absurd h
    is_stack_text most (Ok (NeedsBound w)) (is, more) = (has_width c sound plan run placed w is, more)
    is_stack_text most (Ok (TooWide w)) (is, none, more) = (has_width c sound plan run placed w is, none, more)
    is_stack_text most (Err m) h = tt

-- what is printed for a run that is spelled
pub is_run_text : (c : Compiled) (run : Scheduled) (given : Option ℕ) (w : ℕ) (steps : List GroundAction)
    → spelled.IsSpelled c run (slots_tried given) w steps → (most : ℕ) (r : Result StepText Memory) → IfOk r (IsTextOfSteps w steps most)
    → IfOk r (IsStackRunText c run given most)
is_run_text c run given w steps is most (Ok (Whole text)) h = (w, steps, is, h)
is_run_text c run given w steps is most (Ok (TooLong n)) h = (w, steps, is, h)
is_run_text c run given w steps is most (Ok (NoMatch id)) h = absurd h
is_run_text c run given w steps is most (Ok (NotExecutable id)) h = absurd h
is_run_text c run given w steps is most (Ok GoalFalse) h = absurd h
is_run_text c run given w steps is most (Ok NoPlacement) h = absurd h
is_run_text c run given w steps is most (Ok (NeedsBound v)) h = absurd h
is_run_text c run given w steps is most (Ok (TooWide v)) h = absurd h
is_run_text c run given w steps is most (Err m) h = tt
