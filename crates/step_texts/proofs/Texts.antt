-- The steps of a run that is placed are those of the plan, and fewer slots, as many as the width, spell it with the same acts.
use Rattle.std.proofs.Common.{ℕ, ◌≡◌, ◌≤◌, ◌∙◌, List, [], length, Result, Ok, Err, IfOk, IfSome, Option, Some, None}
use Rattle.std.proofs.Common.{refl, ap, sym, subst, arith}
use Rattle.htn_base.specs.Limits.{most_slots}
use Rattle.htn_base.specs.declared.memory.Memory.{Memory}
use Rattle.plan_model.specs.declared.steps.GroundAction.{GroundAction}
use Rattle.plan_model.specs.declared.values.Compiled.{Compiled}
use Rattle.plan_model.specs.task_networks.Net.{Net}
use Rattle.plan_model.specs.task_networks.Lawful.{IsLawful}
use Rattle.plan_model.specs.task_networks.Tree.{Tree, Label, waits, ran, used, Address, label_at, IsProcessed}
use Rattle.plan_model.specs.task_networks.Pending.{IsWidth}
use Rattle.plan_model.specs.task_networks.Preorder.{preorder}
use Rattle.plan_model.specs.task_networks.Spelling.{Act}
use Rattle.plan_model.specs.plan_meaning.Network.{network}
use Rattle.plan_model.specs.plan_meaning.Solution.{top_work}
use Rattle.plan_model.proofs.plan_meaning.CompiledNetworks.{prepared}
use Rattle.plan_model.proofs.task_networks.Different.{no_more}
use Rattle.plan_model.proofs.task_networks.Nodes.{lists_address, different_nodes, nodes}
use Rattle.plan_model.proofs.task_networks.ScheduleLaws.{prepared_is_lawful}
use Rattle.plan_texts.specs.SoundlyCompiled.{IsSoundlyCompiled}
use Rattle.hplan_text.specs.declared.values.HPlan.{HPlan}
use Rattle.hplan_text.proofs.ShownOnce.{order_once}
use Rattle.schedules.specs.ruled.FirstFreeLaws.{SpellsLowest}
use Rattle.schedules.proofs.ruled.FirstFree.{lowest_exactly_where_within}
use Rattle.schedules.proofs.ruled.LowestOnly.{lowest_are_the_only_ones}
use Rattle.tree_core.specs.declared.growth.Scheduled.{Scheduled}
use Rattle.tree_core.specs.Labels.{labels, labelled}
use Rattle.tree_core.proofs.Labelled.{preorder-labelled}
use Rattle.tree_core.proofs.Siblings.{as_many as as_many_rows}
use Rattle.slot_speller.specs.Spelled.{IsFinishedRun, IsSpelledBy}
use Rattle.slot_speller.specs.Spelled as spelled
use Rattle.slot_speller.proofs.Settings.{as_many}
use Rattle.placements.proofs.PlacedPlans.{placed_are_solutions}
use Rattle.plan_placer.specs.Placing.{IsPlacedRun}
use Rattle.step_texts.specs.declared.count.StepCount.{StepCount}
use Rattle.step_texts.specs.declared.count.StepCount.TheVariants as count
use Rattle.step_texts.specs.declared.text.StepText.{StepText}
use Rattle.step_texts.specs.declared.text.StepText.TheVariants.{Whole, TooLong, NoMatch, NotExecutable, GoalFalse, NoPlacement}
use Rattle.step_texts.specs.declared.text.StepText.TheVariants.{NeedsBound, TooWide}
use Rattle.step_texts.specs.StepTexts.{steps_text, slots_for, slots_tried, HasWidth, IsSpelled, IsTextOf, IsStepText, IsStepCount}
use Rattle.step_texts.specs.StepTexts.{IsTextOfSteps, IsRunText, IsRunCount}

-- lowest slots are spelled with as many slots as the order is wide
pub with_width : (N : Net) → IsLawful N → (b w : ℕ) (top : N.Work) (acts : List (Act N)) (tree : Tree N) (order : List Address)
    (slot : Address → ℕ) → SpellsLowest N b top acts tree order slot → IsWidth N w tree order → SpellsLowest N w top acts tree order slot
with_width N law b w top acts tree order slot low width =
    let found = (lowest_exactly_where_within N law w top tree order low.spells.front).0 width.within in
    let same = lowest_are_the_only_ones N top tree order slot found.1 low.spells.front low.lowest found.2.lowest in
    record {
      spells = record {
        front = low.spells.front;
        root = low.spells.root;
        range = λ p a. ((low.spells.range p a).0, subst (λ x. x ≤ w) (sym (same p a)) (found.2.spells.range p a).1);
        heirs = low.spells.heirs;
        apart = low.spells.apart;
        spelled = low.spells.spelled;
      };
      lowest = low.lowest;
    }

module _ (c : Compiled) (sound : IsSoundlyCompiled c) (plan : HPlan) (run : Scheduled) (placed : IsPlacedRun c plan run) where
  abbrev N : Net
  N = network c

  law : IsLawful N
  law = prepared_is_lawful N (prepared sound.problem sound.checks c sound.ordered sound.compiled)

  abbrev tree : Tree N
  tree = placed.0

  abbrev order : List Address
  order = placed.1

  pub is_finished : IsFinishedRun c run tree order
  is_finished = record {
    stands = placed.3;
    finished =
        (placed_are_solutions c sound.problem sound.checks
        (record { sound = sound.sound; ordered = sound.ordered; compiled = sound.compiled }) plan tree order placed.2).0.finished;
  }

  pub has_width : (w : ℕ) → spelled.IsWidthOf c run w → HasWidth c plan w
  has_width w is = record { tree = tree; order = order; placed = placed.2; width_is = is tree order is_finished }

  is_processed : (p : Address) (l : Label N) → label_at N tree p ≡ Some l → IsProcessed N tree p
  is_processed p (waits w) e = absurd (is_finished.finished.no_leaves p (w, e))
  is_processed p (ran w) e = (ran w, e, tt)
  is_processed p (used m) e = (used m, e, tt)

  -- each node has one place in the order
  pub each_once : length run.order ≡ length run.tree
  each_once =
      let covers = is_finished.finished.front.schedule.covers in
      let few = no_more order (preorder N tree) (order_once c tree order is_finished.finished)
      (λ p a. (let (l, e, t) = (covers p).0 a in lists_address N tree p (l, e))) in
      let all = no_more (preorder N tree) order (different_nodes N tree [])
      (λ p a. (let (l, e) = nodes N tree tree [] p refl a in (covers p).1 (is_processed p l e))) in
      let places = as_many (preorder N tree) run.order order placed.3.places in
      let rows : length run.tree ≡ length (preorder N tree) = ap length placed.3.rows ∙ as_many_rows labels (labelled c tree)
      ∙ ap length (preorder-labelled c tree) in
      omega (arith, few, all, places, rows)

  module _ (w : ℕ) (steps : List GroundAction) where
    -- with the given number of slots
    with_given : (n : ℕ) → n ≤ most_slots → IsSpelledBy c n w steps tree order → IsSpelled c plan n w steps
    with_given n few by = record {
      tree = tree;
      order = order;
      placed = placed.2;
      width_is = by.width_is;
      within = by.within;
      few = few;
      acts = by.acts;
      slot = by.slot;
      lowest = by.lowest;
      steps_are = by.steps_are;
    }

    -- or with as many as the width
    with_own : IsSpelledBy c most_slots w steps tree order → IsSpelled c plan w w steps
    with_own by = record {
      tree = tree;
      order = order;
      placed = placed.2;
      width_is = by.width_is;
      within = omega arith;
      few = by.within;
      acts = by.acts;
      slot = by.slot;
      lowest = with_width N law most_slots w (top_work c) by.acts tree order by.slot by.lowest by.width_is;
      steps_are = by.steps_are;
    }

    is_spelled : (g : Option ℕ) → IfSome g (λ n. n ≤ most_slots) → IsSpelledBy c (slots_tried g) w steps tree order
        → IsSpelled c plan (slots_for g w) w steps
    is_spelled (Some n) f by = with_given n f by
    is_spelled None f by = with_own by

  module _ (given : Option ℕ) (few : IfSome given (λ n. n ≤ most_slots)) where
    is_text : (w : ℕ) (steps : List GroundAction) → spelled.IsSpelled c run (slots_tried given) w steps
        → IsTextOf c plan given (steps_text w steps)
    is_text w steps is = (w, steps, is_spelled w steps given few (is tree order is_finished), refl)

    pub is_step_text : (most : ℕ) (r : Result StepText Memory) → IfOk r (IsRunText c run given most) → IfOk r (IsStepText c plan given most)
    is_step_text most (Ok (Whole text)) (w, steps, is, h) = (subst (IsTextOf c plan given) (sym h.0) (is_text w steps is), h.1)
    is_step_text most (Ok (TooLong n)) (w, steps, is, h) = (steps_text w steps, is_text w steps is, h.0, h.1)
    is_step_text most (Ok (NoMatch id)) h = absurd h
    is_step_text most (Ok (NotExecutable id)) h = absurd h
    is_step_text most (Ok GoalFalse) h = absurd h
    is_step_text most (Ok NoPlacement) h = absurd h
    is_step_text most (Ok (NeedsBound w)) (is, more) = (has_width w is, more)
    is_step_text most (Ok (TooWide w)) (is, none, more) = (has_width w is, none, more)
    is_step_text most (Err m) h = tt

  pub is_step_count : (r : Result StepCount Memory) → IfOk r (IsRunCount c run) → IfOk r (IsStepCount c plan)
  is_step_count (Ok (count.Counted w n)) (steps, is, many) = (steps, with_own w steps (is tree order is_finished), many)
  is_step_count (Ok (count.TooWide w)) (is, more) = (has_width w is, more)
  is_step_count (Ok (count.NoMatch id)) h = absurd h
  is_step_count (Ok (count.NotExecutable id)) h = absurd h
  is_step_count (Ok count.GoalFalse) h = absurd h
  is_step_count (Ok count.NoPlacement) h = absurd h
  is_step_count (Err m) h = tt

-- what is printed for a spelled run
pub is_run_text : (c : Compiled) (run : Scheduled) (given : Option ℕ) (w : ℕ) (steps : List GroundAction)
    → spelled.IsSpelled c run (slots_tried given) w steps → (most : ℕ) (r : Result StepText Memory) → IfOk r (IsTextOfSteps w steps most)
    → IfOk r (IsRunText c run given most)
is_run_text c run given w steps is most (Ok (Whole text)) h = (w, steps, is, h)
is_run_text c run given w steps is most (Ok (TooLong n)) h = (w, steps, is, h)
is_run_text c run given w steps is most (Ok (NoMatch id)) h = absurd h
is_run_text c run given w steps is most (Ok (NotExecutable id)) h = absurd h
is_run_text c run given w steps is most (Ok GoalFalse) h = absurd h
is_run_text c run given w steps is most (Ok NoPlacement) h = absurd h
is_run_text c run given w steps is most (Ok (NeedsBound v)) h = absurd h
is_run_text c run given w steps is most (Ok (TooWide v)) h = absurd h
is_run_text c run given w steps is most (Err m) h = tt
