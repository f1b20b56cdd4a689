-- Solutions that show a plan: over any states that checks and methods leave as they are, these are the schedules that show it
-- with each node in a gap whose state allows it, where the goal is true after the actions.
use Rattle.std.proofs.Common.{ℕ, ◌≡◌, ◌↔◌, List, Some, None, Bool, true, false, cond, refl, ap, sym, subst, ◌∙◌, Contains}
use Rattle.plan_model.specs.task_networks.Net.{Net}
use Rattle.plan_model.specs.task_networks.Tree.{Tree, Label, waits, ran, used, Address, label_at}
use Rattle.plan_model.specs.task_networks.Executable.{AreLabels, last_state, IsSolution}
use Rattle.schedules.specs.latest.Execution.{AllowedAt}
use Rattle.schedules.specs.latest.PlanLines.{PlanLines}
use Rattle.schedules.specs.latest.Shown.{PlanWords, AreTelling, Shows, IsTreeFor, step_nodes, step_of_label}
use Rattle.schedules.specs.latest.ShownLaws.{IsShown}
use Rattle.schedules.proofs.latest.Execution.{executable_is_placed, placed_is_executable, same_end, are_kept}
use Rattle.schedules.proofs.latest.ShownTrees.{in_step_nodes}
use Rattle.schedules.proofs.latest.ShownTheorem.{shown_in_order, shown_is_placed, steps}

module _ (N : Net) (W : PlanWords N) (top : N.Work) (told : AreTelling N W top) (State : Type 1) (Allows : State → Label N → Type 0)
    (next : State → Label N → State)
    (check_keeps : (w : N.Work) → W.is_check w ≡ true → (s : State) → next s (ran w) ≡ s) (method_keeps : (m : N.Method) (s : State) → next s (used m) ≡ s)
    (plan : PlanLines ℕ W.Step W.Split) (tree : Tree N) (node : ℕ → Address) (t : IsTreeFor N W top plan tree node) where
  abbrev actions : List Address
  actions = step_nodes N W node plan

  -- a node that is no action changes nothing
  unchanged : (p : Address) (l : Label N) → (Contains actions p → ⊥) → label_at N tree p ≡ Some l → (s : State) → next s l ≡ s
  unchanged p (waits w) n e s = absurd (t.no_leaves p (w, e))
  unchanged p (used m) n e s = method_keeps m s
  unchanged p (ran w) n e s = go (W.is_check w) refl
    where
      go : (b : Bool) → W.is_check w ≡ b → next s (ran w) ≡ s
      go true f = check_keeps w f s
      go false f = absurd (
          let (k, c, h) = t.of_plan.all_steps p (record { id = p; step = W.step w }) (line f) in
          n (subst (Contains actions) h (in_step_nodes N W tree plan node t.of_plan k c)))
        where
          line : W.is_check w ≡ false → step_of_label N W (label_at N tree p) p ≡ Some (record { id = p; step = W.step w })
          line f = ap (λ z. step_of_label N W z p) e ∙ ap (λ b. cond b None (Some (record { id = p; step = W.step w }))) f

  module _ (first : State) (Goal : State → Type 0) (labels : List (Label N)) (are : AreLabels N tree actions labels) where
    abbrev Allowed : Address → ℕ → Type 0
    Allowed = AllowedAt N State Allows next first tree labels

    pub solutions_that_show : (order : List Address)
        → (IsSolution N State Allows next top first Goal tree order × Shows N W tree plan order)
        ↔ (IsShown N W top Allowed plan tree node order × Goal (last_state N State Allows next first labels))
    solutions_that_show order = (to, from)
      where
        to : IsSolution N State Allows next top first Goal tree order × Shows N W tree plan order
            → IsShown N W top Allowed plan tree node order × Goal (last_state N State Allows next first labels)
        to (s, h) =
            let e = shown_in_order N W top told plan tree node t order s.finished h in
            let p = executable_is_placed N State Allows next tree actions unchanged (steps N W top tree plan node t) first labels are order s.finished.front.schedule e s.executable in
            let k = are_kept N State Allows next tree actions unchanged (steps N W top tree plan node t) first labels are order s.finished.front.schedule e in (
              record { finished = s.finished; shows = h; allowed = p.allowed },
              subst Goal (same_end N State Allows next tree actions unchanged order s.executable.labels labels first s.executable.are_labels k) s.goal,
            )

        from : IsShown N W top Allowed plan tree node order × Goal (last_state N State Allows next first labels)
            → IsSolution N State Allows next top first Goal tree order × Shows N W tree plan order
        from (h, g) =
            let p = shown_is_placed N W top Allowed told plan tree node t order h in
            let x = placed_is_executable N State Allows next tree actions unchanged (steps N W top tree plan node t) first labels are order p.schedule p.primitives p in
            let k = are_kept N State Allows next tree actions unchanged (steps N W top tree plan node t) first labels are order p.schedule p.primitives in (
              record {
                finished = h.finished;
                executable = x;
                goal = subst Goal (sym (same_end N State Allows next tree actions unchanged order x.labels labels first x.are_labels k)) g;
              },
              h.shows,
            )
