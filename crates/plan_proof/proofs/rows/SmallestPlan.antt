-- The smallest problem: start, m, a is the only plan of what is printed for it, however many its slots are.
use Rattle.std.proofs.Common.{ℕ, ◌≡◌, ◌≤◌, List, [], ◌∷◌, map, ap, sym, subst, ◌∙◌, arith}
use Rattle.std.specs.Prelude.{codes}
use Rattle.plan_model.specs.declared.options.Checks.{Checks}
use Rattle.plan_model.specs.declared.options.Style.{Style}
use Rattle.plan_model.specs.declared.networks.Head.TheVariants.{Action}
use Rattle.plan_model.specs.declared.values.Compiled.{Compiled}
use Rattle.plan_model.specs.declared.values.Pddl.{Pddl}
use Rattle.plan_model.specs.task_networks.Net.{Net}
use Rattle.plan_model.specs.task_networks.Spelling.{Act, run, apply}
use Rattle.slot_machine.specs.Machine.{start, Runs, end_of, after_act}
use Rattle.plan_model.specs.plan_meaning.ClassicalPlan.{IsPlan}
use Rattle.plan_model.specs.plan_meaning.Network.{GroundMethod, action, task, network, IsPrimitive, IsGroundMethod}
use Rattle.plan_model.specs.plan_meaning.Solution.{top_work}
use Rattle.plan_model.specs.plan_meaning.SpelledPlan.{step_of, IsSpelling}
use Rattle.plan_model.proofs.plan_meaning.examples.RowValues.{uses}
use Rattle.plan_model.proofs.plan_meaning.examples.RowWords.{step, slot_1}
use Rattle.plan_model.proofs.plan_meaning.examples.SmallestRow as Row
use Rattle.slot_encoding.specs.Printed.{IsPrinted}
use Rattle.plan_proof.proofs.machine.FirstSlot.{some_slot}
use Rattle.plan_proof.proofs.examples.RowPlans.{smallest_row, solution_plan}
use Rattle.plan_proof.specs.Problems.{smallest}
use Rattle.plan_proof.specs.Plans.{start_m_a, IsOnlyPlan}
use Rattle.plan_proof.proofs.rows.OneChild.{begins, moves, first_is, last_is}
use Rattle.plan_proof.proofs.rows.PlanRuns.{plan_runs}
use Rattle.plan_proof.proofs.rows.Methods.{compiled, start_alone, m_alone, heads_are_tasks, start_has_t, m_has_one}

abbrev pub smallest_compiled : Compiled
smallest_compiled = compiled (Action 0)

abbrev N : Net
N = network smallest_compiled

abbrev acts : List (Act N)
acts = apply 1 [] (uses 0) ∷ apply 1 [] (uses 1) ∷ run 1 (action 0 []) ∷ []

-- no method decomposes a
a_is_whole : (g : GroundMethod) → IsGroundMethod smallest_compiled g → N.head g ≡ action 0 [] → ⊥
a_is_whole g ground e = heads_are_tasks (Action 0) g ground (subst IsPrimitive (sym e) tt)

only_run : (b : ℕ) (list : List (Act N)) → Runs N (start N b (top_work smallest_compiled)) list → (end_of N (start N b (top_work smallest_compiled)) list).free 1 → list ≡ acts
only_run b list r f =
    let s = start N b (top_work smallest_compiled) in
    let h = begins N b (top_work smallest_compiled) in
    let (list', e, r', f') = first_is N (uses 0) (task 0 []) (start_has_t (Action 0)) (start_alone (Action 0)) (λ k. k) s h list r f in
    let s' = after_act N s (apply 1 [] (uses 0)) in
    let h' = moves N (uses 0) (task 0 []) (start_has_t (Action 0)) (start_alone (Action 0)) (λ k. k) s h in
    let (list'', e', r'', f'') = first_is N (uses 1) (action 0 []) (m_has_one (Action 0)) (m_alone (Action 0)) (λ k. k) s' h' list' r' f' in
    let h'' = moves N (uses 1) (action 0 []) (m_has_one (Action 0)) (m_alone (Action 0)) (λ k. k) s' h' in
    let e'' = last_is N (action 0 []) a_is_whole (after_act N s' (apply 1 [] (uses 1))) h'' list'' r'' f'' in
    e ∙ ap (λ z. apply 1 [] (uses 0) ∷ z) (e' ∙ ap (λ z. apply 1 [] (uses 1) ∷ z) e'')

in_words : map (step_of smallest_compiled) acts ≡ start_m_a
in_words = λ i. step (codes "htn_start") (slot_1 i ∷ []) ∷ step (codes "htn_m_m") (slot_1 i ∷ []) ∷ step (codes "a") (slot_1 i ∷ []) ∷ []

-- further slots stay free
more_slots : (b : ℕ) → 1 ≤ b → IsSpelling smallest_compiled 1 start_m_a Row.tree Row.order Row.slot → IsSpelling smallest_compiled b start_m_a Row.tree Row.order Row.slot
more_slots b l (list, s, e) = (list, record { front = s.front; root = s.root; range = λ p a. (let k = s.range p a in (k.0, (let m = k.1 in omega arith))); heirs = s.heirs; apart = s.apart; spelled = s.spelled }, e)

module _ (mode : Checks) (b : ℕ) (style : Style) (p : Pddl) (is : IsPrinted smallest mode smallest_compiled b style p) where
  pub only_plan : IsOnlyPlan start_m_a p
  only_plan list = (to, from)
    where
      to : IsPlan p list → list ≡ start_m_a
      to plan = let (list', e, r, f) = plan_runs smallest mode smallest_compiled b style p (smallest_row mode).ordered is list plan in e ∙ (ap (map (step_of smallest_compiled)) (only_run b list' r f) ∙ in_words)

      is_plan : IsPlan p start_m_a
      is_plan = (solution_plan mode smallest_compiled b (smallest_row mode) start_m_a Row.tree Row.order Row.slot (more_slots b (some_slot smallest mode smallest_compiled b style p is) Row.spelled) Row.solution style p is.printable is.encoded).0

      from : list ≡ start_m_a → IsPlan p list
      from e = subst (IsPlan p) (sym e) is_plan
