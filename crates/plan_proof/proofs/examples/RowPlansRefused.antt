-- Lists of the worked rows that can't be executed in any problem that is printed for them; and the empty list, which is no plan.
use Rattle.std.proofs.Common.{ℕ, ◌≡◌, List, [], ◌∷◌, map, refl, subst, arith}
use Rattle.std.specs.Prelude.{codes}
use Rattle.plan_model.specs.declared.options.Checks.{Checks}
use Rattle.plan_model.specs.declared.options.Checks.TheVariants.{Leaf}
use Rattle.plan_model.specs.declared.steps.GroundAction.{GroundAction}
use Rattle.plan_model.specs.declared.values.Compiled.{Compiled}
use Rattle.plan_model.specs.task_networks.Tree.{Tree, Address, open_leaf, done, split, more, none, ran, used}
use Rattle.plan_model.specs.task_networks.Front.{IsFinished}
use Rattle.plan_model.specs.task_networks.Spelling.{Act, apply, AreActs}
use Rattle.plan_model.proofs.task_networks.Lists.{not-in_empty}
use Rattle.plan_model.specs.plan_meaning.ClassicalPlan.{IsExecutable, IsPlan}
use Rattle.plan_model.specs.plan_meaning.Network.{task, network}
use Rattle.plan_model.specs.plan_meaning.Solution.{top_work, IsSolution, IsExecutableFront}
use Rattle.plan_model.specs.plan_meaning.SpelledPlan.{step_of, IsSpelling}
use Rattle.plan_model.proofs.plan_meaning.examples.CompiledValues.{two_children_is_compiled, seeing_is_compiled}
use Rattle.plan_model.proofs.plan_meaning.examples.SmallestRow.{smallest, ground_0}
use Rattle.plan_model.proofs.plan_meaning.examples.SlotTakenRow.{two_children}
use Rattle.plan_model.proofs.plan_meaning.examples.SlotTakenTwice.{taken_steps, no_spelling}
use Rattle.plan_model.proofs.plan_meaning.examples.WaitingRow.{waiting}
use Rattle.plan_model.proofs.plan_meaning.examples.GuardRow.{guarded}
use Rattle.plan_model.proofs.plan_meaning.examples.RowValues.{uses}
use Rattle.plan_model.proofs.plan_meaning.examples.RowWords.{step, slot_1}
use Rattle.plan_model.proofs.plan_meaning.examples.RowChecks.{front_by, spelling_by}
use Rattle.plan_model.proofs.plan_meaning.examples.AllObjectsSolution as All
use Rattle.plan_model.proofs.plan_meaning.examples.AllObjectsSolution.{half_seen, half_seen_fails}
use Rattle.plan_proof.specs.Headline.{SpellsSolution}
use Rattle.plan_proof.proofs.examples.SoundChecks.{sound_by, ordered_by}
use Rattle.plan_proof.proofs.examples.WaitingRefuted.{begins, splits, ran_p, ran_q, ends, y_waits_for_q, y_waits_for_p}
use Rattle.plan_proof.proofs.examples.GuardRefuted.{b1_steps, b1_is_refused}
use Rattle.plan_proof.proofs.examples.RowPlans.{OfEachPrinted, IsLawfulRow, row_faithful, plain_formulas, seeing_formulas, smallest_row, waiting_row, guard_row}

abbrev pub IsRefused : Compiled → ℕ → List GroundAction → Type 0
IsRefused c b steps = OfEachPrinted c b (λ p. IsExecutable p steps → ⊥)

-- what spells no front is executable in none
refused_by : (mode : Checks) (c : Compiled) (b : ℕ) → IsLawfulRow mode c → (steps : List GroundAction)
    → ((tree : Tree (network c)) (order : List Address) (slot : Address → ℕ) → IsSpelling c b steps tree order slot → ⊥) → IsRefused c b steps
refused_by mode c b row steps never style p printable encoded x =
    let (tree, order, slot, spelled, f) = ((row_faithful mode c b row style p printable encoded).executable steps).0 x in
    never tree order slot spelled

module _ (mode : Checks) (c : Compiled) (b : ℕ) (row : IsLawfulRow mode c) (steps : List GroundAction) (tree : Tree (network c)) (order : List Address) (slot : Address → ℕ) (spelled : IsSpelling c b steps tree order slot) where
  -- a list spells one front: if that one can't be executed, nor can the list
  pub front_refused : (IsExecutableFront c tree order → ⊥) → IsRefused c b steps
  front_refused never style p printable encoded x =
      let f = row_faithful mode c b row style p printable encoded in
      let (other, schedule, by, s, e) = (f.executable steps).0 x in
      let one = f.only_one steps tree other order schedule slot by spelled s in
      never (subst (λ z. IsExecutableFront c z order) one.0 (subst (IsExecutableFront c other) one.1 e))

  -- and if that one is no solution, the list is no plan
  pub no_solution_no_plan : (IsSolution c tree order → ⊥) → OfEachPrinted c b (λ p. IsPlan p steps → ⊥)
  no_solution_no_plan never style p printable encoded x =
      let f = row_faithful mode c b row style p printable encoded in
      let (other, schedule, by, s, e) = (f.plans steps).0 x in
      let one = f.only_one steps tree other order schedule slot by spelled s in
      never (subst (λ z. IsSolution c z order) one.0 (subst (IsSolution c other) one.1 e))

-- m: t -> a, b, with one slot for both children
pub two_children_row : (mode : Checks) → IsLawfulRow mode two_children
two_children_row mode = record { sound = sound_by two_children.hddl refl (plain_formulas two_children.hddl ((refl, refl), ((refl, refl), tt)) refl (refl, tt) refl); compiled = two_children_is_compiled mode; ordered = ordered_by two_children.hddl refl }

pub slot_taken_refused : IsRefused two_children 1 taken_steps
slot_taken_refused = refused_by Leaf two_children 1 (two_children_row Leaf) taken_steps (no_spelling 1 (omega arith))

-- y while q is left, and while p is left
pub waits_for_q_refused : IsRefused waiting 3 (begins ∷ splits ∷ ran_p ∷ ends ∷ [])
waits_for_q_refused = refused_by Leaf waiting 3 (waiting_row Leaf) (begins ∷ splits ∷ ran_p ∷ ends ∷ []) (y_waits_for_q 3 (omega arith))

pub waits_for_p_refused : IsRefused waiting 3 (begins ∷ splits ∷ ran_q ∷ ends ∷ [])
waits_for_p_refused = refused_by Leaf waiting 3 (waiting_row Leaf) (begins ∷ splits ∷ ran_q ∷ ends ∷ []) (y_waits_for_p 3 (omega arith))

-- b1 isn't red
pub guard_refused : IsRefused guarded 1 b1_steps
guard_refused = refused_by Leaf guarded 1 (guard_row Leaf) b1_steps (b1_is_refused 1)

-- (htn_start htn_s1)
abbrev pub begun : List GroundAction
begun = step (codes "htn_start") (codes "htn_s1" ∷ []) ∷ []

-- the empty list spells no solution of any problem: the top task waits
pub no_steps : (c : Compiled) (b : ℕ) → SpellsSolution c b [] → ⊥
no_steps c b (tree, order, slot, (acts, s, e), solution) = go tree order acts solution.finished s.spelled e
  where
    waits : (tree : Tree (network c)) → IsFinished (network c) (top_work c) tree [] → ⊥
    waits (open_leaf w) f = f.no_leaves [] (w, refl)
    waits (done w) f = not-in_empty [] ((f.front.schedule.covers []).1 (ran w, refl, tt))
    waits (split m ts) f = not-in_empty [] ((f.front.schedule.covers []).1 (used m, refl, tt))

    go : (tree : Tree (network c)) (order : List Address) (acts : List (Act (network c))) → IsFinished (network c) (top_work c) tree order → AreActs (network c) tree slot order acts → [] ≡ map (step_of c) acts → ⊥
    go tree [] [] f a e = waits tree f
    go tree (p ∷ order) [] f a e = a
    go tree [] (x ∷ acts) f a e = a
    go tree (p ∷ order) (x ∷ acts) f a e = cc

pub no_plan_without_steps : OfEachPrinted smallest 1 (λ p. IsPlan p [] → ⊥)
no_plan_without_steps style p printable encoded plan = no_steps smallest 1 (((row_faithful Leaf smallest 1 (smallest_row Leaf) style p printable encoded).plans []).0 plan)

-- after the start alone t waits
pub begun_is_no_plan : OfEachPrinted smallest 1 (λ p. IsPlan p begun → ⊥)
begun_is_no_plan = no_solution_no_plan Leaf smallest 1 (smallest_row Leaf) begun tree ([] ∷ []) (λ q. 1) spelled (λ s. s.finished.no_leaves (0 ∷ []) (task 0 [], refl))
  where
    tree : Tree (network smallest)
    tree = split (uses 0) (more (open_leaf (task 0 [])) none)

    spelled : IsSpelling smallest 1 begun tree ([] ∷ []) (λ q. 1)
    spelled = subst (λ z. IsSpelling smallest 1 z tree ([] ∷ []) (λ q. 1)) (λ i. step (codes "htn_start") (slot_1 i ∷ []) ∷ [])
        (spelling_by smallest 1 (apply 1 [] (uses 0) ∷ []) tree ([] ∷ []) (λ q. 1) (front_by smallest refl tree ([] ∷ []) (ground_0, refl, (tt, tt)) refl refl) refl refl ((refl, refl, refl), tt))

-- where o1 alone is seen, a can't run
pub half_seen_row : (mode : Checks) → IsLawfulRow mode half_seen
half_seen_row mode = record { sound = sound_by half_seen.hddl refl (seeing_formulas half_seen.hddl.init); compiled = seeing_is_compiled half_seen.hddl.init mode; ordered = ordered_by half_seen.hddl refl }

pub half_seen_refused : IsRefused half_seen 1 All.steps
half_seen_refused = front_refused Leaf half_seen 1 (half_seen_row Leaf) All.steps (All.tree half_seen.hddl.init) All.order (λ q. 1) (All.spelled half_seen.hddl.init) half_seen_fails
