-- What the printed problem of a stack takes spells executable fronts with their cells, and its plans spell solutions: over acts.
use Rattle.std.proofs.Common.{ℕ, ◌≡◌, ◌↔◌, ◌≤◌, List, [], ◌∷◌, ◌++◌, map, refl, ap, sym, subst, ◌∙◌, arith}
use Rattle.plan_model.specs.declared.terms.Atom.{Atom}
use Rattle.plan_model.specs.declared.terms.Term.TheVariants.{Obj}
use Rattle.plan_model.specs.declared.formulas.Formula.{Formula}
use Rattle.plan_model.specs.declared.formulas.Formula.TheVariants.{Holds}
use Rattle.plan_model.specs.declared.values.Compiled.{Compiled}
use Rattle.plan_model.specs.declared.values.Pddl.{Pddl}
use Rattle.plan_model.specs.task_networks.Net.{Net}
use Rattle.plan_model.specs.task_networks.Tree.{Tree, Address}
use Rattle.plan_model.specs.task_networks.Executable.{AreAllowed, last_state, AreLabels, IsExecutableOrder}
use Rattle.plan_model.specs.task_networks.Spelling.{Act, label_of}
use Rattle.plan_model.proofs.plan_meaning.TruthEquations.{truth-And, truth-Holds}
use Rattle.plan_model.specs.plan_meaning.Truth.{State, EachTrue, IsTrueIn}
use Rattle.plan_model.specs.plan_meaning.ClassicalPlan as Printed
use Rattle.plan_model.specs.plan_meaning.Network.{network}
use Rattle.plan_model.specs.plan_meaning.Solution.{Allows, next, top_work, initial, IsGoal, IsExecutableFront, IsSolution}
use Rattle.slot_machine.proofs.Theorem.{labels_are_of_acts}
use Rattle.slot_encoding.specs.MethodParts.{condition_part}
use Rattle.slot_encoding.proofs.places.Sums.{each-append}
use Rattle.stack_machine.specs.StackMachine.{StackState, first_stack, StackRuns, end_of_stack, SpellsCells}
use Rattle.stack_machine.specs.StackLaws.{IsStackPlan}
use Rattle.stack_machine.proofs.StackPlans.{stack_runs_are_cells, stack_plans_are_solutions}
use Rattle.stack_encoding.specs.StackNames.{tip_predicate, cell_object}
use Rattle.stack_proof.proofs.machine.StackReading.{Reads, LeadsBy}
use Rattle.stack_proof.proofs.machine.StackFacts.{StackPieces}
use Rattle.stack_proof.proofs.machine.TipRuns.{leads_iff}

module _ (c : Compiled) (b : ℕ) (p : Pddl) (means : StackPieces c b p) (positive : 1 ≤ b) where
  abbrev N : Net
  N = network c

  abbrev InT : ℕ → ℕ → Type 0
  InT = Printed.InTypeOf p

  -- the goal: the tip is cell 0, and the source goal is true
  goal_true : (S : State) (t : StackState N) (T : State) → Reads c b p S t T → IsTrueIn InT S p.goal [] ↔ (t.tip 0 × IsGoal c T)
  goal_true S t T r = (to, from)
    where
      f1 : List Formula
      f1 = condition_part c p.names 0 c.hddl.goal

      low : Atom
      low = record { predicate = tip_predicate c; args = Obj (cell_object c 0) ∷ [] }

      e : IsTrueIn InT S p.goal [] ≡ EachTrue (IsTrueIn InT S) (f1 ++ Holds low ∷ []) []
      e = ap (λ z. IsTrueIn InT S z []) means.encoded.goal ∙ ap (λ z. z []) (truth-And InT S (f1 ++ Holds low ∷ []))

      cut : EachTrue (IsTrueIn InT S) (f1 ++ Holds low ∷ []) [] ↔ (EachTrue (IsTrueIn InT S) f1 [] × EachTrue (IsTrueIn InT S) (Holds low ∷ []) [])
      cut = each-append (IsTrueIn InT S) f1 (Holds low ∷ []) []

      source : EachTrue (IsTrueIn InT S) f1 [] ↔ IsGoal c T
      source = (means.source T S [] r.source).condition c.hddl.goal [] means.fits.goal

      to : IsTrueIn InT S p.goal [] → t.tip 0 × IsGoal c T
      to k =
          let x = cut.0 (subst (λ z. z) e k) in
          ((r.tip 0).1 (omega arith, subst (λ z. z []) (truth-Holds InT S low) x.1.0), source.0 x.0)

      from : t.tip 0 × IsGoal c T → IsTrueIn InT S p.goal []
      from k = subst (λ z. z) (sym e) (cut.1 (source.1 k.1, (subst (λ z. z []) (sym (truth-Holds InT S low)) ((r.tip 0).0 k.0).1, tt)))

  -- the acts spell, with cells 1 to b, an executable front; a solution
  abbrev pub SpellExecutable : List (Act N) → Type 0
  SpellExecutable acts = (tree : Tree N) × (order : List Address) × (cell : Address → ℕ) × SpellsCells N b (top_work c) acts tree order cell × IsExecutableFront c tree order

  abbrev pub SpellSolution : List (Act N) → Type 0
  SpellSolution acts = (tree : Tree N) × (order : List Address) × (cell : Address → ℕ) × SpellsCells N b (top_work c) acts tree order cell × IsSolution c tree order

  -- the labels of a spelled front are those of its acts
  module _ (acts : List (Act N)) (tree : Tree N) (order : List Address) (cell : Address → ℕ) (s : SpellsCells N b (top_work c) acts tree order cell) where
    labels_are : AreLabels N tree order (map (label_of N) acts)
    labels_are = (labels_are_of_acts N b (top_work c) acts tree order cell (map (label_of N) acts) s.spells).1 refl

    same_labels : (e : IsExecutableOrder N State (Allows c) (next c) (initial c) tree order) → e.labels ≡ map (label_of N) acts
    same_labels e = (labels_are_of_acts N b (top_work c) acts tree order cell e.labels s.spells).0 e.are_labels

  -- from a state that reads as the first one
  module _ (S : State) (reads : Reads c b p S (first_stack N (top_work c)) (initial c)) where
    pub acts_executable : (acts : List (Act N)) → LeadsBy c b p (λ S. Unit {0}) S acts ↔ SpellExecutable acts
    acts_executable acts = (to, from)
      where
        leads : LeadsBy c b p (λ S. Unit {0}) S acts ↔ (StackRuns N b (first_stack N (top_work c)) acts × AreAllowed N State (Allows c) (next c) (initial c) (map (label_of N) acts) × Unit {0})
        leads = leads_iff c b p means (λ S. Unit {0}) (λ t T. Unit {0}) (λ S t T r. (λ k. k, λ k. k)) acts S (first_stack N (top_work c)) (initial c) reads

        to : LeadsBy c b p (λ S. Unit {0}) S acts → SpellExecutable acts
        to k =
            let (runs, allowed, u) = leads.0 k in
            let (tree, order, cell, s) = (stack_runs_are_cells N means.lawful means.total b (top_work c) acts positive).0 runs in (
              tree,
              order,
              cell,
              s,
              record { front = s.spells.front; executable = record { labels = map (label_of N) acts; are_labels = labels_are acts tree order cell s; allowed = allowed } },
            )

        from : SpellExecutable acts → LeadsBy c b p (λ S. Unit {0}) S acts
        from (tree, order, cell, s, e) = leads.1 (
          (stack_runs_are_cells N means.lawful means.total b (top_work c) acts positive).1 (tree, order, cell, s),
          subst (AreAllowed N State (Allows c) (next c) (initial c)) (same_labels acts tree order cell s e.executable) e.executable.allowed,
          tt,
        )

    pub acts_plans : (acts : List (Act N)) → LeadsBy c b p (λ S. IsTrueIn (Printed.InTypeOf p) S p.goal []) S acts ↔ SpellSolution acts
    acts_plans acts = (
      λ k. (let (runs, allowed, ends) = leads.0 k in plans.0 (record { run = runs; allowed = allowed; empty = ends.0; goal = ends.1 })),
      λ k. (let x = plans.1 k in leads.1 (x.run, x.allowed, (x.empty, x.goal))),
    )
      where
        leads : LeadsBy c b p (λ S. IsTrueIn (Printed.InTypeOf p) S p.goal []) S acts
            ↔ (StackRuns N b (first_stack N (top_work c)) acts × AreAllowed N State (Allows c) (next c) (initial c) (map (label_of N) acts)
            × ((end_of_stack N (first_stack N (top_work c)) acts).tip 0 × IsGoal c (last_state N State (Allows c) (next c) (initial c) (map (label_of N) acts))))
        leads = leads_iff c b p means (λ S. IsTrueIn (Printed.InTypeOf p) S p.goal []) (λ t T. t.tip 0 × IsGoal c T) goal_true acts S (first_stack N (top_work c)) (initial c) reads

        plans : IsStackPlan N State (Allows c) (next c) (initial c) (IsGoal c) b (top_work c) acts ↔ SpellSolution acts
        plans = stack_plans_are_solutions N means.lawful means.total State (Allows c) (next c) (initial c) (IsGoal c) b (top_work c) acts positive
