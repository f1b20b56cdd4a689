-- What the printed problem takes spells executable fronts, and its plans spell solutions: over acts.
use Rattle.std.proofs.Common.{ℕ, ◌≡◌, ◌↔◌, ◌≤◌, List, [], ◌++◌, map, refl, ap, sym, subst, ◌∙◌}
use Rattle.plan_model.specs.declared.options.Style.{Style}
use Rattle.plan_model.specs.declared.formulas.Formula.{Formula}
use Rattle.plan_model.specs.declared.values.Compiled.{Compiled}
use Rattle.plan_model.specs.declared.values.Pddl.{Pddl}
use Rattle.plan_model.specs.task_networks.Net.{Net}
use Rattle.plan_model.specs.task_networks.Tree.{Tree, Address}
use Rattle.plan_model.specs.task_networks.Spelling.{Act, Spells, label_of}
use Rattle.plan_model.specs.task_networks.Executable as Executions
use Rattle.slot_machine.specs.Machine as Machine
use Rattle.slot_machine.specs.Machine.{start}
use Rattle.slot_machine.specs.Laws.{IsSolutionRun, IsExecutableRun}
use Rattle.slot_machine.proofs.Executions.{runs_are_executable_fronts, plans_are_spelled_solutions}
use Rattle.plan_model.specs.plan_meaning.Truth.{State, EachTrue, IsTrueIn}
use Rattle.plan_model.specs.plan_meaning.ClassicalPlan as Printed
use Rattle.plan_model.specs.plan_meaning.Network.{network}
use Rattle.plan_model.specs.plan_meaning.Solution.{Allows, next, top_work, initial, IsGoal, IsExecutableFront, IsSolution}
use Rattle.order_encoder.specs.OrderFormulas.{free_parts}
use Rattle.slot_encoding.specs.EncodedNames.{free_predicate, order_numbers}
use Rattle.slot_encoding.specs.EncodedActions.{source_condition}
use Rattle.plan_model.proofs.plan_meaning.TruthEquations.{truth-And}
use Rattle.slot_encoding.proofs.Pieces.{slot_object}
use Rattle.plan_proof.proofs.machine.Reading.{Reads, LeadsBy}
use Rattle.slot_encoding.proofs.places.Sums.{each-append}
use Rattle.plan_proof.proofs.machine.Atoms.{slot_of}
use Rattle.plan_proof.proofs.machine.Facts.{PiecesMean}
use Rattle.plan_proof.proofs.machine.Freeing.{InT}
use Rattle.plan_proof.proofs.machine.Runs.{leads_iff, reached_first}
use Rattle.slot_encoding.specs.EncodedValue.{atom}

module _ (c : Compiled) (b : ℕ) (style : Style) (p : Pddl) (means : PiecesMean c b style p) (positive : 1 ≤ b) where
  abbrev N : Net
  N = network c

  -- all slots are free
  abbrev AllFree : Machine.SlotState N → Type 0
  AllFree t = (x : ℕ) → 1 ≤ x → x ≤ b → t.free x

  -- the goal: every slot is free, and the source goal is true
  goal_true : (S : State) (t : Machine.SlotState N) (T : State) → Reads c b style p S t T → IsTrueIn (InT c b style p) S p.goal [] ↔ (AllFree t × IsGoal c T)
  goal_true S t T r = (to, from)
    where
      f1 : List Formula
      f1 = source_condition c p.names b style 0 c.hddl.goal

      f2 : List Formula
      f2 = free_parts (order_numbers c p.names b) b 0 style (free_predicate c)

      e : IsTrueIn (InT c b style p) S p.goal [] ≡ EachTrue (IsTrueIn (InT c b style p) S) (f1 ++ f2) []
      e = ap (λ z. IsTrueIn (InT c b style p) S z []) means.encoded.goal ∙ ap (λ z. z []) (truth-And (InT c b style p) S (f1 ++ f2))

      cut : EachTrue (IsTrueIn (InT c b style p) S) (f1 ++ f2) [] ↔ (EachTrue (IsTrueIn (InT c b style p) S) f1 [] × EachTrue (IsTrueIn (InT c b style p) S) f2 [])
      cut = each-append (IsTrueIn (InT c b style p) S) f1 f2 []

      source : EachTrue (IsTrueIn (InT c b style p) S) f1 [] ↔ IsGoal c T
      source = (means.source T S [] r.source).condition c.hddl.goal [] means.fits.goal

      free : EachTrue (IsTrueIn (InT c b style p) S) f2 [] ↔ AllFree t
      free =
          let q = (means.order S []).free (free_predicate c) in (
            λ k x l u. (r.free x).1 ((l, u), q.0 k (slot_object c b style p x) ((slot_of c b style p (slot_object c b style p x)).1 (x, (l, u), refl))),
            λ k. q.1 (λ o s. (let (x, (l, u), f) = (slot_of c b style p o).0 s in subst (λ z. S (atom (free_predicate c) z)) (sym f) ((r.free x).0 (k x l u)).1)),
          )

      to : IsTrueIn (InT c b style p) S p.goal [] → AllFree t × IsGoal c T
      to k = let x = cut.0 (subst (λ z. z) e k) in (free.0 x.1, source.0 x.0)

      from : AllFree t × IsGoal c T → IsTrueIn (InT c b style p) S p.goal []
      from k = subst (λ z. z) (sym e) (cut.1 (source.1 k.1, free.1 k.0))

  -- the acts spell, with b slots, an executable front; a solution
  abbrev pub SpellExecutable : List (Act N) → Type 0
  SpellExecutable acts = (tree : Tree N) × (order : List Address) × (slot : Address → ℕ) × Spells N b (top_work c) acts tree order slot × IsExecutableFront c tree order

  abbrev pub SpellSolution : List (Act N) → Type 0
  SpellSolution acts = (tree : Tree N) × (order : List Address) × (slot : Address → ℕ) × Spells N b (top_work c) acts tree order slot × IsSolution c tree order

  -- from a state that reads as the first one
  module _ (S : State) (reads : Reads c b style p S (start N b (top_work c)) (initial c)) where
    pub acts_executable : (acts : List (Act N)) → LeadsBy c b style p (λ S. Unit {0}) S acts ↔ SpellExecutable acts
    acts_executable acts = (
      λ k. (let (runs, allowed, u) = leads.0 k in let (tree, order, slot, s, e) = fronts.0 (runs, allowed) in (tree, order, slot, s, record { front = s.front; executable = e })),
      λ k. (let (tree, order, slot, s, e) = k in let x = fronts.1 (tree, order, slot, s, e.executable) in leads.1 (x.0, x.1, tt)),
    )
      where
        leads : LeadsBy c b style p (λ S. Unit {0}) S acts ↔ (Machine.Runs N (start N b (top_work c)) acts × Executions.AreAllowed N State (Allows c) (next c) (initial c) (map (label_of N) acts) × Unit {0})
        leads = leads_iff c b style p means positive (λ S. Unit {0}) (λ t T. Unit {0}) (λ S t T r. (λ k. k, λ k. k)) acts S (start N b (top_work c)) (initial c) reads (reached_first c b style p means positive)

        fronts : IsExecutableRun N State (Allows c) (next c) (initial c) (IsGoal c) b (top_work c) acts ↔ ((tree : Tree N) × (order : List Address) × (slot : Address → ℕ) × Spells N b (top_work c) acts tree order slot × Executions.IsExecutableOrder N State (Allows c) (next c) (initial c) tree order)
        fronts = runs_are_executable_fronts N means.lawful State (Allows c) (next c) (initial c) (IsGoal c) b (top_work c) acts positive

    pub acts_plans : (acts : List (Act N)) → LeadsBy c b style p (λ S. IsTrueIn (Printed.InTypeOf p) S p.goal []) S acts ↔ SpellSolution acts
    acts_plans acts = (
      λ k. (let (runs, allowed, ends) = leads.0 k in plans.0 (record { run = (runs, allowed); free = ends.0; goal = ends.1 })),
      λ k. (let x = plans.1 k in leads.1 (x.run.0, x.run.1, (x.free, x.goal))),
    )
      where
        leads : LeadsBy c b style p (λ S. IsTrueIn (Printed.InTypeOf p) S p.goal []) S acts
            ↔ (Machine.Runs N (start N b (top_work c)) acts × Executions.AreAllowed N State (Allows c) (next c) (initial c) (map (label_of N) acts)
            × (AllFree (Machine.end_of N (start N b (top_work c)) acts) × IsGoal c (Executions.last_state N State (Allows c) (next c) (initial c) (map (label_of N) acts))))
        leads = leads_iff c b style p means positive (λ S. IsTrueIn (Printed.InTypeOf p) S p.goal []) (λ t T. AllFree t × IsGoal c T) goal_true acts S (start N b (top_work c)) (initial c) reads (reached_first c b style p means positive)

        plans : IsSolutionRun N State (Allows c) (next c) (initial c) (IsGoal c) b (top_work c) acts ↔ SpellSolution acts
        plans = plans_are_spelled_solutions N means.lawful State (Allows c) (next c) (initial c) (IsGoal c) b (top_work c) acts positive
