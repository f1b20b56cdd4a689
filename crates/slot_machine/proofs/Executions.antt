-- Executions laid over runs and fronts.
use Rattle.std.proofs.Common.{ℕ, ◌≡◌, ◌≤◌, List, map, refl, subst}
use Rattle.plan_model.specs.task_networks.Net.{Net}
use Rattle.plan_model.specs.task_networks.Lawful.{IsLawful}
use Rattle.plan_model.specs.task_networks.Tree.{Label, Tree, Address, IsOpen, waits}
use Rattle.plan_model.specs.task_networks.Executable.{AreLabels, AreAllowed, IsExecutableOrder, IsSolution, last_state}
use Rattle.plan_model.specs.task_networks.Spelling.{Act, Spells, label_of}
use Rattle.slot_machine.specs.Machine.{end_of, start}
use Rattle.slot_machine.specs.Laws.{RunsAreExecutableFronts, PlansAreSpelledSolutions, IsSolutionRun}
use Rattle.slot_machine.proofs.RunSpellings.{runs_iff_spells}
use Rattle.slot_machine.proofs.Theorem.{labels_are_of_acts, tells_front}

module _ (N : Net) (law : IsLawful N) (State : Type 1) (Allows : State → Label N → Type 0) (next : State → Label N → State) (first : State) (Goal : State → Type 0) where
  module _ (b : ℕ) (top : N.Work) (acts : List (Act N)) (tree : Tree N) (order : List Address) (slot : Address → ℕ) (s : Spells N b top acts tree order slot) where
    labels_are : AreLabels N tree order (map (label_of N) acts)
    labels_are = (labels_are_of_acts N b top acts tree order slot (map (label_of N) acts) s).1 refl

    abbrev executable : AreAllowed N State Allows next first (map (label_of N) acts) → IsExecutableOrder N State Allows next first tree order
    executable a = record { labels = map (label_of N) acts; are_labels = labels_are; allowed = a }

    same_labels : (e : IsExecutableOrder N State Allows next first tree order) → e.labels ≡ map (label_of N) acts
    same_labels e = (labels_are_of_acts N b top acts tree order slot e.labels s).0 e.are_labels

    allowed : IsExecutableOrder N State Allows next first tree order → AreAllowed N State Allows next first (map (label_of N) acts)
    allowed e = subst (AreAllowed N State Allows next first) (same_labels e) e.allowed

    no_leaves : ((x : ℕ) → 1 ≤ x → x ≤ b → (end_of N (start N b top) acts).free x) → (p : Address) → IsOpen N tree p → ⊥
    no_leaves f p o =
        let r = s.range p (waits o.0, o.1) in
        (((tells_front N law b top acts tree order slot s).free (slot p)).0 (f (slot p) r.0 r.1)).2 p o refl

    all_free : ((p : Address) → IsOpen N tree p → ⊥) → (x : ℕ) → 1 ≤ x → x ≤ b → (end_of N (start N b top) acts).free x
    all_free n x l h = ((tells_front N law b top acts tree order slot s).free x).1 (l, h, λ p o e. n p o)

  pub runs_are_executable_fronts : RunsAreExecutableFronts N State Allows next first Goal
  runs_are_executable_fronts b top acts h = (
    λ r. (let (tree, order, slot, s) = (runs_iff_spells N law b top h acts).0 r.0 in (tree, order, slot, s, executable b top acts tree order slot s r.1)),
    λ f. (let (tree, order, slot, s, e) = f in ((runs_iff_spells N law b top h acts).1 (tree, order, slot, s), allowed b top acts tree order slot s e)),
  )

  pub plans_are_spelled_solutions : PlansAreSpelledSolutions N State Allows next first Goal
  plans_are_spelled_solutions b top acts h = (to, from)
    where
      to : IsSolutionRun N State Allows next first Goal b top acts → (tree : Tree N) × (order : List Address) × (slot : Address → ℕ) × Spells N b top acts tree order slot × IsSolution N State Allows next top first Goal tree order
      to p =
          let (tree, order, slot, s) = (runs_iff_spells N law b top h acts).0 p.run.0 in
          (tree, order, slot, s, record { finished = record { front = s.front; no_leaves = no_leaves b top acts tree order slot s p.free }; executable = executable b top acts tree order slot s p.run.1; goal = p.goal })

      from : (tree : Tree N) × (order : List Address) × (slot : Address → ℕ) × Spells N b top acts tree order slot × IsSolution N State Allows next top first Goal tree order → IsSolutionRun N State Allows next first Goal b top acts
      from (tree, order, slot, s, g) = record {
        run = ((runs_iff_spells N law b top h acts).1 (tree, order, slot, s), allowed b top acts tree order slot s g.executable);
        free = all_free b top acts tree order slot s g.finished.no_leaves;
        goal = subst (λ z. Goal (last_state N State Allows next first z)) (same_labels b top acts tree order slot s g.executable) g.goal;
      }
