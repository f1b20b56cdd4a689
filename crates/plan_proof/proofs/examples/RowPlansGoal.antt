-- A goal that stays false: m: t -> a with t on top and the goal (g), which nothing makes true. The list of the smallest problem is executable in every
-- problem that is printed for it, and is a plan of none.
use Rattle.std.proofs.Common.{List, [], ◌∷◌, ◌++◌, inl, inr, refl, subst}
use Rattle.std.specs.Prelude.{codes}
use Rattle.plan_model.specs.declared.terms.Atom.{Atom}
use Rattle.plan_model.specs.declared.formulas.Formula.TheVariants.{Holds}
use Rattle.plan_model.specs.declared.options.Checks.{Checks}
use Rattle.plan_model.specs.declared.options.Checks.TheVariants.{Leaf}
use Rattle.plan_model.specs.declared.values.Compiled.{Compiled}
use Rattle.plan_model.specs.task_networks.Tree.{Tree, Label, split, more, done, none, ran, used}
use Rattle.plan_model.specs.task_networks.Front.{IsFront}
use Rattle.plan_model.specs.task_networks.Executable.{last_state}
use Rattle.plan_model.specs.task_networks.Spelling.{apply, run}
use Rattle.plan_model.proofs.task_networks.Lists.{not-in_empty}
use Rattle.plan_texts.specs.SpellsHddl.{hddl_words}
use Rattle.plan_texts.specs.SoundValue.{arities}
use Rattle.plan_model.specs.plan_meaning.ClassicalPlan.{IsExecutable, IsPlan}
use Rattle.plan_model.specs.plan_meaning.Compilation.{IsCompiled}
use Rattle.plan_model.specs.plan_meaning.Truth.{State, ground, IsTrueIn, after}
use Rattle.plan_model.specs.plan_meaning.Network.{action, InTypeOf, network, IsGroundMethod}
use Rattle.plan_model.specs.plan_meaning.Solution.{top_work, initial, Allows, next, IsGoal, IsSolution, IsExecutableFront}
use Rattle.plan_model.specs.plan_meaning.SpelledPlan.{IsSpelling}
use Rattle.plan_model.proofs.plan_meaning.TruthEquations.{truth-Holds}
use Rattle.plan_model.proofs.plan_meaning.EffectEquations.{adds-And}
use Rattle.plan_model.proofs.plan_meaning.examples.TruthExamples.{to}
use Rattle.plan_model.proofs.plan_meaning.examples.PlanKinds.{plain, none_rise}
use Rattle.plan_model.proofs.plan_meaning.examples.RowValues.{always, nothing, problem, task_schema, action_schema, uses}
use Rattle.plan_model.proofs.plan_meaning.examples.RowWords.{step, slot_1}
use Rattle.plan_model.proofs.plan_meaning.examples.RowChecks.{always_true, untested, same_labels, ground_by, front_by, spelling_by}
use Rattle.plan_model.proofs.plan_meaning.examples.SmallestRow.{smallest, smallest_names, smallest_top, smallest_method, order, steps}
use Rattle.plan_proof.proofs.examples.SoundChecks.{HasSoundFormulas, sound_by, ordered_by, sound-Holds}
use Rattle.plan_proof.proofs.examples.RowPlans.{OfEachPrinted, IsLawfulRow, sound_always, sound_nothing, front_executable}
use Rattle.plan_proof.proofs.examples.RowPlansRefused.{no_solution_no_plan}

abbrev wanted : Atom
wanted = record { predicate = 0; args = [] }

abbrev pub wanting : Compiled
wanting = record {
  hddl = record (problem (smallest_names ++ codes "g" ∷ []) (record { name = record { number = 7 }; params = [] } ∷ []) (task_schema 4 ∷ []) (action_schema 5 always nothing ∷ []) (smallest_method ∷ []) smallest_top) { goal = Holds wanted };
  methods = smallest.methods;
}

compiled : (mode : Checks) → IsCompiled wanting.hddl mode wanting
compiled mode = record {
  hddl = refl;
  methods = (
    plain wanting.hddl mode _ _ refl refl refl (record { schema = refl; up = tt; line = refl; heir = refl; copiers = refl; rising = none_rise; guards = ([], refl, refl) }),
    (plain wanting.hddl mode _ _ refl refl refl (record { schema = refl; up = tt; line = refl; heir = refl; copiers = refl; rising = none_rise; guards = ([], refl, refl) }), tt),
  );
}

pub wanting_row : (mode : Checks) → IsLawfulRow mode wanting
wanting_row mode = record { sound = sound_by wanting.hddl refl formulas; compiled = compiled mode; ordered = ordered_by wanting.hddl refl }
  where
    formulas : HasSoundFormulas wanting.hddl
    formulas =
        let a = sound_always wanting.hddl [] in
        record { pre = (a, tt); eff = (sound_nothing wanting.hddl [], tt); top = a; methods = (a, tt); goal = sound-Holds (hddl_words wanting.hddl) (arities wanting.hddl) [] wanted refl }

abbrev tree : Tree (network wanting)
tree = split (uses 0) (more (split (uses 1) (more (done (action 0 [])) none)) none)

ground_0 : IsGroundMethod wanting (uses 0)
ground_0 = ground_by wanting (uses 0) _ refl tt tt (([], (_, refl, refl), tt), tt)

ground_1 : IsGroundMethod wanting (uses 1)
ground_1 = ground_by wanting (uses 1) _ refl tt tt (([], (_, refl, refl), tt), tt)

front : IsFront (network wanting) (top_work wanting) tree order
front = front_by wanting refl tree order (ground_0, refl, ((ground_1, refl, (tt, tt)), tt)) refl refl

spelled : IsSpelling wanting 1 steps tree order (λ q. 1)
spelled = subst (λ z. IsSpelling wanting 1 z tree order (λ q. 1)) (λ i. step (codes "htn_start") (slot_1 i ∷ []) ∷ step (codes "htn_m_m") (slot_1 i ∷ []) ∷ step (codes "a") (slot_1 i ∷ []) ∷ [])
    (spelling_by wanting 1 (apply 1 [] (uses 0) ∷ apply 1 [] (uses 1) ∷ run 1 (action 0 []) ∷ []) tree order (λ q. 1) front refl refl ((refl, refl, refl), ((refl, refl, refl), ((refl, refl), tt))))

abbrev labels : List (Label (network wanting))
labels = used (uses 0) ∷ used (uses 1) ∷ ran (action 0 []) ∷ []

executable : IsExecutableFront wanting tree order
executable = record {
  front = front;
  executable = record { labels = labels; are_labels = (refl, (refl, (refl, tt))); allowed = (λ t. untested t, (λ t. untested t, (always_true (InTypeOf wanting) (initial wanting) [], tt))) };
}

goal_is_false : IsTrueIn (InTypeOf wanting) (after (InTypeOf wanting) (initial wanting) nothing []) (Holds wanted) [] → ⊥
goal_is_false h = elim (to (λ i. truth-Holds (InTypeOf wanting) (after (InTypeOf wanting) (initial wanting) nothing []) wanted i []) h) [
  | inl k ↦ not-in_empty (ground [] wanted) k.0
  | inr a ↦ to (λ i. adds-And (InTypeOf wanting) (initial wanting) [] i [] (ground [] wanted)) a
]

no_solution : IsSolution wanting tree order → ⊥
no_solution s = goal_is_false (subst (λ l. IsGoal wanting (last_state (network wanting) State (Allows wanting) (next wanting) (initial wanting) l))
    (same_labels (network wanting) tree order s.executable.labels labels s.executable.are_labels (refl, (refl, (refl, tt)))) s.goal)

pub goal_false_executable : OfEachPrinted wanting 1 (λ p. IsExecutable p steps)
goal_false_executable = front_executable Leaf wanting 1 (wanting_row Leaf) steps tree order (λ q. 1) spelled executable

pub goal_false_no_plan : OfEachPrinted wanting 1 (λ p. IsPlan p steps → ⊥)
goal_false_no_plan = no_solution_no_plan Leaf wanting 1 (wanting_row Leaf) steps tree order (λ q. 1) spelled no_solution
