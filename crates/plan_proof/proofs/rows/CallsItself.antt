-- The task that calls itself: nothing is a plan of what is printed for it, since slot 1 holds the task for ever.
use Rattle.std.proofs.Common.{ℕ, List, [], refl}
use Rattle.plan_model.specs.declared.options.Checks.{Checks}
use Rattle.plan_model.specs.declared.options.Style.{Style}
use Rattle.plan_model.specs.declared.networks.Head.TheVariants.{Task}
use Rattle.plan_model.specs.declared.values.Compiled.{Compiled}
use Rattle.plan_model.specs.declared.values.Pddl.{Pddl}
use Rattle.plan_model.specs.task_networks.Net.{Net}
use Rattle.plan_model.specs.task_networks.Spelling.{Act, apply}
use Rattle.slot_machine.specs.Machine.{start, Runs, end_of, after_act}
use Rattle.plan_model.specs.plan_meaning.Compilation.{IsCompiled}
use Rattle.plan_model.specs.plan_meaning.Network.{task, network}
use Rattle.plan_model.specs.plan_meaning.Solution.{top_work}
use Rattle.plan_model.proofs.plan_meaning.examples.PlanKinds.{plain, none_rise}
use Rattle.plan_model.proofs.plan_meaning.examples.RowValues.{uses}
use Rattle.slot_encoding.specs.Printed.{IsPrinted}
use Rattle.plan_proof.proofs.examples.RowPlans.{IsLawfulRow, plain_formulas}
use Rattle.plan_proof.proofs.examples.SoundChecks.{sound_by, ordered_by}
use Rattle.plan_proof.specs.Problems.{calls_itself}
use Rattle.plan_proof.specs.Plans.{HasNoPlan}
use Rattle.plan_proof.proofs.rows.OneChild.{begins, moves, first_is, never_free}
use Rattle.plan_proof.proofs.rows.PlanRuns.{plan_runs}
use Rattle.plan_proof.proofs.rows.Methods.{compiled, start_alone, m_alone, start_has_t, m_has_one}

abbrev pub calls_itself_compiled : Compiled
calls_itself_compiled = compiled (Task 0)

is_compiled : (mode : Checks) → IsCompiled calls_itself mode calls_itself_compiled
is_compiled mode = record {
  hddl = refl;
  methods = (
    plain calls_itself mode _ _ refl refl refl (record { schema = refl; up = tt; line = refl; heir = refl; copiers = refl; rising = none_rise; guards = ([], refl, refl) }),
    (plain calls_itself mode _ _ refl refl refl (record { schema = refl; up = tt; line = refl; heir = refl; copiers = refl; rising = none_rise; guards = ([], refl, refl) }), tt),
  );
}

pub calls_itself_row : (mode : Checks) → IsLawfulRow mode calls_itself_compiled
calls_itself_row mode = record { sound = sound_by calls_itself refl (plain_formulas calls_itself ((refl, refl), tt) refl (refl, tt) refl); compiled = is_compiled mode; ordered = ordered_by calls_itself refl }

abbrev N : Net
N = network calls_itself_compiled

no_run : (b : ℕ) (list : List (Act N)) → Runs N (start N b (top_work calls_itself_compiled)) list → (end_of N (start N b (top_work calls_itself_compiled)) list).free 1 → ⊥
no_run b list r f =
    let s = start N b (top_work calls_itself_compiled) in
    let h = begins N b (top_work calls_itself_compiled) in
    let (rest, e, r', f') = first_is N (uses 0) (task 0 []) (start_has_t (Task 0)) (start_alone (Task 0)) (λ k. k) s h list r f in
    let h' = moves N (uses 0) (task 0 []) (start_has_t (Task 0)) (start_alone (Task 0)) (λ k. k) s h in
    never_free N (uses 1) (m_has_one (Task 0)) (m_alone (Task 0)) (λ k. k) (after_act N s (apply 1 [] (uses 0))) h' rest r' f'

pub no_plan : (mode : Checks) (b : ℕ) (style : Style) (p : Pddl) → IsPrinted calls_itself mode calls_itself_compiled b style p → HasNoPlan p
no_plan mode b style p is list plan = let (list', e, r, f) = plan_runs calls_itself mode calls_itself_compiled b style p (calls_itself_row mode).ordered is list plan in no_run b list' r f
