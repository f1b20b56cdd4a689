use Rattle.hddl_reader.specs.declared.sections.Language.TheVariants as language
use Rattle.std.proofs.Common.{[], ◌∷◌, subst}
use Rattle.text_forms.specs.declared.sexpr_text.read_error.ReadError.TheVariants.{Bad}
use Rattle.text_values.specs.PddlValues.{IsRefusal}
use Rattle.htn_cli.specs.LeastFaults.{IsLeastWithPlan, of_problem}
use Rattle.htn_cli.proofs.Faulty.{bad_stops, fault_stops_plan, one_of_three_files}
use Rattle.htn_cli.proofs.validation.confirm.Goals as goal

pub returns-in-Err-Bad-clause-refused : goal.returns-in-Err-Bad-clause-refused
returns-in-Err-Bad-clause-refused c =
    let d = c.args.domain.now in
    let p = c.args.problem.now in
    let l = c.args.plan.now in
    let names = c.args.asked.now.pd.now ∷ c.args.asked.now.pp.now ∷ c.args.asked.now.plan.now ∷ [] in
    let here : IsRefusal d p (Bad c.in-Err-Bad.fault) = subst (IsRefusal d p) c.in-Err-Bad.field-0-is c.in-Err-Bad.ensures.refused in
    fault_stops_plan names d p l c.refusal_for.result
    (bad_stops names (IsLeastWithPlan language.Pddl d p l) 3 (one_of_three_files d p l) c.place_of.result c.in-Err-Bad.fault c.in-Err-Bad.fault-is (of_problem here) c.place_of.ensures.name c.place_of.ensures.at c.refusal_for.result c.refusal_for.ensures)
