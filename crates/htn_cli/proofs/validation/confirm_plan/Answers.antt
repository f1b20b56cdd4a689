use Rattle.hddl_reader.specs.declared.sections.Language.TheVariants as language
use Rattle.std.proofs.Common.{[], ◌∷◌, subst}
use Rattle.htn_base.specs.Limits.{most_steps}
use Rattle.text_forms.specs.declared.sexpr_text.read_error.ReadError.TheVariants.{Bad}
use Rattle.plan_text.specs.Plans.{RefusesPlan}
use Rattle.htn_cli.specs.Checks.{IsChecked}
use Rattle.htn_cli.specs.LeastFaults.{IsLeastWithPlan}
use Rattle.htn_cli.proofs.Faulty.{bad_stops, fault_stops_plan, one_of_three_files}
use Rattle.htn_cli.proofs.Validations.{sound_runnable, confirmed_for, too_many_for, fails_for, least_of_plan}
use Rattle.htn_cli.proofs.validation.confirm_plan.Goals as goal

pub check-requires-clause-runnable : goal.check-requires-clause-runnable
check-requires-clause-runnable c = sound_runnable c.args.value.now c.requires.sound

pub returns-in-Ok-Plan-clause-plan : goal.returns-in-Ok-Plan-clause-plan
returns-in-Ok-Plan-clause-plan c = confirmed_for c.args.value.now c.args.plan.now (subst (IsChecked c.args.value.now c.args.plan.now most_steps) c.in-Ok-Plan.field-0-is c.in-Ok-Plan.ensures.checked)

pub returns-in-Ok-TooMany-clause-refused : goal.returns-in-Ok-TooMany-clause-refused
returns-in-Ok-TooMany-clause-refused c =
    too_many_for c.args.value.now c.args.plan.now (c.args.asked.now.pd.now ∷ c.args.asked.now.pp.now ∷ c.args.asked.now.plan.now ∷ []) c.in-Ok-TooMany.count
    (subst (IsChecked c.args.value.now c.args.plan.now most_steps) c.in-Ok-TooMany.field-0-is c.in-Ok-TooMany.ensures.checked)

pub returns-in-Ok-Fails-clause-refused : goal.returns-in-Ok-Fails-clause-refused
returns-in-Ok-Fails-clause-refused c =
    fails_for c.args.value.now c.args.plan.now (c.args.asked.now.pd.now ∷ c.args.asked.now.pp.now ∷ c.args.asked.now.plan.now ∷ []) c.in-Ok-Fails.step c.in-Ok-Fails.why
    (subst (IsChecked c.args.value.now c.args.plan.now most_steps) c.in-Ok-Fails.field-0-is c.in-Ok-Fails.ensures.checked)

pub returns-in-Err-Bad-clause-refused : goal.returns-in-Err-Bad-clause-refused
returns-in-Err-Bad-clause-refused c =
    λ domain problem is.
    let l = c.args.plan.now in
    let names = c.args.asked.now.pd.now ∷ c.args.asked.now.pp.now ∷ c.args.asked.now.plan.now ∷ [] in
    let here : RefusesPlan 2 l (Bad c.in-Err-Bad.fault) = subst (RefusesPlan 2 l) c.in-Err-Bad.field-0-is c.in-Err-Bad.ensures.refused in
    let least = least_of_plan domain problem l c.in-Err-Bad.fault.file c.in-Err-Bad.fault.code c.in-Err-Bad.fault.at is.faultless here in
    fault_stops_plan names domain problem l c.refusal_for.result
    (bad_stops names (IsLeastWithPlan language.Pddl domain problem l) 3 (one_of_three_files domain problem l) c.place_of.result c.in-Err-Bad.fault c.in-Err-Bad.fault-is least c.place_of.ensures.name c.place_of.ensures.at c.refusal_for.result c.refusal_for.ensures)
