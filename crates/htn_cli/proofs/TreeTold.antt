-- A tree that was told, or a list that was said to spell none: what is true of one value of the two texts is true of each.
use Rattle.std.proofs.Common.{ℕ, List}
use Rattle.outside_io.specs.Sink.{SinkState}
use Rattle.plan_model.specs.declared.options.Slots.TheVariants.{Any}
use Rattle.plan_model.specs.declared.steps.GroundAction.{GroundAction}
use Rattle.plan_model.specs.declared.values.Compiled.{Compiled}
use Rattle.plan_model.specs.declared.values.Hddl.{Hddl}
use Rattle.plan_model.specs.plan_meaning.Compilation.{IsCompiled}
use Rattle.plan_texts.specs.FirstSeen.{IsHddlOf}
use Rattle.decoding.specs.declared.causes.Why.{Why}
use Rattle.hplan_text.specs.declared.values.HPlan.{HPlan}
use Rattle.plan_proof.specs.Headline.{SpellsSolutionBy}
use Rattle.decode_answers.specs.DecodeLaws.{IsDecodable}
use Rattle.ground_answers.specs.GroundLaws.{ValuesHaveOneGroundBound}
use Rattle.command_words.specs.declared.form.PrintedForm.{PrintedForm}
use Rattle.command_words.specs.declared.form.PrintedForm.TheVariants.{Slots, Stack}
use Rattle.command_words.specs.Words.{DecodeRequest}
use Rattle.htn_cli.specs.Decoding.{IsForSlots}
use Rattle.htn_cli.specs.PrintedForms.{SpellingAs}
use Rattle.htn_cli.specs.Problem.{SpellProblem}
use Rattle.htn_cli.specs.Refusal.{line_of}
use Rattle.htn_cli.specs.Sent.{TakesWhole, Told}
use Rattle.htn_cli.specs.ShownForms.{SpellShownAs, FailsAs, HaveTextAs}
use Rattle.htn_cli.specs.promise.Tree.{AreDecoded, TellsTree, TellsNoSolution}
use Rattle.htn_cli.specs.declared.refusal.Finding.TheVariants as finding
use Rattle.htn_cli.specs.declared.refusal.Refusal.TheVariants as refused
use Rattle.htn_cli.proofs.DecodedByForm.{AreDecodedTheSame, ValuesAreDecodedAlikeAs, fails_or_spells}
use Rattle.htn_cli.proofs.EachProblem.{slots_given, slots_computed, bound_at_each, faithful_of_each, each_faithful, solution_here}

-- steps that show a plan spell a solution
solution_shown : (form : PrintedForm) (c : Compiled) (b : ℕ) (steps : List GroundAction) (shown : HPlan) → SpellShownAs form c b steps shown → SpellsSolutionBy (SpellingAs form Any) c b steps
solution_shown Slots c b steps shown x = (x.tree, x.order, x.slot, x.spelled, x.solution)
solution_shown Stack c b steps shown x = (x.tree, x.order, x.cell, x.spelled, x.solution)

module _ (alike : ValuesAreDecodedAlikeAs) (ground : ValuesHaveOneGroundBound) (request : DecodeRequest) (d p plan : List ℕ) (c : Compiled) (steps : List GroundAction) (slots : ℕ) (is : IsForSlots request d p plan c steps slots) where
  abbrev source : SpellProblem d p request.checks c
  source = is.spelled.spelled.problem_is

  decoded : AreDecoded request d p plan steps slots
  decoded = record {
    spelled = is.spelled.spelled.list.spelled;
    given = slots_given request.level c slots request.numeral is.slots_are;
    computed = λ none.
        bound_at_each d p request.checks c source ground request.level slots (slots_computed request.level c slots request.numeral none is.slots_are);
  }

  decodable : IsDecodable source.value request.checks c slots
  decodable = record { sound = source.read.sound; ordered = source.read.ordered; compiled = source.compiled_is; some_slot = is.some_slot; few_slots = is.few_slots }

  -- each value of the two texts is decoded as this one
  each : (h : Hddl) (k : Compiled) → IsHddlOf d p h → IsCompiled h request.checks k → AreDecodedTheSame request.form c k slots steps
  each h k s compiled = alike request.form d p source.value h request.checks c k slots steps source.read.spelled s decodable is.ordered compiled

  have_text : (text : List ℕ) → HaveTextAs request.form c slots steps text → (h : Hddl) (k : Compiled) → IsHddlOf d p h → IsCompiled h request.checks k
      → HaveTextAs request.form k slots steps text
  have_text text (shown, spelled, e) h k s compiled = (shown, (each h k s compiled).shown shown spelled, e)

  pub tree_here : (text : List ℕ) → HaveTextAs request.form c slots steps text → (out out' : SinkState) → TakesWhole text out out' → TellsTree request d p plan out out'
  tree_here text has out out' told = record {
    steps = steps;
    slots = slots;
    decoded = decoded;
    text = text;
    told = told;
    shown = have_text text has;
    only_one = λ h k s compiled. (each_faithful d p request.checks c source request.form is.ordered slots is.some_slot is.few_slots h k s compiled).only_one steps;
    is_plan = λ h k s compiled style value printed. (
        let (shown, x, e) = have_text text has h k s compiled in
        ((faithful_of_each d p request.checks c source request.form Any slots style value h k s printed h k s compiled).plans steps).1
        (solution_shown request.form k slots steps shown x)
        );
  }

  -- what fails spells no solution
  pub none_here : (step : ℕ) (why : Why) → FailsAs request.form c slots steps step why → (err err' : SinkState) → Told (line_of (refused.Finding (finding.SpellsNoSolution step why))) err err' → TellsNoSolution request d p plan err err'
  none_here step why fails err err' told = record {
    steps = steps;
    slots = slots;
    decoded = decoded;
    step = step;
    why = why;
    told = told;
    fails = λ h k s compiled. (each h k s compiled).fails step why fails;
    none = λ h k s compiled x. (
        fails_or_spells source.value request.checks c slots decodable steps request.form is.ordered step why
        (solution_here d p request.checks c source request.form is.ordered slots is.some_slot is.few_slots steps h k s compiled x)
        fails
        );
  }
