-- What holds of hierarchical plans by each form of what is printed.
use Rattle.std.proofs.Common.{ℕ, ◌≡◌, ◌<◌, ◌≤◌, ◌-◌, ◌^◌, List, Option, IfSome}
use Rattle.htn_base.specs.Limits.{most_slots}
use Rattle.plan_model.specs.declared.options.Checks.{Checks}
use Rattle.plan_model.specs.declared.options.Slots as rule
use Rattle.plan_model.specs.declared.options.Slots.TheVariants.{Any, First}
use Rattle.plan_model.specs.declared.steps.GroundAction.{GroundAction}
use Rattle.plan_model.specs.declared.values.Compiled.{Compiled}
use Rattle.plan_model.specs.declared.values.Hddl.{Hddl}
use Rattle.plan_model.specs.task_networks.Tree.{Tree, Address}
use Rattle.plan_model.specs.task_networks.Pending.{IsWidth}
use Rattle.plan_model.specs.plan_meaning.Compilation.{IsCompiled}
use Rattle.plan_model.specs.plan_meaning.Network.{network}
use Rattle.plan_model.specs.plan_meaning.Solution.{IsSolution}
use Rattle.plan_texts.specs.FirstSeen.{IsHddlOf}
use Rattle.plan_proof.specs.Headline.{SpellsSolutionBy}
use Rattle.hplan_text.specs.declared.values.HPlan.{HPlan}
use Rattle.hplan_text.specs.Printable.{IsSoundHPlan, IsPrintableHPlan}
use Rattle.hplan_text.specs.ShownPlan.{ShowsHPlan}
use Rattle.plan_encoder.specs.Laws.{IsOf}
use Rattle.placements.specs.Placement.{IsPlaced}
use Rattle.step_texts.specs.declared.text.StepText.{StepText}
use Rattle.step_texts.specs.declared.text.StepText.TheVariants.{Whole, TooLong, NoMatch, NotExecutable, GoalFalse, NoPlacement, NeedsBound, TooWide}
use Rattle.step_texts.specs.StepTexts.{IsSpelled, IsStepText}
use Rattle.step_texts.specs.StackTexts.{IsStackSpelled, IsStackText}
use Rattle.encode_answers.specs.EncodeLaws.{AreEncodedAlike, EachIsEncodedOnce, EachIsEncodedSomehow, ValuesAreEncodedAlike}
use Rattle.stack_encode_answers.specs.StackEncodeLaws.{EachIsStackedOnce, EachIsStackedSomehow, ValuesAreStackedAlike}
use Rattle.command_words.specs.declared.form.PrintedForm.{PrintedForm}
use Rattle.command_words.specs.declared.form.PrintedForm.TheVariants.{Slots, Stack}
use Rattle.htn_cli.specs.PrintedForms.{IsOrderedFor, SpellingAs}
use Rattle.htn_cli.specs.ShownForms.{SpellShownAs}
use Rattle.htn_cli.specs.SpelledForms.{IsSpelledAs, IsStepTextAs}

-- what a plan comes to, to and from each form
module _ (c : Compiled) (plan : HPlan) (given : Option ℕ) (most : ℕ) where
  pub step_text_is : (text : StepText) → IsStepText c plan given most text → IsStepTextAs Slots c plan given most text
  step_text_is (Whole text) is = is
  step_text_is (TooLong n) is = is
  step_text_is (NoMatch id) is = is
  step_text_is (NotExecutable id) is = is
  step_text_is GoalFalse is = is
  step_text_is NoPlacement is = is
  step_text_is (NeedsBound width) is = is
  step_text_is (TooWide width) is = is

  pub stack_text_is : (text : StepText) → IsStackText c plan given most text → IsStepTextAs Stack c plan given most text
  stack_text_is (Whole text) is = is
  stack_text_is (TooLong n) is = is
  stack_text_is (NoMatch id) is = is
  stack_text_is (NotExecutable id) is = is
  stack_text_is GoalFalse is = is
  stack_text_is NoPlacement is = is
  stack_text_is (NeedsBound width) is = is
  stack_text_is (TooWide width) is = is

  pub slots_back : (text : StepText) → IsStepTextAs Slots c plan given most text → IsStepText c plan given most text
  slots_back (Whole text) is = is
  slots_back (TooLong n) is = is
  slots_back (NoMatch id) is = is
  slots_back (NotExecutable id) is = is
  slots_back GoalFalse is = is
  slots_back NoPlacement is = is
  slots_back (NeedsBound width) is = is
  slots_back (TooWide width) is = is

  stack_back : (text : StepText) → IsStepTextAs Stack c plan given most text → IsStackText c plan given most text
  stack_back (Whole text) is = is
  stack_back (TooLong n) is = is
  stack_back (NoMatch id) is = is
  stack_back (NotExecutable id) is = is
  stack_back GoalFalse is = is
  stack_back NoPlacement is = is
  stack_back (NeedsBound width) is = is
  stack_back (TooWide width) is = is

-- it comes to one thing at most
abbrev pub EachIsEncodedOnceAs : Type 0
EachIsEncodedOnceAs = (form : PrintedForm) (h : Hddl) (mode : Checks) (c : Compiled) → IsOf h mode c → IsOrderedFor form c → (plan : HPlan) → IsSoundHPlan plan
    → (given : Option ℕ) (most : ℕ) (one other : StepText) → IsStepTextAs form c plan given most one → IsStepTextAs form c plan given most other → one ≡ other

-- and to one
abbrev pub EachIsEncodedSomehowAs : Type 0
EachIsEncodedSomehowAs = (form : PrintedForm) (h : Hddl) (mode : Checks) (c : Compiled) → IsOf h mode c → IsOrderedFor form c → (plan : HPlan) → IsSoundHPlan plan → IsPrintableHPlan plan
    → (given : Option ℕ) (most : ℕ) → most < 2 ^ 64 - 1 → IfSome given (λ n. n ≤ most_slots) → (text : StepText) × IsStepTextAs form c plan given most text

-- which is the same of two compiled problems
pub record AreEncodedTheSame (form : PrintedForm) (c k : Compiled) (plan : HPlan) : Type 0 where
  pub sentences : AreEncodedAlike c k plan
  pub spelled : (slots width : ℕ) (steps : List GroundAction) → IsSpelledAs form c plan slots width steps → IsSpelledAs form k plan slots width steps

abbrev pub ValuesAreEncodedAlikeAs : Type 0
ValuesAreEncodedAlikeAs = (form : PrintedForm) (domain problem : List ℕ) (h i : Hddl) (checks : Checks) (c k : Compiled) (plan : HPlan)
    → IsHddlOf domain problem h → IsHddlOf domain problem i → IsOf h checks c → IsCompiled i checks k → AreEncodedTheSame form c k plan

pub once_as : EachIsEncodedOnce → EachIsStackedOnce → EachIsEncodedOnceAs
once_as once stack Slots h mode c of ordered plan sound given most one other is are =
    once h mode c of plan sound given most one other (slots_back c plan given most one is) (slots_back c plan given most other are)
once_as once stack Stack h mode c of ordered plan sound given most one other is are =
    stack h mode c of ordered plan sound given most one other (stack_back c plan given most one is) (stack_back c plan given most other are)

pub somehow_as : EachIsEncodedSomehow → EachIsStackedSomehow → EachIsEncodedSomehowAs
somehow_as somehow stack Slots h mode c of ordered plan sound printable given most l few =
    let (text, is) = somehow h mode c of plan sound printable given most l few in (text, step_text_is c plan given most text is)
somehow_as somehow stack Stack h mode c of ordered plan sound printable given most l few =
    let (text, is) = stack h mode c of ordered plan sound printable given most l few in (text, stack_text_is c plan given most text is)

pub alike_as : ValuesAreEncodedAlike → ValuesAreStackedAlike → ValuesAreEncodedAlikeAs
alike_as alike stack Slots domain problem h i checks c k plan one other of compiled =
    let x = alike domain problem h i checks c k plan one other of compiled in record { sentences = x; spelled = x.spelled }
alike_as alike stack Stack domain problem h i checks c k plan one other of compiled =
    record { sentences = alike domain problem h i checks c k plan one other of compiled; spelled = (stack domain problem h i checks c k plan one other of compiled).spelled }

-- what steps are that are spelled in some form
pub record AreSpelledSo (form : PrintedForm) (c : Compiled) (plan : HPlan) (slots width : ℕ) (steps : List GroundAction) : Type 0 where
  pub tree : Tree (network c)
  pub order : List Address
  pub placed : IsPlaced c plan tree order
  pub width_is : IsWidth (network c) width tree order
  pub within : width ≤ slots
  pub few : slots ≤ most_slots
  -- they show what their tree shows
  pub shows : IsSolution c tree order → (shown : HPlan) → ShowsHPlan c tree order shown → SpellShownAs form c slots steps shown
  -- and they spell it with free slots by each rule
  pub by_rule : IsSolution c tree order → (r : rule.Slots) → SpellsSolutionBy (SpellingAs form r) c slots steps

pub spelled_so : (form : PrintedForm) (c : Compiled) (plan : HPlan) (slots width : ℕ) (steps : List GroundAction) → IsSpelledAs form c plan slots width steps
    → AreSpelledSo form c plan slots width steps
spelled_so Slots c plan slots width steps is = record {
  tree = is.tree;
  order = is.order;
  placed = is.placed;
  width_is = is.width_is;
  within = is.within;
  few = is.few;
  shows = λ solution shown s. record { tree = is.tree; order = is.order; slot = is.slot; spelled = (is.acts, is.lowest.spells, is.steps_are); solution = solution; shows = s };
  by_rule = go;
}
  where
    go : IsSolution c is.tree is.order → (r : rule.Slots) → SpellsSolutionBy (SpellingAs Slots r) c slots steps
    go solution Any = (is.tree, is.order, is.slot, (is.acts, is.lowest.spells, is.steps_are), solution)
    go solution First = (is.tree, is.order, is.slot, record { spelling = (is.acts, is.lowest.spells, is.steps_are); lowest = is.lowest.lowest }, solution)
spelled_so Stack c plan slots width steps is = record {
  tree = is.tree;
  order = is.order;
  placed = is.placed;
  width_is = is.width_is;
  within = is.within;
  few = is.few;
  shows = λ solution shown s. record { tree = is.tree; order = is.order; cell = is.cell; spelled = is.spelling; solution = solution; shows = s };
  by_rule = λ solution r. (is.tree, is.order, is.cell, is.spelling, solution);
}
