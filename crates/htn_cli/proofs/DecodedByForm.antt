-- What holds of lists of steps by each form of what was printed.
use Rattle.std.proofs.Common.{ℕ, ◌≡◌, ◌⊎◌, List, arith}
use Rattle.plan_model.specs.declared.options.Checks.{Checks}
use Rattle.plan_model.specs.declared.options.Slots.TheVariants.{Any}
use Rattle.plan_model.specs.declared.steps.GroundAction.{GroundAction}
use Rattle.plan_model.specs.declared.values.Compiled.{Compiled}
use Rattle.plan_model.specs.declared.values.Hddl.{Hddl}
use Rattle.plan_model.specs.plan_meaning.Compilation.{IsCompiled}
use Rattle.plan_model.specs.plan_meaning.Network.{network}
use Rattle.plan_model.specs.task_networks.Lawful.{IsLawful}
use Rattle.plan_model.proofs.plan_meaning.CompiledNetworks.{prepared}
use Rattle.plan_model.proofs.task_networks.ScheduleLaws.{prepared_is_lawful}
use Rattle.plan_texts.specs.FirstSeen.{IsHddlOf}
use Rattle.plan_texts.specs.SoundlyCompiled.{IsSoundlyCompiled}
use Rattle.plan_proof.specs.Headline.{SpellsSolutionBy}
use Rattle.decoding.specs.declared.causes.Why.{Why}
use Rattle.decoding.proofs.ReadSteps as slots
use Rattle.decoding.proofs.SoundCompiled.{compiled_are_read_in_one_way}
use Rattle.hplan_text.specs.declared.values.HPlan.{HPlan}
use Rattle.stack_machine.specs.Stack.{IsTotal}
use Rattle.stack_encoding.specs.TotalOrder.{IsTotallyOrdered}
use Rattle.stack_decoding.specs.StackStepLaws.{HasStackWords}
use Rattle.stack_decoding.proofs.StackLists as stacks
use Rattle.stack_proof.proofs.words.Lines.{network_is_total}
use Rattle.decode_answers.specs.DecodeLaws.{IsDecodable, EachIsDecodedOnce, EachIsDecodedSomehow, ValuesAreDecodedAlike}
use Rattle.stack_answers.specs.StackDecodeLaws.{IsStackDecodable, EachIsStackDecodedOnce, EachIsStackDecodedSomehow, ValuesAreStackDecodedAlike}
use Rattle.tree_texts.specs.declared.text.TreeText.{TreeText}
use Rattle.tree_texts.specs.declared.text.TreeText.TheVariants.{Whole, TooLong, Fails}
use Rattle.tree_texts.specs.TreeTexts.{IsTreeText, IsStackText}
use Rattle.command_words.specs.declared.form.PrintedForm.{PrintedForm}
use Rattle.command_words.specs.declared.form.PrintedForm.TheVariants.{Slots, Stack}
use Rattle.htn_cli.specs.PrintedForms.{IsOrderedFor, SpellingAs}
use Rattle.htn_cli.specs.ShownForms.{SpellShownAs, FailsAs, IsTreeTextAs}

-- the network of a problem whose methods are totally ordered is total
pub soundly_total : (c : Compiled) → IsSoundlyCompiled c → IsTotallyOrdered c → IsTotal (network c)
soundly_total c is total = network_is_total is.problem is.checks c is.ordered is.compiled total

-- what steps come to
pub tree_text_is : (c : Compiled) (b : ℕ) (steps : List GroundAction) (most : ℕ) (text : TreeText) → IsTreeText c b steps most text → IsTreeTextAs Slots c b steps most text
tree_text_is c b steps most (Whole text) is = is
tree_text_is c b steps most (TooLong n) is = is
tree_text_is c b steps most (Fails step why) is = is

pub stack_text_is : (c : Compiled) (b : ℕ) (steps : List GroundAction) (most : ℕ) (text : TreeText) → IsStackText c b steps most text → IsTreeTextAs Stack c b steps most text
stack_text_is c b steps most (Whole text) is = is
stack_text_is c b steps most (TooLong n) is = is
stack_text_is c b steps most (Fails step why) is = is

module _ (form : PrintedForm) (c : Compiled) (b : ℕ) (steps : List GroundAction) where
  -- they show one plan, or fail at one step for one cause, and not both
  pub record AreDecodedOnce : Type 0 where
    pub one_plan : (shown other : HPlan) → SpellShownAs form c b steps shown → SpellShownAs form c b steps other → shown ≡ other
    pub not_both : (shown : HPlan) (n : ℕ) (why : Why) → SpellShownAs form c b steps shown → FailsAs form c b steps n why → ⊥
    pub one_step : (n m : ℕ) (why because : Why) → FailsAs form c b steps n why → FailsAs form c b steps m because → n ≡ m
    pub one_cause : (n m : ℕ) (why because : Why) → FailsAs form c b steps n why → FailsAs form c b steps m because → why ≡ because

  -- they show a plan, or fail
  abbrev pub AreDecodedSomehow : Type 0
  AreDecodedSomehow = ((shown : HPlan) × SpellShownAs form c b steps shown) ⊎ ((n : ℕ) × (why : Why) × FailsAs form c b steps n why)

-- and the same of two compiled problems
pub record AreDecodedTheSame (form : PrintedForm) (c k : Compiled) (b : ℕ) (steps : List GroundAction) : Type 0 where
  pub shown : (shown : HPlan) → SpellShownAs form c b steps shown → SpellShownAs form k b steps shown
  pub fails : (n : ℕ) (why : Why) → FailsAs form c b steps n why → FailsAs form k b steps n why

-- by each form
abbrev pub EachIsDecodedOnceAs : Type 0
EachIsDecodedOnceAs = (form : PrintedForm) (h : Hddl) (checks : Checks) (c : Compiled) (b : ℕ) (steps : List GroundAction) → IsDecodable h checks c b → IsOrderedFor form c
    → AreDecodedOnce form c b steps

abbrev pub EachIsDecodedSomehowAs : Type 0
EachIsDecodedSomehowAs = (form : PrintedForm) (h : Hddl) (checks : Checks) (c : Compiled) (b : ℕ) (steps : List GroundAction) → IsDecodable h checks c b → IsOrderedFor form c
    → AreDecodedSomehow form c b steps

abbrev pub ValuesAreDecodedAlikeAs : Type 0
ValuesAreDecodedAlikeAs = (form : PrintedForm) (domain problem : List ℕ) (h i : Hddl) (checks : Checks) (c k : Compiled) (b : ℕ) (steps : List GroundAction)
    → IsHddlOf domain problem h → IsHddlOf domain problem i → IsDecodable h checks c b → IsOrderedFor form c → IsCompiled i checks k
    → AreDecodedTheSame form c k b steps

stack_decodable : (h : Hddl) (checks : Checks) (c : Compiled) (b : ℕ) → IsDecodable h checks c b → IsTotallyOrdered c → IsStackDecodable h checks c b
stack_decodable h checks c b d total = record { decodable = d; total = network_is_total h checks c d.ordered d.compiled total }

pub once_as : EachIsDecodedOnce → EachIsStackDecodedOnce → EachIsDecodedOnceAs
once_as once stack Slots h checks c b steps d ordered =
    let x = once h checks c b steps d in record { one_plan = x.one_plan; not_both = x.not_both; one_step = x.one_step; one_cause = x.one_cause }
once_as once stack Stack h checks c b steps d ordered =
    let x = stack h checks c b steps (stack_decodable h checks c b d ordered) in
    record { one_plan = x.one_plan; not_both = x.not_both; one_step = x.one_step; one_cause = x.one_cause }

pub somehow_as : EachIsDecodedSomehow → EachIsStackDecodedSomehow → EachIsDecodedSomehowAs
somehow_as somehow stack Slots h checks c b steps d ordered = somehow h checks c b steps d
somehow_as somehow stack Stack h checks c b steps d ordered = stack h checks c b steps (stack_decodable h checks c b d ordered)

pub alike_as : ValuesAreDecodedAlike → ValuesAreStackDecodedAlike → ValuesAreDecodedAlikeAs
alike_as alike stack Slots domain problem h i checks c k b steps one other d ordered compiled =
    let x = alike domain problem h i checks c k b steps one other d compiled in record { shown = x.shown; fails = x.fails }
alike_as alike stack Stack domain problem h i checks c k b steps one other d ordered compiled =
    let x = stack domain problem h i checks c k b steps one other (stack_decodable h checks c b d ordered) compiled in
    record { shown = x.shown; fails = x.fails }

-- what fails spells no solution
module _ (h : Hddl) (checks : Checks) (c : Compiled) (b : ℕ) (d : IsDecodable h checks c b) (steps : List GroundAction) where
  lawful : IsLawful (network c)
  lawful = prepared_is_lawful (network c) (prepared h checks c d.ordered d.compiled)

  stack_words : HasStackWords c b
  stack_words =
      let one = compiled_are_read_in_one_way c h checks d.sound d.compiled in
      let few = d.few_slots in
      record { some = d.some_slot; few = omega (arith, few); apart = one.apart; checks = one.checks }

  pub fails_or_spells : (form : PrintedForm) → IsOrderedFor form c → (step : ℕ) (why : Why) → SpellsSolutionBy (SpellingAs form Any) c b steps → FailsAs form c b steps step why → ⊥
  fails_or_spells Slots ordered step why x f =
      (slots.each_is_solution_or_fails c lawful b steps d.some_slot
      ((compiled_are_read_in_one_way c h checks d.sound d.compiled).steps b (let few = d.few_slots in omega (arith, few)))).not_both step why x f
  fails_or_spells Stack ordered step why x f =
      (stacks.each_is_solution_or_fails c lawful (network_is_total h checks c d.ordered d.compiled ordered) b steps stack_words).not_both step why x f
