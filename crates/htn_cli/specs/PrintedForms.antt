-- What is printed, by its form: with slots, or as a stack.
-- Source: this project's.
use Rattle.std.specs.Prelude.{ℕ, zero, suc, ◌≡◌, List, codes}
use Rattle.htn_base.specs.Different.{AreDifferent}
use Rattle.plan_model.specs.declared.options.Checks.{Checks}
use Rattle.plan_model.specs.declared.options.Slots as rule
use Rattle.plan_model.specs.declared.options.Style.{Style}
use Rattle.plan_model.specs.declared.values.Compiled.{Compiled}
use Rattle.plan_model.specs.declared.values.Hddl.{Hddl}
use Rattle.plan_model.specs.declared.values.Pddl.{Pddl}
use Rattle.slot_encoding.specs.FirstFree.{IsEncodedBy, HasWordsBy}
use Rattle.slot_encoding.specs.Printed.{IsPrintedBy}
use Rattle.stack_encoding.specs.TotalOrder.{IsTotallyOrdered, IsFirstUnordered}
use Rattle.stack_encoding.specs.StackSpelling.{IsStackSpelling}
use Rattle.stack_encoding.specs.StackValue.{IsStackEncoded}
use Rattle.stack_encoding.specs.StackWords.{HasStackWords}
use Rattle.stack_encoding.specs.StackPrinted.{IsPrintedStack}
use Rattle.bound_calc.specs.stratifier.CycleWords.{method_word}
use Rattle.plan_proof.specs.Headline.{SpellingForm}
use Rattle.first_slots.specs.LowestSpelling.{SpellingBy}
use Rattle.command_words.specs.declared.form.PrintedForm.{PrintedForm}
use Rattle.command_words.specs.declared.form.PrintedForm.TheVariants.{Slots, Stack}

-- the problems that are printed so: as a stack those alone whose methods are totally ordered
abbrev pub IsOrderedFor : PrintedForm → Compiled → Type 0
IsOrderedFor Slots c = Unit {0}
IsOrderedFor Stack c = IsTotallyOrdered c

-- the word of the first method that is not totally ordered; the top method is number 0
abbrev pub unordered_word : Compiled → ℕ → List ℕ
unordered_word c zero = codes "htn_start"
unordered_word c (suc m) = method_word c (suc m)

abbrev pub NamesUnordered : Compiled → List ℕ → Type 0
NamesUnordered c word = (m : ℕ) × IsFirstUnordered c m × (word ≡ unordered_word c m)

-- how a list of steps spells a schedule; slots by their rule
abbrev pub SpellingAs : PrintedForm → rule.Slots → SpellingForm
SpellingAs Slots by = SpellingBy by
SpellingAs Stack by = IsStackSpelling

-- the printed problem, with so many slots or cells
abbrev pub IsEncodedAs : PrintedForm → rule.Slots → Compiled → ℕ → Style → Pddl → Type 0
IsEncodedAs Slots by c b style p = IsEncodedBy by c b style p
IsEncodedAs Stack by c b style p = IsStackEncoded c b p

abbrev pub HasWordsAs : PrintedForm → rule.Slots → Compiled → ℕ → List (List ℕ) → Type 0
HasWordsAs Slots by c b names = HasWordsBy by c b names
HasWordsAs Stack by c b names = HasStackWords c b names

-- there is one, over words that differ and that have all words of it
pub record HasEncodedValueAs (form : PrintedForm) (by : rule.Slots) (c : Compiled) (b : ℕ) (style : Style) : Type 0 where
  pub value : Pddl
  pub encoded : IsEncodedAs form by c b style value
  pub words : HasWordsAs form by c b value.names
  pub differ : AreDifferent value.names

abbrev pub IsPrintedAs : PrintedForm → rule.Slots → Hddl → Checks → Compiled → ℕ → Style → Pddl → Type 0
IsPrintedAs Slots by h checks c b style p = IsPrintedBy by h checks c b style p
IsPrintedAs Stack by h checks c b style p = IsPrintedStack h checks c b p
