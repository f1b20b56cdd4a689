-- The options of commands. One that takes a number of slots has a numeral; the others have a table of the words that are their values.
use Rattle.std.specs.Prelude.{◌≡◌, List, [], ◌∷◌, Option, Some, None, IfSome, codes, find, option_map}
use Rattle.std.specs.Str.{bytes_eq}
use Rattle.plan_model.specs.declared.options.Style.{Style}
use Rattle.plan_model.specs.declared.options.Style.TheVariants.{Adl, Flat}
use Rattle.plan_model.specs.declared.options.Checks.{Checks}
use Rattle.plan_model.specs.declared.options.Checks.TheVariants.{Leaf, AtOnce}
use Rattle.plan_model.specs.declared.options.Slots as rule
use Rattle.plan_model.specs.declared.options.Slots.TheVariants.{Any, First}
use Rattle.command_words.specs.declared.form.PrintedForm.{PrintedForm}
use Rattle.command_words.specs.declared.form.PrintedForm.TheVariants.{Slots, Stack}
use Rattle.command_words.specs.declared.level.Level.{Level}
use Rattle.command_words.specs.declared.level.Level.TheVariants.{Lifted, Ground}
use Rattle.command_words.specs.Names.{Word}
use Rattle.command_words.specs.Bounds.{IsNumeral}
use Rattle.command_words.specs.Forms.{said}

-- the value of a word by a table, or this one where no word is given
abbrev pub value_by : {V : Type 0} → List (Word × V) → V → Option Word → Option V
value_by table default None = Some default
value_by table default (Some word) = option_map (λ line. line.1) (find (λ line. bytes_eq word line.0) table)

abbrev pub style_words : List (Word × Style)
style_words = (codes "adl", Adl) ∷ (codes "flat", Flat) ∷ []

abbrev pub checks_words : List (Word × Checks)
checks_words = (codes "leaf", Leaf) ∷ (codes "atonce", AtOnce) ∷ []

abbrev pub level_words : List (Word × Level)
level_words = (codes "lifted", Lifted) ∷ (codes "ground", Ground) ∷ []

abbrev pub rule_words : List (Word × rule.Slots)
rule_words = (codes "any", Any) ∷ (codes "first", First) ∷ []

abbrev pub form_words : List (Word × PrintedForm)
form_words = (codes "slots", Slots) ∷ (codes "stack", Stack) ∷ []

-- What words say by an option, from the words of all options.

abbrev pub slots_said : List Word → Option Word
slots_said options = said (codes "--bound") options

abbrev pub AreSlots : Option Word → Type 0
AreSlots word = IfSome word IsNumeral

abbrev pub style_said : List Word → Option Style
style_said options = value_by style_words Adl (said (codes "--style") options)

abbrev pub checks_said : List Word → Option Checks
checks_said options = value_by checks_words Leaf (said (codes "--checks") options)

abbrev pub level_said : List Word → Option Level
level_said options = value_by level_words Lifted (said (codes "--level") options)

abbrev pub rule_said : List Word → Option rule.Slots
rule_said options = value_by rule_words Any (said (codes "--slots") options)

abbrev pub form_said : List Word → Option PrintedForm
form_said options = value_by form_words Slots (said (codes "--form") options)

-- a style and a rule for slots are said of slots alone
abbrev pub IsOfForm : PrintedForm → List Word → Type 0
IsOfForm Slots options = Unit {0}
IsOfForm Stack options = (said (codes "--style") options ≡ None) × (said (codes "--slots") options ≡ None)

-- a level is said only where no number of slots is given, so that a bound is computed
abbrev pub IsComputed : List Word → Type 0
IsComputed options = IfSome (slots_said options) (λ numeral. said (codes "--level") options ≡ None)
