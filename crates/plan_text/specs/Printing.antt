-- The text of each part of a plan.
-- Source: this project's.
use Rattle.std.specs.Prelude.{ℕ, ◌≡◌, ◌≤◌, ◌<◌, List, [], ◌∷◌, ◌++◌, map, length}
use Rattle.text_forms.specs.Lists.{name}
use Rattle.text_forms.specs.Printing.{bytes, bytes_behind}
use Rattle.text_forms.specs.Words.{Word}
use Rattle.text_forms.specs.sheets.Sheets.{capped}
use Rattle.text_forms.specs.declared.sheets.sheet.Ended.{Ended}
use Rattle.text_forms.specs.declared.sheets.sheet.Ended.TheVariants.{Whole, TooLong}
use Rattle.plan_model.specs.declared.steps.GroundAction.{GroundAction}
use Rattle.plan_texts.specs.PlanText.{step_part}
use Rattle.plan_texts.specs.Printed.{all_parts}

-- each argument behind a space
abbrev pub args_text : List Word → List ℕ
args_text args = bytes_behind (all_parts (map name args))

-- a step on a line of its own
abbrev pub line_text : GroundAction → List ℕ
line_text s = bytes (step_part s) ++ 10 ∷ []

-- the whole text, which is at most so long; or how long it is, which is more
abbrev pub IsPutWithin : List ℕ → ℕ → List ℕ → Ended → Type 0
IsPutWithin whole most text Whole = (text ≡ whole) × (length text ≤ most)
IsPutWithin whole most text (TooLong n) = (n ≡ capped (length whole)) × (most < n)
