-- A classical plan as a whole text: steps one after another, each with at most one mark in front of it.
-- Source: this project's; a plan of PDDL 2.1, level 1 (Fox and Long, JAIR 20, 2003), without times. Some planners put a number and a colon before a step.
use Rattle.std.specs.Prelude.{ℕ, Option, List}
use Rattle.text_forms.specs.Faults.{Fault}
use Rattle.text_forms.specs.Placed.{Placed}
use Rattle.text_forms.specs.StepWords.{is_step_name, is_mark}
use Rattle.text_forms.specs.form_grammar.Codes.{Form}
use Rattle.text_forms.specs.form_grammar.Rows.{Rows, word_due, word_or_end}
use Rattle.text_forms.specs.form_grammar.Texts.{marked_form, plan_fault}
use Rattle.text_forms.specs.form_grammar.Words.{used}

pub data StepDue : Type 0 where
  step : StepDue
  args : StepDue

abbrev pub step_rows : Rows StepDue
-- NAME NAME* )
step_rows step = word_due 8 (used is_step_name args)
-- NAME* )
step_rows args = word_or_end 8 (used is_step_name args)

abbrev pub steps_form : Placed → Form
steps_form p = marked_form step_rows step is_mark p

-- in a text whose tokens have no fault
abbrev pub steps_fault : List ℕ → Option Fault
steps_fault text = plan_fault step_rows step is_mark text
