-- What is put of the actions one after another.
use Rattle.std.proofs.Common.{ℕ, ◌≡◌, ◌<◌, ◌+◌, List, Some, length, take, slice_get, sym}
use Rattle.std.proofs.lemmas.Option.{get_or_from_slice_get}
use Rattle.plan_model.specs.declared.schemas.ActionSchema.{ActionSchema}
use Rattle.plan_texts.specs.SpellsPddl.{pddl_words}
use Rattle.plan_texts.specs.PrintedTexts.{action_part}
use Rattle.text_forms.specs.sheets.Sheets.{Wrote}
use Rattle.text_forms.specs.declared.sheets.sheet.Sheet.{Sheet}
use Rattle.text_forms.proofs.sheets.Written.{wrote-as}
use Rattle.pddl_printer.specs.Behind.{line, of_each}
use Rattle.pddl_printer.specs.InForm.{action_in}
use Rattle.pddl_printer.specs.Measured.{range_of}
use Rattle.pddl_printer.specs.Texts.{action_text}
use Rattle.pddl_printer.proofs.Each.{each-next, lines-each-made}
use Rattle.problem_texts.specs.Pages.{actions, actions_in}
use Rattle.problem_texts.specs.declared.pages.Pages.{Pages}

-- action k is put on a sheet
abbrev pub PutsAction : Pages → ℕ → Sheet → Sheet → Type 0
PutsAction pages k old new =
    (a : ActionSchema) × (slice_get (actions pages) k ≡ Some a) × Wrote (action_text pages.encoding.now.head (range_of pages.written) a) old new

module _ (pages : Pages) where
  abbrev line_of : ActionSchema → List ℕ
  line_of a = line (action_part (pddl_words pages.encoding.now.head) (action_in (range_of pages.written) a))

  by-lines : (as' : List ActionSchema) → of_each line_of as' ≡ actions_in pages as'
  by-lines as' = lines-each-made (action_part (pddl_words pages.encoding.now.head)) (action_in (range_of pages.written)) as'

  -- one action more
  pub actions-next : (k : ℕ) {s t u : Sheet} → k < length (actions pages) → Wrote (actions_in pages (take k (actions pages))) s t → PutsAction pages k t u → Wrote (actions_in pages (take (k + 1) (actions pages))) s u
  actions-next k l v (a, is, w) =
      wrote-as (by-lines (take (k + 1) (actions pages)))
      (each-next line_of (actions pages) k a l (sym (get_or_from_slice_get (actions pages) k a a is)) (wrote-as (sym (by-lines (take k (actions pages)))) v) w)
