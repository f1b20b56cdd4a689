-- What is put of the actions one after another.
use Rattle.std.proofs.Common.{ℕ, ◌≡◌, ◌<◌, ◌+◌, List, Some, None, length, take, slice_get, sym}
use Rattle.std.proofs.lemmas.Option.{get_or_from_slice_get}
use Rattle.plan_model.specs.declared.schemas.ActionSchema.{ActionSchema}
use Rattle.plan_model.specs.declared.values.Compiled.{Compiled}
use Rattle.plan_texts.specs.SpellsPddl.{pddl_words}
use Rattle.plan_texts.specs.PrintedTexts.{action_part}
use Rattle.text_forms.specs.sheets.Sheets.{Wrote}
use Rattle.text_forms.specs.declared.sheets.sheet.Sheet.{Sheet}
use Rattle.text_forms.proofs.sheets.Written.{wrote-as}
use Rattle.pddl_printer.specs.Behind.{line, of_each}
use Rattle.pddl_printer.specs.InForm.{action_in}
use Rattle.pddl_printer.specs.Texts.{action_text}
use Rattle.pddl_printer.proofs.Each.{each-next, lines-each-made}
use Rattle.stack_encoder.specs.Heads.{all_actions, actions_put}
use Rattle.stack_encoder.specs.declared.encoding.StackEncoding.{StackEncoding}

module _ (c : Compiled) (e : StackEncoding) where
  abbrev line_of : ActionSchema → List ℕ
  line_of a = line (action_part (pddl_words e.head) (action_in None a))

  by-lines : (as' : List ActionSchema) → of_each line_of as' ≡ actions_put e as'
  by-lines as' = lines-each-made (action_part (pddl_words e.head)) (action_in None) as'

  -- one action more
  pub actions-next : (k : ℕ) (a : ActionSchema) {s t u : Sheet} → k < length (all_actions c e) → Wrote (actions_put e (take k (all_actions c e))) s t
      → slice_get (all_actions c e) k ≡ Some a → Wrote (action_text e.head None a) t u → Wrote (actions_put e (take (k + 1) (all_actions c e))) s u
  actions-next k a l v is w =
      wrote-as (by-lines (take (k + 1) (all_actions c e)))
      (each-next line_of (all_actions c e) k a l (sym (get_or_from_slice_get (all_actions c e) k a a is)) (wrote-as (sym (by-lines (take k (all_actions c e)))) v) w)
