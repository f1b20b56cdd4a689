use Rattle.std.proofs.Common.{◌≡◌, List, ◌∷◌, ◌++◌, map, ap, sym, ◌∙◌, append_assoc}
use Rattle.std.proofs.lemmas.List.{nil_from_length}
use Rattle.text_forms.specs.Words.{Word}
use Rattle.text_forms.specs.Printing.{bytes_behind}
use Rattle.plan_texts.specs.SpellsPddl.{pddl_words}
use Rattle.plan_texts.specs.Printed.{param_words, params_parts, typed_parts}
use Rattle.pddl_printer.specs.Behind.{between, typed}
use Rattle.pddl_printer.proofs.Batches.{added-as, added-at, added-group, added-nothing, added-of, added-then}
use Rattle.pddl_printer.proofs.Each.{typed-each}
use Rattle.pddl_printer.proofs.typed_lists.add_variables.Goals as goal
use Rattle.pddl_printer.proofs.typed_lists.add_variables.Goals.{in-Some, in_default}

first-typed : (x : Word × List Word) (xs : List (Word × List Word)) → typed x ++ bytes_behind (typed_parts xs) ≡ between (typed_parts (x ∷ xs))
first-typed x xs = simp append_assoc

pub returns : goal.returns
returns c =
    let v = pddl_words c.args.p.now in
    added-group (params_parts v c.args.params.now) c.add.ensures
    (elim c.match-split_first.branch [
      | in-Some w ↦
          added-at (sym w.batch-is) (sym w.sheet-is)
          (added-as (first-typed (param_words v w.in-Some.first.now) (map (param_words v) w.in-Some.rest.now) ∙ ap (λ xs. between (params_parts v xs)) (sym w.in-Some.ensures.cases.0))
          (added-then w.add_param.ensures (added-as (typed-each (param_words v) w.in-Some.rest.now) w.add_items.ensures)))
      | in_default w ↦
          added-at (sym w.batch-is) (sym w.sheet-is)
          (added-of (λ xs. between (params_parts v xs)) (sym (nil_from_length c.args.params.now w.in_default.ensures.cases)) (added-nothing c.add.new.self c.add.new.sheet))
    ])
    c.add-2.ensures
