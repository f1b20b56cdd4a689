use Rattle.text_forms.specs.Printing.{bytes_behind}
use Rattle.plan_texts.specs.Declared.{named}
use Rattle.plan_texts.specs.SpellsPddl.{pddl_words}
use Rattle.plan_texts.specs.Printed.{param_words, params_parts}
use Rattle.pddl_printer.proofs.Batches.{added-as, added-of, added-then, added-headed}
use Rattle.pddl_printer.proofs.Each.{typed-each}
use Rattle.pddl_printer.proofs.schemas.PredicateItem.add.Goals as goal

pub returns : goal.returns
returns c =
    added-headed (named c.args.p.now.names c.args.self.now.name) (params_parts (pddl_words c.args.p.now) c.args.self.now.params)
    (added-then c.add.ensures (added-as c.name_word.ensures c.add-2.ensures))
    (added-of (λ xs. bytes_behind (params_parts (pddl_words c.args.p.now) xs)) c.as_slice.ensures.items (added-as (typed-each (param_words (pddl_words c.args.p.now)) c.as_slice.result.now) c.add_items.ensures))
    c.add-3.ensures
