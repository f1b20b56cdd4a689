use Rattle.std.proofs.Common.{sym}
use Rattle.plan_texts.specs.Declared.{named}
use Rattle.plan_model.specs.declared.schemas.Predicate.{Predicate}
use Rattle.pddl_printer.proofs.Places.{at-none}
use Rattle.pddl_printer.proofs.words.predicate_word.Goals as goal

pub returns-in-None : goal.returns-in-None
returns-in-None c = sym (at-none (λ (d : Predicate). named c.args.p.now.names d.name) c.args.p.now.predicates c.args.predicate c.in-None.ensures.item)
