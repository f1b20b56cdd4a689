use Rattle.std.proofs.Common.{subst}
use Rattle.text_forms.proofs.sexpr_text.Found.{Tells, tells}
use Rattle.text_forms.proofs.sexpr_text.sexprs.refusal.Goals as goal

pub unreachable-requires : goal.unreachable-requires
unreachable-requires c =
    c.requires.faulty (subst (Tells c.args.source.now c.args.file) c.in-Ok-None.field-0-is (tells c.args.source.now c.args.file c.in-Ok-None.field-0 c.in-Ok-None.ensures.least))

pub returns-in-Ok-Some : goal.returns-in-Ok-Some
returns-in-Ok-Some c = record {
  refused = subst (Tells c.args.source.now c.args.file) c.in-Ok-Some.field-0-is (tells c.args.source.now c.args.file c.in-Ok-Some.field-0 c.in-Ok-Some.ensures.least);
}
