use Rattle.std.proofs.Common.{sym, ◌∙◌, ap, subst, take}
use Rattle.hddl_reader.specs.declared.sections.Definition.TheVariants as definition
use Rattle.hddl_reader.specs.Definitions.{refusal, Refuses}
use Rattle.hddl_reader.proofs.Refusals.{is_read, refuses}
use Rattle.hddl_reader.proofs.definitions.domain.Goals as goal

pub returns-in-Ok-clause-read : goal.returns-in-Ok-clause-read
returns-in-Ok-clause-read c =
    ((c.in-Ok.name, c.in-Ok.sections), c.into_domain.ensures, is_read c.args.language c.args.names.now c.args.s.now definition.Domain (c.in-Ok.name, c.in-Ok.sections) c.definition_of.new.names c.in-Ok.ensures.gives)

pub returns-in-Err-clause-refused : goal.returns-in-Err-clause-refused
returns-in-Err-clause-refused c =
    subst (Refuses c.args.language definition.Domain c.args.s.now c.args.file)
    (sym (c.refusal.ensures ∙ ap (λ n. refusal c.args.file n c.in-Err.failure) c.text_len.ensures.bytes))
    (refuses c.args.language c.args.names.now c.args.s.now definition.Domain c.args.file c.in-Err.failure c.in-Err.ensures.gives)

pub returns-in-Err-clause-unchanged : goal.returns-in-Err-clause-unchanged
returns-in-Err-clause-unchanged c = c.truncate.ensures.words ∙ ap (λ n. take n c.definition_of.new.names) c.len-known.ensures.length ∙ c.definition_of.ensures.keeps
