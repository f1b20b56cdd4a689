use Rattle.std.proofs.Common.{◌≡◌, sym, ◌∙◌, subst}
use Rattle.htn_base.specs.Words.{folded}
use Rattle.hddl_reader.specs.Parts.{part_of}
use Rattle.hddl_reader.proofs.PartSteps.{method_rest}
use Rattle.hddl_reader.proofs.parts.part_of.Goals as goal

pub returns-else-is_word-5 : goal.returns-else-is_word-5
returns-else-is_word-5 c =
    let rest = method_rest (folded c.args.word.now) (sym c.is_word.ensures.same ∙ c.if-is_word.false) (sym c.is_word-in-Method.ensures.same ∙ c.if-is_word-4.false) (sym c.is_word-else-is_word-4.ensures.same ∙ c.if-is_word-5.false) in
    record { part = subst (λ kind. c.network_part.result ≡ part_of kind (folded c.args.word.now)) (sym c.in-Method.is) (c.network_part.ensures ∙ sym rest) }
