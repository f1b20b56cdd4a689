use Rattle.std.proofs.Common.{None, sym, arith, rules}
use Rattle.text_forms.proofs.sheets.Written.{wrote-as, wrote-then}
use Rattle.pddl_printer.proofs.DomainPages.{domain-is}
use Rattle.stack_encoder.proofs.Ended.{is-appended}
use Rattle.stack_encoder.specs.Heads.{value_of}
use Rattle.stack_encoder.proofs.printing.append_domain.Goals as goal

pub returns : goal.returns
returns c =
    let put = wrote-as (sym (domain-is None (value_of c.args.c.now c.args.encoding.now))) (wrote-then c.put_domain_start.ensures.put (wrote-then c.in_ok-put_actions.ensures c.put.ensures.wrote)) in
    let one = c.new-sheet.ensures.same_text in
    let other = put.same_text in
    is-appended c.new-sheet.ensures.fresh put _ (search rules) c.answer.result (λ n e. (let counted = rw e at c.answer.type_inv in omega (arith, counted))) c.answer.ensures.ended
