use Rattle.std.proofs.Common.{None, sym}
use Rattle.plan_texts.specs.SpellsPddl.{pddl_words}
use Rattle.plan_texts.specs.PrintedTexts.{action_part}
use Rattle.pddl_printer.specs.Behind.{line}
use Rattle.pddl_printer.specs.InForm.{action_in}
use Rattle.pddl_printer.specs.Texts.{actions_text}
use Rattle.text_forms.proofs.sheets.Written.{wrote-as, wrote-then}
use Rattle.pddl_printer.proofs.Each.{each-next, each-done, lines-each-made}
use Rattle.pddl_printer.proofs.Groups.{wrote-at}
use Rattle.pddl_printer.proofs.DomainPages.{domain-is}
use Rattle.pddl_printer.proofs.pages.put_domain.Goals as goal

pub loop-action-preserved : goal.loop-action-preserved
loop-action-preserved c =
    each-next (λ a. line (action_part (pddl_words c.args.p.now) (action_in None a))) c.as_slice-actions.result.now c.loop-action.action-index c.action-item.result c.loop-action-test.true c.action-item.is
    c.loop-action.invariant c.put_action.ensures.put

pub returns : goal.returns
returns c =
    let p = c.args.p.now in let v = pddl_words p in
    let each =
    each-done (λ a. line (action_part v (action_in None a))) c.as_slice-actions.result.now c.loop-action.action-index c.loop-action-test.false c.loop-action.invariant in
    let actions = wrote-at (actions_text p None) c.as_slice-actions.ensures.items (wrote-as (lines-each-made (action_part v) (action_in None) c.as_slice-actions.result.now) each) in
    wrote-as (sym (domain-is None p)) (wrote-then c.put_domain_start.ensures.put (wrote-then actions c.put.ensures.wrote))
