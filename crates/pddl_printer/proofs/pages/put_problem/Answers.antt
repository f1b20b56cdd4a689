use Rattle.std.proofs.Common.{[], map, codes, ap, ◌∙◌, sym}
use Rattle.text_forms.specs.Lists.{nothing, part, joined}
use Rattle.text_forms.specs.Printing.{headed}
use Rattle.plan_texts.specs.Declared.{named}
use Rattle.plan_texts.specs.SpellsPddl.{pddl_words}
use Rattle.plan_texts.specs.Printed.{all_parts, formula_part}
use Rattle.plan_texts.specs.PrintedTexts.{fact_part, problem_text}
use Rattle.pddl_printer.specs.Measured.{range_of}
use Rattle.pddl_printer.specs.InForm.{condition_in, value_in}
use Rattle.pddl_printer.specs.LowerFacts.{facts_of, with_facts}
use Rattle.pddl_printer.specs.Texts.{fact_text}
use Rattle.pddl_printer.specs.Heads.{problem_head}
use Rattle.text_forms.proofs.sheets.Written.{wrote-as, wrote-nothing, wrote-then}
use Rattle.pddl_printer.proofs.Each.{behind-each, of_each-append}
use Rattle.pddl_printer.proofs.Groups.{wrote-one}
use Rattle.pddl_printer.proofs.Heads.{wrote-head}
use Rattle.pddl_printer.proofs.LowerRows.{with_lower-is}
use Rattle.pddl_printer.proofs.Lines.{wrote-line, wrote-named-line, wrote-page}
use Rattle.pddl_printer.proofs.Forms.{goal_parts, problem-in}
use Rattle.pddl_printer.proofs.pages.put_problem.Goals as goal

pub returns : goal.returns
returns c =
    let own = c.args.p.now in
    let more = facts_of c.args.lower in
    let p = with_facts own more in
    let v = pddl_words p in
    let facts = all_parts (map (fact_part v) p.init) in
    let init = wrote-line (codes ":init") facts nothing c.put-8.ensures.wrote
    (wrote-as (sym (of_each-append (fact_text own) own.init more) ∙ behind-each (fact_part v) p.init) (wrote-then c.put_facts.ensures c.put_lower.ensures)) c.put-9.ensures.wrote (wrote-nothing c.put-9.new.self) in
    let head =
    wrote-named-line (codes ":domain") (named p.names p.domain) (part (headed (codes ":objects") nothing) (part (headed (codes ":init") facts) nothing)) c.put-4.ensures.wrote
    (wrote-as c.name_word-2.ensures c.put-5.ensures.wrote) c.put-6.ensures.wrote (wrote-then c.put-7.ensures.wrote init) in
    let wanted = formula_part v (condition_in (range_of c.args.written) 0 p.goal) [] in
    let line = wrote-line (codes ":goal") (part wanted nothing) nothing c.put-10.ensures.wrote (wrote-one wanted c.put_condition.ensures) c.put-11.ensures.wrote (wrote-nothing c.put-11.new.self) in
    record {
      put = wrote-as (problem-in (range_of c.args.written) p ∙ ap (λ z. problem_text (value_in (range_of c.args.written) z)) (with_lower-is c.args.lower own))
          (wrote-page (codes "problem") (named p.names p.problem) (joined (problem_head p) (goal_parts (range_of c.args.written) p)) c.put.ensures.wrote (wrote-as c.name_word.ensures c.put-2.ensures.wrote) c.put-3.ensures.wrote
          (wrote-head (problem_head p) (goal_parts (range_of c.args.written) p) head line)
          c.put-12.ensures.wrote);
    }
