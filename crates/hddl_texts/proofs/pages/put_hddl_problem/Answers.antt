use Rattle.std.proofs.Common.{[], map, codes}
use Rattle.text_forms.specs.Lists.{name, nothing, part}
use Rattle.text_forms.specs.Printing.{headed}
use Rattle.plan_texts.specs.Declared.{named}
use Rattle.plan_texts.specs.SpellsHddl.{hddl_words}
use Rattle.plan_texts.specs.Printed.{all_parts, formula_part, typed_parts}
use Rattle.plan_texts.specs.PrintedTexts.{fact_part, object_words}
use Rattle.text_forms.proofs.sheets.Written.{wrote-as, wrote-nothing}
use Rattle.pddl_printer.proofs.Each.{behind-each, typed-each}
use Rattle.pddl_printer.proofs.Groups.{wrote-one}
use Rattle.pddl_printer.proofs.Lines.{wrote-line, wrote-named-line, wrote-page}
use Rattle.hddl_texts.specs.PrintedHddl.{hddl_problem_parts, network_parts, others_of, top_part, variables_part}
use Rattle.hddl_texts.specs.Texts.{hddl_of}
use Rattle.hddl_texts.proofs.pages.put_hddl_problem.Goals as goal

pub returns : goal.returns
returns c =
    let p = c.args.p.now in
    let h = hddl_of p in
    let v = hddl_words h in
    let wanted = formula_part v h.goal [] in
    let facts = all_parts (map (fact_part v) h.init) in
    let network = part (name (codes ":parameters")) (part (variables_part h h.top.params) (network_parts h h.top)) in
    let objects = typed_parts (map (object_words v) (others_of h)) in
    let goal_line = wrote-line (codes ":goal") (part wanted nothing) nothing c.put-13.ensures.wrote (wrote-one wanted c.put_formula.ensures) c.put-14.ensures.wrote (wrote-nothing c.put-14.new.self) in
    let behind_init = part (headed (codes ":goal") (part wanted nothing)) nothing in
    let init = wrote-line (codes ":init") facts behind_init c.put-11.ensures.wrote (wrote-as (behind-each (fact_part v) h.init) c.put_facts.ensures) c.put-12.ensures.wrote goal_line in
    let behind_htn = part (headed (codes ":init") facts) behind_init in
    let htn = wrote-line (codes ":htn") network behind_htn c.put-9.ensures.wrote c.put_top.ensures c.put-10.ensures.wrote init in
    let behind_objects = part (top_part h h.top) behind_htn in
    let others = wrote-line (codes ":objects") objects behind_objects c.put-7.ensures.wrote (wrote-as (typed-each (object_words v) (others_of h)) c.put_objects.ensures) c.put-8.ensures.wrote htn in
    let behind_domain = part (headed (codes ":objects") objects) behind_objects in
    let body = wrote-named-line (codes ":domain") (named h.names h.domain) behind_domain c.put-4.ensures.wrote (wrote-as c.name_word-2.ensures c.put-5.ensures.wrote) c.put-6.ensures.wrote others in
    record {
      put = wrote-page (codes "problem") (named h.names h.problem) (hddl_problem_parts h) c.put.ensures.wrote (wrote-as c.name_word.ensures c.put-2.ensures.wrote) c.put-3.ensures.wrote body c.put-15.ensures.wrote;
    }
