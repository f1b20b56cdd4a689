use Rattle.std.proofs.Common.{map, codes}
use Rattle.text_forms.specs.Lists.{part}
use Rattle.text_forms.specs.Printing.{bytes_behind, headed}
use Rattle.plan_texts.specs.Declared.{named}
use Rattle.plan_texts.specs.SpellsHddl.{hddl_words}
use Rattle.plan_texts.specs.Printed.{all_parts, typed_parts}
use Rattle.plan_texts.specs.PrintedTexts.{action_part, predicate_part, parent_words, object_words}
use Rattle.text_forms.proofs.sheets.Written.{wrote-as, wrote-then}
use Rattle.pddl_printer.specs.Behind.{line, of_each}
use Rattle.pddl_printer.proofs.Each.{behind-each, typed-each}
use Rattle.pddl_printer.proofs.Groups.{wrote-at}
use Rattle.pddl_printer.proofs.Lines.{wrote-line, wrote-page}
use Rattle.hddl_texts.specs.PrintedHddl.{constants_of, hddl_domain_parts, method_part, schema_parts, task_part}
use Rattle.hddl_texts.specs.Texts.{hddl_of}
use Rattle.hddl_texts.proofs.Pieces.{lines-of-three}
use Rattle.hddl_texts.proofs.pages.put_hddl_domain.Goals as goal

pub returns : goal.returns
returns c =
    let p = c.args.p.now in
    let h = hddl_of p in
    let v = hddl_words h in
    let types = typed_parts (map (parent_words v) h.types.parents) in
    let constants = typed_parts (map (object_words v) (constants_of h)) in
    let predicates = all_parts (map (predicate_part v) h.predicates) in
    let tasks = wrote-at (of_each (λ t. line (task_part h t))) c.as_slice-3.ensures.items c.put_lines.ensures in
    let methods = wrote-at (of_each (λ s. line (method_part h s))) c.as_slice-4.ensures.items c.put_lines-2.ensures in
    let actions = wrote-at (of_each (λ a. line (action_part v a))) c.as_slice-5.ensures.items c.put_lines-3.ensures in
    let four = wrote-as (lines-of-three (task_part h) (method_part h) (action_part v) h.tasks h.methods h.actions) (wrote-then tasks (wrote-then methods actions)) in
    let behind_predicates = all_parts (schema_parts h) in
    let three = wrote-line (codes ":predicates") predicates behind_predicates c.put-9.ensures.wrote
    (wrote-at (λ ds. bytes_behind (all_parts (map (predicate_part v) ds))) c.as_slice-2.ensures.items (wrote-as (behind-each (predicate_part v) c.as_slice-2.result.now) c.put_items-2.ensures)) c.put-10.ensures.wrote four in
    let behind_constants = part (headed (codes ":predicates") predicates) behind_predicates in
    let two = wrote-line (codes ":constants") constants behind_constants c.put-7.ensures.wrote (wrote-as (typed-each (object_words v) (constants_of h)) c.put_objects.ensures) c.put-8.ensures.wrote three in
    let behind_types = part (headed (codes ":constants") constants) behind_constants in
    let one = wrote-line (codes ":types") types behind_types c.put-5.ensures.wrote
    (wrote-at (λ xs. bytes_behind (typed_parts (map (parent_words v) xs))) c.as_slice.ensures.items (wrote-as (typed-each (parent_words v) c.as_slice.result.now) c.put_items.ensures)) c.put-6.ensures.wrote two in
    record {
      put = wrote-page (codes "domain") (named h.names h.domain) (hddl_domain_parts h) c.put.ensures.wrote (wrote-as c.name_word.ensures c.put-2.ensures.wrote) c.put-3.ensures.wrote
          (wrote-then c.put-4.ensures.wrote one)
          c.put-11.ensures.wrote;
    }
