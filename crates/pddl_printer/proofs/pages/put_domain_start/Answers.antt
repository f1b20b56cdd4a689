use Rattle.std.proofs.Common.{map, codes}
use Rattle.text_forms.specs.Lists.{nothing, part}
use Rattle.text_forms.specs.Printing.{bytes_behind, headed}
use Rattle.plan_texts.specs.SpellsPddl.{pddl_words}
use Rattle.plan_texts.specs.Printed.{all_parts, typed_parts}
use Rattle.plan_texts.specs.PrintedTexts.{predicate_part, parent_words, object_words}
use Rattle.text_forms.proofs.sheets.Written.{wrote-as, wrote-nothing, wrote-then}
use Rattle.pddl_printer.proofs.Each.{behind-each, typed-each}
use Rattle.pddl_printer.proofs.Groups.{wrote-at}
use Rattle.pddl_printer.proofs.Lines.{wrote-line}
use Rattle.pddl_printer.proofs.pages.put_domain_start.Goals as goal

pub returns : goal.returns
returns c =
    let v = pddl_words c.args.p.now in
    let types = typed_parts (map (parent_words v) c.args.p.now.types.parents) in
    let constants = typed_parts (map (object_words v) c.args.p.now.objects) in
    let predicates = all_parts (map (predicate_part v) c.args.p.now.predicates) in
    let three = wrote-line (codes ":predicates") predicates nothing c.put-9.ensures.wrote (wrote-at (λ ds. bytes_behind (all_parts (map (predicate_part v) ds))) c.as_slice-3.ensures.items (wrote-as (behind-each (predicate_part v) c.as_slice-3.result.now) c.put_items-3.ensures)) c.put-10.ensures.wrote (wrote-nothing c.put-10.new.self) in
    let two = wrote-line (codes ":constants") constants (part (headed (codes ":predicates") predicates) nothing) c.put-7.ensures.wrote (wrote-at (λ xs. bytes_behind (typed_parts (map (object_words v) xs))) c.as_slice-2.ensures.items (wrote-as (typed-each (object_words v) c.as_slice-2.result.now) c.put_items-2.ensures)) c.put-8.ensures.wrote three in
    let head =
    wrote-then c.put-4.ensures.wrote (wrote-line (codes ":types") types (part (headed (codes ":constants") constants) (part (headed (codes ":predicates") predicates) nothing)) c.put-5.ensures.wrote (wrote-at (λ xs. bytes_behind (typed_parts (map (parent_words v) xs))) c.as_slice.ensures.items (wrote-as (typed-each (parent_words v) c.as_slice.result.now) c.put_items.ensures)) c.put-6.ensures.wrote two) in
    record { put = wrote-then c.put.ensures.wrote (wrote-then (wrote-as c.name_word.ensures c.put-2.ensures.wrote) (wrote-then c.put-3.ensures.wrote head)) }
