use Rattle.std.proofs.Common.{ℕ, List, [], ◌<◌, map, refl, subst, rules}
use Rattle.text_forms.specs.Words.{word_at}
use Rattle.plan_texts.specs.SpellsPddl.{pddl_words}
use Rattle.plan_texts.specs.Printed.{all_parts, term_part}
use Rattle.plan_model.specs.declared.terms.Term.TheVariants.{Obj}
use Rattle.plan_model.specs.declared.values.Pddl.{Pddl}
use Rattle.htn_base.proofs.ReadAt.{read_is, none_read}
use Rattle.pddl_printer.specs.Behind.{behind}
use Rattle.pddl_printer.proofs.Batches.{added-as, added-then, added-headed, each-added, each-added-all}
use Rattle.pddl_printer.proofs.Each.{behind-each-made}
use Rattle.pddl_printer.proofs.facts.add_fact.Goals as goal
use Rattle.pddl_printer.proofs.facts.add_fact.Goals.{in-Some, in_default}

abbrev object_text : Pddl → ℕ → List ℕ
object_text p o = behind (term_part (pddl_words p) [] (Obj o))

pub loop-j-preserved : goal.loop-j-preserved
loop-j-preserved c =
    let objects = c.fact.inside.args in
    let j = c.loop-j.j in
    let within = subst (λ n. j < n) c.len-j-end.ensures.length c.loop-j-test.true in
    elim c.match-get.branch [
      | in-Some w ↦ rw (w.batch-is, w.sheet-is) (each-added (object_text c.args.p.now) objects j w.in-Some.object within
          (read_is objects j c.get.result c.get.ensures.number w.in-Some.object w.in-Some.is) c.loop-j.invariant
          (added-then w.add-in-Some.ensures (added-as w.object_word.ensures w.add-in-Some-2.ensures)))
      | in_default w ↦ absurd (none_read objects j c.get.result c.get.ensures.number within w.in_default.is)
    ]

pub returns : goal.returns
returns c =
    let words = pddl_words c.args.p.now in
    let inside = c.fact.inside in
    let objects =
    added-as (behind-each-made (term_part words []) (λ x. Obj x) inside.args)
    (each-added-all (object_text c.args.p.now) inside.args c.loop-j.j (search rules) refl c.loop-j.invariant) in
    rw (← c.fact.view_is) (added-headed (word_at words.predicates inside.predicate) (all_parts (map (term_part words []) (map (λ x. Obj x) inside.args)))
    (added-then c.add.ensures (added-as c.predicate_word.ensures c.add-2.ensures))
    objects
    c.add-3.ensures)
