use Rattle.std.proofs.Common.{map, refl, sym, ◌∙◌, arith}
use Rattle.std.proofs.lemmas.List.{length-map}
use Rattle.text_forms.specs.Lists.{name}
use Rattle.text_forms.specs.Words.{word_at}
use Rattle.plan_texts.specs.SpellsPddl.{pddl_types}
use Rattle.pddl_printer.specs.Behind.{behind}
use Rattle.pddl_printer.proofs.Batches.{added-as, added-nothing, added-then, each-added-at, each-added-all}
use Rattle.pddl_printer.proofs.Each.{behind-each-made}
use Rattle.pddl_printer.proofs.Typed.{either-bytes, kind-none, union-bytes, one-type, no-type}
use Rattle.pddl_printer.proofs.typed_lists.add_kind.Goals as goal

pub returns-in-None : goal.returns-in-None
returns-in-None c = added-as (c.type_word.ensures ∙ sym (kind-none c.args.p.now c.args.ty c.in-None.ensures)) c.add.ensures

pub returns-in-empty : goal.returns-in-empty
returns-in-empty c =
    added-as (no-type c.args.p.now c.as_slice.result.now (let l = c.in-empty.len_below in omega arith) ∙ union-bytes c.args.p.now c.args.ty c.as_slice.result.now c.in-Some.union.now c.as_slice.ensures.items c.in-Some.ensures)
    (added-nothing c.args.batch.now c.args.sheet.now)

pub returns-in-len1 : goal.returns-in-len1
returns-in-len1 c =
    added-as
    (c.type_word-in-len1.ensures
    ∙ one-type c.args.p.now c.as_slice.result.now _ (let l = c.in-len1.len_below in let k = c.in-len1.len_at_least in omega arith)
    ∙ union-bytes c.args.p.now c.args.ty c.as_slice.result.now c.in-Some.union.now c.as_slice.ensures.items c.in-Some.ensures)
    c.add-in-len1.ensures

pub loop-ty-preserved : goal.loop-ty-preserved
loop-ty-preserved c =
    each-added-at (λ t. behind (name (word_at (pddl_types c.args.p.now) t))) c.as_slice.result.now c.loop-ty.ty-index 0 c.loop-ty-test.true c.loop-ty.invariant
    (added-then c.add-in-loop-ty.ensures (added-as c.type_word-in-loop-ty.ensures c.add-in-loop-ty-2.ensures))

pub returns-after-loop-ty : goal.returns-after-loop-ty
returns-after-loop-ty c =
    let p = c.args.p.now in let types = c.as_slice.result.now in
    added-as
    (either-bytes (map (word_at (pddl_types p)) types) (let l = c.in_default.len_at_least in let m = length-map types (word_at (pddl_types p)) in omega arith)
    ∙ union-bytes p c.args.ty types c.in-Some.union.now c.as_slice.ensures.items c.in-Some.ensures)
    (added-then c.add-in_default.ensures
    (added-then
    (added-as (behind-each-made name (word_at (pddl_types p)) types)
    (each-added-all (λ t. behind (name (word_at (pddl_types p) t))) types c.loop-ty.ty-index c.loop-ty-test.false refl c.loop-ty.invariant))
    c.add-in_default-2.ensures))
