use Rattle.std.proofs.Common.{◌*◌, ◌/◌, ◌%◌, ◌^◌, ◌<◌, true, set, bit_or, ◌∙◌, sym, subst, ap, arith}
use Rattle.std.proofs.lemmas.List.{get_or_read}
use Rattle.plan_model.specs.net_order.Words.{marks_of, AreWords}
use Rattle.plan_model.proofs.net_order.Bits.{count_of, word_within, insert_words, insert_marks}
use Rattle.plan_model.proofs.net_order.child_set.ChildSet.insert.Goals as goal

pub index_mut-requires : goal.index_mut-requires
index_mut-requires c =
    let n = count_of c.self.inside.count c.self.inside.words.items c.args.self.now c.self.view_is in
    let l = word_within c.self.inside.count c.self.inside.words.items c.args.child c.self.invariant (omega (arith, c.requires)) in
    let a = c.self.inside.words.ok.0 in
    omega arith

pub invariant_of-self : goal.invariant_of-self
invariant_of-self c =
    let words = c.self.inside.words.items in
    let n = count_of c.self.inside.count words c.args.self.now c.self.view_is in
    let inside : c.args.child < c.self.inside.count = omega (arith, c.requires) in
    let read = get_or_read words (c.args.child / 64) c.index_mut.result.now (word_within c.self.inside.count words c.args.child c.self.invariant inside) c.index_mut.ensures.value 0 in
    subst (λ w. AreWords c.self.inside.count (set words (c.args.child / 64) (bit_or w (1 * 2 ^ (c.args.child % 64) % 2 ^ 64)))) (sym read) (insert_words c.self.inside.count words c.args.child c.self.invariant inside)

pub returns : goal.returns
returns c =
    let words = c.self.inside.words.items in
    let n = count_of c.self.inside.count words c.args.self.now c.self.view_is in
    let inside : c.args.child < c.self.inside.count = omega (arith, c.requires) in
    let read = get_or_read words (c.args.child / 64) c.index_mut.result.now (word_within c.self.inside.count words c.args.child c.self.invariant inside) c.index_mut.ensures.value 0 in
    ap (λ w. marks_of c.self.inside.count (set words (c.args.child / 64) (bit_or w (1 * 2 ^ (c.args.child % 64) % 2 ^ 64)))) read
    ∙ (insert_marks c.self.inside.count words c.args.child c.self.invariant inside ∙ ap (λ m. set m c.args.child true) c.self.view_is)
