use Rattle.std.proofs.Common.{◌/◌, ◌%◌, eqb, ◌∙◌, sym, ap, arith}
use Rattle.std.specs.Int.{bit_at}
use Rattle.std.proofs.lemmas.List.{get_or_read}
use Rattle.std.proofs.lemmas.Nat.Bits.{shr_and_one}
use Rattle.plan_model.proofs.net_order.Bits.{count_of, reads, word_within}
use Rattle.plan_model.proofs.net_order.child_set.ChildSet.contains.Goals as goal

pub index-requires : goal.index-requires
index-requires c =
    let n = count_of c.self.inside.count c.self.inside.words.items c.args.self.now c.self.view_is in
    let l = word_within c.self.inside.count c.self.inside.words.items c.args.child c.self.invariant (omega (arith, c.requires)) in
    let a = c.self.inside.words.ok.0 in
    omega arith

pub returns : goal.returns
returns c =
    let words = c.self.inside.words.items in
    let n = count_of c.self.inside.count words c.args.self.now c.self.view_is in
    let l = word_within c.self.inside.count words c.args.child c.self.invariant (omega (arith, c.requires)) in
    let read = get_or_read words (c.args.child / 64) c.index.result.now l c.index.ensures 0 in
    ap (λ b. eqb b 1) (shr_and_one c.index.result.now (c.args.child % 64))
    ∙ (ap (λ w. eqb (bit_at w (c.args.child % 64)) 1) read ∙ sym (reads c.self.inside.count words c.args.self.now c.self.view_is c.self.invariant c.args.child))
