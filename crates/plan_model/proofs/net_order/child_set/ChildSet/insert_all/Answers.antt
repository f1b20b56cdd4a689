use Rattle.std.proofs.Common.{◌≡◌, ◌<◌, ◌≤◌, ◌||◌, length, get_or, bit_or, ◌∙◌, sym, subst, ap, arith, below_more, length-set, get_or-set_same, get_or-set_other}
use Rattle.std.proofs.lemmas.List.{get_or_read}
use Rattle.plan_model.specs.net_order.Marks.{has}
use Rattle.plan_model.specs.net_order.Words.{marks_of, AreWords}
use Rattle.plan_model.proofs.net_order.Bits.{length-marks_of, count_of, same_count, same_room, or_words, or_marks}
use Rattle.plan_model.proofs.net_order.child_set.ChildSet.insert_all.Goals as goal

module _ (c : goal.After-loop-k) where
  counts : c.other.inside.count ≡ c.self.inside.count
  counts = same_count c.self.inside.count c.self.inside.words.items c.args.self.now c.other.inside.count c.other.inside.words.items c.args.other.now c.self.view_is c.other.view_is c.requires

  room : length c.other.inside.words.items ≡ length c.self.inside.words.items
  room = same_room c.self.inside.count c.self.inside.words.items c.args.self.now c.other.inside.count c.other.inside.words.items c.args.other.now c.self.view_is c.other.view_is c.self.invariant c.other.invariant c.requires

  end : length c.self.inside.words.items ≤ c.loop-k.k
  end = let a = c.self.inside.words.ok.0 in omega (arith, c.len-k-end.ensures, c.loop-k-test.false)

  words : AreWords c.self.inside.count c.other.inside.words.items
  words = subst (λ n. AreWords n c.other.inside.words.items) counts c.other.invariant

pub invariant_of-self : goal.invariant_of-self
invariant_of-self c =
    let old = c.self.inside.words.items in
    let other = c.other.inside.words.items in
    let new = c.loop-k.self-inside.words.items in
    subst (λ n. AreWords n new) (sym c.loop-k.invariant.count) (or_words c.self.inside.count old other new c.loop-k.k c.loop-k.invariant.room (room c) (end c) c.loop-k.invariant.done c.self.invariant (words c))

pub index-requires : goal.index-requires
index-requires c =
    let room = same_room c.self.inside.count c.self.inside.words.items c.args.self.now c.other.inside.count c.other.inside.words.items c.args.other.now c.self.view_is c.other.view_is c.self.invariant c.other.invariant c.requires in
    let a = c.other.inside.words.ok.0 in
    let b = c.self.inside.words.ok.0 in
    omega (arith, c.len-k-end.ensures, c.loop-k-test.true)

pub loop-k-preserved : goal.loop-k-preserved
loop-k-preserved c =
    let old = c.self.inside.words.items in
    let other = c.other.inside.words.items in
    let now = c.loop-k.self-inside.words.items in
    let k = c.loop-k.k in
    let word = bit_or c.index_mut.result.now c.index.result.now in
    let room = same_room c.self.inside.count c.self.inside.words.items c.args.self.now c.other.inside.count c.other.inside.words.items c.args.other.now c.self.view_is c.other.view_is c.self.invariant c.other.invariant c.requires in
    let a = c.self.inside.words.ok.0 in
    let l : c.loop-k.k < length c.self.inside.words.items = omega (arith, c.len-k-end.ensures, c.loop-k-test.true) in
    let mine = get_or_read now k c.index_mut.result.now (let r = c.loop-k.invariant.room in omega arith) c.index_mut.ensures.value 0 ∙ c.loop-k.invariant.later k (omega arith) in
    let theirs = get_or_read other k c.index.result.now (omega arith) c.index.ensures 0 in
    record {
      count = c.loop-k.invariant.count;
      room = length-set now k word ∙ c.loop-k.invariant.room;
      done = below_more _ _ (λ i b. (get_or-set_other now k i word 0 (omega arith) ∙ c.loop-k.invariant.done i b))
          (get_or-set_same now k word 0 (let r = c.loop-k.invariant.room in omega arith) ∙ (ap (λ x. bit_or x c.index.result.now) mine ∙ ap (λ y. bit_or (get_or old k 0) y) theirs));
      later = λ i b. (get_or-set_other now k i word 0 (omega arith) ∙ c.loop-k.invariant.later i (omega arith));
    }

pub returns-clause-room : goal.returns-clause-room
returns-clause-room c =
    length-marks_of c.loop-k.self-inside.count c.loop-k.self-inside.words.items ∙ (c.loop-k.invariant.count ∙ sym (count_of c.self.inside.count c.self.inside.words.items c.args.self.now c.self.view_is))

pub returns-clause-union : goal.returns-clause-union
returns-clause-union c i =
    let old = c.self.inside.words.items in
    let other = c.other.inside.words.items in
    let new = c.loop-k.self-inside.words.items in
    let count = c.self.inside.count in
    ap (λ n. has (marks_of n new) i) c.loop-k.invariant.count
    ∙ (or_marks count old other new c.loop-k.k c.loop-k.invariant.room (room c) (end c) c.loop-k.invariant.done c.self.invariant (words c) i
    ∙ (ap (λ m. has m i || has (marks_of count other) i) c.self.view_is ∙ ap (λ m. has c.args.self.now i || has m i) (ap (λ n. marks_of n other) (sym (counts c)) ∙ c.other.view_is)))
