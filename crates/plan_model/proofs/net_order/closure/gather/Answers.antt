use Rattle.std.proofs.Common.{◌≡◌, ◌+◌, ◌<◌, length, [], true, take, get_or, get_or-take, length-take, length-set, sym, subst, ap, ◌∙◌, arith}
use Rattle.std.proofs.lemmas.List.{get_or_read}
use Rattle.plan_model.specs.net_order.Marks.{Marked}
use Rattle.plan_model.specs.net_order.Outside.{AreWithinFrom, IsLastOutside}
use Rattle.plan_model.proofs.net_order.Closing.{gathered_from, gathered_all, gathered_more, gathered_is}
use Rattle.plan_model.proofs.net_order.closure.gather.Goals as goal

pub last_outside-requires-clause-room : goal.last_outside-requires-clause-room
last_outside-requires-clause-room c =
    let row = get_or_read c.args.before.now c.args.child c.index-before-child.result c.requires.within c.index-before-child.is [] in
    c.loop-p.invariant.gathered.room ∙ sym (ap length row ∙ c.requires.square.marks c.args.child c.requires.within)

pub last_outside-requires-clause-children : goal.last_outside-requires-clause-children
last_outside-requires-clause-children c i d l =
    let before = c.args.before.now in
    let earlier = c.args.earlier.now in
    let row = get_or_read before c.args.child c.index-before-child.result c.requires.within c.index-before-child.is [] in
    let room : length c.index-before-child.result ≡ length before = ap length row ∙ c.requires.square.marks c.args.child c.requires.within in
    let m = length-take c.loop-p.end earlier in
    subst (λ x. x < length c.index-before-child.result) (sym (get_or-take c.loop-p.end earlier i d (omega arith)))
    (subst (λ n. get_or earlier i d < n) (sym room) (c.requires.earlier i d (omega arith)))

pub loop-p-preserved : goal.loop-p-preserved
loop-p-preserved c =
    let before = c.args.before.now in
    let earlier = c.args.earlier.now in
    let child = c.args.child in
    let both = c.insert_all.new.self in
    let p = c.in-Some.p in
    let other = get_or earlier p 0 in
    let row = get_or_read before child c.index-before-child.result c.requires.within c.index-before-child.is [] in
    let is = subst (λ s. IsLastOutside s c.loop-p.set (take c.loop-p.end earlier) c.in-Some.p) row c.in-Some.ensures.last in
    let n = length-take c.loop-p.end earlier in
    let below : c.in-Some.p < c.loop-p.end = let a = is.place in omega (arith, n) in
    let l : c.in-Some.p < length c.args.earlier.now = let b = c.loop-p.invariant.within in omega arith in
    let within = c.requires.earlier c.in-Some.p 0 l in
    let h = gathered_from before earlier child c.loop-p.end (c.in-Some.p + 1) c.loop-p.set c.loop-p.invariant.within c.loop-p.invariant.gathered is.later in
    let room : length both ≡ length c.args.before.now = c.insert_all.ensures.room ∙ c.loop-p.invariant.gathered.room in
    let mark : Marked c.args.before.now other c.args.child = subst (λ x. Marked c.args.before.now x c.args.child) (get_or-take c.loop-p.end earlier c.in-Some.p 0 below) is.inside in
    let other_row = get_or_read before other c.index-before-other.result within c.index-before-other.is [] in
    record {
      within = let b = l in omega arith;
      gathered = gathered_more before earlier child c.in-Some.p l c.loop-p.set h c.requires.closed mark c.insert.new.self
          (ap length c.insert.ensures ∙ (length-set both other true ∙ room))
          (gathered_is before c.loop-p.set both c.index-before-other.result c.insert.new.self other (omega arith) c.insert.ensures other_row c.insert_all.ensures.union);
    }

pub returns-clause-gathered : goal.returns-clause-gathered
returns-clause-gathered c =
    let before = c.args.before.now in
    let earlier = c.args.earlier.now in
    let row = get_or_read before c.args.child c.index-before-child.result c.requires.within c.index-before-child.is [] in
    let none = subst (λ s. AreWithinFrom 0 (take c.loop-p.end earlier) s c.loop-p.set) row c.in_default.ensures.last in
    gathered_all before earlier c.args.child c.loop-p.set (gathered_from before earlier c.args.child c.loop-p.end 0 c.loop-p.set c.loop-p.invariant.within c.loop-p.invariant.gathered none)
