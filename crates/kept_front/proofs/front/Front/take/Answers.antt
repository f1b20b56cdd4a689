use Rattle.std.proofs.Common.{◌∙◌, ap, sym, subst, arith}
use Rattle.slot_machine.specs.Machine.{with_heir}
use Rattle.kept_front.specs.Fronts.{IsWholeAt}
use Rattle.kept_front.proofs.Taking.{grown_sized, heir_fits, are_slots, taken_of, whole_of}
use Rattle.kept_front.proofs.front.Front.take.Goals as goal

pub child_slots-requires : goal.child_slots-requires
child_slots-requires c =
    let (b, acts, a, may) = c.requires.may in
    record { heir = heir_fits c.args.c.now c.requires.lawful b acts a c.args.self.now c.args.slot c.args.new.now c.args.label may c.heir.result c.heir.ensures }

pub grow-requires-clause-slots : goal.grow-requires-clause-slots
grow-requires-clause-slots c =
    let (b, acts, a, may) = c.requires.may in
    (are_slots c.args.c.now c.requires.lawful b acts a c.args.self.now c.args.slot c.args.new.now c.args.label may c.in_ok-slots.slots.items
    (c.in_ok-slots.ensures ∙ ap (λ o. with_heir o c.args.slot c.args.new.now) c.heir.ensures)).within

pub grow-requires-clause-different : goal.grow-requires-clause-different
grow-requires-clause-different c =
    let (b, acts, a, may) = c.requires.may in
    (are_slots c.args.c.now c.requires.lawful b acts a c.args.self.now c.args.slot c.args.new.now c.args.label may c.in_ok-slots.slots.items
    (c.in_ok-slots.ensures ∙ ap (λ o. with_heir o c.args.slot c.args.new.now) c.heir.ensures)).differ

pub grow-requires-clause-few : goal.grow-requires-clause-few
grow-requires-clause-few c =
    let (b, acts, a, may) = c.requires.may in
    let f = (are_slots c.args.c.now c.requires.lawful b acts a c.args.self.now c.args.slot c.args.new.now c.args.label may c.in_ok-slots.slots.items
    (c.in_ok-slots.ensures ∙ ap (λ o. with_heir o c.args.slot c.args.new.now) c.heir.ensures)).few in
    let g = c.requires.few_new in
    omega arith

pub walk-requires-clause-whole : goal.walk-requires-clause-whole
walk-requires-clause-whole c =
    let (b, acts, a, may) = c.requires.may in (
      b,
      acts,
      a,
      subst (λ k. IsWholeAt c.args.c.now b c.grow.new.self k acts a) (sym c.len-growth.ensures.length)
          (whole_of c.args.c.now c.requires.lawful b acts a c.args.self.now c.args.slot c.args.new.now c.args.label may c.in-Some.leaf (sym c.at.ensures.leaf ∙ c.in-Some.is) c.args.later.now c.requires.later
          c.in_ok-slots.slots.items (c.in_ok-slots.ensures ∙ ap (λ o. with_heir o c.args.slot c.args.new.now) c.heir.ensures) _ c.known-known.ensures c.grow.new.self c.in_ok-grow.ensures
          (let e = c.len-childless.ensures in let t = c.if-childless.true in omega arith)),
    )

pub returns-then-childless : goal.returns-then-childless
returns-then-childless c = record {
  grown = (c.in-Some.leaf.parent, c.in-Some.leaf.child, c.walk.ensures.growths ∙ c.in_ok-grow.ensures.growths);
  sized = λ b s. c.walk.ensures.sized b (grown_sized c.in-Some.leaf c.args.slot c.in_ok-slots.slots.items c.args.label _ c.args.self.now c.grow.new.self c.in_ok-grow.ensures b s);
  taken = λ b acts a may. c.walk.ensures.front b acts a
      (subst (λ k. IsWholeAt c.args.c.now b c.grow.new.self k acts a) (sym c.len-growth.ensures.length)
      (whole_of c.args.c.now c.requires.lawful b acts a c.args.self.now c.args.slot c.args.new.now c.args.label may c.in-Some.leaf (sym c.at.ensures.leaf ∙ c.in-Some.is) c.args.later.now c.requires.later
      c.in_ok-slots.slots.items (c.in_ok-slots.ensures ∙ ap (λ o. with_heir o c.args.slot c.args.new.now) c.heir.ensures) _ c.known-known.ensures c.grow.new.self c.in_ok-grow.ensures
      (let e = c.len-childless.ensures in let t = c.if-childless.true in omega arith)));
}

pub returns-else-childless : goal.returns-else-childless
returns-else-childless c = record {
  grown = (c.in-Some.leaf.parent, c.in-Some.leaf.child, c.in_ok-grow.ensures.growths);
  sized = grown_sized c.in-Some.leaf c.args.slot c.in_ok-slots.slots.items c.args.label _ c.args.self.now c.grow.new.self c.in_ok-grow.ensures;
  taken = λ b acts a may.
      taken_of c.args.c.now c.requires.lawful b acts a c.args.self.now c.args.slot c.args.new.now c.args.label may c.in-Some.leaf (sym c.at.ensures.leaf ∙ c.in-Some.is) c.args.later.now c.requires.later
      c.in_ok-slots.slots.items (c.in_ok-slots.ensures ∙ ap (λ o. with_heir o c.args.slot c.args.new.now) c.heir.ensures) _ c.known-known.ensures c.grow.new.self c.in_ok-grow.ensures
      (let e = c.len-childless.ensures in let t = c.if-childless.false in omega arith);
}
