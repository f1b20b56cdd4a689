use Rattle.std.proofs.Common.{◌∙◌, get_or, is_some, ap, sym}
use Rattle.std.proofs.lemmas.List.{get_or_default}
use Rattle.tree_decoder.proofs.NewSlots as laws
use Rattle.tree_decoder.proofs.testing.is_one_held.Goals as goal

pub returns-then-not-branch : goal.returns-then-not-branch
returns-then-not-branch c =
    let new = c.args.new.now in
    let i = c.loop-slot.slot-index in
    let slot = get_or new i 0 in
    record {
      held = laws.stands_twice c.args.front.now new i slot c.loop-slot.seen c.loop-slot-test.true
          (get_or_default new i 0 slot c.loop-slot-test.true) c.loop-slot.invariant c.in_ok-insert.field-0 c.in_ok-insert.ensures.added
          c.if-not-branch.true;
    }

pub loop-slot-preserved : goal.loop-slot-preserved
loop-slot-preserved c =
    let new = c.args.new.now in
    let i = c.loop-slot.slot-index in
    let slot = get_or new i 0 in
    let none = ap is_some (sym c.leaf.ensures) ∙ sym c.is_some.ensures ∙ c.if-is_some.false in
    laws.one_more c.args.front.now new i slot c.loop-slot.seen c.loop-slot-test.true (get_or_default new i 0 slot c.loop-slot-test.true)
    c.loop-slot.invariant c.insert.new.self c.in_ok-insert.field-0 none c.in_ok-insert.ensures.added c.if-not-branch.false
    c.in_ok-insert.ensures.updates.0
