use Rattle.std.proofs.Common.{◌∙◌, sym, arith}
use Rattle.ground_state.specs.Frames.{frame}
use Rattle.tree_decoder.proofs.Obstacles as laws
use Rattle.tree_decoder.proofs.testing.obstacle.Goals as goal

pub returns-in_default-clause-obstacle : goal.returns-in_default-clause-obstacle
returns-in_default-clause-obstacle c =
    let old = c.args.scratch.now in
    laws.nothing_held c.args.c.now c.requires.soundly c.args.front.now c.args.state.now c.args.name c.args.slot
    old.new_slots.items (frame old.env).objects (sym c.leaf.ensures ∙ c.in_default.is)

pub returns-then-not-holds-clause-obstacle : goal.returns-then-not-holds-clause-obstacle
returns-then-not-holds-clause-obstacle c =
    let old = c.args.scratch.now in
    let new = c.work.new.self in
    let noted = c.in_ok-kind.ensures.noted in
    let leaf = sym c.leaf.ensures ∙ c.in-Some.is in
    let work = laws.same_work c.args.c.now c.args.name old new noted c.in_ok-kind.kind c.as_slice.result.now c.as_slice.ensures.value
    c.in_ok-kind.ensures.work in
    laws.other_held c.args.c.now c.requires.soundly c.args.front.now c.args.state.now c.args.name c.args.slot
    old.new_slots.items (frame old.env).objects c.in-Some.leaf leaf
    (λ w. laws.not_so c.holds.result c.holds.ensures c.if-not-holds.true (w ∙ sym work))

pub returns-then-leaf-gt0-clause-obstacle : goal.returns-then-leaf-gt0-clause-obstacle
returns-then-leaf-gt0-clause-obstacle c =
    let old = c.args.scratch.now in
    let new = c.work.new.self in
    let noted = c.in_ok-kind.ensures.noted in
    let leaf = sym c.leaf.ensures ∙ c.in-Some.is in
    let work = laws.same_work c.args.c.now c.args.name old new noted c.in_ok-kind.kind c.as_slice.result.now c.as_slice.ensures.value
    c.in_ok-kind.ensures.work in
    let holds = c.holds.ensures.0 c.if-not-holds.false ∙ work in
    laws.waits c.args.c.now c.requires.soundly c.args.front.now c.args.state.now c.args.name c.args.slot
    old.new_slots.items (frame old.env).objects c.in-Some.leaf leaf holds c.if-leaf-gt0.true

pub returns-then-branch-clause-obstacle : goal.returns-then-branch-clause-obstacle
returns-then-branch-clause-obstacle c =
    let old = c.args.scratch.now in
    let new = c.work.new.self in
    let noted = c.in_ok-kind.ensures.noted in
    let leaf = sym c.leaf.ensures ∙ c.in-Some.is in
    let work = laws.same_work c.args.c.now c.args.name old new noted c.in_ok-kind.kind c.as_slice.result.now c.as_slice.ensures.value
    c.in_ok-kind.ensures.work in
    let holds = c.holds.ensures.0 c.if-not-holds.false ∙ work in
    let free = c.if-leaf-gt0.false in
    let held = laws.same_held c.args.c.now c.args.name old new noted c.args.front.now c.in_ok-is_one_held.field-0 c.as_slice-2.result.now
    c.as_slice-2.ensures.value c.in_ok-is_one_held.ensures.held in
    laws.one_held c.args.c.now c.requires.soundly c.args.front.now c.args.state.now c.args.name c.args.slot
    old.new_slots.items (frame old.env).objects c.in-Some.leaf leaf holds
    (omega (arith, free)) c.requires.new (held.0 c.if-branch.true)

pub returns-then-not-is_met-clause-obstacle : goal.returns-then-not-is_met-clause-obstacle
returns-then-not-is_met-clause-obstacle c =
    let old = c.args.scratch.now in
    let new = c.work.new.self in
    let noted = c.in_ok-kind.ensures.noted in
    let leaf = sym c.leaf.ensures ∙ c.in-Some.is in
    let work = laws.same_work c.args.c.now c.args.name old new noted c.in_ok-kind.kind c.as_slice.result.now c.as_slice.ensures.value
    c.in_ok-kind.ensures.work in
    let holds = c.holds.ensures.0 c.if-not-holds.false ∙ work in
    let free = c.if-leaf-gt0.false in
    let held = laws.same_held c.args.c.now c.args.name old new noted c.args.front.now c.in_ok-is_one_held.field-0 c.as_slice-2.result.now
    c.as_slice-2.ensures.value c.in_ok-is_one_held.ensures.held in
    let none = laws.not_so c.in_ok-is_one_held.field-0 held c.if-branch.false in
    let met = laws.same_met c.args.c.now c.args.name old new noted c.is_met.result c.is_met.ensures.met in
    laws.unmet c.args.c.now c.requires.soundly c.args.front.now c.args.state.now c.args.name c.args.slot
    old.new_slots.items (frame old.env).objects c.in-Some.leaf leaf holds
    (omega (arith, free)) c.requires.new none (laws.not_so c.is_met.result met c.if-not-is_met.true)

pub returns-then-not-is_allowed-clause-obstacle : goal.returns-then-not-is_allowed-clause-obstacle
returns-then-not-is_allowed-clause-obstacle c =
    let old = c.args.scratch.now in
    let new = c.work.new.self in
    let noted = c.in_ok-kind.ensures.noted in
    let leaf = sym c.leaf.ensures ∙ c.in-Some.is in
    let work = laws.same_work c.args.c.now c.args.name old new noted c.in_ok-kind.kind c.as_slice.result.now c.as_slice.ensures.value
    c.in_ok-kind.ensures.work in
    let holds = c.holds.ensures.0 c.if-not-holds.false ∙ work in
    let free = c.if-leaf-gt0.false in
    let held = laws.same_held c.args.c.now c.args.name old new noted c.args.front.now c.in_ok-is_one_held.field-0 c.as_slice-2.result.now
    c.as_slice-2.ensures.value c.in_ok-is_one_held.ensures.held in
    let none = laws.not_so c.in_ok-is_one_held.field-0 held c.if-branch.false in
    let met = laws.same_met c.args.c.now c.args.name old new noted c.is_met.result c.is_met.ensures.met in
    let allowed = laws.same_allowed c.args.c.now c.args.name old new noted c.args.state.now c.is_allowed.result c.is_allowed.ensures.allowed in
    laws.not_allowed c.args.c.now c.requires.soundly c.args.front.now c.args.state.now c.args.name c.args.slot
    old.new_slots.items (frame old.env).objects c.in-Some.leaf leaf holds
    (omega (arith, free)) c.requires.new none (met.0 c.if-not-is_met.false)
    (laws.not_so c.is_allowed.result allowed c.if-not-is_allowed.true)

pub returns-clause-obstacle : goal.returns-clause-obstacle
returns-clause-obstacle c =
    let old = c.args.scratch.now in
    let new = c.work.new.self in
    let noted = c.in_ok-kind.ensures.noted in
    let leaf = sym c.leaf.ensures ∙ c.in-Some.is in
    let work = laws.same_work c.args.c.now c.args.name old new noted c.in_ok-kind.kind c.as_slice.result.now c.as_slice.ensures.value
    c.in_ok-kind.ensures.work in
    let holds = c.holds.ensures.0 c.if-not-holds.false ∙ work in
    let free = c.if-leaf-gt0.false in
    let held = laws.same_held c.args.c.now c.args.name old new noted c.args.front.now c.in_ok-is_one_held.field-0 c.as_slice-2.result.now
    c.as_slice-2.ensures.value c.in_ok-is_one_held.ensures.held in
    let none = laws.not_so c.in_ok-is_one_held.field-0 held c.if-branch.false in
    let met = laws.same_met c.args.c.now c.args.name old new noted c.is_met.result c.is_met.ensures.met in
    let allowed = laws.same_allowed c.args.c.now c.args.name old new noted c.args.state.now c.is_allowed.result c.is_allowed.ensures.allowed in
    laws.no_obstacle c.args.c.now c.requires.soundly c.args.front.now c.args.state.now c.args.name c.args.slot
    old.new_slots.items (frame old.env).objects c.in-Some.leaf leaf holds
    (omega (arith, free)) c.requires.new none (met.0 c.if-not-is_met.false) (allowed.0 c.if-not-is_allowed.false)
