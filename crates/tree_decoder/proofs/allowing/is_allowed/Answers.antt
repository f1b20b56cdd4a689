use Rattle.std.proofs.Common.{◌∙◌, ap, sym}
use Rattle.std.specs.Option.{option_copied}
use Rattle.ground_state.specs.Frames.{frame}
use Rattle.tree_decoder.proofs.Allowed as laws
use Rattle.tree_decoder.proofs.allowing.is_allowed.Goals as goal

pub is_true-requires-clause-room : goal.is_true-requires-clause-room
is_true-requires-clause-room c = laws.action_room c.args.c.now (frame c.args.env.now) c.requires.room c.args.name c.in-Action.action c.in-Some.action.now c.requires.some c.in-Action.is (sym c.get.ensures.item ∙ ap option_copied c.in-Some.is)

pub is_true-requires-in-Some-get-clause-room : goal.is_true-requires-in-Some-get-clause-room
is_true-requires-in-Some-get-clause-room c = laws.check_room c.args.c.now (frame c.args.env.now) c.requires.room c.args.name c.in-Check.method c.in-Some-get.plan.now c.requires.some c.in-Check.is (sym c.get-in-Check.ensures.item ∙ ap option_copied c.in-Some-get.is)

pub is_true-requires-else-not-plan-clause-room : goal.is_true-requires-else-not-plan-clause-room
is_true-requires-else-not-plan-clause-room c = laws.method_room c.args.c.now (frame c.args.env.now) c.requires.room c.args.name c.in-Method.method c.in-Some-get-2.plan.now c.requires.some c.in-Method.is (sym c.get-in-Method.ensures.item ∙ ap option_copied c.in-Some-get-2.is)

pub returns-in-Some-clause-allowed : goal.returns-in-Some-clause-allowed
returns-in-Some-clause-allowed c = laws.action_allowed c.args.c.now c.args.world.now c.requires.world c.args.state.now c.args.name c.args.env.now.values.items c.in-Action.action c.in-Some.action.now c.is_true.result c.in-Action.is (sym c.get.ensures.item ∙ ap option_copied c.in-Some.is) c.is_true.ensures.truth

pub returns-in-Some-get-clause-allowed : goal.returns-in-Some-get-clause-allowed
returns-in-Some-get-clause-allowed c = laws.check_allowed c.args.c.now c.args.world.now c.requires.world c.args.state.now c.args.name c.args.env.now.values.items c.in-Check.method c.in-Some-get.plan.now c.is_true-in-Some-get.result c.in-Check.is (sym c.get-in-Check.ensures.item ∙ ap option_copied c.in-Some-get.is) c.is_true-in-Some-get.ensures.truth

pub returns-else-not-plan-clause-allowed : goal.returns-else-not-plan-clause-allowed
returns-else-not-plan-clause-allowed c = laws.tested c.args.c.now c.args.world.now c.requires.world c.args.state.now c.args.name c.args.env.now.values.items c.in-Method.method c.in-Some-get-2.plan.now c.is_true-else-not-plan.result c.in-Method.is (sym c.get-in-Method.ensures.item ∙ ap option_copied c.in-Some-get-2.is) c.if-not-plan.false c.is_true-else-not-plan.ensures.truth
