use Rattle.std.proofs.Common.{◌<◌, ◌^◌, length, arith}
use Rattle.hplan_text.proofs.ShownBack.{shown_are_sound, shown_are_read_back}
use Rattle.hplan_text.proofs.showing.shown_plans_are_read_back.Goals as goal

pub returns : goal.returns
returns c =
    let small : length c.args.run.now.tree < 2 ^ 32 = let e = c.size.ensures.size in omega (arith, e) in
    record { sound = shown_are_sound c.args.compiled.now c.args.run.now small; back = shown_are_read_back c.args.compiled.now c.args.run.now small }
