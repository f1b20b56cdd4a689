use Rattle.std.proofs.Common.{◌↔◌, ◌∙◌, IsTrue, ap, sym, subst}
use Rattle.std.specs.Option.{option_copied}
use Rattle.tree_decoder.specs.Acts.{AreMet, AreKept}
use Rattle.tree_decoder.proofs.Guarded as laws
use Rattle.tree_decoder.proofs.meeting.is_met.Goals as goal

pub returns-then-are_true : goal.returns-then-are_true
returns-then-are_true c =
    let objects = c.args.env.now.values.items in
    record {
      met = laws.guards_tell c.args.c.now c.requires.soundly c.args.world.now c.requires.world c.args.name objects c.requires.some
          c.in-Method.method c.in-Some.plan.now c.in-Method.is (sym c.get.ensures.item ∙ ap option_copied c.in-Some.is) c.are_kept.result
          (subst (AreMet objects) c.as_slice.ensures.items (c.are_true.ensures.0 c.if-are_true.true))
          (subst (λ gs. IsTrue c.are_kept.result ↔ AreKept c.args.world.now objects gs) c.as_slice-then-are_true.ensures.items
          c.are_kept.ensures);
    }
