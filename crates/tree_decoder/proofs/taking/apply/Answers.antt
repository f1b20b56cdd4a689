use Rattle.std.proofs.Common.{refl, ap, sym, subst, ◌∙◌}
use Rattle.std.specs.Option.{option_copied}
use Rattle.std.proofs.lemmas.Result.{on_ok_weaker}
use Rattle.ground_state.specs.Frames.{frame}
use Rattle.tree_decoder.specs.Acts.{IsNamedWith}
use Rattle.tree_decoder.specs.Taking.{IsAfter}
use Rattle.tree_decoder.proofs.Effects.{effect_room, after_effect, after_none}
use Rattle.tree_decoder.proofs.taking.apply.Goals as goal

pub apply_in-requires : goal.apply_in-requires
apply_in-requires c =
    let p = c.args.c.now in
    let named = subst (λ n. IsNamedWith p n (frame c.args.env.now).objects) c.in-Action.is c.requires.named in
    record {
      world = c.requires.world.known;
      room = effect_room p (frame c.args.env.now) c.in-Action.action c.in-Some.action.now c.requires.room named
          (sym c.get.ensures.item ∙ ap option_copied c.in-Some.is);
    }

pub returns-in-Some : goal.returns-in-Some
returns-in-Some c =
    let p = c.args.c.now in
    let objects = (frame c.args.env.now).objects in
    record {
      after = on_ok_weaker c.apply_in.result
          (λ has. subst (λ n. IsAfter p n objects c.args.state.now c.apply_in.new.self) (sym c.in-Action.is)
          (after_effect p c.in-Action.action objects c.args.state.now c.apply_in.new.self c.args.world.now c.in-Some.action.now c.requires.world
          (sym c.get.ensures.item ∙ ap option_copied c.in-Some.is) has))
          c.apply_in.ensures.after;
      kept = c.apply_in.ensures.kept;
    }

pub returns-in-None : goal.returns-in-None
returns-in-None c =
    let p = c.args.c.now in
    let objects = (frame c.args.env.now).objects in
    record {
      after = subst (λ n. IsAfter p n objects c.args.state.now c.args.state.now) (sym c.in-Action.is)
          (after_none p c.in-Action.action objects c.args.state.now c.args.state.now (sym c.get.ensures.item ∙ ap option_copied c.in-None.is) refl);
      kept = refl;
    }
