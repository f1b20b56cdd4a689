use Rattle.std.proofs.Common.{List, ℕ, refl, subst}
use Rattle.problem_index.specs.Index.{IsIndexOf}
use Rattle.ground_state.proofs.run.Run.over.Goals as goal

pub returns : goal.returns
returns c =
    let p = c.args.p.now in
    let room = c.in_ok-need.ensures _ _ c.in_ok-env.ensures.depth c.in_ok-env.ensures.arity in
    let index = subst (λ (ws : List (List ℕ)). IsIndexOf ws p.types p.objects p.actions c.in_ok-index.index) c.requires.names c.in_ok-index.ensures.index in
    record {
      fresh = record {
        problem = refl;
        ready = record { runnable = c.requires.runnable; index = index; room = room };
        ends = c.in_ok-state.ensures.atoms;
      };
    }
