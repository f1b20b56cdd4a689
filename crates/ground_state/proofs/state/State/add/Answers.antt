use Rattle.std.proofs.Common.{true, Some, refl}
use Rattle.std.proofs.lemmas.Result.{on_ok_weaker}
use Rattle.ground_state.specs.States.{atom}
use Rattle.ground_state.proofs.StateLaws.{made-true}
use Rattle.ground_state.proofs.state.State.add.Goals as goal

pub returns-clause-added : goal.returns-clause-added
returns-clause-added c =
    let a = atom c.args.predicate c.args.objects.now in
    on_ok_weaker c.insert.result (λ n. made-true c.args.self.now c.insert.new.self a (Some true) n refl) c.insert.ensures.inserted
