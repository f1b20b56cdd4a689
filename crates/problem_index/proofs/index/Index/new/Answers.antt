use Rattle.std.proofs.Common.{List, ℕ, subst}
use Rattle.std.specs.Prelude.{IfOk}
use Rattle.problem_index.specs.Index.{IsIndexOf}
use Rattle.problem_index.proofs.index.Index.new.Goals as goal

pub returns : goal.returns
returns c =
    let p = c.args.p.now in
    record { index = subst (λ (ws : List (List ℕ)). IfOk c.over.result (IsIndexOf ws c.args.p.now.types c.args.p.now.objects c.args.p.now.actions)) c.in_ok-names.ensures.words c.over.ensures.index }
