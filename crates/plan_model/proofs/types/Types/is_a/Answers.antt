use Rattle.std.proofs.Common.{IsTrue, ◌↔◌, List, ℕ, subst}
use Rattle.std.specs.Prelude.{All}
use Rattle.plan_model.specs.Parts.{has}
use Rattle.plan_model.proofs.PartsOf.{is_a_union}
use Rattle.plan_model.proofs.types.Types.is_a.Goals as goal

pub returns-in-Some : goal.returns-in-Some
returns-in-Some c =
    let all = subst (λ (ts : List ℕ). IsTrue c.have_all.result ↔ All (λ t. IsTrue (has c.new-parts.result t)) ts) c.as_slice.ensures.items c.have_all.ensures in
    is_a_union c.args.self.now c.args.ty c.args.of c.new-parts.result c.new-parts.ensures c.in-Some.members.now c.in-Some.ensures c.have_all.result all
