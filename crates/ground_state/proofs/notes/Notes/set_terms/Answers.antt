use Rattle.std.proofs.Common.{sym, ◌∙◌, arith}
use Rattle.plan_model.specs.plan_meaning.Truth.{values_of}
use Rattle.ground_state.proofs.Lists.{set-at}
use Rattle.ground_state.proofs.notes.Notes.set_terms.Goals as goal

pub returns-then-is_some-clause-set : goal.returns-then-is_some-clause-set
returns-then-is_some-clause-set c =
    set-at c.args.self.now (values_of c.args.env.now.values.items c.args.terms.now) c.in-Some.number c.args.truth c.index.result.now (sym c.in-Some.ensures)
    (let l = c.if-number-len.true in let e = c.len.ensures in let k = c.args.self.now.near.ok.0 in omega (arith, l, e, k)) c.index.ensures (sym c.is_some.ensures ∙ c.if-is_some.true)
