use Rattle.std.proofs.Common.{subst, sym}
use Rattle.std.specs.Prelude.{◌↔◌, IsSome}
use Rattle.text_forms.proofs.Lists.{closes_its_lists}
use Rattle.text_forms.specs.Closing.{close_at, OpensList}
use Rattle.text_forms.proofs.sexpr_text.sexprs.Sexprs.close_of.Goals as goal

pub returns-in-Index-clause-opens : goal.returns-in-Index-clause-opens
returns-in-Index-clause-opens c =
    subst (λ o. IsSome o ↔ OpensList c.args.self.now c.args.i) (sym c.closing_of-in-Index.ensures.close)
    (subst (λ text. IsSome (close_at c.self.inside.source.now c.args.i) ↔ OpensList text c.args.i) c.self.view_is
    (closes_its_lists c.self.inside.source.now c.self.invariant.faultless c.args.i))

pub returns-in-Marks-clause-opens : goal.returns-in-Marks-clause-opens
returns-in-Marks-clause-opens c =
    subst (λ o. IsSome o ↔ OpensList c.args.self.now c.args.i) (sym c.closing_of.ensures.close)
    (subst (λ text. IsSome (close_at c.self.inside.source.now c.args.i) ↔ OpensList text c.args.i) c.self.view_is
    (closes_its_lists c.self.inside.source.now c.self.invariant.faultless c.args.i))
