use Rattle.std.proofs.Common.{◌≡◌, ◌↔◌, IsTrue, ◌∙◌, ap, sym, subst}
use Rattle.std.specs.Option.{option_copied}
use Rattle.plan_model.specs.plan_meaning.Network.{child_of}
use Rattle.kept_front.specs.Works.{work_of}
use Rattle.kept_front.proofs.Holding.{below_some, below_none}
use Rattle.kept_front.proofs.works.WorkKind.is_below.Goals as goal

pub returns-in-Some : goal.returns-in-Some
returns-in-Some c = subst (λ w. IsTrue c.is_child.result ↔ (w ≡ work_of c.args.self c.args.objects.now))
    (ap (λ vs. child_of (record { number = c.in-Abstract.method; values = vs }) c.in-Some.child.now) c.as_slice.ensures.items
    ∙ sym (below_some c.args.c.now c.args.label.now _ _ _ _ c.in-Abstract.is c.args.child c.in-Some.child.now (sym c.child_at.ensures ∙ ap option_copied c.in-Some.is)))
    c.is_child.ensures

pub returns-in-None : goal.returns-in-None
returns-in-None c = subst (λ w. IsTrue c.is_task-in-None.result ↔ (w ≡ work_of c.args.self c.args.objects.now))
    (sym (below_none c.args.c.now c.args.label.now _ _ _ _ c.in-Abstract.is c.args.child (sym c.child_at.ensures ∙ ap option_copied c.in-None.is)))
    c.is_task-in-None.ensures
