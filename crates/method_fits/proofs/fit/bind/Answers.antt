use Rattle.std.proofs.Common.{◌≡◌, List, true, subst}
use Rattle.plan_model.specs.declared.networks.Child.{Child}
use Rattle.plan_model.specs.declared.terms.Term.{Term}
use Rattle.plan_model.specs.plan_meaning.Truth.{values_of}
use Rattle.value_choices.specs.Settled.{Settles}
use Rattle.method_fits.specs.Subtasks.{AreWorksOf, said_works, with_values}
use Rattle.method_fits.proofs.FitLaws.{said_both}
use Rattle.method_fits.proofs.fit.bind.Goals as goal

pub returns : goal.returns
returns c = λ m.
    said_both c.args.c.now c.args.plan.now m c.args.objects.now
    (said_works c.args.said.now) c.args.known.now c.bind_terms.new.known c.bind_children.new.known c.bind_children.result
    c.bind_terms.auto.known
    (subst (λ (ts : List Term). Settles (λ values. values_of values ts ≡ c.args.objects.now) c.args.known.now c.bind_terms.new.known true)
    c.as_slice.ensures.items c.if-not-bind_terms.ensures)
    (subst (λ (cs : List Child). Settles (λ values. AreWorksOf c.args.c.now (with_values m values) cs (said_works c.args.said.now))
    c.bind_terms.new.known c.bind_children.new.known c.bind_children.result)
    c.as_slice-2.ensures.items (c.bind_children.ensures m))
