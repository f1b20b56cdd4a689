use Rattle.std.proofs.Common.{Some, None, replicate, refl, ap, sym, subst, ◌∙◌}
use Rattle.std.specs.Option.{option_copied}
use Rattle.std.specs.Vec.{with_items}
use Rattle.std.proofs.lemmas.List.{with_items_is}
use Rattle.plan_model.specs.Typing.{InType}
use Rattle.value_choices.specs.Meeting.{AreTheFirst}
use Rattle.method_fits.specs.Subtasks.{said_works}
use Rattle.method_fits.proofs.FitLaws.{unsaid, fit_found, found_in}
use Rattle.method_fits.proofs.fit.fitting.Goals as goal

pub returns-then-not-bind : goal.returns-then-not-bind
returns-then-not-bind c =
    let at = sym c.get.ensures.item ∙ ap option_copied c.in-Some.is in
    let none = c.as_mut_slice.ensures.value ∙ c.in_ok-known.ensures.none ∙ ap (λ n. replicate n None) c.len.ensures.length in
    record {
      fit = unsaid c.args.c.now c.args.method c.in-Some.plan.now at c.args.task_number c.args.objects.now
          (said_works c.args.said.now) c.if-plan-task_number.false
          c.as_mut_slice.result.now c.bind.new.known none (c.if-not-bind.ensures c.args.method);
    }

pub returns-in-Ok-Some : goal.returns-in-Ok-Some
returns-in-Ok-Some c =
    let at = sym c.get.ensures.item ∙ ap option_copied c.in-Some.is in
    let none = c.as_mut_slice.ensures.value ∙ c.in_ok-known.ensures.none ∙ ap (λ n. replicate n None) c.len.ensures.length in
    let said = c.if-not-bind.ensures c.args.method in
    let same = with_items_is c.in_ok-known.known c.bind.new.known (c.bind.auto.known ∙ c.as_mut_slice.ensures.len) in
    let first = subst (AreTheFirst (InType c.args.world.now.types.now c.args.world.now.objects.now) c.as_slice.result.now
    c.as_slice-2.result.now c.as_slice-3.result.now) c.in-Ok-Some.field-0-is c.in-Ok-Some.ensures.first in
    let here = found_in c.args.c.now c.args.method c.in-Some.plan.now at c.args.task_number c.args.objects.now
    (said_works c.args.said.now) c.if-plan-task_number.false
    c.as_mut_slice.result.now c.bind.new.known none said c.args.world.now.types.now c.args.world.now.objects.now c.as_slice.result.now
    c.as_slice-2.result.now c.as_slice-3.result.now (Some c.in-Ok-Some.values)
    c.requires.world.types c.requires.world.objects c.as_slice.ensures.items c.as_slice-2.ensures.items
    (c.as_slice-3.ensures.value ∙ same) first in
    record {
      fit = fit_found c.args.c.now c.args.method c.in-Some.plan.now at c.args.task_number c.args.objects.now
          (said_works c.args.said.now) c.if-plan-task_number.false
          c.as_mut_slice.result.now c.bind.new.known none said (Some c.in-Ok-Some.values) here
          (record { values = c.in-Ok-Some.values; known = with_items c.in_ok-known.known c.bind.new.known }) refl same;
    }

pub returns-in-Ok-None : goal.returns-in-Ok-None
returns-in-Ok-None c =
    let at = sym c.get.ensures.item ∙ ap option_copied c.in-Some.is in
    let none = c.as_mut_slice.ensures.value ∙ c.in_ok-known.ensures.none ∙ ap (λ n. replicate n None) c.len.ensures.length in
    let said = c.if-not-bind.ensures c.args.method in
    let same = with_items_is c.in_ok-known.known c.bind.new.known (c.bind.auto.known ∙ c.as_mut_slice.ensures.len) in
    let first = subst (AreTheFirst (InType c.args.world.now.types.now c.args.world.now.objects.now) c.as_slice.result.now
    c.as_slice-2.result.now c.as_slice-3.result.now) c.in-Ok-None.field-0-is c.in-Ok-None.ensures.first in
    let here = found_in c.args.c.now c.args.method c.in-Some.plan.now at c.args.task_number c.args.objects.now
    (said_works c.args.said.now) c.if-plan-task_number.false
    c.as_mut_slice.result.now c.bind.new.known none said c.args.world.now.types.now c.args.world.now.objects.now c.as_slice.result.now
    c.as_slice-2.result.now c.as_slice-3.result.now None
    c.requires.world.types c.requires.world.objects c.as_slice.ensures.items c.as_slice-2.ensures.items
    (c.as_slice-3.ensures.value ∙ same) first in
    record {
      fit = fit_found c.args.c.now c.args.method c.in-Some.plan.now at c.args.task_number c.args.objects.now
          (said_works c.args.said.now) c.if-plan-task_number.false
          c.as_mut_slice.result.now c.bind.new.known none said None here;
    }
