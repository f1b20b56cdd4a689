use Rattle.std.proofs.Common.{◌++◌, ap, subst, ◌∙◌}
use Rattle.plan_model.specs.declared.options.Style.{Style}
use Rattle.plan_model.specs.plan_meaning.Compilation.{once}
use Rattle.slot_encoding.specs.EncodedNames.{guard_types}
use Rattle.slot_encoding.specs.EncodedValue.{same_atom, AreGuardAtoms}
use Rattle.stack_encoder.specs.Made as made
use Rattle.stack_encoder.proofs.initial.initial_of.Goals as goal

pub returns : goal.returns
returns c =
    let f = c.args.frame.now in
    let t = c.in_ok-push_guards.ensures in (
      t.0,
      subst (λ (s : Style). AreGuardAtoms f.compiled.now f.printed.now f.slots s (guard_types f.compiled.now) t.0) c.requires.adl
          (subst (λ tys. AreGuardAtoms f.compiled.now f.printed.now f.slots f.style tys t.0) (c.as_slice.ensures.items ∙ c.requires.frame.guard_types) t.1),
      t.2 ∙ ap (λ z. z ++ t.0) (c.in_ok-push_single.ensures ∙ ap (λ z. z ++ once same_atom f.compiled.now.hddl.init) (c.in_ok-push_cells.ensures ∙ ap (λ z. z ++ made.cell_atoms f) c.new-into.ensures.none)),
    )
