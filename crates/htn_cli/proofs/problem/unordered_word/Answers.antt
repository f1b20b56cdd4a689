use Rattle.std.proofs.Common.{ℕ, zero, suc, ◌≡◌, Some, slice_get, refl, sym, ap, ◌∙◌}
use Rattle.plan_model.specs.declared.schemas.MethodPlan.{MethodPlan}
use Rattle.plan_model.specs.declared.values.Compiled.{Compiled}
use Rattle.plan_texts.specs.Declared.{named}
use Rattle.bound_calc.specs.stratifier.CycleWords.{method_by}
use Rattle.bound_calc.proofs.Cycles.{none_there}
use Rattle.htn_cli.specs.PrintedForms.{unordered_word}
use Rattle.htn_cli.proofs.problem.unordered_word.Goals as goal

-- a method other than the top one has the word of its name
named_later : (c : Compiled) (m : ℕ) (plan : MethodPlan) → (m ≡ 0 → ⊥) → slice_get c.methods m ≡ Some plan → unordered_word c m ≡ named c.hddl.names plan.schema.name
named_later c zero plan later e = absurd (later refl)
named_later c (suc m) plan later e = ap (method_by c) e

pub returns-in-None-text : goal.returns-in-None-text
returns-in-None-text c =
    sym
    (named_later c.args.compiled.now c.args.method c.in-Some.plan.now c.if-method-eq0.false (sym c.in-Some.ensures.item)
    ∙ none_there c.args.compiled.now.hddl.names c.in-Some.plan.now.schema.name.number (sym c.in-None-text.ensures.word))
