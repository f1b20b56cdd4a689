use Rattle.std.proofs.Common.{None, Some, refl, sym, subst, ◌∙◌, arith}
use Rattle.problem_index.specs.Printed.{IsTheMethod}
use Rattle.problem_index.proofs.PrintedNames.{method_place, method_within}
use Rattle.problem_index.proofs.printed_index.PrintedIndex.method.Goals as goal

pub returns-in_err-place : goal.returns-in_err-place
returns-in_err-place c =
    subst (IsTheMethod c.args.compiled.now c.args.name.now) (sym c.from_residual.ensures)
    (method_place c.args.compiled.now c.words.result.now c.args.self.now.methods.by_name.items c.args.name.now None (c.words.ensures ∙ c.requires.index.indexed.words) c.requires.index.methods_stand c.in_err-place.ensures)

pub overflow_add-result : goal.overflow_add-result
overflow_add-result c =
    let found = method_place c.args.compiled.now c.words.result.now c.args.self.now.methods.by_name.items c.args.name.now (Some c.in_ok-place.place) (c.words.ensures ∙ c.requires.index.indexed.words) c.requires.index.methods_stand c.in_ok-place.ensures in
    let within = method_within c.args.compiled.now c.args.name.now c.in_ok-place.place found in
    let few = c.requires.few in
    omega (arith, within, few)

pub returns : goal.returns
returns c = (
  c.in_ok-place.place,
  refl,
  method_place c.args.compiled.now c.words.result.now c.args.self.now.methods.by_name.items c.args.name.now (Some c.in_ok-place.place) (c.words.ensures ∙ c.requires.index.indexed.words) c.requires.index.methods_stand c.in_ok-place.ensures,
)
