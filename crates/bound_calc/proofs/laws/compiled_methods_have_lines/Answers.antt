use Rattle.std.proofs.Common.{◌∷◌, get_or}
use Rattle.std.proofs.lemmas.Option.{slice_get-get_or}
use Rattle.plan_model.proofs.plan_meaning.CompiledNetworks.{plan_of}
use Rattle.bound_calc.proofs.laws.compiled_methods_have_lines.Goals as goal

pub returns : goal.returns
returns c k d l =
    let h = c.args.problem.now in
    let methods = c.args.compiled.now.methods in
    let (s, i, is) = plan_of h c.args.checks.now (h.top ∷ h.methods) methods k (get_or methods k d) c.requires.compiled.methods (slice_get-get_or methods k d l) in
    is.line
