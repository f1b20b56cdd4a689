-- The bound of a compiled problem is the only one.
use Rattle.std.proofs.Common.{◌∷◌}
use Rattle.plan_model.specs.declared.options.Checks.{Checks}
use Rattle.plan_model.specs.declared.values.Hddl.{Hddl}
use Rattle.plan_model.specs.declared.values.Compiled.{Compiled}
use Rattle.plan_model.specs.plan_meaning.Compilation.{IsCompiled}
use Rattle.plan_model.specs.plan_meaning.Laws.{BoundIsTheOnlyOne}
use Rattle.plan_model.proofs.plan_meaning.CompiledNetworks.{plan_of}
use Rattle.plan_model.proofs.plan_meaning.BoundParts.{AreWhole}
use Rattle.plan_model.proofs.plan_meaning.BoundIsOne.{bound_is_one}

-- the lines of a compiled problem have all children
lines_are_whole : (h : Hddl) (mode : Checks) (c : Compiled) → IsCompiled h mode c → AreWhole c
lines_are_whole h mode c compiled m plan e i l = let (s, k, is) = plan_of h mode (h.top ∷ h.methods) c.methods m plan compiled.methods e in is.line.whole i l

pub bound_is_the_only_one : (h : Hddl) (mode : Checks) (c : Compiled) → IsCompiled h mode c → BoundIsTheOnlyOne c
bound_is_the_only_one h mode c compiled n m a b = bound_is_one c (lines_are_whole h mode c compiled) n m a b
