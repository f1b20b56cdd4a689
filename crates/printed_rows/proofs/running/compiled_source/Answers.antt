use Rattle.std.proofs.Common.{subst, sym}
use Rattle.plan_model.specs.Parts.{AreListed}
use Rattle.plan_model.specs.declared.values.Hddl.{Hddl}
use Rattle.plan_texts.proofs.SoundProblems.{listed}
use Rattle.printed_rows.proofs.running.compiled_source.Goals as goal

pub compile-requires-clause-listed : goal.compile-requires-clause-listed
compile-requires-clause-listed c = listed c.in_ok-problem.problem c.in_ok-problem.ensures.sound

pub returns-clause-listed : goal.returns-clause-listed
returns-clause-listed c = subst (λ (h : Hddl). AreListed h.types) (sym c.in_ok-compile.ensures.compiled.hddl) (listed c.in_ok-problem.problem c.in_ok-problem.ensures.sound)
