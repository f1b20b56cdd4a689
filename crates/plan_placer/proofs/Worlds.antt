-- The types and the objects of a problem that is compiled of a sound one.
use Rattle.std.proofs.Common.{◌<◌, ◌^◌, length, ap, sym, subst, arith}
use Rattle.plan_texts.specs.SoundlyCompiled.{IsSoundlyCompiled}
use Rattle.plan_texts.proofs.SoundProblems.{listed}
use Rattle.plan_model.specs.declared.values.Hddl.{Hddl}
use Rattle.plan_model.specs.declared.values.Compiled.{Compiled}
use Rattle.plan_model.specs.Parts.{AreListed}

module _ (c : Compiled) (s : IsSoundlyCompiled c) where
  pub listed_types : AreListed c.hddl.types
  listed_types = subst (λ (z : Hddl). AreListed z.types) (sym s.compiled.hddl) (listed s.problem s.sound)

  pub few_objects : length c.hddl.objects < 2 ^ 32
  few_objects = let e = ap (λ (z : Hddl). length z.objects) s.compiled.hddl in let l = s.sound.limits.objects in omega arith
