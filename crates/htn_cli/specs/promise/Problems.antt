-- Each problem that two HDDL texts spell.
-- Source: this project's.
use Rattle.std.specs.Prelude.{ℕ, List}
use Rattle.plan_model.specs.declared.options.Checks.{Checks}
use Rattle.plan_model.specs.declared.values.Hddl.{Hddl}
use Rattle.plan_model.specs.declared.values.Compiled.{Compiled}
use Rattle.plan_model.specs.plan_meaning.Compilation.{IsCompiled}
use Rattle.plan_texts.specs.FirstSeen.{IsHddlOf}

-- for each problem that two HDDL texts spell, with its compiled value
abbrev pub ForEach : (d p : List ℕ) → Checks → (Hddl → Compiled → Type 0) → Type 0
ForEach d p checks Is = (h : Hddl) (c : Compiled) → IsHddlOf d p h → IsCompiled h checks c → Is h c
