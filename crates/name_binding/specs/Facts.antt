-- The fact that a written atom stands for, where no variable is in force.
use Rattle.std.specs.Prelude.{ℕ, cond, List, map, unwrap_or}
use Rattle.name_binding.specs.Heads.{declared}
use Rattle.name_binding.specs.Places.{first_place}
use Rattle.gd_reader.specs.declared.term.RawAtom.{RawAtom}
use Rattle.gd_reader.specs.declared.term.RawTerm.{RawTerm}
use Rattle.plan_model.specs.declared.terms.GroundAtom.{GroundAtom}
use Rattle.name_binding.specs.declared.known.Known.{Known}
use Rattle.name_binding.specs.Atoms.{place_of}

-- a variable stands for no object, so nothing is used of what stands for it
abbrev pub object_bound : List ℕ → RawTerm → ℕ
object_bound objects t = cond t.variable 0 (unwrap_or (first_place t.name.number objects) 0)

abbrev pub fact_bound : Known → RawAtom → GroundAtom
fact_bound known a = record { predicate = place_of (declared a.head.name.number known.predicates); args = map (object_bound known.objects) a.args }
