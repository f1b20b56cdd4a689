-- What the declarations of a domain put into its tables of names, and names that are declared for the second time (10).
-- Source: this project's.
use Rattle.std.specs.Prelude.{ℕ, List, [], ◌++◌, map, length}
use Rattle.name_binding.specs.declared.faults.Spot.{Spot}
use Rattle.name_binding.specs.declared.heads.Head.{Head}
use Rattle.gd_reader.specs.declared.typed_lists.RawParam.{RawParam}
use Rattle.hddl_reader.specs.declared.sections.RawDomain.{RawDomain}
use Rattle.hddl_reader.specs.declared.sections.RawHead.{RawHead}
use Rattle.hddl_reader.specs.declared.sections.RawMethod.{RawMethod}
use Rattle.name_binding.specs.Kinds.{Kinds}
use Rattle.name_binding.specs.declared.known.Known.{Known}
use Rattle.hddl_bind.specs.Callables.{declared, second_callables}
use Rattle.hddl_bind.specs.Seconds.{seconds}

-- the objects of a list, by the numbers of their names
abbrev pub objects_declared : List RawParam → List ℕ
objects_declared ps = map (λ (p : RawParam). p.name.number) ps

abbrev pub head_declared : RawHead → Head
head_declared h = record { name = h.name.name; arity = length h.params }

abbrev pub heads_declared : List RawHead → List Head
heads_declared hs = map head_declared hs

-- an object that is declared in front, here or in an earlier text
abbrev pub second_objects : List ℕ → List RawParam → List Spot
second_objects before ps = seconds (λ (p : RawParam). p.name.number) (λ (p : RawParam). p.at) before ps

abbrev pub second_heads : List RawHead → List Spot
second_heads hs = seconds (λ (h : RawHead). h.name.name.number) (λ (h : RawHead). h.name.at) [] hs

abbrev pub second_methods : List RawMethod → List Spot
second_methods ms = seconds (λ (m : RawMethod). m.head.name.name.number) (λ (m : RawMethod). m.head.name.at) [] ms

-- what formulas and effects of a domain with these types look up
abbrev pub known_in : Kinds → RawDomain → Known
known_in kinds d = record { objects = objects_declared d.constants; predicates = heads_declared d.predicates; types = kinds }

-- 10: each declaration of a name that was declared before: of methods, constants, predicates, and of tasks and actions together
abbrev pub second_names : RawDomain → List Spot
second_names d = second_methods d.methods ++ (second_objects [] d.constants ++ (second_heads d.predicates ++ second_callables (declared d.tasks d.actions)))
