-- The facts with which a problem begins, and their faults. No variable is in force in them.
-- Source: PDDL 2.1 (Fox and Long, JAIR 20, 2003, level 1), the initial state.
use Rattle.std.specs.Prelude.{List, [], map, flat_map}
use Rattle.name_binding.specs.declared.faults.Spot.{Spot}
use Rattle.gd_reader.specs.declared.term.RawAtom.{RawAtom}
use Rattle.plan_model.specs.declared.terms.GroundAtom.{GroundAtom}
use Rattle.name_binding.specs.declared.known.Known.{Known}
use Rattle.name_binding.specs.Atoms.{atom_faults}
use Rattle.name_binding.specs.Facts.{fact_bound}

module _ (known : Known) where
  abbrev pub facts_bound : List RawAtom → List GroundAtom
  facts_bound facts = map (fact_bound known) facts

  abbrev pub facts_faults : List RawAtom → List Spot
  facts_faults facts = flat_map (atom_faults known []) facts
