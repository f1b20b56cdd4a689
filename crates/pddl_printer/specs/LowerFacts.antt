-- That each object of a range is lower than each later one: the facts, the text of one, and the value in which they are true besides.
-- Source: this project's.
use Rattle.std.specs.Prelude.{ℕ, zero, suc, Option, None, Some, List, [], ◌∷◌, ◌++◌, map, codes}
use Rattle.text_forms.specs.Words.{Word}
use Rattle.plan_model.specs.task_networks.Spelling.{numbers}
use Rattle.plan_model.specs.declared.terms.GroundAtom.{GroundAtom}
use Rattle.plan_model.specs.declared.values.Pddl.{Pddl}
use Rattle.pddl_printer.specs.declared.lower.Lower.{Lower}

module _ (predicate : ℕ) where
  abbrev pub is_lower : ℕ → ℕ → GroundAtom
  is_lower o u = record { predicate = predicate; args = o ∷ u ∷ [] }

  -- object o with each of so many behind it
  abbrev pub row : ℕ → ℕ → List GroundAtom
  row o n = map (is_lower o) (numbers (suc o) n)

  -- each of so many objects from o on with each later one
  abbrev pub rows : ℕ → ℕ → List GroundAtom
  rows o zero = []
  rows o (suc n) = row o n ++ rows (suc o) n

abbrev pub facts_of : Option Lower → List GroundAtom
facts_of None = []
facts_of (Some lower) = rows lower.predicate lower.range.first lower.range.count

-- with the words of the predicate and of the objects
abbrev pub lower_with : Word → Word → Word → List ℕ
lower_with predicate object later = codes " (" ++ (predicate ++ (codes " " ++ (object ++ (codes " " ++ (later ++ codes ")")))))

-- the value in which these facts are true besides
abbrev pub with_facts : Pddl → List GroundAtom → Pddl
with_facts p facts = record {
  names = p.names;
  domain = p.domain;
  problem = p.problem;
  types = p.types;
  objects = p.objects;
  predicates = p.predicates;
  actions = p.actions;
  init = p.init ++ facts;
  goal = p.goal;
}

-- the value in which the facts of lower objects are true besides, if there are any
abbrev pub with_lower : Option Lower → Pddl → Pddl
with_lower None p = p
with_lower (Some lower) p = with_facts p (rows lower.predicate lower.range.first lower.range.count)
