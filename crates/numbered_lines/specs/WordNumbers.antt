-- What is kept of the words of a problem, and what is found for those of a line.
-- Source: this project's.
use Rattle.std.specs.Prelude.{ℕ, ◌≡◌, MatchOption, List, map, length, Option}
use Rattle.htn_base.specs.declared.name.Name.{Name}
use Rattle.plan_model.specs.declared.types.Object.{Object}
use Rattle.plan_model.specs.declared.schemas.ActionSchema.{ActionSchema}
use Rattle.plan_model.specs.declared.schemas.TaskSchema.{TaskSchema}
use Rattle.plan_model.specs.declared.values.Compiled.{Compiled}
use Rattle.plan_texts.specs.Together.{Together}
use Rattle.hplan_text.specs.declared.values.HLine.{HLine}
use Rattle.problem_index.specs.Places.{HasWordAt, ArePlaces}
use Rattle.problem_index.specs.Printed.{other_names}
use Rattle.problem_index.specs.declared.places.Places.{Places}
use Rattle.numbered_lines.specs.declared.lines.Said.{Said}
use Rattle.numbered_lines.specs.declared.word_numbers.WordNumbers.{WordNumbers}

module _ (c : Compiled) where
  abbrev pub action_names : List Name
  action_names = map (λ (a : ActionSchema). a.name) c.hddl.actions

  abbrev pub task_names : List Name
  task_names = map (λ (t : TaskSchema). t.name) c.hddl.tasks

  abbrev pub object_names : List Name
  object_names = map (λ (o : Object). o.name) c.hddl.objects

  -- things with these names stand at the places
  abbrev pub StandAt : List Name → Places → Type 0
  StandAt names places = ArePlaces (length c.hddl.names) names places.by_name.items

  pub record AreNumbersOf (numbers : WordNumbers) : Type 0 where
    pub words : numbers.words ≡ c.hddl.names
    pub actions : StandAt action_names numbers.actions
    pub tasks : StandAt task_names numbers.tasks
    pub methods : StandAt (other_names c) numbers.methods
    pub objects : StandAt object_names numbers.objects

  -- the objects with these words, one for each
  abbrev pub AreObjects : List (List ℕ) → List ℕ → Type 0
  AreObjects = Together (λ word o. HasWordAt c.hddl.names object_names word o)

  abbrev pub AreTheObjects : List (List ℕ) → Option (List ℕ) → Type 0
  AreTheObjects words found = MatchOption found ((os : List ℕ) → AreObjects words os → ⊥) (AreObjects words)

  -- among things with these names, that of the line and its objects
  abbrev pub IsThing : List Name → HLine → ℕ → List ℕ → Type 0
  IsThing names line n os = HasWordAt c.hddl.names names line.name n × AreObjects line.args os

  abbrev pub IsTheThing : List Name → HLine → Option Said → Type 0
  IsTheThing names line found = MatchOption found
      ((n : ℕ) (os : List ℕ) → IsThing names line n os → ⊥)
      (λ s. IsThing names line s.number s.objects)
