-- Problems in which no two objects have one name, and no two actions, since they are named in the order in which they stand.
use Rattle.std.specs.Prelude.{ℕ, ◌+◌, ◌≡◌, ◌≤◌, List, [], ◌∷◌, length}
use Rattle.htn_base.specs.Table.{IsTable}
use Rattle.plan_model.specs.declared.types.Object.{Object}
use Rattle.plan_model.specs.declared.schemas.ActionSchema.{ActionSchema}
use Rattle.plan_model.specs.declared.values.Pddl.{Pddl}
use Rattle.plan_model.specs.Parts.{AreListed}

-- the numbers of the items go up by one from n on
abbrev pub AreNumbered : {X : Type 0} → (X → ℕ) → ℕ → List X → Type 0
AreNumbered number n [] = Unit {0}
AreNumbered number n (x ∷ xs) = (number x ≡ n) × AreNumbered number (n + 1) xs

-- named from the first word on
pub record AreFewObjects (objects : List Object) : Type 0 where
  pub count : length objects ≤ 100
  pub numbered : AreNumbered (λ (x : Object). x.name.number) 0 objects

-- named from word n on
pub record AreFewActions (n : ℕ) (actions : List ActionSchema) : Type 0 where
  pub count : length actions ≤ 100
  pub numbered : AreNumbered (λ (a : ActionSchema). a.name.number) n actions

pub record IsNumbered (n : ℕ) (p : Pddl) : Type 0 where
  pub names : IsTable p.names
  pub types : AreListed p.types
  pub objects : AreFewObjects p.objects
  pub actions : AreFewActions n p.actions
