-- The variables in force.
use Rattle.std.specs.Prelude.{List, [], ◌++◌}
use Rattle.plan_model.specs.declared.terms.Param.{Param}
use Rattle.plan_model.specs.declared.scope.Scope.{Scope, Empty, Within'}

-- from outside in
abbrev pub in_force : Scope → List Param
in_force Empty = []
in_force (Within' at outer params) = in_force outer ++ params.now
