-- A value as it is, or with the quantifiers over the objects of a range written out.
-- Source: this project's.
use Rattle.std.specs.Prelude.{ℕ, Option, None, Some, List, map, length}
use Rattle.plan_model.specs.declared.formulas.Formula.{Formula}
use Rattle.plan_model.specs.declared.effects.Effect.{Effect}
use Rattle.plan_model.specs.declared.schemas.ActionSchema.{ActionSchema}
use Rattle.plan_model.specs.declared.values.Pddl.{Pddl}
use Rattle.pddl_printer.specs.declared.object_range.Range.{Range}
use Rattle.pddl_printer.specs.WrittenOut.{joined, condition_parts, condition, effect, written_out}

-- with so many variables in force
abbrev pub condition_in : Option Range → ℕ → Formula → Formula
condition_in None depth f = f
condition_in (Some r) depth f = condition r depth f

-- the parts of a conjunction
abbrev pub parts_in : Option Range → ℕ → List Formula → List Formula
parts_in None depth fs = fs
parts_in (Some r) depth fs = joined (map (condition_parts r depth) fs)

abbrev pub effect_in : Option Range → ℕ → Effect → Effect
effect_in None depth e = e
effect_in (Some r) depth e = effect r depth e

abbrev pub action_in : Option Range → ActionSchema → ActionSchema
action_in range a = record { name = a.name; params = a.params; pre = condition_in range (length a.params) a.pre; eff = effect_in range (length a.params) a.eff }

abbrev pub value_in : Option Range → Pddl → Pddl
value_in None p = p
value_in (Some r) p = written_out r p
