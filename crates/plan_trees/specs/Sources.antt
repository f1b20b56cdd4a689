-- What stands at the nodes of a plan's tree, by the lines of the plan and the methods that fit them, and what is listed below each.
-- Source: this project's.
use Rattle.std.specs.Prelude.{ℕ, suc, ◌-◌, nat_lt, List, [], ◌∷◌, ◌++◌, map, length, take, slice_get, Bool, false, cond, Option, Some, None}
use Rattle.std.specs.Option.{option_map_or}
use Rattle.htn_base.specs.Limits.{most_steps}
use Rattle.plan_model.specs.declared.schemas.MethodPlan.{MethodPlan}
use Rattle.plan_model.specs.declared.values.Compiled.{Compiled}
use Rattle.tree_core.specs.declared.label.Label.{Label}
use Rattle.tree_core.specs.declared.label.Label.TheVariants.{Primitive, Check, Abstract}
use Rattle.tree_core.specs.declared.growth.Growth as Grown
use Rattle.numbered_lines.specs.declared.lines.Said.{Said}
use Rattle.numbered_lines.specs.declared.lines.Split.{Split}
use Rattle.numbered_lines.specs.declared.lines.Lines.{Lines}
use Rattle.line_fits.specs.declared.fitted.Fits.{Fits}
use Rattle.line_fits.specs.declared.fitted.MethodFit.{MethodFit}
use Rattle.plan_trees.specs.declared.seed.Source.{Source}
use Rattle.plan_trees.specs.declared.seed.Source.TheVariants as source
use Rattle.plan_trees.specs.declared.seed.Seed.{Seed}

-- the method of a decomposed task
abbrev pub fit_of : Fits → Option ℕ → Option MethodFit
fit_of fits None = Some fits.root
fit_of fits (Some k) = slice_get fits.splits k

-- what stands for a line that is in no plan, and for one of a decomposed task
abbrev pub no_label : Label
no_label = Check 0 []

abbrev pub no_task : Label
no_task = Abstract 0 [] 0 []

abbrev pub step_label : Option (Option Said) → Label
step_label None = no_label
step_label (Some None) = no_label
step_label (Some (Some said)) = Primitive said.number said.objects

abbrev pub root_label : Compiled → MethodFit → Label
root_label c fit = Abstract c.hddl.top.task [] fit.method fit.values

abbrev pub task_label : Said → MethodFit → Label
task_label said fit = Abstract said.number said.objects fit.method fit.values

abbrev pub fitted_label : Option Said → Option MethodFit → Label
fitted_label None fit = no_task
fitted_label (Some said) None = no_task
fitted_label (Some said) (Some fit) = task_label said fit

abbrev pub split_label : Option Split → Option MethodFit → Label
split_label None fit = no_task
split_label (Some split) fit = fitted_label split.task fit

abbrev pub check_label : Option MethodFit → Label
check_label None = no_label
check_label (Some fit) = Check fit.method fit.values

abbrev pub label : Compiled → Lines → Fits → Source → Label
label c lines fits (source.Step k) = step_label (slice_get lines.steps k)
label c lines fits (source.Task None) = root_label c fits.root
label c lines fits (source.Task (Some k)) = split_label (slice_get lines.splits k) (slice_get fits.splits k)
label c lines fits (source.Check line) = check_label (fit_of fits line)

abbrev pub growth : Compiled → Lines → Fits → Seed → Grown.Growth
growth c lines fits seed = record { parent = seed.parent; child = seed.child; label = label c lines fits seed.source }

-- the lines that a decomposed task lists
abbrev pub listed : Lines → Option ℕ → List ℕ
listed lines None = lines.root
listed lines (Some k) = option_map_or (λ (s : Split). s.children) (slice_get lines.splits k) []

-- whether its method has a check
abbrev pub is_checked : Compiled → Option MethodFit → Bool
is_checked c None = false
is_checked c (Some fit) = option_map_or (λ (p : MethodPlan). p.checked) (slice_get c.methods fit.method) false

-- what stands at the line of this place, where so many are primitive
abbrev pub source_at : ℕ → ℕ → Source
source_at primitives place = cond (nat_lt place primitives) (source.Step place) (source.Task (Some (place - primitives)))

-- children of the seed at a place, from this number on
abbrev pub seeds : ℕ → ℕ → List Source → List Seed
seeds parent child [] = []
seeds parent child (s ∷ ss) = (record { source = s; parent = Some parent; child = child }) ∷ seeds parent (suc child) ss

-- the seeds with these children, of which there are no more than a tree may have nodes
abbrev pub with_children : List Seed → ℕ → ℕ → List Source → List Seed
with_children old parent child ss = old ++ seeds parent child (take (most_steps - length old) ss)

abbrev pub lines_below : Lines → Option ℕ → List Source
lines_below lines task = map (source_at (length lines.steps)) (listed lines task)

-- the check, if there is one, and then the lines
abbrev pub sources_below : Compiled → Lines → Fits → Option ℕ → List Source
sources_below c lines fits task = cond (is_checked c (fit_of fits task)) (source.Check task ∷ []) [] ++ lines_below lines task

-- only a decomposed task has something below it
abbrev pub all_below : Compiled → Lines → Fits → Source → List Source
all_below c lines fits (source.Step k) = []
all_below c lines fits (source.Task task) = sources_below c lines fits task
all_below c lines fits (source.Check task) = []
