-- Works and methods of a pruned problem and of the problem that are the same: the schemas for which their numbers stand, and the objects.
-- Source: this project's.
use Rattle.std.specs.Prelude.{ℕ, suc, ◌≡◌, List, [], ◌∷◌, ◌++◌, map, length, Some, slice_get}
use Rattle.plan_model.specs.declared.values.Hddl.{Hddl}
use Rattle.plan_model.specs.declared.values.Compiled.{Compiled}
use Rattle.plan_model.specs.task_networks.Tree.{Tree}
use Rattle.plan_model.specs.plan_meaning.Network.{Work, action, check, task, GroundMethod, network}
use Rattle.live_parts.specs.Kept.{Kept}
use Rattle.renamed_networks.specs.Renamed as Renamed

-- the new number stands for the old one, where these are the old ones that are kept
abbrev pub StandsFor : List ℕ → ℕ → ℕ → Type 0
StandsFor numbers new old = slice_get numbers new ≡ Some old

module _ (h : Hddl) (kept : Kept) where
  -- the top task behind the others, the top method before them
  abbrev pub all_tasks : List ℕ
  all_tasks = kept.tasks ++ length h.tasks ∷ []

  abbrev pub all_methods : List ℕ
  all_methods = 0 ∷ map suc kept.methods

  abbrev pub SameWork : Work → Work → Type 0
  SameWork (action new args) (action old objects) = StandsFor kept.actions new old × (args ≡ objects)
  SameWork (check new args) (check old objects) = StandsFor all_methods new old × (args ≡ objects)
  SameWork (task new args) (task old objects) = StandsFor all_tasks new old × (args ≡ objects)
  SameWork (action new args) (check old objects) = ⊥
  SameWork (action new args) (task old objects) = ⊥
  SameWork (check new args) (action old objects) = ⊥
  SameWork (check new args) (task old objects) = ⊥
  SameWork (task new args) (action old objects) = ⊥
  SameWork (task new args) (check old objects) = ⊥

  abbrev pub SameMethod : GroundMethod → GroundMethod → Type 0
  SameMethod g m = StandsFor all_methods g.number m.number × (g.values ≡ m.values)

  -- a tree of the pruned problem, and the tree of the problem that it is once schemas are read by their names
  abbrev pub SameTree : (new old : Compiled) → Tree (network new) → Tree (network old) → Type 0
  SameTree new old tree other = Renamed.SameTree (network new) (network old) SameWork SameMethod tree other
