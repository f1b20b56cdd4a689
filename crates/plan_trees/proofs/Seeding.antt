-- The seeds of a plan's tree so far, and that they are no more than a tree may have nodes.
use Rattle.std.proofs.Common.{ℕ, suc, ◌≡◌, ◌+◌, ◌≤◌, inl, inr, ◌∙◌, List, [], ◌∷◌, ◌++◌, length, map, slice_get, Option, Some, None, refl, ap, sym, subst, Contains, length-append, arith}
use Rattle.std.proofs.lemmas.List.{length-map}
use Rattle.std.proofs.lemmas.List.Elements.{Contains-append_left, Contains-append_right}
use Rattle.std.proofs.lemmas.Bool.{cases_lt}
use Rattle.htn_base.specs.Limits.{most_steps, most_lines}
use Rattle.plan_texts.specs.SoundlyCompiled.{IsSoundlyCompiled}
use Rattle.plan_texts.proofs.Together.{together-length}
use Rattle.plan_model.specs.declared.values.Compiled.{Compiled}
use Rattle.plan_model.specs.task_networks.Tree.{Tree, Address}
use Rattle.plan_model.specs.plan_meaning.Network.{network}
use Rattle.plan_model.proofs.task_networks.Different.{no_more}
use Rattle.plan_model.proofs.task_networks.Lists.{Contains-here, Contains-later}
use Rattle.hplan_text.specs.declared.values.HNode.{HNode}
use Rattle.hplan_text.specs.declared.values.HPlan.{HPlan}
use Rattle.hplan_text.specs.Printable.{task_ids, line_id, node_id}
use Rattle.schedules.proofs.latest.Rearranged.{in_map}
use Rattle.tree_core.proofs.Gets.{get_within, get_some, at_place, place_of}
use Rattle.numbered_lines.specs.declared.lines.Lines.{Lines}
use Rattle.numbered_lines.specs.Numbered.{AreNumbered}
use Rattle.line_fits.specs.declared.fitted.Fits.{Fits}
use Rattle.line_fits.specs.Fitted.{ForPlans, AreFits}
use Rattle.plan_trees.specs.declared.seed.Source.{Source}
use Rattle.plan_trees.specs.declared.seed.Source.TheVariants.{Step, Task, Check}
use Rattle.plan_trees.specs.declared.seed.Seed.{Seed}
use Rattle.plan_trees.specs.Sources.{all_below, seeds, with_children}
use Rattle.plan_trees.specs.Seeds.{IsFittedTree, IsTaskAt, StandsAt, AreSeedsOf}
use Rattle.plan_trees.proofs.SeedLists.{length-seeds, all_put}
use Rattle.plan_trees.proofs.Growing.{IsSoFar, all_more, at_first, all_there}
use Rattle.plan_trees.proofs.Fitted.{node_at, below}

pub none_past : {A : Type 0} (xs : List A) (k : ℕ) → slice_get xs k ≡ None → length xs ≤ k
none_past xs k e = elim (cases_lt k (length xs)) [ inl l ↦ absurd (let (x, f) = get_some xs k l in let g = sym e ∙ f in cc) | inr l ↦ l ]

abbrev pub root_seed : Seed
root_seed = record { source = Task None; parent = None; child = 0 }

-- before the children of the seed at the place are put
abbrev pub AreSoFar : Compiled → Lines → Fits → List Seed → ℕ → Type 0
AreSoFar c lines fits all place = ForPlans c lines (λ plan. AreFits c plan fits → (tree : Tree (network c)) (node : ℕ → Address)
    → IsFittedTree c plan fits tree node
    → (order : List Address) × IsSoFar (network c) tree (StandsAt c lines fits plan node) all order place 0)

module _ (c : Compiled) (plan : HPlan) (lines : Lines) (n : AreNumbered c plan lines) (fits : Fits)
    (f : AreFits c plan fits) (tree : Tree (network c)) (node : ℕ → Address) (t : IsFittedTree c plan fits tree node) where
  abbrev Stands : Source → Address → Type 0
  Stands = StandsAt c lines fits plan node

  check_node : HNode → Address
  check_node x = 0 ∷ node x.line.id

  -- where nodes may stand: at the root, its check, the lines, and their checks
  checks : List Address
  checks = (0 ∷ []) ∷ map check_node plan.nodes

  own : List Address
  own = [] ∷ map node (task_ids plan)

  of_line : (place : ℕ) (id : ℕ) (p : Address) → slice_get (task_ids plan) place ≡ Some id → p ≡ node id → Contains own p
  unfolding own
  of_line place id p e q = subst (Contains own) (sym q) (Contains-later [] (map node (task_ids plan)) (node id) (in_map node (task_ids plan) id (at_place (task_ids plan) place id e)))

  of_task : (which : Option ℕ) (p : Address) → IsTaskAt c lines fits plan node which p → Contains own p
  unfolding own
  of_task None p e = subst (Contains own) (sym e) (Contains-here [] (map node (task_ids plan)))
  of_task (Some k) p (id, e, q) = of_line (length lines.steps + k) id p e q

  of_check : (which : Option ℕ) (q : Address) → IsTaskAt c lines fits plan node which q → Contains checks (0 ∷ q)
  unfolding checks check_node
  of_check None q e = subst (λ z. Contains checks (0 ∷ z)) (sym e) (Contains-here (0 ∷ []) (map check_node plan.nodes))
  of_check (Some k) q (id, e, r) =
      let (x, there, same) = node_at c plan lines n fits f tree node t k id e in
      subst (λ z. Contains checks (0 ∷ z)) (ap node same ∙ sym r)
      (Contains-later (0 ∷ []) (map check_node plan.nodes) (check_node x) (in_map check_node plan.nodes x (at_place plan.nodes k x there)))

  stands_there : (s : Source) (p : Address) → Stands s p → Contains (own ++ checks) p
  stands_there (Step k) p (l, (id, e, q)) = Contains-append_left own checks p (of_line k id p e q)
  stands_there (Task which) p x = Contains-append_left own checks p (of_task which p x)
  stands_there (Check which) p (q, x, e, y) = Contains-append_right own checks p (subst (Contains checks) (sym e) (of_check which q x))

  many_places : length lines.steps + length lines.splits ≤ most_lines → length (own ++ checks) ≤ most_steps
  unfolding own checks
  many_places l =
      let a = length-append own checks in
      let b = length-map (task_ids plan) node in
      let d = length-map plan.nodes check_node in
      let e = length-append (map line_id plan.primitives) (map node_id plan.nodes) in
      let g = length-map plan.primitives line_id in
      let k = length-map plan.nodes node_id in
      let m = together-length _ plan.primitives lines.steps n.steps_are in
      let o = together-length _ plan.nodes lines.splits n.splits_are in
      omega arith

  pub few : (all : List Seed) (order : List Address) (place j : ℕ) → IsSoFar (network c) tree Stands all order place j
      → length lines.steps + length lines.splits ≤ most_lines → length all ≤ most_steps
  few all order place j r l =
      let a = no_more order (own ++ checks) r.different (λ p d. (
      let (k, e) = place_of order p d in
      let (s, g) = get_some all k (let x = get_within order k p e in let y = r.many in omega arith) in
      stands_there s.source p (r.stands k s p g e))) in
      let b = many_places l in
      let d = r.many in
      omega arith

module _ (c : Compiled) (lines : Lines) (fits : Fits) where
  pub begun : AreSoFar c lines fits (root_seed ∷ []) 0
  begun plan s p n f tree node t = ([] ∷ [], at_first (network c) tree (StandsAt c lines fits plan node) (Task None) refl)

  pub further : IsSoundlyCompiled c → length lines.steps + length lines.splits ≤ most_lines
      → (all new : List Seed) (place : ℕ) (seed : Seed)
      → AreSoFar c lines fits all place → slice_get all place ≡ Some seed
      → new ≡ with_children all place 0 (all_below c lines fits seed.source)
      → AreSoFar c lines fits new (place + 1)
  further sc l all new place seed so at e plan s p n f tree node t =
      let (order, r) = so plan s p n f tree node t in
      let (q, here) = get_some order place (let x = get_within all place seed at in let y = r.many in omega arith) in
      let kids = all_below c lines fits seed.source in
      let b = below c plan lines n fits f tree node t sc.problem sc.checks sc.sound sc.compiled seed.source q (r.stands place seed q at here) in
      let (longer, m) = all_more (network c) tree (StandsAt c lines fits plan node) kids all order place 0 q r here b in
      let room = few c plan lines n fits f tree node t (all ++ seeds place 0 kids) longer (suc place) 0 m l in
      let many = length-append all (seeds place 0 kids) in
      let as_many = length-seeds place 0 kids in
      let same = e ∙ all_put all place 0 kids (omega arith) in (
        longer,
        subst (λ z. IsSoFar (network c) tree (StandsAt c lines fits plan node) new longer z 0)
            (let x : suc place ≡ place + 1 = omega arith in x)
            (subst (λ z. IsSoFar (network c) tree (StandsAt c lines fits plan node) z longer (suc place) 0) (sym same) m),
      )

  pub ended : (all : List Seed) (place : ℕ) → AreSoFar c lines fits all place → length all ≤ place → AreSeedsOf c lines fits all
  ended all place so l plan s p n f tree node t =
      let (order, r) = so plan s p n f tree node t in (
        order,
        record {
          many = r.many;
          under = r.under;
          stands = r.stands;
          all = all_there (network c) tree (StandsAt c lines fits plan node) all order place r l;
          different = r.different;
        },
      )
