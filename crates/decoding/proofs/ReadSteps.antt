-- A spelling's steps are read as its acts, so that what is proved of failing steps holds of printed ones.
use Rattle.std.proofs.Common.{ℕ, zero, suc, ◌≡◌, inl, inr, IsTrue, List, [], ◌∷◌, ◌++◌, map, Some, slice_get, refl, ap, sym, subst, ◌∙◌, Contains}
use Rattle.std.specs.Option.{option_map_or}
use Rattle.plan_model.specs.declared.networks.Head.{Head}
use Rattle.plan_model.specs.declared.networks.Head.TheVariants.{Task, Action, Check}
use Rattle.plan_model.specs.declared.networks.Child.{Child}
use Rattle.plan_model.specs.declared.terms.Param.{Param}
use Rattle.plan_model.specs.declared.steps.GroundAction.{GroundAction}
use Rattle.plan_model.specs.declared.values.Compiled.{Compiled}
use Rattle.plan_model.specs.task_networks.Lawful.{IsLawful}
use Rattle.plan_model.specs.task_networks.Tree.{Tree, Trees, done, split, none, more, Address, child_at, work_of, works_of, IsGrown}
use Rattle.plan_model.specs.task_networks.Spelling.{Act, run, apply, IsAct, Spells}
use Rattle.plan_model.specs.plan_meaning.Truth.{State, AreTyped, values_of}
use Rattle.plan_model.specs.plan_meaning.Network.{Work, action, check, task, GroundMethod, network, InTypeOf, child_of, ground_work, subtasks_of, IsGroundMethod, IsDeclared, IsPrimitive}
use Rattle.plan_model.specs.plan_meaning.Solution.{top_work, Allows, next, initial, IsGoal}
use Rattle.plan_model.specs.plan_meaning.SpelledPlan.{step_of}
use Rattle.plan_model.proofs.task_networks.Lists.{Contains-here, Contains-later, not-in_empty, head_or_tail}
use Rattle.plan_model.proofs.task_networks.Nodes.{parent, grown_at}
use Rattle.plan_model.proofs.task_networks.Parents.{split_at}
use Rattle.slot_machine.proofs.Growth.{done_at}
use Rattle.decoding.specs.FailingAct as General
use Rattle.decoding.specs.FailingAct.{IsReading, AreRead}
use Rattle.decoding.proofs.FailingSteps.{each_is_solution_or_fails as in_general}
use Rattle.decoding.proofs.Formed.{act_at, spelled_is_formed}
use Rattle.decoding.specs.PrintedSteps.{HasParams, own_objects, IsNamed, IsReadAs, HasSoundSteps, SpellsSolution}
use Rattle.decoding.specs.PrintedLaws.{SpellingsAreRead, EachIsSolutionOrFails}

map_to : {A B : Type 0} (f : A → B) (xs : List A) (y : B) → Contains (map f xs) y → (x : A) × Contains xs x × (f x ≡ y)
map_to f [] y c = absurd (not-in_empty y c)
map_to f (x ∷ xs) y c = elim (head_or_tail (f x) (map f xs) y c) [ inl e ↦ (x, Contains-here x xs, e) | inr d ↦ (let h = map_to f xs y d in (h.0, Contains-later x xs h.0 h.1, h.2)) ]

contains_at : {A : Type 0} (xs : List A) (k : ℕ) (x : A) → slice_get xs k ≡ Some x → Contains xs x
contains_at [] k x e = absurd cc
contains_at (y ∷ xs) zero x e = subst (Contains (y ∷ xs)) (let f : y ≡ x = cc in f) (Contains-here y xs)
contains_at (y ∷ xs) (suc k) x e = Contains-later y xs x (contains_at xs k x e)

module _ (c : Compiled) where
  work_in : (ts : Trees (network c)) (i : ℕ) (t : Tree (network c)) → child_at (network c) ts i ≡ Some t → Contains (works_of (network c) ts) (work_of (network c) t)
  work_in none i t e = absurd cc
  work_in (more u ts) zero t e = subst (λ z. Contains (work_of (network c) u ∷ works_of (network c) ts) (work_of (network c) z)) (let f : u ≡ t = cc in f) (Contains-here (work_of (network c) u) (works_of (network c) ts))
  work_in (more u ts) (suc i) t e = Contains-later (work_of (network c) u) (works_of (network c) ts) (work_of (network c) t) (work_in ts i t e)

  abbrev Described : Act (network c) → Type 0
  Described a = (params : List Param) × HasParams c a params × AreTyped (InTypeOf c) params (own_objects c a)

  module _ (b : ℕ) (sound : HasSoundSteps c b) (tree : Tree (network c)) (grown : IsGrown (network c) tree) (root : work_of (network c) tree ≡ top_work c) where
    -- a check among the works of a ground method is that of a checked method
    check_marked : (g : GroundMethod) (ground : IsGroundMethod c g) (child : Child) → Contains ground.plan.schema.children child → (m : ℕ) (values : List ℕ) → child_of g child ≡ check m values → (m ≡ g.number) × (values ≡ g.values) × IsTrue ground.plan.checked
    check_marked g ground child k m values e = go child.head refl e
      where
        go : (h : Head) → child.head ≡ h → ground_work g h (values_of g.values child.args) ≡ check m values → (m ≡ g.number) × (values ≡ g.values) × IsTrue ground.plan.checked
        go (Task t) f x = absurd cc
        go (Action a) f x = absurd cc
        go Check f x = (cc, cc, sound.marked ground.plan child (contains_at c.methods g.number ground.plan ground.is) k f)

    by_child : (h : ℕ) (g : GroundMethod) (ground : IsGroundMethod c g) (child : Child) → Contains ground.plan.schema.children child → (w : Work) → child_of g child ≡ w → IsPrimitive w → Described (run h w)
    by_child h g ground child k (action a args) e s = let d : IsDeclared c (action a args) = subst (IsDeclared c) e (ground.met.declared child k) in (d.0, d.1, d.2)
    by_child h g ground child k (check m values) e s =
        let (x, y, z) = check_marked g ground child k m values e in
        (ground.plan.schema.params, (ground.plan, ap (slice_get c.methods) x ∙ ground.is, z, refl), subst (AreTyped (InTypeOf c) ground.plan.schema.params) (sym y) ground.typed)
    by_child h g ground child k (task t args) e s = absurd s

    described : (slot : Address → ℕ) (p : Address) (a : Act (network c)) → IsAct (network c) tree slot p a → Described a
    described slot p (apply h new g) (e, f, k) =
        let (ts, x) = split_at (network c) tree p g e in
        let y : IsGroundMethod c g = (grown_at (network c) tree p (split g ts) grown x).0 in
        (y.plan.schema.params, (y.plan, y.is, refl), y.typed)
    described slot [] (run h w) (e, f) = absurd (
        let x = done_at (network c) tree [] w e in
        let t : tree ≡ done w = cc in
        let s : IsPrimitive w = subst (IsGrown (network c)) t grown in
        let y : w ≡ top_work c = ap (work_of (network c)) (sym t) ∙ root in
        let z : IsPrimitive (top_work c) = subst IsPrimitive y s in
        z)
    described slot (i ∷ q) (run h w) (e, f) =
        let x = done_at (network c) tree (i ∷ q) w e in
        let (g, ts, y, z) = parent (network c) tree i q (done w) x in
        let s : IsPrimitive w = grown_at (network c) tree (i ∷ q) (done w) grown x in
        let (ground, works, r) = grown_at (network c) tree q (split g ts) grown y in
        below g ground ts works (work_in ts i (done w) z) s
      where
        below : (g : GroundMethod) (ground : IsGroundMethod c g) (ts : Trees (network c)) → works_of (network c) ts ≡ (network c).works g → Contains (works_of (network c) ts) w → IsPrimitive w → Described (run h w)
        below g ground ts e k s =
            let f : works_of (network c) ts ≡ subtasks_of g ground.plan = e ∙ ap (λ o. option_map_or (subtasks_of g) o []) ground.is in
            let (child, d, r) = map_to (child_of g) ground.plan.schema.children w (subst (λ z. Contains z w) f k) in
            by_child h g ground child d w r s

  abbrev pub Read : ℕ → List GroundAction → List (Act (network c)) → Type 0
  Read b steps acts = AreRead (network c) State (Allows c) (next c) GroundAction (IsNamed c) (IsReadAs c) b steps acts

  read_all : (b : ℕ) (acts : List (Act (network c))) → ((before rest : List (Act (network c))) (a : Act (network c)) → acts ≡ before ++ a ∷ rest → IsReadAs c b (step_of c a) a) → Read b (map (step_of c) acts) acts
  read_all b [] h = tt
  read_all b (a ∷ acts) h = (h [] acts a refl, read_all b acts (λ before rest d e. h (a ∷ before) rest d (ap (λ z. a ∷ z) e)))

  pub steps_are : (b : ℕ) (steps : List GroundAction) (acts : List (Act (network c))) → Read b steps acts → steps ≡ map (step_of c) acts
  steps_are b [] [] r = refl
  steps_are b [] (a ∷ acts) r = absurd r
  steps_are b (s ∷ steps) [] r = absurd r
  steps_are b (s ∷ steps) (a ∷ acts) r = let e = r.0.is in let f = steps_are b steps acts r.1 in λ i. e i ∷ f i

  read_spelling : (b : ℕ) → HasSoundSteps c b → (acts : List (Act (network c))) (tree : Tree (network c)) (order : List Address) (slot : Address → ℕ) → Spells (network c) b (top_work c) acts tree order slot → Read b (map (step_of c) acts) acts
  read_spelling b sound acts tree order slot s = read_all b acts one
    where
      one : (before rest : List (Act (network c))) (a : Act (network c)) → acts ≡ before ++ a ∷ rest → IsReadAs c b (step_of c a) a
      one before rest a e =
          let s' = subst (λ z. Spells (network c) b (top_work c) z tree order slot) e s in
          let (p, x) = act_at (network c) tree slot order before rest a s'.spelled in
          let (params, has, typed) = described b sound tree s.front.grown s.front.root slot p a x in
          record { formed = spelled_is_formed (network c) b (top_work c) before rest a tree order slot s'; params = params; has = has; typed = typed; is = refl }

  pub spellings_are_read : SpellingsAreRead c
  spellings_are_read b steps tree order slot sound = (
    λ x. (x.0, subst (λ z. Read b z x.0) (sym x.2) (read_spelling b sound x.0 tree order slot x.1), x.1),
    λ x. (x.0, x.2, steps_are b steps x.0 x.1),
  )

  pub reading : (b : ℕ) → HasSoundSteps c b → IsReading (network c) State (Allows c) (next c) GroundAction (IsNamed c) (IsReadAs c) b
  reading b sound = record { named = λ s a r. (a, r.params, r.has, ap (λ (z : GroundAction). z.name) r.is); formed = λ s a r. r.formed; one = sound.one }

  pub each_is_solution_or_fails : IsLawful (network c) → EachIsSolutionOrFails c
  each_is_solution_or_fails law b steps positive sound =
      let g = in_general (network c) law State (Allows c) (next c) (initial c) (IsGoal c) GroundAction (IsNamed c) (IsReadAs c) b (top_work c) steps positive (reading b sound) in
      record { one_of = λ ns nf. g.one_of (λ x. ns (x.1, x.2, x.3, (x.0, x.5, steps_are b steps x.0 x.4), x.6)) nf; not_both = λ n why x f. g.not_both n why (to x) f; step = g.step; cause = g.cause }
    where
      to : SpellsSolution c b steps → General.SpellsSolution (network c) State (Allows c) (next c) GroundAction (IsNamed c) (IsReadAs c) (top_work c) (initial c) (IsGoal c) b steps
      to (tree, order, slot, sp, sol) = let r = (spellings_are_read b steps tree order slot sound).0 sp in (r.0, tree, order, slot, r.1, r.2, sol)
