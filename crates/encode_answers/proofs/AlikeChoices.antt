-- Which values a method can have, and in which gap a node may stand with them, is the same over two compiled values of the same texts.
use Rattle.std.proofs.Common.{ℕ, zero, suc, ◌≡◌, inl, inr, IsTrue, cond, List, [], ◌∷◌, map, take, Option, Some, None, slice_get, refl, ap, sym, subst, ◌∙◌}
use Rattle.plan_model.specs.declared.schemas.MethodPlan.{MethodPlan}
use Rattle.plan_model.specs.declared.values.Compiled.{Compiled}
use Rattle.plan_model.specs.task_networks.Tree.{Tree, Trees, open_leaf, done, split, none, more, Label, waits, ran, used, Address, label_at}
use Rattle.plan_model.specs.task_networks.Executable.{AreAllowed, last_state}
use Rattle.plan_model.specs.plan_meaning.Network.{Work, action, check, task, GroundMethod, network}
use Rattle.plan_model.specs.plan_meaning.Truth.{State}
use Rattle.plan_model.specs.plan_meaning.Solution.{Allows, next, initial}
use Rattle.renamed_networks.specs.Renamed.{AreSame, SameLabel, SameTree, SameTrees}
use Rattle.renamed_networks.proofs.RenamedTrees.{SameOption, to_label}
use Rattle.renamed_networks.proofs.RenamedRuns.{allowed_to, last_same}
use Rattle.schedules.specs.latest.Relabelled.{relabelled, all_relabelled}
use Rattle.plan_encoder.specs.ChosenValues.{with_values, rechecked, method_with, work_with, CanHave, chosen, is_checked_by, is_checked, asking_by, asking, ParentCanHave, state_in, WorkMayStand, LabelMayStand, MayStand}
use Rattle.plan_encoder.specs.Laws.{MayStandSomehow, GoalAfter}
use Rattle.decode_answers.proofs.AlikeValues.{HoldTheSame, StandTogether, SamePlan, AreTwins, plan_place}
use Rattle.decode_answers.proofs.AlikeReaders.{Equal, head_same, works_same, ground_to, alike_readers}
use Rattle.encode_answers.proofs.AlikeLines.{told, same_label}

taken_same : {A B : Type 0} (R : A → B → Type 0) (n : ℕ) (xs : List A) (ys : List B) → AreSame R xs ys → AreSame R (take n xs) (take n ys)
taken_same R zero xs ys s = tt
taken_same R (suc n) [] [] s = tt
taken_same R (suc n) (x ∷ xs) (y ∷ ys) s = (s.0, taken_same R n xs ys s.1)
taken_same R (suc n) [] (y ∷ ys) s = absurd s
taken_same R (suc n) (x ∷ xs) [] s = absurd s

module _ (c d : Compiled) (t : AreTwins c d) where
  abbrev SameOf : Label (network c) → Label (network d) → Type 0
  SameOf = SameLabel (network c) (network d) Equal Equal

  can_have_to : (g : GroundMethod) (values : List ℕ) → CanHave c g values → CanHave d g values
  can_have_to g values x = record {
    ground = ground_to c d t (with_values g values) x.ground;
    head = sym (head_same c d t (with_values g values)) ∙ x.head ∙ head_same c d t g;
    children = sym (works_same c d t (with_values g values)) ∙ x.children ∙ ap (map (rechecked values)) (works_same c d t g);
  }

  checked_same : (g : GroundMethod) → is_checked c g ≡ is_checked d g
  checked_same g = go (slice_get c.methods g.number) (slice_get d.methods g.number) (plan_place c d t g.number)
    where
      go : (o u : Option MethodPlan) → StandTogether (SamePlan c d) o u → is_checked_by c o ≡ is_checked_by d u
      go None None r = refl
      go (Some p) (Some q) r = r.0.checked
      go None (Some q) r = absurd r
      go (Some p) None r = absurd r

  -- the same values are chosen
  module _ (values : Address → List ℕ) where
    mutual
      chosen_at : (tree : Tree (network c)) (other : Tree (network d)) → SameTree (network c) (network d) Equal Equal tree other
          → (p : Address)
          → SameTree (network c) (network d) Equal Equal (relabelled (network c) (work_with values) (method_with values) p tree)
          (relabelled (network d) (work_with values) (method_with values) p other)
      chosen_at (open_leaf v) (open_leaf w) s p = ap (work_with values p) s
      chosen_at (done v) (done w) s p = ap (work_with values p) s
      chosen_at (split g ts) (split m us) s p = (ap (method_with values p) s.0, all_chosen_at ts us s.1 p 0)
      chosen_at (open_leaf v) (done w) s p = absurd s
      chosen_at (open_leaf v) (split m us) s p = absurd s
      chosen_at (done v) (open_leaf w) s p = absurd s
      chosen_at (done v) (split m us) s p = absurd s
      chosen_at (split g ts) (open_leaf w) s p = absurd s
      chosen_at (split g ts) (done w) s p = absurd s

      all_chosen_at : (ts : Trees (network c)) (us : Trees (network d)) → SameTrees (network c) (network d) Equal Equal ts us
          → (p : Address) (i : ℕ)
          → SameTrees (network c) (network d) Equal Equal (all_relabelled (network c) (work_with values) (method_with values) p i ts)
          (all_relabelled (network d) (work_with values) (method_with values) p i us)
      all_chosen_at none none s p i = tt
      all_chosen_at (more x ts) (more y us) s p i = (chosen_at x y s.0 (i ∷ p), all_chosen_at ts us s.1 p (suc i))
      all_chosen_at none (more y us) s p i = absurd s
      all_chosen_at (more x ts) none s p i = absurd s

    pub chosen_to : (tree : Tree (network c)) (other : Tree (network d)) → SameTree (network c) (network d) Equal Equal tree other
        → SameTree (network c) (network d) Equal Equal (chosen c tree values) (chosen d other values)
    chosen_to tree other s = chosen_at tree other s []

  -- states after the same labels
  pub executable_to : (ks : List (Label (network c))) (ls : List (Label (network d))) → AreSame SameOf ks ls
      → AreAllowed (network c) State (Allows c) (next c) (initial c) ks → AreAllowed (network d) State (Allows d) (next d) (initial d) ls
  executable_to ks ls same a =
      let alike = alike_readers c d t in
      allowed_to (network c) (network d) Equal Equal State HoldTheSame (Allows c) (next c) (Allows d) (next d)
      (λ S S' h k l z. (alike.allows S S' h k l z).0) alike.next ks ls same (initial c) (initial d) alike.first a

  pub states_same : (ks : List (Label (network c))) (ls : List (Label (network d))) → AreSame SameOf ks ls
      → HoldTheSame (last_state (network c) State (Allows c) (next c) (initial c) ks)
      (last_state (network d) State (Allows d) (next d) (initial d) ls)
  states_same ks ls same =
      let alike = alike_readers c d t in
      last_same (network c) (network d) Equal Equal State HoldTheSame (Allows c) (next c) (Allows d) (next d)
      (λ S S' h k l z. (alike.allows S S' h k l z).0) alike.next ks ls same (initial c) (initial d) alike.first

  pub goal_after_to : (ks : List (Label (network c))) (ls : List (Label (network d))) → AreSame SameOf ks ls → GoalAfter c ks
      → GoalAfter d ls
  goal_after_to ks ls same g = ((alike_readers c d t).goal _ _ (states_same ks ls same)).0 g

  module _ (tree : Tree (network c)) (other : Tree (network d)) (s : SameTree (network c) (network d) Equal Equal tree other) where
    pub asking_same : (p : Address) → asking c tree p ≡ asking d other p
    asking_same p =
        told c d t (asking_by c p) (asking_by d p) refl (λ w. refl) (λ w. refl) (λ g. ap (λ z. cond z (0 ∷ p) p) (checked_same g))
        (label_at (network c) tree p) (label_at (network d) other p) (same_label c d t tree other s p)

    parent_to : (p : Address) (values : List ℕ) → ParentCanHave c tree p values → ParentCanHave d other p values
    parent_to [] values x = x
    parent_to (i ∷ q) values (g, e, x) = (let k = to_label (network c) (network d) Equal Equal tree other s q (used g) e in go k.0 k.1 k.2)
      where
        go : (l : Label (network d)) → label_at (network d) other q ≡ Some l → SameOf (used g) l → ParentCanHave d other (i ∷ q) values
        go (waits v) f y = absurd y
        go (ran v) f y = absurd y
        go (used m) f y = (m, f, subst (λ z. CanHave d z values) y (can_have_to g values x))

    module _ (ks : List (Label (network c))) (ls : List (Label (network d))) (same : AreSame SameOf ks ls) where
      abbrev state_same : (i : ℕ) → HoldTheSame (state_in c tree ks i) (state_in d other ls i)
      state_same i = states_same (take i ks) (take i ls) (taken_same SameOf i ks ls same)

      allowed_in : (i : ℕ) (k : Label (network c)) (l : Label (network d)) → SameOf k l → Allows c (state_in c tree ks i) k
          → Allows d (state_in d other ls i) l
      allowed_in i k l e = ((alike_readers c d t).allows _ _ (state_same i) k l e).0

      work_stands : (p : Address) (w : Work) (values : List ℕ) (i : ℕ) → WorkMayStand c tree ks p w values i
          → WorkMayStand d other ls p w values i
      work_stands p (action a args) values i x = allowed_in i (ran (action a args)) (ran (action a args)) refl x
      work_stands p (check m old) values i x = (parent_to p values x.0, allowed_in i (ran (check m values)) (ran (check m values)) refl x.1)
      work_stands p (task k args) values i x = x

      label_stands : (p : Address) (values : List ℕ) (i : ℕ) (o : Option (Label (network c))) (u : Option (Label (network d)))
          → SameOption (network c) (network d) Equal Equal SameOf o u → LabelMayStand c tree ks p o values i
          → LabelMayStand d other ls p u values i
      label_stands p values i None None e x = x
      label_stands p values i (Some (waits v)) (Some (waits w)) e x = x
      label_stands p values i (Some (ran v)) (Some (ran w)) e x = subst (λ z. WorkMayStand d other ls p z values i) e
          (work_stands p v values i x)
      label_stands p values i (Some (used g)) (Some (used m)) e x = subst (λ z. LabelMayStand d other ls p (Some (used z)) values i) e
          (method_stands x)
        where
          method_stands : LabelMayStand c tree ks p (Some (used g)) values i → LabelMayStand d other ls p (Some (used g)) values i
          method_stands (inl k) = inl (subst IsTrue (checked_same g) k)
          method_stands (inr y) = inr (
            can_have_to g values y.0,
            allowed_in i (used (with_values g values)) (used (with_values g values)) refl y.1,
          )
      label_stands p values i None (Some l) e x = absurd e
      label_stands p values i (Some k) None e x = absurd e
      label_stands p values i (Some (waits v)) (Some (ran w)) e x = absurd e
      label_stands p values i (Some (waits v)) (Some (used m)) e x = absurd e
      label_stands p values i (Some (ran v)) (Some (waits w)) e x = absurd e
      label_stands p values i (Some (ran v)) (Some (used m)) e x = absurd e
      label_stands p values i (Some (used g)) (Some (waits w)) e x = absurd e
      label_stands p values i (Some (used g)) (Some (ran w)) e x = absurd e

      -- where a node may stand with these values, or with some
      pub stands_to : (p : Address) (values : List ℕ) (i : ℕ) → MayStand c tree ks p values i → MayStand d other ls p values i
      stands_to p values i x = label_stands p values i (label_at (network c) tree p) (label_at (network d) other p)
          (same_label c d t tree other s p) x

      pub stands_somehow_to : (p : Address) (i : ℕ) → MayStandSomehow c tree ks p i → MayStandSomehow d other ls p i
      stands_somehow_to p i (values, x) = (values, stands_to p values i x)
