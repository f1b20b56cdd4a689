-- The labels of a tree with other works and methods; where the methods' pairs are the same, it has the same shape.
use Rattle.std.proofs.Common.{ℕ, zero, suc, ◌≡◌, ◌+◌, ◌↔◌, [], ◌∷◌, Option, Some, None, option_map, refl, ap, sym, subst, ◌∙◌, arith}
use Rattle.std.specs.Option.{option_and_then}
use Rattle.plan_model.specs.task_networks.Net.{Net}
use Rattle.plan_model.specs.task_networks.Tree.{Tree, Trees, open_leaf, done, split, none, more, Label, waits, ran, used, Address, at, child_at, children_of, label, label_at}
use Rattle.schedules.specs.latest.Execution.{SameKind, IsSameShape}
use Rattle.schedules.specs.latest.Relabelled.{relabelled, all_relabelled, new_label}

module _ (N : Net) (work : Address → N.Work → N.Work) (method : Address → N.Method → N.Method) where
  abbrev new : Address → Tree N → Tree N
  new p t = relabelled N work method p t

  child_new : (p : Address) (k i : ℕ) (ts : Trees N)
      → child_at N (all_relabelled N work method p k ts) i ≡ option_map (new ((k + i) ∷ p)) (child_at N ts i)
  child_new p k i none = refl
  child_new p k zero (more t ts) = ap (λ z. Some (new (z ∷ p) t)) (let e : k ≡ k + 0 = omega arith in e)
  child_new p k (suc i) (more t ts) = child_new p (suc k) i ts ∙ ap (λ z. option_map (new (z ∷ p)) (child_at N ts i)) (let e : suc k + i ≡ k + suc i = omega arith in e)

  children_new : (p : Address) (i : ℕ) (t : Tree N)
      → child_at N (children_of N (new p t)) i ≡ option_map (new (i ∷ p)) (child_at N (children_of N t) i)
  children_new p i (open_leaf w) = refl
  children_new p i (done w) = refl
  children_new p i (split m ts) = child_new p 0 i ts ∙ ap (λ z. option_map (new (z ∷ p)) (child_at N ts i)) (let e : 0 + i ≡ i = omega arith in e)

  at_new : (tree : Tree N) (p : Address) → at N (new [] tree) p ≡ option_map (new p) (at N tree p)
  at_new tree [] = refl
  at_new tree (i ∷ p) = ap (option_and_then (λ t. child_at N (children_of N t) i)) (at_new tree p) ∙ go (at N tree p)
    where
      go : (o : Option (Tree N))
          → option_and_then (λ t. child_at N (children_of N t) i) (option_map (new p) o) ≡ option_map (new (i ∷ p)) (option_and_then (λ t. child_at N (children_of N t) i) o)
      go None = refl
      go (Some t) = children_new p i t

  label_new : (p : Address) (t : Tree N) → label N (new p t) ≡ new_label N work method p (label N t)
  label_new p (open_leaf w) = refl
  label_new p (done w) = refl
  label_new p (split m ts) = refl

  pub label_at_new : (tree : Tree N) (p : Address) → label_at N (new [] tree) p ≡ option_map (new_label N work method p) (label_at N tree p)
  label_at_new tree p = ap (option_map (label N)) (at_new tree p) ∙ go (at N tree p)
    where
      go : (o : Option (Tree N))
          → option_map (label N) (option_map (new p) o) ≡ option_map (new_label N work method p) (option_map (label N) o)
      go None = refl
      go (Some t) = ap Some (label_new p t)

  -- where each new method has the old one's pairs, the shape is the same
  pub same_shape : ((p : Address) (m : N.Method) (i j : ℕ) → N.Pair m i j ↔ N.Pair (method p m) i j) → (tree : Tree N)
      → IsSameShape N tree (new [] tree)
  same_shape h tree = record {
    to = λ p k e. (new_label N work method p k, label_at_new tree p ∙ ap (option_map (new_label N work method p)) e, kind p k);
    back = λ p l e. back p l (label_at N tree p) (sym (label_at_new tree p) ∙ e);
  }
    where
      kind : (p : Address) (k : Label N) → SameKind N k (new_label N work method p k)
      kind p (waits w) = tt
      kind p (ran w) = tt
      kind p (used m) = h p m

      back : (p : Address) (l : Label N) (o : Option (Label N)) → option_map (new_label N work method p) o ≡ Some l
          → (k : Label N) × (o ≡ Some k) × SameKind N k l
      back p l None e = absurd cc
      back p l (Some k) e = (k, refl, subst (SameKind N k) (let f : new_label N work method p k ≡ l = cc in f) (kind p k))
