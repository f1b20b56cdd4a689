-- Growths that aren't joined, and the place that is told of each.
use Rattle.std.proofs.Common.{ℕ, zero, suc, ◌≡◌, List, [], ◌∷◌, Option, Some, None, slice_get, refl, ap, sym, subst, ◌∙◌, arith}
use Rattle.plan_model.specs.task_networks.Tree.{ran, used}
use Rattle.plan_model.specs.plan_meaning.Network.{action, task}
use Rattle.tree_core.specs.Growths.{Growth, IsAt, IsAstray, IsDefect, missing, astray, under_leaf, repeated, left_out, IsUnjoined}
use Rattle.tree_core.specs.Labels.{labels}

-- a growth of an action, and of a task that is decomposed
abbrev acts : Option ℕ → ℕ → Growth labels
acts parent child = record { parent = parent; child = child; label = ran (action 0 []) }

abbrev splits : Option ℕ → ℕ → Growth labels
splits parent child = record { parent = parent; child = child; label = used (record { head = task 0 []; method = record { number = 1; values = [] } }) }

first_place : (gs : List (Growth labels)) → IsDefect labels gs 0 → IsUnjoined labels gs 0
first_place gs d = (d, λ j l. absurd (omega arith))

no_growths : IsUnjoined labels [] 0
no_growths = first_place [] (missing refl refl)

first_with_parent : IsUnjoined labels (acts (Some 0) 0 ∷ []) 0
first_with_parent = first_place (acts (Some 0) 0 ∷ []) (astray (acts (Some 0) 0) refl (omega arith))

-- child 1 of the root is given, and child 0 isn't: the root's place is told, though something is wrong at place 2 too
number_left_out : IsUnjoined labels (splits None 0 ∷ acts (Some 0) 1 ∷ acts None 0 ∷ []) 0
number_left_out = first_place gs (left_out (acts (Some 0) 1) 1 0 refl refl refl none)
  where
    gs : List (Growth labels)
    gs = splits None 0 ∷ acts (Some 0) 1 ∷ acts None 0 ∷ []

    none : (j : ℕ) (h : Growth labels) → slice_get (splits None 0 ∷ acts (Some 0) 1 ∷ acts None 0 ∷ []) j ≡ Some h → h.parent ≡ Some 0 → h.child ≡ 0 → ⊥
    none zero h e p c = let f : splits None 0 ≡ h = cc in let q : h.parent ≡ None = ap (λ (z : Growth labels). z.parent) (sym f) in cc
    none (suc zero) h e p c = let f : acts (Some 0) 1 ≡ h = cc in let q : h.child ≡ 1 = ap (λ (z : Growth labels). z.child) (sym f) in omega (arith, q, c)
    none (suc (suc zero)) h e p c = let f : acts None 0 ≡ h = cc in let q : h.parent ≡ None = ap (λ (z : Growth labels). z.parent) (sym f) in cc
    none (suc (suc (suc j))) h e p c = cc

-- of growths whose first has no parent, and which leave out no number of the first, the first is well
module _ (g : Growth labels) (gs : List (Growth labels)) (root : g.parent ≡ None) (given : (l : ℕ) (h : Growth labels) → IsAt labels gs l h → h.parent ≡ Some 0 → h.child ≡ 0) where
  is_first : (h : Growth labels) → IsAt labels (g ∷ gs) 0 h → h.parent ≡ None
  is_first h e = let f : g ≡ h = cc in ap (λ (z : Growth labels). z.parent) (sym f) ∙ root

  well : IsDefect labels (g ∷ gs) 0 → ⊥
  well (missing e z) = cc
  well (astray h e a) = let b = subst (IsAstray 0) (is_first h e) a in omega arith
  well (under_leaf h up x e p f n) = let q : h.parent ≡ None = is_first h e in cc
  well (repeated h before l x e f below p q c) = omega arith
  well (left_out h zero i e p c none) = let q : h.parent ≡ None = is_first h e in cc
  well (left_out h (suc l) i e p c none) = let z = given l h e p in omega arith

  second_place : IsDefect labels (g ∷ gs) 1 → IsUnjoined labels (g ∷ gs) 1
  second_place d = (d, λ j l e. well (subst (IsDefect labels (g ∷ gs)) (let z : j ≡ 0 = omega arith in z) e))

one_only : (h : Growth labels) → (h.parent ≡ Some 0 → h.child ≡ 0) → (l : ℕ) (k : Growth labels) → IsAt labels (h ∷ []) l k → k.parent ≡ Some 0 → k.child ≡ 0
one_only h f zero k e p = let g : h ≡ k = cc in ap (λ (z : Growth labels). z.child) (sym g) ∙ f (ap (λ (z : Growth labels). z.parent) g ∙ p)
one_only h f (suc l) k e p = absurd cc

later_without_parent : IsUnjoined labels (splits None 0 ∷ acts None 0 ∷ []) 1
later_without_parent = second_place (splits None 0) (acts None 0 ∷ []) refl (one_only (acts None 0) (λ p. refl)) (astray (acts None 0) refl (omega arith))

later_parent : IsUnjoined labels (splits None 0 ∷ acts (Some 1) 0 ∷ []) 1
later_parent = second_place (splits None 0) (acts (Some 1) 0 ∷ []) refl (one_only (acts (Some 1) 0) (λ p. refl)) (astray (acts (Some 1) 0) refl (omega arith))

child_of_an_action : IsUnjoined labels (acts None 0 ∷ acts (Some 0) 0 ∷ []) 1
child_of_an_action = second_place (acts None 0) (acts (Some 0) 0 ∷ []) refl (one_only (acts (Some 0) 0) (λ p. refl)) (under_leaf (acts (Some 0) 0) (acts None 0) 0 refl refl refl (λ m e. cc))

-- the later of two growths with one number is told
number_given_twice : IsDefect labels (splits None 0 ∷ acts (Some 0) 0 ∷ acts (Some 0) 0 ∷ []) 2
number_given_twice = repeated (acts (Some 0) 0) (acts (Some 0) 0) 1 0 refl refl (omega arith) refl refl refl
