-- How a tour is made: the steps that are left to take stand on a stack, the next one last.
use Rattle.std.proofs.Common.{ℕ, zero, suc, ◌≡◌, ◌+◌, ◌*◌, ◌≤◌, ◌⊎◌, inl, inr, List, [], ◌∷◌, ◌++◌, length, map, take, Some, slice_get, refl, ap, sym, subst, ◌∙◌, append-nil, length-append, Contains, arith}
use Rattle.std.proofs.lemmas.List.{length-map, take_all, take-append-le}
use Rattle.std.proofs.lemmas.List.Elements.{Contains-append_left, Contains-append_right, Contains-append_cases}
use Rattle.htn_base.specs.Different.{AreDifferent}
use Rattle.plan_model.specs.task_networks.Net.{Net}
use Rattle.plan_model.specs.task_networks.Tree.{Tree, open_leaf, done, split, Address}
use Rattle.plan_model.specs.task_networks.Preorder.{preorder}
use Rattle.plan_model.specs.task_networks.Spelling.{numbers}
use Rattle.plan_model.proofs.task_networks.Different.{different_append, different_without, no_more}
use Rattle.plan_model.proofs.task_networks.Lists.{Contains-here, Contains-later, head_or_tail, not-in_empty}
use Rattle.plan_model.proofs.task_networks.Numbers.{length-numbers, to_numbers}
use Rattle.plan_model.proofs.task_networks.Parents.{parent_address}
use Rattle.tree_core.proofs.Gets.{get_cases, get_within, place_of}
use Rattle.tree_core.proofs.Siblings.{one_node_place, place_of_node, node_address}
use Rattle.gap_pass.specs.Tours.{node_of, IsAt, Needs, IsBegun, IsLeft, IsReady, IsTour}
use Rattle.gap_pass.specs.declared.tour.Step.{Step}
use Rattle.gap_pass.specs.declared.tour.Step.TheVariants.{Enter, Leave}

Contains-map : {A B : Type 0} (f : A → B) (xs : List A) (x : A) → Contains xs x → Contains (map f xs) (f x)
Contains-map f [] x c = absurd (not-in_empty x c)
Contains-map f (y ∷ xs) x c = elim (head_or_tail y xs x c) [
  | inl e ↦ (0, omega arith, ap f e)
  | inr d ↦ Contains-later (f y) (map f xs)
      (f x) (Contains-map f xs x d)
]

-- the root stands first
pub root_at : (N : Net) (tree : Tree N) → IsAt N tree 0 []
root_at N (open_leaf w) = refl
root_at N (done w) = refl
root_at N (split m ts) = refl

module _ (N : Net) (tree : Tree N) where
  -- on the stack, to be entered or left
  abbrev pub Stands : List Step → ℕ → Type 0
  Stands above k = Contains above (Enter k) ⊎ Contains above (Leave k)

  -- what each step needs is left, or stands above it
  abbrev pub AreOrdered : List Step → List Step → Type 0
  AreOrdered steps [] = Unit {0}
  AreOrdered steps (s ∷ above) = Needs N tree s (λ k. IsLeft N tree steps k ⊎ Stands above k) × AreOrdered steps above

  -- steps that are taken, and the stack
  pub record IsTouring (steps stack : List Step) : Type 0 where
    pub each : (t : ℕ) (s : Step) → slice_get steps t ≡ Some s → IsReady N tree (take t steps) s
    pub once : AreDifferent steps
    pub stack_once : AreDifferent stack
    pub apart : (s : Step) → Contains steps s → Contains stack s → ⊥
    pub nodes : (s : Step) → Contains stack s → (p : Address) × IsAt N tree (node_of s) p
    pub begun : (s : Step) → Contains stack s → IsBegun N tree steps s
    pub ordered : AreOrdered steps stack
    pub left : (k : ℕ) → Contains steps (Enter k) → Contains steps (Leave k) ⊎ Contains stack (Leave k)
    pub children : (k i x : ℕ) (p : Address) → Contains steps (Enter k) → IsAt N tree k p → IsAt N tree x (i ∷ p)
        → Contains steps (Enter x) ⊎ Contains stack (Enter x)
    pub root : Contains steps (Enter 0) ⊎ Contains stack (Enter 0)

  -- needs that are met by less are met by more
  pub needs_more : (s : Step) (P Q : ℕ → Type 0) → ((k : ℕ) → P k → Q k) → Needs N tree s P → Needs N tree s Q
  needs_more (Enter k) P Q f n = λ i j y q m a b c d. f y (n i j y q m a b c d)
  needs_more (Leave k) P Q f n = λ i y p a b. f y (n i y p a b)

  begun_more : (s : Step) (steps more : List Step) → IsBegun N tree steps s → IsBegun N tree (steps ++ more) s
  begun_more (Enter k) steps more b = λ i x q a c. Contains-append_left steps more (Enter x) (b i x q a c)
  begun_more (Leave k) steps more b = Contains-append_left steps more (Enter k) b

  -- the top of a stack is replaced
  replaced : (steps longer stack old new : List Step) → ((k : ℕ) → IsLeft N tree steps k ⊎ Stands old k → IsLeft N tree longer k
      ⊎ Stands new k)
      → ((k : ℕ) → IsLeft N tree steps k → IsLeft N tree longer k) → AreOrdered steps (stack ++ old) → AreOrdered longer new
      → AreOrdered longer (stack ++ new)
  replaced steps longer [] old new f g o n = n
  replaced steps longer (s ∷ stack) old new f g o n = (needs_more s _ _ still o.0, replaced steps longer stack old new f g o.1 n)
    where
      lift : (k : ℕ) → IsLeft N tree longer k ⊎ Stands new k → IsLeft N tree longer k ⊎ Stands (stack ++ new) k
      lift k (inl x) = inl x
      lift k (inr (inl x)) = inr (inl (Contains-append_right stack new (Enter k) x))
      lift k (inr (inr x)) = inr (inr (Contains-append_right stack new (Leave k) x))

      still : (k : ℕ) → IsLeft N tree steps k ⊎ Stands (stack ++ old) k → IsLeft N tree longer k ⊎ Stands (stack ++ new) k
      still k (inl x) = inl (g k x)
      still k (inr (inl x)) = elim (Contains-append_cases stack old (Enter k) x) [
        | inl y ↦ inr (inl (Contains-append_left stack new (Enter k) y))
        | inr y ↦ lift k (f k (inr (inl y)))
      ]
      still k (inr (inr x)) = elim (Contains-append_cases stack old (Leave k) x) [
        | inl y ↦ inr (inr (Contains-append_left stack new (Leave k) y))
        | inr y ↦ lift k (f k (inr (inr y)))
      ]

  -- the top step needs nothing that isn't left
  top_needs : (steps stack : List Step) (s : Step) → AreOrdered steps (stack ++ s ∷ []) → Needs N tree s (IsLeft N tree steps)
  top_needs steps [] s o = needs_more s _ _ only o.0
    where
      only : (k : ℕ) → IsLeft N tree steps k ⊎ Stands [] k → IsLeft N tree steps k
      only k (inl x) = x
      only k (inr (inl x)) = absurd (not-in_empty (Enter k) x)
      only k (inr (inr x)) = absurd (not-in_empty (Leave k) x)
  top_needs steps (u ∷ stack) s o = top_needs steps stack s o.1

  -- the top step is taken, and new steps are put in its place
  module _ (steps stack new : List Step) (s : Step) (t : IsTouring steps (stack ++ s ∷ [])) where
    abbrev Longer : List Step
    Longer = steps ++ s ∷ []

    on_top : Contains (stack ++ s ∷ []) s
    on_top = Contains-append_right stack (s ∷ []) s (Contains-here s [])

    below : (u : Step) → Contains stack u → Contains (stack ++ s ∷ []) u
    below u c = Contains-append_left stack (s ∷ []) u c

    ready : IsReady N tree steps s
    ready = record { node = t.nodes s on_top; begun = t.begun s on_top; needs = top_needs steps stack s t.ordered }

    each_ready : (k : ℕ) (u : Step) → slice_get Longer k ≡ Some u → IsReady N tree (take k Longer) u
    each_ready k u e = elim (get_cases steps (s ∷ []) k u e) [
      | inl c ↦ subst (λ z. IsReady N tree z u) (sym (take-append-le k steps (s ∷ []) (let l = c.0 in omega arith))) (t.each k u c.1)
      | inr c ↦ last c.0 c.1 c.2
    ]
      where
        last : (j : ℕ) → k ≡ length steps + j → slice_get (s ∷ []) j ≡ Some u → IsReady N tree (take k Longer) u
        last zero f g =
            let same : s ≡ u = cc in
            let all : steps ≡ take k Longer = sym (take-append-le k steps (s ∷ []) (omega arith) ∙ take_all k steps (omega arith)) in
            subst (IsReady N tree (take k Longer)) same (subst (λ z. IsReady N tree z s) all ready)
        last (suc j) f g = absurd cc

    rest_once : AreDifferent stack × (Contains stack s → ⊥)
    rest_once =
        let d = different_without stack s [] t.stack_once in
        let e = append-nil stack in
        (subst AreDifferent e d.0, λ c. d.1 (subst (λ z. Contains z s) (sym e) c))

    one_of : (u : Step) → Contains Longer u → Contains steps u ⊎ (s ≡ u)
    one_of u c = elim (Contains-append_cases steps (s ∷ []) u c) [
      | inl x ↦ inl x
      | inr x ↦ elim (head_or_tail s [] u x) [ inl e ↦ inr e | inr y ↦ absurd (not-in_empty u y) ]
    ]

    moved : (u : Step) → Contains steps u ⊎ Contains (stack ++ s ∷ []) u → Contains Longer u ⊎ Contains (stack ++ new) u
    moved u (inl c) = inl (Contains-append_left steps (s ∷ []) u c)
    moved u (inr c) = elim (Contains-append_cases stack (s ∷ []) u c) [
      | inl x ↦ inr (Contains-append_left stack new u x)
      | inr x ↦ inl (Contains-append_right steps (s ∷ []) u x)
    ]

    pub goes_on : AreDifferent new → ((u : Step) → Contains new u → (Contains steps u → ⊥) × (Contains (stack ++ s ∷ []) u → ⊥))
        → ((u : Step) → Contains new u → (p : Address) × IsAt N tree (node_of u) p)
        → ((u : Step) → Contains new u → IsBegun N tree Longer u) → AreOrdered Longer new
        → ((k : ℕ) → Stands (s ∷ []) k → IsLeft N tree Longer k ⊎ Stands new k) → ((k : ℕ) → s ≡ Enter k → Contains new (Leave k))
        → ((k i x : ℕ) (p : Address) → s ≡ Enter k → IsAt N tree k p → IsAt N tree x (i ∷ p) → Contains new (Enter x))
        → IsTouring Longer (stack ++ new)
    goes_on once fresh nodes begun ordered stands left children = record {
      each = each_ready;
      once = different_append steps (s ∷ []) t.once (not-in_empty s, tt)
          (λ u c d. elim (head_or_tail s [] u d) [
            | inl e ↦ t.apart u c (subst (Contains (stack ++ s ∷ [])) e on_top)
            | inr y ↦ not-in_empty u y
          ]);
      stack_once = different_append stack new rest_once.0 once (λ u c d. (fresh u d).1 (below u c));
      apart = λ u c d. elim (one_of u c) [
        | inl x ↦ elim (Contains-append_cases stack new u d) [ inl y ↦ t.apart u x (below u y) | inr y ↦ (fresh u y).0 x ]
        | inr e ↦ elim (Contains-append_cases stack new u d) [
          | inl y ↦ rest_once.1 (subst (Contains stack) (sym e) y)
          | inr y ↦ (fresh u y).1 (subst (Contains (stack ++ s ∷ [])) e on_top)
        ]
      ];
      nodes = λ u c. elim (Contains-append_cases stack new u c) [ inl x ↦ t.nodes u (below u x) | inr x ↦ nodes u x ];
      begun = λ u c. elim (Contains-append_cases stack new u c) [
        | inl x ↦ begun_more u steps (s ∷ []) (t.begun u (below u x))
        | inr x ↦ begun u x
      ];
      ordered = replaced steps Longer stack (s ∷ []) new (λ k c. elim c [
        | inl x ↦ inl (Contains-append_left steps (s ∷ []) (Leave k) x)
        | inr x ↦ stands k x
      ])
          (λ k x. Contains-append_left steps (s ∷ []) (Leave k) x) t.ordered ordered;
      left = λ k c. elim (one_of (Enter k) c) [
        | inl x ↦ moved (Leave k) (t.left k x)
        | inr e ↦ inr (Contains-append_right stack new (Leave k) (left k e))
      ];
      children = λ k i x p c a b. elim (one_of (Enter k) c) [
        | inl y ↦ moved (Enter x) (t.children k i x p y a b)
        | inr e ↦ inr (Contains-append_right stack new (Enter x) (children k i x p e a b))
      ];
      root = moved (Enter 0) t.root;
    }

  -- a step out
  pub one_left : (steps stack : List Step) (k : ℕ) → IsTouring steps (stack ++ Leave k ∷ []) → IsTouring (steps ++ Leave k ∷ []) stack
  one_left steps stack k t = subst (IsTouring (steps ++ Leave k ∷ [])) (append-nil stack)
      (goes_on steps stack [] (Leave k) t tt (λ u c. absurd (not-in_empty u c)) (λ u c. absurd (not-in_empty u c))
      (λ u c. absurd (not-in_empty u c)) tt stands
      (λ j e. absurd cc) (λ j i x p e. absurd cc))
    where
      stands : (j : ℕ) → Stands (Leave k ∷ []) j → IsLeft N tree (steps ++ Leave k ∷ []) j ⊎ Stands [] j
      stands j (inl c) = elim (head_or_tail (Leave k) [] (Enter j) c) [ inl e ↦ absurd cc | inr y ↦ absurd (not-in_empty (Enter j) y) ]
      stands j (inr c) = inl (Contains-append_right steps (Leave k ∷ []) (Leave j) c)

  -- nothing is left to do
  module _ (steps : List Step) (t : IsTouring steps []) where
    is_entered : (p : Address) (k : ℕ) → IsAt N tree k p → Contains steps (Enter k)
    is_entered [] k a =
        let z : k ≡ 0 = one_node_place N tree k 0 [] a (root_at N tree) in
        subst (λ j. Contains steps (Enter j)) (sym z) (done (Enter 0) t.root)
      where
        done : (u : Step) → Contains steps u ⊎ Contains [] u → Contains steps u
        done u (inl c) = c
        done u (inr c) = absurd (not-in_empty u c)
    is_entered (i ∷ q) k a =
        let (x, b) = place_of_node N tree q (parent_address N tree i q (node_address N tree k (i ∷ q) a)) in
        elim (t.children x i k q (is_entered q x b) b a) [ inl c ↦ c | inr c ↦ absurd (not-in_empty (Enter k) c) ]

    pub is_tour : IsTour N tree steps
    is_tour = record {
      each = t.each;
      once = t.once;
      whole = λ k p a. elim (t.left k (is_entered p k a)) [ inl c ↦ c | inr c ↦ absurd (not-in_empty (Leave k) c) ];
    }

  -- no more steps than two for each node
  pub few_steps : (n : ℕ) → length (preorder N tree) ≡ n → (steps stack : List Step) → IsTouring steps stack
      → length steps + length stack ≤ 2 * n
  few_steps n many steps stack t =
      let all = map Enter (numbers 0 n) ++ map Leave (numbers 0 n) in
      let l = no_more (steps ++ stack) all (different_append steps stack t.once t.stack_once t.apart) within in
      let a = length-append steps stack in
      let b = length-append (map Enter (numbers 0 n)) (map Leave (numbers 0 n)) in
      let c = length-map (numbers 0 n) Enter in
      let d = length-map (numbers 0 n) Leave in
      let e = length-numbers 0 n in
      omega arith
    where
      listed : (u : Step) → (p : Address) × IsAt N tree (node_of u) p → Contains (map Enter (numbers 0 n) ++ map Leave (numbers 0 n)) u
      listed (Enter k) (p, a) =
          let l = get_within (preorder N tree) k p a in
          Contains-append_left (map Enter (numbers 0 n)) (map Leave (numbers 0 n)) (Enter k)
          (Contains-map Enter (numbers 0 n) k (to_numbers 0 n k (omega arith) (omega arith)))
      listed (Leave k) (p, a) =
          let l = get_within (preorder N tree) k p a in
          Contains-append_right (map Enter (numbers 0 n)) (map Leave (numbers 0 n)) (Leave k)
          (Contains-map Leave (numbers 0 n) k (to_numbers 0 n k (omega arith) (omega arith)))

      within : (u : Step) → Contains (steps ++ stack) u → Contains (map Enter (numbers 0 n) ++ map Leave (numbers 0 n)) u
      within u c = elim (Contains-append_cases steps stack u c) [
        | inl x ↦ (let (k, e) = place_of steps u x in listed u (t.each k u e).node)
        | inr x ↦ listed u (t.nodes u x)
      ]
