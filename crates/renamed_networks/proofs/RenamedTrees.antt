-- Trees that are the same but for their names have the same fronts, schedules and executions.
use Rattle.std.proofs.Common.{ℕ, zero, suc, ◌≡◌, List, [], ◌∷◌, Option, Some, None, option_map, refl, ap, sym, subst}
use Rattle.std.specs.Option.{option_and_then}
use Rattle.plan_model.specs.task_networks.Net.{Net}
use Rattle.plan_model.specs.task_networks.Order.{Precedes, direct, through}
use Rattle.plan_model.specs.task_networks.Tree.{Tree, Trees, open_leaf, done, split, none, more, Label, waits, ran, used, Address, work_of, works_of, IsGrown, AreGrown, child_at, children_of, at, label, label_at, IsTaken, IsAddress, IsOpen, IsProcessed}
use Rattle.plan_model.specs.task_networks.Schedule.{Blocks, IsSchedule}
use Rattle.plan_model.specs.task_networks.Front.{IsFront, IsFinished}
use Rattle.renamed_networks.specs.Renamed.{AreSame, IsRenaming, SameLabel, SameTree, SameTrees}

abbrev pub flip : {A B : Type 0} → (A → B → Type 0) → B → A → Type 0
flip R y x = R x y

pub same-flip : {A B : Type 0} (R : A → B → Type 0) (xs : List A) (ys : List B) → AreSame R xs ys → AreSame (flip R) ys xs
same-flip R [] [] s = s
same-flip R (x ∷ xs) (y ∷ ys) s = (s.0, same-flip R xs ys s.1)
same-flip R [] (y ∷ ys) s = absurd s
same-flip R (x ∷ xs) [] s = absurd s

-- what is the same as the same list is one list
pub same-one : {A B : Type 0} (R : A → B → Type 0) → ((x : A) (y z : B) → R x y → R x z → y ≡ z) → (xs : List A) (ys zs : List B) → AreSame R xs ys → AreSame R xs zs → ys ≡ zs
same-one R one [] [] [] s t = refl
same-one R one (x ∷ xs) (y ∷ ys) (z ∷ zs) s t = let a = one x y z s.0 t.0 in let b = same-one R one xs ys zs s.1 t.1 in cc
same-one R one [] [] (z ∷ zs) s t = absurd t
same-one R one [] (y ∷ ys) zs s t = absurd s
same-one R one (x ∷ xs) [] zs s t = absurd s
same-one R one (x ∷ xs) (y ∷ ys) [] s t = absurd t

-- the other way round
pub flipped : (M N : Net) (W : M.Work → N.Work → Type 0) (G : M.Method → N.Method → Type 0) → IsRenaming M N W G → IsRenaming N M (flip W) (flip G)
flipped M N W G r = record {
  simple = λ w v s. ((r.simple v w s).1, (r.simple v w s).0);
  head = λ m g s. r.head g m s;
  works = λ m g s. same-flip W (M.works g) (N.works m) (r.works g m s);
  ground = λ m g s. ((r.ground g m s).1, (r.ground g m s).0);
  pair = λ m g s i j. ((r.pair g m s i j).1, (r.pair g m s i j).0);
  heir = λ m g s. sym (r.heir g m s);
  copier = λ m g s i. ((r.copier g m s i).1, (r.copier g m s i).0);
  one_work = λ w v u s t. r.one_work_back v u w s t;
  one_work_back = λ w x v s t. r.one_work v w x s t;
  one_method = λ m g f s t. r.one_method_back g f m s t;
  one_method_back = λ m n g s t. r.one_method g m n s t;
}

module _ (M N : Net) (W : M.Work → N.Work → Type 0) (G : M.Method → N.Method → Type 0) where
  abbrev pub Same : Tree M → Tree N → Type 0
  Same = SameTree M N W G

  mutual
    pub same_flip : (t : Tree M) (u : Tree N) → SameTree M N W G t u → SameTree N M (flip W) (flip G) u t
    same_flip (open_leaf v) (open_leaf w) s = s
    same_flip (done v) (done w) s = s
    same_flip (split g ts) (split m us) s = (s.0, same_flips ts us s.1)
    same_flip (open_leaf v) (done w) s = absurd s
    same_flip (open_leaf v) (split m us) s = absurd s
    same_flip (done v) (open_leaf w) s = absurd s
    same_flip (done v) (split m us) s = absurd s
    same_flip (split g ts) (open_leaf w) s = absurd s
    same_flip (split g ts) (done w) s = absurd s

    same_flips : (ts : Trees M) (us : Trees N) → SameTrees M N W G ts us → SameTrees N M (flip W) (flip G) us ts
    same_flips none none s = s
    same_flips (more t ts) (more u us) s = (same_flip t u s.0, same_flips ts us s.1)
    same_flips none (more u us) s = absurd s
    same_flips (more t ts) none s = absurd s

  -- both have nothing, or what is the same
  abbrev pub SameOption : {A B : Type 0} → (A → B → Type 0) → Option A → Option B → Type 0
  SameOption R None None = Unit {0}
  SameOption R (Some x) (Some y) = R x y
  SameOption R None (Some y) = ⊥
  SameOption R (Some x) None = ⊥

  same_child : (ts : Trees M) (us : Trees N) → SameTrees M N W G ts us → (i : ℕ) → SameOption Same (child_at M ts i) (child_at N us i)
  same_child none none s i = tt
  same_child (more t ts) (more u us) s zero = s.0
  same_child (more t ts) (more u us) s (suc i) = same_child ts us s.1 i
  same_child none (more u us) s i = absurd s
  same_child (more t ts) none s i = absurd s

  same_children : (t : Tree M) (u : Tree N) → Same t u → SameTrees M N W G (children_of M t) (children_of N u)
  same_children (open_leaf v) (open_leaf w) s = tt
  same_children (done v) (done w) s = tt
  same_children (split g ts) (split m us) s = s.1
  same_children (open_leaf v) (done w) s = absurd s
  same_children (open_leaf v) (split m us) s = absurd s
  same_children (done v) (open_leaf w) s = absurd s
  same_children (done v) (split m us) s = absurd s
  same_children (split g ts) (open_leaf w) s = absurd s
  same_children (split g ts) (done w) s = absurd s

  pub same_at : (t : Tree M) (u : Tree N) → Same t u → (p : Address) → SameOption Same (at M t p) (at N u p)
  same_at t u s [] = s
  same_at t u s (i ∷ p) = below (at M t p) (at N u p) (same_at t u s p)
    where
      below : (a : Option (Tree M)) (b : Option (Tree N)) → SameOption Same a b → SameOption Same (option_and_then (λ x. child_at M (children_of M x) i) a) (option_and_then (λ x. child_at N (children_of N x) i) b)
      below None None e = tt
      below (Some x) (Some y) e = same_child (children_of M x) (children_of N y) (same_children x y e) i
      below None (Some y) e = absurd e
      below (Some x) None e = absurd e

  same_label : (t : Tree M) (u : Tree N) → Same t u → SameLabel M N W G (label M t) (label N u)
  same_label (open_leaf v) (open_leaf w) s = s
  same_label (done v) (done w) s = s
  same_label (split g ts) (split m us) s = s.0
  same_label (open_leaf v) (done w) s = absurd s
  same_label (open_leaf v) (split m us) s = absurd s
  same_label (done v) (open_leaf w) s = absurd s
  same_label (done v) (split m us) s = absurd s
  same_label (split g ts) (open_leaf w) s = absurd s
  same_label (split g ts) (done w) s = absurd s

  pub same_labels : (t : Tree M) (u : Tree N) → Same t u → (p : Address) → SameOption (SameLabel M N W G) (label_at M t p) (label_at N u p)
  same_labels t u s p = go (at M t p) (at N u p) (same_at t u s p)
    where
      go : (a : Option (Tree M)) (b : Option (Tree N)) → SameOption Same a b → SameOption (SameLabel M N W G) (option_map (label M) a) (option_map (label N) b)
      go None None e = tt
      go (Some x) (Some y) e = same_label x y e
      go None (Some y) e = absurd e
      go (Some x) None e = absurd e

  -- the label of the other tree
  pub to_label : (t : Tree M) (u : Tree N) → Same t u → (p : Address) (k : Label M) → label_at M t p ≡ Some k → (l : Label N) × (label_at N u p ≡ Some l) × SameLabel M N W G k l
  to_label t u s p k e = go (label_at N u p) refl (subst (λ z. SameOption (SameLabel M N W G) z (label_at N u p)) e (same_labels t u s p))
    where
      go : (b : Option (Label N)) → label_at N u p ≡ b → SameOption (SameLabel M N W G) (Some k) b → (l : Label N) × (label_at N u p ≡ Some l) × SameLabel M N W G k l
      go None f x = absurd x
      go (Some l) f x = (l, f, x)

  same_taken : (k : Label M) (l : Label N) → SameLabel M N W G k l → IsTaken M k → IsTaken N l
  same_taken (waits v) l s t = absurd t
  same_taken (ran v) (ran w) s t = tt
  same_taken (used g) (used m) s t = tt
  same_taken (ran v) (waits w) s t = absurd s
  same_taken (ran v) (used m) s t = absurd s
  same_taken (used g) (waits w) s t = absurd s
  same_taken (used g) (ran w) s t = absurd s

  module _ (r : IsRenaming M N W G) where
    pub same_work : (t : Tree M) (u : Tree N) → Same t u → W (work_of M t) (work_of N u)
    same_work (open_leaf v) (open_leaf w) s = s
    same_work (done v) (done w) s = s
    same_work (split g ts) (split m us) s = r.head g m s.0
    same_work (open_leaf v) (done w) s = absurd s
    same_work (open_leaf v) (split m us) s = absurd s
    same_work (done v) (open_leaf w) s = absurd s
    same_work (done v) (split m us) s = absurd s
    same_work (split g ts) (open_leaf w) s = absurd s
    same_work (split g ts) (done w) s = absurd s

    same_works : (ts : Trees M) (us : Trees N) → SameTrees M N W G ts us → AreSame W (works_of M ts) (works_of N us)
    same_works none none s = tt
    same_works (more t ts) (more u us) s = (same_work t u s.0, same_works ts us s.1)
    same_works none (more u us) s = absurd s
    same_works (more t ts) none s = absurd s

    mutual
      pub grown_to : (t : Tree M) (u : Tree N) → Same t u → IsGrown M t → IsGrown N u
      grown_to (open_leaf v) (open_leaf w) s g = tt
      grown_to (done v) (done w) s g = (r.simple v w s).0 g
      grown_to (split a ts) (split m us) s g = (
        (r.ground a m s.0).0 g.0,
        same-one W r.one_work (works_of M ts) (works_of N us) (N.works m) (same_works ts us s.1) (subst (λ z. AreSame W z (N.works m)) (sym g.1) (r.works a m s.0)),
        grown_all ts us s.1 g.2,
      )
      grown_to (open_leaf v) (done w) s g = absurd s
      grown_to (open_leaf v) (split m us) s g = absurd s
      grown_to (done v) (open_leaf w) s g = absurd s
      grown_to (done v) (split m us) s g = absurd s
      grown_to (split a ts) (open_leaf w) s g = absurd s
      grown_to (split a ts) (done w) s g = absurd s

      grown_all : (ts : Trees M) (us : Trees N) → SameTrees M N W G ts us → AreGrown M ts → AreGrown N us
      grown_all none none s g = tt
      grown_all (more t ts) (more u us) s g = (grown_to t u s.0 g.0, grown_all ts us s.1 g.1)
      grown_all none (more u us) s g = absurd s
      grown_all (more t ts) none s g = absurd s

    mutual
      -- a tree is the same as one tree at most
      pub one_tree : (t : Tree M) (u x : Tree N) → Same t u → Same t x → u ≡ x
      one_tree (open_leaf v) (open_leaf w) (open_leaf y) s e = ap open_leaf (r.one_work v w y s e)
      one_tree (done v) (done w) (done y) s e = ap done (r.one_work v w y s e)
      one_tree (split g ts) (split m us) (split n xs) s e = let a = r.one_method g m n s.0 e.0 in let b = one_trees ts us xs s.1 e.1 in cc
      one_tree (open_leaf v) (open_leaf w) (done y) s e = absurd e
      one_tree (open_leaf v) (open_leaf w) (split n xs) s e = absurd e
      one_tree (done v) (done w) (open_leaf y) s e = absurd e
      one_tree (done v) (done w) (split n xs) s e = absurd e
      one_tree (split g ts) (split m us) (open_leaf y) s e = absurd e
      one_tree (split g ts) (split m us) (done y) s e = absurd e
      one_tree (open_leaf v) (done w) x s e = absurd s
      one_tree (open_leaf v) (split m us) x s e = absurd s
      one_tree (done v) (open_leaf w) x s e = absurd s
      one_tree (done v) (split m us) x s e = absurd s
      one_tree (split g ts) (open_leaf w) x s e = absurd s
      one_tree (split g ts) (done w) x s e = absurd s

      one_trees : (ts : Trees M) (us xs : Trees N) → SameTrees M N W G ts us → SameTrees M N W G ts xs → us ≡ xs
      one_trees none none none s e = refl
      one_trees (more t ts) (more u us) (more x xs) s e = let a = one_tree t u x s.0 e.0 in let b = one_trees ts us xs s.1 e.1 in cc
      one_trees none none (more x xs) s e = absurd e
      one_trees (more t ts) (more u us) none s e = absurd e
      one_trees none (more u us) xs s e = absurd s
      one_trees (more t ts) none xs s e = absurd s

    precedes_back : (g : M.Method) (m : N.Method) → G g m → (i j : ℕ) → Precedes (N.Pair m) i j → Precedes (M.Pair g) i j
    precedes_back g m s i j (direct p) = direct ((r.pair g m s i j).1 p)
    precedes_back g m s i k (through {j} o p) = through (precedes_back g m s i j o) ((r.pair g m s j k).1 p)

-- from the one to the other
module _ (M N : Net) (W : M.Work → N.Work → Type 0) (G : M.Method → N.Method → Type 0) (r : IsRenaming M N W G) (t : Tree M) (u : Tree N) (s : SameTree M N W G t u) where
  pub back : (p : Address) (l : Label N) → label_at N u p ≡ Some l → (k : Label M) × (label_at M t p ≡ Some k) × SameLabel N M (flip W) (flip G) l k
  back p l e = to_label N M (flip W) (flip G) u t (same_flip M N W G t u s) p l e

  pub address_to : (p : Address) → IsAddress M t p → IsAddress N u p
  address_to p (k, e) = let h = to_label M N W G t u s p k e in (h.0, h.1)

  pub address_back : (p : Address) → IsAddress N u p → IsAddress M t p
  address_back p (l, e) = let h = back p l e in (h.0, h.1)

  processed_to : (p : Address) → IsProcessed M t p → IsProcessed N u p
  processed_to p (k, e, a) = let h = to_label M N W G t u s p k e in (h.0, h.1, same_taken M N W G k h.0 h.2 a)

  processed_back : (p : Address) → IsProcessed N u p → IsProcessed M t p
  processed_back p (l, e, a) = let h = back p l e in (h.0, h.1, same_taken N M (flip W) (flip G) l h.0 h.2 a)

  pub open_back : (p : Address) → IsOpen N u p → IsOpen M t p
  open_back p (w, e) = (let h = back p (waits w) e in go h.0 h.1 h.2)
    where
      go : (k : Label M) → label_at M t p ≡ Some k → SameLabel N M (flip W) (flip G) (waits w) k → IsOpen M t p
      go (waits v) f x = (v, f)
      go (ran v) f x = absurd x
      go (used g) f x = absurd x

  pub blocks_back : (x v : Address) → Blocks N u x v → Blocks M t x v
  blocks_back x [] b = b
  blocks_back x (j ∷ q) (m, i, e, o, a) = (let h = back q (used m) e in go h.0 h.1 h.2)
    where
      go : (k : Label M) → label_at M t q ≡ Some k → SameLabel N M (flip W) (flip G) (used m) k → Blocks M t x (j ∷ q)
      go (waits v) f y = absurd y
      go (ran v) f y = absurd y
      go (used g) f y = (g, i, f, precedes_back M N W G r g m y i j o, a)

  schedule_to : (order : List Address) → IsSchedule M t order → IsSchedule N u order
  schedule_to order d = record {
    covers = λ p. (λ c. processed_to p ((d.covers p).0 c), λ h. (d.covers p).1 (processed_back p h));
    due = λ taken rest p e. (let x = d.due taken rest p e in record { fresh = x.fresh; begun = x.begun; clear = λ a k b. x.clear a (address_back a k) (blocks_back a p b) });
  }

  pub front_to : (v : M.Work) (w : N.Work) → W v w → (order : List Address) → IsFront M v t order → IsFront N w u order
  front_to v w same order f = record {
    grown = grown_to M N W G r t u s f.grown;
    root = r.one_work v (work_of N u) w (subst (λ z. W z (work_of N u)) f.root (same_work M N W G r t u s)) same;
    schedule = schedule_to order f.schedule;
  }

  pub finished_to : (v : M.Work) (w : N.Work) → W v w → (order : List Address) → IsFinished M v t order → IsFinished N w u order
  finished_to v w same order f = record { front = front_to v w same order f.front; no_leaves = λ p o. f.no_leaves p (open_back p o) }
