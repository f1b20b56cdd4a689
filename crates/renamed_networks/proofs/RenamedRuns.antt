-- Trees that are the same but for their names are executed and spelled alike; a tree all of whose nodes have others for them has another for it.
use Rattle.std.proofs.Common.{ℕ, suc, ◌≡◌, ◌+◌, List, [], ◌∷◌, map, filter, length, not, Some, option_map, refl, ap, subst, ◌∙◌, arith}
use Rattle.plan_model.specs.task_networks.Net.{Net, count}
use Rattle.plan_model.specs.task_networks.Tree.{Tree, Trees, open_leaf, done, split, none, more, Label, waits, ran, used, Address, child_at, at, label, label_at}
use Rattle.plan_model.specs.task_networks.Pending.{IsPending, IsWidth}
use Rattle.plan_model.specs.task_networks.Executable.{AreLabels, AreAllowed, last_state, IsSolution, IsExecutableOrder}
use Rattle.plan_model.specs.task_networks.Spelling.{Act, run, apply, numbers, is_heir, others, IsAct, AreActs, Spells}
use Rattle.plan_model.proofs.task_networks.Nodes.{child_below}
use Rattle.renamed_networks.specs.Renamed.{AreSame, IsRenaming, SameLabel, SameTrees}
use Rattle.renamed_networks.proofs.RenamedTrees.{flip, Same, to_label, back, address_to, address_back, front_to, finished_to}

pub same-length : {A B : Type 0} (R : A → B → Type 0) (xs : List A) (ys : List B) → AreSame R xs ys → length xs ≡ length ys
same-length R [] [] s = refl
same-length R (x ∷ xs) (y ∷ ys) s = let h = same-length R xs ys s.1 in omega arith
same-length R [] (y ∷ ys) s = absurd s
same-length R (x ∷ xs) [] s = absurd s

module _ (M N : Net) (W : M.Work → N.Work → Type 0) (G : M.Method → N.Method → Type 0) where
  abbrev L : Label M → Label N → Type 0
  L = SameLabel M N W G

  -- the labels in order
  pub labels_to : (t : Tree M) (u : Tree N) → Same M N W G t u → (order : List Address) (ks : List (Label M)) → AreLabels M t order ks → (ls : List (Label N)) × AreLabels N u order ls × AreSame L ks ls
  labels_to t u s [] [] a = ([], tt, tt)
  labels_to t u s (p ∷ order) (k ∷ ks) a =
      let (l, e, x) = to_label M N W G t u s p k a.0 in
      let (ls, b, y) = labels_to t u s order ks a.1 in
      (l ∷ ls, (e, b), (x, y))
  labels_to t u s [] (k ∷ ks) a = absurd a
  labels_to t u s (p ∷ order) [] a = absurd a

  -- states are the same by R, which conditions and steps keep
  module _ (State : Type 1) (R : State → State → Type 1) (AllowsM : State → Label M → Type 0) (nextM : State → Label M → State) (AllowsN : State → Label N → Type 0) (nextN : State → Label N → State)
      (allows : (S S' : State) → R S S' → (k : Label M) (l : Label N) → L k l → AllowsM S k → AllowsN S' l) (next : (S S' : State) → R S S' → (k : Label M) (l : Label N) → L k l → R (nextM S k) (nextN S' l)) where
    pub allowed_to : (ks : List (Label M)) (ls : List (Label N)) → AreSame L ks ls → (S S' : State) → R S S' → AreAllowed M State AllowsM nextM S ks → AreAllowed N State AllowsN nextN S' ls
    allowed_to [] [] s S S' h a = tt
    allowed_to (k ∷ ks) (l ∷ ls) s S S' h a = (allows S S' h k l s.0 a.0, allowed_to ks ls s.1 (nextM S k) (nextN S' l) (next S S' h k l s.0) a.1)
    allowed_to [] (l ∷ ls) s S S' h a = absurd s
    allowed_to (k ∷ ks) [] s S S' h a = absurd s

    pub last_same : (ks : List (Label M)) (ls : List (Label N)) → AreSame L ks ls → (S S' : State) → R S S' → R (last_state M State AllowsM nextM S ks) (last_state N State AllowsN nextN S' ls)
    last_same [] [] s S S' h = h
    last_same (k ∷ ks) (l ∷ ls) s S S' h = last_same ks ls s.1 (nextM S k) (nextN S' l) (next S S' h k l s.0)
    last_same [] (l ∷ ls) s S S' h = absurd s
    last_same (k ∷ ks) [] s S S' h = absurd s

    module _ (t : Tree M) (u : Tree N) (s : Same M N W G t u) (order : List Address) (first first' : State) (h : R first first') where
      -- executable from the other first state, to the other last state
      pub executable_to : (e : IsExecutableOrder M State AllowsM nextM first t order)
          → (d : IsExecutableOrder N State AllowsN nextN first' u order) × R (last_state M State AllowsM nextM first e.labels) (last_state N State AllowsN nextN first' d.labels)
      executable_to e =
          let (ls, b, y) = labels_to t u s order e.labels e.are_labels in
          (record { labels = ls; are_labels = b; allowed = allowed_to e.labels ls y first first' h e.allowed }, last_same e.labels ls y first first' h)

      pub solution_with : IsRenaming M N W G → (v : M.Work) (w : N.Work) → W v w → (Goal Goal' : State → Type 0) → ((S S' : State) → R S S' → Goal S → Goal' S')
          → IsSolution M State AllowsM nextM v first Goal t order → IsSolution N State AllowsN nextN w first' Goal' u order
      solution_with r v w same Goal Goal' goal x =
          let (d, l) = executable_to x.executable in
          record { finished = finished_to M N W G r t u s v w same order x.finished; executable = d; goal = goal _ _ l x.goal }

  -- from one state
  module _ (State : Type 1) (AllowsM : State → Label M → Type 0) (nextM : State → Label M → State) (AllowsN : State → Label N → Type 0) (nextN : State → Label N → State)
      (allows : (S : State) (k : Label M) (l : Label N) → L k l → AllowsM S k → AllowsN S l) (next_same : (S : State) (k : Label M) (l : Label N) → L k l → nextM S k ≡ nextN S l) where
    pub solution_to : IsRenaming M N W G → (v : M.Work) (w : N.Work) → W v w → (first : State) (Goal : State → Type 0) (t : Tree M) (u : Tree N) → Same M N W G t u → (order : List Address)
        → IsSolution M State AllowsM nextM v first Goal t order → IsSolution N State AllowsN nextN w first Goal u order
    solution_to r v w same first Goal t u s order =
        solution_with State (λ S S'. S ≡ S') AllowsM nextM AllowsN nextN (λ S S' e k l x a. subst (λ z. AllowsN z l) e (allows S k l x a))
        (λ S S' e k l x. next_same S k l x ∙ ap (λ z. nextN z l) e) t u s order first first refl r v w same Goal Goal (λ S S' e x. subst Goal e x)

  -- a node that is the same, for each node of the tree
  module _ (tree : Tree N) (partner : (p : Address) (l : Label N) → label_at N tree p ≡ Some l → (k : Label M) × L k l) where
    mutual
      tree_for : (u : Tree N) (p : Address) → at N tree p ≡ Some u → (t : Tree M) × Same M N W G t u
      tree_for (open_leaf w) p a = (let h = partner p (waits w) (ap (option_map (label N)) a) in go h.0 h.1)
        where
          go : (k : Label M) → L k (waits w) → (t : Tree M) × Same M N W G t (open_leaf w)
          go (waits v) s = (open_leaf v, s)
          go (ran v) s = absurd s
          go (used g) s = absurd s
      tree_for (done w) p a = (let h = partner p (ran w) (ap (option_map (label N)) a) in go h.0 h.1)
        where
          go : (k : Label M) → L k (ran w) → (t : Tree M) × Same M N W G t (done w)
          go (waits v) s = absurd s
          go (ran v) s = (done v, s)
          go (used g) s = absurd s
      tree_for (split m us) p a =
          let h = partner p (used m) (ap (option_map (label N)) a) in
          go h.0 h.1 (trees_for us p 0 (λ j. subst (λ k. at N tree (k ∷ p) ≡ child_at N us j) (let x : j ≡ 0 + j = omega arith in x) (child_below N tree j p m us a)))
        where
          go : (k : Label M) → L k (used m) → (ts : Trees M) × SameTrees M N W G ts us → (t : Tree M) × Same M N W G t (split m us)
          go (waits v) s b = absurd s
          go (ran v) s b = absurd s
          go (used g) s b = (split g b.0, (s, b.1))

      trees_for : (us : Trees N) (p : Address) (i : ℕ) → ((j : ℕ) → at N tree ((i + j) ∷ p) ≡ child_at N us j) → (ts : Trees M) × SameTrees M N W G ts us
      trees_for none p i a = (none, tt)
      trees_for (more u us) p i a =
          let (t, s) = tree_for u ((i + 0) ∷ p) (a 0) in
          let (ts, ss) = trees_for us p (suc i) (λ j. subst (λ k. at N tree (k ∷ p) ≡ child_at N us j) (let x : i + suc j ≡ suc i + j = omega arith in x) (a (suc j))) in
          (more t ts, (s, ss))

    pub other_tree : (t : Tree M) × Same M N W G t tree
    other_tree = tree_for tree [] refl

  -- acts that are the same: at the same slots, with the same new ones
  abbrev pub SameAct : Act M → Act N → Type 0
  SameAct (run h v) (run i w) = (h ≡ i) × W v w
  SameAct (apply h new g) (apply i slots m) = (h ≡ i) × (new ≡ slots) × G g m
  SameAct (run h v) (apply i slots m) = ⊥
  SameAct (apply h new g) (run i w) = ⊥

  module _ (r : IsRenaming M N W G) (t : Tree M) (u : Tree N) (s : Same M N W G t u) (slot : Address → ℕ) where
    pub others-same : (g : M.Method) (m : N.Method) → G g m → others M g ≡ others N m
    others-same g m x = (let a = r.heir g m x in let b : count M g ≡ count N m = same-length W (M.works g) (N.works m) (r.works g m x) in λ i. filter (λ j. not (is_heir (a i) j)) (numbers 0 (b i)))

    act_to : (p : Address) (a : Act M) → IsAct M t slot p a → (b : Act N) × IsAct N u slot p b × SameAct a b
    act_to p (run h v) x = (let k = to_label M N W G t u s p (ran v) x.0 in go k.0 k.1 k.2)
      where
        go : (l : Label N) → label_at N u p ≡ Some l → L (ran v) l → (b : Act N) × IsAct N u slot p b × SameAct (run h v) b
        go (waits w) e y = absurd y
        go (ran w) e y = (run h w, (e, x.1), (refl, y))
        go (used m) e y = absurd y
    act_to p (apply h new g) x = (let k = to_label M N W G t u s p (used g) x.0 in go k.0 k.1 k.2)
      where
        go : (l : Label N) → label_at N u p ≡ Some l → L (used g) l → (b : Act N) × IsAct N u slot p b × SameAct (apply h new g) b
        go (waits w) e y = absurd y
        go (ran w) e y = absurd y
        go (used m) e y = (apply h new m, (e, x.1, x.2 ∙ ap (map (λ i. slot (i ∷ p))) (others-same g m y)), (refl, refl, y))

    acts_to : (order : List Address) (acts : List (Act M)) → AreActs M t slot order acts → (others : List (Act N)) × AreActs N u slot order others × AreSame SameAct acts others
    acts_to [] [] a = ([], tt, tt)
    acts_to (p ∷ order) (b ∷ acts) a =
        let (d, e, x) = act_to p b a.0 in
        let (ds, es, xs) = acts_to order acts a.1 in
        (d ∷ ds, (e, es), (x, xs))
    acts_to [] (b ∷ acts) a = absurd a
    acts_to (p ∷ order) [] a = absurd a

    pub spells_to : (b : ℕ) (v : M.Work) (w : N.Work) → W v w → (acts : List (Act M)) (order : List Address) → Spells M b v acts t order slot
        → (others : List (Act N)) × Spells N b w others u order slot × AreSame SameAct acts others
    spells_to b v w same acts order x =
        let (others, e, y) = acts_to order acts x.spelled in (
          others,
          record {
            front = front_to M N W G r t u s v w same order x.front;
            root = x.root;
            range = λ p a. x.range p (address_back M N W G r t u s p a);
            heirs = λ p m i e h. (let k = back M N W G r t u s p (used m) e in go p m i h k.0 k.1 k.2);
            apart = λ taken rest e p q a c f. x.apart taken rest e p q (pending taken p a) (pending taken q c) f;
            spelled = e;
          },
          y,
        )
      where
        go : (p : Address) (m : N.Method) (i : ℕ) → N.heir m ≡ Some i → (k : Label M) → label_at M t p ≡ Some k → SameLabel N M (flip W) (flip G) (used m) k → slot (i ∷ p) ≡ slot p
        go p m i h (waits v) f y = absurd y
        go p m i h (ran v) f y = absurd y
        go p m i h (used g) f y = x.heirs p g i f (r.heir g m y ∙ h)

        pending : (taken : List Address) (p : Address) → IsPending N u taken p → IsPending M t taken p
        pending taken p a = record { address = address_back M N W G r t u s p a.address; begun = a.begun; left = a.left }

-- as many are pending
module _ (M N : Net) (W : M.Work → N.Work → Type 0) (G : M.Method → N.Method → Type 0) (r : IsRenaming M N W G) (t : Tree M) (u : Tree N) (s : Same M N W G t u) where
  pub pending_back : (taken : List Address) (p : Address) → IsPending N u taken p → IsPending M t taken p
  pending_back taken p a = record { address = address_back M N W G r t u s p a.address; begun = a.begun; left = a.left }

  pub pending_to : (taken : List Address) (p : Address) → IsPending M t taken p → IsPending N u taken p
  pending_to taken p a = record { address = address_to M N W G r t u s p a.address; begun = a.begun; left = a.left }

  pub width_to : (b : ℕ) (order : List Address) → IsWidth M b t order → IsWidth N b u order
  width_to b order w = record {
    within = λ taken rest nodes e h. w.within taken rest nodes e (record { different = h.different; pending = λ p c. pending_back taken p (h.pending p c) });
    taken = w.taken;
    rest = w.rest;
    nodes = w.nodes;
    parts = w.parts;
    pending = record { different = w.pending.different; pending = λ p c. pending_to w.taken p (w.pending.pending p c) };
    many = w.many;
  }
