-- How the numbers change as one leaf is processed.
use Rattle.std.proofs.Common.{ℕ, ◌≡◌, ◌≢◌, ◌<◌, ◌⊎◌, inl, inr, List, [], ◌∷◌, length, Some, None, option_map, option_and_then, slice_get, get_or, refl, ap, sym, subst, ◌∙◌, arith}
use Rattle.std.proofs.lemmas.Option.{slice_get_within, slice_get-get_or}
use Rattle.plan_model.specs.task_networks.Net.{Net, count}
use Rattle.plan_model.specs.task_networks.Lawful.{IsLawful}
use Rattle.plan_model.specs.task_networks.Tree.{Tree, Label, Address, waits, ran, used, IsAbove, at, child_at, children_of, label, label_at, IsAddress, IsOpen}
use Rattle.plan_model.specs.task_networks.Spelling.{numbers}
use Rattle.plan_model.proofs.task_networks.Addresses.{is_below, below-itself, below_up, below_cases, same_sibling, not-below_parent}
use Rattle.plan_model.proofs.task_networks.Numbers.{length-numbers, to_numbers, numbers_to, different-numbers}
use Rattle.slot_machine.proofs.FrontSteps.{waits_only, used_grows, used_back, taken_apart}
use Rattle.slot_machine.proofs.Growth.{IsGrowth, child_works, place, leaf_at, none_below}
use Rattle.decoding.specs.Waiting.{works_below, Grows, HasOpen, IsOpenBefore, BecomesWhole}
use Rattle.decoding.specs.WaitingLaws.{NumberTellsWaiting, NumberTellsWhole, WholeOnTheWay, LeafIsWhole, StaysWhole, BlockedFalls, BlockedStays, ChildrenFall, ChildrenStay, NewBlocked, NewChildren, NumbersChange, GrowingChangesNumbers}
use Rattle.decoding.proofs.Many.{same_many, one_less, many_some}

module _ (N : Net) where
  pub number_tells_waiting : NumberTellsWaiting N
  number_tells_waiting tree j q n a = many_some (IsOpenBefore N tree q j) n a

  pub number_tells_whole : NumberTellsWhole N
  number_tells_whole tree q m n e a = (λ h. (many_some (λ i. HasOpen N tree (i ∷ q)) n a).0 (to h), λ l. from ((many_some (λ i. HasOpen N tree (i ∷ q)) n a).1 l))
    where
      to : HasOpen N tree q → (i : ℕ) × HasOpen N tree (i ∷ q)
      to (u, a, o) = elim (below_cases q u a) [
        | inl f ↦ absurd (let x = subst (λ z. label_at N tree z ≡ Some (waits o.0)) f o.1 in cc)
        | inr (i, d) ↦ (i, (u, d, o))
      ]

      from : (i : ℕ) × HasOpen N tree (i ∷ q) → HasOpen N tree q
      from (i, (u, a, o)) = (u, below_up i q u a, o)

  module _ (tree tree' : Tree N) (p : Address) (l : Label N) (g : Grows N tree tree' p l) where
    same_works : child_works N l ≡ works_below N l
    same_works = go l
      where
        go : (l : Label N) → child_works N l ≡ works_below N l
        go (waits w) = refl
        go (ran w) = refl
        go (used m) = refl

    pub childless : (i : ℕ) → label_at N tree (i ∷ p) ≡ None
    childless i = ap (λ o. option_map (label N) (option_and_then (λ t. child_at N (children_of N t) i) o)) (leaf_at N tree p g.was.0 g.was.1)

    pub growth : IsGrowth N tree tree' p g.was.0 l
    growth = record { taken = g.taken; was = g.was.1; now = g.now; childless = childless; children = λ i. g.children i ∙ ap (λ z. option_map waits (slice_get z i)) (sym same_works); others = g.others }

    -- open leaves before and after
    pub still_open : (u : Address) → IsOpen N tree u → u ≢ p → IsOpen N tree' u
    still_open u (w, e) n = go (place N p u)
      where
        go : (u ≡ p) ⊎ (((i : ℕ) × (u ≡ i ∷ p)) ⊎ ((u ≢ p) × ((i : ℕ) → u ≢ i ∷ p))) → IsOpen N tree' u
        go (inl f) = absurd (n f)
        go (inr (inl (i, f))) = absurd (let x = childless i in let y = ap (label_at N tree) f in cc)
        go (inr (inr (a, c))) = (w, g.others u a c ∙ e)

    pub was_open : (u : Address) → IsOpen N tree' u → IsOpen N tree u ⊎ ((i : ℕ) × (u ≡ i ∷ p))
    was_open u (w, e) = go (place N p u)
      where
        go : (u ≡ p) ⊎ (((i : ℕ) × (u ≡ i ∷ p)) ⊎ ((u ≢ p) × ((i : ℕ) → u ≢ i ∷ p))) → IsOpen N tree u ⊎ ((i : ℕ) × (u ≡ i ∷ p))
        go (inl f) = inl (subst (IsOpen N tree) (sym f) g.was)
        go (inr (inl h)) = inr h
        go (inr (inr (a, c))) = inl (w, sym (g.others u a c) ∙ e)

    -- what is off the way stays as it is
    pub off_the_way : (q : Address) → (IsAbove q p → ⊥) → HasOpen N tree q → HasOpen N tree' q
    off_the_way q n (u, a, o) = (u, a, still_open u o (λ e. n (subst (IsAbove q) e a)))

    pub on_the_way : WholeOnTheWay N tree tree' p l
    on_the_way q (h, n) = elim (is_below q p) [ yes a ↦ a | no m ↦ absurd (n (off_the_way q m h)) ]

    stays_open : (q : Address) → ((i : ℕ) → q ≢ i ∷ p) → HasOpen N tree' q → HasOpen N tree q
    stays_open q n (u, a, o) = go (was_open u o)
      where
        up : (i : ℕ) → (q ≡ i ∷ p) ⊎ IsAbove q p → HasOpen N tree q
        up i (inl e) = absurd (n i e)
        up i (inr c) = (p, c, g.was)

        go : IsOpen N tree u ⊎ ((i : ℕ) × (u ≡ i ∷ p)) → HasOpen N tree q
        go (inl x) = (u, a, x)
        go (inr (i, e)) = up i (subst (IsAbove q) e a)

    no_child : (q : Address) → IsAddress N tree q → (i : ℕ) → q ≢ i ∷ p
    no_child q aq i e = let x = childless i in let y = ap (label_at N tree) e in let z = aq.1 in cc

    pub stays_whole : StaysWhole N tree tree' p l
    stays_whole q aq h = stays_open q (no_child q aq) h

    -- two children can't both be on the way
    other_child : (q : Address) (i k : ℕ) → IsAbove (i ∷ q) p → k ≢ i → IsAbove (k ∷ q) p → ⊥
    other_child q i k a n c = n (same_sibling k i q p c a)

    -- a child of an old node is no child of p
    old_child : (j : ℕ) (q : Address) → IsAddress N tree (j ∷ q) → q ≢ p
    old_child j q a e = no_child (j ∷ q) a j (ap (λ z. j ∷ z) e)

    not_new : (q : Address) → q ≢ p → (k i : ℕ) → k ∷ q ≢ i ∷ p
    not_new q n k i e = n cc

    before_back : (q : Address) (j k : ℕ) → q ≢ p → IsOpenBefore N tree' q j k → IsOpenBefore N tree q j k
    before_back q j k n (m, e, d, h) = (m, used_back N tree tree' p g.was.0 l growth q m n e, d, stays_open (k ∷ q) (not_new q n k) h)

    before_forth : (q : Address) (j k : ℕ) → HasOpen N tree' (k ∷ q) → IsOpenBefore N tree q j k → IsOpenBefore N tree' q j k
    before_forth q j k h (m, e, d, x) = (m, (used_grows N tree tree' p g.was.0 l growth q m e).1, d, h)

    pub blocked_falls : BlockedFalls N tree tree' p l
    blocked_falls q j i n a b nh c = one_less (IsOpenBefore N tree q j) (IsOpenBefore N tree' q j) n i b (λ x. nh x.3)
        (λ k d. ((λ x. before_forth q j k (off_the_way (k ∷ q) (other_child q i k way d) x.3) x), before_back q j k (old_child j q a))) c
      where
        way : IsAbove (i ∷ q) p
        way = on_the_way (i ∷ q) (b.3, nh)

    pub blocked_stays : BlockedStays N tree tree' p l
    blocked_stays q j n a f c = same_many (IsOpenBefore N tree q j) (IsOpenBefore N tree' q j) n (λ i. ((λ x. before_forth q j i (f i x) x), before_back q j i (old_child j q a))) c

    pub children_fall : ChildrenFall N tree tree' p l
    children_fall q i n a w c = one_less (λ k. HasOpen N tree (k ∷ q)) (λ k. HasOpen N tree' (k ∷ q)) n i w.0 w.1
        (λ k d. (off_the_way (k ∷ q) (other_child q i k (on_the_way (i ∷ q) w) d), stays_open (k ∷ q) (not_new q (old_child i q a) k))) c

    pub children_stay : ChildrenStay N tree tree' p l
    children_stay q n m e f c = same_many (λ k. HasOpen N tree (k ∷ q)) (λ k. HasOpen N tree' (k ∷ q)) n (λ i. (f i, stays_open (i ∷ q) (not_new q apart i))) c
      where
        apart : q ≢ p
        apart x = let y = ap (label_at N tree) x in let z = g.was.1 in cc

    pub nothing_under : (i : ℕ) (u : Address) → IsAbove (i ∷ p) u → IsOpen N tree u → ⊥
    nothing_under i u a (w, e) =
        let x : at N tree (i ∷ p) ≡ None = ap (option_and_then (λ t. child_at N (children_of N t) i)) (leaf_at N tree p g.was.0 g.was.1) in
        let y = ap (option_map (label N)) (none_below N tree (i ∷ p) u x a) in
        cc

    pub new_child : (i : ℕ) → i < length (works_below N l) → HasOpen N tree' (i ∷ p)
    new_child i h = (i ∷ p, below-itself (i ∷ p), (get_or (works_below N l) i (first (works_below N l) i h), g.children i ∙ ap (option_map waits) (slice_get-get_or (works_below N l) i (first (works_below N l) i h) h)))
      where
        first : (ws : List N.Work) (i : ℕ) → i < length ws → N.Work
        first [] i h = absurd (omega arith)
        first (w ∷ ws) i h = w

    pub child_new : (i : ℕ) → HasOpen N tree' (i ∷ p) → i < length (works_below N l)
    child_new i (u, a, o) = go (was_open u o)
      where
        here : (k : ℕ) → u ≡ k ∷ p → (i ∷ p ≡ k ∷ p) ⊎ IsAbove (i ∷ p) p → i < length (works_below N l)
        here k e (inr c) = absurd (not-below_parent i p c)
        here k e (inl f) =
            let x : label_at N tree' (i ∷ p) ≡ Some (waits o.0) = subst (λ z. label_at N tree' z ≡ Some (waits o.0)) (e ∙ sym f) o.1 in
            let y = waits_only N (slice_get (works_below N l) i) (waits o.0) (sym (g.children i) ∙ x) in
            slice_get_within (works_below N l) i y.0 y.2

        go : IsOpen N tree u ⊎ ((k : ℕ) × (u ≡ k ∷ p)) → i < length (works_below N l)
        go (inl x) = absurd (nothing_under i u a x)
        go (inr (k, e)) = here k e (subst (IsAbove (i ∷ p)) e a)

    pub leaf_is_whole : LeafIsWhole N tree tree' p l
    leaf_is_whole = ((λ w. to (works_below N l) refl w), from)
      where
        to : (ws : List N.Work) → works_below N l ≡ ws → BecomesWhole N tree tree' p → works_below N l ≡ []
        to [] e w = e
        to (v ∷ ws) e w = let (u, a, o) = new_child 0 (let x = ap length e in omega arith) in absurd (w.1 (u, below_up 0 p u a, o))

        from : works_below N l ≡ [] → BecomesWhole N tree tree' p
        from e = ((p, below-itself p, g.was), λ h. none h (below_cases p h.0 h.1))
          where
            none : (h : HasOpen N tree' p) → (h.0 ≡ p) ⊎ ((k : ℕ) × IsAbove (k ∷ p) h.0) → ⊥
            none h (inl f) = taken_apart N l h.2.0 (let x = subst (λ z. label_at N tree' z ≡ Some (waits h.2.0)) f h.2.1 in let y = g.now in cc) g.taken
            none h (inr (k, d)) = let x = child_new k (h.0, d, h.2) in let y = ap length e in omega arith

    pub new_children : NewChildren N tree tree' p l
    new_children m e = record {
      numbers = numbers 0 (count N m);
      different = different-numbers 0 (count N m);
      all = λ i. ((λ c. new_child i (let x = (numbers_to 0 (count N m) i c).1 in let y = ap (λ z. length (works_below N z)) e in omega arith)), (λ h. to_numbers 0 (count N m) i (omega arith) (let x = child_new i h in let y = ap (λ z. length (works_below N z)) e in omega arith)));
      many = length-numbers 0 (count N m);
    }

    pub new_blocked : IsLawful N → NewBlocked N tree tree' p l
    new_blocked law m j n e c = same_many (λ i. N.Pair m i j) (IsOpenBefore N tree' p j) n (λ i. (to i, from i)) c
      where
        to : (i : ℕ) → N.Pair m i j → IsOpenBefore N tree' p j i
        to i d = (m, g.now ∙ ap Some e, d, new_child i (let x = (law.pairs m i j d).0 in let y = ap (λ z. length (works_below N z)) e in omega arith))

        from : (i : ℕ) → IsOpenBefore N tree' p j i → N.Pair m i j
        from i (o, f, d, h) = subst (λ z. N.Pair z i j) (let x = g.now in let y : o ≡ m = cc in y) d

    numbers_change : IsLawful N → NumbersChange N tree tree' p l
    numbers_change law = record {
      on_the_way = on_the_way;
      leaf = leaf_is_whole;
      stays_whole = stays_whole;
      blocked_falls = blocked_falls;
      blocked_stays = blocked_stays;
      children_fall = children_fall;
      children_stay = children_stay;
      new_blocked = new_blocked law;
      new_children = new_children;
    }

  pub growing_changes_numbers : IsLawful N → GrowingChangesNumbers N
  growing_changes_numbers law tree tree' p l g = numbers_change tree tree' p l g law
