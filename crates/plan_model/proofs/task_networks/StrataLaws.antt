-- Rankings rule out bad cycles, and one cycle at most is the named one.
use Rattle.std.proofs.Common.{ℕ, ◌≡◌, ◌≤◌, ◌⊎◌, inl, inr, List, [], ◌∷◌, ◌++◌, length, refl, ap, sym, subst, ◌∙◌, Contains, arith}
use Rattle.std.proofs.lemmas.List.Elements.{Contains-append_right}
use Rattle.htn_base.specs.Different.{AreDifferent}
use Rattle.plan_model.specs.task_networks.Laws.{RankedIsTailRecursive, NamedCycleIsTheOnlyOne}
use Rattle.plan_model.specs.task_networks.Strata.{IsLawfulRanking, IsWalk, ComesFirst}
use Rattle.plan_model.proofs.task_networks.Different.{different_without}
use Rattle.plan_model.proofs.task_networks.Lists.{cuts, Contains-here, Contains-later, not-in_empty, head_or_tail}

module _ {Task Edge : Type 0} (source target : Edge → Task) (edges : List Edge) (IsBad : Edge → Type 0) where
  not_up : (rank : Task → ℕ) → IsLawfulRanking source target edges IsBad rank → (x y : Task) (walk : List Edge) → IsWalk source target edges x walk y → rank y ≤ rank x
  not_up rank lawful x y [] e = let h = ap rank e in omega arith
  not_up rank lawful x y (d ∷ walk) (e, c, w) =
      let h = not_up rank lawful (target d) y walk w in
      let f = ap rank e in
      elim (lawful d c) [ inl l ↦ omega arith | inr l ↦ (let g = l.1 in omega arith) ]

  pub ranked_is_tail_recursive : RankedIsTailRecursive source target edges IsBad
  ranked_is_tail_recursive rank lawful e walk (c, bad, w) =
      let h = not_up rank lawful (target e) (source e) walk w in
      elim (lawful e c) [ inl l ↦ omega arith | inr l ↦ l.0 bad ]

-- two cuts of a list before an element: they are one, or one element stands in the other's first part
two_cuts : {A : Type 0} (xs : List A) (x : A) (ys zs : List A) (y : A) (ws : List A) → xs ++ x ∷ ys ≡ zs ++ y ∷ ws → ((xs ≡ zs) × (x ≡ y)) ⊎ (Contains zs x ⊎ Contains xs y)
two_cuts {A = A} xs x ys zs y ws e = elim (cuts xs x ys zs y ws e) [
  | inl h ↦ inl h
  | inr t ↦ inr (elim t [ inl h ↦ inl (goes_on xs x h.0 zs h.1) | inr h ↦ inr (goes_on zs y h.0 xs h.1) ])
]
  where
    goes_on : (before : List A) (z : A) (after whole : List A) → whole ≡ before ++ z ∷ after → Contains whole z
    goes_on before z after whole f = subst (λ l. Contains l z) (sym f) (Contains-append_right before (z ∷ after) z (Contains-here z after))

-- what is in the first part of different elements isn't in the second
apart : {A : Type 0} (xs ys : List A) (x : A) → AreDifferent (xs ++ ys) → Contains xs x → Contains ys x → ⊥
apart [] ys x d c k = not-in_empty x c
apart (z ∷ xs) ys x d c k = elim (head_or_tail z xs x c) [ inl e ↦ d.0 (subst (Contains (xs ++ ys)) (sym e) (Contains-append_right xs ys x k)) | inr h ↦ apart xs ys x d.1 h k ]

-- where elements are different, none stands before and after another
module _ {A : Type 0} (xs : List A) (different : AreDifferent xs) where
  not_after_itself : (before : List A) (x : A) (after : List A) → xs ≡ before ++ x ∷ after → Contains after x → ⊥
  not_after_itself before x after e c = (different_without before x after (subst AreDifferent e different)).1 (Contains-append_right before after x c)

  not_both : (before : List A) (x : A) (after other_before : List A) (y : A) (other_after : List A) → xs ≡ before ++ x ∷ after → xs ≡ other_before ++ y ∷ other_after → Contains after y → Contains other_after x → ⊥
  not_both before x after other_before y other_after e f c d = go (two_cuts before x after other_before y other_after (sym e ∙ f))
    where
      go : ((before ≡ other_before) × (x ≡ y)) ⊎ (Contains other_before x ⊎ Contains before y) → ⊥
      go (inl h) = not_after_itself before x after e (subst (Contains after) (sym h.1) c)
      go (inr (inl h)) = apart other_before (y ∷ other_after) x (subst AreDifferent f different) h (Contains-later y other_after x d)
      go (inr (inr h)) = apart before (x ∷ after) y (subst AreDifferent e different) h (Contains-later x after y c)

  -- the earlier of two walks isn't the later too
  one_way : (walk other : List A) (common : List A) (a : A) (rest : List A) (b : A) (other_rest : List A) → walk ≡ common ++ a ∷ rest → other ≡ common ++ b ∷ other_rest
      → (back : List A) (c : A) (back_rest : List A) (d : A) (back_other : List A) → other ≡ back ++ c ∷ back_rest → walk ≡ back ++ d ∷ back_other
      → (p q : List A) → xs ≡ p ++ a ∷ q → Contains q b → (r s : List A) → xs ≡ r ++ c ∷ s → Contains s d → ⊥
  one_way walk other [] a rest b other_rest e f [] c back_rest d back_other g h p q i j r s k l =
      let x : a ≡ d = cc in
      let y : b ≡ c = cc in
      not_both p a q r c s i k (subst (Contains q) y j) (subst (Contains s) (sym x) l)
  one_way walk other [] a rest b other_rest e f (z ∷ back) c back_rest d back_other g h p q i j r s k l =
      let x : a ≡ z = cc in
      let y : b ≡ z = cc in
      not_after_itself p a q i (subst (Contains q) (y ∙ sym x) j)
  one_way walk other (z ∷ common) a rest b other_rest e f [] c back_rest d back_other g h p q i j r s k l =
      let x : z ≡ d = cc in
      let y : z ≡ c = cc in
      not_after_itself r c s k (subst (Contains s) (sym x ∙ y) l)
  one_way walk other (z ∷ common) a rest b other_rest e f (w ∷ back) c back_rest d back_other g h p q i j r s k l =
      one_way (common ++ a ∷ rest) (common ++ b ∷ other_rest) common a rest b other_rest refl refl back c back_rest d back_other (let x : z ∷ (common ++ b ∷ other_rest) ≡ w ∷ (back ++ c ∷ back_rest) = sym f ∙ g in cc) (let x : z ∷ (common ++ a ∷ rest) ≡ w ∷ (back ++ d ∷ back_other) = sym e ∙ h in cc) p q i j r s k l

module _ {Task Edge : Type 0} (source target : Edge → Task) (edges : List Edge) (IsBad : Edge → Type 0) where
  pub named_cycle_is_the_only_one : NamedCycleIsTheOnlyOne source target edges IsBad
  named_cycle_is_the_only_one different e d walk back n o = (same, walks (n.first back back' many) (o.first walk walk' (sym many)))
    where
      same : e ≡ d
      same = go (two_cuts n.before e n.after o.before d o.after (sym n.parts ∙ o.parts))
        where
          go : ((n.before ≡ o.before) × (e ≡ d)) ⊎ (Contains o.before e ⊎ Contains n.before d) → e ≡ d
          go (inl h) = h.1
          go (inr (inl c)) = absurd (o.none_before e walk c n.cycle)
          go (inr (inr c)) = absurd (n.none_before d back c o.cycle)

      back' : IsWalk source target edges (target e) back (source e)
      back' = subst (λ z. IsWalk source target edges (target z) back (source z)) (sym same) o.cycle.2

      walk' : IsWalk source target edges (target d) walk (source d)
      walk' = subst (λ z. IsWalk source target edges (target z) walk (source z)) same n.cycle.2

      many : length back ≡ length walk
      many = let a = n.shortest back back' in let b = o.shortest walk walk' in omega arith

      walks : (walk ≡ back) ⊎ ComesFirst source target edges walk back → (back ≡ walk) ⊎ ComesFirst source target edges back walk → walk ≡ back
      walks (inl x) y = x
      walks (inr x) (inl y) = sym y
      walks (inr x) (inr y) = absurd (one_way edges different walk back x.common x.edge x.rest x.other_edge x.other_rest x.is x.other_is y.common y.edge y.rest y.other_edge y.other_rest y.is y.other_is x.before x.after x.parts x.later y.before y.after y.parts y.later)
