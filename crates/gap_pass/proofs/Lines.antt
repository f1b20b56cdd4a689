-- A node is entered: its children are put on the stack, in the order of its method's line.
use Rattle.std.proofs.Common.{ℕ, ◌≡◌, ◌<◌, ◌↔◌, ◌⊎◌, inl, inr, List, [], ◌∷◌, ◌++◌, take, drop, Option, Some, None, slice_get, refl, ap, sym, subst, ◌∙◌, append_assoc, Contains}
use Rattle.std.specs.Option.{option_map}
use Rattle.std.specs.List.{cons_option}
use Rattle.std.proofs.lemmas.List.{take-append-drop}
use Rattle.std.proofs.lemmas.List.Elements.{Contains-append_left, Contains-append_right, Contains-append_cases}
use Rattle.htn_base.specs.Different.{AreDifferent}
use Rattle.plan_model.specs.task_networks.Order.{Precedes, IsLine}
use Rattle.plan_model.specs.task_networks.Net.{Net, count}
use Rattle.plan_model.specs.task_networks.Tree.{Tree, Address, used, label_at, IsGrown}
use Rattle.plan_model.proofs.task_networks.Lists.{Contains-here, Contains-later, head_or_tail, not-in_empty, cut_at}
use Rattle.plan_model.proofs.task_networks.Parents.{parent_label, address_child}
use Rattle.tree_core.proofs.Gets.{place_of}
use Rattle.tree_core.proofs.Siblings.{one_node_place, node_address}
use Rattle.gap_pass.specs.Tours.{node_of, IsAt, IsBegun, IsLeft, entered}
use Rattle.gap_pass.specs.declared.tour.Step.{Step}
use Rattle.gap_pass.specs.declared.tour.Step.TheVariants.{Enter, Leave}
use Rattle.gap_pass.proofs.Touring.{Stands, AreOrdered, IsTouring, goes_on}

-- the line of a method agrees with its pairs
module _ {Pair : ℕ → ℕ → Type 0} {n : ℕ} (line : List ℕ) (is : IsLine Pair n line) where
  stands_once : (listed rest : List ℕ) (i : ℕ) → line ≡ listed ++ i ∷ rest → Contains rest i → ⊥
  stands_once listed rest i e c =
      let (a, b, f) = cut_at rest i c in
      let g : line ≡ (listed ++ i ∷ a) ++ i ∷ b = e ∙ ap (λ z. listed ++ i ∷ z) f ∙ sym (append_assoc listed (i ∷ a) (i ∷ b)) in
      (is.each (listed ++ i ∷ a) b i g).ready.unlisted (Contains-append_right listed (i ∷ a) i (Contains-here i a))

  different_rest : (listed rest : List ℕ) → line ≡ listed ++ rest → AreDifferent rest
  different_rest listed [] e = tt
  different_rest listed (i ∷ rest) e = (
    stands_once listed rest i e,
    different_rest (listed ++ i ∷ []) rest
        (e ∙ sym (append_assoc listed (i ∷ []) rest)),
  )

  pub different_line : AreDifferent line
  different_line = different_rest [] line refl

  -- what a child precedes stands behind it
  pub stands_behind : (listed rest : List ℕ) (i j : ℕ) → line ≡ listed ++ i ∷ rest → j < n → Precedes Pair i j → Contains rest j
  stands_behind listed rest i j e l p = elim (Contains-append_cases listed (i ∷ rest) j (subst (λ z. Contains z j) e (is.whole j l))) [
    | inl c ↦ (
        let (a, b, f) = cut_at listed j c in
        let g : line ≡ a ++ j ∷ (b ++ i ∷ rest) = e ∙ ap (λ z. z ++ i ∷ rest) f ∙ append_assoc a (j ∷ b) (i ∷ rest) in
        let d = (is.each a (b ++ i ∷ rest) j g).ready.preceded i p in
        absurd ((is.each listed rest i e).ready.unlisted (subst (λ z. Contains z i) (sym f) (Contains-append_left a (j ∷ b) i d))))
    | inr c ↦ elim (head_or_tail i rest j c) [
      | inl same ↦ absurd ((is.each listed rest i e).ready.unlisted
          ((is.each listed rest i e).ready.preceded i (subst (Precedes Pair i) (sym same) p)))
      | inr d ↦ d
    ]
  ]

-- the children of a line are those of its numbers
module _ (children : List ℕ) where
  pub entered_of : (line : List ℕ) (u : Step) → Contains (entered children line) u → (i : ℕ) × (x : ℕ) × Contains line i
      × (slice_get children i ≡ Some x) × (u ≡ Enter x)
  entered_of [] u c = absurd (not-in_empty u c)
  entered_of (i ∷ line) u c = go (λ d. (let (j, x, a, e, f) = entered_of line u d in (j, x, Contains-later i line j a, e, f)))
      (slice_get children i) refl c
    where
      go : (Contains (entered children line) u → (j : ℕ) × (x : ℕ) × Contains (i ∷ line) j × (slice_get children j ≡ Some x)
          × (u ≡ Enter x)) → (o : Option ℕ) → slice_get children i ≡ o
          → Contains (cons_option (option_map Enter o) (entered children line)) u
          → (j : ℕ) × (x : ℕ) × Contains (i ∷ line) j × (slice_get children j ≡ Some x) × (u ≡ Enter x)
      go later None e d = later d
      go later (Some x) e d = elim (head_or_tail (Enter x) (entered children line) u d) [
        | inl f ↦ (i, x, Contains-here i line, e, sym f)
        | inr f ↦ later f
      ]

  pub to_entered : (line : List ℕ) (i x : ℕ) → Contains line i → slice_get children i ≡ Some x → Contains (entered children line) (Enter x)
  to_entered [] i x c e = absurd (not-in_empty i c)
  to_entered (j ∷ line) i x c e = elim (head_or_tail j line i c) [
    | inl f ↦ (let g : slice_get children j ≡ Some x = ap (slice_get children) f ∙ e in
        subst (λ o. Contains (cons_option (option_map Enter o) (entered children line)) (Enter x)) (sym g)
        (Contains-here (Enter x) (entered children line)))
    | inr d ↦ go (slice_get children j) (to_entered line i x d e)
  ]
    where
      go : (o : Option ℕ) → Contains (entered children line) (Enter x)
          → Contains (cons_option (option_map Enter o) (entered children line)) (Enter x)
      go None d = d
      go (Some y) d = Contains-later (Enter y) (entered children line) (Enter x) d

  pub different_entered : ((i j x : ℕ) → slice_get children i ≡ Some x → slice_get children j ≡ Some x → i ≡ j) → (line : List ℕ)
      → AreDifferent line → AreDifferent (entered children line)
  different_entered one [] d = tt
  different_entered one (i ∷ line) d = go (different_entered one line d.1) (slice_get children i) refl
    where
      go : AreDifferent (entered children line) → (o : Option ℕ) → slice_get children i ≡ o
          → AreDifferent (cons_option (option_map Enter o) (entered children line))
      go rest None e = rest
      go rest (Some x) e = (
        λ c. (
            let (j, y, a, f, g) = entered_of line (Enter x) c in
            let same : y ≡ x = cc in
            let h : i ≡ j = one i j x e (f ∙ ap Some same) in
            d.0 (subst (Contains line) (sym h) a)),
        rest,
      )

module _ (N : Net) (tree : Tree N) (grown : IsGrown N tree) where
  -- the line of the method at a node; where there is no method it is empty
  abbrev pub IsLineAt : Address → List ℕ → Type 0
  IsLineAt p line = ((m : N.Method) × (label_at N tree p ≡ Some (used m)) × IsLine (N.Pair m) (count N m) line)
      ⊎ (((m : N.Method) → label_at N tree p ≡ Some (used m) → ⊥) × (line ≡ []))

  module _ (steps stack : List Step) (k : ℕ) (p : Address) (at_k : IsAt N tree k p) (children line : List ℕ)
      (t : IsTouring N tree steps (stack ++ Enter k ∷ []))
      (are : (i x : ℕ) → (slice_get children i ≡ Some x) ↔ IsAt N tree x (i ∷ p)) (lined : IsLineAt p line) where
    abbrev Longer : List Step
    Longer = steps ++ Enter k ∷ []

    abbrev New : List Step
    New = Leave k ∷ entered children line

    same_node : (q : Address) → IsAt N tree k q → q ≡ p
    same_node q a = cc

    one_child : (i j x : ℕ) → slice_get children i ≡ Some x → slice_get children j ≡ Some x → i ≡ j
    one_child i j x e f = let a = (are i x).0 e in let b = (are j x).0 f in cc

    -- each child is entered
    has_child : (i x : ℕ) → IsAt N tree x (i ∷ p) → Contains (entered children line) (Enter x)
    has_child i x a =
        let c = node_address N tree x (i ∷ p) a in
        elim lined [
          | inl h ↦ to_entered children line i x (h.2.whole i (address_child N tree p h.0 i grown h.1 c)) ((are i x).1 a)
          | inr h ↦ (let (m, e) = parent_label N tree i p c in absurd (h.0 m e))
        ]

    different : AreDifferent (entered children line)
    different = elim lined [
      | inl h ↦ different_entered children one_child line (different_line line h.2)
      | inr h ↦ different_entered children one_child line (subst AreDifferent (sym h.1) tt)
    ]

    -- what a child must precede stands above it
    ordered_from : (m : N.Method) → label_at N tree p ≡ Some (used m) → IsLine (N.Pair m) (count N m) line → (listed rest : List ℕ)
        → line ≡ listed ++ rest
        → AreOrdered N tree Longer (entered children rest)
    ordered_from m is l listed [] e = tt
    ordered_from m is l listed (i ∷ rest) e = go (ordered_from m is l (listed ++ i ∷ []) rest
        (e ∙ sym (append_assoc listed (i ∷ []) rest))) (slice_get children i) refl
      where
        go : AreOrdered N tree Longer (entered children rest) → (o : Option ℕ) → slice_get children i ≡ o
            → AreOrdered N tree Longer (cons_option (option_map Enter o) (entered children rest))
        go more None f = more
        go more (Some x) f = (
          λ i' j y q m' a b c d. (
              let here = (are i x).0 f in
              let same : i' ≡ i = cc in
              let at_p : q ≡ p = cc in
              let is' : label_at N tree p ≡ Some (used m') = subst (λ z. label_at N tree z ≡ Some (used m')) at_p b in
              let method : m' ≡ m = cc in
              let pre : Precedes (N.Pair m) i j = subst (λ z. Precedes (N.Pair z) i j) method
              (subst (λ z. Precedes (N.Pair m') z j) same c) in
              let there : IsAt N tree y (j ∷ p) = subst (λ z. IsAt N tree y (j ∷ z)) at_p d in
              let l' = address_child N tree p m j grown is (node_address N tree y (j ∷ p) there) in
              inr (inl (to_entered children rest j y (stands_behind line l listed rest i j e l' pre) ((are j y).1 there)))),
          more,
        )

    ordered : AreOrdered N tree Longer (entered children line)
    ordered = elim lined [
      | inl h ↦ ordered_from h.0 h.1 h.2 [] line refl
      | inr h ↦ subst (λ z. AreOrdered N tree Longer (entered children z)) (sym h.1) tt
    ]

    on_top : Contains (stack ++ Enter k ∷ []) (Enter k)
    on_top = Contains-append_right stack (Enter k ∷ []) (Enter k) (Contains-here (Enter k) [])

    not_entered : Contains steps (Enter k) → ⊥
    not_entered c = t.apart (Enter k) c on_top

    earlier : (n : ℕ) (u : Step) → Contains (take n steps) u → Contains steps u
    earlier n u c = subst (λ z. Contains z u) (take-append-drop n steps) (Contains-append_left (take n steps) (drop n steps) u c)

    -- what is put on the stack is new
    begun_once : (u : Step) → (IsBegun N tree steps u → ⊥) → ((n : ℕ) → IsBegun N tree (take n steps) u → ⊥) → (Contains steps u → ⊥)
        × (Contains (stack ++ Enter k ∷ []) u → ⊥)
    begun_once u n f = (λ c. (let (j, e) = place_of steps u c in f j (t.each j u e).begun), λ c. n (t.begun u c))

    fresh : (u : Step) → Contains New u → (Contains steps u → ⊥) × (Contains (stack ++ Enter k ∷ []) u → ⊥)
    fresh u c = elim (head_or_tail (Leave k) (entered children line) u c) [
      | inl e ↦ subst (λ z. (Contains steps z → ⊥) × (Contains (stack ++ Enter k ∷ []) z → ⊥)) e
          (begun_once (Leave k) not_entered (λ n b. not_entered (earlier n (Enter k) b)))
      | inr d ↦ (
          let (i, x, a, e, f) = entered_of children line u d in
          subst (λ z. (Contains steps z → ⊥) × (Contains (stack ++ Enter k ∷ []) z → ⊥)) (sym f)
          (begun_once (Enter x) (λ b. not_entered (b i k p ((are i x).0 e) at_k))
          (λ n b. not_entered (earlier n (Enter k) (b i k p ((are i x).0 e) at_k)))))
    ]

    nodes : (u : Step) → Contains New u → (q : Address) × IsAt N tree (node_of u) q
    nodes u c = elim (head_or_tail (Leave k) (entered children line) u c) [
      | inl e ↦ subst (λ z. (q : Address) × IsAt N tree (node_of z) q) e (p, at_k)
      | inr d ↦ (let (i, x, a, e, f) = entered_of children line u d in subst (λ z. (q : Address) × IsAt N tree (node_of z) q) (sym f)
          (i ∷ p, (are i x).0 e))
    ]

    in_longer : Contains Longer (Enter k)
    in_longer = Contains-append_right steps (Enter k ∷ []) (Enter k) (Contains-here (Enter k) [])

    begun : (u : Step) → Contains New u → IsBegun N tree Longer u
    begun u c = elim (head_or_tail (Leave k) (entered children line) u c) [
      | inl e ↦ subst (IsBegun N tree Longer) e in_longer
      | inr d ↦ (
          let (i, x, a, e, f) = entered_of children line u d in
          subst (IsBegun N tree Longer) (sym f) (λ j y q b g. (
          let here = (are i x).0 e in
          let at_p : q ≡ p = cc in
          let same : k ≡ y = one_node_place N tree k y p at_k (subst (IsAt N tree y) at_p g) in
          subst (λ z. Contains Longer (Enter z)) same in_longer)))
    ]

    -- a step in
    pub one_entered : IsTouring N tree Longer (stack ++ New)
    one_entered = goes_on N tree steps stack New (Enter k) t
        (λ c. (let (i, x, a, e, f) = entered_of children line (Leave k) c in absurd cc), different) fresh nodes begun
        (λ i y q a b. inr (inl (has_child i y (subst (λ z. IsAt N tree y (i ∷ z)) (same_node q a) b))), ordered) stands left kids
      where
        stands : (j : ℕ) → Stands N tree (Enter k ∷ []) j → IsLeft N tree Longer j ⊎ Stands N tree New j
        stands j (inl c) = elim (head_or_tail (Enter k) [] (Enter j) c) [
          | inl e ↦ (let same : k ≡ j = cc in inr (inr (subst (λ z. Contains New (Leave z)) same
              (Contains-here (Leave k) (entered children line)))))
          | inr y ↦ absurd (not-in_empty (Enter j) y)
        ]
        stands j (inr c) = elim (head_or_tail (Enter k) [] (Leave j) c) [ inl e ↦ absurd cc | inr y ↦ absurd (not-in_empty (Leave j) y) ]

        left : (j : ℕ) → Enter k ≡ Enter j → Contains New (Leave j)
        left j e = let same : k ≡ j = cc in subst (λ z. Contains New (Leave z)) same (Contains-here (Leave k) (entered children line))

        kids : (j i x : ℕ) (q : Address) → Enter k ≡ Enter j → IsAt N tree j q → IsAt N tree x (i ∷ q) → Contains New (Enter x)
        kids j i x q e a b =
            let same : j ≡ k = cc in
            let at_p : q ≡ p = same_node q (subst (λ z. IsAt N tree z q) same a) in
            Contains-later (Leave k) (entered children line) (Enter x) (has_child i x (subst (λ z. IsAt N tree x (i ∷ z)) at_p b))
