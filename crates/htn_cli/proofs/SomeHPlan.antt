-- A text is read as a hierarchical plan, or has a least fault as one.
use Rattle.std.proofs.Common.{ℕ, zero, suc, ◌≡◌, ◌∙◌, ◌<◌, ◌≤◌, ◌⊎◌, inl, inr, List, [], ◌∷◌, ◌++◌, length, Option, Some, None}
use Rattle.std.proofs.Common.{refl, sym, ap, subst, arith}
use Rattle.std.proofs.lemmas.Bool.{cases_eq, cases_lt}
use Rattle.plan_texts.specs.Types.{Has}
use Rattle.text_forms.specs.Faults.{Fault, fault, IsBefore}
use Rattle.hplan_text.specs.declared.mention.Mention.{Mention}
use Rattle.hplan_text.specs.declared.values.HNode.{HNode}
use Rattle.hplan_text.specs.declared.values.HPlan.{HPlan}
use Rattle.hplan_text.specs.Lines.{Marked, marked}
use Rattle.hplan_text.specs.SpellsHPlan.{rows, own_ids, plan_of}
use Rattle.hplan_text.specs.HPlanFaults.{faults_of_lines, faults_of_ids, Reaches, lists, leads, IsUnreached, IsTreeFault, IsLeastFault}
use Rattle.hplan_text.specs.Reading.{IsHPlanRead}
use Rattle.hplan_text.proofs.PhaseFaults.{itself, least-line, least-id, least-tree, faultless}
use Rattle.hplan_text.proofs.LeastFound.{before-then, has-split, has-left, has-right}
use Rattle.hplan_text.proofs.Judged.{spelled}

-- a number is in a list, or it isn't
among_or_not : (ns : List ℕ) (n : ℕ) → Has ns n ⊎ (Has ns n → ⊥)
among_or_not [] n = inr (λ h. h)
among_or_not (k ∷ ns) n = go (cases_eq k n) (among_or_not ns n)
  where
    go : ((k ≡ n) ⊎ (k ≡ n → ⊥)) → (Has ns n ⊎ (Has ns n → ⊥)) → Has (k ∷ ns) n ⊎ (Has (k ∷ ns) n → ⊥)
    go (inl e) b = inl (inl e)
    go (inr a) (inl h) = inl (inr h)
    go (inr a) (inr b) = inr (λ h. elim h [ inl e ↦ a e | inr i ↦ b i ])

-- of some nodes one whose id is reached, and the others
record IsNext (reached : List ℕ) (rest : List HNode) : Type 0 where
  pub node : HNode
  pub others : List HNode
  pub fewer : suc (length others) ≡ length rest
  pub is : Has rest node
  pub due : Has reached node.line.id
  pub within : (x : HNode) → Has others x → Has rest x
  pub all : (x : HNode) → Has rest x → (node ≡ x) ⊎ Has others x

abbrev AreAllTaken : List ℕ → List HNode → Type 0
AreAllTaken reached rest = (x : HNode) → Has rest x → Has reached x.line.id → ⊥

next_or_last : (reached : List ℕ) (rest : List HNode) → IsNext reached rest ⊎ AreAllTaken reached rest
next_or_last reached [] = inr (λ x h r. h)
next_or_last reached (y ∷ rest) = go (among_or_not reached y.line.id) (next_or_last reached rest)
  where
    go : (Has reached y.line.id ⊎ (Has reached y.line.id → ⊥)) → (IsNext reached rest ⊎ AreAllTaken reached rest)
        → IsNext reached (y ∷ rest) ⊎ AreAllTaken reached (y ∷ rest)
    go (inl r) b = inl (record { node = y; others = rest; fewer = refl; is = inl refl; due = r; within = λ x h. inr h; all = λ x h. h })
    go (inr a) (inl n) = inl (record {
      node = n.node;
      others = y ∷ n.others;
      fewer = ap suc n.fewer;
      is = inr n.is;
      due = n.due;
      within = λ x h. elim h [ inl e ↦ inl e | inr i ↦ inr (n.within x i) ];
      all = λ x h. elim h [ inl e ↦ inr (inl e) | inr i ↦ elim (n.all x i) [ inl e ↦ inl e | inr j ↦ inr (inr j) ] ];
    })
    go (inr a) (inr none) = inr (λ x h r. elim h [ inl e ↦ a (subst (λ (z : HNode). Has reached z.line.id) (sym e) r) | inr i ↦ none x i r ])

-- what the root reaches is a list
module _ (plan : HPlan) where
  -- what is reached so far, and the nodes whose ids were not taken
  record IsSoFar (reached : List ℕ) (rest : List HNode) : Type 0 where
    pub sound : (n : ℕ) → Has reached n → Reaches plan n
    pub nodes : (x : HNode) → Has rest x → Has plan.nodes x
    pub root : (n : ℕ) → Has plan.root n → Has reached n
    pub taken : (x : HNode) → Has plan.nodes x → Has rest x ⊎ ((n : ℕ) → Has x.ids n → Has reached n)

  at_first : IsSoFar plan.root plan.nodes
  at_first = record { sound = λ n h. lists h; nodes = λ x h. h; root = λ n h. h; taken = λ x h. inl h }

  module _ (reached : List ℕ) (rest : List HNode) (w : IsSoFar reached rest) where
    one_more : (x : IsNext reached rest) → IsSoFar (x.node.ids ++ reached) x.others
    one_more x = record {
      sound = λ n h. elim (has-split x.node.ids reached n h) [
        | inl i ↦ leads x.node (w.nodes x.node x.is) (w.sound x.node.line.id x.due) i
        | inr i ↦ w.sound n i
      ];
      nodes = λ y h. w.nodes y (x.within y h);
      root = λ n h. has-right x.node.ids reached n (w.root n h);
      taken = λ y h. elim (w.taken y h) [
        | inl i ↦ elim (x.all y i) [
          | inl e ↦ inr (λ n k. has-left x.node.ids reached n (subst (λ (z : HNode). Has z.ids n) (sym e) k))
          | inr j ↦ inl j
        ]
        | inr f ↦ inr (λ n k. has-right x.node.ids reached n (f n k))
      ];
    }

    complete : AreAllTaken reached rest → (n : ℕ) → Reaches plan n → Has reached n
    complete last n (lists h) = w.root n h
    complete last n (leads x h r i) = elim (w.taken x h) [
      | inl j ↦ absurd (last x j (complete last x.line.id r))
      | inr f ↦ f n i
    ]

  abbrev AreReached : List ℕ → Type 0
  AreReached ns = (n : ℕ) → (Has ns n → Reaches plan n) × (Reaches plan n → Has ns n)

  walk : (left : ℕ) (reached : List ℕ) (rest : List HNode) → length rest ≡ left → IsSoFar reached rest
      → IsNext reached rest ⊎ AreAllTaken reached rest → (ns : List ℕ) × AreReached ns
  walk zero reached rest e w (inl x) = absurd (let f = x.fewer in omega (arith, f, e))
  walk (suc left) reached rest e w (inl x) =
      walk left (x.node.ids ++ reached) x.others (let f = x.fewer in omega (arith, f, e)) (one_more reached rest w x)
      (next_or_last (x.node.ids ++ reached) x.others)
  walk zero reached rest e w (inr last) = (reached, λ n. (w.sound n, complete reached rest w last n))
  walk (suc left) reached rest e w (inr last) = (reached, λ n. (w.sound n, complete reached rest w last n))

  reaches_or_not : (n : ℕ) → Reaches plan n ⊎ (Reaches plan n → ⊥)
  reaches_or_not n =
      let (ns, are) = walk (length plan.nodes) plan.root plan.nodes refl at_first (next_or_last plan.root plan.nodes) in
      elim (among_or_not ns n) [ inl h ↦ inl ((are n).0 h) | inr f ↦ inr (λ r. f ((are n).1 r)) ]

-- of two faults one is before the other
one_before : (f g : Fault) → IsBefore f g ⊎ IsBefore g f
one_before f g = go (cases_lt f.at g.at) (cases_lt g.at f.at) (cases_lt f.code g.code)
  where
    go : ((f.at < g.at) ⊎ (g.at ≤ f.at)) → ((g.at < f.at) ⊎ (f.at ≤ g.at)) → ((f.code < g.code) ⊎ (g.code ≤ f.code))
        → IsBefore f g ⊎ IsBefore g f
    go (inl l) b c = inl (inl l)
    go (inr l) (inl m) c = inr (inl m)
    go (inr l) (inr m) (inl k) = inl (inr (omega arith, omega arith))
    go (inr l) (inr m) (inr k) = inr (inr (omega arith, omega arith))

-- of some things those that pass a test have a least fault, or none passes
module _ {X : Type 0} (fault_of : X → Fault) (P : X → Type 0) where
  abbrev IsLeastIn : List X → X → Type 0
  IsLeastIn xs x = Has xs x × P x × ((y : X) → Has xs y → P y → IsBefore (fault_of x) (fault_of y))

  abbrev HaveLeast : List X → Type 0
  HaveLeast xs = ((x : X) × IsLeastIn xs x) ⊎ ((x : X) → Has xs x → P x → ⊥)

  least_or_none : ((x : X) → P x ⊎ (P x → ⊥)) → (xs : List X) → HaveLeast xs
  least_or_none tells [] = inr (λ x h p. h)
  least_or_none tells (x ∷ xs) = go (tells x) (least_or_none tells xs)
    where
      at_itself : (z : X) → x ≡ z → IsBefore (fault_of x) (fault_of z)
      at_itself z e = subst (λ w. IsBefore (fault_of x) (fault_of w)) e (itself (fault_of x))

      go : (P x ⊎ (P x → ⊥)) → HaveLeast xs → HaveLeast (x ∷ xs)
      go (inr a) (inr none) = inr (λ y h p. elim h [ inl e ↦ a (subst P (sym e) p) | inr i ↦ none y i p ])
      go (inr a) (inl (y, (h, p, least))) = inl (y, (inr h, p, λ z i q. elim i [ inl e ↦ absurd (a (subst P (sym e) q)) | inr j ↦ least z j q ]))
      go (inl p) (inr none) = inl (x, (inl refl, p, λ z i q. elim i [ inl e ↦ at_itself z e | inr j ↦ absurd (none z j q) ]))
      go (inl p) (inl (y, (h, q, least))) = by (one_before (fault_of x) (fault_of y))
        where
          by : (IsBefore (fault_of x) (fault_of y) ⊎ IsBefore (fault_of y) (fault_of x)) → HaveLeast (x ∷ xs)
          by (inl b) = inl (
            x,
            (
              inl refl,
              p,
              λ z i r. elim i [
                | inl e ↦ at_itself z e
                | inr j ↦ before-then (fault_of x) (fault_of y) (fault_of z) b (least z j r)
              ],
            ),
          )
          by (inr b) = inl (y, (inr h, q, λ z i r. elim i [ inl e ↦ subst (λ w. IsBefore (fault_of y) (fault_of w)) e b | inr j ↦ least z j r ]))

-- some faults have a least one, or there is none
abbrev HaveLeastFault : List Fault → Type 0
HaveLeastFault fs = ((f : Fault) × Has fs f × ((g : Fault) → Has fs g → IsBefore f g)) ⊎ (fs ≡ [])

least_of_list : (fs : List Fault) → HaveLeastFault fs
least_of_list fs = go fs (least_or_none (λ f. f) (λ f. Unit {0}) (λ f. inl tt) fs)
  where
    go : (fs : List Fault) → HaveLeast (λ f. f) (λ f. Unit {0}) fs → HaveLeastFault fs
    go fs (inl (f, (h, p, least))) = inl (f, h, λ g i. least g i tt)
    go [] (inr none) = inr refl
    go (f ∷ fs) (inr none) = absurd (none f (inl refl) tt)

abbrev pub HPlanIsReadOrRefused : List ℕ → Type 0
HPlanIsReadOrRefused text = ((plan : HPlan) × IsHPlanRead text plan) ⊎ ((f : Fault) × IsLeastFault text f)

module _ (text : List ℕ) where
  abbrev Lines : List Fault
  Lines = faults_of_lines (length text) (marked text)

  abbrev Ids : List Fault
  Ids = faults_of_ids (marked text)

  module _ (lines_none : Lines ≡ []) (ids_none : Ids ≡ []) (m : Marked) (e : marked text ≡ Some m) where
    abbrev IsLost : Mention → Type 0
    IsLost x = Reaches (plan_of (rows m)) x.id → ⊥

    abbrev lost_fault : Mention → Fault
    lost_fault x = fault 36 x.at

    lost_or_not : (x : Mention) → IsLost x ⊎ (IsLost x → ⊥)
    lost_or_not x = elim (reaches_or_not (plan_of (rows m)) x.id) [ inl r ↦ inr (λ n. n r) | inr n ↦ inl n ]

    tree_is : (g : Fault) → IsTreeFault (marked text) g → IsUnreached (rows m) g
    tree_is g t = subst (λ o. IsTreeFault o g) e t

    is_tree : (g : Fault) → IsUnreached (rows m) g → IsTreeFault (marked text) g
    is_tree g t = subst (λ o. IsTreeFault o g) (sym e) t

    by_lost : HaveLeast lost_fault IsLost (own_ids (rows m)) → HPlanIsReadOrRefused text
    by_lost (inl (x, (h, lost, least))) =
        inr (lost_fault x, least-tree text (lost_fault x) lines_none ids_none (is_tree (lost_fault x) (x, h, lost, refl)) before)
      where
        of : (g : Fault) → IsUnreached (rows m) g → IsBefore (lost_fault x) g
        of g (y, i, n, q) = subst (IsBefore (lost_fault x)) (sym q) (least y i n)

        before : (g : Fault) → IsTreeFault (marked text) g → IsBefore (lost_fault x) g
        before g t = of g (tree_is g t)
    by_lost (inr none) = inl (
      plan_of (rows m),
      record {
        faultless = faultless text lines_none ids_none (λ g t. not_lost g (tree_is g t));
        spelled = spelled text m e (sym (ap (faults_of_lines (length text)) e) ∙ lines_none);
      },
    )
      where
        not_lost : (g : Fault) → IsUnreached (rows m) g → ⊥
        not_lost g (y, i, n, q) = none y i n

    of_tree : HPlanIsReadOrRefused text
    of_tree = by_lost (least_or_none lost_fault IsLost lost_or_not (own_ids (rows m)))

  by_markers : Lines ≡ [] → Ids ≡ [] → (o : Option Marked) → marked text ≡ o → HPlanIsReadOrRefused text
  by_markers a b None e = absurd (let c = sym (ap (faults_of_lines (length text)) e) ∙ a in cc)
  by_markers a b (Some m) e = of_tree a b m e

  by_phases : HaveLeastFault Lines → HaveLeastFault Ids → HPlanIsReadOrRefused text
  by_phases (inl (f, h, least)) ids = inr (f, least-line text f h least)
  by_phases (inr a) (inl (f, h, least)) = inr (f, least-id text f a h least)
  by_phases (inr a) (inr b) = by_markers a b (marked text) refl

  pub hplan_told : HPlanIsReadOrRefused text
  hplan_told = by_phases (least_of_list Lines) (least_of_list Ids)
