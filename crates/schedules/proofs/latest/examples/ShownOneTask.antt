-- What is shown, worked out on t -> u, a without an order, and u -> nothing: the schedule t, u, a.
use Rattle.std.proofs.Common.{ℕ, ◌≡◌, ◌⊎◌, inl, inr, List, [], ◌∷◌, false, cond, ◌==◌, refl, ap, sym, subst, ◌∙◌, Contains, arith}
use Rattle.std.proofs.lemmas.List.Sorted.{IsPermutation-refl}
use Rattle.plan_model.specs.task_networks.Tree.{Address}
use Rattle.plan_model.proofs.task_networks.Lists.{head_or_tail, not-in_empty}
use Rattle.schedules.specs.latest.PlanLines.{StepLine, SplitLine, PlanLines, IsId}
use Rattle.schedules.specs.latest.Shown.{PlanWords, plan_of, Shows}
use Rattle.schedules.proofs.latest.examples.OneTask.{Work, Method, a, of_u, idle, tree}

abbrev words : PlanWords idle
words = record { Step = Work; Split = Method; is_check = λ w. false; step = λ w. w; split = λ m. m }

abbrev order : List Address
order = [] ∷ (0 ∷ []) ∷ (1 ∷ []) ∷ []

-- the action has number 0 and the decomposition of u number 1
abbrev printed : PlanLines ℕ Work Method
printed = record {
  steps = record { id = 0; step = a } ∷ [];
  root = 1 ∷ 0 ∷ [];
  splits = record { id = 1; split = of_u; children = [] } ∷ [];
}

is_printed : plan_of idle words tree order ≡ printed
is_printed = refl

-- other ids
abbrev given : (u_id a_id : ℕ) → List ℕ → PlanLines ℕ Work Method
given u_id a_id root = record {
  steps = record { id = a_id; step = a } ∷ [];
  root = root;
  splits = record { id = u_id; split = of_u; children = [] } ∷ [];
}

abbrev new : ℕ → ℕ
new k = cond (k == 7) 0 1

two : (i : ℕ) → IsId (given 5 7 (5 ∷ 7 ∷ [])) i → (i ≡ 7) ⊎ (i ≡ 5)
two i (inl c) = elim (head_or_tail 7 (5 ∷ []) i c) [ inl e ↦ inl (sym e) | inr d ↦ elim (head_or_tail 5 [] i d) [ inl e ↦ inr (sym e) | inr x ↦ absurd (not-in_empty i x) ] ]
two i (inr (inl c)) = elim (head_or_tail 5 (7 ∷ []) i c) [ inl e ↦ inr (sym e) | inr d ↦ elim (head_or_tail 7 [] i d) [ inl e ↦ inl (sym e) | inr x ↦ absurd (not-in_empty i x) ] ]
two i (inr (inr (l, d, c))) = elim (head_or_tail (let r : SplitLine ℕ Method = record { id = 5; split = of_u; children = [] } in r) [] l d) [
  | inl e ↦ absurd (not-in_empty i (subst (λ z. Contains z i) (sym (ap (λ z. z.children) e)) c))
  | inr x ↦ absurd (not-in_empty l x)
]

is_shown : Shows idle words tree (given 5 7 (5 ∷ 7 ∷ [])) order
is_shown = (
  new,
  record {
    one_to_one = λ i j x y e. elim (two i x) [
      | inl f ↦ elim (two j y) [ inl g ↦ f ∙ sym g | inr g ↦ absurd (let h = ap new f in let k = ap new g in cc) ]
      | inr f ↦ elim (two j y) [ inl g ↦ absurd (let h = ap new f in let k = ap new g in cc) | inr g ↦ f ∙ sym g ]
    ];
    steps = refl;
    root = refl;
    splits = IsPermutation-refl printed.splits;
  },
)

-- children in another order are another plan
not_shown : Shows idle words tree (given 5 7 (7 ∷ 5 ∷ [])) order → ⊥
not_shown (f, r) = let x = step_id in let y = root_id in omega arith
  where
    id_of : List (StepLine ℕ Work) → ℕ
    id_of [] = 0
    id_of (l ∷ ls) = l.id

    step_id : f 7 ≡ 0
    step_id = sym (ap id_of r.steps)

    first_of : List ℕ → ℕ
    first_of [] = 0
    first_of (i ∷ ids) = i

    root_id : f 7 ≡ 1
    root_id = sym (ap first_of r.root)
