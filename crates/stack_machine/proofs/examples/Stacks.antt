-- Stacks, worked out.
use Rattle.std.proofs.Common.{ℕ, zero, suc, ◌≡◌, ◌<◌, ◌≤◌, inl, inr, List, [], ◌∷◌, ◌++◌, Some, refl, Contains, subst, ◌+◌, arith, sym}
use Rattle.plan_model.specs.task_networks.Order.{Precedes, IsLine, IsNext, IsReady, IsCut, direct}
use Rattle.plan_model.specs.task_networks.Tree.{Address, waits, used, open_leaf, split, none, more}
use Rattle.plan_model.specs.task_networks.Schedule.{IsSchedule}
use Rattle.std.proofs.lemmas.List.Elements.{Contains-append_left}
use Rattle.slot_machine.proofs.FrontSteps.{taken_apart}
use Rattle.plan_model.specs.task_networks.Net.{count}
use Rattle.plan_model.specs.task_networks.Spelling.{Act, run, apply}
use Rattle.plan_model.proofs.task_networks.Lists.{cut_at, head_or_tail, not-in_empty}
use Rattle.plan_model.proofs.task_networks.ScheduleLaws.{line_is_the_only_one}
use Rattle.plan_model.proofs.task_networks.examples.Nets.{tail, TailMethod, again, stop, tail_t, tail_a, tail_lawful, FirstThenSecond, no_chain}
use Rattle.stack_machine.specs.Stack.{IsTotallyOrdered, IsTotal, behind, AreCellsFrom}
use Rattle.stack_machine.specs.StackMachine.{StackRuns, first_stack, end_of_stack, MayAtTip}
use Rattle.stack_machine.proofs.StackRuns.{runs_iff_cells, SpellsSomeCells}

-- the line isn't the order of the numbers: 1, 2, 0
two_behind_one : behind (1 ∷ 2 ∷ 0 ∷ []) 1 ≡ 2
two_behind_one = refl

one_behind_two : behind (1 ∷ 2 ∷ 0 ∷ []) 2 ≡ 1
one_behind_two = refl

none_behind_zero : behind (1 ∷ 2 ∷ 0 ∷ []) 0 ≡ 0
none_behind_zero = refl

-- tail: t -> a < t, and t -> without children
two_line : IsLine FirstThenSecond 2 (0 ∷ 1 ∷ [])
two_line = record { whole = whole; each = each }
  where
    whole : (i : ℕ) → i < 2 → Contains {X = ℕ} (0 ∷ 1 ∷ []) i
    whole zero h = (0, omega arith, refl)
    whole (suc zero) h = (1, omega arith, refl)
    whole (suc (suc i)) h = absurd (omega arith)

    chain_pair : (i j : ℕ) → Precedes FirstThenSecond i j → FirstThenSecond i j
    chain_pair = no_chain (λ i j k a b. both i j k a b)
      where
        both : (i j k : ℕ) → FirstThenSecond i j → FirstThenSecond j k → ⊥
        both zero zero k a b = a
        both zero (suc zero) k a b = b
        both zero (suc (suc j)) k a b = a
        both (suc i) j k a b = a

    before_none : (j : ℕ) → Precedes FirstThenSecond j 0 → ⊥
    before_none zero c = chain_pair 0 0 c
    before_none (suc j) c = chain_pair (suc j) 0 c

    before_one : (j : ℕ) → Precedes FirstThenSecond j 1 → 0 ≡ j
    before_one zero c = refl
    before_one (suc j) c = absurd (chain_pair (suc j) 1 c)

    first : IsNext FirstThenSecond 2 [] 0
    first = record { ready = record { child = omega arith; unlisted = not-in_empty 0; preceded = λ j c. absurd (before_none j c) }; least = λ j r. omega arith }

    second : IsNext FirstThenSecond 2 (0 ∷ []) 1
    second = record { ready = record { child = omega arith; unlisted = unlisted; preceded = λ j c. (0, omega arith, before_one j c) }; least = least }
      where
        unlisted : Contains {X = ℕ} (0 ∷ []) 1 → ⊥
        unlisted c = elim (head_or_tail 0 [] 1 c) [ inl e ↦ omega arith | inr d ↦ not-in_empty 1 d ]

        least : (j : ℕ) → IsReady FirstThenSecond 2 (0 ∷ []) j → 1 ≤ j
        least zero r = absurd (r.unlisted (0, omega arith, refl))
        least (suc j) r = omega arith

    each : (listed rest : List ℕ) (i : ℕ) → 0 ∷ 1 ∷ [] ≡ listed ++ i ∷ rest → IsNext FirstThenSecond 2 listed i
    each [] rest i e = subst (IsNext FirstThenSecond 2 []) (let f : 0 ≡ i = cc in f) first
    each (d ∷ []) rest i e = subst (λ l. IsNext FirstThenSecond 2 l i) (let f : 0 ∷ [] ≡ d ∷ [] = cc in f) (subst (IsNext FirstThenSecond 2 (0 ∷ [])) (let f : 1 ≡ i = cc in f) second)
    each (d ∷ d' ∷ []) rest i e = absurd cc
    each (d ∷ d' ∷ d'' ∷ listed) rest i e = absurd cc

no_line : IsLine (λ i j. ⊥) 0 []
no_line = record { whole = λ i h. absurd (omega arith); each = each }
  where
    each : (listed rest : List ℕ) (i : ℕ) → [] ≡ listed ++ i ∷ rest → IsNext (λ i j. ⊥) 0 listed i
    each [] rest i e = absurd cc
    each (d ∷ listed) rest i e = absurd cc

tail_total : IsTotal tail
tail_total = record { ordered = ordered; heir_is_last = last }
  where
    only : (x y : ℕ) → Contains {X = ℕ} (x ∷ []) y → x ≡ y
    only x y c = elim (head_or_tail x [] y c) [ inl e ↦ e | inr d ↦ absurd (not-in_empty y d) ]

    cuts : (k : ℕ) → k < 2 → IsCut FirstThenSecond (0 ∷ 1 ∷ []) k
    cuts zero h i j c d = absurd (not-in_empty i c)
    cuts (suc zero) h i j c d = subst (λ z. Precedes FirstThenSecond z j) (only 0 i c) (subst (Precedes FirstThenSecond 0) (only 1 j d) (direct tt))
    cuts (suc (suc k)) h i j c d = absurd (omega arith)

    ordered : (m : TailMethod) → IsTotallyOrdered tail m
    ordered again = (0 ∷ 1 ∷ [], two_line, cuts)
    ordered stop = ([], no_line, λ k h. absurd (omega arith))

    last : (m : TailMethod) (i : ℕ) → tail.heir m ≡ Some i → (others : List ℕ) × IsLine (tail.Pair m) (count tail m) (others ++ i ∷ [])
    last again i e = (0 ∷ [], subst (λ z. IsLine FirstThenSecond 2 (0 ∷ z ∷ [])) (let f : 1 ≡ i = cc in f) two_line)
    last stop i e = absurd cc

-- again at cell 1, whose first child has cell 2; a at 2; stop at 1
abbrev stack_acts : List (Act tail)
stack_acts = apply 1 (2 ∷ []) again ∷ run 2 tail_a ∷ apply 1 [] stop ∷ []

again_cells : AreCellsFrom tail 1 again (2 ∷ [])
again_cells line l = subst (λ z. 2 ∷ [] ≡ (1 + behind z 0) ∷ []) (line_is_the_only_one tail again (0 ∷ 1 ∷ []) line two_line l) refl

stack_runs : StackRuns tail 2 (first_stack tail tail_t) stack_acts
stack_runs = (
  record { holds = (refl, refl); ground = tt; tip = refl; cells = again_cells; room = omega arith },
  (
    record { holds = inr (0, refl, refl); simple = tt; tip = inr refl },
    (record { holds = (inr (1, refl, refl), λ h. (let e = h.0 in omega arith)); ground = tt; tip = inr refl; cells = λ line l. refl; room = omega arith }, tt),
  ),
)

-- the run spells a front, and nothing is left on the stack
stack_spells : SpellsSomeCells tail tail_lawful tail_total 2 tail_t stack_acts
stack_spells = (runs_iff_cells tail tail_lawful tail_total 2 tail_t (omega arith) stack_acts).0 stack_runs

stack_empty : (end_of_stack tail (first_stack tail tail_t) stack_acts).tip 0
stack_empty = inr refl

-- with one cell there is no room
no_room : MayAtTip tail 1 (first_stack tail tail_t) (apply 1 (2 ∷ []) again) → ⊥
no_room m = let r = m.room in omega arith

-- what isn't at the tip can't be taken: t in cell 1, while a is in cell 2
not_at_tip : MayAtTip tail 2 (end_of_stack tail (first_stack tail tail_t) (apply 1 (2 ∷ []) again ∷ [])) (apply 1 [] stop) → ⊥
not_at_tip m = elim m.tip [ inl h ↦ h.1 refl | inr e ↦ omega arith ]

-- a tree with an open leaf may have no schedule: a is open, and what must come after it is taken
half_open : (order : List Address) → IsSchedule tail (split again (more (open_leaf tail_a) (more (split stop none) none))) order → ⊥
half_open order s =
    let (taken, rest, e) = cut_at order (1 ∷ []) ((s.covers (1 ∷ [])).1 (used stop, refl, tt)) in
    let c : Contains taken (0 ∷ []) = (s.due taken rest (1 ∷ []) e).clear (0 ∷ []) (waits tail_a, refl) (again, 0, refl, direct tt, inl refl) in
    let (l, f, t) = (s.covers (0 ∷ [])).0 (subst (λ z. Contains z (0 ∷ [])) (sym e) (Contains-append_left taken ((1 ∷ []) ∷ rest) (0 ∷ []) c)) in
    let g : l ≡ waits tail_a = cc in
    taken_apart tail l tail_a g t
