-- Which rows are totally ordered: the smallest problem, and the row of three children; and one that isn't, whose method has two children without a pair.
use Rattle.std.proofs.Common.{ℕ, zero, suc, ◌≡◌, ◌<◌, false, List, [], ◌∷◌, take, drop, length, slice_get, Some, refl, subst, arith}
use Rattle.plan_model.specs.Pairs.{Pairs}
use Rattle.plan_model.specs.declared.networks.Head.TheVariants.{Action}
use Rattle.plan_model.specs.declared.networks.Pair.{Pair}
use Rattle.plan_model.specs.declared.schemas.MethodPlan.{MethodPlan}
use Rattle.plan_model.specs.declared.values.Compiled.{Compiled}
use Rattle.plan_model.specs.task_networks.Order.{Precedes, direct, through, IsCut}
use Rattle.plan_model.proofs.task_networks.Lists.{not-in_empty, Contains-here, Contains-later}
use Rattle.plan_model.proofs.plan_meaning.examples.RowValues.{child, always, method_schema, method_plan}
use Rattle.plan_model.proofs.plan_meaning.examples.SmallestRow.{smallest, smallest_top, smallest_method}
use Rattle.plan_texts.specs.Types.{EachIs}
use Rattle.plan_texts.proofs.Members.{each-has, contains-has}
use Rattle.stack_encoding.specs.TotalOrder.{IsOneAfterAnother, IsTotallyOrdered, IsFirstUnordered}
use Rattle.stack_encoding.proofs.examples.StackRow.{row, top_plan, m2_plan, m1_plan}

-- a cut, from the pairs of each before with each behind
cut_by : (P : ℕ → ℕ → Type 0) (line : List ℕ) (k : ℕ) → EachIs (λ i. EachIs (Precedes P i) (drop k line)) (take k line) → IsCut P line k
cut_by P line k all i j before behind =
    let each = each-has (λ i. EachIs (Precedes P i) (drop k line)) (take k line) i all (contains-has (take k line) i before) in
    each-has (Precedes P i) (drop k line) j each (contains-has (drop k line) j behind)

-- all of the line
abbrev AllCut : MethodPlan → Type 0
AllCut plan = (k : ℕ) → k < length plan.line → EachIs (λ i. EachIs (Precedes (Pairs plan.schema.pairs) i) (drop k plan.line)) (take k plan.line)

one_by_one : (plan : MethodPlan) → AllCut plan → IsOneAfterAnother plan
one_by_one plan all k l = cut_by (Pairs plan.schema.pairs) plan.line k (all k l)

total_by : (c : Compiled) → EachIs IsOneAfterAnother c.methods → IsTotallyOrdered c
total_by c each plan m = each-has IsOneAfterAnother c.methods plan each (contains-has c.methods plan m)

-- a line of one child has one place
lone : (plan : MethodPlan) → length plan.line ≡ 1 → AllCut plan
lone plan e zero l = tt
lone plan e (suc k) l = absurd (omega arith)

pub smallest_is_total : IsTotallyOrdered smallest
smallest_is_total =
    let first = method_plan smallest_top false (0 ∷ []) (Some 0) [] in
    let second = method_plan smallest_method false (0 ∷ []) (Some 0) [] in
    total_by smallest (one_by_one first (lone first refl), (one_by_one second (lone second refl), tt))

abbrev two_pairs : List Pair
two_pairs = record { first = 0; then = 1 } ∷ record { first = 1; then = 2 } ∷ []

abbrev Before : ℕ → ℕ → Type 0
Before = Precedes (Pairs two_pairs)

one_two : Pairs two_pairs 1 2
one_two = Contains-later (record { first = 0; then = 1 }) (record { first = 1; then = 2 } ∷ []) (record { first = 1; then = 2 }) (Contains-here (record { first = 1; then = 2 }) [])

zero_one : Before 0 1
zero_one = direct (Contains-here (record { first = 0; then = 1 }) (record { first = 1; then = 2 } ∷ []))

three : (k : ℕ) → k < 3 → EachIs (λ i. EachIs (Before i) (drop k (0 ∷ 1 ∷ 2 ∷ []))) (take k (0 ∷ 1 ∷ 2 ∷ []))
three zero l = tt
three (suc zero) l = ((zero_one, (through zero_one one_two, tt)), tt)
three (suc (suc zero)) l = ((through zero_one one_two, tt), ((direct one_two, tt), tt))
three (suc (suc (suc k))) l = absurd (omega arith)

pub row_is_total : IsTotallyOrdered row
row_is_total = total_by row (one_by_one top_plan (lone top_plan refl), (one_by_one m2_plan nowhere, (one_by_one m1_plan three, tt)))
  where
    nowhere : AllCut m2_plan
    nowhere k l = absurd {0} (omega arith)

-- m: t -> a, a in any order
abbrev unordered : MethodPlan
unordered = method_plan (method_schema 6 0 always (child (Action 0) ∷ child (Action 0) ∷ []) []) false (0 ∷ 1 ∷ []) (Some 1) []

abbrev with_unordered : Compiled
with_unordered = record smallest { methods = top_plan ∷ unordered ∷ [] }

none_precede : (i j : ℕ) → Precedes (Pairs []) i j → ⊥
none_precede i j (direct c) = not-in_empty _ c
none_precede i j (through p c) = not-in_empty _ c

only_top : (k : ℕ) (other : MethodPlan) → k < 1 → slice_get with_unordered.methods k ≡ Some other → IsOneAfterAnother other
only_top zero other l e = let f : top_plan ≡ other = cc in subst IsOneAfterAnother f (one_by_one top_plan (lone top_plan refl))
only_top (suc k) other l e = absurd (omega arith)

pub first_unordered : IsFirstUnordered with_unordered 1
first_unordered = record { plan = unordered; is = refl; unordered = λ all. none_precede 0 1 (all 1 (omega arith) 0 1 (Contains-here 0 []) (Contains-here 1 [])); first = only_top }
