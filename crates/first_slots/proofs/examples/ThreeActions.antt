-- Three unordered actions on top, with four slots: the list whose new slots are 2 and 3 is a plan of each problem that is printed with
-- first-free slots, and the list whose new slots are 3 and 2, which spells the same schedule, is none. With any free slots both are plans.
use Rattle.std.proofs.Common.{ℕ, zero, suc, ◌≡◌, ◌<◌, ◌≤◌, false, List, [], ◌∷◌, map, Some, refl, subst, arith, lit<}
use Rattle.std.specs.Prelude.{codes}
use Rattle.std.specs.List.Sorted.{IsStrictlyIncreasing}
use Rattle.plan_model.specs.declared.options.Checks.{Checks}
use Rattle.plan_model.specs.declared.options.Checks.TheVariants.{Leaf}
use Rattle.plan_model.specs.declared.options.Style.{Style}
use Rattle.plan_model.specs.declared.networks.Head.TheVariants.{Action}
use Rattle.plan_model.specs.declared.schemas.MethodPlan.{MethodPlan}
use Rattle.plan_model.specs.declared.steps.GroundAction.{GroundAction}
use Rattle.plan_model.specs.declared.values.Compiled.{Compiled}
use Rattle.plan_model.specs.declared.values.Pddl.{Pddl}
use Rattle.plan_model.specs.task_networks.Tree.{Tree, split, more, done, none, Address, ran, used}
use Rattle.plan_model.specs.task_networks.Front.{IsFront}
use Rattle.plan_model.specs.task_networks.Lawful.{IsLawful}
use Rattle.plan_model.specs.task_networks.Spelling.{Act, apply, run, Spells}
use Rattle.plan_model.proofs.task_networks.ScheduleLaws.{prepared_is_lawful}
use Rattle.plan_model.proofs.task_networks.SpellingTests.{spells_by}
use Rattle.plan_model.specs.plan_meaning.Truth.{State, IsTrueIn, after}
use Rattle.plan_model.specs.plan_meaning.ClassicalPlan.{IsPlan}
use Rattle.plan_model.specs.plan_meaning.Compilation.{IsCompiled}
use Rattle.plan_model.specs.plan_meaning.Network.{action, InTypeOf, network, IsGroundMethod}
use Rattle.plan_model.specs.plan_meaning.Solution.{top_work, initial, IsSolution}
use Rattle.plan_model.specs.plan_meaning.SpelledPlan.{step_of, IsSpelling}
use Rattle.plan_model.proofs.plan_meaning.CompiledNetworks.{prepared}
use Rattle.plan_model.proofs.plan_meaning.examples.PlanKinds.{plain}
use Rattle.plan_model.proofs.plan_meaning.examples.RowValues.{child, always, nothing, problem, method_schema, method_plan, action_schema, uses}
use Rattle.plan_model.proofs.plan_meaning.examples.RowWords.{step, slot_1, slot_2, slot_3}
use Rattle.plan_model.proofs.plan_meaning.examples.RowChecks.{always_true, untested, ground_by, front_by, spelling_by, solution_by}
use Rattle.schedules.specs.ruled.LowestSlots.{AreLowestFree, AreLowest}
use Rattle.schedules.proofs.ruled.FirstFree.{one_lowest_list}
use Rattle.slot_encoding.specs.Countable.{IsCountable}
use Rattle.slot_encoding.specs.Printed.{IsPrintedFirst}
use Rattle.slot_encoding.proofs.first_free.FirstExists.{has_encoded_value-by}
use Rattle.slot_encoding.proofs.first_free.FirstPrintable.{countable_printable-by}
use Rattle.plan_model.specs.declared.options.Slots.TheVariants.{First}
use Rattle.plan_proof.proofs.examples.RowPlans.{IsLawfulRow, plain_formulas, OfEachPrinted, solution_plan}
use Rattle.plan_proof.proofs.examples.SoundChecks.{sound_by, ordered_by}
use Rattle.plan_proof.proofs.machine.PrintedMeans.{worded_faithful}
use Rattle.first_slots.specs.LowestSpelling.{IsLowestSpelling}
use Rattle.first_slots.proofs.Plain.{plain_well}
use Rattle.first_slots.proofs.Plans.{some_slot, first_faithful, to_lowest}

abbrev names : List (List ℕ)
names = codes "object" ∷ codes "d" ∷ codes "p" ∷ codes "htn_start" ∷ codes "a" ∷ codes "b" ∷ codes "c" ∷ []

abbrev top : MethodPlan
top = method_plan (method_schema 3 0 always (child (Action 0) ∷ child (Action 1) ∷ child (Action 2) ∷ []) []) false (0 ∷ 1 ∷ 2 ∷ []) (Some 2) (0 ∷ 1 ∷ [])

abbrev three : Compiled
three = record {
  hddl = problem names [] [] (action_schema 4 always nothing ∷ action_schema 5 always nothing ∷ action_schema 6 always nothing ∷ []) [] top.schema;
  methods = top ∷ [];
}

two_rise : IsStrictlyIncreasing (0 ∷ 1 ∷ [])
two_rise zero l = omega arith
two_rise (suc k) l = absurd (omega arith)

three_is_compiled : (mode : Checks) → IsCompiled three.hddl mode three
three_is_compiled mode = record {
  hddl = refl;
  methods = (plain three.hddl mode _ _ refl refl refl (record { schema = refl; up = tt; line = refl; heir = refl; copiers = refl; rising = two_rise; guards = ([], refl, refl) }), tt);
}

three_row : (mode : Checks) → IsLawfulRow mode three
three_row mode = record { sound = sound_by three.hddl refl (plain_formulas three.hddl ((refl, refl), ((refl, refl), ((refl, refl), tt))) refl tt refl); compiled = three_is_compiled mode; ordered = ordered_by three.hddl refl }

ground_0 : IsGroundMethod three (uses 0)
ground_0 = ground_by three (uses 0) top refl tt tt (([], (_, refl, refl), tt), (([], (_, refl, refl), tt), (([], (_, refl, refl), tt), tt)))

abbrev tree : Tree (network three)
tree = split (uses 0) (more (done (action 0 [])) (more (done (action 1 [])) (more (done (action 2 [])) none)))

-- the start, c, b, a
abbrev order : List Address
order = [] ∷ (2 ∷ []) ∷ (1 ∷ []) ∷ (0 ∷ []) ∷ []

front : IsFront (network three) (top_work three) tree order
front = front_by three refl tree order (ground_0, refl, (tt, (tt, (tt, tt)))) refl refl

always_here : (S : State) → IsTrueIn (InTypeOf three) S always []
always_here S = always_true (InTypeOf three) S []

abbrev then : State → State
then S = after (InTypeOf three) S nothing []

solution : IsSolution three tree order
solution = solution_by three tree order (used (uses 0) ∷ ran (action 2 []) ∷ ran (action 1 []) ∷ ran (action 0 []) ∷ []) front refl (refl, (refl, (refl, (refl, tt))))
    (λ t. untested t, (always_here (initial three), (always_here (then (initial three)), (always_here (then (then (initial three))), tt))))
    (always_here (then (then (then (initial three)))))

abbrev low_slot : Address → ℕ
low_slot [] = 1
low_slot (zero ∷ p) = 2
low_slot (suc zero ∷ p) = 3
low_slot (suc (suc i) ∷ p) = 1

abbrev high_slot : Address → ℕ
high_slot [] = 1
high_slot (zero ∷ p) = 3
high_slot (suc zero ∷ p) = 2
high_slot (suc (suc i) ∷ p) = 1

abbrev low_acts : List (Act (network three))
low_acts = apply 1 (2 ∷ 3 ∷ []) (uses 0) ∷ run 1 (action 2 []) ∷ run 3 (action 1 []) ∷ run 2 (action 0 []) ∷ []

abbrev high_acts : List (Act (network three))
high_acts = apply 1 (3 ∷ 2 ∷ []) (uses 0) ∷ run 1 (action 2 []) ∷ run 2 (action 1 []) ∷ run 3 (action 0 []) ∷ []

-- (htn_start htn_s1 htn_s2 htn_s3) (c htn_s1) (b htn_s3) (a htn_s2)
abbrev pub low_steps : List GroundAction
low_steps =
    step (codes "htn_start") (codes "htn_s1" ∷ codes "htn_s2" ∷ codes "htn_s3" ∷ []) ∷ step (codes "c") (codes "htn_s1" ∷ []) ∷ step (codes "b") (codes "htn_s3" ∷ []) ∷ step (codes "a") (codes "htn_s2" ∷ []) ∷ []

-- (htn_start htn_s1 htn_s3 htn_s2) (c htn_s1) (b htn_s2) (a htn_s3)
abbrev pub high_steps : List GroundAction
high_steps =
    step (codes "htn_start") (codes "htn_s1" ∷ codes "htn_s3" ∷ codes "htn_s2" ∷ []) ∷ step (codes "c") (codes "htn_s1" ∷ []) ∷ step (codes "b") (codes "htn_s2" ∷ []) ∷ step (codes "a") (codes "htn_s3" ∷ []) ∷ []

low_words : map (step_of three) low_acts ≡ low_steps
low_words = λ i.
    step (codes "htn_start") (slot_1 i ∷ slot_2 i ∷ slot_3 i ∷ []) ∷ step (codes "c") (slot_1 i ∷ []) ∷ step (codes "b") (slot_3 i ∷ []) ∷ step (codes "a") (slot_2 i ∷ []) ∷ []

high_words : map (step_of three) high_acts ≡ high_steps
high_words = λ i.
    step (codes "htn_start") (slot_1 i ∷ slot_3 i ∷ slot_2 i ∷ []) ∷ step (codes "c") (slot_1 i ∷ []) ∷ step (codes "b") (slot_2 i ∷ []) ∷ step (codes "a") (slot_3 i ∷ []) ∷ []

low_spells : Spells (network three) 4 (top_work three) low_acts tree order low_slot
low_spells = spells_by (network three) 4 (top_work three) low_acts tree order low_slot front refl refl ((refl, refl, refl), ((refl, refl), ((refl, refl), ((refl, refl), tt))))

high : IsSpelling three 4 high_steps tree order high_slot
high = subst (λ z. IsSpelling three 4 z tree order high_slot) high_words (spelling_by three 4 high_acts tree order high_slot front refl refl ((refl, refl, refl), ((refl, refl), ((refl, refl), ((refl, refl), tt)))))

law : IsLawful (network three)
law = prepared_is_lawful (network three) (prepared three.hddl Leaf three (three_row Leaf).ordered (three_row Leaf).compiled)

two_three_lowest : AreLowestFree (λ x. (1 < x) × (x ≤ 4)) (2 ∷ 3 ∷ [])
two_three_lowest [] rest x y e f l = absurd (let g : 2 ≡ x = cc in let h = f.0 in omega arith)
two_three_lowest (b ∷ []) rest x y e f l =
    let g : 3 ≡ x = cc in
    let k : 2 ≡ b = cc in
    let h = f.0 in
    (0, omega arith, (let z : b ≡ y = omega arith in z))
two_three_lowest (b ∷ d ∷ []) rest x y e f l = absurd cc
two_three_lowest (b ∷ d ∷ g ∷ before) rest x y e f l = absurd cc

low_lowest : AreLowest (network three) tree low_slot order
low_lowest = to_lowest three law 4 (omega arith) low_acts tree order low_slot low_spells (two_three_lowest, (tt, (tt, (tt, tt))))

low_is : IsLowestSpelling three 4 low_steps tree order low_slot
low_is = subst (λ z. IsLowestSpelling three 4 z tree order low_slot) low_words (record { spelling = (low_acts, low_spells, refl); lowest = low_lowest })

-- with any free slots both are plans
pub both_are_plans : OfEachPrinted three 4 (λ p. IsPlan p low_steps × IsPlan p high_steps)
both_are_plans style p printable encoded = (
  (solution_plan Leaf three 4 (three_row Leaf) low_steps tree order low_slot low_is.spelling solution style p printable encoded).0,
  (solution_plan Leaf three 4 (three_row Leaf) high_steps tree order high_slot high solution style p printable encoded).0,
)

-- there is such a problem with first-free slots, in each style
three_is_countable : IsCountable three 4
three_is_countable = record { top = refl; some_slot = omega arith; few_slots = lit< tt; few_children = (lit< tt, tt); unions = lit< tt }

pub some_printed : (style : Style) → (p : Pddl) × IsPrintedFirst three.hddl Leaf three 4 style p
some_printed style =
    let e = has_encoded_value-by First three 4 style in
    let row = three_row Leaf in
    (e.value, record { sound = row.sound; compiled = row.compiled; printable = countable_printable-by First three.hddl Leaf three 4 style e.value row.sound row.compiled e.encoded e.words three_is_countable; encoded = e.encoded })

-- of its lists the first alone is a plan
module _ (style : Style) (p : Pddl) (is : IsPrintedFirst three.hddl Leaf three 4 style p) where
  pub low_is_plan : IsPlan p low_steps
  low_is_plan = ((first_faithful three.hddl Leaf three 4 style p (three_row Leaf).ordered is).plans low_steps).1 (tree, order, low_slot, low_is, solution)

  not_lowest : (slot : Address → ℕ) (acts : List (Act (network three))) → Spells (network three) 4 (top_work three) acts tree order slot → AreLowest (network three) tree slot order → slot (0 ∷ []) ≡ 3 → ⊥
  not_lowest slot acts s l e =
      let same = (one_lowest_list (network three) law 4 (top_work three) tree order acts low_acts slot low_slot (record { spells = s; lowest = l }) (record { spells = low_spells; lowest = low_lowest })).1 (0 ∷ []) (ran (action 0 []), refl) in
      omega arith

  pub high_is_no_plan : IsPlan p high_steps → ⊥
  high_is_no_plan k =
      let (t, o, slot, spells, s) = ((first_faithful three.hddl Leaf three 4 style p (three_row Leaf).ordered is).plans high_steps).0 k in
      let plain = worded_faithful three.hddl Leaf three 4 style is.encoded.plain (three_row Leaf).ordered (plain_well three.hddl Leaf three 4 style p is) (some_slot three.hddl Leaf three 4 style p (three_row Leaf).ordered is) in
      let (e, f, g) = plain.only_one high_steps tree t order o high_slot slot high spells.spelling in
      let h = subst (λ z. IsLowestSpelling three 4 high_steps tree z slot) f (subst (λ z. IsLowestSpelling three 4 high_steps z o slot) e spells) in
      not_lowest slot h.spelling.0 h.spelling.1 h.lowest (g (0 ∷ []) (ran (action 0 []), refl))
