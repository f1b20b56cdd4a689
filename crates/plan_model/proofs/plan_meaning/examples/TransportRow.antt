-- The first six steps of Transport with two trucks and three packages: a front that can be executed, and its spelling.
use Rattle.std.proofs.Common.{ℕ, zero, suc, ◌≡◌, inl, inr, List, [], ◌∷◌, map, refl, subst, arith}
use Rattle.std.specs.Prelude.{codes}
use Rattle.plan_model.specs.declared.formulas.Formula.TheVariants.{Holds}
use Rattle.plan_model.specs.declared.steps.GroundAction.{GroundAction}
use Rattle.plan_model.specs.Typing.{stay}
use Rattle.plan_model.specs.task_networks.Tree.{Tree, split, more, done, none, open_leaf, Address, ran, used}
use Rattle.plan_model.specs.task_networks.Front.{IsFront}
use Rattle.plan_model.specs.task_networks.Spelling.{Act, apply, run}
use Rattle.plan_model.proofs.task_networks.Tests.{schedule_iff}
use Rattle.plan_model.specs.plan_meaning.Truth.{IsTrueIn}
use Rattle.plan_model.specs.plan_meaning.Network.{action, check, task, GroundMethod, InTypeOf, network, IsGroundMethod}
use Rattle.plan_model.specs.plan_meaning.Solution.{top_work, initial, IsExecutableFront}
use Rattle.plan_model.specs.plan_meaning.SpelledPlan.{step_of, IsSpelling}
use Rattle.plan_model.proofs.plan_meaning.TruthEquations.{truth-Holds, truth-And}
use Rattle.plan_model.proofs.plan_meaning.examples.TruthExamples.{from}
use Rattle.plan_model.proofs.plan_meaning.examples.RowWords.{step, slot_1, slot_2, slot_3, slot_4, slot_5, slot_6, slot_7}
use Rattle.plan_model.proofs.plan_meaning.examples.RowChecks.{untested, ground_by, spelling_by}
use Rattle.plan_model.proofs.plan_meaning.examples.TransportOrder.{before, decides}
use Rattle.plan_model.proofs.plan_meaning.examples.TransportValue.{transport, top, deliver, there, pick_up, at}

-- m-deliver with v1, this package, l0 and l1; m-there with v1 and l0. Objects 0 to 2 are l0 to l2, 3 and 4 v1 and v2, 5 to 7 p1 to p3
abbrev delivers : ℕ → GroundMethod
delivers p = record { number = 1; values = 3 ∷ p ∷ 0 ∷ 1 ∷ [] }

abbrev is_there : GroundMethod
is_there = record { number = 3; values = 3 ∷ 0 ∷ [] }

abbrev start : GroundMethod
start = record { number = 0; values = [] }

abbrev pub tree : Tree (network transport)
tree = split start (more first (more second (more (open_leaf (task 0 (7 ∷ 1 ∷ []))) none)))
  where
    first : Tree (network transport)
    first = split (delivers 5) (more (split is_there (more (done (check 3 (3 ∷ 0 ∷ []))) none)) (more (done (action 1 (3 ∷ 0 ∷ 5 ∷ []))) (more (open_leaf (task 1 (3 ∷ 1 ∷ []))) (more (open_leaf (action 2 (3 ∷ 1 ∷ 5 ∷ []))) none))))

    second : Tree (network transport)
    second = split (delivers 6) (more (open_leaf (task 1 (3 ∷ 0 ∷ []))) (more (open_leaf (action 1 (3 ∷ 0 ∷ 6 ∷ []))) (more (open_leaf (task 1 (3 ∷ 1 ∷ []))) (more (open_leaf (action 2 (3 ∷ 1 ∷ 6 ∷ []))) none))))

-- the start, deliver p1, get-to, its check, pick-up, deliver p2
abbrev pub order : List Address
order = [] ∷ (0 ∷ []) ∷ (0 ∷ 0 ∷ []) ∷ (0 ∷ 0 ∷ 0 ∷ []) ∷ (1 ∷ 0 ∷ []) ∷ (1 ∷ []) ∷ []

abbrev first_slot : ℕ → ℕ
first_slot zero = 4
first_slot (suc zero) = 5
first_slot (suc (suc zero)) = 6
first_slot (suc (suc (suc i))) = 2

abbrev second_slot : ℕ → ℕ
second_slot zero = 4
second_slot (suc zero) = 5
second_slot (suc (suc zero)) = 7
second_slot (suc (suc (suc i))) = 3

abbrev pub slot : Address → ℕ
slot [] = 1
slot (zero ∷ []) = 2
slot (suc zero ∷ []) = 3
slot (suc (suc i) ∷ []) = 1
slot (i ∷ zero ∷ []) = first_slot i
slot (i ∷ suc j ∷ []) = second_slot i
slot (i ∷ j ∷ k ∷ p) = 4

abbrev pub acts : List (Act (network transport))
acts =
    apply 1 (2 ∷ 3 ∷ []) start ∷ apply 2 (4 ∷ 5 ∷ 6 ∷ []) (delivers 5) ∷ apply 4 [] is_there
    ∷ run 4 (check 3 (3 ∷ 0 ∷ [])) ∷ run 5 (action 1 (3 ∷ 0 ∷ 5 ∷ [])) ∷ apply 3 (4 ∷ 5 ∷ 7 ∷ []) (delivers 6) ∷ []

abbrev pub steps : List GroundAction
steps =
    step (codes "htn_start") (codes "htn_s1" ∷ codes "htn_s2" ∷ codes "htn_s3" ∷ [])
    ∷ step (codes "htn_m_m-deliver") (codes "htn_s2" ∷ codes "htn_s4" ∷ codes "htn_s5" ∷ codes "htn_s6" ∷ codes "v1" ∷ codes "p1" ∷ codes "l0" ∷ codes "l1" ∷ [])
    ∷ step (codes "htn_m_m-there") (codes "htn_s4" ∷ codes "v1" ∷ codes "l0" ∷ [])
    ∷ step (codes "htn_c_m-there") (codes "htn_s4" ∷ codes "v1" ∷ codes "l0" ∷ [])
    ∷ step (codes "pick-up") (codes "htn_s5" ∷ codes "v1" ∷ codes "l0" ∷ codes "p1" ∷ [])
    ∷ step (codes "htn_m_m-deliver") (codes "htn_s3" ∷ codes "htn_s4" ∷ codes "htn_s5" ∷ codes "htn_s7" ∷ codes "v1" ∷ codes "p2" ∷ codes "l0" ∷ codes "l1" ∷ [])
    ∷ []

pub in_words : map (step_of transport) acts ≡ steps
in_words = λ i.
    step (codes "htn_start") (slot_1 i ∷ slot_2 i ∷ slot_3 i ∷ [])
    ∷ step (codes "htn_m_m-deliver") (slot_2 i ∷ slot_4 i ∷ slot_5 i ∷ slot_6 i ∷ codes "v1" ∷ codes "p1" ∷ codes "l0" ∷ codes "l1" ∷ [])
    ∷ step (codes "htn_m_m-there") (slot_4 i ∷ codes "v1" ∷ codes "l0" ∷ [])
    ∷ step (codes "htn_c_m-there") (slot_4 i ∷ codes "v1" ∷ codes "l0" ∷ [])
    ∷ step (codes "pick-up") (slot_5 i ∷ codes "v1" ∷ codes "l0" ∷ codes "p1" ∷ [])
    ∷ step (codes "htn_m_m-deliver") (slot_3 i ∷ slot_4 i ∷ slot_5 i ∷ slot_7 i ∷ codes "v1" ∷ codes "p2" ∷ codes "l0" ∷ codes "l1" ∷ [])
    ∷ []

abbrev Of : ℕ → ℕ → Type 0
Of = InTypeOf transport

-- an object is of the type that it is declared of
l0 : Of 0 1
l0 = (_, refl, inl (inr stay))

l1 : Of 1 1
l1 = (_, refl, inl (inr stay))

v1 : Of 3 3
v1 = (_, refl, inl (inr stay))

p1 : Of 5 4
p1 = (_, refl, inl (inr stay))

p2 : Of 6 4
p2 = (_, refl, inl (inr stay))

p3 : Of 7 4
p3 = (_, refl, inl (inr stay))

ground_start : IsGroundMethod transport start
ground_start = ground_by transport start top refl tt tt ((_, (_, refl, refl), (p1, (l1, tt))), ((_, (_, refl, refl), (p2, (l1, tt))), ((_, (_, refl, refl), (p3, (l1, tt))), tt)))

ground_delivers : (p : ℕ) → Of p 4 → IsGroundMethod transport (delivers p)
ground_delivers p is = ground_by transport (delivers p) deliver refl (v1, (is, (l0, (l1, tt)))) tt
    ((_, (_, refl, refl), (v1, (l0, tt))), ((_, (_, refl, refl), (v1, (l0, (is, tt)))), ((_, (_, refl, refl), (v1, (l1, tt))), ((_, (_, refl, refl), (v1, (l1, (is, tt)))), tt))))

ground_there : IsGroundMethod transport is_there
ground_there = ground_by transport is_there there refl (v1, (l0, tt)) tt ((_, (_, refl, refl), (v1, (l0, tt))), tt)

pub front : IsFront (network transport) (top_work transport) tree order
front = record {
  grown = (ground_start, refl, ((ground_delivers 5 p1, refl, ((ground_there, refl, (tt, tt)), (tt, (tt, (tt, tt))))), ((ground_delivers 6 p2, refl, (tt, (tt, (tt, (tt, tt))))), (tt, tt))));
  root = refl;
  schedule = (schedule_iff (network transport) before decides tree order).0 refl;
}

-- with the seven slots that it names
spelled : IsSpelling transport 7 steps tree order slot
spelled = subst (λ z. IsSpelling transport 7 z tree order slot) in_words (spelling_by transport 7 acts tree order slot front refl refl ((refl, refl, refl), ((refl, refl, refl), ((refl, refl, refl), ((refl, refl), ((refl, refl), ((refl, refl, refl), tt)))))))

-- v1 and p1 are at l0
v1_is_at_l0 : IsTrueIn Of (initial transport) (Holds (at 0 1)) (3 ∷ 0 ∷ [])
v1_is_at_l0 = from (λ i. truth-Holds Of (initial transport) (at 0 1) i (3 ∷ 0 ∷ [])) (4, omega arith, refl)

may_pick_up : IsTrueIn Of (initial transport) pick_up.pre (3 ∷ 0 ∷ 5 ∷ [])
may_pick_up = from (λ i. truth-And Of (initial transport) (Holds (at 0 1) ∷ Holds (at 2 1) ∷ []) i (3 ∷ 0 ∷ 5 ∷ []))
    (from (λ i. truth-Holds Of (initial transport) (at 0 1) i (3 ∷ 0 ∷ 5 ∷ [])) (4, omega arith, refl), (from (λ i. truth-Holds Of (initial transport) (at 2 1) i (3 ∷ 0 ∷ 5 ∷ [])) (6, omega arith, refl), tt))

pub executable : IsExecutableFront transport tree order
executable = record {
  front = front;
  executable = record {
    labels = used start ∷ used (delivers 5) ∷ used is_there ∷ ran (check 3 (3 ∷ 0 ∷ [])) ∷ ran (action 1 (3 ∷ 0 ∷ 5 ∷ [])) ∷ used (delivers 6) ∷ [];
    are_labels = (refl, (refl, (refl, (refl, (refl, (refl, tt))))));
    allowed = (λ t. untested t, (λ t. untested t, (λ t. untested t, (v1_is_at_l0, (may_pick_up, (λ t. untested t, tt))))));
  };
}
