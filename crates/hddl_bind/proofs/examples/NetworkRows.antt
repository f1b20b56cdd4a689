-- Rows of networks, by the numbers of names: ids, pairs, cycles, the limit, and a whole network.
use Rattle.std.proofs.Common.{ℕ, zero, suc, ◌≡◌, inl, inr, true, false, List, [], ◌∷◌, ◌++◌, Some, None, slice_get, refl, ap, sym, arith}
use Rattle.plan_model.specs.declared.networks.Pair.{Pair}
use Rattle.plan_model.specs.Pairs.{pair, Pairs}
use Rattle.plan_model.specs.declared.networks.Head.TheVariants.{Task, Action}
use Rattle.plan_model.specs.declared.terms.Term.TheVariants.{Var, Obj}
use Rattle.plan_model.specs.task_networks.Order.{Precedes, direct, through, IsAcyclic}
use Rattle.plan_model.proofs.task_networks.Lists.{head_or_tail, not-in_empty}
use Rattle.hddl_reader.specs.declared.networks.RawNet.{RawNet}
use Rattle.hddl_reader.specs.declared.networks.RawPair.{RawPair}
use Rattle.hddl_reader.specs.declared.networks.RawSub.{RawSub}
use Rattle.name_binding.specs.Spots.{spot, noted}
use Rattle.hddl_bind.specs.Ids.{second_ids, subtask_of}
use Rattle.hddl_bind.specs.Pairs.{first_of, second_of, pairs_bound, pair_faults}
use Rattle.hddl_bind.specs.Cycle.{IsCycle, limit_faults}
use Rattle.hddl_bind.specs.Networks.{network_bound, network_faults}
use Rattle.hddl_bind.proofs.Closing.{no_closing}
use Rattle.hddl_bind.proofs.Cycles.{no_cycle}
use Rattle.hddl_bind.proofs.examples.Values.{name, word, variable, atom, no_net}
use Rattle.hddl_bind.proofs.examples.CallRows.{domain}

-- (1 (3 ?6)) at 10, (2 (4)) at 20, (5) at 30
abbrev sub_1 : RawSub
sub_1 = record { id = Some (word 1 11); atom = atom 3 14 (variable 6 16 ∷ []); at = 10 }

abbrev sub_2 : RawSub
sub_2 = record { id = Some (word 2 21); atom = atom 4 24 []; at = 20 }

abbrev sub_3 : RawSub
sub_3 = record { id = None; atom = atom 5 31 []; at = 30 }

abbrev net : RawNet
net = record no_net { subs = sub_3 ∷ sub_1 ∷ sub_2 ∷ [] }

-- (< 1 2) at 40, (< 2 1) at 50, (< 1 9) at 60
abbrev one_then_two : RawPair
one_then_two = record { first = word 1 43; then = word 2 45; at = 40 }

abbrev two_then_one : RawPair
two_then_one = record { first = word 2 53; then = word 1 55; at = 50 }

abbrev unknown : RawPair
unknown = record { first = word 1 63; then = word 9 65; at = 60 }

-- an id stands for its first subtask, and a second one is a fault
of_id_2 : subtask_of 2 net.subs ≡ Some 2
of_id_2 = refl

of_id_9 : subtask_of 9 net.subs ≡ None
of_id_9 = refl

abbrev ids_twice : List RawSub
ids_twice = sub_1 ∷ record sub_2 { id = Some (word 1 21) } ∷ []

of_the_first : subtask_of 1 ids_twice ≡ Some 0
of_the_first = refl

id_has_10 : second_ids ids_twice ≡ spot 21 10 ∷ []
id_has_10 = refl

-- an unknown id is a fault, and its pair is left out
id_has_19 : pair_faults net.subs unknown ≡ spot 65 19 ∷ []
id_has_19 = refl

left_out : pairs_bound (record net { pairs = unknown ∷ one_then_two ∷ [] }) ≡ pair 1 2 ∷ []
left_out = refl

-- the chain stands in front of the written pairs
chain_first : pairs_bound (record net { ordered = true; pairs = two_then_one ∷ [] }) ≡ pair 0 1 ∷ pair 1 2 ∷ pair 2 1 ∷ []
chain_first = refl

-- 20: in an ordered network (< 2 1) closes a cycle with the chain
abbrev chained : RawNet
chained = record net { ordered = true; pairs = two_then_one ∷ [] }

not_there : (y : RawPair) (before behind : List RawPair) → [] ≡ before ++ y ∷ behind → ⊥
not_there y [] behind e = cc
not_there y (x ∷ before) behind e = cc

chain_has_20 : IsCycle chained (Some 50)
chain_has_20 = (
  omega arith,
  (
    two_then_one,
    refl,
    record {
      front = [];
      rest = [];
      parts = refl;
      is = (2, 1, (refl, refl), inr (direct (inl (refl, refl, omega arith))));
      none_before = λ before behind y e c. not_there y before behind e;
    },
  ),
)

-- and (< 2 1) behind (< 1 2), which closes none
abbrev circle : RawNet
circle = record net { pairs = one_then_two ∷ two_then_one ∷ [] }

is_step : (i j : ℕ) → Pairs (pair 1 2 ∷ []) i j → (i ≡ 1) × (j ≡ 2)
is_step i j h = elim (head_or_tail (pair 1 2) [] (pair i j) h) [
  | inl e ↦ (sym (ap (λ (p : Pair). p.first) e), sym (ap (λ (p : Pair). p.then) e))
  | inr t ↦ absurd (not-in_empty (pair i j) t)
]

only_step : (i j : ℕ) → Precedes (Pairs (pair 1 2 ∷ [])) i j → (i ≡ 1) × (j ≡ 2)
only_step i j (direct h) = is_step i j h
only_step i j (through {j = k} c h) = let a = (only_step i k c).1 in let b = (is_step k j h).0 in absurd (omega arith)

no_circle : IsAcyclic (Pairs (pair 1 2 ∷ []))
no_circle i c = let a = (only_step i i c).0 in let b = (only_step i i c).1 in omega arith

circle_has_20 : IsCycle circle (Some 50)
circle_has_20 = (
  omega arith,
  (
    two_then_one,
    refl,
    record {
      front = one_then_two ∷ [];
      rest = [];
      parts = refl;
      is = (2, 1, (refl, refl), inr (direct (inr (inl (refl, refl)))));
      none_before = λ before behind y e c. no_closing (first_of net.subs) (second_of net.subs) (λ x. x.at) false 3 (one_then_two ∷ []) before behind y e no_circle c;
    },
  ),
)

one_pair_has_none : IsCycle (record net { pairs = one_then_two ∷ [] }) None
one_pair_has_none = no_cycle (record net { pairs = one_then_two ∷ [] }) (pair 1 2 ∷ []) (40 ∷ []) refl refl no_circle

-- 21: the subtask past 4,096 others, and none past 4,095
many : ℕ → List RawSub
many zero = sub_2 ∷ []
many (suc k) = sub_1 ∷ many k

last_of_many : (k : ℕ) → slice_get (many k) k ≡ Some sub_2
unfolding many
last_of_many zero = refl
last_of_many (suc k) = last_of_many k

none_past : (k : ℕ) → slice_get (many k) (suc k) ≡ None
unfolding many
none_past zero = refl
none_past (suc k) = none_past k

subtask_has_21 : limit_faults (many 4096) ≡ spot 20 21 ∷ []
subtask_has_21 = rw (last_of_many 4096) refl

most_have_none : limit_faults (many 4095) ≡ []
most_have_none = rw (none_past 4095) refl

-- a whole network, where object 8 is the first and ?6 the first variable: its value, and of two faults the least
abbrev whole : RawNet
whole = record net {
  ordered = true;
  constraints = record { equal = false; left = variable 6 83; right = word 8 86 } ∷ [];
}

value_of_whole : network_bound domain (8 ∷ []) (6 ∷ []) whole ≡ record {
  children =
      record { id = None; head = Task 1; args = [] } ∷ record { id = Some (name 1); head = Task 0; args = Var 0 ∷ [] }
      ∷ record { id = Some (name 2); head = Action 0; args = [] } ∷ [];
  pairs = pair 0 1 ∷ pair 1 2 ∷ [];
  constraints = record { equal = false; left = Var 0; right = Obj 0 } ∷ [];
}
value_of_whole = refl

no_fault : network_faults domain (8 ∷ []) (6 ∷ []) whole None ≡ []
no_fault = refl

least_of_two : noted None (network_faults domain [] [] whole None) ≡ Some (spot 16 16)
least_of_two = refl
