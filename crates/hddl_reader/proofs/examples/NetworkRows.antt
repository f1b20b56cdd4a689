-- A network with each fault, and one without: ids, cycles, too many subtasks.
use Rattle.std.proofs.Common.{ℕ, zero, suc, ◌≡◌, inl, inr, true, List, [], ◌∷◌, Some, None, codes, slice_get, refl, sym, subst, arith}
use Rattle.hddl_reader.specs.declared.networks.RawNet.{RawNet}
use Rattle.hddl_reader.specs.declared.networks.RawPair.{RawPair}
use Rattle.hddl_reader.specs.declared.networks.RawSub.{RawSub}
use Rattle.std.proofs.lemmas.Option.{slice_get_within}
use Rattle.htn_base.specs.Limits.{most_subtasks}
use Rattle.plan_model.specs.task_networks.Order.{Precedes, direct, through}
use Rattle.htn_base.specs.Lists.{One}
use Rattle.hddl_reader.specs.names.Words.{WordAt, IsSecond}
use Rattle.hddl_reader.specs.names.Networks.{id_at, ids, IsSubtask, IsOrdered, ClosesOrder, UnknownSubtaskId, CyclicOrder, TooManySubtasks}
use Rattle.hddl_reader.proofs.names.Firsts.{unknown_ids_close_none, same_id}
use Rattle.hddl_reader.proofs.examples.Values.{table, word, atom, no_net, is_first, is_second, first_of_one}

-- (a (c)) at 10, (b (c)) at 20
abbrev sub_a : RawSub
sub_a = record { id = Some (word 1 11); atom = atom 3 14 []; at = 10 }

abbrev sub_b : RawSub
sub_b = record { id = Some (word 2 21); atom = atom 3 24 []; at = 20 }

abbrev net : RawNet
net = record no_net { subs = sub_a ∷ sub_b ∷ [] }

-- the two subtasks with these pairs
abbrev paired : List RawPair → RawNet
paired pairs = record net { pairs = pairs }

-- 10: an id twice
id_has_10 : IsSecond [] (ids table (sub_a ∷ record sub_b { id = Some (word 1 21) } ∷ [])) 21
id_has_10 = inr (inl (refl, inr (inl (refl, omega arith))))

one_id_has_none : (at : ℕ) → IsSecond [] (ids table (sub_a ∷ record sub_b { id = None } ∷ [])) at → ⊥
one_id_has_none at (inl (e, inl none)) = none
one_id_has_none at (inl (e, inr (inl (w, l)))) = omega arith
one_id_has_none at (inl (e, inr (inr none))) = none
one_id_has_none at (inr none) = none

-- 19: (< a c)
abbrev unknown : RawPair
unknown = record { first = word 1 43; then = word 3 45; at = 40 }

c_is_unknown : One (λ (s : RawSub). One (λ (x : WordAt). x.word ≡ codes "c") (id_at table s.id)) (sub_a ∷ sub_b ∷ []) → ⊥
c_is_unknown (inl (inl e)) = grind arith
c_is_unknown (inl (inr none)) = none
c_is_unknown (inr (inl (inl e))) = grind arith
c_is_unknown (inr (inl (inr none))) = none
c_is_unknown (inr (inr none)) = none

id_has_19 : UnknownSubtaskId table (paired (unknown ∷ [])) 45
id_has_19 = inl (inr (refl, c_is_unknown))

-- (< a b) and (< b a)
abbrev a_then_b : RawPair
a_then_b = record { first = word 1 43; then = word 2 45; at = 40 }

abbrev b_then_a : RawPair
b_then_a = record { first = word 2 53; then = word 1 55; at = 50 }

abbrev circle : RawNet
circle = paired (a_then_b ∷ b_then_a ∷ [])

known_ids_have_none : (at : ℕ) → UnknownSubtaskId table circle at → ⊥
known_ids_have_none at (inl (inl (e, lacks))) = lacks (inl (inl refl))
known_ids_have_none at (inl (inr (e, lacks))) = lacks (inr (inl (inl refl)))
known_ids_have_none at (inr (inl (inl (e, lacks)))) = lacks (inr (inl (inl refl)))
known_ids_have_none at (inr (inl (inr (e, lacks)))) = lacks (inl (inl refl))
known_ids_have_none at (inr (inr none)) = none

-- the first subtask with an id
is_a : (n : RawNet) (at : ℕ) → n.subs ≡ sub_a ∷ sub_b ∷ [] → IsSubtask table n (word 1 at) 0
is_a n at e = record { front = []; sub = sub_a; rest = sub_b ∷ []; parts = e; number = refl; has_id = inl refl; none_before = λ none. none }

is_b : (n : RawNet) (at : ℕ) → n.subs ≡ sub_a ∷ sub_b ∷ [] → IsSubtask table n (word 2 at) 1
is_b n at e = record { front = sub_a ∷ []; sub = sub_b; rest = []; parts = e; number = refl; has_id = inl refl; none_before = lacks }
  where
    lacks : One (λ s. One (λ x. x.word ≡ codes "b") (id_at table s.id)) (sub_a ∷ []) → ⊥
    lacks (inl (inl e)) = grind arith
    lacks (inl (inr none)) = none
    lacks (inr none) = none

-- 20: in an ordered network (< b a) closes a cycle with the chain
abbrev chained : RawNet
chained = record net { ordered = true; pairs = b_then_a ∷ [] }

chain_has_20 : CyclicOrder table chained 50
chain_has_20 = (
  omega arith,
  (
    b_then_a,
    refl,
    is_first (ClosesOrder table chained) b_then_a []
        (1, 0, (is_b chained 53 refl, is_a chained 55 refl), inr (direct (inl (refl, refl, omega arith)))),
  ),
)

-- and (< b a) with (< a b)
nothing_leads : (pairs : List RawPair) (i j : ℕ) → Precedes (IsOrdered table (paired pairs) []) i j → ⊥
nothing_leads pairs i j (direct (inl c)) = grind arith
nothing_leads pairs i j (direct (inr none)) = none
nothing_leads pairs i j (through chain (inl c)) = let e = c.0 in grind arith
nothing_leads pairs i j (through chain (inr none)) = none

first_closes_none : (pairs : List RawPair) → ClosesOrder table (paired pairs) [] a_then_b → ⊥
first_closes_none pairs (i, j, ends, inl e) = apart (same_id table (paired pairs) (word 1 43) (word 2 45) i ends.0 (subst (IsSubtask table (paired pairs) (word 2 45)) (sym e) ends.1))
  where
    apart : codes "a" ≡ codes "b" → ⊥
    apart e = grind arith
first_closes_none pairs (i, j, ends, inr chain) = nothing_leads pairs j i chain

circle_has_20 : CyclicOrder table circle 50
circle_has_20 = (
  omega arith,
  (
    b_then_a,
    refl,
    is_second (ClosesOrder table circle) a_then_b b_then_a []
        (1, 0, (is_b circle 53 refl, is_a circle 55 refl), inr (direct (inr (inl (is_a circle 43 refl, is_b circle 45 refl))))) (first_closes_none (a_then_b ∷ b_then_a ∷ [])),
  ),
)

one_pair_has_none : (at : ℕ) → CyclicOrder table (paired (a_then_b ∷ [])) at → ⊥
one_pair_has_none at c = first_closes_none (a_then_b ∷ []) (first_of_one (ClosesOrder table (paired (a_then_b ∷ []))) a_then_b c.1.0 c.1.2)

-- a pair with an unknown id closes none
left_out : (earlier : List RawPair) → ClosesOrder table (paired (unknown ∷ [])) earlier unknown → ⊥
left_out earlier = unknown_ids_close_none table (paired (unknown ∷ [])) earlier unknown 45 (inr (refl, c_is_unknown))

-- 21, past 4,096 others
many : ℕ → List RawSub
many zero = sub_b ∷ []
many (suc k) = sub_a ∷ many k

last_of_many : (k : ℕ) → slice_get (many k) k ≡ Some sub_b
unfolding many
last_of_many zero = refl
last_of_many (suc k) = last_of_many k

subtask_has_21 : TooManySubtasks (record net { subs = many 4096 }) 20
subtask_has_21 = (sub_b, last_of_many 4096, refl)

two_have_none : (at : ℕ) → TooManySubtasks net at → ⊥
two_have_none at x = let past = slice_get_within net.subs most_subtasks x.0 x.1 in omega arith
