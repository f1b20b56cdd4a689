-- Lists of seeds to which children are put.
use Rattle.std.proofs.Common.{ℕ, zero, suc, ◌≡◌, ◌+◌, ◌-◌, ◌<◌, ◌≤◌, inl, inr, ◌∙◌, List, [], ◌∷◌, ◌++◌, length, map, take, get_or, slice_get, Some, refl, ap, sym, append_assoc, append-nil, length-append, take_all, arith}
use Rattle.std.proofs.lemmas.Bool.{cases_lt}
use Rattle.std.proofs.lemmas.List.{length-take-le, map_more, take-append-le}
use Rattle.std.proofs.Math.Seq.{take-append-add}
use Rattle.htn_base.specs.Limits.{most_steps}
use Rattle.plan_trees.specs.declared.seed.Source.{Source}
use Rattle.plan_trees.specs.declared.seed.Seed.{Seed}
use Rattle.plan_trees.specs.Sources.{seeds, source_at, with_children}

pub length-seeds : (parent child : ℕ) (ss : List Source) → length (seeds parent child ss) ≡ length ss
length-seeds parent child [] = refl
length-seeds parent child (s ∷ ss) = ap suc (length-seeds parent (suc child) ss)

pub seeds-append : (parent child : ℕ) (ss ts : List Source)
    → seeds parent child (ss ++ ts) ≡ seeds parent child ss ++ seeds parent (child + length ss) ts
seeds-append parent child [] ts = ap (λ k. seeds parent k ts) (let x : child ≡ child + 0 = omega arith in x)
seeds-append parent child (s ∷ ss) ts =
    let r = seeds-append parent (suc child) ss ts in
    let e : suc child + length ss ≡ child + suc (length ss) = omega arith in
    let f = r ∙ ap (λ k. seeds parent (suc child) ss ++ seeds parent k ts) e in
    λ i. (record { source = s; parent = Some parent; child = child }) ∷ f i

-- the seed of a child
pub seed_at : (parent child : ℕ) (ss : List Source) (m : ℕ) (s : Seed) → slice_get (seeds parent child ss) m ≡ Some s
    → (s.parent ≡ Some parent) × (s.child ≡ child + m)
seed_at parent child [] m s e = absurd cc
seed_at parent child (x ∷ ss) zero s e =
    let first : Seed = record { source = x; parent = Some parent; child = child } in
    let f : first ≡ s = cc in
    (ap (λ (z : Seed). z.parent) (sym f), ap (λ (z : Seed). z.child) (sym f) ∙ (let y : child ≡ child + 0 = omega arith in y))
seed_at parent child (x ∷ ss) (suc m) s e =
    let r = seed_at parent (suc child) ss m s e in
    (r.0, r.1 ∙ (let y : suc child + m ≡ child + suc m = omega arith in y))

-- where there is room, all are put, and where there is none, nothing is
pub all_put : (old : List Seed) (parent child : ℕ) (ss : List Source) → length old + length ss ≤ most_steps
    → with_children old parent child ss ≡ old ++ seeds parent child ss
all_put old parent child ss l = ap (λ z. old ++ seeds parent child z) (take_all (most_steps - length old) ss (omega arith))

pub nothing_put : (old : List Seed) (parent child : ℕ) (ss : List Source) → most_steps ≤ length old
    → with_children old parent child ss ≡ old
nothing_put old parent child ss l =
    ap (λ k. old ++ seeds parent child (take k ss)) (let x : most_steps - length old ≡ 0 = omega arith in x) ∙ append-nil old

-- children that are put behind others
pub put_behind : (old : List Seed) (start parent : ℕ) (ss ts : List Source) → start ≤ length old → length old ≤ most_steps
    → with_children (with_children old parent (length old - start) ss) parent (length (with_children old parent (length old - start) ss) - start) ts
    ≡ with_children old parent (length old - start) (ss ++ ts)
put_behind old start parent ss ts l few = elim (cases_lt most_steps (length old + length ss)) [
  | inr m ↦ (
      let r = most_steps - length old in
      let mid = with_children old parent child ss in
      let all : mid ≡ old ++ seeds parent child ss = all_put old parent child ss m in
      let long : length mid ≡ length old + length ss = ap length all ∙ length-append old (seeds parent child ss)
      ∙ ap (λ k. length old + k) (length-seeds parent child ss) in
      let n : length mid - start ≡ child + length ss = omega arith in
      let k = most_steps - (length old + length ss) in
      let rest : r ≡ length ss + k = omega arith in
      (λ i. all i ++ seeds parent (n i) (take (most_steps - long i) ts))
      ∙ append_assoc old (seeds parent child ss) (seeds parent (child + length ss) (take k ts))
      ∙ ap (λ z. old ++ z) (sym (seeds-append parent child ss (take k ts)))
      ∙ ap (λ z. old ++ seeds parent child z) (sym (take-append-add ss ts k) ∙ ap (λ z. take z (ss ++ ts)) (sym rest)))
  | inl m ↦ (
      let r = most_steps - length old in
      let mid = with_children old parent child ss in
      let some = length-take-le r ss (omega arith) in
      let long : length mid ≡ most_steps = (let a = length-append old (seeds parent child (take r ss)) in let b = length-seeds parent child (take r ss) in omega arith) in
      nothing_put mid parent (length mid - start) ts (omega arith)
      ∙ ap (λ z. old ++ seeds parent child z) (sym (take-append-le r ss ts (omega arith))))
]
  where
    child : ℕ
    child = length old - start

-- one more line behind the first ones
pub one_more_line : (old now new : List Seed) (start parent primitives : ℕ) (places : List ℕ) (i d : ℕ) → start ≤ length old
    → length old ≤ most_steps
    → i < length places
    → now ≡ with_children old parent (length old - start) (map (source_at primitives) (take i places))
    → new ≡ with_children now parent (length now - start) (source_at primitives (get_or places i d) ∷ [])
    → new ≡ with_children old parent (length old - start) (map (source_at primitives) (take (i + 1) places))
one_more_line old now new start parent primitives places i d l few m e f =
    let first = map (source_at primitives) (take i places) in
    let x = source_at primitives (get_or places i d) in
    f ∙ ap (λ z. with_children z parent (length z - start) (x ∷ [])) e ∙ put_behind old start parent first (x ∷ []) l few
    ∙ ap (with_children old parent (length old - start)) (sym (map_more (source_at primitives) places i d m))

pub no_children : (old : List Seed) (parent child : ℕ) → with_children old parent child [] ≡ old
no_children old parent child =
    ap (λ z. old ++ seeds parent child z) (take_all (most_steps - length old) []
    (let x : 0 ≤ most_steps - length old = omega arith in x)) ∙ append-nil old

-- children of a parent that has none yet, in two parts
pub two_parts : (old now new : List Seed) (start parent : ℕ) (ss ts : List Source) → start ≡ length old → length old ≤ most_steps
    → now ≡ with_children old parent (length old - start) ss → new ≡ with_children now parent (length now - start) ts
    → new ≡ with_children old parent 0 (ss ++ ts)
two_parts old now new start parent ss ts same few e f =
    f ∙ ap (λ z. with_children z parent (length z - start) ts) e ∙ put_behind old start parent ss ts (omega arith) few
    ∙ ap (λ k. with_children old parent k (ss ++ ts)) (let x : length old - start ≡ 0 = omega arith in x)
