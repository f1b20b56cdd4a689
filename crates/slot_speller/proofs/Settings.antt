-- What is kept of slots, by the rows of a tree that is spelled with the lowest ones.
use Rattle.std.proofs.Common.{ℕ, zero, suc, ◌≡◌, ◌+◌, ◌<◌, ◌≤◌, List, [], ◌∷◌, ◌++◌, length, take, set, Option, Some, None, option_map}
use Rattle.std.proofs.Common.{slice_get, slice_index, refl, ap, sym, subst, ◌∙◌, arith}
use Rattle.std.specs.Option.{option_and_then, option_map_or}
use Rattle.std.proofs.lemmas.List.{length-map}
use Rattle.plan_model.specs.declared.schemas.MethodPlan.{MethodPlan}
use Rattle.plan_model.specs.declared.values.Compiled.{Compiled}
use Rattle.plan_model.specs.task_networks.Net.{count}
use Rattle.plan_model.specs.task_networks.Tree.{Tree, Label, waits, ran, used, Address, label_at, IsAddress}
use Rattle.plan_model.specs.task_networks.Preorder.{preorder}
use Rattle.plan_model.specs.plan_meaning.Network.{GroundMethod, subtasks_of, child_of, network}
use Rattle.plan_model.specs.plan_meaning.Solution.{top_work}
use Rattle.plan_model.proofs.task_networks.OtherChildren.{rest_cases}
use Rattle.plan_model.proofs.task_networks.PendingSteps.{was_pending}
use Rattle.tree_core.specs.declared.growth.Scheduled.{Scheduled}
use Rattle.tree_core.specs.Tables.{Row, table}
use Rattle.tree_core.specs.Labels.{labels, labelled, labelled_node}
use Rattle.tree_core.specs.Runs.{label_in, AreAt, StandsFor}
use Rattle.tree_core.proofs.Labelled.{preorder-labelled}
use Rattle.tree_core.proofs.Siblings.{as_many as as_many_rows}
use Rattle.slot_speller.specs.declared.free.Free.{Free}
use Rattle.slot_speller.specs.declared.slots.Slots.{Slots}
use Rattle.slot_speller.specs.Free.{IsSound, Takes, Gives}
use Rattle.slot_speller.specs.Children.{child_in, plan_by}
use Rattle.slot_speller.specs.Slots.{Keeps, HasUpTo, IsSetting, IsKept, IsKeptUpTo, AreFirst, AreSlotsOf, Plants, TakesNode}
use Rattle.schedules.specs.ruled.LowestSlots.{IsFreeFor}
use Rattle.slot_speller.proofs.ChildRows as rows_of
use Rattle.slot_speller.proofs.Keeping as keeping

module _ (rows : List (Row labels)) (k own heir : ℕ) (start : Slots) where
  -- no child has its slot yet
  pub planted_none : Plants rows k own heir 0 start start
  planted_none = record { keeps = λ c tree order slot taken rest p m s e at_k l h few same kept. kept }

  module _ (n : ℕ) (before after : Slots) (so_far : Plants rows k own heir n start before) (child : ℕ)
      (is : child ≡ child_in rows k n) where
    stands : (c : Compiled) (tree : Tree (network c)) (order : List Address) (slot : Address → ℕ) (p : Address) (m : (network c).Method)
        → IsSetting c rows tree order slot → slice_get (preorder (network c) tree) k ≡ Some p → label_at (network c) tree p ≡ Some (used m)
        → n < count (network c) m → slice_get (preorder (network c) tree) child ≡ Some (n ∷ p)
    stands c tree order slot p m s at_k l less =
        let f : child ≡ child_in (table labels (labelled c tree)) k n = is ∙ ap (λ (r : List (Row labels)). child_in r k n) s.rows_are in
        subst (λ z. slice_get (preorder (network c) tree) z ≡ Some (n ∷ p)) (sym f)
        (rows_of.child_stands c tree s.lowest.spells.front.grown k p at_k m l n less)

    -- the next child has its slot, and what is free is this
    becomes : (c : Compiled) (tree : Tree (network c)) (slot : Address → ℕ) (taken : List Address) (p : Address) (m : (network c).Method)
        (own : ℕ) (free : Free) → after.by_node.items ≡ set before.by_node.items child own → after.free ≡ free
        → Keeps (network c) tree slot (HasUpTo (network c) tree slot taken p (suc n)) (IsFreeFor (network c) tree slot taken p m (suc n))
        (set before.by_node.items child own) free
        → IsKeptUpTo (network c) tree slot taken p m (n + 1) after
    becomes c tree slot taken p m own free nodes is_free kept =
        let f = subst (λ z. Keeps (network c) tree slot (HasUpTo (network c) tree slot taken p z)
        (IsFreeFor (network c) tree slot taken p m z) (set before.by_node.items child own) free)
        (let z : suc n ≡ n + 1 = omega arith in z) kept in
        let g = subst (λ z. Keeps (network c) tree slot (HasUpTo (network c) tree slot taken p (n + 1))
        (IsFreeFor (network c) tree slot taken p m (n + 1)) z free) (sym nodes) f in
        subst (λ z. Keeps (network c) tree slot (HasUpTo (network c) tree slot taken p (n + 1))
        (IsFreeFor (network c) tree slot taken p m (n + 1)) after.by_node.items z) (sym is_free) g

    -- the heir is next
    pub planted_heir : n ≡ heir → after.by_node.items ≡ set before.by_node.items child own → after.free ≡ before.free
        → Plants rows k own heir (n + 1) start after
    planted_heir is_heir nodes free = record {
      keeps = λ c tree order slot taken rest p m s e at_k l h few same kept. (
          let k_now = so_far.keeps c tree order slot taken rest p m s e at_k l h (omega arith) same kept in
          let at_n = stands c tree order slot p m s at_k l (omega arith) in
          becomes c tree slot taken p m own before.free nodes free
          (keeping.kept_heir (network c) s.lawful s.b
          (top_work c) s.acts tree order slot s.lowest taken rest p e m l n before.by_node.items before.free child at_n k_now own same
          (h ∙ ap Some (sym is_heir))));
    }

    -- another child is next, and takes the lowest free slot
    pub planted_other : (n ≡ heir → ⊥) → (x : ℕ) (left : Free) → (IsSound before.free → Takes before.free x left)
        → after.by_node.items ≡ set before.by_node.items child x → after.free ≡ left
        → Plants rows k own heir (n + 1) start after
    planted_other is_other x left takes nodes free = record {
      keeps = λ c tree order slot taken rest p m s e at_k l h few same kept. (
          let k_now = so_far.keeps c tree order slot taken rest p m s e at_k l h (omega arith) same kept in
          let at_n = stands c tree order slot p m s at_k l (omega arith) in
          let other = (rest_cases ((network c).heir m) (count (network c) m) n).1
          (omega arith, λ f. is_other (let z : Some heir ≡ Some n = sym h ∙ f in cc)) in
          becomes c tree slot taken p m x left nodes free
          (keeping.kept_other (network c) s.lawful s.b
          (top_work c) s.acts tree order slot s.lowest taken rest p e m l n before.by_node.items before.free child at_n k_now x left
          (takes k_now.sound) other));
    }

module _ (c : Compiled) (rows : List (Row labels)) (k : ℕ) (old : Slots) (x : ℕ) (held : x ≡ slice_index old.by_node.items k) where
  module _ (tree : Tree (network c)) (order : List Address) (slot : Address → ℕ) (s : IsSetting c rows tree order slot) (p : Address)
      (at_k : slice_get (preorder (network c) tree) k ≡ Some p) where
    same_label : label_in rows k ≡ label_in (table labels (labelled c tree)) k
    same_label = ap (λ (r : List (Row labels)). label_in r k) s.rows_are

    -- a node that is decomposed
    used_by : (plan : MethodPlan) → plan_by c (label_in rows k) ≡ Some plan
        → (m : GroundMethod) × (label_at (network c) tree p ≡ Some (used m)) × (slice_get c.methods m.number ≡ Some plan)
    used_by plan e = go (rows_of.address_at c tree k p at_k)
      where
        go : IsAddress (network c) tree p
            → (m : GroundMethod) × (label_at (network c) tree p ≡ Some (used m)) × (slice_get c.methods m.number ≡ Some plan)
        go (waits w, l) = let f = ap (plan_by c) (same_label ∙ rows_of.node_label c tree k p at_k
            ∙ ap (option_map (labelled_node c)) l) in let g : None ≡ Some plan = sym f ∙ e in absurd cc
        go (ran w, l) = let f = ap (plan_by c) (same_label ∙ rows_of.node_label c tree k p at_k ∙ ap (option_map (labelled_node c)) l) in
            let g : None ≡ Some plan = sym f ∙ e in absurd cc
        go (used m, l) = (m, l, sym (rows_of.plan_of_node c tree k p m at_k l) ∙ sym (ap (plan_by c) same_label) ∙ e)

  -- a node without children gives its slot back
  pub takes_childless : (free : Free) → option_and_then (λ (plan : MethodPlan). plan.heir) (plan_by c (label_in rows k)) ≡ None
      → Gives old.free x free
      → TakesNode c rows k old (record { by_node = old.by_node; free = free })
  takes_childless free none g = record {
    keeps = λ tree order slot taken rest p s e at_k kept. (
        let same = kept.known k p at_k (was_pending (network c) tree order s.lowest.spells.front.schedule taken rest p e).begun in
        let no_heir = ap (λ (o : Option (Label labels)). option_and_then (λ (plan : MethodPlan). plan.heir) (plan_by c o))
        (sym (same_label tree order slot s p at_k)) ∙ none in
        keeping.kept_childless (network c) s.lawful s.b (top_work c) s.acts tree order slot s.lowest taken rest p e
        (rows_of.childless c tree s.lawful s.lowest.spells.front.grown k p at_k no_heir)
        old.by_node.items old.free free x kept (held ∙ same) g);
  }

  -- the children of one that is decomposed get their slots
  pub takes_planted : (new : Slots) (plan : MethodPlan) (heir : ℕ) → plan_by c (label_in rows k) ≡ Some plan → plan.heir ≡ Some heir
      → Plants rows k x heir (length plan.schema.children) old new → TakesNode c rows k old new
  takes_planted new plan heir is_plan is_heir planted = record {
    keeps = λ tree order slot taken rest p s e at_k kept. (
        let same = kept.known k p at_k (was_pending (network c) tree order s.lowest.spells.front.schedule taken rest p e).begun in
        let (m, l, is) = used_by tree order slot s p at_k plan is_plan in
        let h : (network c).heir m ≡ Some heir = ap (option_and_then (λ (z : MethodPlan). z.heir)) is ∙ is_heir in
        let many : count (network c) m ≡ length plan.schema.children = ap
        (λ (o : Option MethodPlan). length (option_map_or (subtasks_of m) o [])) is ∙ length-map plan.schema.children (child_of m) in
        let some = s.lawful.heir_is_child m heir h in
        let begin = keeping.kept_begin (network c) s.lawful s.b
        (top_work c) s.acts tree order slot s.lowest taken rest p e m l old.by_node.items old.free kept in
        let all = planted.keeps c tree order slot taken rest p m s e at_k l h (omega arith) (held ∙ same) begin in
        keeping.kept_end (network c) s.lawful s.b (top_work c) s.acts tree order slot s.lowest taken rest p e m l
        (length plan.schema.children) (sym many) (omega arith) new.by_node.items new.free all);
  }

-- these are kept when the first n nodes of the run are taken
pub record KeepsFirst (c : Compiled) (run : Scheduled) (n : ℕ) (slots : Slots) : Type 0 where
  pub keeps : (tree : Tree (network c)) (order : List Address) (slot : Address → ℕ) → StandsFor c run tree order
      → IsSetting c run.tree tree order slot → IsKept (network c) tree slot (take n order) slots

same_place : (nodes : List Address) (ks : List ℕ) (ps : List Address) (n k : ℕ) → AreAt nodes ks ps → slice_get ks n ≡ Some k
    → (p : Address) × (slice_get ps n ≡ Some p) × (slice_get nodes k ≡ Some p)
same_place nodes [] [] n k a e = absurd cc
same_place nodes (j ∷ ks) (p ∷ ps) zero k a e = (p, refl, ap (slice_get nodes) (let f : k ≡ j = cc in f) ∙ a.0)
same_place nodes (j ∷ ks) (p ∷ ps) (suc n) k a e = same_place nodes ks ps n k a.1 e
same_place nodes [] (p ∷ ps) n k a e = absurd a
same_place nodes (j ∷ ks) [] n k a e = absurd a

pub as_many : (nodes : List Address) (ks : List ℕ) (ps : List Address) → AreAt nodes ks ps → length ks ≡ length ps
as_many nodes [] [] a = refl
as_many nodes (k ∷ ks) (p ∷ ps) a = ap suc (as_many nodes ks ps a.1)
as_many nodes [] (p ∷ ps) a = absurd a
as_many nodes (k ∷ ks) [] a = absurd a

cut_at_place : {A : Type 0} (xs : List A) (n : ℕ) (x : A) → slice_get xs n ≡ Some x
    → (rest : List A) × (xs ≡ take n xs ++ x ∷ rest) × (take (suc n) xs ≡ take n xs ++ x ∷ [])
cut_at_place [] n x e = absurd cc
cut_at_place (y ∷ xs) zero x e = let f : y ≡ x = cc in (xs, ap (λ z. z ∷ xs) f, ap (λ z. z ∷ []) f)
cut_at_place (y ∷ xs) (suc n) x e = let h = cut_at_place xs n x e in (h.0, ap (λ v. y ∷ v) h.1, ap (λ v. y ∷ v) h.2)

take_all : {A : Type 0} (xs : List A) (n : ℕ) → length xs ≤ n → take n xs ≡ xs
take_all [] zero l = refl
take_all [] (suc n) l = refl
take_all (x ∷ xs) zero l = absurd (omega arith)
take_all (x ∷ xs) (suc n) l = ap (λ v. x ∷ v) (take_all xs n (omega arith))

module _ (c : Compiled) (run : Scheduled) where
  pub keeps_none : (size : ℕ) (slots : Slots) → size ≡ length run.tree → AreFirst size slots → KeepsFirst c run 0 slots
  keeps_none size slots many first = record {
    keeps = λ tree order slot stands s. (
        let e : size ≡ length (preorder (network c) tree) = many ∙ ap length s.rows_are ∙ as_many_rows labels (labelled c tree)
        ∙ ap length (preorder-labelled c tree) in
        keeping.kept_first (network c) s.lawful s.b (top_work c) s.acts tree order slot s.lowest slots
        (subst (λ z. AreFirst z slots) e first));
  }

  pub keeps_more : (n k : ℕ) (old new : Slots) → slice_get run.order n ≡ Some k → KeepsFirst c run n old → TakesNode c run.tree k old new
      → KeepsFirst c run (n + 1) new
  keeps_more n k old new at_n so_far takes = record {
    keeps = λ tree order slot stands s. (
        let (p, f, g) = same_place (preorder (network c) tree) run.order order n k stands.places at_n in
        let (rest, parts, next) = cut_at_place order n p f in
        let more = ap (λ z. take z order) (let z : n + 1 ≡ suc n = omega arith in z) ∙ next in
        subst (λ z. IsKept (network c) tree slot z new) (sym more)
        (takes.keeps tree order slot (take n order) rest p s parts g (so_far.keeps tree order slot stands s)));
  }

  pub keeps_all : (n : ℕ) (slots : Slots) → length run.order ≤ n → KeepsFirst c run n slots → AreSlotsOf c run slots
  keeps_all n slots l so_far = record {
    keeps = λ tree order slot stands s. (
        let many = as_many (preorder (network c) tree) run.order order stands.places in
        subst (λ z. IsKept (network c) tree slot z slots) (take_all order n (omega arith)) (so_far.keeps tree order slot stands s));
  }
