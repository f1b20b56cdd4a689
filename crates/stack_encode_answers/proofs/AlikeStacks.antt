-- Trees that are the same but for their names have the same cells, and their steps as a stack are the same.
use Rattle.std.proofs.Common.{ℕ, ◌≡◌, ◌<◌, ◌+◌, ◌↔◌, ◌++◌, List, [], ◌∷◌, map, drop, length, Option, Some, None, slice_get, refl, ap, sym, subst, ◌∙◌, Contains}
use Rattle.htn_base.specs.Escapes.{slot_word}
use Rattle.plan_model.specs.declared.schemas.MethodPlan.{MethodPlan}
use Rattle.plan_model.specs.declared.steps.GroundAction.{GroundAction}
use Rattle.plan_model.specs.declared.values.Compiled.{Compiled}
use Rattle.plan_model.specs.Pairs.{Pairs}
use Rattle.plan_model.specs.task_networks.Net.{Net, count}
use Rattle.plan_model.specs.task_networks.Order.{Precedes, direct, through, IsReady, IsNext, IsLine, IsCut}
use Rattle.plan_model.specs.task_networks.Tree.{Tree, Label, waits, ran, used, Address, label_at}
use Rattle.plan_model.specs.task_networks.Spelling.{Act, run, apply}
use Rattle.plan_model.specs.plan_meaning.Network.{Work, check, GroundMethod, network, objects_of}
use Rattle.plan_model.specs.plan_meaning.SpelledPlan.{object_word, work_name, method_name}
use Rattle.renamed_networks.specs.Renamed.{AreSame, IsRenaming, SameLabel, SameTree}
use Rattle.renamed_networks.proofs.RenamedTrees.{flip, back}
use Rattle.renamed_networks.proofs.RenamedRuns.{SameAct, same-length}
use Rattle.schedules.proofs.latest.Counts.{found}
use Rattle.slot_encoding.proofs.places.ListPlaces.{contains_get}
use Rattle.stack_machine.specs.Stack.{behind, AreCells}
use Rattle.stack_encoding.specs.StackSpelling.{cells_of, stack_step}
use Rattle.stack_encoding.specs.TotalOrder.{IsOneAfterAnother, IsTotallyOrdered}
use Rattle.decode_answers.proofs.AlikeValues.{StandTogether, SamePlan, AreTwins, plan_place}
use Rattle.decode_answers.proofs.AlikeReaders.{Equal, twin, count_same, objects_same, step_same, act_twin}

-- lines go by the pairs alone
module _ (P Q : ℕ → ℕ → Type 0) (same : (i j : ℕ) → P i j ↔ Q i j) where
  precedes_to : (i j : ℕ) → Precedes P i j → Precedes Q i j
  precedes_to i j (direct p) = direct ((same i j).0 p)
  precedes_to i k (through {j} o p) = through (precedes_to i j o) ((same j k).0 p)

module _ (P Q : ℕ → ℕ → Type 0) (same : (i j : ℕ) → P i j ↔ Q i j) (n : ℕ) where
  ready_to : (listed : List ℕ) (i : ℕ) → IsReady P n listed i → IsReady Q n listed i
  ready_to listed i x = record {
    child = x.child;
    unlisted = x.unlisted;
    preceded = λ j q. x.preceded j (precedes_to Q P (λ k l. ((same k l).1, (same k l).0)) j i q);
  }

  ready_back : (listed : List ℕ) (i : ℕ) → IsReady Q n listed i → IsReady P n listed i
  ready_back listed i x = record {
    child = x.child;
    unlisted = x.unlisted;
    preceded = λ j q. x.preceded j (precedes_to P Q same j i q);
  }

  line_to : (line : List ℕ) → IsLine P n line → IsLine Q n line
  line_to line l = record {
    whole = l.whole;
    each = λ listed rest i e. record {
      ready = ready_to listed i (l.each listed rest i e).ready;
      least = λ j r. (l.each listed rest i e).least j (ready_back listed j r);
    };
  }

module _ (M N : Net) (W : M.Work → N.Work → Type 0) (G : M.Method → N.Method → Type 0) (r : IsRenaming M N W G) (t : Tree M) (u : Tree N)
    (s : SameTree M N W G t u) (cell : Address → ℕ) where
  pub cells_to : AreCells M t cell → AreCells N u cell
  cells_to x = record {
    root = x.root;
    children = λ p m i line e l less. (let k = back M N W G r t u s p (used m) e in child p m i line l less k.0 k.1 k.2);
  }
    where
      child : (p : Address) (m : N.Method) (i : ℕ) (line : List ℕ) → IsLine (N.Pair m) (count N m) line → i < count N m → (k : Label M)
          → label_at M t p ≡ Some k → SameLabel N M (flip W) (flip G) (used m) k → cell (i ∷ p) ≡ cell p + behind line i
      child p m i line l less (waits v) f y = absurd y
      child p m i line l less (ran v) f y = absurd y
      child p m i line l less (used g) f y =
          let many : count N m ≡ count M g = sym (same-length W (M.works g) (N.works m) (r.works g m y)) in
          let here = line_to (N.Pair m) (M.Pair g) (λ a b. ((r.pair g m y a b).1, (r.pair g m y a b).0)) (count N m) line l in
          x.children p g i line f (subst (λ n. IsLine (M.Pair g) n line) many here) (subst (λ n. i < n) many less)

module _ (c d : Compiled) (t : AreTwins c d) where
  -- the words of objects are those of a step of a check
  words_same : (os : List ℕ) → map (object_word c) os ≡ map (object_word d) os
  words_same os = ap (λ (a : GroundAction). drop 1 a.args) (step_same c d t (run 0 (check 0 os)))

  stack_step_same : (a : Act (network c)) → stack_step c a ≡ stack_step d (twin c d a)
  stack_step_same (run h w) =
      let n : work_name c w ≡ work_name d w = ap (λ (a : GroundAction). a.name) (step_same c d t (run h w)) in
      let os : map (object_word c) (objects_of c w) ≡ map (object_word d) (objects_of d w) = words_same (objects_of c w) ∙ ap (map (object_word d)) (objects_same c d t w) in
      λ i. record { name = n i; args = map slot_word (cells_of h 0) ++ os i }
  stack_step_same (apply h new g) =
      let n : method_name c g.number ≡ method_name d g.number = ap (λ (a : GroundAction). a.name) (step_same c d t (apply h new g)) in
      let os = words_same g.values in
      let k = count_same c d t g in
      λ i. record { name = n i; args = map slot_word (cells_of h (k i)) ++ os i }

  pub stack_steps_same : (acts : List (Act (network c))) (others : List (Act (network d))) → AreSame (SameAct (network c) (network d) Equal Equal) acts others
      → map (stack_step c) acts ≡ map (stack_step d) others
  stack_steps_same [] [] s = refl
  stack_steps_same (a ∷ acts) (e ∷ others) s =
      let f = stack_step_same a ∙ ap (stack_step d) (act_twin c d t a e s.0) in
      let g = stack_steps_same acts others s.1 in
      λ i. f i ∷ g i
  stack_steps_same [] (e ∷ others) s = absurd s
  stack_steps_same (a ∷ acts) [] s = absurd s

  -- the methods of both are totally ordered
  pub ordered_to : IsTotallyOrdered c → IsTotallyOrdered d
  ordered_to o q k = let (m, e) = contains_get d.methods q k in go m e (slice_get c.methods m) refl (slice_get d.methods m) e (plan_place c d t m)
    where
      go : (m : ℕ) → slice_get d.methods m ≡ Some q → (x : Option MethodPlan) → slice_get c.methods m ≡ x → (y : Option MethodPlan) → y ≡ Some q
          → StandTogether (SamePlan c d) x y → IsOneAfterAnother q
      go m e None f None g r = absurd cc
      go m e None f (Some z) g r = absurd r
      go m e (Some p) f None g r = absurd r
      go m e (Some p) f (Some z) g r =
          let same : z ≡ q = cc in
          let there = o p (found c.methods m p f) in
          let line = r.0.line in
          let pairs = ap (λ v. v.4.2) r.0.schema in
          let here : IsOneAfterAnother z = subst (λ (v : Type 0). v) (λ i. (k : ℕ) → k < length (line i) → IsCut (Pairs (pairs i)) (line i) k) there in
          subst IsOneAfterAnother same here
