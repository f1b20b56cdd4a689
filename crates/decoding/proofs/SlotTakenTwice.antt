-- t -> a, b with one slot: the method's step names the slot that t has, so step 1 fails with SlotTaken.
use Rattle.std.proofs.Common.{ℕ, zero, suc, ◌≡◌, ◌<◌, ◌≤◌, ◌⊎◌, inl, inr, [], ◌∷◌, Some, refl, sym, subst, Contains, arith}
use Rattle.plan_model.specs.task_networks.Order.{Precedes, direct, through}
use Rattle.plan_model.specs.task_networks.Net.{Net}
use Rattle.plan_model.specs.task_networks.Lawful.{IsLawful}
use Rattle.plan_model.specs.task_networks.Tree.{open_leaf, waits, Address, IsAbove}
use Rattle.plan_model.specs.task_networks.Schedule.{Blocks}
use Rattle.plan_model.specs.task_networks.Spelling.{Act, apply}
use Rattle.slot_machine.proofs.LabelTrees.{leaf_only}
use Rattle.slot_machine.proofs.RunSpellings.{spells_none}
use Rattle.slot_machine.specs.Reached.{HasLeaf}
use Rattle.decoding.specs.declared.causes.Why.{Why}
use Rattle.decoding.specs.declared.causes.Why.TheVariants.{UnknownAction, Arguments, SlotHolds, Waiting, SlotTaken, Constraint, Precondition, Unfinished, GoalFalse}
use Rattle.decoding.specs.FailingAct.{place, slot_in, work_in, IsFormed, Sentence, StepFails}

abbrev two : Net
two = record {
  Work = Unit {0};
  Method = Unit {0};
  head = λ m. tt;
  works = λ m. tt ∷ tt ∷ [];
  IsSimple = λ w. Unit {0};
  IsGround = λ m. Unit {0};
  Pair = λ m i j. ⊥;
  heir = λ m. Some 1;
  IsCopier = λ m i. i ≡ 0;
}

no_pair : (i j : ℕ) → Precedes (two.Pair tt) i j → ⊥
no_pair i j (direct h) = h
no_pair i j (through c h) = h

law : IsLawful two
law = record {
  pairs = λ m i j h. absurd h;
  acyclic = λ m i h. no_pair i i h;
  has_heir = λ m l. (1, refl);
  heir_is_child = λ m i e. (let f : 1 ≡ i = cc in omega arith);
  copier_is_child = λ m i e. omega arith;
  covered = λ m i l. inl (child i l);
}
  where
    child : (i : ℕ) → i < 2 → (Some 1 ≡ Some i) ⊎ (i ≡ 0)
    child zero l = inr refl
    child (suc zero) l = inl refl
    child (suc (suc i)) l = absurd (omega arith)

abbrev State : Type 1
State = Unit {0} → Type 0

abbrev step : Act two
step = apply 1 (1 ∷ []) tt

abbrev Reads : ℕ → Act two → Act two → Type 0
Reads b s a = (s ≡ a) × IsFormed two b a

formed : IsFormed two 1 step
formed = record { slot = (omega arith, omega arith); new = λ x c. new x c; form = refl }
  where
    new : (x : ℕ) → Contains (1 ∷ []) x → (1 ≤ x) × (x ≤ 1)
    new x (zero, l, e) = (omega arith, omega arith)
    new x (suc k, l, e) = absurd (omega arith)

abbrev Fails : ℕ → Why → Type 0
Fails n why = StepFails two State (λ S l. Unit {0}) (λ S l. S) (Act two) (λ s. Unit {0}) Reads tt (λ x. Unit {0}) 1 (step ∷ []) n why

slot_is_taken : Fails 1 SlotTaken
slot_is_taken = record {
  before = [];
  step = step;
  rest = [];
  parts = refl;
  place = refl;
  tree = open_leaf tt;
  order = [];
  slot = λ p. 1;
  reached = record { acts = []; read = tt; spells = spells_none two law 1 tt (omega arith); executable = record { labels = []; are_labels = tt; allowed = tt } };
  fails = ((step, (refl, formed), inl ([], (tt, refl), (0, omega arith, refl))), earlier);
}
  where
    nothing_before : (p c u : Address) → p ≡ [] → IsAbove c p → Blocks two (open_leaf tt) u c → ⊥
    nothing_before p c u e a b = let x : c ≡ [] = subst (IsAbove c) e a in let y : Blocks two (open_leaf tt) u [] = subst (Blocks two (open_leaf tt) u) x b in y

    earlier : (c : Why) → place c < 4 → Sentence two State (λ S l. Unit {0}) (λ S l. S) (Act two) (λ s. Unit {0}) Reads 1 (open_leaf tt) (λ p. 1) (λ x. Unit {0}) step c → ⊥
    earlier UnknownAction l s = s tt
    earlier Arguments l s = s step (refl, formed)
    earlier SlotHolds l (a, r, n) = (let z : HasLeaf two (open_leaf tt) (λ p. 1) (slot_in two step) (work_in two step) → ⊥ = subst (λ (x : Act two). HasLeaf two (open_leaf tt) (λ p. 1) (slot_in two x) (work_in two x) → ⊥) (sym r.0) n in z ([], refl, refl))
    earlier Waiting l (a, r, (p, o, e, (u, ou, (c, ab, bl)))) = nothing_before p c u (leaf_only two tt (waits o.0) p o.1).0 ab bl
    earlier SlotTaken l s = absurd (omega arith)
    earlier Constraint l s = absurd (omega arith)
    earlier Precondition l s = absurd (omega arith)
    earlier Unfinished l s = absurd (omega arith)
    earlier GoalFalse l s = absurd (omega arith)
