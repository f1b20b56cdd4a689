-- What the tests of a step say, done in the order of the causes.
use Rattle.std.proofs.Common.{ℕ, ◌<◌, inr, map}
use Rattle.htn_base.specs.Different.{AreDifferent}
use Rattle.plan_model.specs.task_networks.Net.{Net}
use Rattle.plan_model.specs.task_networks.Tree.{Tree, Label, Address}
use Rattle.plan_model.specs.task_networks.Executable.{last_state}
use Rattle.plan_model.specs.task_networks.Spelling.{Act, label_of}
use Rattle.slot_machine.specs.Reached.{HasLeaf}
use Rattle.slot_machine.specs.Causes.{Can}
use Rattle.decoding.specs.declared.causes.Why.{Why}
use Rattle.decoding.specs.declared.causes.Why.TheVariants.{UnknownAction, Arguments, SlotHolds, Waiting, SlotTaken, Constraint}
use Rattle.decoding.specs.FailingAct.{place, slot_in, work_in, new_in, WaitsAt, IsSlotTaken, IsMet, IsUnmet, ActSentence, IsReading}
use Rattle.decoding.specs.FailingLaws.{TestsTell, TestsTellCauses}
use Rattle.decoding.proofs.FirstCauses.{extend, none_first}
use Rattle.decoding.proofs.FailingSteps.{one_act, can_take, are_different, Says}
use Rattle.plan_model.specs.task_networks.Spelling.{run, apply}

module _ (N : Net) (State : Type 1) (Allows : State → Label N → Type 0) (next : State → Label N → State) (first : State) (Goal : State → Type 0) (Step : Type 0) (Named : Step → Type 0) (Reads : ℕ → Step → Act N → Type 0) where
  module _ (b : ℕ) (reading : IsReading N State Allows next Step Named Reads b) (tree : Tree N) (slot : Address → ℕ) (S : State) (s : Step) where
    abbrev Here : Why → Type 0
    Here c = Says N State Allows next Step Named Reads b tree slot S s c

    none_0 : Named s → (c : Why) → place c < 1 → Here c → ⊥
    none_0 n = extend Here UnknownAction (none_first Here) (λ x. x n)

    module _ (a : Act N) (r : Reads b s a) where
      one : (c : Why) → (ActSentence N State Allows next tree slot S a c → ⊥) → (d : Act N) × Reads b s d × ActSentence N State Allows next tree slot S d c → ⊥
      one c n = one_act N State Allows next Step Named Reads b reading tree slot S s a r c n

      none_1 : (c : Why) → place c < 2 → Here c → ⊥
      none_1 = extend Here Arguments (none_0 (reading.named s a r)) (λ n. n a r)

      module _ (leaf : HasLeaf N tree slot (slot_in N a) (work_in N a)) where
        none_2 : (c : Why) → place c < 3 → Here c → ⊥
        none_2 = extend Here SlotHolds none_1 (one SlotHolds (λ n. n leaf))

        module _ (nw : WaitsAt N tree slot (slot_in N a) → ⊥) where
          none_3 : (c : Why) → place c < 4 → Here c → ⊥
          none_3 = extend Here Waiting none_2 (one Waiting nw)

          module _ (nt : IsSlotTaken N tree slot (new_in N a) → ⊥) where
            none_4 : (c : Why) → place c < 5 → Here c → ⊥
            none_4 = extend Here SlotTaken none_3 (one SlotTaken nt)

            met : (a : Act N) → IsMet N a → IsUnmet N a → ⊥
            met (run h w) m u = u
            met (apply h new g) m u = u m

            none_5 : IsMet N a → (c : Why) → place c < 6 → Here c → ⊥
            none_5 m = extend Here Constraint none_4 (one Constraint (met a m))

            apart : AreDifferent (new_in N a)
            apart = elim (are_different (new_in N a)) [ yes d ↦ d | no n ↦ absurd (nt (inr n)) ]

            can : IsMet N a → Can N tree slot b a
            can m = can_take N State Allows next b tree slot a (reading.formed s a r) leaf (λ w. nw (leaf.0, (work_in N a, leaf.1), leaf.2, w)) nt apart m

    tests_tell : TestsTell N State Allows next first Goal Step Named Reads b tree slot S s
    tests_tell = record {
      unnamed = λ n. (n, none_first Here);
      unread = λ n h. (h, none_0 n);
      not_held = λ a r n. ((a, r, n), none_1 a r);
      waits = λ a r leaf w. ((a, r, w), none_2 a r leaf);
      taken = λ a r leaf nw t. ((a, r, t), none_3 a r leaf nw);
      unmet = λ a r leaf nw nt u. ((a, r, u), none_4 a r leaf nw nt);
      not_allowed = λ a r leaf nw nt m n. ((a, r, n), none_5 a r leaf nw nt m);
      can = λ a r leaf nw nt m. can a r leaf nw nt m;
    }

  pub tests_tell_causes : TestsTellCauses N State Allows next first Goal Step Named Reads
  tests_tell_causes b top acts tree order slot s reading sp = tests_tell b reading tree slot (last_state N State Allows next first (map (label_of N) acts)) s
