-- A rule for the new slots of a method, which looks at the method, at its slot and at which slots are free.
-- Source: this project's.
use Rattle.std.specs.Prelude.{ℕ, ◌≡◌, ◌≤◌, ◌↔◌, List, [], ◌∷◌, ◌++◌, map, Some}
use Rattle.plan_model.specs.task_networks.Net.{Net}
use Rattle.plan_model.specs.task_networks.Tree.{Tree, used, Address, label_at}
use Rattle.plan_model.specs.task_networks.Pending.{IsPending}
use Rattle.plan_model.specs.task_networks.Spelling.{Act, run, apply, others}
use Rattle.slot_machine.specs.Machine.{SlotState, May, after_act}
use Rattle.schedules.specs.ruled.Narrowed.{after}

-- slot x is one of b, and no pending node's, after these are taken
abbrev pub IsFreeAfter : (N : Net) → ℕ → Tree N → (Address → ℕ) → List Address → ℕ → Type 0
IsFreeAfter N b tree slot taken x = (1 ≤ x) × (x ≤ b) × ((q : Address) → IsPending N tree taken q → slot q ≡ x → ⊥)

-- `Rule free h m new`: for method m at slot h, where these are free, it gives these new slots
module _ (N : Net) (Rule : (ℕ → Type 0) → ℕ → N.Method → List ℕ → Type 0) where
  -- it sees of the slots only which are free
  abbrev pub SeesFree : Type 1
  SeesFree = (free other : ℕ → Type 0) (h : ℕ) (m : N.Method) (new : List ℕ) → ((x : ℕ) → free x ↔ other x) → Rule free h m new
      → Rule other h m new

  -- the new slots are those that it gives in this state
  abbrev pub IsRuled : SlotState N → Act N → Type 0
  IsRuled s (run h w) = Unit {0}
  IsRuled s (apply h new m) = Rule s.free h m new

  -- the acts whose new slots it gives, of those that may be taken after these
  abbrev pub PicksBy : ℕ → N.Work → List (Act N) → Act N → Type 0
  PicksBy b top acts a = IsRuled (after N b top acts) a

  -- a run of the machine of slots whose new slots it gives
  abbrev pub RuledRuns : SlotState N → List (Act N) → Type 0
  RuledRuns s [] = Unit {0}
  RuledRuns s (a ∷ acts) = (May N s a × IsRuled s a) × RuledRuns (after_act N s a) acts

  -- the slots of a front's nodes follow it at each method
  abbrev pub Follows : ℕ → Tree N → List Address → (Address → ℕ) → Type 0
  Follows b tree order slot = (taken rest : List Address) (p : Address) (m : N.Method) → order ≡ taken ++ p ∷ rest
      → label_at N tree p ≡ Some (used m)
      → Rule (IsFreeAfter N b tree slot taken) (slot p) m (map (λ i. slot (i ∷ p)) (others N m))
