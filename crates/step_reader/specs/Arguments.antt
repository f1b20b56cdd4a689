-- What a step of a printed action names: its slot, a new slot for each child other than the heir, and an object for each parameter.
-- Source: this project's.
use Rattle.std.specs.Prelude.{ℕ, ◌≡◌, ◌≤◌, ◌-◌, Bool, MatchBool, MatchOption, List, [], ◌∷◌, ◌++◌, length, slice_get, Option}
use Rattle.std.specs.Option.{option_map_or}
use Rattle.htn_base.specs.Escapes.{slot_word}
use Rattle.plan_model.specs.declared.terms.Param.{Param}
use Rattle.plan_model.specs.declared.schemas.ActionSchema.{ActionSchema}
use Rattle.plan_model.specs.declared.schemas.MethodPlan.{MethodPlan}
use Rattle.plan_model.specs.declared.values.Compiled.{Compiled}
use Rattle.problem_index.specs.declared.printed_index.PrintedName.{PrintedName}
use Rattle.problem_index.specs.declared.printed_index.PrintedName.TheVariants.{Action, Check, Method}
use Rattle.ground_state.specs.Runs.{texts}
use Rattle.step_reader.specs.declared.due.Parts.{Parts}

module _ (c : Compiled) where
  abbrev pub params_of : PrintedName → List Param
  params_of (Action a) = option_map_or (λ (s : ActionSchema). s.params) (slice_get c.hddl.actions a) []
  params_of (Check m) = option_map_or (λ (plan : MethodPlan). plan.schema.params) (slice_get c.methods m) []
  params_of (Method m) = option_map_or (λ (plan : MethodPlan). plan.schema.params) (slice_get c.methods m) []

  abbrev pub new_slots : PrintedName → ℕ
  new_slots (Action a) = 0
  new_slots (Check m) = 0
  new_slots (Method m) = option_map_or (λ (plan : MethodPlan). length plan.schema.children - 1) (slice_get c.methods m) 0

-- the words are no slot, so many new slots, and others
abbrev pub AreTooFew : List (List ℕ) → ℕ → Type 0
AreTooFew words many = (slot : List ℕ) (new objects : List (List ℕ)) → words ≡ slot ∷ (new ++ objects) → length new ≡ many → ⊥

-- the words are these, and so many are new slots
pub record AreParts (words : List (List ℕ)) (many : ℕ) (parts : Parts) : Type 0 where
  pub are : words ≡ parts.slot.now ∷ (texts parts.new.now ++ texts parts.objects.now)
  pub as_many : length (texts parts.new.now) ≡ many

module _ (b : ℕ) where
  -- one of the slots from 1 to b
  abbrev pub IsSlot : ℕ → Type 0
  IsSlot k = (1 ≤ k) × (k ≤ b)

  -- and the word is its
  abbrev pub IsNamedBy : List ℕ → ℕ → Type 0
  IsNamedBy word k = IsSlot k × (word ≡ slot_word k)

  abbrev pub IsTheSlot : List ℕ → Option ℕ → Type 0
  IsTheSlot word found = MatchOption found ((k : ℕ) → IsNamedBy word k → ⊥) (IsNamedBy word)

  -- each word is that of the slot at its place
  abbrev pub AreNamedBy : List (List ℕ) → List ℕ → Type 0
  AreNamedBy [] [] = Unit {0}
  AreNamedBy (word ∷ words) (k ∷ slots) = IsNamedBy word k × AreNamedBy words slots
  AreNamedBy [] (k ∷ slots) = ⊥
  AreNamedBy (word ∷ words) [] = ⊥

  abbrev pub AreTheSlots : List (List ℕ) → Bool → List ℕ → Type 0
  AreTheSlots words found slots = MatchBool found (AreNamedBy words slots) ((others : List ℕ) → AreNamedBy words others → ⊥)
