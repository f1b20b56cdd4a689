-- Steps that are counted one after another.
use Rattle.std.proofs.Common.{◌≡◌, ◌∙◌, ℕ, ◌+◌, ◌≤◌, true, List, [], ◌∷◌, length, refl, sym, ap, subst, arith}
use Rattle.text_forms.specs.Words.{Word}
use Rattle.plan_model.specs.declared.steps.GroundAction.{GroundAction}
use Rattle.plan_text.specs.declared.coming.Next.{Next}
use Rattle.plan_text.specs.declared.coming.Next.TheVariants as next
use Rattle.plan_text.specs.Coming.{TellsNext, said_at, is_clean_at, ends, comes, departs, coming, IsStepTo, SpellsFrom, steps_in, IsSpelledFrom}
use Rattle.plan_text.proofs.NextSteps.{AreComing, goes-on, at-end, said-coming, are-said}

module _ (text : List ℕ) (at : ℕ) where
  -- the step that comes next, and the others
  pub record IsFirst (s : GroundAction) (behind : ℕ) (steps : List GroundAction) : Type 0 where
    pub more : List GroundAction
    pub steps_are : steps ≡ s ∷ more
    pub spelled : SpellsFrom text behind more

  pub is-first : (s : GroundAction) (behind : ℕ) (steps : List GroundAction) → IsStepTo text at (coming (said_at text at)) s behind → SpellsFrom text at steps → IsFirst s behind steps
  is-first s behind steps i f =
      let a : AreComing (comes s (said_at text behind)) steps = subst (λ c. AreComing c steps) i.step (said-coming (said_at text at) steps f.steps_said) in
      record { more = a.0; steps_are = a.1; spelled = record { clean = sym i.clean ∙ f.clean; steps_said = a.2 } }

  pub with-first : (s : GroundAction) (behind : ℕ) (more : List GroundAction) → IsStepTo text at (coming (said_at text at)) s behind → SpellsFrom text behind more → SpellsFrom text at (s ∷ more)
  with-first s behind more i f = record { clean = i.clean ∙ f.clean; steps_said = goes-on (said_at text at) (said_at text behind) s more i.step f.steps_said }

  pub none-left : (steps : List GroundAction) → coming (said_at text at) ≡ ends → SpellsFrom text at steps → steps ≡ []
  none-left steps e f = subst (λ c. AreComing c steps) e (said-coming (said_at text at) steps f.steps_said)

  pub at-its-end : coming (said_at text at) ≡ ends → is_clean_at text at ≡ true → SpellsFrom text at []
  at-its-end e f = record { clean = f; steps_said = at-end (said_at text at) e }

  pub never : (steps : List GroundAction) → (is_clean_at text at ≡ true → coming (said_at text at) ≡ departs) → SpellsFrom text at steps → ⊥
  never steps e f = subst (λ c. AreComing c steps) (e f.clean) (said-coming (said_at text at) steps f.steps_said)

  pub view-is : (steps : List GroundAction) → SpellsFrom text at steps → steps_in (said_at text at) ≡ steps
  view-is steps f = are-said (said_at text at) steps f.steps_said

-- So many steps stand in front of a place.
pub record IsCountedTo (text : List ℕ) (at count : ℕ) : Type 0 where
  pub within : at ≤ length text
  pub few : count ≤ at
  pub whole : (more : List GroundAction) → SpellsFrom text at more → (steps : List GroundAction) × SpellsFrom text 0 steps × (length steps ≡ count + length more)
  pub rest : (steps : List GroundAction) → SpellsFrom text 0 steps → (more : List GroundAction) × SpellsFrom text at more

pub none-counted : (text : List ℕ) → IsCountedTo text 0 0
none-counted text = record { within = omega arith; few = omega arith; whole = λ more f. (more, f, omega arith); rest = λ steps f. (steps, f) }

pub one-more : (text : List ℕ) (at count behind : ℕ) (s : GroundAction) → IsCountedTo text at count → IsStepTo text at (coming (said_at text at)) s behind → IsCountedTo text behind (count + 1)
one-more text at count behind s c i =
    let a = c.few in
    let b = i.later in
    record {
      within = i.within;
      few = omega arith;
      whole = λ more f. (let w = c.whole (s ∷ more) (with-first text at s behind more i f) in let e = w.2 in (w.0, w.1, omega arith));
      rest = λ steps f. (let m = c.rest steps f in let g = is-first text at s behind m.0 i m.1 in (g.more, g.spelled));
    }

-- the steps from a place on go on behind the first
pub goes-behind : (text : List ℕ) (at behind : ℕ) (s : GroundAction) → IsSpelledFrom text at → IsStepTo text at (coming (said_at text at)) s behind → IsSpelledFrom text behind
goes-behind text at behind s f i =
    let g = is-first text at s behind f.steps i f.spelled in
    record { lower = f.lower; within = i.within; steps = g.more; spelled = g.spelled }

pub view-goes : (text : List ℕ) (at behind : ℕ) (s : GroundAction) → IsSpelledFrom text at → IsStepTo text at (coming (said_at text at)) s behind → steps_in (said_at text at) ≡ s ∷ steps_in (said_at text behind)
view-goes text at behind s f i =
    let g = is-first text at s behind f.steps i f.spelled in
    view-is text at f.steps f.spelled ∙ g.steps_are ∙ ap (λ more. s ∷ more) (sym (view-is text behind g.more g.spelled))

pub view-ends : (text : List ℕ) (at : ℕ) → IsSpelledFrom text at → coming (said_at text at) ≡ ends → steps_in (said_at text at) ≡ []
view-ends text at f e = view-is text at f.steps f.spelled ∙ none-left text at f.steps e f.spelled

pub nothing-left : (text : List ℕ) (at : ℕ) (ws : List Word) (n : Next) → IsSpelledFrom text at → TellsNext text at ws n → ((behind : ℕ) → n ≡ next.Step behind → ⊥) → steps_in (said_at text at) ≡ []
nothing-left text at ws next.End f t none = view-ends text at f t.0
nothing-left text at ws (next.Step behind) f t none = absurd (none behind refl)
nothing-left text at ws next.Other f t none = absurd (never text at f.steps t f.spelled)
