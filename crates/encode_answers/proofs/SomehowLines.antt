-- It is told whether some ground method fits a line of a plan: so some fits each line, or there is a first line that none fits.
use Rattle.std.proofs.Common.{ℕ, ◌≡◌, ◌⊎◌, inl, inr, List, [], ◌∷◌, ◌++◌, Option, Some, None, refl, ap, subst, Contains}
use Rattle.plan_model.specs.declared.schemas.MethodPlan.{MethodPlan}
use Rattle.plan_model.specs.declared.steps.GroundAction.{GroundAction}
use Rattle.plan_model.specs.declared.values.Compiled.{Compiled}
use Rattle.plan_model.specs.plan_meaning.Truth.{AreTyped}
use Rattle.plan_model.specs.plan_meaning.Network.{Work, action, check, task, GroundMethod, InTypeOf, IsGroundMethod, network}
use Rattle.plan_model.specs.plan_meaning.Solution.{top_work}
use Rattle.plan_model.proofs.plan_meaning.Pairs.{map_to}
use Rattle.plan_texts.specs.Types.{EachIs}
use Rattle.plan_texts.proofs.SoundProblems.{each-contains}
use Rattle.slot_machine.proofs.bound_laws.Decided.{Or_not, AreTold, same_or_not, both, some_or_not}
use Rattle.schedules.specs.latest.PlanLines.{StepLine, SplitLine, PlanLines}
use Rattle.hplan_text.specs.declared.values.HNode.{HNode}
use Rattle.hplan_text.specs.declared.values.HPlan.{HPlan}
use Rattle.plan_encoder.specs.Calls.{Call, Decomposed, split_of, lines_of, call, words, subtasks}
use Rattle.plan_encoder.specs.Records.{IsLineOf, AreLinesOf, Fits, FitsRoot, EachFits}
use Rattle.placements.specs.Matching.{FitsNode, IsFitted, IsUnmatched}
use Rattle.decode_answers.proofs.SomehowTruth.{same_list}
use Rattle.decode_answers.proofs.SomehowSearched.{place_told, same_step}
use Rattle.decode_answers.proofs.SomehowStates.{same_work, ground_told, objects_told}

-- what lines say
abbrev as_step : Call → GroundAction
as_step x = record { name = x.name; args = x.args }

same_call : AreTold Call
same_call x y = elim (same_step (as_step x) (as_step y)) [
  | inl e ↦ inl (λ i. record { name = (e i).name; args = (e i).args })
  | inr n ↦ inr (λ e. n (λ i. as_step (e i)))
]

same_split : AreTold Decomposed
same_split x y = go (same_call x.task y.task) (same_list x.method y.method)
  where
    go : Or_not (x.task ≡ y.task) → Or_not (x.method ≡ y.method) → Or_not (x ≡ y)
    go (inl p) (inl q) = inl (λ i. record { task = p i; method = q i })
    go (inr n) d = inr (λ e. n (ap (λ (z : Decomposed). z.task) e))
    go (inl p) (inr n) = inr (λ e. n (ap (λ (z : Decomposed). z.method) e))

same_line : AreTold (StepLine ℕ Call)
same_line x y = go (same_or_not x.id y.id) (same_call x.step y.step)
  where
    go : Or_not (x.id ≡ y.id) → Or_not (x.step ≡ y.step) → Or_not (x ≡ y)
    go (inl p) (inl q) = inl (λ i. record { id = p i; step = q i })
    go (inr n) d = inr (λ e. n (ap (λ (z : StepLine ℕ Call). z.id) e))
    go (inl p) (inr n) = inr (λ e. n (ap (λ (z : StepLine ℕ Call). z.step) e))

has_told : {A : Type 0} → AreTold A → (xs : List A) (x : A) → Or_not (Contains xs x)
has_told d xs x = elim (some_or_not (λ z. z ≡ x) (λ z. d z x) xs) [
  | inl h ↦ inl (subst (Contains xs) h.2 h.1)
  | inr n ↦ inr (λ k. n (x, k, refl))
]

-- each has a property, or one is the first that has it not
record IsFirstWithout {A : Type 0} (P : A → Type 0) (xs : List A) : Type 0 where
  pub before : List A
  pub item : A
  pub rest : List A
  pub parts : xs ≡ before ++ item ∷ rest
  pub each : EachIs P before
  pub without : P item → ⊥

each_or_first : {A : Type 0} (P : A → Type 0) → ((x : A) → Or_not (P x)) → (xs : List A) → EachIs P xs ⊎ IsFirstWithout P xs
each_or_first P d [] = inl tt
each_or_first P d (x ∷ xs) = go (d x) (each_or_first P d xs)
  where
    go : Or_not (P x) → EachIs P xs ⊎ IsFirstWithout P xs → EachIs P (x ∷ xs) ⊎ IsFirstWithout P (x ∷ xs)
    go (inr n) r = inr (record { before = []; item = x; rest = xs; parts = refl; each = tt; without = n })
    go (inl p) (inl e) = inl (p, e)
    go (inl p) (inr f) = inr (record {
      before = x ∷ f.before;
      item = f.item;
      rest = f.rest;
      parts = ap (λ z. x ∷ z) f.parts;
      each = (p, f.each);
      without = f.without;
    })

module _ (c : Compiled) where
  abbrev ground_by : ℕ → List ℕ → GroundMethod
  ground_by k os = record { number = k; values = os }

  -- a question on ground methods
  some_method : (F : GroundMethod → Type 0) → ((g : GroundMethod) → F g → IsGroundMethod c g) → ((g : GroundMethod) → Or_not (F g))
      → Or_not ((g : GroundMethod) × F g)
  some_method F grounded d = elim (place_told
      (λ k (p : MethodPlan). (os : List ℕ) × AreTyped (InTypeOf c) p.schema.params os × F (ground_by k os))
      (λ k (p : MethodPlan). objects_told c p.schema.params (λ os. F (ground_by k os)) (λ os. d (ground_by k os))) c.methods) [
        | inl h ↦ inl (ground_by h.0 h.3.0, h.3.2)
        | inr n ↦ inr (λ f. (let x = grounded f.0 f.1 in n (f.0.number, x.plan, x.is, (f.0.values, x.typed, f.1))))
      ]

  module _ (plan : HPlan) where
    abbrev P : PlanLines ℕ Call Decomposed
    P = lines_of plan

    abbrev Split : Type 0
    Split = SplitLine ℕ Decomposed

    line_told : (i : ℕ) (w : Work) → Or_not (IsLineOf c P i w)
    line_told i (action a v) = has_told same_line P.steps (record { id = i; step = call c (action a v) })
    line_told i (check m v) = inr (λ x. x)
    line_told i (task t v) = elim (some_or_not (λ (l : Split). (l.id ≡ i) × (l.split.task ≡ call c (task t v)))
        (λ (l : Split). both (same_or_not l.id i) (same_call l.split.task (call c (task t v)))) P.splits) [
          | inl h ↦ inl (h.0, h.1, h.2.0, h.2.1)
          | inr n ↦ inr (λ h. n (h.0, h.1, (h.2, h.3)))
        ]

    lines_told : (ids : List ℕ) (ws : List Work) → Or_not (AreLinesOf c P ids ws)
    lines_told [] [] = inl tt
    lines_told [] (w ∷ ws) = inr (λ x. x)
    lines_told (i ∷ ids) [] = inr (λ x. x)
    lines_told (i ∷ ids) (w ∷ ws) = both (line_told i w) (lines_told ids ws)

    fits_told : (l : Split) (g : GroundMethod) → Or_not (Fits c P l g)
    fits_told l g = elim (both (ground_told c g) (both (same_split ((words c).split g) l.split) (lines_told l.children (subtasks c g)))) [
      | inl h ↦ inl (record { ground = h.0; says = h.1.0; children = h.1.1 })
      | inr n ↦ inr (λ (f : Fits c P l g). n (f.ground, (f.says, f.children)))
    ]

    root_told : (g : GroundMethod) → Or_not (FitsRoot c P g)
    root_told g = elim (both (ground_told c g) (both (same_work ((network c).head g) (top_work c)) (lines_told P.root (subtasks c g)))) [
      | inl h ↦ inl (record { ground = h.0; head = h.1.0; children = h.1.1 })
      | inr n ↦ inr (λ (f : FitsRoot c P g). n (f.ground, (f.head, f.children)))
    ]

    some_root : Or_not ((g : GroundMethod) × FitsRoot c P g)
    some_root = some_method (FitsRoot c P) (λ g (f : FitsRoot c P g). f.ground) root_told

    some_fits : (node : HNode) → Or_not (IsFitted c plan node)
    some_fits node = some_method (FitsNode c plan node) (λ g (f : FitsNode c plan node g). f.ground) (fits_told (split_of node))

    -- some method fits each line, or none fits the root, or a line is the first that none fits
    pub fitting_or_first : EachFits c P ⊎ ((id : Option ℕ) × IsUnmatched c plan id)
    fitting_or_first = go some_root (each_or_first (IsFitted c plan) some_fits plan.nodes)
      where
        go : Or_not ((g : GroundMethod) × FitsRoot c P g)
            → EachIs (IsFitted c plan) plan.nodes ⊎ IsFirstWithout (IsFitted c plan) plan.nodes
            → EachFits c P ⊎ ((id : Option ℕ) × IsUnmatched c plan id)
        go (inr n) d = inr (None, λ g f. n (g, f))
        go (inl r) (inl e) = inl (record { root = r; splits = line })
          where
            line : (l : Split) → Contains P.splits l → (g : GroundMethod) × Fits c P l g
            line l k =
                let (node, at, same) = map_to split_of plan.nodes l k in
                subst (λ z. (g : GroundMethod) × Fits c P z g) same (each-contains (IsFitted c plan) plan.nodes e node at)
        go (inl r) (inr f) = inr (
          Some f.item.line.id,
          (
            f.before,
            f.item,
            record { root = r; rest = f.rest; parts = f.parts; fitted = f.each; unfitted = λ g x. f.without (g, x) },
            refl,
          ),
        )
