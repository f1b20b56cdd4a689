use Rattle.std.proofs.Common.{ℕ, suc, ◌≡◌, ◌-◌, ◌<◌, List, not, true, is_some, refl, ap, sym, subst, ◌∙◌, arith}
use Rattle.std.proofs.lemmas.Option.{slice_get_read}
use Rattle.plan_model.specs.task_networks.Tree.{used}
use Rattle.tree_core.specs.declared.children.Children.{Children}
use Rattle.tree_core.specs.declared.growth.Growth as Grown
use Rattle.tree_core.specs.Growths.{IsAstray}
use Rattle.tree_core.specs.Labels.{label_of, growth_of, growths_of, Decomposition}
use Rattle.tree_core.specs.Rooms.{found}
use Rattle.tree_core.specs.Growing.{IsChild, AreChildren}
use Rattle.tree_core.proofs.Gets.{get-map, get_within}
use Rattle.tree_core.proofs.DefectLaws.{astray_here, left_out_here, wrong_here, fine_here, first_noted, repeated_here, of_task, under_leaf_here, none_of, some_of}
use Rattle.tree_core.proofs.defects.defect_at.Goals as goal
use Rattle.tree_core.proofs.defects.defect_at.Goals.{else-child-gt0-via-then-child-gt0+else-is_none, else-child-gt0-via-else-child-gt0, else-is_first-via-then-is_first+else-is_abstract, else-is_first-via-else-is_first}

-- the number before is noted
number_of : (steps : List Grown.Growth) (children : Children) (a : AreChildren (growths_of steps) children) (x n : ℕ) → (0 < n → is_some (found children x (n - 1)) ≡ true)
    → (j : ℕ) → n ≡ suc j → (k : ℕ) × IsChild (growths_of steps) x j k
number_of steps children a x n some j e =
    let (k, f) = some_of (found children x (n - 1)) (some (omega arith)) in
    let z : n - 1 ≡ j = omega arith in
    (k, subst (λ i. IsChild (growths_of steps) x i k) z (a.given x (n - 1) k f).1)

pub returns-else-place-eq0 : goal.returns-else-place-eq0
returns-else-place-eq0 c =
    let steps = c.args.steps.now in
    let g = c.index-steps-place.result in
    let at = get-map growth_of steps c.args.place g (slice_get_read steps _ c.args.place g refl c.requires.place c.index-steps-place.is) in
    let n = c.if-place-eq0.false in
    astray_here (growths_of steps) c.args.place (growth_of g) at (subst (IsAstray c.args.place) (sym c.in_default.is) (let z : 0 < c.args.place = omega arith in z))

pub returns-then-up-place : goal.returns-then-up-place
returns-then-up-place c =
    let steps = c.args.steps.now in
    let g = c.index-steps-place.result in
    let at = get-map growth_of steps c.args.place g (slice_get_read steps _ c.args.place g refl c.requires.place c.index-steps-place.is) in
    astray_here (growths_of steps) c.args.place (growth_of g) at (subst (IsAstray c.args.place) (sym c.in-Some.is) c.if-up-place.true)

pub returns-then-is_none : goal.returns-then-is_none
returns-then-is_none c =
    let steps = c.args.steps.now in
    let g = c.index-steps-place.result in
    let at = get-map growth_of steps c.args.place g (slice_get_read steps _ c.args.place g refl c.requires.place c.index-steps-place.is) in
    let none = none_of c.at.result (c.is_none.ensures ∙ ap not c.if-is_none.true) in
    let positive = c.if-child-gt0.true in
    left_out_here (growths_of steps) c.args.place (growth_of g) at c.in-Some.parent c.in-Some.is c.if-up-place.false (g.child - 1) (let z : g.child ≡ suc (g.child - 1) = omega arith in z)
    (λ k h. c.requires.children.all c.in-Some.parent (g.child - 1) k (get_within (growths_of steps) k h.0 h.1) h (sym c.at.ensures.found ∙ none))

pub returns-then-is_abstract : goal.returns-then-is_abstract
returns-then-is_abstract c =
    let steps = c.args.steps.now in
    let g = c.index-steps-place.result in
    let x = c.in-Some.parent in
    let up = c.index-steps-up.result in
    let at = get-map growth_of steps c.args.place g (slice_get_read steps _ c.args.place g refl c.requires.place c.index-steps-place.is) in
    let early = c.if-up-place.false in
    let place = c.requires.place in
    let up_at = get-map growth_of steps x up (slice_get_read steps _ x up refl (omega arith) c.index-steps-up.is) in
    let some : 0 < g.child → is_some (found c.args.children.now x (g.child - 1)) ≡ true = elim c.else-child-gt0.branch [
      | else-child-gt0-via-then-child-gt0+else-is_none w ↦ (λ l. ap is_some (sym w.at.ensures.found) ∙ w.is_none.ensures ∙ ap not w.if-is_none.false)
      | else-child-gt0-via-else-child-gt0 w ↦ (λ l. absurd (let z = w.if-child-gt0.false in omega arith))
    ] in
    fine_here (growths_of steps) c.args.place (growth_of g) at x c.in-Some.is early (number_of steps c.args.children.now c.requires.children x g.child some)
    (of_task (growths_of steps) x (growth_of up) up_at
    (subst (λ (z : Grown.Growth). (m : Decomposition) × (label_of z.label ≡ used m)) (sym c.index-steps-up.is) (c.is_abstract.ensures.0 c.if-is_abstract.true)))
    (first_noted (growths_of steps) c.args.children.now c.requires.children c.args.place x g.child (growth_of g, at, c.in-Some.is, refl) (c.is_first.ensures.0 c.if-is_first.true))

pub returns-else-is_first : goal.returns-else-is_first
returns-else-is_first c =
    let steps = c.args.steps.now in
    let g = c.index-steps-place.result in
    let x = c.in-Some.parent in
    let at = get-map growth_of steps c.args.place g (slice_get_read steps _ c.args.place g refl c.requires.place c.index-steps-place.is) in
    let early = c.if-up-place.false in
    let place = c.requires.place in
    let some : 0 < g.child → is_some (found c.args.children.now x (g.child - 1)) ≡ true = elim c.else-child-gt0.branch [
      | else-child-gt0-via-then-child-gt0+else-is_none w ↦ (λ l. ap is_some (sym w.at.ensures.found) ∙ w.is_none.ensures ∙ ap not w.if-is_none.false)
      | else-child-gt0-via-else-child-gt0 w ↦ (λ l. absurd (let z = w.if-child-gt0.false in omega arith))
    ] in
    wrong_here (growths_of steps) c.args.place (growth_of g) at x c.in-Some.is early (number_of steps c.args.children.now c.requires.children x g.child some)
    (elim c.else-is_first.branch [
      | else-is_first-via-then-is_first+else-is_abstract w ↦ (
          let up = w.index-steps-up.result in
          let up_at = get-map growth_of steps x up (slice_get_read steps _ x up refl (omega arith) w.index-steps-up.is) in
          under_leaf_here (growths_of steps) c.args.place x (growth_of g) (growth_of up) at c.in-Some.is up_at (λ t. (let z = w.is_abstract.ensures.1 (subst (λ (z : Grown.Growth). (m : Decomposition) × (label_of z.label ≡ used m)) w.index-steps-up.is t) in let f = w.if-is_abstract.false in cc))
          )
      | else-is_first-via-else-is_first w ↦ repeated_here (growths_of steps) c.args.children.now c.requires.children c.args.place x g.child (growth_of g, at, c.in-Some.is, refl) (λ e. (let z = c.is_first.ensures.1 e in let f = w.if-is_first.false in cc))
    ])
