-- The numbers of a plan's primitive lines are those of the labels at their nodes in a tree of the plan.
use Rattle.std.proofs.Common.{ℕ, ◌≡◌, false, List, [], ◌∷◌, map, Option, Some, None, refl, ap, sym, subst, ◌∙◌, Contains}
use Rattle.plan_texts.specs.SoundlyCompiled.{IsSoundlyCompiled}
use Rattle.plan_texts.specs.Together.{Together}
use Rattle.plan_model.specs.declared.values.Compiled.{Compiled}
use Rattle.plan_model.specs.task_networks.Net.{Net}
use Rattle.plan_model.specs.task_networks.Tree.{Tree, Label, ran, Address, label, label_at}
use Rattle.plan_model.specs.task_networks.Executable.{AreLabels}
use Rattle.plan_model.specs.plan_meaning.Network.{Work, action, check, task, network, IsPrimitive}
use Rattle.plan_model.proofs.task_networks.Lists.{Contains-here, Contains-later}
use Rattle.hplan_text.specs.declared.values.HLine.{HLine}
use Rattle.hplan_text.specs.declared.values.HPlan.{HPlan}
use Rattle.schedules.specs.latest.PlanLines.{StepLine, renamed_step}
use Rattle.schedules.proofs.latest.GrownTrees.{simple_at}
use Rattle.schedules.proofs.latest.LinesOfTrees as of_lines
use Rattle.schedules.proofs.latest.Rearranged.{in_map}
use Rattle.plan_encoder.specs.Calls.{Call, call_of, step_of, lines_of, is_check, call, IsKnown, words}
use Rattle.plan_encoder.specs.Laws.{IsTreeOfPlan}
use Rattle.plan_encoder.proofs.CallsApart.{same_action}
use Rattle.plan_encoder.proofs.SameRecords.{child_known}
use Rattle.plan_encoder.proofs.Standing.{work_of_ran}
use Rattle.numbered_lines.specs.declared.lines.Said.{Said}
use Rattle.numbered_lines.specs.Numbered.{AreSaid}
use Rattle.plan_placer.specs.Executed.{IsLabelOf, AreLabelsOf}

module _ (c : Compiled) (s : IsSoundlyCompiled c) (plan : HPlan) (tree : Tree (network c)) (node : ℕ → Address)
    (t : IsTreeOfPlan c plan tree node) where
  abbrev N : Net
  N = network c

  -- the root is no primitive, and each other one is an action of the problem
  known_at : (p : Address) (w : Work) → label_at N tree p ≡ Some (ran w) → is_check w ≡ false → IsKnown c w
  known_at [] w e n =
      let f : label N tree ≡ ran w = cc in
      absurd (subst IsPrimitive (sym (work_of_ran c tree w f) ∙ t.root) (simple_at N tree t.grown [] w e))
  known_at (j ∷ q) w e n = child_known c s.problem s.checks s.sound s.compiled (lines_of plan) tree tree node node t t j q (ran w) e n

  -- what a line's numbers are
  record IsOne (line : HLine) (step : Option Said) : Type 0 where
    one : Label N
    is : IsLabelOf c step one
    at : label_at N tree (node line.id) ≡ Some one

  one_label : (line : HLine) → Contains plan.primitives line → (step : Option Said) → AreSaid c action line step → IsOne line step
  one_label line d step said =
      let line_is = t.of_plan.steps (step_of line) (in_map step_of plan.primitives line d) in
      let p : Address = node line.id in
      let (w, e, n, i, f) = of_lines.step_of N (words c) (label_at N tree p) p (renamed_step node (step_of line)) line_is in
      go w e (known_at p w e n) (simple_at N tree t.grown p w e) f step said
    where
      go : (w : Work) → label_at N tree (node line.id) ≡ Some (ran w) → IsKnown c w → IsPrimitive w → call_of line ≡ call c w
          → (step : Option Said) → AreSaid c action line step → IsOne line step
      go (check m values) e k p f step said = absurd k
      go (task u args) e k p f step said = absurd p
      go (action a args) e k p f None said = absurd (said a args (record { known = k; says = sym f }))
      go (action a args) e k p f (Some n) said =
          let same = same_action c s.problem s.checks s.sound s.compiled a n.number args n.objects k (sym f ∙ sym said.says) in
          record { one = ran (action n.number n.objects); is = refl; at = e ∙ ap (λ z. Some (ran z)) same }

  -- the labels of all
  pub record AreAll (lines : List HLine) (steps : List (Option Said)) : Type 0 where
    pub all : List (Label N)
    pub are : AreLabelsOf c steps all
    pub at : AreLabels N tree (map node (map (λ (l : StepLine ℕ Call). l.id) (map step_of lines))) all

  each_label : (lines : List HLine) (steps : List (Option Said)) → ((line : HLine) → Contains lines line → Contains plan.primitives line)
      → Together (AreSaid c action) lines steps → AreAll lines steps
  each_label [] [] in_plan said = record { all = []; are = tt; at = tt }
  each_label [] (s ∷ steps) in_plan said = absurd said
  each_label (line ∷ lines) [] in_plan said = absurd said
  each_label (line ∷ lines) (step ∷ steps) in_plan said =
      let first = one_label line (in_plan line (Contains-here line lines)) step said.0 in
      let rest = each_label lines steps (λ l d. in_plan l (Contains-later line lines l d)) said.1 in
      record { all = first.one ∷ rest.all; are = (first.is, rest.are); at = (first.at, rest.at) }

  pub step_labels : (steps : List (Option Said)) → Together (AreSaid c action) plan.primitives steps → AreAll plan.primitives steps
  step_labels steps said = each_label plan.primitives steps (λ line d. d) said
