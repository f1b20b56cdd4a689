-- A ground method fits a line of a plan where it does so by the numbers of the lines.
use Rattle.std.proofs.Common.{ℕ, zero, suc, ◌≡◌, ◌<◌, ◌↔◌, [], length, Option, Some, None, slice_get, refl, ap, sym, subst, ◌∙◌, arith}
use Rattle.plan_texts.specs.SoundlyCompiled.{IsSoundlyCompiled}
use Rattle.plan_model.specs.declared.schemas.MethodPlan.{MethodPlan}
use Rattle.plan_model.specs.declared.values.Compiled.{Compiled}
use Rattle.plan_model.specs.plan_meaning.Network.{task, GroundMethod, network, top_task, decomposed}
use Rattle.hplan_text.specs.declared.values.HNode.{HNode}
use Rattle.hplan_text.specs.declared.values.HPlan.{HPlan}
use Rattle.hplan_text.specs.Printable.{IsSoundHPlan, task_ids}
use Rattle.hplan_text.specs.ShownPlan.{method_name_by}
use Rattle.plan_encoder.specs.Calls.{Call, Decomposed, call, call_of, lines_of, subtasks}
use Rattle.plan_encoder.specs.Records.{AreLinesOf}
use Rattle.plan_encoder.proofs.CompiledMethods.{head_is, top_number}
use Rattle.placements.specs.Matching.{FitsRoot, FitsNode}
use Rattle.numbered_lines.specs.declared.lines.Said.{Said}
use Rattle.numbered_lines.specs.declared.lines.Split.{Split}
use Rattle.numbered_lines.specs.declared.lines.Lines.{Lines}
use Rattle.numbered_lines.specs.Numbered.{IsSaid, AreSaid, IsTheMethod, IsSplitOf, AreNumbered}
use Rattle.line_fits.specs.ByNumbers.{Splits, FitsSplit}
use Rattle.line_fits.proofs.SaidLines.{one_task, works_lines, lines_works}
use Rattle.line_fits.proofs.KnownWorks.{known_subtasks, known_head, no_name, one_method}

module _ (c : Compiled) (sc : IsSoundlyCompiled c) (plan : HPlan) (s : IsSoundHPlan plan) (lines : Lines)
    (num : AreNumbered c plan lines) where
  pub root_fits : (g : GroundMethod) → FitsRoot c plan g ↔ Splits lines c 0 (top_task c) [] lines.root g
  root_fits g = (
    λ f. record {
      number = top_number c sc.problem sc.checks sc.sound sc.compiled g f.ground.plan f.ground.is f.head;
      works = subtasks c g;
      said = lines_works c sc plan s lines num lines.root plan.root (subtasks c g) num.root_is (known_subtasks c g f.ground) f.children;
      decomposes = record { ground = f.ground; head = f.head; children = refl };
    },
    λ d. record {
      ground = d.decomposes.ground;
      head = d.decomposes.head;
      children = subst (AreLinesOf c (lines_of plan) plan.root) (sym d.decomposes.children)
          (works_lines c sc plan s lines num lines.root plan.root d.works num.root_is d.said);
    },
  )

  module _ (node : HNode) (split : Split) (is : IsSplitOf c (task_ids plan) node split) (g : GroundMethod) where
    -- the line has a name, which the top task has not
    pub fits_split : 0 < length node.line.name → FitsNode c plan node g → FitsSplit lines c split g
    fits_split some f =
        let (k, e) = other g.number refl in
        let at : slice_get c.methods (suc k) ≡ Some p = ap (slice_get c.methods) (sym e) ∙ f.ground.is in
        let known = known_head c sc g f.ground k e in
        let own : IsSaid c node.line (decomposed g p) = record { known = known; says = ap (call c) (sym head_p) ∙ says_task } in
        let (m, is_m, number) = method_is k e at split.method refl is.method_is in
        let (x, is_x, head) = task_is own split.task refl is.task_is in (
          m,
          is_m,
          x,
          is_x,
          record {
            number = number;
            works = subtasks c g;
            said = lines_works c sc plan s lines num split.children node.ids (subtasks c g) is.children_are (known_subtasks c g f.ground)
                f.children;
            decomposes = record { ground = f.ground; head = head_p ∙ sym head; children = refl };
          },
        )
      where
        p : MethodPlan
        p = f.ground.plan

        head_p : (network c).head g ≡ decomposed g p
        head_p = head_is c g p f.ground.is

        says_task : call c ((network c).head g) ≡ call_of node.line
        says_task = ap (λ (z : Decomposed). z.task) f.says

        word : method_name_by c (Some p) ≡ node.method
        word = ap (method_name_by c) (sym f.ground.is) ∙ ap (λ (z : Decomposed). z.method) f.says

        other : (n : ℕ) → g.number ≡ n → (k : ℕ) × (g.number ≡ suc k)
        other zero e =
            let none : node.line.name ≡ [] = ap (λ (z : Call). z.name) (sym says_task) ∙ no_name c sc g f.ground e in
            let l : 0 < 0 = subst (λ ws. 0 < length ws) none some in
            absurd (omega arith)
        other (suc k) e = (k, e)

        method_is : (k : ℕ) → g.number ≡ suc k → slice_get c.methods (suc k) ≡ Some p → (found : Option ℕ) → split.method ≡ found
            → IsTheMethod c node.method found → (m : ℕ) × (split.method ≡ Some m) × (g.number ≡ m)
        method_is k e at None f none = absurd (none (suc k) (k, refl, (p, at, word)))
        method_is k e at (Some m) f (j, m_is, (q, there, own)) =
            let one = one_method c sc k j p q at (ap (slice_get c.methods) (sym m_is) ∙ there) (word ∙ sym own) in
            (m, f, e ∙ ap suc one ∙ sym m_is)

        task_is : IsSaid c node.line (decomposed g p) → (found : Option Said) → split.task ≡ found → AreSaid c task node.line found
            → (x : Said) × (split.task ≡ Some x) × (task x.number x.objects ≡ decomposed g p)
        task_is own None f none = absurd (none p.schema.task _ own)
        task_is own (Some x) f said = (x, f, one_task c sc node.line x said p.schema.task _ own)

    pub split_fits : FitsSplit lines c split g → FitsNode c plan node g
    split_fits (m, is_m, x, is_x, d) =
        let (k, m_is, (p, at, word)) = subst (IsTheMethod c node.method) is_m is.method_is in
        let said = subst (AreSaid c task node.line) is_x is.task_is in
        let its_task : call c ((network c).head g) ≡ call_of node.line = ap (call c) d.decomposes.head ∙ said.says in
        let its_method : method_name_by c (slice_get c.methods g.number) ≡ node.method =
        ap (λ n. method_name_by c (slice_get c.methods n)) d.number ∙ ap (method_name_by c) at ∙ word in
        record {
          ground = d.decomposes.ground;
          says = λ i. record { task = its_task i; method = its_method i };
          children = subst (AreLinesOf c (lines_of plan) node.ids) (sym d.decomposes.children)
              (works_lines c sc plan s lines num split.children node.ids d.works is.children_are d.said);
        }
