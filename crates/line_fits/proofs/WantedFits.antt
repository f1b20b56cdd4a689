-- What is wanted of a ground method, and what a line asks of it.
use Rattle.std.proofs.Common.{ℕ, ◌≡◌, List, Option, Some, None, Result, Ok, Err, IfOk, sym, subst, ◌∙◌}
use Rattle.htn_base.specs.declared.memory.Memory.{Memory}
use Rattle.plan_model.specs.declared.values.Compiled.{Compiled}
use Rattle.plan_model.specs.plan_meaning.Network.{Work, task, GroundMethod}
use Rattle.method_fits.specs.Subtasks.{with_values}
use Rattle.method_fits.specs.Fits.{Decomposes}
use Rattle.numbered_lines.specs.declared.lines.Said.{Said}
use Rattle.numbered_lines.specs.declared.lines.Split.{Split}
use Rattle.numbered_lines.specs.declared.lines.Lines.{Lines}
use Rattle.line_fits.specs.declared.fitted.MethodFit.{MethodFit}
use Rattle.line_fits.specs.Fitted.{method_of}
use Rattle.line_fits.specs.ByNumbers.{IsTheFit, IsWorkAt, AreWorksAt, Splits, FitsSplit}
use Rattle.line_fits.proofs.PairedLists.{one_right}

module _ (lines : Lines) (c : Compiled) where
  -- no values of a method decompose a task into the works that the lines say
  module _ (m t : ℕ) (objects places : List ℕ) where
    one_work : (place : ℕ) (w v : Work) → IsWorkAt lines place w → IsWorkAt lines place v → w ≡ v
    one_work place w v e f = let g : Some (Some w) ≡ Some (Some v) = sym e ∙ f in cc

    pub none_splits : (works : List Work) → AreWorksAt lines places works
        → ((values : List ℕ) → Decomposes c (with_values m values) (task t objects) works → ⊥)
        → (g : GroundMethod) → Splits lines c m t objects places g → ⊥
    none_splits works said none g s =
        let same = one_right (IsWorkAt lines) one_work places s.works works s.said said in
        let d : Decomposes c g (task t objects) works = subst (Decomposes c g (task t objects)) same s.decomposes in
        none g.values (subst (λ n. Decomposes c (with_values n g.values) (task t objects) works) s.number d)

  -- what is wanted for a line
  module _ (split : Split) (m : ℕ) (is_m : split.method ≡ Some m) (x : Said) (is_x : split.task ≡ Some x) (objects children : List ℕ)
      (same_objects : objects ≡ x.objects) (same_children : children ≡ split.children) where
    abbrev Wants : GroundMethod → Type 0
    Wants = Splits lines c m x.number objects children

    abbrev Asks : GroundMethod → Type 0
    Asks = Splits lines c m x.number x.objects split.children

    same : (g : GroundMethod) → Wants g ≡ Asks g
    same g = λ i. Splits lines c m x.number (same_objects i) (same_children i) g

    wanted_fits : (g : GroundMethod) → Wants g → FitsSplit lines c split g
    wanted_fits g d = (m, is_m, x, is_x, subst (λ X. X) (same g) d)

    fits_wanted : (g : GroundMethod) → FitsSplit lines c split g → Wants g
    fits_wanted g (n, is_n, y, is_y, d) =
        let same_m : n ≡ m = (let f : Some n ≡ Some m = sym is_n ∙ is_m in cc) in
        let same_x : y ≡ x = (let f : Some y ≡ Some x = sym is_y ∙ is_x in cc) in
        let e : Splits lines c n y.number y.objects split.children g ≡ Asks g =
        λ i. Splits lines c (same_m i) (same_x i).number (same_x i).objects split.children g in
        subst (λ X. X) (e ∙ sym (same g)) d

    pub wanted_is : (result : Result (Option MethodFit) Memory) → IfOk result (IsTheFit Wants)
        → IfOk result (IsTheFit (FitsSplit lines c split))
    wanted_is (Ok None) none = λ g f. none g (fits_wanted g f)
    wanted_is (Ok (Some fit)) d = wanted_fits (method_of fit) d
    wanted_is (Err e) d = d
