-- The ground methods that fit the lines of a plan, or the first line that none fits.
-- Source: this project's.
use Rattle.std.specs.Prelude.{ℕ, ◌≡◌, List, length, Option, Some, None}
use Rattle.plan_texts.specs.Together.{Together}
use Rattle.plan_model.specs.declared.values.Compiled.{Compiled}
use Rattle.plan_model.specs.plan_meaning.Network.{GroundMethod}
use Rattle.hplan_text.specs.declared.values.HNode.{HNode}
use Rattle.hplan_text.specs.declared.values.HPlan.{HPlan}
use Rattle.hplan_text.specs.Printable.{IsSoundHPlan, IsPrintableHPlan}
use Rattle.placements.specs.Matching.{FitsRoot, FitsNode, IsFirstUnfitted, IsUnmatched}
use Rattle.numbered_lines.specs.declared.lines.Lines.{Lines}
use Rattle.numbered_lines.specs.Numbered.{AreNumbered}
use Rattle.line_fits.specs.declared.fitted.Fits.{Fits}
use Rattle.line_fits.specs.declared.fitted.FitError.{FitError}
use Rattle.line_fits.specs.declared.fitted.FitError.TheVariants.{NoMatch, Memory}
use Rattle.line_fits.specs.declared.fitted.MethodFit.{MethodFit}

abbrev pub method_of : MethodFit → GroundMethod
method_of fit = record { number = fit.method; values = fit.values }

module _ (c : Compiled) (plan : HPlan) where
  -- each fits its line
  pub record AreFits (fits : Fits) : Type 0 where
    pub root : FitsRoot c plan (method_of fits.root)
    pub nodes : Together (λ node fit. FitsNode c plan node (method_of fit)) plan.nodes fits.splits

  -- none fits the root, or the line at this place is the first that none fits
  abbrev pub IsUnfitted : Option ℕ → Type 0
  IsUnfitted None = IsUnmatched c plan None
  IsUnfitted (Some place) = (before : List HNode) × (node : HNode) × IsFirstUnfitted c plan before node × (length before ≡ place)

-- of each plan whose lines have these numbers
abbrev pub ForPlans : Compiled → Lines → (HPlan → Type 0) → Type 0
ForPlans c lines Is = (plan : HPlan) → IsSoundHPlan plan → IsPrintableHPlan plan → AreNumbered c plan lines → Is plan

abbrev pub AreFitsOf : Compiled → Lines → Fits → Type 0
AreFitsOf c lines fits = ForPlans c lines (λ plan. AreFits c plan fits)

abbrev pub RefusesFits : Compiled → Lines → FitError → Type 0
RefusesFits c lines (NoMatch place) = ForPlans c lines (λ plan. IsUnfitted c plan place)
RefusesFits c lines Memory = Unit {0}
