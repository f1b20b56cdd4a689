-- What is promised of a tree that was told, or of a list that was said to spell none, for all that the files tell of the inputs.
-- Source: this project's, after the translation of Alford et al., "Bound to Plan", ICAPS 2016; the text in the format of plans of the
-- hierarchical track of the International Planning Competition 2020 (Behnke, Höller and Bercher).
use Rattle.std.specs.Prelude.{ℕ, ◌≡◌, List, [], ◌∷◌, None, IfSome}
use Rattle.outside_io.specs.Files.{FilesState}
use Rattle.outside_io.specs.Sink.{SinkState}
use Rattle.plan_model.specs.declared.options.Slots.TheVariants.{Any}
use Rattle.plan_model.specs.declared.options.Style.{Style}
use Rattle.plan_model.specs.declared.steps.GroundAction.{GroundAction}
use Rattle.plan_model.specs.declared.values.Pddl.{Pddl}
use Rattle.plan_texts.specs.PlanText.{SpellsPlan}
use Rattle.plan_texts.specs.PrintedTexts.{domain_text, problem_text}
use Rattle.plan_proof.specs.Headline.{SpellsSolutionBy, SpellsOneBy}
use Rattle.plan_proof.specs.TextPlans.{IsPlanOf}
use Rattle.decoding.specs.declared.causes.Why.{Why}
use Rattle.command_words.specs.Names.{Word}
use Rattle.command_words.specs.Words.{DecodeRequest, number_of, AsksDecode}
use Rattle.htn_cli.specs.PrintedForms.{SpellingAs, IsPrintedAs}
use Rattle.htn_cli.specs.ShownForms.{FailsAs, HaveTextAs}
use Rattle.htn_cli.specs.Told.{AreToldToRead}
use Rattle.htn_cli.specs.Refusal.{line_of}
use Rattle.htn_cli.specs.Sent.{TakesWhole, Told}
use Rattle.htn_cli.specs.declared.refusal.Finding.TheVariants as finding
use Rattle.htn_cli.specs.declared.refusal.Refusal.TheVariants as refused
use Rattle.htn_cli.specs.promise.Problems.{ForEach}
use Rattle.htn_cli.specs.Levels.{IsBoundAt}

module _ (request : DecodeRequest) (d p plan : List ℕ) where
  -- the steps that the third text spells, and the number of slots or cells: the given one, or else the bound
  pub record AreDecoded (steps : List GroundAction) (slots : ℕ) : Type 0 where
    pub spelled : SpellsPlan plan steps
    pub given : IfSome request.numeral (λ numeral. slots ≡ number_of numeral)
    pub computed : request.numeral ≡ None → ForEach d p request.checks (λ h c. IsBoundAt request.level c slots)

  -- a tree that was told: the steps spell a schedule of a solution tree, and no other, and what was told is the text of the hierarchical
  -- plan that these show
  pub record TellsTree (out out' : SinkState) : Type 0 where
    pub steps : List GroundAction
    pub slots : ℕ
    pub decoded : AreDecoded steps slots
    pub text : List ℕ
    pub told : TakesWhole text out out'
    pub shown : ForEach d p request.checks (λ h c. HaveTextAs request.form c slots steps text)
    pub only_one : ForEach d p request.checks (λ h c. SpellsOneBy (SpellingAs request.form Any) c slots steps)
    -- so they are a plan of each two texts that are printed in this form with so many slots, of which a method takes any free ones, or
    -- with so many cells
    pub is_plan : ForEach d p request.checks (λ h c. (style : Style) (value : Pddl)
        → IsPrintedAs request.form Any h request.checks c slots style value → IsPlanOf (domain_text value) (problem_text value) steps)

  -- a list that was said to spell no solution: the line tells the step at which it fails, and its first cause
  pub record TellsNoSolution (err err' : SinkState) : Type 0 where
    pub steps : List GroundAction
    pub slots : ℕ
    pub decoded : AreDecoded steps slots
    pub step : ℕ
    pub why : Why
    pub told : Told (line_of (refused.Finding (finding.SpellsNoSolution step why))) err err'
    pub fails : ForEach d p request.checks (λ h c. FailsAs request.form c slots steps step why)
    pub none : ForEach d p request.checks (λ h c. SpellsSolutionBy (SpellingAs request.form Any) c slots steps → ⊥)

module _ (words : List Word) (files : FilesState) (out out' : SinkState) where
  abbrev pub HasTree : Type 0
  HasTree = (request : DecodeRequest) (d p plan : List ℕ) → AsksDecode words request
      → AreToldToRead files (request.domain ∷ request.problem ∷ request.plan ∷ []) (d ∷ p ∷ plan ∷ []) → TellsTree request d p plan out out'
