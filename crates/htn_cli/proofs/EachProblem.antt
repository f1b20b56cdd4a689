-- What the problem of two texts is, each problem that they spell is: they have one bound, one named cycle and one meaning of lists.
use Rattle.std.proofs.Common.{ℕ, ◌≡◌, ◌≤◌, ◌++◌, ◌∷◌, List, Option, Some, None, IfSome, codes, sym, ap, ◌∙◌, subst, arith}
use Rattle.htn_base.specs.Limits.{most_slots}
use Rattle.outside_io.specs.Sink.{SinkState}
use Rattle.plan_model.specs.declared.options.Checks.{Checks}
use Rattle.plan_model.specs.declared.options.Slots.{Slots}
use Rattle.plan_model.specs.declared.options.Slots.TheVariants.{Any}
use Rattle.plan_model.specs.declared.options.Style.{Style}
use Rattle.plan_model.specs.declared.options.Style.TheVariants.{Adl}
use Rattle.plan_model.specs.declared.steps.GroundAction.{GroundAction}
use Rattle.plan_model.specs.declared.values.Compiled.{Compiled}
use Rattle.plan_model.specs.declared.values.Hddl.{Hddl}
use Rattle.plan_model.specs.declared.values.Pddl.{Pddl}
use Rattle.plan_model.specs.plan_meaning.Bound.{IsBound}
use Rattle.plan_model.specs.plan_meaning.Compilation.{IsCompiled}
use Rattle.plan_texts.specs.FirstSeen.{IsHddlOf}
use Rattle.plan_texts.specs.PrintedTexts.{domain_text, problem_text}
use Rattle.plan_proof.specs.Headline.{HeadlineBy, SpellsSolutionBy}
use Rattle.plan_proof.specs.OneGraph.{HaveOneGraph}
use Rattle.plan_proof.proofs.one.OneGraph.{one_graph}
use Rattle.stack_proof.specs.OrderedAlike.{AreOrderedAlike}
use Rattle.bound_calc.specs.NoBound.{spaced}
use Rattle.reached_parts.specs.HowMany.{most_reached, IsAtMost}
use Rattle.ground_answers.specs.GroundLaws.{AreGroundAlike, ValuesHaveOneGroundBound}
use Rattle.command_words.specs.declared.form.PrintedForm.{PrintedForm}
use Rattle.command_words.specs.declared.level.Level.{Level}
use Rattle.command_words.specs.declared.level.Level.TheVariants.{Lifted, Ground}
use Rattle.command_words.specs.Names.{Word}
use Rattle.command_words.specs.Words.{number_of}
use Rattle.htn_cli.specs.Levels.{IsBoundAt, NamesCycleAt}
use Rattle.htn_cli.specs.PrintedForms.{IsOrderedFor, NamesUnordered, SpellingAs, HasEncodedValueAs, IsPrintedAs}
use Rattle.htn_cli.specs.Problem.{SpellProblem}
use Rattle.htn_cli.specs.Refusal.{line_of}
use Rattle.htn_cli.specs.Sent.{Told}
use Rattle.htn_cli.specs.Translation.{AreSlotsOf}
use Rattle.htn_cli.specs.promise.Cycle.{TellsCycle, TellsUnordered}
use Rattle.htn_cli.specs.declared.refusal.Finding.TheVariants as finding
use Rattle.htn_cli.specs.declared.refusal.Refusal.TheVariants as refused
use Rattle.htn_cli.proofs.SameCycles.{named_back, words_same}
use Rattle.htn_cli.proofs.ByForm.{has_value, printable_of, printed_as, headline, printed_too, word_same}
use Rattle.stack_proof.proofs.texts.Lined as lined
use Rattle.htn_cli.proofs.SomeCounts.{countable}

-- the number of slots is the given one, or else the bound
pub slots_given : (level : Level) (c : Compiled) (slots : ℕ) (o : Option Word) → AreSlotsOf level c o slots → IfSome o (λ numeral. slots ≡ number_of numeral)
slots_given level c slots None are = tt
slots_given level c slots (Some numeral) are = are

pub slots_computed : (level : Level) (c : Compiled) (slots : ℕ) (o : Option Word) → o ≡ None → AreSlotsOf level c o slots → IsBoundAt level c slots
slots_computed level c slots o none are = subst (λ z. AreSlotsOf level c z slots) none are

module _ (d p : List ℕ) (checks : Checks) (c : Compiled) (source : SpellProblem d p checks c) where
  pub graph : (h : Hddl) (k : Compiled) → IsHddlOf d p h → IsCompiled h checks k → HaveOneGraph k c
  graph h k s is = one_graph d p source.value h checks c k source.read.spelled s source.read.sound.value source.compiled_is is

  -- each problem that they spell has the same bound
  pub bound_of_each : (n : ℕ) → IsBound c n → (h : Hddl) (k : Compiled) → IsHddlOf d p h → IsCompiled h checks k → IsBound k n
  bound_of_each n bound h k s is = ((graph h k s is).bound n).1 bound

  abbrev told_by : List ℕ → SinkState → SinkState → Type 0
  told_by words err err' = Told (codes "not tail-recursive:" ++ words ++ codes "\n") err err'

  -- at each level
  module _ (alike : ValuesHaveOneGroundBound) where
    ground : (h : Hddl) (k : Compiled) → IsHddlOf d p h → IsCompiled h checks k → AreGroundAlike c k
    ground h k s is = alike d p source.value h checks c k source.read.spelled s source.read.sound source.compiled_is is

    at_most : (h : Hddl) (k : Compiled) → IsHddlOf d p h → IsCompiled h checks k → IsAtMost c most_reached → IsAtMost k most_reached
    at_most h k s is (n, size, few) = (n, (ground h k s is).size n size, few)

    pub bound_at_each : (level : Level) (n : ℕ) → IsBoundAt level c n → (h : Hddl) (k : Compiled) → IsHddlOf d p h → IsCompiled h checks k → IsBoundAt level k n
    bound_at_each Lifted n bound h k s is = bound_of_each n bound h k s is
    bound_at_each Ground n (few, bound) h k s is = (at_most h k s is few, (ground h k s is).bound n bound)

    -- and the same named cycle
    pub cycle_of_each : (level : Level) (words : List ℕ) → NamesCycleAt level c words → (err err' : SinkState)
        → Told (line_of (refused.Finding (finding.NotTailRecursive words))) err err' → TellsCycle level checks d p err err'
    cycle_of_each Lifted words (edges, named, is) err err' told = λ h k s compiled. (
        let line = is ∙ ap spaced (sym (words_same k c (graph h k s compiled) edges)) in
        (edges, named_back k c (graph h k s compiled) edges named, subst (λ z. told_by z err err') line told)
        )
    cycle_of_each Ground words (few, (e, walk, named, is)) err err' told = λ h k s compiled. (
        let same = ground h k s compiled in
        let line = is ∙ ap spaced (same.words (e ∷ walk)) in
        (e, walk, same.cycle e walk named, subst (λ z. told_by z err err') line told)
        )

  -- and the same first method that is not totally ordered
  pub unordered_of_each : (word : List ℕ) → NamesUnordered c word → (err err' : SinkState) → Told (line_of (refused.Finding (finding.NotTotallyOrdered word))) err err'
      → TellsUnordered checks d p err err'
  unordered_of_each word (m, first, is) err err' told h k s compiled = (
    m,
    ((ordered h k s compiled).first m).1 first,
    subst (λ z. Told (line_of (refused.Finding (finding.NotTotallyOrdered z))) err err') (is ∙ sym (word_same k c (ordered h k s compiled).words m)) told,
  )
    where
      ordered : (h : Hddl) (k : Compiled) → IsHddlOf d p h → IsCompiled h checks k → AreOrderedAlike k c
      ordered h k s compiled = lined.ordered_alike d p source.value h checks c k source.read.spelled s source.read.sound.value source.compiled_is compiled

  -- two texts that are printed for one of them have the meaning of each
  pub faithful_of_each : (form : PrintedForm) (rule : Slots) (slots : ℕ) (style : Style) (value : Pddl) (h : Hddl) (k : Compiled) → IsHddlOf d p h → IsPrintedAs form rule h checks k slots style value
      → HeadlineBy (SpellingAs form rule) d p checks slots (domain_text value) (problem_text value)
  faithful_of_each form rule slots style value h k s printed =
      let here = printed_too d p h source.value checks k c slots style value s source.read.spelled source.compiled_is rule form printed in
      headline d p source.value checks c slots style value source.read.spelled source.read.ordered rule form here

  -- and some texts are printed
  module _ (form : PrintedForm) (ordered : IsOrderedFor form c) (slots : ℕ) (some : 1 ≤ slots) (few : slots ≤ most_slots) where
    pub encoded : HasEncodedValueAs form Any c slots Adl
    encoded = has_value Any c slots Adl form

    printed : IsPrintedAs form Any source.value checks c slots Adl encoded.value
    printed =
        printed_as Any c slots Adl source.value checks encoded.value source.read.sound.value source.compiled_is form ordered
        (printable_of Any c slots Adl source.value checks encoded.value source.read.sound.value source.compiled_is form encoded.encoded encoded.words
        (countable source.value checks c slots source.read.sound source.compiled_is some few) (omega (arith, few)))
        encoded.encoded

    pub each_faithful : HeadlineBy (SpellingAs form Any) d p checks slots (domain_text encoded.value) (problem_text encoded.value)
    each_faithful = headline d p source.value checks c slots Adl encoded.value source.read.spelled source.read.ordered Any form printed

    -- so what spells a solution of one spells one of the other
    pub solution_here : (steps : List GroundAction) (h : Hddl) (k : Compiled) → IsHddlOf d p h → IsCompiled h checks k → SpellsSolutionBy (SpellingAs form Any) k slots steps
        → SpellsSolutionBy (SpellingAs form Any) c slots steps
    solution_here steps h k s is x = ((each_faithful source.value c source.read.spelled source.compiled_is).plans steps).0 (((each_faithful h k s is).plans steps).1 x)
