-- What a run promises of the problem that its inputs spell, from what it wrote and told.
use Rattle.std.proofs.Common.{ℕ, ◌≡◌, ◌≤◌, Bool, List, [], ◌∷◌, Option, Some, None, IfSome, option_map, refl, sym, ◌∙◌, subst, inl, inr, arith}
use Rattle.outside_io.specs.Folder.{Folder, file_of}
use Rattle.outside_io.specs.Files.{FilesState}
use Rattle.outside_io.specs.Sink.{SinkState}
use Rattle.plan_model.specs.declared.values.Compiled.{Compiled}
use Rattle.plan_model.specs.declared.values.Hddl.{Hddl}
use Rattle.plan_texts.specs.FirstSeen.{IsHddlOf}
use Rattle.plan_texts.specs.PrintedTexts.{domain_text, problem_text}
use Rattle.plan_model.specs.plan_meaning.Compilation.{IsCompiled}
use Rattle.plan_model.specs.task_networks.Tree.{Tree, Address}
use Rattle.plan_model.specs.task_networks.Pending.{IsWithin}
use Rattle.plan_model.specs.plan_meaning.Network.{network}
use Rattle.plan_model.specs.plan_meaning.Solution.{IsSolution}
use Rattle.plan_model.specs.declared.options.Checks.{Checks}
use Rattle.plan_model.specs.declared.options.Slots.TheVariants.{First}
use Rattle.slot_machine.proofs.SpellingSteps.{open_pending, pending_open}
use Rattle.slot_machine.proofs.bound_laws.EveryFront.{every_front_is_within}
use Rattle.plan_model.proofs.plan_meaning.FailingLaws.{each_is_plan_or_fails}
use Rattle.plan_model.specs.declared.causes.FailWhy.{FailWhy}
use Rattle.plan_proof.specs.Headline.{SpellingForm, HeadlineBy, HeadlineAtBoundBy, OnePlanForEach, IsFaithfulBy, LosesNothingBy}
use Rattle.stack_proof.specs.OneTree.{OnePlanForEachTree}
use Rattle.plan_proof.proofs.texts.SamePlans.{spelled-plans}
use Rattle.command_words.specs.declared.form.PrintedForm.TheVariants.{Stack}
use Rattle.htn_cli.specs.PrintedForms.{SpellingAs}
use Rattle.made_transport.specs.Made.{made_domain}
use Rattle.hddl_texts.specs.PrintedHddl.{hddl_domain_text, hddl_problem_text}
use Rattle.ground_bound.proofs.Width.{solutions_are_within}
use Rattle.ground_answers.specs.GroundLaws.{ValuesHaveOneGroundBound}
use Rattle.command_words.specs.declared.level.Level.{Level}
use Rattle.command_words.specs.declared.level.Level.TheVariants.{Lifted, Ground}
use Rattle.command_words.specs.Names.{Word}
use Rattle.command_words.specs.Words.{TranslationRequest, BoundRequest, EncodeRequest, Request, to_translate, to_bound, to_decode, to_encode, to_validate, to_make, to_prune, Asks}
use Rattle.htn_cli.specs.Answer.{Output, Answer, refuses, gives}
use Rattle.htn_cli.specs.Answers.{Refuses, Gives, RefusesSize, RefusesFault, IsAnswerFor, past_slots, too_large, faulty, declined, given}
use Rattle.htn_cli.specs.Bounding.{GivesBound}
use Rattle.htn_cli.specs.Decoding.{GivesTree}
use Rattle.htn_cli.specs.Encoding.{FindsUnordered, GivesSteps}
use Rattle.htn_cli.specs.Ending.{Achieves, IsDone, IsRefused}
use Rattle.htn_cli.specs.Inputs.{AreGot, AreWhole}
use Rattle.htn_cli.specs.Left.{Stand}
use Rattle.htn_cli.specs.Levels.{IsBoundAt}
use Rattle.htn_cli.specs.Lines.{slots_line, bound_line, valid_line, summary}
use Rattle.htn_cli.specs.Making.{packages, problem_of, translation_for, GivesMake}
use Rattle.htn_cli.specs.Problem.{SpellProblem}
use Rattle.htn_cli.specs.Pruning.{hddl_texts_of, kept_line_of, GivesPrune}
use Rattle.htn_cli.specs.Refusal.{status_of, line_of}
use Rattle.htn_cli.specs.Requests.{inputs_of, most_slots_of}
use Rattle.htn_cli.specs.Sent.{TakesWhole, Told}
use Rattle.htn_cli.specs.Slots.{RefusesSlots}
use Rattle.htn_cli.specs.Texts.{Texts}
use Rattle.htn_cli.specs.Told.{AreToldToRead}
use Rattle.htn_cli.specs.Translation.{AreWritten, GivesTranslation, texts_for, translation_output}
use Rattle.htn_cli.specs.Validation.{AreConfirmed, RefusesPlan, GivesPlan}
use Rattle.htn_cli.specs.promise.Headline.{KeepPlans, KeepsPlans, HasHeadline}
use Rattle.htn_cli.specs.promise.Bound.{TellsBound, HasBound}
use Rattle.htn_cli.specs.promise.Plan.{TellsPlan, HasPlan}
use Rattle.htn_cli.specs.promise.Tree.{TellsTree, HasTree}
use Rattle.htn_cli.specs.promise.Steps.{TellsSteps, HasSteps}
use Rattle.htn_cli.specs.promise.Making.{KeepsMade, HasMade}
use Rattle.htn_cli.specs.promise.Pruning.{KeepsPruned, HasPruned}
use Rattle.htn_cli.specs.promise.Cycle.{TellsUnordered}
use Rattle.htn_cli.specs.promise.Finding.{TellsFailure, TellsFinding, HasFinding}
use Rattle.htn_cli.specs.promise.Promise.{KeepsPromise}
use Rattle.htn_cli.specs.declared.status.Status.{Status}
use Rattle.htn_cli.specs.declared.status.Status.TheVariants as status
use Rattle.htn_cli.specs.declared.refusal.Failure.TheVariants as failure
use Rattle.htn_cli.specs.declared.refusal.Finding.{Finding}
use Rattle.htn_cli.specs.declared.refusal.Finding.TheVariants as finding
use Rattle.htn_cli.specs.declared.refusal.Refusal.{Refusal}
use Rattle.htn_cli.specs.declared.refusal.Refusal.TheVariants as refused
use Rattle.htn_cli.proofs.Endings.{asked_left, asked_done, never_done}
use Rattle.htn_cli.proofs.Validations.{sound_apart}
use Rattle.htn_cli.proofs.ByForm.{headline, at_bound, one_plan, one_plan_for_tree}
use Rattle.htn_cli.proofs.EachProblem.{slots_given, slots_computed, bound_at_each, cycle_of_each, unordered_of_each, faithful_of_each}
use Rattle.htn_cli.proofs.DecodedByForm.{ValuesAreDecodedAlikeAs}
use Rattle.htn_cli.proofs.LawsUsed.{LawsUsed, decoded_as, encoded_as}
use Rattle.htn_cli.proofs.MadeTold.{keeps_made, nothing_made}
use Rattle.htn_cli.proofs.PruneTold.{keeps_pruned, unsolved_here}
use Rattle.htn_cli.proofs.TreeTold.{tree_here, none_here}
use Rattle.htn_cli.proofs.StepsTold.{steps_here, no_steps_here}

-- As many slots as the bound at a level are enough for all solutions.
module _ (h : Hddl) (checks : Checks) (c : Compiled) (compiled : IsCompiled h checks c) where
  within_bound : (level : Level) (n : ℕ) → IsBoundAt level c n → (tree : Tree (network c)) (order : List Address) → IsSolution c tree order
      → IsWithin (network c) n tree order
  within_bound Lifted n bound tree order is = every_front_is_within h checks c compiled n bound tree order is.finished.front
  within_bound Ground n (few, bound) tree order is = solutions_are_within h checks c compiled n bound tree order is

  loses_nothing_at : (level : Level) (n : ℕ) → IsBoundAt level c n → (Spelling : SpellingForm) (b : ℕ) (domain problem : List ℕ) → n ≤ b → IsFaithfulBy Spelling c b domain problem
      → LosesNothingBy Spelling c b domain problem
  loses_nothing_at level n bound Spelling b domain problem l f tree order is =
      let front = is.finished.front in
      let w = within_bound level n bound tree order is in
      let (steps, slot, s) = f.spelled tree order front (λ taken rest nodes e a. (let k = w taken rest nodes e a in omega (arith, k, l))) in
      (steps, slot, s, (f.plans steps).1 (tree, order, slot, s, is))

-- The texts of a translation, and its number of slots.
module _ (ground : ValuesHaveOneGroundBound) (request : TranslationRequest) (d p : List ℕ) (out out' : SinkState) (texts : Texts) (slots : ℕ) (written : AreWritten request d p texts slots) where
  abbrev c : Compiled
  c = written.compiled

  abbrev source : SpellProblem d p request.checks written.compiled
  source = written.source.problem_is

  module _ (od op : List ℕ) (domain_is : texts.domain ≡ od) (problem_is : texts.problem ≡ op) where
    printed_domain_is : domain_text written.translated.value ≡ od
    printed_domain_is = sym written.translated.domain_is ∙ domain_is

    printed_problem_is : problem_text written.translated.value ≡ op
    printed_problem_is = sym written.translated.problem_is ∙ problem_is

    headline_here : HeadlineBy (SpellingAs request.form request.rule) d p request.checks slots od op
    headline_here =
        subst (λ (z : Type 0). z) (λ i. HeadlineBy (SpellingAs request.form request.rule) d p request.checks slots (printed_domain_is i) (printed_problem_is i))
        (headline d p source.value request.checks c slots request.style written.translated.value source.read.spelled source.read.ordered request.rule request.form written.translated.printed)

    at_bound_here : HeadlineAtBoundBy (SpellingAs request.form request.rule) d p request.checks slots od op
    at_bound_here =
        subst (λ (z : Type 0). z) (λ i. HeadlineAtBoundBy (SpellingAs request.form request.rule) d p request.checks slots (printed_domain_is i) (printed_problem_is i))
        (at_bound d p source.value request.checks c slots request.style written.translated.value source.read.spelled source.read.ordered request.rule request.form written.translated.printed)

    one_plan_here : request.rule ≡ First → OnePlanForEach (SpellingAs request.form request.rule) d p request.checks slots od op
    one_plan_here first =
        subst (λ (z : Type 0). z) (λ i. OnePlanForEach (SpellingAs request.form request.rule) d p request.checks slots (printed_domain_is i) (printed_problem_is i))
        (one_plan d p source.value request.checks c slots request.style written.translated.value source.read.spelled source.read.ordered request.rule request.form first written.translated.printed)

    one_tree_here : request.form ≡ Stack → OnePlanForEachTree (SpellingAs request.form request.rule) d p request.checks slots od op
    one_tree_here stack =
        subst (λ (z : Type 0). z) (λ i. OnePlanForEachTree (SpellingAs request.form request.rule) d p request.checks slots (printed_domain_is i) (printed_problem_is i))
        (one_plan_for_tree d p source.value request.checks c slots request.style written.translated.value source.read.spelled source.read.ordered request.rule request.form stack written.translated.printed)

    pub keep_here : KeepPlans request d p od op slots
    keep_here = record {
      given = slots_given request.level c slots request.numeral written.source.slots_are;
      headline = headline_here;
      at_bound = at_bound_here;
      open_leaves = λ h k s is tree order q scheduled. (pending_open (network k) tree order q scheduled, open_pending (network k) tree order q scheduled);
      nothing_lost = λ none h k s is. (
          let here = slots_computed request.level c slots request.numeral none written.source.slots_are in
          let there = bound_at_each d p request.checks c source ground request.level slots here h k s is in
          loses_nothing_at h request.checks k is request.level slots there (SpellingAs request.form request.rule) slots od op (omega arith) (headline_here h k s is)
          );
      one_plan = one_plan_here;
      one_tree = one_tree_here;
    }

    pub keeps : TakesWhole (slots_line slots) out out' → KeepsPlans request d p od op out out'
    keeps told = record { slots = slots; told = told; keep = keep_here }

-- A bound that was told.
module _ (ground : ValuesHaveOneGroundBound) (request : BoundRequest) (d p : List ℕ) (out out' : SinkState) (n : ℕ) (c : Compiled) (source : SpellProblem d p request.checks c) (bound : IsBoundAt request.level c n) where
  each : (h : Hddl) (k : Compiled) → IsHddlOf d p h → IsCompiled h request.checks k → IsBoundAt request.level k n
  each = bound_at_each d p request.checks c source ground request.level n bound

  pub bound_here : TakesWhole (bound_line n) out out' → TellsBound request d p out out'
  bound_here told = record {
    bound = n;
    told = told;
    is = each;
    every_solution = λ h k s is tree order solution. within_bound h request.checks k is request.level n (each h k s is) tree order solution;
    every_front = λ lifted h k s is tree order front.
        every_front_is_within h request.checks k is n (subst (λ l. IsBoundAt l k n) lifted (each h k s is)) tree order front;
    nothing_lost = λ h k s is slots l form rule style value printed.
        loses_nothing_at h request.checks k is request.level n (each h k s is) (SpellingAs form rule) slots (domain_text value) (problem_text value) l
        (faithful_of_each d p request.checks c source form rule slots style value h k s printed h k s is);
  }

-- A list that was called a plan, or none.
module _ (pd pp plan : List ℕ) where
  pub plan_here : (out out' : SinkState) → AreConfirmed pd pp plan → TakesWhole valid_line out out' → TellsPlan pd pp plan out out'
  plan_here out out' (c, steps, spell, is) told =
      record { told = told; steps = steps; spelled = spell.spelled.list.spelled; is_plan = (c, spell.spelled.value.spelled.spelled, is) }

  pub failure_here : (step : ℕ) (why : FailWhy) (err err' : SinkState) → Told (line_of (refused.Finding (finding.NotAPlan step why))) err err'
      → RefusesPlan pd pp plan (refused.Finding (finding.NotAPlan step why)) → TellsFailure pd pp plan err err'
  failure_here step why err err' line (c, steps, spell, fails) = record {
    steps = steps;
    step = step;
    why = why;
    value = c;
    told = line;
    spelled = spell.spelled.list.spelled;
    value_is = spell.spelled.value.spelled.spelled;
    fails = fails;
    no_plan = λ other. (
        let plan_too = (spelled-plans other.0 c pd pp other.1 spell.spelled.value.spelled.spelled steps).0 other.2 in
        (each_is_plan_or_fails c (sound_apart c spell.spelled.value.sound) steps).not_both step why plan_too fails
        );
  }

-- A hierarchical plan of a problem that no stack is printed of.
unordered_here : (r : EncodeRequest) (d p hplan : List ℕ) (f : Finding) → FindsUnordered r d p hplan f → (err err' : SinkState) → Told (line_of (refused.Finding f)) err err'
    → (r.form ≡ Stack) × TellsUnordered r.checks d p err err'
unordered_here r d p hplan (finding.NotTotallyOrdered word) (stack, (c, plan, s, named)) err err' line =
    (stack, unordered_of_each d p r.checks c s.spelled.problem_is word named err err' line)
unordered_here r d p hplan _ x err err' line = absurd x

-- What was found of the texts of a request.
pub finding_here : (laws : LawsUsed) (request : Request) (texts : List (List ℕ)) (f : Finding) → Refuses request texts (refused.Finding f) → (err err' : SinkState) → Told (line_of (refused.Finding f)) err err' → TellsFinding request texts err err'
finding_here laws (to_translate r) (d ∷ p ∷ []) (finding.NotTotallyOrdered word) (stack, (c, source, named)) err err' line =
    inl (stack, unordered_of_each d p r.checks c source word named err err' line)
finding_here laws (to_translate r) (d ∷ p ∷ []) (finding.NotTailRecursive words) (none, (c, source, named)) err err' line =
    inr (cycle_of_each d p r.checks c source laws.ground r.level words named err err' line)
finding_here laws (to_bound r) (d ∷ p ∷ []) (finding.NotTailRecursive words) (c, source, named) err err' line =
    cycle_of_each d p r.checks c source laws.ground r.level words named err err' line
finding_here laws (to_decode r) (d ∷ p ∷ plan ∷ []) (finding.NotTotallyOrdered word) (stack, (c, steps, spelled, named)) err err' line =
    inl (stack, unordered_of_each d p r.checks c spelled.spelled.problem_is word named err err' line)
finding_here laws (to_decode r) (d ∷ p ∷ plan ∷ []) (finding.NotTailRecursive words) (none, (c, steps, spelled, named)) err err' line =
    inr (inl (none, cycle_of_each d p r.checks c spelled.spelled.spelled.problem_is laws.ground r.level words named err err' line))
finding_here laws (to_decode r) (d ∷ p ∷ plan ∷ []) (finding.SpellsNoSolution step why) (c, steps, slots, is, fails) err err' line =
    inr (inr (none_here (decoded_as laws) laws.ground r d p plan c steps slots is step why fails err err' line))
finding_here laws (to_encode r) (d ∷ p ∷ hplan ∷ []) f (inl x) err err' line = inl (unordered_here r d p hplan f x err err' line)
finding_here laws (to_encode r) (d ∷ p ∷ hplan ∷ []) f (inr (c, plan, s, is)) err err' line =
    inr (no_steps_here laws.encoded r d p hplan c plan s.spelled.spelled laws.within f is err err' line)
finding_here laws (to_validate r) (pd ∷ pp ∷ plan ∷ []) (finding.NotAPlan step why) x err err' line = failure_here pd pp plan step why err err' line x
finding_here laws (to_make r) [] f x err err' line = nothing_made laws r f x err err' line
finding_here laws (to_prune r) (d ∷ p ∷ []) finding.NoSolution (source, read, cannot) err err' line = unsolved_here d p source read cannot err err' line
finding_here laws _ _ f x err err' line = absurd x

-- An output comes from all texts, which are given; and a finding from all texts, which are declined.
abbrev Come : Request → List (List ℕ) → Answer → Type 0
Come request texts (gives output) = AreWhole (inputs_of request) texts × Gives request texts output
Come request texts (refuses (refused.Finding f)) = AreWhole (inputs_of request) texts × Refuses request texts (refused.Finding f)
Come request texts (refuses _) = Unit {0}

module _ (request : Request) (texts : List (List ℕ)) where
  come_past : (most n : ℕ) (refusal : Refusal) → RefusesSlots most n refusal → Come request texts (refuses refusal)
  come_past most n (refused.Finding f) x = absurd x
  come_past most n _ x = tt

  come_size : (refusal : Refusal) → RefusesSize request texts refusal → Come request texts (refuses refusal)
  come_size (refused.Finding f) x = absurd x
  come_size _ x = tt

  come_fault : (refusal : Refusal) → RefusesFault request texts refusal → Come request texts (refuses refusal)
  come_fault (refused.Finding f) x = absurd x
  come_fault _ x = tt

  come_declined : (refusal : Refusal) → AreWhole (inputs_of request) texts → Refuses request texts refusal → Come request texts (refuses refusal)
  come_declined (refused.Finding f) whole x = (whole, x)
  come_declined _ whole x = tt

  pub come : (a : Answer) → IsAnswerFor request texts a → Come request texts a
  come a (past_slots n refusal none e x) = come_past (most_slots_of request) n refusal x
  come a (too_large refusal inside x) = come_size refusal x
  come a (faulty refusal inside whole x) = come_fault refusal x
  come a (declined refusal inside whole x) = come_declined refusal whole x
  come a (given output inside whole x fits) = (whole, x)

-- what is told of a name is what it reads as, and what it holds
read_there : (held : Option Folder) (lenient : Bool) (name bytes told : List ℕ) → IfSome held (λ folder. file_of lenient folder name ≡ Some bytes)
    → option_map (λ (folder : Folder). file_of lenient folder name) held ≡ Some (Some told) → bytes ≡ told
read_there None lenient name bytes told reads is = absurd (cc)
read_there (Some folder) lenient name bytes told reads is = cc

held_there : (held : Option Folder) (now : Option (Option Word)) (text told : Word) → now ≡ option_map (λ (folder : Folder). Some text) held → now ≡ Some (Some told) → text ≡ told
held_there None now text told holds is = absurd (cc)
held_there (Some folder) now text told holds is = cc

-- the texts that were got are those that are told
same_texts : (files : FilesState) (names : List Word) (texts others : List (List ℕ)) → AreGot files names texts → AreWhole names texts → AreToldToRead files names others → texts ≡ others
same_texts files [] [] [] got whole told = refl
same_texts files [] [] (other ∷ others) got whole told = absurd told
same_texts files [] (text ∷ texts) others got whole told = absurd got
same_texts files (name ∷ names) [] others got whole told = absurd whole
same_texts files (name ∷ names) (text ∷ texts) [] got whole told = absurd told
same_texts files (name ∷ names) (text ∷ texts) (other ∷ others) got whole told =
    let e = read_there files.held files.lenient name text other got.0 told.0 in
    let rest = same_texts files names texts others got.1 whole.1 told.1 in
    λ i. e i ∷ rest i

-- The words ask for one request alone.
module _ (words : List Word) (files files' : FilesState) (out out' : SinkState) (done : IsDone words files files' out out') where
  module _ (request : Request) (asked : Asks words request) (texts : List (List ℕ)) (told : AreToldToRead files (inputs_of request) texts) where
    abbrev achieved : Achieves files files' out out' request
    achieved = asked_done words files files' out out' request asked done

    gives_here : Gives request texts achieved.output
    gives_here =
        let x = come request achieved.is.texts (gives achieved.output) achieved.is.answers in
        subst (λ z. Gives request z achieved.output) (same_texts files (inputs_of request) achieved.is.texts texts achieved.is.got x.0 told) x.1

  pub headline_done : ValuesHaveOneGroundBound → HasHeadline words files files' out out'
  headline_done ground r d p od op told =
      go (achieved (to_translate r) told.asked (d ∷ p ∷ []) read) (gives_here (to_translate r) told.asked (d ∷ p ∷ []) read)
    where
      read : AreToldToRead files (inputs_of (to_translate r)) (d ∷ p ∷ [])
      read = (told.domain_read, (told.problem_read, tt))

      go : (a : Achieves files files' out out' (to_translate r)) → GivesTranslation r d p a.output → KeepsPlans r d p od op out out'
      go a (texts, slots, written, e) =
          let stand : Stand (translation_output r.names texts slots).texts files files' = subst (λ (z : Output). Stand z.texts files files') e a.stands.0 in
          let line : TakesWhole (slots_line slots) out out' = subst (λ (z : Output). TakesWhole z.told out out') e a.stands.1 in
          keeps ground r d p out out' texts slots written od op
          (held_there files.held _ texts.domain od stand.held.0 told.domain_held)
          (held_there files.held _ texts.problem op stand.held.1.0 told.problem_held) line

  pub bound_done : ValuesHaveOneGroundBound → HasBound words files out out'
  bound_done ground r d p asked read = go (achieved (to_bound r) asked (d ∷ p ∷ []) read) (gives_here (to_bound r) asked (d ∷ p ∷ []) read)
    where
      go : (a : Achieves files files' out out' (to_bound r)) → GivesBound r d p a.output → TellsBound r d p out out'
      go a (n, (c, source, bound), small, e) =
          let line : TakesWhole (bound_line n) out out' = subst (λ (z : Output). TakesWhole z.told out out') e a.stands.1 in
          bound_here ground r d p out out' n c source bound line

  pub plan_done : HasPlan words files out out'
  plan_done r pd pp plan asked read = go (achieved (to_validate r) asked (pd ∷ pp ∷ plan ∷ []) read) (gives_here (to_validate r) asked (pd ∷ pp ∷ plan ∷ []) read)
    where
      go : (a : Achieves files files' out out' (to_validate r)) → GivesPlan pd pp plan a.output → TellsPlan pd pp plan out out'
      go a (are, e) =
          let line : TakesWhole valid_line out out' = subst (λ (z : Output). TakesWhole z.told out out') e a.stands.1 in
          plan_here pd pp plan out out' are line

  pub tree_done : ValuesAreDecodedAlikeAs → ValuesHaveOneGroundBound → HasTree words files out out'
  tree_done alike ground r d p plan asked read =
      go (achieved (to_decode r) asked (d ∷ p ∷ plan ∷ []) read) (gives_here (to_decode r) asked (d ∷ p ∷ plan ∷ []) read)
    where
      go : (a : Achieves files files' out out' (to_decode r)) → GivesTree r d p plan a.output → TellsTree r d p plan out out'
      go a (c, steps, slots, text, is, has, e) =
          let line : TakesWhole text out out' = subst (λ (z : Output). TakesWhole z.told out out') e a.stands.1 in
          tree_here alike ground r d p plan c steps slots is text has out out' line

  pub steps_done : LawsUsed → HasSteps words files out out'
  steps_done laws r d p hplan asked read =
      go (achieved (to_encode r) asked (d ∷ p ∷ hplan ∷ []) read) (gives_here (to_encode r) asked (d ∷ p ∷ hplan ∷ []) read)
    where
      go : (a : Achieves files files' out out' (to_encode r)) → GivesSteps r d p hplan a.output → TellsSteps r d p hplan out out'
      go a (c, plan, text, s, (width, steps, is, t), e) =
          let told : TakesWhole text out out' = subst (λ (z : Output). TakesWhole z.told out out') e a.stands.1 in
          steps_here laws.encoded r d p hplan c plan s.spelled.spelled (encoded_as laws) (decoded_as laws) s.ordered width steps is out out' (subst (λ z. TakesWhole z out out') t told)

  pub made_done : LawsUsed → HasMade words files' out out'
  made_done laws r od op asked domain_held problem_held = go (achieved (to_make r) asked [] tt) (gives_here (to_make r) asked [] tt)
    where
      go : (a : Achieves files files' out out' (to_make r)) → GivesMake r a.output → KeepsMade r od op out out'
      go a (texts, actions, bound, width, steps, are, e) =
          let stand : Stand (texts_for (translation_for r).names texts) files files' = subst (λ (z : Output). Stand z.texts files files') e a.stands.0 in
          let line : TakesWhole (summary (packages r) actions bound width steps) out out' = subst (λ (z : Output). TakesWhole z.told out out') e a.stands.1 in
          let domain_is = held_there files.held _ texts.domain od stand.held.0 domain_held in
          let problem_is = held_there files.held _ texts.problem op stand.held.1.0 problem_held in
          keeps_made laws r out out' texts actions bound width steps are od op domain_is problem_is
          (keep_here laws.ground (translation_for r) made_domain (problem_of r) out out' texts bound are.written od op domain_is problem_is) line

  pub pruned_done : HasPruned words files files' out out'
  pruned_done r d p od op asked read domain_held problem_held = go (achieved (to_prune r) asked (d ∷ p ∷ []) read) (gives_here (to_prune r) asked (d ∷ p ∷ []) read)
    where
      go : (a : Achieves files files' out out' (to_prune r)) → GivesPrune r d p a.output → KeepsPruned d p od op out out'
      go a (value, spell, short, e) =
          let stand : Stand (texts_for r.names (hddl_texts_of value)) files files' = subst (λ (z : Output). Stand z.texts files files') e a.stands.0 in
          let line : TakesWhole (kept_line_of value) out out' = subst (λ (z : Output). TakesWhole z.told out out') e a.stands.1 in
          keeps_pruned d p value spell od op
          (held_there files.held _ (hddl_domain_text value) od stand.held.0 domain_held)
          (held_there files.held _ (hddl_problem_text value) op stand.held.1.0 problem_held) out out' line

-- a finding that was told, and no other refusal has this status
pub finding_refused : (laws : LawsUsed) (words : List Word) (files files' : FilesState) (out out' : SinkState) (refusal : Refusal) → IsRefused words files files' out out' refusal → status_of refusal ≡ status.Finding → (err err' : SinkState) → Told (line_of refusal) err err'
    → HasFinding words files err err'
finding_refused laws words files files' out out' (refused.Finding f) left e err err' line request texts asked told =
    let left_here = asked_left words files files' out out' request (refused.Finding f) asked left in
    let is = left_here.0 in
    let x = come request is.texts (refuses (refused.Finding f)) is.answers in
    finding_here laws request texts f (subst (λ z. Refuses request z (refused.Finding f)) (same_texts files (inputs_of request) is.texts texts is.got x.0 told) x.1) err err' line
finding_refused laws words files files' out out' refused.Words left e err err' line request texts asked told = absurd (cc)
finding_refused laws words files files' out out' (refused.Fault place code) left e err err' line request texts asked told = absurd (cc)
finding_refused laws words files files' out out' (refused.Limit l) left e err err' line request texts asked told = absurd (cc)
finding_refused laws words files files' out out' (refused.Failure (failure.Reading name)) left e err err' line request texts asked told = absurd (cc)
finding_refused laws words files files' out out' (refused.Failure (failure.Writing name)) left e err err' line request texts asked told = absurd (cc)
finding_refused laws words files files' out out' (refused.Failure failure.Telling) left e err err' line request texts asked told = absurd (cc)
finding_refused laws words files files' out out' (refused.Failure failure.Memory) left e err err' line request texts asked told = absurd (cc)

-- The promise, whole, of a run that was done and of one that was refused.
module _ (laws : LawsUsed) (words : List Word) (files files' : FilesState) (out out' : SinkState) where
  pub promise_done : (err : SinkState) → IsDone words files files' out out' → KeepsPromise words files files' out out' err err status.Done
  promise_done err done = record {
    translate = λ e. headline_done words files files' out out' done laws.ground;
    bound = λ e. bound_done words files files' out out' done laws.ground;
    decode = λ e. tree_done words files files' out out' done (decoded_as laws) laws.ground;
    encode = λ e. steps_done words files files' out out' done laws;
    validate = λ e. plan_done words files files' out out' done;
    make = λ e. made_done words files files' out out' done laws;
    prune = λ e. pruned_done words files files' out out' done;
    finding = λ e. absurd (cc);
  }

  pub promise_refused : (err err' : SinkState) (ended : Status) (refusal : Refusal) → ended ≡ status_of refusal → IsRefused words files files' out out' refusal → Told (line_of refusal) err err'
      → KeepsPromise words files files' out out' err err' ended
  promise_refused err err' ended refusal is left told = record {
    translate = λ e. absurd (never_done refusal (sym is ∙ e));
    bound = λ e. absurd (never_done refusal (sym is ∙ e));
    decode = λ e. absurd (never_done refusal (sym is ∙ e));
    encode = λ e. absurd (never_done refusal (sym is ∙ e));
    validate = λ e. absurd (never_done refusal (sym is ∙ e));
    make = λ e. absurd (never_done refusal (sym is ∙ e));
    prune = λ e. absurd (never_done refusal (sym is ∙ e));
    finding = λ e. finding_refused laws words files files' out out' refusal left (sym is ∙ e) err err' told;
  }
