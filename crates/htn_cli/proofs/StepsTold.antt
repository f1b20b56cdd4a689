-- Steps that were told: what is true of one value of the two texts is true of each.
use Rattle.std.proofs.Common.{ℕ, ◌≡◌, ◌≤◌, ◌↔◌, List, [], ◌∷◌, Contains, Option, Some, refl, sym, ◌∙◌, subst, inl, inr, ⊎_elim, arith}
use Rattle.outside_io.specs.Sink.{SinkState}
use Rattle.plan_model.specs.declared.steps.GroundAction.{GroundAction}
use Rattle.plan_model.specs.declared.values.Compiled.{Compiled}
use Rattle.plan_model.specs.declared.values.Hddl.{Hddl}
use Rattle.plan_model.specs.task_networks.Net.{Net}
use Rattle.plan_model.specs.task_networks.Tree.{Tree, Address, label}
use Rattle.plan_model.specs.task_networks.Pending.{ArePending, IsPending, IsWidth}
use Rattle.plan_model.specs.declared.options.Checks.{Checks}
use Rattle.plan_model.specs.plan_meaning.Bound.{IsBound}
use Rattle.plan_model.specs.plan_meaning.Compilation.{IsCompiled}
use Rattle.plan_model.specs.plan_meaning.Network.{network}
use Rattle.plan_model.specs.plan_meaning.Solution.{IsSolution}
use Rattle.plan_model.proofs.task_networks.Lists.{not-in_empty, head_or_tail}
use Rattle.plan_texts.specs.FirstSeen.{IsHddlOf}
use Rattle.schedules.specs.latest.PlanLines.{IsRenumbering}
use Rattle.schedules.specs.latest.Shown.{plan_of}
use Rattle.hplan_text.specs.declared.values.HPlan.{HPlan}
use Rattle.hplan_text.specs.Printable.{IsSoundHPlan}
use Rattle.hplan_text.specs.ShownLaws.{IsShownOnce}
use Rattle.hplan_text.proofs.ShownOnce.{each_is_shown_once}
use Rattle.hplan_text.proofs.SpelledSound.{read-sound}
use Rattle.plan_encoder.specs.Calls.{lines_of, words, ShowsUnderSomeIds}
use Rattle.plan_encoder.specs.Laws.{IsOf, SomeSolutionShows}
use Rattle.plan_encoder.proofs.ShownLines.{shown_are_lines}
use Rattle.placements.specs.Laws.{IsRefused}
use Rattle.placements.proofs.PlacedPlans.{placed_are_solutions}
use Rattle.placements.proofs.RefusedPlans.{refused_are_shown_by_none}
use Rattle.step_texts.specs.StepTexts.{slots_for, steps_text}
use Rattle.decode_answers.specs.DecodeLaws.{IsDecodable}
use Rattle.encode_answers.specs.EncodeLaws.{AreEncodedAlike, NoWidthIsPastTheBound, ValuesAreEncodedAlike}
use Rattle.command_words.specs.Words.{EncodeRequest}
use Rattle.htn_cli.specs.Encoding.{IsFound, slots_of, SpellHPlan}
use Rattle.htn_cli.specs.PrintedForms.{IsOrderedFor}
use Rattle.htn_cli.specs.Problem.{SpellProblem}
use Rattle.htn_cli.specs.Refusal.{line_of}
use Rattle.htn_cli.specs.Sent.{TakesWhole, Told}
use Rattle.htn_cli.specs.ShownForms.{SpellShownAs}
use Rattle.htn_cli.specs.SpelledForms.{IsSpelledAs}
use Rattle.htn_cli.specs.promise.Problems.{ForEach}
use Rattle.htn_cli.specs.promise.Steps.{SaysWhy, TellsSteps, TellsNoSteps}
use Rattle.htn_cli.specs.declared.refusal.Finding.{Finding}
use Rattle.htn_cli.specs.declared.refusal.Finding.TheVariants as finding
use Rattle.htn_cli.specs.declared.refusal.Refusal.TheVariants as refused
use Rattle.htn_cli.proofs.DecodedByForm.{ValuesAreDecodedAlikeAs}
use Rattle.htn_cli.proofs.EncodedByForm.{ValuesAreEncodedAlikeAs, AreSpelledSo, spelled_so}
use Rattle.htn_cli.proofs.EachProblem.{graph, faithful_of_each}

-- at first the root is pending, so a width is at least 1
module _ (N : Net) (tree : Tree N) where
  root_pending : (p : Address) → Contains ([] ∷ []) p → IsPending N tree [] p
  root_pending p h = go p (⊎_elim sym (λ k. absurd (not-in_empty p k)) (head_or_tail [] [] p h))
    where
      go : (p : Address) → p ≡ [] → IsPending N tree [] p
      go p e = subst (IsPending N tree []) (sym e) (record { address = (label N tree, refl); begun = tt; left = λ k. not-in_empty [] k })

  first_pending : ArePending N tree [] ([] ∷ [])
  first_pending = record { different = (λ k. not-in_empty [] k, tt); pending = root_pending }

  some_width : (width : ℕ) (order : List Address) → IsWidth N width tree order → 1 ≤ width
  some_width width order is = is.within [] order ([] ∷ []) refl first_pending

-- a plan of the problem that two texts spell comes to the same over each value of the texts
module _ (encoded : ValuesAreEncodedAlike) (d p : List ℕ) (checks : Checks) (c : Compiled) (source : SpellProblem d p checks c) (plan : HPlan) where
  pub of : IsOf source.value checks c
  of = record { sound = source.read.sound; ordered = source.read.ordered; compiled = source.compiled_is }

  pub each : (h : Hddl) (k : Compiled) → IsHddlOf d p h → IsCompiled h checks k → AreEncodedAlike c k plan
  each h k s compiled = encoded d p source.value h checks c k plan source.read.spelled s of compiled

  module _ (given : Option ℕ) where
    found_there : (k : Compiled) → AreEncodedAlike c k plan → (f : Finding) → IsFound c plan given f → IsFound k plan given f
    found_there k same (finding.NoMatch id) is = same.unmatched id is
    found_there k same (finding.NotExecutable id) is = same.not_executable id is
    found_there k same finding.GoalFalse is = same.misses is
    found_there k same finding.NoPlacement is = same.no_place is
    found_there k same (finding.NeedsBound width) (wide, needs) = (same.width width wide, needs)
    found_there k same _ is = absurd is

    -- no solution shows a plan that is refused by a sentence
    module _ (sound : IsSoundHPlan plan) where
      not_shown : IsRefused c plan → SomeSolutionShows c plan → ⊥
      not_shown = refused_are_shown_by_none c source.value checks of plan sound

      none_shown : (f : Finding) → IsFound c plan given f → ((width : ℕ) → f ≡ finding.NeedsBound width → ⊥) → SomeSolutionShows c plan → ⊥
      none_shown (finding.NoMatch id) is wide = not_shown (inl (id, is))
      none_shown (finding.NotExecutable id) is wide = not_shown (inr (inl (id, is)))
      none_shown finding.GoalFalse is wide = not_shown (inr (inr (inl is)))
      none_shown finding.NoPlacement is wide = not_shown (inr (inr (inr is)))
      none_shown (finding.NeedsBound width) is wide = absurd (wide width refl)
      none_shown _ is wide = absurd is

      module _ (past : NoWidthIsPastTheBound) where
        -- as many slots as the bound are enough
        enough_slots : (h : Hddl) (k : Compiled) → IsHddlOf d p h → IsCompiled h checks k → (f : Finding) → IsFound c plan given f
            → (bound slots width : ℕ) → IsBound k bound → given ≡ Some slots → bound ≤ slots → f ≡ finding.NeedsBound width → ⊥
        enough_slots h k s compiled f is bound slots width b e l g =
            let (wide, (n, same, less)) = subst (IsFound c plan given) g is in
            let here = (bound_of_each_back h k s compiled bound).0 b in
            let fits = past source.value checks c of bound here plan width wide in
            let again : n ≡ slots = some_same n slots (sym same ∙ e) in
            omega (arith, fits, less, again, l)
          where
            some_same : (n m : ℕ) → Some n ≡ Some m → n ≡ m
            some_same n m e = cc

            bound_of_each_back : (h : Hddl) (k : Compiled) → IsHddlOf d p h → IsCompiled h checks k → (n : ℕ) → IsBound k n ↔ IsBound c n
            bound_of_each_back h k s compiled n = (graph d p checks c source h k s compiled).bound n

        -- why the plan has no steps is said of each value
        pub says_why : (f : Finding) → IsFound c plan given f → ForEach d p checks (λ h k. SaysWhy given plan f k)
        says_why f is h k s compiled =
            let same = each h k s compiled in
            record {
              sentence = found_there k same f is;
              none = λ wide x. none_shown f is wide (same.shown.1 x);
              enough = enough_slots h k s compiled f is;
            }

module _ (encoded : ValuesAreEncodedAlike) (request : EncodeRequest) (d p hplan : List ℕ) (c : Compiled) (plan : HPlan) (spelled : SpellHPlan request d p hplan c plan) where
  abbrev source : SpellProblem d p request.checks c
  source = spelled.problem_is

  -- a plan that was said to have no steps
  pub no_steps_here : NoWidthIsPastTheBound → (f : Finding) → IsFound c plan (slots_of request) f → (err err' : SinkState) → Told (line_of (refused.Finding f)) err err' → TellsNoSteps request d p hplan err err'
  no_steps_here past f is err err' told =
      record {
        plan = plan;
        read = spelled.read;
        found = f;
        told = told;
        says = says_why encoded d p request.checks c source plan (slots_of request) (read-sound hplan plan spelled.read) past f is;
      }

  module _ (encoded_as : ValuesAreEncodedAlikeAs) (decoded_as : ValuesAreDecodedAlikeAs) (ordered : IsOrderedFor request.form c) (width : ℕ) (steps : List GroundAction)
      (is : IsSpelledAs request.form c plan (slots_for (slots_of request) width) width steps) where
    abbrev slots : ℕ
    slots = slots_for (slots_of request) width

    so : AreSpelledSo request.form c plan slots width steps
    so = spelled_so request.form c plan slots width steps is

    placed : IsSolution c so.tree so.order × ShowsUnderSomeIds c plan so.tree so.order
    placed = placed_are_solutions c source.value request.checks (of encoded d p request.checks c source plan) plan so.tree so.order so.placed

    some_slot : 1 ≤ slots
    some_slot = let some = some_width (network c) so.tree width so.order so.width_is in let within = so.within in omega (arith, some, within)

    decodable : IsDecodable source.value request.checks c slots
    decodable = record { sound = source.read.sound; ordered = source.read.ordered; compiled = source.compiled_is; some_slot = some_slot; few_slots = so.few }

    -- the finished tree shows one plan, whose lines are the tree's
    once : IsShownOnce c so.tree so.order
    once = each_is_shown_once c so.tree so.order placed.0.finished

    each_shown : (h : Hddl) (k : Compiled) → IsHddlOf d p h → IsCompiled h request.checks k → SpellShownAs request.form k slots steps once.plan
    each_shown h k s compiled =
        (decoded_as request.form d p source.value h request.checks c k slots steps source.read.spelled s decodable ordered compiled).shown once.plan
        (so.shows placed.0 once.plan once.shows)

    lines_are : lines_of once.plan ≡ plan_of (network c) (words c) so.tree so.order
    lines_are = (shown_are_lines c so.tree so.order once.plan placed.0.finished).0 once.shows

    renumbered : IsRenumbering placed.1.0 (lines_of plan) (lines_of once.plan)
    renumbered = subst (λ z. IsRenumbering placed.1.0 (lines_of plan) z) (sym lines_are) placed.1.1

    each_spelled : (h : Hddl) (k : Compiled) → IsHddlOf d p h → IsCompiled h request.checks k → IsSpelledAs request.form k plan slots width steps
    each_spelled h k s compiled =
        (encoded_as request.form d p source.value h request.checks c k plan source.read.spelled s (of encoded d p request.checks c source plan) compiled).spelled slots width steps is

    pub steps_here : (out out' : SinkState) → TakesWhole (steps_text width steps) out out' → TellsSteps request d p hplan out out'
    steps_here out out' told = record {
      plan = plan;
      read = spelled.read;
      steps = steps;
      width = width;
      slots = slots;
      slots_are = refl;
      told = told;
      latest = each_spelled;
      shown = once.plan;
      shows = each_shown;
      new = placed.1.0;
      renumbered = renumbered;
      is_plan = λ h k s compiled rule style value printed.
          ((faithful_of_each d p request.checks c source request.form rule slots style value h k s printed source.value c source.read.spelled source.compiled_is).plans steps).1
          (so.by_rule placed.0 rule);
    }
