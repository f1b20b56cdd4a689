-- What a pruning gives, or leaves that is refused, from what its steps do.
use Rattle.std.proofs.Common.{ℕ, ◌≡◌, ◌<◌, ◌≤◌, ◌^◌, List, [], ◌∷◌, ◌++◌, length, codes, decimal, Option, Some, None, refl, sym, ap, ◌∙◌, subst, inl, inr, arith}
use Rattle.std.proofs.lemmas.List.{length-append}
use Rattle.htn_base.specs.Limits.{longest_output}
use Rattle.plan_model.specs.declared.values.Hddl.{Hddl}
use Rattle.plan_texts.specs.SoundProblem.{IsSoundProblem}
use Rattle.text_values.specs.Values.{IsValueOf}
use Rattle.live_parts.proofs.PrunedSound.{is_sound}
use Rattle.hddl_prune.specs.Pruning.{IsPruned}
use Rattle.hddl_texts.specs.PrintedHddl.{hddl_domain_text, hddl_problem_text}
use Rattle.hddl_texts.specs.Lengths.{ArePrintedWithin}
use Rattle.hddl_texts.specs.declared.texts.Texts.{Texts as Printed}
use Rattle.hddl_texts.specs.declared.texts.Printed.TheVariants as P
use Rattle.command_words.specs.Words.{PruneRequest, to_prune}
use Rattle.htn_cli.specs.Answer.{Output}
use Rattle.htn_cli.specs.Lines.{kept_line}
use Rattle.htn_cli.specs.Made.{output_of}
use Rattle.htn_cli.specs.Pruning.{hddl_texts_of, SpellPruned, GivesPrune}
use Rattle.htn_cli.specs.PruneStops.{StopsKeeping, AreTextsOf, StopsText, AreWrittenOf, IsMadePruned, StopsMadePruned}
use Rattle.htn_cli.specs.Stops.{StopsTexts}
use Rattle.htn_cli.specs.Texts.{IsFirstTooLong}
use Rattle.htn_cli.specs.Translation.{texts_for}
use Rattle.htn_cli.specs.declared.output.Output.{Output as Made}
use Rattle.htn_cli.specs.declared.output.Written.{Written}
use Rattle.htn_cli.specs.declared.refusal.Failure.TheVariants as failure
use Rattle.htn_cli.specs.declared.refusal.Finding.TheVariants as finding
use Rattle.htn_cli.specs.declared.refusal.Limit.TheVariants as limit
use Rattle.htn_cli.specs.declared.refusal.Refusal.{Refusal}
use Rattle.htn_cli.specs.declared.refusal.Refusal.TheVariants as refused
use Rattle.htn_cli.proofs.Leavings.{few_digits, written_texts}
use Rattle.htn_cli.proofs.Printed.{short, first_too_long}

-- The line is short.
numbers_fit : (tasks methods actions : ℕ) → tasks < 2 ^ 128 → methods < 2 ^ 128 → actions < 2 ^ 128
    → length (kept_line tasks methods actions) ≤ longest_output
numbers_fit tasks methods actions t m a =
    let x = few_digits tasks t in
    let y = few_digits methods m in
    let z = few_digits actions a in
    let e = length-append (codes "tasks " ++ decimal tasks ++ codes " methods " ++ decimal methods ++ codes " actions " ++ decimal actions) (codes "\n") in
    let f = length-append (codes "tasks " ++ decimal tasks ++ codes " methods " ++ decimal methods ++ codes " actions ") (decimal actions) in
    let g = length-append (codes "tasks " ++ decimal tasks ++ codes " methods " ++ decimal methods) (codes " actions ") in
    let h = length-append (codes "tasks " ++ decimal tasks ++ codes " methods ") (decimal methods) in
    let i = length-append (codes "tasks " ++ decimal tasks) (codes " methods ") in
    let j = length-append (codes "tasks ") (decimal tasks) in
    omega (arith, x, y, z, e, f, g, h, i, j)

-- What is printed within the limit: both texts, or the length of the first that is too long.
pub whole_texts : (value : Hddl) (texts : Printed) → ArePrintedWithin value longest_output (P.Whole texts) → AreTextsOf value (record { domain = texts.domain; problem = texts.problem })
whole_texts value texts (d, p, df, pf) = (
  record {
    domain_fits = subst (λ z. length z ≤ longest_output) d (short (length texts.domain) df);
    problem_fits = subst (λ z. length z ≤ longest_output) p (short (length texts.problem) pf);
  },
  λ i. record { domain = d i; problem = p i },
)

pub past_text : (value : Hddl) (n : ℕ) → ArePrintedWithin value longest_output (P.TooLong n) → IsFirstTooLong (hddl_domain_text value) (hddl_problem_text value) n
past_text value n past = first_too_long (hddl_domain_text value) (hddl_problem_text value) n past

-- what is kept of a sound problem is sound
pub kept_is_sound : (source value : Hddl) → IsSoundProblem source → IsPruned source value → IsSoundProblem value
kept_is_sound source value sound is = subst IsSoundProblem (sym is.is) (is_sound source sound is.live is.kept is.kept_is)

module _ (r : PruneRequest) (d p : List ℕ) where
  pub prune_fits : (output : Output) → GivesPrune r d p output → length output.told ≤ longest_output
  prune_fits output (value, spell, short, e) =
      let few = (kept_is_sound spell.source value spell.read.sound spell.pruned).limits in
      let t = few.tasks in
      let m = few.methods in
      let a = few.actions in
      subst (λ (z : Output). length z.told ≤ longest_output) (sym e)
      (numbers_fit (length value.tasks) (length value.methods) (length value.actions) (omega (arith, t)) (omega (arith, m)) (omega (arith, a)))

  module _ (source : Hddl) (read : IsValueOf d p source) where
    abbrev Stopped : Refusal → Type 0
    Stopped = StopsTexts (to_prune r) (d ∷ p ∷ [])

    spell : (value : Hddl) → IsPruned source value → SpellPruned d p value
    spell value is = record { source = source; read = read; pruned = is }

    pub gives_pruned : (made : Made) → IsMadePruned r.names source made → GivesPrune r d p (output_of made)
    gives_pruned made (value, is, (are, line)) = go made.written are refl
      where
        go : (o : Option Written) → AreWrittenOf r.names value o → made.written ≡ o → GivesPrune r d p (output_of made)
        go None are e = absurd are
        go (Some w) (od, op, (short, texts)) e = (
          value,
          spell value is,
          short,
          (let a = written_texts r.names made.written w od op e ∙ ap (texts_for r.names) texts in λ i. record { texts = a i; told = line i }),
        )

    keeping_stops : (refusal : Refusal) → StopsKeeping source refusal → Stopped refusal
    keeping_stops (refused.Finding finding.NoSolution) cannot = inr (source, read, cannot)
    keeping_stops (refused.Failure failure.Memory) stops = tt
    keeping_stops _ stops = absurd stops

    text_stops : (value : Hddl) → IsPruned source value → (refusal : Refusal) → StopsText value refusal → Stopped refusal
    text_stops value is (refused.Limit (limit.Output n)) long = inr (value, spell value is, long)
    text_stops value is (refused.Failure failure.Memory) stops = tt
    text_stops value is _ stops = absurd stops

    pub pruned_stops : (refusal : Refusal) → StopsMadePruned source refusal → Stopped refusal
    pruned_stops refusal (inl stops) = keeping_stops refusal stops
    pruned_stops refusal (inr (value, is, stops)) = text_stops value is refusal stops
