-- A problem that was read over a domain that is bound: what it is refused for is its least fault, and what both texts are
-- read as.
use Rattle.std.proofs.Common.{ℕ, ◌≡◌, ◌≤◌, ◌+◌, length, arith, List, [], ◌∷◌, ◌++◌, Bool, true, false, cond, codes, sym, ◌∙◌, refl, subst, Some, None, Contains, true≢false}
use Rattle.std.specs.Str.{bytes_eq}
use Rattle.std.specs.List.{list_any}
use Rattle.std.proofs.lemmas.List.Folds.{list_any_at}
use Rattle.std.proofs.lemmas.Slice.Eq.{bytes_eq-Decides}
use Rattle.htn_base.specs.Limits.{longest_input}
use Rattle.htn_base.specs.Different.{AreDifferent}
use Rattle.htn_base.specs.Table.{with_word}
use Rattle.htn_base.proofs.DifferentLemmas.{different-push}
use Rattle.gd_reader.specs.Terms.{Names, Keeps}
use Rattle.gd_reader.proofs.Keeping.{keeps_same, keeps_then, keeps_word}
use Rattle.hddl_reader.specs.declared.sections.Language.{Language}
use Rattle.hddl_reader.specs.declared.sections.RawProblem.{RawProblem}
use Rattle.text_values.specs.form_spellings.ReadTexts.{AreRead}
use Rattle.text_values.proofs.form_spellings.order.Whole.{domains_in_order, problems_in_order}
use Rattle.plan_model.specs.declared.values.Hddl.{Hddl as Value}
use Rattle.name_binding.specs.Spots.{spot, noted}
use Rattle.hddl_bind.specs.declared.bound_domain.BoundDomain.{BoundDomain}
use Rattle.hddl_bind.specs.declared.errors.BindError.{BindError}
use Rattle.hddl_bind.specs.declared.errors.BindError.TheVariants.{Bad, Memory}
use Rattle.hddl_bind.specs.WholeProblems.{ProblemBinding, IsProblemBound, IsProblemRefused, with_start}
use Rattle.hddl_bind.specs.WholeProblems as problem
use Rattle.text_values.specs.form_spellings.binding_laws.WholeFaults.{AreInOrder}
use Rattle.text_values.proofs.form_spellings.binding_laws.WholeFaults.{domain_none, problem_least, problem_none}
use Rattle.text_values.specs.form_spellings.binding_laws.SoundValues.{IsBoundOf}
use Rattle.text_values.specs.Reading.{ReadsProblem, RefusesOver, IsBoundText, read_error}
use Rattle.text_values.specs.ReadAs.{AreReadAs}
use Rattle.text_values.specs.TextFaults.{IsProblemOf, IsGoodDomain, IsGoodProblem, problem_names}

-- a word more keeps words apart
pub differ_with : (words : Names) (w : List ℕ) → AreDifferent words → AreDifferent (with_word words w)
differ_with words w d = by (list_any (bytes_eq w) words) refl
  where
    new : list_any (bytes_eq w) words ≡ false → Contains words w → ⊥
    new none (k, below, same) = true≢false (sym (list_any_at (bytes_eq w) words k w below ((bytes_eq-Decides w _).1 (sym same))) ∙ none)

    by : (there : Bool) → list_any (bytes_eq w) words ≡ there → AreDifferent (cond there words (words ++ w ∷ []))
    by true e = d
    by false e = different-push words w d (new e)

module _ (l : Language) (domain text : List ℕ) (table later : Names) (b : BoundDomain) (bound : IsBoundText l domain table b) (p : RawProblem)
    (is : ReadsProblem l text table later p) (keeps : Keeps table later) (differ : AreDifferent later) where
  -- in each table that keeps all words
  module _ (last : Names) (stays : Keeps later last) (apart : AreDifferent last) where
    behind_keeps : Keeps bound.read.behind last
    behind_keeps = keeps_then bound.read.behind table last bound.read.keeps (keeps_then table later last keeps stays)

    pub in_order : AreInOrder table last bound.d p
    in_order = record {
      differ = apart;
      keeps = keeps_then table later last keeps stays;
      domain = domains_in_order l domain bound.read.before last (bound.d, bound.read.behind) bound.read.read behind_keeps apart;
      problem = problems_in_order l text table last (p, later) is.read stays;
    }

    pub are_read : AreRead l domain text last bound.d p
    are_read = record {
      before_domain = bound.read.before;
      behind_domain = bound.read.behind;
      domain_read = bound.read.read;
      keeps_domain = behind_keeps;
      before_problem = table;
      behind_problem = later;
      problem_read = is.read;
      keeps_problem = stays;
    }

  here : AreInOrder table later bound.d p
  here = in_order later (keeps_same later) differ

  good_domain : IsGoodDomain l domain later bound.d
  good_domain =
      let (object, of_object, (x, e, same)) = bound.bound in
      record {
        tokens = bound.tokens;
        read = record { before = bound.read.before; behind = bound.read.behind; read = bound.read.read; keeps = behind_keeps later (keeps_same later) differ };
        names = domain_none table later bound.d p here object of_object l x e;
      }

  problem_of : IsProblemOf l text later p
  problem_of = record { before = table; behind = later; read = is.read; keeps = keeps_same later }

  pub refused_for : (x : BindError) → IsProblemRefused b p x → RefusesOver l domain text (read_error x)
  refused_for Memory h = tt
  refused_for (Bad f) (file, (y, e)) =
      let (object, of_object, (x, ex, same)) = bound.bound in
      let r = subst (λ b. (y : ProblemBinding b p) × (noted None (problem.faults_by b p y) ≡ Some (spot f.at f.code))) same (y, e) in
      (file, problem_names later bound.d p good_domain is.tokens problem_of (problem_least table later bound.d p here object of_object l x r.0 f.code f.at r.1))

  good_problem : (h : Value) → IsProblemBound b p later h → IsGoodProblem l text later bound.d p
  good_problem h (start, of_start, (y, e, value)) =
      let (object, of_object, (x, ex, same)) = bound.bound in
      let r = subst (λ b. (y : ProblemBinding b p) × (problem.faults_by b p y ≡ [])) same (y, e) in
      record { tokens = is.tokens; read = problem_of; names = problem_none table later bound.d p here object of_object l x r.0 r.1 }

  -- in the table that has the word of the top method too
  abbrev last : Names
  last = with_start later

  bound_of : length text ≤ longest_input → length later ≤ length table + length text → (h : Value) → IsProblemBound b p later h → IsBoundOf l domain text h
  bound_of short more h value =
      let stays = keeps_word later (codes "htn_start") in
      let few = bound.few in
      record {
        domain_short = bound.short;
        problem_short = short;
        d = bound.d;
        p = p;
        before = table;
        left = later;
        read = are_read last stays (differ_with later (codes "htn_start") differ);
        differ = differ_with later (codes "htn_start") differ;
        keeps = keeps_then table later last keeps stays;
        few_words = omega arith;
        b = b;
        domain_bound = bound.bound;
        problem_bound = value;
      }

  pub read_of : length text ≤ longest_input → length later ≤ length table + length text → (h : Value) → IsProblemBound b p later h → AreReadAs domain text l h
  read_of short more h value = record {
    faultless = record { table = later; d = bound.d; p = p; domain_is = good_domain; problem_is = good_problem h value };
    bound = bound_of short more h value;
  }
