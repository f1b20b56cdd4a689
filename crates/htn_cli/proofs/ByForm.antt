-- What holds by each form of what is printed.
use Rattle.std.proofs.Common.{ℕ, zero, suc, ◌<◌, ◌^◌, ◌≡◌, ◌≤◌, ◌⊎◌, inl, inr, List, length, Option, Some, None, slice_get, option_map, refl, sym, ap, ◌∙◌, subst}
use Rattle.plan_model.specs.declared.options.Checks.{Checks}
use Rattle.plan_model.specs.declared.options.Slots as rule
use Rattle.plan_model.specs.declared.options.Slots.TheVariants.{Any, First}
use Rattle.plan_model.specs.declared.options.Style.{Style}
use Rattle.plan_model.specs.declared.values.Compiled.{Compiled}
use Rattle.plan_model.specs.declared.values.Hddl.{Hddl}
use Rattle.plan_model.specs.declared.values.Pddl.{Pddl}
use Rattle.plan_model.specs.plan_meaning.Compilation.{IsCompiled}
use Rattle.plan_model.specs.plan_meaning.Laws.{AreOrdered}
use Rattle.plan_texts.specs.FirstSeen.{IsHddlOf}
use Rattle.plan_texts.specs.PrintableValue.{IsPrintable}
use Rattle.plan_texts.specs.PrintedTexts.{domain_text, problem_text}
use Rattle.plan_texts.specs.SoundValue.{IsSoundHddl}
use Rattle.slot_encoding.specs.Countable.{IsCountable}
use Rattle.slot_encoding.proofs.first_free.FirstExists.{has_encoded_value-by}
use Rattle.slot_encoding.proofs.first_free.FirstPrintable.{countable_printable-by}
use Rattle.slot_encoding.proofs.first_free.FirstSame.{encoded_texts-same-by}
use Rattle.std.proofs.lemmas.Option.{slice_get-map}
use Rattle.plan_model.specs.declared.schemas.MethodPlan.{MethodPlan}
use Rattle.plan_texts.specs.Declared.{named}
use Rattle.slot_encoding.specs.Printed.{IsPrintedBy}
use Rattle.slot_encoding.proofs.places.ListPlaces.{get_contains}
use Rattle.stack_encoding.specs.TotalOrder.{IsTotallyOrdered, IsFirstUnordered}
use Rattle.stack_encoding.specs.StackSpelling.{IsStackSpelling}
use Rattle.stack_encoding.specs.StackValue.{IsStackEncoded}
use Rattle.stack_encoding.specs.StackWords.{HasStackWords}
use Rattle.stack_encoding.specs.StackPrinted.{IsPrintedStack}
use Rattle.stack_encoding.proofs.StackOver.{has_stack_value}
use Rattle.stack_encoding.proofs.said.StackSame.{stack_texts-same}
use Rattle.stack_encoding.proofs.words.StackIsPrintable.{countable_stack_printable}
use Rattle.stack_proof.specs.OrderedAlike.{AreOrderedAlike, IsOrderedOrHasOneFirst}
use Rattle.stack_proof.specs.StackTexts.{AreStackTexts}
use Rattle.stack_proof.proofs.texts.Headlines as stack
use Rattle.stack_proof.proofs.texts.SamePrinted.{stack_printed_too}
use Rattle.stack_proof.proofs.texts.Lined as lined
use Rattle.stack_proof.proofs.texts.Texts as pair
use Rattle.stack_proof.proofs.texts.Unordered.{ordered_or_one_first}
use Rattle.bound_calc.specs.stratifier.CycleWords.{method_by}
use Rattle.plan_proof.specs.OneGraph.{plan_words}
use Rattle.plan_proof.specs.Headline.{HeadlineBy, HeadlineAtBoundBy, OnePlanForEach}
use Rattle.first_slots.proofs.Headlines.{printed_by-rule, headline_by-rule, at_bound_by-rule}
use Rattle.stack_proof.specs.OneTree.{OnePlanForEachTree}
use Rattle.command_words.specs.declared.form.PrintedForm.{PrintedForm}
use Rattle.command_words.specs.declared.form.PrintedForm.TheVariants.{Slots, Stack}
use Rattle.htn_cli.specs.PrintedForms.{IsOrderedFor, unordered_word, NamesUnordered, SpellingAs, IsEncodedAs, HasWordsAs, HasEncodedValueAs, IsPrintedAs}
use Rattle.htn_cli.specs.Problem.{SpellProblem}
use Rattle.htn_cli.proofs.Rules.{fully_of, printed_of, one_plan_by}
use Rattle.htn_cli.proofs.OneProblem.{texts_same}

-- what is encoded, over all its words
pub record IsFully (form : PrintedForm) (by : rule.Slots) (c : Compiled) (b : ℕ) (style : Style) (p : Pddl) : Type 0 where
  pub encoded : IsEncodedAs form by c b style p
  pub words : HasWordsAs form by c b p.names

module _ (by : rule.Slots) (c : Compiled) (b : ℕ) (style : Style) where
  -- each problem has an encoded value
  pub has_value : (form : PrintedForm) → HasEncodedValueAs form by c b style
  has_value Slots = let e = has_encoded_value-by by c b style in record { value = e.value; encoded = e.encoded; words = e.words; differ = e.differ }
  has_value Stack = let e = has_stack_value c b in record { value = e.value; encoded = e.encoded; words = e.words; differ = e.differ }

  -- all have the same texts
  pub same_texts : (form : PrintedForm) (v w : Pddl) → IsFully form by c b style v → IsFully form by c b style w → (domain_text v ≡ domain_text w) × (problem_text v ≡ problem_text w)
  same_texts Slots v w e f = encoded_texts-same-by by c b style v w (record { encoded = e.encoded; words = e.words }) (record { encoded = f.encoded; words = f.words })
  same_texts Stack v w e f = stack_texts-same c b v w (record { encoded = e.encoded; words = e.words }) (record { encoded = f.encoded; words = f.words })

  module _ (h : Hddl) (checks : Checks) (p : Pddl) (sound : IsSoundHddl h) (compiled : IsCompiled h checks c) where
    -- and can be printed
    pub printable_of : (form : PrintedForm) → IsEncodedAs form by c b style p → HasWordsAs form by c b p.names → IsCountable c b → suc b < 2 ^ 64 → IsPrintable p
    printable_of Slots encoded words countable few = countable_printable-by by h checks c b style p sound compiled encoded words countable
    printable_of Stack encoded words countable few = countable_stack_printable h checks c b p sound compiled encoded words countable few

    pub printed_as : (form : PrintedForm) → IsOrderedFor form c → IsPrintable p → IsEncodedAs form by c b style p → IsPrintedAs form by h checks c b style p
    printed_as Slots ordered printable encoded = printed_of by h checks c b style p sound compiled printable encoded
    printed_as Stack ordered printable encoded = record { sound = sound; compiled = compiled; ordered = ordered; printable = printable; encoded = encoded }

-- what is printed is encoded
module _ (by : rule.Slots) (h : Hddl) (checks : Checks) (c : Compiled) (b : ℕ) (style : Style) (p : Pddl) where
  pub fully : (form : PrintedForm) → IsPrintedAs form by h checks c b style p → HasWordsAs form by c b p.names → IsFully form by c b style p
  fully Slots printed words = let f = fully_of by h checks c b style p printed words in record { encoded = f.encoded; words = f.words }
  fully Stack printed words = record { encoded = printed.encoded; words = words }

  pub is_printable : (form : PrintedForm) → IsPrintedAs form by h checks c b style p → IsPrintable p
  is_printable Slots printed = printable-by by printed
    where
      printable-by : (z : rule.Slots) → IsPrintedBy z h checks c b style p → IsPrintable p
      printable-by Any is = is.printable
      printable-by First is = is.printable
  is_printable Stack printed = printed.printable

-- Methods that are not totally ordered: of two problems of two texts the same ones, with the same words.

-- the word of a method is the same where all methods have the same words
pub word_same : (c k : Compiled) → plan_words c ≡ plan_words k → (m : ℕ) → unordered_word c m ≡ unordered_word k m
word_same c k e zero = refl
word_same c k e (suc m) = go (slice_get c.methods (suc m)) (slice_get k.methods (suc m)) words
  where
    word : (x : Compiled) → MethodPlan → List ℕ
    word x plan = named x.hddl.names plan.schema.name

    words : option_map (word c) (slice_get c.methods (suc m)) ≡ option_map (word k) (slice_get k.methods (suc m))
    words = sym (slice_get-map (word c) c.methods (suc m)) ∙ ap (λ z. slice_get z (suc m)) e ∙ slice_get-map (word k) k.methods (suc m)

    go : (o q : Option MethodPlan) → option_map (word c) o ≡ option_map (word k) q → method_by c o ≡ method_by k q
    go None None f = refl
    go (Some x) (Some y) f = cc
    go None (Some y) f = absurd (cc)
    go (Some x) None f = absurd (cc)

pub unordered_not : (c : Compiled) (word : List ℕ) → NamesUnordered c word → IsTotallyOrdered c → ⊥
unordered_not c word (m, first, is) total = first.unordered (total first.plan (get_contains c.methods m first.plan first.is))

-- one method at most is the first that is not totally ordered
one_first : (c : Compiled) (m n : ℕ) → IsFirstUnordered c m → IsFirstUnordered c n → m ≡ n
one_first c m n a b = go (ordered_or_one_first c)
  where
    go : IsOrderedOrHasOneFirst c → m ≡ n
    go (inl total) = absurd (unordered_not c (unordered_word c m) (m, a, refl) total)
    go (inr (k, is, only)) = only m a ∙ sym (only n b)

-- a form takes a problem, or it is a stack, and a method is the first that is not totally ordered
pub ordered_or_not : (c : Compiled) (form : PrintedForm) → IsOrderedFor form c ⊎ ((form ≡ Stack) × ((word : List ℕ) × NamesUnordered c word))
ordered_or_not c Slots = inl tt
ordered_or_not c Stack = elim (ordered_or_one_first c) [ inl o ↦ inl o | inr (m, first, only) ↦ inr (refl, (unordered_word c m, (m, first, refl))) ]

module _ (d p : List ℕ) (checks : Checks) (c k : Compiled) (one : SpellProblem d p checks c) (other : SpellProblem d p checks k) where
  pub ordered_alike : AreOrderedAlike c k
  ordered_alike = lined.ordered_alike d p other.value one.value checks k c other.read.spelled one.read.spelled other.read.sound.value other.compiled_is one.compiled_is

  pub one_unordered : (word more : List ℕ) → NamesUnordered c word → NamesUnordered k more → word ≡ more
  one_unordered word more (m, first, is) (n, also, are) =
      let same = one_first k m n ((ordered_alike.first m).0 first) also in
      is ∙ word_same c k ordered_alike.words m ∙ ap (unordered_word k) same ∙ sym are

-- two problems of two texts
module _ (d p : List ℕ) (checks : Checks) (c k : Compiled) (one : SpellProblem d p checks c) (other : SpellProblem d p checks k) (by : rule.Slots) (b : ℕ) (style : Style) where
  pub texts_of_both : (form : PrintedForm) → IsOrderedFor form c → IsOrderedFor form k → (v w : Pddl) → IsFully form by c b style v → IsFully form by k b style w
      → (domain_text v ≡ domain_text w) × (problem_text v ≡ problem_text w)
  texts_of_both Slots o q v w e f = texts_same d p checks c k one other by b style v w (record { encoded = e.encoded; words = e.words }) (record { encoded = f.encoded; words = f.words })
  texts_of_both Stack o q v w e f =
      pair.one_pair d p checks b (domain_text v) (problem_text v) (domain_text w) (problem_text w) (texts_by c one o v e.encoded e.words) (texts_by k other q w f.encoded f.words)
    where
      texts_by : (x : Compiled) (s : SpellProblem d p checks x) → IsTotallyOrdered x → (u : Pddl) → IsStackEncoded x b u → HasStackWords x b u.names → AreStackTexts d p checks b (domain_text u) (problem_text u)
      texts_by x s o u encoded words = record {
        read = s.value;
        spelled = s.read.spelled;
        sound = s.read.sound.value;
        compiled = x;
        is_compiled = s.compiled_is;
        ordered = o;
        value = u;
        is_encoded = record { encoded = encoded; words = words };
        domain_is = refl;
        problem_is = refl;
      }

  -- the methods of both are totally ordered, or those of neither
  pub ordered_too : (form : PrintedForm) → IsOrderedFor form c → IsOrderedFor form k
  ordered_too Slots o = tt
  ordered_too Stack o = ((ordered_alike d p checks c k one other).ordered).0 o

-- what two printed texts are
module _ (d p : List ℕ) (h : Hddl) (checks : Checks) (c : Compiled) (b : ℕ) (style : Style) (v : Pddl) (spelled : IsHddlOf d p h) (ordered : AreOrdered h) (by : rule.Slots) where
  pub headline : (form : PrintedForm) → IsPrintedAs form by h checks c b style v → HeadlineBy (SpellingAs form by) d p checks b (domain_text v) (problem_text v)
  headline Slots printed = headline_by-rule d p h checks c b style v spelled ordered by printed
  headline Stack printed = stack.headline_of d p h checks c b v spelled printed ordered

  pub at_bound : (form : PrintedForm) → IsPrintedAs form by h checks c b style v → HeadlineAtBoundBy (SpellingAs form by) d p checks b (domain_text v) (problem_text v)
  at_bound Slots printed = at_bound_by-rule d p h checks c b style v spelled ordered by printed
  at_bound Stack printed = stack.at_bound_of d p h checks c b v spelled printed ordered

  one_tree : IsPrintedStack h checks c b v → OnePlanForEachTree IsStackSpelling d p checks b (domain_text v) (problem_text v)
  one_tree printed = stack.tree_plans_of d p h checks c b v spelled printed ordered

  pub one_plan : (form : PrintedForm) → by ≡ First → IsPrintedAs form by h checks c b style v → OnePlanForEach (SpellingAs form by) d p checks b (domain_text v) (problem_text v)
  one_plan Slots first printed = one_plan_by d p h checks c b style v spelled ordered by first printed
  one_plan Stack first printed = λ k q is are tree order solution within.
      (let (steps, cell, s, plan, only) = one_tree printed k q is are tree order solution within in (steps, cell, s, plan, λ others cell' z. only others order cell' z))

  pub one_plan_for_tree : (form : PrintedForm) → form ≡ Stack → IsPrintedAs form by h checks c b style v → OnePlanForEachTree (SpellingAs form by) d p checks b (domain_text v) (problem_text v)
  one_plan_for_tree Slots e printed = absurd (cc)
  one_plan_for_tree Stack e printed = one_tree printed

-- what is printed for one problem of two texts is printed for each
pub printed_too : (d p : List ℕ) (h k : Hddl) (checks : Checks) (c q : Compiled) (b : ℕ) (style : Style) (v : Pddl) → IsHddlOf d p h → IsHddlOf d p k → IsCompiled k checks q → (by : rule.Slots) (form : PrintedForm)
    → IsPrintedAs form by h checks c b style v → IsPrintedAs form by k checks q b style v
printed_too d p h k checks c q b style v spelled spelled' compiled' by Slots printed = printed_by-rule d p h k checks c q b style v spelled spelled' compiled' by printed
printed_too d p h k checks c q b style v spelled spelled' compiled' by Stack printed = stack_printed_too d p h k checks c q b v spelled printed spelled' compiled'
