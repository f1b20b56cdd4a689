-- Two source texts have one pair of texts that are printed with a stack.
use Rattle.std.proofs.Common.{ℕ, ◌≡◌, List, ◌++◌, refl, sym, subst, ◌∙◌, Contains}
use Rattle.std.proofs.lemmas.List.Elements.{Contains-append_left, Contains-append_right}
use Rattle.text_forms.specs.Words.{Word}
use Rattle.plan_model.specs.declared.options.Checks.{Checks}
use Rattle.plan_model.specs.declared.values.Compiled.{Compiled}
use Rattle.plan_model.specs.declared.values.Hddl.{Hddl}
use Rattle.plan_model.specs.declared.values.Pddl.{Pddl}
use Rattle.plan_model.specs.plan_meaning.Compilation.{IsCompiled}
use Rattle.plan_texts.specs.FirstSeen.{IsHddlOf}
use Rattle.plan_texts.specs.PrintedTexts.{domain_text, problem_text}
use Rattle.plan_texts.specs.SoundValue.{IsSoundHddl}
use Rattle.plan_proof.proofs.values.Headlines.{same_but_names, unions_apart}
use Rattle.stack_encoding.specs.StackPrinted.{IsPrintedStack, IsFullyStackEncoded}
use Rattle.stack_encoding.specs.StackWords.{stack_words, HasStackWords}
use Rattle.stack_encoding.specs.TotalOrder.{IsTotallyOrdered}
use Rattle.stack_encoding.proofs.StackOver.{some_stack, has_stack_value}
use Rattle.stack_encoding.proofs.said.StackSame.{stack_texts-same}
use Rattle.stack_proof.specs.StackTexts.{AreStackTexts, HaveStackTexts}
use Rattle.stack_proof.proofs.texts.SamePrinted.{stack_encoded_by}

-- two pairs of printed texts of one pair of source texts
module _ (domain problem : List ℕ) (mode : Checks) (b : ℕ) (od op od' op' : List ℕ) (one : AreStackTexts domain problem mode b od op) (other : AreStackTexts domain problem mode b od' op') where
  abbrev words : List Word
  words = stack_words one.compiled b ++ stack_words other.compiled b

  -- one value that is encoded of both, over the words of both
  both : (p : Pddl) × IsFullyStackEncoded one.compiled b p × IsFullyStackEncoded other.compiled b p
  both =
      let (p, n, e) = some_stack other.compiled b words in
      let same = same_but_names domain problem one.read other.read one.spelled other.spelled other.sound in
      let apart = unions_apart domain problem one.read other.read one.spelled other.spelled other.sound in
      let d = stack_encoded_by other.read one.read mode other.compiled one.compiled same apart other.sound other.is_compiled one.is_compiled b p e in (
        p,
        record { encoded = d; words = λ w h. subst (λ z. Contains z w) (sym n) (Contains-append_left (stack_words one.compiled b) (stack_words other.compiled b) w h) },
        record { encoded = e; words = λ w h. subst (λ z. Contains z w) (sym n) (Contains-append_right (stack_words one.compiled b) (stack_words other.compiled b) w h) },
      )

  pub one_pair : (od ≡ od') × (op ≡ op')
  one_pair =
      let (p, e, f) = both in
      let from = stack_texts-same one.compiled b one.value p one.is_encoded e in
      let to = stack_texts-same other.compiled b p other.value f other.is_encoded in
      (one.domain_is ∙ from.0 ∙ to.0 ∙ sym other.domain_is, one.problem_is ∙ from.1 ∙ to.1 ∙ sym other.problem_is)

-- what the run knows of the value that it prints makes its texts those of the source texts
pub are_texts : (domain problem : List ℕ) (read : Hddl) (mode : Checks) (c : Compiled) (b : ℕ) (p : Pddl) → IsHddlOf domain problem read → IsPrintedStack read mode c b p → HasStackWords c b p.names → AreStackTexts domain problem mode b (domain_text p) (problem_text p)
are_texts domain problem read mode c b p spelled printed words = record {
  read = read;
  spelled = spelled;
  sound = printed.sound;
  compiled = c;
  is_compiled = printed.compiled;
  ordered = printed.ordered;
  value = p;
  is_encoded = record { encoded = printed.encoded; words = words };
  domain_is = refl;
  problem_is = refl;
}

-- each sound value whose methods are totally ordered has its pair of printed texts
pub some_pair : (domain problem : List ℕ) (read : Hddl) (mode : Checks) (c : Compiled) (b : ℕ) → IsHddlOf domain problem read → IsSoundHddl read → IsCompiled read mode c → IsTotallyOrdered c → HaveStackTexts domain problem mode b
some_pair domain problem read mode c b spelled sound compiled total =
    let e = has_stack_value c b in (
      domain_text e.value,
      problem_text e.value,
      record { read = read; spelled = spelled; sound = sound; compiled = c; is_compiled = compiled; ordered = total; value = e.value; is_encoded = record { encoded = e.encoded; words = e.words }; domain_is = refl; problem_is = refl },
    )
