-- The values of a stack over tables that have all its words say the same, so they have one pair of texts.
use Rattle.std.proofs.Common.{ℕ, ◌≡◌, List, [], ◌∷◌, ◌++◌, map, length, refl, ap, sym, subst, ◌∙◌}
use Rattle.text_forms.specs.Words.{Word}
use Rattle.plan_model.specs.declared.options.Style.TheVariants.{Adl}
use Rattle.plan_model.specs.declared.terms.GroundAtom.{GroundAtom}
use Rattle.plan_model.specs.declared.values.Compiled.{Compiled}
use Rattle.plan_model.specs.declared.values.Pddl.{Pddl}
use Rattle.plan_model.specs.task_networks.Spelling.{numbers}
use Rattle.plan_model.specs.plan_meaning.Network.{InTypeOf}
use Rattle.plan_texts.specs.PrintedTexts.{domain_text, problem_text}
use Rattle.slot_encoding.specs.EncodedNames.{guard_types, guard_predicate}
use Rattle.slot_encoding.specs.EncodedValue.{atom, AreGuardAtoms}
use Rattle.slot_encoding.specs.EncodedWords.{own_word}
use Rattle.slot_encoding.specs.encoded_texts.FullyEncoded.{SayTheSame}
use Rattle.slot_encoding.proofs.encoded_texts.KeptSame.{keeps-same}
use Rattle.slot_encoding.proofs.encoded_texts.SaidTexts.{domain-same, problem-same}
use Rattle.stack_encoding.specs.StackValue.{first_atoms, IsInitial}
use Rattle.stack_encoding.specs.StackPrinted.{IsFullyStackEncoded}
use Rattle.stack_encoding.proofs.StackOver.{stack_over, is_stack_over}
use Rattle.stack_encoding.proofs.words.KnownParts.{AreKnown, known_parts}
use Rattle.stack_encoding.proofs.said.StackSaidParts.{types-same, word, objects-said, predicates-said}
use Rattle.stack_encoding.proofs.said.StackSaidActions.{actions-said, goal-said}

module _ (c : Compiled) (b : ℕ) where
  -- the initial atoms are the same, whatever the table
  guards-same : (names names' : List Word) (tys : List ℕ) (atoms atoms' : List GroundAtom) → AreGuardAtoms c names b Adl tys atoms → AreGuardAtoms c names' b Adl tys atoms' → atoms ≡ atoms'
  guards-same names names' [] atoms atoms' e f = e ∙ sym f
  guards-same names names' (ty ∷ tys) atoms atoms' (members, rest, k, e, more) (members', rest', k', e', more') =
      let here = keeps-same (λ o. InTypeOf c o ty) (λ o. InTypeOf c o ty) (λ o h. h) (λ o h. h) (numbers 0 (length c.hddl.objects)) members members' k k' in
      let later = guards-same names names' tys rest rest' more more' in
      e ∙ (λ i. map (atom (guard_predicate c ty)) (here i) ++ later i) ∙ sym e'

  init-same : (names names' : List Word) (init init' : List GroundAtom) → IsInitial c names b init → IsInitial c names' b init' → init ≡ init'
  init-same names names' init init' (guards, g, e) (guards', g', e') = e ∙ ap (λ z. first_atoms c names b ++ z) (guards-same names names' (guard_types c) guards guards' g g') ∙ sym e'

  over-same : (names names' : List Word) (init init' : List GroundAtom) → AreKnown c b names → AreKnown c b names' → init ≡ init' → SayTheSame (stack_over c b names init) (stack_over c b names' init')
  over-same names names' init init' k k' e = record {
    domains = word c b names names' k k' (own_word c c.hddl.domain) k.domain k'.domain;
    problems = word c b names names' k k' (own_word c c.hddl.problem) k.problem k'.problem;
    types = types-same c b names names' k k';
    parents = refl;
    objects = objects-said c b names names' k k';
    predicates = predicates-said c b names names' k k';
    actions = actions-said c b names names' k k';
    init = e;
    goal = goal-said c b names names' k k';
  }

  pub stack-same : (p q : Pddl) → IsFullyStackEncoded c b p → IsFullyStackEncoded c b q → SayTheSame p q
  stack-same p q e f =
      let i = init-same p.names q.names p.init q.init e.encoded.init f.encoded.init in
      let same = over-same p.names q.names p.init q.init (known_parts c b p.names e.words) (known_parts c b q.names f.words) i in
      subst (λ z. SayTheSame z q) (sym (is_stack_over c b p e.encoded)) (subst (SayTheSame (stack_over c b p.names p.init)) (sym (is_stack_over c b q f.encoded)) same)

  -- the two texts of the one are those of the other
  pub stack_texts-same : (p q : Pddl) → IsFullyStackEncoded c b p → IsFullyStackEncoded c b q → (domain_text p ≡ domain_text q) × (problem_text p ≡ problem_text q)
  stack_texts-same p q e f = let same = stack-same p q e f in (domain-same p q same, problem-same p q same)
