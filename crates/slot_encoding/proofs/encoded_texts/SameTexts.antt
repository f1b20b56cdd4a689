-- What is encoded of a compiled value over tables that have all its words says the same, so it has one pair of texts.
use Rattle.std.proofs.Common.{ℕ, ◌≡◌, List, [], ◌∷◌, ◌++◌, map, length, refl, ap, sym, subst, ◌∙◌}
use Rattle.text_forms.specs.Words.{Word}
use Rattle.plan_model.specs.declared.options.Style.{Style}
use Rattle.plan_model.specs.declared.terms.GroundAtom.{GroundAtom}
use Rattle.plan_model.specs.declared.values.Compiled.{Compiled}
use Rattle.plan_model.specs.declared.values.Pddl.{Pddl}
use Rattle.plan_model.specs.task_networks.Spelling.{numbers}
use Rattle.plan_texts.specs.PrintedTexts.{domain_text, problem_text}
use Rattle.plan_model.specs.plan_meaning.Network.{InTypeOf}
use Rattle.slot_encoding.specs.EncodedNames.{guard_types, guard_predicate}
use Rattle.slot_encoding.specs.EncodedValue.{atom, first_atoms, AreGuardAtoms, IsInitial, IsEncoded}
use Rattle.slot_encoding.specs.EncodedWords.{own_word, HasEncodedWords}
use Rattle.slot_encoding.proofs.ValueOver.{over, is_over, over_is_encoded}
use Rattle.slot_encoding.proofs.existence.Kept.{some_guard_atoms}
use Rattle.slot_encoding.proofs.words.KnownWords.{known_domain, known_problem}
use Rattle.slot_encoding.specs.encoded_texts.FullyEncoded.{SayTheSame, IsFullyEncoded}
use Rattle.slot_encoding.proofs.encoded_texts.KeptSame.{keeps-same}
use Rattle.slot_encoding.proofs.encoded_texts.SaidTexts.{domain-same, problem-same}
use Rattle.slot_encoding.proofs.encoded_texts.EncodedParts.{types-same, word, objects-said, predicates-said}
use Rattle.slot_encoding.proofs.encoded_texts.EncodedActions.{actions-said, goal-said}

module _ (c : Compiled) (b : ℕ) (style : Style) where
  -- the initial atoms are the same, whatever the table
  guard_atoms-same : (names names' : List Word) (tys : List ℕ) (atoms atoms' : List GroundAtom) → AreGuardAtoms c names b style tys atoms → AreGuardAtoms c names' b style tys atoms' → atoms ≡ atoms'
  guard_atoms-same names names' [] atoms atoms' e f = e ∙ sym f
  guard_atoms-same names names' (ty ∷ tys) atoms atoms' (members, rest, k, e, more) (members', rest', k', e', more') =
      let m = keeps-same (λ o. InTypeOf c o ty) (λ o. InTypeOf c o ty) (λ o h. h) (λ o h. h) (numbers 0 (length c.hddl.objects)) members members' k k' in
      let r = guard_atoms-same names names' tys rest rest' more more' in
      e ∙ (λ i. map (atom (guard_predicate c ty)) (m i) ++ r i) ∙ sym e'

  pub init-same : (names names' : List Word) (init init' : List GroundAtom) → IsInitial c names b style init → IsInitial c names' b style init' → init ≡ init'
  init-same names names' init init' (guards, g, e) (guards', g', e') =
      e ∙ ap (λ z. first_atoms c names b style ++ z) (guard_atoms-same names names' (guard_types c) guards guards' g g') ∙ sym e'

  pub over-same : (names names' : List Word) (init init' : List GroundAtom) → HasEncodedWords c b names → HasEncodedWords c b names' → init ≡ init' → SayTheSame (over c b style names init) (over c b style names' init')
  over-same names names' init init' has has' e = record {
    domains = word c b names names' has has' (own_word c c.hddl.domain) (known_domain c b names has) (known_domain c b names' has');
    problems = word c b names names' has has' (own_word c c.hddl.problem) (known_problem c b names has) (known_problem c b names' has');
    types = types-same c b names names' has has';
    parents = refl;
    objects = objects-said c b names names' has has';
    predicates = predicates-said c b names names' has has';
    actions = actions-said c b style names names' has has';
    init = e;
    goal = goal-said c b style names names' has has';
  }

  pub encoded-same : (p q : Pddl) → IsFullyEncoded c b style p → IsFullyEncoded c b style q → SayTheSame p q
  encoded-same p q e f =
      let i = init-same p.names q.names p.init q.init e.encoded.init f.encoded.init in
      subst (λ z. SayTheSame z q) (sym (is_over c b style p e.encoded)) (subst (SayTheSame (over c b style p.names p.init)) (sym (is_over c b style q f.encoded)) (over-same p.names q.names p.init q.init e.words f.words i))

  -- the two texts of the one are those of the other
  pub encoded_texts-same : (p q : Pddl) → IsFullyEncoded c b style p → IsFullyEncoded c b style q → (domain_text p ≡ domain_text q) × (problem_text p ≡ problem_text q)
  encoded_texts-same p q e f = let same = encoded-same p q e f in (domain-same p q same, problem-same p q same)

  -- over any table there is an encoded value
  pub some_encoded : (names : List Word) → (p : Pddl) × (p.names ≡ names) × IsEncoded c b style p
  some_encoded names = let (guards, a) = some_guard_atoms c names b style (guard_types c) in (over c b style names (first_atoms c names b style ++ guards), refl, over_is_encoded c b style names guards a)
