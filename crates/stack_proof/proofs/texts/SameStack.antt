-- What is printed of a compiled value with a stack is printed of each that is the same but for names, and their methods are ordered alike.
use Rattle.std.proofs.Common.{ℕ, suc, ◌≡◌, ◌+◌, List, [], ◌∷◌, ◌++◌, map, length, ap, sym, subst, ◌∙◌}
use Rattle.htn_base.specs.Escapes.{escaped}
use Rattle.plan_texts.specs.SpellsHddl.{hddl_words}
use Rattle.plan_texts.specs.SoundValue.{IsSoundHddl}
use Rattle.plan_texts.specs.Together.{Together}
use Rattle.plan_model.specs.declared.options.Style.TheVariants.{Adl}
use Rattle.plan_model.specs.declared.terms.GroundAtom.{GroundAtom}
use Rattle.plan_model.specs.declared.terms.Term.TheVariants.{Obj}
use Rattle.plan_model.specs.declared.formulas.Formula.TheVariants.{Holds, And}
use Rattle.plan_model.specs.declared.values.Compiled.{Compiled}
use Rattle.plan_model.specs.declared.values.Pddl.{Pddl}
use Rattle.plan_model.specs.task_networks.Spelling.{numbers}
use Rattle.plan_model.specs.plan_meaning.Network.{InTypeOf}
use Rattle.plan_model.specs.plan_meaning.Compilation.{once, Keeps}
use Rattle.slot_encoding.specs.SourceParts.{name}
use Rattle.slot_encoding.specs.EncodedNames.{guard_types}
use Rattle.slot_encoding.specs.EncodedValue.{atom, same_atom, AreGuardAtoms}
use Rattle.plan_proof.specs.Same.{AreSameButNames}
use Rattle.plan_proof.proofs.values.TypeNumbers.{AreApart}
use Rattle.plan_proof.proofs.values.SameTypes.{in_same}
use Rattle.plan_proof.proofs.values.SamePlans.{keeps-more}
use Rattle.plan_proof.proofs.values.SameActions.{Alike, predicates-count, objects-count, guard_types-same, guard-same, condition-same}
use Rattle.stack_encoding.specs.StackValue.{first_atoms, IsInitial, IsStackEncoded}
use Rattle.stack_proof.proofs.texts.SameNames.{types-printed, objects-printed, predicates-printed}
use Rattle.stack_proof.proofs.texts.SameActions.{actions-printed}

module _ (c d : Compiled) (same : AreSameButNames c.hddl d.hddl) (sc : IsSoundHddl c.hddl) (sd : IsSoundHddl d.hddl) (apart : AreApart (hddl_words d.hddl).unions) (plans : Together (Alike c d same sc sd apart) c.methods d.methods) where
  module _ (names : List (List ℕ)) (b : ℕ) where
    first-same : first_atoms c names b ≡ first_atoms d names b
    first-same =
        let t = predicates-count c d same sc sd apart plans in let o = objects-count c d same sc sd apart plans in
        λ i. atom (t i) (o i + 1) ∷ atom (t i + 1) (o i + 1) ∷ map (λ k. record { predicate = t i + 2; args = (o i + k) ∷ (o i + suc k) ∷ [] }) (numbers 0 b) ++ once same_atom (same.alike.init i)

    guard_atoms : (tys : List ℕ) (atoms : List GroundAtom) → AreGuardAtoms d names b Adl tys atoms → AreGuardAtoms c names b Adl tys atoms
    guard_atoms [] atoms e = e
    guard_atoms (ty ∷ tys) atoms (members, rest, k, e, more) =
        let in_type = λ (o : ℕ). in_same c.hddl d.hddl same sc sd o ty in
        let k' = keeps-more (λ o. InTypeOf d o ty) (λ o. InTypeOf c o ty) (λ o. (in_type o).1) (λ o. (in_type o).0) (numbers 0 (length d.hddl.objects)) members k in (
          members,
          rest,
          subst (λ n. Keeps (λ o. InTypeOf c o ty) (numbers 0 n) members) (sym (objects-count c d same sc sd apart plans)) k',
          e ∙ ap (λ z. map (atom z) members ++ rest) (sym (guard-same c d same sc sd apart plans ty)),
          guard_atoms tys rest more,
        )

    initial : (init : List GroundAtom) → IsInitial d names b init → IsInitial c names b init
    initial init (guards, are, e) =
        (guards, subst (λ z. AreGuardAtoms c names b Adl z guards) (sym (guard_types-same c d same sc sd apart plans)) (guard_atoms (guard_types d) guards are), e ∙ ap (λ z. z ++ guards) (sym first-same))

  pub stack_encoded_too : (b : ℕ) (p : Pddl) → IsStackEncoded d b p → IsStackEncoded c b p
  stack_encoded_too b p e = record {
    domain = e.domain ∙ ap (λ z. name p.names (escaped z)) (sym same.alike.domains);
    problem = e.problem ∙ ap (λ z. name p.names (escaped z)) (sym same.alike.problems);
    types = e.types ∙ sym (types-printed c d same sc sd apart plans p.names b);
    objects = e.objects ∙ sym (objects-printed c d same sc sd apart plans p.names b);
    predicates = e.predicates ∙ sym (predicates-printed c d same sc sd apart plans p.names b);
    actions = e.actions ∙ sym (actions-printed c d same sc sd apart plans p.names b);
    init = initial p.names b p.init e.init;
    goal =
        let f = condition-same c d same sc sd apart plans p.names b Adl 0 c.hddl.goal d.hddl.goal [] [] same.alike.goal sc.goal sd.goal in
        let t = predicates-count c d same sc sd apart plans in
        let o = objects-count c d same sc sd apart plans in
        e.goal ∙ sym (λ i. And (f i ++ Holds (record { predicate = t i + 1; args = Obj (o i + 0) ∷ [] }) ∷ []));
  }
