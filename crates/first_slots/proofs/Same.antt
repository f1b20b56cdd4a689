-- What is encoded with first-free slots for a compiled value is encoded for each that is the same but for names.
use Rattle.std.proofs.Common.{ℕ, zero, suc, ◌≡◌, ◌+◌, ◌-◌, List, [], ◌∷◌, ◌++◌, map, length, refl, sym, ◌∙◌}
use Rattle.std.specs.Prelude.{codes}
use Rattle.plan_model.specs.declared.options.Style.{Style}
use Rattle.plan_model.specs.declared.terms.Term.TheVariants.{Var}
use Rattle.plan_model.specs.declared.formulas.Formula.TheVariants.{Holds, Equal, Not, And, Or, Imply, Forall}
use Rattle.plan_model.specs.declared.schemas.MethodPlan.{MethodPlan}
use Rattle.plan_model.specs.declared.values.Compiled.{Compiled}
use Rattle.plan_model.specs.declared.values.Pddl.{Pddl}
use Rattle.plan_model.specs.task_networks.Spelling.{numbers}
use Rattle.plan_texts.specs.SpellsHddl.{hddl_words}
use Rattle.plan_texts.specs.SoundValue.{IsSoundHddl}
use Rattle.plan_texts.specs.Together.{Together}
use Rattle.slot_encoding.specs.EncodedNames.{joined, free_predicate, slot_param}
use Rattle.slot_encoding.specs.FirstFree.{less, less_predicate, is_free_below, lowest_slot, first_method, first_methods, first_actions, less_facts, IsFirstEncoded}
use Rattle.plan_proof.specs.Same.{AreSameButNames}
use Rattle.plan_proof.proofs.values.TypeNumbers.{AreApart}
use Rattle.plan_proof.proofs.values.SameActions.{Alike, objects-count, guard_types-same, free-same, first_guard-same, method-printed, checks-printed, sources-printed, e_spare, e_depth, e_pre}
use Rattle.plan_proof.proofs.values.SameValue.{encoded_too}
use Rattle.slot_encoding.proofs.first_free.FirstValue.{first_of}

module _ (c d : Compiled) (same : AreSameButNames c.hddl d.hddl) (sc : IsSoundHddl c.hddl) (sd : IsSoundHddl d.hddl) (apart : AreApart (hddl_words d.hddl).unions) (plans : Together (Alike c d same sc sd apart) c.methods d.methods) where
  free : free_predicate c ≡ free_predicate d
  free = free-same c d same sc sd apart plans

  less-same : less_predicate c ≡ less_predicate d
  less-same = let f = first_guard-same c d same sc sd apart plans in let g = guard_types-same c d same sc sd apart plans in λ i. f i + length (g i)

  module _ (names : List (List ℕ)) (b : ℕ) (style : Style) where
    below-same : (x v : ℕ) → is_free_below c names b style x v ≡ is_free_below d names b style x v
    below-same x v = λ i. And (Holds (record { predicate = free i; args = Var x ∷ [] }) ∷ Holds (record { predicate = less-same i; args = Var x ∷ Var v ∷ [] }) ∷ [])

    lowest-same : (x k : ℕ) → lowest_slot c names b style x k ≡ lowest_slot d names b style x k
    lowest-same x zero = refl
    lowest-same x (suc zero) = let e = below-same x 1 in λ i. Forall (slot_param d names b (codes "htn_x") ∷ []) (Not (e i))
    lowest-same x (suc (suc k)) = let e = below-same x (suc (suc k)) in λ i. Forall (slot_param d names b (codes "htn_x") ∷ []) (Imply (e i) (Or (map (λ j. Equal (Var x) (Var j)) (numbers 1 (suc k)))))

    method-same : (m : ℕ) (p q : MethodPlan) → Alike c d same sc sd apart p q → first_method c names b style m p ≡ first_method d names b style m q
    method-same m p q a =
        let e = method-printed c d same sc sd apart plans names b style m p q a in
        let f = e_pre c d same sc sd apart plans names b style m p q a in
        let n = e_depth c d same sc sd apart plans names b style m p q a in
        let s = e_spare c d same sc sd apart plans names b style m p q a in
        λ i. record { name = (e i).name; params = (e i).params; pre = And (f i ++ map (λ k. lowest-same (n i) k i) (numbers 1 (s i))); eff = (e i).eff }

    methods-same : (m : ℕ) (ps qs : List MethodPlan) → Together (Alike c d same sc sd apart) ps qs → first_methods c names b style m ps ≡ first_methods d names b style m qs
    methods-same m [] [] e = refl
    methods-same m [] (q ∷ qs) e = absurd e
    methods-same m (p ∷ ps) [] e = absurd e
    methods-same m (p ∷ ps) (q ∷ qs) e = let f = method-same m p q e.0 in let g = methods-same (suc m) ps qs e.1 in λ i. f i ∷ g i

    first_actions-same : first_actions c names b style ≡ first_actions d names b style
    first_actions-same =
        let f = methods-same 0 c.methods d.methods plans in
        let g = checks-printed c d same sc sd apart plans names b style 0 c.methods d.methods plans in
        let h = sources-printed c d same sc sd apart plans names b style in
        λ i. f i ++ g i ++ h i

    facts-same : less_facts c names b style ≡ less_facts d names b style
    facts-same = let l = less-same in let o = objects-count c d same sc sd apart plans in
        λ i. joined (map (λ j. map (λ k. record { predicate = l i; args = (o i + (j - 1)) ∷ (o i + (k - 1)) ∷ [] }) (numbers (suc j) (b - j))) (numbers 1 b))

  first_of-same : (b : ℕ) (style : Style) (q : Pddl) → first_of c b style q ≡ first_of d b style q
  first_of-same b style q = let f = first_actions-same q.names b style in let g = facts-same q.names b style in
      λ i. record { names = q.names; domain = q.domain; problem = q.problem; types = q.types; objects = q.objects; predicates = q.predicates ++ less d q.names b style ∷ []; actions = f i; init = q.init ++ g i; goal = q.goal }

  pub first_encoded_too : (b : ℕ) (style : Style) (p : Pddl) → IsFirstEncoded d b style p → IsFirstEncoded c b style p
  first_encoded_too b style p e = record {
    plain = e.plain;
    encoded = encoded_too c d same sc sd apart plans b style e.plain e.encoded;
    value_is = e.value_is ∙ sym (first_of-same b style e.plain);
  }
