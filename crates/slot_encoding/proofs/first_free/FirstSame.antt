-- The printed problems with first-free slots, over tables that have all their words, say the same, so they have one pair of texts.
use Rattle.std.proofs.Common.{ℕ, zero, suc, ◌≡◌, ◌-◌, List, [], ◌∷◌, ◌++◌, map, length, codes, ap, sym, subst, ◌∙◌, Contains}
use Rattle.std.proofs.lemmas.List.{map-append}
use Rattle.text_forms.specs.Words.{Word}
use Rattle.plan_model.specs.declared.options.Slots.{Slots}
use Rattle.plan_model.specs.declared.options.Slots.TheVariants.{Any, First}
use Rattle.plan_model.specs.declared.options.Style.{Style}
use Rattle.plan_model.specs.declared.terms.Term.TheVariants.{Var}
use Rattle.plan_model.specs.declared.terms.GroundAtom.{GroundAtom}
use Rattle.plan_model.specs.declared.formulas.Formula.{Formula}
use Rattle.plan_model.specs.declared.formulas.Formula.TheVariants.{Holds, Equal, Not, Or, Imply}
use Rattle.plan_model.specs.declared.effects.Effect.{Effect}
use Rattle.plan_model.specs.declared.schemas.ActionSchema.{ActionSchema}
use Rattle.plan_model.specs.declared.schemas.MethodPlan.{MethodPlan}
use Rattle.plan_model.specs.declared.values.Compiled.{Compiled}
use Rattle.plan_model.specs.declared.values.Pddl.{Pddl}
use Rattle.plan_model.specs.task_networks.Spelling.{numbers}
use Rattle.plan_texts.specs.Declared.{Declared}
use Rattle.plan_texts.specs.Types.{Has, EachIs}
use Rattle.plan_texts.specs.Said.{said, done}
use Rattle.plan_texts.specs.Alike.{predicate_said, action_said}
use Rattle.plan_texts.specs.Together.{Together}
use Rattle.plan_texts.specs.PrintedTexts.{domain_text, problem_text}
use Rattle.plan_texts.proofs.Members.{contains-has}
use Rattle.plan_texts.proofs.Together.{together-maps}
use Rattle.slot_encoding.specs.EncodedNames.{encoded_predicates, slot_param}
use Rattle.slot_encoding.specs.EncodedActions.{is_free, spare, depth, method_pre, encoded_method}
use Rattle.slot_encoding.specs.EncodedValue.{encoded_checks, encoded_source}
use Rattle.slot_encoding.specs.EncodedWords.{param_words, formula_words, method_words, HasEncodedWords}
use Rattle.slot_encoding.specs.EncodedWords as W
use Rattle.slot_encoding.specs.FirstFree.{less_word, less_predicate, less, is_free_below, lowest_slot, lowest_slots, first_method, first_methods, first_actions, less_facts}
use Rattle.slot_encoding.specs.encoded_texts.FullyEncoded.{SayTheSame, IsFullyEncodedBy}
use Rattle.slot_encoding.proofs.ValueOver.{over}
use Rattle.slot_encoding.proofs.words.Lists.{each-right}
use Rattle.slot_encoding.proofs.words.KnownMethods.{IsKnownMethod, of_first}
use Rattle.slot_encoding.proofs.words.KnownWords.{known_methods}
use Rattle.slot_encoding.proofs.words.PrintedWords.{printed_words}
use Rattle.slot_encoding.proofs.encoded_texts.SaidAlike.{together-made, together-join, SameFormula, same-Holds, same-Equal, same-Not, same-And, same-Or, same-Imply, same-Forall}
use Rattle.slot_encoding.proofs.encoded_texts.EncodedParts.{word, slot_h, slot_x, predicates-said}
use Rattle.slot_encoding.proofs.encoded_texts.EncodedActions.{pre-same, method-same, checks-together, sources-together}
use Rattle.slot_encoding.proofs.encoded_texts.SaidTexts.{domain-same, problem-same}
use Rattle.slot_encoding.proofs.encoded_texts.SameTexts.{init-same, over-same, encoded-same}
use Rattle.slot_encoding.proofs.first_free.MorePredicates.{said-more, done-more}
use Rattle.slot_encoding.proofs.first_free.FirstWords.{first_words, first_predicate_words}
use Rattle.slot_encoding.proofs.first_free.FirstValue.{first_of, is_first, names_are}

together-weaker : {A B : Type 0} (R S : A → B → Type 0) → ((x : A) (y : B) → R x y → S x y) → (xs : List A) (ys : List B) → Together R xs ys → Together S xs ys
together-weaker R S h [] [] t = tt
together-weaker R S h [] (y ∷ ys) t = absurd t
together-weaker R S h (x ∷ xs) [] t = absurd t
together-weaker R S h (x ∷ xs) (y ∷ ys) t = (h x y t.0, together-weaker R S h xs ys t.1)

module _ (c : Compiled) (b : ℕ) (style : Style) (names names' : List Word) (has : HasEncodedWords c b names) (has' : HasEncodedWords c b names') (known : Has names less_word) (known' : Has names' less_word) where
  abbrev v : Declared
  v = printed_words c names b

  abbrev w : Declared
  w = printed_words c names' b

  abbrev v1 : Declared
  v1 = first_words c names b style

  abbrev w1 : Declared
  w1 = first_words c names' b style

  formula-first : (f g : Formula) → said v f ≡ said w g → said v1 f ≡ said w1 g
  formula-first f g e = sym (said-more v (first_predicate_words c names b style) f) ∙ e ∙ said-more w (first_predicate_words c names' b style) g

  effect-first : (e d : Effect) → done v e ≡ done w d → done v1 e ≡ done w1 d
  effect-first e d h = sym (done-more v (first_predicate_words c names b style) e) ∙ h ∙ done-more w (first_predicate_words c names' b style) d

  abbrev Plain : ActionSchema → ActionSchema → Type 0
  Plain x y = action_said v x ≡ action_said w y

  abbrev Same : ActionSchema → ActionSchema → Type 0
  Same x y = action_said v1 x ≡ action_said w1 y

  action-first : (x y : ActionSchema) → Plain x y → Same x y
  action-first x y e =
      let f = formula-first x.pre y.pre (λ i. (e i).2) in
      let d = effect-first x.eff y.eff (λ i. (e i).3) in
      λ i. ((e i).0, (e i).1, f i, d i)

  -- a method
  module _ (x : ℕ) where
    below-same : (k : ℕ) → SameFormula v1 w1 (is_free_below c names b style x k) (is_free_below c names' b style x k)
    below-same k =
        let pair = Holds (record { predicate = less_predicate c; args = Var x ∷ Var k ∷ [] }) in
        same-And v1 w1 (Holds (is_free c names b style x) ∷ pair ∷ []) (Holds (is_free c names' b style x) ∷ pair ∷ []) (same-Holds v1 w1 (is_free c names b style x), (same-Holds v1 w1 (record { predicate = less_predicate c; args = Var x ∷ Var k ∷ [] }), tt))

    lowest-same : (k : ℕ) → SameFormula v1 w1 (lowest_slot c names b style x k) (lowest_slot c names' b style x k)
    lowest-same zero = same-And v1 w1 [] [] tt
    lowest-same (suc zero) =
        let f = is_free_below c names b style x 1 in let f' = is_free_below c names' b style x 1 in
        same-Forall v1 w1 (slot_param c names b (codes "htn_x") ∷ []) (slot_param c names' b (codes "htn_x") ∷ []) (Not f) (Not f') (slot_x c b names names' has has', tt) (same-Not v1 w1 f f' (below-same 1))
    lowest-same (suc (suc k)) =
        let f = is_free_below c names b style x (suc (suc k)) in let f' = is_free_below c names' b style x (suc (suc k)) in
        let es = map (λ j. Equal (Var x) (Var j)) (numbers 1 (suc k)) in
        same-Forall v1 w1 (slot_param c names b (codes "htn_x") ∷ []) (slot_param c names' b (codes "htn_x") ∷ []) (Imply f (Or es)) (Imply f' (Or es)) (slot_x c b names names' has has', tt)
        (same-Imply v1 w1 f (Or es) f' (Or es) (below-same (suc (suc k))) (same-Or v1 w1 es es (together-made (SameFormula v1 w1) (λ j. Equal (Var x) (Var j)) (λ j. Equal (Var x) (Var j)) (numbers 1 (suc k)) (λ j h. same-Equal v1 w1 (Var x) (Var j)))))

  method-first : (m : ℕ) (plan : MethodPlan) → IsKnownMethod c names m plan → IsKnownMethod c names' m plan → Same (first_method c names b style m plan) (first_method c names' b style m plan)
  method-first m plan k k' =
      let x = depth c names b style m plan in let n = spare c names b style m plan in
      let fs = method_pre c names b style m plan in let fs' = method_pre c names' b style m plan in
      let ls = lowest_slots c names b style x n in let ls' = lowest_slots c names' b style x n in
      let e = action-first (encoded_method c names b style m plan) (encoded_method c names' b style m plan) (method-same c b style names names' has has' m plan k k') in
      let pre = same-And v1 w1 (fs ++ ls) (fs' ++ ls') (together-join (SameFormula v1 w1) fs ls fs' ls'
      (together-weaker (SameFormula v w) (SameFormula v1 w1) formula-first fs fs' (pre-same c b style names names' has has' m plan k k'))
      (together-made (SameFormula v1 w1) (lowest_slot c names b style x) (lowest_slot c names' b style x) (numbers 1 n) (λ j h. lowest-same x j))) in
      λ i. ((e i).0, (e i).1, pre i, (e i).3)

  methods-first : (m : ℕ) (plans : List MethodPlan) → EachIs (Has names) (method_words c m plans) → EachIs (Has names') (method_words c m plans) → Together Same (first_methods c names b style m plans) (first_methods c names' b style m plans)
  methods-first m [] k k' = tt
  methods-first m (plan ∷ plans) k k' =
      let first = W.method_word c m plan.schema.name ∷ W.numbered (codes "htn_h") (length plan.schema.children - 1) ++ param_words c.hddl.names plan.schema.params ++ formula_words c.hddl.names plan.schema.pre in
      let rest = method_words c (suc m) plans in
      (method-first m plan (of_first c names m plan rest k) (of_first c names' m plan rest k'), methods-first (suc m) plans (each-right (Has names) first rest k) (each-right (Has names') first rest k'))

  actions-first : map (action_said v1) (first_actions c names b style) ≡ map (action_said w1) (first_actions c names' b style)
  actions-first =
      let ms = first_methods c names b style 0 c.methods in let ms' = first_methods c names' b style 0 c.methods in
      let cs = encoded_checks c names b style 0 c.methods in let cs' = encoded_checks c names' b style 0 c.methods in
      let ss = encoded_source c names b style 0 c.hddl.actions in let ss' = encoded_source c names' b style 0 c.hddl.actions in
      together-maps (action_said v1) (action_said w1) Same (λ x y e. e) (first_actions c names b style) (first_actions c names' b style)
      (together-join Same (ms ++ cs) ss (ms' ++ cs') ss'
      (together-join Same ms cs ms' cs' (methods-first 0 c.methods (known_methods c b names has) (known_methods c b names' has'))
      (together-weaker Plain Same action-first cs cs' (checks-together c b style names names' has has')))
      (together-weaker Plain Same action-first ss ss' (sources-together c b style names names' has has')))

  less-said : predicate_said v1 (less c names b style) ≡ predicate_said w1 (less c names' b style)
  less-said =
      let e = word c b names names' has has' less_word known known' in
      let x = slot_x c b names names' has has' in
      let h = slot_h c b names names' has has' in
      λ i. (e i, x i ∷ h i ∷ [])

  predicates-first : map (predicate_said v1) (encoded_predicates c names b ++ less c names b style ∷ []) ≡ map (predicate_said w1) (encoded_predicates c names' b ++ less c names' b style ∷ [])
  predicates-first =
      let ps = predicates-said c b names names' has has' in
      map-append (predicate_said v1) (encoded_predicates c names b) (less c names b style ∷ [])
      ∙ (λ i. ps i ++ less-said i ∷ [])
      ∙ sym (map-append (predicate_said w1) (encoded_predicates c names' b) (less c names' b style ∷ []))

  over-first : (init init' : List GroundAtom) → init ≡ init' → SayTheSame (first_of c b style (over c b style names init)) (first_of c b style (over c b style names' init'))
  over-first init init' e =
      let plain = over-same c b style names names' init init' has has' e in
      record {
        domains = plain.domains;
        problems = plain.problems;
        types = plain.types;
        parents = plain.parents;
        objects = plain.objects;
        predicates = predicates-first;
        actions = actions-first;
        init = ap (λ z. z ++ less_facts c names b style) e;
        goal = formula-first (over c b style names init).goal (over c b style names' init').goal plain.goal;
      }

pub encoded-same-by : (rule : Slots) (c : Compiled) (b : ℕ) (style : Style) (p q : Pddl) → IsFullyEncodedBy rule c b style p → IsFullyEncodedBy rule c b style q → SayTheSame p q
encoded-same-by Any c b style p q e f = encoded-same c b style p q (record { encoded = e.encoded; words = e.words }) (record { encoded = f.encoded; words = f.words })
encoded-same-by First c b style p q e f =
    let n = names_are c b style p e.encoded in let n' = names_are c b style q f.encoded in
    let init = e.encoded.plain.init in let init' = f.encoded.plain.init in
    let names = e.encoded.plain.names in let names' = f.encoded.plain.names in
    subst (λ z. SayTheSame z q) (sym (is_first c b style p e.encoded)) (subst (SayTheSame (first_of c b style (over c b style names init))) (sym (is_first c b style q f.encoded))
    (over-first c b style names names' (subst (HasEncodedWords c b) n e.words.0) (subst (HasEncodedWords c b) n' f.words.0)
    (contains-has names less_word (subst (λ z. Contains z less_word) n e.words.1)) (contains-has names' less_word (subst (λ z. Contains z less_word) n' f.words.1))
    init init' (init-same c b style names names' init init' e.encoded.encoded.init f.encoded.encoded.init)))

-- the two texts of the one are those of the other
pub encoded_texts-same-by : (rule : Slots) (c : Compiled) (b : ℕ) (style : Style) (p q : Pddl) → IsFullyEncodedBy rule c b style p → IsFullyEncodedBy rule c b style q → (domain_text p ≡ domain_text q) × (problem_text p ≡ problem_text q)
encoded_texts-same-by rule c b style p q e f = let same = encoded-same-by rule c b style p q e f in (domain-same p q same, problem-same p q same)
