-- Tasks, methods and networks that one nested list spells are alike.
use Rattle.std.proofs.Common.{◌≡◌, inl, inr, Bool, true, false, List, [], ◌∷◌, ◌++◌, map, length, codes, Option, Some, None, refl, ap, ap₂, sym, subst, ◌∙◌}
use Rattle.std.proofs.lemmas.Option.{same_Some}
use Rattle.std.specs.Option.{option_map}
use Rattle.text_forms.specs.Lists.{Part, Parts, group, nothing, part}
use Rattle.text_forms.specs.Words.{Word, is_name, first_place}
use Rattle.plan_texts.specs.Declared.{Declared, variable, named}
use Rattle.plan_texts.specs.TypedLists.{Each}
use Rattle.plan_texts.specs.Formulas.{IsTerm}
use Rattle.plan_texts.specs.Said.{all, none, said}
use Rattle.plan_texts.specs.Sections.{parameters, precondition, found, stands, bundle}
use Rattle.plan_texts.specs.Networks.{ordered_subtasks, ordering, task, head_of, chain_if, IsOrdered, ArePairs, id_word, ids_by_place, IsEquation, IsConstraintBy, IsConstraint, IsTask, IsCall, IsSubtaskBy, IsSubtask, IsNetwork, IsMethod, IsTop}
use Rattle.plan_texts.specs.Alike.{child_said, task_said, method_said}
use Rattle.htn_base.specs.declared.name.Name.{Name}
use Rattle.plan_model.specs.declared.formulas.Formula.TheOpen.{Formula-F}
use Rattle.plan_model.specs.declared.formulas.Formula.TheVariants.{And, rolls-And}
use Rattle.plan_model.specs.declared.terms.Term.{Term}
use Rattle.plan_model.specs.declared.terms.Term.TheVariants.{Var, Obj}
use Rattle.plan_model.specs.declared.networks.Head.{Head}
use Rattle.plan_model.specs.declared.networks.Child.{Child}
use Rattle.plan_model.specs.declared.networks.Pair.{Pair}
use Rattle.plan_model.specs.declared.networks.Constraint.{Constraint}
use Rattle.plan_model.specs.declared.schemas.TaskSchema.{TaskSchema}
use Rattle.plan_model.specs.declared.schemas.MethodSchema.{MethodSchema}
use Rattle.plan_texts.proofs.Readings.{said_roll, term_said, terms_said, reading, term-said, terms-said, formula-said}
use Rattle.plan_texts.proofs.Unique.{same-each, same-parameters, map-is}

no-group : (v : Declared) (scope : List Word) (ts : List Term) (qs rs : Parts) → Each (IsTerm v scope) ts (part (group qs) rs) → ⊥
no-group v scope [] qs rs e = e
no-group v scope (Var k ∷ ts) qs rs e = let f = e.0.1 in cc
no-group v scope (Obj o ∷ ts) qs rs e = let f = e.0.1 in cc

pair-words : (is : List Word) (x y : Pair) (a b a' b' : Word) → a ≡ a' → b ≡ b' → first_place a is ≡ Some x.first → first_place b is ≡ Some x.then → first_place a' is ≡ Some y.first → first_place b' is ≡ Some y.then → x ≡ y
pair-words is x y a b a' b' p q e f g h =
    let i : x.first ≡ y.first = cc in
    let j : x.then ≡ y.then = cc in
    λ n. record { first = i n; then = j n }

less : (a : Word) → is_name a ≡ true → a ≡ codes "<" → ⊥
less a e f = let g = ap is_name f in cc

same-pair : (is : List Word) (x y : Pair) (p : Part) → IsOrdered is x p → IsOrdered is y p → x ≡ y
same-pair is x y p e f =
    elim e.2 [
      | inl g ↦ elim f.2 [
        | inl h ↦ pair-words is x y e.0 e.1 f.0 f.1 (cc) (cc) e.5 e.6 f.5 f.6
        | inr h ↦ absurd (less f.0 f.3 (cc))
      ]
      | inr g ↦ elim f.2 [
        | inl h ↦ absurd (less e.0 e.3 (cc))
        | inr h ↦ pair-words is x y e.0 e.1 f.0 f.1 (cc) (cc) e.5 e.6 f.5 f.6
      ]
    ]

-- the ids and the parts decide the pairs
same-ordered : (is is' : List Word) → is ≡ is' → (xs ys : List Pair) (es : Parts) → ArePairs is xs es → ArePairs is' ys es → xs ≡ ys
same-ordered is is' i xs ys es e f =
    let r : e.written ≡ f.written =
    sym (map-is (λ x. x) (λ x. refl) e.written) ∙ same-each (IsOrdered is') (IsOrdered is') (λ x. x) (λ x. x) (same-pair is') e.written f.written _ (subst (λ z. Each (IsOrdered z) e.written (bundle (found ordering es))) i e.pairs_spelled) f.pairs_spelled ∙ map-is (λ x. x) (λ x. refl) f.written in
    e.pairs_are ∙ (λ n. chain_if (stands ordered_subtasks es) (length (i n)) ++ r n) ∙ sym f.pairs_are

module _ (v w : Declared) where
  pub same-task : (x y : TaskSchema) (p : Part) → IsTask v x p → IsTask w y p → task_said v x ≡ task_said w y
  same-task x y p e f =
      let a = e.is in let b = f.is in
      let i : named v.names x.name ≡ named w.names y.name = cc in
      let j : e.entries ≡ f.entries = cc in
      let l = (same-parameters v w x.params y.params _ _ (ap (found parameters) j) e.params f.params).0 in
      λ n. (i n, l n)

module _ (v w : Declared) (tasks tasks' actions actions' : List Word) (same_objects : v.objects ≡ w.objects) (same_predicates : v.predicates ≡ w.predicates) (same_tasks : tasks ≡ tasks') (same_actions : actions ≡ actions') where
  module _ (scope scope' : List Word) (same_scope : scope ≡ scope') where
    same-terms : (ts ts' : List Term) (ps ps' : Parts) → ps ≡ ps' → Each (IsTerm v scope) ts ps → Each (IsTerm w scope') ts' ps' → ts ≡ ts'
    same-terms ts ts' ps ps' q e f = sym (terms-said v scope ts ps e) ∙ (λ n. terms_said (same_objects n) (same_predicates n) (same_scope n) (q n)) ∙ terms-said w scope' ts' ps' f

    same-term : (t t' : Term) (p p' : Part) → p ≡ p' → IsTerm v scope t p → IsTerm w scope' t' p' → t ≡ t'
    same-term t t' p p' q e f = sym (term-said v scope t p e) ∙ (λ n. term_said (same_objects n) (same_predicates n) (same_scope n) (q n)) ∙ term-said w scope' t' p' f

    same-call : (h h' : Head) (ts ts' : List Term) (p p' : Part) → p ≡ p' → IsCall v tasks actions scope h ts p → IsCall w tasks' actions' scope' h' ts' p' → (h ≡ h') × (ts ≡ ts')
    same-call h h' ts ts' p p' q e f =
        let a = e.2 in let b = f.2 in
        let i : e.0 ≡ f.0 = cc in
        let j : e.1 ≡ f.1 = cc in
        (same_Some h h' (sym e.4 ∙ (λ n. head_of (first_place (i n) (same_tasks n)) (first_place (i n) (same_actions n))) ∙ f.4), same-terms ts ts' e.1 f.1 j e.5 f.5)

    not-both : (i : Name) (h h' : Head) (ts ts' : List Term) (p : Part) → IsSubtaskBy w tasks' actions' scope' (Some i) h ts p → (u : Declared) (r : List Word) (t a : List Word) → IsCall u t a r h' ts' p → ⊥
    not-both i h h' ts ts' p e u r t a f =
        let x = e.1 in let y = f.2 in
        let j : f.1 ≡ part (group e.0) nothing = cc in
        no-group u r ts' e.0 nothing (subst (Each (IsTerm u r) ts') j f.5)

    not-both' : (i : Name) (h h' : Head) (ts ts' : List Term) (p : Part) → IsSubtaskBy v tasks actions scope (Some i) h ts p → (u : Declared) (r : List Word) (t a : List Word) → IsCall u t a r h' ts' p → ⊥
    not-both' i h h' ts ts' p e u r t a f =
        let x = e.1 in let y = f.2 in
        let j : f.1 ≡ part (group e.0) nothing = cc in
        no-group u r ts' e.0 nothing (subst (Each (IsTerm u r) ts') j f.5)

    same-by : (i i' : Option Name) (h h' : Head) (ts ts' : List Term) (p : Part) → IsSubtaskBy v tasks actions scope i h ts p → IsSubtaskBy w tasks' actions' scope' i' h' ts' p
        → (option_map (named v.names) i ≡ option_map (named w.names) i') × (h ≡ h') × (ts ≡ ts')
    same-by None None h h' ts ts' p e f = let g = same-call h h' ts ts' p p refl e f in (refl, g.0, g.1)
    same-by None (Some i) h h' ts ts' p e f = absurd (not-both i h' h ts' ts p f v scope tasks actions e)
    same-by (Some i) None h h' ts ts' p e f = absurd (not-both' i h h' ts ts' p e w scope' tasks' actions' f)
    same-by (Some i) (Some i') h h' ts ts' p e f =
        let a = e.1 in let b = f.1 in
        let j : named v.names i ≡ named w.names i' = cc in
        let k : e.0 ≡ f.0 = cc in
        let g = same-call h h' ts ts' (group e.0) (group f.0) (ap group k) e.3 f.3 in
        (ap Some j, g.0, g.1)

    same-subtask : (x y : Child) (p : Part) → IsSubtask v tasks actions scope x p → IsSubtask w tasks' actions' scope' y p → child_said v x ≡ child_said w y
    same-subtask x y p e f = let g = same-by x.id y.id x.head y.head x.args y.args p e f in λ n. (g.0 n, g.1 n, g.2 n)

    same-equation : (s t s' t' : Term) (p p' : Part) → p ≡ p' → IsEquation v scope s t p → IsEquation w scope' s' t' p' → (s ≡ s') × (t ≡ t')
    same-equation s t s' t' p p' q e f =
        let a = e.2 in let b = f.2 in
        let i : e.0 ≡ f.0 = cc in
        let j : e.1 ≡ f.1 = cc in
        (same-term s s' e.0 f.0 i e.3 f.3, same-term t t' e.1 f.1 j e.4 f.4)

    same-constraint_by : (b b' : Bool) (s t s' t' : Term) (p : Part) → IsConstraintBy v scope b s t p → IsConstraintBy w scope' b' s' t' p → (b ≡ b') × (s ≡ s') × (t ≡ t')
    same-constraint_by true true s t s' t' p e f = let g = same-equation s t s' t' p p refl e f in (refl, g.0, g.1)
    same-constraint_by true false s t s' t' p e f = absurd (let a = e.2 in let b = f.1 in cc)
    same-constraint_by false true s t s' t' p e f = absurd (let a = e.1 in let b = f.2 in cc)
    same-constraint_by false false s t s' t' p e f =
        let a = e.1 in let b = f.1 in
        let i : e.0 ≡ f.0 = cc in
        let g = same-equation s t s' t' e.0 f.0 i e.2 f.2 in (refl, g.0, g.1)

    same-constraint : (x y : Constraint) (p : Part) → IsConstraint v scope x p → IsConstraint w scope' y p → x ≡ y
    same-constraint x y p e f = let g = same-constraint_by x.equal y.equal x.left x.right y.left y.right p e f in λ n. record { equal = g.0 n; left = g.1 n; right = g.2 n }

said-empty : (v : Declared) → said v (And []) ≡ all none
said-empty v = ap (said v) (sym (rolls-And [])) ∙ said_roll v (Formula-F.And [])

abbrev word_or : Option Word → Word
word_or None = []
word_or (Some w) = w

ids-said : (v : Declared) (cs : List Child) → ids_by_place v cs ≡ map (λ (t : Option Word × Head × List Term). word_or t.0) (map (child_said v) cs)
ids-said v [] = refl
ids-said v (c ∷ cs) = ap₂ (λ x xs. x ∷ xs) (go c.id) (ids-said v cs)
  where
    go : (i : Option Name) → id_word v i ≡ word_or (option_map (named v.names) i)
    go None = refl
    go (Some i) = refl

module _ (v w : Declared) (tasks tasks' actions actions' : List Word) (same_objects : v.objects ≡ w.objects) (same_predicates : v.predicates ≡ w.predicates) (same_tasks : tasks ≡ tasks') (same_actions : actions ≡ actions') where
  same-network : (scope scope' : List Word) → scope ≡ scope' → (cs cs' : List Child) (xs xs' : List Pair) (ks ks' : List Constraint) (es : Parts)
      → IsNetwork v tasks actions scope (ids_by_place v cs) cs xs ks es → IsNetwork w tasks' actions' scope' (ids_by_place w cs') cs' xs' ks' es → (map (child_said v) cs ≡ map (child_said w) cs') × (xs ≡ xs') × (ks ≡ ks')
  same-network scope scope' s cs cs' xs xs' ks ks' es e f =
      let a : map (child_said v) cs ≡ map (child_said w) cs' =
      same-each (IsSubtask v tasks actions scope) (IsSubtask w tasks' actions' scope') (child_said v) (child_said w) (same-subtask v w tasks tasks' actions actions' same_objects same_predicates same_tasks same_actions scope scope' s) cs cs' _ e.children_spelled f.children_spelled in
      let i : ids_by_place v cs ≡ ids_by_place w cs' = ids-said v cs ∙ ap (map (λ (t : Option Word × Head × List Term). word_or t.0)) a ∙ sym (ids-said w cs') in
      let k : ks ≡ ks' =
      sym (map-is (λ x. x) (λ x. refl) ks) ∙ same-each (IsConstraint v scope) (IsConstraint w scope') (λ x. x) (λ x. x) (same-constraint v w tasks tasks' actions actions' same_objects same_predicates same_tasks same_actions scope scope' s) ks ks' _ e.constraints_spelled f.constraints_spelled ∙ map-is (λ x. x) (λ x. refl) ks' in
      (a, same-ordered (ids_by_place v cs) (ids_by_place w cs') i xs xs' es e.ordered f.ordered, k)

  pub same-method : (x y : MethodSchema) (p : Part) → IsMethod v tasks actions x p → IsMethod w tasks' actions' y p → method_said v x ≡ method_said w y
  same-method x y p e f =
      let a = e.is in let b = f.is in
      let i : named v.names x.name ≡ named w.names y.name = cc in
      let j : e.entries ≡ f.entries = cc in
      let (l, s) = same-parameters v w x.params y.params _ _ (ap (found parameters) j) e.params f.params in
      let m : said v x.pre ≡ said w y.pre =
      sym (formula-said v x.pre _ _ e.pre) ∙ (λ n. reading (same_objects n) (same_predicates n) (s n) (found precondition (j n))) ∙ formula-said w y.pre _ _ f.pre in
      let h1 = e.head.2 in let h2 = f.head.2 in let h3 = ap (found task) j in
      let h : e.head.0 ≡ f.head.0 = cc in
      let h' : e.head.1 ≡ f.head.1 = cc in
      let t : x.task ≡ y.task = same_Some x.task y.task (sym e.head.4 ∙ (λ n. first_place (h n) (same_tasks n)) ∙ f.head.4) in
      let u = same-terms v w tasks tasks' actions actions' same_objects same_predicates same_tasks same_actions (map (variable v) x.params) (map (variable w) y.params) s x.task_args y.task_args e.head.1 f.head.1 h' e.head.5 f.head.5 in
      let g = same-network (map (variable v) x.params) (map (variable w) y.params) s x.children y.children x.pairs y.pairs x.constraints y.constraints f.entries (subst (IsNetwork v tasks actions (map (variable v) x.params) (ids_by_place v x.children) x.children x.pairs x.constraints) j e.network) f.network in
      λ n. (i n, t n, u n, m n, (l n, g.0 n, g.1 n, g.2 n))

  pub same-top : (x y : MethodSchema) (es : Parts) → IsTop v tasks actions x es → IsTop w tasks' actions' y es → method_said v x ≡ method_said w y
  same-top x y es e f =
      let i : named v.names x.name ≡ named w.names y.name = e.named ∙ sym f.named in
      let t : x.task ≡ y.task = e.task ∙ ap length same_tasks ∙ sym f.task in
      let u : x.task_args ≡ y.task_args = e.task_args ∙ sym f.task_args in
      let m : said v x.pre ≡ said w y.pre = ap (said v) e.pre ∙ said-empty v ∙ sym (said-empty w) ∙ sym (ap (said w) f.pre) in
      let (l, s) = same-parameters v w x.params y.params _ _ refl e.params f.params in
      let g = same-network (map (variable v) x.params) (map (variable w) y.params) s x.children y.children x.pairs y.pairs x.constraints y.constraints es e.network f.network in
      λ n. (i n, t n, u n, m n, (l n, g.0 n, g.1 n, g.2 n))
