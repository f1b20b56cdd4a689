-- The printed texts of a printable value spell it.
use Rattle.std.proofs.Common.{ℕ, zero, suc, ◌≡◌, ◌⊎◌, ◌↔◌, inl, inr, ◌<◌, true, not, List, [], ◌∷◌, map, length, codes, Option, Some, refl, ap, sym, subst, ◌∙◌, arith}
use Rattle.std.proofs.lemmas.List.{append-nil}
use Rattle.std.proofs.lemmas.Bool.{cond-false, and_from, or_left}
use Rattle.text_forms.specs.Lists.{part}
use Rattle.text_forms.specs.Words.{Word, word_at}
use Rattle.plan_texts.specs.Declared.{Declared, variable, named}
use Rattle.plan_texts.specs.TypedLists.{Each, EachTyped}
use Rattle.plan_texts.specs.Sections.{are_sections, only, all_but, are_values, domain_many}
use Rattle.plan_texts.specs.Printed.{all_parts, typed_parts, params_parts}
use Rattle.plan_texts.specs.Types.{EachIs, Has, TypeItem, IsTypeItem, Mentions, IsPairSaid, IsPairOf}
use Rattle.plan_texts.specs.Printable.{IsPlain, IsSoundAtom, IsSoundParam, AreSoundParams, IsSound, IsSoundEffect}
use Rattle.plan_texts.specs.SpellsPddl.{pddl_types, pddl_words, ArePddlSections, SpellsPddl}
use Rattle.plan_texts.specs.Schemas.{IsObject, IsPredicate, IsAction, IsFact}
use Rattle.plan_texts.specs.PrintedTexts.{object_words, parent_words, predicate_part, action_part, fact_part, domain_parts, problem_parts, domain_text, problem_text}
use Rattle.plan_texts.specs.PrintableValue.{arities_of, IsPrintable}
use Rattle.plan_model.specs.declared.terms.Term.TheVariants.{Obj}
use Rattle.plan_model.specs.declared.types.Parent.{Parent}
use Rattle.plan_model.specs.declared.types.Object.{Object}
use Rattle.plan_model.specs.declared.schemas.Predicate.{Predicate}
use Rattle.plan_model.specs.declared.schemas.ActionSchema.{ActionSchema}
use Rattle.plan_model.specs.declared.terms.GroundAtom.{GroundAtom}
use Rattle.plan_model.specs.declared.values.Pddl.{Pddl}
use Rattle.plan_texts.proofs.Basics.{no_keyword'}
use Rattle.text_forms.specs.Printing.{ArePrintableParts}
use Rattle.plan_texts.proofs.Places.{each-at, plain-token}
use Rattle.plan_texts.proofs.Spelled.{spelled-atom, spelled-params, plain-scope, formula-spelled}
use Rattle.plan_texts.proofs.SpelledEffects.{effect-spelled}
use Rattle.text_forms.proofs.Printed.{symbols-page, clean-page}
use Rattle.plan_texts.proofs.Members.{each-has, has-to_map, has-of_map, has-at, at-has, length-map}

only-actions : (v : Declared) (as' : List ActionSchema) → only (codes ":action") (all_parts (map (action_part v) as')) ≡ all_parts (map (action_part v) as')
only-actions v [] = refl
only-actions v (a ∷ as') = ap (part (action_part v a)) (only-actions v as')

sections-actions : (v : Declared) (as' : List ActionSchema) → are_sections (codes ":functions" ∷ []) domain_many (all_parts (map (action_part v) as')) ≡ true
sections-actions v [] = refl
sections-actions v (a ∷ as') = sections-actions v as'

module _ (c : Pddl) (printable : IsPrintable c) where
  abbrev v : Declared
  v = pddl_words c

  abbrev arities : List ℕ
  arities = arities_of c

  abbrev item : Parent → TypeItem
  item x = (word_at (pddl_types c) x.child, Some (word_at (pddl_types c) x.parent))

  types-length : length (pddl_types c) ≡ length c.types.names
  types-length = length-map (named c.names) c.types.names

  plain-type : (k : ℕ) → k < length c.types.names → IsPlain (word_at (pddl_types c) k)
  plain-type k l = let e = types-length in each-at IsPlain (pddl_types c) k printable.words.types (omega arith)

  types-spelled : (xs : List Parent) → EachIs (λ (x : Parent). (x.child < length c.types.names) × (x.parent < length c.types.names) × (0 < x.child)) xs
      → EachTyped IsTypeItem (map item xs) (typed_parts (map (parent_words v) xs)) × ArePrintableParts (typed_parts (map (parent_words v) xs))
  types-spelled [] e = (tt, tt)
  types-spelled (x ∷ xs) e =
      let g = types-spelled xs e.1 in let a = plain-type x.child e.0.0 in let b = plain-type x.parent e.0.1 in
      (((refl, a.1, refl, b.1), g.0), (plain-token (word_at (pddl_types c) x.child) a, (refl, (plain-token (word_at (pddl_types c) x.parent) b, g.1))))

  abbrev items : List TypeItem
  items = map item c.types.parents

  child-said : (k : ℕ) → 0 < k → k < length c.types.names → (r : Word) × Has items (word_at (pddl_types c) k, Some r)
  child-said k z l =
      let x = printable.has_parent k z l in
      (word_at (pddl_types c) x.0.parent, subst (λ n. Has items (word_at (pddl_types c) n, Some (word_at (pddl_types c) x.0.parent))) x.2 (has-to_map item c.types.parents x.0 x.1))

  said-pair : (u : Word) (o : Option Word) → Has items (u, o) → (x : Parent) × Has c.types.parents x × (word_at (pddl_types c) x.child ≡ u) × (Some (word_at (pddl_types c) x.parent) ≡ o)
  said-pair u o h = let g = has-of_map item c.types.parents (u, o) h in (g.0, g.1, ap (λ t. t.0) g.2, ap (λ t. t.1) g.2)

  is-object : (k : ℕ) (w : Word) → word_at (pddl_types c) k ≡ w → (k ≡ 0) → w ≡ codes "object"
  is-object k w e z = let f = printable.first in let g = ap (word_at (pddl_types c)) z in cc

  same-words : (w : Word) → Has (pddl_types c) w ↔ ((w ≡ codes "object") ⊎ Mentions items w)
  same-words w = (to, from)
    where
      to : Has (pddl_types c) w → (w ≡ codes "object") ⊎ Mentions items w
      to h = let g = at-has (pddl_types c) w h in go g.0 g.1 g.2
        where
          go : (k : ℕ) → k < length (pddl_types c) → word_at (pddl_types c) k ≡ w → (w ≡ codes "object") ⊎ Mentions items w
          go zero l e = inl (is-object 0 w e refl)
          go (suc k) l e = let f = types-length in let s = child-said (suc k) (omega arith) (omega arith) in inr (inl (Some s.0, subst (λ u. Has items (u, Some s.0)) e s.1))

      found : (k : ℕ) → k < length c.types.names → word_at (pddl_types c) k ≡ w → Has (pddl_types c) w
      found k l e = let f = types-length in subst (Has (pddl_types c)) e (has-at (pddl_types c) k (omega arith))

      from : (w ≡ codes "object") ⊎ Mentions items w → Has (pddl_types c) w
      from (inl e) = zeroth (pddl_types c) (printable.first ∙ sym e)
        where
          zeroth : (ws : List Word) → word_at ws 0 ≡ w → Has ws w
          zeroth [] f = absurd (let g = e in cc)
          zeroth (u ∷ ws) f = inl f
      from (inr (inl h)) = let g = said-pair w h.0 h.1 in found g.0.child (each-has _ c.types.parents g.0 printable.parents g.1).0 g.2
      from (inr (inr h)) = let g = said-pair h.0 (Some w) h.1 in let f = g.3 in found g.0.parent (each-has _ c.types.parents g.0 printable.parents g.1).1 cc

  same-pairs : (u t : Word) → IsPairOf (pddl_types c) c.types.parents u t ↔ IsPairSaid items u t
  same-pairs u t = (λ e. inl (subst (λ z. Has items (z, Some t)) e.2 (subst (λ z. Has items (word_at (pddl_types c) e.0.child, Some z)) e.3 (has-to_map item c.types.parents e.0 e.1))), from)
    where
      none-left : Mentions items u → (u ≡ codes "object" → ⊥) → ((r : Word) → Has items (u, Some r) → ⊥) → ⊥
      none-left (inl h) n m = let g = said-pair u h.0 h.1 in m (word_at (pddl_types c) g.0.parent) (subst (λ o. Has items (u, o)) (sym g.3) h.1)
      none-left (inr h) n m =
          let g = said-pair h.0 (Some u) h.1 in let f = g.3 in
          go g.0.parent (each-has _ c.types.parents g.0 printable.parents g.1).1 (cc) n m
        where
          go : (k : ℕ) → k < length c.types.names → word_at (pddl_types c) k ≡ u → (u ≡ codes "object" → ⊥) → ((r : Word) → Has items (u, Some r) → ⊥) → ⊥
          go zero l e n' m' = n' (is-object 0 u e refl)
          go (suc k) l e n' m' = let s = child-said (suc k) (omega arith) l in m' s.0 (subst (λ z. Has items (z, Some s.0)) e s.1)

      from : IsPairSaid items u t → IsPairOf (pddl_types c) c.types.parents u t
      from (inl h) = let g = said-pair u (Some t) h in let f = g.3 in (g.0, g.1, g.2, cc)
      from (inr h) = absurd (none-left h.2 h.1 h.3)

  objects-spelled : (xs : List Object) → EachIs IsPlain (map (λ (x : Object). named c.names x.name) xs) → EachIs (λ (x : Object). (x.ty < length c.types.names) × (x.constant ≡ true)) xs
      → EachTyped (IsObject v true) xs (typed_parts (map (object_words v) xs)) × ArePrintableParts (typed_parts (map (object_words v) xs))
  objects-spelled [] e f = (tt, tt)
  objects-spelled (x ∷ xs) e f =
      let g = objects-spelled xs e.1 f.1 in let b = plain-type x.ty f.0.0 in
      (((refl, e.0.1, (refl, b.1), f.0.1), g.0), (plain-token (named c.names x.name) e.0, (refl, (plain-token (word_at (pddl_types c) x.ty) b, g.1))))

  predicates-spelled : (ds : List Predicate) → EachIs IsPlain (map (λ (d : Predicate). named c.names d.name) ds) → EachIs (λ (d : Predicate). EachIs (IsSoundParam v arities) d.params) ds
      → Each (IsPredicate v) ds (all_parts (map (predicate_part v) ds)) × ArePrintableParts (all_parts (map (predicate_part v) ds))
  predicates-spelled [] e f = (tt, tt)
  predicates-spelled (d ∷ ds) e f =
      let g = predicates-spelled ds e.1 f.1 in let h = spelled-params v arities printable.words d.params f.0 in
      (((params_parts v d.params, refl, e.0.1, h.0), g.0), ((plain-token (named c.names d.name) e.0, h.1), g.1))

  actions-spelled : (as' : List ActionSchema) → EachIs IsPlain (map (λ (a : ActionSchema). named c.names a.name) as') → EachIs (λ (a : ActionSchema). AreSoundParams v arities a.params) as'
      → EachIs (λ (a : ActionSchema). IsSound v arities a.pre (map (variable v) a.params)) as' → EachIs (λ (a : ActionSchema). IsSoundEffect v arities a.eff (map (variable v) a.params)) as'
      → Each (IsAction v) as' (all_parts (map (action_part v) as')) × ArePrintableParts (all_parts (map (action_part v) as'))
  actions-spelled [] e f g h = (tt, tt)
  actions-spelled (a ∷ as') e f g h =
      let i = actions-spelled as' e.1 f.1 g.1 h.1 in
      let p = spelled-params v arities printable.words a.params f.0.0 in
      let s = plain-scope v arities printable.words a.params f.0.0 in
      let q = formula-spelled v arities printable.words a.pre (map (variable v) a.params) s g.0 in
      let r = effect-spelled v arities printable.words a.eff (map (variable v) a.params) s h.0 in (
        (record { entries = _; is = refl; named = e.0.1; form = refl; params = (params_parts v a.params, refl, p.0); pre = q.0; eff = r.0 }, i.0),
        ((refl, (plain-token (named c.names a.name) e.0, (refl, (p.1, (refl, (q.1, (refl, (r.1, tt)))))))), i.1),
      )

  init-spelled : (gs : List GroundAtom) → EachIs (λ (g : GroundAtom). IsSoundAtom v arities [] g.predicate (map Obj g.args)) gs
      → Each (IsFact v) gs (all_but (codes "=") (all_parts (map (fact_part v) gs))) × ArePrintableParts (all_parts (map (fact_part v) gs))
  init-spelled [] e = (tt, tt)
  init-spelled (g ∷ gs) e =
      let h = init-spelled gs e.1 in
      let i = spelled-atom v arities printable.words [] g.predicate (map Obj g.args) tt e.0 in
      let p = each-at IsPlain v.predicates g.predicate printable.words.predicates e.0.0 in
      let k : all_but (codes "=") (all_parts (map (fact_part v) (g ∷ gs))) ≡ part (fact_part v g) (all_but (codes "=") (all_parts (map (fact_part v) gs))) = cond-false _ (all_but (codes "=") (all_parts (map (fact_part v) gs))) _ (no_keyword' (word_at v.predicates g.predicate) (codes "=") p.1 refl) in
      (subst (Each (IsFact v) (g ∷ gs)) (sym k) (i.0, h.0), (i.1, h.1))

  init-values : (gs : List GroundAtom) → EachIs (λ (g : GroundAtom). IsSoundAtom v arities [] g.predicate (map Obj g.args)) gs → are_values (all_parts (map (fact_part v) gs)) ≡ true
  init-values [] e = refl
  init-values (g ∷ gs) e =
      let p = each-at IsPlain v.predicates g.predicate printable.words.predicates e.0.0 in
      and_from _ _ (or_left _ _ (ap not (no_keyword' (word_at v.predicates g.predicate) (codes "=") p.1 refl))) (init-values gs e.1)

  abbrev spelled : ArePddlSections c (domain_parts c) (problem_parts c) × ArePrintableParts (domain_parts c) × ArePrintableParts (problem_parts c)
  spelled =
      let t = types-spelled c.types.parents printable.parents in
      let o = objects-spelled c.objects printable.words.objects printable.objects in
      let d = predicates-spelled c.predicates printable.words.predicates printable.predicates in
      let a = actions-spelled c.actions printable.actions_named printable.params printable.pre printable.eff in
      let i = init-spelled c.init printable.init in
      let g = formula-spelled v arities printable.words c.goal [] tt printable.goal in (
        record {
          constants = c.objects;
          others = [];
          objects = sym (append-nil c.objects);
          in_domain = record {
            domain_form = sections-actions v c.actions;
            domain_requires = refl;
            types = record { items = items; spelled = t.0; first = printable.first; different = printable.words.types_differ; same_words = same-words; same_pairs = same-pairs };
            constants_spelled = o.0;
            predicates = d.0;
            actions = subst (Each (IsAction v) c.actions) (sym (only-actions v c.actions)) a.0;
          };
          in_problem = record {
            problem_form = refl;
            problem_requires = refl;
            of_domain = (named c.names c.domain, refl, printable.domain.1);
            others_spelled = tt;
            init_form = init-values c.init printable.init;
            init = i.0;
            goal = g.0;
          };
        },
        ((refl, (refl, tt)), ((refl, t.1), ((refl, o.1), ((refl, d.1), a.1)))),
        ((refl, (plain-token (named c.names c.domain) printable.domain, tt)), ((refl, tt), ((refl, i.1), ((refl, (g.1, tt)), tt)))),
      )

  pub printed_spells : SpellsPddl (domain_text c) (problem_text c) c
  printed_spells = record {
    texts = record {
      domain_sections = domain_parts c;
      problem_sections = problem_parts c;
      domain_text = record {
        clean = clean-page (codes "domain") (named c.names c.domain) (domain_parts c) refl (plain-token (named c.names c.domain) printable.domain) spelled.1;
        is = symbols-page (codes "domain") (named c.names c.domain) (domain_parts c) refl (plain-token (named c.names c.domain) printable.domain) spelled.1;
        named = printable.domain.1;
      };
      problem_text = record {
        clean = clean-page (codes "problem") (named c.names c.problem) (problem_parts c) refl (plain-token (named c.names c.problem) printable.problem) spelled.2;
        is = symbols-page (codes "problem") (named c.names c.problem) (problem_parts c) refl (plain-token (named c.names c.problem) printable.problem) spelled.2;
        named = printable.problem.1;
      };
    };
    sections = spelled.0;
  }
