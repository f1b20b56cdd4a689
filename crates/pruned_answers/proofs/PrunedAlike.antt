-- What is kept of two values that are the same but for names is the same but for names.
use Rattle.std.proofs.Common.{ℕ, ◌≡◌, List, [], ◌∷◌, map, Option, Some, None, option_map, slice_get, refl, ap, sym, ◌∙◌}
use Rattle.std.proofs.lemmas.Option.{slice_get-map}
use Rattle.text_forms.specs.Words.{Word}
use Rattle.plan_texts.specs.Declared.{Declared}
use Rattle.plan_texts.specs.SpellsHddl.{hddl_words}
use Rattle.plan_texts.specs.Said.{Said}
use Rattle.plan_texts.specs.Alike.{action_said, task_said, child_said, method_said}
use Rattle.plan_model.specs.declared.terms.Term.{Term}
use Rattle.plan_model.specs.declared.networks.Child.{Child}
use Rattle.plan_model.specs.declared.schemas.MethodSchema.{MethodSchema}
use Rattle.plan_model.specs.declared.values.Hddl.{Hddl}
use Rattle.plan_proof.specs.Same.{AreSameButNames}
use Rattle.live_parts.specs.Kept.{Kept}
use Rattle.live_parts.specs.Pruned.{with_first, only, place, renamed_head, renamed_child, renamed_method, pruned}
use Rattle.pruned_answers.proofs.PrintedSaid.{SaidCall, SaidNetwork}

map-only : {X Y : Type 0} (f : X → Y) (xs : List X) (ns : List ℕ) → map f (only xs ns) ≡ only (map f xs) ns
map-only f xs [] = refl
map-only f xs (n ∷ ns) = go (slice_get xs n) ∙ (let e = slice_get-map f xs n in let r = map-only f xs ns in λ i. with_first (sym e i) (r i))
  where
    go : (o : Option _) → map f (with_first o (only xs ns)) ≡ with_first (option_map f o) (map f (only xs ns))
    go None = refl
    go (Some x) = refl

only-same : {X Y Z : Type 0} (f : X → Z) (g : Y → Z) (xs : List X) (ys : List Y) (ns : List ℕ) → map f xs ≡ map g ys → map f (only xs ns) ≡ map g (only ys ns)
only-same f g xs ys ns e = map-only f xs ns ∙ ap (λ z. only z ns) e ∙ sym (map-only g ys ns)

module _ (kept : Kept) where
  abbrev renamed_call : SaidCall → SaidCall
  renamed_call x = (x.0, renamed_head kept x.1, x.2)

  abbrev renamed_said : Word × ℕ × List Term × Said × SaidNetwork → Word × ℕ × List Term × Said × SaidNetwork
  renamed_said x = (x.0, place kept.tasks x.1, x.2, x.3, (x.4.0, map renamed_call x.4.1, x.4.2, x.4.3))

  module _ (v : Declared) where
    calls_said : (cs : List Child) → map (child_said v) (map (renamed_child kept) cs) ≡ map renamed_call (map (child_said v) cs)
    calls_said [] = refl
    calls_said (c ∷ cs) = ap (λ z. renamed_call (child_said v c) ∷ z) (calls_said cs)

    method_renamed : (s : MethodSchema) → method_said v (renamed_method kept s) ≡ renamed_said (method_said v s)
    method_renamed s = let e = calls_said s.children in let x = method_said v s in λ i. (x.0, place kept.tasks x.1, x.2, x.3, (x.4.0, e i, x.4.2, x.4.3))

    methods_renamed : (ss : List MethodSchema) → map (method_said v) (map (renamed_method kept) ss) ≡ map renamed_said (map (method_said v) ss)
    methods_renamed [] = refl
    methods_renamed (s ∷ ss) = let e = method_renamed s in let r = methods_renamed ss in λ i. e i ∷ r i

  module _ (c d : Hddl) (same : AreSameButNames c d) where
    abbrev v : Declared
    v = hddl_words c

    abbrev w : Declared
    w = hddl_words d

    pub pruned_same : AreSameButNames (pruned kept c) (pruned kept d)
    pruned_same = record {
      alike = record {
        domains = same.alike.domains;
        problems = same.alike.problems;
        declared = record {
          types = same.alike.types;
          pairs = same.alike.pairs;
          objects = same.alike.objects;
          predicates = same.alike.predicates;
          actions = only-same (action_said v) (action_said w) c.actions d.actions kept.actions same.alike.actions;
        };
        tasks = only-same (task_said v) (task_said w) c.tasks d.tasks kept.tasks same.alike.tasks;
        methods =
            methods_renamed v (only c.methods kept.methods) ∙ ap (map renamed_said) (only-same (method_said v) (method_said w) c.methods d.methods kept.methods same.alike.methods)
            ∙ sym (methods_renamed w (only d.methods kept.methods));
        top = method_renamed v c.top ∙ ap renamed_said same.alike.top ∙ sym (method_renamed w d.top);
        init = same.alike.init;
        goal = same.alike.goal;
      };
      types = same.types;
      parents = same.parents;
      unions = same.unions;
    }
