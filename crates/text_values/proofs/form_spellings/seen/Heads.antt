-- The unions of what was read of a task, a method, an action, a predicate and a goal are those that they write, and facts write none.
use Rattle.std.proofs.Common.{◌≡◌, ◌∙◌, ℕ, Bool, true, false, if◌then◌else◌, codes, Ok, Option, Some, None, List, [], ◌∷◌, ◌++◌, refl, sym, ap, subst}
use Rattle.std.proofs.lemmas.List.{append-nil}
use Rattle.std.specs.List.{flat_map}
use Rattle.std.specs.Option.{option_map}
use Rattle.text_forms.specs.Placed.{Placed, cut, close, word, list, parts_of, IsWhole}
use Rattle.text_forms.specs.Words.{Word}
use Rattle.plan_texts.proofs.Basics.{bytes_eq-true}
use Rattle.gd_reader.specs.declared.effects.RawEffect.{RawEffect}
use Rattle.gd_reader.specs.declared.formulas.RawFormula.{RawFormula}
use Rattle.gd_reader.specs.declared.term.RawAtom.{RawAtom}
use Rattle.gd_reader.specs.declared.term.RawTerm.{RawTerm}
use Rattle.gd_reader.specs.declared.typed_lists.ListKind.TheVariants as list_kind
use Rattle.gd_reader.specs.declared.typed_lists.RawParam.{RawParam}
use Rattle.gd_reader.specs.Answers.{◌>>=◌, word_due, list_due, end_due}
use Rattle.gd_reader.specs.Formulas.{inside}
use Rattle.gd_reader.specs.Terms.{Names, used}
use Rattle.gd_reader.specs.TypedLists.{listed}
use Rattle.gd_reader.proofs.Keeping.{keeps_same}
use Rattle.hddl_reader.specs.declared.parts.Parted.TheVariants as parted
use Rattle.hddl_reader.specs.declared.parts.RawParts.{RawParts}
use Rattle.hddl_reader.specs.declared.sections.RawHead.{RawHead}
use Rattle.hddl_reader.specs.declared.sections.RawMethod.{RawMethod}
use Rattle.hddl_reader.specs.Networks.{declared, is_word, one_of, all_of}
use Rattle.hddl_reader.specs.Sections.{or_none, or_true, or_nothing, head_of, network_of, action_of, method_of, with_kept, predicate_headed, used_names, assignment, fact, facts, named_parts, goal}
use Rattle.text_values.specs.form_spellings.Written.{Union, params_unions, formula_unions, effect_unions, head_unions, method_unions, action_unions}
use Rattle.text_values.proofs.form_spellings.KeptWords.{Reads, reads_then, reads_map, reads_weaken, reads_by, reads_end}
use Rattle.text_values.proofs.form_spellings.SectionsExact.{method_of_parts}
use Rattle.text_values.proofs.form_spellings.SchemasExact.{NamedKnown, named_known}
use Rattle.text_values.proofs.form_spellings.TermsBound.{NameBound, used_bound}
use Rattle.text_values.proofs.form_spellings.TermsExact.{reads_both, declared_bound}
use Rattle.text_values.proofs.form_spellings.TermsIn.{same}
use Rattle.text_values.proofs.form_spellings.seen.Adding.{Same, same_refl, same_join, in_option}
use Rattle.text_values.proofs.form_spellings.seen.Effects.{no_effect_unions}
use Rattle.text_values.proofs.form_spellings.seen.Erased.{unions_at, inside_at, named_inside}
use Rattle.text_values.proofs.form_spellings.seen.Formulas.{FormulaSeen, inside_seen, true_unions, alone_at}
use Rattle.text_values.proofs.form_spellings.seen.Lists.{ListSeen, listed_seen}
use Rattle.text_values.proofs.form_spellings.seen.Networks.{none_joined}
use Rattle.text_values.proofs.form_spellings.seen.Parts.{parts_unions, NamedSeen, named_seen}
use Rattle.text_values.proofs.form_spellings.seen.Terms.{NoUnions, NoneInside, none_at_end}

module _ (table : Names) where
  -- what stands where nothing is read has none
  params_or_none : (o : Option (List RawParam)) → params_unions table (or_none o) ≡ in_option (params_unions table) o
  params_or_none None = refl
  params_or_none (Some xs) = refl

  pub formula_or_true : (o : Option RawFormula) → formula_unions table (or_true o) ≡ in_option (formula_unions table) o
  formula_or_true None = true_unions table
  formula_or_true (Some f) = refl

  effect_or_nothing : (o : Option RawEffect) → effect_unions table (or_nothing o) ≡ in_option (effect_unions table) o
  effect_or_nothing None = no_effect_unions table
  effect_or_nothing (Some e) = refl

  pub task_unions : (n : RawTerm) (y : RawParts) → head_unions table (head_of n y) ≡ parts_unions table parted.Task y
  task_unions n y = params_or_none y.params ∙ sym (append-nil (in_option (params_unions table) y.params))

  pub network_unions : (y : RawParts) → params_unions table (or_none y.params) ≡ parts_unions table parted.Network y
  network_unions y = params_or_none y.params ∙ sym (append-nil (in_option (params_unions table) y.params))

  pub action_unions_are : (n : RawTerm) (y : RawParts) → action_unions table (action_of n y) ≡ parts_unions table parted.Action y
  action_unions_are n y i = params_or_none y.params i ++ (formula_or_true y.pre i ++ effect_or_nothing y.eff i)

  abbrev unions_or : Option RawMethod → List Union
  unions_or None = []
  unions_or (Some m) = method_unions table m

  pub method_unions_are : (n : RawTerm) (y : RawParts) (m : RawMethod) → method_of n y ≡ Some m → method_unions table m ≡ parts_unions table parted.Method y
  method_unions_are n y m e = go y.task e ∙ (λ i. params_or_none y.params i ++ (formula_or_true y.pre ∙ sym (append-nil (in_option (formula_unions table) y.pre))) i)
    where
      go : (o : Option RawAtom) → option_map (λ task. record { head = head_of n y; task = task; pre = or_true y.pre; net = network_of y }) o ≡ Some m
          → method_unions table m ≡ params_unions table (or_none y.params) ++ formula_unions table (or_true y.pre)
      go None f = absurd (cc)
      go (Some task) f = sym (ap unions_or f)

-- behind the keyword of a task, an action or a method
abbrev pub TaskSeen : Placed → RawTerm × RawParts → Names → Type 0
TaskSeen p x table = Same (head_unions table (head_of x.0 x.1)) (unions_at p)

pub task_seen : (p : Placed) (names : Names) → Reads names (named_parts parted.Task names p) (TaskSeen p)
task_seen p names = reads_weaken (NamedSeen parted.Task (unions_at p)) (TaskSeen p) names (named_parts parted.Task names p) (named_seen parted.Task p names) (λ x table is. subst (λ us. Same us (unions_at p)) (sym (task_unions table x.0 x.1)) is)

abbrev pub ActionSeen : Placed → RawTerm × RawParts → Names → Type 0
ActionSeen p x table = Same (action_unions table (action_of x.0 x.1)) (unions_at p)

pub action_seen : (p : Placed) (names : Names) → Reads names (named_parts parted.Action names p) (ActionSeen p)
action_seen p names = reads_weaken (NamedSeen parted.Action (unions_at p)) (ActionSeen p) names (named_parts parted.Action names p) (named_seen parted.Action p names) (λ x table is. subst (λ us. Same us (unions_at p)) (sym (action_unions_are table x.0 x.1)) is)

-- there is a method
abbrev pub MethodSeen : Placed → RawTerm × RawParts → Names → Type 0
MethodSeen p x table = (m : RawMethod) × (method_of x.0 x.1 ≡ Some m) × Same (method_unions table m) (unions_at p)

pub method_seen : (p : Placed) (names : Names) → Reads names (named_parts parted.Method names p) (MethodSeen p)
method_seen p names =
    reads_weaken (λ x table. (IsWhole p × NamedKnown parted.Method (parts_of p) x table) × NamedSeen parted.Method (unions_at p) x table) (MethodSeen p) names (named_parts parted.Method names p)
    (reads_both (λ x table. IsWhole p × NamedKnown parted.Method (parts_of p) x table) (NamedSeen parted.Method (unions_at p)) names (named_parts parted.Method names p) (named_known parted.Method p names) (named_seen parted.Method p names))
    (λ x table is. let m = method_of_parts (parts_of p) x table is.0.1 in (m.0, m.1, subst (λ us. Same us (unions_at p)) (sym (method_unions_are table x.0 x.1 m.0 m.1)) is.1))

-- predicates
abbrev HeadSeen : List Union → RawHead → Names → Type 0
HeadSeen us h table = Same (head_unions table h) us

predicate_seen : (names : Names) (place at : ℕ) (w : Word) (p : Placed) → Reads names (predicate_headed names place at w p) (HeadSeen (inside_at (word at w p)))
unfolding predicate_headed
predicate_seen names place at w p =
    reads_then same (NameBound w) (HeadSeen (inside_at (word at w p))) names (declared 8 names at w) (λ h. listed list_kind.Predicate h.1 p >>= (λ xs. Ok (record { name = h.0; params = xs.0 }, xs.1))) (declared_bound 8 names at w)
    (λ h. reads_map (ListSeen p) (λ x table. NameBound w h.0 table → HeadSeen (inside_at (word at w p)) x table) h.1 (listed list_kind.Predicate h.1 p) (λ xs. record { name = h.0; params = xs }) (listed_seen p list_kind.Predicate h.1)
    (λ xs table is one. subst (Same (params_unions table xs)) (sym (named_inside at w p one.1)) is))

one_predicate : (p : Placed) (names : Names) (place : ℕ) → Reads names (one_of predicate_headed names place p) (HeadSeen (inside_at p))
unfolding word_due
one_predicate cut names place = tt
one_predicate (close at) names place = tt
one_predicate (list at p q) names place = tt
one_predicate (word at w p) names place = predicate_seen names place at w p

abbrev pub HeadsSeen : Placed → List RawHead → Names → Type 0
HeadsSeen p hs table = Same (flat_map (head_unions table) hs) (unions_at p)

pub predicates_seen : (p : Placed) (names : Names) → Reads names (all_of predicate_headed names p) (HeadsSeen p)
predicates_seen cut names = tt
predicates_seen (close at) names = (keeps_same names, λ table k. same_refl [])
predicates_seen (word at w p) names = tt
predicates_seen (list at p q) names =
    reads_then same (HeadSeen (inside_at p)) (HeadsSeen (list at p q)) names (one_of predicate_headed names at p) (λ x. all_of predicate_headed x.1 q >>= (λ xs. Ok (x.0 ∷ xs.0, xs.1))) (one_predicate p names at)
    (λ x. reads_map (HeadsSeen q) (λ xs table. HeadSeen (inside_at p) x.0 table → HeadsSeen (list at p q) xs table) x.1 (all_of predicate_headed x.1 q) (λ xs. x.0 ∷ xs) (predicates_seen q x.1)
    (λ xs table is one. same_join (head_unions table x.0) (inside_at p) (flat_map (head_unions table) xs) (unions_at q) one is))

-- facts
used_none : (p : Placed) (names : Names) → Reads names (used_names names p) (NoUnions p)
unfolding used_names
used_none cut names = tt
used_none (close at) names = (keeps_same names, λ table k. refl)
used_none (list at p q) names = tt
used_none (word at w p) names =
    reads_then same (NameBound w) (NoUnions p) names (used names at w) (λ x. used_names x.1 p >>= (λ xs. Ok (x.0 ∷ xs.0, xs.1))) (used_bound names at w)
    (λ x. reads_map (NoUnions p) (λ ts table. NameBound w x.0 table → NoUnions p ts table) x.1 (used_names x.1 p) (λ ts. x.0 ∷ ts) (used_none p x.1) (λ ts table is one. is))

fact_none : (p : Placed) (names : Names) → Reads names (fact names p) (NoneInside p)
unfolding fact word_due
fact_none cut names = tt
fact_none (close at) names = tt
fact_none (list at p q) names = tt
fact_none (word at w p) names = go (is_word (codes "=") w) refl
  where
    go : (b : Bool) → is_word (codes "=") w ≡ b
        → Reads {X = Option RawAtom} names (if b then assignment p >>= (λ _. Ok (None, names)) else used names at w >>= (λ h. used_names h.1 p >>= (λ xs. Ok (Some (record { head = h.0; args = xs.0 }), xs.1)))) (NoneInside (word at w p))
    go true e = reads_by (NoneInside (word at w p)) names (assignment p) (λ _. Ok (None, names)) (λ _. (keeps_same names, λ table k. ap (λ w. inside_at (word at w p)) (bytes_eq-true w (codes "=") e)))
    go false e =
        reads_then same (NameBound w) (NoneInside (word at w p)) names (used names at w) (λ h. used_names h.1 p >>= (λ xs. Ok (Some (record { head = h.0; args = xs.0 }), xs.1))) (used_bound names at w)
        (λ h. reads_map (NoUnions p) (λ o table. NameBound w h.0 table → NoneInside (word at w p) o table) h.1 (used_names h.1 p) (λ xs. Some (record { head = h.0; args = xs })) (used_none p h.1) (λ ts table is one. named_inside at w p one.1 ∙ is))

pub facts_none : (p : Placed) (names : Names) → Reads names (facts names p) (NoUnions p)
unfolding facts
facts_none cut names = tt
facts_none (close at) names = (keeps_same names, λ table k. refl)
facts_none (word at w p) names = tt
facts_none (list at p q) names =
    reads_then same (NoneInside p) (NoUnions (list at p q)) names (fact names p) (λ x. facts x.1 q >>= (λ xs. Ok (with_kept x.0 xs.0, xs.1))) (fact_none p names)
    (λ x. reads_map (NoUnions q) (λ xs table. NoneInside p x.0 table → NoUnions (list at p q) xs table) x.1 (facts x.1 q) (with_kept x.0) (facts_none q x.1) (λ xs table is one. none_joined at p q one is))

pub goal_seen : (p : Placed) (names : Names) → Reads names (goal names p) (FormulaSeen (unions_at p))
unfolding goal list_due
goal_seen cut names = tt
goal_seen (close at) names = tt
goal_seen (word at w p) names = tt
goal_seen (list at p q) names =
    reads_then same (FormulaSeen (inside_at p)) (FormulaSeen (unions_at (list at p q))) names (inside names p) (λ f. end_due q >>= (λ _. Ok f)) (inside_seen p names)
    (λ f. reads_end (λ g table. FormulaSeen (inside_at p) f.0 table → FormulaSeen (unions_at (list at p q)) g table) q f (λ e table is. subst (Same (formula_unions table f.0)) (alone_at p q (none_at_end q e)) is))
