-- The printed problem with first-free slots of a sound problem, over a table that has all its words, is printable.
use Rattle.std.proofs.Common.{ℕ, suc, ◌≡◌, ◌-◌, List, [], ◌∷◌, ◌++◌, map, refl, sym, subst, Contains, arith}
use Rattle.std.proofs.lemmas.List.{map-append}
use Rattle.htn_base.specs.Different.{AreDifferent}
use Rattle.htn_base.proofs.DifferentLemmas.{different-push}
use Rattle.text_forms.specs.Words.{Word}
use Rattle.plan_model.specs.declared.options.Slots.{Slots}
use Rattle.plan_model.specs.declared.options.Slots.TheVariants.{Any, First}
use Rattle.plan_model.specs.declared.options.Style.{Style}
use Rattle.plan_model.specs.declared.options.Checks.{Checks}
use Rattle.plan_model.specs.declared.terms.Term.TheVariants.{Obj}
use Rattle.plan_model.specs.declared.terms.GroundAtom.{GroundAtom}
use Rattle.plan_model.specs.declared.schemas.Predicate.{Predicate}
use Rattle.plan_model.specs.declared.schemas.ActionSchema.{ActionSchema}
use Rattle.plan_model.specs.declared.values.Hddl.{Hddl}
use Rattle.plan_model.specs.declared.values.Compiled.{Compiled}
use Rattle.plan_model.specs.declared.values.Pddl.{Pddl}
use Rattle.plan_model.specs.plan_meaning.Compilation.{IsCompiled}
use Rattle.plan_model.specs.task_networks.Spelling.{numbers}
use Rattle.plan_model.proofs.task_networks.Numbers.{numbers_to}
use Rattle.plan_texts.specs.Declared.{named, variable}
use Rattle.plan_texts.specs.Types.{Has, EachIs}
use Rattle.plan_texts.specs.Printable.{IsPlain, IsSoundAtom, IsSoundParam, AreSoundParams, IsSound, IsSoundEffect}
use Rattle.plan_texts.specs.SoundValue.{IsSoundHddl}
use Rattle.plan_texts.specs.PrintableValue.{IsPrintable}
use Rattle.plan_texts.proofs.Members.{has-contains, contains-has, each-lacks}
use Rattle.plan_texts.proofs.Places.{each-join}
use Rattle.slot_encoding.specs.EncodedNames.{encoded_predicates}
use Rattle.slot_encoding.specs.EncodedValue.{IsInitial}
use Rattle.slot_encoding.specs.EncodedWords.{HasEncodedWords}
use Rattle.slot_encoding.specs.FirstFree.{less_word, less, first_actions, slot_object, is_less, less_facts, IsEncodedBy, HasWordsBy}
use Rattle.slot_encoding.specs.Countable.{IsCountable}
use Rattle.slot_encoding.specs.Numberable.{IsNumberable}
use Rattle.slot_encoding.proofs.ValueOver.{over}
use Rattle.slot_encoding.proofs.words.Lists.{each-map, each-joined, each-weaker}
use Rattle.slot_encoding.proofs.words.TableWords.{named-name}
use Rattle.slot_encoding.proofs.words.PrintedWords.{printed_words, printed_arities}
use Rattle.slot_encoding.proofs.words.PredicateNames.{sound_h, sound_x, less_is_new}
use Rattle.slot_encoding.proofs.words.SlotParts.{object_within}
use Rattle.slot_encoding.proofs.words.Works.{IsSoundAction}
use Rattle.slot_encoding.proofs.words.EncodedIsPrintable.{made_printable, countable, countable_printable}
use Rattle.slot_encoding.proofs.first_free.MorePredicates.{atom-more, param-more, formula-more}
use Rattle.slot_encoding.proofs.first_free.FirstWords.{first_words, first_predicate_words, first_arities, first_keeps, less_arity}
use Rattle.slot_encoding.proofs.first_free.FirstValue.{first_of, is_first, names_are}
use Rattle.slot_encoding.proofs.first_free.FirstActions.{first_actions-named, first_actions_sound}

module _ (mode : Checks) (c : Compiled) (b : ℕ) (style : Style) (names : List Word) (init : List GroundAtom)
    (sound : IsSoundHddl c.hddl) (compiled : IsCompiled c.hddl mode c) (initial : IsInitial c names b style init) (has : HasEncodedWords c b names) (known : Has names less_word) (few : IsCountable c b) where
  abbrev nm : Predicate → Word
  nm d = named names d.name

  plain : IsPrintable (over c b style names init)
  plain = made_printable mode c b style names init sound compiled initial has few

  less-named : nm (less c names b style) ≡ less_word
  less-named = named-name less_word names known

  words-of : first_predicate_words c names b style ≡ map nm (encoded_predicates c names b) ++ nm (less c names b style) ∷ []
  words-of = map-append nm (encoded_predicates c names b) (less c names b style ∷ [])

  words_plain : EachIs IsPlain (first_predicate_words c names b style)
  words_plain = subst (EachIs IsPlain) (sym words-of) (each-join IsPlain (map nm (encoded_predicates c names b)) (nm (less c names b style) ∷ []) plain.words.predicates (subst IsPlain (sym less-named) (refl, refl), tt))

  words_differ : AreDifferent (first_predicate_words c names b style)
  words_differ = subst AreDifferent (sym words-of) (different-push (map nm (encoded_predicates c names b)) (nm (less c names b style)) plain.words.predicates_differ
      (subst (λ z. Contains (map nm (encoded_predicates c names b)) z → ⊥) (sym less-named) (each-lacks (map nm (encoded_predicates c names b)) less_word (less_is_new c names b sound has))))

  abbrev SoundParams : Predicate → Type 0
  SoundParams d = EachIs (IsSoundParam (first_words c names b style) (first_arities c names b style)) d.params

  params_sound : EachIs SoundParams (encoded_predicates c names b ++ less c names b style ∷ [])
  params_sound =
      let more = param-more (printed_words c names b) (printed_arities c names b) (first_predicate_words c names b style) (first_arities c names b style) (first_keeps c names b style) in
      each-join SoundParams (encoded_predicates c names b) (less c names b style ∷ [])
      (each-weaker (λ (d : Predicate). EachIs (IsSoundParam (printed_words c names b) (printed_arities c names b)) d.params) SoundParams (encoded_predicates c names b) (λ d s. more d.params s) plain.predicates)
      (more (less c names b style).params (sound_x c names b sound has, (sound_h c names b sound has, tt)), tt)

  abbrev SoundFact : GroundAtom → Type 0
  SoundFact g = IsSoundAtom (first_words c names b style) (first_arities c names b style) [] g.predicate (map Obj g.args)

  facts_sound : EachIs SoundFact (less_facts c names b style)
  facts_sound = each-joined SoundFact (λ j. map (is_less c names b style j) (numbers (suc j) (b - j))) (numbers 1 b) (λ j h.
      each-map SoundFact (is_less c names b style j) (numbers (suc j) (b - j)) (λ k i. (
      let r = numbers_to 1 b j (has-contains (numbers 1 b) j h) in
      let s = numbers_to (suc j) (b - j) k (has-contains (numbers (suc j) (b - j)) k i) in
      let a = less_arity c names b style in
      let l = r.1 in let m = s.1 in let n = r.0 in let o = s.0 in
      (a.0, sym a.1, (object_within c names b sound has (slot_object c names b style j) (omega arith), (object_within c names b sound has (slot_object c names b style k) (omega arith), tt)))
      )))

  actions : EachIs (IsSoundAction (first_words c names b style) (first_arities c names b style)) (first_actions c names b style)
  actions = first_actions_sound c names b style sound has mode compiled few.few_children

  first_printable : IsPrintable (first_of c b style (over c b style names init))
  first_printable = record {
    domain = plain.domain;
    problem = plain.problem;
    words = record {
      types = plain.words.types;
      types_differ = plain.words.types_differ;
      unions = plain.words.unions;
      objects = plain.words.objects;
      predicates = words_plain;
      objects_differ = plain.words.objects_differ;
      predicates_differ = words_differ;
    };
    first = plain.first;
    parents = plain.parents;
    has_parent = plain.has_parent;
    no_cycle = plain.no_cycle;
    objects = plain.objects;
    predicates = params_sound;
    actions_named = subst (EachIs IsPlain) (sym (first_actions-named c names b style)) plain.actions_named;
    actions_differ = subst AreDifferent (sym (first_actions-named c names b style)) plain.actions_differ;
    params = each-weaker Sound (λ (a : ActionSchema). AreSoundParams (first_words c names b style) (first_arities c names b style) a.params) (first_actions c names b style) (λ a s. s.params) actions;
    pre = each-weaker Sound (λ (a : ActionSchema). IsSound (first_words c names b style) (first_arities c names b style) a.pre (map (variable (first_words c names b style)) a.params)) (first_actions c names b style) (λ a s. s.pre) actions;
    eff = each-weaker Sound (λ (a : ActionSchema). IsSoundEffect (first_words c names b style) (first_arities c names b style) a.eff (map (variable (first_words c names b style)) a.params)) (first_actions c names b style) (λ a s. s.eff) actions;
    init = each-join SoundFact init (less_facts c names b style)
        (each-weaker (λ (g : GroundAtom). IsSoundAtom (printed_words c names b) (printed_arities c names b) [] g.predicate (map Obj g.args)) SoundFact init
        (λ g s. atom-more (printed_words c names b) (printed_arities c names b) (first_predicate_words c names b style) (first_arities c names b style) (first_keeps c names b style) [] g.predicate (map Obj g.args) s) plain.init)
        facts_sound;
    goal = formula-more (printed_words c names b) (printed_arities c names b) (first_predicate_words c names b style) (first_arities c names b style) (first_keeps c names b style) (over c b style names init).goal [] plain.goal;
  }
    where
      Sound : ActionSchema → Type 0
      Sound = IsSoundAction (first_words c names b style) (first_arities c names b style)

-- by which free slots a method takes, however many words the table has
pub countable_printable-by : (rule : Slots) (h : Hddl) (mode : Checks) (c : Compiled) (b : ℕ) (style : Style) (p : Pddl)
    → IsSoundHddl h → IsCompiled h mode c → IsEncodedBy rule c b style p → HasWordsBy rule c b p.names → IsCountable c b → IsPrintable p
countable_printable-by Any h mode c b style p sound compiled encoded has few = countable_printable h mode c b style p sound compiled encoded has few
countable_printable-by First h mode c b style p sound compiled encoded has few =
    let e = names_are c b style p encoded in
    let names = encoded.plain.names in
    subst IsPrintable (sym (is_first c b style p encoded)) (first_printable mode c b style names encoded.plain.init
    (subst IsSoundHddl (sym compiled.hddl) sound) (subst (λ z. IsCompiled z mode c) (sym compiled.hddl) compiled) encoded.encoded.init
    (subst (HasEncodedWords c b) e has.0) (contains-has names less_word (subst (λ z. Contains z less_word) e has.1)) few)

-- the table has all words of the plain one
all_words : (rule : Slots) (c : Compiled) (b : ℕ) (names : List Word) → HasWordsBy rule c b names → HasEncodedWords c b names
all_words Any c b names has = has
all_words First c b names has = has.0

pub printable-by : (rule : Slots) (h : Hddl) (mode : Checks) (c : Compiled) (b : ℕ) (style : Style) (p : Pddl)
    → IsSoundHddl h → IsCompiled h mode c → IsEncodedBy rule c b style p → HasWordsBy rule c b p.names → IsNumberable c b p.names → IsPrintable p
printable-by rule h mode c b style p sound compiled encoded has few =
    countable_printable-by rule h mode c b style p sound compiled encoded has (countable c b p.names (all_words rule c b p.names has) few)
