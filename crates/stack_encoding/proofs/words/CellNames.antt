-- The objects of the printed problem of a stack: their words and their types.
use Rattle.std.proofs.Common.{ℕ, suc, ◌≡◌, ◌<◌, ◌^◌, true, cond, List, ◌++◌, map, length, refl, ap, sym, subst, ◌∙◌, arith}
use Rattle.std.proofs.lemmas.List.{map-append}
use Rattle.htn_base.specs.Escapes.{slot_word}
use Rattle.htn_base.specs.Different.{AreDifferent}
use Rattle.text_forms.specs.Words.{Word}
use Rattle.plan_model.specs.declared.types.Object.{Object}
use Rattle.plan_model.specs.declared.values.Compiled.{Compiled}
use Rattle.plan_model.specs.task_networks.Spelling.{numbers}
use Rattle.plan_texts.specs.Declared.{named}
use Rattle.plan_texts.specs.Types.{Has, EachIs}
use Rattle.plan_texts.specs.Printable.{IsPlain}
use Rattle.plan_texts.specs.SoundValue.{IsSoundHddl}
use Rattle.plan_texts.proofs.Members.{each-has}
use Rattle.plan_texts.proofs.Places.{each-join}
use Rattle.slot_encoding.specs.EncodedNames.{encoded_types}
use Rattle.slot_encoding.specs.EncodedWords.{own_word, type_words}
use Rattle.slot_encoding.proofs.places.ObjectPlaces.{printed_object, printed_slot}
use Rattle.slot_encoding.proofs.words.Lists.{each-map, each-of_map, different-by, IsBetween, different-ranks}
use Rattle.slot_encoding.proofs.words.ObjectNames.{plain_slot}
use Rattle.slot_encoding.proofs.words.PlainWords.{is_generated, escape_is_none, plain-escaped, escaped-once}
use Rattle.slot_encoding.proofs.words.TableWords.{named-name, words-made}
use Rattle.slot_encoding.proofs.words.TypeWords.{retyped_within, count-types}
use Rattle.stack_encoding.specs.StackNames.{stack_objects}
use Rattle.stack_encoding.specs.StackWords.{cell_words}
use Rattle.stack_encoding.proofs.words.FewCells.{cells_differ}
use Rattle.stack_encoding.proofs.words.KnownEach.{known_object, known_cell}
use Rattle.stack_encoding.proofs.words.KnownParts.{AreKnown}

module _ (c : Compiled) (names : List Word) (b : ℕ) (sound : IsSoundHddl c.hddl) where
  abbrev own : Object → Word
  own x = own_word c x.name

  abbrev old : Object → Word
  old x = named c.hddl.names x.name

  abbrev sources : List Word
  sources = map own c.hddl.objects

  abbrev cells : List Word
  cells = map slot_word (numbers 0 (suc b))

  module _ (known : AreKnown c b names) where
    pub objects-named : map (λ (x : Object). named names x.name) (stack_objects c names b) ≡ cell_words c b
    objects-named =
        let read = λ (x : Object). named names x.name in
        let e = words-made (printed_object c names b) read own c.hddl.objects (λ x m. named-name (own x) names (known_object c b names known x m)) in
        let f = words-made (printed_slot c names b) read slot_word (numbers 0 (suc b)) (λ k m. named-name (slot_word k) names (known_cell c b names known k m)) in
        map-append read (map (printed_object c names b) c.hddl.objects) (map (printed_slot c names b) (numbers 0 (suc b))) ∙ (λ i. e i ++ f i)

    plain : EachIs IsPlain (cell_words c b)
    plain =
        let olds = each-of_map IsPlain old c.hddl.objects sound.words.objects in
        each-join IsPlain sources cells
        (each-map IsPlain own c.hddl.objects (λ x m. plain-escaped (old x) (each-has (λ (x : Object). IsPlain (old x)) c.hddl.objects x olds m)))
        (each-map IsPlain slot_word (numbers 0 (suc b)) (λ k m. plain_slot k))

    pub objects_plain : EachIs IsPlain (map (λ (x : Object). named names x.name) (stack_objects c names b))
    objects_plain = subst (EachIs IsPlain) (sym objects-named) plain

    -- source words before generated ones
    abbrev kind : Word → ℕ
    kind w = cond (is_generated w) 1 0

    source_kind : (x : Object) → kind (own x) ≡ 0
    source_kind x = ap (λ t. cond t 1 0) (escape_is_none (old x))

    pub objects_differ : suc b < 2 ^ 64 → AreDifferent (map (λ (x : Object). named names x.name) (stack_objects c names b))
    objects_differ l =
        let apart = different-by old own c.hddl.objects (λ x y m n e. escaped-once (old x) (old y) e) sound.words.objects_differ in
        let low = each-map (λ w. kind w < 1) own c.hddl.objects (λ x m. let e = source_kind x in omega arith) in
        let high = each-map (IsBetween kind 1 2) slot_word (numbers 0 (suc b)) (λ k m. (omega arith, omega arith)) in
        subst AreDifferent (sym objects-named) (different-ranks kind 1 2 sources cells (record { different = apart; below = low }) (cells_differ b l) high)

  -- all are constants of declared types
  abbrev IsConstant : Object → Type 0
  IsConstant x = (x.ty < length (encoded_types c names b).names) × (x.constant ≡ true)

  pub objects_typed : EachIs (Has names) (type_words c) → EachIs (λ (x : Object). (x.ty < length (encoded_types c names b).names) × (x.constant ≡ true)) (stack_objects c names b)
  objects_typed known =
      let own_typed = λ (x : Object) (m : Has c.hddl.objects x). retyped_within c names b sound known x.ty (each-has (λ (x : Object). x.ty < length c.hddl.types.names) c.hddl.objects x sound.objects m) in
      each-join IsConstant (map (printed_object c names b) c.hddl.objects) (map (printed_slot c names b) (numbers 0 (suc b)))
      (each-map IsConstant (printed_object c names b) c.hddl.objects (λ x m. (own_typed x m, refl)))
      (each-map IsConstant (printed_slot c names b) (numbers 0 (suc b)) (λ k m. (let e = count-types c names b sound known in omega arith, refl)))
