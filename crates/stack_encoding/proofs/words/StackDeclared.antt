-- The words of the printed problem of a stack, as declared; how many arguments its predicates have; what they have of the source's.
use Rattle.std.proofs.Common.{ℕ, suc, ◌≡◌, ◌<◌, List, [], ◌∷◌, map, length, slice_index, codes, ap, sym, ◌∙◌, arith}
use Rattle.text_forms.specs.Words.{Word}
use Rattle.plan_model.specs.declared.types.Object.{Object}
use Rattle.plan_model.specs.declared.schemas.Predicate.{Predicate}
use Rattle.plan_model.specs.declared.values.Compiled.{Compiled}
use Rattle.plan_texts.specs.Declared.{Declared, named, words_with}
use Rattle.plan_texts.specs.Types.{Has, EachIs}
use Rattle.plan_texts.specs.SpellsHddl.{hddl_words}
use Rattle.plan_texts.specs.SoundValue.{IsSoundHddl, arities}
use Rattle.plan_texts.proofs.Members.{length-map}
use Rattle.slot_encoding.specs.EncodedNames.{generated, slot_param, encoded_types, encoded_predicates}
use Rattle.slot_encoding.specs.EncodedWords.{type_words}
use Rattle.slot_encoding.proofs.words.PredicatePlaces.{of_slot, of_pair, held_task, first_group, action_group, check_group, guard_group, HasArity, source_arity}
use Rattle.slot_encoding.proofs.words.SourceFormulas.{AreExtended}
use Rattle.slot_encoding.proofs.words.TypeWords.{kinds_on}
use Rattle.stack_encoding.specs.StackNames.{cell_object, stack_objects, stack_predicates}
use Rattle.stack_encoding.proofs.places.CellPlaces.{length-objects}
use Rattle.stack_encoding.proofs.words.Appended.{map-appended}

module _ (c : Compiled) (names : List Word) (b : ℕ) where
  abbrev pub stack_declared : Declared
  stack_declared = words_with names (encoded_types c names b) (stack_predicates c names b) (stack_objects c names b)

  abbrev pub stack_arities : List ℕ
  stack_arities = map (λ (d : Predicate). length d.params) (stack_predicates c names b)

  -- the one predicate of two cells
  abbrev pub of_cells : Predicate
  of_cells = record { name = generated c names b (codes "htn_up"); params = slot_param c names b (codes "htn_x") ∷ slot_param c names b (codes "htn_h") ∷ [] }

  -- the group of the generated ones and the tasks
  abbrev pub cell_group : List Predicate
  cell_group = of_slot c names b (codes "htn_top") ∷ of_slot c names b (codes "htn_tip") ∷ of_cells ∷ map (held_task c names b) c.hddl.tasks

  -- they have as many arguments as the predicates with slots
  arities-same : stack_arities ≡ map (λ (d : Predicate). length d.params) (encoded_predicates c names b)
  arities-same =
      let rest = action_group c names b ∷ check_group c names b ∷ guard_group c names b ∷ [] in
      map-appended (λ (d : Predicate). length d.params) (first_group c names b) (cell_group ∷ rest)
      ∙ sym (map-appended (λ (d : Predicate). length d.params) (first_group c names b) ((of_slot c names b (codes "htn_top") ∷ of_slot c names b (codes "htn_free") ∷ of_pair c names b ∷ map (held_task c names b) c.hddl.tasks) ∷ rest))

  lengths-same : length stack_arities ≡ length (map (λ (d : Predicate). length d.params) (encoded_predicates c names b))
  lengths-same = ap length arities-same

  abbrev pub Takes : (predicate count : ℕ) → Type 0
  Takes n m = (n < length (map (λ (d : Predicate). named names d.name) (stack_predicates c names b))) × (slice_index stack_arities n ≡ m)

  pub takes : (n m : ℕ) → HasArity c names b n m → Takes n m
  takes n m (l, e) =
      let f = length-map (λ (d : Predicate). named names d.name) (stack_predicates c names b) in
      let g = length-map (λ (d : Predicate). length d.params) (stack_predicates c names b) in
      let h = length-map (λ (d : Predicate). named names d.name) (encoded_predicates c names b) in
      let k = length-map (λ (d : Predicate). length d.params) (encoded_predicates c names b) in
      let s = lengths-same in
      (omega arith, ap (λ z. slice_index z n) arities-same ∙ e)

  pub object_within : (o : ℕ) → o < suc (cell_object c b) → o < length (map (λ (x : Object). named names x.name) (stack_objects c names b))
  object_within o l = let e = length-objects c names b in let f = length-map (λ (x : Object). named names x.name) (stack_objects c names b) in omega arith

  -- what the printed words have of the source's
  pub stack_extended : IsSoundHddl c.hddl → EachIs (Has names) (type_words c) → AreExtended (hddl_words c.hddl) stack_declared (arities c.hddl) stack_arities
  stack_extended sound known = record {
    objects = (let e = length-objects c names b in let f = length-map (λ (x : Object). named c.hddl.names x.name) c.hddl.objects in let g = length-map (λ (x : Object). named names x.name) (stack_objects c names b) in omega arith);
    predicates = λ n l. takes n (slice_index (arities c.hddl) n) (source_arity c names b n l);
    types = kinds_on c names b sound known;
  }
