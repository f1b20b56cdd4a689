-- A step is read by the parts of its arguments: where one is not as it is due, the step is read as no act.
use Rattle.std.proofs.Common.{Bool, true, false, ℕ, ◌≡◌, ◌≤◌, List, ◌∷◌, ◌++◌, map, length, refl, ap, sym, subst, ◌∙◌}
use Rattle.std.proofs.lemmas.List.{length-map, nil_from_length}
use Rattle.htn_base.specs.Escapes.{slot_word}
use Rattle.plan_model.specs.declared.terms.Param.{Param}
use Rattle.plan_model.specs.declared.steps.GroundAction.{GroundAction}
use Rattle.plan_model.specs.declared.values.Compiled.{Compiled}
use Rattle.plan_model.specs.task_networks.Spelling.{Act}
use Rattle.plan_model.specs.plan_meaning.ClassicalPlan.{AreObjects}
use Rattle.plan_model.specs.plan_meaning.Truth.{AreTyped}
use Rattle.plan_model.specs.plan_meaning.Network.{network, InTypeOf}
use Rattle.plan_model.specs.plan_meaning.SpelledPlan.{object_word}
use Rattle.problem_index.specs.declared.index.Index.{Index}
use Rattle.problem_index.specs.declared.printed_index.PrintedIndex.{PrintedIndex}
use Rattle.problem_index.specs.declared.printed_index.PrintedName.{PrintedName}
use Rattle.problem_index.specs.declared.printed_index.PrintedName.TheVariants.{Action, Check, Method}
use Rattle.problem_index.specs.declared.world.World.{World}
use Rattle.problem_index.specs.Index.{AreOf}
use Rattle.problem_index.specs.Printed.{in_print, IsThere, word_of}
use Rattle.problem_index.proofs.IndexLaws.{contains_from}
use Rattle.problem_index.proofs.PrintedArguments.{objects_printed, printed_objects, printed_apart}
use Rattle.ground_state.specs.Frames.{Frame}
use Rattle.ground_state.specs.Runs.{texts, AreArguments}
use Rattle.decoding.specs.FailingAct.{new_in}
use Rattle.decoding.specs.PrintedSteps.{IsNamed, IsReadAs}
use Rattle.step_reader.specs.declared.due.Parts.{Parts}
use Rattle.step_reader.specs.Arguments.{params_of, new_slots, AreTooFew, AreParts, IsNamedBy, AreNamedBy, AreTheSlots}
use Rattle.step_reader.specs.Readings.{act_of, IsReadable, AreOwn, HasRoomIn}
use Rattle.step_reader.proofs.SlotWords.{own_words, words_are, each_within, cut_once}
use Rattle.step_reader.proofs.ReadLaws.{action_params, method_params, AreDue, due, is_named, is_read}

module _ (c : Compiled) where
  pub room_for : (env : Frame) → HasRoomIn c env → (name : PrintedName) → IsThere c name → length (params_of c name) ≤ env.room
  room_for env room (Action a) (s, at) =
      subst (λ o. length (action_params c o) ≤ env.room) (sym at) (room.actions s (contains_from c.hddl.actions a s at)).params
  room_for env room (Check m) (plan, at, checked) =
      subst (λ o. length (method_params c o) ≤ env.room) (sym at) (room.methods plan (contains_from c.methods m plan at)).depth
  room_for env room (Method m) (plan, at) =
      subst (λ o. length (method_params c o) ≤ env.room) (sym at) (room.methods plan (contains_from c.methods m plan at)).depth

  module _ (is : IsReadable c) where
    -- the index and the world are those of the problem in its printed words
    pub are_of : (printed : PrintedIndex) (world : World) → AreOwn c printed world → (index : Index) → index ≡ printed.index
        → AreOf (in_print c.hddl) index world
    are_of printed world own index same = subst (λ (x : Index). AreOf (in_print c.hddl) x world) (sym same) (record {
      apart = printed_apart c is.apart.actions is.apart.objects;
      indexed = own.index.indexed;
      types = own.types;
      objects = own.objects;
    })

    module _ (b : ℕ) (name : PrintedName) (step : GroundAction) (named : IsThere c name × (word_of c name ≡ step.name)) where
      abbrev pub IsUnread : Type 0
      IsUnread = IsNamed c step × ((a : Act (network c)) → IsReadAs c b step a → ⊥)

      abbrev Due : Type 0
      Due = AreDue c is b name step.args

      unread : (Due → ⊥) → IsUnread
      unread none = (is_named c step name named.0 named.1, λ a r. none (due c is b name step named.0 named.1 a r))

      module _ (many : ℕ) (many_is : many ≡ new_slots c name) where
        as_many : (d : Due) → length (map slot_word d.new) ≡ many
        as_many d = length-map d.new slot_word ∙ d.many ∙ sym many_is

        pub too_few : AreTooFew step.args many → IsUnread
        too_few few = unread (λ d. few (slot_word d.slot) (map slot_word d.new) (map (object_word c) d.objects) d.are (as_many d))

        module _ (parts : Parts) (cut : AreParts step.args many parts) where
          same_slot : (d : Due) → parts.slot.now ≡ slot_word d.slot
          same_slot d = let e = sym cut.are ∙ d.are in cc

          abbrev IsRest : List (List ℕ) → List (List ℕ) → Type 0
          IsRest slots objects = (texts parts.new.now ≡ slots) × (texts parts.objects.now ≡ objects)

          same_rest : (d : Due) → IsRest (map slot_word d.new) (map (object_word c) d.objects)
          same_rest d =
              let slots = map slot_word d.new in
              let objects = map (object_word c) d.objects in
              let e = sym cut.are ∙ d.are in
              cut_once (texts parts.new.now) slots (texts parts.objects.now) objects (cut.as_many ∙ sym (as_many d)) cc

          pub no_slot : ((k : ℕ) → IsNamedBy b parts.slot.now k → ⊥) → IsUnread
          no_slot none = unread (λ d. none d.slot (d.within, same_slot d))

          pub no_new : (found : Bool) (slots : List ℕ) → found ≡ false → AreTheSlots b (texts parts.new.now) found slots → IsUnread
          no_new found slots e are =
              let none = subst (λ (t : Bool). AreTheSlots b (texts parts.new.now) t slots) e are in
              unread (λ d. none d.new (subst (λ words. AreNamedBy b words d.new) (sym (same_rest d).0) (own_words b d.new d.new_within)))

          pub new_are : (found : Bool) (slots : List ℕ) → found ≡ true → AreTheSlots b (texts parts.new.now) found slots
              → AreNamedBy b (texts parts.new.now) slots
          new_are found slots e are = subst (λ (t : Bool). AreTheSlots b (texts parts.new.now) t slots) e are

          -- an action and a check have no new slots
          pub all_new : (slot : ℕ) (new objects : List ℕ) → AreNamedBy b (texts parts.new.now) new
              → new_in (network c) (act_of c name slot new objects) ≡ new
          all_new slot new objects slots = go name
              (sym (length-map new slot_word) ∙ ap length (sym (words_are b (texts parts.new.now) new slots)) ∙ cut.as_many ∙ many_is)
            where
              go : (n : PrintedName) → length new ≡ new_slots c n → new_in (network c) (act_of c n slot new objects) ≡ new
              go (Action a) e = sym (nil_from_length new e)
              go (Check m) e = sym (nil_from_length new e)
              go (Method m) e = refl

          module _ (params : List Param) (params_are : params ≡ params_of c name) where
            abbrev pub AreObjectsOf : List ℕ → Type 0
            AreObjectsOf objects = AreArguments (in_print c.hddl) params (texts parts.objects.now) objects

            words : (d : Due) → AreObjects (in_print c.hddl) d.objects (texts parts.objects.now)
            words d =
                let own = printed_objects c is.object_names (params_of c name) d.objects d.typed in
                subst (AreObjects (in_print c.hddl) d.objects) (sym (same_rest d).1) own

            typed : (d : Due) → AreTyped (InTypeOf c) params d.objects
            typed d = subst (λ ps. AreTyped (InTypeOf c) ps d.objects) (sym params_are) d.typed

            pub no_objects : ((objects : List ℕ) → AreObjectsOf objects → ⊥) → IsUnread
            no_objects none = unread (λ d. none d.objects (words d, typed d))

            pub all_read : (slot : ℕ) (new objects : List ℕ) → IsNamedBy b parts.slot.now slot → AreNamedBy b (texts parts.new.now) new
                → AreObjectsOf objects → IsReadAs c b step (act_of c name slot new objects)
            all_read slot new objects first slots args =
                let new_words = words_are b (texts parts.new.now) new slots in
                let object_words = objects_printed c objects (texts parts.objects.now) args.0 in
                is_read c is b name step named.0 named.1 (record {
                  slot = slot;
                  new = new;
                  objects = objects;
                  within = first.0;
                  new_within = each_within b (texts parts.new.now) new slots;
                  many = sym (length-map new slot_word) ∙ ap length (sym new_words) ∙ cut.as_many ∙ many_is;
                  typed = subst (λ ps. AreTyped (InTypeOf c) ps objects) params_are args.1;
                  are = cut.are ∙ (λ i. first.1 i ∷ (new_words i ++ object_words i));
                })
