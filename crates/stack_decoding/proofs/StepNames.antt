-- Where words are apart a step's name tells what it is of, and its objects are those of its words.
use Rattle.std.proofs.Common.{ℕ, zero, suc, ◌≡◌, ◌++◌, true, false, IsTrue, List, [], ◌∷◌, map, length, Option, Some, None, slice_get, slice_index_or, refl, ap, sym, ◌∙◌}
use Rattle.std.specs.Prelude.{codes, nat_eq}
use Rattle.std.specs.List.{starts_with}
use Rattle.std.specs.Option.{option_map_or}
use Rattle.std.proofs.lemmas.List.{length-map}
use Rattle.htn_base.specs.Escapes.{escaped}
use Rattle.htn_base.proofs.EscapeLemmas.{names_apart}
use Rattle.plan_model.specs.declared.types.Object.{Object}
use Rattle.plan_model.specs.declared.terms.Param.{Param}
use Rattle.plan_model.specs.declared.schemas.ActionSchema.{ActionSchema}
use Rattle.plan_model.specs.declared.schemas.MethodPlan.{MethodPlan}
use Rattle.plan_model.specs.declared.values.Compiled.{Compiled}
use Rattle.plan_model.specs.task_networks.Net.{count}
use Rattle.plan_model.specs.task_networks.Spelling.{Act, run, apply}
use Rattle.plan_model.specs.plan_meaning.Truth.{AreTyped}
use Rattle.plan_model.specs.plan_meaning.Network.{action, check, task, GroundMethod, network, InTypeOf, child_of, subtasks_of}
use Rattle.plan_model.specs.plan_meaning.SpelledPlan.{object_word, object_by, action_by, method_by, method_name, step_of}
use Rattle.decoding.specs.PrintedSteps.{HasParams, AreNamedApart, HasSoundChecks}

abbrev fifth : List ℕ → ℕ
fifth (a ∷ b ∷ c ∷ d ∷ e ∷ rest) = e
fifth _ = 0

abbrev behind_sixth : List ℕ → List ℕ
behind_sixth (a ∷ b ∷ c ∷ d ∷ e ∷ f ∷ rest) = rest
behind_sixth _ = []

-- as many children come of a method, whatever its values
pub as_many : (c : Compiled) (g other : GroundMethod) → g.number ≡ other.number → count (network c) g ≡ count (network c) other
as_many c g other e = go (slice_get c.methods g.number) ∙ ap (λ n. length (option_map_or (subtasks_of other) (slice_get c.methods n) [])) e
  where
    go : (o : Option MethodPlan) → length (option_map_or (subtasks_of g) o []) ≡ length (option_map_or (subtasks_of other) o [])
    go None = refl
    go (Some plan) = length-map plan.schema.children (child_of g) ∙ sym (length-map plan.schema.children (child_of other))

module _ (c : Compiled) (apart : AreNamedApart c) where
  object_once : (x y : ℕ) (o u : Object) → slice_get c.hddl.objects x ≡ Some o → slice_get c.hddl.objects y ≡ Some u → object_word c x ≡ object_word c y → x ≡ y
  object_once x y o u f g e = apart.objects x y o u f g (names_apart.one_to_one (slice_index_or c.hddl.names o.name.number []) (slice_index_or c.hddl.names u.name.number [])
      (sym (ap (object_by c) f) ∙ e ∙ ap (object_by c) g))

  pub objects_once : (ps qs : List Param) (v w : List ℕ) → AreTyped (InTypeOf c) ps v → AreTyped (InTypeOf c) qs w → map (object_word c) v ≡ map (object_word c) w → v ≡ w
  objects_once ps qs [] [] s t e = refl
  objects_once ps qs [] (y ∷ w) s t e = absurd cc
  objects_once ps qs (x ∷ v) [] s t e = absurd cc
  objects_once [] qs (x ∷ v) (y ∷ w) s t e = absurd s
  objects_once (p ∷ ps) [] (x ∷ v) (y ∷ w) s t e = absurd t
  objects_once (p ∷ ps) (q ∷ qs) (x ∷ v) (y ∷ w) s t e =
      let f = object_once x y s.0.0 t.0.0 s.0.1 t.0.1 cc in
      let g = objects_once ps qs v w s.1 t.1 cc in
      cc

  -- the word of an action is no generated one
  no_generated : (word rest : List ℕ) → escaped word ≡ codes "htn_" ++ rest → starts_with nat_eq rest (codes "u_") ≡ false → ⊥
  no_generated word rest e f = let t = names_apart.no_generated word rest e in cc

  module _ (a : ℕ) (s : ActionSchema) (is : slice_get c.hddl.actions a ≡ Some s) where
    abbrev the_word : List ℕ
    the_word = slice_index_or c.hddl.names s.name.number []

    printed_action : action_by c (slice_get c.hddl.actions a) ≡ escaped the_word
    printed_action = ap (action_by c) is

    no_check : (rest : List ℕ) → action_by c (slice_get c.hddl.actions a) ≡ codes "htn_c_" ++ rest → ⊥
    no_check rest e = no_generated the_word (codes "c_" ++ rest) (sym printed_action ∙ e) refl

    no_method : (m : ℕ) → action_by c (slice_get c.hddl.actions a) ≡ method_name c m → ⊥
    no_method zero e = no_generated the_word (codes "start") (sym printed_action ∙ e) refl
    no_method (suc m) e = no_generated the_word (codes "m_" ++ method_by c (slice_get c.methods (suc m))) (sym printed_action ∙ e) refl

  no_check_method : (rest : List ℕ) (m : ℕ) → codes "htn_c_" ++ rest ≡ method_name c m → ⊥
  no_check_method rest zero e = let f : true ≡ false = ap (λ w. nat_eq 99 (fifth w)) e in cc
  no_check_method rest (suc m) e = let f : true ≡ false = ap (λ w. nat_eq 99 (fifth w)) e in cc

  same_method_word : (m n : ℕ) (p q : MethodPlan) → slice_get c.methods (suc m) ≡ Some p → slice_get c.methods (suc n) ≡ Some q → method_by c (slice_get c.methods (suc m)) ≡ method_by c (slice_get c.methods (suc n)) → suc m ≡ suc n
  same_method_word m n p q f g e = ap suc (apart.methods m n p q f g (names_apart.one_to_one (slice_index_or c.hddl.names p.schema.name.number []) (slice_index_or c.hddl.names q.schema.name.number [])
      (sym (ap (method_by c) f) ∙ e ∙ ap (method_by c) g)))

  same_method : (m n : ℕ) (p q : MethodPlan) → slice_get c.methods m ≡ Some p → slice_get c.methods n ≡ Some q → method_name c m ≡ method_name c n → m ≡ n
  same_method zero zero p q f g e = refl
  same_method zero (suc n) p q f g e = absurd (let k : true ≡ false = ap (λ w. nat_eq 115 (fifth w)) e in cc)
  same_method (suc m) zero p q f g e = absurd (let k : true ≡ false = ap (λ w. nat_eq 109 (fifth w)) e in cc)
  same_method (suc m) (suc n) p q f g e = same_method_word m n p q f g (ap behind_sixth e)

  module _ (checks : HasSoundChecks c) where
    same_check : (m n : ℕ) (p q : MethodPlan) → slice_get c.methods m ≡ Some p → IsTrue p.checked → slice_get c.methods n ≡ Some q → IsTrue q.checked
        → codes "htn_c_" ++ method_by c (slice_get c.methods m) ≡ codes "htn_c_" ++ method_by c (slice_get c.methods n) → m ≡ n
    same_check zero n p q f k g l e = absurd (checks.unchecked p f k)
    same_check (suc m) zero p q f k g l e = absurd (checks.unchecked q g l)
    same_check (suc m) (suc n) p q f k g l e = same_method_word m n p q f g (ap behind_sixth e)

    -- two acts of one printed action
    abbrev pub IsSameKind : Act (network c) → Act (network c) → Type 0
    IsSameKind (run h (action a v)) (run h' (action d w)) = a ≡ d
    IsSameKind (run h (check m v)) (run h' (check n w)) = m ≡ n
    IsSameKind (apply h new g) (apply h' new' g') = g.number ≡ g'.number
    IsSameKind a other = ⊥

    pub same_kind : (a other : Act (network c)) (ps qs : List Param) → HasParams c a ps → HasParams c other qs → (step_of c a).name ≡ (step_of c other).name → IsSameKind a other
    same_kind (run h (task t v)) other ps qs k l n = absurd k
    same_kind (run h (action a v)) (run h' (task t w)) ps qs k l n = absurd l
    same_kind (run h (check m v)) (run h' (task t w)) ps qs k l n = absurd l
    same_kind (apply h new m) (run h' (task t w)) ps qs k l n = absurd l
    same_kind (run h (action a v)) (run h' (action d w)) ps qs k l n =
        apart.actions a d k.0 l.0 k.1 l.1 (names_apart.one_to_one (slice_index_or c.hddl.names k.0.name.number []) (slice_index_or c.hddl.names l.0.name.number []) (sym (ap (action_by c) k.1) ∙ n ∙ ap (action_by c) l.1))
    same_kind (run h (check a v)) (run h' (check d w)) ps qs k l n = same_check a d k.0 l.0 k.1 k.2 l.1 l.2 n
    same_kind (apply h new m) (apply h' new' m') ps qs k l n = same_method m.number m'.number k.0 l.0 k.1 l.1 n
    same_kind (run h (action a v)) (run h' (check d w)) ps qs k l n = absurd (no_check a k.0 k.1 (method_by c (slice_get c.methods d)) n)
    same_kind (run h (check a v)) (run h' (action d w)) ps qs k l n = absurd (no_check d l.0 l.1 (method_by c (slice_get c.methods a)) (sym n))
    same_kind (run h (action a v)) (apply h' new' m) ps qs k l n = absurd (no_method a k.0 k.1 m.number n)
    same_kind (apply h new m) (run h' (action a v)) ps qs k l n = absurd (no_method a l.0 l.1 m.number (sym n))
    same_kind (run h (check a v)) (apply h' new' m) ps qs k l n = absurd (no_check_method (method_by c (slice_get c.methods a)) m.number n)
    same_kind (apply h new m) (run h' (check a v)) ps qs k l n = absurd (no_check_method (method_by c (slice_get c.methods a)) m.number (sym n))
