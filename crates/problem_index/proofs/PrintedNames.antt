-- What the printed words of a compiled problem stand for.
use Rattle.std.proofs.Common.{ℕ, zero, suc, ◌≡◌, ◌<◌, ◌++◌, List, [], ◌∷◌, length, get_or, map, drop, codes, IsTrue, false, Some, None, Option, slice_get, refl, sym, ap, subst, ◌∙◌, arith, true≢false, nat_eq}
use Rattle.std.specs.List.{starts_with}
use Rattle.std.specs.Option.{option_map}
use Rattle.std.proofs.lemmas.List.{length-map}
use Rattle.std.proofs.lemmas.Option.{slice_get_within, slice_get-get_or, get_or_from_slice_get, slice_get-map}
use Rattle.htn_base.specs.declared.name.Name.{Name}
use Rattle.htn_base.specs.Escapes.{escaped}
use Rattle.htn_base.proofs.EscapeLemmas.{names_apart}
use Rattle.plan_model.specs.declared.schemas.ActionSchema.{ActionSchema}
use Rattle.plan_model.specs.declared.schemas.MethodPlan.{MethodPlan}
use Rattle.plan_model.specs.declared.values.Compiled.{Compiled}
use Rattle.plan_model.specs.plan_meaning.SpelledPlan.{action_by, method_by}
use Rattle.problem_index.specs.declared.printed_index.PrintedName.TheVariants.{Action, Check, Method}
use Rattle.problem_index.specs.Places.{HasWordAt, ArePlaces, IsThePlace, Finds}
use Rattle.problem_index.specs.Printed.{others, other_names, source_word, HasPrintedNames, IsThere, word_of, StandsFor, IsTheMethod}
use Rattle.problem_index.proofs.IndexLaws.{contains_from, mapped_at}

pub after_top : (methods : List MethodPlan) (k : ℕ) → slice_get (others methods) k ≡ slice_get methods (suc k)
after_top [] k = refl
after_top (top ∷ methods) k = refl

-- the fifth byte tells generated words apart
fifth : (u v : List ℕ) → u ≡ v → get_or u 4 0 ≡ get_or v 4 0
fifth u v e = ap (λ w. get_or w 4 0) e

module _ (c : Compiled) where
  abbrev table : List (List ℕ)
  table = map escaped c.hddl.names

  abbrev method_names : MethodPlan → Name
  method_names plan = plan.schema.name

  abbrev action_names : ActionSchema → Name
  action_names a = a.name

  pub word_at : (name : Name) (word : List ℕ) → slice_get table name.number ≡ Some word → word ≡ escaped (source_word c name)
  word_at name word e =
      let at = mapped_at escaped c.hddl.names name.number word e in
      sym at.2 ∙ ap escaped (sym (get_or_from_slice_get c.hddl.names name.number at.0 [] at.1))

  pub there : (name : Name) → name.number < length c.hddl.names → slice_get table name.number ≡ Some (escaped (source_word c name))
  there name l = slice_get-map escaped c.hddl.names name.number ∙ ap (option_map escaped) (slice_get-get_or c.hddl.names name.number [] l)

  module _ {X : Type 0} (name : X → Name) (xs : List X) where
    named_at : (word : List ℕ) (k : ℕ) → HasWordAt table (map name xs) word k → (x : X) × (slice_get xs k ≡ Some x) × (word ≡ escaped (source_word c (name x)))
    named_at word k (n, e, w) =
        let at = mapped_at name xs k n e in
        (at.0, at.1, word_at n word w ∙ ap (λ (m : Name). escaped (source_word c m)) (sym at.2))

    at_named : (word : List ℕ) (k : ℕ) (x : X) → slice_get xs k ≡ Some x → (name x).number < length c.hddl.names → word ≡ escaped (source_word c (name x)) → HasWordAt table (map name xs) word k
    at_named word k x e l w = (name x, slice_get-map name xs k ∙ ap (option_map name) e, subst (λ v. slice_get table (name x).number ≡ Some v) (sym w) (there (name x) l))

  -- an action's printed word is no generated one
  no_action : (a : ℕ) (rest : List ℕ) → IsThere c (Action a) → word_of c (Action a) ≡ codes "htn_" ++ rest → starts_with nat_eq rest (codes "u_") ≡ false → ⊥
  no_action a rest (s, e) w f = true≢false (sym (names_apart.no_generated (source_word c s.name) rest (sym (ap (action_by c) e) ∙ w)) ∙ f)

  -- the method at a place beside the top one
  other_at : (name : List ℕ) (k : ℕ) → HasWordAt table (other_names c) name k → (plan : MethodPlan) × (slice_get c.methods (suc k) ≡ Some plan) × (name ≡ method_by c (slice_get c.methods (suc k)))
  other_at name k h =
      let at = named_at method_names (others c.methods) name k h in
      let here = sym (after_top c.methods k) ∙ at.1 in
      (at.0, here, at.2 ∙ sym (ap (method_by c) here))

  pub method_within : (name : List ℕ) (k : ℕ) → HasWordAt table (other_names c) name k → suc k < length c.methods
  method_within name k h = let at = other_at name k h in slice_get_within c.methods (suc k) at.0 at.1

  module _ (names : HasPrintedNames c) where
    at_other : (name : List ℕ) (k : ℕ) (plan : MethodPlan) → slice_get c.methods (suc k) ≡ Some plan → name ≡ method_by c (slice_get c.methods (suc k)) → HasWordAt table (other_names c) name k
    at_other name k plan at e =
        at_named method_names (others c.methods) name k plan (after_top c.methods k ∙ at) (names.methods plan (contains_from (others c.methods) k plan (after_top c.methods k ∙ at))) (e ∙ ap (method_by c) at)

    module _ (word : List ℕ) where
      pub start_found : word ≡ codes "htn_start" → (plan : MethodPlan) → slice_get c.methods 0 ≡ Some plan → StandsFor c word (Some (Method 0))
      start_found w plan at = ((plan, at), sym w)

      pub start_none : word ≡ codes "htn_start" → slice_get c.methods 0 ≡ None → StandsFor c word None
      start_none w none (Action a) t e = no_action a (codes "start") t (e ∙ w) refl
      start_none w none (Check m) t e = (let f : 99 ≡ 115 = fifth _ _ (e ∙ w) in absurd (omega (arith, f)))
      start_none w none (Method zero) (plan, at) e = (let g : Some plan ≡ None = sym at ∙ none in absurd (cc g))
      start_none w none (Method (suc k)) t e = (let f : 109 ≡ 115 = fifth _ _ (e ∙ w) in absurd (omega (arith, f)))

      module _ (name : List ℕ) (w : word ≡ codes "htn_m_" ++ name) where
        pub method_found : (m : ℕ) → IsTheMethod c name (Some m) → StandsFor c word (Some (Method m))
        method_found m (k, is, h) =
            let at = other_at name k h in
            let n : suc k ≡ m = omega (arith, is) in
            subst (λ j. IsThere c (Method j) × (word_of c (Method j) ≡ word)) n ((at.0, at.1), ap (λ (v : List ℕ). codes "htn_m_" ++ v) (sym at.2) ∙ sym w)

        pub method_none : IsTheMethod c name None → StandsFor c word None
        method_none none (Action a) t e = no_action a (codes "m_" ++ name) t (e ∙ w) refl
        method_none none (Check m) t e = (let f : 99 ≡ 109 = fifth _ _ (e ∙ w) in absurd (omega (arith, f)))
        method_none none (Method zero) t e = (let f : 115 ≡ 109 = fifth _ _ (e ∙ w) in absurd (omega (arith, f)))
        method_none none (Method (suc k)) (plan, at) e = none k (at_other name k plan at (ap (λ (v : List ℕ). drop 6 v) (sym w ∙ sym e)))

      module _ (name : List ℕ) (w : word ≡ codes "htn_c_" ++ name) where
        -- only a check has the word, and it is that of a method beside the top one
        only_check : ((k : ℕ) (plan : MethodPlan) → slice_get c.methods (suc k) ≡ Some plan → IsTrue plan.checked → name ≡ method_by c (slice_get c.methods (suc k)) → ⊥) → StandsFor c word None
        only_check never (Action a) t e = no_action a (codes "c_" ++ name) t (e ∙ w) refl
        only_check never (Check zero) (plan, at, checked) e = names.unchecked plan at checked
        only_check never (Check (suc k)) (plan, at, checked) e = never k plan at checked (ap (λ (v : List ℕ). drop 6 v) (sym w ∙ sym e))
        only_check never (Method zero) t e = (let f : 115 ≡ 99 = fifth _ _ (e ∙ w) in absurd (omega (arith, f)))
        only_check never (Method (suc k)) t e = (let f : 109 ≡ 99 = fifth _ _ (e ∙ w) in absurd (omega (arith, f)))

        pub check_none : IsTheMethod c name None → StandsFor c word None
        check_none none = only_check (λ k plan at checked e. none k (at_other name k plan at e))

        pub check_gone : (m : ℕ) → IsTheMethod c name (Some m) → slice_get c.methods m ≡ None → StandsFor c word None
        check_gone m (k, is, h) gone =
            let at = other_at name k h in
            let n : suc k ≡ m = omega (arith, is) in
            let g : Some at.0 ≡ None = sym at.1 ∙ ap (slice_get c.methods) n ∙ gone in
            absurd (cc g)

        pub check_found : (m : ℕ) (plan : MethodPlan) → IsTheMethod c name (Some m) → slice_get c.methods m ≡ Some plan → IsTrue plan.checked → StandsFor c word (Some (Check m))
        check_found m plan (k, is, h) here checked =
            let at = other_at name k h in
            let n : suc k ≡ m = omega (arith, is) in
            ((plan, here, checked), ap (λ (v : List ℕ). codes "htn_c_" ++ v) (sym (at.2 ∙ ap (λ j. method_by c (slice_get c.methods j)) n)) ∙ sym w)

        pub check_unchecked : (m : ℕ) (plan : MethodPlan) → IsTheMethod c name (Some m) → slice_get c.methods m ≡ Some plan → (IsTrue plan.checked → ⊥) → StandsFor c word None
        check_unchecked m plan (k, is, h) here unchecked = only_check other
          where
            n : m ≡ suc k
            n = omega (arith, is)

            this : slice_get c.methods (suc k) ≡ Some plan
            this = sym (ap (slice_get c.methods) n) ∙ here

            other : (j : ℕ) (q : MethodPlan) → slice_get c.methods (suc j) ≡ Some q → IsTrue q.checked → name ≡ method_by c (slice_get c.methods (suc j)) → ⊥
            other j q at checked e =
                let one = (other_at name k h).2 ∙ ap (method_by c) this in
                let two = e ∙ ap (method_by c) at in
                let same = names.apart k j plan q this at (names_apart.one_to_one (source_word c plan.schema.name) (source_word c q.schema.name) (sym one ∙ two)) in
                let is_q : Some plan ≡ Some q = sym this ∙ ap (λ i. slice_get c.methods (suc i)) same ∙ at in
                let plan_is : plan ≡ q = cc in
                unchecked (subst (λ (x : MethodPlan). IsTrue x.checked) (sym plan_is) checked)

      pub action_found : (a : ℕ) → HasWordAt table (map (λ (s : ActionSchema). s.name) c.hddl.actions) word a → StandsFor c word (Some (Action a))
      action_found a h = let at = named_at action_names c.hddl.actions word a h in ((at.0, at.1), ap (action_by c) at.1 ∙ sym at.2)

      pub action_none : (word ≡ codes "htn_start" → ⊥) → ((name : List ℕ) → word ≡ codes "htn_m_" ++ name → ⊥) → ((name : List ℕ) → word ≡ codes "htn_c_" ++ name → ⊥)
          → ((k : ℕ) → HasWordAt table (map (λ (s : ActionSchema). s.name) c.hddl.actions) word k → ⊥) → StandsFor c word None
      action_none no_start no_method no_check none (Action a) (s, at) e =
          none a (at_named action_names c.hddl.actions word a s at (names.actions s (contains_from c.hddl.actions a s at)) (sym e ∙ ap (action_by c) at))
      action_none no_start no_method no_check none (Check m) t e = no_check (method_by c (slice_get c.methods m)) (sym e)
      action_none no_start no_method no_check none (Method zero) t e = no_start (sym e)
      action_none no_start no_method no_check none (Method (suc k)) t e = no_method (method_by c (slice_get c.methods (suc k))) (sym e)

-- there is a first one
pub first_of : {X : Type 0} (xs : List X) → (length xs ≡ 0 → ⊥) → (x : X) × (slice_get xs 0 ≡ Some x)
first_of [] full = absurd (full refl)
first_of (x ∷ xs) full = (x, refl)

-- what is found in a table that is that of the printed words
pub method_place : (c : Compiled) (words : List (List ℕ)) (places : List (Option ℕ)) (name : List ℕ) (found : Option ℕ) → words ≡ map escaped c.hddl.names
    → ArePlaces (length c.hddl.names) (other_names c) places → Finds words places name found → IsThePlace (map escaped c.hddl.names) (other_names c) name found
method_place c words places name found same are finds =
    subst (λ (ws : List (List ℕ)). Finds ws places name found) same finds (other_names c) (subst (λ n. ArePlaces n (other_names c) places) (sym (length-map c.hddl.names escaped)) are)
