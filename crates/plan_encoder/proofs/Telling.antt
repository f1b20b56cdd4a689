-- What is said of the methods of a compiled problem tells their numbers, and so their pairs and their checks.
use Rattle.std.proofs.Common.{ℕ, zero, suc, ◌≡◌, ◌↔◌, List, [], map, Option, Some, None, MatchOption, slice_get, refl, ap, sym, subst, ◌∙◌}
use Rattle.std.specs.Option.{option_map_or}
use Rattle.std.proofs.lemmas.Simd.{map-map}
use Rattle.plan_texts.specs.Declared.{named}
use Rattle.plan_texts.specs.SoundValue.{method_words}
use Rattle.plan_texts.specs.SoundProblem.{IsSoundProblem}
use Rattle.plan_model.specs.declared.options.Checks.{Checks}
use Rattle.plan_model.specs.declared.networks.Head.{Head}
use Rattle.plan_model.specs.declared.networks.Head.TheVariants.{Task, Action, Check}
use Rattle.plan_model.specs.declared.networks.Child.{Child}
use Rattle.plan_model.specs.declared.schemas.MethodSchema.{MethodSchema}
use Rattle.plan_model.specs.declared.schemas.MethodPlan.{MethodPlan}
use Rattle.plan_model.specs.declared.values.Hddl.{Hddl}
use Rattle.plan_model.specs.declared.values.Compiled.{Compiled}
use Rattle.plan_model.specs.Pairs.{Pairs}
use Rattle.plan_model.specs.plan_meaning.Compilation.{IsCompiled}
use Rattle.plan_model.specs.plan_meaning.Network.{GroundMethod, network, child_of, subtasks_of, ground_work, IsGroundMethod}
use Rattle.plan_model.specs.plan_meaning.Solution.{top_work}
use Rattle.tree_core.proofs.Gets.{one_place, get-map}
use Rattle.hplan_text.specs.ShownPlan.{name_of, task_name_by, method_name_by}
use Rattle.schedules.specs.latest.Shown.{AreTelling}
use Rattle.schedules.proofs.latest.Rearranged.{map_same}
use Rattle.plan_encoder.specs.Calls.{Decomposed, is_check, call, words}
use Rattle.plan_encoder.proofs.CallsApart.{named_in, no_top_name}
use Rattle.plan_encoder.proofs.CompiledMethods.{head_is, head_no_check, written_at, top_method, other_method, top_number}

module _ (c : Compiled) where
  -- the child of two methods of one number is the same kind of work
  check_head : (g k : GroundMethod) (head : Head) (v w : List ℕ) → is_check (ground_work g head v) ≡ is_check (ground_work k head w)
  check_head g k (Task t) v w = refl
  check_head g k (Action a) v w = refl
  check_head g k Check v w = refl

  pub checks_by_number : (m n : GroundMethod) → m.number ≡ n.number
      → map is_check ((network c).works m) ≡ map is_check ((network c).works n)
  checks_by_number m n e = go (slice_get c.methods m.number) ∙ ap (λ k. map is_check (option_map_or (subtasks_of n) (slice_get c.methods k) [])) e
    where
      go : (o : Option MethodPlan) → map is_check (option_map_or (subtasks_of m) o []) ≡ map is_check (option_map_or (subtasks_of n) o [])
      go None = refl
      go (Some p) =
          map-map is_check (child_of m) p.schema.children
          ∙ map_same (λ x. is_check (child_of m x)) (λ x. is_check (child_of n x)) p.schema.children (λ (x : Child) d. check_head m n x.head _ _)
          ∙ sym (map-map is_check (child_of n) p.schema.children)

  pub pairs_by_number : (m n : GroundMethod) → m.number ≡ n.number → (i j : ℕ) → (network c).Pair m i j ↔ (network c).Pair n i j
  pairs_by_number m n e i j = subst
      (λ k. MatchOption (slice_get c.methods m.number) ⊥ (λ plan. Pairs plan.schema.pairs i j) ↔ MatchOption (slice_get c.methods k) ⊥ (λ plan. Pairs plan.schema.pairs i j))
      e (λ x. x, λ x. x)

  module _ (h : Hddl) (mode : Checks) (sound : IsSoundProblem h) (is : IsCompiled h mode c) where
    abbrev task_word : MethodPlan → List ℕ
    task_word p = task_name_by c (slice_get c.hddl.tasks p.schema.task)

    numbers_by_words : (i j : ℕ) (p q : MethodPlan) → slice_get c.methods i ≡ Some p → slice_get c.methods j ≡ Some q
        → task_word p ≡ task_word q
        → method_name_by c (slice_get c.methods i) ≡ method_name_by c (slice_get c.methods j) → i ≡ j
    numbers_by_words zero zero p q f g x y = refl
    numbers_by_words (suc i) (suc j) p q f g x y =
        let (s, on, ps) = written_at c h mode sound is (suc i) p f in
        let (t, at, qs) = written_at c h mode sound is (suc j) q g in
        let name_p : p.schema.name ≡ s.name = ap (λ (z : MethodSchema). z.name) ps.schema in
        let name_q : q.schema.name ≡ t.name = ap (λ (z : MethodSchema). z.name) qs.schema in
        let words : named h.names s.name ≡ named h.names t.name =
        ap (named h.names) (sym name_p) ∙ sym (named_in c h mode sound is p.schema.name) ∙ sym (ap (method_name_by c) f) ∙ y ∙ ap (method_name_by c) g
        ∙ named_in c h mode sound is q.schema.name ∙ ap (named h.names) name_q in
        ap suc (one_place (method_words h) sound.value.methods_differ i j (named h.names s.name)
        (get-map (λ (x : MethodSchema). named h.names x.name) h.methods i s on)
        (get-map (λ (x : MethodSchema). named h.names x.name) h.methods j t at ∙ ap Some (sym words)))
    numbers_by_words zero (suc j) p q f g x y =
        let (s, e) = other_method c h mode sound is j q g in
        absurd (no_top_name c h mode sound is q.schema.task s e (sym x ∙ ap (λ t. task_name_by c (slice_get c.hddl.tasks t)) (top_method c h mode sound is p f).0))
    numbers_by_words (suc i) zero p q f g x y =
        let (s, e) = other_method c h mode sound is i p f in
        absurd (no_top_name c h mode sound is p.schema.task s e (x ∙ ap (λ t. task_name_by c (slice_get c.hddl.tasks t)) (top_method c h mode sound is q g).0))

    pub number_told : (m n : GroundMethod) → IsGroundMethod c m → IsGroundMethod c n → (words c).split m ≡ (words c).split n
        → m.number ≡ n.number
    number_told m n a b e = numbers_by_words m.number n.number a.plan b.plan a.is b.is
        (sym (ap (name_of c) (head_is c m a.plan a.is)) ∙ ap (λ (z : Decomposed). z.task.name) e ∙ ap (name_of c) (head_is c n b.plan b.is))
        (ap (λ (z : Decomposed). z.method) e)

    pub words_tell : AreTelling (network c) (words c) (top_work c)
    words_tell = record {
      pairs = λ m n a b e. pairs_by_number m n (number_told m n a b e);
      checks = λ m n a b e. checks_by_number m n (number_told m n a b e);
      no_method = head_no_check c;
      root = λ m n a b x y. (
          let e = x ∙ sym y in
          let k = top_number c h mode sound is m a.plan a.is x ∙ sym (top_number c h mode sound is n b.plan b.is y) in
          let r : (words c).split m ≡ (words c).split n = λ i. record { task = call c (e i); method = method_name_by c (slice_get c.methods (k i)) } in
          r);
      top_is_task = λ x. x;
    }
