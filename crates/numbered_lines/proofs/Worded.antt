-- What is found for the words of a line is what the line says.
use Rattle.std.proofs.Common.{ℕ, suc, ◌≡◌, ◌+◌, ◌<◌, ◌≤◌, ◌-◌, ◌^◌, Option, Some, None, List, [], ◌∷◌, length, map, take, drop, slice_get, refl, ap, sym, subst, ◌∙◌, arith}
use Rattle.std.specs.Option.{unwrap_or}
use Rattle.std.proofs.lemmas.Option.{get_or_from_slice_get, unwrap_or-slice_get, slice_get_within}
use Rattle.std.proofs.lemmas.List.{take_all}
use Rattle.htn_base.specs.declared.name.Name.{Name}
use Rattle.plan_model.specs.declared.types.Object.{Object}
use Rattle.plan_model.specs.declared.options.Checks.{Checks}
use Rattle.plan_model.specs.declared.schemas.ActionSchema.{ActionSchema}
use Rattle.plan_model.specs.declared.schemas.TaskSchema.{TaskSchema}
use Rattle.plan_model.specs.declared.schemas.MethodSchema.{MethodSchema}
use Rattle.plan_model.specs.declared.schemas.MethodPlan.{MethodPlan}
use Rattle.plan_model.specs.declared.values.Hddl.{Hddl}
use Rattle.plan_model.specs.declared.values.Compiled.{Compiled}
use Rattle.plan_model.specs.plan_meaning.Compilation.{AreMethodPlans}
use Rattle.plan_model.specs.plan_meaning.Network.{action, task}
use Rattle.plan_texts.specs.Types.{EachIs}
use Rattle.plan_texts.specs.SoundlyCompiled.{IsSoundlyCompiled}
use Rattle.hplan_text.specs.declared.values.HLine.{HLine}
use Rattle.hplan_text.specs.Printable.{IsPrintableWord, IsPrintableLine}
use Rattle.hplan_text.specs.ShownPlan.{source_word, object_name, object_name_by, action_name_by, task_name_by}
use Rattle.plan_encoder.specs.Calls.{Call, IsThere, AreThere}
use Rattle.problem_index.specs.Places.{HasWordAt, IsThePlace, ArePlaces, Finds}
use Rattle.problem_index.specs.Printed.{others, other_names}
use Rattle.tree_core.proofs.Gets.{get-map, mapped}
use Rattle.numbered_lines.specs.Numbered.{AreSaid, IsTheMethod}
use Rattle.numbered_lines.specs.WordNumbers.{action_names, task_names, object_names, AreObjects, IsTheThing}
use Rattle.numbered_lines.specs.declared.lines.Said.{Said}

-- what is found for an equal word in an equal table
pub found_by : (words table : List (List ℕ)) (places : List (Option ℕ)) (given word : List ℕ) (found : Option ℕ)
    (names : List Name)
    → words ≡ table → given ≡ word → Finds words places given found → ArePlaces (length table) names places → IsThePlace table names word found
found_by words table places given word found names e f h =
    subst (λ (t : List (List ℕ)). ArePlaces (length t) names places → IsThePlace t names word found) e
    (λ are. subst (λ w. IsThePlace words names w found) f (h names are))

-- things stand at the same places in an equal list
pub stand : {X : Type 0} (name : X → Name) (count n : ℕ) (given xs : List X) (places : List (Option ℕ)) → count ≡ n → given ≡ xs
    → ArePlaces count (map name given) places → ArePlaces n (map name xs) places
stand name count n given xs places e f h =
    subst (λ z. ArePlaces n (map name z) places) f (subst (λ k. ArePlaces k (map name given) places) e h)

module _ (c : Compiled) where
  -- what has a word stands in the table
  word_there : (n : ℕ) (word : List ℕ) → 0 < length word → source_word c n ≡ word → slice_get c.hddl.names n ≡ Some word
  word_there n word some e = go (slice_get c.hddl.names n) refl
    where
      go : (o : Option (List ℕ)) → slice_get c.hddl.names n ≡ o → slice_get c.hddl.names n ≡ Some word
      go (Some w) f = f ∙ ap Some (sym (get_or_from_slice_get c.hddl.names n w [] f) ∙ e)
      go None f =
          let g : word ≡ [] = sym e ∙ sym (unwrap_or-slice_get c.hddl.names n []) ∙ ap (λ o. unwrap_or o []) f in
          absurd (let l = ap length g in omega arith)

  -- things that have names, and a word
  module _ {X : Type 0} (name : X → Name) (xs : List X) (word : List ℕ) where
    -- at this place stands one that has the word
    abbrev pub Says : ℕ → Type 0
    Says k = (x : X) × (slice_get xs k ≡ Some x) × (source_word c (name x).number ≡ word)

    pub says : (k : ℕ) → HasWordAt c.hddl.names (map name xs) word k → Says k
    says k (n, e, w) =
        let (x, at, is) = mapped name xs k n e in
        (x, at, ap (λ (z : Name). source_word c z.number) is ∙ get_or_from_slice_get c.hddl.names n.number word [] w)

    pub has_word : 0 < length word → (k : ℕ) → Says k → HasWordAt c.hddl.names (map name xs) word k
    has_word some k (x, at, w) = (name x, get-map name xs k x at, word_there (name x).number word some w)

  object_said : (word : List ℕ) (o : ℕ) → HasWordAt c.hddl.names (object_names c) word o → IsThere c o × (object_name c o ≡ word)
  object_said word o h =
      let (x, at, w) = says (λ (x : Object). x.name) c.hddl.objects word o h in
      ((x, at), ap (object_name_by c) at ∙ w)

  object_had : (word : List ℕ) (o : ℕ) → 0 < length word → IsThere c o → object_name c o ≡ word
      → HasWordAt c.hddl.names (object_names c) word o
  object_had word o some (x, at) e =
      has_word (λ (x : Object). x.name) c.hddl.objects word some o (x, at, sym (ap (object_name_by c) at) ∙ e)

  objects_said : (words : List (List ℕ)) (os : List ℕ) → AreObjects c words os → AreThere c os × (map (object_name c) os ≡ words)
  objects_said [] [] h = (tt, refl)
  objects_said [] (o ∷ os) h = absurd h
  objects_said (w ∷ ws) [] h = absurd h
  objects_said (w ∷ ws) (o ∷ os) h =
      let (there, e) = object_said w o h.0 in
      let (rest, f) = objects_said ws os h.1 in
      ((there, rest), λ i. e i ∷ f i)

  objects_had : (words : List (List ℕ)) (os : List ℕ) → EachIs IsPrintableWord words → AreThere c os → map (object_name c) os ≡ words
      → AreObjects c words os
  objects_had [] [] p h e = tt
  objects_had [] (o ∷ os) p h e = absurd cc
  objects_had (w ∷ ws) [] p h e = absurd cc
  objects_had (w ∷ ws) (o ∷ os) p h e = (object_had w o p.0.some h.0 cc, objects_had ws os p.1 h.1 cc)

  -- an action or a task is found exactly where the line says one
  pub action_said : (line : HLine) (found : Option Said) → IsPrintableLine line → IsTheThing c (action_names c) line found
      → AreSaid c action line found
  action_said line (Some s) p (h, os) =
      let (x, at, w) = says (λ (x : ActionSchema). x.name) c.hddl.actions line.name s.number h in
      let (there, f) = objects_said line.args s.objects os in
      let e = ap (action_name_by c) at ∙ w in
      record { known = ((x, at), there); says = λ i. record { name = e i; args = f i } }
  action_said line None p h = λ n os said.
      let (x, at) = said.known.0 in
      let e = sym (ap (action_name_by c) at) ∙ ap (λ (z : Call). z.name) said.says in
      h n os (
        has_word (λ (x : ActionSchema). x.name) c.hddl.actions line.name p.name.some n (x, at, e),
        objects_had line.args os p.args said.known.1 (ap (λ (z : Call). z.args) said.says),
      )

  pub task_said : (line : HLine) (found : Option Said) → IsPrintableLine line → IsTheThing c (task_names c) line found
      → AreSaid c task line found
  task_said line (Some s) p (h, os) =
      let (x, at, w) = says (λ (x : TaskSchema). x.name) c.hddl.tasks line.name s.number h in
      let (there, f) = objects_said line.args s.objects os in
      let e = ap (task_name_by c) at ∙ w in
      record { known = ((x, at), there); says = λ i. record { name = e i; args = f i } }
  task_said line None p h = λ n os said.
      let (x, at) = said.known.0 in
      let e = sym (ap (task_name_by c) at) ∙ ap (λ (z : Call). z.name) said.says in
      h n os (
        has_word (λ (x : TaskSchema). x.name) c.hddl.tasks line.name p.name.some n (x, at, e),
        objects_had line.args os p.args said.known.1 (ap (λ (z : Call). z.args) said.says),
      )

  -- a method stands behind the top one
  behind_top : (plans : List MethodPlan) (k : ℕ) (plan : MethodPlan) → slice_get (others plans) k ≡ Some plan
      → slice_get plans (suc k) ≡ Some plan
  behind_top [] k plan e = absurd cc
  behind_top (top ∷ plans) k plan e = e

  beside_top : (plans : List MethodPlan) (k : ℕ) (plan : MethodPlan) → slice_get plans (suc k) ≡ Some plan
      → slice_get (others plans) k ≡ Some plan
  beside_top [] k plan e = absurd cc
  beside_top (top ∷ plans) k plan e = e

  pub no_method : (word : List ℕ) → 0 < length word → IsThePlace c.hddl.names (other_names c) word None → IsTheMethod c word None
  no_method word some h m (k, e, (plan, at, w)) = h k (
      has_word (λ (x : MethodPlan). x.schema.name) (others c.methods) word some k
      (plan, beside_top c.methods k plan (subst (λ n. slice_get c.methods n ≡ Some plan) e at), w)
      )

  pub method_behind : (word : List ℕ) (k m : ℕ) → m ≡ suc k → IsThePlace c.hddl.names (other_names c) word (Some k)
      → IsTheMethod c word (Some m)
  method_behind word k m e h =
      let (plan, at, w) = says (λ (x : MethodPlan). x.schema.name) (others c.methods) word k h in
      (k, e, (plan, subst (λ n. slice_get c.methods n ≡ Some plan) (sym e) (behind_top c.methods k plan at), w))

  -- there are few methods
  as_many : (h : Hddl) (mode : Checks) (ss : List MethodSchema) (ps : List MethodPlan) → AreMethodPlans h mode ss ps → length ps ≡ length ss
  as_many h mode [] [] a = refl
  as_many h mode [] (p ∷ ps) a = absurd a
  as_many h mode (s ∷ ss) [] a = absurd a
  as_many h mode (s ∷ ss) (p ∷ ps) a = ap suc (as_many h mode ss ps a.1)

  pub few_methods : IsSoundlyCompiled c → length c.methods + 1 < 2 ^ 32
  few_methods is =
      let many = as_many is.problem is.checks (is.problem.top ∷ is.problem.methods) c.methods is.compiled.methods in
      let few = is.sound.limits.methods in
      omega arith

  few_others : (plans : List MethodPlan) → length (others plans) ≤ length plans
  few_others [] = omega arith
  few_others (top ∷ plans) = omega arith

  pub method_within : (word : List ℕ) (k : ℕ) → IsSoundlyCompiled c → HasWordAt c.hddl.names (other_names c) word k → k + 1 < 2 ^ 32
  method_within word k is h =
      let (plan, at, w) = says (λ (x : MethodPlan). x.schema.name) (others c.methods) word k h in
      let l = slice_get_within (others c.methods) k plan at in
      let m = few_others c.methods in
      let few = few_methods is in
      omega arith

pub rest_is : (plans : List MethodPlan) → take (length plans - 1) (drop 1 plans) ≡ others plans
rest_is [] = refl
rest_is (top ∷ plans) = take_all (suc (length plans) - 1) plans (omega arith)

pub few_beside : (c : Compiled) → IsSoundlyCompiled c → length (take (length c.methods - 1) (drop 1 c.methods)) < 2 ^ 32
few_beside c is =
    let e = ap length (rest_is c.methods) in
    let m = few_others c c.methods in
    let few = few_methods c is in
    omega arith
