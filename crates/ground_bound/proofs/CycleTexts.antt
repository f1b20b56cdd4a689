-- The words of a cycle of ground edges, edge by edge, and those of a task, object by object.
use Rattle.std.proofs.Common.{ℕ, suc, ◌≡◌, ◌+◌, ◌-◌, ◌<◌, List, [], ◌∷◌, ◌++◌, length, map, take, get_or, slice_get, Some, None, codes, refl, sym, ap, subst, ◌∙◌, append_assoc, arith}
use Rattle.std.proofs.lemmas.List.{append-nil, map-append, take_more}
use Rattle.std.proofs.lemmas.Option.{slice_get-get_or, slice_get-map}
use Rattle.std.specs.Option.{option_map}
use Rattle.std.specs.Prelude.{Result, Ok, Err, OnOk}
use Rattle.plan_model.specs.declared.networks.Head.{Head}
use Rattle.plan_model.specs.declared.networks.Head.TheVariants.{Task, Action, Check}
use Rattle.plan_model.specs.declared.networks.Child.{Child}
use Rattle.plan_model.specs.declared.schemas.MethodPlan.{MethodPlan}
use Rattle.plan_model.specs.declared.terms.Term.{Term}
use Rattle.plan_model.specs.declared.values.Compiled.{Compiled}
use Rattle.plan_model.specs.plan_meaning.Network.{GroundMethod, task, child_of, ground_work, network}
use Rattle.plan_model.specs.plan_meaning.Truth.{value_of, values_of}
use Rattle.plan_model.proofs.plan_meaning.MethodParts.{works_by}
use Rattle.bound_calc.specs.stratifier.CycleWords.{method_word}
use Rattle.bound_calc.specs.NoBound.{spaced}
use Rattle.bound_calc.proofs.Cycles.{two_more}
use Rattle.slot_machine.specs.bound_laws.NetworkEdges.{Edge, source, target_by, target}
use Rattle.ground_bound.specs.NoGroundBound.{edge_of}
use Rattle.ground_bound.specs.GroundCycleWords.{object_word, ground_task_word, ground_cycle_words}
use Rattle.ground_bound.specs.declared.ground_error.GroundEdge.{GroundEdge}

spaced-append : (xs ys : List (List ℕ)) → spaced (xs ++ ys) ≡ spaced xs ++ spaced ys
spaced-append [] ys = refl
spaced-append (x ∷ xs) ys = ap (λ z. (codes " " ++ x) ++ z) (spaced-append xs ys) ∙ sym (append_assoc (codes " " ++ x) (spaced xs) (spaced ys))

module _ (c : Compiled) where
  abbrev edge_words : Edge GroundMethod → List (List ℕ)
  edge_words e = ground_task_word c (source (network c) e) ∷ method_word c e.method.number ∷ []

  abbrev begun_by : List (Edge GroundMethod) → List (List ℕ)
  begun_by [] = []
  begun_by (e ∷ es) = edge_words e ++ begun_by es

  -- the words of a cycle before its last one
  abbrev pub begun : List GroundEdge → List (List ℕ)
  begun es = begun_by (map edge_of es)

  begun-push : (es : List (Edge GroundMethod)) (e : Edge GroundMethod) → begun_by (es ++ e ∷ []) ≡ begun_by es ++ edge_words e
  begun-push [] e = append-nil (edge_words e)
  begun-push (d ∷ es) e = ap (λ z. edge_words d ++ z) (begun-push es e)

  -- one more edge, its task and its method
  pub begun-more : (es : List GroundEdge) (k : ℕ) (d : GroundEdge) (text source_text more : List ℕ) → k < length es → text ≡ spaced (begun (take k es))
      → source_text ≡ (text ++ codes " ") ++ ground_task_word c (source (network c) (edge_of (get_or es k d)))
      → more ≡ (source_text ++ codes " ") ++ method_word c (get_or es k d).method
      → more ≡ spaced (begun (take (k + 1) es))
  begun-more es k d text source_text more l f g h =
      let e = get_or es k d in
      let all : begun (take (k + 1) es) ≡ begun (take k es) ++ edge_words (edge_of e) =
      ap begun (take_more es k d l) ∙ ap begun_by (map-append edge_of (take k es) (e ∷ [])) ∙ begun-push (map edge_of (take k es)) (edge_of e) in
      h ∙ ap (λ z. (z ++ codes " ") ++ method_word c e.method) g
      ∙ two_more text (ground_task_word c (source (network c) (edge_of e))) (method_word c e.method)
      ∙ ap (λ z. z ++ spaced (edge_words (edge_of e))) f
      ∙ sym (spaced-append (begun (take k es)) (edge_words (edge_of e))) ∙ ap spaced (sym all)

  words_all : (es : List GroundEdge) (e : GroundEdge) → slice_get es (length es - 1) ≡ Some e → ground_cycle_words c (map edge_of es) ≡ begun es ++ ground_task_word c (target (network c) (edge_of e)) ∷ []
  words_all [] e is = absurd (cc)
  words_all (d ∷ []) e is = let same : d ≡ e = cc in ap (λ z. edge_words (edge_of d) ++ ground_task_word c (target (network c) (edge_of z)) ∷ []) same
  words_all (d ∷ f ∷ es) e is =
      let n : length (d ∷ f ∷ es) - 1 ≡ suc (length es) = omega arith in
      let m : length es ≡ length (f ∷ es) - 1 = omega arith in
      let at : slice_get (f ∷ es) (length es) ≡ Some e = subst (λ z. slice_get (d ∷ f ∷ es) z ≡ Some e) n is in
      ap (λ z. ground_task_word c (source (network c) (edge_of d)) ∷ method_word c d.method ∷ z) (words_all (f ∷ es) e (subst (λ z. slice_get (f ∷ es) z ≡ Some e) m at))

  pub joined : (es : List GroundEdge) (e : GroundEdge) → slice_get es (length es - 1) ≡ Some e → (text more : List ℕ) → text ≡ spaced (begun es)
      → more ≡ (text ++ codes " ") ++ ground_task_word c (target (network c) (edge_of e)) → more ≡ spaced (ground_cycle_words c (map edge_of es))
  joined es e is text more f h =
      let last = ground_task_word c (target (network c) (edge_of e)) in
      h ∙ append_assoc text (codes " ") last ∙ (λ i. f i ++ sym (append-nil (codes " " ++ last)) i) ∙ sym (spaced-append (begun es) (last ∷ [])) ∙ ap spaced (sym (words_all es e is))

  pub nothing : (es : List GroundEdge) → slice_get es (length es - 1) ≡ None → spaced (ground_cycle_words c (map edge_of es)) ≡ spaced (begun es)
  nothing [] is = refl
  nothing (d ∷ es) is =
      let l : length (d ∷ es) - 1 < length (d ∷ es) = omega arith in
      let at = slice_get-get_or (d ∷ es) (length (d ∷ es) - 1) d l in absurd (cc)

  -- one more object
  pub object_more : (values : List ℕ) (terms : List Term) (k : ℕ) (d : Term) (start text more word : List ℕ) → k < length terms
      → text ≡ start ++ spaced (map (object_word c) (values_of values (take k terms))) → word ≡ object_word c (value_of values (get_or terms k d))
      → more ≡ (text ++ codes " ") ++ word → more ≡ start ++ spaced (map (object_word c) (values_of values (take (k + 1) terms)))
  object_more values terms k d start text more word l f g h =
      let t = get_or terms k d in
      let old = map (object_word c) (values_of values (take k terms)) in
      let all : map (object_word c) (values_of values (take (k + 1) terms)) ≡ old ++ object_word c (value_of values t) ∷ [] =
      ap (λ ts. map (object_word c) (values_of values ts)) (take_more terms k d l)
      ∙ ap (map (object_word c)) (map-append (value_of values) (take k terms) (t ∷ []))
      ∙ map-append (object_word c) (values_of values (take k terms)) (value_of values t ∷ []) in
      h ∙ append_assoc text (codes " ") word ∙ (λ i. f i ++ (codes " " ++ g i))
      ∙ append_assoc start (spaced old) (codes " " ++ object_word c (value_of values t))
      ∙ ap (λ z. start ++ z) (ap (λ z. spaced old ++ z) (sym (append-nil (codes " " ++ object_word c (value_of values t)))) ∙ sym (spaced-append old (object_word c (value_of values t) ∷ [])) ∙ ap spaced (sym all))

  -- the name, the objects and the parentheses
  pub task_whole : (old opened begun_text name text more objects : List ℕ) → opened ≡ (old ++ codes " ") ++ codes "(" → begun_text ≡ opened ++ name → text ≡ begun_text ++ objects → more ≡ text ++ codes ")"
      → more ≡ (old ++ codes " ") ++ (((codes "(" ++ name) ++ objects) ++ codes ")")
  task_whole old opened begun_text name text more objects a b f g =
      g ∙ ap (λ z. z ++ codes ")") (f ∙ ap (λ z. z ++ objects) (b ∙ ap (λ z. z ++ name) a ∙ append_assoc (old ++ codes " ") (codes "(") name)
      ∙ append_assoc (old ++ codes " ") (codes "(" ++ name) objects)
      ∙ append_assoc (old ++ codes " ") ((codes "(" ++ name) ++ objects) (codes ")")

  -- the work that an edge goes to
  target_is : (e : Edge GroundMethod) (plan : MethodPlan) (child : Child) → slice_get c.methods e.method.number ≡ Some plan → slice_get plan.schema.children e.child ≡ Some child
      → target (network c) e ≡ child_of e.method child
  target_is e plan child h f = ap (target_by (network c) (source (network c) e))
      (ap (λ o. slice_get (works_by e.method o) e.child) h ∙ slice_get-map (child_of e.method) plan.schema.children e.child ∙ ap (option_map (child_of e.method)) f)

  pub target_task : (e : GroundEdge) (plan : MethodPlan) (child : Child) → slice_get c.methods e.method ≡ Some plan → slice_get plan.schema.children e.child ≡ Some child
      → (n : ℕ) → child.head ≡ Task n → (values : List ℕ) (terms : List Term) → values ≡ e.args → terms ≡ child.args
      → ground_task_word c (task n (values_of values terms)) ≡ ground_task_word c (target (network c) (edge_of e))
  target_task e plan child h f n i values terms v t =
      (λ j. ground_task_word c (ground_work (edge_of e).method (sym i j) (values_of (v j) (t j)))) ∙ ap (ground_task_word c) (sym (target_is (edge_of e) plan child h f))

  abbrev IsNoTask : Head → Type 0
  IsNoTask (Task n) = ⊥
  IsNoTask (Action a) = Unit {0}
  IsNoTask Check = Unit {0}

  pub target_simple : (e : GroundEdge) (plan : MethodPlan) (child : Child) → slice_get c.methods e.method ≡ Some plan → slice_get plan.schema.children e.child ≡ Some child
      → (head : Head) → child.head ≡ head → IsNoTask head → ground_task_word c (target (network c) (edge_of e)) ≡ []
  target_simple e plan child h f head i simple =
      ap (ground_task_word c) (target_is (edge_of e) plan child h f) ∙ ap (λ z. ground_task_word c (ground_work (edge_of e).method z (values_of e.args child.args))) i ∙ go head simple
    where
      go : (head : Head) → IsNoTask head → ground_task_word c (ground_work (edge_of e).method head (values_of e.args child.args)) ≡ []
      go (Task n) s = absurd s
      go (Action a) s = refl
      go Check s = refl

pub on_ok_then : {A E P Q : Type 0} (made : Result A E) → (P → Q) → OnOk made P → OnOk made Q
on_ok_then (Ok x) f p = f p
on_ok_then (Err m) f p = tt
