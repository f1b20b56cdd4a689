-- Last children, method by method, and marks of bad edges.
use Rattle.std.proofs.Common.{get_or, map, Contains, ℕ, zero, suc, ◌≡◌, ◌≢◌, ◌+◌, ◌<◌, ◌⊎◌, ◌↔◌, inl, inr, List, [], ◌∷◌, ◌++◌, length, Bool, IsTrue, Option, Some, None, slice_get, refl, sym, subst, ap, ◌∙◌}
use Rattle.std.proofs.lemmas.Bool.{cases_eq}
use Rattle.std.proofs.lemmas.List.{length-map, length_push}
use Rattle.std.proofs.lemmas.Option.{same_Some, get_or_from_slice_get, slice_get_within}
use Rattle.plan_model.specs.declared.networks.Child.{Child}
use Rattle.plan_model.specs.declared.networks.Pair.{Pair}
use Rattle.plan_model.specs.declared.schemas.MethodPlan.{MethodPlan}
use Rattle.plan_model.specs.declared.values.Compiled.{Compiled}
use Rattle.plan_model.specs.Pairs.{Pairs}
use Rattle.plan_model.specs.task_networks.Order.{IsAcyclic, IsLast}
use Rattle.plan_model.proofs.task_networks.Lists.{not-in_empty, head_or_tail, Contains-here, Contains-later}
use Rattle.std.proofs.lemmas.List.Elements.{Contains-get_or}
use Rattle.plan_model.proofs.task_networks.Orders.{precedes_then}
use Rattle.plan_model.specs.plan_meaning.Schemas.{schema_of}
use Rattle.plan_model.specs.plan_meaning.Strata.{AreEdges, IsBad}
use Rattle.plan_model.proofs.plan_meaning.MethodParts.{IsPairBy, schemas_by}
use Rattle.plan_model.proofs.plan_meaning.BoundParts.{there_at}
use Rattle.bound_calc.specs.declared.stratifier.edge.Edge as Declared
use Rattle.bound_calc.specs.stratifier.Listed.{edge_of}
use Rattle.bound_calc.specs.stratifier.Conditions.{HaveNoCycle, IsOrdered}
use Rattle.bound_calc.specs.stratifier.Bad.{IsLastOf}

-- an item of a list with one more
pub push_get : {A : Type 0} (xs : List A) (x y : A) (k : ℕ) → slice_get (xs ++ x ∷ []) k ≡ Some y → (slice_get xs k ≡ Some y) ⊎ ((k ≡ length xs) × (y ≡ x))
push_get [] x y zero e = inr (refl, cc)
push_get [] x y (suc k) e = absurd cc
push_get (z ∷ xs) x y zero e = inl e
push_get (z ∷ xs) x y (suc k) e = elim (push_get xs x y k e) [ inl f ↦ inl f | inr f ↦ inr (ap suc f.0, f.1) ]

-- of two last children none is another
last_is_one : (Pair : ℕ → ℕ → Type 0) (count i j : ℕ) → IsAcyclic Pair → IsLast Pair count i → IsLast Pair count j → i ≡ j
last_is_one Pair count i j acyclic a b = elim (cases_eq i j) [
  | inl e ↦ e
  | inr n ↦ absurd (acyclic i (precedes_then {Pair = Pair} i j i (b.1 i a.0 n) (a.1 j b.0 (λ e. n (sym e)))))
]

-- what is known of the last children of the first k methods
pub record AreLastsBelow (methods : List MethodPlan) (k : ℕ) (lasts : List (Option ℕ)) : Type 0 where
  pub room : length lasts ≡ k
  pub each : (m : ℕ) (plan : MethodPlan) (last : Option ℕ) → slice_get methods m ≡ Some plan → slice_get lasts m ≡ Some last → IsLastOf plan last

pub lasts_more : (methods : List MethodPlan) (k : ℕ) (lasts : List (Option ℕ)) (plan : MethodPlan) (last : Option ℕ) → slice_get methods k ≡ Some plan → IsLastOf plan last → AreLastsBelow methods k lasts → AreLastsBelow methods (k + 1) (lasts ++ last ∷ [])
lasts_more methods k lasts plan last is l h = record {
  room = length_push lasts last ∙ ap (λ n. n + 1) h.room;
  each = λ m p o e f. elim (push_get lasts last o m f) [
    | inl g ↦ h.each m p o e g
    | inr g ↦ subst (IsLastOf p) (sym g.1) (subst (λ z. IsLastOf z last) (same_Some plan p (sym is ∙ (ap (slice_get methods) (sym (g.0 ∙ h.room)) ∙ e))) l)
  ];
}

-- marks of the first k edges
pub record AreMarkedBelow (c : Compiled) (edges : List Declared.Edge) (k : ℕ) (marks : List Bool) : Type 0 where
  pub room : length marks ≡ k
  pub each : (j : ℕ) (e : Declared.Edge) (mark : Bool) → slice_get edges j ≡ Some e → slice_get marks j ≡ Some mark → IsTrue mark ↔ IsBad c (edge_of e)

pub marked_none : (c : Compiled) (edges : List Declared.Edge) (marks : List Bool) → marks ≡ [] → AreMarkedBelow c edges 0 marks
marked_none c edges marks empty = record { room = ap length empty; each = λ j e mark f g. (let h : slice_get [] j ≡ Some mark = ap (λ s. slice_get s j) (sym empty) ∙ g in absurd cc) }

pub marked_more : (c : Compiled) (edges : List Declared.Edge) (k : ℕ) (marks new : List Bool) (edge : Declared.Edge) (mark : Bool) → slice_get edges k ≡ Some edge → (IsTrue mark ↔ IsBad c (edge_of edge))
    → AreMarkedBelow c edges k marks → new ≡ marks ++ mark ∷ [] → AreMarkedBelow c edges (k + 1) new
marked_more c edges k marks new edge mark is bad h f = record {
  room = ap length f ∙ (length_push marks mark ∙ ap (λ n. n + 1) h.room);
  each = λ j e b p q. elim (push_get marks mark b j (ap (λ s. slice_get s j) (sym f) ∙ q)) [
    | inl g ↦ h.each j e b p g
    | inr g ↦ subst (λ z. IsTrue z ↔ IsBad c (edge_of e)) (sym g.1) (subst (λ z. IsTrue mark ↔ IsBad c (edge_of z)) (same_Some edge e (sym is ∙ (ap (slice_get edges) (sym (g.0 ∙ h.room)) ∙ p))) bad)
  ];
}

-- an edge is bad where its child isn't the last one
bad_by : (plan : MethodPlan) (last : Option ℕ) (child : ℕ) → IsOrdered plan → IsLastOf plan last → (last ≢ Some child) ↔ (IsLast (Pairs plan.schema.pairs) (length plan.schema.children) child → ⊥)
bad_by plan None child ordered h = (λ n. h child, λ n e. absurd cc)
bad_by plan (Some i) child ordered h = (
  λ n l. n (ap Some (last_is_one (Pairs plan.schema.pairs) (length plan.schema.children) i child ordered.acyclic h l)),
  λ n e. n (subst (IsLast (Pairs plan.schema.pairs) (length plan.schema.children)) (same_Some i child e) h),
)

pub bad_of : (c : Compiled) (e : Declared.Edge) (plan : MethodPlan) (last : Option ℕ) → slice_get c.methods e.method ≡ Some plan → IsOrdered plan → IsLastOf plan last → (last ≢ Some e.child) ↔ IsBad c (edge_of e)
bad_of c e plan last is ordered h =
    let many : length (schemas_by e.method (Some plan)) ≡ length plan.schema.children = length-map plan.schema.children (λ (child : Child). schema_of e.method child.head) in
    subst (λ o. (last ≢ Some e.child) ↔ (IsLast (IsPairBy o) (length (schemas_by e.method o)) e.child → ⊥)) (sym is)
    (subst (λ n. (last ≢ Some e.child) ↔ (IsLast (Pairs plan.schema.pairs) n e.child → ⊥)) (sym many) (bad_by plan last e.child ordered h))

pub bad_mark : (c : Compiled) (e : Declared.Edge) (methods : List MethodPlan) (lasts : List (Option ℕ)) (last : Option ℕ) → HaveNoCycle c → methods ≡ c.methods → e.method < length c.methods → AreLastsBelow methods (length methods) lasts → slice_get lasts e.method ≡ Some last
    → (last ≢ Some e.child) ↔ IsBad c (edge_of e)
bad_mark c e methods lasts last ordered same l are is =
    let (plan, f) = there_at c.methods e.method l in
    let network = subst IsOrdered (get_or_from_slice_get c.methods e.method plan plan f) (ordered e.method plan l) in
    bad_of c e plan last f network (are.each e.method plan last (ap (λ ms. slice_get ms e.method) same ∙ f) is)

pub lasts_all : (methods : List MethodPlan) (k : ℕ) (lasts : List (Option ℕ)) → k ≡ length methods → AreLastsBelow methods k lasts → AreLastsBelow methods (length methods) lasts
lasts_all methods k lasts e = subst (λ n. AreLastsBelow methods n lasts) e

-- the method of an edge is there
pub in_map : (edges : List Declared.Edge) (e : Declared.Edge) → Contains edges e → Contains (map edge_of edges) (edge_of e)
in_map [] e k = absurd (not-in_empty e k)
in_map (d ∷ edges) e k = elim (head_or_tail d edges e k) [
  | inl f ↦ subst (λ z. Contains (map edge_of (d ∷ edges)) (edge_of z)) f (Contains-here (edge_of d) (map edge_of edges))
  | inr j ↦ Contains-later (edge_of d) (map edge_of edges) (edge_of e) (in_map edges e j)
]

pub method_within : (c : Compiled) (edges : List Declared.Edge) → AreEdges c (map edge_of edges) → (k : ℕ) (d : Declared.Edge) → k < length edges → (get_or edges k d).method < length c.methods
method_within c edges are k d l =
    let h = (are.all (edge_of (get_or edges k d))).0 (in_map edges (get_or edges k d) (Contains-get_or edges k d l)) in
    slice_get_within c.methods (get_or edges k d).method h.ground.0 h.ground.1
