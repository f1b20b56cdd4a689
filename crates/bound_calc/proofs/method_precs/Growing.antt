-- Lists of the definitions as they grow at the end.
use Rattle.std.proofs.Common.{ℕ, zero, suc, ◌≡◌, ◌+◌, ◌<◌, ◌≤◌, ◌⊎◌, inl, inr, List, [], ◌∷◌, ◌++◌, map, length, take, get_or, refl, ap, sym, subst, ◌∙◌, arith, append_assoc}
use Rattle.std.specs.Prelude.{Result, Ok, Err, IfOk, IsOkAnd}
use Rattle.std.proofs.lemmas.List.{take_more}
use Rattle.plan_model.specs.task_networks.Spelling.{numbers}
use Rattle.plan_model.specs.declared.terms.Term.{Term}
use Rattle.plan_model.specs.declared.terms.Param.{Param}
use Rattle.plan_model.specs.declared.networks.Child.{Child}
use Rattle.plan_model.specs.declared.networks.Guard.{Guard}
use Rattle.plan_model.specs.declared.schemas.MethodSchema.{MethodSchema}
use Rattle.plan_model.specs.declared.schemas.MethodPlan.{MethodPlan}
use Rattle.plan_model.specs.declared.options.Checks.{Checks}
use Rattle.plan_model.specs.declared.values.Hddl.{Hddl}
use Rattle.plan_model.specs.plan_meaning.Compilation.{Keeps, placed, all_placed, params_of, IsMethodPlan, AreMethodPlans}

pub numbers-push : (i n : ℕ) → numbers i (suc n) ≡ numbers i n ++ (i + n) ∷ []
numbers-push i zero = ap (λ x. x ∷ []) (let e : i ≡ i + 0 = omega arith in e)
numbers-push i (suc n) = ap (λ xs. i ∷ xs) (numbers-push (suc i) n) ∙ ap (λ x. i ∷ (numbers (suc i) n ++ x ∷ [])) (let e : suc i + n ≡ i + suc n = omega arith in e)

map-push : {A B : Type 0} (f : A → B) (xs : List A) (x : A) → map f (xs ++ x ∷ []) ≡ map f xs ++ f x ∷ []
map-push f [] x = refl
map-push f (y ∷ xs) x = ap (λ zs. f y ∷ zs) (map-push f xs x)

pub map-take-more : {A B : Type 0} (f : A → B) (xs : List A) (k : ℕ) (d : A) → k < length xs → map f (take (k + 1) xs) ≡ map f (take k xs) ++ f (get_or xs k d) ∷ []
map-take-more f xs k d l = ap (map f) (take_more xs k d l) ∙ map-push f (take k xs) (get_or xs k d)

pub map-numbers-push : {A : Type 0} (f : ℕ → A) (n : ℕ) → map f (numbers 0 (n + 1)) ≡ map f (numbers 0 n) ++ f n ∷ []
map-numbers-push f n =
    let e : n + 1 ≡ suc n = omega arith in
    let z : 0 + n ≡ n = omega arith in
    ap (λ m. map f (numbers 0 m)) e ∙ (ap (map f) (numbers-push 0 n) ∙ (map-push f (numbers 0 n) (0 + n) ∙ ap (λ m. map f (numbers 0 n) ++ f m ∷ []) z))

-- what is kept of a longer list
module _ {A : Type 0} (P : A → Type 0) where
  pub keeps_push : (xs kept : List A) (x : A) → Keeps P xs kept → P x → Keeps P (xs ++ x ∷ []) (kept ++ x ∷ [])
  keeps_push [] kept x k p = inl (p, [], ap (λ zs. zs ++ x ∷ []) k, refl)
  keeps_push (y ∷ xs) kept x (inl (q, rest, e, k)) p = inl (q, rest ++ x ∷ [], ap (λ zs. zs ++ x ∷ []) e, keeps_push xs rest x k p)
  keeps_push (y ∷ xs) kept x (inr (n, k)) p = inr (n, keeps_push xs kept x k p)

  pub keeps_past : (xs kept : List A) (x : A) → Keeps P xs kept → (P x → ⊥) → Keeps P (xs ++ x ∷ []) kept
  keeps_past [] kept x k n = inr (n, k)
  keeps_past (y ∷ xs) kept x (inl (q, rest, e, k)) n = inl (q, rest, e, keeps_past xs rest x k n)
  keeps_past (y ∷ xs) kept x (inr (m, k)) n = inr (m, keeps_past xs kept x k n)

-- arguments with types, one more
pub placed_more : (h : Hddl) (params : List Param) (args : List Term) (k : ℕ) (d : Param) (t : Term) → k < length params → k < length args
    → placed h (take (k + 1) params) (take (k + 1) args) ≡ placed h (take k params) (take k args) ++ record { ty = (get_or params k d).ty; term = get_or args k t } ∷ []
placed_more h [] args k d t l m = absurd (omega arith)
placed_more h (p ∷ params) [] k d t l m = absurd (omega arith)
placed_more h (p ∷ params) (a ∷ args) zero d t l m = refl
placed_more h (p ∷ params) (a ∷ args) (suc k) d t l m =
    let e : suc (k + 1) ≡ suc k + 1 = omega arith in
    subst (λ n. placed h (take n (p ∷ params)) (take n (a ∷ args)) ≡ placed h (take (suc k) (p ∷ params)) (take (suc k) (a ∷ args)) ++ record { ty = (get_or params k d).ty; term = get_or args k t } ∷ []) e
    (ap (λ zs. record { ty = p.ty; term = a } ∷ zs) (placed_more h params args k d t (omega arith) (omega arith)))

pub placed_whole : (h : Hddl) (params : List Param) (args : List Term) (k : ℕ) → (length params ≤ k) ⊎ (length args ≤ k) → placed h (take k params) (take k args) ≡ placed h params args
placed_whole h [] args k e = go k
  where
    go : (k : ℕ) → placed h (take k []) (take k args) ≡ []
    go zero = refl
    go (suc k) = refl
placed_whole h (p ∷ params) [] k e = go k
  where
    go : (k : ℕ) → placed h (take k (p ∷ params)) (take k []) ≡ []
    go zero = refl
    go (suc k) = refl
placed_whole h (p ∷ params) (a ∷ args) zero (inl l) = absurd (omega arith)
placed_whole h (p ∷ params) (a ∷ args) zero (inr l) = absurd (omega arith)
placed_whole h (p ∷ params) (a ∷ args) (suc k) (inl l) = ap (λ zs. record { ty = p.ty; term = a } ∷ zs) (placed_whole h params args k (inl (omega arith)))
placed_whole h (p ∷ params) (a ∷ args) (suc k) (inr l) = ap (λ zs. record { ty = p.ty; term = a } ∷ zs) (placed_whole h params args k (inr (omega arith)))

pub all_placed-push : (h : Hddl) (cs : List Child) (c : Child) → all_placed h (cs ++ c ∷ []) ≡ all_placed h cs ++ placed h (params_of h c.head) c.args
all_placed-push h [] c = append_nil (placed h (params_of h c.head) c.args)
  where
    append_nil : (zs : List Guard) → zs ++ [] ≡ zs
    append_nil [] = refl
    append_nil (z ∷ zs) = ap (λ ws. z ∷ ws) (append_nil zs)
all_placed-push h (x ∷ cs) c =
    ap (λ zs. placed h (params_of h x.head) x.args ++ zs) (all_placed-push h cs c)
    ∙ sym (append_assoc (placed h (params_of h x.head) x.args) (all_placed h cs) (placed h (params_of h c.head) c.args))

pub plans_push : (h : Hddl) (mode : Checks) (ss : List MethodSchema) (ps : List MethodPlan) (s : MethodSchema) (p : MethodPlan) → AreMethodPlans h mode ss ps → IsMethodPlan h mode s p
    → AreMethodPlans h mode (ss ++ s ∷ []) (ps ++ p ∷ [])
plans_push h mode [] [] s p a is = (is, tt)
plans_push h mode [] (q ∷ ps) s p a is = absurd a
plans_push h mode (z ∷ ss) [] s p a is = absurd a
plans_push h mode (z ∷ ss) (q ∷ ps) s p a is = (a.0, plans_push h mode ss ps s p a.1 is)

pub plans_put : {E : Type 0} (h : Hddl) (mode : Checks) (ss : List MethodSchema) (ps new : List MethodPlan) (s : MethodSchema) (made : Result MethodPlan E) → AreMethodPlans h mode ss ps
    → IfOk made (IsMethodPlan h mode s) → IsOkAnd made (λ p. new ≡ ps ++ p ∷ []) → AreMethodPlans h mode (ss ++ s ∷ []) new
plans_put h mode ss ps new s (Ok p) a is put = subst (AreMethodPlans h mode (ss ++ s ∷ [])) (sym put) (plans_push h mode ss ps s p a is)
plans_put h mode ss ps new s (Err e) a is put = absurd put
