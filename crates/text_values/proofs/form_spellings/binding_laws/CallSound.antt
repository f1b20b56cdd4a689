-- A call without faults is of a declared task or action with as many parameters as terms stand there.
use Rattle.std.proofs.Common.{ℕ, suc, ◌≡◌, ◌+◌, Bool, true, false, cond, eqb, inl, inr, List, [], ◌∷◌, length, Option, Some, None, refl, sym, ap, ◌∙◌, nat_lt, arith}
use Rattle.std.specs.Prelude.{◌⊎◌, slice_get, ◌==◌}
use Rattle.std.proofs.lemmas.Bool.{eqb-true}
use Rattle.gd_reader.specs.declared.term.RawAtom.{RawAtom}
use Rattle.hddl_reader.specs.declared.sections.RawHead.{RawHead}
use Rattle.plan_model.specs.declared.networks.Head.{Head}
use Rattle.name_binding.specs.Spots.{spot}
use Rattle.hddl_bind.specs.declared.callables.Callable.{Callable}
use Rattle.hddl_bind.specs.Callables.{Declared, callable, callables_from, first_called, sooner_called, stands_for}
use Rattle.hddl_bind.specs.Calls.{call_faults}

-- the declaration of a callable, by its number
abbrev pub IsDeclaredAt : (ℕ → Head) → ℕ → List RawHead → Callable → Type 0
IsDeclaredAt head k hs x = (i : ℕ) × (h : RawHead) × (slice_get hs i ≡ Some h) × (x.head ≡ head (k + i)) × (x.arity ≡ length h.params)

pub declared_at : (n : ℕ) (head : ℕ → Head) (k : ℕ) (hs : List RawHead) (x : Callable) → first_called n (callables_from head k hs) ≡ Some x → IsDeclaredAt head k hs x
declared_at n head k [] x e = absurd (cc)
declared_at n head k (h ∷ hs) x e = go (n == h.name.name.number) e (declared_at n head (suc k) hs x)
  where
    go : (b : Bool) → cond b (Some (callable (head k) h)) (first_called n (callables_from head (suc k) hs)) ≡ Some x → (first_called n (callables_from head (suc k) hs) ≡ Some x → IsDeclaredAt head (suc k) hs x) → IsDeclaredAt head k (h ∷ hs) x
    go true e more =
        let same : callable (head k) h ≡ x = cc in
        let stays : k ≡ k + 0 = omega arith in
        (0, h, refl, sym (ap (λ (c : Callable). c.head) same) ∙ ap head stays, sym (ap (λ (c : Callable). c.arity) same))
    go false e more =
        let r = more e in
        let moves : suc k + r.0 ≡ k + suc r.0 = omega arith in
        (suc r.0, r.1, r.2, r.3 ∙ ap head moves, r.4)

-- a name stands for a task or an action
pub stands_at : (d : Declared) (n : ℕ) (x : Callable) → stands_for d n ≡ Some x → (first_called n d.tasks ≡ Some x) ⊎ (first_called n d.actions ≡ Some x)
stands_at d n x e = go (first_called n d.tasks) refl (first_called n d.actions) refl e
  where
    by : (y z : Callable) (b : Bool) → first_called n d.tasks ≡ Some y → first_called n d.actions ≡ Some z → cond b (Some z) (Some y) ≡ Some x → (first_called n d.tasks ≡ Some x) ⊎ (first_called n d.actions ≡ Some x)
    by y z true f g e = inr (g ∙ e)
    by y z false f g e = inl (f ∙ e)

    go : (o : Option Callable) → first_called n d.tasks ≡ o → (q : Option Callable) → first_called n d.actions ≡ q → sooner_called o q ≡ Some x → (first_called n d.tasks ≡ Some x) ⊎ (first_called n d.actions ≡ Some x)
    go None f q g e = inr (g ∙ e)
    go (Some y) f None g e = inl (f ∙ e)
    go (Some y) f (Some z) g e = by y z (nat_lt z.at y.at) f g e

-- a call without a fault has an answer with as many parameters
pub call_found : (o : Option Callable) (a : RawAtom) → call_faults o a ≡ [] → (x : Callable) × (o ≡ Some x) × (x.arity ≡ length a.args)
call_found None a e = absurd (cc)
call_found (Some x) a e = go (eqb x.arity (length a.args)) refl e
  where
    go : (b : Bool) → eqb x.arity (length a.args) ≡ b → cond b [] (spot a.head.at 17 ∷ []) ≡ [] → (y : Callable) × (◌≡◌ {A = Option Callable} (Some x) (Some y)) × (y.arity ≡ length a.args)
    go true f e = (x, refl, eqb-true x.arity (length a.args) f)
    go false f e = absurd (cc)
