-- A measure of effects that falls at each part, and at each quantified variable.
use Rattle.std.proofs.Common.{ℕ, zero, suc, ◌≡◌, ◌+◌, ◌<◌, ◌≤◌, List, [], ◌∷◌, length, map, get_or, refl, ap, sym, ◌∙◌, arith}
use Rattle.plan_model.specs.declared.terms.Param.{Param}
use Rattle.plan_model.specs.declared.formulas.Formula.{Formula}
use Rattle.plan_model.specs.declared.effects.Effect.{Effect, roll-Effect}
use Rattle.plan_model.specs.declared.effects.Effect.TheFolds.{fold-Effect, fold-roll-Effect, map-Effect}
use Rattle.plan_model.specs.declared.effects.Effect.TheOpen.{Effect-F}
use Rattle.plan_model.specs.declared.effects.Effect.TheVariants as E
use Rattle.ground_state.proofs.Sizes.{total}

abbrev size_step : Effect-F ℕ → ℕ
size_step (Effect-F.Add a) = 0
size_step (Effect-F.Delete a) = 0
size_step (Effect-F.And ns) = 2 + total ns
size_step (Effect-F.Forall ps n) = 2 + (length ps + n)
size_step (Effect-F.When f n) = 1 + n

pub size : Effect → ℕ
size = fold-Effect ℕ size_step

pub sizes : List Effect → ℕ
sizes es = total (map size es)

roll : (x : Effect-F Effect) → size (roll-Effect x) ≡ size_step (map-Effect Effect ℕ size x)
unfolding size
roll x = fold-roll-Effect ℕ size_step x

size-And : (es : List Effect) → size (E.And es) ≡ 2 + sizes es
unfolding sizes
size-And es = ap size (sym (E.rolls-And es)) ∙ roll (Effect-F.And es)

size-Forall : (ps : List Param) (e : Effect) → size (E.Forall ps e) ≡ 2 + (length ps + size e)
size-Forall ps e = ap size (sym (E.rolls-Forall ps e)) ∙ roll (Effect-F.Forall ps e)

size-When : (f : Formula) (e : Effect) → size (E.When f e) ≡ 1 + size e
size-When f e = ap size (sym (E.rolls-When f e)) ∙ roll (Effect-F.When f e)

part-size : (es : List Effect) (i : ℕ) (d : Effect) → i < length es → size (get_or es i d) ≤ sizes es
unfolding sizes
part-size [] i d l = absurd (omega arith)
part-size (e ∷ es) zero d l = omega arith
part-size (e ∷ es) (suc i) d l = let r = part-size es i d (omega arith) in omega arith

pub falls-And : (e : Effect) (ps xs : List Effect) → e ≡ E.And ps → xs ≡ ps → 1 + sizes xs < size e
falls-And e ps xs d g = let a = ap size d ∙ size-And ps in let b = ap sizes g in omega arith

pub falls-Forall : (e : Effect) (ps xs : List Param) (p x : Effect) → e ≡ E.Forall ps p → xs ≡ ps → x ≡ p → 1 + length xs + size x < size e
falls-Forall e ps xs p x d k g = let a = ap size d ∙ size-Forall ps p in let b = ap size g in let l = ap length k in omega arith

pub falls-When : (e : Effect) (f : Formula) (p x : Effect) → e ≡ E.When f p → x ≡ p → size x < size e
falls-When e f p x d g = let a = ap size d ∙ size-When f p in let b = ap size g in omega arith

pub falls-part : (es : List Effect) (i : ℕ) (d x : Effect) → i < length es → x ≡ get_or es i d → size x < 1 + sizes es
falls-part es i d x l e = let a = part-size es i d l in let b = ap size e in omega arith

pub falls-body : (e : Effect) (ps : List Param) (p x : Effect) → e ≡ E.Forall ps p → x ≡ p → size x < size e
falls-body e ps p x d k = let f = falls-Forall e ps ps p x d refl k in omega arith

pub falls-part-of : (e : Effect) (ps xs : List Effect) (i : ℕ) (d x : Effect) → e ≡ E.And ps → xs ≡ ps → i < length xs → x ≡ get_or xs i d → size x < size e
falls-part-of e ps xs i d x g k l h = let a = falls-part xs i d x l h in let b = falls-And e ps xs g k in omega arith
