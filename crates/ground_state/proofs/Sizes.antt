-- A measure of formulas and effects that falls at each part, and at each quantified variable.
use Rattle.std.proofs.Common.{ℕ, zero, suc, ◌≡◌, ◌+◌, ◌<◌, ◌≤◌, ◌⊎◌, inl, inr, List, [], ◌∷◌, length, map, get_or, ap, sym, ◌∙◌, arith}
use Rattle.plan_model.specs.declared.terms.Param.{Param}
use Rattle.plan_model.specs.declared.formulas.Formula.{Formula, roll-Formula}
use Rattle.plan_model.specs.declared.formulas.Formula.TheFolds.{fold-Formula, fold-roll-Formula, map-Formula}
use Rattle.plan_model.specs.declared.formulas.Formula.TheOpen.{Formula-F}
use Rattle.plan_model.specs.declared.formulas.Formula.TheVariants as F

abbrev pub total : List ℕ → ℕ
total [] = 0
total (n ∷ ns) = n + total ns

abbrev size_step : Formula-F ℕ → ℕ
size_step (Formula-F.Holds a) = 0
size_step (Formula-F.Equal s t) = 0
size_step (Formula-F.Not n) = 1 + n
size_step (Formula-F.And ns) = 2 + total ns
size_step (Formula-F.Or ns) = 2 + total ns
size_step (Formula-F.Imply m n) = 1 + (m + n)
size_step (Formula-F.Forall ps n) = 2 + (length ps + n)
size_step (Formula-F.Exists ps n) = 2 + (length ps + n)

pub size : Formula → ℕ
size = fold-Formula ℕ size_step

pub sizes : List Formula → ℕ
sizes fs = total (map size fs)

roll : (x : Formula-F Formula) → size (roll-Formula x) ≡ size_step (map-Formula Formula ℕ size x)
unfolding size
roll x = fold-roll-Formula ℕ size_step x

pub size-Not : (f : Formula) → size (F.Not f) ≡ 1 + size f
size-Not f = ap size (sym (F.rolls-Not f)) ∙ roll (Formula-F.Not f)

pub size-And : (fs : List Formula) → size (F.And fs) ≡ 2 + sizes fs
unfolding sizes
size-And fs = ap size (sym (F.rolls-And fs)) ∙ roll (Formula-F.And fs)

pub size-Or : (fs : List Formula) → size (F.Or fs) ≡ 2 + sizes fs
unfolding sizes
size-Or fs = ap size (sym (F.rolls-Or fs)) ∙ roll (Formula-F.Or fs)

pub size-Imply : (f g : Formula) → size (F.Imply f g) ≡ 1 + (size f + size g)
size-Imply f g = ap size (sym (F.rolls-Imply f g)) ∙ roll (Formula-F.Imply f g)

pub size-Forall : (ps : List Param) (f : Formula) → size (F.Forall ps f) ≡ 2 + (length ps + size f)
size-Forall ps f = ap size (sym (F.rolls-Forall ps f)) ∙ roll (Formula-F.Forall ps f)

pub size-Exists : (ps : List Param) (f : Formula) → size (F.Exists ps f) ≡ 2 + (length ps + size f)
size-Exists ps f = ap size (sym (F.rolls-Exists ps f)) ∙ roll (Formula-F.Exists ps f)

-- a part is no larger than all
pub part-size : (fs : List Formula) (i : ℕ) (d : Formula) → i < length fs → size (get_or fs i d) ≤ sizes fs
unfolding sizes
part-size [] i d l = absurd (omega arith)
part-size (f ∷ fs) zero d l = omega arith
part-size (f ∷ fs) (suc i) d l = let r = part-size fs i d (omega arith) in omega arith

-- what a part falls by
pub falls-Not : (f p x : Formula) → f ≡ F.Not p → x ≡ p → size x < size f
falls-Not f p x e g = let a = ap size e ∙ size-Not p in let b = ap size g in omega arith

pub falls-And : (f : Formula) (ps xs : List Formula) → f ≡ F.And ps → xs ≡ ps → 1 + sizes xs < size f
falls-And f ps xs e g = let a = ap size e ∙ size-And ps in let b = ap sizes g in omega arith

pub falls-Or : (f : Formula) (ps xs : List Formula) → f ≡ F.Or ps → xs ≡ ps → 1 + sizes xs < size f
falls-Or f ps xs e g = let a = ap size e ∙ size-Or ps in let b = ap sizes g in omega arith

pub falls-premise : (f p q x : Formula) → f ≡ F.Imply p q → x ≡ p → size x < size f
falls-premise f p q x e g = let a = ap size e ∙ size-Imply p q in let b = ap size g in omega arith

pub falls-conclusion : (f p q x : Formula) → f ≡ F.Imply p q → x ≡ q → size x < size f
falls-conclusion f p q x e g = let a = ap size e ∙ size-Imply p q in let b = ap size g in omega arith

pub falls-Forall : (f : Formula) (ps xs : List Param) (p x : Formula) → f ≡ F.Forall ps p → xs ≡ ps → x ≡ p → 1 + length xs + size x < size f
falls-Forall f ps xs p x e d g = let a = ap size e ∙ size-Forall ps p in let b = ap size g in let l = ap length d in omega arith

pub falls-Exists : (f : Formula) (ps xs : List Param) (p x : Formula) → f ≡ F.Exists ps p → xs ≡ ps → x ≡ p → 1 + length xs + size x < size f
falls-Exists f ps xs p x e d g = let a = ap size e ∙ size-Exists ps p in let b = ap size g in let l = ap length d in omega arith

pub falls-part : (fs : List Formula) (i : ℕ) (d x : Formula) → i < length fs → x ≡ get_or fs i d → size x < 1 + sizes fs
falls-part fs i d x l e = let a = part-size fs i d l in let b = ap size e in omega arith

pub falls-part-of : (f : Formula) (ps xs : List Formula) (i : ℕ) (d x : Formula) → (f ≡ F.And ps) ⊎ (f ≡ F.Or ps) → xs ≡ ps → i < length xs → x ≡ get_or xs i d → size x < size f
falls-part-of f ps xs i d x w g l h =
    let a = falls-part xs i d x l h in
    elim w [
      | inl e ↦ (let b = falls-And f ps xs e g in omega (arith, a, b))
      | inr e ↦ (let b = falls-Or f ps xs e g in omega (arith, a, b))
    ]

pub falls-within : (f : Formula) (ps xs : List Param) (p x : Formula) → (f ≡ F.Forall ps p) ⊎ (f ≡ F.Exists ps p) → xs ≡ ps → x ≡ p → 1 + length xs + size x < size f
falls-within f ps xs p x w d g = elim w [ inl e ↦ falls-Forall f ps xs p x e d g | inr e ↦ falls-Exists f ps xs p x e d g ]
