-- Words as the one grammar and the other test them.
use Rattle.std.proofs.Common.{ℕ, ◌≡◌, ◌⊎◌, inl, inr, Bool, true, false, not, ◌&&◌, ◌==◌, if◌then◌else◌, [], ◌∷◌, codes, refl, sym, ap, subst, ◌∙◌}
use Rattle.std.proofs.lemmas.Bool.{eqb-true}
use Rattle.std.specs.Str.{bytes_eq}
use Rattle.htn_base.specs.Words.{is_reserved}
use Rattle.text_forms.specs.Words.{Word, is_name}
use Rattle.plan_texts.proofs.Basics.{bytes_eq-true, bytes_eq-other}
use Rattle.gd_reader.specs.declared.words.Sort.{Sort}
use Rattle.gd_reader.specs.declared.words.Sort.TheVariants.{Variable, Name, Other}
use Rattle.gd_reader.specs.declared.words.Head.{Head}
use Rattle.gd_reader.specs.declared.words.Head.TheVariants as head
use Rattle.gd_reader.specs.declared.words.EffectHead.{EffectHead}
use Rattle.gd_reader.specs.declared.words.EffectHead.TheVariants as effect
use Rattle.gd_reader.specs.TermGrammar.{allowed, is_term_sort, is_name_sort, term_form, name_form}
use Rattle.gd_reader.specs.Words.{sort_of, head_of, effect_head_of, plain_by, plain_effect_by}
use Rattle.gd_reader.proofs.Sorts.{name_test}

pub allow : (b : Bool) → b ≡ true → (allowed b).Whole
allow b e = subst (λ b. (allowed b).Whole) (sym e) tt

pub is_allowed : (b : Bool) → (allowed b).Whole → b ≡ true
is_allowed true h = refl
is_allowed false h = absurd h

pub false_true : {P : Type 0} → ◌≡◌ {A = Bool} false true → P
false_true e = cc

pub whole_name : (w : Word) → is_name w ≡ true → (name_form w).Whole
whole_name w e = allow (is_name_sort (sort_of w)) (name_test w ∙ e)

pub name_whole : (w : Word) → (name_form w).Whole → is_name w ≡ true
name_whole w h = sym (name_test w) ∙ is_allowed (is_name_sort (sort_of w)) h

pub sort_name : (w : Word) → is_name w ≡ true → sort_of w ≡ Name
sort_name w e = go (sort_of w) (name_test w ∙ e)
  where
    go : (s : Sort) → is_name_sort s ≡ true → s ≡ Name
    go Variable e = false_true e
    go Name e = refl
    go Other e = false_true e

pub name_of_sort : (w : Word) → sort_of w ≡ Name → is_name w ≡ true
name_of_sort w e = sym (name_test w) ∙ ap is_name_sort e

-- a question mark and letters
pub sort_variable : (b : ℕ) (w : Word) → sort_of (63 ∷ b ∷ w) ≡ Variable
unfolding sort_of
sort_variable b w = refl

abbrev pub IsMarked : Word → Type 0
IsMarked w = (b : ℕ) × (u : Word) × (w ≡ 63 ∷ b ∷ u)

pub variable_of_sort : (w : Word) → sort_of w ≡ Variable → IsMarked w
unfolding sort_of
variable_of_sort [] e = cc
variable_of_sort (b ∷ []) e = one (not (b == 63) && (not (b == 58) && not (is_reserved (b ∷ [])))) e
  where
    one : (y : Bool) → ◌≡◌ {A = Sort} (if y then Name else Other) Variable → IsMarked (b ∷ [])
    one true e = cc
    one false e = cc
variable_of_sort (b ∷ c ∷ w) e = two (b == 63) refl (not (b == 58) && not (is_reserved (b ∷ c ∷ w))) e
  where
    two : (x : Bool) → (b == 63) ≡ x → (y : Bool) → ◌≡◌ {A = Sort} (if x then Variable else (if not x && y then Name else Other)) Variable → IsMarked (b ∷ c ∷ w)
    two true t y e = (c, w, ap (λ b. b ∷ c ∷ w) (eqb-true b 63 t))
    two false t true e = cc
    two false t false e = cc

pub whole_variable : (b : ℕ) (w : Word) → (term_form (63 ∷ b ∷ w)).Whole
whole_variable b w = allow (is_term_sort (sort_of (63 ∷ b ∷ w))) (ap is_term_sort (sort_variable b w))

pub whole_name_term : (w : Word) → is_name w ≡ true → (term_form w).Whole
whole_name_term w e = allow (is_term_sort (sort_of w)) (ap is_term_sort (sort_name w e))

pub term_whole : (w : Word) → (term_form w).Whole → (is_name w ≡ true) ⊎ IsMarked w
term_whole w h = go (sort_of w) refl (is_allowed (is_term_sort (sort_of w)) h)
  where
    go : (s : Sort) → sort_of w ≡ s → is_term_sort s ≡ true → (is_name w ≡ true) ⊎ IsMarked w
    go Variable e t = inr (variable_of_sort w e)
    go Name e t = inl (name_of_sort w e)
    go Other e t = false_true t

-- what the word is that begins so
abbrev pub HeadWord : Head → Word → Type 0
HeadWord head.And w = w ≡ codes "and"
HeadWord head.Or w = w ≡ codes "or"
HeadWord head.Not w = w ≡ codes "not"
HeadWord head.Imply w = w ≡ codes "imply"
HeadWord head.Forall w = w ≡ codes "forall"
HeadWord head.Exists w = w ≡ codes "exists"
HeadWord head.Equal w = w ≡ codes "="
HeadWord head.Plain w = is_name w ≡ true
HeadWord head.Wrong w = Unit {0}

choose : (w k : Word) (h rest : Head) → (w ≡ k → HeadWord h w) → HeadWord rest w → HeadWord (if bytes_eq w k then h else rest) w
choose w k h rest here later = go (bytes_eq w k) refl
  where
    go : (b : Bool) → bytes_eq w k ≡ b → HeadWord (if b then h else rest) w
    go true e = here (bytes_eq-true w k e)
    go false e = later

pub head_word : (w : Word) → HeadWord (head_of w) w
unfolding head_of
head_word w =
    choose w (codes "and") head.And _ (λ e. e) (choose w (codes "or") head.Or _ (λ e. e) (choose w (codes "not") head.Not _ (λ e. e)
    (choose w (codes "imply") head.Imply _ (λ e. e) (choose w (codes "forall") head.Forall _ (λ e. e) (choose w (codes "exists") head.Exists _ (λ e. e)
    (choose w (codes "=") head.Equal _ (λ e. e) (plain (sort_of w) refl)))))))
  where
    plain : (s : Sort) → sort_of w ≡ s → HeadWord (plain_by s) w
    plain Variable e = tt
    plain Name e = name_of_sort w e
    plain Other e = tt

abbrev pub EffectWord : EffectHead → Word → Type 0
EffectWord effect.And w = w ≡ codes "and"
EffectWord effect.Forall w = w ≡ codes "forall"
EffectWord effect.When w = w ≡ codes "when"
EffectWord effect.Not w = w ≡ codes "not"
EffectWord effect.Increase w = w ≡ codes "increase"
EffectWord effect.Plain w = is_name w ≡ true
EffectWord effect.Wrong w = Unit {0}

choose_effect : (w k : Word) (h rest : EffectHead) → (w ≡ k → EffectWord h w) → EffectWord rest w → EffectWord (if bytes_eq w k then h else rest) w
choose_effect w k h rest here later = go (bytes_eq w k) refl
  where
    go : (b : Bool) → bytes_eq w k ≡ b → EffectWord (if b then h else rest) w
    go true e = here (bytes_eq-true w k e)
    go false e = later

pub effect_word : (w : Word) → EffectWord (effect_head_of w) w
unfolding effect_head_of
effect_word w =
    choose_effect w (codes "and") effect.And _ (λ e. e) (choose_effect w (codes "forall") effect.Forall _ (λ e. e) (choose_effect w (codes "when") effect.When _ (λ e. e)
    (choose_effect w (codes "not") effect.Not _ (λ e. e) (choose_effect w (codes "increase") effect.Increase _ (λ e. e) (plain (sort_of w) refl)))))
  where
    plain : (s : Sort) → sort_of w ≡ s → EffectWord (plain_effect_by s) w
    plain Variable e = tt
    plain Name e = name_of_sort w e
    plain Other e = tt

-- a name begins an atom
pub no_key : (w k : Word) → is_name w ≡ true → is_name k ≡ false → bytes_eq w k ≡ false
no_key w k e f = bytes_eq-other w k (λ g. let h = ap is_name g in cc)

past : (A : Type 0) (b : Bool) (x y z : A) → b ≡ false → y ≡ z → (if b then x else y) ≡ z
past A true x y z e f = absurd (let g = e in cc)
past A false x y z e f = f

pub name_head : (w : Word) → is_name w ≡ true → head_of w ≡ head.Plain
unfolding head_of
name_head w e =
    past Head _ head.And _ _ (no_key w (codes "and") e refl) (past Head _ head.Or _ _ (no_key w (codes "or") e refl) (past Head _ head.Not _ _ (no_key w (codes "not") e refl)
    (past Head _ head.Imply _ _ (no_key w (codes "imply") e refl) (past Head _ head.Forall _ _ (no_key w (codes "forall") e refl) (past Head _ head.Exists _ _ (no_key w (codes "exists") e refl)
    (past Head _ head.Equal _ _ (no_key w (codes "=") e refl) (ap plain_by (sort_name w e))))))))

pub name_effect_head : (w : Word) → is_name w ≡ true → effect_head_of w ≡ effect.Plain
unfolding effect_head_of
name_effect_head w e =
    past EffectHead _ effect.And _ _ (no_key w (codes "and") e refl) (past EffectHead _ effect.Forall _ _ (no_key w (codes "forall") e refl) (past EffectHead _ effect.When _ _ (no_key w (codes "when") e refl)
    (past EffectHead _ effect.Not _ _ (no_key w (codes "not") e refl) (past EffectHead _ effect.Increase _ _ (no_key w (codes "increase") e refl) (ap plain_effect_by (sort_name w e))))))

pub key_heads : (head_of (codes "and") ≡ head.And) × (head_of (codes "or") ≡ head.Or) × (head_of (codes "not") ≡ head.Not) × (head_of (codes "imply") ≡ head.Imply)
    × (head_of (codes "forall") ≡ head.Forall) × (head_of (codes "exists") ≡ head.Exists) × (head_of (codes "=") ≡ head.Equal)
unfolding head_of
key_heads = (refl, refl, refl, refl, refl, refl, refl)

pub effect_keys : (effect_head_of (codes "and") ≡ effect.And) × (effect_head_of (codes "forall") ≡ effect.Forall) × (effect_head_of (codes "when") ≡ effect.When)
    × (effect_head_of (codes "not") ≡ effect.Not) × (effect_head_of (codes "increase") ≡ effect.Increase)
unfolding effect_head_of
effect_keys = (refl, refl, refl, refl, refl)
