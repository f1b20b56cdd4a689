-- Sections in any order: those that are seen, those that may come, and what is found of them.
use Rattle.std.proofs.Common.{◌≡◌, Bool, true, false, cond, ◌||◌, Option, Some, None, List, [], ◌∷◌, refl, sym, ap, subst, ◌∙◌}
use Rattle.std.proofs.lemmas.Bool.{and_parts}
use Rattle.std.specs.Str.{bytes_eq}
use Rattle.text_forms.specs.Lists.{Parts, name, group, nothing, part}
use Rattle.text_forms.specs.Words.{Word, is_among}
use Rattle.plan_texts.specs.Sections.{without, are_sections, content, section, only}
use Rattle.plan_texts.specs.Types.{EachIs}
use Rattle.plan_texts.proofs.Basics.{bytes_eq-true, bytes_eq-refl}
use Rattle.text_values.specs.form_spellings.SpellsSomeSections.{EveryPart}
use Rattle.text_values.proofs.form_spellings.Unions.{flip}
use Rattle.text_values.proofs.form_spellings.WordTests.{false_true}

abbrev pub Differ : List Word → Type 0
Differ [] = Unit {0}
Differ (k ∷ ks) = EachIs (λ h. bytes_eq k h ≡ false) ks × Differ ks

-- the words without one
pub without_each : (P : Word → Type 0) (w : Word) (ks : List Word) → EachIs P ks → EachIs P (without w ks)
without_each P w [] e = tt
without_each P w (k ∷ ks) e = by (bytes_eq k w) (without_each P w ks e.1)
  where
    by : (b : Bool) → EachIs P (without w ks) → EachIs P (cond b ks (k ∷ without w ks))
    by true more = e.1
    by false more = (e.0, more)

pub without_differ : (w : Word) (ks : List Word) → Differ ks → Differ (without w ks)
without_differ w [] d = tt
without_differ w (k ∷ ks) d = by (bytes_eq k w) (without_differ w ks d.1)
  where
    by : (b : Bool) → Differ (without w ks) → Differ (cond b ks (k ∷ without w ks))
    by true more = d.1
    by false more = (without_each (λ h. bytes_eq k h ≡ false) w ks d.0, more)

apart_out : (w : Word) (ks : List Word) → EachIs (λ h. bytes_eq w h ≡ false) ks → is_among w ks ≡ false
apart_out w [] e = refl
apart_out w (k ∷ ks) e = ap (λ b. b || is_among w ks) e.0 ∙ apart_out w ks e.1

pub without_gone : (w : Word) (ks : List Word) → Differ ks → is_among w (without w ks) ≡ false
without_gone w [] d = refl
without_gone w (k ∷ ks) d = by (bytes_eq k w) refl (without_gone w ks d.1)
  where
    by : (b : Bool) → bytes_eq k w ≡ b → is_among w (without w ks) ≡ false → is_among w (cond b ks (k ∷ without w ks)) ≡ false
    by true e more = subst (λ u. is_among u ks ≡ false) (bytes_eq-true k w e) (apart_out k ks d.0)
    by false e more = ap (λ b. b || is_among w (without w ks)) (flip w k ∙ e) ∙ more

pub without_other : (w u : Word) (ks : List Word) → bytes_eq u w ≡ false → is_among u (without w ks) ≡ is_among u ks
without_other w u [] e = refl
without_other w u (k ∷ ks) e = by (bytes_eq k w) refl (without_other w u ks e)
  where
    by : (b : Bool) → bytes_eq k w ≡ b → is_among u (without w ks) ≡ is_among u ks → is_among u (cond b ks (k ∷ without w ks)) ≡ bytes_eq u k || is_among u ks
    by true f more = ap (λ b. b || is_among u ks) (sym (ap (bytes_eq u) (bytes_eq-true k w f) ∙ e))
    by false f more = ap (λ b. bytes_eq u k || b) more

pub without_same : (w : Word) (ks : List Word) → is_among w ks ≡ false → without w ks ≡ ks
without_same w [] e = refl
without_same w (k ∷ ks) e = by (bytes_eq w k) refl e (without_same w ks)
  where
    by : (b : Bool) → bytes_eq w k ≡ b → b || is_among w ks ≡ false → (is_among w ks ≡ false → without w ks ≡ ks) → without w (k ∷ ks) ≡ k ∷ ks
    by true f e more = false_true (sym e)
    by false f e more = ap (λ b. cond b ks (k ∷ without w ks)) (flip k w ∙ f) ∙ ap (λ ks. k ∷ ks) (more e)

pub among_each : (P : Word → Type 0) (w : Word) (ks : List Word) → EachIs P ks → is_among w ks ≡ true → P w
among_each P w [] e i = false_true i
among_each P w (k ∷ ks) e i = by (bytes_eq w k) refl i (among_each P w ks e.1)
  where
    by : (b : Bool) → bytes_eq w k ≡ b → b || is_among w ks ≡ true → (is_among w ks ≡ true → P w) → P w
    by true f i more = subst P (sym (bytes_eq-true w k f)) e.0
    by false f i more = more i

-- What is said of each section, by its keyword.
module _ (P : Word → Parts → Type 0) where
  abbrev pub AllSections : Parts → Type 0
  AllSections nothing = Unit {0}
  AllSections (part (name w) ps) = ⊥
  AllSections (part (group nothing) ps) = ⊥
  AllSections (part (group (part (group rs) qs)) ps) = ⊥
  AllSections (part (group (part (name k) qs)) ps) = P k qs × AllSections ps

  abbrev pub IfThere : Word → Option Parts → Type 0
  IfThere k None = Unit {0}
  IfThere k (Some qs) = P k qs

  -- in the first section of a keyword, and in all of them
  pub first_has : (k : Word) (ps : Parts) → AllSections ps → IfThere k (section k ps)
  first_has k nothing a = tt
  first_has k (part (name w) ps) a = absurd a
  first_has k (part (group nothing) ps) a = absurd a
  first_has k (part (group (part (group rs) qs)) ps) a = absurd a
  first_has k (part (group (part (name u) qs)) ps) a = by (bytes_eq k u) refl (first_has k ps a.1)
    where
      by : (b : Bool) → bytes_eq k u ≡ b → IfThere k (section k ps) → IfThere k (cond b (Some qs) (section k ps))
      by true e more = subst (λ k. P k qs) (sym (bytes_eq-true k u e)) a.0
      by false e more = more

  pub all_have : (k : Word) (ps : Parts) → AllSections ps → EveryPart (λ p. P k (content p)) (only k ps)
  all_have k nothing a = tt
  all_have k (part (name w) ps) a = absurd a
  all_have k (part (group nothing) ps) a = absurd a
  all_have k (part (group (part (group rs) qs)) ps) a = absurd a
  all_have k (part (group (part (name u) qs)) ps) a = by (bytes_eq k u) refl (all_have k ps a.1)
    where
      by : (b : Bool) → bytes_eq k u ≡ b → EveryPart (λ p. P k (content p)) (only k ps) → EveryPart (λ p. P k (content p)) (cond b (part (group (part (name u) qs)) (only k ps)) (only k ps))
      by true e more = (subst (λ k. P k qs) (sym (bytes_eq-true k u e)) a.0, more)
      by false e more = more

  abbrev pub Firsts : List Word → Parts → Type 0
  Firsts ks ps = EachIs (λ k. IfThere k (section k ps)) ks

  abbrev pub Alls : List Word → Parts → Type 0
  Alls ks ps = EachIs (λ k. EveryPart (λ p. P k (content p)) (only k ps)) ks

  pub firsts : (ks : List Word) (ps : Parts) → AllSections ps → Firsts ks ps
  firsts [] ps a = tt
  firsts (k ∷ ks) ps a = (first_has k ps a, firsts ks ps a)

  pub alls : (ks : List Word) (ps : Parts) → AllSections ps → Alls ks ps
  alls [] ps a = tt
  alls (k ∷ ks) ps a = (all_have k ps a, alls ks ps a)

  -- behind a section of another keyword
  later_first : (k u : Word) (qs ps : Parts) → bytes_eq k u ≡ false → IfThere k (section k (part (group (part (name u) qs)) ps)) → IfThere k (section k ps)
  later_first k u qs ps e h = subst (IfThere k) (ap (λ b. cond b (Some qs) (section k ps)) e) h

  later_firsts : (ks : List Word) (u : Word) (qs ps : Parts) → Differ ks → Firsts ks (part (group (part (name u) qs)) ps) → Firsts (without u ks) ps
  later_firsts [] u qs ps d f = tt
  later_firsts (k ∷ ks) u qs ps d f = by (bytes_eq k u) refl (later_firsts ks u qs ps d.1 f.1)
    where
      others : (ks : List Word) → EachIs (λ h. bytes_eq u h ≡ false) ks → Firsts ks (part (group (part (name u) qs)) ps) → Firsts ks ps
      others [] e f = tt
      others (h ∷ ks) e f = (later_first h u qs ps (flip h u ∙ e.0) f.0, others ks e.1 f.1)

      by : (b : Bool) → bytes_eq k u ≡ b → Firsts (without u ks) ps → Firsts (cond b ks (k ∷ without u ks)) ps
      by true e more = others ks (subst (λ u. EachIs (λ h. bytes_eq u h ≡ false) ks) (bytes_eq-true k u e) d.0) f.1
      by false e more = (later_first k u qs ps e f.0, more)

  later_alls : (ks : List Word) (u : Word) (qs ps : Parts) → Alls ks (part (group (part (name u) qs)) ps) → Alls ks ps
  later_alls [] u qs ps a = tt
  later_alls (k ∷ ks) u qs ps a = (by (bytes_eq k u) a.0, later_alls ks u qs ps a.1)
    where
      by : (b : Bool) → EveryPart (λ p. P k (content p)) (cond b (part (group (part (name u) qs)) (only k ps)) (only k ps)) → EveryPart (λ p. P k (content p)) (only k ps)
      by true a = a.1
      by false a = a

  here_first : (u : Word) (qs ps : Parts) → IfThere u (section u (part (group (part (name u) qs)) ps)) → P u qs
  here_first u qs ps h = subst (IfThere u) (ap (λ b. cond b (Some qs) (section u ps)) (bytes_eq-refl u)) h

  here_all : (u : Word) (qs ps : Parts) → EveryPart (λ p. P u (content p)) (only u (part (group (part (name u) qs)) ps)) → P u qs
  here_all u qs ps h = (subst (λ b. EveryPart (λ p. P u (content p)) (cond b (part (group (part (name u) qs)) (only u ps)) (only u ps))) (bytes_eq-refl u) h).0

  -- sections that may stand, and what is said of each keyword, say it of each section
  pub all_from : (ps : Parts) (once many : List Word) → Differ once → are_sections once many ps ≡ true → Firsts once ps → Alls many ps → AllSections ps
  all_from nothing once many d e f a = tt
  all_from (part (name w) ps) once many d e f a = false_true e
  all_from (part (group nothing) ps) once many d e f a = false_true e
  all_from (part (group (part (group rs) qs)) ps) once many d e f a = false_true e
  all_from (part (group (part (name u) qs)) ps) once many d e f a =
      let b = and_parts (is_among u once || is_among u many) (are_sections (without u once) many ps) e in
      (here (is_among u once) refl b.0, all_from ps (without u once) many (without_differ u once d) b.1 (later_firsts once u qs ps d f) (later_alls many u qs ps a))
    where
      here : (b : Bool) → is_among u once ≡ b → b || is_among u many ≡ true → P u qs
      here true i j = here_first u qs ps (among_each (λ k. IfThere k (section k (part (group (part (name u) qs)) ps))) u once f i)
      here false i j = here_all u qs ps (among_each (λ k. EveryPart (λ p. P k (content p)) (only k (part (group (part (name u) qs)) ps))) u many a j)
