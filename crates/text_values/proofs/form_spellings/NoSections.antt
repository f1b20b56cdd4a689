-- A keyword that may not come is that of no section, and of what stands in none nothing is read.
use Rattle.std.proofs.Common.{◌≡◌, ◌∙◌, Bool, true, false, cond, ◌||◌, codes, Some, None, List, [], ◌∷◌, refl, sym, ap, subst}
use Rattle.std.proofs.lemmas.Bool.{and_parts}
use Rattle.std.specs.Str.{bytes_eq}
use Rattle.text_forms.specs.Lists.{Part, Parts, name, group, nothing, part}
use Rattle.text_forms.specs.Words.{Word, is_among}
use Rattle.plan_texts.specs.Declared.{Declared}
use Rattle.plan_texts.specs.Sections.{without, are_sections, section, only, domain_once, domain_many, problem_once}
use Rattle.plan_texts.proofs.Basics.{bytes_eq-true}
use Rattle.gd_reader.specs.Terms.{Names}
use Rattle.text_values.proofs.form_spellings.ItemsExact.{ListExact}
use Rattle.text_values.proofs.form_spellings.SectionTables.{without_other}
use Rattle.text_values.proofs.form_spellings.WordTests.{false_true}

module _ (k : Word) (many : List Word) (free : is_among k many ≡ false) where
  -- the keyword of a section that may come is another
  other : (w : Word) (once : List Word) → is_among k once ≡ false → is_among w once || is_among w many ≡ true → bytes_eq k w ≡ false
  other w once out may = by (bytes_eq k w) refl
    where
      by : (b : Bool) → bytes_eq k w ≡ b → b ≡ false
      by true e = false_true (sym (ap (λ b. b || is_among k many) out ∙ free) ∙ subst (λ w. is_among w once || is_among w many ≡ true) (sym (bytes_eq-true k w e)) may)
      by false e = refl

  pub absent : (ps : Parts) (once : List Word) → is_among k once ≡ false → are_sections once many ps ≡ true → (only k ps ≡ nothing) × (section k ps ≡ None)
  absent nothing once out e = (refl, refl)
  absent (part (name w) ps) once out e = false_true e
  absent (part (group nothing) ps) once out e = false_true e
  absent (part (group (part (group rs) qs)) ps) once out e = false_true e
  absent (part (group (part (name w) qs)) ps) once out e =
      let b = and_parts (is_among w once || is_among w many) (are_sections (without w once) many ps) e in
      let o = other w once out b.0 in
      let more = absent ps (without w once) (without_other w k once o ∙ out) b.1 in
      (ap (λ b. cond b (part (group (part (name w) qs)) (only k ps)) (only k ps)) o ∙ more.0, ap (λ b. cond b (Some qs) (section k ps)) o ∙ more.1)

-- in PDDL
pub no_tasks : (ps : Parts) → are_sections domain_once domain_many ps ≡ true → only (codes ":task") ps ≡ nothing
no_tasks ps e = (absent (codes ":task") domain_many refl ps domain_once refl e).0

pub no_methods : (ps : Parts) → are_sections domain_once domain_many ps ≡ true → only (codes ":method") ps ≡ nothing
no_methods ps e = (absent (codes ":method") domain_many refl ps domain_once refl e).0

pub no_htn : (ps : Parts) → are_sections problem_once [] ps ≡ true → section (codes ":htn") ps ≡ None
no_htn ps e = (absent (codes ":htn") [] refl ps problem_once refl e).1

-- where there is nothing, nothing was read
pub none_listed : {E R X : Type 0} (Is : E → X → Part → Type 0) (IsBound : Names → E → R → X → Type 0) (e : E) (rs : List R) (table : Names) → ListExact Is IsBound nothing rs table → rs ≡ []
none_listed Is IsBound e [] table h = refl
none_listed Is IsBound e (r ∷ rs) table h = absurd ((h e []).1 tt)

pub no_words : Declared
no_words = record { names = []; types = []; unions = []; objects = []; predicates = [] }
