-- The words of a list, read one after another, and what comes next.
use Rattle.std.proofs.Common.{◌≡◌, ◌∙◌, ℕ, ◌<◌, ◌≤◌, true, false, Option, Some, None, List, [], ◌∷◌, ◌++◌, length, refl, sym, ap, append_assoc, arith}
use Rattle.std.proofs.lemmas.List.{append-nil}
use Rattle.text_forms.specs.StepWords.{is_step_name, is_mark}
use Rattle.text_forms.specs.Tokens.{Symbol, left, right, said}
use Rattle.text_forms.specs.Words.{Word}
use Rattle.plan_text.specs.declared.coming.Next.{Next}
use Rattle.plan_text.specs.declared.coming.Next.TheVariants as next
use Rattle.plan_text.specs.Coming.{said_at, is_clean_at, Comes, step_of, if_name, names_in, comes, departs, if_named, if_mark, coming, IsStepTo, TellsStep, TellsNext}

-- with these words in front
abbrev pub behind_words : List Word → Option (List Word × List Symbol) → Option (List Word × List Symbol)
behind_words us None = None
behind_words us (Some x) = Some (us ++ x.0, x.1)

-- The words of a list that is entered at one place were read up to another.
pub record AreReadTo (text : List ℕ) (inside at : ℕ) (us : List Word) : Type 0 where
  pub same : names_in (said_at text inside) ≡ behind_words us (names_in (said_at text at))
  pub clean : is_clean_at text inside ≡ is_clean_at text at
  pub later : inside ≤ at
  pub within : at ≤ length text

behind-none : (o : Option (List Word × List Symbol)) → o ≡ behind_words [] o
behind-none None = refl
behind-none (Some x) = refl

pub none-read : (text : List ℕ) (inside : ℕ) → inside ≤ length text → AreReadTo text inside inside []
none-read text inside le = record { same = behind-none (names_in (said_at text inside)); clean = refl; later = omega arith; within = le }

behind-word : (us : List Word) (w : Word) (o : Option (List Word × List Symbol)) → behind_words us (if_name true w o) ≡ behind_words (us ++ w ∷ []) o
behind-word us w None = refl
behind-word us w (Some x) = ap (λ ws. Some (ws, x.1)) (sym (append_assoc us (w ∷ []) x.0))

module _ (text : List ℕ) (inside at : ℕ) (us : List Word) (r : AreReadTo text inside at us) where
  pub word-read : (w : Word) (behind : ℕ) → Comes text at (said w) behind → is_step_name w ≡ true → AreReadTo text inside behind (us ++ w ∷ [])
  word-read w behind c e =
      let a = r.later in
      let b = c.later in
      record {
        same = r.same ∙ ap (λ ss. behind_words us (names_in ss)) c.said ∙ ap (λ t. behind_words us (if_name t w (names_in (said_at text behind)))) e ∙ behind-word us w (names_in (said_at text behind));
        clean = r.clean ∙ c.clean;
        later = omega arith;
        within = c.within;
      }

  named : (us : List Word) → 0 < length us → (ss : List Symbol) → if_named (Some (us, ss)) ≡ comes (step_of us) ss
  named [] l ss = absurd (omega arith)
  named (u ∷ us) l ss = refl

  pub list-read : (behind : ℕ) → Comes text at right behind → 0 < length us → IsStepTo text inside (if_named (names_in (said_at text inside))) (step_of us) behind
  list-read behind c l =
      let a = r.later in
      let b = c.later in
      record {
        step = ap if_named (r.same ∙ ap (λ ss. behind_words us (names_in ss)) c.said ∙ ap (λ ws. Some (ws, said_at text behind)) (append-nil us)) ∙ named us l (said_at text behind);
        clean = r.clean ∙ c.clean;
        later = omega arith;
        within = c.within;
      }

  pub none-named : (behind : ℕ) → Comes text at right behind → length us ≡ 0 → if_named (names_in (said_at text inside)) ≡ departs
  none-named behind c l = ap if_named (r.same ∙ ap (λ ss. behind_words us (names_in ss)) c.said ∙ ap (λ ws. Some (ws, said_at text behind)) (append-nil us)) ∙ go us l
    where
      go : (us : List Word) → length us ≡ 0 → if_named (Some (us, said_at text behind)) ≡ departs
      go [] l = refl
      go (u ∷ us) l = absurd (omega arith)

  pub end-read : said_at text at ≡ [] → if_named (names_in (said_at text inside)) ≡ departs
  end-read e = ap if_named (r.same ∙ ap (λ ss. behind_words us (names_in ss)) e)

  pub open-read : (behind : ℕ) → Comes text at left behind → if_named (names_in (said_at text inside)) ≡ departs
  open-read behind c = ap if_named (r.same ∙ ap (λ ss. behind_words us (names_in ss)) c.said)

  pub other-read : (w : Word) (behind : ℕ) → Comes text at (said w) behind → is_step_name w ≡ false → if_named (names_in (said_at text inside)) ≡ departs
  other-read w behind c e = ap if_named (r.same ∙ ap (λ ss. behind_words us (names_in ss)) c.said ∙ ap (λ t. behind_words us (if_name t w (names_in (said_at text behind)))) e)

  pub bad-read : is_clean_at text at ≡ false → is_clean_at text inside ≡ true → if_named (names_in (said_at text inside)) ≡ departs
  bad-read e f = absurd (let g = sym f ∙ r.clean ∙ e in cc)

-- a list comes, perhaps behind a mark
module _ (text : List ℕ) (from inside : ℕ) (ws : List Word) (said_is : coming (said_at text from) ≡ if_named (names_in (said_at text inside))) (clean : is_clean_at text from ≡ is_clean_at text inside) (later : from < inside) where
  next-list : (n : Next) → TellsStep text inside ws n → TellsNext text from ws n
  next-list next.End t = absurd t
  next-list (next.Step behind) t =
      let a = t.later in
      record { step = said_is ∙ t.step; clean = clean ∙ t.clean; later = omega arith; within = t.within }
  next-list next.Other t = λ e. said_is ∙ t (sym clean ∙ e)

pub list-next : (text : List ℕ) (from inside : ℕ) (ws : List Word) (n : Next) → Comes text from left inside → TellsStep text inside ws n → TellsNext text from ws n
list-next text from inside ws n c t = next-list text from inside ws (ap coming c.said) c.clean c.later n t

pub marked-next : (text : List ℕ) (from behind inside : ℕ) (m : Word) (ws : List Word) (n : Next) → Comes text from (said m) behind → is_mark m ≡ true → Comes text behind left inside → TellsStep text inside ws n → TellsNext text from ws n
marked-next text from behind inside m ws n c e d t =
    let a = c.later in
    let b = d.later in
    next-list text from inside ws (ap coming (c.said ∙ ap (λ ss. said m ∷ ss) d.said) ∙ ap (λ t. if_mark t (if_named (names_in (said_at text inside)))) e) (c.clean ∙ d.clean) (omega arith) n t

-- what may not come
pub close-departs : (text : List ℕ) (from behind : ℕ) → Comes text from right behind → coming (said_at text from) ≡ departs
close-departs text from behind c = ap coming c.said

unmarked : (m : Word) (ss : List Symbol) → is_mark m ≡ false → coming (said m ∷ ss) ≡ departs
unmarked m [] e = refl
unmarked m (left ∷ ss) e = ap (λ t. if_mark t (if_named (names_in ss))) e
unmarked m (right ∷ ss) e = refl
unmarked m (said w ∷ ss) e = refl

pub word-departs : (text : List ℕ) (from behind : ℕ) (m : Word) → Comes text from (said m) behind → is_mark m ≡ false → coming (said_at text from) ≡ departs
word-departs text from behind m c e = ap coming c.said ∙ unmarked m (said_at text behind) e

module _ (text : List ℕ) (from behind : ℕ) (m : Word) (c : Comes text from (said m) behind) where
  pub mark-ends : said_at text behind ≡ [] → coming (said_at text from) ≡ departs
  mark-ends e = ap coming (c.said ∙ ap (λ ss. said m ∷ ss) e)

  pub mark-closes : (at : ℕ) → Comes text behind right at → coming (said_at text from) ≡ departs
  mark-closes at d = ap coming (c.said ∙ ap (λ ss. said m ∷ ss) d.said)

  pub mark-word : (at : ℕ) (w : Word) → Comes text behind (said w) at → coming (said_at text from) ≡ departs
  mark-word at w d = ap coming (c.said ∙ ap (λ ss. said m ∷ ss) d.said)

  pub mark-bad : is_clean_at text behind ≡ false → is_clean_at text from ≡ true → coming (said_at text from) ≡ departs
  mark-bad e f = absurd (let g = sym f ∙ c.clean ∙ e in cc)
