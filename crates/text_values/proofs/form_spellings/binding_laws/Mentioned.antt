-- The words of a section of types by numbers and in words.
use Rattle.std.proofs.Common.{ℕ, ◌≡◌, ◌<◌, Bool, true, false, cond, inl, inr, List, [], ◌∷◌, ◌++◌, map, length, refl, sym, ap, subst, ◌∙◌, nat_eq, ◌||◌}
use Rattle.std.specs.Prelude.{◌⊎◌}
use Rattle.std.proofs.lemmas.Bool.{eqb-true, eqb-false}
use Rattle.std.proofs.lemmas.List.{map-append}
use Rattle.htn_base.specs.Different.{AreDifferent}
use Rattle.text_forms.specs.Words.{word_at, is_among}
use Rattle.gd_reader.specs.Terms.{Names}
use Rattle.gd_reader.specs.declared.term.RawTerm.{RawTerm}
use Rattle.gd_reader.specs.declared.typed_lists.RawParam.{RawParam}
use Rattle.plan_texts.specs.TypedLists.{first_seen}
use Rattle.plan_texts.specs.Types.{EachIs}
use Rattle.text_values.specs.form_spellings.InTable.{IsIn, AreParamsIn}
use Rattle.htn_base.specs.Lists.{One, Has}
use Rattle.hddl_reader.specs.names.Types as words
use Rattle.hddl_reader.specs.names.Words.{WordAt, term_at}
use Rattle.name_binding.specs.Mentions.{own_word, mentioned}
use Rattle.name_binding.specs.Seen as numbers
use Rattle.text_values.specs.form_spellings.binding_laws.Numbers.{words_of, AreKnown}
use Rattle.text_values.proofs.form_spellings.binding_laws.Numbered.{contains_has}
use Rattle.text_values.proofs.form_spellings.binding_laws.Ones.{one_has, has_one, one_mapped, mapped_one, each_both, differ_mapped}
use Rattle.text_values.proofs.form_spellings.binding_laws.Places.{same_number, same_word}

-- a mention by numbers is one in words
pub same_mentions : (names : Names) (xs : List RawParam) → map (term_at names) (mentioned xs) ≡ words.mentioned names xs
same_mentions names [] = refl
same_mentions names (x ∷ xs) = ap (λ ws. term_at names (own_word x) ∷ ws) (map-append (term_at names) x.ty (mentioned xs) ∙ ap (λ ws. map (term_at names) x.ty ++ ws) (same_mentions names xs))

pub mentions_in : (names : Names) (xs : List RawParam) → AreParamsIn names xs → EachIs (λ (t : RawTerm). IsIn names t.name) (mentioned xs)
mentions_in names [] is = tt
mentions_in names (x ∷ xs) is = (is.0.0, each_both (λ (t : RawTerm). IsIn names t.name) x.ty (mentioned xs) is.0.1 (mentions_in names xs is.1))

-- what is said of a mention, by numbers and in words
pub mention_said : (names : Names) (xs : List RawParam) (P : WordAt → Type 0) (t : RawTerm) → Has (mentioned xs) t → P (term_at names t) → One P (words.mentioned names xs)
mention_said names xs P t h p = subst (One P) (same_mentions names xs) (one_mapped (term_at names) P (mentioned xs) (has_one (λ t. P (term_at names t)) (mentioned xs) t h p))

pub said_mention : (names : Names) (xs : List RawParam) (P : WordAt → Type 0) → One P (words.mentioned names xs) → (t : RawTerm) × Has (mentioned xs) t × P (term_at names t)
said_mention names xs P o = one_has (λ t. P (term_at names t)) (mentioned xs) (mapped_one (term_at names) P (mentioned xs) (subst (One P) (sym (same_mentions names xs)) o))

-- the numbers of one table
pub known_each : (names : Names) (ns : List ℕ) → ((n : ℕ) → Has ns n → n < length names) → AreKnown names ns
known_each names [] f = tt
known_each names (n ∷ ns) f = (f n (inl refl), known_each names ns (λ m h. f m (inr h)))

pub known_has : (names : Names) (ns : List ℕ) (n : ℕ) → AreKnown names ns → Has ns n → n < length names
known_has names [] n k h = absurd h
known_has names (m ∷ ns) n k (inl e) = subst (λ n. n < length names) e k.0
known_has names (m ∷ ns) n k (inr h) = known_has names ns n k.1 h

pub words_differ : (names : Names) (ns : List ℕ) → AreDifferent names → AreKnown names ns → AreDifferent ns → AreDifferent (words_of names ns)
words_differ names ns d k e = differ_mapped (word_at names) ns (λ m n h i w. same_number names m n d (known_has names ns m k h) (known_has names ns n k i) w) e

-- numbers in the order in which they are first seen
among : (n : ℕ) (seen : List ℕ) → numbers.is_among n seen ≡ true → Has seen n
among n [] e = absurd (cc)
among n (m ∷ seen) e = go (nat_eq n m) refl e (among n seen)
  where
    go : (b : Bool) → nat_eq n m ≡ b → (b || numbers.is_among n seen) ≡ true → (numbers.is_among n seen ≡ true → Has seen n) → Has (m ∷ seen) n
    go true f e more = inl (sym (eqb-true n m f))
    go false f e more = inr (more e)

pub seen_there : (seen ns : List ℕ) (n : ℕ) → Has (numbers.first_seen seen ns) n → Has ns n
seen_there seen [] n h = absurd h
seen_there seen (m ∷ ns) n h = go (numbers.is_among m seen) h (seen_there seen ns n) (seen_there (m ∷ seen) ns n)
  where
    go : (b : Bool) → Has (cond b (numbers.first_seen seen ns) (m ∷ numbers.first_seen (m ∷ seen) ns)) n → (Has (numbers.first_seen seen ns) n → Has ns n) → (Has (numbers.first_seen (m ∷ seen) ns) n → Has ns n) → Has (m ∷ ns) n
    go true h old new = inr (old h)
    go false (inl e) old new = inl e
    go false (inr h) old new = inr (new h)

-- each is new
pub seen_apart : (seen ns : List ℕ) (n : ℕ) → Has (numbers.first_seen seen ns) n → Has seen n → ⊥
seen_apart seen [] n h s = h
seen_apart seen (m ∷ ns) n h s = go (numbers.is_among m seen) refl h (seen_apart seen ns n) (seen_apart (m ∷ seen) ns n)
  where
    not_there : Has seen m → numbers.is_among m seen ≡ false → ⊥
    not_there g f = there seen g f
      where
        there : (seen : List ℕ) → Has seen m → numbers.is_among m seen ≡ false → ⊥
        there [] g f = g
        there (k ∷ seen) g f = by (nat_eq m k) refl f g (there seen)
          where
            by : (b : Bool) → nat_eq m k ≡ b → (b || numbers.is_among m seen) ≡ false → Has (k ∷ seen) m → (Has seen m → numbers.is_among m seen ≡ false → ⊥) → ⊥
            by true e f g more = absurd (cc)
            by false e f (inl g) more = eqb-false m k e (sym g)
            by false e f (inr g) more = more g f

    go : (b : Bool) → numbers.is_among m seen ≡ b → Has (cond b (numbers.first_seen seen ns) (m ∷ numbers.first_seen (m ∷ seen) ns)) n → (Has (numbers.first_seen seen ns) n → Has seen n → ⊥) → (Has (numbers.first_seen (m ∷ seen) ns) n → Has (m ∷ seen) n → ⊥) → ⊥
    go true e h old new = old h s
    go false e (inl h) old new = not_there (subst (Has seen) (sym h) s) e
    go false e (inr h) old new = new h (inr s)

pub seen_differ : (seen ns : List ℕ) → AreDifferent (numbers.first_seen seen ns)
seen_differ seen [] = tt
seen_differ seen (m ∷ ns) = go (numbers.is_among m seen) (seen_differ seen ns) (seen_differ (m ∷ seen) ns)
  where
    go : (b : Bool) → AreDifferent (numbers.first_seen seen ns) → AreDifferent (numbers.first_seen (m ∷ seen) ns) → AreDifferent (cond b (numbers.first_seen seen ns) (m ∷ numbers.first_seen (m ∷ seen) ns))
    go true old new = old
    go false old new = ((λ c. seen_apart (m ∷ seen) ns m (contains_has (numbers.first_seen (m ∷ seen) ns) m c) (inl refl)), new)

-- none is lost
pub seen_back : (seen ns : List ℕ) (n : ℕ) → Has ns n → Has seen n ⊎ Has (numbers.first_seen seen ns) n
seen_back seen [] n h = absurd h
seen_back seen (m ∷ ns) n h = go (numbers.is_among m seen) refl h (seen_back seen ns n) (seen_back (m ∷ seen) ns n)
  where
    go : (b : Bool) → numbers.is_among m seen ≡ b → Has (m ∷ ns) n → (Has ns n → Has seen n ⊎ Has (numbers.first_seen seen ns) n) → (Has ns n → Has (m ∷ seen) n ⊎ Has (numbers.first_seen (m ∷ seen) ns) n)
        → Has seen n ⊎ Has (cond b (numbers.first_seen seen ns) (m ∷ numbers.first_seen (m ∷ seen) ns)) n
    go true e (inl h) old new = inl (subst (Has seen) h (among m seen e))
    go true e (inr h) old new = old h
    go false e (inl h) old new = inr (inl h)
    go false e (inr h) old new = elim (new h) [ inl (inl i) ↦ inr (inl i) | inl (inr i) ↦ inl i | inr i ↦ inr (inr i) ]

-- the same in words
pub same_among : (names : Names) (n : ℕ) (seen : List ℕ) → AreDifferent names → n < length names → AreKnown names seen → is_among (word_at names n) (words_of names seen) ≡ numbers.is_among n seen
same_among names n [] d l k = refl
same_among names n (m ∷ seen) d l k =
    ap (λ b. b || is_among (word_at names n) (words_of names seen)) (same_word names n m d l k.0)
    ∙ ap (λ b. nat_eq n m || b) (same_among names n seen d l k.1)

pub same_seen : (names : Names) (seen ns : List ℕ) → AreDifferent names → AreKnown names seen → AreKnown names ns → words_of names (numbers.first_seen seen ns) ≡ first_seen (words_of names seen) (words_of names ns)
same_seen names seen [] d s k = refl
same_seen names seen (n ∷ ns) d s k =
    go (numbers.is_among n seen) (same_seen names seen ns d s k.1) (same_seen names (n ∷ seen) ns d (k.0, s) k.1)
    ∙ ap (λ b. cond b (first_seen (words_of names seen) (words_of names ns)) (word_at names n ∷ first_seen (word_at names n ∷ words_of names seen) (words_of names ns))) (sym (same_among names n seen d k.0 s))
  where
    go : (b : Bool) → words_of names (numbers.first_seen seen ns) ≡ first_seen (words_of names seen) (words_of names ns)
        → words_of names (numbers.first_seen (n ∷ seen) ns) ≡ first_seen (word_at names n ∷ words_of names seen) (words_of names ns)
        → words_of names (cond b (numbers.first_seen seen ns) (n ∷ numbers.first_seen (n ∷ seen) ns))
        ≡ cond b (first_seen (words_of names seen) (words_of names ns)) (word_at names n ∷ first_seen (word_at names n ∷ words_of names seen) (words_of names ns))
    go true old new = old
    go false old new = ap (λ ws. word_at names n ∷ ws) new
