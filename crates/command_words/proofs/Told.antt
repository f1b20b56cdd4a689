-- It is told which request words ask for, or that they ask for none.
use Rattle.std.proofs.Common.{ℕ, ◌≡◌, ◌≤◌, ◌⊎◌, inl, inr, true, false, true≢false, List, [], ◌∷◌, ◌++◌, length, ◌+◌, take, drop, get_or, Option, Some, None, IfSome, codes, unwrap_or, refl, sym, ap, subst, ◌∙◌, arith}
use Rattle.std.specs.Char.{is_ascii_digit}
use Rattle.std.specs.List.{Contains, list_all, list_any}
use Rattle.std.specs.Str.{bytes_eq}
use Rattle.std.specs.Str.Parse.{digits_value}
use Rattle.std.proofs.lemmas.Bool.{cases_Bool, cases_lt}
use Rattle.std.proofs.lemmas.List.{take-append-drop, length-append, length-take-le}
use Rattle.std.proofs.Math.Seq.{drop-append_seam}
use Rattle.std.proofs.lemmas.Slice.Eq.{bytes_eq-Decides}
use Rattle.command_words.specs.declared.form.PrintedForm.{PrintedForm}
use Rattle.command_words.specs.declared.form.PrintedForm.TheVariants.{Slots, Stack}
use Rattle.command_words.specs.Names.{Word, Names, AreApart}
use Rattle.command_words.specs.Bounds.{IsNumeral, IsCount}
use Rattle.command_words.specs.Forms.{Row, said, AreOptions, AreOf, translation_form, bound_form, decode_form, encode_form, validation_form, make_form, prune_form}
use Rattle.command_words.specs.Options.{AreSlots, slots_said, style_said, checks_said, level_said, IsComputed, rule_said, form_said, IsOfForm}
use Rattle.command_words.specs.Words.{TranslationRequest, BoundRequest, DecodeRequest, EncodeRequest, ValidationRequest, MakeRequest, PruneRequest, to_translate, to_bound, to_decode, to_encode, to_validate, to_make, to_prune, AskBy, SayTranslation, SayBound, SayDecode, SayEncode, SayValidation, SayMake, SayPrune, AsksTranslation, AsksBound, AsksDecode, AsksEncode, AsksValidation, AsksMake, AsksPrune, AreOfAForm}
use Rattle.command_words.proofs.Said.{among_told}
use Rattle.command_words.proofs.Requests.{not_said, no_form}

abbrev Or_not : Type 0 → Type 0
Or_not P = P ⊎ (P → ⊥)

other_than : {P : Type 0} → Or_not P → Or_not (P → ⊥)
other_than (inl p) = inr (λ n. n p)
other_than (inr n) = inl n

both : {P Q : Type 0} → Or_not P → Or_not Q → Or_not (P × Q)
both (inl p) (inl q) = inl (p, q)
both (inr n) d = inr (λ h. n h.0)
both (inl p) (inr n) = inr (λ h. n h.1)

-- a value of an option, or none
value_told : {V : Type 0} (o : Option V) → ((v : V) × (o ≡ Some v)) ⊎ ((v : V) → o ≡ Some v → ⊥)
value_told None = inr (λ v e. cc)
value_told (Some v) = inl (v, refl)

none_told : {A : Type 0} (o : Option A) → Or_not (o ≡ None)
none_told None = inl refl
none_told (Some x) = inr (λ e. cc)

at_most_told : (a b : ℕ) → Or_not (a ≤ b)
at_most_told a b = elim (cases_lt b a) [ inl l ↦ inr (λ k. omega (arith, l, k)) | inr k ↦ inl k ]

same_told : (v w : Word) → Or_not (v ≡ w)
same_told v w = elim (cases_Bool (bytes_eq v w)) [
  | inl t ↦ inl ((bytes_eq-Decides v w).0 t)
  | inr f ↦ inr (λ e. true≢false (sym ((bytes_eq-Decides v w).1 e) ∙ f))
]

has_or_not : (options : List Word) (name : Word) → Or_not (Contains options name)
has_or_not options name = elim (cases_Bool (list_any (bytes_eq name) options)) [
  | inl t ↦ inl ((among_told options name).0 t)
  | inr f ↦ inr (λ h. true≢false (sym ((among_told options name).1 h) ∙ f))
]

options_told : (options words : List Word) → Or_not (AreOptions options words)
options_told options [] = inl tt
options_told options (_ ∷ []) = inr (λ a. a)
options_told options (name ∷ value ∷ words) = elim (both (has_or_not options name) (both (none_told (said name words)) (options_told options words))) [
  | inl h ↦ inl (h.0, h.1.0, h.1.1)
  | inr n ↦ inr (λ a. n (a.0, (a.1, a.2)))
]

-- the parts of words by a form
module _ (form : Row) where
  abbrev PartsTold : List Word → Type 0
  PartsTold words = ((names options : List Word) × AreOf form words names options) ⊎ ((names options : List Word) → AreOf form words names options → ⊥)

  behind : (more : List Word) → form.names ≤ length more → AreOptions form.options (drop form.names more) → (names options : List Word) × AreOf form (form.command ∷ more) names options
  behind more room allowed = (
    take form.names more,
    drop form.names more,
    record { spelled = ap (λ z. form.command ∷ z) (sym (take-append-drop form.names more)); counted = length-take-le form.names more room; allowed = allowed },
  )

  cut : (w : Word) (more names options : List Word) → AreOf form (w ∷ more) names options → (w ≡ form.command) × (form.names ≤ length more) × AreOptions form.options (drop form.names more)
  cut w more names options of =
      let e : more ≡ names ++ options = ap (drop 1) of.spelled in
      let l : length more ≡ length names + length options = ap length e ∙ length-append names options in
      let d : drop form.names more ≡ options = ap (λ k. drop k more) (sym of.counted) ∙ ap (drop (length names)) e ∙ drop-append_seam names options in
      (ap (λ z. get_or z 0 []) of.spelled, omega (arith, l, of.counted), subst (AreOptions form.options) (sym d) of.allowed)

  parts_told : (words : List Word) → PartsTold words
  parts_told [] = inr (λ names options of. let e = of.spelled in cc)
  parts_told (w ∷ more) = elim (both (same_told w form.command) (both (at_most_told form.names (length more)) (options_told form.options (drop form.names more)))) [
    | inl (is, (room, allowed)) ↦ inl (subst (λ z. (names options : List Word) × AreOf form (z ∷ more) names options) (sym is) (behind more room allowed))
    | inr n ↦ inr (λ names options of. let c = cut w more names options of in n (c.0, (c.1, c.2)))
  ]

  told_by : {R : Type 0} (Say : List Word → List Word → R → Type 0) → ((n o : List Word) → ((r : R) × Say n o r) ⊎ ((r : R) → Say n o r → ⊥))
      → (words : List Word) → ((r : R) × AskBy form Say words r) ⊎ ((r : R) → AskBy form Say words r → ⊥)
  told_by Say says words = elim (parts_told words) [
    | inl (names, options, of) ↦ elim (says names options) [ inl (r, s) ↦ inl (r, (names, options, of, s)) | inr n ↦ inr (not_said form Say words names options of n) ]
    | inr n ↦ inr (λ r asks. n asks.0 asks.1 asks.2)
  ]

numeral_told : (w : Word) → Or_not (IsNumeral w)
numeral_told w = go (cases_Bool (list_all is_ascii_digit w)) (at_most_told 1 (length w)) (at_most_told (length w) 39) (at_most_told 1 (digits_value 10 w))
  where
    go : (list_all is_ascii_digit w ≡ true) ⊎ (list_all is_ascii_digit w ≡ false) → Or_not (1 ≤ length w) → Or_not (length w ≤ 39) → Or_not (1 ≤ digits_value 10 w) → Or_not (IsNumeral w)
    go (inl a) (inl b) (inl c) (inl d) = inl (record { digits = a; some = b; few = c; above_zero = d })
    go (inr a) b c d = inr (λ n. true≢false (sym n.digits ∙ a))
    go (inl a) (inr n) c d = inr (λ z. n z.some)
    go (inl a) (inl b) (inr n) d = inr (λ z. n z.few)
    go (inl a) (inl b) (inl c) (inr n) = inr (λ z. n z.above_zero)

count_told : (w : Word) → Or_not (IsCount w)
count_told w = go (cases_Bool (list_all is_ascii_digit w)) (at_most_told 1 (length w)) (at_most_told (length w) 9) (at_most_told 1 (digits_value 10 w))
  where
    go : (list_all is_ascii_digit w ≡ true) ⊎ (list_all is_ascii_digit w ≡ false) → Or_not (1 ≤ length w) → Or_not (length w ≤ 9) → Or_not (1 ≤ digits_value 10 w) → Or_not (IsCount w)
    go (inl a) (inl b) (inl c) (inl d) = inl (record { digits = a; some = b; few = c; above_zero = d })
    go (inr a) b c d = inr (λ n. true≢false (sym n.digits ∙ a))
    go (inl a) (inr n) c d = inr (λ z. n z.some)
    go (inl a) (inl b) (inr n) d = inr (λ z. n z.few)
    go (inl a) (inl b) (inl c) (inr n) = inr (λ z. n z.above_zero)

slots_told : (o : Option Word) → Or_not (AreSlots o)
slots_told None = inl tt
slots_told (Some w) = numeral_told w

apart_told : (n : Names) → Or_not (AreApart n)
apart_told n = elim (both (other_than (same_told n.printed_domain n.printed_problem))
    (both (both (other_than (same_told n.printed_domain n.domain)) (other_than (same_told n.printed_domain n.problem)))
    (both (other_than (same_told n.printed_problem n.domain)) (other_than (same_told n.printed_problem n.problem))))) [
      | inl h ↦ inl (record { outputs = h.0; domain = h.1.0; problem = h.1.1 })
      | inr m ↦ inr (λ a. m (a.outputs, (a.domain, a.problem)))
    ]

-- what names and options say
abbrev SaysTold : {R : Type 0} → (List Word → List Word → R → Type 0) → List Word → List Word → Type 0
SaysTold {R} Say names options = ((r : R) × Say names options r) ⊎ ((r : R) → Say names options r → ⊥)

module _ (options : List Word) where
  computed_told : Or_not (IsComputed options)
  computed_told = go (slots_said options) (none_told (said (codes "--level") options))
    where
      go : (o : Option Word) → Or_not (said (codes "--level") options ≡ None) → Or_not (IfSome o (λ numeral. said (codes "--level") options ≡ None))
      go None d = inl tt
      go (Some numeral) d = d

  -- a form that is said, with what goes with it
  printed_form_told : ((v : PrintedForm) × (form_said options ≡ Some v) × IsOfForm v options) ⊎ ((v : PrintedForm) → form_said options ≡ Some v → IsOfForm v options → ⊥)
  printed_form_told = elim (value_told (form_said options)) [
    | inl f ↦ elim (of_form f.0) [ inl o ↦ inl (f.0, f.1, o) | inr n ↦ inr (λ v e o. n (subst (λ z. IsOfForm z options) (one_value v f.0 (sym e ∙ f.1)) o)) ]
    | inr n ↦ inr (λ v e o. n v e)
  ]
    where
      of_form : (v : PrintedForm) → Or_not (IsOfForm v options)
      of_form Slots = inl tt
      of_form Stack = both (none_told (said (codes "--style") options)) (none_told (said (codes "--slots") options))

      one_value : (v w : PrintedForm) → Some v ≡ Some w → v ≡ w
      one_value v w e = ap (λ o. unwrap_or o v) e

  translation_of_four : (n : Names) → SaysTold SayTranslation (n.domain ∷ n.problem ∷ n.printed_domain ∷ n.printed_problem ∷ []) options
  translation_of_four n =
      go (both (apart_told n) (both (slots_told (slots_said options)) computed_told)) (value_told (level_said options)) printed_form_told (value_told (style_said options))
      (value_told (checks_said options)) (value_told (rule_said options))
    where
      same : (r : TranslationRequest) → SayTranslation (n.domain ∷ n.problem ∷ n.printed_domain ∷ n.printed_problem ∷ []) options r → r.names ≡ n
      same r s = let e = sym s.files in λ i. record { domain = get_or (e i) 0 []; problem = get_or (e i) 1 []; printed_domain = get_or (e i) 2 []; printed_problem = get_or (e i) 3 [] }

      go : Or_not (AreApart n × (AreSlots (slots_said options) × IsComputed options))
          → ((v : _) × (level_said options ≡ Some v)) ⊎ ((v : _) → level_said options ≡ Some v → ⊥)
          → ((v : PrintedForm) × (form_said options ≡ Some v) × IsOfForm v options) ⊎ ((v : PrintedForm) → form_said options ≡ Some v → IsOfForm v options → ⊥)
          → ((v : _) × (style_said options ≡ Some v)) ⊎ ((v : _) → style_said options ≡ Some v → ⊥)
          → ((v : _) × (checks_said options ≡ Some v)) ⊎ ((v : _) → checks_said options ≡ Some v → ⊥)
          → ((v : _) × (rule_said options ≡ Some v)) ⊎ ((v : _) → rule_said options ≡ Some v → ⊥)
          → SaysTold SayTranslation (n.domain ∷ n.problem ∷ n.printed_domain ∷ n.printed_problem ∷ []) options
      go (inl h) (inl l) (inl k) (inl s) (inl c) (inl f) = inl (
        record { names = n; numeral = slots_said options; level = l.0; form = k.0; style = s.0; checks = c.0; rule = f.0 },
        record { files = refl; numeral = refl; slots = h.1.0; level = l.1; computed = h.1.1; form = k.1; of_form = k.2; style = s.1; checks = c.1; rule = f.1; apart = h.0 },
      )
      go (inr m) l k s c f = inr (λ r a. m (subst AreApart (same r a) a.apart, (subst AreSlots a.numeral a.slots, a.computed)))
      go (inl h) (inr m) k s c f = inr (λ r a. m r.level a.level)
      go (inl h) (inl l) (inr m) s c f = inr (λ r a. m r.form a.form a.of_form)
      go (inl h) (inl l) (inl k) (inr m) c f = inr (λ r a. m r.style a.style)
      go (inl h) (inl l) (inl k) (inl s) (inr m) f = inr (λ r a. m r.checks a.checks)
      go (inl h) (inl l) (inl k) (inl s) (inl c) (inr m) = inr (λ r a. m r.rule a.rule)

  not_four : (names : List Word) → (length names ≡ 4 → ⊥) → (r : TranslationRequest) → SayTranslation names options r → ⊥
  not_four names l r a = l (ap length a.files)

  translation_told : (names : List Word) → SaysTold SayTranslation names options
  translation_told [] = inr (not_four [] (λ e. omega (arith, e)))
  translation_told (d ∷ []) = inr (not_four (d ∷ []) (λ e. omega (arith, e)))
  translation_told (d ∷ p ∷ []) = inr (not_four (d ∷ p ∷ []) (λ e. omega (arith, e)))
  translation_told (d ∷ p ∷ e ∷ []) = inr (not_four (d ∷ p ∷ e ∷ []) (λ k. omega (arith, k)))
  translation_told (d ∷ p ∷ e ∷ q ∷ []) = translation_of_four (record { domain = d; problem = p; printed_domain = e; printed_problem = q })
  translation_told (d ∷ p ∷ e ∷ q ∷ x ∷ names) = inr (not_four (d ∷ p ∷ e ∷ q ∷ x ∷ names) (λ k. omega (arith, k)))

  not_two : (names : List Word) → (length names ≡ 2 → ⊥) → (r : BoundRequest) → SayBound names options r → ⊥
  not_two names l r a = l (ap length a.files)

  bound_told : (names : List Word) → SaysTold SayBound names options
  bound_told [] = inr (not_two [] (λ e. omega (arith, e)))
  bound_told (d ∷ []) = inr (not_two (d ∷ []) (λ e. omega (arith, e)))
  bound_told (d ∷ p ∷ []) = go (value_told (level_said options)) (value_told (checks_said options))
    where
      go : ((v : _) × (level_said options ≡ Some v)) ⊎ ((v : _) → level_said options ≡ Some v → ⊥)
          → ((v : _) × (checks_said options ≡ Some v)) ⊎ ((v : _) → checks_said options ≡ Some v → ⊥) → SaysTold SayBound (d ∷ p ∷ []) options
      go (inl l) (inl c) =
          inl (record { domain = d; problem = p; level = l.0; checks = c.0 }, record { files = refl; level = l.1; checks = c.1 })
      go (inr m) c = inr (λ r a. m r.level a.level)
      go (inl l) (inr m) = inr (λ r a. m r.checks a.checks)
  bound_told (d ∷ p ∷ x ∷ names) = inr (not_two (d ∷ p ∷ x ∷ names) (λ e. omega (arith, e)))

  decode_of_three : (d p s : Word) → SaysTold SayDecode (d ∷ p ∷ s ∷ []) options
  decode_of_three d p s =
      go (both (slots_told (slots_said options)) computed_told) (value_told (level_said options)) (value_told (form_said options)) (value_told (checks_said options))
    where
      go : Or_not (AreSlots (slots_said options) × IsComputed options)
          → ((v : _) × (level_said options ≡ Some v)) ⊎ ((v : _) → level_said options ≡ Some v → ⊥)
          → ((v : _) × (form_said options ≡ Some v)) ⊎ ((v : _) → form_said options ≡ Some v → ⊥)
          → ((v : _) × (checks_said options ≡ Some v)) ⊎ ((v : _) → checks_said options ≡ Some v → ⊥)
          → SaysTold SayDecode (d ∷ p ∷ s ∷ []) options
      go (inl m) (inl l) (inl k) (inl c) = inl (
        record { domain = d; problem = p; plan = s; numeral = slots_said options; level = l.0; form = k.0; checks = c.0 },
        record { files = refl; numeral = refl; slots = m.0; level = l.1; computed = m.1; form = k.1; checks = c.1 },
      )
      go (inr m) l k c = inr (λ r a. m (subst AreSlots a.numeral a.slots, a.computed))
      go (inl m) (inr n) k c = inr (λ r a. n r.level a.level)
      go (inl m) (inl l) (inr n) c = inr (λ r a. n r.form a.form)
      go (inl m) (inl l) (inl k) (inr n) = inr (λ r a. n r.checks a.checks)

  not_files : (names : List Word) → (length names ≡ 3 → ⊥) → (r : DecodeRequest) → SayDecode names options r → ⊥
  not_files names l r a = l (ap length a.files)

  decode_told : (names : List Word) → SaysTold SayDecode names options
  decode_told [] = inr (not_files [] (λ e. omega (arith, e)))
  decode_told (d ∷ []) = inr (not_files (d ∷ []) (λ e. omega (arith, e)))
  decode_told (d ∷ p ∷ []) = inr (not_files (d ∷ p ∷ []) (λ e. omega (arith, e)))
  decode_told (d ∷ p ∷ s ∷ []) = decode_of_three d p s
  decode_told (d ∷ p ∷ s ∷ x ∷ names) = inr (not_files (d ∷ p ∷ s ∷ x ∷ names) (λ e. omega (arith, e)))

  encode_of_three : (d p s : Word) → SaysTold SayEncode (d ∷ p ∷ s ∷ []) options
  encode_of_three d p s = go (slots_told (slots_said options)) (value_told (form_said options)) (value_told (checks_said options))
    where
      go : Or_not (AreSlots (slots_said options)) → ((v : _) × (form_said options ≡ Some v)) ⊎ ((v : _) → form_said options ≡ Some v → ⊥)
          → ((v : _) × (checks_said options ≡ Some v)) ⊎ ((v : _) → checks_said options ≡ Some v → ⊥) → SaysTold SayEncode (d ∷ p ∷ s ∷ []) options
      go (inl m) (inl k) (inl c) = inl (
        record { domain = d; problem = p; hplan = s; numeral = slots_said options; form = k.0; checks = c.0 },
        record { files = refl; numeral = refl; slots = m; form = k.1; checks = c.1 },
      )
      go (inr m) k c = inr (λ r a. m (subst AreSlots a.numeral a.slots))
      go (inl m) (inr n) c = inr (λ r a. n r.form a.form)
      go (inl m) (inl k) (inr n) = inr (λ r a. n r.checks a.checks)

  not_inputs : (names : List Word) → (length names ≡ 3 → ⊥) → (r : EncodeRequest) → SayEncode names options r → ⊥
  not_inputs names l r a = l (ap length a.files)

  encode_told : (names : List Word) → SaysTold SayEncode names options
  encode_told [] = inr (not_inputs [] (λ e. omega (arith, e)))
  encode_told (d ∷ []) = inr (not_inputs (d ∷ []) (λ e. omega (arith, e)))
  encode_told (d ∷ p ∷ []) = inr (not_inputs (d ∷ p ∷ []) (λ e. omega (arith, e)))
  encode_told (d ∷ p ∷ s ∷ []) = encode_of_three d p s
  encode_told (d ∷ p ∷ s ∷ x ∷ names) = inr (not_inputs (d ∷ p ∷ s ∷ x ∷ names) (λ e. omega (arith, e)))

  not_three : (names : List Word) → (length names ≡ 3 → ⊥) → (r : ValidationRequest) → SayValidation names options r → ⊥
  not_three names l r a = l (ap length a.files)

  validation_told : (names : List Word) → SaysTold SayValidation names options
  validation_told [] = inr (not_three [] (λ e. omega (arith, e)))
  validation_told (d ∷ []) = inr (not_three (d ∷ []) (λ e. omega (arith, e)))
  validation_told (d ∷ p ∷ []) = inr (not_three (d ∷ p ∷ []) (λ e. omega (arith, e)))
  validation_told (d ∷ p ∷ s ∷ []) = inl (record { domain = d; problem = p; plan = s }, record { files = refl })
  validation_told (d ∷ p ∷ s ∷ x ∷ names) = inr (not_three (d ∷ p ∷ s ∷ x ∷ names) (λ e. omega (arith, e)))

  make_of_three : (k d p : Word) → SaysTold SayMake (k ∷ d ∷ p ∷ []) options
  make_of_three k d p = elim (both (count_told k) (other_than (same_told d p))) [
    | inl h ↦ inl (record { numeral = k; printed_domain = d; printed_problem = p }, record { words = refl; count = h.0; apart = h.1 })
    | inr m ↦ inr (λ r a. m (subst IsCount (ap (λ z. get_or z 0 []) (sym a.words)) a.count, λ e. a.apart (ap (λ z. get_or z 1 []) (sym a.words) ∙ e ∙ ap (λ z. get_or z 2 []) a.words)))
  ]

  not_words : (names : List Word) → (length names ≡ 3 → ⊥) → (r : MakeRequest) → SayMake names options r → ⊥
  not_words names l r a = l (ap length a.words)

  make_told : (names : List Word) → SaysTold SayMake names options
  make_told [] = inr (not_words [] (λ e. omega (arith, e)))
  make_told (k ∷ []) = inr (not_words (k ∷ []) (λ e. omega (arith, e)))
  make_told (k ∷ d ∷ []) = inr (not_words (k ∷ d ∷ []) (λ e. omega (arith, e)))
  make_told (k ∷ d ∷ p ∷ []) = make_of_three k d p
  make_told (k ∷ d ∷ p ∷ x ∷ names) = inr (not_words (k ∷ d ∷ p ∷ x ∷ names) (λ e. omega (arith, e)))

  prune_of_four : (n : Names) → SaysTold SayPrune (n.domain ∷ n.problem ∷ n.printed_domain ∷ n.printed_problem ∷ []) options
  prune_of_four n = elim (apart_told n) [ inl h ↦ inl (record { names = n }, record { files = refl; apart = h }) | inr m ↦ inr (λ r a. m (subst AreApart (same r a) a.apart)) ]
    where
      same : (r : PruneRequest) → SayPrune (n.domain ∷ n.problem ∷ n.printed_domain ∷ n.printed_problem ∷ []) options r → r.names ≡ n
      same r s = let e = sym s.files in λ i. record { domain = get_or (e i) 0 []; problem = get_or (e i) 1 []; printed_domain = get_or (e i) 2 []; printed_problem = get_or (e i) 3 [] }

  not_four_files : (names : List Word) → (length names ≡ 4 → ⊥) → (r : PruneRequest) → SayPrune names options r → ⊥
  not_four_files names l r a = l (ap length a.files)

  prune_told : (names : List Word) → SaysTold SayPrune names options
  prune_told [] = inr (not_four_files [] (λ e. omega (arith, e)))
  prune_told (d ∷ []) = inr (not_four_files (d ∷ []) (λ e. omega (arith, e)))
  prune_told (d ∷ p ∷ []) = inr (not_four_files (d ∷ p ∷ []) (λ e. omega (arith, e)))
  prune_told (d ∷ p ∷ e ∷ []) = inr (not_four_files (d ∷ p ∷ e ∷ []) (λ k. omega (arith, k)))
  prune_told (d ∷ p ∷ e ∷ q ∷ []) = prune_of_four (record { domain = d; problem = p; printed_domain = e; printed_problem = q })
  prune_told (d ∷ p ∷ e ∷ q ∷ x ∷ names) = inr (not_four_files (d ∷ p ∷ e ∷ q ∷ x ∷ names) (λ k. omega (arith, k)))

abbrev pub FormTold : List Word → Type 0
FormTold words = AreOfAForm words ⊎ (AreOfAForm words → ⊥)

pub form_told : (words : List Word) → FormTold words
form_told words =
    go (told_by translation_form SayTranslation (λ n o. translation_told o n) words) (told_by bound_form SayBound (λ n o. bound_told o n) words)
    (told_by decode_form SayDecode (λ n o. decode_told o n) words) (told_by encode_form SayEncode (λ n o. encode_told o n) words)
    (told_by validation_form SayValidation (λ n o. validation_told o n) words) (told_by prune_form SayPrune (λ n o. prune_told o n) words)
    (told_by make_form SayMake (λ n o. make_told o n) words)
  where
    go : ((r : TranslationRequest) × AsksTranslation words r) ⊎ ((r : TranslationRequest) → AsksTranslation words r → ⊥)
        → ((r : BoundRequest) × AsksBound words r) ⊎ ((r : BoundRequest) → AsksBound words r → ⊥)
        → ((r : DecodeRequest) × AsksDecode words r) ⊎ ((r : DecodeRequest) → AsksDecode words r → ⊥)
        → ((r : EncodeRequest) × AsksEncode words r) ⊎ ((r : EncodeRequest) → AsksEncode words r → ⊥)
        → ((r : ValidationRequest) × AsksValidation words r) ⊎ ((r : ValidationRequest) → AsksValidation words r → ⊥)
        → ((r : PruneRequest) × AsksPrune words r) ⊎ ((r : PruneRequest) → AsksPrune words r → ⊥)
        → ((r : MakeRequest) × AsksMake words r) ⊎ ((r : MakeRequest) → AsksMake words r → ⊥) → FormTold words
    go (inl (r, a)) b c d e f g = inl (to_translate r, a)
    go (inr n) (inl (r, a)) c d e f g = inl (to_bound r, a)
    go (inr n) (inr m) (inl (r, a)) d e f g = inl (to_decode r, a)
    go (inr n) (inr m) (inr k) (inl (r, a)) e f g = inl (to_encode r, a)
    go (inr n) (inr m) (inr k) (inr l) (inl (r, a)) f g = inl (to_validate r, a)
    go (inr n) (inr m) (inr k) (inr l) (inr j) (inl (r, a)) g = inl (to_prune r, a)
    go (inr n) (inr m) (inr k) (inr l) (inr j) (inr i) (inl (r, a)) = inl (to_make r, a)
    go (inr n) (inr m) (inr k) (inr l) (inr j) (inr i) (inr h) = inr (no_form words n m k l j i h)
