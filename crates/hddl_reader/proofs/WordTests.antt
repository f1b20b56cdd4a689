-- Words as the reader sorts them and as the grammar tests them.
use Rattle.std.proofs.Common.{ℕ, ◌≡◌, ◌↔◌, Bool, true, false, not, ◌&&◌, ◌||◌, ◌==◌, if◌then◌else◌, Some, None, [], ◌∷◌, refl, sym, ap, ◌∙◌}
use Rattle.std.proofs.lemmas.Bool.{eqb-true}
use Rattle.std.specs.Str.{bytes_eq}
use Rattle.htn_base.specs.Words.{is_reserved}
use Rattle.text_forms.specs.Words.{Word, is_name}
use Rattle.text_forms.specs.form_grammar.Rows.{Next, go, stop, if_allowed}
use Rattle.text_forms.specs.form_grammar.Words.{Table, entry, by_word, is_variable_word, is_term, used, declared}
use Rattle.gd_reader.specs.declared.words.Sort.{Sort}
use Rattle.gd_reader.specs.declared.words.Sort.TheVariants.{Variable, Name, Other}
use Rattle.gd_reader.specs.TermGrammar.{is_term_sort, is_name_sort}
use Rattle.gd_reader.specs.TypedLists.{undeclared}
use Rattle.gd_reader.specs.Words.{sort_of}
use Rattle.gd_reader.proofs.Sorts.{name_test}

pub term_test : (w : Word) → is_term_sort (sort_of w) ≡ is_term w
unfolding sort_of
term_test [] = refl
term_test (b ∷ []) = one (not (b == 63) && (not (b == 58) && not (is_reserved (b ∷ []))))
  where
    one : (y : Bool) → is_term_sort (if y then Name else Other) ≡ y
    one true = refl
    one false = refl
term_test (b ∷ c ∷ w) = two (b == 63) (not (b == 58) && not (is_reserved (b ∷ c ∷ w)))
  where
    two : (x y : Bool) → is_term_sort (if x then Variable else (if not x && y then Name else Other)) ≡ x || (not x && y)
    two true y = refl
    two false true = refl
    two false false = refl

abbrev pub is_variable_sort : Sort → Bool
is_variable_sort Variable = true
is_variable_sort Name = false
is_variable_sort Other = false

pub variable_test : (w : Word) → is_variable_sort (sort_of w) ≡ is_variable_word w
unfolding sort_of
variable_test [] = refl
variable_test (b ∷ []) = one (not (b == 63) && (not (b == 58) && not (is_reserved (b ∷ []))))
  where
    one : (y : Bool) → is_variable_sort (if y then Name else Other) ≡ false
    one true = refl
    one false = refl
variable_test (b ∷ c ∷ w) = two (b == 63) (not (b == 58) && not (is_reserved (b ∷ c ∷ w)))
  where
    two : (x y : Bool) → is_variable_sort (if x then Variable else (if not x && y then Name else Other)) ≡ x
    two true y = refl
    two false true = refl
    two false false = refl

-- a name that is or may be declared, by the word's sort
abbrev pub declared_by : {X : Type 0} → Sort → ℕ → X → Next X
declared_by Variable code x = stop 8
declared_by Name code x = go x
declared_by Other code x = stop code

declared_name : {X : Type 0} (s : Sort) (x : X) → declared_by s 8 x ≡ if_allowed (is_name_sort s) 8 x
declared_name Variable x = refl
declared_name Name x = refl
declared_name Other x = refl

-- a name that is used
pub used_test : {X : Type 0} (w : Word) (x : X) → declared_by (sort_of w) 8 x ≡ used is_name x w
used_test w x = declared_name (sort_of w) x ∙ ap (λ b. if_allowed b 8 x) (name_test w)

reserved_none : (c : ℕ) (w : Word) → is_reserved (63 ∷ c ∷ w) ≡ false
reserved_none c w = refl

pub declared_test : {X : Type 0} (w : Word) (x : X) → declared_by (sort_of w) (undeclared w) x ≡ declared 8 x w
unfolding sort_of
declared_test [] x = refl
declared_test {X} (b ∷ []) x = one (is_reserved (b ∷ [])) (b == 63) (b == 58)
  where
    one : (r u v : Bool) → ◌≡◌ {A = Next X} (declared_by (if not u && (not v && not r) then Name else Other) (if r then 9 else 8) x) (if r then stop 9 else if_allowed (not u && (not v && not r)) 8 x)
    one true true v = refl
    one true false true = refl
    one true false false = refl
    one false true v = refl
    one false false true = refl
    one false false false = refl
declared_test {X} (b ∷ c ∷ w) x = two (is_reserved (b ∷ c ∷ w)) (b == 63) (b == 58) (λ e. ap (λ b. is_reserved (b ∷ c ∷ w)) (eqb-true b 63 e) ∙ reserved_none c w)
  where
    two : (r u v : Bool) → (u ≡ true → r ≡ false) → ◌≡◌ {A = Next X} (declared_by (if u then Variable else (if not u && (not v && not r) then Name else Other)) (if r then 9 else 8) x)
        (if r then stop 9 else if_allowed (not u && (not v && not r)) 8 x)
    two true true v h = let g = h refl in cc
    two true false true h = refl
    two true false false h = refl
    two false true v h = refl
    two false false true h = refl
    two false false false h = refl

-- a word of a table, and what a reader makes of it
pub at_key : {H X : Type 0} (of_head : H → Next X) (others : Word → Next X) (w k : Word) (h rest : H) (x : X) (table : Table X)
    → of_head h ≡ go x → of_head rest ≡ by_word table others w → of_head (if bytes_eq w k then h else rest) ≡ by_word ((k, x) ∷ table) others w
at_key {H} {X} of_head others w k h rest x table here later = by_test (bytes_eq w k)
  where
    by_test : (b : Bool) → of_head (if b then h else rest) ≡ elim (if b then Some x else entry table w) [ None ↦ others w | Some x ↦ go x ]
    by_test true = here
    by_test false = later

sort_is_name : (s : Sort) → is_name_sort s ≡ true → s ≡ Name
sort_is_name Variable e = let f = e in cc
sort_is_name Name e = refl
sort_is_name Other e = let f = e in cc

sort_is_variable : (s : Sort) → is_variable_sort s ≡ true → s ≡ Variable
sort_is_variable Variable e = refl
sort_is_variable Name e = let f = e in cc
sort_is_variable Other e = let f = e in cc

pub names_sorted : (w : Word) → (sort_of w ≡ Name) ↔ (is_name w ≡ true)
names_sorted w = (λ e. sym (name_test w) ∙ ap is_name_sort e, λ e. sort_is_name (sort_of w) (name_test w ∙ e))

pub variables_sorted : (w : Word) → (sort_of w ≡ Variable) ↔ (is_variable_word w ≡ true)
variables_sorted w = (λ e. sym (variable_test w) ∙ ap is_variable_sort e, λ e. sort_is_variable (sort_of w) (variable_test w ∙ e))
