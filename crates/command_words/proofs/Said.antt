-- What words say by options.
use Rattle.std.proofs.Common.{◌≡◌, ◌<◌, ◌↔◌, Bool, true, false, true≢false, ◌||◌, IsTrue, List, [], ◌∷◌, length, map, String, Some, None, Bor, refl, sym, ap, subst, ◌∙◌, arith}
use Rattle.std.specs.Bool.{Decides}
use Rattle.std.specs.List.{Contains, list_any}
use Rattle.std.specs.Str.{bytes_eq}
use Rattle.std.proofs.lemmas.Cmp.{nat_list_eq_equiv}
use Rattle.std.proofs.lemmas.Slice.Eq.{bytes_eq-Decides}
use Rattle.std.proofs.lemmas.Map.Views.{Contains-from_any, list_any-from_Contains}
use Rattle.command_words.specs.Names.{Word, words_of}
use Rattle.command_words.specs.Forms.{said, AreOptions}

-- a test of what references lead to
any_behind : (test : Word → Bool) (options : List (Bor Word)) → list_any (λ o. test o.now) options ≡ list_any test (map (λ o. o.now) options)
any_behind test [] = refl
any_behind test (o ∷ options) = ap (λ b. test o.now || b) (any_behind test options)

pub among_told : (options : List Word) (name : Word) → Decides (list_any (bytes_eq name) options) (Contains options name)
among_told options name = (Contains-from_any (λ x y. (bytes_eq-Decides x y).0) name options, list_any-from_Contains nat_list_eq_equiv name options)

pub has_told : (options : List (Bor Word)) (name : Word) (r : Bool) → r ≡ list_any (λ o. bytes_eq name o.now) options → IsTrue r ↔ Contains (map (λ o. o.now) options) name
has_told options name r e = subst (λ b. Decides b (Contains (map (λ o. o.now) options) name)) (sym (e ∙ any_behind (bytes_eq name) options)) (among_told (map (λ o. o.now) options) name)

-- the value of the first pair, or of those behind it
at_pair : (option name value : Word) (more : List Word) → name ≡ option → said option (name ∷ value ∷ more) ≡ Some value
at_pair option name value more e = let t = (bytes_eq-Decides name option).1 e in cc

behind_pair : (option name value : Word) (more : List Word) → (name ≡ option → ⊥) → said option (name ∷ value ∷ more) ≡ said option more
behind_pair option name value more n = go (bytes_eq name option) refl
  where
    go : (b : Bool) → bytes_eq name option ≡ b → said option (name ∷ value ∷ more) ≡ said option more
    go true e = absurd (n ((bytes_eq-Decides name option).0 e))
    go false e = cc

pub said_here : (option name value : Word) (words more : List Word) → words ≡ name ∷ value ∷ more → name ≡ option → said option words ≡ Some value
said_here option name value words more e same = ap (said option) e ∙ at_pair option name value more same

pub said_later : (option name value : Word) (words more : List Word) → words ≡ name ∷ value ∷ more → (name ≡ option → ⊥) → said option more ≡ said option words
said_later option name value words more e other = sym (ap (said option) e ∙ behind_pair option name value more other)

pub said_nothing : {Z : Type 0} (option : Word) (texts : List (String Z)) → length texts < 2 → None ≡ said option (words_of texts)
said_nothing option [] l = refl
said_nothing option (_ ∷ []) l = refl
said_nothing option (_ ∷ _ ∷ texts) l = absurd (omega (arith, l))

-- options from the first pair on
pub options_go_on : (options : List Word) (name value : Word) (words more : List Word) (r : Bool) → words ≡ name ∷ value ∷ more → Contains options name × (said name more ≡ None) → IsTrue r ↔ AreOptions options more
    → IsTrue r ↔ AreOptions options words
options_go_on options name value words more r e new told = subst (λ z. IsTrue r ↔ AreOptions options z) (sym e) (λ t. (new.0, new.1, told.0 t), λ a. told.1 a.2)

pub options_stop : (options : List Word) (name value : Word) (words more : List Word) (r : Bool) → words ≡ name ∷ value ∷ more → (Contains options name × (said name more ≡ None) → IsTrue r) → r ≡ false
    → IsTrue r ↔ AreOptions options words
options_stop options name value words more r e new none =
    subst (λ z. IsTrue r ↔ AreOptions options z) (sym e) (λ t. absurd (true≢false (sym t ∙ none)), λ a. new (a.0, a.1))
