-- What stands, by the keyword that it is counted as; and keywords that are seen.
use Rattle.std.proofs.Common.{◌≡◌, ℕ, Bool, true, false, not, ◌||◌, if◌then◌else◌, Option, Some, None, option_map, List, [], ◌∷◌, refl, sym, ◌∙◌, ap, subst}
use Rattle.std.specs.Str.{bytes_eq}
use Rattle.std.proofs.lemmas.Slice.Eq.{bytes_eq-Decides}
use Rattle.text_forms.specs.Placed.{Placed}
use Rattle.text_forms.specs.Words.{Word, is_among}
use Rattle.text_forms.specs.form_grammar.Rows.{Next, if_allowed, Rows, form}
use Rattle.text_forms.specs.form_grammar.Words.{Table, entry, is_keyword, unknown, by_keyword, counts_as}
use Rattle.gd_reader.specs.declared.stop.Stop.{Stop}
use Rattle.gd_reader.specs.declared.stop.Stop.TheVariants.{Departs}
use Rattle.gd_reader.specs.Answers.{◌>>=◌}
use Rattle.std.specs.Prelude.{Result, Ok, Err}
use Rattle.hddl_reader.specs.Said.{said}
use Rattle.hddl_reader.proofs.TermsSaid.{at_next}
use Rattle.hddl_reader.specs.Parts.{keyword_by}

-- the table with other values
abbrev pub valued : {X Y : Type 0} → (X → Y) → Table X → Table Y
valued f [] = []
valued f (e ∷ table) = (e.0, f e.1) ∷ valued f table

pub entry_valued : {X Y : Type 0} (f : X → Y) (table : Table X) (w : Word) → entry (valued f table) w ≡ option_map f (entry table w)
entry_valued f [] w = refl
entry_valued {X} {Y} f (e ∷ table) w = by_test (entry_valued f table w) (bytes_eq w e.0)
  where
    by_test : entry (valued f table) w ≡ option_map f (entry table w) → (b : Bool) → ◌≡◌ {A = Option Y} (if b then Some (f e.1) else entry (valued f table) w) (option_map f (if b then Some e.1 else entry table w))
    by_test h true = refl
    by_test h false = h

-- each keyword of the table counts as the one of its value
abbrev pub AreKeyed : {X : Type 0} → (X → Word) → Table X → Type 0
AreKeyed key [] = Unit {0}
AreKeyed key (e ∷ table) = (counts_as e.0 ≡ key e.1) × AreKeyed key table

pub keyed : {X : Type 0} (key : X → Word) (table : Table X) → AreKeyed key table → (w : Word) (x : X) → entry table w ≡ Some x → counts_as w ≡ key x
keyed key [] k w x e = let f = e in cc
keyed {X} key (y ∷ table) k w x e = by_test (keyed key table k.1 w x) (bytes_eq w y.0) refl e
  where
    by_test : (entry table w ≡ Some x → counts_as w ≡ key x) → (b : Bool) → bytes_eq w y.0 ≡ b → ◌≡◌ {A = Option X} (if b then Some y.1 else entry table w) (Some x) → counts_as w ≡ key x
    by_test r true f g = ap counts_as ((bytes_eq-Decides w y.0).0 f) ∙ k.0 ∙ ap key (let h = g in cc)
    by_test r false f g = r g

-- what the grammar says of a word, by what the table says of it
abbrev next_of : {Y D : Type 0} → List Word → (Y → D) → Word → Option Y → Next D
next_of seen leaves w o = elim o [ None ↦ unknown (is_keyword w) | Some x ↦ if_allowed (not (is_among (counts_as w) seen)) 7 (leaves x) ]

-- a keyword that is due, where what stands is what was seen
pub keyword_then : {X Y D B : Type 0} (rows : Rows D) (due : X → Y) (key : X → Word) (table : Table X) (stands : X → Bool) (seen : List Word) (leaves : Y → D) (at : ℕ) (w : Word) (k : X → Result B Stop) (q : Placed)
    → AreKeyed key table → ((x : X) → is_among (key x) seen ≡ stands x) → ((x : X) → entry table w ≡ Some x → said (k x) ≡ form rows (leaves (due x)) q)
    → said (keyword_by (entry table w) stands at w >>= k) ≡ at_next rows (by_keyword (valued due table) seen leaves w) at q
keyword_then {X} {Y} {D} {B} rows due key table stands seen leaves at w k q are fits h = by_entry (entry table w) refl ∙ ap (λ o. at_next rows (next_of seen leaves w o) at q) (sym (entry_valued due table w))
  where
    other : (b : Bool) → said {A = B} (Err (Departs (if b then 6 else 8) at)) ≡ at_next rows (unknown b) at q
    other true = refl
    other false = refl

    known : (x : X) (b c : Bool) → c ≡ b → said (k x) ≡ form rows (leaves (due x)) q → said ((if b then Err (Departs 7 at) else Ok x) >>= k) ≡ at_next rows (if_allowed (not c) 7 (leaves (due x))) at q
    known x true true e g = refl
    known x true false e g = let f = e in cc
    known x false true e g = let f = e in cc
    known x false false e g = g

    by_entry : (o : Option X) → entry table w ≡ o → said (keyword_by o stands at w >>= k) ≡ at_next rows (next_of seen leaves w (option_map due o)) at q
    by_entry None e = other (is_keyword w)
    by_entry (Some x) e = known x (stands x) (is_among (counts_as w) seen) (ap (λ v. is_among v seen) (keyed key table are w x e) ∙ fits x) (h x e)

-- what stands, as a table
abbrev pub lookup : Word → Table Bool → Bool
lookup k table = elim (entry table k) [ None ↦ false | Some b ↦ b ]

abbrev pub put : Word → Table Bool → Table Bool
put k [] = []
put k (e ∷ table) = if bytes_eq k e.0 then (e.0, true) ∷ table else e ∷ put k table

abbrev pub has_key : Word → Table Bool → Bool
has_key k [] = false
has_key k (e ∷ table) = bytes_eq k e.0 || has_key k table

pub lookup_put : (k v : Word) (table : Table Bool) → has_key k table ≡ true → lookup v (put k table) ≡ bytes_eq v k || lookup v table
lookup_put k v [] h = let e = h in cc
lookup_put k v (e ∷ table) h = by_key (lookup_put k v table) (bytes_eq k e.0) refl h
  where
    by_key : (has_key k table ≡ true → lookup v (put k table) ≡ bytes_eq v k || lookup v table) → (b : Bool) → bytes_eq k e.0 ≡ b → b || has_key k table ≡ true → lookup v (if b then (e.0, true) ∷ table else e ∷ put k table) ≡ bytes_eq v k || lookup v (e ∷ table)
    by_key r true f g = subst (λ u. lookup v ((e.0, true) ∷ table) ≡ bytes_eq v u || lookup v (e ∷ table)) (sym ((bytes_eq-Decides k e.0).0 f)) (same (bytes_eq v e.0))
      where
        same : (c : Bool) → ◌≡◌ {A = Bool} (elim (if c then Some true else entry table v) [ None ↦ false | Some b ↦ b ]) (c || elim (if c then Some e.1 else entry table v) [ None ↦ false | Some b ↦ b ])
        same true = refl
        same false = refl
    by_key r false f g = other (bytes_eq v e.0) refl
      where
        apart : (c : Bool) → bytes_eq v k ≡ c → bytes_eq v e.0 ≡ true → c ≡ false
        apart false a b = refl
        apart true a b = absurd (let d : true ≡ false = sym ((bytes_eq-Decides k k).1 refl) ∙ subst (λ u. bytes_eq k u ≡ false) (sym ((bytes_eq-Decides v e.0).0 b) ∙ (bytes_eq-Decides v k).0 a) f in cc)

        other : (c : Bool) → bytes_eq v e.0 ≡ c → ◌≡◌ {A = Bool} (elim (if c then Some e.1 else entry (put k table) v) [ None ↦ false | Some b ↦ b ])
            (bytes_eq v k || elim (if c then Some e.1 else entry table v) [ None ↦ false | Some b ↦ b ])
        other true a = ap (λ b. b || e.1) (sym (apart (bytes_eq v k) refl a))
        other false a = r g
