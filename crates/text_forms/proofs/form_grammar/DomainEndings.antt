-- What may be due in a domain can be made whole, since an action may always come.
use Rattle.std.proofs.Common.{◌≡◌, ℕ, Bool, true, false, not, if◌then◌else◌, ◌||◌, List, [], ◌∷◌, Option, Some, None, codes, refl, sym, ◌∙◌, ap, subst}
use Rattle.std.proofs.lemmas.Slice.Eq.{bytes_eq-Decides}
use Rattle.std.specs.Str.{bytes_eq}
use Rattle.htn_base.specs.Words.{is_reserved}
use Rattle.text_forms.specs.Placed.{Placed, close, word, list}
use Rattle.text_forms.specs.Words.{Word, is_among, is_name}
use Rattle.text_forms.specs.form_grammar.Codes.{wrong, Whole}
use Rattle.text_forms.specs.form_grammar.Rows.{Next, go, stop, if_allowed, Inner, form, closed, next_as, inner_as, a_list}
use Rattle.text_forms.specs.form_grammar.Words.{Table, entry, by_word, by_keyword, used, is_keyword, unknown, counts_as}
use Rattle.text_forms.specs.form_grammar.Effects.{effect_rows}
use Rattle.text_forms.specs.form_grammar.Networks.{network_rows}
use Rattle.text_forms.specs.form_grammar.Sections.{Language, hddl, pddl, domain, problem, Parted, task, method, action, network, SectionDue, of_effect, of_network, group, define, header, kind, title, title_end, sections, section, predicates, predicate, domain_name, facts, fact, objects_of_fact, value, named, parts, section_table, part_table, seen_behind, section_rows, of_terms_due, typed}
use Rattle.text_forms.specs.form_grammar.Lists.{ended, applied, anything, of_predicate}
use Rattle.text_forms.specs.form_grammar.Texts.{OneDue, the_list, the_end, one_list}
use Rattle.text_forms.proofs.form_grammar.Meaning.{then_whole, form_same}
use Rattle.text_forms.proofs.form_grammar.Endings.{Ending, effect_ends, network_ends, one_ends}
use Rattle.text_forms.proofs.form_grammar.Fronts.{CanBeWhole}

-- a domain's section may still be an action
abbrev NoAction : List Word → Type 0
NoAction seen = is_among (codes ":action") seen ≡ false

abbrev pub Can : SectionDue → Type 0
Can (of_effect d) = Unit {0}
Can (of_network d) = Unit {0}
Can (group inside behind) = Can inside × Can behind
Can (define l domain) = Unit {0}
Can (define l problem) = ⊥
Can (header l domain) = Unit {0}
Can (header l problem) = ⊥
Can (kind d) = Unit {0}
Can title = Unit {0}
Can title_end = Unit {0}
Can (sections l domain seen) = NoAction seen
Can (sections l problem seen) = ⊥
Can (section l domain seen) = NoAction seen
Can (section l problem seen) = ⊥
Can predicates = Unit {0}
Can predicate = Unit {0}
Can domain_name = Unit {0}
Can facts = Unit {0}
Can fact = Unit {0}
Can objects_of_fact = Unit {0}
Can value = Unit {0}
Can (named p) = Unit {0}
Can (parts p seen) = Unit {0}

-- how each is made whole
parts_end : (p : Parted) (seen : List Word) → Ending section_rows (parts p seen)
parts_end task seen = (close 0, tt)
parts_end action seen = (close 0, tt)
parts_end network seen = (close 0, tt)
parts_end method seen = by_test (is_among (codes ":task") seen) refl
  where
    by_test : (b : Bool) → is_among (codes ":task") seen ≡ b → Ending section_rows (parts method seen)
    by_test true e = (close 0, subst (λ b. Whole (closed (if_allowed b 8 tt) 0)) (sym e) tt)
    by_test false e = (
      word 0 (codes ":task") (list 0 (word 0 (codes "a") (close 0)) (close 0)),
      subst (λ b. Whole (elim (if_allowed (not b) 7 (group (of_terms_due applied) (parts method (codes ":task" ∷ seen)))) [
        | go next ↦ form section_rows next (list 0 (word 0 (codes "a") (close 0)) (close 0))
        | stop code ↦ wrong code 0
      ])) (sym e) tt,
    )

action_end : (l : Language) (seen : List Word) → NoAction seen → Ending section_rows (section l domain seen)
action_end hddl seen c = (
  word 0 (codes ":action") (word 0 (codes "a") (close 0)),
  subst (λ b. Whole (elim (if_allowed (not b) 7 (named action)) [ go next ↦ form section_rows next (word 0 (codes "a") (close 0)) | stop code ↦ wrong code 0 ])) (sym c) tt,
)
action_end pddl seen c = (
  word 0 (codes ":action") (word 0 (codes "a") (close 0)),
  subst (λ b. Whole (elim (if_allowed (not b) 7 (named action)) [ go next ↦ form section_rows next (word 0 (codes "a") (close 0)) | stop code ↦ wrong code 0 ])) (sym c) tt,
)

abbrev heading : Placed
heading = list 0 (word 0 (codes "domain") (word 0 (codes "a") (close 0))) (close 0)

pub section_ends : (d : SectionDue) → Can d → Ending section_rows d
section_ends (of_effect d) c = let e = effect_ends d in (e.0, subst Whole (sym (form_same effect_rows section_rows of_effect (λ x. refl) e.0 d)) e.1)
section_ends (of_network d) c = let e = network_ends d in (e.0, subst Whole (sym (form_same network_rows section_rows of_network (λ x. refl) e.0 d)) e.1)
section_ends (group a b) c = let e = section_ends a c.0 in let g = section_ends b c.1 in (list 0 e.0 g.0, then_whole (form section_rows a e.0) (form section_rows b g.0) e.1 g.1)
section_ends (define hddl domain) c = (word 0 (codes "define") heading, tt)
section_ends (define pddl domain) c = (word 0 (codes "define") heading, tt)
section_ends (define l problem) c = absurd c
section_ends (header hddl domain) c = (heading, tt)
section_ends (header pddl domain) c = (heading, tt)
section_ends (header l problem) c = absurd c
section_ends (kind domain) c = (word 0 (codes "domain") (word 0 (codes "a") (close 0)), tt)
section_ends (kind problem) c = (word 0 (codes "problem") (word 0 (codes "a") (close 0)), tt)
section_ends title c = (word 0 (codes "a") (close 0), tt)
section_ends title_end c = (close 0, tt)
section_ends (sections hddl domain seen) c = (close 0, tt)
section_ends (sections pddl domain seen) c = (close 0, tt)
section_ends (sections l problem seen) c = absurd c
section_ends (section l domain seen) c = action_end l seen c
section_ends (section l problem seen) c = absurd c
section_ends predicates c = (close 0, tt)
section_ends predicate c = (word 0 (codes "a") (close 0), tt)
section_ends domain_name c = (word 0 (codes "a") (close 0), tt)
section_ends facts c = (close 0, tt)
section_ends fact c = (word 0 (codes "a") (close 0), tt)
section_ends objects_of_fact c = (close 0, tt)
section_ends value c = (word 0 (codes "a") (close 0), tt)
section_ends (named task) c = (word 0 (codes "a") (close 0), tt)
section_ends (named action) c = (word 0 (codes "a") (close 0), tt)
section_ends (named network) c = (word 0 (codes "a") (close 0), tt)
section_ends (named method) c = (word 0 (codes "a") (word 0 (codes ":task") (list 0 (word 0 (codes "a") (close 0)) (close 0))), tt)
section_ends (parts p seen) c = parts_end p seen

-- each word and each list leaves such a thing due
go_same : {Y : Type 0} (a b : Y) → go a ≡ go b → a ≡ b
go_same a b e = cc

stops : {Y : Type 0} (code : ℕ) (b : Y) → stop code ≡ go b → ⊥
stops code b e = cc

allowed_can : (b : Bool) (code : ℕ) (y x : SectionDue) → Can y → if_allowed b code y ≡ go x → Can x
allowed_can true code y x c e = subst Can (go_same y x e) c
allowed_can false code y x c e = absurd (stops code x e)

declared_can : (r b : Bool) (code : ℕ) (y x : SectionDue) → Can y → (if r then stop 9 else if_allowed b code y) ≡ go x → Can x
declared_can true b code y x c e = absurd (stops 9 x e)
declared_can false b code y x c e = allowed_can b code y x c e

abbrev AllCan : Table SectionDue → Type 0
AllCan [] = Unit {0}
AllCan (e ∷ table) = Can e.1 × AllCan table

entry_can : (table : Table SectionDue) (w : Word) (x : SectionDue) → AllCan table → entry table w ≡ Some x → Can x
entry_can [] w x c e = absurd cc
entry_can (t ∷ table) w x c e = by_test (bytes_eq w t.0) e (entry_can table w x c.1)
  where
    by_test : (b : Bool) → (if b then Some t.1 else entry table w) ≡ Some x → (entry table w ≡ Some x → Can x) → Can x
    by_test true e h = subst Can (let o : t.1 ≡ x = cc in o) c.0
    by_test false e h = h e

word_can : (table : Table SectionDue) (others : Word → Next SectionDue) (w : Word) (x : SectionDue) → AllCan table → (others w ≡ go x → Can x) → by_word table others w ≡ go x → Can x
word_can table others w x c h e = by_entry (entry table w) refl e
  where
    by_entry : (o : Option SectionDue) → entry table w ≡ o → ◌≡◌ {A = Next SectionDue} (elim o [ None ↦ others w | Some y ↦ go y ]) (go x) → Can x
    by_entry None i e = h e
    by_entry (Some y) i e = subst Can (go_same y x e) (entry_can table w y c i)

keyword_can : (table : Table SectionDue) (seen : List Word) (leaves : SectionDue → SectionDue) (w : Word) (x : SectionDue) → AllCan table → ((y : SectionDue) → Can y → Can (leaves y)) → by_keyword table seen leaves w ≡ go x → Can x
keyword_can table seen leaves w x c h e = by_entry (entry table w) refl e
  where
    none : (b : Bool) → unknown b ≡ go x → Can x
    none true e = absurd (stops 6 x e)
    none false e = absurd (stops 8 x e)

    by_entry : (o : Option SectionDue) → entry table w ≡ o → ◌≡◌ {A = Next SectionDue} (elim o [ None ↦ unknown (is_keyword w) | Some y ↦ if_allowed (not (is_among (counts_as w) seen)) 7 (leaves y) ]) (go x) → Can x
    by_entry None i e = none (is_keyword w) e
    by_entry (Some y) i e = allowed_can (not (is_among (counts_as w) seen)) 7 (leaves y) x (h y (entry_can table w y c i)) e

parts_can : (p : Parted) → AllCan (part_table p)
parts_can task = (tt, (tt, (tt, tt)))
parts_can action = (tt, (tt, (tt, tt)))
parts_can method = (tt, (tt, (tt, (tt, (tt, (tt, (tt, (tt, (tt, (tt, tt))))))))))
parts_can network = (tt, (tt, (tt, (tt, (tt, (tt, (tt, (tt, tt))))))))

sections_can : (l : Language) → AllCan (section_table l domain)
sections_can hddl = (tt, (tt, (tt, (tt, (tt, (tt, (tt, (tt, tt))))))))
sections_can pddl = (tt, (tt, (tt, (tt, (tt, (tt, tt))))))

next_can : {Y : Type 0} (n : Next Y) (f : Y → SectionDue) (x : SectionDue) → ((y : Y) → Can (f y)) → next_as f n ≡ go x → Can x
next_can (go y) f x h e = subst Can (go_same (f y) x e) (h y)
next_can (stop code) f x h e = absurd (stops code x e)

pub section_words : (d : SectionDue) (w : Word) (x : SectionDue) → Can d → (section_rows d).at_word w ≡ go x → Can x
section_words (of_effect d) w x c e = next_can ((effect_rows d).at_word w) of_effect x (λ y. tt) e
section_words (of_network d) w x c e = next_can ((network_rows d).at_word w) of_network x (λ y. tt) e
section_words (group a b) w x c e = absurd (stops 8 x e)
section_words (define l domain) w x c e = word_can ((codes "define", header l domain) ∷ []) (λ v. stop 5) w x (tt, tt) (λ f. absurd (stops 5 x f)) e
section_words (define l problem) w x c e = absurd c
section_words (header l d) w x c e = absurd (stops 5 x e)
section_words (kind domain) w x c e = word_can ((codes "domain", title) ∷ []) (λ v. stop 5) w x (tt, tt) (λ f. absurd (stops 5 x f)) e
section_words (kind problem) w x c e = word_can ((codes "problem", title) ∷ []) (λ v. stop 5) w x (tt, tt) (λ f. absurd (stops 5 x f)) e
section_words title w x c e = declared_can (is_reserved w) (is_name w) 5 title_end x tt e
section_words title_end w x c e = absurd (stops 5 x e)
section_words (sections l d seen) w x c e = absurd (stops 8 x e)
section_words (section l domain seen) w x c e = keyword_can (section_table l domain) seen (λ y. y) w x (sections_can l) (λ y k. k) e
section_words (section l problem seen) w x c e = absurd c
section_words predicates w x c e = absurd (stops 8 x e)
section_words predicate w x c e = declared_can (is_reserved w) (is_name w) 8 (typed of_predicate) x tt e
section_words domain_name w x c e = allowed_can (is_name w) 8 (of_terms_due ended) x tt e
section_words facts w x c e = absurd (stops 8 x e)
section_words fact w x c e =
    word_can ((codes "=", group (of_terms_due anything) value) ∷ []) (used is_name objects_of_fact) w x ((tt, tt), tt) (λ f. allowed_can (is_name w) 8 objects_of_fact x tt f) e
section_words objects_of_fact w x c e = allowed_can (is_name w) 8 objects_of_fact x tt e
section_words value w x c e = subst Can (go_same (of_terms_due ended) x e) tt
section_words (named p) w x c e = declared_can (is_reserved w) (is_name w) 8 (parts p []) x tt e
section_words (parts p seen) w x c e = keyword_can (part_table p) seen (λ y. group y (parts p (counts_as w ∷ seen))) w x (parts_can p) (λ y k. (k, tt)) e

-- an action repeats
other : (w : Word) → is_among w (codes ":task" ∷ codes ":method" ∷ codes ":action" ∷ []) ≡ false → bytes_eq (codes ":action") w ≡ false
other w e = by_test (bytes_eq (codes ":action") w) refl
  where
    by_test : (b : Bool) → bytes_eq (codes ":action") w ≡ b → b ≡ false
    by_test false f = refl
    by_test true f = absurd (let g : true ≡ false = subst (λ v. is_among v (codes ":task" ∷ codes ":method" ∷ codes ":action" ∷ []) ≡ false) (sym ((bytes_eq-Decides (codes ":action") w).0 f)) e in cc)

no_action : (seen : List Word) (o : Option Word) → NoAction seen → NoAction (seen_behind seen o)
no_action seen None c = c
no_action seen (Some w) c = by_test (is_among w (codes ":task" ∷ codes ":method" ∷ codes ":action" ∷ [])) refl
  where
    by_test : (b : Bool) → is_among w (codes ":task" ∷ codes ":method" ∷ codes ":action" ∷ []) ≡ b → NoAction (if b then seen else w ∷ seen)
    by_test true e = c
    by_test false e = ap (λ b. b || is_among (codes ":action") seen) (other w e) ∙ c

abbrev InnerCan : Inner SectionDue → Type 0
InnerCan i = Can i.inside × ((o : Option Word) → Can (i.behind o))

inner_can : {Y : Type 0} (n : Next (Inner Y)) (f : Y → SectionDue) (i : Inner SectionDue) → ((y : Y) → Can (f y)) → inner_as f n ≡ go i → InnerCan i
inner_can (go j) f i h e = subst InnerCan (go_same (record { inside = f j.inside; behind = λ w. f (j.behind w) }) i e) (h j.inside, λ o. h (j.behind o))
inner_can (stop code) f i h e = absurd (stops code i e)

list_can : (a b : SectionDue) (i : Inner SectionDue) → Can a → Can b → a_list a b ≡ go i → InnerCan i
list_can a b i c d e = subst InnerCan (go_same (record { inside = a; behind = λ w. b }) i e) (c, λ o. d)

pub section_lists : (d : SectionDue) (i : Inner SectionDue) → Can d → (section_rows d).at_list ≡ go i → InnerCan i
section_lists (of_effect d) i c e = inner_can (effect_rows d).at_list of_effect i (λ y. tt) e
section_lists (of_network d) i c e = inner_can (network_rows d).at_list of_network i (λ y. tt) e
section_lists (group a b) i c e = list_can a b i c.0 c.1 e
section_lists (define l d) i c e = absurd (stops 5 i e)
section_lists (header l domain) i c e = list_can (kind domain) (sections l domain []) i tt refl e
section_lists (header l problem) i c e = absurd c
section_lists (kind d) i c e = absurd (stops 5 i e)
section_lists title i c e = absurd (stops 5 i e)
section_lists title_end i c e = absurd (stops 5 i e)
section_lists (sections l domain seen) i c e = subst InnerCan (go_same (record { inside = section l domain seen; behind = λ w. sections l domain (seen_behind seen w) }) i e) (c, λ o. no_action seen o c)
section_lists (sections l problem seen) i c e = absurd c
section_lists (section l d seen) i c e = absurd (stops 8 i e)
section_lists predicates i c e = list_can predicate predicates i tt tt e
section_lists predicate i c e = absurd (stops 8 i e)
section_lists domain_name i c e = absurd (stops 8 i e)
section_lists facts i c e = list_can fact facts i tt tt e
section_lists fact i c e = absurd (stops 8 i e)
section_lists objects_of_fact i c e = absurd (stops 8 i e)
section_lists value i c e = absurd (stops 8 i e)
section_lists (named p) i c e = absurd (stops 8 i e)
section_lists (parts p seen) i c e = absurd (stops 8 i e)

pub domain_can : (l : Language) → CanBeWhole section_rows (one_list 5 (define l domain)) Can
domain_can l = record {
  ends = section_ends;
  by_word = section_words;
  by_list = section_lists;
  outside_ends = one_ends section_rows 5 (define l domain) (section_ends (define l domain) tt);
  outside_list = by_text;
}
  where
    by_text : (t : OneDue) (i : SectionDue × (Option Word → OneDue)) → (one_list 5 (define l domain) t).at_list ≡ go i → Can i.0
    by_text the_list i e = subst (λ (j : SectionDue × (Option Word → OneDue)). Can j.0) (go_same (define l domain, λ w. the_end) i e) tt
    by_text the_end i e = absurd (stops 8 i e)
