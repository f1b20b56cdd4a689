-- Constraints to which what was read is bound are those that its parts spell.
use Rattle.std.proofs.Common.{◌≡◌, ◌∙◌, ◌↔◌, ℕ, Bool, true, false, codes, Ok, Err, List, refl, sym, ap, subst, if◌then◌else◌}
use Rattle.text_forms.specs.Lists.{Part, Parts, name, group, nothing, part}
use Rattle.text_forms.specs.Placed.{Placed, cut, close, word, list, parts_of}
use Rattle.text_forms.specs.Printing.{headed}
use Rattle.text_forms.specs.Words.{Word}
use Rattle.plan_texts.specs.Declared.{Declared}
use Rattle.plan_texts.specs.Networks.{IsEquation, IsConstraintBy, IsConstraint}
use Rattle.plan_texts.specs.Sections.{bundle}
use Rattle.plan_texts.proofs.Basics.{bytes_eq-true}
use Rattle.plan_model.specs.declared.networks.Constraint.{Constraint}
use Rattle.plan_model.specs.declared.terms.Term.{Term}
use Rattle.gd_reader.specs.declared.stop.Stop.TheVariants.{Departs}
use Rattle.gd_reader.specs.declared.term.RawTerm.{RawTerm}
use Rattle.gd_reader.specs.Answers.{◌>>=◌, word_due, list_due, end_due}
use Rattle.gd_reader.specs.Terms.{Names, two_terms}
use Rattle.hddl_reader.specs.declared.networks.RawCon.{RawCon}
use Rattle.hddl_reader.specs.Networks.{is_word, con_of, equation, con_headed, some_of}
use Rattle.text_values.specs.form_spellings.BoundNetworks.{IsBoundConstraint}
use Rattle.text_values.specs.form_spellings.Bound.{IsBoundTerm}
use Rattle.text_values.proofs.form_spellings.KeptWords.{Reads, reads_then, reads_map, reads_weaken, reads_end}
use Rattle.text_values.proofs.form_spellings.ListsWhole.{name_is}
use Rattle.text_values.proofs.form_spellings.PartsWhole.{front_is, back_is, within_is}
use Rattle.text_values.proofs.form_spellings.TermsBound.{PairBound, two_bound}
use Rattle.text_values.proofs.form_spellings.TermsIn.{same}
use Rattle.text_values.proofs.form_spellings.TermsSaid.{PairSaid, two_said}
use Rattle.text_values.proofs.form_spellings.WordTests.{false_true}
use Rattle.text_values.proofs.form_spellings.TermsExact.{reads_both}
use Rattle.text_values.proofs.form_spellings.ItemsExact.{ItemExact, ListExact, some_of_exact}

-- declared words and scope
abbrev pub Terms : Type 0
Terms = Declared × List Word

abbrev pub IsCon : Terms → Constraint → Part → Type 0
IsCon e = IsConstraint e.0 e.1

abbrev pub IsReadCon : Names → Terms → RawCon → Constraint → Type 0
IsReadCon table e = IsBoundConstraint e.0 table e.1

-- two terms behind their sign
abbrev EquationOf : Parts → RawTerm × RawTerm → Names → Type 0
EquationOf ps x table = (v : Declared) (scope : List Word) (s t : Term) → (IsBoundTerm v table scope x.0 s × IsBoundTerm v table scope x.1 t) ↔ IsEquation v scope s t (group ps)

signed_exact : (p : Placed) (w : Word) (names : Names) → w ≡ codes "=" → Reads names (two_terms names p) (EquationOf (part (name w) (parts_of p)))
signed_exact p w names e =
    reads_weaken (λ x table. PairBound p x table × PairSaid p x table) (EquationOf (part (name w) (parts_of p))) names (two_terms names p) (reads_both (PairBound p) (PairSaid p) names (two_terms names p) (two_bound p names) (two_said p names))
    (λ x table h v scope s t. (
      λ b. let g = h.0 v scope s t b.0 b.1 in (g.0, g.1, (λ i. group (part (name (e i)) (g.2 i))), g.3, g.4),
      λ i. h.1 v scope s t i.0 i.1 (back_is (within_is i.2)) i.3 i.4,
    ))

no_equal : {P : Type 0} → codes "=" ≡ codes "not" → P
no_equal e = cc

equal_con : (w : Word) (ps : Parts) (x : RawTerm × RawTerm) (table : Names) → w ≡ codes "=" → EquationOf (part (name w) ps) x table → ItemExact IsCon IsReadCon (part (name w) ps) (con_of true x) table
equal_con w ps x table e is u y = (λ b. to y.equal b.0 (b.1, b.2), λ c. from y.equal c)
  where
    to : (b : Bool) → b ≡ true → IsBoundTerm u.0 table u.1 x.0 y.left × IsBoundTerm u.0 table u.1 x.1 y.right → IsConstraintBy u.0 u.1 b y.left y.right (group (part (name w) ps))
    to true e c = (is u.0 u.1 y.left y.right).0 c
    to false e c = false_true e

    from : (b : Bool) → IsConstraintBy u.0 u.1 b y.left y.right (group (part (name w) ps)) → (b ≡ true) × IsBoundTerm u.0 table u.1 x.0 y.left × IsBoundTerm u.0 table u.1 x.1 y.right
    from true c = let g = (is u.0 u.1 y.left y.right).1 c in (refl, g.0, g.1)
    from false c = no_equal (sym e ∙ name_is (front_is (within_is c.1)))

unequal_con : (w : Word) (qs : Parts) (x : RawTerm × RawTerm) (table : Names) → w ≡ codes "not" → EquationOf qs x table → ItemExact IsCon IsReadCon (part (name w) (part (group qs) nothing)) (con_of false x) table
unequal_con w qs x table e is u y = (λ b. to y.equal b.0 (b.1, b.2), λ c. from y.equal c)
  where
    to : (b : Bool) → b ≡ false → IsBoundTerm u.0 table u.1 x.0 y.left × IsBoundTerm u.0 table u.1 x.1 y.right → IsConstraintBy u.0 u.1 b y.left y.right (group (part (name w) (part (group qs) nothing)))
    to true e c = false_true (sym e)
    to false f c = (group qs, ap (λ w. headed w (part (group qs) nothing)) e, (is u.0 u.1 y.left y.right).0 c)

    from : (b : Bool) → IsConstraintBy u.0 u.1 b y.left y.right (group (part (name w) (part (group qs) nothing))) → (b ≡ false) × IsBoundTerm u.0 table u.1 x.0 y.left × IsBoundTerm u.0 table u.1 x.1 y.right
    from true c = no_equal (sym (name_is (front_is (within_is c.2))) ∙ e)
    from false c = let g = (is u.0 u.1 y.left y.right).1 (subst (IsEquation u.0 u.1 y.left y.right) (sym (front_is (back_is (within_is c.1)))) c.2) in (refl, g.0, g.1)

equation_exact : (p : Placed) (names : Names) → Reads names (equation names p) (EquationOf (parts_of p))
unfolding equation word_due
equation_exact cut names = tt
equation_exact (close at) names = tt
equation_exact (list at p q) names = tt
equation_exact (word at w p) names = go (is_word (codes "=") w) refl
  where
    go : (b : Bool) → is_word (codes "=") w ≡ b → Reads names (if b then two_terms names p else Err (Departs 8 at)) (EquationOf (part (name w) (parts_of p)))
    go true e = signed_exact p w names (bytes_eq-true w (codes "=") e)
    go false e = tt

differ_exact : (p : Placed) (w : Word) (names : Names) → w ≡ codes "not" → Reads names (list_due p >>= (λ g. equation names g.0 >>= (λ t. end_due g.1 >>= (λ _. Ok (con_of false t.0, t.1))))) (ItemExact IsCon IsReadCon (part (name w) (parts_of p)))
unfolding list_due
differ_exact cut w names e = tt
differ_exact (close at) w names e = tt
differ_exact (word at u p) w names e = tt
differ_exact (list at p q) w names e =
    reads_then same (EquationOf (parts_of p)) (ItemExact IsCon IsReadCon (part (name w) (part (group (parts_of p)) (parts_of q)))) names (equation names p) (λ t. end_due q >>= (λ _. Ok (con_of false t.0, t.1))) (equation_exact p names)
    (λ t. reads_end (λ c table. EquationOf (parts_of p) t.0 table → ItemExact IsCon IsReadCon (part (name w) (part (group (parts_of p)) (parts_of q))) c table) q (con_of false t.0, t.1)
    (λ f table is. subst (λ ps. ItemExact IsCon IsReadCon (part (name w) (part (group (parts_of p)) ps)) (con_of false t.0) table) (sym f) (unequal_con w (parts_of p) t.0 table e is)))

con_exact : (names : Names) (place at : ℕ) (w : Word) (p : Placed) → Reads names (con_headed names place at w p) (ItemExact IsCon IsReadCon (part (name w) (parts_of p)))
unfolding con_headed
con_exact names place at w p = go (is_word (codes "=") w) refl (is_word (codes "not") w) refl
  where
    go : (a : Bool) → is_word (codes "=") w ≡ a → (b : Bool) → is_word (codes "not") w ≡ b
        → Reads names (if a then two_terms names p >>= (λ t. Ok (con_of true t.0, t.1)) else (if b then list_due p >>= (λ g. equation names g.0 >>= (λ t. end_due g.1 >>= (λ _. Ok (con_of false t.0, t.1)))) else Err (Departs 8 at)))
        (ItemExact IsCon IsReadCon (part (name w) (parts_of p)))
    go true e b f =
        let g = bytes_eq-true w (codes "=") e in
        reads_map (EquationOf (part (name w) (parts_of p))) (ItemExact IsCon IsReadCon (part (name w) (parts_of p))) names (two_terms names p) (con_of true) (signed_exact p w names g) (λ x table is. equal_con w (parts_of p) x table g is)
    go false e true f = differ_exact p w names (bytes_eq-true w (codes "not") f)
    go false e false f = tt

pub constraints_exact : (p : Placed) (names : Names) (place : ℕ) → Reads names (some_of con_headed names place p) (ListExact IsCon IsReadCon (bundle (group (parts_of p))))
constraints_exact = some_of_exact IsCon IsReadCon con_headed con_exact
