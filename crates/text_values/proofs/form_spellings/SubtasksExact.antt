-- Subtasks to which what was read is bound are those that its parts spell.
use Rattle.std.proofs.Common.{◌≡◌, ◌∙◌, ◌↔◌, ℕ, Ok, List, [], ◌∷◌, Option, Some, None, sym, ap, subst}
use Rattle.htn_base.specs.declared.name.Name.{Name as Numbered}
use Rattle.text_forms.specs.Lists.{Part, Parts, name, group, nothing, part}
use Rattle.text_forms.specs.Placed.{Placed, cut, close, word, list, parts_of}
use Rattle.text_forms.specs.Printing.{headed}
use Rattle.text_forms.specs.Words.{Word, is_name, first_place}
use Rattle.plan_texts.specs.Declared.{Declared}
use Rattle.plan_texts.specs.Formulas.{IsTerm}
use Rattle.plan_texts.specs.Networks.{head_of, IsCall, IsSubtaskBy, IsSubtask}
use Rattle.plan_texts.specs.Sections.{bundle}
use Rattle.plan_texts.specs.TypedLists.{Each}
use Rattle.plan_model.specs.declared.networks.Child.{Child}
use Rattle.plan_model.specs.declared.networks.Head.{Head}
use Rattle.plan_model.specs.declared.terms.Term.{Term}
use Rattle.plan_model.specs.declared.terms.Term.TheVariants.{Var, Obj}
use Rattle.gd_reader.specs.declared.term.RawAtom.{RawAtom}
use Rattle.gd_reader.specs.declared.term.RawTerm.{RawTerm}
use Rattle.gd_reader.specs.Answers.{◌>>=◌, end_due}
use Rattle.gd_reader.specs.Terms.{Names, terms, applied}
use Rattle.gd_reader.proofs.Keeping.{keeps_same}
use Rattle.hddl_reader.specs.declared.networks.RawSub.{RawSub}
use Rattle.hddl_reader.specs.Networks.{declared, behind_name, sub_headed, some_of}
use Rattle.text_values.specs.form_spellings.BoundNetworks.{IsBoundId, IsBoundCall, IsBoundSubtask}
use Rattle.text_values.proofs.form_spellings.KeptWords.{Reads, reads_then, reads_map, reads_end}
use Rattle.text_values.proofs.form_spellings.ListsWhole.{name_is, no_group}
use Rattle.text_values.proofs.form_spellings.PartsWhole.{front_is, back_is, within_is, no_part}
use Rattle.text_values.proofs.form_spellings.TermsBound.{NameBound}
use Rattle.text_values.proofs.form_spellings.TermsIn.{same}
use Rattle.text_values.proofs.form_spellings.TermsExact.{TermsExact, terms_exact, declared_bound, CalledExact, called_exact, applied_called}
use Rattle.text_values.proofs.form_spellings.ItemsExact.{ItemExact, ListExact, some_of_exact}

-- tasks and actions share one space of names
abbrev callee : List Word × List Word → Word → Option Head
callee e u = head_of (first_place u e.0) (first_place u e.1)

-- a subtask in its parentheses
abbrev SubOf : Parts → Option RawTerm × RawAtom → Names → Type 0
SubOf ps x table = (v : Declared) (tasks actions scope : List Word) (c : Child) → (IsBoundId v table x.0 c.id × IsBoundCall v table tasks actions scope x.1 c.head c.args) ↔ IsSubtask v tasks actions scope c (group ps)

-- no list is a term
no_term : (v : Declared) (scope : List Word) (xs : List Term) (qs ps : Parts) → Each (IsTerm v scope) xs (part (group qs) ps) → ⊥
no_term v scope [] qs ps e = e
no_term v scope (Var k ∷ xs) qs ps e = no_group e.0.1
no_term v scope (Obj o ∷ xs) qs ps e = no_group e.0.1

-- behind the word there is no list
abbrev NoList : Parts → Type 0
NoList ps = (qs : Parts) → ps ≡ part (group qs) nothing → ⊥

plain_sub : (w : Word) (ps : Parts) (t : RawTerm) (ts : List RawTerm) (table : Names) → NoList ps → NameBound w t table → TermsExact ps ts table → SubOf (part (name w) ps) (None, record { head = t; args = ts }) table
plain_sub w ps t ts table no_list one is v tasks actions scope c = (λ b. to c.id b.0 b.1, λ s. from c.id s)
  where
    call : IsBoundCall v table tasks actions scope (record { head = t; args = ts }) c.head c.args ↔ IsCall v tasks actions scope c.head c.args (group (part (name w) ps))
    call = called_exact callee w ps t ts table one is v (tasks, actions) scope c.head c.args

    to : (o : Option Numbered) → IsBoundId v table None o → IsBoundCall v table tasks actions scope (record { head = t; args = ts }) c.head c.args → IsSubtaskBy v tasks actions scope o c.head c.args (group (part (name w) ps))
    to None i b = call.0 b
    to (Some n) i b = absurd i

    from : (o : Option Numbered) → IsSubtaskBy v tasks actions scope o c.head c.args (group (part (name w) ps)) → IsBoundId v table None o × IsBoundCall v table tasks actions scope (record { head = t; args = ts }) c.head c.args
    from None s = (tt, call.1 s)
    from (Some n) s = absurd (no_list s.0 (back_is (within_is s.1)))

named_sub : (w : Word) (qs : Parts) (t : RawTerm) (a : RawAtom) (table : Names) → NameBound w t table → CalledExact callee (group qs) a table → SubOf (part (name w) (part (group qs) nothing)) (Some t, a) table
named_sub w qs t a table one is v tasks actions scope c = (λ b. to c.id b.0 b.1, λ s. from c.id s)
  where
    to : (o : Option Numbered) → IsBoundId v table (Some t) o → IsBoundCall v table tasks actions scope a c.head c.args → IsSubtaskBy v tasks actions scope o c.head c.args (group (part (name w) (part (group qs) nothing)))
    to None i b = absurd i
    to (Some n) i b = let e = i ∙ one.0 in (qs, ap (λ u. headed u (part (group qs) nothing)) (sym e), ap is_name e ∙ one.1, (is v (tasks, actions) scope c.head c.args).0 b)

    from : (o : Option Numbered) → IsSubtaskBy v tasks actions scope o c.head c.args (group (part (name w) (part (group qs) nothing))) → IsBoundId v table (Some t) o × IsBoundCall v table tasks actions scope a c.head c.args
    from None s = absurd (no_term v scope c.args qs nothing (subst (Each (IsTerm v scope) c.args) (sym (back_is (within_is s.2))) s.5))
    from (Some n) s =
        let e = within_is s.1 in
        (sym (one.0 ∙ name_is (front_is e)), (is v (tasks, actions) scope c.head c.args).1 (subst (λ ps. IsCall v tasks actions scope c.head c.args (group ps)) (sym (within_is (front_is (back_is e)))) s.3))

behind_exact : (p : Placed) (w : Word) (head : RawTerm) (names : Names) → Reads names (behind_name head names p) (λ x table. NameBound w head table → SubOf (part (name w) (parts_of p)) x table)
unfolding behind_name
behind_exact cut w head names = tt
behind_exact (close at) w head names = (keeps_same names, λ table k one. plain_sub w nothing head [] table (λ qs e. no_part e) one (none table))
  where
    none : (table : Names) → TermsExact nothing [] table
    none table v scope [] = (λ b. tt, λ b. tt)
    none table v scope (x ∷ xs) = (λ b. absurd b, λ b. absurd b)
behind_exact (word at u p) w head names =
    reads_map (TermsExact (parts_of (word at u p))) (λ x table. NameBound w head table → SubOf (part (name w) (parts_of (word at u p))) x table) names (terms names (word at u p)) (λ ts. (None, record { head = head; args = ts })) (terms_exact (word at u p) names)
    (λ ts table is one. plain_sub w (parts_of (word at u p)) head ts table (λ qs e. no_group (sym (front_is e))) one is)
behind_exact (list at p q) w head names =
    reads_then same (CalledExact callee (group (parts_of p))) (λ x table. NameBound w head table → SubOf (part (name w) (part (group (parts_of p)) (parts_of q))) x table) names (applied names p) (λ a. end_due q >>= (λ _. Ok ((Some head, a.0), a.1))) (applied_called callee p names)
    (λ a. reads_end (λ x table. CalledExact callee (group (parts_of p)) a.0 table → NameBound w head table → SubOf (part (name w) (part (group (parts_of p)) (parts_of q))) x table) q ((Some head, a.0), a.1)
    (λ e table is one. subst (λ ps. SubOf (part (name w) (part (group (parts_of p)) ps)) (Some head, a.0) table) (sym e) (named_sub w (parts_of p) head a.0 table one is)))

-- declared words, tasks, actions, scope
abbrev pub Calls : Type 0
Calls = Declared × List Word × List Word × List Word

abbrev pub IsSub : Calls → Child → Part → Type 0
IsSub e = IsSubtask e.0 e.1 e.2 e.3

abbrev pub IsReadSub : Names → Calls → RawSub → Child → Type 0
IsReadSub table e = IsBoundSubtask e.0 table e.1 e.2 e.3

sub_exact : (names : Names) (place at : ℕ) (w : Word) (p : Placed) → Reads names (sub_headed names place at w p) (ItemExact IsSub IsReadSub (part (name w) (parts_of p)))
unfolding sub_headed
sub_exact names place at w p =
    reads_then same (NameBound w) (ItemExact IsSub IsReadSub (part (name w) (parts_of p))) names (declared 8 names at w) (λ h. behind_name h.0 h.1 p >>= (λ x. Ok (record { id = x.0.0; atom = x.0.1; at = place }, x.1))) (declared_bound 8 names at w)
    (λ h. reads_map (λ x table. NameBound w h.0 table → SubOf (part (name w) (parts_of p)) x table) (λ x table. NameBound w h.0 table → ItemExact IsSub IsReadSub (part (name w) (parts_of p)) x table) h.1 (behind_name h.0 h.1 p)
    (λ x. record { id = x.0; atom = x.1; at = place }) (behind_exact p w h.0 h.1) (λ x table is one e c. is one e.0 e.1 e.2 e.3 c))

pub subtasks_exact : (p : Placed) (names : Names) (place : ℕ) → Reads names (some_of sub_headed names place p) (ListExact IsSub IsReadSub (bundle (group (parts_of p))))
subtasks_exact = some_of_exact IsSub IsReadSub sub_headed sub_exact
