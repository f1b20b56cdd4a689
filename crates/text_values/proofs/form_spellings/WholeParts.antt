-- The two grammars of tasks, methods, actions, predicates and a problem's network are one.
use Rattle.std.proofs.Common.{[], refl, sym, subst}
use Rattle.std.specs.Prelude.{◌↔◌}
use Rattle.text_forms.specs.Lists.{Parts, group}
use Rattle.text_forms.specs.Placed.{Placed, cut, close, word, list, parts_of, IsWhole}
use Rattle.text_forms.specs.form_grammar.Codes.{Whole}
use Rattle.text_forms.specs.form_grammar.Lists as due
use Rattle.text_forms.specs.form_grammar.Rows.{form}
use Rattle.text_forms.specs.form_grammar.Sections.{section_rows, Parted, task, method, action, network, parts, named, predicate, typed}
use Rattle.text_forms.proofs.form_grammar.Meaning.{form_whole}
use Rattle.gd_reader.specs.declared.typed_lists.ListKind.TheVariants.{Predicate}
use Rattle.plan_texts.specs.Formulas.{IsParam}
use Rattle.plan_texts.specs.TypedLists.{EachTyped}
use Rattle.text_values.specs.form_spellings.SpellsSomeParts.{AreTaskParts, AreMethodParts, AreActionParts, AreNetworkParts, AreNamed, IsSomePredicate, SpellsSomeTask, SpellsSomeMethod, SpellsSomeAction, SpellsSomeTop, SpellsSomePredicate}
use Rattle.text_values.proofs.form_spellings.NetworksWhole.{in_front}
use Rattle.text_values.proofs.form_spellings.PartsListed.{Listed, pieces, all_left, listed_to, listed_from}
use Rattle.text_values.proofs.form_spellings.PartsWhole.{within_is}
use Rattle.text_values.proofs.form_spellings.Pieces.{list_kept, list_same}
use Rattle.text_values.proofs.form_spellings.RowTests.{declared_then, then_declared}
use Rattle.text_values.proofs.form_spellings.WholeForms.{whole_lists}

task_listed : (ps : Parts) → Listed (pieces task) ps ↔ AreTaskParts ps
task_listed ps = (λ l. record { form = l.0; params = l.1.0; no_pre = l.1.1.0; no_eff = l.1.1.1.0 }, λ r. (r.form, (r.params, (r.no_pre, (r.no_eff, tt)))))

method_listed : (ps : Parts) → Listed (pieces method) ps ↔ AreMethodParts ps
method_listed ps = (
  λ l. record { form = l.0; params = l.1.0; head = l.1.1.0; pre = l.1.1.1.0; network = record { children = l.1.1.1.1.0; pairs = l.1.1.1.1.1.0; limits = l.1.1.1.1.1.1.0 } },
  λ r. (r.form, (r.params, (r.head, (r.pre, (r.network.children, (r.network.pairs, (r.network.limits, tt))))))),
)

action_listed : (ps : Parts) → Listed (pieces action) ps ↔ AreActionParts ps
action_listed ps = (λ l. record { form = l.0; params = l.1.0; pre = l.1.1.0; eff = l.1.1.1.0 }, λ r. (r.form, (r.params, (r.pre, (r.eff, tt)))))

network_listed : (ps : Parts) → Listed (pieces network) ps ↔ AreNetworkParts ps
network_listed ps = (
  λ l. record { form = l.0; params = l.1.0; network = record { children = l.1.1.0; pairs = l.1.1.1.0; limits = l.1.1.1.1.0 } },
  λ r. (r.form, (r.params, (r.network.children, (r.network.pairs, (r.network.limits, tt))))),
)

module _ (p : Parted) (Are : Parts → Type 0) (same : (ps : Parts) → Listed (pieces p) ps ↔ Are ps) where
  parts_to : (q : Placed) → Whole (form section_rows (parts p []) q) → Are (parts_of q)
  parts_to q h = (same (parts_of q)).0 (listed_to q p [] (pieces p) (all_left p) h)

  parts_from : (q : Placed) → IsWhole q → Are (parts_of q) → Whole (form section_rows (parts p []) q)
  parts_from q w a = listed_from q p [] (pieces p) (all_left p) w ((same (parts_of q)).1 a)

  named_to : (q : Placed) → Whole (form section_rows (named p) q) → AreNamed Are (parts_of q)
  named_to cut h = absurd h
  named_to (close at) h = absurd h
  named_to (list at S T) h = absurd h
  named_to (word at w r) h = let d = then_declared section_rows w 8 (parts p []) at r h in (w, parts_of r, refl, d.0, parts_to r d.1)

  named_from : (q : Placed) → IsWhole q → AreNamed Are (parts_of q) → Whole (form section_rows (named p) q)
  named_from q w a =
      in_front (λ q. Whole (form section_rows (named p) q)) q a.0 a.1 w a.2 (λ at r w e. declared_then section_rows a.0 8 (parts p []) at r a.3 (parts_from r w (subst Are (sym e) a.4)))

  pub named_exact : (q : Placed) → Whole (form section_rows (named p) q) ↔ (IsWhole q × AreNamed Are (parts_of q))
  named_exact q = (λ h. (form_whole section_rows q (named p) h, named_to q h), λ a. named_from q a.0 a.1)

  pub parts_exact : (q : Placed) → Whole (form section_rows (parts p []) q) ↔ (IsWhole q × Are (parts_of q))
  parts_exact q = (λ h. (form_whole section_rows q (parts p []) h, parts_to q h), λ a. parts_from q a.0 a.1)

pub whole_tasks : (q : Placed) → Whole (form section_rows (named task) q) ↔ SpellsSomeTask q
whole_tasks = named_exact task AreTaskParts task_listed

pub whole_methods : (q : Placed) → Whole (form section_rows (named method) q) ↔ SpellsSomeMethod q
whole_methods = named_exact method AreMethodParts method_listed

pub whole_actions : (q : Placed) → Whole (form section_rows (named action) q) ↔ SpellsSomeAction q
whole_actions = named_exact action AreActionParts action_listed

pub whole_tops : (q : Placed) → Whole (form section_rows (parts network []) q) ↔ SpellsSomeTop q
whole_tops = parts_exact network AreNetworkParts network_listed

predicate_to : (q : Placed) → Whole (form section_rows predicate q) → IsSomePredicate (group (parts_of q))
predicate_to cut h = absurd h
predicate_to (close at) h = absurd h
predicate_to (list at S T) h = absurd h
predicate_to (word at w r) h =
    let d = then_declared section_rows w 8 (typed due.of_predicate) at r h in
    let s = (whole_lists Predicate r).0 ((list_same Predicate r).whole.1 (subst Whole (list_kept (due.names due.of_predicate []) r) d.1)) in
    (w, parts_of r, refl, d.0, (s.0, s.1, s.2.1))

predicate_from : (q : Placed) → IsWhole q → IsSomePredicate (group (parts_of q)) → Whole (form section_rows predicate q)
predicate_from q w (k, ps, e, n, (v, xs, i)) =
    in_front (λ q. Whole (form section_rows predicate q)) q k ps w (within_is e)
    (λ at r w e. declared_then section_rows k 8 (typed due.of_predicate) at r n
    (subst Whole (sym (list_kept (due.names due.of_predicate []) r)) ((list_same Predicate r).whole.0 ((whole_lists Predicate r).1 (v, xs, (w, subst (EachTyped (IsParam v) xs) (sym e) i))))))

pub whole_predicates : (q : Placed) → Whole (form section_rows predicate q) ↔ SpellsSomePredicate q
whole_predicates q = (λ h. (form_whole section_rows q predicate h, predicate_to q h), λ s. predicate_from q s.0 s.1)
