-- What was read behind a network's keyword is bound to exactly what it spells.
use Rattle.std.proofs.Common.{◌≡◌, ◌↔◌, ℕ, Ok, List}
use Rattle.text_forms.specs.Lists.{group}
use Rattle.text_forms.specs.Placed.{Placed, parts_of, IsWhole}
use Rattle.text_forms.specs.form_grammar.Networks.{network_rows, subs, pairs, cons}
use Rattle.text_forms.specs.form_grammar.Rows.{form}
use Rattle.text_forms.proofs.form_grammar.Meaning.{form_whole}
use Rattle.plan_texts.specs.Networks.{IsOrdered}
use Rattle.plan_texts.specs.Sections.{bundle}
use Rattle.gd_reader.specs.Terms.{Names, Keeps}
use Rattle.hddl_reader.specs.declared.networks.RawCon.{RawCon}
use Rattle.hddl_reader.specs.declared.networks.RawPair.{RawPair}
use Rattle.hddl_reader.specs.declared.networks.RawSub.{RawSub}
use Rattle.hddl_reader.specs.Networks.{sub_headed, pair_headed, con_headed, some_of}
use Rattle.hddl_reader.proofs.NetworksSaid.{subs_said, pairs_said, cons_said}
use Rattle.text_values.specs.form_spellings.ReadNetworks.{AreReadSubtasks, AreReadPairs, AreReadConstraints}
use Rattle.text_values.proofs.form_spellings.ConstraintsExact.{IsCon, IsReadCon, constraints_exact}
use Rattle.text_values.proofs.form_spellings.ItemsExact.{ListExact}
use Rattle.text_values.proofs.form_spellings.NamesIn.{stands}
use Rattle.text_values.proofs.form_spellings.PairsExact.{IsReadPair, pairs_exact}
use Rattle.text_values.proofs.form_spellings.TermsExact.{ok_whole}
use Rattle.text_values.proofs.form_spellings.SubtasksExact.{IsSub, IsReadSub, subtasks_exact}

-- up to the end
pub with_end : {A B E : Type 0} → E → A ↔ B → A ↔ (E × B)
with_end w h = (λ a. (w, h.0 a), λ b. h.1 b.1)

pub subtasks_read : (place : ℕ) (names left later : Names) (p : Placed) (rs : List RawSub) → some_of sub_headed names place p ≡ Ok (rs, left) → Keeps left later → AreReadSubtasks later rs p
subtasks_read place names left later p rs e k v tasks actions scope cs =
    let w : IsWhole p = form_whole network_rows p subs (ok_whole (some_of sub_headed names place p) (rs, left) (form network_rows subs p) e (subs_said p names place)) in
    with_end w (stands (ListExact IsSub IsReadSub (bundle (group (parts_of p)))) names left (some_of sub_headed names place p) rs e (subtasks_exact p names place) later k (v, tasks, actions, scope) cs)

pub pairs_read : (place : ℕ) (names left later : Names) (p : Placed) (rs : List RawPair) → some_of pair_headed names place p ≡ Ok (rs, left) → Keeps left later → AreReadPairs later rs p
pairs_read place names left later p rs e k ids xs =
    let w : IsWhole p = form_whole network_rows p pairs (ok_whole (some_of pair_headed names place p) (rs, left) (form network_rows pairs p) e (pairs_said p names place)) in
    with_end w (stands (ListExact IsOrdered IsReadPair (bundle (group (parts_of p)))) names left (some_of pair_headed names place p) rs e (pairs_exact p names place) later k ids xs)

pub constraints_read : (place : ℕ) (names left later : Names) (p : Placed) (rs : List RawCon) → some_of con_headed names place p ≡ Ok (rs, left) → Keeps left later → AreReadConstraints later rs p
constraints_read place names left later p rs e k v scope xs =
    let w : IsWhole p = form_whole network_rows p cons (ok_whole (some_of con_headed names place p) (rs, left) (form network_rows cons p) e (cons_said p names place)) in
    with_end w (stands (ListExact IsCon IsReadCon (bundle (group (parts_of p)))) names left (some_of con_headed names place p) rs e (constraints_exact p names place) later k (v, scope) xs)
