use Rattle.std.proofs.Common.{◌≡◌, [], subst}
use Rattle.hplan_text.specs.HPlanFaults.{id_faults_of, faults_at, others}
use Rattle.hplan_text.specs.LeastOf.{IsLeastOf}
use Rattle.hplan_text.specs.Marks.{chosen}
use Rattle.hplan_text.proofs.Judged.{owned-in, once-in, judged-tree}
use Rattle.hplan_text.proofs.judging.least_of_ids.Goals as goal

pub reached-requires-clause-once : goal.reached-requires-clause-once
reached-requires-clause-once c =
    let d = c.args.draft.now in
    let none = subst (λ o. IsLeastOf o (id_faults_of c.as_slice-own.result.now c.as_slice.result.now)) c.in_default.is c.in_ok-found.ensures in
    once-in c.requires.lines.0 d c.requires.lines.1 c.args.ids.now c.requires.same (subst (λ z. id_faults_of z d.listed.items ≡ []) c.as_slice-own.ensures.value (subst (λ z. id_faults_of c.as_slice-own.result.now z ≡ []) c.as_slice.ensures.value none))

pub reached-requires-clause-owned : goal.reached-requires-clause-owned
reached-requires-clause-owned c = owned-in c.requires.lines.0 c.args.draft.now c.requires.lines.1 c.args.ids.now c.requires.same

pub returns : goal.returns
returns c =
    let d = c.args.draft.now in
    let ids = c.args.ids.now in
    let found = c.least_other.result in
    let none = subst (λ o. IsLeastOf o (id_faults_of c.as_slice-own.result.now c.as_slice.result.now)) c.in_default.is c.in_ok-found.ensures in
    let none-own = subst (λ z. id_faults_of z d.listed.items ≡ []) c.as_slice-own.ensures.value (subst (λ z. id_faults_of c.as_slice-own.result.now z ≡ []) c.as_slice.ensures.value none) in
    let marks = c.in_ok-reached.reached.items in
    let least = subst (λ z. IsLeastOf found (faults_at 36 (others (chosen ids z) d.own.items))) c.deref.ensures.value
    (subst (λ z. IsLeastOf found (faults_at 36 (others (chosen ids c.deref.result.now) z))) c.as_slice-own.ensures.value c.least_other.ensures.least) in
    record { judged = λ ls h. judged-tree ls d h ids c.requires.same marks found none-own c.in_ok-reached.ensures.reached least }
