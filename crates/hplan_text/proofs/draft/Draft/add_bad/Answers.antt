use Rattle.std.proofs.Common.{map, refl, sym, subst, [], ◌∷◌, ◌++◌}
use Rattle.std.proofs.lemmas.List.{append-nil}
use Rattle.text_forms.specs.Faults.{fault}
use Rattle.hplan_text.specs.HPlanFaults.{bad_places}
use Rattle.hplan_text.specs.LeastOf.{IsLeastOf}
use Rattle.hplan_text.specs.Rows.{bad}
use Rattle.hplan_text.proofs.Drafted.{put-none, adds-other}
use Rattle.hplan_text.proofs.LeastFound.{least-one}
use Rattle.hplan_text.proofs.draft.Draft.add_bad.Goals as goal

pub returns : goal.returns
returns c =
    let d = c.args.self.now in
    record {
      added = λ ls l h is at. adds-other ls l d _ h bad is refl refl (put-none d.plan.primitives) refl (put-none d.plan.nodes) (put-none d.own.items) (sym (append-nil d.listed.items)) refl
          (subst (λ k. IsLeastOf c.least-self.result (map (fault 31) (bad_places ls) ++ fault 31 k ∷ [])) (sym at)
          (c.least-self.ensures (map (fault 31) (bad_places ls)) (fault 31 c.args.at ∷ []) h.bad_ones (least-one (record { at = c.args.at; code = 31 }))))
          refl;
    }
