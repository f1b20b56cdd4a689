use Rattle.std.proofs.Common.{map, refl, sym, ap, subst, ◌∙◌, [], ◌∷◌, ◌++◌}
use Rattle.std.proofs.lemmas.List.{append-nil}
use Rattle.text_forms.specs.Faults.{fault}
use Rattle.hplan_text.specs.Drafts.{IsTask}
use Rattle.hplan_text.specs.HPlanFaults.{bad_places}
use Rattle.hplan_text.specs.Rows.{primitive}
use Rattle.hplan_text.proofs.Drafted.{put-none, adds-other, no-more}
use Rattle.hplan_text.proofs.draft.Draft.add_primitive.Goals as goal

pub returns : goal.returns
returns c =
    let d = c.args.self.now in
    record {
      added = λ name args n ls l h is. adds-other ls l d _ h (primitive c.args.own name args) is refl refl
          (c.in_ok-push.ensures.pushed ∙ ap (λ z. d.plan.primitives ++ z ∷ []) (subst (λ ns. IsTask c.args.own.id ns c.in_ok-line.line) n c.in_ok-line.ensures))
          refl (put-none d.plan.nodes) c.in_ok-push-2.ensures.items (sym (append-nil d.listed.items)) refl (no-more d.bad (map (fault 31) (bad_places ls)) h.bad_ones) refl;
    }
