use Rattle.std.proofs.Common.{map, refl, ap, subst, ◌∙◌, [], ◌∷◌, ◌++◌}
use Rattle.text_forms.specs.Faults.{fault}
use Rattle.hplan_text.specs.Drafts.{IsTask}
use Rattle.hplan_text.specs.HPlanFaults.{bad_places}
use Rattle.hplan_text.specs.Rows.{decomposed}
use Rattle.hplan_text.specs.Scanning.{lower, mentions_of}
use Rattle.hplan_text.proofs.Drafted.{put-none, adds-other, no-more, same-node}
use Rattle.hplan_text.proofs.draft.Draft.add_node.Goals as goal

pub returns : goal.returns
returns c =
    let d = c.args.self.now in
    record {
      added = λ name args n ls l h is. adds-other ls l d _ h (decomposed c.args.own name args (lower c.args.method) (mentions_of c.args.ids.now)) is refl refl
          (put-none d.plan.primitives) refl
          (c.in_ok-push.ensures.pushed ∙ ap (λ z. d.plan.nodes ++ z ∷ []) (same-node _ _ _ _ _ _ (subst (λ ns. IsTask c.args.own.id ns c.in_ok-line.line) n c.in_ok-line.ensures) c.in_ok-method.ensures c.in_ok-ids.ensures.ids))
          c.in_ok-push-2.ensures.items c.in_ok-ids.ensures.listed refl (no-more d.bad (map (fault 31) (bad_places ls)) h.bad_ones) refl;
    }
