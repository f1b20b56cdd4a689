use Rattle.std.proofs.Common.{◌∙◌, map, drop}
use Rattle.text_forms.specs.Faults.{fault}
use Rattle.hplan_text.specs.HPlanFaults.{bad_places, top_places, no_root}
use Rattle.hplan_text.proofs.Drafted.{same-some}
use Rattle.hplan_text.proofs.judging.least_line.Goals as goal

pub returns : goal.returns
returns c = λ ls h. (let root = c.root_fault.ensures (top_places ls) (h.rooted ∙ same-some ls) in
    let seconds = c.least.ensures (map (fault 31) (drop 1 (top_places ls))) (no_root (top_places ls) c.args.end) h.second root in
    c.least-2.ensures (map (fault 31) (bad_places ls)) _ h.bad_ones seconds)
