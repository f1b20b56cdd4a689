-- The ground methods that fit the lines of a plan are the same over two compiled values of the same texts.
use Rattle.std.proofs.Common.{ℕ, List, [], ◌∷◌, Option, Some, None, sym, subst, ◌∙◌, Contains}
use Rattle.plan_texts.specs.Types.{EachIs}
use Rattle.plan_model.specs.declared.values.Compiled.{Compiled}
use Rattle.plan_model.specs.plan_meaning.Network.{Work, action, check, task, GroundMethod}
use Rattle.hplan_text.specs.declared.values.HNode.{HNode}
use Rattle.hplan_text.specs.declared.values.HPlan.{HPlan}
use Rattle.schedules.specs.latest.PlanLines.{SplitLine, PlanLines}
use Rattle.plan_encoder.specs.Calls.{Call, Decomposed, split_of, lines_of}
use Rattle.plan_encoder.specs.Records.{IsLineOf, AreLinesOf, Fits, FitsRoot}
use Rattle.placements.specs.Matching.{IsFitted, IsUnmatched}
use Rattle.decode_answers.proofs.AlikeValues.{AreTwins, twins_back}
use Rattle.decode_answers.proofs.AlikeReaders.{head_same, ground_to, alike_readers}
use Rattle.encode_answers.proofs.AlikeLines.{call_same, split_same, subtasks_same}

module _ (c d : Compiled) (t : AreTwins c d) where
  module _ (plan : PlanLines ℕ Call Decomposed) where
    line_to : (i : ℕ) (w : Work) → IsLineOf c plan i w → IsLineOf d plan i w
    line_to i (action a args) x = subst (λ z. Contains plan.steps (record { id = i; step = z })) (call_same c d t (action a args)) x
    line_to i (task k args) (l, has, e, f) = (l, has, e, f ∙ call_same c d t (task k args))
    line_to i (check m values) x = x

    lines_to : (is : List ℕ) (ws : List Work) → AreLinesOf c plan is ws → AreLinesOf d plan is ws
    lines_to [] [] x = tt
    lines_to (i ∷ is) (w ∷ ws) x = (line_to i w x.0, lines_to is ws x.1)
    lines_to [] (w ∷ ws) x = absurd x
    lines_to (i ∷ is) [] x = absurd x

    fits_to : (l : SplitLine ℕ Decomposed) (g : GroundMethod) → Fits c plan l g → Fits d plan l g
    fits_to l g x = record {
      ground = ground_to c d t g x.ground;
      says = sym (split_same c d t g) ∙ x.says;
      children = subst (AreLinesOf d plan l.children) (subtasks_same c d t g) (lines_to l.children _ x.children);
    }

    fits_root_to : (g : GroundMethod) → FitsRoot c plan g → FitsRoot d plan g
    fits_root_to g x = record {
      ground = ground_to c d t g x.ground;
      head = sym (head_same c d t g) ∙ x.head ∙ (alike_readers c d t).top;
      children = subst (AreLinesOf d plan plan.root) (subtasks_same c d t g) (lines_to plan.root _ x.children);
    }

-- the first line that none fits
module _ (c d : Compiled) (t : AreTwins c d) (plan : HPlan) where
  fitted_to : (nodes : List HNode) → EachIs (IsFitted c plan) nodes → EachIs (IsFitted d plan) nodes
  fitted_to [] x = tt
  fitted_to (node ∷ nodes) x = ((x.0.0, fits_to c d t (lines_of plan) (split_of node) x.0.0 x.0.1), fitted_to nodes x.1)

  pub unmatched_to : (id : Option ℕ) → IsUnmatched c plan id → IsUnmatched d plan id
  unmatched_to None x = λ g f. x g (fits_root_to d c (twins_back c d t) (lines_of plan) g f)
  unmatched_to (Some id) (before, node, x, e) = (
    before,
    node,
    record {
      root = (x.root.0, fits_root_to c d t (lines_of plan) x.root.0 x.root.1);
      rest = x.rest;
      parts = x.parts;
      fitted = fitted_to before x.fitted;
      unfitted = λ g f. x.unfitted g (fits_to d c (twins_back c d t) (lines_of plan) (split_of node) g f);
    },
    e,
  )
