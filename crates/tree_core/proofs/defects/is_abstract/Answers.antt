use Rattle.std.proofs.Common.{refl, ap}
use Rattle.tree_core.specs.Labels.{label_of}
use Rattle.tree_core.proofs.defects.is_abstract.Goals as goal

pub returns-in-Abstract : goal.returns-in-Abstract
returns-in-Abstract c = (λ t. (_, ap label_of c.in-Abstract.is), λ h. refl)
