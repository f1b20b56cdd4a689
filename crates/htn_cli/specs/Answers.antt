-- The answer of a run, from its words and from what is got of its inputs: the first refusal that applies, in the order of refusals, or else
-- its output. Where the files don't tell what they hold, any bytes may be what they hold.
-- Source: this project's.
use Rattle.std.specs.Prelude.{ℕ, ◌≡◌, ◌≤◌, ◌⊎◌, List, [], ◌∷◌, Some, length}
use Rattle.htn_base.specs.Limits.{longest_output}
use Rattle.hddl_reader.specs.declared.sections.Language.TheVariants as language
use Rattle.outside_io.specs.Files.{FilesState}
use Rattle.text_values.specs.TextFaults.{IsLeastFault}
use Rattle.made_transport.specs.Made.{made_domain}
use Rattle.command_words.specs.Names.{Word}
use Rattle.command_words.specs.Words.{Request, to_translate, to_bound, to_decode, to_encode, to_validate, to_make, to_prune, Asks, AreOfAForm}
use Rattle.htn_cli.specs.Answer.{Output, Answer, refuses, gives}
use Rattle.htn_cli.specs.Bounding.{RefusesBound, GivesBound}
use Rattle.htn_cli.specs.Faults.{IsNoLimit, limit_code, IsFaultAt}
use Rattle.htn_cli.specs.Inputs.{AreGot, AreWhole, EndTooLarge}
use Rattle.htn_cli.specs.Requests.{inputs_of, names_told, slots_given, most_slots_of, IsWithin}
use Rattle.htn_cli.specs.Slots.{RefusesSlots}
use Rattle.htn_cli.specs.Translation.{RefusesTranslation, GivesTranslation}
use Rattle.htn_cli.specs.Decoding.{RefusesDecode, GivesTree}
use Rattle.htn_cli.specs.Encoding.{RefusesEncode, GivesSteps}
use Rattle.htn_cli.specs.LeastFaults.{IsLeastWithPlan, IsLeastWithHPlan}
use Rattle.htn_cli.specs.Validation.{RefusesPlan, GivesPlan}
use Rattle.htn_cli.specs.Making.{problem_of, RefusesMake, GivesMake}
use Rattle.htn_cli.specs.Pruning.{RefusesPrune, GivesPrune}
use Rattle.htn_cli.specs.declared.refusal.Limit.TheVariants as limit
use Rattle.htn_cli.specs.declared.refusal.Refusal.{Refusal}
use Rattle.htn_cli.specs.declared.refusal.Refusal.TheVariants as refused

-- Three equations a command, over the texts of all its inputs. One that makes its texts has none.

-- their least fault
abbrev pub IsLeastOf : Request → List (List ℕ) → (file code at : ℕ) → Type 0
IsLeastOf (to_translate r) (d ∷ p ∷ []) = IsLeastFault language.Hddl d p
IsLeastOf (to_bound r) (d ∷ p ∷ []) = IsLeastFault language.Hddl d p
IsLeastOf (to_decode r) (d ∷ p ∷ plan ∷ []) = IsLeastWithPlan language.Hddl d p plan
IsLeastOf (to_encode r) (d ∷ p ∷ hplan ∷ []) = IsLeastWithHPlan d p hplan
IsLeastOf (to_validate r) (d ∷ p ∷ plan ∷ []) = IsLeastWithPlan language.Pddl d p plan
IsLeastOf (to_make r) [] = IsLeastFault language.Hddl made_domain (problem_of r)
IsLeastOf (to_prune r) (d ∷ p ∷ []) = IsLeastFault language.Hddl d p
IsLeastOf _ _ = λ file code at. ⊥

-- its refusals, where they have none
abbrev pub Refuses : Request → List (List ℕ) → Refusal → Type 0
Refuses (to_translate r) (d ∷ p ∷ []) = RefusesTranslation r d p
Refuses (to_bound r) (d ∷ p ∷ []) = RefusesBound r d p
Refuses (to_decode r) (d ∷ p ∷ plan ∷ []) = RefusesDecode r d p plan
Refuses (to_encode r) (d ∷ p ∷ hplan ∷ []) = RefusesEncode r d p hplan
Refuses (to_validate r) (d ∷ p ∷ plan ∷ []) = RefusesPlan d p plan
Refuses (to_make r) [] = RefusesMake r
Refuses (to_prune r) (d ∷ p ∷ []) = RefusesPrune d p
Refuses _ _ = λ refusal. ⊥

-- and its output
abbrev pub Gives : Request → List (List ℕ) → Output → Type 0
Gives (to_translate r) (d ∷ p ∷ []) = GivesTranslation r d p
Gives (to_bound r) (d ∷ p ∷ []) = GivesBound r d p
Gives (to_decode r) (d ∷ p ∷ plan ∷ []) = GivesTree r d p plan
Gives (to_encode r) (d ∷ p ∷ hplan ∷ []) = GivesSteps r d p hplan
Gives (to_validate r) (d ∷ p ∷ plan ∷ []) = GivesPlan d p plan
Gives (to_make r) [] = GivesMake r
Gives (to_prune r) (d ∷ p ∷ []) = GivesPrune r d p
Gives _ _ = λ output. ⊥

-- of any command
module _ (request : Request) (texts : List (List ℕ)) where
  -- the refusal of texts with a least fault
  abbrev pub RefusesFault : Refusal → Type 0
  RefusesFault (refused.Fault place code) = IsFaultAt (names_told request) (IsLeastOf request texts) place code × IsNoLimit code
  RefusesFault (refused.Limit (limit.Text counted place)) =
      IsFaultAt (names_told request) (IsLeastOf request texts) place (limit_code counted)
  RefusesFault _ = ⊥

  -- the refusal of texts, the last of which is too large
  abbrev pub RefusesSize : Refusal → Type 0
  RefusesSize (refused.Limit (limit.Bytes name)) = EndTooLarge (inputs_of request) texts name.now
  RefusesSize _ = ⊥

  -- these are the texts of all inputs
  abbrev pub AreAll : Type 0
  AreAll = AreWhole (inputs_of request) texts

  -- the answer, where these texts were got of the inputs, one after another. A number of slots that is given and past a limit is refused
  -- before the first, and no more are got than the first that is too large. What is told has a limit of bytes, as the text of a file has.
  pub data IsAnswerFor : Answer → Type 0 where
    past_slots : (n : ℕ) (refusal : Refusal) → texts ≡ [] → slots_given request ≡ Some n
        → RefusesSlots (most_slots_of request) n refusal → IsAnswerFor (refuses refusal)
    too_large : (refusal : Refusal) → IsWithin request → RefusesSize refusal → IsAnswerFor (refuses refusal)
    faulty : (refusal : Refusal) → IsWithin request → AreAll → RefusesFault refusal → IsAnswerFor (refuses refusal)
    declined : (refusal : Refusal) → IsWithin request → AreAll → Refuses request texts refusal → IsAnswerFor (refuses refusal)
    given : (output : Output) → IsWithin request → AreAll → Gives request texts output → length output.told ≤ longest_output
        → IsAnswerFor (gives output)

-- the answer to a request over what the files hold
pub record IsAnswer (request : Request) (files : FilesState) (answer : Answer) : Type 0 where
  pub texts : List (List ℕ)
  pub got : AreGot files (inputs_of request) texts
  pub answers : IsAnswerFor request texts answer

-- the answer to words
abbrev pub IsAnswerTo : List Word → FilesState → Answer → Type 0
IsAnswerTo words files answer =
    ((AreOfAForm words → ⊥) × (answer ≡ refuses refused.Words))
    ⊎ ((request : Request) × Asks words request × IsAnswer request files answer)
