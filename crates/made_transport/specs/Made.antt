-- The made problem of k packages: a domain, a problem, and the hierarchical plan that delivers the packages one after the other.
-- Source: this project's, after Transport, a domain of the International Planning Competition, which it isn't.
use Rattle.std.specs.Prelude.{ℕ, zero, suc, ◌≡◌, ◌+◌, ◌-◌, ◌*◌, List, [], ◌∷◌, ◌++◌, map, codes, decimal}
use Rattle.std.specs.List.{flat_map}
use Rattle.plan_model.specs.task_networks.Spelling.{numbers}
use Rattle.hplan_text.specs.declared.values.HLine.{HLine}
use Rattle.hplan_text.specs.declared.values.HNode.{HNode}
use Rattle.hplan_text.specs.declared.values.HPlan.{HPlan}
use Rattle.made_transport.specs.declared.values.Made.{Made}

-- the lines, each ended by a newline
abbrev pub lines_text : List (List ℕ) → List ℕ
lines_text lines = flat_map (λ line. line ++ 10 ∷ []) lines

abbrev pub domain_lines : List (List ℕ)
domain_lines =
    codes "(define (domain transport)" ∷
    codes " (:requirements :typing :hierarchy :method-preconditions)" ∷
    codes " (:types location locatable - object vehicle package - locatable)" ∷
    codes " (:predicates (road ?l1 ?l2 - location) (at ?x - locatable ?l - location) (in ?p - package ?v - vehicle))" ∷
    codes " (:task deliver :parameters (?p - package ?l - location))" ∷
    codes " (:task get-to :parameters (?v - vehicle ?l - location))" ∷
    codes " (:method m-deliver :parameters (?v - vehicle ?p - package ?l1 ?l2 - location) :task (deliver ?p ?l2)" ∷
    codes "  :ordered-subtasks (and (get-to ?v ?l1) (pick-up ?v ?l1 ?p) (get-to ?v ?l2) (drop ?v ?l2 ?p)))" ∷
    codes " (:method m-via :parameters (?v - vehicle ?l1 ?l2 ?l3 - location) :task (get-to ?v ?l3)" ∷
    codes "  :ordered-subtasks (and (drive ?v ?l1 ?l2) (get-to ?v ?l3)))" ∷
    codes " (:method m-there :parameters (?v - vehicle ?l - location) :task (get-to ?v ?l) :precondition (at ?v ?l) :subtasks ())" ∷
    codes " (:action drive :parameters (?v - vehicle ?l1 ?l2 - location)" ∷
    codes "  :precondition (and (at ?v ?l1) (road ?l1 ?l2)) :effect (and (not (at ?v ?l1)) (at ?v ?l2)))" ∷
    codes " (:action pick-up :parameters (?v - vehicle ?l - location ?p - package)" ∷
    codes "  :precondition (and (at ?v ?l) (at ?p ?l)) :effect (and (not (at ?p ?l)) (in ?p ?v)))" ∷
    codes " (:action drop :parameters (?v - vehicle ?l - location ?p - package)" ∷
    codes "  :precondition (and (at ?v ?l) (in ?p ?v)) :effect (and (not (in ?p ?v)) (at ?p ?l))))" ∷ []

abbrev pub made_domain : List ℕ
made_domain = lines_text domain_lines

-- for each of the packages 1 to k its number, between these bytes
abbrev pub each_package : ℕ → (front back : List ℕ) → List ℕ
each_package k front back = flat_map (λ i. front ++ decimal i ++ back) (numbers 1 k)

-- the packages stand at l0, and are to be delivered at l1
abbrev pub made_problem : ℕ → List ℕ
made_problem k =
    codes "(define (problem made) (:domain transport) (:objects l0 l1 - location v1 - vehicle" ++ each_package k (codes " p") []
    ++ codes " - package) (:htn :subtasks (and" ++ each_package k (codes " (deliver p") (codes " l1)")
    ++ codes ")) (:init (road l0 l1) (road l1 l0) (at v1 l0)" ++ each_package k (codes " (at p") (codes " l0)") ++ codes "))\n"

-- the package that is delivered behind j others
abbrev pub package_word : ℕ → List ℕ
package_word j = codes "p" ++ decimal (suc j)

abbrev pub task : ℕ → (name : List ℕ) → (args : List (List ℕ)) → HLine
task id name args = record { id = id; name = name; args = args }

abbrev pub drive : ℕ → (from to : List ℕ) → HLine
drive id from to = task id (codes "drive") (codes "v1" ∷ from ∷ to ∷ [])

abbrev pub pick_up : ℕ → HLine
pick_up j = task (4 * j) (codes "pick-up") (codes "v1" ∷ codes "l0" ∷ package_word j ∷ [])

abbrev pub drop_there : ℕ → HLine
drop_there j = task (4 * j + 2) (codes "drop") (codes "v1" ∷ codes "l1" ∷ package_word j ∷ [])

-- the truck stands at l0 for the first package, and drives back there for each other one
abbrev pub drives_back : ℕ → List HLine
drives_back zero = []
drives_back (suc i) = drive (4 * i + 3) (codes "l1") (codes "l0") ∷ []

abbrev pub primitives_for : ℕ → List HLine
primitives_for j = drives_back j ++ pick_up j ∷ drive (4 * j + 1) (codes "l0") (codes "l1") ∷ drop_there j ∷ []

abbrev pub get_to : ℕ → (place : List ℕ) → HLine
get_to id place = task id (codes "get-to") (codes "v1" ∷ place ∷ [])

-- the truck is there; or it is once it has made the drive with the first of the two ids
abbrev pub is_there : ℕ → (place : List ℕ) → HNode
is_there id place = record { line = get_to id place; method = codes "m-there"; ids = [] }

abbrev pub goes_there : ℕ → (place : List ℕ) → (driven there : ℕ) → HNode
goes_there id place driven there = record { line = get_to id place; method = codes "m-via"; ids = driven ∷ there ∷ [] }

-- the nodes' ids begin at n: the first package has four, each other one five
module _ (n : ℕ) where
  abbrev pub deliver_id : ℕ → ℕ
  deliver_id zero = n
  deliver_id (suc i) = n + 5 * i + 4

  -- of the first get-to of l0
  abbrev pub back_id : ℕ → ℕ
  back_id zero = n + 1
  back_id (suc i) = n + 5 * i + 5

  abbrev pub delivers : ℕ → HNode
  delivers j =
      record {
        line = task (deliver_id j) (codes "deliver") (package_word j ∷ codes "l1" ∷ []);
        method = codes "m-deliver";
        ids = back_id j ∷ (4 * j) ∷ (n + 5 * j + 2) ∷ (4 * j + 2) ∷ [];
      }

  abbrev pub gets_back : ℕ → List HNode
  gets_back zero = []
  gets_back (suc i) = goes_there (n + 5 * i + 5) (codes "l0") (4 * i + 3) (n + 5 * i + 6) ∷ []

  -- the truck is at l0, and gets on to l1
  abbrev pub gets_on : ℕ → List HNode
  gets_on j =
      is_there (n + 5 * j + 1) (codes "l0") ∷ goes_there (n + 5 * j + 2) (codes "l1") (4 * j + 1) (n + 5 * j + 3)
      ∷ is_there (n + 5 * j + 3) (codes "l1") ∷ []

  abbrev pub nodes_for : ℕ → List HNode
  nodes_for j = delivers j ∷ gets_back j ++ gets_on j

-- the first package has three primitives, each other one four
abbrev pub primitive_count : ℕ → ℕ
primitive_count k = 4 * k - 1

abbrev pub made_plan : ℕ → HPlan
made_plan k =
    record {
      primitives = flat_map primitives_for (numbers 0 k);
      root = map (deliver_id (primitive_count k)) (numbers 0 k);
      nodes = flat_map (nodes_for (primitive_count k)) (numbers 0 k);
    }

pub record IsMade (k : ℕ) (m : Made) : Type 0 where
  pub domain : m.domain ≡ made_domain
  pub problem : m.problem ≡ made_problem k
  pub plan : m.plan ≡ made_plan k
