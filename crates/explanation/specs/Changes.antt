-- What a run makes of the tree that an outcome shows, with the places marked that are told above it.
use Rattle.std.specs.Prelude.{ℕ, Bool, false, not, ◌||◌, List, [], ◌∷◌, ◌++◌, Option, Some, None, if◌then◌else◌}
use Rattle.std.specs.List.{list_any}
use Rattle.std.specs.Str.{bytes_eq}
use Rattle.script_names.specs.Ascii.{slash}
use Rattle.feature_trees.specs.declared.kind.Kind.{Kind}
use Rattle.feature_trees.specs.declared.kind.Kind.TheVariants as kind
use Rattle.feature_trees.specs.declared.value.Value.{Value}
use Rattle.feature_trees.specs.Kinds.{has}
use Rattle.tree_pictures.specs.declared.placed.Placed.{Placed}
use Rattle.tree_pictures.specs.declared.placed.Standing.{Standing}
use Rattle.tree_pictures.specs.declared.placed.Standing.TheVariants as standing
use Rattle.tree_pictures.specs.Placed.{tree_places}
use Rattle.tree_pictures.specs.Pictures.{is_among, standing_at, picture}
use Rattle.start_facts.specs.declared.fact.Fact.{Fact}
use Rattle.start_facts.specs.declared.fact.Fact.TheVariants.{Kinds, Fence, Beside, Target}
use Rattle.start_facts.specs.declared.fact.PlaceFact.{PlaceFact}
use Rattle.outcome_groups.specs.declared.group.FactBox.{FactBox}

-- the bytes of a path: each name behind a slash
abbrev pub path_bytes : List (List ℕ) → List ℕ
path_bytes [] = []
path_bytes (name ∷ names) = (slash ∷ name) ++ path_bytes names

-- the place of a fact
abbrev pub fact_path : PlaceFact → List ℕ
fact_path fact = path_bytes fact.place

-- the kind of what stands at a path of a tree with these places below its root
abbrev pub kind_of : Option Standing → Kind
kind_of None = kind.Absent
kind_of (Some standing.Reg) = kind.Reg
kind_of (Some (standing.Link target)) = kind.Link
kind_of (Some (standing.Special s)) = kind.Special s
kind_of (Some standing.Dir) = kind.Dir

-- the kind of what stands at a path; the root is a directory
abbrev pub kind_at : List Placed → List ℕ → Kind
kind_at places [] = kind.Dir
kind_at places (b ∷ path) = kind_of (standing_at (b ∷ path) places)

-- a link to this target
abbrev pub is_link_to : List ℕ → Option Standing → Bool
is_link_to target None = false
is_link_to target (Some standing.Reg) = false
is_link_to target (Some (standing.Link other)) = bytes_eq target other
is_link_to target (Some (standing.Special s)) = false
is_link_to target (Some standing.Dir) = false

-- what stands at its path speaks against a fact; entries are not looked at
abbrev pub is_against : List Placed → List ℕ → Fact → Bool
is_against places path (Kinds kinds) = not (has kinds (kind_at places path))
is_against places path (Fence names) = false
is_against places path (Beside names) = false
is_against places path (Target target) = not (is_link_to target (standing_at path places))

-- what stands at a fact's place speaks against the fact
abbrev pub is_refuted : List Placed → PlaceFact → Bool
is_refuted places fact = is_against places (fact_path fact) fact.fact

-- paths, and one more, unless it is among them
abbrev pub with_path : List (List ℕ) → List ℕ → List (List ℕ)
with_path paths path = if is_among paths path then paths else paths ++ path ∷ []

-- paths, and the places of facts, each once
abbrev pub with_places : List (List ℕ) → List PlaceFact → List (List ℕ)
with_places paths [] = paths
with_places paths (fact ∷ facts) = with_places (with_path paths (fact_path fact)) facts

-- something speaks against a fact of a box
abbrev pub is_out : List Placed → FactBox → Bool
is_out places box = list_any (is_refuted places) box.deciding || list_any (is_refuted places) box.others

-- the places of the facts of a box, each once
abbrev pub box_places : FactBox → List (List ℕ)
box_places box = with_places (with_places [] box.deciding) box.others

-- the places that are told: those of the first box against whose facts nothing speaks
abbrev pub marks : List Placed → List FactBox → List (List ℕ)
marks places [] = []
marks places (box ∷ boxes) = if is_out places box then marks places boxes else box_places box

-- what a run makes of a tree, behind a title, with these places marked
unfoldable pub changed_text : List ℕ → List FactBox → Value → Value → List ℕ
changed_text title boxes before after = title ++ picture (marks (tree_places before) boxes) before after
