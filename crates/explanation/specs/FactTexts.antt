-- Facts on places of the start tree, in words.
use Rattle.std.specs.Prelude.{ℕ, Bool, true, false, not, ◌&&◌, ◌==◌, List, [], ◌∷◌, ◌++◌, length, codes, if◌then◌else◌}
use Rattle.std.specs.List.{flat_map, list_any}
use Rattle.shown_texts.specs.Lines.{line}
use Rattle.shown_texts.specs.Paths.{path_text}
use Rattle.shown_texts.specs.Show.{show}
use Rattle.tree_clauses.specs.NameSets.{is_among}
use Rattle.utility_calls.specs.Pairs.{same_names}
use Rattle.script_places.specs.KindWords.{kinds_words}
use Rattle.start_facts.specs.declared.fact.Fact.{Fact}
use Rattle.start_facts.specs.declared.fact.Fact.TheVariants.{Kinds, Fence, Beside, Target}
use Rattle.start_facts.specs.declared.fact.PlaceFact.{PlaceFact}

-- a name behind a space
abbrev pub name_text : List ℕ → List ℕ
name_text name = codes " " ++ show name

-- names, each once: where it stands last
abbrev pub once : List (List ℕ) → List (List ℕ)
once [] = []
once (name ∷ names) = if is_among names name then once names else name ∷ once names

-- names, if there are any, behind a word
unfoldable pub names_text : List ℕ → List (List ℕ) → List ℕ
names_text word names = if length names == 0 then [] else word ++ flat_map name_text (once names)

-- names behind `but`
unfoldable pub but_names : List (List ℕ) → List ℕ
but_names names = names_text (codes " but") names

-- names behind `beside`
unfoldable pub beside_names : List (List ℕ) → List ℕ
beside_names names = names_text (codes " beside") names

-- what a fact says of its place
abbrev pub fact_words : Fact → List ℕ
fact_words (Kinds kinds) = codes " is " ++ kinds_words kinds
fact_words (Fence names) = codes " has no entry" ++ but_names names
fact_words (Beside names) = codes " has an entry" ++ beside_names names
fact_words (Target target) = codes " is a link to " ++ show target

-- the line of a fact
unfoldable pub fact_line : PlaceFact → List ℕ
fact_line fact = line (codes "      " ++ path_text fact.place ++ fact_words fact.fact)

-- the fact says that no directory stands at its place, so that nothing stands in it
abbrev pub is_no_directory : Fact → Bool
is_no_directory (Kinds kinds) = not kinds.dir
is_no_directory (Fence names) = false
is_no_directory (Beside names) = false
is_no_directory (Target target) = true

-- the fact says that nothing stands in its place under further names
abbrev pub is_fence : Fact → Bool
is_fence (Kinds kinds) = false
is_fence (Fence names) = true
is_fence (Beside names) = false
is_fence (Target target) = false

-- the fact says of the place that it is no directory
abbrev pub excludes : List (List ℕ) → PlaceFact → Bool
excludes place fact = is_no_directory fact.fact && same_names place fact.place

-- the fact follows from one of these
abbrev pub is_implied : List PlaceFact → PlaceFact → Bool
is_implied facts fact = is_fence fact.fact && list_any (excludes fact.place) facts
