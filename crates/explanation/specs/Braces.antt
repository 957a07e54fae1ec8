-- The lines of facts: facts that say the same of places in one folder stand on one line, the last names of their places
-- in braces, as a shell has them (`/etc/{a,b} is missing`). Which paths are meant is seen there where no name has a brace
-- or a comma, so a path with one of these stands alone.
use Rattle.std.specs.Prelude.{ℕ, Bool, true, not, ◌&&◌, ◌==◌, nat_lt, List, [], ◌∷◌, ◌++◌, ◌-◌, length, take, codes}
use Rattle.std.specs.Prelude.{slice_index_or, if◌then◌else◌}
use Rattle.std.specs.List.{flat_map, list_all, list_any}
use Rattle.std.specs.Str.{bytes_eq}
use Rattle.script_names.specs.Ascii.{brace_open, brace_close, comma}
use Rattle.shown_texts.specs.Lines.{line}
use Rattle.shown_texts.specs.Paths.{path_text}
use Rattle.shown_texts.specs.Show.{show}
use Rattle.utility_calls.specs.Pairs.{same_names}
use Rattle.start_facts.specs.declared.fact.PlaceFact.{PlaceFact}
use Rattle.explanation.specs.FactTexts.{fact_line, fact_words, is_implied}

-- ---- which facts stand on one line

-- a byte that is no brace and no comma
abbrev pub is_loose : ℕ → Bool
is_loose b = not (b == brace_open) && (not (b == brace_close) && not (b == comma))

-- a name without braces and commas
abbrev pub is_loose_name : List ℕ → Bool
is_loose_name name = list_all is_loose name

-- a path in a folder, without braces and commas
abbrev pub is_joinable : List (List ℕ) → Bool
is_joinable place = nat_lt 1 (length place) && list_all is_loose_name place

-- the path of its folder
abbrev pub parent : List (List ℕ) → List (List ℕ)
parent place = take (length place - 1) place

-- its name in that folder
abbrev pub last_name : List (List ℕ) → List ℕ
last_name place = slice_index_or place (length place - 1) []

-- places in one folder, without braces and commas
abbrev pub are_beside : List (List ℕ) → List (List ℕ) → Bool
are_beside a b = (is_joinable a && is_joinable b) && same_names (parent a) (parent b)

-- both facts are of places in one folder, and say the same
abbrev pub is_like : PlaceFact → PlaceFact → Bool
is_like a b = are_beside a.place b.place && bytes_eq (fact_words a.fact) (fact_words b.fact)

-- no fact that is told and like this one stands before it among these
abbrev pub is_first : List PlaceFact → List PlaceFact → PlaceFact → Bool
is_first facts [] fact = true
is_first facts (other ∷ before) fact =
    if is_like other fact && not (is_implied facts other) then same_names other.place fact.place
    else is_first facts before fact

-- another of these facts that is told, and like this one
abbrev pub is_further : List PlaceFact → PlaceFact → PlaceFact → Bool
is_further facts fact other =
    (is_like fact other && not (is_implied facts other)) && not (same_names fact.place other.place)

-- ---- the lines

-- the name of a further place
unfoldable pub further_name : List PlaceFact → PlaceFact → PlaceFact → List ℕ
further_name facts fact other =
    if is_further facts fact other then codes "," ++ show (last_name other.place) else []

-- the names of the places
unfoldable pub joined_names : List PlaceFact → PlaceFact → List ℕ
joined_names facts fact = show (last_name fact.place) ++ flat_map (further_name facts fact) facts

-- one line for all of them
unfoldable pub joined_line : List PlaceFact → PlaceFact → List ℕ
joined_line facts fact =
    line (codes "      " ++ path_text (parent fact.place) ++ codes "/{" ++ joined_names facts fact ++ codes "}"
    ++ fact_words fact.fact)

-- the line of the first fact of its sort
unfoldable pub first_line : List PlaceFact → PlaceFact → List ℕ
first_line facts fact =
    if list_any (is_further facts fact) facts then joined_line facts fact else fact_line fact

-- the line of one of these facts, unless it follows from another, or stands on the line of one before it
unfoldable pub told_line : List PlaceFact → PlaceFact → List ℕ
told_line facts fact =
    if not (is_implied facts fact) && is_first facts facts fact then first_line facts fact else []

-- the lines of facts
abbrev pub facts_text : List PlaceFact → List ℕ
facts_text facts = flat_map (told_line facts) facts
