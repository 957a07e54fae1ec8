-- Which variables are asked for the names that they lack, and what is said of variables where these alone keep names.
use Rattle.std.specs.Prelude.{ℕ, Bool, true, false, ◌||◌, ◌==◌, List, [], ◌∷◌, Option, Some, None, if◌then◌else◌}
use Rattle.tree_clauses.specs.declared.clause.Literal.{Literal}
use Rattle.tree_clauses.specs.declared.clause.Literal.TheVariants.{Entry, Kind, Fence, NotEmpty, Similar, Target}
use Rattle.start_facts.specs.declared.standing.Standing.{Standing}
use Rattle.start_facts.specs.Standings.{Seen, after, placed, similar_to}

-- one more variable
abbrev pub with_one : (ℕ → Bool) → ℕ → ℕ → Bool
with_one asked x z = (x == z) || asked z

-- A literal asks for the names of what it fences or fills, and for those of what another variable is similar to that is
-- asked later.
abbrev pub asked_by : Literal → (ℕ → Bool) → ℕ → Bool
asked_by (Entry x f y) later = later
asked_by (Kind x kinds) later = later
asked_by (Fence x names) later = with_one later x.0
asked_by (NotEmpty x) later = with_one later x.0
asked_by (Similar y names x) later = if later y.0 then with_one later x.0 else later
asked_by (Target x target) later = later

-- the variables that literals ask for
abbrev pub asked_of : List Literal → ℕ → Bool
asked_of [] = λ z. false
asked_of (literal ∷ literals) = asked_by literal (asked_of literals)

-- the names left out, unless they are asked for
abbrev pub similar_if : Bool → Option Standing → List (List ℕ) → Option Standing
similar_if true standing names = similar_to standing names
similar_if false None names = None
similar_if false (Some standing) names =
    Some (record { place = standing.place; whole = false; but = []; left = [] })

-- what is said with one literal more
abbrev pub after_with : (ℕ → Bool) → Seen → Literal → Seen
after_with asked seen (Entry x f y) = after seen (Entry x f y)
after_with asked seen (Kind x kinds) = after seen (Kind x kinds)
after_with asked seen (Fence x names) = seen
after_with asked seen (NotEmpty x) = seen
after_with asked seen (Similar y names x) = record {
  stands = placed seen.stands y.0 (similar_if (asked y.0) (seen.stands x.0) names);
  nothing = seen.nothing;
}
after_with asked seen (Target x target) = seen
