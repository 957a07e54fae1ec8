-- Which facts on places of the start tree a clause says, each a necessary condition.
use Rattle.std.specs.Prelude.{ℕ, List, [], ◌∷◌, ◌++◌, All, Option, Some, None, if◌then◌else◌}
use Rattle.feature_trees.specs.declared.value.Value.{Value}
use Rattle.tree_clauses.specs.declared.clause.Literal.{Literal}
use Rattle.tree_clauses.specs.declared.clause.Literal.TheVariants.{Entry, Kind, Fence, NotEmpty, Similar, Target}
use Rattle.tree_clauses.specs.declared.clause.Clause.{Clause}
use Rattle.tree_clauses.specs.Literals.{CoversTree}
use Rattle.start_facts.specs.declared.fact.Fact.{Fact}
use Rattle.start_facts.specs.declared.fact.Fact.TheVariants as fact
use Rattle.start_facts.specs.declared.fact.PlaceFact.{PlaceFact}
use Rattle.start_facts.specs.declared.standing.Standing.{Standing}
use Rattle.start_facts.specs.PlaceFacts.{Holds}
use Rattle.start_facts.specs.Standings.{Seen, begins, after}

-- the fact on the place of a variable that stands so
abbrev pub at_place : Standing → Fact → Option PlaceFact
at_place standing said = Some (record { place = standing.place; fact = said })

-- a fact on what stands at a place
abbrev pub on_whole : Option Standing → Fact → Option PlaceFact
on_whole None said = None
on_whole (Some standing) said = if standing.whole then at_place standing said else None

-- what has entries under these names alone
abbrev pub on_fenced : Option Standing → List (List ℕ) → Option PlaceFact
on_fenced None names = None
on_fenced (Some standing) names = at_place standing (fact.Fence (standing.but ++ names))

-- what has an entry, which may be under one of these names
abbrev pub beside : Standing → List (List ℕ) → Option PlaceFact
beside standing [] = at_place standing (fact.Beside standing.but)
beside standing (f ∷ names) = None

-- what has an entry
abbrev pub on_filled : Option Standing → Option PlaceFact
on_filled None = None
on_filled (Some standing) = beside standing standing.left

-- the fact of a literal, if it says one
abbrev pub literal_fact : Seen → Literal → Option PlaceFact
literal_fact seen (Entry x f y) = None
literal_fact seen (Kind x kinds) = on_whole (seen.stands x.0) (fact.Kinds kinds)
literal_fact seen (Fence x names) = on_fenced (seen.stands x.0) names
literal_fact seen (NotEmpty x) = on_filled (seen.stands x.0)
literal_fact seen (Similar y names x) = None
literal_fact seen (Target x target) = on_whole (seen.stands x.0) (fact.Target target)

-- a fact, if there is one, before others
abbrev pub before : Option PlaceFact → List PlaceFact → List PlaceFact
before None facts = facts
before (Some fact) facts = fact ∷ facts

-- the facts of literals behind others
abbrev pub facts_behind : Seen → List Literal → List PlaceFact
facts_behind seen [] = []
facts_behind seen (literal ∷ literals) = before (literal_fact seen literal) (facts_behind (after seen literal) literals)

-- the facts of a clause, in the order of its literals
abbrev pub facts_of : Clause → List PlaceFact
facts_of clause = facts_behind (begins clause.start.0) clause.literals

-- each of them holds of every tree that the clause covers
abbrev pub FactsHold : Type 0
FactsHold = (clause : Clause) (tree : Value) → CoversTree clause tree → All (Holds tree) (facts_of clause)
