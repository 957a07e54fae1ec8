-- What literals say of variables: which place of the start tree a variable is, or whose entries it has.
use Rattle.std.specs.Prelude.{ℕ, Bool, true, false, not, ◌||◌, ◌==◌, List, [], ◌∷◌, ◌++◌}
use Rattle.std.specs.Prelude.{Option, Some, None, is_some, if◌then◌else◌}
use Rattle.std.specs.List.{filter}
use Rattle.std.specs.Str.{bytes_eq}
use Rattle.feature_trees.specs.declared.kind.Kinds.{Kinds}
use Rattle.tree_clauses.specs.declared.clause.Literal.{Literal}
use Rattle.tree_clauses.specs.declared.clause.Literal.TheVariants.{Entry, Kind, Fence, NotEmpty, Similar, Target}
use Rattle.start_facts.specs.declared.standing.Standing.{Standing}

-- what is said of the variables, by their numbers: where each stands, and whether it is nothing
pub record Seen : Type 0 where
  pub stands : ℕ → Option Standing
  pub nothing : ℕ → Bool

-- the variable is what stands at the place
abbrev pub whole_at : List (List ℕ) → Standing
whole_at place = record { place = place; whole = true; but = []; left = [] }

-- where variables stand: this one so, and the others as before
abbrev pub with_standing : (ℕ → Option Standing) → ℕ → Standing → ℕ → Option Standing
with_standing stands y standing x = if y == x then Some standing else stands x

-- the start stands at the root
abbrev pub begins : ℕ → Seen
begins start = record { stands = with_standing (λ x. None) start (whole_at []); nothing = λ x. false }

-- a variable that stands nowhere yet stands so, if that is known
abbrev pub placed : (ℕ → Option Standing) → ℕ → Option Standing → ℕ → Option Standing
placed stands y None = stands
placed stands y (Some standing) = if is_some (stands y) then stands else with_standing stands y standing

-- where an entry of a variable stands
abbrev pub entry_of : Option Standing → List ℕ → Option Standing
entry_of None f = None
entry_of (Some standing) f = if standing.whole then Some (whole_at (standing.place ++ f ∷ [])) else None

-- where a variable stands that has the entries of another under every name but these
abbrev pub similar_to : Option Standing → List (List ℕ) → Option Standing
similar_to None names = None
similar_to (Some standing) names =
    Some (record {
      place = standing.place;
      whole = false;
      but = standing.but ++ names;
      left = standing.left ++ names;
    })

-- the standing of a variable that has no entry of this name
abbrev pub without : List ℕ → Standing → Standing
without f standing = record {
  place = standing.place;
  whole = standing.whole;
  but = standing.but;
  left = filter (λ g. not (bytes_eq f g)) standing.left;
}

-- the variable has no entry of this name
abbrev pub closed : (ℕ → Option Standing) → ℕ → List ℕ → Option Standing → ℕ → Option Standing
closed stands x f None = stands
closed stands x f (Some standing) = with_standing stands x (without f standing)

-- an entry of x is y
abbrev pub entered : Seen → ℕ → List ℕ → ℕ → ℕ → Option Standing
entered seen x f y =
    let stands : ℕ → Option Standing = placed seen.stands y (entry_of (seen.stands x) f) in
    if seen.nothing y then closed stands x f (stands x) else stands

-- whether the kinds are nothing at most
abbrev pub are_nothing : Kinds → Bool
are_nothing s = not (s.reg || (s.link || (s.fifo || (s.socket || (s.block || (s.char || s.dir))))))

-- what is said with one literal more
abbrev pub after : Seen → Literal → Seen
after seen (Entry x f y) = record { stands = entered seen x.0 f y.0; nothing = seen.nothing }
after seen (Kind x kinds) = record {
  stands = seen.stands;
  nothing = if are_nothing kinds then (λ y. (x.0 == y) || seen.nothing y) else seen.nothing;
}
after seen (Fence x names) = seen
after seen (NotEmpty x) = seen
after seen (Similar y names x) = record {
  stands = placed seen.stands y.0 (similar_to (seen.stands x.0) names);
  nothing = seen.nothing;
}
after seen (Target x target) = seen
