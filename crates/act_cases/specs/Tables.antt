-- What a row of a table looks at.
use Rattle.std.specs.Prelude.{ℕ, Bool, true, false, List, Option, if◌then◌else◌}
use Rattle.feature_trees.specs.declared.kind.Kind.TheVariants.{Absent, Link, Dir}
use Rattle.feature_trees.specs.declared.kind.Kinds.{Kinds}
use Rattle.feature_trees.specs.Kinds.{has, of, all, but, both, either, two}
use Rattle.utility_calls.specs.declared.sights.Where.{Where}
use Rattle.utility_calls.specs.declared.sights.Where.TheVariants.{Anything, Is, Within, Inside, Outside, Empty, Full}
use Rattle.utility_calls.specs.declared.sights.Where.TheVariants.{Into, IntoEmpty, IntoFull}
use Rattle.utility_calls.specs.declared.sights.Row.{Row}
use Rattle.utility_calls.specs.declared.sights.Rule.{Rule}
use Rattle.utility_calls.specs.Table.{file, no_dir}
use Rattle.utility_calls.specs.Acts.{with_name, link_row, slash_row}
use Rattle.act_cases.specs.declared.looks.Ways.{Ways}
use Rattle.act_cases.specs.declared.plans.Plan.{Plan}
use Rattle.act_cases.specs.declared.plans.End.{End}
use Rattle.act_cases.specs.declared.plans.End.TheVariants as end

-- the kinds that fit a path with a slash behind it
abbrev pub fitting : Bool → Kinds → Kinds
fitting false kinds = kinds
fitting true kinds = both kinds (two Absent Dir)

-- no link on the way
abbrev pub free : Kinds → Ways
free kinds = record { strict = but Link; parent = but Link; last = kinds }

-- directories all the way
abbrev pub through : Kinds → Ways
through kinds = record { strict = of Dir; parent = of Dir; last = kinds }

-- no link on the way, and what holds the last name is no directory
abbrev pub beside : Kinds → Ways
beside kinds = record { strict = but Link; parent = either (of Absent) file; last = kinds }

-- What a row looks at, by whether its path ends in a slash. Where something has to stand, directories are above it.
abbrev pub ways_of : Bool → Where → Ways
ways_of slash Anything = free (fitting slash all)
ways_of slash (Is kinds) =
    if has kinds Absent then free (fitting slash kinds) else through (fitting slash kinds)
ways_of slash Within = through (fitting slash all)
ways_of slash (Inside kinds) = through (fitting slash kinds)
ways_of slash Outside = beside (fitting slash all)
ways_of slash Empty = through (of Dir)
ways_of slash Full = through (of Dir)
ways_of slash (Into kinds) = through kinds
ways_of slash IntoEmpty = through (of Dir)
ways_of slash IntoFull = through (of Dir)

-- what a row asks of the entries
abbrev pub end_of_place : Where → End
end_of_place Anything = end.Any
end_of_place (Is kinds) = end.Any
end_of_place Within = end.Any
end_of_place (Inside kinds) = end.Any
end_of_place Outside = end.Any
end_of_place Empty = end.Empty
end_of_place Full = end.Full
end_of_place (Into kinds) = end.Any
end_of_place IntoEmpty = end.Empty
end_of_place IntoFull = end.Full

-- whether a row looks below its path
abbrev pub is_inner : Where → Bool
is_inner Anything = false
is_inner (Is kinds) = false
is_inner Within = false
is_inner (Inside kinds) = false
is_inner Outside = false
is_inner Empty = false
is_inner Full = false
is_inner (Into kinds) = true
is_inner IntoEmpty = true
is_inner IntoFull = true

-- the names that a row looks along: those of the path, and one more where it looks below
abbrev pub names_at : Bool → List (List ℕ) → Option (List ℕ) → List (List ℕ)
names_at false names inner = names
names_at true names inner = with_name names inner

-- a row of a table as it is made into a case
abbrev pub plan_of : Bool → Rule → Plan
plan_of slash r = record {
  number = r.number;
  answer = r.answer;
  ways = ways_of slash r.place;
  end = end_of_place r.place;
  effect = r.effect;
}

-- a row that asks nothing of the entries, as it is made into a case
abbrev pub plan_of_row : Row → Ways → Plan
plan_of_row r ways = record { number = r.number; answer = r.answer; ways = ways; end = end.Any; effect = r.effect }

-- the row of a link at the first so many names
abbrev pub link_plan : ℕ → Plan
link_plan n = plan_of_row (link_row n) (through (of Link))

-- the row of a slash behind a file, a link or a special file
abbrev pub slash_plan : Plan
slash_plan = plan_of_row slash_row (through no_dir)
