-- What facts leave to places: which kinds of things may stand there, and whether anything may stand in them.
use Rattle.std.specs.Prelude.{ℕ, Bool, true, false, not, ◌&&◌, ◌||◌, List, [], ◌∷◌, ◌++◌}
use Rattle.std.specs.Prelude.{Option, Some, None, if◌then◌else◌}
use Rattle.std.specs.List.{list_all}
use Rattle.std.specs.Str.{bytes_eq}
use Rattle.feature_trees.specs.declared.kind.Kind.TheVariants as kind
use Rattle.feature_trees.specs.declared.kind.Kinds.{Kinds}
use Rattle.feature_trees.specs.Kinds.{all, of, both, either}
use Rattle.tree_clauses.specs.NameSets.{is_among}
use Rattle.start_facts.specs.declared.fact.Fact.{Fact}
use Rattle.start_facts.specs.declared.fact.Fact.TheVariants as fact
use Rattle.start_facts.specs.declared.fact.PlaceFact.{PlaceFact}
use Rattle.fact_boxes.specs.declared.cells.Column.{Column}
use Rattle.fact_boxes.specs.declared.cells.Cell.{Cell}

-- ---- what one fact leaves

-- everything is left
abbrev pub anything : Cell
anything = record { kinds = all; none = true; some = true }

-- nothing stands there
abbrev pub nothing : Cell
nothing = record { kinds = of kind.Absent; none = true; some = false }

-- each of the names is among others
abbrev pub are_among : List (List ℕ) → List (List ℕ) → Bool
are_among others names = list_all (λ f. is_among others f) names

-- what a fact leaves to its own place, and to entries there under other names than these
abbrev pub left_here : Fact → List (List ℕ) → Cell
left_here (fact.Kinds kinds) but = record { kinds = kinds; none = true; some = kinds.dir }
left_here (fact.Fence names) but = record { kinds = all; none = true; some = not (are_among but names) }
left_here (fact.Beside names) but = record { kinds = of kind.Dir; none = not (are_among names but); some = true }
left_here (fact.Target target) but = record { kinds = of kind.Link; none = true; some = false }

-- nothing can stand under this name
abbrev pub shuts : Fact → List ℕ → Bool
shuts (fact.Kinds kinds) f = not kinds.dir
shuts (fact.Fence names) f = not (is_among names f)
shuts (fact.Beside names) f = false
shuts (fact.Target target) f = true

-- what is left to a place so far below the fact's, if it is there or below
abbrev pub left_below : Fact → List (List ℕ) → Option (List (List ℕ)) → Cell
left_below said but None = anything
left_below said but (Some []) = left_here said but
left_below said but (Some (f ∷ below)) = if shuts said f then nothing else anything

-- the names that follow others
abbrev pub behind : List (List ℕ) → List (List ℕ) → Option (List (List ℕ))
behind [] names = Some names
behind (f ∷ above) [] = None
behind (f ∷ above) (g ∷ names) = if bytes_eq f g then behind above names else None

-- kinds are told beside no names alone
abbrev pub beside : List (List ℕ) → Cell → Cell
beside [] cell = cell
beside (f ∷ but) cell = record { kinds = all; none = cell.none; some = cell.some }

-- what a fact leaves to a column
abbrev pub leaves : PlaceFact → Column → Cell
leaves said column = beside column.but (left_below said.fact column.but (behind said.place column.place))

-- ---- what cells have together

-- what both leave
abbrev pub meet : Cell → Cell → Cell
meet a b = record { kinds = both a.kinds b.kinds; none = a.none && b.none; some = a.some && b.some }

-- what one or the other leaves
abbrev pub join : Cell → Cell → Cell
join a b = record { kinds = either a.kinds b.kinds; none = a.none || b.none; some = a.some || b.some }

-- a kind is in both sets
abbrev pub share : Kinds → Kinds → Bool
share a b =
    (a.absent && b.absent) || ((a.reg && b.reg) || ((a.link && b.link) || ((a.fifo && b.fifo)
    || ((a.socket && b.socket) || ((a.block && b.block) || ((a.char && b.char) || (a.dir && b.dir)))))))

-- nothing is left by both
abbrev pub clash : Cell → Cell → Bool
clash a b = not (share a.kinds b.kinds) || not ((a.none && b.none) || (a.some && b.some))

-- the second, if the first
abbrev pub follows : Bool → Bool → Bool
follows true b = b
follows false b = true

-- what the one leaves, the other leaves
abbrev pub within : Cell → Cell → Bool
within a b =
    follows a.kinds.absent b.kinds.absent && (follows a.kinds.reg b.kinds.reg && (follows a.kinds.link b.kinds.link
    && (follows a.kinds.fifo b.kinds.fifo && (follows a.kinds.socket b.kinds.socket
    && (follows a.kinds.block b.kinds.block && (follows a.kinds.char b.kinds.char
    && (follows a.kinds.dir b.kinds.dir && (follows a.none b.none && follows a.some b.some))))))))

-- ---- what is told of a cell

-- all kinds
abbrev pub are_all : Kinds → Bool
are_all s = s.absent && (s.reg && (s.link && (s.fifo && (s.socket && (s.block && (s.char && s.dir))))))

-- everything is left
abbrev pub is_anything : Cell → Bool
is_anything cell = are_all cell.kinds && (cell.none && cell.some)

-- a fact on the column's place, unless that is so
abbrev pub unless : Bool → Column → Fact → List PlaceFact
unless true column said = []
unless false column said = record { place = column.place; fact = said } ∷ []

-- the facts that leave so much to a column
abbrev pub told : Column → Cell → List PlaceFact
told column cell =
    unless (are_all cell.kinds) column (fact.Kinds cell.kinds)
    ++ (unless cell.some column (fact.Fence column.but) ++ unless cell.none column (fact.Beside column.but))
