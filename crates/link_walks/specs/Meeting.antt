-- A link that the code meets, as the definitions see it.
use Rattle.std.specs.Prelude.{ℕ, Bool, List, drop, Option, Some, None, if◌then◌else◌}
use Rattle.script_names.specs.Paths.{PathParts}
use Rattle.link_walks.specs.declared.walks.Meeting.{Meeting}
use Rattle.link_walks.specs.Reaching.{Met, led, led_path, is_length}

-- the link, and the names behind it
abbrev pub met_in : List (List ℕ) → Meeting → Met
met_in names m = record { link = m.link.now; behind = drop m.count names }

-- the path with the link's place, where that is one
abbrev pub led_by : Met → Bool → Option PathParts
led_by m slash = if is_length (led m) then Some (led_path m slash) else None
