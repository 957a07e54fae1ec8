-- Which deed of a run a mark of its trace tells of: each act and each thing put back leaves one mark, in order; that
-- the tree is kept leaves none.
use Rattle.std.specs.Prelude.{ℕ, Bool, true, false, List, Option, slice_get}
use Rattle.std.specs.List.{filter}
use Rattle.utility_calls.specs.declared.deeds.Deed.{Deed}
use Rattle.utility_calls.specs.declared.deeds.Deed.TheVariants.{Does, Returns, Keeps}

-- whether a deed leaves a mark
abbrev pub leaves_mark : Deed → Bool
leaves_mark (Does act) = true
leaves_mark (Returns back) = true
leaves_mark Keeps = false

-- the deed of the mark before which so many marks stand in the trace
abbrev pub deed_of_mark : List Deed → ℕ → Option Deed
deed_of_mark deeds n = slice_get (filter leaves_mark deeds) n
