-- What a function of the reader answers, as the definitions see it, and what it keeps beside the base.
use Rattle.std.specs.Prelude.{◌≡◌, ℕ, Bool, true, false, List, Option, Some, None}
use Rattle.package_lists.specs.declared.path_set.PathSet.{PathSet}
use Rattle.package_lists.specs.PathSets.{has}
use Rattle.utility_calls.specs.declared.stated_call.StatedCall.{StatedCall}
use Rattle.utility_calls.specs.StatedCalls.{is_stated}
use Rattle.system_base.specs.declared.base.Base.{Base}

-- the base is the one that a line of one word gave; where it gave none, it is as before
abbrev pub WordLeft : Option Base → Base → Base → Bool → Type 0
WordLeft (Some more) old new added = (added ≡ true) × (new ≡ more)
WordLeft None old new added = (added ≡ false) × (new ≡ old)

-- a set has the names of these calls, and no other
abbrev pub AreNames : PathSet → List StatedCall → Type 0
AreNames names calls = (name : List ℕ) → has names name ≡ is_stated calls name
