-- What a map of functions says: the offset of the first definition of each name.
use Rattle.std.specs.Prelude.{◌≡◌, ℕ, Bool, false, nat_le, Option, Some, None, Vec}
use Rattle.std.specs.Map.{lookup}
use Rattle.std.specs.Ordering.{nat_cmp, is_eq}
use Rattle.std.specs.Cmp.Lexicographic.{slice_cmp}
use Rattle.shell_forms.specs.Names.{Text}
use Rattle.shell_forms.specs.Functions.{Definitions, first_of, lesser}
use Rattle.shell_forms.specs.declared.functions.Functions.{Functions}

-- whether a key has this name
abbrev pub has_name : {A : Type 0} → Text → Vec ℕ A → Bool
has_name name key = is_eq (slice_cmp nat_cmp name key.items)

-- the offset of the first definition of a name
abbrev pub first_in : Functions → Text → Option ℕ
first_in functions name = lookup (has_name name) functions.first.entries

-- whether an offset is there that is no greater
abbrev pub is_at_most : Option ℕ → ℕ → Bool
is_at_most None at = false
is_at_most (Some first) at = nat_le first at

-- the functions after these definitions, and those before
abbrev pub Adds : Functions → Functions → Definitions → Type 0
Adds old new ds = (name : Text) → first_in new name ≡ lesser (first_in old name) (first_of ds name)
