-- What a set of variables says.
use Rattle.std.specs.Prelude.{ℕ, Bool, not, ◌&&◌, ◌||◌, List}
use Rattle.std.specs.Str.{bytes_eq}
use Rattle.package_lists.specs.PathSets.{has}
use Rattle.shell_rules.specs.OwnNames.{is_shells_own}
use Rattle.settled_commands.specs.declared.given.Given.{Given}
use Rattle.settled_commands.specs.Settled.{script_name}

-- whether a variable is among them
abbrev pub are_given : Given → List ℕ → Bool
are_given given name = given.any || has given.names name

-- whether a variable has no value, by those that a script gives one
abbrev pub is_unset : Given → List ℕ → Bool
is_unset given name =
    not (is_shells_own name) && (not (bytes_eq name script_name) && not (are_given given name))
