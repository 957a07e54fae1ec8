-- The two packages of a scenario.
use Rattle.std.specs.Prelude.{Option, Some, None}
use Rattle.checker_input.specs.declared.package.Package.{Package}
use Rattle.checker_input.specs.declared.package.Packages.{Packages}

-- the old package where one is named, else the new one
abbrev pub old_or : Option Package → Package → Package
old_or None new = new
old_or (Some old) new = old

-- the old package; where none was named, the new one is its own old package
abbrev pub old_of : Packages → Package
old_of packages = old_or packages.old_package packages.new_package
