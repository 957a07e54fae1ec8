-- The laws that src/theorems.rt proves of made packages.
use Rattle.std.specs.Prelude.{◌≡◌, ◌≤◌, ℕ}
use Rattle.command_words.specs.declared.limits.TheConstants.{MOST_LOAD}
use Rattle.checker_input.specs.declared.package.Package.{Package}
use Rattle.load_maker.specs.Loaded.{IsLoaded}

-- of a number there is one made package
abbrev pub OnePackage : Type 0
OnePackage = (n : ℕ) (one other : Package) → IsLoaded n one → IsLoaded n other → one ≡ other

-- of each number up to MOST_LOAD there is a made package: its text is an accepted script
abbrev pub EachPackage : Type 0
EachPackage = (n : ℕ) → n ≤ MOST_LOAD → (made : Package) × IsLoaded n made
