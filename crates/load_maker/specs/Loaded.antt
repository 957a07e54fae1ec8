-- A made package.
use Rattle.std.specs.Prelude.{◌≡◌, ℕ, [], Some, None, codes}
use Rattle.shell_syntax.specs.declared.script.Script.{Script}
use Rattle.checker_input.specs.declared.package.Package.{Package}
use Rattle.checker_input.specs.Script.{IsAccepted}
use Rattle.load_maker.specs.LoadText.{load_text}

-- the package whose version is `0`, which lists nothing, and whose only script is this postinst
abbrev pub only_postinst : Script → Package
only_postinst script = record {
  version = codes "0";
  entries = [];
  scripts = record { preinst = None; postinst = Some script; prerm = None; postrm = None };
}

-- the package of a number: its postinst is the accepted script of that number's text
pub record IsLoaded (n : ℕ) (made : Package) : Type 0 where
  pub script : Script
  pub accepted : IsAccepted (load_text n) script
  pub is : made ≡ only_postinst script
