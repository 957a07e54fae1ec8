-- The maintainer scripts of a package, by their kind.
use Rattle.std.specs.Prelude.{Option}
use Rattle.dpkg_scenarios.specs.declared.scenario.ScriptKind.{ScriptKind}
use Rattle.dpkg_scenarios.specs.declared.scenario.ScriptKind.TheVariants.{Preinst, Postinst, Prerm, Postrm}
use Rattle.dpkg_scenarios.specs.declared.scripts.Scripts.{Scripts}

-- the script of this kind, if the package has that one
abbrev pub script_of : {T : Type 0} → ScriptKind → Scripts T → Option T
script_of Preinst scripts = scripts.preinst
script_of Postinst scripts = scripts.postinst
script_of Prerm scripts = scripts.prerm
script_of Postrm scripts = scripts.postrm
