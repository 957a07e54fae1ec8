-- The readings of a package, of packages and of a request, step by step.
use Rattle.std.proofs.Common.{ℕ, List, [], Option, Some, None, Ok}
use Rattle.checker_io.specs.Reading.{done, and_then}
use Rattle.command_words.specs.declared.request.Folders.{Folders}
use Rattle.command_words.specs.declared.request.Layout.{Layout}
use Rattle.command_words.specs.declared.request.View.{View}
use Rattle.dpkg_scenarios.specs.declared.scenario.Scenario.{Scenario}
use Rattle.dpkg_scenarios.specs.declared.scenario.ScriptKind.TheVariants.{Postinst, Prerm, Postrm}
use Rattle.system_base.specs.declared.base.Base.{Base}
use Rattle.package_lists.specs.Entries.{EntryParts}
use Rattle.shell_syntax.specs.declared.script.Script.{Script}
use Rattle.checker_input.specs.declared.asked.Asked.{Asked}
use Rattle.checker_input.specs.declared.asked.Asked.TheVariants as asked
use Rattle.checker_input.specs.declared.control.Control.{Control}
use Rattle.checker_input.specs.declared.package.NamedPackage.{NamedPackage}
use Rattle.checker_input.specs.declared.package.Packages.{Packages}
use Rattle.checker_input.specs.declared.sources.KeptScript.{KeptScript}
use Rattle.checker_input.specs.declared.sources.KeptScripts.{KeptScripts}
use Rattle.checker_input.specs.declared.sources.KeptPackage.{KeptPackage}
use Rattle.checker_input.specs.declared.sources.KeptOld.{KeptOld}
use Rattle.checker_input.specs.declared.sources.Kept.{Kept}
use Rattle.checker_input.specs.declared.task.Task.TheVariants as task
use Rattle.feature_trees.specs.declared.value.Value.{Value}
use Rattle.checker_input.specs.Input.{Input, conffiles_in, start_in, kept_script_in, kept_apart, kept_scripts_in, kept_of, kept_with, kept_package_in, kept_some, kept_old_in, kept_all, named_package_in}

-- ---- what follows a control file with a name

abbrev pub after_named : List ℕ → KeptPackage → Input NamedPackage
after_named name kept = done (Ok (record { name = name; own = kept.own }))

abbrev pub after_control : List ℕ → Control → Input NamedPackage
after_control folder control = and_then (kept_with folder control.version) (after_named control.name)

-- ---- what follows each package of a pair

abbrev pub after_other : Base → NamedPackage → KeptPackage → Input Packages
after_other base own before = done (Ok (record { new_package = own.own; old_package = Some before.own; base = base; name = own.name }))

abbrev pub after_own : List ℕ → Base → NamedPackage → Input Packages
after_own other base own = and_then (kept_package_in other) (after_other base own)

abbrev pub after_pair_base : List ℕ → List ℕ → Base → Input Packages
after_pair_base dir other base = and_then (named_package_in dir) (after_own other base)

abbrev pub after_alone : Base → NamedPackage → Input Packages
after_alone base own = done (Ok (record { new_package = own.own; old_package = None; base = base; name = own.name }))

abbrev pub after_twice_base : List ℕ → Base → Input Packages
after_twice_base dir base = and_then (named_package_in dir) (after_alone base)

-- ---- what follows each file of a package, and each package, with the texts of scripts

abbrev pub after_kept_postrm : KeptScript → KeptScript → KeptScript → KeptScript → Input KeptScripts
after_kept_postrm preinst postinst prerm postrm = done (Ok (kept_apart preinst postinst prerm postrm))

abbrev pub after_kept_prerm : List ℕ → KeptScript → KeptScript → KeptScript → Input KeptScripts
after_kept_prerm folder preinst postinst prerm = and_then (kept_script_in folder Postrm) (after_kept_postrm preinst postinst prerm)

abbrev pub after_kept_postinst : List ℕ → KeptScript → KeptScript → Input KeptScripts
after_kept_postinst folder preinst postinst = and_then (kept_script_in folder Prerm) (after_kept_prerm folder preinst postinst)

abbrev pub after_kept_preinst : List ℕ → KeptScript → Input KeptScripts
after_kept_preinst folder preinst = and_then (kept_script_in folder Postinst) (after_kept_postinst folder preinst)

abbrev pub after_kept_scripts : List ℕ → List EntryParts → KeptScripts → Input KeptPackage
after_kept_scripts version entries kept = done (Ok (kept_of version entries kept))

abbrev pub after_kept_conffiles : List ℕ → List ℕ → List EntryParts → Input KeptPackage
after_kept_conffiles folder version entries = and_then (kept_scripts_in folder) (after_kept_scripts version entries)

abbrev pub after_kept_list : List ℕ → List ℕ → List EntryParts → Input KeptPackage
after_kept_list folder version listed = and_then (conffiles_in folder listed) (after_kept_conffiles folder version)

abbrev pub after_kept_version : List ℕ → List ℕ → Input KeptPackage
after_kept_version folder version = kept_with folder version

abbrev pub after_kept_old_package : KeptPackage → Input KeptOld
after_kept_old_package own = done (Ok (kept_some own))

abbrev pub after_kept_new : Folders → Base → KeptOld → KeptPackage → Input Kept
after_kept_new folders base before own = done (Ok (kept_all folders base before own))

abbrev pub after_kept_old : Folders → Base → KeptOld → Input Kept
after_kept_old folders base before = and_then (kept_package_in folders.dir) (after_kept_new folders base before)

abbrev pub after_kept_base : Folders → Base → Input Kept
after_kept_base folders base = and_then (kept_old_in folders.old) (after_kept_old folders base)

abbrev pub after_read : Kept → Input Packages
after_read kept = done (Ok kept.packages)

-- ---- what follows the packages

abbrev pub after_kept : Option Scenario → ℕ → ℕ → View → Kept → Input Asked
after_kept scenario turns limit view kept = done (Ok (asked.Task (task.Explain kept.packages kept.sources scenario turns limit view)))

abbrev pub after_packages : Option Scenario → ℕ → ℕ → Layout → Packages → Input Asked
after_packages scenario turns limit layout packages = done (Ok (asked.Task (task.Check packages scenario turns limit layout)))

abbrev pub after_pair : Scenario → ℕ → ℕ → Packages → Input Asked
after_pair scenario turns limit packages = done (Ok (asked.Task (task.Pair packages scenario turns limit)))

abbrev pub after_start : Scenario → ℕ → Packages → Value → Input Asked
after_start scenario turns packages start = done (Ok (asked.Task (task.Run packages start scenario turns)))

abbrev pub before_start : List ℕ → Scenario → ℕ → Packages → Input Asked
before_start tree scenario turns packages = and_then (start_in tree) (after_start scenario turns packages)

abbrev pub after_translated : Script → Input Asked
after_translated script = done (Ok (asked.Task (task.Translate script)))
