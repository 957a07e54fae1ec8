-- What a request reads, file by file, and what comes of it.
use Rattle.std.specs.Prelude.{◌≡◌, ℕ, ◌≤◌, [], ◌++◌, List, Option, Some, None, Result, Ok, Err, codes}
use Rattle.script_names.specs.declared.memory.Memory.{Memory}
use Rattle.checker_io.specs.Reading.{Asking, done, Comes, Reads, content, file_of, and_then}
use Rattle.checker_io.specs.Shelf.{ShelfState}
use Rattle.checker_io.specs.declared.stop.Stop.{Stop}
use Rattle.checker_io.specs.declared.stop.Stop.TheVariants.{Refused, NoMemory}
use Rattle.command_words.specs.declared.limits.TheConstants.{MOST_LOAD}
use Rattle.command_words.specs.declared.request.Folders.{Folders}
use Rattle.command_words.specs.declared.request.Request.{Request}
use Rattle.command_words.specs.declared.request.Request.TheVariants as request
use Rattle.dpkg_scenarios.specs.declared.scenario.Scenario.TheVariants.{Twice}
use Rattle.dpkg_scenarios.specs.declared.scenario.ScriptKind.{ScriptKind}
use Rattle.dpkg_scenarios.specs.declared.scenario.ScriptKind.TheVariants.{Preinst, Postinst, Prerm, Postrm}
use Rattle.dpkg_scenarios.specs.Names.{script_name}
use Rattle.feature_trees.specs.declared.value.Value.{Value}
use Rattle.feature_trees.specs.Sound.{IsTree}
use Rattle.feature_trees.specs.TreeLines.{tree_of}
use Rattle.system_base.specs.declared.base.Base.{Base}
use Rattle.system_base.specs.Bases.{base_of, usual}
use Rattle.package_lists.specs.Conffiles.{conffiles_of}
use Rattle.package_lists.specs.Control.{control_of, package_name_of}
use Rattle.package_lists.specs.Entries.{EntryParts}
use Rattle.package_lists.specs.Faults.{and_then as then_line}
use Rattle.package_lists.specs.declared.fault.LineFault.{LineFault}
use Rattle.package_lists.specs.Lists.{list_of}
use Rattle.shell_syntax.specs.declared.script.Script.{Script}
use Rattle.checker_input.specs.declared.asked.Asked.{Asked}
use Rattle.checker_input.specs.declared.asked.Asked.TheVariants as asked
use Rattle.checker_input.specs.declared.control.Control.{Control}
use Rattle.checker_input.specs.declared.faults.FileFault.{FileFault}
use Rattle.checker_input.specs.declared.faults.FileFault.TheVariants as fault
use Rattle.checker_input.specs.declared.faults.InputRefusal.{InputRefusal}
use Rattle.checker_input.specs.declared.names.PackageFile.{PackageFile}
use Rattle.checker_input.specs.declared.names.PackageFile.TheVariants as of_package
use Rattle.checker_input.specs.declared.package.NamedPackage.{NamedPackage}
use Rattle.checker_input.specs.declared.package.Packages.{Packages}
use Rattle.checker_input.specs.declared.read_file.Found.{Found}
use Rattle.checker_input.specs.declared.read_file.TheConstants.{MAX_FILE}
use Rattle.checker_input.specs.declared.sources.KeptScript.{KeptScript}
use Rattle.checker_input.specs.declared.sources.KeptScripts.{KeptScripts}
use Rattle.checker_input.specs.declared.sources.KeptPackage.{KeptPackage}
use Rattle.checker_input.specs.declared.sources.KeptOld.{KeptOld}
use Rattle.checker_input.specs.declared.sources.Kept.{Kept}
use Rattle.checker_input.specs.declared.task.Task.{Task}
use Rattle.checker_input.specs.declared.task.Task.TheVariants as task
use Rattle.checker_input.specs.Lines.{LinesCome, TreeComes}
use Rattle.checker_input.specs.declared.script.ScriptFault.{ScriptFault}
use Rattle.checker_input.specs.Script.{IsAccepted, IsUnaccepted}

-- ---- the names of files

-- the name of a file in a package's folder
abbrev pub own_name : PackageFile → List ℕ
own_name of_package.Control = codes "control"
own_name of_package.List = codes "list"
own_name of_package.Conffiles = codes "conffiles"
own_name (of_package.Script kind) = script_name kind

-- the name of a file of a package: its folder, `/` and the file's own name
abbrev pub file_in : List ℕ → PackageFile → List ℕ
file_in folder file = folder ++ codes "/" ++ own_name file

-- ---- what each file comes to, by its content, if it is there

-- the control file: the version, which is `0` where there is no such file
abbrev pub ControlComes : Comes (List ℕ) FileFault
ControlComes None came = came ≡ Ok (codes "0")
ControlComes (Some text) came = LinesCome (λ line why. fault.Version line) (control_of text) came

-- the version of a control file and the name in it, or the first of the two that is at fault
abbrev pub named_control_of : List ℕ → Result Control LineFault
named_control_of text =
    then_line (λ version. then_line (λ name. Ok (record { version = version; name = name })) (package_name_of text))
    (control_of text)

-- the control file of a package whose name is asked for: without such a file the version is `0`, the name `unnamed`
abbrev pub NamedControlComes : Comes Control FileFault
NamedControlComes None came = came ≡ Ok (record { version = codes "0"; name = codes "unnamed" })
NamedControlComes (Some text) came = LinesCome (λ line why. fault.Version line) (named_control_of text) came

-- the list of files, which has to be there: the entries
abbrev pub ListComes : Comes (List EntryParts) FileFault
ListComes None came = came ≡ Err fault.Missing
ListComes (Some text) came = LinesCome (λ line why. fault.Line line why) (list_of text) came

-- the list of configuration files: the entries, among which it marks them; where there is no such file, as they are
abbrev pub ConffilesCome : List EntryParts → Comes (List EntryParts) FileFault
ConffilesCome entries None came = came ≡ Ok entries
ConffilesCome entries (Some text) came = LinesCome (λ line why. fault.Line line why) (conffiles_of text entries) came

-- the text of a script: an accepted script, or why it is none
abbrev pub ScriptReads : List ℕ → Result Script FileFault → Type 0
ScriptReads text (Ok script) = IsAccepted text script
ScriptReads text (Err wrong) = (why : ScriptFault) × IsUnaccepted text why × (wrong ≡ fault.Script why)

-- a script that is accepted, with its text
abbrev pub IsKept : List ℕ → KeptScript → Type 0
IsKept text kept =
    (script : Script) × IsAccepted text script × (kept ≡ record { script = Some script; text = Some text })

-- a script of a package, with its text; none, where there is no such file
abbrev pub KeptComes : Comes KeptScript FileFault
KeptComes None came = came ≡ Ok (record { script = None; text = None })
KeptComes (Some text) (Ok kept) = IsKept text kept
KeptComes (Some text) (Err wrong) = ScriptReads text (Err wrong)

-- the base, which has to be there where one is named
abbrev pub BaseComes : Comes Base FileFault
BaseComes None came = came ≡ Err fault.Missing
BaseComes (Some text) came = LinesCome (λ line why. fault.Line line why) (base_of text) came

-- the tree of a run, which has to be there
abbrev pub StartComes : Comes Value FileFault
StartComes None came = came ≡ Err fault.Missing
StartComes (Some text) came = TreeComes (λ line why. fault.Line line why) (tree_of text) came

-- the script that is translated, which has to be there: an accepted script
abbrev pub TranslatedComes : Comes Script FileFault
TranslatedComes None came = came ≡ Err fault.Missing
TranslatedComes (Some text) came = ScriptReads text came

-- ---- what is read

-- a reading of the files of a request, each of which is asked for by its name
abbrev pub Input : Type 0 → Type 1
Input A = Asking (List ℕ) InputRefusal A

-- a reading that was carried out on a shelf
abbrev pub ReadsInput : {A : Type 0} → ShelfState → ShelfState → Input A → Result A (Stop (List ℕ) InputRefusal)
    → Type 0
ReadsInput old new plan result = Reads (λ name. name) old new plan result

-- the refusal of a file: its name, and what is wrong with it
abbrev pub refused : List ℕ → FileFault → InputRefusal
refused name wrong = record { file = name; fault = wrong }

-- what a file of this name comes to, by what its content does: what is wrong with it goes with its name
abbrev pub OfFile : {V : Type 0} → List ℕ → Comes V FileFault → Comes V InputRefusal
OfFile name comes found (Ok value) = comes found (Ok value)
OfFile name comes found (Err refusal) = (wrong : FileFault) × comes found (Err wrong) × (refusal ≡ refused name wrong)

-- one file, of so many bytes at most, and what it comes to
abbrev pub file_within : {V : Type 0} → ℕ → List ℕ → Comes V FileFault → Input V
file_within most name comes = file_of name most (refused name (fault.TooLong most)) (OfFile name comes)

-- one file, of at most 1,048,576 bytes, and what it comes to
abbrev pub one_file : {V : Type 0} → List ℕ → Comes V FileFault → Input V
one_file name comes = file_within MAX_FILE name comes

-- the version of a package
unfoldable pub version_in : List ℕ → Input (List ℕ)
version_in folder = one_file (file_in folder of_package.Control) ControlComes

-- the files of a package
unfoldable pub list_in : List ℕ → Input (List EntryParts)
list_in folder = one_file (file_in folder of_package.List) ListComes

-- the files of a package, with its configuration files marked among these
unfoldable pub conffiles_in : List ℕ → List EntryParts → Input (List EntryParts)
conffiles_in folder entries = one_file (file_in folder of_package.Conffiles) (ConffilesCome entries)

-- a script of a package, with its text
unfoldable pub kept_script_in : List ℕ → ScriptKind → Input KeptScript
kept_script_in folder kind = one_file (file_in folder (of_package.Script kind)) KeptComes

-- scripts with their texts, apart
abbrev pub kept_apart : KeptScript → KeptScript → KeptScript → KeptScript → KeptScripts
kept_apart preinst postinst prerm postrm = record {
  scripts = record {
    preinst = preinst.script;
    postinst = postinst.script;
    prerm = prerm.script;
    postrm = postrm.script;
  };
  texts = record { preinst = preinst.text; postinst = postinst.text; prerm = prerm.text; postrm = postrm.text };
}

-- the scripts of a package, with their texts, in this order
unfoldable pub kept_scripts_in : List ℕ → Input KeptScripts
kept_scripts_in folder =
    and_then (kept_script_in folder Preinst) (λ preinst. and_then (kept_script_in folder Postinst) (λ postinst.
    and_then (kept_script_in folder Prerm) (λ prerm. and_then (kept_script_in folder Postrm) (λ postrm.
    done (Ok (kept_apart preinst postinst prerm postrm))))))

-- a package, with the texts of its scripts
abbrev pub kept_of : List ℕ → List EntryParts → KeptScripts → KeptPackage
kept_of version entries kept =
    record { own = record { version = version; entries = entries; scripts = kept.scripts }; texts = kept.texts }

-- the package in a folder that has this version: its files, its configuration files, its scripts with their texts
unfoldable pub kept_with : List ℕ → List ℕ → Input KeptPackage
kept_with folder version =
    and_then (list_in folder) (λ listed. and_then (conffiles_in folder listed) (λ entries.
    and_then (kept_scripts_in folder) (λ kept. done (Ok (kept_of version entries kept)))))

-- the package in a folder: its version, and all else
unfoldable pub kept_package_in : List ℕ → Input KeptPackage
kept_package_in folder = and_then (version_in folder) (λ version. kept_with folder version)

-- the version and the name of a package
unfoldable pub named_control_in : List ℕ → Input Control
named_control_in folder = one_file (file_in folder of_package.Control) NamedControlComes

-- the package in a folder, with its name
unfoldable pub named_package_in : List ℕ → Input NamedPackage
named_package_in folder =
    and_then (named_control_in folder) (λ control. and_then (kept_with folder control.version) (λ kept.
    done (Ok (record { name = control.name; own = kept.own }))))

-- the base: where none is named, the usual one, which is in no file
unfoldable pub base_in : Option (List ℕ) → Input Base
base_in None = done (Ok usual)
base_in (Some name) = one_file name BaseComes

-- that there is no old package
abbrev pub kept_none : KeptOld
kept_none = record { own = None; texts = None }

-- that there is one
abbrev pub kept_some : KeptPackage → KeptOld
kept_some own = record { own = Some own.own; texts = Some own.texts }

-- the old package, where one is named, with the texts of its scripts
unfoldable pub kept_old_in : Option (List ℕ) → Input KeptOld
kept_old_in None = done (Ok kept_none)
kept_old_in (Some folder) = and_then (kept_package_in folder) (λ own. done (Ok (kept_some own)))

-- packages, and where they come from
abbrev pub kept_all : Folders → Base → KeptOld → KeptPackage → Kept
kept_all folders base before own = record {
  packages = record { new_package = own.own; old_package = before.own; base = base; name = [] };
  sources = record { folders = folders; new_texts = own.texts; old_texts = before.texts };
}

-- the base, the old package, the new one, with the texts of the scripts
unfoldable pub kept_in : Folders → Input Kept
kept_in folders =
    and_then (base_in folders.base) (λ base. and_then (kept_old_in folders.old) (λ before.
    and_then (kept_package_in folders.dir) (λ own. done (Ok (kept_all folders base before own)))))

-- the same without where they come from: the new package's name is not asked for
unfoldable pub packages_in : Folders → Input Packages
packages_in folders = and_then (kept_in folders) (λ kept. done (Ok kept.packages))

-- the base, the new package with its name, the other one
unfoldable pub pair_in : List ℕ → List ℕ → Option (List ℕ) → Input Packages
pair_in dir other base =
    and_then (base_in base) (λ base. and_then (named_package_in dir) (λ own. and_then (kept_package_in other) (λ before.
    done (Ok (record { new_package = own.own; old_package = Some before.own; base = base; name = own.name })))))

-- the base, the package with its name
unfoldable pub twice_in : List ℕ → Option (List ℕ) → Input Packages
twice_in dir base =
    and_then (base_in base) (λ base. and_then (named_package_in dir) (λ own.
    done (Ok (record { new_package = own.own; old_package = None; base = base; name = own.name }))))

-- the tree of a run
unfoldable pub start_in : List ℕ → Input Value
start_in name = one_file name StartComes

-- the script that is translated
unfoldable pub translated_in : List ℕ → Input Script
translated_in name = one_file name TranslatedComes

-- what a request reads: its packages, and behind them the tree of a run; or the script that is translated; or nothing,
-- for a package that is made. The task has what else the request asks for. The files of a prediction are not read here.
unfoldable pub input : Request → Input Asked
input (request.Check folders scenario turns limit layout) =
    and_then (packages_in folders) (λ packages.
    done (Ok (asked.Task (task.Check packages scenario turns limit layout))))
input (request.Run folders tree scenario turns) =
    and_then (packages_in folders) (λ packages.
    and_then (start_in tree) (λ start. done (Ok (asked.Task (task.Run packages start scenario turns)))))
input (request.Translate name) =
    and_then (translated_in name) (λ script. done (Ok (asked.Task (task.Translate script))))
input (request.Load number limit) = done (Ok (asked.Task (task.Load number limit)))
input (request.Pair dir other base scenario turns limit) =
    and_then (pair_in dir other base) (λ packages. done (Ok (asked.Task (task.Pair packages scenario turns limit))))
input (request.Twice dir base turns limit) =
    and_then (twice_in dir base) (λ packages. done (Ok (asked.Task (task.Pair packages Twice turns limit))))
input (request.Predict report trees) = done (Ok (asked.Prediction report trees))
input (request.Explain folders scenario turns limit view) =
    and_then (kept_in folders) (λ kept.
    done (Ok (asked.Task (task.Explain kept.packages kept.sources scenario turns limit view))))

-- ---- what holds of a task

-- this holds of the task, where one is asked for
abbrev pub OfTask : (Task → Type 0) → Asked → Type 0
OfTask P (asked.Task task) = P task
OfTask P (asked.Prediction report trees) = Unit {0}

-- the number of a load is from 1 to MOST_LOAD
abbrev pub IsInRange : Request → Type 0
IsInRange (request.Check folders scenario turns limit layout) = Unit {0}
IsInRange (request.Run folders file scenario turns) = Unit {0}
IsInRange (request.Translate file) = Unit {0}
IsInRange (request.Load number limit) = (1 ≤ number) × (number ≤ MOST_LOAD)
IsInRange (request.Pair dir other base scenario turns limit) = Unit {0}
IsInRange (request.Twice dir base turns limit) = Unit {0}
IsInRange (request.Predict report trees) = Unit {0}
IsInRange (request.Explain folders scenario turns limit view) = Unit {0}

-- the tree of a run is a tree of files
abbrev pub HasTree : Task → Type 0
HasTree (task.Check packages scenario turns limit layout) = Unit {0}
HasTree (task.Run packages tree scenario turns) = IsTree tree
HasTree (task.Translate script) = Unit {0}
HasTree (task.Load number limit) = Unit {0}
HasTree (task.Pair packages scenario turns limit) = Unit {0}
HasTree (task.Explain packages sources scenario turns limit view) = Unit {0}

-- the tree of a run is a tree of files, and the number of a load is from 1 to MOST_LOAD
abbrev pub IsSound : Task → Type 0
IsSound (task.Check packages scenario turns limit layout) = Unit {0}
IsSound (task.Run packages tree scenario turns) = IsTree tree
IsSound (task.Translate script) = Unit {0}
IsSound (task.Load number limit) = (1 ≤ number) × (number ≤ MOST_LOAD)
IsSound (task.Pair packages scenario turns limit) = Unit {0}
IsSound (task.Explain packages sources scenario turns limit view) = Unit {0}

-- ---- what the code answers

-- what the file of this name holds, if it is there, of so many bytes at most, or why it was not read
abbrev pub FoundWithin : ℕ → List ℕ → ShelfState → ShelfState → Result Found (Stop (List ℕ) InputRefusal) → Type 0
FoundWithin most name old new (Ok found) = (found.name ≡ name)
    × ReadsInput old new (content name most (refused name (fault.TooLong most))) (Ok found.content)
FoundWithin most name old new (Err stop) =
    ReadsInput old new (content name most (refused name (fault.TooLong most))) (Err stop)

-- the same, of at most 1,048,576 bytes
abbrev pub FileFound : List ℕ → ShelfState → ShelfState → Result Found (Stop (List ℕ) InputRefusal) → Type 0
FileFound name old new result = FoundWithin MAX_FILE name old new result

-- how a call ends by what the content of a file came to, unless memory was missing
abbrev pub of_file : {V : Type 0} → List ℕ → Result (Result V FileFault) Memory → Result V (Stop (List ℕ) InputRefusal)
of_file name (Ok (Ok value)) = Ok value
of_file name (Ok (Err wrong)) = Err (Refused (refused name wrong))
of_file name (Err missing) = Err NoMemory
