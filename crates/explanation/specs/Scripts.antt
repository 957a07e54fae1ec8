-- The scripts of the two packages: the names of their files, and their texts.
use Rattle.std.specs.Prelude.{ℕ, List, [], ◌++◌, codes}
use Rattle.std.specs.Option.{unwrap_or}
use Rattle.shown_texts.specs.Show.{show}
use Rattle.dpkg_scenarios.specs.declared.scenario.ScriptKind.{ScriptKind}
use Rattle.dpkg_scenarios.specs.declared.scenario.Side.{Side}
use Rattle.dpkg_scenarios.specs.declared.scenario.Side.TheVariants.{New, Old}
use Rattle.dpkg_scenarios.specs.declared.scripts.Scripts.{Scripts}
use Rattle.dpkg_scenarios.specs.Names.{script_name}
use Rattle.dpkg_scenarios.specs.Scripts.{script_of}
use Rattle.checker_input.specs.declared.sources.Sources.{Sources}

-- the folder of one of the packages, as it was named; without an old one it is the new one's
abbrev pub folder_of : Sources → Side → List ℕ
folder_of sources New = sources.folders.dir
folder_of sources Old = unwrap_or sources.folders.old sources.folders.dir

-- the texts of its scripts
abbrev pub texts_of : Sources → Side → Scripts (List ℕ)
texts_of sources New = sources.new_texts
texts_of sources Old = unwrap_or sources.old_texts sources.new_texts

-- the name of a script's file
abbrev pub script_file : Sources → Side → ScriptKind → List ℕ
script_file sources side script = show (folder_of sources side) ++ codes "/" ++ script_name script

-- the text of a script; no bytes, where the package has none
abbrev pub script_text : Sources → Side → ScriptKind → List ℕ
script_text sources side script = unwrap_or (script_of script (texts_of sources side)) []
