-- Which stated commands the scripts name where a command can begin: the calls that are stated to end so, in a run or not.
use Rattle.std.specs.Prelude.{ℕ, true, ◌==◌, List, [], ◌∷◌, ◌++◌, length, codes, if◌then◌else◌}
use Rattle.std.specs.List.{flat_map}
use Rattle.shown_texts.specs.Lines.{line}
use Rattle.shown_texts.specs.Paths.{path_text}
use Rattle.shown_texts.specs.Show.{show}
use Rattle.utility_calls.specs.declared.stated_call.StatedCall.{StatedCall}
use Rattle.utility_calls.specs.declared.stated_call.CallEnd.{CallEnd}
use Rattle.utility_calls.specs.declared.stated_call.CallEnd.TheVariants.{Succeeds, Fails, Asks}
use Rattle.dpkg_scenarios.specs.declared.scenario.ScriptKind.{ScriptKind}
use Rattle.dpkg_scenarios.specs.declared.scenario.ScriptKind.TheVariants.{Preinst, Postinst, Prerm, Postrm}
use Rattle.dpkg_scenarios.specs.declared.scenario.Side.{Side}
use Rattle.dpkg_scenarios.specs.declared.scenario.Side.TheVariants.{New, Old}
use Rattle.checker_input.specs.declared.sources.Sources.{Sources}
use Rattle.system_base.specs.declared.base.Base.{Base}
use Rattle.script_places.specs.WordPlaces.{first_words}
use Rattle.explanation.specs.CommandWords.{named_from, unquoted}
use Rattle.explanation.specs.Scripts.{script_text}

-- the words of a script with which commands can begin, without quotes, in lines of their own
unfoldable pub script_words : Sources → Side → ScriptKind → List ℕ
script_words sources side script = line (unquoted (first_words (script_text sources side script)))

-- those of the scripts of a package
unfoldable pub side_words : Sources → Side → List ℕ
side_words sources side =
    script_words sources side Preinst
    ++ script_words sources side Postinst
    ++ script_words sources side Prerm
    ++ script_words sources side Postrm

-- those of all scripts
unfoldable pub all_words : Sources → List ℕ
all_words sources = side_words sources New ++ side_words sources Old

-- a path between texts
unfoldable pub around_path : List ℕ → List (List ℕ) → List ℕ → List ℕ
around_path before names behind = before ++ path_text names ++ behind

-- how the calls end that are not stated to succeed
abbrev pub end_text : CallEnd → List ℕ
end_text Succeeds = []
end_text Fails = codes " (fails)"
end_text (Asks path) =
    around_path (codes " (asks ") path.names
    (codes ": succeeds where something stands at this place, which is its answer)")

-- the name of a stated command, and how its calls end
unfoldable pub stated_text : StatedCall → List ℕ
stated_text stated = codes " " ++ show stated.name ++ end_text stated.end

-- the same, where the name stands in a text
unfoldable pub named_text : List ℕ → StatedCall → List ℕ
named_text words stated = if named_from true stated.name words then stated_text stated else []

-- those that stand there
abbrev pub named_texts : List ℕ → List StatedCall → List ℕ
named_texts words calls = flat_map (named_text words) calls

-- that there are some
abbrev pub some_named : List ℕ → List ℕ
some_named names = codes "  Stated commands that the scripts name:" ++ names ++ line []

-- a line of them, or that there are none
unfoldable pub named_line : List ℕ → List ℕ
named_line names =
    if length names == 0 then line (codes "  The scripts name no stated command.") else some_named names

-- the same, where commands are stated
unfoldable pub stated_line : Sources → List StatedCall → List ℕ
stated_line sources calls =
    if length calls == 0 then [] else named_line (named_texts (all_words sources) calls)
