-- Command lines that a page shows, to be copied into a shell: the words of the request in the order of its usage.
use Rattle.std.specs.Prelude.{ℕ, Bool, false, ◌&&◌, ◌||◌, ◌==◌, nat_le, List, [], ◌∷◌, ◌++◌, length, codes, Option, Some, None}
use Rattle.std.specs.Prelude.{if◌then◌else◌}
use Rattle.std.specs.List.{flat_map, list_all}
use Rattle.std.specs.Fmt.{decimal}
use Rattle.script_names.specs.Ascii.{single_quote}
use Rattle.dpkg_scenarios.specs.declared.scenario.Scenario.{Scenario}
use Rattle.dpkg_scenarios.specs.Names.{scenario_name}
use Rattle.command_words.specs.declared.limits.TheConstants.{USUAL_TURNS}
use Rattle.checker_input.specs.declared.sources.Sources.{Sources}
use Rattle.html_texts.specs.Escaped.{html_text}
use Rattle.explanation_pages.specs.Joined.{three, seven}

-- ---- words of a shell (POSIX, XCU 2.2)

-- a byte that means itself wherever it stands in a word: a letter, a digit, or one of `+ , - . / : @ _`
abbrev pub is_bare : ℕ → Bool
is_bare b =
    (nat_le 97 b && nat_le b 122)
    || ((nat_le 64 b && nat_le b 90) || ((nat_le 43 b && nat_le b 58) || (b == 95)))

-- a word that is written as it is: not one without bytes
abbrev pub is_bare_word : List ℕ → Bool
is_bare_word word = if length word == 0 then false else list_all is_bare word

-- a byte of a word between single quotes; a single quote stands behind them, and others begin again
abbrev pub quoted_byte : ℕ → List ℕ
quoted_byte b = if b == single_quote then codes "'\\''" else b ∷ []

-- a word between single quotes
unfoldable pub quoted_word : List ℕ → List ℕ
quoted_word word = three (codes "'") (flat_map quoted_byte word) (codes "'")

-- a word
abbrev pub shell_word : List ℕ → List ℕ
shell_word word = if is_bare_word word then word else quoted_word word

-- ---- options

-- an option with a name, where it was said
abbrev pub said_option : List ℕ → Option (List ℕ) → List ℕ
said_option option None = []
said_option option (Some name) = option ++ shell_word name

-- the folders and the base
unfoldable pub folders_words : Sources → List ℕ
folders_words sources =
    three (shell_word sources.folders.dir) (said_option (codes " --old ") sources.folders.old)
    (said_option (codes " --base ") sources.folders.base)

-- the turns of loops, where they are others than usual
unfoldable pub turns_words : ℕ → List ℕ
turns_words turns = if turns == USUAL_TURNS then [] else codes " --turns " ++ decimal turns

-- ---- the lines

-- the command line of the report
unfoldable pub check_line : Sources → ℕ → List ℕ
check_line sources turns = three (codes "colis check ") (folders_words sources) (turns_words turns)

-- the command line that shows an outcome whole, by its number
unfoldable pub outcome_line : Sources → ℕ → Scenario → ℕ → List ℕ
outcome_line sources turns scenario number =
    seven (codes "colis explain ") (folders_words sources) (codes " --scenario ") (scenario_name scenario)
    (turns_words turns) (codes " --outcome ") (decimal number)

-- a command line in a page
unfoldable pub command_html : List ℕ → List ℕ
command_html line = three (codes "<code>") (html_text line) (codes "</code>")
