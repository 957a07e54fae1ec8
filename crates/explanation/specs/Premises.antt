-- Under which premises all is said: the base, how many lines of each sort it has, what it says of the whole system, and
-- which of the commands that it states the scripts name.
use Rattle.std.specs.Prelude.{ℕ, Bool, List, [], ◌++◌, length, codes, Option, Some, None, if◌then◌else◌}
use Rattle.std.specs.Fmt.{decimal}
use Rattle.shown_texts.specs.Lines.{line}
use Rattle.shown_texts.specs.Show.{show}
use Rattle.checker_input.specs.declared.sources.Sources.{Sources}
use Rattle.system_base.specs.declared.base.Base.{Base}
use Rattle.explanation.specs.StatedTexts.{stated_line}

-- a file's name, or that none was named
abbrev pub name_or_usual : Option (List ℕ) → List ℕ
name_or_usual None = codes "the usual base"
name_or_usual (Some name) = show name

-- the name of the base
abbrev pub base_name : Sources → List ℕ
base_name sources = name_or_usual sources.folders.base

-- how many lines of a sort there are
unfoldable pub number_of : ℕ → List ℕ → List ℕ
number_of count sort = codes ", " ++ decimal count ++ codes " " ++ sort

-- how many places that are known
unfoldable pub known_places : ℕ → List ℕ
known_places count = number_of count (codes "known places")

-- how many links that are known
unfoldable pub known_links : ℕ → List ℕ
known_links count = number_of count (codes "known links")

-- how many folders of its own
unfoldable pub own_folders : ℕ → List ℕ
own_folders count = number_of count (codes "own folders")

-- how many commands that are stated
unfoldable pub stated_commands : ℕ → List ℕ
stated_commands count = number_of count (codes "stated commands")

-- how many of each sort
unfoldable pub counts_text : Base → List ℕ
counts_text base =
    known_places (length base.known)
    ++ known_links (length base.links)
    ++ own_folders (length base.own)
    ++ stated_commands (length base.calls)

-- words, where this is said
unfoldable pub if_said : Bool → List ℕ → List ℕ
if_said said words = if said then words else []

-- the line of `fits`
unfoldable pub fits_line : Bool → List ℕ
fits_line said =
    if_said said (line (codes "  fits: what stands where the package's files go fits them"))

-- the line of `runs`
unfoldable pub runs_line : Bool → List ℕ
runs_line said =
    if_said said (line (codes "  runs: a regular file may be executed"))

-- the line of `removed`
unfoldable pub removed_line : Bool → List ℕ
removed_line said =
    if_said said (line (codes "  removed: before a later purge only configuration files are left"))

-- the line of `versions`
unfoldable pub versions_line : Bool → List ℕ
versions_line said =
    if_said said (line (codes "  versions: versions are compared as Debian does"))

-- the line of `plain`
unfoldable pub plain_line : Bool → List ℕ
plain_line said =
    if_said said (line (codes "  plain: what stands where scripts name files and folders is such a thing"))

-- what else is said
unfoldable pub said_text : Base → List ℕ
said_text base =
    fits_line base.fits
    ++ runs_line base.runs
    ++ removed_line base.removed
    ++ versions_line base.versions
    ++ plain_line base.plain

-- all of it
unfoldable pub premises_text : Sources → Base → List ℕ
premises_text sources base =
    line (codes "Premises: " ++ base_name sources ++ counts_text base)
    ++ said_text base
    ++ stated_line sources base.calls
    ++ line (codes "Not looked at: contents, modes and owners of files.")
