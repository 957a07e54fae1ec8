-- What each row of what is put back says, in words for people. "There" is its path. To be read beside the table of the
-- rows (utility_calls, specs/Backs.antt).
use Rattle.std.specs.Prelude.{ℕ, ◌==◌, List, [], codes, if◌then◌else◌}
use Rattle.utility_calls.specs.declared.backs.Back.{Back}
use Rattle.utility_calls.specs.declared.backs.Back.TheVariants.{Folder, File}
use Rattle.script_places.specs.ActWords.{is_from_to}

-- what is put back
abbrev pub back_name : Back → List ℕ
back_name (Folder p) = codes "putting back a folder"
back_name (File p) = codes "putting back a file"

-- a directory that may have been made
abbrev pub folder_words : ℕ → List ℕ
folder_words row =
    if row == 66 then codes "was there before, and stays"
    else (if row == 67 then codes "no directory stands there"
    else (if row == 68 then codes "it has an entry, and stays"
    else (if row == 69 then codes "taken away"
    else [])))

-- what may have been replaced
abbrev pub file_words : ℕ → List ℕ
file_words row =
    if row == 66 then codes "the directory above is missing or is none"
    else (if row == 67 then codes "a directory stands there, and stays"
    else (if row == 68 then codes "put back as it was"
    else (if row == 69 then codes "a directory was there before: nothing is put back"
    else [])))

-- the rows of a back's own table
abbrev pub own_back_words : Back → ℕ → List ℕ
own_back_words (Folder p) row = folder_words row
own_back_words (File p) row = file_words row

-- what a row of a back says
abbrev pub back_row_words : Back → ℕ → List ℕ
back_row_words back row =
    if is_from_to 1 63 row then codes "a link stands on the way" else own_back_words back row
