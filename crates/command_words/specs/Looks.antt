-- What a word of a command line is, while options may come.
use Rattle.std.specs.Prelude.{ℕ, ◌==◌, List, [], ◌∷◌, codes, Option, Some, None, if◌then◌else◌}
use Rattle.std.specs.Str.{bytes_eq}
use Rattle.script_names.specs.Ascii.{equals}
use Rattle.command_words.specs.declared.field.Field.{Field}
use Rattle.command_words.specs.declared.field.Field.TheVariants as field
use Rattle.command_words.specs.declared.look.Look.{Look}
use Rattle.command_words.specs.declared.look.Look.TheVariants.{Says, Awaits, Ends, Unknown}
use Rattle.command_words.specs.Fields.{option_named}
use Rattle.command_words.specs.Values.{is_name, is_flag}

-- a byte put before the first of two parts
abbrev pub put_before : ℕ → Option (List ℕ × List ℕ) → Option (List ℕ × List ℕ)
put_before b None = None
put_before b (Some parts) = Some (b ∷ parts.0, parts.1)

-- what stands before the first equals sign, and behind it
abbrev pub cut : List ℕ → Option (List ℕ × List ℕ)
cut [] = None
cut (b ∷ bytes) = if b == equals then Some ([], bytes) else put_before b (cut bytes)

-- an option whose value is the next word
abbrev pub awaits : Option Field → Look
awaits None = Unknown
awaits (Some f) = Awaits f

-- an option with its value
abbrev pub says : Option Field → List ℕ → Look
says None text = Unknown
says (Some f) text = Says (record { field = f; text = text })

-- a word, by the parts round its equals sign
abbrev pub parted : List ℕ → Option (List ℕ × List ℕ) → Look
parted word None = awaits (option_named word)
parted word (Some parts) = says (option_named parts.0) parts.1

-- a word that begins with a dash and is no flag
abbrev pub option_look : List ℕ → Look
option_look word = parted word (cut word)

-- a word
abbrev pub look : List ℕ → Look
look word =
    if is_name word then Says (record { field = field.Named; text = word })
    else (if bytes_eq word (codes "--") then Ends
    else (if is_flag word then Says (record { field = field.Layout; text = word }) else option_look word))
