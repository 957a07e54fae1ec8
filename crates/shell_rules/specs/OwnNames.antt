-- Of the variables that a shell sets or gives a meaning of its own (POSIX.1-2017, XCU 2.5.3 Shell Variables, and what
-- shells have beside these) those on which shells are known to differ. The list is this program's own.
use Rattle.std.specs.Prelude.{ℕ, Bool, ◌||◌, nat_eq, List, [], ◌∷◌, codes}
use Rattle.std.specs.List.{list_any, starts_with}
use Rattle.std.specs.Str.{bytes_eq}

-- the names, but for those that begin with BASH
abbrev pub own_names : List (List ℕ)
own_names =
    codes "IFS" ∷ codes "PATH" ∷ codes "HOME" ∷ codes "PWD" ∷ codes "OLDPWD" ∷ codes "PPID" ∷ codes "OPTIND" ∷
    codes "OPTARG" ∷ codes "OPTERR" ∷ codes "PS1" ∷ codes "PS2" ∷ codes "PS3" ∷ codes "PS4" ∷ codes "LINENO" ∷
    codes "RANDOM" ∷ codes "SRANDOM" ∷ codes "SECONDS" ∷ codes "EPOCHSECONDS" ∷ codes "EPOCHREALTIME" ∷
    codes "UID" ∷ codes "EUID" ∷ codes "GROUPS" ∷ codes "HOSTNAME" ∷ codes "HOSTTYPE" ∷ codes "MACHTYPE" ∷
    codes "OSTYPE" ∷ codes "SHELL" ∷ codes "SHELLOPTS" ∷ codes "SHLVL" ∷ codes "TERM" ∷ codes "DIRSTACK" ∷
    codes "FUNCNAME" ∷ codes "PIPESTATUS" ∷ codes "COMP_WORDBREAKS" ∷ codes "COLUMNS" ∷ codes "LINES" ∷
    codes "HISTCMD" ∷ codes "HISTFILE" ∷ codes "HISTSIZE" ∷ codes "HISTFILESIZE" ∷ codes "MAILCHECK" ∷
    codes "_" ∷ []

-- a name that begins with BASH, or one of the list
abbrev pub is_shells_own : List ℕ → Bool
is_shells_own name = starts_with nat_eq name (codes "BASH") || list_any (λ own. bytes_eq own name) own_names
