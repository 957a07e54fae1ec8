-- Names of commands: what a table finds, and a name for each command.
use Rattle.std.proofs.Common.{◌≡◌, ℕ, Bool, true, false, List, [], ◌∷◌, Option, Some, refl, sym, ap, ◌∙◌}
use Rattle.std.specs.Prelude.{codes, if◌then◌else◌, ◌||◌, ◌&&◌, ◌++◌}
use Rattle.std.specs.List.{list_any, list_all}
use Rattle.std.specs.Option.{is_some, option_map_or}
use Rattle.std.specs.Str.{bytes_eq}
use Rattle.script_names.specs.declared.command_names.Utility.{Utility}
use Rattle.script_names.specs.declared.command_names.Utility.TheVariants as utility
use Rattle.script_names.specs.declared.command_names.SpecialBuiltIn.{SpecialBuiltIn}
use Rattle.script_names.specs.declared.command_names.SpecialBuiltIn.TheVariants as special
use Rattle.script_names.specs.CommandNames.{Names, named, names_of, is_one_of, utility_named, special_named, special_built_ins, special_names, kept_utilities, free_utilities, keeps_name, is_kept_name}

if_found : {A : Type 0} (b : Bool) (it : A) (rest : Names A) (name : List ℕ) → is_some (named rest name) ≡ is_one_of name (names_of rest)
    → is_some (if b then Some it else named rest name) ≡ (b || is_one_of name (names_of rest))
if_found true it rest name e = refl
if_found false it rest name e = e

pub found : {A : Type 0} (names : Names A) (name : List ℕ) → is_some (named names name) ≡ is_one_of name (names_of names)
found [] name = refl
found ((other, it) ∷ rest) name = if_found (bytes_eq name other) it rest name (found rest name)

pub utility_name : (it : Utility) → (name : List ℕ) × (utility_named name ≡ Some it)
utility_name utility.True = (codes "true", refl)
utility_name utility.False = (codes "false", refl)
utility_name utility.Echo = (codes "echo", refl)
utility_name utility.MakeDir = (codes "mkdir", refl)
utility_name utility.RemoveDir = (codes "rmdir", refl)
utility_name utility.Remove = (codes "rm", refl)
utility_name utility.Touch = (codes "touch", refl)
utility_name utility.Link = (codes "ln", refl)
utility_name utility.Move = (codes "mv", refl)
utility_name utility.Test = (codes "test", refl)
utility_name utility.Bracket = (codes "[", refl)
utility_name utility.Unlink = (codes "unlink", refl)
utility_name utility.Install = (codes "install", refl)
utility_name utility.ChangeMode = (codes "chmod", refl)
utility_name utility.ChangeOwner = (codes "chown", refl)
utility_name utility.ChangeGroup = (codes "chgrp", refl)
utility_name utility.Copy = (codes "cp", refl)
utility_name utility.BaseName = (codes "basename", refl)
utility_name utility.DirName = (codes "dirname", refl)

pub special_name : (it : SpecialBuiltIn) → (name : List ℕ) × (special_named name ≡ Some it)
special_name special.Colon = (codes ":", refl)
special_name special.Break = (codes "break", refl)
special_name special.Continue = (codes "continue", refl)
special_name special.Exit = (codes "exit", refl)
special_name special.Return = (codes "return", refl)
special_name special.Set = (codes "set", refl)
special_name special.Export = (codes "export", refl)
special_name special.Unset = (codes "unset", refl)

either : (a b : Bool) → a || b ≡ false → (a ≡ false) × (b ≡ false)
either true b e = absurd (cc)
either false b e = (refl, e)

both : (a b : Bool) → a && b ≡ true → (a ≡ true) × (b ≡ true)
both true b e = (refl, e)
both false b e = absurd (cc)

-- a row, and what is so of the rows behind it, where functions may have all these names
free_row : (b : Bool) (it : Utility) (rest : Option Utility) → keeps_name it ≡ false
    → option_map_or keeps_name rest false ≡ false → option_map_or keeps_name (if b then Some it else rest) false ≡ false
free_row true it rest k e = k
free_row false it rest k e = e

none_kept : (rows : Names Utility) (name : List ℕ) → list_any (λ row. keeps_name row.1) rows ≡ false
    → option_map_or keeps_name (named rows name) false ≡ false
none_kept [] name e = refl
none_kept ((other, it) ∷ rest) name e =
    let h = either (keeps_name it) (list_any (λ row. keeps_name row.1) rest) e in
    free_row (bytes_eq name other) it (named rest name) h.0 (none_kept rest name h.1)

-- a row whose name no function may have, and what is so of the rows behind it
kept_row : (b : Bool) (it : Utility) (rest : Option Utility) (free : Bool) → keeps_name it ≡ true
    → is_some rest ≡ option_map_or keeps_name rest false || free
    → is_some (if b then Some it else rest) ≡ option_map_or keeps_name (if b then Some it else rest) false || free
kept_row true it rest free k e = sym (ap (λ x. x || free) k)
kept_row false it rest free k e = e

behind_kept : (rows more : Names Utility) (name : List ℕ) (free : Bool) → list_all (λ row. keeps_name row.1) rows ≡ true
    → is_some (named more name) ≡ option_map_or keeps_name (named more name) false || free
    → is_some (named (rows ++ more) name) ≡ option_map_or keeps_name (named (rows ++ more) name) false || free
behind_kept [] more name free k e = e
behind_kept ((other, it) ∷ rest) more name free k e =
    let h = both (keeps_name it) (list_all (λ row. keeps_name row.1) rest) k in
    kept_row (bytes_eq name other) it (named (rest ++ more) name) free h.0 (behind_kept rest more name free h.1 e)

or_last : (a b c : Bool) → (a || b) || c ≡ (a || c) || b
or_last true b c = refl
or_last false true true = refl
or_last false true false = refl
or_last false false true = refl
or_last false false false = refl

pub sorted : (name : List ℕ) → is_some (utility_named name) || is_some (special_named name)
    ≡ is_kept_name name || is_one_of name (names_of free_utilities)
sorted name =
    let free : Bool = is_one_of name (names_of free_utilities) in
    let e = found free_utilities name ∙ sym (ap (λ b. b || free) (none_kept free_utilities name refl)) in
    ap (λ b. is_some (utility_named name) || b) (found special_built_ins name)
    ∙ ap (λ b. b || is_one_of name special_names) (behind_kept kept_utilities free_utilities name free refl e)
    ∙ or_last (option_map_or keeps_name (utility_named name) false) free (is_one_of name special_names)
