-- A translated script does what the script does.
use Rattle.std.proofs.Common.{◌≡◌, ℕ, Bool, true, false, ◌||◌, List, [], ◌∷◌, ◌++◌, map, Option, Some, None, is_some, refl, sym, ap, ◌∙◌, subst, if◌then◌else◌, append-nil}
use Rattle.std.specs.List.{list_any}
use Rattle.std.specs.Str.{bytes_eq}
use Rattle.std.proofs.lemmas.Slice.Eq.{bytes_eq-Decides}
use Rattle.script_names.specs.declared.mark.Mark.{Mark}
use Rattle.feature_trees.specs.declared.value.Value.{Value}
use Rattle.shell_syntax.specs.declared.script.Script.{Script}
use Rattle.shell_syntax.specs.declared.syntax.Command.{Command}
use Rattle.colis_syntax.specs.declared.def.Def.{Def}
use Rattle.colis_syntax.specs.WellFormed.{is_def}
use Rattle.colis_meaning.specs.Meaning.{co_stmt, co_program, funs_of, names_of}
use Rattle.shell_rules.specs.declared.state.Conc.{Conc}
use Rattle.shell_rules.specs.State.{Text, Action, Funs, with}
use Rattle.shell_rules.specs.Commands as rule
use Rattle.shell_rules.specs.Calls as calls
use Rattle.shell_rules.specs.Whole.{whole_run}
use Rattle.shell_to_colis.specs.Members.{defined_by, members_of}
use Rattle.shell_to_colis.specs.Translated.{translated, def_to, defs_behind, defs_to, body_statements, seq_to, program_of}
use Rattle.shell_to_colis.specs.Shell.{one_more, funs_with, members_do, is_one_of, names_with, names_behind, sh_script}
use Rattle.shell_to_colis.proofs.Nodes.{cong2, cong_cons, seq_same}
use Rattle.shell_to_colis.proofs.Same.{Fits, translated_same}

-- ---- functions of a program

-- the functions of these definitions
abbrev funs : List Def → Funs
funs defs = funs_of defs []

funs_end : (xs : List Def) (d : Def) (f : Funs) → funs_of (xs ++ d ∷ []) f ≡ ((d.name, co_stmt d.body (funs_of xs f)) ∷ funs_of xs f)
funs_end [] d f = refl
funs_end (x ∷ xs) d f = funs_end xs d ((x.name, co_stmt x.body f) ∷ f)

-- which names have a function
one_found : (b c d : Bool) (o : Option Action) (a : Action) → d ≡ (is_some (if b then Some a else o) || c) → d ≡ (is_some o || (b || c))
one_found true c d None a e = e
one_found true c d (Some x) a e = e
one_found false c d o a e = e

pub or_no : (b : Bool) → b ≡ (b || false)
or_no true = refl
or_no false = refl

found_in : (xs : List Def) (f : Funs) (x : Text) → is_some (calls.found x (funs_of xs f)) ≡ (is_some (calls.found x f) || is_def x xs)
found_in [] f x = or_no (is_some (calls.found x f))
found_in (d ∷ xs) f x = one_found (bytes_eq d.name x) (is_def x xs) _ (calls.found x f) (co_stmt d.body f) (found_in xs ((d.name, co_stmt d.body f) ∷ f) x)

fits_own : (defs : List Def) → Fits defs (funs defs) (funs defs)
fits_own defs x = (sym (found_in defs [] x), λ e. refl)

-- a definition of another name
differs : (x name : Text) (defs : List Def) → is_def x defs ≡ true → is_def name defs ≡ false → bytes_eq name x ≡ false
differs x name defs e h = elim (bytes_eq name x) as (λ b. bytes_eq name x ≡ b → b ≡ false) [
  | true ↦ λ k. absurd (cc (sym h ∙ ap (λ n. is_def n defs) ((bytes_eq-Decides name x).0 k) ∙ e))
  | false ↦ λ k. refl
] refl

def_kept : (b : Bool) (x name : Text) (d : Def) (defs : List Def) → name ≡ d.name → is_def name defs ≡ b → is_def x defs ≡ true
    → calls.found x (funs (defs ++ (if b then [] else d ∷ []))) ≡ calls.found x (funs defs)
def_kept true x name d defs n h e = ap (λ ds. calls.found x (funs ds)) (append-nil defs)
def_kept false x name d defs n h e =
    ap (calls.found x) (funs_end defs d [])
    ∙ ap (λ b. if b then Some (co_stmt d.body (funs defs)) else calls.found x (funs defs)) (ap (λ m. bytes_eq m x) (sym n) ∙ differs x name defs e h)

kept : (o : Option (Text × Command)) (x : Text) (defs : List Def) → is_def x defs ≡ true → calls.found x (funs (defs ++ def_to o defs)) ≡ calls.found x (funs defs)
kept None x defs e = ap (λ ds. calls.found x (funs ds)) (append-nil defs)
kept (Some d) x defs e = def_kept (is_def d.0 defs) x d.0 (record { name = d.0; body = translated d.1 defs }) defs refl refl e

pub or_more : (b c d : Bool) → (c ≡ true → d ≡ true) → (b || c) ≡ true → (b || d) ≡ true
or_more true c d h e = refl
or_more false c d h e = h e

pub any_more : (f : Def → Bool) (xs ys : List Def) → list_any f xs ≡ true → list_any f (xs ++ ys) ≡ true
any_more f [] ys e = absurd (cc e)
any_more f (x ∷ xs) ys e = or_more (f x) (list_any f xs) (list_any f (xs ++ ys)) (any_more f xs ys) e

-- later definitions hide none
later : (cs : List Command) (x : Text) (defs : List Def) → is_def x defs ≡ true → calls.found x (funs (defs_to cs defs)) ≡ calls.found x (funs defs)
later [] x defs e = refl
later (c ∷ cs) x defs e =
    later cs x (defs_behind c defs) (any_more _ defs (def_to (defined_by c) defs) e) ∙ kept (defined_by c) x defs e

fits_all : (cs : List Command) (defs : List Def) → Fits defs (funs defs) (funs (defs_to cs defs))
fits_all cs defs x = ((fits_own defs x).0, later cs x defs)

-- ---- the shell's functions are those of the program

more_same : (b : Bool) (o : Option Action) (d : Text × Command) (defs : List Def) → is_def d.0 defs ≡ b → b ≡ is_some o
    → one_more o d (funs defs) ≡ funs (defs ++ (if b then [] else record { name = d.0; body = translated d.1 defs } ∷ []))
more_same true None d defs h e = absurd (cc e)
more_same false (Some a) d defs h e = absurd (cc e)
more_same true (Some a) d defs h e = ap funs (sym (append-nil defs))
more_same false None d defs h e =
    ap (λ a. (d.0, a) ∷ funs defs) (sym (translated_same d.1 defs (funs defs) (funs defs) (fits_own defs)))
    ∙ sym (funs_end defs (record { name = d.0; body = translated d.1 defs }) [])

with_same : (o : Option (Text × Command)) (defs : List Def) → funs_with o (funs defs) ≡ funs (defs ++ def_to o defs)
with_same None defs = ap funs (sym (append-nil defs))
with_same (Some d) defs = more_same (is_def d.0 defs) (calls.found d.0 (funs defs)) d defs refl ((fits_own defs d.0).0)

members_same : (cs : List Command) (defs : List Def) (g : Funs) → funs (defs_to cs defs) ≡ g → with g (map co_stmt (body_statements cs defs)) ≡ members_do cs (funs defs)
members_same [] defs g e = refl
members_same (c ∷ cs) defs g e = cong_cons
    (translated_same c defs (funs defs) g (subst (Fits defs (funs defs)) e (fits_all (c ∷ cs) defs)))
    (members_same cs (defs_behind c defs) g e ∙ ap (members_do cs) (sym (with_same (defined_by c) defs)))

-- ---- their names

name_in : (x : Text) (defs : List Def) → is_def x defs ≡ is_one_of x (names_of defs)
name_in x [] = refl
name_in x (d ∷ defs) = ap (λ b. bytes_eq d.name x || b) (name_in x defs)

names_end : (xs ys : List Def) → names_of (xs ++ ys) ≡ names_of xs ++ names_of ys
names_end [] ys = refl
names_end (x ∷ xs) ys = ap (λ l. x.name ∷ l) (names_end xs ys)

if_names : (b : Bool) (d : Def) (defs : List Def) → names_of (defs ++ (if b then [] else d ∷ [])) ≡ (if b then names_of defs else names_of defs ++ d.name ∷ [])
if_names true d defs = ap names_of (append-nil defs)
if_names false d defs = names_end defs (d ∷ [])

one_name : (o : Option (Text × Command)) (defs : List Def) → names_of (defs ++ def_to o defs) ≡ names_with o (names_of defs)
one_name None defs = ap names_of (append-nil defs)
one_name (Some d) defs =
    if_names (is_def d.0 defs) (record { name = d.0; body = translated d.1 defs }) defs
    ∙ ap (λ b. if b then names_of defs else names_of defs ++ d.0 ∷ []) (name_in d.0 defs)

all_names : (cs : List Command) (defs : List Def) → names_of (defs_to cs defs) ≡ names_behind cs (names_of defs)
all_names [] defs = refl
all_names (c ∷ cs) defs = all_names cs (defs_behind c defs) ∙ ap (names_behind cs) (one_name (defined_by c) defs)

-- ---- the whole script

body_same : (cs : List Command) → co_stmt (seq_to (body_statements cs [])) (funs (defs_to cs [])) ≡ rule.do_all (members_do cs [])
body_same cs = seq_same (funs (defs_to cs [])) (body_statements cs []) ∙ ap rule.do_all (members_same cs [] (funs (defs_to cs [])) refl)

pub script_same : (script : Script) (step : ℕ) (conc : Conc) (tree : Value) (trace : List Mark)
    → sh_script script step conc tree trace ≡ co_program (program_of script) step conc tree trace
script_same script step conc tree trace =
    let cs = members_of script.body in
    cong2 (λ (body : Action) names. whole_run body step names conc tree trace) (sym (body_same cs)) (sym (all_names cs []))
