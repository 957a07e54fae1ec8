-- A line that states no call leaves the stated calls as they are.
use Rattle.std.proofs.Common.{◌≡◌, refl, sym, ap, ◌∙◌, subst, ℕ, Bool, true, false, nat_eq, List, Option, Some, None, drop}
use Rattle.std.proofs.Common.{Result, Ok, Err, OnOk, codes, if◌then◌else◌, true≢false}
use Rattle.std.specs.List.{starts_with}
use Rattle.feature_trees.specs.declared.kind.Kind.TheVariants.{Absent, Reg, Dir}
use Rattle.feature_trees.specs.declared.kind.Kinds.{Kinds}
use Rattle.feature_trees.specs.Kinds.{of, but}
use Rattle.script_names.specs.Paths.{PathParts}
use Rattle.link_walks.specs.Links.{LinkParts, known_link}
use Rattle.package_lists.specs.declared.fault.LineFault.{LineFault}
use Rattle.package_lists.specs.Faults.{IsLeft}
use Rattle.package_lists.specs.Paths.{path_of}
use Rattle.system_base.specs.declared.base.Base.{Base}
use Rattle.system_base.specs.Bases.{is_passed, with_path, with_path_line, Halves, halves, with_own, with_known_link}
use Rattle.system_base.specs.Bases.{with_link_to, with_link, with_call, with_word, with_words, word_or, with_line}
use Rattle.system_base.specs.Read.{WordLeft}

-- the calls of a base that a line gives are those of the one before it
abbrev pub Keeps : Base → Result Base LineFault → Type 0
Keeps base (Ok more) = more.calls ≡ base.calls
Keeps base (Err fault) = Unit {0}

-- of two answers of which each keeps them, either does
keeps_either : (b : Bool) (base : Base) (x y : Result Base LineFault) → Keeps base x → Keeps base y
    → Keeps base (if b then x else y)
keeps_either true base x y kx ky = kx
keeps_either false base x y kx ky = ky

path_keeps : (n : ℕ) (base : Base) (kinds : Kinds) (path : Option PathParts) → Keeps base (with_path n base kinds path)
path_keeps n base kinds None = tt
path_keeps n base kinds (Some path) = refl

path_line_keeps : (n : ℕ) (base : Base) (line : List ℕ) → Keeps base (with_path_line n base line)
path_line_keeps n base line =
    keeps_either (starts_with nat_eq line (codes "dir ")) base _ _ (path_keeps n base (of Dir) (path_of (drop 4 line)))
    (keeps_either (starts_with nat_eq line (codes "file ")) base _ _
    (path_keeps n base (of Reg) (path_of (drop 5 line)))
    (keeps_either (starts_with nat_eq line (codes "absent ")) base _ _
    (path_keeps n base (of Absent) (path_of (drop 7 line)))
    (keeps_either (starts_with nat_eq line (codes "nodir ")) base _ _
    (path_keeps n base (but Dir) (path_of (drop 6 line))) tt)))

own_keeps : (n : ℕ) (base : Base) (path : Option PathParts) → Keeps base (with_own n base path)
own_keeps n base None = tt
own_keeps n base (Some path) = refl

known_link_keeps : (n : ℕ) (base : Base) (link : Option LinkParts) → Keeps base (with_known_link n base link)
known_link_keeps n base None = tt
known_link_keeps n base (Some link) = refl

link_to_keeps : (n : ℕ) (base : Base) (path : Option PathParts) (target : List ℕ)
    → Keeps base (with_link_to n base path target)
link_to_keeps n base None target = tt
link_to_keeps n base (Some path) target = known_link_keeps n base (known_link path target)

link_keeps : (n : ℕ) (base : Base) (two : Option Halves) → Keeps base (with_link n base two)
link_keeps n base None = tt
link_keeps n base (Some two) = link_to_keeps n base (path_of two.0) two.1

-- what a line says whose first word stands before a space, where that is not `call`
words_keep : (n : ℕ) (base : Base) (line : List ℕ) → starts_with nat_eq line (codes "call ") ≡ false
    → Keeps base (with_words n base line)
words_keep n base line e =
    subst (λ b. Keeps base (if b then with_call n base (halves (drop 5 line))
    else (if starts_with nat_eq line (codes "link ") then with_link n base (halves (drop 5 line))
    else (if starts_with nat_eq line (codes "own ") then with_own n base (path_of (drop 4 line))
    else with_path_line n base line)))) (sym e)
    (keeps_either (starts_with nat_eq line (codes "link ")) base _ _ (link_keeps n base (halves (drop 5 line)))
    (keeps_either (starts_with nat_eq line (codes "own ")) base _ _ (own_keeps n base (path_of (drop 4 line)))
    (path_line_keeps n base line)))

-- the base that is left has the calls that it had
kept_on_ok : (base new : Base) (wanted : Result Base LineFault) (result : Result (Unit {0}) LineFault)
    → Keeps base wanted → IsLeft wanted new result → OnOk result (new.calls ≡ base.calls)
kept_on_ok base new wanted (Ok done) k e = subst (Keeps base) e k
kept_on_ok base new wanted (Err fault) k e = tt

pub left_calls : (n : ℕ) (base new : Base) (line : List ℕ) (result : Result (Unit {0}) LineFault)
    → starts_with nat_eq line (codes "call ") ≡ false → IsLeft (with_words n base line) new result
    → OnOk result (new.calls ≡ base.calls)
left_calls n base new line result e left = kept_on_ok base new (with_words n base line) result (words_keep n base line e) left

-- where no line of one word was added, there was none, and the base is as before
pub no_word : (word : Option Base) (old new : Base) (added : Bool) → WordLeft word old new added → added ≡ false
    → (word ≡ None) × (new ≡ old)
no_word (Some more) old new added left e = absurd (true≢false (sym left.0 ∙ e))
no_word None old new added left e = (refl, left.1)

-- a line that is not passed over and is none of one word says what its words say
pub line_words : (n : ℕ) (base : Base) (line : List ℕ) → is_passed line ≡ false → with_word base line ≡ None
    → with_line n base line ≡ with_words n base line
line_words n base line p w =
    ap (λ b. if b then Ok base else word_or n base line (with_word base line)) p ∙ ap (word_or n base line) w
