-- What the parts of a command answer.
use Rattle.std.proofs.Common.{◌≡◌, ℕ, Bool, true, false, ◌<◌, ◌||◌, if◌then◌else◌, List, [], ◌∷◌, map, length, Result, Ok, refl, sym, ap, ◌∙◌, subst, arith}
use Rattle.std.specs.List.{list_any}
use Rattle.shell_words.specs.declared.letter.Letter.{Letter}
use Rattle.shell_words.specs.Patterns.{Decides, items}
use Rattle.script_names.specs.declared.reason.Reason.TheVariants as reason
use Rattle.shell_rules.specs.State as st
use Rattle.shell_rules.specs.Cases.{matches, pattern_answer}
use Rattle.shell_rules.specs.Calls.{do_call_of, do_planned}
use Rattle.shell_rules.specs.Planned.{planned}
use Rattle.shell_rules.specs.declared.spelled.Spelled.{Spelled}
use Rattle.shell_rules.proofs.PatternMatches.{passes_matches, matches_passes}
use Rattle.utility_calls.specs.declared.planned.Planned.{Planned}
use Rattle.colis_interp.specs.declared.shell.Shell.{Shell}
use Rattle.colis_interp.specs.declared.halt.Halt.{Halt}
use Rattle.colis_interp.specs.Runs.{Runs, state_of}

-- some of what a list is mapped to
pub any_map : {A B : Type 0} (p : B → Bool) (f : A → B) (xs : List A) → list_any p (map f xs) ≡ list_any (λ x. p (f x)) xs
any_map p f [] = refl
any_map p f (x ∷ xs) = ap (λ b. p (f x) || b) (any_map p f xs)

same_bool : (a b : Bool) → (a ≡ true → b ≡ true) → (b ≡ true → a ≡ true) → a ≡ b
same_bool true b h k = sym (h refl)
same_bool false true h k = k refl
same_bool false false h k = refl

-- a pattern that was decided
pub decided : (letters : List Letter) (subject : List ℕ) (answer : Bool) (p : st.Place) (s : Shell) → Decides (Ok answer) letters subject
    → pattern_answer subject letters p (state_of s) ≡ st.Go answer (state_of s)
decided letters subject answer p s h =
    ap (λ b. if b then st.stopped reason.Pattern p (state_of s) else st.Go (matches (items letters) subject) (state_of s)) h.0
    ∙ ap (λ b. st.Go b (state_of s)) (same_bool (matches (items letters) subject) answer
    (λ e. h.1.1 (passes_matches (items letters) subject e)) (λ e. matches_passes (items letters) subject (h.1.0 e)))

-- a command with fields
pub called : (spelled : Spelled) (fields : List (List ℕ)) (plan : Planned) (p : st.Place) (s : st.State) (r : Result (Unit {0}) Halt) (t : Shell) → 0 < length fields
    → plan ≡ planned s.conc.premises p.functions spelled fields
    → Runs (do_planned plan p s) r t → Runs (do_call_of spelled fields p s) r t
called spelled [] plan p s r t lt e h = absurd (omega arith)
called spelled (name ∷ words) plan p s r t lt e h = subst (λ x. Runs (do_planned x p s) r t) e h
