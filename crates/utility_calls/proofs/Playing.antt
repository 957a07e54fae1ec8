-- A decision played behind a trace and acts.
use Rattle.std.proofs.Common.{◌≡◌, List, [], ◌∷◌, ◌++◌, sym, ap, ◌∙◌, append_assoc, append-nil}
use Rattle.script_names.specs.declared.mark.Mark.{Mark}
use Rattle.script_names.specs.declared.reason.Done.{Done}
use Rattle.feature_trees.specs.declared.value.Value.{Value}
use Rattle.utility_calls.specs.declared.acts.Act.{Act}
use Rattle.utility_calls.specs.Acts.{row, tree_after}
use Rattle.utility_calls.specs.Decisions.{Decision, Decided, Asks, Played, mark_at, play, behind}

-- a played decision with another trace and other acts
abbrev told : {A : Type 0} → Played A → List Mark → List Act → Played A
told p trace acts = record p { trace = trace; acts = acts }

told_same :
    {A : Type 0} (p : Played A) {t u : List Mark} {a b : List Act}
    → t ≡ u → a ≡ b → told p t a ≡ told p u b
told_same p {t = t} {b = b} same_trace same_acts = ap (λ acts. told p t acts) same_acts ∙ ap (λ trace. told p trace b) same_trace

pub plays_behind :
    {A : Type 0} (d : Decision A) (tree : Value) (trace : List Mark) (acts : List Act)
    → play d tree trace acts ≡ behind trace acts (play d tree [] [])
plays_behind (Decided value) tree trace acts =
    told_same (play (Decided value) tree [] []) (sym (append-nil trace)) (sym (append-nil acts))
plays_behind (Asks site act next) tree trace acts =
    let answer : Done = (row act tree).answer in
    let mark : Mark = mark_at site act tree in
    let after : Value = tree_after act tree in
    let rest : Played _ = play (next answer) after [] [] in
    plays_behind (next answer) after (trace ++ mark ∷ []) (acts ++ act ∷ [])
    ∙ told_same rest (append_assoc trace (mark ∷ []) rest.trace) (append_assoc acts (act ∷ []) rest.acts)
    ∙ sym (ap (behind trace acts) (plays_behind (next answer) after (mark ∷ []) (act ∷ [])))
