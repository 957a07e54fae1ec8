use Rattle.std.proofs.Common.{◌≡◌, ℕ, ◌≤◌, ◌-◌, List, [], ◌∷◌, length, get_or, take, drop, map, Bor, IfOk, Option, Result, Ok, Err, ap, ◌∙◌, arith}
use Rattle.std.proofs.lemmas.List.{take_rest}
use Rattle.script_names.specs.declared.memory.Memory.{Memory}
use Rattle.scenario_runs.specs.declared.call.ScriptCall.{ScriptCall}
use Rattle.report_text.specs.PieceRead.{call_from, call_of_words}
use Rattle.report_reader.proofs.pieces.call_of_words.Goals as goal

words_are : (ws : List (Bor (List ℕ))) (d e : Bor (List ℕ)) → 3 ≤ length ws
    → call_from (get_or ws 1 d).now (get_or ws 2 e).now (map (λ word. word.now) (take (length ws - 3) (drop 3 ws))) ≡ call_of_words (map (λ word. word.now) ws)
words_are [] d e h = absurd (omega arith)
words_are (a ∷ []) d e h = absurd (omega arith)
words_are (a ∷ b ∷ []) d e h = absurd (omega arith)
words_are (a ∷ b ∷ c ∷ ws) d e h = ap (λ (rest : List (Bor (List ℕ))). call_from b.now c.now (map (λ word. word.now) rest)) (take_rest (a ∷ b ∷ c ∷ ws) 3)

turned : (r : Result (Option ScriptCall) Memory) (a b : Option ScriptCall) → a ≡ b → IfOk r (λ found. found ≡ a) → IfOk r (λ found. found ≡ b)
turned (Ok found) a b e h = h ∙ e
turned (Err m) a b e h = h

pub returns-in-len3-up : goal.returns-in-len3-up
returns-in-len3-up c =
    turned c.call_from.result _ (call_of_words (map (λ word. word.now) c.args.words.now)) (words_are c.args.words.now _ _ c.in-len3-up.len_at_least) c.call_from.ensures
