-- A word further along a line.
use Rattle.std.proofs.Common.{◌≡◌, ℕ, suc, ◌+◌, ◌<◌, List, ◌∷◌, length, drop, get_or, Option, Some, None, Result, Err, sym, ap, ◌∙◌, arith, drop-cons}
use Rattle.command_words.specs.declared.field.Command.{Command}
use Rattle.command_words.specs.declared.read.Begun.{Begun}
use Rattle.command_words.specs.Words.{step, after}

-- a word with which the line goes on
pub after_step : (command : Command) (begun next : Begun) (word : List ℕ) (words : List (List ℕ)) (n : ℕ)
    → step command begun word ≡ Some next → after command begun (word ∷ words) n ≡ after command next words (n + 1)
after_step command begun next word words n e =
    let go : Option Begun → Result Begun ℕ = λ o. elim o as (λ _. Result Begun ℕ) [ None ↦ Err n | Some b ↦ after command b words (n + 1) ] in
    ap go e

pub advance : (command : Command) (begun next : Begun) (words : List (List ℕ)) (i : ℕ) (d : List ℕ) (wanted : Result Begun ℕ)
    → i < length words → step command begun (get_or words i d) ≡ Some next → after command begun (drop i words) (i + 2) ≡ wanted
    → after command next (drop (i + 1) words) (i + 1 + 2) ≡ wanted
advance command begun next words i d wanted lt e h =
    let n : i + 2 + 1 ≡ i + 1 + 2 = omega arith in
    let k : suc i ≡ i + 1 = omega arith in
    ap (λ m. after command next (drop (i + 1) words) m) (sym n)
    ∙ ap (λ j. after command next (drop j words) (i + 2 + 1)) (sym k)
    ∙ sym (after_step command begun next (get_or words i d) (drop (suc i) words) (i + 2) e)
    ∙ ap (λ ws. after command begun ws (i + 2)) (sym (drop-cons words i d lt)) ∙ h
