-- What the readers of a script say, put together as what its text is.
use Rattle.std.proofs.Common.{◌≡◌, ℕ, List, [], Option, Some, Result, Ok, sym, subst}
use Rattle.shell_syntax.specs.declared.script.Script.{Script}
use Rattle.shell_lexer.specs.declared.token.Lexed.{Lexed}
use Rattle.shell_lexer.specs.Lexed.{Cut}
use Rattle.shell_lexer.proofs.Unlimited.{cut_free}
use Rattle.shell_grammar.specs.Spelling.{Spells, SpellsWithin}
use Rattle.shell_forms.specs.First.{script_forms}
use Rattle.shell_forms.specs.Spelled.{IsSpelled}
use Rattle.checker_input.specs.declared.script.ScriptFault.{ScriptFault}
use Rattle.checker_input.specs.Script.{IsScript, IsAccepted, TextComes}
use Rattle.checker_input.specs.Input.{KeptComes}

module _ (text : List ℕ) (lexed : Lexed) (script : Script) (cut : Cut text lexed) (strict : script.strict ≡ lexed.strict) where
  pub is_spelled : Spells lexed.end lexed.tokens script.body → IsSpelled script
  is_spelled spells = record { text = text; lexed = lexed; cut = cut_free text lexed cut; spells = spells; strict = strict }

  pub is_script : SpellsWithin lexed.end lexed.tokens script.body → IsScript text script
  is_script spells = record { lexed = lexed; cut = cut; spells = spells; strict = strict }

  -- the script that was accepted is the one that was read
  pub is_accepted : (accepted : Script) → SpellsWithin lexed.end lexed.tokens script.body → accepted ≡ script
      → script_forms script.body ≡ [] → IsAccepted text accepted
  is_accepted accepted spells same none =
      subst (IsAccepted text) (sym same) (record { is_script = is_script spells; none = none })

-- a script that is accepted, kept with its text
pub kept_comes : (found : Option (List ℕ)) (text read : List ℕ) (came : Result Script ScriptFault) (script : Script)
    (a : Option Script) (b : Option (List ℕ)) → found ≡ Some text → read ≡ text → TextComes read came → came ≡ Ok script
    → a ≡ Some script → b ≡ Some text → KeptComes found (Ok (record { script = a; text = b }))
kept_comes found text read came script a b is same comes ok first second =
    let accepted : IsAccepted text script =
    subst (TextComes text) ok (subst (λ (t : List ℕ). TextComes t came) same comes) in
    subst (λ (f : Option (List ℕ)). KeptComes f (Ok (record { script = a; text = b }))) (sym is)
    (script, accepted, λ i. record { script = first i; text = second i })
