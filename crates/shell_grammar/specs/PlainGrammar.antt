-- The grammar of scripts, with a case for each production, from the top down (POSIX.1-2017, XCU 2.10.2 Shell Grammar
-- Rules). `IsList end ts body rest` says that ts is a list, whose tree is body, and then rest; likewise all others.
-- Nothing here looks ahead but two rules of the standard: a simple command takes every word and redirection behind it,
-- and `esac` begins no arm of a `case`. `end` is the offset at which the tokens end.
use Rattle.std.specs.Prelude.{◌≡◌, ℕ, Bool, true, false, List, [], ◌∷◌, Option, Some, None}
use Rattle.shell_syntax.specs.declared.redirect.Redirect.{Redirect}
use Rattle.shell_syntax.specs.declared.syntax.Command.{Command}
use Rattle.shell_syntax.specs.declared.syntax.Command.TheVariants as c
use Rattle.shell_syntax.specs.declared.syntax.Word.{Word}
use Rattle.shell_syntax.specs.declared.syntax.Part.{Part}
use Rattle.shell_syntax.specs.declared.syntax.Part.TheVariants as part
use Rattle.shell_syntax.specs.declared.syntax.Link.{Link}
use Rattle.shell_syntax.specs.declared.syntax.IfArm.{IfArm}
use Rattle.shell_syntax.specs.declared.syntax.CaseArm.{CaseArm}
use Rattle.shell_lexer.specs.declared.token.RawPart.{RawPart, out-RawPart}
use Rattle.shell_lexer.specs.declared.token.RawPart.TheOpen as raw
use Rattle.shell_grammar.specs.declared.items.Items.{Items}
use Rattle.shell_grammar.specs.declared.look.Look.{Look}
use Rattle.shell_grammar.specs.declared.look.Look.TheVariants.{Newline, Semi, DoubleSemi, AndAnd, OrOr, Bar}
use Rattle.shell_grammar.specs.declared.look.Look.TheVariants.{LeftParen, RightParen, Redirection, Keyword, Name}
use Rattle.shell_grammar.specs.declared.look.Look.TheVariants.{Assignment}
use Rattle.shell_grammar.specs.declared.look.Reserved.{Reserved}
use Rattle.shell_grammar.specs.declared.look.Reserved.TheVariants.{Open, Close, Bang, If, Then, Elif, Else, Fi, For}
use Rattle.shell_grammar.specs.declared.look.Reserved.TheVariants.{In, Do, Done, Case, Esac}
use Rattle.shell_grammar.specs.Forms.{is_word, is_name_word, loop_word, redirection}
use Rattle.shell_grammar.specs.Look.{Text, Tokens, look, word, behind, place}
use Rattle.shell_grammar.specs.Reading.{plainly}
use Rattle.shell_grammar.specs.Trees.{seq_of, pipe_of, chain_of, redirected, link, if_arm, case_arm, word_at}
use Rattle.shell_grammar.specs.Trees.{no_items, an_assign, a_word, a_redirect, joined, simple, word_text, assigned}

-- a token of this kind stands first, and these are the others
abbrev pub Stands : Look → Tokens → Tokens → Type 0
Stands kind ts rest = (look ts ≡ kind) × (rest ≡ behind ts)

-- newlines, perhaps none (linebreak, newline_list)
pub data AreNewlines : Tokens → Tokens → Type 0 where
  -- none
  no_newline : {ts rest : Tokens} → rest ≡ ts → AreNewlines ts rest
  -- a newline, and further ones
  newline : {ts t1 rest : Tokens} → Stands Newline ts t1 → AreNewlines t1 rest → AreNewlines ts rest

-- a separator: `;` or a newline, and newlines, perhaps none (separator, sequential_sep)
pub data IsSeparator : Tokens → Tokens → Type 0 where
  -- `;` newlines
  semicolon : {ts t1 rest : Tokens} → Stands Semi ts t1 → AreNewlines t1 rest → IsSeparator ts rest
  -- a newline, newlines
  line_end : {ts t1 rest : Tokens} → Stands Newline ts t1 → AreNewlines t1 rest → IsSeparator ts rest

-- redirections, perhaps none (redirect_list, io_redirect)
pub data AreRedirects : Tokens → List Redirect → Tokens → Type 0 where
  -- none
  no_redirect : {ts rest : Tokens} {rs : List Redirect} → rest ≡ ts → rs ≡ [] → AreRedirects ts rs rest
  -- a redirection, and further ones
  one_redirect : {ts t1 rest : Tokens} {rs : List Redirect} (which : Redirect) (rs1 : List Redirect)
      → Stands (Redirection which) ts t1 → AreRedirects t1 rs1 rest → rs ≡ which ∷ rs1 → AreRedirects ts rs rest

mutual
  -- script: newlines, and a list, which may be missing (program)
  pub data IsScript : ℕ → Tokens → Command → Type 0 where
    -- newlines alone
    no_script : {end : ℕ} {ts : Tokens} {body : Command} → AreNewlines ts [] → body ≡ c.Seq [] → IsScript end ts body
    -- newlines, a list
    a_script : {end : ℕ} {ts t1 : Tokens} {body : Command} → AreNewlines ts t1 → IsList end t1 body []
        → IsScript end ts body

  -- list: and-or lists with separators between them, and perhaps one at its end (complete_commands, list, term)
  pub data IsList : ℕ → Tokens → Command → Tokens → Type 0 where
    -- an and-or list, and what follows it
    a_list : {end : ℕ} {ts t1 rest : Tokens} {body : Command} (x : Command) (xs : List Command)
        → IsAndOr end ts x t1 → AreMembers end t1 xs rest → body ≡ seq_of (x ∷ xs) → IsList end ts body rest

  -- what follows its first member
  pub data AreMembers : ℕ → Tokens → List Command → Tokens → Type 0 where
    -- nothing
    no_member : {end : ℕ} {ts rest : Tokens} {xs : List Command} → rest ≡ ts → xs ≡ [] → AreMembers end ts xs rest
    -- a separator at the end
    last_separator : {end : ℕ} {ts rest : Tokens} {xs : List Command} → IsSeparator ts rest → xs ≡ []
        → AreMembers end ts xs rest
    -- a separator, an and-or list, and what follows it
    one_member : {end : ℕ} {ts t1 t2 rest : Tokens} {xs : List Command} (x : Command) (xs1 : List Command)
        → IsSeparator ts t1 → IsAndOr end t1 x t2 → AreMembers end t2 xs1 rest → xs ≡ x ∷ xs1
        → AreMembers end ts xs rest

  -- and-or list: pipelines with `&&` and `||` between them (and_or)
  pub data IsAndOr : ℕ → Tokens → Command → Tokens → Type 0 where
    -- a pipeline, and what follows it
    an_and_or : {end : ℕ} {ts t1 rest : Tokens} {body : Command} (x : Command) (links : List Link)
        → IsPipeline end ts x t1 → AreLinks end t1 links rest → body ≡ chain_of x links → IsAndOr end ts body rest

  -- what follows its first member
  pub data AreLinks : ℕ → Tokens → List Link → Tokens → Type 0 where
    -- nothing
    no_link : {end : ℕ} {ts rest : Tokens} {links : List Link} → rest ≡ ts → links ≡ [] → AreLinks end ts links rest
    -- `&&` newlines, a pipeline, and what follows it
    and_link : {end : ℕ} {ts t1 t2 t3 rest : Tokens} {links : List Link} (x : Command) (links1 : List Link)
        → Stands AndAnd ts t1 → AreNewlines t1 t2 → IsPipeline end t2 x t3 → AreLinks end t3 links1 rest
        → links ≡ link true x ∷ links1 → AreLinks end ts links rest
    -- `||` newlines, a pipeline, and what follows it
    or_link : {end : ℕ} {ts t1 t2 t3 rest : Tokens} {links : List Link} (x : Command) (links1 : List Link)
        → Stands OrOr ts t1 → AreNewlines t1 t2 → IsPipeline end t2 x t3 → AreLinks end t3 links1 rest
        → links ≡ link false x ∷ links1 → AreLinks end ts links rest

  -- pipeline: commands with `|` between them, perhaps behind `!` (pipeline)
  pub data IsPipeline : ℕ → Tokens → Command → Tokens → Type 0 where
    -- commands
    plain_pipeline : {end : ℕ} {ts rest : Tokens} {body : Command} → IsSequence end ts body rest
        → IsPipeline end ts body rest
    -- `!` commands
    not_pipeline : {end : ℕ} {ts t1 rest : Tokens} {body : Command} (x : Command) → Stands (Keyword Bang) ts t1
        → IsSequence end t1 x rest → body ≡ c.Not (place end ts) x → IsPipeline end ts body rest

  -- the same without `!` (pipe_sequence)
  pub data IsSequence : ℕ → Tokens → Command → Tokens → Type 0 where
    -- a command, and what follows it
    a_sequence : {end : ℕ} {ts t1 rest : Tokens} {body : Command} (x : Command) (xs : List Command)
        → IsCommand end ts x t1 → ArePiped end t1 xs rest → body ≡ pipe_of (place end ts) (x ∷ xs)
        → IsSequence end ts body rest

  -- what follows its first member
  pub data ArePiped : ℕ → Tokens → List Command → Tokens → Type 0 where
    -- nothing
    no_pipe : {end : ℕ} {ts rest : Tokens} {xs : List Command} → rest ≡ ts → xs ≡ [] → ArePiped end ts xs rest
    -- `|` newlines, a command, and what follows it
    one_pipe : {end : ℕ} {ts t1 t2 t3 rest : Tokens} {xs : List Command} (x : Command) (xs1 : List Command)
        → Stands Bar ts t1 → AreNewlines t1 t2 → IsCommand end t2 x t3 → ArePiped end t3 xs1 rest → xs ≡ x ∷ xs1
        → ArePiped end ts xs rest

  -- command: a simple one, a compound one with its redirections, or the definition of a function (command)
  pub data IsCommand : ℕ → Tokens → Command → Tokens → Type 0 where
    -- a simple command
    simple_command : {end : ℕ} {ts rest : Tokens} {body : Command} → IsSimple end ts body rest
        → IsCommand end ts body rest
    -- a compound command, redirections
    compound_command : {end : ℕ} {ts t1 rest : Tokens} {body : Command} (x : Command) (rs : List Redirect)
        → IsCompound end ts x t1 → AreRedirects t1 rs rest → body ≡ redirected (place end ts) x rs
        → IsCommand end ts body rest
    -- a name, `(` `)` newlines, `{` block `}`
    definition : {end : ℕ} {ts t1 t2 t3 t4 rest : Tokens} {body : Command} (w : Word) (x : Command)
        → look ts ≡ Name → IsWord end ts w t1 → Stands LeftParen t1 t2 → Stands RightParen t2 t3 → AreNewlines t3 t4
        → IsBraces end t4 x rest → body ≡ c.Define (place end ts) (word_text w) x → IsCommand end ts body rest

  -- block: a list behind newlines, perhaps none (compound_list)
  pub data IsBlock : ℕ → Tokens → Command → Tokens → Type 0 where
    -- newlines, a list
    a_block : {end : ℕ} {ts t1 rest : Tokens} {body : Command} → AreNewlines ts t1 → IsList end t1 body rest
        → IsBlock end ts body rest

  -- compound command (compound_command)
  pub data IsCompound : ℕ → Tokens → Command → Tokens → Type 0 where
    -- `{` block `}`
    brace_group : {end : ℕ} {ts rest : Tokens} {body : Command} → IsBraces end ts body rest
        → IsCompound end ts body rest
    -- `(` block `)`
    subshell : {end : ℕ} {ts t1 t2 rest : Tokens} {body : Command} (x : Command) → Stands LeftParen ts t1
        → IsBlock end t1 x t2 → Stands RightParen t2 rest → body ≡ c.Sub (place end ts) x → IsCompound end ts body rest
    -- `if` clause `fi`
    if_command : {end : ℕ} {ts t1 t2 rest : Tokens} {body : Command} (v : List IfArm × Option Command)
        → Stands (Keyword If) ts t1 → IsClause end t1 v t2 → Stands (Keyword Fi) t2 rest
        → body ≡ c.If (place end ts) v.0 v.1 → IsCompound end ts body rest
    -- `for` name, newlines, perhaps words, `do` block `done`
    for_loop : {end : ℕ} {ts t1 t2 t3 t4 t5 t6 rest : Tokens} {body : Command} (name : Text)
        (words : Option (List Word)) (x : Command) → Stands (Keyword For) ts t1 → IsName end t1 name t2
        → AreNewlines t2 t3 → AreForWords end t3 words t4 → Stands (Keyword Do) t4 t5 → IsBlock end t5 x t6
        → Stands (Keyword Done) t6 rest → body ≡ c.For (place end ts) name words x → IsCompound end ts body rest
    -- `while` or `until`, block, `do` block `done`
    while_loop : {end : ℕ} {ts t1 t2 t3 t4 rest : Tokens} {body : Command} (until : Bool) (cond x : Command)
        → Stands (loop_word until) ts t1 → IsBlock end t1 cond t2 → Stands (Keyword Do) t2 t3 → IsBlock end t3 x t4
        → Stands (Keyword Done) t4 rest → body ≡ c.While (place end ts) until cond x → IsCompound end ts body rest
    -- `case` word, newlines, `in`, newlines, arms, `esac`
    case_command : {end : ℕ} {ts t1 t2 t3 t4 t5 t6 rest : Tokens} {body : Command} (w : Word) (arms : List CaseArm)
        → Stands (Keyword Case) ts t1 → IsWord end t1 w t2 → AreNewlines t2 t3 → Stands (Keyword In) t3 t4
        → AreNewlines t4 t5 → AreArms end t5 arms t6 → Stands (Keyword Esac) t6 rest
        → body ≡ c.Case (place end ts) w arms → IsCompound end ts body rest

  -- a condition, `then`, a body and what follows it (if_clause)
  pub data IsClause : ℕ → Tokens → List IfArm × Option Command → Tokens → Type 0 where
    -- block `then` block, and what follows it
    a_clause : {end : ℕ} {ts t1 t2 t3 rest : Tokens} {v : List IfArm × Option Command} (cond x : Command)
        (more : List IfArm × Option Command) → IsBlock end ts cond t1 → Stands (Keyword Then) t1 t2
        → IsBlock end t2 x t3 → IsElse end t3 more rest → v ≡ (if_arm cond x ∷ more.0, more.1) → IsClause end ts v rest

  -- `elif` with a further clause, `else` with a block, or nothing (else_part)
  pub data IsElse : ℕ → Tokens → List IfArm × Option Command → Tokens → Type 0 where
    -- nothing
    no_else : {end : ℕ} {ts rest : Tokens} {v : List IfArm × Option Command} → rest ≡ ts → v ≡ ([], None)
        → IsElse end ts v rest
    -- `elif` clause
    elif_part : {end : ℕ} {ts t1 rest : Tokens} {v : List IfArm × Option Command} → Stands (Keyword Elif) ts t1
        → IsClause end t1 v rest → IsElse end ts v rest
    -- `else` block
    else_part : {end : ℕ} {ts t1 rest : Tokens} {v : List IfArm × Option Command} (x : Command)
        → Stands (Keyword Else) ts t1 → IsBlock end t1 x rest → v ≡ ([], Some x) → IsElse end ts v rest

  -- the name of a `for`, which may be a reserved word (name)
  pub data IsName : ℕ → Tokens → Text → Tokens → Type 0 where
    -- a word that is a name
    a_name : {end : ℕ} {ts rest : Tokens} {name : Text} (w : Word) → is_name_word (look ts) ≡ true
        → IsWord end ts w rest → name ≡ word_text w → IsName end ts name rest

  -- `in` with words and a separator; or perhaps `;` and newlines (for_clause, in, sequential_sep)
  pub data AreForWords : ℕ → Tokens → Option (List Word) → Tokens → Type 0 where
    -- `in` words, a separator
    in_words : {end : ℕ} {ts t1 t2 rest : Tokens} {words : Option (List Word)} (ws : List Word)
        → Stands (Keyword In) ts t1 → AreWords end t1 ws t2 → IsSeparator t2 rest → words ≡ Some ws
        → AreForWords end ts words rest
    -- `;` newlines
    for_semicolon : {end : ℕ} {ts t1 rest : Tokens} {words : Option (List Word)} → Stands Semi ts t1
        → AreNewlines t1 rest → words ≡ None → AreForWords end ts words rest
    -- nothing
    no_in : {end : ℕ} {ts rest : Tokens} {words : Option (List Word)} → rest ≡ ts → words ≡ None
        → AreForWords end ts words rest

  -- words, perhaps none (wordlist)
  pub data AreWords : ℕ → Tokens → List Word → Tokens → Type 0 where
    -- none
    no_words : {end : ℕ} {ts rest : Tokens} {ws : List Word} → rest ≡ ts → ws ≡ [] → AreWords end ts ws rest
    -- a word, and further ones
    one_word : {end : ℕ} {ts t1 rest : Tokens} {ws : List Word} (w : Word) (ws1 : List Word) → IsWord end ts w t1
        → AreWords end t1 ws1 rest → ws ≡ w ∷ ws1 → AreWords end ts ws rest

  -- the arms of a `case`, with `;;` and newlines behind each, which may be missing behind the last (case_list)
  pub data AreArms : ℕ → Tokens → List CaseArm → Tokens → Type 0 where
    -- none
    no_arm : {end : ℕ} {ts rest : Tokens} {arms : List CaseArm} → rest ≡ ts → arms ≡ [] → AreArms end ts arms rest
    -- an arm
    last_arm : {end : ℕ} {ts rest : Tokens} {arms : List CaseArm} (a : CaseArm) → IsArm end ts a rest → arms ≡ a ∷ []
        → AreArms end ts arms rest
    -- an arm, `;;` newlines, and further arms
    one_arm : {end : ℕ} {ts t1 t2 t3 rest : Tokens} {arms : List CaseArm} (a : CaseArm) (arms1 : List CaseArm)
        → IsArm end ts a t1 → Stands DoubleSemi t1 t2 → AreNewlines t2 t3 → AreArms end t3 arms1 rest
        → arms ≡ a ∷ arms1 → AreArms end ts arms rest

  -- an arm; without `(` its first pattern is not `esac` (case_item, and rule 4 of XCU 2.10.2)
  pub data IsArm : ℕ → Tokens → CaseArm → Tokens → Type 0 where
    -- `(` and the rest of the arm
    open_arm : {end : ℕ} {ts t1 rest : Tokens} {a : CaseArm} → Stands LeftParen ts t1 → IsArmRest end t1 a rest
        → IsArm end ts a rest
    -- the arm without `(`
    arm_without_paren : {end : ℕ} {ts rest : Tokens} {a : CaseArm} → (look ts ≡ Keyword Esac → ⊥)
        → IsArmRest end ts a rest
        → IsArm end ts a rest

  -- patterns with `|` between them, `)`, newlines, and a list, which may be missing (case_item, pattern)
  pub data IsArmRest : ℕ → Tokens → CaseArm → Tokens → Type 0 where
    -- a word, further patterns, `)` newlines, a list or nothing
    arm_rest : {end : ℕ} {ts t1 t2 t3 t4 rest : Tokens} {a : CaseArm} (w : Word) (ws : List Word) (x : Command)
        → IsWord end ts w t1 → ArePatterns end t1 ws t2 → Stands RightParen t2 t3 → AreNewlines t3 t4
        → IsArmList end t4 x rest → a ≡ case_arm (w ∷ ws) x → IsArmRest end ts a rest

  -- the patterns behind the first
  pub data ArePatterns : ℕ → Tokens → List Word → Tokens → Type 0 where
    -- none
    no_pattern : {end : ℕ} {ts rest : Tokens} {ws : List Word} → rest ≡ ts → ws ≡ [] → ArePatterns end ts ws rest
    -- `|` a word, and further patterns
    one_pattern : {end : ℕ} {ts t1 t2 rest : Tokens} {ws : List Word} (w : Word) (ws1 : List Word) → Stands Bar ts t1
        → IsWord end t1 w t2 → ArePatterns end t2 ws1 rest → ws ≡ w ∷ ws1 → ArePatterns end ts ws rest

  -- the list of an arm
  pub data IsArmList : ℕ → Tokens → Command → Tokens → Type 0 where
    -- nothing
    no_arm_list : {end : ℕ} {ts rest : Tokens} {body : Command} → rest ≡ ts → body ≡ c.Seq []
        → IsArmList end ts body rest
    -- a list
    arm_list : {end : ℕ} {ts rest : Tokens} {body : Command} → IsList end ts body rest → IsArmList end ts body rest

  -- `{` block `}`, also the body of a function (brace_group, function_body)
  pub data IsBraces : ℕ → Tokens → Command → Tokens → Type 0 where
    -- `{` block `}`
    braces : {end : ℕ} {ts t1 t2 rest : Tokens} {body : Command} → Stands (Keyword Open) ts t1 → IsBlock end t1 body t2
        → Stands (Keyword Close) t2 rest → IsBraces end ts body rest

  -- simple command: assignments and redirections, then perhaps words and redirections, one of all at least; where it
  -- begins with a word, that is no reserved one and no assignment (simple_command, cmd_name)
  pub data IsSimple : ℕ → Tokens → Command → Tokens → Type 0 where
    -- an assignment, and further items
    begins_with_assignment : {end : ℕ} {ts t1 rest : Tokens} {body : Command} (w : Word) (items : Items)
        → look ts ≡ Assignment → IsWord end ts w t1 → AreItems end false t1 items rest
        → body ≡ simple (place end ts) (joined (an_assign (assigned w)) items) → IsSimple end ts body rest
    -- a redirection, and further items
    begins_with_redirect : {end : ℕ} {ts t1 rest : Tokens} {body : Command} (which : Redirect) (items : Items)
        → Stands (Redirection which) ts t1 → AreItems end false t1 items rest
        → body ≡ simple (place end ts) (joined (a_redirect which) items) → IsSimple end ts body rest
    -- the first word, and further items
    begins_with_word : {end : ℕ} {ts t1 rest : Tokens} {body : Command} (w : Word) (items : Items)
        → ((which : Reserved) → look ts ≡ Keyword which → ⊥) → (look ts ≡ Assignment → ⊥) → IsWord end ts w t1
        → AreItems end true t1 items rest → body ≡ simple (place end ts) (joined (a_word w) items)
        → IsSimple end ts body rest

  -- what follows its first item, before its first word or behind it, up to where neither a word nor a redirection
  -- stands; behind the word an assignment is a word, too (cmd_prefix, cmd_word, cmd_suffix)
  pub data AreItems : ℕ → (behind_word : Bool) → Tokens → Items → Tokens → Type 0 where
    -- none
    no_item : {end : ℕ} {behind_word : Bool} {ts rest : Tokens} {items : Items} → rest ≡ ts
        → is_word (look ts) ≡ false → redirection (look ts) ≡ None → items ≡ no_items
        → AreItems end behind_word ts items rest
    -- an assignment, before the first word
    assignment_item : {end : ℕ} {behind_word : Bool} {ts t1 rest : Tokens} {items : Items} (w : Word) (items1 : Items)
        → behind_word ≡ false → look ts ≡ Assignment → IsWord end ts w t1 → AreItems end false t1 items1 rest
        → items ≡ joined (an_assign (assigned w)) items1 → AreItems end behind_word ts items rest
    -- a redirection
    redirect_item : {end : ℕ} {behind_word : Bool} {ts t1 rest : Tokens} {items : Items} (which : Redirect)
        (items1 : Items) → Stands (Redirection which) ts t1 → AreItems end behind_word t1 items1 rest
        → items ≡ joined (a_redirect which) items1 → AreItems end behind_word ts items rest
    -- a word: the first one is no assignment
    word_item : {end : ℕ} {behind_word : Bool} {ts t1 rest : Tokens} {items : Items} (w : Word) (items1 : Items)
        → (behind_word ≡ false → look ts ≡ Assignment → ⊥) → IsWord end ts w t1 → AreItems end true t1 items1 rest
        → items ≡ joined (a_word w) items1 → AreItems end behind_word ts items rest

  -- a word, with what its substitutions hold
  pub data IsWord : ℕ → Tokens → Word → Tokens → Type 0 where
    -- its parts, at its offset
    the_word : {end : ℕ} {ts rest : Tokens} {w : Word} (raws : List RawPart) (ps : List Part) → word ts ≡ Some raws
        → PartsAre raws ps → w ≡ word_at (place end ts) ps → rest ≡ behind ts → IsWord end ts w rest

  -- the parts of a word: the tokens of a substitution are a script, and end at its offset (XCU 2.6.3)
  pub data PartsAre : List RawPart → List Part → Type 0 where
    -- none
    no_part : {ps : List Part} → ps ≡ [] → PartsAre [] ps
    -- a part without a substitution, and further parts
    a_part : {r : RawPart} {raws : List RawPart} {ps : List Part} (x : Part) (ps1 : List Part)
        → plainly (out-RawPart r) ≡ Some x → PartsAre raws ps1 → ps ≡ x ∷ ps1 → PartsAre (r ∷ raws) ps
    -- a substitution, and further parts
    a_substitution : {r : RawPart} {raws : List RawPart} {ps : List Part} (at : ℕ) (ts : Tokens) (quoted : Bool)
        (body : Command) (ps1 : List Part) → out-RawPart r ≡ raw.Run at ts quoted → IsScript at ts body
        → PartsAre raws ps1 → ps ≡ part.Run at body quoted ∷ ps1 → PartsAre (r ∷ raws) ps
