-- The text of each number is an accepted script.
use Rattle.std.proofs.Common.{◌≡◌, ℕ, zero, suc, ◌+◌, ◌/◌, ◌%◌, ◌<◌, ◌≤◌, Bool, true, false, List, [], ◌∷◌, ◌++◌, append_assoc, append-nil, length, Option, None, codes, refl, sym, ap, subst, arith}
use Rattle.std.specs.Prelude.{◌&&◌, if◌then◌else◌, eqb}
use Rattle.std.specs.List.{list_any}
use Rattle.script_names.specs.Ascii.{equals}
use Rattle.command_words.specs.declared.limits.TheConstants.{MOST_LOAD}
use Rattle.shell_syntax.specs.declared.script.Script.{Script}
use Rattle.shell_syntax.specs.declared.syntax.Command.{Command}
use Rattle.shell_syntax.specs.declared.syntax.Command.TheVariants as c
use Rattle.shell_lexer.specs.declared.token.Lexed.{Lexed}
use Rattle.shell_lexer.specs.FirstLine.{nul_from}
use Rattle.shell_lexer.specs.Lexed.{Cut}
use Rattle.shell_lexer.specs.Parts.{Byte, look_by}
use Rattle.shell_lexer.specs.Text.{Bytes, kind, offset}
use Rattle.shell_grammar.specs.declared.look.Look.TheVariants.{Assignment, Other}
use Rattle.shell_grammar.specs.Look.{Tokens, whole_look, reserved}
use Rattle.shell_grammar.specs.Spelling.{deep_64}
use Rattle.shell_grammar.specs.Trees.{seq_of}
use Rattle.shell_forms.specs.Names.{Text}
use Rattle.shell_forms.specs.Forms.{script_place, member}
use Rattle.shell_forms.specs.Functions.{definitions, first_of}
use Rattle.checker_input.specs.Script.{IsAccepted}
use Rattle.load_maker.specs.LoadText.{three_digits, load_line, load_lines, load_text}
use Rattle.load_maker.proofs.PlainWords.{Plain, AllPlain, is_safe, nul_behind, Cuts, word_token, newline_token, cuts_end, cuts_blank, cuts_newline, cuts_word, ends_newline, ends_blank}
use Rattle.load_maker.proofs.PlainCommands.{plain_word, look_plain, no_word_more, word_more, command, Lines, no_line, line_more, whole_script}
use Rattle.load_maker.proofs.PlainForms.{set_formless, mkdir_formless, Formless, formless_more, formless_list}

-- ---- bytes that stand for themselves

plain : (b : ℕ) → ((at : ℕ) (t : Bytes) → look_by at b (kind b) t ≡ Byte b t) → is_safe b ≡ true → Plain b
plain b stands safe = record { stands = stands; safe = safe }

digit : (d : ℕ) → d < 10 → Plain (48 + d)
digit zero lt = plain 48 (λ at t. refl) refl
digit (suc zero) lt = plain 49 (λ at t. refl) refl
digit (suc (suc zero)) lt = plain 50 (λ at t. refl) refl
digit (suc (suc (suc zero))) lt = plain 51 (λ at t. refl) refl
digit (suc (suc (suc (suc zero)))) lt = plain 52 (λ at t. refl) refl
digit (suc (suc (suc (suc (suc zero))))) lt = plain 53 (λ at t. refl) refl
digit (suc (suc (suc (suc (suc (suc zero)))))) lt = plain 54 (λ at t. refl) refl
digit (suc (suc (suc (suc (suc (suc (suc zero))))))) lt = plain 55 (λ at t. refl) refl
digit (suc (suc (suc (suc (suc (suc (suc (suc zero)))))))) lt = plain 56 (λ at t. refl) refl
digit (suc (suc (suc (suc (suc (suc (suc (suc (suc zero))))))))) lt = plain 57 (λ at t. refl) refl
digit (suc (suc (suc (suc (suc (suc (suc (suc (suc (suc d)))))))))) lt = absurd (omega (arith, lt))

set_plain : AllPlain (codes "set")
set_plain = (plain 115 (λ at t. refl) refl, (plain 101 (λ at t. refl) refl, (plain 116 (λ at t. refl) refl, tt)))

strict_plain : AllPlain (codes "-e")
strict_plain = (plain 45 (λ at t. refl) refl, (plain 101 (λ at t. refl) refl, tt))

mkdir_plain : AllPlain (codes "mkdir")
mkdir_plain = (plain 109 (λ at t. refl) refl, (plain 107 (λ at t. refl) refl, (plain 100 (λ at t. refl) refl, (plain 105 (λ at t. refl) refl, (plain 114 (λ at t. refl) refl, tt)))))

option_plain : AllPlain (codes "-p")
option_plain = (plain 45 (λ at t. refl) refl, (plain 112 (λ at t. refl) refl, tt))

-- the path of a number
abbrev path : ℕ → Bytes
path k = codes "/srv/k" ++ three_digits k

digits_plain : (k : ℕ) → k < 1000 → AllPlain (three_digits k)
digits_plain k lt =
    (digit (k / 100) (omega (arith, lt)), (digit ((k / 10) % 10) (omega arith), (digit (k % 10) (omega arith), tt)))

path_plain : (k : ℕ) → k < 1000 → AllPlain (path k)
path_plain k lt = (plain 47 (λ at t. refl) refl, (plain 115 (λ at t. refl) refl, (plain 114 (λ at t. refl) refl, (plain 118 (λ at t. refl) refl, (plain 47 (λ at t. refl) refl, (plain 107 (λ at t. refl) refl, digits_plain k lt))))))

-- a path is no name, and no assignment either: its first byte is no byte of a name
no_and : (x : Bool) → (x && false) ≡ false
no_and true = refl
no_and false = refl

path_look : (k : ℕ) → whole_look (path k) (reserved (path k)) ≡ Other
path_look k = ap (λ (b : Bool). if b then Assignment else Other) (no_and (list_any (λ b. eqb b equals) (path k)))

-- ---- lines

module _ (len : ℕ) where
  -- a text that is cut into the tokens of commands, one a line, in which no form stands
  record Good (text : Bytes) : Type 0 where
    pub tokens : Tokens
    pub cut : Cuts len text tokens
    pub commands : List Command
    pub lines : Lines deep_64 len tokens commands
    pub formless : (first : Text → Option ℕ) → Formless first commands
    pub no_nul : (at : ℕ) → nul_from at text ≡ None

  no_text : Good []
  no_text = record { tokens = []; cut = cuts_end len; commands = []; lines = no_line deep_64 len; formless = λ first. refl; no_nul = λ at. refl }

  one_line : (k : ℕ) (rest : Bytes) → k < 1000 → Good rest → Good (load_line k ++ rest)
  one_line k rest lt good =
      let third = path k ++ 10 ∷ rest in
      let second = codes "-p" ++ 32 ∷ third in
      let first = codes "mkdir" ++ 32 ∷ second in
      let line_at = offset len (10 ∷ rest) in
      let end = newline_token len rest ∷ good.tokens in
      let paths = word_token len (path k) (10 ∷ rest) ∷ end in
      let options = word_token len (codes "-p") (32 ∷ third) ∷ paths in
      let all = word_token len (codes "mkdir") (32 ∷ second) ∷ options in
      let names = plain_word (offset len first) (codes "mkdir") ∷ plain_word (offset len second) (codes "-p") ∷ plain_word (offset len third) (path k) ∷ [] in
      let makes = c.Simple (offset len first) [] names in
      let path_is = path_plain k lt in
      record {
        tokens = all;
        cut = cuts_word len 109 (codes "kdir") (32 ∷ second) options refl mkdir_plain (ends_blank len second)
            (cuts_blank len 45 (codes "p" ++ 32 ∷ third) options
            (cuts_word len 45 (codes "p") (32 ∷ third) paths refl option_plain (ends_blank len third)
            (cuts_blank len 47 (codes "srv/k" ++ (three_digits k ++ 10 ∷ rest)) paths
            (cuts_word len 47 (codes "srv/k" ++ three_digits k) (10 ∷ rest) end refl path_is (ends_newline len rest)
            (cuts_newline len rest good.tokens good.cut)))));
        commands = makes ∷ good.commands;
        lines = line_more deep_64 len line_at all good.tokens makes good.commands (look_plain (offset len first) (codes "mkdir") options)
            (command deep_64 len (offset len first) (codes "mkdir") options end _ refl (look_plain (offset len second) (codes "-p") paths)
            (word_more deep_64 len (offset len second) (codes "-p") paths end _ refl
            (word_more deep_64 len (offset len third) (path k) end end [] (path_look k) (no_word_more deep_64 len line_at good.tokens))))
            good.lines;
        formless = λ f. formless_more f makes good.commands (mkdir_formless f (offset len first) (offset len second) (offset len third) (path k) (member script_place) refl) (good.formless f);
        no_nul = nul_behind (codes "mkdir") (32 ∷ second) mkdir_plain
            (λ at. nul_behind (codes "-p") (32 ∷ third) option_plain
            (λ at. nul_behind (path k) (10 ∷ rest) path_is (λ at. good.no_nul (at + 1)) (at + 1)) (at + 1));
      }

  all_lines : (k : ℕ) → k < 1000 → (rest : Bytes) → Good rest → Good (load_lines k ++ rest)
  all_lines zero lt rest good = good
  all_lines (suc k) lt rest good =
      subst Good (sym (append_assoc (load_lines k) (load_line (suc k)) rest))
      (all_lines k (omega (arith, lt)) (load_line (suc k) ++ rest) (one_line (suc k) rest lt good))

-- ---- the script

pub script_exists : (n : ℕ) → n ≤ MOST_LOAD → (script : Script) × IsAccepted (load_text n) script
script_exists n most =
    let len = length (load_text n) in
    let rest = load_lines n in
    let good : Good len rest = subst (Good len) (append-nil rest) (all_lines len n (omega (arith, most)) [] (no_text len)) in
    let second = codes "-e" ++ 10 ∷ rest in
    let first = codes "set" ++ 32 ∷ second in
    let line_at = offset len (10 ∷ rest) in
    let end = newline_token len rest ∷ good.tokens in
    let options = word_token len (codes "-e") (10 ∷ rest) ∷ end in
    let all = word_token len (codes "set") (32 ∷ second) ∷ options in
    let sets = c.Simple (offset len first) [] (plain_word (offset len first) (codes "set") ∷ plain_word (offset len second) (codes "-e") ∷ []) in
    let body = seq_of (sets ∷ good.commands) in
    let lexed : Lexed = record { strict = false; tokens = all; end = len } in
    let cut : Cut (load_text n) lexed = record {
      no_nul = nul_behind (codes "set") (32 ∷ second) set_plain
          (λ at. nul_behind (codes "-e") (10 ∷ rest) strict_plain (λ at. good.no_nul (at + 1)) (at + 1)) 10;
      first = refl;
      body = cuts_word len 115 (codes "et") (32 ∷ second) options refl set_plain (ends_blank len second)
          (cuts_blank len 45 (codes "e" ++ 10 ∷ rest) options
          (cuts_word len 45 (codes "e") (10 ∷ rest) end refl strict_plain (ends_newline len rest) (cuts_newline len rest good.tokens good.cut)));
      end = refl;
    } in
    let reads = whole_script deep_64 len line_at all good.tokens sets good.commands (look_plain (offset len first) (codes "set") options)
    (command deep_64 len (offset len first) (codes "set") options end _ refl (look_plain (offset len second) (codes "-e") end)
    (word_more deep_64 len (offset len second) (codes "-e") end end [] refl (no_word_more deep_64 len line_at good.tokens)))
    good.lines
    in
    let f = first_of (definitions body) in
    let formless = formless_list f sets good.commands (set_formless f (offset len first) (offset len second) script_place refl)
    (formless_more f sets good.commands (set_formless f (offset len first) (offset len second) (member script_place) refl) (good.formless f))
    in
    let script : Script = record { strict = false; body = body } in
    (script, record { is_script = record { lexed = lexed; cut = cut; spells = record { rest = []; reads = reads }; strict = refl }; none = formless })
