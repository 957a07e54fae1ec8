-- The printed tokens of lists, pipelines and compound commands are read es them, where those of their members are.
use Rattle.std.proofs.Common.{◌≡◌, ℕ, suc, Bool, true, false, if◌then◌else◌, nat_le, List, [], ◌∷◌, ◌++◌, map, append_assoc, append-nil, ◌⊎◌, inl, inr, Option, Some, None, codes, refl, sym, ap, ◌∙◌, subst}
use Rattle.std.specs.List.{flat_map}
use Rattle.shell_syntax.specs.declared.level.Level.{Level}
use Rattle.shell_syntax.specs.declared.level.Level.TheVariants as level
use Rattle.shell_syntax.specs.declared.redirect.Redirect.{Redirect}
use Rattle.shell_syntax.specs.declared.syntax.Command.{Command}
use Rattle.shell_syntax.specs.declared.syntax.Command.TheVariants as c
use Rattle.shell_syntax.specs.declared.syntax.Assign.{Assign}
use Rattle.shell_syntax.specs.declared.syntax.CaseArm.{CaseArm}
use Rattle.shell_syntax.specs.declared.syntax.IfArm.{IfArm}
use Rattle.shell_syntax.specs.declared.syntax.Link.{Link}
use Rattle.shell_syntax.specs.declared.syntax.Word.{Word}
use Rattle.shell_syntax.specs.Printed.{rank, is_simple}
use Rattle.shell_lexer.specs.declared.token.Token.{Token}
use Rattle.shell_lexer.specs.declared.token.TokenKind.TheVariants as token
use Rattle.shell_lexer.specs.declared.token.RawPart.TheOpen as o
use Rattle.shell_grammar.specs.declared.form.CommandForm.TheVariants as command
use Rattle.shell_grammar.specs.declared.form.CompoundForm.TheVariants as compound
use Rattle.shell_grammar.specs.declared.look.Look.{Look}
use Rattle.shell_grammar.specs.declared.look.Look.TheVariants.{AtEnd, Newline, DoubleSemi, AndAnd, OrOr, Bar, LeftParen, Keyword, Name}
use Rattle.shell_grammar.specs.declared.look.Reserved.TheVariants.{Bang, Elif, Else, Fi, In, Do, Esac}
use Rattle.shell_grammar.specs.Forms.{command_form, compound_form, starts, is_some, is_word, is_name_word, loop_word, ends_arm}
use Rattle.shell_grammar.specs.Grammar.{Opens, Newlines, Script, Block, More, Links, Bars, Clause, Arms, ForName, ForWords, CaseArms, ArmBody, production_behind, production_command, production_compound, production_name, production_arm_body}
use Rattle.shell_grammar.specs.Look.{Text, Tokens, look, place}
use Rattle.shell_grammar.specs.Reading.{Whole, IsRule, IsSign, is, of, inside}
use Rattle.shell_grammar.specs.Trees.{link, if_arm, case_arm, Defines}
use Rattle.shell_lexer.proofs.PrintedBytes.{clash}
use Rattle.shell_grammar.proofs.Behind.{behind_list, is_newline, start_newline, start_arm, form_starts}
use Rattle.shell_printing.specs.Zeroed.{zeroed, zeroed_case_arm, zeroed_if_arm, zeroed_link, zeroed_word}
use Rattle.shell_printing.specs.PrintedTokens.{Phrase, word_token, plain_token, operator, line, redirect_token, braced, placed, link_token, if_end, do_tokens, loop_token, phrase, arm_tokens, condition_tokens, further_tokens, word_raws}
use Rattle.shell_printing.proofs.PhraseLayers.{phrase_simple, phrase_redirected, phrase_pipe, phrase_not, phrase_chain, phrase_seq, phrase_if, phrase_if_else, phrase_for, phrase_for_in, phrase_while, phrase_case, phrase_sub, phrase_define, phrase_the_case_arm, phrase_the_if_arm, phrase_the_link}
use Rattle.shell_printing.proofs.ZeroedLayers.{zeroed_simple, zeroed_redirected, zeroed_pipe, zeroed_not, zeroed_chain, zeroed_seq, zeroed_if, zeroed_if_else, zeroed_for, zeroed_for_in, zeroed_while, zeroed_case, zeroed_sub, zeroed_define}
use Rattle.shell_printing.proofs.ZeroedTrees.{zeroed_link_of, zeroed_if_arm_of, zeroed_case_arm_of}
use Rattle.shell_printing.proofs.Offsets.{zeroed_otherwise}
use Rattle.shell_printing.proofs.Levels.{look_kind, look_plain, after_command, after_pipeline, after_and_or, and_or_pipeline, pipeline_command, Closes, closes_here, closes_line, closes_and_or, tok, opn, hre, done, more, made, ruled, moved, valued, newlines_none, one_newline, bars_none, links_none, closes_more, AsCommand, AsCompound, AsItems, AsPipeline, AsAndOr, AsList, Own, up_list, block_read, braces_read, braces_compound, low_own, Good, Placeable, at_command, at_sequence, at_pipeline, at_and_or, good_by, placeable_by}
use Rattle.shell_printing.proofs.Nodes.{AllOf, AWordOk, AssignOk, FirstWords, Begins, word_read, words_tokens, each_read, more_patterns, patterns_read, simple_tokens, as_items, as_command, behind_redirects, before_redirects, plain_word_read, plain_word_text, looks_so}
use Rattle.shell_grammar.proofs.ToTable.{body_row}

module _ (deep : ℕ → Bool) (lower : (d : ℕ) → deep (suc d) ≡ false → deep d ≡ false) where
  -- ---- simple commands and redirections

  pub simple_good : {d : ℕ} (at : ℕ) (es : List Assign) (ws : List Word) → AllOf (AssignOk deep d) es → FirstWords deep d ws → Begins deep d es ws → Placeable deep lower level.Simple d (c.Simple at es ws)
  simple_good {d} at es ws x y k =
      placeable_by deep lower d level.Simple (c.Simple at es ws) (record { level = level.Simple; tokens = simple_tokens deep es ws }) _ (phrase_simple at es ws) (zeroed_simple at es ws) refl
      (as_items deep es ws x y, as_command deep es ws x y k)

  -- what redirections may be added to
  abbrev pub Redirectable : ℕ → Command → Type 0
  Redirectable d x =
      ((is_simple (phrase x).level ≡ true) × AsItems deep d (phrase x).tokens (zeroed x))
      ⊎ ((is_simple (phrase x).level ≡ false) × AsCompound deep d (placed level.Compound (phrase x)) (zeroed x))

  pub simple_redirectable : {d : ℕ} (at : ℕ) (es : List Assign) (ws : List Word) → AllOf (AssignOk deep d) es → FirstWords deep d ws → Redirectable d (c.Simple at es ws)
  simple_redirectable {d} at es ws x y =
      let e = phrase_simple at es ws in
      inl (
        ap (λ (p : Phrase). is_simple p.level) e,
        subst (λ (p : Phrase). AsItems deep d p.tokens (zeroed (c.Simple at es ws))) (sym e) (subst (AsItems deep d (simple_tokens deep es ws)) (sym (zeroed_simple at es ws)) (as_items deep es ws x y)),
      )

  simple_items : {d : ℕ} {ts : Tokens} {z : Command} (l : Level) → is_simple l ≡ true → Own deep l d ts z → AsItems deep d ts z
  simple_items level.Simple e x = x.0
  simple_items level.Compound e x = absurd (clash refl e)
  simple_items level.Command e x = absurd (clash refl e)
  simple_items level.PipeSequence e x = absurd (clash refl e)
  simple_items level.Pipeline e x = absurd (clash refl e)
  simple_items level.AndOr e x = absurd (clash refl e)
  simple_items level.List e x = absurd (clash refl e)

  own_compound : {d : ℕ} {ts : Tokens} {z : Command} (l : Level) → is_simple l ≡ false → nat_le (rank l) 1 ≡ true → Own deep l d ts z → AsCompound deep d ts z
  own_compound level.Simple e le x = absurd (clash e refl)
  own_compound level.Compound e le x = x
  own_compound level.Command e le x = absurd (clash refl le)
  own_compound level.PipeSequence e le x = absurd (clash refl le)
  own_compound level.Pipeline e le x = absurd (clash refl le)
  own_compound level.AndOr e le x = absurd (clash refl le)
  own_compound level.List e le x = absurd (clash refl le)

  pub compound_redirectable : {d : ℕ} (x : Command) → Placeable deep lower level.Compound d x → Redirectable d x
  compound_redirectable {d} x p = by (is_simple (phrase x).level) refl where
    own : Good deep lower d x
    own = elim p as (λ _. Good deep lower d x) [ inl p ↦ p.1 | inr p ↦ low_own deep lower d (phrase x).tokens (zeroed x) (phrase x).level p.1 ]

    placed_compound : is_simple (phrase x).level ≡ false → (b : Bool) → nat_le (rank (phrase x).level) 1 ≡ b → AsCompound deep d (placed level.Compound (phrase x)) (zeroed x)
    placed_compound e true le =
        subst (λ b. AsCompound deep d (if b then (phrase x).tokens else braced (phrase x).tokens) (zeroed x)) (sym le) (own_compound (phrase x).level e le own)
    placed_compound e false le =
        subst (λ b. AsCompound deep d (if b then (phrase x).tokens else braced (phrase x).tokens) (zeroed x)) (sym le)
        (elim p as (λ _. AsCompound deep d (braced (phrase x).tokens) (zeroed x)) [
          | inl p ↦ absurd (clash le p.0)
          | inr p ↦ braces_compound deep p.0 (up_list deep (phrase x).level p.1)
        ])

    by : (b : Bool) → is_simple (phrase x).level ≡ b → Redirectable d x
    by true e = inl (e, simple_items (phrase x).level e own)
    by false e = inr (e, placed_compound e (nat_le (rank (phrase x).level) 1) refl)

  pub redirected_good : {d : ℕ} (at : ℕ) (x : Command) (r : Redirect) (rs : List Redirect) → Redirectable d x → Placeable deep lower level.Command d (c.Redirected at x (r ∷ rs))
  redirected_good {d} at x r rs k =
      placeable_by deep lower d level.Command (c.Redirected at x (r ∷ rs)) _ _ (phrase_redirected at x (r ∷ rs)) (zeroed_redirected at x (r ∷ rs)) refl (reads k) where
        back : Tokens
        back = map redirect_token (r ∷ rs)

        reads : Redirectable d x → AsCommand deep d (if is_simple (phrase x).level then back ++ (phrase x).tokens else placed level.Compound (phrase x) ++ back) (c.Redirected 0 (zeroed x) (r ∷ rs))
        reads (inl k) =
            subst (λ b. AsCommand deep d (if b then back ++ (phrase x).tokens else placed level.Compound (phrase x) ++ back) (c.Redirected 0 (zeroed x) (r ∷ rs))) (sym k.0)
            (behind_redirects deep r rs (phrase x).tokens (zeroed x) k.1)
        reads (inr k) =
            subst (λ b. AsCommand deep d (if b then back ++ (phrase x).tokens else placed level.Compound (phrase x) ++ back) (c.Redirected 0 (zeroed x) (r ∷ rs))) (sym k.0)
            (before_redirects deep r rs (placed level.Compound (phrase x)) (zeroed x) k.1)

  -- ---- pipelines

  abbrev bars : List Command → Tokens
  bars xs = flat_map (λ p. (operator token.Bar ∷ []) ++ placed level.Command p) (map phrase xs)

  bars_after : (xs : List Command) (rest : Tokens) → after_pipeline (look rest) ≡ true → after_command (look (bars xs ++ rest)) ≡ true
  bars_after [] rest e = pipeline_command (look rest) e
  bars_after (x ∷ xs) rest e = ap after_command (look_kind o.Bar ((placed level.Command (phrase x) ++ bars xs) ++ rest))

  bars_read : {d : ℕ} (xs : List Command) → AllOf (Placeable deep lower level.Command d) xs → (rest : Tokens) → after_pipeline (look rest) ≡ true → IsRule deep d 0 Bars (bars xs ++ rest) (Whole (map zeroed xs) rest)
  bars_read [] y rest e = bars_none deep e
  bars_read (x ∷ xs) y rest e =
      let front = placed level.Command (phrase x) in
      let tail = bars xs ++ rest in
      let k = at_command deep lower x y.0 in
      moved deep (ap (λ (m : Tokens). operator token.Bar ∷ m) (append_assoc front (bars xs) rest))
      (ruled deep Bar (look_kind o.Bar (front ++ tail)) (0, (tt, (zeroed x, (map zeroed xs, tt))))
      (more deep (tok deep token.Bar (front ++ tail) (look_kind o.Bar (front ++ tail)))
      (more deep (of (newlines_none deep (start_newline (look (front ++ tail)) (form_starts (look (front ++ tail)) (k.looks tail)))))
      (more deep (of (k.reads tail (bars_after xs rest e))) (more deep (of (bars_read xs y.1 rest e)) (done deep))))))

  pub pipe_good : {d : ℕ} (at : ℕ) (x y : Command) (xs : List Command) → AllOf (Placeable deep lower level.Command d) (x ∷ y ∷ xs) → Placeable deep lower level.PipeSequence d (c.Pipe at (x ∷ y ∷ xs))
  pipe_good {d} at x y xs g =
      placeable_by deep lower d level.PipeSequence (c.Pipe at (x ∷ y ∷ xs)) _ _ (phrase_pipe at (x ∷ y ∷ xs)) (zeroed_pipe at (x ∷ y ∷ xs)) refl (record {
        begins = λ rest. ap (place 0) (append_assoc front back rest) ∙ k.begins (back ++ rest);
        looks = λ rest. ap (λ t. is_some (command_form (look t))) (append_assoc front back rest) ∙ k.looks (back ++ rest);
        reads = λ rest e.
            moved deep (append_assoc front back rest)
            (ruled deep (look (front ++ (back ++ rest))) refl (0, (zeroed x, (map zeroed (y ∷ xs), tt)))
            (more deep (hre deep (k.begins (back ++ rest))) (more deep (of (k.reads (back ++ rest) (bars_after (y ∷ xs) rest e))) (more deep (of (bars_read (y ∷ xs) g.1 rest e)) (done deep)))));
      }) where
        front : Tokens
        front = placed level.Command (phrase x)

        back : Tokens
        back = bars (y ∷ xs)

        k : AsCommand deep d front (zeroed x)
        k = at_command deep lower x g.0

  pub not_good : {d : ℕ} (at : ℕ) (x : Command) → Placeable deep lower level.PipeSequence d x → Placeable deep lower level.Pipeline d (c.Not at x)
  not_good {d} at x g =
      let ts = placed level.PipeSequence (phrase x) in
      placeable_by deep lower d level.Pipeline (c.Not at x) _ _ (phrase_not at x) (zeroed_not at x) refl (record {
        looks = λ rest. ap starts (look_plain (codes "!") (ts ++ rest));
        reads = λ rest e.
            ruled deep (Keyword Bang) (look_plain (codes "!") (ts ++ rest)) (0, (zeroed x, tt))
            (more deep (tok deep _ (ts ++ rest) (look_plain (codes "!") (ts ++ rest))) (more deep (of ((at_sequence deep lower x g).reads rest e)) (done deep)));
      })

  -- ---- and-or lists

  pub record LinkOk (d : ℕ) (l : Link) : Type 0 where
    pub is_and : Bool
    pub body : Command
    pub is : l ≡ link is_and body
    pub good : Placeable deep lower level.Pipeline d body

  abbrev links : List Link → Tokens
  links ls = flat_map (λ t. t) (map further_tokens ls)

  abbrev link_look : Bool → Look
  link_look true = AndAnd
  link_look false = OrOr

  look_link : (is_and : Bool) (ts : Tokens) → look (link_token is_and ∷ ts) ≡ link_look is_and
  look_link true ts = look_kind o.AndAnd ts
  look_link false ts = look_kind o.OrOr ts

  link_after : (is_and : Bool) → after_pipeline (link_look is_and) ≡ true
  link_after true = refl
  link_after false = refl

  further_of : (l : Link) (is_and : Bool) (x : Command) → l ≡ link is_and x → further_tokens l ≡ link_token is_and ∷ placed level.Pipeline (phrase x)
  further_of l is_and x e = ap further_tokens e ∙ phrase_the_link is_and x

  links_tail : {d : ℕ} (l : Link) (ls : List Link) (k : LinkOk d l) (rest : Tokens) → links (l ∷ ls) ++ rest ≡ link_token k.is_and ∷ (placed level.Pipeline (phrase k.body) ++ (links ls ++ rest))
  links_tail l ls k rest =
      ap (λ (t : Tokens). (t ++ links ls) ++ rest) (further_of l k.is_and k.body k.is)
      ∙ ap (λ (m : Tokens). link_token k.is_and ∷ m) (append_assoc (placed level.Pipeline (phrase k.body)) (links ls) rest)

  links_after : (d : ℕ) (ls : List Link) → AllOf (LinkOk d) ls → (rest : Tokens) → after_and_or (look rest) ≡ true → after_pipeline (look (links ls ++ rest)) ≡ true
  links_after d [] y rest e = and_or_pipeline (look rest) e
  links_after d (l ∷ ls) y rest e =
      ap (λ t. after_pipeline (look t)) (links_tail l ls y.0 rest) ∙ ap after_pipeline (look_link y.0.is_and (placed level.Pipeline (phrase y.0.body) ++ (links ls ++ rest))) ∙ link_after y.0.is_and

  one_link : {d : ℕ} (is_and : Bool) (ts tail rest : Tokens) (z : Command) (zs : List Link) → AsPipeline deep d ts z → after_pipeline (look tail) ≡ true → IsRule deep d 0 Links tail (Whole zs rest)
      → IsRule deep d 0 Links (link_token is_and ∷ (ts ++ tail)) (Whole (link is_and z ∷ zs) rest)
  one_link true ts tail rest z zs k e x =
      ruled deep AndAnd (look_kind o.AndAnd (ts ++ tail)) (0, (tt, (z, (zs, tt))))
      (more deep (tok deep token.AndAnd (ts ++ tail) (look_kind o.AndAnd (ts ++ tail))) (more deep (of (newlines_none deep (start_newline (look (ts ++ tail)) (k.looks tail)))) (more deep (of (k.reads tail e)) (more deep (of x) (done deep)))))
  one_link false ts tail rest z zs k e x =
      ruled deep OrOr (look_kind o.OrOr (ts ++ tail)) (0, (tt, (z, (zs, tt))))
      (more deep (tok deep token.OrOr (ts ++ tail) (look_kind o.OrOr (ts ++ tail))) (more deep (of (newlines_none deep (start_newline (look (ts ++ tail)) (k.looks tail)))) (more deep (of (k.reads tail e)) (more deep (of x) (done deep)))))

  links_read : {d : ℕ} (ls : List Link) → AllOf (LinkOk d) ls → (rest : Tokens) → after_and_or (look rest) ≡ true → IsRule deep d 0 Links (links ls ++ rest) (Whole (map zeroed_link ls) rest)
  links_read [] y rest e = links_none deep e
  links_read {d} (l ∷ ls) y rest e =
      let k = y.0 in
      moved deep (links_tail l ls k rest)
      (valued deep (ap (λ (l : Link). l ∷ map zeroed_link ls) (ap zeroed_link k.is ∙ zeroed_link_of k.is_and k.body))
      (one_link k.is_and (placed level.Pipeline (phrase k.body)) (links ls ++ rest) rest (zeroed k.body) (map zeroed_link ls) (at_pipeline deep lower k.body k.good) (links_after d ls y.1 rest e) (links_read ls y.1 rest e)))

  pub chain_good : {d : ℕ} (x : Command) (l : Link) (ls : List Link) → Placeable deep lower level.Pipeline d x → AllOf (LinkOk d) (l ∷ ls) → Placeable deep lower level.AndOr d (c.Chain x (l ∷ ls))
  chain_good {d} x l ls g y =
      placeable_by deep lower d level.AndOr (c.Chain x (l ∷ ls)) _ _ (phrase_chain x (l ∷ ls)) (zeroed_chain x (l ∷ ls)) refl (record {
        looks = λ rest. ap (λ t. starts (look t)) (append_assoc front back rest) ∙ k.looks (back ++ rest);
        reads = λ rest e.
            moved deep (append_assoc front back rest)
            (ruled deep (look (front ++ (back ++ rest))) refl (zeroed x, (map zeroed_link (l ∷ ls), tt))
            (more deep (of (k.reads (back ++ rest) (links_after d (l ∷ ls) y rest e))) (more deep (of (links_read (l ∷ ls) y rest e)) (done deep))));
      }) where
        front : Tokens
        front = placed level.Pipeline (phrase x)

        back : Tokens
        back = links (l ∷ ls)

        k : AsPipeline deep d front (zeroed x)
        k = at_pipeline deep lower x g

  -- ---- lists

  abbrev members : List Command → Tokens
  members xs = flat_map (λ p. (line ∷ []) ++ placed level.AndOr p) (map phrase xs)

  members_after : (xs : List Command) (behind rest : Tokens) → Closes behind rest → after_and_or (look (members xs ++ behind)) ≡ true
  members_after [] behind rest e = closes_and_or e
  members_after (x ∷ xs) behind rest e = ap after_and_or (look_kind o.Newline ((placed level.AndOr (phrase x) ++ members xs) ++ behind))

  members_read : {d : ℕ} (xs : List Command) → AllOf (Placeable deep lower level.AndOr d) xs → (behind rest : Tokens) → Closes behind rest → IsRule deep d 0 More (members xs ++ behind) (Whole (map zeroed xs) rest)
  members_read [] y behind rest e = closes_more deep e
  members_read (x ∷ xs) y behind rest e =
      let front = placed level.AndOr (phrase x) in
      let tail = members xs ++ behind in
      let k = at_and_or deep lower x y.0 in
      moved deep (ap (λ (m : Tokens). line ∷ m) (append_assoc front (members xs) behind))
      (ruled deep Newline (look_kind o.Newline (front ++ tail)) (0, (tt, (zeroed x ∷ map zeroed xs, tt)))
      (more deep (tok deep token.Newline (front ++ tail) (look_kind o.Newline (front ++ tail)))
      (more deep (of (newlines_none deep (start_newline (look (front ++ tail)) (k.looks tail))))
      (more deep (of (made deep (production_behind true) (ap production_behind (k.looks tail)) (zeroed x, (map zeroed xs, tt))
      (more deep (of (k.reads tail (members_after xs behind rest e))) (more deep (of (members_read xs y.1 behind rest e)) (done deep))))) (done deep)))))

  pub seq_good : {d : ℕ} (x y : Command) (xs : List Command) → AllOf (Placeable deep lower level.AndOr d) (x ∷ y ∷ xs) → Good deep lower d (c.Seq (x ∷ y ∷ xs))
  seq_good {d} x y xs g =
      good_by deep lower d (c.Seq (x ∷ y ∷ xs)) _ _ (phrase_seq (x ∷ y ∷ xs)) (zeroed_seq (x ∷ y ∷ xs)) (record {
        looks = λ rest. ap (λ t. starts (look t)) (append_assoc front back rest) ∙ k.looks (back ++ rest);
        reads = λ behind rest e.
            moved deep (append_assoc front back behind)
            (ruled deep (look (front ++ (back ++ behind))) refl (zeroed x, (map zeroed (y ∷ xs), tt))
            (more deep (of (k.reads (back ++ behind) (members_after (y ∷ xs) behind rest e))) (more deep (of (members_read (y ∷ xs) g.1 behind rest e)) (done deep))));
      }) where
        front : Tokens
        front = placed level.AndOr (phrase x)

        back : Tokens
        back = members (y ∷ xs)

        k : AsAndOr deep d front (zeroed x)
        k = at_and_or deep lower x g.0

  -- ---- compound commands

  list_of : {d : ℕ} (x : Command) → Good deep lower d x → AsList deep d (phrase x).tokens (zeroed x)
  list_of x g = up_list deep (phrase x).level g

  pub sub_good : {d : ℕ} (at : ℕ) (x : Command) → deep d ≡ false → Good deep lower (suc d) x → Placeable deep lower level.Compound d (c.Sub at x)
  sub_good {d} at x g y =
      placeable_by deep lower d level.Compound (c.Sub at x) _ _ (phrase_sub at x) (zeroed_sub at x) refl (record {
        begins = λ rest. refl;
        looks = λ rest. ap command_form (look_kind o.LeftParen ((ts ++ operator token.RightParen ∷ []) ++ rest));
        reads = λ rest.
            let tail = ts ++ operator token.RightParen ∷ rest in
            let close = look_kind o.RightParen rest in
            moved deep (ap (λ (m : Tokens). operator token.LeftParen ∷ m) (append_assoc ts (operator token.RightParen ∷ []) rest))
            (made deep (production_compound compound.Subshell) (ap (λ l. production_compound (compound_form l)) (look_kind o.LeftParen tail)) (0, (zeroed x, (0, tt)))
            (more deep (opn deep token.LeftParen tail g (look_kind o.LeftParen tail))
            (more deep (inside (block_read deep (list_of x y) (operator token.RightParen ∷ rest) (operator token.RightParen ∷ rest) (closes_here (ap behind_list close) (ap after_and_or close))))
            (more deep (tok deep token.RightParen rest close) (done deep)))));
      }) where
        ts : Tokens
        ts = (phrase x).tokens

  -- the body of a loop, and its `done`
  do_read : {d : ℕ} (x : Command) → Good deep lower d x → (rest : Tokens) → IsRule deep d 0 Block ((phrase x).tokens ++ line ∷ plain_token (codes "done") ∷ rest) (Whole (zeroed x) (plain_token (codes "done") ∷ rest))
  do_read x y rest = block_read deep (list_of x y) (line ∷ plain_token (codes "done") ∷ rest) (plain_token (codes "done") ∷ rest) (closes_line (ap behind_list (look_plain (codes "done") rest)))

  do_tail : (ts rest : Tokens) → do_tokens ts ++ rest ≡ line ∷ plain_token (codes "do") ∷ (ts ++ line ∷ plain_token (codes "done") ∷ rest)
  do_tail ts rest = ap (λ (m : Tokens). line ∷ plain_token (codes "do") ∷ m) (append_assoc ts (line ∷ plain_token (codes "done") ∷ []) rest)

  look_loop : (until : Bool) (ts : Tokens) → look (loop_token until ∷ ts) ≡ loop_word until
  look_loop true ts = look_plain (codes "until") ts
  look_loop false ts = look_plain (codes "while") ts

  loop_form : (until : Bool) → compound_form (loop_word until) ≡ compound.Loop until
  loop_form true = refl
  loop_form false = refl

  loop_command : (until : Bool) → command_form (loop_word until) ≡ Some command.Compound
  loop_command true = refl
  loop_command false = refl

  loop_begins : (until : Bool) (ts : Tokens) → place 0 (loop_token until ∷ ts) ≡ 0
  loop_begins true ts = refl
  loop_begins false ts = refl

  loop_opens : {d : ℕ} (until : Bool) (ts : Tokens) → deep d ≡ false → IsSign deep d 0 (Opens (loop_word until)) (loop_token until ∷ ts) (Whole 0 ts)
  loop_opens true ts g = opn deep _ ts g (look_loop true ts)
  loop_opens false ts g = opn deep _ ts g (look_loop false ts)

  pub while_good : {d : ℕ} (at : ℕ) (until : Bool) (cond x : Command) → deep d ≡ false → Good deep lower (suc d) cond → Good deep lower (suc d) x → Placeable deep lower level.Compound d (c.While at until cond x)
  while_good {d} at until cond x g y z =
      placeable_by deep lower d level.Compound (c.While at until cond x) _ _ (phrase_while at until cond x) (zeroed_while at until cond x) refl (record {
        begins = λ rest. loop_begins until ((cs ++ do_tokens ts) ++ rest);
        looks = λ rest. ap command_form (look_loop until ((cs ++ do_tokens ts) ++ rest)) ∙ loop_command until;
        reads = λ rest.
            let body = ts ++ line ∷ plain_token (codes "done") ∷ rest in
            let tail = cs ++ line ∷ plain_token (codes "do") ∷ body in
            moved deep (ap (λ (m : Tokens). loop_token until ∷ m) (append_assoc cs (do_tokens ts) rest ∙ ap (λ (m : Tokens). cs ++ m) (do_tail ts rest)))
            (made deep (production_compound (compound.Loop until)) (ap (λ l. production_compound (compound_form l)) (look_loop until tail) ∙ ap production_compound (loop_form until)) (0, ((zeroed cond, zeroed x), (0, tt)))
            (more deep (loop_opens until tail g)
            (more deep (inside (ruled deep (look tail) refl (zeroed cond, (0, (zeroed x, tt)))
            (more deep (of (block_read deep (list_of cond y) (line ∷ plain_token (codes "do") ∷ body) (plain_token (codes "do") ∷ body) (closes_line (ap behind_list (look_plain (codes "do") body)))))
            (more deep (tok deep _ body (look_plain (codes "do") body)) (more deep (of (do_read x z rest)) (done deep))))))
            (more deep (tok deep _ rest (look_plain (codes "done") rest)) (done deep)))));
      }) where
        cs : Tokens
        cs = (phrase cond).tokens

        ts : Tokens
        ts = (phrase x).tokens

  -- ---- `for`

  abbrev pub NameOk : Text → Type 0
  NameOk name = is_name_word (looks_so deep name) ≡ true

  name_read : {d : ℕ} (name : Text) → NameOk name → (rest : Tokens) → IsRule deep d 0 ForName (plain_token name ∷ rest) (Whole name rest)
  name_read name k rest =
      valued deep (sym (plain_word_text deep name))
      (made deep (production_name true) (ap (λ l. production_name (is_name_word l)) (look_plain name rest) ∙ ap production_name k) (_, tt) (more deep (plain_word_read deep name rest) (done deep)))

  -- what stands between the name and `do` is read es the words, behind newlines
  record AsForWords (d : ℕ) (ws : Tokens) (v : Option (List Word)) : Type 0 where
    pub reads : (body : Tokens) → (t1 : Tokens) × IsRule deep d 0 Newlines (ws ++ line ∷ plain_token (codes "do") ∷ body) (Whole tt t1)
        × IsRule deep d 0 ForWords t1 (Whole v (plain_token (codes "do") ∷ body))

  for_compound : {d : ℕ} (name : Text) (x : Command) (ws : Tokens) (v : Option (List Word)) → deep d ≡ false → NameOk name → Good deep lower (suc d) x → AsForWords (suc d) ws v
      → AsCompound deep d (plain_token (codes "for") ∷ plain_token name ∷ (ws ++ do_tokens (phrase x).tokens)) (c.For 0 name v (zeroed x))
  for_compound {d} name x ws v g k y w = record {
    begins = λ rest. refl;
    looks = λ rest. ap command_form (look_plain (codes "for") (plain_token name ∷ ((ws ++ do_tokens ts) ++ rest)));
    reads = λ rest.
        let body = ts ++ line ∷ plain_token (codes "done") ∷ rest in
        let tail = ws ++ line ∷ plain_token (codes "do") ∷ body in
        let n = w.reads body in
        moved deep (ap (λ (m : Tokens). plain_token (codes "for") ∷ plain_token name ∷ m) (append_assoc ws (do_tokens ts) rest ∙ ap (λ (m : Tokens). ws ++ m) (do_tail ts rest)))
        (made deep (production_compound compound.For) (ap (λ l. production_compound (compound_form l)) (look_plain (codes "for") (plain_token name ∷ tail))) (0, ((name, v, zeroed x), (0, tt)))
        (more deep (opn deep _ (plain_token name ∷ tail) g (look_plain (codes "for") (plain_token name ∷ tail)))
        (more deep (inside (ruled deep (look (plain_token name ∷ tail)) refl (name, (tt, (v, (0, (zeroed x, tt)))))
        (more deep (of (name_read name k tail)) (more deep (of n.1) (more deep (of n.2)
        (more deep (tok deep _ body (look_plain (codes "do") body)) (more deep (of (do_read x y rest)) (done deep))))))))
        (more deep (tok deep _ rest (look_plain (codes "done") rest)) (done deep)))));
  } where
    ts : Tokens
    ts = (phrase x).tokens

  no_words_read : {d : ℕ} → AsForWords d [] None
  no_words_read = record {
    reads = λ body. (
      plain_token (codes "do") ∷ body,
      one_newline deep (ap is_newline (look_plain (codes "do") body)),
      ruled deep (Keyword Do) (look_plain (codes "do") body) tt (done deep),
    );
  }

  in_words_read : {d : ℕ} (ws : List Word) → AllOf (AWordOk deep d) ws → AsForWords d (plain_token (codes "in") ∷ words_tokens deep ws) (Some (map zeroed_word ws))
  in_words_read ws x = record {
    reads = λ body.
        let last = plain_token (codes "do") ∷ body in
        let tail = words_tokens deep ws ++ line ∷ last in (
          plain_token (codes "in") ∷ tail,
          newlines_none deep (ap is_newline (look_plain (codes "in") tail)),
          ruled deep (Keyword In) (look_plain (codes "in") tail) (0, (map zeroed_word ws, (tt, tt)))
              (more deep (tok deep _ tail (look_plain (codes "in") tail))
              (more deep (of (each_read deep ws x (line ∷ last) (ap is_word (look_kind o.Newline last))))
              (more deep (of (ruled deep Newline (look_kind o.Newline last) (0, (tt, tt))
              (more deep (tok deep token.Newline last (look_kind o.Newline last)) (more deep (of (newlines_none deep (ap is_newline (look_plain (codes "do") body)))) (done deep))))) (done deep)))),
        );
  }

  -- the words that a `for` goes over, if it has any
  abbrev pub WordsOk : ℕ → Option (List Word) → Type 0
  WordsOk d None = Unit {0}
  WordsOk d (Some ws) = AllOf (AWordOk deep d) ws

  pub for_good : {d : ℕ} (at : ℕ) (name : Text) (words : Option (List Word)) (x : Command) → deep d ≡ false → NameOk name → WordsOk (suc d) words → Good deep lower (suc d) x → Placeable deep lower level.Compound d (c.For at name words x)
  for_good {d} at name None x g k w y =
      placeable_by deep lower d level.Compound (c.For at name None x) _ _ (phrase_for at name x) (zeroed_for at name x) refl (for_compound name x [] None g k y no_words_read)
  for_good {d} at name (Some ws) x g k w y =
      placeable_by deep lower d level.Compound (c.For at name (Some ws) x) _ _ (phrase_for_in at name ws x) (zeroed_for_in at name ws x) refl
      (for_compound name x (plain_token (codes "in") ∷ words_tokens deep ws) (Some (map zeroed_word ws)) g k y (in_words_read ws w))

  -- ---- scripts

  abbrev pub Scripted : ℕ → Command → Type 0
  Scripted d x = (x ≡ c.Seq []) ⊎ Good deep lower d x

  empty_tokens : (x : Command) → x ≡ c.Seq [] → (phrase x).tokens ≡ []
  empty_tokens x e = ap (λ x. (phrase x).tokens) e ∙ ap (λ (p : Phrase). p.tokens) (phrase_seq [])

  empty_zeroed : (x : Command) → x ≡ c.Seq [] → zeroed x ≡ c.Seq []
  empty_zeroed x e = ap zeroed e ∙ zeroed_seq []

  pub script_read : {d : ℕ} (x : Command) → Scripted d x → IsRule deep d 0 Script (phrase x).tokens (Whole (zeroed x) [])
  script_read x (inl e) =
      moved deep (empty_tokens x e) (valued deep (empty_zeroed x e)
      (ruled deep AtEnd refl (tt, (c.Seq [], (0, tt))) (more deep (of (newlines_none deep {ts = []} refl)) (more deep (of (ruled deep {ts = []} {r = []} AtEnd refl tt (done deep))) (more deep (is {ts = []} refl refl) (done deep))))))
  script_read x (inr g) =
      let k = list_of x g in
      let ts = (phrase x).tokens ++ [] in
      moved deep (sym (append-nil (phrase x).tokens))
      (ruled deep (look ts) refl (tt, (zeroed x, (0, tt)))
      (more deep (of (newlines_none deep (start_newline (look ts) (k.looks []))))
      (more deep (of (made deep _ (body_row (look ts) (k.looks [])) (zeroed x, tt) (more deep (of (k.reads [] [] (closes_here refl refl))) (done deep)))) (more deep (is refl refl) (done deep)))))

  -- ---- `case`

  pub record CaseArmOk (d : ℕ) (a : CaseArm) : Type 0 where
    pub pattern : Word
    pub patterns : List Word
    pub body : Command
    pub is : a ≡ case_arm (pattern ∷ patterns) body
    pub first : AWordOk deep d pattern
    pub others : AllOf (AWordOk deep d) patterns
    pub list : Scripted d body

  arm_list_newline : (d : ℕ) (x : Command) → Scripted d x → (rest : Tokens) → look rest ≡ DoubleSemi → is_newline (look ((phrase x).tokens ++ rest)) ≡ false
  arm_list_newline d x (inl e) rest k = ap (λ (t : Tokens). is_newline (look (t ++ rest))) (empty_tokens x e) ∙ ap is_newline k
  arm_list_newline d x (inr g) rest k = start_newline (look ((phrase x).tokens ++ rest)) ((list_of x g).looks rest)

  arm_list_read : {d : ℕ} (x : Command) → Scripted d x → (rest : Tokens) → look rest ≡ DoubleSemi → IsRule deep d 0 ArmBody ((phrase x).tokens ++ rest) (Whole (zeroed x) rest)
  arm_list_read x (inl e) rest k =
      moved deep (ap (λ (t : Tokens). t ++ rest) (empty_tokens x e)) (valued deep (empty_zeroed x e)
      (made deep (production_arm_body true) (ap (λ l. production_arm_body (ends_arm l)) k) tt (done deep)))
  arm_list_read x (inr g) rest k =
      let l = list_of x g in
      made deep (production_arm_body false) (ap production_arm_body (start_arm (look ((phrase x).tokens ++ rest)) (l.looks rest))) (zeroed x, tt)
      (more deep (of (l.reads rest rest (closes_here (ap behind_list k) (ap after_and_or k)))) (done deep))

  abbrev arms_tokens : List CaseArm → Tokens
  arms_tokens arms = flat_map (λ t. t) (map arm_tokens arms)

  -- the arms and the end of a `case`, from their newline on
  record ArmsTail (d : ℕ) (arms : List CaseArm) (rest : Tokens) : Type 0 where
    pub tokens : Tokens
    pub is : arms_tokens arms ++ line ∷ plain_token (codes "esac") ∷ rest ≡ line ∷ tokens
    pub looks : is_newline (look tokens) ≡ false
    pub reads : IsRule deep d 0 CaseArms tokens (Whole (map zeroed_case_arm arms) (plain_token (codes "esac") ∷ rest))

  arm_tail : (a : CaseArm) (w : Word) (ws : List Word) (x : Command) → a ≡ case_arm (w ∷ ws) x → (rest : Tokens)
      → arm_tokens a ++ rest ≡ line ∷ operator token.LeftParen ∷ word_token (word_raws w) ∷ (more_patterns deep ws ++ operator token.RightParen ∷ ((phrase x).tokens ++ operator token.DoubleSemi ∷ rest))
  arm_tail a w ws x e rest =
      let ts = (phrase x).tokens in
      let semi = operator token.DoubleSemi in
      ap (λ (t : Tokens). t ++ rest) (ap arm_tokens e ∙ phrase_the_case_arm (w ∷ ws) x)
      ∙ ap (λ (m : Tokens). line ∷ operator token.LeftParen ∷ word_token (word_raws w) ∷ m)
      (append_assoc (more_patterns deep ws) (operator token.RightParen ∷ (ts ++ semi ∷ [])) rest
      ∙ ap (λ (m : Tokens). more_patterns deep ws ++ operator token.RightParen ∷ m) (append_assoc ts (semi ∷ []) rest))

  arms_tail : {d : ℕ} (arms : List CaseArm) → AllOf (CaseArmOk d) arms → (rest : Tokens) → ArmsTail d arms rest
  arms_tail [] y rest = record {
    tokens = plain_token (codes "esac") ∷ rest;
    is = refl;
    looks = ap is_newline (look_plain (codes "esac") rest);
    reads = ruled deep (Keyword Esac) (look_plain (codes "esac") rest) tt (done deep);
  }
  arms_tail {d} (a ∷ es) y rest =
      let k = y.0 in
      let later = arms_tail es y.1 rest in
      let ts = (phrase k.body).tokens in
      let end = operator token.DoubleSemi ∷ line ∷ later.tokens in
      let body = ts ++ end in
      let mid = operator token.RightParen ∷ body in
      let pats = word_token (word_raws k.pattern) ∷ (more_patterns deep k.patterns ++ mid) in
      let semi = look_kind o.DoubleSemi (line ∷ later.tokens) in
      let all = operator token.LeftParen ∷ pats in
      let arm = case_arm (zeroed_word k.pattern ∷ map zeroed_word k.patterns) (zeroed k.body) in
      record {
        tokens = all;
        is = append_assoc (arm_tokens a) (arms_tokens es) (line ∷ plain_token (codes "esac") ∷ rest)
            ∙ ap (λ (m : Tokens). arm_tokens a ++ m) later.is
            ∙ arm_tail a k.pattern k.patterns k.body k.is (line ∷ later.tokens);
        looks = ap is_newline (look_kind o.LeftParen pats);
        reads = valued deep (ap (λ (a : CaseArm). a ∷ map zeroed_case_arm es) (ap zeroed_case_arm k.is ∙ zeroed_case_arm_of (k.pattern ∷ k.patterns) k.body))
            (ruled deep LeftParen (look_kind o.LeftParen pats) (arm, (map zeroed_case_arm es, tt))
            (more deep (of (ruled deep LeftParen (look_kind o.LeftParen pats) (0, (arm, tt))
            (more deep (tok deep token.LeftParen pats (look_kind o.LeftParen pats))
            (more deep (of (ruled deep (look pats) refl (zeroed_word k.pattern ∷ map zeroed_word k.patterns, (0, (tt, (zeroed k.body, tt))))
            (more deep (of (patterns_read deep k.pattern k.patterns k.first k.others mid (look_kind o.RightParen body)))
            (more deep (tok deep token.RightParen body (look_kind o.RightParen body))
            (more deep (of (newlines_none deep (arm_list_newline d k.body k.list end semi))) (more deep (of (arm_list_read k.body k.list end semi)) (done deep))))))) (done deep)))))
            (more deep (of (ruled deep DoubleSemi semi (0, (tt, (map zeroed_case_arm es, tt)))
            (more deep (tok deep token.DoubleSemi (line ∷ later.tokens) semi) (more deep (of (one_newline deep later.looks)) (more deep (of later.reads) (done deep)))))) (done deep))));
      }

  pub case_good : {d : ℕ} (at : ℕ) (w : Word) (arms : List CaseArm) → deep d ≡ false → AWordOk deep (suc d) w → AllOf (CaseArmOk (suc d)) arms → Placeable deep lower level.Compound d (c.Case at w arms)
  case_good {d} at w arms g k y =
      placeable_by deep lower d level.Compound (c.Case at w arms) _ _ (phrase_case at w arms) (zeroed_case at w arms) refl (record {
        begins = λ rest. refl;
        looks = λ rest. ap command_form (look_plain (codes "case") (word_token (word_raws w) ∷ plain_token (codes "in") ∷ ((ts ++ line ∷ esac ∷ []) ++ rest)));
        reads = λ rest.
            let t = arms_tail arms y rest in
            let behind_in = line ∷ t.tokens in
            let behind_word = plain_token (codes "in") ∷ behind_in in
            let tail = word_token (word_raws w) ∷ behind_word in
            moved deep (ap (λ (m : Tokens). plain_token (codes "case") ∷ word_token (word_raws w) ∷ plain_token (codes "in") ∷ m) (append_assoc ts (line ∷ esac ∷ []) rest ∙ t.is))
            (made deep (production_compound compound.Case) (ap (λ l. production_compound (compound_form l)) (look_plain (codes "case") tail)) (0, ((zeroed_word w, map zeroed_case_arm arms), (0, tt)))
            (more deep (opn deep _ tail g (look_plain (codes "case") tail))
            (more deep (inside (ruled deep (look tail) refl (zeroed_word w, (tt, (0, (tt, (map zeroed_case_arm arms, tt)))))
            (more deep (word_read deep w k.1 behind_word) (more deep (of (newlines_none deep (ap is_newline (look_plain (codes "in") behind_in))))
            (more deep (tok deep _ behind_in (look_plain (codes "in") behind_in)) (more deep (of (one_newline deep t.looks)) (more deep (of t.reads) (done deep))))))))
            (more deep (tok deep _ rest (look_plain (codes "esac") rest)) (done deep)))));
      }) where
        esac : Token
        esac = plain_token (codes "esac")

        ts : Tokens
        ts = arms_tokens arms

  -- ---- `if`

  pub record IfArmOk (d : ℕ) (a : IfArm) : Type 0 where
    pub cond : Command
    pub body : Command
    pub is : a ≡ if_arm cond body
    pub good_cond : Good deep lower d cond
    pub good_body : Good deep lower d body

  abbrev pub OtherwiseOk : ℕ → Option Command → Type 0
  OtherwiseOk d None = Unit {0}
  OtherwiseOk d (Some x) = Good deep lower d x

  abbrev phrase_option : Option Command → Option Phrase
  phrase_option None = None
  phrase_option (Some x) = Some (phrase x)

  abbrev elifs : List IfArm → Tokens
  elifs es = flat_map (λ t. (line ∷ plain_token (codes "elif") ∷ []) ++ t) (map condition_tokens es)

  -- what follows a body of `if`, from its newline on
  record IfTail (d : ℕ) (es : List IfArm) (otherwise : Option Command) (rest : Tokens) : Type 0 where
    pub tokens : Tokens
    pub is : elifs es ++ (if_end (phrase_option otherwise) ++ rest) ≡ line ∷ tokens
    pub looks : behind_list (look tokens) ≡ true
    pub reads : IsRule deep d 0 Arms tokens (Whole (map zeroed_if_arm es, zeroed_otherwise otherwise) (plain_token (codes "fi") ∷ rest))

  clause_tail : (a : IfArm) (cond x : Command) → a ≡ if_arm cond x → (rest : Tokens) → condition_tokens a ++ rest ≡ (phrase cond).tokens ++ line ∷ plain_token (codes "then") ∷ ((phrase x).tokens ++ rest)
  clause_tail a cond x e rest =
      ap (λ (t : Tokens). t ++ rest) (ap condition_tokens e ∙ phrase_the_if_arm cond x) ∙ append_assoc (phrase cond).tokens (line ∷ plain_token (codes "then") ∷ (phrase x).tokens) rest

  clause_read : {d : ℕ} (a : IfArm) (es : List IfArm) (otherwise : Option Command) → IfArmOk d a → (rest : Tokens) → (later : IfTail d es otherwise rest)
      → IsRule deep d 0 Clause (condition_tokens a ++ line ∷ later.tokens) (Whole (map zeroed_if_arm (a ∷ es), zeroed_otherwise otherwise) (plain_token (codes "fi") ∷ rest))
  clause_read a es otherwise k rest later =
      let cs = (phrase k.cond).tokens in
      let body = (phrase k.body).tokens ++ line ∷ later.tokens in
      let tail = cs ++ line ∷ plain_token (codes "then") ∷ body in
      let with_arm : IfArm → List IfArm × Option Command = λ a. (a ∷ map zeroed_if_arm es, zeroed_otherwise otherwise) in
      moved deep (clause_tail a k.cond k.body k.is (line ∷ later.tokens))
      (valued deep (ap with_arm (ap zeroed_if_arm k.is ∙ zeroed_if_arm_of k.cond k.body))
      (ruled deep (look tail) refl (zeroed k.cond, (0, (zeroed k.body, ((map zeroed_if_arm es, zeroed_otherwise otherwise), tt))))
      (more deep (of (block_read deep (list_of k.cond k.good_cond) (line ∷ plain_token (codes "then") ∷ body) (plain_token (codes "then") ∷ body) (closes_line (ap behind_list (look_plain (codes "then") body)))))
      (more deep (tok deep _ body (look_plain (codes "then") body))
      (more deep (of (block_read deep (list_of k.body k.good_body) (line ∷ later.tokens) later.tokens (closes_line later.looks))) (more deep (of later.reads) (done deep)))))))

  if_tail : {d : ℕ} (es : List IfArm) (otherwise : Option Command) → AllOf (IfArmOk d) es → OtherwiseOk d otherwise → (rest : Tokens) → IfTail d es otherwise rest
  if_tail [] None y z rest = record {
    tokens = plain_token (codes "fi") ∷ rest;
    is = refl;
    looks = ap behind_list (look_plain (codes "fi") rest);
    reads = ruled deep (Keyword Fi) (look_plain (codes "fi") rest) tt (done deep);
  }
  if_tail [] (Some x) y z rest =
      let fi = plain_token (codes "fi") ∷ rest in
      let tail = (phrase x).tokens ++ line ∷ fi in
      record {
        tokens = plain_token (codes "else") ∷ tail;
        is = ap (λ (m : Tokens). line ∷ plain_token (codes "else") ∷ m) (append_assoc (phrase x).tokens (line ∷ plain_token (codes "fi") ∷ []) rest);
        looks = ap behind_list (look_plain (codes "else") tail);
        reads = ruled deep (Keyword Else) (look_plain (codes "else") tail) (0, (zeroed x, tt))
            (more deep (tok deep _ tail (look_plain (codes "else") tail))
            (more deep (of (block_read deep (list_of x z) (line ∷ fi) fi (closes_line (ap behind_list (look_plain (codes "fi") rest))))) (done deep)));
      }
  if_tail {d} (a ∷ es) otherwise y z rest =
      let later = if_tail es otherwise y.1 z rest in
      let tail = condition_tokens a ++ line ∷ later.tokens in
      record {
        tokens = plain_token (codes "elif") ∷ tail;
        is = ap (λ (m : Tokens). line ∷ plain_token (codes "elif") ∷ m)
            (append_assoc (condition_tokens a) (elifs es) (if_end (phrase_option otherwise) ++ rest) ∙ ap (λ (m : Tokens). condition_tokens a ++ m) later.is);
        looks = ap behind_list (look_plain (codes "elif") tail);
        reads = ruled deep (Keyword Elif) (look_plain (codes "elif") tail) (0, ((map zeroed_if_arm (a ∷ es), zeroed_otherwise otherwise), tt))
            (more deep (tok deep _ tail (look_plain (codes "elif") tail)) (more deep (of (clause_read a es otherwise y.0 rest later)) (done deep)));
      }

  if_compound : {d : ℕ} (a : IfArm) (es : List IfArm) (otherwise : Option Command) → deep d ≡ false → AllOf (IfArmOk (suc d)) (a ∷ es) → OtherwiseOk (suc d) otherwise
      → AsCompound deep d (plain_token (codes "if") ∷ ((condition_tokens a ++ elifs es) ++ if_end (phrase_option otherwise))) (c.If 0 (map zeroed_if_arm (a ∷ es)) (zeroed_otherwise otherwise))
  if_compound {d} a es otherwise g y z = record {
    begins = λ rest. refl;
    looks = λ rest. ap command_form (look_plain (codes "if") (((condition_tokens a ++ elifs es) ++ end) ++ rest));
    reads = λ rest.
        let later = if_tail es otherwise y.1 z rest in
        let tail = condition_tokens a ++ line ∷ later.tokens in
        moved deep (ap (λ (m : Tokens). plain_token (codes "if") ∷ m)
        (append_assoc (condition_tokens a ++ elifs es) end rest ∙ append_assoc (condition_tokens a) (elifs es) (end ++ rest) ∙ ap (λ (m : Tokens). condition_tokens a ++ m) later.is))
        (made deep (production_compound compound.If) (ap (λ l. production_compound (compound_form l)) (look_plain (codes "if") tail)) (0, ((map zeroed_if_arm (a ∷ es), zeroed_otherwise otherwise), (0, tt)))
        (more deep (opn deep _ tail g (look_plain (codes "if") tail)) (more deep (inside (clause_read a es otherwise y.0 rest later)) (more deep (tok deep _ rest (look_plain (codes "fi") rest)) (done deep)))));
  } where
    end : Tokens
    end = if_end (phrase_option otherwise)

  pub if_good : {d : ℕ} (at : ℕ) (a : IfArm) (es : List IfArm) (otherwise : Option Command) → deep d ≡ false → AllOf (IfArmOk (suc d)) (a ∷ es) → OtherwiseOk (suc d) otherwise → Placeable deep lower level.Compound d (c.If at (a ∷ es) otherwise)
  if_good {d} at a es None g y z =
      placeable_by deep lower d level.Compound (c.If at (a ∷ es) None) _ _ (phrase_if at (a ∷ es)) (zeroed_if at (a ∷ es)) refl (if_compound a es None g y z)
  if_good {d} at a es (Some x) g y z =
      placeable_by deep lower d level.Compound (c.If at (a ∷ es) (Some x)) _ _ (phrase_if_else at (a ∷ es) x) (zeroed_if_else at (a ∷ es) x) refl (if_compound a es (Some x) g y z)

  -- ---- definitions

  pub define_good : {d : ℕ} (at : ℕ) (name : Text) (x : Command) → deep d ≡ false → looks_so deep name ≡ Name → Good deep lower (suc d) x → Placeable deep lower level.Command d (c.Define at name x)
  define_good {d} at name x g k y =
      placeable_by deep lower d level.Command (c.Define at name x) _ _ (phrase_define at name x) (zeroed_define at name x) refl (record {
        begins = λ rest. refl;
        looks = λ rest. ap (λ l. is_some (command_form l)) (look_plain name (operator token.LeftParen ∷ operator token.RightParen ∷ (ts ++ rest)) ∙ k);
        reads = λ rest e.
            let behind_right = ts ++ rest in
            let behind_left = operator token.RightParen ∷ behind_right in
            let tail = operator token.LeftParen ∷ behind_left in
            valued deep (ap (λ n. c.Define 0 n (zeroed x)) (sym (plain_word_text deep name)))
            (made deep (production_command (Some command.Named)) (ap (λ l. production_command (command_form l)) (look_plain name tail ∙ k)) (0, (_, (Defines (zeroed x), tt)))
            (more deep (hre deep refl) (more deep (plain_word_read deep name tail)
            (more deep (of (ruled deep LeftParen (look_kind o.LeftParen behind_left) (0, (0, (tt, (zeroed x, tt))))
            (more deep (tok deep token.LeftParen behind_left (look_kind o.LeftParen behind_left)) (more deep (tok deep token.RightParen behind_right (look_kind o.RightParen behind_right))
            (more deep (of (newlines_none deep (ap is_newline (look_plain (codes "{") (((phrase x).tokens ++ line ∷ plain_token (codes "}") ∷ []) ++ rest))))) (more deep (of (braces_read deep g (list_of x y) rest)) (done deep))))))) (done deep)))));
      }) where
        ts : Tokens
        ts = braced (phrase x).tokens
