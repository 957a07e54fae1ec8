-- The printed tokens of each form of command are read es it, where those of its members are read es them.
use Rattle.std.proofs.Common.{◌≡◌, ℕ, Bool, true, false, List, [], ◌∷◌, ◌++◌, map, append_assoc, append-nil, Some, None, refl, sym, ap, ◌∙◌, subst}
use Rattle.std.specs.List.{flat_map}
use Rattle.shell_syntax.specs.declared.redirect.Redirect.{Redirect}
use Rattle.shell_syntax.specs.declared.syntax.Command.{Command}
use Rattle.shell_syntax.specs.declared.syntax.Command.TheVariants as c
use Rattle.shell_syntax.specs.declared.syntax.Command.TheFolds.{fold_out-Word}
use Rattle.shell_syntax.specs.declared.syntax.Part.{out-Part, out-roll-Part}
use Rattle.shell_syntax.specs.declared.syntax.Part.TheVariants as part
use Rattle.shell_syntax.specs.declared.syntax.Command.TheOpen as seen
use Rattle.shell_syntax.specs.declared.syntax.Assign.{Assign}
use Rattle.shell_syntax.specs.declared.syntax.Word.{Word}
use Rattle.shell_lexer.specs.declared.token.TokenKind.TheVariants as token
use Rattle.shell_lexer.specs.declared.token.RawPart.{RawPart}
use Rattle.shell_lexer.specs.declared.token.RawPart.TheVariants as raw
use Rattle.shell_lexer.specs.declared.token.RawPart.TheOpen as o
use Rattle.shell_grammar.specs.declared.form.CommandForm.TheVariants as command
use Rattle.shell_grammar.specs.declared.form.Item.TheVariants as an
use Rattle.shell_grammar.specs.declared.items.Items.{Items}
use Rattle.shell_grammar.specs.declared.look.Look.{Look}
use Rattle.shell_grammar.specs.declared.look.Look.TheVariants.{Bar, RightParen, Redirection, Name, Assignment, Other}
use Rattle.shell_grammar.specs.Forms.{command_form, item, is_some, is_word}
use Rattle.shell_grammar.specs.Grammar.{ACommand, Each, Patterns, MorePatterns, SimpleItems, Redirects, AWord, production_command, production_each, production_items}
use Rattle.shell_grammar.specs.Look.{Text, Tokens, look, place, word_look, whole_look, reserved}
use Rattle.shell_grammar.specs.Reading.{Whole, Faultless, plainly, IsRule, IsSign, a_word as reads_word, IsParts, no_parts, plain_part, of}
use Rattle.shell_grammar.specs.Trees.{word_at, word_text, plain_text, simple, assigned, Continues}
use Rattle.shell_lexer.proofs.PrintedBytes.{clash}
use Rattle.shell_grammar.proofs.Behind.{is_open, word_open, raws_are_word}
use Rattle.shell_printing.specs.Zeroed.{zeroed_part, zeroed_assign, zeroed_word}
use Rattle.shell_printing.specs.PrintedTokens.{Phrase, word_token, plain_token, operator, redirect_token, command_layer, part_layer, assign_layer, case_arm_layer, if_arm_layer, link_layer, word_layer, raw_of, assign_raws, word_raws}
use Rattle.shell_printing.proofs.ZeroedTrees.{zeroed_word_of, assigned_zeroed}
use Rattle.shell_printing.proofs.ZeroedTokens.{seen_plain}
use Rattle.shell_printing.proofs.Levels.{look_kind, look_word, word_of, after_command, no_redirect, not_a_word, not_open, tok, hre, done, more, made, ruled, moved, valued, redirects_none, AsCommand, AsCompound, AsItems}
use Rattle.shell_grammar.proofs.ToTable.{item_redirection, named_row, item_is_word, item_is_none}

-- a fact of each member
abbrev pub AllOf : {A : Type 0} → (A → Type 0) → List A → Type 0
AllOf P [] = Unit {0}
AllOf P (x ∷ xs) = P x × AllOf P xs

-- ---- words

pub word_raws_of : (w : Word) → word_raws w ≡ map raw_of w.parts
word_raws_of w = fold_out-Word Phrase RawPart (List RawPart) Tokens Tokens Tokens (List RawPart) command_layer part_layer assign_layer case_arm_layer if_arm_layer link_layer word_layer w

module _ (deep : ℕ → Bool) where
  -- a word is read, and looks so
  pub record WordOk (d : ℕ) (l : Look) (w : Word) : Type 0 where
    pub parts : IsParts deep d (map raw_of w.parts) (Faultless (map zeroed_part w.parts))
    pub looks : word_look (map raw_of w.parts) ≡ l

  abbrev pub AWordOk : ℕ → Word → Type 0
  AWordOk d w = (l : Look) × WordOk d l w

  pub word_read : {d : ℕ} {l : Look} (w : Word) → WordOk d l w → (rest : Tokens) → IsSign deep d 0 AWord (word_token (word_raws w) ∷ rest) (Whole (zeroed_word w) rest)
  word_read {d} w x rest =
      reads_word (word_raws w) (map zeroed_part w.parts) (word_of (word_raws w) rest)
      (subst (λ rs. IsParts deep d rs (Faultless (map zeroed_part w.parts))) (sym (word_raws_of w)) x.parts)
      (ap (λ z. Whole z rest) (zeroed_word_of w))

  pub word_looks : {d : ℕ} {l : Look} (w : Word) → WordOk d l w → (rest : Tokens) → look (word_token (word_raws w) ∷ rest) ≡ l
  word_looks w x rest = look_word (word_raws w) rest ∙ ap word_look (word_raws_of w) ∙ x.looks

  pub word_is_word : (w : Word) (rest : Tokens) → is_word (look (word_token (word_raws w) ∷ rest)) ≡ true
  word_is_word w rest = ap is_word (look_word (word_raws w) rest) ∙ raws_are_word (word_raws w)

  abbrev pub words_tokens : List Word → Tokens
  words_tokens ws = map word_token (map word_raws ws)

  pub each_read : {d : ℕ} (ws : List Word) → AllOf (AWordOk d) ws → (rest : Tokens) → is_word (look rest) ≡ false → IsRule deep d 0 Each (words_tokens ws ++ rest) (Whole (map zeroed_word ws) rest)
  each_read [] x rest e = made deep (production_each false) (ap production_each e) tt (done deep)
  each_read (w ∷ ws) x rest e =
      made deep (production_each true) (ap production_each (word_is_word w (words_tokens ws ++ rest))) (zeroed_word w, (map zeroed_word ws, tt))
      (more deep (word_read w x.0.1 (words_tokens ws ++ rest)) (more deep (of (each_read ws x.1 rest e)) (done deep)))

  -- ---- patterns

  abbrev pub more_patterns : List Word → Tokens
  more_patterns ws = flat_map (λ raws. (operator token.Bar ∷ []) ++ (word_token raws ∷ [])) (map word_raws ws)

  more_patterns_read : {d : ℕ} (ws : List Word) → AllOf (AWordOk d) ws → (rest : Tokens) → look rest ≡ RightParen → IsRule deep d 0 MorePatterns (more_patterns ws ++ rest) (Whole (map zeroed_word ws) rest)
  more_patterns_read [] x rest e = ruled deep RightParen e tt (done deep)
  more_patterns_read (w ∷ ws) x rest e =
      let tail = more_patterns ws ++ rest in
      ruled deep Bar (look_kind o.Bar (word_token (word_raws w) ∷ tail)) (0, (zeroed_word w, (map zeroed_word ws, tt)))
      (more deep (tok deep token.Bar (word_token (word_raws w) ∷ tail) (look_kind o.Bar (word_token (word_raws w) ∷ tail)))
      (more deep (word_read w x.0.1 tail) (more deep (of (more_patterns_read ws x.1 rest e)) (done deep))))

  pub patterns_read : {d : ℕ} (w : Word) (ws : List Word) → AWordOk d w → AllOf (AWordOk d) ws → (rest : Tokens) → look rest ≡ RightParen → IsRule deep d 0 Patterns (word_token (word_raws w) ∷ (more_patterns ws ++ rest)) (Whole (zeroed_word w ∷ map zeroed_word ws) rest)
  patterns_read w ws x xs rest e =
      let tail = more_patterns ws ++ rest in
      ruled deep (look (word_token (word_raws w) ∷ tail)) refl (zeroed_word w, (map zeroed_word ws, tt))
      (more deep (word_read w x.1 tail) (more deep (of (more_patterns_read ws xs rest e)) (done deep)))

  -- ---- the items of a simple command

  pub record AssignOk (d : ℕ) (a : Assign) : Type 0 where
    pub word : Word
    pub is : a ≡ assigned word
    pub raws : assign_raws a ≡ word_raws word
    pub reads : WordOk d Assignment word

  -- words before which no word stands: the first one is no assignment
  abbrev pub FirstWords : ℕ → List Word → Type 0
  FirstWords d [] = Unit {0}
  FirstWords d (w ∷ ws) = ((l : Look) × WordOk d l w × (l ≡ Assignment → ⊥)) × AllOf (AWordOk d) ws

  abbrev items_of : List Assign → List Word → Items
  items_of es ws = record { assigns = map zeroed_assign es; words = map zeroed_word ws; redirects = [] }

  items_none : {d : ℕ} (b : Bool) (rest : Tokens) → after_command (look rest) ≡ true → IsRule deep d 0 (SimpleItems b) rest (Whole (items_of [] []) rest)
  items_none b rest e = made deep (production_items b None) (ap (production_items b) (item_is_none b (look rest) (not_a_word (look rest) e) (no_redirect (look rest) e))) tt (done deep)

  later_items : {d : ℕ} (ws : List Word) → AllOf (AWordOk d) ws → (rest : Tokens) → after_command (look rest) ≡ true → IsRule deep d 0 (SimpleItems true) (words_tokens ws ++ rest) (Whole (items_of [] ws) rest)
  later_items [] x rest e = items_none true rest e
  later_items (w ∷ ws) x rest e =
      let tail = words_tokens ws ++ rest in
      made deep (production_items true (Some an.Word)) (ap (production_items true) (item_is_word true (look (word_token (word_raws w) ∷ tail)) (word_is_word w tail) (λ f h. clash f refl)))
      (zeroed_word w, (items_of [] ws, tt)) (more deep (word_read w x.0.1 tail) (more deep (of (later_items ws x.1 rest e)) (done deep)))

  first_items : {d : ℕ} (ws : List Word) → FirstWords d ws → (rest : Tokens) → after_command (look rest) ≡ true → IsRule deep d 0 (SimpleItems false) (words_tokens ws ++ rest) (Whole (items_of [] ws) rest)
  first_items [] x rest e = items_none false rest e
  first_items (w ∷ ws) x rest e =
      let tail = words_tokens ws ++ rest in
      made deep (production_items false (Some an.Word))
      (ap (production_items false) (item_is_word false (look (word_token (word_raws w) ∷ tail)) (word_is_word w tail) (λ f h. x.0.2 (sym (word_looks w x.0.1 tail) ∙ h))))
      (zeroed_word w, (items_of [] ws, tt)) (more deep (word_read w x.0.1 tail) (more deep (of (later_items ws x.1 rest e)) (done deep)))

  abbrev pub simple_tokens : List Assign → List Word → Tokens
  simple_tokens es ws = map word_token (map assign_raws es) ++ words_tokens ws

  assign_items : {d : ℕ} (es : List Assign) (ws : List Word) → AllOf (AssignOk d) es → FirstWords d ws → (rest : Tokens) → after_command (look rest) ≡ true
      → IsRule deep d 0 (SimpleItems false) (simple_tokens es ws ++ rest) (Whole (items_of es ws) rest)
  assign_items [] ws x y rest e = first_items ws y rest e
  assign_items (a ∷ es) ws x y rest e =
      let tail = simple_tokens es ws ++ rest in
      let z : zeroed_assign a ≡ assigned (zeroed_word x.0.word) = ap zeroed_assign x.0.is ∙ assigned_zeroed x.0.word in
      moved deep (ap (λ raws. word_token raws ∷ tail) x.0.raws)
      (valued deep (ap (λ (a : Assign). record { assigns = a ∷ map zeroed_assign es; words = map zeroed_word ws; redirects = [] }) z)
      (made deep (production_items false (Some an.Assignment)) (ap (λ l. production_items false (item false l)) (word_looks x.0.word x.0.reads tail))
      (zeroed_word x.0.word, (items_of es ws, tt)) (more deep (word_read x.0.word x.0.reads tail) (more deep (of (assign_items es ws x.1 y rest e)) (done deep)))))

  -- what a simple command begins with
  pub data Begins (d : ℕ) : List Assign → List Word → Type 0 where
    with_assign : {a : Assign} {es : List Assign} {ws : List Word} → Begins d (a ∷ es) ws
    with_name : {w : Word} {ws : List Word} → WordOk d Name w → Begins d [] (w ∷ ws)
    with_other : {w : Word} {ws : List Word} → WordOk d Other w → Begins d [] (w ∷ ws)

  pub as_items : {d : ℕ} (es : List Assign) (ws : List Word) → AllOf (AssignOk d) es → FirstWords d ws → AsItems deep d (simple_tokens es ws) (c.Simple 0 (map zeroed_assign es) (map zeroed_word ws))
  as_items es ws x y = record { items = items_of es ws; is = refl; none = refl; reads = λ rest e. assign_items es ws x y rest e }

  simply : {d : ℕ} {ts r : Tokens} (l : Look) (items : Items) → look ts ≡ l → command_form l ≡ Some command.Simple → place 0 ts ≡ 0 → IsRule deep d 0 (SimpleItems false) ts (Whole items r) → IsRule deep d 0 ACommand ts (Whole (simple 0 items) r)
  simply l items k f p x = made deep (production_command (Some command.Simple)) (ap (λ l. production_command (command_form l)) k ∙ ap production_command f) (0, (items, tt)) (more deep (hre deep p) (more deep (of x) (done deep)))

  tail_not_open : (ws : List Word) (rest : Tokens) → after_command (look rest) ≡ true → is_open (look (words_tokens ws ++ rest)) ≡ false
  tail_not_open [] rest e = not_open (look rest) e
  tail_not_open (w ∷ ws) rest e = word_open (look (word_token (word_raws w) ∷ (words_tokens ws ++ rest))) (word_is_word w (words_tokens ws ++ rest))

  pub as_command : {d : ℕ} (es : List Assign) (ws : List Word) → AllOf (AssignOk d) es → FirstWords d ws → Begins d es ws → AsCommand deep d (simple_tokens es ws) (c.Simple 0 (map zeroed_assign es) (map zeroed_word ws))
  as_command {d = d} [] [] x y k = elim k [ ]
  as_command (a ∷ es) ws x y with_assign =
      let l = (λ (rest : Tokens). ap (λ raws. look (word_token raws ∷ (simple_tokens es ws ++ rest))) x.0.raws ∙ word_looks x.0.word x.0.reads (simple_tokens es ws ++ rest)) in
      record {
        begins = λ rest. refl;
        looks = λ rest. ap (λ l. is_some (command_form l)) (l rest);
        reads = λ rest e. simply Assignment (items_of (a ∷ es) ws) (l rest) refl refl (assign_items (a ∷ es) ws x y rest e);
      }
  as_command [] (w ∷ ws) x y (with_other k) = record {
    begins = λ rest. refl;
    looks = λ rest. ap (λ l. is_some (command_form l)) (word_looks w k (words_tokens ws ++ rest));
    reads = λ rest e. simply Other (items_of [] (w ∷ ws)) (word_looks w k (words_tokens ws ++ rest)) refl refl (first_items (w ∷ ws) y rest e);
  }
  as_command [] (w ∷ ws) x y (with_name k) = record {
    begins = λ rest. refl;
    looks = λ rest. ap (λ l. is_some (command_form l)) (word_looks w k (words_tokens ws ++ rest));
    reads = λ rest e.
        let tail = words_tokens ws ++ rest in
        made deep (production_command (Some command.Named)) (ap (λ l. production_command (command_form l)) (word_looks w k tail)) (0, (zeroed_word w, (Continues (items_of [] ws), tt)))
        (more deep (hre deep refl) (more deep (word_read w k tail)
        (more deep (of (made deep _ (named_row (look tail) (tail_not_open ws rest e)) (items_of [] ws, tt) (more deep (of (later_items ws y.1 rest e)) (done deep)))) (done deep))));
  }

  -- ---- redirections

  redirects_read : {d : ℕ} (rs : List Redirect) (rest : Tokens) → after_command (look rest) ≡ true → IsRule deep d 0 Redirects (map redirect_token rs ++ rest) (Whole rs rest)
  redirects_read [] rest e = redirects_none deep e
  redirects_read (r ∷ rs) rest e =
      let tail = map redirect_token rs ++ rest in
      ruled deep (Redirection r) (look_kind (o.Redirect r) tail) (0, (rs, tt))
      (more deep (tok deep (token.Redirect r) tail (look_kind (o.Redirect r) tail)) (more deep (of (redirects_read rs rest e)) (done deep)))

  abbrev redirect_on : List Redirect → Items → Items
  redirect_on rs items = record { assigns = items.assigns; words = items.words; redirects = rs ++ items.redirects }

  redirect_items : {d : ℕ} (rs : List Redirect) (items : Items) (ts rest : Tokens) → IsRule deep d 0 (SimpleItems false) (ts ++ rest) (Whole items rest)
      → IsRule deep d 0 (SimpleItems false) (map redirect_token rs ++ (ts ++ rest)) (Whole (redirect_on rs items) rest)
  redirect_items [] items ts rest x = x
  redirect_items (r ∷ rs) items ts rest x =
      let tail = map redirect_token rs ++ (ts ++ rest) in
      made deep (production_items false (Some (an.Redirection r))) (ap (λ l. production_items false (item false l)) (look_kind (o.Redirect r) tail) ∙ ap (production_items false) (item_redirection false r))
      (0, (redirect_on rs items, tt)) (more deep (tok deep (token.Redirect r) tail (look_kind (o.Redirect r) tail)) (more deep (of (redirect_items rs items ts rest x)) (done deep)))

  pub behind_redirects : {d : ℕ} (r : Redirect) (rs : List Redirect) (ts : Tokens) (z : Command) → AsItems deep d ts z → AsCommand deep d (map redirect_token (r ∷ rs) ++ ts) (c.Redirected 0 z (r ∷ rs))
  behind_redirects {d} r rs ts z x =
      let front = map redirect_token (r ∷ rs) in
      let value : c.Redirected 0 z (r ∷ rs) ≡ simple 0 (redirect_on (r ∷ rs) x.items) =
      ap (λ z. c.Redirected 0 z (r ∷ rs)) x.is ∙ ap (λ (l : List Redirect). c.Redirected 0 (c.Simple 0 x.items.assigns x.items.words) (r ∷ l)) (sym (append-nil rs) ∙ ap (λ (l : List Redirect). rs ++ l) (sym x.none))
      in
      record {
        begins = λ rest. refl;
        looks = λ rest. ap (λ l. is_some (command_form l)) (look_kind (o.Redirect r) ((map redirect_token rs ++ ts) ++ rest));
        reads = λ rest e.
            moved deep (append_assoc front ts rest)
            (valued deep value (simply (Redirection r) (redirect_on (r ∷ rs) x.items) (look_kind (o.Redirect r) (map redirect_token rs ++ (ts ++ rest))) refl refl (redirect_items (r ∷ rs) x.items ts rest (x.reads rest e))));
      }

  pub before_redirects : {d : ℕ} (r : Redirect) (rs : List Redirect) (ts : Tokens) (z : Command) → AsCompound deep d ts z → AsCommand deep d (ts ++ map redirect_token (r ∷ rs)) (c.Redirected 0 z (r ∷ rs))
  before_redirects {d} r rs ts z x =
      let back = map redirect_token (r ∷ rs) in
      record {
        begins = λ rest. ap (place 0) (append_assoc ts back rest) ∙ x.begins (back ++ rest);
        looks = λ rest. ap (λ t. is_some (command_form (look t))) (append_assoc ts back rest) ∙ ap is_some (x.looks (back ++ rest));
        reads = λ rest e.
            moved deep (append_assoc ts back rest)
            (made deep (production_command (Some command.Compound)) (ap production_command (x.looks (back ++ rest))) (0, (z, (r ∷ rs, tt)))
            (more deep (hre deep (x.begins (back ++ rest))) (more deep (of (x.reads (back ++ rest))) (more deep (of (redirects_read (r ∷ rs) rest e)) (done deep)))));
      }

  -- ---- names

  -- a word of these plain bytes alone, which looks so
  abbrev pub looks_so : Text → Look
  looks_so name = whole_look name (reserved name)

  pub plain_word_read : {d : ℕ} (name : Text) (rest : Tokens) → IsSign deep d 0 AWord (plain_token name ∷ rest) (Whole (word_at 0 (part.Plain name ∷ [])) rest)
  plain_word_read name rest = reads_word (raw.Plain name ∷ []) (part.Plain name ∷ []) (word_of (raw.Plain name ∷ []) rest) (plain_part (part.Plain name) (Faultless []) (ap plainly (seen_plain name)) (no_parts refl) refl) refl

  pub plain_word_text : (name : Text) → word_text (word_at 0 (part.Plain name ∷ [])) ≡ name
  plain_word_text name = ap plain_text (ap out-Part (sym (part.rolls-Plain name)) ∙ out-roll-Part (seen.Plain name))
