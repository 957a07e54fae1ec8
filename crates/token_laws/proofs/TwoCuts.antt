-- A cut text, a newline and a second text are cut into the tokens of the cut, the newline's, and those of the second text.
use Rattle.std.proofs.Common.{◌≡◌, ℕ, suc, ◌+◌, Bool, true, false, if◌then◌else◌, ◌&&◌, not, nat_eq, List, [], ◌∷◌, ◌++◌, append_assoc, length, length-append, Some, None, refl, sym, ap, ◌∙◌, subst, arith}
use Rattle.std.specs.List.{list_all}
use Rattle.shell_lexer.specs.declared.sight.Sign.TheVariants as sign
use Rattle.shell_lexer.specs.declared.sight.ByteNote.{ByteNote}
use Rattle.shell_lexer.specs.declared.sight.ByteNote.TheVariants as note
use Rattle.shell_lexer.specs.declared.token.Token.{Token}
use Rattle.shell_lexer.specs.declared.token.RawPart.{RawPart}
use Rattle.shell_lexer.specs.declared.token.RawPart.TheVariants as part
use Rattle.shell_lexer.specs.declared.token.TokenKind.TheVariants as token
use Rattle.shell_lexer.specs.declared.token.Lexed.{Lexed}
use Rattle.shell_lexer.specs.FirstLine.{first_line, behind_line, interpreter, nul_from, nul_of}
use Rattle.shell_lexer.specs.Late.{late}
use Rattle.token_laws.specs.Laws.{last_is, IsReadAt, with_line}
use Rattle.shell_lexer.specs.Lexed.{CutBy}
use Rattle.shell_lexer.specs.Operators.{End, Passed, Operator, Word}
use Rattle.shell_lexer.specs.Parts.{Ends, Byte, Piece, AllArgs, DoubleQuote, Substitution}
use Rattle.shell_lexer.specs.Reading.{Out, Whole, Stop, Read, behind, grown, token_at, kind_of_sign, opened, plain_run, quoted_run, IsItems, items_end, items_pass, items_wrong, items_close, items_sign, items_word, items_late, items_bad, IsWord, word_ends, word_byte, word_piece, word_all, word_double, word_run, word_wrong, word_bad_double, word_bad_run, IsInner, inner_open, inner_ends, inner_byte, inner_piece, inner_all, inner_run, inner_wrong, inner_bad_run, IsSub, sub_deep, sub_items}
use Rattle.shell_lexer.specs.Text.{Bytes, skip, place, offset}
use Rattle.shell_lexer.proofs.Ahead.{Behind}
use Rattle.token_laws.proofs.BeforeNewline.{Unjoined, unjoined_behind, skip_before, sight_before, look_before, inner_before}
use Rattle.shell_lexer.proofs.Cells.{if_both}
use Rattle.shell_lexer.proofs.Rests.{passed_rest, operator_rest, byte_rest, piece_rest, all_rest, double_rest, run_rest, inner_byte_rest, inner_piece_rest, inner_all_rest, inner_run_rest}
use Rattle.std.proofs.lemmas.Bool.{cond-false, cond_both, false≢true, true≢false}
use Rattle.shell_lexer.proofs.SpelledCases.{none_some}
use Rattle.shell_lexer.proofs.SpelledFronts.{shown}
use Rattle.shell_lexer.proofs.Tiles.{fits, word_leave, inner_leave, sub_leave}

-- ---- whole outcomes

abbrev IsWhole : {A : Type 0} → Out A → Type 0
IsWhole (Whole v rest) = Unit {0}
IsWhole (Stop f) = ⊥

whole_behind : {A : Type 0} (xs : List A) (q r : Out (List A)) → q ≡ behind xs r → IsWhole q → IsWhole r
whole_behind xs q (Whole v rest) e w = tt
whole_behind xs q (Stop f) e w = subst IsWhole e w

whole_grown : (ps : List RawPart) (ms : List ByteNote) (q r : Out Read) → q ≡ grown ps ms r → IsWhole q → IsWhole r
whole_grown ps ms q (Whole v rest) e w = tt
whole_grown ps ms q (Stop f) e w = subst IsWhole e w

no_whole : {A B : Type 0} (q r : Out A) → q ≡ r → (IsWhole r → ⊥) → IsWhole q → B
no_whole q r e n w = absurd (n (subst IsWhole e w))

-- ---- readings of a text, in one of so many bytes that has a newline and more behind it

module _ (deep : ℕ → Bool) (after : Bytes) (len total : ℕ) (sum : total ≡ len + length (10 ∷ after)) where
  offset_before : (text : Bytes) → Unjoined text → offset total (text ++ 10 ∷ after) ≡ offset len text
  offset_before text u = ap (place total) (skip_before after text u) ∙ same (skip text) where
    same : (t : Bytes) → place total (t ++ 10 ∷ after) ≡ place len t
    same t = let l = length-append t (10 ∷ after) in omega arith

  -- the same outcome, with the newline and what follows behind the rest
  abbrev extended : {A : Type 0} → Out A → Out A
  extended (Whole v rest) = Whole v (rest ++ 10 ∷ after)
  extended (Stop f) = Stop f

  extended_behind : {A : Type 0} (xs : List A) (q : Out (List A)) → extended (behind xs q) ≡ behind xs (extended q)
  extended_behind xs (Whole v rest) = refl
  extended_behind xs (Stop f) = refl

  extended_grown : (ps : List RawPart) (ms : List ByteNote) (q : Out Read) → extended (grown ps ms q) ≡ grown ps ms (extended q)
  extended_grown ps ms (Whole v rest) = refl
  extended_grown ps ms (Stop f) = refl

  mutual
    items_before : {depth start parens : ℕ} {text : Bytes} {q : Out (List Token)} → IsItems deep len (suc depth) start parens text q → IsWhole q → Unjoined text
        → IsItems deep total (suc depth) start parens (text ++ 10 ∷ after) (extended q)
    items_before {depth} {start} {parens} {text} {q} (items_end h e) w u = no_whole q _ e (λ n. n) w
    items_before {depth} {start} {parens} {text} {q} (items_pass t h x) w u =
        items_pass (t ++ 10 ∷ after) (sight_before after len total text (Passed t) h u) (items_before x w (unjoined_behind text t (passed_rest len text t h) u))
    items_before {depth} {start} {parens} {text} {q} (items_wrong f h e) w u = no_whole q _ e (λ n. n) w
    items_before {depth} {start} {parens} {text} {q} (items_close s t h c e) w u =
        items_close s (t ++ 10 ∷ after) (sight_before after len total text (Operator s t) h u) c (ap extended e)
    items_before {depth} {start} {parens} {text} {q} (items_sign s t q1 h c x e) w u =
        let first = token_at (offset len text) (kind_of_sign s) ∷ [] in
        items_sign s (t ++ 10 ∷ after) (extended q1) (sight_before after len total text (Operator s t) h u) c
        (items_before x (whole_behind first q q1 e w) (unjoined_behind text t (operator_rest len text s t h) u))
        (ap extended e ∙ extended_behind first q1 ∙ ap (λ n. behind (token_at n (kind_of_sign s) ∷ []) (extended q1)) (sym (offset_before text u)))
    items_before {depth} {start} {parens} {text} {q} (items_word v t q1 h i l x e) w u =
        let first = token_at (offset len text) (token.Word v.0) ∷ [] in
        items_word v (t ++ 10 ∷ after) (extended q1) (sight_before after len total text Word h u) (word_before i tt u)
        (ap (λ n. late (suc depth) n v.1) (offset_before text u) ∙ l)
        (items_before x (whole_behind first q q1 e w) (unjoined_behind text t (word_leave i) u))
        (ap extended e ∙ extended_behind first q1 ∙ ap (λ n. behind (token_at n (token.Word v.0) ∷ []) (extended q1)) (sym (offset_before text u)))
    items_before {depth} {start} {parens} {text} {q} (items_late v t f h i l e) w u = no_whole q _ e (λ n. n) w
    items_before {depth} {start} {parens} {text} {q} (items_bad f h i e) w u = no_whole q _ e (λ n. n) w

    word_before : {depth : ℕ} {run text : Bytes} {q : Out Read} → IsWord deep len depth run text q → IsWhole q → Unjoined text → IsWord deep total depth run (text ++ 10 ∷ after) (extended q)
    word_before {depth} {run} {text} {q} (word_ends h e) w u = word_ends (look_before after len total text Ends h u) (ap extended e)
    word_before {depth} {run} {text} {q} (word_byte c t q1 h x e) w u =
        word_byte c (t ++ 10 ∷ after) (extended q1) (look_before after len total text (Byte c t) h u)
        (word_before x (whole_grown [] (note.Plain c (offset len text) ∷ []) q q1 e w) (unjoined_behind text t (byte_rest len text c t h) u))
        (ap extended e ∙ extended_grown [] (note.Plain c (offset len text) ∷ []) q1 ∙ ap (λ n. grown [] (note.Plain c n ∷ []) (extended q1)) (sym (offset_before text u)))
    word_before {depth} {run} {text} {q} (word_piece p t q1 h x e) w u =
        word_piece p (t ++ 10 ∷ after) (extended q1) (look_before after len total text (Piece p t) h u)
        (word_before x (whole_grown (plain_run run ++ p ∷ []) (note.Gap ∷ []) q q1 e w) (unjoined_behind text t (piece_rest len text p t h) u))
        (ap extended e ∙ extended_grown (plain_run run ++ p ∷ []) (note.Gap ∷ []) q1)
    word_before {depth} {run} {text} {q} (word_all t q1 h x e) w u =
        word_all (t ++ 10 ∷ after) (extended q1) (look_before after len total text (AllArgs t) h u)
        (word_before x (whole_grown (plain_run run ++ part.All ∷ []) (note.All (offset len text) false ∷ []) q q1 e w) (unjoined_behind text t (all_rest len text t h) u))
        (ap extended e ∙ extended_grown (plain_run run ++ part.All ∷ []) (note.All (offset len text) false ∷ []) q1
        ∙ ap (λ n. grown (plain_run run ++ part.All ∷ []) (note.All n false ∷ []) (extended q1)) (sym (offset_before text u)))
    word_before {depth} {run} {text} {q} (word_double g v t q1 h i x e) w u =
        let begun = unjoined_behind text g (double_rest len text g h) u in
        word_double (g ++ 10 ∷ after) v (t ++ 10 ∷ after) (extended q1) (look_before after len total text (DoubleQuote g) h u)
        (subst (λ n. IsInner deep total depth n true [] (g ++ 10 ∷ after) (Whole v (t ++ 10 ∷ after))) (sym (offset_before text u)) (inside_before i tt begun))
        (word_before x (whole_grown (plain_run run ++ v.0) (v.1 ++ note.Gap ∷ []) q q1 e w) (unjoined_behind g t (inner_leave i) begun))
        (ap extended e ∙ extended_grown (plain_run run ++ v.0) (v.1 ++ note.Gap ∷ []) q1)
    word_before {depth} {run} {text} {q} (word_run g ts t q1 h i x e) w u =
        let begun = unjoined_behind text g (run_rest len text g h) u in
        word_run (g ++ 10 ∷ after) ts (t ++ 10 ∷ after) (extended q1) (look_before after len total text (Substitution g) h u)
        (subst (λ n. IsSub deep total depth n (g ++ 10 ∷ after) (Whole ts (t ++ 10 ∷ after))) (sym (offset_before text u)) (sub_before i tt begun))
        (word_before x (whole_grown (plain_run run ++ part.Run (offset len text) ts false ∷ []) (note.Gap ∷ []) q q1 e w) (unjoined_behind g t (sub_leave i) begun))
        (ap extended e ∙ extended_grown (plain_run run ++ part.Run (offset len text) ts false ∷ []) (note.Gap ∷ []) q1
        ∙ ap (λ n. grown (plain_run run ++ part.Run n ts false ∷ []) (note.Gap ∷ []) (extended q1)) (sym (offset_before text u)))
    word_before {depth} {run} {text} {q} (word_wrong f h e) w u = no_whole q _ e (λ n. n) w
    word_before {depth} {run} {text} {q} (word_bad_double g f h i e) w u = no_whole q _ e (λ n. n) w
    word_before {depth} {run} {text} {q} (word_bad_run g f h i e) w u = no_whole q _ e (λ n. n) w

    inside_before : {depth start : ℕ} {fresh : Bool} {run text : Bytes} {q : Out Read} → IsInner deep len depth start fresh run text q → IsWhole q → Unjoined text
        → IsInner deep total depth start fresh run (text ++ 10 ∷ after) (extended q)
    inside_before {depth} {start} {fresh} {run} {text} {q} (inner_open h e) w u = no_whole q _ e (λ n. n) w
    inside_before {depth} {start} {fresh} {run} {text} {q} (inner_ends t h e) w u =
        inner_ends (t ++ 10 ∷ after) (inner_before after len total text (DoubleQuote t) h (λ n. cc) u) (ap extended e)
    inside_before {depth} {start} {fresh} {run} {text} {q} (inner_byte c t q1 h x e) w u =
        inner_byte c (t ++ 10 ∷ after) (extended q1) (inner_before after len total text (Byte c t) h (λ n. cc) u)
        (inside_before x (whole_grown [] (note.Gap ∷ []) q q1 e w) (unjoined_behind text t (inner_byte_rest len text c t h) u))
        (ap extended e ∙ extended_grown [] (note.Gap ∷ []) q1)
    inside_before {depth} {start} {fresh} {run} {text} {q} (inner_piece p t q1 h x e) w u =
        inner_piece p (t ++ 10 ∷ after) (extended q1) (inner_before after len total text (Piece p t) h (λ n. cc) u)
        (inside_before x (whole_grown (quoted_run run ++ p ∷ []) (note.Gap ∷ []) q q1 e w) (unjoined_behind text t (inner_piece_rest len text p t h) u))
        (ap extended e ∙ extended_grown (quoted_run run ++ p ∷ []) (note.Gap ∷ []) q1)
    inside_before {depth} {start} {fresh} {run} {text} {q} (inner_all t q1 h x e) w u =
        inner_all (t ++ 10 ∷ after) (extended q1) (inner_before after len total text (AllArgs t) h (λ n. cc) u)
        (inside_before x (whole_grown (quoted_run run ++ part.All ∷ []) (note.All (offset len text) true ∷ []) q q1 e w) (unjoined_behind text t (inner_all_rest len text t h) u))
        (ap extended e ∙ extended_grown (quoted_run run ++ part.All ∷ []) (note.All (offset len text) true ∷ []) q1
        ∙ ap (λ n. grown (quoted_run run ++ part.All ∷ []) (note.All n true ∷ []) (extended q1)) (sym (offset_before text u)))
    inside_before {depth} {start} {fresh} {run} {text} {q} (inner_run g ts t q1 h i x e) w u =
        let begun = unjoined_behind text g (inner_run_rest len text g h) u in
        inner_run (g ++ 10 ∷ after) ts (t ++ 10 ∷ after) (extended q1) (inner_before after len total text (Substitution g) h (λ n. cc) u)
        (subst (λ n. IsSub deep total depth n (g ++ 10 ∷ after) (Whole ts (t ++ 10 ∷ after))) (sym (offset_before text u)) (sub_before i tt begun))
        (inside_before x (whole_grown (quoted_run run ++ part.Run (offset len text) ts true ∷ []) (note.Gap ∷ []) q q1 e w) (unjoined_behind g t (sub_leave i) begun))
        (ap extended e ∙ extended_grown (quoted_run run ++ part.Run (offset len text) ts true ∷ []) (note.Gap ∷ []) q1
        ∙ ap (λ n. grown (quoted_run run ++ part.Run n ts true ∷ []) (note.Gap ∷ []) (extended q1)) (sym (offset_before text u)))
    inside_before {depth} {start} {fresh} {run} {text} {q} (inner_wrong f h e) w u = no_whole q _ e (λ n. n) w
    inside_before {depth} {start} {fresh} {run} {text} {q} (inner_bad_run g f h i e) w u = no_whole q _ e (λ n. n) w

    sub_before : {depth start : ℕ} {text : Bytes} {q : Out (List Token)} → IsSub deep len depth start text q → IsWhole q → Unjoined text → IsSub deep total depth start (text ++ 10 ∷ after) (extended q)
    sub_before {depth} {start} {text} {q} (sub_deep l e) w u = no_whole q _ e (λ n. n) w
    sub_before {depth} {start} {text} {q} (sub_items l x) w u = sub_items l (items_before x w u)

  -- ---- outside substitutions

  -- parentheses outside substitutions change nothing
  any_parens : {start parens : ℕ} {text : Bytes} {q : Out (List Token)} (other : ℕ) → IsItems deep total 0 start parens text q → IsItems deep total 0 start other text q
  any_parens other (items_end h e) = items_end h e
  any_parens other (items_pass t h x) = items_pass t h (any_parens other x)
  any_parens other (items_wrong f h e) = items_wrong f h e
  any_parens other (items_close s t h c e) = absurd (cc c)
  any_parens other (items_sign s t q1 h c x e) = items_sign s t q1 h c (any_parens (opened s other) x) e
  any_parens other (items_word v t q1 h i l x e) = items_word v t q1 h i l (any_parens other x) e
  any_parens other (items_late v t f h i l e) = items_late v t f h i l e
  any_parens other (items_bad f h i e) = items_bad f h i e

  module _ (us : List Token) (y : IsItems deep total 0 0 0 after (Whole us [])) where
    -- the same outcome, with the newline's token and those of the second text
    abbrev followed : Out (List Token) → Out (List Token)
    followed (Whole ts rest) = Whole (ts ++ (token_at len token.Newline ∷ us)) []
    followed (Stop f) = Stop f

    followed_behind : (xs : List Token) (q : Out (List Token)) → followed (behind xs q) ≡ behind xs (followed q)
    followed_behind xs (Whole ts rest) = ap (λ (us : List Token). Whole us []) (append_assoc xs ts (token_at len token.Newline ∷ us))
    followed_behind xs (Stop f) = refl

    top_before : {parens : ℕ} {text : Bytes} {q : Out (List Token)} → IsItems deep len 0 0 parens text q → IsWhole q → Unjoined text → IsItems deep total 0 0 parens (text ++ 10 ∷ after) (followed q)
    top_before {parens} {text} {q} (items_end h e) w u =
        let next : skip (text ++ 10 ∷ after) ≡ 10 ∷ after = skip_before after text u ∙ ap (λ (t : Bytes). t ++ 10 ∷ after) (fits len text End h) in
        let at : offset total (text ++ 10 ∷ after) ≡ len = ap (place total) next ∙ last in
        items_sign sign.Newline after (Whole us []) (shown total 10 (text ++ 10 ∷ after) after next) refl (any_parens parens y)
        (ap followed e ∙ ap (λ n. Whole (token_at n token.Newline ∷ us) []) (sym at)) where
          last : place total (10 ∷ after) ≡ len
          last = omega arith
    top_before {parens} {text} {q} (items_pass t h x) w u =
        items_pass (t ++ 10 ∷ after) (sight_before after len total text (Passed t) h u) (top_before x w (unjoined_behind text t (passed_rest len text t h) u))
    top_before {parens} {text} {q} (items_wrong f h e) w u = no_whole q _ e (λ n. n) w
    top_before {parens} {text} {q} (items_close s t h c e) w u = absurd (cc c)
    top_before {parens} {text} {q} (items_sign s t q1 h c x e) w u =
        let first = token_at (offset len text) (kind_of_sign s) ∷ [] in
        items_sign s (t ++ 10 ∷ after) (followed q1) (sight_before after len total text (Operator s t) h u) c
        (top_before x (whole_behind first q q1 e w) (unjoined_behind text t (operator_rest len text s t h) u))
        (ap followed e ∙ followed_behind first q1 ∙ ap (λ n. behind (token_at n (kind_of_sign s) ∷ []) (followed q1)) (sym (offset_before text u)))
    top_before {parens} {text} {q} (items_word v t q1 h i l x e) w u =
        let first = token_at (offset len text) (token.Word v.0) ∷ [] in
        items_word v (t ++ 10 ∷ after) (followed q1) (sight_before after len total text Word h u) (word_before i tt u)
        (ap (λ n. late 0 n v.1) (offset_before text u) ∙ l)
        (top_before x (whole_behind first q q1 e w) (unjoined_behind text t (word_leave i) u))
        (ap followed e ∙ followed_behind first q1 ∙ ap (λ n. behind (token_at n (token.Word v.0) ∷ []) (followed q1)) (sym (offset_before text u)))
    top_before {parens} {text} {q} (items_late v t f h i l e) w u = no_whole q _ e (λ n. n) w
    top_before {parens} {text} {q} (items_bad f h i e) w u = no_whole q _ e (λ n. n) w

-- ---- the first line, and NUL

and_rest : (a b : Bool) → a ≡ true → (a && b) ≡ false → b ≡ false
and_rest true b h e = e
and_rest false b h e = absurd (false≢true h)

module _ (after : Bytes) where
  line_before : (t : Bytes) → first_line (t ++ 10 ∷ after) ≡ first_line t
  line_before [] = refl
  line_before (c ∷ t) = ap (λ (line : Bytes). if nat_eq c 10 then [] else c ∷ line) (line_before t)

  behind_before : (t : Bytes) → list_all (λ b. not (nat_eq b 10)) t ≡ false → behind_line (t ++ 10 ∷ after) ≡ behind_line t ++ 10 ∷ after
  behind_before [] e = absurd (true≢false e)
  behind_before (c ∷ t) e =
      if_both (λ (u : Bytes). u ++ 10 ∷ after) (nat_eq c 10) (t ++ 10 ∷ after) (behind_line (t ++ 10 ∷ after)) t (behind_line t) (λ _. refl)
      (λ n. behind_before t (and_rest (not (nat_eq c 10)) (list_all (λ b. not (nat_eq b 10)) t) (ap not n) e))

line_behind : (t : Bytes) → Behind t (behind_line t)
line_behind [] = ([], refl)
line_behind (c ∷ t) =
    cond_both (nat_eq c 10) t (behind_line t) (Behind (c ∷ t)) (λ _. (c ∷ [], refl)) (λ _. let more = line_behind t in (c ∷ more.0, ap (λ (u : Bytes). c ∷ u) more.1))

nul_anywhere : (at to : ℕ) (t : Bytes) → nul_from at t ≡ None → nul_from to t ≡ None
nul_anywhere at to [] e = refl
nul_anywhere at to (c ∷ t) e =
    cond_both (nat_eq c 0) (Some at) (nul_from (at + 1) t) (λ o. o ≡ None → nul_from to (c ∷ t) ≡ None) (λ _ e. absurd (none_some (sym e)))
    (λ n e. cond-false (nat_eq c 0) (Some to) (nul_from (to + 1) t) n ∙ nul_anywhere (at + 1) (to + 1) t e) e

nul_before : (at : ℕ) (t after : Bytes) → nul_from at t ≡ None → nul_of after ≡ None → nul_from at (t ++ 10 ∷ after) ≡ None
nul_before at [] after e f = nul_anywhere 0 (at + 1) after f
nul_before at (c ∷ t) after e f =
    cond_both (nat_eq c 0) (Some at) (nul_from (at + 1) t) (λ o. o ≡ None → nul_from at (c ∷ (t ++ 10 ∷ after)) ≡ None) (λ _ e. absurd (none_some (sym e)))
    (λ n e. cond-false (nat_eq c 0) (Some at) (nul_from (at + 1) (t ++ 10 ∷ after)) n ∙ nul_before (at + 1) t after e f) e

-- ---- cuts

pub cut_apart : (deep : ℕ → Bool) (text second : Bytes) (l : Lexed) (ts : List Token) → CutBy deep text l → list_all (λ b. not (nat_eq b 10)) text ≡ false → last_is 92 text ≡ false
    → nul_of second ≡ None → IsReadAt deep (length text + 1) second ts → CutBy deep (text ++ 10 ∷ second) (with_line l second ts)
cut_apart deep text second l ts c line last n y =
    let sum : length (text ++ 10 ∷ second) ≡ length text + length (10 ∷ second) = length-append text (10 ∷ second) in
    let all : (length text + 1) + length second ≡ length (text ++ 10 ∷ second) = omega arith in
    let z : IsItems deep (length (text ++ 10 ∷ second)) 0 0 0 second (Whole ts []) = subst (λ k. IsItems deep k 0 0 0 second (Whole ts [])) all y in
    let body : IsItems deep (length (text ++ 10 ∷ second)) 0 0 0 (behind_line text ++ 10 ∷ second) (Whole (l.tokens ++ (token_at (length text) token.Newline ∷ ts)) []) =
    top_before deep second (length text) (length (text ++ 10 ∷ second)) sum ts z c.body tt (unjoined_behind text (behind_line text) (line_behind text) last) in
    let moved : IsItems deep (length (text ++ 10 ∷ second)) 0 0 0 (behind_line text ++ 10 ∷ second) (Whole (l.tokens ++ (token_at l.end token.Newline ∷ ts)) []) =
    subst (λ k. IsItems deep (length (text ++ 10 ∷ second)) 0 0 0 (behind_line text ++ 10 ∷ second) (Whole (l.tokens ++ (token_at k token.Newline ∷ ts)) [])) (sym c.end) body in
    record {
      no_nul = nul_before 0 text second c.no_nul n;
      first = ap interpreter (line_before second text) ∙ c.first;
      body = subst (λ t. IsItems deep (length (text ++ 10 ∷ second)) 0 0 0 t (Whole (l.tokens ++ (token_at l.end token.Newline ∷ ts)) [])) (sym (behind_before second text line)) moved;
      end = ap (λ k. k + 1 + length second) c.end ∙ all;
    }
