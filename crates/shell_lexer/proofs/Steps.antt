-- One step of each loop, by the rule that it is.
use Rattle.std.proofs.Common.{◌⊎◌, inl, inr, ◌≡◌, ℕ, zero, suc, ◌+◌, ◌<◌, ◌≤◌, Bool, true, false, List, [], ◌∷◌, ◌++◌, append_assoc, append-nil, Some, None, Result, Ok, Err, refl, sym, ap, ◌∙◌, subst, arith, drop, length}
use Rattle.std.proofs.Math.ListN.{drop_of_length-le}
use Rattle.std.proofs.lemmas.Bool.{le-leb, lt-leb}
use Rattle.shell_lexer.specs.declared.sight.Sign.{Sign}
use Rattle.shell_lexer.specs.declared.sight.ByteNote.{ByteNote}
use Rattle.shell_lexer.specs.declared.sight.ByteNote.TheVariants as note
use Rattle.shell_lexer.specs.declared.fault.LexFault.{LexFault}
use Rattle.shell_lexer.specs.declared.fault.LexFault.TheVariants.{OpenQuote, OpenSubstitution, Deep}
use Rattle.shell_lexer.specs.declared.token.Token.{Token}
use Rattle.shell_lexer.specs.declared.token.RawPart.{RawPart}
use Rattle.shell_lexer.specs.declared.token.RawPart.TheVariants as part
use Rattle.shell_lexer.specs.declared.token.TokenKind.{TokenKind}
use Rattle.shell_lexer.specs.declared.token.TokenKind.TheVariants as token
use Rattle.shell_lexer.specs.declared.sight.Sight as shown
use Rattle.shell_lexer.specs.declared.sight.Look as shown_look
use Rattle.shell_lexer.specs.Depth.{too_deep}
use Rattle.shell_lexer.specs.Text.{Bytes, skip, place}
use Rattle.shell_lexer.specs.Seen.{seen, Further, seen_look, FurtherLook}
use Rattle.shell_lexer.specs.Operators as operators
use Rattle.shell_lexer.specs.Operators.{sight, sight_at}
use Rattle.shell_lexer.specs.Parts as parts
use Rattle.shell_lexer.specs.Parts.{look, inner, look_at, inner_at}
use Rattle.shell_lexer.specs.Late.{late}
use Rattle.shell_lexer.specs.Reading.{Out, Whole, Stop, Read, behind, grown, ended, closes, opened, token_at, kind_of_sign, plain_run, quoted_run, last_run, IsItems, items_end, items_pass, items_wrong, items_close, items_sign, items_word, items_late, items_bad, IsWord, word_ends, word_byte, word_piece, word_all, word_double, word_run, word_wrong, word_bad_double, word_bad_run, IsInner, inner_open, inner_ends, inner_byte, inner_piece, inner_all, inner_run, inner_wrong, inner_bad_run, IsSub, sub_deep, sub_items}
use Rattle.shell_lexer.specs.Reads.{ItemsRead, TokenRead, WordFails, WordRead, InnerRead, SubRead}
use Rattle.shell_lexer.proofs.Causes.{caused, caused_map}
use Rattle.shell_lexer.proofs.Fronts.{Here, place_of, at_here}
use Rattle.shell_lexer.proofs.SoFar.{ItemsSoFar, WordSoFar, InnerSoFar}

-- ---- what was seen, in an arm of a match

pub sees_as : (text : Bytes) {v w : shown.Sight} {t : operators.Sight} → v ≡ w → seen text v ≡ t → seen text w ≡ t
sees_as text e g = ap (seen text) (sym e) ∙ g

pub further_as : (at len : ℕ) {v w : shown.Sight} → v ≡ w → Further at len v → Further at len w
further_as at len e f = subst (Further at len) e f

pub looks_as : (text : Bytes) {v w : shown_look.Look} {t : parts.Look} → v ≡ w → seen_look text v ≡ t → seen_look text w ≡ t
looks_as text e g = ap (seen_look text) (sym e) ∙ g

pub further_look : (at len : ℕ) {v w : shown_look.Look} → v ≡ w → FurtherLook at len v → FurtherLook at len w
further_look at len e f = subst (FurtherLook at len) e f

-- ---- pieces

behind_append : {A : Type 0} (xs ys : List A) (q : Out (List A)) → behind (xs ++ ys) q ≡ behind xs (behind ys q)
behind_append xs ys (Whole v rest) = ap (λ l. Whole l rest) (append_assoc xs ys v)
behind_append xs ys (Stop f) = refl

behind_none : {A : Type 0} (q : Out (List A)) → behind [] q ≡ q
behind_none (Whole v rest) = refl
behind_none (Stop f) = refl

grown_append : (ps new : List RawPart) (ms more : List ByteNote) (q : Out Read) → grown (ps ++ new) (ms ++ more) q ≡ grown ps ms (grown new more q)
grown_append ps new ms more (Whole v rest) = ap (λ l. Whole (l, (ms ++ more) ++ v.1) rest) (append_assoc ps new v.0) ∙ ap (λ l. Whole (ps ++ (new ++ v.0), l) rest) (append_assoc ms more v.1)
grown_append ps new ms more (Stop f) = refl

grown_none : (q : Out Read) → grown [] [] q ≡ q
grown_none (Whole v rest) = refl
grown_none (Stop f) = refl

-- ---- the tokens

module _ (text : Bytes) (depth «from» at : ℕ) where
  pub items_start : at ≤ length text → ItemsSoFar text depth «from» at 0 at []
  items_start le = record { on = omega arith; within = le; few = omega arith; goes_on = λ q x. subst (IsItems too_deep (length text) depth «from» 0 (drop at text)) (sym (behind_none q)) x }

  module _ (parens p here : ℕ) (out : List Token) (s : ItemsSoFar text depth «from» at parens p out) (h : Here text p here) where
    sees : (v : operators.Sight) → v ≡ sight_at (length text) here (drop here text) → sight (length text) (drop p text) ≡ v
    sees v e = at_here (sight_at (length text)) text p here h ∙ sym e

    pub items_passed : (rest : ℕ) → operators.Passed (drop rest text) ≡ sight_at (length text) here (drop here text) → here < rest → rest ≤ length text → ItemsSoFar text depth «from» at parens rest out
    items_passed rest e lt le =
        let a : at ≤ p = s.on in let b : p ≤ here = h.on in let d : parens ≤ p = s.few in
        record { on = omega arith; within = le; few = omega arith; goes_on = λ q x. s.goes_on q (items_pass (drop rest text) (sees _ e) x) }

    pub items_signed : (rest : ℕ) (sign : Sign) (k : TokenKind) (parens' : ℕ) (out' : List Token) → operators.Operator sign (drop rest text) ≡ sight_at (length text) here (drop here text) → here < rest → rest ≤ length text
        → closes depth parens sign ≡ false → k ≡ kind_of_sign sign → parens' ≡ opened sign parens → parens' ≤ parens + 1 → out' ≡ out ++ token_at here k ∷ [] → ItemsSoFar text depth «from» at parens' rest out'
    items_signed rest sign k parens' out' e lt le c ek o few is =
        let a : at ≤ p = s.on in let b : p ≤ here = h.on in let d : parens ≤ p = s.few in
        let tok : List Token = token_at here k ∷ [] in
        let tok' : List Token = token_at (place (length text) (skip (drop p text))) (kind_of_sign sign) ∷ [] in
        let same : tok ≡ tok' = ap (λ k. token_at here k ∷ []) ek ∙ ap (λ n. token_at n (kind_of_sign sign) ∷ []) (sym (place_of text p here h)) in
        record {
          on = omega arith;
          within = le;
          few = omega arith;
          goes_on = λ q x.
              subst (IsItems too_deep (length text) depth «from» 0 (drop at text)) (sym (ap (λ l. behind l q) is ∙ behind_append out tok q))
              (s.goes_on (behind tok q) (items_sign sign (drop rest text) q (sees _ e) c (subst (λ n. IsItems too_deep (length text) depth «from» n (drop rest text) q) o x) (ap (λ l. behind l q) same)));
        }

    pub items_worded : (rest : ℕ) (tok : Token) (out' : List Token) → operators.Word ≡ sight_at (length text) here (drop here text) → TokenRead text depth p here (Ok (tok, rest))
        → p < rest → out' ≡ out ++ tok ∷ [] → ItemsSoFar text depth «from» at parens rest out'
    items_worded rest tok out' e r lt is =
        let a : at ≤ p = s.on in let d : parens ≤ p = s.few in
        let w : Read = r.2.0 in
        let begin : place (length text) (skip (drop p text)) ≡ here = place_of text p here h in
        let same : tok ≡ token_at (place (length text) (skip (drop p text))) (token.Word w.0) = r.2.1 ∙ ap (λ n. token_at n (token.Word w.0)) (sym begin) in
        record {
          on = omega arith;
          within = r.0;
          few = omega arith;
          goes_on = λ q x.
              subst (IsItems too_deep (length text) depth «from» 0 (drop at text)) (sym (ap (λ l. behind l q) is ∙ behind_append out (tok ∷ []) q))
              (s.goes_on (behind (tok ∷ []) q) (items_word w (drop rest text) q (sees _ e) r.2.2 (subst (λ n. late depth n w.1 ≡ None) (sym begin) r.2.3) x (ap (λ t. behind (t ∷ []) q) same)));
        }

    pub items_whole : (end : ℕ) → operators.End ≡ sight_at (length text) here (drop here text) → depth ≡ 0 → end ≡ length text → ItemsRead text depth «from» at (Ok (out, end))
    items_whole end e z is =
        let a : at ≤ p = s.on in let b : p ≤ length text = s.within in
        let goal : behind out (ended depth «from») ≡ Whole out (drop end text) =
        ap (λ d. behind out (ended d «from»)) z ∙ ap (λ l. Whole l []) (append-nil out) ∙ ap (Whole out) (sym (drop_of_length-le text (omega arith))) in
        (omega arith, omega arith, subst (IsItems too_deep (length text) depth «from» 0 (drop at text)) goal (s.goes_on (ended depth «from») (items_end (sees _ e) refl)))

    pub items_unclosed : operators.End ≡ sight_at (length text) here (drop here text) → (depth ≡ 0 → ⊥) → ItemsRead text depth «from» at (Err (OpenSubstitution «from»))
    items_unclosed e z =
        let goal : behind out (ended depth «from») ≡ Stop (OpenSubstitution «from») = elim depth as (λ d. (d ≡ 0 → ⊥) → behind out (ended d «from») ≡ Stop (OpenSubstitution «from»)) [ zero ↦ λ z. absurd (z refl) | suc d ↦ λ _. refl ] z in
        subst (IsItems too_deep (length text) depth «from» 0 (drop at text)) goal (s.goes_on (ended depth «from») (items_end (sees _ e) refl))

    pub items_closed : (rest : ℕ) (sign : Sign) → operators.Operator sign (drop rest text) ≡ sight_at (length text) here (drop here text) → here < rest → rest ≤ length text → closes depth parens sign ≡ true → ItemsRead text depth «from» at (Ok (out, rest))
    items_closed rest sign e lt le c =
        let a : at ≤ p = s.on in let b : p ≤ here = h.on in
        (omega arith, le, subst (IsItems too_deep (length text) depth «from» 0 (drop at text)) (ap (λ l. Whole l (drop rest text)) (append-nil out)) (s.goes_on (Whole [] (drop rest text)) (items_close sign (drop rest text) (sees _ e) c refl)))

    pub items_fault : (f : LexFault) → operators.Wrong f ≡ sight_at (length text) here (drop here text) → ItemsRead text depth «from» at (Err f)
    items_fault f e = caused (λ g. IsItems too_deep (length text) depth «from» 0 (drop at text) (Stop g)) f (s.goes_on (Stop f) (items_wrong f (sees _ e) refl))

    word_failed : (g : LexFault) → operators.Word ≡ sight_at (length text) here (drop here text) → WordFails text depth p here g → IsItems too_deep (length text) depth «from» parens (drop p text) (Stop g)
    word_failed g e (inl x) = items_bad g (sees _ e) x refl
    word_failed g e (inr r) = items_late r.0 r.1 g (sees _ e) r.2 (subst (λ n. late depth n r.0.1 ≡ Some g) (sym (place_of text p here h)) r.3) refl

    pub items_bad_word : (f : LexFault) → operators.Word ≡ sight_at (length text) here (drop here text) → TokenRead text depth p here (Err f) → ItemsRead text depth «from» at (Err f)
    items_bad_word f e w = caused_map (WordFails text depth p here) (λ g. IsItems too_deep (length text) depth «from» 0 (drop at text) (Stop g)) f (λ g x. s.goes_on (Stop g) (word_failed g e x)) w

-- ---- a word with its token

pub token_bad : (text : Bytes) (depth at here : ℕ) (f : LexFault) → WordRead text depth at (Err f) → TokenRead text depth at here (Err f)
token_bad text depth at here f w = caused_map (λ g. IsWord too_deep (length text) depth [] (drop at text) (Stop g)) (WordFails text depth at here) f (λ g x. inl x) w

pub token_late : (text : Bytes) (depth at here : ℕ) (ps : List RawPart) (ms : List ByteNote) (rest : ℕ) (f : LexFault) → WordRead text depth at (Ok (ps, ms, rest)) → late depth here ms ≡ Some f → TokenRead text depth at here (Err f)
token_late text depth at here ps ms rest f w l = caused (WordFails text depth at here) f (inr ((ps, ms), drop rest text, w.2, l))

pub token_whole : (text : Bytes) (depth at here : ℕ) (ps : List RawPart) (ms : List ByteNote) (rest : ℕ) → WordRead text depth at (Ok (ps, ms, rest)) → late depth here ms ≡ None → TokenRead text depth at here (Ok (token_at here (token.Word ps), rest))
token_whole text depth at here ps ms rest w l = (w.1, w.3, ((ps, ms), refl, w.2, l))

-- ---- a word

same_or_less : (a b : ℕ) → a ≤ b → (b ≡ a) ⊎ (a < b)
same_or_less zero zero le = inl refl
same_or_less zero (suc b) le = inr (omega arith)
same_or_less (suc a) zero le = absurd (omega arith)
same_or_less (suc a) (suc b) le = elim (same_or_less a b (omega arith)) [ inl e ↦ inl (ap suc e) | inr l ↦ inr (omega arith) ]

module _ (text : Bytes) (depth at : ℕ) where
  pub word_start : at ≤ length text → WordSoFar text depth at at [] [] []
  word_start le = record { on = omega arith; within = le; goes_on = λ q x. subst (IsWord too_deep (length text) depth [] (drop at text)) (sym (grown_none q)) x }

  module _ (p here : ℕ) (run : Bytes) (ps : List RawPart) (ms : List ByteNote) (s : WordSoFar text depth at p run ps ms) (h : Here text p here) where
    looks : (v : parts.Look) → v ≡ look_at here (drop here text) → look (length text) (drop p text) ≡ v
    looks v e = at_here look_at text p here h ∙ sym e

    word_grown : (rest : ℕ) (run' : Bytes) (new ps' : List RawPart) (more ms' : List ByteNote) → here < rest → rest ≤ length text
        → ((q : Out Read) → IsWord too_deep (length text) depth run' (drop rest text) q → IsWord too_deep (length text) depth run (drop p text) (grown new more q)) → ps' ≡ ps ++ new → ms' ≡ ms ++ more → WordSoFar text depth at rest run' ps' ms'
    word_grown rest run' new ps' more ms' lt le step ep em =
        let a : at ≤ p = s.on in let w : p ≤ here = h.on in
        record {
          on = omega arith;
          within = le;
          goes_on = λ q x.
              subst (IsWord too_deep (length text) depth [] (drop at text)) (sym (ap (λ l. grown l ms' q) ep ∙ ap (λ l. grown (ps ++ new) l q) em ∙ grown_append ps new ms more q))
              (s.goes_on (grown new more q) (step q x));
        }

    pub word_byted : (rest b : ℕ) (run' : Bytes) (ms' : List ByteNote) → parts.Byte b (drop rest text) ≡ look_at here (drop here text) → here < rest → rest ≤ length text → run' ≡ run ++ b ∷ [] → ms' ≡ ms ++ note.Plain b here ∷ [] → WordSoFar text depth at rest run' ps ms'
    word_byted rest b run' ms' e lt le er em =
        word_grown rest run' [] ps (note.Plain b here ∷ []) ms' lt le
        (λ q x. word_byte b (drop rest text) q (looks _ e) (subst (λ r. IsWord too_deep (length text) depth r (drop rest text) q) er x) (ap (λ n. grown [] (note.Plain b n ∷ []) q) (sym (place_of text p here h)))) (sym (append-nil ps)) em

    pub word_pieced : (rest : ℕ) (piece : RawPart) (ps' : List RawPart) (ms' : List ByteNote) → parts.Piece piece (drop rest text) ≡ look_at here (drop here text) → here < rest → rest ≤ length text
        → ps' ≡ ps ++ (plain_run run ++ piece ∷ []) → ms' ≡ ms ++ note.Gap ∷ [] → WordSoFar text depth at rest [] ps' ms'
    word_pieced rest piece ps' ms' e lt le ep em =
        word_grown rest [] (plain_run run ++ piece ∷ []) ps' (note.Gap ∷ []) ms' lt le (λ q x. word_piece piece (drop rest text) q (looks _ e) x refl) ep em

    pub word_alled : (rest : ℕ) (ps' : List RawPart) (ms' : List ByteNote) → parts.AllArgs (drop rest text) ≡ look_at here (drop here text) → here < rest → rest ≤ length text
        → ps' ≡ ps ++ (plain_run run ++ part.All ∷ []) → ms' ≡ ms ++ note.All here false ∷ [] → WordSoFar text depth at rest [] ps' ms'
    word_alled rest ps' ms' e lt le ep em =
        word_grown rest [] (plain_run run ++ part.All ∷ []) ps' (note.All here false ∷ []) ms' lt le
        (λ q x. word_all (drop rest text) q (looks _ e) x (ap (λ n. grown (plain_run run ++ part.All ∷ []) (note.All n false ∷ []) q) (sym (place_of text p here h)))) ep em

    pub word_doubled : (begin rest : ℕ) (flushed ps' : List RawPart) (between ms' : List ByteNote) → parts.DoubleQuote (drop begin text) ≡ look_at here (drop here text) → here < begin → flushed ≡ ps ++ plain_run run
        → InnerRead text depth here begin flushed ps' ms between (Ok rest) → ms' ≡ between ++ note.Gap ∷ [] → WordSoFar text depth at rest [] ps' ms'
    word_doubled begin rest flushed ps' between ms' e lt ef i em =
        let on : begin ≤ rest = i.0 in
        let v : Read = i.2.0 in
        word_grown rest [] (plain_run run ++ v.0) ps' (v.1 ++ note.Gap ∷ []) ms' (omega arith) i.1
        (λ q x. word_double (drop begin text) v (drop rest text) q (looks _ e) (subst (λ n. IsInner too_deep (length text) depth n true [] (drop begin text) (Whole v (drop rest text))) (sym (place_of text p here h)) i.2.3) x refl)
        (i.2.1 ∙ ap (λ l. l ++ v.0) ef ∙ append_assoc ps (plain_run run) v.0)
        (em ∙ ap (λ l. l ++ note.Gap ∷ []) i.2.2 ∙ append_assoc ms v.1 (note.Gap ∷ []))

    pub word_ran : (begin rest : ℕ) (ts : List Token) (piece : RawPart) (ps' : List RawPart) (ms' : List ByteNote) → parts.Substitution (drop begin text) ≡ look_at here (drop here text) → here < begin → SubRead text depth here begin (Ok (ts, rest))
        → piece ≡ part.Run here ts false → ps' ≡ ps ++ (plain_run run ++ piece ∷ []) → ms' ≡ ms ++ note.Gap ∷ [] → WordSoFar text depth at rest [] ps' ms'
    word_ran begin rest ts piece ps' ms' e lt i er ep em =
        let on : begin ≤ rest = i.0 in
        word_grown rest [] (plain_run run ++ part.Run here ts false ∷ []) ps' (note.Gap ∷ []) ms' (omega arith) i.1
        (λ q x. word_run (drop begin text) ts (drop rest text) q (looks _ e) (subst (λ n. IsSub too_deep (length text) depth n (drop begin text) (Whole ts (drop rest text))) (sym (place_of text p here h)) i.2) x
        (ap (λ n. grown (plain_run run ++ part.Run n ts false ∷ []) (note.Gap ∷ []) q) (sym (place_of text p here h))))
        (ep ∙ ap (λ r. ps ++ (plain_run run ++ r ∷ [])) er) em

    pub word_whole : (ps' : List RawPart) → parts.Ends ≡ look_at here (drop here text) → ps' ≡ ps ++ plain_run run → WordRead text depth at (Ok (ps', ms, p))
    word_whole ps' e ep = (
      s.on,
      s.within,
      subst (IsWord too_deep (length text) depth [] (drop at text)) (ap (λ m. Whole (ps ++ plain_run run, m) (drop p text)) (append-nil ms) ∙ ap (λ l. Whole (l, ms) (drop p text)) (sym ep))
          (s.goes_on (Whole (plain_run run, []) (drop p text)) (word_ends (looks _ e) refl)),
      λ begun. elim (same_or_less at p s.on) [ inl same ↦ absurd (begun (subst (λ p. look (length text) (drop p text) ≡ parts.Ends) same (looks _ e))) | inr less ↦ less ],
    )

    pub word_fault : (f : LexFault) → parts.Bad f ≡ look_at here (drop here text) → WordRead text depth at (Err f)
    word_fault f e = caused (λ g. IsWord too_deep (length text) depth [] (drop at text) (Stop g)) f (s.goes_on (Stop f) (word_wrong f (looks _ e) refl))

    pub word_double_fault : (f : LexFault) (begin : ℕ) (old new : List RawPart) (before after : List ByteNote) → parts.DoubleQuote (drop begin text) ≡ look_at here (drop here text) → InnerRead text depth here begin old new before after (Err f) → WordRead text depth at (Err f)
    word_double_fault f begin old new before after e i = caused_map (λ g. IsInner too_deep (length text) depth here true [] (drop begin text) (Stop g)) (λ g. IsWord too_deep (length text) depth [] (drop at text) (Stop g)) f
        (λ g x. s.goes_on (Stop g) (word_bad_double (drop begin text) g (looks _ e) (subst (λ n. IsInner too_deep (length text) depth n true [] (drop begin text) (Stop g)) (sym (place_of text p here h)) x) refl)) i

    pub word_run_fault : (f : LexFault) (begin : ℕ) → parts.Substitution (drop begin text) ≡ look_at here (drop here text) → SubRead text depth here begin (Err f) → WordRead text depth at (Err f)
    word_run_fault f begin e i = caused_map (λ g. IsSub too_deep (length text) depth here (drop begin text) (Stop g)) (λ g. IsWord too_deep (length text) depth [] (drop at text) (Stop g)) f
        (λ g x. s.goes_on (Stop g) (word_bad_run (drop begin text) g (looks _ e) (subst (λ n. IsSub too_deep (length text) depth n (drop begin text) (Stop g)) (sym (place_of text p here h)) x) refl)) i

-- ---- what stands in double quotes

module _ (text : Bytes) (depth «from» at : ℕ) (old : List RawPart) (before : List ByteNote) where
  pub inner_start : at ≤ length text → InnerSoFar text depth «from» at at true [] old old before before
  inner_start le = record { on = omega arith; within = le; new = []; after = []; parts_are = sym (append-nil old); notes_are = sym (append-nil before); goes_on = λ q x. subst (IsInner too_deep (length text) depth «from» true [] (drop at text)) (sym (grown_none q)) x }

  module _ (p here : ℕ) (fresh : Bool) (run : Bytes) (ps : List RawPart) (ms : List ByteNote) (s : InnerSoFar text depth «from» at p fresh run old ps before ms) (h : Here text p here) where
    insides : (v : parts.Look) → v ≡ inner_at here (drop here text) → inner (length text) (drop p text) ≡ v
    insides v e = at_here inner_at text p here h ∙ sym e

    inner_grown : (rest : ℕ) (fresh' : Bool) (run' : Bytes) (new ps' : List RawPart) (more ms' : List ByteNote) → here < rest → rest ≤ length text
        → ((q : Out Read) → IsInner too_deep (length text) depth «from» fresh' run' (drop rest text) q → IsInner too_deep (length text) depth «from» fresh run (drop p text) (grown new more q)) → ps' ≡ ps ++ new → ms' ≡ ms ++ more → InnerSoFar text depth «from» at rest fresh' run' old ps' before ms'
    inner_grown rest fresh' run' new ps' more ms' lt le step ep em =
        let a : at ≤ p = s.on in let w : p ≤ here = h.on in
        record {
          on = omega arith;
          within = le;
          new = s.new ++ new;
          after = s.after ++ more;
          parts_are = ep ∙ ap (λ l. l ++ new) s.parts_are ∙ append_assoc old s.new new;
          notes_are = em ∙ ap (λ l. l ++ more) s.notes_are ∙ append_assoc before s.after more;
          goes_on = λ q x.
              subst (IsInner too_deep (length text) depth «from» true [] (drop at text)) (sym (grown_append s.new new s.after more q)) (s.goes_on (grown new more q) (step q x));
        }

    pub inner_byted : (rest b : ℕ) (run' : Bytes) (ms' : List ByteNote) → parts.Byte b (drop rest text) ≡ inner_at here (drop here text) → here < rest → rest ≤ length text → run' ≡ run ++ b ∷ [] → ms' ≡ ms ++ note.Gap ∷ [] → InnerSoFar text depth «from» at rest fresh run' old ps before ms'
    inner_byted rest b run' ms' e lt le er em =
        inner_grown rest fresh run' [] ps (note.Gap ∷ []) ms' lt le
        (λ q x. inner_byte b (drop rest text) q (insides _ e) (subst (λ r. IsInner too_deep (length text) depth «from» fresh r (drop rest text) q) er x) refl) (sym (append-nil ps)) em

    pub inner_pieced : (rest : ℕ) (piece : RawPart) (ps' : List RawPart) (ms' : List ByteNote) → parts.Piece piece (drop rest text) ≡ inner_at here (drop here text) → here < rest → rest ≤ length text
        → ps' ≡ ps ++ (quoted_run run ++ piece ∷ []) → ms' ≡ ms ++ note.Gap ∷ [] → InnerSoFar text depth «from» at rest false [] old ps' before ms'
    inner_pieced rest piece ps' ms' e lt le ep em =
        inner_grown rest false [] (quoted_run run ++ piece ∷ []) ps' (note.Gap ∷ []) ms' lt le (λ q x. inner_piece piece (drop rest text) q (insides _ e) x refl) ep em

    pub inner_alled : (rest : ℕ) (ps' : List RawPart) (ms' : List ByteNote) → parts.AllArgs (drop rest text) ≡ inner_at here (drop here text) → here < rest → rest ≤ length text
        → ps' ≡ ps ++ (quoted_run run ++ part.All ∷ []) → ms' ≡ ms ++ note.All here true ∷ [] → InnerSoFar text depth «from» at rest false [] old ps' before ms'
    inner_alled rest ps' ms' e lt le ep em =
        inner_grown rest false [] (quoted_run run ++ part.All ∷ []) ps' (note.All here true ∷ []) ms' lt le
        (λ q x. inner_all (drop rest text) q (insides _ e) x (ap (λ n. grown (quoted_run run ++ part.All ∷ []) (note.All n true ∷ []) q) (sym (place_of text p here h)))) ep em

    pub inner_ran : (begin rest : ℕ) (ts : List Token) (piece : RawPart) (ps' : List RawPart) (ms' : List ByteNote) → parts.Substitution (drop begin text) ≡ inner_at here (drop here text) → here < begin → SubRead text depth here begin (Ok (ts, rest))
        → piece ≡ part.Run here ts true → ps' ≡ ps ++ (quoted_run run ++ piece ∷ []) → ms' ≡ ms ++ note.Gap ∷ [] → InnerSoFar text depth «from» at rest false [] old ps' before ms'
    inner_ran begin rest ts piece ps' ms' e lt i er ep em =
        let on : begin ≤ rest = i.0 in
        inner_grown rest false [] (quoted_run run ++ part.Run here ts true ∷ []) ps' (note.Gap ∷ []) ms' (omega arith) i.1
        (λ q x. inner_run (drop begin text) ts (drop rest text) q (insides _ e) (subst (λ n. IsSub too_deep (length text) depth n (drop begin text) (Whole ts (drop rest text))) (sym (place_of text p here h)) i.2) x
        (ap (λ n. grown (quoted_run run ++ part.Run n ts true ∷ []) (note.Gap ∷ []) q) (sym (place_of text p here h))))
        (ep ∙ ap (λ r. ps ++ (quoted_run run ++ r ∷ [])) er) em

    pub inner_whole : (rest : ℕ) (ps' : List RawPart) → parts.DoubleQuote (drop rest text) ≡ inner_at here (drop here text) → here < rest → rest ≤ length text → ps' ≡ ps ++ last_run fresh run → InnerRead text depth «from» at old ps' before ms (Ok rest)
    inner_whole rest ps' e lt le ep =
        let a : at ≤ p = s.on in let w : p ≤ here = h.on in (
          omega arith,
          le,
          (
            (s.new ++ last_run fresh run, s.after),
            ep ∙ ap (λ l. l ++ last_run fresh run) s.parts_are ∙ append_assoc old s.new (last_run fresh run),
            s.notes_are,
            subst (IsInner too_deep (length text) depth «from» true [] (drop at text)) (ap (λ l. Whole (s.new ++ last_run fresh run, l) (drop rest text)) (append-nil s.after)) (s.goes_on (Whole (last_run fresh run, []) (drop rest text)) (inner_ends (drop rest text) (insides _ e) refl)),
          ),
        )

    pub inner_fault : (f : LexFault) (new : List RawPart) (after : List ByteNote) → parts.Bad f ≡ inner_at here (drop here text) → InnerRead text depth «from» at old new before after (Err f)
    inner_fault f new after e = caused (λ g. IsInner too_deep (length text) depth «from» true [] (drop at text) (Stop g)) f (s.goes_on (Stop f) (inner_wrong f (insides _ e) refl))

    pub inner_unclosed : (new : List RawPart) (after : List ByteNote) → parts.Ends ≡ inner_at here (drop here text) → InnerRead text depth «from» at old new before after (Err (OpenQuote «from»))
    inner_unclosed new after e = s.goes_on (Stop (OpenQuote «from»)) (inner_open (insides _ e) refl)

    pub inner_run_fault : (f : LexFault) (begin : ℕ) (new : List RawPart) (after : List ByteNote) → parts.Substitution (drop begin text) ≡ inner_at here (drop here text) → SubRead text depth here begin (Err f) → InnerRead text depth «from» at old new before after (Err f)
    inner_run_fault f begin new after e i = caused_map (λ g. IsSub too_deep (length text) depth here (drop begin text) (Stop g)) (λ g. IsInner too_deep (length text) depth «from» true [] (drop at text) (Stop g)) f
        (λ g x. s.goes_on (Stop g) (inner_bad_run (drop begin text) g (insides _ e) (subst (λ n. IsSub too_deep (length text) depth n (drop begin text) (Stop g)) (sym (place_of text p here h)) x) refl)) i

-- ---- a substitution

pub sub_too_deep : (text : Bytes) (depth «from» at : ℕ) → 64 ≤ depth → SubRead text depth «from» at (Err (Deep «from»))
sub_too_deep text depth «from» at le = sub_deep (le-leb 64 depth le) refl

pub sub_of_items : (text : Bytes) (depth «from» at : ℕ) (r : Result (List Token × ℕ) LexFault) → depth < 64 → ItemsRead text (depth + 1) «from» at r → SubRead text depth «from» at r
sub_of_items text depth «from» at (Ok v) lt i =
    let e : depth + 1 ≡ suc depth = omega arith in
    (i.0, i.1, sub_items (lt-leb 64 depth lt) (subst (λ d. IsItems too_deep (length text) d «from» 0 (drop at text) (Whole v.0 (drop v.1 text))) e i.2))
sub_of_items text depth «from» at (Err f) lt i =
    let e : depth + 1 ≡ suc depth = omega arith in
    caused_map (λ g. IsItems too_deep (length text) (depth + 1) «from» 0 (drop at text) (Stop g)) (λ g. IsSub too_deep (length text) depth «from» (drop at text) (Stop g)) f (λ g x. sub_items (lt-leb 64 depth lt) (subst (λ d. IsItems too_deep (length text) d «from» 0 (drop at text) (Stop g)) e x)) i

-- ---- fresh runs

pub word_empty : (text : Bytes) (depth at p : ℕ) (run : Bytes) (ps : List RawPart) (ms : List ByteNote) → run ≡ [] → WordSoFar text depth at p [] ps ms → WordSoFar text depth at p run ps ms
word_empty text depth at p run ps ms e s = subst (λ r. WordSoFar text depth at p r ps ms) (sym e) s

pub inner_empty : (text : Bytes) (depth «from» at p : ℕ) (fresh : Bool) (run : Bytes) (old ps : List RawPart) (before ms : List ByteNote) → run ≡ [] → InnerSoFar text depth «from» at p fresh [] old ps before ms → InnerSoFar text depth «from» at p fresh run old ps before ms
inner_empty text depth «from» at p fresh run old ps before ms e s = subst (λ r. InnerSoFar text depth «from» at p fresh r old ps before ms) (sym e) s
