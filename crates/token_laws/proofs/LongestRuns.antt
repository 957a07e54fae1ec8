-- The runs of a word are longest.
use Rattle.std.proofs.Common.{◌≡◌, ◌⊎◌, inl, inr, ℕ, Bool, true, false, List, [], ◌∷◌, ◌++◌, refl, sym, ◌∙◌, subst}
use Rattle.shell_lexer.specs.declared.sight.ByteNote.{ByteNote}
use Rattle.shell_lexer.specs.declared.sight.ByteNote.TheVariants as note
use Rattle.shell_lexer.specs.declared.token.Token.{Token}
use Rattle.shell_lexer.specs.declared.token.RawPart.{RawPart}
use Rattle.shell_lexer.specs.declared.token.RawPart.TheVariants as part
use Rattle.shell_lexer.specs.Text.{Bytes, offset}
use Rattle.shell_lexer.specs.Parts.{Piece}
use Rattle.shell_lexer.specs.SpelledParts.{IsPiece}
use Rattle.token_laws.specs.LongestRuns.{plain_runs_are_longest, quoted_runs_are_longest}
use Rattle.shell_lexer.specs.Reading.{Out, Whole, Stop, Read, grown, plain_run, quoted_run, last_run, IsWord, word_ends, word_byte, word_piece, word_all, word_double, word_run, word_wrong, word_bad_double, word_bad_run, IsInner, inner_open, inner_ends, inner_byte, inner_piece, inner_all, inner_run, inner_wrong, inner_bad_run}
use Rattle.std.proofs.lemmas.Bool.{true≢false}
use Rattle.shell_lexer.proofs.SpelledParts.{look_seen, inner_seen}

-- ---- plain runs

-- behind these parts it counts that no plain run stands directly before
abbrev EndsRun : List RawPart → Type 0
EndsRun xs = (b : Bool) (ps : List RawPart) → plain_runs_are_longest b (xs ++ ps) ≡ plain_runs_are_longest false ps

-- there is no plain run among these parts
abbrev HasNoRun : List RawPart → Type 0
HasNoRun xs = (ps : List RawPart) → plain_runs_are_longest false (xs ++ ps) ≡ plain_runs_are_longest false ps

-- the part is no plain run
abbrev IsNoRun : RawPart → Type 0
IsNoRun p = (b : Bool) (ps : List RawPart) → plain_runs_are_longest b (p ∷ ps) ≡ plain_runs_are_longest false ps

piece_no_run : (inside : Bool) (p : RawPart) (text rest : Bytes) → IsPiece inside p text rest → IsNoRun p
piece_no_run inside (part.Param key default quoted) text rest h b ps = refl
piece_no_run inside (part.Quoted bytes) text rest h b ps = refl
piece_no_run inside _ text rest h b ps = absurd h

all_no_run : IsNoRun part.All
all_no_run b ps = refl

run_no_run : (at : ℕ) (ts : List Token) (quoted : Bool) → IsNoRun (part.Run at ts quoted)
run_no_run at ts quoted b ps = refl

last_no_run : (fresh : Bool) (run : Bytes) → HasNoRun (last_run fresh run)
last_no_run true [] ps = refl
last_no_run true (b ∷ run) ps = refl
last_no_run false [] ps = refl
last_no_run false (b ∷ run) ps = refl

last_ends_run : (run : Bytes) → EndsRun (last_run true run)
last_ends_run [] b ps = refl
last_ends_run (c ∷ run) b ps = refl

quoted_then : (run : Bytes) (p : RawPart) (xs : List RawPart) → IsNoRun p → HasNoRun xs → EndsRun ((quoted_run run ++ p ∷ []) ++ xs)
quoted_then [] p xs h g b ps = h b (xs ++ ps) ∙ g ps
quoted_then (c ∷ run) p xs h g b ps = h false (xs ++ ps) ∙ g ps

-- what stands in double quotes has no plain run; where it is read from its beginning, it has a part
abbrev InnerHasNoRun : Bool → Out Read → Type 0
InnerHasNoRun fresh (Whole v rest) = HasNoRun v.0 × (fresh ≡ true → EndsRun v.0)
InnerHasNoRun fresh (Stop fault) = Unit {0}

inner_more : (fresh : Bool) (run : Bytes) (p : RawPart) (ms : List ByteNote) (q : Out Read) → IsNoRun p → InnerHasNoRun false q → InnerHasNoRun fresh (grown (quoted_run run ++ p ∷ []) ms q)
inner_more fresh run p ms (Whole v rest) h f = let ends = quoted_then run p v.0 h f.0 in (λ ps. ends false ps, λ _. ends)
inner_more fresh run p ms (Stop fault) h f = tt

inner_same : (fresh : Bool) (ms : List ByteNote) (q : Out Read) → InnerHasNoRun fresh q → InnerHasNoRun fresh (grown [] ms q)
inner_same fresh ms (Whole v rest) f = f
inner_same fresh ms (Stop fault) f = tt

inner_has_no_run : {deep : ℕ → Bool} {len depth from : ℕ} {fresh : Bool} {run text : Bytes} {q : Out Read} → IsInner deep len depth from fresh run text q → InnerHasNoRun fresh q
inner_has_no_run {deep} {len} {depth} {from} {fresh} {run} {text} {q} (inner_open h e) = subst (InnerHasNoRun fresh) (sym e) tt
inner_has_no_run {deep} {len} {depth} {from} {fresh} {run} {text} {q} (inner_ends t h e) =
    subst (InnerHasNoRun fresh) (sym e) (last_no_run fresh run, λ is. subst (λ f. EndsRun (last_run f run)) (sym is) (last_ends_run run))
inner_has_no_run {deep} {len} {depth} {from} {fresh} {run} {text} {q} (inner_byte b t q1 h x e) = subst (InnerHasNoRun fresh) (sym e) (inner_same fresh (note.Gap ∷ []) q1 (inner_has_no_run x))
inner_has_no_run {deep} {len} {depth} {from} {fresh} {run} {text} {q} (inner_piece p t q1 h x e) =
    subst (InnerHasNoRun fresh) (sym e) (inner_more fresh run p (note.Gap ∷ []) q1 (piece_no_run true p text t (inner_seen len text (Piece p t) h)) (inner_has_no_run x))
inner_has_no_run {deep} {len} {depth} {from} {fresh} {run} {text} {q} (inner_all t q1 h x e) = subst (InnerHasNoRun fresh) (sym e) (inner_more fresh run part.All (note.All (offset len text) true ∷ []) q1 all_no_run (inner_has_no_run x))
inner_has_no_run {deep} {len} {depth} {from} {fresh} {run} {text} {q} (inner_run g ts t q1 h i x e) =
    subst (InnerHasNoRun fresh) (sym e) (inner_more fresh run (part.Run (offset len text) ts true) (note.Gap ∷ []) q1 (run_no_run (offset len text) ts true) (inner_has_no_run x))
inner_has_no_run {deep} {len} {depth} {from} {fresh} {run} {text} {q} (inner_wrong f h e) = subst (InnerHasNoRun fresh) (sym e) tt
inner_has_no_run {deep} {len} {depth} {from} {fresh} {run} {text} {q} (inner_bad_run g f h i e) = subst (InnerHasNoRun fresh) (sym e) tt

abbrev PlainRunsAreLongest : Out Read → Type 0
PlainRunsAreLongest (Whole v rest) = plain_runs_are_longest false v.0 ≡ true
PlainRunsAreLongest (Stop fault) = Unit {0}

plain_last : (run : Bytes) → plain_runs_are_longest false (plain_run run) ≡ true
plain_last [] = refl
plain_last (b ∷ run) = refl

plain_then : (run : Bytes) (xs ps : List RawPart) → EndsRun xs → plain_runs_are_longest false ps ≡ true → plain_runs_are_longest false ((plain_run run ++ xs) ++ ps) ≡ true
plain_then [] xs ps h e = h false ps ∙ e
plain_then (b ∷ run) xs ps h e = h true ps ∙ e

plain_more : (run : Bytes) (xs : List RawPart) (ms : List ByteNote) (q : Out Read) → EndsRun xs → PlainRunsAreLongest q → PlainRunsAreLongest (grown (plain_run run ++ xs) ms q)
plain_more run xs ms (Whole v rest) h f = plain_then run xs v.0 h f
plain_more run xs ms (Stop fault) h f = tt

plain_same : (ms : List ByteNote) (q : Out Read) → PlainRunsAreLongest q → PlainRunsAreLongest (grown [] ms q)
plain_same ms (Whole v rest) f = f
plain_same ms (Stop fault) f = tt

word_plain_runs : {deep : ℕ → Bool} {len depth : ℕ} {run text : Bytes} {q : Out Read} → IsWord deep len depth run text q → PlainRunsAreLongest q
word_plain_runs {deep} {len} {depth} {run} {text} {q} (word_ends h e) = subst PlainRunsAreLongest (sym e) (plain_last run)
word_plain_runs {deep} {len} {depth} {run} {text} {q} (word_byte b t q1 h x e) = subst PlainRunsAreLongest (sym e) (plain_same (note.Plain b (offset len text) ∷ []) q1 (word_plain_runs x))
word_plain_runs {deep} {len} {depth} {run} {text} {q} (word_piece p t q1 h x e) = subst PlainRunsAreLongest (sym e) (plain_more run (p ∷ []) (note.Gap ∷ []) q1 (piece_no_run false p text t (look_seen len text (Piece p t) h)) (word_plain_runs x))
word_plain_runs {deep} {len} {depth} {run} {text} {q} (word_all t q1 h x e) = subst PlainRunsAreLongest (sym e) (plain_more run (part.All ∷ []) (note.All (offset len text) false ∷ []) q1 all_no_run (word_plain_runs x))
word_plain_runs {deep} {len} {depth} {run} {text} {q} (word_double g v t q1 h i x e) = subst PlainRunsAreLongest (sym e) (plain_more run v.0 (v.1 ++ note.Gap ∷ []) q1 ((inner_has_no_run i).1 refl) (word_plain_runs x))
word_plain_runs {deep} {len} {depth} {run} {text} {q} (word_run g ts t q1 h i x e) =
    subst PlainRunsAreLongest (sym e) (plain_more run (part.Run (offset len text) ts false ∷ []) (note.Gap ∷ []) q1 (run_no_run (offset len text) ts false) (word_plain_runs x))
word_plain_runs {deep} {len} {depth} {run} {text} {q} (word_wrong f h e) = subst PlainRunsAreLongest (sym e) tt
word_plain_runs {deep} {len} {depth} {run} {text} {q} (word_bad_double g f h i e) = subst PlainRunsAreLongest (sym e) tt
word_plain_runs {deep} {len} {depth} {run} {text} {q} (word_bad_run g f h i e) = subst PlainRunsAreLongest (sym e) tt

pub plain_longest : (deep : ℕ → Bool) (len depth : ℕ) (text rest : Bytes) (v : Read) → IsWord deep len depth [] text (Whole v rest) → plain_runs_are_longest false v.0 ≡ true
plain_longest deep len depth text rest v w = word_plain_runs w

-- ---- runs in double quotes

abbrev IsApart : RawPart → Type 0
IsApart p = (b : Bool) (ps : List RawPart) → quoted_runs_are_longest b (p ∷ ps) ≡ quoted_runs_are_longest false ps

piece_apart : (p : RawPart) (text rest : Bytes) → IsPiece true p text rest → IsApart p
piece_apart (part.Param key default quoted) text rest h b ps = refl
piece_apart (part.Quoted bytes) text rest h b ps = absurd (true≢false h.0)
piece_apart _ text rest h b ps = absurd h

all_apart : IsApart part.All
all_apart b ps = refl

run_apart : (at : ℕ) (ts : List Token) (quoted : Bool) → IsApart (part.Run at ts quoted)
run_apart at ts quoted b ps = refl

abbrev EmptyOrLongest : Bool → Out Read → Type 0
EmptyOrLongest fresh (Whole v rest) = ((fresh ≡ true) × (v.0 ≡ part.Quoted [] ∷ [])) ⊎ (quoted_runs_are_longest false v.0 ≡ true)
EmptyOrLongest fresh (Stop fault) = Unit {0}

last_empty_or_longest : (fresh : Bool) (run : Bytes) → ((fresh ≡ true) × (last_run fresh run ≡ part.Quoted [] ∷ [])) ⊎ (quoted_runs_are_longest false (last_run fresh run) ≡ true)
last_empty_or_longest true [] = inl (refl, refl)
last_empty_or_longest true (b ∷ run) = inr refl
last_empty_or_longest false [] = inr refl
last_empty_or_longest false (b ∷ run) = inr refl

apart_then : (run : Bytes) (p : RawPart) (ps : List RawPart) → IsApart p → quoted_runs_are_longest false ps ≡ true → quoted_runs_are_longest false ((quoted_run run ++ p ∷ []) ++ ps) ≡ true
apart_then [] p ps h e = h false ps ∙ e
apart_then (b ∷ run) p ps h e = h true ps ∙ e

quoted_more : (fresh : Bool) (run : Bytes) (p : RawPart) (ms : List ByteNote) (q : Out Read) → IsApart p → EmptyOrLongest false q → EmptyOrLongest fresh (grown (quoted_run run ++ p ∷ []) ms q)
quoted_more fresh run p ms (Whole v rest) h (inl f) = absurd (true≢false (sym f.0))
quoted_more fresh run p ms (Whole v rest) h (inr e) = inr (apart_then run p v.0 h e)
quoted_more fresh run p ms (Stop fault) h f = tt

quoted_same : (fresh : Bool) (ms : List ByteNote) (q : Out Read) → EmptyOrLongest fresh q → EmptyOrLongest fresh (grown [] ms q)
quoted_same fresh ms (Whole v rest) f = f
quoted_same fresh ms (Stop fault) f = tt

quoted_empty_or_longest : {deep : ℕ → Bool} {len depth from : ℕ} {fresh : Bool} {run text : Bytes} {q : Out Read} → IsInner deep len depth from fresh run text q → EmptyOrLongest fresh q
quoted_empty_or_longest {deep} {len} {depth} {from} {fresh} {run} {text} {q} (inner_open h e) = subst (EmptyOrLongest fresh) (sym e) tt
quoted_empty_or_longest {deep} {len} {depth} {from} {fresh} {run} {text} {q} (inner_ends t h e) = subst (EmptyOrLongest fresh) (sym e) (last_empty_or_longest fresh run)
quoted_empty_or_longest {deep} {len} {depth} {from} {fresh} {run} {text} {q} (inner_byte b t q1 h x e) = subst (EmptyOrLongest fresh) (sym e) (quoted_same fresh (note.Gap ∷ []) q1 (quoted_empty_or_longest x))
quoted_empty_or_longest {deep} {len} {depth} {from} {fresh} {run} {text} {q} (inner_piece p t q1 h x e) =
    subst (EmptyOrLongest fresh) (sym e) (quoted_more fresh run p (note.Gap ∷ []) q1 (piece_apart p text t (inner_seen len text (Piece p t) h)) (quoted_empty_or_longest x))
quoted_empty_or_longest {deep} {len} {depth} {from} {fresh} {run} {text} {q} (inner_all t q1 h x e) = subst (EmptyOrLongest fresh) (sym e) (quoted_more fresh run part.All (note.All (offset len text) true ∷ []) q1 all_apart (quoted_empty_or_longest x))
quoted_empty_or_longest {deep} {len} {depth} {from} {fresh} {run} {text} {q} (inner_run g ts t q1 h i x e) =
    subst (EmptyOrLongest fresh) (sym e) (quoted_more fresh run (part.Run (offset len text) ts true) (note.Gap ∷ []) q1 (run_apart (offset len text) ts true) (quoted_empty_or_longest x))
quoted_empty_or_longest {deep} {len} {depth} {from} {fresh} {run} {text} {q} (inner_wrong f h e) = subst (EmptyOrLongest fresh) (sym e) tt
quoted_empty_or_longest {deep} {len} {depth} {from} {fresh} {run} {text} {q} (inner_bad_run g f h i e) = subst (EmptyOrLongest fresh) (sym e) tt

empty_or_longest : (v : Read) (rest : Bytes) → EmptyOrLongest true (Whole v rest) → (v.0 ≡ part.Quoted [] ∷ []) ⊎ (quoted_runs_are_longest false v.0 ≡ true)
empty_or_longest v rest (inl f) = inl f.1
empty_or_longest v rest (inr e) = inr e

pub quoted_longest : (deep : ℕ → Bool) (len depth «from» : ℕ) (text rest : Bytes) (v : Read) → IsInner deep len depth «from» true [] text (Whole v rest) → (v.0 ≡ part.Quoted [] ∷ []) ⊎ (quoted_runs_are_longest false v.0 ≡ true)
quoted_longest deep len depth «from» text rest v i = empty_or_longest v rest (quoted_empty_or_longest i)
