-- A word is printed so that it is read as its parts but for their offsets, whatever is printed for its substitutions,
-- provided that this is read back.
use Rattle.std.proofs.Common.{◌≡◌, ℕ, Bool, true, false, nat_eq, List, [], ◌∷◌, ◌++◌, append_assoc, append-nil, map, Some, refl, sym, ap, ◌∙◌, subst}
use Rattle.std.proofs.lemmas.Grind.{flat_map-append}
use Rattle.std.specs.List.{flat_map}
use Rattle.shell_syntax.specs.declared.syntax.Part.{Part}
use Rattle.shell_syntax.specs.declared.syntax.Part.TheVariants as part
use Rattle.shell_lexer.specs.declared.token.RawPart.{RawPart, out-RawPart}
use Rattle.shell_lexer.specs.declared.token.RawPart.TheVariants as raw
use Rattle.token_laws.specs.Laws.{PartsAreSpelled, AllArgsAreSpelled, SubstitutionsAreSpelled, DoubleQuotesAreSpelled}
use Rattle.shell_lexer.specs.Operators.{Word, sight}
use Rattle.shell_lexer.specs.Parts.{Ends, Byte, Piece, AllArgs, DoubleQuote, Substitution, look, inner}
use Rattle.token_laws.specs.PrintedLaws.{QuotedIsOnePart, ParamIsOnePart, AllIsOnePart, SubstitutionsClose, ends_in_backslash, is_apart}
use Rattle.shell_lexer.specs.Reading.{Out, Whole, Stop, Read, plain_run, quoted_run, last_run, IsWord, word_ends, word_byte, word_piece, word_all, word_double, word_run, word_wrong, word_bad_double, word_bad_run, IsInner, inner_open, inner_ends, inner_byte, inner_piece, inner_all, inner_run, inner_wrong, inner_bad_run}
use Rattle.shell_lexer.specs.SpelledParts.{IsParam, name as by_name, name_braced, name_default, number as by_number, number_braced, number_default, count as by_count, count_braced, IsQuoted, single, escaped as by_backslash, IsPiece}
use Rattle.shell_lexer.specs.Text.{Bytes, skip}
use Rattle.shell_grammar.specs.Look.{Tokens}
use Rattle.shell_grammar.specs.Reading.{plainly}
use Rattle.shell_printing.specs.TokenTexts.{raw_text}
use Rattle.shell_printing.specs.Zeroed.{zeroed_raw}
use Rattle.shell_printing.proofs.Backs.{false_true, map_append, quoted_raw}
use Rattle.shell_printing.proofs.Sources.{Likes, likes_none, likes_same, likes_run}
use Rattle.shell_printing.proofs.Texts.{plain_raw}
use Rattle.shell_printing.proofs.ZeroedTokens.{seen_plain, seen_quoted, seen_param, seen_all, seen_run}
use Rattle.shell_printing.proofs.WordBegins.{word_front, begins_none, ends_here, apart_follows, apart_steady}
use Rattle.shell_printing.proofs.WordBytes.{Follow, After, Steady, printed, eq_of}
use Rattle.shell_printing.proofs.WordNotes.{inner_some}
use Rattle.token_laws.proofs.PrintedWords.{some_part, no_joined, ends_right, run_ends, not_end}
use Rattle.shell_printing.proofs.WordParts.{back_kept, one_byte_text, likes_split, One, quoted_one, param_one, all_one, run_one}
use Rattle.shell_printing.proofs.WordShape.{Shape, shape_none, shape_of, shape_append}
use Rattle.shell_printing.proofs.Offsets.{both as two, zeroed_raws as zeroes}

abbrev flat : List RawPart → Bytes
flat ps = flat_map raw_text ps

-- ---- lists of parts

plain_flat : (run : Bytes) → flat (plain_run run) ≡ run
plain_flat [] = refl
plain_flat (b ∷ run) = append-nil (raw_text (raw.Plain (b ∷ run))) ∙ plain_raw (b ∷ run)

-- ---- what stands at the front of a part

-- where these parts are seen, a plain `$` may stand before their text if it may stand before what is printed
abbrev Follows : Bytes → List RawPart → Type 0
Follows text us = After (skip text) → (t : Bytes) → After (skip (flat us ++ t))

never : (b : ℕ) (text more : Bytes) (us : List RawPart) → (Follow b → ⊥) → skip text ≡ b ∷ more → Follows text us
never b text more us n e = λ f t. absurd (n (subst After e f))

dollar_never : Follow 36 → ⊥
dollar_never f = cc (f 0 [] [])

double_never : Follow 34 → ⊥
double_never f = cc (f 0 [] [])

single_never : Follow 39 → ⊥
single_never f = cc (f 0 [] [])

param_follows : (us : List RawPart) {key : _} {default : _} {text rest : Bytes} → IsParam key default text rest → Follows text us
param_follows us {text = text} (by_name is h ends) = never 36 text h.0 us dollar_never h.1
param_follows us {text = text} (name_braced is h) = never 36 text h.0 us dollar_never h.1
param_follows us {text = text} (name_default is default_is h) = never 36 text h.0 us dollar_never h.1
param_follows us {text = text} (by_number is h) = never 36 text h.0 us dollar_never h.1
param_follows us {text = text} (number_braced is h) = never 36 text h.0 us dollar_never h.1
param_follows us {text = text} (number_default is default_is h) = never 36 text h.0 us dollar_never h.1
param_follows us {text = text} (by_count h) = never 36 text h.0 us dollar_never h.1
param_follows us {text = text} (count_braced h) = never 36 text h.0 us dollar_never h.1

one_byte : (b : ℕ) (t : Bytes) → nat_eq b 10 ≡ false → flat (raw.Quoted (b ∷ []) ∷ []) ++ t ≡ 92 ∷ b ∷ t
one_byte b t e = ap (λ s. s ++ t) (append-nil (raw_text (raw.Quoted (b ∷ []))) ∙ quoted_raw (b ∷ []) ∙ one_byte_text b e)

quoted_follows : {bytes text rest : Bytes} → IsQuoted bytes text rest → Follows text (raw.Quoted bytes ∷ [])
quoted_follows {bytes} {text} (single all h) = never 39 text h.0 (raw.Quoted bytes ∷ []) single_never h.1
quoted_follows {text = text} {rest = rest} (by_backslash {byte = b} h) = λ f t.
    let n = no_joined text b rest (h.1 ∙ ap (λ l. 92 ∷ l) h.2) in
    subst (λ u. After (skip u)) (sym (one_byte b t n)) (subst After (sym (back_kept b t n)) (λ at rest more. refl))

-- ---- parts and what they are printed as

module _ (deep : ℕ → Bool) (d : ℕ) where
  likes_nil : (us : List RawPart) → Likes deep d [] us → us ≡ []
  likes_nil [] l = refl
  likes_nil (q ∷ us) l = elim l [ ]

  pub simple_likes : (p : RawPart) (x : Part) → plainly (out-RawPart p) ≡ Some x → (us : List RawPart) → Likes deep d (p ∷ []) us → us ≡ p ∷ []
  simple_likes p x g us (likes_same {qs = qs} y e f l) = two (λ (q : RawPart) (qs : List RawPart). q ∷ qs) f (likes_nil qs l)
  simple_likes p x g us (likes_run at ts vs quoted e f k b l) = absurd (cc (sym g ∙ ap plainly e))

  plain_likes : (run : Bytes) (us : List RawPart) → Likes deep d (plain_run run) us → us ≡ plain_run run
  plain_likes [] us l = likes_nil us l
  plain_likes (b ∷ run) us l = simple_likes (raw.Plain (b ∷ run)) (part.Plain (b ∷ run)) (ap plainly (seen_plain (b ∷ run))) us l

  -- what a part of the source is printed as is one part
  abbrev Sourced : RawPart → Type 0
  Sourced p = (q : RawPart) → Likes deep d (p ∷ []) (q ∷ []) → One deep d p q

  abbrev AllSourced : List RawPart → Type 0
  AllSourced [] = Unit {0}
  AllSourced (p ∷ ps) = Sourced p × AllSourced ps

  sourced_append : (xs ys : List RawPart) → AllSourced xs → AllSourced ys → AllSourced (xs ++ ys)
  sourced_append [] ys a b = b
  sourced_append (x ∷ xs) ys a b = (a.0, sourced_append xs ys a.1 b)

  simple_sourced : (p : RawPart) (x : Part) → plainly (out-RawPart p) ≡ Some x → One deep d p p → Sourced p
  simple_sourced p x g one q (likes_same y e f l) = subst (One deep d p) (sym f) one
  simple_sourced p x g one q (likes_run at ts vs quoted e f k b l) = absurd (cc (sym g ∙ ap plainly e))

  module _ (all : ℕ) (t : Bytes) (v : Read) (behind : Bytes) where
    -- parts, as they are printed, before a text that is read so
    record PartsRead (run : Bytes) (ps us : List RawPart) : Type 0 where
      pub parts : List RawPart
      pub read : Read
      pub is : read.0 ≡ plain_run run ++ (parts ++ v.0)
      pub same : zeroes parts ≡ zeroes us
      pub shape : Shape ps parts
      pub reads : IsWord deep all d run (flat us ++ t) (Whole read behind)

    step : (run : Bytes) (p q : RawPart) (ps us : List RawPart) → One deep d p q → PartsRead [] ps us → PartsRead run (p ∷ ps) (q ∷ us)
    step run p q ps us one m =
        let r = one.reads all run (flat us ++ t) m.read behind m.reads in
        record {
          parts = r.part ∷ m.parts;
          read = r.read;
          is = r.is ∙ ap (λ l. plain_run run ++ (r.part ∷ l)) m.is;
          same = two (λ (x : RawPart) (xs : List RawPart). x ∷ xs) r.same m.same;
          shape = shape_append r.shape m.shape;
          reads = subst (λ u. IsWord deep all d run u (Whole r.read behind)) (sym (append_assoc (raw_text q) (flat us) t)) r.reads;
        }

    parts_read : {ps us : List RawPart} → Likes deep d ps us → AllSourced ps → IsWord deep all d [] t (Whole v behind) → PartsRead [] ps us
    parts_read likes_none a w = record { parts = []; read = v; is = refl; same = refl; shape = shape_none; reads = w }
    parts_read (likes_same {p = p} {q = q} {ps = ps} {qs = qs} x e f l) a w = step [] p q ps qs (a.0 q (likes_same x e f likes_none)) (parts_read l a.1 w)
    parts_read (likes_run {p = p} {q = q} {ps = ps} {qs = qs} at ts us quoted e f g b l) a w = step [] p q ps qs (a.0 q (likes_run at ts us quoted e f g b likes_none)) (parts_read l a.1 w)

    -- the first of some parts stands behind a run of plain bytes, and a word may begin with it
    record FirstRead (run : Bytes) (ps us : List RawPart) : Type 0 where
      pub whole : PartsRead run ps us
      pub calm : Steady (flat us ++ t)
      pub begins : sight all (flat us ++ t) ≡ Word

    begun : (run : Bytes) (p q : RawPart) (ps us : List RawPart) → One deep d p q → PartsRead [] ps us → FirstRead run (p ∷ ps) (q ∷ us)
    begun run p q ps us one m = record {
      whole = step run p q ps us one m;
      calm = subst Steady (sym (append_assoc (raw_text q) (flat us) t)) (one.head.calm (flat us ++ t));
      begins = ap (sight all) (append_assoc (raw_text q) (flat us) t) ∙ one.head.begins all (flat us ++ t);
    }

    first_read : (run : Bytes) (p : RawPart) (ps us : List RawPart) → Likes deep d (p ∷ ps) us → AllSourced (p ∷ ps) → IsWord deep all d [] t (Whole v behind) → FirstRead run (p ∷ ps) us
    first_read run p ps us (likes_same {q = q} {qs = qs} x e f l) a w = begun run p q ps qs (a.0 q (likes_same x e f likes_none)) (parts_read l a.1 w)
    first_read run p ps us (likes_run {q = q} {qs = qs} at ts vs quoted e f g b l) a w = begun run p q ps qs (a.0 q (likes_run at ts vs quoted e f g b likes_none)) (parts_read l a.1 w)

  -- ---- what the parts of the source are printed as

  module _ (quoted_law : QuotedIsOnePart) (param_law : ParamIsOnePart) (all_law : AllIsOnePart) (closing : SubstitutionsClose) (outside : PartsAreSpelled look false) (inside : PartsAreSpelled inner true) (args : AllArgsAreSpelled look)
      (subs : SubstitutionsAreSpelled look) (subs_inside : SubstitutionsAreSpelled inner) (quotes : DoubleQuotesAreSpelled look) where
    quoted_sourced : (w : Bytes) → Sourced (raw.Quoted w)
    quoted_sourced w = simple_sourced (raw.Quoted w) (part.Quoted w) (ap plainly (seen_quoted w)) (quoted_one deep quoted_law param_law all_law d w)

    all_sourced : Sourced raw.All
    all_sourced = simple_sourced raw.All part.All (ap plainly seen_all) (all_one deep quoted_law param_law all_law d)

    run_sourced : (at : ℕ) (ts : Tokens) (quoted : Bool) → Sourced (raw.Run at ts quoted)
    run_sourced at ts quoted q (likes_same x e f l) = absurd (cc (sym e ∙ ap plainly (seen_run at ts quoted)))
    run_sourced at ts quoted q (likes_run at2 ts2 us quoted2 e f g b l) = run_one deep closing subs subs_inside d (raw.Run at ts quoted) q at2 ts2 us quoted2 e f g b

    piece_sourced : (in_quotes : Bool) (p : RawPart) (text rest : Bytes) → IsPiece in_quotes p text rest → Sourced p
    piece_sourced in_quotes (raw.Param key default quoted) text rest h =
        simple_sourced (raw.Param key default quoted) (part.Param key default quoted) (ap plainly (seen_param key default quoted)) (param_one deep quoted_law param_law all_law d key default quoted text rest h.1)
    piece_sourced in_quotes (raw.Quoted bytes) text rest h = quoted_sourced bytes
    piece_sourced in_quotes _ text rest h = absurd h

    quoted_run_sourced : (run : Bytes) → AllSourced (quoted_run run)
    quoted_run_sourced [] = tt
    quoted_run_sourced (b ∷ run) = (quoted_sourced (b ∷ run), tt)

    last_sourced : (fresh : Bool) (run : Bytes) → AllSourced (last_run fresh run)
    last_sourced true [] = (quoted_sourced [], tt)
    last_sourced true (b ∷ run) = (quoted_sourced (b ∷ run), tt)
    last_sourced false [] = tt
    last_sourced false (b ∷ run) = (quoted_sourced (b ∷ run), tt)

    behind_sourced : (run : Bytes) (p : RawPart) (ps : List RawPart) → Sourced p → AllSourced ps → AllSourced ((quoted_run run ++ p ∷ []) ++ ps)
    behind_sourced run p ps s a = sourced_append (quoted_run run ++ p ∷ []) ps (sourced_append (quoted_run run) (p ∷ []) (quoted_run_sourced run) (s, tt)) a

    abbrev InnerSourced : Out Read → Type 0
    InnerSourced (Whole v rest) = AllSourced v.0
    InnerSourced (Stop f) = Unit {0}

    inner_sourced : {len begin : ℕ} {fresh : Bool} {run text : Bytes} {q : Out Read} → IsInner deep len d begin fresh run text q → InnerSourced q
    inner_sourced (inner_open h e) = subst InnerSourced (sym e) tt
    inner_sourced {fresh = fresh} {run = run} (inner_ends t h e) = subst InnerSourced (sym e) (last_sourced fresh run)
    inner_sourced (inner_byte b t (Whole v1 r1) h x e) = subst InnerSourced (sym e) (inner_sourced x)
    inner_sourced (inner_byte b t (Stop f) h x e) = subst InnerSourced (sym e) tt
    inner_sourced {len = len} {run = run} {text = text} (inner_piece p t (Whole v1 r1) h x e) = subst InnerSourced (sym e) (behind_sourced run p v1.0 (piece_sourced true p text t ((inside len text t p).0 h)) (inner_sourced x))
    inner_sourced (inner_piece p t (Stop f) h x e) = subst InnerSourced (sym e) tt
    inner_sourced {run = run} (inner_all t (Whole v1 r1) h x e) = subst InnerSourced (sym e) (behind_sourced run raw.All v1.0 all_sourced (inner_sourced x))
    inner_sourced (inner_all t (Stop f) h x e) = subst InnerSourced (sym e) tt
    inner_sourced {run = run} (inner_run g ts t (Whole v1 r1) h i x e) = subst InnerSourced (sym e) (behind_sourced run (raw.Run _ ts true) v1.0 (run_sourced _ ts true) (inner_sourced x))
    inner_sourced (inner_run g ts t (Stop f) h i x e) = subst InnerSourced (sym e) tt
    inner_sourced (inner_wrong f h e) = subst InnerSourced (sym e) tt
    inner_sourced (inner_bad_run g f h i e) = subst InnerSourced (sym e) tt

    piece_follows : (p : RawPart) (text rest : Bytes) → IsPiece false p text rest → (us : List RawPart) → Likes deep d (p ∷ []) us → Follows text us
    piece_follows (raw.Param key default quoted) text rest h us l = param_follows us h.1
    piece_follows (raw.Quoted bytes) text rest h us l = subst (Follows text) (sym (simple_likes (raw.Quoted bytes) (part.Quoted bytes) (ap plainly (seen_quoted bytes)) us l)) (quoted_follows h.1)
    piece_follows _ text rest h us l = absurd h

    -- ---- words

    module _ (all : ℕ) (behind : Bytes) (apart : is_apart behind ≡ true) where
      -- how the rest of a word of these parts is printed and read
      pub record Back (len : ℕ) (run text : Bytes) (ps us : List RawPart) : Type 0 where
        pub suffix : Bytes
        pub read : Read
        pub printed : flat_map raw_text us ≡ run ++ suffix
        pub same : map zeroed_raw read.0 ≡ map zeroed_raw us
        pub shape : Shape ps read.0
        pub reads : IsWord deep all d run (suffix ++ behind) (Whole read behind)
        pub follows : After (skip text) → After (skip (suffix ++ behind))
        pub at_end : text ≡ [] → (suffix ≡ []) × (ps ≡ plain_run run)
        pub calm : Steady (suffix ++ behind)
        pub begins : sight len text ≡ Word → sight all (suffix ++ behind) ≡ Word

      abbrev pub ClaimOf : ℕ → Bytes → Bytes → List RawPart → Type 0
      ClaimOf len run text ps = (us : List RawPart) → Likes deep d ps us → (ends_in_backslash ps ≡ true → behind ≡ []) → Back len run text ps us

      abbrev pub Claim : ℕ → Bytes → Bytes → Out Read → Type 0
      Claim len run text (Whole v rest) = ClaimOf len run text v.0
      Claim len run text (Stop f) = Unit {0}

      end_claim : (len : ℕ) (run text : Bytes) → look len text ≡ Ends → ClaimOf len run text (plain_run run)
      end_claim len run text h us likes ends =
          let is = plain_likes run us likes in
          record {
            suffix = [];
            read = (plain_run run, []);
            printed = ap flat is ∙ plain_flat run ∙ sym (append-nil run);
            same = ap zeroes (sym is);
            shape = shape_of (plain_run run);
            reads = word_ends (ends_here all behind apart) refl;
            follows = λ e. apart_follows behind apart;
            at_end = λ e. (refl, refl);
            calm = apart_steady behind apart;
            begins = λ s. absurd (begins_none len text s h);
          }

      byte_claim : (len : ℕ) (run text : Bytes) (b : ℕ) (rest : Bytes) (ps : List RawPart) → look len text ≡ Byte b rest → ClaimOf len (run ++ b ∷ []) rest ps → ClaimOf len run text ps
      byte_claim len run text b rest ps h x us likes ends =
          let i = x us likes ends in
          let t = i.suffix ++ behind in
          let open_end : nat_eq b 92 ≡ true → rest ≡ [] → t ≡ [] = (λ e f.
          let is = i.at_end f in
          let last_part : ends_in_backslash ps ≡ true = ap ends_in_backslash (is.1 ∙ ap (λ x. plain_run (run ++ x ∷ [])) (eq_of b 92 e)) ∙ run_ends run in
          ap (λ s. s ++ behind) is.0 ∙ ends last_part) in
          let p = printed all len text b rest t h i.follows open_end in
          record {
            suffix = b ∷ i.suffix;
            read = (i.read.0, _);
            printed = i.printed ∙ append_assoc run (b ∷ []) i.suffix;
            same = i.same;
            shape = i.shape;
            reads = word_byte b t (Whole i.read behind) p.seen i.reads refl;
            follows = p.follows;
            at_end = λ e. absurd (not_end len text (Byte b rest) h (λ f. cc f) e);
            calm = p.stays i.calm;
            begins = λ s. word_front len text b p.head.0 all t p.head.1 p.front s (p.stays i.calm);
          }

      parts_claim : (len : ℕ) (run text rest : Bytes) (p : RawPart) (ps zs : List RawPart) → AllSourced (p ∷ ps) → ((us : List RawPart) → Likes deep d (p ∷ ps) us → Follows text us) → (text ≡ [] → ⊥)
          → ClaimOf len [] rest zs → ClaimOf len run text ((plain_run run ++ (p ∷ ps)) ++ zs)
      parts_claim len run text rest p ps zs sourced follow some x us likes ends =
          let begin = plain_run run ++ (p ∷ ps) in
          let s = likes_split deep begin zs us likes in
          let k = likes_split deep (plain_run run) (p ∷ ps) s.front s.first in
          let i = x s.back s.later (λ e. ends (ends_right begin zs e)) in
          let r = first_read all (i.suffix ++ behind) i.read behind run p ps k.back k.later sourced i.reads in
          let f = flat k.back in
          let w = r.whole in
          let whole : us ≡ plain_run run ++ (k.back ++ s.back) =
          s.is ∙ ap (λ l. l ++ s.back) (k.is ∙ ap (λ l. l ++ k.back) (plain_likes run k.front k.first)) ∙ append_assoc (plain_run run) k.back s.back
          in
          record {
            suffix = f ++ i.suffix;
            read = w.read;
            printed = ap flat whole ∙ flat_map-append raw_text (plain_run run) (k.back ++ s.back)
                ∙ two (λ (s t : Bytes). s ++ t) (plain_flat run) (flat_map-append raw_text k.back s.back ∙ ap (λ t. f ++ t) i.printed);
            same = ap zeroes w.is ∙ map_append zeroed_raw (plain_run run) (w.parts ++ i.read.0)
                ∙ ap (λ l. zeroes (plain_run run) ++ l) (map_append zeroed_raw w.parts i.read.0 ∙ two (λ (xs ys : List RawPart). xs ++ ys) w.same i.same ∙ sym (map_append zeroed_raw k.back s.back))
                ∙ sym (map_append zeroed_raw (plain_run run) (k.back ++ s.back)) ∙ sym (ap zeroes whole);
            shape = subst (Shape (begin ++ zs)) (sym w.is)
                (subst (λ l. Shape l (plain_run run ++ (w.parts ++ i.read.0))) (sym (append_assoc (plain_run run) (p ∷ ps) zs)) (shape_append (shape_of (plain_run run)) (shape_append w.shape i.shape)));
            reads = subst (λ u. IsWord deep all d run u (Whole w.read behind)) (sym (append_assoc f i.suffix behind)) w.reads;
            follows = λ e. subst (λ u. After (skip u)) (sym (append_assoc f i.suffix behind)) (follow k.back k.later e (i.suffix ++ behind));
            at_end = λ e. absurd (some e);
            calm = subst Steady (sym (append_assoc f i.suffix behind)) r.calm;
            begins = λ e. ap (sight all) (append_assoc f i.suffix behind) ∙ r.begins;
          }

      double_claim : (len : ℕ) (run text rest : Bytes) (xs zs : List RawPart) → some_part xs ≡ true → AllSourced xs → ((us : List RawPart) → Likes deep d xs us → Follows text us) → (text ≡ [] → ⊥)
          → ClaimOf len [] rest zs → ClaimOf len run text ((plain_run run ++ xs) ++ zs)
      double_claim len run text rest [] zs some sourced follow end x = absurd (false_true some)
      double_claim len run text rest (p ∷ ps) zs some sourced follow end x = parts_claim len run text rest p ps zs sourced follow end x

      pub word_claim : {len : ℕ} {run text : Bytes} {q : Out Read} → IsWord deep len d run text q → Claim len run text q
      word_claim {len} {run} {text} (word_ends h e) = subst (Claim len run text) (sym e) (end_claim len run text h)
      word_claim {len} {run} {text} (word_byte b t (Whole v1 r1) h x e) = subst (Claim len run text) (sym e) (byte_claim len run text b t v1.0 h (word_claim x))
      word_claim {len} {run} {text} (word_byte b t (Stop f) h x e) = subst (Claim len run text) (sym e) tt
      word_claim {len} {run} {text} (word_piece p t (Whole v1 r1) h x e) =
          let g = (outside len text t p).0 h in
          subst (Claim len run text) (sym e) (parts_claim len run text t p [] v1.0 (piece_sourced false p text t g, tt) (piece_follows p text t g) (not_end len text (Piece p t) h (λ f. cc f)) (word_claim x))
      word_claim {len} {run} {text} (word_piece p t (Stop f) h x e) = subst (Claim len run text) (sym e) tt
      word_claim {len} {run} {text} (word_all t (Whole v1 r1) h x e) =
          let g = (args len text t).0 h in
          subst (Claim len run text) (sym e) (parts_claim len run text t raw.All [] v1.0 (all_sourced, tt) (λ us l. never 36 text g.0 us dollar_never g.1) (not_end len text (AllArgs t) h (λ f. cc f)) (word_claim x))
      word_claim {len} {run} {text} (word_all t (Stop f) h x e) = subst (Claim len run text) (sym e) tt
      word_claim {len} {run} {text} (word_double begin v t (Whole v1 r1) h i x e) =
          let g = (quotes len text begin).0 h in
          subst (Claim len run text) (sym e)
          (double_claim len run text t v.0 v1.0 (inner_some outside inside i refl) (inner_sourced i) (λ us l. never 34 text g.0 us double_never g.1) (not_end len text (DoubleQuote begin) h (λ f. cc f)) (word_claim x))
      word_claim {len} {run} {text} (word_double begin v t (Stop f) h i x e) = subst (Claim len run text) (sym e) tt
      word_claim {len} {run} {text} (word_run begin ts t (Whole v1 r1) h i x e) =
          let g = ((subs len text begin).0 h).stands in
          subst (Claim len run text) (sym e)
          (parts_claim len run text t (raw.Run _ ts false) [] v1.0 (run_sourced _ ts false, tt) (λ us l. never 36 text g.0 us dollar_never g.1) (not_end len text (Substitution begin) h (λ f. cc f)) (word_claim x))
      word_claim {len} {run} {text} (word_run begin ts t (Stop f) h i x e) = subst (Claim len run text) (sym e) tt
      word_claim {len} {run} {text} (word_wrong f h e) = subst (Claim len run text) (sym e) tt
      word_claim {len} {run} {text} (word_bad_double begin f h i e) = subst (Claim len run text) (sym e) tt
      word_claim {len} {run} {text} (word_bad_run begin f h i e) = subst (Claim len run text) (sym e) tt
