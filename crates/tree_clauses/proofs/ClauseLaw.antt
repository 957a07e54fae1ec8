-- A clause's text is read as the clause.
use Rattle.std.proofs.Common.{◌≡◌, ℕ, ◌^◌, ◌<◌, Bool, true, false, nat_le, List, [], ◌∷◌, ◌++◌, map, Option, Some, Ok, Err, refl, sym, ap, ◌∙◌, subst, arith, append_assoc, append-nil, decimal}
use Rattle.std.specs.Prelude.{◌&&◌, ◌||◌, ◌==◌, not, None, option_map, option_and_then, codes, if◌then◌else◌}
use Rattle.std.specs.List.{flat_map, list_all, list_any}
use Rattle.std.specs.Str.{bytes_eq}
use Rattle.std.proofs.lemmas.Slice.Eq.{bytes_eq-Decides}
use Rattle.std.proofs.lemmas.Bool.{leb-true, eqb-true, and_parts, and_from}
use Rattle.script_names.specs.Names.{is_name}
use Rattle.feature_trees.specs.declared.kind.Kinds.{Kinds}
use Rattle.feature_trees.specs.declared.version.Version.{Version}
use Rattle.feature_trees.specs.declared.version.Version.TheVariants.{First, Second}
use Rattle.script_names.specs.Paths.{is_filled}
use Rattle.shown_texts.specs.Numbers.{u32_max}
use Rattle.script_names.specs.ShellNames.{is_digit}
use Rattle.shown_texts.specs.Paths.{if_name, name_of, names_onto}
use Rattle.shown_texts.specs.Show.{is_shown, show}
use Rattle.shown_texts.specs.Lines.{line, lines_text, is_line, lines_of}
use Rattle.shown_texts.proofs.LineTexts.{lines_read, lines_spelled}
use Rattle.tree_clauses.specs.declared.clause.Var.{Var}
use Rattle.tree_clauses.specs.declared.clause.Literal.{Literal}
use Rattle.tree_clauses.specs.declared.clause.Literal.TheVariants.{Entry, Kind, Fence, NotEmpty, Similar, Target}
use Rattle.tree_clauses.specs.declared.clause.Clause.{Clause}
use Rattle.tree_clauses.specs.ClauseText.{after_comma, var_text, chosen, has_all_special, words_of, kind_words, words_text, kinds_text, is_first_kinds, names_text, literal_content, literal_text, head_content, clause_text, is_first_literal}
use Rattle.tree_clauses.specs.Cuts.{pieces, ends_line, ends_word, ends_member}
use Rattle.tree_clauses.specs.ClauseRead.{var_of, names_of, has_word, kinds_of, tells_literal, tell_literals, tell_clause, tells, has_text, OneClauseIsTold, literal_of, literals_onto, headed, lines_clause, clause_of, is_var, is_representable_name, is_literal, is_clause, ClausesReadBack}
use Rattle.tree_clauses.specs.declared.read.ClauseFault.TheVariants.{Bad, Memory}
use Rattle.shown_texts.proofs.Lists.{all_weaker, all_both}
use Rattle.shown_texts.proofs.Numerals.{decimal_digits, number_read}
use Rattle.shown_texts.proofs.Spelled.{is_byte, show_read, show_shown, show_filled}
use Rattle.tree_clauses.proofs.Pieces.{is_clean, pieces_end, pieces_next, pieces_last}

same_bytes : (bs : List ℕ) → bytes_eq bs bs ≡ true
same_bytes bs = (bytes_eq-Decides bs bs).1 refl

-- ---- words

-- a byte that a word may have
abbrev pub is_graphic : ℕ → Bool
is_graphic b = nat_le 33 b && nat_le b 126

abbrev pub is_word : List ℕ → Bool
is_word w = is_filled w && list_all is_graphic w

graphic_ends : (p : ℕ → Bool) (s : ℕ) → ((b : ℕ) → p b ≡ (b == s)) → is_graphic s ≡ false → (b : ℕ) → is_graphic b ≡ true → not (p b) ≡ true
graphic_ends p s same bad b h = step (p b) refl
  where
    step : (t : Bool) → p b ≡ t → not t ≡ true
    step true e = let k = subst (λ x. is_graphic x ≡ true) (eqb-true b s (sym (same b) ∙ e)) h in cc
    step false e = refl

word_clean : (bs : List ℕ) → list_all is_graphic bs ≡ true → is_clean ends_word bs ≡ true
word_clean bs h = all_weaker is_graphic (λ b. not (ends_word b)) (graphic_ends ends_word 32 (λ b. refl) refl) bs h

line_clean : (bs : List ℕ) → list_all is_graphic bs ≡ true → is_clean ends_line bs ≡ true
line_clean bs h = all_weaker is_graphic (λ b. not (ends_line b)) (graphic_ends ends_line 10 (λ b. refl) refl) bs h

-- words behind a word, each after a space
abbrev pub further : List (List ℕ) → List ℕ
further ws = flat_map (λ w. 32 ∷ w) ws

-- words, with a space between each two
abbrev pub unwords : List ℕ → List (List ℕ) → List ℕ
unwords w ws = w ++ further ws

-- words are cut apart again
pub words_cut : (w : List ℕ) (ws : List (List ℕ)) → is_word w ≡ true → list_all is_word ws ≡ true → pieces ends_word (unwords w ws) ≡ w ∷ ws
words_cut w [] h g = let k = and_parts (is_filled w) (list_all is_graphic w) h in ap (pieces ends_word) (append-nil w) ∙ pieces_last ends_word w k.0 (word_clean w k.1)
words_cut w (v ∷ ws) h g =
    let k = and_parts (is_filled w) (list_all is_graphic w) h in
    let r = and_parts (is_word v) (list_all is_word ws) g in
    pieces_next ends_word w 32 (v ++ further ws) k.0 (word_clean w k.1) refl ∙ ap (λ more. w ∷ more) (words_cut v ws r.0 r.1)

further_clean : (ws : List (List ℕ)) → list_all is_word ws ≡ true → is_clean ends_line (further ws) ≡ true
further_clean [] h = refl
further_clean (w ∷ ws) h =
    let r = and_parts (is_word w) (list_all is_word ws) h in
    let k = and_parts (is_filled w) (list_all is_graphic w) r.0 in
    all_both (λ b. not (ends_line b)) w (further ws) (line_clean w k.1) (further_clean ws r.1)

pub unwords_clean : (w : List ℕ) (ws : List (List ℕ)) → is_word w ≡ true → list_all is_word ws ≡ true → is_clean ends_line (unwords w ws) ≡ true
unwords_clean w ws h g =
    let k = and_parts (is_filled w) (list_all is_graphic w) h in
    all_both (λ b. not (ends_line b)) w (further ws) (line_clean w k.1) (further_clean ws g)

filled_more : (w more : List ℕ) → is_filled w ≡ true → is_filled (w ++ more) ≡ true
filled_more [] more h = cc
filled_more (b ∷ bs) more h = refl

-- a line of words in front of a text
pub line_cut : (w : List ℕ) (ws : List (List ℕ)) (rest : List ℕ) → is_word w ≡ true → list_all is_word ws ≡ true
    → pieces ends_line (unwords w ws ++ 10 ∷ rest) ≡ unwords w ws ∷ pieces ends_line rest
line_cut w ws rest h g =
    let k = and_parts (is_filled w) (list_all is_graphic w) h in
    pieces_next ends_line (unwords w ws) 10 rest (filled_more w (further ws) k.0) (unwords_clean w ws h g) refl

-- ---- the words of a literal

pub shown_graphic : (b : ℕ) → is_shown b ≡ true → is_graphic b ≡ true
shown_graphic b h = grind (arith)

digit_graphic : (b : ℕ) → is_digit b ≡ true → is_graphic b ≡ true
digit_graphic b h = grind (arith)

below_word : (n : ℕ) → nat_le n u32_max ≡ true → n < 2 ^ 64
below_word n h = let w = leb-true n u32_max h in omega arith

pub number_graphic : (n : ℕ) → n < 2 ^ 64 → list_all is_graphic (decimal n) ≡ true
number_graphic n small = all_weaker is_digit is_graphic digit_graphic (decimal n) (decimal_digits n small)

pub var_word : (x : Var) → is_var x ≡ true → is_word (var_text x) ≡ true
var_word x h = number_graphic x.0 (below_word x.0 h)

pub var_read : (x : Var) → is_var x ≡ true → var_of (var_text x) ≡ Some x
var_read x h = ap (option_map (λ n. record { 0 = n })) (number_read u32_max x.0 (omega arith) h)

pub show_word : (bs : List ℕ) → list_all is_byte bs ≡ true → is_word (show bs) ≡ true
show_word bs h = and_from (is_filled (show bs)) _ (show_filled bs) (all_weaker is_shown is_graphic shown_graphic (show bs) (show_shown bs h))

pub name_graphic : (n : List ℕ) → is_representable_name n ≡ true → list_all is_graphic (show n) ≡ true
name_graphic n h = let k = and_parts (is_name n) (list_all is_byte n) h in all_weaker is_shown is_graphic shown_graphic (show n) (show_shown n k.1)

shown_member : (b : ℕ) → is_shown b ≡ true → not (ends_member b) ≡ true
shown_member b h = grind (arith)

show_member : (bs : List ℕ) → list_all is_byte bs ≡ true → is_clean ends_member (show bs) ≡ true
show_member bs h = all_weaker is_shown (λ b. not (ends_member b)) shown_member (show bs) (show_shown bs h)

-- ---- a set of kinds

-- a member of a list: bytes, of which none ends a member
abbrev is_member : List ℕ → Bool
is_member w = is_filled w && is_clean ends_member w

-- words, each after a comma, are cut apart again
members_cut : (w : List ℕ) (ws : List (List ℕ)) → is_member w ≡ true → list_all is_member ws ≡ true → pieces ends_member (w ++ flat_map after_comma ws) ≡ w ∷ ws
members_cut w [] h g = let k = and_parts (is_filled w) (is_clean ends_member w) h in ap (pieces ends_member) (append-nil w) ∙ pieces_last ends_member w k.0 k.1
members_cut w (v ∷ ws) h g =
    let k = and_parts (is_filled w) (is_clean ends_member w) h in
    let r = and_parts (is_member v) (list_all is_member ws) g in
    pieces_next ends_member w 44 (v ++ flat_map after_comma ws) k.0 k.1 refl ∙ ap (λ more. w ∷ more) (members_cut v ws r.0 r.1)

-- words, or `-` where there are none
abbrev or_dash : List (List ℕ) → List (List ℕ)
or_dash [] = codes "-" ∷ []
or_dash (w ∷ ws) = w ∷ ws

members_read : (ws : List (List ℕ)) → list_all is_member ws ≡ true → pieces ends_member (words_text ws) ≡ or_dash ws
members_read [] h = refl
members_read (w ∷ ws) h = let k = and_parts (is_member w) (list_all is_member ws) h in members_cut w ws k.0 k.1

-- where all words pass a test, so do those that are chosen
chosen_all : (p : List ℕ → Bool) (xs : List (Bool × List ℕ)) → list_all (λ one. p one.1) xs ≡ true → list_all p (chosen xs) ≡ true
chosen_all p [] h = refl
chosen_all p ((true, w) ∷ xs) h = let k = and_parts (p w) (list_all (λ one. p one.1) xs) h in and_from (p w) (list_all p (chosen xs)) k.0 (chosen_all p xs k.1)
chosen_all p ((false, w) ∷ xs) h = chosen_all p xs (and_parts (p w) (list_all (λ one. p one.1) xs) h).1

-- whether a word is chosen
abbrev is_chosen : List (Bool × List ℕ) → List ℕ → Bool
is_chosen xs word = list_any (λ one. one.0 && bytes_eq one.1 word) xs

has_chosen : (xs : List (Bool × List ℕ)) (word : List ℕ) → has_word (chosen xs) word ≡ is_chosen xs word
has_chosen [] word = refl
has_chosen ((true, w) ∷ xs) word = ap (λ b. bytes_eq w word || b) (has_chosen xs word)
has_chosen ((false, w) ∷ xs) word = has_chosen xs word

or_false : (b : Bool) → (b || false) ≡ b
or_false true = refl
or_false false = refl

has_dash : (ws : List (List ℕ)) (word : List ℕ) → bytes_eq (codes "-") word ≡ false → has_word (or_dash ws) word ≡ has_word ws word
has_dash [] word e = or_false (bytes_eq (codes "-") word) ∙ e
has_dash (w ∷ ws) word e = refl

members_of : (version : Version) (set : Kinds) → list_all (λ one. is_member one.1) (words_of version set) ≡ true
members_of First set = refl
members_of Second set = refl

-- a word is read where it was chosen
word_read : (version : Version) (set : Kinds) (word : List ℕ) → bytes_eq (codes "-") word ≡ false
    → has_word (pieces ends_member (kinds_text version set)) word ≡ is_chosen (words_of version set) word
word_read version set word e =
    let xs = words_of version set in
    ap (λ ps. has_word ps word) (members_read (chosen xs) (chosen_all is_member xs (members_of version set)))
    ∙ has_dash (chosen xs) word e ∙ has_chosen xs word

-- tests of other words, and of one word among others
abbrev no_other : List Bool → Bool
no_other [] = false
no_other (x ∷ xs) = (x && false) || no_other xs

abbrev among : List Bool → Bool → List Bool → Bool
among [] b ys = (b && true) || no_other ys
among (x ∷ xs) b ys = (x && false) || among xs b ys

no_other_is : (xs : List Bool) → no_other xs ≡ false
no_other_is [] = refl
no_other_is (true ∷ xs) = no_other_is xs
no_other_is (false ∷ xs) = no_other_is xs

among_is : (xs : List Bool) (b : Bool) (ys : List Bool) → among xs b ys ≡ b
among_is [] true ys = refl
among_is [] false ys = no_other_is ys
among_is (true ∷ xs) b ys = among_is xs b ys
among_is (false ∷ xs) b ys = among_is xs b ys

second_read : (s : Kinds) → kinds_of (kinds_text Second s) ≡ s
second_read s =
    let other = word_read Second s (codes "other") refl ∙ no_other_is (s.absent ∷ s.reg ∷ s.link ∷ s.fifo ∷ s.socket ∷ s.block ∷ s.char ∷ s.dir ∷ []) in
    let absent = word_read Second s (codes "absent") refl ∙ among_is [] s.absent (s.reg ∷ s.link ∷ s.fifo ∷ s.socket ∷ s.block ∷ s.char ∷ s.dir ∷ []) in
    let reg = word_read Second s (codes "reg") refl ∙ among_is (s.absent ∷ []) s.reg (s.link ∷ s.fifo ∷ s.socket ∷ s.block ∷ s.char ∷ s.dir ∷ []) in
    let link = word_read Second s (codes "link") refl ∙ among_is (s.absent ∷ s.reg ∷ []) s.link (s.fifo ∷ s.socket ∷ s.block ∷ s.char ∷ s.dir ∷ []) in
    let fifo = word_read Second s (codes "fifo") refl ∙ among_is (s.absent ∷ s.reg ∷ s.link ∷ []) s.fifo (s.socket ∷ s.block ∷ s.char ∷ s.dir ∷ []) in
    let socket = word_read Second s (codes "socket") refl ∙ among_is (s.absent ∷ s.reg ∷ s.link ∷ s.fifo ∷ []) s.socket (s.block ∷ s.char ∷ s.dir ∷ []) in
    let block = word_read Second s (codes "block") refl ∙ among_is (s.absent ∷ s.reg ∷ s.link ∷ s.fifo ∷ s.socket ∷ []) s.block (s.char ∷ s.dir ∷ []) in
    let char = word_read Second s (codes "char") refl ∙ among_is (s.absent ∷ s.reg ∷ s.link ∷ s.fifo ∷ s.socket ∷ s.block ∷ []) s.char (s.dir ∷ []) in
    let dir = word_read Second s (codes "dir") refl ∙ among_is (s.absent ∷ s.reg ∷ s.link ∷ s.fifo ∷ s.socket ∷ s.block ∷ s.char ∷ []) s.dir [] in
    λ i. record {
      absent = absent i;
      reg = reg i;
      link = link i;
      fifo = other i || fifo i;
      socket = other i || socket i;
      block = other i || block i;
      char = other i || char i;
      dir = dir i;
    }

-- all four special kinds or none: each is as all are
as_all : (a b c d : Bool) → ((a && (b && (c && d))) || not (a || (b || (c || d)))) ≡ true
    → ((a && (b && (c && d))) ≡ a) × ((a && (b && (c && d))) ≡ b) × ((a && (b && (c && d))) ≡ c) × ((a && (b && (c && d))) ≡ d)
as_all true true true true h = (refl, refl, refl, refl)
as_all true true true false h = cc
as_all true true false d h = cc
as_all true false c d h = cc
as_all false true c d h = cc
as_all false false true d h = cc
as_all false false false true h = cc
as_all false false false false h = (refl, refl, refl, refl)

first_read : (s : Kinds) → is_first_kinds s ≡ true → kinds_of (kinds_text First s) ≡ s
first_read s h =
    let all = has_all_special s in
    let each = as_all s.fifo s.socket s.block s.char h in
    let words = s.absent ∷ s.reg ∷ s.link ∷ all ∷ s.dir ∷ [] in
    let other = word_read First s (codes "other") refl ∙ among_is (s.absent ∷ s.reg ∷ s.link ∷ []) all (s.dir ∷ []) in
    let absent = word_read First s (codes "absent") refl ∙ among_is [] s.absent (s.reg ∷ s.link ∷ all ∷ s.dir ∷ []) in
    let reg = word_read First s (codes "reg") refl ∙ among_is (s.absent ∷ []) s.reg (s.link ∷ all ∷ s.dir ∷ []) in
    let link = word_read First s (codes "link") refl ∙ among_is (s.absent ∷ s.reg ∷ []) s.link (all ∷ s.dir ∷ []) in
    let fifo = word_read First s (codes "fifo") refl ∙ no_other_is words in
    let socket = word_read First s (codes "socket") refl ∙ no_other_is words in
    let block = word_read First s (codes "block") refl ∙ no_other_is words in
    let char = word_read First s (codes "char") refl ∙ no_other_is words in
    let dir = word_read First s (codes "dir") refl ∙ among_is (s.absent ∷ s.reg ∷ s.link ∷ all ∷ []) s.dir [] in
    let four_fifo = (λ i. other i || fifo i) ∙ or_false all ∙ each.0 in
    let four_socket = (λ i. other i || socket i) ∙ or_false all ∙ each.1 in
    let four_block = (λ i. other i || block i) ∙ or_false all ∙ each.2 in
    let four_char = (λ i. other i || char i) ∙ or_false all ∙ each.3 in
    λ i. record {
      absent = absent i;
      reg = reg i;
      link = link i;
      fifo = four_fifo i;
      socket = four_socket i;
      block = four_block i;
      char = four_char i;
      dir = dir i;
    }

commas_graphic : (ws : List (List ℕ)) → list_all is_word ws ≡ true → list_all is_graphic (flat_map after_comma ws) ≡ true
commas_graphic [] h = refl
commas_graphic (w ∷ ws) h =
    let r = and_parts (is_word w) (list_all is_word ws) h in
    let k = and_parts (is_filled w) (list_all is_graphic w) r.0 in
    all_both is_graphic (44 ∷ w) (flat_map after_comma ws) k.1 (commas_graphic ws r.1)

text_word : (ws : List (List ℕ)) → list_all is_word ws ≡ true → is_word (words_text ws) ≡ true
text_word [] h = refl
text_word (w ∷ ws) h =
    let r = and_parts (is_word w) (list_all is_word ws) h in
    let k = and_parts (is_filled w) (list_all is_graphic w) r.0 in
    and_from (is_filled (w ++ flat_map after_comma ws)) _ (filled_more w (flat_map after_comma ws) k.0)
    (all_both is_graphic w (flat_map after_comma ws) k.1 (commas_graphic ws r.1))

are_words : (version : Version) (set : Kinds) → list_all (λ one. is_word one.1) (words_of version set) ≡ true
are_words First set = refl
are_words Second set = refl

pub kinds_word : (version : Version) (set : Kinds) → is_word (kinds_text version set) ≡ true
kinds_word version set = text_word (kind_words version set) (chosen_all is_word (words_of version set) (are_words version set))

-- ---- a set of names

abbrev others : List (List ℕ) → List ℕ
others names = flat_map after_comma (map show names)

first_pieces : (n : List ℕ) (names : List (List ℕ)) → is_representable_name n ≡ true → list_all is_representable_name names ≡ true
    → pieces ends_member (show n ++ (others names ++ 125 ∷ [])) ≡ show n ∷ map show names
first_pieces n [] h g = let k = and_parts (is_name n) (list_all is_byte n) h in pieces_next ends_member (show n) 125 [] (show_filled n) (show_member n k.1) refl
first_pieces n (m ∷ names) h g =
    let k = and_parts (is_name n) (list_all is_byte n) h in
    let r = and_parts (is_representable_name m) (list_all is_representable_name names) g in
    pieces_next ends_member (show n) 44 ((show m ++ others names) ++ 125 ∷ []) (show_filled n) (show_member n k.1) refl
    ∙ ap (λ t. show n ∷ pieces ends_member t) (append_assoc (show m) (others names) (125 ∷ []))
    ∙ ap (λ more. show n ∷ more) (first_pieces m names r.0 r.1)

names_pieces : (names : List (List ℕ)) → list_all is_representable_name names ≡ true → pieces ends_member (names_text names) ≡ map show names
names_pieces [] g = refl
names_pieces (n ∷ names) g =
    let r = and_parts (is_representable_name n) (list_all is_representable_name names) g in
    pieces_end ends_member 123 ((show n ++ others names) ++ 125 ∷ []) refl
    ∙ ap (pieces ends_member) (append_assoc (show n) (others names) (125 ∷ []))
    ∙ first_pieces n names r.0 r.1

pub name_read : (n : List ℕ) → is_representable_name n ≡ true → name_of (show n) ≡ Some n
name_read n h =
    let k = and_parts (is_name n) (list_all is_byte n) h in
    ap (option_and_then if_name) (show_read n k.1) ∙ ap (λ t. if t then Some n else None) k.0

names_back : (done names : List (List ℕ)) → list_all is_representable_name names ≡ true → names_onto done (map show names) ≡ Some (done ++ names)
names_back done [] g = ap Some (sym (append-nil done))
names_back done (n ∷ names) g =
    let r = and_parts (is_representable_name n) (list_all is_representable_name names) g in
    ap (option_and_then (λ name. names_onto (done ++ name ∷ []) (map show names))) (name_read n r.0)
    ∙ names_back (done ++ n ∷ []) names r.1 ∙ ap Some (append_assoc done (n ∷ []) names)

pub names_read : (names : List (List ℕ)) → list_all is_representable_name names ≡ true → names_of (names_text names) ≡ Some names
names_read names g = ap (names_onto []) (names_pieces names g) ∙ names_back [] names g

others_graphic : (names : List (List ℕ)) → list_all is_representable_name names ≡ true → list_all is_graphic (others names ++ 125 ∷ []) ≡ true
others_graphic [] g = refl
others_graphic (n ∷ names) g =
    let r = and_parts (is_representable_name n) (list_all is_representable_name names) g in
    ap (list_all is_graphic) (append_assoc (show n) (others names) (125 ∷ []))
    ∙ all_both is_graphic (show n) (others names ++ 125 ∷ []) (name_graphic n r.0) (others_graphic names r.1)

names_word : (names : List (List ℕ)) → list_all is_representable_name names ≡ true → is_word (names_text names) ≡ true
names_word [] g = refl
names_word (n ∷ names) g =
    let r = and_parts (is_representable_name n) (list_all is_representable_name names) g in
    ap (list_all is_graphic) (append_assoc (show n) (others names) (125 ∷ []))
    ∙ all_both is_graphic (show n) (others names ++ 125 ∷ []) (name_graphic n r.0) (others_graphic names r.1)

-- ---- a literal

abbrev first_word : Literal → List ℕ
first_word (Entry x f y) = codes "entry"
first_word (Kind x set) = codes "kind"
first_word (Fence x names) = codes "fence"
first_word (NotEmpty x) = codes "notempty"
first_word (Similar y names x) = codes "similar"
first_word (Target x target) = codes "target"

abbrev later_words : Version → Literal → List (List ℕ)
later_words version (Entry x f y) = var_text x ∷ show f ∷ var_text y ∷ []
later_words version (Kind x set) = var_text x ∷ kinds_text version set ∷ []
later_words version (Fence x names) = var_text x ∷ names_text names ∷ []
later_words version (NotEmpty x) = var_text x ∷ []
later_words version (Similar y names x) = var_text y ∷ names_text names ∷ var_text x ∷ []
later_words version (Target x target) = var_text x ∷ show target ∷ []

abbrev literal_line : Version → Literal → List ℕ
literal_line version l = unwords (first_word l) (later_words version l)

with_one : (e s a : List ℕ) → (e ++ s) ++ a ≡ e ++ ((s ++ a) ++ [])
with_one e s a = simp (append_assoc, append-nil)

with_two : (e s a b : List ℕ) → (((e ++ s) ++ a) ++ s) ++ b ≡ e ++ ((s ++ a) ++ ((s ++ b) ++ []))
with_two e s a b = simp (append_assoc, append-nil)

with_three : (e s a b c : List ℕ) → (((((e ++ s) ++ a) ++ s) ++ b) ++ s) ++ c ≡ e ++ ((s ++ a) ++ ((s ++ b) ++ ((s ++ c) ++ [])))
with_three e s a b c = simp (append_assoc, append-nil)

spelled_so : (version : Version) (l : Literal) → literal_content version l ≡ literal_line version l
spelled_so version (Entry x f y) = with_three (codes "entry") (32 ∷ []) (var_text x) (show f) (var_text y)
spelled_so version (Kind x set) = with_two (codes "kind") (32 ∷ []) (var_text x) (kinds_text version set)
spelled_so version (Fence x names) = with_two (codes "fence") (32 ∷ []) (var_text x) (names_text names)
spelled_so version (NotEmpty x) = with_one (codes "notempty") (32 ∷ []) (var_text x)
spelled_so version (Similar y names x) = with_three (codes "similar") (32 ∷ []) (var_text y) (names_text names) (var_text x)
spelled_so version (Target x target) = with_two (codes "target") (32 ∷ []) (var_text x) (show target)

one_word : (a : List ℕ) → is_word a ≡ true → list_all is_word (a ∷ []) ≡ true
one_word a h = and_from (is_word a) true h refl

two_words : (a b : List ℕ) → is_word a ≡ true → is_word b ≡ true → list_all is_word (a ∷ b ∷ []) ≡ true
two_words a b h g = and_from (is_word a) _ h (one_word b g)

three_words : (a b c : List ℕ) → is_word a ≡ true → is_word b ≡ true → is_word c ≡ true → list_all is_word (a ∷ b ∷ c ∷ []) ≡ true
three_words a b c h g f = and_from (is_word a) _ h (two_words b c g f)

first_is_word : (l : Literal) → is_word (first_word l) ≡ true
first_is_word (Entry x f y) = refl
first_is_word (Kind x set) = refl
first_is_word (Fence x names) = refl
first_is_word (NotEmpty x) = refl
first_is_word (Similar y names x) = refl
first_is_word (Target x target) = refl

later_are_words : (version : Version) (l : Literal) → is_literal l ≡ true → list_all is_word (later_words version l) ≡ true
later_are_words version (Entry x f y) h =
    let k = and_parts (is_var x) (is_representable_name f && is_var y) h in
    let r = and_parts (is_representable_name f) (is_var y) k.1 in
    let s = and_parts (is_name f) (list_all is_byte f) r.0 in
    three_words (var_text x) (show f) (var_text y) (var_word x k.0) (show_word f s.1) (var_word y r.1)
later_are_words version (Kind x set) h = two_words (var_text x) (kinds_text version set) (var_word x h) (kinds_word version set)
later_are_words version (Fence x names) h =
    let k = and_parts (is_var x) (list_all is_representable_name names) h in
    two_words (var_text x) (names_text names) (var_word x k.0) (names_word names k.1)
later_are_words version (NotEmpty x) h = one_word (var_text x) (var_word x h)
later_are_words version (Similar y names x) h =
    let k = and_parts (is_var y) (list_all is_representable_name names && is_var x) h in
    let r = and_parts (list_all is_representable_name names) (is_var x) k.1 in
    three_words (var_text y) (names_text names) (var_text x) (var_word y k.0) (names_word names r.0) (var_word x r.1)
later_are_words version (Target x target) h =
    let k = and_parts (is_var x) (list_all is_byte target) h in
    two_words (var_text x) (show target) (var_word x k.0) (show_word target k.1)

-- a literal has a line of a version
abbrev has_line : Version → Literal → Bool
has_line First l = is_first_literal l
has_line Second l = true

kinds_read : (version : Version) (x : Var) (set : Kinds) → has_line version (Kind x set) ≡ true → kinds_of (kinds_text version set) ≡ set
kinds_read First x set h = first_read set h
kinds_read Second x set h = second_read set

literal_read : (version : Version) (l : Literal) → is_literal l ≡ true → has_line version l ≡ true → literal_of (first_word l ∷ later_words version l) ≡ Some l
literal_read version (Entry x f y) h has =
    let k = and_parts (is_var x) (is_representable_name f && is_var y) h in
    let r = and_parts (is_representable_name f) (is_var y) k.1 in
    λ i. option_and_then (λ x. option_and_then (λ f. option_map (λ y. Entry x f y) (var_read y r.1 i)) (name_read f r.0 i)) (var_read x k.0 i)
literal_read version (Kind x set) h has = λ i. option_map (λ y. Kind y (kinds_read version x set has i)) (var_read x h i)
literal_read version (Fence x names) h has =
    let k = and_parts (is_var x) (list_all is_representable_name names) h in
    λ i. option_and_then (λ x. option_map (λ names. Fence x names) (names_read names k.1 i)) (var_read x k.0 i)
literal_read version (NotEmpty x) h has = ap (option_map (λ x. NotEmpty x)) (var_read x h)
literal_read version (Similar y names x) h has =
    let k = and_parts (is_var y) (list_all is_representable_name names && is_var x) h in
    let r = and_parts (list_all is_representable_name names) (is_var x) k.1 in
    λ i. option_and_then (λ y. option_and_then (λ names. option_map (λ x. Similar y names x) (var_read x r.1 i)) (names_read names r.0 i)) (var_read y k.0 i)
literal_read version (Target x target) h has =
    let k = and_parts (is_var x) (list_all is_byte target) h in
    λ i. option_and_then (λ x. option_map (λ target. Target x target) (show_read target k.1 i)) (var_read x k.0 i)

line_read : (version : Version) (l : Literal) → is_literal l ≡ true → has_line version l ≡ true → literal_of (pieces ends_word (literal_line version l)) ≡ Some l
line_read version l h has = ap literal_of (words_cut (first_word l) (later_words version l) (first_is_word l) (later_are_words version l h)) ∙ literal_read version l h has

-- a line that is read as a literal, and cut off from what stands behind it
record Told (l : Literal) (line : List ℕ) : Type 0 where
  cut : (rest : List ℕ) → pieces ends_line (line ++ 10 ∷ rest) ≡ line ∷ pieces ends_line rest
  read : literal_of (pieces ends_word line) ≡ Some l

told_by : (version : Version) (l : Literal) (line : List ℕ) → is_literal l ≡ true → has_line version l ≡ true → literal_content version l ≡ line → Told l line
told_by version l line h has e =
    let told : Told l (literal_line version l) = record {
      cut = λ rest. line_cut (first_word l) (later_words version l) rest (first_is_word l) (later_are_words version l h);
      read = line_read version l h has;
    } in
    subst (Told l) (sym (spelled_so version l) ∙ e) told

-- a line that tells a literal
told_line : (l : Literal) (line : List ℕ) → is_literal l ≡ true → tells_literal l line ≡ true → Told l line
told_line l line h t = step (bytes_eq (literal_content Second l) line) refl t
  where
    step : (b : Bool) → bytes_eq (literal_content Second l) line ≡ b → (b || (is_first_literal l && bytes_eq (literal_content First l) line)) ≡ true → Told l line
    step true e f = told_by Second l line h refl ((bytes_eq-Decides (literal_content Second l) line).0 e)
    step false e f =
        let k = and_parts (is_first_literal l) (bytes_eq (literal_content First l) line) f in
        told_by First l line h k.0 ((bytes_eq-Decides (literal_content First l) line).0 k.1)

same_tells : (version : Version) (l : Literal) → has_line version l ≡ true → tells_literal l (literal_content version l) ≡ true
same_tells Second l has = ap (λ b. b || (is_first_literal l && bytes_eq (literal_content First l) (literal_content Second l))) (same_bytes (literal_content Second l))
same_tells First l has = step (bytes_eq (literal_content Second l) (literal_content First l))
  where
    step : (b : Bool) → (b || (is_first_literal l && bytes_eq (literal_content First l) (literal_content First l))) ≡ true
    step true = refl
    step false = and_from (is_first_literal l) _ has (same_bytes (literal_content First l))

content_line : (version : Version) (l : Literal) → is_literal l ≡ true → is_line (literal_content version l) ≡ true
content_line version l h = ap is_line (spelled_so version l) ∙ unwords_clean (first_word l) (later_words version l) (first_is_word l) (later_are_words version l h)

-- ---- a clause

lines_pieces : (ls : List Literal) (lines : List (List ℕ)) → list_all is_literal ls ≡ true → tell_literals ls lines ≡ true → pieces ends_line (lines_text lines) ≡ lines
lines_pieces [] [] h t = refl
lines_pieces [] (line ∷ lines) h t = cc
lines_pieces (l ∷ ls) [] h t = cc
lines_pieces (l ∷ ls) (line ∷ lines) h t =
    let k = and_parts (is_literal l) (list_all is_literal ls) h in
    let r = and_parts (tells_literal l line) (tell_literals ls lines) t in
    ap (pieces ends_line) (append_assoc line (10 ∷ []) (lines_text lines))
    ∙ (told_line l line k.0 r.0).cut (lines_text lines) ∙ ap (λ more. line ∷ more) (lines_pieces ls lines k.1 r.1)

literals_read : (done ls : List Literal) (lines : List (List ℕ)) → list_all is_literal ls ≡ true → tell_literals ls lines ≡ true → literals_onto done lines ≡ Some (done ++ ls)
literals_read done [] [] h t = ap Some (sym (append-nil done))
literals_read done [] (line ∷ lines) h t = cc
literals_read done (l ∷ ls) [] h t = cc
literals_read done (l ∷ ls) (line ∷ lines) h t =
    let k = and_parts (is_literal l) (list_all is_literal ls) h in
    let r = and_parts (tells_literal l line) (tell_literals ls lines) t in
    ap (option_and_then (λ literal. literals_onto (done ++ literal ∷ []) lines)) (told_line l line k.0 r.0).read
    ∙ literals_read (done ++ l ∷ []) ls lines k.1 r.1 ∙ ap Some (append_assoc done (l ∷ []) ls)

contents_tell : (version : Version) (ls : List Literal) → list_all (has_line version) ls ≡ true → tell_literals ls (map (literal_content version) ls) ≡ true
contents_tell version [] h = refl
contents_tell version (l ∷ ls) h =
    let k = and_parts (has_line version l) (list_all (has_line version) ls) h in
    and_from (tells_literal l (literal_content version l)) _ (same_tells version l k.0) (contents_tell version ls k.1)

contents_lines : (version : Version) (ls : List Literal) → list_all is_literal ls ≡ true → list_all is_line (map (literal_content version) ls) ≡ true
contents_lines version [] h = refl
contents_lines version (l ∷ ls) h =
    let k = and_parts (is_literal l) (list_all is_literal ls) h in
    and_from (is_line (literal_content version l)) _ (content_line version l k.0) (contents_lines version ls k.1)

literals_spelled : (version : Version) (ls : List Literal) → flat_map (literal_text version) ls ≡ lines_text (map (literal_content version) ls)
literals_spelled version [] = refl
literals_spelled version (l ∷ ls) = ap (λ t. literal_text version l ++ t) (literals_spelled version ls)

abbrev head_words : Clause → List (List ℕ)
head_words clause = codes "start" ∷ var_text clause.start ∷ codes "now" ∷ var_text clause.now ∷ []

headed_so : (e s a b c d : List ℕ) → ((((e ++ s) ++ a) ++ s) ++ b) ++ ((s ++ c) ++ s) ++ d ≡ e ++ ((s ++ a) ++ ((s ++ b) ++ ((s ++ c) ++ ((s ++ d) ++ []))))
headed_so e s a b c d = simp (append_assoc, append-nil)

abbrev head_line : Clause → List ℕ
head_line clause = unwords (codes "clause") (head_words clause)

head_spelled : (clause : Clause) → head_content clause ≡ head_line clause
head_spelled clause = headed_so (codes "clause") (32 ∷ []) (codes "start") (var_text clause.start) (codes "now") (var_text clause.now)

head_are_words : (clause : Clause) → is_var clause.start ≡ true → is_var clause.now ≡ true → list_all is_word (head_words clause) ≡ true
head_are_words clause s n = and_from (is_word (var_text clause.start)) _ (var_word clause.start s) (and_from (is_word (var_text clause.now)) true (var_word clause.now n) refl)

-- lines that tell a clause are read as the clause
lines_told : (clause : Clause) (head : List ℕ) (lines : List (List ℕ)) → is_clause clause ≡ true → head_content clause ≡ head → tell_literals clause.literals lines ≡ true
    → clause_of (lines_text (head ∷ lines)) ≡ Some clause
lines_told clause head lines h e t =
    let k = and_parts (is_var clause.start) (is_var clause.now && list_all is_literal clause.literals) h in
    let r = and_parts (is_var clause.now) (list_all is_literal clause.literals) k.1 in
    let ls = clause.literals in
    let words = head_are_words clause k.0 r.0 in
    let cut = ap (λ text. pieces ends_line (line text ++ lines_text lines)) (sym e ∙ head_spelled clause)
    ∙ ap (pieces ends_line) (append_assoc (head_line clause) (10 ∷ []) (lines_text lines))
    ∙ line_cut (codes "clause") (head_words clause) (lines_text lines) refl words
    ∙ ap (λ more. head_line clause ∷ more) (lines_pieces ls lines r.1 t) in
    ap lines_clause cut
    ∙ ap (λ words. option_and_then (headed words) (literals_onto [] lines)) (words_cut (codes "clause") (head_words clause) refl words)
    ∙ ap (option_and_then (headed (codes "clause" ∷ head_words clause))) (literals_read [] ls lines r.1 t)
    ∙ λ i. option_and_then (λ x. option_map (λ y. record { literals = ls; start = x; now = y }) (var_read clause.now r.0 i)) (var_read clause.start k.0 i)

-- a text that tells a clause is read as the clause
pub told_read : (clause : Clause) (text : List ℕ) → is_clause clause ≡ true → tells clause text ≡ true → clause_of text ≡ Some clause
told_read clause text h t = step (lines_of text) refl t
  where
    step : (o : Option (List (List ℕ))) → lines_of text ≡ o → tell_clause clause o ≡ true → clause_of text ≡ Some clause
    step None e f = cc
    step (Some []) e f = cc
    step (Some (head ∷ lines)) e f =
        let k = and_parts (bytes_eq (head_content clause) head) (tell_literals clause.literals lines) f in
        ap clause_of (sym (lines_spelled text (head ∷ lines) e))
        ∙ lines_told clause head lines h ((bytes_eq-Decides (head_content clause) head).0 k.0) k.1

all_have : (ls : List Literal) → list_all (has_line Second) ls ≡ true
all_have [] = refl
all_have (l ∷ ls) = all_have ls

lines_had : (version : Version) (clause : Clause) → has_text version clause ≡ true → list_all (has_line version) clause.literals ≡ true
lines_had First clause h = h
lines_had Second clause h = all_have clause.literals

-- the text of a clause in a version tells the clause
pub tells_itself : (version : Version) (clause : Clause) → is_clause clause ≡ true → has_text version clause ≡ true → tells clause (clause_text version clause) ≡ true
tells_itself version clause h has =
    let k = and_parts (is_var clause.start) (is_var clause.now && list_all is_literal clause.literals) h in
    let r = and_parts (is_var clause.now) (list_all is_literal clause.literals) k.1 in
    let contents = map (literal_content version) clause.literals in
    let head : is_line (head_content clause) ≡ true =
    ap is_line (head_spelled clause) ∙ unwords_clean (codes "clause") (head_words clause) refl (head_are_words clause k.0 r.0) in
    let lines : lines_of (clause_text version clause) ≡ Some (head_content clause ∷ contents) =
    ap (λ t. lines_of (line (head_content clause) ++ t)) (literals_spelled version clause.literals)
    ∙ lines_read (head_content clause ∷ contents) (and_from (is_line (head_content clause)) _ head (contents_lines version clause.literals r.1)) in
    ap (tell_clause clause) lines
    ∙ and_from (bytes_eq (head_content clause) (head_content clause)) _ (same_bytes (head_content clause)) (contents_tell version clause.literals (lines_had version clause has))

-- the text of a clause is read as the clause
pub clause_read : (version : Version) (clause : Clause) → is_clause clause ≡ true → has_text version clause ≡ true → clause_of (clause_text version clause) ≡ Some clause
clause_read version clause h has = told_read clause (clause_text version clause) h (tells_itself version clause h has)

one_clause : (o : Option Clause) (a b : Clause) → o ≡ Some a → o ≡ Some b → a ≡ b
one_clause o a b e f = cc

pub one_told : OneClauseIsTold
one_told text one other h g t s = one_clause (clause_of text) one other (told_read one text h t) (told_read other text g s)

pub read_back : ClausesReadBack
read_back version clause h has (Ok found) representable t = one_told (clause_text version clause) found clause representable h t (tells_itself version clause h has)
read_back version clause h has (Err Bad) representable reads = reads clause h (tells_itself version clause h has)
read_back version clause h has (Err Memory) representable reads = tt
