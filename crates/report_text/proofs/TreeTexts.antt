-- The text of a tree determines the tree, however long its paths are.
use Rattle.std.proofs.Common.{◌≡◌, ℕ, zero, suc, ◌≤◌, Bool, true, false, List, [], ◌∷◌, ◌++◌, map, drop, Option, Some, None, refl, sym, ap, ◌∙◌, arith, append_assoc, append-nil}
use Rattle.std.specs.Prelude.{◌&&◌, ◌==◌, not, codes}
use Rattle.std.specs.List.{list_all, join_with_byte}
use Rattle.std.specs.Option.{option_map, option_and_then}
use Rattle.std.proofs.lemmas.Bool.{and_parts, and_from}
use Rattle.std.proofs.lemmas.List.Concat.{flat_map-append}
use Rattle.std.proofs.lemmas.List.Splits.{join_with_byte-slice_split}
use Rattle.script_names.specs.Names.{is_name}
use Rattle.shown_texts.specs.Lines.{line, lines_text, is_line}
use Rattle.shown_texts.specs.Parts.{parts, lacks}
use Rattle.shown_texts.specs.Paths.{after_slash, path_of}
use Rattle.shown_texts.specs.Show.{show, are_bytes}
use Rattle.shown_texts.proofs.Lists.{all_both}
use Rattle.shown_texts.proofs.PathTexts.{slashes_joined, path_read}
use Rattle.shown_texts.proofs.Spelled.{show_read, show_shown}
use Rattle.feature_trees.specs.declared.shape.Entry.{Entry}
use Rattle.feature_trees.specs.declared.kind.Special.TheVariants.{Fifo, Socket, Block, Char}
use Rattle.feature_trees.specs.declared.value.Value.{Value}
use Rattle.feature_trees.specs.declared.value.Value.TheVariants.{Absent, Reg, Link, Special, Dir}
use Rattle.feature_trees.specs.Readable.{node_bytes, entries_bytes, of_bytes}
use Rattle.feature_trees.specs.Shape.{count_all, entry_weight_of}
use Rattle.feature_trees.specs.Sound.{before, sound_all, sound_node}
use Rattle.feature_trees.specs.Tree.{entries_of}
use Rattle.feature_trees.specs.TreeLines.{letter_value, link_value}
use Rattle.feature_trees.specs.View.{value_of, node_of, IsThere}
use Rattle.feature_trees.proofs.Kept.{node_of-value_of, value_there, sound_entries}
use Rattle.feature_trees.proofs.Laws.{sound_value}
use Rattle.feature_trees.proofs.LinesBack.{spelled, bytes_of, inner_bytes, spelled_shown, value_line as own_line, three_words, listed, map_both, is_step, two_words}
use Rattle.feature_trees.proofs.TreeAdds.{leaf, weight_of}
use Rattle.report_text.proofs.LowTexts.{low, shown_low, plus, show_low}
use Rattle.report_text.proofs.Blocks.{front_apart, stops, second, is_marked}
use Rattle.report_text.proofs.ShownBytes.{no_space, no_newline}
use Rattle.report_text.proofs.WholeLines.{is_blank, has, some_first, letter_second, link_second, each_marked}

-- ---- what a line says: a path, and what stands there

record Said : Type 0 where
  names : List (List ℕ)
  value : Value

abbrev said_at : List ℕ → Value → Option Said
said_at path value = option_map (λ names. record { names = names; value = value }) (path_of path)

abbrev said_words : List (List ℕ) → Option Said
said_words [] = None
said_words (letter ∷ []) = None
said_words (letter ∷ path ∷ []) = option_and_then (said_at path) (letter_value letter)
said_words (letter ∷ path ∷ target ∷ []) = option_and_then (said_at path) (link_value letter target)
said_words (letter ∷ path ∷ target ∷ word ∷ words) = None

abbrev said : List ℕ → Option Said
said line = said_words (parts 32 line)

words_second : (ps : List (List ℕ)) → has (said_words ps) ≡ true → second is_blank (join_with_byte 32 ps) ≡ true
words_second [] e = cc
words_second (a ∷ []) e = cc
words_second (a ∷ b ∷ []) e = some_first (letter_value a) (said_at b) e (λ v d. letter_second a v b d)
words_second (a ∷ b ∷ c ∷ []) e = some_first (link_value a c) (said_at b) e (λ v d. link_second a c v (b ++ 32 ∷ c) d)
words_second (a ∷ b ∷ c ∷ d ∷ ps) e = cc

said_second : (l : List ℕ) → has (said l) ≡ true → second is_blank l ≡ true
said_second l e = ap (second is_blank) (sym (join_with_byte-slice_split 32 l)) ∙ words_second (parts 32 l) e

-- ---- one line

abbrev is_longer : List (List ℕ) → Bool
is_longer [] = false
is_longer (f ∷ p) = true

path_back : (p : List (List ℕ)) (w : Value) → list_all is_step p ≡ true → is_longer p ≡ true
    → said_at (spelled p) w ≡ (let made : Said = record { names = p; value = w } in Some made)
path_back [] w g f = cc
path_back (n ∷ p) w g f =
    ap (λ t. option_map (λ names. let made : Said = record { names = names; value = w } in made) (path_of t)) (slashes_joined n p)
    ∙ ap (option_map (λ names. let made : Said = record { names = names; value = w } in made)) (path_read (n ∷ p) g)

abbrev Says : Value → List (List ℕ) → Type 0
Says w p = said (own_line w (spelled p)) ≡ (let made : Said = record { names = p; value = leaf w } in Some made)

line_back : (w : Value) (p : List (List ℕ)) → IsThere w → of_bytes w ≡ true → list_all is_step p ≡ true → is_longer p ≡ true → Says w p
line_back Absent p t h g f = absurd t
line_back Reg p t h g f = ap said_words (two_words (codes "f") (spelled p) refl (no_space (spelled p) (spelled_shown p g))) ∙ path_back p Reg g f
line_back (Link b) p t h g f =
    ap (λ l. said (108 ∷ 32 ∷ l)) (append_assoc (spelled p) (32 ∷ []) (show b))
    ∙ ap said_words (three_words (codes "l") (spelled p) (show b) refl (no_space (spelled p) (spelled_shown p g)) (no_space (show b) (show_shown b h)))
    ∙ ap (λ o. option_and_then (said_at (spelled p)) (option_map (λ bytes. Link bytes) o)) (show_read b h)
    ∙ path_back p (Link b) g f
line_back (Special Fifo) p t h g f = ap said_words (two_words (codes "p") (spelled p) refl (no_space (spelled p) (spelled_shown p g))) ∙ path_back p (Special Fifo) g f
line_back (Special Socket) p t h g f = ap said_words (two_words (codes "s") (spelled p) refl (no_space (spelled p) (spelled_shown p g))) ∙ path_back p (Special Socket) g f
line_back (Special Block) p t h g f = ap said_words (two_words (codes "b") (spelled p) refl (no_space (spelled p) (spelled_shown p g))) ∙ path_back p (Special Block) g f
line_back (Special Char) p t h g f = ap said_words (two_words (codes "c") (spelled p) refl (no_space (spelled p) (spelled_shown p g))) ∙ path_back p (Special Char) g f
line_back (Dir es) p t h g f = ap said_words (two_words (codes "d") (spelled p) refl (no_space (spelled p) (spelled_shown p g))) ∙ path_back p (Dir []) g f

line_whole : (w : Value) (path : List ℕ) → IsThere w → of_bytes w ≡ true → lacks 10 path ≡ true → is_line (own_line w path) ≡ true
line_whole Absent path t h g = absurd t
line_whole Reg path t h g = g
line_whole (Link b) path t h g =
    all_both (λ x. not (x == 10)) (path ++ 32 ∷ []) (show b) (all_both (λ x. not (x == 10)) path (32 ∷ []) g refl) (no_newline (show b) (show_shown b h))
line_whole (Special Fifo) path t h g = g
line_whole (Special Socket) path t h g = g
line_whole (Special Block) path t h g = g
line_whole (Special Char) path t h g = g
line_whole (Dir es) path t h g = g

-- ---- the lines of entries

abbrev below : List ℕ → Said → Said
below f x = record { names = f ∷ x.names; value = x.value }

abbrev under : List (List ℕ) → Said → Said
under p x = record { names = p ++ x.names; value = x.value }

abbrev adds : ℕ → List Entry → List Said
adds zero es = []
adds (suc k) [] = []
adds (suc k) (e ∷ es) =
    record { names = e.name ∷ []; value = leaf (value_of e.node) } ∷ (map (below e.name) (adds k (entries_of (value_of e.node))) ++ adds k es)

under_below : (p : List (List ℕ)) (f : List ℕ) (xs : List Said) → map (under (p ++ f ∷ [])) xs ≡ map (under p) (map (below f) xs)
under_below p f [] = refl
under_below p f (x ∷ xs) =
    let first = append_assoc p (f ∷ []) x.names in
    let rest = under_below p f xs in
    λ i. record { names = first i; value = x.value } ∷ rest i

under_none : (xs : List Said) → map (under []) xs ≡ xs
under_none [] = refl
under_none (x ∷ xs) = ap (λ l. x ∷ l) (under_none xs)

-- what is asked of the entries at a path
abbrev pub AreRepresentable : List (List ℕ) → List Entry → Type 0
AreRepresentable p es = (list_all is_step p ≡ true) × (sound_all es ≡ true) × (entries_bytes es ≡ true)

-- what follows for the first of them
record First (p : List (List ℕ)) (e : Entry) (es : List Entry) : Type 0 where
  step : list_all is_step (p ++ e.name ∷ []) ≡ true
  longer : is_longer (p ++ e.name ∷ []) ≡ true
  bytes : of_bytes (value_of e.node) ≡ true
  inner : AreRepresentable (p ++ e.name ∷ []) (entries_of (value_of e.node))
  later : AreRepresentable p es

longer_of : (p : List (List ℕ)) (f : List ℕ) → is_longer (p ++ f ∷ []) ≡ true
longer_of [] f = refl
longer_of (g ∷ p) f = refl

first_of_all : (p : List (List ℕ)) (e : Entry) (es : List Entry) → AreRepresentable p (e ∷ es) → First p e es
first_of_all p e es h =
    let w = value_of e.node in
    let f = e.name in
    let a = and_parts (is_name f) _ h.1 in
    let b = and_parts (sound_node e.node) _ a.1 in
    let c = and_parts (before f (map (λ (x : Entry). (x.name, sound_node x.node)) es)) _ b.1 in
    let q = and_parts (are_bytes f && node_bytes e.node) (entries_bytes es) h.2 in
    let r = and_parts (are_bytes f) (node_bytes e.node) q.0 in
    let here : of_bytes w ≡ true = sym (bytes_of e.node) ∙ r.1 in
    let step : list_all is_step (p ++ f ∷ []) ≡ true = all_both is_step p (f ∷ []) h.0 (and_from (is_step f) true (and_from (is_name f) (are_bytes f) a.0 r.0) refl) in
    record {
      step = step;
      longer = longer_of p f;
      bytes = here;
      inner = (step, sound_entries w (sound_value e.node b.0), inner_bytes w here);
      later = (h.0, c.1, q.1);
    }

lines_back : (k : ℕ) (p : List (List ℕ)) (es : List Entry) → AreRepresentable p es → map said (listed k p es) ≡ map Some (map (under p) (adds k es))
lines_back zero p es h = refl
lines_back (suc k) p [] h = refl
lines_back (suc k) p (e ∷ es) h =
    let w = value_of e.node in
    let f = e.name in
    let one = first_of_all p e es h in
    let first = line_back w (p ++ f ∷ []) (value_there e.node) one.bytes one.step one.longer in
    let inner = lines_back k (p ++ f ∷ []) (entries_of w) one.inner ∙ ap (map Some) (under_below p f (adds k (entries_of w))) in
    let later = lines_back k p es one.later in
    let joined = map_both said (listed k (p ++ f ∷ []) (entries_of w)) (listed k p es) in
    let own : Said = record { names = p ++ f ∷ []; value = leaf w } in
    let split =
    sym (ap (map Some) (map_both (under p) (map (below f) (adds k (entries_of w))) (adds k es))
    ∙ map_both Some (map (under p) (map (below f) (adds k (entries_of w)))) (map (under p) (adds k es))) in
    (λ i. first i ∷ joined i) ∙ (λ i. Some own ∷ (inner i ++ later i)) ∙ ap (λ l. Some own ∷ l) split

lines_whole : (k : ℕ) (p : List (List ℕ)) (es : List Entry) → AreRepresentable p es → list_all is_line (listed k p es) ≡ true
lines_whole zero p es h = refl
lines_whole (suc k) p [] h = refl
lines_whole (suc k) p (e ∷ es) h =
    let w = value_of e.node in
    let q = p ++ e.name ∷ [] in
    let one = first_of_all p e es h in
    and_from (is_line (own_line w (spelled q))) _ (line_whole w (spelled q) (value_there e.node) one.bytes (no_newline (spelled q) (spelled_shown q one.step)))
    (all_both is_line (listed k q (entries_of w)) (listed k p es) (lines_whole k q (entries_of w) one.inner) (lines_whole k p es one.later))

line_low : (w : Value) (path : List ℕ) → IsThere w → of_bytes w ≡ true → low path ≡ true → low (own_line w path) ≡ true
line_low Absent path t h g = absurd t
line_low Reg path t h g = g
line_low (Link b) path t h g = plus (path ++ 32 ∷ []) (show b) (plus path (32 ∷ []) g refl) (show_low b h)
line_low (Special Fifo) path t h g = g
line_low (Special Socket) path t h g = g
line_low (Special Block) path t h g = g
line_low (Special Char) path t h g = g
line_low (Dir es) path t h g = g

pub lines_low : (k : ℕ) (p : List (List ℕ)) (es : List Entry) → AreRepresentable p es → list_all low (listed k p es) ≡ true
lines_low zero p es h = refl
lines_low (suc k) p [] h = refl
lines_low (suc k) p (e ∷ es) h =
    let w = value_of e.node in
    let q = p ++ e.name ∷ [] in
    let one = first_of_all p e es h in
    and_from (low (own_line w (spelled q))) _ (line_low w (spelled q) (value_there e.node) one.bytes (shown_low (spelled q) (spelled_shown q one.step)))
    (all_both low (listed k q (entries_of w)) (listed k p es) (lines_low k q (entries_of w) one.inner) (lines_low k p es one.later))

pub lines_marked : (k : ℕ) (es : List Entry) → AreRepresentable [] es → list_all (is_marked is_blank) (listed k [] es) ≡ true
lines_marked k es h = each_marked said said_second (listed k [] es) (map (under []) (adds k es)) (lines_whole k [] es h) (lines_back k [] es h)

-- ---- what the lines say determines the entries

abbrev is_deep : Said → Bool
is_deep x = is_longer (drop 1 x.names)

abbrev has_name : Said → Bool
has_name x = is_longer x.names

below_named : (f : List ℕ) (xs : List Said) → list_all has_name (map (below f) xs) ≡ true
below_named f [] = refl
below_named f (x ∷ xs) = below_named f xs

adds_named : (k : ℕ) (es : List Entry) → list_all has_name (adds k es) ≡ true
adds_named zero es = refl
adds_named (suc k) [] = refl
adds_named (suc k) (e ∷ es) =
    all_both has_name (map (below e.name) (adds k (entries_of (value_of e.node)))) (adds k es)
    (below_named e.name (adds k (entries_of (value_of e.node)))) (adds_named k es)

below_deep : (f : List ℕ) (xs : List Said) → list_all has_name xs ≡ true → list_all is_deep (map (below f) xs) ≡ true
below_deep f [] h = refl
below_deep f (x ∷ xs) h = let k = and_parts (has_name x) (list_all has_name xs) h in and_from (is_longer x.names) (list_all is_deep (map (below f) xs)) k.0 (below_deep f xs k.1)

adds_flat : (k : ℕ) (es : List Entry) → stops is_deep (adds k es) ≡ true
adds_flat zero es = refl
adds_flat (suc k) [] = refl
adds_flat (suc k) (e ∷ es) = refl

abbrev without : Said → Said
without x = record { names = drop 1 x.names; value = x.value }

below_off : (f : List ℕ) (xs : List Said) → map without (map (below f) xs) ≡ xs
below_off f [] = refl
below_off f (x ∷ xs) = ap (λ l. x ∷ l) (below_off f xs)

-- a value, from its line and its entries
abbrev filled : Value → List Entry → Value
filled Absent es = Absent
filled Reg es = Reg
filled (Link b) es = Link b
filled (Special k) es = Special k
filled (Dir ds) es = Dir es

filled_is : (w : Value) → filled (leaf w) (entries_of w) ≡ w
filled_is Absent = refl
filled_is Reg = refl
filled_is (Link b) = refl
filled_is (Special k) = refl
filled_is (Dir es) = refl

inner_count : (k : ℕ) (e : Entry) (es : List Entry) (w : Value) → value_of e.node ≡ w → count_all (e ∷ es) ≤ suc k → count_all (entries_of w) ≤ k
inner_count k e es Absent is h = omega arith
inner_count k e es Reg is h = omega arith
inner_count k e es (Link b) is h = omega arith
inner_count k e es (Special s) is h = omega arith
inner_count k e es (Dir ds) is h = omega (arith, h, entry_weight_of e, weight_of e ds is)

pub adds_apart : (k m : ℕ) (es fs : List Entry) → count_all es ≤ k → count_all fs ≤ m → adds k es ≡ adds m fs → es ≡ fs
adds_apart k m [] [] h g e = refl
adds_apart k zero [] (f ∷ fs) h g e = absurd (omega (arith, g, entry_weight_of f))
adds_apart zero (suc m) [] (f ∷ fs) h g e = cc
adds_apart (suc k) (suc m) [] (f ∷ fs) h g e = cc
adds_apart zero m (x ∷ es) fs h g e = absurd (omega (arith, h, entry_weight_of x))
adds_apart (suc k) zero (x ∷ es) [] h g e = cc
adds_apart (suc k) (suc m) (x ∷ es) [] h g e = cc
adds_apart (suc k) zero (x ∷ es) (f ∷ fs) h g e = absurd (omega (arith, g, entry_weight_of f))
adds_apart (suc k) (suc m) (x ∷ es) (f ∷ fs) h g e =
    let w = value_of x.node in
    let v = value_of f.node in
    let a : Said = record { names = x.name ∷ []; value = leaf w } in
    let b : Said = record { names = f.name ∷ []; value = leaf v } in
    let head : a ≡ b = cc in
    let tail : map (below x.name) (adds k (entries_of w)) ++ adds k es ≡ map (below f.name) (adds m (entries_of v)) ++ adds m fs = cc in
    let cut = front_apart is_deep (map (below x.name) (adds k (entries_of w))) (map (below f.name) (adds m (entries_of v))) (adds k es) (adds m fs)
    (below_deep x.name (adds k (entries_of w)) (adds_named k (entries_of w))) (below_deep f.name (adds m (entries_of v)) (adds_named m (entries_of v)))
    (adds_flat k es) (adds_flat m fs) tail in
    let inner = adds_apart k m (entries_of w) (entries_of v) (inner_count k x es w refl h) (inner_count m f fs v refl g)
    (sym (below_off x.name (adds k (entries_of w))) ∙ ap (map without) cut.0 ∙ below_off f.name (adds m (entries_of v))) in
    let later = adds_apart k m es fs (omega (arith, h, entry_weight_of x)) (omega (arith, g, entry_weight_of f)) cut.1 in
    let names : x.name ∷ [] ≡ f.name ∷ [] = ap (λ (s : Said). s.names) head in
    let name : x.name ≡ f.name = cc in
    let leaves : leaf w ≡ leaf v = ap (λ (s : Said). s.value) head in
    let value : w ≡ v = sym (filled_is w) ∙ (λ i. filled (leaves i) (inner i)) ∙ filled_is v in
    let node = sym (node_of-value_of x.node) ∙ ap node_of value ∙ node_of-value_of f.node in
    λ i. record { name = name i; node = node i } ∷ later i

some_each : (xs ys : List Said) → map Some xs ≡ map Some ys → xs ≡ ys
some_each [] [] e = refl
some_each [] (y ∷ ys) e = cc
some_each (x ∷ xs) [] e = cc
some_each (x ∷ xs) (y ∷ ys) e =
    let first : x ≡ y = cc in
    let rest : map Some xs ≡ map Some ys = cc in
    let more = some_each xs ys rest in
    λ i. first i ∷ more i

pub lines_told : (es fs : List Entry) → AreRepresentable [] es → AreRepresentable [] fs → listed (count_all es) [] es ≡ listed (count_all fs) [] fs → es ≡ fs
lines_told es fs h g e =
    let k = count_all es in
    let m = count_all fs in
    let same = sym (lines_back k [] es h) ∙ ap (map said) e ∙ lines_back m [] fs g in
    let all = some_each (map (under []) (adds k es)) (map (under []) (adds m fs)) same in
    adds_apart k m es fs (omega arith) (omega arith) (sym (under_none (adds k es)) ∙ all ∙ under_none (adds m fs))
