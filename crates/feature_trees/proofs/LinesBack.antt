-- The lines of a tree's text say what stands in it.
use Rattle.std.proofs.Common.{◌≡◌, ℕ, zero, suc, ◌+◌, ◌≤◌, Bool, true, List, [], ◌∷◌, ◌++◌, length, map, Some, None, refl, sym, ap, ◌∙◌, arith, append_assoc, append-nil, length-append}
use Rattle.std.specs.Prelude.{◌&&◌, ◌==◌, not, nat_lt, nat_le, codes, if◌then◌else◌}
use Rattle.std.specs.List.{flat_map, list_all}
use Rattle.std.specs.Option.{option_map, option_and_then}
use Rattle.std.proofs.lemmas.Bool.{and_parts, and_from, lt-ltb, le-leb}
use Rattle.script_names.specs.Names.{is_name}
use Rattle.shown_texts.specs.Parts.{parts, lacks}
use Rattle.shown_texts.specs.Show.{is_shown, show, are_bytes}
use Rattle.shown_texts.specs.Lines.{is_line}
use Rattle.shown_texts.specs.Paths.{after_slash, path_of}
use Rattle.shown_texts.proofs.Lists.{all_weaker, all_both}
use Rattle.shown_texts.proofs.Cuts.{joined_cut}
use Rattle.shown_texts.proofs.Spelled.{show_read, show_shown}
use Rattle.shown_texts.proofs.PathTexts.{slashes_joined, path_read}
use Rattle.feature_trees.specs.declared.shape.Entry.{Entry, rolls-Entry'}
use Rattle.feature_trees.specs.declared.shape.Node.{Node}
use Rattle.feature_trees.specs.declared.shape.Node.TheOpen as Open
use Rattle.feature_trees.specs.declared.shape.Node.TheViews.{out-Node, roll-Node, roll-out-Node}
use Rattle.feature_trees.specs.declared.shape.Node.TheFolds.{fold-Entry, fold-roll-Node, fold-roll-Entry}
use Rattle.feature_trees.specs.declared.value.Value.{Value}
use Rattle.feature_trees.specs.declared.kind.Special.TheVariants.{Fifo, Socket, Block, Char}
use Rattle.feature_trees.specs.declared.kind.Special.TheVariants.{Fifo, Socket, Block, Char}
use Rattle.feature_trees.specs.declared.value.Value.TheVariants.{Absent, Reg, Link, Special, Dir}
use Rattle.feature_trees.specs.declared.read.TheConstants.{MOST_NAMES}
use Rattle.feature_trees.specs.declared.read.TreeLine.{TreeLine}
use Rattle.feature_trees.specs.Tree.{entries_of}
use Rattle.feature_trees.specs.View.{value_of, value_layer, IsThere}
use Rattle.feature_trees.specs.Shape.{count_all, entry_weight_of}
use Rattle.feature_trees.specs.Sound.{before, sound_all, sound_node}
use Rattle.feature_trees.specs.Readable.{greatest, depth_layer, entry_depth_layer, node_depth, entries_depth, bytes_layer, entry_bytes_layer, node_bytes, entries_bytes, of_bytes}
use Rattle.feature_trees.specs.TreeLines.{line_of_names, line_at, line_of_words, line_says}
use Rattle.feature_trees.specs.TreeText.{special_mark, path_below, entry_lines, entries_lines, node_lines, value_lines}
use Rattle.feature_trees.proofs.Kept.{node_of-value_of, value_there, sound_entries}
use Rattle.feature_trees.proofs.Laws.{sound_value}
use Rattle.feature_trees.proofs.Printed.{entry_lines_of, node_lines_of}
use Rattle.feature_trees.proofs.TreeAdds.{leaf, below, adds, weight_of}

-- ---- how deep, and of which numbers

abbrev pub entry_depth : Entry → ℕ
entry_depth = fold-Entry ℕ ℕ depth_layer entry_depth_layer

entry_depths : (es : List Entry) → map entry_depth es ≡ map (λ (e : Entry). node_depth e.node + 1) es
entry_depths [] = refl
entry_depths (e ∷ es) =
    let first : entry_depth e ≡ node_depth e.node + 1 =
    ap entry_depth (sym (rolls-Entry' (record { name = e.name; node = e.node })))
    ∙ fold-roll-Entry ℕ ℕ depth_layer entry_depth_layer (record { name = e.name; node = e.node }) in
    let rest = entry_depths es in
    λ i. first i ∷ rest i

-- a node is as deep as its entries
depth_of : (n : Node) → node_depth n ≡ entries_depth (entries_of (value_of n))
depth_of n = ap node_depth (sym (roll-out-Node n)) ∙ layer (out-Node n)
  where
    layer : (x : Open.Node-F Node Entry) → node_depth (roll-Node x) ≡ entries_depth (entries_of (value_layer x))
    layer Open.Reg = fold-roll-Node ℕ ℕ depth_layer entry_depth_layer Open.Reg
    layer (Open.Link b) = fold-roll-Node ℕ ℕ depth_layer entry_depth_layer (Open.Link b)
    layer (Open.Special s) = fold-roll-Node ℕ ℕ depth_layer entry_depth_layer (Open.Special s)
    layer (Open.Dir es) = fold-roll-Node ℕ ℕ depth_layer entry_depth_layer (Open.Dir es) ∙ ap greatest (entry_depths es)

abbrev pub entry_bytes : Entry → Bool
entry_bytes = fold-Entry Bool Bool bytes_layer entry_bytes_layer

pub entry_bytes_all : (es : List Entry) → list_all (λ b. b) (map entry_bytes es) ≡ entries_bytes es
entry_bytes_all [] = refl
entry_bytes_all (e ∷ es) =
    let first : entry_bytes e ≡ (are_bytes e.name && node_bytes e.node) =
    ap entry_bytes (sym (rolls-Entry' (record { name = e.name; node = e.node })))
    ∙ fold-roll-Entry Bool Bool bytes_layer entry_bytes_layer (record { name = e.name; node = e.node }) in
    let rest = entry_bytes_all es in
    λ i. first i && rest i

-- a node is of bytes where its value is
pub bytes_of : (n : Node) → node_bytes n ≡ of_bytes (value_of n)
bytes_of n = ap node_bytes (sym (roll-out-Node n)) ∙ layer (out-Node n)
  where
    layer : (x : Open.Node-F Node Entry) → node_bytes (roll-Node x) ≡ of_bytes (value_layer x)
    layer Open.Reg = fold-roll-Node Bool Bool bytes_layer entry_bytes_layer Open.Reg
    layer (Open.Link b) = fold-roll-Node Bool Bool bytes_layer entry_bytes_layer (Open.Link b)
    layer (Open.Special s) = fold-roll-Node Bool Bool bytes_layer entry_bytes_layer (Open.Special s)
    layer (Open.Dir es) = fold-roll-Node Bool Bool bytes_layer entry_bytes_layer (Open.Dir es) ∙ entry_bytes_all es

pub inner_bytes : (w : Value) → of_bytes w ≡ true → entries_bytes (entries_of w) ≡ true
inner_bytes Absent h = refl
inner_bytes Reg h = refl
inner_bytes (Link b) h = refl
inner_bytes (Special s) h = refl
inner_bytes (Dir es) h = h

-- ---- a path

abbrev pub spelled : List (List ℕ) → List ℕ
spelled p = flat_map after_slash p

spelled_both : (p q : List (List ℕ)) → spelled (p ++ q) ≡ spelled p ++ spelled q
spelled_both [] q = refl
spelled_both (f ∷ p) q = ap (λ t. after_slash f ++ t) (spelled_both p q) ∙ sym (append_assoc (after_slash f) (spelled p) (spelled q))

spelled_grown : (p : List (List ℕ)) (f : List ℕ) → spelled (p ++ f ∷ []) ≡ path_below (spelled p) f
spelled_grown p f = spelled_both p (f ∷ []) ∙ ap (λ t. spelled p ++ t) (append-nil (after_slash f))

abbrev pub is_step : List ℕ → Bool
is_step f = is_name f && are_bytes f

pub spelled_shown : (p : List (List ℕ)) → list_all is_step p ≡ true → list_all is_shown (spelled p) ≡ true
spelled_shown [] g = refl
spelled_shown (f ∷ p) g =
    let r = and_parts (is_step f) (list_all is_step p) g in
    let k = and_parts (is_name f) (are_bytes f) r.0 in
    all_both is_shown (after_slash f) (spelled p) (and_from (is_shown 47) (list_all is_shown (show f)) refl (show_shown f k.1)) (spelled_shown p r.1)

shown_no_newline : (b : ℕ) → is_shown b ≡ true → not (b == 10) ≡ true
shown_no_newline b h = grind (arith)

shown_no_blank : (b : ℕ) → is_shown b ≡ true → not (b == 32) ≡ true
shown_no_blank b h = grind (arith)

no_newline : (t : List ℕ) → list_all is_shown t ≡ true → lacks 10 t ≡ true
no_newline t h = all_weaker is_shown (λ b. not (b == 10)) shown_no_newline t h

no_blank : (t : List ℕ) → list_all is_shown t ≡ true → lacks 32 t ≡ true
no_blank t h = all_weaker is_shown (λ b. not (b == 32)) shown_no_blank t h

-- a path of one name at least, and not too many
abbrev fits : List (List ℕ) → Bool
fits p = nat_lt 0 (length p) && nat_le (length p) MOST_NAMES

path_back : (p : List (List ℕ)) (w : Value) → list_all is_step p ≡ true → fits p ≡ true → line_at (spelled p) w ≡ Some (record { names = p; value = w })
path_back [] w g f = cc
path_back (n ∷ p) w g f =
    ap (λ t. option_and_then (line_of_names w) (path_of t)) (slashes_joined n p)
    ∙ ap (option_and_then (line_of_names w)) (path_read (n ∷ p) g)
    ∙ ap (λ t. if t then Some (record { names = n ∷ p; value = w }) else None) f

-- ---- one line

abbrev pub value_line : Value → List ℕ → List ℕ
value_line Absent path = []
value_line Reg path = codes "f " ++ path
value_line (Link b) path = codes "l " ++ path ++ codes " " ++ show b
value_line (Special s) path = special_mark s ++ path
value_line (Dir es) path = codes "d " ++ path

pub two_words : (letter path : List ℕ) → lacks 32 letter ≡ true → lacks 32 path ≡ true → parts 32 (letter ++ 32 ∷ path) ≡ letter ∷ path ∷ []
two_words letter path h g = joined_cut 32 letter (path ∷ []) (and_from (lacks 32 letter) _ h (and_from (lacks 32 path) true g refl))

pub three_words : (letter path target : List ℕ) → lacks 32 letter ≡ true → lacks 32 path ≡ true → lacks 32 target ≡ true
    → parts 32 (letter ++ 32 ∷ (path ++ 32 ∷ target)) ≡ letter ∷ path ∷ target ∷ []
three_words letter path target h g k =
    joined_cut 32 letter (path ∷ target ∷ [])
    (and_from (lacks 32 letter) _ h (and_from (lacks 32 path) _ g (and_from (lacks 32 target) true k refl)))

regroup : (path target : List ℕ) → (path ++ 32 ∷ []) ++ target ≡ path ++ 32 ∷ target
regroup path target = append_assoc path (32 ∷ []) target

abbrev Says : Value → List (List ℕ) → Type 0
Says w p = line_says (value_line w (spelled p)) ≡ Some (record { names = p; value = leaf w })

line_back : (w : Value) (p : List (List ℕ)) → IsThere w → of_bytes w ≡ true → list_all is_step p ≡ true → fits p ≡ true → Says w p
line_back Absent p t h g f = absurd t
line_back Reg p t h g f = ap line_of_words (two_words (codes "f") (spelled p) refl (no_blank (spelled p) (spelled_shown p g))) ∙ path_back p Reg g f
line_back (Link b) p t h g f =
    ap (λ l. line_says (108 ∷ 32 ∷ l)) (regroup (spelled p) (show b))
    ∙ ap line_of_words (three_words (codes "l") (spelled p) (show b) refl (no_blank (spelled p) (spelled_shown p g)) (no_blank (show b) (show_shown b h)))
    ∙ ap (λ o. option_and_then (line_at (spelled p)) (option_map (λ bytes. Link bytes) o)) (show_read b h)
    ∙ path_back p (Link b) g f
line_back (Special Fifo) p t h g f = ap line_of_words (two_words (codes "p") (spelled p) refl (no_blank (spelled p) (spelled_shown p g))) ∙ path_back p (Special Fifo) g f
line_back (Special Socket) p t h g f = ap line_of_words (two_words (codes "s") (spelled p) refl (no_blank (spelled p) (spelled_shown p g))) ∙ path_back p (Special Socket) g f
line_back (Special Block) p t h g f = ap line_of_words (two_words (codes "b") (spelled p) refl (no_blank (spelled p) (spelled_shown p g))) ∙ path_back p (Special Block) g f
line_back (Special Char) p t h g f = ap line_of_words (two_words (codes "c") (spelled p) refl (no_blank (spelled p) (spelled_shown p g))) ∙ path_back p (Special Char) g f
line_back (Dir es) p t h g f = ap line_of_words (two_words (codes "d") (spelled p) refl (no_blank (spelled p) (spelled_shown p g))) ∙ path_back p (Dir []) g f

line_whole : (w : Value) (path : List ℕ) → IsThere w → of_bytes w ≡ true → lacks 10 path ≡ true → is_line (value_line w path) ≡ true
line_whole Absent path t h g = absurd t
line_whole Reg path t h g = g
line_whole (Link b) path t h g =
    all_both (λ x. not (x == 10)) (path ++ 32 ∷ []) (show b) (all_both (λ x. not (x == 10)) path (32 ∷ []) g refl) (no_newline (show b) (show_shown b h))
line_whole (Special Fifo) path t h g = g
line_whole (Special Socket) path t h g = g
line_whole (Special Block) path t h g = g
line_whole (Special Char) path t h g = g
line_whole (Dir es) path t h g = g

-- ---- the lines of entries

abbrev pub listed : ℕ → List (List ℕ) → List Entry → List (List ℕ)
listed zero p es = []
listed (suc k) p [] = []
listed (suc k) p (e ∷ es) =
    value_line (value_of e.node) (spelled (p ++ e.name ∷ [])) ∷ (listed k (p ++ e.name ∷ []) (entries_of (value_of e.node)) ++ listed k p es)

abbrev pub under : List (List ℕ) → TreeLine → TreeLine
under p x = record { names = p ++ x.names; value = x.value }

under_below : (p : List (List ℕ)) (f : List ℕ) (xs : List TreeLine) → map (under (p ++ f ∷ [])) xs ≡ map (under p) (map (below f) xs)
under_below p f [] = refl
under_below p f (x ∷ xs) =
    let first = append_assoc p (f ∷ []) x.names in
    let rest = under_below p f xs in
    λ i. record { names = first i; value = x.value } ∷ rest i

pub map_both : {A B : Type 0} (g : A → B) (xs ys : List A) → map g (xs ++ ys) ≡ map g xs ++ map g ys
map_both g [] ys = refl
map_both g (x ∷ xs) ys = ap (λ l. g x ∷ l) (map_both g xs ys)

-- what is asked of the entries at a path
abbrev pub AreReadable : List (List ℕ) → List Entry → Type 0
AreReadable p es =
    (list_all is_step p ≡ true) × (sound_all es ≡ true) × (entries_bytes es ≡ true) × (length p + entries_depth es ≤ MOST_NAMES)

-- what follows for the first of them
record First (p : List (List ℕ)) (e : Entry) (es : List Entry) : Type 0 where
  step : list_all is_step (p ++ e.name ∷ []) ≡ true
  fit : fits (p ++ e.name ∷ []) ≡ true
  bytes : of_bytes (value_of e.node) ≡ true
  inner : AreReadable (p ++ e.name ∷ []) (entries_of (value_of e.node))
  later : AreReadable p es

fit_of : (p : List (List ℕ)) (f : List ℕ) → length p + 1 ≤ MOST_NAMES → fits (p ++ f ∷ []) ≡ true
fit_of p f h =
    let long : length (p ++ f ∷ []) ≡ length p + 1 = length-append p (f ∷ []) in
    and_from (nat_lt 0 (length (p ++ f ∷ []))) _ (lt-ltb 0 (length (p ++ f ∷ [])) (omega (arith, long))) (le-leb (length (p ++ f ∷ [])) MOST_NAMES (omega (arith, long, h)))

first_of_all : (p : List (List ℕ)) (e : Entry) (es : List Entry) → AreReadable p (e ∷ es) → First p e es
first_of_all p e es h =
    let w = value_of e.node in
    let f = e.name in
    let a = and_parts (is_name f) _ h.1 in
    let b = and_parts (sound_node e.node) _ a.1 in
    let c = and_parts (before f (map (λ (x : Entry). (x.name, sound_node x.node)) es)) _ b.1 in
    let q = and_parts (are_bytes f && node_bytes e.node) (entries_bytes es) h.2 in
    let r = and_parts (are_bytes f) (node_bytes e.node) q.0 in
    let here : of_bytes w ≡ true = sym (bytes_of e.node) ∙ r.1 in
    let step : list_all is_step (p ++ f ∷ []) ≡ true = all_both is_step p (f ∷ []) h.0 (and_from (is_step f) true (and_from (is_name f) (are_bytes f) a.0 r.0) refl) in
    let deep = depth_of e.node in
    let long : length (p ++ f ∷ []) ≡ length p + 1 = length-append p (f ∷ []) in
    record {
      step = step;
      fit = fit_of p f (omega (arith, h.3));
      bytes = here;
      inner = (step, sound_entries w (sound_value e.node b.0), inner_bytes w here, omega (arith, h.3, deep, long));
      later = (h.0, c.1, q.1, omega (arith, h.3));
    }

-- each line says what it should
pub lines_back : (k : ℕ) (p : List (List ℕ)) (es : List Entry) → AreReadable p es → map line_says (listed k p es) ≡ map Some (map (under p) (adds k es))
lines_back zero p es h = refl
lines_back (suc k) p [] h = refl
lines_back (suc k) p (e ∷ es) h =
    let w = value_of e.node in
    let f = e.name in
    let one = first_of_all p e es h in
    let first = line_back w (p ++ f ∷ []) (value_there e.node) one.bytes one.step one.fit in
    let inner = lines_back k (p ++ f ∷ []) (entries_of w) one.inner ∙ ap (map Some) (under_below p f (adds k (entries_of w))) in
    let later = lines_back k p es one.later in
    let joined = map_both line_says (listed k (p ++ f ∷ []) (entries_of w)) (listed k p es) in
    let said : TreeLine = record { names = p ++ f ∷ []; value = leaf w } in
    let split =
    sym (ap (map Some) (map_both (under p) (map (below f) (adds k (entries_of w))) (adds k es))
    ∙ map_both Some (map (under p) (map (below f) (adds k (entries_of w)))) (map (under p) (adds k es))) in
    (λ i. first i ∷ joined i) ∙ (λ i. Some said ∷ (inner i ++ later i)) ∙ ap (λ l. Some said ∷ l) split

-- each is a line
pub lines_whole : (k : ℕ) (p : List (List ℕ)) (es : List Entry) → AreReadable p es → list_all is_line (listed k p es) ≡ true
lines_whole zero p es h = refl
lines_whole (suc k) p [] h = refl
lines_whole (suc k) p (e ∷ es) h =
    let w = value_of e.node in
    let q = p ++ e.name ∷ [] in
    let one = first_of_all p e es h in
    and_from (is_line (value_line w (spelled q))) _ (line_whole w (spelled q) (value_there e.node) one.bytes (no_newline (spelled q) (spelled_shown q one.step)))
    (all_both is_line (listed k q (entries_of w)) (listed k p es) (lines_whole k q (entries_of w) one.inner) (lines_whole k p es one.later))

-- ---- the lines of entries, by how many there are

pub entry_is : (e : Entry) (path : List ℕ) → entry_lines e path ≡ value_lines (value_of e.node) (path_below path e.name)
entry_is e path =
    entry_lines_of e path ∙ ap (λ n. node_lines n (path_below path e.name)) (sym (node_of-value_of e.node))
    ∙ node_lines_of (value_of e.node) (path_below path e.name) (value_there e.node)

-- a value's lines: its own, and those of its entries
value_listed : (w : Value) (path : List ℕ) (more : List (List ℕ)) → IsThere w → ((ds : List Entry) → w ≡ Dir ds → more ≡ entries_lines ds path)
    → (entries_of w ≡ [] → more ≡ []) → value_line w path ∷ more ≡ value_lines w path
value_listed Absent path more t d n = absurd t
value_listed Reg path more t d n = ap (λ ls. value_line Reg path ∷ ls) (n refl)
value_listed (Link b) path more t d n = ap (λ ls. value_line (Link b) path ∷ ls) (n refl)
value_listed (Special s) path more t d n = ap (λ ls. value_line (Special s) path ∷ ls) (n refl)
value_listed (Dir ds) path more t d n = ap (λ ls. value_line (Dir ds) path ∷ ls) (d ds refl)

no_lines : (k : ℕ) (p : List (List ℕ)) (es : List Entry) → es ≡ [] → listed k p es ≡ []
no_lines zero p es e = refl
no_lines (suc k) p [] e = refl
no_lines (suc k) p (x ∷ es) e = cc

pub lines_listed : (k : ℕ) (p : List (List ℕ)) (es : List Entry) → count_all es ≤ k → listed k p es ≡ entries_lines es (spelled p)
lines_listed zero p [] h = refl
lines_listed zero p (e ∷ es) h = absurd (omega (arith, entry_weight_of e))
lines_listed (suc k) p [] h = refl
lines_listed (suc k) p (e ∷ es) h =
    let w = value_of e.node in
    let f = e.name in
    let q = p ++ f ∷ [] in
    let inner = listed k q (entries_of w) in
    let first : value_line w (spelled q) ∷ inner ≡ value_lines w (spelled q) =
    value_listed w (spelled q) inner (value_there e.node)
    (λ ds d. ap (λ v. listed k q (entries_of v)) d ∙ lines_listed k q ds (omega (arith, h, entry_weight_of e, weight_of e ds d)))
    (no_lines k q (entries_of w)) in
    let own = first ∙ ap (value_lines w) (spelled_grown p f) ∙ sym (entry_is e (spelled p)) in
    let later = lines_listed k p es (omega (arith, h, entry_weight_of e)) in
    λ i. own i ++ later i
