-- The tree of a text is of bytes, and its paths are no longer than those of a line may be.
use Rattle.std.proofs.Common.{◌≡◌, ℕ, suc, ◌+◌, ◌-◌, ◌≤◌, Bool, true, false, IsTrue, List, [], ◌∷◌, ◌++◌, length, map, max, Some, None, Ok, Err, refl, sym, ap, subst, ◌∙◌, arith}
use Rattle.std.specs.Prelude.{Option, Result, ◌==◌, ◌&&◌, nat_lt, nat_le, codes, if◌then◌else◌}
use Rattle.std.specs.List.{list_all}
use Rattle.std.specs.Option.{option_map, option_and_then}
use Rattle.std.specs.Str.{bytes_eq}
use Rattle.std.specs.declared.cmp.Ordering.{Ordering}
use Rattle.std.specs.declared.cmp.Ordering.TheVariants.{Less, Equal, Greater}
use Rattle.std.proofs.lemmas.Bool.{and_parts, and_from, leb-true}
use Rattle.script_names.specs.Names.{is_name}
use Rattle.script_names.specs.Paths.{is_filled}
use Rattle.shown_texts.specs.Parts.{parts}
use Rattle.shown_texts.specs.Paths.{if_name, name_of, names_onto, names_of, path_of}
use Rattle.shown_texts.specs.Show.{are_bytes, shown_of}
use Rattle.shown_texts.proofs.Lists.{all_both}
use Rattle.feature_trees.specs.declared.kind.Kind.TheVariants as kind
use Rattle.feature_trees.specs.declared.kind.Special as special
use Rattle.feature_trees.specs.declared.read.TheConstants.{MOST_NAMES}
use Rattle.feature_trees.specs.declared.read.TreeFault.{TreeFault}
use Rattle.feature_trees.specs.declared.read.TreeFault.TheVariants.{Line}
use Rattle.feature_trees.specs.declared.shape.Entry.{Entry, rolls-Entry'}
use Rattle.feature_trees.specs.declared.shape.Node.{Node}
use Rattle.feature_trees.specs.declared.shape.Node.TheFolds.{fold-roll-Node, fold-roll-Entry}
use Rattle.feature_trees.specs.declared.shape.Node.TheOpen as Open
use Rattle.feature_trees.specs.declared.shape.Node.TheViews.{out-Node, roll-Node, roll-out-Node}
use Rattle.feature_trees.specs.declared.value.Value.{Value}
use Rattle.feature_trees.specs.declared.value.Value.TheVariants.{Absent, Reg, Link, Special, Dir}
use Rattle.feature_trees.specs.Readable.{node_bytes, entries_bytes, of_bytes, greatest, depth_layer, entry_depth_layer, node_depth, entries_depth, depth}
use Rattle.feature_trees.specs.Sound.{sound}
use Rattle.feature_trees.specs.Tree.{kind_of, by_order, name_cmp, find, entry, at, entries_of, entry_if_present, update, has_parents, put}
use Rattle.feature_trees.specs.TreeLines.{special_of, letter_value, link_value, line_of_names, line_at, line_of_words, line_says, is_there, with_line, and_then, with_lines, text_lines, tree_of}
use Rattle.feature_trees.specs.View.{value_layer, value_of, node_of, IsThere, value_of-node_of}
use Rattle.feature_trees.proofs.LinesStand.{lines_stand}
use Rattle.report_reader.specs.ReportRead.{tree_found}
use Rattle.report_reader.proofs.TextFacts.{got, kept, shown_bytes}
use Rattle.feature_trees.proofs.LinesBack.{bytes_of, entry_depth}

-- ---- values of nodes

entry_depth_all : (es : List Entry) → greatest (map entry_depth es) ≡ entries_depth es
entry_depth_all [] = refl
entry_depth_all (e ∷ es) =
    let first : entry_depth e ≡ node_depth e.node + 1 =
    ap entry_depth (sym (rolls-Entry' (record { name = e.name; node = e.node })))
    ∙ fold-roll-Entry ℕ ℕ depth_layer entry_depth_layer (record { name = e.name; node = e.node }) in
    let rest = entry_depth_all es in
    λ i. max (first i) (rest i)

depth_of : (n : Node) → node_depth n ≡ depth (value_of n)
depth_of n = ap node_depth (sym (roll-out-Node n)) ∙ layer (out-Node n)
  where
    layer : (x : Open.Node-F Node Entry) → node_depth (roll-Node x) ≡ depth (value_layer x)
    layer Open.Reg = fold-roll-Node ℕ ℕ depth_layer entry_depth_layer Open.Reg
    layer (Open.Link b) = fold-roll-Node ℕ ℕ depth_layer entry_depth_layer (Open.Link b)
    layer (Open.Special s) = fold-roll-Node ℕ ℕ depth_layer entry_depth_layer (Open.Special s)
    layer (Open.Dir es) = fold-roll-Node ℕ ℕ depth_layer entry_depth_layer (Open.Dir es) ∙ entry_depth_all es

-- ---- entries that fit

record Fits (k : ℕ) (v : Value) : Type 0 where
  deep : depth v ≤ k
  bytes : of_bytes v ≡ true

record AllFit (k : ℕ) (es : List Entry) : Type 0 where
  deep : entries_depth es ≤ k
  bytes : entries_bytes es ≡ true

record FirstFits (k : ℕ) (e : Entry) (es : List Entry) : Type 0 where
  deep : node_depth e.node + 1 ≤ k
  name : are_bytes e.name ≡ true
  bytes : node_bytes e.node ≡ true
  rest : AllFit k es

first_fits : (k : ℕ) (e : Entry) (es : List Entry) → AllFit k (e ∷ es) → FirstFits k e es
first_fits k e es h =
    let both : max (node_depth e.node + 1) (entries_depth es) ≤ k = h.deep in
    let b = and_parts (are_bytes e.name && node_bytes e.node) (entries_bytes es) h.bytes in
    let n = and_parts (are_bytes e.name) (node_bytes e.node) b.0 in
    record { deep = omega (arith, both); name = n.0; bytes = n.1; rest = record { deep = omega (arith, both); bytes = b.1 } }

one_more : (k : ℕ) (e : Entry) (es : List Entry) → node_depth e.node + 1 ≤ k → are_bytes e.name ≡ true → node_bytes e.node ≡ true → AllFit k es → AllFit k (e ∷ es)
one_more k e es d n b h = record { deep = both; bytes = and_from (are_bytes e.name && node_bytes e.node) (entries_bytes es) (and_from (are_bytes e.name) (node_bytes e.node) n b) h.bytes }
  where
    both : max (node_depth e.node + 1) (entries_depth es) ≤ k
    both = let rest = h.deep in omega (arith, d, rest)

both_fit : (k : ℕ) (xs ys : List Entry) → AllFit k xs → AllFit k ys → AllFit k (xs ++ ys)
both_fit k [] ys h g = g
both_fit k (x ∷ xs) ys h g = let f = first_fits k x xs h in one_more k x (xs ++ ys) f.deep f.name f.bytes (both_fit k xs ys f.rest g)

there_fits : (k : ℕ) (f : List ℕ) (w : Value) → IsThere w → depth w + 1 ≤ k → of_bytes w ≡ true → are_bytes f ≡ true
    → AllFit k (record { name = f; node = node_of w } ∷ [])
there_fits k f w t d b n =
    let deep : node_depth (node_of w) ≡ depth w = depth_of (node_of w) ∙ ap depth (value_of-node_of w t) in
    let bytes : node_bytes (node_of w) ≡ of_bytes w = bytes_of (node_of w) ∙ ap of_bytes (value_of-node_of w t) in
    one_more k (record { name = f; node = node_of w }) [] (omega (arith, deep, d)) n (bytes ∙ b) (record { deep = omega arith; bytes = refl })

present_fits : (k : ℕ) (f : List ℕ) (w : Value) → depth w + 1 ≤ k → of_bytes w ≡ true → are_bytes f ≡ true → AllFit k (entry_if_present f w)
present_fits k f Absent d b n = record { deep = omega arith; bytes = refl }
present_fits k f Reg d b n = there_fits k f Reg tt d b n
present_fits k f (Link t) d b n = there_fits k f (Link t) tt d b n
present_fits k f (Special s) d b n = there_fits k f (Special s) tt d b n
present_fits k f (Dir es) d b n = there_fits k f (Dir es) tt d b n

update_fits : (k : ℕ) (es : List Entry) (f : List ℕ) (w : Value) → AllFit k es → depth w + 1 ≤ k → of_bytes w ≡ true → are_bytes f ≡ true → AllFit k (update es f w)
update_fits k [] f w h d b n = present_fits k f w d b n
update_fits k (e ∷ es) f w h d b n = step (name_cmp f e.name) (update_fits k es f w (first_fits k e es h).rest d b n)
  where
    step : (o : Ordering) → AllFit k (update es f w) → AllFit k (by_order o (entry_if_present f w ++ (e ∷ es)) (entry_if_present f w ++ es) (e ∷ update es f w))
    step Less more = both_fit k (entry_if_present f w) (e ∷ es) (present_fits k f w d b n) h
    step Equal more = both_fit k (entry_if_present f w) es (present_fits k f w d b n) (first_fits k e es h).rest
    step Greater more = let one = first_fits k e es h in one_more k e (update es f w) one.deep one.name one.bytes more

find_fits : (k : ℕ) (es : List Entry) (f : List ℕ) → AllFit k es → Fits (k - 1) (find es f)
find_fits k [] f h = record { deep = omega arith; bytes = refl }
find_fits k (e ∷ es) f h = step (name_cmp f e.name) (find_fits k es f (first_fits k e es h).rest)
  where
    step : (o : Ordering) → Fits (k - 1) (find es f) → Fits (k - 1) (by_order o Absent (value_of e.node) (find es f))
    step Less more = record { deep = omega arith; bytes = refl }
    step Equal more =
        let one = first_fits k e es h in
        let low = one.deep in
        record { deep = omega (arith, low, depth_of e.node); bytes = sym (bytes_of e.node) ∙ one.bytes }
    step Greater more = more

entries_fit : (k : ℕ) (v : Value) → Fits k v → AllFit k (entries_of v)
entries_fit k Absent h = record { deep = omega arith; bytes = refl }
entries_fit k Reg h = record { deep = omega arith; bytes = refl }
entries_fit k (Link t) h = record { deep = omega arith; bytes = refl }
entries_fit k (Special s) h = record { deep = omega arith; bytes = refl }
entries_fit k (Dir es) h = record { deep = h.deep; bytes = h.bytes }

entry_fits : (k : ℕ) (v : Value) (f : List ℕ) → Fits k v → Fits (k - 1) (entry v f)
entry_fits k Absent f h = record { deep = omega arith; bytes = refl }
entry_fits k Reg f h = record { deep = omega arith; bytes = refl }
entry_fits k (Link t) f h = record { deep = omega arith; bytes = refl }
entry_fits k (Special s) f h = record { deep = omega arith; bytes = refl }
entry_fits k (Dir es) f h = find_fits k es f (record { deep = h.deep; bytes = h.bytes })

put_fits : (k : ℕ) (v : Value) (p : List (List ℕ)) (w : Value) → Fits k v → length p + depth w ≤ k → list_all are_bytes p ≡ true → of_bytes w ≡ true → Fits k (put v p w)
put_fits k v [] w h d n b = let low : 0 + depth w ≤ k = d in record { deep = omega (arith, low); bytes = b }
put_fits k v (f ∷ p) w h d n b =
    let names = and_parts (are_bytes f) (list_all are_bytes p) n in
    let long : suc (length p) + depth w ≤ k = d in
    let inner = put_fits (k - 1) (entry v f) p w (entry_fits k v f h) (omega (arith, long)) names.1 b in
    let low = inner.deep in
    let all = update_fits k (entries_of v) f (put (entry v f) p w) (entries_fit k v h) (omega (arith, low, long)) inner.bytes names.0 in
    record { deep = all.deep; bytes = all.bytes }

-- ---- names of a path

name_bytes : (text name : List ℕ) → name_of text ≡ Some name → are_bytes name ≡ true
name_bytes text name e =
    got if_name (shown_of text) name e (λ bytes s f. kept (is_name bytes) bytes name f (λ t same. ap are_bytes (sym same) ∙ shown_bytes text bytes s))

names_bytes : (done texts names : List (List ℕ)) → list_all are_bytes done ≡ true → names_onto done texts ≡ Some names → list_all are_bytes names ≡ true
names_bytes done [] names h e = let same : done ≡ names = cc in ap (list_all are_bytes) (sym same) ∙ h
names_bytes done (text ∷ texts) names h e =
    got (λ name. names_onto (done ++ name ∷ []) texts) (name_of text) names e
    (λ name n f. names_bytes (done ++ name ∷ []) texts names (all_both are_bytes done (name ∷ []) h (and_from (are_bytes name) true (name_bytes text name n) refl)) f)

below_bytes : (text : List ℕ) (names : List (List ℕ)) → names_of text ≡ Some names → list_all are_bytes names ≡ true
below_bytes text names e = step (is_filled text) e
  where
    step : (t : Bool) → (if t then names_onto [] (parts 47 text) else Some []) ≡ Some names → list_all are_bytes names ≡ true
    step true e = names_bytes [] (parts 47 text) names refl e
    step false e = let same : [] ≡ names = cc in ap (list_all are_bytes) (sym same)

pub path_bytes : (text : List ℕ) (names : List (List ℕ)) → path_of text ≡ Some names → list_all are_bytes names ≡ true
path_bytes [] names e = cc
path_bytes (b ∷ text) names e = step (b == 47) e
  where
    step : (t : Bool) → (if t then names_of text else None) ≡ Some names → list_all are_bytes names ≡ true
    step true e = below_bytes text names e
    step false e = cc

-- ---- lines

module _ (n : ℕ) (v m : Value) (h : Fits MOST_NAMES v) where
  leaf_fits : (names : List (List ℕ)) (w : Value) → depth w ≡ 0 → of_bytes w ≡ true → list_all are_bytes names ≡ true → length names ≤ MOST_NAMES
      → with_line n v (Some (record { names = names; value = w })) ≡ Ok m → Fits MOST_NAMES m
  leaf_fits names w low b are long e = step (is_there (at v names)) (has_parents v names) e
    where
      step : (x y : Bool) → (if x then Err (Line n 2) else (if y then Ok (put v names w) else Err (Line n 3))) ≡ Ok m → Fits MOST_NAMES m
      step true y e = cc
      step false true e = let same : put v names w ≡ m = cc in subst (Fits MOST_NAMES) same (put_fits MOST_NAMES v names w h (omega (arith, low, long)) are b)
      step false false e = cc

  named_fits : (names : List (List ℕ)) (w : Value) → depth w ≡ 0 → of_bytes w ≡ true → list_all are_bytes names ≡ true
      → with_line n v (line_of_names w names) ≡ Ok m → Fits MOST_NAMES m
  named_fits names w low b are e = step (nat_lt 0 (length names) && nat_le (length names) MOST_NAMES) refl e
    where
      step : (t : Bool) → (nat_lt 0 (length names) && nat_le (length names) MOST_NAMES) ≡ t
          → with_line n v (if t then Some (record { names = names; value = w }) else None) ≡ Ok m → Fits MOST_NAMES m
      step true d e =
          leaf_fits names w low b are (leb-true (length names) MOST_NAMES (and_parts (nat_lt 0 (length names)) (nat_le (length names) MOST_NAMES) d).1) e
      step false d e = cc

  at_fits : (path : List ℕ) (w : Value) → depth w ≡ 0 → of_bytes w ≡ true → with_line n v (line_at path w) ≡ Ok m → Fits MOST_NAMES m
  at_fits path w low b e = step (path_of path) refl e
    where
      step : (o : Option (List (List ℕ))) → path_of path ≡ o → with_line n v (option_and_then (line_of_names w) o) ≡ Ok m → Fits MOST_NAMES m
      step None d e = cc
      step (Some names) d e = named_fits names w low b (path_bytes path names d) e

  letter_fits : (letter path : List ℕ) → with_line n v (option_and_then (line_at path) (letter_value letter)) ≡ Ok m → Fits MOST_NAMES m
  letter_fits letter path e = step (bytes_eq letter (codes "d")) (bytes_eq letter (codes "f")) (special_of letter) e
    where
      step : (d f : Bool) (o : Option special.Special)
          → with_line n v (option_and_then (line_at path) (if d then Some (Dir []) else (if f then Some Reg else option_map (λ s. Special s) o))) ≡ Ok m
          → Fits MOST_NAMES m
      step true f o e = at_fits path (Dir []) refl refl e
      step false true o e = at_fits path Reg refl refl e
      step false false (Some s) e = at_fits path (Special s) refl refl e
      step false false None e = cc

  link_fits : (letter path target : List ℕ) → with_line n v (option_and_then (line_at path) (link_value letter target)) ≡ Ok m → Fits MOST_NAMES m
  link_fits letter path target e = step (bytes_eq letter (codes "l")) (shown_of target) refl e
    where
      step : (l : Bool) (o : Option (List ℕ)) → shown_of target ≡ o
          → with_line n v (option_and_then (line_at path) (if l then option_map (λ bytes. Link bytes) o else None)) ≡ Ok m → Fits MOST_NAMES m
      step true (Some bytes) d e = at_fits path (Link bytes) refl (shown_bytes target bytes d) e
      step true None d e = cc
      step false o d e = cc

  words_fit : (ws : List (List ℕ)) → with_line n v (line_of_words ws) ≡ Ok m → Fits MOST_NAMES m
  words_fit [] e = cc
  words_fit (a ∷ []) e = cc
  words_fit (letter ∷ path ∷ []) e = letter_fits letter path e
  words_fit (letter ∷ path ∷ target ∷ []) e = link_fits letter path target e
  words_fit (a ∷ b ∷ c ∷ d ∷ ws) e = cc

lines_fit : (n : ℕ) (v u : Value) (lines : List (List ℕ)) → Fits MOST_NAMES v → with_lines n v lines ≡ Ok u → Fits MOST_NAMES u
lines_fit n v u [] h e = let same : v ≡ u = cc in subst (Fits MOST_NAMES) same h
lines_fit n v u (line ∷ lines) h e = step (with_line n v (line_says line)) refl e (λ m f g. lines_fit (n + 1) m u lines f g)
  where
    step : (r : Result Value TreeFault) → with_line n v (line_says line) ≡ r → and_then (λ m. with_lines (n + 1) m lines) r ≡ Ok u
        → ((m : Value) → Fits MOST_NAMES m → with_lines (n + 1) m lines ≡ Ok u → Fits MOST_NAMES u) → Fits MOST_NAMES u
    step (Ok m) d e more = more m (words_fit n v m h (parts 32 line) d) e
    step (Err f) d e more = cc

-- ---- the tree

-- what holds of a tree that was read
pub record IsFound (v : Value) : Type 0 where
  pub dir : kind_of v ≡ kind.Dir
  pub sound : IsTrue (sound v)
  pub bytes : IsTrue (of_bytes v)
  pub short : depth v ≤ MOST_NAMES

found_ok : (r : Result Value TreeFault) (v : Value) → tree_found r ≡ Some v → r ≡ Ok v
found_ok (Ok tree) v e = let same : tree ≡ v = cc in ap Ok same
found_ok (Err f) v e = cc

pub found_tree : (text : List ℕ) (v : Value) → tree_found (tree_of text) ≡ Some v → IsFound v
found_tree text v e =
    let ok = found_ok (tree_of text) v e in
    let after = lines_stand text v ok in
    let fits = lines_fit 1 (Dir []) v (text_lines text) (record { deep = omega arith; bytes = refl }) ok in
    record { dir = after.dir refl; sound = after.sound; bytes = fits.bytes; short = fits.deep }
