-- What a run makes of the tree that it begins from, place by place: a line for each place that is taken away (`-`), is
-- something else behind (`~`) or is made (`+`), and for each that is marked; the others are counted.
use Rattle.std.specs.Prelude.{ℕ, Bool, true, false, not, ◌&&◌, ◌==◌, List, [], ◌∷◌, ◌++◌, length, take, drop, filter, codes}
use Rattle.std.specs.Prelude.{Option, Some, None, if◌then◌else◌}
use Rattle.std.specs.Fmt.{decimal}
use Rattle.std.specs.List.{find, flat_map, list_any}
use Rattle.std.specs.Option.{is_some, option_map}
use Rattle.std.specs.Str.{bytes_eq}
use Rattle.script_names.specs.Ascii.{slash}
use Rattle.shown_texts.specs.Lines.{line}
use Rattle.shown_texts.specs.Show.{show}
use Rattle.feature_trees.specs.declared.kind.Special.{Special}
use Rattle.feature_trees.specs.declared.kind.Special.TheVariants.{Fifo, Socket, Block, Char}
use Rattle.feature_trees.specs.declared.value.Value.{Value}
use Rattle.tree_pictures.specs.declared.placed.Placed.{Placed}
use Rattle.tree_pictures.specs.declared.placed.Standing.{Standing}
use Rattle.tree_pictures.specs.declared.placed.Standing.TheVariants as standing
use Rattle.tree_pictures.specs.Placed.{tree_places}

-- ---- places

-- the first byte is a slash
abbrev pub begins_name : List ℕ → Bool
begins_name [] = false
begins_name (b ∷ bytes) = b == slash

-- a place is below a path
abbrev pub is_below : List ℕ → Placed → Bool
is_below path p = bytes_eq (take (length path) p.path) path && begins_name (drop (length path) p.path)

-- what stands at a path among these places
abbrev pub standing_at : List ℕ → List Placed → Option Standing
standing_at path places = option_map (λ p. p.standing) (find (λ p. bytes_eq p.path path) places)

-- something stands there
abbrev pub is_there : List ℕ → List Placed → Bool
is_there path places = is_some (standing_at path places)

-- something is below a path
abbrev pub has_below : List Placed → List ℕ → Bool
has_below places path = list_any (is_below path) places

-- a place is below one at which nothing stands in another tree
abbrev pub is_inner : List Placed → List Placed → Placed → Bool
is_inner other places p = list_any (λ q. is_below q.path p && not (is_there q.path other)) places

-- ---- what stands somewhere

-- the special things, numbered
abbrev pub special_number : Special → ℕ
special_number Fifo = 0
special_number Socket = 1
special_number Block = 2
special_number Char = 3

-- the same stands there, of directories but for their entries
abbrev pub same_standing : Standing → Standing → Bool
same_standing standing.Reg standing.Reg = true
same_standing (standing.Link a) (standing.Link b) = bytes_eq a b
same_standing (standing.Special a) (standing.Special b) = special_number a == special_number b
same_standing standing.Dir standing.Dir = true
same_standing a b = false

-- a special thing in words
abbrev pub special_words : Special → List ℕ
special_words Fifo = codes "a pipe"
special_words Socket = codes "a socket"
special_words Block = codes "a block device"
special_words Char = codes "a character device"

-- what stands there, in words
unfoldable pub standing_words : Standing → List ℕ
standing_words standing.Reg = codes "a file"
standing_words (standing.Link target) = codes "a link to " ++ show target
standing_words (standing.Special s) = special_words s
standing_words standing.Dir = codes "a directory"

-- the same, and whether something is below
unfoldable pub whole_words : List Placed → Placed → List ℕ
whole_words places p =
    standing_words p.standing ++ (if has_below places p.path then codes " and all that is below" else [])

-- ---- lines

-- a path is one of these
abbrev pub is_among : List (List ℕ) → List ℕ → Bool
is_among paths path = list_any (λ one. bytes_eq one path) paths

-- the mark behind the line of a marked place
abbrev pub mark_of : Bool → List ℕ
mark_of marked = if marked then codes "   <-- told above" else []

-- how the line of a place begins: its sign and its path
unfoldable pub place_head : List ℕ → List ℕ → List ℕ
place_head sign path = sign ++ show path ++ codes ": "

-- how it ends: what becomes of the place, and whether it is marked
unfoldable pub place_tail : List ℕ → Bool → List ℕ
place_tail words marked = words ++ mark_of marked ++ line []

-- a place that stays
unfoldable pub stays_line : Bool → Placed → List ℕ
stays_line marked p =
    place_head (codes "      ") p.path ++ standing_words p.standing ++ place_tail (codes ", which stays") marked

-- a place at which something else stands behind
unfoldable pub changed_line : Bool → Placed → Standing → List ℕ
changed_line marked p new =
    place_head (codes "    ~ ") p.path ++ standing_words p.standing ++ codes ", becomes " ++ standing_words new
    ++ place_tail [] marked

-- what is taken away, with all that is below it
unfoldable pub taken_line : Bool → List Placed → Placed → List ℕ
taken_line marked old p =
    place_head (codes "    - ") p.path ++ whole_words old p ++ place_tail (codes ", taken away") marked

-- what is made, with all that is below it
unfoldable pub made_line : Bool → List Placed → Placed → List ℕ
made_line marked new p =
    place_head (codes "    + ") p.path ++ whole_words new p ++ place_tail (codes ", made") marked

-- a place that is there before and behind
abbrev pub kept_line : Bool → Placed → Standing → List ℕ
kept_line marked p new =
    if same_standing p.standing new then (if marked then stays_line marked p else []) else changed_line marked p new

-- a place that is gone; below another one that is gone it has no line
abbrev pub gone_line : Bool → List Placed → List Placed → Placed → List ℕ
gone_line marked old new p = if is_inner new old p then [] else taken_line marked old p

-- a place of the tree before, by what stands there in the tree after
abbrev pub old_by : Bool → List Placed → List Placed → Placed → Option Standing → List ℕ
old_by marked old new p None = gone_line marked old new p
old_by marked old new p (Some s) = kept_line marked p s

-- a place of the tree before
unfoldable pub old_line : List (List ℕ) → List Placed → List Placed → Placed → List ℕ
old_line marked old new p = old_by (is_among marked p.path) old new p (standing_at p.path new)

-- a place of the tree after, where nothing stood before
unfoldable pub new_line : List (List ℕ) → List Placed → List Placed → Placed → List ℕ
new_line marked old new p =
    if is_there p.path old then [] else (if is_inner old new p then [] else made_line (is_among marked p.path) new p)

-- the line of a marked path at which nothing stands
unfoldable pub absent_line : List ℕ → List ℕ
absent_line path = place_head (codes "      ") path ++ place_tail (codes "missing, and stays so") true

-- a marked path at which nothing stands, before or behind
unfoldable pub missing_line : List Placed → List Placed → List ℕ → List ℕ
missing_line old new path =
    if is_there path old then []
    else (if is_there path new then [] else absent_line path)

-- ---- what is not drawn

-- what stands at a place is the same behind
abbrev pub stays_by : Standing → Option Standing → Bool
stays_by s None = false
stays_by s (Some t) = same_standing s t

-- a place is not drawn: it stays, and is not marked
abbrev pub is_left_out : List (List ℕ) → List Placed → Placed → Bool
is_left_out marked new p = stays_by p.standing (standing_at p.path new) && not (is_among marked p.path)

-- how many are not drawn
unfoldable pub counted : List ℕ → ℕ → List ℕ → List ℕ
counted before count behind = before ++ decimal count ++ behind

abbrev pub more_text : ℕ → List ℕ
more_text count = counted (codes "      ") count (line (codes " more of its places: nothing changes there"))

abbrev pub rest_text : ℕ → List ℕ
rest_text count = if count == 0 then [] else more_text count

-- ---- the picture

-- of the places before and after
unfoldable pub placed_picture : List (List ℕ) → List Placed → List Placed → List ℕ
placed_picture marked old new =
    flat_map (missing_line old new) marked
    ++ flat_map (old_line marked old new) old
    ++ flat_map (new_line marked old new) new
    ++ rest_text (length (filter (is_left_out marked new) old))

-- of the trees before and after, in which some paths are marked
abbrev pub picture : List (List ℕ) → Value → Value → List ℕ
picture marked before after = placed_picture marked (tree_places before) (tree_places after)

-- all places of a tree, a line each
unfoldable pub whole_line : Placed → List ℕ
whole_line p = place_head (codes "      ") p.path ++ standing_words p.standing ++ place_tail [] false

abbrev pub whole_tree : Value → List ℕ
whole_tree tree = flat_map whole_line (tree_places tree)
