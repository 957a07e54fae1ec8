-- Where a command ends that begins at a byte: at the operator or the newline that ends it, where quotes, escapes,
-- joined lines, expansions and substitutions are passed over (XCU 2.2 Quoting, 2.3 Token Recognition).
use Rattle.std.specs.Prelude.{ℕ, zero, suc, reverse, Bool, true, false, ◌&&◌, ◌||◌, ◌==◌, not, List, [], ◌∷◌, Option, Some, None}
use Rattle.std.specs.Prelude.{if◌then◌else◌}
use Rattle.script_names.specs.Ascii.{tab, newline, space, double_quote, hash, dollar, ampersand, single_quote}
use Rattle.script_names.specs.Ascii.{paren_open, paren_close, semicolon, less, greater, backslash, brace_open, bar}
use Rattle.script_names.specs.Ascii.{brace_close}
use Rattle.script_places.specs.declared.command_ends.Within.{Within}
use Rattle.script_places.specs.declared.command_ends.Within.TheVariants.{Gap, Word, Arrow, GapEscape, WordEscape}
use Rattle.script_places.specs.declared.command_ends.Within.TheVariants.{ArrowEscape, Comment, Single, Double}
use Rattle.script_places.specs.declared.command_ends.Within.TheVariants.{DoubleEscape, WordDollar, DoubleDollar}
use Rattle.script_places.specs.declared.command_ends.Within.TheVariants.{WordBrace, DoubleBrace}

-- a blank
abbrev pub is_blank : ℕ → Bool
is_blank b = b == space || b == tab

-- an operator's byte that ends a command wherever no quote and no parenthesis is open
abbrev pub is_end : ℕ → Bool
is_end b = b == semicolon || b == bar || b == newline || b == paren_close

-- an arrow of a redirection
abbrev pub is_arrow : ℕ → Bool
is_arrow b = b == less || b == greater

-- behind a byte that stands in no quotes and begins no substitution
abbrev pub in_text : ℕ → Within
in_text b =
    if is_blank b || is_end b || b == ampersand || b == paren_open then Gap
    else (if is_arrow b then Arrow
    else (if b == single_quote then Single
    else (if b == double_quote then Double
    else (if b == dollar then WordDollar
    else (if b == backslash then WordEscape else Word)))))

-- behind a byte that may begin a word
abbrev pub in_gap : ℕ → Within
in_gap b = if b == hash then Comment else (if b == backslash then GapEscape else in_text b)

-- behind a byte that follows an arrow
abbrev pub behind_arrow : ℕ → Within
behind_arrow b = if b == ampersand then Word else (if b == backslash then ArrowEscape else in_text b)

-- behind a byte in double quotes
abbrev pub in_double : ℕ → Within
in_double b =
    if b == double_quote then Word
    else (if b == backslash then DoubleEscape
    else (if b == dollar then DoubleDollar else Double))

-- behind a byte, where nothing is opened and nothing is closed; a joined line leaves all as it was
abbrev pub next_within : Within → ℕ → Within
next_within Gap b = in_gap b
next_within Word b = in_text b
next_within Arrow b = behind_arrow b
next_within GapEscape b = if b == newline then Gap else Word
next_within WordEscape b = Word
next_within ArrowEscape b = if b == newline then Arrow else Word
next_within Comment b = if b == newline then Gap else Comment
next_within Single b = if b == single_quote then Word else Single
next_within Double b = in_double b
next_within DoubleEscape b = Double
next_within WordDollar b = if b == brace_open then WordBrace else in_text b
next_within DoubleDollar b = if b == brace_open then DoubleBrace else in_double b
next_within WordBrace b = if b == brace_close then Word else WordBrace
next_within DoubleBrace b = if b == brace_close then Double else DoubleBrace

-- where the text goes on behind a parenthesis that is closed, if the byte opens one
abbrev pub opened : Within → ℕ → Option Within
opened Gap b = if b == paren_open then Some Word else None
opened Word b = if b == paren_open then Some Word else None
opened Arrow b = if b == paren_open then Some Word else None
opened WordDollar b = if b == paren_open then Some Word else None
opened DoubleDollar b = if b == paren_open then Some Double else None
opened w b = None

-- whether a byte here belongs to the text of commands
abbrev pub is_text : Within → Bool
is_text Gap = true
is_text Word = true
is_text Arrow = true
is_text WordDollar = true
is_text w = false

-- whether the byte closes a parenthesis
abbrev pub closes : Within → ℕ → Bool
closes w b = is_text w && b == paren_close

-- Where a scanner is: what the next byte stands in, and for each parenthesis that is open where the text goes on
-- behind it, the innermost first.
pub record Scan : Type 0 where
  pub within : Within
  pub around : List Within

-- behind the parenthesis that is closed; one that was not opened stays
abbrev pub closed : List Within → Scan
closed [] = record { within = Gap; around = [] }
closed (w ∷ around) = record { within = w; around = around }

-- behind a byte that opens a parenthesis, with where the text goes on behind it, or behind any other byte
abbrev pub opened_or_next : Option Within → Scan → ℕ → Scan
opened_or_next (Some back) s b = record { within = Gap; around = back ∷ s.around }
opened_or_next None s b =
    if closes s.within b then closed s.around
    else record { within = next_within s.within b; around = s.around }

-- behind one more byte
abbrev pub scanned : Scan → ℕ → Scan
scanned s b = opened_or_next (opened s.within b) s b

-- whether `&` is part of a redirection here
abbrev pub is_arrow_place : Within → Bool
is_arrow_place Arrow = true
is_arrow_place w = false

-- whether a word may begin here
abbrev pub is_gap : Within → Bool
is_gap Gap = true
is_gap w = false

-- whether a backslash stands where a word may begin
abbrev pub is_gap_escape : Within → Bool
is_gap_escape GapEscape = true
is_gap_escape w = false

-- whether no parenthesis is open
abbrev pub is_alone : List Within → Bool
is_alone [] = true
is_alone (w ∷ around) = false

-- whether the command ends before the byte, by whether no parenthesis is open
abbrev pub ends_before : Within → Bool → ℕ → Bool
ends_before w alone b =
    alone && (is_text w && (is_end b || ((b == ampersand && not (is_arrow_place w)) || (b == hash && is_gap w))))

-- whether what was last may be a blank before the end, or a joined line there
abbrev pub is_between : Within → Bool → Bool
is_between w alone = alone && (is_gap w || is_gap_escape w)

-- how many bytes come before the end where so many do behind the next byte; 0, where that one is a blank before the end
abbrev pub one_more : Bool → ℕ → ℕ
one_more true zero = zero
one_more true (suc n) = suc (suc n)
one_more false n = suc n

-- how many bytes come before the end, from here on, without the blanks before it
abbrev pub length_from : Scan → List ℕ → ℕ
length_from s [] = 0
length_from s (b ∷ text) =
    if ends_before s.within (is_alone s.around) b then 0
    else one_more (is_between (scanned s b).within (is_alone (scanned s b).around)) (length_from (scanned s b) text)

-- a scanner that is here, with the parentheses in the order in which they were opened
abbrev pub scan_of : Within → List Within → Scan
scan_of w opened = record { within = w; around = reverse opened }

-- how many bytes the command has that the text begins with
abbrev pub command_length : List ℕ → ℕ
command_length text = length_from (scan_of Gap []) text
