-- Bytes by their names (ISO/IEC 646), for definitions that are to be read.
use Rattle.std.specs.Prelude.{ℕ}

abbrev pub nul : ℕ
nul = 0

abbrev pub tab : ℕ
tab = 9

abbrev pub newline : ℕ
newline = 10

abbrev pub space : ℕ
space = 32

-- `!`
abbrev pub exclamation : ℕ
exclamation = 33

-- `"`
abbrev pub double_quote : ℕ
double_quote = 34

-- `#`
abbrev pub hash : ℕ
hash = 35

-- `$`
abbrev pub dollar : ℕ
dollar = 36

-- `%`
abbrev pub percent : ℕ
percent = 37

-- `&`
abbrev pub ampersand : ℕ
ampersand = 38

-- `'`
abbrev pub single_quote : ℕ
single_quote = 39

-- `(`
abbrev pub paren_open : ℕ
paren_open = 40

-- `)`
abbrev pub paren_close : ℕ
paren_close = 41

-- `*`
abbrev pub star : ℕ
star = 42

-- `+`
abbrev pub plus : ℕ
plus = 43

-- `,`
abbrev pub comma : ℕ
comma = 44

-- `-`
abbrev pub hyphen : ℕ
hyphen = 45

-- `.`
abbrev pub full_stop : ℕ
full_stop = 46

-- `/`
abbrev pub slash : ℕ
slash = 47

-- `0`
abbrev pub digit_zero : ℕ
digit_zero = 48

-- `1`
abbrev pub digit_one : ℕ
digit_one = 49

-- `2`
abbrev pub digit_two : ℕ
digit_two = 50

-- `7`
abbrev pub digit_seven : ℕ
digit_seven = 55

-- `9`
abbrev pub digit_nine : ℕ
digit_nine = 57

-- `:`
abbrev pub colon : ℕ
colon = 58

-- `;`
abbrev pub semicolon : ℕ
semicolon = 59

-- `<`
abbrev pub less : ℕ
less = 60

-- `=`
abbrev pub equals : ℕ
equals = 61

-- `>`
abbrev pub greater : ℕ
greater = 62

-- `?`
abbrev pub question : ℕ
question = 63

-- `@`
abbrev pub commercial_at : ℕ
commercial_at = 64

-- `A`
abbrev pub upper_a : ℕ
upper_a = 65

-- `Z`
abbrev pub upper_z : ℕ
upper_z = 90

-- `[`
abbrev pub bracket_open : ℕ
bracket_open = 91

-- `\`
abbrev pub backslash : ℕ
backslash = 92

-- `]`
abbrev pub bracket_close : ℕ
bracket_close = 93

-- `^`
abbrev pub circumflex : ℕ
circumflex = 94

-- `_`
abbrev pub underscore : ℕ
underscore = 95

-- a backquote
abbrev pub backquote : ℕ
backquote = 96

-- `a`
abbrev pub lower_a : ℕ
lower_a = 97

-- `b`
abbrev pub lower_b : ℕ
lower_b = 98

-- `x`
abbrev pub lower_x : ℕ
lower_x = 120

-- `z`
abbrev pub lower_z : ℕ
lower_z = 122

-- `{`
abbrev pub brace_open : ℕ
brace_open = 123

-- `|`
abbrev pub bar : ℕ
bar = 124

-- `}`
abbrev pub brace_close : ℕ
brace_close = 125

-- `~`
abbrev pub tilde : ℕ
tilde = 126
