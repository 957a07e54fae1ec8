-- What an answer of a part of the parser says: what a rule gives from a place on with the place behind it, or the
-- fault with which its reading stops. Of want of memory nothing is said.
use Rattle.std.specs.Prelude.{◌≡◌, ℕ, ◌<◌, ◌≤◌, Bool, List, [], ◌∷◌, ◌++◌, Option, length, drop}
use Rattle.std.specs.Prelude.{Result, Ok, Err}
use Rattle.shell_syntax.specs.declared.syntax.Command.{Command}
use Rattle.shell_syntax.specs.declared.syntax.Part.{Part}
use Rattle.shell_syntax.specs.declared.syntax.Word.{Word}
use Rattle.shell_syntax.specs.declared.syntax.Assign.{Assign}
use Rattle.shell_syntax.specs.declared.syntax.Link.{Link}
use Rattle.shell_syntax.specs.declared.syntax.IfArm.{IfArm}
use Rattle.shell_syntax.specs.declared.syntax.CaseArm.{CaseArm}
use Rattle.shell_syntax.specs.declared.redirect.Redirect.{Redirect}
use Rattle.shell_lexer.specs.declared.token.Token.{Token}
use Rattle.shell_lexer.specs.declared.token.TokenKind.{TokenKind}
use Rattle.shell_lexer.specs.declared.token.RawPart.{RawPart, out-RawPart}
use Rattle.shell_lexer.specs.declared.token.RawPart.TheOpen as raw
use Rattle.shell_grammar.specs.declared.fault.ParseFault.{ParseFault}
use Rattle.shell_grammar.specs.declared.fault.ParseFault.TheVariants.{Syntax, Deep, Memory}
use Rattle.shell_grammar.specs.declared.form.Item.{Item}
use Rattle.shell_grammar.specs.declared.items.Items.{Items}
use Rattle.shell_grammar.specs.Look.{Text, Tokens, place}
use Rattle.shell_grammar.specs.Forms.{has_word}
use Rattle.shell_grammar.specs.Trees.{seq_of, chain_of, pipe_of, if_arm, case_arm, joined, assigned, Defines}
use Rattle.shell_grammar.specs.Grammar.{Rule, Script, Members, More, AndOr, Links, Piped, Bars, Redirects, Arms}
use Rattle.shell_grammar.specs.Grammar.{Clause, Each, Apart, OneArm, ArmRest, CaseArms, MorePatterns, Patterns, Named}
use Rattle.shell_grammar.specs.Grammar.{SimpleItems, Sign, AWord, Tree, Value}
use Rattle.shell_grammar.specs.Reading.{Out, Whole, Stop, turned, Judged, Faultless, Faulty, after}
use Rattle.shell_grammar.specs.Reading.{IsRule, IsSign, IsParts}
use Rattle.shell_grammar.specs.Spelling.{deep_64}

-- the given fact of a fault, unless the fault is want of memory
abbrev pub Caused : (ParseFault → Type 0) → ParseFault → Type 0
Caused P (Syntax at) = P (Syntax at)
Caused P (Deep at) = P (Deep at)
Caused P Memory = Unit {0}

-- a rule stops so, wherever
pub record Stops (d end : ℕ) (n : Rule) (ts : Tokens) (fault : ParseFault) : Type 0 where
  pub rest : Tokens
  pub reads : IsRule deep_64 d end n ts (Stop fault rest)

-- a rule gives this, whatever is left
pub record Gives (d end : ℕ) (n : Rule) (ts : Tokens) (value : Tree n) : Type 0 where
  pub rest : Tokens
  pub reads : IsRule deep_64 d end n ts (Whole value rest)

-- a sign stops so, wherever
pub record SignStops (d end : ℕ) (s : Sign) (ts : Tokens) (fault : ParseFault) : Type 0 where
  pub rest : Tokens
  pub reads : IsSign deep_64 d end s ts (Stop fault rest)

-- what a rule gives from a place on, and the place behind it
abbrev pub Reads : ℕ → ℕ → (n : Rule) → Tokens → ℕ → Result (Tree n × ℕ) ParseFault → Type 0
Reads d end n ts at (Ok v) =
    (at ≤ v.1) × (v.1 ≤ length ts) × IsRule deep_64 d end n (drop at ts) (Whole v.0 (drop v.1 ts))
Reads d end n ts at (Err fault) = Caused (Stops d end n (drop at ts)) fault

-- a token that looks so, and the place behind it
abbrev pub Takes : ℕ → ℕ → (s : Sign) → Value s → Tokens → ℕ → Result ℕ ParseFault → Type 0
Takes d end s v ts at (Ok next) =
    (at < next) × (next ≤ length ts) × IsSign deep_64 d end s (drop at ts) (Whole v (drop next ts))
Takes d end s v ts at (Err fault) = Caused (SignStops d end s (drop at ts)) fault

-- all tokens as a script
abbrev pub Parses : ℕ → ℕ → Tokens → Result Command ParseFault → Type 0
Parses d end ts (Ok body) = Gives d end Script ts body
Parses d end ts (Err fault) = Caused (Stops d end Script ts) fault

-- a separator
abbrev pub Separates : ℕ → ℕ → Tokens → ℕ → Result ℕ ParseFault → Type 0
Separates d end ts at (Ok next) =
    (at ≤ next) × (next ≤ length ts) × IsRule deep_64 d end Apart (drop at ts) (Whole tt (drop next ts))
Separates d end ts at (Err fault) = Caused (Stops d end Apart (drop at ts)) fault

-- the body of a function, behind its name
abbrev pub DefinitionReads : ℕ → ℕ → Tokens → ℕ → Result (Command × ℕ) ParseFault → Type 0
DefinitionReads d end ts at (Ok v) =
    (at ≤ v.1) × (v.1 ≤ length ts) × IsRule deep_64 d end Named (drop at ts) (Whole (Defines v.0) (drop v.1 ts))
DefinitionReads d end ts at (Err fault) = Caused (Stops d end Named (drop at ts)) fault

-- where an arm of `case` stands behind its `(`, if it has one
abbrev pub ArmBegins : ℕ → ℕ → Tokens → ℕ → ℕ → Type 0
ArmBegins d end ts at next = (at ≤ next) × (next ≤ length ts)
    × ((q : Out CaseArm) → IsRule deep_64 d end ArmRest (drop next ts) q
    → IsRule deep_64 d end OneArm (drop at ts) q)

-- ---- words

-- the parts of a word behind others
pub record PartsGiven (d : ℕ) (begun : List Part) (raws : List RawPart) (all : List Part) : Type 0 where
  pub parts : List Part
  pub reads : IsParts deep_64 d raws (Faultless parts)
  pub joins : all ≡ begun ++ parts

-- the parts behind those begun, or the first fault in them
abbrev pub PartsRead : ℕ → List Part → List RawPart → Result (List Part) ParseFault → Type 0
PartsRead d begun raws (Ok all) = PartsGiven d begun raws all
PartsRead d begun raws (Err fault) = Caused (λ fault. IsParts deep_64 d raws (Faulty fault)) fault

-- how the parts so far go on as those of what is left
pub record PartsFrom (d : ℕ) (begun : List Part) (all : List RawPart) (now : List Part) (rest : List RawPart)
    : Type 0 where
  pub faultless : (parts : List Part) → IsParts deep_64 d rest (Faultless parts)
      → PartsGiven d begun all (now ++ parts)
  pub faulty : (fault : ParseFault) → IsParts deep_64 d rest (Faulty fault) → IsParts deep_64 d all (Faulty fault)

-- a part, whatever others are behind it; or the fault in it
abbrev pub PartRead : ℕ → RawPart → Result Part ParseFault → Type 0
PartRead d raw (Ok p) =
    (raws : List RawPart) (q : Judged) → IsParts deep_64 d raws q → IsParts deep_64 d (raw ∷ raws) (after p q)
PartRead d raw (Err fault) =
    Caused (λ fault. (raws : List RawPart) → IsParts deep_64 d (raw ∷ raws) (Faulty fault)) fault

-- the word that stands there
abbrev pub WordRead : ℕ → ℕ → Tokens → ℕ → Result (Word × ℕ) ParseFault → Type 0
WordRead d end ts at (Ok v) =
    (at < v.1) × (v.1 ≤ length ts) × IsSign deep_64 d end AWord (drop at ts) (Whole v.0 (drop v.1 ts))
WordRead d end ts at (Err fault) = Caused (SignStops d end AWord (drop at ts)) fault

-- an assignment, and the word that it is
pub record Assigns (d end : ℕ) (ts : Tokens) (value : Assign) (rest : Tokens) : Type 0 where
  pub word : Word
  pub reads : IsSign deep_64 d end AWord ts (Whole word rest)
  pub assigns : value ≡ assigned word

-- the word that stands there, as an assignment
abbrev pub AssignRead : ℕ → ℕ → Tokens → ℕ → Result (Assign × ℕ) ParseFault → Type 0
AssignRead d end ts at (Ok v) =
    (at < v.1) × (v.1 ≤ length ts) × Assigns d end (drop at ts) v.0 (drop v.1 ts)
AssignRead d end ts at (Err fault) = Caused (SignStops d end AWord (drop at ts)) fault

-- the bytes of a part that is plain, else none
abbrev pub raw_plain : raw.RawPart-F RawPart TokenKind Token → Text
raw_plain (raw.Plain text) = text
raw_plain _ = []

-- the bytes of the first part, if it is plain, else none
abbrev pub raw_text : List RawPart → Text
raw_text [] = []
raw_text (p ∷ ps) = raw_plain (out-RawPart p)

-- ---- simple commands

-- items behind others
pub record ItemsGiven (d end : ℕ) (behind_word : Bool) (begun : Items) (ts : Tokens) (all : Items) (rest : Tokens)
    : Type 0 where
  pub items : Items
  pub reads : IsRule deep_64 d end (SimpleItems behind_word) ts (Whole items rest)
  pub joins : all ≡ joined begun items

-- the items behind those begun, of which one is a word where that is true
abbrev pub ItemsRead : ℕ → ℕ → Bool → Items → Tokens → ℕ → Result (Items × ℕ) ParseFault → Type 0
ItemsRead d end b begun ts at (Ok v) =
    (at ≤ v.1) × (v.1 ≤ length ts) × ItemsGiven d end b begun (drop at ts) v.0 (drop v.1 ts)
ItemsRead d end b begun ts at (Err fault) = Caused (Stops d end (SimpleItems b) (drop at ts)) fault

-- how the items from one place on go on as those from a later one
pub record ItemsFrom (d end : ℕ) (b : Bool) (begun : Items) (ts : Tokens) (b2 : Bool) (now : Items) (ts2 : Tokens)
    : Type 0 where
  pub whole : (items : Items) (rest : Tokens) → IsRule deep_64 d end (SimpleItems b2) ts2 (Whole items rest)
      → ItemsGiven d end b begun ts (joined now items) rest
  pub stops : (fault : ParseFault) (rest : Tokens) → IsRule deep_64 d end (SimpleItems b2) ts2 (Stop fault rest)
      → IsRule deep_64 d end (SimpleItems b) ts (Stop fault rest)

-- the items begun and the one that stands there
abbrev pub ItemRead : ℕ → ℕ → Bool → Item → Items → Tokens → ℕ → Result (Items × ℕ) ParseFault → Type 0
ItemRead d end b item begun ts at (Ok v) =
    (at < v.1) × (v.1 ≤ length ts) × ItemsFrom d end b begun (drop at ts) (has_word b item) v.0 (drop v.1 ts)
ItemRead d end b item begun ts at (Err fault) = Caused (Stops d end (SimpleItems b) (drop at ts)) fault

-- ---- what the loops over members keep: how the members so far go on as those of what is left, also to a fault

-- the commands of a list
abbrev pub MembersFrom : ℕ → ℕ → Tokens → Tokens → List Command → Type 0
MembersFrom d end all ts xs = (q : Out (List Command)) → IsRule deep_64 d end More ts q
    → IsRule deep_64 d end Members all (turned (λ us. seq_of (xs ++ us)) q)

-- the commands of an and-or list behind the first
abbrev pub LinksFrom : ℕ → ℕ → Tokens → Tokens → Command → List Link → Type 0
LinksFrom d end all ts x xs = (q : Out (List Link)) → IsRule deep_64 d end Links ts q
    → IsRule deep_64 d end AndOr all (turned (λ us. chain_of x (xs ++ us)) q)

-- the commands of a pipeline
abbrev pub BarsFrom : ℕ → ℕ → Tokens → Tokens → List Command → Type 0
BarsFrom d end all ts xs = (q : Out (List Command)) → IsRule deep_64 d end Bars ts q
    → IsRule deep_64 d end Piped all (turned (λ us. pipe_of (place end all) (xs ++ us)) q)

-- the redirections of a compound command
abbrev pub RedirectsFrom : ℕ → ℕ → Tokens → Tokens → List Redirect → Type 0
RedirectsFrom d end all ts xs = (q : Out (List Redirect)) → IsRule deep_64 d end Redirects ts q
    → IsRule deep_64 d end Redirects all (turned (λ us. xs ++ us) q)

-- the words of a `for`
abbrev pub EachFrom : ℕ → ℕ → Tokens → Tokens → List Word → Type 0
EachFrom d end all ts xs = (q : Out (List Word)) → IsRule deep_64 d end Each ts q
    → IsRule deep_64 d end Each all (turned (λ us. xs ++ us) q)

-- the patterns of an arm of `case`
abbrev pub PatternsFrom : ℕ → ℕ → Tokens → Tokens → List Word → Type 0
PatternsFrom d end all ts xs = (q : Out (List Word)) → IsRule deep_64 d end MorePatterns ts q
    → IsRule deep_64 d end Patterns all (turned (λ us. xs ++ us) q)

-- the arms of a `case`
abbrev pub CaseArmsFrom : ℕ → ℕ → Tokens → Tokens → List CaseArm → Type 0
CaseArmsFrom d end all ts xs = (q : Out (List CaseArm)) → IsRule deep_64 d end CaseArms ts q
    → IsRule deep_64 d end CaseArms all (turned (λ us. xs ++ us) q)

-- first arms of an `if` before its others and its `else`
abbrev pub armed : List IfArm → List IfArm × Option Command → List IfArm × Option Command
armed xs v = (xs ++ v.0, v.1)

-- the arms of an `if`
abbrev pub ArmsFrom : ℕ → ℕ → Tokens → Tokens → List IfArm → Type 0
ArmsFrom d end all ts xs = (q : Out (List IfArm × Option Command)) → IsRule deep_64 d end Arms ts q
    → IsRule deep_64 d end Clause all (turned (armed xs) q)

-- the condition and the body of an arm of an `if`, before others
abbrev pub ArmRead : ℕ → ℕ → Tokens → ℕ → Result ((Command × Command) × ℕ) ParseFault → Type 0
ArmRead d end ts at (Ok v) =
    (at ≤ v.1) × (v.1 ≤ length ts) × ArmsFrom d end (drop at ts) (drop v.1 ts) (if_arm v.0.0 v.0.1 ∷ [])
ArmRead d end ts at (Err fault) = Caused (Stops d end Clause (drop at ts)) fault

-- the patterns and the body of an arm of a `case`
abbrev pub CaseArmRead : ℕ → ℕ → Tokens → ℕ → Result ((List Word × Command) × ℕ) ParseFault → Type 0
CaseArmRead d end ts at (Ok v) = (at ≤ v.1) × (v.1 ≤ length ts)
    × IsRule deep_64 d end OneArm (drop at ts) (Whole (case_arm v.0.0 v.0.1) (drop v.1 ts))
CaseArmRead d end ts at (Err fault) = Caused (Stops d end OneArm (drop at ts)) fault
