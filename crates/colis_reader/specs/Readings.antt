-- What a nested text is read as, in each place where it may stand. The reading is loose: a word that is not known, a
-- number that does not fit and a member that lacks are read as something, and further members are passed over. What is
-- read so has another text, by which a reader finds it out.
use Rattle.std.specs.Prelude.{ℕ, ◌-◌, ◌^◌, ◌==◌, false, List, [], ◌∷◌, map, take, length, codes, unwrap_or}
use Rattle.std.specs.Prelude.{slice_index_or, if◌then◌else◌}
use Rattle.std.specs.Str.{bytes_eq}
use Rattle.script_names.specs.declared.reason.Reason.{Reason}
use Rattle.script_names.specs.declared.reason.Reason.TheVariants as reason
use Rattle.shown_texts.specs.Show.{shown_of}
use Rattle.shown_texts.specs.Numbers.{number_of}
use Rattle.shown_texts.specs.Marks.{reason_of}
use Rattle.colis_syntax.specs.declared.syntax.Stmt.{Stmt}
use Rattle.colis_syntax.specs.declared.syntax.Stmt.TheVariants as v
use Rattle.colis_syntax.specs.declared.syntax.Str.{Str}
use Rattle.colis_syntax.specs.declared.syntax.Str.TheVariants as sv
use Rattle.colis_syntax.specs.declared.syntax.StrPiece.{StrPiece}
use Rattle.colis_syntax.specs.declared.syntax.StrPiece.TheVariants as pv
use Rattle.colis_syntax.specs.declared.syntax.Fields.{Fields}
use Rattle.colis_syntax.specs.declared.syntax.Fields.TheVariants as fv
use Rattle.colis_syntax.specs.declared.syntax.SetTo.{SetTo}
use Rattle.colis_syntax.specs.declared.syntax.ChainPart.{ChainPart}
use Rattle.colis_syntax.specs.declared.syntax.StmtArm.{StmtArm}
use Rattle.colis_syntax.specs.declared.syntax.PatArm.{PatArm}
use Rattle.colis_syntax.specs.declared.def.Def.{Def}
use Rattle.colis_syntax.specs.WellFormed.{ProgramParts}
use Rattle.colis_reader.specs.declared.nest.Nest.{Nest}
use Rattle.colis_reader.specs.declared.nest.Nest.TheOpen as o
use Rattle.colis_reader.specs.declared.nest.Nest.TheFolds.{fold-Nest}
use Rattle.colis_reader.specs.Nesting.{nests_of}

-- what a part of a text is read as where a word, a string, a piece of a word, the pieces of a pattern, patterns, what
-- gives fields, a list of that, a statement, an assignment, a member of an and-or list, an arm of `if`, an arm of
-- `case`, a function, or a program is wanted
pub record Read : Type 0 where
  pub word : List ℕ
  pub string : Str
  pub piece : StrPiece
  pub pieces : List StrPiece
  pub patterns : List (List StrPiece)
  pub field : Fields
  pub fields : List Fields
  pub stmt : Stmt
  pub set : SetTo
  pub part : ChainPart
  pub arm : StmtArm
  pub pat_arm : PatArm
  pub def : Def
  pub program : ProgramParts

-- ---- words

-- a number below 2 ^ 32
unfoldable pub number_in : List ℕ → ℕ
number_in word = unwrap_or (number_of (2 ^ 32 - 1) word) 0

-- the number of an argument
unfoldable pub argument_in : List ℕ → ℕ
argument_in word = unwrap_or (number_of 255 word) 0

-- bytes, by their spelling
unfoldable pub bytes_in : List ℕ → List ℕ
bytes_in word = unwrap_or (shown_of word) []

-- a reason, by its name
unfoldable pub reason_in : List ℕ → Reason
reason_in word = unwrap_or (reason_of word) reason.Call

-- a string of bytes: a byte, which is to be `=`, and their spelling
unfoldable pub literal_in : List ℕ → Str
literal_in [] = sv.Count
literal_in (byte ∷ word) = sv.Lit (bytes_in word)

-- ---- lists

-- what a member that lacks is read as
unfoldable pub nothing : Read
nothing = record {
  word = [];
  string = sv.Count;
  piece = pv.Split sv.Count;
  pieces = [];
  patterns = [];
  field = fv.Args;
  fields = [];
  stmt = v.Skip;
  set = record { name = []; value = sv.Count };
  part = record { and = false; stmt = v.Skip };
  arm = record { cond = v.Skip; body = v.Skip };
  pat_arm = record { patterns = []; body = v.Skip };
  def = record { name = []; body = v.Skip };
  program = record { strict = false; defs = []; body = v.Skip };
}

-- the member at a place, counted from 0
abbrev pub member : List Read → ℕ → Read
member rs at = slice_index_or rs at nothing

-- the members behind the first
abbrev pub behind : List Read → List Read
behind [] = []
behind (r ∷ rs) = rs

-- the members before the last
abbrev pub but_last : List Read → List Read
but_last rs = take (length rs - 1) rs

-- the last member
abbrev pub last : List Read → Read
last rs = member rs (length rs - 1)

-- a string, by the word that its list begins with and what stands behind it
unfoldable pub string_headed : List ℕ → List Read → Str
string_headed head rs =
    if bytes_eq head (codes "var") then sv.Var (bytes_in (member rs 0).word)
    else (if bytes_eq head (codes "arg") then sv.Arg (argument_in (member rs 0).word)
    else (if bytes_eq head (codes "or") then sv.Or (member rs 0).string (bytes_in (member rs 1).word)
    else (if bytes_eq head (codes "output") then sv.Output (member rs 0).stmt
    else (if bytes_eq head (codes "join") then sv.Join (map (λ r. r.string) rs)
    else sv.Count))))

-- a string: a word, or a list
abbrev pub string_from : List ℕ → List Read → Str
string_from word rs = if length word == 0 then string_headed (member rs 0).word (behind rs) else literal_in word

-- a piece of a word, from its word and its members
unfoldable pub piece_headed : List ℕ → List Read → StrPiece
piece_headed head rs =
    if bytes_eq head (codes "p") then pv.Plain (member rs 0).string
    else (if bytes_eq head (codes "q") then pv.Quoted (member rs 0).string
    else pv.Split (member rs 0).string)

-- what gives fields
unfoldable pub field_headed : List ℕ → List Read → Fields
field_headed head rs = if bytes_eq head (codes "word") then fv.Word (map (λ r. r.piece) rs) else fv.Args

-- what calls a utility, or ends a shell or a function, or changes variables, from its word, its offset and what stands
-- behind that
unfoldable pub fields_headed : List ℕ → ℕ → List Read → Stmt
fields_headed head at rs =
    if bytes_eq head (codes "call") then v.Call at (map (λ r. r.field) rs)
    else (if bytes_eq head (codes "exit") then v.Exit at (map (λ r. r.field) rs)
    else (if bytes_eq head (codes "return") then v.Return at (map (λ r. r.field) rs)
    else (if bytes_eq head (codes "export") then v.Export at (map (λ r. r.field) rs)
    else (if bytes_eq head (codes "unset") then v.Unset at (map (λ r. r.field) rs)
    else v.Skip))))

-- the statements with an offset that have no list, and those above
unfoldable pub simple_headed : List ℕ → ℕ → List Read → Stmt
simple_headed head at rs =
    if bytes_eq head (codes "while") then v.While at (member rs 0).stmt (member rs 1).stmt
    else (if bytes_eq head (codes "sub") then v.Sub at (member rs 0).stmt
    else (if bytes_eq head (codes "err") then v.Err at (member rs 0).stmt
    else (if bytes_eq head (codes "stop") then v.Stop at (reason_in (member rs 0).word)
    else fields_headed head at rs)))

-- a statement with an offset
unfoldable pub sited_headed : List ℕ → ℕ → List Read → Stmt
sited_headed head at rs =
    if bytes_eq head (codes "set") then v.Set at (map (λ r. r.set) rs)
    else (if bytes_eq head (codes "fun") then v.Fun at (bytes_in (member rs 0).word) (map (λ r. r.field) (behind rs))
    else (if bytes_eq head (codes "for")
    then v.For at (bytes_in (member rs 0).word) (member rs 1).fields (member rs 2).stmt
    else (if bytes_eq head (codes "case")
    then v.Case at (member rs 0).string (map (λ r. r.pat_arm) (behind rs))
    else simple_headed head at rs)))

-- a statement with an offset, from its word and what stands behind it, the offset first
abbrev pub sited_from : List ℕ → List Read → Stmt
sited_from head rs = sited_headed head (number_in (member rs 0).word) (behind rs)

-- a statement of one word, or one with an offset
unfoldable pub word_headed : List ℕ → List Read → Stmt
word_headed head rs =
    if bytes_eq head (codes "strict") then v.Strict
    else (if bytes_eq head (codes "lax") then v.Lax
    else (if bytes_eq head (codes "break") then v.Break
    else (if bytes_eq head (codes "continue") then v.Continue
    else sited_from head rs)))

-- a statement, by the word that its list begins with and what stands behind it
unfoldable pub stmt_headed : List ℕ → List Read → Stmt
stmt_headed head rs =
    if bytes_eq head (codes "seq") then v.Seq (map (λ r. r.stmt) rs)
    else (if bytes_eq head (codes "chain") then v.Chain (member rs 0).stmt (map (λ r. r.part) (behind rs))
    else (if bytes_eq head (codes "not") then v.Not (member rs 0).stmt
    else (if bytes_eq head (codes "if") then v.If (map (λ r. r.arm) (but_last rs)) (last rs).stmt
    else (if bytes_eq head (codes "quiet") then v.Quiet (member rs 0).stmt
    else word_headed head rs))))

-- a part of a text, from its word and its members
unfoldable pub node_read : List ℕ → List Read → Read
node_read word rs = record {
  word = word;
  string = string_from word rs;
  piece = piece_headed (member rs 0).word (behind rs);
  pieces = map (λ r. r.piece) (behind rs);
  patterns = map (λ r. r.pieces) rs;
  field = field_headed (member rs 0).word (behind rs);
  fields = map (λ r. r.field) rs;
  stmt = stmt_headed (member rs 0).word (behind rs);
  set = record { name = bytes_in (member rs 0).word; value = (member rs 1).string };
  part = record { and = bytes_eq (member rs 0).word (codes "and"); stmt = (member rs 1).stmt };
  arm = record { cond = (member rs 0).stmt; body = (member rs 1).stmt };
  pat_arm = record { patterns = (member rs 0).patterns; body = (member rs 1).stmt };
  def = record { name = bytes_in (member rs 1).word; body = (member rs 2).stmt };
  program = record {
    strict = bytes_eq (member rs 1).word (codes "strict");
    defs = map (λ r. r.def) (but_last (behind (behind rs)));
    body = (last (behind (behind rs))).stmt;
  };
}

-- a part, from its word and what its members are read as
abbrev pub nest_layer : o.Nest-F Read → Read
nest_layer (o.Node word rs) = node_read word rs

-- what a part of a text is read as
unfoldable pub read : Nest → Read
read = fold-Nest Read nest_layer

-- parts of a text
abbrev pub reads : List Nest → List Read
reads nests = map read nests

-- what a text is read as
abbrev pub parts_of : List ℕ → ProgramParts
parts_of text = (member (reads (nests_of text)) 0).program
