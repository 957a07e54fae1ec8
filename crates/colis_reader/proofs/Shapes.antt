-- Which part of a nested text each construct's text is.
use Rattle.std.proofs.Common.{◌≡◌, ℕ, ◌-◌, ◌^◌, true, nat_le, List, [], ◌∷◌, ◌++◌, codes, decimal, refl, arith}
use Rattle.std.proofs.lemmas.Bool.{leb-true}
use Rattle.script_names.specs.declared.reason.Reason.{Reason}
use Rattle.script_names.specs.declared.reason.Reason.TheVariants as reason
use Rattle.shown_texts.specs.Show.{show, are_bytes}
use Rattle.shown_texts.specs.Marks.{reason_name}
use Rattle.colis_syntax.specs.ProgramText.{Text, group, at_group, one_text, at_text, lit_text, var_text, arg_text, or_text, fun_text, chain_text, if_text, for_text, while_text, case_text, stop_text, set_text_of, arm_text_of, pat_arm_text_of, def_text_of}
use Rattle.colis_reader.specs.declared.nest.Nest.{Nest}
use Rattle.colis_reader.specs.declared.nest.Nest.TheVariants.{Node}
use Rattle.colis_reader.specs.Representable.{fits}
use Rattle.colis_reader.proofs.Fills.{Fills, Adds, Opens, Begins, blank, filled, added, shut, within, within_first, show_fills, literal_fills, number_fills}

-- a word, and a list that begins with a word
abbrev pub leaf : Text → Nest
leaf word = Node word []

abbrev pub named : Text → List Nest → Nest
named word ns = Node [] (leaf word ∷ ns)

-- a member behind a space
pub next : (a t : Text) (ns ms : List Nest) → Opens a ns → Fills t ms → Opens (a ++ codes " " ++ t) (ns ++ ms)
next a t ns ms o f = filled (a ++ codes " ") t ns ms (blank a ns o) f

offset_fills : (at : ℕ) → fits at ≡ true → Fills (decimal at) (leaf (decimal at) ∷ [])
offset_fills at h = number_fills at (omega (arith, leb-true at (2 ^ 32 - 1) h))

-- what begins with a word and an offset
sited : (a w : Text) (at : ℕ) → Begins a (leaf w ∷ []) → fits at ≡ true → Opens (a ++ decimal at) (leaf w ∷ leaf (decimal at) ∷ [])
sited a w at b h = filled a (decimal at) (leaf w ∷ []) (leaf (decimal at) ∷ []) b (offset_fills at h)

-- ---- a lemma for each shape

-- a word alone in parentheses
pub alone_fills : (head w : Text) → Opens head (leaf w ∷ []) → Fills (head ++ codes ")") (named w [] ∷ [])
alone_fills head w o = shut head (leaf w ∷ []) o

pub group_fills : (head w members : Text) (ns : List Nest) → Opens head (leaf w ∷ []) → Adds members ns → Fills (group head members) (named w ns ∷ [])
unfolding group
group_fills head w members ns o a = shut (head ++ members) (leaf w ∷ ns) (added head members (leaf w ∷ []) ns o a)

pub at_group_fills : (head w : Text) (at : ℕ) (members : Text) (ns : List Nest) → Opens head (leaf w ∷ []) → fits at ≡ true → Adds members ns
    → Fills (at_group head at members) (named w (leaf (decimal at) ∷ ns) ∷ [])
unfolding at_group
at_group_fills head w at members ns o h a =
    shut (head ++ codes " " ++ decimal at ++ members) (leaf w ∷ leaf (decimal at) ∷ ns)
    (added (head ++ codes " " ++ decimal at) members (leaf w ∷ leaf (decimal at) ∷ []) ns
    (next head (decimal at) (leaf w ∷ []) (leaf (decimal at) ∷ []) o (offset_fills at h)) a)

pub one_text_fills : (head w member : Text) (n : Nest) → Opens head (leaf w ∷ []) → Fills member (n ∷ []) → Fills (one_text head member) (named w (n ∷ []) ∷ [])
unfolding one_text
one_text_fills head w member n o f = shut (head ++ codes " " ++ member) (leaf w ∷ n ∷ []) (next head member (leaf w ∷ []) (n ∷ []) o f)

pub at_text_fills : (head w : Text) (at : ℕ) (member : Text) (n : Nest) → Opens head (leaf w ∷ []) → fits at ≡ true → Fills member (n ∷ [])
    → Fills (at_text head at member) (named w (leaf (decimal at) ∷ n ∷ []) ∷ [])
unfolding at_text
at_text_fills head w at member n o h f =
    shut (head ++ codes " " ++ decimal at ++ codes " " ++ member) (leaf w ∷ leaf (decimal at) ∷ n ∷ [])
    (next (head ++ codes " " ++ decimal at) member (leaf w ∷ leaf (decimal at) ∷ []) (n ∷ [])
    (next head (decimal at) (leaf w ∷ []) (leaf (decimal at) ∷ []) o (offset_fills at h)) f)

pub lit_fills : (bytes : Text) → are_bytes bytes ≡ true → Fills (lit_text bytes) (leaf (61 ∷ show bytes) ∷ [])
unfolding lit_text
lit_fills bytes h = literal_fills bytes h

pub var_fills : (name : Text) → are_bytes name ≡ true → Fills (var_text name) (named (codes "var") (leaf (show name) ∷ []) ∷ [])
unfolding var_text
var_fills name h =
    shut (codes "(var " ++ show name) (leaf (codes "var") ∷ leaf (show name) ∷ [])
    (filled (codes "(var ") (show name) (leaf (codes "var") ∷ []) (leaf (show name) ∷ []) (λ top up. refl) (show_fills name h))

pub arg_fills : (number : ℕ) → nat_le number 255 ≡ true → Fills (arg_text number) (named (codes "arg") (leaf (decimal number) ∷ []) ∷ [])
unfolding arg_text
arg_fills number h =
    shut (codes "(arg " ++ decimal number) (leaf (codes "arg") ∷ leaf (decimal number) ∷ [])
    (filled (codes "(arg ") (decimal number) (leaf (codes "arg") ∷ []) (leaf (decimal number) ∷ []) (λ top up. refl) (number_fills number (omega (arith, leb-true number 255 h))))

pub or_fills : (first other : Text) (n : Nest) → Fills first (n ∷ []) → are_bytes other ≡ true → Fills (or_text first other) (named (codes "or") (n ∷ leaf (show other) ∷ []) ∷ [])
unfolding or_text
or_fills first other n f h =
    shut (codes "(or " ++ first ++ codes " " ++ show other) (leaf (codes "or") ∷ n ∷ leaf (show other) ∷ [])
    (next (codes "(or " ++ first) (show other) (leaf (codes "or") ∷ n ∷ []) (leaf (show other) ∷ [])
    (filled (codes "(or ") first (leaf (codes "or") ∷ []) (n ∷ []) (λ top up. refl) f) (show_fills other h))

pub fun_fills : (at : ℕ) (name fields : Text) (ns : List Nest) → fits at ≡ true → are_bytes name ≡ true → Adds fields ns
    → Fills (fun_text at name fields) (named (codes "fun") (leaf (decimal at) ∷ leaf (show name) ∷ ns) ∷ [])
unfolding fun_text
fun_fills at name fields ns h k a =
    shut (codes "(fun " ++ decimal at ++ codes " " ++ show name ++ fields) (leaf (codes "fun") ∷ leaf (decimal at) ∷ leaf (show name) ∷ ns)
    (added (codes "(fun " ++ decimal at ++ codes " " ++ show name) fields (leaf (codes "fun") ∷ leaf (decimal at) ∷ leaf (show name) ∷ []) ns
    (next (codes "(fun " ++ decimal at) (show name) (leaf (codes "fun") ∷ leaf (decimal at) ∷ []) (leaf (show name) ∷ [])
    (sited (codes "(fun ") (codes "fun") at (λ top up. refl) h) (show_fills name k)) a)

pub chain_fills : (first rest : Text) (n : Nest) (ns : List Nest) → Fills first (n ∷ []) → Adds rest ns → Fills (chain_text first rest) (named (codes "chain") (n ∷ ns) ∷ [])
unfolding chain_text
chain_fills first rest n ns f a =
    shut (codes "(chain " ++ first ++ rest) (leaf (codes "chain") ∷ n ∷ ns)
    (added (codes "(chain " ++ first) rest (leaf (codes "chain") ∷ n ∷ []) ns
    (filled (codes "(chain ") first (leaf (codes "chain") ∷ []) (n ∷ []) (λ top up. refl) f) a)

pub if_fills : (arms last : Text) (ns : List Nest) (n : Nest) → Adds arms ns → Fills last (n ∷ []) → Fills (if_text arms last) (named (codes "if") (ns ++ n ∷ []) ∷ [])
unfolding if_text
if_fills arms last ns n a f =
    shut (codes "(if" ++ arms ++ codes " " ++ last) (leaf (codes "if") ∷ (ns ++ n ∷ []))
    (next (codes "(if" ++ arms) last (leaf (codes "if") ∷ ns) (n ∷ [])
    (added (codes "(if") arms (leaf (codes "if") ∷ []) ns (λ top up. refl) a) f)

pub for_fills : (at : ℕ) (name fields body : Text) (ns : List Nest) (n : Nest) → fits at ≡ true → are_bytes name ≡ true → Fills fields ns → Fills body (n ∷ [])
    → Fills (for_text at name fields body) (named (codes "for") (leaf (decimal at) ∷ leaf (show name) ∷ Node [] ns ∷ n ∷ []) ∷ [])
unfolding for_text
for_fills at name fields body ns n h k f g =
    let head = codes "(for " ++ decimal at ++ codes " " ++ show name in
    let members = leaf (codes "for") ∷ leaf (decimal at) ∷ leaf (show name) ∷ [] in
    shut (head ++ codes " (" ++ fields ++ codes ") " ++ body) (leaf (codes "for") ∷ leaf (decimal at) ∷ leaf (show name) ∷ Node [] ns ∷ n ∷ [])
    (filled (head ++ codes " (" ++ fields ++ codes ") ") body (leaf (codes "for") ∷ leaf (decimal at) ∷ leaf (show name) ∷ Node [] ns ∷ []) (n ∷ [])
    (within head fields members ns
    (next (codes "(for " ++ decimal at) (show name) (leaf (codes "for") ∷ leaf (decimal at) ∷ []) (leaf (show name) ∷ [])
    (sited (codes "(for ") (codes "for") at (λ top up. refl) h) (show_fills name k)) f) g)

pub while_fills : (at : ℕ) (cond body : Text) (m n : Nest) → fits at ≡ true → Fills cond (m ∷ []) → Fills body (n ∷ [])
    → Fills (while_text at cond body) (named (codes "while") (leaf (decimal at) ∷ m ∷ n ∷ []) ∷ [])
unfolding while_text
while_fills at cond body m n h f g =
    shut (codes "(while " ++ decimal at ++ codes " " ++ cond ++ codes " " ++ body) (leaf (codes "while") ∷ leaf (decimal at) ∷ m ∷ n ∷ [])
    (next (codes "(while " ++ decimal at ++ codes " " ++ cond) body (leaf (codes "while") ∷ leaf (decimal at) ∷ m ∷ []) (n ∷ [])
    (next (codes "(while " ++ decimal at) cond (leaf (codes "while") ∷ leaf (decimal at) ∷ []) (m ∷ [])
    (sited (codes "(while ") (codes "while") at (λ top up. refl) h) f) g)

pub case_fills : (at : ℕ) (subject arms : Text) (n : Nest) (ns : List Nest) → fits at ≡ true → Fills subject (n ∷ []) → Adds arms ns
    → Fills (case_text at subject arms) (named (codes "case") (leaf (decimal at) ∷ n ∷ ns) ∷ [])
unfolding case_text
case_fills at subject arms n ns h f a =
    shut (codes "(case " ++ decimal at ++ codes " " ++ subject ++ arms) (leaf (codes "case") ∷ leaf (decimal at) ∷ n ∷ ns)
    (added (codes "(case " ++ decimal at ++ codes " " ++ subject) arms (leaf (codes "case") ∷ leaf (decimal at) ∷ n ∷ []) ns
    (next (codes "(case " ++ decimal at) subject (leaf (codes "case") ∷ leaf (decimal at) ∷ []) (n ∷ [])
    (sited (codes "(case ") (codes "case") at (λ top up. refl) h) f) a)

reason_fills : (r : Reason) → Fills (reason_name r) (leaf (reason_name r) ∷ [])
reason_fills reason.Call = λ top up. refl
reason_fills reason.Echo = λ top up. refl
reason_fills reason.Link = λ top up. refl
reason_fills reason.Slash = λ top up. refl
reason_fills reason.Root = λ top up. refl
reason_fills reason.Empty = λ top up. refl
reason_fills reason.DotDot = λ top up. refl
reason_fills reason.Dot = λ top up. refl
reason_fills reason.Long = λ top up. refl
reason_fills reason.Glob = λ top up. refl
reason_fills reason.Pattern = λ top up. refl
reason_fills reason.Pipe = λ top up. refl
reason_fills reason.Message = λ top up. refl
reason_fills reason.Strict = λ top up. refl
reason_fills reason.Status = λ top up. refl
reason_fills reason.Run = λ top up. refl
reason_fills reason.Same = λ top up. refl
reason_fills reason.Conffile = λ top up. refl
reason_fills reason.Restore = λ top up. refl

pub stop_fills : (at : ℕ) (r : Reason) → fits at ≡ true → Fills (stop_text at r) (named (codes "stop") (leaf (decimal at) ∷ leaf (reason_name r) ∷ []) ∷ [])
unfolding stop_text
stop_fills at r h =
    shut (codes "(stop " ++ decimal at ++ codes " " ++ reason_name r) (leaf (codes "stop") ∷ leaf (decimal at) ∷ leaf (reason_name r) ∷ [])
    (next (codes "(stop " ++ decimal at) (reason_name r) (leaf (codes "stop") ∷ leaf (decimal at) ∷ []) (leaf (reason_name r) ∷ [])
    (sited (codes "(stop ") (codes "stop") at (λ top up. refl) h) (reason_fills r))

pub set_fills : (name value : Text) (n : Nest) → are_bytes name ≡ true → Fills value (n ∷ []) → Fills (set_text_of name value) (Node [] (leaf (show name) ∷ n ∷ []) ∷ [])
unfolding set_text_of
set_fills name value n h f =
    shut (codes "(" ++ show name ++ codes " " ++ value) (leaf (show name) ∷ n ∷ [])
    (next (codes "(" ++ show name) value (leaf (show name) ∷ []) (n ∷ [])
    (filled (codes "(") (show name) [] (leaf (show name) ∷ []) (λ top up. refl) (show_fills name h)) f)

pub arm_fills : (cond body : Text) (m n : Nest) → Fills cond (m ∷ []) → Fills body (n ∷ []) → Fills (arm_text_of cond body) (Node [] (m ∷ n ∷ []) ∷ [])
unfolding arm_text_of
arm_fills cond body m n f g =
    shut (codes "(" ++ cond ++ codes " " ++ body) (m ∷ n ∷ [])
    (next (codes "(" ++ cond) body (m ∷ []) (n ∷ []) (filled (codes "(") cond [] (m ∷ []) (λ top up. refl) f) g)

pub pat_arm_fills : (patterns body : Text) (ms : List Nest) (n : Nest) → Fills patterns ms → Fills body (n ∷ []) → Fills (pat_arm_text_of patterns body) (Node [] (Node [] ms ∷ n ∷ []) ∷ [])
unfolding pat_arm_text_of
pat_arm_fills patterns body ms n f g =
    shut (codes "((" ++ patterns ++ codes ") " ++ body) (Node [] ms ∷ n ∷ [])
    (filled (codes "((" ++ patterns ++ codes ") ") body (Node [] ms ∷ []) (n ∷ []) (within_first patterns ms f) g)

pub def_fills : (name body : Text) (n : Nest) → are_bytes name ≡ true → Fills body (n ∷ []) → Fills (def_text_of name body) (named (codes "def") (leaf (show name) ∷ n ∷ []) ∷ [])
unfolding def_text_of
def_fills name body n h f =
    shut (codes "(def " ++ show name ++ codes " " ++ body) (leaf (codes "def") ∷ leaf (show name) ∷ n ∷ [])
    (next (codes "(def " ++ show name) body (leaf (codes "def") ∷ leaf (show name) ∷ []) (n ∷ [])
    (filled (codes "(def ") (show name) (leaf (codes "def") ∷ []) (leaf (show name) ∷ []) (λ top up. refl) (show_fills name h)) f)
