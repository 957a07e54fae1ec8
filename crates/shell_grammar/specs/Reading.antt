-- How the grammar reads tokens: one relation for every table, with the value and the tokens behind it, or the first
-- fault.
use Rattle.std.specs.Prelude.{◌≡◌, ℕ, suc, Bool, true, false, List, [], ◌∷◌, ◌++◌, Option, Some, None}
use Rattle.shell_syntax.specs.declared.syntax.Command.{Command}
use Rattle.shell_syntax.specs.declared.syntax.Part.{Part}
use Rattle.shell_syntax.specs.declared.syntax.Part.TheVariants as part
use Rattle.shell_lexer.specs.declared.token.Token.{Token}
use Rattle.shell_lexer.specs.declared.token.TokenKind.{TokenKind}
use Rattle.shell_lexer.specs.declared.token.RawPart.{RawPart, out-RawPart}
use Rattle.shell_lexer.specs.declared.token.RawPart.TheOpen as raw
use Rattle.shell_grammar.specs.declared.fault.ParseFault.{ParseFault}
use Rattle.shell_grammar.specs.declared.fault.ParseFault.TheVariants.{Syntax, Deep}
use Rattle.shell_grammar.specs.declared.look.Look.{Look}
use Rattle.shell_grammar.specs.Look.{Tokens, look, word, behind, place}
use Rattle.shell_grammar.specs.Grammar.{Rule, Script, Sign, Is, Opens, AWord, Here, Never, Of, Inside, Tree, Value}
use Rattle.shell_grammar.specs.Grammar.{Values, production}
use Rattle.shell_grammar.specs.Trees.{word_at}

-- what is read, with the tokens behind it; or the first fault, with the tokens from where it was met
pub data Out (A : Type 0) : Type 0 where
  Whole : (value : A) (rest : Tokens) → Out A
  Stop : (fault : ParseFault) (rest : Tokens) → Out A

-- what is read, turned into something else; a fault stays
abbrev pub turned : {A B : Type 0} → (A → B) → Out A → Out B
turned f (Whole a rest) = Whole (f a) rest
turned f (Stop fault rest) = Stop fault rest

-- the parts of a word, or the first fault in them
pub data Judged : Type 0 where
  Faultless : (parts : List Part) → Judged
  Faulty : (fault : ParseFault) → Judged

-- one part before the others
abbrev pub after : Part → Judged → Judged
after p (Faultless ps) = Faultless (p ∷ ps)
after p (Faulty fault) = Faulty fault

-- some first parts before the others
abbrev pub afters : List Part → Judged → Judged
afters first (Faultless ps) = Faultless (first ++ ps)
afters first (Faulty fault) = Faulty fault

-- a part that holds no substitution
abbrev pub plainly : raw.RawPart-F RawPart TokenKind Token → Option Part
plainly (raw.Plain w) = Some (part.Plain w)
plainly (raw.Quoted w) = Some (part.Quoted w)
plainly (raw.Param key default quoted) = Some (part.Param key default quoted)
plainly raw.All = Some part.All
plainly (raw.Run at ts quoted) = None

-- Readings inside so many levels, of tokens that end at an offset. `deep` says of each count of levels whether
-- another is too deep.
module _ (deep : ℕ → Bool) where
  mutual
    -- a rule is what its production is, which the first token chooses
    pub data IsRule : ℕ → ℕ → (n : Rule) → Tokens → Out (Tree n) → Type 0 where
      rule : {d end : ℕ} {n : Rule} {ts : Tokens} {q : Out (Tree n)} (q1 : Out (Values (production n (look ts)).signs))
          → IsAll d end (production n (look ts)).signs ts q1 → q ≡ turned (production n (look ts)).tree q1
          → IsRule d end n ts q

    -- one sign after the other
    pub data IsAll : ℕ → ℕ → (ss : List Sign) → Tokens → Out (Values ss) → Type 0 where
      no_more : {d end : ℕ} {ts : Tokens} {q : Out (Values [])} → q ≡ Whole tt ts → IsAll d end [] ts q
      one_more : {d end : ℕ} {s : Sign} {ss : List Sign} {ts : Tokens} {q : Out (Values (s ∷ ss))} (v : Value s)
          (rest : Tokens) (q1 : Out (Values ss))
          → IsSign d end s ts (Whole v rest) → IsAll d end ss rest q1 → q ≡ turned (λ vs. (v, vs)) q1
          → IsAll d end (s ∷ ss) ts q
      one_stops : {d end : ℕ} {s : Sign} {ss : List Sign} {ts : Tokens} {q : Out (Values (s ∷ ss))}
          (fault : ParseFault) (rest : Tokens)
          → IsSign d end s ts (Stop fault rest) → q ≡ Stop fault rest → IsAll d end (s ∷ ss) ts q

    pub data IsSign : ℕ → ℕ → (s : Sign) → Tokens → Out (Value s) → Type 0 where
      is : {d end : ℕ} {l : Look} {ts : Tokens} {q : Out (Value (Is l))} → look ts ≡ l
          → q ≡ Whole (place end ts) (behind ts) → IsSign d end (Is l) ts q
      is_not : {d end : ℕ} {l : Look} {ts : Tokens} {q : Out (Value (Is l))} → (look ts ≡ l → ⊥)
          → q ≡ Stop (Syntax (place end ts)) ts → IsSign d end (Is l) ts q
      opens : {d end : ℕ} {l : Look} {ts : Tokens} {q : Out (Value (Opens l))} → look ts ≡ l → deep d ≡ false
          → q ≡ Whole (place end ts) (behind ts) → IsSign d end (Opens l) ts q
      opens_not : {d end : ℕ} {l : Look} {ts : Tokens} {q : Out (Value (Opens l))} → (look ts ≡ l → ⊥)
          → q ≡ Stop (Syntax (place end ts)) ts → IsSign d end (Opens l) ts q
      too_deep : {d end : ℕ} {l : Look} {ts : Tokens} {q : Out (Value (Opens l))} → look ts ≡ l → deep d ≡ true
          → q ≡ Stop (Deep (place end ts)) ts → IsSign d end (Opens l) ts q
      a_word : {d end : ℕ} {ts : Tokens} {q : Out (Value AWord)} (raws : List RawPart) (ps : List Part)
          → word ts ≡ Some raws → IsParts d raws (Faultless ps) → q ≡ Whole (word_at (place end ts) ps) (behind ts)
          → IsSign d end AWord ts q
      a_word_stops : {d end : ℕ} {ts : Tokens} {q : Out (Value AWord)} (raws : List RawPart) (fault : ParseFault)
          → word ts ≡ Some raws → IsParts d raws (Faulty fault) → q ≡ Stop fault (behind ts)
          → IsSign d end AWord ts q
      no_word : {d end : ℕ} {ts : Tokens} {q : Out (Value AWord)} → word ts ≡ None
          → q ≡ Stop (Syntax (place end ts)) ts → IsSign d end AWord ts q
      here : {d end : ℕ} {ts : Tokens} {q : Out (Value Here)} → q ≡ Whole (place end ts) ts → IsSign d end Here ts q
      never : {d end : ℕ} {ts : Tokens} {q : Out (Value Never)} → q ≡ Stop (Syntax (place end ts)) ts
          → IsSign d end Never ts q
      of : {d end : ℕ} {n : Rule} {ts : Tokens} {q : Out (Value (Of n))} → IsRule d end n ts q
          → IsSign d end (Of n) ts q
      inside : {d end : ℕ} {n : Rule} {ts : Tokens} {q : Out (Value (Inside n))} → IsRule (suc d) end n ts q
          → IsSign d end (Inside n) ts q

    -- the parts of a word; the tokens of a substitution are a script, one level further in, and end at the
    -- substitution's offset
    pub data IsParts : ℕ → List RawPart → Judged → Type 0 where
      no_parts : {d : ℕ} {q : Judged} → q ≡ Faultless [] → IsParts d [] q
      plain_part : {d : ℕ} {p : RawPart} {ps : List RawPart} {q : Judged} (x : Part) (q1 : Judged)
          → plainly (out-RawPart p) ≡ Some x → IsParts d ps q1 → q ≡ after x q1 → IsParts d (p ∷ ps) q
      run_part : {d : ℕ} {p : RawPart} {ps : List RawPart} {q : Judged} (at : ℕ) (ts : Tokens) (quoted : Bool)
          (body : Command) (rest : Tokens) (q1 : Judged)
          → out-RawPart p ≡ raw.Run at ts quoted → deep d ≡ false
          → IsRule (suc d) at Script ts (Whole body rest) → IsParts d ps q1
          → q ≡ after (part.Run at body quoted) q1 → IsParts d (p ∷ ps) q
      run_stops : {d : ℕ} {p : RawPart} {ps : List RawPart} {q : Judged} (at : ℕ) (ts : Tokens) (quoted : Bool)
          (fault : ParseFault) (rest : Tokens)
          → out-RawPart p ≡ raw.Run at ts quoted → deep d ≡ false
          → IsRule (suc d) at Script ts (Stop fault rest) → q ≡ Faulty fault → IsParts d (p ∷ ps) q
      run_deep : {d : ℕ} {p : RawPart} {ps : List RawPart} {q : Judged} (at : ℕ) (ts : Tokens) (quoted : Bool)
          → out-RawPart p ≡ raw.Run at ts quoted → deep d ≡ true → q ≡ Faulty (Deep at) → IsParts d (p ∷ ps) q
