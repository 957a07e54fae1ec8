-- Steps of words and their parts, and of assignments.
use Rattle.std.proofs.Common.{◌≡◌, ℕ, ◌+◌, ◌<◌, Bool, List, [], ◌∷◌, ◌++◌, Option, Some, None, refl, sym, ap, ◌∙◌, subst, drop, append-nil, append_assoc, add-one}
use Rattle.shell_grammar.specs.declared.fault.ParseFault.{ParseFault}
use Rattle.shell_grammar.specs.declared.fault.ParseFault.TheVariants.{Syntax, Deep, Memory}
use Rattle.shell_grammar.specs.declared.look.Look.TheVariants.{Assignment}
use Rattle.shell_syntax.specs.declared.syntax.Command.{Command}
use Rattle.shell_syntax.specs.declared.syntax.Word.{Word}
use Rattle.shell_syntax.specs.declared.syntax.Part.{Part}
use Rattle.shell_syntax.specs.declared.syntax.Assign.{Assign}
use Rattle.shell_lexer.specs.declared.token.RawPart.{RawPart, out-RawPart, out-roll-RawPart}
use Rattle.shell_grammar.specs.Look.{Text, Tokens, look, word, behind, place, up_to_equals}
use Rattle.shell_grammar.specs.Trees as tree
use Rattle.shell_grammar.specs.Grammar as g
use Rattle.shell_grammar.specs.Grammar.{Rule, Sign, Is, Opens, AWord, Here, Never, Of, Inside, Tree, Value, Values, Production, production}
use Rattle.shell_grammar.specs.Reading.{Whole, Stop, Judged, Faultless, Faulty, after, plainly, IsParts, no_parts, plain_part, run_part, run_stops, run_deep, IsRule, IsSign, a_word, a_word_stops, no_word}
use Rattle.shell_grammar.specs.Spelling.{deep_64}
use Rattle.shell_parser.specs.Reads.{Caused, Stops, Gives, SignStops}
use Rattle.shell_syntax.specs.declared.key.Key.{Key}
use Rattle.shell_syntax.specs.declared.syntax.Part.{out-Part, out-roll-Part}
use Rattle.shell_syntax.specs.declared.syntax.Part.TheVariants as part
use Rattle.shell_syntax.specs.declared.syntax.Command.TheOpen as o
use Rattle.shell_lexer.specs.declared.token.Token.{Token}
use Rattle.shell_lexer.specs.declared.token.TokenKind.{TokenKind, out-TokenKind}
use Rattle.shell_lexer.specs.declared.token.RawPart.TheVariants as rawv
use Rattle.shell_lexer.specs.declared.token.RawPart.TheOpen as raw
use Rattle.shell_grammar.specs.Look.{word_look, seen_look, none_left, kind_look, kind_word}
use Rattle.shell_parser.specs.Reads.{PartsGiven, PartsFrom, Assigns, raw_plain, raw_text}
use Rattle.shell_parser.proofs.Steps.{step_on, shallow}
use Rattle.shell_syntax.specs.declared.syntax.Assign.{roll-Assign}

abbrev pub assign_of : Text → Word → Assign
assign_of name value = roll-Assign (record { name = name; value = value })

-- ---- parts of a word

pub parts_begin : (d : ℕ) (begun now : List Part) (raws : List RawPart) → now ≡ begun → PartsFrom d begun raws now raws
parts_begin d begun now raws e = record { faultless = λ ps x. record { parts = ps; reads = x; joins = ap (λ l. l ++ ps) e }; faulty = λ f x. x }

pub parts_go : (d : ℕ) (begun now now2 : List Part) (all raws rest : List RawPart) (p : RawPart) (x : Part) → raws ≡ p ∷ rest → PartsFrom d begun all now raws → ((raws : List RawPart) (q : Judged) → IsParts deep_64 d raws q → IsParts deep_64 d (p ∷ raws) (after x q)) → now2 ≡ now ++ x ∷ [] → PartsFrom d begun all now2 rest
parts_go d begun now now2 all raws rest p x e inv h f = record { faultless = λ ps y. subst (PartsGiven d begun all) (sym (append_assoc now (x ∷ []) ps) ∙ ap (λ l. l ++ ps) (sym f)) (inv.faultless (x ∷ ps) (subst (λ raws. IsParts deep_64 d raws (Faultless (x ∷ ps))) (sym e) (h rest (Faultless ps) y))); faulty = λ k y. inv.faulty k (subst (λ raws. IsParts deep_64 d raws (Faulty k)) (sym e) (h rest (Faulty k) y)) }

pub parts_bad : (d : ℕ) (begun now : List Part) (all raws rest : List RawPart) (p : RawPart) → raws ≡ p ∷ rest → PartsFrom d begun all now raws → (fault : ParseFault) → Caused (λ f. (raws : List RawPart) → IsParts deep_64 d (p ∷ raws) (Faulty f)) fault → Caused (λ f. IsParts deep_64 d all (Faulty f)) fault
parts_bad d begun now all raws rest p e inv (Syntax at) h = inv.faulty _ (subst (λ raws. IsParts deep_64 d raws (Faulty (Syntax at))) (sym e) (h rest))
parts_bad d begun now all raws rest p e inv (Deep at) h = inv.faulty _ (subst (λ raws. IsParts deep_64 d raws (Faulty (Deep at))) (sym e) (h rest))
parts_bad d begun now all raws rest p e inv Memory h = tt

pub parts_end : (d : ℕ) (begun now : List Part) (all raws : List RawPart) → raws ≡ [] → PartsFrom d begun all now raws → PartsGiven d begun all now
parts_end d begun now all raws e inv = subst (PartsGiven d begun all) (append-nil now) (inv.faultless [] (subst (λ raws. IsParts deep_64 d raws (Faultless [])) (sym e) (no_parts refl)))

seen_plain : (w : List ℕ) → out-RawPart (rawv.Plain w) ≡ raw.Plain w
seen_plain w = ap out-RawPart (sym (rawv.rolls-Plain w)) ∙ out-roll-RawPart (raw.Plain w)

seen_quoted : (w : List ℕ) → out-RawPart (rawv.Quoted w) ≡ raw.Quoted w
seen_quoted w = ap out-RawPart (sym (rawv.rolls-Quoted w)) ∙ out-roll-RawPart (raw.Quoted w)

seen_param : (k : Key) (v : Option (List ℕ)) (b : Bool) → out-RawPart (rawv.Param k v b) ≡ raw.Param k v b
seen_param k v b = ap out-RawPart (sym (rawv.rolls-Param k v b)) ∙ out-roll-RawPart (raw.Param k v b)

seen_all : out-RawPart rawv.All ≡ raw.All
seen_all = ap out-RawPart (sym rawv.rolls-All) ∙ out-roll-RawPart raw.All

seen_run : (at : ℕ) (ts : Tokens) (b : Bool) → out-RawPart (rawv.Run at ts b) ≡ raw.Run at ts b
seen_run at ts b = ap out-RawPart (sym (rawv.rolls-Run at ts b)) ∙ out-roll-RawPart (raw.Run at ts b)

module _ (d : ℕ) (p : RawPart) where
  pub part_plain : (w w2 : List ℕ) → p ≡ rawv.Plain w → w2 ≡ w → (raws : List RawPart) (q : Judged) → IsParts deep_64 d raws q → IsParts deep_64 d (p ∷ raws) (after (part.Plain w2) q)
  part_plain w w2 e f raws q k = plain_part (part.Plain w2) q (ap plainly (ap out-RawPart e ∙ seen_plain w) ∙ ap (λ w. Some (part.Plain w)) (sym f)) k refl

  pub part_quoted : (w w2 : List ℕ) → p ≡ rawv.Quoted w → w2 ≡ w → (raws : List RawPart) (q : Judged) → IsParts deep_64 d raws q → IsParts deep_64 d (p ∷ raws) (after (part.Quoted w2) q)
  part_quoted w w2 e f raws q k = plain_part (part.Quoted w2) q (ap plainly (ap out-RawPart e ∙ seen_quoted w) ∙ ap (λ w. Some (part.Quoted w)) (sym f)) k refl

  pub part_param : (n : Key) (v : Option (List ℕ)) (b : Bool) (x : Part) → p ≡ rawv.Param n v b → x ≡ part.Param n v b → (raws : List RawPart) (q : Judged) → IsParts deep_64 d raws q → IsParts deep_64 d (p ∷ raws) (after x q)
  part_param n v b x e f raws q k = plain_part x q (ap plainly (ap out-RawPart e ∙ seen_param n v b) ∙ ap Some (sym f)) k refl

  pub part_all : p ≡ rawv.All → (raws : List RawPart) (q : Judged) → IsParts deep_64 d raws q → IsParts deep_64 d (p ∷ raws) (after part.All q)
  part_all e raws q k = plain_part part.All q (ap plainly (ap out-RawPart e ∙ seen_all)) k refl

  pub part_run : (at : ℕ) (ts : Tokens) (b : Bool) (body : Command) → p ≡ rawv.Run at ts b → d < 64 → Gives (d + 1) at g.Script ts body → (raws : List RawPart) (q : Judged) → IsParts deep_64 d raws q → IsParts deep_64 d (p ∷ raws) (after (part.Run at body b) q)
  part_run at ts b body e lt y raws q k = run_part at ts b body y.rest q (ap out-RawPart e ∙ seen_run at ts b) (shallow d lt) (subst (λ d. IsRule deep_64 d at g.Script ts (Whole body y.rest)) (add-one d) y.reads) k refl

  pub part_deep : (at : ℕ) (ts : Tokens) (b : Bool) → p ≡ rawv.Run at ts b → d ≡ 64 → (raws : List RawPart) → IsParts deep_64 d (p ∷ raws) (Faulty (Deep at))
  part_deep at ts b e f raws = run_deep at ts b (ap out-RawPart e ∙ seen_run at ts b) (ap deep_64 f) refl

  run_bad : (at : ℕ) (ts : Tokens) (b : Bool) (h : ParseFault) → p ≡ rawv.Run at ts b → d < 64 → Stops (d + 1) at g.Script ts h → (raws : List RawPart) → IsParts deep_64 d (p ∷ raws) (Faulty h)
  run_bad at ts b h e lt x raws = run_stops at ts b h x.rest (ap out-RawPart e ∙ seen_run at ts b) (shallow d lt) (subst (λ d. IsRule deep_64 d at g.Script ts (Stop h x.rest)) (add-one d) x.reads) refl

  pub part_bad : (at : ℕ) (ts : Tokens) (b : Bool) → p ≡ rawv.Run at ts b → d < 64 → (fault : ParseFault) → Caused (Stops (d + 1) at g.Script ts) fault → Caused (λ f. (raws : List RawPart) → IsParts deep_64 d (p ∷ raws) (Faulty f)) fault
  part_bad at ts b e lt (Syntax n) x = run_bad at ts b _ e lt x
  part_bad at ts b e lt (Deep n) x = run_bad at ts b _ e lt x
  part_bad at ts b e lt Memory x = tt

-- ---- the word that stands at a place

pub word_ok : (d end : ℕ) (ts : Tokens) (at : ℕ) (raws : List RawPart) (none all : List Part) (n : ℕ) → word (drop at ts) ≡ Some raws → none ≡ [] → PartsGiven d none raws all → n ≡ place end (drop at ts) → IsSign deep_64 d end AWord (drop at ts) (Whole (tree.word_at n all) (drop (at + 1) ts))
word_ok d end ts at raws none all n e h x f =
    subst (λ ps. IsSign deep_64 d end AWord (drop at ts) (Whole (tree.word_at n ps) (drop (at + 1) ts))) (sym (x.joins ∙ ap (λ l. l ++ x.parts) h))
    (a_word raws x.parts e x.reads (ap (λ n. Whole (tree.word_at n x.parts) (drop (at + 1) ts)) f ∙ ap (Whole (tree.word_at (place end (drop at ts)) x.parts)) (sym (step_on ts at))))

pub word_bad : (d end : ℕ) (ts : Tokens) (raws : List RawPart) → word ts ≡ Some raws → (fault : ParseFault) → Caused (λ f. IsParts deep_64 d raws (Faulty f)) fault → Caused (SignStops d end AWord ts) fault
word_bad d end ts raws e (Syntax n) x = record { rest = behind ts; reads = a_word_stops raws (Syntax n) e x refl }
word_bad d end ts raws e (Deep n) x = record { rest = behind ts; reads = a_word_stops raws (Deep n) e x refl }
word_bad d end ts raws e Memory x = tt

pub word_none : (d end : ℕ) (ts : Tokens) (n : ℕ) → word ts ≡ None → n ≡ place end ts → SignStops d end AWord ts (Syntax n)
word_none d end ts n e f = record { rest = ts; reads = no_word e (ap (λ n. Stop (Syntax n) ts) f) }

-- ---- an assignment: its word begins with a plain part

seen_assigns : (p : raw.RawPart-F RawPart TokenKind Token) (alone : Bool) → seen_look p alone ≡ Assignment → p ≡ raw.Plain (raw_plain p)
seen_assigns (raw.Plain w) alone e = refl
seen_assigns _ alone e = absurd (cc e)

kind_raws : (k : raw.TokenKind-F RawPart TokenKind Token) (raws : List RawPart) → kind_word k ≡ Some raws → kind_look k ≡ word_look raws
kind_raws (raw.Word ps) raws e = ap word_look (cc e)
kind_raws _ raws e = absurd (cc e)

word_raws : (ts : Tokens) (raws : List RawPart) → word ts ≡ Some raws → look ts ≡ word_look raws
word_raws [] raws e = absurd (cc e)
word_raws (t ∷ ts) raws e = kind_raws (out-TokenKind t.kind) raws e

assign_faultless : (d : ℕ) (raws : List RawPart) (ps : List Part) → word_look raws ≡ Assignment → IsParts deep_64 d (tree.rest_of raws) (Faultless ps) → IsParts deep_64 d raws (Faultless (part.Plain (raw_text raws) ∷ ps))
assign_faultless d [] ps e x = absurd (cc e)
assign_faultless d (p ∷ rest) ps e x = plain_part (part.Plain (raw_plain (out-RawPart p))) (Faultless ps) (ap plainly (seen_assigns (out-RawPart p) (none_left rest) e)) x refl

assign_faulty : (d : ℕ) (raws : List RawPart) (f : ParseFault) → word_look raws ≡ Assignment → IsParts deep_64 d (tree.rest_of raws) (Faulty f) → IsParts deep_64 d raws (Faulty f)
assign_faulty d [] f e x = absurd (cc e)
assign_faulty d (p ∷ rest) f e x = plain_part (part.Plain (raw_plain (out-RawPart p))) (Faulty f) (ap plainly (seen_assigns (out-RawPart p) (none_left rest) e)) x refl

pub assign_bad : (d end : ℕ) (ts : Tokens) (raws rest : List RawPart) → look ts ≡ Assignment → word ts ≡ Some raws → rest ≡ tree.rest_of raws → (fault : ParseFault) → Caused (λ f. IsParts deep_64 d rest (Faulty f)) fault → Caused (SignStops d end AWord ts) fault
assign_bad d end ts raws rest l e r (Syntax n) x = record { rest = behind ts; reads = a_word_stops raws (Syntax n) e (assign_faulty d raws (Syntax n) (sym (word_raws ts raws e) ∙ l) (subst (λ rest. IsParts deep_64 d rest (Faulty (Syntax n))) r x)) refl }
assign_bad d end ts raws rest l e r (Deep n) x = record { rest = behind ts; reads = a_word_stops raws (Deep n) e (assign_faulty d raws (Deep n) (sym (word_raws ts raws e) ∙ l) (subst (λ rest. IsParts deep_64 d rest (Faulty (Deep n))) r x)) refl }
assign_bad d end ts raws rest l e r Memory x = tt

seen_text : (w : Text) (ps : List Part) → tree.first_text (part.Plain w ∷ ps) ≡ w
seen_text w ps = ap tree.plain_text (ap out-Part (sym (part.rolls-Plain w)) ∙ out-roll-Part (o.Plain w))

assigned_at : (n : ℕ) (w : Text) (ps : List Part) → tree.assigned (tree.word_at n (part.Plain w ∷ ps)) ≡ assign_of (up_to_equals w) (tree.word_at n (tree.plain_part_of (tree.behind_equals w) ++ ps))
assigned_at n w ps = ap (λ t. assign_of (up_to_equals t) (tree.word_at n (tree.plain_part_of (tree.behind_equals t) ++ ps))) (seen_text w ps)

-- the name and the value as the code makes them
pub assign_ok : (d end : ℕ) (ts : Tokens) (at : ℕ) (raws rest : List RawPart) (text name value : Text) (begun all : List Part) (n : ℕ)
    → look (drop at ts) ≡ Assignment → word (drop at ts) ≡ Some raws → rest ≡ tree.rest_of raws → text ≡ raw_text raws → name ≡ up_to_equals text → value ≡ tree.behind_equals text → begun ≡ tree.plain_part_of value
    → PartsGiven d begun rest all → n ≡ place end (drop at ts) → Assigns d end (drop at ts) (assign_of name (tree.word_at n all)) (drop (at + 1) ts)
assign_ok d end ts at raws rest text name value begun all n l e r t u v b x f = record {
  word = tree.word_at n (part.Plain (raw_text raws) ∷ x.parts);
  reads = a_word raws (part.Plain (raw_text raws) ∷ x.parts) e (assign_faultless d raws x.parts (sym (word_raws (drop at ts) raws e) ∙ l) (subst (λ rest. IsParts deep_64 d rest (Faultless x.parts)) r x.reads)) (ap (λ n. Whole (tree.word_at n (part.Plain (raw_text raws) ∷ x.parts)) (drop (at + 1) ts)) f ∙ ap (Whole (tree.word_at (place end (drop at ts)) (part.Plain (raw_text raws) ∷ x.parts))) (sym (step_on ts at)));
  assigns = ap (λ l. assign_of name (tree.word_at n l)) (x.joins ∙ ap (λ l. l ++ x.parts) (b ∙ ap tree.plain_part_of (v ∙ ap tree.behind_equals t))) ∙ ap (λ m. assign_of m (tree.word_at n (tree.plain_part_of (tree.behind_equals (raw_text raws)) ++ x.parts))) (u ∙ ap up_to_equals t) ∙ sym (assigned_at n (raw_text raws) x.parts);
}
