-- The words of tokens that spell a script: printed, they are read as the same, and look as they did.
use Rattle.std.proofs.Common.{◌≡◌, ℕ, Bool, true, false, if◌then◌else◌, ◌||◌, eqb, List, [], ◌∷◌, ◌++◌, map, Option, Some, None, refl, sym, ap, ◌∙◌, subst}
use Rattle.std.proofs.lemmas.Bool.{eqb-true, and_parts}
use Rattle.std.specs.List.{list_any}
use Rattle.shell_syntax.specs.declared.syntax.Command.TheOpen as seen
use Rattle.shell_syntax.specs.declared.syntax.Part.{Part, out-Part, out-roll-Part}
use Rattle.shell_syntax.specs.declared.syntax.Part.TheVariants as part
use Rattle.shell_lexer.specs.declared.token.TokenKind.{out-TokenKind}
use Rattle.shell_lexer.specs.declared.token.RawPart.{RawPart, roll-RawPart, out-RawPart, roll-out-RawPart}
use Rattle.shell_lexer.specs.declared.token.RawPart.TheVariants as raw
use Rattle.shell_lexer.specs.declared.token.RawPart.TheOpen as o
use Rattle.token_laws.specs.LongestRuns.{plain_runs_are_longest}
use Rattle.shell_grammar.specs.declared.look.Look.{Look}
use Rattle.shell_grammar.specs.declared.look.Look.TheVariants.{Name, Assignment, Other}
use Rattle.shell_grammar.specs.declared.look.Reserved.{Reserved}
use Rattle.shell_grammar.specs.Forms.{is_name_word}
use Rattle.script_names.specs.ShellNames.{is_shell_name}
use Rattle.shell_grammar.specs.Look.{Text, Tokens, look, word, behind, kind_look, kind_word, word_look, seen_look, begun_look, whole_look, reserved, begins_assignment, up_to_equals, none_left}
use Rattle.shell_grammar.specs.Reading.{plainly}
use Rattle.shell_grammar.specs.Trees.{word_at, word_text, plain_text, behind_equals, plain_part_of, assigned}
use Rattle.shell_grammar.proofs.Unique.{somes}
use Rattle.shell_lexer.proofs.PrintedBytes.{clash}
use Rattle.shell_printing.specs.Zeroed.{zeroed_part}
use Rattle.shell_printing.specs.PrintedTokens.{raw_of, word_raws, assign_raws, assign_seen, assign_parts}
use Rattle.shell_printing.proofs.PhraseLayers.{phrase_plain, phrase_quoted, phrase_param, phrase_all, phrase_the_assign, phrase_the_word}
use Rattle.shell_printing.proofs.ZeroedLayers.{zeroed_plain, zeroed_quoted, zeroed_param, zeroed_all}
use Rattle.shell_printing.proofs.ZeroedTokens.{SeenKind, seen_plain, seen_quoted, seen_param, seen_all}
use Rattle.shell_grammar.proofs.RunsLeftOut.{Seen as SeenPart}
use Rattle.shell_printing.specs.Runs.{RunsAreLongest, other_token, word_token, PartsAreLongest}
use Rattle.shell_printing.proofs.Nodes.{looks_so}

-- the bytes of a plain part
abbrev pub plain_of : SeenPart → Option Text
plain_of (o.Plain w) = Some w
plain_of _ = None

-- ---- a part without a substitution

-- its printed token's part is read as it, and is plain where it was
pub record Back (r : SeenPart) (x : Part) : Type 0 where
  pub reads : plainly (out-RawPart (raw_of x)) ≡ Some (zeroed_part x)
  pub same : plain_of (out-RawPart (raw_of x)) ≡ plain_of r
  pub text : (w : Text) → r ≡ o.Plain w → x ≡ part.Plain w

pub back : (r : SeenPart) (x : Part) → plainly r ≡ Some x → Back r x
back (o.Plain w) x e = subst (Back (o.Plain w)) (somes e) (record {
  reads = ap (λ p. plainly (out-RawPart p)) (phrase_plain w) ∙ ap plainly (seen_plain w) ∙ ap Some (sym (zeroed_plain w));
  same = ap (λ p. plain_of (out-RawPart p)) (phrase_plain w) ∙ ap plain_of (seen_plain w);
  text = λ v f. let g : w ≡ v = cc in ap part.Plain g;
})
back (o.Quoted w) x e = subst (Back (o.Quoted w)) (somes e) (record {
  reads = ap (λ p. plainly (out-RawPart p)) (phrase_quoted w) ∙ ap plainly (seen_quoted w) ∙ ap Some (sym (zeroed_quoted w));
  same = ap (λ p. plain_of (out-RawPart p)) (phrase_quoted w) ∙ ap plain_of (seen_quoted w);
  text = λ v f. absurd (cc f);
})
back (o.Param key default quoted) x e = subst (Back (o.Param key default quoted)) (somes e) (record {
  reads = ap (λ p. plainly (out-RawPart p)) (phrase_param key default quoted) ∙ ap plainly (seen_param key default quoted) ∙ ap Some (sym (zeroed_param key default quoted));
  same = ap (λ p. plain_of (out-RawPart p)) (phrase_param key default quoted) ∙ ap plain_of (seen_param key default quoted);
  text = λ v f. absurd (cc f);
})
back o.All x e = subst (Back o.All) (somes e) (record {
  reads = ap (λ p. plainly (out-RawPart p)) phrase_all ∙ ap plainly seen_all ∙ ap Some (sym zeroed_all);
  same = ap (λ p. plain_of (out-RawPart p)) phrase_all ∙ ap plain_of seen_all;
  text = λ v f. absurd (cc f);
})
back (o.Run at ts quoted) x e = absurd (cc e)

-- ---- parts that are plain where others are

pub data Alike : List RawPart → List RawPart → Type 0 where
  alike_none : Alike [] []
  alike_more : {p q : RawPart} {ps qs : List RawPart} → plain_of (out-RawPart q) ≡ plain_of (out-RawPart p) → Alike ps qs → Alike (p ∷ ps) (q ∷ qs)

abbrev text_look : Option Text → Bool → Look
text_look (Some w) true = whole_look w (reserved w)
text_look (Some w) false = begun_look w
text_look None alone = Other

by_text : (r : SeenPart) (alone : Bool) → seen_look r alone ≡ text_look (plain_of r) alone
by_text (o.Plain w) true = refl
by_text (o.Plain w) false = refl
by_text (o.Quoted w) alone = refl
by_text (o.Param key default quoted) alone = refl
by_text o.All alone = refl
by_text (o.Run at ts quoted) alone = refl

left_alike : {ps qs : List RawPart} → Alike ps qs → none_left qs ≡ none_left ps
left_alike alike_none = refl
left_alike (alike_more e m) = refl

pub look_alike : {ps qs : List RawPart} → Alike ps qs → word_look qs ≡ word_look ps
look_alike alike_none = refl
look_alike (alike_more {p = p} {q = q} {ps = ps} {qs = qs} e m) =
    by_text (out-RawPart q) (none_left qs) ∙ ap (λ b. text_look (plain_of (out-RawPart q)) b) (left_alike m) ∙ ap (λ t. text_look t (none_left ps)) e ∙ sym (by_text (out-RawPart p) (none_left ps))

-- ---- words that are names

pub record Single (raws : List RawPart) : Type 0 where
  pub text : Text
  pub part : RawPart
  pub is : raws ≡ part ∷ []
  pub plain : out-RawPart part ≡ o.Plain text
  pub looks : looks_so (λ n. false) text ≡ word_look raws

begun_no_name : (b : Bool) → is_name_word (if b then Assignment else Other) ≡ false
begun_no_name true = refl
begun_no_name false = refl

single_by : (p : RawPart) (r : SeenPart) → out-RawPart p ≡ r → is_name_word (seen_look r true) ≡ true → Single (p ∷ [])
single_by p (o.Plain w) e h = record { text = w; part = p; is = refl; plain = e; looks = sym (ap (λ r. seen_look r true) e) }
single_by p (o.Quoted w) e h = absurd (clash refl h)
single_by p (o.Param key default quoted) e h = absurd (clash refl h)
single_by p o.All e h = absurd (clash refl h)
single_by p (o.Run at ts quoted) e h = absurd (clash refl h)

no_single : (r : SeenPart) → is_name_word (seen_look r false) ≡ false
no_single (o.Plain w) = begun_no_name (begins_assignment w)
no_single (o.Quoted w) = refl
no_single (o.Param key default quoted) = refl
no_single o.All = refl
no_single (o.Run at ts quoted) = refl

pub single : (raws : List RawPart) → is_name_word (word_look raws) ≡ true → Single raws
single [] h = absurd (clash refl h)
single (p ∷ []) h = single_by p (out-RawPart p) refl h
single (p ∷ q ∷ ps) h = absurd (clash (no_single (out-RawPart p)) h)

-- ---- assignments

abbrev pub NotPlain : List RawPart → Type 0
NotPlain [] = Unit {0}
NotPlain (p ∷ ps) = plain_of (out-RawPart p) ≡ None

pub record Assigns (raws : List RawPart) : Type 0 where
  pub text : Text
  pub part : RawPart
  pub parts : List RawPart
  pub is : raws ≡ part ∷ parts
  pub plain : out-RawPart part ≡ o.Plain text
  pub begins : begins_assignment text ≡ true

begun_assigns : (b : Bool) → (if b then Assignment else Other) ≡ Assignment → b ≡ true
begun_assigns true e = refl
begun_assigns false e = absurd (cc e)

whole_assigns : (w : Text) (r : Option Reserved) (b : Bool) → is_shell_name w ≡ b → whole_look w r ≡ Assignment → begins_assignment w ≡ true
whole_assigns w (Some which) b f e = absurd (cc e)
whole_assigns w None true f e = absurd (cc (sym (ap (λ b. if b then Name else begun_look w) f) ∙ e))
whole_assigns w None false f e = begun_assigns (begins_assignment w) (sym (ap (λ b. if b then Name else begun_look w) f) ∙ e)

assigns_by : (p : RawPart) (ps : List RawPart) (r : SeenPart) (alone : Bool) → out-RawPart p ≡ r → seen_look r alone ≡ Assignment → Assigns (p ∷ ps)
assigns_by p ps (o.Plain w) true e h = record { text = w; part = p; parts = ps; is = refl; plain = e; begins = whole_assigns w (reserved w) (is_shell_name w) refl h }
assigns_by p ps (o.Plain w) false e h = record { text = w; part = p; parts = ps; is = refl; plain = e; begins = begun_assigns (begins_assignment w) h }
assigns_by p ps (o.Quoted w) alone e h = absurd (cc h)
assigns_by p ps (o.Param key default quoted) alone e h = absurd (cc h)
assigns_by p ps o.All alone e h = absurd (cc h)
assigns_by p ps (o.Run at ts quoted) alone e h = absurd (cc h)

pub assigns : (raws : List RawPart) → word_look raws ≡ Assignment → Assigns raws
assigns [] h = absurd (cc h)
assigns (p ∷ ps) h = assigns_by p ps (out-RawPart p) (none_left ps) refl h

-- what stands before the `=`, it, and what stands behind it
split_equals : (t : Text) → list_any (λ b. eqb b 61) t ≡ true → up_to_equals t ++ 61 ∷ behind_equals t ≡ t
split_equals [] h = absurd (clash refl h)
split_equals (b ∷ t) h = by (eqb b 61) refl h (split_equals t) where
  by : (is : Bool) → eqb b 61 ≡ is → (is || list_any (λ b. eqb b 61) t) ≡ true
      → (list_any (λ b. eqb b 61) t ≡ true → up_to_equals t ++ 61 ∷ behind_equals t ≡ t)
      → (if eqb b 61 then [] else b ∷ up_to_equals t) ++ 61 ∷ (if eqb b 61 then t else behind_equals t) ≡ b ∷ t
  by true e h more = ap (λ it. (if it then [] else b ∷ up_to_equals t) ++ 61 ∷ (if it then t else behind_equals t)) e ∙ ap (λ x. x ∷ t) (sym (eqb-true b 61 e))
  by false e h more = ap (λ it. (if it then [] else b ∷ up_to_equals t) ++ 61 ∷ (if it then t else behind_equals t)) e ∙ ap (λ t. b ∷ t) (more h)

seen_other : (name : Text) (r : SeenPart) (p : RawPart) (ps : List RawPart) → plain_of r ≡ None → assign_seen name r p ps ≡ raw.Plain (name ++ 61 ∷ []) ∷ p ∷ ps
seen_other name (o.Plain w) p ps e = absurd (cc e)
seen_other name (o.Quoted w) p ps e = refl
seen_other name (o.Param key default quoted) p ps e = refl
seen_other name o.All p ps e = refl
seen_other name (o.Run at ts quoted) p ps e = refl

parts_other : (name : Text) (ps : List RawPart) → NotPlain ps → assign_parts name ps ≡ raw.Plain (name ++ 61 ∷ []) ∷ ps
parts_other name [] n = refl
parts_other name (p ∷ ps) n = seen_other name (out-RawPart p) p ps n

rejoined : (name value : Text) (xs : List Part) → NotPlain (map raw_of xs) → assign_parts name (map raw_of (plain_part_of value ++ xs)) ≡ raw.Plain (name ++ 61 ∷ value) ∷ map raw_of xs
rejoined name [] xs n = parts_other name (map raw_of xs) n
rejoined name (b ∷ value) xs n =
    ap (λ p. assign_seen name (out-RawPart p) p (map raw_of xs)) (phrase_plain (b ∷ value)) ∙ ap (λ r. assign_seen name r (raw.Plain (b ∷ value)) (map raw_of xs)) (seen_plain (b ∷ value))

pub word_text_plain : (at : ℕ) (t : Text) (xs : List Part) → word_text (word_at at (part.Plain t ∷ xs)) ≡ t
word_text_plain at t xs = ap plain_text (ap out-Part (sym (part.rolls-Plain t)) ∙ out-roll-Part (seen.Plain t))

pub assign_same : (at : ℕ) (t : Text) (xs : List Part) → begins_assignment t ≡ true → NotPlain (map raw_of xs)
    → assign_raws (assigned (word_at at (part.Plain t ∷ xs))) ≡ word_raws (word_at at (part.Plain t ∷ xs))
assign_same at t xs h n =
    let w = word_at at (part.Plain t ∷ xs) in
    phrase_the_assign (up_to_equals (word_text w)) (word_at at (plain_part_of (behind_equals (word_text w)) ++ xs))
    ∙ ap (assign_parts (up_to_equals (word_text w))) (phrase_the_word at (plain_part_of (behind_equals (word_text w)) ++ xs))
    ∙ ap (λ t. assign_parts (up_to_equals t) (map raw_of (plain_part_of (behind_equals t) ++ xs))) (word_text_plain at t xs)
    ∙ rejoined (up_to_equals t) (behind_equals t) xs n
    ∙ ap (λ t. raw.Plain t ∷ map raw_of xs) (split_equals t (and_parts (list_any (λ b. eqb b 61) t) (is_shell_name (up_to_equals t)) h).0)
    ∙ ap (λ p. p ∷ map raw_of xs) (sym (phrase_plain t))
    ∙ sym (phrase_the_word at (part.Plain t ∷ xs))

-- ---- behind a plain run stands no other

is_plain : (p : RawPart) (t : Text) → out-RawPart p ≡ o.Plain t → p ≡ raw.Plain t
is_plain p t e = sym (roll-out-RawPart p) ∙ ap roll-RawPart e ∙ raw.rolls-Plain t

second_plain : (q : RawPart) (qs : List RawPart) (r : SeenPart) → out-RawPart q ≡ r → plain_runs_are_longest true (q ∷ qs) ≡ true → plain_of (out-RawPart q) ≡ None
second_plain q qs (o.Plain []) e h = absurd (clash (ap (λ q. plain_runs_are_longest true (q ∷ qs)) (is_plain q [] e)) h)
second_plain q qs (o.Plain (b ∷ w)) e h = absurd (clash (ap (λ q. plain_runs_are_longest true (q ∷ qs)) (is_plain q (b ∷ w) e)) h)
second_plain q qs (o.Quoted w) e h = ap plain_of e
second_plain q qs (o.Param key default quoted) e h = ap plain_of e
second_plain q qs o.All e h = ap plain_of e
second_plain q qs (o.Run at ts quoted) e h = ap plain_of e

behind_plain : (qs : List RawPart) → plain_runs_are_longest true qs ≡ true → NotPlain qs
behind_plain [] h = tt
behind_plain (q ∷ qs) h = second_plain q qs (out-RawPart q) refl h

pub not_plain : (t : Text) (p : RawPart) (ps : List RawPart) → out-RawPart p ≡ o.Plain t → plain_runs_are_longest false (p ∷ ps) ≡ true → NotPlain ps
not_plain [] p ps e h = absurd (clash (ap (λ q. plain_runs_are_longest false (q ∷ ps)) (is_plain p [] e)) h)
not_plain (b ∷ t) p ps e h = behind_plain ps (sym (ap (λ q. plain_runs_are_longest false (q ∷ ps)) (is_plain p (b ∷ t) e)) ∙ h)

pub not_plain_alike : {ps qs : List RawPart} → Alike ps qs → NotPlain ps → NotPlain qs
not_plain_alike alike_none n = tt
not_plain_alike (alike_more e m) n = e ∙ n

-- ---- words among tokens

pub kind_word_is : (s : SeenKind) (raws : List RawPart) → kind_word s ≡ Some raws → s ≡ o.Word raws
kind_word_is (o.Word ps) raws e = ap o.Word (somes e)
kind_word_is o.Newline raws e = absurd (cc e)
kind_word_is o.Semi raws e = absurd (cc e)
kind_word_is o.DoubleSemi raws e = absurd (cc e)
kind_word_is o.AndAnd raws e = absurd (cc e)
kind_word_is o.OrOr raws e = absurd (cc e)
kind_word_is o.Bar raws e = absurd (cc e)
kind_word_is o.LeftParen raws e = absurd (cc e)
kind_word_is o.RightParen raws e = absurd (cc e)
kind_word_is (o.Redirect which) raws e = absurd (cc e)

pub word_looks_so : (ts : Tokens) (raws : List RawPart) → word ts ≡ Some raws → look ts ≡ word_look raws
word_looks_so [] raws e = absurd (cc e)
word_looks_so (t ∷ ts) raws e = ap kind_look (kind_word_is (out-TokenKind t.kind) raws e)

pub longest_word : (ts : Tokens) (raws : List RawPart) → RunsAreLongest ts → word ts ≡ Some raws → (plain_runs_are_longest false raws ≡ true) × PartsAreLongest raws
longest_word [] raws m e = absurd (cc e)
longest_word (t ∷ ts) raws (other_token f m) e = absurd (cc (sym f ∙ e))
longest_word (t ∷ ts) raws (word_token parts f l p m) e =
    let same : parts ≡ raws = somes (sym f ∙ e) in
    (subst (λ raws. plain_runs_are_longest false raws ≡ true) same l, subst PartsAreLongest same p)

pub longest_behind : (ts : Tokens) → RunsAreLongest ts → RunsAreLongest (behind ts)
longest_behind [] m = m
longest_behind (t ∷ ts) (other_token f m) = m
longest_behind (t ∷ ts) (word_token parts f l p m) = m
