-- Tokens that are the same but for their offsets are read es trees that are the same but for theirs.
use Rattle.std.proofs.Common.{◌≡◌, ℕ, Bool, true, false, List, [], ◌∷◌, map, Option, Some, None, refl, sym, ap, ◌∙◌, subst}
use Rattle.shell_syntax.specs.declared.syntax.Command.{Command}
use Rattle.shell_syntax.specs.declared.syntax.Command.TheVariants as c
use Rattle.shell_syntax.specs.declared.syntax.Word.{Word}
use Rattle.shell_syntax.specs.declared.syntax.Part.{Part}
use Rattle.shell_syntax.specs.declared.syntax.Part.TheVariants as part
use Rattle.shell_lexer.specs.declared.token.RawPart.{RawPart}
use Rattle.shell_grammar.specs.declared.form.CommandForm.{CommandForm}
use Rattle.shell_grammar.specs.declared.form.CommandForm.TheVariants as command
use Rattle.shell_grammar.specs.declared.form.CompoundForm.{CompoundForm}
use Rattle.shell_grammar.specs.declared.form.CompoundForm.TheVariants as compound
use Rattle.shell_grammar.specs.declared.form.Item.{Item}
use Rattle.shell_grammar.specs.declared.form.Item.TheVariants as an
use Rattle.shell_grammar.specs.declared.items.Items.{Items}
use Rattle.shell_grammar.specs.declared.look.Look.{Look}
use Rattle.shell_grammar.specs.declared.look.Look.TheVariants.{AtEnd, Semi, DoubleSemi, Bar, LeftParen, Keyword}
use Rattle.shell_grammar.specs.declared.look.Reserved.TheVariants.{Bang, Elif, Else, In, Esac}
use Rattle.shell_grammar.specs.Forms.{command_form, compound_form, item, starts, is_name_word, is_word, is_separator, link_and, redirection, ends_arm}
use Rattle.shell_grammar.specs.Grammar.{Rule, Script, Body, Newlines, Block, Members, More, Behind, AndOr, Links, Pipeline, Piped, Bars, ACommand, Compound, Clause, Arms, Loop, ForRest, ForName, ForWords, Each, Apart, CaseRest, CaseArms, CaseMore, OneArm, ArmRest, Patterns, MorePatterns, ArmBody, Braces, Named, SimpleItems, Redirects, Sign, Is, Opens, AWord, Here, Never, Of, Inside, Tree, Value, Values, production, production_more, production_behind, production_links, production_command, production_compound, production_name, production_each, production_arm_body, production_items, production_redirects}
use Rattle.shell_grammar.specs.Look.{Tokens, look, place}
use Rattle.shell_grammar.specs.Reading.{Out, Whole, Judged, Faultless, after, IsRule, rule, IsAll, no_more, one_more, one_stops, IsSign, is, is_not, opens, opens_not, too_deep, a_word as reads_word, a_word_stops, no_word, here, never, of, inside, IsParts, no_parts, plain_part, run_part, run_stops, run_deep}
use Rattle.shell_grammar.specs.Spelling.{deep_64}
use Rattle.shell_grammar.specs.Trees.{seq_of, pipe_of, chain_of, redirected, link, if_arm, case_arm, word_text, simple, named, joined, a_word, assigned, Tail, Defines, Continues, word_at}
use Rattle.shell_grammar.proofs.Unique.{not_both, wholes, same_faultless}
use Rattle.shell_grammar.proofs.Begun.{whole_from}
use Rattle.shell_printing.specs.Zeroed.{zeroed, zeroed_part, zeroed_assign, zeroed_case_arm, zeroed_if_arm, zeroed_link, zeroed_word, zeroed_raw, zeroed_tokens}
use Rattle.shell_printing.specs.Laws.{OffsetsDoNotMatter}
use Rattle.shell_printing.proofs.ZeroedLayers.{zeroed_not, zeroed_sub, zeroed_if, zeroed_if_else, zeroed_for, zeroed_for_in, zeroed_while, zeroed_case, zeroed_define, zeroed_run}
use Rattle.shell_printing.proofs.ZeroedTrees.{zeroed_seq_of, zeroed_pipe_of, zeroed_chain_of, zeroed_redirected_of, zeroed_link_of, zeroed_if_arm_of, zeroed_case_arm_of, zeroed_word_of, zeroed_simple_of, word_text_zeroed, assigned_zeroed}
use Rattle.shell_printing.proofs.ZeroedTokens.{same_look, same_behind, same_word, same_plainly, same_run}

-- ---- trees that are the same but for their offsets

abbrev pub zeroed_otherwise : Option Command → Option Command
zeroed_otherwise None = None
zeroed_otherwise (Some x) = Some (zeroed x)

abbrev pub zeroed_words : Option (List Word) → Option (List Word)
zeroed_words None = None
zeroed_words (Some ws) = Some (map zeroed_word ws)

record SameItems (x y : Items) : Type 0 where
  pub assigns : map zeroed_assign x.assigns ≡ map zeroed_assign y.assigns
  pub words : map zeroed_word x.words ≡ map zeroed_word y.words
  pub redirects : x.redirects ≡ y.redirects

abbrev SameTail : Tail → Tail → Type 0
SameTail (Defines x) (Defines y) = zeroed x ≡ zeroed y
SameTail (Continues x) (Continues y) = SameItems x y
SameTail _ _ = ⊥

abbrev SameTree : (n : Rule) → Tree n → Tree n → Type 0
SameTree Newlines v w = Unit {0}
SameTree More v w = map zeroed v ≡ map zeroed w
SameTree Behind v w = map zeroed v ≡ map zeroed w
SameTree Links v w = map zeroed_link v ≡ map zeroed_link w
SameTree Bars v w = map zeroed v ≡ map zeroed w
SameTree Clause v w = (map zeroed_if_arm v.0 ≡ map zeroed_if_arm w.0) × (zeroed_otherwise v.1 ≡ zeroed_otherwise w.1)
SameTree Arms v w = (map zeroed_if_arm v.0 ≡ map zeroed_if_arm w.0) × (zeroed_otherwise v.1 ≡ zeroed_otherwise w.1)
SameTree Loop v w = (zeroed v.0 ≡ zeroed w.0) × (zeroed v.1 ≡ zeroed w.1)
SameTree ForRest v w = (v.0 ≡ w.0) × (zeroed_words v.1 ≡ zeroed_words w.1) × (zeroed v.2 ≡ zeroed w.2)
SameTree ForName v w = v ≡ w
SameTree ForWords v w = zeroed_words v ≡ zeroed_words w
SameTree Each v w = map zeroed_word v ≡ map zeroed_word w
SameTree Apart v w = Unit {0}
SameTree CaseRest v w = (zeroed_word v.0 ≡ zeroed_word w.0) × (map zeroed_case_arm v.1 ≡ map zeroed_case_arm w.1)
SameTree CaseArms v w = map zeroed_case_arm v ≡ map zeroed_case_arm w
SameTree CaseMore v w = map zeroed_case_arm v ≡ map zeroed_case_arm w
SameTree OneArm v w = zeroed_case_arm v ≡ zeroed_case_arm w
SameTree ArmRest v w = zeroed_case_arm v ≡ zeroed_case_arm w
SameTree Patterns v w = map zeroed_word v ≡ map zeroed_word w
SameTree MorePatterns v w = map zeroed_word v ≡ map zeroed_word w
SameTree Named v w = SameTail v w
SameTree (SimpleItems b) v w = SameItems v w
SameTree Redirects v w = v ≡ w
SameTree Script v w = zeroed v ≡ zeroed w
SameTree Body v w = zeroed v ≡ zeroed w
SameTree Block v w = zeroed v ≡ zeroed w
SameTree Members v w = zeroed v ≡ zeroed w
SameTree AndOr v w = zeroed v ≡ zeroed w
SameTree Pipeline v w = zeroed v ≡ zeroed w
SameTree Piped v w = zeroed v ≡ zeroed w
SameTree ACommand v w = zeroed v ≡ zeroed w
SameTree Compound v w = zeroed v ≡ zeroed w
SameTree ArmBody v w = zeroed v ≡ zeroed w
SameTree Braces v w = zeroed v ≡ zeroed w

abbrev SameValue : (s : Sign) → Value s → Value s → Type 0
SameValue (Is l) v w = Unit {0}
SameValue (Opens l) v w = Unit {0}
SameValue AWord v w = zeroed_word v ≡ zeroed_word w
SameValue Here v w = Unit {0}
SameValue Never v w = Unit {0}
SameValue (Of n) v w = SameTree n v w
SameValue (Inside n) v w = SameTree n v w

abbrev SameValues : (ss : List Sign) → Values ss → Values ss → Type 0
SameValues [] v w = Unit {0}
SameValues (s ∷ ss) v w = SameValue s v.0 w.0 × SameValues ss v.1 w.1

-- ---- lists and pairs

pub both : {A B C : Type 0} (f : A → B → C) {a a2 : A} {b b2 : B} → a ≡ a2 → b ≡ b2 → f a b ≡ f a2 b2
both f {a2 = a2} {b = b} e g = ap (λ a. f a b) e ∙ ap (f a2) g

cons : {A : Type 0} {a a2 : A} {es as2 : List A} → a ≡ a2 → es ≡ as2 → ◌≡◌ {A = List A} (a ∷ es) (a2 ∷ as2)
cons {A} e f = both (λ (a : A) (es : List A). a ∷ es) e f

-- ---- what each production makes of members that are the same but for their offsets

same_more : (l : Look) (b : Bool) (v w : Values (production_more l b).signs) → SameValues (production_more l b).signs v w → map zeroed ((production_more l b).tree v) ≡ map zeroed ((production_more l b).tree w)
same_more l true v w s = s.1.1.0
same_more l false v w s = refl

same_behind_row : (b : Bool) (v w : Values (production_behind b).signs) → SameValues (production_behind b).signs v w → map zeroed ((production_behind b).tree v) ≡ map zeroed ((production_behind b).tree w)
same_behind_row true v w s = cons s.0 s.1.0
same_behind_row false v w s = refl

same_links : (l : Look) (b : Option Bool) (v w : Values (production_links l b).signs) → SameValues (production_links l b).signs v w → map zeroed_link ((production_links l b).tree v) ≡ map zeroed_link ((production_links l b).tree w)
same_links l (Some is_and) v w s = cons (zeroed_link_of is_and v.1.1.0 ∙ ap (link is_and) s.1.1.0 ∙ sym (zeroed_link_of is_and w.1.1.0)) s.1.1.1.0
same_links l None v w s = refl

same_simple : (at to : ℕ) (x y : Items) → SameItems x y → zeroed (simple at x) ≡ zeroed (simple to y)
same_simple at to x y s =
    zeroed_simple_of at x
    ∙ both (λ z rs. redirected 0 z rs) (both (c.Simple 0) s.assigns s.words) s.redirects
    ∙ sym (zeroed_simple_of to y)

same_joined_word : (w w2 : Word) (x y : Items) → zeroed_word w ≡ zeroed_word w2 → SameItems x y → SameItems (joined (a_word w) x) (joined (a_word w2) y)
same_joined_word w w2 x y e s = record { assigns = s.assigns; words = cons e s.words; redirects = s.redirects }

same_named : (at to : ℕ) (w w2 : Word) (t t2 : Tail) → zeroed_word w ≡ zeroed_word w2 → SameTail t t2 → zeroed (named at w t) ≡ zeroed (named to w2 t2)
same_named at to w w2 (Defines x) (Defines y) e s =
    zeroed_define at (word_text w) x
    ∙ both (c.Define 0) (sym (word_text_zeroed w) ∙ ap word_text e ∙ word_text_zeroed w2) s
    ∙ sym (zeroed_define to (word_text w2) y)
same_named at to w w2 (Continues x) (Continues y) e s = same_simple at to (joined (a_word w) x) (joined (a_word w2) y) (same_joined_word w w2 x y e s)
same_named at to w w2 (Defines x) (Continues y) e s = absurd s
same_named at to w w2 (Continues x) (Defines y) e s = absurd s

same_command : (f : Option CommandForm) (v w : Values (production_command f).signs) → SameValues (production_command f).signs v w → zeroed ((production_command f).tree v) ≡ zeroed ((production_command f).tree w)
same_command (Some command.Compound) v w s =
    zeroed_redirected_of v.0 v.1.0 v.1.1.0 ∙ both (redirected 0) s.1.0 s.1.1.0 ∙ sym (zeroed_redirected_of w.0 w.1.0 w.1.1.0)
same_command (Some command.Named) v w s = same_named v.0 w.0 v.1.0 w.1.0 v.1.1.0 w.1.1.0 s.1.0 s.1.1.0
same_command (Some command.Simple) v w s = same_simple v.0 w.0 v.1.0 w.1.0 s.1.0
same_command None v w s = refl

same_if : (at to : ℕ) (v w : List _ × Option Command) → SameTree Clause v w → zeroed (c.If at v.0 v.1) ≡ zeroed (c.If to w.0 w.1)
same_if at to (es, None) (bs, None) s = zeroed_if at es ∙ ap (λ es. c.If 0 es None) s.0 ∙ sym (zeroed_if to bs)
same_if at to (es, Some x) (bs, Some y) s =
    zeroed_if_else at es x ∙ both (λ es z. c.If 0 es z) s.0 s.1 ∙ sym (zeroed_if_else to bs y)
same_if at to (es, None) (bs, Some y) s = absurd (cc s.1)
same_if at to (es, Some x) (bs, None) s = absurd (cc s.1)

same_for : (at to : ℕ) (name other : _) (ws vs : Option (List Word)) (x y : Command) → name ≡ other → zeroed_words ws ≡ zeroed_words vs → zeroed x ≡ zeroed y → zeroed (c.For at name ws x) ≡ zeroed (c.For to other vs y)
same_for at to name other None None x y e f g =
    zeroed_for at name x ∙ both (λ n z. c.For 0 n None z) e g ∙ sym (zeroed_for to other y)
same_for at to name other (Some ws) (Some vs) x y e f g =
    zeroed_for_in at name ws x ∙ both (λ n k. c.For 0 n k (zeroed x)) e f ∙ ap (c.For 0 other (Some (map zeroed_word vs))) g ∙ sym (zeroed_for_in to other vs y)
same_for at to name other None (Some vs) x y e f g = absurd (cc f)
same_for at to name other (Some ws) None x y e f g = absurd (cc f)

same_compound : (f : CompoundForm) (v w : Values (production_compound f).signs) → SameValues (production_compound f).signs v w → zeroed ((production_compound f).tree v) ≡ zeroed ((production_compound f).tree w)
same_compound compound.Subshell v w s = zeroed_sub v.0 v.1.0 ∙ ap (c.Sub 0) s.1.0 ∙ sym (zeroed_sub w.0 w.1.0)
same_compound compound.If v w s = same_if v.0 w.0 v.1.0 w.1.0 s.1.0
same_compound compound.For v w s = same_for v.0 w.0 v.1.0.0 w.1.0.0 v.1.0.1 w.1.0.1 v.1.0.2 w.1.0.2 s.1.0.0 s.1.0.1 s.1.0.2
same_compound compound.Case v w s = zeroed_case v.0 v.1.0.0 v.1.0.1 ∙ both (c.Case 0) s.1.0.0 s.1.0.1 ∙ sym (zeroed_case w.0 w.1.0.0 w.1.0.1)
same_compound (compound.Loop until) v w s = zeroed_while v.0 until v.1.0.0 v.1.0.1 ∙ both (c.While 0 until) s.1.0.0 s.1.0.1 ∙ sym (zeroed_while w.0 until w.1.0.0 w.1.0.1)
same_compound compound.Braces v w s = s.0

same_name : (b : Bool) (v w : Values (production_name b).signs) → SameValues (production_name b).signs v w → (production_name b).tree v ≡ (production_name b).tree w
same_name true v w s = sym (word_text_zeroed v.0) ∙ ap word_text s.0 ∙ word_text_zeroed w.0
same_name false v w s = refl

same_each : (b : Bool) (v w : Values (production_each b).signs) → SameValues (production_each b).signs v w → map zeroed_word ((production_each b).tree v) ≡ map zeroed_word ((production_each b).tree w)
same_each true v w s = cons s.0 s.1.0
same_each false v w s = refl

same_arm_body : (b : Bool) (v w : Values (production_arm_body b).signs) → SameValues (production_arm_body b).signs v w → zeroed ((production_arm_body b).tree v) ≡ zeroed ((production_arm_body b).tree w)
same_arm_body true v w s = refl
same_arm_body false v w s = s.0

same_items : (b : Bool) (i : Option Item) (v w : Values (production_items b i).signs) → SameValues (production_items b i).signs v w → SameItems ((production_items b i).tree v) ((production_items b i).tree w)
same_items b (Some an.Assignment) v w s = record {
  assigns = cons (assigned_zeroed v.0 ∙ ap assigned s.0 ∙ sym (assigned_zeroed w.0)) s.1.0.assigns;
  words = s.1.0.words;
  redirects = s.1.0.redirects;
}
same_items b (Some (an.Redirection which)) v w s = record { assigns = s.1.0.assigns; words = s.1.0.words; redirects = ap (λ rs. which ∷ rs) s.1.0.redirects }
same_items b (Some an.Word) v w s = same_joined_word v.0 w.0 v.1.0 w.1.0 s.0 s.1.0
same_items b None v w s = record { assigns = refl; words = refl; redirects = refl }

same_redirects : (r : Option _) (v w : Values (production_redirects r).signs) → SameValues (production_redirects r).signs v w → (production_redirects r).tree v ≡ (production_redirects r).tree w
same_redirects (Some which) v w s = ap (λ rs. which ∷ rs) s.1.0
same_redirects None v w s = refl

same_tree : (n : Rule) (l : Look) (v w : Values (production n l).signs) → SameValues (production n l).signs v w → SameTree n ((production n l).tree v) ((production n l).tree w)
same_tree Script l v w s = s.1.0
same_tree Body AtEnd v w s = refl
same_tree Body l v w s = s.0
same_tree Newlines l v w s = tt
same_tree Block l v w s = s.1.0
same_tree Members l v w s = zeroed_seq_of (v.0 ∷ v.1.0) ∙ ap seq_of (cons s.0 s.1.0) ∙ sym (zeroed_seq_of (w.0 ∷ w.1.0))
same_tree More l v w s = same_more l (is_separator l) v w s
same_tree Behind l v w s = same_behind_row (starts l) v w s
same_tree AndOr l v w s = zeroed_chain_of v.0 v.1.0 ∙ both chain_of s.0 s.1.0 ∙ sym (zeroed_chain_of w.0 w.1.0)
same_tree Links l v w s = same_links l (link_and l) v w s
same_tree Pipeline (Keyword Bang) v w s = zeroed_not v.0 v.1.0 ∙ ap (c.Not 0) s.1.0 ∙ sym (zeroed_not w.0 w.1.0)
same_tree Pipeline l v w s = s.0
same_tree Piped l v w s = zeroed_pipe_of v.0 (v.1.0 ∷ v.1.1.0) ∙ ap (pipe_of 0) (cons s.1.0 s.1.1.0) ∙ sym (zeroed_pipe_of w.0 (w.1.0 ∷ w.1.1.0))
same_tree Bars Bar v w s = cons s.1.1.0 s.1.1.1.0
same_tree Bars l v w s = refl
same_tree ACommand l v w s = same_command (command_form l) v w s
same_tree Compound l v w s = same_compound (compound_form l) v w s
same_tree Clause l v w s = (
  cons (zeroed_if_arm_of v.0 v.1.1.0 ∙ both if_arm s.0 s.1.1.0 ∙ sym (zeroed_if_arm_of w.0 w.1.1.0)) s.1.1.1.0.0,
  s.1.1.1.0.1,
)
same_tree Arms (Keyword Elif) v w s = s.1.0
same_tree Arms (Keyword Else) v w s = (refl, ap Some s.1.0)
same_tree Arms l v w s = (refl, refl)
same_tree Loop l v w s = (s.0, s.1.1.0)
same_tree ForRest l v w s = (s.0, s.1.1.0, s.1.1.1.1.0)
same_tree ForName l v w s = same_name (is_name_word l) v w s
same_tree ForWords (Keyword In) v w s = ap Some s.1.0
same_tree ForWords Semi v w s = refl
same_tree ForWords l v w s = refl
same_tree Each l v w s = same_each (is_word l) v w s
same_tree Apart l v w s = tt
same_tree CaseRest l v w s = (s.0, s.1.1.1.1.0)
same_tree CaseArms (Keyword Esac) v w s = refl
same_tree CaseArms l v w s = cons s.0 s.1.0
same_tree CaseMore DoubleSemi v w s = s.1.1.0
same_tree CaseMore l v w s = refl
same_tree OneArm LeftParen v w s = s.1.0
same_tree OneArm l v w s = s.0
same_tree ArmRest l v w s = zeroed_case_arm_of v.0 v.1.1.1.0 ∙ both case_arm s.0 s.1.1.1.0 ∙ sym (zeroed_case_arm_of w.0 w.1.1.1.0)
same_tree Patterns l v w s = cons s.0 s.1.0
same_tree MorePatterns Bar v w s = cons s.1.0 s.1.1.0
same_tree MorePatterns l v w s = refl
same_tree ArmBody l v w s = same_arm_body (ends_arm l) v w s
same_tree Braces l v w s = s.1.0
same_tree Named LeftParen v w s = s.1.1.1.0
same_tree Named l v w s = s.0
same_tree (SimpleItems b) l v w s = same_items b (item b l) v w s
same_tree Redirects l v w s = same_redirects (redirection l) v w s

-- ---- readings

-- parts that are read, and the same but for their offsets
record PartsAgain (deep : ℕ → Bool) (d : ℕ) (ps : List Part) (raws : List RawPart) : Type 0 where
  pub parts : List Part
  pub reads : IsParts deep d raws (Faultless parts)
  pub same : map zeroed_part ps ≡ map zeroed_part parts

faultless_from : (p : Part) (q : Judged) (ps : List Part) → after p q ≡ Faultless ps → (more : List Part) × (q ≡ Faultless more) × (ps ≡ p ∷ more)
faultless_from p (Faultless more) ps e = (more, refl, sym (same_faultless e))
faultless_from p _ ps e = absurd (cc e)

abbrev pub zeroed_raws : List RawPart → List RawPart
zeroed_raws ps = map zeroed_raw ps

module _ (deep : ℕ → Bool) where
  record RuleAgain (d end : ℕ) (n : Rule) (v : Tree n) (r us : Tokens) : Type 0 where
    pub value : Tree n
    pub rest : Tokens
    pub reads : IsRule deep d end n us (Whole value rest)
    pub same : SameTree n v value
    pub behind : zeroed_tokens r ≡ zeroed_tokens rest

  record AllAgain (d end : ℕ) (ss : List Sign) (v : Values ss) (r us : Tokens) : Type 0 where
    pub value : Values ss
    pub rest : Tokens
    pub reads : IsAll deep d end ss us (Whole value rest)
    pub same : SameValues ss v value
    pub behind : zeroed_tokens r ≡ zeroed_tokens rest

  record SignAgain (d end : ℕ) (s : Sign) (v : Value s) (r us : Tokens) : Type 0 where
    pub value : Value s
    pub rest : Tokens
    pub reads : IsSign deep d end s us (Whole value rest)
    pub same : SameValue s v value
    pub behind : zeroed_tokens r ≡ zeroed_tokens rest

  ruled : {d end : ℕ} {n : Rule} {ts r : Tokens} (l : Look) → look ts ≡ l → (vs : Values (production n l).signs) → IsAll deep d end (production n l).signs ts (Whole vs r) → IsRule deep d end n ts (Whole ((production n l).tree vs) r)
  ruled {d} {end} {n} {ts} {r} l e vs x =
      subst (λ p. (vs : Values p.signs) → IsAll deep d end p.signs ts (Whole vs r) → IsRule deep d end n ts (Whole (p.tree vs) r)) (ap (production n) e) (λ vs x. rule (Whole vs r) x refl) vs x

  mutual
    rule_again : {d end : ℕ} {n : Rule} {ts : Tokens} {q : Out (Tree n)} → IsRule deep d end n ts q → (v : Tree n) (r : Tokens) → q ≡ Whole v r → (other : ℕ) (us : Tokens) → zeroed_tokens ts ≡ zeroed_tokens us → RuleAgain d other n v r us
    rule_again {d} {end} {n} {ts} (rule q1 x e) v r h other us z =
        let f = whole_from (production n (look ts)).tree q1 v r (sym e ∙ h) in
        let a = all_again x f.value r f.is_whole other us z in
        record {
          value = (production n (look ts)).tree a.value;
          rest = a.rest;
          reads = ruled (look ts) (same_look ts us z) a.value a.reads;
          same = subst (λ v. SameTree n v ((production n (look ts)).tree a.value)) f.turns (same_tree n (look ts) f.value a.value a.same);
          behind = a.behind;
        }

    all_again : {d end : ℕ} {ss : List Sign} {ts : Tokens} {q : Out (Values ss)} → IsAll deep d end ss ts q → (v : Values ss) (r : Tokens) → q ≡ Whole v r → (other : ℕ) (us : Tokens) → zeroed_tokens ts ≡ zeroed_tokens us → AllAgain d other ss v r us
    all_again {ts = ts} (no_more e) v r h other us z = record {
      value = tt;
      rest = us;
      reads = no_more refl;
      same = tt;
      behind = ap zeroed_tokens (sym (wholes (sym e ∙ h)).1) ∙ z;
    }
    all_again {d} {end} {ts = ts} (one_more {s = s} {ss = ss} v0 r0 q1 s0 x e) v r h other us z =
        let f = whole_from (λ vs. (v0, vs)) q1 v r (sym e ∙ h) in
        let a = sign_again s0 v0 r0 refl other us z in
        let b = all_again x f.value r f.is_whole other a.rest a.behind in
        record {
          value = (a.value, b.value);
          rest = b.rest;
          reads = one_more a.value a.rest (Whole b.value b.rest) a.reads b.reads refl;
          same = subst (λ v. SameValues (s ∷ ss) v (a.value, b.value)) f.turns (a.same, b.same);
          behind = b.behind;
        }
    all_again (one_stops f r0 s0 e) v r h other us z = absurd (not_both (sym (sym e ∙ h)))

    sign_again : {d end : ℕ} {s : Sign} {ts : Tokens} {q : Out (Value s)} → IsSign deep d end s ts q → (v : Value s) (r : Tokens) → q ≡ Whole v r → (other : ℕ) (us : Tokens) → zeroed_tokens ts ≡ zeroed_tokens us → SignAgain d other s v r us
    sign_again {ts = ts} (is k e) v r h other us z = record {
      value = place other us;
      rest = _;
      reads = is (same_look ts us z ∙ k) refl;
      same = tt;
      behind = ap zeroed_tokens (sym (wholes (sym e ∙ h)).1) ∙ same_behind ts us z;
    }
    sign_again {ts = ts} (opens k g e) v r h other us z = record {
      value = place other us;
      rest = _;
      reads = opens (same_look ts us z ∙ k) g refl;
      same = tt;
      behind = ap zeroed_tokens (sym (wholes (sym e ∙ h)).1) ∙ same_behind ts us z;
    }
    sign_again {ts = ts} (reads_word raws ps w x e) v r h other us z =
        let k = wholes (sym e ∙ h) in
        let o = same_word ts us raws z w in
        let a = parts_again x ps refl o.0 o.2 in
        record {
          value = word_at (place other us) a.parts;
          rest = _;
          reads = reads_word o.0 a.parts o.1 a.reads refl;
          same = ap zeroed_word (sym k.0) ∙ zeroed_word_of (word_at _ ps) ∙ ap (word_at 0) a.same ∙ sym (zeroed_word_of (word_at (place other us) a.parts));
          behind = ap zeroed_tokens (sym k.1) ∙ same_behind ts us z;
        }
    sign_again {ts = ts} (here e) v r h other us z = record {
      value = place other us;
      rest = us;
      reads = here refl;
      same = tt;
      behind = ap zeroed_tokens (sym (wholes (sym e ∙ h)).1) ∙ z;
    }
    sign_again (of x) v r h other us z =
        let a = rule_again x v r h other us z in
        record { value = a.value; rest = a.rest; reads = of a.reads; same = a.same; behind = a.behind }
    sign_again (inside x) v r h other us z =
        let a = rule_again x v r h other us z in
        record { value = a.value; rest = a.rest; reads = inside a.reads; same = a.same; behind = a.behind }
    sign_again (is_not k e) v r h other us z = absurd (not_both (sym (sym e ∙ h)))
    sign_again (opens_not k e) v r h other us z = absurd (not_both (sym (sym e ∙ h)))
    sign_again (too_deep k g e) v r h other us z = absurd (not_both (sym (sym e ∙ h)))
    sign_again (a_word_stops raws f w x e) v r h other us z = absurd (not_both (sym (sym e ∙ h)))
    sign_again (no_word w e) v r h other us z = absurd (not_both (sym (sym e ∙ h)))
    sign_again (never e) v r h other us z = absurd (not_both (sym (sym e ∙ h)))

    parts_again : {d : ℕ} {raws : List RawPart} {q : Judged} → IsParts deep d raws q → (ps : List Part) → q ≡ Faultless ps → (others : List RawPart) → zeroed_raws raws ≡ zeroed_raws others → PartsAgain deep d ps others
    parts_again (no_parts e) ps h [] z = record { parts = []; reads = no_parts refl; same = ap (λ ps. map zeroed_part ps) (same_faultless (sym h ∙ e)) }
    parts_again (no_parts e) ps h (q ∷ others) z = absurd (cc z)
    parts_again (plain_part x q1 a y e) ps h [] z = absurd (cc z)
    parts_again (plain_part {p = p} x q1 a y e) ps h (o ∷ others) z =
        let first : zeroed_raw p ≡ zeroed_raw o = cc in
        let m = faultless_from x q1 ps (sym e ∙ h) in
        let b = parts_again y m.0 m.1 others (cc z) in
        record {
          parts = x ∷ b.parts;
          reads = plain_part x (Faultless b.parts) (same_plainly p o first ∙ a) b.reads refl;
          same = ap (λ ps. map zeroed_part ps) m.2 ∙ ap (λ (ps : List Part). zeroed_part x ∷ ps) b.same;
        }
    parts_again (run_part at ts quoted body rest q1 a g x y e) ps h [] z = absurd (cc z)
    parts_again (run_part {p = p} at ts quoted body rest q1 a g x y e) ps h (o ∷ others) z =
        let first : zeroed_raw p ≡ zeroed_raw o = cc in
        let m = faultless_from (part.Run at body quoted) q1 ps (sym e ∙ h) in
        let b = parts_again y m.0 m.1 others (cc z) in
        let n = same_run p o at ts quoted first a in
        let s = rule_again x body rest refl n.at n.tokens n.same in
        record {
          parts = part.Run n.at s.value quoted ∷ b.parts;
          reads = run_part n.at n.tokens quoted s.value s.rest (Faultless b.parts) n.is g s.reads b.reads refl;
          same = ap (λ ps. map zeroed_part ps) m.2
              ∙ cons (zeroed_run at body quoted ∙ ap (λ z. part.Run 0 z quoted) s.same ∙ sym (zeroed_run n.at s.value quoted)) b.same;
        }
    parts_again (run_stops at ts b f rest a g x e) ps h others z = absurd (cc (sym e ∙ h))
    parts_again (run_deep at ts b a g e) ps h others z = absurd (cc (sym e ∙ h))

pub offsets_do_not_matter : OffsetsDoNotMatter
offsets_do_not_matter end other ts us body s z =
    let a = rule_again deep_64 s.reads body s.rest refl other us z in
    (a.value, record { rest = a.rest; reads = a.reads }, sym a.same)
