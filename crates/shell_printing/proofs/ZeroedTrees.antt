-- Trees with every offset 0 are made from their members as they were.
use Rattle.std.proofs.Common.{◌≡◌, ℕ, Bool, List, [], ◌∷◌, ◌++◌, map, refl, sym, ap, ◌∙◌}
use Rattle.shell_syntax.specs.declared.redirect.Redirect.{Redirect}
use Rattle.shell_syntax.specs.declared.syntax.Command.{Command}
use Rattle.shell_syntax.specs.declared.syntax.Command.TheVariants as c
use Rattle.shell_syntax.specs.declared.syntax.Command.TheOpen as o
use Rattle.shell_syntax.specs.declared.syntax.Command.TheFolds.{fold-roll-Part, fold_out-Word}
use Rattle.shell_syntax.specs.declared.syntax.Part.{Part, roll-Part, out-Part, out-roll-Part, roll-out-Part}
use Rattle.shell_syntax.specs.declared.syntax.Part.TheVariants as part
use Rattle.shell_syntax.specs.declared.syntax.Assign.{Assign, roll-Assign}
use Rattle.shell_syntax.specs.declared.syntax.CaseArm.{CaseArm}
use Rattle.shell_syntax.specs.declared.syntax.IfArm.{IfArm}
use Rattle.shell_syntax.specs.declared.syntax.Link.{Link}
use Rattle.shell_syntax.specs.declared.syntax.Word.{Word}
use Rattle.shell_grammar.specs.declared.items.Items.{Items}
use Rattle.shell_grammar.specs.Look.{Text}
use Rattle.shell_grammar.specs.Look.{up_to_equals}
use Rattle.shell_grammar.specs.Trees.{seq_of, pipe_of, chain_of, redirected, link, if_arm, case_arm, word_at, simple, plain_text, first_text, word_text, behind_equals, plain_part_of, rest_of, assigned}
use Rattle.shell_printing.specs.Zeroed.{command_layer, part_layer, assign_layer, case_arm_layer, if_arm_layer, link_layer, word_layer, zeroed, zeroed_part, zeroed_assign, zeroed_case_arm, zeroed_if_arm, zeroed_link, zeroed_word}
use Rattle.shell_printing.proofs.ZeroedLayers.{zeroed_simple, zeroed_redirected, zeroed_pipe, zeroed_chain, zeroed_seq, zeroed_the_assign, zeroed_the_case_arm, zeroed_the_if_arm, zeroed_the_link, zeroed_the_word, zeroed_plain}

pub zeroed_seq_of : (xs : List Command) → zeroed (seq_of xs) ≡ seq_of (map zeroed xs)
zeroed_seq_of [] = zeroed_seq []
zeroed_seq_of (x ∷ []) = refl
zeroed_seq_of (x ∷ y ∷ xs) = zeroed_seq (x ∷ y ∷ xs)

pub zeroed_pipe_of : (at : ℕ) (xs : List Command) → zeroed (pipe_of at xs) ≡ pipe_of 0 (map zeroed xs)
zeroed_pipe_of at [] = zeroed_pipe at []
zeroed_pipe_of at (x ∷ []) = refl
zeroed_pipe_of at (x ∷ y ∷ xs) = zeroed_pipe at (x ∷ y ∷ xs)

pub zeroed_chain_of : (x : Command) (links : List Link) → zeroed (chain_of x links) ≡ chain_of (zeroed x) (map zeroed_link links)
zeroed_chain_of x [] = refl
zeroed_chain_of x (y ∷ links) = zeroed_chain x (y ∷ links)

pub zeroed_redirected_of : (at : ℕ) (x : Command) (rs : List Redirect) → zeroed (redirected at x rs) ≡ redirected 0 (zeroed x) rs
zeroed_redirected_of at x [] = refl
zeroed_redirected_of at x (r ∷ rs) = zeroed_redirected at x (r ∷ rs)

pub zeroed_link_of : (is_and : Bool) (x : Command) → zeroed_link (link is_and x) ≡ link is_and (zeroed x)
zeroed_link_of is_and x = zeroed_the_link is_and x

pub zeroed_if_arm_of : (cond body : Command) → zeroed_if_arm (if_arm cond body) ≡ if_arm (zeroed cond) (zeroed body)
zeroed_if_arm_of cond body = zeroed_the_if_arm cond body

pub zeroed_case_arm_of : (patterns : List Word) (body : Command) → zeroed_case_arm (case_arm patterns body) ≡ case_arm (map zeroed_word patterns) (zeroed body)
zeroed_case_arm_of patterns body = zeroed_the_case_arm patterns body

pub zeroed_word_of : (w : Word) → zeroed_word w ≡ word_at 0 (map zeroed_part w.parts)
zeroed_word_of w = fold_out-Word Command Part Assign CaseArm IfArm Link Word command_layer part_layer assign_layer case_arm_layer if_arm_layer link_layer word_layer w

pub zeroed_simple_of : (at : ℕ) (items : Items) → zeroed (simple at items) ≡ redirected 0 (c.Simple 0 (map zeroed_assign items.assigns) (map zeroed_word items.words)) items.redirects
zeroed_simple_of at items = zeroed_redirected_of at (c.Simple at items.assigns items.words) items.redirects ∙ ap (λ x. redirected 0 x items.redirects) (zeroed_simple at items.assigns items.words)

-- ---- the text of a word

abbrev Seen : Type 0
Seen = o.Part-F Command Part Assign CaseArm IfArm Link Word

part_by : (r : Seen) (p : Part) → out-Part p ≡ r → zeroed_part p ≡ zeroed_part (roll-Part r)
part_by r p e = ap zeroed_part (sym (roll-out-Part p) ∙ ap roll-Part e)

text_seen : (r : Seen) (p : Part) → out-Part p ≡ r → plain_text (out-Part (zeroed_part p)) ≡ plain_text r
text_seen (o.Plain w) p e =
    ap (λ p. plain_text (out-Part p)) (part_by (o.Plain w) p e ∙ fold-roll-Part Command Part Assign CaseArm IfArm Link Word command_layer part_layer assign_layer case_arm_layer if_arm_layer link_layer word_layer (o.Plain w))
    ∙ ap plain_text (ap out-Part (sym (part.rolls-Plain w)) ∙ out-roll-Part (o.Plain w))
text_seen (o.Quoted w) p e =
    ap (λ p. plain_text (out-Part p)) (part_by (o.Quoted w) p e ∙ fold-roll-Part Command Part Assign CaseArm IfArm Link Word command_layer part_layer assign_layer case_arm_layer if_arm_layer link_layer word_layer (o.Quoted w))
    ∙ ap plain_text (ap out-Part (sym (part.rolls-Quoted w)) ∙ out-roll-Part (o.Quoted w))
text_seen (o.Param key default quoted) p e =
    ap (λ p. plain_text (out-Part p)) (part_by (o.Param key default quoted) p e ∙ fold-roll-Part Command Part Assign CaseArm IfArm Link Word command_layer part_layer assign_layer case_arm_layer if_arm_layer link_layer word_layer (o.Param key default quoted))
    ∙ ap plain_text (ap out-Part (sym (part.rolls-Param key default quoted)) ∙ out-roll-Part (o.Param key default quoted))
text_seen o.All p e =
    ap (λ p. plain_text (out-Part p)) (part_by o.All p e ∙ fold-roll-Part Command Part Assign CaseArm IfArm Link Word command_layer part_layer assign_layer case_arm_layer if_arm_layer link_layer word_layer o.All)
    ∙ ap plain_text (ap out-Part (sym part.rolls-All) ∙ out-roll-Part o.All)
text_seen (o.Run at body quoted) p e =
    ap (λ p. plain_text (out-Part p)) (part_by (o.Run at body quoted) p e ∙ fold-roll-Part Command Part Assign CaseArm IfArm Link Word command_layer part_layer assign_layer case_arm_layer if_arm_layer link_layer word_layer (o.Run at body quoted))
    ∙ ap plain_text (ap out-Part (sym (part.rolls-Run 0 (zeroed body) quoted)) ∙ out-roll-Part (o.Run 0 (zeroed body) quoted))

first_text_zeroed : (ps : List Part) → first_text (map zeroed_part ps) ≡ first_text ps
first_text_zeroed [] = refl
first_text_zeroed (p ∷ ps) = text_seen (out-Part p) p refl

pub word_text_zeroed : (w : Word) → word_text (zeroed_word w) ≡ word_text w
word_text_zeroed w = ap word_text (zeroed_word_of w) ∙ first_text_zeroed w.parts

-- ---- assignments

plain_part_zeroed : (t : Text) → map zeroed_part (plain_part_of t) ≡ plain_part_of t
plain_part_zeroed [] = refl
plain_part_zeroed (b ∷ t) = ap (λ p. p ∷ []) (zeroed_plain (b ∷ t))

rest_zeroed : (ps : List Part) → map zeroed_part (rest_of ps) ≡ rest_of (map zeroed_part ps)
rest_zeroed [] = refl
rest_zeroed (p ∷ ps) = refl

append_zeroed : (ps qs : List Part) → map zeroed_part (ps ++ qs) ≡ map zeroed_part ps ++ map zeroed_part qs
append_zeroed [] qs = refl
append_zeroed (p ∷ ps) qs = ap (λ (ps : List Part). zeroed_part p ∷ ps) (append_zeroed ps qs)

abbrev assign_of : Text → List Part → Assign
assign_of name parts = roll-Assign (record { name = name; value = word_at 0 parts })

pub assigned_zeroed : (w : Word) → zeroed_assign (assigned w) ≡ assigned (zeroed_word w)
assigned_zeroed w =
    let t = word_text w in
    let ps = plain_part_of (behind_equals t) ++ rest_of w.parts in
    zeroed_the_assign (up_to_equals t) (word_at w.at ps)
    ∙ ap (λ v. roll-Assign (record { name = up_to_equals t; value = v })) (zeroed_the_word w.at ps)
    ∙ ap (assign_of (up_to_equals t)) (append_zeroed (plain_part_of (behind_equals t)) (rest_of w.parts)
    ∙ ap (λ (qs : List Part). qs ++ map zeroed_part (rest_of w.parts)) (plain_part_zeroed (behind_equals t))
    ∙ ap (λ (qs : List Part). plain_part_of (behind_equals t) ++ qs) (rest_zeroed w.parts))
    ∙ ap (λ t. assign_of (up_to_equals t) (plain_part_of (behind_equals t) ++ rest_of (map zeroed_part w.parts))) (sym (first_text_zeroed w.parts))
    ∙ ap assigned (sym (zeroed_word_of w))
