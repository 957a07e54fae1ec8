use Rattle.std.proofs.Common.{◌≡◌, ℕ, Bool, true, false, List, [], ◌∷◌, ◌++◌, length, map, Some, None, Bor, refl, sym, ap, ◌∙◌, arith}
use Rattle.std.proofs.lemmas.Bool.{ne_eqb}
use Rattle.std.specs.Prelude.{◌==◌, not, if◌then◌else◌}
use Rattle.script_names.specs.Paths.{is_filled}
use Rattle.shown_texts.specs.Parts.{parts}
use Rattle.shown_texts.specs.Lines.{but_last, lines_of}
use Rattle.shown_texts.proofs.LineTexts.{but_last_more}
use Rattle.shown_texts.proofs.lines.read_lines.Goals as goal

abbrev texts : List (Bor (List ℕ)) → List (List ℕ)
texts xs = map (λ line. line.now) xs

texts_more : (xs : List (Bor (List ℕ))) (last : Bor (List ℕ)) → texts (xs ++ last ∷ []) ≡ texts xs ++ last.now ∷ []
texts_more [] last = refl
texts_more (x ∷ xs) last = ap (λ l. x.now ∷ l) (texts_more xs last)

filled : (xs : List ℕ) (b : Bool) → b ≡ (length xs == 0) → is_filled xs ≡ not b
filled [] b e = sym (ap not e)
filled (x ∷ xs) b e = sym (ap not (e ∙ ne_eqb (length (x ∷ xs)) 0 (λ z. omega (arith, z))))

popped : (all rest : List (Bor (List ℕ))) (last : Bor (List ℕ)) (text : List ℕ) (b : Bool) → texts all ≡ parts 10 text → all ≡ rest ++ last ∷ []
    → b ≡ (length last.now == 0) → lines_of text ≡ (if not b then None else Some (texts rest))
popped all rest last text b cut pop e =
    ap but_last (sym cut) ∙ ap (λ l. but_last (texts l)) pop ∙ ap but_last (texts_more rest last) ∙ but_last_more (texts rest) last.now
    ∙ ap (λ t. if t then None else Some (texts rest)) (filled last.now b e)

pub returns-then-is_empty : goal.returns-then-is_empty
returns-then-is_empty c =
    sym (popped c.in_ok-lines.lines.items c.pop.new.self.items c.in-Some.last c.args.text.now true c.in_ok-lines.ensures c.in-Some.ensures.items c.if-is_empty.ensures)

pub returns : goal.returns
returns c =
    sym (popped c.in_ok-lines.lines.items c.pop.new.self.items c.in-Some.last c.args.text.now false c.in_ok-lines.ensures c.in-Some.ensures.items c.if-is_empty.ensures)
