-- Lines that are added to a text, part by part and tree by tree.
use Rattle.std.proofs.Common.{◌≡◌, ℕ, ◌+◌, ◌<◌, zero, suc, List, [], ◌∷◌, ◌++◌, length, drop, get_or, Option, refl, sym, subst, ap, ap₂, ◌∙◌, arith}
use Rattle.std.proofs.Math.Seq.{drop-cons}
use Rattle.std.proofs.lemmas.List.{append-nil, append_assoc, drop_all}
use Rattle.outcome_report.specs.declared.outcome_report.ReportEntry.{ReportEntry}
use Rattle.outcome_report.specs.declared.outcome_report.ReportPart.{ReportPart}
use Rattle.tree_predictions.specs.declared.named_tree.NamedTree.{NamedTree}
use Rattle.prediction_text.specs.Adding.{AddsPart, AddsParts}
use Rattle.prediction_text.specs.PredictionText.{TellsPart, TellsParts, tree_line, tree_lines}

-- one part more
tells_more : (trees : List NamedTree) (parts : List ReportPart) (part : ReportPart) (text more : List ℕ) → TellsParts trees parts text → TellsPart trees part more
    → TellsParts trees (parts ++ part ∷ []) (text ++ more)
tells_more trees [] part text more none here = (more, [], here, refl, ap (λ t. t ++ more) none ∙ sym (append-nil more))
tells_more trees (p ∷ parts) part text more tells here =
    (tells.0, tells.1 ++ more, tells.2, tells_more trees parts part tells.1 more tells.3 here, ap (λ t. t ++ more) tells.4 ∙ append_assoc tells.0 tells.1 more)

pub none_added : (trees : List NamedTree) (text : List ℕ) → AddsParts trees [] text text
none_added trees text = record { lines = []; tells = refl; adds = sym (append-nil text) }

pub part_added : (trees : List NamedTree) (parts : List ReportPart) (part : ReportPart) (old text new : List ℕ) → AddsParts trees parts old text
    → AddsPart trees part text new → AddsParts trees (parts ++ part ∷ []) old new
part_added trees parts part old text new before here = record {
  lines = before.lines ++ here.lines;
  tells = tells_more trees parts part before.lines here.lines before.tells here.tells;
  adds = here.adds ∙ ap (λ t. t ++ here.lines) before.adds ∙ append_assoc old before.lines here.lines;
}

-- one tree more
pub line_added : (entries : List ReportEntry) (trees : List NamedTree) (picks : List (Option ℕ)) (i : ℕ) (one : NamedTree) (pick : Option ℕ) (text more : List ℕ)
    → i < length trees → i < length picks → one ≡ get_or trees i one → pick ≡ get_or picks i pick → more ≡ text ++ tree_line entries one.name pick
    → more ++ tree_lines entries (drop (i + 1) trees) (drop (i + 1) picks) ≡ text ++ tree_lines entries (drop i trees) (drop i picks)
line_added entries trees picks i one pick text more lt under is are e =
    ap₂ (λ t k. t ++ tree_lines entries (drop k trees) (drop k picks)) e (sym (add_one i))
    ∙ append_assoc text (tree_line entries one.name pick) (tree_lines entries (drop (suc i) trees) (drop (suc i) picks))
    ∙ ap (λ ls. text ++ ls) (sym (ap₂ (tree_lines entries) (drop-cons trees i one lt ∙ ap (λ t. t ∷ drop (suc i) trees) (sym is)) (drop-cons picks i pick under ∙ ap (λ p. p ∷ drop (suc i) picks) (sym are))))
  where
    add_one : (i : ℕ) → suc i ≡ i + 1
    add_one i = omega arith

pub no_lines : (entries : List ReportEntry) (trees : List NamedTree) (picks : List (Option ℕ)) → tree_lines entries (drop (length trees) trees) picks ≡ []
no_lines entries trees picks = ap (λ ts. tree_lines entries ts picks) (drop_all (length trees) trees (omega arith))
