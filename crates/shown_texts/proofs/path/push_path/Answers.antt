use Rattle.std.proofs.Common.{◌≡◌, ℕ, List, [], ◌∷◌, ◌++◌, length, false, sym, ap, ◌∙◌}
use Rattle.std.specs.Prelude.{◌==◌}
use Rattle.std.specs.List.{flat_map}
use Rattle.shown_texts.specs.Paths.{after_slash, path_text}
use Rattle.shown_texts.proofs.PathTexts.{slashes_joined}
use Rattle.shown_texts.proofs.path.push_path.Goals as goal

ends : (text new : List ℕ) (names : List (List ℕ)) → (length names == 0) ≡ false → new ≡ text ++ flat_map after_slash names → new ≡ text ++ path_text names
ends text new [] some is = cc
ends text new (name ∷ names) some is = is ∙ ap (λ l. text ++ l) (slashes_joined name names)

pub returns-in-Ok-clause-ok : goal.returns-in-Ok-clause-ok
returns-in-Ok-clause-ok c = ends c.args.text.now c.push_names.new.text c.args.names.now (sym c.if-is_empty.ensures) c.in-Ok.ensures.ok
