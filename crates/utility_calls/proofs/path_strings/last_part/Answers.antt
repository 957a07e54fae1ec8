use Rattle.std.proofs.Common.{List, ℕ, [], Option, sym, ap, ◌∙◌, rules, tests}
use Rattle.std.specs.Option.{option_map, option_map_or}
use Rattle.std.proofs.lemmas.Iterator.Splits.{YieldsList-from_slice_split}
use Rattle.script_names.specs.Paths.{is_slash}
use Rattle.script_names.proofs.Parts.{last_from_yields}
use Rattle.utility_calls.proofs.path_strings.last_part.Goals as goal

pub returns-in-Some : goal.returns-in-Some
returns-in-Some c =
    ap (λ (o : Option (List ℕ)). option_map_or (λ part. part) o [])
    (ap (option_map (λ part. part.now)) (sym c.in-Some.is)
    ∙ last_from_yields _ c.last-last.ensures.ran
    (YieldsList-from_slice_split _ is_slash c.args.word.now c.split.ensures.rest c.split.ensures.done c.split.ensures.closure (λ x r q k. search (rules, tests))))
