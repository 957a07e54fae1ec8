use Rattle.std.proofs.Common.{◌+◌, length, sym, ap, ◌∙◌, subst}
use Rattle.std.specs.Prelude.{All}
use Rattle.std.proofs.lemmas.List.{take_rest}
use Rattle.std.proofs.lemmas.List.Elements.{All-take, All-drop}
use Rattle.tree_clauses.specs.declared.case.Case.{Case}
use Rattle.tree_clauses.specs.Plain.{IsPlainFrom}
use Rattle.case_paths.specs.Steps.{Forked}
use Rattle.case_paths.proofs.Forking.{forks_joined, led_at, plain_at}
use Rattle.case_paths.proofs.fork.fork.Goals as goal

pub place-at-requires : goal.place-at-requires
place-at-requires c = c.requires.led.has

pub siblings-requires : goal.siblings-requires
siblings-requires c = record {
  plain = All-take (IsPlainFrom (length c.args.given.now)) c.place-at.result c.args.cases.now c.requires.plain;
  few = c.requires.few;
  inside = c.requires.inside;
  counted = c.requires.counted;
}

pub siblings-requires-2 : goal.siblings-requires-2
siblings-requires-2 c = record {
  plain = subst (All (IsPlainFrom (length c.args.given.now))) (sym (take_rest c.args.cases.now (c.place-at.result + 1)))
      (All-drop (IsPlainFrom (length c.args.given.now)) (c.place-at.result + 1) c.args.cases.now c.requires.plain);
  few = c.requires.few;
  inside = c.requires.inside;
  counted = c.requires.counted;
}

pub gone_on-requires : goal.gone_on-requires
gone_on-requires c = record {
  plain = plain_at c.args.given.now c.args.cases.now c.place-at.result c.index-cases-at.result c.place-at.ensures.0 c.index-cases-at.is c.requires.plain;
  few = c.requires.few;
  inside = c.requires.inside;
  counted = c.requires.counted;
  leads = led_at c.args.given.now c.args.state c.args.cases.now c.args.mark.row c.place-at.result c.index-cases-at.result c.index-cases-at.is c.place-at.ensures c.requires.led;
}

pub returns : goal.returns
returns c =
    forks_joined c.args.mark c.args.given.now c.args.state c.args.cases.now c.place-at.result c.index-cases-at.result c.in_ok-lower.lower c.in_ok-higher.higher c.in_ok-followed.followed
    c.place-at.ensures.0 c.index-cases-at.is (ap (λ (made : Case). made.row) c.index-cases-at.is ∙ c.place-at.ensures.1 c.index-cases-at.result) c.in_ok-lower.ensures
    (subst (λ l. Forked c.args.given.now c.args.mark.site c.args.state l c.in_ok-higher.higher) (take_rest c.args.cases.now (c.place-at.result + 1)) c.in_ok-higher.ensures)
    c.in_ok-followed.ensures.adds c.in_ok-followed.ensures.goes
