use Rattle.std.proofs.Common.{length, ap, inl, inr, arith, rules}
use Rattle.std.proofs.lemmas.List.{take_rest, length-drop}
use Rattle.shell_words.proofs.Matching.{run-whole, run-never, run-later-only, run-later-enough, run-star-only, run-star-enough}
use Rattle.shell_words.proofs.run.run.Goals.{then-not-behind_star-via-then-not-behind_star, then-not-behind_star-via-else-not-behind_star+then-at-subject}
use Rattle.shell_words.proofs.run.run.Goals as goal

pub returns-in-Whole : goal.returns-in-Whole
returns-in-Whole c =
    (λ _. run-whole c.args.items.now c.args.subject.now c.tries.from c.tries.at c.tries.behind_star c.tries.invariant.enough c.in-Whole.ensures, λ _. search rules)

pub tries-preserved-in-UpToStar : goal.tries-preserved-in-UpToStar
tries-preserved-in-UpToStar c =
    let items = c.args.items.now in
    let text = c.args.subject.now in
    let e = c.in-UpToStar.ensures in
    record {
      items_within = omega (arith, e.1, ap length (take_rest items c.tries.from), length-drop c.tries.from items);
      text_within = omega (arith, e.2, ap length (take_rest text c.tries.at), length-drop c.tries.at text, c.tries.invariant.text_within);
      only = run-star-only items text c.tries.from c.tries.at c.tries.behind_star c.in-UpToStar.n e.0 e.3 e.4 c.tries.invariant.only;
      enough = run-star-enough items text c.tries.from c.tries.at c.tries.behind_star c.in-UpToStar.n e.0 e.3 e.4 c.tries.invariant.enough;
    }

pub returns-then-not-behind_star : goal.returns-then-not-behind_star
returns-then-not-behind_star c =
    let never = run-never c.args.items.now c.args.subject.now c.tries.from c.tries.at c.tries.behind_star c.tries.invariant.only c.in-Nowhere.ensures in
    elim c.then-not-behind_star.branch [
      | then-not-behind_star-via-then-not-behind_star w ↦ (λ h. absurd (cc h), λ m. absurd (never (inl w.if-not-behind_star.true) m))
      | then-not-behind_star-via-else-not-behind_star+then-at-subject w ↦ (λ h. absurd (cc h), λ m. absurd (never (inr w.if-at-subject.true) m))
    ]

pub tries-preserved : goal.tries-preserved
tries-preserved c =
    let items = c.args.items.now in
    let text = c.args.subject.now in
    record {
      items_within = c.tries.invariant.items_within;
      text_within = omega (arith, c.if-at-subject.false, c.tries.invariant.text_within);
      only = run-later-only items text c.tries.from c.tries.at c.tries.behind_star c.tries.invariant.only c.in-Nowhere.ensures c.if-not-behind_star.false;
      enough = run-later-enough items text c.tries.from c.tries.at c.tries.behind_star c.tries.invariant.enough c.if-not-behind_star.false;
    }
