use mathlib.Core.Path.{sym}
use native.Mathlib.Omega.{arith}
use Rattle.theory.specs.Losses.{few_fine, one_fine, no_rule, over_lost, one_lost}
use Rattle.tables.proofs.board.check_rule.Goals as goal

pub returns-then-lost-eq0 : goal.returns-then-lost-eq0
returns-then-lost-eq0 c = sym (one_fine _ c.if-rule-eq-WHOLE.true c.if-lost-eq0.true)

pub returns-then-rule-eq-WHOLE : goal.returns-then-rule-eq-WHOLE
returns-then-rule-eq-WHOLE c = sym (one_lost _ c.if-rule-eq-WHOLE.true (omega (arith, c.if-lost-eq0.false)))

pub returns-then-rule-ne-LOSING : goal.returns-then-rule-ne-LOSING
returns-then-rule-ne-LOSING c = sym (no_rule _ c.if-rule-eq-WHOLE.false c.if-rule-ne-LOSING.true)

pub returns-then-lost-gt-MOST_LOST : goal.returns-then-lost-gt-MOST_LOST
returns-then-lost-gt-MOST_LOST c = sym (over_lost _ c.if-lost-gt-MOST_LOST.true)

pub returns : goal.returns
returns c = sym (few_fine _ (omega (arith, c.if-lost-gt-MOST_LOST.false)) c.if-rule-ne-LOSING.false)
