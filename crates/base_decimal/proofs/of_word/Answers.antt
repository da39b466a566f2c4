-- `of_word` meets its contract: what has been read are the first digits.
use Rattle.std.proofs.Common.{arith, rules, sym, ◌∙◌}
use Rattle.base_decimal.proofs.Decimals.{reads_none, reads_more, word_none, word_other, word_large}
use Rattle.base_decimal.proofs.Decimals.{word_over, word_number}
use Rattle.base_decimal.proofs.of_word.Goals as goal

pub returns-then-is_empty : goal.returns-then-is_empty
returns-then-is_empty c = word_none _ _ (search rules)

pub loop-b-init : goal.loop-b-init
loop-b-init c = reads_none _

pub returns-in_default : goal.returns-in_default
returns-in_default c =
    word_other _ c.args.text.now c.loop-b.b-index c.loop-b-test.true (sym c.in_default.is ∙ c.digit.ensures)

pub loop-b-preserved : goal.loop-b-preserved
loop-b-preserved c =
    reads_more c.args.text.now c.loop-b.b-index _ _ c.in-Some.unit c.loop-b-test.true
    (sym c.in-Some.is ∙ c.digit.ensures) c.loop-b.invariant c.more-digits.ensures

pub returns-in-Some-digits : goal.returns-in-Some-digits
returns-in-Some-digits c =
    word_number _ c.args.text.now c.loop-b.b-index _ (search rules) c.loop-b-test.false c.loop-b.invariant
    (omega arith) _ c.in-Some-digits.is c.if-value-limit.true

pub returns-in_default-digits : goal.returns-in_default-digits
returns-in_default-digits c =
    word_over _ c.args.text.now c.loop-b.b-index _ (search rules) c.loop-b-test.false c.loop-b.invariant
    (omega arith) _ c.in-Some-digits.is (omega arith)

pub returns-in_default-digits-2 : goal.returns-in_default-digits-2
returns-in_default-digits-2 c =
    word_large _ c.args.text.now c.loop-b.b-index _ (search rules) c.loop-b-test.false c.loop-b.invariant
    (omega arith) c.in_default-digits.is
