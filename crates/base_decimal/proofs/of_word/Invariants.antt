-- `of_word` meets its contract: what has been read are the first digits.
use Rattle.base_decimal.proofs.Decimals.{DigitsRead}
use Rattle.base_decimal.proofs.of_word.Given as goal

abbrev pub invariant-loop-b : goal.invariant-loop-b
invariant-loop-b l = DigitsRead l.text l.b-index l.digits
