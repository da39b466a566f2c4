-- `number` meets its contract: the digits are the fewest.
use mathlib.Core.Path.{◌∙◌}
use Rattle.base_text.proofs.Spelling.{spelled}
use Rattle.base_text.proofs.Text.number.Goals as goal

pub returns : goal.returns
returns c =
    rw (c.decimal-k.ensures.digits
    ∙ spelled c.decimal-k.result c.args.n
    c.decimal-k.ensures.len) at c.words.ensures
