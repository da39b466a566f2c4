-- `sections` meets its contract: the operations after what comes before them, or a refusal there.
use Rattle.std.proofs.Common.{rules, ◌≡◌, arith}
use Rattle.std.specs.Prelude.{Err}
use native.Mathlib.Nat.{mul-le-mul_left}
use Rattle.plan_format.specs.Sizes.{block_numbers}
use Rattle.plan_format.specs.Form.{form_by}
use Rattle.stored_numbers.specs.Reading.{form_numbers}
use Rattle.stored_numbers.proofs.Wholes.{plan_read, head_refused}
use Rattle.stored_numbers.proofs.reader.Reader.sections.Goals as goal

pub head-requires-clause-room : goal.head-requires-clause-room
unfolding form_numbers
head-requires-clause-room c =
    omega (arith, c.requires.room)

pub returns-in_err-counts-clause-reads : goal.returns-in_err-counts-clause-reads
returns-in_err-counts-clause-reads c =
    let gone : c.from_residual.result ≡ Err c.in_err-counts.field-0.0 = search rules in
    head_refused (form_by c.args.wide) gone c.in_err-counts.ensures.reads

pub several-requires : goal.several-requires
unfolding form_numbers
several-requires c =
    omega (
      arith,
      c.requires.room,
      c.in_ok-counts.ensures.reads.few,
      c.in_ok-counts.ensures.reads.past.as_long,
      mul-le-mul_left block_numbers c.in_ok-counts.ensures.reads.means.few_operations,
    )

pub returns-clause-reads : goal.returns-clause-reads
returns-clause-reads c =
    plan_read (form_by c.args.wide) c.in_ok-counts.ensures.reads c.several.ensures.reads
