-- `leave::results` meets its contract: on a refusal zeros are over the front of both. Assumes nothing.
use Rattle.std.proofs.Common.{rules, ◌≡◌, ℕ, ◌*◌, ◌++◌}
use mathlib.Core.Path.{◌∙◌}
use Rattle.base_lists.proofs.Tests.{clash}
use lib.ListN.{drop, replicate}
use Rattle.check_passes.proofs.Zeroed.{zeroed}
use Rattle.check_passes.proofs.leave.results.Goals as goal

pub returns-else-passed : goal.returns-else-passed
returns-else-passed c =
    let table = c.args.table.now in
    let list = c.args.list.now in
    let a = 16 * c.from-many.result in
    let b = 2 * c.from-many.result in
    let rows_zero : c.fill.new.self ++ drop a table ≡ replicate {A = ℕ} a 0 ++ drop a table = search rules in
    let list_zero : c.fill-else-passed.new.self ++ drop b list ≡ replicate {A = ℕ} b 0 ++ drop b list = search rules in
    record {
      long = λ t. clash c.args.passed t c.if-passed.false;
      passed_table = λ t. clash c.args.passed t c.if-passed.false;
      passed_list = λ t. clash c.args.passed t c.if-passed.false;
      refused_table = λ f. rows_zero ∙ rw c.from-many.ensures (zeroed (16 * c.args.n) table);
      refused_list = λ f. list_zero ∙ rw c.from-many.ensures (zeroed (2 * c.args.n) list);
    }
