-- `counts` meets its contract: the counts that are loaded. Assumes nothing.
use Rattle.std.proofs.Common.{rules, ◌≡◌}
use Rattle.std.proofs.lemmas.Result.{err_from_is_err_and}
use Rattle.std.specs.Prelude.{Err}
use Rattle.check_plan.proofs.Columns.{head_known, head_loads, no_columns, loaded_counts, refused_counts}
use Rattle.check_plan.proofs.counts.Goals as goal

pub returns-in_err-h : goal.returns-in_err-h
returns-in_err-h c =
    let gone = err_from_is_err_and c.from_residual.result c.from_residual.ensures.1 in
    rw (gone.1, gone.2) (refused_counts (head_loads c.in_err-h.field-0.0 c.in_err-h.ensures.means no_columns))

pub returns-in_err-loaded : goal.returns-in_err-loaded
returns-in_err-loaded c =
    let gone : c.from_residual-in_err-loaded.result ≡ Err c.in_err-loaded.field-0.0 = search rules in
    rw gone (refused_counts (c.in_err-loaded.ensures _ (head_known c.in_ok-h.ensures.form c.in_ok-h.ensures.means)).0)

pub returns : goal.returns
returns c =
    rw c.sizes.ensures
    (loaded_counts (c.in_ok-loaded.ensures _ (head_known c.in_ok-h.ensures.form c.in_ok-h.ensures.means)).0)
