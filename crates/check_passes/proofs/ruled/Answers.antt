-- `ruled` meets its contract: refusal 7, and 8 where it is not given, and where neither is what the pass for 7 tells of
-- owners. Assumes nothing.
use mathlib.Core.Path.{◌≡◌, refl}
use borrow.Author.Rules.{rules}
use Rattle.std.specs.Prelude.{Err}
use Rattle.check_passes.proofs.Results.{reason_given}
use Rattle.check_passes.proofs.Untouched.{seven, eight, neither}
use Rattle.check_passes.proofs.AnyColumns.{rules_first, rules_second, rules_neither}
use Rattle.check_passes.proofs.AnyColumns.{sources_refused, sources_resolved}
use Rattle.check_passes.proofs.Columns.{signals_given, waits_given}
use Rattle.check_passes.proofs.ruled.Goals as goal

pub returns-in_err-owned : goal.returns-in_err-owned
returns-in_err-owned g c =
    let same : c.from_residual.result ≡ Err c.in_err-owned.field-0.0 = search rules in
    let given_is = reason_given c.in_err-owned.field-0.0.reason in
    let first = rw c.requires.enough at c.in_err-owned.ensures.told in
    rw same (record {
      told = rules_first _ _ _ _ _ _ _ _ first given_is;
      sources = sources_refused _ _ _ _ _ _ _ _ first given_is;
      of_plans = λ p given. seven (c.in_err-owned.ensures.of_plans p (rw c.requires.enough (signals_given given)))
          given_is;
    })

pub returns-in_err-resolve : goal.returns-in_err-resolve
returns-in_err-resolve g c =
    let same : c.from_residual-in_err-resolve.result ≡ Err c.in_err-resolve.field-0.0 = search rules in
    let given_is = reason_given c.in_err-resolve.field-0.0.reason in
    let first = rw c.requires.enough at c.in_ok-owned.ensures.told in
    let lasts = rw c.requires.enough at c.in_ok-owned.ensures.lasts in
    rw same (record {
      told = rules_second _ _ _ _ _ _ _ _ first refl lasts c.in_err-resolve.ensures.told given_is;
      sources = sources_resolved _ _ _ _ _ _ _ _ first refl lasts c.in_err-resolve.ensures.told
          c.in_err-resolve.ensures.left;
      of_plans = λ p given.
          let judged = c.in_ok-owned.ensures.of_plans p (rw c.requires.enough (signals_given given)) in
          eight judged refl refl (c.in_err-resolve.ensures.of_plans p (waits_given given judged refl)) given_is;
    })

pub returns : goal.returns
returns g c =
    let first = rw c.requires.enough at c.in_ok-owned.ensures.told in
    let lasts = rw c.requires.enough at c.in_ok-owned.ensures.lasts in
    record {
      told = rules_neither _ _ _ _ _ _ _ _ first refl lasts c.in_ok-resolve.ensures.told refl;
      sources = sources_resolved _ _ _ _ _ _ _ _ first refl lasts c.in_ok-resolve.ensures.told
          c.in_ok-resolve.ensures.left;
      of_plans = λ p given.
          let judged = c.in_ok-owned.ensures.of_plans p (rw c.requires.enough (signals_given given)) in
          neither judged refl refl (c.in_ok-resolve.ensures.of_plans p (waits_given given judged refl)) refl;
    }
